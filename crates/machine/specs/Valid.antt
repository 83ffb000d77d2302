-- The invariant: what holds of every state that comes from a setup through the calls. It is stated as a test that computes, its clauses in
-- the order in which an image of a state would be tested, and as facts by name; `valid_facts` and `facts_valid` (proofs/Invariant)
-- show that the two say the same.
-- Assumes nothing.
use Rattle.std.specs.Prelude.{ℕ, ◌*◌, ◌/◌, ◌%◌, ◌^◌, ◌≤◌, ◌<◌, ◌≡◌, Bool, true, false, not, ◌&&◌, ◌||◌, List, [], ◌∷◌, Option, None, Some, eqb, leb, ltb, length}
use Rattle.mctp.specs.Setup.{first_eid, last_eid, least_unit, most_unit}
use Rattle.nvme_mi.specs.Message.{smallest}
use Rattle.machine.specs.State.{World, is_idle, held_in}
use Rattle.machine.specs.Wire.{store_size}
use Rattle.machine.specs.Receive.{gathers}
use Rattle.machine.specs.Poll.{other_slot}
use Rattle.machine.specs.Types.{Assembly, Request, Response, Outgoing, Phase, Idle, Receive, Process, Answered, Transmit, Slot, Reply, Endpoint}

-- ---- as a test

-- the smallest response: header, four bytes, check
abbrev pub smallest_response : ℕ
smallest_response = 12

abbrev pub between : ℕ → ℕ → ℕ → Bool
between low high n = leb low n && leb n high

-- a value for each phase
abbrev pub phased : {A : Type 0} → A → (Assembly → A) → (Request → A) → (Response → A) → (Outgoing → A) → Phase → A
phased i r p a t (Idle k) = i
phased i r p a t (Receive x) = r x
phased i r p a t (Process x) = p x
phased i r p a t (Answered x) = a x
phased i r p a t (Transmit x) = t x

-- no pause flag on an Idle slot
abbrev pub unpaused_idle : Slot → Bool
unpaused_idle s = not (is_idle s.phase && s.paused)

-- a command that is being gathered has full payloads alone, one at least, and fits its store
abbrev pub gathered_fits : ℕ → Phase → Bool
gathered_fits unit = phased true (λ a. between unit store_size a.length && eqb (a.length % unit) 0) (λ r. true) (λ r. true) (λ r. true)

-- not the same source and tag as an assembly in the other slot
abbrev pub apart : Phase → Phase → Bool
apart p q = phased true (λ b. not (gathers b.source b.tag p)) (λ r. true) (λ r. true) (λ r. true) q

-- a response in Transmit has a packet left
abbrev pub packet_left : ℕ → Phase → Bool
packet_left unit = phased true (λ a. true) (λ r. true) (λ r. true) (λ r. ltb (unit * r.sent) r.response.length)

-- what is held fits its store
abbrev pub held_fits : Option Response → Bool
held_fits None = true
held_fits (Some r) = between smallest_response store_size r.length

-- the request fits its store, and so does the response, also one that is held
abbrev pub message_fits : Phase → Bool
message_fits p =
    phased (held_fits (held_in p)) (λ a. true) (λ r. between smallest store_size r.length) (λ r. between smallest_response store_size r.length)
    (λ r. between smallest_response store_size r.response.length) p

-- a response waits in Process only while its own flag is set
abbrev pub waits_paused : Slot → Bool
waits_paused s = phased true (λ a. true) (λ r. true) (λ r. s.paused) (λ r. true) s.phase

-- a response of which a packet went
abbrev pub is_begun : Phase → Bool
is_begun = phased false (λ a. false) (λ r. false) (λ r. false) (λ r. ltb 0 r.sent)

-- where slot i's response is begun, the other slot goes first next
abbrev pub begun_turn : ℕ → ℕ → Phase → Bool
begun_turn turn i p = not (is_begun p) || eqb turn (other_slot i)

-- a control reply has twelve bytes
abbrev pub reply_fits : Option Reply → Bool
reply_fits None = true
reply_fits (Some r) = eqb (length r.message) 12

-- bits 4 to 12 and 14 alone
abbrev pub flags_right : ℕ → Bool
flags_right f = eqb (f % 2 ^ 4) 0 && eqb (f / 2 ^ 13 % 2) 0 && eqb (f / 2 ^ 15) 0

abbrev pub all_of : List Bool → Bool
all_of [] = true
all_of (b ∷ bs) = b && all_of bs

-- of a state with slots s and t
abbrev pub clauses : Endpoint → Slot → Slot → List Bool
clauses e s t =
    between first_eid last_eid e.eid
    ∷ between least_unit most_unit e.unit
    ∷ leb e.turn 1
    ∷ (unpaused_idle s && unpaused_idle t)
    ∷ (gathered_fits e.unit s.phase && gathered_fits e.unit t.phase)
    ∷ apart s.phase t.phase
    ∷ (packet_left e.unit s.phase && packet_left e.unit t.phase)
    ∷ (message_fits s.phase && message_fits t.phase)
    ∷ (waits_paused s && waits_paused t)
    ∷ (begun_turn e.turn 0 s.phase && begun_turn e.turn 1 t.phase)
    ∷ flags_right e.flags
    ∷ reply_fits e.reply
    ∷ []

abbrev pub valid_with : Endpoint → List Slot → Bool
valid_with e [] = false
valid_with e (s ∷ []) = false
valid_with e (s ∷ t ∷ []) = all_of (clauses e s t)
valid_with e (s ∷ t ∷ u ∷ l) = false

-- two slots, and all clauses
unfoldable pub valid : Endpoint → Bool
valid e = valid_with e e.slots

-- ---- as facts

-- a response of this length at the front of a store
pub record Fits (r : Response) : Type 0 where
  pub least : smallest_response ≤ r.length
  pub most : r.length ≤ store_size

abbrev pub HeldFacts : Option Response → Type 0
HeldFacts None = Unit {0}
HeldFacts (Some r) = Fits r

-- what a slot's phase promises, with the endpoint's unit and the slot's pause flag
abbrev pub PhaseFacts : ℕ → Bool → Phase → Type 0
PhaseFacts unit paused (Idle k) = (paused ≡ false) × HeldFacts k
PhaseFacts unit paused (Receive a) = (unit ≤ a.length) × (a.length ≤ store_size) × (a.length % unit ≡ 0)
PhaseFacts unit paused (Process r) = (smallest ≤ r.length) × (r.length ≤ store_size)
PhaseFacts unit paused (Answered r) = (paused ≡ true) × Fits r
PhaseFacts unit paused (Transmit r) = (unit * r.sent < r.response.length) × Fits r.response

pub record ValidSlot (unit turn i : ℕ) (s : Slot) : Type 0 where
  pub phase_facts : PhaseFacts unit s.paused s.phase
  pub begun_goes_on : is_begun s.phase ≡ true → turn ≡ other_slot i

pub data ValidSlots (unit turn : ℕ) : List Slot → Type 0 where
  two : {s t : Slot} → ValidSlot unit turn 0 s → ValidSlot unit turn 1 t → apart s.phase t.phase ≡ true → ValidSlots unit turn (s ∷ t ∷ [])

pub record ValidFlags (f : ℕ) : Type 0 where
  pub low : f % 2 ^ 4 ≡ 0
  pub thirteen : f / 2 ^ 13 % 2 ≡ 0
  pub top : f / 2 ^ 15 ≡ 0

-- the EID, the unit, and the slot that goes first
pub record ValidNumbers (eid unit turn : ℕ) : Type 0 where
  pub eid_least : first_eid ≤ eid
  pub eid_most : eid ≤ last_eid
  pub unit_least : least_unit ≤ unit
  pub unit_most : unit ≤ most_unit
  pub turn_most : turn ≤ 1

abbrev pub ReplyFacts : Option Reply → Type 0
ReplyFacts None = Unit {0}
ReplyFacts (Some r) = length r.message ≡ 12

pub record Valid (e : Endpoint) : Type 0 where
  pub numbers : ValidNumbers e.eid e.unit e.turn
  pub slots_valid : ValidSlots e.unit e.turn e.slots
  pub flags_valid : ValidFlags e.flags
  pub reply_twelve : ReplyFacts e.reply

-- ---- with both stores, of the length that is asked for

pub record Sound (w : World) : Type 0 where
  pub state : Valid w.endpoint
  pub size0 : length w.store0 ≡ store_size
  pub size1 : length w.store1 ≡ store_size
