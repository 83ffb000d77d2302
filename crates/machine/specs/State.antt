-- The state, "The endpoint has two slots, kept side by side and chosen by number", and both lent stores.
-- Assumes nothing.
use Rattle.std.specs.Prelude.{ℕ, ◌+◌, ◌%◌, ◌^◌, Bool, true, false, List, [], ◌∷◌, Option, None, Some, eqb, get_or, set, if◌then◌else◌}
use Rattle.machine.specs.Types.{Ticket, Response, Outgoing, Phase, Idle, Receive, Process, Answered, Transmit, Slot, Reply, Endpoint}

-- ---- tickets

abbrev pub ticket : ℕ → Ticket
ticket n = record { 0 = n }

-- the count goes from 4,294,967,295 to 0
abbrev pub next_ticket : Ticket → Ticket
next_ticket t = ticket ((t.0 + 1) % 2 ^ 32)

-- ---- a slot

abbrev pub slot : Ticket → Bool → Bool → Phase → Slot
slot t paused busy phase = record { ticket = t; paused = paused; busy = busy; phase = phase }

-- an Idle slot with nothing but its ticket count
abbrev pub fresh : Ticket → Slot
fresh t = slot t false false (Idle None)

abbrev pub with_phase : Slot → Phase → Slot
with_phase s p = slot s.ticket s.paused s.busy p

abbrev pub with_paused : Slot → Bool → Slot
with_paused s b = slot s.ticket b s.busy s.phase

abbrev pub with_busy : Slot → Bool → Slot
with_busy s b = slot s.ticket s.paused b s.phase

-- "Any slot entering Idle loses its pause flag." On every way but the one below it holds no response then.
abbrev pub idled : Slot → Slot
idled s = slot s.ticket false s.busy (Idle None)

-- after the last packet of its response: Idle, and the slot "still holds its last response"
abbrev pub holding : Slot → Response → Slot
holding s r = slot s.ticket false s.busy (Idle (Some r))

-- what a slot holds: only an Idle one has it
abbrev pub held_in : Phase → Option Response
held_in (Idle k) = k
held_in (Receive a) = None
held_in (Process r) = None
held_in (Answered r) = None
held_in (Transmit r) = None

-- whether it holds a response or not
abbrev pub is_idle : Phase → Bool
is_idle (Idle k) = true
is_idle (Receive a) = false
is_idle (Process r) = false
is_idle (Answered r) = false
is_idle (Transmit r) = false

-- a response of which so many packets went
abbrev pub outgoing : Response → ℕ → Outgoing
outgoing r n = record { response = r; sent = n }

-- "A slot in Process with its response there and its own flag clear goes to Transmit at once."
abbrev pub settled : Bool → Response → Phase
settled paused r = if paused then Answered r else Transmit (outgoing r 0)

-- ---- the endpoint

-- the bytes of the control reply that waits; where none waits, no bytes
abbrev pub reply_message : Option Reply → List ℕ
reply_message None = []
reply_message (Some r) = r.message

abbrev pub endpoint : ℕ → ℕ → List Slot → ℕ → Option Reply → ℕ → Bool → Endpoint
endpoint eid unit slots flags reply turn last =
    record {
      eid = eid;
      unit = unit;
      slots = slots;
      flags = flags;
      reply = reply;
      turn = turn;
      last_control = last;
    }

abbrev pub slot_at : Endpoint → ℕ → Slot
slot_at e i = get_or e.slots i (fresh (ticket 0))

abbrev pub with_slots : Endpoint → List Slot → Endpoint
with_slots e l = endpoint e.eid e.unit l e.flags e.reply e.turn e.last_control

-- another slot at a number, all else as it was
abbrev pub with_slot : Endpoint → ℕ → Slot → Endpoint
with_slot e i s = with_slots e (set e.slots i s)

-- both slots, each by the same rule
abbrev pub on_both : (Slot → Slot) → Endpoint → Endpoint
on_both f e = with_slots e (f (slot_at e 0) ∷ f (slot_at e 1) ∷ [])

abbrev pub with_flags : Endpoint → ℕ → Endpoint
with_flags e f = endpoint e.eid e.unit e.slots f e.reply e.turn e.last_control

-- a control reply waits, for this requester under this tag; a newer one replaces it whole
abbrev pub with_reply : Endpoint → List ℕ → ℕ → ℕ → Endpoint
with_reply e message to tag = endpoint e.eid e.unit e.slots e.flags (Some (record { to = to; tag = tag; message = message })) e.turn e.last_control

-- the control reply has gone
abbrev pub reply_sent : Endpoint → Endpoint
reply_sent e = endpoint e.eid e.unit e.slots e.flags None e.turn true

-- a command packet has gone; `turn` is the slot that goes first when none is begun
abbrev pub packet_sent : Endpoint → ℕ → Endpoint
packet_sent e turn = endpoint e.eid e.unit e.slots e.flags e.reply turn false

-- ---- the endpoint and both lent stores

pub record World : Type 0 where
  pub endpoint : Endpoint
  pub store0 : List ℕ
  pub store1 : List ℕ

abbrev pub world : Endpoint → List ℕ → List ℕ → World
world e a b = record { endpoint = e; store0 = a; store1 = b }

abbrev pub store_at : World → ℕ → List ℕ
store_at w i = if eqb i 0 then w.store0 else w.store1

abbrev pub with_endpoint : World → Endpoint → World
with_endpoint w e = world e w.store0 w.store1

abbrev pub with_store : World → ℕ → List ℕ → World
with_store w i s = world w.endpoint (if eqb i 0 then s else w.store0) (if eqb i 0 then w.store1 else s)

abbrev pub on_slot : World → ℕ → Slot → World
on_slot w i s = with_endpoint w (with_slot w.endpoint i s)

-- what a call that is lent both stores answers, and what it leaves
pub record Outcome : Type 0 where
  pub answer : ℕ
  pub world : World

abbrev pub outcome : ℕ → World → Outcome
outcome n w = record { answer = n; world = w }

-- what a call that is lent no store answers, and the state that it leaves
pub record Done : Type 0 where
  pub answer : ℕ
  pub endpoint : Endpoint

abbrev pub ended : ℕ → Endpoint → Done
ended n e = record { answer = n; endpoint = e }
