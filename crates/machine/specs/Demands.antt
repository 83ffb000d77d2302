-- Demands 2 and 3 as statements about lists of calls. Their proofs: `demand_3`, `at_most`, `quoted` (proofs/Delivery), `answer_arrives`, `error_arrives`
-- (proofs/Arrives), `ticket_count`, `ticket_rule`, `ticket_own`, `answers_own`, `answer_belongs`, `pauses_hold`, `flags_fit` (proofs/Tickets),
-- `abort_idles` (proofs/Replies), `always_sound` (proofs/Histories), `identity_kept` (proofs/Identity).
-- Assumes nothing.
use Rattle.std.specs.Prelude.{ℕ, ◌+◌, ◌*◌, ◌%◌, ◌^◌, ◌≤◌, ◌<◌, ◌≡◌, Bool, true, false, List, [], ◌∷◌, Option, None, Some, eqb, length, if◌then◌else◌}
use Rattle.std.specs.Option.{is_some}
use Rattle.mctp.specs.Setup.{setup_number}
use Rattle.mctp.specs.Cut.{packet}
use Rattle.mctp.specs.declared.Route.{Route}
use Rattle.machine.specs.State.{World, slot_at}
use Rattle.machine.specs.Valid.{phased, Sound}
use Rattle.machine.specs.Calls.{Call, receive, take!, read, complete, declare, poll, number, given, part_read, handed_out, step}
use Rattle.machine.specs.History.{History, phase_at, paused_at, is_transmit, is_for, request_with, response_for, fixed_at_entry, is_packet_of, unit_of, next, run, start, cuts, over_unit, packets_left, last_packet_out}
use Rattle.machine.specs.Types.{Ticket, Phase, Idle, Reply, Endpoint}

-- ---- what happens first to the response that slot i is sending

pub data Fate : Type 0 where
  -- the slot was aborted or the endpoint reset
  cut : Fate
  -- its last packet was handed out; the history right after that call
  delivered : History → Fate
  -- neither, and the list has ended; the history then
  open! : History → Fate

unfoldable pub fate : ℕ → List Call → History → Fate
unfolding next
fate i [] h = open! h
fate i (c ∷ cs) h =
    if cuts i c h.world then cut
    else if last_packet_out i c h then delivered (next c h)
    else fate i cs (next c h)

-- the promise: this response goes out whole, with at most `most` polls counted
abbrev pub Within : ℕ → ℕ → List ℕ → Fate → Type 0
Within most i response cut = Unit {0}
Within most i response (delivered h) = (h.counted ≤ most) × ((h.trace i).payloads ≡ response)
Within most i response (open! h) = h.counted < most

-- any list of calls from any setup, whatever EID and unit it was given, on two stores of 4,224 bytes with any bytes in them
abbrev pub Every : (History → Type 0) → Type 0
Every P =
    (eid unit : ℕ) (store0 store1 : List ℕ) → length store0 ≡ 4224 → length store1 ≡ 4224 → (xs : List Call) → P (run xs (start eid unit store0 store1))

-- the packets of the longest response: 4,224 over U, rounded up
abbrev pub most_packets : ℕ → ℕ
most_packets unit = over_unit unit 4224

-- the counted polls that are enough for a slot with k packets left: document 01's 2 x (66 + k), where the 66 is `most_packets`
abbrev pub polls_for : ℕ → ℕ → ℕ
polls_for unit k = 2 * (most_packets unit + k)

-- DEMAND 3. Any list of calls from any setup, any later list `ys`, either slot. Where the slot is in Transmit with k packets left, k is 1 to
-- `most_packets`; and along ys, unless an Abort acts on the slot or a reset comes first, its last packet is handed out by the time `polls_for` more
-- polls were counted, and then its payloads joined are exactly the response for its ticket.
abbrev pub Demand3 : Type 0
Demand3 =
    Every (λ h. (ys : List Call) (i : ℕ) → i ≤ 1 → is_transmit (phase_at h.world i) ≡ true
    → (1 ≤ packets_left i h)
    × (packets_left i h ≤ most_packets (unit_of h.world))
    × Within (h.counted + polls_for (unit_of h.world) (packets_left i h)) i (h.trace i).response (fate i ys h))

-- the polls that are enough whatever is left
abbrev pub most_polls : ℕ → ℕ
most_polls unit = 4 * most_packets unit

abbrev pub AtMost : Type 0
AtMost =
    Every (λ h. (ys : List Call) (i : ℕ) → i ≤ 1 → is_transmit (phase_at h.world i) ≡ true
    → Within (h.counted + most_polls (unit_of h.world)) i (h.trace i).response (fate i ys h))

-- what people quote: 264 polls at the unit 64, 68 at 250; and a larger unit never needs more
pub record Quoted : Type 0 where
  pub at_64 : most_polls 64 ≡ 264
  pub at_250 : most_polls 250 ≡ 68
  pub larger : (unit more : ℕ) → 0 < unit → most_polls (unit + more) ≤ most_polls unit

-- A COMPLETION THAT IS ACCEPTED IS NOT LOST. Its response, with that very body, goes out whole with at most `most_polls` more polls counted, also
-- where it first waits under its slot's pause flag (no poll is counted then), unless the slot is aborted or the endpoint reset.
abbrev pub AnswerArrives : Type 0
AnswerArrives =
    Every (λ h. (ys : List Call) (i : ℕ) → i ≤ 1 → (t : Ticket) (body : List ℕ) → (step (complete i t body) h.world).event ≡ number 0
    → Within (h.counted + most_polls (unit_of h.world)) i (response_for i (h.trace i).request body) (fate i ys (next (complete i t body) h)))

-- and so does the error response of a command that failed a test at its entry into Process
abbrev pub ErrorArrives : Type 0
ErrorArrives =
    Every (λ h. (ys : List Call) (i : ℕ) → i ≤ 1 → (p : List ℕ) → (step (receive p) h.world).event ≡ number 1 → is_for i p h.world ≡ true
    → (fixed_at_entry i (request_with p (h.trace i)) ≡ [] → ⊥)
    → Within (h.counted + most_polls (unit_of h.world)) i (fixed_at_entry i (request_with p (h.trace i))) (fate i ys (next (receive p) h)))

-- ---- DEMAND 2, the ticket rule

-- the slot's ticket is the number of its entries into Process, modulo 2^32; no call sets it back, a reset neither
abbrev pub TicketCount : Type 0
TicketCount = Every (λ h. (i : ℕ) → i ≤ 1 → (slot_at h.world.endpoint i).ticket.0 ≡ (h.trace i).entries % 2 ^ 32)

abbrev pub is_process : Phase → Bool
is_process = phased false (λ a. false) (λ r. true) (λ r. false) (λ r. false)

-- the calls that present a ticket for slot i
pub data Presents (i : ℕ) (t : Ticket) : Call → Type 0 where
  completes : (body : List ℕ) → Presents i t (complete i t body)
  declares : (can : Bool) → Presents i t (declare i t can)

-- a call for slot i is refused because of its ticket: 32 where a command is in Process there, and 31 else; and nothing changes
pub record TicketRefused (w : World) (i : ℕ) (c : Call) : Type 0 where
  pub answered : (step c w).event ≡ number (if is_process (phase_at w i) then 32 else 31)
  pub unchanged : (step c w).world ≡ w

-- a ticket that a take gave, with at least one and fewer than 2^32 entries since: completing with it and declaring with it are refused
abbrev pub TicketRule : Type 0
TicketRule =
    Every (λ h. (i : ℕ) (t : Ticket) → (step (take! i) h.world).event ≡ given t → (ys : List Call)
    → (h.trace i).entries < ((run ys (next (take! i) h)).trace i).entries
    → ((run ys (next (take! i) h)).trace i).entries < (h.trace i).entries + 2 ^ 32
    → (c : Call) → Presents i t c → TicketRefused (run ys (next (take! i) h)).world i c)

-- the command that is there later is the one that a take handed over before
pub record OwnCommand (h later : History) (i : ℕ) : Type 0 where
  -- no command of the slot came in between
  pub no_entry : (later.trace i).entries ≡ (h.trace i).entries
  -- the request is the one that was read after the take
  pub same_request : (later.trace i).request ≡ ((next (take! i) h).trace i).request
  pub read_request : (step (read i) (next (take! i) h).world).event ≡ part_read ((next (take! i) h).trace i).request

-- where completing or declaring with a ticket is accepted, it is for the command that the take of that ticket handed over
abbrev pub TicketOwn : Type 0
TicketOwn =
    Every (λ h. (i : ℕ) (t : Ticket) → (step (take! i) h.world).event ≡ given t → (ys : List Call)
    → ((run ys (next (take! i) h)).trace i).entries < (h.trace i).entries + 2 ^ 32
    → (c : Call) → Presents i t c → (step c (run ys (next (take! i) h)).world).event ≡ number 0
    → OwnCommand h (run ys (next (take! i) h)) i)

-- what a completion that is accepted answers is that command
pub record Own (h later : History) (i : ℕ) (t : Ticket) (body : List ℕ) : Type 0 where
  pub command : OwnCommand h later i
  -- the response that is fixed now is its response
  pub fixes : ((next (complete i t body) later).trace i).response ≡ response_for i ((next (take! i) h).trace i).request body

abbrev pub AnswersOwn : Type 0
AnswersOwn =
    Every (λ h. (i : ℕ) (t : Ticket) → (step (take! i) h.world).event ≡ given t → (ys : List Call) (body : List ℕ)
    → ((run ys (next (take! i) h)).trace i).entries < (h.trace i).entries + 2 ^ 32
    → (step (complete i t body) (run ys (next (take! i) h)).world).event ≡ number 0
    → Own h (run ys (next (take! i) h)) i t body)

-- to the sender of the command of the slot's last entry, under its tag, from this endpoint, TO 0
abbrev pub route_of : History → ℕ → Route
route_of h i = record { destination = (h.trace i).requester; source = h.world.endpoint.eid; to = false; tag = (h.trace i).tag }

-- the packet of the control reply that waits: version 1, to its requester, from this endpoint, SOM and EOM, sequence 0, TO 0, its tag. Where none
-- waits, no bytes.
abbrev pub reply_packet_of : ℕ → Option Reply → List ℕ
reply_packet_of eid None = []
reply_packet_of eid (Some r) = 1 ∷ r.to ∷ eid ∷ (0xC0 + r.tag % 8) ∷ r.message

abbrev pub reply_packet : Endpoint → List ℕ
reply_packet e = reply_packet_of e.eid e.reply

-- a packet that a poll hands out of slot i is the next packet of the response fixed for the slot's last entry; and one that is of no slot is
-- the control reply that waited
pub record Belongs (h : History) (buffer : List ℕ) (bytes : List ℕ) : Type 0 where
  pub of_slot : (i : ℕ) → i ≤ 1 → is_packet_of (phase_at h.world i) (phase_at (step (poll buffer) h.world).world i) (handed_out bytes) ≡ true
      → bytes ≡ packet (unit_of h.world) (route_of h i) (h.trace i).response (h.trace i).packets
  pub of_none : ((i : ℕ) → i ≤ 1 → is_packet_of (phase_at h.world i) (phase_at (step (poll buffer) h.world).world i) (handed_out bytes) ≡ false)
      → (is_some h.world.endpoint.reply ≡ true) × (bytes ≡ reply_packet h.world.endpoint)

-- AN ANSWER BELONGS TO ITS QUESTION
abbrev pub AnswerBelongs : Type 0
AnswerBelongs = Every (λ h. (buffer bytes : List ℕ) → (step (poll buffer) h.world).event ≡ handed_out bytes → Belongs h buffer bytes)

-- ---- laws that no bound can see

-- a command packet is handed out only if neither pause flag is set just before
abbrev pub PausesHold : Type 0
PausesHold =
    Every (λ h. (i : ℕ) → i ≤ 1 → (buffer : List ℕ)
    → is_packet_of (phase_at h.world i) (phase_at (step (poll buffer) h.world).world i) (step (poll buffer) h.world).event ≡ true
    → (paused_at h.world 0 ≡ false) × (paused_at h.world 1 ≡ false))

abbrev pub is_answered : Phase → Bool
is_answered = phased false (λ a. false) (λ r. false) (λ r. true) (λ r. false)

abbrev pub is_idle_now : Phase → Bool
is_idle_now = phased true (λ a. false) (λ r. false) (λ r. false) (λ r. false)

-- a response waits in Process only while its slot's flag is set; an Idle slot has no flag
abbrev pub FlagsFit : Type 0
FlagsFit =
    Every (λ h. (i : ℕ) → i ≤ 1
    → (is_answered (phase_at h.world i) ≡ true → paused_at h.world i ≡ true) × (is_idle_now (phase_at h.world i) ≡ true → paused_at h.world i ≡ false))

-- what demand 3 excuses, an Abort that acts on the slot or a reset, does send the slot to Idle, and then it holds no response
abbrev pub AbortIdles : Type 0
AbortIdles = Every (λ h. (c : Call) (i : ℕ) → i ≤ 1 → cuts i c h.world ≡ true → phase_at (step c h.world).world i ≡ Idle None)

-- the invariant holds after every list of calls, and both stores keep their length
abbrev pub AlwaysSound : Type 0
AlwaysSound = Every (λ h. Sound h.world)

-- THE EID AND THE UNIT are those that setup was given, 8 and 64 where it refused one of them; no call changes them
pub record SetupKept (eid unit : ℕ) (e : Endpoint) : Type 0 where
  pub eid_is : e.eid ≡ (if eqb (setup_number eid unit) 0 then eid else 8)
  pub unit_is : e.unit ≡ (if eqb (setup_number eid unit) 0 then unit else 64)

abbrev pub IdentityKept : Type 0
IdentityKept =
    (eid unit : ℕ) (store0 store1 : List ℕ) → length store0 ≡ 4224 → length store1 ≡ 4224 → (xs : List Call)
    → SetupKept eid unit (run xs (start eid unit store0 store1)).world.endpoint
