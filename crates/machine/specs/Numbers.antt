-- Taking, completing, declaring, timeout, polling and setup in document 01's numbers: which number is answered on which ground, and the value
-- beside it. Numbers and sizes are literal, so that the definitions that give an enum its number are held against them too. The proofs:
-- `take_numbers_lem`, `complete_numbers`, `declare_numbers`, `timeout_numbers`, `poll_numbers`, `setup_numbers` (proofs/Numbers).
-- Assumes nothing.
use Rattle.std.specs.Prelude.{ℕ, ◌+◌, ◌≡◌, Bool, true, false, not, ◌&&◌, ◌||◌, List, [], ◌∷◌, eqb, ltb, length, if◌then◌else◌}
use Rattle.std.specs.Option.{is_some}
use Rattle.mctp.specs.Setup.{setup_number}
use Rattle.machine.specs.State.{World, slot_at}
use Rattle.machine.specs.Finish.{taken, take_says, completed, was_declared, timed_out, was_set_up}
use Rattle.machine.specs.Poll.{poll_says, polled}
use Rattle.machine.specs.Valid.{phased, Valid}
use Rattle.machine.specs.Calls.{poll, Event, number, given, part_read, handed_out, step}
use Rattle.machine.specs.History.{phase_at, paused_at, is_transmit, unit_of}
use Rattle.machine.specs.Types.{Ticket, Taking, Untaken, Taken, Phase, Endpoint}

-- ---- taking: 30 slot above 1; 31 not in Process, or its response is there; 33 taken already; else 0 and the slot's ticket

abbrev pub is_taken : Taking → Bool
is_taken Untaken = false
is_taken (Taken can) = true

abbrev pub take_numbers : Endpoint → ℕ → ℕ × List ℕ
take_numbers e i =
    if ltb 1 i then (30, [])
    else phased (31, []) (λ a. (31, [])) (λ r. if is_taken r.taking then (33, []) else (0, (slot_at e i).ticket.0 ∷ [])) (λ r. (31, [])) (λ r. (31, [])) (slot_at e i).phase

abbrev pub TakeNumbers : Type 0
TakeNumbers = (e : Endpoint) (i : ℕ) → take_says (taken e i).answer ≡ take_numbers e i

-- ---- a ticket that is presented for a slot: 30 slot above 1; 31 not in Process, or its response is there; 32 ticket not the slot's present
-- one; 34 not taken; else 0

-- of a slot in this phase, whose present ticket is given
abbrev pub ticket_in : ℕ → Ticket → Phase → ℕ
ticket_in present t =
    phased 31 (λ a. 31)
    (λ r.
    if not (eqb t.0 present) then 32
    else if not (is_taken r.taking) then 34
    else 0)
    (λ r. 31) (λ r. 31)

abbrev pub ticket_number : Endpoint → ℕ → Ticket → ℕ
ticket_number e i t =
    if ltb 1 i then 30
    else ticket_in (slot_at e i).ticket.0 t (slot_at e i).phase

-- ---- completing: 40 stores of another length; the tests of the ticket; 35 body not 4 to 4,216 bytes; else 0

abbrev pub right_sizes : World → Bool
right_sizes w = eqb (length w.store0) 4224 && eqb (length w.store1) 4224

abbrev pub complete_number : World → ℕ → Ticket → List ℕ → ℕ
complete_number w i t body =
    if not (right_sizes w) then 40
    else if not (eqb (ticket_number w.endpoint i t) 0) then ticket_number w.endpoint i t
    else if ltb (length body) 4 || ltb 4216 (length body) then 35
    else 0

abbrev pub CompleteNumbers : Type 0
CompleteNumbers = (w : World) (i : ℕ) (t : Ticket) (body : List ℕ) → (completed w i t body).answer ≡ complete_number w i t body

-- ---- declaring: the tests of the ticket and no other; else 0

abbrev pub DeclareNumbers : Type 0
DeclareNumbers = (e : Endpoint) (i : ℕ) (t : Ticket) (can : Bool) → (was_declared e i t can).answer ≡ ticket_number e i t

-- ---- timeout: 30; 37 slot not in Receive or its flag is set; else 0

abbrev pub is_receiving : Phase → Bool
is_receiving = phased false (λ a. true) (λ r. false) (λ r. false) (λ r. false)

abbrev pub timeout_number : Endpoint → ℕ → ℕ
timeout_number e i =
    if ltb 1 i then 30
    else if not (is_receiving (slot_at e i).phase) || (slot_at e i).paused then 37
    else 0

abbrev pub TimeoutNumbers : Type 0
TimeoutNumbers = (e : Endpoint) (i : ℕ) → (timed_out e i).answer ≡ timeout_number e i

-- ---- polling: 40 stores of another length; 36 buffer below U + 4 bytes; 1 where a control reply waits, or a slot is in Transmit and neither
-- pause flag is set; else 0

abbrev pub is_command_ready : World → Bool
is_command_ready w = (is_transmit (phase_at w 0) || is_transmit (phase_at w 1)) && (not (paused_at w 0) && not (paused_at w 1))

abbrev pub poll_number : World → List ℕ → ℕ
poll_number w buffer =
    if not (right_sizes w) then 40
    else if ltb (length buffer) (unit_of w + 4) then 36
    else if is_some w.endpoint.reply || is_command_ready w then 1
    else 0

-- the length of the packet that a poll handed out
abbrev pub length_out : Event → List ℕ
length_out (number n) = []
length_out (given t) = []
length_out (part_read s) = []
length_out (handed_out s) = length s ∷ []

abbrev pub PollNumbers : Type 0
PollNumbers = (w : World) (buffer : List ℕ) → Valid w.endpoint → poll_says (polled w buffer).answer ≡ (poll_number w buffer, length_out (step (poll buffer) w).event)

-- ---- setup: 38 EID not 8 to 254; 39 unit not 64 to 250; else 0 (`setup_number`). The state beside 38 and 39 is the one for EID 8 and the unit 64.

pub record SetUp (eid unit : ℕ) : Type 0 where
  pub number_is : (was_set_up eid unit).answer ≡ setup_number eid unit
  pub eid_is : (was_set_up eid unit).endpoint.eid ≡ (if eqb (setup_number eid unit) 0 then eid else 8)
  pub unit_is : (was_set_up eid unit).endpoint.unit ≡ (if eqb (setup_number eid unit) 0 then unit else 64)
  pub state_is : (was_set_up eid unit).endpoint ≡ (was_set_up (if eqb (setup_number eid unit) 0 then eid else 8) (if eqb (setup_number eid unit) 0 then unit else 64)).endpoint

abbrev pub SetupNumbers : Type 0
SetupNumbers = (eid unit : ℕ) → SetUp eid unit
