-- "Taking and finishing" with document 02's declaring, timeout, reset and setup.
-- Assumes nothing.
use Rattle.std.specs.Prelude.{ℕ, ◌^◌, Bool, true, false, not, ◌||◌, List, [], ◌∷◌, None, Result, Ok, Err, eqb, ltb, length, take, if◌then◌else◌}
use Rattle.mctp.specs.Setup.{first_eid, least_unit, setup_refusal}
use Rattle.machine.specs.Answers.{done, no_such_slot, no_command, other_ticket, taken_already, not_taken, wrong_body_size, not_gathering, wrong_stores_number}
use Rattle.machine.specs.State.{World, Outcome, Done, outcome, ended, slot_at, store_at, with_slot, with_phase, idled, fresh, ticket, endpoint}
use Rattle.machine.specs.Wire.{wrong_stores}
use Rattle.machine.specs.Process.{responded}
use Rattle.machine.specs.Receive.{raised}
use Rattle.machine.specs.Types.{Ticket, Taking, Untaken, Taken, Request, Phase, Idle, Receive, Process, Answered, Transmit, Slot, Endpoint}

abbrev pub is_slot : ℕ → Bool
is_slot i = ltb i 2

-- ---- taking: 30 slot above 1; 31 not in Process, or its response is there; 33 taken already. Otherwise the ticket.

-- what taking answers, refused by number or the ticket, and the state that it leaves
pub record TakeDone : Type 0 where
  pub answer : Result Ticket ℕ
  pub endpoint : Endpoint

abbrev pub take_ended : Result Ticket ℕ → Endpoint → TakeDone
take_ended a e = record { answer = a; endpoint = e }

-- the taken command; the mark says whether it can still be stopped
abbrev pub taken_request : Request → Bool → Request
taken_request r can = record { source = r.source; tag = r.tag; kind = r.kind; length = r.length; taking = Taken can }

-- slot i's command, taken and with this mark, all else as it was
abbrev pub with_mark : Endpoint → ℕ → Request → Bool → Endpoint
with_mark e i r can = with_slot e i (with_phase (slot_at e i) (Process (taken_request r can)))

-- taking starts at "can't"
abbrev pub taken_row : Endpoint → ℕ → Request → Taking → TakeDone
taken_row e i r Untaken = take_ended (Ok (slot_at e i).ticket) (with_mark e i r false)
taken_row e i r (Taken can) = take_ended (Err taken_already) e

abbrev pub taken_from : Endpoint → ℕ → Phase → TakeDone
taken_from e i (Idle k) = take_ended (Err no_command) e
taken_from e i (Receive a) = take_ended (Err no_command) e
taken_from e i (Process r) = taken_row e i r r.taking
taken_from e i (Answered r) = take_ended (Err no_command) e
taken_from e i (Transmit r) = take_ended (Err no_command) e

unfoldable pub taken : Endpoint → ℕ → TakeDone
taken e i =
    if not (is_slot i) then take_ended (Err no_such_slot) e
    else taken_from e i (slot_at e i).phase

-- document 01's number for what taking answers, and the values beside it: behind 0 the ticket
abbrev pub take_says : Result Ticket ℕ → ℕ × List ℕ
take_says (Err n) = (n, [])
take_says (Ok t) = (done, t.0 ∷ [])

-- ---- reading: the request as a part of the slot's store, check included; empty if the slot is above 1, a store has another length, or
-- no taken command there awaits completion

abbrev pub taken_part : List ℕ → Request → Taking → List ℕ
taken_part store r Untaken = []
taken_part store r (Taken can) = take r.length store

abbrev pub part_of : List ℕ → Phase → List ℕ
part_of store (Idle k) = []
part_of store (Receive a) = []
part_of store (Process r) = taken_part store r r.taking
part_of store (Answered r) = []
part_of store (Transmit r) = []

unfoldable pub part : World → ℕ → List ℕ
part w i =
    if wrong_stores w then []
    else if not (is_slot i) then []
    else part_of (store_at w i) (slot_at w.endpoint i).phase

-- ---- a ticket that is presented for a slot, the tests of completing and of declaring: 30; 31; 32 ticket not the slot's present one; 34 not
-- taken. In that order, else the taken command.

-- the ticket is the slot's present one
abbrev pub is_present : Ticket → Slot → Bool
is_present t s = eqb t.0 s.ticket.0

abbrev pub presented_row : Request → Taking → Result Request ℕ
presented_row r Untaken = Err not_taken
presented_row r (Taken can) = Ok r

abbrev pub presented_in : Ticket → Slot → Phase → Result Request ℕ
presented_in t s (Idle k) = Err no_command
presented_in t s (Receive a) = Err no_command
presented_in t s (Process r) =
    if not (is_present t s) then Err other_ticket
    else presented_row r r.taking
presented_in t s (Answered r) = Err no_command
presented_in t s (Transmit r) = Err no_command

unfoldable pub presented : Endpoint → ℕ → Ticket → Result Request ℕ
presented e i t =
    if not (is_slot i) then Err no_such_slot
    else presented_in t (slot_at e i) (slot_at e i).phase

-- ---- completing: the tests above; 35 body not 4 to 4,216 bytes; else 0

abbrev pub is_body : List ℕ → Bool
is_body body = not (ltb (length body) 4 || ltb 4216 (length body))

abbrev pub completed_by : World → ℕ → List ℕ → Result Request ℕ → Outcome
completed_by w i body (Err n) = outcome n w
completed_by w i body (Ok r) =
    if not (is_body body) then outcome wrong_body_size w
    else outcome done (responded w i r body)

unfoldable pub completed : World → ℕ → Ticket → List ℕ → Outcome
unfolding responded presented
completed w i t body =
    if wrong_stores w then outcome wrong_stores_number w
    else completed_by w i body (presented w.endpoint i t)

-- ---- declaring, of document 02: "with slot and ticket, that the taken command can still be stopped, or no longer can"; the tests above, else 0

abbrev pub declared_by : Endpoint → ℕ → Bool → Result Request ℕ → Done
declared_by e i can (Err n) = ended n e
declared_by e i can (Ok r) = ended done (with_mark e i r can)

unfoldable pub was_declared : Endpoint → ℕ → Ticket → Bool → Done
unfolding presented
was_declared e i t can = declared_by e i can (presented e i t)

-- ---- timeout: 30; 37 slot not in Receive or its flag is set; else Idle, bit 5, answer 0

abbrev pub is_receive : Phase → Bool
is_receive (Idle k) = false
is_receive (Receive a) = true
is_receive (Process r) = false
is_receive (Answered r) = false
is_receive (Transmit r) = false

unfoldable pub timed_out : Endpoint → ℕ → Done
timed_out e i =
    if not (is_slot i) then ended no_such_slot e
    else if not (is_receive (slot_at e i).phase) || (slot_at e i).paused then ended not_gathering e
    else ended done (raised (with_slot e i (idled (slot_at e i))) (2 ^ 5))

-- ---- reset and setup

-- all zero but the EID, the unit, the flags and the ticket counts; slot 0's turn, last packet counted as not control
abbrev pub started : ℕ → ℕ → ℕ → Ticket → Ticket → Endpoint
started eid unit flags t0 t1 = endpoint eid unit (fresh t0 ∷ fresh t1 ∷ []) flags None 0 false

-- both slots Idle, bits 3 to 12 cleared, control reply gone, bit 14 set, slot 0's turn, last packet counted as not control, ticket counts
-- kept; answer 0
unfoldable pub was_reset : Endpoint → Done
was_reset e = ended done (started e.eid e.unit (2 ^ 14) (slot_at e 0).ticket (slot_at e 1).ticket)

abbrev pub initial : ℕ → ℕ → Endpoint
initial eid unit = started eid unit 0 (ticket 0) (ticket 0)

-- 38 and 39 are `mctp`'s; "beside either stands the state for EID 8, U 64"
unfoldable pub was_set_up : ℕ → ℕ → Done
unfolding setup_refusal
was_set_up eid unit =
    if eqb (setup_refusal eid unit) 0 then ended done (initial eid unit)
    else ended (setup_refusal eid unit) (initial first_eid least_unit)
