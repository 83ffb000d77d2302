-- "The log program": what a record prints, and the session that it leaves.
-- Assumes nothing.
use Rattle.std.specs.Prelude.{ℕ, ◌≤◌, ◌≡◌, List, [], ◌∷◌, Option, Result, Ok, Err, length, min, take, drop, replicate, get_or, set}
use Rattle.lent.specs.Bytes.{byte_at, put}
use Rattle.log_records.specs.Records.{number_line, packet_line, log_unit, packet_room, line_room}
use Rattle.machine.specs.State.{World, world, Outcome, Done, ticket}
use Rattle.machine.specs.Receive.{received}
use Rattle.machine.specs.Finish.{TakeDone, taken, take_says, completed, timed_out, was_reset, was_set_up}
use Rattle.machine.specs.Poll.{Polled, poll_says, polled}
use Rattle.machine.specs.Valid.{Valid}
use Rattle.machine.specs.declared.Ticket.{Ticket}
use Rattle.machine.specs.declared.Endpoint.{Endpoint}
use Rattle.log_records.specs.declared.Tag.{Tag}
use Rattle.log_records.specs.declared.Tag.TheVariants.{Packet, Poll, Timeout, Take, Complete, Reset}
use Rattle.log_session.specs.declared.Session.{Session}

-- ---- the line of a poll

-- a number, and behind it the packet of this length
abbrev pub answer_line : List ℕ → ℕ → List ℕ → List ℕ
answer_line buffer n [] = number_line n
answer_line buffer n (size ∷ sizes) = packet_line n (take size buffer)

abbrev pub poll_line : List ℕ → Result (Option ℕ) ℕ → List ℕ
poll_line buffer a = answer_line buffer (poll_says a).0 (poll_says a).1

-- ---- a session: the endpoint, and for each slot the ticket last taken there; the stores are lent beside it

abbrev pub session : Endpoint → List Ticket → Session
session e tickets = record { endpoint = e; tickets = tickets }

abbrev pub with_endpoint : Session → Endpoint → Session
with_endpoint s e = session e s.tickets

-- EID 8, the unit 64, and no ticket taken
abbrev pub at_start : Session
at_start = session (was_set_up 8 log_unit).endpoint (ticket 0 ∷ ticket 0 ∷ [])

-- slot 0's, and slot 1's for every other number: one above 1 is refused whatever the ticket
abbrev pub ticket_of : Session → ℕ → Ticket
ticket_of s i = get_or s.tickets (min i 1) (ticket 0)

abbrev pub with_ticket : Session → ℕ → Ticket → Session
with_ticket s i t = session s.endpoint (set s.tickets (min i 1) t)

-- a ticket that was given is kept for its slot
abbrev pub ticket_kept : Session → ℕ → Result Ticket ℕ → Session
ticket_kept s i (Err n) = s
ticket_kept s i (Ok t) = with_ticket s i t

-- ---- what a record does

-- the line that is printed, with its newline, the session and both stores afterwards
pub record Recorded : Type 0 where
  pub line : List ℕ
  pub session : Session
  pub store0 : List ℕ
  pub store1 : List ℕ

abbrev pub recorded_to : List ℕ → Session → List ℕ → List ℕ → Recorded
recorded_to line s a b = record { line = line; session = s; store0 = a; store1 = b }

abbrev pub world_of : Session → List ℕ → List ℕ → World
world_of s a b = world s.endpoint a b

abbrev pub by_outcome : Session → Outcome → Recorded
by_outcome s o = recorded_to (number_line o.answer) (with_endpoint s o.world.endpoint) o.world.store0 o.world.store1

abbrev pub by_done : Session → List ℕ → List ℕ → Done → Recorded
by_done s a b d = recorded_to (number_line d.answer) (with_endpoint s d.endpoint) a b

abbrev pub by_take : Session → List ℕ → List ℕ → ℕ → TakeDone → Recorded
by_take s a b i d = recorded_to (number_line (take_says d.answer).0) (ticket_kept (with_endpoint s d.endpoint) i d.answer) a b

abbrev pub by_poll : Session → List ℕ → List ℕ → Polled → Recorded
by_poll s a b p = recorded_to (poll_line p.buffer p.answer) (with_endpoint s p.endpoint) a b

-- 1
abbrev pub packet_recorded : Session → List ℕ → List ℕ → List ℕ → Recorded
packet_recorded s a b packet = by_outcome s (received (world_of s a b) packet)

-- 2, with a buffer that takes every packet
abbrev pub poll_recorded : Session → List ℕ → List ℕ → Recorded
poll_recorded s a b = by_poll s a b (polled (world_of s a b) (replicate packet_room 0))

-- 3
abbrev pub timeout_recorded : Session → List ℕ → List ℕ → ℕ → Recorded
timeout_recorded s a b i = by_done s a b (timed_out s.endpoint i)

-- 4
abbrev pub take_recorded : Session → List ℕ → List ℕ → ℕ → Recorded
take_recorded s a b i = by_take s a b i (taken s.endpoint i)

-- 5, with the ticket last taken there
abbrev pub complete_recorded : Session → List ℕ → List ℕ → ℕ → List ℕ → Recorded
complete_recorded s a b i body = by_outcome s (completed (world_of s a b) i (ticket_of s i) body)

-- 6
abbrev pub reset_recorded : Session → List ℕ → List ℕ → Recorded
reset_recorded s a b = by_done s a b (was_reset s.endpoint)

-- a record with this tag and these bytes, where `is_record` holds of it
unfoldable pub recorded : Session → List ℕ → List ℕ → Tag → List ℕ → Recorded
recorded s a b Packet body = packet_recorded s a b body
recorded s a b Poll body = poll_recorded s a b
recorded s a b Timeout body = timeout_recorded s a b (byte_at body 0)
recorded s a b Take body = take_recorded s a b (byte_at body 0)
recorded s a b Complete body = complete_recorded s a b (byte_at body 0) (drop 1 body)
recorded s a b Reset body = reset_recorded s a b

-- the length that the code answers, the line that it was lent (before and after), the session and both stores afterwards are what the definition says
pub record Told (r : Recorded) (before after : List ℕ) (size : ℕ) (s : Session) (store0 store1 : List ℕ) : Type 0 where
  pub length_told : size ≡ length r.line
  pub line_told : after ≡ put before 0 r.line
  pub session_told : s ≡ r.session
  pub store0_told : store0 ≡ r.store0
  pub store1_told : store1 ≡ r.store1
  pub short : length r.line ≤ line_room
  pub still_valid : Valid s.endpoint
