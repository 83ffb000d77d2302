-- The calls on one endpoint, and what one of them does to the endpoint and both stores. Setup is none of them: it starts a list of calls.
-- Any slot number, ticket, bytes and buffer may be given, so refused calls are calls too.
-- Assumes nothing.
use Rattle.std.specs.Prelude.{ℕ, Bool, true, false, List, [], ◌∷◌, Option, Result, take}
use Rattle.machine.specs.State.{World, Outcome, Done, ticket, world, with_endpoint}
use Rattle.machine.specs.Receive.{received}
use Rattle.machine.specs.Finish.{TakeDone, taken, take_says, part, completed, was_declared, timed_out, was_reset, was_set_up}
use Rattle.machine.specs.Poll.{Polled, poll_says, polled}
use Rattle.machine.specs.Types.{Ticket}

pub data Call : Type 0 where
  -- a packet
  receive : List ℕ → Call
  -- a slot number
  take! : ℕ → Call
  read : ℕ → Call
  -- a slot number, a ticket, the body
  complete : ℕ → Ticket → List ℕ → Call
  -- a slot number, a ticket, whether the taken command can still be stopped
  declare : ℕ → Ticket → Bool → Call
  -- the lent buffer
  poll : List ℕ → Call
  timeout : ℕ → Call
  reset : Call

-- CALLS BY KIND. What is said of a call that receives a packet, of one that polls with a buffer, of a reset, and of every other.
abbrev pub of_call : {A : Type 0} → (List ℕ → A) → (List ℕ → A) → A → A → Call → A
of_call received polled was_reset other (receive p) = received p
of_call received polled was_reset other (take! i) = other
of_call received polled was_reset other (read i) = other
of_call received polled was_reset other (complete i t body) = other
of_call received polled was_reset other (declare i t can) = other
of_call received polled was_reset other (poll buffer) = polled buffer
of_call received polled was_reset other (timeout i) = other
of_call received polled was_reset other reset = was_reset

-- a plain call sends nothing and keeps the turn: every one but a poll and a reset
abbrev pub is_plain : Call → Bool
is_plain = of_call (λ p. true) (λ buffer. false) false true

-- what a call answers
pub data Event : Type 0 where
  number : ℕ → Event
  given : Ticket → Event
  part_read : List ℕ → Event
  -- answer 1 of a poll, with the packet that it handed out
  handed_out : List ℕ → Event

pub record Stepped : Type 0 where
  pub event : Event
  pub world : World

abbrev pub stepped : Event → World → Stepped
stepped v w = record { event = v; world = w }

-- ---- what each call answers, as an event

abbrev pub by_outcome : Outcome → Stepped
by_outcome o = stepped (number o.answer) o.world

abbrev pub by_done : World → Done → Stepped
by_done w d = stepped (number d.answer) (with_endpoint w d.endpoint)

-- a number alone, or with the value behind it
abbrev pub number_or : (ℕ → Event) → ℕ → List ℕ → Event
number_or f n [] = number n
number_or f n (value ∷ values) = f value

abbrev pub take_event : Result Ticket ℕ → Event
take_event a = number_or (λ t. given (ticket t)) (take_says a).0 (take_says a).1

abbrev pub by_take : World → TakeDone → Stepped
by_take w d = stepped (take_event d.answer) (with_endpoint w d.endpoint)

abbrev pub poll_event : List ℕ → Result (Option ℕ) ℕ → Event
poll_event buffer a = number_or (λ n. handed_out (take n buffer)) (poll_says a).0 (poll_says a).1

abbrev pub by_poll : World → Polled → Stepped
by_poll w p = stepped (poll_event p.buffer p.answer) (with_endpoint w p.endpoint)

-- ---- one call

unfoldable pub step : Call → World → Stepped
unfolding received taken part completed was_declared polled timed_out was_reset
step (receive packet) w = by_outcome (received w packet)
step (take! i) w = by_take w (taken w.endpoint i)
step (read i) w = stepped (part_read (part w i)) w
step (complete i t body) w = by_outcome (completed w i t body)
step (declare i t can) w = by_done w (was_declared w.endpoint i t can)
step (poll buffer) w = by_poll w (polled w buffer)
step (timeout i) w = by_done w (timed_out w.endpoint i)
step reset w = by_done w (was_reset w.endpoint)

-- the world at the start of a list of calls: setup's state, whatever it answered, and any bytes in the stores
unfoldable pub begin : ℕ → ℕ → List ℕ → List ℕ → World
unfolding was_set_up
begin eid unit store0 store1 = world (was_set_up eid unit).endpoint store0 store1

-- what the calls of a list answer, one after the other
unfoldable pub events : List Call → World → List Event
unfolding step
events [] w = []
events (c ∷ cs) w = (step c w).event ∷ events cs (step c w).world
