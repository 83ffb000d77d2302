-- AN ANSWER COMES BACK TO ITS QUESTION: the way there and the way back as one statement, from the requester's cut to the requester's store. The proof:
-- `answer_returns` (proofs/Answer).
-- Assumes nothing.
use Rattle.std.specs.Prelude.{ℕ, ◌+◌, ◌^◌, ◌≤◌, ◌<◌, ◌≡◌, true, false, List, [], length}
use Rattle.opening.specs.Formed.{WellFormed}
use Rattle.machine.specs.Calls.{Call, take!, complete, number, given, step}
use Rattle.machine.specs.History.{History, phase_at, response_for, fixed_at_entry, unit_of, next, run}
use Rattle.machine.specs.Demands.{Every, is_idle_now, fate, delivered}
use Rattle.machine.specs.Replies.{csi_of}
use Rattle.machine.specs.declared.Ticket.{Ticket}
use Rattle.controller.specs.State.{Side, Valid}
use Rattle.controller.specs.Send.{cut_to}
use Rattle.controller.specs.Grounds.{is_awaited, size_of, packets_in}
use Rattle.controller.specs.Arrival.{Gathered}
use Rattle.round_trip.specs.Command.{receives}
use Rattle.round_trip.specs.Response.{sent_until}

-- the history once the requester's packets of a command were received
abbrev pub asked : History → Side → ℕ → List ℕ → List ℕ → History
asked h s tag m buffer = run (receives (packets_in s.requester.unit m (cut_to s.requester h.world.endpoint.eid tag m buffer))) h

-- then: any calls `us`, a take of slot i, any calls `ys`, and a completion
abbrev pub after_take : ℕ → List Call → History → History
after_take i us h = next (take! i) (run us h)

abbrev pub before_completion : ℕ → List Call → List Call → History → History
before_completion i us ys h = run ys (after_take i us h)

abbrev pub completed : ℕ → List Call → List Call → Ticket → List ℕ → History → History
completed i us ys t body h = next (complete i t body) (before_completion i us ys h)

-- A history in which the command m has come to slot i. No other command of the slot comes before the take; the take gives the ticket t; a completion with
-- that ticket is accepted, fewer than 2^32 commands of the slot later; and along `zs` the response's last packet is handed out. Then the requester gathers
-- the slot's packets to the response to m with that body.
abbrev pub ComesBack : Side → ℕ → List ℕ → History → Type 0
ComesBack s i m h =
    (t : Ticket) (body : List ℕ) (us ys zs : List Call) (d : History) → ((run us h).trace i).entries ≡ (h.trace i).entries
    → (step (take! i) (run us h).world).event ≡ given t → ((before_completion i us ys h).trace i).entries < (h.trace i).entries + 2 ^ 32
    → (step (complete i t body) (before_completion i us ys h).world).event ≡ number 0 → fate i zs (completed i us ys t body h) ≡ delivered d
    → Gathered s (response_for i m body) (sent_until i zs (completed i us ys t body h))

-- Any list of calls from any setup. A requester with the endpoint's unit that awaits the endpoint's EID and a tag cuts a well-formed command under that tag, while the command's slot
-- is Idle and where no test at entry answers; the endpoint receives the packets. What then comes back is the response to that very command.
abbrev pub AnswerReturns : Type 0
AnswerReturns =
    Every (λ h. (s : Side) (tag : ℕ) (m buffer : List ℕ) → Valid s.requester → length s.store ≡ 4224 → s.requester.unit ≡ unit_of h.world
    → is_awaited h.world.endpoint.eid tag s.requester.awaiting ≡ true → WellFormed false m → size_of s.requester.unit m ≤ length buffer
    → is_idle_now (phase_at h.world (csi_of m)) ≡ true → fixed_at_entry (csi_of m) m ≡ [] → ComesBack s (csi_of m) m (asked h s tag m buffer))
