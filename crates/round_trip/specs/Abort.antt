-- WHAT A CONTROLLER READS OF AN ABORT, of document 02: from the requester's primitive to the requester's store. The proof: `abort_returns`
-- (proofs/Abort).
-- Assumes nothing.
use Rattle.std.specs.Prelude.{ℕ, ◌≤◌, ◌≡◌, true, List, ◌++◌, length, take, drop}
use Rattle.lent.specs.Bytes.{byte_at}
use Rattle.machine.specs.Calls.{Call, receive, Event, step}
use Rattle.machine.specs.History.{History, bytes_from4, phase_at, run, start}
use Rattle.machine.specs.Demands.{is_process}
use Rattle.machine.specs.Replies.{reply_of, sent, reply_fate}
use Rattle.machine.specs.Stopping.{abort_told, Stopped}
use Rattle.controller.specs.State.{Side, Valid}
use Rattle.controller.specs.Send.{primitive_to}
use Rattle.controller.specs.Receive.{received}
use Rattle.controller.specs.Grounds.{is_awaited}
use Rattle.controller.specs.declared.Primitive.{Primitive}
use Rattle.controller.specs.declared.Requester.{Requester}
use Rattle.round_trip.specs.Response.{bytes_handed_out}

-- an Abort of slot i, as the requester builds it
abbrev pub abort_of : ℕ → ℕ → ℕ → Primitive
abort_of i tag cpsp = record { slot = i; opcode = 2; tag = tag; cpsp = cpsp }

-- the Abort in this packet came behind the calls xs; a requester before and after it got the reply
pub record Reads (first : History) (i : ℕ) (xs : List Call) (packet : List ℕ) (before after : Side) : Type 0 where
  -- the reply is at the front of its store, and its CPSR is what the calls have declared of the command
  pub store_is : after.store ≡ reply_of (bytes_from4 packet) (abort_told (run xs first) packet i) ++ drop 12 before.store
  -- where that is 1, of a command in Process, the command has no leave to begin and gets none
  pub stopped : is_process (phase_at (run xs first).world i) ≡ true → byte_at after.store 6 ≡ 1 → Stopped first i xs (receive packet)

-- Any list of calls from any setup; any requester builds an Abort of slot i, under any tag, in any buffer of at least 16 bytes; the endpoint receives
-- it, and any calls follow along which the reply is handed out; a requester of that EID which awaits it gets it. (`primitive_answered` says that it
-- is handed out by the second poll with room.)
abbrev pub AbortReturns : Type 0
AbortReturns =
    (eid unit : ℕ) (store0 store1 : List ℕ) → length store0 ≡ 4224 → length store1 ≡ 4224 → (xs : List Call) (i : ℕ) → i ≤ 1
    → (r : Requester) (tag primitive_tag cpsp : ℕ) (buffer : List ℕ) → Valid r → tag ≤ 7 → 16 ≤ length buffer
    → let h = run xs (start eid unit store0 store1) in
    let packet = take 16 (primitive_to r h.world.endpoint.eid tag (abort_of i primitive_tag cpsp) buffer).buffer in
    (ys : List Call) (n : ℕ) (v : Event) → reply_fate 0 ys (step (receive packet) h.world).world ≡ sent n v
    → (s : Side) → Valid s.requester → length s.store ≡ 4224 → s.requester.eid ≡ r.eid → is_awaited h.world.endpoint.eid tag s.requester.awaiting ≡ true
    → Reads (start eid unit store0 store1) i xs packet s (received s (bytes_handed_out v)).side
