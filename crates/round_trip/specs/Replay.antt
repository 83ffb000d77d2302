-- A LOST RESPONSE COMES AGAIN: what a Replay sends, of document 02, from the requester's primitive to the requester's store. The proofs:
-- `replay_same`, `replay_returns` (proofs/Replay).
-- Assumes nothing.
use Rattle.std.specs.Prelude.{ℕ, ◌≤◌, ◌≡◌, true, List, [], ◌∷◌, Some, length, take}
use Rattle.machine.specs.Calls.{Call, receive}
use Rattle.machine.specs.History.{History, next, run}
use Rattle.machine.specs.Demands.{Every, fate, delivered}
use Rattle.machine.specs.Replays.{held_at, is_replay, SentAgain}
use Rattle.machine.specs.declared.Response.{Response}
use Rattle.controller.specs.State.{Valid}
use Rattle.controller.specs.Send.{send_says, primitive_to}
use Rattle.controller.specs.declared.Primitive.{Primitive}
use Rattle.controller.specs.declared.Requester.{Requester}
use Rattle.round_trip.specs.Response.{is_unsent, sent_until, Returned}

-- THE SAME BYTES AGAIN. Any list of calls from any setup, after which slot i has a response of which no packet went; the calls `ys`, along which
-- its last packet is handed out; any calls `zs` with which no other command of the slot comes in and which leave it holding the response, replays
-- of it among them; then a Replay, and the calls `us`, along which the last packet is handed out again. What the slot hands out is then, packet by
-- packet and byte for byte, what it handed out the first time.
abbrev pub ReplaySame : Type 0
ReplaySame =
    Every (λ h. (i : ℕ) → i ≤ 1 → is_unsent i h ≡ true → (ys : List Call) (d : History) → fate i ys h ≡ delivered d
    → (zs : List Call) (p : List ℕ) (r : Response) → ((run zs d).trace i).entries ≡ (h.trace i).entries → held_at (run zs d).world i ≡ Some r
    → is_replay i (run zs d).world.endpoint.eid p ≡ true → (us : List Call) (k : History) → fate i us (next (receive p) (run zs d)) ≡ delivered k
    → sent_until i us (next (receive p) (run zs d)) ≡ sent_until i ys h)

-- a Replay of slot i, as the requester builds it
abbrev pub replay_of : ℕ → ℕ → Primitive
replay_of i tag = record { slot = i; opcode = 4; tag = tag; cpsp = 0 }

-- a Replay in packet p of a slot that holds its response
pub record ComesAgain (h : History) (i : ℕ) (p : List ℕ) : Type 0 where
  pub is_sent_again : SentAgain h i p
  -- where the last packet is handed out again, any requester that has the endpoint's unit and the EID from which the command came, and awaits the endpoint's EID and the
  -- command's tag gathers the response
  pub returned : (ys : List Call) (k : History) → fate i ys (next (receive p) h) ≡ delivered k → Returned i h (sent_until i ys (next (receive p) h))

-- Any list of calls from any setup, after which slot i holds a response; any requester builds a Replay for the slot, under any tag, in any buffer
-- of at least 16 bytes. The endpoint answers it with CPSR 1 and sends the response again. (`primitive_answered` says how the reply comes back,
-- `replay_arrives` that the last packet is handed out.)
abbrev pub ReplayReturns : Type 0
ReplayReturns =
    Every (λ h. (i : ℕ) → i ≤ 1 → (held : Response) → held_at h.world i ≡ Some held → (r : Requester) (tag primitive_tag : ℕ) (buffer : List ℕ) → Valid r → tag ≤ 7
    → 16 ≤ length buffer
    → (send_says (primitive_to r h.world.endpoint.eid tag (replay_of i primitive_tag) buffer).answer ≡ (0, 16 ∷ []))
    × ComesAgain h i (take 16 (primitive_to r h.world.endpoint.eid tag (replay_of i primitive_tag) buffer).buffer))
