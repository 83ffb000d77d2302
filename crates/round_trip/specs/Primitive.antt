-- A CONTROL PRIMITIVE that the requester builds is answered, and its reply comes back. The proof: `primitive_answered` (proofs/Primitive).
-- Assumes nothing.
use Rattle.std.specs.Prelude.{ℕ, ◌≤◌, ◌<◌, ◌≡◌, true, List, [], ◌∷◌, length, take}
use Rattle.machine.specs.State.{World, reply_message}
use Rattle.machine.specs.Calls.{Call, receive, Event, number, step}
use Rattle.machine.specs.Demands.{Every}
use Rattle.machine.specs.Replies.{Replied, ReplyFate, replaced, sent, waiting, reply_fate}
use Rattle.controller.specs.State.{Side, Valid}
use Rattle.controller.specs.Send.{send_says, primitive_to}
use Rattle.controller.specs.Receive.{receive_says, received}
use Rattle.controller.specs.Grounds.{is_awaited}
use Rattle.controller.specs.Arrival.{Came}
use Rattle.controller.specs.declared.Primitive.{Primitive}
use Rattle.controller.specs.declared.Requester.{Requester}
use Rattle.round_trip.specs.Response.{bytes_handed_out}

-- a packet is gathered as this control reply: answer 2, length 12, the reply at the store's front, nothing awaited
pub record GatheredReply (s : Side) (reply packet : List ℕ) : Type 0 where
  pub answered : receive_says (received s packet).answer ≡ (2, 12 ∷ [])
  pub came : Came s reply (received s packet).side

-- by any requester with this EID that awaits this source and tag
abbrev pub Comes : ℕ → ℕ → ℕ → List ℕ → Event → Type 0
Comes eid source tag reply v =
    (s : Side) → Valid s.requester → length s.store ≡ 4224 → s.requester.eid ≡ eid → is_awaited source tag s.requester.awaiting ≡ true → GatheredReply s reply (bytes_handed_out v)

-- what happens first to the reply that waits: a newer one replaces it or a reset takes it away; or it is handed out by the second poll with room, and comes
abbrev pub ComesBack : ℕ → ℕ → ℕ → List ℕ → ReplyFate → Type 0
ComesBack eid source tag reply replaced = Unit {0}
ComesBack eid source tag reply (sent n v) = (n ≤ 2) × Comes eid source tag reply v
ComesBack eid source tag reply (waiting n e) = n < 2

-- a packet with a primitive, received in the world w
pub record Answered (r : Requester) (tag : ℕ) (w : World) (packet : List ℕ) : Type 0 where
  pub done : (step (receive packet) w).event ≡ number 2
  -- the reply that waits then belongs to it: `Replied` says what it carries, for whom, and what the primitive left
  pub replied : Replied w packet (step (receive packet) w).world
  pub comes_back :
      (ys : List Call)
      → ComesBack r.eid w.endpoint.eid tag (reply_message (step (receive packet) w).world.endpoint.reply) (reply_fate 0 ys (step (receive packet) w).world)

-- Any list of calls from any setup; any requester, whatever its unit, since a primitive and its reply are one packet each at every unit; any tag, slot, opcode, TAG and CPSP; any buffer of at least 16 bytes; any later list of calls.
abbrev pub PrimitiveAnswered : Type 0
PrimitiveAnswered =
    Every (λ h. (r : Requester) (tag : ℕ) (p : Primitive) (buffer : List ℕ) → Valid r → tag ≤ 7 → p.slot ≤ 1 → 16 ≤ length buffer
    → (send_says (primitive_to r h.world.endpoint.eid tag p buffer).answer ≡ (0, 16 ∷ []))
    × Answered r tag h.world (take 16 (primitive_to r h.world.endpoint.eid tag p buffer).buffer))
