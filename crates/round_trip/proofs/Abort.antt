-- An Abort that the requester builds, and what is read of its reply.
-- Assumes nothing.
use Prim.Native.Nat.{ℕ, ◌≤◌}
use mathlib.Core.Path.{◌≡◌, refl, sym, ap, ◌∙◌}
use mathlib.Core.Bool.{true}
use mathlib.Core.List.{List, ◌++◌}
use native.Mathlib.Omega.{arith}
use lib.ListN.{length, take, drop, get_or-append}
use Rattle.lent.specs.Bytes.{byte_at}
use Rattle.machine.specs.State.{reply_message}
use Rattle.machine.specs.Calls.{receive, step}
use Rattle.machine.specs.History.{bytes_from4, is_abort, run, start}
use Rattle.machine.specs.Replies.{csi_of, body_of, reply_of}
use Rattle.machine.specs.Stopping.{abort_told}
use Rattle.machine.proofs.Stopping.{abort_tells, told_stopped}
use Rattle.controller.specs.Send.{primitive_to}
use Rattle.controller.specs.Grounds.{primitive_packet}
use Rattle.round_trip.specs.Primitive.{Comes}
use Rattle.round_trip.specs.Abort.{abort_of, AbortReturns}
use Rattle.round_trip.proofs.Primitive.{is_acting, built, reply_twelve, body_four, primitive_answered}

is_abort_lem : (eid source tag i primitive_tag cpsp : ℕ) → tag ≤ 7 → i ≤ 1 → is_abort i eid (primitive_packet source eid tag (abort_of i primitive_tag cpsp)) ≡ true
is_abort_lem eid source tag i primitive_tag cpsp t is = let a = is_acting eid source tag (abort_of i primitive_tag cpsp) t is in rw (a.0, a.1) refl

pub abort_returns : AbortReturns
abort_returns eid unit store0 store1 a b xs i is r tag primitive_tag cpsp buffer v t room ys n e out s ok size ours awaited =
    let h = run xs (start eid unit store0 store1) in
    let own = h.world.endpoint.eid in
    let p = abort_of i primitive_tag cpsp in
    let packet = take 16 (primitive_to r own tag p buffer).buffer in
    let reply = reply_message (step (receive packet) h.world).world.endpoint.reply in
    let acts : is_abort i own packet ≡ true = ap (is_abort i own) (built r own tag p buffer v t is room).1 ∙ is_abort_lem own r.eid tag i primitive_tag cpsp t is in
    let told : reply ≡ reply_of (bytes_from4 packet) (abort_told h packet i) = (abort_tells eid unit store0 store1 a b xs packet i is acts).1 in
    let twelve : length reply ≡ 12 =
    ap length told ∙ reply_twelve (csi_of (bytes_from4 packet)) (body_of (bytes_from4 packet) (abort_told h packet i)) (body_four (bytes_from4 packet) (abort_told h packet i)) in
    let back : (n ≤ 2) × Comes r.eid own tag reply e = rw out at ((primitive_answered eid unit store0 store1 a b xs r tag p buffer v t is room).1.comes_back ys) in
    let came = (back.1 s ok size ours awaited).came.store_is in
    record {
      store_is = came ∙ ap (λ (m : ℕ). reply ++ drop m s.store) twelve ∙ ap (λ (x : List ℕ). x ++ drop 12 s.store) told;
      stopped =
          λ busy one.
          told_stopped eid unit store0 store1 a b xs packet i is acts busy
          (sym (ap (λ (x : List ℕ). byte_at x 6) came ∙ get_or-append reply (drop (length reply) s.store) 0 6 (omega (arith, twelve))) ∙ one);
    }
