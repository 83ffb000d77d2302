-- The invariant bounds the response that goes: it has a packet left, and fits its store.
use Rattle.std.proofs.Common.{◌≡◌, ℕ, ◌*◌, ◌<◌, ◌≤◌, Some, sym}
use Rattle.machine.specs.Wire.{store_size}
use Rattle.machine.specs.Poll.{ready}
use Rattle.machine.specs.Valid.{Valid}
use Rattle.machine.specs.declared.Outgoing.{Outgoing}
use Rattle.machine.specs.declared.Endpoint.{Endpoint}
use Rattle.machine.proofs.Slots.{facts_at}
use Rattle.machine.proofs.Keeps.{ready_at}
use Rattle.poll.proofs.hand_out.Goals as goal

bounds : (e : Endpoint) → Valid e → {i : ℕ} {r : Outgoing} → Some (i, r) ≡ ready e → (e.unit * r.sent < r.response.length) × (r.response.length ≤ store_size)
bounds e v {i} {r} h =
    let k = ready_at e v (sym h) in
    let f = rw k.sends at (facts_at i k.slot_is v) in
    (f.0, f.1.most)

pub send_command-requires-clause-sent_bound : goal.send_command-requires-clause-sent_bound
send_command-requires-clause-sent_bound c = bounds c.args.endpoint.now c.requires.0 c.in_ok-slot.ensures
