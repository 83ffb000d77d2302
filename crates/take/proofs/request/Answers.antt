-- The invariant's bound on a request's length.
use Rattle.std.proofs.Common.{arith}
use Rattle.machine.specs.State.{slot_at}
use Rattle.machine.proofs.Slots.{facts_at}
use Rattle.machine.proofs.Invariant.{of_facts}
use Rattle.take.proofs.request.Goals as goal

pub part_of-requires : goal.part_of-requires
part_of-requires c =
    let e = c.endpoint.inside.state in
    let n = c.in-Ok-try_from.slot.number in
    let s = slot_at e n in
    (of_facts e.unit s.paused s.phase (facts_at n (omega (arith, c.in-Ok-try_from.slot.is_slot)) c.endpoint.invariant)).fits
