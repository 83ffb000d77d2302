-- A declaration keeps the invariant: the state is what `was_declared` leaves.
use Rattle.std.proofs.Common.{◌≡◌, arith}
use Rattle.std.proofs.lemmas.Grind.{common_steps}
use Rattle.machine.specs.Finish.{was_declared}
use Rattle.machine.proofs.Keeps.{declared_valid}
use Rattle.take.proofs.declare.Goals as goal

pub invariant_of-endpoint : goal.invariant_of-endpoint
unfolding was_declared
invariant_of-endpoint c =
    let e : c.mark.new.endpoint ≡ (was_declared c.endpoint.inside.state c.args.slot c.args.ticket c.args.can).endpoint = grind (arith, common_steps) in
    rw e (declared_valid c.endpoint.inside.state c.args.slot c.args.ticket c.args.can c.endpoint.invariant)
