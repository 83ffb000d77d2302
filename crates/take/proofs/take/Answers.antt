-- A take keeps the invariant: the state is what `taken` leaves.
use Rattle.std.proofs.Common.{◌≡◌, arith}
use Rattle.std.proofs.lemmas.Grind.{common_steps}
use Rattle.machine.specs.Finish.{taken}
use Rattle.machine.proofs.Keeps.{taken_valid}
use Rattle.take.proofs.take.Goals as goal

pub invariant_of-endpoint : goal.invariant_of-endpoint
unfolding taken
invariant_of-endpoint c =
    let e : c.mark.new.endpoint ≡ (taken c.endpoint.inside.state c.args.slot).endpoint = grind (arith, common_steps) in
    rw e (taken_valid c.endpoint.inside.state c.args.slot c.endpoint.invariant)
