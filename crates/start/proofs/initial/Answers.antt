-- A new endpoint has the invariant.
use Rattle.machine.proofs.Keeps.{initial_valid}
use Rattle.start.proofs.initial.Goals as goal

pub invariant_of-result : goal.invariant_of-result
invariant_of-result c = rw c.started.ensures (initial_valid c.args.eid c.args.unit c.requires)
