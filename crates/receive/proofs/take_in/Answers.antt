-- A refusal leaves both stores as they are: what `flagged` promises holds whatever they hold.
use Rattle.std.proofs.Common.{arith}
use Rattle.std.proofs.lemmas.Grind.{common_steps}
use Rattle.machine.specs.Receive.{received}
use Rattle.receive.proofs.take_in.Goals as goal

pub returns-in_default : goal.returns-in_default
unfolding received
returns-in_default c = grind (arith, common_steps, c.flagged.ensures c.args.store0.now c.args.store1.now)
