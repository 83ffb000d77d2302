-- A refusal leaves both stores as they are: what `flagged` promises holds whatever they hold.
use Rattle.std.proofs.Common.{arith}
use Rattle.std.proofs.lemmas.Grind.{common_steps}
use Rattle.machine.specs.Receive.{first}
use Rattle.receive.proofs.first.Goals as goal

pub returns-in-Err : goal.returns-in-Err
unfolding first
returns-in-Err c = grind (arith, common_steps, c.flagged.ensures c.args.store0.now c.args.store1.now)
