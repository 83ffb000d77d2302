-- A refusal leaves both stores as they are: what `flagged` promises holds whatever they hold.
use Rattle.std.proofs.Common.{arith}
use Rattle.std.proofs.lemmas.Grind.{common_steps}
use Rattle.machine.specs.Receive.{later, later_at}
use Rattle.receive_command.proofs.later.Goals as goal

pub returns-in_default : goal.returns-in_default
unfolding later
returns-in_default c = grind (arith, common_steps, c.flagged.ensures c.args.store0.now c.args.store1.now)

pub returns-in-Err : goal.returns-in-Err
unfolding later later_at
returns-in-Err c = grind (arith, common_steps, c.flagged-in-Err.ensures c.args.store0.now c.args.store1.now)
