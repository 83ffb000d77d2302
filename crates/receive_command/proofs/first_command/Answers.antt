-- A slot that is not Idle refuses, and `refused_busy` is promised whatever the stores hold.
use Rattle.std.proofs.Common.{arith}
use Rattle.std.proofs.lemmas.Grind.{common_steps}
use Rattle.machine.specs.Receive.{first_command}
use Rattle.receive_command.proofs.first_command.Goals as goal

pub returns-then-not-matches : goal.returns-then-not-matches
unfolding first_command
returns-then-not-matches c = grind (arith, common_steps, c.refused_busy.ensures c.args.store0.now c.args.store1.now)
