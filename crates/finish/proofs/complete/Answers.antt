-- Completing keeps the invariant: the state is what `completed` leaves.
use Rattle.std.proofs.Common.{◌≡◌, arith, subst, sym}
use Rattle.std.proofs.lemmas.Grind.{common_steps}
use Rattle.refusals.specs.Refusals.{answer_number}
use Rattle.machine.specs.State.{World, outcome, world}
use Rattle.machine.specs.Finish.{completed}
use Rattle.machine.proofs.Keeps.{completed_valid}
use Rattle.slots.proofs.Stores.{Stays}
use Rattle.finish.proofs.complete.Goals as goal

pub invariant_of-endpoint : goal.invariant_of-endpoint
unfolding completed
invariant_of-endpoint c =
    let a = c.args in
    let w : World = world c.endpoint.inside.state a.store0.now a.store1.now in
    let d = c.answer in
    let e : outcome (answer_number d.result) (world d.new.endpoint d.new.store0 d.new.store1) ≡ completed w a.slot a.ticket a.body.now = grind (arith, common_steps) in
    subst Stays (sym e) (completed_valid w a.slot a.ticket a.body.now c.endpoint.invariant)
