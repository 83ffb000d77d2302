-- Each way through is a row of `received`, and the numbers and the invariant follow from the row.
use Rattle.std.proofs.Common.{◌≡◌, ℕ, List, sym, rules, arith}
use Rattle.std.proofs.lemmas.Grind.{common_steps}
use Rattle.refusals.specs.Refusals.{numbered}
use Rattle.mctp.proofs.Laws.{packet_sized}
use Rattle.controller.specs.Grounds.{receive_numbers}
use Rattle.controller.specs.Receive.{receive_says, received}
use Rattle.controller.specs.State.{Side, Outcome, side, outcome, Valid}
use Rattle.controller.proofs.Grounds.{received_so}
use Rattle.controller.proofs.Keeps.{received_valid}
use Rattle.requester_receive.proofs.receive.Goals as goal

module _ (s : Side) (p : List ℕ) (v : Valid s.requester) {o : Outcome} (row : o ≡ received s p) where
  numbers : receive_says o.answer ≡ receive_numbers s p
  numbers = rw row (received_so s p v).number_is

  stays : Valid o.side.requester
  stays = rw row (received_valid s p v)

pub returns-in_default-read-clause-leaves : goal.returns-in_default-read-clause-leaves
unfolding received
returns-in_default-read-clause-leaves c = grind (arith, common_steps)

pub returns-in_default-read-clause-answer_value : goal.returns-in_default-read-clause-answer_value
returns-in_default-read-clause-answer_value c = numbers _ _ (rw (← c.requester.view_is) c.requester.invariant) (returns-in_default-read-clause-leaves c)

-- a header that is read
pub take_in-requires : goal.take_in-requires
take_in-requires c = let z = packet_sized _ _ _ _ (sym c.in-Ok.ensures.value) in (c.requester.invariant, z.0, z.1)

pub returns-clause-leaves : goal.returns-clause-leaves
unfolding received
returns-clause-leaves c = search rules

pub returns-clause-answer_value : goal.returns-clause-answer_value
returns-clause-answer_value c = numbers _ _ (rw (← c.requester.view_is) c.requester.invariant) (returns-clause-leaves c)

pub invariant_of-requester : goal.invariant_of-requester
unfolding received
invariant_of-requester c =
    let a = c.args in
    let t = c.take_in in
    let s = side c.requester.inside.state a.store.now in
    let row : outcome (numbered t.result) (side t.new.requester t.new.store) ≡ received s a.packet.now = search rules in
    stays s a.packet.now c.requester.invariant row
