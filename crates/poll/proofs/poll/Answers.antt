-- A poll keeps the invariant, and answers the document's number: it gives what `polled` does.
use Rattle.std.proofs.Common.{◌≡◌, ℕ, List, Ok, ap, arith, subst, sym}
use Rattle.std.proofs.lemmas.Grind.{common_steps}
use Rattle.machine.specs.State.{World, world}
use Rattle.machine.specs.Poll.{Polled, polled, polled_to, poll_says}
use Rattle.machine.specs.Numbers.{poll_number}
use Rattle.machine.specs.Valid.{Valid}
use Rattle.machine.proofs.Keeps.{polled_valid}
use Rattle.machine.proofs.Numbers.{poll_numbers}
use Rattle.poll.proofs.poll.Goals as goal

pub returns-clause-answer_value : goal.returns-clause-answer_value
unfolding polled
returns-clause-answer_value c =
    let a = c.args in
    let w : World = world a.endpoint.now a.store0.now a.store1.now in
    let d = c.hand_out in
    let e : polled_to (Ok d.result) d.new.endpoint d.new.buffer ≡ polled w a.buffer.now = grind (arith, common_steps) in
    let valid : Valid a.endpoint.now = rw (← c.endpoint.view_is) c.endpoint.invariant in
    subst (λ (p : Polled). (poll_says p.answer).0 ≡ poll_number w a.buffer.now) (sym e) (ap (λ (x : ℕ × List ℕ). x.0) (poll_numbers w a.buffer.now valid))

pub invariant_of-endpoint : goal.invariant_of-endpoint
unfolding polled
invariant_of-endpoint c =
    let a = c.args in
    let w : World = world c.endpoint.inside.state a.store0.now a.store1.now in
    let d = c.hand_out in
    let e : polled_to (Ok d.result) d.new.endpoint d.new.buffer ≡ polled w a.buffer.now = grind (arith, common_steps) in
    subst (λ (p : Polled). Valid p.endpoint) (sym e) (polled_valid w a.buffer.now c.endpoint.invariant)
