-- The response in the store of its slot: what `responded` leaves of that store alone is what it leaves of the endpoint and both.
use Rattle.std.proofs.Common.{ap, arith, eq-eqb, length}
use borrow.Author.Tests.{le-ltb, ne_eqb}
use Rattle.machine.specs.State.{outcome}
use Rattle.finish.proofs.answer.Goals as goal

pub returns-then-slot-eq0 : goal.returns-then-slot-eq0
returns-then-slot-eq0 c =
    let n = length c.args.body.now in
    rw (le-ltb _ _ c.if-body-lt-SHORTEST_BODY.false, le-ltb 4216 n (omega arith))
    (ap (outcome 0) (rw (eq-eqb _ 0 c.if-slot-eq0.true) at (c.respond.ensures c.args.store1.now)))

pub returns-else-slot-eq0 : goal.returns-else-slot-eq0
returns-else-slot-eq0 c =
    let n = length c.args.body.now in
    rw (le-ltb _ _ c.if-body-lt-SHORTEST_BODY.false, le-ltb 4216 n (omega arith))
    (ap (outcome 0) (rw (ne_eqb _ 0 c.if-slot-eq0.false) at (c.respond-else-slot-eq0.ensures c.args.store0.now)))
