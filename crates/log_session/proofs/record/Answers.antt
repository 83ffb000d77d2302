-- A timeout, a take and a reset leave both stores as they are.
use Rattle.log_session.specs.Log.{recorded}
use Rattle.log_session.proofs.record.Goals as goal

pub returns-in-Timeout : goal.returns-in-Timeout
unfolding recorded
returns-in-Timeout c = rw (c.in-Timeout.is, ← c.from.ensures) (c.timeout_record.ensures c.args.store0.now c.args.store1.now)

pub returns-in-Take : goal.returns-in-Take
unfolding recorded
returns-in-Take c = rw (c.in-Take.is, ← c.from-in-Take.ensures) (c.take_record.ensures c.args.store0.now c.args.store1.now)

pub returns-in-Reset : goal.returns-in-Reset
unfolding recorded
returns-in-Reset c = rw c.in-Reset.is (c.reset_record.ensures c.args.store0.now c.args.store1.now)
