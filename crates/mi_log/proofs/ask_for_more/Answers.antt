-- The input has ended in a record: `bad` is the last line.
use Rattle.std.proofs.Common.{◌∙◌, sym}
use borrow.Author.Tests.{eqb-false}
use Rattle.log_session.specs.Whole.{bad_line}
use Rattle.mi_log.specs.Run.{held}
use Rattle.mi_log.proofs.Places.{cut, missed_ended}
use Rattle.mi_log.proofs.ask_for_more.Goals as goal

pub returns-else-is_empty : goal.returns-else-is_empty
returns-else-is_empty c =
    let a = c.args in
    λ x y. c.end_as_bad.ensures a.input.now x y
    ∙ missed_ended (held a.run.now a.input.now a.out.now.items x y) bad_line c.if-not-run.false (cut a.input.now (eqb-false _ _ (sym c.is_empty.ensures ∙ c.if-is_empty.false)))
