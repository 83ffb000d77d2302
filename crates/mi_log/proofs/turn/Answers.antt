-- The head decides the row of `turned`.
use Rattle.std.proofs.Common.{refl, ap, sym, ◌∙◌, arith, length-take, length-drop, Some, None, Ok, Err}
use native.Mathlib.Nat.{le_refl}
use Rattle.log_session.specs.Whole.{bad_line}
use Rattle.log_records.proofs.Heads.{whole}
use Rattle.mi_log.specs.Run.{Held, held, unread}
use Rattle.mi_log.proofs.Places.{by_head_lem, input_is, within_as, over_within, missed_within, missed_unread, unread_behind}
use Rattle.mi_log.proofs.turn.Goals as goal

pub do_record-requires-clause-whole : goal.do_record-requires-clause-whole
do_record-requires-clause-whole c =
    let a = c.args in
    let facts = rw (sym c.read_head.ensures ∙ c.in-Ok-Some.is ∙ ap Ok c.in-Ok-Some.field-0-is) at (whole (unread a.run.now a.buf.now)) in
    (facts.0, facts.1, simp (length-take, length-drop) (omega arith))

pub returns-in-Err-clause-leaves : goal.returns-in-Err-clause-leaves
returns-in-Err-clause-leaves c =
    let a = c.args in
    let input = unread a.run.now a.buf.now in
    by_head_lem (held a.run.now input a.out.now.items a.store0.now a.store1.now) (Err _) (sym c.read_head.ensures ∙ c.in-Err.is)
    (input_is a.buf.now (c.end_as_bad.ensures input a.store0.now a.store1.now) refl)

pub returns-in-Err-clause-within : goal.returns-in-Err-clause-within
returns-in-Err-clause-within c =
    let a = c.args in
    let h = held a.run.now (unread a.run.now a.buf.now) a.out.now.items a.store0.now a.store1.now in
    within_as (over_within h bad_line c.requires.within) (ap (λ (x : Held). x.run) (c.end_as_bad.ensures h.input a.store0.now a.store1.now)) (le_refl _)

pub returns-in-Ok-None-clause-leaves : goal.returns-in-Ok-None-clause-leaves
returns-in-Ok-None-clause-leaves c =
    let a = c.args in
    let h = held a.run.now (unread a.run.now a.buf.now) a.out.now.items a.store0.now a.store1.now in
    by_head_lem h (Ok None) (sym c.read_head.ensures ∙ c.in-Ok-None.is ∙ ap Ok c.in-Ok-None.field-0-is) (input_is a.buf.now (c.ask_for_more.ensures a.store0.now a.store1.now) (missed_unread h a.buf.now))

pub returns-in-Ok-None-clause-within : goal.returns-in-Ok-None-clause-within
returns-in-Ok-None-clause-within c =
    let a = c.args in
    let h = held a.run.now (unread a.run.now a.buf.now) a.out.now.items a.store0.now a.store1.now in
    within_as (missed_within h c.requires.within) (ap (λ (x : Held). x.run) (c.ask_for_more.ensures a.store0.now a.store1.now)) (le_refl _)

pub returns-in-Ok-Some-clause-leaves : goal.returns-in-Ok-Some-clause-leaves
returns-in-Ok-Some-clause-leaves c =
    let a = c.args in
    let h = held a.run.now (unread a.run.now a.buf.now) a.out.now.items a.store0.now a.store1.now in
    by_head_lem h (Ok (Some _)) (sym c.read_head.ensures ∙ c.in-Ok-Some.is ∙ ap Ok c.in-Ok-Some.field-0-is) (input_is a.buf.now c.do_record.ensures.leaves (unread_behind a.run.now a.buf.now _))
