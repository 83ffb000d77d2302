-- Where the run begins, and where a turn, a write and a read take it.
use Rattle.std.proofs.Common.{◌∙◌, sym, arith}
use Rattle.mi_log.specs.Run.{held, unread}
use Rattle.mi_log.proofs.Places.{input_is, refilled_on, flushed_places, flushed_unread, flushed_empty}
use Rattle.mi_log.proofs.Whole.{ran_as, ran_start, ran_turn, ran_read, ran_write}
use Rattle.mi_log.proofs.run_all.Goals as goal

pub loop-init : goal.loop-init
loop-init g c =
    let a = c.args in
    let b = c.begin.ensures in (
      record { first = omega arith; last = omega arith },
      λ _. rw c.requires.out_empty (omega arith),
      ran_start _ _ a.out.now.items a.store0.now a.store1.now b c.requires.out_empty c.requires.stores_zero.0 c.requires.stores_zero.1,
    )

pub refill-requires : goal.refill-requires
refill-requires g c =
    let places = flushed_places _ _ _ c.make_room.ensures.leaves c.turn.ensures.within in
    (places.first, places.last)

pub loop-preserved : goal.loop-preserved
loop-preserved g c =
    let f = c.refill.ensures.refilled in
    let o = c.make_room.ensures.leaves in
    let t = c.turn in
    let a = t.new.store0 in
    let b = t.new.store1 in
    let h = held t.new.run (unread t.new.run c.loop.buf) t.new.out.items a b in
    let placed = input_is c.loop.buf (o _ a b) (flushed_unread _ _ h c.loop.buf) in
    let on = sym c.is_on.ensures ∙ c.if-not-is_on.false in (
      record { first = c.refill.ensures.at_le_end.0; last = c.refill.ensures.at_le_end.1 },
      λ on. c.make_room.ensures.room_left (refilled_on f on),
      ran_as (f.left _ a b)
          (ran_read _ f.given f.piece (flushed_empty _ _ h placed)
          (ran_as placed (ran_write h _ (ran_as t.ensures.leaves (ran_turn _ on c.loop.invariant.2))))),
    )
