-- What was unread stands at the front, and behind it what the read gave.
use Rattle.std.proofs.Common.{◌≡◌, ◌-◌, ◌≤◌, ◌++◌, [], ℕ, List, length, take, drop, arith, append-nil, length-drop, refl, sym, ◌∙◌}
use lib.ListN.{drop_of_length-le}
use borrow.Rule.Slice.PartMut.{put_mid, post_of}
use Rattle.mi_log.proofs.Places.{read_in, read_lost}
use Rattle.mi_log.proofs.refill.Goals as goal

-- behind a part that goes to the end of the buffer there is nothing
to_the_end : (n : ℕ) (now read : List ℕ) → n ≤ length now → put_mid n (length now - n) now read ≡ take n now ++ read
to_the_end n now read h =
    let e : post_of n (length now - n) now ≡ [] = drop_of_length-le (drop n now) (simp length-drop (omega arith)) in
    rw (e, append-nil read) refl

pub returns-in_default-clause-refilled : goal.returns-in_default-clause-refilled
returns-in_default-clause-refilled g c =
    let a = c.args in
    let r = a.run.now in
    rw (to_the_end (r.end - r.at) c.copy_within.new.self c.read.new.buf (omega arith))
    (read_lost r a.buf.now c.copy_within.new.self c.read.new.buf (sym c.wants_input.ensures ∙ c.if-not-wants_input.false) c.requires.0 c.requires.1 c.copy_within.ensures.after)

pub returns-clause-refilled : goal.returns-clause-refilled
returns-clause-refilled g c =
    let a = c.args in
    let r = a.run.now in
    rw (to_the_end (r.end - r.at) c.copy_within.new.self c.read.new.buf (omega arith))
    (read_in r a.buf.now c.copy_within.new.self c.read.new.buf (sym c.wants_input.ensures ∙ c.if-not-wants_input.false) c.requires.0 c.requires.1 c.copy_within.ensures.after c.in-Ok.k c.in-Ok.ensures.bound.0)
