-- A turn moves the first byte that is left into the register; behind the last turn nothing is left.
use Rattle.std.proofs.Common.{◌≡◌, ◌+◌, ◌<◌, ◌∙◌, ℕ, List, length, slice_index_or, drop, add-one, drop-cons}
use lib.ListN.{drop_of_length-le}
use Rattle.crc32c.specs.Reflected.{byte_step, through}
use Rattle.crc32c.proofs.register_after.Goals as goal

turn : (s : List ℕ) (x y i : ℕ) → i < length s → y ≡ byte_step x (slice_index_or s i 0) → through y (drop (i + 1) s) ≡ through x (drop i s)
unfolding through
turn s x y i h e = rw (add-one i, e, drop-cons s i 0 h)

pub loop-b-preserved : goal.loop-b-preserved
loop-b-preserved c =
    turn c.args.bytes.now c.loop-b.x c.byte_step-x.result c.loop-b.b-index c.loop-b-test.true c.byte_step-x.ensures ∙ c.loop-b.invariant

pub returns : goal.returns
unfolding through
returns c = rw (drop_of_length-le c.args.bytes.now c.loop-b-test.false) at c.loop-b.invariant
