-- What a right check says of a message's length.
-- Assumes nothing.
use Prim.Native.Nat.{ℕ, ◌≤◌}
use mathlib.Core.Path.{◌≡◌, refl}
use mathlib.Core.Bool.{Bool, true, false, not}
use mathlib.Core.List.{List}
use lib.Dec.{ltb}
use lib.ListN.{length}
use borrow.Author.Tests.{ltb-false}
use Rattle.lent.proofs.Choice.{if_second, false_true, differ}
use Rattle.std.specs.Prelude.{if◌then◌else◌}
use Rattle.nvme_mi.specs.Check.{check_right}
use Rattle.opening.specs.Opening.{joined_in}
use Rattle.opening.specs.declared.Joined.{Joined}
use Rattle.opening.specs.declared.Joined.TheVariants.{Wrong, Whole}

-- a message whose check is right has a check
pub right_long : (s : List ℕ) → check_right s ≡ true → 4 ≤ length s
unfolding check_right
right_long s e = ltb-false (length s) 4 (if_second (ltb (length s) 4) false_true e).0

-- and so has one that is whole
pub whole_long : (s : List ℕ) (eom : Bool) → joined_in s eom ≡ Whole → 4 ≤ length s
unfolding joined_in
whole_long s true e = right_long s (by (check_right s) e)
  where
    by : (b : Bool) → ◌≡◌ {A = Joined} (if not b then Wrong else Whole) Whole → b ≡ true
    by true q = refl
    by false q = differ (cc q)
whole_long s false e = differ (cc e)
