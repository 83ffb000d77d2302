-- Laws of lines: bytes put one part behind another, and the length of hex.
-- Assumes nothing.
use Prim.Native.Nat.{ℕ, ◌+◌, ◌*◌, ◌≤◌}
use mathlib.Core.Path.{◌≡◌, refl}
use mathlib.Core.List.{List, [], ◌∷◌, ◌++◌, append_assoc, append-nil}
use native.Mathlib.Omega.{arith}
use lib.ListN.{length, take, drop, length-append, length-take, take-append-drop}
use lib.Seq.{take_at, drop_at, drop-drop}
use Rattle.lent.specs.Bytes.{put}
use Rattle.log_records.specs.Records.{hex}

-- ---- bytes put into a line

joined : (l : List ℕ) (at : ℕ) (a b : List ℕ) → at ≤ length l → put (put l at a) (at + length a) b ≡ put l at (a ++ b)
joined l at a b h =
    let n : length (take at l ++ a) ≡ at + length a = simp (length-append, length-take) (omega arith) in
    rw (take_at (take at l ++ a) (drop (at + length a) l) (at + length a) n, behind n, append_assoc (take at l) a b, length-append a b, sum (length a) (length b)) refl
  where
    sum : (y z : ℕ) → at + (y + z) ≡ at + y + z
    sum y z = omega arith

    behind : length (take at l ++ a) ≡ at + length a
        → drop (at + length a + length b) ((take at l ++ a) ++ drop (at + length a) l) ≡ drop (at + length a + length b) l
    behind n =
        rw (← drop-drop (length b) (at + length a) ((take at l ++ a) ++ drop (at + length a) l), drop_at (take at l ++ a) (drop (at + length a) l) (at + length a) n, drop-drop)
        refl

-- one part behind another
pub put_put : (l : List ℕ) (at n : ℕ) (a b : List ℕ) → at ≤ length l → at + length a ≡ n → put (put l at a) n b ≡ put l at (a ++ b)
put_put l at n a b h e = rw (← e) (joined l at a b h)

-- nothing put
pub put_nothing : (l : List ℕ) (at : ℕ) → put l at [] ≡ l
put_nothing l at = let n : at + 0 ≡ at = omega arith in rw (n, append-nil) (take-append-drop at l)

pub length_hex : (bytes : List ℕ) → length (hex bytes) ≡ 2 * length bytes
length_hex [] = refl
length_hex (b ∷ bytes) = omega (arith, length_hex bytes)
