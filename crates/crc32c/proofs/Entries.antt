-- A rule for all numbers below a bound, from one list that is computed.
-- Assumes nothing.
use mathlib.Core.Path.{◌≡◌, sym, ap, ◌∙◌}
use mathlib.Core.List.{List, [], ◌∷◌}
use Prim.Native.Nat.{ℕ, zero, suc, ◌+◌, ◌<◌}
use native.Mathlib.Nat.{add-zero, zero-add, add-suc, suc-add, le_of_suc-le-suc, not-suc-le-zero}
use lib.ListN.{get_or}

-- f at n numbers from i on
unfoldable pub entries : (ℕ → ℕ) → ℕ → ℕ → List ℕ
entries f zero i = []
entries f (suc n) i = f i ∷ entries f n (suc i)

get_d_entries : (f : ℕ → ℕ) (n i k : ℕ) → k < n → get_or (entries f n i) k 0 ≡ f (i + k)
unfolding entries
get_d_entries f zero i k h = absurd (not-suc-le-zero h)
get_d_entries f (suc n) i zero h = ap f (sym (add-zero i))
get_d_entries f (suc n) i (suc k) h = get_d_entries f n (suc i) k (le_of_suc-le-suc h) ∙ ap f (suc-add i k ∙ sym (add-suc i k))

-- a list that computes to f at the first n numbers has f of each at its place
pub at_each : (f : ℕ → ℕ) (n : ℕ) (l : List ℕ) → l ≡ entries f n 0 → (k : ℕ) → k < n → get_or l k 0 ≡ f k
at_each f n l e k h = ap (λ (m : List ℕ). get_or m k 0) e ∙ get_d_entries f n 0 k h ∙ ap f (zero-add k)
