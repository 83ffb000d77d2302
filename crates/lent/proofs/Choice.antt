-- Laws of the choice: what holds of both answers holds of the choice; a choice that is known not to be its first answer is its second. They are
-- said of `cond b x y`, which `if b then x else y` is, since that is written at level 0 alone.
-- Assumes nothing.
use Prim.Native.Nat.{ℕ}
use mathlib.Core.Path.{◌≡◌, refl}
use mathlib.Core.Bool.{Bool, true, false, cond}
use native.Mathlib.Omega.{arith}

pub if_ind {ℓ κ} : {A : Type ℓ} (P : A → Type κ) (b : Bool) {x y : A} → (b ≡ true → P x) → (b ≡ false → P y) → P (cond b x y)
if_ind P true f g = f refl
if_ind P false f g = g refl

pub if_second {ℓ} : {A : Type ℓ} (b : Bool) {x y z : A} → (x ≡ z → ⊥) → ◌≡◌ (cond b x y) z → (b ≡ false) × (y ≡ z)
if_second true n e = absurd (n e)
if_second false n e = (refl, e)

-- two constructors of a type differ: of an equation between them `cc` makes 0 ≡ 1
pub differ : {A : Type 0} → ◌≡◌ {A = ℕ} 0 1 → A
differ e = absurd (omega (arith, e))

pub false_true : {A : Type 0} → false ≡ true → A
false_true e = differ cc

-- two choices side by side, whose tests are equal: what relates their answers relates the choices
pub row {ℓ κ μ} : {A : Type ℓ} {B : Type κ} (R : A → B → Type μ) (b c : Bool) {x y : A} {u v : B} → b ≡ c → (c ≡ true → R x u) → (c ≡ false → R y v)
    → R (cond b x y) (cond c u v)
row R b true e f g = rw e (f refl)
row R b false e f g = rw e (g refl)
