-- The check in the words of document 01 is the check with the register held in reverse.
-- Assumes nothing.
use mathlib.Core.Path.{◌≡◌, refl, sym, ap, ap₂, ◌∙◌}
use mathlib.Core.List.{List, [], ◌∷◌}
use Prim.Native.Nat.{ℕ, zero, suc, ◌+◌, ◌*◌, ◌/◌, ◌%◌, ◌^◌, ◌<◌}
use native.Mathlib.Nat.{mod-lt, le_of_suc-le-suc, not-suc-le-zero, mul_assoc, zero-add, pow-suc, zero-lt-suc, mul-div_cancel, mul-mod_left}
use native.Mathlib.Numerals.{add-one, one-add}
use native.Mathlib.Omega.{arith}
use lib.Arith.{digits_lt, digits_div, digits_mod}
use lib.Pow.{shr-shr, field, mod-mod-pow}
use lib.ListN.{get_or}
use lib.Bits.{bit_xor, xor_shr, xor_mod, xor_block, xor_lt}
use lib.Dec.{lit<}
use Rattle.crc32c.specs.Crc32c.{reflect, polynomial, start, step, steps, register, crc32c}
use Rattle.crc32c.specs.Reflected.{reversed, bit_step, bit_steps, byte_step, through}
use Rattle.crc32c.proofs.Entries.{entries, at_each}

-- a bit is 0 or 1
pub low : (a : ℕ) → a % 2 < 2
low a = mod-lt a (zero-lt-suc 1)

-- what holds of 0 and of 1 holds of every bit
pub of_bits : (P : ℕ → Type 0) → P 0 → P 1 → (t : ℕ) → t < 2 → P t
of_bits P p q zero h = p
of_bits P p q (suc zero) h = q
of_bits P p q (suc (suc t)) h = absurd (not-suc-le-zero (le_of_suc-le-suc (le_of_suc-le-suc h)))

reflect_lt : (n x : ℕ) → reflect n x < 2 ^ n
unfolding reflect
reflect_lt zero x = zero-lt-suc 0
reflect_lt (suc n) x = rw (pow-suc 2 n) (omega (arith, digits_lt (low x) (reflect_lt n (x / 2))))

reflect_xor : (n x y : ℕ) → reflect n (bit_xor x y) ≡ bit_xor (reflect n x) (reflect n y)
unfolding reflect
reflect_xor zero x y = refl
reflect_xor (suc n) x y =
    ap₂ (λ (u v : ℕ). u * 2 ^ n + reflect n v) (xor_mod x y 1) (xor_shr x y 1)
    ∙ ap (λ (v : ℕ). bit_xor (x % 2) (y % 2) * 2 ^ n + v) (reflect_xor n (x / 2) (y / 2))
    ∙ sym (xor_block n (x % 2) (y % 2) (reflect n (x / 2)) (reflect n (y / 2)) (reflect_lt n (x / 2)) (reflect_lt n (y / 2)))

reflect_mod : (n x : ℕ) → reflect n (x % 2 ^ n) ≡ reflect n x
unfolding reflect
reflect_mod zero x = refl
reflect_mod (suc n) x =
    ap₂ (λ (u v : ℕ). u * 2 ^ n + reflect n v)
    (ap (λ (k : ℕ). x % 2 ^ k % 2) (sym (add-one n)) ∙ mod-mod-pow x n 1)
    (ap (λ (k : ℕ). x % 2 ^ k / 2) (sym (add-one n)) ∙ field x n 1)
    ∙ ap (λ (v : ℕ). x % 2 * 2 ^ n + v) (reflect_mod n (x / 2))

-- the highest bit comes out lowest
reflect_top : (n x : ℕ) → reflect (suc n) x ≡ reflect n x * 2 + x / 2 ^ n % 2
unfolding reflect
reflect_top zero x = omega arith
reflect_top (suc n) x =
    let e : x / 2 / 2 ^ n ≡ x / 2 ^ suc n = shr-shr x 1 n ∙ ap (λ (k : ℕ). x / 2 ^ k) (one-add n) in
    let m : x % 2 * 2 ^ suc n ≡ x % 2 * 2 ^ n * 2 = ap (λ (k : ℕ). x % 2 * k) (pow-suc 2 n) ∙ sym (mul_assoc (x % 2) (2 ^ n) 2) in
    let ih : reflect (suc n) (x / 2) ≡ reflect n (x / 2) * 2 + x / 2 ^ suc n % 2 = reflect_top n (x / 2) ∙ ap (λ (k : ℕ). reflect n (x / 2) * 2 + k % 2) e in
    omega (arith, m, ih)

-- the polynomial, added or not
feedback : (t : ℕ) → t < 2 → reflect 32 (t * polynomial) ≡ t * reversed
unfolding reflect
feedback = of_bits (λ (t : ℕ). reflect 32 (t * polynomial) ≡ t * reversed) refl refl

doubled : (x : ℕ) → reflect 32 (x * 2) ≡ reflect 31 x
unfolding reflect
doubled x = ap₂ (λ (u v : ℕ). u * 2 ^ 31 + reflect 31 v) (mul-mod_left x 2) (mul-div_cancel x (zero-lt-suc 1)) ∙ zero-add (reflect 31 x)

moved_up : (x : ℕ) → reflect 32 (x * 2 % 2 ^ 32) ≡ reflect 31 x
moved_up x = reflect_mod 32 (x * 2) ∙ doubled x

reflect_step : (x : ℕ) → reflect 32 (step x) ≡ bit_step (reflect 32 x)
unfolding step bit_step
reflect_step x =
    let t : ℕ = x / 2 ^ 31 % 2 in
    reflect_xor 32 (x * 2 % 2 ^ 32) (t * polynomial)
    ∙ ap₂ bit_xor (moved_up x) (feedback t (low (x / 2 ^ 31)))
    ∙ sym (ap₂ (λ (u v : ℕ). bit_xor u (v * reversed))
    (ap (λ (k : ℕ). k / 2) (reflect_top 31 x) ∙ digits_div (reflect 31 x) (low (x / 2 ^ 31)))
    (ap (λ (k : ℕ). k % 2) (reflect_top 31 x) ∙ digits_mod (reflect 31 x) (low (x / 2 ^ 31))))

pub reflect_steps : (n x : ℕ) → reflect 32 (steps n x) ≡ bit_steps n (reflect 32 x)
unfolding steps bit_steps
reflect_steps zero x = refl
reflect_steps (suc n) x = reflect_steps n (step x) ∙ ap (bit_steps n) (reflect_step x)

-- a byte, reflected at the top of the register, is the byte at the low end once the register is reflected
abbrev at_top : ℕ → ℕ
at_top b = reflect 32 (reflect 8 b * 2 ^ 24)

-- all 256 bytes, by computation
bytes : entries at_top 256 0 ≡ entries (λ b. b) 256 0
unfolding entries reflect
bytes = refl

pub byte : (b : ℕ) → b < 256 → reflect 32 (reflect 8 b * 2 ^ 24) ≡ b
byte b h = sym (at_each at_top 256 (entries at_top 256 0) refl b h) ∙ at_each (λ b. b) 256 (entries at_top 256 0) bytes b h

registers : (s : List ℕ) (x : ℕ) → ((i : ℕ) → get_or s i 0 < 256) → reflect 32 (register x s) ≡ through (reflect 32 x) s
unfolding register through byte_step
registers [] x h = refl
registers (b ∷ s) x h =
    registers s (steps 8 (bit_xor x (reflect 8 b * 2 ^ 24))) (λ i. h (suc i))
    ∙ ap (λ (k : ℕ). through k s)
    (reflect_steps 8 (bit_xor x (reflect 8 b * 2 ^ 24))
    ∙ ap (bit_steps 8) (reflect_xor 32 x (reflect 8 b * 2 ^ 24) ∙ ap (bit_xor (reflect 32 x)) (byte b (h 0))))

start_same : reflect 32 start ≡ start
unfolding reflect
start_same = refl

-- for every list of bytes
pub same : (s : List ℕ) → ((i : ℕ) → get_or s i 0 < 256) → crc32c s ≡ bit_xor (through start s) 0xFFFFFFFF
unfolding crc32c
same s h = ap (λ (k : ℕ). bit_xor k 0xFFFFFFFF) (registers s start h ∙ ap (λ (k : ℕ). through k s) start_same)

-- the check fits four bytes
pub crc32c_lt : (s : List ℕ) → crc32c s < 2 ^ 32
unfolding crc32c
crc32c_lt s = xor_lt 32 (reflect 32 (register start s)) 0xFFFFFFFF (reflect_lt 32 (register start s)) (lit< tt)
