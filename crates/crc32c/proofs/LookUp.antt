-- One look-up in a table is eight single-bit steps, for every register; and every entry is that of document 01's polynomial.
-- Assumes nothing.
use mathlib.Core.Path.{◌≡◌, sym, ap, ap₂, ◌∙◌}
use mathlib.Core.List.{List}
use Prim.Native.Nat.{ℕ, zero, suc, ◌*◌, ◌/◌, ◌%◌, ◌^◌, ◌<◌}
use native.Mathlib.Nat.{mod-lt, mul-one}
use lib.Pow.{pow_pos, split}
use lib.ListN.{get_or}
use lib.Bits.{bit_xor, xor_assoc, xor_shr, xor_mod, xor_shifted, shifted_half, shifted_even}
use Rattle.crc32c.specs.Crc32c.{reflect, steps}
use Rattle.crc32c.specs.Reflected.{reversed, bit_step, bit_steps, entry, Table}
use Rattle.crc32c.proofs.Entries.{entries, at_each}
use Rattle.crc32c.proofs.Same.{byte, reflect_steps}

-- in n steps the bits above the lowest n only move down
above : (n a x : ℕ) → bit_steps n (bit_xor (a * 2 ^ n) x) ≡ bit_xor a (bit_steps n x)
unfolding bit_steps bit_step
above zero a x = ap (λ (u : ℕ). bit_xor u x) (mul-one a)
above (suc n) a x =
    ap (bit_steps n)
    (ap₂ (λ (u v : ℕ). bit_xor u (v * reversed))
    (xor_shr (a * 2 ^ suc n) x 1 ∙ ap (λ (u : ℕ). bit_xor u (x / 2)) (shifted_half a n))
    (xor_mod (a * 2 ^ suc n) x 1 ∙ ap (λ (u : ℕ). bit_xor u (x % 2)) (shifted_even a n))
    ∙ xor_assoc (a * 2 ^ n) (x / 2) (x % 2 * reversed))
    ∙ above n a (bit_step x)

-- n steps are those of the lowest n bits alone, with the bits above them moved down and added
apart : (n x : ℕ) → bit_steps n x ≡ bit_xor (x / 2 ^ n) (bit_steps n (x % 2 ^ n))
apart n x =
    ap (bit_steps n) (sym (xor_shifted (x / 2 ^ n) n (x % 2 ^ n) (mod-lt x (pow_pos n)) ∙ split x n))
    ∙ above n (x / 2 ^ n) (x % 2 ^ n)

-- one look-up is eight steps
pub by_table : (t : List ℕ) → Table t → (x : ℕ) → bit_xor (x / 256) (get_or t (x % 256) 0) ≡ bit_steps 8 x
unfolding Table entry
by_table t h x = ap (bit_xor (x / 256)) (h (x % 256) (mod-lt x (pow_pos 8))) ∙ sym (apart 8 x)

-- what passes the test is a table: the test compares a list with the 256 entries, computed
pub is_table : {t : List ℕ} → t ≡ entries entry 256 0 → Table t
unfolding Table
is_table {t} = at_each entry 256 t

-- an entry in the words of document 01: the byte, its bits reflected, at the top of a register that is else zero; eight steps of the
-- polynomial; the register reflected
pub entry_right : (b : ℕ) → b < 256 → entry b ≡ reflect 32 (steps 8 (reflect 8 b * 2 ^ 24))
unfolding entry
entry_right b h = sym (reflect_steps 8 (reflect 8 b * 2 ^ 24) ∙ ap (bit_steps 8) (byte b h))
