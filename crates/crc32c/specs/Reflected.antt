-- The form that code follows: the register is held with its bits in reverse order, so that neither the bytes nor the result is
-- turned round; the polynomial is instead. `Same` of proofs/ shows that it is the check of document 01.
-- Assumes nothing.
use Rattle.std.specs.Prelude.{ℕ, zero, suc, ◌*◌, ◌/◌, ◌%◌, ◌<◌, ◌≡◌, List, [], ◌∷◌, get_or}
use Rattle.std.specs.Int.Bits.{bit_xor}

-- 1EDC6F41h with its 32 bits in reverse order
abbrev pub reversed : ℕ
reversed = 0x82F63B78

-- one bit: the register moves down by one, and where a one left it, the polynomial is added
unfoldable pub bit_step : ℕ → ℕ
bit_step x = bit_xor (x / 2) (x % 2 * reversed)

unfoldable pub bit_steps : ℕ → ℕ → ℕ
bit_steps zero x = x
bit_steps (suc n) x = bit_steps n (bit_step x)

-- one byte: it is added to the low end of the register, and eight bits follow
unfoldable pub byte_step : ℕ → ℕ → ℕ
byte_step x b = bit_steps 8 (bit_xor x b)

-- the register after the bytes of a list
unfoldable pub through : ℕ → List ℕ → ℕ
through x [] = x
through x (b ∷ bs) = through (byte_step x b) bs

-- the entry of a byte in the table: eight single-bit steps of a register that has this byte and nothing above it
unfoldable pub entry : ℕ → ℕ
entry b = bit_steps 8 b

-- a table has the entry of each byte at the byte's place
unfoldable pub Table : List ℕ → Type 0
Table t = (b : ℕ) → b < 256 → get_or t b 0 ≡ entry b
