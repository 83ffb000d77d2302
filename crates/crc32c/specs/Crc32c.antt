-- CRC-32C in the words of document 01: polynomial 1EDC6F41h, start FFFFFFFFh, bits of each byte reflected, result reflected and
-- inverted.
-- Assumes nothing.
use Rattle.std.specs.Prelude.{ℕ, zero, suc, ◌+◌, ◌*◌, ◌/◌, ◌%◌, ◌^◌, List, [], ◌∷◌}
use Rattle.std.specs.Int.Bits.{bit_xor}

abbrev pub polynomial : ℕ
polynomial = 0x1EDC6F41

abbrev pub start : ℕ
start = 0xFFFFFFFF

-- the n low bits of x in reverse order
unfoldable pub reflect : ℕ → ℕ → ℕ
reflect zero x = 0
reflect (suc n) x = x % 2 * 2 ^ n + reflect n (x / 2)

-- one bit: the register moves up by one, and where a one left it at the top, the polynomial is added
unfoldable pub step : ℕ → ℕ
step x = bit_xor (x * 2 % 2 ^ 32) (x / 2 ^ 31 % 2 * polynomial)

unfoldable pub steps : ℕ → ℕ → ℕ
steps zero x = x
steps (suc n) x = steps n (step x)

-- the register after the bytes of a list: each byte, its bits reflected, is added to the top eight bits, and eight bits follow
unfoldable pub register : ℕ → List ℕ → ℕ
register x [] = x
register x (b ∷ bs) = register (steps 8 (bit_xor x (reflect 8 b * 2 ^ 24))) bs

unfoldable pub crc32c : List ℕ → ℕ
crc32c s = bit_xor (reflect 32 (register start s)) 0xFFFFFFFF
