-- The integrity check: the last four bytes of a message are CRC-32C of everything before them, low byte first.
-- Assumes nothing.
use Rattle.std.specs.Prelude.{ℕ, ◌+◌, ◌-◌, ◌*◌, ◌/◌, ◌%◌, Bool, false, List, [], ◌∷◌, ◌++◌, eqb, ltb, length, take, if◌then◌else◌}
use Rattle.lent.specs.Bytes.{byte_at}
use Rattle.crc32c.specs.Crc32c.{crc32c}

-- a number below 2^32 as four bytes, low byte first
abbrev pub four_bytes : ℕ → List ℕ
four_bytes c = c % 256 ∷ c / 256 % 256 ∷ c / 65536 % 256 ∷ c / 16777216 % 256 ∷ []

-- the four bytes at n as a number
abbrev pub word_at : List ℕ → ℕ → ℕ
word_at s n = byte_at s n + byte_at s (n + 1) * 256 + byte_at s (n + 2) * 65536 + byte_at s (n + 3) * 16777216

-- the bytes with their check behind them
unfoldable pub with_check : List ℕ → List ℕ
with_check s = s ++ four_bytes (crc32c s)

-- a message whose check is right
unfoldable pub check_right : List ℕ → Bool
check_right s =
    if ltb (length s) 4 then false
    else eqb (word_at s (length s - 4)) (crc32c (take (length s - 4) s))
