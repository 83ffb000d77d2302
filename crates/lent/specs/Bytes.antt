-- Lists of bytes: one byte, one bit, two-byte fields, and bytes put into a store that is lent (document 01's own term: the caller
-- owns the store, and a call may use it until it returns).
-- Assumes nothing.
use Rattle.std.specs.Prelude.{ℕ, ◌+◌, ◌/◌, ◌%◌, ◌^◌, Bool, List, [], ◌∷◌, ◌++◌, eqb, length, take, drop, get_or}

-- byte i of a list; 0 behind its end
abbrev pub byte_at : List ℕ → ℕ → ℕ
byte_at s i = get_or s i 0

-- bit k of x is 1; bit 0 is the lowest
abbrev pub is_set : ℕ → ℕ → Bool
is_set x k = eqb (x / 2 ^ k % 2) 1

-- a number below 65,536 as two bytes, low byte first
abbrev pub low_high : ℕ → List ℕ
low_high x = x % 256 ∷ x / 256 % 256 ∷ []

-- the store with these bytes in it from place `at` on, all else as it was
abbrev pub put : List ℕ → ℕ → List ℕ → List ℕ
put store at bytes = take at store ++ bytes ++ drop (at + length bytes) store
