-- Document 02's well-formed message, for either end: "byte 0 84h, right check and ROR, NMIMT not 0", of 8 to 4,224 bytes. ROR is 0 in a command and 1 in a
-- response. Its numbers are literal: they are not those of the table that receives it.
-- Assumes nothing.
use Rattle.std.specs.Prelude.{ℕ, ◌/◌, ◌%◌, ◌≤◌, ◌≡◌, Bool, true, false, List, eqb, length}
use Rattle.lent.specs.Bytes.{byte_at, is_set}
use Rattle.nvme_mi.specs.Check.{check_right}

pub record WellFormed (ror : Bool) (m : List ℕ) : Type 0 where
  pub long : 8 ≤ length m
  pub short : length m ≤ 4224
  pub typed : byte_at m 0 ≡ 0x84
  pub way : is_set (byte_at m 1) 7 ≡ ror
  pub kind : eqb (byte_at m 1 / 8 % 16) 0 ≡ false
  pub right : check_right m ≡ true
