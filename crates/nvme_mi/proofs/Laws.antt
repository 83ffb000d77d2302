-- What is sent passes the check on receipt, and the lengths of responses and of their bodies.
-- Assumes nothing.
use mathlib.Core.Path.{◌≡◌, refl}
use mathlib.Core.Bool.{true}
use mathlib.Core.List.{List, ◌++◌}
use Prim.Native.Nat.{ℕ, ◌+◌, ◌-◌, ◌/◌, ◌%◌, ◌^◌, ◌<◌, ◌≤◌}
use native.Mathlib.Nat.{mod-eq_of_lt}
use native.Mathlib.Omega.{arith}
use lib.ListN.{length, length-append}
use lib.Pow.{shr-shr}
use lib.Seq.{take-append_seam, get_or-append_seam, get_or-append-add}
use borrow.Author.Tests.{le-ltb, eq-eqb}
use Rattle.std.specs.Prelude.{Result, Ok, Err}
use Rattle.crc32c.specs.Crc32c.{crc32c}
use Rattle.crc32c.proofs.Same.{crc32c_lt}
use Rattle.nvme_mi.specs.Check.{four_bytes, word_at, with_check, check_right}
use Rattle.nvme_mi.specs.Response.{response, failure_body, fault_body}
use Rattle.nvme_mi.specs.declared.Fault.{Fault}
use Rattle.nvme_mi.specs.declared.Fault.TheVariants.{InvalidOpcode, Parameter, InvalidSize}

pub length_with_check : (s : List ℕ) → length (with_check s) ≡ length s + 4
unfolding with_check
length_with_check s = simp length-append

pub length_response : (nmimt csi : ℕ) (body : List ℕ) → length (response nmimt csi body) ≡ length body + 8
unfolding response
length_response nmimt csi body = rw length_with_check (omega arith)

-- four bytes behind a list, read as a number
word_four : (s : List ℕ) (x : ℕ) → x < 2 ^ 32 → word_at (s ++ four_bytes x) (length s) ≡ x
word_four s x h =
    let top : x / 16777216 % 256 ≡ x / 16777216 = mod-eq_of_lt (omega (arith, h)) in
    simp (get_or-append_seam, get_or-append-add, top) (omega (arith, shr-shr x 8 8, shr-shr x 16 8))

pub check_of_own : (s : List ℕ) → check_right (with_check s) ≡ true
unfolding with_check check_right
check_of_own s =
    let m : length s + 4 - 4 ≡ length s = omega arith in
    let e : 4 ≤ length s + 4 = omega arith in
    rw (length_with_check s, le-ltb _ _ e, m, word_four s (crc32c s) (crc32c_lt s), take-append_seam s (four_bytes (crc32c s))) (eq-eqb (crc32c s) (crc32c s) refl)

pub failure_body_length : (status : ℕ) → length (failure_body status) ≡ 4
failure_body_length status = refl

pub fault_body_length : (tested : Result (Unit {0}) Fault) → length (fault_body tested) ≡ 4
fault_body_length (Ok none) = refl
fault_body_length (Err (Parameter byte bit)) = refl
fault_body_length (Err InvalidOpcode) = refl
fault_body_length (Err InvalidSize) = refl
