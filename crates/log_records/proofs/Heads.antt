-- Laws of `headed`: what is decided at the front of some bytes stays so when more bytes follow, and a whole record lies within the bytes.
-- Assumes nothing.
use Prim.Native.Nat.{ℕ, ◌+◌, ◌*◌, ◌≤◌}
use mathlib.Core.Path.{◌≡◌, refl}
use mathlib.Core.Bool.{Bool, true, false, not}
use mathlib.Core.List.{List, [], ◌∷◌, ◌++◌}
use native.Mathlib.Omega.{arith}
use lib.Dec.{ltb}
use lib.ListN.{length, length-append}
use borrow.Author.Tests.{ltb-false, le-ltb}
use Rattle.lent.specs.Bytes.{byte_at}
use Rattle.std.specs.Prelude.{if◌then◌else◌, Option, Some, None, Result, Ok, Err}
use Rattle.log_records.specs.Records.{bad_record, tag_of, is_record, head_size, length_of, head, headed_by, headed}
use Rattle.log_records.specs.declared.BadRecord.{BadRecord}
use Rattle.log_records.specs.declared.Tag.{Tag}
use Rattle.log_records.specs.declared.Head.{Head}

-- where three bytes are there, the tag decides
three_there : (bytes : List ℕ) → 3 ≤ length bytes → headed bytes ≡ headed_by bytes (tag_of (byte_at bytes 0))
unfolding headed
three_there bytes three = rw (le-ltb (length bytes) 3 three)

-- the rows of a tag
abbrev by_tests : List ℕ → Tag → Bool → Bool → Result (Option Head) BadRecord
by_tests bytes tag record! cut =
    if not record! then Err bad_record
    else if cut then Ok None
    else Ok (Some (head tag (length_of bytes)))

-- a whole record: its length is one that its tag may have, and its bytes are there
abbrev pub Whole : ℕ → Result (Option Head) BadRecord → Type 0
Whole size (Err e) = Unit {0}
Whole size (Ok None) = Unit {0}
Whole size (Ok (Some h)) = (is_record h.tag h.size ≡ true) × (head_size + h.size ≤ size)

pub whole : (bytes : List ℕ) → Whole (length bytes) (headed bytes)
whole [] = unfold headed in tt
whole (a ∷ []) = unfold headed in tt
whole (a ∷ b ∷ []) = unfold headed in tt
whole (a ∷ b ∷ c ∷ l) = rw (three_there bytes (omega arith)) (by_tag (tag_of a))
  where
    bytes : List ℕ
    bytes = a ∷ b ∷ c ∷ l

    go : (tag : Tag) (x y : Bool) → is_record tag (b + c * 256) ≡ x → ltb (length bytes) (3 + (b + c * 256)) ≡ y
        → Whole (length bytes) (by_tests bytes tag x y)
    go tag false y right all = tt
    go tag true true right all = tt
    go tag true false right all = (right, ltb-false _ _ all)

    by_tag : (t : Result Tag BadRecord) → Whole (length bytes) (headed_by bytes t)
    by_tag (Err e) = tt
    by_tag (Ok tag) = go tag _ _ refl refl

-- THE LAW: bytes that follow change nothing, unless bytes were missing
pub decided : (bytes later : List ℕ) → (headed bytes ≡ Ok None → ⊥) → headed (bytes ++ later) ≡ headed bytes
decided [] later more = absurd (more (unfold headed in refl))
decided (a ∷ []) later more = absurd (more (unfold headed in refl))
decided (a ∷ b ∷ []) later more = absurd (more (unfold headed in refl))
decided (a ∷ b ∷ c ∷ l) later more =
    rw (three_there (bytes ++ later) (omega arith), three_there bytes (omega arith))
    (by_tag (tag_of a) (rw (three_there bytes (omega arith)) at more))
  where
    bytes : List ℕ
    bytes = a ∷ b ∷ c ∷ l

    go : (tag : Tag) (x y : Bool) → ltb (length bytes) (3 + (b + c * 256)) ≡ y → (by_tests bytes tag x y ≡ Ok None → ⊥)
        → by_tests (bytes ++ later) tag x (ltb (length (bytes ++ later)) (3 + (b + c * 256))) ≡ by_tests bytes tag x y
    go tag false y all more = refl
    go tag true true all more = absurd (more refl)
    go tag true false all more =
        let there : 3 + (b + c * 256) ≤ length bytes = ltb-false _ _ all in
        rw (le-ltb (length (bytes ++ later)) (3 + (b + c * 256)) (simp length-append (omega arith)))

    by_tag : (t : Result Tag BadRecord) → (headed_by bytes t ≡ Ok None → ⊥) → headed_by (bytes ++ later) t ≡ headed_by bytes t
    by_tag (Err e) more = refl
    by_tag (Ok tag) more = go tag _ _ refl more
