-- Laws of `owed`: its count is no limit.
-- Assumes nothing.
use Prim.Native.Nat.{ℕ, zero, suc, ◌+◌, ◌≤◌, ◌<◌}
use mathlib.Core.Path.{◌≡◌, refl, ap, sym, ◌∙◌}
use mathlib.Core.List.{List, [], ◌∷◌, ◌++◌}
use native.Mathlib.Omega.{arith}
use lib.ListN.{length, take, drop, length-drop}
use Rattle.log_records.specs.Records.{headed}
use Rattle.log_records.specs.declared.Head.{Head}
use Rattle.log_records.specs.declared.BadRecord.{BadRecord}
use Rattle.std.specs.Prelude.{Option, Some, None, Result, Ok, Err}
use Rattle.log_records.proofs.Heads.{Whole, whole}
use Rattle.log_session.specs.Log.{Recorded, recorded}
use Rattle.log_session.specs.Whole.{Printing, by_head, printed_in, owed}
use Rattle.log_session.specs.declared.Session.{Session}

-- what is printed behind a record is asked only of fewer bytes
by_rest : (f g : Printing) (s : Session) (a b input : List ℕ)
    → ((s : Session) (a b rest : List ℕ) → length rest < length input → f s a b rest ≡ g s a b rest)
    → by_head f s a b input (headed input) ≡ by_head g s a b input (headed input)
by_rest f g s a b input same = go (headed input) (whole input)
  where
    go : (h : Result (Option Head) BadRecord) → Whole (length input) h → by_head f s a b input h ≡ by_head g s a b input h
    go (Err e) w = refl
    go (Ok None) w = refl
    go (Ok (Some h)) w = go_on (recorded s a b h.tag (take h.size (drop 3 input)))
      where
        go_on : (r : Recorded)
            → r.line ++ f r.session r.store0 r.store1 (drop (3 + h.size) input)
            ≡ r.line ++ g r.session r.store0 r.store1 (drop (3 + h.size) input)
        go_on r =
            ap (λ (l : List ℕ). r.line ++ l)
            (same r.session r.store0 r.store1 (drop (3 + h.size) input) (simp length-drop (omega (arith, w.1))))

-- any two counts that are large enough
same_printed : (k m : ℕ) (s : Session) (a b input : List ℕ) → length input ≤ k → length input ≤ m → printed_in k s a b input ≡ printed_in m s a b input
unfolding printed_in headed
same_printed zero zero s a b input p q = refl
same_printed zero (suc m) s a b [] p q = refl
same_printed zero (suc m) s a b (x ∷ input) p q = absurd (omega arith)
same_printed (suc k) zero s a b [] p q = refl
same_printed (suc k) zero s a b (x ∷ input) p q = absurd (omega arith)
same_printed (suc k) (suc m) s a b input p q =
    by_rest (printed_in k) (printed_in m) s a b input (λ s a b rest h. same_printed k m s a b rest (omega arith) (omega arith))

-- a larger count gives the same
pub enough : (k : ℕ) (s : Session) (a b input : List ℕ) → length input ≤ k → printed_in k s a b input ≡ owed s a b input
unfolding owed
enough k s a b input h = same_printed k (length input) s a b input h (omega arith)

-- THE LAW: `owed` is the document's recursion, and has no count in it
pub owed_by : (s : Session) (a b input : List ℕ) → owed s a b input ≡ by_head owed s a b input (headed input)
owed_by s a b input =
    sym (enough (suc (length input)) s a b input (omega arith))
    ∙ unfold printed_in in by_rest (printed_in (length input)) owed s a b input (λ s a b rest h. enough (length input) s a b rest (omega arith))
