-- How long a message is that a first packet opens.
-- Assumes nothing.
use Prim.Native.Nat.{ℕ, ◌≤◌}
use mathlib.Core.Path.{◌≡◌, refl}
use mathlib.Core.Bool.{Bool, true, false, not, ◌&&◌, ◌||◌}
use mathlib.Core.List.{List}
use native.Mathlib.Omega.{arith}
use lib.Dec.{eqb, ltb}
use lib.ListN.{length}
use borrow.Author.Tests.{ltb-false, eqb-true, not-false}
use Rattle.lent.specs.Bytes.{byte_at}
use Rattle.std.proofs.lemmas.Bool.{or_parts}
use Rattle.lent.proofs.Choice.{if_ind, differ}
use Rattle.mctp.specs.Header.{same}
use Rattle.mctp.specs.Gather.{is_cut}
use Rattle.mctp.specs.declared.Header.{Header}
use Rattle.nvme_mi.specs.Message.{message_type, control, message_header}
use Rattle.nvme_mi.specs.Check.{check_right}
use Rattle.opening.specs.Opening.{opened}
use Rattle.opening.specs.declared.First.{First}
use Rattle.std.specs.Prelude.{Result, Ok, Err}
use Rattle.opening.specs.declared.First.TheVariants.{Control, Command}

module _ (unit : ℕ) (ror : Bool) (h : Header) (m : List ℕ) (wide : 8 ≤ unit) where
  abbrev Long : Result First ℕ → Type 0
  Long o = (o ≡ Ok Control → length m ≡ 12) × (o ≡ Ok Command → 8 ≤ length m)

  no : (n : ℕ) → Long (Err n)
  no n = (λ q. differ (cc q), λ q. differ (cc q))

  control_command : {A : Type 0} → ◌≡◌ {A = Result First ℕ} (Ok Control) (Ok Command) → A
  control_command q = differ (cc q)

  command_control : {A : Type 0} → ◌≡◌ {A = Result First ℕ} (Ok Command) (Ok Control) → A
  command_control q = differ (cc q)

  long : is_cut unit h (length m) ≡ false → (h.eom && ltb (length m) 8) ≡ false → 8 ≤ length m
  long c s = go h.eom refl
    where
      go : (b : Bool) → h.eom ≡ b → 8 ≤ length m
      go true e = ltb-false (length m) 8 (rw e at s)
      go false e = let n : length m ≡ unit = eqb-true (length m) unit (not-false (eqb (length m) unit) (rw e at c)) in omega arith

  pub sized : Long (opened unit ror h m)
  unfolding opened
  sized =
      if_ind Long (not (eqb (byte_at m 0) message_type)) (λ _. no 15)
      (λ _.
      if_ind Long (is_cut unit h (length m)) (λ _. no 16)
      (λ cut.
      if_ind Long (h.eom && ltb (length m) 8) (λ _. no 17)
      (λ short.
      if_ind Long (not (same (message_header m).ror ror)) (λ _. no 15)
      (λ _.
      if_ind Long (not (eqb (message_header m).nmimt control)) (λ _. (λ q. command_control q, λ _. long cut short))
      (λ _.
      if_ind Long (not h.eom || not (eqb (length m) 12)) (λ _. no 18)
      (λ one.
      if_ind Long (not (check_right m)) (λ _. no 19)
      (λ _. (λ _. eqb-true (length m) 12 (not-false (eqb (length m) 12) (or_parts (not h.eom) (not (eqb (length m) 12)) one).1), λ q. control_command q))))))))
