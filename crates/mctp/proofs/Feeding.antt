-- A message that is cut and fed to a receiver, packet by packet: what each packet leads to, the whole leads to. The induction is here, once
-- for every receiver.
-- Assumes nothing.
use Prim.Native.Nat.{ℕ, zero, suc, ◌+◌, ◌-◌, ◌<◌}
use native.Mathlib.Nat.{mul-zero}
use native.Mathlib.Omega.{arith}
use mathlib.Core.Path.{◌≡◌, refl}
use mathlib.Core.List.{List, [], ◌∷◌, ◌++◌}
use lib.ListN.{length, replicate}
use Rattle.mctp.specs.Cut.{packets, packet, cut_from, cut}
use Rattle.mctp.specs.Feed.{answers, left}
use Rattle.mctp.specs.declared.Route.{Route}
use Rattle.mctp.proofs.Laws.{packets_bounds}

-- what one packet leads to
pub record Leads {S A : Type 0} (f : S → List ℕ → A × S) (s : S) (p : List ℕ) (a : A) (P : S → Type 0) : Type 0 where
  pub answered : (f s p).0 ≡ a
  pub leaves : P (f s p).1

-- and a list of them
pub record Fed {S A : Type 0} (f : S → List ℕ → A × S) (s : S) (ps : List (List ℕ)) (all : List A) (P : S → Type 0) : Type 0 where
  pub all_answered : answers f s ps ≡ all
  pub all_left : P (left f s ps)

module _ {S A : Type 0} (f : S → List ℕ → A × S) (wait end : A) (unit : ℕ) (route : Route) (message : List ℕ) (Ready : ℕ → S → Type 0) (Done : S → Type 0)
    (more : (k : ℕ) (s : S) → Ready k s → k + 1 < packets unit (length message) → Leads f s (packet unit route message k) wait (Ready (suc k)))
    (last : (k : ℕ) (s : S) → Ready k s → k + 1 ≡ packets unit (length message) → Leads f s (packet unit route message k) end Done) where
  fed_from : (n k : ℕ) (s : S) → Ready k s → k + suc n ≡ packets unit (length message)
      → Fed f s (cut_from unit route message k (suc n)) (replicate n wait ++ (end ∷ [])) Done
  unfolding answers left cut_from
  fed_from zero k s r e =
      let t = last k s r (omega arith) in
      record { all_answered = rw t.answered refl; all_left = t.leaves }
  fed_from (suc n) k s r e =
      let t = more k s r (omega arith) in
      let u = fed_from n (suc k) _ t.leaves (omega arith) in
      record { all_answered = rw (t.answered, u.all_answered) refl; all_left = u.all_left }

  fed_all : (n : ℕ) (s : S) → Ready 0 s → 0 < n → n ≡ packets unit (length message)
      → Fed f s (cut_from unit route message 0 n) (replicate (n - 1) wait ++ (end ∷ [])) Done
  fed_all zero s r some e = absurd (omega arith)
  fed_all (suc n) s r some e = let m : suc n - 1 ≡ n = omega arith in rw m (fed_from n 0 s r (omega arith))

  pub fed : (s : S) → 0 < unit → 0 < length message → Ready 0 s
      → Fed f s (cut unit route message) (replicate (packets unit (length message) - 1) wait ++ (end ∷ [])) Done
  unfolding cut
  fed s pos some r = fed_all (packets unit (length message)) s r ((packets_bounds unit (length message) 0 pos).1 (rw mul-zero some)) refl
