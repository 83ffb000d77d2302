-- Lists of calls joined: a list behind another, a call in the middle, one call more.
-- Assumes nothing.
use Prim.Native.Nat.{ℕ, ◌%◌, ◌^◌, ◌≤◌}
use mathlib.Core.Path.{◌≡◌, refl, sym, ap, ◌∙◌}
use mathlib.Core.List.{List, [], ◌∷◌, ◌++◌}
use Rattle.machine.specs.Calls.{Call}
use Rattle.machine.specs.History.{Trace, History, next, run}
use Rattle.machine.specs.Stale.{present_ticket}
use Rattle.machine.proofs.Histories.{Good, good_next, good_run}

pub run_on : (us vs : List Call) (h : History) → run (us ++ vs) h ≡ run vs (run us h)
unfolding run
run_on [] vs h = refl
run_on (c ∷ us) vs h = run_on us vs (next c h)

pub run_past : (us : List Call) (c : Call) (vs : List Call) (h : History) → run (us ++ (c ∷ vs)) h ≡ run vs (next c (run us h))
unfolding run
run_past us c vs h = run_on us (c ∷ vs) h

pub run_then : (us : List Call) (c : Call) (h : History) → run (us ++ (c ∷ [])) h ≡ next c (run us h)
unfolding run
run_then us c h = run_on us (c ∷ []) h

assoc : (us vs ws : List Call) → (us ++ vs) ++ ws ≡ us ++ (vs ++ ws)
assoc [] vs ws = refl
assoc (c ∷ us) vs ws = ap (λ (l : List Call). c ∷ l) (assoc us vs ws)

-- where a call stands in a list, it stands in a longer one
pub longer : {xs : List Call} (c : Call) (us : List Call) (x : Call) (vs : List Call) → xs ≡ us ++ (x ∷ vs) → xs ++ (c ∷ []) ≡ us ++ (x ∷ (vs ++ (c ∷ [])))
longer c us x vs s = ap (λ (l : List Call). l ++ (c ∷ [])) s ∙ assoc us (x ∷ vs) (c ∷ [])

-- what holds of a list and stays so with one call more
pub along : (P : List Call → Type 0) → ((xs : List Call) (c : Call) → P xs → P (xs ++ (c ∷ []))) → (us vs : List Call) → P us → P (us ++ vs)
along P more us [] k = go (us ++ []) (nil us)
  where
    nil : (us : List Call) → us ≡ us ++ []
    nil [] = refl
    nil (c ∷ us) = ap (λ (l : List Call). c ∷ l) (nil us)

    go : (l : List Call) → us ≡ l → P l
    go l e = rw (sym e) k
along P more us (c ∷ vs) k = go ((us ++ (c ∷ [])) ++ vs) (assoc us (c ∷ []) vs) (along P more (us ++ (c ∷ [])) vs (more us c k))
  where
    go : (l : List Call) → l ≡ us ++ (c ∷ vs) → P l → P (us ++ (c ∷ vs))
    go l e f = rw (sym e) f

module _ (first : History) (i : ℕ) (xs : List Call) (c : Call) where
  -- the trace after one call more
  pub then_trace : {A : Type 0} (f : Trace → A) {a : A} → f ((next c (run xs first)).trace i) ≡ a → f ((run (xs ++ (c ∷ [])) first).trace i) ≡ a
  then_trace f e = ap (λ (h : History). f (h.trace i)) (run_then xs c first) ∙ e

  -- a ticket that was present is so still, where no command came in
  pub then_present : Good first → i ≤ 1 → {n : ℕ} → ((next c (run xs first)).trace i).entries ≡ ((run xs first).trace i).entries → n ≡ present_ticket (run xs first) i
      → n ≡ present_ticket (run (xs ++ (c ∷ [])) first) i
  then_present g₀ is b k =
      let g = good_run xs first g₀ in
      let g₁ = good_next c (run xs first) g in
      k ∙ (g.fits i is).ticket_is ∙ ap (λ (n : ℕ). n % 2 ^ 32) (sym b) ∙ sym (g₁.fits i is).ticket_is
      ∙ ap (λ (h : History). present_ticket h i) (sym (run_then xs c first))
