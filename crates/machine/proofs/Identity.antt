-- No call changes the EID or the unit.
-- Assumes nothing.
use Prim.Native.Nat.{ℕ}
use mathlib.Core.Path.{◌≡◌, refl, ap, ◌∙◌}
use mathlib.Core.List.{List, [], ◌∷◌}
use Rattle.machine.specs.Calls.{Call, begin}
use Rattle.machine.specs.History.{History, next, run, start}
use Rattle.machine.specs.Demands.{IdentityKept}
use Rattle.machine.proofs.Places.{end_of}
use Rattle.machine.proofs.Histories.{Good, next_end, good_next, good_start}
use Rattle.machine.proofs.Numbers.{setup_numbers}

pub next_eid : (c : Call) (h : History) → Good h → (next c h).world.endpoint.eid ≡ h.world.endpoint.eid
next_eid c h g = ap (λ (x : ℕ × ℕ). x.0) (next_end c h g)

run_end : (xs : List Call) (h : History) → Good h → end_of (run xs h).world.endpoint ≡ end_of h.world.endpoint
unfolding run
run_end [] h g = refl
run_end (c ∷ xs) h g = run_end xs (next c h) (good_next c h g) ∙ next_end c h g

pub run_eid : (xs : List Call) (h : History) → Good h → (run xs h).world.endpoint.eid ≡ h.world.endpoint.eid
run_eid xs h g = ap (λ (x : ℕ × ℕ). x.0) (run_end xs h g)

pub run_unit : (xs : List Call) (h : History) → Good h → (run xs h).world.endpoint.unit ≡ h.world.endpoint.unit
run_unit xs h g = ap (λ (x : ℕ × ℕ). x.1) (run_end xs h g)

pub identity_kept : IdentityKept
unfolding start begin
identity_kept eid unit store0 store1 a b xs =
    let g = good_start eid unit store0 store1 a b in
    let k = setup_numbers eid unit in
    record {
      eid_is = run_eid xs (start eid unit store0 store1) g ∙ k.eid_is;
      unit_is = run_unit xs (start eid unit store0 store1) g ∙ k.unit_is;
    }
