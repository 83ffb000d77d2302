-- A store that is put at a slot's place is found there, and another one that is put there replaces it.
-- Assumes nothing.
use Prim.Native.Nat.{ℕ}
use mathlib.Core.Path.{◌≡◌, refl}
use mathlib.Core.Bool.{Bool, true, false}
use mathlib.Core.List.{List}
use lib.Dec.{eqb}
use Rattle.std.specs.Prelude.{if◌then◌else◌}
use Rattle.machine.specs.State.{World, world, store_at, with_store}
use Rattle.machine.specs.declared.Endpoint.{Endpoint}
use Rattle.slots.specs.Placed.{placed}

pub found : (w : World) (i : ℕ) (s : List ℕ) → store_at (with_store w i s) i ≡ s
found w i s = at (eqb i 0)
  where
    at : (b : Bool) → (if b then if b then s else w.store0 else if b then w.store1 else s) ≡ s
    at true = refl
    at false = refl

pub replaced : (i : ℕ) (e : Endpoint) (own other anew : List ℕ) → with_store (placed i e own other) i anew ≡ placed i e anew other
replaced i e own other anew = at (eqb i 0)
  where
    at : (b : Bool)
        → world e (if b then anew else if b then own else other) (if b then if b then other else own else anew)
        ≡ world e (if b then anew else other) (if b then other else anew)
    at true = refl
    at false = refl
