-- One slot and its store, by number: what a change of the state or of a store leaves at the same place and at the other.
-- Assumes nothing.
use Prim.Native.Nat.{ℕ, zero, suc, ◌+◌, ◌≤◌}
use mathlib.Core.Path.{◌≡◌, refl, ap}
use mathlib.Core.Bool.{Bool}
use mathlib.Core.List.{List, ◌++◌}
use native.Mathlib.Omega.{arith}
use lib.ListN.{length, take, drop, get_or, set, length-take, length-append}
use lib.Seq.{take_at}
use Rattle.lent.specs.Bytes.{put}
use Rattle.machine.specs.State.{World, fresh, ticket, slot_at, store_at, with_slot, with_store, on_both}
use Rattle.machine.specs.Poll.{other_slot}
use Rattle.machine.specs.Valid.{ValidSlots, two, Valid}
use Rattle.machine.specs.Types.{Slot, Endpoint}

-- ---- what most steps leave alone: the EID, the unit, the turn, and whether the last packet was control

pub record Framed : Type 0 where
  pub eid : ℕ
  pub unit : ℕ
  pub turn : ℕ
  pub last : Bool

abbrev pub framed : Endpoint → Framed
framed e = record { eid = e.eid; unit = e.unit; turn = e.turn; last = e.last_control }

-- a step that leaves it: `refl` where it computes, and one after the other by `∙`
abbrev pub Frame : Endpoint → Endpoint → Type 0
Frame e f = framed f ≡ framed e

pub frame_unit : (e f : Endpoint) → Frame e f → f.unit ≡ e.unit
frame_unit e f k = ap (λ (x : Framed). x.unit) k

-- an end's name and its unit: no call changes them
abbrev pub end_of : Endpoint → ℕ × ℕ
end_of e = (e.eid, e.unit)

pub frame_end : (e f : Endpoint) → Frame e f → end_of f ≡ end_of e
frame_end e f k = ap (λ (x : Framed). (x.eid, x.unit)) k

pub frame_turn : (e f : Endpoint) → Frame e f → f.turn ≡ e.turn
frame_turn e f k = ap (λ (x : Framed). x.turn) k

pub frame_last : (e f : Endpoint) → Frame e f → f.last_control ≡ e.last_control
frame_last e f k = ap (λ (x : Framed). x.last) k

-- of two slots, a number is one or the other
pub data Which (i j : ℕ) : Type 0 where
  this : j ≡ i → Which i j
  that : j ≡ other_slot i → Which i j

pub which : (i j : ℕ) → i ≤ 1 → j ≤ 1 → Which i j
which zero zero a b = this refl
which zero (suc zero) a b = that refl
which (suc zero) zero a b = that refl
which (suc zero) (suc zero) a b = this refl
which (suc (suc n)) j a b = absurd (omega arith)
which zero (suc (suc n)) a b = absurd (omega arith)
which (suc zero) (suc (suc n)) a b = absurd (omega arith)

pub other_differs : (i : ℕ) → i ≤ 1 → other_slot i ≡ i → ⊥
other_differs zero h e = omega arith
other_differs (suc zero) h e = omega arith
other_differs (suc (suc n)) h e = omega arith

pub other_back : (i : ℕ) → i ≤ 1 → other_slot (other_slot i) ≡ i
other_back zero h = refl
other_back (suc zero) h = refl
other_back (suc (suc n)) h = absurd (omega arith)

-- ---- slots

set_this : {unit turn : ℕ} {l : List Slot} (i : ℕ) → i ≤ 1 → ValidSlots unit turn l → (s : Slot) → get_or (set l i s) i (fresh (ticket 0)) ≡ s
set_this zero h (two vs vt k) s = refl
set_this (suc zero) h (two vs vt k) s = refl
set_this (suc (suc n)) h v s = absurd (omega arith)

set_that : {unit turn : ℕ} {l : List Slot} (i : ℕ) → i ≤ 1 → ValidSlots unit turn l → (s : Slot)
    → get_or (set l i s) (other_slot i) (fresh (ticket 0)) ≡ get_or l (other_slot i) (fresh (ticket 0))
set_that zero h (two vs vt k) s = refl
set_that (suc zero) h (two vs vt k) s = refl
set_that (suc (suc n)) h v s = absurd (omega arith)

pub slot_this : {e : Endpoint} (i : ℕ) → i ≤ 1 → Valid e → (s : Slot) → slot_at (with_slot e i s) i ≡ s
slot_this i h v s = set_this i h v.slots_valid s

pub slot_that : {e : Endpoint} (i : ℕ) → i ≤ 1 → Valid e → (s : Slot) → slot_at (with_slot e i s) (other_slot i) ≡ slot_at e (other_slot i)
slot_that i h v s = set_that i h v.slots_valid s

pub slot_both : (f : Slot → Slot) (e : Endpoint) (j : ℕ) → j ≤ 1 → slot_at (on_both f e) j ≡ f (slot_at e j)
slot_both f e zero h = refl
slot_both f e (suc zero) h = refl
slot_both f e (suc (suc n)) h = absurd (omega arith)

-- ---- stores

pub store_this : (w : World) (i : ℕ) → i ≤ 1 → (s : List ℕ) → store_at (with_store w i s) i ≡ s
store_this w zero h s = refl
store_this w (suc zero) h s = refl
store_this w (suc (suc n)) h s = absurd (omega arith)

pub store_that : (w : World) (i : ℕ) → i ≤ 1 → (s : List ℕ) → store_at (with_store w i s) (other_slot i) ≡ store_at w (other_slot i)
store_that w zero h s = refl
store_that w (suc zero) h s = refl
store_that w (suc (suc n)) h s = absurd (omega arith)

-- the front of a store with bytes put behind its first ones
pub take_joined : (store : List ℕ) (at : ℕ) (bytes : List ℕ) → at ≤ length store → take (at + length bytes) (put store at bytes) ≡ take at store ++ bytes
take_joined store at bytes h = take_at (take at store ++ bytes) (drop (at + length bytes) store) (at + length bytes) (simp (length-append, length-take) (omega arith))
