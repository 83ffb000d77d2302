-- A number as a slot's: 30 above 1.
-- Assumes nothing.
use Rattle.std.specs.Prelude.{◌≡◌, ◌<◌, ◌||◌, ℕ, Bool, true, false, not, List, Option, Some, None, Result, Ok, Err, eqb, length}
use Rattle.std.specs.Borrow.{Bor}
use Rattle.machine.specs.Wire.{store_size}
use Rattle.refusals.specs.declared.Refusal.{Refusal}
use Rattle.refusals.specs.declared.Refusal.TheVariants.{NoSuchSlot, WrongStores}
use Rattle.slots.specs.declared.slot_number.SlotNumber.{SlotNumber}

abbrev pub NamesSlot : ℕ → Result SlotNumber Refusal → Type 0
NamesSlot n (Ok slot) = slot.number ≡ n
NamesSlot n (Err refusal) = (1 < n) × (refusal ≡ NoSuchSlot)

-- a store of another length
abbrev pub size_wrong : List ℕ → List ℕ → Bool
size_wrong a b = not (eqb (length a) store_size) || not (eqb (length b) store_size)

-- both lent stores as what they are: 40 where one has another length
abbrev pub AreStores : List ℕ → List ℕ → Result (Bor (List ℕ) × Bor (List ℕ)) Refusal → Type 0
AreStores a b (Ok stores) = (size_wrong a b ≡ false) × (stores.0.now ≡ a) × (stores.1.now ≡ b)
AreStores a b (Err refusal) = (size_wrong a b ≡ true) × (refusal ≡ WrongStores)

-- a slot with what it has, told by its number
abbrev pub at_number : {A : Type 0} → Option (SlotNumber × A) → Option (ℕ × A)
at_number None = None
at_number (Some found) = Some (found.0.number, found.1)

-- the taken command of a presented ticket, without its slot
abbrev pub found_in : {A : Type 0} → Result (SlotNumber × A) Refusal → Result A Refusal
found_in (Ok found) = Ok found.1
found_in (Err refusal) = Err refusal
