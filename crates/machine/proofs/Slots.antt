-- Facts about the two slots of a state: which phases are early, what a change of one slot leaves of the other.
-- Assumes nothing.
use Prim.Native.Nat.{ℕ, zero, suc, ◌≤◌}
use mathlib.Core.Path.{◌≡◌, refl, sym, ap}
use mathlib.Core.Bool.{Bool, true, false}
use mathlib.Core.List.{List}
use native.Mathlib.Omega.{arith}
use lib.Dec.{eqb}
use lib.ListN.{get_or}
use borrow.Author.Tests.{eqb-true, eq-eqb, not-true}
use Rattle.std.specs.Prelude.{Option, None, Some, if◌then◌else◌}
use Rattle.std.proofs.lemmas.Option.{same_Some}
use Rattle.std.proofs.lemmas.Bool.{and_parts}
use Rattle.lent.proofs.Choice.{if_ind, if_second, differ}
use Rattle.machine.specs.State.{fresh, ticket, idled, held_in, slot_at, is_idle}
use Rattle.machine.specs.Receive.{is_from, gathers, holder, holder_in, end_assembly, ended_slot}
use Rattle.machine.specs.Poll.{other_slot}
use Rattle.machine.specs.Valid.{phased, apart, PhaseFacts, ValidSlot, ValidSlots, two, Valid}
use Rattle.machine.specs.Types.{Assembly, Response, Phase, Idle, Receive, Process, Answered, Transmit, Slot, Endpoint}

-- Idle or Receive: no command of this slot is in Process or Transmit
abbrev pub is_early : Phase → Bool
is_early = phased true (λ a. true) (λ r. false) (λ r. false) (λ r. false)

pub idle_early : (p : Phase) → is_idle p ≡ true → is_early p ≡ true
idle_early (Idle held) h = refl
idle_early (Receive a) h = refl
idle_early (Process r) h = h
idle_early (Answered r) h = h
idle_early (Transmit r) h = h

-- only an Idle slot holds a response
pub held_idle : (p : Phase) (r : Response) → held_in p ≡ Some r → p ≡ Idle (Some r)
held_idle (Idle held) r e = ap Idle e
held_idle (Receive a) r e = differ (cc e)
held_idle (Process x) r e = differ (cc e)
held_idle (Answered x) r e = differ (cc e)
held_idle (Transmit x) r e = differ (cc e)

pub held_not : {A : Type 0} {r : Response} → Idle None ≡ Idle (Some r) → A
held_not e = differ (cc e)

-- ---- a slot by its number

pub slot_facts : {unit turn : ℕ} {l : List Slot} (i : ℕ) → i ≤ 1 → ValidSlots unit turn l → ValidSlot unit turn i (get_or l i (fresh (ticket 0)))
slot_facts zero h (two vs vt a) = vs
slot_facts (suc zero) h (two vs vt a) = vt
slot_facts (suc (suc n)) h v = absurd (omega arith)

pub facts_at : {e : Endpoint} (i : ℕ) → i ≤ 1 → Valid e → PhaseFacts e.unit (slot_at e i).paused (slot_at e i).phase
facts_at i h v = (slot_facts i h v.slots_valid).phase_facts

-- ---- assemblies are told apart by source and tag

pub from_same : (source tag : ℕ) (a : Assembly) → is_from source tag a ≡ true → (a.source ≡ source) × (a.tag ≡ tag)
from_same source tag a h =
    let k = and_parts (eqb a.source source) (eqb a.tag tag) h in
    (eqb-true a.source source k.0, eqb-true a.tag tag k.1)

-- the same test, seen from the other assembly
from_sym : (a b : Assembly) → is_from a.source a.tag b ≡ false → is_from b.source b.tag a ≡ false
from_sym a b h = go (is_from b.source b.tag a) refl
  where
    go : (t : Bool) → is_from b.source b.tag a ≡ t → t ≡ false
    go false e = refl
    go true e =
        let k = from_same b.source b.tag a e in
        rw (eq-eqb b.source a.source (sym k.0), eq-eqb b.tag a.tag (sym k.1)) at h

-- `apart` of a phase that gathers nothing
pub apart_left : (p q : Phase) → ((source tag : ℕ) → gathers source tag p ≡ false) → apart p q ≡ true
apart_left p (Idle held) h = refl
apart_left p (Receive b) h = rw (h b.source b.tag) refl
apart_left p (Process r) h = refl
apart_left p (Answered r) h = refl
apart_left p (Transmit r) h = refl

-- an assembly beside a slot that does not gather under its source and tag
pub apart_new_left : (a : Assembly) (q : Phase) → gathers a.source a.tag q ≡ false → apart (Receive a) q ≡ true
apart_new_left a (Idle held) h = refl
apart_new_left a (Receive b) h = rw (from_sym a b h) refl
apart_new_left a (Process r) h = refl
apart_new_left a (Answered r) h = refl
apart_new_left a (Transmit r) h = refl

pub apart_new_right : (p : Phase) (b : Assembly) → gathers b.source b.tag p ≡ false → apart p (Receive b) ≡ true
apart_new_right p b h = rw h refl

-- the other slot does not gather under an assembly's source and tag
other_apart : (a : Assembly) (q : Phase) → apart (Receive a) q ≡ true → gathers a.source a.tag q ≡ false
other_apart a (Idle held) h = refl
other_apart a (Receive b) h = from_sym b a (not-true (is_from b.source b.tag a) h)
other_apart a (Process r) h = refl
other_apart a (Answered r) h = refl
other_apart a (Transmit r) h = refl

-- the slot that gathers under this source and tag does so alone
alone : {unit turn : ℕ} {l : List Slot} (i : ℕ) → i ≤ 1 → ValidSlots unit turn l → (a : Assembly) → (get_or l i (fresh (ticket 0))).phase ≡ Receive a
    → gathers a.source a.tag (get_or l (other_slot i) (fresh (ticket 0))).phase ≡ false
alone zero h (two {s} {t} vs vt k) a e = other_apart a t.phase (rw e at k)
alone (suc zero) h (two {s} {t} vs vt k) a e = not-true (gathers a.source a.tag s.phase) (rw e at k)
alone (suc (suc n)) h v a e = absurd (omega arith)

pub alone_at : {e : Endpoint} (i : ℕ) → i ≤ 1 → Valid e → (a : Assembly) → (slot_at e i).phase ≡ Receive a
    → gathers a.source a.tag (slot_at e (other_slot i)).phase ≡ false
alone_at i h v a e = alone i h v.slots_valid a e

-- ---- the slot that holds an assembly

pub record Holds (e : Endpoint) (source tag i : ℕ) (a : Assembly) : Type 0 where
  pub slot_is : i ≤ 1
  pub gathers_it : (slot_at e i).phase ≡ Receive a
  pub from_it : is_from source tag a ≡ true

-- a slot that was found, with what it holds, was found once
pub same_found : {A : Type 0} {i k : ℕ} {x y : A} → ◌≡◌ {A = Option (ℕ × A)} (Some (i, x)) (Some (k, y)) → (i ≡ k) × (x ≡ y)
same_found {A} {i} {k} {x} {y} e =
    let p : ◌≡◌ {A = ℕ × A} (i, x) (k, y) = same_Some (i, x) (k, y) e in
    (ap (λ (q : ℕ × A). q.0) p, ap (λ (q : ℕ × A). q.1) p)

-- where `holder_in` found it
data Where (source tag k : ℕ) (p : Phase) (other : Option (ℕ × Assembly)) (i : ℕ) (a : Assembly) : Type 0 where
  here : k ≡ i → p ≡ Receive a → is_from source tag a ≡ true → Where source tag k p other i a
  there : other ≡ Some (i, a) → Where source tag k p other i a

holder_in_lem : (source tag k : ℕ) (p : Phase) (other : Option (ℕ × Assembly)) {i : ℕ} {a : Assembly} → holder_in source tag k p other ≡ Some (i, a)
    → Where source tag k p other i a
holder_in_lem source tag k (Idle held) other e = there e
holder_in_lem source tag k (Receive b) other {i} {a} e = go (is_from source tag b) refl e
  where
    go : (t : Bool) → is_from source tag b ≡ t → ◌≡◌ {A = Option (ℕ × Assembly)} (if t then Some (k, b) else other) (Some (i, a)) → Where source tag k (Receive b) other i a
    go true f g = let same = same_found g in here same.0 (ap Receive same.1) (rw (sym same.1) f)
    go false f g = there g
holder_in_lem source tag k (Process r) other e = there e
holder_in_lem source tag k (Answered r) other e = there e
holder_in_lem source tag k (Transmit r) other e = there e

pub holder_at : (e : Endpoint) (source tag : ℕ) {i : ℕ} {a : Assembly} → holder e source tag ≡ Some (i, a) → Holds e source tag i a
unfolding holder
holder_at e source tag {i} {a} h = outer (holder_in_lem source tag 0 (slot_at e 0).phase (holder_in source tag 1 (slot_at e 1).phase None) h)
  where
    inner : Where source tag 1 (slot_at e 1).phase None i a → Holds e source tag i a
    inner (here k p f) = rw (sym k) (record { slot_is = omega arith; gathers_it = p; from_it = f })
    inner (there n) = differ (cc n)

    outer : Where source tag 0 (slot_at e 0).phase (holder_in source tag 1 (slot_at e 1).phase None) i a → Holds e source tag i a
    outer (here k p f) = rw (sym k) (record { slot_is = omega arith; gathers_it = p; from_it = f })
    outer (there n) = inner (holder_in_lem source tag 1 (slot_at e 1).phase None n)

-- where `holder_in` found none
none_in : (source tag k : ℕ) (p : Phase) (other : Option (ℕ × Assembly)) → holder_in source tag k p other ≡ None → (gathers source tag p ≡ false) × (other ≡ None)
none_in source tag k (Idle held) other e = (refl, e)
none_in source tag k (Receive a) other e = if_second (is_from source tag a) (λ n. differ (cc n)) e
none_in source tag k (Process r) other e = (refl, e)
none_in source tag k (Answered r) other e = (refl, e)
none_in source tag k (Transmit r) other e = (refl, e)

pub holder_none : (e : Endpoint) (source tag : ℕ) → holder e source tag ≡ None → (i : ℕ) → i ≤ 1 → gathers source tag (slot_at e i).phase ≡ false
unfolding holder
holder_none e source tag h zero is = (none_in source tag 0 (slot_at e 0).phase (holder_in source tag 1 (slot_at e 1).phase None) h).0
holder_none e source tag h (suc zero) is =
    (none_in source tag 1 (slot_at e 1).phase None (none_in source tag 0 (slot_at e 0).phase (holder_in source tag 1 (slot_at e 1).phase None) h).1).0
holder_none e source tag h (suc (suc n)) is = absurd (omega arith)

-- once an assembly has ended, neither slot gathers under its source and tag
ended_one : (source tag : ℕ) (s : Slot) → gathers source tag (ended_slot source tag s).phase ≡ false
ended_one source tag s = go (gathers source tag s.phase) refl
  where
    go : (t : Bool) → gathers source tag s.phase ≡ t → gathers source tag (if t then idled s else s).phase ≡ false
    go true f = refl
    go false f = f

pub ended_at : (e : Endpoint) (source tag i : ℕ) → i ≤ 1 → gathers source tag (slot_at (end_assembly e source tag) i).phase ≡ false
unfolding end_assembly
ended_at e source tag zero h = ended_one source tag (slot_at e 0)
ended_at e source tag (suc zero) h = ended_one source tag (slot_at e 1)
ended_at e source tag (suc (suc n)) h = absurd (omega arith)

pub other_most : (i : ℕ) → other_slot i ≤ 1
other_most i = if_ind (λ (n : ℕ). n ≤ 1) (eqb i 0) (λ _. omega arith) (λ _. omega arith)
