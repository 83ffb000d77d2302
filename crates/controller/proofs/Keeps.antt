-- Setup gives the invariant, and every call keeps it.
-- Assumes nothing.
use Prim.Native.Nat.{ℕ, ◌+◌, ◌%◌, ◌≤◌}
use mathlib.Core.Path.{◌≡◌, refl, ap, ◌∙◌}
use mathlib.Core.Bool.{Bool, true, false, not, ◌&&◌, ◌||◌}
use mathlib.Core.List.{List}
use native.Mathlib.Nat.{mod-lt, zero-mod, add-mod_right, zero-lt-suc}
use native.Mathlib.Omega.{arith}
use lib.Dec.{eqb, ltb}
use lib.ListN.{length, take, length-drop}
use borrow.Author.Tests.{ltb-false, eqb-true}
use Rattle.std.specs.Prelude.{Result, if◌then◌else◌}
use Rattle.lent.specs.Bytes.{byte_at, is_set, put}
use Rattle.lent.proofs.Choice.{if_ind, differ}
use Rattle.mctp.specs.Setup.{first_eid, least_unit, setup_refusal}
use Rattle.mctp.specs.Header.{read_header, payload_of, fields, same}
use Rattle.mctp.specs.Gather.{is_cut, join_refusal}
use Rattle.mctp.specs.declared.Header.{Header}
use Rattle.mctp.proofs.Laws.{SetUpSo, set_up_so, first_so}
use Rattle.nvme_mi.specs.Check.{check_right}
use Rattle.nvme_mi.specs.Message.{message_type, control, control_size, smallest, message_header}
use Rattle.opening.specs.Opening.{opened, joined_in}
use Rattle.opening.specs.declared.First.{First}
use Rattle.opening.specs.declared.Joined.{Joined}
use Rattle.opening.specs.declared.Joined.TheVariants.{More as Unfinished, Wrong, Whole}
use Rattle.machine.specs.History.{has_som}
use Rattle.machine.specs.Receive.{is_from, assembly}
use Rattle.machine.specs.Wire.{store_size, outward}
use Rattle.machine.specs.declared.Assembly.{Assembly}
use Rattle.machine.proofs.Receiving.{full_unit}
use Rattle.controller.specs.State.{Done, awaits, unassembled, requester, Side, side, Outcome, AwaitingFacts, Valid}
use Rattle.controller.specs.Await.{wrong_tag, was_set_up, now_awaits}
use Rattle.controller.specs.Receive.{dropped, landed, gathered, restarted, first_by, first, later_at, later_by, later, received_by, received}
use Rattle.controller.specs.Types.{Awaiting, Nothing, Awaited, Gathering, Requester}

-- an end's name and its unit: no call changes them
abbrev pub end_of : Requester → ℕ × ℕ
end_of r = (r.eid, r.unit)

-- ---- setup and awaiting

pub setup_valid : (eid unit : ℕ) → Valid (was_set_up eid unit).requester
unfolding was_set_up
setup_valid eid unit =
    if_ind (λ (d : Done). Valid d.requester) (eqb (setup_refusal eid unit) 0)
    (λ e. new_valid eid unit (set_up_so eid unit (eqb-true (setup_refusal eid unit) 0 e))) (λ _. new_valid first_eid least_unit first_so)
  where
    new_valid : (eid unit : ℕ) → SetUpSo eid unit → Valid (requester eid unit Nothing)
    new_valid eid unit k =
        record { eid_least = k.eid_least; eid_most = k.eid_most; unit_least = k.unit_least; unit_most = k.unit_most; awaiting_facts = tt }

pub awaits_valid : (r : Requester) (source tag : ℕ) → Valid r → Valid (now_awaits r source tag).requester
unfolding now_awaits
awaits_valid r source tag v =
    if_ind (λ (d : Done). Valid d.requester) (wrong_tag tag) (λ _. v)
    (λ fits. record { eid_least = v.eid_least; eid_most = v.eid_most; unit_least = v.unit_least; unit_most = v.unit_most; awaiting_facts = ltb-false 7 tag fits })

-- ---- receiving a packet

-- another awaiting
with_awaiting_lem : {r : Requester} (a : Awaiting) → Valid r → AwaitingFacts r.unit a → Valid (requester r.eid r.unit a)
with_awaiting_lem a v f = record { eid_least = v.eid_least; eid_most = v.eid_most; unit_least = v.unit_least; unit_most = v.unit_most; awaiting_facts = f }

unassembled_facts : (unit : ℕ) (a : Awaiting) → AwaitingFacts unit a → AwaitingFacts unit (unassembled a)
unassembled_facts unit Nothing f = f
unassembled_facts unit (Awaited k) f = f
unassembled_facts unit (Gathering a) f = f.0

-- what is gathered fits the store
pub gathered_most : {a : Assembly} (unit : ℕ) (x : Awaiting) → x ≡ Gathering a → AwaitingFacts unit x → a.length ≤ 4224
gathered_most unit x e f = (rw e at f).2

abbrev Kept : Outcome → Type 0
Kept o = Valid o.side.requester

dropped_valid : (s : Side) → Valid s.requester → Valid (dropped s).requester
dropped_valid s v = with_awaiting_lem (unassembled s.requester.awaiting) v (unassembled_facts s.requester.unit s.requester.awaiting v.awaiting_facts)

restarted_valid : (source tag : ℕ) (s : Side) → Valid s.requester → Valid (restarted source tag s).requester
restarted_valid source tag s v =
    if_ind (λ (x : Side). Valid x.requester) (awaits source tag s.requester.awaiting) (λ _. dropped_valid s v) (λ _. v)

-- and keeps the unit
pub restarted_unit : {n : ℕ} (source tag : ℕ) (s : Side) → n ≤ s.requester.unit → n ≤ (restarted source tag s).requester.unit
restarted_unit {n} source tag s h = if_ind (λ (x : Side). n ≤ x.requester.unit) (awaits source tag s.requester.awaiting) (λ _. h) (λ _. h)

landed_valid : (s : Side) (a : Assembly) (j : Joined) → Valid s.requester → (j ≡ Unfinished → AwaitingFacts s.requester.unit (Gathering a)) → Kept (landed s a j)
landed_valid s a Unfinished v f = with_awaiting_lem (Gathering a) v (f refl)
landed_valid s a Wrong v f = dropped_valid s v
landed_valid s a Whole v f = with_awaiting_lem Nothing v tt

-- more to come: there was no EOM
unfinished : (message : List ℕ) (eom : Bool) → joined_in message eom ≡ Unfinished → eom ≡ false
unfolding joined_in
unfinished message true e = by (not (check_right message)) e
  where
    by : (b : Bool) → ◌≡◌ {A = Joined} (if b then Wrong else Whole) Unfinished → true ≡ false
    by true q = differ (cc q)
    by false q = differ (cc q)
unfinished message false e = refl

-- a payload that is a whole unit where more is to come, behind the bytes so far
gathered_valid : (s : Side) (at : ℕ) (h : Header) (payload : List ℕ) → Valid s.requester → h.tag ≤ 7 → is_cut s.requester.unit h (length payload) ≡ false
    → at % s.requester.unit ≡ 0 → at + length payload ≤ 4224 → Kept (gathered s at h payload)
unfolding gathered
gathered_valid s at h payload v tag uncut even fits =
    landed_valid (side s.requester (put s.store at payload)) (assembly h (at + length payload)) _ v
    (λ j.
    let eom : h.eom ≡ false = unfinished (take (at + length payload) (put s.store at payload)) h.eom j in
    let n : length payload ≡ s.requester.unit = full_unit s.requester.unit h (length payload) uncut eom in
    (tag, omega arith, fits, ap (λ (k : ℕ). (at + k) % s.requester.unit) n ∙ add-mod_right at s.requester.unit ∙ even))

first_valid : (s : Side) (h : Header) (m : List ℕ) → Valid s.requester → h.tag ≤ 7 → length m ≤ s.requester.unit → Kept (first s h m)
unfolding first opened
first_valid s h m v tag small =
    if_ind P (not (eqb (byte_at m 0) message_type)) (λ _. v)
    (λ _.
    if_ind P (is_cut s.requester.unit h (length m)) (λ _. v)
    (λ uncut.
    if_ind P (h.eom && ltb (length m) smallest) (λ _. v)
    (λ _.
    if_ind P (not (same (message_header m).ror true)) (λ _. v)
    (λ _.
    if_ind P (not (eqb (message_header m).nmimt control))
    (λ _. if_ind Kept (not (awaits h.source h.tag s.requester.awaiting)) (λ _. v) (λ _. gathered_valid s 0 h m v tag uncut (zero-mod s.requester.unit) (omega (arith, v.unit_most))))
    (λ _.
    if_ind P (not h.eom || not (eqb (length m) control_size)) (λ _. v)
    (λ _.
    if_ind P (not (check_right m)) (λ _. v)
    (λ _. if_ind Kept (not (awaits h.source h.tag s.requester.awaiting)) (λ _. v) (λ _. with_awaiting_lem Nothing v tt))))))))
  where
    P : Result First ℕ → Type 0
    P f = Kept (first_by s h m f)

later_valid : (s : Side) (h : Header) (m : List ℕ) → Valid s.requester → h.tag ≤ 7 → Kept (later s h m)
unfolding later later_at join_refusal
later_valid s h m v tag = by s.requester.awaiting v.awaiting_facts
  where
    by : (x : Awaiting) → AwaitingFacts s.requester.unit x → Kept (later_by s h m x)
    by Nothing f = v
    by (Awaited k) f = v
    by (Gathering a) f =
        if_ind Kept (not (is_from h.source h.tag a)) (λ _. v)
        (λ _.
        if_ind P (not (eqb h.sequence ((a.sequence + 1) % 4))) (λ _. dropped_valid s v)
        (λ _.
        if_ind P (is_cut s.requester.unit h (length m)) (λ _. dropped_valid s v)
        (λ uncut.
        if_ind P (ltb store_size (a.length + length m)) (λ _. dropped_valid s v)
        (λ fits. gathered_valid s a.length h m v tag uncut f.3 (ltb-false 4224 (a.length + length m) fits)))))
      where
        P : ℕ → Type 0
        P n = Kept (later_at s a h m n)

pub received_valid : (s : Side) (p : List ℕ) → Valid s.requester → Valid (received s p).side.requester
unfolding received read_header
received_valid s p v =
    if_ind Kept (not (eqb (length s.store) store_size)) (λ _. v)
    (λ _.
    if_ind P (ltb (length p) 5) (λ _. v)
    (λ _.
    if_ind P (ltb (s.requester.unit + 4) (length p)) (λ _. v)
    (λ small.
    if_ind P (not (eqb (byte_at p 0 % 16) 1)) (λ _. v)
    (λ _.
    if_ind P (not (eqb (byte_at p 1) s.requester.eid)) (λ _. v)
    (λ _.
    if_ind P (not (same (is_set (byte_at p 3) 3) outward)) (λ _. v)
    (λ _.
    let tag : (fields p).tag ≤ 7 = omega (arith, mod-lt (byte_at p 3) (zero-lt-suc 7)) in
    let payload : length (payload_of p) ≤ s.requester.unit = rw (length-drop 4 p) (omega (arith, ltb-false (s.requester.unit + 4) (length p) small)) in
    if_ind Kept (has_som p) (λ _. first_valid (restarted (fields p).source (fields p).tag s) (fields p) (payload_of p) (restarted_valid (fields p).source (fields p).tag s v) tag (restarted_unit (fields p).source (fields p).tag s payload))
    (λ _. later_valid s (fields p) (payload_of p) v tag)))))))
  where
    P : Result Header ℕ → Type 0
    P r = Kept (received_by s (payload_of p) r)
