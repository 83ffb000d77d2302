-- Setup, awaiting, cutting and building a control primitive: what each answers, and what it leaves.
-- Assumes nothing.
use Prim.Native.Nat.{ℕ, ◌+◌, ◌/◌, ◌%◌, ◌≤◌}
use mathlib.Core.Path.{◌≡◌, refl, sym, ap, ◌∙◌}
use mathlib.Core.Bool.{Bool, true, false, not, ◌||◌}
use mathlib.Core.List.{List, [], ◌∷◌, ◌++◌}
use native.Mathlib.Nat.{mod-eq_of_lt}
use native.Mathlib.Omega.{arith}
use lib.Dec.{eqb, ltb}
use lib.ListN.{length, take, drop}
use lib.Seq.{take_at, drop_at}
use borrow.Author.Tests.{eqb-true, ltb-true, ltb-false, lt-ltb, le-ltb}
use Rattle.std.specs.Prelude.{Err, if◌then◌else◌}
use Rattle.lent.proofs.Choice.{if_ind, false_true, row}
use Rattle.mctp.specs.Cut.{packet, cut, end_to_end, pieces}
use Rattle.mctp.specs.declared.Route.{Route}
use Rattle.mctp.specs.Setup.{least_unit, setup_refusal, setup_number}
use Rattle.mctp.specs.Header.{header_bytes}
use Rattle.mctp.proofs.Laws.{setup_numbers, one_packet}
use Rattle.mctp.proofs.Ends.{cut_length, pieces_cut}
use Rattle.nvme_mi.specs.Check.{with_check}
use Rattle.nvme_mi.proofs.Laws.{length_with_check}
use Rattle.machine.specs.History.{over_unit}
use Rattle.controller.specs.Await.{wrong_tag, was_set_up, now_awaits}
use Rattle.controller.specs.Send.{Sent, sent_to, written, wrong_size, cut_to, control_request, primitive_to}
use Rattle.controller.specs.Grounds.{SetUp, SetupSo, Awaits, AwaitsSo, size_of, cut_numbers, Wrote, CutSo, primitive_numbers, primitive_packet, PrimitiveSo}
use Rattle.controller.specs.Types.{Primitive}

-- ---- setup and awaiting

pub setup_so : SetupSo
unfolding was_set_up
setup_so eid unit = by (eqb (setup_number eid unit) 0) refl (ap (λ (n : ℕ). eqb n 0) (setup_numbers eid unit))
  where
    by : (b : Bool) → eqb (setup_number eid unit) 0 ≡ b → eqb (setup_refusal eid unit) 0 ≡ eqb (setup_number eid unit) 0 → SetUp eid unit
    by true e q =
        let x : eqb (setup_refusal eid unit) 0 ≡ true = q ∙ e in
        let n : setup_number eid unit ≡ 0 = eqb-true (setup_number eid unit) 0 e in
        unfold was_set_up in (record { number_is = rw x (sym n); eid_is = rw (e, x) refl; unit_is = rw (e, x) refl; key_is = rw x refl })
    by false e q =
        let x : eqb (setup_refusal eid unit) 0 ≡ false = q ∙ e in
        unfold was_set_up in (record { number_is = rw x (setup_numbers eid unit); eid_is = rw (e, x) refl; unit_is = rw (e, x) refl; key_is = rw x refl })

pub awaits_so : AwaitsSo
unfolding now_awaits
awaits_so r source tag =
    if_ind (Awaits r source tag) (wrong_tag tag)
    (λ high. record { number_is = rw high refl; eid_is = refl; unit_is = refl; key_is = rw high refl; assembly_is = rw high refl })
    (λ low. record { number_is = rw low refl; eid_is = refl; unit_is = refl; key_is = rw low refl; assembly_is = rw low refl })

-- ---- writing

-- what relates a call's outcome and the flat numbers, where so many bytes would be written
abbrev Writes : ℕ → List ℕ → Sent → ℕ × List ℕ → Type 0
Writes size buffer x n = Wrote n size buffer x

untouched : (n size : ℕ) (buffer : List ℕ) → Wrote (n, []) size buffer (sent_to (Err n) buffer)
untouched n size buffer = record { number_is = refl; behind = refl; unwritten = λ _. refl }

-- 36, or the bytes at the front
abbrev room_numbers : ℕ → List ℕ → ℕ × List ℕ
room_numbers size buffer = if ltb (length buffer) size then (36, []) else (0, size ∷ [])

written_so : (bytes buffer : List ℕ) (size : ℕ) → length bytes ≡ size → Wrote (room_numbers size buffer) size buffer (written bytes buffer)
unfolding written
written_so bytes buffer size e =
    row (Writes size buffer) (ltb (length buffer) (length bytes)) (ltb (length buffer) size) (ap (ltb (length buffer)) e) (λ _. untouched 36 size buffer)
    (λ _.
    record {
      number_is = rw e refl;
      behind = drop_at bytes (drop (length bytes) buffer) size e ∙ ap (λ (n : ℕ). drop n buffer) e;
      unwritten = λ none. false_true (sym none);
    })

-- what lies there, where the number is 0
front_so : (bytes buffer : List ℕ) (size : ℕ) → length bytes ≡ size → eqb (room_numbers size buffer).0 0 ≡ true → take size (written bytes buffer).buffer ≡ bytes
unfolding written
front_so bytes buffer size e =
    row (λ (x : Sent) (n : ℕ × List ℕ). eqb n.0 0 ≡ true → take size x.buffer ≡ bytes) (ltb (length buffer) (length bytes)) (ltb (length buffer) size)
    (ap (ltb (length buffer)) e) (λ _ none. false_true none) (λ _ _. take_at bytes (drop (length bytes) buffer) size e)

-- ---- cutting

pub cut_so : CutSo
unfolding cut_to
cut_so r destination tag m buffer v =
    let c = by in
    record { wrote = c.0; packets_are = c.1 }
  where
    route : Route
    route = record { destination = destination; source = r.eid; to = true; tag = tag }

    size : ℕ
    size = size_of r.unit m

    Cuts : Sent → ℕ × List ℕ → Type 0
    Cuts x n = Wrote n size buffer x × (eqb n.0 0 ≡ true → pieces (r.unit + 4) (over_unit r.unit (length m)) (take size x.buffer) ≡ cut r.unit route m)

    bytes : length (end_to_end (cut r.unit route m)) ≡ size
    bytes = cut_length r.unit route m (omega (arith, v.unit_least))

    by : Cuts (cut_to r destination tag m buffer) (cut_numbers r.unit tag m buffer)
    by =
        row Cuts (wrong_size (length m) || wrong_tag tag) (ltb (length m) 8 || ltb 4224 (length m) || ltb 7 tag) refl
        (λ _. (untouched 41 size buffer, λ none. false_true none))
        (λ _. (
          written_so (end_to_end (cut r.unit route m)) buffer size bytes,
          λ done. ap (pieces (r.unit + 4) (over_unit r.unit (length m))) (front_so (end_to_end (cut r.unit route m)) buffer size bytes done) ∙ pieces_cut r.unit route m (omega (arith, v.unit_least)),
        ))

-- ---- a control primitive

pub request_length : (p : Primitive) → length (control_request p) ≡ 12
unfolding control_request
request_length p = length_with_check (0x84 ∷ p.slot % 2 ∷ 0 ∷ 0 ∷ p.opcode ∷ p.tag ∷ p.cpsp % 256 ∷ p.cpsp / 256 % 256 ∷ []) ∙ refl

request_is : (p : Primitive) → p.slot ≤ 1 → control_request p ≡ with_check (0x84 ∷ p.slot ∷ 0 ∷ 0 ∷ p.opcode ∷ p.tag ∷ p.cpsp % 256 ∷ p.cpsp / 256 % 256 ∷ [])
unfolding control_request
request_is p s =
    let slot_same : p.slot % 2 ≡ p.slot = mod-eq_of_lt (omega arith) in
    ap (λ (x : ℕ). with_check (0x84 ∷ x ∷ 0 ∷ 0 ∷ p.opcode ∷ p.tag ∷ p.cpsp % 256 ∷ p.cpsp / 256 % 256 ∷ [])) slot_same

-- its packet
request_packet : (unit : ℕ) (route : Route) (p : Primitive) → least_unit ≤ unit
    → packet unit route (control_request p) 0 ≡ header_bytes route.destination route.source true true 0 route.to route.tag ++ control_request p
request_packet unit route p least =
    let n = request_length p in
    one_packet unit route (control_request p) (omega (arith, n)) (omega (arith, n, least))

pub packet_bytes : (unit : ℕ) (route : Route) (p : Primitive) → least_unit ≤ unit → length (packet unit route (control_request p) 0) ≡ 16
packet_bytes unit route p least = let n = request_length p in rw (request_packet unit route p least) (omega arith)

packet_so : (eid unit destination tag : ℕ) (p : Primitive) → least_unit ≤ unit → tag ≤ 7 → p.slot ≤ 1
    → packet unit (record { destination = destination; source = eid; to = true; tag = tag }) (control_request p) 0 ≡ primitive_packet eid destination tag p
packet_so eid unit destination tag p least t s =
    let tag_same : tag % 8 ≡ tag = mod-eq_of_lt (omega arith) in
    request_packet unit (record { destination = destination; source = eid; to = true; tag = tag }) p least ∙ rw (tag_same, request_is p s) refl

-- the slot's test, either way
slot_test : (i : ℕ) → not (ltb i 2) ≡ ltb 1 i
slot_test i = by (ltb 1 i) refl
  where
    by : (b : Bool) → ltb 1 i ≡ b → not (ltb i 2) ≡ b
    by true e = ap not (le-ltb i 2 (omega (arith, ltb-true 1 i e)))
    by false e = ap not (lt-ltb i 2 (omega (arith, ltb-false 1 i e)))

pub primitive_so : PrimitiveSo
unfolding primitive_to
primitive_so r destination tag p buffer v =
    let c = by in
    record { wrote = c.0; packet_is = c.1 }
  where
    route : Route
    route = record { destination = destination; source = r.eid; to = true; tag = tag }

    Builds : Sent → ℕ × List ℕ → Type 0
    Builds x n = Wrote n 16 buffer x × (eqb n.0 0 ≡ true → take 16 x.buffer ≡ primitive_packet r.eid destination tag p)

    by : Builds (primitive_to r destination tag p buffer) (primitive_numbers tag p buffer)
    by =
        row Builds (wrong_tag tag) (ltb 7 tag) refl (λ _. (untouched 41 16 buffer, λ none. false_true none))
        (λ low.
        row Builds (not (ltb p.slot 2)) (ltb 1 p.slot) (slot_test p.slot) (λ _. (untouched 30 16 buffer, λ none. false_true none))
        (λ one. (
          written_so (packet r.unit route (control_request p) 0) buffer 16 (packet_bytes r.unit route p v.unit_least),
          λ done.
              front_so (packet r.unit route (control_request p) 0) buffer 16 (packet_bytes r.unit route p v.unit_least) done ∙ packet_so r.eid r.unit destination tag p v.unit_least (ltb-false 7 tag low) (ltb-false 1 p.slot one),
        )))
