-- What receiving a packet answers, and what it leaves: the definition's rows and the flat ones side by side.
-- Assumes nothing.
use Prim.Native.Nat.{ℕ, ◌+◌, ◌%◌, ◌≤◌}
use mathlib.Core.Path.{◌≡◌, refl, sym, ap, ◌∙◌}
use mathlib.Core.Bool.{Bool, true, false, not, ◌&&◌, ◌||◌}
use mathlib.Core.List.{List, [], ◌∷◌, ◌++◌}
use native.Mathlib.Omega.{arith}
use lib.Dec.{eqb, ltb}
use lib.ListN.{length, take, length-append, length-take}
use borrow.Author.Tests.{eqb-true, not-true, not-false}
use Rattle.std.specs.Prelude.{Result, Ok, Err, if◌then◌else◌}
use Rattle.lent.specs.Bytes.{byte_at, is_set, put}
use Rattle.std.proofs.lemmas.Bool.{and_parts, or_parts}
use Rattle.lent.proofs.Choice.{false_true, row}
use Rattle.mctp.specs.declared.Header.{Header}
use Rattle.mctp.specs.Header.{read_header, same, fields, payload_of}
use Rattle.mctp.specs.Gather.{is_cut, join_refusal}
use Rattle.mctp.proofs.Laws.{not_same_false}
use Rattle.nvme_mi.specs.Check.{check_right}
use Rattle.nvme_mi.specs.Message.{message_type, control, message_header}
use Rattle.opening.specs.Opening.{opened, joined_in}
use Rattle.opening.specs.declared.First.{First}
use Rattle.opening.specs.declared.First.TheVariants.{Control, Command}
use Rattle.opening.specs.declared.Joined.{Joined}
use Rattle.machine.specs.History.{has_som, source_of, message_tag_of}
use Rattle.machine.specs.Grounds.{has_eom, sequence_of}
use Rattle.machine.specs.Receive.{is_from, assembly}
use Rattle.machine.specs.Wire.{store_size, outward}
use Rattle.machine.specs.declared.Assembly.{Assembly}
use Rattle.machine.proofs.Places.{take_joined}
use Rattle.controller.specs.State.{awaits, unassembled, Side, side, Outcome, AwaitingFacts, Valid}
use Rattle.controller.specs.Receive.{refused, dropped, landed, gathered, restarted, first_by, first, later_at, later_by, later, received_by, received, if_awaited}
use Rattle.controller.specs.Grounds.{key_of, assembly_of, is_awaited, taken_in, first_numbers, later_numbers, is_whole, place_in, ends_assembly, is_stored, Left, ReceivedSo, is_control}
use Rattle.controller.specs.Types.{Awaiting, Nothing, Awaited, Gathering}

-- ---- what is awaited

awaited_is : (source tag : ℕ) (a : Awaiting) → awaits source tag a ≡ is_awaited source tag a
awaited_is source tag Nothing = refl
awaited_is source tag (Awaited k) = refl
awaited_is source tag (Gathering a) = refl

-- the source and tag, where they are awaited
pub key_known : (source tag : ℕ) (a : Awaiting) → is_awaited source tag a ≡ true → key_of a ≡ source ∷ tag ∷ []
key_known source tag Nothing e = false_true e
key_known source tag (Awaited k) e =
    let b = and_parts (eqb k.source source) (eqb k.tag tag) e in
    rw (eqb-true k.source source b.0, eqb-true k.tag tag b.1) refl
key_known source tag (Gathering a) e =
    let b = and_parts (eqb a.source source) (eqb a.tag tag) e in
    rw (eqb-true a.source source b.0, eqb-true a.tag tag b.1) refl

-- the end of an assembly
key_stays : (a : Awaiting) → key_of (unassembled a) ≡ key_of a
key_stays Nothing = refl
key_stays (Awaited k) = refl
key_stays (Gathering a) = refl

assembly_ended : (a : Awaiting) → assembly_of (unassembled a) ≡ []
assembly_ended Nothing = refl
assembly_ended (Awaited k) = refl
assembly_ended (Gathering a) = refl

still_awaited : (source tag : ℕ) (a : Awaiting) → is_awaited source tag (unassembled a) ≡ is_awaited source tag a
still_awaited source tag Nothing = refl
still_awaited source tag (Awaited k) = refl
still_awaited source tag (Gathering a) = refl

-- a packet with SOM goes to the front
pub place_first : (p : List ℕ) (a : Awaiting) → has_som p ≡ true → place_in p a ≡ 0
place_first p Nothing e = refl
place_first p (Awaited k) e = refl
place_first p (Gathering a) e = rw e refl

module _ (s : Side) (p : List ℕ) where
  abbrev m : List ℕ
  m = payload_of p

  abbrev before : Awaiting
  before = s.requester.awaiting

  -- its source and tag are awaited
  abbrev ours : Bool
  ours = is_awaited (source_of p) (message_tag_of p) before

  -- ---- a refusal

  -- that changes nothing
  unchanged : (n : ℕ) → eqb n 0 ≡ false → is_whole n ≡ false → ends_assembly s p n ≡ false → is_stored p n ≡ false → Left s p (n, []) (refused s n)
  unchanged n zero whole ends stored =
      record { number_is = refl; eid_is = refl; unit_is = refl; key_is = rw whole refl; assembly_is = rw (zero, ends) refl; store_is = rw stored refl }

  -- all but the assembly is as it was
  record Same (t : Side) : Type 0 where
    eid_same : t.requester.eid ≡ s.requester.eid
    unit_same : t.requester.unit ≡ s.requester.unit
    store_same : t.store ≡ s.store
    key_same : key_of t.requester.awaiting ≡ key_of before

  -- that ends the assembly of this source and tag
  record Restarted (t : Side) : Type 0 where
    same_but : Same t
    assembly_now : assembly_of t.requester.awaiting ≡ (if ours then [] else assembly_of before)
    ours_same : awaits (source_of p) (message_tag_of p) t.requester.awaiting ≡ ours

  restart : Restarted (restarted (source_of p) (message_tag_of p) s)
  restart = go (awaits (source_of p) (message_tag_of p) before) refl
    where
      go : (b : Bool) → awaits (source_of p) (message_tag_of p) before ≡ b → Restarted (if b then dropped s else s)
      go true e =
          record {
            same_but = record { eid_same = refl; unit_same = refl; store_same = refl; key_same = key_stays before };
            assembly_now = rw (sym (awaited_is (source_of p) (message_tag_of p) before) ∙ e) (assembly_ended before);
            ours_same = awaited_is (source_of p) (message_tag_of p) (unassembled before) ∙ still_awaited (source_of p) (message_tag_of p) before;
          }
      go false e =
          record {
            same_but = record { eid_same = refl; unit_same = refl; store_same = refl; key_same = refl };
            assembly_now = rw (sym (awaited_is (source_of p) (message_tag_of p) before) ∙ e) refl;
            ours_same = awaited_is (source_of p) (message_tag_of p) before;
          }

  first_refused : (t : Side) → Restarted t → (n : ℕ) → eqb n 0 ≡ false → is_whole n ≡ false → ends_assembly s p n ≡ ours → is_stored p n ≡ false
      → Left s p (n, []) (refused t n)
  first_refused t k n zero whole ends stored =
      record {
        number_is = refl;
        eid_is = k.same_but.eid_same;
        unit_is = k.same_but.unit_same;
        key_is = rw whole k.same_but.key_same;
        assembly_is = rw (zero, ends) k.assembly_now;
        store_is = rw stored k.same_but.store_same;
      }

  -- ---- a packet of the response that is awaited

  module _ (t : Side) (k : Same t) (at : ℕ) (place : place_in p before ≡ at) (fits : at ≤ length s.store) (awaited : ours ≡ true) (stored : is_stored p 19 ≡ true) where
    abbrev message : List ℕ
    message = take at s.store ++ m

    abbrev after : List ℕ
    after = put s.store at m

    counted : length message ≡ at + length m
    counted = simp (length-append, length-take) (omega arith)

    filled : after ≡ put s.store (place_in p before) m
    filled = ap (λ (n : ℕ). put s.store n m) (sym place)

    abbrev joins : Joined → ℕ × List ℕ → Type 0
    joins j n = Left s p n (landed (side t.requester after) (assembly (fields p) (at + length m)) j)

    landed_so : Left s p (taken_in p message) (landed (side t.requester after) (assembly (fields p) (at + length m)) (joined_in message (has_eom p)))
    unfolding joined_in
    landed_so =
        row joins (not (has_eom p)) (not (has_eom p)) refl
        (λ _.
        record {
          number_is = refl;
          eid_is = k.eid_same;
          unit_is = k.unit_same;
          key_is = sym (key_known (source_of p) (message_tag_of p) before awaited);
          assembly_is = rw place refl;
          store_is = filled;
        })
        (λ _.
        row joins (not (check_right message)) (not (check_right message)) refl
        (λ _.
        record {
          number_is = refl;
          eid_is = k.eid_same;
          unit_is = k.unit_same;
          key_is = key_stays t.requester.awaiting ∙ k.key_same;
          assembly_is = rw awaited (assembly_ended t.requester.awaiting);
          store_is = rw stored filled;
        })
        (λ _.
        record {
          number_is = rw counted refl;
          eid_is = k.eid_same;
          unit_is = k.unit_same;
          key_is = refl;
          assembly_is = refl;
          store_is = filled;
        }))

    -- its payload in the store
    gathered_so : Left s p (taken_in p message) (gathered t at (fields p) m)
    unfolding gathered
    gathered_so =
        rw (k.store_same, take_joined s.store at m fits) landed_so

  -- ---- SOM 1

  abbrev now : Side
  now = restarted (source_of p) (message_tag_of p) s

  abbrev opens : Result First ℕ → ℕ × List ℕ → Type 0
  opens f n = Left s p n (first_by now (fields p) m f)

  -- 20, or the message is gathered
  abbrev takes : Outcome → ℕ × List ℕ → Type 0
  takes o n = Left s p n o

  not_same : (b : Bool) → not (same b true) ≡ not b
  not_same true = refl
  not_same false = refl

  twelve : (not (has_eom p) || not (eqb (length m) 12)) ≡ false → length m ≡ 12
  twelve e = eqb-true (length m) 12 (not-false (eqb (length m) 12) (or_parts (not (has_eom p)) (not (eqb (length m) 12)) e).1)

  first_so : has_som p ≡ true → Left s p (first_numbers s p m) (first now (fields p) m)
  unfolding first opened
  first_so som =
      row opens (not (eqb (byte_at m 0) message_type)) (not (eqb (byte_at m 0) 0x84)) refl (λ _. first_refused now restart 15 refl refl refl refl)
      (λ _.
      row opens (is_cut now.requester.unit (fields p) (length m)) (not (has_eom p) && not (eqb (length m) s.requester.unit))
      (ap (λ (u : ℕ). is_cut u (fields p) (length m)) restart.same_but.unit_same) (λ _. first_refused now restart 16 refl refl refl refl)
      (λ _.
      row opens ((fields p).eom && ltb (length m) 8) (has_eom p && ltb (length m) 8) refl (λ _. first_refused now restart 17 refl refl refl refl)
      (λ _.
      row opens (not (same (message_header m).ror true)) (not (is_set (byte_at m 1) 7)) (not_same (message_header m).ror) (λ _. first_refused now restart 15 refl refl refl refl)
      (λ _.
      by_kind (is_control m) refl))))
    where
      -- 20, which stands behind the tests of a control reply
      stranger : {o : Outcome} {n : ℕ × List ℕ} → (ours ≡ true → Left s p n o) → Left s p (if not ours then (20, []) else n) (if_awaited now (fields p) o)
      stranger f =
          row takes (not (awaits (source_of p) (message_tag_of p) now.requester.awaiting)) (not ours) (ap not restart.ours_same)
          (λ _. first_refused now restart 20 refl refl refl refl) (λ awaited. f (not-false ours awaited))

      by_kind : (c : Bool) → is_control m ≡ c
          → Left s p
          (if c && (not (has_eom p) || not (eqb (length m) 12)) then (18, [])
          else if c && not (check_right m) then (19, [])
          else if not ours then (20, [])
          else if c then (2, 12 ∷ [])
          else taken_in p m)
          (first_by now (fields p) m
          (if not c then Ok Command
          else if not (fields p).eom || not (eqb (length m) 12) then Err 18
          else if not (check_right m) then Err 19
          else Ok Control))
      by_kind false command =
          stranger (λ awaited. gathered_so now restart.same_but 0 (place_first p before som) (omega arith) awaited (rw (som, command) refl))
      by_kind true control =
          row opens (not (fields p).eom || not (eqb (length m) 12)) (not (has_eom p) || not (eqb (length m) 12)) refl (λ _. first_refused now restart 18 refl refl refl refl)
          (λ one.
          row opens (not (check_right m)) (not (check_right m)) refl (λ _. first_refused now restart 19 refl refl refl (rw (som, control) refl))
          (λ _.
          stranger
          (λ _.
          record {
            number_is = rw (twelve one) refl;
            eid_is = restart.same_but.eid_same;
            unit_is = restart.same_but.unit_same;
            key_is = refl;
            assembly_is = refl;
            store_is = rw (restart.same_but.store_same, place_first p before som) refl;
          })))

  -- ---- SOM 0

  -- 21
  nowhere : (b : Bool) → ◌≡◌ {A = List ℕ} (if b then [] else []) []
  nowhere true = refl
  nowhere false = refl

  no_assembly : assembly_of before ≡ [] → Left s p (21, []) (refused s 21)
  no_assembly none =
      record { number_is = refl; eid_is = refl; unit_is = refl; key_is = refl; assembly_is = rw none (sym (nowhere ours)); store_is = refl }

  abbrev joins_later : Assembly → ℕ → ℕ × List ℕ → Type 0
  joins_later a n x = Left s p x (later_at s a (fields p) m n)

  later_refused : (a : Assembly) → before ≡ Gathering a → ours ≡ true → (n : ℕ) → eqb n 0 ≡ false → is_whole n ≡ false → ends_assembly s p n ≡ ours → is_stored p n ≡ false
      → Left s p (n, []) (refused (dropped s) n)
  later_refused a e awaited n zero whole ends stored =
      record {
        number_is = refl;
        eid_is = refl;
        unit_is = refl;
        key_is = rw whole (key_stays before);
        assembly_is = rw (zero, ends, awaited) (assembly_ended before);
        store_is = rw stored refl;
      }

  later_gathers : (a : Assembly) → before ≡ Gathering a → has_som p ≡ false → a.length ≤ length s.store → ours ≡ true
      → Left s p (taken_in p (take a.length s.store ++ m)) (gathered s a.length (fields p) m)
  later_gathers a e som fits awaited =
      gathered_so s (record { eid_same = refl; unit_same = refl; store_same = refl; key_same = refl }) a.length (behind before e) fits awaited (rw som refl)
    where
      behind : (x : Awaiting) → x ≡ Gathering a → place_in p x ≡ a.length
      behind x q = rw (q, som) refl

  later_so : Valid s.requester → length s.store ≡ 4224 → has_som p ≡ false → Left s p (later_numbers s p m before) (later s (fields p) m)
  unfolding later later_at join_refusal
  later_so v size som = by before refl v.awaiting_facts
    where
      by : (x : Awaiting) → before ≡ x → AwaitingFacts s.requester.unit x → Left s p (later_numbers s p m x) (later_by s (fields p) m x)
      by Nothing e f = no_assembly (ap assembly_of e)
      by (Awaited k) e f = no_assembly (ap assembly_of e)
      by (Gathering a) e f =
          row takes (not (is_from (source_of p) (message_tag_of p) a)) (not (is_from (source_of p) (message_tag_of p) a)) refl
          (λ other. unchanged 21 refl refl (ap (is_awaited (source_of p) (message_tag_of p)) e ∙ not-true (is_from (source_of p) (message_tag_of p) a) other) refl)
          (λ from.
          let awaited : ours ≡ true = ap (is_awaited (source_of p) (message_tag_of p)) e ∙ not-false (is_from (source_of p) (message_tag_of p) a) from in
          row (joins_later a) (not (eqb (fields p).sequence ((a.sequence + 1) % 4))) (not (eqb (sequence_of p) ((a.sequence + 1) % 4))) refl
          (λ _. later_refused a e awaited 22 refl refl refl refl)
          (λ _.
          row (joins_later a) (is_cut s.requester.unit (fields p) (length m)) (not (has_eom p) && not (eqb (length m) s.requester.unit)) refl (λ _. later_refused a e awaited 16 refl refl refl refl)
          (λ _.
          row (joins_later a) (ltb store_size (a.length + length m)) (ltb 4224 (a.length + length m)) refl (λ _. later_refused a e awaited 23 refl refl refl refl)
          (λ _. later_gathers a e som (rw size f.2) awaited))))

  -- ---- the whole

  abbrev reads : Result Header ℕ → ℕ × List ℕ → Type 0
  reads r n = Left s p n (received_by s m r)

pub received_so : ReceivedSo
unfolding received read_header
received_so s p v =
    row (takes s p) (not (eqb (length s.store) store_size)) (not (eqb (length s.store) 4224)) refl (λ _. unchanged s p 40 refl refl refl refl)
    (λ size.
    row (reads s p) (ltb (length p) 5) (ltb (length p) 5) refl (λ _. unchanged s p 10 refl refl refl refl)
    (λ _.
    row (reads s p) (ltb (s.requester.unit + 4) (length p)) (ltb (s.requester.unit + 4) (length p)) refl (λ _. unchanged s p 11 refl refl refl refl)
    (λ _.
    row (reads s p) (not (eqb (byte_at p 0 % 16) 1)) (not (eqb (byte_at p 0 % 16) 1)) refl (λ _. unchanged s p 12 refl refl refl refl)
    (λ _.
    row (reads s p) (not (eqb (byte_at p 1) s.requester.eid)) (not (eqb (byte_at p 1) s.requester.eid)) refl (λ _. unchanged s p 13 refl refl refl refl)
    (λ _.
    row (reads s p) (not (same (is_set (byte_at p 3) 3) outward)) (is_set (byte_at p 3) 3) (not_same_false (is_set (byte_at p 3) 3)) (λ _. unchanged s p 14 refl refl refl refl)
    (λ _.
    row (takes s p) (has_som p) (has_som p) refl (λ som. first_so s p som)
    (λ som. later_so s p v (eqb-true (length s.store) 4224 (not-false (eqb (length s.store) 4224) size)) som)))))))
