-- The requester over lists of calls: along every list the packets taken in are in order, under the source and tag that are awaited, and their payloads
-- are at the store's front.
-- Assumes nothing.
use Prim.Native.Nat.{ℕ, ◌+◌, ◌/◌, ◌%◌, ◌≤◌}
use mathlib.Core.Path.{◌≡◌, refl, sym, ap, ◌∙◌}
use mathlib.Core.Bool.{Bool, true, false, not, ◌&&◌, ◌||◌}
use mathlib.Core.List.{List, [], ◌∷◌, ◌++◌}
use native.Mathlib.Omega.{arith}
use lib.Dec.{eqb, ltb}
use lib.ListN.{length, take, length-append, length-take, length-drop}
use lib.Seq.{get_or-drop}
use borrow.Author.Tests.{ltb-false, eqb-true, not-true, not-false}
use Rattle.std.specs.Prelude.{if◌then◌else◌}
use Rattle.lent.specs.Bytes.{byte_at, is_set, put}
use Rattle.std.proofs.lemmas.Bool.{or_parts}
use Rattle.lent.proofs.Choice.{if_ind, false_true}
use Rattle.lent.proofs.Stores.{take_put}
use Rattle.nvme_mi.specs.Check.{check_right}
use Rattle.machine.specs.History.{has_som, source_of, message_tag_of, bytes_from4}
use Rattle.machine.specs.Grounds.{has_eom, sequence_of}
use Rattle.machine.specs.Refusals.{is_one_of}
use Rattle.machine.specs.declared.Assembly.{Assembly}
use Rattle.machine.proofs.Places.{take_joined}
use Rattle.controller.specs.State.{Done, Side, side, AwaitingFacts, Valid}
use Rattle.controller.specs.Await.{was_set_up, now_awaits}
use Rattle.controller.specs.Receive.{received}
use Rattle.controller.specs.Grounds.{size_of, key_of, assembly_of, is_awaited, is_control, taken_in, first_numbers, later_numbers, receive_numbers, is_whole, place_in, ends_assembly, is_stored, Left, Awaits}
use Rattle.controller.specs.Lists.{Call, await, cut, primitive, receive, says, after, History, with_packet, key_after, packets_after, next, run, start, joined, key_in, Behind, OwnResponse, ResponseOwn, OwnReply, ReplyOwn, numbers, AnswersNamed, IdentityKept}
use Rattle.controller.specs.Types.{Awaiting, Nothing, Awaited, Gathering}
use Rattle.controller.proofs.Keeps.{end_of, gathered_most, setup_valid, awaits_valid, received_valid}
use Rattle.controller.proofs.Calls.{setup_so, awaits_so, cut_so, primitive_so}
use Rattle.controller.proofs.Grounds.{key_known, place_first, received_so}

-- ---- which row of the table a packet comes to

-- what a response begins with
record Begins (m : List ℕ) : Type 0 where
  typed : byte_at m 0 ≡ 0x84
  way : is_set (byte_at m 1) 7 ≡ true
  kind : is_control m ≡ false
  long : 8 ≤ length m

-- and more bytes behind it
begins_on : (m bytes : List ℕ) → Begins m → Begins (m ++ bytes)
begins_on [] bytes b = absurd (omega (arith, b.long))
begins_on (x ∷ []) bytes b = absurd (omega (arith, b.long))
begins_on (x ∷ y ∷ m) bytes b =
    record { typed = b.typed; way = b.way; kind = b.kind; long = rw (length-append (x ∷ y ∷ m) bytes) (omega (arith, b.long)) }

module _ (s : Side) (p : List ℕ) where
  abbrev m : List ℕ
  m = bytes_from4 p

  abbrev before : Awaiting
  before = s.requester.awaiting

  -- a packet of the response that is awaited, and the bytes so far with its own
  data Message : List ℕ → Type 0 where
    first : has_som p ≡ true → Begins m → Message m
    later : (a : Assembly) → before ≡ Gathering a → has_som p ≡ false → sequence_of p ≡ (a.sequence + 1) % 4 → Message (take a.length s.store ++ m)

  record Taken (message : List ℕ) : Type 0 where
    of : Message message
    awaited : is_awaited (source_of p) (message_tag_of p) before ≡ true
    uncut : has_eom p ≡ false → length m ≡ s.requester.unit
    short : length message ≤ 4224
    room : length s.store ≡ 4224

  record Reply : Type 0 where
    som : has_som p ≡ true
    awaited : is_awaited (source_of p) (message_tag_of p) before ≡ true
    eom : has_eom p ≡ true
    twelve : length m ≡ 12
    typed : byte_at m 0 ≡ 0x84
    way : is_set (byte_at m 1) 7 ≡ true
    kind : is_control m ≡ true
    right : check_right m ≡ true

  data Row : ℕ × List ℕ → Type 0 where
    -- a refusal that stores nothing
    refused : (n : ℕ) → eqb n 0 ≡ false → is_whole n ≡ false → is_stored p n ≡ false → is_one_of n (numbers (receive p)) ≡ true → Row (n, [])
    -- the check is wrong
    wrong : is_awaited (source_of p) (message_tag_of p) before ≡ true → Row (19, [])
    replied : Reply → Row (2, 12 ∷ [])
    more : (message : List ℕ) → Taken message → has_eom p ≡ false → Row (0, [])
    whole : (message : List ℕ) → Taken message → has_eom p ≡ true → check_right message ≡ true → Row (1, length message ∷ [])

  taken_row : (message : List ℕ) → Taken message → Row (taken_in p message)
  taken_row message t =
      if_ind Row (not (has_eom p)) (λ unended. more message t (not-true (has_eom p) unended))
      (λ ended.
      if_ind Row (not (check_right message)) (λ _. wrong t.awaited) (λ right. whole message t (not-false (has_eom p) ended) (not-false (check_right message) right)))

  -- EOM 0, and a whole unit
  uncut_is : (not (has_eom p) && not (eqb (length m) s.requester.unit)) ≡ false → has_eom p ≡ false → length m ≡ s.requester.unit
  uncut_is e unended = eqb-true (length m) s.requester.unit (not-false (eqb (length m) s.requester.unit) (rw unended at e))

  long_enough : Valid s.requester → (has_eom p && ltb (length m) 8) ≡ false → (has_eom p ≡ false → length m ≡ s.requester.unit) → 8 ≤ length m
  long_enough v e u = by (has_eom p) refl
    where
      by : (b : Bool) → has_eom p ≡ b → 8 ≤ length m
      by true c = ltb-false (length m) 8 (rw c at e)
      by false c = omega (arith, u c, v.unit_least)

  module _ (v : Valid s.requester) (room : length s.store ≡ 4224) (small : length m ≤ s.requester.unit) where
    first_row : has_som p ≡ true → Row (first_numbers s p m)
    first_row som =
        if_ind Row (not (eqb (byte_at m 0) 0x84)) (λ _. refused 15 refl refl refl refl)
        (λ typed.
        if_ind Row (not (has_eom p) && not (eqb (length m) s.requester.unit)) (λ _. refused 16 refl refl refl refl)
        (λ uncut.
        if_ind Row (has_eom p && ltb (length m) 8) (λ _. refused 17 refl refl refl refl)
        (λ long.
        if_ind Row (not (is_set (byte_at m 1) 7)) (λ _. refused 15 refl refl refl refl)
        (λ way.
        by (eqb-true (byte_at m 0) 0x84 (not-false (eqb (byte_at m 0) 0x84) typed)) (uncut_is uncut) (long_enough v long (uncut_is uncut)) (not-false (is_set (byte_at m 1) 7) way)
        (is_control m) refl))))
      where
        by : byte_at m 0 ≡ 0x84 → (has_eom p ≡ false → length m ≡ s.requester.unit) → 8 ≤ length m → is_set (byte_at m 1) 7 ≡ true → (c : Bool) → is_control m ≡ c
            → Row
            (if c && (not (has_eom p) || not (eqb (length m) 12)) then (18, [])
            else if c && not (check_right m) then (19, [])
            else if not (is_awaited (source_of p) (message_tag_of p) before) then (20, [])
            else if c then (2, 12 ∷ [])
            else taken_in p m)
        by typed uncut long way false kind =
            if_ind Row (not (is_awaited (source_of p) (message_tag_of p) before)) (λ _. refused 20 refl refl refl refl)
            (λ awaited.
            taken_row m
            (record {
              of = first som (record { typed = typed; way = way; kind = kind; long = long });
              awaited = not-false (is_awaited (source_of p) (message_tag_of p) before) awaited;
              uncut = uncut;
              short = omega (arith, v.unit_most);
              room = room;
            }))
        by typed uncut long way true kind =
            if_ind Row (not (has_eom p) || not (eqb (length m) 12)) (λ _. refused 18 refl refl refl refl)
            (λ one.
            if_ind Row (not (check_right m)) (λ _. refused 19 refl refl (rw (som, kind) refl) refl)
            (λ right.
            if_ind Row (not (is_awaited (source_of p) (message_tag_of p) before)) (λ _. refused 20 refl refl refl refl)
            (λ awaited.
            replied
            (record {
              som = som;
              awaited = not-false (is_awaited (source_of p) (message_tag_of p) before) awaited;
              eom = not-false (has_eom p) (or_parts (not (has_eom p)) (not (eqb (length m) 12)) one).0;
              twelve = eqb-true (length m) 12 (not-false (eqb (length m) 12) (or_parts (not (has_eom p)) (not (eqb (length m) 12)) one).1);
              typed = typed;
              way = way;
              kind = kind;
              right = not-false (check_right m) right;
            }))))

    later_row : has_som p ≡ false → AwaitingFacts s.requester.unit before → Row (later_numbers s p m before)
    later_row som facts = by before refl facts
      where
        by : (x : Awaiting) → before ≡ x → AwaitingFacts s.requester.unit x → Row (later_numbers s p m x)
        by Nothing e f = refused 21 refl refl refl refl
        by (Awaited k) e f = refused 21 refl refl refl refl
        by (Gathering a) e f =
            if_ind Row (not (eqb a.source (source_of p) && eqb a.tag (message_tag_of p))) (λ _. refused 21 refl refl refl refl)
            (λ from.
            if_ind Row (not (eqb (sequence_of p) ((a.sequence + 1) % 4))) (λ _. refused 22 refl refl refl refl)
            (λ sequence.
            if_ind Row (not (has_eom p) && not (eqb (length m) s.requester.unit)) (λ _. refused 16 refl refl refl refl)
            (λ uncut.
            if_ind Row (ltb 4224 (a.length + length m)) (λ _. refused 23 refl refl refl refl)
            (λ fits.
            taken_row (take a.length s.store ++ m)
            (record {
              of = later a e som (eqb-true (sequence_of p) ((a.sequence + 1) % 4) (not-false (eqb (sequence_of p) ((a.sequence + 1) % 4)) sequence));
              awaited = ap (is_awaited (source_of p) (message_tag_of p)) e ∙ not-false (eqb a.source (source_of p) && eqb a.tag (message_tag_of p)) from;
              uncut = uncut_is uncut;
              short = simp (length-append, length-take) (omega (arith, ltb-false 4224 (a.length + length m) fits));
              room = room;
            })))))

  packet_row : Valid s.requester → Row (receive_numbers s p)
  packet_row v =
      if_ind Row (not (eqb (length s.store) 4224)) (λ _. refused 40 refl refl refl refl)
      (λ room.
      if_ind Row (ltb (length p) 5) (λ _. refused 10 refl refl refl refl)
      (λ _.
      if_ind Row (ltb (s.requester.unit + 4) (length p)) (λ _. refused 11 refl refl refl refl)
      (λ short.
      let small : length m ≤ s.requester.unit = rw (length-drop 4 p) (omega (arith, ltb-false (s.requester.unit + 4) (length p) short)) in
      let size : length s.store ≡ 4224 = eqb-true (length s.store) 4224 (not-false (eqb (length s.store) 4224) room) in
      if_ind Row (not (eqb (byte_at p 0 % 16) 1)) (λ _. refused 12 refl refl refl refl)
      (λ _.
      if_ind Row (not (eqb (byte_at p 1) s.requester.eid)) (λ _. refused 13 refl refl refl refl)
      (λ _.
      if_ind Row (is_set (byte_at p 3) 3) (λ _. refused 14 refl refl refl refl)
      (λ _.
      if_ind Row (has_som p) (λ som. first_row v size small som) (λ som. later_row v size small som v.awaiting_facts)))))))

-- ---- along a list of calls

-- packets of a response that is not whole yet: what the assembly says of them, and their payloads at the store's front
data Partly (unit : ℕ) (key : List ℕ) : List (List ℕ) → ℕ → ℕ → List ℕ → Type 0 where
  partly : {p : List ℕ} {ps : List (List ℕ)} {sequence n : ℕ} {store : List ℕ} → key_in p ≡ key → Behind unit key p ps → has_eom p ≡ false → length (bytes_from4 p) ≡ unit
      → sequence ≡ sequence_of p → take n store ≡ joined (p ∷ ps) → Begins (joined (p ∷ ps)) → Partly unit key (p ∷ ps) sequence n store

record Fit (side : Side) (key : List ℕ) (packets : List (List ℕ)) : Type 0 where
  valid : Valid side.requester
  key_is : key_of side.requester.awaiting ≡ key
  parts : (sequence n : ℕ) → assembly_of side.requester.awaiting ≡ sequence ∷ n ∷ [] → Partly side.requester.unit key packets sequence n side.store

abbrev Fits : History → Type 0
Fits h = Fit h.side h.key h.packets

no_parts : {A : Type 0} {sequence n : ℕ} {x : List ℕ} → x ≡ [] → x ≡ sequence ∷ n ∷ [] → A
no_parts e f = absurd (omega (arith, ap (λ (x : List ℕ). length x) (sym e ∙ f)))

place_later : (p : List ℕ) (x : Awaiting) (a : Assembly) → x ≡ Gathering a → has_som p ≡ false → place_in p x ≡ a.length
place_later p x a e som = rw (e, som) refl

module _ (s : Side) (p key : List ℕ) (packets : List (List ℕ)) (f : Fit s key packets) where
  -- the packets before this one, and the bytes so far
  record Before (message : List ℕ) : Type 0 where
    ours : key_in p ≡ key
    behind : Behind s.requester.unit key p (if has_som p then [] else packets)
    message_is : message ≡ joined (with_packet p packets)
    begins : Begins message
    front : take (length message) (put s.store (place_in p s.requester.awaiting) (bytes_from4 p)) ≡ message
    counted : place_in p s.requester.awaiting + length (bytes_from4 p) ≡ length message

  ours_is : is_awaited (source_of p) (message_tag_of p) s.requester.awaiting ≡ true → key_in p ≡ key
  ours_is a = sym (key_known (source_of p) (message_tag_of p) s.requester.awaiting a) ∙ f.key_is

  before_it : (message : List ℕ) → Taken s p message → Before message
  before_it message t = by message t.of
    where
      by : (message : List ℕ) → Message s p message → Before message
      by _ (first som begins) =
          record {
            ours = ours_is t.awaited;
            behind = rw som som;
            message_is = rw som refl;
            begins = begins;
            front = rw (place_first p s.requester.awaiting som) (take_put s.store (bytes_from4 p));
            counted = rw (place_first p s.requester.awaiting som) (omega arith);
          }
      by _ (later a e som sequence) = from packets refl (f.parts a.sequence a.length (ap assembly_of e))
        where
          fits : a.length ≤ length s.store
          fits = rw t.room (gathered_most s.requester.unit s.requester.awaiting e f.valid.awaiting_facts)

          at : place_in p s.requester.awaiting ≡ a.length
          at = place_later p s.requester.awaiting a e som

          message_length : length (take a.length s.store ++ bytes_from4 p) ≡ a.length + length (bytes_from4 p)
          message_length = simp (length-append, length-take) (omega (arith, fits))

          from : (ps : List (List ℕ)) → packets ≡ ps → Partly s.requester.unit key ps a.sequence a.length s.store → Before (take a.length s.store ++ bytes_from4 p)
          from _ e (partly {p = q} {ps = qs} ours behind unended full sequence_is front begins) =
              record {
                ours = ours_is t.awaited;
                behind = rw (som, e) (som, sequence ∙ ap (λ (x : ℕ). (x + 1) % 4) sequence_is, ours, unended, full, behind);
                message_is = rw (som, e, front) refl;
                begins = rw front (begins_on (joined (q ∷ qs)) (bytes_from4 p) begins);
                front = rw (at, message_length) (take_joined s.store a.length (bytes_from4 p) fits);
                counted = rw at (sym message_length);
              }

  -- after the packet, where its row answers n
  after_row : (n : ℕ × List ℕ) → Row s p n → Left s p n (received s p) → Fit (received s p).side (key_after (receive p) n.0 key) (packets_after (receive p) n.0 packets)
  after_row _ (refused n zero part stored named) l =
      record {
        valid = received_valid s p f.valid;
        key_is = l.key_is ∙ rw part f.key_is;
        parts = λ sequence k e. by sequence k (sym l.assembly_is ∙ e);
      }
    where
      still : (b : Bool) {sequence k : ℕ} → (if b then [] else assembly_of s.requester.awaiting) ≡ sequence ∷ k ∷ [] → Partly s.requester.unit key packets sequence k s.store
      still true e = no_parts refl e
      still false {sequence} {k} e = f.parts sequence k e

      by : (sequence k : ℕ)
          → (if eqb n 0 then sequence_of p ∷ (place_in p s.requester.awaiting + length (bytes_from4 p)) ∷ []
          else if ends_assembly s p n then []
          else assembly_of s.requester.awaiting) ≡ sequence ∷ k ∷ []
          → Partly (received s p).side.requester.unit (if is_whole n then [] else key) (if eqb n 0 then with_packet p packets else packets) sequence k (received s p).side.store
      by sequence k e = let q = rw zero at e in rw (zero, part, l.unit_is, l.store_is, stored) (still (ends_assembly s p n) q)
  after_row _ (wrong awaited) l =
      record {
        valid = received_valid s p f.valid;
        key_is = l.key_is ∙ f.key_is;
        parts = λ sequence k e. no_parts (l.assembly_is ∙ rw awaited refl) e;
      }
  after_row _ (replied r) l = record { valid = received_valid s p f.valid; key_is = l.key_is; parts = λ sequence k e. no_parts l.assembly_is e }
  after_row _ (whole message t eom right) l = record { valid = received_valid s p f.valid; key_is = l.key_is; parts = λ sequence k e. no_parts l.assembly_is e }
  after_row _ (more message t unended) l =
      record {
        valid = received_valid s p f.valid;
        key_is = l.key_is ∙ f.key_is;
        parts = λ sequence k e. by sequence k (before_it message t) (sym l.assembly_is ∙ e);
      }
    where
      by : (sequence k : ℕ) → Before message
          → ◌≡◌ {A = List ℕ} (sequence_of p ∷ (place_in p s.requester.awaiting + length (bytes_from4 p)) ∷ []) (sequence ∷ k ∷ [])
          → Partly (received s p).side.requester.unit key (with_packet p packets) sequence k (received s p).side.store
      by sequence k b e =
          let size : k ≡ length message = cc e ∙ b.counted in
          let newest : sequence ≡ sequence_of p = cc e in
          let front : take k (received s p).side.store ≡ joined (with_packet p packets) = rw (l.store_is, size) (b.front ∙ b.message_is) in
          let begins : Begins (joined (with_packet p packets)) = rw (sym b.message_is) b.begins in
          rw l.unit_is
          (partly b.ours b.behind unended (t.uncut unended) newest front begins)

-- ---- every call keeps it

await_fit : (s : Side) (key : List ℕ) (packets : List (List ℕ)) (source tag : ℕ) (d : Done) → Fit s key packets → Awaits s.requester source tag d → Valid d.requester
    → Fit (side d.requester s.store) (key_after (await source tag) d.answer key) (packets_after (await source tag) d.answer packets)
await_fit s key packets source tag d f a v = by (ltb 7 tag) refl
  where
    by : (b : Bool) → ltb 7 tag ≡ b
        → Fit (side d.requester s.store) (key_after (await source tag) d.answer key) (packets_after (await source tag) d.answer packets)
    by true high =
        record {
          valid = v;
          key_is = rw (a.number_is, high) (a.key_is ∙ rw high f.key_is);
          parts = λ sequence n e. rw (a.number_is, high, a.unit_is) (f.parts sequence n (sym (a.assembly_is ∙ rw high refl) ∙ e));
        }
    by false low =
        record {
          valid = v;
          key_is = rw (a.number_is, low) (a.key_is ∙ rw low refl);
          parts = λ sequence n e. no_parts (a.assembly_is ∙ rw low refl) e;
        }

await_fits : (h : History) (source tag : ℕ) → Fits h → Fits (next (await source tag) h)
unfolding next says after
await_fits h source tag f =
    let r = h.side.requester in
    await_fit h.side h.key h.packets source tag (now_awaits r source tag) f (awaits_so r source tag) (awaits_valid r source tag f.valid)

receive_fits : (h : History) (p : List ℕ) → Fits h → Fits (next (receive p) h)
unfolding next says after
receive_fits h p f =
    let l = received_so h.side p f.valid in
    rw l.number_is (after_row h.side p h.key h.packets f (receive_numbers h.side p) (packet_row h.side p f.valid) l)

call_fits : (c : Call) (h : History) → Fits h → Fits (next c h)
unfolding next after
call_fits (await source tag) h f = await_fits h source tag f
call_fits (cut destination tag m buffer) h f = record { valid = f.valid; key_is = f.key_is; parts = f.parts }
call_fits (primitive destination tag p buffer) h f = record { valid = f.valid; key_is = f.key_is; parts = f.parts }
call_fits (receive p) h f = receive_fits h p f

run_fits : (cs : List Call) (h : History) → Fits h → Fits (run cs h)
unfolding run
run_fits [] h f = f
run_fits (c ∷ cs) h f = run_fits cs (next c h) (call_fits c h f)

start_fits : (eid unit : ℕ) (store : List ℕ) → Fits (start eid unit store)
unfolding start
start_fits eid unit store =
    record { valid = setup_valid eid unit; key_is = (setup_so eid unit).key_is; parts = λ sequence n e. no_parts (none (was_set_up eid unit).requester.awaiting (setup_so eid unit).key_is) e }
  where
    none : (x : Awaiting) → key_of x ≡ [] → assembly_of x ≡ []
    none Nothing e = refl
    none (Awaited k) e = refl
    none (Gathering a) e = no_parts refl (sym e)

every_fits : (eid unit : ℕ) (store : List ℕ) (cs : List Call) → Fits (run cs (start eid unit store))
every_fits eid unit store cs = run_fits cs (start eid unit store) (start_fits eid unit store)

-- ---- what is told as whole

-- the row that a packet comes to, and what is left
record Answered (s : Side) (p : List ℕ) (n : ℕ × List ℕ) : Type 0 where
  row_is : Row s p n
  left : Left s p n (received s p)

own_response : (h : History) (p : List ℕ) (n : ℕ × List ℕ) → Fits h → Answered h.side p n → n.0 ≡ 1 → OwnResponse h p
own_response h p n f a = by n a.row_is a.left
  where
    by : (n : ℕ × List ℕ) → Row h.side p n → Left h.side p n (received h.side p) → n.0 ≡ 1 → OwnResponse h p
    by _ (refused n zero part stored named) l e = false_true (sym part ∙ ap is_whole e)
    by _ (wrong awaited) l e = absurd (omega (arith, e))
    by _ (replied r) l e = absurd (omega (arith, e))
    by _ (more message t unended) l e = absurd (omega (arith, e))
    by _ (whole message t eom right) l e =
        let b = before_it h.side p h.key h.packets f message t in
        unfold says after in
        record {
          awaited = b.ours;
          in_order = b.behind;
          last = eom;
          formed =
              rw (sym b.message_is)
              (record { long = b.begins.long; short = t.short; typed = b.begins.typed; way = b.begins.way; kind = b.begins.kind; right = right });
          told = l.number_is ∙ rw b.message_is refl;
          front = rw (sym b.message_is, l.store_is) b.front;
        }

answered : (h : History) (p : List ℕ) → Fits h → Answered h.side p (receive_numbers h.side p)
answered h p f = record { row_is = packet_row h.side p f.valid; left = received_so h.side p f.valid }

-- the number told is the table's
told_is : (h : History) (p : List ℕ) (n : ℕ) → Fits h → (says (receive p) h.side).0 ≡ n → (receive_numbers h.side p).0 ≡ n
unfolding says
told_is h p n f e = ap (λ (x : ℕ × List ℕ). x.0) (sym (answered h p f).left.number_is) ∙ e

pub response_own : ResponseOwn
response_own eid unit store cs p e =
    let h = run cs (start eid unit store) in
    let f = every_fits eid unit store cs in
    own_response h p (receive_numbers h.side p) f (answered h p f) (told_is h p 1 f e)

own_reply : (h : History) (p : List ℕ) (n : ℕ × List ℕ) → Fits h → Answered h.side p n → n.0 ≡ 2 → OwnReply h p
own_reply h p n f a = by n a.row_is a.left
  where
    by : (n : ℕ × List ℕ) → Row h.side p n → Left h.side p n (received h.side p) → n.0 ≡ 2 → OwnReply h p
    by _ (refused n zero part stored named) l e = false_true (sym part ∙ ap is_whole e)
    by _ (wrong awaited) l e = absurd (omega (arith, e))
    by _ (more message t unended) l e = absurd (omega (arith, e))
    by _ (whole message t eom right) l e = absurd (omega (arith, e))
    by _ (replied r) l e =
        unfold says after in
        record {
          awaited = ours_is h.side p h.key h.packets f r.awaited;
          som = r.som;
          eom = r.eom;
          twelve = r.twelve;
          typed = sym (get_or-drop 4 p 0 0) ∙ r.typed;
          way = ap (λ (x : ℕ). is_set x 7) (sym (get_or-drop 4 p 1 0)) ∙ r.way;
          kind = ap (λ (x : ℕ). x / 8 % 16) (sym (get_or-drop 4 p 1 0)) ∙ eqb-true (byte_at (bytes_from4 p) 1 / 8 % 16) 0 r.kind;
          right = r.right;
          told = l.number_is;
          front =
              rw (l.store_is, place_first p h.side.requester.awaiting r.som)
              (ap (λ (k : ℕ). take k (put h.side.store 0 (bytes_from4 p))) (sym r.twelve) ∙ take_put h.side.store (bytes_from4 p));
        }

pub reply_own : ReplyOwn
reply_own eid unit store cs p e =
    let h = run cs (start eid unit store) in
    let f = every_fits eid unit store cs in
    own_reply h p (receive_numbers h.side p) f (answered h p f) (told_is h p 2 f e)

-- ---- every answer is one of the numbers

abbrev Named : Call → ℕ × List ℕ → Type 0
Named c n = is_one_of n.0 (numbers c) ≡ true

row_named : (s : Side) (p : List ℕ) (n : ℕ × List ℕ) → Row s p n → Named (receive p) n
row_named s p _ (refused n zero part stored named) = named
row_named s p _ (wrong awaited) = refl
row_named s p _ (replied r) = refl
row_named s p _ (more message t unended) = refl
row_named s p _ (whole message t eom right) = refl

call_named : (h : History) → Fits h → (c : Call) → Named c (says c h.side)
unfolding says
call_named h f (await source tag) =
    rw (awaits_so h.side.requester source tag).number_is
    (if_ind (λ (n : ℕ). is_one_of n (0 ∷ 41 ∷ []) ≡ true) (ltb 7 tag) (λ _. refl) (λ _. refl))
call_named h f (cut destination tag message buffer) =
    let named = Named (cut destination tag message buffer) in
    rw (cut_so h.side.requester destination tag message buffer f.valid).wrote.number_is
    (if_ind named (ltb (length message) 8 || ltb 4224 (length message) || ltb 7 tag) (λ _. refl)
    (λ _. if_ind named (ltb (length buffer) (size_of h.side.requester.unit message)) (λ _. refl) (λ _. refl)))
call_named h f (primitive destination tag p buffer) =
    let named = Named (primitive destination tag p buffer) in
    rw (primitive_so h.side.requester destination tag p buffer f.valid).wrote.number_is
    (if_ind named (ltb 7 tag) (λ _. refl)
    (λ _. if_ind named (ltb 1 p.slot) (λ _. refl) (λ _. if_ind named (ltb (length buffer) 16) (λ _. refl) (λ _. refl))))
call_named h f (receive p) =
    rw (answered h p f).left.number_is (row_named h.side p (receive_numbers h.side p) (answered h p f).row_is)

pub answers_named : AnswersNamed
answers_named eid unit store cs =
    let f = every_fits eid unit store cs in
    (f.valid, call_named (run cs (start eid unit store)) f)

-- ---- no call changes the EID or the unit

call_end : (c : Call) (h : History) → Fits h → end_of (next c h).side.requester ≡ end_of h.side.requester
unfolding next after
call_end (await source tag) h f = let a = awaits_so h.side.requester source tag in rw (a.eid_is, a.unit_is) refl
call_end (cut destination tag m buffer) h f = refl
call_end (primitive destination tag p buffer) h f = refl
call_end (receive p) h f = let l = received_so h.side p f.valid in rw (l.eid_is, l.unit_is) refl

run_end : (cs : List Call) (h : History) → Fits h → end_of (run cs h).side.requester ≡ end_of h.side.requester
unfolding run
run_end [] h f = refl
run_end (c ∷ cs) h f = run_end cs (next c h) (call_fits c h f) ∙ call_end c h f

pub identity_kept : IdentityKept
unfolding start
identity_kept eid unit store cs =
    let e = run_end cs (start eid unit store) (start_fits eid unit store) in
    let k = setup_so eid unit in
    record { eid_is = ap (λ (x : ℕ × ℕ). x.0) e ∙ k.eid_is; unit_is = ap (λ (x : ℕ × ℕ). x.1) e ∙ k.unit_is }
