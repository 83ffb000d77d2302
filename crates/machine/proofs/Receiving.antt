-- Every way through "Receiving", walked once: a property that each of its steps keeps or leads to, a received packet has.
-- Assumes nothing.
use Prim.Native.Nat.{ℕ, ◌+◌, ◌%◌, ◌≤◌}
use mathlib.Core.Path.{◌≡◌, refl, sym, ◌∙◌}
use mathlib.Core.Bool.{Bool, true, false, not, ◌&&◌, ◌||◌}
use mathlib.Core.List.{List}
use native.Mathlib.Nat.{mod-lt, mod_self, add-mod_right, zero-lt-suc}
use native.Mathlib.Omega.{arith}
use lib.Dec.{eqb, ltb}
use lib.ListN.{length, take, length-drop}
use borrow.Author.Tests.{ltb-false, eqb-true, not-true, not-false}
use Rattle.lent.specs.Bytes.{byte_at, is_set, put}
use Rattle.std.proofs.lemmas.Bool.{or_parts}
use Rattle.lent.proofs.Choice.{if_ind, if_second, false_true}
use Rattle.mctp.specs.Header.{read_header, fields, same, payload_of}
use Rattle.mctp.specs.Gather.{is_cut, join_refusal, no_assembly, not_full}
use Rattle.mctp.specs.declared.Header.{Header}
use Rattle.mctp.proofs.Laws.{not_read, packet_sized, joins}
use Rattle.nvme_mi.specs.Message.{message_type, control, message_header, smallest, control_size}
use Rattle.nvme_mi.specs.Check.{check_right}
use Rattle.opening.specs.Opening.{opened, joined_in, check_wrong, wrong_message, message_too_short, not_twelve}
use Rattle.opening.specs.declared.First.{First}
use Rattle.opening.specs.declared.Joined.{Joined}
use Rattle.machine.specs.Answers.{more_to_come, command_complete, control_done}
use Rattle.machine.specs.State.{World, Outcome, outcome, slot_at, store_at, with_store, with_endpoint, on_slot, with_phase, is_idle}
use Rattle.machine.specs.Wire.{store_size, inward, wrong_stores}
use Rattle.machine.specs.Process.{entered}
use Rattle.machine.specs.Control.{controlled}
use Rattle.machine.specs.Receive.{refused, refused_busy, dropped, gathers, is_from, end_assembly, holder, assembly, landed, gathered, first_command, first_by, first, later_at, later_by, later, received_by, received}
use Rattle.machine.specs.Poll.{other_slot}
use Rattle.machine.specs.Valid.{Sound, PhaseFacts}
use Rattle.machine.specs.History.{has_som, receives_from}
use Rattle.machine.specs.Refusals.{is_command}
use Rattle.machine.specs.Types.{Assembly, Phase, Idle, Receive, Process, Answered, Transmit}
use Rattle.machine.proofs.Slots.{is_early, idle_early, facts_at, alone_at, from_same, Holds, holder_at, holder_none, ended_at, other_most}
use Rattle.std.specs.Prelude.{Result, Ok, Err, Option, None, Some}

-- ---- what the tests say of a payload

-- not cut short: without EOM it is a whole unit
pub full_unit : (unit : ℕ) (h : Header) (n : ℕ) → is_cut unit h n ≡ false → h.eom ≡ false → n ≡ unit
full_unit unit h n c e = eqb-true n unit (not-false (eqb n unit) (rw e at c))

-- full payloads alone: a positive multiple of the unit
pub record Units (unit n : ℕ) : Type 0 where
  pub least : unit ≤ n
  pub even : n % unit ≡ 0

one_unit : (unit n : ℕ) → n ≡ unit → Units unit n
one_unit unit n e = rw e (record { least = omega arith; even = mod_self unit })

one_more : (unit at n : ℕ) → Units unit at → n ≡ unit → Units unit (at + n)
one_more unit at n u e = rw e (record { least = omega arith; even = add-mod_right at unit ∙ u.even })

-- with EOM it is a message
whole_message : (h : Header) (n : ℕ) → (h.eom && ltb n smallest) ≡ false → h.eom ≡ true → smallest ≤ n
whole_message h n c e = ltb-false n smallest (rw e at c)

pub record Sized (unit : ℕ) (packet : List ℕ) : Type 0 where
  pub some : 1 ≤ length (payload_of packet)
  pub most : length (payload_of packet) ≤ unit

read_sized : (eid unit : ℕ) (packet : List ℕ) {h : Header} → read_header eid unit inward packet ≡ Ok h → Sized unit packet
read_sized eid unit packet e =
    let k = packet_sized eid unit inward packet e in
    record { some = rw (length-drop 4 packet) (omega (arith, k.0)); most = rw (length-drop 4 packet) (omega (arith, k.1)) }

-- a header's refusal has a number from 10 to 14
abbrev Numbered : Result Header ℕ → Type 0
Numbered (Err n) = (10 ≤ n) × (n ≤ 14)
Numbered (Ok h) = Unit {0}

numbered : (eid unit : ℕ) (packet : List ℕ) → Numbered (read_header eid unit inward packet)
unfolding read_header
numbered eid unit packet =
    if_ind Numbered (ltb (length packet) 5) (λ _. (omega arith, omega arith))
    (λ _.
    if_ind Numbered (ltb (unit + 4) (length packet)) (λ _. (omega arith, omega arith))
    (λ _.
    if_ind Numbered (not (eqb (byte_at packet 0 % 16) 1)) (λ _. (omega arith, omega arith))
    (λ _.
    if_ind Numbered (not (eqb (byte_at packet 1) eid)) (λ _. (omega arith, omega arith))
    (λ _. if_ind Numbered (not (same (is_set (byte_at packet 3) 3) inward)) (λ _. (omega arith, omega arith)) (λ _. tt)))))

read_number : (eid unit : ℕ) (packet : List ℕ) {n : ℕ} → read_header eid unit inward packet ≡ Err n → (10 ≤ n) × (n ≤ 14)
read_number eid unit packet {n} e = rw e at (numbered eid unit packet)

-- what is known of a packet that is read
pub record ReadSo (eid : ℕ) (packet : List ℕ) (h : Header) : Type 0 where
  pub version : eqb (byte_at packet 0 % 16) 1 ≡ true
  pub ours : eqb (byte_at packet 1) eid ≡ true
  pub direction : is_set (byte_at packet 3) 3 ≡ true
  pub fields_are : h ≡ fields packet

pub read_facts : (eid unit : ℕ) (packet : List ℕ) {h : Header} → read_header eid unit inward packet ≡ Ok h → ReadSo eid packet h
unfolding read_header
read_facts eid unit packet {h} e =
    let a = if_second (ltb (length packet) 5) not_read e in
    let b = if_second (ltb (unit + 4) (length packet)) not_read a.1 in
    let c = if_second (not (eqb (byte_at packet 0 % 16) 1)) not_read b.1 in
    let d = if_second (not (eqb (byte_at packet 1) eid)) not_read c.1 in
    let f = if_second (not (same (is_set (byte_at packet 3) 3) inward)) not_read d.1 in
    record {
      version = not-false (eqb (byte_at packet 0 % 16) 1) c.0;
      ours = not-false (eqb (byte_at packet 1) eid) d.0;
      direction = same_true (is_set (byte_at packet 3) 3) (not-false (same (is_set (byte_at packet 3) 3) inward) f.0);
      fields_are = packet_is f.1;
    }
  where
    same_true : (b : Bool) → same b true ≡ true → b ≡ true
    same_true true q = refl
    same_true false q = q

    packet_is : ◌≡◌ {A = Result Header ℕ} (Ok (fields packet)) (Ok h) → h ≡ fields packet
    packet_is q = cc

pub right_stores : (w : World) → Sound w → wrong_stores w ≡ false
right_stores w s = rw (s.size0, s.size1) refl

-- the history's words for an assembly are the machine's
pub receives_gathers : (source tag : ℕ) (p : Phase) → receives_from source tag p ≡ gathers source tag p
receives_gathers source tag (Idle held) = refl
receives_gathers source tag (Receive a) = refl
receives_gathers source tag (Process r) = refl
receives_gathers source tag (Answered r) = refl
receives_gathers source tag (Transmit r) = refl

-- CSI is one bit
pub csi_most : (m : List ℕ) → (message_header m).csi ≤ 1
csi_most m = omega (arith, mod-lt (byte_at m 1) (zero-lt-suc 1))

-- ---- the steps, and what is known at each

module _ (w₀ : World) (packet : List ℕ) where
  abbrev pub header : Header
  header = fields packet

  abbrev pub message : List ℕ
  message = payload_of packet

  -- where the payload of a command's packet goes: at the start of the slot that CSI names, or behind the bytes of the assembly that it joins
  pub data Origin (w : World) (i : ℕ) : ℕ → Type 0 where
    opens : has_som packet ≡ true → i ≡ byte_at message 1 % 2 → is_cut w₀.endpoint.unit header (length message) ≡ false → eqb (message_header message).nmimt control ≡ false → Origin w i 0
    goes_on : has_som packet ≡ false → (a : Assembly) → (slot_at w.endpoint i).phase ≡ Receive a
        → is_from header.source header.tag a ≡ true → join_refusal w₀.endpoint.unit store_size a.sequence a.length header (length message) ≡ 0 → Origin w i a.length

  -- which is a command's packet
  pub is_command_lem : {w : World} {i n : ℕ} → Origin w i n → is_command packet ≡ true
  is_command_lem (opens som _ _ kind) = rw (som, kind) refl
  is_command_lem (goes_on som _ _ _ _) = rw som refl

  -- a command's packet that is not refused before it is stored
  pub record Joining (w : World) (i at : ℕ) : Type 0 where
    pub slot_is : i ≤ 1
    pub same_unit : w.endpoint.unit ≡ w₀.endpoint.unit
    pub early : is_early (slot_at w.endpoint i).phase ≡ true
    pub alone : gathers header.source header.tag (slot_at w.endpoint (other_slot i)).phase ≡ false
    pub read_so : read_header w₀.endpoint.eid w₀.endpoint.unit inward packet ≡ Ok header
    pub fits : at + length message ≤ store_size
    pub origin : Origin w i at

  -- the world with the payload stored, and the assembly with this packet
  abbrev pub filled : World → ℕ → ℕ → World
  filled w i at = with_store w i (put (store_at w i) at message)

  abbrev pub grown : ℕ → Assembly
  grown at = assembly header (at + length message)

  abbrev pub whole : World → ℕ → ℕ → List ℕ
  whole w i at = take (at + length message) (store_at (filled w i at) i)

  -- a control primitive that came whole, with a right check
  pub record Controls : Type 0 where
    pub read_so : read_header w₀.endpoint.eid w₀.endpoint.unit inward packet ≡ Ok header
    pub som : has_som packet ≡ true
    pub eom : header.eom ≡ true
    pub twelve : length message ≡ control_size
    pub typed : byte_at message 0 ≡ message_type
    pub request : (message_header message).ror ≡ false
    pub kind : (message_header message).nmimt ≡ control
    pub right : check_right message ≡ true

  -- where a packet is refused without its slot: by the second table, for a control primitive's check, or because no slot is in Receive with its
  -- source and tag
  pub data Ground : ℕ → Type 0 where
    in_table : {n : ℕ} → has_som packet ≡ true → 15 ≤ n → n ≤ 18 → Ground n
    of_control : has_som packet ≡ true → (message_header message).nmimt ≡ control → Ground 19
    of_no_slot : has_som packet ≡ false → ((i : ℕ) → i ≤ 1 → gathers header.source header.tag (slot_at w₀.endpoint i).phase ≡ false) → Ground 21

  -- 20: a command's first packet, and the slot that its CSI names is not Idle
  pub record Busy (w : World) (i : ℕ) : Type 0 where
    pub slot_is : i ≤ 1
    pub som : has_som packet ≡ true
    pub named : i ≡ byte_at message 1 % 2
    pub occupied : is_idle (slot_at w.endpoint i).phase ≡ false

  -- a packet without SOM, and the slot that is in Receive with its source and tag
  pub record Gathering (w : World) (i : ℕ) : Type 0 where
    pub slot_is : i ≤ 1
    pub assembly_is : Assembly
    pub gathers_it : (slot_at w.endpoint i).phase ≡ Receive assembly_is
    pub from_it : is_from header.source header.tag assembly_is ≡ true

  -- where the slot of such a packet goes to Idle: 22, 16, 23
  pub data Break : ℕ → Type 0 where
    in_sequence : has_som packet ≡ false → Break 22
    in_size : has_som packet ≡ false → Break 16
    in_total : has_som packet ≡ false → Break 23

  -- P holds on the way, Q of what receiving answers and leaves
  pub record Walk (P : World → Type 0) (Q : Outcome → Type 0) : Type 0 where
    pub sound : (w : World) → P w → Sound w
    -- the header is refused
    pub unread : (n : ℕ) → 10 ≤ n → n ≤ 14 → Q (refused w₀ n)
    -- the packet is refused, and no slot with it
    pub refusing : (w : World) (n : ℕ) → Ground n → P w → Q (refused w n)
    pub busying : (w : World) (i : ℕ) → Busy w i → P w → Q (refused_busy w i)
    -- the packet is refused, and the slot that it was for goes to Idle
    pub dropping : (w : World) (i n : ℕ) → Break n → Gathering w i → P w → Q (refused (dropped w i) n)
    pub failing : (w : World) (i at : ℕ) → Joining w i at → P w → Q (refused (dropped (filled w i at) i) check_wrong)
    pub gaining : (w : World) (i at : ℕ) → Joining w i at → header.eom ≡ false → Units w.endpoint.unit (at + length message) → P w
        → Q (outcome more_to_come (on_slot (filled w i at) i (with_phase (slot_at w.endpoint i) (Receive (grown at)))))
    pub entering : (w : World) (i at : ℕ) → Joining w i at → header.eom ≡ true → smallest ≤ at + length message → check_right (whole w i at) ≡ true → P w
        → Q (outcome command_complete (entered (filled w i at) i (grown at) (message_header (whole w i at))))
    pub controlling : (w : World) → Controls → P w → Q (outcome control_done (with_endpoint w (controlled w.endpoint header (message_header message) message)))

-- ---- the walk

abbrev Breaks : World → List ℕ → ℕ → Type 0
Breaks w packet x = eqb x 0 ≡ false → Break w packet x

join_break : (w : World) (packet : List ℕ) → has_som packet ≡ false → (unit sequence gathered n : ℕ) (h : Header) → Breaks w packet (join_refusal unit store_size sequence gathered h n)
unfolding join_refusal
join_break w packet som unit sequence gathered n h =
    if_ind (Breaks w packet) (not (eqb h.sequence ((sequence + 1) % 4))) (λ _ _. in_sequence som)
    (λ _.
    if_ind (Breaks w packet) (is_cut unit h n) (λ _ _. in_size som)
    (λ _. if_ind (Breaks w packet) (ltb store_size (gathered + n)) (λ _ _. in_total som) (λ _ e. false_true (sym e))))

module _ (w₀ : World) (packet : List ℕ) (P : World → Type 0) (Q : Outcome → Type 0) (k : Walk w₀ packet P Q) where
  abbrev H : Header
  H = fields packet

  abbrev M : List ℕ
  M = payload_of packet

  abbrev U : ℕ
  U = w₀.endpoint.unit

  gathered_walk : (w : World) (i at : ℕ) → Joining w₀ packet w i at → (H.eom ≡ true → smallest ≤ at + length M)
      → (H.eom ≡ false → Units w.endpoint.unit (at + length M)) → P w → Q (gathered w i at H M)
  unfolding gathered joined_in
  gathered_walk w i at j last more p =
      if_ind R (not H.eom) (λ e. k.gaining w i at j (not-true H.eom e) (more (not-true H.eom e)) p)
      (λ e.
      if_ind R (not (check_right (take (at + length M) (store_at (filled w₀ packet w i at) i)))) (λ _. k.failing w i at j p)
      (λ right. k.entering w i at j (not-false H.eom e) (last (not-false H.eom e)) (not-false (check_right (whole w₀ packet w i at)) right) p))
    where
      R : Joined → Type 0
      R o = Q (landed (filled w₀ packet w i at) i (grown w₀ packet at) o)

  -- once an assembly with this source and tag has ended
  abbrev Free : World → Type 0
  Free w = (i : ℕ) → i ≤ 1 → gathers H.source H.tag (slot_at w.endpoint i).phase ≡ false

  command_walk : (w : World) → w.endpoint.unit ≡ U → read_header w₀.endpoint.eid U inward packet ≡ Ok H → Free w → H.som ≡ true → length M ≤ U
      → is_cut U H (length M) ≡ false → eqb (message_header M).nmimt control ≡ false → (H.eom ≡ true → smallest ≤ length M) → P w → Q (first_command w H (message_header M).csi M)
  unfolding first_command
  command_walk w same_unit read_so free som hi cut kind last p =
      let n = (k.sound w p).state.numbers in
      let i = (message_header M).csi in
      let is = csi_most M in
      if_ind Q (not (is_idle (slot_at w.endpoint i).phase))
      (λ busy. k.busying w i (record { slot_is = is; som = som; named = refl; occupied = not-true (is_idle (slot_at w.endpoint i).phase) busy }) p)
      (λ idle.
      gathered_walk w i 0
      (record {
        slot_is = is;
        same_unit = same_unit;
        early = idle_early (slot_at w.endpoint i).phase (not-false (is_idle (slot_at w.endpoint i).phase) idle);
        alone = free (other_slot i) (other_most i);
        read_so = read_so;
        fits = omega (arith, same_unit, n.unit_most);
        origin = opens som refl cut kind;
      })
      (λ e. omega (arith, last e)) (λ e. one_unit w.endpoint.unit (0 + length M) (omega (arith, full_unit U H (length M) cut e, same_unit))) p)

  first_walk : (w : World) → w.endpoint.unit ≡ U → read_header w₀.endpoint.eid U inward packet ≡ Ok H → Free w → H.som ≡ true → length M ≤ U → P w → Q (first w H M)
  unfolding first opened
  first_walk w same_unit read_so free som hi p = rows w.endpoint.unit same_unit
    where
      R : Result First ℕ → Type 0
      R o = Q (first_by w H M o)

      was_false : (b : Bool) → not (same b false) ≡ false → b ≡ false
      was_false true e = false_true (sym e)
      was_false false e = refl

      rows : (unit : ℕ) → unit ≡ U → R (opened unit false H M)
      rows unit e =
          rw e
          (if_ind R (not (eqb (byte_at M 0) message_type)) (λ _. k.refusing w wrong_message (in_table som (omega arith) (omega arith)) p)
          (λ typed.
          if_ind R (is_cut U H (length M)) (λ _. k.refusing w not_full (in_table som (omega arith) (omega arith)) p)
          (λ cut.
          if_ind R (H.eom && ltb (length M) smallest) (λ _. k.refusing w message_too_short (in_table som (omega arith) (omega arith)) p)
          (λ short.
          if_ind R (not (same (message_header M).ror false)) (λ _. k.refusing w wrong_message (in_table som (omega arith) (omega arith)) p)
          (λ request.
          if_ind R (not (eqb (message_header M).nmimt control))
          (λ kind. command_walk w same_unit read_so free som hi cut (not-true (eqb (message_header M).nmimt control) kind) (whole_message H (length M) short) p)
          (λ kind.
          if_ind R (not H.eom || not (eqb (length M) control_size)) (λ _. k.refusing w not_twelve (in_table som (omega arith) (omega arith)) p)
          (λ one.
          if_ind R (not (check_right M)) (λ _. k.refusing w check_wrong (of_control som (eqb-true (message_header M).nmimt control (not-false (eqb (message_header M).nmimt control) kind))) p)
          (λ right.
          k.controlling w
          (record {
            read_so = read_so;
            som = som;
            eom = not-false H.eom (or_parts (not H.eom) (not (eqb (length M) control_size)) one).0;
            twelve = eqb-true (length M) control_size (not-false (eqb (length M) control_size) (or_parts (not H.eom) (not (eqb (length M) control_size)) one).1);
            typed = eqb-true (byte_at M 0) message_type (not-false (eqb (byte_at M 0) message_type) typed);
            request = was_false (message_header M).ror request;
            kind = eqb-true (message_header M).nmimt control (not-false (eqb (message_header M).nmimt control) kind);
            right = not-false (check_right M) right;
          })
          p))))))))

  later_at_lem : (i : ℕ) (a : Assembly) → read_header w₀.endpoint.eid U inward packet ≡ Ok H → Holds w₀.endpoint H.source H.tag i a
      → H.som ≡ false → 1 ≤ length M → P w₀ → Q (later_by w₀ H M (Some (i, a)))
  unfolding later_at
  later_at_lem i a read_so held som lo p =
      let is = held.slot_is in
      let early : is_early (slot_at w₀.endpoint i).phase ≡ true = rw held.gathers_it refl in
      let same = from_same H.source H.tag a held.from_it in
      let v = (k.sound w₀ p).state in
      let size : PhaseFacts U (slot_at w₀.endpoint i).paused (Receive a) = rw held.gathers_it at (facts_at i is v) in
      let free : gathers H.source H.tag (slot_at w₀.endpoint (other_slot i)).phase ≡ false =
      rw (sym same.0, sym same.1) (alone_at i is v a held.gathers_it) in
      let refusal = join_refusal U store_size a.sequence a.length H (length M) in
      if_ind Q (eqb refusal 0)
      (λ none.
      let j = joins U store_size a.sequence a.length (length M) H (eqb-true refusal 0 none) in
      gathered_walk w₀ i a.length
      (record {
        slot_is = is;
        same_unit = refl;
        early = early;
        alone = free;
        read_so = read_so;
        fits = j.fits;
        origin = goes_on som a held.gathers_it held.from_it (eqb-true refusal 0 none);
      })
      (λ _. omega (arith, size.0, v.numbers.unit_least))
      (λ e. one_more U a.length (length M) (record { least = size.0; even = size.2 }) (full_unit U H (length M) j.whole_unit e)) p)
      (λ some. k.dropping w₀ i refusal (join_break w₀ packet som U a.sequence a.length (length M) H some)
      (record { slot_is = is; assembly_is = a; gathers_it = held.gathers_it; from_it = held.from_it }) p)

  later_walk : read_header w₀.endpoint.eid U inward packet ≡ Ok H → H.som ≡ false → 1 ≤ length M → P w₀ → Q (later w₀ H M)
  unfolding later
  later_walk read_so som lo p = go (holder w₀.endpoint H.source H.tag) refl
    where
      go : (x : Option (ℕ × Assembly)) → holder w₀.endpoint H.source H.tag ≡ x → Q (later_by w₀ H M x)
      go None e = k.refusing w₀ no_assembly (of_no_slot som (holder_none w₀.endpoint H.source H.tag e)) p
      go (Some (i, a)) e = later_at_lem i a read_so (holder_at w₀.endpoint H.source H.tag e) som lo p

-- A packet that comes with stores of the right length: without SOM the walk starts in the world as it is, with SOM where an assembly with its
-- source and tag has ended.
pub walked : (w : World) (packet : List ℕ) (P : World → Type 0) (Q : Outcome → Type 0) → Walk w packet P Q → Sound w
    → ((fields packet).som ≡ false → P w) → ((fields packet).som ≡ true → P (with_endpoint w (end_assembly w.endpoint (fields packet).source (fields packet).tag))) → Q (received w packet)
unfolding received
walked w packet P Q k s p finished =
    rw (right_stores w s) (by (read_header w.endpoint.eid w.endpoint.unit inward packet) refl)
  where
    by : (r : Result Header ℕ) → read_header w.endpoint.eid w.endpoint.unit inward packet ≡ r → Q (received_by w (payload_of packet) r)
    by (Err n) e = let b = read_number w.endpoint.eid w.endpoint.unit packet e in k.unread n b.0 b.1
    by (Ok h) e =
        let f : h ≡ fields packet = (read_facts w.endpoint.eid w.endpoint.unit packet e).fields_are in
        let read_so : read_header w.endpoint.eid w.endpoint.unit inward packet ≡ Ok (fields packet) = rw f at e in
        let z = read_sized w.endpoint.eid w.endpoint.unit packet e in
        rw f
        (if_ind Q (fields packet).som
        (λ som.
        first_walk w packet P Q k (with_endpoint w (end_assembly w.endpoint (fields packet).source (fields packet).tag)) (unfold end_assembly in refl) read_so
        (λ i is. ended_at w.endpoint (fields packet).source (fields packet).tag i is) som z.most (finished som))
        (λ som. later_walk w packet P Q k read_so som z.some (p som)))
