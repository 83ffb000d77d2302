-- The control reply: what a primitive reports and leaves, what each call does to the reply that waits, and how soon it goes.
-- Assumes nothing.
use Prim.Native.Nat.{ℕ, zero, suc, ◌+◌, ◌*◌, ◌/◌, ◌%◌, ◌^◌, ◌≤◌, ◌<◌}
use mathlib.Core.Path.{◌≡◌, refl, sym, ap, ◌∙◌}
use mathlib.Core.Bool.{Bool, true, false, not, ◌&&◌, ◌||◌, and-false}
use mathlib.Core.List.{List, [], ◌∷◌, ◌++◌}
use native.Mathlib.Nat.{mod-eq_of_lt}
use native.Mathlib.Omega.{arith}
use lib.Bits.{bit_or, or_shifted_r, or_zero_r}
use lib.Dec.{eqb, ltb}
use lib.ListN.{length, drop, length-drop}
use lib.Seq.{take-append_seam}
use borrow.Author.Tests.{le-ltb, eq-eqb, ne_eqb, eqb-true, eqb-false, ltb-true, ltb-false, leb-true, not-true, not-false}
use Rattle.std.specs.Prelude.{Option, None, Some, Result, Ok, Err, if◌then◌else◌}
use Rattle.std.specs.Option.{is_some}
use Rattle.lent.specs.Bytes.{byte_at, is_set}
use Rattle.std.proofs.lemmas.Bool.{and_parts}
use Rattle.lent.proofs.Choice.{if_ind, false_true}
use Rattle.mctp.specs.Header.{read_header, same, fields, payload_of}
use Rattle.mctp.specs.Gather.{is_cut}
use Rattle.opening.specs.Opening.{opened}
use Rattle.opening.specs.declared.First.{First}
use Rattle.nvme_mi.specs.Message.{message_type, control, message_header, command_fault, control_fault, smallest, control_size}
use Rattle.nvme_mi.specs.Check.{check_right, with_check}
use Rattle.nvme_mi.specs.Response.{response, fault_body}
use Rattle.nvme_mi.specs.declared.MessageHeader.{MessageHeader}
use Rattle.nvme_mi.specs.declared.Fault.{Fault}
use Rattle.nvme_mi.specs.declared.Fault.TheVariants.{InvalidOpcode, Parameter}
use Rattle.machine.specs.State.{World, Outcome, Done, slot, slot_at, with_slot, with_endpoint, with_phase, with_busy, idled, held_in, outgoing, reply_sent, packet_sent}
use Rattle.machine.specs.Wire.{packet_room, inward, wrong_stores, opcode_of, clears_flags}
use Rattle.machine.specs.Control.{Acted, bit, paused_slot, pause, pause_word, released, resumed_slot, resume, taken_word, abort_word, abort, state_number, state_word, clear_flags, replayed, replay, acted, primitive, replied, controlled_by, controlled}
use Rattle.machine.specs.Process.{request, processing, responded, responded_at_once, paused_if, entered}
use Rattle.machine.specs.Receive.{refused, refused_busy, ended_slot, end_assembly, first_by, first, received}
use Rattle.machine.specs.Finish.{TakeDone, is_slot, taken, presented, is_body, completed_by, completed, declared_by, was_declared, is_receive, timed_out, was_reset}
use Rattle.machine.specs.Poll.{Polled, other_slot, ready, control_packet, sent_control, command_packet, after_packet, sent_command, reply_first, polled_by, polled}
use Rattle.machine.specs.Valid.{PhaseFacts, ValidFlags, Valid, Sound}
use Rattle.machine.specs.Calls.{Call, receive, take!, read, complete, declare, poll, timeout, reset, number, handed_out, Stepped, stepped, by_outcome, take_event, by_poll, step}
use Rattle.machine.specs.History.{has_som, source_of, message_tag_of, bytes_from4, phase_at, moved, unit_of, has_room, one?, run, start, control_tests, is_control, is_primitive, is_abort, cuts}
use Rattle.machine.specs.Demands.{is_idle_now, reply_packet, AbortIdles}
use Rattle.machine.specs.Replies.{PrimitiveDone, csi_of, no_cpsp, wrong_replay, is_error, slot_found, worth, aborted_process, aborted_in, state_of, cpsr_of, body_of, unpaused, sent_again, acted_on, flags_after, Replied, ControlReplied, is_control_out, SameReply, ReplyAfter, stays, goes, newer, by_reset, ReplyStays, ReplyFate, replaced, sent, replaces, polls_with_room, reply_fate, GoesWithin, ReplyGoes}
use Rattle.machine.specs.Types.{Ticket, Assembly, Taking, Untaken, Taken, Request, Response, Outgoing, Phase, Idle, Receive, Process, Answered, Transmit, Slot, Reply, Endpoint}
use Rattle.machine.proofs.Slots.{facts_at}
use Rattle.machine.proofs.Cases.{take_cases}
use Rattle.machine.proofs.Receiving.{filled, grown, whole, right_stores, Ground, in_table, of_control, of_no_slot, Break, in_sequence, in_size, in_total, Controls, Walk, walked, csi_most, receives_gathers}
use Rattle.machine.proofs.Invariant.{Each, each}
use Rattle.machine.proofs.Primitives.{is_control_lem, acting}
use Rattle.machine.proofs.Keeps.{sound_endpoint, end_valid, Chosen, ready_at, step_sound}
use Rattle.machine.proofs.Places.{Which, this, that, which, other_differs, slot_this, slot_that, slot_both}
use Rattle.machine.proofs.Polling.{moved_same, onward, onward_moves}
use Rattle.machine.proofs.Histories.{good_every}
use Rattle.machine.proofs.Tickets.{reply_packet_lem}

-- ---- the slots when a primitive acts

found_is : (w : World) (p : List ℕ) (j : ℕ) → j ≤ 1 → slot_at (end_assembly w.endpoint (source_of p) (message_tag_of p)) j ≡ slot_found w p j
unfolding end_assembly
found_is w p j js =
    slot_both (ended_slot (source_of p) (message_tag_of p)) w.endpoint j js
    ∙ rw (receives_gathers (source_of p) (message_tag_of p) (slot_at w.endpoint j).phase) refl

-- ---- CPSR

pause_word_lem : (a b : Bool) → bit_or (bit a 1) (bit b 2) ≡ worth a 1 + worth b 2
pause_word_lem true true = refl
pause_word_lem true false = refl
pause_word_lem false true = refl
pause_word_lem false false = refl

abort_word_lem : (p : Phase) → abort_word p ≡ aborted_in p
abort_word_lem (Idle held) = refl
abort_word_lem (Receive a) = refl
abort_word_lem (Process r) = by r.taking
  where
    by : (t : Taking) → taken_word t ≡ aborted_process t
    by Untaken = refl
    by (Taken true) = refl
    by (Taken false) = refl
abort_word_lem (Answered r) = refl
abort_word_lem (Transmit r) = refl

-- the low four bits of the Get State word
low_bits : (p : Phase) (b : Bool) → (bit_or (state_number p) (bit b 0x8) ≡ state_of p + worth b 0x8) × (state_of p + worth b 0x8 < 16)
low_bits (Idle held) true = (refl, omega arith)
low_bits (Idle held) false = (refl, omega arith)
low_bits (Receive a) true = (refl, omega arith)
low_bits (Receive a) false = (refl, omega arith)
low_bits (Process r) true = (refl, omega arith)
low_bits (Process r) false = (refl, omega arith)
low_bits (Answered r) true = (refl, omega arith)
low_bits (Answered r) false = (refl, omega arith)
low_bits (Transmit r) true = (refl, omega arith)
low_bits (Transmit r) false = (refl, omega arith)

-- flags above them
with_flags_lem : (x f : ℕ) → x < 16 → ValidFlags f → bit_or x f ≡ x + f
with_flags_lem x f h v =
    let k : f / 2 ^ 4 * 2 ^ 4 ≡ f = omega (arith, v.low) in
    let q : bit_or x f ≡ f + x = rw k at (or_shifted_r (f / 2 ^ 4) 4 x h) in
    omega (arith, q)

-- and the pause flag on top
with_top : (y : ℕ) (b : Bool) → y < 2 ^ 15 → bit_or y (bit b 0x8000) ≡ y + worth b 0x8000
with_top y true h = let q : bit_or y 0x8000 ≡ 1 * 2 ^ 15 + y = or_shifted_r 1 15 y h in omega (arith, q)
with_top y false h = or_zero_r y ∙ omega arith

state_word_lem : (e : Endpoint) → ValidFlags e.flags → (i : ℕ)
    → state_word e i ≡ state_of (slot_at e i).phase + worth (slot_at e i).busy 0x8 + e.flags + worth (slot_at e i).paused 0x8000
unfolding state_word
state_word_lem e v i =
    let low = low_bits (slot_at e i).phase (slot_at e i).busy in
    let x = state_of (slot_at e i).phase + worth (slot_at e i).busy 0x8 in
    rw (low.0, with_flags_lem x e.flags low.1 v)
    (with_top (x + e.flags) (slot_at e i).paused (omega (arith, low.1, v.low, v.top)))

-- ---- what each primitive reports and leaves

paused_slot_lem : (unit : ℕ) (s : Slot) → PhaseFacts unit s.paused s.phase → paused_slot s ≡ slot s.ticket (not (is_idle_now s.phase)) s.busy s.phase
paused_slot_lem unit s f = by s.phase refl f
  where
    by : (p : Phase) → s.phase ≡ p → PhaseFacts unit s.paused p → paused_slot s ≡ slot s.ticket (not (is_idle_now s.phase)) s.busy s.phase
    by (Idle held) e k = rw (e, sym k.0) refl
    by (Receive a) e k = rw e refl
    by (Process r) e k = rw e refl
    by (Answered r) e k = rw e refl
    by (Transmit r) e k = rw e refl

released_is : (p : Phase) → released p ≡ unpaused p
released_is (Idle held) = refl
released_is (Receive a) = refl
released_is (Process r) = refl
released_is (Answered r) = refl
released_is (Transmit r) = refl

module _ (m : List ℕ) (w : World) (v : Valid w.endpoint) where
  record Acts (a : Acted) : Type 0 where
    word : a.cpsr ≡ cpsr_of m (slot_at w.endpoint (csi_of m)) w.endpoint.flags (with_endpoint w a.endpoint)
    slots : (j : ℕ) → j ≤ 1 → slot_at a.endpoint j ≡ acted_on m j (slot_at w.endpoint j)
    flags : a.endpoint.flags ≡ flags_after m w.endpoint.flags
    eid : a.endpoint.eid ≡ w.endpoint.eid
    turn : a.endpoint.turn ≡ w.endpoint.turn
    last : a.endpoint.last_control ≡ w.endpoint.last_control

  pauses : byte_at m 4 ≡ 0 → Acts (acted (pause w.endpoint) (pause_word (pause w.endpoint)))
  unfolding pause
  pauses o =
      record {
        word = rw o (pause_word_lem (paused_slot (slot_at w.endpoint 0)).paused (paused_slot (slot_at w.endpoint 1)).paused);
        slots = λ j js. rw o (slot_both paused_slot w.endpoint j js ∙ paused_slot_lem w.endpoint.unit (slot_at w.endpoint j) (facts_at j js v));
        flags = rw o refl;
        eid = refl;
        turn = refl;
        last = refl;
      }

  resumes : byte_at m 4 ≡ 1 → Acts (acted (resume w.endpoint) 0)
  unfolding resume
  resumes o =
      record {
        word = rw o refl;
        slots = λ j js. rw o (slot_both resumed_slot w.endpoint j js ∙ rw (released_is (slot_at w.endpoint j).phase) refl);
        flags = rw o refl;
        eid = refl;
        turn = refl;
        last = refl;
      }

  -- only the primitive's slot changes
  one_slot : (s : Slot) → acted_on m (csi_of m) (slot_at w.endpoint (csi_of m)) ≡ s → acted_on m (other_slot (csi_of m)) (slot_at w.endpoint (other_slot (csi_of m))) ≡ slot_at w.endpoint (other_slot (csi_of m))
      → (j : ℕ) → j ≤ 1 → slot_at (with_slot w.endpoint (csi_of m) s) j ≡ acted_on m j (slot_at w.endpoint j)
  one_slot s own other j js = by (which (csi_of m) j (csi_most m) js)
    where
      by : Which (csi_of m) j → slot_at (with_slot w.endpoint (csi_of m) s) j ≡ acted_on m j (slot_at w.endpoint j)
      by (this q) = rw q (slot_this (csi_of m) (csi_most m) v s ∙ sym own)
      by (that q) = rw q (slot_that (csi_of m) (csi_most m) v s ∙ sym other)

  itself : eqb (csi_of m) (csi_of m) ≡ true
  itself = eq-eqb (csi_of m) (csi_of m) refl

  another : eqb (other_slot (csi_of m)) (csi_of m) ≡ false
  another = ne_eqb (other_slot (csi_of m)) (csi_of m) (other_differs (csi_of m) (csi_most m))

  aborts : byte_at m 4 ≡ 2 → Acts (acted (abort w.endpoint (csi_of m)) (abort_word (slot_at w.endpoint (csi_of m)).phase))
  unfolding abort
  aborts o =
      record {
        word = rw o (abort_word_lem (slot_at w.endpoint (csi_of m)).phase);
        slots = one_slot (idled (slot_at w.endpoint (csi_of m))) (rw (o, itself) refl) (rw (o, another) refl);
        flags = rw o refl;
        eid = refl;
        turn = refl;
        last = refl;
      }

  clears : byte_at m 4 ≡ 3 → is_set (byte_at m 6) 0 ≡ true → Acts (acted (clear_flags w.endpoint (csi_of m)) (state_word w.endpoint (csi_of m)))
  unfolding clear_flags
  clears o z =
      record {
        word = rw o (state_word_lem w.endpoint v.flags_valid (csi_of m));
        slots = one_slot (with_busy (slot_at w.endpoint (csi_of m)) false) (rw (o, itself, z) refl) (rw (o, another) refl);
        flags = rw (o, z) refl;
        eid = refl;
        turn = refl;
        last = refl;
      }

  reports : byte_at m 4 ≡ 3 → is_set (byte_at m 6) 0 ≡ false → Acts (acted w.endpoint (state_word w.endpoint (csi_of m)))
  reports o z =
      record {
        word = rw o (state_word_lem w.endpoint v.flags_valid (csi_of m));
        slots = λ j js. rw (o, z) (by (not (eqb j (csi_of m))) (slot_at w.endpoint j));
        flags = rw (o, z) refl;
        eid = refl;
        turn = refl;
        last = refl;
      }
    where
      by : (b : Bool) (s : Slot) → s ≡ (if b then s else s)
      by true s = refl
      by false s = refl

  replays : byte_at m 4 ≡ 4 → Acts (replay w.endpoint (csi_of m))
  unfolding replay
  replays o = by (held_in (slot_at w.endpoint (csi_of m)).phase) refl
    where
      by : (k : Option Response) → held_in (slot_at w.endpoint (csi_of m)).phase ≡ k → Acts (replayed w.endpoint (csi_of m) k)
      by None e =
          record {
            word = rw (o, e) refl;
            slots = λ j js. rw o (stays (which (csi_of m) j (csi_most m) js));
            flags = rw o refl;
            eid = refl;
            turn = refl;
            last = refl;
          }
        where
          stays : {j : ℕ} → Which (csi_of m) j → slot_at w.endpoint j ≡ (if not (eqb j (csi_of m)) then slot_at w.endpoint j else sent_again (held_in (slot_at w.endpoint j).phase) (slot_at w.endpoint j))
          stays (this q) = rw (q, itself, e) refl
          stays (that q) = rw (q, another) refl
      by (Some r) e =
          record {
            word = rw (o, e) refl;
            slots =
                one_slot (with_phase (slot_at w.endpoint (csi_of m)) (Transmit (outgoing r 0))) (rw (o, itself) (ap (λ (k : Option Response). sent_again k (slot_at w.endpoint (csi_of m))) e))
                (rw (o, another) refl);
            flags = rw o refl;
            eid = refl;
            turn = refl;
            last = refl;
          }

  primitive_acts : ltb 4 (byte_at m 4) ≡ false → Acts (primitive w.endpoint (opcode_of m) (message_header m).csi (clears_flags m))
  unfolding primitive
  primitive_acts known =
      if_ind Acts (eqb (byte_at m 4) 0) (λ z. pauses (eqb-true (byte_at m 4) 0 z))
      (λ not_0.
      if_ind Acts (eqb (byte_at m 4) 1) (λ z. resumes (eqb-true (byte_at m 4) 1 z))
      (λ not_1.
      if_ind Acts (eqb (byte_at m 4) 2) (λ z. aborts (eqb-true (byte_at m 4) 2 z))
      (λ not_2.
      if_ind Acts (eqb (byte_at m 4) 3)
      (λ z.
      let o = eqb-true (byte_at m 4) 3 z in
      if_ind (λ (x : Endpoint). Acts (acted x (state_word w.endpoint (csi_of m)))) (is_set (byte_at m 6) 0) (λ z. clears o z) (λ z. reports o z))
      (λ not_3.
      replays
      (omega
      (arith, ltb-false 4 (byte_at m 4) known, eqb-false (byte_at m 4) 0 not_0, eqb-false (byte_at m 4) 1 not_1, eqb-false (byte_at m 4) 2 not_2, eqb-false (byte_at m 4) 3 not_3))))))

-- ---- the reply

-- a refusal's number is another than 2
ground_not : {A : Type 0} (w : World) (p : List ℕ) (n : ℕ) → Ground w p n → n ≡ 2 → A
ground_not w p n (in_table _ lo hi) e = absurd (omega arith)
ground_not w p _ (of_control _ _) e = absurd (omega arith)
ground_not w p _ (of_no_slot _ _) e = absurd (omega arith)

break_not : {A : Type 0} (w : World) (p : List ℕ) (n : ℕ) → Break w p n → n ≡ 2 → A
break_not w p _ (in_sequence _) e = absurd (omega arith)
break_not w p _ (in_size _) e = absurd (omega arith)
break_not w p _ (in_total _) e = absurd (omega arith)

-- the reply with this message to the sender of packet p, under its tag
abbrev for_sender : List ℕ → List ℕ → Option Reply
for_sender p message = Some (record { to = source_of p; tag = message_tag_of p; message = message })

reply_bytes : (m body : List ℕ) → response control (message_header m).csi body ≡ with_check ((0x84 ∷ (128 + csi_of m) ∷ 0 ∷ 0 ∷ []) ++ body)
unfolding response
reply_bytes m body = let one : byte_at m 1 % 2 % 2 ≡ byte_at m 1 % 2 = mod-eq_of_lt (omega (arith, csi_most m)) in rw one refl

module _ (w₀ : World) (p : List ℕ) (s₀ : Sound w₀) where
  -- where the assembly with the packet's source and tag has ended
  abbrev found : World
  found = with_endpoint w₀ (end_assembly w₀.endpoint (source_of p) (message_tag_of p))

  found_valid : Valid found.endpoint
  found_valid = end_valid (source_of p) (message_tag_of p) s₀.state

  abbrev m : List ℕ
  m = payload_of p

  abbrev by : Result (Unit {0}) Fault → World
  by f = with_endpoint found (controlled_by found.endpoint (fields p) (message_header m).csi m f)

  -- an error reply with these four bytes
  fails : (body : List ℕ) → is_error m ≡ true → ((cpsr : ℕ) → body_of m cpsr ≡ body) → Replied w₀ p (with_endpoint found (replied found.endpoint (fields p) (message_header m).csi body))
  unfolding end_assembly
  fails body err is =
      record {
        reply_is =
            ap (for_sender p)
            (reply_bytes m body ∙ ap (λ (b : List ℕ). with_check ((0x84 ∷ (128 + csi_of m) ∷ 0 ∷ 0 ∷ []) ++ b)) (sym (is _)));
        slots_are = λ j js. rw err (found_is w₀ p j js);
        flags_are = rw err refl;
        eid_is = refl;
        turn_is = refl;
        last_is = refl;
        store0_is = refl;
        store1_is = refl;
      }

  answers : (a b c d : Bool) → is_set (byte_at m 2) 0 ≡ a → is_set (byte_at m 2) 1 ≡ b → ltb 4 (byte_at m 4) ≡ c → wrong_replay m ≡ d
      → Replied w₀ p (by (if a then Err (Parameter 2 0) else if b then Err (Parameter 2 1) else if c then Err InvalidOpcode else if d then Err (Parameter 6 0) else Ok tt))
  unfolding end_assembly
  answers true b c d x y z u = fails (4 ∷ 0 ∷ 2 ∷ 0 ∷ []) (rw x refl) (λ _. rw x refl)
  answers false true c d x y z u = fails (4 ∷ 1 ∷ 2 ∷ 0 ∷ []) (rw (x, y) refl) (λ _. rw (x, y) refl)
  answers false false true d x y z u = fails (3 ∷ 0 ∷ 0 ∷ 0 ∷ []) (rw (x, y, z) refl) (λ _. rw (x, y, z) refl)
  answers false false false true x y z u = fails (4 ∷ 0 ∷ 6 ∷ 0 ∷ []) (rw (x, y, z, u) refl) (λ _. rw (x, y, z, u) refl)
  answers false false false false x y z u =
      let k = primitive_acts m found found_valid z in
      let a = primitive found.endpoint (opcode_of m) (message_header m).csi (clears_flags m) in
      let word : a.cpsr ≡ cpsr_of m (slot_found w₀ p (csi_of m)) w₀.endpoint.flags (by (Ok tt)) = k.word ∙ ap (λ (s : Slot). cpsr_of m s w₀.endpoint.flags (by (Ok tt))) (found_is w₀ p (csi_of m) (csi_most m)) in
      record {
        reply_is =
            ap (for_sender p)
            (reply_bytes m (0 ∷ byte_at m 5 ∷ a.cpsr % 256 ∷ a.cpsr / 256 % 256 ∷ [])
            ∙ rw (x, y, z, u) (ap (λ (n : ℕ). with_check (0x84 ∷ (128 + csi_of m) ∷ 0 ∷ 0 ∷ 0 ∷ byte_at m 5 ∷ n % 256 ∷ n / 256 % 256 ∷ [])) word));
        slots_are = λ j js. rw (x, y, z, u) (k.slots j js ∙ ap (acted_on m j) (found_is w₀ p j js));
        flags_are = rw (x, y, z, u) k.flags;
        eid_is = k.eid;
        turn_is = k.turn;
        last_is = k.last;
        store0_is = refl;
        store1_is = refl;
      }

  controls : Replied w₀ p (with_endpoint found (controlled found.endpoint (fields p) (message_header m) m))
  unfolding controlled control_fault
  controls = answers (is_set (byte_at m 2) 0) (is_set (byte_at m 2) 1) (ltb 4 (byte_at m 4)) (wrong_replay m) refl refl refl refl

  -- what is answered with 2 is a control primitive that came whole, and it is replied to
  abbrev Said : Outcome → Type 0
  Said o = o.answer ≡ 2 → Controls w₀ p × Replied w₀ p o.world

  -- on the way through Receiving
  record Way (w : World) : Type 0 where
    sound : Sound w
    is : has_som p ≡ true → w ≡ found

  replied_walk : Walk w₀ p Way Said
  replied_walk =
      record {
        sound = λ w k. k.sound;
        unread = λ n lo hi. unfold refused in (λ e. absurd (omega arith));
        refusing = λ w n k _. unfold refused in (λ e. ground_not w₀ p n k e);
        busying = λ w i b _. unfold refused_busy in (λ e. absurd (omega arith));
        dropping = λ w i n k g _. unfold refused in (λ e. break_not w₀ p n k e);
        failing = λ w i at j _. unfold refused in (λ e. absurd (omega arith));
        gaining = λ w i at j _ _ _ e. absurd (omega arith);
        entering = λ w i at j _ _ _ _ e. absurd (omega arith);
        controlling = λ w c k _. (c, rw (k.is c.som) controls);
      }

said : (w : World) (p : List ℕ) (s : Sound w) → Said w p s (received w p)
said w p s =
    walked w p (Way w p s) (Said w p s) (replied_walk w p s) s (λ som. record { sound = s; is = λ with_som. false_true (sym som ∙ with_som) })
    (λ _. record { sound = sound_endpoint s (found_valid w p s); is = λ _. refl })

pub control_replied : ControlReplied
control_replied w p s e = (said w p s e).1

-- ---- which packets are answered with 2

module _ (w₀ : World) (p : List ℕ) (s₀ : Sound w₀) where
  abbrev Two : Outcome → Type 0
  Two o = o.answer ≡ 2

  never : {A : Type 0} (b : Bool) → b ≡ false → b ≡ true → A
  never b e f = false_true (sym e ∙ f)

  -- a primitive is read, and none of the tests that follow refuses it
  is_read : Each (control_tests w₀.endpoint.eid p) → read_header w₀.endpoint.eid w₀.endpoint.unit inward p ≡ Ok (fields p)
  unfolding read_header
  is_read k =
      let fits : ltb (w₀.endpoint.unit + 4) 16 ≡ false = le-ltb (w₀.endpoint.unit + 4) 16 (omega (arith, s₀.state.numbers.unit_least)) in
      rw (eqb-true (length p) 16 k.0, fits, k.1.0, k.1.1.0, k.1.1.1.1.1.0) refl

  is_done : Each (control_tests w₀.endpoint.eid p) → (w : World) → (first w (fields p) (payload_of p)).answer ≡ 2
  unfolding first opened
  is_done k w =
      let m = payload_of p in
      let eom : (fields p).eom ≡ true = k.1.1.1.1.0 in
      let rest = k.1.1.1.1.1.1 in
      let twelve : length m ≡ 12 = rw (length-drop 4 p, eqb-true (length p) 16 k.0) refl in
      let ror : not (same (message_header m).ror false) ≡ false = rw (not-true (message_header m).ror rest.1.0) refl in
      if_ind By (not (eqb (byte_at m 0) message_type)) (never _ (rw rest.0 refl))
      (λ _.
      if_ind By (is_cut w.endpoint.unit (fields p) (length m)) (never _ (rw eom refl))
      (λ _.
      if_ind By ((fields p).eom && ltb (length m) smallest) (never _ (rw (eom, twelve) refl))
      (λ _.
      if_ind By (not (same (message_header m).ror false)) (never _ ror)
      (λ _.
      if_ind By (not (eqb (message_header m).nmimt control)) (never _ (rw rest.1.1.0 refl))
      (λ _.
      if_ind By (not (fields p).eom || not (eqb (length m) control_size)) (never _ (rw (eom, twelve) refl))
      (λ _. if_ind By (not (check_right m)) (never _ (rw rest.1.1.1.0 refl)) (λ _. refl)))))))
    where
      By : Result First ℕ → Type 0
      By o = (first_by w (fields p) (payload_of p) o).answer ≡ 2

  done_so : Each (control_tests w₀.endpoint.eid p) → (received w₀ p).answer ≡ 2
  unfolding received
  done_so k =
      rw (right_stores w₀ s₀, is_read k)
      (if_ind Two (fields p).som (λ _. is_done k (with_endpoint w₀ (end_assembly w₀.endpoint (fields p).source (fields p).tag))) (λ none. false_true (sym none ∙ k.1.1.1.0)))

pub primitive_done : PrimitiveDone
primitive_done w p s = by (eqb (received w p).answer 2) (is_control w.endpoint.eid p) refl refl
  where
    by : (a b : Bool) → eqb (received w p).answer 2 ≡ a → is_control w.endpoint.eid p ≡ b → a ≡ b
    by true b e f = sym (is_control_lem w p (said w p s (eqb-true (received w p).answer 2 e)).0) ∙ f
    by false true e f = sym e ∙ eq-eqb (received w p).answer 2 (done_so w p s (each (control_tests w.endpoint.eid p) f))
    by false false e f = refl

-- a primitive that acts, by its bytes: it is replied to, and its tests found no error
pub acts_so : (opcode : ℕ) → opcode ≤ 4 → (w : World) (p : List ℕ) → Sound w → is_primitive opcode w.endpoint.eid p ≡ true → wrong_replay (bytes_from4 p) ≡ false
    → Replied w p (received w p).world × (is_error (bytes_from4 p) ≡ false) × (byte_at (bytes_from4 p) 4 ≡ opcode)
acts_so opcode few w p s h plain =
    let a = acting opcode w.endpoint.eid p h in
    let two : (received w p).answer ≡ 2 = eqb-true (received w p).answer 2 (primitive_done w p s ∙ a.whole) in
    let known : ltb 4 (byte_at (bytes_from4 p) 4) ≡ false = rw a.opcode_is (le-ltb 4 opcode few) in
    (control_replied w p s two, rw (a.meb, a.ciap, known, plain) refl, a.opcode_is)

-- the four of document 01 take any CPSP
pub acts : (opcode : ℕ) → opcode ≤ 3 → (w : World) (p : List ℕ) → Sound w → is_primitive opcode w.endpoint.eid p ≡ true
    → Replied w p (received w p).world × (is_error (bytes_from4 p) ≡ false) × (byte_at (bytes_from4 p) 4 ≡ opcode)
acts opcode few w p s h =
    acts_so opcode (omega arith) w p s h
    (rw ((acting opcode w.endpoint.eid p h).opcode_is, ne_eqb opcode 4 (λ e. omega arith)) (and-false (not (no_cpsp (bytes_from4 p)))))

-- ---- what demand 3 excuses

abort_idle : (w : World) → Sound w → (p : List ℕ) (i : ℕ) → i ≤ 1 → is_abort i w.endpoint.eid p ≡ true → phase_at (received w p).world i ≡ Idle None
abort_idle w s p i is h =
    let k = and_parts (is_primitive 2 w.endpoint.eid p) (eqb (byte_at (bytes_from4 p) 1 % 2) i) h in
    let a = acts 2 (omega arith) w p s k.0 in
    let mine : eqb i (csi_of (bytes_from4 p)) ≡ true = eq-eqb i (csi_of (bytes_from4 p)) (sym (eqb-true (byte_at (bytes_from4 p) 1 % 2) i k.1)) in
    ap (λ (x : Slot). x.phase) (a.0.slots_are i is) ∙ rw (a.1, a.2, mine) refl

reset_idle : (e : Endpoint) (i : ℕ) → i ≤ 1 → (slot_at (was_reset e).endpoint i).phase ≡ Idle None
unfolding was_reset
reset_idle e zero is = refl
reset_idle e (suc zero) is = refl
reset_idle e (suc (suc n)) is = absurd (omega arith)

pub cut_idle : (c : Call) (w : World) → Sound w → (i : ℕ) → i ≤ 1 → cuts i c w ≡ true → phase_at (step c w).world i ≡ Idle None
unfolding step
cut_idle (receive p) w s i is k = abort_idle w s p i is k
cut_idle (take! j) w s i is k = false_true k
cut_idle (read j) w s i is k = false_true k
cut_idle (complete j t body) w s i is k = false_true k
cut_idle (declare j t can) w s i is k = false_true k
cut_idle (poll buffer) w s i is k = false_true k
cut_idle (timeout j) w s i is k = false_true k
cut_idle reset w s i is k = reset_idle w.endpoint i is

pub abort_idles : AbortIdles
abort_idles eid unit store0 store1 a b xs c i is k = cut_idle c (run xs (start eid unit store0 store1)).world (good_every eid unit store0 store1 a b xs).sound i is k

-- ---- what a call that sends nothing leaves of the reply

-- the reply, and whether the last packet handed out was control
record Part : Type 0 where
  reply : Option Reply
  eid : ℕ
  last : Bool

abbrev part : Endpoint → Part
part e = record { reply = e.reply; eid = e.eid; last = e.last_control }

abbrev Still : Endpoint → Endpoint → Type 0
Still e f = part f ≡ part e

same_part : {e f : Endpoint} → Still e f → SameReply e f
same_part k = record { same_reply = ap (λ (x : Part). x.reply) k; same_eid = ap (λ (x : Part). x.eid) k }

responded_still : (w : World) (i : ℕ) (r : Request) (body : List ℕ) → Still w.endpoint (responded w i r body).endpoint
unfolding responded
responded_still w i r body = refl

entered_still : (w : World) (i : ℕ) (a : Assembly) (mh : MessageHeader) → Still w.endpoint (entered w i a mh).endpoint
unfolding entered
entered_still w i a mh =
    at_once (with_endpoint w (paused_if mh.ciap (with_slot w.endpoint i (processing (slot_at w.endpoint i) (request a mh))))) (command_fault mh a.length)
    ∙ if_ind (Still w.endpoint) mh.ciap (λ _. unfold pause in refl) (λ _. refl)
  where
    at_once : (x : World) (f : Result (Unit {0}) Fault) → Still x.endpoint (responded_at_once x i (request a mh) f).endpoint
    at_once x (Ok none) = refl
    at_once x (Err fault) = responded_still x i (request a mh) (fault_body (Err fault))

taken_still : (e : Endpoint) (i : ℕ) → Still e (taken e i).endpoint
taken_still e i = take_cases (λ (d : TakeDone). Still e d.endpoint) e i (λ _ _. refl) (λ _. refl)

completed_still : (w : World) (i : ℕ) (t : Ticket) (body : List ℕ) → Still w.endpoint (completed w i t body).world.endpoint
unfolding completed
completed_still w i t body = if_ind StillSo (wrong_stores w) (λ _. refl) (λ _. by (presented w.endpoint i t))
  where
    StillSo : Outcome → Type 0
    StillSo o = Still w.endpoint o.world.endpoint

    by : (x : Result Request ℕ) → StillSo (completed_by w i body x)
    by (Err n) = refl
    by (Ok r) = if_ind StillSo (not (is_body body)) (λ _. refl) (λ _. responded_still w i r body)

declared_still : (e : Endpoint) (i : ℕ) (t : Ticket) (can : Bool) → Still e (was_declared e i t can).endpoint
unfolding was_declared
declared_still e i t can = by (presented e i t)
  where
    by : (x : Result Request ℕ) → Still e (declared_by e i can x).endpoint
    by (Err n) = refl
    by (Ok r) = refl

timed_out_still : (e : Endpoint) (i : ℕ) → Still e (timed_out e i).endpoint
unfolding timed_out
timed_out_still e i =
    if_ind StillSo (not (is_slot i)) (λ _. refl) (λ _. if_ind StillSo (not (is_receive (slot_at e i).phase) || (slot_at e i).paused) (λ _. refl) (λ _. refl))
  where
    StillSo : Done → Type 0
    StillSo d = Still e d.endpoint

-- receiving: the reply is as it was, or a control primitive was done
data Heard (e : Endpoint) (o : Outcome) : Type 0 where
  kept : eqb o.answer 2 ≡ false → Still e o.world.endpoint → Heard e o
  done : o.answer ≡ 2 → Heard e o

module _ (w₀ : World) (p : List ℕ) where
  abbrev On : World → Type 0
  On w = Sound w × Still w₀.endpoint w.endpoint

  heard_walk : Walk w₀ p On (Heard w₀.endpoint)
  heard_walk =
      record {
        sound = λ w k. k.0;
        unread = λ n lo hi. unfold refused in (kept (ne_eqb n 2 (λ e. omega arith)) refl);
        refusing = λ w n g k. unfold refused in (kept (ne_eqb n 2 (ground_not w₀ p n g)) k.1);
        busying = λ w i b k. unfold refused_busy in (kept refl k.1);
        dropping = λ w i n b g k. unfold refused in (kept (ne_eqb n 2 (break_not w₀ p n b)) k.1);
        failing = λ w i at j k. unfold refused in (kept refl k.1);
        gaining = λ w i at j _ _ k. kept refl k.1;
        entering = λ w i at j _ _ _ k. kept refl (entered_still (filled w₀ p w i at) i (grown w₀ p at) (message_header (whole w₀ p w i at)) ∙ k.1);
        controlling = λ w c k. done refl;
      }

heard : (w : World) (p : List ℕ) → Sound w → Heard w.endpoint (received w p)
heard w p s =
    walked w p (On w p) (Heard w.endpoint) (heard_walk w p) s (λ _. (s, refl))
    (λ _. (sound_endpoint s (end_valid (source_of p) (message_tag_of p) s.state), unfold end_assembly in refl))

-- ---- what a poll does

data PollDoes (w : World) (buffer : List ℕ) : Stepped → Type 0 where
  -- refused, or nothing to send
  nothing : (n : ℕ) → (has_room w buffer ≡ true → w.endpoint.reply ≡ None) → PollDoes w buffer (stepped (number n) w)
  replies : (r : Reply) → w.endpoint.reply ≡ Some r
      → PollDoes w buffer (stepped (handed_out (control_packet w.endpoint r)) (with_endpoint w (reply_sent w.endpoint)))
  -- a command packet goes before a waiting reply only if the last packet was control
  sends : (i : ℕ) (r : Outgoing) → Chosen w.endpoint i r → (is_some w.endpoint.reply ≡ true → w.endpoint.last_control ≡ true)
      → PollDoes w buffer
      (stepped (handed_out (command_packet w i r)) (with_endpoint w (packet_sent (with_slot w.endpoint i (after_packet w.endpoint.unit (slot_at w.endpoint i) r)) (other_slot i))))

poll_does : (w : World) (buffer : List ℕ) → Sound w → PollDoes w buffer (step (poll buffer) w)
unfolding step polled
poll_does w buffer s =
    rw (right_stores w s)
    (if_ind After (ltb (length buffer) (packet_room w.endpoint))
    (λ short. nothing 36 (λ room. absurd (omega (arith, ltb-true (length buffer) (packet_room w.endpoint) short, leb-true (unit_of w + 4) (length buffer) room))))
    (λ room. by w.endpoint.reply refl (ready w.endpoint) refl))
  where
    After : Polled → Type 0
    After p = PollDoes w buffer (by_poll w p)

    reply_goes : (r : Reply) → w.endpoint.reply ≡ Some r → After (sent_control w.endpoint r buffer)
    reply_goes r a =
        unfold sent_control in
        (rw (take-append_seam (control_packet w.endpoint r) (drop (length (control_packet w.endpoint r)) buffer)) (replies r a))

    command_goes : (i : ℕ) (r : Outgoing) → ready w.endpoint ≡ Some (i, r) → (is_some w.endpoint.reply ≡ true → w.endpoint.last_control ≡ true)
        → After (sent_command w i r buffer)
    command_goes i r e last =
        unfold sent_command in
        (rw (take-append_seam (command_packet w i r) (drop (length (command_packet w i r)) buffer)) (sends i r (ready_at w.endpoint s.state e) last))

    by : (reply : Option Reply) → w.endpoint.reply ≡ reply → (x : Option (ℕ × Outgoing)) → ready w.endpoint ≡ x → After (polled_by w buffer reply x)
    by None a None e = nothing 0 (λ _. a)
    by None a (Some (i, r)) e = command_goes i r e (λ waits. false_true (sym (ap is_some a) ∙ waits))
    by (Some reply) a None e = reply_goes reply a
    by (Some reply) a (Some (i, r)) e =
        if_ind After (reply_first w.endpoint) (λ _. reply_goes reply a)
        (λ first. command_goes i r e (λ waits. not-false w.endpoint.last_control (rw waits at first)))

-- ---- what any call does

data Effect (w : World) : Call → Stepped → Type 0 where
  -- the reply stays, and so does what polling goes by; if it waits, the call is no poll with room
  keeps : {c : Call} {s : Stepped} → replaces c s.event ≡ false → is_control_out w s ≡ false → Still w.endpoint s.world.endpoint → (is_some w.endpoint.reply ≡ true → polls_with_room c w ≡ false)
      → Effect w c s
  -- a command packet goes: the next is the reply
  passes : {buffer : List ℕ} {s : Stepped} → is_control_out w s ≡ false → SameReply w.endpoint s.world.endpoint
      → (is_some w.endpoint.reply ≡ true → w.endpoint.last_control ≡ true) → s.world.endpoint.last_control ≡ false → Effect w (poll buffer) s
  sends_it : {buffer : List ℕ} {s : Stepped} → is_some w.endpoint.reply ≡ true → is_control_out w s ≡ true
      → s.event ≡ handed_out (reply_packet w.endpoint) → s.world.endpoint.reply ≡ None → Effect w (poll buffer) s
  renews : {p : List ℕ} {s : Stepped} → is_control_out w s ≡ false → s.event ≡ number 2 → Effect w (receive p) s
  resets : {s : Stepped} → is_control_out w s ≡ false → s.world.endpoint.reply ≡ None → Effect w reset s

-- a packet of a slot is no control packet
of_slot : (w after : World) (bytes : List ℕ) (i : ℕ) → i ≤ 1 → moved (phase_at w i) (phase_at after i) ≡ true → is_control_out w (stepped (handed_out bytes) after) ≡ false
of_slot w after bytes zero is h = rw h refl
of_slot w after bytes (suc zero) is h = rw h (by (moved (phase_at w 0) (phase_at after 0)))
  where
    by : (b : Bool) → (not b && false) ≡ false
    by true = refl
    by false = refl
of_slot w after bytes (suc (suc n)) is h = absurd (omega arith)

poll_effect : (w : World) (buffer : List ℕ) → Sound w → {s : Stepped} → PollDoes w buffer s → Effect w (poll buffer) s
poll_effect w buffer v (nothing n none) = keeps refl refl refl (λ waits. by (has_room w buffer) (λ room. sym (ap is_some (none room)) ∙ waits))
  where
    by : (b : Bool) → (b ≡ true → false ≡ true) → b ≡ false
    by true k = false_true (k refl)
    by false k = refl
poll_effect w buffer v (replies r is) =
    let out : is_control_out w (stepped (handed_out (control_packet w.endpoint r)) (with_endpoint w (reply_sent w.endpoint))) ≡ true =
    rw (moved_same (phase_at w 0), moved_same (phase_at w 1)) refl in
    let gone : (reply_sent w.endpoint).reply ≡ None = refl in
    sends_it (ap is_some is) out (ap handed_out (reply_packet_lem w.endpoint r is v.state)) gone
poll_effect w buffer v (sends i r c last) =
    let t = after_packet w.endpoint.unit (slot_at w.endpoint i) r in
    let after = with_endpoint w (packet_sent (with_slot w.endpoint i t) (other_slot i)) in
    let there : phase_at after i ≡ t.phase = ap (λ (x : Slot). x.phase) (slot_this i c.slot_is v.state t) in
    let went : moved (phase_at w i) (phase_at after i) ≡ true =
    ap (λ (x : Phase). moved (phase_at w i) x) there ∙ ap (λ (x : Phase). moved x t.phase) c.sends ∙ onward_moves (onward w.endpoint.unit (slot_at w.endpoint i) r) in
    let same : SameReply w.endpoint after.endpoint = record { same_reply = refl; same_eid = refl } in
    let turns : after.endpoint.last_control ≡ false = refl in
    passes (of_slot w after (command_packet w i r) i c.slot_is went) same last turns

effect : (c : Call) (w : World) → Sound w → Effect w c (step c w)
unfolding step
effect (receive p) w v = by (heard w p v)
  where
    by : {o : Outcome} → Heard w.endpoint o → Effect w (receive p) (by_outcome o)
    by (kept n k) = keeps n refl k (λ _. refl)
    by (done e) = renews refl (ap number e)
effect (take! i) w v = keeps refl (by (taken w.endpoint i).answer (with_endpoint w (taken w.endpoint i).endpoint)) (taken_still w.endpoint i) (λ _. refl)
  where
    by : (a : Result Ticket ℕ) (after : World) → is_control_out w (stepped (take_event a) after) ≡ false
    by (Err n) after = refl
    by (Ok t) after = refl
effect (read i) w v = keeps refl refl refl (λ _. refl)
effect (complete i t body) w v = keeps refl refl (completed_still w i t body) (λ _. refl)
effect (declare i t can) w v = keeps refl refl (declared_still w.endpoint i t can) (λ _. refl)
effect (poll buffer) w v = poll_effect w buffer v (unfold step in (poll_does w buffer v))
effect (timeout i) w v = keeps refl refl (timed_out_still w.endpoint i) (λ _. refl)
effect reset w v = unfold was_reset in (let gone : (was_reset w.endpoint).endpoint.reply ≡ None = refl in resets refl gone)

pub reply_stays : ReplyStays
reply_stays c w v = by (effect c w v)
  where
    by : {c : Call} {s : Stepped} → Effect w c s → ReplyAfter w c s
    by (keeps old out k _) = stays old out (same_part k)
    by (passes out k _ _) = stays refl out k
    by (sends_it waits out e gone) = goes waits out e gone
    by (renews out e) = newer out e
    by (resets out gone) = by_reset out gone

-- ---- along a list

module _ (e : Endpoint) (first : is_some e.reply ≡ true) where
  -- after n polls with room the reply waits still, and after one the next packet is the reply
  record Waiting (n : ℕ) (w : World) : Type 0 where
    sound : Sound w
    same : SameReply e w.endpoint
    most : n ≤ 1
    turned : n ≡ 1 → w.endpoint.last_control ≡ false

  abbrev Goes : ReplyFate → Type 0
  Goes = GoesWithin 2 e

  -- the same packet
  same_packet : {f : Endpoint} → SameReply e f → reply_packet f ≡ reply_packet e
  same_packet k = rw (k.same_eid, k.same_reply) refl

  still_same : {f g : Endpoint} → SameReply e f → SameReply f g → SameReply e g
  still_same a b = record { same_reply = b.same_reply ∙ a.same_reply; same_eid = b.same_eid ∙ a.same_eid }

  one_most : (b : Bool) → one? b ≤ 1
  one_most true = omega arith
  one_most false = omega arith

  none_yet : (n : ℕ) → n ≤ 1 → (n ≡ 1 → ⊥) → n ≡ 0
  none_yet zero h not_1 = refl
  none_yet (suc zero) h not_1 = absurd (not_1 refl)
  none_yet (suc (suc n)) h not_1 = absurd (omega arith)

  -- one call, and the rest of the list
  goes_on : {c : Call} {s : Stepped} (n : ℕ) (w : World) (rest : ReplyFate) → Waiting n w → Sound s.world → Effect w c s
      → (Waiting (n + one? (polls_with_room c w)) s.world → Goes rest)
      → Goes (if replaces c s.event then replaced else if is_control_out w s then sent (n + one? (polls_with_room c w)) s.event else rest)
  goes_on {c} {s} n w rest k v (keeps old out same none) more =
      let quiet : one? (polls_with_room c w) ≡ 0 = rw (none (ap is_some k.same.same_reply ∙ first)) refl in
      rw (old, out)
      (more
      (record {
        sound = v;
        same = still_same k.same (same_part same);
        most = omega (arith, quiet, k.most);
        turned = λ one. ap (λ (x : Part). x.last) same ∙ k.turned (omega (arith, quiet, one));
      }))
  goes_on n w rest k v (passes {buffer} out same was now) more =
      let none : n ≡ 1 → ⊥ = λ one. false_true (sym (k.turned one) ∙ was (ap is_some k.same.same_reply ∙ first)) in
      rw out
      (more
      (record {
        sound = v;
        same = still_same k.same same;
        most = omega (arith, none_yet n k.most none, one_most (has_room w buffer));
        turned = λ _. now;
      }))
  goes_on {s = s} n w rest k v (sends_it {buffer} waits out e gone) more =
      rw out (omega (arith, k.most, one_most (has_room w buffer)), e ∙ ap handed_out (same_packet k.same))
  goes_on n w rest k v (renews out e) more = rw e tt
  goes_on n w rest k v (resets out gone) more = tt

  goes_within : (ys : List Call) (n : ℕ) (w : World) → Waiting n w → Goes (reply_fate n ys w)
  unfolding reply_fate
  goes_within [] n w k = (omega (arith, k.most), k.same)
  goes_within (c ∷ cs) n w k =
      goes_on n w (reply_fate (n + one? (polls_with_room c w)) cs (step c w).world) k (step_sound c w k.sound) (effect c w k.sound)
      (goes_within cs (n + one? (polls_with_room c w)) (step c w).world)

pub reply_goes : ReplyGoes
reply_goes eid unit store0 store1 a b xs waits ys =
    let h = run xs (start eid unit store0 store1) in
    let g = good_every eid unit store0 store1 a b xs in
    goes_within h.world.endpoint waits ys 0 h.world
    (record {
      sound = g.sound;
      same = record { same_reply = refl; same_eid = refl };
      most = omega arith;
      turned = λ e. absurd (omega arith);
    })
