-- What receiving a packet does to each slot, its store and its trace.
-- Assumes nothing.
use Prim.Native.Nat.{ℕ, ◌+◌, ◌%◌, ◌^◌, ◌≤◌}
use mathlib.Core.Path.{◌≡◌, refl, sym, ap, ◌∙◌}
use mathlib.Core.Bool.{Bool, true, false, ◌&&◌}
use mathlib.Core.List.{List, []}
use native.Mathlib.Omega.{arith}
use lib.Dec.{eqb}
use lib.ListN.{length, take}
use lib.Seq.{get_or-drop, length-take-le}
use borrow.Author.Tests.{eq-eqb, ne_eqb, eqb-true}
use Rattle.std.specs.Prelude.{Result, Ok, Err, Option, None, Some, if◌then◌else◌}
use Rattle.lent.specs.Bytes.{byte_at, put}
use Rattle.std.proofs.lemmas.Bool.{and_from}
use Rattle.lent.proofs.Choice.{if_ind, false_true}
use Rattle.lent.proofs.Stores.{length_put, take_put}
use Rattle.mctp.specs.Header.{fields, payload_of}
use Rattle.nvme_mi.specs.Check.{check_right}
use Rattle.nvme_mi.specs.Message.{message_header, command_fault, control_fault, smallest}
use Rattle.nvme_mi.specs.Response.{response, fault_body}
use Rattle.nvme_mi.proofs.Laws.{length_response}
use Rattle.nvme_mi.specs.declared.MessageHeader.{MessageHeader}
use Rattle.nvme_mi.specs.declared.Fault.{Fault}
use Rattle.machine.specs.State.{World, Outcome, outcome, outgoing, slot_at, store_at, with_slot, with_store, with_endpoint, on_slot, with_phase, with_busy, idled, held_in, is_idle, settled, next_ticket}
use Rattle.machine.specs.Wire.{store_size, response_place, opcode_of, no_parameter, clears_flags}
use Rattle.machine.specs.Control.{Acted, paused_slot, pause, resumed_slot, released as released_phase, resume, abort, clear_flags, replayed, replay, primitive, controlled_by, controlled}
use Rattle.machine.specs.Process.{request, processing, response_to, responded, responded_at_once, paused_if, entered as entered_world}
use Rattle.machine.specs.Receive.{refused, refused_busy, dropped, gathers, ended_slot, end_assembly, received}
use Rattle.machine.specs.Poll.{other_slot}
use Rattle.machine.specs.Valid.{Valid, Sound}
use Rattle.machine.specs.Calls.{Call, receive, number, Stepped, by_outcome}
use Rattle.machine.specs.History.{Trace, phase_at, has_som, source_of, message_tag_of, is_transmit, is_for, request_with, response_for, fixed_at_entry, gaining, entering, commanded, transmitted, trace_after, is_primitive, is_abort, cuts}
use Rattle.machine.specs.Types.{Request, Response, Phase, Idle, Receive, Process, Answered, Transmit, Slot, Endpoint}
use Rattle.machine.proofs.Slots.{is_early, held_idle, held_not, other_most}
use Rattle.machine.proofs.Receiving.{Units, Origin, opens, goes_on, Joining, filled, grown, whole, Controls, Ground, in_table, of_control, of_no_slot, Busy, Gathering, Break, in_sequence, in_size, in_total, Walk, csi_most, receives_gathers, walked}
use Rattle.machine.proofs.Primitives.{is_primitive_lem}
use Rattle.machine.proofs.Keeps.{sound_endpoint, store_at_lem, kept_quiet, pause_valid, end_valid}
use Rattle.machine.proofs.Places.{Frame, Which, this, that, which, other_differs, slot_this, slot_that, slot_both, store_this, store_that, take_joined}
use Rattle.machine.proofs.Fits.{Fit, entered, stayed, newly, Carried, quiet_other, refusal_trace, carried_same, carried_ended, carried_cut, carried_released, carried_replayed, carried_settled, settled_begun, settled_late, next_ticket_lem, response_is, at_entry, fixed_is}

-- what a call does to both slots, with the traces before it, and to what polling goes by
pub record Carries (c : Call) (w : World) (trace : ℕ → Trace) (s : Stepped) : Type 0 where
  pub frame : Frame w.endpoint s.world.endpoint
  pub carried : (j : ℕ) → j ≤ 1
      → Carried w.endpoint.unit (cuts j c w ≡ true) (slot_at w.endpoint j) (slot_at s.world.endpoint j) (store_at s.world j) (trace j) (trace_after j c w s (trace j))

module _ (w₀ : World) (packet : List ℕ) (trace : ℕ → Trace) (s₀ : Sound w₀)
    (fits : (j : ℕ) → j ≤ 1 → Fit w₀.endpoint.unit (slot_at w₀.endpoint j) (store_at w₀ j) (trace j)) where
  abbrev eid₀ : ℕ
  eid₀ = w₀.endpoint.eid

  -- on the way through Receiving: a slot is as it was, or its assembly has ended
  pub data MidPhase (p q : Phase) : Type 0 where
    kept : q ≡ p → MidPhase p q
    ended : has_som packet ≡ true → is_early p ≡ true → q ≡ Idle None → MidPhase p q

  pub record Mid (w : World) : Type 0 where
    pub sound : Sound w
    pub frame : Frame w₀.endpoint w.endpoint
    pub stores : (j : ℕ) → store_at w j ≡ store_at w₀ j
    pub tickets : (j : ℕ) → j ≤ 1 → (slot_at w.endpoint j).ticket ≡ (slot_at w₀.endpoint j).ticket
    pub phases : (j : ℕ) → j ≤ 1 → MidPhase (phase_at w₀ j) (phase_at w j)

  abbrev Ends : Outcome → Type 0
  Ends o = Carries (receive packet) w₀ trace (by_outcome o)

  abbrev Cut : ℕ → Type 0
  Cut j = is_abort j eid₀ packet ≡ true

  -- the trace with answer n, where the packet adds nothing to slot j's command
  abbrev quietly : ℕ → ℕ → Slot → Trace
  quietly j n t = transmitted (phase_at w₀ j) t.phase (number n) (trace j)

  -- a slot that only went through the way's beginning
  mid_carried : (w : World) → Mid w → (n j : ℕ) → j ≤ 1 → (t : Slot) → t.phase ≡ phase_at w j → t.ticket ≡ (slot_at w.endpoint j).ticket
      → Carried w₀.endpoint.unit (Cut j) (slot_at w₀.endpoint j) t (store_at w₀ j) (trace j) (quietly j n t)
  mid_carried w m n j js t e k = go (m.phases j js)
    where
      go : MidPhase (phase_at w₀ j) (phase_at w j) → Carried w₀.endpoint.unit (Cut j) (slot_at w₀.endpoint j) t (store_at w₀ j) (trace j) (quietly j n t)
      go (kept q) = carried_same n (e ∙ q) (k ∙ m.tickets j js) (fits j js)
      go (ended _ early q) = carried_ended (store_at w₀ j) n early (e ∙ q) (k ∙ m.tickets j js) (fits j js).ticket_is

  -- an early slot on the way was early before
  was_early : (w : World) → Mid w → (j : ℕ) → j ≤ 1 → is_early (phase_at w j) ≡ true → is_early (phase_at w₀ j) ≡ true
  was_early w m j js h = go (m.phases j js)
    where
      go : MidPhase (phase_at w₀ j) (phase_at w j) → is_early (phase_at w₀ j) ≡ true
      go (kept q) = rw (sym q) h
      go (ended _ early q) = early

  -- a refusal's number is never that of a packet that is taken in
  ground_least : {n : ℕ} → Ground w₀ packet n → 3 ≤ n
  ground_least (in_table _ lo _) = omega arith
  ground_least (of_control _ _) = omega arith
  ground_least (of_no_slot _ _) = omega arith

  break_least : {n : ℕ} → Break w₀ packet n → 3 ≤ n
  break_least (in_sequence _) = omega arith
  break_least (in_size _) = omega arith
  break_least (in_total _) = omega arith

  refuse : (w : World) (n : ℕ) → 3 ≤ n → Mid w → Ends (refused w n)
  unfolding refused
  refuse w n h m =
      record {
        frame = m.frame;
        carried = λ j js. rw (refusal_trace j packet w₀ n (trace j) (omega arith), m.stores j) (mid_carried w m n j js (slot_at w.endpoint j) refl refl);
      }

  -- only slot i and its store change
  abbrev TraceOf : ℕ → ℕ → Slot → Trace
  TraceOf j n t = transmitted (phase_at w₀ j) t.phase (number n) (commanded j (receive packet) w₀ (number n) (trace j))

  pub record OneSlot (w : World) (i : ℕ) (o : Outcome) : Type 0 where
    pub frame : Frame w.endpoint o.world.endpoint
    pub that_phase : (slot_at o.world.endpoint (other_slot i)).phase ≡ phase_at w (other_slot i)
    pub that_ticket : (slot_at o.world.endpoint (other_slot i)).ticket ≡ (slot_at w.endpoint (other_slot i)).ticket
    pub that_store : store_at o.world (other_slot i) ≡ store_at w (other_slot i)
    pub that_trace : commanded (other_slot i) (receive packet) w₀ (number o.answer) (trace (other_slot i)) ≡ trace (other_slot i)
    pub this_slot : Carried w₀.endpoint.unit (Cut i) (slot_at w₀.endpoint i) (slot_at o.world.endpoint i) (store_at o.world i) (trace i)
        (TraceOf i o.answer (slot_at o.world.endpoint i))

  one_slot : (w : World) (i : ℕ) (o : Outcome) → i ≤ 1 → Mid w → OneSlot w i o → Ends o
  one_slot w i o is m k =
      record {
        frame = k.frame ∙ m.frame;
        carried = λ j js. at j js (which i j is js);
      }
    where
      that_one : other_slot i ≤ 1 → Carried w₀.endpoint.unit (Cut (other_slot i)) (slot_at w₀.endpoint (other_slot i)) (slot_at o.world.endpoint (other_slot i))
          (store_at o.world (other_slot i)) (trace (other_slot i)) (TraceOf (other_slot i) o.answer (slot_at o.world.endpoint (other_slot i)))
      that_one js =
          rw (k.that_trace, k.that_store, m.stores (other_slot i))
          (mid_carried w m o.answer (other_slot i) js (slot_at o.world.endpoint (other_slot i)) k.that_phase k.that_ticket)

      at : (j : ℕ) → j ≤ 1 → Which i j → Carried w₀.endpoint.unit (Cut j) (slot_at w₀.endpoint j) (slot_at o.world.endpoint j) (store_at o.world j) (trace j) (TraceOf j o.answer (slot_at o.world.endpoint j))
      at j js (this e) = rw e k.this_slot
      at j js (that e) = rw e (that_one (rw e at js))

  busying : (w : World) (i : ℕ) → Busy w₀ packet w i → Mid w → Ends (refused_busy w i)
  unfolding refused_busy
  busying w i b₀ m =
      let v = m.sound.state in
      let is = b₀.slot_is in
      let s = with_busy (slot_at w.endpoint i) true in
      let a : slot_at (with_slot w.endpoint i s) i ≡ s = slot_this i is v s in
      let b : slot_at (with_slot w.endpoint i s) (other_slot i) ≡ slot_at w.endpoint (other_slot i) = slot_that i is v s in
      one_slot w i (refused_busy w i) is m
      (record {
        frame = refl;
        that_phase = rw b refl;
        that_ticket = rw b refl;
        that_store = refl;
        that_trace = refl;
        this_slot = rw (a, m.stores i) (mid_carried w m 20 i is s refl refl);
      })

  dropping : (w : World) (i n : ℕ) → Break w₀ packet n → Gathering w₀ packet w i → Mid w → Ends (refused (dropped w i) n)
  unfolding refused
  dropping w i n k a₀ m =
      let h = break_least k in
      let is = a₀.slot_is in
      let early : is_early (phase_at w i) ≡ true = rw a₀.gathers_it refl in
      let v = m.sound.state in
      let s = idled (slot_at w.endpoint i) in
      let a : slot_at (with_slot w.endpoint i s) i ≡ s = slot_this i is v s in
      let b : slot_at (with_slot w.endpoint i s) (other_slot i) ≡ slot_at w.endpoint (other_slot i) = slot_that i is v s in
      one_slot w i (refused (dropped w i) n) is m
      (record {
        frame = refl;
        that_phase = rw b refl;
        that_ticket = rw b refl;
        that_store = refl;
        that_trace = refusal_trace (other_slot i) packet w₀ n (trace (other_slot i)) (omega arith);
        this_slot =
            rw (a, refusal_trace i packet w₀ n (trace i) (omega arith))
            (carried_ended (store_at w i) n (was_early w m i is early) refl (m.tickets i is) (fits i is).ticket_is);
      })

  failing : (w : World) (i at : ℕ) → Joining w₀ packet w i at → Mid w → Ends (refused (dropped (filled w₀ packet w i at) i) 19)
  unfolding refused
  failing w i at j m =
      let v = m.sound.state in
      let is = j.slot_is in
      let s = idled (slot_at w.endpoint i) in
      let a : slot_at (with_slot w.endpoint i s) i ≡ s = slot_this i is v s in
      let b : slot_at (with_slot w.endpoint i s) (other_slot i) ≡ slot_at w.endpoint (other_slot i) = slot_that i is v s in
      one_slot w i (refused (dropped (filled w₀ packet w i at) i) 19) is m
      (record {
        frame = refl;
        that_phase = rw b refl;
        that_ticket = rw b refl;
        that_store = store_that w i is _;
        that_trace = refl;
        this_slot = rw a (carried_ended _ 19 (was_early w m i is j.early) refl (m.tickets i is) (fits i is).ticket_is);
      })

  -- ---- a command's packet

  -- without SOM no assembly has ended
  pub phase_before : (w : World) → Mid w → (j : ℕ) → j ≤ 1 → has_som packet ≡ false → phase_at w j ≡ phase_at w₀ j
  phase_before w m j js som = go (m.phases j js)
    where
      go : MidPhase (phase_at w₀ j) (phase_at w j) → phase_at w j ≡ phase_at w₀ j
      go (kept q) = q
      go (ended with_som _ _) = false_true (sym som ∙ with_som)

  csi_is : byte_at packet 5 % 2 ≡ byte_at (payload_of packet) 1 % 2
  csi_is = rw (get_or-drop 4 packet 1 0) refl

  pub for_this : (w : World) (i at : ℕ) → Mid w → Joining w₀ packet w i at → is_for i packet w₀ ≡ true
  for_this w i at m j = go j.origin
    where
      go : {n : ℕ} → Origin w₀ packet w i n → is_for i packet w₀ ≡ true
      go (opens som e _ _) = rw som (eq-eqb (byte_at packet 5 % 2) i (csi_is ∙ sym e))
      go (goes_on som a ph fr _) =
          rw (som, receives_gathers (source_of packet) (message_tag_of packet) (phase_at w₀ i), sym (phase_before w m i j.slot_is som), ph) fr

  pub for_that : (w : World) (i at : ℕ) → Mid w → Joining w₀ packet w i at → is_for (other_slot i) packet w₀ ≡ false
  for_that w i at m j = go j.origin
    where
      go : {n : ℕ} → Origin w₀ packet w i n → is_for (other_slot i) packet w₀ ≡ false
      go (opens som e _ _) = rw som (ne_eqb (byte_at packet 5 % 2) (other_slot i) (λ k. other_differs i j.slot_is (sym k ∙ csi_is ∙ sym e)))
      go (goes_on som a ph fr _) =
          rw (som, receives_gathers (source_of packet) (message_tag_of packet) (phase_at w₀ (other_slot i)), sym (phase_before w m (other_slot i) (other_most i) som)) j.alone

  that_gains : (w : World) (i at : ℕ) → Mid w → Joining w₀ packet w i at → (n : ℕ)
      → commanded (other_slot i) (receive packet) w₀ (number n) (trace (other_slot i)) ≡ trace (other_slot i)
  that_gains w i at m j n = rw (for_that w i at m j) (none (eqb n 0) (eqb n 1))
    where
      none : (a b : Bool) → (if a && false then gaining packet (trace (other_slot i)) else if b && false then entering (other_slot i) packet (trace (other_slot i)) else trace (other_slot i)) ≡ trace (other_slot i)
      none true true = refl
      none true false = refl
      none false true = refl
      none false false = refl

  -- the store's front is then the request so far
  pub front : (w : World) (i at : ℕ) → Mid w → Joining w₀ packet w i at → whole w₀ packet w i at ≡ request_with packet (trace i)
  front w i at m j = rw (store_this w i j.slot_is (put (store_at w i) at (payload_of packet))) (go j.fits j.origin)
    where
      room : {n : ℕ} → n + length (payload_of packet) ≤ store_size → n ≤ length (store_at w i)
      room h = rw (store_at_lem i m.sound) (omega arith)

      go : {n : ℕ} → n + length (payload_of packet) ≤ store_size → Origin w₀ packet w i n → take (n + length (payload_of packet)) (put (store_at w i) n (payload_of packet)) ≡ request_with packet (trace i)
      go h (opens som e _ _) = rw som (take_joined (store_at w i) 0 (payload_of packet) (room h))
      go h (goes_on som a ph fr _) =
          let before : take a.length (store_at w₀ i) ≡ (trace i).request =
          rw (sym (phase_before w m i j.slot_is som) ∙ ph) at (fits i j.slot_is).phase_fits in
          rw som (take_joined (store_at w i) a.length (payload_of packet) (room h) ∙ rw (m.stores i, before) refl)

  gain : (w : World) (i at : ℕ) → Joining w₀ packet w i at → Units w.endpoint.unit (at + length (payload_of packet)) → Mid w
      → Ends (outcome 0 (on_slot (filled w₀ packet w i at) i (with_phase (slot_at w.endpoint i) (Receive (grown w₀ packet at)))))
  gain w i at j lo m =
      let v = m.sound.state in
      let is = j.slot_is in
      let s = with_phase (slot_at w.endpoint i) (Receive (grown w₀ packet at)) in
      let a : slot_at (with_slot w.endpoint i s) i ≡ s = slot_this i is v s in
      let b : slot_at (with_slot w.endpoint i s) (other_slot i) ≡ slot_at w.endpoint (other_slot i) = slot_that i is v s in
      one_slot w i (outcome 0 (on_slot (filled w₀ packet w i at) i s)) is m
      (record {
        frame = refl;
        that_phase = rw b refl;
        that_ticket = rw b refl;
        that_store = store_that w i is _;
        that_trace = that_gains w i at m j 0;
        this_slot =
            rw (a, for_this w i at m j, quiet_other (phase_at w₀ i) (Receive (grown w₀ packet at)) 0 (gaining packet (trace i)) refl)
            (record {
              fit = record { phase_fits = front w i at m j; ticket_is = rw (m.tickets i is) (fits i is).ticket_is };
              entry = stayed refl (λ h. false_true h);
              steady = newly (was_early w m i is j.early) refl;
            });
      })

  -- ---- the command is whole

  early_silent : (p : Phase) → is_early p ≡ true → is_transmit p ≡ false
  early_silent (Idle held) h = refl
  early_silent (Receive a) h = refl
  early_silent (Process r) h = refl
  early_silent (Answered r) h = refl
  early_silent (Transmit r) h = sym h

  -- Pause leaves phases and tickets
  pause_slot : (s : Slot) → ((paused_slot s).phase ≡ s.phase) × ((paused_slot s).ticket ≡ s.ticket)
  pause_slot s = if_ind (λ (x : Slot). (x.phase ≡ s.phase) × (x.ticket ≡ s.ticket)) (is_idle s.phase) (λ _. (refl, refl)) (λ _. (refl, refl))

  pub record Alike (e f : Endpoint) : Type 0 where
    pub same_phase : (j : ℕ) → j ≤ 1 → (slot_at f j).phase ≡ (slot_at e j).phase
    pub same_ticket : (j : ℕ) → j ≤ 1 → (slot_at f j).ticket ≡ (slot_at e j).ticket
    pub frame : Frame e f

  pause_alike : (e : Endpoint) → Alike e (pause e)
  unfolding pause
  pause_alike e =
      record {
        same_phase = λ j js. rw (slot_both paused_slot e j js) (pause_slot (slot_at e j)).0;
        same_ticket = λ j js. rw (slot_both paused_slot e j js) (pause_slot (slot_at e j)).1;
        frame = refl;
      }

  itself : (e : Endpoint) → Alike e e
  itself e = record { same_phase = λ j js. refl; same_ticket = λ j js. refl; frame = refl }

  paused_alike : (b : Bool) (e : Endpoint) → Alike e (paused_if b e)
  paused_alike b e = if_ind (Alike e) b (λ _. pause_alike e) (λ _. itself e)

  module _ (w : World) (i at : ℕ) (j : Joining w₀ packet w i at) (lo : smallest ≤ at + length (payload_of packet)) (m : Mid w) where
    abbrev pub asked : List ℕ
    asked = request_with packet (trace i)

    abbrev pub mh : MessageHeader
    mh = message_header (whole w₀ packet w i at)

    abbrev pub command : Request
    command = request (grown w₀ packet at) mh

    abbrev pub e₁ : Endpoint
    e₁ = with_slot w.endpoint i (processing (slot_at w.endpoint i) command)

    abbrev pub e₂ : Endpoint
    e₂ = paused_if mh.ciap e₁

    abbrev pub w₂ : World
    w₂ = with_endpoint (filled w₀ packet w i at) e₂

    e₁_valid : Valid e₁
    e₁_valid = kept_quiet i j.slot_is m.sound.state (processing (slot_at w.endpoint i) command) (lo, j.fits) refl

    pub e₂_valid : Valid e₂
    e₂_valid = if_ind Valid mh.ciap (λ _. pause_valid e₁_valid) (λ _. e₁_valid)

    alike : Alike e₁ e₂
    alike = paused_alike mh.ciap e₁

    pub this_at : slot_at e₁ i ≡ processing (slot_at w.endpoint i) command
    this_at = slot_this i j.slot_is m.sound.state (processing (slot_at w.endpoint i) command)

    pub that_at : slot_at e₁ (other_slot i) ≡ slot_at w.endpoint (other_slot i)
    that_at = slot_that i j.slot_is m.sound.state (processing (slot_at w.endpoint i) command)

    pub in_process : (slot_at e₂ i).phase ≡ Process command
    in_process = alike.same_phase i j.slot_is ∙ rw this_at refl

    pub that_phase : (slot_at e₂ (other_slot i)).phase ≡ phase_at w (other_slot i)
    that_phase = alike.same_phase (other_slot i) (other_most i) ∙ rw that_at refl

    that_ticket : (slot_at e₂ (other_slot i)).ticket ≡ (slot_at w.endpoint (other_slot i)).ticket
    that_ticket = alike.same_ticket (other_slot i) (other_most i) ∙ rw that_at refl

    ticket_next : (slot_at e₂ i).ticket.0 ≡ ((trace i).entries + 1) % 2 ^ 32
    ticket_next =
        let t : (slot_at e₂ i).ticket ≡ next_ticket (slot_at w₀.endpoint i).ticket =
        alike.same_ticket i j.slot_is ∙ rw (this_at, m.tickets i j.slot_is) refl in
        rw t (next_ticket_lem (slot_at w₀.endpoint i).ticket.0 (trace i).entries (fits i j.slot_is).ticket_is)

    pub whole_is : whole w₀ packet w i at ≡ asked
    whole_is = front w i at m j

    pub size_is : at + length (payload_of packet) ≡ length asked
    size_is =
        let room : at + length (payload_of packet) ≤ length (store_at (filled w₀ packet w i at) i) =
        rw (store_this w i j.slot_is (put (store_at w i) at (payload_of packet)), length_put (store_at w i) at (payload_of packet) fit, store_at_lem i m.sound) j.fits in
        rw (sym whole_is) (sym (length-take-le (at + length (payload_of packet)) (store_at (filled w₀ packet w i at) i) room))
      where
        fit : at + length (payload_of packet) ≤ length (store_at w i)
        fit = rw (store_at_lem i m.sound) j.fits

    was : is_early (phase_at w₀ i) ≡ true
    was = was_early w m i j.slot_is j.early

    -- it waits to be taken
    waits : fixed_at_entry i asked ≡ [] → Ends (outcome 1 w₂)
    waits none =
        one_slot w i (outcome 1 w₂) j.slot_is m
        (record {
          frame = alike.frame;
          that_phase = that_phase;
          that_ticket = that_ticket;
          that_store = store_that w i j.slot_is _;
          that_trace = that_gains w i at m j 1;
          this_slot =
              rw (for_this w i at m j, quiet_other (phase_at w₀ i) (slot_at e₂ i).phase 1 (entering i packet (trace i)) (rw in_process refl))
              (record {
                fit =
                    record {
                      phase_fits = rw in_process (record { held = whole_is; kind_is = rw whole_is refl; from = refl; under = refl; unfixed = none; takes_are = refl; mark_is = refl });
                      ticket_is = ticket_next;
                    };
                entry = entered was (rw in_process refl) refl;
                steady = newly was (rw in_process refl);
              });
        })

    -- or it is answered at once
    answered : (body : List ℕ) → fixed_at_entry i asked ≡ response_for i asked body → Ends (outcome 1 (responded w₂ i command body))
    unfolding responded
    answered body fixed =
        let is = j.slot_is in
        let b = (slot_at e₂ i).paused in
        let r = response_to command body in
        let s = with_phase (slot_at e₂ i) (settled b r) in
        let a : slot_at (with_slot e₂ i s) i ≡ s = slot_this i is e₂_valid s in
        let c : slot_at (with_slot e₂ i s) (other_slot i) ≡ slot_at e₂ (other_slot i) = slot_that i is e₂_valid s in
        let text = response command.kind i body in
        let stored : store_at (with_store w₂ i (put (store_at w₂ i) response_place text)) i ≡ put (store_at w₂ i) response_place text = store_this w₂ i is (put (store_at w₂ i) response_place text) in
        let n : length text ≡ length body + 8 = length_response command.kind i body in
        let text_is : text ≡ fixed_at_entry i asked = rw whole_is (response_is i asked body is) ∙ sym fixed in
        let lies : take (length body + 8) (put (store_at w₂ i) response_place text) ≡ text = rw (sym n) (take_put (store_at w₂ i) text) in
        one_slot w i (outcome 1 (responded w₂ i command body)) is m
        (record {
          frame = alike.frame;
          that_phase = rw c that_phase;
          that_ticket = rw c that_ticket;
          that_store = store_that w₂ i is (put (store_at w₂ i) response_place text) ∙ store_that w i is _;
          that_trace = that_gains w i at m j 1;
          this_slot =
              rw (a, for_this w i at m j)
              (carried_settled (entering i packet (trace i)) 1 b r (early_silent (phase_at w₀ i) was) refl
              (record { held = rw stored (lies ∙ text_is); size = rw (sym text_is) n; to = refl; under = refl }) ticket_next (entered was (settled_late b r) refl)
              (newly was (settled_begun b r)));
        })

    at_once : (f : Result (Unit {0}) Fault) → command_fault mh (at + length (payload_of packet)) ≡ f → Ends (outcome 1 (responded_at_once w₂ i command f))
    at_once f e = let k : command_fault (message_header asked) (length asked) ≡ f = rw (whole_is, size_is) at e in go f (fixed_is i asked ∙ ap (at_entry i asked) k)
      where
        go : (f : Result (Unit {0}) Fault) → fixed_at_entry i asked ≡ at_entry i asked f → Ends (outcome 1 (responded_at_once w₂ i command f))
        go (Ok none) k = waits k
        go (Err fault) k = answered (fault_body (Err fault)) k

  enter : (w : World) (i at : ℕ) → Joining w₀ packet w i at → smallest ≤ at + length (payload_of packet) → check_right (whole w₀ packet w i at) ≡ true → Mid w
      → Ends (outcome 1 (entered_world (filled w₀ packet w i at) i (grown w₀ packet at) (message_header (whole w₀ packet w i at))))
  unfolding entered_world
  enter w i at j lo _ m = at_once w i at j lo m (command_fault (message_header (whole w₀ packet w i at)) (at + length (payload_of packet))) refl

  -- ---- a control primitive

  pub record Acts (w : World) (a : Acted) : Type 0 where
    pub frame : Frame w.endpoint a.endpoint
    pub each : (j : ℕ) → j ≤ 1
        → Carried w₀.endpoint.unit (Cut j) (slot_at w₀.endpoint j) (slot_at a.endpoint j) (store_at w₀ j) (trace j) (quietly j 2 (slot_at a.endpoint j))

  alike_acts : (w : World) → Mid w → (a : Acted) → Alike w.endpoint a.endpoint → Acts w a
  alike_acts w m a k =
      record {
        frame = k.frame;
        each = λ j js. mid_carried w m 2 j js (slot_at a.endpoint j) (k.same_phase j js) (k.same_ticket j js);
      }

  -- Resume
  resumed_one : (j : ℕ) → j ≤ 1 → (s t : Slot) → t.phase ≡ released_phase s.phase → t.ticket ≡ s.ticket → s.phase ≡ phase_at w₀ j → s.ticket ≡ (slot_at w₀.endpoint j).ticket
      → Carried w₀.endpoint.unit (Cut j) (slot_at w₀.endpoint j) t (store_at w₀ j) (trace j) (quietly j 2 t)
  resumed_one j js s t e k p q = go s.phase e p
    where
      plain : {x : Phase} → t.phase ≡ x → x ≡ phase_at w₀ j → Carried w₀.endpoint.unit (Cut j) (slot_at w₀.endpoint j) t (store_at w₀ j) (trace j) (quietly j 2 t)
      plain a b = carried_same 2 (a ∙ b) (k ∙ q) (fits j js)

      go : (x : Phase) → t.phase ≡ released_phase x → x ≡ phase_at w₀ j → Carried w₀.endpoint.unit (Cut j) (slot_at w₀.endpoint j) t (store_at w₀ j) (trace j) (quietly j 2 t)
      go (Idle held) a b = plain a b
      go (Receive x) a b = plain a b
      go (Process x) a b = plain a b
      go (Answered r) a b = carried_released 2 r (sym b) a (k ∙ q) (fits j js)
      go (Transmit r) a b = plain a b

  resume_acts : (w : World) → Mid w → (cpsr : ℕ) → Acts w (record { endpoint = resume w.endpoint; cpsr = cpsr })
  unfolding resume
  resume_acts w m cpsr = record { frame = refl; each = λ j js. rw (slot_both resumed_slot w.endpoint j js) (at j js (m.phases j js)) }
    where
      at : (j : ℕ) → j ≤ 1 → MidPhase (phase_at w₀ j) (phase_at w j)
          → Carried w₀.endpoint.unit (Cut j) (slot_at w₀.endpoint j) (resumed_slot (slot_at w.endpoint j)) (store_at w₀ j) (trace j) (quietly j 2 (resumed_slot (slot_at w.endpoint j)))
      at j js (kept q) = resumed_one j js (slot_at w.endpoint j) (resumed_slot (slot_at w.endpoint j)) refl refl q (m.tickets j js)
      at j js (ended _ early q) = carried_ended (store_at w₀ j) 2 early (ap released_phase q) (m.tickets j js) (fits j js).ticket_is

  -- Abort
  abort_acts : (w : World) → Mid w → (i cpsr : ℕ) → i ≤ 1 → Cut i → Acts w (record { endpoint = abort w.endpoint i; cpsr = cpsr })
  unfolding abort
  abort_acts w m i cpsr is c = record { frame = refl; each = λ j js. at j js (which i j is js) }
    where
      v : Valid w.endpoint
      v = m.sound.state

      e : Endpoint
      e = with_slot w.endpoint i (idled (slot_at w.endpoint i))

      this_one : Carried w₀.endpoint.unit (Cut i) (slot_at w₀.endpoint i) (idled (slot_at w.endpoint i)) (store_at w₀ i) (trace i) (quietly i 2 (idled (slot_at w.endpoint i)))
      this_one = carried_cut (store_at w₀ i) 2 c refl (m.tickets i is) (fits i is).ticket_is

      at : (j : ℕ) → j ≤ 1 → Which i j → Carried w₀.endpoint.unit (Cut j) (slot_at w₀.endpoint j) (slot_at (with_slot w.endpoint i (idled (slot_at w.endpoint i))) j) (store_at w₀ j) (trace j) (quietly j 2 (slot_at (with_slot w.endpoint i (idled (slot_at w.endpoint i))) j))
      at j js (this q) = rw (q, slot_this i is v (idled (slot_at w.endpoint i))) this_one
      at j js (that q) = rw (q, slot_that i is v (idled (slot_at w.endpoint i))) (mid_carried w m 2 (other_slot i) (other_most i) (slot_at w.endpoint (other_slot i)) refl refl)

  -- Get State
  clear_alike : (e : Endpoint) → Valid e → (i : ℕ) → i ≤ 1 → Alike e (clear_flags e i)
  unfolding clear_flags
  clear_alike e v i is = record { same_phase = λ j js. phase j (which i j is js); same_ticket = λ j js. ticket j (which i j is js); frame = refl }
    where
      phase : (j : ℕ) → Which i j → (slot_at (with_slot e i (with_busy (slot_at e i) false)) j).phase ≡ (slot_at e j).phase
      phase j (this q) = rw (q, slot_this i is v (with_busy (slot_at e i) false)) refl
      phase j (that q) = rw (q, slot_that i is v (with_busy (slot_at e i) false)) refl

      ticket : (j : ℕ) → Which i j → (slot_at (with_slot e i (with_busy (slot_at e i) false)) j).ticket ≡ (slot_at e j).ticket
      ticket j (this q) = rw (q, slot_this i is v (with_busy (slot_at e i) false)) refl
      ticket j (that q) = rw (q, slot_that i is v (with_busy (slot_at e i) false)) refl

  -- Replay
  held_acts : (w : World) → Mid w → (i : ℕ) → i ≤ 1 → (r : Response) → phase_at w i ≡ Idle (Some r) → Acts w (replayed w.endpoint i (Some r))
  held_acts w m i is r e = record { frame = refl; each = λ j js. at j js (which i j is js) }
    where
      v : Valid w.endpoint
      v = m.sound.state

      s : Slot
      s = with_phase (slot_at w.endpoint i) (Transmit (outgoing r 0))

      this_one : MidPhase (phase_at w₀ i) (phase_at w i) → Carried w₀.endpoint.unit (Cut i) (slot_at w₀.endpoint i) s (store_at w₀ i) (trace i) (quietly i 2 s)
      this_one (kept q) = carried_replayed 2 r (sym q ∙ e) refl (m.tickets i is) (fits i is)
      this_one (ended _ early q) = held_not (sym q ∙ e)

      at : (j : ℕ) → j ≤ 1 → Which i j → Carried w₀.endpoint.unit (Cut j) (slot_at w₀.endpoint j) (slot_at (with_slot w.endpoint i s) j) (store_at w₀ j) (trace j) (quietly j 2 (slot_at (with_slot w.endpoint i s) j))
      at j js (this q) = rw (q, slot_this i is v s) (this_one (m.phases i is))
      at j js (that q) = rw (q, slot_that i is v s) (mid_carried w m 2 (other_slot i) (other_most i) (slot_at w.endpoint (other_slot i)) refl refl)

  replay_acts : (w : World) → Mid w → (i : ℕ) → i ≤ 1 → Acts w (replay w.endpoint i)
  unfolding replay
  replay_acts w m i is = go (held_in (phase_at w i)) refl
    where
      go : (k : Option Response) → held_in (phase_at w i) ≡ k → Acts w (replayed w.endpoint i k)
      go None e = alike_acts w m _ (itself w.endpoint)
      go (Some r) e = held_acts w m i is r (held_idle (phase_at w i) r e)

  -- a primitive with opcode 2 that passed its tests is an Abort in the document's words
  is_abort_lem : Controls w₀ packet → control_fault (message_header (payload_of packet)) (opcode_of (payload_of packet)) (no_parameter (payload_of packet)) ≡ Ok tt
      → opcode_of (payload_of packet) ≡ 2 → Cut (message_header (payload_of packet)).csi
  is_abort_lem c f o =
      let k : is_primitive 2 eid₀ packet ≡ true = ap (λ (n : ℕ). is_primitive n eid₀ packet) (sym o) ∙ is_primitive_lem w₀ packet c f in
      and_from (is_primitive 2 eid₀ packet) (eqb (byte_at (payload_of packet) 1 % 2) (byte_at (payload_of packet) 1 % 2)) k (eq-eqb (byte_at (payload_of packet) 1 % 2) (byte_at (payload_of packet) 1 % 2) refl)

  primitive_acts : (w : World) → Mid w → (opcode i : ℕ) (clear : Bool) → i ≤ 1 → (opcode ≡ 2 → Cut i) → Acts w (primitive w.endpoint opcode i clear)
  unfolding primitive
  primitive_acts w m opcode i clear is c =
      if_ind (Acts w) (eqb opcode 0) (λ _. alike_acts w m _ (pause_alike w.endpoint))
      (λ _.
      if_ind (Acts w) (eqb opcode 1) (λ _. resume_acts w m 0)
      (λ _.
      if_ind (Acts w) (eqb opcode 2) (λ two. abort_acts w m i _ is (c (eqb-true opcode 2 two)))
      (λ _.
      if_ind (Acts w) (eqb opcode 3)
      (λ _. alike_acts w m _ (if_ind (Alike w.endpoint) clear (λ _. clear_alike w.endpoint m.sound.state i is) (λ _. itself w.endpoint)))
      (λ _. replay_acts w m i is))))

  control : (w : World) → Controls w₀ packet → Mid w
      → Ends (outcome 2 (with_endpoint w (controlled w.endpoint (fields packet) (message_header (payload_of packet)) (payload_of packet))))
  unfolding controlled
  control w c m = go (control_fault (message_header (payload_of packet)) (opcode_of (payload_of packet)) (no_parameter (payload_of packet))) refl
    where
      mh : MessageHeader
      mh = message_header (payload_of packet)

      -- an error reply
      fault : Ends (outcome 2 w)
      fault =
          record {
            frame = m.frame;
            carried = λ j js. rw (m.stores j) (mid_carried w m 2 j js (slot_at w.endpoint j) refl refl);
          }

      go : (f : Result (Unit {0}) Fault) → control_fault (message_header (payload_of packet)) (opcode_of (payload_of packet)) (no_parameter (payload_of packet)) ≡ f
          → Ends (outcome 2 (with_endpoint w (controlled_by w.endpoint (fields packet) (message_header (payload_of packet)).csi (payload_of packet) f)))
      go (Ok none) e =
          let a = primitive_acts w m (opcode_of (payload_of packet)) (message_header (payload_of packet)).csi (clears_flags (payload_of packet)) (csi_most (payload_of packet)) (is_abort_lem c e) in
          record {
            frame = a.frame ∙ m.frame;
            carried = λ j js. rw (m.stores j) (a.each j js);
          }
      go (Err f) e = record { frame = fault.frame; carried = fault.carried }

  -- ---- the whole

  pub start_mid : Mid w₀
  start_mid = record { sound = s₀; frame = refl; stores = λ j. refl; tickets = λ j js. refl; phases = λ j js. kept refl }

  the_walk : Walk w₀ packet Mid Ends
  the_walk =
      record {
        sound = λ w m. m.sound;
        unread = λ n lo _. refuse w₀ n (omega arith) start_mid;
        refusing = λ w n k m. refuse w n (ground_least k) m;
        busying = busying;
        dropping = dropping;
        failing = failing;
        gaining = λ w i at j _ lo m. gain w i at j lo m;
        entering = λ w i at j _ lo right m. enter w i at j lo right m;
        controlling = control;
      }

  -- an assembly under this source and tag ends
  gathers_early : (source tag : ℕ) (p : Phase) → gathers source tag p ≡ true → is_early p ≡ true
  gathers_early source tag (Idle held) h = refl
  gathers_early source tag (Receive a) h = refl
  gathers_early source tag (Process r) h = h
  gathers_early source tag (Answered r) h = h
  gathers_early source tag (Transmit r) h = h

  pub ended_mid : has_som packet ≡ true → Mid (with_endpoint w₀ (end_assembly w₀.endpoint (fields packet).source (fields packet).tag))
  unfolding end_assembly
  ended_mid som =
      record {
        sound = unfold end_assembly in (sound_endpoint s₀ (end_valid (fields packet).source (fields packet).tag s₀.state));
        frame = refl;
        stores = λ j. refl;
        tickets = λ j js. rw (slot_both over w₀.endpoint j js) (ticket (slot_at w₀.endpoint j));
        phases = λ j js. rw (slot_both over w₀.endpoint j js) (phase (slot_at w₀.endpoint j));
      }
    where
      over : Slot → Slot
      over = ended_slot (fields packet).source (fields packet).tag

      ticket : (s : Slot) → (ended_slot (fields packet).source (fields packet).tag s).ticket ≡ s.ticket
      ticket s = if_ind (λ (x : Slot). x.ticket ≡ s.ticket) (gathers (fields packet).source (fields packet).tag s.phase) (λ _. refl) (λ _. refl)

      phase : (s : Slot) → MidPhase s.phase (ended_slot (fields packet).source (fields packet).tag s).phase
      phase s =
          if_ind (λ (x : Slot). MidPhase s.phase x.phase) (gathers (fields packet).source (fields packet).tag s.phase)
          (λ g. ended som (gathers_early (fields packet).source (fields packet).tag s.phase g) refl) (λ _. kept refl)

  pub received_carries : Carries (receive packet) w₀ trace (by_outcome (received w₀ packet))
  received_carries = walked w₀ packet Mid Ends the_walk s₀ (λ _. start_mid) ended_mid
