-- What a poll does: the three things that can happen, and what each does to the slots and their traces.
-- Assumes nothing.
use Prim.Native.Nat.{ℕ, ◌+◌, ◌*◌, ◌≤◌}
use mathlib.Core.Path.{◌≡◌, refl, sym, ap, ◌∙◌}
use mathlib.Core.Bool.{Bool, true, false, not, ◌&&◌, ◌||◌, not-and_self}
use mathlib.Core.List.{List, ◌++◌}
use native.Mathlib.Omega.{arith}
use lib.Dec.{eqb, ltb}
use lib.ListN.{length, take, drop}
use lib.Seq.{take-append_seam}
use borrow.Author.Tests.{eq-eqb, ne_eqb, ltb-true, ltb-false, leb-true, le-leb, not-true}
use Rattle.std.specs.Prelude.{Option, None, Some, is_some, if◌then◌else◌}
use Rattle.std.proofs.lemmas.Bool.{and_parts}
use Rattle.lent.proofs.Choice.{if_ind, if_second, false_true, differ}
use Rattle.mctp.specs.Cut.{payload, packet}
use Rattle.mctp.proofs.Laws.{payload_next}
use Rattle.machine.specs.State.{World, slot_at, store_at, with_slot, with_endpoint, reply_sent, packet_sent}
use Rattle.machine.specs.Wire.{packet_room}
use Rattle.machine.specs.Poll.{Polled, other_slot, chosen, any_paused, ready, reply_first, is_last, advanced, after_packet, control_packet, command_packet, sent_control, sent_command, polled_by, polled}
use Rattle.machine.specs.Valid.{Valid, Sound}
use Rattle.machine.specs.Calls.{poll, number, handed_out, Stepped, stepped, by_poll, step}
use Rattle.machine.specs.History.{Trace, phase_at, paused_at, is_transmit, moved, sending, transmitted, trace_after, unit_of, has_room, counts}
use Rattle.machine.specs.Demands.{is_process}
use Rattle.machine.specs.Types.{Outgoing, Phase, Idle, Receive, Process, Answered, Transmit, Slot, Reply, Endpoint}
use Rattle.machine.proofs.Slots.{other_most}
use Rattle.machine.proofs.Receiving.{right_stores}
use Rattle.machine.proofs.Keeps.{Chosen, chosen_at}
use Rattle.machine.proofs.Places.{Which, this, that, which, slot_this, slot_that}
use Rattle.machine.proofs.Fits.{Going, FitP, Fit, Entry, stayed, quiet_same}

-- ---- the three things

pub data PollCase (w : World) (buffer : List ℕ) : Stepped → Type 0 where
  -- refused, or nothing to send
  still : (n : ℕ) → (counts (poll buffer) w ≡ true → chosen w.endpoint ≡ None) → PollCase w buffer (stepped (number n) w)
  -- the control reply goes
  replies : (r : Reply) → w.endpoint.reply ≡ Some r
      → (counts (poll buffer) w ≡ true → (chosen w.endpoint ≡ None → ⊥) → w.endpoint.last_control ≡ false)
      → PollCase w buffer (stepped (handed_out (control_packet w.endpoint r)) (with_endpoint w (reply_sent w.endpoint)))
  -- a command packet goes
  sends : (i : ℕ) (r : Outgoing) → chosen w.endpoint ≡ Some (i, r) → counts (poll buffer) w ≡ true
      → PollCase w buffer
      (stepped (handed_out (command_packet w i r)) (with_endpoint w (packet_sent (with_slot w.endpoint i (after_packet w.endpoint.unit (slot_at w.endpoint i) r)) (other_slot i))))

both_false : (a b : Bool) → (not a && not b) ≡ true → (a || b) ≡ false
both_false true b e = false_true e
both_false false b e = not-true b e

false_both : (a b : Bool) → (a || b) ≡ false → (not a && not b) ≡ true
false_both true b e = false_true (sym e)
false_both false b e = rw e refl

pub poll_case : (w : World) (buffer : List ℕ) → Sound w → PollCase w buffer (step (poll buffer) w)
unfolding step polled
poll_case w buffer s =
    rw (right_stores w s)
    (if_ind After (ltb (length buffer) (packet_room w.endpoint))
    (λ short. still 36 (λ c. absurd (omega (arith, ltb-true (length buffer) (packet_room w.endpoint) short, leb-true (unit_of w + 4) (length buffer) (and_parts (has_room w buffer) flags c).0))))
    (λ room. by room w.endpoint.reply refl (ready w.endpoint) refl))
  where
    flags : Bool
    flags = not (paused_at w 0) && not (paused_at w 1)

    After : Polled → Type 0
    After p = PollCase w buffer (by_poll w p)

    -- a counted poll finds what is chosen
    unpaused : {x : Option (ℕ × Outgoing)} → ready w.endpoint ≡ x → counts (poll buffer) w ≡ true → chosen w.endpoint ≡ x
    unpaused e c =
        let k = both_false (paused_at w 0) (paused_at w 1) (and_parts (has_room w buffer) (not (paused_at w 0) && not (paused_at w 1)) c).1 in
        unfold ready in (go (any_paused w.endpoint) refl k e)
      where
        go : {x : Option (ℕ × Outgoing)} (b : Bool) → any_paused w.endpoint ≡ b → (paused_at w 0 || paused_at w 1) ≡ false
            → ◌≡◌ {A = Option (ℕ × Outgoing)} (if b then None else chosen w.endpoint) x → chosen w.endpoint ≡ x
        go true f k q = false_true (sym k ∙ f)
        go false f k q = q

    nothing : {A : Type 0} {i : ℕ} {r : Outgoing} → ◌≡◌ {A = Option (ℕ × Outgoing)} None (Some (i, r)) → A
    nothing n = differ (cc n)

    control_goes : (r : Reply) → w.endpoint.reply ≡ Some r
        → (counts (poll buffer) w ≡ true → (chosen w.endpoint ≡ None → ⊥) → w.endpoint.last_control ≡ false) → After (sent_control w.endpoint r buffer)
    control_goes r a b =
        unfold sent_control in
        (rw (take-append_seam (control_packet w.endpoint r) (drop (length (control_packet w.endpoint r)) buffer)) (replies r a b))

    found : {i : ℕ} {r : Outgoing} → ready w.endpoint ≡ Some (i, r) → ((paused_at w 0 || paused_at w 1) ≡ false) × (chosen w.endpoint ≡ Some (i, r))
    found e = unfold ready in (if_second (any_paused w.endpoint) nothing e)

    command_goes : (i : ℕ) (r : Outgoing) → chosen w.endpoint ≡ Some (i, r) → counts (poll buffer) w ≡ true → After (sent_command w i r buffer)
    command_goes i r e c =
        unfold sent_command in (rw (take-append_seam (command_packet w i r) (drop (length (command_packet w i r)) buffer)) (sends i r e c))

    goes_out : ltb (length buffer) (packet_room w.endpoint) ≡ false → (i : ℕ) (r : Outgoing) → ((paused_at w 0 || paused_at w 1) ≡ false) × (chosen w.endpoint ≡ Some (i, r))
        → After (sent_command w i r buffer)
    goes_out room i r k =
        command_goes i r k.1
        (rw (le-leb (unit_of w + 4) (length buffer) (ltb-false (length buffer) (packet_room w.endpoint) room), false_both (paused_at w 0) (paused_at w 1) k.0) refl)

    by : ltb (length buffer) (packet_room w.endpoint) ≡ false → (reply : Option Reply) → w.endpoint.reply ≡ reply → (x : Option (ℕ × Outgoing)) → ready w.endpoint ≡ x
        → After (polled_by w buffer reply x)
    by room None a None e = still 0 (unpaused e)
    by room None a (Some (i, r)) e = goes_out room i r (found e)
    by room (Some reply) a None e = control_goes reply a (λ c n. absurd (n (unpaused e c)))
    by room (Some reply) a (Some (i, r)) e =
        if_ind After (reply_first w.endpoint) (λ b. control_goes reply a (λ c n. not-true w.endpoint.last_control (and_parts _ _ b).1)) (λ _. goes_out room i r (found e))

-- what goes first is a reply that waits
pub first_waits : (e : Endpoint) → reply_first e ≡ true → is_some e.reply ≡ true
first_waits e h = (and_parts _ _ h).0

-- ---- what the trace gains of a packet

pub moved_same : (p : Phase) → moved p p ≡ false
moved_same (Idle held) = refl
moved_same (Receive a) = refl
moved_same (Process r) = refl
moved_same (Answered r) = refl
moved_same (Transmit r) = rw (eq-eqb r.sent r.sent refl) refl

-- a slot that did not move
pub unmoved : (p q : Phase) (bytes : List ℕ) (l : Trace) → q ≡ p → transmitted p q (handed_out bytes) l ≡ l
unmoved p q bytes l e = rw (e, not-and_self (is_transmit p), moved_same p) refl

-- the slot whose packet went
-- a phase that slot i's packet leads to
pub data Onward (r : Outgoing) : Phase → Type 0 where
  done : Onward r (Idle (Some r.response))
  more : Onward r (Transmit (advanced r))

pub onward : (unit : ℕ) (s : Slot) (r : Outgoing) → Onward r (after_packet unit s r).phase
onward unit s r = if_ind (λ (x : Slot). Onward r x.phase) (is_last unit r) (λ _. done) (λ _. more)

step_differs : (n : ℕ) → eqb (n + 1) n ≡ false
step_differs n = ne_eqb (n + 1) n (λ e. omega arith)

pub onward_moves : {r : Outgoing} {q : Phase} → Onward r q → moved (Transmit r) q ≡ true
onward_moves done = refl
onward_moves {r} more = rw (step_differs r.sent) refl

pub onward_traces : {r : Outgoing} {q : Phase} (bytes : List ℕ) (l : Trace) → Onward r q
    → transmitted (Transmit r) q (handed_out bytes) l ≡ sending l (l.packets + 1) (l.payloads ++ drop 4 bytes)
onward_traces bytes l done = refl
onward_traces {r} bytes l more = rw (step_differs r.sent) refl

onward_process : {A : Type 0} {r : Outgoing} {q : Phase} → Onward r q → is_process q ≡ true → A
onward_process done h = false_true h
onward_process more h = false_true h

-- the payloads and one more
module _ (w : World) (i : ℕ) (r : Outgoing) (l : Trace) (g : Going w.endpoint.unit r (store_at w i) l) where
  pub payload_of : drop 4 (command_packet w i r) ≡ payload w.endpoint.unit l.response r.sent
  unfolding packet
  payload_of = rw g.full.held refl

  pub joined : l.payloads ++ drop 4 (command_packet w i r) ≡ take (w.endpoint.unit * (r.sent + 1)) l.response
  joined = rw (payload_of, g.paid) (payload_next w.endpoint.unit l.response r.sent)

  abbrev pub sent_trace : Trace
  sent_trace = sending l (l.packets + 1) (l.payloads ++ drop 4 (command_packet w i r))

  onward_fits : {q : Phase} → Onward r q → FitP w.endpoint.unit q (store_at w i) sent_trace
  onward_fits done = record { held = g.full.held; size = g.full.size; to = g.full.to; under = g.full.under }
  onward_fits more =
      record {
        full = record { held = g.full.held; size = g.full.size; to = g.full.to; under = g.full.under };
        paid = joined;
        count = ap (λ (n : ℕ). n + 1) g.count;
      }

-- ---- the fit after a poll

pub record PollKept (unit : ℕ) (s t : Slot) (store : List ℕ) (l m : Trace) : Type 0 where
  pub fit : Fit unit t store m
  pub entry : Entry s.phase t.phase l m

module _ (w : World) (buffer : List ℕ) (trace : ℕ → Trace) (s₀ : Sound w) (fits : (j : ℕ) → j ≤ 1 → Fit w.endpoint.unit (slot_at w.endpoint j) (store_at w j) (trace j)) where
  abbrev KeptAt : Stepped → ℕ → Type 0
  KeptAt s j = PollKept w.endpoint.unit (slot_at w.endpoint j) (slot_at s.world.endpoint j) (store_at s.world j) (trace j) (trace_after j (poll buffer) w s (trace j))

  same_kept : (j : ℕ) → j ≤ 1 → (m : Trace) → m ≡ trace j → PollKept w.endpoint.unit (slot_at w.endpoint j) (slot_at w.endpoint j) (store_at w j) (trace j) m
  same_kept j js m e = rw e (record { fit = fits j js; entry = stayed refl (λ h. (h, refl)) })

  -- the slot whose packet went
  sent_kept : (i : ℕ) (r : Outgoing) → i ≤ 1 → phase_at w i ≡ Transmit r
      → PollKept w.endpoint.unit (slot_at w.endpoint i) (after_packet w.endpoint.unit (slot_at w.endpoint i) r) (store_at w i) (trace i)
      (transmitted (phase_at w i) (after_packet w.endpoint.unit (slot_at w.endpoint i) r).phase (handed_out (command_packet w i r)) (trace i))
  sent_kept i r is p =
      let g : Going w.endpoint.unit r (store_at w i) (trace i) = rw p at (fits i is).phase_fits in
      let o = onward w.endpoint.unit (slot_at w.endpoint i) r in
      rw (p, onward_traces (command_packet w i r) (trace i) o)
      (record {
        fit = record { phase_fits = onward_fits w i r (trace i) g o; ticket_is = same_ticket ∙ (fits i is).ticket_is };
        entry = stayed refl (λ h. onward_process o h);
      })
    where
      same_ticket : (after_packet w.endpoint.unit (slot_at w.endpoint i) r).ticket.0 ≡ (slot_at w.endpoint i).ticket.0
      same_ticket = if_ind (λ (x : Slot). x.ticket.0 ≡ (slot_at w.endpoint i).ticket.0) (is_last w.endpoint.unit r) (λ _. refl) (λ _. refl)

  kept_in : {s : Stepped} → PollCase w buffer s → (j : ℕ) → j ≤ 1 → KeptAt s j
  kept_in (still n _) j js = same_kept j js _ (quiet_same (phase_at w j) (phase_at w j) n (trace j) refl)
  kept_in (replies r _ _) j js = same_kept j js _ (unmoved (phase_at w j) (phase_at w j) (control_packet w.endpoint r) (trace j) refl)
  kept_in (sends i r e _) j js = at (chosen_at w.endpoint s₀.state e)
    where
      at : Chosen w.endpoint i r
          → KeptAt (stepped (handed_out (command_packet w i r)) (with_endpoint w (packet_sent (with_slot w.endpoint i (after_packet w.endpoint.unit (slot_at w.endpoint i) r)) (other_slot i)))) j
      at c = by (which i j c.slot_is js)
        where
          v : Valid w.endpoint
          v = s₀.state

          by : Which i j → PollKept w.endpoint.unit (slot_at w.endpoint j) (slot_at (with_slot w.endpoint i (after_packet w.endpoint.unit (slot_at w.endpoint i) r)) j) (store_at w j) (trace j)
              (transmitted (phase_at w j) (slot_at (with_slot w.endpoint i (after_packet w.endpoint.unit (slot_at w.endpoint i) r)) j).phase (handed_out (command_packet w i r)) (trace j))
          by (this q) = rw (q, slot_this i c.slot_is v (after_packet w.endpoint.unit (slot_at w.endpoint i) r)) (sent_kept i r c.slot_is c.sends)
          by (that q) =
              rw (q, slot_that i c.slot_is v (after_packet w.endpoint.unit (slot_at w.endpoint i) r))
              (same_kept (other_slot i) (other_most i) _ (unmoved (phase_at w (other_slot i)) (phase_at w (other_slot i)) (command_packet w i r) (trace (other_slot i)) refl))

  pub poll_kept : (j : ℕ) → j ≤ 1 → KeptAt (step (poll buffer) w) j
  poll_kept j js = kept_in (poll_case w buffer s₀) j js
