-- How the pause flags move.
-- Assumes nothing.
use Prim.Native.Nat.{ℕ, zero, suc, ◌+◌, ◌≤◌}
use mathlib.Core.Path.{◌≡◌, refl, sym, ap, ◌∙◌}
use mathlib.Core.Bool.{Bool, true, false, not, ◌&&◌, ◌||◌, or-false, and-false}
use mathlib.Core.List.{List}
use native.Mathlib.Omega.{arith}
use lib.Dec.{eqb, ltb}
use lib.ListN.{length}
use borrow.Author.Tests.{ne_eqb, le-ltb, eqb-true}
use Rattle.std.specs.Prelude.{Result, Ok, Err, Option, None, Some, if◌then◌else◌}
use Rattle.lent.specs.Bytes.{byte_at, is_set}
use Rattle.lent.proofs.Choice.{if_ind, false_true}
use Rattle.mctp.specs.Header.{fields, payload_of}
use Rattle.nvme_mi.specs.Check.{check_right}
use Rattle.nvme_mi.specs.Message.{message_header, command_fault, control_fault, smallest}
use Rattle.nvme_mi.specs.Response.{fault_body}
use Rattle.nvme_mi.specs.declared.Fault.{Fault}
use Rattle.machine.specs.State.{World, Outcome, outcome, slot, slot_at, store_at, with_slot, with_endpoint, on_slot, with_phase, with_paused, with_busy, idled, held_in, is_idle, outgoing, settled}
use Rattle.machine.specs.Wire.{opcode_of, no_parameter, clears_flags}
use Rattle.machine.specs.Control.{Acted, paused_slot, pause, abort, clear_flags, replayed, replay, primitive, controlled_by, controlled}
use Rattle.machine.specs.Process.{processing, response_to, responded, responded_at_once, paused_if, entered}
use Rattle.machine.specs.Receive.{refused, refused_busy, dropped, gathers, ended_slot, end_assembly, received}
use Rattle.machine.specs.Finish.{taken, completed, was_declared, timed_out, was_reset}
use Rattle.machine.specs.Poll.{other_slot, is_last, after_packet}
use Rattle.machine.specs.Valid.{Valid, Sound, PhaseFacts}
use Rattle.machine.specs.Calls.{Call, receive, take!, read, complete, declare, poll, timeout, reset, Stepped, step}
use Rattle.machine.specs.History.{Trace, History, has_som, source_of, message_tag_of, bytes_from4, phase_at, paused_at, receives_from, is_for, request_with, is_primitive, run, start}
use Rattle.machine.specs.Demands.{is_idle_now}
use Rattle.machine.specs.Replies.{slot_found, acted_on}
use Rattle.machine.specs.Pauses.{pauses, resumes, restarts, flag_after, FlagsMove}
use Rattle.machine.specs.Types.{Response, Phase, Idle, Receive, Process, Answered, Transmit, Slot, Endpoint}
use Rattle.machine.proofs.Slots.{held_idle, held_not, facts_at, other_most}
use Rattle.machine.proofs.Receiving.{Units, Joining, filled, grown, whole, Controls, Busy, Gathering, Ground, in_table, of_control, of_no_slot, Break, in_sequence, in_size, in_total, Walk, csi_most, receives_gathers, walked}
use Rattle.machine.proofs.Primitives.{is_primitive_lem, acting}
use Rattle.machine.proofs.Keeps.{received_sound, chosen_at, step_sound}
use Rattle.machine.proofs.Places.{Which, this, that, which, slot_this, slot_that, slot_both}
use Rattle.machine.proofs.Touches.{Touched, alone, handed, fixed, ended as ended_by_timeout, Touches, take_touches, complete_touches, declare_touches, timeout_touches}
use Rattle.machine.proofs.Fits.{Fit}
use Rattle.machine.proofs.Carried.{Mid, for_this, for_that, front, in_process, command, e₁, e₂, w₂, e₂_valid, this_at, that_at, start_mid, ended_mid}
use Rattle.machine.proofs.Polling.{PollCase, still, replies, sends, poll_case}
use Rattle.machine.proofs.Refusals.{idle_now}
use Rattle.machine.proofs.Replies.{primitive_done, acts}
use Rattle.machine.proofs.Histories.{Good, good_every}

-- ---- a slot's flag, where it need only be shown of a slot that is not Idle

unless_idle : (unit : ℕ) (s : Slot) (x : Bool) → PhaseFacts unit s.paused s.phase → (is_idle_now s.phase ≡ false → s.paused ≡ x) → s.paused ≡ (if is_idle_now s.phase then false else x)
unless_idle unit s x f k = by s.phase refl f
  where
    by : (p : Phase) → s.phase ≡ p → PhaseFacts unit s.paused p → s.paused ≡ (if is_idle_now p then false else x)
    by (Idle held) e g = g.0
    by (Receive a) e g = k (ap is_idle_now e)
    by (Process r) e g = k (ap is_idle_now e)
    by (Answered r) e g = k (ap is_idle_now e)
    by (Transmit r) e g = k (ap is_idle_now e)

idle_no : {A : Type 0} {p : Phase} → p ≡ Idle None → is_idle_now p ≡ false → A
idle_no e n = false_true (sym n ∙ ap is_idle_now e)

and_true : (b : Bool) → (b && true) ≡ b
and_true true = refl
and_true false = refl

-- ---- calls other than receiving: a slot that is not Idle then keeps its flag

abbrev Flagged : Endpoint → Endpoint → Type 0
Flagged e f = (j : ℕ) → j ≤ 1 → is_idle_now (slot_at f j).phase ≡ false → (slot_at f j).paused ≡ (slot_at e j).paused

one_flagged : (e : Endpoint) → Valid e → (i : ℕ) → i ≤ 1 → (s : Slot) → (is_idle_now s.phase ≡ false → s.paused ≡ (slot_at e i).paused) → Flagged e (with_slot e i s)
one_flagged e v i is s k j js = at (which i j is js)
  where
    at : Which i j → is_idle_now (slot_at (with_slot e i s) j).phase ≡ false → (slot_at (with_slot e i s) j).paused ≡ (slot_at e j).paused
    at (this q) = rw (q, slot_this i is v s) k
    at (that q) = rw (q, slot_that i is v s) (λ _. refl)

-- taking, completing and a timeout move no flag of a slot that is not Idle afterwards
touched_flagged : (e f : Endpoint) → Touches e f → Flagged e f
touched_flagged e f k j js = by (k j js)
  where
    by : {s t : Slot} → Touched s t → is_idle_now t.phase ≡ false → t.paused ≡ s.paused
    by (alone q) n = rw q refl
    by (handed r can p q) n = rw q refl
    by (fixed r x p q) n = rw q refl
    by (ended_by_timeout p q) n = idle_no (ap (λ (x : Slot). x.phase) q) n

reset_flagged : (e : Endpoint) → Flagged e (was_reset e).endpoint
unfolding was_reset
reset_flagged e zero js n = false_true (sym n)
reset_flagged e (suc zero) js n = false_true (sym n)
reset_flagged e (suc (suc k)) js n = absurd (omega arith)

poll_flagged : (w : World) → Sound w → (buffer : List ℕ) → Flagged w.endpoint (step (poll buffer) w).world.endpoint
poll_flagged w s buffer = by (poll_case w buffer s)
  where
    by : {x : Stepped} → PollCase w buffer x → Flagged w.endpoint x.world.endpoint
    by (still n _) = λ j js _. refl
    by (replies _ _ _) = λ j js _. refl
    by (sends k q c _) =
        one_flagged w.endpoint s.state k (chosen_at w.endpoint s.state c).slot_is (after_packet w.endpoint.unit (slot_at w.endpoint k) q)
        (if_ind (λ (x : Slot). is_idle_now x.phase ≡ false → x.paused ≡ (slot_at w.endpoint k).paused) (is_last w.endpoint.unit q) (λ _ n. false_true (sym n)) (λ _ _. refl))

-- ---- Pause

paused_so : (s : Slot) → is_idle_now (paused_slot s).phase ≡ false → (paused_slot s).paused ≡ true
paused_so s = by (is_idle s.phase) refl
  where
    by : (x : Bool) → is_idle s.phase ≡ x → is_idle_now (if x then s else with_paused s true).phase ≡ false → (if x then s else with_paused s true).paused ≡ true
    by true q n = false_true (sym n ∙ idle_now s.phase ∙ q)
    by false q n = refl

-- ---- receiving

module _ (w₀ : World) (p : List ℕ) (trace : ℕ → Trace) (s₀ : Sound w₀)
    (fits : (j : ℕ) → j ≤ 1 → Fit w₀.endpoint.unit (slot_at w₀.endpoint j) (store_at w₀ j) (trace j)) where
  -- the packet ends an assembly of slot j, and completes a command with CIAP 1
  abbrev ends : ℕ → Bool
  ends j = has_som p && receives_from (source_of p) (message_tag_of p) (phase_at w₀ j)

  abbrev ciap_of : ℕ → Bool
  ciap_of i = is_for i p w₀ && is_set (byte_at (request_with p (trace i)) 2) 1

  abbrev ciaps : Bool
  ciaps = ciap_of 0 || ciap_of 1

  -- on the way a slot is as it was, or its assembly has ended
  data Way (j : ℕ) (s t : Slot) : Type 0 where
    kept : t ≡ s → ends j ≡ false → Way j s t
    ended : t.phase ≡ Idle None → t.paused ≡ false → ends j ≡ true → Way j s t

  record On (w : World) : Type 0 where
    mid : Mid w₀ p trace s₀ fits w
    ways : (j : ℕ) → j ≤ 1 → Way j (slot_at w₀.endpoint j) (slot_at w.endpoint j)

  -- the flag of a slot that is not Idle, after answer n
  abbrev flag_by : ℕ → ℕ → Bool
  flag_by n j = if eqb n 1 && ciaps then true else paused_at w₀ j && not (ltb n 2 && ends j)

  abbrev Moves : Outcome → Type 0
  Moves o = (j : ℕ) → j ≤ 1 → is_idle_now (phase_at o.world j) ≡ false → paused_at o.world j ≡ flag_by o.answer j

  -- a slot whose assembly has ended stays so
  abbrev StaysIdle : Phase → Phase → Type 0
  StaysIdle p q = p ≡ Idle None → q ≡ Idle None

  -- a refusal, or a control primitive that moves no flag
  unmoved : (n : ℕ) → 2 ≤ n → (w : World) → On w → (j : ℕ) → j ≤ 1 → (t : Slot) → t.paused ≡ (slot_at w.endpoint j).paused → StaysIdle (phase_at w j) t.phase
      → is_idle_now t.phase ≡ false → t.paused ≡ flag_by n j
  unmoved n lo w o j js t a b k = go (o.ways j js)
    where
      go : Way j (slot_at w₀.endpoint j) (slot_at w.endpoint j) → t.paused ≡ flag_by n j
      go (kept e r) = rw (ne_eqb n 1 (λ q. omega arith), le-ltb n 2 lo) (a ∙ ap (λ (s : Slot). s.paused) e ∙ sym (and_true (paused_at w₀ j)))
      go (ended i f r) = idle_no (b i) k

  -- a command's packet that is taken in
  carried : (w : World) → On w → (j : ℕ) → j ≤ 1 → (t : Slot) → t.paused ≡ (slot_at w.endpoint j).paused → t.paused ≡ (paused_at w₀ j && not (ends j))
  carried w o j js t a = go (o.ways j js)
    where
      go : Way j (slot_at w₀.endpoint j) (slot_at w.endpoint j) → t.paused ≡ (paused_at w₀ j && not (ends j))
      go (kept e r) = rw r (a ∙ ap (λ (s : Slot). s.paused) e ∙ sym (and_true (paused_at w₀ j)))
      go (ended i f r) = rw r (a ∙ f ∙ sym (and-false (paused_at w₀ j)))

  -- only slot i changes
  one_moves : (w : World) → On w → (i n : ℕ) → i ≤ 1 → 2 ≤ n → (s : Slot)
      → (is_idle_now s.phase ≡ false → (s.paused ≡ (slot_at w.endpoint i).paused) × StaysIdle (phase_at w i) s.phase)
      → (j : ℕ) → j ≤ 1 → is_idle_now (slot_at (with_slot w.endpoint i s) j).phase ≡ false → (slot_at (with_slot w.endpoint i s) j).paused ≡ flag_by n j
  one_moves w on i n is lo s k j js = at (which i j is js)
    where
      v : Valid w.endpoint
      v = on.mid.sound.state

      at : Which i j → is_idle_now (slot_at (with_slot w.endpoint i s) j).phase ≡ false → (slot_at (with_slot w.endpoint i s) j).paused ≡ flag_by n j
      at (this q) = rw (q, slot_this i is v s) (λ x. unmoved n lo w on i is s (k x).0 (k x).1 x)
      at (that q) = rw (q, slot_that i is v s) (unmoved n lo w on (other_slot i) (other_most i) (slot_at w.endpoint (other_slot i)) refl (λ q. q))

  ground_least : {n : ℕ} → Ground w₀ p n → 2 ≤ n
  ground_least (in_table _ lo _) = omega arith
  ground_least (of_control _ _) = omega arith
  ground_least (of_no_slot _ _) = omega arith

  break_least : {n : ℕ} → Break w₀ p n → 2 ≤ n
  break_least (in_sequence _) = omega arith
  break_least (in_size _) = omega arith
  break_least (in_total _) = omega arith

  -- the header is refused: no assembly has ended
  unread : (n : ℕ) → 2 ≤ n → Moves (refused w₀ n)
  unfolding refused
  unread n lo j js k = rw (ne_eqb n 1 (λ q. omega arith), le-ltb n 2 lo) (sym (and_true (paused_at w₀ j)))

  -- where the way begins
  start_on : (fields p).som ≡ false → On w₀
  start_on som = record { mid = start_mid w₀ p trace s₀ fits; ways = λ j js. kept refl (rw som refl) }

  ended_on : (fields p).som ≡ true → On (with_endpoint w₀ (end_assembly w₀.endpoint (fields p).source (fields p).tag))
  unfolding end_assembly
  ended_on som =
      record {
        mid = unfold end_assembly in (ended_mid w₀ p trace s₀ fits som);
        ways = λ j js. rw (slot_both (ended_slot (fields p).source (fields p).tag) w₀.endpoint j js) (by j (slot_at w₀.endpoint j) refl);
      }
    where
      by : (j : ℕ) (s : Slot) → slot_at w₀.endpoint j ≡ s → Way j s (ended_slot (fields p).source (fields p).tag s)
      by j s e =
          if_ind (Way j s) (gathers (fields p).source (fields p).tag s.phase) (λ g. ended refl refl (named true g)) (λ g. kept refl (named false g))
        where
          named : (b : Bool) → gathers (fields p).source (fields p).tag s.phase ≡ b → ends j ≡ b
          named b g = rw som (ap (λ (x : Slot). receives_from (source_of p) (message_tag_of p) x.phase) e ∙ receives_gathers (source_of p) (message_tag_of p) s.phase ∙ g)

  refuse : (w : World) (n : ℕ) → 2 ≤ n → On w → Moves (refused w n)
  unfolding refused
  refuse w n lo on j js = unmoved n lo w on j js (slot_at w.endpoint j) refl (λ q. q)

  busying : (w : World) (i : ℕ) → Busy w₀ p w i → On w → Moves (refused_busy w i)
  unfolding refused_busy
  busying w i b on = one_moves w on i 20 b.slot_is (omega arith) (with_busy (slot_at w.endpoint i) true) (λ _. (refl, λ q. q))

  dropping : (w : World) (i n : ℕ) → Break w₀ p n → Gathering w₀ p w i → On w → Moves (refused (dropped w i) n)
  unfolding refused
  dropping w i n k g on = one_moves w on i n g.slot_is (break_least k) (idled (slot_at w.endpoint i)) (λ x. false_true (sym x))

  failing : (w : World) (i at : ℕ) → Joining w₀ p w i at → On w → Moves (refused (dropped (filled w₀ p w i at) i) 19)
  unfolding refused
  failing w i at j on = one_moves w on i 19 j.slot_is (omega arith) (idled (slot_at w.endpoint i)) (λ x. false_true (sym x))

  gain : (w : World) (i at : ℕ) → Joining w₀ p w i at → Units w.endpoint.unit (at + length (payload_of p)) → On w
      → Moves (outcome 0 (on_slot (filled w₀ p w i at) i (with_phase (slot_at w.endpoint i) (Receive (grown w₀ p at)))))
  gain w i at j lo on k ks _ = by (which i k j.slot_is ks)
    where
      s : Slot
      s = with_phase (slot_at w.endpoint i) (Receive (grown w₀ p at))

      v : Valid w.endpoint
      v = on.mid.sound.state

      by : Which i k → (slot_at (with_slot w.endpoint i (with_phase (slot_at w.endpoint i) (Receive (grown w₀ p at)))) k).paused ≡ (paused_at w₀ k && not (ends k))
      by (this q) = rw (q, slot_this i j.slot_is v s) (carried w on i j.slot_is s refl)
      by (that q) = rw (q, slot_that i j.slot_is v s) (carried w on (other_slot i) (other_most i) (slot_at w.endpoint (other_slot i)) refl)

  -- the command's CIAP is that of the joined payloads
  ciap_is : (w : World) (i at : ℕ) → Joining w₀ p w i at → On w → ciaps ≡ (message_header (whole w₀ p w i at)).ciap
  ciap_is w i at j on =
      let text = front w₀ p trace s₀ fits w i at on.mid j in
      let mine : ciap_of i ≡ (message_header (whole w₀ p w i at)).ciap = rw (for_this w₀ p trace s₀ fits w i at on.mid j, text) refl in
      let other : ciap_of (other_slot i) ≡ false = rw (for_that w₀ p trace s₀ fits w i at on.mid j) refl in
      either i j.slot_is (message_header (whole w₀ p w i at)).ciap mine other
    where
      either : (i : ℕ) → i ≤ 1 → (b : Bool) → ciap_of i ≡ b → ciap_of (other_slot i) ≡ false → ciaps ≡ b
      either zero is b x y = rw (x, y) (or-false b)
      either (suc zero) is b x y = rw (x, y) refl
      either (suc (suc n)) is b x y = absurd (omega arith)

  module _ (w : World) (i at : ℕ) (j : Joining w₀ p w i at) (lo : smallest ≤ at + length (payload_of p)) (on : On w) where
    abbrev first_state : Endpoint
    first_state = e₁ w₀ p trace s₀ fits w i at j lo on.mid

    abbrev entry_state : Endpoint
    entry_state = e₂ w₀ p trace s₀ fits w i at j lo on.mid

    abbrev ciap : Bool
    ciap = (message_header (whole w₀ p w i at)).ciap

    -- Pause at the entry
    paused_entry : (b : Bool) (k : ℕ) → k ≤ 1 → is_idle_now (slot_at (paused_if b first_state) k).phase ≡ false
        → (slot_at (paused_if b first_state) k).paused ≡ (if b then true else paused_at w₀ k && not (ends k))
    unfolding pause
    paused_entry true k ks = rw (slot_both paused_slot first_state k ks) (paused_so (slot_at first_state k))
    paused_entry false k ks = λ _. at_slot (which i k j.slot_is ks)
      where
        at_slot : Which i k → (slot_at first_state k).paused ≡ (paused_at w₀ k && not (ends k))
        at_slot (this q) =
            rw (q, this_at w₀ p trace s₀ fits w i at j lo on.mid)
            (carried w on i j.slot_is (processing (slot_at w.endpoint i) (command w₀ p trace s₀ fits w i at j lo on.mid)) refl)
        at_slot (that q) =
            rw (q, that_at w₀ p trace s₀ fits w i at j lo on.mid) (carried w on (other_slot i) (other_most i) (slot_at w.endpoint (other_slot i)) refl)

    answered_moves : (k : ℕ) → k ≤ 1 → (r : Response)
        → is_idle_now (slot_at (with_slot entry_state i (with_phase (slot_at entry_state i) (settled (slot_at entry_state i).paused r))) k).phase ≡ false
        → (slot_at (with_slot entry_state i (with_phase (slot_at entry_state i) (settled (slot_at entry_state i).paused r))) k).paused
        ≡ (if ciap then true else paused_at w₀ k && not (ends k))
    answered_moves k ks r = by (which i k j.slot_is ks)
      where
        s : Slot
        s = with_phase (slot_at entry_state i) (settled (slot_at entry_state i).paused r)

        v : Valid entry_state
        v = e₂_valid w₀ p trace s₀ fits w i at j lo on.mid

        by : Which i k → is_idle_now (slot_at (with_slot entry_state i (with_phase (slot_at entry_state i) (settled (slot_at entry_state i).paused r))) k).phase ≡ false
            → (slot_at (with_slot entry_state i (with_phase (slot_at entry_state i) (settled (slot_at entry_state i).paused r))) k).paused
            ≡ (if ciap then true else paused_at w₀ k && not (ends k))
        by (this q) =
            rw (q, slot_this i j.slot_is v s) (λ _. paused_entry ciap i j.slot_is (ap is_idle_now (in_process w₀ p trace s₀ fits w i at j lo on.mid)))
        by (that q) = rw (q, slot_that i j.slot_is v s) (paused_entry ciap (other_slot i) (other_most i))

    -- a response at once moves no flag
    at_once_moves : (f : Result (Unit {0}) Fault) (k : ℕ) → k ≤ 1
        → is_idle_now (phase_at (responded_at_once (w₂ w₀ p trace s₀ fits w i at j lo on.mid) i (command w₀ p trace s₀ fits w i at j lo on.mid) f) k) ≡ false
        → paused_at (responded_at_once (w₂ w₀ p trace s₀ fits w i at j lo on.mid) i (command w₀ p trace s₀ fits w i at j lo on.mid) f) k
        ≡ (if ciap then true else paused_at w₀ k && not (ends k))
    unfolding responded
    at_once_moves (Ok none) k ks n = paused_entry ciap k ks n
    at_once_moves (Err fault) k ks n = answered_moves k ks (response_to (command w₀ p trace s₀ fits w i at j lo on.mid) (fault_body (Err fault))) n

  enter : (w : World) (i at : ℕ) → Joining w₀ p w i at → smallest ≤ at + length (payload_of p) → check_right (whole w₀ p w i at) ≡ true → On w
      → Moves (outcome 1 (entered (filled w₀ p w i at) i (grown w₀ p at) (message_header (whole w₀ p w i at))))
  unfolding entered
  enter w i at j lo _ on k ks n =
      rw (ciap_is w i at j on) (at_once_moves w i at j lo on (command_fault (message_header (whole w₀ p w i at)) (at + length (payload_of p))) k ks n)

  -- ---- a control primitive that is neither Pause nor Resume

  module _ (no_pause : is_primitive 0 w₀.endpoint.eid p ≡ false) (no_resume : is_primitive 1 w₀.endpoint.eid p ≡ false) where
    replay_moves : (w : World) → On w → (i : ℕ) → i ≤ 1 → (k : ℕ) → k ≤ 1 → is_idle_now (slot_at (replay w.endpoint i).endpoint k).phase ≡ false
        → (slot_at (replay w.endpoint i).endpoint k).paused ≡ flag_by 2 k
    unfolding replay
    replay_moves w on i is k ks = by (held_in (phase_at w i)) refl
      where
        by : (x : Option Response) → held_in (phase_at w i) ≡ x → is_idle_now (slot_at (replayed w.endpoint i x).endpoint k).phase ≡ false
            → (slot_at (replayed w.endpoint i x).endpoint k).paused ≡ flag_by 2 k
        by None e = unmoved 2 (omega arith) w on k ks (slot_at w.endpoint k) refl (λ q. q)
        by (Some r) e = one_moves w on i 2 is (omega arith) (with_phase (slot_at w.endpoint i) (Transmit (outgoing r 0))) (λ _. (refl, λ q. held_not (sym q ∙ held_idle (phase_at w i) r e))) k ks

    primitive_moves : (w : World) → On w → (opcode i : ℕ) (clear : Bool) → i ≤ 1 → (eqb opcode 0 ≡ true → ⊥) → (eqb opcode 1 ≡ true → ⊥)
        → (k : ℕ) → k ≤ 1 → is_idle_now (slot_at (primitive w.endpoint opcode i clear).endpoint k).phase ≡ false
        → (slot_at (primitive w.endpoint opcode i clear).endpoint k).paused ≡ flag_by 2 k
    unfolding primitive abort clear_flags
    primitive_moves w on opcode i clear is a b k ks =
        if_ind Kept (eqb opcode 0) (λ e. absurd (a e))
        (λ _.
        if_ind Kept (eqb opcode 1) (λ e. absurd (b e))
        (λ _.
        if_ind Kept (eqb opcode 2) (λ _. one_moves w on i 2 is (omega arith) (idled (slot_at w.endpoint i)) (λ x. false_true (sym x)) k ks)
        (λ _.
        if_ind Kept (eqb opcode 3)
        (λ _.
        if_ind (λ (f : Endpoint). is_idle_now (slot_at f k).phase ≡ false → (slot_at f k).paused ≡ flag_by 2 k) clear
        (λ _. one_moves w on i 2 is (omega arith) (with_busy (slot_at w.endpoint i) false) (λ _. (refl, λ q. q)) k ks)
        (λ _. unmoved 2 (omega arith) w on k ks (slot_at w.endpoint k) refl (λ q. q)))
        (λ _. replay_moves w on i is k ks))))
      where
        Kept : Acted → Type 0
        Kept x = is_idle_now (slot_at x.endpoint k).phase ≡ false → (slot_at x.endpoint k).paused ≡ flag_by 2 k

    control : (w : World) → Controls w₀ p → On w → Moves (outcome 2 (with_endpoint w (controlled w.endpoint (fields p) (message_header (payload_of p)) (payload_of p))))
    unfolding controlled
    control w c on k ks = go (control_fault (message_header (payload_of p)) (opcode_of (payload_of p)) (no_parameter (payload_of p))) refl
      where
        other : (n : ℕ) → is_primitive n w₀.endpoint.eid p ≡ false → control_fault (message_header (payload_of p)) (opcode_of (payload_of p)) (no_parameter (payload_of p)) ≡ Ok tt
            → eqb (opcode_of (payload_of p)) n ≡ true → ⊥
        other n absent f e =
            let q : opcode_of (payload_of p) ≡ n = eqb-true (opcode_of (payload_of p)) n e in
            false_true (sym absent ∙ sym (ap (λ (x : ℕ). is_primitive x w₀.endpoint.eid p) q) ∙ is_primitive_lem w₀ p c f)

        go : (f : Result (Unit {0}) Fault) → control_fault (message_header (payload_of p)) (opcode_of (payload_of p)) (no_parameter (payload_of p)) ≡ f
            → is_idle_now (slot_at (controlled_by w.endpoint (fields p) (message_header (payload_of p)).csi (payload_of p) f) k).phase ≡ false
            → (slot_at (controlled_by w.endpoint (fields p) (message_header (payload_of p)).csi (payload_of p) f) k).paused ≡ flag_by 2 k
        go (Ok none) e =
            primitive_moves w on (opcode_of (payload_of p)) (message_header (payload_of p)).csi (clears_flags (payload_of p)) (csi_most (payload_of p)) (other 0 no_pause e) (other 1 no_resume e) k ks
        go (Err fault) e = unmoved 2 (omega arith) w on k ks (slot_at w.endpoint k) refl (λ q. q)

    the_walk : Walk w₀ p On Moves
    the_walk =
        record {
          sound = λ w on. on.mid.sound;
          unread = λ n lo _. unread n (omega arith);
          refusing = λ w n k on. refuse w n (ground_least k) on;
          busying = busying;
          dropping = dropping;
          failing = failing;
          gaining = λ w i at j _ lo m. gain w i at j lo m;
          entering = λ w i at j _ lo right m. enter w i at j lo right m;
          controlling = control;
        }

    pub received_moves : Moves (received w₀ p)
    received_moves = walked w₀ p On Moves the_walk s₀ start_on ended_on

  -- ---- Pause and Resume

  -- what is to be shown of slot j, of what receiving answers and leaves
  abbrev Told : ℕ → Outcome → Type 0
  Told j o =
      paused_at o.world j
      ≡ flag_after (phase_at o.world j) (is_primitive 0 w₀.endpoint.eid p || (eqb o.answer 1 && ciaps)) (is_primitive 1 w₀.endpoint.eid p)
      (paused_at w₀ j && not (ltb o.answer 2 && ends j))

  facts_after : (j : ℕ) → j ≤ 1 → PhaseFacts (received w₀ p).world.endpoint.unit (paused_at (received w₀ p).world j) (phase_at (received w₀ p).world j)
  facts_after j js = facts_at j js (received_sound w₀ p s₀).state

  -- slot j after a primitive that acts
  slot_after : (opcode : ℕ) (few : opcode ≤ 3) → is_primitive opcode w₀.endpoint.eid p ≡ true → (j : ℕ) → j ≤ 1
      → slot_at (received w₀ p).world.endpoint j ≡ acted_on (bytes_from4 p) j (slot_found w₀ p j)
  slot_after opcode few h j js = let a = acts opcode few w₀ p s₀ h in a.0.slots_are j js ∙ rw a.1 refl

  pause_told : is_primitive 0 w₀.endpoint.eid p ≡ true → (j : ℕ) → j ≤ 1 → Told j (received w₀ p)
  pause_told h j js = rw h (by (slot_found w₀ p j) (slot_at (received w₀ p).world.endpoint j) (slot_after 0 (omega arith) h j js ∙ rw (acts 0 (omega arith) w₀ p s₀ h).2 refl))
    where
      by : (s t : Slot) → t ≡ slot s.ticket (not (is_idle_now s.phase)) s.busy s.phase → t.paused ≡ (if is_idle_now t.phase then false else true)
      by s t e = rw e (opposite (is_idle_now s.phase))
        where
          opposite : (b : Bool) → not b ≡ (if b then false else true)
          opposite true = refl
          opposite false = refl

  -- a packet is not both
  not_both : is_primitive 1 w₀.endpoint.eid p ≡ true → is_primitive 0 w₀.endpoint.eid p ≡ false
  not_both h = by (is_primitive 0 w₀.endpoint.eid p) refl
    where
      by : (x : Bool) → is_primitive 0 w₀.endpoint.eid p ≡ x → x ≡ false
      by true e = absurd (omega (arith, (acting 0 w₀.endpoint.eid p e).opcode_is, (acting 1 w₀.endpoint.eid p h).opcode_is))
      by false e = refl

  resume_told : is_primitive 1 w₀.endpoint.eid p ≡ true → (j : ℕ) → j ≤ 1 → Told j (received w₀ p)
  resume_told h j js =
      let two : (received w₀ p).answer ≡ 2 = eqb-true (received w₀ p).answer 2 (primitive_done w₀ p s₀ ∙ (acting 1 w₀.endpoint.eid p h).whole) in
      let clear : paused_at (received w₀ p).world j ≡ false = ap (λ (s : Slot). s.paused) (slot_after 1 (omega arith) h j js) ∙ rw (acts 1 (omega arith) w₀ p s₀ h).2 refl in
      rw (not_both h, h) (clear ∙ sym (cleared (is_idle_now (phase_at (received w₀ p).world j)) (eqb (received w₀ p).answer 1) (ap (λ (n : ℕ). eqb n 1) two)))
    where
      cleared : (x y : Bool) → y ≡ false → (if x then false else if y && ciaps then true else false) ≡ false
      cleared true y e = refl
      cleared false y e = rw e refl

  other_told : is_primitive 0 w₀.endpoint.eid p ≡ false → is_primitive 1 w₀.endpoint.eid p ≡ false → (j : ℕ) → j ≤ 1 → Told j (received w₀ p)
  other_told a b j js =
      rw (a, b) (unless_idle (received w₀ p).world.endpoint.unit (slot_at (received w₀ p).world.endpoint j) (flag_by (received w₀ p).answer j) (facts_after j js) (received_moves a b j js))

  pub received_told : (j : ℕ) → j ≤ 1 → Told j (received w₀ p)
  received_told j js = by (is_primitive 0 w₀.endpoint.eid p) refl (is_primitive 1 w₀.endpoint.eid p) refl
    where
      by : (x : Bool) → is_primitive 0 w₀.endpoint.eid p ≡ x → (y : Bool) → is_primitive 1 w₀.endpoint.eid p ≡ y → Told j (received w₀ p)
      by true e y f = pause_told e j js
      by false e true f = resume_told f j js
      by false e false f = other_told e f j js

-- ---- every call

-- a call that is not receiving
quiet_told : (w f : World) → Sound f → Flagged w.endpoint f.endpoint → (j : ℕ) → j ≤ 1 → paused_at f j ≡ flag_after (phase_at f j) false false (paused_at w j && not false)
quiet_told w f s k j js =
    unless_idle f.endpoint.unit (slot_at f.endpoint j) (paused_at w j && not false) (facts_at j js s.state) (λ n. k j js n ∙ sym (and_true (paused_at w j)))

flags_so : (h : History) → Good h → (c : Call) (i : ℕ) → i ≤ 1
    → paused_at (step c h.world).world i
    ≡ flag_after (phase_at (step c h.world).world i) (pauses c h (step c h.world).event) (resumes c h)
    (paused_at h.world i && not (restarts i c h.world (step c h.world).event))
unfolding step
flags_so h g (receive p) i is = received_told h.world p h.trace g.sound g.fits i is
flags_so h g (take! j) i is = quiet_told h.world _ (step_sound (take! j) h.world g.sound) (touched_flagged h.world.endpoint (taken h.world.endpoint j).endpoint (take_touches h.world.endpoint g.sound.state j)) i is
flags_so h g (read j) i is = quiet_told h.world _ (step_sound (read j) h.world g.sound) (λ k ks _. refl) i is
flags_so h g (complete j t body) i is =
    quiet_told h.world _ (step_sound (complete j t body) h.world g.sound) (touched_flagged h.world.endpoint (completed h.world j t body).world.endpoint (complete_touches h.world g.sound.state j t body)) i is
flags_so h g (declare j t can) i is =
    quiet_told h.world _ (step_sound (declare j t can) h.world g.sound) (touched_flagged h.world.endpoint (was_declared h.world.endpoint j t can).endpoint (declare_touches h.world.endpoint g.sound.state j t can)) i is
flags_so h g (poll buffer) i is = quiet_told h.world _ (step_sound (poll buffer) h.world g.sound) (poll_flagged h.world g.sound buffer) i is
flags_so h g (timeout j) i is = quiet_told h.world _ (step_sound (timeout j) h.world g.sound) (touched_flagged h.world.endpoint (timed_out h.world.endpoint j).endpoint (timeout_touches h.world.endpoint g.sound.state j)) i is
flags_so h g reset i is = quiet_told h.world _ (step_sound reset h.world g.sound) (reset_flagged h.world.endpoint) i is

pub flags_move : FlagsMove
flags_move eid unit store0 store1 a b xs c i is = flags_so (run xs (start eid unit store0 store1)) (good_every eid unit store0 store1 a b xs) c i is
