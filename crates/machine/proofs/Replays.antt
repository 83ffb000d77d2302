-- What an Idle slot holds: what it is, how it comes and goes, and what a Replay makes of it.
-- Assumes nothing.
use Prim.Native.Nat.{ℕ, ◌+◌, ◌-◌, ◌%◌, ◌≤◌}
use mathlib.Core.Path.{◌≡◌, refl, sym, ap, ◌∙◌}
use mathlib.Core.Bool.{Bool, true, false, not, ◌&&◌, ◌||◌, and-false}
use mathlib.Core.List.{List, []}
use native.Mathlib.Nat.{sub-zero}
use native.Mathlib.Omega.{arith}
use lib.Dec.{eqb, ltb}
use lib.ListN.{length}
use borrow.Author.Tests.{eq-eqb, ne_eqb, eqb-true, eqb-false, ltb-false, not-true, not-false}
use Rattle.std.specs.Prelude.{Result, Ok, Err, Option, None, Some, if◌then◌else◌}
use Rattle.lent.specs.Bytes.{byte_at, is_set}
use Rattle.std.proofs.lemmas.Bool.{and_parts}
use Rattle.lent.proofs.Choice.{if_ind, false_true}
use Rattle.mctp.specs.Header.{fields, payload_of}
use Rattle.nvme_mi.specs.Message.{message_header, command_fault, smallest}
use Rattle.nvme_mi.specs.Response.{fault_body}
use Rattle.nvme_mi.specs.declared.Fault.{Fault}
use Rattle.machine.specs.State.{World, Outcome, outcome, slot_at, store_at, held_in, with_slot, with_endpoint, on_slot, with_phase, with_busy, idled, packet_sent, settled, reply_message}
use Rattle.machine.specs.Process.{response_to, responded, responded_at_once, entered}
use Rattle.machine.specs.Receive.{refused, refused_busy, dropped, gathers, ended_slot, end_assembly, received}
use Rattle.machine.specs.Finish.{is_receive}
use Rattle.machine.specs.Poll.{other_slot, command_packet, is_last, after_packet}
use Rattle.machine.specs.Valid.{PhaseFacts, Valid, Sound}
use Rattle.machine.specs.Calls.{Call, receive, take!, read, complete, declare, poll, timeout, reset, number, handed_out, Stepped, stepped, step}
use Rattle.machine.specs.History.{Trace, History, source_of, message_tag_of, kind_of, receives_from, is_for, phase_at, bytes_from4, is_transmit, sending, moved, is_control, is_primitive, is_abort, next, run, start, unit_of, over_unit}
use Rattle.machine.specs.Demands.{most_polls}
use Rattle.machine.specs.Refusals.{is_command}
use Rattle.machine.specs.Replies.{csi_of, no_cpsp, wrong_replay, is_error, slot_found, holds_one, cpsr_of, unpaused, sent_again, acted_on, reply_of, Replied}
use Rattle.machine.specs.Replays.{held_at, response_of, is_stored, is_replay, held_after, HeldIs, HeldMoves, SentAgain, ReplaySends, ReplayArrives}
use Rattle.machine.specs.Types.{Response, Outgoing, Phase, Idle, Receive, Process, Answered, Transmit, Slot, Endpoint}
use Rattle.machine.proofs.Slots.{held_idle, facts_at, other_most}
use Rattle.machine.proofs.Receiving.{is_command_lem, Joining, filled, grown, whole, Ground, in_table, of_control, of_no_slot, Busy, Gathering, Break, in_sequence, in_size, in_total, Walk, walked, receives_gathers}
use Rattle.machine.proofs.Places.{Which, this, that, which, slot_this, slot_that, slot_both}
use Rattle.machine.proofs.Touches.{Touched, alone, handed, fixed, ended as ended_by_timeout, take_touches, complete_touches, declare_touches, timeout_touches}
use Rattle.machine.proofs.Fits.{Fit, Full, Going, goes, quiet_begins}
use Rattle.machine.proofs.Carried.{Mid, for_this, for_that, command, e₂, w₂, e₂_valid, in_process, that_phase, start_mid, ended_mid}
use Rattle.machine.proofs.Primitives.{acting}
use Rattle.machine.proofs.Keeps.{Chosen, chosen_at}
use Rattle.machine.proofs.Polling.{PollCase, still, replies, sends, poll_case, moved_same}
use Rattle.machine.proofs.Histories.{Good, good_next, good_every, next_unit}
use Rattle.machine.proofs.Delivery.{last_by, is_last_lem, not_last, mute, sending_phase}
use Rattle.machine.proofs.Arrives.{goes_out, receive_uncounted}
use Rattle.machine.proofs.Replies.{primitive_done, control_replied, acts, acts_so, cut_idle}

-- ---- what a slot that is not Idle holds

gathers_none : (source tag : ℕ) (p : Phase) → gathers source tag p ≡ true → held_in p ≡ None
gathers_none source tag (Idle held) h = false_true h
gathers_none source tag (Receive a) h = refl
gathers_none source tag (Process r) h = refl
gathers_none source tag (Answered r) h = refl
gathers_none source tag (Transmit r) h = refl

settled_none : (b : Bool) (r : Response) → held_in (settled b r) ≡ None
settled_none true r = refl
settled_none false r = refl

-- ---- receiving

module _ (w₀ : World) (p : List ℕ) (trace : ℕ → Trace) (s₀ : Sound w₀)
    (fits : (j : ℕ) → j ≤ 1 → Fit w₀.endpoint.unit (slot_at w₀.endpoint j) (store_at w₀ j) (trace j)) where
  -- on the way each slot holds what it held
  record On (w : World) : Type 0 where
    mid : Mid w₀ p trace s₀ fits w
    helds : (j : ℕ) → j ≤ 1 → held_at w j ≡ held_at w₀ j

  -- after answer n
  abbrev held_by : ℕ → ℕ → Option Response
  held_by n j = if is_stored j p w₀ n then None else held_at w₀ j

  abbrev Holds : Outcome → Type 0
  Holds o = (o.answer ≡ 2 → ⊥) → (j : ℕ) → j ≤ 1 → held_at o.world j ≡ held_by o.answer j

  -- a packet that is not stored
  unstored : (j n : ℕ) → 2 ≤ n → (eqb n 19 && is_command p) ≡ false → is_stored j p w₀ n ≡ false
  unstored j n lo e = rw (ne_eqb n 0 (λ q. omega arith), ne_eqb n 1 (λ q. omega arith), e) (and-false (is_for j p w₀))

  other_number : (n : ℕ) → (n ≡ 19 → ⊥) → (eqb n 19 && is_command p) ≡ false
  other_number n k = rw (ne_eqb n 19 k) refl

  -- one that is for the other slot
  not_for : (j n : ℕ) → is_for j p w₀ ≡ false → is_stored j p w₀ n ≡ false
  not_for j n e = rw e refl

  unchanged : (w : World) → On w → (j n : ℕ) → j ≤ 1 → is_stored j p w₀ n ≡ false → held_at w j ≡ held_by n j
  unchanged w on j n js e = rw e (on.helds j js)

  -- only slot i changes
  one_holds : (w : World) → On w → (i n : ℕ) → i ≤ 1 → (s : Slot) → held_in s.phase ≡ held_by n i → is_stored (other_slot i) p w₀ n ≡ false
      → (j : ℕ) → j ≤ 1 → held_in (slot_at (with_slot w.endpoint i s) j).phase ≡ held_by n j
  one_holds w on i n is s own other j js = at (which i j is js)
    where
      v : Valid w.endpoint
      v = on.mid.sound.state

      at : Which i j → held_in (slot_at (with_slot w.endpoint i s) j).phase ≡ held_by n j
      at (this q) = rw (q, slot_this i is v s) own
      at (that q) = rw (q, slot_that i is v s) (unchanged w on (other_slot i) n (other_most i) other)

  refusing : (w : World) (n : ℕ) → Ground w₀ p n → On w → Holds (refused w n)
  unfolding refused
  refusing w n (in_table _ lo hi) on _ j js = unchanged w on j n js (unstored j n (omega arith) (other_number n (λ q. omega arith)))
  refusing w _ (of_control som kind) on _ j js = unchanged w on j 19 js (unstored j 19 (omega arith) (rw (som, eq-eqb (kind_of (bytes_from4 p)) 0 kind) refl))
  refusing w _ (of_no_slot _ _) on _ j js = unchanged w on j 21 js (unstored j 21 (omega arith) refl)

  busying : (w : World) (i : ℕ) → Busy w₀ p w i → On w → Holds (refused_busy w i)
  unfolding refused_busy
  busying w i b on _ =
      one_holds w on i 20 b.slot_is (with_busy (slot_at w.endpoint i) true) (unchanged w on i 20 b.slot_is (unstored i 20 (omega arith) refl)) (unstored (other_slot i) 20 (omega arith) refl)

  broken : {n : ℕ} → Break w₀ p n → (2 ≤ n) × (n ≡ 19 → ⊥)
  broken (in_sequence _) = (omega arith, λ q. omega arith)
  broken (in_size _) = (omega arith, λ q. omega arith)
  broken (in_total _) = (omega arith, λ q. omega arith)

  dropping : (w : World) (i n : ℕ) → Break w₀ p n → Gathering w₀ p w i → On w → Holds (refused (dropped w i) n)
  unfolding refused
  dropping w i n k g on _ =
      let b = broken k in
      let none : held_at w i ≡ None = rw g.gathers_it refl in
      let un : (j : ℕ) → is_stored j p w₀ n ≡ false = λ j. unstored j n b.0 (other_number n b.1) in
      one_holds w on i n g.slot_is (idled (slot_at w.endpoint i)) (sym none ∙ unchanged w on i n g.slot_is (un i)) (un (other_slot i))

  -- a command's packet that is stored: the slot that it is for holds nothing
  loses : (w : World) (i at n : ℕ) → Joining w₀ p w i at → On w → (eqb n 0 || eqb n 1 || (eqb n 19 && true)) ≡ true → held_by n i ≡ None
  loses w i at n j on e = rw (for_this w₀ p trace s₀ fits w i at on.mid j, is_command_lem w₀ p j.origin, e) refl

  other_keeps : (w : World) (i at n : ℕ) → Joining w₀ p w i at → On w → is_stored (other_slot i) p w₀ n ≡ false
  other_keeps w i at n j on = not_for (other_slot i) n (for_that w₀ p trace s₀ fits w i at on.mid j)

  failing : (w : World) (i at : ℕ) → Joining w₀ p w i at → On w → Holds (refused (dropped (filled w₀ p w i at) i) 19)
  unfolding refused
  failing w i at j on _ = one_holds w on i 19 j.slot_is (idled (slot_at w.endpoint i)) (sym (loses w i at 19 j on refl)) (other_keeps w i at 19 j on)

  gaining : (w : World) (i at : ℕ) → Joining w₀ p w i at → On w
      → Holds (outcome 0 (on_slot (filled w₀ p w i at) i (with_phase (slot_at w.endpoint i) (Receive (grown w₀ p at)))))
  gaining w i at j on _ =
      one_holds w on i 0 j.slot_is (with_phase (slot_at w.endpoint i) (Receive (grown w₀ p at))) (sym (loses w i at 0 j on refl)) (other_keeps w i at 0 j on)

  module _ (w : World) (i at : ℕ) (j : Joining w₀ p w i at) (lo : smallest ≤ at + length (payload_of p)) (on : On w) where
    abbrev entry : Endpoint
    entry = e₂ w₀ p trace s₀ fits w i at j lo on.mid

    abbrev asked : World
    asked = w₂ w₀ p trace s₀ fits w i at j lo on.mid

    here : (x : Phase) → held_in x ≡ None → held_in x ≡ held_by 1 i
    here x e = e ∙ sym (loses w i at 1 j on refl)

    there : held_in (slot_at entry (other_slot i)).phase ≡ held_by 1 (other_slot i)
    there = ap held_in (that_phase w₀ p trace s₀ fits w i at j lo on.mid) ∙ unchanged w on (other_slot i) 1 (other_most i) (other_keeps w i at 1 j on)

    waits : (k : ℕ) → k ≤ 1 → held_in (slot_at entry k).phase ≡ held_by 1 k
    waits k ks = by (which i k j.slot_is ks)
      where
        by : Which i k → held_in (slot_at entry k).phase ≡ held_by 1 k
        by (this q) = rw q (here (slot_at entry i).phase (ap held_in (in_process w₀ p trace s₀ fits w i at j lo on.mid)))
        by (that q) = rw q there

    answered : (r : Response) (k : ℕ) → k ≤ 1
        → held_in (slot_at (with_slot entry i (with_phase (slot_at entry i) (settled (slot_at entry i).paused r))) k).phase ≡ held_by 1 k
    answered r k ks = by (which i k j.slot_is ks)
      where
        s : Slot
        s = with_phase (slot_at entry i) (settled (slot_at entry i).paused r)

        v : Valid entry
        v = e₂_valid w₀ p trace s₀ fits w i at j lo on.mid

        by : Which i k → held_in (slot_at (with_slot entry i (with_phase (slot_at entry i) (settled (slot_at entry i).paused r))) k).phase ≡ held_by 1 k
        by (this q) = rw (q, slot_this i j.slot_is v s) (here (settled (slot_at entry i).paused r) (settled_none (slot_at entry i).paused r))
        by (that q) = rw (q, slot_that i j.slot_is v s) there

    at_once : (f : Result (Unit {0}) Fault) (k : ℕ) → k ≤ 1
        → held_at (responded_at_once asked i (command w₀ p trace s₀ fits w i at j lo on.mid) f) k ≡ held_by 1 k
    unfolding responded
    at_once (Ok none) k ks = waits k ks
    at_once (Err fault) k ks = answered (response_to (command w₀ p trace s₀ fits w i at j lo on.mid) (fault_body (Err fault))) k ks

  entering : (w : World) (i at : ℕ) → Joining w₀ p w i at → smallest ≤ at + length (payload_of p) → On w
      → Holds (outcome 1 (entered (filled w₀ p w i at) i (grown w₀ p at) (message_header (whole w₀ p w i at))))
  unfolding entered
  entering w i at j lo on _ k ks = at_once w i at j lo on (command_fault (message_header (whole w₀ p w i at)) (at + length (payload_of p))) k ks

  the_walk : Walk w₀ p On Holds
  unfolding refused
  the_walk =
      record {
        sound = λ w on. on.mid.sound;
        unread = λ n lo hi _ j js. unfold refused in (rw (unstored j n (omega arith) (other_number n (λ q. omega arith))) refl);
        refusing = refusing;
        busying = busying;
        dropping = dropping;
        failing = failing;
        gaining = λ w i at j _ _ on. gaining w i at j on;
        entering = λ w i at j _ lo _ on. entering w i at j lo on;
        controlling = λ w c on k. absurd (k refl);
      }

  ended_on : (fields p).som ≡ true → On (with_endpoint w₀ (end_assembly w₀.endpoint (fields p).source (fields p).tag))
  unfolding end_assembly
  ended_on som =
      record {
        mid = unfold end_assembly in (ended_mid w₀ p trace s₀ fits som);
        helds = λ j js. rw (slot_both (ended_slot (fields p).source (fields p).tag) w₀.endpoint j js) (by (slot_at w₀.endpoint j));
      }
    where
      by : (s : Slot) → held_in (ended_slot (fields p).source (fields p).tag s).phase ≡ held_in s.phase
      by s =
          if_ind (λ (x : Slot). held_in x.phase ≡ held_in s.phase) (gathers (fields p).source (fields p).tag s.phase)
          (λ g. sym (gathers_none (fields p).source (fields p).tag s.phase g)) (λ _. refl)

  pub received_holds : Holds (received w₀ p)
  received_holds = walked w₀ p On Holds the_walk s₀ (λ _. record { mid = start_mid w₀ p trace s₀ fits; helds = λ j js. refl }) ended_on

-- ---- a Replay that acts, by its bytes

record Replaying (i : ℕ) (w : World) (p : List ℕ) : Type 0 where
  for_slot : csi_of (bytes_from4 p) ≡ i
  acted : Replied w p (received w p).world × (is_error (bytes_from4 p) ≡ false) × (byte_at (bytes_from4 p) 4 ≡ 4)

replaying : (i : ℕ) (w : World) (p : List ℕ) → Sound w → is_replay i w.endpoint.eid p ≡ true → Replaying i w p
replaying i w p s h =
    let k = and_parts (is_primitive 4 w.endpoint.eid p && no_cpsp (bytes_from4 p)) (eqb (byte_at (bytes_from4 p) 1 % 2) i) h in
    let q = and_parts (is_primitive 4 w.endpoint.eid p) (no_cpsp (bytes_from4 p)) k.0 in
    record {
      for_slot = eqb-true (byte_at (bytes_from4 p) 1 % 2) i k.1;
      acted = acts_so 4 (omega arith) w p s q.0 (rw q.1 refl);
    }

-- ---- a control primitive

unpaused_holds : (p : Phase) → held_in (unpaused p) ≡ held_in p
unpaused_holds (Idle held) = refl
unpaused_holds (Receive a) = refl
unpaused_holds (Process r) = refl
unpaused_holds (Answered r) = refl
unpaused_holds (Transmit r) = refl

-- what was held is sent
sent_holds : (k : Option Response) (s : Slot) → held_in s.phase ≡ k → held_in (sent_again k s).phase ≡ None
sent_holds None s e = e
sent_holds (Some r) s e = refl

-- one that acts: Abort and Replay of the slot leave it holding nothing, and no other changes what it holds
acted_holds : (m : List ℕ) (i : ℕ) (s : Slot) → ltb 4 (byte_at m 4) ≡ false
    → held_in (acted_on m i s).phase ≡ (if (eqb (byte_at m 4) 2 || eqb (byte_at m 4) 4) && eqb (csi_of m) i then None else held_in s.phase)
acted_holds m i s known =
    if_ind After (eqb (byte_at m 4) 0) (λ z. rw (eqb-true (byte_at m 4) 0 z) refl)
    (λ not_0.
    if_ind After (eqb (byte_at m 4) 1) (λ z. rw (eqb-true (byte_at m 4) 1 z) (unpaused_holds s.phase))
    (λ not_1.
    if_ind After (not (eqb i (csi_of m))) (λ z. rw (ne_eqb (csi_of m) i (λ q. eqb-false i (csi_of m) (not-true (eqb i (csi_of m)) z) (sym q)), and-false (eqb (byte_at m 4) 2 || eqb (byte_at m 4) 4)) refl)
    (λ mine.
    let own : eqb (csi_of m) i ≡ true = eq-eqb (csi_of m) i (sym (eqb-true i (csi_of m) (not-false (eqb i (csi_of m)) mine))) in
    if_ind After (eqb (byte_at m 4) 2) (λ z. rw (z, own) refl)
    (λ not_2.
    if_ind After (eqb (byte_at m 4) 3) (λ z. rw (eqb-true (byte_at m 4) 3 z) (if_ind (λ (x : Slot). held_in x.phase ≡ held_in s.phase) (is_set (byte_at m 6) 0) (λ _. refl) (λ _. refl)))
    (λ not_3.
    let o : byte_at m 4 ≡ 4 =
    omega
    (arith, ltb-false 4 (byte_at m 4) known, eqb-false (byte_at m 4) 0 not_0, eqb-false (byte_at m 4) 1 not_1, eqb-false (byte_at m 4) 2 not_2, eqb-false (byte_at m 4) 3 not_3) in
    rw (o, own) (sent_holds (held_in s.phase) s refl))))))
  where
    After : Slot → Type 0
    After x = held_in x.phase ≡ (if (eqb (byte_at m 4) 2 || eqb (byte_at m 4) 4) && eqb (csi_of m) i then None else held_in s.phase)

-- a slot that a primitive finds holds what it held
found_holds : (w : World) (p : List ℕ) (i : ℕ) → held_in (slot_found w p i).phase ≡ held_at w i
found_holds w p i =
    if_ind (λ (x : Slot). held_in x.phase ≡ held_at w i) (receives_from (source_of p) (message_tag_of p) (phase_at w i))
    (λ r. sym (gathers_none (source_of p) (message_tag_of p) (phase_at w i) (sym (receives_gathers (source_of p) (message_tag_of p) (phase_at w i)) ∙ r))) (λ _. refl)

-- the tests that no error found
record Faultless (m : List ℕ) : Type 0 where
  no_meb : is_set (byte_at m 2) 0 ≡ false
  no_ciap : is_set (byte_at m 2) 1 ≡ false
  known : ltb 4 (byte_at m 4) ≡ false
  right : wrong_replay m ≡ false

faultless : (m : List ℕ) → is_error m ≡ false → Faultless m
faultless m e = by (is_set (byte_at m 2) 0) (is_set (byte_at m 2) 1) (ltb 4 (byte_at m 4)) (wrong_replay m) refl refl refl refl e
  where
    by : (a b c d : Bool) → is_set (byte_at m 2) 0 ≡ a → is_set (byte_at m 2) 1 ≡ b → ltb 4 (byte_at m 4) ≡ c → wrong_replay m ≡ d → (a || b || c || d) ≡ false → Faultless m
    by true b c d p q r s h = false_true (sym h)
    by false true c d p q r s h = false_true (sym h)
    by false false true d p q r s h = false_true (sym h)
    by false false false true p q r s h = false_true (sym h)
    by false false false false p q r s h = record { no_meb = p; no_ciap = q; known = r; right = s }

-- Abort and Replay by their bytes, and by their opcodes
rows : {A : Type 0} (x y : A) (a b z c : Bool) → (not z && b) ≡ false
    → (if (a && true) && c then x else if (b && true) && z && c then x else y) ≡ (if (a || b) && c then x else y)
rows x y a true false c h = false_true (sym h)
rows x y true true true true h = refl
rows x y true true true false h = refl
rows x y true false true true h = refl
rows x y true false true false h = refl
rows x y true false false true h = refl
rows x y true false false false h = refl
rows x y false true true true h = refl
rows x y false true true false h = refl
rows x y false false true true h = refl
rows x y false false true false h = refl
rows x y false false false true h = refl
rows x y false false false false h = refl

-- what slot i holds after a packet that stores nothing
abbrev unstored_held : World → List ℕ → ℕ → Option Response
unstored_held w p i = if is_abort i w.endpoint.eid p then None else if is_replay i w.endpoint.eid p then None else held_at w i

module _ (w : World) (p : List ℕ) (s : Sound w) where
  -- what an error reply answers, acts on no slot
  not_abort : is_error (bytes_from4 p) ≡ true → (i : ℕ) → is_abort i w.endpoint.eid p ≡ false
  not_abort e i = by (is_abort i w.endpoint.eid p) refl
    where
      by : (b : Bool) → is_abort i w.endpoint.eid p ≡ b → b ≡ false
      by true h =
          let k = and_parts (is_primitive 2 w.endpoint.eid p) (eqb (byte_at (bytes_from4 p) 1 % 2) i) h in
          false_true (sym (acts 2 (omega arith) w p s k.0).1 ∙ e)
      by false h = refl

  not_replay : is_error (bytes_from4 p) ≡ true → (i : ℕ) → is_replay i w.endpoint.eid p ≡ false
  not_replay e i = by (is_replay i w.endpoint.eid p) refl
    where
      by : (b : Bool) → is_replay i w.endpoint.eid p ≡ b → b ≡ false
      by true h = let k = replaying i w p s h in false_true (sym k.acted.1 ∙ e)
      by false h = refl

  control_holds : (received w p).answer ≡ 2 → (i : ℕ) → i ≤ 1 → held_at (received w p).world i ≡ unstored_held w p i
  control_holds two i is = ap (λ (x : Slot). held_in x.phase) ((control_replied w p s two).slots_are i is) ∙ by (is_error (bytes_from4 p)) refl
    where
      whole_one : is_control w.endpoint.eid p ≡ true
      whole_one = sym (primitive_done w p s) ∙ eq-eqb (received w p).answer 2 two

      by : (b : Bool) → is_error (bytes_from4 p) ≡ b → held_in (if b then slot_found w p i else acted_on (bytes_from4 p) i (slot_found w p i)).phase ≡ unstored_held w p i
      by true e = rw (not_abort e i, not_replay e i) (found_holds w p i)
      by false e =
          let f = faultless (bytes_from4 p) e in
          acted_holds (bytes_from4 p) i (slot_found w p i) f.known
          ∙ rw (whole_one, f.no_meb, f.no_ciap, found_holds w p i)
          (sym (rows None (held_at w i) (eqb (byte_at (bytes_from4 p) 4) 2) (eqb (byte_at (bytes_from4 p) 4) 4) (no_cpsp (bytes_from4 p)) (eqb (byte_at (bytes_from4 p) 1 % 2) i) f.right))

-- ---- every call

-- a packet that is no primitive aborts nothing and replays nothing
none_acts : (w : World) (p : List ℕ) → Sound w → ((received w p).answer ≡ 2 → ⊥) → (i : ℕ)
    → (is_abort i w.endpoint.eid p ≡ false) × (is_replay i w.endpoint.eid p ≡ false)
none_acts w p s n i = (by_abort (is_abort i w.endpoint.eid p) refl, by_replay (is_replay i w.endpoint.eid p) refl)
  where
    never : {A : Type 0} (opcode : ℕ) → is_primitive opcode w.endpoint.eid p ≡ true → A
    never opcode h = absurd (n (eqb-true (received w p).answer 2 (primitive_done w p s ∙ (acting opcode w.endpoint.eid p h).whole)))

    by_abort : (b : Bool) → is_abort i w.endpoint.eid p ≡ b → b ≡ false
    by_abort true h = never 2 (and_parts (is_primitive 2 w.endpoint.eid p) (eqb (byte_at (bytes_from4 p) 1 % 2) i) h).0
    by_abort false h = refl

    by_replay : (b : Bool) → is_replay i w.endpoint.eid p ≡ b → b ≡ false
    by_replay true h =
        never 4
        (and_parts (is_primitive 4 w.endpoint.eid p) (no_cpsp (bytes_from4 p))
        (and_parts (is_primitive 4 w.endpoint.eid p && no_cpsp (bytes_from4 p)) (eqb (byte_at (bytes_from4 p) 1 % 2) i) h).0).0
    by_replay false h = refl

receive_holds : (h : History) → Good h → (p : List ℕ) (i : ℕ) → i ≤ 1
    → held_at (received h.world p).world i ≡ (if is_stored i p h.world (received h.world p).answer then None else unstored_held h.world p i)
receive_holds h g p i is = by (eqb (received h.world p).answer 2) refl
  where
    by : (b : Bool) → eqb (received h.world p).answer 2 ≡ b
        → held_at (received h.world p).world i ≡ (if is_stored i p h.world (received h.world p).answer then None else unstored_held h.world p i)
    by true e =
        let two : (received h.world p).answer ≡ 2 = eqb-true (received h.world p).answer 2 e in
        rw (unstored h.world p h.trace g.sound g.fits i (received h.world p).answer (omega (arith, two)) (other_number h.world p h.trace g.sound g.fits (received h.world p).answer (λ q. omega (arith, two))))
        (control_holds h.world p g.sound two i is)
    by false e =
        let other = eqb-false (received h.world p).answer 2 e in
        let none = none_acts h.world p g.sound other i in
        rw (none.0, none.1) (received_holds h.world p h.trace g.sound g.fits other i is)

-- taking, completing and a timeout
touched_holds : {s t : Slot} → Touched s t → held_in t.phase ≡ held_in s.phase
touched_holds (alone q) = ap (λ (x : Slot). held_in x.phase) q
touched_holds (handed r can p q) = rw (q, p) refl
touched_holds {s} (fixed r x p q) = rw (q, p) (settled_none s.paused x)
touched_holds {s} (ended_by_timeout p q) = rw q (sym (receive_none s.phase p))
  where
    receive_none : (p : Phase) → is_receive p ≡ true → held_in p ≡ None
    receive_none (Idle held) h = false_true h
    receive_none (Receive a) h = refl
    receive_none (Process r) h = refl
    receive_none (Answered r) h = refl
    receive_none (Transmit r) h = refl

-- a response that is there is the one for the slot's ticket
full_is : (r : Response) (store : List ℕ) (l : Trace) → Full r store l → r ≡ record { requester = l.requester; tag = l.tag; length = length l.response }
full_is r store l f =
    ap (λ (x : ℕ). record { requester = x; tag = r.tag; length = r.length }) f.to
    ∙ ap (λ (x : ℕ). record { requester = l.requester; tag = x; length = r.length }) f.under
    ∙ ap (λ (x : ℕ). record { requester = l.requester; tag = l.tag; length = x }) (sym f.size)

-- a poll: the slot whose last packet went holds its response
poll_holds : (i : ℕ) → i ≤ 1 → (buffer : List ℕ) (h : History) → Good h
    → held_at (step (poll buffer) h.world).world i ≡ (if last_by i (poll buffer) h (step (poll buffer) h.world) then Some (response_of h i) else held_at h.world i)
poll_holds i is buffer h g = by (poll_case h.world buffer g.sound)
  where
    Holds : Stepped → Type 0
    Holds s = held_at s.world i ≡ (if last_by i (poll buffer) h s then Some (response_of h i) else held_at h.world i)

    -- the slot did not move
    unmoved : (q : Phase) → q ≡ phase_at h.world i → (x : Bool) → held_in q ≡ (if moved (phase_at h.world i) q && x then Some (response_of h i) else held_at h.world i)
    unmoved q e x = rw (e, moved_same (phase_at h.world i)) refl

    -- slot i's own packet
    own_holds : (r : Outgoing) → phase_at h.world i ≡ Transmit r
        → Holds (stepped (handed_out (command_packet h.world i r)) (with_endpoint h.world (packet_sent (with_slot h.world.endpoint i (after_packet h.world.endpoint.unit (slot_at h.world.endpoint i) r)) (other_slot i))))
    own_holds r t = go (is_last h.world.endpoint.unit r) refl
      where
        after : held_in (slot_at (with_slot h.world.endpoint i (after_packet h.world.endpoint.unit (slot_at h.world.endpoint i) r)) i).phase ≡ held_in (after_packet h.world.endpoint.unit (slot_at h.world.endpoint i) r).phase
        after = ap (λ (s : Slot). held_in s.phase) (slot_this i is g.sound.state (after_packet h.world.endpoint.unit (slot_at h.world.endpoint i) r))

        going : Going h.world.endpoint.unit r (store_at h.world i) (h.trace i)
        going = rw t at (g.fits i is).phase_fits

        go : (b : Bool) → is_last h.world.endpoint.unit r ≡ b
            → Holds (stepped (handed_out (command_packet h.world i r)) (with_endpoint h.world (packet_sent (with_slot h.world.endpoint i (after_packet h.world.endpoint.unit (slot_at h.world.endpoint i) r)) (other_slot i))))
        go true e = rw (is_last_lem i is buffer h g r t e) (after ∙ rw e (ap Some (full_is r.response (store_at h.world i) (h.trace i) going.full)))
        go false e = rw (not_last i is buffer h g r t e) (after ∙ rw (e, t) refl)

    by : {s : Stepped} → PollCase h.world buffer s → Holds s
    by (still n _) = refl
    by (replies _ _ _) = rw (moved_same (phase_at h.world i)) refl
    by (sends k q c _) = at (which k i (chosen_at h.world.endpoint g.sound.state c).slot_is is)
      where
        picked : Chosen h.world.endpoint k q
        picked = chosen_at h.world.endpoint g.sound.state c

        at : Which k i
            → Holds (stepped (handed_out (command_packet h.world k q)) (with_endpoint h.world (packet_sent (with_slot h.world.endpoint k (after_packet h.world.endpoint.unit (slot_at h.world.endpoint k) q)) (other_slot k))))
        at (this e) = rw (sym e) (own_holds q (rw (sym e) at picked.sends))
        at (that e) =
            let mine : (slot_at (with_slot h.world.endpoint k (after_packet h.world.endpoint.unit (slot_at h.world.endpoint k) q)) i).phase ≡ phase_at h.world i =
            rw e (ap (λ (s : Slot). s.phase) (slot_that k picked.slot_is g.sound.state (after_packet h.world.endpoint.unit (slot_at h.world.endpoint k) q))) in
            unmoved _ mine _

moves : (h : History) → Good h → (c : Call) (i : ℕ) → i ≤ 1 → held_at (step c h.world).world i ≡ held_after i c h
unfolding step next
moves h g (receive p) i is = receive_holds h g p i is
moves h g (take! j) i is =
    rw ((mute (take! j) h.world refl).no_packet (phase_at h.world i) (phase_at (step (take! j) h.world).world i))
    (touched_holds (take_touches h.world.endpoint g.sound.state j i is))
moves h g (read j) i is = refl
moves h g (complete j t body) i is = touched_holds (complete_touches h.world g.sound.state j t body i is)
moves h g (declare j t can) i is = touched_holds (declare_touches h.world.endpoint g.sound.state j t can i is)
moves h g (poll buffer) i is = poll_holds i is buffer h g
moves h g (timeout j) i is = touched_holds (timeout_touches h.world.endpoint g.sound.state j i is)
moves h g reset i is = ap held_in (cut_idle reset h.world g.sound i is refl)

pub held_moves : HeldMoves
held_moves eid unit store0 store1 a b xs c i is = moves (run xs (start eid unit store0 store1)) (good_every eid unit store0 store1 a b xs) c i is

-- ---- what is held

pub held_is : HeldIs
held_is eid unit store0 store1 a b xs i is r e =
    let h = run xs (start eid unit store0 store1) in
    let g = good_every eid unit store0 store1 a b xs in
    let idle = held_idle (phase_at h.world i) r e in
    let full : Full r (store_at h.world i) (h.trace i) = rw idle at (g.fits i is).phase_fits in
    let facts : PhaseFacts (unit_of h.world) (slot_at h.world.endpoint i).paused (Idle (Some r)) = rw idle at (facts_at i is g.sound.state) in
    record { response_is = full_is r (store_at h.world i) (h.trace i) full; least = facts.1.least; most = facts.1.most; lies = full.held }

-- ---- a Replay of a slot that holds a response

module _ (h : History) (g : Good h) (p : List ℕ) (i : ℕ) (is : i ≤ 1) (acted : is_replay i h.world.endpoint.eid p ≡ true) (r : Response)
    (e : held_at h.world i ≡ Some r) where
  replay : Replaying i h.world p
  replay = replaying i h.world p g.sound acted

  -- it is no assembly that the packet ended
  found : slot_found h.world p i ≡ slot_at h.world.endpoint i
  found = if_ind (λ (x : Slot). x ≡ slot_at h.world.endpoint i) (receives_from (source_of p) (message_tag_of p) (phase_at h.world i)) (λ k. gathering k) (λ _. refl)
    where
      gathering : {A : Type 0} → receives_from (source_of p) (message_tag_of p) (phase_at h.world i) ≡ true → A
      gathering k = false_true (ap (receives_from (source_of p) (message_tag_of p)) (sym (held_idle (phase_at h.world i) r e)) ∙ k)

  slot_after : slot_at (received h.world p).world.endpoint i ≡ sent_again (Some r) (slot_at h.world.endpoint i)
  slot_after =
      let mine : eqb i (csi_of (bytes_from4 p)) ≡ true = eq-eqb i (csi_of (bytes_from4 p)) (sym replay.for_slot) in
      replay.acted.0.slots_are i is ∙ rw (replay.acted.1, replay.acted.2, mine, found, e) refl

  two : (received h.world p).answer ≡ 2
  two =
      let k = and_parts (is_primitive 4 h.world.endpoint.eid p && no_cpsp (bytes_from4 p)) (eqb (byte_at (bytes_from4 p) 1 % 2) i) acted in
      let q = and_parts (is_primitive 4 h.world.endpoint.eid p) (no_cpsp (bytes_from4 p)) k.0 in
      eqb-true (received h.world p).answer 2 (primitive_done h.world p g.sound ∙ (acting 4 h.world.endpoint.eid p q.0).whole)

  cpsr_one : (after : World) → cpsr_of (bytes_from4 p) (slot_found h.world p (csi_of (bytes_from4 p))) h.world.endpoint.flags after ≡ 1
  cpsr_one after =
      rw replay.acted.2 (ap (λ (s : Slot). holds_one (held_in s.phase)) (ap (slot_found h.world p) replay.for_slot ∙ found) ∙ ap holds_one e)

  trace_after : (next (receive p) h).trace i ≡ sending (h.trace i) 0 []
  unfolding next step
  trace_after =
      rw two
      (quiet_begins (phase_at h.world i) (phase_at (received h.world p).world i) 2 (h.trace i)
      (ap is_transmit (held_idle (phase_at h.world i) r e)) (ap (λ (s : Slot). is_transmit s.phase) slot_after))

  pub is_sent_again : SentAgain h i p
  unfolding next step
  is_sent_again =
      record {
        done = ap number two;
        reply_is = ap reply_message replay.acted.0.reply_is ∙ ap (reply_of (bytes_from4 p)) (cpsr_one (received h.world p).world);
        in_transmit = ap (λ (s : Slot). is_transmit s.phase) slot_after;
        none_went = ap (λ (l : Trace). l.packets) trace_after;
        none_paid = ap (λ (l : Trace). l.payloads) trace_after;
        all_left =
            ap (λ (u : ℕ). over_unit u (length ((next (receive p) h).trace i).response) - ((next (receive p) h).trace i).packets) (next_unit (receive p) h g)
            ∙ ap (λ (l : Trace). over_unit (unit_of h.world) (length l.response) - l.packets) trace_after
            ∙ sub-zero (over_unit (unit_of h.world) (length (h.trace i).response));
        same_response = ap (λ (l : Trace). l.response) trace_after;
        same_requester = ap (λ (l : Trace). l.requester) trace_after;
        same_tag = ap (λ (l : Trace). l.tag) trace_after;
        no_entry = ap (λ (l : Trace). l.entries) trace_after;
        same_ticket = ap (λ (s : Slot). s.ticket) slot_after;
      }

pub replay_sends : ReplaySends
replay_sends eid unit store0 store1 a b xs p i is acted r e = is_sent_again (run xs (start eid unit store0 store1)) (good_every eid unit store0 store1 a b xs) p i is acted r e

pub replay_arrives : ReplayArrives
replay_arrives eid unit store0 store1 a b xs p i is acted r e ys =
    let h = run xs (start eid unit store0 store1) in
    let g = good_every eid unit store0 store1 a b xs in
    let s = is_sent_again h g p i is acted r e in
    let q = sending_phase (phase_at (next (receive p) h).world i) s.in_transmit in
    goes_out i (h.counted + most_polls (unit_of h.world)) (h.trace i).response is ys (next (receive p) h) (good_next (receive p) h g) (goes q.0 q.1) s.same_response
    (omega (arith, receive_uncounted h p, ap most_polls (next_unit (receive p) h g)))
