-- Taking, completing, declaring, timeout, polling and setup in document 01's numbers.
-- Assumes nothing.
use Prim.Native.Nat.{ℕ, zero, suc, ◌+◌, ◌^◌, ◌≤◌}
use mathlib.Core.Path.{◌≡◌, refl, sym, ap, ◌∙◌}
use mathlib.Core.Bool.{Bool, true, false, not, ◌&&◌, ◌||◌, or-true}
use mathlib.Core.List.{List, [], ◌∷◌, ◌++◌}
use native.Mathlib.Omega.{arith}
use lib.Dec.{eqb, ltb}
use lib.ListN.{length, take, drop}
use lib.Seq.{take-append_seam}
use borrow.Author.Tests.{ltb-true, ltb-false, lt-ltb, le-ltb, eqb-true}
use Rattle.lent.proofs.Choice.{if_ind, differ}
use Rattle.std.specs.Prelude.{Option, None, Some, Result, Ok, Err, if◌then◌else◌}
use Rattle.std.specs.Option.{is_some}
use Rattle.mctp.specs.Setup.{setup_refusal, setup_number}
use Rattle.mctp.proofs.Laws.{setup_numbers as so}
use Rattle.machine.specs.State.{World, outcome, ended, slot_at, with_slot, idled}
use Rattle.machine.specs.Wire.{wrong_stores}
use Rattle.machine.specs.Finish.{is_slot, taken_row, taken_from, taken, take_says, is_present, presented_row, presented_in, presented, completed_by, completed, declared_by, was_declared, is_receive, timed_out, was_set_up}
use Rattle.machine.specs.Process.{responded}
use Rattle.machine.specs.Receive.{raised}
use Rattle.machine.specs.Poll.{Polled, polled_to, poll_says, chosen, ready, reply_first, control_packet, command_packet, sent_control, sent_command, polled_by, polled}
use Rattle.machine.specs.Valid.{phased, Valid}
use Rattle.machine.specs.Calls.{poll_event, step}
use Rattle.machine.specs.History.{phase_at, paused_at, is_transmit, unit_of}
use Rattle.machine.specs.Numbers.{is_taken, take_numbers, TakeNumbers, ticket_in, ticket_number, right_sizes, CompleteNumbers, DeclareNumbers, is_receiving, timeout_number, TimeoutNumbers, is_command_ready, poll_number, length_out, PollNumbers, SetUp, SetupNumbers}
use Rattle.machine.specs.Types.{Ticket, Taking, Untaken, Taken, Request, Outgoing, Phase, Idle, Receive, Process, Answered, Transmit, Reply, Endpoint}
use Rattle.machine.proofs.Cases.{unmatched_not, ticket_cases}
use Rattle.machine.proofs.Keeps.{chosen_at}
use Rattle.machine.proofs.Delivery.{chosen_some, sending_phase}

-- a slot above 1
slot_one : (i : ℕ) (b : Bool) → is_slot i ≡ b → ltb 1 i ≡ not b
slot_one i true h = le-ltb 1 i (omega (arith, ltb-true i 2 h))
slot_one i false h = lt-ltb 1 i (omega (arith, ltb-false i 2 h))

-- ---- taking

pub take_numbers_lem : TakeNumbers
unfolding taken
take_numbers_lem e i = by (is_slot i) refl
  where
    row : (r : Request) (t : Taking) → take_says (taken_row e i r t).answer ≡ (if is_taken t then (33, []) else (0, (slot_at e i).ticket.0 ∷ []))
    row r Untaken = refl
    row r (Taken can) = refl

    from : (p : Phase) → take_says (taken_from e i p).answer
        ≡ phased (31, []) (λ a. (31, [])) (λ r. if is_taken r.taking then (33, []) else (0, (slot_at e i).ticket.0 ∷ [])) (λ r. (31, [])) (λ r. (31, [])) p
    from (Idle held) = refl
    from (Receive a) = refl
    from (Process r) = row r r.taking
    from (Answered r) = refl
    from (Transmit r) = refl

    by : (b : Bool) → is_slot i ≡ b → take_says (taken e i).answer ≡ take_numbers e i
    by true h = unfold taken in (rw (h, slot_one i true h) (from (slot_at e i).phase))
    by false h = unfold taken in (rw (h, slot_one i false h) refl)

-- ---- a ticket that is presented

abbrev said : Result Request ℕ → ℕ
said (Err n) = n
said (Ok r) = 0

said_is : (e : Endpoint) (i : ℕ) (t : Ticket) → said (presented e i t) ≡ ticket_number e i t
unfolding presented
said_is e i t = slots (is_slot i) refl
  where
    row : (r : Request) (u : Taking) → said (presented_row r u) ≡ (if not (is_taken u) then 34 else 0)
    row r Untaken = refl
    row r (Taken can) = refl

    into : (p : Phase) → said (presented_in t (slot_at e i) p) ≡ ticket_in (slot_at e i).ticket.0 t p
    into (Idle held) = refl
    into (Receive a) = refl
    into (Process r) = mine (is_present t (slot_at e i))
      where
        mine : (b : Bool) → said (if not b then Err 32 else presented_row r r.taking) ≡ (if not b then 32 else if not (is_taken r.taking) then 34 else 0)
        mine true = row r r.taking
        mine false = refl
    into (Answered r) = refl
    into (Transmit r) = refl

    slots : (b : Bool) → is_slot i ≡ b → said (if not b then Err 30 else presented_in t (slot_at e i) (slot_at e i).phase) ≡ ticket_number e i t
    slots true h = rw (slot_one i true h) (into (slot_at e i).phase)
    slots false h = rw (slot_one i false h) refl

-- ---- completing

pub wrong_sizes : (w : World) → wrong_stores w ≡ not (right_sizes w)
wrong_sizes w = by (eqb (length w.store0) 4224) (eqb (length w.store1) 4224)
  where
    by : (a b : Bool) → (not a || not b) ≡ not (a && b)
    by true b = refl
    by false b = refl

pub complete_numbers : CompleteNumbers
unfolding completed
complete_numbers w i t body = rw (wrong_sizes w, sym (said_is w.endpoint i t)) (stores (not (right_sizes w)))
  where
    size : (r : Request) (b : Bool) → (if not (not b) then outcome 35 w else outcome 0 (responded w i r body)).answer ≡ (if b then 35 else 0)
    size r true = refl
    size r false = refl

    By : Result Request ℕ → Type 0
    By x = (completed_by w i body x).answer ≡ (if not (eqb (said x) 0) then said x else if ltb (length body) 4 || ltb 4216 (length body) then 35 else 0)

    stores : (b : Bool) → (if b then outcome 40 w else completed_by w i body (presented w.endpoint i t)).answer
        ≡ (if b then 40 else if not (eqb (said (presented w.endpoint i t)) 0) then said (presented w.endpoint i t) else if ltb (length body) 4 || ltb 4216 (length body) then 35 else 0)
    stores true = refl
    stores false = ticket_cases By w.endpoint i t (λ n d. rw (unmatched_not d) refl) (λ k. size k.request (ltb (length body) 4 || ltb 4216 (length body)))

-- ---- declaring

pub declare_numbers : DeclareNumbers
unfolding was_declared
declare_numbers e i t can = by (presented e i t) ∙ said_is e i t
  where
    by : (x : Result Request ℕ) → (declared_by e i can x).answer ≡ said x
    by (Err n) = refl
    by (Ok r) = refl

-- ---- timeout

receiving_is : (p : Phase) → is_receive p ≡ is_receiving p
receiving_is (Idle held) = refl
receiving_is (Receive a) = refl
receiving_is (Process r) = refl
receiving_is (Answered r) = refl
receiving_is (Transmit r) = refl

pub timeout_numbers : TimeoutNumbers
unfolding timed_out
timeout_numbers e i = rw (receiving_is (slot_at e i).phase) (slots (is_slot i) refl)
  where
    slots : (b : Bool) → is_slot i ≡ b
        → (if not b then ended 30 e else if not (is_receiving (slot_at e i).phase) || (slot_at e i).paused then ended 37 e else ended 0 (raised (with_slot e i (idled (slot_at e i))) (2 ^ 5))).answer
        ≡ timeout_number e i
    slots true h = rw (slot_one i true h) (row (not (is_receiving (slot_at e i).phase) || (slot_at e i).paused))
      where
        row : (b : Bool) → (if b then ended 37 e else ended 0 (raised (with_slot e i (idled (slot_at e i))) (2 ^ 5))).answer ≡ (if b then 37 else 0)
        row true = refl
        row false = refl
    slots false h = rw (slot_one i false h) refl

-- ---- polling

-- a slot is in Transmit exactly where something is chosen
sending_chosen : (w : World) → Valid w.endpoint → (is_transmit (phase_at w 0) || is_transmit (phase_at w 1)) ≡ true → chosen w.endpoint ≡ None → ⊥
sending_chosen w v h = by (is_transmit (phase_at w 0)) refl h
  where
    by : (x : Bool) → is_transmit (phase_at w 0) ≡ x → (x || is_transmit (phase_at w 1)) ≡ true → chosen w.endpoint ≡ None → ⊥
    by true e _ = let k = sending_phase (phase_at w 0) e in chosen_some w.endpoint v 0 (omega arith) k.0 k.1
    by false e f = let k = sending_phase (phase_at w 1) f in chosen_some w.endpoint v 1 (omega arith) k.0 k.1

chosen_sending : (w : World) → Valid w.endpoint → {i : ℕ} {r : Outgoing} → chosen w.endpoint ≡ Some (i, r) → (is_transmit (phase_at w 0) || is_transmit (phase_at w 1)) ≡ true
chosen_sending w v {i} {r} e = let k = chosen_at w.endpoint v e in at i k.slot_is k.sends
  where
    at : (i : ℕ) → i ≤ 1 → phase_at w i ≡ Transmit r → (is_transmit (phase_at w 0) || is_transmit (phase_at w 1)) ≡ true
    at zero is q = rw q refl
    at (suc zero) is q = rw q (or-true (is_transmit (phase_at w 0)))
    at (suc (suc n)) is q = absurd (omega arith)

-- what is ready, in the document's words
ready_nothing : (w : World) → Valid w.endpoint → ready w.endpoint ≡ None → is_command_ready w ≡ false
unfolding ready
ready_nothing w v = by (paused_at w 0) (paused_at w 1) (is_transmit (phase_at w 0) || is_transmit (phase_at w 1)) (sending_chosen w v)
  where
    by : (a b x : Bool) → (x ≡ true → chosen w.endpoint ≡ None → ⊥) → ◌≡◌ {A = Option (ℕ × Outgoing)} (if a || b then None else chosen w.endpoint) None → (x && (not a && not b)) ≡ false
    by true b true k e = refl
    by true b false k e = refl
    by false true true k e = refl
    by false true false k e = refl
    by false false true k e = absurd (k refl e)
    by false false false k e = refl

ready_some : (w : World) → Valid w.endpoint → {i : ℕ} {r : Outgoing} → ready w.endpoint ≡ Some (i, r) → is_command_ready w ≡ true
unfolding ready
ready_some w v {i} {r} = by (paused_at w 0) (paused_at w 1) (is_transmit (phase_at w 0) || is_transmit (phase_at w 1)) (chosen_sending w v)
  where
    by : (a b x : Bool) → (chosen w.endpoint ≡ Some (i, r) → x ≡ true) → ◌≡◌ {A = Option (ℕ × Outgoing)} (if a || b then None else chosen w.endpoint) (Some (i, r)) → (x && (not a && not b)) ≡ true
    by true b x k e = differ (cc e)
    by false true x k e = differ (cc e)
    by false false x k e = rw (k e) refl

-- the length that is told is the packet's
sent_length : (bytes buffer : List ℕ) → length (take (length bytes) (bytes ++ drop (length bytes) buffer)) ≡ length bytes
sent_length bytes buffer = ap (λ (s : List ℕ). length s) (take-append_seam bytes (drop (length bytes) buffer))

pub poll_numbers : PollNumbers
unfolding polled step
poll_numbers w buffer v = stores (eqb (length w.store0) 4224) refl (eqb (length w.store1) 4224) refl
  where
    Says : ℕ → Polled → Type 0
    Says n p = poll_says p.answer ≡ (n, length_out (poll_event p.buffer p.answer))

    goes : (bytes : List ℕ) (e : Endpoint) → poll_says (polled_to (Ok (Some (length bytes))) e (bytes ++ drop (length bytes) buffer)).answer
        ≡ (1, length (take (length bytes) (bytes ++ drop (length bytes) buffer)) ∷ [])
    goes bytes e = rw (sent_length bytes buffer) refl

    replies : (reply : Reply) → Says 1 (sent_control w.endpoint reply buffer)
    replies reply = unfold sent_control in (goes (control_packet w.endpoint reply) w.endpoint)

    commands : (i : ℕ) (r : Outgoing) → Says 1 (sent_command w i r buffer)
    commands i r = unfold sent_command in (goes (command_packet w i r) w.endpoint)

    by : (reply : Option Reply) (x : Option (ℕ × Outgoing)) → ready w.endpoint ≡ x
        → Says (if is_some reply || is_command_ready w then 1 else 0) (polled_by w buffer reply x)
    by None None e = rw (ready_nothing w v e) refl
    by None (Some (i, r)) e = rw (ready_some w v e) (commands i r)
    by (Some reply) None e = replies reply
    by (Some reply) (Some (i, r)) e = if_ind (Says 1) (reply_first w.endpoint) (λ _. replies reply) (λ _. commands i r)

    room : (b : Bool) → ltb (length buffer) (unit_of w + 4) ≡ b
        → Says (if b then 36 else if is_some w.endpoint.reply || is_command_ready w then 1 else 0)
        (if b then polled_to (Err 36) w.endpoint buffer else polled_by w buffer w.endpoint.reply (ready w.endpoint))
    room true e = refl
    room false e = by w.endpoint.reply (ready w.endpoint) refl

    stores : (a : Bool) → eqb (length w.store0) 4224 ≡ a → (b : Bool) → eqb (length w.store1) 4224 ≡ b → Says (poll_number w buffer) (polled w buffer)
    stores true e true f = unfold polled in (rw (e, f) (room (ltb (length buffer) (unit_of w + 4)) refl))
    stores true e false f = unfold polled in (rw (e, f) refl)
    stores false e b f = unfold polled in (rw e refl)

-- ---- setup

pub setup_numbers : SetupNumbers
unfolding was_set_up
setup_numbers eid unit = by (eqb (setup_number eid unit) 0) refl (ap (λ (n : ℕ). eqb n 0) (so eid unit))
  where
    by : (b : Bool) → eqb (setup_number eid unit) 0 ≡ b → eqb (setup_refusal eid unit) 0 ≡ eqb (setup_number eid unit) 0 → SetUp eid unit
    by true e q =
        let x : eqb (setup_refusal eid unit) 0 ≡ true = q ∙ e in
        let n : setup_number eid unit ≡ 0 = eqb-true (setup_number eid unit) 0 e in
        unfold was_set_up in (record { number_is = rw x (sym n); eid_is = rw (e, x) refl; unit_is = rw (e, x) refl; state_is = rw (e, x) refl })
    by false e q =
        let x : eqb (setup_refusal eid unit) 0 ≡ false = q ∙ e in
        unfold was_set_up in (record { number_is = rw x (so eid unit); eid_is = rw (e, x) refl; unit_is = rw (e, x) refl; state_is = rw (e, x) refl })
