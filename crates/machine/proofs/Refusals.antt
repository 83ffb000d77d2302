-- What a refusal leaves, for each number.
-- Assumes nothing.
use Prim.Native.Nat.{ℕ, zero, suc, ◌+◌, ◌%◌, ◌≤◌, ◌<◌}
use mathlib.Core.Path.{◌≡◌, refl, sym, ap, ◌∙◌}
use mathlib.Core.Bool.{Bool, true, false, not, ◌&&◌, ◌||◌}
use mathlib.Core.List.{List, [], ◌∷◌}
use native.Mathlib.Omega.{arith}
use lib.Dec.{eqb, ltb}
use lib.ListN.{length}
use lib.Seq.{get_or-drop}
use borrow.Author.Tests.{eq-eqb, ne_eqb, eqb-false, ltb-true}
use Rattle.lent.specs.Bytes.{byte_at}
use Rattle.std.proofs.lemmas.Bool.{and_parts}
use Rattle.lent.proofs.Choice.{if_ind, false_true, differ}
use Rattle.mctp.specs.Header.{fields}
use Rattle.machine.specs.State.{World, Outcome, Done, slot_at, with_endpoint, is_idle}
use Rattle.machine.specs.Wire.{packet_room, wrong_stores}
use Rattle.machine.specs.Receive.{refused, refused_busy, dropped, end_assembly, flag_of, received}
use Rattle.machine.specs.Finish.{TakeDone, is_slot, taken, presented, is_body, completed_by, completed, declared_by, was_declared, is_receive, timed_out}
use Rattle.machine.specs.Poll.{Polled, ready, reply_first, polled_by, polled}
use Rattle.machine.specs.Valid.{Valid, Sound}
use Rattle.machine.specs.Calls.{receive, take!, read, complete, declare, poll, timeout, reset, number, given, handed_out, take_event, poll_event, step}
use Rattle.machine.specs.History.{has_som, source_of, message_tag_of, phase_at, receives_from, is_for}
use Rattle.machine.specs.Numbers.{right_sizes}
use Rattle.machine.specs.Demands.{is_idle_now}
use Rattle.machine.specs.Refusals.{FlagColumn, assembly_ended, place_in, stored, is_command, Leaves, unread, tabled, unstored, busy, unknown, broken, failed, RefusedPacket, WrongStores, RefusedCall, is_one_of, Named}
use Rattle.machine.specs.Types.{Ticket, Request, Outgoing, Phase, Idle, Receive, Process, Answered, Transmit, Reply, Endpoint}
use Rattle.machine.proofs.Receiving.{receives_gathers, is_command_lem, Origin, opens, goes_on, Joining, filled, Ground, in_table, of_control, of_no_slot, Busy, Gathering, Break, in_sequence, in_size, in_total, Walk, walked}
use Rattle.machine.proofs.Cases.{same_number, NotTaken, take_30, take_31, take_33, take_cases, NotMatched, ticket_30, ticket_31, ticket_32, ticket_34, ticket_cases}
use Rattle.machine.proofs.Numbers.{wrong_sizes}
use Rattle.machine.proofs.Keeps.{sound_endpoint, sound_of, end_valid}
use Rattle.std.specs.Prelude.{Option, None, Some, Result, Ok, Err}

pub flag_column : FlagColumn
unfolding flag_of
flag_column = refl

-- ---- receiving

pub idle_now : (p : Phase) → is_idle_now p ≡ is_idle p
idle_now (Idle held) = refl
idle_now (Receive a) = refl
idle_now (Process r) = refl
idle_now (Answered r) = refl
idle_now (Transmit r) = refl

module _ (w₀ : World) (p : List ℕ) (s₀ : Sound w₀) where
  -- on the way nothing changes but that an assembly ends
  record At (w : World) : Type 0 where
    is : w ≡ assembly_ended w₀ p
    sound : Sound w

  ended_is : has_som p ≡ true → with_endpoint w₀ (end_assembly w₀.endpoint (fields p).source (fields p).tag) ≡ assembly_ended w₀ p
  unfolding end_assembly
  ended_is som =
      rw (
        som,
        receives_gathers (source_of p) (message_tag_of p) (phase_at w₀ 0),
        receives_gathers (source_of p) (message_tag_of p) (phase_at w₀ 1),
      )
      refl

  abbrev Told : Outcome → Type 0
  Told o = 3 ≤ o.answer → Leaves w₀ p o.answer o.world

  without : has_som p ≡ false → assembly_ended w₀ p ≡ w₀
  without som = rw som refl

  refuses : (w : World) (n : ℕ) → Ground w₀ p n → At w → Told (refused w n)
  unfolding refused
  refuses w n (in_table som lo hi) a _ = rw a.is (tabled som lo hi)
  refuses w _ (of_control som kind) a _ = rw a.is (unstored som kind)
  refuses w _ (of_no_slot som none) a _ =
      rw (a.is ∙ without som) (unknown som (λ i is. receives_gathers (source_of p) (message_tag_of p) (phase_at w₀ i) ∙ none i is))

  busies : (w : World) (i : ℕ) → Busy w₀ p w i → At w → Told (refused_busy w i)
  unfolding refused_busy
  busies w i b a _ =
      let named : i ≡ byte_at p 5 % 2 = b.named ∙ rw (get_or-drop 4 p 1 0) refl in
      rw a.is (busy i b.som named (idle_now (phase_at (assembly_ended w₀ p) i) ∙ rw a.is at b.occupied))

  drops : (w : World) (i n : ℕ) → Break w₀ p n → Gathering w₀ p w i → At w → Told (refused (dropped w i) n)
  unfolding refused
  drops w i n k g a _ = go k
    where
      -- its slot is in Receive with this source and tag
      here : has_som p ≡ false → receives_from (source_of p) (message_tag_of p) (phase_at w₀ i) ≡ true
      here som =
          let q : phase_at w₀ i ≡ Receive g.assembly_is = rw (sym (without som), sym a.is) g.gathers_it in
          rw q g.from_it

      go : {n : ℕ} → Break w₀ p n → Leaves w₀ p n (refused (dropped w i) n).world
      go (in_sequence som) = unfold refused in (rw (a.is ∙ without som) (broken i som (here som) g.slot_is refl))
      go (in_size som) = unfold refused in (rw (a.is ∙ without som) (broken i som (here som) g.slot_is refl))
      go (in_total som) = unfold refused in (rw (a.is ∙ without som) (broken i som (here som) g.slot_is refl))

  -- a command's packet goes to its slot, at its place
  its_slot : (w : World) (i : ℕ) {n : ℕ} → At w → Origin w₀ p w i n → (is_for i p w₀ ≡ true) × (n ≡ place_in p (phase_at w₀ i))
  its_slot w i a (opens som e _ _) = (rw (som, e, get_or-drop 4 p 1 0) (eq-eqb (byte_at p 5 % 2) (byte_at p 5 % 2) refl), rw som refl)
  its_slot w i a (goes_on som x ph fr _) =
      let q : phase_at w₀ i ≡ Receive x = rw (sym (without som), sym a.is) ph in
      (rw (som, q) fr, rw (som, q) refl)

  fails : (w : World) (i at : ℕ) → Joining w₀ p w i at → At w → Told (refused (dropped (filled w₀ p w i at) i) 19)
  unfolding refused
  fails w i at j a _ =
      let k = its_slot w i a j.origin in
      left (filled w₀ p w i at) (rw (a.is, k.1) refl) k.0 (is_command_lem w₀ p j.origin)
    where
      left : (v : World) → v ≡ stored w₀ i p → is_for i p w₀ ≡ true → is_command p ≡ true → Leaves w₀ p 19 (refused (dropped v i) 19).world
      left v e mine command = unfold refused in (rw e (failed i mine j.slot_is command))

  the_walk : Walk w₀ p At Told
  unfolding refused
  the_walk =
      record {
        sound = λ w a. a.sound;
        unread = λ n lo hi _. unfold refused in (unread lo hi);
        refusing = refuses;
        busying = busies;
        dropping = drops;
        failing = fails;
        gaining = λ w i at j _ _ a h. absurd (omega arith);
        entering = λ w i at j _ _ _ a h. absurd (omega arith);
        controlling = λ w c a h. absurd (omega arith);
      }

pub refused_packet : RefusedPacket
refused_packet w p s h =
    walked w p (At w p s) (Told w p s) (the_walk w p s) s (λ som. record { is = rw som refl; sound = s })
    (λ som. record { is = ended_is w p s som; sound = sound_endpoint s (end_valid (fields p).source (fields p).tag s.state) }) h

-- ---- 40

wrong_so : (w : World) → right_sizes w ≡ false → wrong_stores w ≡ true
wrong_so w e = wrong_sizes w ∙ rw e refl

pub wrong_stores_unchanged : WrongStores
unfolding step received completed polled
wrong_stores_unchanged (receive p) w l e = rw (wrong_so w e) (refl, refl)
wrong_stores_unchanged (take! i) w l e = false_true l
wrong_stores_unchanged (read i) w l e = false_true l
wrong_stores_unchanged (complete i t body) w l e = rw (wrong_so w e) (refl, refl)
wrong_stores_unchanged (declare i t can) w l e = false_true l
wrong_stores_unchanged (poll buffer) w l e = rw (wrong_so w e) (refl, refl)
wrong_stores_unchanged (timeout i) w l e = false_true l
wrong_stores_unchanged reset w l e = false_true l

-- ---- 30 to 39

given_number : {A : Type 0} {t : Ticket} {n : ℕ} → given t ≡ number n → A
given_number e = differ (cc e)

out_number : {A : Type 0} {s : List ℕ} {n : ℕ} → handed_out s ≡ number n → A
out_number e = differ (cc e)

take_unchanged : (e : Endpoint) (i n : ℕ) → take_event (taken e i).answer ≡ number n → (taken e i).endpoint ≡ e
take_unchanged e i n = take_cases (λ (d : TakeDone). take_event d.answer ≡ number n → d.endpoint ≡ e) e i (λ _ _ _. refl) (λ k q. given_number q)

complete_unchanged : (w : World) (i : ℕ) (t : Ticket) (body : List ℕ) → 30 ≤ (completed w i t body).answer → (completed w i t body).world ≡ w
unfolding completed
complete_unchanged w i t body =
    if_ind Unchanged (wrong_stores w) (λ _ _. refl)
    (λ _.
    ticket_cases (λ (x : Result Request ℕ). Unchanged (completed_by w i body x)) w.endpoint i t (λ _ _ _. refl)
    (λ k. if_ind Unchanged (not (is_body body)) (λ _ _. refl) (λ _ h. absurd (omega arith))))
  where
    Unchanged : Outcome → Type 0
    Unchanged o = 30 ≤ o.answer → o.world ≡ w

declare_unchanged : (e : Endpoint) (i : ℕ) (t : Ticket) (can : Bool) → 30 ≤ (was_declared e i t can).answer → (was_declared e i t can).endpoint ≡ e
unfolding was_declared
declare_unchanged e i t can = by (presented e i t)
  where
    by : (x : Result Request ℕ) → 30 ≤ (declared_by e i can x).answer → (declared_by e i can x).endpoint ≡ e
    by (Err n) h = refl
    by (Ok r) h = absurd (omega arith)

timeout_unchanged : (e : Endpoint) (i : ℕ) → 30 ≤ (timed_out e i).answer → (timed_out e i).endpoint ≡ e
unfolding timed_out
timeout_unchanged e i =
    if_ind Unchanged (not (is_slot i)) (λ _ _. refl)
    (λ _. if_ind Unchanged (not (is_receive (slot_at e i).phase) || (slot_at e i).paused) (λ _ _. refl) (λ _ h. absurd (omega arith)))
  where
    Unchanged : Done → Type 0
    Unchanged d = 30 ≤ d.answer → d.endpoint ≡ e

poll_unchanged : (w : World) (buffer : List ℕ) (n : ℕ) → poll_event (polled w buffer).buffer (polled w buffer).answer ≡ number n → (polled w buffer).endpoint ≡ w.endpoint
unfolding polled
poll_unchanged w buffer n =
    if_ind Unchanged (wrong_stores w) (λ _ _. refl) (λ _. if_ind Unchanged (ltb (length buffer) (packet_room w.endpoint)) (λ _ _. refl) (λ _. by w.endpoint.reply (ready w.endpoint)))
  where
    Unchanged : Polled → Type 0
    Unchanged p = poll_event p.buffer p.answer ≡ number n → p.endpoint ≡ w.endpoint

    by : (reply : Option Reply) (x : Option (ℕ × Outgoing)) → Unchanged (polled_by w buffer reply x)
    by None None = λ _. refl
    by None (Some (i, r)) = λ q. out_number q
    by (Some reply) None = λ q. out_number q
    by (Some reply) (Some (i, r)) = if_ind Unchanged (reply_first w.endpoint) (λ _ q. out_number q) (λ _ q. out_number q)

-- ---- the numbers

abbrev In : List ℕ → ℕ → Type 0
In ks n = is_one_of n ks ≡ true

-- receiving: the walk's numbers
abbrev receiving : List ℕ
receiving = 0 ∷ 1 ∷ 2 ∷ 10 ∷ 11 ∷ 12 ∷ 13 ∷ 14 ∷ 15 ∷ 16 ∷ 17 ∷ 18 ∷ 19 ∷ 20 ∷ 21 ∷ 22 ∷ 23 ∷ 40 ∷ []

found : (k : ℕ) (ks : List ℕ) (n : ℕ) → n ≡ k → In (k ∷ ks) n
found k ks n e = rw (eq-eqb n k e) refl

further : (k : ℕ) (ks : List ℕ) (n : ℕ) → In ks n → In (k ∷ ks) n
further k ks n h = go (eqb n k)
  where
    go : (b : Bool) → (b || is_one_of n ks) ≡ true
    go true = refl
    go false = h

-- a number between two is one of those listed, one after the other
abbrev up_from : ℕ → ℕ → List ℕ → List ℕ
up_from a zero ks = ks
up_from a (suc d) ks = a ∷ up_from (suc a) d ks

in_range : (a d : ℕ) (ks : List ℕ) (n : ℕ) → a ≤ n → n < a + d → In (up_from a d ks) n
in_range a zero ks n lo hi = absurd (omega arith)
in_range a (suc d) ks n lo hi = go (λ more. in_range (suc a) d ks n more (omega arith)) (eqb n a) refl
  where
    go : (suc a ≤ n → In (up_from (suc a) d ks) n) → (b : Bool) → eqb n a ≡ b → In (a ∷ up_from (suc a) d ks) n
    go rest true e = rw e refl
    go rest false e = further a (up_from (suc a) d ks) n (rest (omega (arith, eqb-false n a e)))

refusal_named : (n : ℕ) → 10 ≤ n → n ≤ 23 → In receiving n
refusal_named n lo hi =
    let ks = up_from 10 14 (40 ∷ []) in
    further 0 (1 ∷ 2 ∷ ks) n (further 1 (2 ∷ ks) n (further 2 ks n (in_range 10 14 (40 ∷ []) n lo (omega arith))))

module _ (w₀ : World) (p : List ℕ) (s₀ : Sound w₀) where
  abbrev Said : Outcome → Type 0
  Said o = In receiving o.answer

  ground_named : (n : ℕ) → Ground w₀ p n → In receiving n
  ground_named n (in_table _ lo hi) = refusal_named n (omega arith) (omega arith)
  ground_named _ (of_control _ _) = refl
  ground_named _ (of_no_slot _ _) = refl

  break_named : (n : ℕ) → Break w₀ p n → In receiving n
  break_named _ (in_sequence _) = refl
  break_named _ (in_size _) = refl
  break_named _ (in_total _) = refl

  said_walk : Walk w₀ p Sound Said
  said_walk =
      record {
        sound = λ w s. s;
        unread = λ n lo hi. unfold refused in (refusal_named n (omega arith) (omega arith));
        refusing = λ w n k _. unfold refused in (ground_named n k);
        busying = λ w i b _. unfold refused_busy in refl;
        dropping = λ w i n k _ _. unfold refused in (break_named n k);
        failing = λ w i at j _. unfold refused in refl;
        gaining = λ w i at j _ _ _. refl;
        entering = λ w i at j _ _ _ _. refl;
        controlling = λ w c _. refl;
      }

receive_named : (w : World) (p : List ℕ) → Valid w.endpoint → In receiving (received w p).answer
receive_named w p v = go (wrong_stores w) refl
  where
    go : (b : Bool) → wrong_stores w ≡ b → In receiving (received w p).answer
    go true e = unfold received in (rw e refl)
    go false e =
        let s = sound_of w e v in
        walked w p Sound (Said w p s) (said_walk w p s) s (λ _. s) (λ _. sound_endpoint s (end_valid (fields p).source (fields p).tag v))

take_named : (e : Endpoint) (i n : ℕ) → take_event (taken e i).answer ≡ number n → In (30 ∷ 31 ∷ 33 ∷ []) n
take_named e i n =
    take_cases (λ (d : TakeDone). take_event d.answer ≡ number n → In (30 ∷ 31 ∷ 33 ∷ []) n) e i (λ k d q. rw (sym (same_number q)) (listed d))
    (λ k q. given_number q)
  where
    listed : {k : ℕ} → NotTaken k → In (30 ∷ 31 ∷ 33 ∷ []) k
    listed take_30 = refl
    listed take_31 = refl
    listed take_33 = refl

complete_named : (w : World) (i : ℕ) (t : Ticket) (body : List ℕ) → In (0 ∷ 30 ∷ 31 ∷ 32 ∷ 34 ∷ 35 ∷ 40 ∷ []) (completed w i t body).answer
unfolding completed
complete_named w i t body =
    if_ind Says (wrong_stores w) (λ _. refl)
    (λ _. ticket_cases (λ (x : Result Request ℕ). Says (completed_by w i body x)) w.endpoint i t (λ n d. listed d) (λ k. if_ind Says (not (is_body body)) (λ _. refl) (λ _. refl)))
  where
    Says : Outcome → Type 0
    Says o = In (0 ∷ 30 ∷ 31 ∷ 32 ∷ 34 ∷ 35 ∷ 40 ∷ []) o.answer

    listed : {n : ℕ} → NotMatched n → In (0 ∷ 30 ∷ 31 ∷ 32 ∷ 34 ∷ 35 ∷ 40 ∷ []) n
    listed ticket_30 = refl
    listed ticket_31 = refl
    listed ticket_32 = refl
    listed ticket_34 = refl

declare_named : (e : Endpoint) (i : ℕ) (t : Ticket) (can : Bool) → In (0 ∷ 30 ∷ 31 ∷ 32 ∷ 34 ∷ []) (was_declared e i t can).answer
unfolding was_declared
declare_named e i t can =
    ticket_cases (λ (x : Result Request ℕ). In (0 ∷ 30 ∷ 31 ∷ 32 ∷ 34 ∷ []) (declared_by e i can x).answer) e i t (λ n d. listed d) (λ k. refl)
  where
    listed : {n : ℕ} → NotMatched n → In (0 ∷ 30 ∷ 31 ∷ 32 ∷ 34 ∷ []) n
    listed ticket_30 = refl
    listed ticket_31 = refl
    listed ticket_32 = refl
    listed ticket_34 = refl

timeout_named : (e : Endpoint) (i : ℕ) → In (0 ∷ 30 ∷ 37 ∷ []) (timed_out e i).answer
unfolding timed_out
timeout_named e i =
    if_ind Says (not (is_slot i)) (λ _. refl) (λ _. if_ind Says (not (is_receive (slot_at e i).phase) || (slot_at e i).paused) (λ _. refl) (λ _. refl))
  where
    Says : Done → Type 0
    Says d = In (0 ∷ 30 ∷ 37 ∷ []) d.answer

poll_named : (w : World) (buffer : List ℕ) (n : ℕ) → poll_event (polled w buffer).buffer (polled w buffer).answer ≡ number n → In (0 ∷ 36 ∷ 40 ∷ []) n
unfolding polled
poll_named w buffer n =
    if_ind Says (wrong_stores w) (λ _ q. listed 40 q refl) (λ _. if_ind Says (ltb (length buffer) (packet_room w.endpoint)) (λ _ q. listed 36 q refl) (λ _. by w.endpoint.reply (ready w.endpoint)))
  where
    Says : Polled → Type 0
    Says p = poll_event p.buffer p.answer ≡ number n → In (0 ∷ 36 ∷ 40 ∷ []) n

    listed : (k : ℕ) → number k ≡ number n → In (0 ∷ 36 ∷ 40 ∷ []) k → In (0 ∷ 36 ∷ 40 ∷ []) n
    listed k q h = rw (sym (same_number q)) h

    by : (reply : Option Reply) (x : Option (ℕ × Outgoing)) → Says (polled_by w buffer reply x)
    by None None = λ q. listed 0 q refl
    by None (Some (i, r)) = λ q. out_number q
    by (Some reply) None = λ q. out_number q
    by (Some reply) (Some (i, r)) = if_ind Says (reply_first w.endpoint) (λ _ q. out_number q) (λ _ q. out_number q)

pub named : Named
unfolding step
named (receive p) w n v e = rw (sym (same_number e)) (receive_named w p v)
named (take! i) w n v e = take_named w.endpoint i n e
named (read i) w n v e = differ (cc e)
named (complete i t body) w n v e = rw (sym (same_number e)) (complete_named w i t body)
named (declare i t can) w n v e = rw (sym (same_number e)) (declare_named w.endpoint i t can)
named (poll buffer) w n v e = poll_named w buffer n e
named (timeout i) w n v e = rw (sym (same_number e)) (timeout_named w.endpoint i)
named reset w n v e = rw (sym (same_number e)) refl

-- ---- 30 to 39

-- receiving and reset answer none of them
not_received : (n : ℕ) → In receiving n → 30 ≤ n → n ≤ 39 → ⊥
not_received n h lo hi = false_true (sym (absent receiving refl) ∙ h)
  where
    outside : List ℕ → Bool
    outside [] = true
    outside (k ∷ ks) = (ltb k 30 || ltb 39 k) && outside ks

    absent : (ks : List ℕ) → outside ks ≡ true → is_one_of n ks ≡ false
    absent [] q = refl
    absent (k ∷ ks) q =
        let a = and_parts (ltb k 30 || ltb 39 k) (outside ks) q in
        rw (ne_eqb n k (λ e. away k e (ltb k 30) (ltb 39 k) refl refl a.0)) (absent ks a.1)
      where
        away : (k : ℕ) → n ≡ k → (x y : Bool) → ltb k 30 ≡ x → ltb 39 k ≡ y → (x || y) ≡ true → ⊥
        away k e true y p r z = omega (arith, ltb-true k 30 p)
        away k e false true p r z = omega (arith, ltb-true 39 k r)
        away k e false false p r z = false_true z

pub refused_call : RefusedCall
unfolding step
refused_call (receive p) w n v e lo hi = absurd (not_received n (named (receive p) w n v (unfold step in e)) lo hi)
refused_call (take! i) w n v e lo hi = ap (with_endpoint w) (take_unchanged w.endpoint i n e)
refused_call (read i) w n v e lo hi = refl
refused_call (complete i t body) w n v e lo hi = complete_unchanged w i t body (rw (same_number e) lo)
refused_call (declare i t can) w n v e lo hi = ap (with_endpoint w) (declare_unchanged w.endpoint i t can (rw (same_number e) lo))
refused_call (poll buffer) w n v e lo hi = ap (with_endpoint w) (poll_unchanged w buffer n e)
refused_call (timeout i) w n v e lo hi = ap (with_endpoint w) (timeout_unchanged w.endpoint i (rw (same_number e) lo))
refused_call reset w n v e lo hi = absurd (omega (arith, same_number e))
