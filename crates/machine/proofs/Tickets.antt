-- Demand 2's ticket rule on lists of calls: a completion or declaration that is accepted is for the command that its ticket was taken for, and every packet
-- that leaves is of the response fixed for its slot's last entry into Process.
-- Assumes nothing.
use Prim.Native.Nat.{ℕ, ◌+◌, ◌%◌, ◌^◌, ◌≤◌, ◌<◌}
use mathlib.Core.Path.{◌≡◌, refl, sym, ap, ◌∙◌}
use mathlib.Core.Bool.{Bool, true, false, not, ◌&&◌}
use mathlib.Core.List.{List, [], ◌∷◌}
use native.Mathlib.Omega.{arith}
use lib.Dec.{eqb}
use lib.ListN.{length}
use borrow.Author.Tests.{eq-eqb, ne_eqb, not-true, lt-ltb}
use Rattle.std.specs.Prelude.{Some, Result, Err, if◌then◌else◌}
use Rattle.std.specs.Option.{is_some}
use Rattle.std.proofs.lemmas.Bool.{and_parts}
use Rattle.lent.proofs.Choice.{if_ind, false_true, differ}
use Rattle.mctp.specs.Cut.{packet}
use Rattle.mctp.proofs.Laws.{one_packet}
use Rattle.machine.specs.State.{World, Outcome, slot_at, store_at, with_slot}
use Rattle.machine.specs.Finish.{TakeDone, is_slot, taken_request, taken, part, presented_in, presented, is_body, completed_by, completed, declared_by, was_declared}
use Rattle.machine.specs.Wire.{wrong_stores, route_to}
use Rattle.machine.specs.Poll.{after_packet, control_packet, command_packet}
use Rattle.machine.specs.Valid.{PhaseFacts, Valid, Sound}
use Rattle.machine.specs.Calls.{Call, take!, read, complete, poll, Event, number, given, part_read, handed_out, Stepped, take_event, step}
use Rattle.machine.specs.History.{Trace, History, phase_at, paused_at, is_packet_of, moved, response_for, commanded, transmitted, trace_after, counts, next, run, start, unit_of, has_room}
use Rattle.machine.specs.Demands.{TicketCount, is_process, Presents, completes, declares, TicketRefused, TicketRule, TicketOwn, AnswersOwn, route_of, reply_packet, AnswerBelongs, PausesHold, is_answered, is_idle_now, FlagsFit}
use Rattle.machine.specs.Types.{Ticket, Untaken, Request, Outgoing, Phase, Idle, Receive, Process, Answered, Transmit, Slot, Reply, Endpoint}
use Rattle.machine.proofs.Slots.{facts_at}
use Rattle.machine.proofs.Cases.{same_number, take_cases, unmatched_least, Match, ticket_cases}
use Rattle.machine.proofs.Traces.{sent_cases}
use Rattle.machine.proofs.Receiving.{right_stores}
use Rattle.machine.proofs.Keeps.{Chosen, chosen_at}
use Rattle.machine.proofs.Places.{Which, this, that, which, slot_this, slot_that}
use Rattle.machine.proofs.Fits.{Asked, Going, Fit, Entry, entered, stayed, There, goes, some_response}
use Rattle.machine.proofs.Polling.{PollCase, still, replies, sends, poll_case, moved_same, onward, onward_moves}
use Rattle.machine.proofs.Histories.{Good, kept_by, good_next, good_run, good_every}

pub ticket_count : TicketCount
ticket_count eid unit store0 store1 a b xs i is = ((good_every eid unit store0 store1 a b xs).fits i is).ticket_is

-- ---- entries only grow, and a request stays while its command is in Process

module _ (i : ℕ) (is : i ≤ 1) (first : ℕ) (request : List ℕ) where
  pub record Since (h : History) : Type 0 where
    pub grown : first ≤ (h.trace i).entries
    pub kept : (h.trace i).entries ≡ first → is_process (phase_at h.world i) ≡ true → (h.trace i).request ≡ request

  since_next : (c : Call) (h : History) → Good h → Since h → Since (next c h)
  unfolding next
  since_next c h g s = by (kept_by c h g i is).entry
    where
      by : Entry (phase_at h.world i) (phase_at (step c h.world).world i) (h.trace i) (trace_after i c h.world (step c h.world) (h.trace i))
          → Since (unfold next in next c h)
      by (entered _ _ e) = unfold next in (record { grown = omega (arith, e, s.grown); kept = λ k _. absurd (omega (arith, e, k, s.grown)) })
      by (stayed e f) =
          unfold next in
          (record {
            grown = omega (arith, e, s.grown);
            kept = λ k p. let q = f p in q.1 ∙ s.kept (sym e ∙ k) q.0;
          })

  pub since_run : (cs : List Call) (h : History) → Good h → Since h → Since (run cs h)
  unfolding run
  since_run [] h g s = s
  since_run (c ∷ cs) h g s = since_run cs (next c h) (good_next c h g) (since_next c h g s)

-- ---- a take that gives a ticket

pub record Gave (w : World) (i : ℕ) (t : Ticket) : Type 0 where
  pub slot_is : i ≤ 1
  pub ticket_is : t ≡ (slot_at w.endpoint i).ticket
  pub request : Request
  pub in_process : phase_at w i ≡ Process request
  pub untaken : request.taking ≡ Untaken
  pub then_phase : phase_at (step (take! i) w).world i ≡ Process (taken_request request false)

number_given : {A : Type 0} {n : ℕ} {t : Ticket} → number n ≡ given t → A
number_given e = differ (cc e)

same_ticket : {t u : Ticket} → given u ≡ given t → t ≡ u
same_ticket e = cc

pub record GivesFrom (w : World) (i : ℕ) (t : Ticket) (d : TakeDone) : Type 0 where
  pub slot_is : i ≤ 1
  pub ticket_is : t ≡ (slot_at w.endpoint i).ticket
  pub request : Request
  pub in_process : phase_at w i ≡ Process request
  pub untaken : request.taking ≡ Untaken
  pub then_phase : (slot_at d.endpoint i).phase ≡ Process (taken_request request false)

abbrev Gives : World → ℕ → Ticket → TakeDone → Type 0
Gives w i t d = take_event d.answer ≡ given t → GivesFrom w i t d

take_gives : (w : World) → Sound w → (i : ℕ) (t : Ticket) → Gives w i t (taken w.endpoint i)
take_gives w s i t =
    take_cases (Gives w i t) w.endpoint i (λ n d e. number_given e)
    (λ k e.
    record {
      slot_is = k.slot_is;
      ticket_is = same_ticket e;
      request = k.request;
      in_process = k.in_process;
      untaken = k.untaken;
      then_phase = ap (λ (x : Slot). x.phase) (slot_this i k.slot_is s.state _);
    })

pub gave : (w : World) → Sound w → (i : ℕ) (t : Ticket) → (step (take! i) w).event ≡ given t → Gave w i t
unfolding step
gave w s i t e =
    let k = take_gives w s i t e in
    record {
      slot_is = k.slot_is;
      ticket_is = k.ticket_is;
      request = k.request;
      in_process = k.in_process;
      untaken = k.untaken;
      then_phase = unfold step in k.then_phase;
    }

-- taking adds no entry, and changes no request
pub record TakeKeeps (l m : Trace) : Type 0 where
  pub entries_are : m.entries ≡ l.entries
  pub request_is : m.request ≡ l.request

pub take_keeps : (h : History) (i : ℕ) → TakeKeeps (h.trace i) ((next (take! i) h).trace i)
unfolding next
take_keeps h i =
    let k = by (step (take! i) h.world).event in
    sent_cases (TakeKeeps (h.trace i)) (phase_at h.world i) (phase_at (step (take! i) h.world).world i) (step (take! i) h.world).event _ k
    (λ n s. record { entries_are = k.entries_are; request_is = k.request_is })
  where
    by : (v : Event) → TakeKeeps (h.trace i) (commanded i (take! i) h.world v (h.trace i))
    by (number n) = record { entries_are = refl; request_is = refl }
    by (given t) = if_ind (TakeKeeps (h.trace i)) (eqb i i) (λ _. record { entries_are = refl; request_is = refl }) (λ _. record { entries_are = refl; request_is = refl })
    by (part_read s) = record { entries_are = refl; request_is = refl }
    by (handed_out s) = record { entries_are = refl; request_is = refl }

take_entries : (h : History) (i : ℕ) → ((next (take! i) h).trace i).entries ≡ (h.trace i).entries
take_entries h i = (take_keeps h i).entries_are

-- ---- completing or declaring with an older ticket

older : (a b : ℕ) → a < b → b < a + 2 ^ 32 → a % 2 ^ 32 ≡ b % 2 ^ 32 → ⊥
older a b lo hi e = omega arith

pub not_older : (a b : ℕ) → a ≤ b → b < a + 2 ^ 32 → a % 2 ^ 32 ≡ b % 2 ^ 32 → b ≡ a
not_older a b lo hi e = omega arith

pub slot_yes : (i : ℕ) → i ≤ 1 → is_slot i ≡ true
slot_yes i h = lt-ltb i 2 (omega arith)

-- a ticket that is not that of a command in Process
not_present : (e : Endpoint) (i : ℕ) → i ≤ 1 → (t : Ticket) → (is_process (slot_at e i).phase ≡ true → t.0 ≡ (slot_at e i).ticket.0 → ⊥)
    → presented e i t ≡ Err (if is_process (slot_at e i).phase then 32 else 31)
unfolding presented
not_present e i is t n = rw (slot_yes i is) (into (slot_at e i).phase n)
  where
    into : (p : Phase) → (is_process p ≡ true → t.0 ≡ (slot_at e i).ticket.0 → ⊥) → presented_in t (slot_at e i) p ≡ Err (if is_process p then 32 else 31)
    into (Idle held) n = refl
    into (Receive a) n = refl
    into (Process r) n = rw (ne_eqb t.0 (slot_at e i).ticket.0 (n refl)) refl
    into (Answered r) n = refl
    into (Transmit r) n = refl

pub other_refused : (w : World) → Sound w → (i : ℕ) → i ≤ 1 → (t : Ticket) → (is_process (phase_at w i) ≡ true → t.0 ≡ (slot_at w.endpoint i).ticket.0 → ⊥) → (c : Call) → Presents i t c
    → TicketRefused w i c
unfolding step completed was_declared
other_refused w s i is t n c (completes body) =
    let k = not_present w.endpoint i is t n in
    record { answered = rw (right_stores w s, k) refl; unchanged = rw (right_stores w s, k) refl }
other_refused w s i is t n c (declares can) =
    let k = not_present w.endpoint i is t n in
    record { answered = rw k refl; unchanged = rw k refl }

pub ticket_rule : TicketRule
ticket_rule eid unit store0 store1 a b xs i t e ys lo hi =
    let h = run xs (start eid unit store0 store1) in
    let g = good_every eid unit store0 store1 a b xs in
    let k = gave h.world g.sound i t e in
    let is = k.slot_is in
    let g₂ = good_run ys (next (take! i) h) (good_next (take! i) h g) in
    let mine : t.0 ≡ (h.trace i).entries % 2 ^ 32 = ap (λ (x : Ticket). x.0) k.ticket_is ∙ (g.fits i is).ticket_is in
    other_refused (run ys (next (take! i) h)).world g₂.sound i is t
    (λ _ q. older (h.trace i).entries ((run ys (next (take! i) h)).trace i).entries lo hi (sym mine ∙ q ∙ (g₂.fits i is).ticket_is))

-- ---- a completion or a declaration that is accepted

pub accepted : (w : World) (i : ℕ) (t : Ticket) (c : Call) → Presents i t c → (step c w).event ≡ number 0 → Match w.endpoint i t
unfolding step completed was_declared
accepted w i t c (completes body) e = by (same_number e)
  where
    Says : Outcome → Type 0
    Says o = o.answer ≡ 0 → Match w.endpoint i t

    by : Says (unfold completed in completed w i t body)
    by =
        unfold completed in
        (if_ind Says (wrong_stores w) (λ _ q. absurd (omega arith))
        (λ _.
        ticket_cases (λ (x : Result Request ℕ). Says (completed_by w i body x)) w.endpoint i t (λ n d q. absurd (omega (arith, unmatched_least d)))
        (λ k. if_ind Says (not (is_body body)) (λ _ q. absurd (omega arith)) (λ _ _. k))))
accepted w i t c (declares can) e =
    ticket_cases (λ (x : Result Request ℕ). (declared_by w.endpoint i can x).answer ≡ 0 → Match w.endpoint i t) w.endpoint i t
    (λ n d q. absurd (omega (arith, unmatched_least d))) (λ k _. k) (same_number e)

in_process_now : {e : Endpoint} {i : ℕ} {t : Ticket} → Match e i t → is_process (slot_at e i).phase ≡ true
in_process_now k = rw k.in_process refl

pub accepted_process : (w : World) (i : ℕ) (t : Ticket) (body : List ℕ) → (step (complete i t body) w).event ≡ number 0 → is_process (phase_at w i) ≡ true
accepted_process w i t body e = in_process_now (accepted w i t (complete i t body) (completes body) e)

pub transmitted_response : (p q : Phase) (v : Event) (l : Trace) → (transmitted p q v l).response ≡ l.response
transmitted_response p q v l = sent_cases (λ (m : Trace). m.response ≡ l.response) p q v l refl (λ n s. refl)

-- the response that it fixes
pub completion : (h : History) (i : ℕ) (t : Ticket) (body : List ℕ) → (step (complete i t body) h.world).event ≡ number 0
    → ((next (complete i t body) h).trace i).response ≡ response_for i (h.trace i).request body
unfolding next
completion h i t body e =
    transmitted_response (phase_at h.world i) (phase_at (step (complete i t body) h.world).world i) (step (complete i t body) h.world).event
    (commanded i (complete i t body) h.world (step (complete i t body) h.world).event (h.trace i))
    ∙ go (step (complete i t body) h.world).event e
  where
    go : (v : Event) → v ≡ number 0 → (commanded i (complete i t body) h.world v (h.trace i)).response ≡ response_for i (h.trace i).request body
    go v k = rw (k, eq-eqb i i refl) refl

-- the reading call hands back the request
reads : (w : World) → Sound w → (i : ℕ) → i ≤ 1 → (r : Request) (can : Bool) (l : Trace) → phase_at w i ≡ Process (taken_request r can)
    → Fit w.endpoint.unit (slot_at w.endpoint i) (store_at w i) l → (step (read i) w).event ≡ part_read l.request
unfolding step part
reads w s i is r can l p f =
    let k : Asked (taken_request r can) (store_at w i) l = rw p at f.phase_fits in
    rw (right_stores w s, slot_yes i is, p) (ap part_read k.held)

pub ticket_own : TicketOwn
ticket_own eid unit store0 store1 a b xs i t e ys hi call presents done =
    let h = run xs (start eid unit store0 store1) in
    let h₁ = next (take! i) h in
    let h₂ = run ys h₁ in
    let g = good_every eid unit store0 store1 a b xs in
    let g₁ = good_next (take! i) h g in
    let g₂ = good_run ys h₁ g₁ in
    let k = gave h.world g.sound i t e in
    let is = k.slot_is in
    let c = accepted h₂.world i t call presents done in
    let n : (h₁.trace i).entries ≡ (h.trace i).entries = take_entries h i in
    let since = since_run i is (h.trace i).entries (h₁.trace i).request ys h₁ g₁ (record { grown = omega (arith, n); kept = λ _ _. refl }) in
    let mine : t.0 ≡ (h.trace i).entries % 2 ^ 32 = ap (λ (x : Ticket). x.0) k.ticket_is ∙ (g.fits i is).ticket_is in
    let same_count : (h₂.trace i).entries ≡ (h.trace i).entries =
    not_older (h.trace i).entries (h₂.trace i).entries since.grown hi (sym mine ∙ c.present ∙ (g₂.fits i is).ticket_is) in
    record {
      no_entry = same_count;
      same_request = since.kept same_count (in_process_now c);
      read_request = reads h₁.world g₁.sound i is k.request false (h₁.trace i) (unfold next in k.then_phase) (g₁.fits i is);
    }

pub answers_own : AnswersOwn
answers_own eid unit store0 store1 a b xs i t e ys body hi done =
    let h₁ = next (take! i) (run xs (start eid unit store0 store1)) in
    let own = ticket_own eid unit store0 store1 a b xs i t e ys hi (complete i t body) (completes body) done in
    record { command = own; fixes = completion (run ys h₁) i t body done ∙ ap (λ (x : List ℕ). response_for i x body) own.same_request }

-- ---- every packet that leaves

number_out : {A : Type 0} {n : ℕ} {s : List ℕ} → number n ≡ handed_out s → A
number_out e = differ (cc e)

same_bytes : {s u : List ℕ} → handed_out u ≡ handed_out s → s ≡ u
same_bytes e = cc

-- the control reply in literal bytes
pub reply_packet_lem : (e : Endpoint) (r : Reply) → e.reply ≡ Some r → Valid e → control_packet e r ≡ reply_packet e
reply_packet_lem e r is v =
    let n : length r.message ≡ 12 = rw is at v.reply_twelve in
    rw is (one_packet e.unit (route_to e r.to r.tag) r.message (omega (arith, n)) (omega (arith, n, v.numbers.unit_least)))

-- a slot that sends a packet has a response
pub moved_full : (h : History) → Good h → (i : ℕ) → i ≤ 1 → (q : Phase) → moved (phase_at h.world i) q ≡ true → (h.trace i).response ≡ [] → ⊥
moved_full h g i is q m =
    some_response (slot_at h.world.endpoint i) (store_at h.world i) (h.trace i) (g.fits i is) (facts_at i is g.sound.state) (by (phase_at h.world i) m)
  where
    by : (p : Phase) → moved p q ≡ true → There p
    by (Idle held) n = false_true n
    by (Receive a) n = false_true n
    by (Process r) n = false_true n
    by (Answered r) n = false_true n
    by (Transmit r) n = goes r refl

-- what a poll hands out, from the world before and what it leaves
pub record BelongsBy (h : History) (s : Stepped) (bytes : List ℕ) : Type 0 where
  pub of_slot : (i : ℕ) → i ≤ 1 → moved (phase_at h.world i) (phase_at s.world i) ≡ true
      → bytes ≡ packet (unit_of h.world) (route_of h i) (h.trace i).response (h.trace i).packets
  pub of_none : ((i : ℕ) → i ≤ 1 → moved (phase_at h.world i) (phase_at s.world i) ≡ false)
      → (is_some h.world.endpoint.reply ≡ true) × (bytes ≡ reply_packet h.world.endpoint)

module _ (h : History) (g : Good h) (buffer : List ℕ) where
  -- the packet of the slot that is chosen
  next_packet : (i : ℕ) → i ≤ 1 → (r : Outgoing) → phase_at h.world i ≡ Transmit r
      → command_packet h.world i r ≡ packet (unit_of h.world) (route_of h i) (h.trace i).response (h.trace i).packets
  next_packet i is r p =
      let k : Going h.world.endpoint.unit r (store_at h.world i) (h.trace i) = rw p at (g.fits i is).phase_fits in
      rw (k.full.held, k.full.to, k.full.under, k.count) refl

  belongs_by : {s : Stepped} (bytes : List ℕ) → PollCase h.world buffer s → s.event ≡ handed_out bytes → BelongsBy h s bytes
  belongs_by bytes (still n _) e = number_out e
  belongs_by bytes (replies r is _) e =
      record {
        of_slot = λ i is m. false_true (sym (moved_same (phase_at h.world i)) ∙ m);
        of_none = λ _. (ap is_some is, same_bytes e ∙ reply_packet_lem h.world.endpoint r is g.sound.state);
      }
  belongs_by bytes (sends k q c counted) e =
      record {
        of_slot = λ i is m. at i is (which k i ks is) m;
        of_none = λ n. false_true (sym (n k ks) ∙ own);
      }
    where
      picked : Chosen h.world.endpoint k q
      picked = chosen_at h.world.endpoint g.sound.state c

      ks : k ≤ 1
      ks = picked.slot_is

      after : Slot
      after = after_packet h.world.endpoint.unit (slot_at h.world.endpoint k) q

      own : moved (phase_at h.world k) (slot_at (with_slot h.world.endpoint k (after_packet h.world.endpoint.unit (slot_at h.world.endpoint k) q)) k).phase ≡ true
      own = go (phase_at h.world k) _ picked.sends (ap (λ (s : Slot). s.phase) (slot_this k ks g.sound.state (after_packet h.world.endpoint.unit (slot_at h.world.endpoint k) q)))
        where
          go : (p x : Phase) → p ≡ Transmit q → x ≡ (after_packet h.world.endpoint.unit (slot_at h.world.endpoint k) q).phase → moved p x ≡ true
          go p x a b = rw (a, b) (onward_moves (onward h.world.endpoint.unit (slot_at h.world.endpoint k) q))

      at : (i : ℕ) → i ≤ 1 → Which k i → moved (phase_at h.world i) (slot_at (with_slot h.world.endpoint k (after_packet h.world.endpoint.unit (slot_at h.world.endpoint k) q)) i).phase ≡ true
          → bytes ≡ packet (unit_of h.world) (route_of h i) (h.trace i).response (h.trace i).packets
      at i is (this p) m = same_bytes e ∙ rw p (next_packet k ks q picked.sends)
      at i is (that p) m =
          let still_there : (slot_at (with_slot h.world.endpoint k (after_packet h.world.endpoint.unit (slot_at h.world.endpoint k) q)) i).phase ≡ phase_at h.world i =
          rw p (ap (λ (s : Slot). s.phase) (slot_that k ks g.sound.state (after_packet h.world.endpoint.unit (slot_at h.world.endpoint k) q))) in
          false_true (sym (moved_same (phase_at h.world i)) ∙ sym (ap (moved (phase_at h.world i)) still_there) ∙ m)

  -- a command packet goes by a poll that is counted
  counted_by : {s : Stepped} (i : ℕ) → PollCase h.world buffer s → is_packet_of (phase_at h.world i) (phase_at s.world i) s.event ≡ true → counts (poll buffer) h.world ≡ true
  counted_by i (still n _) e = false_true e
  counted_by i (replies _ _ _) e = false_true (sym (moved_same (phase_at h.world i)) ∙ e)
  counted_by i (sends k q c counted) e = counted

pub answer_belongs : AnswerBelongs
answer_belongs eid unit store0 store1 a b xs buffer bytes e =
    let h = run xs (start eid unit store0 store1) in
    let g = good_every eid unit store0 store1 a b xs in
    let k = belongs_by h g buffer bytes (poll_case h.world buffer g.sound) e in
    record { of_slot = k.of_slot; of_none = k.of_none }

-- ---- the laws beside them

pub pauses_hold : PausesHold
pauses_hold eid unit store0 store1 a b xs i is buffer e =
    let h = run xs (start eid unit store0 store1) in
    let g = good_every eid unit store0 store1 a b xs in
    let c = counted_by h g buffer i (poll_case h.world buffer g.sound) e in
    let k = and_parts (not (paused_at h.world 0)) (not (paused_at h.world 1)) (and_parts (has_room h.world buffer) (not (paused_at h.world 0) && not (paused_at h.world 1)) c).1 in
    (not-true (paused_at h.world 0) k.0, not-true (paused_at h.world 1) k.1)

answered_flag : (unit : ℕ) (b : Bool) (p : Phase) → PhaseFacts unit b p → is_answered p ≡ true → b ≡ true
answered_flag unit b (Idle held) f h = false_true h
answered_flag unit b (Receive a) f h = false_true h
answered_flag unit b (Process r) f h = false_true h
answered_flag unit b (Answered r) f h = f.0
answered_flag unit b (Transmit r) f h = false_true h

idle_flag : (unit : ℕ) (b : Bool) (p : Phase) → PhaseFacts unit b p → is_idle_now p ≡ true → b ≡ false
idle_flag unit b (Idle held) f h = f.0
idle_flag unit b (Receive a) f h = false_true h
idle_flag unit b (Process r) f h = false_true h
idle_flag unit b (Answered r) f h = false_true h
idle_flag unit b (Transmit r) f h = false_true h

pub flags_fit : FlagsFit
flags_fit eid unit store0 store1 a b xs i is =
    let h = run xs (start eid unit store0 store1) in
    let f = facts_at i is (good_every eid unit store0 store1 a b xs).sound.state in
    (answered_flag (unit_of h.world) (paused_at h.world i) (phase_at h.world i) f, idle_flag (unit_of h.world) (paused_at h.world i) (phase_at h.world i) f)
