-- Demand 3: a measure that every counted poll lowers and no other call raises.
-- Assumes nothing.
use Prim.Native.Nat.{ℕ, zero, suc, ◌+◌, ◌-◌, ◌*◌, ◌≤◌, ◌<◌}
use mathlib.Core.Path.{◌≡◌, refl, sym, ap, ◌∙◌}
use mathlib.Core.Bool.{Bool, true, false, ◌&&◌}
use mathlib.Core.List.{List, [], ◌∷◌}
use native.Mathlib.Nat.{add-mul}
use native.Mathlib.Omega.{arith}
use lib.Dec.{eqb}
use lib.ListN.{length}
use lib.Seq.{take_all}
use borrow.Author.Tests.{eq-eqb, ne_eqb, eqb-true, eqb-false, lt-ltb}
use Rattle.std.specs.Prelude.{Option, None, Some, Result, Ok, Err, if◌then◌else◌}
use Rattle.std.proofs.lemmas.Bool.{and_from, and_left, and_right}
use Rattle.lent.proofs.Choice.{if_ind, false_true, differ}
use Rattle.mctp.specs.Cut.{packets}
use Rattle.mctp.proofs.Laws.{packets_bounds, packets_most, packets_cover}
use Rattle.machine.specs.State.{World, slot_at, store_at, with_slot, with_endpoint, with_phase, reply_sent, packet_sent, holding}
use Rattle.machine.specs.Finish.{taken}
use Rattle.machine.specs.Poll.{other_slot, sending_or, has_begun, begun_or, chosen, is_last, advanced, after_packet, control_packet, command_packet}
use Rattle.machine.specs.Valid.{phased, is_begun, Fits, PhaseFacts, Valid}
use Rattle.machine.specs.Calls.{Call, receive, take!, read, complete, declare, poll, timeout, reset, is_plain, number, handed_out, Stepped, stepped, take_event, step}
use Rattle.machine.specs.History.{Trace, History, phase_at, is_transmit, moved, is_packet_of, transmitted, trace_after, counts, one?, next, run, start, cuts, packets_left, last_packet_out, unit_of, over_unit}
use Rattle.machine.specs.Demands.{Fate, cut, delivered, open!, fate, Within, most_packets, polls_for, is_process, Demand3, most_polls, AtMost, Quoted}
use Rattle.machine.specs.Types.{Ticket, Outgoing, Phase, Idle, Receive, Process, Answered, Transmit, Slot, Reply, Endpoint}
use Rattle.machine.proofs.Slots.{is_early, facts_at, slot_facts, other_most, same_found}
use Rattle.machine.proofs.Keeps.{Chosen, chosen_at}
use Rattle.machine.proofs.Places.{frame_unit, frame_turn, frame_last, Which, this, that, which, other_differs, other_back, slot_this, slot_that}
use Rattle.machine.proofs.Fits.{Going, Steady, same, newly, released, handed_over, worked, fell, settled_begun}
use Rattle.machine.proofs.Polling.{PollCase, still, replies, sends, poll_case, moved_same, onward, onward_traces, onward_moves, sent_trace, joined}
use Rattle.machine.proofs.Histories.{Good, by_kind, plain_carries, good_next, good_every}
use Rattle.machine.proofs.Responses.{response_kept}

-- ---- packets left, and what may go before

abbrev left_of : ℕ → Outgoing → ℕ
left_of unit r = packets unit r.response.length - r.sent

abbrev left_in : ℕ → Phase → ℕ
left_in unit = phased 0 (λ a. 0) (λ r. 0) (λ r. 0) (left_of unit)

-- a response in Transmit has a packet left, and no more than the longest one has
left_bounds : (unit : ℕ) → 0 < unit → (r : Outgoing) → unit * r.sent < r.response.length → Fits r.response → (1 ≤ left_of unit r) × (packets unit r.response.length ≤ most_packets unit)
left_bounds unit pos r inside f =
    let k : r.sent < packets unit r.response.length = (packets_bounds unit r.response.length r.sent pos).1 inside in
    (omega arith, packets_most unit r.response.length (most_packets unit) pos (omega (arith, f.most, packets_cover unit 4224 pos)))

-- command packets of the other slot that may go before slot i's next one: i begun, none; the other begun, its packets left; none begun and
-- the other's turn, those of the longest response
abbrev before : ℕ → Bool → Bool → ℕ → Bool → ℕ
before most mine other left turn = if mine then 0 else if other then left else if turn then most else 0

abbrev ahead : ℕ → Endpoint → ℕ
ahead i e =
    before (most_packets e.unit) (is_begun (slot_at e i).phase) (is_begun (slot_at e (other_slot i)).phase) (left_in e.unit (slot_at e (other_slot i)).phase) (eqb e.turn (other_slot i))

-- one poll more, where a control reply may go first
abbrev one_more : Bool → ℕ
one_more last = if last then 0 else 1

abbrev measure : ℕ → Endpoint → ℕ
measure i e = 2 * (left_in e.unit (slot_at e i).phase + ahead i e) + one_more e.last_control

before_most : (m : ℕ) (a b : Bool) (n : ℕ) (t : Bool) → n ≤ m → before m a b n t ≤ m
before_most m true b n t h = omega arith
before_most m false true n t h = h
before_most m false false n true h = omega arith
before_most m false false n false h = omega arith

-- the other slot is begun no more
before_down : (most : ℕ) (a b : Bool) (n m : ℕ) (t : Bool) → (b ≡ true → t ≡ false) → before most a false m t ≤ before most a b n t
before_down most true b n m t h = omega arith
before_down most false true n m t h = rw (h refl) (omega arith)
before_down most false false n m t h = omega arith

left_most : (unit : ℕ) → 0 < unit → (b : Bool) (p : Phase) → PhaseFacts unit b p → left_in unit p ≤ most_packets unit
left_most unit pos b (Idle held) f = omega arith
left_most unit pos b (Receive a) f = omega arith
left_most unit pos b (Process r) f = omega arith
left_most unit pos b (Answered r) f = omega arith
left_most unit pos b (Transmit r) f = omega (arith, (left_bounds unit pos r f.0 f.1).1)

-- ---- calls other than poll

-- where the other slot's response is begun, this slot's turn is next
begun_not_turn : {e : Endpoint} (i : ℕ) → i ≤ 1 → Valid e → is_begun (slot_at e (other_slot i)).phase ≡ true → eqb e.turn (other_slot i) ≡ false
begun_not_turn {e} i is v h =
    let k : e.turn ≡ other_slot (other_slot i) = (slot_facts (other_slot i) (other_most i) v.slots_valid).begun_goes_on h in
    ne_eqb e.turn (other_slot i) (λ q. other_differs i is (sym q ∙ k ∙ other_back i is))

-- a slot in Transmit stays there, unless it is cut off
stays : {C : Type 0} {p q : Phase} (r : Outgoing) → Steady C p q → p ≡ Transmit r → (C → ⊥) → q ≡ p
stays r (same e) t n = e
stays r (newly a b) t n = false_true (rw t at a)
stays r (released x a b) t n = differ (cc (t, a))
stays r (handed_over x can a b) t n = differ (cc (t, a))
stays r (worked x b y a d) t n = differ (cc (t, a))
stays r (fell c e) t n = absurd (n c)

-- the other slot
module _ (e e' : Endpoint) (i : ℕ) (is : i ≤ 1) (v : Valid e) (unit_is : e'.unit ≡ e.unit) (turn_is : e'.turn ≡ e.turn) (mine : (slot_at e' i).phase ≡ (slot_at e i).phase) where
  calm_ahead : is_begun (slot_at e' (other_slot i)).phase ≡ false → ahead i e' ≤ ahead i e
  calm_ahead b =
      rw (mine, unit_is, turn_is, b)
      (before_down (most_packets e.unit) (is_begun (slot_at e i).phase) (is_begun (slot_at e (other_slot i)).phase) (left_in e.unit (slot_at e (other_slot i)).phase)
      (left_in e.unit (slot_at e' (other_slot i)).phase) (eqb e.turn (other_slot i)) (begun_not_turn i is v))

  ahead_down : {C : Type 0} → Steady C (slot_at e (other_slot i)).phase (slot_at e' (other_slot i)).phase → ahead i e' ≤ ahead i e
  ahead_down (same q) = rw (mine, unit_is, turn_is, q) (omega arith)
  ahead_down (newly a b) = calm_ahead b
  ahead_down (released r a b) = calm_ahead (rw b refl)
  ahead_down (handed_over r can a b) = calm_ahead (rw b refl)
  ahead_down (worked r b x a d) = calm_ahead (ap is_begun d ∙ settled_begun b x)
  ahead_down (fell c q) = calm_ahead (rw q refl)

-- what a call that is not a poll does
plain_step : (i : ℕ) → i ≤ 1 → (c : Call) (h : History) → Good h → is_plain c ≡ true → cuts i c h.world ≡ false → (r : Outgoing) → phase_at h.world i ≡ Transmit r
    → (phase_at (step c h.world).world i ≡ Transmit r) × (measure i (step c h.world).world.endpoint ≤ measure i h.world.endpoint)
plain_step i is c h g p n r t =
    let k = plain_carries c h g p in
    let e = h.world.endpoint in
    let e' = (step c h.world).world.endpoint in
    let mine : (slot_at e' i).phase ≡ (slot_at e i).phase = stays r (k.carried i is).steady t (λ b. false_true (sym n ∙ b)) in
    let units : e'.unit ≡ e.unit = frame_unit e e' k.frame in
    let front : ahead i e' ≤ ahead i e = ahead_down e e' i is g.sound.state units (frame_turn e e' k.frame) mine (k.carried (other_slot i) (other_most i)).steady in
    let left : left_in e'.unit (slot_at e' i).phase ≡ left_in e.unit (slot_at e i).phase = rw (units, mine) refl in
    let last : one_more e'.last_control ≡ one_more e.last_control = ap one_more (frame_last e e' k.frame) in
    (mine ∙ t, omega (arith, front, left, last))

-- ---- which packet goes

begun_or_some : (k : ℕ) (p : Phase) (other : Option (ℕ × Outgoing)) → (other ≡ None → ⊥) → begun_or k p other ≡ None → ⊥
begun_or_some k (Idle held) other n e = n e
begun_or_some k (Receive a) other n e = n e
begun_or_some k (Process r) other n e = n e
begun_or_some k (Answered r) other n e = n e
begun_or_some k (Transmit r) other n e = if_ind (λ (x : Option (ℕ × Outgoing)). x ≡ None → ⊥) (has_begun r) (λ _ q. differ (cc q)) (λ _ q. n q) e

sending_or_some : (k : ℕ) (p : Phase) (other : Option (ℕ × Outgoing)) (r : Outgoing) → p ≡ Transmit r → sending_or k p other ≡ Some (k, r)
sending_or_some k p other r e = rw e refl

sending_or_other : (k : ℕ) (p : Phase) (other : Option (ℕ × Outgoing)) → (other ≡ None → ⊥) → sending_or k p other ≡ None → ⊥
sending_or_other k (Idle held) other n e = n e
sending_or_other k (Receive a) other n e = n e
sending_or_other k (Process r) other n e = n e
sending_or_other k (Answered r) other n e = n e
sending_or_other k (Transmit r) other n e = differ (cc e)

from_none : {k : ℕ} {r : Outgoing} {x : Option (ℕ × Outgoing)} → x ≡ Some (k, r) → x ≡ None → ⊥
from_none a b = differ (cc (a, b))

abbrev by_turn : Endpoint → Option (ℕ × Outgoing)
by_turn e = sending_or e.turn (slot_at e e.turn).phase (sending_or (other_slot e.turn) (slot_at e (other_slot e.turn)).phase None)

-- a slot in Transmit: something is chosen
turn_some : (e : Endpoint) → Valid e → (i : ℕ) → i ≤ 1 → (r : Outgoing) → (slot_at e i).phase ≡ Transmit r → by_turn e ≡ None → ⊥
turn_some e v i is r t = at (which e.turn i v.numbers.turn_most is)
  where
    at : Which e.turn i → by_turn e ≡ None → ⊥
    at (this q) n = from_none (sending_or_some e.turn (slot_at e e.turn).phase _ r (rw q at t)) n
    at (that q) n =
        sending_or_other e.turn (slot_at e e.turn).phase _
        (λ m. from_none (sending_or_some (other_slot e.turn) (slot_at e (other_slot e.turn)).phase None r (rw q at t)) m) n

pub chosen_some : (e : Endpoint) → Valid e → (i : ℕ) → i ≤ 1 → (r : Outgoing) → (slot_at e i).phase ≡ Transmit r → chosen e ≡ None → ⊥
unfolding chosen
chosen_some e v i is r t n =
    begun_or_some 0 (slot_at e 0).phase _ (λ m. begun_or_some 1 (slot_at e 1).phase (by_turn e) (turn_some e v i is r t) m) n

-- with none begun the turn decides
begun_or_not : (k : ℕ) (p : Phase) (other : Option (ℕ × Outgoing)) → is_begun p ≡ false → begun_or k p other ≡ other
begun_or_not k (Idle held) other h = refl
begun_or_not k (Receive a) other h = refl
begun_or_not k (Process r) other h = refl
begun_or_not k (Answered r) other h = refl
begun_or_not k (Transmit r) other h = rw h refl

each_slot : (P : ℕ → Type 0) (i : ℕ) → i ≤ 1 → P i → P (other_slot i) → P 0 × P 1
each_slot P zero h a b = (a, b)
each_slot P (suc zero) h a b = (b, a)
each_slot P (suc (suc n)) h a b = absurd (omega arith)

turn_decides : (e : Endpoint) → Valid e → (i : ℕ) → i ≤ 1 → (r q : Outgoing) → (slot_at e i).phase ≡ Transmit r → is_begun (slot_at e i).phase ≡ false
    → is_begun (slot_at e (other_slot i)).phase ≡ false → chosen e ≡ Some (other_slot i, q) → eqb e.turn (other_slot i) ≡ true
unfolding chosen
turn_decides e v i is r q t a b c = at (which i e.turn is v.numbers.turn_most)
  where
    none : (is_begun (slot_at e 0).phase ≡ false) × (is_begun (slot_at e 1).phase ≡ false)
    none = each_slot (λ (k : ℕ). is_begun (slot_at e k).phase ≡ false) i is a b

    by_turn_lem : by_turn e ≡ Some (other_slot i, q)
    by_turn_lem = sym (begun_or_not 0 (slot_at e 0).phase _ none.0 ∙ begun_or_not 1 (slot_at e 1).phase (by_turn e) none.1) ∙ c

    at : Which i e.turn → eqb e.turn (other_slot i) ≡ true
    at (this p) =
        let here : by_turn e ≡ Some (e.turn, r) = sending_or_some e.turn (slot_at e e.turn).phase _ r (rw (sym p) at t) in
        absurd (other_differs i is (sym (same_found (sym here ∙ by_turn_lem)).0 ∙ p))
    at (that p) = eq-eqb e.turn (other_slot i) p

-- ---- one call's progress with slot i's response

abbrev pub next_by : Call → History → Stepped → History
next_by c h s =
    record { world = s.world; trace = λ i. trace_after i c h.world s (h.trace i); counted = h.counted + one? (counts c h.world) }

abbrev pub last_by : ℕ → Call → History → Stepped → Bool
last_by i c h s = is_packet_of (phase_at h.world i) (phase_at s.world i) s.event && eqb (packets_left i (next_by c h s)) 0

data Progress (i : ℕ) (c : Call) (h : History) (s : Stepped) : Type 0 where
  finished : last_by i c h s ≡ true → ((next_by c h s).trace i).payloads ≡ ((next_by c h s).trace i).response → Progress i c h s
  goes : last_by i c h s ≡ false → (r : Outgoing) → phase_at s.world i ≡ Transmit r
      → measure i s.world.endpoint + one? (counts c h.world) ≤ measure i h.world.endpoint → Progress i c h s

module _ (i : ℕ) (is : i ≤ 1) (buffer : List ℕ) (h : History) (g : Good h) (r : Outgoing) (t : phase_at h.world i ≡ Transmit r) where
  abbrev e₀ : Endpoint
  e₀ = h.world.endpoint

  v₀ : Valid e₀
  v₀ = g.sound.state

  pos : 0 < e₀.unit
  pos = omega (arith, v₀.numbers.unit_least)

  facts : PhaseFacts e₀.unit (slot_at e₀ i).paused (Transmit r)
  facts = rw t at (facts_at i is v₀)

  going : Going e₀.unit r (store_at h.world i) (h.trace i)
  going = rw t at (g.fits i is).phase_fits

  some_chosen : chosen e₀ ≡ None → ⊥
  some_chosen = chosen_some e₀ v₀ i is r t

  -- nothing is sent: then the poll is not counted
  nothing_sent : (n : ℕ) → (counts (poll buffer) h.world ≡ true → chosen e₀ ≡ None) → Progress i (poll buffer) h (stepped (number n) h.world)
  nothing_sent n k = goes refl r t (go (counts (poll buffer) h.world) refl)
    where
      go : (b : Bool) → counts (poll buffer) h.world ≡ b → measure i e₀ + one? b ≤ measure i e₀
      go true e = absurd (some_chosen (k e))
      go false e = omega arith

  -- a control reply goes: the next poll is a command packet's
  control_sent : (reply : Reply) → (counts (poll buffer) h.world ≡ true → (chosen e₀ ≡ None → ⊥) → e₀.last_control ≡ false)
      → Progress i (poll buffer) h (stepped (handed_out (control_packet e₀ reply)) (with_endpoint h.world (reply_sent e₀)))
  control_sent reply k = goes (and_left _ _ (moved_same (phase_at h.world i))) r t (go (counts (poll buffer) h.world) refl e₀.last_control refl)
    where
      go : (b : Bool) → counts (poll buffer) h.world ≡ b → (l : Bool) → e₀.last_control ≡ l
          → 2 * (left_in e₀.unit (phase_at h.world i) + ahead i e₀) + 0 + one? b ≤ 2 * (left_in e₀.unit (phase_at h.world i) + ahead i e₀) + one_more l
      go true e true f = false_true (sym (k e some_chosen) ∙ f)
      go true e false f = omega arith
      go false e l f = omega arith

  -- slot i's own packet
  abbrev own : Stepped
  own = stepped (handed_out (command_packet h.world i r)) (with_endpoint h.world (packet_sent (with_slot e₀ i (after_packet e₀.unit (slot_at e₀ i) r)) (other_slot i)))

  own_phase : phase_at own.world i ≡ (after_packet e₀.unit (slot_at e₀ i) r).phase
  own_phase = ap (λ (s : Slot). s.phase) (slot_this i is v₀ (after_packet e₀.unit (slot_at e₀ i) r))

  abbrev sent_trace₀ : Trace
  sent_trace₀ = sent_trace h.world i r (h.trace i) going

  own_trace : trace_after i (poll buffer) h.world own (h.trace i) ≡ sent_trace₀
  own_trace = go (phase_at h.world i) (phase_at own.world i) t own_phase
    where
      go : (p q : Phase) → p ≡ Transmit r → q ≡ (after_packet e₀.unit (slot_at e₀ i) r).phase → transmitted p q (handed_out (command_packet h.world i r)) (h.trace i) ≡ sent_trace₀
      go p q a b = rw (a, b) (onward_traces (command_packet h.world i r) (h.trace i) (onward e₀.unit (slot_at e₀ i) r))

  own_moves : moved (phase_at h.world i) (phase_at own.world i) ≡ true
  own_moves = go (phase_at h.world i) (phase_at own.world i) t own_phase
    where
      go : (p q : Phase) → p ≡ Transmit r → q ≡ (after_packet e₀.unit (slot_at e₀ i) r).phase → moved p q ≡ true
      go p q a b = rw (a, b) (onward_moves (onward e₀.unit (slot_at e₀ i) r))

  own_left : packets_left i (next_by (poll buffer) h own) ≡ packets e₀.unit r.response.length - (r.sent + 1)
  own_left =
      ap (λ (m : Trace). over_unit e₀.unit (length m.response) - m.packets) own_trace
      ∙ rw (going.full.size, going.count) refl

  -- its last packet
  pub is_last_lem : is_last e₀.unit r ≡ true → last_by i (poll buffer) h own ≡ true
  is_last_lem last =
      let n : r.sent + 1 ≡ packets e₀.unit r.response.length = eqb-true (r.sent + 1) (packets e₀.unit r.response.length) last in
      let none : packets_left i (next_by (poll buffer) h own) ≡ 0 = own_left ∙ omega (arith, n) in
      and_from (moved (phase_at h.world i) (phase_at own.world i)) (eqb (packets_left i (next_by (poll buffer) h own)) 0) own_moves (eq-eqb (packets_left i (next_by (poll buffer) h own)) 0 none)

  own_last : is_last e₀.unit r ≡ true → Progress i (poll buffer) h own
  own_last last =
      let n : r.sent + 1 ≡ packets e₀.unit r.response.length = eqb-true (r.sent + 1) (packets e₀.unit r.response.length) last in
      let reached : length (h.trace i).response ≤ e₀.unit * (r.sent + 1) = rw (going.full.size, n) (packets_cover e₀.unit r.response.length pos) in
      finished (is_last_lem last)
      (ap (λ (m : Trace). m.payloads) own_trace ∙ joined h.world i r (h.trace i) going ∙ take_all (e₀.unit * (r.sent + 1)) (h.trace i).response reached
      ∙ sym (ap (λ (m : Trace). m.response) own_trace))

  -- another of its packets
  more_behind : is_last e₀.unit r ≡ false → r.sent + 1 < packets e₀.unit r.response.length
  more_behind more =
      omega (arith, (packets_bounds e₀.unit r.response.length r.sent pos).1 facts.0, eqb-false (r.sent + 1) (packets e₀.unit r.response.length) more)

  pub not_last : is_last e₀.unit r ≡ false → last_by i (poll buffer) h own ≡ false
  not_last more =
      and_right (moved (phase_at h.world i) (phase_at own.world i)) (eqb (packets_left i (next_by (poll buffer) h own)) 0)
      (ne_eqb (packets_left i (next_by (poll buffer) h own)) 0 (λ z. omega (arith, more_behind more, sym own_left ∙ z)))

  own_more : is_last e₀.unit r ≡ false → counts (poll buffer) h.world ≡ true → Progress i (poll buffer) h own
  own_more more counted =
      let n = more_behind more in
      let phase : phase_at own.world i ≡ Transmit (advanced r) = own_phase ∙ rw more refl in
      let left : left_in e₀.unit (phase_at own.world i) ≡ packets e₀.unit r.response.length - (r.sent + 1) = ap (left_in e₀.unit) phase in
      let begun : is_begun (phase_at own.world i) ≡ true = ap is_begun phase ∙ lt-ltb 0 (r.sent + 1) (omega arith) in
      let front : ahead i own.world.endpoint ≡ 0 = rw begun refl in
      let was : left_in e₀.unit (phase_at h.world i) ≡ packets e₀.unit r.response.length - r.sent = ap (left_in e₀.unit) t in
      goes (not_last more) (advanced r) phase (rw counted (omega (arith, left, front, was, n)))

  -- a packet of the other slot
  module _ (q : Outgoing) (c : chosen e₀ ≡ Some (other_slot i, q)) where
    abbrev o : ℕ
    o = other_slot i

    abbrev theirs : Stepped
    theirs = stepped (handed_out (command_packet h.world o q)) (with_endpoint h.world (packet_sent (with_slot e₀ o (after_packet e₀.unit (slot_at e₀ o) q)) (other_slot o)))

    picked : Chosen e₀ o q
    picked = chosen_at e₀ v₀ c

    os : o ≤ 1
    os = other_most i

    -- slot i is as it was, and not begun
    mine : phase_at theirs.world i ≡ phase_at h.world i
    mine =
        go (other_slot o) (other_back i is) (ap (λ (s : Slot). s.phase) (slot_that o os v₀ (after_packet e₀.unit (slot_at e₀ o) q)))
      where
        go : (k : ℕ) → k ≡ i → (slot_at (with_slot e₀ o (after_packet e₀.unit (slot_at e₀ o) q)) k).phase ≡ (slot_at e₀ k).phase → phase_at theirs.world i ≡ phase_at h.world i
        go k e p = rw e at p

    unbegun : is_begun (phase_at h.world i) ≡ false
    unbegun = go (is_begun (phase_at h.world i)) refl
      where
        go : (b : Bool) → is_begun (phase_at h.world i) ≡ b → b ≡ false
        go true e = absurd (picked.first_of_two (rw (other_back i is) e))
        go false e = refl

    their_facts : PhaseFacts e₀.unit (slot_at e₀ o).paused (Transmit q)
    their_facts = rw picked.sends at (facts_at o os v₀)

    bounds : (1 ≤ left_of e₀.unit q) × (packets e₀.unit q.response.length ≤ most_packets e₀.unit)
    bounds = left_bounds e₀.unit pos q their_facts.0 their_facts.1

    -- before, at least the packets that the other slot has left
    ahead_least : left_of e₀.unit q ≤ ahead i e₀
    ahead_least = rw unbegun (go (is_begun (phase_at h.world o)) refl)
      where
        go : (b : Bool) → is_begun (phase_at h.world o) ≡ b → left_of e₀.unit q ≤ (if b then left_in e₀.unit (phase_at h.world o) else if eqb e₀.turn o then most_packets e₀.unit else 0)
        go true e = rw picked.sends (omega arith)
        go false e = rw (turn_decides e₀ v₀ i is r q t unbegun e c) (omega (arith, bounds.1))

    -- afterwards, one less
    ahead_after : ahead i theirs.world.endpoint + 1 ≤ left_of e₀.unit q
    ahead_after =
        let not_turn : eqb (other_slot o) o ≡ false = ne_eqb (other_slot o) o (λ e. other_differs o os e) in
        let their_phase : phase_at theirs.world o ≡ (after_packet e₀.unit (slot_at e₀ o) q).phase = ap (λ (s : Slot). s.phase) (slot_this o os v₀ (after_packet e₀.unit (slot_at e₀ o) q)) in
        rw (mine, unbegun, not_turn, their_phase) (go (is_last e₀.unit q) refl)
      where
        go : (b : Bool) → is_last e₀.unit q ≡ b
            → (if is_begun (if b then holding (slot_at e₀ o) q.response else with_phase (slot_at e₀ o) (Transmit (advanced q))).phase
            then left_in e₀.unit (if b then holding (slot_at e₀ o) q.response else with_phase (slot_at e₀ o) (Transmit (advanced q))).phase else 0) + 1 ≤ left_of e₀.unit q
        go true e = bounds.0
        go false e = rw (lt-ltb 0 (q.sent + 1) (omega arith)) (omega (arith, bounds.0))

    theirs_goes : counts (poll buffer) h.world ≡ true → Progress i (poll buffer) h theirs
    theirs_goes counted =
        goes (and_left _ _ (ap (moved (phase_at h.world i)) mine ∙ moved_same (phase_at h.world i))) r (mine ∙ t)
        (rw counted (omega (arith, ap (left_in e₀.unit) mine, ahead_least, ahead_after)))

  poll_progress : Progress i (poll buffer) h (step (poll buffer) h.world)
  poll_progress = by (poll_case h.world buffer g.sound)
    where
      own_goes : (b : Bool) → is_last e₀.unit r ≡ b → counts (poll buffer) h.world ≡ true → Progress i (poll buffer) h own
      own_goes true e k = own_last e
      own_goes false e k = own_more e k

      same_response : {x : Phase} {a b : Outgoing} → x ≡ Transmit a → x ≡ Transmit b → b ≡ a
      same_response p q = cc

      -- the packet is slot i's, or the other's
      sent : (k : ℕ) (q : Outgoing) → chosen e₀ ≡ Some (k, q) → counts (poll buffer) h.world ≡ true → Which i k
          → Progress i (poll buffer) h
          (stepped (handed_out (command_packet h.world k q)) (with_endpoint h.world (packet_sent (with_slot e₀ k (after_packet e₀.unit (slot_at e₀ k) q)) (other_slot k))))
      sent k q c counted (this e) =
          let mine : phase_at h.world i ≡ Transmit q = rw e at (chosen_at e₀ v₀ c).sends in
          rw (e, same_response t mine) (own_goes (is_last e₀.unit r) refl counted)
      sent k q c counted (that e) = rw e (theirs_goes q (rw e at c) counted)

      by : {s : Stepped} → PollCase h.world buffer s → Progress i (poll buffer) h s
      by (still n k) = nothing_sent n k
      by (replies reply a k) = control_sent reply k
      by (sends k q c counted) = sent k q c counted (which i k is (chosen_at e₀ v₀ c).slot_is)

-- ---- any call

-- a call that is not a poll hands out no packet, and is not counted
pub record Mute (c : Call) (w : World) : Type 0 where
  pub no_packet : (p q : Phase) → is_packet_of p q (step c w).event ≡ false
  pub not_counted : counts c w ≡ false

take_mute : (p q : Phase) (a : Result Ticket ℕ) → is_packet_of p q (take_event a) ≡ false
take_mute p q (Err n) = refl
take_mute p q (Ok t) = refl

pub mute : (c : Call) (w : World) → is_plain c ≡ true → Mute c w
unfolding step
mute (receive p) w e = record { no_packet = λ a b. unfold step in refl; not_counted = refl }
mute (take! i) w e = record { no_packet = λ a b. unfold step in (take_mute a b (taken w.endpoint i).answer); not_counted = refl }
mute (read i) w e = record { no_packet = λ a b. unfold step in refl; not_counted = refl }
mute (complete i t body) w e = record { no_packet = λ a b. unfold step in refl; not_counted = refl }
mute (declare i t can) w e = record { no_packet = λ a b. unfold step in refl; not_counted = refl }
mute (poll buffer) w e = false_true e
mute (timeout i) w e = record { no_packet = λ a b. unfold step in refl; not_counted = refl }
mute reset w e = false_true e

plain_progress : (i : ℕ) → i ≤ 1 → (c : Call) (h : History) → Good h → is_plain c ≡ true → cuts i c h.world ≡ false → (r : Outgoing) → phase_at h.world i ≡ Transmit r
    → Progress i c h (step c h.world)
plain_progress i is c h g p n r t =
    let k = plain_step i is c h g p n r t in
    let m = mute c h.world p in
    goes (and_left _ _ (m.no_packet (phase_at h.world i) (phase_at (step c h.world).world i))) r k.0 (rw m.not_counted (omega (arith, k.1)))

progress : (i : ℕ) → i ≤ 1 → (c : Call) (h : History) → Good h → cuts i c h.world ≡ false → (r : Outgoing) → phase_at h.world i ≡ Transmit r
    → Progress i c h (step c h.world)
progress i is c h g n r t =
    by_kind (λ (c : Call). cuts i c h.world ≡ false → Progress i c h (step c h.world)) (λ c plain m. plain_progress i is c h g plain m r t)
    (λ buffer _. poll_progress i is buffer h g r t) (λ m. false_true (sym m)) c n

-- ---- the list

-- a slot in Transmit needs two polls more at least
measure_least : (i : ℕ) → i ≤ 1 → (h : History) → Good h → (r : Outgoing) → phase_at h.world i ≡ Transmit r → 2 ≤ measure i h.world.endpoint
measure_least i is h g r t =
    let f : PhaseFacts h.world.endpoint.unit (slot_at h.world.endpoint i).paused (Transmit r) = rw t at (facts_at i is g.sound.state) in
    let pos : 0 < h.world.endpoint.unit = omega (arith, g.sound.state.numbers.unit_least) in
    omega (arith, (left_bounds h.world.endpoint.unit pos r f.0 f.1).0, ap (left_in h.world.endpoint.unit) t)

abbrev counted_by : Call → History → ℕ
counted_by c h = one? (counts c h.world)

one_most : (b : Bool) → one? b ≤ 1
one_most true = omega arith
one_most false = omega arith

-- what is promised of the rest of the list, where the measure has fallen with the count
abbrev Onwards : ℕ → ℕ → List ℕ → List Call → Type 0
Onwards i most response ys =
    (h : History) → Good h → (r : Outgoing) → phase_at h.world i ≡ Transmit r → (h.trace i).response ≡ response → h.counted + measure i h.world.endpoint ≤ most + 1
    → Within most i response (fate i ys h)

-- no call changes the response that is being sent
sent_response : (i : ℕ) → i ≤ 1 → (c : Call) (h : History) → Good h → (r : Outgoing) → phase_at h.world i ≡ Transmit r → ((next c h).trace i).response ≡ (h.trace i).response
sent_response i is c h g r t = response_kept i is c h g (ap is_early t) (ap is_process t)

within_turn : (i most : ℕ) (response : List ℕ) → i ≤ 1 → (c : Call) (cs : List Call) → Onwards i most response cs → (h : History) → Good h → (r : Outgoing)
    → phase_at h.world i ≡ Transmit r → ((next c h).trace i).response ≡ response → h.counted + measure i h.world.endpoint ≤ most + 1
    → (x : Bool) → last_packet_out i c h ≡ x → Progress i c h (step c h.world) → Within most i response (if x then delivered (next c h) else fate i cs (next c h))
unfolding next
within_turn i most response is c cs rest h g r t k b true e (finished l q) =
    (omega (arith, measure_least i is h g r t, one_most (counts c h.world)), q ∙ k)
within_turn i most response is c cs rest h g r t k b true e (goes l r' t' m) = false_true (sym l ∙ e)
within_turn i most response is c cs rest h g r t k b false e (finished l q) = false_true (sym e ∙ l)
within_turn i most response is c cs rest h g r t k b false e (goes l r' t' m) = rest (next c h) (good_next c h g) r' t' k (omega (arith, m))

pub onwards : (i most : ℕ) (response : List ℕ) → i ≤ 1 → (ys : List Call) → Onwards i most response ys
unfolding fate
onwards i most response is [] h g r t k b = omega (arith, measure_least i is h g r t)
onwards i most response is (c ∷ cs) h g r t k b = by (onwards i most response is cs) (cuts i c h.world) refl
  where
    by : Onwards i most response cs → (x : Bool) → cuts i c h.world ≡ x
        → Within most i response (if x then cut else if last_packet_out i c h then delivered (next c h) else fate i cs (next c h))
    by rest true e = tt
    by rest false e =
        within_turn i most response is c cs rest h g r t (sent_response i is c h g r t ∙ k) b (last_packet_out i c h) refl (progress i is c h g e r t)

-- ---- DEMAND 3

-- the history's packets left are the state's
left_is : (i : ℕ) → i ≤ 1 → (h : History) → Good h → (r : Outgoing) → phase_at h.world i ≡ Transmit r → packets_left i h ≡ left_of h.world.endpoint.unit r
left_is i is h g r t =
    let k : Going h.world.endpoint.unit r (store_at h.world i) (h.trace i) = rw t at (g.fits i is).phase_fits in
    rw (k.full.size, k.count) refl

pub sending_phase : (p : Phase) → is_transmit p ≡ true → (r : Outgoing) × (p ≡ Transmit r)
sending_phase (Idle held) h = false_true h
sending_phase (Receive a) h = false_true h
sending_phase (Process r) h = false_true h
sending_phase (Answered r) h = false_true h
sending_phase (Transmit r) h = (r, refl)

pub from_here : (i : ℕ) → i ≤ 1 → (h : History) → Good h → (r : Outgoing) → phase_at h.world i ≡ Transmit r → (ys : List Call)
    → (1 ≤ packets_left i h) × (packets_left i h ≤ most_packets (unit_of h.world)) × Within (h.counted + polls_for (unit_of h.world) (packets_left i h)) i (h.trace i).response (fate i ys h)
from_here i is h g r t ys =
    let v = g.sound.state in
    let f : PhaseFacts h.world.endpoint.unit (slot_at h.world.endpoint i).paused (Transmit r) = rw t at (facts_at i is v) in
    let pos : 0 < h.world.endpoint.unit = omega (arith, v.numbers.unit_least) in
    let k = left_bounds h.world.endpoint.unit pos r f.0 f.1 in
    let n = left_is i is h g r t in
    let o = other_slot i in
    let most : ahead i h.world.endpoint ≤ most_packets (unit_of h.world) =
    before_most (most_packets (unit_of h.world)) (is_begun (phase_at h.world i)) (is_begun (phase_at h.world o)) (left_in (unit_of h.world) (phase_at h.world o)) (eqb h.world.endpoint.turn o)
    (left_most (unit_of h.world) pos (slot_at h.world.endpoint o).paused (phase_at h.world o) (facts_at o (other_most i) v)) in
    let first : one_more h.world.endpoint.last_control ≤ 1 =
    if_ind (λ (x : ℕ). x ≤ 1) h.world.endpoint.last_control (λ _. omega arith) (λ _. omega arith) in
    (omega (arith, k.0, n), omega (arith, k.1, n), onwards i (h.counted + polls_for (unit_of h.world) (packets_left i h)) (h.trace i).response is ys h g r t refl (omega (arith, most, first, n, ap (left_in (unit_of h.world)) t)))

pub demand_3 : Demand3
demand_3 eid unit store0 store1 a b xs ys i is t =
    let h = run xs (start eid unit store0 store1) in
    let k = sending_phase (phase_at h.world i) t in
    from_here i is h (good_every eid unit store0 store1 a b xs) k.0 k.1 ys

-- ---- what people quote

pub within_more : (i a b : ℕ) (response : List ℕ) (f : Fate) → a ≤ b → Within a i response f → Within b i response f
within_more i a b response cut h w = tt
within_more i a b response (delivered k) h w = (omega (arith, w.0), w.1)
within_more i a b response (open! k) h w = omega arith

pub at_most : AtMost
at_most eid unit store0 store1 a b xs ys i is t =
    let h = run xs (start eid unit store0 store1) in
    let u = unit_of h.world in
    let k = demand_3 eid unit store0 store1 a b xs ys i is t in
    within_more i (h.counted + polls_for u (packets_left i h)) (h.counted + most_polls u) (h.trace i).response (fate i ys h) (omega (arith, k.1)) k.2

-- a larger unit has no more packets
pub quoted : Quoted
quoted =
    record {
      at_64 = refl;
      at_250 = refl;
      larger = λ unit more pos.
          let covered : 4224 ≤ unit * most_packets unit = packets_cover unit 4224 pos in
          let k : most_packets (unit + more) ≤ most_packets unit = packets_most (unit + more) 4224 (most_packets unit) (omega arith) (wider unit more (most_packets unit) covered) in
          omega (arith, k);
    }
  where
    wider : (a b n : ℕ) → 4224 ≤ a * n → 4224 ≤ (a + b) * n
    wider a b n h = rw (add-mul a b n) (omega arith)
