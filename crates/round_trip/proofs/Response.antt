-- THE WAY BACK: along any list of calls, the packets that polls hand out of a slot's response are those of its cut, one after the other; and the
-- requester gathers them.
-- Assumes nothing.
use Prim.Native.Nat.{ℕ, suc, ◌+◌, ◌-◌, ◌≤◌, ◌<◌}
use mathlib.Core.Path.{◌≡◌, refl, sym, ap, ◌∙◌}
use mathlib.Core.Bool.{Bool, true, false, ◌&&◌, ◌||◌}
use mathlib.Core.List.{List, [], ◌∷◌, ◌++◌}
use native.Mathlib.Nat.{sub-zero}
use native.Mathlib.Numerals.{add-one}
use native.Mathlib.Omega.{arith}
use lib.Dec.{eqb}
use lib.ListN.{length, take}
use borrow.Author.Tests.{eqb-true, eqb-false, eq-eqb, ne_eqb}
use Rattle.std.specs.Prelude.{if◌then◌else◌}
use Rattle.lent.proofs.Choice.{false_true, differ}
use Rattle.mctp.specs.Cut.{packets, packet, cut_from, cut}
use Rattle.mctp.specs.declared.Route.{Route}
use Rattle.mctp.proofs.Laws.{packets_bounds}
use Rattle.machine.specs.State.{World, slot_at, store_at, with_slot, with_endpoint, packet_sent, outgoing}
use Rattle.machine.specs.Wire.{route_to}
use Rattle.machine.specs.Poll.{other_slot, is_last, advanced, after_packet, command_packet}
use Rattle.machine.specs.Valid.{Sound, PhaseFacts}
use Rattle.machine.specs.Calls.{Call, receive, take!, read, complete, declare, poll, timeout, reset, Event, handed_out, Stepped, stepped, step, given, part_read, number}
use Rattle.machine.specs.History.{Trace, History, phase_at, is_transmit, moved, is_packet_of, commanded, transmitted, next, run, start, cuts, packets_left, last_packet_out, unit_of}
use Rattle.machine.specs.Demands.{cut as cut_off, delivered, fate, route_of, is_process, is_answered}
use Rattle.machine.specs.declared.Response.{Response}
use Rattle.machine.specs.declared.Outgoing.{Outgoing}
use Rattle.machine.specs.declared.Phase.{Phase}
use Rattle.machine.specs.declared.Phase.TheVariants.{Idle, Receive, Process, Answered, Transmit}
use Rattle.machine.specs.declared.Slot.{Slot}
use Rattle.machine.proofs.Slots.{is_early, facts_at}
use Rattle.machine.proofs.Places.{Which, this, that, which, slot_this, slot_that}
use Rattle.machine.proofs.Keeps.{Chosen, chosen_at}
use Rattle.machine.proofs.Fits.{Going, Steady, same, newly, released, handed_over, worked, fell, goes, some_response, Full, waits as there_waits, There}
use Rattle.machine.proofs.Polling.{PollCase, still, replies, sends, poll_case, moved_same, onward, onward_moves, onward_traces}
use Rattle.machine.proofs.Histories.{Good, by_kind, plain_carries, next_unit, good_next, good_every}
use Rattle.machine.proofs.Responses.{response_kept}
use Rattle.machine.proofs.Delivery.{mute}
use Rattle.machine.proofs.Identity.{next_eid}
use Rattle.controller.specs.Arrival.{route_back}
use Rattle.controller.proofs.Arrival.{response_gathered}
use Rattle.round_trip.specs.Response.{bytes_handed_out, packet_from, sent_until, ResponseArrives, is_unsent}
use Rattle.round_trip.proofs.Formed.{responses_formed}

-- ---- one call, for a slot in Transmit that it does not cut off

data One (i : ℕ) (w : World) (r : Outgoing) (s : Stepped) : Type 0 where
  -- no packet of it goes, and it stays as it is
  quiet : is_packet_of (phase_at w i) (phase_at s.world i) s.event ≡ false → phase_at s.world i ≡ Transmit r → One i w r s
  -- its next packet goes
  went : is_packet_of (phase_at w i) (phase_at s.world i) s.event ≡ true → s.event ≡ handed_out (command_packet w i r)
      → phase_at s.world i ≡ (after_packet w.endpoint.unit (slot_at w.endpoint i) r).phase → One i w r s

transmit_same : {a b : Outgoing} → Transmit a ≡ Transmit b → b ≡ a
transmit_same e = cc

unmoved : (p q : Phase) → q ≡ p → moved p q ≡ false
unmoved p q e = rw e (moved_same p)

own_moves : (unit : ℕ) (p x : Phase) (s : Slot) (r : Outgoing) → p ≡ Transmit r → x ≡ (after_packet unit s r).phase → moved p x ≡ true
own_moves unit p x s r a b = rw (a, b) (onward_moves (onward unit s r))

module _ (w : World) (ok : Sound w) (i : ℕ) (is : i ≤ 1) (r : Outgoing) (t : phase_at w i ≡ Transmit r) where
  abbrev after_sends : ℕ → Outgoing → Stepped
  after_sends k q =
      stepped (handed_out (command_packet w k q)) (with_endpoint w (packet_sent (with_slot w.endpoint k (after_packet w.endpoint.unit (slot_at w.endpoint k) q)) (other_slot k)))

  one_poll : {b : List ℕ} {s : Stepped} → PollCase w b s → One i w r s
  one_poll (still n _) = quiet refl t
  one_poll (replies _ _ _) = quiet (moved_same (phase_at w i)) t
  one_poll (sends k q c _) = by (chosen_at w.endpoint ok.state c)
    where
      by : Chosen w.endpoint k q → One i w r (after_sends k q)
      by p = at (which k i p.slot_is is)
        where
          at : Which k i → One i w r (after_sends k q)
          at (that e) =
              let kept : (slot_at (with_slot w.endpoint k (after_packet w.endpoint.unit (slot_at w.endpoint k) q)) i).phase ≡ phase_at w i =
              rw e (ap (λ (s : Slot). s.phase) (slot_that k p.slot_is ok.state (after_packet w.endpoint.unit (slot_at w.endpoint k) q))) in
              quiet (unmoved (phase_at w i) _ kept) (kept ∙ t)
          at (this e) =
              let tk : phase_at w k ≡ Transmit r = rw e at t in
              let same_one : q ≡ r = transmit_same (sym tk ∙ p.sends) in
              let now : (slot_at (with_slot w.endpoint k (after_packet w.endpoint.unit (slot_at w.endpoint k) r)) k).phase ≡ (after_packet w.endpoint.unit (slot_at w.endpoint k) r).phase =
              ap (λ (s : Slot). s.phase) (slot_this k p.slot_is ok.state (after_packet w.endpoint.unit (slot_at w.endpoint k) r)) in
              rw (e, same_one) (went (own_moves w.endpoint.unit (phase_at w k) _ (slot_at w.endpoint k) r tk now) refl now)

-- a plain call leaves a slot in Transmit as it is
on_steady : {C : Type 0} {p q : Phase} (r : Outgoing) → Steady C p q → p ≡ Transmit r → (C → ⊥) → q ≡ Transmit r
on_steady r (same e) a n = e ∙ a
on_steady r (newly x y) a n = false_true (sym (ap is_early a) ∙ x)
on_steady r (released x b d) a n = differ (cc (sym a ∙ b))
on_steady r (handed_over x can b d) a n = differ (cc (sym a ∙ b))
on_steady r (worked x b y d e) a n = differ (cc (sym a ∙ d))
on_steady r (fell c e) a n = absurd (n c)

one : (i : ℕ) → i ≤ 1 → (c : Call) (h : History) → Good h → cuts i c h.world ≡ false → (r : Outgoing) → phase_at h.world i ≡ Transmit r → One i h.world r (step c h.world)
one i is c h g n r t =
    by_kind (λ (c : Call). cuts i c h.world ≡ false → One i h.world r (step c h.world))
    (λ c plain m.
    quiet ((mute c h.world plain).no_packet (phase_at h.world i) (phase_at (step c h.world).world i))
    (on_steady r ((plain_carries c h g plain).carried i is).steady t (λ b. false_true (sym m ∙ b))))
    (λ buffer _. one_poll h.world g.sound i is r t (poll_case h.world buffer g.sound)) (λ m. false_true (sym m)) c n

-- ---- what the trace counts

-- a call that hands out a packet adds nothing to the slot's command and its response
commanded_out : (i : ℕ) (c : Call) (w : World) (s : List ℕ) (l : Trace) → commanded i c w (handed_out s) l ≡ l
commanded_out i (receive p) w s l = refl
commanded_out i (take! j) w s l = refl
commanded_out i (read j) w s l = refl
commanded_out i (complete j t body) w s l = refl
commanded_out i (declare j t can) w s l = refl
commanded_out i (poll buffer) w s l = refl
commanded_out i (timeout j) w s l = refl
commanded_out i reset w s l = refl

one_counted : (i : ℕ) (c : Call) (h : History) (r : Outgoing) (bytes : List ℕ) → phase_at h.world i ≡ Transmit r → (step c h.world).event ≡ handed_out bytes
    → phase_at (step c h.world).world i ≡ (after_packet h.world.endpoint.unit (slot_at h.world.endpoint i) r).phase → ((next c h).trace i).packets ≡ (h.trace i).packets + 1
unfolding next
one_counted i c h r bytes t ev ph =
    by (phase_at h.world i) (phase_at (step c h.world).world i) (step c h.world).event t ph ev
  where
    by : (p q : Phase) (v : Event) → p ≡ Transmit r → q ≡ (after_packet h.world.endpoint.unit (slot_at h.world.endpoint i) r).phase → v ≡ handed_out bytes
        → (transmitted p q v (commanded i c h.world v (h.trace i))).packets ≡ (h.trace i).packets + 1
    by p q v a b e =
        rw (a, b, e, commanded_out i c h.world bytes (h.trace i))
        (ap (λ (l : Trace). l.packets) (onward_traces bytes (h.trace i) (onward h.world.endpoint.unit (slot_at h.world.endpoint i) r)))

-- ---- the list

abbrev count : ℕ → List ℕ → ℕ
count unit s = packets unit (length s)

-- slot i is sending this response by this route, in payloads of this unit
record Sending (i unit : ℕ) (response : List ℕ) (route : Route) (h : History) (r : Outgoing) : Type 0 where
  good : Good h
  phase_is : phase_at h.world i ≡ Transmit r
  response_is : (h.trace i).response ≡ response
  route_is : route_to h.world.endpoint r.response.requester r.response.tag ≡ route
  unit_is : h.world.endpoint.unit ≡ unit

module _ (i : ℕ) (is : i ≤ 1) (unit : ℕ) (response : List ℕ) (route : Route) where
  abbrev rest : ℕ → List (List ℕ)
  rest k = cut_from unit route response k (count unit response - k)

  going : {h : History} {r : Outgoing} → Sending i unit response route h r → Going h.world.endpoint.unit r (store_at h.world i) (h.trace i)
  going s = rw s.phase_is at (s.good.fits i is).phase_fits

  sized : {h : History} {r : Outgoing} → Sending i unit response route h r → length response ≡ r.response.length
  sized s = ap (λ (x : List ℕ). length x) (sym s.response_is) ∙ (going s).full.size

  inside : {h : History} {r : Outgoing} → Sending i unit response route h r → r.sent < count unit response
  inside {h} {r} s =
      let f : PhaseFacts h.world.endpoint.unit (slot_at h.world.endpoint i).paused (Transmit r) = rw s.phase_is at (facts_at i is s.good.sound.state) in
      (packets_bounds unit (length response) r.sent (rw (sym s.unit_is) (omega (arith, s.good.sound.state.numbers.unit_least)))).1
      (rw (sized s, sym s.unit_is) f.0)

  -- its next packet
  packet_is : {h : History} {r : Outgoing} → Sending i unit response route h r → command_packet h.world i r ≡ packet unit route response r.sent
  packet_is {h} {r} s =
      ap (λ (u : ℕ). packet u (route_to h.world.endpoint r.response.requester r.response.tag) (take r.response.length (store_at h.world i)) r.sent) s.unit_is
      ∙ ap (λ (x : List ℕ). packet unit (route_to h.world.endpoint r.response.requester r.response.tag) x r.sent) ((going s).full.held ∙ s.response_is)
      ∙ ap (λ (x : Route). packet unit x response r.sent) s.route_is

  -- after a call that leaves it in Transmit
  sending_next : {h : History} {r : Outgoing} (c : Call) (q : Outgoing) → Sending i unit response route h r → q.response ≡ r.response → phase_at (step c h.world).world i ≡ Transmit q
      → Sending i unit response route (next c h) q
  sending_next {h} {r} c q s same_response ph =
      record {
        good = good_next c h s.good;
        phase_is = unfold next in ph;
        response_is = response_kept i is c h s.good (ap is_early s.phase_is) (ap is_process s.phase_is) ∙ s.response_is;
        route_is =
            ap (λ (x : ℕ). record { destination = q.response.requester; source = x; to = false; tag = q.response.tag }) (next_eid c h s.good)
            ∙ ap (λ (x : Response). record { destination = x.requester; source = h.world.endpoint.eid; to = false; tag = x.tag }) same_response
            ∙ s.route_is;
        unit_is = next_unit c h s.good ∙ s.unit_is;
      }

  rest_last : (k : ℕ) → k + 1 ≡ count unit response → rest k ≡ packet unit route response k ∷ []
  unfolding cut_from
  rest_last k e = let n : count unit response - k ≡ 1 = omega arith in rw n refl

  rest_more : (k : ℕ) → k + 1 < count unit response → rest k ≡ packet unit route response k ∷ rest (k + 1)
  unfolding cut_from
  rest_more k h = let n : count unit response - k ≡ suc (count unit response - (k + 1)) = omega arith in rw (n, add-one k) refl

  abbrev Sends : List Call → Type 0
  Sends ys = (h : History) (r : Outgoing) → Sending i unit response route h r → (k : History) → fate i ys h ≡ delivered k → sent_until i ys h ≡ rest r.sent

  -- whether the last packet went, where one of its packets did
  module _ (h : History) (r : Outgoing) (c : Call) (s : Sending i unit response route h r) (y : is_packet_of (phase_at h.world i) (phase_at (step c h.world).world i) (step c h.world).event ≡ true)
      (ev : (step c h.world).event ≡ handed_out (command_packet h.world i r)) (ph : phase_at (step c h.world).world i ≡ (after_packet h.world.endpoint.unit (slot_at h.world.endpoint i) r).phase) where
    left_is : packets_left i (next c h) ≡ count unit response - (r.sent + 1)
    left_is =
        let a : ((next c h).trace i).response ≡ response = response_kept i is c h s.good (ap is_early s.phase_is) (ap is_process s.phase_is) ∙ s.response_is in
        let b : ((next c h).trace i).packets ≡ r.sent + 1 = one_counted i c h r (command_packet h.world i r) s.phase_is ev ph ∙ ap (λ (n : ℕ). n + 1) (going s).count in
        let u : unit_of (next c h).world ≡ unit = next_unit c h s.good ∙ s.unit_is in
        rw (a, b, u) refl

    goes_out : is_packet_of (phase_at h.world i) (phase_at (next c h).world i) (step c h.world).event ≡ true
    goes_out = unfold next in y

    last_so : last_packet_out i c h ≡ eqb (count unit response - (r.sent + 1)) 0
    last_so = ap (λ (b : Bool). b && eqb (packets_left i (next c h)) 0) goes_out ∙ ap (λ (n : ℕ). eqb n 0) left_is

    out_so : packet_from i c h ≡ packet unit route response r.sent ∷ []
    out_so =
        ap (λ (b : Bool). if b then bytes_handed_out (step c h.world).event ∷ [] else []) goes_out
        ∙ ap (λ (v : Event). bytes_handed_out v ∷ []) ev ∙ ap (λ (x : List ℕ). x ∷ []) (packet_is s)

  -- no packet of it went
  quiet_out : (h : History) (c : Call) → is_packet_of (phase_at h.world i) (phase_at (step c h.world).world i) (step c h.world).event ≡ false
      → (packet_from i c h ≡ []) × (last_packet_out i c h ≡ false)
  quiet_out h c n =
      let none : is_packet_of (phase_at h.world i) (phase_at (next c h).world i) (step c h.world).event ≡ false = unfold next in n in
      (rw none refl, rw none refl)

  not_delivered : {A : Type 0} {k : History} → cut_off ≡ delivered k → A
  not_delivered e = differ (cc e)

  one_call : (c : Call) (cs : List Call) → Sends cs → Sends (c ∷ cs)
  unfolding fate sent_until
  one_call c cs later h r s k f = by_cut (cuts i c h.world) refl f
    where
      Ends : Bool → Type 0
      Ends x = (if x then delivered (next c h) else fate i cs (next c h)) ≡ delivered k

      along : One i h.world r (step c h.world) → Ends (last_packet_out i c h)
          → packet_from i c h ++ (if last_packet_out i c h then [] else sent_until i cs (next c h)) ≡ rest r.sent
      along (quiet n ph) e =
          let q = quiet_out h c n in
          rw (q.0, q.1) (later (next c h) r (sending_next c r s refl ph) k (rw q.1 at e))
      along (went y ev ph) e =
          by_last (is_last h.world.endpoint.unit r) refl
        where
          told : eqb (r.sent + 1) (packets h.world.endpoint.unit r.response.length) ≡ eqb (r.sent + 1) (count unit response)
          told = ap (λ (u : ℕ). eqb (r.sent + 1) (packets u r.response.length)) s.unit_is ∙ ap (λ (n : ℕ). eqb (r.sent + 1) (packets unit n)) (sym (sized s))

          by_last : (x : Bool) → is_last h.world.endpoint.unit r ≡ x → packet_from i c h ++ (if last_packet_out i c h then [] else sent_until i cs (next c h)) ≡ rest r.sent
          by_last true l =
              let all : r.sent + 1 ≡ count unit response = eqb-true (r.sent + 1) (count unit response) (sym told ∙ l) in
              let last_out : last_packet_out i c h ≡ true = last_so h r c s y ev ph ∙ eq-eqb (count unit response - (r.sent + 1)) 0 (omega arith) in
              rw (out_so h r c s y ev ph, last_out) (sym (rest_last r.sent all))
          by_last false l =
              let more : r.sent + 1 < count unit response = omega (arith, inside s, eqb-false (r.sent + 1) (count unit response) (sym told ∙ l)) in
              let not_last : last_packet_out i c h ≡ false = last_so h r c s y ev ph ∙ ne_eqb (count unit response - (r.sent + 1)) 0 (λ z. omega arith) in
              let on : phase_at (step c h.world).world i ≡ Transmit (advanced r) = ph ∙ onward_on l in
              rw (out_so h r c s y ev ph, not_last)
              (ap (λ (x : List (List ℕ)). packet unit route response r.sent ∷ x) (later (next c h) (advanced r) (sending_next c (advanced r) s refl on) k (rw not_last at e))
              ∙ sym (rest_more r.sent more))
            where
              onward_on : is_last h.world.endpoint.unit r ≡ false → (after_packet h.world.endpoint.unit (slot_at h.world.endpoint i) r).phase ≡ Transmit (advanced r)
              onward_on n = rw n refl

      by_cut : (x : Bool) → cuts i c h.world ≡ x → (if x then cut_off else if last_packet_out i c h then delivered (next c h) else fate i cs (next c h)) ≡ delivered k
          → packet_from i c h ++ (if last_packet_out i c h then [] else sent_until i cs (next c h)) ≡ rest r.sent
      by_cut true n e = not_delivered e
      by_cut false n e = along (one i is c h s.good n r s.phase_is) e

  sends_all : (ys : List Call) → Sends ys
  unfolding fate
  sends_all [] h r s k f = differ (cc f)
  sends_all (c ∷ cs) h r s k f = one_call c cs (sends_all cs) h r s k f

-- ---- a response that waits under its flag

-- a call that does not cut it off leaves it waiting, or lets it go
data Released (r : Response) (q : Phase) : Type 0 where
  waits : q ≡ Answered r → Released r q
  starts : q ≡ Transmit (outgoing r 0) → Released r q

answered_same : {a b : Response} → Answered a ≡ Answered b → b ≡ a
answered_same e = cc

waits_steady : {C : Type 0} {p q : Phase} (r : Response) → Steady C p q → p ≡ Answered r → (C → ⊥) → Released r q
waits_steady r (same e) a n = waits (e ∙ a)
waits_steady r (newly x y) a n = false_true (sym (ap is_early a) ∙ x)
waits_steady r (released x b d) a n = starts (d ∙ ap (λ (y : Response). Transmit (outgoing y 0)) (answered_same (sym a ∙ b)))
waits_steady r (handed_over x can b d) a n = differ (cc (sym a ∙ b))
waits_steady r (worked x b y d e) a n = differ (cc (sym a ∙ d))
waits_steady r (fell c e) a n = absurd (n c)

waits_poll : (w : World) → Sound w → (i : ℕ) → i ≤ 1 → (r : Response) → phase_at w i ≡ Answered r → {b : List ℕ} {s : Stepped} → PollCase w b s → Released r (phase_at s.world i)
waits_poll w ok i is r a (still n _) = waits a
waits_poll w ok i is r a (replies _ _ _) = waits a
waits_poll w ok i is r a (sends k q c _) = by (chosen_at w.endpoint ok.state c)
  where
    by : Chosen w.endpoint k q → Released r (slot_at (with_slot w.endpoint k (after_packet w.endpoint.unit (slot_at w.endpoint k) q)) i).phase
    by p = at (which k i p.slot_is is)
      where
        at : Which k i → Released r (slot_at (with_slot w.endpoint k (after_packet w.endpoint.unit (slot_at w.endpoint k) q)) i).phase
        at (that e) = waits (rw e (ap (λ (s : Slot). s.phase) (slot_that k p.slot_is ok.state (after_packet w.endpoint.unit (slot_at w.endpoint k) q))) ∙ a)
        at (this e) = let sending : phase_at w i ≡ Transmit q = rw e p.sends in differ (cc (sym a ∙ sending))

one_waiting : (i : ℕ) → i ≤ 1 → (c : Call) (h : History) → Good h → cuts i c h.world ≡ false → (r : Response) → phase_at h.world i ≡ Answered r
    → Released r (phase_at (step c h.world).world i)
one_waiting i is c h g n r a =
    by_kind (λ (c : Call). cuts i c h.world ≡ false → Released r (phase_at (step c h.world).world i))
    (λ c plain m. waits_steady r ((plain_carries c h g plain).carried i is).steady a (λ b. false_true (sym m ∙ b)))
    (λ buffer _. waits_poll h.world g.sound i is r a (poll_case h.world buffer g.sound)) (λ m. false_true (sym m)) c n

no_packet : (r : Response) (p q : Phase) (v : Event) → p ≡ Answered r → is_packet_of p q v ≡ false
no_packet r p q (number n) e = refl
no_packet r p q (given t) e = refl
no_packet r p q (part_read s) e = refl
no_packet r p q (handed_out s) e = rw e refl

record Waiting (i unit : ℕ) (response : List ℕ) (route : Route) (h : History) (r : Response) : Type 0 where
  good : Good h
  phase_is : phase_at h.world i ≡ Answered r
  response_is : (h.trace i).response ≡ response
  route_is : route_to h.world.endpoint r.requester r.tag ≡ route
  unit_is : h.world.endpoint.unit ≡ unit

module _ (i : ℕ) (is : i ≤ 1) (unit : ℕ) (response : List ℕ) (route : Route) where
  abbrev Starts : List Call → Type 0
  Starts ys =
      (h : History) (r : Response) → Waiting i unit response route h r → (k : History) → fate i ys h ≡ delivered k
      → sent_until i ys h ≡ cut_from unit route response 0 (packets unit (length response) - 0)

  module _ (c : Call) (h : History) (r : Response) (s : Waiting i unit response route h r) where
    response_next : ((next c h).trace i).response ≡ response
    response_next = response_kept i is c h s.good (ap is_early s.phase_is) (ap is_process s.phase_is) ∙ s.response_is

    route_next : route_to (next c h).world.endpoint r.requester r.tag ≡ route
    route_next =
        ap (λ (x : ℕ). record { destination = r.requester; source = x; to = false; tag = r.tag }) (next_eid c h s.good) ∙ s.route_is

  one_start : (c : Call) (cs : List Call) → Starts cs → Starts (c ∷ cs)
  unfolding fate sent_until
  one_start c cs later h r s k f = by_cut (cuts i c h.world) refl f
    where
      none : (packet_from i c h ≡ []) × (last_packet_out i c h ≡ false)
      none =
          quiet_out i is unit response route h c
          (no_packet r (phase_at h.world i) (phase_at (step c h.world).world i) (step c h.world).event s.phase_is)

      on : Released r (phase_at (step c h.world).world i) → fate i cs (next c h) ≡ delivered k
          → sent_until i cs (next c h) ≡ cut_from unit route response 0 (packets unit (length response) - 0)
      on (waits e) g =
          later (next c h) r
          (record { good = good_next c h s.good; phase_is = unfold next in e; response_is = response_next c h r s; route_is = route_next c h r s; unit_is = next_unit c h s.good ∙ s.unit_is }) k g
      on (starts e) g =
          sends_all i is unit response route cs (next c h) (outgoing r 0)
          (record { good = good_next c h s.good; phase_is = unfold next in e; response_is = response_next c h r s; route_is = route_next c h r s; unit_is = next_unit c h s.good ∙ s.unit_is }) k g

      by_cut : (x : Bool) → cuts i c h.world ≡ x → (if x then cut_off else if last_packet_out i c h then delivered (next c h) else fate i cs (next c h)) ≡ delivered k
          → packet_from i c h ++ (if last_packet_out i c h then [] else sent_until i cs (next c h)) ≡ cut_from unit route response 0 (packets unit (length response) - 0)
      by_cut true n e = not_delivered i is unit response route e
      by_cut false n e = rw (none.0, none.1) (on (one_waiting i is c h s.good n r s.phase_is) (rw none.1 at e))

  starts_all : (ys : List Call) → Starts ys
  unfolding fate
  starts_all [] h r s k f = differ (cc f)
  starts_all (c ∷ cs) h r s k f = one_start c cs (starts_all cs) h r s k f

-- ---- the whole

-- the packets from the first on are all of them
from_first : (unit : ℕ) (route : Route) (response : List ℕ) (n : ℕ) → n ≡ 0 → cut_from unit route response n (packets unit (length response) - n) ≡ cut unit route response
unfolding cut
from_first unit route response n e = rw (e, sub-zero) refl

-- to the sender of the slot's last command, under its tag
route_to_lem : (i : ℕ) (h : History) (r : Response) → r.requester ≡ (h.trace i).requester → r.tag ≡ (h.trace i).tag
    → route_to h.world.endpoint r.requester r.tag ≡ route_of h i
route_to_lem i h r to under =
    ap (λ (x : ℕ). record { destination = x; source = h.world.endpoint.eid; to = false; tag = r.tag }) to
    ∙ ap (λ (x : ℕ). record { destination = (h.trace i).requester; source = h.world.endpoint.eid; to = false; tag = x }) under

-- what was sent, and that there is a response
pub all_sent : (i : ℕ) → i ≤ 1 → (h : History) → Good h → is_unsent i h ≡ true → (ys : List Call) (k : History) → fate i ys h ≡ delivered k
    → (sent_until i ys h ≡ cut (unit_of h.world) (route_of h i) (h.trace i).response) × ((h.trace i).response ≡ [] → ⊥)
all_sent i is h g unsent ys k f = by (phase_at h.world i) refl unsent
  where
    some_bytes : There (phase_at h.world i) → (h.trace i).response ≡ [] → ⊥
    some_bytes t = some_response (slot_at h.world.endpoint i) (store_at h.world i) (h.trace i) (g.fits i is) (facts_at i is g.sound.state) t

    by : (p : Phase) → phase_at h.world i ≡ p → (is_answered p || (is_transmit p && eqb (h.trace i).packets 0)) ≡ true
        → (sent_until i ys h ≡ cut (unit_of h.world) (route_of h i) (h.trace i).response) × ((h.trace i).response ≡ [] → ⊥)
    by (Idle held) t u = false_true u
    by (Receive a) t u = false_true u
    by (Process r) t u = false_true u
    by (Answered r) t u =
        let on : Full r (store_at h.world i) (h.trace i) = rw t at (g.fits i is).phase_fits in
        let s : Waiting i (unit_of h.world) (h.trace i).response (route_of h i) h r =
        record { good = g; phase_is = t; response_is = refl; route_is = route_to_lem i h r on.to on.under; unit_is = refl } in (
          starts_all i is (unit_of h.world) (h.trace i).response (route_of h i) ys h r s k f ∙ from_first (unit_of h.world) (route_of h i) (h.trace i).response 0 refl,
          some_bytes (there_waits r t),
        )
    by (Transmit r) t u =
        let on : Going h.world.endpoint.unit r (store_at h.world i) (h.trace i) = rw t at (g.fits i is).phase_fits in
        let s : Sending i (unit_of h.world) (h.trace i).response (route_of h i) h r =
        record { good = g; phase_is = t; response_is = refl; route_is = route_to_lem i h r.response on.full.to on.full.under; unit_is = refl } in (
          sends_all i is (unit_of h.world) (h.trace i).response (route_of h i) ys h r s k f
              ∙ from_first (unit_of h.world) (route_of h i) (h.trace i).response r.sent (sym on.count ∙ eqb-true (h.trace i).packets 0 u),
          some_bytes (goes r t),
        )

pub response_arrives : ResponseArrives
response_arrives eid unit store0 store1 a b xs i is unsent ys k f =
    let h = run xs (start eid unit store0 store1) in
    let all = all_sent i is h (good_every eid unit store0 store1 a b xs) unsent ys k f in
    record {
      packets_are = all.0;
      gathered =
          λ d v size ours one awaited.
          let back : route_of h i ≡ route_back d.requester.eid h.world.endpoint.eid (h.trace i).tag =
          ap (λ (x : ℕ). record { destination = x; source = h.world.endpoint.eid; to = false; tag = (h.trace i).tag }) (sym ours) in
          let same_packets : sent_until i ys h ≡ cut d.requester.unit (route_back d.requester.eid h.world.endpoint.eid (h.trace i).tag) (h.trace i).response =
          all.0 ∙ ap (λ (x : Route). cut (unit_of h.world) x (h.trace i).response) back
          ∙ ap (λ (u : ℕ). cut u (route_back d.requester.eid h.world.endpoint.eid (h.trace i).tag) (h.trace i).response) (sym one) in
          rw same_packets
          (response_gathered d h.world.endpoint.eid (h.trace i).tag (h.trace i).response v size awaited (responses_formed eid unit store0 store1 a b xs i is all.1));
    }
