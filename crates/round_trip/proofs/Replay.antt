-- A LOST RESPONSE COMES AGAIN: both times the slot's packets are those of one response for one requester, and no call between changes either.
-- Assumes nothing.
use Prim.Native.Nat.{ℕ, ◌≤◌}
use mathlib.Core.Path.{◌≡◌, refl, sym, ap, ◌∙◌}
use mathlib.Core.Bool.{Bool, true, false, ◌||◌, ◌&&◌, or-true}
use mathlib.Core.List.{List, [], ◌∷◌, ◌++◌}
use native.Mathlib.Omega.{arith}
use lib.Dec.{eqb}
use lib.ListN.{length}
use Rattle.std.specs.Prelude.{Some, if◌then◌else◌}
use Rattle.lent.proofs.Choice.{false_true, differ}
use Rattle.mctp.specs.Cut.{cut}
use Rattle.mctp.specs.declared.Route.{Route}
use Rattle.nvme_mi.specs.Check.{with_check}
use Rattle.machine.specs.Calls.{Call, receive, step}
use Rattle.machine.specs.History.{History, phase_at, is_transmit, trace_after, unit_of, next, run, start, cuts, last_packet_out}
use Rattle.machine.specs.Demands.{is_process, is_answered, Fate, cut as cut_off, delivered, fate, route_of}
use Rattle.machine.specs.Replays.{held_at, is_replay, SentAgain}
use Rattle.machine.specs.declared.Response.{Response}
use Rattle.machine.specs.declared.Phase.{Phase}
use Rattle.machine.specs.declared.Phase.TheVariants.{Idle, Receive, Process, Answered, Transmit}
use Rattle.machine.proofs.Fits.{Entry, entered, stayed}
use Rattle.machine.proofs.Tickets.{accepted_process}
use Rattle.machine.proofs.Histories.{Good, kept_by, next_unit, good_next, good_every}
use Rattle.machine.proofs.Lists.{run_on, run_then}
use Rattle.machine.proofs.Responses.{Turned, kept, came_in, answered, turned}
use Rattle.machine.proofs.Identity.{run_eid, run_unit, next_eid}
use Rattle.machine.proofs.Replays.{is_sent_again}
use Rattle.controller.specs.Grounds.{is_awaited, primitive_packet}
use Rattle.round_trip.specs.Response.{is_unsent, sent_until, Returned}
use Rattle.round_trip.specs.Replay.{ReplaySame, replay_of, ReplayReturns}
use Rattle.round_trip.proofs.Primitive.{is_acting, built}
use Rattle.round_trip.proofs.Response.{all_sent, response_arrives}
use Rattle.round_trip.proofs.Answer.{Since, since_run}

-- ---- while no other command comes in

-- the response is the same, and none is in Process
module _ (i : ℕ) (is : i ≤ 1) (first : ℕ) (response : List ℕ) where
  record Still (h : History) : Type 0 where
    good : Good h
    grown : first ≤ (h.trace i).entries
    same : (h.trace i).entries ≡ first → ((h.trace i).response ≡ response) × (is_process (phase_at h.world i) ≡ false)

  still_next : (c : Call) (h : History) → Still h → Still (next c h)
  unfolding next
  still_next c h s = by (turned i c h)
    where
      g : Good h
      g = s.good

      -- without an entry, a slot that was not in Process is not in Process
      outside : ((next c h).trace i).entries ≡ (h.trace i).entries → is_process (phase_at h.world i) ≡ false → is_process (phase_at (next c h).world i) ≡ false
      outside e p = go (kept_by c h g i is).entry
        where
          go : Entry (phase_at h.world i) (phase_at (step c h.world).world i) (h.trace i) (trace_after i c h.world (step c h.world) (h.trace i))
              → is_process (phase_at (step c h.world).world i) ≡ false
          go (entered _ _ n) = absurd (omega (arith, e, n))
          go (stayed _ back) = decide (is_process (phase_at (step c h.world).world i)) refl
            where
              decide : (b : Bool) → is_process (phase_at (step c h.world).world i) ≡ b → b ≡ false
              decide true q = false_true (sym p ∙ (back q).0)
              decide false q = refl

      by : Turned i c h (step c h.world).event (h.trace i) ((next c h).trace i) → Still (next c h)
      by (kept a b) =
          record {
            good = good_next c h g;
            grown = omega (arith, s.grown, b);
            same = λ k. let q = s.same (sym b ∙ k) in (a ∙ q.0, outside b q.1);
          }
      by (came_in p e v k n r) = record { good = good_next c h g; grown = omega (arith, s.grown, n); same = λ q. absurd (omega (arith, s.grown, n, q)) }
      by (answered t body e v n r) =
          record {
            good = good_next c h g;
            grown = omega (arith, s.grown, n);
            same =
                λ k.
                let q = s.same (sym n ∙ k) in
                false_true (sym q.1 ∙ accepted_process h.world i t body (ap (λ (x : Call). (step x h.world).event) (sym e) ∙ v));
          }

  still_run : (cs : List Call) (h : History) → Still h → Still (run cs h)
  unfolding run
  still_run [] h s = s
  still_run (c ∷ cs) h s = still_run cs (next c h) (still_next c h s)

-- ---- where a last packet was handed out, some of the calls were made

record Made (h d : History) : Type 0 where
  calls : List Call
  made : d ≡ run calls h

made_so : (i : ℕ) (ys : List Call) (h d : History) → fate i ys h ≡ delivered d → Made h d
unfolding fate run
made_so i [] h d e = differ (cc e)
made_so i (c ∷ cs) h d e = by (made_so i cs (next c h) d) (cuts i c h.world) (last_packet_out i c h) e
  where
    by : (fate i cs (next c h) ≡ delivered d → Made (next c h) d) → (x y : Bool) → ◌≡◌ {A = Fate} (if x then cut_off else if y then delivered (next c h) else fate i cs (next c h)) (delivered d)
        → Made h d
    by rest true y q = differ (cc q)
    by rest false true q = record { calls = c ∷ []; made = unfold run in (sym (same_history q)) }
      where
        same_history : {a b : History} → delivered a ≡ delivered b → a ≡ b
        same_history k = cc
    by rest false false q = let m = rest q in record { calls = c ∷ m.calls; made = m.made }

-- ---- the same bytes

routes : (i : ℕ) (h k : History) → k.world.endpoint.eid ≡ h.world.endpoint.eid → (k.trace i).requester ≡ (h.trace i).requester → (k.trace i).tag ≡ (h.trace i).tag
    → route_of k i ≡ route_of h i
routes i h k e r t =
    ap (λ (x : ℕ). record { destination = x; source = k.world.endpoint.eid; to = false; tag = (k.trace i).tag }) r
    ∙ ap (λ (x : ℕ). record { destination = (h.trace i).requester; source = x; to = false; tag = (k.trace i).tag }) e
    ∙ ap (λ (x : ℕ). record { destination = (h.trace i).requester; source = h.world.endpoint.eid; to = false; tag = x }) t

unsent_outside : (i : ℕ) (h : History) → is_unsent i h ≡ true → is_process (phase_at h.world i) ≡ false
unsent_outside i h u = by (phase_at h.world i) u
  where
    by : (p : Phase) → (is_answered p || (is_transmit p && eqb (h.trace i).packets 0)) ≡ true → is_process p ≡ false
    by (Idle held) k = refl
    by (Receive a) k = refl
    by (Process r) k = sym k
    by (Answered r) k = refl
    by (Transmit r) k = refl

-- a slot that a Replay sent to Transmit
again_unsent : (h : History) (i : ℕ) (p : List ℕ) → SentAgain h i p → is_unsent i (next (receive p) h) ≡ true
again_unsent h i p s = rw (s.in_transmit, s.none_went) (or-true (is_answered (phase_at (next (receive p) h).world i)))

module _ (h : History) (g : Good h) (i : ℕ) (is : i ≤ 1) (unsent : is_unsent i h ≡ true) (ys : List Call) (d : History) (out : fate i ys h ≡ delivered d) (zs : List Call)
    (alone : ((run zs d).trace i).entries ≡ (h.trace i).entries) where
  -- the history before the Replay, as one list of calls from the first sending on
  abbrev calls : List Call
  calls = (made_so i ys h d out).calls ++ zs

  later : run zs d ≡ run calls h
  later = ap (run zs) (made_so i ys h d out).made ∙ sym (run_on (made_so i ys h d out).calls zs h)

  still : Still i is (h.trace i).entries (h.trace i).response (run zs d)
  still = rw later (still_run i is (h.trace i).entries (h.trace i).response calls h (record { good = g; grown = omega arith; same = λ _. (refl, unsent_outside i h unsent) }))

  since : Since i (h.trace i).entries (h.trace i).requester (h.trace i).tag (run zs d)
  since = rw later (since_run i (h.trace i).entries (h.trace i).requester (h.trace i).tag calls h (record { grown = omega arith; asker = λ _. (refl, refl) }))

  same_eid : (run zs d).world.endpoint.eid ≡ h.world.endpoint.eid
  same_eid = rw later (run_eid calls h g)

  same_unit : (run zs d).world.endpoint.unit ≡ h.world.endpoint.unit
  same_unit = rw later (run_unit calls h g)

  same_bytes : (p : List ℕ) (r : Response) → held_at (run zs d).world i ≡ Some r → is_replay i (run zs d).world.endpoint.eid p ≡ true → (us : List Call) (k : History)
      → fate i us (next (receive p) (run zs d)) ≡ delivered k → sent_until i us (next (receive p) (run zs d)) ≡ sent_until i ys h
  same_bytes p r e acted us k again =
      let m = run zs d in
      let gm = still.good in
      let s = is_sent_again m gm p i is acted r e in
      let k₁ = next (receive p) m in
      let first = (all_sent i is h g unsent ys d out).0 in
      let second = (all_sent i is k₁ (good_next (receive p) m gm) (again_unsent m i p s) us k again).0 in
      let response_is : (k₁.trace i).response ≡ (h.trace i).response = s.same_response ∙ (still.same alone).0 in
      let route_is : route_of k₁ i ≡ route_of h i =
      routes i h k₁ (next_eid (receive p) m gm ∙ same_eid) (s.same_requester ∙ (since.asker alone).0) (s.same_tag ∙ (since.asker alone).1) in
      second ∙ ap (λ (u : ℕ). cut u (route_of k₁ i) (k₁.trace i).response) (next_unit (receive p) m gm ∙ same_unit)
      ∙ ap (λ (x : Route). cut (unit_of h.world) x (k₁.trace i).response) route_is ∙ ap (cut (unit_of h.world) (route_of h i)) response_is ∙ sym first

pub replay_same : ReplaySame
replay_same eid unit store0 store1 a b xs i is unsent ys d out zs p r alone e acted us k again =
    same_bytes (run xs (start eid unit store0 store1)) (good_every eid unit store0 store1 a b xs) i is unsent ys d out zs alone p r e acted us k again

-- ---- from the requester's primitive on

is_replay_lem : (eid source tag i primitive_tag : ℕ) → tag ≤ 7 → i ≤ 1 → is_replay i eid (primitive_packet source eid tag (replay_of i primitive_tag)) ≡ true
unfolding with_check
is_replay_lem eid source tag i primitive_tag t is = let a = is_acting eid source tag (replay_of i primitive_tag) t is in rw (a.0, a.1) refl

pub replay_returns : ReplayReturns
replay_returns eid unit store0 store1 a b xs i is held e r tag primitive_tag buffer v t room =
    let h = run xs (start eid unit store0 store1) in
    let g = good_every eid unit store0 store1 a b xs in
    let own = h.world.endpoint.eid in
    let c = built r own tag (replay_of i primitive_tag) buffer v t is room in
    let p = primitive_packet r.eid own tag (replay_of i primitive_tag) in
    let s = is_sent_again h g p i is (is_replay_lem own r.eid tag i primitive_tag t is) held e in
    (c.0, rw c.1 (record { is_sent_again = s; returned = λ ys k out. back eid unit store0 store1 a b xs i is p s ys k out }))
  where
    back : (eid unit : ℕ) (store0 store1 : List ℕ) → length store0 ≡ 4224 → length store1 ≡ 4224 → (xs : List Call) (i : ℕ) → i ≤ 1 → (p : List ℕ)
        → SentAgain (run xs (start eid unit store0 store1)) i p → (ys : List Call) (k : History) → fate i ys (next (receive p) (run xs (start eid unit store0 store1))) ≡ delivered k
        → Returned i (run xs (start eid unit store0 store1)) (sent_until i ys (next (receive p) (run xs (start eid unit store0 store1))))
    back eid unit store0 store1 a b xs i is p s ys k out =
        let begin = start eid unit store0 store1 in
        let h = run xs begin in
        let g = good_every eid unit store0 store1 a b xs in
        let k₁ = next (receive p) h in
        let join : run (xs ++ (receive p ∷ [])) begin ≡ k₁ = run_then xs (receive p) begin in
        let got : Returned i k₁ (sent_until i ys k₁) =
        rw join at (response_arrives eid unit store0 store1 a b (xs ++ (receive p ∷ [])) i is (rw join (again_unsent h i p s)) ys k (rw join out)) in
        let route_is : route_of k₁ i ≡ route_of h i = routes i h k₁ (next_eid (receive p) h g) s.same_requester s.same_tag in
        record {
          packets_are =
              got.packets_are ∙ ap (λ (u : ℕ). cut u (route_of k₁ i) (k₁.trace i).response) (next_unit (receive p) h g)
              ∙ ap (λ (x : Route). cut (unit_of h.world) x (k₁.trace i).response) route_is ∙ ap (cut (unit_of h.world) (route_of h i)) s.same_response;
          gathered =
              λ q v size ours one awaited.
              rw s.same_response at (got.gathered q v size (ours ∙ sym s.same_requester) (one ∙ sym (next_unit (receive p) h g))
              (ap (λ (x : ℕ). is_awaited x (k₁.trace i).tag q.requester.awaiting) (next_eid (receive p) h g)
              ∙ ap (λ (x : ℕ). is_awaited h.world.endpoint.eid x q.requester.awaiting) s.same_tag ∙ awaited));
        }
