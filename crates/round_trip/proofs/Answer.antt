-- AN ANSWER COMES BACK TO ITS QUESTION: the way there, `answers_own` and the way back, one after the other; and no call between changes who asked.
-- Assumes nothing.
use Prim.Native.Nat.{ℕ, ◌+◌, ◌≤◌, ◌^◌, ◌<◌}
use mathlib.Core.Path.{◌≡◌, refl, sym, ap, ◌∙◌}
use mathlib.Core.Bool.{Bool, true, false}
use mathlib.Core.List.{List, [], ◌∷◌, ◌++◌}
use native.Mathlib.Omega.{arith}
use lib.ListN.{length, take}
use Rattle.lent.proofs.Choice.{false_true, differ}
use Rattle.opening.proofs.Joining.{front_of}
use Rattle.machine.specs.State.{World, store_at, outgoing, settled}
use Rattle.machine.specs.Finish.{taken_request}
use Rattle.machine.specs.Calls.{Call, take!, complete, Event, number, given, step}
use Rattle.machine.specs.History.{Trace, sending, History, phase_at, response_for, next, run, start}
use Rattle.machine.specs.Demands.{is_process, Own}
use Rattle.machine.specs.Replies.{csi_of}
use Rattle.machine.specs.declared.Ticket.{Ticket}
use Rattle.machine.specs.declared.Response.{Response}
use Rattle.machine.specs.declared.Phase.{Phase}
use Rattle.machine.specs.declared.Phase.TheVariants.{Idle, Receive, Process, Answered, Transmit}
use Rattle.machine.proofs.Receiving.{csi_most}
use Rattle.machine.proofs.Fits.{Asked, Going, FitP, Steady, same, newly, released, handed_over, worked, fell}
use Rattle.machine.proofs.Lists.{run_on, run_then}
use Rattle.machine.proofs.Traces.{Adds, nothing, a_payload, an_entry, a_take, a_completion, a_declaration, adds, sent_cases}
use Rattle.machine.proofs.Tickets.{accepted_process, answers_own, gave, take_keeps, since_run as request_since}
use Rattle.machine.proofs.Histories.{Good, plain_carries, good_next, good_run, good_every}
use Rattle.machine.proofs.Responses.{Turned, kept, came_in, answered, turned}
use Rattle.machine.proofs.Arrives.{filled, process_early}
use Rattle.machine.proofs.Identity.{identity_kept}
use Rattle.controller.specs.Send.{cut_to}
use Rattle.controller.specs.Grounds.{is_awaited, packets_in}
use Rattle.controller.proofs.Arrival.{awaited_small}
use Rattle.round_trip.specs.Command.{receives, world_after, command_of}
use Rattle.round_trip.specs.Response.{is_unsent, sent_until, Returned}
use Rattle.round_trip.specs.Answer.{asked, AnswerReturns, after_take, before_completion, completed}
use Rattle.round_trip.proofs.Endpoint.{Entered}
use Rattle.round_trip.proofs.Command.{command_entered}
use Rattle.round_trip.proofs.Response.{response_arrives}

-- ---- who asked

-- the same sender, tag and count of commands, or one command more
data Asks (l m : Trace) : Type 0 where
  by_same : m.requester ≡ l.requester → m.tag ≡ l.tag → m.entries ≡ l.entries → Asks l m
  by_another : m.entries ≡ l.entries + 1 → Asks l m

asks_by : {i : ℕ} {c : Call} {w : World} {v : Event} {l m : Trace} → Adds i c w v l m → Asks l m
asks_by nothing = by_same refl refl refl
asks_by (a_payload p e v k) = by_same refl refl refl
asks_by (an_entry p e v k) = by_another refl
asks_by (a_take t e v) = by_same refl refl refl
asks_by (a_completion t body e v) = by_same refl refl refl
asks_by (a_declaration t can e v) = by_same refl refl refl

asks_next : (i : ℕ) (c : Call) (h : History) → Asks (h.trace i) ((next c h).trace i)
unfolding next
asks_next i c h =
    let k = asks_by (adds i c h.world (step c h.world).event (h.trace i)) in
    sent_cases (Asks (h.trace i)) (phase_at h.world i) (phase_at (step c h.world).world i) (step c h.world).event _ k (λ n s. over k)
  where
    over : {n : ℕ} {s : List ℕ} {m : Trace} → Asks (h.trace i) m → Asks (h.trace i) (sending m n s)
    over (by_same a b e) = by_same a b e
    over (by_another e) = by_another e

-- along a list: while no other command has come, the one who asked is the same
module _ (i first requester tag : ℕ) where
  pub record Since (h : History) : Type 0 where
    pub grown : first ≤ (h.trace i).entries
    pub asker : (h.trace i).entries ≡ first → ((h.trace i).requester ≡ requester) × ((h.trace i).tag ≡ tag)

  since_next : (c : Call) (h : History) → Since h → Since (next c h)
  since_next c h s = by (asks_next i c h)
    where
      by : Asks (h.trace i) ((next c h).trace i) → Since (next c h)
      by (by_same a b e) = record { grown = omega (arith, s.grown, e); asker = λ k. let q = s.asker (sym e ∙ k) in (a ∙ q.0, b ∙ q.1) }
      by (by_another e) = record { grown = omega (arith, s.grown, e); asker = λ k. absurd (omega (arith, s.grown, e, k)) }

  pub since_run : (cs : List Call) (h : History) → Since h → Since (run cs h)
  unfolding run
  since_run [] h s = s
  since_run (c ∷ cs) h s = since_run cs (next c h) (since_next c h s)

-- ---- a completion that is accepted leaves its response unsent

complete_entries : (i : ℕ) (t : Ticket) (body : List ℕ) (h : History) → ((next (complete i t body) h).trace i).entries ≡ (h.trace i).entries
complete_entries i t body h = by (turned i (complete i t body) h)
  where
    by : Turned i (complete i t body) h (step (complete i t body) h.world).event (h.trace i) ((next (complete i t body) h).trace i)
        → ((next (complete i t body) h).trace i).entries ≡ (h.trace i).entries
    by (kept a b) = b
    by (came_in p e v k n r) = differ (cc e)
    by (answered t body e v n r) = n

-- its phase then: waiting under the flag, or in Transmit with no packet gone
data Fresh (q : Phase) : Type 0 where
  waits : (r : Response) → q ≡ Answered r → Fresh q
  goes : (r : Response) → q ≡ Transmit (outgoing r 0) → Fresh q

settled_fresh : (b : Bool) (r : Response) {q : Phase} → q ≡ settled b r → Fresh q
settled_fresh true r e = waits r e
settled_fresh false r e = goes r e

fresh_after : {C : Type 0} {p q : Phase} (unit : ℕ) (store : List ℕ) (l : Trace) → Steady C p q → is_process p ≡ true → (C → ⊥) → FitP unit q store l → (l.response ≡ [] → ⊥) → Fresh q
fresh_after {p = p} {q = q} unit store l (same e) a n f there = by q (ap is_process e ∙ a) f
  where
    by : (q : Phase) → is_process q ≡ true → FitP unit q store l → Fresh q
    by (Idle held) k f = false_true k
    by (Receive x) k f = false_true k
    by (Process r) k f = absurd (there f.unfixed)
    by (Answered r) k f = false_true k
    by (Transmit r) k f = false_true k
fresh_after {p = p} unit store l (newly x y) a n f there = process_early p x a
fresh_after unit store l (released x b d) a n f there = false_true (sym (ap is_process b) ∙ a)
fresh_after unit store l (handed_over x can b d) a n f there =
    let k : FitP unit (Process (taken_request x can)) store l = rw d at f in absurd (there k.unfixed)
fresh_after unit store l (worked x b y d e) a n f there = settled_fresh b y e
fresh_after unit store l (fell c e) a n f there = absurd (n c)

fresh_unsent : (i : ℕ) → i ≤ 1 → (h : History) → Good h → Fresh (phase_at h.world i) → is_unsent i h ≡ true
fresh_unsent i is h g (waits r e) = rw e refl
fresh_unsent i is h g (goes r e) =
    let on : Going h.world.endpoint.unit (outgoing r 0) (store_at h.world i) (h.trace i) = rw e at (g.fits i is).phase_fits in
    rw (e, on.count) refl

-- ---- the world after a list of calls

world_run : (xs : List Call) (h : History) → (run xs h).world ≡ world_after xs h.world
unfolding run world_after next
world_run [] h = refl
world_run (c ∷ cs) h = world_run cs (next c h)

-- ---- the whole

run_last : (c d : Call) (cs : List Call) (h : History) → run (c ∷ (cs ++ (d ∷ []))) h ≡ next d (run cs (next c h))
unfolding run
run_last c d cs h = run_then cs d (next c h)

-- the list up to the completion, in a history in which the command has come
module _ (h₁ : History) (g₁ : Good h₁) (w₀ : World) (source tag : ℕ) (m body : List ℕ) (t : Ticket) (us ys : List Call) (e₁ : Entered w₀ source tag m h₁.world)
    (alone : ((run us h₁).trace (csi_of m)).entries ≡ (h₁.trace (csi_of m)).entries) (took : (step (take! (csi_of m)) (run us h₁).world).event ≡ given t)
    (own : Own (run us h₁) (before_completion (csi_of m) us ys h₁) (csi_of m) t body) where
  abbrev i : ℕ
  i = csi_of m

  abbrev h₂ : History
  h₂ = after_take i us h₁

  abbrev k : History
  k = before_completion i us ys h₁

  abbrev k₁ : History
  k₁ = completed i us ys t body h₁

  is : i ≤ 1
  is = csi_most m

  g₂ : Good h₂
  g₂ = good_next (take! i) (run us h₁) (good_run us h₁ g₁)

  gk : Good k
  gk = good_run ys h₂ g₂

  came : Asked (command_of source tag m) (store_at h₁.world i) (h₁.trace i)
  came = rw e₁.in_process at (g₁.fits i is).phase_fits

  -- the request that was taken is the command, and the response is its own
  request_is : (h₂.trace i).request ≡ m
  request_is =
      let first : (h₁.trace i).request ≡ m = sym came.held ∙ ap (take (length m)) e₁.store_is ∙ front_of m (store_at w₀ i) in
      let there : is_process (phase_at (run us h₁).world i) ≡ true = ap is_process (gave (run us h₁).world (good_run us h₁ g₁).sound i t took).in_process in
      (take_keeps (run us h₁) i).request_is
      ∙ (request_since i is (h₁.trace i).entries m us h₁ g₁ (record { grown = omega arith; kept = λ _ _. first })).kept alone there

  response_is : (k₁.trace i).response ≡ response_for i m body
  response_is = own.fixes ∙ ap (λ (x : List ℕ). response_for i x body) request_is

  -- it goes to the one who asked
  asker_is : ((k₁.trace i).requester ≡ source) × ((k₁.trace i).tag ≡ tag)
  asker_is =
      let first = (h₁.trace i).entries in
      let from : Since i first source tag h₁ = record { grown = omega arith; asker = λ _. (sym came.from, sym came.under) } in
      let to_k = since_run i first source tag ys h₂ (since_next i first source tag (take! i) (run us h₁) (since_run i first source tag us h₁ from)) in
      (since_next i first source tag (complete i t body) k to_k).asker (complete_entries i t body k ∙ own.command.no_entry ∙ alone)

  unsent_is : (step (complete i t body) k.world).event ≡ number 0 → is_unsent i k₁ ≡ true
  unsent_is done =
      let gk₁ = good_next (complete i t body) k gk in
      let process = accepted_process k.world i t body done in
      let steady = ((plain_carries (complete i t body) k gk refl).carried i is).steady in
      let fits : FitP k₁.world.endpoint.unit (phase_at (step (complete i t body) k.world).world i) (store_at k₁.world i) (k₁.trace i) = unfold next in (gk₁.fits i is).phase_fits in
      let fresh : Fresh (phase_at (step (complete i t body) k.world).world i) =
      fresh_after k₁.world.endpoint.unit (store_at k₁.world i) (k₁.trace i) steady process (λ q. false_true q) fits (λ n. filled i m body (sym response_is ∙ n)) in
      fresh_unsent i is k₁ gk₁ (fresh_next fresh)
    where
      fresh_next : Fresh (phase_at (step (complete i t body) k.world).world i) → Fresh (phase_at k₁.world i)
      fresh_next f = unfold next in f

pub answer_returns : AnswerReturns
answer_returns eid unit store0 store1 a b xs s tag m buffer v size one awaited good room idle none t body us ys zs d alone took few done out =
    let i = csi_of m in
    let begin = start eid unit store0 store1 in
    let h = run xs begin in
    let g = good_every eid unit store0 store1 a b xs in
    let ps = packets_in s.requester.unit m (cut_to s.requester h.world.endpoint.eid tag m buffer) in
    let h₁ = asked h s tag m buffer in
    let g₁ = good_run (receives ps) h g in
    let k₁ = completed i us ys t body h₁ in
    let small = (awaited_small s.requester.unit h.world.endpoint.eid tag s.requester.awaiting v.awaiting_facts awaited).0 in
    let e₁ : Entered h.world s.requester.eid tag m h₁.world =
    rw (world_run (receives ps) h) (command_entered h.world s.requester tag m buffer g.sound v one small good room idle none) in
    let join₁ : run ((xs ++ receives ps) ++ us) begin ≡ run us h₁ = run_on (xs ++ receives ps) us begin ∙ ap (run us) (run_on xs (receives ps) begin) in
    let most : ((before_completion i us ys h₁).trace i).entries < ((run us h₁).trace i).entries + 2 ^ 32 = rw alone few in
    let own : Own (run us h₁) (before_completion i us ys h₁) i t body =
    rw join₁ at (answers_own eid unit store0 store1 a b ((xs ++ receives ps) ++ us) i t (rw join₁ took) ys body (rw join₁ most) (rw join₁ done)) in
    let calls = ((xs ++ receives ps) ++ us) ++ (take! i ∷ (ys ++ (complete i t body ∷ []))) in
    let join₂ : run calls begin ≡ k₁ =
    run_on ((xs ++ receives ps) ++ us) (take! i ∷ (ys ++ (complete i t body ∷ []))) begin
    ∙ ap (run (take! i ∷ (ys ++ (complete i t body ∷ [])))) join₁ ∙ run_last (take! i) (complete i t body) ys (run us h₁) in
    let unsent = unsent_is h₁ g₁ h.world s.requester.eid tag m body t us ys e₁ alone took own done in
    let back : Returned i k₁ (sent_until i zs k₁) = rw join₂ at (response_arrives eid unit store0 store1 a b calls i (csi_most m) (rw join₂ unsent) zs d (rw join₂ out)) in
    let who = asker_is h₁ g₁ h.world s.requester.eid tag m body t us ys e₁ alone took own in
    let at_end = identity_kept eid unit store0 store1 a b calls in
    let at_start = identity_kept eid unit store0 store1 a b xs in
    let same_eid : k₁.world.endpoint.eid ≡ h.world.endpoint.eid = ap (λ (x : History). x.world.endpoint.eid) (sym join₂) ∙ at_end.eid_is ∙ sym at_start.eid_is in
    let same_unit : k₁.world.endpoint.unit ≡ h.world.endpoint.unit = ap (λ (x : History). x.world.endpoint.unit) (sym join₂) ∙ at_end.unit_is ∙ sym at_start.unit_is in
    let got =
    back.gathered s v size (sym who.0) (one ∙ sym same_unit)
    (ap (λ (x : ℕ). is_awaited x (k₁.trace i).tag s.requester.awaiting) same_eid ∙ ap (λ (x : ℕ). is_awaited h.world.endpoint.eid x s.requester.awaiting) who.1 ∙ awaited) in
    rw (response_is h₁ g₁ h.world s.requester.eid tag m body t us ys e₁ alone took own) at got
