-- A response that is there goes out whole, also where it first waits under its slot's pause flag.
-- Assumes nothing.
use Prim.Native.Nat.{ℕ, zero, suc, ◌+◌, ◌≤◌, ◌<◌}
use mathlib.Core.Path.{◌≡◌, refl, sym, ap, ◌∙◌}
use mathlib.Core.Bool.{Bool, true, false, not, ◌&&◌}
use mathlib.Core.List.{List, [], ◌∷◌}
use native.Mathlib.Nat.{mul-zero}
use native.Mathlib.Omega.{arith}
use lib.Dec.{eqb}
use lib.ListN.{length}
use Rattle.std.specs.Prelude.{if◌then◌else◌}
use Rattle.lent.proofs.Choice.{false_true}
use Rattle.mctp.proofs.Laws.{packets_bounds}
use Rattle.nvme_mi.specs.Check.{with_check}
use Rattle.machine.specs.State.{World, outgoing, slot_at, store_at}
use Rattle.machine.specs.Valid.{PhaseFacts}
use Rattle.machine.specs.Calls.{Call, receive, complete, poll, is_plain, Event, number, given, part_read, handed_out, Stepped, step}
use Rattle.machine.specs.History.{Trace, History, phase_at, paused_at, is_packet_of, is_for, request_with, response_for, fixed_at_entry, commanded, counts, next, run, start, cuts, packets_left, last_packet_out, unit_of, has_room}
use Rattle.machine.specs.Demands.{cut, delivered, fate, Within, polls_for, most_polls, is_process, AnswerArrives, ErrorArrives}
use Rattle.machine.specs.Types.{Ticket, Response, Outgoing, Phase, Idle, Receive, Process, Answered, Transmit}
use Rattle.machine.proofs.Slots.{is_early, facts_at}
use Rattle.machine.proofs.Fits.{Asked, Steady, same, newly, released, handed_over, worked, fell, settled_late, There, waits, goes, answered_not}
use Rattle.machine.proofs.Polling.{PollCase, still, replies, sends, poll_case}
use Rattle.machine.proofs.Histories.{Good, by_kind, plain_carries, next_unit, good_next, good_every}
use Rattle.machine.proofs.Traces.{sent_cases}
use Rattle.machine.proofs.Tickets.{accepted_process, completion}
use Rattle.machine.proofs.Responses.{came_in_so, response_kept}
use Rattle.machine.proofs.Delivery.{mute, from_here, within_more}

-- ---- while a response waits under its flag, no poll is counted and no packet of it goes

paused_first : (x b : Bool) → (x && (not true && not b)) ≡ false
paused_first true b = refl
paused_first false b = refl

paused_second : (x a : Bool) → (x && (not a && not true)) ≡ false
paused_second true true = refl
paused_second true false = refl
paused_second false a = refl

held_poll : (i : ℕ) → i ≤ 1 → (buffer : List ℕ) (w : World) → paused_at w i ≡ true → counts (poll buffer) w ≡ false
held_poll zero is buffer w e = rw e (paused_first (has_room w buffer) (paused_at w 1))
held_poll (suc zero) is buffer w e = rw e (paused_second (has_room w buffer) (paused_at w 0))
held_poll (suc (suc n)) is buffer w e = absurd (omega arith)

held : (i : ℕ) → i ≤ 1 → (c : Call) (w : World) → paused_at w i ≡ true → counts c w ≡ false
held i is c w e = by_kind (λ (c : Call). counts c w ≡ false) plain_uncounted (λ buffer. held_poll i is buffer w e) refl c
  where
    plain_uncounted : (c : Call) → is_plain c ≡ true → counts c w ≡ false
    plain_uncounted c plain = (mute c w plain).not_counted

counted_same : (i : ℕ) → i ≤ 1 → (c : Call) (h : History) → paused_at h.world i ≡ true → (next c h).counted ≡ h.counted
unfolding next
counted_same i is c h e = rw (held i is c h.world e) (omega arith)

not_packet : (r : Response) (q : Phase) (v : Event) → is_packet_of (Answered r) q v ≡ false
not_packet r q (number n) = refl
not_packet r q (given t) = refl
not_packet r q (part_read s) = refl
not_packet r q (handed_out s) = refl

not_last : (i : ℕ) (c : Call) (h : History) (r : Response) → phase_at h.world i ≡ Answered r → last_packet_out i c h ≡ false
not_last i c h r a = go (phase_at h.world i) a
  where
    go : (p : Phase) → p ≡ Answered r → (is_packet_of p (phase_at (next c h).world i) (step c h.world).event && eqb (packets_left i (next c h)) 0) ≡ false
    go p e = rw (e, not_packet r (phase_at (next c h).world i) (step c h.world).event) refl

flag_set : (i : ℕ) → i ≤ 1 → (h : History) → Good h → (r : Response) → phase_at h.world i ≡ Answered r → paused_at h.world i ≡ true
flag_set i is h g r a = let f : PhaseFacts (unit_of h.world) (slot_at h.world.endpoint i).paused (Answered r) = rw a at (facts_at i is g.sound.state) in f.0

-- ---- a response that waits

-- one that waits is there still after a call that does not cut the slot off
on_steady : {C : Type 0} {p q : Phase} (r : Response) → Steady C p q → p ≡ Answered r → (C → ⊥) → There q
on_steady r (same e) a n = waits r (e ∙ a)
on_steady r (newly x y) a n = false_true (rw a at x)
on_steady r (released x b d) a n = goes (outgoing x 0) d
on_steady r (handed_over x can b d) a n = answered_not (sym a ∙ b)
on_steady r (worked x b y d e) a n = answered_not (sym a ∙ d)
on_steady r (fell c e) a n = absurd (n c)

plain_after : (i : ℕ) → i ≤ 1 → (c : Call) (h : History) → Good h → is_plain c ≡ true → cuts i c h.world ≡ false → (r : Response) → phase_at h.world i ≡ Answered r
    → There (phase_at (step c h.world).world i)
plain_after i is c h g p n r a = on_steady r ((plain_carries c h g p).carried i is).steady a (λ b. false_true (sym n ∙ b))

poll_after : (i : ℕ) → i ≤ 1 → (buffer : List ℕ) (h : History) → Good h → (r : Response) → phase_at h.world i ≡ Answered r → There (phase_at (step (poll buffer) h.world).world i)
poll_after i is buffer h g r a = by (poll_case h.world buffer g.sound)
  where
    by : {s : Stepped} → PollCase h.world buffer s → There (phase_at s.world i)
    by (still n _) = waits r a
    by (replies _ _ _) = waits r a
    by (sends k q c counted) = false_true (sym (held_poll i is buffer h.world (flag_set i is h g r a)) ∙ counted)

after : (i : ℕ) → i ≤ 1 → (c : Call) (h : History) → Good h → cuts i c h.world ≡ false → (r : Response) → phase_at h.world i ≡ Answered r
    → There (phase_at (next c h).world i)
unfolding next
after i is c h g n r a =
    by_kind (λ (c : Call). cuts i c h.world ≡ false → There (phase_at (step c h.world).world i)) (λ c plain m. plain_after i is c h g plain m r a)
    (λ buffer _. poll_after i is buffer h g r a) (λ m. false_true (sym m)) c n

-- ---- along the list

abbrev Goes : ℕ → ℕ → List ℕ → List Call → Type 0
Goes i most response ys = (h : History) → Good h → There (phase_at h.world i) → (h.trace i).response ≡ response → h.counted + most_polls (unit_of h.world) ≤ most → Within most i response (fate i ys h)

-- it is being sent
sent_out : (i most : ℕ) (response : List ℕ) → i ≤ 1 → (ys : List Call) (h : History) → Good h → (r : Outgoing) → phase_at h.world i ≡ Transmit r
    → (h.trace i).response ≡ response → h.counted + most_polls (unit_of h.world) ≤ most → Within most i response (fate i ys h)
sent_out i most response is ys h g r t k b =
    let d = from_here i is h g r t ys in
    within_more i (h.counted + polls_for (unit_of h.world) (packets_left i h)) most response (fate i ys h) (omega (arith, d.1))
    (about (h.counted + polls_for (unit_of h.world) (packets_left i h)) (h.trace i).response k d.2)
  where
    about : (n : ℕ) (x : List ℕ) → x ≡ response → Within n i x (fate i ys h) → Within n i response (fate i ys h)
    about n x e w = rw (sym e) w

goes_on : (i most : ℕ) (response : List ℕ) → i ≤ 1 → (c : Call) (cs : List Call) → Goes i most response cs → Goes i most response (c ∷ cs)
unfolding fate
goes_on i most response is c cs rest h g (goes r t) k b = sent_out i most response is (c ∷ cs) h g r t k b
goes_on i most response is c cs rest h g (waits r a) k b = by (cuts i c h.world) refl
  where
    by : (x : Bool) → cuts i c h.world ≡ x
        → Within most i response (if x then cut else if last_packet_out i c h then delivered (next c h) else fate i cs (next c h))
    by true e = tt
    by false e =
        let n = counted_same i is c h (flag_set i is h g r a) in
        let u = ap most_polls (next_unit c h g) in
        rw (not_last i c h r a)
        (rest (next c h) (good_next c h g) (after i is c h g e r a) (response_kept i is c h g (ap is_early a) (ap is_process a) ∙ k) (omega (arith, n, u)))

-- some polls are always allowed
some_polls : (h : History) → Good h → 0 < most_polls (unit_of h.world)
some_polls h g =
    let n = g.sound.state.numbers in
    omega (arith, (packets_bounds (unit_of h.world) 4224 0 (omega (arith, n.unit_least))).1 (rw mul-zero (omega arith)))

pub goes_out : (i most : ℕ) (response : List ℕ) → i ≤ 1 → (ys : List Call) → Goes i most response ys
unfolding fate
goes_out i most response is [] h g t k b = omega (arith, some_polls h g)
goes_out i most response is (c ∷ cs) h g t k b = goes_on i most response is c cs (goes_out i most response is cs) h g t k b

-- ---- a response that the history has is there, where its slot is in Process or behind it

pub there_by : (i : ℕ) → i ≤ 1 → (h : History) → Good h → is_early (phase_at h.world i) ≡ false → ((h.trace i).response ≡ [] → ⊥) → There (phase_at h.world i)
there_by i is h g late some = by (phase_at h.world i) refl late
  where
    by : (p : Phase) → phase_at h.world i ≡ p → is_early p ≡ false → There p
    by (Idle held) t n = false_true (sym n)
    by (Receive a) t n = false_true (sym n)
    by (Process r) t n = let k : Asked r (store_at h.world i) (h.trace i) = rw t at (g.fits i is).phase_fits in absurd (some k.unfixed)
    by (Answered r) t n = waits r refl
    by (Transmit r) t n = goes r refl

-- ---- a completion that is accepted

pub process_early : {A : Type 0} (p : Phase) → is_early p ≡ true → is_process p ≡ true → A
process_early (Idle held) x a = false_true a
process_early (Receive r) x a = false_true a
process_early (Process r) x a = false_true x
process_early (Answered r) x a = false_true x
process_early (Transmit r) x a = false_true x

-- a command in Process is behind Receive still, after a call that does not cut its slot off
late_steady : {C : Type 0} {p q : Phase} → Steady C p q → is_process p ≡ true → (C → ⊥) → is_early q ≡ false
late_steady {p = p} (same e) a n = rw e (process_late p a)
  where
    process_late : (p : Phase) → is_process p ≡ true → is_early p ≡ false
    process_late (Idle held) h = sym h
    process_late (Receive a) h = sym h
    process_late (Process r) h = refl
    process_late (Answered r) h = refl
    process_late (Transmit r) h = refl
late_steady {p = p} (newly x y) a n = process_early p x a
late_steady (released x b d) a n = rw d refl
late_steady (handed_over x can b d) a n = rw d refl
late_steady (worked x b y d e) a n = ap is_early e ∙ settled_late b y
late_steady (fell c e) a n = absurd (n c)

pub filled : (i : ℕ) (request body : List ℕ) → response_for i request body ≡ [] → ⊥
unfolding with_check
filled i request body e = omega (arith, ap (λ (s : List ℕ). length s) e)

complete_late : (h : History) → Good h → (i : ℕ) → i ≤ 1 → (t : Ticket) (body : List ℕ) → (step (complete i t body) h.world).event ≡ number 0
    → is_early (phase_at (next (complete i t body) h).world i) ≡ false
unfolding next
complete_late h g i is t body e =
    late_steady ((plain_carries (complete i t body) h g refl).carried i is).steady (accepted_process h.world i t body e) (λ q. false_true q)

complete_uncounted : (h : History) (i : ℕ) (t : Ticket) (body : List ℕ) → (next (complete i t body) h).counted ≡ h.counted
unfolding next
complete_uncounted h i t body = omega arith

pub answer_arrives : AnswerArrives
answer_arrives eid unit store0 store1 a b xs ys i is t body e =
    let h = run xs (start eid unit store0 store1) in
    let g = good_every eid unit store0 store1 a b xs in
    let g₁ = good_next (complete i t body) h g in
    let fixed = completion h i t body e in
    goes_out i (h.counted + most_polls (unit_of h.world)) (response_for i (h.trace i).request body) is ys (next (complete i t body) h) g₁
    (there_by i is (next (complete i t body) h) g₁ (complete_late h g i is t body e) (λ n. filled i (h.trace i).request body (sym fixed ∙ n)))
    fixed (omega (arith, complete_uncounted h i t body, ap most_polls (next_unit (complete i t body) h g)))

-- ---- an error at entry

pub receive_uncounted : (h : History) (p : List ℕ) → (next (receive p) h).counted ≡ h.counted
unfolding next
receive_uncounted h p = omega arith

-- the trace of a command that came in
pub entry_trace : (h : History) (i : ℕ) (p : List ℕ) → (step (receive p) h.world).event ≡ number 1 → is_for i p h.world ≡ true
    → (((next (receive p) h).trace i).response ≡ fixed_at_entry i (request_with p (h.trace i))) × (((next (receive p) h).trace i).entries ≡ (h.trace i).entries + 1)
unfolding next
entry_trace h i p e k =
    let k = go (step (receive p) h.world).event e in
    sent_cases After (phase_at h.world i) (phase_at (step (receive p) h.world).world i) (step (receive p) h.world).event _ k (λ n s. k)
  where
    After : Trace → Type 0
    After l = (l.response ≡ fixed_at_entry i (request_with p (h.trace i))) × (l.entries ≡ (h.trace i).entries + 1)

    go : (v : Event) → v ≡ number 1 → After (commanded i (receive p) h.world v (h.trace i))
    go v q = rw (q, k) (refl, refl)

pub error_arrives : ErrorArrives
error_arrives eid unit store0 store1 a b xs ys i is p e k some =
    let h = run xs (start eid unit store0 store1) in
    let g = good_every eid unit store0 store1 a b xs in
    let g₁ = good_next (receive p) h g in
    let l = entry_trace h i p e k in
    goes_out i (h.counted + most_polls (unit_of h.world)) (fixed_at_entry i (request_with p (h.trace i))) is ys (next (receive p) h) g₁
    (there_by i is (next (receive p) h) g₁ (came_in_so i is (receive p) h g l.1).1 (λ n. some (sym l.0 ∙ n)))
    l.0 (omega (arith, receive_uncounted h p, ap most_polls (next_unit (receive p) h g)))
