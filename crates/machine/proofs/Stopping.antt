-- Whether a taken command can still be stopped: what the state has of it, what an Abort reports, and that a command which is told as stopped has no
-- leave to begin and gets none.
-- Assumes nothing.
use Prim.Native.Nat.{ℕ, ◌%◌, ◌≤◌}
use mathlib.Core.Path.{◌≡◌, refl, sym, ap, ◌∙◌}
use mathlib.Core.Bool.{Bool, true, false, not, ◌||◌, and-false}
use mathlib.Core.List.{List, [], ◌∷◌, ◌++◌}
use native.Mathlib.Omega.{arith}
use lib.Dec.{eqb}
use lib.ListN.{length}
use borrow.Author.Tests.{eq-eqb, eqb-true}
use Rattle.std.specs.Prelude.{None, Ok, if◌then◌else◌}
use Rattle.lent.specs.Bytes.{byte_at}
use Rattle.std.proofs.lemmas.Bool.{and_parts}
use Rattle.lent.proofs.Choice.{false_true, differ}
use Rattle.nvme_mi.specs.Check.{with_check}
use Rattle.machine.specs.State.{World, slot_at, reply_message}
use Rattle.machine.specs.Receive.{received}
use Rattle.machine.specs.Finish.{presented, was_declared}
use Rattle.machine.specs.Valid.{phased}
use Rattle.machine.specs.Calls.{Call, receive, declare, Event, number, step}
use Rattle.machine.specs.History.{Trace, History, bytes_from4, source_of, message_tag_of, phase_at, receives_from, commanded, sending, is_primitive, is_abort, next, run, start}
use Rattle.machine.specs.Demands.{is_process, declares}
use Rattle.machine.specs.Replies.{csi_of, no_cpsp, slot_found, aborted_process, aborted_in, cpsr_of, reply_of}
use Rattle.machine.specs.Stopping.{taking_since, MarkIs, NotRevoked, no_call, one_more, DeclaredBy, by_declaration, MarkOwn, DeclareMarks, told_of, abort_told, AbortTells, NoEffect, never_taken, still_can, ToldStopped}
use Rattle.machine.specs.Types.{Ticket, Taking, Untaken, Taken, Request, Phase, Idle, Receive, Process, Answered, Transmit, Endpoint}
use Rattle.machine.proofs.Cases.{Match}
use Rattle.machine.proofs.Fits.{takes_of, mark_of}
use Rattle.machine.proofs.Traces.{Adds, nothing, a_payload, an_entry, a_take, a_completion, a_declaration, adds, sent_cases}
use Rattle.machine.proofs.Primitives.{Acting, acting}
use Rattle.machine.proofs.Histories.{Good, good_start, good_every}
use Rattle.machine.proofs.Tickets.{slot_yes, accepted}
use Rattle.machine.proofs.Commands.{asked_at}
use Rattle.machine.proofs.Stale.{cut_stays}
use Rattle.machine.proofs.Lists.{run_past, longer, along, then_trace, then_present}
use Rattle.machine.proofs.Replies.{primitive_done, acts}

-- ---- the mark

taking_is : (h : History) → Good h → (i : ℕ) → i ≤ 1 → (r : Request) → phase_at h.world i ≡ Process r → r.taking ≡ taking_since (h.trace i)
taking_is h g i is r p =
    let k = asked_at h g i is r p in
    by r.taking ∙ ap (λ (n : ℕ). if eqb n 0 then Untaken else Taken (mark_of r.taking)) (sym k.takes_are)
    ∙ ap (λ (b : Bool). if eqb (h.trace i).takes 0 then Untaken else Taken b) (sym k.mark_is)
  where
    by : (u : Taking) → u ≡ (if eqb (takes_of u) 0 then Untaken else Taken (mark_of u))
    by Untaken = refl
    by (Taken can) = refl

pub mark_is : MarkIs
mark_is eid unit store0 store1 a b xs i is r p = taking_is (run xs (start eid unit store0 store1)) (good_every eid unit store0 store1 a b xs) i is r p

-- ---- where a mark comes from

-- what one call does to the mark that the history has for a slot
data Remarked (i : ℕ) (c : Call) (v : Event) (l m : Trace) : Type 0 where
  left : m.stoppable ≡ l.stoppable → m.entries ≡ l.entries → Remarked i c v l m
  cleared : m.stoppable ≡ false → Remarked i c v l m
  declared_as : (t : Ticket) (can : Bool) → c ≡ declare i t can → v ≡ number 0 → m.stoppable ≡ can → m.entries ≡ l.entries → Remarked i c v l m

remarked_by : {i : ℕ} {c : Call} {w : World} {v : Event} {l m : Trace} → Adds i c w v l m → Remarked i c v l m
remarked_by nothing = left refl refl
remarked_by (a_payload p e v k) = left refl refl
remarked_by (an_entry p e v k) = cleared refl
remarked_by (a_take t e v) = cleared refl
remarked_by (a_completion t body e v) = left refl refl
remarked_by (a_declaration t can e v) = declared_as t can e v refl refl

remarked : (i : ℕ) (c : Call) (h : History) → Remarked i c (step c h.world).event (h.trace i) ((next c h).trace i)
unfolding next
remarked i c h =
    let t = remarked_by (adds i c h.world (step c h.world).event (h.trace i)) in
    sent_cases (Remarked i c (step c h.world).event (h.trace i)) (phase_at h.world i) (phase_at (step c h.world).world i) (step c h.world).event _ t (λ n s. over t)
  where
    over : {n : ℕ} {s : List ℕ} {m : Trace} → Remarked i c (step c h.world).event (h.trace i) m → Remarked i c (step c h.world).event (h.trace i) (sending m n s)
    over (left a b) = left a b
    over (cleared a) = cleared a
    over (declared_as x y a b d e) = declared_as x y a b d e

-- a declaration that is accepted is what the history has then
said : (i : ℕ) (t : Ticket) (can : Bool) (h : History) → (step (declare i t can) h.world).event ≡ number 0 → ((next (declare i t can) h).trace i).stoppable ≡ can
unfolding next
said i t can h v =
    let c = declare i t can in
    let k = by h.world (step c h.world).event (h.trace i) v in
    sent_cases (λ (l : Trace). l.stoppable ≡ can) (phase_at h.world i) (phase_at (step c h.world).world i) (step c h.world).event _ k (λ _ _. k)
  where
    by : (w : World) (v : Event) (l : Trace) → v ≡ number 0 → (commanded i (declare i t can) w v l).stoppable ≡ can
    by w v l e = rw (e, eq-eqb i i refl) refl

-- one call more that does not revoke it
not_revoked : (i : ℕ) (vs : List Call) (c : Call) (h : History) → NotRevoked i vs h
    → ((t : Ticket) → c ≡ declare i t false → (step c (run vs h).world).event ≡ number 0 → ⊥) → NotRevoked i (vs ++ (c ∷ [])) h
unfolding run
not_revoked i [] c h no_call f = one_more f no_call
not_revoked i (v ∷ vs) c h (one_more k rest) f = one_more k (not_revoked i vs c (next v h) rest f)

module _ (first : History) (g₀ : Good first) (i : ℕ) (is : i ≤ 1) where
  abbrev Own : List Call → Type 0
  Own xs = ((run xs first).trace i).stoppable ≡ true → DeclaredBy first i xs

  own_next : (xs : List Call) (c : Call) → Own xs → Own (xs ++ (c ∷ []))
  own_next xs c f on = by (remarked i c (run xs first))
    where
      now : ((next c (run xs first)).trace i).stoppable ≡ true
      now = sym (then_trace first i xs c (λ l. l.stoppable) refl) ∙ on

      entries : {n : ℕ} → ((next c (run xs first)).trace i).entries ≡ n → ((run (xs ++ (c ∷ [])) first).trace i).entries ≡ n
      entries e = then_trace first i xs c (λ l. l.entries) e

      -- it still says that it can, so the call has not declared otherwise
      kept : (u : Ticket) → c ≡ declare i u false → (step c (run xs first).world).event ≡ number 0 → ⊥
      kept u e w =
          let v : (step (declare i u false) (run xs first).world).event ≡ number 0 = ap (λ (x : Call). (step x (run xs first).world).event) (sym e) ∙ w in
          false_true (sym (ap (λ (x : Call). ((next x (run xs first)).trace i).stoppable) e ∙ said i u false (run xs first) v) ∙ now)

      over : ((next c (run xs first)).trace i).entries ≡ ((run xs first).trace i).entries → DeclaredBy first i xs → DeclaredBy first i (xs ++ (c ∷ []))
      over b (by_declaration us t vs s v past still n back) =
          let behind : run xs first ≡ run vs (next (declare i t true) (run us first)) = ap (λ (l : List Call). run l first) s ∙ run_past us (declare i t true) vs first in
          by_declaration us t (vs ++ (c ∷ [])) (longer c us (declare i t true) vs s) v past (then_present first i xs c g₀ is b still) (entries (b ∙ n))
          (not_revoked i vs c _ back (λ u e w. kept u e (ap (λ (h : History). (step c h.world).event) behind ∙ w)))

      by : Remarked i c (step c (run xs first).world).event ((run xs first).trace i) ((next c (run xs first)).trace i) → DeclaredBy first i (xs ++ (c ∷ []))
      by (left a b) = over b (f (sym a ∙ now))
      by (cleared a) = false_true (sym a ∙ now)
      by (declared_as t can e v a b) =
          let same : c ≡ declare i t true = e ∙ ap (λ (x : Bool). declare i t x) (sym a ∙ now) in
          let ok : (step (declare i t true) (run xs first).world).event ≡ number 0 = ap (λ (x : Call). (step x (run xs first).world).event) (sym same) ∙ v in
          let past = (accepted (run xs first).world i t (declare i t true) (declares true) ok).present in
          by_declaration xs t [] (ap (λ (x : Call). xs ++ (x ∷ [])) same) ok past (then_present first i xs c g₀ is b past) (entries b) no_call

-- at the start nothing is declared
none_yet : (eid unit : ℕ) (store0 store1 : List ℕ) (i : ℕ) → ((run [] (start eid unit store0 store1)).trace i).stoppable ≡ false
unfolding run start
none_yet eid unit store0 store1 i = refl

own_every : (eid unit : ℕ) (store0 store1 : List ℕ) → length store0 ≡ 4224 → length store1 ≡ 4224 → (xs : List Call) (i : ℕ) → i ≤ 1
    → ((run xs (start eid unit store0 store1)).trace i).stoppable ≡ true → DeclaredBy (start eid unit store0 store1) i xs
own_every eid unit store0 store1 a b xs i is =
    let h₀ = start eid unit store0 store1 in
    let g₀ = good_start eid unit store0 store1 a b in
    along (Own h₀ g₀ i is) (own_next h₀ g₀ i is) [] xs (λ on. false_true (sym (none_yet eid unit store0 store1 i) ∙ on))

pub mark_own : MarkOwn
mark_own eid unit store0 store1 a b xs i is r p u =
    let k = asked_at (run xs (start eid unit store0 store1)) (good_every eid unit store0 store1 a b xs) i is r p in
    own_every eid unit store0 store1 a b xs i is (k.mark_is ∙ ap mark_of u)

-- ---- a declaration

matched_is : (e : Endpoint) (i : ℕ) (t : Ticket) (k : Match e i t) → presented e i t ≡ Ok k.request
unfolding presented
matched_is e i t k = rw (slot_yes i k.slot_is, k.in_process, eq-eqb t.0 (slot_at e i).ticket.0 k.present, k.was_taken) refl

pub declare_marks : DeclareMarks
unfolding step was_declared
declare_marks w i t can e =
    let k : Match w.endpoint i t = unfold step in (accepted w i t (declare i t can) (declares can) e) in
    record {
      slot_is = k.slot_is;
      request = k.request;
      in_process = k.in_process;
      was = k.was;
      was_taken = k.was_taken;
      present = k.present;
      leaves = rw (matched_is w.endpoint i t k) refl;
    }

-- ---- an Abort

told_process : (l : Trace) → aborted_process (taking_since l) ≡ told_of l
told_process l = by (eqb l.takes 0) l.stoppable
  where
    by : (x y : Bool) → aborted_process (if x then Untaken else Taken y) ≡ (if x || y then 1 else 2)
    by true y = refl
    by false true = refl
    by false false = refl

module _ (h : History) (g : Good h) (p : List ℕ) (i : ℕ) (is : i ≤ 1) where
  -- a slot that is in Process was so before the packet
  found_process : (r : Request) → (slot_found h.world p i).phase ≡ Process r → phase_at h.world i ≡ Process r
  found_process r = by (receives_from (source_of p) (message_tag_of p) (phase_at h.world i))
    where
      idle_not : {A : Type 0} → Idle None ≡ Process r → A
      idle_not e = differ (cc e)

      by : (x : Bool) → (if x then record { ticket = (slot_at h.world.endpoint i).ticket; paused = false; busy = (slot_at h.world.endpoint i).busy; phase = Idle None } else slot_at h.world.endpoint i).phase ≡ Process r
          → phase_at h.world i ≡ Process r
      by true e = idle_not e
      by false e = e

  told : aborted_in (slot_found h.world p i).phase ≡ abort_told h p i
  told = by (slot_found h.world p i).phase refl
    where
      by : (q : Phase) → (slot_found h.world p i).phase ≡ q → aborted_in q ≡ phased 0 (λ a. 1) (λ r. told_of (h.trace i)) (λ r. 0) (λ r. 0) q
      by (Idle held) e = refl
      by (Receive a) e = refl
      by (Process r) e = ap aborted_process (taking_is h g i is r (found_process r e)) ∙ told_process (h.trace i)
      by (Answered r) e = refl
      by (Transmit r) e = refl

  abort_replied : is_abort i h.world.endpoint.eid p ≡ true
      → ((received h.world p).answer ≡ 2) × (reply_message (received h.world p).world.endpoint.reply ≡ reply_of (bytes_from4 p) (abort_told h p i))
  abort_replied k =
      let q = and_parts (is_primitive 2 h.world.endpoint.eid p) (eqb (byte_at (bytes_from4 p) 1 % 2) i) k in
      let a = acts 2 (omega arith) h.world p g.sound q.0 in
      let mine : csi_of (bytes_from4 p) ≡ i = eqb-true (byte_at (bytes_from4 p) 1 % 2) i q.1 in (
        eqb-true (received h.world p).answer 2 (primitive_done h.world p g.sound ∙ (acting 2 h.world.endpoint.eid p q.0).whole),
        ap reply_message a.0.reply_is ∙ ap (reply_of (bytes_from4 p)) (cpsr (received h.world p).world a.2 mine ∙ told),
      )
    where
      cpsr : (after : World) → byte_at (bytes_from4 p) 4 ≡ 2 → csi_of (bytes_from4 p) ≡ i
          → cpsr_of (bytes_from4 p) (slot_found h.world p (csi_of (bytes_from4 p))) h.world.endpoint.flags after ≡ aborted_in (slot_found h.world p i).phase
      cpsr after opcode mine = rw opcode (ap (λ (j : ℕ). aborted_in (slot_found h.world p j).phase) mine)

pub abort_tells : AbortTells
unfolding step
abort_tells eid unit store0 store1 a b xs p i is k =
    let q = abort_replied (run xs (start eid unit store0 store1)) (good_every eid unit store0 store1 a b xs) p i is k in
    (ap number q.0, q.1)

-- ---- a command that was told as stopped

-- byte 6 of an Abort's reply is the low byte of CPSR
low_byte : (eid : ℕ) (p : List ℕ) (n : ℕ) → Acting 2 eid p → byte_at (reply_of (bytes_from4 p) n) 6 ≡ n % 256
unfolding with_check
low_byte eid p n a = rw (a.meb, a.ciap, a.opcode_is, and-false (not (no_cpsp (bytes_from4 p)))) refl

-- of a slot in Process the Abort tells by the history
told_busy : (h : History) (p : List ℕ) (i : ℕ) → is_process (phase_at h.world i) ≡ true → abort_told h p i ≡ told_of (h.trace i)
told_busy h p i = by (phase_at h.world i) refl
  where
    by : (q : Phase) → phase_at h.world i ≡ q → is_process q ≡ true → abort_told h p i ≡ told_of (h.trace i)
    by (Idle held) e k = false_true k
    by (Receive a) e k = false_true k
    by (Process r) e k = rw (e, e) refl
    by (Answered r) e k = false_true k
    by (Transmit r) e k = false_true k

-- told as 1
by_word : (l : Trace) → told_of l % 256 ≡ 1 → (P : Type 0) → (l.takes ≡ 0 → P) → (l.stoppable ≡ true → P) → P
by_word l one P untaken can = by (eqb l.takes 0) refl l.stoppable refl one
  where
    by : (x : Bool) → eqb l.takes 0 ≡ x → (y : Bool) → l.stoppable ≡ y → (if x || y then 1 else 2) % 256 ≡ 1 → P
    by true e y f k = untaken (eqb-true l.takes 0 e)
    by false e true f k = can f
    by false e false f k = absurd (omega (arith, k))

pub told_stopped : ToldStopped
told_stopped eid unit store0 store1 a b xs p i is k busy one =
    let h₀ = start eid unit store0 store1 in
    let h = run xs h₀ in
    let acts = acting 2 h.world.endpoint.eid p (and_parts (is_primitive 2 h.world.endpoint.eid p) (eqb (byte_at (bytes_from4 p) 1 % 2) i) k).0 in
    let reply = (abort_tells eid unit store0 store1 a b xs p i is k).1 in
    let word : told_of (h.trace i) % 256 ≡ 1 =
    ap (λ (n : ℕ). n % 256) (sym (told_busy h p i busy)) ∙ sym (low_byte h.world.endpoint.eid p (abort_told h p i) acts) ∙ ap (λ (s : List ℕ). byte_at s 6) (sym reply) ∙ one in
    record {
      until_then = by_word (h.trace i) word (NoEffect h₀ i xs) never_taken (λ on. still_can (own_every eid unit store0 store1 a b xs i is on));
      from_then = cut_stays eid unit store0 store1 a b xs (receive p) i is k;
    }
