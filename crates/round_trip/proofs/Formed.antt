-- Every response that the endpoint fixes is well formed: the request that it answers has an NMIMT that is not 0, since only such a packet begins a command.
-- Assumes nothing.
use Prim.Native.Nat.{ℕ, ◌+◌, ◌*◌, ◌/◌, ◌%◌, ◌≤◌, ◌<◌}
use mathlib.Core.Path.{◌≡◌, refl, sym, ap, ◌∙◌}
use mathlib.Core.Bool.{Bool, true, false, not, ◌&&◌, ◌||◌}
use mathlib.Core.List.{List, [], ◌∷◌, ◌++◌}
use native.Mathlib.Nat.{mod-lt, zero-lt-suc}
use native.Mathlib.Omega.{arith}
use lib.Dec.{eqb, ltb}
use lib.ListN.{length, take, get_or-append}
use lib.Seq.{length-take-le}
use borrow.Author.Tests.{eq-eqb, eqb-false, ltb-false}
use Rattle.std.specs.Prelude.{if◌then◌else◌}
use Rattle.lent.specs.Bytes.{byte_at, is_set}
use Rattle.std.proofs.lemmas.Bool.{or_parts}
use Rattle.lent.proofs.Choice.{if_ind, false_true}
use Rattle.nvme_mi.specs.Check.{check_right, with_check}
use Rattle.nvme_mi.proofs.Laws.{length_with_check, check_of_own}
use Rattle.opening.specs.Formed.{WellFormed}
use Rattle.machine.specs.State.{World, slot_at, store_at}
use Rattle.machine.specs.Valid.{PhaseFacts}
use Rattle.machine.specs.Receive.{received}
use Rattle.machine.specs.Finish.{completed}
use Rattle.machine.specs.Calls.{Call, receive, complete, number, step}
use Rattle.machine.specs.History.{Trace, History, has_som, source_of, message_tag_of, bytes_from4, phase_at, receives_from, is_for, request_with, kind_of, response_for, least_length, fixed_at_entry, next, run, start, unit_of}
use Rattle.machine.specs.Numbers.{ticket_number, right_sizes}
use Rattle.machine.specs.Demands.{completes}
use Rattle.machine.specs.Grounds.{has_eom, control_number, first_number, receive_number}
use Rattle.machine.specs.declared.Ticket.{Ticket}
use Rattle.machine.specs.declared.Phase.{Phase}
use Rattle.machine.specs.declared.Phase.TheVariants.{Idle, Receive, Process, Answered, Transmit}
use Rattle.machine.proofs.Slots.{facts_at}
use Rattle.machine.proofs.Keeps.{store_at_lem}
use Rattle.machine.proofs.Grounds.{grounds}
use Rattle.machine.proofs.Numbers.{complete_numbers}
use Rattle.machine.proofs.Fits.{Asked}
use Rattle.machine.proofs.Histories.{Good, good_next, good_start}
use Rattle.machine.proofs.Cases.{same_number}
use Rattle.machine.proofs.Traces.{Adds, nothing as no_more, a_payload, an_entry, a_take, a_completion, a_declaration, adds, sent_cases}
use Rattle.machine.proofs.Tickets.{accepted}
use Rattle.round_trip.specs.Response.{ResponsesFormed}

-- ---- what the endpoint makes

header_byte : (k i : ℕ) → k < 16 → i ≤ 1 → ((128 + k * 8 + i) / 128 % 2 ≡ 1) × ((128 + k * 8 + i) / 8 % 16 ≡ k)
header_byte k i hk hi = omega arith

pub first_bytes : (a b : ℕ) (body : List ℕ) → (byte_at (with_check ((a ∷ b ∷ 0 ∷ 0 ∷ []) ++ body)) 0 ≡ a) × (byte_at (with_check ((a ∷ b ∷ 0 ∷ 0 ∷ []) ++ body)) 1 ≡ b)
unfolding with_check
first_bytes a b body = (refl, refl)

-- a response to a request that is not control
formed : (i : ℕ) (request body : List ℕ) → i ≤ 1 → eqb (kind_of request) 0 ≡ false → 4 ≤ length body → length body ≤ 4216 → WellFormed true (response_for i request body)
formed i request body is kind lo hi =
    let b = 128 + kind_of request * 8 + i in
    let s = (0x84 ∷ b ∷ 0 ∷ 0 ∷ []) ++ body in
    let n : length (with_check s) ≡ length body + 8 = length_with_check s ∙ omega arith in
    let bits = header_byte (kind_of request) i (mod-lt (byte_at request 1 / 8) (zero-lt-suc 15)) is in
    let bytes = first_bytes 0x84 b body in
    record {
      long = rw n (omega arith);
      short = rw n (omega arith);
      typed = bytes.0;
      way = ap (λ (x : ℕ). is_set x 7) bytes.1 ∙ eq-eqb (b / 128 % 2) 1 bits.0;
      kind = ap (λ (x : ℕ). eqb (x / 8 % 16) 0) bytes.1 ∙ ap (λ (x : ℕ). eqb x 0) bits.1 ∙ kind;
      right = check_of_own s;
    }

-- none yet, or a well-formed one
pub data Fine (s : List ℕ) : Type 0 where
  none : s ≡ [] → Fine s
  some : WellFormed true s → Fine s

fixed_formed : (i : ℕ) (request : List ℕ) → i ≤ 1 → eqb (kind_of request) 0 ≡ false → Fine (fixed_at_entry i request)
fixed_formed i request is kind =
    if_ind Fine (not (eqb (kind_of request) 1 || eqb (kind_of request) 2 || eqb (kind_of request) 4)) (λ _. twelve (4 ∷ 3 ∷ 1 ∷ 0 ∷ []) refl)
    (λ _.
    if_ind Fine (is_set (byte_at request 2) 0) (λ _. twelve (4 ∷ 0 ∷ 2 ∷ 0 ∷ []) refl)
    (λ _. if_ind Fine (ltb (length request) (least_length (kind_of request))) (λ _. twelve (5 ∷ 0 ∷ 0 ∷ 0 ∷ []) refl) (λ _. none refl)))
  where
    twelve : (body : List ℕ) → length body ≡ 4 → Fine (response_for i request body)
    twelve body n = some (formed i request body is kind (omega arith) (omega arith))

-- ---- the requests that it gathers

-- none yet, or one that is not control
data Kind (s : List ℕ) : Type 0 where
  nothing : s ≡ [] → Kind s
  command : eqb (kind_of s) 0 ≡ false → Kind s

long_kind : (s : List ℕ) → Kind s → 1 ≤ length s → eqb (kind_of s) 0 ≡ false
long_kind s (nothing e) n = absurd (omega (arith, ap (λ (x : List ℕ). length x) e))
long_kind s (command k) n = k

-- more bytes behind them
kind_stays : (s t : List ℕ) → 2 ≤ length s → kind_of (s ++ t) ≡ kind_of s
kind_stays s t n = ap (λ (x : ℕ). x / 8 % 16) (get_or-append s t 0 1 (omega arith))

-- a test that does not answer with 0 or 1
past : (b : Bool) (x y n : ℕ) → n ≤ 1 → 2 ≤ x → (if b then x else y) ≡ n → (b ≡ false) × (y ≡ n)
past true x y n low high e = absurd (omega arith)
past false x y n low high e = (refl, e)

-- the tests of another table were passed
past_number : (x y : ℕ) → (if not (eqb x 0) then x else y) ≡ 0 → y ≡ 0
past_number x y = by (eqb x 0) refl
  where
    by : (b : Bool) → eqb x 0 ≡ b → (if not b then x else y) ≡ 0 → y ≡ 0
    by true q e = e
    by false q e = absurd (eqb-false x 0 q e)

control_high : (p m : List ℕ) → 2 ≤ control_number p m
control_high p m =
    if_ind (λ (x : ℕ). 2 ≤ x) (not (has_eom p) || not (eqb (length m) 12)) (λ _. omega arith)
    (λ _. if_ind (λ (x : ℕ). 2 ≤ x) (not (check_right m)) (λ _. omega arith) (λ _. omega arith))

-- a first packet that is taken in
first_kind : (w : World) (p : List ℕ) (n : ℕ) → n ≤ 1 → has_som p ≡ true → receive_number w p ≡ n → eqb (kind_of (bytes_from4 p)) 0 ≡ false
first_kind w p n low som e =
    let a = past (not (right_sizes w)) 40 _ n low (omega arith) e in
    let b = past (ltb (length p) 5) 10 _ n low (omega arith) a.1 in
    let c = past (ltb (unit_of w + 4) (length p)) 11 _ n low (omega arith) b.1 in
    let d = past (not (eqb (byte_at p 0 % 16) 1)) 12 _ n low (omega arith) c.1 in
    let f = past (not (eqb (byte_at p 1) w.endpoint.eid)) 13 _ n low (omega arith) d.1 in
    let g = past (not (is_set (byte_at p 3) 3)) 14 _ n low (omega arith) f.1 in
    let h : first_number w p (bytes_from4 p) ≡ n = rw som at g.1 in
    let i = past (not (eqb (byte_at (bytes_from4 p) 0) 0x84)) 15 _ n low (omega arith) h in
    let j = past (not (has_eom p) && not (eqb (length (bytes_from4 p)) (unit_of w))) 16 _ n low (omega arith) i.1 in
    let k = past (has_eom p && ltb (length (bytes_from4 p)) 8) 17 _ n low (omega arith) j.1 in
    let l = past (is_set (byte_at (bytes_from4 p) 1) 7) 15 _ n low (omega arith) k.1 in
    (past (eqb (kind_of (bytes_from4 p)) 0) (control_number p (bytes_from4 p)) _ n low (control_high p (bytes_from4 p)) l.1).0

-- the slot's request so far, where it is in Receive
gathered_long : (h : History) → Good h → (i : ℕ) → i ≤ 1 → (source tag : ℕ) → receives_from source tag (phase_at h.world i) ≡ true → unit_of h.world ≤ length (h.trace i).request
gathered_long h g i is source tag r = by (phase_at h.world i) refl r
  where
    by : (p : Phase) → phase_at h.world i ≡ p → receives_from source tag p ≡ true → unit_of h.world ≤ length (h.trace i).request
    by (Idle held) t e = false_true e
    by (Receive a) t e =
        let held : take a.length (store_at h.world i) ≡ (h.trace i).request = rw t at (g.fits i is).phase_fits in
        let f : PhaseFacts h.world.endpoint.unit (slot_at h.world.endpoint i).paused (Receive a) = rw t at (facts_at i is g.sound.state) in
        rw (sym held) (rw (length-take-le a.length (store_at h.world i) (rw (store_at_lem i g.sound) f.1)) f.0)
    by (Process r) t e = false_true e
    by (Answered r) t e = false_true e
    by (Transmit r) t e = false_true e

-- a packet that is taken in, of a slot's request
taken_kind : (h : History) → Good h → (i : ℕ) → i ≤ 1 → (p : List ℕ) (n : ℕ) → n ≤ 1 → (received h.world p).answer ≡ n → is_for i p h.world ≡ true → Kind (h.trace i).request
    → eqb (kind_of (request_with p (h.trace i))) 0 ≡ false
taken_kind h g i is p n low e k old = by (has_som p) refl
  where
    by : (b : Bool) → has_som p ≡ b → eqb (kind_of (request_with p (h.trace i))) 0 ≡ false
    by true som = rw som (first_kind h.world p n low som (sym (grounds h.world p g.sound.state) ∙ e))
    by false som =
        let for_it : receives_from (source_of p) (message_tag_of p) (phase_at h.world i) ≡ true = rw som at k in
        let full = gathered_long h g i is (source_of p) (message_tag_of p) for_it in
        let long : 2 ≤ length (h.trace i).request = omega (arith, full, g.sound.state.numbers.unit_least) in
        rw som (ap (λ (x : ℕ). eqb x 0) (kind_stays (h.trace i).request (bytes_from4 p) (omega arith)) ∙ long_kind (h.trace i).request old (omega arith))

-- ---- a completion that is accepted

-- what completing answered
completed_as : (w : World) (i : ℕ) (t : Ticket) (body : List ℕ) {n : ℕ} → (step (complete i t body) w).event ≡ number n → (completed w i t body).answer ≡ n
unfolding step
completed_as w i t body e = same_number e

completed_formed : (h : History) → Good h → (i : ℕ) → i ≤ 1 → (t : Ticket) (body : List ℕ) → (step (complete i t body) h.world).event ≡ number 0 → Kind (h.trace i).request
    → WellFormed true (response_for i (h.trace i).request body)
completed_formed h g i is t body e old =
    let a = past (not (right_sizes h.world)) 40 _ 0 (omega arith) (omega arith) (sym (complete_numbers h.world i t body) ∙ completed_as h.world i t body e) in
    let sizes = (past (ltb (length body) 4 || ltb 4216 (length body)) 35 _ 0 (omega arith) (omega arith) (past_number (ticket_number h.world.endpoint i t) _ a.1)).0 in
    let m = accepted h.world i t (complete i t body) (completes body) e in
    let r = m.request in
    let k : Asked r (store_at h.world i) (h.trace i) = rw m.in_process at (g.fits i is).phase_fits in
    let f : PhaseFacts h.world.endpoint.unit (slot_at h.world.endpoint i).paused (Process r) = rw m.in_process at (facts_at i is g.sound.state) in
    let long : 8 ≤ length (h.trace i).request =
    rw (sym k.held) (rw (length-take-le r.length (store_at h.world i) (rw (store_at_lem i g.sound) f.1)) f.0) in
    formed i (h.trace i).request body is (long_kind (h.trace i).request old (omega arith))
    (ltb-false (length body) 4 (or_parts (ltb (length body) 4) (ltb 4216 (length body)) sizes).0)
    (ltb-false 4216 (length body) (or_parts (ltb (length body) 4) (ltb 4216 (length body)) sizes).1)

-- ---- along a list of calls

record Known (l : Trace) : Type 0 where
  asked : Kind l.request
  fixed : Fine l.response

module _ (h : History) (g : Good h) (i : ℕ) (is : i ≤ 1) (k : Known (h.trace i)) where
  abbrev l : Trace
  l = h.trace i

  -- what a packet was answered
  said : (c : Call) (p : List ℕ) (n : ℕ) → c ≡ receive p → (step c h.world).event ≡ number n → (received h.world p).answer ≡ n
  unfolding step
  said c p n e v = same_number (ap (λ (x : Call). (step x h.world).event) (sym e) ∙ v)

  known_by : {c : Call} {m : Trace} → Adds i c h.world (step c h.world).event l m → Known m
  known_by no_more = k
  known_by {c} (a_payload p e v f) = record { asked = command (taken_kind h g i is p 0 (omega arith) (said c p 0 e v) f k.asked); fixed = k.fixed }
  known_by {c} (an_entry p e v f) =
      let kind = taken_kind h g i is p 1 (omega arith) (said c p 1 e v) f k.asked in
      record { asked = command kind; fixed = fixed_formed i (request_with p l) is kind }
  known_by (a_take t e v) = record { asked = k.asked; fixed = k.fixed }
  known_by {c} (a_completion t body e v) =
      record { asked = k.asked; fixed = some (completed_formed h g i is t body (ap (λ (x : Call). (step x h.world).event) (sym e) ∙ v) k.asked) }
  known_by (a_declaration t can e v) = record { asked = k.asked; fixed = k.fixed }

  known_next : (c : Call) → Known ((next c h).trace i)
  unfolding next
  known_next c =
      let f = known_by (adds i c h.world (step c h.world).event l) in
      sent_cases Known (phase_at h.world i) (phase_at (step c h.world).world i) (step c h.world).event _ f (λ n s. record { asked = f.asked; fixed = f.fixed })

known_run : (xs : List Call) (h : History) → Good h → (i : ℕ) → i ≤ 1 → Known (h.trace i) → Known ((run xs h).trace i)
unfolding run
known_run [] h g i is k = k
known_run (c ∷ cs) h g i is k = known_run cs (next c h) (good_next c h g) i is (known_next h g i is k c)

pub responses_formed : ResponsesFormed
responses_formed eid unit store0 store1 a b xs i is there =
    by (known_run xs (start eid unit store0 store1) (good_start eid unit store0 store1 a b) i is (unfold start in (record { asked = nothing refl; fixed = none refl }))).fixed
  where
    by : Fine ((run xs (start eid unit store0 store1)).trace i).response → WellFormed true ((run xs (start eid unit store0 store1)).trace i).response
    by (none e) = absurd (there e)
    by (some w) = w
