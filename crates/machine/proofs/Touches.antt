-- What taking, completing, declaring and a timeout do to a slot.
-- Assumes nothing.
use Prim.Native.Nat.{ℕ, ◌≤◌}
use mathlib.Core.Path.{◌≡◌, refl}
use mathlib.Core.Bool.{Bool, true, false, not, ◌||◌}
use mathlib.Core.List.{List}
use borrow.Author.Tests.{not-false}
use Rattle.std.proofs.lemmas.Bool.{or_parts}
use Rattle.lent.proofs.Choice.{if_ind}
use Rattle.machine.specs.State.{World, Outcome, Done, slot_at, with_slot, with_phase, idled, settled}
use Rattle.machine.specs.Wire.{wrong_stores}
use Rattle.machine.specs.Process.{response_to, responded}
use Rattle.machine.specs.Finish.{TakeDone, is_slot, taken_request, taken, is_body, completed_by, completed, declared_by, was_declared, is_receive, timed_out}
use Rattle.machine.specs.Valid.{Valid}
use Rattle.machine.specs.Types.{Ticket, Request, Response, Process, Slot, Endpoint}
use Rattle.machine.proofs.Cases.{slot_most, take_cases, ticket_cases}
use Rattle.machine.proofs.Places.{Which, this, that, which, slot_this, slot_that}
use Rattle.std.specs.Prelude.{Result}

-- a slot before and after
pub data Touched (s t : Slot) : Type 0 where
  alone : t ≡ s → Touched s t
  -- its command was taken, or has another mark
  handed : (r : Request) (can : Bool) → s.phase ≡ Process r → t ≡ with_phase s (Process (taken_request r can)) → Touched s t
  -- its command was completed
  fixed : (r : Request) (x : Response) → s.phase ≡ Process r → t ≡ with_phase s (settled s.paused x) → Touched s t
  -- its assembly timed out
  ended : is_receive s.phase ≡ true → t ≡ idled s → Touched s t

abbrev pub Touches : Endpoint → Endpoint → Type 0
Touches e f = (j : ℕ) → j ≤ 1 → Touched (slot_at e j) (slot_at f j)

untouched : (e : Endpoint) → Touches e e
untouched e j js = alone refl

one_touched : (e : Endpoint) → Valid e → (i : ℕ) → i ≤ 1 → (s : Slot) → Touched (slot_at e i) s → Touches e (with_slot e i s)
one_touched e v i is s k j js = at (which i j is js)
  where
    at : Which i j → Touched (slot_at e j) (slot_at (with_slot e i s) j)
    at (this q) = rw (q, slot_this i is v s) k
    at (that q) = rw (q, slot_that i is v s) (alone refl)

pub take_touches : (e : Endpoint) → Valid e → (i : ℕ) → Touches e (taken e i).endpoint
take_touches e v i =
    take_cases (λ (d : TakeDone). Touches e d.endpoint) e i (λ _ _. untouched e)
    (λ k. one_touched e v i k.slot_is _ (handed k.request false k.in_process refl))

pub complete_touches : (w : World) → Valid w.endpoint → (i : ℕ) (t : Ticket) (body : List ℕ) → Touches w.endpoint (completed w i t body).world.endpoint
unfolding completed responded
complete_touches w v i t body =
    if_ind Kept (wrong_stores w) (λ _. untouched w.endpoint)
    (λ _.
    ticket_cases (λ (x : Result Request ℕ). Kept (completed_by w i body x)) w.endpoint i t (λ _ _. untouched w.endpoint)
    (λ k.
    if_ind Kept (not (is_body body)) (λ _. untouched w.endpoint)
    (λ _. one_touched w.endpoint v i k.slot_is _ (fixed k.request (response_to k.request body) k.in_process refl))))
  where
    Kept : Outcome → Type 0
    Kept o = Touches w.endpoint o.world.endpoint

pub declare_touches : (e : Endpoint) → Valid e → (i : ℕ) (t : Ticket) (can : Bool) → Touches e (was_declared e i t can).endpoint
unfolding was_declared
declare_touches e v i t can =
    ticket_cases (λ (x : Result Request ℕ). Touches e (declared_by e i can x).endpoint) e i t (λ _ _. untouched e)
    (λ k. one_touched e v i k.slot_is _ (handed k.request can k.in_process refl))

pub timeout_touches : (e : Endpoint) → Valid e → (i : ℕ) → Touches e (timed_out e i).endpoint
unfolding timed_out
timeout_touches e v i =
    if_ind Kept (not (is_slot i)) (λ _. untouched e)
    (λ h.
    if_ind Kept (not (is_receive (slot_at e i).phase) || (slot_at e i).paused) (λ _. untouched e)
    (λ k.
    one_touched e v i (slot_most i h) (idled (slot_at e i))
    (ended (not-false (is_receive (slot_at e i).phase) (or_parts (not (is_receive (slot_at e i).phase)) (slot_at e i).paused k).0) refl)))
  where
    Kept : Done → Type 0
    Kept d = Touches e d.endpoint
