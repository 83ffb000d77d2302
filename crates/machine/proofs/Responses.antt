-- What one call does to the response that the history has for a slot: it is fixed at an entry into Process or by a completion that is accepted,
-- and stays while it is there.
-- Assumes nothing.
use Prim.Native.Nat.{ℕ, ◌+◌, ◌≤◌}
use mathlib.Core.Path.{◌≡◌, refl, sym, ap, ◌∙◌}
use mathlib.Core.Bool.{true, false}
use mathlib.Core.List.{List}
use native.Mathlib.Omega.{arith}
use Rattle.lent.proofs.Choice.{false_true}
use Rattle.machine.specs.Calls.{Call, receive, complete, Event, number, step}
use Rattle.machine.specs.History.{Trace, History, phase_at, is_for, request_with, response_for, fixed_at_entry, sending, trace_after, next}
use Rattle.machine.specs.Demands.{is_process}
use Rattle.machine.specs.Types.{Ticket}
use Rattle.machine.proofs.Slots.{is_early}
use Rattle.machine.proofs.Fits.{Entry, entered, stayed}
use Rattle.machine.proofs.Histories.{Good, kept_by}
use Rattle.machine.proofs.Traces.{Adds, nothing, a_payload, an_entry, a_take, a_completion, a_declaration, adds, sent_cases}
use Rattle.machine.proofs.Tickets.{accepted_process}

pub data Turned (i : ℕ) (c : Call) (h : History) (v : Event) (l m : Trace) : Type 0 where
  kept : m.response ≡ l.response → m.entries ≡ l.entries → Turned i c h v l m
  came_in : (p : List ℕ) → c ≡ receive p → v ≡ number 1 → is_for i p h.world ≡ true → m.entries ≡ l.entries + 1
      → m.response ≡ fixed_at_entry i (request_with p l) → Turned i c h v l m
  answered : (t : Ticket) (body : List ℕ) → c ≡ complete i t body → v ≡ number 0 → m.entries ≡ l.entries
      → m.response ≡ response_for i l.request body → Turned i c h v l m

turned_by : {i : ℕ} {c : Call} {h : History} {v : Event} {l m : Trace} → Adds i c h.world v l m → Turned i c h v l m
turned_by nothing = kept refl refl
turned_by (a_payload p e v k) = kept refl refl
turned_by (an_entry p e v k) = came_in p e v k refl refl
turned_by (a_take t e v) = kept refl refl
turned_by (a_completion t body e v) = answered t body e v refl refl
turned_by (a_declaration t can e v) = kept refl refl

pub turned : (i : ℕ) (c : Call) (h : History) → Turned i c h (step c h.world).event (h.trace i) ((next c h).trace i)
unfolding next
turned i c h =
    let t = turned_by (adds i c h.world (step c h.world).event (h.trace i)) in
    sent_cases (Turned i c h (step c h.world).event (h.trace i)) (phase_at h.world i) (phase_at (step c h.world).world i) (step c h.world).event _ t (λ n s. over t)
  where
    over : {n : ℕ} {s : List ℕ} {m : Trace} → Turned i c h (step c h.world).event (h.trace i) m → Turned i c h (step c h.world).event (h.trace i) (sending m n s)
    over (kept a b) = kept a b
    over (came_in x a b d e f) = came_in x a b d e f
    over (answered x y a b d e) = answered x y a b d e

-- a command comes in only for a slot that has none, and its slot has it then
pub came_in_so : (i : ℕ) → i ≤ 1 → (c : Call) (h : History) → Good h → ((next c h).trace i).entries ≡ (h.trace i).entries + 1
    → (is_early (phase_at h.world i) ≡ true) × (is_early (phase_at (next c h).world i) ≡ false)
unfolding next
came_in_so i is c h g n = by (kept_by c h g i is).entry
  where
    by : Entry (phase_at h.world i) (phase_at (step c h.world).world i) (h.trace i) (trace_after i c h.world (step c h.world) (h.trace i))
        → (is_early (phase_at h.world i) ≡ true) × (is_early (phase_at (step c h.world).world i) ≡ false)
    by (entered early late _) = (early, late)
    by (stayed e _) = absurd (omega (arith, sym e ∙ n))

-- while the response is there, no call changes it
pub response_kept : (i : ℕ) → i ≤ 1 → (c : Call) (h : History) → Good h → is_early (phase_at h.world i) ≡ false → is_process (phase_at h.world i) ≡ false
    → ((next c h).trace i).response ≡ (h.trace i).response
response_kept i is c h g early process = by (turned i c h)
  where
    by : Turned i c h (step c h.world).event (h.trace i) ((next c h).trace i) → ((next c h).trace i).response ≡ (h.trace i).response
    by (kept a b) = a
    by (came_in p e v k n r) = false_true (sym early ∙ (came_in_so i is c h g n).0)
    by (answered t body e v n r) =
        false_true (sym process ∙ accepted_process h.world i t body (ap (λ (x : Call). (step x h.world).event) (sym e) ∙ v))
