-- What taking, reading, completing, declaring, a timeout and a reset do to each slot, its store and its trace.
-- Assumes nothing.
use Prim.Native.Nat.{ℕ, zero, suc, ◌+◌, ◌≤◌}
use mathlib.Core.Path.{◌≡◌, refl, sym, ap, ◌∙◌}
use mathlib.Core.Bool.{Bool, true, false, not, ◌||◌}
use mathlib.Core.List.{List}
use native.Mathlib.Omega.{arith}
use lib.Dec.{eqb}
use lib.ListN.{length, take}
use borrow.Author.Tests.{eq-eqb, ne_eqb, not-false}
use Rattle.std.specs.Prelude.{Result, if◌then◌else◌}
use Rattle.lent.specs.Bytes.{put}
use Rattle.std.proofs.lemmas.Bool.{or_parts}
use Rattle.lent.proofs.Choice.{if_ind, false_true}
use Rattle.lent.proofs.Stores.{take_put}
use Rattle.nvme_mi.specs.Response.{response}
use Rattle.nvme_mi.proofs.Laws.{length_response}
use Rattle.machine.specs.State.{World, Outcome, Done, outcome, slot_at, store_at, with_slot, with_store, with_phase, idled, settled}
use Rattle.machine.specs.Wire.{response_place, wrong_stores}
use Rattle.machine.specs.Process.{response_to, responded}
use Rattle.machine.specs.Finish.{TakeDone, is_slot, taken_request, with_mark, taken, is_body, completed_by, completed, declared_by, was_declared, is_receive, timed_out, was_reset}
use Rattle.machine.specs.Poll.{other_slot}
use Rattle.machine.specs.Valid.{Valid, Sound}
use Rattle.machine.specs.Calls.{take!, read, complete, declare, timeout, number, stepped, by_outcome, by_done, by_take, step}
use Rattle.machine.specs.History.{Trace, phase_at, with_takes, completing, commanded, transmitted}
use Rattle.machine.specs.Types.{Ticket, Request, Phase, Idle, Receive, Process, Answered, Transmit, Slot}
use Rattle.machine.proofs.Slots.{is_early, other_most}
use Rattle.machine.proofs.Cases.{slot_most, Waiting, take_cases, unmatched_not, Match, ticket_cases}
use Rattle.machine.proofs.Places.{Which, this, that, which, other_differs, slot_this, slot_that, store_this, store_that}
use Rattle.machine.proofs.Fits.{takes_of, Asked, Fit, stayed, handed_over, worked, Carried, quiet_other, carried_same, carried_ended, carried_cut, carried_settled, settled_process, response_is}
use Rattle.machine.proofs.Carried.{Carries}

module _ (w₀ : World) (trace : ℕ → Trace) (s₀ : Sound w₀)
    (fits : (j : ℕ) → j ≤ 1 → Fit w₀.endpoint.unit (slot_at w₀.endpoint j) (store_at w₀ j) (trace j)) where
  -- ---- a command that is taken, or of which something is declared

  -- the trace's takes are given for each slot; of this one there is one
  marked : (i : ℕ) → i ≤ 1 → (r : Request) (can : Bool) → phase_at w₀ i ≡ Process r → (takes : ℕ → ℕ) → takes i ≡ 1 → (j : ℕ) → j ≤ 1
      → Carried w₀.endpoint.unit (false ≡ true) (slot_at w₀.endpoint j) (slot_at (with_mark w₀.endpoint i r can) j) (store_at w₀ j) (trace j)
      (transmitted (phase_at w₀ j) (slot_at (with_mark w₀.endpoint i r can) j).phase (number 0) (if eqb i j then with_takes (trace j) (takes j) can else trace j))
  marked i is r can p takes one j js = at (which i j is js)
    where
      s : Slot
      s = with_phase (slot_at w₀.endpoint i) (Process (taken_request r can))

      this_one : Carried w₀.endpoint.unit (false ≡ true) (slot_at w₀.endpoint i) s (store_at w₀ i) (trace i)
          (transmitted (phase_at w₀ i) (Process (taken_request r can)) (number 0) (with_takes (trace i) (takes i) can))
      this_one =
          let k : Asked r (store_at w₀ i) (trace i) = rw p at (fits i is).phase_fits in
          rw (quiet_other (phase_at w₀ i) (Process (taken_request r can)) 0 (with_takes (trace i) (takes i) can) refl)
          (record {
            fit =
                record {
                  phase_fits = record { held = k.held; kind_is = k.kind_is; from = k.from; under = k.under; unfixed = k.unfixed; takes_are = one; mark_is = refl };
                  ticket_is = (fits i is).ticket_is;
                };
            entry = stayed refl (λ h. (rw p refl, refl));
            steady = handed_over r can p refl;
          })

      at : Which i j
          → Carried w₀.endpoint.unit (false ≡ true) (slot_at w₀.endpoint j) (slot_at (with_slot w₀.endpoint i s) j) (store_at w₀ j) (trace j)
          (transmitted (phase_at w₀ j) (slot_at (with_slot w₀.endpoint i s) j).phase (number 0) (if eqb i j then with_takes (trace j) (takes j) can else trace j))
      at (this q) = rw (q, slot_this i is s₀.state s, eq-eqb i i refl) this_one
      at (that q) =
          rw (q, slot_that i is s₀.state s, ne_eqb i (other_slot i) (λ e. other_differs i is (sym e)))
          (carried_same 0 refl refl (fits (other_slot i) (other_most i)))

  -- ---- taking

  pub take_carries : (i : ℕ) → Carries (take! i) w₀ trace (by_take w₀ (taken w₀.endpoint i))
  take_carries i =
      take_cases (λ (d : TakeDone). Carries (take! i) w₀ trace (by_take w₀ d)) w₀.endpoint i
      (λ _ _. record { frame = refl; carried = λ j js. carried_same 0 refl refl (fits j js) })
      (λ k. record { frame = refl; carried = marked i k.slot_is k.request false k.in_process (λ j. (trace j).takes + 1) (one k) })
    where
      one : (k : Waiting w₀.endpoint i) → (trace i).takes + 1 ≡ 1
      one k =
          let asked : Asked k.request (store_at w₀ i) (trace i) = rw k.in_process at (fits i k.slot_is).phase_fits in
          omega (arith, asked.takes_are ∙ ap takes_of k.untaken)

  pub read_carries : (i : ℕ) → Carries (read i) w₀ trace (step (read i) w₀)
  unfolding step
  read_carries i = record { frame = refl; carried = λ j js. carried_same 0 refl refl (fits j js) }

  -- ---- completing

  finished : (i : ℕ) (t : Ticket) (body : List ℕ) → i ≤ 1 → (r : Request) → phase_at w₀ i ≡ Process r
      → Carries (complete i t body) w₀ trace (by_outcome (outcome 0 (responded w₀ i r body)))
  unfolding responded
  finished i t body is r p = record { frame = refl; carried = λ j js. at j js (which i j is js) }
    where
      v : Valid w₀.endpoint
      v = s₀.state

      s : Slot
      s = with_phase (slot_at w₀.endpoint i) (settled (slot_at w₀.endpoint i).paused (response_to r body))

      text : List ℕ
      text = response r.kind i body

      k : Asked r (store_at w₀ i) (trace i)
      k = rw p at (fits i is).phase_fits

      n : length text ≡ length body + 8
      n = length_response r.kind i body

      text_is : text ≡ (completing i body (trace i)).response
      text_is = rw k.kind_is (response_is i (trace i).request body is)

      lies : take (length body + 8) (put (store_at w₀ i) response_place text) ≡ text
      lies = rw (sym n) (take_put (store_at w₀ i) text)

      this_one : Carried w₀.endpoint.unit (false ≡ true) (slot_at w₀.endpoint i) s (put (store_at w₀ i) response_place text) (trace i)
          (transmitted (phase_at w₀ i) s.phase (number 0) (completing i body (trace i)))
      this_one =
          let b = (slot_at w₀.endpoint i).paused in
          carried_settled (completing i body (trace i)) 0 b (response_to r body) (rw p refl) refl
          (record { held = lies ∙ text_is; size = rw (sym text_is) n; to = k.from; under = k.under }) (fits i is).ticket_is
          (stayed refl (λ h. false_true (sym (settled_process b (response_to r body)) ∙ h))) (worked r b (response_to r body) p refl)

      at : (j : ℕ) → j ≤ 1 → Which i j
          → Carried w₀.endpoint.unit (false ≡ true) (slot_at w₀.endpoint j) (slot_at (with_slot w₀.endpoint i s) j) (store_at (with_store w₀ i (put (store_at w₀ i) response_place text)) j) (trace j)
          (transmitted (phase_at w₀ j) (slot_at (with_slot w₀.endpoint i s) j).phase (number 0) (commanded j (complete i t body) w₀ (number 0) (trace j)))
      at j js (this q) = rw (q, slot_this i is v s, store_this w₀ i is (put (store_at w₀ i) response_place text), eq-eqb i i refl) this_one
      at j js (that q) =
          rw (q, slot_that i is v s, store_that w₀ i is (put (store_at w₀ i) response_place text), ne_eqb i (other_slot i) (λ e. other_differs i is (sym e)))
          (carried_same 0 refl refl (fits (other_slot i) (other_most i)))

  pub complete_carries : (i : ℕ) (t : Ticket) (body : List ℕ) → Carries (complete i t body) w₀ trace (by_outcome (completed w₀ i t body))
  unfolding completed
  complete_carries i t body =
      if_ind After (wrong_stores w₀) (λ _. none 40 refl)
      (λ _.
      ticket_cases (λ (x : Result Request ℕ). After (completed_by w₀ i body x)) w₀.endpoint i t (λ n d. none n (unmatched_not d))
      (λ k. if_ind After (not (is_body body)) (λ _. none 35 refl) (λ _. finished i t body k.slot_is k.request k.in_process)))
    where
      After : Outcome → Type 0
      After o = Carries (complete i t body) w₀ trace (by_outcome o)

      none : (n : ℕ) → eqb n 0 ≡ false → Carries (complete i t body) w₀ trace (stepped (number n) w₀)
      none n e = record { frame = refl; carried = λ j js. rw e (carried_same 0 refl refl (fits j js)) }

  -- ---- declaring

  pub declare_carries : (i : ℕ) (t : Ticket) (can : Bool) → Carries (declare i t can) w₀ trace (by_done w₀ (was_declared w₀.endpoint i t can))
  unfolding was_declared
  declare_carries i t can =
      ticket_cases (λ (x : Result Request ℕ). Carries (declare i t can) w₀ trace (by_done w₀ (declared_by w₀.endpoint i can x))) w₀.endpoint i t
      (λ n d. record { frame = refl; carried = λ j js. rw (unmatched_not d) (carried_same 0 refl refl (fits j js)) })
      (λ k. record { frame = refl; carried = marked i k.slot_is k.request can k.in_process (λ j. (trace j).takes) (one k) })
    where
      one : (k : Match w₀.endpoint i t) → (trace i).takes ≡ 1
      one k =
          let asked : Asked k.request (store_at w₀ i) (trace i) = rw k.in_process at (fits i k.slot_is).phase_fits in
          asked.takes_are ∙ ap takes_of k.was_taken

  -- ---- timeout

  receive_early : (p : Phase) → is_receive p ≡ true → is_early p ≡ true
  receive_early (Idle held) h = refl
  receive_early (Receive a) h = refl
  receive_early (Process r) h = h
  receive_early (Answered r) h = h
  receive_early (Transmit r) h = h

  pub timeout_carries : (i : ℕ) → Carries (timeout i) w₀ trace (by_done w₀ (timed_out w₀.endpoint i))
  unfolding timed_out
  timeout_carries i =
      if_ind After (not (is_slot i)) (λ _. none)
      (λ h.
      if_ind After (not (is_receive (phase_at w₀ i)) || (slot_at w₀.endpoint i).paused) (λ _. none)
      (λ k.
      record {
        frame = refl;
        carried = λ j js. at (slot_most i h) (receive_early (phase_at w₀ i) (not-false (is_receive (phase_at w₀ i)) (or_parts _ _ k).0)) j js (which i j (slot_most i h) js);
      }))
    where
      After : Done → Type 0
      After d = Carries (timeout i) w₀ trace (by_done w₀ d)

      none : {n : ℕ} → Carries (timeout i) w₀ trace (stepped (number n) w₀)
      none = record { frame = refl; carried = λ j js. carried_same 0 refl refl (fits j js) }

      s : Slot
      s = idled (slot_at w₀.endpoint i)

      at : i ≤ 1 → is_early (phase_at w₀ i) ≡ true → (j : ℕ) → j ≤ 1 → Which i j
          → Carried w₀.endpoint.unit (false ≡ true) (slot_at w₀.endpoint j) (slot_at (with_slot w₀.endpoint i s) j) (store_at w₀ j) (trace j)
          (transmitted (phase_at w₀ j) (slot_at (with_slot w₀.endpoint i s) j).phase (number 0) (trace j))
      at is early j js (this q) = rw (q, slot_this i is s₀.state s) (carried_ended (store_at w₀ i) 0 early refl refl (fits i is).ticket_is)
      at is early j js (that q) = rw (q, slot_that i is s₀.state s) (carried_same 0 refl refl (fits (other_slot i) (other_most i)))

  -- ---- reset: both slots are cut off, and keep their ticket counts

  pub reset_carried : (j : ℕ) → j ≤ 1
      → Carried w₀.endpoint.unit (true ≡ true) (slot_at w₀.endpoint j) (slot_at (was_reset w₀.endpoint).endpoint j) (store_at w₀ j) (trace j)
      (transmitted (phase_at w₀ j) (slot_at (was_reset w₀.endpoint).endpoint j).phase (number 0) (trace j))
  unfolding was_reset
  reset_carried zero js = carried_cut (store_at w₀ 0) 0 refl refl refl (fits 0 js).ticket_is
  reset_carried (suc zero) js = carried_cut (store_at w₀ 1) 0 refl refl refl (fits 1 js).ticket_is
  reset_carried (suc (suc n)) js = absurd (omega arith)
