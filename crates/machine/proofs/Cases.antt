-- The cases of taking, and of a ticket that is presented for a slot: refused and with which number, or the command that was found.
-- Assumes nothing.
use Prim.Native.Nat.{ℕ, ◌≤◌}
use mathlib.Core.Path.{◌≡◌, refl}
use mathlib.Core.Bool.{Bool, false, not}
use native.Mathlib.Omega.{arith}
use lib.Dec.{eqb}
use borrow.Author.Tests.{ltb-true, eqb-true, not-false}
use Rattle.lent.proofs.Choice.{if_ind}
use Rattle.machine.specs.State.{slot_at}
use Rattle.machine.specs.Finish.{TakeDone, is_slot, take_ended, with_mark, taken_row, taken_from, taken, is_present, presented_row, presented_in, presented}
use Rattle.machine.specs.Calls.{number}
use Rattle.machine.specs.Types.{Ticket, Taking, Untaken, Taken, Request, Phase, Idle, Receive, Process, Answered, Transmit, Endpoint}
use Rattle.std.specs.Prelude.{Result, Ok, Err}

pub same_number : {m n : ℕ} → number m ≡ number n → m ≡ n
same_number e = cc

pub slot_most : (i : ℕ) → not (is_slot i) ≡ false → i ≤ 1
slot_most i h = omega (arith, ltb-true i 2 (not-false (is_slot i) h))

-- ---- taking

pub data NotTaken : ℕ → Type 0 where
  take_30 : NotTaken 30
  take_31 : NotTaken 31
  take_33 : NotTaken 33

-- a command in Process that no one took
pub record Waiting (e : Endpoint) (i : ℕ) : Type 0 where
  pub slot_is : i ≤ 1
  pub request : Request
  pub in_process : (slot_at e i).phase ≡ Process request
  pub untaken : request.taking ≡ Untaken

pub take_cases : (P : TakeDone → Type 0) (e : Endpoint) (i : ℕ) → ((n : ℕ) → NotTaken n → P (take_ended (Err n) e))
    → ((k : Waiting e i) → P (take_ended (Ok (slot_at e i).ticket) (with_mark e i k.request false))) → P (taken e i)
unfolding taken
take_cases P e i refused found = if_ind P (not (is_slot i)) (λ _. refused 30 take_30) (λ h. from (slot_most i h) (slot_at e i).phase refl)
  where
    row : i ≤ 1 → (r : Request) → (slot_at e i).phase ≡ Process r → (u : Taking) → r.taking ≡ u → P (taken_row e i r u)
    row is r p Untaken u = found (record { slot_is = is; request = r; in_process = p; untaken = u })
    row is r p (Taken can) u = refused 33 take_33

    from : i ≤ 1 → (p : Phase) → (slot_at e i).phase ≡ p → P (taken_from e i p)
    from is (Idle held) p = refused 31 take_31
    from is (Receive a) p = refused 31 take_31
    from is (Process r) p = row is r p r.taking refl
    from is (Answered r) p = refused 31 take_31
    from is (Transmit r) p = refused 31 take_31

-- ---- a ticket that is presented

pub data NotMatched : ℕ → Type 0 where
  ticket_30 : NotMatched 30
  ticket_31 : NotMatched 31
  ticket_32 : NotMatched 32
  ticket_34 : NotMatched 34

pub unmatched_least : {n : ℕ} → NotMatched n → 30 ≤ n
unmatched_least ticket_30 = omega arith
unmatched_least ticket_31 = omega arith
unmatched_least ticket_32 = omega arith
unmatched_least ticket_34 = omega arith

pub unmatched_not : {n : ℕ} → NotMatched n → eqb n 0 ≡ false
unmatched_not ticket_30 = refl
unmatched_not ticket_31 = refl
unmatched_not ticket_32 = refl
unmatched_not ticket_34 = refl

-- the taken command that the ticket belongs to
pub record Match (e : Endpoint) (i : ℕ) (t : Ticket) : Type 0 where
  pub slot_is : i ≤ 1
  pub request : Request
  pub in_process : (slot_at e i).phase ≡ Process request
  pub present : t.0 ≡ (slot_at e i).ticket.0
  pub was : Bool
  pub was_taken : request.taking ≡ Taken was

pub ticket_cases : (P : Result Request ℕ → Type 0) (e : Endpoint) (i : ℕ) (t : Ticket) → ((n : ℕ) → NotMatched n → P (Err n))
    → ((k : Match e i t) → P (Ok k.request)) → P (presented e i t)
unfolding presented
ticket_cases P e i t refused found = if_ind P (not (is_slot i)) (λ _. refused 30 ticket_30) (λ h. into (slot_most i h) (slot_at e i).phase refl)
  where
    row : i ≤ 1 → (r : Request) → (slot_at e i).phase ≡ Process r → t.0 ≡ (slot_at e i).ticket.0 → (u : Taking) → r.taking ≡ u → P (presented_row r u)
    row is r p k Untaken u = refused 34 ticket_34
    row is r p k (Taken can) u = found (record { slot_is = is; request = r; in_process = p; present = k; was = can; was_taken = u })

    into : i ≤ 1 → (p : Phase) → (slot_at e i).phase ≡ p → P (presented_in t (slot_at e i) p)
    into is (Idle held) p = refused 31 ticket_31
    into is (Receive a) p = refused 31 ticket_31
    into is (Process r) p =
        if_ind P (not (is_present t (slot_at e i))) (λ _. refused 32 ticket_32)
        (λ k. row is r p (eqb-true t.0 (slot_at e i).ticket.0 (not-false (is_present t (slot_at e i)) k)) r.taking refl)
    into is (Answered r) p = refused 31 ticket_31
    into is (Transmit r) p = refused 31 ticket_31
