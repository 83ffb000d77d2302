-- Whether a taken command can still be stopped, of document 02: that the state has what the drive's software declared last, that a declaration
-- changes nothing else, what an Abort reports of it, and that this is right before and after. The proofs: `mark_is`, `mark_own`, `declare_marks`,
-- `abort_tells`, `told_stopped` (proofs/Stopping).
-- Assumes nothing.
use Rattle.std.specs.Prelude.{ℕ, ◌≤◌, ◌≡◌, Bool, true, false, ◌||◌, List, [], ◌∷◌, ◌++◌, eqb, length, if◌then◌else◌}
use Rattle.lent.specs.Bytes.{byte_at}
use Rattle.machine.specs.State.{World, slot, slot_at, on_slot, reply_message}
use Rattle.machine.specs.Valid.{phased}
use Rattle.machine.specs.Calls.{Call, receive, declare, number, step}
use Rattle.machine.specs.History.{Trace, History, bytes_from4, phase_at, is_abort, next, run, start}
use Rattle.machine.specs.Demands.{Every, is_process}
use Rattle.machine.specs.Stale.{present_ticket, CutOff}
use Rattle.machine.specs.Replies.{slot_found, reply_of}
use Rattle.machine.specs.Types.{Ticket, Taking, Untaken, Taken, Request, Process}

-- ---- the mark

-- a command in Process, from the calls since it came in: untaken, or taken and with what was declared last since its take
abbrev pub taking_since : Trace → Taking
taking_since l = if eqb l.takes 0 then Untaken else Taken l.stoppable

-- THE MARK IS WHAT WAS DECLARED LAST of this very command. Nothing of an earlier one is in it.
abbrev pub MarkIs : Type 0
MarkIs = Every (λ h. (i : ℕ) → i ≤ 1 → (r : Request) → phase_at h.world i ≡ Process r → r.taking ≡ taking_since (h.trace i))

-- no call of the list revokes it: declares that slot i's command can no longer be stopped, and is accepted
pub data NotRevoked (i : ℕ) : List Call → History → Type 0 where
  no_call : {h : History} → NotRevoked i [] h
  one_more : {c : Call} {cs : List Call} {h : History} → ((t : Ticket) → c ≡ declare i t false → (step c h.world).event ≡ number 0 → ⊥)
      → NotRevoked i cs (next c h) → NotRevoked i (c ∷ cs) h

-- after the calls xs: one of them declared that slot i's command can still be stopped, and was accepted, with a ticket that was the slot's present
-- one then and is so now; no command of the slot came in since, and no declaration has revoked it
pub data DeclaredBy (first : History) (i : ℕ) (xs : List Call) : Type 0 where
  by_declaration : (us : List Call) (t : Ticket) (vs : List Call) → xs ≡ us ++ (declare i t true ∷ vs)
      → (step (declare i t true) (run us first).world).event ≡ number 0
      → t.0 ≡ present_ticket (run us first) i → t.0 ≡ present_ticket (run xs first) i
      → ((run xs first).trace i).entries ≡ ((run us first).trace i).entries
      → NotRevoked i vs (next (declare i t true) (run us first)) → DeclaredBy first i xs

-- A MARK HAS ITS DECLARATION. No taken command is held for one that can still be stopped unless that was its own taker's last word.
abbrev pub MarkOwn : Type 0
MarkOwn =
    (eid unit : ℕ) (store0 store1 : List ℕ) → length store0 ≡ 4224 → length store1 ≡ 4224 → (xs : List Call) (i : ℕ) → i ≤ 1 → (r : Request)
    → phase_at (run xs (start eid unit store0 store1)).world i ≡ Process r → r.taking ≡ Taken true → DeclaredBy (start eid unit store0 store1) i xs

-- ---- a declaration

-- the command with another mark, all else as it was
abbrev pub with_taking : Request → Taking → Request
with_taking r t = record { source = r.source; tag = r.tag; kind = r.kind; length = r.length; taking = t }

-- one that is accepted: a taken command of slot i was in Process under this ticket, and its mark is all that changes
pub record Marks (w : World) (i : ℕ) (t : Ticket) (can : Bool) : Type 0 where
  pub slot_is : i ≤ 1
  pub request : Request
  pub in_process : phase_at w i ≡ Process request
  pub was : Bool
  pub was_taken : request.taking ≡ Taken was
  pub present : t.0 ≡ (slot_at w.endpoint i).ticket.0
  pub leaves :
      (step (declare i t can) w).world
      ≡ on_slot w i (slot (slot_at w.endpoint i).ticket (slot_at w.endpoint i).paused (slot_at w.endpoint i).busy (Process (with_taking request (Taken can))))

abbrev pub DeclareMarks : Type 0
DeclareMarks = (w : World) (i : ℕ) (t : Ticket) (can : Bool) → (step (declare i t can) w).event ≡ number 0 → Marks w i t can

-- ---- an Abort

-- CPSR of an Abort of a command in Process without its response: 1, stopped with no effect, where no one took it or its taker declared last
-- that it can still be stopped; else 2
abbrev pub told_of : Trace → ℕ
told_of l = if eqb l.takes 0 || l.stoppable then 1 else 2

-- of slot i, as an Abort in packet p finds it
abbrev pub abort_told : History → List ℕ → ℕ → ℕ
abort_told h p i = phased 0 (λ a. 1) (λ r. told_of (h.trace i)) (λ r. 0) (λ r. 0) (slot_found h.world p i).phase

-- ABORT TELLS what the calls since the command came in have declared of it
abbrev pub AbortTells : Type 0
AbortTells =
    Every (λ h. (p : List ℕ) (i : ℕ) → i ≤ 1 → is_abort i h.world.endpoint.eid p ≡ true
    → ((step (receive p) h.world).event ≡ number 2) × (reply_message (step (receive p) h.world).world.endpoint.reply ≡ reply_of (bytes_from4 p) (abort_told h p i)))

-- ---- a command that was told as stopped

-- why a command of slot i that is in Process after the calls xs is told as one with no effect: no take gave its ticket, or its taker's last word is
-- that it can still be stopped
pub data NoEffect (first : History) (i : ℕ) (xs : List Call) : Type 0 where
  never_taken : ((run xs first).trace i).takes ≡ 0 → NoEffect first i xs
  still_can : DeclaredBy first i xs → NoEffect first i xs

-- before the Abort, which is the call behind xs, and from it on
pub record Stopped (first : History) (i : ℕ) (xs : List Call) (abort : Call) : Type 0 where
  pub until_then : NoEffect first i xs
  pub from_then : CutOff (run xs first) i abort

-- WHAT WAS TOLD AS STOPPED HAS NO LEAVE TO BEGIN, AND GETS NONE. An Abort acts on a command in Process, and CPSR of its reply (byte 6 is its low
-- byte) is 1. Then no one had taken the command, or its taker's last word was that it can still be stopped; and from the Abort on its ticket is
-- refused. Leave to begin is the answer 0 to "no longer can be stopped": the drive software's part is to begin a command only with it, and to say
-- "can" of none that it has begun. Then a command that was told as stopped has had no effect and will have none.
abbrev pub ToldStopped : Type 0
ToldStopped =
    (eid unit : ℕ) (store0 store1 : List ℕ) → length store0 ≡ 4224 → length store1 ≡ 4224 → (xs : List Call) (p : List ℕ) (i : ℕ) → i ≤ 1
    → let h = run xs (start eid unit store0 store1) in
    is_abort i h.world.endpoint.eid p ≡ true → is_process (phase_at h.world i) ≡ true
    → byte_at (reply_message (step (receive p) h.world).world.endpoint.reply) 6 ≡ 1 → Stopped (start eid unit store0 store1) i xs (receive p)
