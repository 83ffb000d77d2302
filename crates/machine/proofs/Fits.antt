-- How a slot, its store and the history's trace of it fit together, and what one call may do to them.
-- Assumes nothing.
use Prim.Native.Nat.{ℕ, ◌+◌, ◌*◌, ◌/◌, ◌%◌, ◌^◌, ◌≤◌}
use mathlib.Core.Path.{◌≡◌, refl, ap}
use mathlib.Core.Bool.{Bool, true, false, not, and-false, not-and_self}
use mathlib.Core.List.{List, [], ◌∷◌}
use native.Mathlib.Nat.{mul-zero, mod-lt, mod-eq_of_lt, zero-lt-suc}
use native.Mathlib.Omega.{arith}
use lib.Dec.{ltb}
use lib.ListN.{length, take}
use borrow.Author.Tests.{ne_eqb}
use Rattle.std.specs.Prelude.{Result, Ok, Err, Option, None, Some, if◌then◌else◌}
use Rattle.lent.specs.Bytes.{byte_at, is_set}
use Rattle.lent.proofs.Choice.{false_true, differ}
use Rattle.nvme_mi.specs.Message.{message_header, is_known, command_fault}
use Rattle.nvme_mi.specs.Response.{response, fault_body}
use Rattle.nvme_mi.specs.declared.Fault.{Fault}
use Rattle.nvme_mi.specs.declared.Fault.TheVariants.{Parameter, InvalidSize}
use Rattle.machine.specs.State.{World, outgoing, settled}
use Rattle.machine.specs.Finish.{taken_request}
use Rattle.machine.specs.Calls.{receive, number}
use Rattle.machine.specs.Valid.{is_begun, PhaseFacts}
use Rattle.machine.specs.History.{Trace, is_transmit, kind_of, response_for, least_length, fixed_at_entry, commanded, sending, transmitted}
use Rattle.machine.specs.Demands.{is_process}
use Rattle.machine.specs.Types.{Taking, Untaken, Taken, Request, Response, Outgoing, Phase, Idle, Receive, Process, Answered, Transmit, Slot}
use Rattle.machine.proofs.Slots.{is_early}

-- ---- the fit

-- how often a command in Process was taken
abbrev pub takes_of : Taking → ℕ
takes_of Untaken = 0
takes_of (Taken can) = 1

-- what was declared last of it
abbrev pub mark_of : Taking → Bool
mark_of Untaken = false
mark_of (Taken can) = can

-- a command in Process: the store's front is the request, the state has its kind, sender and tag, no response is fixed, and the trace counts
-- its take and has its mark
pub record Asked (r : Request) (store : List ℕ) (l : Trace) : Type 0 where
  pub held : take r.length store ≡ l.request
  pub kind_is : r.kind ≡ kind_of l.request
  pub from : r.source ≡ l.requester
  pub under : r.tag ≡ l.tag
  pub unfixed : l.response ≡ []
  pub takes_are : l.takes ≡ takes_of r.taking
  pub mark_is : l.stoppable ≡ mark_of r.taking

-- a response that is there: the store's front is the response of the last entry, to its requester under its tag
pub record Full (r : Response) (store : List ℕ) (l : Trace) : Type 0 where
  pub held : take r.length store ≡ l.response
  pub size : length l.response ≡ r.length
  pub to : r.requester ≡ l.requester
  pub under : r.tag ≡ l.tag

pub record Going (unit : ℕ) (r : Outgoing) (store : List ℕ) (l : Trace) : Type 0 where
  pub full : Full r.response store l
  pub paid : l.payloads ≡ take (unit * r.sent) l.response
  pub count : l.packets ≡ r.sent

-- what is held lies at the store's front, and is the response of the last entry
abbrev pub FitH : Option Response → List ℕ → Trace → Type 0
FitH None store l = Unit {0}
FitH (Some r) store l = Full r store l

abbrev pub FitP : ℕ → Phase → List ℕ → Trace → Type 0
FitP unit (Idle k) store l = FitH k store l
FitP unit (Receive a) store l = take a.length store ≡ l.request
FitP unit (Process r) store l = Asked r store l
FitP unit (Answered r) store l = Full r store l
FitP unit (Transmit r) store l = Going unit r store l

pub record Fit (unit : ℕ) (s : Slot) (store : List ℕ) (l : Trace) : Type 0 where
  pub phase_fits : FitP unit s.phase store l
  pub ticket_is : s.ticket.0 ≡ l.entries % 2 ^ 32

-- ---- what a call does to a slot's entries and request

pub data Entry (p q : Phase) (l m : Trace) : Type 0 where
  entered : is_early p ≡ true → is_early q ≡ false → m.entries ≡ l.entries + 1 → Entry p q l m
  stayed : m.entries ≡ l.entries → (is_process q ≡ true → (is_process p ≡ true) × (m.request ≡ l.request)) → Entry p q l m

-- ---- what a call other than poll does to a slot's phase; C says that it cuts the slot off

pub data Steady (C : Type 0) (p q : Phase) : Type 0 where
  same : q ≡ p → Steady C p q
  newly : is_early p ≡ true → is_begun q ≡ false → Steady C p q
  released : (r : Response) → p ≡ Answered r → q ≡ Transmit (outgoing r 0) → Steady C p q
  handed_over : (r : Request) (can : Bool) → p ≡ Process r → q ≡ Process (taken_request r can) → Steady C p q
  worked : (r : Request) (b : Bool) (x : Response) → p ≡ Process r → q ≡ settled b x → Steady C p q
  fell : C → q ≡ Idle None → Steady C p q

pub record Carried (unit : ℕ) (C : Type 0) (s t : Slot) (store : List ℕ) (l m : Trace) : Type 0 where
  pub fit : Fit unit t store m
  pub entry : Entry s.phase t.phase l m
  pub steady : Steady C s.phase t.phase

-- ---- what the trace gains of a call that hands out no packet

pub quiet_same : (p q : Phase) (n : ℕ) (l : Trace) → q ≡ p → transmitted p q (number n) l ≡ l
quiet_same p q n l e = rw (e, not-and_self (is_transmit p)) refl

pub quiet_other : (p q : Phase) (n : ℕ) (l : Trace) → is_transmit q ≡ false → transmitted p q (number n) l ≡ l
quiet_other p q n l e = rw (e, and-false (not (is_transmit p))) refl

pub quiet_begins : (p q : Phase) (n : ℕ) (l : Trace) → is_transmit p ≡ false → is_transmit q ≡ true → transmitted p q (number n) l ≡ sending l 0 []
quiet_begins p q n l e f = rw (e, f) refl

-- a refused packet adds nothing
pub refusal_trace : (j : ℕ) (p : List ℕ) (w : World) (n : ℕ) (l : Trace) → 2 ≤ n → commanded j (receive p) w (number n) l ≡ l
refusal_trace j p w n l h = rw (ne_eqb n 0 (λ e. omega arith), ne_eqb n 1 (λ e. omega arith)) refl

-- ---- a slot that a call leaves alone, or that falls back to Idle

pub carried_same : {unit : ℕ} {C : Type 0} {s t : Slot} {store : List ℕ} {l : Trace} (n : ℕ) → t.phase ≡ s.phase → t.ticket ≡ s.ticket → Fit unit s store l
    → Carried unit C s t store l (transmitted s.phase t.phase (number n) l)
carried_same {unit} {C} {s} {t} {store} {l} n e k f =
    rw (quiet_same s.phase t.phase n l e)
    (record {
      fit = record { phase_fits = rw e f.phase_fits; ticket_is = rw k f.ticket_is };
      entry = stayed refl (λ h. (rw e at h, refl));
      steady = same e;
    })

idle_not : {q : Phase} → q ≡ Idle None → is_transmit q ≡ false
idle_not e = rw e refl

idle_process : {A : Type 0} {q : Phase} → q ≡ Idle None → is_process q ≡ true → A
idle_process e h = false_true (rw e at h)

-- the store may have changed
carried_idle : {unit : ℕ} {C : Type 0} {s t : Slot} (store : List ℕ) {l : Trace} (n : ℕ) → t.phase ≡ Idle None → t.ticket ≡ s.ticket → s.ticket.0 ≡ l.entries % 2 ^ 32
    → Steady C s.phase t.phase → Carried unit C s t store l (transmitted s.phase t.phase (number n) l)
carried_idle {unit} {C} {s} {t} store {l} n e k f g =
    rw (quiet_other s.phase t.phase n l (idle_not e))
    (record {
      fit = record { phase_fits = rw e tt; ticket_is = rw k f };
      entry = stayed refl (λ h. idle_process e h);
      steady = g;
    })

pub carried_ended : {unit : ℕ} {C : Type 0} {s t : Slot} (store : List ℕ) {l : Trace} (n : ℕ) → is_early s.phase ≡ true → t.phase ≡ Idle None → t.ticket ≡ s.ticket
    → s.ticket.0 ≡ l.entries % 2 ^ 32 → Carried unit C s t store l (transmitted s.phase t.phase (number n) l)
carried_ended store n early e k f = carried_idle store n e k f (newly early (rw e refl))

pub carried_cut : {unit : ℕ} {C : Type 0} {s t : Slot} (store : List ℕ) {l : Trace} (n : ℕ) → C → t.phase ≡ Idle None → t.ticket ≡ s.ticket
    → s.ticket.0 ≡ l.entries % 2 ^ 32 → Carried unit C s t store l (transmitted s.phase t.phase (number n) l)
carried_cut store n c e k f = carried_idle store n e k f (fell c e)

-- a response that is there goes to Transmit
carried_begins : {unit : ℕ} {C : Type 0} {s t : Slot} {store : List ℕ} {l : Trace} (n : ℕ) (r : Response) → is_transmit s.phase ≡ false → Full r store l
    → t.phase ≡ Transmit (outgoing r 0) → t.ticket ≡ s.ticket → Fit unit s store l → Steady C s.phase t.phase
    → Carried unit C s t store l (transmitted s.phase t.phase (number n) l)
carried_begins {unit} {C} {s} {t} {store} {l} n r a full e k f g =
    rw (quiet_begins s.phase t.phase n l a (rw e refl))
    (record {
      fit =
          record {
            phase_fits = rw e (record { full = record { held = full.held; size = full.size; to = full.to; under = full.under }; paid = rw mul-zero refl; count = refl });
            ticket_is = rw k f.ticket_is;
          };
      entry = stayed refl (λ h. false_true (rw e at h));
      steady = g;
    })

-- Resume: one that waited in Process
pub carried_released : {unit : ℕ} {C : Type 0} {s t : Slot} {store : List ℕ} {l : Trace} (n : ℕ) (r : Response) → s.phase ≡ Answered r
    → t.phase ≡ Transmit (outgoing r 0) → t.ticket ≡ s.ticket → Fit unit s store l → Carried unit C s t store l (transmitted s.phase t.phase (number n) l)
carried_released n r a e k f = carried_begins n r (rw a refl) (rw a at f.phase_fits) e k f (released r a e)

-- Replay: one that an Idle slot holds
pub carried_replayed : {unit : ℕ} {C : Type 0} {s t : Slot} {store : List ℕ} {l : Trace} (n : ℕ) (r : Response) → s.phase ≡ Idle (Some r)
    → t.phase ≡ Transmit (outgoing r 0) → t.ticket ≡ s.ticket → Fit unit s store l → Carried unit C s t store l (transmitted s.phase t.phase (number n) l)
carried_replayed n r a e k f = carried_begins n r (rw a refl) (rw a at f.phase_fits) e k f (newly (rw a refl) (rw e refl))

-- ---- the response in the document's words is the machine's

one_bit : (i : ℕ) → i ≤ 1 → i % 2 ≡ i
one_bit i h = mod-eq_of_lt (omega arith)

pub response_is : (i : ℕ) (request body : List ℕ) → i ≤ 1 → response (kind_of request) i body ≡ response_for i request body
unfolding response
response_is i request body h =
    let four : kind_of request % 16 ≡ kind_of request = mod-eq_of_lt (mod-lt (byte_at request 1 / 8) (zero-lt-suc 15)) in
    rw (one_bit i h, four) refl

abbrev pub at_entry : ℕ → List ℕ → Result (Unit {0}) Fault → List ℕ
at_entry i request (Ok none) = []
at_entry i request (Err fault) = response_for i request (fault_body (Err fault))

by_tests : (i : ℕ) (request : List ℕ) (a b c : Bool)
    → (if a then response_for i request (4 ∷ 3 ∷ 1 ∷ 0 ∷ []) else if b then response_for i request (4 ∷ 0 ∷ 2 ∷ 0 ∷ []) else if c then response_for i request (5 ∷ 0 ∷ 0 ∷ 0 ∷ []) else [])
    ≡ at_entry i request (if a then Err (Parameter 1 3) else if b then Err (Parameter 2 0) else if c then Err InvalidSize else Ok tt)
by_tests i request true b c = refl
by_tests i request false true c = refl
by_tests i request false false true = refl
by_tests i request false false false = refl

-- what is fixed at entry is what the tests there say
pub fixed_is : (i : ℕ) (request : List ℕ) → fixed_at_entry i request ≡ at_entry i request (command_fault (message_header request) (length request))
unfolding command_fault
fixed_is i request =
    by_tests i request (not (is_known (kind_of request))) (is_set (byte_at request 2) 0) (ltb (length request) (least_length (kind_of request)))

-- ---- a response that is there for the first time

entry_sending : {p q : Phase} {l m : Trace} → Entry p q l m → Entry p q l (sending m 0 [])
entry_sending (entered a b e) = entered a b e
entry_sending (stayed e f) = stayed e f

-- it goes to Transmit at once, unless the slot's own flag is set
pub carried_settled : {unit : ℕ} {C : Type 0} {s t : Slot} {store : List ℕ} {l : Trace} (m : Trace) (n : ℕ) (b : Bool) (r : Response) → is_transmit s.phase ≡ false
    → t.phase ≡ settled b r → Full r store m → t.ticket.0 ≡ m.entries % 2 ^ 32 → Entry s.phase t.phase l m → Steady C s.phase t.phase
    → Carried unit C s t store l (transmitted s.phase t.phase (number n) m)
carried_settled {unit} {C} {s} {t} {store} {l} m n true r a e f k y g =
    rw (quiet_other s.phase t.phase n m (rw e refl))
    (record { fit = record { phase_fits = rw e f; ticket_is = k }; entry = y; steady = g })
carried_settled {unit} {C} {s} {t} {store} {l} m n false r a e f k y g =
    rw (quiet_begins s.phase t.phase n m a (rw e refl))
    (record {
      fit =
          record {
            phase_fits = rw e (record { full = record { held = f.held; size = f.size; to = f.to; under = f.under }; paid = rw mul-zero refl; count = refl });
            ticket_is = k;
          };
      entry = entry_sending y;
      steady = g;
    })

pub settled_begun : (b : Bool) (r : Response) → is_begun (settled b r) ≡ false
settled_begun true r = refl
settled_begun false r = refl

pub settled_late : (b : Bool) (r : Response) → is_early (settled b r) ≡ false
settled_late true r = refl
settled_late false r = refl

pub settled_process : (b : Bool) (r : Response) → is_process (settled b r) ≡ false
settled_process true r = refl
settled_process false r = refl

-- the ticket count and the entries rise together
pub next_ticket_lem : (t e : ℕ) → t ≡ e % 2 ^ 32 → (t + 1) % 2 ^ 32 ≡ (e + 1) % 2 ^ 32
next_ticket_lem t e h = rw h (omega arith)

-- ---- a response that is there: it waits in Process, or is being sent

pub data There (q : Phase) : Type 0 where
  waits : (r : Response) → q ≡ Answered r → There q
  goes : (r : Outgoing) → q ≡ Transmit r → There q

pub settled_there : (b : Bool) (r : Response) {q : Phase} → q ≡ settled b r → There q
settled_there true r e = waits r e
settled_there false r e = goes (outgoing r 0) e

pub answered_not : {A : Type 0} {r : Response} {x : Request} → Answered r ≡ Process x → A
answered_not e = differ (cc e)

-- the trace has it, and it is not empty
pub some_response : {unit : ℕ} (s : Slot) (store : List ℕ) (l : Trace) → Fit unit s store l → PhaseFacts unit s.paused s.phase → There s.phase → l.response ≡ [] → ⊥
some_response {unit} s store l f v (waits r e) none =
    let k : Full r store l = rw e at f.phase_fits in
    let b : PhaseFacts unit s.paused (Answered r) = rw e at v in
    omega (arith, k.size, ap (λ (x : List ℕ). length x) none, b.1.least)
some_response {unit} s store l f v (goes r e) none =
    let k : Going unit r store l = rw e at f.phase_fits in
    let b : PhaseFacts unit s.paused (Transmit r) = rw e at v in
    omega (arith, k.full.size, ap (λ (x : List ℕ). length x) none, b.1.least)
