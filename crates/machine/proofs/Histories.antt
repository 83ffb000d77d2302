-- What holds of every history: the world is sound, and each slot, its store and its trace fit.
-- Assumes nothing.
use Prim.Native.Nat.{ℕ, zero, suc, ◌≤◌}
use mathlib.Core.Path.{◌≡◌, refl, ap}
use mathlib.Core.Bool.{true}
use mathlib.Core.List.{List, [], ◌∷◌}
use native.Mathlib.Omega.{arith}
use lib.Dec.{eqb}
use lib.ListN.{length}
use Rattle.lent.proofs.Choice.{if_ind, false_true}
use Rattle.mctp.specs.Setup.{setup_refusal}
use Rattle.machine.specs.State.{World, Done, slot_at, store_at, fresh, ticket}
use Rattle.machine.specs.Wire.{store_size}
use Rattle.machine.specs.Finish.{was_reset, was_set_up}
use Rattle.machine.specs.Valid.{Sound}
use Rattle.machine.specs.Calls.{Call, receive, take!, read, complete, declare, poll, timeout, reset, is_plain, Stepped, step, begin}
use Rattle.machine.specs.History.{Trace, History, trace_after, next, run, start}
use Rattle.machine.specs.Demands.{AlwaysSound}
use Rattle.machine.specs.Types.{Slot}
use Rattle.machine.proofs.Places.{end_of, frame_end}
use Rattle.machine.proofs.Keeps.{begin_valid, step_sound}
use Rattle.machine.proofs.Fits.{Fit, Carried}
use Rattle.machine.proofs.Carried.{Carries, received_carries}
use Rattle.machine.proofs.Finished.{take_carries, read_carries, complete_carries, declare_carries, timeout_carries, reset_carried}
use Rattle.machine.proofs.Polling.{PollCase, still, replies, sends, poll_case, PollKept, poll_kept}

pub record Good (h : History) : Type 0 where
  pub sound : Sound h.world
  pub fits : (j : ℕ) → j ≤ 1 → Fit h.world.endpoint.unit (slot_at h.world.endpoint j) (store_at h.world j) (h.trace j)

-- what a call leaves of slot j and its trace
abbrev pub KeptBy : Call → History → ℕ → Type 0
KeptBy c h j =
    PollKept h.world.endpoint.unit (slot_at h.world.endpoint j) (slot_at (step c h.world).world.endpoint j) (store_at (step c h.world).world j) (h.trace j)
    (trace_after j c h.world (step c h.world) (h.trace j))

of_carried : {unit : ℕ} {C : Type 0} {s t : Slot} {store : List ℕ} {l m : Trace} → Carried unit C s t store l m → PollKept unit s t store l m
of_carried c = record { fit = c.fit; entry = c.entry }

-- a property of every call, from that of the plain ones, of a poll and of a reset
pub by_kind : (P : Call → Type 0) → ((c : Call) → is_plain c ≡ true → P c) → ((buffer : List ℕ) → P (poll buffer)) → P reset → (c : Call) → P c
by_kind P plain polled by_reset (receive p) = plain (receive p) refl
by_kind P plain polled by_reset (take! i) = plain (take! i) refl
by_kind P plain polled by_reset (read i) = plain (read i) refl
by_kind P plain polled by_reset (complete i t body) = plain (complete i t body) refl
by_kind P plain polled by_reset (declare i t can) = plain (declare i t can) refl
by_kind P plain polled by_reset (poll buffer) = polled buffer
by_kind P plain polled by_reset (timeout i) = plain (timeout i) refl
by_kind P plain polled by_reset reset = by_reset

pub plain_carries : (c : Call) (h : History) → Good h → is_plain c ≡ true → Carries c h.world h.trace (step c h.world)
unfolding step
plain_carries (receive p) h g e = received_carries h.world p h.trace g.sound g.fits
plain_carries (take! i) h g e = take_carries h.world h.trace g.sound g.fits i
plain_carries (read i) h g e = unfold step in (read_carries h.world h.trace g.sound g.fits i)
plain_carries (complete i t body) h g e = complete_carries h.world h.trace g.sound g.fits i t body
plain_carries (declare i t can) h g e = declare_carries h.world h.trace g.sound g.fits i t can
plain_carries (poll buffer) h g e = false_true e
plain_carries (timeout i) h g e = timeout_carries h.world h.trace g.sound g.fits i
plain_carries reset h g e = false_true e

pub kept_by : (c : Call) (h : History) → Good h → (j : ℕ) → j ≤ 1 → KeptBy c h j
kept_by c h g j js =
    by_kind (λ (c : Call). KeptBy c h j) (λ c plain. of_carried ((plain_carries c h g plain).carried j js))
    (λ buffer. poll_kept h.world buffer h.trace g.sound g.fits j js)
    (unfold step in (of_carried (reset_carried h.world h.trace g.sound g.fits j js))) c

-- NO CALL CHANGES THE EID OR THE UNIT
poll_end : {w : World} {buffer : List ℕ} {s : Stepped} → PollCase w buffer s → end_of s.world.endpoint ≡ end_of w.endpoint
poll_end (still n _) = refl
poll_end (replies _ _ _) = refl
poll_end (sends i r _ _) = refl

pub next_end : (c : Call) (h : History) → Good h → end_of (next c h).world.endpoint ≡ end_of h.world.endpoint
unfolding next step was_reset
next_end c h g =
    by_kind (λ (c : Call). end_of (step c h.world).world.endpoint ≡ end_of h.world.endpoint)
    (λ c plain. frame_end h.world.endpoint (step c h.world).world.endpoint (plain_carries c h g plain).frame)
    (λ buffer. poll_end (poll_case h.world buffer g.sound)) refl c

pub next_unit : (c : Call) (h : History) → Good h → (next c h).world.endpoint.unit ≡ h.world.endpoint.unit
next_unit c h g = ap (λ (x : ℕ × ℕ). x.1) (next_end c h g)

-- the fit is for the endpoint's unit
pub for_unit : {a b : ℕ} {s : Slot} {store : List ℕ} {l : Trace} → b ≡ a → Fit a s store l → Fit b s store l
for_unit e f = rw e f

pub good_next : (c : Call) (h : History) → Good h → Good (next c h)
unfolding next
good_next c h g =
    let unit_is : (step c h.world).world.endpoint.unit ≡ h.world.endpoint.unit = next_unit c h g in
    record { sound = step_sound c h.world g.sound; fits = λ j js. for_unit unit_is (kept_by c h g j js).fit }

pub good_run : (cs : List Call) (h : History) → Good h → Good (run cs h)
unfolding run
good_run [] h g = g
good_run (c ∷ cs) h g = good_run cs (next c h) (good_next c h g)

-- both slots after setup
set_up_slots : (eid unit : ℕ) → (was_set_up eid unit).endpoint.slots ≡ fresh (ticket 0) ∷ fresh (ticket 0) ∷ []
unfolding was_set_up
set_up_slots eid unit =
    if_ind Fresh (eqb (setup_refusal eid unit) 0) (λ _. refl) (λ _. refl)
  where
    Fresh : Done → Type 0
    Fresh d = d.endpoint.slots ≡ fresh (ticket 0) ∷ fresh (ticket 0) ∷ []

set_up_slot : (eid unit j : ℕ) → j ≤ 1 → slot_at (was_set_up eid unit).endpoint j ≡ fresh (ticket 0)
set_up_slot eid unit zero js = rw (set_up_slots eid unit) refl
set_up_slot eid unit (suc zero) js = rw (set_up_slots eid unit) refl
set_up_slot eid unit (suc (suc n)) js = absurd (omega arith)

pub good_start : (eid unit : ℕ) (store0 store1 : List ℕ) → length store0 ≡ store_size → length store1 ≡ store_size → Good (start eid unit store0 store1)
unfolding start
good_start eid unit store0 store1 a b =
    record {
      sound = unfold begin in (record { state = begin_valid eid unit store0 store1; size0 = a; size1 = b });
      fits = λ j js. unfold begin in (rw (set_up_slot eid unit j js) (record { phase_fits = tt; ticket_is = refl }));
    }

-- every list of calls from any setup
pub good_every : (eid unit : ℕ) (store0 store1 : List ℕ) → length store0 ≡ store_size → length store1 ≡ store_size → (xs : List Call) → Good (run xs (start eid unit store0 store1))
good_every eid unit store0 store1 a b xs = good_run xs (start eid unit store0 store1) (good_start eid unit store0 store1 a b)

pub always_sound : AlwaysSound
always_sound eid unit store0 store1 a b xs = (good_every eid unit store0 store1 a b xs).sound
