-- What can happen to a command.
-- Assumes nothing.
use Prim.Native.Nat.{ℕ, ◌+◌, ◌%◌, ◌^◌, ◌≤◌}
use mathlib.Core.Path.{◌≡◌, refl, sym, ap, ◌∙◌}
use mathlib.Core.Bool.{Bool, true, false, not, ◌&&◌}
use mathlib.Core.List.{List, []}
use native.Mathlib.Omega.{arith}
use lib.Dec.{eqb, ltb}
use lib.ListN.{length, take}
use borrow.Author.Tests.{eqb-true}
use Rattle.std.specs.Prelude.{Result, Ok, Err, if◌then◌else◌}
use Rattle.lent.proofs.Choice.{if_second, false_true, differ}
use Rattle.mctp.specs.Header.{payload_of}
use Rattle.nvme_mi.specs.Check.{check_right}
use Rattle.nvme_mi.specs.Message.{message_header, command_fault, smallest}
use Rattle.nvme_mi.specs.Response.{fault_body}
use Rattle.nvme_mi.specs.declared.Fault.{Fault}
use Rattle.machine.specs.State.{World, Outcome, slot_at, store_at, with_slot, ticket}
use Rattle.machine.specs.Process.{responded_at_once, entered}
use Rattle.machine.specs.Receive.{refused, refused_busy, received}
use Rattle.machine.specs.Finish.{is_slot, taken_request, part_of, part}
use Rattle.machine.specs.Poll.{after_packet}
use Rattle.machine.specs.Valid.{Sound}
use Rattle.machine.specs.Calls.{Call, read, complete, poll, is_plain, part_read, Stepped, step}
use Rattle.machine.specs.History.{Trace, History, phase_at, request_with, source_of, message_tag_of, kind_of, fixed_at_entry, trace_after, next, run, start, cuts}
use Rattle.machine.specs.Demands.{is_process, completes}
use Rattle.machine.specs.Commands.{RightCheck, Accepted, AcceptedRight, SameCommand, Stays, worked_on, answered, cut_off, CommandStays, TakenFirst, FixedOnce}
use Rattle.machine.specs.Types.{Taking, Untaken, Taken, Request, Outgoing, Phase, Idle, Receive, Process, Answered, Transmit, Slot}
use Rattle.machine.proofs.Slots.{is_early, facts_at}
use Rattle.machine.proofs.Cases.{same_number, slot_most}
use Rattle.machine.proofs.Receiving.{Joining, filled, grown, whole, Ground, in_table, of_control, of_no_slot, Break, in_sequence, in_size, in_total, Walk, walked, right_stores}
use Rattle.machine.proofs.Keeps.{Chosen, chosen_at, step_sound}
use Rattle.machine.proofs.Places.{Which, this, that, which, slot_that}
use Rattle.machine.proofs.Fits.{takes_of, Asked, Fit, Entry, entered as came, stayed, Steady, same, newly, released, handed_over, worked, fell, There, settled_there, answered_not, some_response, at_entry, fixed_is}
use Rattle.machine.proofs.Carried.{Mid, for_this, in_process, whole_is, size_is, start_mid, ended_mid, w₂, command}
use Rattle.machine.proofs.Polling.{PollCase, still, replies, sends, poll_case}
use Rattle.machine.proofs.Histories.{Good, by_kind, plain_carries, kept_by, good_every, next_unit, for_unit}
use Rattle.machine.proofs.Tickets.{gave, accepted}
use Rattle.machine.proofs.Responses.{Turned, kept, came_in, answered as answered_by, turned, came_in_so}
use Rattle.machine.proofs.Arrives.{filled as response_filled}

-- ---- answer 1

-- the machine's test of the check is the document's
check_right_lem : (m : List ℕ) → 8 ≤ length m → check_right m ≡ true → RightCheck m
unfolding check_right
check_right_lem m n e =
    let k = if_second (ltb (length m) 4) (λ q. false_true q) e in
    record { enough = n; checked = eqb-true _ _ k.1 }

module _ (w₀ : World) (p : List ℕ) (trace : ℕ → Trace) (s₀ : Sound w₀)
    (fits : (j : ℕ) → j ≤ 1 → Fit w₀.endpoint.unit (slot_at w₀.endpoint j) (store_at w₀ j) (trace j)) where
  abbrev Said : Outcome → Type 0
  Said o = o.answer ≡ 1 → Accepted w₀ trace p o.world

  ground_not : {A : Type 0} (n : ℕ) → Ground w₀ p n → n ≡ 1 → A
  ground_not n (in_table _ lo hi) e = absurd (omega arith)
  ground_not _ (of_control _ _) e = absurd (omega arith)
  ground_not _ (of_no_slot _ _) e = absurd (omega arith)

  break_not : {A : Type 0} (n : ℕ) → Break w₀ p n → n ≡ 1 → A
  break_not _ (in_sequence _) e = absurd (omega arith)
  break_not _ (in_size _) e = absurd (omega arith)
  break_not _ (in_total _) e = absurd (omega arith)

  module _ (w : World) (i at : ℕ) (j : Joining w₀ p w i at) (lo : smallest ≤ at + length (payload_of p)) (right : check_right (whole w₀ p w i at) ≡ true)
      (m : Mid w₀ p trace s₀ fits w) where
    abbrev request : List ℕ
    request = request_with p (trace i)

    text_is : whole w₀ p w i at ≡ request
    text_is = whole_is w₀ p trace s₀ fits w i at j lo m

    long : at + length (payload_of p) ≡ length request
    long = size_is w₀ p trace s₀ fits w i at j lo m

    -- no test at the entry failed: it waits in Process
    in_store : (f : Result (Unit {0}) Fault) → fixed_at_entry i request ≡ at_entry i request f → fixed_at_entry i request ≡ []
        → (phase_at (responded_at_once (w₂ w₀ p trace s₀ fits w i at j lo m) i (command w₀ p trace s₀ fits w i at j lo m) f) i
        ≡ Process (record { source = source_of p; tag = message_tag_of p; kind = kind_of request; length = length request; taking = Untaken }))
        × (take (length request) (store_at (responded_at_once (w₂ w₀ p trace s₀ fits w i at j lo m) i (command w₀ p trace s₀ fits w i at j lo m) f) i) ≡ request)
    in_store (Ok nothing) e none =
        (in_process w₀ p trace s₀ fits w i at j lo m ∙ rw (text_is, long) refl, rw (sym long) text_is)
    in_store (Err fault) e none = absurd (response_filled i request (fault_body (Err fault)) (sym e ∙ none))

    fault_is : fixed_at_entry i request ≡ at_entry i request (command_fault (message_header (whole w₀ p w i at)) (at + length (payload_of p)))
    fault_is = fixed_is i request ∙ rw (text_is, long) refl

    enters : Accepted w₀ trace p (entered (filled w₀ p w i at) i (grown w₀ p at) (message_header (whole w₀ p w i at)))
    unfolding entered
    enters =
        record {
          slot = i;
          slot_is = j.slot_is;
          for_it = for_this w₀ p trace s₀ fits w i at m j;
          right = check_right_lem request (rw (sym long) lo) (rw (sym text_is) right);
          waits = λ none. unfold entered in (in_store (command_fault (message_header (whole w₀ p w i at)) (at + length (payload_of p))) fault_is none);
        }

  the_walk : Walk w₀ p (Mid w₀ p trace s₀ fits) Said
  the_walk =
      record {
        sound = λ w m. m.sound;
        unread = λ n lo hi. unfold refused in (λ e. absurd (omega arith));
        refusing = λ w n k _. unfold refused in (λ e. ground_not n k e);
        busying = λ w i b _. unfold refused_busy in (λ e. absurd (omega arith));
        dropping = λ w i n k g _. unfold refused in (λ e. break_not n k e);
        failing = λ w i at j _. unfold refused in (λ e. absurd (omega arith));
        gaining = λ w i at j _ _ _ e. absurd (omega arith);
        entering = λ w i at j _ lo right m _. enters w i at j lo right m;
        controlling = λ w c _ e. absurd (omega arith);
      }

  received_right : Said (received w₀ p)
  received_right = walked w₀ p (Mid w₀ p trace s₀ fits) Said the_walk s₀ (λ _. start_mid w₀ p trace s₀ fits) (ended_mid w₀ p trace s₀ fits)

pub accepted_right : AcceptedRight
unfolding step
accepted_right eid unit store0 store1 a b xs p e =
    let h = run xs (start eid unit store0 store1) in
    let g = good_every eid unit store0 store1 a b xs in
    received_right h.world p h.trace g.sound g.fits (same_number e)

-- what the trace has of a command in Process
asked_by : {unit : ℕ} (s : Slot) (store : List ℕ) (l : Trace) (r : Request) → Fit unit s store l → s.phase ≡ Process r → Asked r store l
asked_by s store l r f e = rw e at f.phase_fits

pub asked_at : (h : History) → Good h → (i : ℕ) → i ≤ 1 → (r : Request) → phase_at h.world i ≡ Process r → Asked r (store_at h.world i) (h.trace i)
asked_at h g i is r p = asked_by (slot_at h.world.endpoint i) (store_at h.world i) (h.trace i) r (g.fits i is) p

pub fixed_once : FixedOnce
fixed_once eid unit store0 store1 a b xs i t body e =
    let h = run xs (start eid unit store0 store1) in
    let g = good_every eid unit store0 store1 a b xs in
    let k = accepted h.world i t (complete i t body) (completes body) e in
    (asked_at h g i k.slot_is k.request k.in_process).unfixed

-- ---- taking and reading

part_is : (h : History) → Good h → (i : ℕ) → i ≤ 1
    → part_of (store_at h.world i) (phase_at h.world i) ≡ (if is_process (phase_at h.world i) && eqb (h.trace i).takes 1 then (h.trace i).request else [])
part_is h g i is = by (phase_at h.world i) refl
  where
    row : (r : Request) (u : Taking) → r.taking ≡ u → phase_at h.world i ≡ Process r
        → part_of (store_at h.world i) (Process r) ≡ (if eqb (h.trace i).takes 1 then (h.trace i).request else [])
    row r Untaken u p = let k = asked_at h g i is r p in rw (u, k.takes_are ∙ ap takes_of u) refl
    row r (Taken can) u p = let k = asked_at h g i is r p in rw (u, k.takes_are ∙ ap takes_of u) k.held

    by : (p : Phase) → phase_at h.world i ≡ p → part_of (store_at h.world i) p ≡ (if is_process p && eqb (h.trace i).takes 1 then (h.trace i).request else [])
    by (Idle held) p = refl
    by (Receive a) p = refl
    by (Process r) p = row r r.taking refl p
    by (Answered r) p = refl
    by (Transmit r) p = refl

reads_so : (h : History) → Good h → (i : ℕ)
    → (step (read i) h.world).event ≡ part_read (if ltb i 2 && (is_process (phase_at h.world i) && eqb (h.trace i).takes 1) then (h.trace i).request else [])
unfolding step part
reads_so h g i = rw (right_stores h.world g.sound) (ap part_read (by (is_slot i) refl))
  where
    by : (x : Bool) → is_slot i ≡ x → (if not x then [] else part_of (store_at h.world i) (phase_at h.world i))
        ≡ (if x && (is_process (phase_at h.world i) && eqb (h.trace i).takes 1) then (h.trace i).request else [])
    by true e = part_is h g i (slot_most i (rw e refl))
    by false e = refl

pub taken_first : TakenFirst
taken_first eid unit store0 store1 a b xs i =
    let h = run xs (start eid unit store0 store1) in
    let g = good_every eid unit store0 store1 a b xs in
    record {
      once = λ t e. let k = gave h.world g.sound i t e in (asked_at h g i k.slot_is k.request k.in_process).takes_are ∙ ap takes_of k.untaken;
      first = λ t c presents e. let k = accepted h.world i t c presents e in (asked_at h g i k.slot_is k.request k.in_process).takes_are ∙ ap takes_of k.was_taken;
      reads = reads_so h g i;
    }

-- ---- a command that is worked on

sending_not : {A : Type 0} {r : Request} {x : Outgoing} → Process r ≡ Transmit x → A
sending_not e = differ (cc e)

module _ (h : History) (g : Good h) (i : ℕ) (is : i ≤ 1) (r : Request) (p : phase_at h.world i ≡ Process r) where
  -- it is in Process still
  worked_same : (c : Call) (x : Request) → phase_at (step c h.world).world i ≡ Process x → x.source ≡ r.source → x.tag ≡ r.tag → x.kind ≡ r.kind
      → x.length ≡ r.length → SameCommand h c i r
  worked_same c x q a b d n = by (kept_by c h g i is).entry
    where
      before : Asked r (store_at h.world i) (h.trace i)
      before = asked_at h g i is r p

      fit : Fit h.world.endpoint.unit (slot_at (step c h.world).world.endpoint i) (store_at (step c h.world).world i) (trace_after i c h.world (step c h.world) (h.trace i))
      fit = (kept_by c h g i is).fit

      now_asked : Asked x (store_at (step c h.world).world i) (trace_after i c h.world (step c h.world) (h.trace i))
      now_asked = asked_by _ _ _ x fit q

      by : Entry (phase_at h.world i) (phase_at (step c h.world).world i) (h.trace i) (trace_after i c h.world (step c h.world) (h.trace i)) → SameCommand h c i r
      by (came early late e) = false_true (sym (ap is_early p) ∙ early)
      by (stayed e f) =
          record {
            now = x;
            in_process = q;
            same_source = a;
            same_tag = b;
            same_kind = d;
            same_length = n;
            same_ticket = ap ticket (fit.ticket_is ∙ ap (λ (m : ℕ). m % 2 ^ 32) e ∙ sym (g.fits i is).ticket_is);
            same_bytes = rw (sym n) now_asked.held ∙ (f (ap is_process q)).1 ∙ sym before.held;
          }

  same_phase : (c : Call) → phase_at (step c h.world).world i ≡ phase_at h.world i → Stays h c i r
  same_phase c e = worked_on (worked_same c r (e ∙ p) refl refl refl refl)

  -- its response is there: then the call completed it
  completed_by : (c : Call) → There (phase_at (step c h.world).world i) → Stays h c i r
  completed_by c t = by (turned i c h)
    where
      response : (trace_after i c h.world (step c h.world) (h.trace i)).response ≡ [] → ⊥
      response none =
          let units : (step c h.world).world.endpoint.unit ≡ h.world.endpoint.unit = unfold next in (next_unit c h g) in
          some_response _ _ _ (for_unit units (kept_by c h g i is).fit) (facts_at i is (step_sound c h.world g.sound).state) t none

      by : Turned i c h (step c h.world).event (h.trace i) ((next c h).trace i) → Stays h c i r
      by (kept a b) = absurd (response (unfold next in (a ∙ (asked_at h g i is r p).unfixed)))
      by (came_in x e v k n m) = false_true (sym (ap is_early p) ∙ (came_in_so i is c h g n).0)
      by (answered_by t body e v n m) = answered t body e v

  by_steady : (c : Call) → cuts i c h.world ≡ false → Steady (cuts i c h.world ≡ true) (phase_at h.world i) (phase_at (step c h.world).world i) → Stays h c i r
  by_steady c n (same e) = same_phase c e
  by_steady c n (newly early _) = false_true (sym (ap is_early p) ∙ early)
  by_steady c n (released x a b) = answered_not (sym a ∙ p)
  by_steady c n (handed_over x can a b) =
      let k : x ≡ r = same_request (sym a ∙ p) in
      worked_on (worked_same c (taken_request x can) b (ap (λ (y : Request). y.source) k) (ap (λ (y : Request). y.tag) k) (ap (λ (y : Request). y.kind) k) (ap (λ (y : Request). y.length) k))
    where
      same_request : {x y : Request} → Process x ≡ Process y → x ≡ y
      same_request e = cc
  by_steady c n (worked x b y a d) = completed_by c (settled_there b y d)
  by_steady c n (fell k e) = cut_off k

  plain_stays : (c : Call) → is_plain c ≡ true → Stays h c i r
  plain_stays c plain = by (cuts i c h.world) refl
    where
      by : (x : Bool) → cuts i c h.world ≡ x → Stays h c i r
      by true e = cut_off e
      by false e = by_steady c e ((plain_carries c h g plain).carried i is).steady

  poll_stays : (buffer : List ℕ) → Stays h (poll buffer) i r
  poll_stays buffer = same_phase (poll buffer) (by (poll_case h.world buffer g.sound))
    where
      by : {s : Stepped} → PollCase h.world buffer s → phase_at s.world i ≡ phase_at h.world i
      by (still n _) = refl
      by (replies _ _ _) = refl
      by (sends k q c counted) = at (chosen_at h.world.endpoint g.sound.state c)
        where
          at : Chosen h.world.endpoint k q → (slot_at (with_slot h.world.endpoint k (after_packet h.world.endpoint.unit (slot_at h.world.endpoint k) q)) i).phase ≡ phase_at h.world i
          at o = go (which k i o.slot_is is)
            where
              go : Which k i → (slot_at (with_slot h.world.endpoint k (after_packet h.world.endpoint.unit (slot_at h.world.endpoint k) q)) i).phase ≡ phase_at h.world i
              go (this e) = sending_not {r = r} {x = q} (sym p ∙ rw e o.sends)
              go (that e) = rw e (ap (λ (s : Slot). s.phase) (slot_that k o.slot_is g.sound.state (after_packet h.world.endpoint.unit (slot_at h.world.endpoint k) q)))

  stays : (c : Call) → Stays h c i r
  stays = by_kind (λ (c : Call). Stays h c i r) plain_stays poll_stays (cut_off refl)

pub command_stays : CommandStays
command_stays eid unit store0 store1 a b xs c i is r p = stays (run xs (start eid unit store0 store1)) (good_every eid unit store0 store1 a b xs) i is r p c
