-- THE WAY THERE: the requester's cut lies in the buffer packet by packet, and the endpoint gathers it.
-- Assumes nothing.
use Prim.Native.Nat.{ℕ, zero, suc, ◌-◌, ◌≤◌}
use mathlib.Core.Path.{◌≡◌, refl, ap, ◌∙◌}
use mathlib.Core.Bool.{true, false}
use mathlib.Core.List.{List, [], ◌∷◌, ◌++◌}
use lib.Dec.{eqb}
use lib.ListN.{length, take, replicate}
use borrow.Author.Tests.{le-ltb}
use Rattle.mctp.specs.Cut.{cut}
use Rattle.mctp.specs.Feed.{answers, left}
use Rattle.opening.specs.Formed.{WellFormed}
use Rattle.opening.proofs.Joining.{front_of}
use Rattle.machine.specs.State.{World, slot_at, store_at, with_phase, next_ticket}
use Rattle.machine.specs.Finish.{taken_request, taken, part}
use Rattle.machine.specs.Valid.{Sound}
use Rattle.machine.specs.Calls.{Call, receive, take!, read, Event, number, given, part_read, step, events}
use Rattle.machine.specs.History.{phase_at, fixed_at_entry, unit_of, over_unit}
use Rattle.machine.specs.Demands.{is_idle_now}
use Rattle.machine.specs.Replies.{csi_of}
use Rattle.machine.specs.declared.Taking.TheVariants.{Untaken}
use Rattle.machine.specs.declared.Request.{Request}
use Rattle.machine.specs.declared.Phase.TheVariants.{Process}
use Rattle.machine.proofs.Places.{slot_this, Which, this, that, which}
use Rattle.machine.proofs.Receiving.{csi_most}
use Rattle.machine.proofs.Tickets.{slot_yes}
use Rattle.controller.specs.State.{Valid}
use Rattle.controller.specs.Send.{cut_to}
use Rattle.controller.specs.Grounds.{cut_numbers, size_of, packets_in}
use Rattle.controller.specs.declared.Requester.{Requester}
use Rattle.controller.proofs.Calls.{cut_so}
use Rattle.round_trip.specs.Command.{receives, world_after, command_of, Untouched, Arrived, CommandArrives}
use Rattle.round_trip.proofs.Endpoint.{at_endpoint, route_in, Entered, entered_whole}

-- ---- lists of calls

abbrev numbers : List ℕ → List Event
numbers [] = []
numbers (n ∷ ns) = number n ∷ numbers ns

events_then : (xs ys : List Call) (w : World) → events (xs ++ ys) w ≡ events xs w ++ events ys (world_after xs w)
unfolding events world_after
events_then [] ys w = refl
events_then (c ∷ cs) ys w = ap (λ (es : List Event). (step c w).event ∷ es) (events_then cs ys (step c w).world)

received_events : (ps : List (List ℕ)) (w : World) → events (receives ps) w ≡ numbers (answers at_endpoint w ps)
unfolding events answers step
received_events [] w = refl
received_events (p ∷ ps) w = ap (λ (es : List Event). (step (receive p) w).event ∷ es) (received_events ps (step (receive p) w).world)

received_world : (ps : List (List ℕ)) (w : World) → world_after (receives ps) w ≡ left at_endpoint w ps
unfolding world_after left step
received_world [] w = refl
received_world (p ∷ ps) w = received_world ps (step (receive p) w).world

zeros_then : (n : ℕ) (x y : Event) → numbers (replicate n 0 ++ (1 ∷ [])) ++ (x ∷ y ∷ []) ≡ replicate n (number 0) ++ (number 1 ∷ x ∷ y ∷ [])
zeros_then zero x y = refl
zeros_then (suc n) x y = ap (λ (es : List Event). number 0 ∷ es) (zeros_then n x y)

-- ---- taking, and reading what was taken

takes : (w : World) (i : ℕ) → i ≤ 1 → (r : Request) → r.taking ≡ Untaken → phase_at w i ≡ Process r → (step (take! i) w).event ≡ given (slot_at w.endpoint i).ticket
unfolding step taken
takes w i is r u p = rw (slot_yes i is, p, u) refl

reads : (w : World) → Sound w → (i : ℕ) → i ≤ 1 → (r : Request) → r.taking ≡ Untaken → phase_at w i ≡ Process r
    → (step (read i) (step (take! i) w).world).event ≡ part_read (take r.length (store_at w i))
unfolding step taken part
reads w s i is r u p =
    rw (slot_yes i is, p, u, s.size0, s.size1, slot_this i is s.state (with_phase (slot_at w.endpoint i) (Process (taken_request r false)))) refl

-- both, where the command has come
pub reads_back : (w₀ w : World) (source tag : ℕ) (m : List ℕ) → Entered w₀ source tag m w → (step (read (csi_of m)) (step (take! (csi_of m)) w).world).event ≡ part_read m
reads_back w₀ w source tag m e =
    let front : take (length m) (store_at w (csi_of m)) ≡ m = ap (take (length m)) e.store_is ∙ front_of m (store_at w₀ (csi_of m)) in
    reads w e.sound (csi_of m) (csi_most m) (command_of source tag m) refl e.in_process ∙ ap part_read front

handed_over : (w₀ w : World) (source tag : ℕ) (m : List ℕ) → Entered w₀ source tag m w
    → events (take! (csi_of m) ∷ read (csi_of m) ∷ []) w ≡ given (next_ticket (slot_at w₀.endpoint (csi_of m)).ticket) ∷ part_read m ∷ []
unfolding events
handed_over w₀ w source tag m e =
    ap (λ (x : Event). x ∷ (step (read (csi_of m)) (step (take! (csi_of m)) w).world).event ∷ [])
    (takes w (csi_of m) (csi_most m) (command_of source tag m) refl e.in_process ∙ ap given e.ticket_next)
    ∙ ap (λ (x : Event). given (next_ticket (slot_at w₀.endpoint (csi_of m)).ticket) ∷ x ∷ []) (reads_back w₀ w source tag m e)

-- ---- what was cut

-- a command of the right size under a right tag, into a buffer that is long enough
cut_done : (unit tag : ℕ) (m buffer : List ℕ) → tag ≤ 7 → 8 ≤ length m → length m ≤ 4224 → size_of unit m ≤ length buffer → cut_numbers unit tag m buffer ≡ (0, size_of unit m ∷ [])
cut_done unit tag m buffer t lo hi room =
    rw (le-ltb (length m) 8 lo, le-ltb 4224 (length m) hi, le-ltb 7 tag t, le-ltb (length buffer) (size_of unit m) room) refl

-- what the packets of the cut lead to, from any list of the same packets
arrived : (w : World) (source tag : ℕ) (m : List ℕ) (ps : List (List ℕ)) → ps ≡ cut (unit_of w) (route_in w.endpoint.eid source tag) m
    → answers at_endpoint w (cut (unit_of w) (route_in w.endpoint.eid source tag) m) ≡ replicate (over_unit (unit_of w) (length m) - 1) 0 ++ (1 ∷ [])
    → Entered w source tag m (left at_endpoint w (cut (unit_of w) (route_in w.endpoint.eid source tag) m)) → Arrived w source tag m ps
arrived w source tag m ps same told e =
    let after : world_after (receives ps) w ≡ left at_endpoint w (cut (unit_of w) (route_in w.endpoint.eid source tag) m) = received_world ps w ∙ ap (left at_endpoint w) same in
    let k : Entered w source tag m (world_after (receives ps) w) = rw after e in
    record {
      answered =
          events_then (receives ps) (take! (csi_of m) ∷ read (csi_of m) ∷ []) w
          ∙ ap (λ (es : List Event). es ++ events (take! (csi_of m) ∷ read (csi_of m) ∷ []) (world_after (receives ps) w))
          (received_events ps w ∙ ap (λ (x : List (List ℕ)). numbers (answers at_endpoint w x)) same ∙ ap numbers told)
          ∙ ap (λ (es : List Event). numbers (replicate (over_unit (unit_of w) (length m) - 1) 0 ++ (1 ∷ [])) ++ es) (handed_over w (world_after (receives ps) w) source tag m k)
          ∙ zeros_then (over_unit (unit_of w) (length m) - 1) _ _;
      sound = k.sound;
      in_process = k.in_process;
      ticket_next = k.ticket_next;
      store_is = k.store_is;
      other_is = λ j js not_ours. other_slot (which (csi_of m) j (csi_most m) js) not_ours k;
    }
  where
    other_slot : {j : ℕ} {v : World} → Which (csi_of m) j → (j ≡ csi_of m → ⊥) → Entered w source tag m v → Untouched source tag w v j
    other_slot (this q) n e = absurd (n q)
    other_slot (that q) n e = rw q (record { phase_is = e.other_phase; ticket_is = e.other_ticket; store_is = e.other_store })

-- the packets in the buffer are the cut
packets_cut : (r : Requester) (destination tag : ℕ) (m buffer : List ℕ) → Valid r → tag ≤ 7 → 8 ≤ length m → length m ≤ 4224 → size_of r.unit m ≤ length buffer
    → packets_in r.unit m (cut_to r destination tag m buffer) ≡ cut r.unit (route_in destination r.eid tag) m
packets_cut r destination tag m buffer v t lo hi room =
    (cut_so r destination tag m buffer v).packets_are (ap (λ (n : ℕ × List ℕ). eqb n.0 0) (cut_done r.unit tag m buffer t lo hi room))

-- and so for the endpoint's unit, which is the requester's
packets_for : (w : World) (r : Requester) (tag : ℕ) (m buffer : List ℕ) → Valid r → r.unit ≡ unit_of w → tag ≤ 7 → WellFormed false m → size_of r.unit m ≤ length buffer
    → packets_in r.unit m (cut_to r w.endpoint.eid tag m buffer) ≡ cut (unit_of w) (route_in w.endpoint.eid r.eid tag) m
packets_for w r tag m buffer v one t good room =
    packets_cut r w.endpoint.eid tag m buffer v t good.long good.short room ∙ ap (λ (u : ℕ). cut u (route_in w.endpoint.eid r.eid tag) m) one

pub command_arrives : CommandArrives
command_arrives w r tag m buffer s v one t good room idle none =
    let whole = entered_whole w r.eid tag m s t good none idle in (
      (cut_so r w.endpoint.eid tag m buffer v).wrote.number_is ∙ cut_done r.unit tag m buffer t good.long good.short room,
      arrived w r.eid tag m (packets_in r.unit m (cut_to r w.endpoint.eid tag m buffer)) (packets_for w r tag m buffer v one t good room)
          whole.all_answered whole.all_left,
    )

-- the world that the packets in the buffer lead to
pub command_entered : (w : World) (r : Requester) (tag : ℕ) (m buffer : List ℕ) → Sound w → Valid r → r.unit ≡ unit_of w → tag ≤ 7 → WellFormed false m
    → size_of r.unit m ≤ length buffer
    → is_idle_now (phase_at w (csi_of m)) ≡ true → fixed_at_entry (csi_of m) m ≡ []
    → Entered w r.eid tag m (world_after (receives (packets_in r.unit m (cut_to r w.endpoint.eid tag m buffer))) w)
command_entered w r tag m buffer s v one t good room idle none =
    let ps = packets_in r.unit m (cut_to r w.endpoint.eid tag m buffer) in
    let same : ps ≡ cut (unit_of w) (route_in w.endpoint.eid r.eid tag) m = packets_for w r tag m buffer v one t good room in
    let after : world_after (receives ps) w ≡ left at_endpoint w (cut (unit_of w) (route_in w.endpoint.eid r.eid tag) m) = received_world ps w ∙ ap (left at_endpoint w) same in
    rw after (entered_whole w r.eid tag m s t good none idle).all_left
