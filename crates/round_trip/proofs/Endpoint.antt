-- A command that is cut and comes packet by packet is gathered by the endpoint: before packet k its slot's store holds the first k payloads, and with the
-- last packet the slot enters Process.
-- Assumes nothing.
use Prim.Native.Nat.{ℕ, zero, suc, ◌+◌, ◌-◌, ◌*◌, ◌%◌, ◌≤◌, ◌<◌}
use mathlib.Core.Path.{◌≡◌, refl, sym, ap, ◌∙◌}
use mathlib.Core.Bool.{Bool, true, false}
use mathlib.Core.List.{List, [], ◌∷◌, ◌++◌}
use native.Mathlib.Nat.{mul-zero, mod-eq_of_lt}
use native.Mathlib.Omega.{arith}
use lib.Dec.{eqb-suc-zero}
use lib.ListN.{length, take, drop, replicate, length-take}
use borrow.Author.Tests.{eq-eqb}
use Rattle.std.specs.Prelude.{Result, Ok, Err, Option, None, Some, if◌then◌else◌}
use Rattle.lent.specs.Bytes.{put}
use Rattle.lent.proofs.Choice.{if_ind, false_true}
use Rattle.mctp.specs.Header.{read_header, payload_of}
use Rattle.mctp.specs.Cut.{packets, payload, packet, cut}
use Rattle.mctp.specs.Gather.{join_refusal}
use Rattle.mctp.specs.declared.Header.{Header}
use Rattle.mctp.specs.declared.Route.{Route}
use Rattle.mctp.proofs.Laws.{packets_bounds, header_of, read_of_cut}
use Rattle.mctp.proofs.Gathering.{no_refusal}
use Rattle.mctp.proofs.Feeding.{Leads, Fed, fed}
use Rattle.nvme_mi.specs.Message.{message_header, command_fault}
use Rattle.nvme_mi.specs.declared.MessageHeader.{MessageHeader}
use Rattle.nvme_mi.specs.declared.Fault.{Fault}
use Rattle.opening.specs.Formed.{WellFormed}
use Rattle.opening.specs.Opening.{opened, joined_in}
use Rattle.opening.specs.declared.First.TheVariants.{Command}
use Rattle.opening.specs.declared.Joined.{Joined}
use Rattle.opening.proofs.Joining.{holding, front_of, put_more, joins_more, put_whole, joins_whole, front_byte, opens}
use Rattle.machine.specs.State.{World, Outcome, outcome, slot_at, store_at, with_slot, with_store, with_endpoint, on_slot, with_phase, next_ticket, is_idle, idled}
use Rattle.machine.specs.Wire.{store_size, inward}
use Rattle.machine.specs.Process.{request, processing, paused_if, entered}
use Rattle.machine.specs.Control.{paused_slot, pause}
use Rattle.machine.specs.Receive.{gathers, ended_slot, end_assembly, holder_in, holder, assembly, landed, gathered, first_command, first_by, first, later_at, later_by, later, received_by, received}
use Rattle.machine.specs.Poll.{other_slot}
use Rattle.machine.specs.Valid.{Sound, Valid}
use Rattle.machine.specs.History.{phase_at, fixed_at_entry}
use Rattle.machine.specs.Demands.{is_idle_now}
use Rattle.machine.specs.Replies.{csi_of}
use Rattle.machine.specs.declared.Assembly.{Assembly}
use Rattle.machine.specs.declared.Request.{Request}
use Rattle.machine.specs.declared.Phase.{Phase}
use Rattle.machine.specs.declared.Phase.TheVariants.{Idle, Receive, Process, Answered, Transmit}
use Rattle.machine.specs.declared.Slot.{Slot}
use Rattle.machine.specs.declared.Endpoint.{Endpoint}
use Rattle.machine.proofs.Slots.{alone_at, other_most}
use Rattle.machine.proofs.Places.{end_of, slot_this, slot_that, slot_both, store_this, store_that}
use Rattle.machine.proofs.Receiving.{right_stores, csi_most, receives_gathers}
use Rattle.machine.proofs.Keeps.{sound_endpoint, end_valid, received_sound}
use Rattle.machine.proofs.Fits.{at_entry, fixed_is}
use Rattle.machine.proofs.Arrives.{filled}
use Rattle.machine.proofs.Refusals.{idle_now}
use Rattle.round_trip.specs.Command.{command_of, ended_under}

-- ---- a slot's own facts

idle_gathers : (source tag : ℕ) (p : Phase) → is_idle p ≡ true → gathers source tag p ≡ false
idle_gathers source tag (Idle held) h = refl
idle_gathers source tag (Receive a) h = false_true h
idle_gathers source tag (Process r) h = refl
idle_gathers source tag (Answered r) h = refl
idle_gathers source tag (Transmit r) h = refl

-- the end of an assembly leaves an Idle slot as it is
idle_kept : (source tag : ℕ) (s : Slot) → is_idle s.phase ≡ true → ended_slot source tag s ≡ s
idle_kept source tag s h = rw (idle_gathers source tag s.phase h) refl

passed : (source tag i : ℕ) (p : Phase) (other : Option (ℕ × Assembly)) → gathers source tag p ≡ false → holder_in source tag i p other ≡ other
passed source tag i (Idle held) other h = refl
passed source tag i (Receive a) other h = rw h refl
passed source tag i (Process r) other h = refl
passed source tag i (Answered r) other h = refl
passed source tag i (Transmit r) other h = refl

-- the slot in Receive with an assembly is the one that its source and tag find
finds : {e : Endpoint} (i : ℕ) → i ≤ 1 → Valid e → (a : Assembly) → (slot_at e i).phase ≡ Receive a → holder e a.source a.tag ≡ Some (i, a)
unfolding holder
finds zero is v a p = rw (p, eq-eqb a.source a.source refl, eq-eqb a.tag a.tag refl) refl
finds {e} (suc zero) is v a p =
    passed a.source a.tag 0 (slot_at e 0).phase _ (alone_at 1 is v a p)
    ∙ rw (p, eq-eqb a.source a.source refl, eq-eqb a.tag a.tag refl) refl
finds (suc (suc n)) is v a p = absurd (omega arith)

-- ---- entering Process

-- "the endpoint makes no response at once"
no_fault : (i : ℕ) (m : List ℕ) → fixed_at_entry i m ≡ [] → command_fault (message_header m) (length m) ≡ Ok tt
no_fault i m h = by (command_fault (message_header m) (length m)) (sym (fixed_is i m) ∙ h)
  where
    by : (f : Result (Unit {0}) Fault) → at_entry i m f ≡ [] → f ≡ Ok tt
    by (Ok none) e = refl
    by (Err fault) e = absurd (filled i m _ e)

-- Pause, if it acts, leaves the phase and the ticket
paused_phase : (s : Slot) → (paused_slot s).phase ≡ s.phase
paused_phase s = if_ind (λ (x : Slot). x.phase ≡ s.phase) (is_idle s.phase) (λ _. refl) (λ _. refl)

paused_ticket : (s : Slot) → (paused_slot s).ticket ≡ s.ticket
paused_ticket s = if_ind (λ (x : Slot). x.ticket ≡ s.ticket) (is_idle s.phase) (λ _. refl) (λ _. refl)

phase_if : (b : Bool) (e : Endpoint) (i : ℕ) → i ≤ 1 → (slot_at (paused_if b e) i).phase ≡ (slot_at e i).phase
unfolding pause
phase_if true e i is = rw (slot_both paused_slot e i is) (paused_phase (slot_at e i))
phase_if false e i is = refl

ticket_if : (b : Bool) (e : Endpoint) (i : ℕ) → i ≤ 1 → (slot_at (paused_if b e) i).ticket ≡ (slot_at e i).ticket
unfolding pause
ticket_if true e i is = rw (slot_both paused_slot e i is) (paused_ticket (slot_at e i))
ticket_if false e i is = refl

-- the end of an assembly, as the statement says it
ended_phase : (source tag : ℕ) (s : Slot) → (ended_slot source tag s).phase ≡ ended_under source tag s.phase
ended_phase source tag s = rw (receives_gathers source tag s.phase) (go (gathers source tag s.phase))
  where
    go : (b : Bool) → (if b then idled s else s).phase ≡ (if b then Idle None else s.phase)
    go true = refl
    go false = refl

ended_ticket : (source tag : ℕ) (s : Slot) → (ended_slot source tag s).ticket ≡ s.ticket
ended_ticket source tag s = if_ind (λ (x : Slot). x.ticket ≡ s.ticket) (gathers source tag s.phase) (λ _. refl) (λ _. refl)

-- what is left where nothing is answered at once
record Enters (v : World) (i : ℕ) (r : Request) (w : World) : Type 0 where
  phase_is : phase_at w i ≡ Process r
  ticket_is : (slot_at w.endpoint i).ticket ≡ next_ticket (slot_at v.endpoint i).ticket
  store_is : (j : ℕ) → store_at w j ≡ store_at v j
  that_phase : phase_at w (other_slot i) ≡ phase_at v (other_slot i)
  that_ticket : (slot_at w.endpoint (other_slot i)).ticket ≡ (slot_at v.endpoint (other_slot i)).ticket

enters : (v : World) (i : ℕ) → i ≤ 1 → Valid v.endpoint → (a : Assembly) (mh : MessageHeader) → command_fault mh a.length ≡ Ok tt
    → Enters v i (request a mh) (entered v i a mh)
unfolding entered
enters v i is ok a mh none =
    let e = with_slot v.endpoint i (processing (slot_at v.endpoint i) (request a mh)) in
    let s = slot_this i is ok (processing (slot_at v.endpoint i) (request a mh)) in
    let o = slot_that i is ok (processing (slot_at v.endpoint i) (request a mh)) in
    rw none
    (record {
      phase_is = phase_if mh.ciap e i is ∙ ap (λ (x : Slot). x.phase) s;
      ticket_is = ticket_if mh.ciap e i is ∙ ap (λ (x : Slot). x.ticket) s;
      store_is = λ j. refl;
      that_phase = phase_if mh.ciap e (other_slot i) (other_most i) ∙ ap (λ (x : Slot). x.phase) o;
      that_ticket = ticket_if mh.ciap e (other_slot i) (other_most i) ∙ ap (λ (x : Slot). x.ticket) o;
    })

-- ---- one packet

received_is : (w : World) (p : List ℕ) (h : Header) → Sound w → read_header w.endpoint.eid w.endpoint.unit inward p ≡ Ok h → received w p ≡ received_by w (payload_of p) (Ok h)
unfolding received
received_is w p h s e = rw (right_stores w s) (ap (received_by w (payload_of p)) e)

-- with SOM, a command for an Idle slot
first_is : (v : World) (h : Header) (m : List ℕ) (i : ℕ) → opened v.endpoint.unit false h m ≡ Ok Command → (message_header m).csi ≡ i → is_idle (phase_at v i) ≡ true
    → first v h m ≡ gathered v i 0 h m
unfolding first first_command
first_is v h m i o c idle = ap (first_by v h m) o ∙ rw (c, idle) refl

without_som : (w : World) (h : Header) (p : List ℕ) → h.som ≡ false → received_by w p (Ok h) ≡ later w h p
without_som w h p e = rw e refl

-- without SOM, one that joins
later_is : (w : World) (h : Header) (p : List ℕ) (i : ℕ) (a : Assembly) → holder w.endpoint h.source h.tag ≡ Some (i, a)
    → join_refusal w.endpoint.unit store_size a.sequence a.length h (length p) ≡ 0 → later w h p ≡ gathered w i a.length h p
unfolding later later_at
later_is w h p i a e j = ap (later_by w h p) e ∙ rw j refl

-- the store is chosen once
gathered_is : (v : World) (i at : ℕ) (h : Header) (p after : List ℕ) → i ≤ 1 → put (store_at v i) at p ≡ after
    → gathered v i at h p ≡ landed (with_store v i after) i (assembly h (at + length p)) (joined_in (take (at + length p) after) h.eom)
unfolding gathered
gathered_is v i at h p after is e =
    ap (λ (s : List ℕ). landed (with_store v i (put (store_at v i) at p)) i (assembly h (at + length p)) (joined_in (take (at + length p) s) h.eom))
    (store_this v i is (put (store_at v i) at p))
    ∙ ap (λ (s : List ℕ). landed (with_store v i s) i (assembly h (at + length p)) (joined_in (take (at + length p) s) h.eom)) e

-- the endpoint as a receiver of packets
abbrev pub at_endpoint : World → List ℕ → ℕ × World
at_endpoint w p = ((received w p).answer, (received w p).world)

leads : {P : World → Type 0} (w : World) (p : List ℕ) (n : ℕ) (v : World) → received w p ≡ outcome n v → P v → Leads at_endpoint w p n P
leads w p n v e h = record { answered = rw e refl; leaves = rw e h }

-- to this endpoint, TO 1
abbrev pub route_in : ℕ → ℕ → ℕ → Route
route_in eid source tag = record { destination = eid; source = source; to = true; tag = tag }

-- ---- the whole message

-- what it leads to
pub record Entered (w₀ : World) (source tag : ℕ) (m : List ℕ) (w : World) : Type 0 where
  pub sound : Sound w
  pub in_process : phase_at w (csi_of m) ≡ Process (command_of source tag m)
  pub ticket_next : (slot_at w.endpoint (csi_of m)).ticket ≡ next_ticket (slot_at w₀.endpoint (csi_of m)).ticket
  pub store_is : store_at w (csi_of m) ≡ m ++ drop (length m) (store_at w₀ (csi_of m))
  pub other_phase : phase_at w (other_slot (csi_of m)) ≡ ended_under source tag (phase_at w₀ (other_slot (csi_of m)))
  pub other_ticket : (slot_at w.endpoint (other_slot (csi_of m))).ticket ≡ (slot_at w₀.endpoint (other_slot (csi_of m))).ticket
  pub other_store : store_at w (other_slot (csi_of m)) ≡ store_at w₀ (other_slot (csi_of m))

module _ (w₀ : World) (source tag : ℕ) (m : List ℕ) (s₀ : Sound w₀) (small : tag ≤ 7) (good : WellFormed false m)
    (none : fixed_at_entry (csi_of m) m ≡ []) where
  abbrev unit : ℕ
  unit = w₀.endpoint.unit

  wide : 8 ≤ unit
  wide = omega (arith, s₀.state.numbers.unit_least)

  pos : 0 < unit
  pos = omega (arith, s₀.state.numbers.unit_least)

  abbrev route : Route
  route = route_in w₀.endpoint.eid source tag

  abbrev here : ℕ
  here = csi_of m

  abbrev there : ℕ
  there = other_slot (csi_of m)

  abbrev head : ℕ → Header
  head k = header_of unit route m k

  abbrev bytes : ℕ → List ℕ
  bytes k = payload unit m k

  is : here ≤ 1
  is = csi_most m

  -- the assembly before packet k + 1
  abbrev so_far : ℕ → Assembly
  so_far k = assembly (head k) (unit * suc k)

  -- the slot before packet k: Idle before the first, and then in Receive
  data Before : ℕ → Phase → Type 0 where
    start : {p : Phase} → is_idle p ≡ true → Before zero p
    going : {k : ℕ} {p : Phase} → p ≡ Receive (so_far k) → Before (suc k) p

  -- the other slot's phase
  abbrev since : ℕ → Phase
  since zero = phase_at w₀ there
  since (suc k) = ended_under source (tag % 8) (phase_at w₀ there)

  record Other (p : Phase) (w : World) : Type 0 where
    phase_is : phase_at w there ≡ p
    ticket_is : (slot_at w.endpoint there).ticket ≡ (slot_at w₀.endpoint there).ticket
    store_is : store_at w there ≡ store_at w₀ there

  -- what stays until the last packet: the EID, the unit, the slot's ticket; and the store holds the first k payloads
  record Held (k : ℕ) (w : World) : Type 0 where
    sound : Sound w
    ours : end_of w.endpoint ≡ end_of w₀.endpoint
    ticket_same : (slot_at w.endpoint here).ticket ≡ (slot_at w₀.endpoint here).ticket
    store_is : store_at w here ≡ holding m (unit * k) (store_at w₀ here)

  record Ready (k : ℕ) (w : World) : Type 0 where
    held : Held k w
    other : Other (since k) w
    before : Before k (phase_at w here)

  -- packet k goes behind the bytes so far, in the world v: with SOM an assembly has ended
  record Lands (k : ℕ) (w v : World) : Type 0 where
    received_so : received w (packet unit route m k) ≡ gathered v here (unit * k) (head k) (bytes k)
    held : Held k v
    other : Other (since (suc k)) v

  -- the packet is read
  reading : (k : ℕ) (w : World) → Sound w → end_of w.endpoint ≡ end_of w₀.endpoint → unit * k < length m
      → received w (packet unit route m k) ≡ received_by w (bytes k) (Ok (head k))
  reading k w s ours inside =
      received_is w (packet unit route m k) (head k) s
      (ap (λ (e : ℕ × ℕ). read_header e.0 e.1 inward (packet unit route m k)) ours ∙ read_of_cut unit route m k pos inside)
      ∙ ap (λ (x : List ℕ). received_by w x (Ok (head k))) (unfold packet in refl)

  abbrev freed : World → World
  freed w = with_endpoint w (end_assembly w.endpoint source (tag % 8))

  lands_first : (w : World) → Ready zero w → is_idle (phase_at w here) ≡ true → unit * 0 < length m → Lands zero w (freed w)
  lands_first w r idle inside =
      record {
        received_so = reading 0 w r.held.sound r.held.ours inside ∙ first_so;
        held =
            record {
              sound = sound_endpoint r.held.sound (end_valid source (tag % 8) r.held.sound.state);
              ours = end_same;
              ticket_same = ap (λ (x : Slot). x.ticket) kept ∙ r.held.ticket_same;
              store_is = r.held.store_is;
            };
        other =
            record {
              phase_is = ap (λ (x : Slot). x.phase) that ∙ ended_phase source (tag % 8) (slot_at w.endpoint there) ∙ ap (ended_under source (tag % 8)) r.other.phase_is;
              ticket_is = ap (λ (x : Slot). x.ticket) that ∙ ended_ticket source (tag % 8) (slot_at w.endpoint there) ∙ r.other.ticket_is;
              store_is = r.other.store_is;
            };
      }
    where
      kept : slot_at (freed w).endpoint here ≡ slot_at w.endpoint here
      kept = unfold end_assembly in (slot_both (ended_slot source (tag % 8)) w.endpoint here is ∙ idle_kept source (tag % 8) (slot_at w.endpoint here) idle)

      that : slot_at (freed w).endpoint there ≡ ended_slot source (tag % 8) (slot_at w.endpoint there)
      that = unfold end_assembly in (slot_both (ended_slot source (tag % 8)) w.endpoint there (other_most here))

      end_same : end_of (freed w).endpoint ≡ end_of w₀.endpoint
      end_same = unfold end_assembly in r.held.ours

      first_so : received_by w (bytes 0) (Ok (head 0)) ≡ gathered (freed w) here (unit * 0) (head 0) (bytes 0)
      first_so =
          first_is (freed w) (head 0) (bytes 0) here (ap (λ (e : ℕ × ℕ). opened e.1 false (head 0) (bytes 0)) end_same ∙ opens unit false route m wide good)
          (ap (λ (x : ℕ). x % 2) (front_byte unit m 1 (omega (arith, wide))))
          (ap (λ (x : Slot). is_idle x.phase) kept ∙ idle)
          ∙ ap (λ (n : ℕ). gathered (freed w) here n (head 0) (bytes 0)) (sym (mul-zero unit))

  lands_later : (k : ℕ) (w : World) → Ready (suc k) w → phase_at w here ≡ Receive (so_far k) → unit * suc k < length m → Lands (suc k) w w
  lands_later k w r p inside =
      record { received_so = reading (suc k) w r.held.sound r.held.ours inside ∙ later_so; held = r.held; other = r.other }
    where
      gathered_length : length (take (unit * (k + 1)) m) ≡ unit * suc k
      gathered_length = length-take (unit * (k + 1)) m ∙ omega arith

      later_so : received_by w (bytes (suc k)) (Ok (head (suc k))) ≡ gathered w here (unit * suc k) (head (suc k)) (bytes (suc k))
      later_so =
          without_som w (head (suc k)) (bytes (suc k)) (eqb-suc-zero k)
          ∙ later_is w (head (suc k)) (bytes (suc k)) here (so_far k) (finds here is r.held.sound.state (so_far k) p)
          (ap (λ (e : ℕ × ℕ). join_refusal e.1 store_size (k % 4) (unit * suc k) (head (suc k)) (length (bytes (suc k)))) r.held.ours
          ∙ ap (λ (n : ℕ). join_refusal unit store_size (k % 4) n (head (suc k)) (length (bytes (suc k)))) (sym gathered_length)
          ∙ no_refusal unit store_size route m pos good.short k inside)

  lands : {k : ℕ} {w : World} → Ready k w → unit * k < length m → ((v : World) × Lands k w v)
  lands {k} {w} r inside = by k r r.before inside
    where
      by : (k : ℕ) → Ready k w → Before k (phase_at w here) → unit * k < length m → ((v : World) × Lands k w v)
      by zero r (start idle) inside = (freed w, lands_first w r idle inside)
      by (suc k) r (going p) inside = (w, lands_later k w r p inside)

  -- what an assembly of n bytes leads to, in this world
  abbrev leading : ℕ → World → ℕ → Joined → Outcome
  leading k v n j = landed v here (assembly (head k) n) j

  more_packets : (k : ℕ) (w : World) → Ready k w → k + 1 < packets unit (length m) → Leads at_endpoint w (packet unit route m k) 0 (Ready (suc k))
  more_packets k w r n = by (lands r inside)
    where
      inside : unit * k < length m
      inside = (packets_bounds unit (length m) k pos).0 (omega arith)

      after : List ℕ
      after = holding m (unit * suc k) (store_at w₀ here)

      by : ((v : World) × Lands k w v) → Leads at_endpoint w (packet unit route m k) 0 (Ready (suc k))
      by (v, l) =
          let s = with_phase (slot_at v.endpoint here) (Receive (so_far k)) in
          let put_so : put (store_at v here) (unit * k) (bytes k) ≡ after =
          ap (λ (x : List ℕ). put x (unit * k) (bytes k)) l.held.store_is ∙ put_more unit route m pos (store_at w₀ here) k n in
          let so : received w (packet unit route m k) ≡ outcome 0 (on_slot (with_store v here after) here s) =
          l.received_so ∙ gathered_is v here (unit * k) (head k) (bytes k) after is put_so
          ∙ joins_more unit route m pos (leading k (with_store v here after)) after k n in
          let put_in : slot_at (on_slot (with_store v here after) here s).endpoint here ≡ s = slot_this here is l.held.sound.state s in
          let that = slot_that here is l.held.sound.state s in
          leads w (packet unit route m k) 0 (on_slot (with_store v here after) here s) so
          (record {
            held =
                record {
                  sound = rw so at (received_sound w (packet unit route m k) r.held.sound);
                  ours = l.held.ours;
                  ticket_same = ap (λ (x : Slot). x.ticket) put_in ∙ l.held.ticket_same;
                  store_is = store_this v here is after;
                };
            other =
                record {
                  phase_is = ap (λ (x : Slot). x.phase) that ∙ l.other.phase_is;
                  ticket_is = ap (λ (x : Slot). x.ticket) that ∙ l.other.ticket_is;
                  store_is = store_that v here is after ∙ l.other.store_is;
                };
            before = going (ap (λ (x : Slot). x.phase) put_in);
          })

  last_packet : (k : ℕ) (w : World) → Ready k w → k + 1 ≡ packets unit (length m) → Leads at_endpoint w (packet unit route m k) 1 (Entered w₀ source tag m)
  last_packet k w r n = by (lands r inside)
    where
      inside : unit * k < length m
      inside = (packets_bounds unit (length m) k pos).0 (omega arith)

      after : List ℕ
      after = m ++ drop (length m) (store_at w₀ here)

      by : ((v : World) × Lands k w v) → Leads at_endpoint w (packet unit route m k) 1 (Entered w₀ source tag m)
      by (v, l) =
          let filled_v = with_store v here after in
          let a = assembly (head k) (length m) in
          let put_so : put (store_at v here) (unit * k) (bytes k) ≡ after =
          ap (λ (x : List ℕ). put x (unit * k) (bytes k)) l.held.store_is ∙ put_whole unit route m pos (store_at w₀ here) k n in
          let in_store : take (length m) (store_at filled_v here) ≡ m = ap (take (length m)) (store_this v here is after) ∙ front_of m (store_at w₀ here) in
          let u = entered filled_v here a (message_header m) in
          let so : received w (packet unit route m k) ≡ outcome 1 u =
          l.received_so ∙ gathered_is v here (unit * k) (head k) (bytes k) after is put_so
          ∙ joins_whole unit route m pos (leading k filled_v) after k (front_of m (store_at w₀ here)) good.right n
          ∙ ap (λ (x : List ℕ). outcome 1 (entered filled_v here a (message_header x))) in_store in
          let tagged : tag % 8 ≡ tag = mod-eq_of_lt (omega arith) in
          let e : Enters filled_v here (command_of source (tag % 8) m) u = enters filled_v here is l.held.sound.state a (message_header m) (no_fault here m none) in
          leads w (packet unit route m k) 1 u so
          (record {
            sound = rw so at (received_sound w (packet unit route m k) r.held.sound);
            in_process = e.phase_is ∙ ap (λ (t : ℕ). Process (command_of source t m)) tagged;
            ticket_next = e.ticket_is ∙ ap next_ticket l.held.ticket_same;
            store_is = e.store_is here ∙ store_this v here is after;
            other_phase = e.that_phase ∙ l.other.phase_is ∙ ap (λ (t : ℕ). ended_under source t (phase_at w₀ there)) tagged;
            other_ticket = e.that_ticket ∙ l.other.ticket_is;
            other_store = e.store_is there ∙ store_that v here is after ∙ l.other.store_is;
          })

  pub entered_whole : is_idle_now (phase_at w₀ here) ≡ true
      → Fed at_endpoint w₀ (cut unit route m) (replicate (packets unit (length m) - 1) 0 ++ (1 ∷ [])) (Entered w₀ source tag m)
  entered_whole idle =
      fed at_endpoint 0 1 unit route m Ready (Entered w₀ source tag m) more_packets last_packet w₀ pos (omega (arith, good.long))
      (record {
        held = record { sound = s₀; ours = refl; ticket_same = refl; store_is = rw (mul-zero unit) refl };
        other = record { phase_is = refl; ticket_is = refl; store_is = refl };
        before = start (sym (idle_now (phase_at w₀ here)) ∙ idle);
      })
