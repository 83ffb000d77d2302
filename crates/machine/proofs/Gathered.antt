-- What a slot gathers is what `mctp` gathers.
-- Assumes nothing.
use Prim.Native.Nat.{ℕ, ◌+◌, ◌≤◌}
use mathlib.Core.Path.{◌≡◌, refl, sym, ap, ◌∙◌}
use mathlib.Core.Bool.{Bool, true, false, not, ◌&&◌}
use mathlib.Core.List.{List, ◌++◌}
use native.Mathlib.Omega.{arith}
use lib.Dec.{eqb}
use lib.ListN.{length, take}
use lib.Seq.{length-take-le}
use borrow.Author.Tests.{eq-eqb}
use Rattle.std.specs.Prelude.{Ok, if◌then◌else◌}
use Rattle.std.proofs.lemmas.Bool.{and_from}
use Rattle.lent.proofs.Choice.{false_true}
use Rattle.mctp.specs.Header.{read_header, fields, payload_of}
use Rattle.mctp.specs.Cut.{cut}
use Rattle.mctp.specs.Gather.{join_refusal, Assembling, Gathered, nothing, refused as refuses, more, whole, joined, first, gather_read, gather}
use Rattle.mctp.specs.declared.Header.{Header}
use Rattle.mctp.proofs.Gathering.{gather_cut}
use Rattle.machine.specs.Types.{Phase, Receive, Slot}
use Rattle.machine.specs.State.{World, Outcome, outcome, slot_at, store_at, with_phase, on_slot}
use Rattle.machine.specs.Wire.{inward}
use Rattle.machine.specs.Receive.{refused, refused_busy, received}
use Rattle.machine.specs.Valid.{PhaseFacts, Sound}
use Rattle.machine.specs.Calls.{receive, Event, number, step}
use Rattle.machine.specs.History.{Trace, History, bytes_from4, phase_at, is_for, request_with, commanded, next, run, start, unit_of}
use Rattle.machine.specs.Gathering.{gathering_in, gathering_at, Gathers, GathersSo, Arrives, last, one_more, GathersAll, CutGathered}
use Rattle.machine.proofs.Slots.{facts_at, from_same}
use Rattle.machine.proofs.Receiving.{Origin, opens, goes_on, Joining, filled, grown, Ground, in_table, of_control, of_no_slot, Break, in_sequence, in_size, in_total, Walk, walked}
use Rattle.machine.proofs.Places.{Which, this, that, which, slot_this}
use Rattle.machine.proofs.Keeps.{store_at_lem}
use Rattle.machine.proofs.Fits.{Fit}
use Rattle.machine.proofs.Carried.{Mid, for_that, phase_before, start_mid, ended_mid}
use Rattle.machine.proofs.Histories.{Good, good_next, good_every, next_end}
use Rattle.machine.proofs.Cases.{same_number}
use Rattle.machine.proofs.Traces.{sent_cases}

-- ---- one packet, in `mctp`'s words

-- with SOM it does not matter what was gathered before
som_first : (unit : ℕ) (g : Gathered) (h : Header) (payload : List ℕ) → h.som ≡ true → gather_read unit 4224 g payload (Ok h) ≡ first unit h payload
som_first unit nothing h payload e = rw e refl
som_first unit (refuses n) h payload e = rw e refl
som_first unit (more a) h payload e = rw e refl
som_first unit (whole m) h payload e = rw e refl

-- without SOM a packet of the same source and tag that is not refused joins
later_joins : (unit : ℕ) (h : Header) (payload : List ℕ) (a : Assembling) → h.som ≡ false → h.source ≡ a.source → h.tag ≡ a.tag
    → join_refusal unit 4224 a.sequence (length a.bytes) h (length payload) ≡ 0 → gather_read unit 4224 (more a) payload (Ok h) ≡ joined h a.bytes payload
later_joins unit h payload a som source tag none =
    by h.som (eqb h.source a.source && eqb h.tag a.tag) (eqb (join_refusal unit 4224 a.sequence (length a.bytes) h (length payload)) 0) som
    (and_from (eqb h.source a.source) (eqb h.tag a.tag) (eq-eqb h.source a.source source) (eq-eqb h.tag a.tag tag)) (eq-eqb _ 0 none)
  where
    by : (x y z : Bool) → x ≡ false → y ≡ true → z ≡ true
        → (if x then first unit h payload else if not y then refuses 21 else if not z then refuses (join_refusal unit 4224 a.sequence (length a.bytes) h (length payload))
        else joined h a.bytes payload)
        ≡ joined h a.bytes payload
    by x y z e f g = rw (e, f, g) refl

-- the payloads so far and this one
abbrev Joined : List ℕ → List ℕ → Gathered
Joined p bytes =
    if (fields p).eom then whole bytes else more (record { source = (fields p).source; tag = (fields p).tag; sequence = (fields p).sequence; bytes = bytes })

module _ (w₀ : World) (p : List ℕ) (trace : ℕ → Trace) (s₀ : Sound w₀)
    (fits : (j : ℕ) → j ≤ 1 → Fit w₀.endpoint.unit (slot_at w₀.endpoint j) (store_at w₀ j) (trace j)) where
  -- `mctp` joins the payload
  joins_it : (w : World) (i at : ℕ) → Joining w₀ p w i at → Mid w₀ p trace s₀ fits w
      → gather_read w₀.endpoint.unit 4224 (gathering_in (phase_at w₀ i) (trace i)) (payload_of p) (read_header w₀.endpoint.eid w₀.endpoint.unit true p) ≡ Joined p (request_with p (trace i))
  joins_it w i at j m = ap (gather_read w₀.endpoint.unit 4224 (gathering_in (phase_at w₀ i) (trace i)) (payload_of p)) j.read_so ∙ go j.origin
    where
      go : {n : ℕ} → Origin w₀ p w i n → gather_read w₀.endpoint.unit 4224 (gathering_in (phase_at w₀ i) (trace i)) (payload_of p) (Ok (fields p)) ≡ Joined p (request_with p (trace i))
      go (opens som e uncut _) =
          let text : request_with p (trace i) ≡ bytes_from4 p = rw som refl in
          som_first w₀.endpoint.unit (gathering_in (phase_at w₀ i) (trace i)) (fields p) (payload_of p) som ∙ rw uncut refl ∙ ap (Joined p) (sym text)
      go (goes_on som a ph fr none) =
          let q : phase_at w₀ i ≡ Receive a = sym (phase_before w₀ p trace s₀ fits w m i j.slot_is som) ∙ ph in
          let held : take a.length (store_at w₀ i) ≡ (trace i).request = rw q at (fits i j.slot_is).phase_fits in
          let f : PhaseFacts w₀.endpoint.unit (slot_at w₀.endpoint i).paused (Receive a) = rw q at (facts_at i j.slot_is s₀.state) in
          let size : length (trace i).request ≡ a.length = rw (sym held) (length-take-le a.length (store_at w₀ i) (rw (store_at_lem i s₀) f.1)) in
          let same = from_same (fields p).source (fields p).tag a fr in
          let text : request_with p (trace i) ≡ (trace i).request ++ bytes_from4 p = rw som refl in
          let joins : join_refusal w₀.endpoint.unit 4224 a.sequence (length (trace i).request) (fields p) (length (payload_of p)) ≡ 0 =
          ap (λ (n : ℕ). join_refusal w₀.endpoint.unit 4224 a.sequence n (fields p) (length (payload_of p))) size ∙ none in
          ap (λ (x : Phase). gather_read w₀.endpoint.unit 4224 (gathering_in x (trace i)) (payload_of p) (Ok (fields p))) q
          ∙ later_joins w₀.endpoint.unit (fields p) (payload_of p) (record { source = a.source; tag = a.tag; sequence = a.sequence; bytes = (trace i).request }) som (sym same.0) (sym same.1) joins
          ∙ ap (Joined p) (sym text)

  -- the slot that a packet is for
  the_slot : (w : World) (i at : ℕ) → Joining w₀ p w i at → Mid w₀ p trace s₀ fits w → (k : ℕ) → k ≤ 1 → is_for k p w₀ ≡ true → k ≡ i
  the_slot w i at j m k ks e = by (which i k j.slot_is ks)
    where
      by : Which i k → k ≡ i
      by (this q) = q
      by (that q) = false_true (sym (for_that w₀ p trace s₀ fits w i at m j) ∙ rw q at e)

  -- what receiving answers and leaves, beside what `mctp` gathers
  pub record GathersBy (i : ℕ) (o : Outcome) : Type 0 where
    pub takes_in : o.answer ≡ 0
        → (gather_read w₀.endpoint.unit 4224 (gathering_in (phase_at w₀ i) (trace i)) (payload_of p) (read_header w₀.endpoint.eid w₀.endpoint.unit true p)
        ≡ more (record { source = (fields p).source; tag = (fields p).tag; sequence = (fields p).sequence; bytes = request_with p (trace i) }))
        × ((n : ℕ) × (phase_at o.world i ≡ Receive (record { source = (fields p).source; tag = (fields p).tag; sequence = (fields p).sequence; length = n })))
    pub completes : o.answer ≡ 1
        → gather_read w₀.endpoint.unit 4224 (gathering_in (phase_at w₀ i) (trace i)) (payload_of p) (read_header w₀.endpoint.eid w₀.endpoint.unit true p) ≡ whole (request_with p (trace i))

  abbrev Told : Outcome → Type 0
  Told o = (i : ℕ) → i ≤ 1 → is_for i p w₀ ≡ true → GathersBy i o

  -- another answer
  others : (o : Outcome) → 2 ≤ o.answer → Told o
  others o n i is e = record { takes_in = λ q. absurd (omega arith); completes = λ q. absurd (omega arith) }

  gain : (w : World) (i at : ℕ) → Joining w₀ p w i at → (fields p).eom ≡ false → Mid w₀ p trace s₀ fits w
      → Told (outcome 0 (on_slot (filled w₀ p w i at) i (with_phase (slot_at w.endpoint i) (Receive (grown w₀ p at)))))
  gain w i at j eom m k ks e =
      rw (the_slot w i at j m k ks e)
      (record {
        takes_in =
            λ _. (
              joins_it w i at j m ∙ rw eom refl,
              (at + length (payload_of p), ap (λ (x : Slot). x.phase) (slot_this i j.slot_is m.sound.state (with_phase (slot_at w.endpoint i) (Receive (grown w₀ p at))))),
            );
        completes = λ q. absurd (omega arith);
      })

  enter : (w : World) (i at : ℕ) (v : World) → Joining w₀ p w i at → (fields p).eom ≡ true → Mid w₀ p trace s₀ fits w → Told (outcome 1 v)
  enter w i at v j eom m k ks e =
      rw (the_slot w i at j m k ks e) (record { takes_in = λ q. absurd (omega arith); completes = λ _. joins_it w i at j m ∙ rw eom refl })

  ground_least : {n : ℕ} → Ground w₀ p n → 2 ≤ n
  ground_least (in_table _ lo _) = omega arith
  ground_least (of_control _ _) = omega arith
  ground_least (of_no_slot _ _) = omega arith

  break_least : {n : ℕ} → Break w₀ p n → 2 ≤ n
  break_least (in_sequence _) = omega arith
  break_least (in_size _) = omega arith
  break_least (in_total _) = omega arith

  the_walk : Walk w₀ p (Mid w₀ p trace s₀ fits) Told
  the_walk =
      record {
        sound = λ w m. m.sound;
        unread = λ n lo hi. unfold refused in (others _ (omega arith));
        refusing = λ w n k _. unfold refused in (others _ (ground_least k));
        busying = λ w i b _. unfold refused_busy in (others _ (omega arith));
        dropping = λ w i n k g _. unfold refused in (others _ (break_least k));
        failing = λ w i at j _. unfold refused in (others _ (omega arith));
        gaining = λ w i at j eom _ m. gain w i at j eom m;
        entering = λ w i at j eom _ _ m. enter w i at _ j eom m;
        controlling = λ w c _. others _ (omega arith);
      }

  pub received_gathers : Told (received w₀ p)
  received_gathers = walked w₀ p (Mid w₀ p trace s₀ fits) Told the_walk s₀ (λ _. start_mid w₀ p trace s₀ fits) (ended_mid w₀ p trace s₀ fits)

-- ---- one call

-- a packet that is taken in is the request's next
takes_request : (h : History) (i : ℕ) (p : List ℕ) → (step (receive p) h.world).event ≡ number 0 → is_for i p h.world ≡ true
    → ((next (receive p) h).trace i).request ≡ request_with p (h.trace i)
unfolding next
takes_request h i p e k =
    let f = by (step (receive p) h.world).event e in
    sent_cases Has (phase_at h.world i) (phase_at (step (receive p) h.world).world i) (step (receive p) h.world).event _ f (λ n s. f)
  where
    Has : Trace → Type 0
    Has l = l.request ≡ request_with p (h.trace i)

    by : (v : Event) → v ≡ number 0 → Has (commanded i (receive p) h.world v (h.trace i))
    by v q = rw (q, k) refl

gathers_one : (h : History) → Good h → (p : List ℕ) (i : ℕ) → i ≤ 1 → is_for i p h.world ≡ true → Gathers h i p
unfolding step next
gathers_one h g p i is k =
    let t = received_gathers h.world p h.trace g.sound g.fits i is k in
    record {
      goes_on =
          λ e.
          let q = t.takes_in (same_number e) in
          q.0 ∙ sym (after q.1.0 (phase_at (next (receive p) h).world i) ((next (receive p) h).trace i) (unfold next step in q.1.1) (takes_request h i p (unfold step in e) k));
      ends = λ e. t.completes (same_number e);
    }
  where
    after : (n : ℕ) (q : Phase) (l : Trace) → q ≡ Receive (record { source = (fields p).source; tag = (fields p).tag; sequence = (fields p).sequence; length = n })
        → l.request ≡ request_with p (h.trace i)
        → gathering_in q l ≡ more (record { source = (fields p).source; tag = (fields p).tag; sequence = (fields p).sequence; bytes = request_with p (h.trace i) })
    after n q l e f = rw (e, f) refl

pub gathers_so : GathersSo
gathers_so eid unit store0 store1 a b xs p i is k = gathers_one (run xs (start eid unit store0 store1)) (good_every eid unit store0 store1 a b xs) p i is k

-- ---- a list of packets

gathers_list : (i : ℕ) → i ≤ 1 → {h : History} {ps : List (List ℕ)} {m : List ℕ} → Good h → Arrives i h ps m
    → gather h.world.endpoint.eid (unit_of h.world) 4224 true (gathering_at h i) ps ≡ whole m
unfolding gather
gathers_list i is g (last {h} {p} k e) = (gathers_one h g p i is k).ends e
gathers_list i is g (one_more {h} {p} {ps} {m} k e rest) =
    ap (λ (x : Gathered). gather h.world.endpoint.eid (unit_of h.world) 4224 true x ps) ((gathers_one h g p i is k).goes_on e)
    ∙ ap (λ (x : ℕ × ℕ). gather x.0 x.1 4224 true (gathering_at (next (receive p) h) i) ps) (sym (next_end (receive p) h g))
    ∙ gathers_list i is (good_next (receive p) h g) rest

pub gathers_all : GathersAll
gathers_all eid unit store0 store1 a b xs i is ps m k = gathers_list i is (good_every eid unit store0 store1 a b xs) k

same_whole : {a b : List ℕ} → whole a ≡ whole b → a ≡ b
same_whole e = cc

pub cut_gathered : CutGathered
cut_gathered eid unit store0 store1 a b xs i is route message m to_us inward some fits k =
    let h = run xs (start eid unit store0 store1) in
    let n = (good_every eid unit store0 store1 a b xs).sound.state.numbers in
    same_whole
    (sym (gathers_all eid unit store0 store1 a b xs i is (cut (unit_of h.world) route message) m k)
    ∙ ap (λ (x : ℕ). gather x (unit_of h.world) 4224 true (gathering_at h i) (cut (unit_of h.world) route message)) (sym to_us)
    ∙ ap (λ (x : Bool). gather route.destination (unit_of h.world) 4224 x (gathering_at h i) (cut (unit_of h.world) route message)) (sym inward)
    ∙ gather_cut (unit_of h.world) 4224 route message (gathering_at h i) (omega (arith, n.unit_least)) some fits)
