-- The invariant as a test and the invariant as facts say the same.
-- Assumes nothing.
use Prim.Native.Nat.{ℕ, ◌*◌, ◌/◌, ◌%◌, ◌^◌, ◌≤◌}
use mathlib.Core.Path.{◌≡◌, refl}
use mathlib.Core.Bool.{Bool, true, false, not, ◌&&◌, ◌||◌}
use mathlib.Core.List.{List, [], ◌∷◌}
use lib.Dec.{eqb, leb}
use lib.ListN.{length}
use borrow.Author.Tests.{ltb-true, leb-true, eqb-true, lt-ltb, le-leb, eq-eqb, not-true}
use Rattle.std.proofs.lemmas.Bool.{and_from, and_parts}
use Rattle.lent.proofs.Choice.{false_true}
use Rattle.mctp.specs.Setup.{least_unit, most_unit}
use Rattle.nvme_mi.specs.Message.{smallest}
use Rattle.machine.specs.State.{is_idle}
use Rattle.machine.specs.Wire.{store_size}
use Rattle.machine.specs.Poll.{other_slot}
use Rattle.machine.specs.Valid.{smallest_response, between, phased, unpaused_idle, gathered_fits, packet_left, held_fits, message_fits, waits_paused, is_begun, begun_turn, all_of, clauses, valid_with, valid, Fits, HeldFacts, PhaseFacts, ValidSlots, two, Valid, reply_fits, ReplyFacts}
use Rattle.machine.specs.Types.{Response, Phase, Idle, Receive, Process, Answered, Transmit, Slot, Reply, Endpoint}
use Rattle.std.specs.Prelude.{Option, None, Some}

pub between_bounds : (low high n : ℕ) → between low high n ≡ true → (low ≤ n) × (n ≤ high)
between_bounds low high n h = let k = and_parts (leb low n) (leb n high) h in (leb-true low n k.0, leb-true n high k.1)

bounds_between : (low high n : ℕ) → low ≤ n → n ≤ high → between low high n ≡ true
bounds_between low high n a b = and_from (leb low n) (leb n high) (le-leb low n a) (le-leb n high b)

-- ---- one slot: five of the clauses speak of it alone

pub record Passes (unit : ℕ) (b : Bool) (p : Phase) : Type 0 where
  pub idle : not (is_idle p && b) ≡ true
  pub gathered : gathered_fits unit p ≡ true
  pub left : packet_left unit p ≡ true
  pub fits : message_fits p ≡ true
  pub waits : phased true (λ a. true) (λ r. true) (λ r. b) (λ r. true) p ≡ true

fits_between : (r : Response) → between smallest_response store_size r.length ≡ true → Fits r
fits_between r h =
    let f = between_bounds smallest_response store_size r.length h in
    record { least = f.0; most = f.1 }

between_fits : (r : Response) → Fits r → between smallest_response store_size r.length ≡ true
between_fits r f = bounds_between smallest_response store_size r.length f.least f.most

held_facts : (k : Option Response) → held_fits k ≡ true → HeldFacts k
held_facts None h = tt
held_facts (Some r) h = fits_between r h

held_passes : (k : Option Response) → HeldFacts k → held_fits k ≡ true
held_passes None f = refl
held_passes (Some r) f = between_fits r f

reply_facts : (r : Option Reply) → reply_fits r ≡ true → ReplyFacts r
reply_facts None h = tt
reply_facts (Some r) h = eqb-true (length r.message) 12 h

reply_passes : (r : Option Reply) → ReplyFacts r → reply_fits r ≡ true
reply_passes None f = refl
reply_passes (Some r) f = eq-eqb (length r.message) 12 f

to_facts : (unit : ℕ) (b : Bool) (p : Phase) → Passes unit b p → PhaseFacts unit b p
to_facts unit b (Idle held) c = (not-true b c.idle, held_facts held c.fits)
to_facts unit b (Receive a) c =
    let k = and_parts (between unit store_size a.length) (eqb (a.length % unit) 0) c.gathered in
    let f = between_bounds unit store_size a.length k.0 in
    (f.0, f.1, eqb-true (a.length % unit) 0 k.1)
to_facts unit b (Process r) c = between_bounds smallest store_size r.length c.fits
to_facts unit b (Answered r) c = (c.waits, fits_between r c.fits)
to_facts unit b (Transmit r) c = (ltb-true (unit * r.sent) r.response.length c.left, fits_between r.response c.fits)

pub of_facts : (unit : ℕ) (b : Bool) (p : Phase) → PhaseFacts unit b p → Passes unit b p
of_facts unit b (Idle held) f = record { idle = rw f.0 refl; gathered = refl; left = refl; fits = held_passes held f.1; waits = refl }
of_facts unit b (Receive a) f =
    record {
      idle = refl;
      gathered =
          and_from (between unit store_size a.length) (eqb (a.length % unit) 0) (bounds_between unit store_size a.length f.0 f.1)
          (eq-eqb (a.length % unit) 0 f.2);
      left = refl;
      fits = refl;
      waits = refl;
    }
of_facts unit b (Process r) f = record { idle = refl; gathered = refl; left = refl; fits = bounds_between smallest store_size r.length f.0 f.1; waits = refl }
of_facts unit b (Answered r) f =
    record {
      idle = refl;
      gathered = refl;
      left = refl;
      fits = between_fits r f.1;
      waits = f.0;
    }
of_facts unit b (Transmit r) f =
    record {
      idle = refl;
      gathered = refl;
      left = lt-ltb (unit * r.sent) r.response.length f.0;
      fits = between_fits r.response f.1;
      waits = refl;
    }

-- ---- the turn of a begun response

to_turn : (b : Bool) (turn i : ℕ) → (not b || eqb turn (other_slot i)) ≡ true → b ≡ true → turn ≡ other_slot i
to_turn true turn i h e = eqb-true turn (other_slot i) h
to_turn false turn i h e = false_true e

of_turn : (b : Bool) (turn i : ℕ) → (b ≡ true → turn ≡ other_slot i) → (not b || eqb turn (other_slot i)) ≡ true
of_turn true turn i h = eq-eqb turn (other_slot i) (h refl)
of_turn false turn i h = refl

-- ---- the whole

-- each test of a list holds
abbrev pub Each : List Bool → Type 0
Each [] = Unit {0}
Each (b ∷ bs) = (b ≡ true) × Each bs

pub each : (l : List Bool) → all_of l ≡ true → Each l
each [] h = tt
each (b ∷ bs) h = let k = and_parts b (all_of bs) h in (k.0, each bs k.1)

all_hold : (l : List Bool) → Each l → all_of l ≡ true
all_hold [] h = refl
all_hold (b ∷ bs) h = and_from b (all_of bs) h.0 (all_hold bs h.1)

-- of two slots, a clause that speaks of each
firsts : (f : Slot → Bool) (s t : Slot) → (f s && f t) ≡ true → (f s ≡ true) × (f t ≡ true)
firsts f s t h = and_parts (f s) (f t) h

valid_two : (e : Endpoint) (s t : Slot) → e.slots ≡ s ∷ t ∷ [] → Each (clauses e s t) → Valid e
valid_two e s t slots_are h =
    let idle = firsts unpaused_idle s t h.1.1.1.0 in
    let gathered = firsts (λ (x : Slot). gathered_fits e.unit x.phase) s t h.1.1.1.1.0 in
    let left = firsts (λ (x : Slot). packet_left e.unit x.phase) s t h.1.1.1.1.1.1.0 in
    let fits = firsts (λ (x : Slot). message_fits x.phase) s t h.1.1.1.1.1.1.1.0 in
    let waits = firsts waits_paused s t h.1.1.1.1.1.1.1.1.0 in
    let turns = and_parts (begun_turn e.turn 0 s.phase) (begun_turn e.turn 1 t.phase) h.1.1.1.1.1.1.1.1.1.0 in
    let flags = and_parts (eqb (e.flags % 2 ^ 4) 0 && eqb (e.flags / 2 ^ 13 % 2) 0) (eqb (e.flags / 2 ^ 15) 0) h.1.1.1.1.1.1.1.1.1.1.0 in
    let low = and_parts (eqb (e.flags % 2 ^ 4) 0) (eqb (e.flags / 2 ^ 13 % 2) 0) flags.0 in
    let eid = between_bounds 8 254 e.eid h.0 in
    let units = between_bounds least_unit most_unit e.unit h.1.0 in
    record {
      numbers = record { eid_least = eid.0; eid_most = eid.1; unit_least = units.0; unit_most = units.1; turn_most = leb-true e.turn 1 h.1.1.0 };
      slots_valid =
          rw slots_are
          (two
          (record {
            phase_facts = to_facts e.unit s.paused s.phase (record { idle = idle.0; gathered = gathered.0; left = left.0; fits = fits.0; waits = waits.0 });
            begun_goes_on = to_turn (is_begun s.phase) e.turn 0 turns.0;
          })
          (record {
            phase_facts = to_facts e.unit t.paused t.phase (record { idle = idle.1; gathered = gathered.1; left = left.1; fits = fits.1; waits = waits.1 });
            begun_goes_on = to_turn (is_begun t.phase) e.turn 1 turns.1;
          })
          h.1.1.1.1.1.0);
      flags_valid =
          record {
            low = eqb-true (e.flags % 2 ^ 4) 0 low.0;
            thirteen = eqb-true (e.flags / 2 ^ 13 % 2) 0 low.1;
            top = eqb-true (e.flags / 2 ^ 15) 0 flags.1;
          };
      reply_twelve = reply_facts e.reply h.1.1.1.1.1.1.1.1.1.1.1.0;
    }

-- a state that passes the test has the facts
pub valid_facts : (e : Endpoint) → valid e ≡ true → Valid e
unfolding valid
valid_facts e h = go e.slots refl h
  where
    go : (l : List Slot) → e.slots ≡ l → valid_with e l ≡ true → Valid e
    go [] p k = false_true k
    go (s ∷ []) p k = false_true k
    go (s ∷ t ∷ []) p k = valid_two e s t p (each (clauses e s t) k)
    go (s ∷ t ∷ u ∷ l) p k = false_true k

-- a state that has the facts passes the test
pub facts_valid : (e : Endpoint) → Valid e → valid e ≡ true
unfolding valid
facts_valid e v = go e.slots v.slots_valid
  where
    go : (l : List Slot) → ValidSlots e.unit e.turn l → valid_with e l ≡ true
    go _ (two {s} {t} vs vt k) =
        let ps = of_facts e.unit s.paused s.phase vs.phase_facts in
        let pt = of_facts e.unit t.paused t.phase vt.phase_facts in
        let f = v.flags_valid in
        let turn_s : begun_turn e.turn 0 s.phase ≡ true = of_turn (is_begun s.phase) e.turn 0 vs.begun_goes_on in
        let turn_t : begun_turn e.turn 1 t.phase ≡ true = of_turn (is_begun t.phase) e.turn 1 vt.begun_goes_on in
        all_hold (clauses e s t) (
          bounds_between 8 254 e.eid v.numbers.eid_least v.numbers.eid_most,
          (
            bounds_between least_unit most_unit e.unit v.numbers.unit_least v.numbers.unit_most,
            (
              le-leb e.turn 1 v.numbers.turn_most,
              (
                and_from (unpaused_idle s) (unpaused_idle t) ps.idle pt.idle,
                (
                  and_from (gathered_fits e.unit s.phase) (gathered_fits e.unit t.phase) ps.gathered pt.gathered,
                  (
                    k,
                    (
                      and_from (packet_left e.unit s.phase) (packet_left e.unit t.phase) ps.left pt.left,
                      (
                        and_from (message_fits s.phase) (message_fits t.phase) ps.fits pt.fits,
                        (
                          and_from (waits_paused s) (waits_paused t) ps.waits pt.waits,
                          (
                            and_from (begun_turn e.turn 0 s.phase) (begun_turn e.turn 1 t.phase) turn_s turn_t,
                            (
                              rw (f.low, f.thirteen, f.top) refl,
                              (
                                reply_passes e.reply v.reply_twelve,
                                tt,
                              ),
                            ),
                          ),
                        ),
                      ),
                    ),
                  ),
                ),
              ),
            ),
          ),
        )
