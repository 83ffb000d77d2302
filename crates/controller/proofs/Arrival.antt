-- A response that is cut and comes packet by packet is gathered: before packet k the store holds the first k payloads, and with the last packet the
-- message is whole.
-- Assumes nothing.
use Prim.Native.Nat.{ℕ, zero, suc, ◌+◌, ◌*◌, ◌%◌, ◌≤◌, ◌<◌}
use mathlib.Core.Path.{◌≡◌, refl, sym, ap, ◌∙◌}
use mathlib.Core.Bool.{true, false}
use mathlib.Core.List.{List, [], ◌∷◌, ◌++◌}
use native.Mathlib.Nat.{mul-zero, mod-eq_of_lt}
use native.Mathlib.Omega.{arith}
use lib.Dec.{eqb, eqb-suc-zero}
use lib.ListN.{length, take, drop, length-take}
use borrow.Author.Tests.{eqb-true, eq-eqb}
use Rattle.std.specs.Prelude.{Result, Ok}
use Rattle.lent.specs.Bytes.{put}
use Rattle.std.proofs.lemmas.Bool.{and_parts}
use Rattle.lent.proofs.Choice.{false_true}
use Rattle.mctp.specs.Header.{read_header, payload_of}
use Rattle.mctp.specs.Cut.{packets, payload, packet, cut}
use Rattle.mctp.specs.Gather.{join_refusal}
use Rattle.mctp.specs.declared.Header.{Header}
use Rattle.mctp.specs.declared.Route.{Route}
use Rattle.mctp.proofs.Laws.{packets_bounds, header_of, read_of_cut}
use Rattle.mctp.proofs.Gathering.{no_refusal}
use Rattle.mctp.proofs.Feeding.{Leads, Fed, fed}
use Rattle.opening.specs.Formed.{WellFormed}
use Rattle.opening.specs.Opening.{opened, joined_in}
use Rattle.opening.specs.declared.First.TheVariants.{Command}
use Rattle.opening.specs.declared.Joined.{Joined}
use Rattle.opening.proofs.Joining.{holding, holding_length, front_of, put_more, joins_more, put_whole, joins_whole, opens}
use Rattle.machine.specs.Receive.{is_from, assembly}
use Rattle.machine.specs.Wire.{store_size, outward}
use Rattle.machine.specs.declared.Assembly.{Assembly}
use Rattle.controller.specs.State.{awaits, unassembled, requester, Side, side, Outcome, outcome, AwaitingFacts, Valid}
use Rattle.controller.specs.Receive.{receive_says, dropped, landed, gathered, restarted, first_by, first, later_at, later_by, later, received_by, received}
use Rattle.controller.specs.Grounds.{is_awaited}
use Rattle.controller.specs.Arrival.{route_back, at_requester, wholly, Came, ResponseGathered}
use Rattle.controller.specs.Types.{Awaiting, Nothing, Awaited, Gathering}
use Rattle.controller.specs.declared.Gathered.{Gathered}
use Rattle.controller.specs.declared.Gathered.TheVariants.{More, Response}
use Rattle.controller.proofs.Keeps.{end_of}

-- ---- one packet

-- what is awaited still is, once its assembly has ended
awaits_still : (source tag : ℕ) (a : Awaiting) → awaits source tag a ≡ true → awaits source tag (unassembled a) ≡ true
awaits_still source tag Nothing h = h
awaits_still source tag (Awaited k) h = h
awaits_still source tag (Gathering a) h = h

received_is : (s : Side) (p : List ℕ) (h : Header) → length s.store ≡ store_size → read_header s.requester.eid s.requester.unit outward p ≡ Ok h
    → received s p ≡ received_by s (payload_of p) (Ok h)
unfolding received
received_is s p h size e = rw size (ap (received_by s (payload_of p)) e)

-- with SOM, a response that is awaited
first_is : (s : Side) (h : Header) (m : List ℕ) → opened s.requester.unit true h m ≡ Ok Command → awaits h.source h.tag s.requester.awaiting ≡ true
    → first s h m ≡ gathered s 0 h m
unfolding first
first_is s h m o a = ap (first_by s h m) o ∙ rw a refl

-- without SOM, one that joins
without_som : (s : Side) (h : Header) (p : List ℕ) → h.som ≡ false → received_by s p (Ok h) ≡ later s h p
without_som s h p e = rw e refl

later_is : (s : Side) (h : Header) (p : List ℕ) (a : Assembly) → s.requester.awaiting ≡ Gathering a → is_from h.source h.tag a ≡ true
    → join_refusal s.requester.unit store_size a.sequence a.length h (length p) ≡ 0 → later s h p ≡ gathered s a.length h p
unfolding later later_at
later_is s h p a e f j = ap (later_by s h p) e ∙ rw (f, j) refl

leads : {P : Side → Type 0} (s : Side) (p : List ℕ) (n : Result Gathered ℕ) (t : Side) → received s p ≡ outcome n t → P t → Leads at_requester s p (receive_says n) P
leads s p n t so h = record { answered = rw so refl; leaves = rw so h }

module _ (s₀ : Side) (source tag : ℕ) (m : List ℕ) (valid : Valid s₀.requester) (size : length s₀.store ≡ store_size) (small : tag ≤ 7) (good : WellFormed true m) where
  abbrev unit : ℕ
  unit = s₀.requester.unit

  pos : 0 < unit
  pos = omega (arith, valid.unit_least)

  abbrev route : Route
  route = route_back s₀.requester.eid source tag

  abbrev head : ℕ → Header
  head k = header_of unit route m k

  abbrev bytes : ℕ → List ℕ
  bytes k = payload unit m k

  -- the assembly before packet k + 1
  abbrev so_far : ℕ → Assembly
  so_far k = assembly (head k) (unit * suc k)

  -- what is awaited before packet k: anything of this source and tag before the first, and then the rest
  data Before : ℕ → Awaiting → Type 0 where
    start : {a : Awaiting} → awaits source tag a ≡ true → Before zero a
    going : {k : ℕ} {a : Awaiting} → a ≡ Gathering (so_far k) → Before (suc k) a

  record Ready (k : ℕ) (s : Side) : Type 0 where
    ours : end_of s.requester ≡ end_of s₀.requester
    before : Before k s.requester.awaiting
    store_is : s.store ≡ holding m (unit * k) s₀.store

  -- packet k goes behind the bytes so far; with SOM an assembly has ended
  record Lands (k : ℕ) (s t : Side) : Type 0 where
    received_so : received s (packet unit route m k) ≡ gathered t (unit * k) (head k) (bytes k)
    ours : end_of t.requester ≡ end_of s₀.requester
    store_is : t.store ≡ holding m (unit * k) s₀.store

  tagged : tag % 8 ≡ tag
  tagged = mod-eq_of_lt (omega arith)

  sized : (k : ℕ) (s : Side) → Ready k s → unit * k < length m → length s.store ≡ store_size
  sized k s r inside =
      ap (λ (x : List ℕ). length x) r.store_is ∙ holding_length m (unit * k) s₀.store (omega arith) (rw size (omega (arith, good.short))) ∙ size

  reading : (k : ℕ) (s : Side) → Ready k s → unit * k < length m → received s (packet unit route m k) ≡ received_by s (bytes k) (Ok (head k))
  reading k s r inside =
      received_is s (packet unit route m k) (head k) (sized k s r inside)
      (ap (λ (e : ℕ × ℕ). read_header e.0 e.1 outward (packet unit route m k)) r.ours ∙ read_of_cut unit route m k pos inside)
      ∙ ap (λ (x : List ℕ). received_by s x (Ok (head k))) (unfold packet in refl)

  lands : {k : ℕ} {s : Side} → Ready k s → unit * k < length m → ((t : Side) × Lands k s t)
  lands {k} {s} r inside = by k r s.requester.awaiting refl r.before inside
    where
      by : (k : ℕ) → Ready k s → (a : Awaiting) → s.requester.awaiting ≡ a → Before k a → unit * k < length m → ((t : Side) × Lands k s t)
      by zero r a e (start h) inside =
          let told : awaits source (tag % 8) s.requester.awaiting ≡ true = rw (tagged, e) h in
          let ended : restarted source (tag % 8) s ≡ dropped s = rw told refl in (
            dropped s,
            record {
              received_so =
                  reading 0 s r inside ∙ ap (λ (x : Side). first x (head 0) (bytes 0)) ended
                  ∙ first_is (dropped s) (head 0) (bytes 0) (ap (λ (e : ℕ × ℕ). opened e.1 true (head 0) (bytes 0)) r.ours ∙ opens unit true route m (omega (arith, valid.unit_least)) good) (awaits_still source (tag % 8) s.requester.awaiting told)
                  ∙ ap (λ (n : ℕ). gathered (dropped s) n (head 0) (bytes 0)) (sym (mul-zero unit));
              ours = r.ours;
              store_is = r.store_is;
            },
          )
      by (suc k) r a e (going g) inside =
          let gathered_length : length (take (unit * (k + 1)) m) ≡ unit * suc k = length-take (unit * (k + 1)) m ∙ omega arith in (
            s,
            record {
              received_so =
                  reading (suc k) s r inside ∙ without_som s (head (suc k)) (bytes (suc k)) (eqb-suc-zero k)
                  ∙ later_is s (head (suc k)) (bytes (suc k)) (so_far k) (e ∙ g) (rw (eq-eqb source source refl, eq-eqb (tag % 8) (tag % 8) refl) refl)
                  (ap (λ (e : ℕ × ℕ). join_refusal e.1 store_size (k % 4) (unit * suc k) (head (suc k)) (length (bytes (suc k)))) r.ours
                  ∙ ap (λ (n : ℕ). join_refusal unit store_size (k % 4) n (head (suc k)) (length (bytes (suc k)))) (sym gathered_length)
                  ∙ no_refusal unit store_size route m pos good.short k inside);
              ours = r.ours;
              store_is = r.store_is;
            },
          )

  -- the payload in the store
  gathered_is : (k : ℕ) (t : Side) (after : List ℕ) → put t.store (unit * k) (bytes k) ≡ after
      → gathered t (unit * k) (head k) (bytes k)
      ≡ landed (side t.requester after) (assembly (head k) (unit * k + length (bytes k))) (joined_in (take (unit * k + length (bytes k)) after) (head k).eom)
  unfolding gathered
  gathered_is k t after e =
      ap (λ (x : List ℕ). landed (side t.requester x) (assembly (head k) (unit * k + length (bytes k))) (joined_in (take (unit * k + length (bytes k)) x) (head k).eom)) e

  -- what an assembly of n bytes leads to, with this store
  abbrev leading : ℕ → Side → ℕ → Joined → Outcome
  leading k t n j = landed t (assembly (head k) n) j

  more_packets : (k : ℕ) (s : Side) → Ready k s → k + 1 < packets unit (length m) → Leads at_requester s (packet unit route m k) (0, []) (Ready (suc k))
  more_packets k s r n = by (lands r inside)
    where
      inside : unit * k < length m
      inside = (packets_bounds unit (length m) k pos).0 (omega arith)

      after : List ℕ
      after = holding m (unit * suc k) s₀.store

      by : ((t : Side) × Lands k s t) → Leads at_requester s (packet unit route m k) (0, []) (Ready (suc k))
      by (t, l) =
          let put_so : put t.store (unit * k) (bytes k) ≡ after =
          ap (λ (x : List ℕ). put x (unit * k) (bytes k)) l.store_is ∙ put_more unit route m pos s₀.store k n in
          let so : received s (packet unit route m k) ≡ outcome (Ok More) (side (requester t.requester.eid t.requester.unit (Gathering (so_far k))) after) =
          l.received_so ∙ gathered_is k t after put_so ∙ joins_more unit route m pos (leading k (side t.requester after)) after k n in
          leads s (packet unit route m k) (Ok More) (side (requester t.requester.eid t.requester.unit (Gathering (so_far k))) after) so
          (record { ours = l.ours; before = going refl; store_is = refl })

  last_packet : (k : ℕ) (s : Side) → Ready k s → k + 1 ≡ packets unit (length m) → Leads at_requester s (packet unit route m k) (1, length m ∷ []) (Came s₀ m)
  last_packet k s r n = by (lands r inside)
    where
      inside : unit * k < length m
      inside = (packets_bounds unit (length m) k pos).0 (omega arith)

      after : List ℕ
      after = m ++ drop (length m) s₀.store

      by : ((t : Side) × Lands k s t) → Leads at_requester s (packet unit route m k) (1, length m ∷ []) (Came s₀ m)
      by (t, l) =
          let put_so : put t.store (unit * k) (bytes k) ≡ after =
          ap (λ (x : List ℕ). put x (unit * k) (bytes k)) l.store_is ∙ put_whole unit route m pos s₀.store k n in
          let so : received s (packet unit route m k) ≡ outcome (Ok (Response (length m))) (side (requester t.requester.eid t.requester.unit Nothing) after) =
          l.received_so ∙ gathered_is k t after put_so
          ∙ joins_whole unit route m pos (leading k (side t.requester after)) after k (front_of m s₀.store) good.right n in
          leads s (packet unit route m k) (Ok (Response (length m))) (side (requester t.requester.eid t.requester.unit Nothing) after) so
          (record { eid_same = ap (λ (e : ℕ × ℕ). e.0) l.ours; unit_same = ap (λ (e : ℕ × ℕ). e.1) l.ours; nothing_awaited = refl; store_is = refl })

  arrives : awaits source tag s₀.requester.awaiting ≡ true → Fed at_requester s₀ (cut unit route m) (wholly unit m) (Came s₀ m)
  arrives awaited =
      fed at_requester (0, []) (1, length m ∷ []) unit route m Ready (Came s₀ m) more_packets last_packet s₀ pos (omega (arith, good.long))
      (record { ours = refl; before = start awaited; store_is = rw (mul-zero unit) refl })

-- what is awaited has a tag that a packet can carry
pub awaited_small : (unit source tag : ℕ) (a : Awaiting) → AwaitingFacts unit a → is_awaited source tag a ≡ true → (tag ≤ 7) × (awaits source tag a ≡ true)
awaited_small unit source tag Nothing f e = false_true e
awaited_small unit source tag (Awaited k) f e = (omega (arith, f, eqb-true k.tag tag (and_parts (eqb k.source source) (eqb k.tag tag) e).1), e)
awaited_small unit source tag (Gathering a) f e = (omega (arith, f.0, eqb-true a.tag tag (and_parts (eqb a.source source) (eqb a.tag tag) e).1), e)

pub response_gathered : ResponseGathered
response_gathered s source tag m v size awaited good =
    let k = awaited_small s.requester.unit source tag s.requester.awaiting v.awaiting_facts awaited in
    let a = arrives s source tag m v size k.0 good k.1 in
    record { answered = a.all_answered; came = a.all_left }
