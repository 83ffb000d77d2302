-- Laws of setup, and of a message's packets: how many there are and which is the last, what each carries, and that each is read as it was cut.
-- Assumes nothing.
use Prim.Native.Nat.{ℕ, min, zero, suc, ◌+◌, ◌-◌, ◌*◌, ◌/◌, ◌%◌, ◌≤◌, ◌<◌}
use native.Mathlib.Nat.{le-div_iff_mul-le, div-lt_iff_lt-mul, lt-div-mul-add, mod-lt, mul-zero}
use native.Mathlib.Numerals.{add-one}
use native.Mathlib.Omega.{arith}
use mathlib.Core.Path.{◌≡◌, refl, sym, ◌∙◌}
use mathlib.Core.Logic.{◌↔◌}
use mathlib.Core.Bool.{Bool, true, false, not, ◌&&◌, ◌||◌}
use mathlib.Core.List.{List, [], ◌∷◌, ◌++◌}
use lib.Dec.{eqb, leb, ltb, lit<}
use lib.ListN.{length, take, length-take, length-drop}
use lib.Seq.{take-add, take_all}
use borrow.Author.Tests.{ltb-true, leb-true, eqb-true, ltb-false, lt-leb, le-leb, le-ltb, eq-eqb}
use Rattle.std.specs.Prelude.{if◌then◌else◌}
use Rattle.lent.specs.Bytes.{byte_at, is_set}
use Rattle.std.proofs.lemmas.Bool.{or_parts}
use Rattle.lent.proofs.Choice.{if_second, differ}
use Rattle.mctp.specs.Setup.{first_eid, last_eid, least_unit, most_unit, setup_refusal, setup_number}
use Rattle.mctp.specs.Header.{bit, same, header_bytes, fields, read_header, read_says, header_numbers, too_short, too_long, wrong_version, not_ours, wrong_direction}
use Rattle.mctp.specs.Cut.{packets, payload, packet}
use Rattle.mctp.specs.Gather.{is_cut, join_refusal}
use Rattle.mctp.specs.declared.Header.{Header}
use Rattle.mctp.specs.declared.Route.{Route}
use Rattle.std.specs.Prelude.{Ok, Err}

-- ---- setup

-- outside of two bounds, as it is tested and as the document says it
outside : (low high n : ℕ) → (ltb n low || ltb high n) ≡ not (leb low n && leb n high)
outside low high n = by (ltb n low) refl (ltb high n) refl
  where
    by : (a : Bool) → ltb n low ≡ a → (b : Bool) → ltb high n ≡ b → (a || b) ≡ not (leb low n && leb n high)
    by true e b f = rw (lt-leb low n (ltb-true n low e)) refl
    by false e true f = rw (le-leb low n (ltb-false n low e), lt-leb n high (ltb-true high n f)) refl
    by false e false f = rw (le-leb low n (ltb-false n low e), le-leb n high (ltb-false high n f)) refl

pub setup_numbers : (eid unit : ℕ) → setup_refusal eid unit ≡ setup_number eid unit
unfolding setup_refusal
setup_numbers eid unit = rw (outside 8 254 eid, outside 64 250 unit) refl

-- what is known of an end that was set up
pub record SetUpSo (eid unit : ℕ) : Type 0 where
  pub eid_least : first_eid ≤ eid
  pub eid_most : eid ≤ last_eid
  pub unit_least : least_unit ≤ unit
  pub unit_most : unit ≤ most_unit

pub set_up_so : (eid unit : ℕ) → setup_refusal eid unit ≡ 0 → SetUpSo eid unit
unfolding setup_refusal
set_up_so eid unit e =
    let a = if_second (ltb eid first_eid || ltb last_eid eid) (λ q. absurd (omega (arith, q))) e in
    let b = if_second (ltb unit least_unit || ltb most_unit unit) (λ q. absurd (omega (arith, q))) a.1 in
    record {
      eid_least = ltb-false eid first_eid (or_parts (ltb eid first_eid) (ltb last_eid eid) a.0).0;
      eid_most = ltb-false last_eid eid (or_parts (ltb eid first_eid) (ltb last_eid eid) a.0).1;
      unit_least = ltb-false unit least_unit (or_parts (ltb unit least_unit) (ltb most_unit unit) b.0).0;
      unit_most = ltb-false most_unit unit (or_parts (ltb unit least_unit) (ltb most_unit unit) b.0).1;
    }

pub first_so : SetUpSo first_eid least_unit
first_so = record { eid_least = omega arith; eid_most = omega arith; unit_least = omega arith; unit_most = omega arith }

-- ---- how many packets

-- two tests of which each implies the other
pub same_test : (x y : Bool) → (x ≡ true → y ≡ true) → (y ≡ true → x ≡ true) → x ≡ y
same_test true y p q = sym (p refl)
same_test false true p q = q refl
same_test false false p q = refl

-- packet k is one of the message's
pub packets_bounds : (unit n k : ℕ) → 0 < unit → (k < packets unit n) ↔ (unit * k < n)
packets_bounds unit n k pos =
    let counts = le-div_iff_mul-le {k = unit} {x = suc k} {y = n + (unit - 1)} pos in
    (λ h. omega (arith, counts.0 h), λ h. counts.1 (omega arith))

-- as few as carry the message
pub packets_most : (unit n m : ℕ) → 0 < unit → n ≤ unit * m → packets unit n ≤ m
packets_most unit n m pos h =
    let below : packets unit n < suc m = (div-lt_iff_lt-mul {k = unit} pos).1 (omega arith) in
    omega arith

-- and enough to carry it
pub packets_cover : (unit n : ℕ) → 0 < unit → n ≤ unit * packets unit n
packets_cover unit n pos = omega (arith, lt-div-mul-add {a = n + (unit - 1)} pos)

-- the last packet is the one that reaches the end
pub last_packet : (unit n k : ℕ) → 0 < unit → unit * k < n → eqb (k + 1) (packets unit n) ≡ leb n (unit * k + unit)
last_packet unit n k pos inside =
    same_test _ _
    (λ h. let all : n ≤ unit * (k + 1) = rw (eqb-true (k + 1) (packets unit n) h) (packets_cover unit n pos) in le-leb n (unit * k + unit) (omega arith))
    (λ h. eq-eqb (k + 1) (packets unit n)
    (omega (arith, (packets_bounds unit n k pos).1 inside, packets_most unit n (k + 1) pos (omega (arith, leb-true)))))

-- the same, of what is left of the message
pub last_left : (unit n k : ℕ) → 0 < unit → unit * k < n → eqb (k + 1) (packets unit n) ≡ leb (n - unit * k) unit
last_left unit n k pos inside =
    rw (last_packet unit n k pos inside)
    (same_test _ _ (λ h. le-leb (n - unit * k) unit (omega (arith, leb-true))) (λ h. le-leb n (unit * k + unit) (omega (arith, leb-true))))

-- ---- what each carries

pub payload_length : (unit : ℕ) (message : List ℕ) (k : ℕ) → length (payload unit message k) ≡ min unit (length message - unit * k)
payload_length unit message k = simp (length-take, length-drop)

pub payload_next : (unit : ℕ) (message : List ℕ) (k : ℕ) → take (unit * k) message ++ payload unit message k ≡ take (unit * (k + 1)) message
payload_next unit message k =
    let e : unit * (k + 1) ≡ unit * k + unit = omega arith in
    rw (e, take-add (unit * k) unit message)

-- a message that fits one payload is one packet: the first and the last
pub one_packet : (unit : ℕ) (route : Route) (message : List ℕ) → 0 < length message → length message ≤ unit
    → packet unit route message 0 ≡ header_bytes route.destination route.source true true 0 route.to route.tag ++ message
unfolding packet
one_packet unit route message some fits =
    let inside : unit * 0 < length message = rw mul-zero some in
    let last : eqb (0 + 1) (packets unit (length message)) ≡ true =
    last_packet unit (length message) 0 (omega arith) inside ∙ le-leb (length message) (unit * 0 + unit) (rw mul-zero (omega arith)) in
    rw (last, mul-zero, take_all unit message fits) refl

-- the first payloads one behind another
abbrev pub payloads : ℕ → List ℕ → ℕ → List ℕ
payloads unit message zero = []
payloads unit message (suc k) = payloads unit message k ++ payload unit message k

pub payloads_join : (unit : ℕ) (message : List ℕ) (k : ℕ) → payloads unit message k ≡ take (unit * k) message
payloads_join unit message zero = rw mul-zero
payloads_join unit message (suc k) = rw (payloads_join unit message k, payload_next unit message k, add-one)

-- ---- how each is read

-- byte 3 of a header taken apart
bits : (x y s z t : ℕ) → x ≤ 1 → y ≤ 1 → s < 4 → z ≤ 1 → t < 8
    → let b = x * 128 + y * 64 + s * 16 + z * 8 + t in
    (b / 128 % 2 ≡ x) × (b / 64 % 2 ≡ y) × (b / 16 % 4 ≡ s) × (b / 8 % 2 ≡ z) × (b % 8 ≡ t)
bits x y s z t hx hy hs hz ht = omega arith

bit_times : (b : Bool) (v : ℕ) → bit b v ≡ bit b 1 * v
bit_times true v = omega arith
bit_times false v = omega arith

bit_below : (b : Bool) → bit b 1 ≤ 1
bit_below true = omega arith
bit_below false = omega arith

bit_set : (b : Bool) → eqb (bit b 1) 1 ≡ b
bit_set true = refl
bit_set false = refl

pub same_self : (b : Bool) → same b b ≡ true
same_self true = refl
same_self false = refl

pub not_same_false : (b : Bool) → not (same b false) ≡ b
not_same_false true = refl
not_same_false false = refl

-- the header of packet k, as a receiver reads it
abbrev pub header_of : ℕ → Route → List ℕ → ℕ → Header
header_of unit route message k =
    record {
      source = route.source;
      som = eqb k 0;
      eom = eqb (k + 1) (packets unit (length message));
      sequence = k % 4;
      tag = route.tag % 8;
    }

-- four header bytes, of which byte 3 is made of these bits, and a payload of 1 to `unit` bytes
read_bytes : (destination source unit : ℕ) (som eom to : Bool) (sequence tag : ℕ) (p : List ℕ) → 0 < length p → length p ≤ unit
    → read_header destination unit to (header_bytes destination source som eom sequence to tag ++ p)
    ≡ Ok (record { source = source; som = som; eom = eom; sequence = sequence % 4; tag = tag % 8 })
unfolding read_header
read_bytes d s unit som eom to sequence tag p some fits =
    let e = bits (bit som 1) (bit eom 1) (sequence % 4) (bit to 1) (tag % 8) (bit_below som) (bit_below eom) (mod-lt sequence (lit< tt)) (bit_below to) (mod-lt tag (lit< tt)) in
    let n = suc (suc (suc (suc (length p)))) in
    rw (bit_times som 128, bit_times eom 64, bit_times to 8, le-ltb n 5 (omega arith), le-ltb (unit + 4) n (omega arith), eq-eqb d d refl, e.0, e.1, e.2, e.3, e.4, bit_set som, bit_set eom, bit_set to, same_self to)

pub read_of_cut : (unit : ℕ) (route : Route) (message : List ℕ) (k : ℕ) → 0 < unit → unit * k < length message
    → read_header route.destination unit route.to (packet unit route message k) ≡ Ok (header_of unit route message k)
unfolding packet
read_of_cut unit route message k pos inside =
    let n = payload_length unit message k in
    read_bytes route.destination route.source unit (eqb k 0) (eqb (k + 1) (packets unit (length message))) route.to k route.tag
    (payload unit message k) (omega arith) (omega arith)

-- a packet that is read has a header and 1 to `unit` payload bytes
pub not_read : {A : Type 0} {n : ℕ} {h : Header} → Err n ≡ Ok h → A
not_read e = differ (cc e)

pub packet_sized : (eid unit : ℕ) (to : Bool) (packet : List ℕ) {h : Header} → read_header eid unit to packet ≡ Ok h → (5 ≤ length packet) × (length packet ≤ unit + 4)
unfolding read_header
packet_sized eid unit to packet e =
    let a = if_second (ltb (length packet) 5) not_read e in
    let b = if_second (ltb (unit + 4) (length packet)) not_read a.1 in
    (ltb-false (length packet) 5 a.0, ltb-false (unit + 4) (length packet) b.0)

-- a later packet that is not refused joins
pub record Joins (unit limit : ℕ) (h : Header) (gathered n : ℕ) : Type 0 where
  pub whole_unit : is_cut unit h n ≡ false
  pub fits : gathered + n ≤ limit

not_zero : {A : Type 0} (n : ℕ) → suc n ≡ 0 → A
not_zero n e = absurd (omega arith)

pub joins : (unit limit sequence gathered n : ℕ) (h : Header) → join_refusal unit limit sequence gathered h n ≡ 0 → Joins unit limit h gathered n
unfolding join_refusal
joins unit limit sequence gathered n h e =
    let a = if_second (not (eqb h.sequence ((sequence + 1) % 4))) (not_zero 21) e in
    let b = if_second (is_cut unit h n) (not_zero 15) a.1 in
    let c = if_second (ltb limit (gathered + n)) (not_zero 22) b.1 in
    record { whole_unit = b.0; fits = ltb-false limit (gathered + n) c.0 }

-- ---- the header reader's answers in numbers

pub header_numbers_lem : (eid unit : ℕ) (to : Bool) (p : List ℕ) → read_says (read_header eid unit to p) ≡ header_numbers eid unit to p
unfolding read_header
header_numbers_lem eid unit to p =
    by (ltb (length p) 5) (ltb (unit + 4) (length p)) (not (eqb (byte_at p 0 % 16) 1)) (not (eqb (byte_at p 1) eid)) (not (same (is_set (byte_at p 3) 3) to))
  where
    by : (a b c d e : Bool)
        → read_says (if a then Err too_short else if b then Err too_long else if c then Err wrong_version else if d then Err not_ours else if e then Err wrong_direction else Ok (fields p))
        ≡ (if a then (10, []) else if b then (11, []) else if c then (12, []) else if d then (13, []) else if e then (14, [])
        else (0, byte_at p 2 ∷ bit (is_set (byte_at p 3) 7) 1 ∷ bit (is_set (byte_at p 3) 6) 1 ∷ byte_at p 3 / 16 % 4 ∷ byte_at p 3 % 8 ∷ []))
    by true b c d e = refl
    by false true c d e = refl
    by false false true d e = refl
    by false false false true e = refl
    by false false false false true = refl
    by false false false false false = refl
