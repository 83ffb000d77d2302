-- Gathering what was cut gives the message back, for every unit and every message: after packet k the assembly holds the message's
-- first k + 1 units, and the packet with EOM ends it.
-- Assumes nothing.
use Prim.Native.Nat.{ℕ, zero, suc, ◌+◌, ◌-◌, ◌*◌, ◌%◌, ◌≤◌, ◌<◌}
use native.Mathlib.Nat.{mul-zero}
use native.Mathlib.Numerals.{add-one}
use native.Mathlib.Omega.{arith}
use mathlib.Core.Path.{◌≡◌, refl, sym, ap, ◌∙◌}
use mathlib.Core.Bool.{Bool, true, false, not, ◌&&◌}
use mathlib.Core.List.{List}
use lib.Dec.{eqb, eqb-suc-zero}
use lib.ListN.{length, take, length-take}
use lib.Seq.{take_all}
use borrow.Author.Tests.{leb-true, leb-false, le-ltb, eq-eqb, ne_eqb}
use Rattle.std.specs.Prelude.{if◌then◌else◌}
use Rattle.mctp.specs.Header.{read_header, payload_of}
use Rattle.mctp.specs.Cut.{packets, payload, packet, cut_from, cut}
use Rattle.mctp.specs.Gather.{Gathered, nothing, refused, more, whole, Assembling, is_cut, join_refusal, joined, first, gather_read, gather}
use Rattle.mctp.specs.declared.Header.{Header}
use Rattle.mctp.specs.declared.Route.{Route}
use Rattle.std.specs.Prelude.{Ok}
use Rattle.mctp.proofs.Laws.{packets_bounds, last_packet, last_left, payload_length, payload_next, header_of, read_of_cut}

-- the assembly after packet k
abbrev pub assembled : ℕ → Route → List ℕ → ℕ → Assembling
assembled unit route message k =
    record { source = route.source; tag = route.tag % 8; sequence = k % 4; bytes = take (unit * (k + 1)) message }

-- what packet k leads to
abbrev pub after : ℕ → Route → List ℕ → ℕ → Gathered
after unit route message k = if eqb (k + 1) (packets unit (length message)) then whole message else more (assembled unit route message k)

-- what is there before packet k: anything before the first, and then the assembly
pub data Before (unit : ℕ) (route : Route) (message : List ℕ) : ℕ → Gathered → Type 0 where
  start : {g : Gathered} → Before unit route message zero g
  going : {k : ℕ} → Before unit route message (suc k) (more (assembled unit route message k))

-- a packet with EOM is never cut short, nor is one that carries a whole unit
not_cut : (t u : Bool) → (t ≡ false → u ≡ true) → not t && not u ≡ false
not_cut true u h = refl
not_cut false u h = rw (h refl)

-- the two ways on, where the last packet completes the message
ends : (t : Bool) (g : Gathered) (a b : List ℕ) → (t ≡ true → a ≡ b) → (if t then whole a else g) ≡ (if t then whole b else g)
ends true g a b h = ap whole (h refl)
ends false g a b h = refl

-- a packet with SOM starts anew, whatever was there
opens : (unit limit : ℕ) (g : Gathered) (h : Header) (p : List ℕ) → h.som ≡ true → gather_read unit limit g p (Ok h) ≡ first unit h p
opens unit limit nothing h p e = rw e
opens unit limit (refused n) h p e = rw e
opens unit limit (more a) h p e = rw e
opens unit limit (whole m) h p e = rw e

module _ (unit limit : ℕ) (route : Route) (message : List ℕ) (pos : 0 < unit) (fits : length message ≤ limit) where
  -- packet k carries a whole unit or has EOM
  pub full : (k : ℕ) → unit * k < length message → is_cut unit (header_of unit route message k) (length (payload unit message k)) ≡ false
  full k inside =
      not_cut _ _
      (λ h. let more_left : unit < length message - unit * k = leb-false _ _ (sym (last_left unit (length message) k pos inside) ∙ h) in
      eq-eqb (length (payload unit message k)) unit (omega (arith, payload_length unit message k)))

  -- its payload joined to those before it
  joins : (k : ℕ) → unit * k < length message
      → joined (header_of unit route message k) (take (unit * k) message) (payload unit message k) ≡ after unit route message k
  joins k inside =
      rw (payload_next unit message k)
      (ends _ _ _ _
      (λ h. let all : length message ≤ unit * k + unit = leb-true _ _ (sym (last_packet unit (length message) k pos inside) ∙ h) in
      take_all (unit * (k + 1)) message (omega arith)))

  -- a later packet is not refused
  pub no_refusal : (k : ℕ) → unit * suc k < length message
      → join_refusal unit limit (k % 4) (length (take (unit * (k + 1)) message)) (header_of unit route message (suc k)) (length (payload unit message (suc k))) ≡ 0
  unfolding join_refusal
  no_refusal k inside =
      let room : length (take (unit * (k + 1)) message) + length (payload unit message (suc k)) ≤ limit =
      omega (arith, length-take (unit * (k + 1)) message, payload_length unit message (suc k)) in
      rw (eq-eqb (suc k % 4) ((k % 4 + 1) % 4) (omega arith), full (suc k) inside, le-ltb _ _ room)

  -- packet k, read and gathered
  pub step : {k : ℕ} {g : Gathered} → Before unit route message k g → unit * k < length message
      → gather_read unit limit g (payload_of (packet unit route message k)) (read_header route.destination unit route.to (packet unit route message k))
      ≡ after unit route message k
  unfolding packet
  step (start {g}) inside =
      rw (read_of_cut unit route message 0 pos inside, opens unit limit g (header_of unit route message 0) (payload unit message 0) refl, full 0 inside, mul-zero)
      (rw mul-zero at (joins 0 inside))
  step (going {k}) inside =
      rw (read_of_cut unit route message (suc k) pos inside, no_refusal k inside, eq-eqb route.source route.source refl, eq-eqb (route.tag % 8) (route.tag % 8) refl, eqb-suc-zero k, add-one k)
      (joins (suc k) inside)

  -- packet k and the n packets after it, the last of which is the message's last
  pub gathers : (n : ℕ) {k : ℕ} {g : Gathered} → Before unit route message k g → k + suc n ≡ packets unit (length message)
      → gather route.destination unit limit route.to g (cut_from unit route message k (suc n)) ≡ whole message
  unfolding gather cut_from
  gathers zero {k} b e =
      rw (step b ((packets_bounds unit (length message) k pos).0 (omega arith)), eq-eqb (k + 1) (packets unit (length message)) (omega arith))
  gathers (suc n) {k} b e =
      let on : after unit route message k ≡ more (assembled unit route message k) = rw (ne_eqb (k + 1) (packets unit (length message)) (omega arith)) in
      ap (λ (g : Gathered). gather route.destination unit limit route.to g (cut_from unit route message (suc k) (suc n)))
      (step b ((packets_bounds unit (length message) k pos).0 (omega arith)) ∙ on)
      ∙ gathers n going (omega arith)

  gathers_all : (g : Gathered) (n : ℕ) → 0 < n → n ≡ packets unit (length message)
      → gather route.destination unit limit route.to g (cut_from unit route message 0 n) ≡ whole message
  gathers_all g zero some e = absurd (omega arith)
  gathers_all g (suc n) some e = gathers n start (omega arith)

-- THE law: what was cut is gathered
pub gather_cut : (unit limit : ℕ) (route : Route) (message : List ℕ) (g : Gathered) → 0 < unit → 0 < length message → length message ≤ limit
    → gather route.destination unit limit route.to g (cut unit route message) ≡ whole message
unfolding cut
gather_cut unit limit route message g pos some fits =
    gathers_all unit limit route message pos fits g (packets unit (length message))
    ((packets_bounds unit (length message) 0 pos).1 (rw mul-zero some)) refl
