-- A well-formed message that is cut, at the end that gathers it into one store: its first packet opens it, each packet's payload goes behind those before
-- it, and with the last the message is whole.
-- Assumes nothing.
use Prim.Native.Nat.{ℕ, suc, ◌+◌, ◌*◌, ◌≤◌, ◌<◌}
use mathlib.Core.Path.{◌≡◌, refl, sym, ap, ◌∙◌}
use mathlib.Core.Bool.{Bool, true, false, ◌&&◌}
use mathlib.Core.List.{List, ◌++◌}
use native.Mathlib.Nat.{mul-zero}
use native.Mathlib.Numerals.{add-one}
use native.Mathlib.Omega.{arith}
use lib.Dec.{ltb}
use lib.ListN.{length, take, drop, length-take, length-append, length-drop}
use lib.Seq.{take_all, take_at, get_or-take}
use borrow.Author.Tests.{leb-true, le-ltb, eq-eqb, ne_eqb}
use Rattle.lent.specs.Bytes.{byte_at, put}
use Rattle.lent.proofs.Stores.{put_behind}
use Rattle.mctp.specs.Cut.{packets, payload}
use Rattle.mctp.specs.declared.Route.{Route}
use Rattle.mctp.proofs.Laws.{packets_bounds, last_packet, payload_length, payload_next, header_of, same_self}
use Rattle.mctp.proofs.Gathering.{full}
use Rattle.nvme_mi.specs.Check.{check_right}
use Rattle.opening.specs.Opening.{opened, joined_in}
use Rattle.opening.specs.Formed.{WellFormed}
use Rattle.std.specs.Prelude.{Ok}
use Rattle.opening.specs.declared.First.TheVariants.{Command}
use Rattle.opening.specs.declared.Joined.{Joined}
use Rattle.opening.specs.declared.Joined.TheVariants.{More, Whole}

-- a store with the first n bytes of a message at its front
abbrev pub holding : List ℕ → ℕ → List ℕ → List ℕ
holding m n store = take n m ++ drop n store

pub holding_length : (m : List ℕ) (n : ℕ) (store : List ℕ) → n ≤ length m → n ≤ length store → length (holding m n store) ≡ length store
holding_length m n store h k = simp (length-append, length-take, length-drop) (omega arith)

-- a store with the whole message at its front, read back
pub front_of : (m store : List ℕ) → take (length m) (m ++ drop (length m) store) ≡ m
front_of m store = take_at m (drop (length m) store) (length m) refl

module _ (unit : ℕ) (route : Route) (m : List ℕ) (pos : 0 < unit) where
  -- where packet k's payload ends
  more_size : (k : ℕ) → k + 1 < packets unit (length m) → unit * k + length (payload unit m k) ≡ unit * suc k
  more_size k h =
      let inside : unit * (k + 1) < length m = (packets_bounds unit (length m) (k + 1) pos).0 h in
      rw (payload_length unit m k) (omega arith)

  last_size : (k : ℕ) → k + 1 ≡ packets unit (length m) → unit * k + length (payload unit m k) ≡ length m
  last_size k e =
      let inside : unit * k < length m = (packets_bounds unit (length m) k pos).0 (omega arith) in
      let all : length m ≤ unit * k + unit = leb-true _ _ (sym (last_packet unit (length m) k pos inside) ∙ eq-eqb _ _ e) in
      rw (payload_length unit m k) (omega arith)

  -- packet k's payload behind those before it
  put_next : (store : List ℕ) (k : ℕ) → unit * k ≤ length m
      → put (holding m (unit * k) store) (unit * k) (payload unit m k) ≡ take (unit * suc k) m ++ drop (unit * k + length (payload unit m k)) store
  put_next store k h =
      let n : length (take (unit * k) m) ≡ unit * k = length-take (unit * k) m ∙ omega arith in
      let next : take (unit * k) m ++ payload unit m k ≡ take (unit * suc k) m = payload_next unit m k ∙ ap (λ (x : ℕ). take (unit * x) m) (add-one k) in
      ap (λ (x : ℕ). put (take (unit * k) m ++ drop x store) x (payload unit m k)) (sym n)
      ∙ put_behind (take (unit * k) m) store (payload unit m k)
      ∙ ap (λ (x : ℕ). take (unit * k) m ++ payload unit m k ++ drop (x + length (payload unit m k)) store) n
      ∙ ap (λ (s : List ℕ). s ++ drop (unit * k + length (payload unit m k)) store) next

  -- ---- packet k is not the last

  pub put_more : (store : List ℕ) (k : ℕ) → k + 1 < packets unit (length m)
      → put (holding m (unit * k) store) (unit * k) (payload unit m k) ≡ holding m (unit * suc k) store
  put_more store k h =
      let inside : unit * (k + 1) < length m = (packets_bounds unit (length m) (k + 1) pos).0 h in
      put_next store k (omega arith) ∙ ap (λ (x : ℕ). take (unit * suc k) m ++ drop x store) (more_size k h)

  pub joins_more : {X : Type 0} (f : ℕ → Joined → X) (store : List ℕ) (k : ℕ) → k + 1 < packets unit (length m)
      → f (unit * k + length (payload unit m k)) (joined_in (take (unit * k + length (payload unit m k)) store) (header_of unit route m k).eom) ≡ f (unit * suc k) More
  unfolding joined_in
  joins_more f store k n = rw (ne_eqb (k + 1) (packets unit (length m)) (omega arith), more_size k n) refl

  -- ---- packet k is the last

  pub put_whole : (store : List ℕ) (k : ℕ) → k + 1 ≡ packets unit (length m)
      → put (holding m (unit * k) store) (unit * k) (payload unit m k) ≡ m ++ drop (length m) store
  put_whole store k e =
      let inside : unit * k < length m = (packets_bounds unit (length m) k pos).0 (omega arith) in
      let all : length m ≤ unit * k + unit = leb-true _ _ (sym (last_packet unit (length m) k pos inside) ∙ eq-eqb _ _ e) in
      put_next store k (omega arith)
      ∙ ap (λ (x : ℕ). take (unit * suc k) m ++ drop x store) (last_size k e)
      ∙ ap (λ (s : List ℕ). s ++ drop (length m) store) (take_all (unit * suc k) m (omega arith))

  pub joins_whole : {X : Type 0} (f : ℕ → Joined → X) (store : List ℕ) (k : ℕ) → take (length m) store ≡ m → check_right m ≡ true → k + 1 ≡ packets unit (length m)
      → f (unit * k + length (payload unit m k)) (joined_in (take (unit * k + length (payload unit m k)) store) (header_of unit route m k).eom) ≡ f (length m) Whole
  unfolding joined_in
  joins_whole f store k front c e = rw (eq-eqb (k + 1) (packets unit (length m)) e, last_size k e, front, c) refl

-- ---- the first packet shows what the message is

short_not : (b : Bool) (n k : ℕ) → k ≤ n → (b && ltb n k) ≡ false
short_not true n k h = le-ltb n k h
short_not false n k h = refl

-- its bytes are the message's
pub front_byte : (unit : ℕ) (m : List ℕ) (j : ℕ) → j < unit → byte_at (payload unit m 0) j ≡ byte_at m j
front_byte unit m j h = rw mul-zero (get_or-take unit m j 0 h)

-- a command, for the endpoint; a response, for the requester
pub opens : (unit : ℕ) (ror : Bool) (route : Route) (m : List ℕ) → 8 ≤ unit → WellFormed ror m
    → opened unit ror (header_of unit route m 0) (payload unit m 0) ≡ Ok Command
unfolding opened
opens unit ror route m wide w =
    let some : unit * 0 < length m = rw mul-zero (omega (arith, w.long)) in
    let n : 8 ≤ length (payload unit m 0) = rw (payload_length unit m 0, mul-zero) (omega (arith, w.long)) in
    rw (
      front_byte unit m 0 (omega arith),
      front_byte unit m 1 (omega arith),
      w.typed,
      w.way,
      w.kind,
      full unit (length m) route m (omega arith) (omega arith) 0 some,
      short_not (header_of unit route m 0).eom (length (payload unit m 0)) 8 n,
      same_self ror,
    )
    refl
