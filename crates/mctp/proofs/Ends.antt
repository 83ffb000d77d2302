-- A message's packets end to end: how many bytes they have, what one more adds, and that the message's packets are found in them again.
-- Assumes nothing.
use Prim.Native.Nat.{ℕ, zero, suc, min, ◌+◌, ◌-◌, ◌*◌, ◌≤◌, ◌<◌}
use native.Mathlib.Nat.{mul-zero, zero-add}
use native.Mathlib.Omega.{arith}
use mathlib.Core.Path.{◌≡◌, refl, sym, ap, ◌∙◌}
use mathlib.Core.List.{List, [], ◌∷◌, ◌++◌, append-nil, append_assoc}
use lib.ListN.{length, take, length-append}
use lib.Seq.{take_at, drop_at, take_all}
use Rattle.mctp.specs.Cut.{packets, packet, cut_from, cut, end_to_end, pieces}
use Rattle.mctp.specs.declared.Route.{Route}
use Rattle.mctp.proofs.Laws.{packets_bounds, packets_cover, payload_length}

pub packet_length : (unit : ℕ) (route : Route) (m : List ℕ) (k : ℕ) → length (packet unit route m k) ≡ 4 + min unit (length m - unit * k)
unfolding packet
packet_length unit route m k = let n = payload_length unit m k in omega arith

module _ (unit : ℕ) (route : Route) (m : List ℕ) where
  -- ---- one packet more

  more_from : (n k : ℕ) → end_to_end (cut_from unit route m k (suc n)) ≡ end_to_end (cut_from unit route m k n) ++ packet unit route m (k + n)
  unfolding cut_from
  more_from zero k = let e : k + 0 ≡ k = omega arith in rw e (append-nil (packet unit route m k))
  more_from (suc n) k =
      let e : suc k + n ≡ k + suc n = omega arith in
      ap (λ (s : List ℕ). packet unit route m k ++ s) (more_from n (suc k)) ∙ rw e (sym (append_assoc (packet unit route m k) (end_to_end (cut_from unit route m (suc k) n)) (packet unit route m (k + suc n))))

  pub one_more : (k : ℕ) → end_to_end (cut_from unit route m 0 (suc k)) ≡ end_to_end (cut_from unit route m 0 k) ++ packet unit route m k
  one_more k = more_from k 0 ∙ ap (λ (i : ℕ). end_to_end (cut_from unit route m 0 k) ++ packet unit route m i) (zero-add k)

  -- ---- how many bytes

  pub ends_length : (k : ℕ) → length (end_to_end (cut_from unit route m 0 k)) ≡ min (unit * k) (length m) + 4 * k
  ends_length zero = unfold cut_from in (rw mul-zero (omega arith))
  ends_length (suc k) =
      let e : unit * suc k ≡ unit * k + unit = omega arith in
      rw (one_more k, length-append) (omega (arith, ends_length k, packet_length unit route m k))

  pub cut_length : 0 < unit → length (end_to_end (cut unit route m)) ≡ length m + 4 * packets unit (length m)
  unfolding cut
  cut_length pos = rw (ends_length (packets unit (length m))) (omega (arith, packets_cover unit (length m) pos))

  -- ---- the packets, taken one after the other

  one_piece : (p : List ℕ) → length p ≤ unit + 4 → take (unit + 4) (p ++ []) ≡ p
  one_piece p h = ap (take (unit + 4)) (append-nil p) ∙ take_all (unit + 4) p h

  full_piece : (p rest : List ℕ) (ps : List (List ℕ)) (n : ℕ) → length p ≡ unit + 4 → pieces (unit + 4) n rest ≡ ps → pieces (unit + 4) (suc n) (p ++ rest) ≡ p ∷ ps
  full_piece p rest ps n h e = rw (take_at p rest (unit + 4) h, drop_at p rest (unit + 4) h, e) refl

  pieces_from : 0 < unit → (n k : ℕ) → k + n ≡ packets unit (length m) → pieces (unit + 4) n (end_to_end (cut_from unit route m k n)) ≡ cut_from unit route m k n
  unfolding cut_from
  pieces_from pos zero k e = refl
  pieces_from pos (suc zero) k e =
      let n = packet_length unit route m k in
      ap (λ (p : List ℕ). p ∷ []) (one_piece (packet unit route m k) (omega arith))
  pieces_from pos (suc (suc n)) k e =
      let inside : unit * (k + 1) < length m = (packets_bounds unit (length m) (k + 1) pos).0 (omega arith) in
      let full : length (packet unit route m k) ≡ unit + 4 = packet_length unit route m k ∙ omega arith in
      full_piece (packet unit route m k) (end_to_end (cut_from unit route m (suc k) (suc n))) (cut_from unit route m (suc k) (suc n)) (suc n) full
      (pieces_from pos (suc n) (suc k) (omega arith))

  pub pieces_cut : 0 < unit → pieces (unit + 4) (packets unit (length m)) (end_to_end (cut unit route m)) ≡ cut unit route m
  unfolding cut
  pieces_cut pos = pieces_from pos (packets unit (length m)) 0 (omega arith)
