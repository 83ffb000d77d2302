-- Laws of `put`: the store keeps its length, and what was put can be read again; and of a part that runs to the end.
-- Assumes nothing.
use mathlib.Core.Path.{◌≡◌, refl, sym}
use mathlib.Core.List.{List, ◌++◌, append-nil, append_assoc}
use Prim.Native.Nat.{ℕ, ◌+◌, ◌-◌, ◌≤◌}
use native.Mathlib.Omega.{arith}
use lib.ListN.{length, take, drop, length-append, length-take, length-drop, drop_of_length-le}
use lib.Seq.{take_at, take-length, take-append_seam, drop-append-add, drop-drop}
use Rattle.lent.specs.Bytes.{put}

pub length_put : (store : List ℕ) (at : ℕ) (bytes : List ℕ) → at + length bytes ≤ length store → length (put store at bytes) ≡ length store
length_put store at bytes h = simp (length-append, length-take, length-drop) (omega arith)

-- the front of a store in which bytes were put at its start
pub take_put : (store bytes : List ℕ) → take (length bytes) (put store 0 bytes) ≡ bytes
take_put store bytes = take_at bytes (drop (0 + length bytes) store) (length bytes) refl

-- bytes put behind a list that stands at the front of a store
pub put_behind : (front store bytes : List ℕ) → put (front ++ drop (length front) store) (length front) bytes ≡ front ++ bytes ++ drop (length front + length bytes) store
put_behind front store bytes = rw (take-append_seam, drop-append-add, drop-drop)

-- a part that runs to the end
pub rest : (k : ℕ) (s : List ℕ) → take (length s - k) (drop k s) ≡ drop k s
rest k s = rw (sym (length-drop k s), take-length (drop k s))

-- bytes written to the front of a part that runs to the end
pub put_part : (store bytes : List ℕ) (at : ℕ)
    → take at store ++ (bytes ++ drop (length bytes) (take (length store - at) (drop at store)) ++ drop (length store - at) (drop at store)) ≡ put store at bytes
put_part store bytes at =
    let none : length (drop at store) ≤ length store - at = omega (arith, length-drop at store) in
    rw (rest at store, drop_of_length-le (drop at store) none, append-nil, drop-drop, append_assoc)
