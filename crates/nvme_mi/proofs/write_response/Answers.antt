-- Header and body stand at the front of the store, so the check is of these, and what stands behind the check is the store's own.
use Rattle.std.proofs.Common.{◌≡◌, ap, ◌∙◌, ℕ, ◌+◌, ◌≤◌, List, ◌++◌, length, take, drop, arith, length-append}
use native.Mathlib.Nat.{zero-add}
use lib.Seq.{sets, sets-eq, take-append_seam, drop-append-add, drop-drop}
use Rattle.lent.specs.Bytes.{put}
use Rattle.nvme_mi.specs.Check.{with_check}
use Rattle.nvme_mi.specs.Response.{response_header, response}
use Rattle.nvme_mi.proofs.write_response.Goals as goal

-- header and body at the front of a store
placed : (header store body : List ℕ) → length header + length body ≤ length store
    → put (sets store 0 header) (length header) body ≡ header ++ body ++ drop (length header + length body) store
placed header store body h =
    let e : sets store 0 header ≡ header ++ drop (length header) store
    = sets-eq header store 0 (omega arith) ∙ ap (λ (k : ℕ). header ++ drop k store) (zero-add (length header)) in
    rw (
      e,
      take-append_seam header (drop (length header) store),
      drop-append-add header (drop (length header) store) (length body),
      drop-drop (length body) (length header) store,
    )

-- the check of n bytes at the front
checked : (front rest store : List ℕ) (n : ℕ) → length front ≡ n → store ≡ front ++ rest
    → with_check (take n store) ++ drop (n + 4) store ≡ with_check front ++ drop 4 rest
checked front rest store n e p = rw (p, ← e, take-append_seam front rest, drop-append-add front rest 4)

pub returns : goal.returns
unfolding response
returns c =
    let header : List ℕ = response_header c.args.nmimt c.args.csi in
    let body : List ℕ = c.args.body.now in
    let store : List ℕ = c.args.store.now in
    let e : 4 + length body + 4 ≡ length body + 8 = omega arith in
    c.write_check.ensures
    ∙ checked (header ++ body) (drop (4 + length body) store) _ (length body + 4) (simp length-append (omega arith)) (c.put.ensures ∙ placed header store body (omega arith))
    ∙ rw (drop-drop 4 (4 + length body) store, e)
