-- A control primitive by its bytes: what receiving tests is what the document says of them.
-- Assumes nothing.
use Rattle.std.specs.Prelude.{Ok}
use Prim.Native.Nat.{ℕ}
use mathlib.Core.Path.{◌≡◌, refl}
use mathlib.Core.Bool.{Bool, true, false, not}
use mathlib.Core.List.{List, [], ◌∷◌}
use native.Mathlib.Omega.{arith}
use lib.Dec.{eqb}
use lib.ListN.{length, length-drop}
use borrow.Author.Tests.{eq-eqb, eqb-true, not-true}
use Rattle.lent.specs.Bytes.{byte_at, is_set}
use Rattle.lent.proofs.Choice.{if_second, differ}
use Rattle.mctp.specs.Header.{payload_of}
use Rattle.nvme_mi.specs.Message.{message_header, control_fault}
use Rattle.nvme_mi.specs.declared.MessageHeader.{MessageHeader}
use Rattle.machine.specs.State.{World}
use Rattle.machine.specs.Wire.{opcode_of, no_parameter}
use Rattle.machine.specs.History.{bytes_from4, is_control, is_primitive}
use Rattle.machine.proofs.Receiving.{read_facts, Controls}
use Rattle.machine.proofs.Invariant.{each}

-- ---- from what receiving tests to the bytes

pub is_control_lem : (w : World) (p : List ℕ) → Controls w p → is_control w.endpoint.eid p ≡ true
is_control_lem w p c =
    let r = read_facts w.endpoint.eid w.endpoint.unit p c.read_so in
    let n : length p ≡ 16 = omega (arith, rw (length-drop 4 p) at c.twelve) in
    rw (eq-eqb (length p) 16 n, r.version, r.ours, c.som, c.eom, r.direction, c.typed, c.request, c.kind, c.right) refl

unfaulted : (h : MessageHeader) (opcode : ℕ) (none_given : Bool) → control_fault h opcode none_given ≡ Ok tt → (h.meb ≡ false) × (h.ciap ≡ false)
unfolding control_fault
unfaulted h opcode none_given e =
    let a = if_second h.meb (λ k. differ (cc k)) e in
    let b = if_second h.ciap (λ k. differ (cc k)) a.1 in
    (a.0, b.0)

pub is_primitive_lem : (w : World) (p : List ℕ) → Controls w p → control_fault (message_header (payload_of p)) (opcode_of (payload_of p)) (no_parameter (payload_of p)) ≡ Ok tt
    → is_primitive (opcode_of (payload_of p)) w.endpoint.eid p ≡ true
is_primitive_lem w p c f =
    let u = unfaulted (message_header (payload_of p)) (opcode_of (payload_of p)) (no_parameter (payload_of p)) f in
    rw (is_control_lem w p c, u.0, u.1, eq-eqb (byte_at (payload_of p) 4) (byte_at (payload_of p) 4) refl) refl

-- ---- what the bytes of a primitive that acts say

pub record Acting (opcode eid : ℕ) (p : List ℕ) : Type 0 where
  pub whole : is_control eid p ≡ true
  pub meb : is_set (byte_at (bytes_from4 p) 2) 0 ≡ false
  pub ciap : is_set (byte_at (bytes_from4 p) 2) 1 ≡ false
  pub opcode_is : byte_at (bytes_from4 p) 4 ≡ opcode

pub acting : (opcode eid : ℕ) (p : List ℕ) → is_primitive opcode eid p ≡ true → Acting opcode eid p
acting opcode eid p h =
    let k = each (is_control eid p ∷ not (is_set (byte_at (bytes_from4 p) 2) 0) ∷ not (is_set (byte_at (bytes_from4 p) 2) 1) ∷ eqb (byte_at (bytes_from4 p) 4) opcode ∷ []) h in
    record { whole = k.0; meb = not-true _ k.1.0; ciap = not-true _ k.1.1.0; opcode_is = eqb-true _ _ k.1.1.1.0 }
