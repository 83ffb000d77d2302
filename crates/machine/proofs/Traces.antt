-- What a call adds to the history of a slot, by cases: to its command and its response, and to what was sent of it.
-- Assumes nothing.
use Prim.Native.Nat.{ℕ}
use mathlib.Core.Path.{◌≡◌, refl, ap}
use mathlib.Core.Bool.{Bool, true, not, ◌&&◌}
use mathlib.Core.List.{List}
use lib.Dec.{eqb}
use borrow.Author.Tests.{eqb-true}
use Rattle.std.proofs.lemmas.Bool.{and_parts}
use Rattle.lent.proofs.Choice.{if_ind}
use Rattle.machine.specs.State.{World}
use Rattle.machine.specs.Calls.{Call, receive, take!, read, complete, declare, poll, timeout, reset, Event, number, given, part_read, handed_out}
use Rattle.machine.specs.History.{Trace, is_transmit, is_for, is_packet_of, gaining, entering, completing, taking, declaring, commanded, sending, transmitted}
use Rattle.machine.specs.Types.{Ticket, Phase}

-- the call c, which answered v, makes of slot i's trace l another one
pub data Adds (i : ℕ) (c : Call) (w : World) (v : Event) (l : Trace) : Trace → Type 0 where
  nothing : Adds i c w v l l
  a_payload : (p : List ℕ) → c ≡ receive p → v ≡ number 0 → is_for i p w ≡ true → Adds i c w v l (gaining p l)
  an_entry : (p : List ℕ) → c ≡ receive p → v ≡ number 1 → is_for i p w ≡ true → Adds i c w v l (entering i p l)
  a_take : (t : Ticket) → c ≡ take! i → v ≡ given t → Adds i c w v l (taking l)
  a_completion : (t : Ticket) (body : List ℕ) → c ≡ complete i t body → v ≡ number 0 → Adds i c w v l (completing i body l)
  a_declaration : (t : Ticket) (can : Bool) → c ≡ declare i t can → v ≡ number 0 → Adds i c w v l (declaring can l)

pub adds : (i : ℕ) (c : Call) (w : World) (v : Event) (l : Trace) → Adds i c w v l (commanded i c w v l)
adds i (receive p) w (number n) l =
    if_ind (Adds i (receive p) w (number n) l) (eqb n 0 && is_for i p w)
    (λ k. let q = and_parts (eqb n 0) (is_for i p w) k in a_payload p refl (ap number (eqb-true n 0 q.0)) q.1)
    (λ _.
    if_ind (Adds i (receive p) w (number n) l) (eqb n 1 && is_for i p w)
    (λ k. let q = and_parts (eqb n 1) (is_for i p w) k in an_entry p refl (ap number (eqb-true n 1 q.0)) q.1) (λ _. nothing))
adds i (receive p) w (given t) l = nothing
adds i (receive p) w (part_read s) l = nothing
adds i (receive p) w (handed_out s) l = nothing
adds i (take! j) w (number n) l = nothing
adds i (take! j) w (given t) l = if_ind (Adds i (take! j) w (given t) l) (eqb j i) (λ k. a_take t (ap take! (eqb-true j i k)) refl) (λ _. nothing)
adds i (take! j) w (part_read s) l = nothing
adds i (take! j) w (handed_out s) l = nothing
adds i (read j) w v l = nothing
adds i (complete j t body) w (number n) l =
    if_ind (Adds i (complete j t body) w (number n) l) (eqb n 0 && eqb j i)
    (λ k. let q = and_parts (eqb n 0) (eqb j i) k in a_completion t body (ap (λ (x : ℕ). complete x t body) (eqb-true j i q.1)) (ap number (eqb-true n 0 q.0)))
    (λ _. nothing)
adds i (complete j t body) w (given x) l = nothing
adds i (complete j t body) w (part_read s) l = nothing
adds i (complete j t body) w (handed_out s) l = nothing
adds i (declare j t can) w (number n) l =
    if_ind (Adds i (declare j t can) w (number n) l) (eqb n 0 && eqb j i)
    (λ k. let q = and_parts (eqb n 0) (eqb j i) k in a_declaration t can (ap (λ (x : ℕ). declare x t can) (eqb-true j i q.1)) (ap number (eqb-true n 0 q.0)))
    (λ _. nothing)
adds i (declare j t can) w (given x) l = nothing
adds i (declare j t can) w (part_read s) l = nothing
adds i (declare j t can) w (handed_out s) l = nothing
adds i (poll buffer) w v l = nothing
adds i (timeout j) w v l = nothing
adds i reset w v l = nothing

-- packets that leave change what was sent, and nothing else
pub sent_cases : (P : Trace → Type 0) (p q : Phase) (v : Event) (l : Trace) → P l → ((n : ℕ) (s : List ℕ) → P (sending l n s)) → P (transmitted p q v l)
sent_cases P p q v l k f =
    if_ind P (not (is_transmit p) && is_transmit q) (λ _. f _ _) (λ _. if_ind P (is_packet_of p q v) (λ _. f _ _) (λ _. k))
