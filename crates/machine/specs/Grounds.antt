-- "Receiving, in this order", flat: which number receiving answers, row by row in the document's order and words, from the packet's bytes, the
-- EID, the unit and what is seen of both slots. The proof: `grounds` (proofs/Grounds).
-- Assumes nothing.
use Rattle.std.specs.Prelude.{ℕ, ◌+◌, ◌/◌, ◌%◌, ◌≡◌, Bool, not, ◌&&◌, ◌||◌, List, ◌++◌, None, eqb, ltb, length, take, if◌then◌else◌}
use Rattle.lent.specs.Bytes.{byte_at, is_set}
use Rattle.nvme_mi.specs.Check.{check_right}
use Rattle.machine.specs.State.{World, store_at}
use Rattle.machine.specs.Receive.{received}
use Rattle.machine.specs.Valid.{phased, Valid}
use Rattle.machine.specs.History.{has_som, source_of, message_tag_of, bytes_from4, phase_at, receives_from, unit_of}
use Rattle.machine.specs.Numbers.{right_sizes}
use Rattle.machine.specs.Demands.{is_idle_now}
use Rattle.machine.specs.Types.{Assembly, Phase, Idle}

-- ---- a packet's bits

abbrev pub has_eom : List ℕ → Bool
has_eom p = is_set (byte_at p 3) 6

abbrev pub sequence_of : List ℕ → ℕ
sequence_of p = byte_at p 3 / 16 % 4

-- ---- what is answered to a command's packet that is taken in: 0 more to come, 1 command complete, 19 check wrong

abbrev pub taken_in : List ℕ → List ℕ → ℕ
taken_in p message =
    if not (has_eom p) then 0
    else if not (check_right message) then 19
    else 1

-- ---- SOM 1: the second table, m being the payload

-- the slot's phase, once an assembly with this source and tag has ended
abbrev pub phase_found : World → List ℕ → ℕ → Phase
phase_found w p i = if receives_from (source_of p) (message_tag_of p) (phase_at w i) then Idle None else phase_at w i

-- NMIMT 0
abbrev pub control_number : List ℕ → List ℕ → ℕ
control_number p m =
    if not (has_eom p) || not (eqb (length m) 12) then 18
    else if not (check_right m) then 19
    else 2

abbrev pub first_number : World → List ℕ → List ℕ → ℕ
first_number w p m =
    if not (eqb (byte_at m 0) 0x84) then 15
    else if not (has_eom p) && not (eqb (length m) (unit_of w)) then 16
    else if has_eom p && ltb (length m) 8 then 17
    else if is_set (byte_at m 1) 7 then 15
    else if eqb (byte_at m 1 / 8 % 16) 0 then control_number p m
    else if not (is_idle_now (phase_found w p (byte_at m 1 % 2))) then 20
    else taken_in p m

-- ---- SOM 0

-- slot i is in Receive with this source and tag, with the assembly a
abbrev pub join_number : World → List ℕ → List ℕ → ℕ → Assembly → ℕ
join_number w p m i a =
    if not (eqb (sequence_of p) ((a.sequence + 1) % 4)) then 22
    else if not (has_eom p) && not (eqb (length m) (unit_of w)) then 16
    else if ltb 4224 (a.length + length m) then 23
    else taken_in p (take a.length (store_at w i) ++ m)

-- slot i's row, where it is in Receive with this source and tag; else the other's
abbrev pub join_or : World → List ℕ → ℕ → ℕ → ℕ
join_or w p i other =
    if receives_from (source_of p) (message_tag_of p) (phase_at w i)
    then phased 21 (λ a. join_number w p (bytes_from4 p) i a) (λ r. 21) (λ r. 21) (λ r. 21) (phase_at w i)
    else other

-- ---- the whole

abbrev pub receive_number : World → List ℕ → ℕ
receive_number w p =
    if not (right_sizes w) then 40
    else if ltb (length p) 5 then 10
    else if ltb (unit_of w + 4) (length p) then 11
    else if not (eqb (byte_at p 0 % 16) 1) then 12
    else if not (eqb (byte_at p 1) w.endpoint.eid) then 13
    else if not (is_set (byte_at p 3) 3) then 14
    else if has_som p then first_number w p (bytes_from4 p)
    else join_or w p 0 (join_or w p 1 21)

-- DEMAND 1, of receiving: each answer comes exactly on its stated ground
abbrev pub Grounds : Type 0
Grounds = (w : World) (p : List ℕ) → Valid w.endpoint → (received w p).answer ≡ receive_number w p
