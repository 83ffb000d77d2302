-- What a refusal leaves, for each number. "A refusal changes nothing but what is said here"; "Refusals 30 to 38 change nothing", and 2026-04 adds 39.
-- Last, the numbers that each call can answer. The proofs: `refused_packet`, `flag_column`, `wrong_stores_unchanged`, `refused_call` and `named`
-- (proofs/Refusals).
-- Assumes nothing.
use Rattle.std.specs.Prelude.{ℕ, ◌%◌, ◌^◌, ◌≤◌, ◌≡◌, Bool, true, false, not, ◌&&◌, ◌||◌, List, [], ◌∷◌, None, map, eqb, if◌then◌else◌}
use Rattle.std.specs.Int.Bits.{bit_or}
use Rattle.lent.specs.Bytes.{byte_at, put}
use Rattle.machine.specs.State.{World, slot_at, store_at, with_endpoint, with_store, with_flags, on_slot, on_both}
use Rattle.machine.specs.Receive.{flag_of, received}
use Rattle.machine.specs.Calls.{Call, receive, take!, read, complete, declare, poll, timeout, reset, number, step}
use Rattle.machine.specs.Valid.{Valid, Sound, phased}
use Rattle.machine.specs.History.{has_som, source_of, message_tag_of, bytes_from4, phase_at, receives_from, is_for, kind_of}
use Rattle.machine.specs.Numbers.{right_sizes}
use Rattle.machine.specs.Demands.{is_idle_now}
use Rattle.machine.specs.Types.{Phase, Idle, Slot}

abbrev pub is_one_of : ℕ → List ℕ → Bool
is_one_of n [] = false
is_one_of n (k ∷ ks) = eqb n k || is_one_of n ks

-- ---- receiving

-- the flag of a refusal is set
abbrev pub flagged : World → ℕ → World
flagged w n = with_endpoint w (with_flags w.endpoint (bit_or w.endpoint.flags (flag_of n)))

-- which is, for 10 to 23: none, bits 6, 7, 8, 12, none, 9, none, none, 4, (20: the slot's own), 10, 11, none
abbrev pub FlagColumn : Type 0
FlagColumn =
    map flag_of (10 ∷ 11 ∷ 12 ∷ 13 ∷ 14 ∷ 15 ∷ 16 ∷ 17 ∷ 18 ∷ 19 ∷ 20 ∷ 21 ∷ 22 ∷ 23 ∷ [])
    ≡ 0 ∷ 2 ^ 6 ∷ 2 ^ 7 ∷ 2 ^ 8 ∷ 2 ^ 12 ∷ 0 ∷ 2 ^ 9 ∷ 0 ∷ 0 ∷ 2 ^ 4 ∷ 0 ∷ 2 ^ 10 ∷ 2 ^ 11 ∷ 0 ∷ []

-- a slot that goes to Idle keeps its ticket and its bit 3, loses its pause flag, and holds no response
abbrev pub at_idle : Slot → Slot
at_idle s = record { ticket = s.ticket; paused = false; busy = s.busy; phase = Idle None }

abbrev pub to_idle : World → ℕ → World
to_idle w i = on_slot w i (at_idle (slot_at w.endpoint i))

-- a slot with its bit 3 set
abbrev pub marked : Slot → Slot
marked s = record { ticket = s.ticket; paused = s.paused; busy = true; phase = s.phase }

-- a packet with SOM 1 that is read: an assembly with its source and tag in either slot has ended
abbrev pub slot_ended : List ℕ → Slot → Slot
slot_ended p s = if receives_from (source_of p) (message_tag_of p) s.phase then at_idle s else s

abbrev pub assembly_ended : World → List ℕ → World
assembly_ended w p = if has_som p then with_endpoint w (on_both (slot_ended p) w.endpoint) else w

-- where a command's payload goes: with SOM at the front, without behind the bytes that are there
abbrev pub place_in : List ℕ → Phase → ℕ
place_in p q = if has_som p then 0 else phased 0 (λ a. a.length) (λ r. 0) (λ r. 0) (λ r. 0) q

-- the store of slot i with the packet's payload
abbrev pub stored : World → ℕ → List ℕ → World
stored w i p = with_store (assembly_ended w p) i (put (store_at (assembly_ended w p) i) (place_in p (phase_at w i)) (bytes_from4 p))

-- a packet of a command: NMIMT is not 0; only the first packet has it
abbrev pub is_command : List ℕ → Bool
is_command p = not (has_som p && eqb (kind_of (bytes_from4 p)) 0)

pub data Leaves (w : World) (p : List ℕ) : ℕ → World → Type 0 where
  -- 10 to 14: the flag
  unread : {n : ℕ} → 10 ≤ n → n ≤ 14 → Leaves w p n (flagged w n)
  -- SOM 1, 15 to 18: an assembly with its source and tag has ended, and the flag
  tabled : {n : ℕ} → has_som p ≡ true → 15 ≤ n → n ≤ 18 → Leaves w p n (flagged (assembly_ended w p) n)
  -- 19 of a control primitive: the same; nothing is stored
  unstored : has_som p ≡ true → kind_of (bytes_from4 p) ≡ 0 → Leaves w p 19 (flagged (assembly_ended w p) 19)
  -- 20, where the slot that CSI names is not Idle: the same, and that slot's own bit 3
  busy : (i : ℕ) → has_som p ≡ true → i ≡ byte_at p 5 % 2 → is_idle_now (phase_at (assembly_ended w p) i) ≡ false
      → Leaves w p 20 (on_slot (assembly_ended w p) i (marked (slot_at (assembly_ended w p).endpoint i)))
  -- SOM 0, 21, where no slot is in Receive with this source and tag: the flag
  unknown : has_som p ≡ false → ((i : ℕ) → i ≤ 1 → receives_from (source_of p) (message_tag_of p) (phase_at w i) ≡ false) → Leaves w p 21 (flagged w 21)
  -- 22, 16, 23: the slot in Receive with this source and tag goes to Idle, and the flag
  broken : {n : ℕ} (i : ℕ) → has_som p ≡ false → receives_from (source_of p) (message_tag_of p) (phase_at w i) ≡ true → i ≤ 1
      → is_one_of n (22 ∷ 16 ∷ 23 ∷ []) ≡ true → Leaves w p n (flagged (to_idle w i) n)
  -- 19 of a command: its payload is stored at its place in the slot that it is for, the slot goes to Idle, and the flag
  failed : (i : ℕ) → is_for i p w ≡ true → i ≤ 1 → is_command p ≡ true → Leaves w p 19 (flagged (to_idle (stored w i p) i) 19)

-- any packet, in any sound state: what is answered from 3 on is a refusal, and it leaves what is said of its number
abbrev pub RefusedPacket : Type 0
RefusedPacket = (w : World) (p : List ℕ) → Sound w → 3 ≤ (received w p).answer → Leaves w p (received w p).answer (received w p).world

-- ---- 40, 30 to 39

abbrev pub is_lent : Call → Bool
is_lent (receive p) = true
is_lent (take! i) = false
is_lent (read i) = false
is_lent (complete i t body) = true
is_lent (declare i t can) = false
is_lent (poll buffer) = true
is_lent (timeout i) = false
is_lent reset = false

-- stores of another length: 40 before any other test, and nothing changes
abbrev pub WrongStores : Type 0
WrongStores = (c : Call) (w : World) → is_lent c ≡ true → right_sizes w ≡ false → ((step c w).event ≡ number 40) × ((step c w).world ≡ w)

-- 30 to 39: nothing changes, whatever stores are lent
abbrev pub RefusedCall : Type 0
RefusedCall = (c : Call) (w : World) (n : ℕ) → Valid w.endpoint → (step c w).event ≡ number n → 30 ≤ n → n ≤ 39 → (step c w).world ≡ w

-- ---- "each call ends with an answer named in document 01"

abbrev pub answers : Call → List ℕ
answers (receive p) = 0 ∷ 1 ∷ 2 ∷ 10 ∷ 11 ∷ 12 ∷ 13 ∷ 14 ∷ 15 ∷ 16 ∷ 17 ∷ 18 ∷ 19 ∷ 20 ∷ 21 ∷ 22 ∷ 23 ∷ 40 ∷ []
answers (take! i) = 30 ∷ 31 ∷ 33 ∷ []
answers (read i) = []
answers (complete i t body) = 0 ∷ 30 ∷ 31 ∷ 32 ∷ 34 ∷ 35 ∷ 40 ∷ []
answers (declare i t can) = 0 ∷ 30 ∷ 31 ∷ 32 ∷ 34 ∷ []
answers (poll buffer) = 0 ∷ 36 ∷ 40 ∷ []
answers (timeout i) = 0 ∷ 30 ∷ 37 ∷ []
answers reset = 0 ∷ []

-- a call that answers by number answers with one of its numbers; else a take gives a ticket, the reading call a part and a poll a packet
abbrev pub Named : Type 0
Named = (c : Call) (w : World) (n : ℕ) → Valid w.endpoint → (step c w).event ≡ number n → is_one_of n (answers c) ≡ true
