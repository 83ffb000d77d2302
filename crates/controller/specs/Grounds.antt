-- The requester's calls flat, in documents 01's and 02's order and words: which number is answered on which ground, the value beside it, and what is
-- left. Numbers and sizes are literal, and no test is borrowed from the definitions. The proofs: `setup_so`, `awaits_so`, `cut_so`, `primitive_so`
-- (proofs/Calls), `received_so` (proofs/Grounds).
-- Assumes nothing.
use Rattle.std.specs.Prelude.{ℕ, ◌+◌, ◌*◌, ◌/◌, ◌%◌, ◌≡◌, Bool, true, false, not, ◌&&◌, ◌||◌, List, [], ◌∷◌, ◌++◌, eqb, leb, ltb, length, take, drop, if◌then◌else◌}
use Rattle.lent.specs.Bytes.{byte_at, is_set, put}
use Rattle.mctp.specs.Setup.{setup_number}
use Rattle.mctp.specs.Cut.{cut, pieces}
use Rattle.nvme_mi.specs.Check.{check_right, with_check}
use Rattle.machine.specs.History.{has_som, source_of, message_tag_of, bytes_from4, over_unit}
use Rattle.machine.specs.Grounds.{has_eom, sequence_of}
use Rattle.controller.specs.State.{Done, Side, Outcome, Valid}
use Rattle.controller.specs.Await.{was_set_up, now_awaits}
use Rattle.controller.specs.Send.{Sent, send_says, cut_to, primitive_to}
use Rattle.controller.specs.Receive.{receive_says, received}
use Rattle.controller.specs.Types.{Awaiting, Nothing, Awaited, Gathering, Requester, Primitive}

-- ---- what is seen of the state

-- the source and tag that are awaited
abbrev pub key_of : Awaiting → List ℕ
key_of Nothing = []
key_of (Awaited k) = k.source ∷ k.tag ∷ []
key_of (Gathering a) = a.source ∷ a.tag ∷ []

-- an assembly: its last sequence number, and the bytes so far
abbrev pub assembly_of : Awaiting → List ℕ
assembly_of Nothing = []
assembly_of (Awaited k) = []
assembly_of (Gathering a) = a.sequence ∷ a.length ∷ []

abbrev pub is_awaited : ℕ → ℕ → Awaiting → Bool
is_awaited source tag Nothing = false
is_awaited source tag (Awaited k) = eqb k.source source && eqb k.tag tag
is_awaited source tag (Gathering a) = eqb a.source source && eqb a.tag tag

-- ---- setup: 38 EID not 8 to 254; 39 unit not 64 to 250; else 0 (`setup_number`). The state beside 38 and 39 is the one for EID 8 and the unit 64;
-- nothing is awaited.

pub record SetUp (eid unit : ℕ) : Type 0 where
  pub number_is : (was_set_up eid unit).answer ≡ setup_number eid unit
  pub eid_is : (was_set_up eid unit).requester.eid ≡ (if eqb (setup_number eid unit) 0 then eid else 8)
  pub unit_is : (was_set_up eid unit).requester.unit ≡ (if eqb (setup_number eid unit) 0 then unit else 64)
  pub key_is : key_of (was_set_up eid unit).requester.awaiting ≡ []

abbrev pub SetupSo : Type 0
SetupSo = (eid unit : ℕ) → SetUp eid unit

-- ---- awaiting: 41 for a tag above 7, and all stays; else 0, and an assembly has ended

pub record Awaits (r : Requester) (source tag : ℕ) (d : Done) : Type 0 where
  pub number_is : d.answer ≡ (if ltb 7 tag then 41 else 0)
  pub eid_is : d.requester.eid ≡ r.eid
  pub unit_is : d.requester.unit ≡ r.unit
  pub key_is : key_of d.requester.awaiting ≡ (if ltb 7 tag then key_of r.awaiting else source ∷ tag ∷ [])
  pub assembly_is : assembly_of d.requester.awaiting ≡ (if ltb 7 tag then assembly_of r.awaiting else [])

abbrev pub AwaitsSo : Type 0
AwaitsSo = (r : Requester) (source tag : ℕ) → Awaits r source tag (now_awaits r source tag)

-- ---- cutting: 41 a size outside 8 to 4,224 or a tag above 7; 36 a buffer shorter than the message with 4 bytes for each packet; else 0, and how many
-- bytes were written

-- the bytes of a message with the headers of its packets
abbrev pub size_of : ℕ → List ℕ → ℕ
size_of unit m = length m + 4 * over_unit unit (length m)

abbrev pub cut_numbers : ℕ → ℕ → List ℕ → List ℕ → ℕ × List ℕ
cut_numbers unit tag m buffer =
    if ltb (length m) 8 || ltb 4224 (length m) || ltb 7 tag then (41, [])
    else if ltb (length buffer) (size_of unit m) then (36, [])
    else (0, size_of unit m ∷ [])

-- the packets, taken from the buffer one after the other: U + 4 bytes each, the last what is left
abbrev pub packets_in : ℕ → List ℕ → Sent → List (List ℕ)
packets_in unit m x = pieces (unit + 4) (over_unit unit (length m)) (take (size_of unit m) x.buffer)

-- so many bytes at the front are what was written, and the bytes behind them stay; where the number is another than 0, all stay
pub record Wrote (n : ℕ × List ℕ) (size : ℕ) (buffer : List ℕ) (x : Sent) : Type 0 where
  pub number_is : send_says x.answer ≡ n
  pub behind : drop size x.buffer ≡ drop size buffer
  pub unwritten : eqb n.0 0 ≡ false → x.buffer ≡ buffer

-- the packets are those of the message: TO 1, source ours, the caller's destination and tag
pub record CutBy (r : Requester) (destination tag : ℕ) (m buffer : List ℕ) (x : Sent) : Type 0 where
  pub wrote : Wrote (cut_numbers r.unit tag m buffer) (size_of r.unit m) buffer x
  pub packets_are : eqb (cut_numbers r.unit tag m buffer).0 0 ≡ true → packets_in r.unit m x ≡ cut r.unit (record { destination = destination; source = r.eid; to = true; tag = tag }) m

abbrev pub CutSo : Type 0
CutSo = (r : Requester) (destination tag : ℕ) (m buffer : List ℕ) → Valid r → CutBy r destination tag m buffer (cut_to r destination tag m buffer)

-- ---- building a control primitive: 41 a tag above 7; 30 a slot above 1; 36 a buffer below 16 bytes; else 0 and 16

abbrev pub primitive_numbers : ℕ → Primitive → List ℕ → ℕ × List ℕ
primitive_numbers tag primitive buffer =
    if ltb 7 tag then (41, [])
    else if ltb 1 primitive.slot then (30, [])
    else if ltb (length buffer) 16 then (36, [])
    else (0, 16 ∷ [])

-- one packet, SOM, EOM and TO set: 84h, the slot as CSI, two zeros, opcode, TAG, CPSP low byte first, check
abbrev pub primitive_packet : ℕ → ℕ → ℕ → Primitive → List ℕ
primitive_packet eid destination tag p =
    (1 ∷ destination ∷ eid ∷ (128 + 64 + 8 + tag) ∷ [])
    ++ with_check (0x84 ∷ p.slot ∷ 0 ∷ 0 ∷ p.opcode ∷ p.tag ∷ p.cpsp % 256 ∷ p.cpsp / 256 % 256 ∷ [])

pub record PrimitiveBy (r : Requester) (destination tag : ℕ) (p : Primitive) (buffer : List ℕ) (x : Sent) : Type 0 where
  pub wrote : Wrote (primitive_numbers tag p buffer) 16 buffer x
  pub packet_is : eqb (primitive_numbers tag p buffer).0 0 ≡ true → take 16 x.buffer ≡ primitive_packet r.eid destination tag p

abbrev pub PrimitiveSo : Type 0
PrimitiveSo = (r : Requester) (destination tag : ℕ) (p : Primitive) (buffer : List ℕ) → Valid r → PrimitiveBy r destination tag p buffer (primitive_to r destination tag p buffer)

-- ---- receiving: the number, and the length beside 1 and 2

-- NMIMT 0
abbrev pub is_control : List ℕ → Bool
is_control m = eqb (byte_at m 1 / 8 % 16) 0

-- a packet of the response that is awaited, whose bytes so far with this packet's are the message
abbrev pub taken_in : List ℕ → List ℕ → ℕ × List ℕ
taken_in p message =
    if not (has_eom p) then (0, [])
    else if not (check_right message) then (19, [])
    else (1, length message ∷ [])

-- SOM 1, m being the payload
abbrev pub first_numbers : Side → List ℕ → List ℕ → ℕ × List ℕ
first_numbers s p m =
    if not (eqb (byte_at m 0) 0x84) then (15, [])
    else if not (has_eom p) && not (eqb (length m) s.requester.unit) then (16, [])
    else if has_eom p && ltb (length m) 8 then (17, [])
    else if not (is_set (byte_at m 1) 7) then (15, [])
    else if is_control m && (not (has_eom p) || not (eqb (length m) 12)) then (18, [])
    else if is_control m && not (check_right m) then (19, [])
    else if not (is_awaited (source_of p) (message_tag_of p) s.requester.awaiting) then (20, [])
    else if is_control m then (2, 12 ∷ [])
    else taken_in p m

-- SOM 0, with what is awaited
abbrev pub later_numbers : Side → List ℕ → List ℕ → Awaiting → ℕ × List ℕ
later_numbers s p m Nothing = (21, [])
later_numbers s p m (Awaited k) = (21, [])
later_numbers s p m (Gathering a) =
    if not (eqb a.source (source_of p) && eqb a.tag (message_tag_of p)) then (21, [])
    else if not (eqb (sequence_of p) ((a.sequence + 1) % 4)) then (22, [])
    else if not (has_eom p) && not (eqb (length m) s.requester.unit) then (16, [])
    else if ltb 4224 (a.length + length m) then (23, [])
    else taken_in p (take a.length s.store ++ m)

abbrev pub receive_numbers : Side → List ℕ → ℕ × List ℕ
receive_numbers s p =
    if not (eqb (length s.store) 4224) then (40, [])
    else if ltb (length p) 5 then (10, [])
    else if ltb (s.requester.unit + 4) (length p) then (11, [])
    else if not (eqb (byte_at p 0 % 16) 1) then (12, [])
    else if not (eqb (byte_at p 1) s.requester.eid) then (13, [])
    else if is_set (byte_at p 3) 3 then (14, [])
    else if has_som p then first_numbers s p (bytes_from4 p)
    else later_numbers s p (bytes_from4 p) s.requester.awaiting

-- ---- and what is left, where the number is n

-- "only answers 1 and 2 [..] end the awaiting"
abbrev pub is_whole : ℕ → Bool
is_whole n = eqb n 1 || eqb n 2

-- where the payload goes: at the front, or behind the bytes so far
abbrev pub place_in : List ℕ → Awaiting → ℕ
place_in p Nothing = 0
place_in p (Awaited k) = 0
place_in p (Gathering a) = if has_som p then 0 else a.length

-- answers 15 to 23 under the awaited source and tag: a packet with SOM has ended the assembly, and so have 22, 16, 23 and 19; with 21 there was none
abbrev pub ends_assembly : Side → List ℕ → ℕ → Bool
ends_assembly s p n = is_whole n || (leb 15 n && (leb n 23 && is_awaited (source_of p) (message_tag_of p) s.requester.awaiting))

abbrev pub assembly_after : Side → List ℕ → ℕ → List ℕ
assembly_after s p n =
    if eqb n 0 then sequence_of p ∷ (place_in p s.requester.awaiting + length (bytes_from4 p)) ∷ []
    else if ends_assembly s p n then []
    else assembly_of s.requester.awaiting

-- "A refused packet writes nothing, except that a command refused with 19 leaves its payload stored": here, one of a response that is not control
abbrev pub is_stored : List ℕ → ℕ → Bool
is_stored p n = leb n 2 || (eqb n 19 && not (has_som p && is_control (bytes_from4 p)))

pub record Left (s : Side) (p : List ℕ) (n : ℕ × List ℕ) (o : Outcome) : Type 0 where
  pub number_is : receive_says o.answer ≡ n
  pub eid_is : o.side.requester.eid ≡ s.requester.eid
  pub unit_is : o.side.requester.unit ≡ s.requester.unit
  pub key_is : key_of o.side.requester.awaiting ≡ (if is_whole n.0 then [] else key_of s.requester.awaiting)
  pub assembly_is : assembly_of o.side.requester.awaiting ≡ assembly_after s p n.0
  pub store_is : o.side.store ≡ (if is_stored p n.0 then put s.store (place_in p s.requester.awaiting) (bytes_from4 p) else s.store)

-- DEMAND 1, at the controller's end: each answer comes exactly on its stated ground, and the state and bytes after it are the stated ones
abbrev pub ReceivedSo : Type 0
ReceivedSo = (s : Side) (p : List ℕ) → Valid s.requester → Left s p (receive_numbers s p) (received s p)
