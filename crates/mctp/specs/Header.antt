-- The packet header of document 01, "Bytes on the wire": byte 0 low four bits = version 1 (high four ignored, sent as zero); byte 1
-- destination EID; byte 2 source EID; byte 3: bit 7 SOM, bit 6 EOM, bits 5:4 sequence, bit 3 TO, bits 2:0 tag. Then 1 to `unit`
-- payload bytes.
-- Assumes nothing.
use Rattle.std.specs.Prelude.{ℕ, ◌+◌, ◌*◌, ◌/◌, ◌%◌, Bool, true, false, not, List, [], ◌∷◌, eqb, ltb, length, drop, if◌then◌else◌}
use Rattle.lent.specs.Bytes.{byte_at, is_set}
use Rattle.mctp.specs.declared.Header.{Header}
use Rattle.std.specs.Prelude.{Result, Ok, Err}

-- ---- the answer numbers of the first table of "Receiving"

abbrev pub too_short : ℕ
too_short = 10

abbrev pub too_long : ℕ
too_long = 11

abbrev pub wrong_version : ℕ
wrong_version = 12

abbrev pub not_ours : ℕ
not_ours = 13

abbrev pub wrong_direction : ℕ
wrong_direction = 14

-- ---- reading

abbrev pub bit : Bool → ℕ → ℕ
bit b value = if b then value else 0

abbrev pub same : Bool → Bool → Bool
same true b = b
same false b = not b

-- the fields of a packet's header
abbrev pub fields : List ℕ → Header
fields packet =
    record {
      source = byte_at packet 2;
      som = is_set (byte_at packet 3) 7;
      eom = is_set (byte_at packet 3) 6;
      sequence = byte_at packet 3 / 16 % 4;
      tag = byte_at packet 3 % 8;
    }

-- a packet for the endpoint `eid`, with payloads of at most `unit` bytes and TO as `to`: refused by number, or its fields
unfoldable pub read_header : ℕ → ℕ → Bool → List ℕ → Result Header ℕ
read_header eid unit to packet =
    if ltb (length packet) 5 then Err too_short
    else if ltb (unit + 4) (length packet) then Err too_long
    else if not (eqb (byte_at packet 0 % 16) 1) then Err wrong_version
    else if not (eqb (byte_at packet 1) eid) then Err not_ours
    else if not (same (is_set (byte_at packet 3) 3) to) then Err wrong_direction
    else Ok (fields packet)

-- document 01's number for what reading a header answers, and the values beside it: behind 0, read, the fields
abbrev pub read_says : Result Header ℕ → ℕ × List ℕ
read_says (Err n) = (n, [])
read_says (Ok h) = (0, h.source ∷ bit h.som 1 ∷ bit h.eom 1 ∷ h.sequence ∷ h.tag ∷ [])

-- the first table of "Receiving" in numbers, n being the packet's whole length: 10 n below 5; 11 n above `unit` + 4; 12 version not 1; 13
-- destination is not ours; 14 TO is another. Else the fields: source, SOM, EOM, sequence, tag.
abbrev pub header_numbers : ℕ → ℕ → Bool → List ℕ → ℕ × List ℕ
header_numbers eid unit to packet =
    if ltb (length packet) 5 then (10, [])
    else if ltb (unit + 4) (length packet) then (11, [])
    else if not (eqb (byte_at packet 0 % 16) 1) then (12, [])
    else if not (eqb (byte_at packet 1) eid) then (13, [])
    else if not (same (is_set (byte_at packet 3) 3) to) then (14, [])
    else (0, byte_at packet 2 ∷ bit (is_set (byte_at packet 3) 7) 1 ∷ bit (is_set (byte_at packet 3) 6) 1 ∷ byte_at packet 3 / 16 % 4 ∷ byte_at packet 3 % 8 ∷ [])

-- the payload: the bytes from byte 4 on
abbrev pub payload_of : List ℕ → List ℕ
payload_of packet = drop 4 packet

-- ---- writing

-- the sequence number's two bits and the tag's three are taken
abbrev pub header_bytes : ℕ → ℕ → Bool → Bool → ℕ → Bool → ℕ → List ℕ
header_bytes destination source som eom sequence to tag =
    1 ∷ destination ∷ source ∷ (bit som 128 + bit eom 64 + sequence % 4 * 16 + bit to 8 + tag % 8) ∷ []
