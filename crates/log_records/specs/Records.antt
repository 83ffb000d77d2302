-- The bytes of "The log program": which are a record, and the line that answers one.
-- Assumes nothing.
use Rattle.std.specs.Prelude.{ℕ, ◌+◌, ◌*◌, ◌/◌, ◌%◌, Bool, not, ◌&&◌, List, [], ◌∷◌, ◌++◌, eqb, leb, ltb, length, if◌then◌else◌, Option, Some, None, Result, Ok, Err}
use Rattle.lent.specs.Bytes.{byte_at}
use Rattle.log_records.specs.declared.BadRecord.{BadRecord}
use Rattle.log_records.specs.declared.Tag.{Tag}
use Rattle.log_records.specs.declared.Tag.TheVariants.{Packet, Poll, Timeout, Take, Complete, Reset}
use Rattle.log_records.specs.declared.Head.{Head}

-- ---- records: one-byte tag, two-byte length (low first), bytes

-- the longest record's bytes, without tag and length
abbrev pub longest : ℕ
longest = 4300

abbrev pub bad_record : BadRecord
bad_record = record {}

-- the tag that a first byte says
unfoldable pub tag_of : ℕ → Result Tag BadRecord
tag_of n =
    if eqb n 1 then Ok Packet
    else if eqb n 2 then Ok Poll
    else if eqb n 3 then Ok Timeout
    else if eqb n 4 then Ok Take
    else if eqb n 5 then Ok Complete
    else if eqb n 6 then Ok Reset
    else Err bad_record

-- a tag, and a length that a record with this tag may have
abbrev pub is_record : Tag → ℕ → Bool
is_record Packet n = leb n longest
is_record Poll n = eqb n 0
is_record Timeout n = eqb n 1
is_record Take n = eqb n 1
is_record Complete n = leb 1 n && leb n longest
is_record Reset n = eqb n 0

-- tag and length
abbrev pub head_size : ℕ
head_size = 3

abbrev pub length_of : List ℕ → ℕ
length_of bytes = byte_at bytes 1 + byte_at bytes 2 * 256

abbrev pub head : Tag → ℕ → Head
head tag n = record { tag = tag; size = n }

-- three bytes or more, by the tag: no record, bytes are missing, or a whole record's tag and length
abbrev pub headed_by : List ℕ → Result Tag BadRecord → Result (Option Head) BadRecord
headed_by bytes (Err e) = Err e
headed_by bytes (Ok tag) =
    if not (is_record tag (length_of bytes)) then Err bad_record
    else if ltb (length bytes) (head_size + length_of bytes) then Ok None
    else Ok (Some (head tag (length_of bytes)))

-- what stands at the front of the bytes that are not yet read: bytes are missing, no record, or a whole record's tag and length
unfoldable pub headed : List ℕ → Result (Option Head) BadRecord
unfolding tag_of
headed bytes =
    if ltb (length bytes) head_size then Ok None
    else headed_by bytes (tag_of (byte_at bytes 0))

-- ---- lines

abbrev pub newline : ℕ
newline = 10

-- a number below 1,000 in decimal
abbrev pub decimal : ℕ → List ℕ
decimal n =
    if ltb n 10 then (48 + n) ∷ []
    else if ltb n 100 then (48 + n / 10) ∷ (48 + n % 10) ∷ []
    else (48 + n / 100) ∷ (48 + n / 10 % 10) ∷ (48 + n % 10) ∷ []

-- 0 to 9, a to f
abbrev pub hex_digit : ℕ → ℕ
hex_digit d = if ltb d 10 then 48 + d else 87 + d

-- two digits for each byte, the high half first
abbrev pub hex : List ℕ → List ℕ
hex [] = []
hex (b ∷ bytes) = hex_digit (b / 16) ∷ hex_digit (b % 16) ∷ hex bytes

abbrev pub number_line : ℕ → List ℕ
number_line n = decimal n ++ (newline ∷ [])

-- a number, a space, the packet
abbrev pub packet_line : ℕ → List ℕ → List ℕ
packet_line n packet = decimal n ++ (32 ∷ (hex packet ++ (newline ∷ [])))

-- "01's cases and log keep U 64": the log program's own unit, and its longest packet
abbrev pub log_unit : ℕ
log_unit = 64

abbrev pub packet_room : ℕ
packet_room = log_unit + 4

-- room for every line: that of the longest packet, a number, a space, two digits a byte and the newline
abbrev pub line_room : ℕ
line_room = 2 * packet_room + 3
