-- The marked examples of "Examples from the bench", as one table under a single statement. Each run starts at setup, with EID 8 and the unit
-- 64 ("01's cases and log keep U 64"), and uses real packets; their checks are literals, computed by another program.
-- Assumes nothing.
use Rattle.std.specs.Prelude.{ℕ, ◌-◌, ◌≡◌, refl, List, [], ◌∷◌, ◌++◌, map, length, take, drop, replicate}
use Rattle.crc32c.specs.Crc32c.{crc32c, reflect, register, steps, step}
use Rattle.mctp.specs.Header.{read_header}
use Rattle.mctp.specs.Cut.{packet as cut_packet}
use Rattle.mctp.specs.Gather.{join_refusal}
use Rattle.nvme_mi.specs.Message.{command_fault, control_fault}
use Rattle.nvme_mi.specs.Check.{check_right, with_check}
use Rattle.nvme_mi.specs.Response.{response}
use Rattle.machine.specs.State.{ticket}
use Rattle.machine.specs.Calls.{Call, receive, take!, complete, poll, Event, number, given, part_read, handed_out, begin, events}

-- ---- packets, from EID 9 to EID 8

-- byte 3 of a packet, then its payload
abbrev pub packet : ℕ → List ℕ → Call
packet byte3 payload = receive (1 ∷ 8 ∷ 9 ∷ byte3 ∷ payload)

-- a command in one packet under tag 1 (SOM, EOM, sequence 0, TO): its byte 1, its length, its check
abbrev pub command : ℕ → ℕ → List ℕ → Call
command byte1 n check = packet 0xC9 (0x84 ∷ byte1 ∷ 0 ∷ 0 ∷ (replicate (n - 8) 0 ++ check))

abbrev pub mi_20 : Call
mi_20 = command 0x08 20 (0xE2 ∷ 0x00 ∷ 0x06 ∷ 0x07 ∷ [])

abbrev mi_19 : Call
mi_19 = command 0x08 19 (0x94 ∷ 0xBB ∷ 0x38 ∷ 0x49 ∷ [])

abbrev pub nmimt_3 : Call
nmimt_3 = command 0x18 20 (0xD4 ∷ 0xE6 ∷ 0x80 ∷ 0x63 ∷ [])

-- an MI command of 65 bytes: 64 bytes with SOM and sequence 3, then its last byte with EOM and the sequence number given
abbrev first_of_two : Call
first_of_two = packet 0xB9 (0x84 ∷ 0x08 ∷ 0 ∷ 0 ∷ (replicate 57 0 ++ (0x5B ∷ 0x70 ∷ 0x3E ∷ [])))

abbrev second_with_0 : Call
second_with_0 = packet 0x49 (0xA6 ∷ [])

abbrev second_with_3 : Call
second_with_3 = packet 0x79 (0xA6 ∷ [])

-- a control primitive under tag 2, for slot 0, with TAG 5Ah and CPSP 0: its byte 2, its opcode, its check
abbrev pub control : ℕ → ℕ → List ℕ → Call
control byte2 opcode check = packet 0xCA (0x84 ∷ 0 ∷ byte2 ∷ 0 ∷ opcode ∷ 0x5A ∷ 0 ∷ 0 ∷ check)

abbrev pub pause : Call
pause = control 0 0 (0x18 ∷ 0x37 ∷ 0xCD ∷ 0x59 ∷ [])

abbrev pub abort : Call
abort = control 0 2 (0x99 ∷ 0x14 ∷ 0xAA ∷ 0xE6 ∷ [])

abbrev pub get_state : Call
get_state = control 0 3 (0x21 ∷ 0xBE ∷ 0xEF ∷ 0x3B ∷ [])

abbrev pause_meb_ciap : Call
pause_meb_ciap = control 3 0 (0xC2 ∷ 0xFC ∷ 0x71 ∷ 0x6D ∷ [])

-- ---- the other calls

abbrev pub taking : Call
taking = take! 0

-- slot 0, its first ticket, a body of n zeros
abbrev pub completing : ℕ → Call
completing n = complete 0 (ticket 1) (replicate n 0)

abbrev pub polling : Call
polling = poll (replicate 68 0)

-- ---- what is looked at

-- an answer's number; behind 0 a ticket; behind 1 a packet's length
abbrev pub answer : Event → List ℕ
answer (number n) = n ∷ []
answer (given t) = 0 ∷ t.0 ∷ []
answer (part_read bytes) = bytes
answer (handed_out bytes) = 1 ∷ length bytes ∷ []

-- of a packet, bytes 4 to 7 of its message
abbrev body : Event → List ℕ
body (number n) = n ∷ []
body (given t) = 0 ∷ t.0 ∷ []
body (part_read bytes) = bytes
body (handed_out bytes) = take 4 (drop 8 bytes)

pub record Case : Type 0 where
  pub calls : List Call
  pub looked : Event → List ℕ
  pub seen : List (List ℕ)

abbrev case : List Call → (Event → List ℕ) → List (List ℕ) → Case
case calls looked seen = record { calls = calls; looked = looked; seen = seen }

-- a packet of 68 bytes, and nothing more to send
abbrev full : List ℕ
full = 1 ∷ 68 ∷ []

abbrev none : List ℕ
none = 0 ∷ []

-- a command of 20 bytes, taken and completed with a body of n bytes, then as many polls
abbrev sending : ℕ → ℕ → List Call
sending n polls = mi_20 ∷ taking ∷ completing n ∷ replicate polls polling

-- what the first three of those answer
abbrev accepted : List (List ℕ) → List (List ℕ)
accepted rest = (1 ∷ []) ∷ (0 ∷ 1 ∷ []) ∷ (0 ∷ []) ∷ rest

-- ---- the table

pub table : List Case
table =
    -- n 4: 10; n 69: 11, bit 6 (Get State then reports 0040h)
    case (receive (replicate 4 1) ∷ receive (replicate 69 1) ∷ get_state ∷ polling ∷ []) body ((10 ∷ []) ∷ (11 ∷ []) ∷ (2 ∷ []) ∷ (0x00 ∷ 0x5A ∷ 0x40 ∷ 0x00 ∷ []) ∷ [])
    -- body 56: one packet
    ∷ case (sending 56 2) answer (accepted (full ∷ none ∷ []))
    -- 57: two, the last of one byte
    ∷ case (sending 57 3) answer (accepted (full ∷ (1 ∷ 5 ∷ []) ∷ none ∷ []))
    -- 4,216: 66
    ∷ case (sending 4216 67) answer (accepted (replicate 66 full ++ (none ∷ [])))
    -- bodies 3 and 4,217: 35
    ∷ case (mi_20 ∷ taking ∷ completing 3 ∷ completing 4217 ∷ []) answer ((1 ∷ []) ∷ (0 ∷ 1 ∷ []) ∷ (35 ∷ []) ∷ (35 ∷ []) ∷ [])
    -- NMIMT 3: body 04 03 01 00
    ∷ case (nmimt_3 ∷ polling ∷ []) body ((1 ∷ []) ∷ (0x04 ∷ 0x03 ∷ 0x01 ∷ 0x00 ∷ []) ∷ [])
    -- control with MEB and CIAP: 04 00 02 00
    ∷ case (pause_meb_ciap ∷ polling ∷ []) body ((2 ∷ []) ∷ (0x04 ∷ 0x00 ∷ 0x02 ∷ 0x00 ∷ []) ∷ [])
    -- MI request of 19 bytes: 05 00 00 00
    ∷ case (mi_19 ∷ polling ∷ []) body ((1 ∷ []) ∷ (0x05 ∷ 0x00 ∷ 0x00 ∷ 0x00 ∷ []) ∷ [])
    -- 20: waits to be taken
    ∷ case (mi_20 ∷ polling ∷ taking ∷ []) answer ((1 ∷ []) ∷ none ∷ (0 ∷ 1 ∷ []) ∷ [])
    -- sequence 3 then 0: joined
    ∷ case (first_of_two ∷ second_with_0 ∷ []) answer ((0 ∷ []) ∷ (1 ∷ []) ∷ [])
    -- 3 then 3: 22
    ∷ case (first_of_two ∷ second_with_3 ∷ []) answer ((0 ∷ []) ∷ (22 ∷ []) ∷ [])
    -- Pause with both slots Idle: CPSR 0
    ∷ case (pause ∷ polling ∷ []) body ((2 ∷ []) ∷ (0x00 ∷ 0x5A ∷ 0x00 ∷ 0x00 ∷ []) ∷ [])
    -- Abort after taking: 2; completing then: 31; once a new command waits to be taken: 32
    ∷ case (mi_20 ∷ taking ∷ abort ∷ polling ∷ completing 4 ∷ mi_20 ∷ completing 4 ∷ [])
    body ((1 ∷ []) ∷ (0 ∷ 1 ∷ []) ∷ (2 ∷ []) ∷ (0x00 ∷ 0x5A ∷ 0x02 ∷ 0x00 ∷ []) ∷ (31 ∷ []) ∷ (1 ∷ []) ∷ (32 ∷ []) ∷ [])
    ∷ []

-- from setup with EID 8, the unit 64 and stores of zeros
abbrev pub run : Case → List (List ℕ)
run c = map c.looked (events c.calls (begin 8 64 (replicate 4224 0) (replicate 4224 0)))

-- THE STATEMENT: each run of the table is seen as the table says
pub examples : map run table ≡ map (λ (c : Case). c.seen) table
unfolding table events begin read_header join_refusal cut_packet command_fault control_fault response with_check check_right crc32c reflect register steps step
examples = refl
