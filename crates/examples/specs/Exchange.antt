-- The premises of `command_arrives`, `response_arrives`, `answer_returns` and `primitive_answered` can be met: one exchange of both ends, by computation.
-- The requester has EID 9, the endpoint EID 8, both the unit 64. The packets are literals, written by another program.
-- Assumes nothing.
use Rattle.std.specs.Prelude.{ℕ, ◌≡◌, Bool, true, false, List, [], ◌∷◌, ◌++◌, map, take, replicate}
use Rattle.std.proofs.Math.Path.{refl}
use Rattle.std.proofs.Common.{arith}
use Rattle.crc32c.specs.Crc32c.{crc32c, reflect, register, steps, step as step_crc}
use Rattle.mctp.specs.Header.{read_header}
use Rattle.mctp.specs.Cut.{packet as cut_packet}
use Rattle.mctp.specs.Feed.{answers}
use Rattle.mctp.specs.Gather.{join_refusal}
use Rattle.nvme_mi.specs.Message.{command_fault, control_fault}
use Rattle.nvme_mi.specs.Check.{check_right, with_check}
use Rattle.nvme_mi.specs.Response.{response}
use Rattle.opening.specs.Formed.{WellFormed}
use Rattle.machine.specs.State.{ticket}
use Rattle.machine.specs.Calls.{Call, receive, take!, read, complete, step, begin, events}
use Rattle.machine.specs.History.{History, phase_at, is_transmit, fixed_at_entry, run, start}
use Rattle.machine.specs.Demands.{fate, is_idle_now}
use Rattle.machine.specs.Replies.{ReplyFate, replaced, sent, waiting, reply_fate}
use Rattle.controller.specs.State.{key, requester, Side, side}
use Rattle.controller.specs.Send.{cut_to, primitive_to}
use Rattle.controller.specs.Receive.{receive_says, received}
use Rattle.controller.specs.Grounds.{packets_in}
use Rattle.controller.specs.Arrival.{at_requester}
use Rattle.controller.specs.declared.Awaiting.TheVariants.{Nothing, Awaited}
use Rattle.controller.specs.declared.Requester.{Requester}
use Rattle.round_trip.specs.Response.{bytes_handed_out, sent_until, is_unsent}
use Rattle.examples.specs.Examples.{polling, answer}
use Rattle.examples.specs.Runs.{zeros, seen}

abbrev pub controller : Requester
controller = requester 9 64 Nothing

-- it awaits EID 8 under tag 1
abbrev awaiting : Side
awaiting = side (requester 9 64 (Awaited (key 8 1))) zeros

abbrev pub said : ℕ × List ℕ → List ℕ
said x = x.0 ∷ x.1

abbrev pub yes : Bool → List ℕ
yes true = 1 ∷ []
yes false = 0 ∷ []

-- ---- there: an Admin command of 72 bytes for slot 1

abbrev command : List ℕ
command = 0x84 ∷ 17 ∷ 0 ∷ 0 ∷ (replicate 64 0 ++ (0x61 ∷ 0xB7 ∷ 0x56 ∷ 0x02 ∷ []))

abbrev first_packet : List ℕ
first_packet = 1 ∷ 8 ∷ 9 ∷ 0x89 ∷ 0x84 ∷ 17 ∷ replicate 62 0

abbrev second_packet : List ℕ
second_packet = 1 ∷ 8 ∷ 9 ∷ 0x59 ∷ 0 ∷ 0 ∷ 0 ∷ 0 ∷ 0x61 ∷ 0xB7 ∷ 0x56 ∷ 0x02 ∷ []

-- it is well formed, and no test at entry answers it
pub well_formed : WellFormed false command
unfolding check_right crc32c reflect register steps step_crc
well_formed = record { long = omega arith; short = omega arith; typed = refl; way = refl; kind = refl; right = unfold check_right crc32c reflect register steps step_crc in refl }

pub no_answer : fixed_at_entry 1 command ≡ []
unfolding with_check
no_answer = refl

-- the requester cuts it into 80 bytes, its two packets
pub there : packets_in 64 command (cut_to controller 8 1 command (replicate 80 0)) ≡ first_packet ∷ second_packet ∷ []
unfolding cut_to cut_packet
there = refl

-- slot 1 is Idle; the packets are answered 0 and 1, the command taken with ticket 1, and its 72 bytes read
abbrev received_calls : List Call
received_calls = receive first_packet ∷ receive second_packet ∷ []

pub command_came : (yes (is_idle_now (phase_at (start 8 64 zeros zeros).world 1)) ∷ map answer (events (received_calls ++ (take! 1 ∷ read 1 ∷ [])) (begin 8 64 zeros zeros)))
    ≡ (1 ∷ []) ∷ (0 ∷ []) ∷ (1 ∷ []) ∷ (0 ∷ 1 ∷ []) ∷ command ∷ []
unfolding events begin start read_header join_refusal command_fault check_right crc32c reflect register steps step_crc
command_came = refl

-- ---- back: its response with a body of 61 zeros

abbrev pub first_back : List ℕ
first_back = 1 ∷ 9 ∷ 8 ∷ 0x81 ∷ 0x84 ∷ 0x91 ∷ replicate 62 0

abbrev pub second_back : List ℕ
second_back = 1 ∷ 9 ∷ 8 ∷ 0x51 ∷ 0 ∷ 0x6E ∷ 0x4D ∷ 0x9C ∷ 0xBB ∷ []

unfoldable pub answered : History
unfolding run start
answered = run (received_calls ++ (take! 1 ∷ complete 1 (ticket 1) (replicate 61 0) ∷ [])) (start 8 64 zeros zeros)

abbrev pub polls : List Call
polls = polling ∷ polling ∷ polling ∷ []

-- it is in Transmit, no packet of it went, and the last goes with the second poll; both packets
abbrev ready : History → List (List ℕ)
ready h = yes (is_transmit (phase_at h.world 1)) ∷ yes (is_unsent 1 h) ∷ seen 1 (fate 1 polls h) ∷ sent_until 1 polls h

pub back : ready answered ≡ (1 ∷ []) ∷ (1 ∷ []) ∷ (1 ∷ 2 ∷ 69 ∷ []) ∷ first_back ∷ second_back ∷ []
unfolding answered fate sent_until run start read_header join_refusal cut_packet command_fault response with_check check_right crc32c reflect register steps step_crc
back = refl

-- the requester gathers it: 0, then 1 with 69 bytes
pub response_came : map said (answers at_requester awaiting (first_back ∷ second_back ∷ [])) ≡ (0 ∷ []) ∷ (1 ∷ 69 ∷ []) ∷ []
unfolding answers received join_refusal check_right crc32c reflect register steps step_crc
response_came = refl

-- ---- a control primitive: Get State of slot 1, and its reply

abbrev get_state_1 : List ℕ
get_state_1 = 1 ∷ 8 ∷ 9 ∷ 0xC9 ∷ 0x84 ∷ 1 ∷ 0 ∷ 0 ∷ 3 ∷ 0x5A ∷ 0 ∷ 0 ∷ 0xE9 ∷ 0x92 ∷ 0xEC ∷ 0x53 ∷ []

abbrev its_reply : List ℕ
its_reply = 1 ∷ 9 ∷ 8 ∷ 0xC1 ∷ 0x84 ∷ 0x81 ∷ 0 ∷ 0 ∷ 0 ∷ 0x5A ∷ 0 ∷ 0 ∷ 0x24 ∷ 0x15 ∷ 0xA0 ∷ 0xC4 ∷ []

pub get_state_built : take 16 (primitive_to controller 8 1 (record { slot = 1; opcode = 3; tag = 0x5A; cpsp = 0 }) (replicate 16 0)).buffer ≡ get_state_1
unfolding primitive_to cut_packet with_check crc32c reflect register steps step_crc
get_state_built = refl

abbrev pub reply_in : ReplyFate → List ℕ
reply_in replaced = []
reply_in (sent n v) = bytes_handed_out v
reply_in (waiting n e) = []

-- the endpoint answers it with 2, and the next poll hands out its reply
pub get_state_done : answer (step (receive get_state_1) (begin 8 64 zeros zeros)).event ≡ 2 ∷ []
unfolding step begin read_header control_fault response with_check check_right crc32c reflect register steps step_crc
get_state_done = refl

pub get_state_goes : reply_in (reply_fate 0 polls (step (receive get_state_1) (begin 8 64 zeros zeros)).world) ≡ its_reply
unfolding step begin reply_fate read_header cut_packet control_fault response with_check check_right crc32c reflect register steps step_crc
get_state_goes = refl

-- which the requester gathers with 2 and 12 bytes
pub get_state_came : said (receive_says (received awaiting its_reply).answer) ≡ 2 ∷ 12 ∷ []
unfolding received check_right crc32c reflect register steps step_crc
get_state_came = refl
