-- The premises of demand 3 can be met, and its bound is tight, with the most packets left and with one, at the units 64, 100 and 250 (the last two do
-- not divide 4,224): closed runs, by computation.
-- Assumes nothing.
use Rattle.std.specs.Prelude.{ℕ, zero, suc, ◌+◌, ◌-◌, ◌≡◌, refl, Bool, true, false, List, [], ◌∷◌, ◌++◌, length, replicate}
use Rattle.crc32c.specs.Crc32c.{crc32c, reflect, register, steps, step}
use Rattle.mctp.specs.Header.{read_header}
use Rattle.mctp.specs.Cut.{packet as cut_packet}
use Rattle.mctp.specs.Gather.{join_refusal}
use Rattle.nvme_mi.specs.Message.{command_fault, control_fault}
use Rattle.nvme_mi.specs.Check.{check_right, with_check}
use Rattle.nvme_mi.specs.Response.{response}
use Rattle.machine.specs.State.{ticket}
use Rattle.machine.specs.Calls.{Call, take!, complete, poll}
use Rattle.examples.specs.Examples.{packet, mi_20, control, pause, get_state, polling}
use Rattle.machine.specs.History.{History, phase_at, is_transmit, run, start, packets_left}
use Rattle.machine.specs.Demands.{Fate, cut, delivered, open!, fate}

-- ---- calls beside those of the examples

-- the same command for slot 1, under tag 3
abbrev pub mi_20_slot_1 : Call
mi_20_slot_1 = packet 0xCB (0x84 ∷ 0x09 ∷ 0 ∷ 0 ∷ (replicate 12 0 ++ (0xE3 ∷ 0xFD ∷ 0x88 ∷ 0x60 ∷ [])))

abbrev pub resume : Call
resume = control 0 1 (0xA0 ∷ 0x9D ∷ 0x88 ∷ 0x84 ∷ [])

-- the n-th command of a slot, taken and completed with a body of so many zeros
abbrev pub answering : ℕ → ℕ → ℕ → List Call
answering i n size = take! i ∷ complete i (ticket n) (replicate size 0) ∷ []

pub times : ℕ → List Call → List Call
times zero cs = []
times (suc n) cs = cs ++ times n cs

-- ---- what is seen of a fate: which, the counted polls, and how many bytes the slot has sent

abbrev pub seen : ℕ → Fate → List ℕ
seen i cut = 0 ∷ []
seen i (delivered h) = 1 ∷ h.counted ∷ length (h.trace i).payloads ∷ []
seen i (open! h) = 2 ∷ h.counted ∷ length (h.trace i).payloads ∷ []

abbrev pub zeros : List ℕ
zeros = replicate 4224 0

-- ---- a run that meets the premises: three packets left, and a control reply, a pause and the other slot in between

pub before_some : History
before_some = run (mi_20 ∷ answering 0 1 150) (start 8 64 zeros zeros)

-- a packet; a Get State; the other slot's command, answered; a Pause, under which a poll is not counted; a Resume; and polls
abbrev some_calls : List Call
some_calls =
    polling ∷ get_state ∷ mi_20_slot_1 ∷ (answering 1 1 4 ++ (polling ∷ pause ∷ polling ∷ resume ∷ polling ∷ polling ∷ polling ∷ polling ∷ polling ∷ []))

pub some_premise : is_transmit (phase_at before_some.world 0) ≡ true
unfolding before_some run start read_header join_refusal cut_packet command_fault control_fault response with_check check_right crc32c reflect register steps step
some_premise = refl

pub some_left : packets_left 0 before_some ≡ 3
unfolding before_some run start read_header join_refusal cut_packet command_fault control_fault response with_check check_right crc32c reflect register steps step
some_left = refl

pub some_run : seen 0 (fate 0 some_calls before_some) ≡ 1 ∷ 5 ∷ 158 ∷ []
unfolding before_some run start fate read_header join_refusal cut_packet command_fault control_fault response with_check check_right crc32c reflect register steps step
some_run = refl

-- ---- runs that need every poll of the bound: slot 1's turn is first, slot 1 has the longest response to send, and a control reply goes before each
-- packet

abbrev polling_at : ℕ → Call
polling_at unit = poll (replicate (unit + 4) 0)

-- slot 0 sends a response of one packet, so that the turn is slot 1's; then slot 0 gets a response with a body of n bytes, and slot 1 one of 4,224 bytes
abbrev before : ℕ → ℕ → History
before unit n =
    run (mi_20 ∷ (answering 0 1 4 ++ (polling_at unit ∷ mi_20 ∷ (answering 0 2 n ++ (mi_20_slot_1 ∷ answering 1 1 4216))))) (start 8 unit zeros zeros)

-- a control primitive, the poll that hands out its reply, and the poll that hands out a command packet
abbrev round : ℕ → List Call
round unit = get_state ∷ polling_at unit ∷ polling_at unit ∷ []

abbrev yes : Bool → List ℕ
yes true = 1 ∷ []
yes false = 0 ∷ []

-- slot 0 is in Transmit; the packets that it has left; what has become of them before the last poll of n rounds, and with it. One poll was counted before.
abbrev tight : ℕ → ℕ → History → List (List ℕ)
tight unit n h =
    yes (is_transmit (phase_at h.world 0))
    ∷ (packets_left 0 h ∷ [])
    ∷ seen 0 (fate 0 (times (n - 1) (round unit) ++ (get_state ∷ polling_at unit ∷ [])) h)
    ∷ seen 0 (fate 0 (times n (round unit)) h)
    ∷ []

-- both slots have the most packets: 66 at the unit 64, and the last goes with the 264th poll
pub longest_64 : tight 64 132 (before 64 4216) ≡ (1 ∷ []) ∷ (66 ∷ []) ∷ (2 ∷ 264 ∷ 4160 ∷ []) ∷ (1 ∷ 265 ∷ 4224 ∷ []) ∷ []
unfolding times run start fate read_header join_refusal cut_packet command_fault control_fault response with_check check_right crc32c reflect register steps step
longest_64 = refl

-- 43 at 100, with the 172nd
pub longest_100 : tight 100 86 (before 100 4216) ≡ (1 ∷ []) ∷ (43 ∷ []) ∷ (2 ∷ 172 ∷ 4200 ∷ []) ∷ (1 ∷ 173 ∷ 4224 ∷ []) ∷ []
unfolding times run start fate read_header join_refusal cut_packet command_fault control_fault response with_check check_right crc32c reflect register steps step
longest_100 = refl

-- 17 at 250, with the 68th
pub longest_250 : tight 250 34 (before 250 4216) ≡ (1 ∷ []) ∷ (17 ∷ []) ∷ (2 ∷ 68 ∷ 4000 ∷ []) ∷ (1 ∷ 69 ∷ 4224 ∷ []) ∷ []
unfolding times run start fate read_header join_refusal cut_packet command_fault control_fault response with_check check_right crc32c reflect register steps step
longest_250 = refl

-- slot 0 has one packet, of twelve bytes: at 64 it goes with poll 2 x (66 + 1), at 250 with poll 2 x (17 + 1)
pub last_64 : tight 64 67 (before 64 4) ≡ (1 ∷ []) ∷ (1 ∷ []) ∷ (2 ∷ 134 ∷ 0 ∷ []) ∷ (1 ∷ 135 ∷ 12 ∷ []) ∷ []
unfolding times run start fate read_header join_refusal cut_packet command_fault control_fault response with_check check_right crc32c reflect register steps step
last_64 = refl

pub last_250 : tight 250 18 (before 250 4) ≡ (1 ∷ []) ∷ (1 ∷ []) ∷ (2 ∷ 36 ∷ 0 ∷ []) ∷ (1 ∷ 37 ∷ 12 ∷ []) ∷ []
unfolding times run start fate read_header join_refusal cut_packet command_fault control_fault response with_check check_right crc32c reflect register steps step
last_250 = refl
