-- "Control primitives". Act on the whole at once.
-- Assumes nothing.
use Rattle.std.specs.Prelude.{Result, Ok, Err, ℕ, Bool, true, false, List, Option, None, Some, eqb, if◌then◌else◌}
use Rattle.std.specs.Int.Bits.{bit_or}
use Rattle.mctp.specs.declared.Header.{Header}
use Rattle.nvme_mi.specs.Message.{control, control_fault}
use Rattle.nvme_mi.specs.Response.{response, fault_body, success_body}
use Rattle.nvme_mi.specs.declared.MessageHeader.{MessageHeader}
use Rattle.nvme_mi.specs.declared.Fault.{Fault}
use Rattle.machine.specs.State.{outgoing, slot_at, with_slot, on_both, with_phase, with_paused, with_busy, with_flags, with_reply, slot, idled, held_in, is_idle}
use Rattle.machine.specs.Wire.{opcode_of, tag_of, no_parameter, clears_flags}
use Rattle.machine.specs.Types.{Taking, Untaken, Taken, Response, Phase, Idle, Receive, Process, Answered, Transmit, Slot, Endpoint}

-- the value where the test holds, else 0
abbrev pub bit : Bool → ℕ → ℕ
bit b value = if b then value else 0

-- ---- Pause (0): sets the flag of each slot that is not Idle. CPSR bits 0 and 1: flags of slots 0 and 1 afterwards.

abbrev pub paused_slot : Slot → Slot
paused_slot s = if is_idle s.phase then s else with_paused s true

unfoldable pub pause : Endpoint → Endpoint
pause e = on_both paused_slot e

abbrev pub pause_word : Endpoint → ℕ
pause_word e = bit_or (bit (slot_at e 0).paused 1) (bit (slot_at e 1).paused 2)

-- ---- Resume (1): clears both flags; CPSR 0. A response that waited for its flag goes to Transmit in the same call.

abbrev pub released : Phase → Phase
released (Idle k) = Idle k
released (Receive a) = Receive a
released (Process r) = Process r
released (Answered r) = Transmit (outgoing r 0)
released (Transmit r) = Transmit r

abbrev pub resumed_slot : Slot → Slot
resumed_slot s = slot s.ticket false s.busy (released s.phase)

unfoldable pub resume : Endpoint → Endpoint
resume e = on_both resumed_slot e

-- ---- Abort (2): its slot goes to Idle. CPSR: Idle 0, Receive 1, Process untaken 1, Process taken 1 if it can still be stopped and else 2 (of
-- document 02), Process with its response there 0, Transmit 0.

abbrev pub taken_word : Taking → ℕ
taken_word Untaken = 1
taken_word (Taken can) = if can then 1 else 2

abbrev pub abort_word : Phase → ℕ
abort_word (Idle k) = 0
abort_word (Receive a) = 1
abort_word (Process r) = taken_word r.taking
abort_word (Answered r) = 0
abort_word (Transmit r) = 0

unfoldable pub abort : Endpoint → ℕ → Endpoint
abort e i = with_slot e i (idled (slot_at e i))

-- ---- Get State (3): CPSR bits 1:0 state (Idle 0, Receive 1, Process 2, Transmit 3), bit 3 the slot's flag above, bits 4 to 12 the
-- endpoint's, 2 and 13 zero, 14 reset seen, 15 the slot's pause flag.

abbrev pub state_number : Phase → ℕ
state_number (Idle k) = 0
state_number (Receive a) = 1
state_number (Process r) = 2
state_number (Answered r) = 2
state_number (Transmit r) = 3

unfoldable pub state_word : Endpoint → ℕ → ℕ
state_word e i =
    bit_or (bit_or (bit_or (state_number (slot_at e i).phase) (bit (slot_at e i).busy 0x0008)) e.flags) (bit (slot_at e i).paused 0x8000)

-- CPSP bit 0 set: after reporting, bits 4 to 14 and this slot's bit 3 are cleared.
unfoldable pub clear_flags : Endpoint → ℕ → Endpoint
clear_flags e i = with_flags (with_slot e i (with_busy (slot_at e i) false)) 0

-- ---- what a primitive leaves, and what it reports in CPSR

pub record Acted : Type 0 where
  pub endpoint : Endpoint
  pub cpsr : ℕ

abbrev pub acted : Endpoint → ℕ → Acted
acted e cpsr = record { endpoint = e; cpsr = cpsr }

-- Replay (4), of document 02: "If the slot is Idle and still holds its last response, it goes to Transmit and sends it again under the same tag
-- to the same requester, CPSR 1; otherwise CPSR 0 and nothing happens."
abbrev pub replayed : Endpoint → ℕ → Option Response → Acted
replayed e i None = acted e 0
replayed e i (Some r) = acted (with_slot e i (with_phase (slot_at e i) (Transmit (outgoing r 0)))) 1

unfoldable pub replay : Endpoint → ℕ → Acted
replay e i = replayed e i (held_in (slot_at e i).phase)

unfoldable pub primitive : Endpoint → ℕ → ℕ → Bool → Acted
unfolding pause resume abort state_word clear_flags replay
primitive e opcode i clear =
    if eqb opcode 0 then acted (pause e) (pause_word (pause e))
    else if eqb opcode 1 then acted (resume e) 0
    else if eqb opcode 2 then acted (abort e i) (abort_word (slot_at e i).phase)
    else if eqb opcode 3 then acted (if clear then clear_flags e i else e) (state_word e i)
    else replay e i

-- ---- the reply. "One control reply of 12 bytes waits in the state; a newer one replaces it. Its CSI is the request's." Error replies
-- carry no TAG, and their primitive does not act.

abbrev pub replied : Endpoint → Header → ℕ → List ℕ → Endpoint
replied e h csi body = with_reply e (response control csi body) h.source h.tag

abbrev pub replied_acted : Header → ℕ → ℕ → Acted → Endpoint
replied_acted h csi tag a = replied a.endpoint h csi (success_body tag a.cpsr)

abbrev pub controlled_by : Endpoint → Header → ℕ → List ℕ → Result (Unit {0}) Fault → Endpoint
controlled_by e h csi m (Ok none) = replied_acted h csi (tag_of m) (primitive e (opcode_of m) csi (clears_flags m))
controlled_by e h csi m (Err fault) = replied e h csi (fault_body (Err fault))

-- a control primitive that came whole, with a right check
unfoldable pub controlled : Endpoint → Header → MessageHeader → List ℕ → Endpoint
unfolding primitive
controlled e h mh m = controlled_by e h mh.csi m (control_fault mh (opcode_of m) (no_parameter m))
