-- The message header of document 01, "Bytes on the wire": byte 0 is 84h (IC 1, type 4). Byte 1: bit 7 ROR, bits 6:3 NMIMT, bit 0 CSI
-- (the slot). Byte 2: bit 0 MEB, bit 1 CIAP. All other bits of bytes 1 to 3 are ignored on receipt, zero on sending.
-- Assumes nothing.
use Rattle.std.specs.Prelude.{◌≡◌, ℕ, ◌/◌, ◌%◌, Bool, true, false, not, ◌&&◌, ◌||◌, List, Result, Ok, Err, eqb, ltb, if◌then◌else◌}
use Rattle.lent.specs.Bytes.{byte_at, is_set}
use Rattle.nvme_mi.specs.declared.MessageHeader.{MessageHeader}
use Rattle.nvme_mi.specs.declared.Fault.{Fault}
use Rattle.nvme_mi.specs.declared.Fault.TheVariants.{InvalidOpcode, Parameter, InvalidSize}
use Rattle.nvme_mi.specs.declared.Kind.{Kind}
use Rattle.nvme_mi.specs.declared.Kind.TheVariants.{Mi, Admin, Pcie}
use Rattle.nvme_mi.specs.declared.Opcode.{Opcode}
use Rattle.nvme_mi.specs.declared.Opcode.TheVariants.{Pause, Resume, Abort, GetState, Replay}

-- IC 1, message type 4
abbrev pub message_type : ℕ
message_type = 0x84

-- the shortest message
abbrev pub smallest : ℕ
smallest = 8

-- a control request, header to check
abbrev pub control_size : ℕ
control_size = 12

abbrev pub message_header : List ℕ → MessageHeader
message_header message =
    record {
      ror = is_set (byte_at message 1) 7;
      nmimt = byte_at message 1 / 8 % 16;
      csi = byte_at message 1 % 2;
      meb = is_set (byte_at message 2) 0;
      ciap = is_set (byte_at message 2) 1;
    }

-- ---- NMIMT: 0 control, 1 MI command, 2 Admin, 4 PCIe

abbrev pub control : ℕ
control = 0

abbrev pub mi_command : ℕ
mi_command = 1

abbrev pub admin_command : ℕ
admin_command = 2

abbrev pub pcie_command : ℕ
pcie_command = 4

abbrev pub is_known : ℕ → Bool
is_known nmimt = eqb nmimt mi_command || eqb nmimt admin_command || eqb nmimt pcie_command

-- a kind's number, and a number as a kind
abbrev pub kind_number : Kind → ℕ
kind_number Mi = 1
kind_number Admin = 2
kind_number Pcie = 4

abbrev pub NamesKind : ℕ → Result Kind Fault → Type 0
NamesKind n (Ok kind) = (is_known n ≡ true) × (kind_number kind ≡ n)
NamesKind n (Err fault) = (is_known n ≡ false) × (fault ≡ Parameter 1 3)

-- the shortest command of a known kind, with its check
abbrev pub shortest : ℕ → ℕ
shortest nmimt =
    if eqb nmimt mi_command then 20
    else if eqb nmimt admin_command then 72
    else 24

-- ---- status codes of NVMe-MI revision 1.2

abbrev pub success : ℕ
success = 0x00

abbrev pub invalid_opcode : ℕ
invalid_opcode = 0x03

abbrev pub invalid_parameter : ℕ
invalid_parameter = 0x04

abbrev pub invalid_size : ℕ
invalid_size = 0x05

-- ---- opcodes of control primitives

abbrev pub opcode_number : Opcode → ℕ
opcode_number Pause = 0
opcode_number Resume = 1
opcode_number Abort = 2
opcode_number GetState = 3
opcode_number Replay = 4

-- the greatest opcode that a control primitive has: Replay's, of document 02
abbrev pub replay_opcode : ℕ
replay_opcode = 4

abbrev pub NamesOpcode : ℕ → Result Opcode Fault → Type 0
NamesOpcode n (Ok opcode) = opcode_number opcode ≡ n
NamesOpcode n (Err fault) = (ltb replay_opcode n ≡ true) × (fault ≡ InvalidOpcode)

-- ---- the tests of a whole message, the first that applies; else Ok

-- "Entering Process": a command of n bytes
unfoldable pub command_fault : MessageHeader → ℕ → Result (Unit {0}) Fault
command_fault header n =
    if not (is_known header.nmimt) then Err (Parameter 1 3)
    else if header.meb then Err (Parameter 2 0)
    else if ltb n (shortest header.nmimt) then Err InvalidSize
    else Ok tt

-- "Control primitives": a primitive with this opcode, and whether its CPSP is 0. Of a Replay "Only CPSP 0 is taken".
unfoldable pub control_fault : MessageHeader → ℕ → Bool → Result (Unit {0}) Fault
control_fault header opcode no_parameter =
    if header.meb then Err (Parameter 2 0)
    else if header.ciap then Err (Parameter 2 1)
    else if ltb replay_opcode opcode then Err InvalidOpcode
    else if not no_parameter && eqb opcode replay_opcode then Err (Parameter 6 0)
    else Ok tt

-- an answer without what it gives
abbrev pub fault_in : {A : Type 0} → Result A Fault → Result (Unit {0}) Fault
fault_in (Ok given) = Ok tt
fault_in (Err fault) = Err fault
