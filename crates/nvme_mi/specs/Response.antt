-- Responses: 84h, then ROR 1 with the request's NMIMT and CSI, then two zeros; the body from byte 4 (status) on; the check.
-- Assumes nothing.
use Rattle.std.specs.Prelude.{Result, Ok, Err, ℕ, ◌+◌, ◌*◌, ◌%◌, List, [], ◌∷◌, ◌++◌}
use Rattle.lent.specs.Bytes.{low_high}
use Rattle.nvme_mi.specs.Message.{message_type, success, invalid_opcode, invalid_parameter, invalid_size}
use Rattle.nvme_mi.specs.Check.{with_check}
use Rattle.nvme_mi.specs.declared.Fault.{Fault}
use Rattle.nvme_mi.specs.declared.Fault.TheVariants.{InvalidOpcode, Parameter, InvalidSize}

-- bit 7 of byte 1 is ROR, bits 6:3 are NMIMT, bit 0 is CSI
abbrev pub response_header : ℕ → ℕ → List ℕ
response_header nmimt csi = message_type ∷ (128 + nmimt % 16 * 8 + csi % 2) ∷ 0 ∷ 0 ∷ []

-- a response whole; it has the body's length and 8 bytes more
unfoldable pub response : ℕ → ℕ → List ℕ → List ℕ
unfolding with_check
response nmimt csi body = with_check (response_header nmimt csi ++ body)

-- an error that names no place: its status, then three zeros
abbrev pub failure_body : ℕ → List ℕ
failure_body status = status ∷ 0 ∷ 0 ∷ 0 ∷ []

-- Status 04h is followed by the bit number, then the byte number in two bytes; other errors by three zeros.
abbrev pub fault_body : Result (Unit {0}) Fault → List ℕ
fault_body (Ok none) = success ∷ 0 ∷ 0 ∷ 0 ∷ []
fault_body (Err (Parameter byte bit)) = invalid_parameter ∷ bit ∷ low_high byte
fault_body (Err InvalidOpcode) = failure_body invalid_opcode
fault_body (Err InvalidSize) = failure_body invalid_size

-- a control primitive's success reply: 00h, TAG, CPSR
abbrev pub success_body : ℕ → ℕ → List ℕ
success_body tag cpsr = success ∷ tag ∷ low_high cpsr
