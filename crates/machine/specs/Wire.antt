-- "Bytes on the wire": sizes, directions, and the fields of a control primitive. The packet header is defined in `mctp`, the message
-- header and the check in `nvme_mi`.
-- Assumes nothing.
use Rattle.std.specs.Prelude.{ℕ, ◌+◌, Bool, true, false, not, ◌&&◌, ◌||◌, List, eqb, length}
use Rattle.lent.specs.Bytes.{byte_at, is_set}
use Rattle.mctp.specs.declared.Route.{Route}
use Rattle.machine.specs.State.{World}
use Rattle.machine.specs.Types.{Endpoint}

-- each slot's store, and the longest message
abbrev pub store_size : ℕ
store_size = 4224

-- where a response lies in its slot's store: at the front, over the request
abbrev pub response_place : ℕ
response_place = 0

-- a buffer that takes every packet: four bytes of header, and a full payload
abbrev pub packet_room : Endpoint → ℕ
packet_room e = e.unit + 4

-- TO of the packets that come in, and of those that go out
abbrev pub inward : Bool
inward = true

abbrev pub outward : Bool
outward = false

-- source ours, destination the requester, TO 0, the request's tag
abbrev pub route_to : Endpoint → ℕ → ℕ → Route
route_to e requester tag = record { destination = requester; source = e.eid; to = outward; tag = tag }

-- one of the lent stores has another length
abbrev pub wrong_stores : World → Bool
wrong_stores w = not (eqb (length w.store0) store_size) || not (eqb (length w.store1) store_size)

-- ---- a control request: header, opcode, TAG, CPSP (2), check

abbrev pub opcode_of : List ℕ → ℕ
opcode_of message = byte_at message 4

abbrev pub tag_of : List ℕ → ℕ
tag_of message = byte_at message 5

-- CPSP is 0
abbrev pub no_parameter : List ℕ → Bool
no_parameter message = eqb (byte_at message 6) 0 && eqb (byte_at message 7) 0

-- bit 0 of CPSP
abbrev pub clears_flags : List ℕ → Bool
clears_flags message = is_set (byte_at message 6) 0
