-- "Entering Process", and the response that a slot then gets.
-- Assumes nothing.
use Rattle.std.specs.Prelude.{Result, Ok, Err, ℕ, ◌+◌, Bool, List, length, if◌then◌else◌}
use Rattle.lent.specs.Bytes.{put}
use Rattle.nvme_mi.specs.Message.{command_fault}
use Rattle.nvme_mi.specs.Response.{response, fault_body}
use Rattle.nvme_mi.specs.declared.MessageHeader.{MessageHeader}
use Rattle.nvme_mi.specs.declared.Fault.{Fault}
use Rattle.machine.specs.State.{World, slot_at, store_at, with_slot, with_store, with_endpoint, on_slot, with_phase, slot, next_ticket, settled}
use Rattle.machine.specs.Wire.{response_place}
use Rattle.machine.specs.Control.{pause}
use Rattle.machine.specs.Types.{Assembly, Untaken, Request, Response, Process, Slot, Endpoint}

-- the command that an assembly became
abbrev pub request : Assembly → MessageHeader → Request
request a mh = record { source = a.source; tag = a.tag; kind = mh.nmimt; length = a.length; taking = Untaken }

-- "The slot's ticket count rises by one."
abbrev pub processing : Slot → Request → Slot
processing s r = slot (next_ticket s.ticket) s.paused s.busy (Process r)

-- to the requester, under the request's tag
abbrev pub response_to : Request → List ℕ → Response
response_to r body = record { requester = r.source; tag = r.tag; length = length body + 8 }

-- The response overwrites the front of the slot's store. The CSI that chose the slot is its number.
unfoldable pub responded : World → ℕ → Request → List ℕ → World
responded w i r body =
    on_slot (with_store w i (put (store_at w i) response_place (response r.kind i body))) i
    (with_phase (slot_at w.endpoint i) (settled (slot_at w.endpoint i).paused (response_to r body)))

-- "Next, the first that applies becomes the response at once"
abbrev pub responded_at_once : World → ℕ → Request → Result (Unit {0}) Fault → World
responded_at_once w i r (Ok none) = w
responded_at_once w i r (Err fault) = responded w i r (fault_body (Err fault))

-- "With CIAP 1, Pause then acts (without a reply)."
abbrev pub paused_if : Bool → Endpoint → Endpoint
paused_if ciap e = if ciap then pause e else e

-- slot i enters Process with a whole command
unfoldable pub entered : World → ℕ → Assembly → MessageHeader → World
unfolding responded
entered w i a mh =
    responded_at_once
    (with_endpoint w (paused_if mh.ciap (with_slot w.endpoint i (processing (slot_at w.endpoint i) (request a mh)))))
    i (request a mh) (command_fault mh a.length)
