-- THE WAY THERE. "A well-formed message [..] that either end cuts is gathered by the other to the same bytes, if its packets come in order, each once,
-- with no other call between and the same 4,224-byte stores, the EIDs match, the receiving slot is Idle [..], and the endpoint makes no response at once."
-- The proof: `command_arrives` (proofs/Command).
-- Assumes nothing.
use Rattle.std.specs.Prelude.{ℕ, ◌+◌, ◌-◌, ◌%◌, ◌^◌, ◌≤◌, ◌≡◌, true, false, List, [], ◌∷◌, ◌++◌, None, length, drop, replicate, if◌then◌else◌}
use Rattle.opening.specs.Formed.{WellFormed}
use Rattle.machine.specs.State.{World, slot_at, store_at}
use Rattle.machine.specs.Valid.{Sound}
use Rattle.machine.specs.Calls.{Call, receive, take!, read, number, given, part_read, step, events}
use Rattle.machine.specs.History.{phase_at, receives_from, kind_of, fixed_at_entry, unit_of, over_unit}
use Rattle.machine.specs.Demands.{is_idle_now}
use Rattle.machine.specs.Replies.{csi_of}
use Rattle.machine.specs.declared.Ticket.{Ticket}
use Rattle.machine.specs.declared.Taking.TheVariants.{Untaken}
use Rattle.machine.specs.declared.Request.{Request}
use Rattle.machine.specs.declared.Phase.{Phase}
use Rattle.machine.specs.declared.Phase.TheVariants.{Idle, Process}
use Rattle.controller.specs.State.{Valid}
use Rattle.controller.specs.Send.{send_says, cut_to}
use Rattle.controller.specs.Grounds.{size_of, packets_in}
use Rattle.controller.specs.declared.Requester.{Requester}

-- ---- lists of calls on the endpoint

-- packets received one after the other
abbrev pub receives : List (List ℕ) → List Call
receives [] = []
receives (p ∷ ps) = receive p ∷ receives ps

unfoldable pub world_after : List Call → World → World
unfolding step
world_after [] w = w
world_after (c ∷ cs) w = world_after cs (step c w).world

-- ---- what has come

-- the command, not taken yet: who sent it, under which tag, its NMIMT and its length
abbrev pub command_of : ℕ → ℕ → List ℕ → Request
command_of source tag m = record { source = source; tag = tag; kind = kind_of m; length = length m; taking = Untaken }

-- the ticket behind the slot's present one
abbrev pub next_of : World → ℕ → Ticket
next_of w i = record { 0 = ((slot_at w.endpoint i).ticket.0 + 1) % 2 ^ 32 }

-- an assembly of this source and tag has ended; a slot that so enters Idle holds no response
abbrev pub ended_under : ℕ → ℕ → Phase → Phase
ended_under source tag p = if receives_from source tag p then Idle None else p

-- of a slot that the packets are not for
pub record Untouched (source tag : ℕ) (before after : World) (j : ℕ) : Type 0 where
  pub phase_is : phase_at after j ≡ ended_under source tag (phase_at before j)
  pub ticket_is : (slot_at after.endpoint j).ticket ≡ (slot_at before.endpoint j).ticket
  pub store_is : store_at after j ≡ store_at before j

-- the packets of a command m, received in the world w
pub record Arrived (w : World) (source tag : ℕ) (m : List ℕ) (ps : List (List ℕ)) : Type 0 where
  -- 0 .. 0, 1; then taking gives the slot's next ticket, and the reading call hands back the command, byte for byte
  pub answered :
      events (receives ps ++ (take! (csi_of m) ∷ read (csi_of m) ∷ [])) w
      ≡ replicate (over_unit (unit_of w) (length m) - 1) (number 0) ++ (number 1 ∷ given (next_of w (csi_of m)) ∷ part_read m ∷ [])
  pub sound : Sound (world_after (receives ps) w)
  -- the slot is in Process with that command
  pub in_process : phase_at (world_after (receives ps) w) (csi_of m) ≡ Process (command_of source tag m)
  pub ticket_next : (slot_at (world_after (receives ps) w).endpoint (csi_of m)).ticket ≡ next_of w (csi_of m)
  -- the store's front is the command, and the bytes behind it are as they were
  pub store_is : store_at (world_after (receives ps) w) (csi_of m) ≡ m ++ drop (length m) (store_at w (csi_of m))
  -- the other slot: an assembly under this source and tag has ended, else its phase is as it was; so are its ticket and its store
  pub other_is : (j : ℕ) → j ≤ 1 → (j ≡ csi_of m → ⊥) → Untouched source tag w (world_after (receives ps) w) j

-- Any sound state and stores, the other slot anywhere; any requester with the endpoint's unit ("2026-01 needs one U at both ends"), any tag, and a
-- buffer that is long enough; any well-formed command that no test at entry answers, while its slot is Idle. The cut is done, and its packets bring the
-- command to the slot.
abbrev pub CommandArrives : Type 0
CommandArrives =
    (w : World) (r : Requester) (tag : ℕ) (m buffer : List ℕ) → Sound w → Valid r → r.unit ≡ unit_of w → tag ≤ 7 → WellFormed false m
    → size_of r.unit m ≤ length buffer
    → is_idle_now (phase_at w (csi_of m)) ≡ true → fixed_at_entry (csi_of m) m ≡ []
    → (send_says (cut_to r w.endpoint.eid tag m buffer).answer ≡ (0, size_of r.unit m ∷ []))
    × Arrived w r.eid tag m (packets_in r.unit m (cut_to r w.endpoint.eid tag m buffer))
