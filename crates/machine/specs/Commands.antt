-- What can happen to a command: how it comes in, that nothing takes its place while it is worked on, and how it is taken and completed.
-- The proofs: `accepted_right`, `command_stays`, `taken_first`, `fixed_once` (proofs/Commands).
-- Assumes nothing.
use Rattle.std.specs.Prelude.{ℕ, ◌+◌, ◌-◌, ◌*◌, ◌≤◌, ◌≡◌, true, ◌&&◌, List, [], eqb, ltb, length, take, if◌then◌else◌}
use Rattle.lent.specs.Bytes.{byte_at}
use Rattle.crc32c.specs.Crc32c.{crc32c}
use Rattle.machine.specs.State.{World, slot_at, store_at}
use Rattle.machine.specs.Calls.{Call, receive, take!, read, complete, number, given, part_read, step}
use Rattle.machine.specs.History.{Trace, History, phase_at, is_for, request_with, source_of, message_tag_of, kind_of, fixed_at_entry, cuts}
use Rattle.machine.specs.Demands.{Every, is_process, Presents}
use Rattle.machine.specs.Types.{Ticket, Untaken, Request, Process}

-- "The last four bytes are CRC-32C of everything before them, low byte first": of a message of at least eight bytes
pub record RightCheck (m : List ℕ) : Type 0 where
  pub enough : 8 ≤ length m
  pub checked :
      byte_at m (length m - 4) + byte_at m (length m - 4 + 1) * 256 + byte_at m (length m - 4 + 2) * 65536 + byte_at m (length m - 4 + 3) * 16777216
      ≡ crc32c (take (length m - 4) m)

-- answer 1: the packet is for one of the slots, whose payloads, joined with this one, are a message with a right check. Where no test at the
-- entry failed, the slot is then in Process, untaken, with the message at its store's front, its length, sender, tag and NMIMT.
pub record Accepted (w : World) (trace : ℕ → Trace) (p : List ℕ) (after : World) : Type 0 where
  pub slot : ℕ
  pub slot_is : slot ≤ 1
  pub for_it : is_for slot p w ≡ true
  pub right : RightCheck (request_with p (trace slot))
  pub waits : fixed_at_entry slot (request_with p (trace slot)) ≡ []
      → (phase_at after slot
      ≡ Process
      (record { source = source_of p; tag = message_tag_of p; kind = kind_of (request_with p (trace slot)); length = length (request_with p (trace slot)); taking = Untaken }))
      × (take (length (request_with p (trace slot))) (store_at after slot) ≡ request_with p (trace slot))

abbrev pub AcceptedRight : Type 0
AcceptedRight =
    Every (λ h. (p : List ℕ) → (step (receive p) h.world).event ≡ number 1 → Accepted h.world h.trace p (step (receive p) h.world).world)

-- the same command, perhaps taken or with another mark: its sender, tag, NMIMT and length, its ticket, and the request at the store's front
pub record SameCommand (h : History) (c : Call) (i : ℕ) (r : Request) : Type 0 where
  pub now : Request
  pub in_process : phase_at (step c h.world).world i ≡ Process now
  pub same_source : now.source ≡ r.source
  pub same_tag : now.tag ≡ r.tag
  pub same_kind : now.kind ≡ r.kind
  pub same_length : now.length ≡ r.length
  pub same_ticket : (slot_at (step c h.world).world.endpoint i).ticket ≡ (slot_at h.world.endpoint i).ticket
  pub same_bytes : take r.length (store_at (step c h.world).world i) ≡ take r.length (store_at h.world i)

-- a command that is in Process without its response leaves it only by a completion that is accepted, an Abort that acts, or a reset
pub data Stays (h : History) (c : Call) (i : ℕ) (r : Request) : Type 0 where
  worked_on : SameCommand h c i r → Stays h c i r
  answered : (t : Ticket) (body : List ℕ) → c ≡ complete i t body → (step c h.world).event ≡ number 0 → Stays h c i r
  cut_off : cuts i c h.world ≡ true → Stays h c i r

abbrev pub CommandStays : Type 0
CommandStays = Every (λ h. (c : Call) (i : ℕ) → i ≤ 1 → (r : Request) → phase_at h.world i ≡ Process r → Stays h c i r)

pub record TakenOnce (h : History) (i : ℕ) : Type 0 where
  -- a take gives the ticket only if none did since the command came in
  pub once : (t : Ticket) → (step (take! i) h.world).event ≡ given t → (h.trace i).takes ≡ 0
  -- a completion or a declaration that is accepted had its take since then
  pub first : (t : Ticket) (c : Call) → Presents i t c → (step c h.world).event ≡ number 0 → (h.trace i).takes ≡ 1
  -- reading gives the request while the command is taken and not completed, and nothing else
  pub reads : (step (read i) h.world).event ≡ part_read (if ltb i 2 && (is_process (phase_at h.world i) && eqb (h.trace i).takes 1) then (h.trace i).request else [])

abbrev pub TakenFirst : Type 0
TakenFirst = Every (λ h. (i : ℕ) → TakenOnce h i)

-- a response is fixed once for an entry: where a completion is accepted, none was fixed before
abbrev pub FixedOnce : Type 0
FixedOnce = Every (λ h. (i : ℕ) (t : Ticket) (body : List ℕ) → (step (complete i t body) h.world).event ≡ number 0 → (h.trace i).response ≡ [])
