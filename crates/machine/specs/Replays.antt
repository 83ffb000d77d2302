-- What an Idle slot holds, of document 02: what it is, when a slot comes to hold it, what loses it and what keeps it; and what a Replay makes of
-- it. The words are written from the documents and borrow no test of the machine. The proofs: `held_is`, `held_moves`, `replay_sends`,
-- `replay_arrives` (proofs/Replays).
-- Assumes nothing.
use Rattle.std.specs.Prelude.{ℕ, ◌+◌, ◌%◌, ◌≤◌, ◌≡◌, Bool, true, false, ◌&&◌, ◌||◌, List, [], Option, None, Some, eqb, length, take, if◌then◌else◌}
use Rattle.lent.specs.Bytes.{byte_at}
use Rattle.machine.specs.State.{World, held_in, slot_at, store_at, reply_message}
use Rattle.machine.specs.Calls.{Call, receive, of_call, Event, number, step}
use Rattle.machine.specs.History.{History, bytes_from4, phase_at, is_transmit, is_for, by_number, is_primitive, cuts, unit_of, next, over_unit, packets_left, last_packet_out}
use Rattle.machine.specs.Demands.{Every, Within, fate, most_polls}
use Rattle.machine.specs.Refusals.{is_command}
use Rattle.machine.specs.Replies.{no_cpsp, reply_of}
use Rattle.machine.specs.Types.{Response}

-- ---- what is held

-- what slot i holds; in a state other than Idle a slot holds nothing
abbrev pub held_at : World → ℕ → Option Response
held_at w i = held_in (phase_at w i)

-- the response for the slot's ticket: to the sender of the slot's last command, under its tag
abbrev pub response_of : History → ℕ → Response
response_of h i = record { requester = (h.trace i).requester; tag = (h.trace i).tag; length = length (h.trace i).response }

pub record IsHeld (h : History) (i : ℕ) (r : Response) : Type 0 where
  pub response_is : r ≡ response_of h i
  pub least : 12 ≤ r.length
  pub most : r.length ≤ 4224
  -- it lies at the front of the slot's store
  pub lies : take r.length (store_at h.world i) ≡ (h.trace i).response

-- WHAT IS HELD is the response for the slot's ticket, whole
abbrev pub HeldIs : Type 0
HeldIs = Every (λ h. (i : ℕ) → i ≤ 1 → (r : Response) → held_at h.world i ≡ Some r → IsHeld h i r)

-- ---- how it comes and goes

-- "a command packet is stored for the slot (refused with 19 or not)"
abbrev pub is_stored : ℕ → List ℕ → World → ℕ → Bool
is_stored i p w n = is_for i p w && (eqb n 0 || eqb n 1 || (eqb n 19 && is_command p))

abbrev pub stores : ℕ → Call → World → Event → Bool
stores i c w v = of_call (λ p. by_number (λ n. is_stored i p w n) false v) (λ buffer. false) false false c

-- a Replay (4) for slot i that acts: CPSP 0, its CSI is i
abbrev pub is_replay : ℕ → ℕ → List ℕ → Bool
is_replay i eid p = is_primitive 4 eid p && no_cpsp (bytes_from4 p) && eqb (byte_at (bytes_from4 p) 1 % 2) i

abbrev pub replays : ℕ → Call → World → Bool
replays i c w = of_call (λ p. is_replay i w.endpoint.eid p) (λ buffer. false) false false c

-- after its last packet a slot holds the response. "The held response is lost once a command packet is stored for the slot [..], at its Abort and
-- at reset"; a Replay sends it. Nothing else changes what a slot holds.
abbrev pub held_after : ℕ → Call → History → Option Response
held_after i c h =
    if last_packet_out i c h then Some (response_of h i)
    else if stores i c h.world (step c h.world).event then None
    else if cuts i c h.world then None
    else if replays i c h.world then None
    else held_at h.world i

-- HOW IT COMES AND GOES. Any list of calls from any setup, any call, either slot.
abbrev pub HeldMoves : Type 0
HeldMoves = Every (λ h. (c : Call) (i : ℕ) → i ≤ 1 → held_at (step c h.world).world i ≡ held_after i c h)

-- ---- what a Replay does

-- the response is sent again from its first packet on: the slot is in Transmit, none of its packets went, and the response, its requester, its tag,
-- the slot's ticket and its entries are as they were. The reply's CPSR is 1.
pub record SentAgain (h : History) (i : ℕ) (p : List ℕ) : Type 0 where
  pub done : (step (receive p) h.world).event ≡ number 2
  pub reply_is : reply_message (next (receive p) h).world.endpoint.reply ≡ reply_of (bytes_from4 p) 1
  pub in_transmit : is_transmit (phase_at (next (receive p) h).world i) ≡ true
  pub none_went : ((next (receive p) h).trace i).packets ≡ 0
  pub none_paid : ((next (receive p) h).trace i).payloads ≡ []
  pub all_left : packets_left i (next (receive p) h) ≡ over_unit (unit_of h.world) (length (h.trace i).response)
  pub same_response : ((next (receive p) h).trace i).response ≡ (h.trace i).response
  pub same_requester : ((next (receive p) h).trace i).requester ≡ (h.trace i).requester
  pub same_tag : ((next (receive p) h).trace i).tag ≡ (h.trace i).tag
  pub no_entry : ((next (receive p) h).trace i).entries ≡ (h.trace i).entries
  pub same_ticket : (slot_at (next (receive p) h).world.endpoint i).ticket ≡ (slot_at h.world.endpoint i).ticket

-- A REPLAY SENDS WHAT IS HELD
abbrev pub ReplaySends : Type 0
ReplaySends = Every (λ h. (p : List ℕ) (i : ℕ) → i ≤ 1 → is_replay i h.world.endpoint.eid p ≡ true → (r : Response) → held_at h.world i ≡ Some r → SentAgain h i p)

-- A REPLAYED RESPONSE IS NOT LOST. It goes out whole with at most `most_polls` more polls counted, unless the slot is aborted or the endpoint reset.
abbrev pub ReplayArrives : Type 0
ReplayArrives =
    Every (λ h. (p : List ℕ) (i : ℕ) → i ≤ 1 → is_replay i h.world.endpoint.eid p ≡ true → (r : Response) → held_at h.world i ≡ Some r → (ys : List Call)
    → Within (h.counted + most_polls (unit_of h.world)) i (h.trace i).response (fate i ys (next (receive p) h)))
