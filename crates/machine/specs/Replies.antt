-- The control reply: what it says, what its primitive leaves, and that it is handed out. Its words are written from the document and borrow no
-- test of the machine. The proofs: `primitive_done`, `control_replied`, `reply_stays` and `reply_goes` (proofs/Replies).
-- Assumes nothing.
use Rattle.std.specs.Prelude.{ℕ, ◌+◌, ◌/◌, ◌%◌, ◌≤◌, ◌<◌, ◌≡◌, Bool, true, false, not, ◌&&◌, ◌||◌, List, [], ◌∷◌, ◌++◌, Option, None, Some, eqb, ltb, if◌then◌else◌}
use Rattle.std.specs.Option.{is_some}
use Rattle.lent.specs.Bytes.{byte_at, is_set}
use Rattle.nvme_mi.specs.Check.{with_check}
use Rattle.machine.specs.State.{World, slot, slot_at, held_in}
use Rattle.machine.specs.Receive.{received}
use Rattle.machine.specs.Valid.{phased, Sound}
use Rattle.machine.specs.Calls.{Call, receive, poll, reset, of_call, Event, number, given, part_read, handed_out, Stepped, step}
use Rattle.machine.specs.History.{source_of, message_tag_of, bytes_from4, phase_at, paused_at, receives_from, is_packet_of, by_number, has_room, one?, is_control}
use Rattle.machine.specs.Demands.{Every, is_idle_now, reply_packet}
use Rattle.machine.specs.Types.{Taking, Untaken, Taken, Response, Phase, Idle, Transmit, Slot, Endpoint}

-- ---- what a control primitive says: a message m of header, opcode, TAG, CPSP (2), check

-- bit 0 of byte 1
abbrev pub csi_of : List ℕ → ℕ
csi_of m = byte_at m 1 % 2

-- CPSP is 0: both bytes
abbrev pub no_cpsp : List ℕ → Bool
no_cpsp m = eqb (byte_at m 6) 0 && eqb (byte_at m 7) 0

-- a Replay (4) with another CPSP: "Only CPSP 0 is taken"
abbrev pub wrong_replay : List ℕ → Bool
wrong_replay m = not (no_cpsp m) && eqb (byte_at m 4) 4

-- MEB 1, CIAP 1, an opcode above 4 or a Replay with a CPSP: "none of these acts"
abbrev pub is_error : List ℕ → Bool
is_error m = is_set (byte_at m 2) 0 || is_set (byte_at m 2) 1 || ltb 4 (byte_at m 4) || wrong_replay m

-- A PRIMITIVE IS DONE. It is answered with 2, control done, and no other packet is.
abbrev pub PrimitiveDone : Type 0
PrimitiveDone = (w : World) (p : List ℕ) → Sound w → eqb (received w p).answer 2 ≡ is_control w.endpoint.eid p

-- ---- what it finds

-- slot i when a primitive in packet p acts. The packet has SOM: an assembly with its source and tag has ended first, and a slot that so enters
-- Idle loses its pause flag and holds no response.
abbrev pub slot_found : World → List ℕ → ℕ → Slot
slot_found w p i =
    if receives_from (source_of p) (message_tag_of p) (phase_at w i) then slot (slot_at w.endpoint i).ticket false (slot_at w.endpoint i).busy (Idle None)
    else slot_at w.endpoint i

-- ---- CPSR

-- the number where the test holds, else 0
abbrev pub worth : Bool → ℕ → ℕ
worth b n = if b then n else 0

abbrev pub aborted_process : Taking → ℕ
aborted_process Untaken = 1
aborted_process (Taken true) = 1
aborted_process (Taken false) = 2

-- Abort: Idle 0, Receive 1, Process untaken 1, Process taken 1 if it can still be stopped and else 2, Process with its response there 0, Transmit 0
abbrev pub aborted_in : Phase → ℕ
aborted_in = phased 0 (λ a. 1) (λ r. aborted_process r.taking) (λ r. 0) (λ r. 0)

-- Get State: Idle 0, Receive 1, Process 2, Transmit 3
abbrev pub state_of : Phase → ℕ
state_of = phased 0 (λ a. 1) (λ r. 2) (λ r. 2) (λ r. 3)

-- Replay: 1 if the slot is Idle and holds a response, else 0
abbrev pub holds_one : Option Response → ℕ
holds_one None = 0
holds_one (Some r) = 1

-- of a primitive m that finds its slot as s and these flags. Pause: the pause flags of slots 0 and 1 afterwards, bits 0 and 1. Resume: 0. Get
-- State: the slot's state, its bit 3, the endpoint's bits 4 to 12 and 14, and its pause flag as bit 15.
abbrev pub cpsr_of : List ℕ → Slot → ℕ → World → ℕ
cpsr_of m s flags after =
    if eqb (byte_at m 4) 0 then worth (paused_at after 0) 1 + worth (paused_at after 1) 2
    else if eqb (byte_at m 4) 1 then 0
    else if eqb (byte_at m 4) 2 then aborted_in s.phase
    else if eqb (byte_at m 4) 3 then state_of s.phase + worth s.busy 0x8 + flags + worth s.paused 0x8000
    else holds_one (held_in s.phase)

-- ---- the reply

-- status 04h with the bit and the byte of MEB, CIAP or CPSP, or 03h, and no TAG; else 00h, the primitive's TAG, and CPSR low byte first
abbrev pub body_of : List ℕ → ℕ → List ℕ
body_of m cpsr =
    if is_set (byte_at m 2) 0 then 4 ∷ 0 ∷ 2 ∷ 0 ∷ []
    else if is_set (byte_at m 2) 1 then 4 ∷ 1 ∷ 2 ∷ 0 ∷ []
    else if ltb 4 (byte_at m 4) then 3 ∷ 0 ∷ 0 ∷ 0 ∷ []
    else if wrong_replay m then 4 ∷ 0 ∷ 6 ∷ 0 ∷ []
    else 0 ∷ byte_at m 5 ∷ cpsr % 256 ∷ cpsr / 256 % 256 ∷ []

-- 84h, ROR 1 with NMIMT 0 and the primitive's CSI, two zeros, the body, the check
abbrev pub reply_of : List ℕ → ℕ → List ℕ
reply_of m cpsr = with_check ((0x84 ∷ (128 + csi_of m) ∷ 0 ∷ 0 ∷ []) ++ body_of m cpsr)

-- ---- what it leaves

-- "A slot in Process with its response there and its own flag clear goes to Transmit at once."
abbrev pub unpaused : Phase → Phase
unpaused p = phased p (λ a. p) (λ r. p) (λ r. Transmit (record { response = r; sent = 0 })) (λ r. p) p

-- Replay: the response that the slot holds goes to Transmit, none of its packets sent; a slot that holds none stays as it is
abbrev pub sent_again : Option Response → Slot → Slot
sent_again None s = s
sent_again (Some r) s = slot s.ticket s.paused s.busy (Transmit (record { response = r; sent = 0 }))

-- slot j, found as s. Pause: the flag of each slot that is not Idle. Resume: no flag. Abort: the primitive's slot is Idle and
-- holds no response. Get State: with CPSP bit 0, the slot's bit 3 is cleared. Replay: what the slot holds is sent again; its ticket stays.
abbrev pub acted_on : List ℕ → ℕ → Slot → Slot
acted_on m j s =
    if eqb (byte_at m 4) 0 then slot s.ticket (not (is_idle_now s.phase)) s.busy s.phase
    else if eqb (byte_at m 4) 1 then slot s.ticket false s.busy (unpaused s.phase)
    else if not (eqb j (csi_of m)) then s
    else if eqb (byte_at m 4) 2 then slot s.ticket false s.busy (Idle None)
    else if eqb (byte_at m 4) 3 then (if is_set (byte_at m 6) 0 then slot s.ticket s.paused false s.phase else s)
    else sent_again (held_in s.phase) s

-- Get State with CPSP bit 0: after reporting, bits 4 to 14 are cleared
abbrev pub flags_after : List ℕ → ℕ → ℕ
flags_after m flags = if eqb (byte_at m 4) 3 && is_set (byte_at m 6) 0 then 0 else flags

-- a primitive in packet p, and the world after it
pub record Replied (w : World) (p : List ℕ) (after : World) : Type 0 where
  -- a reply waits, for the packet's sender under its tag
  pub reply_is :
      after.endpoint.reply
      ≡ Some (record {
        to = source_of p;
        tag = message_tag_of p;
        message = reply_of (bytes_from4 p) (cpsr_of (bytes_from4 p) (slot_found w p (csi_of (bytes_from4 p))) w.endpoint.flags after);
      })
  -- an error changes no slot and no flag
  pub slots_are : (j : ℕ) → j ≤ 1 → slot_at after.endpoint j ≡ (if is_error (bytes_from4 p) then slot_found w p j else acted_on (bytes_from4 p) j (slot_found w p j))
  pub flags_are : after.endpoint.flags ≡ (if is_error (bytes_from4 p) then w.endpoint.flags else flags_after (bytes_from4 p) w.endpoint.flags)
  -- nothing else changes
  pub eid_is : after.endpoint.eid ≡ w.endpoint.eid
  pub turn_is : after.endpoint.turn ≡ w.endpoint.turn
  pub last_is : after.endpoint.last_control ≡ w.endpoint.last_control
  pub store0_is : after.store0 ≡ w.store0
  pub store1_is : after.store1 ≡ w.store1

-- A CONTROL REPLY BELONGS TO ITS PRIMITIVE. Any packet that is answered with 2, control done, in any sound state.
abbrev pub ControlReplied : Type 0
ControlReplied = (w : World) (p : List ℕ) → Sound w → (received w p).answer ≡ 2 → Replied w p (received w p).world

-- ---- the packet with which it goes

abbrev pub is_packet : Event → Bool
is_packet (number n) = false
is_packet (given t) = false
is_packet (part_read s) = false
is_packet (handed_out s) = true

-- a packet of no slot's response was handed out: "Control replies belong to no slot."
abbrev pub is_control_out : World → Stepped → Bool
is_control_out w s =
    is_packet s.event && not (is_packet_of (phase_at w 0) (phase_at s.world 0) s.event) && not (is_packet_of (phase_at w 1) (phase_at s.world 1) s.event)

-- the same reply for the same requester, or none as before
pub record SameReply (e f : Endpoint) : Type 0 where
  pub same_reply : f.reply ≡ e.reply
  pub same_eid : f.eid ≡ e.eid

-- a receive that answers 2, or a reset: the reply that waited is replaced or gone
abbrev pub replaces : Call → Event → Bool
replaces c v = of_call (λ p. by_number (λ n. eqb n 2) false v) (λ buffer. false) true false c

-- what a call does to the reply
pub data ReplyAfter (w : World) : Call → Stepped → Type 0 where
  -- it stays, and no control packet is handed out
  stays : {c : Call} {s : Stepped} → replaces c s.event ≡ false → is_control_out w s ≡ false → SameReply w.endpoint s.world.endpoint → ReplyAfter w c s
  -- it waited, a poll hands it out, and it waits no more
  goes : {buffer : List ℕ} {s : Stepped} → is_some w.endpoint.reply ≡ true → is_control_out w s ≡ true → s.event ≡ handed_out (reply_packet w.endpoint)
      → s.world.endpoint.reply ≡ None → ReplyAfter w (poll buffer) s
  -- "a newer one replaces it"
  newer : {p : List ℕ} {s : Stepped} → is_control_out w s ≡ false → s.event ≡ number 2 → ReplyAfter w (receive p) s
  -- reset: "control reply gone"
  by_reset : {s : Stepped} → is_control_out w s ≡ false → s.world.endpoint.reply ≡ None → ReplyAfter w reset s

-- A WAITING REPLY STAYS until a poll hands it out, a newer one replaces it, or a reset; and it is handed out once. Any call, in any sound state.
abbrev pub ReplyStays : Type 0
ReplyStays = (c : Call) (w : World) → Sound w → ReplyAfter w c (step c w)

-- ---- what happens first to the reply that waits

pub data ReplyFate : Type 0 where
  -- a newer one replaced it, or the endpoint was reset
  replaced : ReplyFate
  -- a control packet was handed out; the polls with room by then, that one included, and what it answered
  sent : ℕ → Event → ReplyFate
  -- neither, and the list has ended; the polls with room so far, and the state then
  waiting : ℕ → Endpoint → ReplyFate

-- a poll with a buffer of at least U + 4 bytes, whatever the pause flags
abbrev pub polls_with_room : Call → World → Bool
polls_with_room c w = of_call (λ p. false) (λ buffer. has_room w buffer) false false c

unfoldable pub reply_fate : ℕ → List Call → World → ReplyFate
unfolding step
reply_fate n [] w = waiting n w.endpoint
reply_fate n (c ∷ cs) w =
    if replaces c (step c w).event then replaced
    else if is_control_out w (step c w) then sent (n + one? (polls_with_room c w)) (step c w).event
    else reply_fate (n + one? (polls_with_room c w)) cs (step c w).world

-- the promise for the reply of the state e
abbrev pub GoesWithin : ℕ → Endpoint → ReplyFate → Type 0
GoesWithin most e replaced = Unit {0}
GoesWithin most e (sent n v) = (n ≤ most) × (v ≡ handed_out (reply_packet e))
GoesWithin most e (waiting n f) = (n < most) × SameReply e f

-- A WAITING REPLY GOES. Any list of calls from any setup, after which a reply waits, and any later list: unless a newer one replaces it or a
-- reset comes first, that reply is handed out by the second poll with room.
abbrev pub ReplyGoes : Type 0
ReplyGoes = Every (λ h. is_some h.world.endpoint.reply ≡ true → (ys : List Call) → GoesWithin 2 h.world.endpoint (reply_fate 0 ys h.world))
