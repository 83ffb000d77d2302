-- Lists of calls on one endpoint, and what the words of "Demand 3 is one statement" mean on them. The history is observed from outside: from
-- the call, what it answered, and the states before and after it. Its words are written from the document and borrow no test of the machine.
-- Assumes nothing.
use Rattle.std.specs.Prelude.{ℕ, ◌+◌, ◌-◌, ◌*◌, ◌/◌, ◌%◌, Bool, true, false, not, ◌&&◌, ◌||◌, List, [], ◌∷◌, ◌++◌, eqb, leb, ltb, length, drop, if◌then◌else◌}
use Rattle.lent.specs.Bytes.{byte_at, is_set}
use Rattle.nvme_mi.specs.Check.{check_right, with_check}
use Rattle.machine.specs.State.{World, slot_at}
use Rattle.machine.specs.Calls.{Call, receive, take!, read, complete, declare, poll, timeout, reset, of_call, Event, number, given, part_read, handed_out, Stepped, step, begin}
use Rattle.machine.specs.Valid.{phased, all_of}
use Rattle.machine.specs.Types.{Phase}

-- ---- a packet's bytes

abbrev pub has_som : List ℕ → Bool
has_som p = is_set (byte_at p 3) 7

abbrev pub source_of : List ℕ → ℕ
source_of p = byte_at p 2

abbrev pub message_tag_of : List ℕ → ℕ
message_tag_of p = byte_at p 3 % 8

-- "payloads are their bytes from byte 4 on"
abbrev pub bytes_from4 : List ℕ → List ℕ
bytes_from4 p = drop 4 p

-- ---- what is seen of a slot

abbrev pub phase_at : World → ℕ → Phase
phase_at w i = (slot_at w.endpoint i).phase

abbrev pub paused_at : World → ℕ → Bool
paused_at w i = (slot_at w.endpoint i).paused

abbrev pub is_transmit : Phase → Bool
is_transmit = phased false (λ a. false) (λ r. false) (λ r. false) (λ r. true)

-- in Receive with this source and tag
abbrev pub receives_from : ℕ → ℕ → Phase → Bool
receives_from source tag = phased false (λ a. eqb a.source source && eqb a.tag tag) (λ r. false) (λ r. false) (λ r. false)

-- ---- what the history holds of a slot

pub record Trace : Type 0 where
  -- the command that is gathered, or was at the last entry into Process
  pub request : List ℕ
  -- who sent it, and under which tag: of the last entry into Process
  pub requester : ℕ
  pub tag : ℕ
  -- the response that belongs to the last entry into Process; empty until it is fixed
  pub response : List ℕ
  -- the slot's packets since it last entered Transmit, and their payloads joined
  pub packets : ℕ
  pub payloads : List ℕ
  -- entries into Process
  pub entries : ℕ
  -- takes since the last entry that gave a ticket
  pub takes : ℕ
  -- what was declared last since that take: whether the command can still be stopped. Where nothing was, it can't.
  pub stoppable : Bool

abbrev pub trace_of : List ℕ → ℕ → ℕ → List ℕ → ℕ → List ℕ → ℕ → ℕ → Bool → Trace
trace_of request requester tag response packets payloads entries takes stoppable =
    record {
      request = request;
      requester = requester;
      tag = tag;
      response = response;
      packets = packets;
      payloads = payloads;
      entries = entries;
      takes = takes;
      stoppable = stoppable;
    }

abbrev pub with_request : Trace → List ℕ → Trace
with_request l request = trace_of request l.requester l.tag l.response l.packets l.payloads l.entries l.takes l.stoppable

abbrev pub with_response : Trace → List ℕ → Trace
with_response l response = trace_of l.request l.requester l.tag response l.packets l.payloads l.entries l.takes l.stoppable

abbrev pub with_takes : Trace → ℕ → Bool → Trace
with_takes l takes stoppable = trace_of l.request l.requester l.tag l.response l.packets l.payloads l.entries takes stoppable

-- so many packets of the slot went, with these payloads
abbrev pub sending : Trace → ℕ → List ℕ → Trace
sending l packets payloads = trace_of l.request l.requester l.tag l.response packets payloads l.entries l.takes l.stoppable

-- ---- a command's packet: one that receiving answered with 0, more to come, or 1, command complete

-- with SOM the bit CSI names the slot; without, the slot is the one in Receive with this source and tag
abbrev pub is_for : ℕ → List ℕ → World → Bool
is_for i p w =
    if has_som p then eqb (byte_at p 5 % 2) i
    else receives_from (source_of p) (message_tag_of p) (phase_at w i)

abbrev pub request_with : List ℕ → Trace → List ℕ
request_with p l = (if has_som p then [] else l.request) ++ bytes_from4 p

abbrev pub gaining : List ℕ → Trace → Trace
gaining p l = with_request l (request_with p l)

-- ---- "The response for a slot's ticket belongs to its last entry into Process"

abbrev pub kind_of : List ℕ → ℕ
kind_of request = byte_at request 1 / 8 % 16

-- "the response header, the body [..], and the check": 84h, ROR 1 with the request's NMIMT and CSI, two zeros
abbrev pub response_for : ℕ → List ℕ → List ℕ → List ℕ
response_for i request body = with_check ((0x84 ∷ (128 + kind_of request * 8 + i) ∷ 0 ∷ 0 ∷ []) ++ body)

abbrev pub least_length : ℕ → ℕ
least_length kind = if eqb kind 1 then 20 else if eqb kind 2 then 72 else 24

-- "If a test there failed, it is the 12 bytes stated there"; else it is not fixed yet
abbrev pub fixed_at_entry : ℕ → List ℕ → List ℕ
fixed_at_entry i request =
    if not (eqb (kind_of request) 1 || eqb (kind_of request) 2 || eqb (kind_of request) 4) then response_for i request (4 ∷ 3 ∷ 1 ∷ 0 ∷ [])
    else if is_set (byte_at request 2) 0 then response_for i request (4 ∷ 0 ∷ 2 ∷ 0 ∷ [])
    else if ltb (length request) (least_length (kind_of request)) then response_for i request (5 ∷ 0 ∷ 0 ∷ 0 ∷ [])
    else []

-- slot i enters Process with this packet
abbrev pub entering : ℕ → List ℕ → Trace → Trace
entering i p l =
    trace_of (request_with p l) (source_of p) (message_tag_of p) (fixed_at_entry i (request_with p l)) l.packets l.payloads (l.entries + 1) 0 false

-- "Else it is [..] the body with which that command was completed"
abbrev pub completing : ℕ → List ℕ → Trace → Trace
completing i body l = with_response l (response_for i l.request body)

-- a take gave the command's ticket; nothing is declared of it yet
abbrev pub taking : Trace → Trace
taking l = with_takes l (l.takes + 1) false

-- it was declared of the taken command whether it can still be stopped
abbrev pub declaring : Bool → Trace → Trace
declaring can l = with_takes l l.takes can

abbrev pub by_number : {A : Type 0} → (ℕ → A) → A → Event → A
by_number f a (number n) = f n
by_number f a (given t) = a
by_number f a (part_read s) = a
by_number f a (handed_out s) = a

abbrev pub by_ticket : {A : Type 0} → A → A → Event → A
by_ticket b a (number n) = a
by_ticket b a (given t) = b
by_ticket b a (part_read s) = a
by_ticket b a (handed_out s) = a

-- what a call adds to slot i's command and its response
abbrev pub commanded : ℕ → Call → World → Event → Trace → Trace
commanded i (receive p) w v l =
    by_number (λ n. if eqb n 0 && is_for i p w then gaining p l else if eqb n 1 && is_for i p w then entering i p l else l) l v
commanded i (take! j) w v l = by_ticket (if eqb j i then taking l else l) l v
commanded i (read j) w v l = l
commanded i (complete j t body) w v l = by_number (λ n. if eqb n 0 && eqb j i then completing i body l else l) l v
commanded i (declare j t can) w v l = by_number (λ n. if eqb n 0 && eqb j i then declaring can l else l) l v
commanded i (poll buffer) w v l = l
commanded i (timeout j) w v l = l
commanded i reset w v l = l

-- ---- "A slot's packets are those that Polling sends from its response"

-- the slot was in Transmit and is at another packet now, or has left Transmit
abbrev pub moved : Phase → Phase → Bool
moved p q =
    phased false (λ a. false) (λ r. false) (λ r. false)
    (λ r. phased true (λ a. true) (λ x. true) (λ x. true) (λ x. not (eqb x.sent r.sent)) q) p

-- the packet that a poll handed out of slot i's response; control replies belong to no slot
abbrev pub is_packet_of : Phase → Phase → Event → Bool
is_packet_of p q (number n) = false
is_packet_of p q (given t) = false
is_packet_of p q (part_read s) = false
is_packet_of p q (handed_out s) = moved p q

abbrev pub payload_in : Event → List ℕ
payload_in (number n) = []
payload_in (given t) = []
payload_in (part_read s) = []
payload_in (handed_out s) = bytes_from4 s

-- "The first packet is the first since the slot last entered Transmit": then none went yet
abbrev pub transmitted : Phase → Phase → Event → Trace → Trace
transmitted p q v l =
    if not (is_transmit p) && is_transmit q then sending l 0 []
    else if is_packet_of p q v then sending l (l.packets + 1) (l.payloads ++ payload_in v)
    else l

-- ---- the history

pub record History : Type 0 where
  pub world : World
  -- of slots 0 and 1, by number
  pub trace : ℕ → Trace
  -- counted polls
  pub counted : ℕ

-- U of document 02: the unit of the state, which is the one that setup was given (`identity_kept`)
abbrev pub unit_of : World → ℕ
unit_of w = w.endpoint.unit

-- "a buffer of at least 68 bytes", U + 4
abbrev pub has_room : World → List ℕ → Bool
has_room w buffer = leb (unit_of w + 4) (length buffer)

-- "counting polls with a buffer of at least 68 bytes and no pause flag set"; "Pause flags are read just before the poll that is counted."
abbrev pub counts : Call → World → Bool
counts c w = of_call (λ p. false) (λ buffer. has_room w buffer && (not (paused_at w 0) && not (paused_at w 1))) false false c

abbrev pub one? : Bool → ℕ
one? b = if b then 1 else 0

abbrev pub trace_after : ℕ → Call → World → Stepped → Trace → Trace
trace_after i c w s l = transmitted (phase_at w i) (phase_at s.world i) s.event (commanded i c w s.event l)

unfoldable pub next : Call → History → History
unfolding step
next c h =
    record {
      world = (step c h.world).world;
      trace = λ i. trace_after i c h.world (step c h.world) (h.trace i);
      counted = h.counted + one? (counts c h.world);
    }

unfoldable pub run : List Call → History → History
unfolding next
run [] h = h
run (c ∷ cs) h = run cs (next c h)

-- "The list starts from a setup's state, whatever the setup answered, and any bytes in the stores"
unfoldable pub start : ℕ → ℕ → List ℕ → List ℕ → History
unfolding begin
start eid unit store0 store1 =
    record {
      world = begin eid unit store0 store1;
      trace = λ i. trace_of [] 0 0 [] 0 [] 0 0 false;
      counted = 0;
    }

-- ---- "A slot is aborted when an Abort acts on it; an error reply aborts nothing."

-- the packet of a control primitive that comes whole: sixteen bytes, version 1, to this EID, SOM, EOM and TO 1; message type 84h, ROR 0,
-- NMIMT 0; the check right
abbrev pub control_tests : ℕ → List ℕ → List Bool
control_tests eid p =
    eqb (length p) 16
    ∷ eqb (byte_at p 0 % 16) 1
    ∷ eqb (byte_at p 1) eid
    ∷ has_som p
    ∷ is_set (byte_at p 3) 6
    ∷ is_set (byte_at p 3) 3
    ∷ eqb (byte_at (bytes_from4 p) 0) 0x84
    ∷ not (is_set (byte_at (bytes_from4 p) 1) 7)
    ∷ eqb (byte_at (bytes_from4 p) 1 / 8 % 16) 0
    ∷ check_right (bytes_from4 p)
    ∷ []

abbrev pub is_control : ℕ → List ℕ → Bool
is_control eid p = all_of (control_tests eid p)

-- one that acts, with this opcode (0 to 3; of a Replay, 4, CPSP is 0 besides): MEB 0, CIAP 0
abbrev pub is_primitive : ℕ → ℕ → List ℕ → Bool
is_primitive opcode eid p =
    all_of
    (is_control eid p ∷ not (is_set (byte_at (bytes_from4 p) 2) 0) ∷ not (is_set (byte_at (bytes_from4 p) 2) 1) ∷ eqb (byte_at (bytes_from4 p) 4) opcode ∷ [])

-- an Abort (2) for slot i that acts: its CSI is i
abbrev pub is_abort : ℕ → ℕ → List ℕ → Bool
is_abort i eid p = is_primitive 2 eid p && eqb (byte_at (bytes_from4 p) 1 % 2) i

-- slot i is aborted, or the endpoint reset
abbrev pub cuts : ℕ → Call → World → Bool
cuts i c w = of_call (λ p. is_abort i w.endpoint.eid p) (λ buffer. false) true false c

-- ---- packets left

-- a length over U, rounded up
abbrev pub over_unit : ℕ → ℕ → ℕ
over_unit unit n = (n + (unit - 1)) / unit

-- "the response's length over 64, rounded up, less the slot's packets since it last entered Transmit", with U for 64
abbrev pub packets_left : ℕ → History → ℕ
packets_left i h = over_unit (unit_of h.world) (length (h.trace i).response) - (h.trace i).packets

-- the call hands out slot i's last packet
abbrev pub last_packet_out : ℕ → Call → History → Bool
last_packet_out i c h =
    is_packet_of (phase_at h.world i) (phase_at (next c h).world i) (step c h.world).event && eqb (packets_left i (next c h)) 0
