-- "Polling".
-- Assumes nothing.
use Rattle.std.specs.Prelude.{ℕ, ◌+◌, Bool, not, ◌&&◌, ◌||◌, List, [], ◌∷◌, ◌++◌, Option, None, Some, Result, Ok, Err, eqb, ltb, length, take, drop, if◌then◌else◌}
use Rattle.std.specs.Option.{is_some}
use Rattle.mctp.specs.Cut.{packets, packet}
use Rattle.machine.specs.Answers.{nothing_to_send, packet_sent_number, short_buffer, wrong_stores_number}
use Rattle.machine.specs.State.{World, outgoing, slot_at, store_at, with_slot, with_phase, holding, reply_sent, packet_sent}
use Rattle.machine.specs.Wire.{packet_room, route_to, wrong_stores}
use Rattle.machine.specs.Types.{Outgoing, Phase, Idle, Receive, Process, Answered, Transmit, Slot, Reply, Endpoint}

-- what a poll answers, the state that it leaves, and the lent buffer; it writes no store
pub record Polled : Type 0 where
  pub answer : Result (Option ℕ) ℕ
  pub endpoint : Endpoint
  pub buffer : List ℕ

abbrev pub polled_to : Result (Option ℕ) ℕ → Endpoint → List ℕ → Polled
polled_to a e buffer = record { answer = a; endpoint = e; buffer = buffer }

-- document 01's number for what polling answers, and the values beside it: behind 1 the packet's length
abbrev pub poll_says : Result (Option ℕ) ℕ → ℕ × List ℕ
poll_says (Err n) = (n, [])
poll_says (Ok None) = (nothing_to_send, [])
poll_says (Ok (Some n)) = (packet_sent_number, n ∷ [])

-- ---- "A command packet is ready if a slot is in Transmit and neither pause flag is set."

-- slot i's response where it is in Transmit, else what the other choice gives
abbrev pub sending_or : ℕ → Phase → Option (ℕ × Outgoing) → Option (ℕ × Outgoing)
sending_or i (Idle k) other = other
sending_or i (Receive a) other = other
sending_or i (Process r) other = other
sending_or i (Answered r) other = other
sending_or i (Transmit r) other = Some (i, r)

-- a packet of it went
abbrev pub has_begun : Outgoing → Bool
has_begun r = ltb 0 r.sent

abbrev pub begun_or : ℕ → Phase → Option (ℕ × Outgoing) → Option (ℕ × Outgoing)
begun_or i (Idle k) other = other
begun_or i (Receive a) other = other
begun_or i (Process r) other = other
begun_or i (Answered r) other = other
begun_or i (Transmit r) other = if has_begun r then Some (i, r) else other

abbrev pub other_slot : ℕ → ℕ
other_slot i = if eqb i 0 then 1 else 0

-- "A begun response goes on to its end; with none begun, the slot other than the one that last began goes first if in Transmit."
unfoldable pub chosen : Endpoint → Option (ℕ × Outgoing)
chosen e =
    begun_or 0 (slot_at e 0).phase
    (begun_or 1 (slot_at e 1).phase
    (sending_or e.turn (slot_at e e.turn).phase
    (sending_or (other_slot e.turn) (slot_at e (other_slot e.turn)).phase
    None)))

abbrev pub any_paused : Endpoint → Bool
any_paused e = (slot_at e 0).paused || (slot_at e 1).paused

unfoldable pub ready : Endpoint → Option (ℕ × Outgoing)
unfolding chosen
ready e = if any_paused e then None else chosen e

-- ---- what goes

-- "Bytes behind the packet stay."
abbrev pub sent : List ℕ → Endpoint → List ℕ → Polled
sent bytes e buffer = polled_to (Ok (Some (length bytes))) e (bytes ++ drop (length bytes) buffer)

abbrev pub control_packet : Endpoint → Reply → List ℕ
control_packet e r = packet e.unit (route_to e r.to r.tag) r.message 0

unfoldable pub sent_control : Endpoint → Reply → List ℕ → Polled
sent_control e r buffer = sent (control_packet e r) (reply_sent e) buffer

-- packet number `sent` of the response at the front of the slot's store
abbrev pub command_packet : World → ℕ → Outgoing → List ℕ
command_packet w i r =
    packet w.endpoint.unit (route_to w.endpoint r.response.requester r.response.tag) (take r.response.length (store_at w i)) r.sent

-- the packet that goes next is the response's last
abbrev pub is_last : ℕ → Outgoing → Bool
is_last unit r = eqb (r.sent + 1) (packets unit r.response.length)

-- one more of its packets went
abbrev pub advanced : Outgoing → Outgoing
advanced r = outgoing r.response (r.sent + 1)

-- "After its last packet a slot is Idle." It holds the response.
abbrev pub after_packet : ℕ → Slot → Outgoing → Slot
after_packet unit s r =
    if is_last unit r then holding s r.response
    else with_phase s (Transmit (advanced r))

-- slot i is then the one that last began
unfoldable pub sent_command : World → ℕ → Outgoing → List ℕ → Polled
sent_command w i r buffer =
    sent (command_packet w i r)
    (packet_sent (with_slot w.endpoint i (after_packet w.endpoint.unit (slot_at w.endpoint i) r)) (other_slot i))
    buffer

-- a control reply waits, and the last packet handed out was not control
abbrev pub reply_first : Endpoint → Bool
reply_first e = is_some e.reply && not e.last_control

-- "If a control reply waits and either the last packet handed out was not control or no command packet is ready, it goes. Otherwise a
-- ready command packet goes, else answer 0."
abbrev pub polled_by : World → List ℕ → Option Reply → Option (ℕ × Outgoing) → Polled
polled_by w buffer None None = polled_to (Ok None) w.endpoint buffer
polled_by w buffer None (Some (i, r)) = sent_command w i r buffer
polled_by w buffer (Some reply) None = sent_control w.endpoint reply buffer
polled_by w buffer (Some reply) (Some (i, r)) =
    if reply_first w.endpoint then sent_control w.endpoint reply buffer
    else sent_command w i r buffer

unfoldable pub polled : World → List ℕ → Polled
unfolding ready sent_control sent_command
polled w buffer =
    if wrong_stores w then polled_to (Err wrong_stores_number) w.endpoint buffer
    else if ltb (length buffer) (packet_room w.endpoint) then polled_to (Err short_buffer) w.endpoint buffer
    else polled_by w buffer w.endpoint.reply (ready w.endpoint)
