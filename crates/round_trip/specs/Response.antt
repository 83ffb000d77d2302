-- THE WAY BACK: a response, as the endpoint's polls hand it out, is gathered by the requester that awaits it. The proofs: `responses_formed`
-- (proofs/Formed), `response_arrives` (proofs/Response).
-- Assumes nothing.
use Rattle.std.specs.Prelude.{ℕ, ◌≤◌, ◌≡◌, Bool, true, ◌&&◌, ◌||◌, List, [], ◌∷◌, ◌++◌, eqb, length, if◌then◌else◌}
use Rattle.mctp.specs.Cut.{cut}
use Rattle.opening.specs.Formed.{WellFormed}
use Rattle.machine.specs.Calls.{Call, Event, number, given, part_read, handed_out, step}
use Rattle.machine.specs.History.{History, phase_at, is_transmit, is_packet_of, unit_of, next, last_packet_out}
use Rattle.machine.specs.Demands.{Every, fate, delivered, route_of, is_answered}
use Rattle.controller.specs.State.{Side, Valid}
use Rattle.controller.specs.Grounds.{is_awaited}
use Rattle.controller.specs.Arrival.{Gathered}

-- every response that the endpoint fixes, by a completion or at entry, is well formed
abbrev pub ResponsesFormed : Type 0
ResponsesFormed = Every (λ h. (i : ℕ) → i ≤ 1 → ((h.trace i).response ≡ [] → ⊥) → WellFormed true (h.trace i).response)

-- ---- what polls hand out

abbrev pub bytes_handed_out : Event → List ℕ
bytes_handed_out (number n) = []
bytes_handed_out (given t) = []
bytes_handed_out (part_read s) = []
bytes_handed_out (handed_out s) = s

-- slot i's packet, if a call hands one out
abbrev pub packet_from : ℕ → Call → History → List (List ℕ)
packet_from i c h =
    if is_packet_of (phase_at h.world i) (phase_at (next c h).world i) (step c h.world).event then bytes_handed_out (step c h.world).event ∷ [] else []

-- slot i's packets along a list of calls, up to its last one
unfoldable pub sent_until : ℕ → List Call → History → List (List ℕ)
unfolding next
sent_until i [] h = []
sent_until i (c ∷ cs) h = packet_from i c h ++ (if last_packet_out i c h then [] else sent_until i cs (next c h))

-- ---- and what becomes of it

-- slot i's packets are those of the response that belongs to its ticket, cut for the requester of its command; and the requester gathers them: 0 .. 0,
-- then 1 with the length, the response at the store's front, nothing awaited
pub record Returned (i : ℕ) (h : History) (ps : List (List ℕ)) : Type 0 where
  pub packets_are : ps ≡ cut (unit_of h.world) (route_of h i) (h.trace i).response
  pub gathered :
      (s : Side) → Valid s.requester → length s.store ≡ 4224 → s.requester.eid ≡ (h.trace i).requester → s.requester.unit ≡ unit_of h.world
      → is_awaited h.world.endpoint.eid (h.trace i).tag s.requester.awaiting ≡ true → Gathered s (h.trace i).response ps

-- a response is there and no packet of it went: it waits in Process under its slot's flag, or is in Transmit
abbrev pub is_unsent : ℕ → History → Bool
is_unsent i h = is_answered (phase_at h.world i) || (is_transmit (phase_at h.world i) && eqb (h.trace i).packets 0)

-- Any list of calls from any setup, after which slot i has a response of which no packet went; any later list along which its last packet is handed
-- out, whatever else is called between (it is by the last of `most_polls` counted polls, unless the slot is aborted or the endpoint reset first:
-- `demand_3`, and for one that waits `answer_arrives` and `error_arrives`). Any requester that has the endpoint's unit and the EID from which the
-- command came, and awaits the endpoint's EID and the command's tag; the slot's packets come to it with no other call between.
abbrev pub ResponseArrives : Type 0
ResponseArrives =
    Every (λ h. (i : ℕ) → i ≤ 1 → is_unsent i h ≡ true → (ys : List Call) (k : History) → fate i ys h ≡ delivered k → Returned i h (sent_until i ys h))
