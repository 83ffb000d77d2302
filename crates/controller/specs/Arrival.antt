-- A response that is cut and comes packet by packet is gathered. The proof: `response_gathered` (proofs/Arrival). With the endpoint's own polls and calls
-- it is `response_arrives` in `round_trip`.
-- Assumes nothing.
use Rattle.std.specs.Prelude.{ℕ, ◌-◌, ◌≡◌, true, false, List, [], ◌∷◌, ◌++◌, length, drop, replicate}
use Rattle.mctp.specs.Cut.{cut}
use Rattle.mctp.specs.Feed.{answers, left}
use Rattle.mctp.specs.declared.Route.{Route}
use Rattle.opening.specs.Formed.{WellFormed}
use Rattle.machine.specs.History.{over_unit}
use Rattle.controller.specs.State.{Side, Valid}
use Rattle.controller.specs.Receive.{receive_says, received}
use Rattle.controller.specs.Grounds.{is_awaited}
use Rattle.controller.specs.Types.{Nothing}

-- to this requester, TO 0
abbrev pub route_back : ℕ → ℕ → ℕ → Route
route_back eid source tag = record { destination = eid; source = source; to = false; tag = tag }

-- the requester as a receiver of packets: it answers a number, and the length beside it
abbrev pub at_requester : Side → List ℕ → (ℕ × List ℕ) × Side
at_requester s p = (receive_says (received s p).answer, (received s p).side)

-- 0 to each packet of a message but its last, then 1 with the length
abbrev pub wholly : ℕ → List ℕ → List (ℕ × List ℕ)
wholly unit m = replicate (over_unit unit (length m) - 1) (0, []) ++ ((1, length m ∷ []) ∷ [])

-- the message is at the store's front, the bytes behind it are as they were, and nothing is awaited any more
pub record Came (before : Side) (m : List ℕ) (after : Side) : Type 0 where
  pub eid_same : after.requester.eid ≡ before.requester.eid
  pub unit_same : after.requester.unit ≡ before.requester.unit
  pub nothing_awaited : after.requester.awaiting ≡ Nothing
  pub store_is : after.store ≡ m ++ drop (length m) before.store

-- these packets are gathered to this message
pub record Gathered (s : Side) (m : List ℕ) (ps : List (List ℕ)) : Type 0 where
  pub answered : answers at_requester s ps ≡ wholly s.requester.unit m
  pub came : Came s m (left at_requester s ps)

-- any requester that awaits the source and tag, with an assembly of them begun or not; any store of 4,224 bytes; any well-formed
-- response, cut for the requester's unit
abbrev pub ResponseGathered : Type 0
ResponseGathered =
    (s : Side) (source tag : ℕ) (m : List ℕ) → Valid s.requester → length s.store ≡ 4224 → is_awaited source tag s.requester.awaiting ≡ true → WellFormed true m
    → Gathered s m (cut s.requester.unit (route_back s.requester.eid source tag) m)
