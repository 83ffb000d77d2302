-- The requester's state, "It awaits one source and tag at a time (none after setup)", and its lent store.
-- Assumes nothing.
use Rattle.std.specs.Prelude.{ℕ, ◌%◌, ◌≤◌, ◌≡◌, Bool, false, ◌&&◌, List, Result, eqb}
use Rattle.mctp.specs.Setup.{first_eid, last_eid, least_unit, most_unit}
use Rattle.machine.specs.Receive.{is_from}
use Rattle.controller.specs.Types.{Key, Awaiting, Nothing, Awaited, Gathering, Requester, Gathered}

abbrev pub key : ℕ → ℕ → Key
key source tag = record { source = source; tag = tag }

abbrev pub requester : ℕ → ℕ → Awaiting → Requester
requester eid unit a = record { eid = eid; unit = unit; awaiting = a }

-- what a call that is lent no store answers, and the state that it leaves
pub record Done : Type 0 where
  pub answer : ℕ
  pub requester : Requester

abbrev pub ended : ℕ → Requester → Done
ended n r = record { answer = n; requester = r }

-- ---- what is awaited

-- this source and tag
abbrev pub awaits : ℕ → ℕ → Awaiting → Bool
awaits source tag Nothing = false
awaits source tag (Awaited k) = eqb k.source source && eqb k.tag tag
awaits source tag (Gathering a) = is_from source tag a

-- the end of an assembly: what is awaited still is
abbrev pub unassembled : Awaiting → Awaiting
unassembled Nothing = Nothing
unassembled (Awaited k) = Awaited k
unassembled (Gathering a) = Awaited (key a.source a.tag)

-- ---- the requester and its lent store

pub record Side : Type 0 where
  pub requester : Requester
  pub store : List ℕ

abbrev pub side : Requester → List ℕ → Side
side r s = record { requester = r; store = s }

abbrev pub with_awaiting : Side → Awaiting → Side
with_awaiting s a = side (requester s.requester.eid s.requester.unit a) s.store

-- what receiving a packet answers, refused by number or what it did, and what it leaves
pub record Outcome : Type 0 where
  pub answer : Result Gathered ℕ
  pub side : Side

abbrev pub outcome : Result Gathered ℕ → Side → Outcome
outcome n s = record { answer = n; side = s }

-- ---- the invariant: what holds of every state that comes from a setup through the calls

-- what is gathered are full payloads alone, one at least
abbrev pub AwaitingFacts : ℕ → Awaiting → Type 0
AwaitingFacts unit Nothing = Unit {0}
AwaitingFacts unit (Awaited k) = k.tag ≤ 7
AwaitingFacts unit (Gathering a) = (a.tag ≤ 7) × (unit ≤ a.length) × (a.length ≤ 4224) × (a.length % unit ≡ 0)

pub record Valid (r : Requester) : Type 0 where
  pub eid_least : first_eid ≤ r.eid
  pub eid_most : r.eid ≤ last_eid
  pub unit_least : least_unit ≤ r.unit
  pub unit_most : r.unit ≤ most_unit
  pub awaiting_facts : AwaitingFacts r.unit r.awaiting
