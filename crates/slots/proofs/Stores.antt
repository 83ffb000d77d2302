-- What a call leaves beside both stores.
-- Assumes nothing.
use Rattle.machine.specs.State.{Outcome}
use Rattle.machine.specs.Valid.{Valid}

-- the state beside an answer has the invariant
abbrev pub Stays : Outcome → Type 0
Stays o = Valid o.world.endpoint
