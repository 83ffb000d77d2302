-- One store at its slot's place: what the steps that are lent a single store speak of.
-- Assumes nothing.
use Rattle.std.specs.Prelude.{ℕ, List}
use Rattle.machine.specs.State.{World, world, with_store}
use Rattle.machine.specs.declared.Endpoint.{Endpoint}

-- the endpoint with slot i's own store at its place, and the other store beside it
abbrev pub placed : ℕ → Endpoint → List ℕ → List ℕ → World
placed i e own other = with_store (world e other other) i own
