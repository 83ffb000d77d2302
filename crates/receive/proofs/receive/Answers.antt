-- The state keeps the invariant, as what `received` leaves does.
use Rattle.std.proofs.Common.{sym, subst}
use Rattle.machine.proofs.Keeps.{received_valid}
use Rattle.slots.proofs.Stores.{Stays}
use Rattle.receive.proofs.receive.Goals as goal

pub invariant_of-endpoint : goal.invariant_of-endpoint
invariant_of-endpoint c = subst Stays (sym c.take_in.ensures) (received_valid _ c.args.packet.now c.endpoint.invariant)
