-- It is a state that the calls accept: an Idle slot may have any ticket count.
use Rattle.std.proofs.Common.{refl, arith}
use Rattle.machine.specs.State.{fresh, ticket}
use Rattle.machine.proofs.Keeps.{kept_quiet}
use Rattle.bench.proofs.before_wrap.Goals as goal

pub invariant_of-endpoint : goal.invariant_of-endpoint
invariant_of-endpoint c = kept_quiet 0 (omega arith) c.endpoint.invariant (fresh (ticket 4294967295)) (refl, tt) refl
