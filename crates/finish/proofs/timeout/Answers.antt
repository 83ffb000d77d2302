-- A timeout keeps the invariant: the state is what `timed_out` leaves.
use Rattle.std.proofs.Common.{◌≡◌, arith}
use Rattle.std.proofs.lemmas.Grind.{common_steps}
use Rattle.std.specs.Int.Bits.{bit_or}
use Rattle.machine.specs.State.{with_flags}
use Rattle.machine.specs.Finish.{timed_out}
use Rattle.machine.proofs.Keeps.{timeout_valid}
use Rattle.finish.proofs.timeout.Goals as goal

pub invariant_of-endpoint : goal.invariant_of-endpoint
unfolding timed_out
invariant_of-endpoint c =
    let dropped = c.drop_slot.new.endpoint in
    let e : with_flags dropped (bit_or dropped.flags 32) ≡ (timed_out c.endpoint.inside.state c.args.slot).endpoint = grind (arith, common_steps) in
    rw e (timeout_valid c.endpoint.inside.state c.args.slot c.endpoint.invariant)
