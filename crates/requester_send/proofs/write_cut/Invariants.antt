-- After k turns the message's first k packets lie end to end at the front of the buffer.
use Rattle.std.proofs.Common.{◌≡◌, ◌++◌, length, drop}
use Rattle.mctp.specs.Cut.{cut_from, end_to_end}
use Rattle.requester_send.proofs.write_cut.Given as goal

abbrev pub invariant-loop-k : goal.invariant-loop-k
invariant-loop-k l =
    (l.at ≡ length (end_to_end (cut_from l.unit l.route l.message 0 l.k))) × (l.out ≡ end_to_end (cut_from l.unit l.route l.message 0 l.k) ++ drop l.at l.initial.out)
