-- The input's places are kept, a line fits behind the output, and the run is where turns, reads and writes led.
use Rattle.std.proofs.Common.{◌≡◌, ◌+◌, ◌≤◌, true, length}
use Rattle.log_records.specs.Records.{line_room}
use Rattle.mi_log.specs.Run.{output_size, is_on, held, unread, Within}
use Rattle.mi_log.specs.Whole.{Ran}
use Rattle.mi_log.proofs.run_all.Given as goal

abbrev pub invariant-loop : goal.invariant-loop
invariant-loop g l =
    Within l.run (length l.buf)
    × (is_on l.run.next ≡ true → length l.out.items + line_room ≤ output_size)
    × Ran output_size (held l.run (unread l.run l.buf) l.out.items l.store0 l.store1)
