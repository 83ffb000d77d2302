-- Two digits a byte so far; with the rest in hex behind them the line is what is wanted.
use Rattle.std.proofs.Common.{◌≡◌, ◌++◌, ◌+◌, ◌*◌, length, drop}
use Rattle.log_records.specs.Records.{hex}
use Rattle.log_records.proofs.hex.Given as goal

abbrev pub invariant-loop-byte : goal.invariant-loop-byte
invariant-loop-byte l =
    (length l.line.items ≡ length l.initial.line.items + 2 * l.byte-index)
    × (l.line.items ++ hex (drop l.byte-index l.bytes) ≡ l.initial.line.items ++ hex l.bytes)
