-- What the register makes of the bytes that are left is what the first register makes of all.
use Rattle.std.proofs.Common.{◌≡◌, drop}
use Rattle.crc32c.specs.Crc32c.{start}
use Rattle.crc32c.specs.Reflected.{through}
use Rattle.crc32c.proofs.register_after.Given as goal

abbrev pub invariant-loop-b : goal.invariant-loop-b
invariant-loop-b l = through l.x (drop l.b-index l.bytes) ≡ through start l.bytes
