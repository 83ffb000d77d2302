-- One look-up is eight single-bit steps.
use lib.Bits.{bit_xor}
use Rattle.crc32c.specs.Reflected.{byte_step}
use Rattle.crc32c.proofs.LookUp.{by_table}
use Rattle.crc32c.proofs.byte_step.Goals as goal

pub returns : goal.returns
unfolding byte_step
returns c = rw c.from.ensures (by_table c.args.table.now c.requires (bit_xor c.args.x c.args.b))
