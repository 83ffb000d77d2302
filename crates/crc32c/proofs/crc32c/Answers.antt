-- The constant is a table, and the register after the bytes, inverted, is the check.
use Rattle.std.proofs.Common.{ℕ, ap, sym, refl, ◌∙◌}
use lib.Bits.{bit_xor}
use Rattle.crc32c.specs.Reflected.{bit_step, bit_steps, entry}
use Rattle.crc32c.proofs.Entries.{entries}
use Rattle.crc32c.proofs.LookUp.{is_table}
use Rattle.crc32c.proofs.Same.{same}
use Rattle.crc32c.proofs.crc32c.Goals as goal

-- the test: all 256 entries of the constant are computed, and compared, at once
pub register_after-requires : goal.register_after-requires
unfolding entries entry bit_steps bit_step
register_after-requires c = is_table refl

pub returns : goal.returns
returns c =
    ap (λ (x : ℕ). bit_xor x 0xFFFFFFFF) c.register_after.ensures
    ∙ sym (same c.args.bytes.now (λ i. (c.type_inv.bytes i).fits))
