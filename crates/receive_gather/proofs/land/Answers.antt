-- A message whose check is right holds its check, so it is longer than a message header.
use Rattle.std.proofs.Common.{arith, sym, ◌∙◌}
use Rattle.receive_gather.proofs.Sizes.{whole_long}
use Rattle.receive_gather.proofs.land.Goals as goal

pub read_message_header-message_header-requires : goal.read_message_header-message_header-requires
read_message_header-message_header-requires c = omega (arith, whole_long _ _ (sym c.joined_in.ensures ∙ c.in-Whole.is))
