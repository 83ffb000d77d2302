-- What document 01's "Receiving" says of bytes alone, for either end: its second table but for 20, and the check of a message that is whole.
-- Assumes nothing.
use Rattle.std.specs.Prelude.{ℕ, Result, Ok, Err, Bool, not, ◌&&◌, ◌||◌, List, eqb, ltb, length, if◌then◌else◌}
use Rattle.lent.specs.Bytes.{byte_at}
use Rattle.mctp.specs.Header.{same}
use Rattle.mctp.specs.Gather.{not_full, is_cut}
use Rattle.mctp.specs.declared.Header.{Header}
use Rattle.nvme_mi.specs.Message.{message_type, control, smallest, control_size, message_header}
use Rattle.nvme_mi.specs.Check.{check_right}
use Rattle.opening.specs.declared.First.{First}
use Rattle.opening.specs.declared.First.TheVariants.{Control, Command}
use Rattle.opening.specs.declared.Joined.{Joined}
use Rattle.opening.specs.declared.Joined.TheVariants.{More, Wrong, Whole}

-- the first byte is not 84h, or ROR is the other one: a request has ROR 0, a response ROR 1
abbrev pub wrong_message : ℕ
wrong_message = 15

abbrev pub message_too_short : ℕ
message_too_short = 17

-- a control primitive is one packet of 12 bytes
abbrev pub not_twelve : ℕ
not_twelve = 18

abbrev pub check_wrong : ℕ
check_wrong = 19

-- the message of a first packet
unfoldable pub opened : ℕ → Bool → Header → List ℕ → Result First ℕ
opened unit ror h m =
    if not (eqb (byte_at m 0) message_type) then Err wrong_message
    else if is_cut unit h (length m) then Err not_full
    else if h.eom && ltb (length m) smallest then Err message_too_short
    else if not (same (message_header m).ror ror) then Err wrong_message
    else if not (eqb (message_header m).nmimt control) then Ok Command
    else if not h.eom || not (eqb (length m) control_size) then Err not_twelve
    else if not (check_right m) then Err check_wrong
    else Ok Control

-- the message that a packet is a part of, with that packet
unfoldable pub joined_in : List ℕ → Bool → Joined
joined_in message eom =
    if not eom then More
    else if not (check_right message) then Wrong
    else Whole
