-- The premises of the statements about the control reply can be met: a closed run, by computation.
-- Assumes nothing.
use Rattle.std.specs.Prelude.{◌≡◌, refl, true, [], ◌∷◌, replicate}
use Rattle.std.specs.Option.{is_some}
use Rattle.crc32c.specs.Crc32c.{crc32c, reflect, register, steps, step as step_crc}
use Rattle.mctp.specs.Header.{read_header}
use Rattle.mctp.specs.Cut.{packet as cut_packet}
use Rattle.mctp.specs.Gather.{join_refusal}
use Rattle.nvme_mi.specs.Message.{command_fault, control_fault}
use Rattle.nvme_mi.specs.Check.{check_right, with_check}
use Rattle.nvme_mi.specs.Response.{response}
use Rattle.machine.specs.Calls.{number, handed_out, step}
use Rattle.machine.specs.History.{History, run, start}
use Rattle.machine.specs.Replies.{sent, reply_fate}
use Rattle.examples.specs.Examples.{mi_20, get_state, taking, completing, polling}

-- slot 0 has a response to send, the last packet handed out was a control reply, and another waits
pub before_reply : History
before_reply = run (mi_20 ∷ taking ∷ completing 4 ∷ get_state ∷ polling ∷ get_state ∷ []) (start 8 64 (replicate 4224 0) (replicate 4224 0))

pub reply_is_waiting : is_some before_reply.world.endpoint.reply ≡ true
unfolding before_reply run start read_header join_refusal cut_packet command_fault control_fault response with_check check_right crc32c reflect register steps step_crc
reply_is_waiting = refl

-- a newer one would replace it
pub reply_newer : (step get_state before_reply.world).event ≡ number 2
unfolding before_reply step run start read_header join_refusal cut_packet command_fault control_fault response with_check check_right crc32c reflect register steps step_crc
reply_newer = refl

-- slot 0's packet goes first, and the reply by the second poll: 00h, TAG 5Ah, CPSR 3 (Transmit)
pub reply_second : reply_fate 0 (polling ∷ polling ∷ polling ∷ []) before_reply.world
    ≡ sent 2 (handed_out (0x01 ∷ 0x09 ∷ 0x08 ∷ 0xC2 ∷ 0x84 ∷ 0x80 ∷ 0 ∷ 0 ∷ 0 ∷ 0x5A ∷ 3 ∷ 0 ∷ 0x75 ∷ 0x91 ∷ 0x44 ∷ 0x98 ∷ []))
unfolding before_reply step run start reply_fate read_header join_refusal cut_packet command_fault control_fault response with_check check_right crc32c reflect register steps step_crc
reply_second = refl
