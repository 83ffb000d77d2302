-- The premises of `told_stopped` and `abort_returns` can be met: the requester builds an Abort of a command that can still be stopped, the endpoint
-- answers it, and the requester reads that it was stopped with no effect; by computation.
-- Assumes nothing.
use Rattle.std.specs.Prelude.{ℕ, ◌≡◌, refl, List, [], ◌∷◌, get_or, take, replicate}
use Rattle.crc32c.specs.Crc32c.{crc32c, reflect, register, steps, step as step_crc}
use Rattle.mctp.specs.Header.{read_header}
use Rattle.mctp.specs.Cut.{packet as cut_packet}
use Rattle.mctp.specs.Gather.{join_refusal}
use Rattle.nvme_mi.specs.Message.{command_fault, control_fault}
use Rattle.nvme_mi.specs.Check.{check_right, with_check}
use Rattle.nvme_mi.specs.Response.{response}
use Rattle.machine.specs.Calls.{receive, step}
use Rattle.machine.specs.History.{History, phase_at, is_abort, run, start}
use Rattle.machine.specs.Demands.{is_process}
use Rattle.machine.specs.Replies.{reply_fate}
use Rattle.controller.specs.State.{key, requester, Side, side}
use Rattle.controller.specs.Send.{primitive_to}
use Rattle.controller.specs.Receive.{receive_says, received}
use Rattle.controller.specs.declared.Awaiting.TheVariants.{Awaited}
use Rattle.round_trip.specs.Abort.{abort_of}
use Rattle.examples.specs.Examples.{answer}
use Rattle.examples.specs.Runs.{zeros}
use Rattle.examples.specs.Premises.{stoppable}
use Rattle.examples.specs.Exchange.{controller, yes, said, polls, reply_in}

-- an Abort of slot 0 under tag 2, built by the requester
abbrev abort_0 : List ℕ
abort_0 = 1 ∷ 8 ∷ 9 ∷ 0xCA ∷ 0x84 ∷ 0 ∷ 0 ∷ 0 ∷ 2 ∷ 0x5A ∷ 0 ∷ 0 ∷ 0x99 ∷ 0x14 ∷ 0xAA ∷ 0xE6 ∷ []

pub abort_built : take 16 (primitive_to controller 8 2 (abort_of 0 0x5A 0) (replicate 16 0)).buffer ≡ abort_0
unfolding primitive_to cut_packet with_check crc32c reflect register steps step_crc
abort_built = refl

-- the requester awaits EID 8 under tag 2
abbrev awaiting : Side
awaiting = side (requester 9 64 (Awaited (key 8 2))) zeros

-- what it is told by a packet: its answer, and the low byte of CPSR in its store
abbrev reads : List ℕ → List (List ℕ)
reads p = said (receive_says (received awaiting p).answer) ∷ (get_or (received awaiting p).side.store 6 0 ∷ []) ∷ []

-- the command is in Process, the Abort acts on it and is answered with 2; the packet of its reply, which the requester gathers with 2 and 12 bytes,
-- and in which it reads 1
abbrev shown : History → List (List ℕ)
shown h =
    let reply = reply_in (reply_fate 0 polls (step (receive abort_0) h.world).world) in
    yes (is_process (phase_at h.world 0)) ∷ yes (is_abort 0 8 abort_0) ∷ answer (step (receive abort_0) h.world).event ∷ reply ∷ reads reply

pub abort_read : shown stoppable
    ≡ (1 ∷ [])
    ∷ (1 ∷ [])
    ∷ (2 ∷ [])
    ∷ (1 ∷ 9 ∷ 8 ∷ 0xC2 ∷ 0x84 ∷ 0x80 ∷ 0 ∷ 0 ∷ 0 ∷ 0x5A ∷ 1 ∷ 0 ∷ 0x9B ∷ 0xA1 ∷ 0x01 ∷ 0xBF ∷ [])
    ∷ (2 ∷ 12 ∷ [])
    ∷ (1 ∷ [])
    ∷ []
unfolding step reply_fate run start received read_header join_refusal cut_packet command_fault control_fault response with_check check_right crc32c reflect register steps step_crc
abort_read = refl
