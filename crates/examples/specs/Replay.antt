-- The premises of `held_is`, `replay_sends`, `replay_arrives`, `replay_same` and `replay_returns` can be met: the exchange of `Exchange` goes on. The
-- response was sent; the requester lost it and asks for it again, by computation.
-- Assumes nothing.
use Rattle.std.specs.Prelude.{ℕ, ◌≡◌, Option, None, Some, refl, List, [], ◌∷◌, ◌++◌, take, replicate}
use Rattle.crc32c.specs.Crc32c.{crc32c, reflect, register, steps, step as step_crc}
use Rattle.mctp.specs.Header.{read_header}
use Rattle.mctp.specs.Cut.{packet as cut_packet}
use Rattle.mctp.specs.Gather.{join_refusal}
use Rattle.nvme_mi.specs.Message.{command_fault, control_fault}
use Rattle.nvme_mi.specs.Check.{check_right, with_check}
use Rattle.nvme_mi.specs.Response.{response}
use Rattle.machine.specs.State.{reply_message}
use Rattle.machine.specs.Calls.{receive, step}
use Rattle.machine.specs.History.{History, next, run, start}
use Rattle.machine.specs.Demands.{fate}
use Rattle.machine.specs.Replays.{held_at, is_replay}
use Rattle.controller.specs.Send.{primitive_to}
use Rattle.round_trip.specs.Response.{sent_until, is_unsent}
use Rattle.round_trip.specs.Replay.{replay_of}
use Rattle.examples.specs.Examples.{answer}
use Rattle.examples.specs.Runs.{seen}
use Rattle.examples.specs.Exchange.{controller, yes, first_back, second_back, answered, polls}
use Rattle.machine.specs.declared.Response.{Response}

-- what is held: to whom, under which tag, its length
abbrev shown_held : Option Response → List ℕ
shown_held None = []
shown_held (Some r) = r.requester ∷ r.tag ∷ r.length ∷ []

-- a Replay of slot 1 under tag 1, built by the requester
abbrev replay_1 : List ℕ
replay_1 = 1 ∷ 8 ∷ 9 ∷ 0xC9 ∷ 0x84 ∷ 1 ∷ 0 ∷ 0 ∷ 4 ∷ 0x5A ∷ 0 ∷ 0 ∷ 0x23 ∷ 0x2A ∷ 0xEC ∷ 0x4A ∷ []

pub replay_built : take 16 (primitive_to controller 8 1 (replay_of 1 0x5A) (replicate 16 0)).buffer ≡ replay_1
unfolding primitive_to cut_packet with_check crc32c reflect register steps step_crc
replay_built = refl

-- after the response was sent, and after the Replay
pub held : History
held = run polls answered

pub replayed : History
replayed = next (receive replay_1) held

-- ---- the table

-- of the history with the response sent, and of the one after the Replay
abbrev shown : History → History → List (List ℕ)
shown h k =
    -- held_is: slot 1 held nothing while it sent, and holds 69 bytes for EID 9 under tag 1 then; it has had one command
    shown_held (held_at answered.world 1)
    ∷ shown_held (held_at h.world 1)
    ∷ ((h.trace 1).entries ∷ [])
    -- replay_sends: a Replay of slot 1, answered with 2; no packet of the response has gone then, and the slot holds nothing
    ∷ yes (is_replay 1 8 replay_1)
    ∷ answer (step (receive replay_1) h.world).event
    ∷ yes (is_unsent 1 k)
    ∷ shown_held (held_at k.world 1)
    -- its reply, with CPSR 1
    ∷ reply_message k.world.endpoint.reply
    -- replay_arrives: the reply goes first, then both packets; six polls were counted in all, and 69 bytes joined
    ∷ seen 1 (fate 1 polls k)
    -- replay_same, replay_returns: the same two packets as the first time, and the slot holds the response again
    ∷ (sent_until 1 polls k ++ (shown_held (held_at (run polls k).world 1) ∷ []))

pub again : shown held replayed
    ≡ []
    ∷ (9 ∷ 1 ∷ 69 ∷ [])
    ∷ (1 ∷ [])
    ∷ (1 ∷ [])
    ∷ (2 ∷ [])
    ∷ (1 ∷ [])
    ∷ []
    ∷ (0x84 ∷ 0x81 ∷ 0 ∷ 0 ∷ 0 ∷ 0x5A ∷ 1 ∷ 0 ∷ 0x53 ∷ 0x8D ∷ 0x02 ∷ 0xD7 ∷ [])
    ∷ (1 ∷ 6 ∷ 69 ∷ [])
    ∷ first_back
    ∷ second_back
    ∷ (9 ∷ 1 ∷ 69 ∷ [])
    ∷ []
unfolding held replayed answered fate sent_until step next run start read_header join_refusal cut_packet command_fault control_fault response with_check check_right crc32c reflect register steps step_crc
again = refl
