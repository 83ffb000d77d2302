-- The premises of the statements about lists of calls can be met: one table, by computation. Each row is what a closed run shows.
-- Assumes nothing.
use Rattle.std.specs.Prelude.{ℕ, ◌≡◌, refl, Bool, true, false, List, [], ◌∷◌, length, get_or, replicate}
use Rattle.crc32c.specs.Crc32c.{crc32c, reflect, register, steps, step as step_crc}
use Rattle.mctp.specs.Header.{read_header}
use Rattle.mctp.specs.Cut.{packet as cut_packet}
use Rattle.mctp.specs.Gather.{join_refusal}
use Rattle.nvme_mi.specs.Message.{command_fault, control_fault}
use Rattle.nvme_mi.specs.Check.{check_right, with_check}
use Rattle.nvme_mi.specs.Response.{response}
use Rattle.machine.specs.State.{ticket, reply_message}
use Rattle.machine.specs.Calls.{Call, receive, take!, read, complete, declare, step, begin}
use Rattle.machine.specs.History.{History, phase_at, paused_at, is_packet_of, next, run, start, cuts}
use Rattle.machine.specs.Demands.{fate, is_process, is_answered}
use Rattle.examples.specs.Examples.{mi_20, nmimt_3, pause, abort, taking, completing, polling, answer}
use Rattle.examples.specs.Runs.{zeros, resume, seen}

-- ---- histories

abbrev new : History
new = start 8 64 zeros zeros

-- slot 0 has a command: it waits, is taken, and sends a response of one packet
abbrev waiting : History
waiting = run (mi_20 ∷ []) new

abbrev worked_on : History
worked_on = run (mi_20 ∷ taking ∷ []) new

abbrev sending : History
sending = run (mi_20 ∷ taking ∷ completing 4 ∷ []) new

-- the same under its pause flag
abbrev paused : History
paused = run (mi_20 ∷ taking ∷ pause ∷ []) new

-- a command that was taken, aborted, and followed by another
abbrev replaced : History
replaced = run (mi_20 ∷ taking ∷ abort ∷ mi_20 ∷ []) new

-- whether the command under slot 0's first ticket can still be stopped
abbrev declaring : Bool → Call
declaring can = declare 0 (ticket 1) can

-- it was declared that it can; and that it no longer can
abbrev pub stoppable : History
stoppable = run (mi_20 ∷ taking ∷ declaring true ∷ []) new

abbrev begun : History
begun = run (mi_20 ∷ taking ∷ declaring true ∷ declaring false ∷ []) new

-- one that can was aborted, and the next command is taken
abbrev taken_next : History
taken_next = run (mi_20 ∷ taking ∷ declaring true ∷ abort ∷ mi_20 ∷ taking ∷ []) new

-- ---- what is looked at

-- a call's answer in a history: its number; behind 0 a ticket, behind 1 a packet's length
abbrev says : Call → History → List ℕ
says c h = answer (step c h.world).event

-- what an Abort of slot 0 reports: the low byte of CPSR in the reply that waits
abbrev told : History → List ℕ
told h = get_or (reply_message (next abort h).world.endpoint.reply) 6 0 ∷ []

abbrev yes : Bool → List ℕ
yes true = 1 ∷ []
yes false = 0 ∷ []

-- ---- the table

pub shown : List (List ℕ)
shown =
    -- accepted_right: a command comes in whole
    says mi_20 new
    -- command_stays: it is in Process
    ∷ yes (is_process (phase_at waiting.world 0))
    -- taken_first: a take gives ticket 1; a completion is accepted; the request is read, 20 bytes, and nothing before the take
    ∷ says taking waiting
    ∷ says (completing 4) worked_on
    ∷ (length (says (read 0) worked_on) ∷ length (says (read 0) waiting) ∷ [])
    -- stale_refused: ticket 7 with a command in Process, and with none
    ∷ says (complete 0 (ticket 7) (replicate 4 0)) worked_on
    ∷ says (complete 0 (ticket 7) (replicate 4 0)) new
    -- never_stale: a packet of sixteen bytes leaves slot 0
    ∷ says polling sending
    ∷ yes (is_packet_of (phase_at sending.world 0) (phase_at (step polling sending.world).world 0) (step polling sending.world).event)
    -- ticket_rule: ticket 1 after a second command came in
    ∷ says (completing 4) replaced
    ∷ ((replaced.trace 0).entries ∷ [])
    ∷ says (declaring true) replaced
    -- ticket_own, declare_marks, mark_own: a declaration of the command that was taken is accepted, and the history has it
    ∷ says (declaring true) worked_on
    ∷ yes (stoppable.trace 0).stoppable
    -- abort_tells, told_stopped: of a command that waits, that is taken, that can still be stopped, that no longer can; and of the next one after
    -- that
    ∷ told waiting
    ∷ told worked_on
    ∷ told stoppable
    ∷ told begun
    ∷ told taken_next
    -- cut_stays, told_stopped: its ticket after the Abort, before another command comes in
    ∷ yes (is_process (phase_at stoppable.world 0))
    ∷ yes (cuts 0 abort stoppable.world)
    ∷ says (declaring false) (next abort stoppable)
    -- answer_arrives, under the flag: the completion is accepted and waits; a poll is not counted; after Resume the response goes out whole,
    -- with one poll counted
    ∷ says (completing 4) paused
    ∷ yes (is_answered (phase_at (next (completing 4) paused).world 0))
    ∷ seen 0 (fate 0 (polling ∷ resume ∷ polling ∷ []) (next (completing 4) paused))
    -- error_arrives: a response is fixed at the entry
    ∷ says nmimt_3 new
    ∷ (length ((next nmimt_3 new).trace 0).response ∷ [])
    -- abort_idles: an Abort that acts on slot 0
    ∷ yes (cuts 0 abort sending.world)
    -- flags_move: Pause sets the flag, Resume clears it
    ∷ yes (paused_at paused.world 0)
    ∷ yes (paused_at (next resume paused).world 0)
    -- refused_packet, refused_call, and 40 with stores of another length
    ∷ says (receive (replicate 4 1)) new
    ∷ says (take! 7) new
    ∷ answer (step polling (begin 8 64 [] zeros)).event
    ∷ []

pub premises : shown
    ≡ (1 ∷ [])
    ∷ (1 ∷ [])
    ∷ (0 ∷ 1 ∷ [])
    ∷ (0 ∷ [])
    ∷ (20 ∷ 0 ∷ [])
    ∷ (32 ∷ [])
    ∷ (31 ∷ [])
    ∷ (1 ∷ 16 ∷ [])
    ∷ (1 ∷ [])
    ∷ (32 ∷ [])
    ∷ (2 ∷ [])
    ∷ (32 ∷ [])
    ∷ (0 ∷ [])
    ∷ (1 ∷ [])
    ∷ (1 ∷ [])
    ∷ (2 ∷ [])
    ∷ (1 ∷ [])
    ∷ (2 ∷ [])
    ∷ (2 ∷ [])
    ∷ (1 ∷ [])
    ∷ (1 ∷ [])
    ∷ (31 ∷ [])
    ∷ (0 ∷ [])
    ∷ (1 ∷ [])
    ∷ (1 ∷ 1 ∷ 12 ∷ [])
    ∷ (1 ∷ [])
    ∷ (12 ∷ [])
    ∷ (1 ∷ [])
    ∷ (1 ∷ [])
    ∷ (0 ∷ [])
    ∷ (10 ∷ [])
    ∷ (30 ∷ [])
    ∷ (40 ∷ [])
    ∷ []
unfolding shown step begin run next start fate read_header join_refusal cut_packet command_fault control_fault response with_check check_right crc32c reflect register steps step_crc
premises = refl
