-- How the pause flags move. The proof: `flags_move` (proofs/Pauses).
-- Assumes nothing.
use Rattle.std.specs.Prelude.{ℕ, ◌≤◌, ◌≡◌, Bool, true, false, not, ◌&&◌, ◌||◌, List, eqb, ltb, if◌then◌else◌}
use Rattle.lent.specs.Bytes.{byte_at, is_set}
use Rattle.machine.specs.State.{World}
use Rattle.machine.specs.Calls.{Call, of_call, Event, step}
use Rattle.machine.specs.History.{History, has_som, source_of, message_tag_of, phase_at, paused_at, receives_from, is_for, request_with, by_number, is_primitive}
use Rattle.machine.specs.Demands.{Every, is_idle_now}
use Rattle.machine.specs.Types.{Phase}

-- the packet completes slot i's command, and the command has CIAP 1
abbrev pub has_ciap : ℕ → List ℕ → History → Bool
has_ciap i p h = is_for i p h.world && is_set (byte_at (request_with p (h.trace i)) 2) 1

-- Pause (0) acts, or a command with CIAP 1 enters Process (answer 1)
abbrev pub pauses : Call → History → Event → Bool
pauses c h v =
    of_call
    (λ p. is_primitive 0 h.world.endpoint.eid p || by_number (λ n. eqb n 1 && (has_ciap 0 p h || has_ciap 1 p h)) false v)
    (λ buffer. false) false false c

-- Resume (1) acts
abbrev pub resumes : Call → History → Bool
resumes c h = of_call (λ p. is_primitive 1 h.world.endpoint.eid p) (λ buffer. false) false false c

-- a command's first packet that is taken in (answer 0 or 1) and ended an assembly of slot i: the slot was Idle in between
abbrev pub restarts : ℕ → Call → World → Event → Bool
restarts i c w v =
    of_call
    (λ p. by_number (λ n. ltb n 2 && (has_som p && receives_from (source_of p) (message_tag_of p) (phase_at w i))) false v)
    (λ buffer. false) false false c

-- an Idle slot has no flag; Pause and CIAP set it, Resume clears it, entering Idle clears it, and nothing else moves it
abbrev pub flag_after : Phase → Bool → Bool → Bool → Bool
flag_after now paused resumed before = if is_idle_now now then false else if paused then true else if resumed then false else before

abbrev pub FlagsMove : Type 0
FlagsMove =
    Every (λ h. (c : Call) (i : ℕ) → i ≤ 1
    → paused_at (step c h.world).world i
    ≡ flag_after (phase_at (step c h.world).world i) (pauses c h (step c h.world).event) (resumes c h)
    (paused_at h.world i && not (restarts i c h.world (step c h.world).event)))
