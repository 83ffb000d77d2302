-- Setup and awaiting.
-- Assumes nothing.
use Rattle.std.specs.Prelude.{ℕ, Bool, eqb, ltb, if◌then◌else◌}
use Rattle.mctp.specs.Setup.{first_eid, least_unit, setup_refusal}
use Rattle.machine.specs.Answers.{done}
use Rattle.controller.specs.Answers.{out_of_range}
use Rattle.controller.specs.State.{Done, key, requester, ended}
use Rattle.controller.specs.Types.{Nothing, Awaited, Requester}

-- "Its setup is as 01's", and takes a unit: 38 and 39 are `mctp`'s, and beside either stands the state for EID 8 and the unit 64. Nothing is awaited.
unfoldable pub was_set_up : ℕ → ℕ → Done
unfolding setup_refusal
was_set_up eid unit =
    if eqb (setup_refusal eid unit) 0 then ended done (requester eid unit Nothing)
    else ended (setup_refusal eid unit) (requester first_eid least_unit Nothing)

-- "a tag above 7, also in awaiting, gets 41"
abbrev pub wrong_tag : ℕ → Bool
wrong_tag tag = ltb 7 tag

-- "Awaiting anew ends an assembly", also one of the same source and tag
unfoldable pub now_awaits : Requester → ℕ → ℕ → Done
now_awaits r source tag =
    if wrong_tag tag then ended out_of_range r
    else ended done (requester r.eid r.unit (Awaited (key source tag)))
