-- What an end of the bus is set up with: its EID, and its transmission unit, the largest payload of a packet (U of document 02). "Setup: EID 8 to
-- 254, else 38"; "Both setups [..] take U from 64 to 250, else 39, tested after 38".
-- Assumes nothing.
use Rattle.std.specs.Prelude.{ℕ, not, ◌&&◌, ◌||◌, leb, ltb, if◌then◌else◌}

abbrev pub first_eid : ℕ
first_eid = 8

abbrev pub last_eid : ℕ
last_eid = 254

abbrev pub least_unit : ℕ
least_unit = 64

abbrev pub most_unit : ℕ
most_unit = 250

-- ---- the answers

abbrev pub wrong_eid : ℕ
wrong_eid = 38

abbrev pub wrong_unit : ℕ
wrong_unit = 39

-- 0 where there is no refusal. "beside either stands the state for EID 8, U 64", the first EID and the least unit.
unfoldable pub setup_refusal : ℕ → ℕ → ℕ
setup_refusal eid unit =
    if ltb eid first_eid || ltb last_eid eid then wrong_eid
    else if ltb unit least_unit || ltb most_unit unit then wrong_unit
    else 0

-- the same in numbers: 38 EID not 8 to 254; 39 unit not 64 to 250; else 0
abbrev pub setup_number : ℕ → ℕ → ℕ
setup_number eid unit =
    if not (leb 8 eid && leb eid 254) then 38
    else if not (leb 64 unit && leb unit 250) then 39
    else 0
