-- The answer numbers that the controller's end adds to document 01's.
-- Assumes nothing.
use Rattle.std.specs.Prelude.{ℕ}

-- receiving: source and tag are not those that are awaited; at the endpoint this number says that a slot is not Idle
abbrev pub not_awaited : ℕ
not_awaited = 20

-- a message of another size than 8 to 4,224 bytes, or a message tag above 7
abbrev pub out_of_range : ℕ
out_of_range = 41
