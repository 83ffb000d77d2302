-- "The log program" whole: all bytes of standard input, to all bytes of standard output.
-- Assumes nothing.
use Rattle.std.specs.Prelude.{ℕ, zero, suc, ◌+◌, ◌≡◌, refl, List, [], ◌∷◌, ◌++◌, length, take, drop, replicate, Option, Some, None, Result, Ok, Err}
use Rattle.mctp.specs.Header.{read_header}
use Rattle.machine.specs.Receive.{received}
use Rattle.machine.specs.Poll.{polled}
use Rattle.machine.specs.Finish.{timed_out, was_set_up}
use Rattle.machine.specs.Wire.{store_size}
use Rattle.log_records.specs.Records.{head_size, headed, newline, number_line}
use Rattle.log_records.specs.declared.Head.{Head}
use Rattle.log_records.specs.declared.BadRecord.{BadRecord}
use Rattle.log_session.specs.Log.{at_start, Recorded, recorded}
use Rattle.log_session.specs.declared.Session.{Session}

-- `bad` and a newline
abbrev pub bad_line : List ℕ
bad_line = 98 ∷ 97 ∷ 100 ∷ newline ∷ []

-- the input ends and these bytes are no whole record: nothing is left, or a record is cut
abbrev pub last_line : List ℕ → List ℕ
last_line [] = []
last_line (b ∷ cut) = bad_line

-- what is printed for an input, from a session and its two stores
abbrev pub Printing : Type 0
Printing = Session → List ℕ → List ℕ → List ℕ → List ℕ

-- a record's line, and behind it the rest of the input
abbrev pub going_on : Printing → List ℕ → Recorded → List ℕ
going_on rest input r = r.line ++ rest r.session r.store0 r.store1 input

-- by what stands at the front of the input; `rest` is for what stands behind a record
abbrev pub by_head : Printing → Session → List ℕ → List ℕ → List ℕ → Result (Option Head) BadRecord → List ℕ
by_head rest s a b input (Err e) = bad_line
by_head rest s a b input (Ok None) = last_line input
by_head rest s a b input (Ok (Some h)) =
    going_on rest (drop (head_size + h.size) input) (recorded s a b h.tag (take h.size (drop head_size input)))

-- with no more than so many records
unfoldable pub printed_in : ℕ → Printing
unfolding headed recorded
printed_in zero s a b input = []
printed_in (suc k) s a b input = by_head (printed_in k) s a b input (headed input)

-- with all records, which are no more than the bytes. That the number is no limit is proved (proofs/Whole): any larger one gives the same,
-- `enough`, and `owed s a b input` is `by_head owed s a b input (headed input)`, `owed_by`.
unfoldable pub owed : Printing
unfolding printed_in
owed s a b input = printed_in (length input) s a b input

-- THE LOG PROGRAM
unfoldable pub logged : List ℕ → List ℕ
unfolding owed
logged input = owed at_start (replicate store_size 0) (replicate store_size 0) input

-- the document's whole case: 13, 0, 37
pub whole_case : logged (0x01 ∷ 0x05 ∷ 0x00 ∷ 0x01 ∷ 0x09 ∷ 0x10 ∷ 0xC8 ∷ 0x84 ∷ 0x02 ∷ 0x00 ∷ 0x00 ∷ 0x03 ∷ 0x01 ∷ 0x00 ∷ 0x00 ∷ [])
    ≡ number_line 13 ++ number_line 0 ++ number_line 37
unfolding logged recorded received polled timed_out was_set_up read_header
whole_case = refl
