-- The program between two calls of the system: what a turn, a read and a write do to its places in the input, its output and its session.
-- Assumes nothing.
use Rattle.std.specs.Prelude.{ℕ, ◌+◌, ◌-◌, ◌≤◌, ◌≡◌, Bool, true, false, ◌&&◌, ◌||◌, List, [], ◌++◌, Option, Some, None, Result, Ok, Err, eqb, ltb, length, take, drop, if◌then◌else◌}
use Rattle.log_records.specs.Records.{head_size, headed, line_room}
use Rattle.log_records.specs.declared.BadRecord.{BadRecord}
use Rattle.log_records.specs.declared.Head.{Head}
use Rattle.log_session.specs.Log.{Recorded, recorded}
use Rattle.log_session.specs.Whole.{bad_line, last_line}
use Rattle.log_session.specs.declared.Session.{Session}
use Rattle.mi_log.specs.declared.Next.{Next}
use Rattle.mi_log.specs.declared.Next.TheVariants.{Turn, Read, Stop}
use Rattle.mi_log.specs.declared.Run.{Run}

-- the run goes on
abbrev pub is_on : Next → Bool
is_on Turn = true
is_on Read = true
is_on Stop = false

-- more input is wanted before the next turn
abbrev pub wants_input : Next → Bool
wants_input Turn = false
wants_input Read = true
wants_input Stop = false

abbrev pub run_of : ℕ → ℕ → Bool → Next → Session → Run
run_of at end ended next s = record { at = at; end = end; ended = ended; next = next; session = s }

-- the bytes of the input buffer that no record took yet
abbrev pub unread : Run → List ℕ → List ℕ
unread r buf = take (r.end - r.at) (drop r.at buf)

-- the run, its unread input, the output that is not yet written, and both stores
pub record Held : Type 0 where
  pub run : Run
  pub input : List ℕ
  pub out : List ℕ
  pub store0 : List ℕ
  pub store1 : List ℕ

abbrev pub held : Run → List ℕ → List ℕ → List ℕ → List ℕ → Held
held r input out a b = record { run = r; input = input; out = out; store0 = a; store1 = b }

-- ---- a turn

-- a record of n bytes: its line behind the output, and what it leaves
abbrev pub after_record : Held → ℕ → Recorded → Held
after_record h n x =
    let r = h.run in
    held (run_of (r.at + (head_size + n)) r.end r.ended r.next x.session)
    (drop (head_size + n) h.input) (h.out ++ x.line) x.store0 x.store1

-- the last line behind the output; the run is over
abbrev pub over : Held → List ℕ → Held
over h line =
    let r = h.run in
    held (run_of r.at r.end r.ended Stop r.session) h.input (h.out ++ line) h.store0 h.store1

-- more input is wanted
abbrev pub asking : Held → Held
asking h =
    let r = h.run in
    held (run_of r.at r.end r.ended Read r.session) h.input h.out h.store0 h.store1

-- bytes are missing: they may still come, or the input has ended
abbrev pub missed : Held → Held
missed h = if h.run.ended then over h (last_line h.input) else asking h

abbrev pub turned_by : Held → Result (Option Head) BadRecord → Held
turned_by h (Err e) = over h bad_line
turned_by h (Ok None) = missed h
turned_by h (Ok (Some x)) =
    after_record h x.size (recorded h.run.session h.store0 h.store1 x.tag (take x.size (drop head_size h.input)))

unfoldable pub turned : Held → Held
unfolding headed recorded
turned h = turned_by h (headed h.input)

-- ---- a read and a write

-- more input is wanted: then a read gave this piece of it, none at its end; or it failed, and the run is over
abbrev pub refilled : Bool → List ℕ → Held → Held
refilled given piece h =
    let r = h.run in
    if wants_input r.next then
    (if given then
    held (run_of 0 (r.end - r.at + length piece) (eqb (length piece) 0) Turn r.session)
    (h.input ++ piece) h.out h.store0 h.store1
    else held (run_of 0 (r.end - r.at) r.ended Stop r.session) h.input h.out h.store0 h.store1)
    else h

-- the room of the program's output buffer
abbrev pub output_size : ℕ
output_size = 65536

-- the run goes on, and more input is wanted or a line would not fit behind the output, which has room for so many bytes
abbrev pub must_write : ℕ → Held → Bool
must_write room h = is_on h.run.next && (wants_input h.run.next || ltb (room - length h.out) line_room)

-- what comes next after a write, of all of the output or not
abbrev pub next_if : Bool → Next → Next
next_if whole next = if whole then next else Stop

-- then the output was written; the run goes on if all of it was
abbrev pub flushed : ℕ → Bool → Held → Held
flushed room whole h =
    let r = h.run in
    if must_write room h then
    held (run_of r.at r.end r.ended (next_if whole r.next) r.session) h.input [] h.store0 h.store1
    else h

-- ---- the places

-- n is the length of the input buffer
pub record Within (r : Run) (n : ℕ) : Type 0 where
  pub first : r.at ≤ r.end
  pub last : r.end ≤ n

-- ---- what a read leaves

-- some piece of input is behind what was unread, or the read failed
pub record Refilled (r q : Run) (before after : List ℕ) : Type 0 where
  pub given : Bool
  pub piece : List ℕ
  pub left : (out a b : List ℕ) → held q (unread q after) out a b ≡ refilled given piece (held r (unread r before) out a b)
