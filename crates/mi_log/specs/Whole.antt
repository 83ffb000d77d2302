-- The program on any input, whatever pieces of it the reads give: what it has written, and what is still due.
-- Assumes nothing.
use Rattle.std.specs.Prelude.{ℕ, ◌+◌, ◌≤◌, ◌≡◌, Bool, true, false, List, [], ◌++◌, None, Ok, length, replicate, if◌then◌else◌}
use Rattle.machine.specs.Wire.{store_size}
use Rattle.log_records.specs.Records.{headed}
use Rattle.log_session.specs.Log.{at_start}
use Rattle.log_session.specs.Whole.{owed, logged}
use Rattle.mi_log.specs.Run.{is_on, wants_input, Held, held, run_of, turned, refilled, must_write, flushed}
use Rattle.mi_log.specs.declared.Next.TheVariants.{Turn}

-- ---- what is due

-- the output, and unless the run is over what is owed for the unread input and the input still to come
abbrev pub due : Held → List ℕ → List ℕ
due h later = h.out ++ (if is_on h.run.next then owed h.run.session h.store0 h.store1 (h.input ++ later) else [])

-- A TURN, `turn_keeps` (proofs/Whole): whatever input is still to come, what is due stays due. At the end of the input none is to come.
abbrev pub TurnKeeps : Type 0
TurnKeeps =
    (h : Held) (later : List ℕ) → is_on h.run.next ≡ true → (h.run.ended ≡ true → later ≡ [])
    → due (turned h) later ≡ due h later

-- AND IT MOVES, `turn_moves` (proofs/Whole): it ends the run, asks for input, or has taken a record. So the turns are no more than the reads, a
-- third of the bytes that they give, and one.
abbrev pub TurnMoves : Type 0
TurnMoves = (h : Held) → (turned h).run.next ≡ Turn → length (turned h).input + 3 ≤ length h.input

-- ---- the whole run

-- where turns, reads and writes lead, with an output buffer of so much room: what was read, what was written, whether no read and no write failed,
-- and what the program then has
pub data Reached (room : ℕ) : List ℕ → List ℕ → Bool → Held → Type 0 where
  -- nothing is read, and the stores are zeros
  start : Reached room [] [] true (held (run_of 0 0 false Turn at_start) [] [] (replicate store_size 0) (replicate store_size 0))
  turn : {i w : List ℕ} {whole : Bool} {h : Held} → is_on h.run.next ≡ true → Reached room i w whole h → Reached room i w whole (turned h)
  -- the piece that a read gave; before it, all that was answered is written
  read : {i w : List ℕ} {whole : Bool} {h : Held} → wants_input h.run.next ≡ true → h.out ≡ [] → (piece : List ℕ) → Reached room i w whole h
      → Reached room (i ++ piece) w whole (refilled true piece h)
  -- a read that failed
  lost : {i w : List ℕ} {whole : Bool} {h : Held} → wants_input h.run.next ≡ true → h.out ≡ [] → Reached room i w whole h
      → Reached room i w false (refilled false [] h)
  write : {i w : List ℕ} {whole : Bool} {h : Held} → must_write room h ≡ true → Reached room i w whole h
      → Reached room i (w ++ h.out) whole (flushed room true h)
  -- a write that failed, of which some may have been written
  fail : {i w : List ℕ} {whole : Bool} {h : Held} → must_write room h ≡ true → (some : List ℕ) → Reached room i w whole h
      → Reached room i (w ++ some) false (flushed room false h)

-- THE PROGRAM, `logs` (proofs/Whole): at any time, and whatever input is still to come, what was written and what is due are together what
-- the log program prints for all of the input
abbrev pub Logs : Type 0
Logs =
    (room : ℕ) (i w : List ℕ) (h : Held) → Reached room i w true h → (later : List ℕ) → (h.run.ended ≡ true → later ≡ [])
    → w ++ due h later ≡ logged (i ++ later)

-- AT ITS END, `logs_all` (proofs/Whole): what was written, and the output behind it, is what the log program prints for all that was read
abbrev pub LogsAll : Type 0
LogsAll = (room : ℕ) (i w : List ℕ) (h : Held) → Reached room i w true h → is_on h.run.next ≡ false → w ++ h.out ≡ logged i

-- WHEN IT WAITS, `waits` (proofs/Whole): no whole record is unread when more input is asked for and the output is all written, as before every
-- read. So what was written is what all whole records so far print, whatever comes later.
abbrev pub Waits : Type 0
Waits =
    (room : ℕ) (i w : List ℕ) (h : Held) → Reached room i w true h → wants_input h.run.next ≡ true → h.out ≡ []
    → (headed h.input ≡ Ok None) × ((later : List ℕ) → w ++ owed h.run.session h.store0 h.store1 (h.input ++ later) ≡ logged (i ++ later))

-- some input was read and some output written, and the program then has this
pub record Ran (room : ℕ) (h : Held) : Type 0 where
  pub input : List ℕ
  pub written : List ℕ
  pub whole : Bool
  pub reached : Reached room input written whole h
