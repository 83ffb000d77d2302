-- The program prints what `logged` says: a turn, a read and a write leave what was written and is due as it is.
-- Assumes nothing.
use Prim.Native.Nat.{ℕ, ◌+◌, ◌≤◌}
use mathlib.Core.Path.{◌≡◌, refl, ap, sym, ◌∙◌}
use mathlib.Core.Bool.{Bool, true, false}
use mathlib.Core.List.{List, [], ◌++◌, append_assoc, append-nil}
use native.Mathlib.Omega.{arith}
use lib.ListN.{length, take, drop, replicate, length-drop}
use lib.Seq.{take-append-le, drop-append-le}
use Rattle.std.specs.Prelude.{Option, Some, None, Result, Ok, Err}
use Rattle.lent.proofs.Choice.{if_ind, false_true}
use Rattle.log_records.specs.Records.{headed}
use Rattle.log_records.specs.declared.BadRecord.{BadRecord}
use Rattle.log_records.specs.declared.Head.{Head}
use Rattle.log_records.proofs.Heads.{Whole, whole, decided}
use Rattle.log_session.specs.Log.{at_start, Recorded, recorded}
use Rattle.log_session.specs.Whole.{bad_line, last_line, going_on, by_head, owed, logged}
use Rattle.log_session.specs.declared.Session.{Session}
use Rattle.log_session.proofs.Whole.{owed_by}
use Rattle.machine.specs.Wire.{store_size}
use Rattle.mi_log.specs.Run.{is_on, wants_input, Held, held, run_of, over, after_record, turned_by, turned, refilled, must_write, flushed}
use Rattle.mi_log.specs.declared.Next.TheVariants.{Turn}
use Rattle.mi_log.proofs.Places.{wanted_on, not_read, not_written}
use Rattle.mi_log.specs.Whole.{due, TurnKeeps, TurnMoves, Reached, start, turn, read, lost, write, fail, Logs, LogsAll, Waits, Ran}

-- ---- a turn

-- a run that goes on, and what is still to be read
module _ (h : Held) (later : List ℕ) (on : is_on h.run.next ≡ true) (all : h.run.ended ≡ true → later ≡ []) where
  abbrev rest : List ℕ
  rest = owed h.run.session h.store0 h.store1 (h.input ++ later)

  abbrev Keeps : Held → Type 0
  Keeps x = due x later ≡ h.out ++ rest

  -- by the head of the input and what is still to come
  by_front : (x : Result (Option Head) BadRecord) → headed (h.input ++ later) ≡ x
      → rest ≡ by_head owed h.run.session h.store0 h.store1 (h.input ++ later) x
  by_front x e = owed_by h.run.session h.store0 h.store1 (h.input ++ later) ∙ rw e refl

  bad_due : (e : BadRecord) → headed h.input ≡ Err e → Keeps (over h bad_line)
  bad_due x e =
      append-nil _
      ∙ ap (λ (l : List ℕ). h.out ++ l)
      (sym (by_front (Err x) (decided h.input later (λ m. let z : ◌≡◌ {A = ℕ} 0 1 = cc (e, m) in omega arith) ∙ e)))

  -- no byte comes any more
  last_due : headed h.input ≡ Ok None → h.run.ended ≡ true → Keeps (over h (last_line h.input))
  last_due e ended =
      let none : h.input ++ later ≡ h.input = rw (all ended) (append-nil h.input) in
      let front : rest ≡ last_line (h.input ++ later) = by_front (Ok None) (ap (λ (l : List ℕ). headed l) none ∙ e) in
      append-nil _ ∙ ap (λ (l : List ℕ). h.out ++ l) (sym (front ∙ ap (λ (l : List ℕ). last_line l) none))

  record_due : (x : Head) → headed h.input ≡ Ok (Some x) → Keeps (turned_by h (Ok (Some x)))
  record_due x e =
      let there : Whole (length h.input) (Ok (Some x)) = rw e at (whole h.input) in
      let body : take x.size (drop 3 (h.input ++ later)) ≡ take x.size (drop 3 h.input) =
      rw (drop-append-le 3 h.input later (omega (arith, there.1)))
      (take-append-le x.size (drop 3 h.input) later (simp length-drop (omega (arith, there.1)))) in
      let behind : drop (3 + x.size) (h.input ++ later) ≡ drop (3 + x.size) h.input ++ later =
      drop-append-le (3 + x.size) h.input later there.1 in
      let front = by_front (Ok (Some x)) (decided h.input later (λ m. let z : ◌≡◌ {A = ℕ} 0 1 = cc (e, m) in omega arith) ∙ e) in
      line_due (recorded h.run.session h.store0 h.store1 x.tag (take x.size (drop 3 h.input)))
      ∙ ap (λ (l : List ℕ). h.out ++ l) (sym (rw (body, behind) at front))
    where
      line_due : (y : Recorded) → due (after_record h x.size y) later ≡ h.out ++ going_on owed (drop (3 + x.size) h.input ++ later) y
      line_due y = rw on (append_assoc h.out y.line _)

  turned_due : (x : Result (Option Head) BadRecord) → headed h.input ≡ x → Keeps (turned_by h x)
  turned_due (Err x) e = bad_due x e
  turned_due (Ok None) e = if_ind Keeps h.run.ended (λ ended. last_due e ended) (λ _. refl)
  turned_due (Ok (Some x)) e = record_due x e

  turn_due : due (turned h) later ≡ due h later
  unfolding turned
  turn_due = turned_due (headed h.input) refl ∙ rw on refl

pub turn_keeps : TurnKeeps
turn_keeps = turn_due

pub turn_moves : TurnMoves
unfolding turned
turn_moves h = moved (headed h.input) (whole h.input)
  where
    Moves : Held → Type 0
    Moves x = x.run.next ≡ Turn → length x.input + 3 ≤ length h.input

    moved : (x : Result (Option Head) BadRecord) → Whole (length h.input) x → Moves (turned_by h x)
    moved (Err e) w = λ next. false_true (ap is_on next)
    moved (Ok None) w =
        if_ind Moves h.run.ended (λ _ next. false_true (ap is_on next)) (λ _ next. false_true (sym (ap wants_input next)))
    moved (Ok (Some x)) w = λ next. simp length-drop (omega (arith, w.1))

-- ---- a read and a write

read_due : (h : Held) (piece later : List ℕ) → wants_input h.run.next ≡ true → due (refilled true piece h) later ≡ due h (piece ++ later)
read_due h piece later asks =
    if_ind (λ (x : Held). due x later ≡ due h (piece ++ later)) (wants_input h.run.next)
    (λ _. rw (wanted_on h.run.next asks, append_assoc h.input piece later) refl)
    (λ no. false_true (sym no ∙ asks))

write_due : (room : ℕ) (h : Held) (later : List ℕ) → must_write room h ≡ true → h.out ++ due (flushed room true h) later ≡ due h later
write_due room h later must =
    if_ind (λ (x : Held). h.out ++ due x later ≡ due h later) (must_write room h) (λ _. refl) (λ no. false_true (sym no ∙ must))

-- ---- what holds of each state

-- input is wanted only before its end, and where no whole record is unread
pub record Sound (h : Held) : Type 0 where
  pub asks : wants_input h.run.next ≡ true → h.run.ended ≡ false
  pub short : wants_input h.run.next ≡ true → headed h.input ≡ Ok None

turned_sound : (h : Held) (x : Result (Option Head) BadRecord) → headed h.input ≡ x → Sound h → Sound (turned_by h x)
turned_sound h (Err x) e s = record { asks = λ no. false_true no; short = λ no. false_true no }
turned_sound h (Ok None) e s =
    if_ind Sound h.run.ended
    (λ _. record { asks = λ no. false_true no; short = λ no. false_true no })
    (λ no. record { asks = λ _. no; short = λ _. e })
turned_sound h (Ok (Some x)) e s =
    record {
      asks = s.asks;
      short = λ asking. let z : ◌≡◌ {A = ℕ} 0 1 = cc (e, s.short asking) in absurd (omega arith);
    }

read_sound : (given : Bool) (h : Held) (piece : List ℕ) → Sound h → Sound (refilled given piece h)
read_sound given h piece s =
    if_ind Sound (wants_input h.run.next)
    (λ _. if_ind Sound given (λ _. record { asks = λ no. false_true no; short = λ no. false_true no })
    (λ _. record { asks = λ no. false_true no; short = λ no. false_true no })) (λ _. s)

written_sound : (room : ℕ) (whole : Bool) (h : Held) → Sound h → Sound (flushed room whole h)
written_sound room true h s =
    if_ind Sound (must_write room h) (λ _. record { asks = s.asks; short = s.short }) (λ _. s)
written_sound room false h s =
    if_ind Sound (must_write room h) (λ _. record { asks = λ no. false_true no; short = λ no. false_true no }) (λ _. s)

sound : {room : ℕ} {i w : List ℕ} {whole : Bool} {h : Held} → Reached room i w whole h → Sound h
unfolding turned
sound start = record { asks = λ e. false_true e; short = λ e. false_true e }
sound (turn {h = h} on r) = turned_sound h (headed h.input) refl (sound r)
sound (read {h = h} asks empty piece r) = read_sound true h piece (sound r)
sound (lost {h = h} asks empty r) = read_sound false h [] (sound r)
sound {room = room} (write {h = h} must r) = written_sound room true h (sound r)
sound {room = room} (fail {h = h} must some r) = written_sound room false h (sound r)

-- ---- the program

turned_ended : (h : Held) (x : Result (Option Head) BadRecord) → (turned_by h x).run.ended ≡ h.run.ended
turned_ended h (Err x) = refl
turned_ended h (Ok None) = if_ind (λ (x : Held). x.run.ended ≡ h.run.ended) h.run.ended (λ _. refl) (λ _. refl)
turned_ended h (Ok (Some x)) = refl

flushed_ended : (room : ℕ) (whole : Bool) (h : Held) → (flushed room whole h).run.ended ≡ h.run.ended
flushed_ended room whole h = if_ind (λ (x : Held). x.run.ended ≡ h.run.ended) (must_write room h) (λ _. refl) (λ _. refl)

reached_logs : {room : ℕ} {i w : List ℕ} {whole : Bool} {h : Held} → Reached room i w whole h → whole ≡ true → (later : List ℕ)
    → (h.run.ended ≡ true → later ≡ []) → w ++ due h later ≡ logged (i ++ later)
unfolding logged turned
reached_logs start wrote later all = refl
reached_logs (turn {i} {w} {whole} {h} on r) wrote later all =
    let ended : h.run.ended ≡ true → later ≡ [] = λ e. all (turned_ended h (headed h.input) ∙ e) in
    ap (λ (l : List ℕ). w ++ l) (turn_keeps h later on ended) ∙ reached_logs r wrote later ended
reached_logs (read {i} {w} {whole} {h} asks empty piece r) wrote later all =
    ap (λ (l : List ℕ). w ++ l) (read_due h piece later asks)
    ∙ reached_logs r wrote (piece ++ later) (λ e. false_true (sym ((sound r).asks asks) ∙ e))
    ∙ ap (λ (l : List ℕ). logged l) (sym (append_assoc i piece later))
reached_logs (lost asks empty r) wrote later all = false_true wrote
reached_logs {room} (write {i} {w} {whole} {h} must r) wrote later all =
    append_assoc w h.out (due (flushed room true h) later)
    ∙ ap (λ (l : List ℕ). w ++ l) (write_due room h later must)
    ∙ reached_logs r wrote later (λ e. all (flushed_ended room true h ∙ e))
reached_logs (fail must some r) wrote later all = false_true wrote

pub logs : Logs
logs room i w h r later all = reached_logs r refl later all

pub logs_all : LogsAll
logs_all room i w h r off =
    let nothing : due h [] ≡ h.out = rw off (append-nil h.out) in
    ap (λ (l : List ℕ). w ++ l) (sym nothing) ∙ logs room i w h r [] (λ _. refl) ∙ ap (λ (l : List ℕ). logged l) (append-nil i)

pub waits : Waits
waits room i w h r asks empty =
    ((sound r).short asks, λ later. ap (λ (l : List ℕ). w ++ l) (sym (nothing later)) ∙ logs room i w h r later (λ e. false_true (sym no_end ∙ e)))
  where
    no_end : h.run.ended ≡ false
    no_end = (sound r).asks asks

    nothing : (later : List ℕ) → due h later ≡ owed h.run.session h.store0 h.store1 (h.input ++ later)
    nothing later = rw (wanted_on h.run.next asks, empty) refl

-- ---- what was read and written, along the loop

pub ran_as : {room : ℕ} {g h : Held} → g ≡ h → Ran room h → Ran room g
ran_as e r = rw e r

pub ran_start : (room : ℕ) (s : Session) (out a b : List ℕ) → s ≡ at_start → out ≡ [] → a ≡ replicate store_size 0 → b ≡ replicate store_size 0
    → Ran room (held (run_of 0 0 false Turn s) [] out a b)
ran_start room s out a b e o f g = rw (e, o, f, g) (record { input = []; written = []; whole = true; reached = start })

pub ran_turn : {room : ℕ} (h : Held) → is_on h.run.next ≡ true → Ran room h → Ran room (turned h)
ran_turn h on r = record { input = r.input; written = r.written; whole = r.whole; reached = turn on r.reached }

pub ran_read : {room : ℕ} (h : Held) (given : Bool) (piece : List ℕ) → (wants_input h.run.next ≡ true → h.out ≡ []) → Ran room h
    → Ran room (refilled given piece h)
ran_read {room} h given piece empty r = go (wants_input h.run.next) given refl
  where
    lost_same : wants_input h.run.next ≡ true → refilled false piece h ≡ refilled false [] h
    lost_same asks = rw asks refl

    go : (b given : Bool) → wants_input h.run.next ≡ b → Ran room (refilled given piece h)
    go true true asks = record { input = r.input ++ piece; written = r.written; whole = r.whole; reached = read asks (empty asks) piece r.reached }
    go true false asks =
        ran_as (lost_same asks) (record { input = r.input; written = r.written; whole = false; reached = lost asks (empty asks) r.reached })
    go false given asks = ran_as (sym (not_read given piece h asks)) r

pub ran_write : {room : ℕ} (h : Held) (whole : Bool) → Ran room h → Ran room (flushed room whole h)
ran_write {room} h whole r = go (must_write room h) whole refl
  where
    go : (b whole : Bool) → must_write room h ≡ b → Ran room (flushed room whole h)
    go true true must = record { input = r.input; written = r.written ++ h.out; whole = r.whole; reached = write must r.reached }
    go true false must = record { input = r.input; written = r.written ++ []; whole = false; reached = fail must [] r.reached }
    go false whole must = ran_as (sym (not_written room whole h must)) r
