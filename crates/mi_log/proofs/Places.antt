-- Laws of the program's places: the unread input, a read and a write.
-- Assumes nothing.
use Prim.Native.Nat.{ℕ, zero, suc, ◌+◌, ◌-◌, ◌≤◌}
use mathlib.Core.Path.{◌≡◌, refl, ap, sym, ◌∙◌}
use mathlib.Core.Bool.{Bool, true, false}
use mathlib.Core.List.{List, [], ◌∷◌, ◌++◌}
use native.Mathlib.Nat.{le_refl, le_trans}
use native.Mathlib.Omega.{arith}
use lib.Dec.{eqb}
use lib.ListN.{length, take, drop, length-take, length-drop}
use lib.Seq.{drop-drop, take-nil, take-add, take_at, drop_at, length-take-le, paste}
use Rattle.lent.proofs.Choice.{if_ind, false_true}
use Rattle.std.specs.Prelude.{Option, Result}
use Rattle.log_records.specs.Records.{head_size, headed}
use Rattle.log_records.specs.declared.BadRecord.{BadRecord}
use Rattle.log_records.specs.declared.Head.{Head}
use Rattle.log_session.specs.Whole.{bad_line, last_line}
use Rattle.mi_log.specs.Run.{is_on, wants_input, Held, held, run_of, unread, over, missed, turned_by, turned, refilled, must_write, flushed, Within, Refilled}
use Rattle.mi_log.specs.declared.Next.{Next}
use Rattle.mi_log.specs.declared.Next.TheVariants.{Turn, Read, Stop}
use Rattle.mi_log.specs.declared.Run.{Run}

-- input is wanted only where the run goes on
pub wanted_on : (n : Next) → wants_input n ≡ true → is_on n ≡ true
wanted_on Turn e = refl
wanted_on Read e = refl
wanted_on Stop e = false_true e

-- ---- the unread input

pub drop_take : (m k : ℕ) (l : List ℕ) → drop m (take k l) ≡ take (k - m) (drop m l)
drop_take zero k l = let e : k - 0 ≡ k = omega arith in rw e refl
drop_take (suc m) zero l = let e : 0 - suc m ≡ 0 = omega arith in rw e refl
drop_take (suc m) (suc k) [] = sym (take-nil (suc k - suc m))
drop_take (suc m) (suc k) (a ∷ l) = let e : suc k - suc m ≡ k - m = omega arith in rw e (drop_take m k l)

-- ---- a read and a write that are not made

pub not_read : (given : Bool) (piece : List ℕ) (h : Held) → wants_input h.run.next ≡ false → h ≡ refilled given piece h
not_read given piece h e = if_ind (λ (x : Held). h ≡ x) (wants_input h.run.next) (λ yes. false_true (sym e ∙ yes)) (λ _. refl)

pub not_written : (room : ℕ) (whole : Bool) (h : Held) → must_write room h ≡ false → h ≡ flushed room whole h
not_written room whole h e = if_ind (λ (x : Held). h ≡ x) (must_write room h) (λ yes. false_true (sym e ∙ yes)) (λ _. refl)

-- a read put k bytes behind what was unread, which had moved to the front
module _ (r : Run) (buf now read : List ℕ) (asks : wants_input r.next ≡ true) (first : r.at ≤ r.end) (last : r.end ≤ length buf)
    (moved : now ≡ paste buf 0 (drop r.at buf) (r.end - r.at)) where
  abbrev n : ℕ
  n = r.end - r.at

  none : (k : ℕ) → k - 0 ≡ k
  none k = omega arith

  size : length (unread r buf) ≡ n
  size = simp (length-take, length-drop) (omega arith)

  front : take n now ≡ unread r buf
  front = rw moved (take_at (unread r buf) (drop (0 + n) buf) n size)

  both : (k : ℕ) → take (n + k) (take n now ++ read) ≡ unread r buf ++ take k read
  both k =
      rw front
      (take-add n k (unread r buf ++ read) ∙ rw (take_at (unread r buf) read n size, drop_at (unread r buf) read n size) refl)

  pub read_in : (k : ℕ) → k ≤ length read → Refilled r (run_of 0 (n + k) (eqb k 0) Turn r.session) buf (take n now ++ read)
  read_in k small =
      record { given = true; piece = take k read; left = λ out a b. rw (asks, length-take-le k read small, none (n + k), both k) refl }

  -- a read failed; what is behind the unread bytes is not looked at
  pub read_lost : Refilled r (run_of 0 n r.ended Stop r.session) buf (take n now ++ read)
  read_lost =
      let whole : take n (take n now ++ read) ≡ unread r buf = rw front (take_at (unread r buf) read n size) in
      record { given = false; piece = []; left = λ out a b. rw (asks, none n, whole) refl }

-- ---- the end of the input

pub cut : (input : List ℕ) → (length input ≡ 0 → ⊥) → last_line input ≡ bad_line
cut [] n = absurd (n refl)
cut (b ∷ input) n = refl

pub missed_ended : (h : Held) (line : List ℕ) → h.run.ended ≡ true → last_line h.input ≡ line → over h line ≡ missed h
missed_ended h line e last =
    if_ind (λ (x : Held). over h line ≡ x) h.run.ended (λ _. ap (λ (l : List ℕ). over h l) (sym last)) (λ no. false_true (sym no ∙ e))

-- ---- what a turn leaves

-- the row of `turned` that the head decides
pub by_head_lem : {g : Held} (h : Held) (x : Result (Option Head) BadRecord) → headed h.input ≡ x → g ≡ turned_by h x → g ≡ turned h
unfolding turned
by_head_lem h x e t = rw e t

-- neither the last line nor asking for more moves the places
pub over_within : {n : ℕ} (h : Held) (line : List ℕ) → Within h.run n → Within (over h line).run n
over_within h line w = record { first = w.first; last = w.last }

pub missed_within : {n : ℕ} (h : Held) → Within h.run n → Within (missed h).run n
missed_within {n} h w =
    if_ind (λ (x : Held). Within x.run n) h.run.ended (λ _. over_within h (last_line h.input) w)
    (λ _. record { first = w.first; last = w.last })

pub within_as : {q q' : Run} {n n' : ℕ} → Within q' n → q ≡ q' → n ≤ n' → Within q n'
within_as w e wide = rw e (record { first = w.first; last = le_trans w.last wide })

-- the unread input, where a turn says it
pub input_is : (buf : List ℕ) {q : Run} {input out a b : List ℕ} {h : Held} → held q input out a b ≡ h → unread h.run buf ≡ input
    → held q (unread q buf) out a b ≡ h
input_is buf {q} {input} {out} {a} {b} {h} e same =
    let runs : unread q buf ≡ unread h.run buf = ap (λ (x : Held). unread x.run buf) e in
    ap (λ (l : List ℕ). held q l out a b) (runs ∙ same) ∙ e

pub missed_unread : (h : Held) (buf : List ℕ) → unread (missed h).run buf ≡ unread h.run buf
missed_unread h buf = if_ind (λ (x : Held). unread x.run buf ≡ unread h.run buf) h.run.ended (λ _. refl) (λ _. refl)

pub unread_behind : (r : Run) (buf : List ℕ) (n : ℕ)
    → take (r.end - (r.at + (head_size + n))) (drop (r.at + (head_size + n)) buf) ≡ drop (head_size + n) (unread r buf)
unread_behind r buf n =
    sym (drop_take (head_size + n) (r.end - r.at) (drop r.at buf) ∙ rw (drop-drop (head_size + n) r.at buf, less r.end r.at (head_size + n)) refl)
  where
    less : (end at m : ℕ) → end - at - m ≡ end - (at + m)
    less end at m = omega arith

-- ---- the places after a read and a write

-- a read does not take up a run that is over
pub refilled_on : {r q : Run} {before after : List ℕ} → Refilled r q before after → is_on q.next ≡ true → is_on r.next ≡ true
refilled_on {r} {q} {before} f on =
    if_ind (λ (x : Held). is_on x.run.next ≡ true → is_on r.next ≡ true) (wants_input r.next)
    (λ asks _. wanted_on r.next asks) (λ _ e. e) (sym (ap (λ (x : Held). is_on x.run.next) (f.left [] [] [])) ∙ on)

pub flushed_unread : (room : ℕ) (whole : Bool) (h : Held) (buf : List ℕ) → unread (flushed room whole h).run buf ≡ unread h.run buf
flushed_unread room whole h buf = if_ind (λ (x : Held). unread x.run buf ≡ unread h.run buf) (must_write room h) (λ _. refl) (λ _. refl)

pub flushed_within : {n : ℕ} (room : ℕ) (whole : Bool) (h : Held) → Within h.run n → Within (flushed room whole h).run n
flushed_within {n} room whole h w =
    if_ind (λ (x : Held). Within x.run n) (must_write room h)
    (λ _. record { first = w.first; last = w.last }) (λ _. w)

-- nothing is left to write when more input is asked for
pub flushed_empty : {g : Held} (room : ℕ) (whole : Bool) (h : Held) → g ≡ flushed room whole h → wants_input g.run.next ≡ true → g.out ≡ []
flushed_empty room whole h e =
    rw e
    (if_ind (λ (x : Held). wants_input x.run.next ≡ true → x.out ≡ []) (must_write room h) (λ _ _. refl)
    (λ no asks. false_true (sym no ∙ rw (wanted_on h.run.next asks, asks) refl)))

pub flushed_places : (room : ℕ) (out out' : List ℕ) {n : ℕ} {q r : Run}
    → ((input a b : List ℕ) → held q input out' a b ≡ flushed room (is_on q.next) (held r input out a b)) → Within r n → Within q n
flushed_places room out out' {n} {q} {r} o w =
    within_as (flushed_within room (is_on q.next) (held r [] out [] []) w) (ap (λ (x : Held). x.run) (o [] [] [])) (le_refl _)
