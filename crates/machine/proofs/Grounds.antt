-- Which number receiving answers.
-- Assumes nothing.
use Prim.Native.Nat.{ℕ, ◌+◌, ◌%◌, ◌≤◌}
use mathlib.Core.Path.{◌≡◌, refl, sym, ap, ◌∙◌}
use mathlib.Core.Bool.{Bool, true, false, not, ◌&&◌, ◌||◌}
use mathlib.Core.List.{List, ◌++◌}
use native.Mathlib.Omega.{arith}
use lib.Dec.{eqb, ltb}
use lib.ListN.{length, take}
use Rattle.std.specs.Prelude.{Ok, Err, None, Some, if◌then◌else◌}
use Rattle.lent.specs.Bytes.{byte_at, is_set, put}
use Rattle.mctp.specs.Header.{read_header, same, fields, payload_of}
use Rattle.mctp.specs.Gather.{is_cut, join_refusal}
use Rattle.mctp.proofs.Laws.{not_same_false}
use Rattle.nvme_mi.specs.Check.{check_right}
use Rattle.nvme_mi.specs.Message.{message_type, control, message_header}
use Rattle.opening.specs.Opening.{opened, joined_in}
use Rattle.opening.specs.declared.First.TheVariants.{Control, Command}
use Rattle.opening.specs.declared.Joined.TheVariants.{More, Wrong, Whole}
use Rattle.machine.specs.State.{World, slot_at, store_at, with_store, with_endpoint, is_idle}
use Rattle.machine.specs.Wire.{inward, store_size}
use Rattle.machine.specs.Receive.{refused, refused_busy, gathers, is_from, ended_slot, end_assembly, holder_in, holder, assembly, landed, gathered, first_command, first_by, first, later_at, later_by, later, received_by, received}
use Rattle.machine.specs.Valid.{PhaseFacts, Valid, Sound}
use Rattle.machine.specs.History.{has_som, source_of, message_tag_of, bytes_from4, phase_at, unit_of}
use Rattle.machine.specs.Numbers.{right_sizes}
use Rattle.machine.specs.Demands.{is_idle_now}
use Rattle.machine.specs.Grounds.{has_eom, taken_in, phase_found, first_number, join_number, join_or, Grounds}
use Rattle.machine.specs.Types.{Assembly, Phase, Idle, Receive, Process, Answered, Transmit, Slot}
use Rattle.machine.proofs.Slots.{facts_at}
use Rattle.machine.proofs.Receiving.{csi_most, receives_gathers}
use Rattle.machine.proofs.Keeps.{store_at_lem, sound_of}
use Rattle.machine.proofs.Places.{slot_both, store_this, take_joined}
use Rattle.machine.proofs.Numbers.{wrong_sizes}
use Rattle.machine.proofs.Refusals.{idle_now}

-- ---- a packet that is taken in

landed_number : (w : World) (i : ℕ) (a : Assembly) (eom : Bool) (message : List ℕ)
    → (landed w i a (joined_in message eom)).answer ≡ (if not eom then 0 else if not (check_right message) then 19 else 1)
unfolding joined_in refused
landed_number w i a eom message = by (not eom) (not (check_right message))
  where
    by : (x y : Bool) → (landed w i a (if x then More else if y then Wrong else Whole)).answer ≡ (if x then 0 else if y then 19 else 1)
    by true y = refl
    by false true = refl
    by false false = refl

gathered_number : (w : World) (i at : ℕ) → i ≤ 1 → (p m : List ℕ) → at ≤ length (store_at w i) → (gathered w i at (fields p) m).answer ≡ taken_in p (take at (store_at w i) ++ m)
unfolding gathered
gathered_number w i at is p m fits =
    let v = with_store w i (put (store_at w i) at m) in
    let whole : take (at + length m) (store_at v i) ≡ take at (store_at w i) ++ m = rw (store_this w i is (put (store_at w i) at m)) (take_joined (store_at w i) at m fits) in
    landed_number v i (assembly (fields p) (at + length m)) (has_eom p) (take (at + length m) (store_at v i))
    ∙ ap (λ (x : List ℕ). taken_in p x) whole

-- ---- SOM 1

module _ (w : World) (p : List ℕ) (v : Valid w.endpoint) where
  abbrev m : List ℕ
  m = payload_of p

  abbrev ended : World
  ended = with_endpoint w (end_assembly w.endpoint (fields p).source (fields p).tag)

  found : (i : ℕ) → i ≤ 1 → is_idle (slot_at ended.endpoint i).phase ≡ is_idle_now (phase_found w p i)
  unfolding end_assembly
  found i is =
      rw (slot_both (ended_slot (fields p).source (fields p).tag) w.endpoint i is, receives_gathers (source_of p) (message_tag_of p) (phase_at w i))
      (by (gathers (source_of p) (message_tag_of p) (phase_at w i)) (slot_at w.endpoint i))
    where
      by : (b : Bool) (s : Slot) → is_idle (if b then record { ticket = s.ticket; paused = false; busy = s.busy; phase = Idle None } else s).phase ≡ is_idle_now (if b then Idle None else s.phase)
      by true s = refl
      by false s = sym (idle_now s.phase)

  command_number : (first_command ended (fields p) (message_header m).csi m).answer ≡ (if not (is_idle_now (phase_found w p (byte_at m 1 % 2))) then 20 else taken_in p m)
  unfolding first_command refused_busy
  command_number = rw (found (message_header m).csi (csi_most m)) (by (not (is_idle_now (phase_found w p (byte_at m 1 % 2)))))
    where
      by : (b : Bool) → (if b then refused_busy ended (message_header m).csi else gathered ended (message_header m).csi 0 (fields p) m).answer ≡ (if b then 20 else taken_in p m)
      by true = unfold refused_busy in refl
      by false = gathered_number ended (message_header m).csi 0 (csi_most m) p m (omega arith)

  first_number_lem : (first ended (fields p) m).answer ≡ first_number w p m
  unfolding first opened end_assembly
  first_number_lem =
      rw (not_same_false (message_header m).ror)
      (by (not (eqb (byte_at m 0) message_type)) (is_cut (unit_of w) (fields p) (length m)) ((fields p).eom && ltb (length m) 8) (message_header m).ror (eqb (message_header m).nmimt control)
      (not (fields p).eom || not (eqb (length m) 12)) (not (check_right m)))
    where
      by : (a b c d e f g : Bool)
          → (first_by ended (fields p) m
          (if a then Err 15 else if b then Err 16 else if c then Err 17 else if d then Err 15 else if not e then Ok Command else if f then Err 18 else if g then Err 19 else Ok Control)
          ).answer
          ≡ (if a then 15 else if b then 16 else if c then 17 else if d then 15 else if e then (if f then 18 else if g then 19 else 2)
          else if not (is_idle_now (phase_found w p (byte_at m 1 % 2))) then 20 else taken_in p m)
      by true b c d e f g = unfold refused in refl
      by false true c d e f g = unfold refused in refl
      by false false true d e f g = unfold refused in refl
      by false false false true e f g = unfold refused in refl
      by false false false false true true g = unfold refused in refl
      by false false false false true false true = unfold refused in refl
      by false false false false true false false = refl
      by false false false false false f g = command_number

-- ---- SOM 0

module _ (w : World) (p : List ℕ) (v : Sound w) where
  later_number : (i : ℕ) → i ≤ 1 → (a : Assembly) → phase_at w i ≡ Receive a → (later_by w (fields p) (payload_of p) (Some (i, a))).answer ≡ join_number w p (payload_of p) i a
  unfolding later_at join_refusal
  later_number i is a e =
      by (not (eqb (fields p).sequence ((a.sequence + 1) % 4))) (is_cut (unit_of w) (fields p) (length (payload_of p))) (ltb store_size (a.length + length (payload_of p)))
    where
      fits : a.length ≤ length (store_at w i)
      fits = let f : PhaseFacts (unit_of w) (slot_at w.endpoint i).paused (Receive a) = rw e at (facts_at i is v.state) in rw (store_at_lem i v) f.1

      by : (x y z : Bool)
          → (later_at w i a (fields p) (payload_of p) (if x then 22 else if y then 16 else if z then 23 else 0)).answer
          ≡ (if x then 22 else if y then 16 else if z then 23 else taken_in p (take a.length (store_at w i) ++ payload_of p))
      by true y z = unfold later_at refused in refl
      by false true z = unfold later_at refused in refl
      by false false true = unfold later_at refused in refl
      by false false false = unfold later_at in (gathered_number w i a.length is p (payload_of p) fits)

  joins_number : (later w (fields p) (payload_of p)).answer ≡ join_or w p 0 (join_or w p 1 21)
  unfolding later holder
  joins_number = outer (phase_at w 0) refl
    where
      inner : (q : Phase) → phase_at w 1 ≡ q → (later_by w (fields p) (payload_of p) (holder_in (source_of p) (message_tag_of p) 1 q None)).answer ≡ join_or w p 1 21
      inner (Idle held) e = unfold refused in (rw e refl)
      inner (Receive a) e = rw e (go (is_from (source_of p) (message_tag_of p) a) refl)
        where
          go : (b : Bool) → is_from (source_of p) (message_tag_of p) a ≡ b
              → (later_by w (fields p) (payload_of p) (if b then Some (1, a) else None)).answer ≡ (if b then join_number w p (payload_of p) 1 a else 21)
          go true f = later_number 1 (omega arith) a e
          go false f = unfold refused in refl
      inner (Process r) e = unfold refused in (rw e refl)
      inner (Answered r) e = unfold refused in (rw e refl)
      inner (Transmit r) e = unfold refused in (rw e refl)

      outer : (q : Phase) → phase_at w 0 ≡ q
          → (later_by w (fields p) (payload_of p) (holder_in (source_of p) (message_tag_of p) 0 q (holder_in (source_of p) (message_tag_of p) 1 (phase_at w 1) None))).answer ≡ join_or w p 0 (join_or w p 1 21)
      outer (Idle held) e = rw e (inner (phase_at w 1) refl)
      outer (Receive a) e = rw e (go (is_from (source_of p) (message_tag_of p) a) refl)
        where
          go : (b : Bool) → is_from (source_of p) (message_tag_of p) a ≡ b
              → (later_by w (fields p) (payload_of p) (if b then Some (0, a) else holder_in (source_of p) (message_tag_of p) 1 (phase_at w 1) None)).answer
              ≡ (if b then join_number w p (payload_of p) 0 a else join_or w p 1 21)
          go true f = later_number 0 (omega arith) a e
          go false f = inner (phase_at w 1) refl
      outer (Process r) e = rw e (inner (phase_at w 1) refl)
      outer (Answered r) e = rw e (inner (phase_at w 1) refl)
      outer (Transmit r) e = rw e (inner (phase_at w 1) refl)

-- ---- the whole

pub grounds : Grounds
unfolding received read_header
grounds w p v = rw (wrong_sizes w) (stores (right_sizes w) refl)
  where
    same_true : (b : Bool) → same b true ≡ b
    same_true true = refl
    same_true false = refl

    read : right_sizes w ≡ true → (received_by w (payload_of p) (Ok (fields p))).answer ≡ (if has_som p then first_number w p (bytes_from4 p) else join_or w p 0 (join_or w p 1 21))
    read right = go (has_som p)
      where
        go : (b : Bool) → (if b then first (with_endpoint w (end_assembly w.endpoint (fields p).source (fields p).tag)) (fields p) (payload_of p) else later w (fields p) (payload_of p)).answer
            ≡ (if b then first_number w p (bytes_from4 p) else join_or w p 0 (join_or w p 1 21))
        go true = first_number_lem w p v
        go false = joins_number w p (sound_of w (wrong_sizes w ∙ rw right refl) v)

    header : right_sizes w ≡ true → (a b c d e : Bool)
        → (received_by w (payload_of p) (if a then Err 10 else if b then Err 11 else if c then Err 12 else if d then Err 13 else if e then Err 14 else Ok (fields p))).answer
        ≡ (if a then 10 else if b then 11 else if c then 12 else if d then 13 else if e then 14 else if has_som p then first_number w p (bytes_from4 p) else join_or w p 0 (join_or w p 1 21))
    header right true b c d e = unfold refused in refl
    header right false true c d e = unfold refused in refl
    header right false false true d e = unfold refused in refl
    header right false false false true e = unfold refused in refl
    header right false false false false true = unfold refused in refl
    header right false false false false false = read right

    stores : (b : Bool) → right_sizes w ≡ b → (if not b then record { answer = 40; world = w } else received_by w (payload_of p) (read_header w.endpoint.eid (unit_of w) inward p)).answer ≡ (if not b then 40
        else if ltb (length p) 5 then 10
        else if ltb (unit_of w + 4) (length p) then 11
        else if not (eqb (byte_at p 0 % 16) 1) then 12
        else if not (eqb (byte_at p 1) w.endpoint.eid) then 13
        else if not (is_set (byte_at p 3) 3) then 14
        else if has_som p then first_number w p (bytes_from4 p)
        else join_or w p 0 (join_or w p 1 21))
    stores false e = refl
    stores true e =
        rw (same_true (is_set (byte_at p 3) 3))
        (header e (ltb (length p) 5) (ltb (unit_of w + 4) (length p)) (not (eqb (byte_at p 0 % 16) 1)) (not (eqb (byte_at p 1) w.endpoint.eid)) (not (is_set (byte_at p 3) 3)))
