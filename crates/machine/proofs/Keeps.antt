-- Setup's state has the invariant, and every call's definition keeps it, whatever the call is given.
-- Assumes nothing.
use Prim.Native.Nat.{ℕ, zero, suc, ◌+◌, ◌*◌, ◌/◌, ◌%◌, ◌^◌, ◌≤◌, ◌<◌}
use mathlib.Core.Path.{◌≡◌, refl, sym, ap, ◌∙◌}
use mathlib.Core.Bool.{Bool, true, false, not, ◌||◌}
use mathlib.Core.List.{List, [], ◌∷◌}
use native.Mathlib.Nat.{mul-zero}
use native.Mathlib.Omega.{arith}
use lib.Bits.{bit_or, or_mod, or_shr}
use lib.Dec.{eqb, ltb}
use lib.ListN.{length, get_or, set}
use borrow.Author.Tests.{ltb-false, ltb-true, eqb-true, eqb-false, not-true, not-false}
use Rattle.std.specs.Prelude.{Ok, Err, Option, None, Some, Result, if◌then◌else◌}
use Rattle.lent.specs.Bytes.{put}
use Rattle.std.proofs.lemmas.Bool.{not_from_false, or_parts}
use Rattle.lent.proofs.Choice.{if_ind, if_second, false_true, differ}
use Rattle.lent.proofs.Stores.{length_put}
use Rattle.mctp.specs.Header.{fields, payload_of}
use Rattle.mctp.specs.declared.Header.{Header}
use Rattle.mctp.specs.Cut.{packets}
use Rattle.mctp.specs.Setup.{first_eid, least_unit, setup_refusal}
use Rattle.mctp.proofs.Laws.{SetUpSo, set_up_so, packets_bounds}
use Rattle.nvme_mi.specs.Message.{control, message_header, command_fault, control_fault, smallest}
use Rattle.nvme_mi.specs.Response.{response, fault_body}
use Rattle.nvme_mi.proofs.Laws.{length_response, fault_body_length}
use Rattle.nvme_mi.specs.declared.MessageHeader.{MessageHeader}
use Rattle.nvme_mi.specs.declared.Fault.{Fault}
use Rattle.machine.specs.State.{World, Outcome, Done, slot_at, store_at, with_slot, with_slots, with_flags, with_reply, with_store, with_endpoint, with_phase, with_busy, idled, held_in, is_idle, fresh, ticket, outgoing, settled}
use Rattle.machine.specs.Wire.{store_size, response_place, packet_room, wrong_stores, opcode_of, no_parameter, clears_flags}
use Rattle.machine.specs.Control.{Acted, paused_slot, pause, resumed_slot, released, resume, abort, clear_flags, replayed, replay, primitive, replied, controlled_by, controlled}
use Rattle.machine.specs.Process.{request, processing, response_to, responded, responded_at_once, entered}
use Rattle.machine.specs.Receive.{refused, refused_busy, raised, flag_of, dropped, gathers, ended_slot, end_assembly, received}
use Rattle.machine.specs.Finish.{TakeDone, is_slot, with_mark, taken, is_body, completed_by, completed, declared_by, was_declared, is_receive, timed_out, started, was_reset, initial, was_set_up}
use Rattle.machine.specs.Poll.{Polled, other_slot, sending_or, has_begun, begun_or, chosen, any_paused, ready, reply_first, is_last, advanced, after_packet, sent_control, sent_command, polled_by, polled}
use Rattle.machine.specs.Valid.{phased, apart, is_begun, Fits, PhaseFacts, ValidSlot, ValidSlots, two, ValidFlags, ValidNumbers, Valid, Sound}
use Rattle.machine.specs.Calls.{Call, receive, take!, read, complete, declare, poll, timeout, reset, step, begin}
use Rattle.machine.specs.Types.{Ticket, Assembly, Request, Response, Outgoing, Phase, Idle, Receive, Process, Answered, Transmit, Slot, Reply, Endpoint}
use Rattle.machine.proofs.Slots.{held_idle, same_found, other_most, slot_facts, facts_at, apart_left, apart_new_left, apart_new_right}
use Rattle.machine.proofs.Cases.{slot_most, take_cases, ticket_cases}
use Rattle.machine.proofs.Receiving.{Units, Joining, filled, grown, Walk, csi_most, walked}

-- ---- flags

zero_flags : ValidFlags 0
zero_flags = record { low = refl; thirteen = refl; top = refl }

or_flags : {f m : ℕ} → ValidFlags f → ValidFlags m → ValidFlags (bit_or f m)
or_flags {f} {m} a b =
    record {
      low = rw (or_mod f m 4, a.low, b.low) refl;
      thirteen = rw (or_shr f m 13, or_mod (f / 2 ^ 13) (m / 2 ^ 13) 1, a.thirteen, b.thirteen) refl;
      top = rw (or_shr f m 15, a.top, b.top) refl;
    }

if_flags : (b : Bool) {x y : ℕ} → ValidFlags x → ValidFlags y → ValidFlags (if b then x else y)
if_flags b p q = if_ind ValidFlags b (λ _. p) (λ _. q)

mask : (k : ℕ) → 2 ^ k % 2 ^ 4 ≡ 0 → 2 ^ k / 2 ^ 13 % 2 ≡ 0 → 2 ^ k / 2 ^ 15 ≡ 0 → ValidFlags (2 ^ k)
mask k a b c = record { low = a; thirteen = b; top = c }

flag_valid : (n : ℕ) → ValidFlags (flag_of n)
unfolding flag_of
flag_valid n =
    if_flags (eqb n 11) (mask 6 refl refl refl)
    (if_flags (eqb n 12) (mask 7 refl refl refl)
    (if_flags (eqb n 13) (mask 8 refl refl refl)
    (if_flags (eqb n 14) (mask 12 refl refl refl)
    (if_flags (eqb n 16) (mask 9 refl refl refl)
    (if_flags (eqb n 19) (mask 4 refl refl refl)
    (if_flags (eqb n 21) (mask 10 refl refl refl)
    (if_flags (eqb n 22) (mask 11 refl refl refl)
    zero_flags)))))))

-- ---- one part of the state changed

pub with_slots_lem : {e : Endpoint} {l : List Slot} → Valid e → ValidSlots e.unit e.turn l → Valid (with_slots e l)
with_slots_lem v s =
    record {
      numbers = v.numbers;
      slots_valid = s;
      flags_valid = v.flags_valid;
      reply_twelve = v.reply_twelve;
    }

with_flags_lem : {e : Endpoint} {f : ℕ} → Valid e → ValidFlags f → Valid (with_flags e f)
with_flags_lem v f =
    record {
      numbers = v.numbers;
      slots_valid = v.slots_valid;
      flags_valid = f;
      reply_twelve = v.reply_twelve;
    }

with_reply_lem : {e : Endpoint} {message : List ℕ} (to tag : ℕ) → Valid e → length message ≡ 12 → Valid (with_reply e message to tag)
with_reply_lem to tag v n =
    record {
      numbers = v.numbers;
      slots_valid = v.slots_valid;
      flags_valid = v.flags_valid;
      reply_twelve = n;
    }

raised_valid : {e : Endpoint} (m : ℕ) → ValidFlags m → Valid e → Valid (raised e m)
raised_valid m f v = with_flags_lem v (or_flags v.flags_valid f)

-- ---- one slot changed

-- the slot beside slot i, in the order of `apart`
abbrev Beside : ℕ → Slot → Slot → Type 0
Beside zero s o = apart s.phase o.phase ≡ true
Beside (suc n) s o = apart o.phase s.phase ≡ true

set_slot : {unit turn : ℕ} {l : List Slot} (i : ℕ) → i ≤ 1 → ValidSlots unit turn l → (s : Slot) → ValidSlot unit turn i s
    → Beside i s (get_or l (other_slot i) (fresh (ticket 0))) → ValidSlots unit turn (set l i s)
set_slot zero h (two vs vt k) s v b = two v vt b
set_slot (suc zero) h (two vs vt k) s v b = two vs v b
set_slot (suc (suc n)) h w s v b = absurd (omega arith)

pub kept_slot : {e : Endpoint} (i : ℕ) → i ≤ 1 → Valid e → (s : Slot) → ValidSlot e.unit e.turn i s → Beside i s (slot_at e (other_slot i)) → Valid (with_slot e i s)
kept_slot i h v s f b = with_slots_lem v (set_slot i h v.slots_valid s f b)

-- a phase that gathers nothing and is not begun
abbrev is_quiet : Phase → Bool
is_quiet = phased true (λ a. false) (λ r. true) (λ r. true) (λ r. eqb r.sent 0)

quiet_gathers : (p : Phase) → is_quiet p ≡ true → (source tag : ℕ) → gathers source tag p ≡ false
quiet_gathers (Idle held) h source tag = refl
quiet_gathers (Receive a) h source tag = false_true h
quiet_gathers (Process r) h source tag = refl
quiet_gathers (Answered r) h source tag = refl
quiet_gathers (Transmit r) h source tag = refl

quiet_right : (p q : Phase) → is_quiet q ≡ true → apart p q ≡ true
quiet_right p (Idle held) h = refl
quiet_right p (Receive a) h = false_true h
quiet_right p (Process r) h = refl
quiet_right p (Answered r) h = refl
quiet_right p (Transmit r) h = refl

quiet_begun : {A : Type 0} (p : Phase) → is_quiet p ≡ true → is_begun p ≡ true → A
quiet_begun (Idle held) h b = false_true b
quiet_begun (Receive a) h b = false_true b
quiet_begun (Process r) h b = false_true b
quiet_begun (Answered r) h b = false_true b
quiet_begun (Transmit r) h b = absurd (omega (arith, eqb-true r.sent 0 h, ltb-true 0 r.sent b))

beside_quiet : (i : ℕ) (s o : Slot) → is_quiet s.phase ≡ true → Beside i s o
beside_quiet zero s o h = apart_left s.phase o.phase (quiet_gathers s.phase h)
beside_quiet (suc n) s o h = quiet_right o.phase s.phase h

pub kept_quiet : {e : Endpoint} (i : ℕ) → i ≤ 1 → Valid e → (s : Slot) → PhaseFacts e.unit s.paused s.phase → is_quiet s.phase ≡ true → Valid (with_slot e i s)
kept_quiet {e} i h v s f q =
    kept_slot i h v s (record { phase_facts = f; begun_goes_on = λ b. quiet_begun s.phase q b }) (beside_quiet i s (slot_at e (other_slot i)) q)

pub idled_valid : {e : Endpoint} (i : ℕ) → i ≤ 1 → Valid e → Valid (with_slot e i (idled (slot_at e i)))
idled_valid {e} i h v = kept_quiet i h v (idled (slot_at e i)) (refl, tt) refl

beside_new : (i : ℕ) (s o : Slot) (a : Assembly) → s.phase ≡ Receive a → gathers a.source a.tag o.phase ≡ false → Beside i s o
beside_new zero s o a e h = rw e (apart_new_left a o.phase h)
beside_new (suc n) s o a e h = rw e (apart_new_right o.phase a h)

-- the same phase and flag as before
beside_at : {unit turn : ℕ} {l : List Slot} (i : ℕ) → i ≤ 1 → ValidSlots unit turn l
    → Beside i (get_or l i (fresh (ticket 0))) (get_or l (other_slot i) (fresh (ticket 0)))
beside_at zero h (two vs vt k) = k
beside_at (suc zero) h (two vs vt k) = k
beside_at (suc (suc n)) h w = absurd (omega arith)

busied_valid : {e : Endpoint} (i : ℕ) → i ≤ 1 → (b : Bool) → Valid e → Valid (with_slot e i (with_busy (slot_at e i) b))
busied_valid {e} i h b v =
    let s = slot_facts i h v.slots_valid in
    kept_slot i h v (with_busy (slot_at e i) b) (record { phase_facts = s.phase_facts; begun_goes_on = s.begun_goes_on }) (same i (beside_at i h v.slots_valid))
  where
    same : (j : ℕ) → Beside j (slot_at e i) (slot_at e (other_slot i)) → Beside j (with_busy (slot_at e i) b) (slot_at e (other_slot i))
    same zero k = k
    same (suc n) k = k

-- ---- both slots changed

-- a phase that gathers no more and is begun no more than another
pub record Calmer (p q : Phase) : Type 0 where
  pub fewer : (source tag : ℕ) → gathers source tag p ≡ false → gathers source tag q ≡ false
  pub was : (b : Assembly) → q ≡ Receive b → p ≡ Receive b
  pub begun : is_begun q ≡ true → is_begun p ≡ true

calmer_apart : (p p' q q' : Phase) → Calmer p p' → Calmer q q' → apart p q ≡ true → apart p' q' ≡ true
calmer_apart p p' q (Idle held) c d h = refl
calmer_apart p p' q (Receive b) c d h =
    not_from_false (gathers b.source b.tag p') (c.fewer b.source b.tag (not-true (gathers b.source b.tag p) (rw (d.was b refl) at h)))
calmer_apart p p' q (Process r) c d h = refl
calmer_apart p p' q (Answered r) c d h = refl
calmer_apart p p' q (Transmit r) c d h = refl

on_both_valid : {unit turn : ℕ} {l : List Slot} (f : Slot → Slot) → ((s : Slot) → PhaseFacts unit s.paused s.phase → PhaseFacts unit (f s).paused (f s).phase)
    → ((s : Slot) → PhaseFacts unit s.paused s.phase → Calmer s.phase (f s).phase) → ValidSlots unit turn l
    → ValidSlots unit turn (f (get_or l 0 (fresh (ticket 0))) ∷ f (get_or l 1 (fresh (ticket 0))) ∷ [])
on_both_valid f facts calm (two {s} {t} vs vt k) =
    let cs = calm s vs.phase_facts in
    let ct = calm t vt.phase_facts in
    two (record { phase_facts = facts s vs.phase_facts; begun_goes_on = λ b. vs.begun_goes_on (cs.begun b) })
    (record { phase_facts = facts t vt.phase_facts; begun_goes_on = λ b. vt.begun_goes_on (ct.begun b) })
    (calmer_apart s.phase (f s).phase t.phase (f t).phase cs ct k)

same_calm : (p : Phase) → Calmer p p
same_calm p = record { fewer = λ s t h. h; was = λ b h. h; begun = λ h. h }

idle_calm : (p : Phase) → Calmer p (Idle None)
idle_calm p = record { fewer = λ s t h. refl; was = λ b h. cc; begun = λ h. cc }

-- Pause
flag_facts : (unit : ℕ) (b : Bool) (p : Phase) → is_idle p ≡ false → PhaseFacts unit b p → PhaseFacts unit true p
flag_facts unit b (Idle held) h f = (h, f.1)
flag_facts unit b (Receive a) h f = f
flag_facts unit b (Process r) h f = f
flag_facts unit b (Answered r) h f = (refl, f.1)
flag_facts unit b (Transmit r) h f = f

paused_facts : (unit : ℕ) (s : Slot) → PhaseFacts unit s.paused s.phase → PhaseFacts unit (paused_slot s).paused (paused_slot s).phase
paused_facts unit s f =
    if_ind (λ (x : Slot). PhaseFacts unit x.paused x.phase) (is_idle s.phase) (λ _. f) (λ h. flag_facts unit s.paused s.phase h f)

paused_calm : (s : Slot) → Calmer s.phase (paused_slot s).phase
paused_calm s = if_ind (λ (x : Slot). Calmer s.phase x.phase) (is_idle s.phase) (λ _. same_calm s.phase) (λ _. same_calm s.phase)

pub pause_valid : {e : Endpoint} → Valid e → Valid (pause e)
unfolding pause
pause_valid {e} v = with_slots_lem v (on_both_valid paused_slot (paused_facts e.unit) (λ s _. paused_calm s) v.slots_valid)

-- a response of which no packet went has one left
none_went : (unit : ℕ) (r : Response) → Fits r → unit * 0 < r.length
none_went unit r f = rw mul-zero (omega (arith, f.least))

-- Resume
released_facts : (unit : ℕ) (b : Bool) (p : Phase) → PhaseFacts unit b p → PhaseFacts unit false (released p)
released_facts unit b (Idle held) f = (refl, f.1)
released_facts unit b (Receive a) f = f
released_facts unit b (Process r) f = f
released_facts unit b (Answered r) f = (none_went unit r f.1, f.1)
released_facts unit b (Transmit r) f = f

released_calm : (p : Phase) → Calmer p (released p)
released_calm (Idle held) = same_calm (Idle held)
released_calm (Receive a) = same_calm (Receive a)
released_calm (Process r) = same_calm (Process r)
released_calm (Answered r) = record { fewer = λ s t h. refl; was = λ x h. cc; begun = λ h. false_true h }
released_calm (Transmit r) = same_calm (Transmit r)

pub resume_valid : {e : Endpoint} → Valid e → Valid (resume e)
unfolding resume
resume_valid {e} v =
    with_slots_lem v
    (on_both_valid resumed_slot (λ s f. released_facts e.unit s.paused s.phase f) (λ s _. released_calm s.phase) v.slots_valid)

-- an assembly ends
ended_facts : (unit source tag : ℕ) (s : Slot) → PhaseFacts unit s.paused s.phase → PhaseFacts unit (ended_slot source tag s).paused (ended_slot source tag s).phase
ended_facts unit source tag s f =
    if_ind (λ (x : Slot). PhaseFacts unit x.paused x.phase) (gathers source tag s.phase) (λ _. (refl, tt)) (λ _. f)

ended_calm : (source tag : ℕ) (s : Slot) → Calmer s.phase (ended_slot source tag s).phase
ended_calm source tag s =
    if_ind (λ (x : Slot). Calmer s.phase x.phase) (gathers source tag s.phase) (λ _. idle_calm s.phase) (λ _. same_calm s.phase)

pub end_valid : {e : Endpoint} (source tag : ℕ) → Valid e → Valid (end_assembly e source tag)
unfolding end_assembly
end_valid {e} source tag v =
    with_slots_lem v (on_both_valid (ended_slot source tag) (ended_facts e.unit source tag) (λ s _. ended_calm source tag s) v.slots_valid)

-- ---- the endpoint and its stores

pub sound_endpoint : {w : World} {e : Endpoint} → Sound w → Valid e → Sound (with_endpoint w e)
sound_endpoint s v = record { state = v; size0 = s.size0; size1 = s.size1 }

abbrev IsStore : List ℕ → Type 0
IsStore store = length store ≡ store_size

pub store_at_lem : {w : World} (i : ℕ) → Sound w → IsStore (store_at w i)
store_at_lem i s = if_ind IsStore (eqb i 0) (λ _. s.size0) (λ _. s.size1)

pub sound_store : {w : World} (i : ℕ) (store : List ℕ) → Sound w → IsStore store → Sound (with_store w i store)
sound_store i store s h =
    record {
      state = s.state;
      size0 = if_ind IsStore (eqb i 0) (λ _. h) (λ _. s.size0);
      size1 = if_ind IsStore (eqb i 0) (λ _. s.size1) (λ _. h);
    }

put_store : {w : World} (i at : ℕ) (bytes : List ℕ) → at + length bytes ≤ store_size → Sound w → IsStore (put (store_at w i) at bytes)
put_store {w} i at bytes h s = length_put (store_at w i) at bytes (rw (store_at_lem i s) h) ∙ store_at_lem i s

-- a response that settles
settled_facts : (unit : ℕ) (b : Bool) (r : Response) → Fits r → PhaseFacts unit b (settled b r) × (is_quiet (settled b r) ≡ true)
settled_facts unit true r f = ((refl, f), refl)
settled_facts unit false r f = ((none_went unit r f, f), refl)

pub responded_sound : {w : World} (i : ℕ) (r : Request) (body : List ℕ) → i ≤ 1 → 4 ≤ length body → length body ≤ 4216 → Sound w → Sound (responded w i r body)
unfolding responded
responded_sound {w} i r body is lo hi s =
    let n = length_response r.kind i body in
    let room : response_place + length (response r.kind i body) ≤ store_size = rw n (omega arith) in
    let k = settled_facts w.endpoint.unit (slot_at w.endpoint i).paused (response_to r body) (record { least = omega arith; most = omega arith }) in
    sound_endpoint (sound_store i _ s (put_store i response_place (response r.kind i body) room s))
    (kept_quiet i is s.state (with_phase (slot_at w.endpoint i) (settled (slot_at w.endpoint i).paused (response_to r body))) k.0 k.1)

at_once_sound : {w : World} (i : ℕ) (r : Request) (f : Result (Unit {0}) Fault) → i ≤ 1 → Sound w → Sound (responded_at_once w i r f)
at_once_sound i r (Ok none) is s = s
at_once_sound i r (Err fault) is s = responded_sound i r (fault_body (Err fault)) is (omega (arith, fault_body_length (Err fault))) (omega (arith, fault_body_length (Err fault))) s

pub entered_sound : {w : World} (i : ℕ) (a : Assembly) (mh : MessageHeader) → i ≤ 1 → smallest ≤ a.length → a.length ≤ store_size → Sound w → Sound (entered w i a mh)
unfolding entered
entered_sound {w} i a mh is lo hi s =
    let e = with_slot w.endpoint i (processing (slot_at w.endpoint i) (request a mh)) in
    let v : Valid e = kept_quiet i is s.state (processing (slot_at w.endpoint i) (request a mh)) (lo, hi) refl in
    at_once_sound i (request a mh) (command_fault mh a.length) is
    (sound_endpoint s (if_ind Valid mh.ciap (λ _. pause_valid v) (λ _. v)))

-- ---- control primitives

clear_valid : {e : Endpoint} (i : ℕ) → i ≤ 1 → Valid e → Valid (clear_flags e i)
unfolding clear_flags
clear_valid i h v = with_flags_lem (busied_valid i h false v) zero_flags

abbrev StillValid : Acted → Type 0
StillValid a = Valid a.endpoint

-- Replay: a response that is held fits, and goes to Transmit
replay_valid : {e : Endpoint} (i : ℕ) → i ≤ 1 → Valid e → StillValid (replay e i)
unfolding replay
replay_valid {e} i h v = go (held_in (slot_at e i).phase) refl
  where
    go : (k : Option Response) → held_in (slot_at e i).phase ≡ k → StillValid (replayed e i k)
    go None q = v
    go (Some r) q =
        let f : PhaseFacts e.unit (slot_at e i).paused (Idle (Some r)) = rw (held_idle (slot_at e i).phase r q) at (facts_at i h v) in
        kept_quiet i h v (with_phase (slot_at e i) (Transmit (outgoing r 0))) (none_went e.unit r f.1, f.1) refl

pub primitive_valid : {e : Endpoint} (opcode i : ℕ) (clear : Bool) → i ≤ 1 → Valid e → Valid (primitive e opcode i clear).endpoint
unfolding primitive abort
primitive_valid {e} opcode i clear h v =
    if_ind StillValid (eqb opcode 0) (λ _. pause_valid v)
    (λ _.
    if_ind StillValid (eqb opcode 1) (λ _. resume_valid v)
    (λ _.
    if_ind StillValid (eqb opcode 2) (λ _. idled_valid i h v)
    (λ _. if_ind StillValid (eqb opcode 3) (λ _. if_ind Valid clear (λ _. clear_valid i h v) (λ _. v)) (λ _. replay_valid i h v))))

replied_valid : {e : Endpoint} (h : Header) (csi : ℕ) (body : List ℕ) → length body ≡ 4 → Valid e → Valid (replied e h csi body)
replied_valid h csi body n v = with_reply_lem h.source h.tag v (rw (length_response control csi body, n) refl)

pub controlled_valid : {e : Endpoint} (h : Header) (mh : MessageHeader) (m : List ℕ) → mh.csi ≤ 1 → Valid e → Valid (controlled e h mh m)
unfolding controlled
controlled_valid {e} h mh m is v = go (control_fault mh (opcode_of m) (no_parameter m))
  where
    go : (f : Result (Unit {0}) Fault) → Valid (controlled_by e h mh.csi m f)
    go (Ok none) = replied_valid h mh.csi _ refl (primitive_valid (opcode_of m) mh.csi (clears_flags m) is v)
    go (Err fault) = replied_valid h mh.csi (fault_body (Err fault)) (fault_body_length (Err fault)) v

-- ---- receiving

awaited_valid : {e : Endpoint} (i : ℕ) (a : Assembly) → i ≤ 1 → gathers a.source a.tag (slot_at e (other_slot i)).phase ≡ false
    → Units e.unit a.length → a.length ≤ store_size → Valid e → Valid (with_slot e i (with_phase (slot_at e i) (Receive a)))
awaited_valid {e} i a is free u hi v =
    let s = with_phase (slot_at e i) (Receive a) in
    kept_slot i is v s (record { phase_facts = (u.least, hi, u.even); begun_goes_on = λ h. cc }) (beside_new i s (slot_at e (other_slot i)) a refl free)

abbrev After : Outcome → Type 0
After o = Sound o.world

sound_walk : (w₀ : World) (packet : List ℕ) → Sound w₀ → Walk w₀ packet Sound After
unfolding refused refused_busy
sound_walk w₀ packet s₀ =
    record {
      sound = λ w s. s;
      unread = λ n _ _. refuse w₀ n s₀;
      refusing = λ w n _ s. refuse w n s;
      busying = λ w i b s. sound_endpoint s (busied_valid i b.slot_is true s.state);
      dropping = λ w i n _ g s. refuse (dropped w i) n (sound_endpoint s (idled_valid i g.slot_is s.state));
      failing = λ w i at j s. refuse _ 19 (let f = fill w i at j s in sound_endpoint f (idled_valid i j.slot_is f.state));
      gaining = λ w i at j _ u s. sound_endpoint (fill w i at j s) (awaited_valid i (grown w₀ packet at) j.slot_is j.alone u j.fits s.state);
      entering = λ w i at j _ lo _ s. entered_sound i (grown w₀ packet at) _ j.slot_is lo j.fits (fill w i at j s);
      controlling = λ w c s. sound_endpoint s (controlled_valid (fields packet) (message_header (payload_of packet)) (payload_of packet) (csi_most (payload_of packet)) s.state);
    }
  where
    refuse : (w : World) (n : ℕ) → Sound w → After (refused w n)
    refuse w n s = unfold refused in (sound_endpoint s (raised_valid (flag_of n) (flag_valid n) s.state))

    fill : (w : World) (i at : ℕ) → Joining w₀ packet w i at → Sound w → Sound (filled w₀ packet w i at)
    fill w i at j s = sound_store i _ s (put_store i at (payload_of packet) j.fits s)

pub received_sound : (w : World) (packet : List ℕ) → Sound w → After (received w packet)
received_sound w packet s =
    walked w packet Sound After (sound_walk w packet s) s (λ _. s)
    (λ _. sound_endpoint s (end_valid (fields packet).source (fields packet).tag s.state))

-- stores that are not refused have their length
pub sizes : (w : World) → wrong_stores w ≡ false → IsStore w.store0 × IsStore w.store1
sizes w h =
    let a = not (eqb (length w.store0) store_size) in
    let b = not (eqb (length w.store1) store_size) in
    (eqb-true _ _ (not-false _ (or_parts a b h).0), eqb-true _ _ (not-false _ (or_parts a b h).1))

pub sound_of : (w : World) → wrong_stores w ≡ false → Valid w.endpoint → Sound w
sound_of w h v = let k = sizes w h in record { state = v; size0 = k.0; size1 = k.1 }

abbrev Stays : Outcome → Type 0
Stays o = Valid o.world.endpoint

-- whatever stores are lent
pub received_valid : (w : World) (packet : List ℕ) → Valid w.endpoint → Stays (received w packet)
received_valid w packet v = go (wrong_stores w) refl
  where
    go : (b : Bool) → wrong_stores w ≡ b → Stays (received w packet)
    go true e = unfold received in (rw e v)
    go false e = (received_sound w packet (sound_of w e v)).state

-- ---- taking

-- a command that is taken, or of which something is declared
marked_valid : (e : Endpoint) (i : ℕ) (r : Request) (can : Bool) → i ≤ 1 → (slot_at e i).phase ≡ Process r → Valid e → Valid (with_mark e i r can)
marked_valid e i r can is h v =
    let f : PhaseFacts e.unit (slot_at e i).paused (Process r) = rw h at (facts_at i is v) in
    kept_quiet i is v _ f refl

pub taken_valid : (e : Endpoint) (i : ℕ) → Valid e → Valid (taken e i).endpoint
taken_valid e i v =
    take_cases (λ (d : TakeDone). Valid d.endpoint) e i (λ _ _. v) (λ k. marked_valid e i k.request false k.slot_is k.in_process v)

-- ---- completing

body_least : (body : List ℕ) → not (is_body body) ≡ false → (4 ≤ length body) × (length body ≤ 4216)
body_least body h =
    let a = ltb (length body) 4 in
    let b = ltb 4216 (length body) in
    let k : (a || b) ≡ false = not-true (a || b) (not-false (is_body body) h) in
    (ltb-false (length body) 4 (or_parts a b k).0, ltb-false 4216 (length body) (or_parts a b k).1)

pub completed_sound : (w : World) (i : ℕ) (t : Ticket) (body : List ℕ) → Sound w → Sound (completed w i t body).world
unfolding completed
completed_sound w i t body s =
    if_ind After (wrong_stores w) (λ _. s)
    (λ _.
    ticket_cases (λ (x : Result Request ℕ). After (completed_by w i body x)) w.endpoint i t (λ _ _. s)
    (λ m. if_ind After (not (is_body body)) (λ _. s) (λ h. let k = body_least body h in responded_sound i m.request body m.slot_is k.0 k.1 s)))
  where
    After : Outcome → Type 0
    After o = Sound o.world

pub completed_valid : (w : World) (i : ℕ) (t : Ticket) (body : List ℕ) → Valid w.endpoint → Stays (completed w i t body)
completed_valid w i t body v = go (wrong_stores w) refl
  where
    go : (b : Bool) → wrong_stores w ≡ b → Stays (completed w i t body)
    go true e = unfold completed in (rw e v)
    go false e = (completed_sound w i t body (sound_of w e v)).state

-- ---- declaring, timeout, reset, setup

abbrev DoneLeft : Done → Type 0
DoneLeft d = Valid d.endpoint

pub declared_valid : (e : Endpoint) (i : ℕ) (t : Ticket) (can : Bool) → Valid e → DoneLeft (was_declared e i t can)
unfolding was_declared
declared_valid e i t can v =
    ticket_cases (λ (x : Result Request ℕ). DoneLeft (declared_by e i can x)) e i t (λ _ _. v) (λ k. marked_valid e i k.request can k.slot_is k.in_process v)

pub timeout_valid : (e : Endpoint) (i : ℕ) → Valid e → DoneLeft (timed_out e i)
unfolding timed_out
timeout_valid e i v =
    if_ind DoneLeft (not (is_slot i)) (λ _. v)
    (λ h.
    if_ind DoneLeft (not (is_receive (slot_at e i).phase) || (slot_at e i).paused) (λ _. v)
    (λ _. raised_valid (2 ^ 5) (mask 5 refl refl refl) (idled_valid i (slot_most i h) v)))

started_valid : (eid unit flags : ℕ) (t u : Ticket) → ValidNumbers eid unit 0 → ValidFlags flags → Valid (started eid unit flags t u)
started_valid eid unit flags t u n f =
    record {
      numbers = n;
      slots_valid = two (fresh_valid 0 t) (fresh_valid 1 u) refl;
      flags_valid = f;
      reply_twelve = tt;
    }
  where
    fresh_valid : (i : ℕ) (t : Ticket) → ValidSlot unit 0 i (fresh t)
    fresh_valid i t = record { phase_facts = (refl, tt); begun_goes_on = λ b. cc }

pub reset_valid : (e : Endpoint) → Valid e → DoneLeft (was_reset e)
unfolding was_reset
reset_valid e v =
    let n = v.numbers in
    started_valid e.eid e.unit (2 ^ 14) _ _
    (record { eid_least = n.eid_least; eid_most = n.eid_most; unit_least = n.unit_least; unit_most = n.unit_most; turn_most = omega arith })
    (mask 14 refl refl refl)

-- a new endpoint
pub initial_valid : (eid unit : ℕ) → ValidNumbers eid unit 0 → Valid (initial eid unit)
initial_valid eid unit n = started_valid eid unit 0 _ _ n zero_flags

-- the EID and the unit that a setup does not refuse
pub within_bounds : (eid unit : ℕ) → setup_refusal eid unit ≡ 0 → ValidNumbers eid unit 0
within_bounds eid unit e = in_bounds eid unit (set_up_so eid unit e)
  where
    in_bounds : (eid unit : ℕ) → SetUpSo eid unit → ValidNumbers eid unit 0
    in_bounds eid unit k =
        record { eid_least = k.eid_least; eid_most = k.eid_most; unit_least = k.unit_least; unit_most = k.unit_most; turn_most = omega arith }

pub setup_valid : (eid unit : ℕ) → DoneLeft (was_set_up eid unit)
unfolding was_set_up
setup_valid eid unit =
    if_ind DoneLeft (eqb (setup_refusal eid unit) 0) (λ e. initial_valid eid unit (within_bounds eid unit (eqb-true (setup_refusal eid unit) 0 e)))
    (λ _. initial_valid first_eid least_unit (within_bounds first_eid least_unit refl))

-- ---- polling

-- the slot whose packet goes is in Transmit, and the other slot's response is not begun
pub record Chosen (e : Endpoint) (i : ℕ) (r : Outgoing) : Type 0 where
  pub slot_is : i ≤ 1
  pub sends : (slot_at e i).phase ≡ Transmit r
  pub first_of_two : is_begun (slot_at e (other_slot i)).phase ≡ true → ⊥

data Picked (k : ℕ) (p : Phase) (other : Option (ℕ × Outgoing)) (i : ℕ) (r : Outgoing) : Type 0 where
  here : k ≡ i → p ≡ Transmit r → Picked k p other i r
  there : other ≡ Some (i, r) → Picked k p other i r

sending_or_lem : (k : ℕ) (p : Phase) (other : Option (ℕ × Outgoing)) {i : ℕ} {r : Outgoing} → sending_or k p other ≡ Some (i, r) → Picked k p other i r
sending_or_lem k (Idle held) other e = there e
sending_or_lem k (Receive a) other e = there e
sending_or_lem k (Process q) other e = there e
sending_or_lem k (Answered q) other e = there e
sending_or_lem k (Transmit q) other e = let same = same_found e in here same.0 (ap Transmit same.1)

data Begun (k : ℕ) (p : Phase) (other : Option (ℕ × Outgoing)) (i : ℕ) (r : Outgoing) : Type 0 where
  here : k ≡ i → p ≡ Transmit r → is_begun p ≡ true → Begun k p other i r
  there : other ≡ Some (i, r) → is_begun p ≡ false → Begun k p other i r

begun_or_lem : (k : ℕ) (p : Phase) (other : Option (ℕ × Outgoing)) {i : ℕ} {r : Outgoing} → begun_or k p other ≡ Some (i, r) → Begun k p other i r
begun_or_lem k (Idle held) other e = there e refl
begun_or_lem k (Receive a) other e = there e refl
begun_or_lem k (Process q) other e = there e refl
begun_or_lem k (Answered q) other e = there e refl
begun_or_lem k (Transmit q) other {i} {r} e = go (has_begun q) refl e
  where
    go : (b : Bool) → has_begun q ≡ b → ◌≡◌ {A = Option (ℕ × Outgoing)} (if b then Some (k, q) else other) (Some (i, r)) → Begun k (Transmit q) other i r
    go true f g = let same = same_found g in here same.0 (ap Transmit same.1) f
    go false f g = there g f

-- where neither response is begun
none_begun : (e : Endpoint) → is_begun (slot_at e 0).phase ≡ false → is_begun (slot_at e 1).phase ≡ false → (i : ℕ) → is_begun (slot_at e (other_slot i)).phase ≡ true → ⊥
none_begun e a b i h =
    if_ind (λ (k : ℕ). is_begun (slot_at e k).phase ≡ true → ⊥) (eqb i 0) (λ _ g. false_true (sym b ∙ g)) (λ _ g. false_true (sym a ∙ g)) h

-- two responses are never begun at once
both_begun : {e : Endpoint} → Valid e → is_begun (slot_at e 0).phase ≡ true → is_begun (slot_at e 1).phase ≡ true → ⊥
both_begun v a b =
    let one = (slot_facts 0 (omega arith) v.slots_valid).begun_goes_on a in
    let zero' = (slot_facts 1 (omega arith) v.slots_valid).begun_goes_on b in
    omega (arith, one, zero')

pub chosen_at : (e : Endpoint) → Valid e → {i : ℕ} {r : Outgoing} → chosen e ≡ Some (i, r) → Chosen e i r
unfolding chosen
chosen_at e v {i} {r} h = first (begun_or_lem 0 (slot_at e 0).phase (begun_or 1 (slot_at e 1).phase turns) h)
  where
    turn_is : ℕ
    turn_is = e.turn

    turns : Option (ℕ × Outgoing)
    turns = sending_or e.turn (slot_at e e.turn).phase (sending_or (other_slot e.turn) (slot_at e (other_slot e.turn)).phase None)

    last : (k : ℕ) → k ≤ 1 → is_begun (slot_at e 0).phase ≡ false → is_begun (slot_at e 1).phase ≡ false → k ≡ i → (slot_at e k).phase ≡ Transmit r → Chosen e i r
    last k is a b e1 e2 = rw (sym e1) (record { slot_is = is; sends = e2; first_of_two = none_begun e a b k })

    fourth : is_begun (slot_at e 0).phase ≡ false → is_begun (slot_at e 1).phase ≡ false
        → Picked (other_slot e.turn) (slot_at e (other_slot e.turn)).phase None i r → Chosen e i r
    fourth a b (here k p) = last (other_slot e.turn) (other_most e.turn) a b k p
    fourth a b (there n) = differ (cc n)

    third : is_begun (slot_at e 0).phase ≡ false → is_begun (slot_at e 1).phase ≡ false
        → Picked e.turn (slot_at e e.turn).phase (sending_or (other_slot e.turn) (slot_at e (other_slot e.turn)).phase None) i r → Chosen e i r
    third a b (here k p) = last e.turn v.numbers.turn_most a b k p
    third a b (there n) = fourth a b (sending_or_lem (other_slot e.turn) (slot_at e (other_slot e.turn)).phase None n)

    second : is_begun (slot_at e 0).phase ≡ false → Begun 1 (slot_at e 1).phase turns i r → Chosen e i r
    second a (here k p b) = rw (sym k) (record { slot_is = omega arith; sends = p; first_of_two = λ g. false_true (sym a ∙ g) })
    second a (there n b) = third a b (sending_or_lem e.turn (slot_at e e.turn).phase _ n)

    first : Begun 0 (slot_at e 0).phase (begun_or 1 (slot_at e 1).phase turns) i r → Chosen e i r
    first (here k p b) = rw (sym k) (record { slot_is = omega arith; sends = p; first_of_two = λ g. both_begun v b g })
    first (there n a) = second a (begun_or_lem 1 (slot_at e 1).phase turns n)

pub ready_at : (e : Endpoint) → Valid e → {i : ℕ} {r : Outgoing} → ready e ≡ Some (i, r) → Chosen e i r
unfolding ready
ready_at e v h = chosen_at e v (if_second (any_paused e) (λ n. differ (cc n)) h).1

-- a response that is not at its last packet has one left behind it
more_left : (unit : ℕ) → 0 < unit → (r : Outgoing) → unit * r.sent < r.response.length → is_last unit r ≡ false → unit * (r.sent + 1) < r.response.length
more_left unit pos r inside h =
    let k = packets_bounds unit r.response.length in
    let below : r.sent < packets unit r.response.length = (k r.sent pos).1 inside in
    (k (r.sent + 1) pos).0 (omega (arith, eqb-false (r.sent + 1) (packets unit r.response.length) h))

-- a slot that is not in Receive
pub record Sending (unit : ℕ) (s : Slot) : Type 0 where
  pub facts : PhaseFacts unit s.paused s.phase
  pub left : (q : Phase) → apart s.phase q ≡ true
  pub right : (q : Phase) → apart q s.phase ≡ true

after_packet_lem : (unit : ℕ) → 0 < unit → (s : Slot) (r : Outgoing) → PhaseFacts unit s.paused (Transmit r) → Sending unit (after_packet unit s r)
after_packet_lem unit pos s r f =
    if_ind (Sending unit) (is_last unit r) (λ _. record { facts = (refl, f.1); left = λ q. apart_left (Idle (Some r.response)) q (λ a b. refl); right = λ q. refl })
    (λ h.
    record {
      facts = (more_left unit pos r f.0 h, record { least = f.1.least; most = f.1.most });
      left = λ q. apart_left (Transmit (advanced r)) q (λ a b. refl);
      right = λ q. refl;
    })

-- slot i's packet has gone, so that the other slot's turn is next
sent_slots : {unit turn : ℕ} {l : List Slot} (i : ℕ) → i ≤ 1 → ValidSlots unit turn l → (s : Slot) → Sending unit s
    → (is_begun (get_or l (other_slot i) (fresh (ticket 0))).phase ≡ true → ⊥) → ValidSlots unit (other_slot i) (set l i s)
sent_slots zero h (two {s = a} {t = b} vs vt k) s v n =
    two (record { phase_facts = v.facts; begun_goes_on = λ _. refl }) (record { phase_facts = vt.phase_facts; begun_goes_on = λ g. absurd (n g) }) (v.left b.phase)
sent_slots (suc zero) h (two {s = a} {t = b} vs vt k) s v n =
    two (record { phase_facts = vs.phase_facts; begun_goes_on = λ g. absurd (n g) }) (record { phase_facts = v.facts; begun_goes_on = λ _. refl }) (v.right a.phase)
sent_slots (suc (suc n)) h w s v m = absurd (omega arith)

abbrev PollLeft : Polled → Type 0
PollLeft p = Valid p.endpoint

pub command_valid : (w : World) (i : ℕ) (r : Outgoing) (buffer : List ℕ) → Chosen w.endpoint i r → Valid w.endpoint → PollLeft (sent_command w i r buffer)
unfolding sent_command
command_valid w i r buffer c v =
    let n = v.numbers in
    let turned : (sent_command w i r buffer).endpoint.turn ≡ other_slot i = refl in
    record {
      numbers = record { eid_least = n.eid_least; eid_most = n.eid_most; unit_least = n.unit_least; unit_most = n.unit_most; turn_most = rw turned (other_most i) };
      slots_valid =
          sent_slots i c.slot_is v.slots_valid _
          (after_packet_lem w.endpoint.unit (omega (arith, n.unit_least)) (slot_at w.endpoint i) r (rw c.sends at (facts_at i c.slot_is v))) c.first_of_two;
      flags_valid = v.flags_valid;
      reply_twelve = v.reply_twelve;
    }

control_valid : (e : Endpoint) (r : Reply) (buffer : List ℕ) → Valid e → PollLeft (sent_control e r buffer)
unfolding sent_control
control_valid e r buffer v =
    record {
      numbers = v.numbers;
      slots_valid = v.slots_valid;
      flags_valid = v.flags_valid;
      reply_twelve = tt;
    }

pub polled_valid : (w : World) (buffer : List ℕ) → Valid w.endpoint → PollLeft (polled w buffer)
unfolding polled
polled_valid w buffer v =
    if_ind PollLeft (wrong_stores w) (λ _. v) (λ _. if_ind PollLeft (ltb (length buffer) (packet_room w.endpoint)) (λ _. v) (λ _. by w.endpoint.reply (ready w.endpoint) refl))
  where
    by : (reply : Option Reply) (x : Option (ℕ × Outgoing)) → ready w.endpoint ≡ x → PollLeft (polled_by w buffer reply x)
    by None None h = v
    by None (Some (i, r)) h = command_valid w i r buffer (ready_at w.endpoint v h) v
    by (Some reply) None h = control_valid w.endpoint reply buffer v
    by (Some reply) (Some (i, r)) h =
        if_ind PollLeft (reply_first w.endpoint) (λ _. control_valid w.endpoint reply buffer v)
        (λ _. command_valid w i r buffer (ready_at w.endpoint v h) v)

-- ---- THE LAWS: setup gives the invariant, and every call keeps it, whatever it is given. Stores of the right length keep it.

pub begin_valid : (eid unit : ℕ) (store0 store1 : List ℕ) → Valid (begin eid unit store0 store1).endpoint
unfolding begin
begin_valid eid unit store0 store1 = setup_valid eid unit

pub step_valid : (c : Call) (w : World) → Valid w.endpoint → Valid (step c w).world.endpoint
unfolding step
step_valid (receive packet) w v = received_valid w packet v
step_valid (take! i) w v = taken_valid w.endpoint i v
step_valid (read i) w v = v
step_valid (complete i t body) w v = completed_valid w i t body v
step_valid (declare i t can) w v = declared_valid w.endpoint i t can v
step_valid (poll buffer) w v = polled_valid w buffer v
step_valid (timeout i) w v = timeout_valid w.endpoint i v
step_valid reset w v = reset_valid w.endpoint v

pub step_sound : (c : Call) (w : World) → Sound w → Sound (step c w).world
unfolding step
step_sound (receive packet) w s = received_sound w packet s
step_sound (take! i) w s = sound_endpoint s (taken_valid w.endpoint i s.state)
step_sound (read i) w s = s
step_sound (complete i t body) w s = completed_sound w i t body s
step_sound (declare i t can) w s = sound_endpoint s (declared_valid w.endpoint i t can s.state)
step_sound (poll buffer) w s = sound_endpoint s (polled_valid w buffer s.state)
step_sound (timeout i) w s = sound_endpoint s (timeout_valid w.endpoint i s.state)
step_sound reset w s = sound_endpoint s (reset_valid w.endpoint s.state)
