-- A control primitive that the requester builds is answered, and its reply comes back: both packets pass each test in turn.
-- Assumes nothing.
use Prim.Native.Nat.{ℕ, ◌+◌, ◌/◌, ◌%◌, ◌≤◌}
use mathlib.Core.Path.{◌≡◌, refl, sym, ap, ◌∙◌}
use mathlib.Core.Bool.{true, false}
use mathlib.Core.List.{List, [], ◌∷◌, ◌++◌}
use native.Mathlib.Nat.{mod-lt, mod-eq_of_lt, zero-lt-suc, zero-add}
use native.Mathlib.Omega.{arith}
use lib.Dec.{eqb, ltb}
use lib.ListN.{length, take, drop}
use borrow.Author.Tests.{eqb-true, eq-eqb, le-ltb}
use Rattle.std.specs.Option.{is_some}
use Rattle.lent.specs.Bytes.{byte_at, is_set, put}
use Rattle.lent.proofs.Choice.{if_ind, differ}
use Rattle.nvme_mi.specs.Check.{with_check}
use Rattle.nvme_mi.proofs.Laws.{length_with_check, check_of_own}
use Rattle.machine.specs.State.{World, reply_message}
use Rattle.machine.specs.Receive.{received as received_at}
use Rattle.machine.specs.Valid.{Sound}
use Rattle.machine.specs.Calls.{Call, receive, Event, number, handed_out, step}
use Rattle.machine.specs.History.{History, has_som, bytes_from4, is_control, is_primitive, next, run, start}
use Rattle.machine.specs.Demands.{reply_packet}
use Rattle.machine.specs.Replies.{csi_of, wrong_replay, slot_found, cpsr_of, body_of, Replied, GoesWithin, ReplyFate, replaced, sent, waiting, reply_fate}
use Rattle.machine.proofs.Histories.{good_every}
use Rattle.machine.proofs.Lists.{run_then}
use Rattle.machine.proofs.Replies.{primitive_done, control_replied, reply_goes}
use Rattle.controller.specs.State.{Side, Valid}
use Rattle.controller.specs.Send.{send_says, primitive_to}
use Rattle.controller.specs.Receive.{received}
use Rattle.controller.specs.Grounds.{key_of, is_awaited, receive_numbers, primitive_numbers, primitive_packet, Left}
use Rattle.controller.specs.declared.Awaiting.{Awaiting}
use Rattle.controller.specs.declared.Awaiting.TheVariants.{Nothing, Awaited, Gathering}
use Rattle.controller.specs.declared.Primitive.{Primitive}
use Rattle.controller.specs.declared.Requester.{Requester}
use Rattle.controller.proofs.Grounds.{received_so, place_first}
use Rattle.controller.proofs.Calls.{primitive_so}
use Rattle.round_trip.specs.Response.{bytes_handed_out}
use Rattle.round_trip.proofs.Formed.{first_bytes}
use Rattle.round_trip.specs.Primitive.{GatheredReply, Comes, ComesBack, Answered, PrimitiveAnswered}

-- ---- there

-- byte 3 of the primitive's packet: SOM, EOM, TO, the tag
header_bits : (tag : ℕ) → tag ≤ 7
    → let b = 128 + 64 + 8 + tag in ((b / 128 % 2 ≡ 1) × (b / 64 % 2 ≡ 1) × (b / 8 % 2 ≡ 1)) × (b % 8 ≡ tag)
header_bits tag h = (omega arith, omega arith)

slot_bits : (i : ℕ) → i ≤ 1 → (i / 128 % 2 ≡ 0) × (i / 8 % 16 ≡ 0)
slot_bits i h = omega arith

-- it passes each test of a control primitive
is_control_lem : (eid source tag : ℕ) (p : Primitive) → tag ≤ 7 → p.slot ≤ 1 → is_control eid (primitive_packet source eid tag p) ≡ true
unfolding with_check
is_control_lem eid source tag p t s =
    let b = (header_bits tag t).0 in
    let c = slot_bits p.slot s in
    let message : List ℕ = 0x84 ∷ p.slot ∷ 0 ∷ 0 ∷ p.opcode ∷ p.tag ∷ p.cpsp % 256 ∷ p.cpsp / 256 % 256 ∷ [] in
    rw (eq-eqb eid eid refl, b.0, b.1, b.2, c.0, c.1, check_of_own message) refl

-- it acts, with its opcode, and names its slot
pub is_acting : (eid source tag : ℕ) (p : Primitive) → tag ≤ 7 → p.slot ≤ 1 → let packet = primitive_packet source eid tag p in
    (is_primitive p.opcode eid packet ≡ true) × (eqb (byte_at (bytes_from4 packet) 1 % 2) p.slot ≡ true)
unfolding with_check
is_acting eid source tag p t s =
    (rw (is_control_lem eid source tag p t s, eq-eqb p.opcode p.opcode refl) refl, eq-eqb (p.slot % 2) p.slot (mod-eq_of_lt (omega arith)))

-- in a buffer with room the requester builds it, and it is that packet
pub built : (r : Requester) (destination tag : ℕ) (p : Primitive) (buffer : List ℕ) → Valid r → tag ≤ 7 → p.slot ≤ 1 → 16 ≤ length buffer
    → (send_says (primitive_to r destination tag p buffer).answer ≡ (0, 16 ∷ []))
    × (take 16 (primitive_to r destination tag p buffer).buffer ≡ primitive_packet r.eid destination tag p)
built r destination tag p buffer v t sl room =
    let c = primitive_so r destination tag p buffer v in
    let done : primitive_numbers tag p buffer ≡ (0, 16 ∷ []) = rw (le-ltb 7 tag t, le-ltb 1 p.slot sl, le-ltb (length buffer) 16 room) refl in
    (c.wrote.number_is ∙ done, c.packet_is (ap (λ (n : ℕ × List ℕ). eqb n.0 0) done))

-- ---- back

reply_bits : (tag : ℕ) → let b = 0xC0 + tag % 8 in (b / 128 % 2 ≡ 1) × (b / 64 % 2 ≡ 1) × (b / 8 % 2 ≡ 0) × (b % 8 ≡ tag % 8)
reply_bits tag = omega (arith, mod-lt tag (zero-lt-suc 7))

csi_bits : (i : ℕ) → i ≤ 1 → ((128 + i) / 128 % 2 ≡ 1) × ((128 + i) / 8 % 16 ≡ 0)
csi_bits i h = omega arith

abbrev reply_with : ℕ → List ℕ → List ℕ
reply_with i body = with_check ((0x84 ∷ (128 + i) ∷ 0 ∷ 0 ∷ []) ++ body)

pub reply_twelve : (i : ℕ) (body : List ℕ) → length body ≡ 4 → length (reply_with i body) ≡ 12
reply_twelve i body four = length_with_check ((0x84 ∷ (128 + i) ∷ 0 ∷ 0 ∷ []) ++ body) ∙ omega arith

-- a reply of twelve bytes, in a packet for this requester, from a source and under a tag that it awaits
module _ (s : Side) (v : Valid s.requester) (size : length s.store ≡ 4224) (to source tag i : ℕ) (body : List ℕ) (is : i ≤ 1) (four : length body ≡ 4)
    (ours : to ≡ s.requester.eid) (awaited : is_awaited source (tag % 8) s.requester.awaiting ≡ true) where
  abbrev packet : List ℕ
  packet = 1 ∷ to ∷ source ∷ (0xC0 + tag % 8) ∷ reply_with i body

  numbers : receive_numbers s packet ≡ (2, 12 ∷ [])
  numbers =
      let b = reply_bits tag in
      let c = csi_bits i is in
      let f = first_bytes 0x84 (128 + i) body in
      let fits : ltb (s.requester.unit + 4) 16 ≡ false = le-ltb (s.requester.unit + 4) 16 (omega (arith, v.unit_least)) in
      rw (
        size,
        reply_twelve i body four,
        fits,
        eq-eqb to s.requester.eid ours,
        b.3,
        b.2,
        b.1,
        b.0,
        f.0,
        f.1,
        c.0,
        c.1,
        check_of_own ((0x84 ∷ (128 + i) ∷ 0 ∷ 0 ∷ []) ++ body),
        awaited,
      )
      refl

  nothing : (a : Awaiting) → key_of a ≡ [] → a ≡ Nothing
  nothing Nothing e = refl
  nothing (Awaited k) e = differ (cc e)
  nothing (Gathering x) e = differ (cc e)

  comes : GatheredReply s (reply_with i body) packet
  comes =
      let k : Left s packet (2, 12 ∷ []) (received s packet) = rw numbers at (received_so s packet v) in
      let som : has_som packet ≡ true = eq-eqb ((0xC0 + tag % 8) / 128 % 2) 1 (reply_bits tag).0 in
      record {
        answered = k.number_is;
        came =
            record {
              eid_same = k.eid_is;
              unit_same = k.unit_is;
              nothing_awaited = nothing (received s packet).side.requester.awaiting k.key_is;
              store_is =
                  k.store_is ∙ ap (λ (n : ℕ). put s.store n (reply_with i body)) (place_first packet s.requester.awaiting som)
                  ∙ ap (λ (n : ℕ). reply_with i body ++ drop n s.store) (zero-add (length (reply_with i body)));
            };
      }

-- ---- the whole

pub body_four : (m : List ℕ) (cpsr : ℕ) → length (body_of m cpsr) ≡ 4
body_four m cpsr =
    if_ind Four (is_set (byte_at m 2) 0) (λ _. refl)
    (λ _.
    if_ind Four (is_set (byte_at m 2) 1) (λ _. refl) (λ _. if_ind Four (ltb 4 (byte_at m 4)) (λ _. refl) (λ _. if_ind Four (wrong_replay m) (λ _. refl) (λ _. refl))))
  where
    Four : List ℕ → Type 0
    Four x = length x ≡ 4

module _ (w : World) (ok : Sound w) (r : Requester) (tag : ℕ) (p : Primitive) (t : tag ≤ 7) (sl : p.slot ≤ 1) where
  abbrev request : List ℕ
  request = primitive_packet r.eid w.endpoint.eid tag p

  answer_two : (received_at w request).answer ≡ 2
  answer_two = eqb-true (received_at w request).answer 2 (primitive_done w request ok ∙ is_control_lem w.endpoint.eid r.eid tag p t sl)

  abbrev after : World
  after = (received_at w request).world

  replied_so : Replied w request after
  replied_so = control_replied w request ok answer_two

  abbrev cpsr : ℕ
  cpsr = cpsr_of (bytes_from4 request) (slot_found w request (csi_of (bytes_from4 request))) w.endpoint.flags after

  -- the reply's packet is one that comes
  goes_as : reply_packet after.endpoint
      ≡ 1 ∷ r.eid ∷ w.endpoint.eid ∷ (0xC0 + tag % 8) ∷ reply_with (csi_of (bytes_from4 request)) (body_of (bytes_from4 request) cpsr)
  goes_as =
      rw (replied_so.reply_is, replied_so.eid_is, (header_bits tag t).1) refl

  comes_by : (v : Event) → v ≡ handed_out (reply_packet after.endpoint) → Comes r.eid w.endpoint.eid tag (reply_message after.endpoint.reply) v
  comes_by v e s ok_s size ours awaited =
      let same_packet : bytes_handed_out v ≡ 1 ∷ r.eid ∷ w.endpoint.eid ∷ (0xC0 + tag % 8) ∷ reply_with (csi_of (bytes_from4 request)) (body_of (bytes_from4 request) cpsr) =
      ap bytes_handed_out e ∙ goes_as in
      let small : tag % 8 ≡ tag = mod-eq_of_lt (omega arith) in
      rw (same_packet, replied_so.reply_is)
      (comes s ok_s size r.eid w.endpoint.eid tag (csi_of (bytes_from4 request)) (body_of (bytes_from4 request) cpsr)
      (omega (arith, mod-lt (byte_at (bytes_from4 request) 1) (zero-lt-suc 1))) (body_four (bytes_from4 request) cpsr) (sym ours)
      (ap (λ (x : ℕ). is_awaited w.endpoint.eid x s.requester.awaiting) small ∙ awaited))

  comes_back_by : (f : ReplyFate) → GoesWithin 2 after.endpoint f → ComesBack r.eid w.endpoint.eid tag (reply_message after.endpoint.reply) f
  comes_back_by replaced k = tt
  comes_back_by (sent n v) k = (k.0, comes_by v k.1)
  comes_back_by (waiting n e) k = k.0

  answered_so : ((ys : List Call) → GoesWithin 2 after.endpoint (reply_fate 0 ys after)) → Answered r tag w request
  unfolding step
  answered_so goes = record { done = ap number answer_two; replied = replied_so; comes_back = λ ys. comes_back_by (reply_fate 0 ys after) (goes ys) }

-- the reply that waits after a packet of a list goes
goes : (eid unit : ℕ) (store0 store1 : List ℕ) → length store0 ≡ 4224 → length store1 ≡ 4224 → (xs : List Call) (packet : List ℕ)
    → let w = (run xs (start eid unit store0 store1)).world in
    is_some (received_at w packet).world.endpoint.reply ≡ true
    → (ys : List Call) → GoesWithin 2 (received_at w packet).world.endpoint (reply_fate 0 ys (received_at w packet).world)
goes eid unit store0 store1 a b xs packet waits ys =
    let h = run xs (start eid unit store0 store1) in
    let later : (run (xs ++ (receive packet ∷ [])) (start eid unit store0 store1)).world ≡ (received_at h.world packet).world =
    ap (λ (k : History). k.world) (run_then xs (receive packet) (start eid unit store0 store1)) ∙ world_then h in
    rw later at (reply_goes eid unit store0 store1 a b (xs ++ (receive packet ∷ [])) (rw later waits) ys)
  where
    world_then : (h : History) → (next (receive packet) h).world ≡ (received_at h.world packet).world
    world_then h = unfold next step in refl

pub primitive_answered : PrimitiveAnswered
primitive_answered eid unit store0 store1 a b xs r tag p buffer v t sl room =
    let h = run xs (start eid unit store0 store1) in
    let w = h.world in
    let ok = (good_every eid unit store0 store1 a b xs).sound in
    let c = built r w.endpoint.eid tag p buffer v t sl room in (
      c.0,
      rw c.1 (answered_so w ok r tag p t sl (goes eid unit store0 store1 a b xs (request w ok r tag p t sl) (ap is_some (replied_so w ok r tag p t sl).reply_is))),
    )
