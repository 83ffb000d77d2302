-- THE REQUESTER OVER LISTS OF CALLS. Whatever is called and whatever comes in between: what is told as a whole response is well formed, and came packet
-- behind packet from the source and under the tag that were awaited last, since they were. The proofs: `response_own`, `reply_own`, `answers_named`,
-- `identity_kept` (proofs/Lists).
-- Assumes nothing.
use Rattle.std.specs.Prelude.{ℕ, ◌+◌, ◌/◌, ◌%◌, ◌≡◌, true, false, List, [], ◌∷◌, ◌++◌, eqb, length, take, if◌then◌else◌}
use Rattle.lent.specs.Bytes.{byte_at, is_set}
use Rattle.mctp.specs.Setup.{setup_number}
use Rattle.nvme_mi.specs.Check.{check_right}
use Rattle.opening.specs.Formed.{WellFormed}
use Rattle.machine.specs.History.{has_som, source_of, message_tag_of, bytes_from4}
use Rattle.machine.specs.Grounds.{has_eom, sequence_of}
use Rattle.machine.specs.Refusals.{is_one_of}
use Rattle.controller.specs.State.{Side, side, Valid}
use Rattle.controller.specs.Await.{was_set_up, now_awaits}
use Rattle.controller.specs.Send.{send_says, cut_to, primitive_to}
use Rattle.controller.specs.Receive.{receive_says, received}
use Rattle.controller.specs.Grounds.{is_whole}
use Rattle.controller.specs.Types.{Requester, Primitive}

-- ---- the calls on one requester and its store; setup is none of them: it starts a list

pub data Call : Type 0 where
  -- source, tag
  await : ℕ → ℕ → Call
  -- destination, tag, message, buffer
  cut : ℕ → ℕ → List ℕ → List ℕ → Call
  -- destination, tag, what is asked, buffer
  primitive : ℕ → ℕ → Primitive → List ℕ → Call
  -- a packet
  receive : List ℕ → Call

-- the number that a call answers, and the value beside it
unfoldable pub says : Call → Side → ℕ × List ℕ
unfolding now_awaits cut_to primitive_to received
says (await source tag) s = ((now_awaits s.requester source tag).answer, [])
says (cut destination tag m buffer) s = send_says (cut_to s.requester destination tag m buffer).answer
says (primitive destination tag p buffer) s = send_says (primitive_to s.requester destination tag p buffer).answer
says (receive p) s = receive_says (received s p).answer

-- cutting and building change no state
unfoldable pub after : Call → Side → Side
unfolding now_awaits received
after (await source tag) s = side (now_awaits s.requester source tag).requester s.store
after (cut destination tag m buffer) s = s
after (primitive destination tag p buffer) s = s
after (receive p) s = (received s p).side

-- ---- the history of a list, told by its calls and their numbers alone

pub record History : Type 0 where
  pub side : Side
  -- the source and tag that were awaited last, until what is awaited is whole
  pub key : List ℕ
  -- the packets taken in since the last one with SOM, and since the awaiting; the newest is the first
  pub packets : List (List ℕ)

abbrev pub key_after : Call → ℕ → List ℕ → List ℕ
key_after (await source tag) n key = if eqb n 0 then source ∷ tag ∷ [] else key
key_after (cut destination tag m buffer) n key = key
key_after (primitive destination tag p buffer) n key = key
key_after (receive p) n key = if is_whole n then [] else key

-- a packet behind those that were taken in; one with SOM begins anew
abbrev pub with_packet : List ℕ → List (List ℕ) → List (List ℕ)
with_packet p ps = p ∷ (if has_som p then [] else ps)

abbrev pub packets_after : Call → ℕ → List (List ℕ) → List (List ℕ)
packets_after (await source tag) n ps = if eqb n 0 then [] else ps
packets_after (cut destination tag m buffer) n ps = ps
packets_after (primitive destination tag p buffer) n ps = ps
packets_after (receive p) n ps = if eqb n 0 then with_packet p ps else ps

unfoldable pub next : Call → History → History
unfolding says after
next c h =
    record {
      side = after c h.side;
      key = key_after c (says c h.side).0 h.key;
      packets = packets_after c (says c h.side).0 h.packets;
    }

unfoldable pub run : List Call → History → History
unfolding next
run [] h = h
run (c ∷ cs) h = run cs (next c h)

unfoldable pub start : ℕ → ℕ → List ℕ → History
unfolding was_set_up
start eid unit store = record { side = side (was_set_up eid unit).requester store; key = []; packets = [] }

-- any list of calls from any setup, on a store of any length
abbrev pub Every : (History → Type 0) → Type 0
Every P = (eid unit : ℕ) (store : List ℕ) (cs : List Call) → P (run cs (start eid unit store))

-- ---- what is told as whole

-- payloads joined, the oldest first
abbrev pub joined : List (List ℕ) → List ℕ
joined [] = []
joined (p ∷ ps) = joined ps ++ bytes_from4 p

abbrev pub key_in : List ℕ → List ℕ
key_in p = source_of p ∷ message_tag_of p ∷ []

-- a packet stands behind these: it has SOM if there is none, else the next sequence number; those before it have this source and tag, EOM 0 and a
-- full payload
abbrev pub Behind : ℕ → List ℕ → List ℕ → List (List ℕ) → Type 0
Behind unit key p [] = has_som p ≡ true
Behind unit key p (q ∷ qs) =
    (has_som p ≡ false) × (sequence_of p ≡ (sequence_of q + 1) % 4) × (key_in q ≡ key) × (has_eom q ≡ false) × (length (bytes_from4 q) ≡ unit) × Behind unit key q qs

-- the message that this packet ends, with those before it
abbrev pub message_with : List ℕ → History → List ℕ
message_with p h = joined (with_packet p h.packets)

pub record OwnResponse (h : History) (p : List ℕ) : Type 0 where
  -- source and tag are those that were awaited last; the packets before it are of the same, in order; it has EOM
  pub awaited : key_in p ≡ h.key
  pub in_order : Behind h.side.requester.unit h.key p (if has_som p then [] else h.packets)
  pub last : has_eom p ≡ true
  -- their payloads are a well-formed response; its length is told, and it is at the store's front
  pub formed : WellFormed true (message_with p h)
  pub told : says (receive p) h.side ≡ (1, length (message_with p h) ∷ [])
  pub front : take (length (message_with p h)) (after (receive p) h.side).store ≡ message_with p h

abbrev pub ResponseOwn : Type 0
ResponseOwn = Every (λ h. (p : List ℕ) → (says (receive p) h.side).0 ≡ 1 → OwnResponse h p)

-- one packet with SOM and EOM: 12 bytes, 84h, ROR 1, NMIMT 0, the check right
pub record OwnReply (h : History) (p : List ℕ) : Type 0 where
  pub awaited : key_in p ≡ h.key
  pub som : has_som p ≡ true
  pub eom : has_eom p ≡ true
  pub twelve : length (bytes_from4 p) ≡ 12
  pub typed : byte_at p 4 ≡ 0x84
  pub way : is_set (byte_at p 5) 7 ≡ true
  pub kind : byte_at p 5 / 8 % 16 ≡ 0
  pub right : check_right (bytes_from4 p) ≡ true
  pub told : says (receive p) h.side ≡ (2, 12 ∷ [])
  pub front : take 12 (after (receive p) h.side).store ≡ bytes_from4 p

abbrev pub ReplyOwn : Type 0
ReplyOwn = Every (λ h. (p : List ℕ) → (says (receive p) h.side).0 ≡ 2 → OwnReply h p)

-- ---- every call answers a number of documents 01 and 02

abbrev pub numbers : Call → List ℕ
numbers (await source tag) = 0 ∷ 41 ∷ []
numbers (cut destination tag m buffer) = 0 ∷ 36 ∷ 41 ∷ []
numbers (primitive destination tag p buffer) = 0 ∷ 30 ∷ 36 ∷ 41 ∷ []
numbers (receive p) = 0 ∷ 1 ∷ 2 ∷ 10 ∷ 11 ∷ 12 ∷ 13 ∷ 14 ∷ 15 ∷ 16 ∷ 17 ∷ 18 ∷ 19 ∷ 20 ∷ 21 ∷ 22 ∷ 23 ∷ 40 ∷ []

abbrev pub AnswersNamed : Type 0
AnswersNamed = Every (λ h. Valid h.side.requester × ((c : Call) → is_one_of (says c h.side).0 (numbers c) ≡ true))

-- ---- the EID and the unit are those that setup was given, 8 and 64 where it refused one of them; no call changes them

pub record SetupKept (eid unit : ℕ) (r : Requester) : Type 0 where
  pub eid_is : r.eid ≡ (if eqb (setup_number eid unit) 0 then eid else 8)
  pub unit_is : r.unit ≡ (if eqb (setup_number eid unit) 0 then unit else 64)

abbrev pub IdentityKept : Type 0
IdentityKept = (eid unit : ℕ) (store : List ℕ) (cs : List Call) → SetupKept eid unit (run cs (start eid unit store)).side.requester
