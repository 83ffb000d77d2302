-- Cutting a command and building a control primitive: "it cuts a command of 8 to 4,224 bytes into Polling's packets, but with TO 1 and the caller's tag
-- and destination, builds each control primitive as one such packet".
-- Assumes nothing.
use Rattle.std.specs.Prelude.{ℕ, ◌%◌, Bool, not, ◌||◌, List, [], ◌∷◌, ◌++◌, Result, Ok, Err, ltb, length, drop, if◌then◌else◌}
use Rattle.lent.specs.Bytes.{low_high}
use Rattle.mctp.specs.Cut.{packet, cut, end_to_end}
use Rattle.mctp.specs.declared.Route.{Route}
use Rattle.nvme_mi.specs.Check.{with_check}
use Rattle.nvme_mi.specs.Message.{message_type, smallest}
use Rattle.machine.specs.Answers.{done, no_such_slot, short_buffer}
use Rattle.machine.specs.Finish.{is_slot}
use Rattle.machine.specs.Wire.{store_size, inward}
use Rattle.controller.specs.Answers.{out_of_range}
use Rattle.controller.specs.Await.{wrong_tag}
use Rattle.controller.specs.Types.{Requester, Primitive}

-- what is answered, refused by number or how many bytes were written, and the lent buffer; the state does not change
pub record Sent : Type 0 where
  pub answer : Result ℕ ℕ
  pub buffer : List ℕ

abbrev pub sent_to : Result ℕ ℕ → List ℕ → Sent
sent_to a buffer = record { answer = a; buffer = buffer }

-- the number of what is answered, and the value beside it: behind 0 how many bytes were written
abbrev pub send_says : Result ℕ ℕ → ℕ × List ℕ
send_says (Err n) = (n, [])
send_says (Ok n) = (done, n ∷ [])

-- source ours, "the caller's tag and destination", TO 1: inward, as the endpoint sees it
abbrev pub route_from : Requester → ℕ → ℕ → Route
route_from r destination tag = record { destination = destination; source = r.eid; to = inward; tag = tag }

-- "a buffer too short for what is written gets 36 as the last test, a refusal changes nothing, and bytes behind what is written stay"
unfoldable pub written : List ℕ → List ℕ → Sent
written bytes buffer =
    if ltb (length buffer) (length bytes) then sent_to (Err short_buffer) buffer
    else sent_to (Ok (length bytes)) (bytes ++ drop (length bytes) buffer)

-- ---- a command; its bytes are the caller's and are not looked at

abbrev pub wrong_size : ℕ → Bool
wrong_size n = ltb n smallest || ltb store_size n

-- "Cut packets lie end to end." "A size outside that range or a tag above 7 [..] gets 41"
unfoldable pub cut_to : Requester → ℕ → ℕ → List ℕ → List ℕ → Sent
unfolding written cut
cut_to r destination tag message buffer =
    if wrong_size (length message) || wrong_tag tag then sent_to (Err out_of_range) buffer
    else written (end_to_end (cut r.unit (route_from r destination tag) message)) buffer

-- ---- a control primitive

-- "Control request, 12 bytes: header, opcode, TAG, CPSP (2), check." Of the header's fields only CSI, the slot in one bit, is not zero.
unfoldable pub control_request : Primitive → List ℕ
unfolding with_check
control_request p = with_check (message_type ∷ p.slot % 2 ∷ 0 ∷ 0 ∷ p.opcode ∷ p.tag ∷ low_high p.cpsp)

-- 41, "then a primitive's slot above 1 gets 30; any opcode goes"
unfoldable pub primitive_to : Requester → ℕ → ℕ → Primitive → List ℕ → Sent
unfolding written packet control_request
primitive_to r destination tag primitive buffer =
    if wrong_tag tag then sent_to (Err out_of_range) buffer
    else if not (is_slot primitive.slot) then sent_to (Err no_such_slot) buffer
    else written (packet r.unit (route_from r destination tag) (control_request primitive) 0) buffer
