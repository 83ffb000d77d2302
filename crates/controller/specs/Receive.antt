-- Receiving a packet: "gathers responses (TO 0, ROR 1) by 01's gathering rules with those two bits turned round; 20 then means source and tag not
-- awaited", "into one lent store of 4,224 bytes (else 40), control replies too, without flags". What the tables say of bytes alone is `mctp`'s and
-- `opening`'s, as at the endpoint.
-- Assumes nothing.
use Rattle.std.specs.Prelude.{ℕ, ◌+◌, true, not, List, [], ◌∷◌, Result, Ok, Err, eqb, length, take, if◌then◌else◌}
use Rattle.lent.specs.Bytes.{put}
use Rattle.mctp.specs.Header.{read_header, payload_of}
use Rattle.mctp.specs.Gather.{join_refusal, no_assembly}
use Rattle.mctp.specs.declared.Header.{Header}
use Rattle.opening.specs.Opening.{opened, joined_in, check_wrong}
use Rattle.opening.specs.declared.First.{First}
use Rattle.opening.specs.declared.First.TheVariants.{Control as ControlMessage, Command as OtherMessage}
use Rattle.opening.specs.declared.Joined.{Joined}
use Rattle.opening.specs.declared.Joined.TheVariants.{More as Unfinished, Wrong, Whole}
use Rattle.machine.specs.Answers.{more_to_come, command_complete, control_done, wrong_stores_number}
use Rattle.machine.specs.Receive.{is_from, assembly}
use Rattle.machine.specs.Wire.{store_size, outward}
use Rattle.machine.specs.declared.Assembly.{Assembly}
use Rattle.controller.specs.Answers.{not_awaited}
use Rattle.controller.specs.State.{awaits, unassembled, Side, side, with_awaiting, Outcome, outcome}
use Rattle.controller.specs.Types.{Awaiting, Nothing, Awaited, Gathering, Gathered}
use Rattle.controller.specs.declared.Gathered.TheVariants.{More, Response, Control}

-- the number of what is answered, and the value beside it: "only answers 1 and 2 give the length"
abbrev pub receive_says : Result Gathered ℕ → ℕ × List ℕ
receive_says (Err n) = (n, [])
receive_says (Ok More) = (more_to_come, [])
receive_says (Ok (Response n)) = (command_complete, n ∷ [])
receive_says (Ok (Control n)) = (control_done, n ∷ [])

-- a refusal, and what it leaves
abbrev pub refused : Side → ℕ → Outcome
refused s n = outcome (Err n) s

-- the assembly ends, and the awaiting stays
abbrev pub dropped : Side → Side
dropped s = with_awaiting s (unassembled s.requester.awaiting)

-- ---- a response's packet that is not refused: its payload goes behind the bytes so far

-- "only answers 1 and 2 [..] end the awaiting"
abbrev pub landed : Side → Assembly → Joined → Outcome
landed s a Unfinished = outcome (Ok More) (with_awaiting s (Gathering a))
landed s a Wrong = refused (dropped s) check_wrong
landed s a Whole = outcome (Ok (Response a.length)) (with_awaiting s Nothing)

unfoldable pub gathered : Side → ℕ → Header → List ℕ → Outcome
unfolding joined_in
gathered s at h payload =
    landed (side s.requester (put s.store at payload)) (assembly h (at + length payload))
    (joined_in (take (at + length payload) (put s.store at payload)) h.eom)

-- ---- SOM 1: the second table with ROR 1, its message `m` being the payload

-- "if SOM is 1, an assembly with this source and tag [..] ends first [..], even if the packet is refused below"
abbrev pub restarted : ℕ → ℕ → Side → Side
restarted source tag s = if awaits source tag s.requester.awaiting then dropped s else s

-- a control reply lies at the store's front
abbrev pub replied : Side → List ℕ → Outcome
replied s m = outcome (Ok (Control (length m))) (with_awaiting (side s.requester (put s.store 0 m)) Nothing)

-- 20 is the last test, for control replies too
abbrev pub if_awaited : Side → Header → Outcome → Outcome
if_awaited s h o = if not (awaits h.source h.tag s.requester.awaiting) then refused s not_awaited else o

abbrev pub first_by : Side → Header → List ℕ → Result First ℕ → Outcome
first_by s h m (Err n) = refused s n
first_by s h m (Ok ControlMessage) = if_awaited s h (replied s m)
first_by s h m (Ok OtherMessage) = if_awaited s h (gathered s 0 h m)

unfoldable pub first : Side → Header → List ℕ → Outcome
unfolding gathered opened
first s h m = first_by s h m (opened s.requester.unit true h m)

-- ---- SOM 0: 21; the next three, 22, 16 and 23, end the assembly

unfoldable pub later_at : Side → Assembly → Header → List ℕ → ℕ → Outcome
unfolding gathered
later_at s a h payload refusal =
    if eqb refusal 0 then gathered s a.length h payload
    else refused (dropped s) refusal

abbrev pub later_by : Side → Header → List ℕ → Awaiting → Outcome
later_by s h payload Nothing = refused s no_assembly
later_by s h payload (Awaited k) = refused s no_assembly
later_by s h payload (Gathering a) =
    if not (is_from h.source h.tag a) then refused s no_assembly
    else later_at s a h payload (join_refusal s.requester.unit store_size a.sequence a.length h (length payload))

unfoldable pub later : Side → Header → List ℕ → Outcome
unfolding later_at
later s h payload = later_by s h payload s.requester.awaiting

-- ---- the whole

abbrev pub received_by : Side → List ℕ → Result Header ℕ → Outcome
received_by s payload (Err n) = refused s n
received_by s payload (Ok h) =
    if h.som then first (restarted h.source h.tag s) h payload
    else later s h payload

-- TO is that of the packets that an endpoint sends
unfoldable pub received : Side → List ℕ → Outcome
unfolding first later read_header
received s packet =
    if not (eqb (length s.store) store_size) then refused s wrong_stores_number
    else received_by s (payload_of packet) (read_header s.requester.eid s.requester.unit outward packet)
