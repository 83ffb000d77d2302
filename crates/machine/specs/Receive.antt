-- "Receiving, in this order".
-- Assumes nothing.
use Rattle.std.specs.Prelude.{Result, Ok, Err, ℕ, ◌+◌, ◌^◌, Bool, true, false, not, ◌&&◌, List, [], ◌∷◌, Option, None, Some, eqb, length, take, if◌then◌else◌}
use Rattle.std.specs.Int.Bits.{bit_or}
use Rattle.lent.specs.Bytes.{put}
use Rattle.mctp.specs.Header.{read_header, payload_of, too_long, wrong_version, not_ours, wrong_direction}
use Rattle.mctp.specs.Gather.{join_refusal, not_full, no_assembly, out_of_sequence}
use Rattle.mctp.specs.declared.Header.{Header}
use Rattle.nvme_mi.specs.Message.{message_header}
use Rattle.opening.specs.Opening.{opened, joined_in, check_wrong}
use Rattle.opening.specs.declared.First.{First}
use Rattle.opening.specs.declared.First.TheVariants.{Control, Command}
use Rattle.opening.specs.declared.Joined.{Joined}
use Rattle.opening.specs.declared.Joined.TheVariants.{More, Wrong, Whole}
use Rattle.machine.specs.Answers.{more_to_come, command_complete, control_done, slot_not_idle, wrong_stores_number}
use Rattle.machine.specs.State.{World, Outcome, outcome, slot_at, store_at, with_store, with_endpoint, with_flags, on_slot, on_both, with_phase, with_busy, idled, is_idle}
use Rattle.machine.specs.Wire.{store_size, inward, wrong_stores}
use Rattle.machine.specs.Process.{entered}
use Rattle.machine.specs.Control.{controlled}
use Rattle.machine.specs.Types.{Assembly, Phase, Idle, Receive, Process, Answered, Transmit, Slot, Endpoint}

-- ---- the column "Flag bit" of both tables, and of SOM 0: No., bit. A number that is not here sets none; 20 sets its slot's bit 3.

abbrev pub flag_table : List (ℕ × ℕ)
flag_table =
    (too_long, 6)
    ∷ (wrong_version, 7)
    ∷ (not_ours, 8)
    ∷ (wrong_direction, 12)
    ∷ (not_full, 9)
    ∷ (check_wrong, 4)
    ∷ (no_assembly, 10)
    ∷ (out_of_sequence, 11)
    ∷ []

abbrev pub mask_in : List (ℕ × ℕ) → ℕ → ℕ
mask_in [] n = 0
mask_in (row ∷ rows) n = if eqb n row.0 then 2 ^ row.1 else mask_in rows n

-- the flag that a refusal sets, as a mask of the Get State word
unfoldable pub flag_of : ℕ → ℕ
flag_of n = mask_in flag_table n

abbrev pub raised : Endpoint → ℕ → Endpoint
raised e mask = with_flags e (bit_or e.flags mask)

-- "A refusal changes nothing but what is said here."
unfoldable pub refused : World → ℕ → Outcome
unfolding flag_of
refused w n = outcome n (with_endpoint w (raised w.endpoint (flag_of n)))

-- 20: the flag is the slot's own
unfoldable pub refused_busy : World → ℕ → Outcome
refused_busy w i = outcome slot_not_idle (on_slot w i (with_busy (slot_at w.endpoint i) true))

-- the slot goes to Idle
abbrev pub dropped : World → ℕ → World
dropped w i = on_slot w i (idled (slot_at w.endpoint i))

-- ---- assemblies are known by source and tag

abbrev pub is_from : ℕ → ℕ → Assembly → Bool
is_from source tag a = eqb a.source source && eqb a.tag tag

abbrev pub gathers : ℕ → ℕ → Phase → Bool
gathers source tag (Idle k) = false
gathers source tag (Receive a) = is_from source tag a
gathers source tag (Process r) = false
gathers source tag (Answered r) = false
gathers source tag (Transmit r) = false

-- "an assembly with this source and tag in either slot ends first (slot to Idle)"
abbrev pub ended_slot : ℕ → ℕ → Slot → Slot
ended_slot source tag s = if gathers source tag s.phase then idled s else s

unfoldable pub end_assembly : Endpoint → ℕ → ℕ → Endpoint
end_assembly e source tag = on_both (ended_slot source tag) e

-- the slot in Receive with this source and tag
abbrev pub holder_in : ℕ → ℕ → ℕ → Phase → Option (ℕ × Assembly) → Option (ℕ × Assembly)
holder_in source tag i (Idle k) other = other
holder_in source tag i (Receive a) other = if is_from source tag a then Some (i, a) else other
holder_in source tag i (Process r) other = other
holder_in source tag i (Answered r) other = other
holder_in source tag i (Transmit r) other = other

unfoldable pub holder : Endpoint → ℕ → ℕ → Option (ℕ × Assembly)
holder e source tag = holder_in source tag 0 (slot_at e 0).phase (holder_in source tag 1 (slot_at e 1).phase None)

-- ---- a command's packet that is not refused: its payload goes behind the bytes so far

abbrev pub assembly : Header → ℕ → Assembly
assembly h n = record { source = h.source; tag = h.tag; sequence = h.sequence; length = n }

-- what the endpoint does with it: "wrong, 19 (bit 4) and Idle; right, the slot enters Process"
abbrev pub landed : World → ℕ → Assembly → Joined → Outcome
landed w i a More = outcome more_to_come (on_slot w i (with_phase (slot_at w.endpoint i) (Receive a)))
landed w i a Wrong = refused (dropped w i) check_wrong
landed w i a Whole = outcome command_complete (entered w i a (message_header (take a.length (store_at w i))))

-- The payload is put into the store: a response that the slot held is lost, whatever becomes of the packet, since each row of `landed` gives the slot
-- another phase or `idled`.
unfoldable pub gathered : World → ℕ → ℕ → Header → List ℕ → Outcome
unfolding refused entered joined_in
gathered w i at h payload =
    let v = with_store w i (put (store_at w i) at payload) in
    landed v i (assembly h (at + length payload)) (joined_in (take (at + length payload) (store_at v i)) h.eom)

-- ---- SOM 1: the second table, its message `m` being the payload. An assembly with this source and tag has ended.

unfoldable pub first_command : World → Header → ℕ → List ℕ → Outcome
unfolding refused_busy gathered
first_command w h i m =
    if not (is_idle (slot_at w.endpoint i).phase) then refused_busy w i
    else gathered w i 0 h m

abbrev pub first_by : World → Header → List ℕ → Result First ℕ → Outcome
first_by w h m (Err n) = refused w n
first_by w h m (Ok Control) = outcome control_done (with_endpoint w (controlled w.endpoint h (message_header m) m))
first_by w h m (Ok Command) = first_command w h (message_header m).csi m

unfoldable pub first : World → Header → List ℕ → Outcome
unfolding refused controlled first_command opened
first w h m = first_by w h m (opened w.endpoint.unit false h m)

-- ---- SOM 0

-- "For the next three the slot also goes to Idle": 22, 16, 23
unfoldable pub later_at : World → ℕ → Assembly → Header → List ℕ → ℕ → Outcome
unfolding refused gathered
later_at w i a h payload refusal =
    if eqb refusal 0 then gathered w i a.length h payload
    else refused (dropped w i) refusal

abbrev pub later_by : World → Header → List ℕ → Option (ℕ × Assembly) → Outcome
later_by w h payload None = refused w no_assembly
later_by w h payload (Some (i, a)) =
    later_at w i a h payload (join_refusal w.endpoint.unit store_size a.sequence a.length h (length payload))

unfoldable pub later : World → Header → List ℕ → Outcome
unfolding refused later_at holder
later w h payload = later_by w h payload (holder w.endpoint h.source h.tag)

-- ---- the whole

abbrev pub received_by : World → List ℕ → Result Header ℕ → Outcome
received_by w payload (Err n) = refused w n
received_by w payload (Ok h) =
    if h.som then first (with_endpoint w (end_assembly w.endpoint h.source h.tag)) h payload
    else later w h payload

unfoldable pub received : World → List ℕ → Outcome
unfolding refused first later end_assembly
received w packet =
    if wrong_stores w then outcome wrong_stores_number w
    else received_by w (payload_of packet) (read_header w.endpoint.eid w.endpoint.unit inward packet)
