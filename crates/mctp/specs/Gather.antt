-- Packets gathered into a message: the rules of document 01's "Receiving" that are about packets alone. What a message must be is said in `opening`,
-- which slot it goes to and which flags a refusal sets in `machine`.
-- Assumes nothing.
use Rattle.std.specs.Prelude.{ℕ, ◌+◌, ◌%◌, Bool, not, ◌&&◌, List, [], ◌∷◌, ◌++◌, eqb, ltb, length, if◌then◌else◌}
use Rattle.mctp.specs.Header.{read_header, payload_of}
use Rattle.mctp.specs.declared.Header.{Header}
use Rattle.std.specs.Prelude.{Result, Ok, Err}

-- ---- the answer numbers

abbrev pub not_full : ℕ
not_full = 16

abbrev pub no_assembly : ℕ
no_assembly = 21

abbrev pub out_of_sequence : ℕ
out_of_sequence = 22

abbrev pub message_too_long : ℕ
message_too_long = 23

-- ---- one packet

-- EOM 0, and the payload is not a whole unit
abbrev pub is_cut : ℕ → Header → ℕ → Bool
is_cut unit header n = not header.eom && not (eqb n unit)

-- a later packet (SOM 0) with n payload bytes, where the assembly's last packet had this sequence number and `gathered` bytes are
-- there: the refusal's number, or 0 where the payload joins
unfoldable pub join_refusal : ℕ → ℕ → ℕ → ℕ → Header → ℕ → ℕ
join_refusal unit limit sequence gathered header n =
    if not (eqb header.sequence ((sequence + 1) % 4)) then out_of_sequence
    else if is_cut unit header n then not_full
    else if ltb limit (gathered + n) then message_too_long
    else 0

-- ---- a list of packets

-- an assembly: its source and tag, the last sequence number and the bytes so far
pub record Assembling : Type 0 where
  pub source : ℕ
  pub tag : ℕ
  pub sequence : ℕ
  pub bytes : List ℕ

pub data Gathered : Type 0 where
  nothing : Gathered
  refused : ℕ → Gathered
  more : Assembling → Gathered
  whole : List ℕ → Gathered

-- the payload joined to the bytes so far; the packet with EOM is the last
abbrev pub joined : Header → List ℕ → List ℕ → Gathered
joined header bytes payload =
    if header.eom then whole (bytes ++ payload)
    else more (record { source = header.source; tag = header.tag; sequence = header.sequence; bytes = bytes ++ payload })

-- SOM 1: a first packet, that may carry any sequence number
abbrev pub first : ℕ → Header → List ℕ → Gathered
first unit header payload = if is_cut unit header (length payload) then refused not_full else joined header [] payload

-- SOM 0
abbrev pub later : ℕ → ℕ → Assembling → Header → List ℕ → Gathered
later unit limit a header payload =
    if not (eqb header.source a.source && eqb header.tag a.tag) then refused no_assembly
    else if not (eqb (join_refusal unit limit a.sequence (length a.bytes) header (length payload)) 0)
    then refused (join_refusal unit limit a.sequence (length a.bytes) header (length payload))
    else joined header a.bytes payload

abbrev pub gather_read : ℕ → ℕ → Gathered → List ℕ → Result Header ℕ → Gathered
gather_read unit limit g payload (Err n) = refused n
gather_read unit limit nothing payload (Ok h) = if h.som then first unit h payload else refused no_assembly
gather_read unit limit (refused n) payload (Ok h) = if h.som then first unit h payload else refused no_assembly
gather_read unit limit (more a) payload (Ok h) = if h.som then first unit h payload else later unit limit a h payload
gather_read unit limit (whole m) payload (Ok h) = if h.som then first unit h payload else refused no_assembly

-- the packets of a list, one after the other, at the endpoint `eid`, with TO as `to` and messages of at most `limit` bytes
unfoldable pub gather : ℕ → ℕ → ℕ → Bool → Gathered → List (List ℕ) → Gathered
unfolding read_header join_refusal
gather eid unit limit to g [] = g
gather eid unit limit to g (p ∷ ps) =
    gather eid unit limit to (gather_read unit limit g (payload_of p) (read_header eid unit to p)) ps
