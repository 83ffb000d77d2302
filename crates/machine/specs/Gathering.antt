-- What a slot gathers is what `mctp` gathers: so the law that gathering what was cut gives the message back (`gather_cut`) speaks of what runs.
-- The proofs: `gathers_so`, `gathers_all`, `cut_gathered` (proofs/Gathered).
-- Assumes nothing.
use Rattle.std.specs.Prelude.{ℕ, ◌≤◌, ◌<◌, ◌≡◌, true, List, [], ◌∷◌, length}
use Rattle.mctp.specs.Header.{read_header}
use Rattle.mctp.specs.Cut.{cut}
use Rattle.mctp.specs.Gather.{Gathered, nothing, more, whole, gather_read, gather}
use Rattle.mctp.specs.declared.Route.{Route}
use Rattle.machine.specs.Types.{Phase}
use Rattle.machine.specs.Valid.{phased}
use Rattle.machine.specs.Calls.{receive, number, step}
use Rattle.machine.specs.History.{Trace, History, phase_at, bytes_from4, is_for, request_with, unit_of, next}
use Rattle.machine.specs.Demands.{Every}

-- what is gathered in a slot, in `mctp`'s words: its assembly, with the payloads so far
abbrev pub gathering_in : Phase → Trace → Gathered
gathering_in q l =
    phased nothing (λ a. more (record { source = a.source; tag = a.tag; sequence = a.sequence; bytes = l.request })) (λ r. nothing) (λ r. nothing) (λ r. nothing) q

abbrev pub gathering_at : History → ℕ → Gathered
gathering_at h i = gathering_in (phase_at h.world i) (h.trace i)

-- what `mctp` makes of one packet more
abbrev pub gathered_with : History → ℕ → List ℕ → Gathered
gathered_with h i p = gather_read (unit_of h.world) 4224 (gathering_at h i) (bytes_from4 p) (read_header h.world.endpoint.eid (unit_of h.world) true p)

-- a packet for slot i: where it is answered 0, more to come, the slot gathers what `mctp` does; where 1, command complete, `mctp` has the whole
-- message, and it is the request
pub record Gathers (h : History) (i : ℕ) (p : List ℕ) : Type 0 where
  pub goes_on : (step (receive p) h.world).event ≡ number 0 → gathered_with h i p ≡ gathering_at (next (receive p) h) i
  pub ends : (step (receive p) h.world).event ≡ number 1 → gathered_with h i p ≡ whole (request_with p (h.trace i))

abbrev pub GathersSo : Type 0
GathersSo = Every (λ h. (p : List ℕ) (i : ℕ) → i ≤ 1 → is_for i p h.world ≡ true → Gathers h i p)

-- packets for slot i one after the other, each answered 0, and a last one that is answered 1
pub data Arrives (i : ℕ) : History → List (List ℕ) → List ℕ → Type 0 where
  last : {h : History} {p : List ℕ} → is_for i p h.world ≡ true → (step (receive p) h.world).event ≡ number 1 → Arrives i h (p ∷ []) (request_with p (h.trace i))
  one_more : {h : History} {p : List ℕ} {ps : List (List ℕ)} {m : List ℕ} → is_for i p h.world ≡ true → (step (receive p) h.world).event ≡ number 0
      → Arrives i (next (receive p) h) ps m → Arrives i h (p ∷ ps) m

-- the request is then what `mctp` gathers from that list of packets
abbrev pub GathersAll : Type 0
GathersAll =
    Every (λ h. (i : ℕ) → i ≤ 1 → (ps : List (List ℕ)) (m : List ℕ) → Arrives i h ps m → gather h.world.endpoint.eid (unit_of h.world) 4224 true (gathering_at h i) ps ≡ whole m)

-- WHAT WAS CUT IS GATHERED. A message of 1 to 4,224 bytes, cut into packets for this endpoint and its unit: where they are taken in one after the other, the
-- request is the message.
abbrev pub CutGathered : Type 0
CutGathered =
    Every (λ h. (i : ℕ) → i ≤ 1 → (route : Route) (message m : List ℕ) → route.destination ≡ h.world.endpoint.eid → route.to ≡ true → 0 < length message
    → length message ≤ 4224 → Arrives i h (cut (unit_of h.world) route message) m → m ≡ message)
