-- A message cut into packets, as document 01's "Polling" says: full payloads of `unit` bytes, then the rest; sequence from 0 modulo
-- 4, SOM and EOM at the ends.
-- Assumes nothing.
use Rattle.std.specs.Prelude.{ℕ, zero, suc, ◌+◌, ◌-◌, ◌*◌, ◌/◌, List, [], ◌∷◌, ◌++◌, eqb, length, take, drop}
use Rattle.mctp.specs.Header.{header_bytes}
use Rattle.mctp.specs.declared.Route.{Route}

-- where the packets of a message go (destination EID, bit TO, message tag) and where they come from (source EID) stands in `Route`

-- packet count: the length over the unit, rounded up
abbrev pub packets : ℕ → ℕ → ℕ
packets unit n = (n + (unit - 1)) / unit

-- the payload of packet k
abbrev pub payload : ℕ → List ℕ → ℕ → List ℕ
payload unit message k = take unit (drop (unit * k) message)

-- packet k of a message
unfoldable pub packet : ℕ → Route → List ℕ → ℕ → List ℕ
packet unit route message k =
    header_bytes route.destination route.source (eqb k 0) (eqb (k + 1) (packets unit (length message))) k route.to route.tag
    ++ payload unit message k

-- n packets of a message, from packet k on
unfoldable pub cut_from : ℕ → Route → List ℕ → ℕ → ℕ → List (List ℕ)
unfolding packet
cut_from unit route message k zero = []
cut_from unit route message k (suc n) = packet unit route message k ∷ cut_from unit route message (suc k) n

-- all packets of a message
unfoldable pub cut : ℕ → Route → List ℕ → List (List ℕ)
unfolding cut_from
cut unit route message = cut_from unit route message 0 (packets unit (length message))

-- ---- packets that lie end to end in one buffer

abbrev pub end_to_end : List (List ℕ) → List ℕ
end_to_end [] = []
end_to_end (p ∷ ps) = p ++ end_to_end ps

-- n packets taken from the buffer one after the other: `size` bytes each, and then the rest
abbrev pub pieces : ℕ → ℕ → List ℕ → List (List ℕ)
pieces size zero s = []
pieces size (suc n) s = take size s ∷ pieces size n (drop size s)
