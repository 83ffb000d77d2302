-- "A result whose ticket is not the slot's present one never leaves the board": demand 2's sentence over lists of calls. The proofs:
-- `stale_refused`, `cut_stays`, `never_stale` (proofs/Stale).
-- Assumes nothing.
use Rattle.std.specs.Prelude.{ℕ, ◌+◌, ◌^◌, ◌≤◌, ◌<◌, ◌≡◌, true, List, [], ◌∷◌, ◌++◌, length}
use Rattle.mctp.specs.Cut.{packet}
use Rattle.machine.specs.State.{slot_at}
use Rattle.machine.specs.Calls.{Call, receive, complete, poll, number, handed_out, step}
use Rattle.machine.specs.History.{History, phase_at, is_for, request_with, response_for, fixed_at_entry, is_packet_of, unit_of, next, run, start, cuts}
use Rattle.machine.specs.Demands.{Every, Presents, TicketRefused, route_of}
use Rattle.machine.specs.Types.{Ticket}

-- the slot's present ticket
abbrev pub present_ticket : History → ℕ → ℕ
present_ticket h i = (slot_at h.world.endpoint i).ticket.0

-- any ticket but the present one, whoever made it up: completing with it and declaring with it are refused, 32 where a command is in Process
-- there and 31 else, and nothing changes
abbrev pub StaleRefused : Type 0
StaleRefused = Every (λ h. (i : ℕ) → i ≤ 1 → (t : Ticket) → (t.0 ≡ present_ticket h i → ⊥) → (c : Call) → Presents i t c → TicketRefused h.world i c)

-- from this call on, as long as fewer than 2^32 commands of the slot have come in since, completing and declaring with the ticket that was the
-- present one are refused and change nothing
abbrev pub CutOff : History → ℕ → Call → Type 0
CutOff h i cut =
    (ys : List Call) → ((run ys (next cut h)).trace i).entries < (h.trace i).entries + 2 ^ 32
    → (t : Ticket) → t.0 ≡ present_ticket h i → (c : Call) → Presents i t c → TicketRefused (run ys (next cut h)).world i c

-- A COMMAND THAT WAS CUT OFF STAYS SO, by an Abort that acts on its slot or a reset
abbrev pub CutStays : Type 0
CutStays = Every (λ h. (cut : Call) (i : ℕ) → i ≤ 1 → cuts i cut h.world ≡ true → CutOff h i cut)

-- what fixed the response of slot i that is there after the calls xs
pub data FixedBy (first : History) (i : ℕ) (xs : List Call) : Type 0 where
  -- the packet with which the slot's last command came in whole: a test at its entry failed
  at_entry : (us : List Call) (p : List ℕ) (vs : List Call) → xs ≡ us ++ (receive p ∷ vs)
      → (step (receive p) (run us first).world).event ≡ number 1 → is_for i p (run us first).world ≡ true
      → ((run xs first).trace i).entries ≡ ((run us first).trace i).entries + 1
      → ((run xs first).trace i).response ≡ fixed_at_entry i (request_with p ((run us first).trace i)) → FixedBy first i xs
  -- a completion that was accepted, whose ticket was the slot's present one then and is so now; no command of the slot came in since
  by_completion : (us : List Call) (t : Ticket) (body : List ℕ) (vs : List Call) → xs ≡ us ++ (complete i t body ∷ vs)
      → (step (complete i t body) (run us first).world).event ≡ number 0
      → t.0 ≡ present_ticket (run us first) i → t.0 ≡ present_ticket (run xs first) i
      → ((run xs first).trace i).entries ≡ ((run us first).trace i).entries
      → ((run xs first).trace i).response ≡ response_for i ((run us first).trace i).request body → FixedBy first i xs

-- NEVER STALE. Every packet that leaves a slot is the next one of a response that is there, to the sender of the slot's last command under its
-- tag; and that response was fixed at the slot's last entry, or by a completion of this list whose ticket is the slot's present one.
abbrev pub NeverStale : Type 0
NeverStale =
    (eid unit : ℕ) (store0 store1 : List ℕ) → length store0 ≡ 4224 → length store1 ≡ 4224 → (xs : List Call) (i : ℕ) → i ≤ 1 → (buffer bytes : List ℕ)
    → (step (poll buffer) (run xs (start eid unit store0 store1)).world).event ≡ handed_out bytes
    → is_packet_of (phase_at (run xs (start eid unit store0 store1)).world i) (phase_at (step (poll buffer) (run xs (start eid unit store0 store1)).world).world i) (handed_out bytes) ≡ true
    → (((run xs (start eid unit store0 store1)).trace i).response ≡ [] → ⊥)
    × FixedBy (start eid unit store0 store1) i xs
    × (bytes ≡ packet (unit_of (run xs (start eid unit store0 store1)).world) (route_of (run xs (start eid unit store0 store1)) i) ((run xs (start eid unit store0 store1)).trace i).response ((run xs (start eid unit store0 store1)).trace i).packets)
