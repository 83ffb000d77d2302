-- A packet that a poll hands out fits its buffer.
-- Assumes nothing.
use Prim.Native.Nat.{ℕ, ◌≤◌}
use mathlib.Core.Path.{◌≡◌}
use mathlib.Core.List.{List, ◌++◌}
use native.Mathlib.Omega.{arith}
use lib.Dec.{ltb}
use lib.ListN.{length, drop, length-append, length-drop}
use Rattle.std.specs.Prelude.{Option, None, Some, Result, Ok, Err}
use Rattle.lent.proofs.Choice.{if_ind}
use Rattle.machine.specs.State.{World}
use Rattle.machine.specs.Wire.{wrong_stores, packet_room}
use Rattle.machine.specs.Poll.{Polled, polled, control_packet, command_packet, polled_by, ready, reply_first, sent_control, sent_command}
use Rattle.machine.specs.declared.Outgoing.{Outgoing}
use Rattle.machine.specs.declared.Reply.{Reply}

-- a packet that is handed out fits the buffer
abbrev Fits : ℕ → List ℕ → Result (Option ℕ) ℕ → Type 0
Fits size buffer (Err n) = Unit {0}
Fits size buffer (Ok None) = Unit {0}
Fits size buffer (Ok (Some n)) = length buffer ≡ size → n ≤ size

abbrev PollFits : ℕ → Polled → Type 0
PollFits size p = Fits size p.buffer p.answer

sent_fits : (bytes buffer : List ℕ) → length (bytes ++ drop (length bytes) buffer) ≡ length buffer → length bytes ≤ length buffer
sent_fits bytes buffer e = omega (arith, simp (length-append, length-drop) at e)

polled_fits : (w : World) (buffer : List ℕ) → PollFits (length buffer) (polled w buffer)
unfolding polled sent_control sent_command
polled_fits w buffer =
    if_ind P (wrong_stores w) (λ _. tt)
    (λ _. if_ind P (ltb (length buffer) (packet_room w.endpoint)) (λ _. tt) (λ _. by w.endpoint.reply (ready w.endpoint)))
  where
    P : Polled → Type 0
    P = PollFits (length buffer)

    by : (reply : Option Reply) (x : Option (ℕ × Outgoing)) → P (polled_by w buffer reply x)
    by None None = tt
    by None (Some (i, r)) = sent_fits (command_packet w i r) buffer
    by (Some reply) None = sent_fits (control_packet w.endpoint reply) buffer
    by (Some reply) (Some (i, r)) =
        if_ind P (reply_first w.endpoint) (λ _. sent_fits (control_packet w.endpoint reply) buffer) (λ _. sent_fits (command_packet w i r) buffer)

-- the same of what a call answered
pub packet_fits : (w : World) (buffer : List ℕ) (p : Polled) → p ≡ polled w buffer → length p.buffer ≡ length buffer
    → (n : ℕ) → p.answer ≡ Ok (Some n) → n ≤ length buffer
packet_fits w buffer p e size n a =
    let f : Fits (length buffer) p.buffer p.answer = rw e (polled_fits w buffer) in
    let g : Fits (length buffer) p.buffer (Ok (Some n)) = rw a at f in
    g size
