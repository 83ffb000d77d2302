-- What becomes of any other ticket than the present one, and of that of a command that was cut off; and where the response of a slot's last entry
-- comes from.
-- Assumes nothing.
use Prim.Native.Nat.{ℕ, ◌≤◌}
use mathlib.Core.Path.{◌≡◌, refl, sym, ap, ◌∙◌}
use mathlib.Core.Bool.{true}
use mathlib.Core.List.{List, [], ◌∷◌, ◌++◌}
use native.Mathlib.Omega.{arith}
use Rattle.lent.proofs.Choice.{false_true}
use Rattle.machine.specs.Calls.{Call, receive, complete, poll, number, step}
use Rattle.machine.specs.History.{History, phase_at, trace_after, next, run, start, cuts}
use Rattle.machine.specs.Demands.{is_process, completes}
use Rattle.machine.specs.Stale.{present_ticket, StaleRefused, CutStays, FixedBy, at_entry, by_completion, NeverStale}
use Rattle.machine.specs.Types.{Idle}
use Rattle.machine.proofs.Slots.{is_early}
use Rattle.machine.proofs.Fits.{Entry, entered, stayed}
use Rattle.machine.proofs.Histories.{Good, kept_by, good_next, good_run, good_start, good_every}
use Rattle.machine.proofs.Tickets.{not_older, other_refused, accepted, answer_belongs, moved_full}
use Rattle.machine.proofs.Lists.{longer, along, then_trace, then_present}
use Rattle.machine.proofs.Replies.{cut_idle}
use Rattle.machine.proofs.Responses.{Turned, kept, came_in, answered, turned}
use Rattle.std.specs.Prelude.{None}

-- ---- any other ticket

pub stale_refused : StaleRefused
stale_refused eid unit store0 store1 a b xs i is t n c presents =
    other_refused (run xs (start eid unit store0 store1)).world (good_every eid unit store0 store1 a b xs).sound i is t (λ _. n) c presents

-- ---- a command that was cut off

-- since so many entries: more came in, or the slot has no command in Process
record Out (i first : ℕ) (h : History) : Type 0 where
  grown : first ≤ (h.trace i).entries
  none : (h.trace i).entries ≡ first → is_process (phase_at h.world i) ≡ true → ⊥

out_next : (i : ℕ) → i ≤ 1 → (first : ℕ) (c : Call) (h : History) → Good h → Out i first h → Out i first (next c h)
unfolding next
out_next i is first c h g o = by (kept_by c h g i is).entry
  where
    by : Entry (phase_at h.world i) (phase_at (step c h.world).world i) (h.trace i) (trace_after i c h.world (step c h.world) (h.trace i)) → Out i first (unfold next in next c h)
    by (entered _ _ e) = unfold next in (record { grown = omega (arith, e, o.grown); none = λ k _. absurd (omega (arith, e, k, o.grown)) })
    by (stayed e f) = unfold next in (record { grown = omega (arith, e, o.grown); none = λ k p. o.none (sym e ∙ k) (f p).0 })

out_run : (i : ℕ) → i ≤ 1 → (first : ℕ) (cs : List Call) (h : History) → Good h → Out i first h → Out i first (run cs h)
unfolding run
out_run i is first [] h g o = o
out_run i is first (c ∷ cs) h g o = out_run i is first cs (next c h) (good_next c h g) (out_next i is first c h g o)

-- right after the cut the slot is Idle, and no command came in with it
cut_out : (i : ℕ) → i ≤ 1 → (c : Call) (h : History) → Good h → cuts i c h.world ≡ true → Out i (h.trace i).entries (next c h)
unfolding next
cut_out i is c h g k = by (kept_by c h g i is).entry
  where
    idle : phase_at (step c h.world).world i ≡ Idle None
    idle = cut_idle c h.world g.sound i is k

    by : Entry (phase_at h.world i) (phase_at (step c h.world).world i) (h.trace i) (trace_after i c h.world (step c h.world) (h.trace i))
        → Out i (h.trace i).entries (unfold next in next c h)
    by (entered _ late _) = false_true (sym late ∙ ap is_early idle)
    by (stayed e _) = unfold next in (record { grown = omega (arith, e); none = λ _ p. false_true (sym (ap is_process idle) ∙ p) })

pub cut_stays : CutStays
cut_stays eid unit store0 store1 a b xs cut i is k ys few t mine c presents =
    let h = run xs (start eid unit store0 store1) in
    let g = good_every eid unit store0 store1 a b xs in
    let g₁ = good_next cut h g in
    let g₂ = good_run ys (next cut h) g₁ in
    let o = out_run i is (h.trace i).entries ys (next cut h) g₁ (cut_out i is cut h g k) in
    other_refused (run ys (next cut h)).world g₂.sound i is t
    (λ p q. o.none (not_older (h.trace i).entries ((run ys (next cut h)).trace i).entries o.grown few (sym (g.fits i is).ticket_is ∙ sym mine ∙ q ∙ (g₂.fits i is).ticket_is)) p)
    c presents

-- ---- along the list

module _ (first : History) (g₀ : Good first) (i : ℕ) (is : i ≤ 1) where
  -- the response is not fixed, or it was fixed by a call of the list
  data Origin (xs : List Call) : Type 0 where
    unfixed : ((run xs first).trace i).response ≡ [] → Origin xs
    fixed : FixedBy first i xs → Origin xs

  origin_next : (xs : List Call) (c : Call) → Origin xs → Origin (xs ++ (c ∷ []))
  origin_next xs c f = by (turned i c (run xs first)) f
    where
      entries : {n : ℕ} → ((next c (run xs first)).trace i).entries ≡ n → ((run (xs ++ (c ∷ [])) first).trace i).entries ≡ n
      entries e = then_trace first i xs c (λ l. l.entries) e

      response : {m : List ℕ} → ((next c (run xs first)).trace i).response ≡ m → ((run (xs ++ (c ∷ [])) first).trace i).response ≡ m
      response e = then_trace first i xs c (λ l. l.response) e

      present : {n : ℕ} → ((next c (run xs first)).trace i).entries ≡ ((run xs first).trace i).entries → n ≡ present_ticket (run xs first) i → n ≡ present_ticket (run (xs ++ (c ∷ [])) first) i
      present b k = then_present first i xs c g₀ is b k

      by : Turned i c (run xs first) (step c (run xs first).world).event ((run xs first).trace i) ((next c (run xs first)).trace i) → Origin xs → Origin (xs ++ (c ∷ []))
      by (kept a b) (unfixed e) = unfixed (response (a ∙ e))
      by (kept a b) (fixed (at_entry us p vs s v k n r)) = fixed (at_entry us p (vs ++ (c ∷ [])) (longer c us (receive p) vs s) v k (entries (b ∙ n)) (response (a ∙ r)))
      by (kept a b) (fixed (by_completion us t body vs s v past now n r)) =
          fixed (by_completion us t body (vs ++ (c ∷ [])) (longer c us (complete i t body) vs s) v past (present b now) (entries (b ∙ n)) (response (a ∙ r)))
      by (came_in p e v k n r) _ =
          fixed (at_entry xs p [] (ap (λ (x : Call). xs ++ (x ∷ [])) e) (ap (λ (x : Call). (step x (run xs first).world).event) (sym e) ∙ v) k (entries n) (response r))
      by (answered t body e v n r) _ =
          let ok : (step (complete i t body) (run xs first).world).event ≡ number 0 = ap (λ (x : Call). (step x (run xs first).world).event) (sym e) ∙ v in
          let past = (accepted (run xs first).world i t (complete i t body) (completes body) ok).present in
          fixed (by_completion xs t body [] (ap (λ (x : Call). xs ++ (x ∷ [])) e) ok past (present n past) (entries n) (response r))

  origin_fixed : (xs : List Call) → Origin xs → (((run xs first).trace i).response ≡ [] → ⊥) → FixedBy first i xs
  origin_fixed xs (unfixed e) n = absurd (n e)
  origin_fixed xs (fixed f) n = f

none_yet : (eid unit : ℕ) (store0 store1 : List ℕ) (i : ℕ) → ((run [] (start eid unit store0 store1)).trace i).response ≡ []
unfolding run start
none_yet eid unit store0 store1 i = refl

pub never_stale : NeverStale
never_stale eid unit store0 store1 a b xs i is buffer bytes e m =
    let h₀ = start eid unit store0 store1 in
    let g₀ = good_start eid unit store0 store1 a b in
    let there = moved_full (run xs h₀) (good_every eid unit store0 store1 a b xs) i is (phase_at (step (poll buffer) (run xs h₀).world).world i) m in
    let o = along (Origin h₀ g₀ i is) (origin_next h₀ g₀ i is) [] xs (unfixed (none_yet eid unit store0 store1 i)) in
    (there, origin_fixed h₀ g₀ i is xs o there, (answer_belongs eid unit store0 store1 a b xs buffer bytes e).of_slot i is m)
