-- Packets that a receiver gets one after the other, with no other call between: what each is answered, and what is left at the end.
-- A receiver is any function from a state and a packet to an answer and the next state.
-- Assumes nothing.
use Rattle.std.specs.Prelude.{ℕ, List, [], ◌∷◌}

unfoldable pub answers : {S A : Type 0} → (S → List ℕ → A × S) → S → List (List ℕ) → List A
answers f s [] = []
answers f s (p ∷ ps) = (f s p).0 ∷ answers f (f s p).1 ps

unfoldable pub left : {S A : Type 0} → (S → List ℕ → A × S) → S → List (List ℕ) → S
left f s [] = s
left f s (p ∷ ps) = left f (f s p).1 ps
