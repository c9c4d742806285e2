-- A line put behind a text, by its four pieces.
use mathlib.Core.Path.{◌≡◌, ap, ◌∙◌}
use Prim.Native.Nat.{ℕ}
use mathlib.Core.List.{List, [], ◌∷◌, ◌++◌, append_assoc}
use Rattle.meaning.specs.Lines.{space, newline}

-- what a line is made of: xs, a space, ys and the newline
pub put_line : (l xs ys l₁ l₂ l₃ l₄ : List ℕ) → l₁ ≡ l ++ xs → l₂ ≡ l₁ ++ space ∷ [] → l₃ ≡ l₂ ++ ys → l₄ ≡ l₃ ++ newline ∷ []
    → l₄ ≡ l ++ (xs ++ space ∷ ys ++ newline ∷ [])
put_line l xs ys l₁ l₂ l₃ l₄ e₁ e₂ e₃ e₄ =
    e₄
    ∙ ap (λ (x : List ℕ). x ++ newline ∷ []) (e₃ ∙ ap (λ (x : List ℕ). x ++ ys) (e₂ ∙ ap (λ (x : List ℕ). x ++ space ∷ []) e₁))
    ∙ ap (λ (x : List ℕ). x ++ newline ∷ []) (append_assoc (l ++ xs) (space ∷ []) ys ∙ append_assoc l xs (space ∷ ys))
    ∙ append_assoc l (xs ++ space ∷ ys) (newline ∷ [])

-- a piece put behind a text that is known
pub put_behind : (l zs xs l' : List ℕ) → l ≡ zs → l' ≡ l ++ xs → l' ≡ zs ++ xs
put_behind l zs xs l' e f = f ∙ ap (λ (x : List ℕ). x ++ xs) e
