-- A postcondition that is an equation, or two of them, is met by one reply: the one that it names.
use mathlib.Core.Path.{◌≡◌, refl, sym, ◌∙◌}
use Rattle.meaning.specs.OneReply.{OneReply, OneTold}

pub one_equation : {A : Type 0} (a : A) → OneReply (λ (x : A). x ≡ a)
one_equation a = (a, refl, λ x e. e)

pub two_equations : {A B : Type 0} (a : A) (b : B) → OneReply (λ (x : A × B). (x.0 ≡ a) × (x.1 ≡ b))
two_equations a b = ((a, b), (refl, refl), λ x e i. (e.0 i, e.1 i))

pub told_equation : {A X : Type 0} (tells : A → X) (a : X) → OneTold tells (λ (r : A). tells r ≡ a)
told_equation tells a r r' e e' = e ∙ sym e'
