-- What it is for a postcondition to fix the reply, whatever the reply is: a number, a table, a state, or several of these (Contract 1, 2).
use Rattle.std.specs.Prelude.{◌≡◌}

-- some reply meets the postcondition P, and every reply that meets it is that one
abbrev pub OneReply : {A : Type 0} → (A → Type 0) → Type 0
OneReply {A} P = (v : A) × P v × ((x : A) → P x → x ≡ v)

-- any two replies that meet P are the same in all that is told of them: for a reply that holds a part of what was lent, where `tells`
-- gives what the part holds
abbrev pub OneTold : {A X : Type 0} → (A → X) → (A → Type 0) → Type 0
OneTold {A} tells P = (r r' : A) → P r → P r' → tells r ≡ tells r'
