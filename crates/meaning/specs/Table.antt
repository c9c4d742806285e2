-- How a table of numbers is read: each given exactly when, and in this order. A case says in words, as a proposition, when its
-- number is given; `Given` says when the table gives a number.
use Rattle.std.specs.Prelude.{◌≡◌, ℕ, zero, suc, cond, List, [], ◌∷◌, eqb}

-- a row of a table: when it holds, and the number that it gives
pub record Case : Type 1 where
  pub holds : Type 0
  pub gives : ℕ

infix 70 ◌⇒◌
abbrev pub ◌⇒◌ : Type 0 → ℕ → Case
P ⇒ N = record { holds = P; gives = N }

-- the last row of most tables
abbrev pub Otherwise : Type 0
Otherwise = Unit {0}

-- given exactly when, in this order: the case that gives N holds, and no case before it does
abbrev pub Given : List Case → ℕ → Type 0
Given [] N = ⊥
Given (c ∷ cs) N = cond (eqb c.gives N) c.holds ((¬ c.holds) × Given cs N)

-- no case holds
abbrev pub NoneOf : List Case → Type 0
NoneOf [] = Unit
NoneOf (c ∷ cs) = (¬ c.holds) × NoneOf cs

-- the first that applies wins: case k holds, and no case before it does
abbrev pub FirstAt : List Case → ℕ → Type 0
FirstAt [] k = ⊥
FirstAt (c ∷ cs) zero = c.holds
FirstAt (c ∷ cs) (suc k) = (¬ c.holds) × FirstAt cs k

-- case k gives N
abbrev pub GivesAt : List Case → ℕ → ℕ → Type 0
GivesAt [] k N = ⊥
GivesAt (c ∷ cs) zero N = c.gives ≡ N
GivesAt (c ∷ cs) (suc k) N = GivesAt cs k N
