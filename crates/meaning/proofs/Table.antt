-- The one law of every table of document 01: what `first_of` gives, the table in words says. `Says` sets a table's tests beside its
-- cases; its last case is what is given otherwise.
use mathlib.Core.Path.{◌≡◌, sym, ◌∙◌}
use mathlib.Core.Logic.{◌↔◌, ◌≢◌}
use Prim.Native.Nat.{ℕ, zero, suc}
use mathlib.Core.Bool.{Bool, true, false, not, ◌&&◌, cond}
use mathlib.Core.List.{List, [], ◌∷◌}
use lib.Dec.{T, when, eqb}
use Rattle.meaning.specs.First.{Row, first_of, ◌↝◌}
use Rattle.meaning.specs.Table.{Case, ◌⇒◌, Otherwise, Given, NoneOf, FirstAt, GivesAt}
use Rattle.meaning.proofs.Means.{Means, holds, fails, means_eq}

infixr 67 ◌&◌
pub data Says (last : ℕ) : List Row → List Case → Type 1 where
  otherwise : Says last [] (Otherwise ⇒ last ∷ [])
  ◌&◌ : {P : Type 0} {b : Bool} {N : ℕ} {rows : List Row} {cases : List Case}
      → Means P b
      → Says last rows cases
      → Says last (b ↝ N ∷ rows) (P ⇒ N ∷ cases)

-- Questions without numbers: tests, set beside what they mean. The same ones, with numbers, are rows and cases of more than one table: as the
-- code's, whose rows give a code and tell a number beside it. A row with no number left gives 0.
infixr 67 ◌and◌
pub data Asked : List Bool → List (Type 0) → Type 1 where
  no_more : Asked [] []
  ◌and◌ : {P : Type 0} {b : Bool} {tests : List Bool} {meanings : List (Type 0)}
      → Means P b
      → Asked tests meanings
      → Asked (b ∷ tests) (P ∷ meanings)

abbrev pub rows_with : List Bool → List ℕ → List Row
rows_with [] ns = []
rows_with (b ∷ bs) [] = b ↝ 0 ∷ rows_with bs []
rows_with (b ∷ bs) (n ∷ ns) = b ↝ n ∷ rows_with bs ns

abbrev pub cases_with : List (Type 0) → List ℕ → ℕ → List Case
cases_with [] ns last = Otherwise ⇒ last ∷ []
cases_with (P ∷ Ps) [] last = P ⇒ 0 ∷ cases_with Ps [] last
cases_with (P ∷ Ps) (n ∷ ns) last = P ⇒ n ∷ cases_with Ps ns last

pub with_numbers : {tests : List Bool} {meanings : List (Type 0)} (last : ℕ)
    → Asked tests meanings
    → (ns : List ℕ)
    → Says last (rows_with tests ns) (cases_with meanings ns last)
with_numbers last no_more ns = otherwise
with_numbers last (m and rest) [] = m & with_numbers last rest []
with_numbers last (m and rest) (n ∷ ns) = m & with_numbers last rest ns

-- Case k is the first that holds, and it gives N.
abbrev GivenAt : List Case → ℕ → ℕ → Type 0
GivenAt cases N k = FirstAt cases k × GivesAt cases k N

-- a number that several cases may give
module _ {last : ℕ} where
  pub by_place : {rows : List Row} {cases : List Case}
      → Says last rows cases
      → (N : ℕ)
      → (first_of rows last ≡ N) ↔ ((k : ℕ) × GivenAt cases N k)
  by_place otherwise N = (λ e. (0, (tt, e)), λ g. at g.0 g.1)
    where
      at : (k : ℕ) → GivenAt (Otherwise ⇒ last ∷ []) N k → last ≡ N
      at zero g = g.1
      at (suc k) g = absurd g.1
  by_place (◌&◌ {P} {N = M} {cases} (holds p) s) N = (λ e. (0, (p, e)), λ g. at g.0 g.1)
    where
      at : (k : ℕ) → GivenAt (P ⇒ M ∷ cases) N k → M ≡ N
      at zero g = g.1
      at (suc k) g = absurd (g.0.0 p)
  by_place (◌&◌ {P} {N = M} {rows} {cases} (fails n) s) N = (λ e. on ((by_place s N).0 e), λ g. (by_place s N).1 (at g.0 g.1))
    where
      on : (k : ℕ) × GivenAt cases N k → (k : ℕ) × GivenAt (P ⇒ M ∷ cases) N k
      on g = (suc g.0, ((n, g.1.0), g.1.1))

      at : (k : ℕ) → GivenAt (P ⇒ M ∷ cases) N k → (k : ℕ) × GivenAt cases N k
      at zero g = absurd (n g.0)
      at (suc k) g = (k, (g.0.1, g.1))

-- the first case gives the number, or it does not and the rest decides: b says which
abbrev Or : Bool → Case → Type 0 → Type 0
Or b c rest = cond b c.holds ((¬ c.holds) × rest)

-- one row more, whose number the rest does not give
pub row_first : {P : Type 0} {b : Bool} (M : ℕ) (cs : List Case) {x N : ℕ}
    → Means P b
    → (x ≡ N) ↔ Given cs N
    → x ≢ M
    → (cond b M x ≡ N) ↔ Given (P ⇒ M ∷ cs) N
row_first {P} M cs {x} {N} means rest new = go means (means_eq M N)
  where
    go : {b e : Bool} → Means P b → Means (M ≡ N) e → (cond b M x ≡ N) ↔ Or e (P ⇒ M) (Given cs N)
    go (holds p) (holds e) = (λ _. p, λ _. e)
    go (holds p) (fails n) = (λ e. absurd (n e), λ g. absurd (g.0 p))
    go (fails n) (holds e) = (λ f. absurd (new (f ∙ sym e)), λ p. absurd (n p))
    go (fails n) (fails m) = (λ f. (n, rest.0 f), λ g. rest.1 g.1)

-- no case gives N; each number is given by one case only
abbrev absent : ℕ → List Case → Bool
absent N [] = true
absent N (c ∷ cs) = not (eqb c.gives N) && absent N cs

abbrev Distinct : List Case → Type 0
Distinct [] = Unit
Distinct (c ∷ cs) = when (absent c.gives cs) (Distinct cs)

both : (b : Bool) (X : Type 0) → when b X → T b × X
both true X x = (tt, x)
both false X x = absurd x

absent_not_at : (N : ℕ) (cs : List Case) (k : ℕ) → T (absent N cs) → GivesAt cs k N → ⊥
absent_not_at N [] k t g = g
absent_not_at N (c ∷ cs) k t g = go (means_eq c.gives N) k t g (absent_not_at N cs)
  where
    go : {b : Bool}
        → Means (c.gives ≡ N) b
        → (k : ℕ)
        → T (not b && absent N cs)
        → GivesAt (c ∷ cs) k N
        → ((k : ℕ) → T (absent N cs) → GivesAt cs k N → ⊥)
        → ⊥
    go (holds e) k t g rest = t
    go (fails n) zero t g rest = n g
    go (fails n) (suc k) t g rest = rest k t g

-- a table whose numbers are distinct
pub by_number : {last : ℕ} {rows : List Row} {cases : List Case}
    → Says last rows cases
    → Distinct cases
    → (N : ℕ)
    → (first_of rows last ≡ N) ↔ Given cases N
by_number {last} otherwise t N = go (means_eq last N)
  where
    go : {e : Bool} → Means (last ≡ N) e → (last ≡ N) ↔ Or e (Otherwise ⇒ last) ⊥
    go (holds e) = (λ _. tt, λ _. e)
    go (fails n) = (λ e. absurd (n e), λ g. absurd g.1)
by_number {last} (◌&◌ {N = M} {rows} {cases} means s) t N = row_first M cases means (by_number s parts.1 N) new
  where
    parts : T (absent M cases) × Distinct cases
    parts = both (absent M cases) (Distinct cases) t

    new : first_of rows last ≢ M
    new e = let g = (by_place s M).0 e in absent_not_at M cases g.0 parts.0 g.1.1

-- a table gives one number at most, and none where no case holds
pub one_given : (cs : List Case) {N M : ℕ} → Given cs N → Given cs M → N ≡ M
one_given [] g h = absurd g
one_given (c ∷ cs) {N} {M} g h = go (means_eq c.gives N) (means_eq c.gives M) g h (one_given cs)
  where
    go : {a b : Bool}
        → Means (c.gives ≡ N) a
        → Means (c.gives ≡ M) b
        → Or a c (Given cs N)
        → Or b c (Given cs M)
        → (Given cs N → Given cs M → N ≡ M)
        → N ≡ M
    go (holds e) (holds f) g h rest = sym e ∙ f
    go (holds e) (fails n) g h rest = absurd (h.0 g)
    go (fails n) (holds f) g h rest = absurd (g.0 h)
    go (fails n) (fails m) g h rest = rest g.1 h.1

pub none_given : (cs : List Case) (N : ℕ) → NoneOf cs → Given cs N → ⊥
none_given [] N n g = g
none_given (c ∷ cs) N n g = go (means_eq c.gives N) g (none_given cs N n.1)
  where
    go : {b : Bool} → Means (c.gives ≡ N) b → Or b c (Given cs N) → (Given cs N → ⊥) → ⊥
    go (holds e) g rest = n.0 g
    go (fails m) g rest = rest g.1
