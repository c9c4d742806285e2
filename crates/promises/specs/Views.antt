-- A viewer: for each number of its making exactly when it is given (View 3 to 5), and what it keeps (View 1, 6). m is memory, a the address.
use Rattle.std.specs.Prelude.{◌≡◌, ◌↔◌, ◌≢◌, ℕ, ◌+◌, ◌<◌, List, [], ◌∷◌, length}
use Rattle.meaning.specs.declared.Iopb.{Iopb}
use Rattle.meaning.specs.Fields.{iopb_bytes}
use Rattle.meaning.specs.View.{made_number, made, view_of}
use Rattle.meaning.specs.Table.{Case, ◌⇒◌, Otherwise, Given}
use Rattle.meaning.specs.Conditions.{Odd}

module _ (m : List ℕ) (a : ℕ) where
  abbrev pub view_table : List Case
  view_table = Odd a ⇒ 2 ∷ (length m < a + iopb_bytes) ⇒ 3 ∷ Otherwise ⇒ 0 ∷ []

  -- the number of a making, and the number in a whole view
  abbrev pub ViewExactlyWhen : ℕ → Type 0
  ViewExactlyWhen N = ((made_number m a ≡ N) ↔ Given view_table N) × ((v : Iopb) → v ≡ view_of m a → (v.number ≡ N) ↔ Given view_table N)

  -- a viewer keeps the memory and the address; a refused one holds an empty part and address 0
  pub record ViewKeeps : Type 0 where
    pub number : (made m a).number ≡ made_number m a
    pub memory : made_number m a ≡ 0 → (made m a).memory ≡ m
    pub address : made_number m a ≡ 0 → (made m a).at ≡ a
    pub no_memory : made_number m a ≢ 0 → (made m a).memory ≡ []
    pub no_address : made_number m a ≢ 0 → (made m a).at ≡ 0
