-- A viewer over lent memory shows one IOPB field by field (View 1). m is memory and a the address.
use Rattle.std.specs.Prelude.{ℕ, ◌%◌, Bool, not, cond, List, [], ◌∷◌, eqb}
use Rattle.meaning.specs.First.{first_of, ◌↝◌}
use Rattle.meaning.specs.declared.Iopb.{Iopb}
use Rattle.meaning.specs.Fields as iopb

-- what a viewer keeps, in plain lists and numbers
pub record Seen : Type 0 where
  pub memory : List ℕ
  pub at : ℕ
  pub number : ℕ

-- its making answers 2 for an odd address, then 3 for thirty bytes not all in memory (View 3 to 5)
unfoldable pub made_number : List ℕ → ℕ → ℕ
made_number m a =
    first_of
    (eqb (a % 2) 1 ↝ 2
    ∷ not (iopb.all_in m a) ↝ 3
    ∷ [])
    0

-- the making is not refused
abbrev pub viewable : List ℕ → ℕ → Bool
viewable m a = eqb (made_number m a) 0

-- a viewer keeps the memory and the address; a refused one holds the number, an empty part and address 0 (View 6)
abbrev pub made : List ℕ → ℕ → Seen
made m a = record { memory = cond (viewable m a) m []; at = cond (viewable m a) a 0; number = made_number m a }

-- a field as a viewer made of m and a shows it
abbrev pub shown : (List ℕ → ℕ → ℕ) → List ℕ → ℕ → ℕ
shown f m a = f (made m a).memory (made m a).at

-- the number and every field at once
unfoldable pub view_of : List ℕ → ℕ → Iopb
view_of m a =
    record {
      data_address = shown iopb.data_address m a;
      next_address = shown iopb.next_address m a;
      count = shown iopb.count m a;
      cylinder = shown iopb.cylinder m a;
      number = made_number m a;
      errs = shown iopb.errs m a;
      done = shown iopb.done m a;
      chen = shown iopb.chen m a;
      sgm = shown iopb.sgm m a;
      command = shown iopb.command m a;
      completion = shown iopb.completion m a;
      wrpt = shown iopb.wrpt m a;
      oncl = shown iopb.oncl m a;
      drdy = shown iopb.drdy m a;
      internal = shown iopb.internal m a;
      subfunction = shown iopb.subfunction m a;
      unit = shown iopb.unit m a;
      head = shown iopb.head m a;
      sector = shown iopb.sector m a;
    }
