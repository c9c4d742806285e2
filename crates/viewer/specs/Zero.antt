-- Any viewer whose thirty bytes are not all in its memory gives 0 for every field (View 7): however it was made, and so every refused
-- one. An accepted viewer shows what stands at its address. m is memory and a the address.
use Rattle.std.specs.Prelude.{◌≡◌, ℕ, true, false, List, [], ◌∷◌, replicate}
use Rattle.meaning.specs.declared.Iopb.{Iopb}
use Rattle.meaning.specs.Fields as iopb
use Rattle.meaning.specs.View.{viewable, view_of}

-- every field of the table of an IOPB, in its order
abbrev pub fields : List ℕ → ℕ → List ℕ
fields m a =
    iopb.errs m a
    ∷ iopb.done m a
    ∷ iopb.chen m a
    ∷ iopb.sgm m a
    ∷ iopb.command m a
    ∷ iopb.completion m a
    ∷ iopb.wrpt m a
    ∷ iopb.oncl m a
    ∷ iopb.drdy m a
    ∷ iopb.internal m a
    ∷ iopb.subfunction m a
    ∷ iopb.unit m a
    ∷ iopb.count m a
    ∷ iopb.cylinder m a
    ∷ iopb.head m a
    ∷ iopb.sector m a
    ∷ iopb.data_address m a
    ∷ iopb.next_address m a
    ∷ []

-- the same of all that is shown at once
abbrev pub fields_of : Iopb → List ℕ
fields_of v =
    v.errs
    ∷ v.done
    ∷ v.chen
    ∷ v.sgm
    ∷ v.command
    ∷ v.completion
    ∷ v.wrpt
    ∷ v.oncl
    ∷ v.drdy
    ∷ v.internal
    ∷ v.subfunction
    ∷ v.unit
    ∷ v.count
    ∷ v.cylinder
    ∷ v.head
    ∷ v.sector
    ∷ v.data_address
    ∷ v.next_address
    ∷ []

-- a zero for each of the 18
abbrev pub zeros : List ℕ
zeros = replicate 18 0

pub record ShowsZero : Type 0 where
  pub outside : (m : List ℕ) (a : ℕ) → iopb.all_in m a ≡ false → fields m a ≡ zeros
  pub refused : (m : List ℕ) (a : ℕ) → viewable m a ≡ false → fields_of (view_of m a) ≡ zeros
  pub taken : (m : List ℕ) (a : ℕ) → viewable m a ≡ true → fields_of (view_of m a) ≡ fields m a
