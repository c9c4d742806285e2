-- Every field is made of bytes of the IOPB, and each byte is 0 where the thirty are not all in memory. A refused viewer keeps an empty
-- part, which holds no thirty bytes.
use mathlib.Core.Path.{◌≡◌, refl, ◌∙◌}
use Prim.Native.Nat.{ℕ}
use mathlib.Core.Bool.{true, false}
use mathlib.Core.List.{List}
use Rattle.meaning.specs.Fields.{all_in, byte_of}
use Rattle.meaning.specs.View.{viewable, made, view_of}
use Rattle.viewer.specs.Zero.{fields, fields_of, zeros, ShowsZero}

byte_outside : (m : List ℕ) (a : ℕ) → all_in m a ≡ false → (k : ℕ) → byte_of m a k ≡ 0
unfolding byte_of
byte_outside m a e k = simp e

outside : (m : List ℕ) (a : ℕ) → all_in m a ≡ false → fields m a ≡ zeros
outside m a e = simp (byte_outside m a e)

-- all at once is field by field, of the viewer that is made
shows_made : (m : List ℕ) (a : ℕ) → fields_of (view_of m a) ≡ fields (made m a).memory (made m a).at
unfolding view_of
shows_made m a = refl

refused : (m : List ℕ) (a : ℕ) → viewable m a ≡ false → fields_of (view_of m a) ≡ zeros
refused m a e = shows_made m a ∙ outside (made m a).memory (made m a).at (simp e)

taken : (m : List ℕ) (a : ℕ) → viewable m a ≡ true → fields_of (view_of m a) ≡ fields m a
taken m a e = shows_made m a ∙ simp e

pub shows_zero : ShowsZero
shows_zero = record { outside = outside; refused = refused; taken = taken }
