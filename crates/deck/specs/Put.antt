-- Bytes put into a run, as the lines of a deck are written one piece after the other.
use Rattle.std.specs.Prelude.{◌≡◌, ℕ, ◌+◌, cond, List, [], ◌++◌, length, take, drop, leb}
use Rattle.meaning.specs.Lines.{printed}

-- l' is l with the bytes at place a on, and r is the place past them; before and after them l' is l
pub record Put (l : List ℕ) (a : ℕ) (bytes : List ℕ) (r : ℕ) (l' : List ℕ) : Type 0 where
  pub past : r ≡ a + length bytes
  pub front : take r l' ≡ take a l ++ bytes
  pub rest : drop r l' ≡ drop r l

-- The most that is ever printed: the lines of 32 commands, 10 of 5 bytes and 22 of 6, and `steps 1024` with its newline. The
-- bench's drive has 32 sectors, so a command has at most 32 steps.
abbrev pub most_bytes : ℕ
most_bytes = 193

-- The whole of printing a deck b: where l is too short nothing, otherwise its lines at the start of l.
unfoldable pub PrintGives : List ℕ → List ℕ → ℕ → List ℕ → Type 0
PrintGives b l r l' = Put l 0 (cond (leb most_bytes (length l)) (printed b) []) r l'
