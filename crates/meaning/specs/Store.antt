-- Where bytes are, and how they move. A store is asked by space: host memory (Board 1), or the disk of a unit (Board 2). An area is some bytes of one space;
-- a move copies an area to another place, or posts given bytes. What two areas of different spaces hold never meets.
use Rattle.std.specs.Prelude.{ℕ, Bool, true, false, cond, List, [], ◌∷◌, get_or, take, drop, eqb}
use Rattle.std.proofs.lemmas.List.Edits.{sets}

-- host memory, and the disk of each unit
pub data Space : Type 0 where
  memory : Space
  disk : (unit : ℕ) → Space

abbrev pub same : Space → Space → Bool
same memory memory = true
same memory (disk v) = false
same (disk u) memory = false
same (disk u) (disk v) = eqb u v

abbrev pub Store : Type 0
Store = Space → List ℕ

-- The edge of the code: which lent slice is which space. Memory is m, and the disk of a unit its image, the first image being that of
-- unit 0; past the last image there is nothing (Board 4).
abbrev pub lent : List ℕ → List (List ℕ) → Store
lent m images memory = m
lent m images (disk u) = get_or images u []

-- the four images of a call, as a list
abbrev pub images : List ℕ → List ℕ → List ℕ → List ℕ → List (List ℕ)
images i₀ i₁ i₂ i₃ = i₀ ∷ i₁ ∷ i₂ ∷ i₃ ∷ []

-- ---- areas

-- `many` bytes of a space, from its byte `from` on
pub record Area : Type 0 where
  pub space : Space
  pub from : ℕ
  pub many : ℕ

abbrev pub area : Space → ℕ → ℕ → Area
area p a n = record { space = p; from = a; many = n }

-- the bytes of an area
unfoldable pub get : Area → Store → List ℕ
get x s = take x.many (drop x.from (s x.space))

-- bytes put into a space, from its byte a on; every other space is as it was
unfoldable pub put : Space → ℕ → List ℕ → Store → Store
put p a bytes s q = cond (same q p) (sets (s q) a bytes) (s q)

-- ---- moves

pub data Move : Type 0 where
  -- the bytes of an area, to byte a of space p on
  copy : (x : Area) (p : Space) (a : ℕ) → Move
  -- these bytes, to byte a of space p on
  post : (p : Space) (a : ℕ) (bytes : List ℕ) → Move

unfoldable pub move : Move → Store → Store
unfolding get put
move (copy x p a) s = put p a (get x s) s
move (post p a bytes) s = put p a bytes s

-- moves in their order
unfoldable pub moves : List Move → Store → Store
unfolding move
moves [] s = s
moves (v ∷ vs) s = moves vs (move v s)
