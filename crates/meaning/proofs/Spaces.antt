-- Laws of spaces, areas and moves: what one area holds is not changed by putting bytes into another; two moves commute where neither
-- writes what the other reads or writes, and so do two lists of such moves; and no move changes the length of a space.
-- A move puts into one area bytes that depend only on the areas that it reads: all is proved from that.
use mathlib.Core.Path.{◌≡◌, refl, sym, ap, ◌∙◌}
use Prim.Native.Nat.{ℕ, ◌≤◌}
use native.Mathlib.Nat.{le_refl}
use native.Mathlib.Omega.{arith}
use mathlib.Core.Bool.{Bool, true, false, cond}
use mathlib.Core.List.{List, [], ◌∷◌, ◌++◌}
use lib.ListN.{length, take, drop, length-take}
use lib.Seq.{sets, length-sets}
use Rattle.meaning.specs.Store.{Space, same, Store, Area, area, get, put, Move, copy, post, move, moves}
use Rattle.meaning.proofs.All.{All}
use Rattle.meaning.proofs.Means.{when_true, is_true}
use Rattle.meaning.proofs.Ranges.{means_same}
use Rattle.meaning.proofs.Overwrite.{Apart, sets_comm, read_sets}

-- ---- spaces

pub same_refl : (p : Space) → same p p ≡ true
same_refl p = is_true (means_same p p) refl

-- two spaces that are the same as a third are the same
pub same_both : (p q r : Space) → same p q ≡ true → same p r ≡ true → same q r ≡ true
same_both p q r e f = is_true (means_same q r) (sym (when_true (means_same p q) e) ∙ when_true (means_same p r) f)

-- ---- areas

-- two areas have no byte in common: in a space that is both's, their bytes lie apart
abbrev pub Separate : Area → Area → Type 0
Separate x y = (p : Space) → same p x.space ≡ true → same p y.space ≡ true → Apart x.from x.many y.from y.many

pub get-put : (x y : Area) (vs : List ℕ) (s : Store) → Separate x y → length vs ≤ x.many → get y (put x.space x.from vs s) ≡ get y s
unfolding get put
get-put x y vs s h l = go (same y.space x.space) refl
  where
    go : (b : Bool) → same y.space x.space ≡ b
        → take y.many (drop y.from (cond b (sets (s y.space) x.from vs) (s y.space))) ≡ take y.many (drop y.from (s y.space))
    go true e =
        let k = h y.space e (same_refl y.space) in
        read_sets (s y.space) y.from y.many x.from vs (omega arith)
    go false e = refl

pub put_comm : (x y : Area) (vs ws : List ℕ) (s : Store) → Separate x y → length vs ≤ x.many → length ws ≤ y.many
    → put x.space x.from vs (put y.space y.from ws s) ≡ put y.space y.from ws (put x.space x.from vs s)
unfolding put
put_comm x y vs ws s h l m = λ k p. go (same p x.space) (same p y.space) (s p) (h p) k
  where
    go : (a b : Bool) (t : List ℕ) → (a ≡ true → b ≡ true → Apart x.from x.many y.from y.many)
        → cond a (sets (cond b (sets t y.from ws) t) x.from vs) (cond b (sets t y.from ws) t)
        ≡ cond b (sets (cond a (sets t x.from vs) t) y.from ws) (cond a (sets t x.from vs) t)
    go true true t f = let k = f refl refl in sets_comm t x.from vs y.from ws (omega arith)
    go true false t f = refl
    go false b t f = refl

-- ---- what a move writes, what it reads, and the bytes that it writes

abbrev pub writes_to : Move → Area
writes_to (copy x p a) = area p a x.many
writes_to (post p a bytes) = area p a (length bytes)

abbrev pub reads_from : Move → List Area
reads_from (copy x p a) = x ∷ []
reads_from (post p a bytes) = []

abbrev bytes_of : Move → Store → List ℕ
bytes_of (copy x p a) s = get x s
bytes_of (post p a bytes) s = bytes

move_put : (v : Move) (s : Store) → move v s ≡ put (writes_to v).space (writes_to v).from (bytes_of v s) s
unfolding move
move_put (copy x p a) s = refl
move_put (post p a bytes) s = refl

length_bytes : (v : Move) (s : Store) → length (bytes_of v s) ≤ (writes_to v).many
unfolding get
length_bytes (copy x p a) s = simp length-take (omega arith)
length_bytes (post p a bytes) s = le_refl (length bytes)

-- ---- moves that keep apart

-- v writes nothing that w reads or writes
pub record Spares (v w : Move) : Type 0 where
  pub written : Separate (writes_to v) (writes_to w)
  pub read : All (Separate (writes_to v)) (reads_from w)

abbrev pub KeepApart : Move → Move → Type 0
KeepApart v w = Spares v w × Spares w v

-- the bytes that a move writes are the same after an overwriting of what it does not read
bytes_put : (w : Move) (x : Area) (vs : List ℕ) (s : Store) → All (Separate x) (reads_from w) → length vs ≤ x.many
    → bytes_of w (put x.space x.from vs s) ≡ bytes_of w s
bytes_put (copy y p a) x vs s h l = get-put x y vs s h.0 l
bytes_put (post p a bytes) x vs s h l = refl

-- two moves, as overwritings by bytes of the store before both
abbrev puts : Move → List ℕ → Store → Store
puts v vs s = put (writes_to v).space (writes_to v).from vs s

move_move : (v w : Move) (s : Store) → Spares w v → move v (move w s) ≡ puts v (bytes_of v s) (puts w (bytes_of w s) s)
move_move v w s h =
    ap (move v) (move_put w s)
    ∙ move_put v (puts w (bytes_of w s) s)
    ∙ ap (λ (b : List ℕ). puts v b (puts w (bytes_of w s) s)) (bytes_put v (writes_to w) (bytes_of w s) s h.read (length_bytes w s))

move_comm : (v w : Move) (s : Store) → KeepApart v w → move v (move w s) ≡ move w (move v s)
move_comm v w s h =
    move_move v w s h.1
    ∙ put_comm (writes_to v) (writes_to w) (bytes_of v s) (bytes_of w s) s h.0.written (length_bytes v s) (length_bytes w s)
    ∙ sym (move_move w v s h.0)

-- ---- lists of moves

pub moves_append : (vs ws : List Move) (s : Store) → moves (vs ++ ws) s ≡ moves ws (moves vs s)
unfolding moves
moves_append [] ws s = refl
moves_append (v ∷ vs) ws s = moves_append vs ws (move v s)

moves_move : (vs : List Move) (w : Move) (s : Store) → All (λ v. KeepApart v w) vs → moves vs (move w s) ≡ move w (moves vs s)
unfolding moves
moves_move [] w s h = refl
moves_move (v ∷ vs) w s h = ap (moves vs) (move_comm v w s h.0) ∙ moves_move vs w (move v s) h.1

pub moves_comm : (vs ws : List Move) (s : Store) → All (λ w. All (λ v. KeepApart v w) vs) ws → moves vs (moves ws s) ≡ moves ws (moves vs s)
unfolding moves
moves_comm vs [] s h = refl
moves_comm vs (w ∷ ws) s h = moves_comm vs ws (move w s) h.1 ∙ ap (moves ws) (moves_move vs w s h.0)

-- ---- lengths

-- each space of the one is as long as that of the other
abbrev pub AsLong : Store → Store → Type 0
AsLong s u = (p : Space) → length (s p) ≡ length (u p)

length-put : (p : Space) (a : ℕ) (vs : List ℕ) (s : Store) → AsLong (put p a vs s) s
unfolding put
length-put p a vs s q = go (same q p)
  where
    go : (b : Bool) → length (cond b (sets (s q) a vs) (s q)) ≡ length (s q)
    go true = length-sets (s q) a vs
    go false = refl

pub length_moves : (vs : List Move) (s : Store) → AsLong (moves vs s) s
unfolding moves
length_moves [] s p = refl
length_moves (v ∷ vs) s p =
    length_moves vs (move v s) p
    ∙ ap (λ (u : Store). length (u p)) (move_put v s)
    ∙ length-put (writes_to v).space (writes_to v).from (bytes_of v s) s p
