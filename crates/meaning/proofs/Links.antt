-- Laws of link lists: how long they are, what a record keeps of them, and that the walk has read the whole list of a command unless it lies
-- outside memory; and what a loop through the ranges of a record keeps.
use mathlib.Core.Path.{◌≡◌, refl, sym, ap, ◌∙◌}
use Prim.Native.Nat.{ℕ, zero, suc, ◌+◌, ◌*◌, ◌/◌, ◌≤◌, ◌<◌, min, zero-le}
use native.Mathlib.Nat.{mod-lt, min-le_right}
use native.Mathlib.Numerals.{add-one}
use native.Mathlib.Omega.{arith}
use mathlib.Core.Bool.{Bool, true, false, not, ◌&&◌, cond, true≢false}
use mathlib.Core.List.{List, [], ◌∷◌, ◌++◌, map-append, append_assoc}
use lib.ListN.{length, get_or, set, take, drop, length-append, length-map}
use lib.Seq.{take-append_seam, drop-cons, set_at}
use lib.Dec.{eqb, lit≤}
use borrow.Author.Tests.{ne_eqb}
use Rattle.std.proofs.lemmas.Bool.{or_left}
use Rattle.std.proofs.lemmas.List.{take_min}
use Rattle.meaning.specs.declared.Copied.{Copied}
use Rattle.meaning.specs.declared.Link.{Link}
use Rattle.meaning.specs.Each.{some_of, up_to}
use Rattle.meaning.specs.Links.{link_bytes, most_links, link_at, links_at, no_link, no_links, padded}
use Rattle.meaning.proofs.Rows.{or_second}
use Rattle.meaning.proofs.Means.{Means, holds, fails, means_eq}
use Rattle.meaning.proofs.Loops.{left_at, left_none}
use Rattle.meaning.specs.Code.{gathers, links_field, link_count, links_in, list_outside}

pub few_links : (c : Copied) → link_count c ≤ most_links
unfolding link_count
few_links c = go (eqb (links_field c) 0)
  where
    go : (b : Bool) → cond b most_links (links_field c) ≤ most_links
    go true = lit≤ tt
    go false = omega (arith, mod-lt (c.byte6 / 8) {m = 32} (lit≤ tt))

pub some_links : (c : Copied) → 1 ≤ link_count c
unfolding link_count
some_links c = go (means_eq (links_field c) 0)
  where
    go : {b : Bool} → Means (links_field c ≡ 0) b → 1 ≤ cond b most_links (links_field c)
    go (holds e) = lit≤ tt
    go (fails n) = omega arith

pub length_up_to : (n : ℕ) → length (up_to n) ≡ n
length_up_to zero = refl
length_up_to (suc n) = length-append (up_to n) (n ∷ []) ∙ ap (λ (k : ℕ). k + 1) (length_up_to n) ∙ omega arith

pub length_links : (m : List ℕ) (a n : ℕ) → length (links_at m a n) ≡ n
unfolding links_at
length_links m a n = length-map (up_to n) (λ k. link_at m (a + link_bytes * k)) ∙ length_up_to n

-- the walk keeps at most 32 ranges
pub in_few : (m : List ℕ) (c : Copied) → length (links_in m c) ≤ most_links
unfolding links_in
in_few m c = go (gathers c)
  where
    go : (b : Bool) → length (cond b (links_at m c.address (link_count c)) []) ≤ most_links
    go true = omega (arith, length_links m c.address (link_count c), few_links c)
    go false = zero-le

-- where the list is in memory, or there is none
pub none_outside : (m : List ℕ) (c : Copied) → (gathers c && list_outside c (length m)) ≡ false → (x : Bool) → list_outside c (length m) ≡ x → cond (not x) (links_in m c) [] ≡ links_in m c
unfolding links_in
none_outside m c e false f = refl
none_outside m c e true f = go (gathers c) refl
  where
    go : (b : Bool) → gathers c ≡ b → [] ≡ cond b (links_at m c.address (link_count c)) []
    go true g = absurd (true≢false (sym (rw (g, f) refl) ∙ e))
    go false g = refl

-- what the walk lays into a record, the record has
pub links_kept : (xs : List Link) → take (length xs) (padded xs) ≡ xs
links_kept xs = take-append_seam xs (drop (length xs) no_links)

-- a command that the walk reads a list of has one then
pub in_listed : (m : List ℕ) (c : Copied) → not (eqb (length (links_in m c)) 0) ≡ gathers c
unfolding links_in
in_listed m c = go (gathers c)
  where
    go : (b : Bool) → not (eqb (length (cond b (links_at m c.address (link_count c)) [])) 0) ≡ b
    go true = ap not (ne_eqb (length (links_at m c.address (link_count c))) 0 (λ e. omega (arith, e, length_links m c.address (link_count c), some_links c)))
    go false = refl

-- ---- a loop through the first n of a list, which holds 32

-- at place k, of `last` places: what a loop keeps of its array
pub record Going (n : ℕ) (list : List Link) (last k : ℕ) : Type 0 where
  pub most : k ≤ last
  pub few : last ≤ most_links
  pub long : length list ≡ most_links
  pub held : take n list ≡ take last list

module _ (n : ℕ) (list : List Link) where
  pub going_start : (last : ℕ) → last ≡ min n most_links → length list ≡ most_links → Going n list last 0
  going_start last e l = record { most = zero-le; few = omega (arith, min-le_right n most_links); long = l; held = sym (take_min n list) ∙ ap (λ (k : ℕ). take k list) (ap (min n) l ∙ sym e) }

  module _ (last k : ℕ) (g : Going n list last k) where
    short : last ≤ length list
    short = omega (arith, g.few, g.long)

    pub going_on : k < last → Going n list last (k + 1)
    going_on h = record { most = omega arith; few = g.few; long = g.long; held = g.held }

    -- what is left, at place k and past the last one
    pub next_link : k < last → drop k (take last list) ≡ get_or list k no_link ∷ drop (k + 1) (take last list)
    next_link h = left_at no_link list last short k h

    pub no_more_links : last ≤ k → drop k (take last list) ≡ []
    no_more_links h = left_none no_link list last short k h

-- the test p is sought: what was passed fails it, so what is left decides
module _ (p : Link → Bool) (n : ℕ) (list : List Link) where
  pub record Sought (last k : ℕ) : Type 0 where
    pub going : Going n list last k
    pub rest : some_of p (take n list) ≡ some_of p (drop k (take last list))

  pub sought_start : (last : ℕ) → last ≡ min n most_links → length list ≡ most_links → Sought last 0
  sought_start last e l = let g = going_start n list last e l in record { going = g; rest = ap (some_of p) g.held }

  module _ (last k : ℕ) (s : Sought last k) where
    pub sought_hit : k < last → p (get_or list k no_link) ≡ true → some_of p (take n list) ≡ true
    sought_hit h e = s.rest ∙ ap (some_of p) (next_link n list last k s.going h) ∙ or_left (p (get_or list k no_link)) (some_of p (drop (k + 1) (take last list))) e

    pub sought_miss : k < last → p (get_or list k no_link) ≡ false → Sought last (k + 1)
    sought_miss h e =
        record {
          going = going_on n list last k s.going h;
          rest = s.rest ∙ ap (some_of p) (next_link n list last k s.going h) ∙ or_second (p (get_or list k no_link)) (some_of p (drop (k + 1) (take last list))) e;
        }

    pub sought_none : last ≤ k → some_of p (take n list) ≡ false
    sought_none h = s.rest ∙ ap (some_of p) (no_more_links n list last k s.going h)

-- ---- a list that is read element by element

-- one element more
links_more : (m : List ℕ) (a k : ℕ) → links_at m a (suc k) ≡ links_at m a k ++ link_at m (a + link_bytes * k) ∷ []
unfolding links_at
links_more m a k = map-append (λ j. link_at m (a + link_bytes * j)) (up_to k) (k ∷ [])

pub padded_more : (m : List ℕ) (a k : ℕ) → k < most_links → set (padded (links_at m a k)) k (link_at m (a + link_bytes * k)) ≡ padded (links_at m a (k + 1))
padded_more m a k h =
    let xs = links_at m a k in
    let x = link_at m (a + link_bytes * k) in
    let long : length xs ≡ k = length_links m a k in
    let more : links_at m a (k + 1) ≡ xs ++ x ∷ [] = ap (links_at m a) (add-one k) ∙ links_more m a k in
    let longer : length (xs ++ x ∷ []) ≡ suc k = ap length (sym more) ∙ length_links m a (k + 1) ∙ add-one k in
    ap (λ (n : ℕ). set (xs ++ drop n no_links) k x) long
    ∙ ap (λ (ys : List Link). set (xs ++ ys) k x) (drop-cons no_links k no_link (omega (arith, length_none)))
    ∙ set_at xs _ (drop (suc k) no_links) x k long
    ∙ sym (append_assoc xs (x ∷ []) (drop (suc k) no_links))
    ∙ ap (λ (n : ℕ). (xs ++ x ∷ []) ++ drop n no_links) (sym longer)
    ∙ ap padded (sym more)
  where
    length_none : length no_links ≡ most_links
    length_none = refl
