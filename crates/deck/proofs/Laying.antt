-- What the loops of `laid` come to: the tests of a deck, the records laid in memory, and the sectors of the image.
use mathlib.Core.Path.{◌≡◌, refl, sym, ap, ap₂, ◌∙◌}
use Prim.Native.Nat.{ℕ, zero, suc, ◌+◌, ◌-◌, ◌*◌, ◌%◌, ◌≤◌}
use native.Mathlib.Nat.{add-sub_cancel_left}
use native.Mathlib.Numerals.{add-one}
use native.Mathlib.Omega.{arith}
use mathlib.Core.Bool.{Bool, true, false, not, ◌&&◌}
use mathlib.Core.List.{List, [], ◌++◌, foldl, append_assoc, append-nil}
use lib.ListN.{length, take, drop, replicate, length-append, length-replicate, length-drop, drop_of_length-le}
use lib.Seq.{drop-drop, take_at, drop_at, length-take-le}
use lib.Dec.{leb, eqb}
use borrow.Author.Tests.{leb-true}
use Rattle.std.proofs.lemmas.Bool.{and_left, and_parts}
use Rattle.meaning.specs.Each.{every_of, up_to}
use Rattle.meaning.specs.Sectors.{sector_bytes}
use Rattle.meaning.specs.Deck.{record_bytes, most_records, record_count, fillers_right, is_deck, lay_record, bench_memory, memory_bytes, sectors_to, bench_image}
use Rattle.meaning.proofs.Rows.{and_second}
use Rattle.deck.proofs.Counting.{fold_more}

-- ---- a deck

-- a deck is whole records, and each has its fillers right
module _ (b : List ℕ) where
  abbrev whole : Bool
  whole = not (eqb (length b) 0) && eqb (length b % record_bytes) 0 && leb (record_count b) most_records

  pub no_records : whole ≡ false → is_deck b ≡ false
  unfolding is_deck
  no_records e = and_left whole _ e

  pub by_fillers : whole ≡ true → is_deck b ≡ every_of (fillers_right b) (up_to (record_count b))
  unfolding is_deck
  by_fillers e = and_second whole _ e

  pub deck_few : is_deck b ≡ true → record_count b ≤ most_records
  unfolding is_deck
  deck_few e = leb-true _ _ (and_parts (not (eqb (length b) 0) && eqb (length b % record_bytes) 0) _ (and_parts whole _ e).0).1

-- ---- memory

pub all_laid : (b z m : List ℕ) (n k : ℕ) → z ≡ replicate n 0 → n ≡ memory_bytes → k ≡ record_count b → m ≡ foldl (lay_record b) z (up_to k)
    → m ≡ bench_memory b
unfolding bench_memory
all_laid b z m n k zeros e f g =
    g
    ∙ ap (λ (x : List ℕ). foldl (lay_record b) x (up_to k)) zeros
    ∙ ap₂ (λ (x y : ℕ). foldl (lay_record b) (replicate x 0) (up_to y)) e f

-- ---- the image

sectors_more : (k : ℕ) → sectors_to (k + 1) ≡ sectors_to k ++ replicate sector_bytes k
unfolding sectors_to
sectors_more k = fold_more (λ (i : List ℕ) (n : ℕ). i ++ replicate sector_bytes n) [] k

length_sectors : (k : ℕ) → length (sectors_to k) ≡ sector_bytes * k
unfolding sectors_to
length_sectors zero = refl
length_sectors (suc k) =
    ap (λ (n : ℕ). length (sectors_to n)) (sym (add-one k))
    ∙ ap length (sectors_more k)
    ∙ length-append (sectors_to k) (replicate sector_bytes k)
    ∙ omega (arith, length_sectors k, length-replicate sector_bytes k)

-- sector n is filled: ys stands in its place
pub fills_more : (image₀ image ys : List ℕ) (n at : ℕ) → at ≡ sector_bytes * n → at + sector_bytes ≤ length image₀
    → image ≡ sectors_to n ++ drop (sector_bytes * n) image₀
    → ys ≡ replicate (length (take (at + sector_bytes - at) (drop at image))) n
    → take at image ++ (ys ++ drop (at + sector_bytes - at) (drop at image)) ≡ sectors_to (n + 1) ++ drop (sector_bytes * (n + 1)) image₀
fills_more image₀ image ys n at place room inv e =
    ap₂ (λ (x y : List ℕ). x ++ y) front (ap₂ (λ (x y : List ℕ). x ++ y) filled rest)
    ∙ sym (append_assoc (sectors_to n) (replicate sector_bytes n) (drop (at + sector_bytes) image₀))
    ∙ ap₂ (λ (x : List ℕ) (k : ℕ). x ++ drop k image₀) (sym (sectors_more n)) (omega (arith, place))
  where
    seam : length (sectors_to n) ≡ at
    seam = length_sectors n ∙ sym place

    before : image ≡ sectors_to n ++ drop at image₀
    before = inv ∙ ap (λ (k : ℕ). sectors_to n ++ drop k image₀) (sym place)

    front : take at image ≡ sectors_to n
    front = ap (take at) before ∙ take_at (sectors_to n) (drop at image₀) at seam

    back : drop at image ≡ drop at image₀
    back = ap (drop at) before ∙ drop_at (sectors_to n) (drop at image₀) at seam

    size : at + sector_bytes - at ≡ sector_bytes
    size = add-sub_cancel_left at sector_bytes

    part : length (take sector_bytes (drop at image₀)) ≡ sector_bytes
    part = length-take-le sector_bytes (drop at image₀) (omega (arith, length-drop at image₀))

    filled : ys ≡ replicate sector_bytes n
    filled = e ∙ ap₂ (λ (k : ℕ) (l : List ℕ). replicate (length (take k l)) n) size back ∙ ap (λ (k : ℕ). replicate k n) part

    rest : drop (at + sector_bytes - at) (drop at image) ≡ drop (at + sector_bytes) image₀
    rest = ap₂ (λ (k : ℕ) (l : List ℕ). drop k l) size back ∙ drop-drop sector_bytes at image₀

pub whole_image : (image₀ image : List ℕ) (n : ℕ) → n ≡ 32 → length image₀ ≤ sector_bytes * n → image ≡ sectors_to n ++ drop (sector_bytes * n) image₀
    → image ≡ bench_image
unfolding bench_image
whole_image image₀ image n all past e =
    e
    ∙ ap (λ (x : List ℕ). sectors_to n ++ x) (drop_of_length-le image₀ {i = sector_bytes * n} past)
    ∙ append-nil (sectors_to n)
    ∙ ap sectors_to all
