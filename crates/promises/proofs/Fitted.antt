-- What would have fitted: it is told exactly when the table says, by the questions that give the codes; and each test for an end passes with
-- as many sectors as it tells, and no more.
use mathlib.Core.Path.{◌≡◌, refl, sym, ◌∙◌}
use mathlib.Core.Logic.{◌≢◌, ◌⊎◌, inl, inr}
use Prim.Native.Nat.{ℕ, ◌+◌, ◌-◌, ◌*◌, ◌/◌, ◌≤◌, ◌<◌, min}
use native.Mathlib.Omega.{arith}
use mathlib.Core.Bool.{Bool, true, false, cond, true≢false}
use mathlib.Core.List.{List, [], ◌∷◌}
use lib.ListN.{length}
use borrow.Author.Tests.{lt-ltb, le-ltb, ltb-false}
use Rattle.meaning.specs.declared.Drive.{Drive}
use Rattle.meaning.specs.declared.Copied.{Copied}
use Rattle.meaning.specs.declared.End.{End}
use Rattle.meaning.specs.First.{Row, first_of, told_of}
use Rattle.meaning.specs.Sectors.{sector_bytes, maximum_on, sector_count}
use Rattle.meaning.specs.Ends.{drive_end, memory_end}
use Rattle.meaning.specs.Code.{command_rows, transfer_rows, data_rows, links_in, code_of, fitted_of}
use Rattle.meaning.specs.Ranges.{bytes}
use Rattle.meaning.specs.Place.{place_at, OnDrive}
use Rattle.meaning.specs.Table.{NoneOf}
use Rattle.meaning.proofs.All.{All}
use Rattle.meaning.proofs.Means.{Means, holds, fails, is_false, means_lt}
use Rattle.meaning.proofs.Numbering.{number_below}
use Rattle.meaning.proofs.Table.{by_place, with_numbers}
use Rattle.promises.specs.Codes.{place_table}
use Rattle.promises.specs.Fitted.{on_drive, in_memory, FittedExactlyWhen, ToldWithTwoCodes, TellsWhatFits, DriveTells, MemoryTells, OneAtLeast}
use Rattle.promises.proofs.Numbers.{means_sector_above, questions}

-- ---- when

pub fitted_exactly_when : (c : Copied) (d : Drive) (m : List ℕ) (N : ℕ) → FittedExactlyWhen c d m N
unfolding fitted_of
fitted_exactly_when c d m =
    by_place
    (with_numbers 0 (questions c d m)
    (0 ∷ 0 ∷ 0 ∷ 0 ∷ 0 ∷ 0 ∷ 0 ∷ 0 ∷ on_drive c d ∷ 0 ∷ 0 ∷ 0 ∷ 0 ∷ in_memory c m ∷ []))

-- a row tells nothing, or gives 10H, or 4BH
abbrev Quiet : Row → Type 0
Quiet r = (r.tells ≡ 0) ⊎ (r.gives ≡ 0x10) ⊎ (r.gives ≡ 0x4B)

-- of such rows, where another code is given nothing is told
none_told : (N : ℕ) → N ≢ 0x10 → N ≢ 0x4B → (rows : List Row) (z y : ℕ) → All Quiet rows → first_of rows z ≡ N → (z ≡ N → y ≡ 0) → told_of rows y ≡ 0
none_told N a b [] z y quiet e last = last e
none_told N a b (r ∷ rows) z y quiet e last = go r.applies quiet.0 (none_told N a b rows z y quiet.1) e
  where
    go : (x : Bool) → Quiet r → (first_of rows z ≡ N → (z ≡ N → y ≡ 0) → told_of rows y ≡ 0) → cond x r.gives (first_of rows z) ≡ N → cond x r.tells (told_of rows y) ≡ 0
    go true (inl q) rest e = q
    go true (inr (inl q)) rest e = absurd (a (sym e ∙ q))
    go true (inr (inr q)) rest e = absurd (b (sym e ∙ q))
    go false q rest e = rest e last

pub told_with_two_codes : (c : Copied) (d : Drive) (m : List ℕ) → ToldWithTwoCodes c d m
unfolding code_of fitted_of
told_with_two_codes c d m a b =
    let n = length m in
    let xs = links_in m c in
    let N = code_of c d n xs in
    let by_data = first_of (data_rows c n xs) 0 in
    let transfer = first_of (transfer_rows c d) by_data in
    none_told N a b (command_rows c) transfer _ (inl refl, (inl refl, (inl refl, tt))) refl
    (λ e. none_told N a b (transfer_rows c d) by_data _
    (inl refl, (inl refl, (inl refl, (inl refl, (inl refl, (inr (inl refl), (inl refl, tt))))))) e
    (λ f. none_told N a b (data_rows c n xs) 0 0 (inl refl, (inl refl, (inl refl, (inr (inr refl), tt)))) f (λ _. refl)))

-- ---- what it means

-- a test that passes exactly with as many as it tells, or fewer
module _ (test : ℕ → End) (fits : ℕ) (tells : (j : ℕ) → (test j).fitted ≡ fits) (within : (j : ℕ) → j ≤ fits → (test j).past ≡ false) (above : (j : ℕ) → fits < j → (test j).past ≡ true) where
  tells_what_fits : TellsWhatFits test
  tells_what_fits =
      record {
        same = λ j k. tells j ∙ sym (tells k);
        exactly = λ j. ((λ e. inside j (means_lt fits j) e), λ l. within j (omega (arith, tells j, l)));
        that_many = λ j. within (test j).fitted (omega (arith, tells j));
        one_more = λ j. above ((test j).fitted + 1) (omega (arith, tells j));
        posted = λ j. within (min (test j).fitted 255) (omega (arith, tells j));
        posted_more = λ j l. above (min (test j).fitted 255 + 1) (omega (arith, tells j, l));
      }
    where
      inside : (j : ℕ) {b : Bool} → Means (fits < j) b → (test j).past ≡ false → j ≤ (test j).fitted
      inside j (holds l) e = absurd (true≢false (sym (above j l) ∙ e))
      inside j (fails n) e = omega (arith, tells j)

pub drive_tells : DriveTells
drive_tells d first h =
    tells_what_fits (drive_end d first) (sector_count d - first) (λ j. refl)
    (λ j l. le-ltb (sector_count d) (first + j) (omega arith))
    (λ j l. lt-ltb (sector_count d) (first + j) (omega arith))

pub memory_tells : MemoryTells
memory_tells n address h =
    tells_what_fits (λ count. memory_end n (bytes address (sector_bytes * count))) ((n - address) / sector_bytes) (λ j. refl)
    (λ j l. le-ltb n (address + sector_bytes * j) (omega arith))
    (λ j l. lt-ltb n (address + sector_bytes * j) (omega arith))

-- a command with none of those codes names a place of the drive
on_drive_lem : (c : Copied) (d : Drive) → NoneOf (place_table c d) → OnDrive d (place_at c.cylinder c.head c.sector)
on_drive_lem c d none =
    record {
      cylinder_in = omega (arith, none.1.1.0);
      head_in = omega (arith, none.1.1.1.0);
      sector_in = ltb-false (maximum_on d c.head) c.sector (is_false (means_sector_above d c) none.1.1.1.1.0);
    }

pub one_at_least : OneAtLeast
one_at_least c d none =
    let below = number_below d (place_at c.cylinder c.head c.sector) (on_drive_lem c d none) in
    omega (arith, below)
