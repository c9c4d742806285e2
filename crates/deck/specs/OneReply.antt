-- One reply alone meets each of the two contracts of this crate that are no plain equation (Contract 2).
use Rattle.std.specs.Prelude.{◌≡◌, ℕ, List, length}
use Rattle.meaning.specs.Bench as bench
use Rattle.deck.specs.Meant.{Report, codes_in, Reports}
use Rattle.deck.specs.Put.{PrintGives}

pub record EachHasOneReply : Type 0 where
  -- of the reports with 32 codes, as every report of the code has them, one reports an outcome
  pub report : (o : bench.Outcome) (x y : Report) → length (codes_in x) ≡ 32 → length (codes_in y) ≡ 32 → Reports o x → Reports o y → x ≡ y
  -- a count and a run left are those that the contract of printing names
  pub printing : (b l : List ℕ) (r s : ℕ) (l₁ l₂ : List ℕ) → PrintGives b l r l₁ → PrintGives b l s l₂ → (r ≡ s) × (l₁ ≡ l₂)
