-- What a report means and the lines of its outcome, case by case; and the outcome of a deck by that of its chain.
use mathlib.Core.Path.{◌≡◌, refl, sym, ap, ◌∙◌, subst, subst₃}
use Prim.Native.Nat.{ℕ, ◌-◌, ◌≤◌, ◌<◌}
use native.Mathlib.Omega.{arith}
use mathlib.Core.Bool.{true, false}
use mathlib.Core.List.{List, [], ◌∷◌, ◌++◌, append_assoc}
use lib.ListN.{length, take, drop, replicate, length-take}
use lib.Dec.{lit≤}
use borrow.Author.Tests.{le-leb, lt-leb}
use Rattle.std.proofs.lemmas.Bool.{cond-false, cond-true}
use Rattle.meaning.specs.declared.LentDrives.{LentDrives}
use Rattle.meaning.specs.declared.Record.{Record}
use Rattle.meaning.specs.declared.refusals.Refusal.{Refusal}
use Rattle.meaning.specs.Refusals.{number_of}
use Rattle.meaning.specs.Store.{lent, images}
use Rattle.meaning.specs.Drives.{drives_of}
use Rattle.meaning.specs.Deck.{is_deck, bench_drives, bench_memory, bench_image}
use Rattle.meaning.specs.Bench.{no_deck, no_chain, ran, outcome_of}
use Rattle.meaning.specs.Bench as bench
use Rattle.meaning.specs.Lines.{space, newline, deck_word, chain_word, steps_word, decimal, command_lines, lines_of, printed}
use Rattle.std.specs.Prelude.{Ok, Err}
use Rattle.deck.specs.declared.RanChain.{RanChain}
use Rattle.deck.specs.declared.Refused.{Refused}
use Rattle.deck.specs.declared.Refused.TheVariants.{NoDeck, NoChain}
use Rattle.deck.specs.Meant.{Report, meant, codes_of, chain_outcome, Reports}
use Rattle.deck.specs.Put.{Put, most_bytes, PrintGives}

ran_lines : (codes : List ℕ) (steps : ℕ) → lines_of (ran codes steps) ≡ command_lines 0 codes ++ steps_word ++ space ∷ decimal steps ++ newline ∷ []
unfolding lines_of
ran_lines codes steps = refl

pub run_lines : (x : RanChain) → command_lines 0 (take x.commands x.codes) ++ (steps_word ++ space ∷ decimal x.steps ++ newline ∷ []) ≡ lines_of (meant (Ok x))
unfolding meant
run_lines x =
    let codes = take x.commands x.codes in
    sym (append_assoc (command_lines 0 codes) (steps_word ++ space ∷ decimal x.steps) (newline ∷ []))
    ∙ ap (λ (l : List ℕ). l ++ newline ∷ []) (sym (append_assoc (command_lines 0 codes) steps_word (space ∷ decimal x.steps)))
    ∙ sym (ran_lines codes x.steps)

module _ (e : Refused) where
  pub none_lines : e ≡ NoDeck → deck_word ++ newline ∷ [] ≡ lines_of (meant (Err e))
  unfolding meant lines_of
  none_lines is = sym (ap (λ (x : Refused). lines_of (meant (Err x))) is)

  pub refused_lines : (r : Refusal) → e ≡ NoChain r → chain_word ++ space ∷ decimal (number_of r) ++ newline ∷ [] ≡ lines_of (meant (Err e))
  unfolding meant lines_of
  refused_lines r is = sym (ap (λ (x : Refused). lines_of (meant (Err x))) is)

-- ---- what reports what

module _ (o : bench.Outcome) where
  pub reports_none : o ≡ no_deck → Reports o (Err NoDeck)
  unfolding meant
  reports_none e = record { means = sym e; few = lit≤ tt; rest = refl }

  pub reports_refused : (r : Refusal) → o ≡ no_chain (number_of r) → Reports o (Err (NoChain r))
  unfolding meant
  reports_refused r e = record { means = sym e; few = lit≤ tt; rest = refl }

  pub reports_ran : (rs : List Record) (n steps : ℕ) (codes : List ℕ) → n ≤ 32 → take n codes ≡ codes_of rs → drop n codes ≡ replicate (32 - n) 0
      → o ≡ ran (codes_of rs) steps → Reports o (Ok (record { commands = n; steps = steps; codes = codes }))
  unfolding meant
  reports_ran rs n steps codes h front rest e = record { means = ap (λ (x : List ℕ). ran x steps) front ∙ sym e; few = h; rest = rest }

-- ---- a deck

module _ (b : List ℕ) where
  pub no_deck_lem : is_deck b ≡ false → outcome_of b ≡ no_deck
  unfolding outcome_of
  no_deck_lem e = cond-false (is_deck b) _ _ e

  pub deck_outcome : is_deck b ≡ true → outcome_of b ≡ chain_outcome (drives_of (bench_drives b)) (lent (bench_memory b) (images bench_image [] [] []))
  unfolding outcome_of
  deck_outcome e = cond-true (is_deck b) _ _ e

  pub reports_deck : (m i : List ℕ) (l : LentDrives) (r : Report) → is_deck b ≡ true → m ≡ bench_memory b → i ≡ bench_image → l ≡ bench_drives b
      → Reports (chain_outcome (drives_of l) (lent m (images i [] [] []))) r → Reports (outcome_of b) r
  reports_deck m i l r e em ei el h =
      subst (λ (o : bench.Outcome). Reports o r) (sym (deck_outcome e))
      (subst₃ (λ (x y : List ℕ) (z : LentDrives). Reports (chain_outcome (drives_of z) (lent x (images y [] [] []))) r) em ei el h)

-- ---- printing it

pub too_short : (b l : List ℕ) → length l < most_bytes → PrintGives b l 0 l
unfolding PrintGives
too_short b l h = subst (λ (x : List ℕ). Put l 0 x 0 l) (sym (cond-false _ _ _ (lt-leb _ _ h))) (record { past = refl; front = refl; rest = refl })

lines_printed : (b : List ℕ) → lines_of (outcome_of b) ≡ printed b
unfolding printed
lines_printed b = refl

pub prints : (b l text : List ℕ) (x : Report) (r : ℕ) (l' : List ℕ) → most_bytes ≤ length l → Reports (outcome_of b) x → text ≡ lines_of (meant x)
    → Put l 0 text r l' → PrintGives b l r l'
unfolding PrintGives
prints b l text x r l' h told is p =
    subst (λ (y : List ℕ). Put l 0 y r l') (is ∙ ap lines_of told.means ∙ lines_printed b ∙ sym (cond-true _ (printed b) [] (le-leb _ _ h))) p

-- what a caller asks of the count before it reads so many bytes
pub print_counts : (b l : List ℕ) (r : ℕ) (l' : List ℕ) → PrintGives b l r l' → (r ≤ length l') × (r ≡ length (take r l'))
unfolding PrintGives
print_counts b l r l' p =
    let whole : r ≡ length (take r l') = omega (arith, p.past, ap length p.front) in
    (omega (arith, length-take r l'), whole)
