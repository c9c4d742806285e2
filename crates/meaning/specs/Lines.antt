-- The lines that the bench prints, as bytes (Bench 4, 8 and 9).
use Rattle.std.specs.Prelude.{ℕ, zero, suc, ◌+◌, ◌/◌, ◌%◌, cond, List, [], ◌∷◌, ◌++◌, ltb}
use Rattle.meaning.specs.Bench.{Outcome, no_deck, no_chain, ran, outcome_of}

abbrev pub space : ℕ
space = 0x20

abbrev pub newline : ℕ
newline = 0x0A

-- the words `deck`, `chain` and `steps`
abbrev pub deck_word : List ℕ
deck_word = 0x64 ∷ 0x65 ∷ 0x63 ∷ 0x6B ∷ []

abbrev pub chain_word : List ℕ
chain_word = 0x63 ∷ 0x68 ∷ 0x61 ∷ 0x69 ∷ 0x6E ∷ []

abbrev pub steps_word : List ℕ
steps_word = 0x73 ∷ 0x74 ∷ 0x65 ∷ 0x70 ∷ 0x73 ∷ []

-- a digit: 0 to 9, then A to F
abbrev pub digit : ℕ → ℕ
digit n = cond (ltb n 10) (0x30 + n) (0x37 + n)

-- two upper-case hexadecimal digits
abbrev pub hex : ℕ → List ℕ
hex n = digit (n / 16) ∷ digit (n % 16) ∷ []

-- decimal, with no zeros before it; `most` is as many digits as there can be
unfoldable pub digits : ℕ → ℕ → List ℕ
digits zero n = []
digits (suc most) n = let before = digits most (n / 10) in cond (ltb n 10) (digit n ∷ []) (before ++ digit (n % 10) ∷ [])

unfoldable pub decimal : ℕ → List ℕ
unfolding digits
decimal n = digits 20 n

-- Bench 9: a line for each command, its place in decimal and its code; `place` is the first one's
unfoldable pub command_lines : ℕ → List ℕ → List ℕ
unfolding decimal
command_lines place [] = []
command_lines place (code ∷ codes) = decimal place ++ space ∷ hex code ++ newline ∷ [] ++ command_lines (place + 1) codes

-- Bench 4, 8 and 9: the one line `deck`, or `chain` and the number, or the commands' lines and a last one with the steps
unfoldable pub lines_of : Outcome → List ℕ
unfolding command_lines
lines_of no_deck = deck_word ++ newline ∷ []
lines_of (no_chain n) = chain_word ++ space ∷ decimal n ++ newline ∷ []
lines_of (ran codes steps) = command_lines 0 codes ++ steps_word ++ space ∷ decimal steps ++ newline ∷ []

-- what the bench prints for the bytes on its standard input
unfoldable pub printed : List ℕ → List ℕ
unfolding lines_of outcome_of
printed b = lines_of (outcome_of b)
