-- The rows that give a code come in three tables: what every command is asked, what only a transfer is, and what is asked of its data. Where a
-- code is given that no row of the first two gives, none of these applies, and the data's rows decide.
use mathlib.Core.Path.{◌≡◌, sym, ◌∙◌}
use Prim.Native.Nat.{ℕ}
use mathlib.Core.Bool.{true}
use mathlib.Core.List.{List}
use Rattle.meaning.specs.declared.Drive.{Drive}
use Rattle.meaning.specs.declared.Copied.{Copied}
use Rattle.meaning.specs.declared.Link.{Link}
use Rattle.meaning.specs.First.{first_of}
use Rattle.meaning.specs.Each.{every_of}
use Rattle.meaning.specs.Code.{command_rows, transfer_rows, data_rows, code_of, early_code}
use Rattle.meaning.proofs.All.{All}
use Rattle.meaning.proofs.Numbers.{Off, told_but, rows_but, off_last}

module _ (c : Copied) (d : Drive) where
  -- no row before the data's applies
  pub record Past : Type 0 where
    pub command : All Off (command_rows c)
    pub transfer : All Off (transfer_rows c d)

  -- where they come to N in the end, whatever is given past them
  pub past : (N z : ℕ) → every_of (told_but N) (command_rows c) ≡ true → every_of (told_but N) (transfer_rows c d) ≡ true → first_of (command_rows c) (first_of (transfer_rows c d) z) ≡ N → Past
  past N z h k e =
      let off = rows_but N (command_rows c) (first_of (transfer_rows c d) z) e h in
      record { command = off; transfer = rows_but N (transfer_rows c d) z (sym (off_last (command_rows c) (first_of (transfer_rows c d) z) off) ∙ e) k }

  pub early_past : Past → early_code c d ≡ 0
  unfolding early_code
  early_past p = off_last (command_rows c) (first_of (transfer_rows c d) 0) p.command ∙ off_last (transfer_rows c d) 0 p.transfer

  pub code_past : (n : ℕ) (xs : List Link) → Past → code_of c d n xs ≡ first_of (data_rows c n xs) 0
  unfolding code_of
  code_past n xs p = off_last (command_rows c) _ p.command ∙ off_last (transfer_rows c d) _ p.transfer
