-- What a run answers: refused, zero counts and "not finished"; accepted, its counts, and whether all commands are finished.
use Rattle.std.specs.Prelude.{ℕ, Bool, false}
use Rattle.meaning.specs.declared.Ran.{Ran}

abbrev pub refused_run : ℕ → Ran
refused_run k = record { steps = 0; refused = 0; number = k; finished = false }

abbrev pub accepted_run : ℕ → ℕ → Bool → Ran
accepted_run steps refused finished = record { steps = steps; refused = refused; number = 0; finished = finished }
