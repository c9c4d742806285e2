-- The place of a number, or why it has none, as C is told it: the place with the number 0, or cylinder, head and sector 0 with the
-- refusal's number.
use Rattle.std.specs.Prelude.{Result, Ok, Err}
use Rattle.meaning.specs.declared.Place.{Place}
use Rattle.meaning.specs.declared.Placed.{Placed}
use Rattle.meaning.specs.declared.refusals.Refusal.{Refusal}
use Rattle.meaning.specs.Refusals.{number_of}
use Rattle.meaning.specs.Place.{place_at}

abbrev pub placed_by : Result Place Refusal → Placed
placed_by (Ok p) = record { place = p; number = 0 }
placed_by (Err r) = record { place = place_at 0 0 0; number = number_of r }
