-- What a viewer keeps, told in plain lists and numbers. Where in memory the bytes lie is no part of it.
use Rattle.meaning.specs.Refusals.{told}
use Rattle.meaning.specs.View.{Seen}
use Rattle.viewer.specs.declared.Viewer.{Viewer}

abbrev pub seen : Viewer → Seen
seen v = record { memory = v.memory.now; at = v.at; number = told v.made }
