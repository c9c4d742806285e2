-- Number 1 of every call: sizes that are wrong (Size 1 to 5).
use Rattle.std.specs.Prelude.{ℕ, Bool, not, ◌&&◌, ◌||◌, length, ltb}
use Rattle.meaning.specs.Each.{some_of, up_to}
use Rattle.meaning.specs.Store.{memory, disk, Store}
use Rattle.meaning.specs.State.{State, most_commands}
use Rattle.meaning.specs.Sectors.{image_right}
use Rattle.meaning.specs.Drives.{Drives, most_units}

-- the most bytes of host memory (Board 1)
abbrev pub memory_limit : ℕ
memory_limit = 65_536

-- a unit that is there, with an image over its limit or not of its drive's size, or with a drive that cannot be (Size 2, 3 and 5)
unfoldable pub unit_wrong : Drives → Store → ℕ → Bool
unit_wrong d s u = (d.on u).present && not (image_right (d.on u) (length (s (disk u))))

-- some unit is such a one
unfoldable pub images_wrong : Drives → Store → Bool
unfolding unit_wrong
images_wrong d s = some_of (unit_wrong d s) (up_to most_units)

-- memory over its limit, or such images (Size 1)
unfoldable pub store_wrong : Drives → Store → Bool
unfolding images_wrong
store_wrong d s = ltb memory_limit (length (s memory)) || images_wrong d s

-- or a table shorter than 32, which only a lent one can be (Size 4)
unfoldable pub sizes_wrong : Drives → State → Bool
unfolding store_wrong
sizes_wrong d s = store_wrong d s.store || ltb (length s.table) most_commands
