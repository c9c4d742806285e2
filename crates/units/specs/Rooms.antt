-- How much room each unit has, as number 9 asks it: its sectors, none where it is absent, and its mark (Spoiled 6, 7 and 11).
use Rattle.std.specs.Prelude.{ℕ, false, cond, [], ◌∷◌, get_or, ltb}
use Rattle.meaning.specs.declared.Drive.{Drive}
use Rattle.meaning.specs.Drives.{Drives, most_units}
use Rattle.meaning.specs.Sectors.{sector_count}
use Rattle.units.specs.declared.rooms.Room.{Room}
use Rattle.units.specs.declared.rooms.Rooms.{Rooms}

-- what an absent unit has
abbrev pub no_room : Room
no_room = record { sectors = record { 0 = 0 }; protected = false }

-- what a drive has
unfoldable pub room_in : Drive → Room
unfolding sector_count
room_in d = cond d.present (record { sectors = record { 0 = sector_count d }; protected = d.protected }) no_room

-- what the four units have
abbrev pub rooms_of : Drives → Rooms
rooms_of d = record { units = room_in (d.on 0) ∷ room_in (d.on 1) ∷ room_in (d.on 2) ∷ room_in (d.on 3) ∷ [] }

-- what one of them has; one above 3 has none
unfoldable pub room_of : Rooms → ℕ → Room
room_of r u = cond (ltb u most_units) (get_or r.units u no_room) no_room
