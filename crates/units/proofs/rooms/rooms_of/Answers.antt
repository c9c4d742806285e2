-- `rooms_of` meets its contract: each room is what `room_in` gives of the drive there.
use borrow.Author.Rules.{rules}
use mathlib.Core.Path.{◌≡◌, sym, ◌∙◌}
use mathlib.Core.List.{[], ◌∷◌}
use lib.ListN.{get_or}
use Rattle.meaning.specs.Drives.{no_drive}
use Rattle.units.specs.Rooms.{no_room, room_in}
use Rattle.units.proofs.ByUnit.{four, rooms_lent}
use Rattle.units.proofs.rooms.rooms_of.Goals as goal

pub returns : goal.returns
returns c =
    let ds = c.args.l.units in
    let rs = c.map.result in
    let unit0 : get_or rs 0 no_room ≡ room_in (get_or ds 0 no_drive) = search rules in
    let unit1 : get_or rs 1 no_room ≡ room_in (get_or ds 1 no_drive) = search rules in
    let unit2 : get_or rs 2 no_room ≡ room_in (get_or ds 2 no_drive) = search rules in
    let unit3 : get_or rs 3 no_room ≡ room_in (get_or ds 3 no_drive) = search rules in
    let units = four rs no_room c.map.ensures.items.long ∙ (λ j. unit0 j ∷ unit1 j ∷ unit2 j ∷ unit3 j ∷ []) ∙ sym (rooms_lent c.args.l) in
    λ j. record { units = units j }
