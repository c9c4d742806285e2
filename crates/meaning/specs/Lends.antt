-- What a caller lends, as the store that the rules speak of.
use Rattle.std.specs.Prelude.{◌≡◌, ℕ, List}
use Rattle.meaning.specs.declared.lends.LentDisks.{LentDisks}
use Rattle.meaning.specs.declared.lends.LentStore.{LentStore}
use Rattle.meaning.specs.Store.{Store, lent, images}

-- the images that are lent to be read
abbrev pub images_of : LentDisks → List (List ℕ)
images_of d = images d.image0.now d.image1.now d.image2.now d.image3.now

-- memory and images that are lent to be changed
abbrev pub store_of : LentStore → Store
store_of s = lent s.memory.now (images s.image0.now s.image1.now s.image2.now s.image3.now)

-- what is lent to be changed is still the caller's own, with the same drives: t holds the very runs that s held
abbrev pub SameLent : LentStore → LentStore → Type 0
SameLent s t =
    (t.memory.ghost_name ≡ s.memory.ghost_name)
    × (t.image0.ghost_name ≡ s.image0.ghost_name)
    × (t.image1.ghost_name ≡ s.image1.ghost_name)
    × (t.image2.ghost_name ≡ s.image2.ghost_name)
    × (t.image3.ghost_name ≡ s.image3.ghost_name)
    × (t.drives ≡ s.drives)

-- d is the images and drives of s, lent to be read
abbrev pub disks_of : LentDisks → LentStore → Type 0
disks_of d s =
    (d.image0.now ≡ s.image0.now)
    × (d.image1.now ≡ s.image1.now)
    × (d.image2.now ≡ s.image2.now)
    × (d.image3.now ≡ s.image3.now)
    × (d.drives ≡ s.drives)
