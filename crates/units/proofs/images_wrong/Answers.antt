-- `images_wrong` meets its contract: the four units are those that the definition asks.
use borrow.Author.Rules.{rules}
use borrow.Author.Tests.{tests}
use Prim.Native.Nat.{ℕ}
use mathlib.Core.List.{[], ◌∷◌}
use lib.ListN.{length}
use mathlib.Core.Bool.{not, ◌&&◌}
use Rattle.std.proofs.lemmas.Iterator.{YieldsList-from_slice}
use Rattle.std.proofs.lemmas.Iterator.Search.{any_from_yields_List}
use Rattle.meaning.specs.Drives.{drive_of}
use Rattle.meaning.specs.Sectors.{image_right}
use Rattle.meaning.specs.Sizes.{unit_wrong, images_wrong}
use Rattle.units.proofs.images_wrong.Goals as goal

pub returns : goal.returns
unfolding images_wrong unit_wrong
returns c =
    let wrong = λ (x : ℕ × ℕ). (drive_of c.args.disks.drives x.0).present && not (image_right (drive_of c.args.disks.drives x.0) x.1) in
    let d = c.args.disks in
    let units = (0, length d.image0.now) ∷ (1, length d.image1.now) ∷ (2, length d.image2.now) ∷ (3, length d.image3.now) ∷ [] in
    λ m. any_from_yields_List wrong _ _ c.any.result c.any.ensures.ran (YieldsList-from_slice units cc) (λ x b q k. search (rules, tests))
