-- `drive::image_right` meets its contract: the limit's test, then the maxima's beside that of the size, decide the parts of the "and".
use mathlib.Core.Bool.{and-false}
use borrow.Author.Tests.{le-leb, lt-leb}
use Rattle.meaning.specs.Sectors.{image_right}
use Rattle.drive.proofs.image_right.Goals as goal

pub returns-then-bytes-gt-IMAGE_LIMIT : goal.returns-then-bytes-gt-IMAGE_LIMIT
unfolding image_right
returns-then-bytes-gt-IMAGE_LIMIT c = simp (lt-leb _ _ c.if-bytes-gt-IMAGE_LIMIT.true, and-false)

pub returns : goal.returns
unfolding image_right
returns c = simp (le-leb _ _ c.if-bytes-gt-IMAGE_LIMIT.false, c.maxima_right.ensures, c.sectors-count.ensures.value)
