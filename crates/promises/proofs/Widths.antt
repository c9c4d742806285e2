-- Products fit 32 bits: the bounds of `meaning`, put together.
use mathlib.Core.Path.{refl}
use Prim.Native.Nat.{ℕ, ◌*◌, ◌≤◌}
use native.Mathlib.Omega.{arith}
use lib.Dec.{lit<}
use Rattle.meaning.specs.declared.Drive.{Drive}
use Rattle.meaning.specs.Sectors.{per_track, per_cylinder, sector_count, sector_number}
use Rattle.meaning.proofs.Numbering.{count_by_cylinders}
use Rattle.meaning.proofs.Widths.{tracks, cylinders, one_cylinder}
use Rattle.promises.specs.Widths.{Fits8, Fits16, Widths, ProductsFit, SpeaksOfWidths}

module _ (d : Drive) (w : Widths d) where
  at_most : per_cylinder d ≤ 65536
  unfolding per_cylinder
  at_most = one_cylinder (omega arith) (omega arith) (omega arith)

  whole_tracks : (head : ℕ) → Fits8 head → head * per_track d ≤ 255 * 256
  whole_tracks head h = tracks (omega arith) (omega arith)

  whole_cylinders : (cylinder : ℕ) → Fits16 cylinder → cylinder * per_cylinder d ≤ 65535 * 65536
  whole_cylinders cylinder h = cylinders (omega arith) at_most

pub products_fit : ProductsFit
unfolding sector_number
products_fit d w =
    record {
      tracks = λ head h. omega (arith, whole_tracks d w head h);
      cylinders = λ cylinder h. omega (arith, whole_cylinders d w cylinder h);
      number = λ cylinder head sector h i j. omega (arith, whole_cylinders d w cylinder h, whole_tracks d w head i);
      count_is_sum = count_by_cylinders d;
      count_at_most = omega (arith, count_by_cylinders d, whole_cylinders d w d.cylinder w.of_cylinder, at_most d w);
    }

pub speaks_of_widths : SpeaksOfWidths
unfolding per_cylinder sector_count
speaks_of_widths =
    record {
      widths = record { of_cylinder = lit< tt; of_head = lit< tt; of_sector = lit< tt; of_last_sector = lit< tt };
      largest_product = refl;
      largest_count = refl;
    }
