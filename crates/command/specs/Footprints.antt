-- A command's footprint, and when two of them meet, as the code tests it first: of its data the hull alone. proofs/Touching proves that
-- commands whose footprints do not meet do not conflict.
use Rattle.std.specs.Prelude.{ℕ, ◌+◌, max, min, Bool, false, ◌&&◌, ◌||◌, cond, List, [], ◌∷◌, ltb}
use Rattle.meaning.specs.declared.Record.{Record}
use Rattle.meaning.specs.Ranges.{Range, sectors_of, crosses, overlap, meet}
use Rattle.meaning.specs.Command.{reads, writes, transfers, steps_of}
use Rattle.meaning.specs.Touch.{data_bytes}
use Rattle.command.specs.declared.touch.Hull.{Hull}
use Rattle.command.specs.declared.touch.Footprint.{Footprint}

-- ---- hulls

-- Host memory ends long before `far`. What begins past it is taken to begin there, so that every end fits into 32 bits: ranges that meet
-- still meet then, and what is outside memory still is.
abbrev pub far : ℕ
far = 2_147_483_648

abbrev pub nearer : ℕ → ℕ
nearer a = min a far

-- the hull of nothing begins past all ranges
abbrev pub no_hull : Hull
no_hull = record { low = far; high = 0; bytes = 0 }

-- a hull with one range more within it
abbrev pub hull_with : Hull → Range → Hull
hull_with h x = record { low = min h.low (nearer x.from); high = max h.high (nearer x.from + x.many); bytes = h.bytes + x.many }

-- how many bytes a hull may have before a range is added, as many as 32 ranges have at the most; and how many that range may have, as many
-- as the most sectors of a command
abbrev pub most_bytes : ℕ
most_bytes = 2_097_120

abbrev pub most_added : ℕ
most_added = 33_553_920

-- with some ranges more
abbrev pub hull_from : Hull → List Range → Hull
hull_from h [] = h
hull_from h (x ∷ xs) = hull_from (hull_with h x) xs

abbrev pub hull_of : List Range → Hull
hull_of xs = hull_from no_hull xs

-- ---- footprints

-- how many sectors a command moves, and the ranges of what it moves
abbrev pub moved_by : Record → ℕ
moved_by r = cond (transfers r) r.count 0

abbrev pub moved_data : Record → List Range
moved_data r = cond (transfers r) (data_bytes r) []

abbrev pub data_hull : Record → Hull
data_hull r = hull_of (moved_data r)

-- a footprint of nothing, all zeros
abbrev pub no_footprint : Footprint
no_footprint =
    record {
      hull = record { low = 0; high = 0; bytes = 0 };
      status = 0;
      sector = 0;
      sectors = 0;
      steps = 0;
      unit = 0;
      reads = false;
      writes = false;
    }

unfoldable pub footprint_of : Record → Footprint
unfolding steps_of
footprint_of r =
    record {
      hull = data_hull r;
      status = r.iopb;
      sector = r.sector;
      sectors = moved_by r;
      steps = steps_of r;
      unit = r.unit;
      reads = reads r;
      writes = writes r;
    }

-- ---- footprints that meet

abbrev pub hulls_meet : Hull → Hull → Bool
hulls_meet g h = ltb (max g.low h.low) (min g.high h.high)

-- the status bytes of the one and the data of the other
abbrev pub status_meets : Footprint → Footprint → Bool
status_meets f g = ltb (max (nearer f.status) g.hull.low) (min (nearer f.status + 4) g.hull.high)

-- data in common, where one of the two reads; sectors in common, where one of them writes
abbrev pub data_meets : Footprint → Footprint → Bool
data_meets f g = (f.reads || g.reads) && hulls_meet f.hull g.hull

abbrev pub sectors_meet : Footprint → Footprint → Bool
sectors_meet f g = (f.writes || g.writes) && overlap (sectors_of f.unit f.sector f.sectors) (sectors_of g.unit g.sector g.sectors)

unfoldable pub footprints_meet : Footprint → Footprint → Bool
footprints_meet f g =
    crosses f.status 4 g.status 4 || (status_meets f g || (status_meets g f || (data_meets f g || sectors_meet f g)))

-- ---- the ranges themselves

-- data in common, where one of two commands reads; sectors in common, where one of them writes
abbrev pub data_conflicts : Record → Record → Bool
data_conflicts r s = (reads r || reads s) && meet (moved_data r) (moved_data s)

abbrev pub sectors_conflict : Record → Record → Bool
sectors_conflict r s = (writes r || writes s) && overlap (sectors_of r.unit r.sector (moved_by r)) (sectors_of s.unit s.sector (moved_by s))
