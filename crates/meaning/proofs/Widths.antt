-- What the widths of cylinder, head and sector bound: whole tracks, whole cylinders, and the sectors of a cylinder; all of these are
-- numbers of 32 bits.
use Prim.Native.Nat.{ℕ, ◌+◌, ◌*◌, ◌≤◌}
use native.Mathlib.Nat.{mul-le-mul, add-le-add}

-- the whole tracks of a cylinder before a head: at most 255, of at most 256 sectors
pub tracks : {a b : ℕ} → a ≤ 255 → b ≤ 256 → a * b ≤ 255 * 256
tracks x y = mul-le-mul {n₂ = 255} {m₂ = 256} x y

-- the whole cylinders before a sector: at most 65,535, of at most 65,536 sectors
pub cylinders : {a b : ℕ} → a ≤ 65535 → b ≤ 65536 → a * b ≤ 65535 * 65536
cylinders x y = mul-le-mul {n₂ = 65535} {m₂ = 65536} x y

-- a cylinder: its whole tracks before the last head, and the last head's sectors, at most 256
pub one_cylinder : {a b c : ℕ} → a ≤ 255 → b ≤ 256 → c ≤ 256 → a * b + c ≤ 65536
one_cylinder x y z = add-le-add {b = 255 * 256} {d = 256} (tracks x y) z
