-- Link lists (Link 1 to 8): how the list of a scatter/gather command lies in memory, and the ranges of memory that a transfer's data is laid
-- in, end to end. A transfer without a list has one range, so that every rule over its data is a rule over a list of ranges.
use Rattle.std.specs.Prelude.{ℕ, ◌+◌, ◌*◌, Bool, cond, List, [], ◌∷◌, ◌++◌, map, length, get_or, drop, replicate}
use Rattle.meaning.specs.declared.Link.{Link}
use Rattle.meaning.specs.Each.{sum_of, up_to}
use Rattle.meaning.specs.Sectors.{sector_bytes}
use Rattle.meaning.specs.Ranges.{Range, bytes}

-- the bytes of an element, and the most elements of a list (Link 1)
abbrev pub link_bytes : ℕ
link_bytes = 8

abbrev pub most_links : ℕ
most_links = 32

-- numbers of two and of four bytes of memory, the high byte first
abbrev pub two_at : List ℕ → ℕ → ℕ
two_at m a = get_or m a 0 * 256 + get_or m (a + 1) 0

abbrev pub four_at : List ℕ → ℕ → ℕ
four_at m a = two_at m a * 65536 + two_at m (a + 2)

-- the element at a: bytes 0-1 are the length of its range, 4-7 where that begins; 2 and 3 are ignored (Link 2)
unfoldable pub link_at : List ℕ → ℕ → Link
link_at m a = record { address = four_at m (a + 4); length = two_at m a; unused = 0 }

-- the list of n elements at a
unfoldable pub links_at : List ℕ → ℕ → ℕ → List Link
links_at m a n = map (λ k. link_at m (a + link_bytes * k)) (up_to n)

-- a list as a record holds it: before elements of zeros (Link 7)
abbrev pub no_link : Link
no_link = record { address = 0; length = 0; unused = 0 }

abbrev pub no_links : List Link
no_links = replicate most_links no_link

abbrev pub padded : List Link → List Link
padded xs = xs ++ drop (length xs) no_links

-- the range that an element names
abbrev pub range_of : Link → Range
range_of x = bytes x.address x.length

-- where the data of a transfer lies, in the order in which it is laid end to end: in the ranges of its list, or where it is not listed in
-- the bytes of its sectors from the data address on (Link 8)
abbrev pub ranges_of : Bool → ℕ → ℕ → List Link → List Range
ranges_of listed address count xs = cond listed (map range_of xs) (bytes address (sector_bytes * count) ∷ [])

-- how many bytes some ranges have together
abbrev pub bytes_in : List Range → ℕ
bytes_in rs = sum_of (λ r. r.many) rs
