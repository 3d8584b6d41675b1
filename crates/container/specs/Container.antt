-- A container, row by row, of 01, "Layouts": "9 rows of 261 bytes". "Column 1 holds" nine overhead bytes "from the top", "the other 2340 bytes are payload,
-- row by row". Written over the number of columns: 261 in a VC-4, 85 in a VC-3.
use Rattle.std.specs.Prelude.{ℕ, zero, suc, ◌-◌, ◌*◌, List, [], ◌∷◌, ◌++◌, get_or, take, drop}

-- the bytes of a payload: all columns but the first
abbrev pub payload_size : ℕ → ℕ
payload_size columns = 9 * (columns - 1)

-- ---- a container of its parts

-- each overhead byte, then `width` bytes of payload
unfoldable pub rows_of : ℕ → List ℕ → List ℕ → List ℕ
rows_of width [] payload = []
rows_of width (b ∷ overhead) payload = b ∷ (take width payload ++ rows_of width overhead (drop width payload))

-- the container with this overhead and this payload
abbrev pub container_of : ℕ → List ℕ → List ℕ → List ℕ
container_of columns overhead payload = rows_of (columns - 1) overhead payload

-- ---- the parts of a container

-- the first byte of each of n rows
unfoldable pub heads_of : ℕ → ℕ → List ℕ → List ℕ
heads_of width zero container = []
heads_of width (suc n) container = get_or container 0 0 ∷ heads_of width n (drop (suc width) container)

-- its nine overhead bytes
abbrev pub overhead_in : ℕ → List ℕ → List ℕ
overhead_in columns container = heads_of (columns - 1) 9 container

-- n rows, each without its first byte
unfoldable pub strip_of : ℕ → ℕ → List ℕ → List ℕ
strip_of width zero container = []
strip_of width (suc n) container = take width (drop 1 container) ++ strip_of width n (drop (suc width) container)

-- its payload
abbrev pub payload_in : ℕ → List ℕ → List ℕ
payload_in columns container = strip_of (columns - 1) 9 container
