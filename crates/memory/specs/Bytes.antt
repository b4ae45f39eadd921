-- Little-endian numbers in a list of bytes, and a part of it that is replaced.
-- Assumes nothing.
use Rattle.std.specs.Prelude.{ℕ, zero, suc, ◌+◌, ◌*◌, ◌/◌, ◌%◌, ◌<◌, List, [], ◌∷◌, ◌++◌, length, take, drop, slice_index}

-- every element is a byte
abbrev pub Bytes : List ℕ → Type 0
Bytes m = (i : ℕ) → slice_index m i < 256

-- the bytes as a number, the first the least significant
unfoldable pub value : List ℕ → ℕ
value [] = 0
value (b ∷ f) = b + 256 * value f

-- the low k bytes of a number, the least significant first
unfoldable pub bytes_of : ℕ → ℕ → List ℕ
bytes_of zero x = []
bytes_of (suc k) x = x % 256 ∷ bytes_of k (x / 256)

-- the k bytes from `at` on
unfoldable pub part : ℕ → ℕ → List ℕ → List ℕ
part at k m = take k (drop at m)

-- the number in the k bytes from `at` on
unfoldable pub number_at : ℕ → ℕ → List ℕ → ℕ
number_at k at m = value (part at k m)

-- f in the place of as many bytes from `at` on
unfoldable pub replaced : ℕ → List ℕ → List ℕ → List ℕ
replaced at f m = take at m ++ (f ++ drop (at + length f) m)
