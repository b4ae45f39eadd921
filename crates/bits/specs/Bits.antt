-- Document 01, "Bits", in its order: bit numbers, places, room, packing, unpacking; then W-207's signed messages.
-- Assumes nothing.
use Rattle.std.specs.Prelude.{ℕ, zero, suc, ◌+◌, ◌-◌, ◌*◌, ◌/◌, ◌%◌, ◌^◌, Bool, true, false, ◌&&◌, List, [], ◌∷◌, length, pos, neg_ℤ, ◌==◌, int_le, int_lt, nat_eq, nat_le, nat_lt, slice_index}
use Rattle.memory.specs.Search.{pick, any_below}
use Rattle.memory.specs.Integers.{integer}
use Rattle.bits.specs.declared.Order.{Order}
use Rattle.bits.specs.declared.Order.TheVariants.{Little, Big}

-- bit k of a number
unfoldable pub bit : ℕ → ℕ → ℕ
bit n k = n / 2 ^ k % 2

-- bit k of an I-PDU: eight to a byte, the lowest first
unfoldable pub frame_bit : List ℕ → ℕ → ℕ
frame_bit f k = bit (slice_index f (k / 8)) (k % 8)

-- the bit after p. Little: the next one. Big: the next one of its byte, and after the last the lowest of the preceding byte
abbrev pub after : Order → ℕ → ℕ
after Little p = p + 1
after Big p = pick (p % 8 == 7) (8 * (p / 8 - 1)) (p + 1)

-- where message bit i goes, beginning with bit 0 at the start bit
unfoldable pub place : Order → ℕ → ℕ → ℕ
place o start zero = start
place o start (suc i) = after o (place o start i)

-- a message of this many bits lies inside an I-PDU of L bytes
unfoldable pub room : Order → ℕ → ℕ → ℕ → Bool
room Little n size L = nat_le (n + size) (8 * L)
room Big n size L = nat_lt n (8 * L) && nat_le size (8 * (n / 8 + 1) - n % 8)

-- the number whose bit i is b i, for each i below k; its bits from k on are 0
unfoldable pub number : ℕ → (ℕ → ℕ) → ℕ
number zero b = 0
number (suc k) b = b 0 + 2 * number k (λ i. b (suc i))

-- the frame of L bytes whose bit k is b k
unfoldable pub frame_of : ℕ → (ℕ → ℕ) → List ℕ
frame_of zero b = []
frame_of (suc L) b = number 8 b ∷ frame_of L (λ k. b (8 + k))

-- bit p of frame f once message bits 0 to k - 1 of value v have gone to their places
unfoldable pub written : Order → ℕ → ℕ → List ℕ → ℕ → ℕ → ℕ
written o start v f zero p = frame_bit f p
written o start v f (suc i) p = pick (place o start i == p) (bit v i) (written o start v f i p)

-- packing drops high bits: only the first `size` bits of v are written
unfoldable pub packed : Order → ℕ → ℕ → ℕ → List ℕ → List ℕ
packed o start size v f = frame_of (length f) (written o start v f size)

-- unpacking fills high bits with 0
unfoldable pub unpacked : Order → ℕ → ℕ → List ℕ → ℕ
unpacked o start size f = number size (λ i. frame_bit f (place o start i))

-- the bits of its I-PDU that a message owns: those that its message bits go to
unfoldable pub owns : Order → ℕ → ℕ → ℕ → Bool
owns o start size p = any_below size (λ i. nat_eq (place o start i) p)

-- ---- signed messages (W-207)

-- a message of `size` bits as a value of 32: a signed one has its top bit copied upwards, another has zeros there
unfoldable pub extended : Bool → ℕ → ℕ → ℕ
extended signed size v = pick signed (number 32 (λ i. bit v (pick (nat_lt i size) i (size - 1)))) v

-- what a stored value gives when it is unpacked: its low bits, extended
unfoldable pub read_back : Bool → ℕ → ℕ → ℕ
read_back signed size v = extended signed size (v % 2 ^ size)

-- the value fits `size` bits: a signed one as the integer that it means
unfoldable pub fits_bits : Bool → ℕ → ℕ → Bool
fits_bits false size v = nat_lt v (2 ^ size)
fits_bits true size v = int_le (neg_ℤ (pos (2 ^ (size - 1)))) (integer true v) && int_lt (integer true v) (pos (2 ^ (size - 1)))
