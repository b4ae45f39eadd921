-- A slot of 8 bytes as one number, and fields of bits in a number: what the code of `walk` and `word` computes.
-- Nothing here is a rule of document 01; proofs/Words.antt shows that it meets them. Assumes nothing.
use Rattle.std.specs.Prelude.{ℕ, ◌+◌, ◌-◌, ◌*◌, ◌/◌, ◌%◌, ◌^◌, ◌<◌, ◌≤◌, reverse}
use Rattle.memory.specs.Bytes.{value, bytes_of}
use Rattle.bits.specs.declared.Order.{Order}
use Rattle.bits.specs.declared.Order.TheVariants.{Little, Big}

-- how far along an order's walk through a slot bit p stands; also, since this is its own inverse, the bit that stands there
unfoldable pub position : Order → ℕ → ℕ
position Little p = p
position Big p = 56 - 8 * (p / 8) + p % 8

-- eight bytes in the other order
unfoldable pub bytes_reversed : ℕ → ℕ
bytes_reversed w = value (reverse (bytes_of 8 w))

-- bit q is bit `position o q` of w
unfoldable pub turned : Order → ℕ → ℕ
turned Little w = w
turned Big w = bytes_reversed w

-- `size` bits of w, from bit `at` on
unfoldable pub bit_field : ℕ → ℕ → ℕ → ℕ
bit_field w at size = w / 2 ^ at % 2 ^ size

-- w with the low `size` bits of x in their place
unfoldable pub with_bit_field : ℕ → ℕ → ℕ → ℕ → ℕ
with_bit_field w at size x = w - bit_field w at size * 2 ^ at + x % 2 ^ size * 2 ^ at

-- what a caller of `pack_slot` and `unpack_slot` has checked: the run of positions lies in the slot
pub record InSlot (at size : ℕ) : Type 0 where
  pub some : 0 < size
  pub most : size ≤ 32
  pub inside : at + size ≤ 64
