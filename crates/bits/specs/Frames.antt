-- What `pack` and `unpack` answer for any frame, and what they leave in it: frames of 1 to 8 bytes, messages of 1 to 32 bits.
-- Assumes nothing.
use Rattle.std.specs.Prelude.{ℕ, Bool, ◌&&◌, List, length, nat_le, Result, Ok, Err}
use Rattle.memory.specs.Search.{pick}
use Rattle.bits.specs.declared.Order.{Order}
use Rattle.bits.specs.declared.NoPlace.{NoPlace}
use Rattle.bits.specs.Bits.{room, packed, unpacked, extended}

-- the place of a message is one of those that document 01 speaks of
unfoldable pub is_place : Order → ℕ → ℕ → ℕ → Bool
is_place o start size L = nat_le 1 L && nat_le L 8 && nat_le 1 size && nat_le size 32 && room o start size L

abbrev pub packing : Order → ℕ → ℕ → ℕ → Result Unit NoPlace
packing o start size L = pick (is_place o start size L) (Ok tt) (Err (record {}))

abbrev pub frame_after : Order → ℕ → ℕ → ℕ → List ℕ → List ℕ
frame_after o start size v f = pick (is_place o start size (length f)) (packed o start size v f) f

abbrev pub unpacking : Order → Bool → ℕ → ℕ → List ℕ → Result ℕ NoPlace
unpacking o signed start size f =
    pick (is_place o start size (length f)) (Ok (extended signed size (unpacked o start size f))) (Err (record {}))
