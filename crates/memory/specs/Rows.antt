-- A row of little-endian fields in a list of bytes: how it is written.
-- Assumes nothing.
use Rattle.std.specs.Prelude.{ℕ, ◌+◌, Bool, ◌&&◌, List, [], ◌∷◌, nat_le}
use Rattle.memory.specs.Bytes.{bytes_of, replaced}

-- a field of a row: its first byte, how many bytes it has, and what is put there
pub record Field : Type 0 where
  pub offset : ℕ
  pub width : ℕ
  pub value : ℕ

abbrev pub field_at : ℕ → ℕ → ℕ → Field
field_at o w v = record { offset = o; width = w; value = v }

-- the fields of the row at a, put one after the other
abbrev pub put : ℕ → List Field → List ℕ → List ℕ
put a [] m = m
put a (f ∷ fs) m = put a fs (replaced (a + f.offset) (bytes_of f.width f.value) m)

-- the fields stand in rising order from byte `from` on, none meets another, and all end before byte `end`
abbrev pub rising : ℕ → ℕ → List Field → Bool
rising from end [] = nat_le from end
rising from end (f ∷ fs) = nat_le from f.offset && rising (f.offset + f.width) end fs
