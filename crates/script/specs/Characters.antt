-- Characters as their ASCII codes. Assumes nothing.
use Rattle.std.specs.Prelude.{ℕ, zero, suc, List, [], ◌∷◌}
use Prim.Native.Char.{code}
use Prim.Native.String.{String, len, char_at}

-- k characters of a text, from place i on
abbrev pub codes_from : ℕ → ℕ → String → List ℕ
codes_from zero i s = []
codes_from (suc k) i s = code (char_at s i) ∷ codes_from k (suc i) s

abbrev pub codes : String → List ℕ
codes s = codes_from (len s) 0 s
