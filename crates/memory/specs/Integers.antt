-- W-207: the integer that a value of 32 bits means, as it stands or by two's complement; the order of such values, and their text.
-- Assumes nothing.
use Rattle.std.specs.Prelude.{ℕ, suc, ◌+◌, ◌%◌, ◌^◌, Bool, ◌&&◌, List, ◌∷◌, ℤ, pos, negsuc, int_le, int_lt, nat_le}
use Rattle.std.proofs.Math.IntN.{sub_ℕ}
use Rattle.memory.specs.Search.{pick}
use Rattle.memory.specs.Texts.{blank, decimal}

-- signed, and its top bit is 1
abbrev pub is_negative : Bool → ℕ → Bool
is_negative signed v = signed && nat_le (2 ^ 31) v

-- a negative value stands 2 ^ 32 too high
unfoldable pub integer : Bool → ℕ → ℤ
integer signed v = pick (is_negative signed v) (sub_ℕ v (2 ^ 32)) (pos v)

-- ---- the order is that of the integers

unfoldable pub at_most : Bool → ℕ → ℕ → Bool
at_most signed a b = int_le (integer signed a) (integer signed b)

unfoldable pub less_than : Bool → ℕ → ℕ → Bool
less_than signed a b = int_lt (integer signed a) (integer signed b)

-- how the code compares: how far a value stands above the least one
unfoldable pub rank : Bool → ℕ → ℕ
rank signed v = pick signed ((v + 2 ^ 31) % 2 ^ 32) v

-- ---- in decimals, with a minus before a negative one

abbrev pub minus : ℕ
minus = 45

abbrev pub integer_text : ℤ → List ℕ
integer_text (pos n) = decimal n
integer_text (negsuc n) = minus ∷ decimal (suc n)

-- one blank before it
abbrev pub integer_field : ℤ → List ℕ
integer_field z = blank ∷ integer_text z
