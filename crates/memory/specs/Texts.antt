-- Decimals as text, and texts that are put into lent bytes. Characters are ASCII codes.
-- Assumes nothing.
use Rattle.std.specs.Prelude.{◌≡◌, ℕ, zero, suc, ◌+◌, ◌/◌, ◌%◌, List, [], ◌∷◌, ◌++◌, length, nat_lt}
use Rattle.std.proofs.lemmas.List.Edits.{sets}
use Rattle.memory.specs.Search.{pick}

abbrev pub blank : ℕ
blank = 32

abbrev pub line_feed : ℕ
line_feed = 10

-- ---- decimals with no leading zeros

abbrev pub digit_of : ℕ → ℕ
digit_of d = 48 + d

-- with at most k digits
abbrev pub decimal_digits : ℕ → ℕ → List ℕ
decimal_digits zero n = []
decimal_digits (suc k) n = pick (nat_lt n 10) (digit_of n ∷ []) (decimal_digits k (n / 10) ++ digit_of (n % 10) ∷ [])

-- of a number below 2 ^ 64
unfoldable pub decimal : ℕ → List ℕ
decimal n = decimal_digits 20 n

-- one blank before each
abbrev pub number_field : ℕ → List ℕ
number_field n = blank ∷ decimal n

-- ---- how a function puts a text into `before` from place `at` on, with the place behind it

pub record Put (at : ℕ) (text before after : List ℕ) (end : ℕ) : Type 0 where
  pub stored : after ≡ sets before at text
  pub behind : end ≡ at + length text
