-- Bytes in hex: one byte more, and how many digits there are.
-- Assumes nothing.
use Rattle.std.proofs.Common.{List, [], ◌∷◌, ◌++◌, ◌≡◌, refl, ap, ℕ, ◌+◌, ◌*◌, ◌/◌, ◌%◌, ◌≤◌, ◌<◌, add-one, arith, length, get_or, set, take, drop, length-take, length-drop, take-suc, get_or-drop}
use Rattle.memory.specs.Bytes.{part}
use Rattle.memory.specs.Texts.{Put}
use Rattle.memory.proofs.Puts.{put_append, put_none, put_byte, put_one, put_as}
use Rattle.script.specs.Text.{hex_digit_of, hex}

hex_append : (a b : List ℕ) → hex (a ++ b) ≡ hex a ++ hex b
hex_append [] b = refl
hex_append (x ∷ a) b = ap (λ (l : List ℕ). hex_digit_of (x / 16) ∷ hex_digit_of (x % 16) ∷ l) (hex_append a b)

pub hex_length : (bs : List ℕ) → length (hex bs) ≡ 2 * length bs
hex_length [] = refl
hex_length (b ∷ bs) = omega (arith, hex_length bs)

-- at most n bytes
pub hex_part_length : (from n : ℕ) (bs : List ℕ) → length (hex (part from n bs)) ≤ 2 * n
unfolding part
hex_part_length from n bs = omega (arith, hex_length (take n (drop from bs)), length-take n (drop from bs))

part_more : (from i : ℕ) (bs : List ℕ) → from + i < length bs → part from (i + 1) bs ≡ part from i bs ++ get_or bs (from + i) 0 ∷ []
unfolding part
part_more from i bs low =
    let inside : i < length (drop from bs) = simp length-drop (omega arith) in
    rw (add-one i, take-suc (drop from bs) i 0 inside, get_or-drop from bs i 0)

pub hex_none : (at from : ℕ) (bs m : List ℕ) → Put at (hex (part from 0 bs)) m m (at + 2 * 0)
unfolding part
hex_none at from bs m = put_as (put_none at m) refl (omega arith)

-- one byte more, in two digits
pub hex_more : (at from i all a b : ℕ) (bs m n : List ℕ) → i < all → from + all ≤ length bs → Put at (hex (part from i bs)) m n (at + 2 * i)
    → a ≡ hex_digit_of (get_or bs (from + i) 0 / 16) → b ≡ hex_digit_of (get_or bs (from + i) 0 % 16)
    → Put at (hex (part from (i + 1) bs)) m (set (set n (at + 2 * i) a) (at + 2 * i + 1) b) (at + 2 * (i + 1))
hex_more at from i all a b bs m n low room so_far high_digit low_digit =
    let digits : hex (part from (i + 1) bs) ≡ hex (part from i bs) ++ a ∷ b ∷ [] =
    rw (part_more from i bs (omega (arith, low, room)), hex_append (part from i bs) (get_or bs (from + i) 0 ∷ []), high_digit, low_digit) in
    rw digits (put_as (put_append so_far (put_byte {b = a} {m = n} (put_one (at + 2 * i + 1) b _))) refl (omega arith))
