-- A field is whole bytes exactly where it is the hex of those bytes.
-- Assumes nothing.
use Rattle.std.proofs.Common.{◌≡◌, ℕ, zero, suc, ◌+◌, ◌-◌, ◌*◌, ◌/◌, ◌%◌, ◌<◌, ◌≤◌, true, false, ◌&&◌, leb, List, [], ◌∷◌, sym, refl, ap, ⊎_elim, zero-lt-suc, arith, ltb-true}
use Rattle.std.proofs.Common.{le-ltb, lt-ltb, le-leb, leb-true}
use borrow.Author.Tests.{lt-leb}
use Rattle.memory.proofs.Tests.{lt_or_le, and_split, and_false, each_true, true_or_false}
use Rattle.memory.specs.Bytes.{Bytes}
use Rattle.memory.specs.Texts.{blank}
use Rattle.script.specs.Reading.{is_digit, hex_value, is_hex_digit, are_hex_pairs, is_bytes, hex_bytes}
use Rattle.script.specs.Text.{hex_digit_of, hex, hex_field}

-- ---- one digit

digit_value : (d : ℕ) → d < 16 → hex_value (hex_digit_of d) ≡ d
digit_value d h =
    ⊎_elim
    (λ (low : d < 10).
    rw (lt-ltb d 10 low, le-leb 48 (48 + d) (omega arith), le-leb (48 + d) 57 (omega arith)) (omega arith))
    (λ (high : 10 ≤ d).
    rw (le-ltb d 10 high, lt-leb (55 + d) 57 (omega arith), and_false (leb 48 (55 + d)), le-leb 65 (55 + d) (omega arith), le-leb (55 + d) 70 (omega arith))
    (omega arith))
    (lt_or_le d 10)

value_digit : (b : ℕ) → is_hex_digit b ≡ true → hex_digit_of (hex_value b) ≡ b
value_digit b e =
    ⊎_elim
    (λ (t : is_digit b ≡ true).
    let both = and_split (leb 48 b) (leb b 57) t in
    let low = leb-true 48 b both.0 in
    let high = leb-true b 57 both.1 in
    rw (t, lt-ltb (b - 48) 10 (omega arith)) (omega arith))
    (λ (t : is_digit b ≡ false).
    ⊎_elim
    (λ (s : (leb 65 b && leb b 70) ≡ true).
    let both = and_split (leb 65 b) (leb b 70) s in
    let low = leb-true 65 b both.0 in
    let high = leb-true b 70 both.1 in
    rw (t, s, le-ltb (b - 55) 10 (omega arith)) (omega arith))
    (λ (s : (leb 65 b && leb b 70) ≡ false).
    let none : hex_value b ≡ 16 = rw (t, s) in
    let z : 16 < 16 = rw none at (ltb-true (hex_value b) 16 e) in
    absurd (omega arith))
    (true_or_false (leb 65 b && leb b 70)))
    (true_or_false (is_digit b))

digit_hex : (d : ℕ) → d < 16 → is_hex_digit (hex_digit_of d) ≡ true
digit_hex d low = rw (digit_value d low) (lt-ltb d 16 low)

-- ---- all of them

pub hex_bytes_lem : (bs : List ℕ) → Bytes bs → hex_bytes (hex bs) ≡ bs
hex_bytes_lem [] are = refl
hex_bytes_lem (b ∷ bs) are =
    let low : b < 256 = are 0 in
    let sum : 16 * (b / 16) + b % 16 ≡ b = omega arith in
    rw (digit_value (b / 16) (omega arith), digit_value (b % 16) (omega arith), sum, hex_bytes_lem bs (λ i. are (suc i)))

pub hex_pairs : (bs : List ℕ) → Bytes bs → are_hex_pairs (hex bs) ≡ true
hex_pairs [] are = refl
hex_pairs (b ∷ bs) are =
    let low : b < 256 = are 0 in
    rw (digit_hex (b / 16) (omega arith), digit_hex (b % 16) (omega arith)) (hex_pairs bs (λ i. are (suc i)))

pub pairs_hex : (h : List ℕ) → are_hex_pairs h ≡ true → h ≡ hex (hex_bytes h)
pairs_hex [] e = refl
pairs_hex (a ∷ []) e = let z : ◌≡◌ {A = ℕ} 0 1 = cc in absurd (omega arith)
pairs_hex (a ∷ b ∷ h) e =
    let all = each_true (is_hex_digit a) (is_hex_digit b ∷ are_hex_pairs h ∷ []) e in
    let low : hex_value b < 16 = ltb-true (hex_value b) 16 all.1.0 in
    let above : (16 * hex_value a + hex_value b) / 16 ≡ hex_value a = omega arith in
    let below : (16 * hex_value a + hex_value b) % 16 ≡ hex_value b = omega arith in
    rw (above, below, value_digit a all.0, value_digit b all.1.0, ← pairs_hex h all.1.1)

pub pairs_bytes : (h : List ℕ) → are_hex_pairs h ≡ true → Bytes (hex_bytes h)
pairs_bytes [] e i = zero-lt-suc 255
pairs_bytes (a ∷ []) e i = zero-lt-suc 255
pairs_bytes (a ∷ b ∷ h) e zero =
    let all = each_true (is_hex_digit a) (is_hex_digit b ∷ are_hex_pairs h ∷ []) e in
    omega (arith, ltb-true (hex_value a) 16 all.0, ltb-true (hex_value b) 16 all.1.0)
pairs_bytes (a ∷ b ∷ h) e (suc i) =
    pairs_bytes h (each_true (is_hex_digit a) (is_hex_digit b ∷ are_hex_pairs h ∷ []) e).1.1 i

-- the field and its blank
pub field_hex : (h : List ℕ) → is_bytes h ≡ true → hex_field (hex_bytes h) ≡ blank ∷ h
field_hex [] e = let z : ◌≡◌ {A = ℕ} 0 1 = cc in absurd (omega arith)
field_hex (a ∷ []) e = let z : ◌≡◌ {A = ℕ} 0 1 = cc in absurd (omega arith)
field_hex (a ∷ b ∷ h) e = ap (λ (l : List ℕ). blank ∷ l) (sym (pairs_hex (a ∷ b ∷ h) e))
