-- Laws of a slot's word: its bits stand in the order's walk, and a field of it is a run of them.
-- Assumes nothing.
use Rattle.std.proofs.Common.{◌≡◌, ℕ, zero, suc, ◌+◌, ◌-◌, ◌*◌, ◌/◌, ◌%◌, ◌^◌, ◌<◌, ◌≤◌, List, ◌∷◌, reverse, length, get_or, sym, refl, ap, ◌∙◌, ⊎_elim, lt_of_lt_of_le}
use Rattle.std.proofs.Common.{le_of_suc-le-suc, not-suc-le-zero, mod-lt, mul_comm, add_comm, mul-add, arith, pow_pos, pow_mono, shl_lt, []}
use mathlib.Core.List.{reverse-cons}
use native.Mathlib.Nat.{mod-add-div}
use lib.ListN.{length-reverse, get_or-append, get_or-eq_default}
use lib.Seq.{get_or-append_seam}
use Rattle.std.specs.Int.{swap_bytes, w64}
use Rattle.memory.specs.Bytes.{Bytes, value, bytes_of}
use Rattle.bits.specs.declared.Order.{Order}
use Rattle.bits.specs.declared.Order.TheVariants.{Little, Big}
use Rattle.bits.specs.Bits.{bit, number, frame_bit}
use Rattle.bits.specs.Slots.{position, bytes_reversed, turned, bit_field, with_bit_field}
use Rattle.memory.proofs.Tests.{lt_or_le}
use Rattle.bits.proofs.Numbers.{bit_lt, bit_low, bit_high, bit_mod, bit_div, number_ext, number_bits}
use Rattle.bits.proofs.Frames.{frame_bit_lem, frame_length, frame_bytes_lem, value_bit, bytes_of_frame}
use Rattle.bits.proofs.Places.{position_lt}

-- an element of a reversed list, counted from the other end
get_d_reverse : (f : List ℕ) (i : ℕ) → i < length f → get_or (reverse f) (length f - suc i) 0 ≡ get_or f i 0
get_d_reverse [] i h = absurd (not-suc-le-zero h)
get_d_reverse (b ∷ f) zero h =
    let e : suc (length f) - 1 ≡ length (reverse f) = omega (arith, length-reverse f) in
    rw (reverse-cons b f, e) (get_or-append_seam (reverse f) b [] 0)
get_d_reverse (b ∷ f) (suc i) h =
    let k : i < length f = le_of_suc-le-suc h in
    let e : suc (length f) - suc (suc i) ≡ length f - suc i = omega arith in
    let inner : length f - suc i < length (reverse f) = omega (arith, length-reverse f) in
    rw (reverse-cons b f, e) (get_or-append (reverse f) (b ∷ []) 0 (length f - suc i) inner ∙ get_d_reverse f i k)

-- eight bytes in the other order have their bits in the big walk
reverse_bit : (f : List ℕ) → length f ≡ 8 → (p : ℕ) → p < 64 → frame_bit (reverse f) p ≡ frame_bit f (position Big p)
unfolding frame_bit position
reverse_bit f eight p h =
    let byte : (56 - 8 * (p / 8) + p % 8) / 8 ≡ 7 - p / 8 = omega arith in
    let low : (56 - 8 * (p / 8) + p % 8) % 8 ≡ p % 8 = omega arith in
    let other : length f - suc (7 - p / 8) ≡ p / 8 = omega arith in
    rw (byte, low) (ap (λ (b : ℕ). bit b (p % 8)) (rw other at (get_d_reverse f (7 - p / 8) (omega arith))))

reverse_bytes : (f : List ℕ) → Bytes f → Bytes (reverse f)
reverse_bytes f bs i =
    ⊎_elim
    (λ h.
    let k : length f - suc i < length f = omega arith in
    let e : length f - suc (length f - suc i) ≡ i = omega arith in
    rw (rw e at (get_d_reverse f (length f - suc i) k)) (bs (length f - suc i)))
    (λ h.
    let past : length (reverse f) ≤ i = omega (arith, length-reverse f) in
    omega (arith, get_or-eq_default (reverse f) 0 past))
    (lt_or_le i (length f))

turned_bytes : (w : ℕ) → Bytes (reverse (bytes_of 8 w))
turned_bytes w = reverse_bytes (bytes_of 8 w) (rw bytes_of_frame (frame_bytes_lem 8 (bit w) (bit_lt w)))

pub turned_bit : (o : Order) (w p : ℕ) → p < 64 → bit (turned o w) p ≡ bit w (position o p)
unfolding turned bytes_reversed
turned_bit Little w p h = unfold position in refl
turned_bit Big w p h =
    value_bit (reverse (bytes_of 8 w)) (turned_bytes w) p
    ∙ reverse_bit (bytes_of 8 w) (ap length (bytes_of_frame 8 w) ∙ frame_length 8 (bit w)) p h
    ∙ ap (λ (f : List ℕ). frame_bit f (position Big p)) (bytes_of_frame 8 w)
    ∙ frame_bit_lem 8 (bit w) (bit_lt w) (position Big p) (position_lt Big p h)

-- std's bytes in the other order
pub bytes_swapped : (w : ℕ) → swap_bytes w64 w ≡ bytes_reversed w
unfolding bytes_reversed value bytes_of
bytes_swapped w = omega arith

-- a field is a run of bits
pub field_number : (w at size : ℕ) → bit_field w at size ≡ number size (λ i. bit w (at + i))
unfolding bit_field
field_number w at size = sym (number_bits size (w / 2 ^ at)) ∙ number_ext size _ _ (λ i h. bit_div w at i)

-- the word is split below the field, at it and above it
with_field_parts : (w at size x : ℕ)
    → with_bit_field w at size x ≡ w % 2 ^ at + 2 ^ at * (x % 2 ^ size + 2 ^ size * (w / 2 ^ at / 2 ^ size))
unfolding with_bit_field bit_field
with_field_parts w at size x =
    let p : ℕ = 2 ^ at in
    let q : ℕ = 2 ^ size in
    let m : ℕ = w / p in
    let whole : p * m ≡ p * (m % q) + p * (q * (m / q)) = ap (λ (n : ℕ). p * n) (sym (mod-add-div m q)) ∙ mul-add p _ _ in
    let sum : p * (x % q + q * (m / q)) ≡ p * (x % q) + p * (q * (m / q)) = mul-add p _ _ in
    omega (arith, mod-add-div w p, mul_comm (m % q) p, mul_comm (x % q) p)

-- the field holds the low bits of x, and every other bit is as it was
pub with_field_in : (w at size x i : ℕ) → i < size → bit (with_bit_field w at size x) (at + i) ≡ bit x i
with_field_in w at size x i h =
    rw with_field_parts
    (bit_high at _ _ i (mod-lt w (pow_pos at)) ∙ bit_low size _ _ i h ∙ bit_mod x size i h)

pub with_field_below : (w at size x i : ℕ) → i < at → bit (with_bit_field w at size x) i ≡ bit w i
with_field_below w at size x i h = rw with_field_parts (bit_low at _ _ i h ∙ bit_mod w at i h)

pub with_field_above : (w at size x i : ℕ) → bit (with_bit_field w at size x) (at + (size + i)) ≡ bit w (at + (size + i))
with_field_above w at size x i =
    rw with_field_parts
    (bit_high at _ _ (size + i) (mod-lt w (pow_pos at)) ∙ bit_high size _ _ i (mod-lt x (pow_pos size))
    ∙ bit_div (w / 2 ^ at) size i ∙ bit_div w at (size + i))

-- the parts as digits, the highest first
pub with_field_digits : (w at size x : ℕ)
    → with_bit_field w at size x ≡ (w / 2 ^ at / 2 ^ size * 2 ^ size + x % 2 ^ size) * 2 ^ at + w % 2 ^ at
with_field_digits w at size x =
    with_field_parts w at size x ∙ add_comm (w % 2 ^ at) _
    ∙ ap (λ (n : ℕ). n + w % 2 ^ at) (mul_comm (2 ^ at) _ ∙ ap (λ (n : ℕ). n * 2 ^ at) (add_comm (x % 2 ^ size) _ ∙ ap (λ (n : ℕ). n + x % 2 ^ size) (mul_comm (2 ^ size) _)))

-- a field in its place stays within a word
pub field_lt : (at size x : ℕ) → at + size ≤ 64 → x % 2 ^ size * 2 ^ at < 2 ^ 64
field_lt at size x h =
    lt_of_lt_of_le (shl_lt size at (mod-lt x (pow_pos size)))
    (pow_mono (let k : size + at ≤ 64 = omega arith in k))
