-- Laws of `frame_bit` and `frame`: a frame is its bits, and so is the number of its bytes.
-- Assumes nothing.
use Rattle.std.proofs.Common.{◌≡◌, ℕ, zero, suc, ◌+◌, ◌-◌, ◌*◌, ◌/◌, ◌%◌, ◌<◌, ◌≤◌, List, ◌∷◌, length, take, sym, refl, ap, ◌∙◌, ⊎_elim, le_of_suc-le-suc, not-suc-le-zero, arith, []}
use Rattle.bits.specs.Bits.{bit, number, frame_bit, frame_of}
use Rattle.memory.specs.Bytes.{Bytes, value, bytes_of}
use Rattle.memory.proofs.Tests.{lt_or_le}
use Rattle.bits.proofs.Numbers.{bit_lt, bit_of_zero, bit_low, bit_high, bit_div, number_ext, number_bit, number_lt, number_bits}

pub frame_bit_lt : (f : List ℕ) (p : ℕ) → frame_bit f p < 2
unfolding frame_bit
frame_bit_lt f p = bit_lt _ _

pub frame_bit_head : (b : ℕ) (f : List ℕ) (p : ℕ) → p < 8 → frame_bit (b ∷ f) p ≡ bit b p
unfolding frame_bit
frame_bit_head b f p h =
    let d : p / 8 ≡ 0 = omega arith in
    let m : p % 8 ≡ p = omega arith in
    rw (d, m)

pub frame_bit_tail : (b : ℕ) (f : List ℕ) (p : ℕ) → frame_bit (b ∷ f) (8 + p) ≡ frame_bit f p
unfolding frame_bit
frame_bit_tail b f p =
    let d : (8 + p) / 8 ≡ suc (p / 8) = omega arith in
    let m : (8 + p) % 8 ≡ p % 8 = omega arith in
    rw (d, m)

-- a place is in the first byte or in the rest
pub by_byte {ℓ} : (P : ℕ → Type ℓ) → ((p : ℕ) → p < 8 → P p) → ((p : ℕ) → P (8 + p)) → (p : ℕ) → P p
by_byte P first rest p =
    ⊎_elim (first p)
    (λ h. let e : 8 + (p - 8) ≡ p = omega arith in rw e at (rest (p - 8)))
    (lt_or_le p 8)

pub frame_length : (L : ℕ) (b : ℕ → ℕ) → length (frame_of L b) ≡ L
unfolding frame_of
frame_length zero b = refl
frame_length (suc L) b = ap suc (frame_length L (λ k. b (8 + k)))

pub frame_ext : (L : ℕ) (b c : ℕ → ℕ) → ((p : ℕ) → p < 8 * L → b p ≡ c p) → frame_of L b ≡ frame_of L c
unfolding frame_of
frame_ext zero b c e = refl
frame_ext (suc L) b c e =
    cc (
      number_ext 8 b c (λ p h. e p (omega arith)),
      frame_ext L (λ k. b (8 + k)) (λ k. c (8 + k)) (λ p h. e (8 + p) (omega arith)),
    )

pub frame_bit_lem : (L : ℕ) (b : ℕ → ℕ) → ((i : ℕ) → b i < 2) → (p : ℕ) → p < 8 * L → frame_bit (frame_of L b) p ≡ b p
unfolding frame_of
frame_bit_lem zero b two p h = absurd (not-suc-le-zero {n = p} (omega arith))
frame_bit_lem (suc L) b two p h =
    by_byte (λ p. p < 8 * suc L → frame_bit (number 8 b ∷ frame_of L (λ k. b (8 + k))) p ≡ b p)
    (λ p h _. frame_bit_head _ _ p h ∙ number_bit b two 8 p h)
    (λ p h. frame_bit_tail _ _ p ∙ frame_bit_lem L (λ k. b (8 + k)) (λ k. two (8 + k)) p (omega arith))
    p
    h

pub frame_bytes_lem : (L : ℕ) (b : ℕ → ℕ) → ((i : ℕ) → b i < 2) → Bytes (frame_of L b)
unfolding frame_of
frame_bytes_lem zero b two i = omega arith
frame_bytes_lem (suc L) b two zero = number_lt b two 8
frame_bytes_lem (suc L) b two (suc i) = frame_bytes_lem L (λ k. b (8 + k)) (λ k. two (8 + k)) i

pub frame_take : (L M : ℕ) (b : ℕ → ℕ) → L ≤ M → take L (frame_of M b) ≡ frame_of L b
unfolding frame_of
frame_take zero M b h = refl
frame_take (suc L) zero b h = absurd (not-suc-le-zero h)
frame_take (suc L) (suc M) b h = ap (λ (f : List ℕ). number 8 b ∷ f) (frame_take L M (λ k. b (8 + k)) (le_of_suc-le-suc h))

-- a number and its bytes have the same bits
pub value_bit : (f : List ℕ) → Bytes f → (p : ℕ) → bit (value f) p ≡ frame_bit f p
unfolding value
value_bit [] bs p = bit_of_zero p ∙ sym (unfold frame_bit in bit_of_zero (p % 8))
value_bit (b ∷ f) bs p =
    by_byte (λ p. bit (value (b ∷ f)) p ≡ frame_bit (b ∷ f) p)
    (λ p h. bit_low 8 b (value f) p h ∙ sym (frame_bit_head b f p h))
    (λ p. bit_high 8 b (value f) p (bs 0) ∙ value_bit f (λ i. bs (suc i)) p ∙ sym (frame_bit_tail b f p))
    p

pub bytes_of_frame : (k w : ℕ) → bytes_of k w ≡ frame_of k (bit w)
unfolding bytes_of frame_of
bytes_of_frame zero w = refl
bytes_of_frame (suc k) w =
    cc
    (number_bits 8 w, bytes_of_frame k (w / 256), frame_ext k (bit (w / 256)) (λ i. bit w (8 + i)) (λ p h. bit_div w 8 p))
