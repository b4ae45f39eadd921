-- Laws of `bit_xor`, the code's `^`: a word changed by its difference from another is the other, also with the difference turned; a
-- field whose differing bits are inverted holds the new value. Assumes nothing.
use Rattle.std.proofs.Common.{◌≡◌, ℕ, zero, suc, ◌+◌, ◌-◌, ◌*◌, ◌/◌, ◌%◌, ◌^◌, ◌<◌, ◌≤◌, sym, refl, ap, ◌∙◌, ap₂, add-zero, mod-lt, div-add-mod', arith, pow_pos, bit_xor}
use lib.Bits.{differ, xor_step, xor_shr, xor_mod, xor_lt, xor_block, xor_zero_r}
use lib.Pow.{mod-mod-pow}
use Rattle.memory.specs.Bytes.{bytes_of}
use Rattle.bits.specs.declared.Order.{Order}
use Rattle.bits.specs.Bits.{bit}
use Rattle.bits.specs.Slots.{position, turned, bit_field, with_bit_field}
use Rattle.bits.proofs.Numbers.{bit_lt, bits_ext}
use Rattle.bits.proofs.Frames.{frame_ext, bytes_of_frame}
use Rattle.bits.proofs.Places.{position_lt, position_twice}
use Rattle.bits.proofs.Slots.{turned_bit, with_field_digits}

differ_lt : (x y : ℕ) → x < 2 → y < 2 → differ x y < 2
differ_lt zero y h k = k
differ_lt (suc x) zero h k = h
differ_lt (suc zero) (suc y) h k = omega arith
differ_lt (suc (suc x)) (suc y) h k = absurd (omega arith)

differ_back : (x y : ℕ) → x < 2 → y < 2 → differ x (differ x y) ≡ y
differ_back zero y h k = refl
differ_back (suc zero) zero h k = refl
differ_back (suc zero) (suc zero) h k = refl
differ_back (suc zero) (suc (suc y)) h k = absurd (omega arith)
differ_back (suc (suc x)) y h k = absurd (omega arith)

xor_bit : (a b i : ℕ) → bit (bit_xor a b) i ≡ differ (bit a i) (bit b i)
unfolding bit
xor_bit a b i =
    let low = differ_lt (a / 2 ^ i % 2) (b / 2 ^ i % 2) (omega arith) (omega arith) in
    rw xor_shr (omega (arith, xor_step (a / 2 ^ i) (b / 2 ^ i)))

-- bit by bit, a changed by its difference from b is b
xor_bit_back : (a b i : ℕ) → bit (bit_xor a (bit_xor a b)) i ≡ bit b i
xor_bit_back a b i =
    xor_bit a (bit_xor a b) i ∙ ap (differ (bit a i)) (xor_bit a b i) ∙ differ_back (bit a i) (bit b i) (bit_lt a i) (bit_lt b i)

xor_back : (k a b : ℕ) → a < 2 ^ k → b < 2 ^ k → bit_xor a (bit_xor a b) ≡ b
xor_back k a b h l = bits_ext k _ _ (xor_lt k a (bit_xor a b) h (xor_lt k a b h l)) l (λ i _. xor_bit_back a b i)

-- a word changed by the difference that its turned form has from a new one is the new one, turned back
pub turned_difference : (o : Order) (old new : ℕ)
    → bytes_of 8 (bit_xor old (turned o (bit_xor (turned o old) new))) ≡ bytes_of 8 (turned o new)
turned_difference o old new = bytes_of_frame 8 _ ∙ frame_ext 8 _ _ place_bit ∙ sym (bytes_of_frame 8 _)
  where
    place_bit : (p : ℕ) → p < 64 → bit (bit_xor old (turned o (bit_xor (turned o old) new))) p ≡ bit (turned o new) p
    place_bit p h =
        let at : ℕ = position o p in
        let walk : ℕ = turned o old in
        let here : bit old p ≡ bit walk at =
        ap (bit old) (sym (position_twice o p h)) ∙ sym (turned_bit o old at (position_lt o p h)) in
        xor_bit old _ p ∙ ap₂ differ here (turned_bit o _ p h) ∙ sym (xor_bit walk (bit_xor walk new) at)
        ∙ xor_bit_back walk new at ∙ sym (turned_bit o new p h)

-- a field whose differing bits are inverted holds the other value
pub field_difference : (w at size x : ℕ) → size ≤ 32
    → bit_xor w (bit_xor (bit_field w at 32) x % 2 ^ size * 2 ^ at) ≡ with_bit_field w at size x
unfolding bit_field
field_difference w at size x h =
    ap₂ bit_xor (sym (div-add-mod' w p)) (ap (λ (n : ℕ). n * p) low ∙ sym (add-zero _))
    ∙ xor_block at m (bit_xor f g) (w % p) 0 (mod-lt w (pow_pos at)) (pow_pos at)
    ∙ ap₂ (λ (a b : ℕ). a * p + b) high (xor_zero_r (w % p)) ∙ sym (with_field_digits w at size x)
  where
    p : ℕ
    p = 2 ^ at

    q : ℕ
    q = 2 ^ size

    m : ℕ
    m = w / p

    f : ℕ
    f = m % q

    g : ℕ
    g = x % q

    low : bit_xor (m % 2 ^ 32) x % q ≡ bit_xor f g
    low =
        let rest : (32 - size) + size ≡ 32 = omega arith in
        xor_mod (m % 2 ^ 32) x size ∙ ap (λ (n : ℕ). bit_xor n g) (rw rest at (mod-mod-pow m (32 - size) size))

    high : bit_xor m (bit_xor f g) ≡ m / q * q + g
    high =
        let small : f < q = mod-lt m (pow_pos size) in
        let other : g < q = mod-lt x (pow_pos size) in
        let none : 0 * q + bit_xor f g ≡ bit_xor f g = omega arith in
        ap₂ bit_xor (sym (div-add-mod' m q)) (sym none)
        ∙ xor_block size (m / q) 0 f (bit_xor f g) small (xor_lt size f g small other)
        ∙ ap₂ (λ (a b : ℕ). a * q + b) (xor_zero_r (m / q)) (xor_back size f g small other)
