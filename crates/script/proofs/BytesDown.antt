-- Laws of `bytes_down`: a number that was moved up by a byte ends in that byte, and a number is put as zeros and the last of its eight bytes.
-- Assumes nothing.
use Rattle.std.proofs.Common.{◌≡◌, ℕ, zero, suc, ◌+◌, ◌-◌, ◌*◌, ◌/◌, ◌%◌, ◌^◌, ◌<◌, ◌≤◌, min, List, [], ◌∷◌, ◌++◌, length, drop, replicate, refl, sym, ◌∙◌, ap, ⊎_elim}
use Rattle.std.proofs.Common.{zero-lt-suc, mul_comm, arith, length-append, append-nil, append_assoc, take, take_at, drop_at, drop-drop, take_all, length-take-le, length-drop, add-one, w64}
use Rattle.std.proofs.Math.Numerals.{one-add}
use Rattle.std.proofs.lemmas.List.{replicate_more, length-replicate}
use lib.Seq.{sets, sets-eq}
use borrow.Rule.Slice.PartMut.{put_mid}
use Rattle.std.specs.Int.{to_be_bytes, bytes_high_first, byte_at}
use native.Mathlib.Nat.{pow-succ', one-le-pow, div-div-eq-div-mul}
use lib.Arith.{mod-mul}
use Rattle.memory.proofs.Tests.{lt_or_le}
use Rattle.memory.specs.Bytes.{Bytes}
use Rattle.script.proofs.CharacterLists.{bytes_more}
use Rattle.script.specs.Reader.{bytes_down}

pub down_none : (x : ℕ) → bytes_down 0 x ≡ []
unfolding bytes_down
down_none x = refl

-- the low bytes don't see what is above them
down_low : (k j x : ℕ) → bytes_down k (x % 256 ^ (k + j)) ≡ bytes_down k x
unfolding bytes_down
down_low zero j x = refl
down_low (suc k) j x =
    let more : suc k + j ≡ suc (k + j) = omega arith in
    let halves : x % (256 ^ (k + j) * 256) ≡ (x / 256 % 256 ^ (k + j)) * 256 + x % 256 =
    mod-mul x (one-le-pow (k + j) 256 (zero-lt-suc 255)) (zero-lt-suc 255) in
    let rest : ((x / 256 % 256 ^ (k + j)) * 256 + x % 256) / 256 ≡ x / 256 % 256 ^ (k + j) = omega arith in
    let here : ((x / 256 % 256 ^ (k + j)) * 256 + x % 256) % 256 ≡ x % 256 = omega arith in
    rw (more, pow-succ' 256 (k + j), mul_comm 256 (256 ^ (k + j)), halves, rest, here, down_low k j (x / 256))

-- a number that ends in the byte b, with the low 56 bits of x above it
pub down_more : (k x y b : ℕ) → k ≤ 7 → y / 256 ≡ x % (2 ^ 56) → y % 256 ≡ b → bytes_down (suc k) y ≡ bytes_down k x ++ b ∷ []
unfolding bytes_down
down_more k x y b room above low =
    let all : k + (7 - k) ≡ 7 = omega arith in
    let same : bytes_down k (x % (2 ^ 56)) ≡ bytes_down k x = rw all at (down_low k (7 - k) x) in
    rw (above, low, same)

pub down_length : (k x : ℕ) → length (bytes_down k x) ≡ k
unfolding bytes_down
down_length zero x = refl
down_length (suc k) x = rw (length-append, down_length k (x / 256)) (omega arith)

pub down_bytes : (k x : ℕ) → Bytes (bytes_down k x)
unfolding bytes_down
down_bytes zero x i = zero-lt-suc 255
down_bytes (suc k) x i = bytes_more (bytes_down k (x / 256)) (x % 256) (down_bytes k (x / 256)) (omega arith) i

-- ---- the bytes above the low ones, and std's bytes of a number

-- the bytes above the low k, and these
down_split : (j k x : ℕ) → bytes_down (j + k) x ≡ bytes_down j (x / 256 ^ k) ++ bytes_down k x
unfolding bytes_down
down_split j zero x =
    let all : j + 0 ≡ j = omega arith in
    let one : x / 256 ^ 0 ≡ x = omega arith in
    rw (all, one) (sym (append-nil (bytes_down j x)))
down_split j (suc k) x =
    let more : j + suc k ≡ suc (j + k) = omega arith in
    let above : x / 256 ^ suc k ≡ x / 256 / 256 ^ k =
    ap (λ (d : ℕ). x / d) (pow-succ' 256 k) ∙ sym (div-div-eq-div-mul x 256 (256 ^ k)) in
    rw (more, above, down_split j k (x / 256)) (append_assoc (bytes_down j (x / 256 / 256 ^ k)) (bytes_down k (x / 256)) (x % 256 ∷ []))

-- the last bytes are those of the low part
pub low_bytes : (j k x : ℕ) → drop j (bytes_down (k + j) x) ≡ bytes_down k x
low_bytes j k x =
    let swap : k + j ≡ j + k = omega arith in
    rw (swap, down_split j k x) (drop_at (bytes_down j (x / 256 ^ k)) (bytes_down k x) j (down_length j (x / 256 ^ k)))

byte_is : (k x : ℕ) → byte_at k x ≡ x / 256 ^ k % 256
byte_is zero x = omega arith
byte_is (suc k) x = refl

high_first : (k x : ℕ) → bytes_high_first k x ≡ bytes_down k x
unfolding bytes_down
high_first zero x = refl
high_first (suc k) x =
    let highest : bytes_down (suc k) x ≡ bytes_down 1 (x / 256 ^ k) ++ bytes_down k x = rw (one-add k) at (down_split 1 k x) in
    rw (byte_is k x, high_first k x) (sym highest)

-- std's bytes of a number, the highest first
eight_bytes : (x : ℕ) → to_be_bytes w64 x ≡ bytes_down 8 x
eight_bytes x = high_first 8 x

-- 0 has no other bytes
down_zeros : (j : ℕ) → bytes_down j 0 ≡ replicate j 0
unfolding bytes_down
down_zeros zero = refl
down_zeros (suc j) = rw (down_zeros j) (replicate_more j 0 ∙ ap (λ (n : ℕ). replicate n 0) (add-one j))

-- the low k bytes of a number of 64 bits: zeros, and the last of its eight
pub down_eight : (k x : ℕ) → x < 2 ^ 64 → replicate (k - min k 8) 0 ++ drop (8 - min k 8) (to_be_bytes w64 x) ≡ bytes_down k x
down_eight k x low =
    ⊎_elim
    (λ (less : k < 8).
    let n : min k 8 ≡ k = omega (arith, less) in
    let none : k - k ≡ 0 = omega arith in
    let all : k + (8 - k) ≡ 8 = omega (arith, less) in
    rw (n, none, eight_bytes x) (rw all at (low_bytes (8 - k) k x)))
    (λ (more : 8 ≤ k).
    let n : min k 8 ≡ 8 = omega (arith, more) in
    let all : k - 8 + 8 ≡ k = omega (arith, more) in
    let above : x / 256 ^ 8 ≡ 0 = omega (arith, low) in
    rw (n, eight_bytes x, ← down_zeros (k - 8), ← above) (sym (rw all at (down_split (k - 8) 8 x))))
    (lt_or_le k 8)

-- ---- a number that is put at the start of a list

put_two : (j n : ℕ) (z f m : List ℕ) → length z ≡ j → length f ≡ n → j + n ≤ length m → put_mid j n (z ++ drop j m) f ≡ sets m 0 (z ++ f)
put_two j n z f m front back room =
    let long : 0 + length (z ++ f) ≡ j + n = simp length-append (omega (arith, front, back)) in
    let stored : sets m 0 (z ++ f) ≡ (z ++ f) ++ drop (0 + length (z ++ f)) m = sets-eq (z ++ f) m 0 (omega (arith, long, room)) in
    rw (take_at z (drop j m) j front, drop_at z (drop j m) j front, drop-drop n j m, stored, long) (sym (append_assoc z f (drop (j + n) m)))

-- zeros are put first, and then the last bytes of the number's eight
pub spelt_put : (k n x : ℕ) (m : List ℕ) {z b f : List ℕ} → n ≡ min k 8 → x < 2 ^ 64 → k ≤ length m → z ≡ replicate (length (take (k - n) m)) 0 → b ≡ to_be_bytes w64 x
    → f ≡ take (8 - (8 - n)) (drop (8 - n) b) → put_mid (k - n) (k - (k - n)) (z ++ drop (k - n) m) f ≡ sets m 0 (bytes_down k x)
spelt_put k n x m {z} {b} {f} least low room zeros eight last =
    let first : length (take (k - n) m) ≡ k - n = length-take-le (k - n) m (omega (arith, room)) in
    let z_is : z ≡ replicate (k - n) 0 = rw first at zeros in
    let z_length : length z ≡ k - n = rw z_is (length-replicate (k - n) 0) in
    let b_length : length b ≡ 8 = rw eight refl in
    let all : length (drop (8 - n) b) ≤ 8 - (8 - n) = simp length-drop (omega (arith, b_length)) in
    let f_is : f ≡ drop (8 - n) b = last ∙ take_all (8 - (8 - n)) (drop (8 - n) b) all in
    let f_length : length f ≡ k - (k - n) = rw f_is (simp length-drop (omega (arith, b_length, least))) in
    let spelt : z ++ f ≡ bytes_down k x = rw (z_is, f_is, eight, least) (down_eight k x low) in
    put_two (k - n) (k - (k - n)) z f m z_length f_length (omega (arith, room)) ∙ ap (λ (g : List ℕ). sets m 0 g) spelt
