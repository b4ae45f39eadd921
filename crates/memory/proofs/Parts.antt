-- Laws of `value`, `bytes_of`, `get_or`, `part` and `replaced`.
-- Assumes nothing.
use Rattle.std.proofs.Common.{◌≡◌, ℕ, zero, suc, ◌+◌, ◌-◌, ◌*◌, ◌/◌, ◌%◌, ◌^◌, ◌<◌, ◌≤◌, min, ◌⊎◌, List, [], ◌∷◌, ◌++◌, length, get_or, take, drop, set, replicate, sym, refl, ap}
use Rattle.std.proofs.Common.{◌∙◌, inl, inr, ⊎_elim, append_assoc, append-nil, le_of_suc-le-suc, mod-lt, zero-lt-suc, mul_comm, add-one, arith, length-append}
use Rattle.std.proofs.Common.{length-drop, take-append-drop, drop_of_length-le, length-take, length-take-le, get_or-drop, take_all, get_or-take, take-suc, drop-drop, take_at}
use Rattle.std.proofs.Common.{get_or-append-add, ext_get_or, drop_at, pow-add}
use native.Mathlib.Nat.{zero-mod, one-le-pow, pow-succ', div-div-eq-div-mul}
use lib.ListN.{get_or-append, get_or-eq_default}
use lib.Arith.{mod-mul}
use lib.Seq.{set_comm, sets, sets-eq, take-nil}
use borrow.Rule.Slice.PartMut.{put_mid}
use Rattle.std.specs.Int.{bytes_low_first}
use Rattle.memory.proofs.Tests.{lt_or_le}
use Rattle.memory.specs.Bytes.{Bytes, value, bytes_of, part, number_at, replaced}

-- a number is its first byte and 256 times the rest
pub number_step : (k at : ℕ) (m : List ℕ) → number_at (suc k) at m ≡ get_or m at 0 + 256 * number_at k (at + 1) m
unfolding number_at part value
number_step k at m = rw (add-one at) (go at m)
  where
    go : (at : ℕ) (m : List ℕ) → value (take (suc k) (drop at m)) ≡ get_or m at 0 + 256 * value (take k (drop (suc at) m))
    go zero [] = rw (take-nil k)
    go zero (b ∷ m) = refl
    go (suc at) [] = rw (take-nil k)
    go (suc at) (b ∷ m) = go at m

-- where the next byte's place is written otherwise
step_on : (k at next : ℕ) (m : List ℕ) → next ≡ at + 1 → number_at (suc k) at m ≡ get_or m at 0 + 256 * number_at k next m
step_on k at next m e = rw e (number_step k at m)

pub number_none : (at : ℕ) (m : List ℕ) → number_at 0 at m ≡ 0
unfolding number_at part value
number_none at m = refl

pub number_one : (at : ℕ) (m : List ℕ) → number_at 1 at m ≡ get_or m at 0
number_one at m = omega (arith, number_none (at + 1) m, number_step 0 at m)

pub number_two : (at : ℕ) (m : List ℕ) → number_at 2 at m ≡ get_or m at 0 + 256 * (get_or m (at + 1) 0)
number_two at m = omega (arith, number_one (at + 1) m, number_step 1 at m)

pub number_four : (at : ℕ) (m : List ℕ)
    → number_at 4 at m ≡ get_or m at 0 + 256 * (get_or m (at + 1) 0 + 256 * (get_or m (at + 2) 0 + 256 * (get_or m (at + 3) 0)))
number_four at m =
    omega (arith, number_step 3 at m, step_on 2 (at + 1) (at + 2) m (omega arith), step_on 1 (at + 2) (at + 3) m (omega arith), number_one (at + 3) m)

pub number_eight : (at : ℕ) (m : List ℕ)
    → number_at 8 at m ≡ get_or m at 0 + 256 * (get_or m (at + 1) 0 + 256 * (get_or m (at + 2) 0 + 256 * (get_or m (at + 3) 0
    + 256 * (get_or m (at + 4) 0 + 256 * (get_or m (at + 5) 0 + 256 * (get_or m (at + 6) 0 + 256 * (get_or m (at + 7) 0)))))))
number_eight at m =
    omega (
      arith,
      number_step 7 at m,
      step_on 6 (at + 1) (at + 2) m (omega arith),
      step_on 5 (at + 2) (at + 3) m (omega arith),
      step_on 4 (at + 3) (at + 4) m (omega arith),
      step_on 3 (at + 4) (at + 5) m (omega arith),
      step_on 2 (at + 5) (at + 6) m (omega arith),
      step_on 1 (at + 6) (at + 7) m (omega arith),
      number_one (at + 7) m,
    )

-- std's bytes of a number, from byte i on
bytes_from : (k i x : ℕ) → bytes_low_first i k x ≡ bytes_of k (x / 256 ^ i)
unfolding bytes_of
bytes_from zero i x = refl
bytes_from (suc k) zero x =
    let one : x / 256 ^ 0 ≡ x = omega arith in
    rw (one, bytes_from k 1 x) refl
bytes_from (suc k) (suc i) x =
    let step : x / 256 ^ suc i / 256 ≡ x / 256 ^ suc (suc i) =
    div-div-eq-div-mul x (256 ^ suc i) 256 ∙ ap (λ (d : ℕ). x / d) (mul_comm (256 ^ suc i) 256 ∙ sym (pow-succ' 256 (suc i))) in
    rw (step, bytes_from k (suc (suc i)) x) refl

-- the lowest k bytes of a number put there
pub put_low : (k at x : ℕ) (m : List ℕ) {f n : List ℕ} → n ≡ replaced at f m → f ≡ bytes_low_first 0 k x → n ≡ replaced at (bytes_of k x) m
put_low k at x m put low =
    let whole : x / 256 ^ 0 ≡ x = omega arith in
    put ∙ ap (λ (g : List ℕ). replaced at g m) (low ∙ bytes_from k 0 x ∙ ap (bytes_of k) whole)

pub bytes_of_length : (k x : ℕ) → length (bytes_of k x) ≡ k
unfolding bytes_of
bytes_of_length zero x = refl
bytes_of_length (suc k) x = ap suc (bytes_of_length k (x / 256))

pub part_length : (at k : ℕ) (m : List ℕ) → at + k ≤ length m → length (part at k m) ≡ k
unfolding part
part_length at k m h = simp (length-take, length-drop) (omega arith)

pub part_bytes : (at k : ℕ) (m : List ℕ) → Bytes m → Bytes (part at k m)
unfolding part
part_bytes at k m bs i =
    ⊎_elim
    (λ h. rw (get_or-take k (drop at m) i 0 h, get_or-drop at m i 0) (bs (at + i)))
    (λ (h : k ≤ i).
    let past : length (take k (drop at m)) ≤ i = simp (length-take) (omega arith) in
    omega (arith, get_or-eq_default (take k (drop at m)) 0 past))
    (lt_or_le i k)

pub replaced_length : (at : ℕ) (f m : List ℕ) → at + length f ≤ length m → length (replaced at f m) ≡ length m
unfolding replaced
replaced_length at f m h = simp (length-append, length-take, length-drop) (omega arith)

-- a run of stores replaces a part
pub sets_replaced : (at : ℕ) (f m : List ℕ) → at + length f ≤ length m → sets m at f ≡ replaced at f m
unfolding replaced
sets_replaced at f m h = sets-eq f m at h ∙ append_assoc (take at m) f (drop (at + length f) m)

-- a part that was written through its slice
pub put_replaced : (at k : ℕ) (f m : List ℕ) → length f ≡ k → put_mid at k m f ≡ replaced at f m
unfolding replaced
put_replaced at k f m e = rw (drop-drop k at m, e) refl

-- one store more
pub sets_snoc : (f m : List ℕ) (at b : ℕ) → sets m at (f ++ (b ∷ [])) ≡ set (sets m at f) (at + length f) b
sets_snoc [] m at b = let e : at + length {A = ℕ} [] ≡ at = omega arith in rw e
sets_snoc (x ∷ f) m at b =
    let e : at + length (x ∷ f) ≡ suc at + length f = omega arith in
    rw e (sets_snoc f (set m at x) (suc at) b)

-- what was put there is there
pub part_replaced : (at : ℕ) (f m : List ℕ) → at + length f ≤ length m → part at (length f) (replaced at f m) ≡ f
unfolding part replaced
part_replaced at f m h =
    let front : length (take at m) ≡ at = length-take-le at m (omega arith) in
    rw (drop_at (take at m) (f ++ drop (at + length f) m) at front) (take_at f (drop (at + length f) m) (length f) refl)

-- every byte outside is as it was
pub replaced_outside : (at : ℕ) (f m : List ℕ) (i : ℕ) → at + length f ≤ length m → (i < at) ⊎ (at + length f ≤ i)
    → get_or (replaced at f m) i 0 ≡ get_or m i 0
unfolding replaced
replaced_outside at f m i h side =
    let front : length (take at m) ≡ at = length-take-le at m (omega arith) in
    ⊎_elim
    (λ (below : i < at).
    get_or-append (take at m) (f ++ drop (at + length f) m) 0 i (omega (arith, front)) ∙ get_or-take at m i 0 below)
    (λ (above : at + length f ≤ i).
    let there : length (take at m) + (length f + (i - (at + length f))) ≡ i = omega (arith, front) in
    let same : at + length f + (i - (at + length f)) ≡ i = omega arith in
    rw there at (get_or-append-add (take at m) (f ++ drop (at + length f) m) (length f + (i - (at + length f))) 0)
    ∙ get_or-append-add f (drop (at + length f) m) (i - (at + length f)) 0
    ∙ get_or-drop (at + length f) m (i - (at + length f)) 0 ∙ ap (λ (j : ℕ). get_or m j 0) same)
    side

-- the whole of a list
pub part_whole : (k : ℕ) (m : List ℕ) → length m ≡ k → part 0 k m ≡ m
unfolding part
part_whole k m e = take_all k m (omega arith)

pub replaced_whole : (f m : List ℕ) → length f ≡ length m → replaced 0 f m ≡ f
unfolding replaced
replaced_whole f m e =
    let past : length m ≤ 0 + length f = omega arith in
    let all : drop (0 + length f) m ≡ [] = drop_of_length-le m past in
    rw all (append-nil f)

-- bytes stored one after the other: one more, and all
module _ (m f : List ℕ) (at i : ℕ) {n : List ℕ} (stored : n ≡ sets m at (take i f)) where
  pub stored_more : i < length f → set n (at + i) (get_or f i 0) ≡ sets m at (take (i + 1) f)
  stored_more h =
      let long : length (take i f) ≡ i = length-take-le i f (omega (arith, h)) in
      rw (add-one i, take-suc f i 0 h, sets_snoc (take i f) m at (get_or f i 0), long, stored)

  pub stored_all : length f ≤ i → at + length f ≤ length m → n ≡ replaced at f m
  stored_all end room = rw (stored, take_all i f end) (sets_replaced at f m room)

pub value_bytes_of : (k x : ℕ) → value (bytes_of k x) ≡ x % 256 ^ k
unfolding value bytes_of
value_bytes_of zero x = omega arith
value_bytes_of (suc k) x =
    let halves : x % (256 ^ k * 256) ≡ (x / 256 % 256 ^ k) * 256 + x % 256 =
    mod-mul x (one-le-pow k 256 (zero-lt-suc 255)) (zero-lt-suc 255) in
    rw (pow-succ', mul_comm 256 (256 ^ k), halves, value_bytes_of k (x / 256)) (omega arith)

-- what was put there is read there
pub number_replaced : (k at x : ℕ) (m : List ℕ) → at + k ≤ length m → number_at k at (replaced at (bytes_of k x) m) ≡ x % 256 ^ k
unfolding number_at
number_replaced k at x m h =
    let long : length (bytes_of k x) ≡ k = bytes_of_length k x in
    ap value (rw long at (part_replaced at (bytes_of k x) m (omega arith))) ∙ value_bytes_of k x

-- a part that lies apart from it is as it was
pub part_apart : (at : ℕ) (f m : List ℕ) (j k : ℕ) → at + length f ≤ length m → (j + k ≤ at) ⊎ (at + length f ≤ j)
    → part j k (replaced at f m) ≡ part j k m
unfolding part
part_apart at f m j k h side =
    ext_get_or 0 (take k (drop j (replaced at f m))) (take k (drop j m))
    (simp (length-take, length-drop) (ap (λ (n : ℕ). min k (n - j)) (replaced_length at f m h)))
    (λ i low.
    let inside : i < k = omega (arith, length-take k (drop j (replaced at f m))) in
    get_or-take k (drop j (replaced at f m)) i 0 inside ∙ get_or-drop j (replaced at f m) i 0
    ∙ replaced_outside at f m (j + i) h (away i inside)
    ∙ sym (get_or-drop j m i 0) ∙ sym (get_or-take k (drop j m) i 0 inside))
  where
    away : (i : ℕ) → i < k → (j + i < at) ⊎ (at + length f ≤ j + i)
    away i b = ⊎_elim (λ (before : j + k ≤ at). inl (omega arith)) (λ (after : at + length f ≤ j). inr (omega arith)) side

pub number_apart : (at : ℕ) (f m : List ℕ) (j k : ℕ) → at + length f ≤ length m → (j + k ≤ at) ⊎ (at + length f ≤ j)
    → number_at k j (replaced at f m) ≡ number_at k j m
unfolding number_at
number_apart at f m j k h side = ap value (part_apart at f m j k h side)

-- the low bytes of a number of bytes are its first bytes
pub value_take : (k : ℕ) (f : List ℕ) → Bytes f → value (take k f) ≡ value f % 256 ^ k
unfolding value
value_take zero f bs = omega arith
value_take (suc k) [] bs = sym (zero-mod (256 ^ suc k))
value_take (suc k) (b ∷ f) bs =
    let halves : (b + 256 * value f) % (256 ^ k * 256) ≡ ((b + 256 * value f) / 256 % 256 ^ k) * 256 + (b + 256 * value f) % 256 =
    mod-mul (b + 256 * value f) (one-le-pow k 256 (zero-lt-suc 255)) (zero-lt-suc 255) in
    let low : b < 256 = bs 0 in
    let rest : (b + 256 * value f) / 256 ≡ value f = omega arith in
    rw (pow-succ', mul_comm 256 (256 ^ k), halves, rest, value_take k f (λ i. bs (suc i))) (omega arith)

bytes_of_zero : (k : ℕ) → bytes_of k 0 ≡ replicate k 0
unfolding bytes_of
bytes_of_zero zero = refl
bytes_of_zero (suc k) = ap (λ (g : List ℕ). 0 ∷ g) (bytes_of_zero k)

-- a number of bytes, written in as many bytes and k more: the bytes, then zeros
pub bytes_of_value : (f : List ℕ) (k : ℕ) → Bytes f → bytes_of (length f + k) (value f) ≡ f ++ replicate k 0
unfolding value bytes_of
bytes_of_value [] k bs = let e : length {A = ℕ} [] + k ≡ k = omega arith in rw e (bytes_of_zero k)
bytes_of_value (b ∷ f) k bs =
    let low : b < 256 = bs 0 in
    let rest : (b + 256 * value f) / 256 ≡ value f = omega arith in
    let here : (b + 256 * value f) % 256 ≡ b = omega arith in
    let longer : length (b ∷ f) + k ≡ suc (length f + k) = omega arith in
    rw (longer, rest, here, bytes_of_value f k (λ i. bs (suc i)))

-- a byte has 8 bits
pub bytes_bits : (k : ℕ) → 256 ^ k ≡ 2 ^ (8 * k)
bytes_bits zero = refl
bytes_bits (suc k) =
    let more : 8 * suc k ≡ 8 + 8 * k = omega arith in
    rw (pow-succ', more, pow-add 2 8 (8 * k), bytes_bits k)

take_front : (n k : ℕ) (f : List ℕ) → n ≤ k → take n (take k f) ≡ take n f
take_front zero k f h = refl
take_front (suc n) zero f h = absurd (omega arith)
take_front (suc n) (suc k) [] h = refl
take_front (suc n) (suc k) (b ∷ f) h = ap (λ (g : List ℕ). b ∷ g) (take_front n k f (le_of_suc-le-suc h))

-- the front of a part
pub part_front : (at n k : ℕ) (m : List ℕ) → n ≤ k → take n (part at k m) ≡ part at n m
unfolding part
part_front at n k m h = take_front n k (drop at m) h

-- the first n of 8 bytes with zeros to 8, as a number
pub bytes_of_front : (n at : ℕ) (m : List ℕ) → Bytes m → n ≤ 8 → at + 8 ≤ length m
    → bytes_of 8 (number_at 8 at m % 256 ^ n) ≡ part at n m ++ replicate (8 - n) 0
unfolding number_at part
bytes_of_front n at m bs low room =
    let whole : Bytes (drop at m) = λ i. rw (get_or-drop at m i 0) (bs (at + i)) in
    let first : Bytes (take 8 (drop at m)) = part_bytes at 8 m bs in
    let front : value (take n (drop at m)) ≡ value (take 8 (drop at m)) % 256 ^ n =
    sym (ap value (take_front n 8 (drop at m) low)) ∙ value_take n (take 8 (drop at m)) first in
    let long : length (take n (drop at m)) ≡ n = part_length at n m (omega (arith, low, room)) in
    let all : length (take n (drop at m)) + (8 - n) ≡ 8 = omega (arith, long, low) in
    rw (← front) (rw all at (bytes_of_value (take n (drop at m)) (8 - n) (part_bytes at n m bs)))

-- ---- bytes stay bytes

-- a number of k bytes
pub number_lt : (k at : ℕ) (m : List ℕ) → Bytes m → number_at k at m < 256 ^ k
unfolding number_at part
number_lt k at m bs =
    let whole : Bytes (drop at m) = λ i. rw (get_or-drop at m i 0) (bs (at + i)) in
    let low : value (drop at m) % 256 ^ k < 256 ^ k = mod-lt (value (drop at m)) (one-le-pow k 256 (zero-lt-suc 255)) in
    omega (arith, low, value_take k (drop at m) whole)

pub bytes_of_bytes : (k x : ℕ) → Bytes (bytes_of k x)
unfolding bytes_of
bytes_of_bytes zero x i = zero-lt-suc 255
bytes_of_bytes (suc k) x zero = mod-lt x (zero-lt-suc 255)
bytes_of_bytes (suc k) x (suc i) = bytes_of_bytes k (x / 256) i

pub append_bytes : (f g : List ℕ) → Bytes f → Bytes g → Bytes (f ++ g)
append_bytes [] g b d i = d i
append_bytes (x ∷ f) g b d zero = b 0
append_bytes (x ∷ f) g b d (suc i) = append_bytes f g (λ j. b (suc j)) d i

pub replaced_bytes : (at : ℕ) (f m : List ℕ) → Bytes f → Bytes m → Bytes (replaced at f m)
unfolding replaced part
replaced_bytes at f m b d =
    append_bytes (take at m) (f ++ drop (at + length f) m) (part_bytes 0 at m d)
    (append_bytes f (drop (at + length f) m) b (λ i. rw (get_or-drop (at + length f) m i 0) (d (at + length f + i))))

-- ---- bytes put at places that lie apart may be put in either order

-- two parts of a list, one behind the other
abbrev pub Apart : ℕ → ℕ → ℕ → ℕ → Type 0
Apart a n b k = (a + n ≤ b) ⊎ (b + k ≤ a)

-- one store and a run of them
set_sets : (f m : List ℕ) (a j v : ℕ) → (j + 1 ≤ a) ⊎ (a + length f ≤ j) → set (sets m a f) j v ≡ sets (set m j v) a f
set_sets [] m a j v side = refl
set_sets (x ∷ f) m a j v side =
    let ne : a ≡ j → ⊥ = λ e. ⊎_elim (λ (b : j + 1 ≤ a). omega arith) (λ (b : a + length (x ∷ f) ≤ j). omega arith) side in
    set_sets f (set m a x) (suc a) j v
    (⊎_elim (λ (b : j + 1 ≤ a). inl (omega arith)) (λ (b : a + length (x ∷ f) ≤ j). inr (omega arith)) side)
    ∙ ap (λ (n : List ℕ). sets n (suc a) f) (set_comm m a j x v ne)

sets_sets : (f g m : List ℕ) (a b : ℕ) → Apart a (length f) b (length g) → sets (sets m a f) b g ≡ sets (sets m b g) a f
sets_sets f [] m a b side = refl
sets_sets f (x ∷ g) m a b side =
    ap (λ (n : List ℕ). sets n (suc b) g)
    (set_sets f m a b x (⊎_elim (λ (h : a + length f ≤ b). inr h) (λ (h : b + length (x ∷ g) ≤ a). inl (omega arith)) side))
    ∙ sets_sets f g (set m b x) a (suc b)
    (⊎_elim (λ (h : a + length f ≤ b). inl (omega arith)) (λ (h : b + length (x ∷ g) ≤ a). inr (omega arith)) side)

pub replaced_commute : (f g m : List ℕ) (a b : ℕ) → a + length f ≤ length m → b + length g ≤ length m → Apart a (length f) b (length g)
    → replaced b g (replaced a f m) ≡ replaced a f (replaced b g m)
replaced_commute f g m a b room room' side =
    sym (sets_replaced b g (replaced a f m) (omega (arith, replaced_length a f m room)))
    ∙ ap (λ (n : List ℕ). sets n b g) (sym (sets_replaced a f m room))
    ∙ sets_sets f g m a b side
    ∙ ap (λ (n : List ℕ). sets n a f) (sets_replaced b g m room')
    ∙ sets_replaced a f (replaced b g m) (omega (arith, replaced_length b g m room'))

-- ---- what stands there put there again

replaced_same : (at k : ℕ) (m : List ℕ) → at + k ≤ length m → replaced at (part at k m) m ≡ m
unfolding replaced part
replaced_same at k m room =
    let long : length (take k (drop at m)) ≡ k = part_length at k m room in
    rw (long, ← drop-drop k at m, take-append-drop k (drop at m)) (take-append-drop at m)

pub number_same : (at k : ℕ) (m : List ℕ) → Bytes m → at + k ≤ length m → replaced at (bytes_of k (number_at k at m)) m ≡ m
unfolding number_at
number_same at k m bs room =
    let long : length (part at k m) ≡ k = part_length at k m room in
    let all : length (part at k m) + 0 ≡ k = omega (arith, long) in
    let back : bytes_of k (value (part at k m)) ≡ part at k m = rw all at (bytes_of_value (part at k m) 0 (part_bytes at k m bs)) ∙ append-nil (part at k m) in
    rw back (replaced_same at k m room)
