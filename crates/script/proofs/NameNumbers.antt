-- A name of at most sixteen letters can be spelt back from its numbers, so `is_named` is `same`.
-- Assumes nothing.
use Rattle.std.proofs.Common.{◌≡◌, ℕ, zero, suc, ◌+◌, ◌-◌, ◌<◌, ◌≤◌, min, Bool, true, false, ◌&&◌, eqb, ltb, List, [], ◌∷◌, ◌++◌, length, sym, refl, ◌∙◌, ⊎_elim, append_assoc}
use Rattle.std.proofs.Common.{append-nil, suc-le-suc, zero-le, zero-lt-suc, arith, length-append, ltb-true, le-ltb, lt-ltb, eq-eqb, eqb-true}
use Rattle.memory.proofs.Tests.{lt_or_le, and_split, each_true, true_or_false, true_not_false}
use Rattle.memory.specs.Bytes.{Bytes}
use Rattle.script.proofs.BytesDown.{down_none, down_more}
use Rattle.script.proofs.CharacterLists.{same_itself, same_equal}
use Rattle.script.specs.declared.Name.{Name}
use Rattle.script.specs.Reader.{bytes_down, shifted, with_letter, no_name, name_from, is_named}
use Rattle.script.specs.Reading.{same}

-- ---- how many letters

letter_counted : (n : Name) (b : ℕ) → (with_letter n b).letters ≡ min 17 (n.letters + 1)
letter_counted n b =
    ⊎_elim
    (λ (low : n.letters < 8). rw (lt-ltb n.letters 8 low) (omega arith))
    (λ (high : 8 ≤ n.letters).
    ⊎_elim
    (λ (low : n.letters < 16). rw (le-ltb n.letters 8 high, lt-ltb n.letters 16 low) (omega arith))
    (λ (past : 16 ≤ n.letters). rw (le-ltb n.letters 8 high, le-ltb n.letters 16 past) (omega arith))
    (lt_or_le n.letters 16))
    (lt_or_le n.letters 8)

pub letter_positive : (n : Name) (b : ℕ) → 0 < (with_letter n b).letters
letter_positive n b = omega (arith, letter_counted n b)

letters_counted : (n : Name) (f : List ℕ) → n.letters ≤ 17 → (name_from n f).letters ≡ min 17 (n.letters + length f)
letters_counted n [] low = omega arith
letters_counted n (b ∷ f) low =
    let one = letter_counted n b in
    let all = letters_counted (with_letter n b) f (omega arith) in
    omega arith

-- ---- the letters themselves

spelling : Name → List ℕ
spelling n = bytes_down (min n.letters 8) n.head ++ bytes_down (n.letters - 8) n.tail

-- the numbers stand for these letters
record Spells (n : Name) (f : List ℕ) : Type 0 where
  counted : n.letters ≡ length f
  spelt : spelling n ≡ f

shifted_more : (k x b : ℕ) → k ≤ 7 → b < 256 → bytes_down (suc k) (shifted x b) ≡ bytes_down k x ++ b ∷ []
shifted_more k x b room low = down_more k x (shifted x b) b room (omega arith) (omega arith)

spells_more : (n : Name) (f : List ℕ) (b : ℕ) → Spells n f → b < 256 → length f < 16 → Spells (with_letter n b) (f ++ b ∷ [])
unfolding spelling
spells_more n f b s low room =
    let count : n.letters ≡ length f = s.counted in
    ⊎_elim
    (λ (front : n.letters < 8).
    let now : min n.letters 8 ≡ n.letters = omega arith in
    let none : n.letters - 8 ≡ 0 = omega arith in
    let then : min (n.letters + 1) 8 ≡ suc n.letters = omega arith in
    let still : n.letters + 1 - 8 ≡ 0 = omega arith in
    let before : bytes_down n.letters n.head ≡ f = rw (now, none, down_none, append-nil) at s.spelt in
    rw (lt-ltb n.letters 8 front) (record {
      counted = rw (length-append) (omega arith);
      spelt = rw (then, still, down_none, append-nil, shifted_more n.letters n.head b (omega arith) low, before);
    }))
    (λ (back : 8 ≤ n.letters).
    let now : min n.letters 8 ≡ 8 = omega arith in
    let then : min (n.letters + 1) 8 ≡ 8 = omega arith in
    let next : n.letters + 1 - 8 ≡ suc (n.letters - 8) = omega arith in
    let before : bytes_down 8 n.head ++ bytes_down (n.letters - 8) n.tail ≡ f = rw now at s.spelt in
    rw (le-ltb n.letters 8 back, lt-ltb n.letters 16 (omega arith)) (record {
      counted = rw (length-append) (omega arith);
      spelt = rw (then, next, shifted_more (n.letters - 8) n.tail b (omega arith) low)
          (rw (← append_assoc (bytes_down 8 n.head) (bytes_down (n.letters - 8) n.tail) (b ∷ []), before));
    }))
    (lt_or_le n.letters 8)

spells_from : (n : Name) (f g : List ℕ) → Spells n f → Bytes g → length f + length g ≤ 16 → Spells (name_from n g) (f ++ g)
spells_from n f [] s bs room = rw (append-nil f) s
spells_from n f (b ∷ g) s bs room =
    let long : length (f ++ b ∷ []) ≡ length f + 1 = length-append f (b ∷ []) in
    rw (append_assoc f (b ∷ []) g) at
    (spells_from (with_letter n b) (f ++ b ∷ []) g (spells_more n f b s (bs 0) (omega arith)) (λ i. bs (suc i)) (omega arith))

spells_name : (f : List ℕ) → Bytes f → length f ≤ 16 → spelling (name_from no_name f) ≡ f
unfolding spelling bytes_down
spells_name f bs room = (spells_from no_name [] f (record { counted = refl; spelt = refl }) bs (omega arith)).spelt

-- ---- a name of at most sixteen bytes is told by its numbers

abbrev pub are_letters : ℕ → List ℕ → Bool
are_letters k [] = true
are_letters zero (b ∷ f) = false
are_letters (suc k) (b ∷ f) = ltb b 256 && are_letters k f

letters_long : (k : ℕ) (f : List ℕ) → are_letters k f ≡ true → length f ≤ k
letters_long k [] e = zero-le
letters_long zero (b ∷ f) e = let z : ◌≡◌ {A = ℕ} 0 1 = cc in omega arith
letters_long (suc k) (b ∷ f) e = suc-le-suc (letters_long k f (and_split (ltb b 256) (are_letters k f) e).1)

letters_bytes : (k : ℕ) (f : List ℕ) → are_letters k f ≡ true → Bytes f
letters_bytes k [] e i = zero-lt-suc 255
letters_bytes zero (b ∷ f) e i = let z : ◌≡◌ {A = ℕ} 0 1 = cc in omega arith
letters_bytes (suc k) (b ∷ f) e zero = ltb-true b 256 (and_split (ltb b 256) (are_letters k f) e).0
letters_bytes (suc k) (b ∷ f) e (suc i) = letters_bytes k f (and_split (ltb b 256) (are_letters k f) e).1 i

named_equal : (f w : List ℕ) → Bytes f → are_letters 16 w ≡ true → is_named (name_from no_name f) w ≡ true → f ≡ w
unfolding spelling
named_equal f w bs e t =
    let n : Name = name_from no_name f in
    let m : Name = name_from no_name w in
    let three = each_true (eqb n.letters m.letters) (eqb n.head m.head ∷ eqb n.tail m.tail ∷ []) t in
    let letters : n.letters ≡ m.letters = eqb-true n.letters m.letters three.0 in
    let head : n.head ≡ m.head = eqb-true n.head m.head three.1.0 in
    let tail : n.tail ≡ m.tail = eqb-true n.tail m.tail three.1.1 in
    let short : length w ≤ 16 = letters_long 16 w e in
    let brief : length f ≤ 16 = omega (arith, letters_counted no_name f zero-le, letters_counted no_name w zero-le) in
    let spelt : spelling n ≡ spelling m = rw (letters, head, tail) in
    sym (spells_name f bs brief) ∙ spelt ∙ spells_name w (letters_bytes 16 w e) short

named_itself : (w : List ℕ) → is_named (name_from no_name w) w ≡ true
named_itself w =
    let m : Name = name_from no_name w in
    rw (eq-eqb m.letters m.letters refl, eq-eqb m.head m.head refl, eq-eqb m.tail m.tail refl)

pub named_same : (f w : List ℕ) → Bytes f → are_letters 16 w ≡ true → is_named (name_from no_name f) w ≡ same f w
named_same f w bs e =
    ⊎_elim
    (λ (t : same f w ≡ true). rw (t, same_equal f w t) (named_itself w))
    (λ (t : same f w ≡ false).
    ⊎_elim
    (λ (named : is_named (name_from no_name f) w ≡ true).
    absurd (true_not_false (rw (named_equal f w bs e named) (same_itself w)) t))
    (λ (named : is_named (name_from no_name f) w ≡ false). named ∙ sym t)
    (true_or_false (is_named (name_from no_name f) w)))
    (true_or_false (same f w))
