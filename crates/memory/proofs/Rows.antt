-- Laws of a row: its length, what lies apart from it, each field that was put, that bytes stay bytes, and the order of two rows.
-- Assumes nothing.
use Rattle.std.proofs.Common.{◌≡◌, ℕ, ◌+◌, ◌%◌, ◌^◌, ◌≤◌, true, leb, ◌⊎◌, List, [], ◌∷◌, length, refl, ap, ◌∙◌, inl, inr, ⊎_elim, arith, leb-true}
use Rattle.memory.specs.Bytes.{Bytes, value, bytes_of, number_at, part, replaced}
use Rattle.memory.specs.Rows.{Field, put, rising}
use Rattle.memory.proofs.Tests.{and_split}
use Rattle.memory.proofs.Parts.{bytes_of_length, bytes_of_bytes, replaced_length, replaced_bytes, part_apart, number_replaced, Apart, replaced_commute, number_same}

-- rising fields end where they should
pub rising_end : (from end : ℕ) (fs : List Field) → rising from end fs ≡ true → from ≤ end
rising_end from end [] e = leb-true from end e
rising_end from end (f ∷ fs) e =
    let parts = and_split (leb from f.offset) (rising (f.offset + f.width) end fs) e in
    let rest : f.offset + f.width ≤ end = rising_end (f.offset + f.width) end fs parts.1 in
    omega (arith, leb-true from f.offset parts.0)

-- one field more, in a row that is there
field_length : (a end : ℕ) (f : Field) (m : List ℕ) → f.offset + f.width ≤ end → a + end ≤ length m
    → length (replaced (a + f.offset) (bytes_of f.width f.value) m) ≡ length m
field_length a end f m h room =
    replaced_length (a + f.offset) (bytes_of f.width f.value) m (omega (arith, bytes_of_length f.width f.value))

pub put_length : (a from end : ℕ) (fs : List Field) (m : List ℕ) → rising from end fs ≡ true → a + end ≤ length m
    → length (put a fs m) ≡ length m
put_length a from end [] m e room = refl
put_length a from end (f ∷ fs) m e room =
    let parts = and_split (leb from f.offset) (rising (f.offset + f.width) end fs) e in
    let ends : f.offset + f.width ≤ end = rising_end (f.offset + f.width) end fs parts.1 in
    let same = field_length a end f m ends room in
    put_length a (f.offset + f.width) end fs (replaced (a + f.offset) (bytes_of f.width f.value) m) parts.1 (omega (arith, same)) ∙ same

-- what lies before the row or after it is as it was
pub put_apart : (a from end : ℕ) (fs : List Field) (m : List ℕ) → rising from end fs ≡ true → a + end ≤ length m
    → (j w : ℕ) → (j + w ≤ a + from) ⊎ (a + end ≤ j) → part j w (put a fs m) ≡ part j w m
put_apart a from end [] m e room j w side = refl
put_apart a from end (f ∷ fs) m e room j w side =
    let parts = and_split (leb from f.offset) (rising (f.offset + f.width) end fs) e in
    let begins : from ≤ f.offset = leb-true from f.offset parts.0 in
    let ends : f.offset + f.width ≤ end = rising_end (f.offset + f.width) end fs parts.1 in
    let same = field_length a end f m ends room in
    let long = bytes_of_length f.width f.value in
    put_apart a (f.offset + f.width) end fs (replaced (a + f.offset) (bytes_of f.width f.value) m) parts.1 (omega (arith, same)) j w
    (⊎_elim (λ (b : j + w ≤ a + from). inl (omega arith)) (λ (b : a + end ≤ j). inr b) side)
    ∙ part_apart (a + f.offset) (bytes_of f.width f.value) m j w (omega (arith, long))
    (⊎_elim (λ (b : j + w ≤ a + from). inl (omega arith)) (λ (b : a + end ≤ j). inr (omega (arith, long))) side)

-- each field of the row holds the low bytes of what was put
abbrev pub Holds : ℕ → List Field → List ℕ → Type 0
Holds a [] m = Unit {0}
Holds a (f ∷ fs) m = (number_at f.width (a + f.offset) m ≡ f.value % 256 ^ f.width) × Holds a fs m

pub put_holds : (a from end : ℕ) (fs : List Field) (m : List ℕ) → rising from end fs ≡ true → a + end ≤ length m → Holds a fs (put a fs m)
unfolding number_at
put_holds a from end [] m e room = tt
put_holds a from end (f ∷ fs) m e room =
    let parts = and_split (leb from f.offset) (rising (f.offset + f.width) end fs) e in
    let ends : f.offset + f.width ≤ end = rising_end (f.offset + f.width) end fs parts.1 in
    let next : List ℕ = replaced (a + f.offset) (bytes_of f.width f.value) m in
    let same : length next ≡ length m = field_length a end f m ends room in
    let there : a + end ≤ length next = omega (arith, same) in (
      ap value (put_apart a (f.offset + f.width) end fs next parts.1 there (a + f.offset) f.width (inl (omega arith)))
          ∙ number_replaced f.width (a + f.offset) f.value m (omega arith),
      put_holds a (f.offset + f.width) end fs next parts.1 there,
    )

pub put_bytes : (a : ℕ) (fs : List Field) (m : List ℕ) → Bytes m → Bytes (put a fs m)
put_bytes a [] m b = b
put_bytes a (f ∷ fs) m b =
    put_bytes a fs (replaced (a + f.offset) (bytes_of f.width f.value) m)
    (replaced_bytes (a + f.offset) (bytes_of f.width f.value) m (bytes_of_bytes f.width f.value) b)

-- ---- rows that lie apart may be put in either order

-- bytes and a row
put_replaced : (a from end : ℕ) (fs : List Field) (m : List ℕ) → rising from end fs ≡ true → a + end ≤ length m
    → (b : ℕ) (g : List ℕ) → b + length g ≤ length m → (b + length g ≤ a + from) ⊎ (a + end ≤ b)
    → replaced b g (put a fs m) ≡ put a fs (replaced b g m)
put_replaced a from end [] m e room b g room' side = refl
put_replaced a from end (f ∷ fs) m e room b g room' side =
    let parts = and_split (leb from f.offset) (rising (f.offset + f.width) end fs) e in
    let begins : from ≤ f.offset = leb-true from f.offset parts.0 in
    let ends : f.offset + f.width ≤ end = rising_end (f.offset + f.width) end fs parts.1 in
    let long : length (bytes_of f.width f.value) ≡ f.width = bytes_of_length f.width f.value in
    let fits : a + f.offset + length (bytes_of f.width f.value) ≤ length m = omega (arith, long) in
    let same = field_length a end f m ends room in
    put_replaced a (f.offset + f.width) end fs (replaced (a + f.offset) (bytes_of f.width f.value) m) parts.1 (omega (arith, same)) b g
    (omega (arith, same))
    (⊎_elim (λ (h : b + length g ≤ a + from). inl (omega arith)) (λ (h : a + end ≤ b). inr h) side)
    ∙ ap (put a fs)
    (replaced_commute (bytes_of f.width f.value) g m (a + f.offset) b fits room'
    (⊎_elim (λ (h : b + length g ≤ a + from). inr (omega arith)) (λ (h : a + end ≤ b). inl (omega (arith, long))) side))

-- two rows of so many bytes
pub put_commute : (a b from end : ℕ) (fs gs : List Field) (m : List ℕ) → rising 0 end fs ≡ true → rising from end gs ≡ true
    → a + end ≤ length m → b + end ≤ length m → Apart a end b end → put b gs (put a fs m) ≡ put a fs (put b gs m)
put_commute a b from end fs [] m e e' room room' side = refl
put_commute a b from end fs (g ∷ gs) m e e' room room' side =
    let parts = and_split (leb from g.offset) (rising (g.offset + g.width) end gs) e' in
    let ends : g.offset + g.width ≤ end = rising_end (g.offset + g.width) end gs parts.1 in
    let long : length (bytes_of g.width g.value) ≡ g.width = bytes_of_length g.width g.value in
    let fits : b + g.offset + length (bytes_of g.width g.value) ≤ length m = omega (arith, long) in
    let same = field_length b end g m ends room' in
    ap (put b gs)
    (put_replaced a 0 end fs m e room (b + g.offset) (bytes_of g.width g.value) fits
    (⊎_elim (λ (h : a + end ≤ b). inr (omega arith)) (λ (h : b + end ≤ a). inl (omega (arith, long))) side))
    ∙ put_commute a b (g.offset + g.width) end fs gs (replaced (b + g.offset) (bytes_of g.width g.value) m) e parts.1
    (omega (arith, same)) (omega (arith, same)) side

-- ---- a row put as it was read

-- each field of the row is what is put
abbrev pub Reads : ℕ → List Field → List ℕ → Type 0
Reads a [] m = Unit {0}
Reads a (f ∷ fs) m = (f.value ≡ number_at f.width (a + f.offset) m) × Reads a fs m

pub put_same : (a from end : ℕ) (fs : List Field) (m : List ℕ) → Bytes m → rising from end fs ≡ true → a + end ≤ length m → Reads a fs m → put a fs m ≡ m
put_same a from end [] m bs e room reads = refl
put_same a from end (f ∷ fs) m bs e room reads =
    let parts = and_split (leb from f.offset) (rising (f.offset + f.width) end fs) e in
    let ends : f.offset + f.width ≤ end = rising_end (f.offset + f.width) end fs parts.1 in
    rw (reads.0, number_same (a + f.offset) f.width m bs (omega arith)) (put_same a (f.offset + f.width) end fs m bs parts.1 room reads.1)
