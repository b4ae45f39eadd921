-- Marks touch the rows of objects alone: the marks of a word may be made before or after an I-PDU's row is stored, and the marks of one I-PDU
-- more are those of a word with its bit more. Assumes nothing.
use Rattle.std.proofs.Common.{Bool, true, false, List, inl, ⊎_elim, ◌≡◌, refl, sym, ℕ, ◌+◌, ◌^◌, ◌≤◌, ◌<◌, arith, eq-eqb, ne_eqb, lt-ltb, ltb, eqb, length}
use Rattle.memory.specs.Bytes.{part}
use Rattle.memory.specs.Search.{pick, fold}
use Rattle.memory.proofs.Search.{fold_keeps, fold_view, fold_moves, fold_joins}
use Rattle.memory.proofs.Tests.{eq_or_ne, and_false}
use Rattle.bits.proofs.Numbers.{bit_of_zero, bit_above, bit_own, bit_others}
use Rattle.table.specs.declared.Counts.{Counts}
use Rattle.table.specs.Records.{most_ipdus, object_record}
use Rattle.table.specs.Check.{Shape}
use Rattle.state.specs.declared.IpduState.{IpduState}
use Rattle.state.specs.Layout.{memory_size, row_size, object_rows, object_row, ipdu_row, ipdu_state, with_ipdu_state, object_state, with_object_state}
use Rattle.state.proofs.RowLaws.{ipdu_read, ipdu_keeps_objects, ipdu_past_object, object_length, object_part, object_other, object_past_object}
use Rattle.message.specs.Objects.{marked}
use Rattle.delivery.specs.Delivery.{mark_turn, mark_objects}
use Rattle.delivery.specs.Due.{time_error, in_word, due_turn, mark_due}

-- ---- a mark on one object, where it is due: the turns of an I-PDU and of a word are such

abbrev mark_where : Bool → ℕ → ℕ → List ℕ → List ℕ
mark_where due mark i m = pick due (with_object_state m i (marked mark (object_state m i))) m

module _ (mark i : ℕ) (m : List ℕ) (room : object_row i + row_size ≤ length m) where
  mark_length : (due : Bool) → length (mark_where due mark i m) ≡ length m
  mark_length true = object_length m i (marked mark (object_state m i)) room
  mark_length false = refl

  mark_part : (due : Bool) (j w : ℕ) → j + w ≤ object_rows → part j w (mark_where due mark i m) ≡ part j w m
  mark_part true j w before = object_part m i (marked mark (object_state m i)) room j w (inl (omega arith))
  mark_part false j w before = refl

  ipdu_past_mark : (due : Bool) (k : ℕ) (s : IpduState) → k < most_ipdus
      → with_ipdu_state (mark_where due mark i m) k s ≡ mark_where due mark i (with_ipdu_state m k s)
  ipdu_past_mark true k s low =
      rw (ipdu_keeps_objects m k s (omega arith) low i) (ipdu_past_object m i (marked mark (object_state m i)) room k s low)
  ipdu_past_mark false k s low = refl

  mark_past_mark : (due due' : Bool) (mark' j : ℕ) → (i ≡ j → ⊥) → object_row j + row_size ≤ length m
      → mark_where due' mark' j (mark_where due mark i m) ≡ mark_where due mark i (mark_where due' mark' j m)
  mark_past_mark true true mark' j ne there =
      rw (
        object_other m i (marked mark (object_state m i)) room j (λ e. ne (sym e)),
        object_other m j (marked mark' (object_state m j)) there i ne,
      )
      (object_past_object m i (marked mark (object_state m i)) room j (marked mark' (object_state m j)) ne there)
  mark_past_mark true false mark' j ne there = refl
  mark_past_mark false true mark' j ne there = refl
  mark_past_mark false false mark' j ne there = refl

-- ---- the marks of a word

abbrev Long : List ℕ → Type 0
Long m = memory_size ≤ length m

module _ (t : List ℕ) (c : Counts) (shape : Shape t c) where
  -- the I-PDU of an object, and the error that it gets
  abbrev owner : ℕ → ℕ
  owner i = (object_record t c.ipdus i).ipdu

  abbrev error : ℕ → ℕ
  error i = time_error (object_record t c.ipdus i)

  row_there : (i : ℕ) (m : List ℕ) → i < c.objects → Long m → object_row i + row_size ≤ length m
  row_there i m h long = omega (arith, h, shape.objects)

  long_mark : (k mark i : ℕ) → i < c.objects → (m : List ℕ) → Long m → Long (mark_turn t c k mark i m)
  long_mark k mark i h m long = omega (arith, mark_length mark i m (row_there i m h long) (eqb (owner i) k))

  module _ (word : ℕ) where
    long_due : (i : ℕ) → i < c.objects → (m : List ℕ) → Long m → Long (due_turn t c word i m)
    long_due i h m long = omega (arith, mark_length (error i) i m (row_there i m h long) (in_word word (owner i)))

    -- what lies before the rows of the objects is as it was
    pub due_part : (m : List ℕ) → Long m → (j w : ℕ) → j + w ≤ object_rows → part j w (mark_due t c word m) ≡ part j w m
    unfolding mark_due
    due_part m long j w before =
        fold_view (part j w) c.objects (due_turn t c word) m
        (λ i h.
        let so_far = fold i (due_turn t c word) m in
        let there : Long so_far = fold_keeps Long i (due_turn t c word) (λ k b. long_due k (omega (arith, b, h))) m long in
        mark_part (error i) i so_far (row_there i so_far h there) (in_word word (owner i)) j w before)

    pub due_keeps_ipdus : (m : List ℕ) → Long m → (k : ℕ) → k < most_ipdus → ipdu_state (mark_due t c word m) k ≡ ipdu_state m k
    due_keeps_ipdus m long k low = ipdu_read (mark_due t c word m) m k (λ o w h. due_part m long (ipdu_row k + o) w (omega arith))

    pub ipdu_past_due : (m : List ℕ) → Long m → (k : ℕ) (s : IpduState) → k < most_ipdus
        → with_ipdu_state (mark_due t c word m) k s ≡ mark_due t c word (with_ipdu_state m k s)
    unfolding mark_due
    ipdu_past_due m long k s low =
        fold_moves Long (λ (n : List ℕ). with_ipdu_state n k s) c.objects (due_turn t c word) long_due
        (λ i h n there. ipdu_past_mark (error i) i n (row_there i n h there) (in_word word (owner i)) k s low) m long

  -- no I-PDU is in the word 0
  pub none_due : (m : List ℕ) → mark_due t c 0 m ≡ m
  unfolding mark_due
  none_due m =
      fold_view (λ (n : List ℕ). n) c.objects (due_turn t c 0) m (λ i h. rw (bit_of_zero (owner i), and_false (ltb (owner i) most_ipdus)))

  -- one I-PDU more, where the error of its objects is this mark
  module _ (k mark word : ℕ) (low : k < most_ipdus) (fits : word < 2 ^ k) (own : (i : ℕ) → i < c.objects → owner i ≡ k → mark ≡ error i) where
    turns_join : (i : ℕ) → i < c.objects → (m : List ℕ) → Long m → mark_turn t c k mark i (due_turn t c word i m) ≡ due_turn t c (word + 2 ^ k) i m
    turns_join i h m long =
        ⊎_elim
        (λ (e : owner i ≡ k).
        rw (own i h e, e, bit_above k word k fits (omega arith), bit_own k word fits, lt-ltb k most_ipdus low, eq-eqb k k refl))
        (λ (ne : owner i ≡ k → ⊥). rw (ne_eqb (owner i) k ne, bit_others k word (owner i) fits ne))
        (eq_or_ne (owner i) k)

    pub one_more_due : (m : List ℕ) → Long m → mark_objects t c k mark (mark_due t c word m) ≡ mark_due t c (word + 2 ^ k) m
    unfolding mark_objects mark_due
    one_more_due m long =
        fold_joins Long c.objects (due_turn t c word) (mark_turn t c k mark) (due_turn t c (word + 2 ^ k)) (long_due word) (long_mark k mark)
        (λ j i b h n there.
        mark_past_mark mark j n (row_there j n (omega (arith, b, h)) there) (eqb (owner j) k) (in_word word (owner i)) (error i) i
        (λ e. omega (arith, e, b)) (row_there i n h there))
        turns_join m long
