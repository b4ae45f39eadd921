-- Of which entry a reading's own bits are (W-205): in bytes whose bits are the book's, the reading stored last gives its low bits, and any
-- reading its own bit at each place that no value kept since covers.
-- Assumes nothing.
use Rattle.std.proofs.Common.{Bool, true, false, List, [], ◌∷◌, ⊎_elim, ◌≡◌, refl, sym, ap, ◌∙◌, ℕ, ◌*◌, ◌<◌, arith, eqb-true, eq-eqb, ne_eqb, eqb}
use Rattle.memory.proofs.Search.{Found, found, nowhere, there, any_some, least_at}
use Rattle.memory.proofs.Tests.{or_split, eq_or_ne, true_or_false, true_not_false}
use Rattle.bits.specs.declared.Order.{Order}
use Rattle.bits.specs.Bits.{bit, frame_bit, place, written, unpacked, owns, extended, read_back}
use Rattle.bits.proofs.RoundTrip.{written_own}
use Rattle.bits.proofs.Extension.{extended_bit}
use Rattle.bits.proofs.Numbers.{bit_lt, number_ext, number_bit, number_bits}
use Rattle.bits.proofs.Places.{Run, place_inside}
use Rattle.table.specs.declared.Counts.{Counts}
use Rattle.table.specs.declared.ObjectRecord.{ObjectRecord}
use Rattle.table.specs.Records.{sending, absent, ipdu_record, object_record}
use Rattle.table.specs.Rules.{order_of, signed_of}
use Rattle.table.specs.Check.{Right}
use Rattle.table.proofs.Accepted.{usable}
use Rattle.calls.proofs.Records.{object_there, ipdu_short}
use Rattle.trace.specs.Book.{Entry, Book, sends, last_of, keeps, after_send, owns_ipdu_bit, message_bit, book_bit}
use Rattle.trace.specs.RoundTrip.{reading_in, reading_of, stored_last, covered_since, message_place, LastReads, OlderReads, Uncovered}
use Rattle.trace.proofs.Entries.{has, AllSent, Full}

-- at the place of message bit n stands that bit of the value
message_bit_lem : (r : ObjectRecord) (v n : ℕ) → Run (order_of r.order) r.start r.size → n < r.size → message_bit r v (message_place r n) ≡ bit v n
message_bit_lem r v n run h = cases (found r.size test)
  where
    o : Order
    o = order_of r.order

    test : ℕ → Bool
    test i = eqb (place (order_of r.order) r.start i) (place (order_of r.order) r.start n)

    cases : Found r.size test → message_bit r v (place (order_of r.order) r.start n) ≡ bit v n
    cases (nowhere none) = absurd (true_not_false (eq-eqb (place o r.start n) (place o r.start n) refl) (none n h))
    cases (there i low before e) =
        ap (bit v) (least_at r.size test i low before e)
        ∙ sym (written_own o r.start v [] r.size i run low)
        ∙ ap (written o r.start v [] r.size) (eqb-true (place o r.start i) (place o r.start n) e)
        ∙ written_own o r.start v [] r.size n run h

module _ (t : List ℕ) (c : Counts) (k : ℕ) where
  -- a bit that an object covers, and no entry since its last one does, is that of its last entry
  own_bit : (i p : ℕ) → owns_ipdu_bit (object_record t c.ipdus i) k p ≡ true → (es : List Entry) → has i es ≡ true → covered_since t c i k p es ≡ false
      → book_bit t c es k p ≡ message_bit (object_record t c.ipdus i) (last_of i es) p
  own_bit i p mine [] h free = absurd (true_not_false {b = true} refl (sym h))
  own_bit i p mine (e ∷ es) h free =
      ⊎_elim
      (λ (y : e.object ≡ i). rw (y, mine, eq-eqb i i refl))
      (λ (ne : e.object ≡ i → ⊥).
      let other = ne_eqb e.object i ne in
      let not_since = or_split (owns_ipdu_bit (object_record t c.ipdus e.object) k p) (covered_since t c i k p es) (rw other at free) in
      rw (not_since.0, other) (own_bit i p mine es (rw other at h) not_since.1))
      (eq_or_ne e.object i)

  -- nothing covers the reading stored last
  last_uncovered : (i p : ℕ) (es : List Entry) → stored_last t c k i es ≡ true → covered_since t c i k p es ≡ false
  last_uncovered i p [] last = refl
  last_uncovered i p (e ∷ es) last =
      ⊎_elim
      (λ (y : eqb e.object i ≡ true). rw y)
      (λ (n : eqb e.object i ≡ false).
      ⊎_elim
      (λ (here : eqb (object_record t c.ipdus e.object).ipdu k ≡ true). absurd (true_not_false (rw here at last) n))
      (λ (away : eqb (object_record t c.ipdus e.object).ipdu k ≡ false). rw (n, away) (last_uncovered i p es (rw away at last)))
      (true_or_false (eqb (object_record t c.ipdus e.object).ipdu k)))
      (true_or_false (eqb e.object i))

  -- it is a send object of that I-PDU
  pub last_sent : (i : ℕ) (es : List Entry) → AllSent t c es → stored_last t c k i es ≡ true → (sends t c i ≡ true) × ((object_record t c.ipdus i).ipdu ≡ k)
  last_sent i [] all last = absurd (true_not_false {b = true} refl (sym last))
  last_sent i (e ∷ es) all last =
      ⊎_elim
      (λ (here : eqb (object_record t c.ipdus e.object).ipdu k ≡ true).
      let same : e.object ≡ i = eqb-true e.object i (rw here at last) in
      (rw same at all.0, rw same at (eqb-true (object_record t c.ipdus e.object).ipdu k here)))
      (λ (away : eqb (object_record t c.ipdus e.object).ipdu k ≡ false). last_sent i es all.1 (rw away at last))
      (true_or_false (eqb (object_record t c.ipdus e.object).ipdu k))

-- a dropped value covers nothing
pub dropped_covers_nothing : (t : List ℕ) (c : Counts) (b : Book) (i v : ℕ) → keeps t c b i v ≡ false → (j k p : ℕ)
    → covered_since t c j k p (after_send t c b i v).entries ≡ covered_since t c j k p b.entries
dropped_covers_nothing t c b i v drops j k p = rw drops

-- ---- bytes of I-PDU k whose bits are the book's

module _ (t : List ℕ) (c : Counts) (right : Right t c) (k : ℕ) (in_table : k < c.ipdus) (es : List Entry) (full : Full t c es) (f : List ℕ)
    (bits : (p : ℕ) → p < 8 * (ipdu_record t k).length → frame_bit f p ≡ book_bit t c es k p) where
  -- at a place that no value kept since covers stands the reading's own bit
  own_place : (i n : ℕ) → sends t c i ≡ true → (object_record t c.ipdus i).ipdu ≡ k → n < (object_record t c.ipdus i).size
      → covered_since t c i k (message_place (object_record t c.ipdus i) n) es ≡ false
      → frame_bit f (message_place (object_record t c.ipdus i) n) ≡ bit (last_of i es) n
  own_place i n s at low free =
      let r = object_record t c.ipdus i in
      let o = order_of r.order in
      let p = message_place r n in
      let u = usable t c right i (object_there t c sending i s) in
      let some : eqb r.ipdu absent ≡ false = ne_eqb r.ipdu absent (omega (arith, at, in_table, right.shape.ipdus)) in
      let mine : owns o r.start r.size p ≡ true = unfold owns in any_some r.size (λ l. eqb (place o r.start l) p) n low (eq-eqb p p refl) in
      bits p (place_inside o r.start r.size (ipdu_record t k).length n (ipdu_short t c right k in_table) (rw at at (u.room some)) low)
      ∙ own_bit t c k i p (rw (eq-eqb r.ipdu k at) mine) es (full.each i s) free
      ∙ message_bit_lem r (last_of i es) n (record { begins = u.start; ends = u.slot.inside }) low

  pub older_reads : OlderReads t c es k f
  unfolding unpacked frame_bit
  older_reads i n s at low free =
      let r = object_record t c.ipdus i in
      let most = (usable t c right i (object_there t c sending i s)).slot.most in
      extended_bit (signed_of r.order) r.size (unpacked (order_of r.order) r.start r.size f) n low most
      ∙ number_bit (λ l. frame_bit f (message_place r l)) (λ l. bit_lt _ _) r.size n low
      ∙ own_place i n s at low free

  pub whole_reads : (i : ℕ) → sends t c i ≡ true → (object_record t c.ipdus i).ipdu ≡ k → Uncovered t c i es
      → reading_in (object_record t c.ipdus i) f ≡ reading_of (object_record t c.ipdus i) (last_of i es)
  unfolding unpacked read_back
  whole_reads i s at free =
      let r = object_record t c.ipdus i in
      ap (extended (signed_of r.order) r.size)
      (number_ext r.size (λ n. frame_bit f (message_place r n)) (bit (last_of i es)) (λ n low. own_place i n s at low (rw at at (free n low)))
      ∙ number_bits r.size (last_of i es))

  pub last_reads : LastReads t c es k f
  last_reads i last =
      let here = last_sent t c k i es full.only last in
      whole_reads i here.0 here.1 (λ n low. rw here.1 (last_uncovered t c k i (message_place (object_record t c.ipdus i) n) es last))
