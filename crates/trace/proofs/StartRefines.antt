-- After a start working memory refines the book of demand 3 as a start opens it.
-- Assumes nothing.
use Rattle.std.proofs.Common.{true, false, List, [], inl, inr, ⊎_elim, ◌≡◌, refl, sym, ap, subst, ◌∙◌, ℕ, zero, suc, ◌+◌, ◌/◌, ◌%◌, ◌^◌, ◌≤◌, ◌<◌, not-suc-le-zero, arith, eqb-true}
use Rattle.std.proofs.Common.{eq-eqb, ne_eqb, eqb, length, drop, get_or-take, get_or-drop}
use native.Mathlib.Nat.{zero-div}
use borrow.Author.Tests.{eqb-false}
use Rattle.memory.specs.Bytes.{Bytes, part}
use Rattle.memory.specs.Search.{fold}
use Rattle.memory.proofs.Search.{fold_view}
use Rattle.memory.proofs.Tests.{eq_or_ne, true_or_false}
use Rattle.bits.specs.Bits.{bit, frame_bit}
use Rattle.table.specs.declared.Counts.{Counts}
use Rattle.config.specs.declared.Direction.{Direction}
use Rattle.config.specs.declared.Direction.TheVariants.{Send, Receive}
use Rattle.table.specs.Records.{sending, ipdu_record, object_record}
use Rattle.table.specs.Check.{depths, Right}
use Rattle.config.specs.Decode.{object_of}
use Rattle.state.specs.declared.ObjectState.{ObjectState}
use Rattle.state.specs.Layout.{row_size, memory_size, slot_at, object_row, object_state, with_object_state}
use Rattle.state.proofs.RowLaws.{ipdu_part, object_part, object_length, object_stored, object_other}
use Rattle.state.proofs.Running.{running_row}
use Rattle.message.specs.Objects.{object, Placed}
use Rattle.message.proofs.ObjectsInRange.{right_placed}
use Rattle.transmission.specs.Requests.{ipdu}
use Rattle.calls.proofs.Records.{object_sends, object_receives}
use Rattle.calls.proofs.SlotRows.{pack_row}
use Rattle.startup.specs.Start.{blank, idle, first_timer, start_ipdu, unused, start_as, start_object, prepared, started}
use Rattle.startup.proofs.StartInRange.{zero_at, begun, Set, set_more, all_set, initial_fits, queue_low, unused_fits, prepared_ready}
use Rattle.trace.specs.Book.{Entry, enter, open_entry, opened, last_of, book_bit}
use Rattle.trace.proofs.Refines.{Refines, refines_running, pack_bits}

-- ---- zeros

zero_slot : (at p : ℕ) → p < 64 → frame_bit (part at 8 blank) p ≡ 0
unfolding frame_bit part bit
zero_slot at p h =
    let low : p / 8 < 8 = omega (arith, h) in
    rw (get_or-take 8 (drop at blank) (p / 8) 0 low, get_or-drop at blank (p / 8) 0, zero_at (at + p / 8), zero-div (2 ^ (p % 8)))

module _ (t : List ℕ) (c : Counts) (right : Right t c) (bt : Bytes t) where
  -- the entries of the first n objects
  abbrev rows : ℕ → List Entry
  rows n = fold n (open_entry t c) []

  -- the first n objects are as the book has them
  record Opens (n : ℕ) (m : List ℕ) : Type 0 where
    set : Set t c right bt n m
    old : (i : ℕ) → i < n → (object_record t c.ipdus i).kind ≡ sending → (object_state m i).old ≡ last_of i (rows n)
    count : (i : ℕ) → i < n → (object_state m i).occurrence ≡ 0
    bits : (k : ℕ) → k < c.ipdus → (ipdu_record t k).direction ≡ sending → (p : ℕ) → p < 64 → frame_bit (part (slot_at k) 8 m) p ≡ book_bit t c (rows n) k p

  -- no object yet: each bit is 0
  no_bits : (k : ℕ) → k < c.ipdus → part (slot_at k) 8 (fold c.ipdus (start_ipdu t) blank) ≡ part (slot_at k) 8 blank
  no_bits k h =
      fold_view (part (slot_at k) 8) c.ipdus (start_ipdu t) blank
      (λ j b.
      let x = begun t c right bt j (omega (arith, b)) in
      ipdu_part (fold j (start_ipdu t) blank) j (idle (first_timer (ipdu t j).direction (ipdu t j)))
      (omega (arith, x.long, b, right.shape.ipdus)) (slot_at k) 8 (inr (omega (arith, b, right.shape.ipdus))))

  opens_none : Opens 0 (fold c.ipdus (start_ipdu t) blank)
  opens_none =
      record {
        set = all_set t c right bt 0 (omega arith);
        old = λ i h k. absurd (not-suc-le-zero h);
        count = λ i h. absurd (not-suc-le-zero h);
        bits = λ k h d p few. rw (no_bits k h) (zero_slot (slot_at k) p few);
      }

  module _ (n : ℕ) (h : n < c.objects) (m : List ℕ) (x : Opens n m) where
    room : object_row n + row_size ≤ length m
    room = omega (arith, x.set.long, h, right.shape.objects)

    initial : (object t c n).initial ≡ (object_record t c.ipdus n).initial
    unfolding object_of
    initial = refl

    -- the row of object n set
    module _ (v : ℕ) (small : v < 2 ^ 32) where
      abbrev next : List ℕ
      next = with_object_state m n (unused v (object t c n).initial (depths t c n))

      own : object_state (with_object_state m n (unused v (object t c n).initial (depths t c n))) n ≡ unused v (object t c n).initial (depths t c n)
      own =
          object_stored m n (unused v (object t c n).initial (depths t c n)) room
          (unused_fits v (object t c n).initial (depths t c n) small (initial_fits t c right bt n h m x.set) (queue_low t c right bt n h m x.set))

      other : (i : ℕ) → i < n → object_state (with_object_state m n (unused v (object t c n).initial (depths t c n))) i ≡ object_state m i
      other i low = object_other m n (unused v (object t c n).initial (depths t c n)) room i (λ e. omega (arith, e, low))

      counts : (i : ℕ) → i < suc n → (object_state (with_object_state m n (unused v (object t c n).initial (depths t c n))) i).occurrence ≡ 0
      counts i low =
          ⊎_elim
          (λ (e : i ≡ n). rw e (ap (λ (s : ObjectState). s.occurrence) own))
          (λ (ne : i ≡ n → ⊥). ap (λ (s : ObjectState). s.occurrence) (other i (omega (arith, low, ne))) ∙ x.count i (omega (arith, low, ne)))
          (eq_or_ne i n)

      slots_stay : (k : ℕ) → k < c.ipdus → part (slot_at k) 8 (with_object_state m n (unused v (object t c n).initial (depths t c n))) ≡ part (slot_at k) 8 m
      slots_stay k low = object_part m n (unused v (object t c n).initial (depths t c n)) room (slot_at k) 8 (inl (omega (arith, low, right.shape.ipdus)))

      long : length (with_object_state m n (unused v (object t c n).initial (depths t c n))) ≡ memory_size
      long = object_length m n (unused v (object t c n).initial (depths t c n)) room ∙ x.set.long

    sent_more : (object_record t c.ipdus n).kind ≡ sending → Opens (suc n) (start_as Send (object t c n) n (depths t c n) m)
    sent_more one =
        record {
          set = set_more t c right bt n h m x.set Send;
          old = λ i low k.
              rw entry
              (ap (λ (s : ObjectState). s.old) (pack_row (object t c n) (object t c n).initial (next 0 small) placed i)
              ∙ ⊎_elim
              (λ (e : i ≡ n). rw (e, eq-eqb n n refl) (ap (λ (s : ObjectState). s.old) (own 0 small)))
              (λ (ne : i ≡ n → ⊥).
              rw (ne_eqb n i (λ e. ne (sym e))) (ap (λ (s : ObjectState). s.old) (other 0 small i (omega (arith, low, ne))) ∙ x.old i (omega (arith, low, ne)) k))
              (eq_or_ne i n));
          count = λ i low.
              ap (λ (s : ObjectState). s.occurrence) (pack_row (object t c n) (object t c n).initial (next 0 small) placed i) ∙ counts 0 small i low;
          bits = λ k low d p few.
              rw entry
              (pack_bits t c (rows n) (next 0 small) right (long 0 small) n (object t c n).initial h
              (λ j b e q r. rw (slots_stay 0 small j b) (x.bits j b e q r)) k low d p few);
        }
      where
        small : 0 < 2 ^ 32
        small = omega arith

        placed : Placed (object t c n) (next 0 small)
        placed = right_placed t c (next 0 small) right (omega (arith, long 0 small)) n h

        entry : rows (suc n) ≡ enter n (object t c n).initial (rows n)
        entry = rw (eq-eqb (object_record t c.ipdus n).kind sending one, initial)

    received_more : ((object_record t c.ipdus n).kind ≡ sending → ⊥) → Opens (suc n) (start_as Receive (object t c n) n (depths t c n) m)
    received_more received =
        record {
          set = set_more t c right bt n h m x.set Receive;
          old = λ i low k.
              ⊎_elim
              (λ (e : i ≡ n). absurd (received (rw e at k)))
              (λ (ne : i ≡ n → ⊥).
              rw entry (ap (λ (s : ObjectState). s.old) (other v small i (omega (arith, low, ne))) ∙ x.old i (omega (arith, low, ne)) k))
              (eq_or_ne i n);
          count = counts v small;
          bits = λ k low d p few. rw (entry, slots_stay v small k low) (x.bits k low d p few);
        }
      where
        v : ℕ
        v = (object t c n).initial

        small : (object t c n).initial < 2 ^ 32
        small = initial_fits t c right bt n h m x.set

        entry : rows (suc n) ≡ rows n
        entry = rw (ne_eqb (object_record t c.ipdus n).kind sending received)

  by_direction : (n : ℕ) (h : n < c.objects) (m : List ℕ) → Opens n m → Opens (suc n) (start_object t c n m)
  by_direction n h m x =
      ⊎_elim
      (λ (e : eqb (object_record t c.ipdus n).kind sending ≡ true).
      subst (λ (d : Direction). Opens (suc n) (start_as d (object t c n) n (depths t c n) m)) (sym (object_sends t c n e))
      (sent_more n h m x (eqb-true (object_record t c.ipdus n).kind sending e)))
      (λ (e : eqb (object_record t c.ipdus n).kind sending ≡ false).
      subst (λ (d : Direction). Opens (suc n) (start_as d (object t c n) n (depths t c n) m)) (sym (object_receives t c n e))
      (received_more n h m x (eqb-false (object_record t c.ipdus n).kind sending e)))
      (true_or_false (eqb (object_record t c.ipdus n).kind sending))

  opens : (n : ℕ) → n ≤ c.objects → Opens n (fold n (start_object t c) (fold c.ipdus (start_ipdu t) blank))
  opens zero h = opens_none
  opens (suc n) h = by_direction n h (fold n (start_object t c) (fold c.ipdus (start_ipdu t) blank)) (opens n (omega (arith, h)))

  -- working memory after a start refines the book that a start opens; before its last step, one that is stopped
  refines_prepared : Refines t c (record { entries = (opened t c).entries; counts = (opened t c).counts; stopped = true }) (prepared t c)
  unfolding prepared
  refines_prepared =
      let x = opens c.objects (omega arith) in
      record {
        ready = unfold prepared in prepared_ready t c right bt;
        running = x.set.running;
        old = λ i h k. x.old i h k;
        count = λ i h k. x.count i h;
        bits = x.bits;
      }

  pub refines_start : Refines t c (opened t c) (started t c)
  unfolding started
  refines_start = refines_running t c (record { entries = (opened t c).entries; counts = (opened t c).counts; stopped = true }) (prepared t c) refines_prepared false

  -- no value was filtered yet, sent or received
  pub started_count : (i : ℕ) → i < c.objects → (object_state (started t c) i).occurrence ≡ 0
  unfolding started prepared
  started_count i h =
      ap (λ (s : ObjectState). s.occurrence) (running_row (prepared t c) 1 refines_prepared.ready.long i) ∙ (opens c.objects (omega arith)).count i h
