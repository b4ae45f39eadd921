-- A kept value and a send keep working memory a refinement of the book of demand 3.
-- Assumes nothing.
use Rattle.std.proofs.Common.{Bool, true, false, List, inl, ⊎_elim, ◌≡◌, refl, sym, ap, ap₂, ◌∙◌, ℕ, ◌+◌, ◌^◌, ◌≤◌, ◌<◌, arith, eq-eqb, ne_eqb, length, subst}
use Rattle.memory.specs.Bytes.{value, part, number_at}
use Rattle.memory.specs.Search.{pick}
use Rattle.memory.proofs.Tests.{eq_or_ne, true_or_false}
use Rattle.filter.specs.Filters.{next_count, passes}
use Rattle.table.specs.declared.Counts.{Counts}
use Rattle.table.specs.Records.{sending, object_record}
use Rattle.table.specs.Check.{depths}
use Rattle.config.specs.declared.Object.{Object}
use Rattle.config.specs.Decode.{object_of}
use Rattle.state.specs.declared.ObjectState.{ObjectState}
use Rattle.state.specs.Layout.{row_size, running_at, slot_at, object_row, object_state, with_object_state}
use Rattle.state.specs.Ranges.{Ready}
use Rattle.state.proofs.RowLaws.{object_part, object_stored, object_other}
use Rattle.state.proofs.Ready.{ObjectKept, kept_fits, object_row_lem, ready_object}
use Rattle.message.specs.Objects.{object, after_filter, pack}
use Rattle.message.proofs.ObjectsInRange.{ready_pack, ready_placed}
use Rattle.calls.specs.Calls.{is_object, request, send_in}
use Rattle.calls.proofs.Records.{object_kind}
use Rattle.calls.proofs.SlotRows.{pack_row, pack_front}
use Rattle.calls.proofs.FilteredRows.{filtered_count}
use Rattle.calls.proofs.SendParts.{here, inner, judge, inner_ready, after_kept, sent_as}
use Rattle.calls.proofs.ReadyKept.{ready_request}
use Rattle.trace.specs.Book.{Entry, Book, enter, sends, last_of, keeps, next_counts, after_send}
use Rattle.trace.proofs.Refines.{Refines, refines_unchanged, pack_bits}
use Rattle.trace.proofs.BookUnchanged.{unchanged_inside, unchanged_request}

-- ---- a row of a send object set, and perhaps its value packed

module _ (t : List ℕ) (c : Counts) (m : List ℕ) (ready : Ready t c m) (i : ℕ) (h : i < c.objects) (s : ObjectState)
    (kept : ObjectKept (object_record t c.ipdus i) (depths t c i) s) where
  room : object_row i + row_size ≤ length m
  room = object_row_lem t c m ready i h

  pub row_own : object_state (with_object_state m i s) i ≡ s
  row_own = object_stored m i s room (kept_fits t c m ready i h s kept)

  pub row_other : (j : ℕ) → (j ≡ i → ⊥) → object_state (with_object_state m i s) j ≡ object_state m j
  row_other j ne = object_other m i s room j ne

  pub row_slot : (k : ℕ) → k < c.ipdus → part (slot_at k) 8 (with_object_state m i s) ≡ part (slot_at k) 8 m
  row_slot k low = object_part m i s room (slot_at k) 8 (inl (omega (arith, low, ready.right.shape.ipdus)))

  pub row_running : running_at (with_object_state m i s) ≡ running_at m
  unfolding running_at number_at
  row_running = ap value (object_part m i s room 0 1 (inl (omega arith)))

-- ---- the book's side

last_own : (i v : ℕ) (es : List Entry) → last_of i (enter i v es) ≡ v
last_own i v es = rw (eq-eqb i i refl)

last_other : (i j v : ℕ) (es : List Entry) → (j ≡ i → ⊥) → last_of j (enter i v es) ≡ last_of j es
last_other i j v es ne = rw (ne_eqb i j (λ e. ne (sym e)))

-- ---- an entry: the row's old value set, and the value packed

module _ (t : List ℕ) (c : Counts) (b : Book) (m : List ℕ) (a : Refines t c b m) (i : ℕ) (h : i < c.objects) (v : ℕ) (s : ObjectState)
    (kept : ObjectKept (object_record t c.ipdus i) (depths t c i) s) where
  -- with old set to the value
  pub refines_entry : (n : ℕ → ℕ) → s.old ≡ v → s.occurrence ≡ n i → ((j : ℕ) → (j ≡ i → ⊥) → n j ≡ b.counts j)
      → Refines t c (record { entries = enter i v b.entries; counts = n; stopped = b.stopped }) (pack (object t c i) v (with_object_state m i s))
  refines_entry n old count others =
      record {
        ready = ready_pack t c next next_ready i h v;
        running = pack_running ∙ row_running t c m a.ready i h s kept ∙ a.running;
        old = λ j low one.
            ap (λ (x : ObjectState). x.old) (pack_row (object t c i) v next (ready_placed t c next next_ready i h) j)
            ∙ ⊎_elim
            (λ (e : j ≡ i).
            let same : ℕ → Type 0 = λ k. (object_state (with_object_state m i s) k).old ≡ last_of k (enter i v b.entries) in
            subst same (sym e) (ap (λ (x : ObjectState). x.old) (row_own t c m a.ready i h s kept) ∙ old ∙ sym (last_own i v b.entries)))
            (λ (ne : j ≡ i → ⊥).
            ap (λ (x : ObjectState). x.old) (row_other t c m a.ready i h s kept j ne) ∙ a.old j low one ∙ sym (last_other i j v b.entries ne))
            (eq_or_ne j i);
        count = λ j low one.
            ap (λ (x : ObjectState). x.occurrence) (pack_row (object t c i) v next (ready_placed t c next next_ready i h) j)
            ∙ ⊎_elim
            (λ (e : j ≡ i). rw e (ap (λ (x : ObjectState). x.occurrence) (row_own t c m a.ready i h s kept) ∙ count))
            (λ (ne : j ≡ i → ⊥).
            ap (λ (x : ObjectState). x.occurrence) (row_other t c m a.ready i h s kept j ne) ∙ a.count j low one ∙ sym (others j ne))
            (eq_or_ne j i);
        bits = pack_bits t c b.entries next next_ready.right next_ready.long i v h
            (λ k low d p few. rw (row_slot t c m a.ready i h s kept k low) (a.bits k low d p few));
      }
    where
      next : List ℕ
      next = with_object_state m i s

      next_ready : Ready t c (with_object_state m i s)
      next_ready = ready_object t c m a.ready i h s kept

      pack_running : running_at (pack (object t c i) v next) ≡ running_at next
      pack_running = pack_front (object t c i) v next (ready_placed t c next next_ready i h)

  -- a dropped value: the row's count alone
  pub refines_dropped : (n : ℕ → ℕ) → s.old ≡ (object_state m i).old → s.occurrence ≡ n i → ((j : ℕ) → (j ≡ i → ⊥) → n j ≡ b.counts j)
      → Refines t c (record { entries = b.entries; counts = n; stopped = b.stopped }) (with_object_state m i s)
  refines_dropped n old count others =
      record {
        ready = ready_object t c m a.ready i h s kept;
        running = row_running t c m a.ready i h s kept ∙ a.running;
        old = λ j low one.
            ⊎_elim
            (λ (e : j ≡ i). rw e (ap (λ (x : ObjectState). x.old) (row_own t c m a.ready i h s kept) ∙ old ∙ a.old i h (rw e at one)))
            (λ (ne : j ≡ i → ⊥). ap (λ (x : ObjectState). x.old) (row_other t c m a.ready i h s kept j ne) ∙ a.old j low one)
            (eq_or_ne j i);
        count = λ j low one.
            ⊎_elim
            (λ (e : j ≡ i). rw e (ap (λ (x : ObjectState). x.occurrence) (row_own t c m a.ready i h s kept) ∙ count))
            (λ (ne : j ≡ i → ⊥).
            ap (λ (x : ObjectState). x.occurrence) (row_other t c m a.ready i h s kept j ne) ∙ a.count j low one ∙ sym (others j ne))
            (eq_or_ne j i);
        bits = λ k low d p few. rw (row_slot t c m a.ready i h s kept k low) (a.bits k low d p few);
      }

-- ---- send

filtered_passed : (b : Bool) (o : Object) (v : ℕ) (s : ObjectState) → b ≡ true → (after_filter b o v s).old ≡ v
unfolding after_filter
filtered_passed b o v s e = rw e

-- a dropped value leaves the count alone changed
pub filtered_out : (b : Bool) (o : Object) (v : ℕ) (s : ObjectState) → b ≡ false → after_filter b o v s ≡ Rattle.state.specs.Updates.counted o.filter s
unfolding after_filter
filtered_out b o v s e = rw e

module _ (t : List ℕ) (c : Counts) (b : Book) (m : List ℕ) (a : Refines t c b m) (i : ℕ) (is : is_object t c sending i ≡ true) (v : ℕ) (small : v < 2 ^ 32)
    (area : List ℕ) where
  low : i < c.objects
  low = here t c m a.ready i is v small area

  one : (object_record t c.ipdus i).kind ≡ sending
  one = object_kind t c sending i is

  abbrev first : List ℕ
  first = inner t c m a.ready i is v small area

  abbrev row : ObjectState
  row = after_filter (judge t c m a.ready i is v small area) (object t c i) v (object_state first i)

  first_agrees : Refines t c b (inner t c m a.ready i is v small area)
  first_agrees =
      refines_unchanged t c b m first a (inner_ready t c m a.ready i is v small area) (unchanged_inside t c i v low small m a.ready)

  row_kept : ObjectKept (object_record t c.ipdus i) (depths t c i) (after_filter (judge t c m a.ready i is v small area) (object t c i) v (object_state first i))
  row_kept = after_kept t c m a.ready i is v small area

  -- the layer's filter judges as the book does
  pub judge_is : judge t c m a.ready i is v small area ≡ keeps t c b i v
  unfolding object_of
  judge_is = ap₂ (λ (old n : ℕ). passes (object t c i).signed (object t c i).filter v old n) (first_agrees.old i low one) (first_agrees.count i low one)

  count_own : row.occurrence ≡ next_counts t c i b.counts i
  unfolding object_of
  count_own =
      filtered_count (judge t c m a.ready i is v small area) (object t c i) v (object_state first i)
      ∙ ap (next_count (object t c i).filter) (first_agrees.count i low one)
      ∙ sym (ap (λ (x : Bool). pick x (next_count (object t c i).filter (b.counts i)) (b.counts i)) (eq-eqb i i refl))

  count_other : (j : ℕ) → (j ≡ i → ⊥) → next_counts t c i b.counts j ≡ b.counts j
  count_other j ne = rw (ne_eqb j i ne)

  -- a request changes nothing that the book speaks of
  request_agrees : (e : Book) (n : List ℕ) → Refines t c e n → Refines t c e (request t (object t c i) area n).memory
  request_agrees e n x =
      refines_unchanged t c e n (request t (object t c i) area n).memory x (ready_request t c i is area n x.ready) (unchanged_request t c i is area n x.ready)

  pub refines_sent : Refines t c (after_send t c b i v) (send_in t c i v area m).memory
  refines_sent =
      ⊎_elim
      (λ (p : judge t c m a.ready i is v small area ≡ true).
      rw (sent_as t c m a.ready i is v small area true p, sym judge_is ∙ p)
      (request_agrees (record { entries = enter i v b.entries; counts = next_counts t c i b.counts; stopped = b.stopped })
      (pack (object t c i) v (with_object_state first i row))
      (refines_entry t c b first first_agrees i low v row row_kept (next_counts t c i b.counts)
      (filtered_passed (judge t c m a.ready i is v small area) (object t c i) v (object_state first i) p) count_own count_other)))
      (λ (p : judge t c m a.ready i is v small area ≡ false).
      rw (sent_as t c m a.ready i is v small area false p, sym judge_is ∙ p)
      (refines_dropped t c b first first_agrees i low v row row_kept (next_counts t c i b.counts)
      (ap (λ (s : ObjectState). s.old) (filtered_out (judge t c m a.ready i is v small area) (object t c i) v (object_state first i) p)) count_own count_other))
      (true_or_false (judge t c m a.ready i is v small area))

pub refines_send : (t : List ℕ) (c : Counts) (b : Book) (m : List ℕ) → Refines t c b m → (i v : ℕ) → v < 2 ^ 32 → (area : List ℕ)
    → Refines t c (pick (sends t c i) (after_send t c b i v) b) (send_in t c i v area m).memory
refines_send t c b m a i v small area =
    ⊎_elim
    (λ (is : is_object t c sending i ≡ true). rw is (refines_sent t c b m a i is v small area))
    (λ (out : is_object t c sending i ≡ false). refused out)
    (true_or_false (is_object t c sending i))
  where
    kept_memory : is_object t c sending i ≡ false → (send_in t c i v area m).memory ≡ m
    kept_memory out = unfold send_in in rw out

    refused : is_object t c sending i ≡ false → Refines t c (pick (sends t c i) (after_send t c b i v) b) (send_in t c i v area m).memory
    refused out = rw (kept_memory out, out) a
