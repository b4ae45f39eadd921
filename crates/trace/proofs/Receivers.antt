-- A layer that runs: what a receive of it gives, and when a value that a call brought to a receive object has arrived there.
-- Assumes: the table holds bytes, and arguments are of the types that the calls take (`Typed`).
use Rattle.std.proofs.Common.{true, false, List, [], ◌∷◌, ◌++◌, ◌⊎◌, inr, ◌≡◌, refl, sym, ap, ◌∙◌, ℕ, suc, ◌+◌, ◌^◌, ◌≤◌, ◌<◌, arith, lt-ltb, length, Ok}
use Rattle.memory.specs.Bytes.{Bytes, part}
use Rattle.table.specs.declared.Counts.{Counts}
use Rattle.table.specs.Records.{receiving, counts, object_record}
use Rattle.table.specs.Check.{check}
use Rattle.config.specs.Decode.{object_of}
use Rattle.state.specs.declared.ObjectState.{ObjectState}
use Rattle.state.specs.Layout.{object_rows, object_row, object_state, with_object_state}
use Rattle.state.specs.Ranges.{Ready}
use Rattle.state.proofs.RowLaws.{object_part, object_other, object_read}
use Rattle.state.proofs.Ready.{object_row_lem}
use Rattle.message.specs.Objects.{object, passes_filter, after_filter, marked, delivered, deliver}
use Rattle.queue.specs.Queues.{oldest, waiting}
use Rattle.message.proofs.ObjectsInRange.{ready_held}
use Rattle.message.proofs.Queues.{waiting_length, waiting_oldest, waiting_arrived, waiting_same}
use Rattle.calls.specs.Answers.{done_with}
use Rattle.calls.specs.Answers.{Outcome, number_of, value_of}
use Rattle.calls.specs.Calls.{is_object, receive_in}
use Rattle.calls.proofs.Received.{taken, limited_gives}
use Rattle.layer.specs.Admission.{working_memory, on_working_memory}
use Rattle.layer.specs.Step.{Call, start, receive, long_enough, describe, step}
use Rattle.layer.proofs.Admitted.{front_of}
use Rattle.trace.specs.Book.{Book, opened, advance, book_after}
use Rattle.trace.specs.Demand3.{Typed}
use Rattle.trace.specs.RoundTrip.{Runs, memory_of, Takes, Arrived}
use Rattle.trace.proofs.Steps.{Follows, start_accepted, start_follows, admission_is, own_long, step_follows, list_follows}

-- ---- a layer that runs

-- working memory over an accepted table that follows a book that is not stopped
pub record Live (t m : List ℕ) : Type 0 where
  pub table : check t ≡ Ok (counts t)
  pub bytes : Bytes t
  pub book : Book
  pub follows : Follows t (counts t) book m
  pub on : book.stopped ≡ false

-- it follows the book of its calls
pub runs_follows : (t : List ℕ) → Bytes t → (calls : List Call) (m : List ℕ) → Runs t calls m
    → Follows t (counts t) (book_after t (counts t) (opened t (counts t)) calls) (memory_of t calls m)
runs_follows t bt calls m r =
    let a = start_accepted t m r.accepted in
    list_follows t (counts t) a.table bt calls r.typed (opened t (counts t)) (step t start m).memory
    (start_follows t (counts t) a.table bt m a.long)

pub runs_live : (t : List ℕ) → Bytes t → (calls : List Call) (m : List ℕ) → Runs t calls m → Live t (memory_of t calls m)
runs_live t bt calls m r =
    record {
      table = (start_accepted t m r.accepted).table;
      bytes = bt;
      book = book_after t (counts t) (opened t (counts t)) calls;
      follows = runs_follows t bt calls m r;
      on = r.running;
    }

module _ (t m : List ℕ) (l : Live t m) where
  pub ready : Ready t (counts t) (working_memory m)
  ready = l.follows.agrees.ready

  module _ (call : Call) (runs : (describe call).running ≡ true) (long : long_enough (describe call).lent ≡ true) where
    -- a call is not refused, and does its own part
    own_part : step t call m ≡ on_working_memory ((describe call).does t (counts t)) m
    unfolding step
    own_part = rw (admission_is t (counts t) l.table l.bytes l.book m l.follows (describe call), runs, long, l.on)

    own_memory : Typed call → working_memory (step t call m).memory ≡ ((describe call).does t (counts t) (working_memory m)).memory
    own_memory y =
        rw own_part
        (front_of ((describe call).does t (counts t) (working_memory m)).memory m
        (own_long t (counts t) l.table l.bytes l.book m l.follows call y (λ e. long)))

  -- after a call that does not stop it, it runs
  live_after : (call : Call) → Typed call → (advance t (counts t) l.book call).stopped ≡ false → Live t (step t call m).memory
  live_after call y on =
      record {
        table = l.table;
        bytes = l.bytes;
        book = advance t (counts t) l.book call;
        follows = step_follows t (counts t) l.table l.bytes l.book m l.follows call y;
        on = on;
      }

-- ---- receive

-- of an unqueued object
received : (t : List ℕ) (c : Counts) (m : List ℕ) (j : ℕ) → is_object t c receiving j ≡ true → (object_record t c.ipdus j).depth ≡ 0
    → (receive_in t c j m).answer ≡ done_with (object_state m j).value
unfolding receive_in
received t c m j is flat = rw (is, flat)

-- there is a receive object of this number
receives : (t : List ℕ) (c : Counts) (j : ℕ) → j < c.objects → (object_record t c.ipdus j).kind ≡ receiving → is_object t c receiving j ≡ true
receives t c j low kind = rw (lt-ltb j c.objects low, kind)

-- a receive of a queued object gives the oldest value that waits, and leaves the others
pub receive_gives_lem : (t : List ℕ) → Bytes t → (calls : List Call) (m : List ℕ) → Runs t calls m → (j v : ℕ) (vs : List ℕ)
    → j < (counts t).objects → (object_record t (counts t).ipdus j).kind ≡ receiving → ((object_record t (counts t).ipdus j).depth ≡ 0 → ⊥)
    → waiting (object_record t (counts t).ipdus j).depth j (working_memory (memory_of t calls m)) ≡ v ∷ vs
    → (value_of (step t (receive j) (memory_of t calls m)).answer ≡ v)
    × (waiting (object_record t (counts t).ipdus j).depth j (working_memory (step t (receive j) (memory_of t calls m)).memory) ≡ vs)
    × ((number_of (step t (receive j) (memory_of t calls m)).answer ≡ 0) ⊎ (number_of (step t (receive j) (memory_of t calls m)).answer ≡ 3))
unfolding object_of
receive_gives_lem t bt calls m r j v vs low kind deep e =
    let c = counts t in
    let n = memory_of t calls m in
    let d = (object_record t c.ipdus j).depth in
    let w = working_memory n in
    let live = runs_live t bt calls m r in
    let some : (object_state w j).count ≡ suc (length vs) = sym (waiting_length d j w) ∙ ap length e in
    let own = taken t c w j (receives t c j low kind) deep (λ z. omega (arith, some, z)) in
    let first = sym (waiting_oldest d j w (ready_held t c w (ready t n live) j low) (omega (arith, some))) ∙ e in
    let answer = ap (λ (o : Outcome). o.answer) (own_part t n live (receive j) refl refl ∙ ap (λ (o : Outcome). on_working_memory (λ x. o) n) own) in
    let gives = limited_gives (object_state w j) (oldest d j w) in (
      ap value_of answer ∙ gives.0 ∙ (cc first),
      ap (waiting d j) (own_memory t n live (receive j) refl refl (tt, none) ∙ ap (λ (o : Outcome). o.memory) own) ∙ (cc first),
      rw answer gives.1,
    )
  where
    none : Bytes []
    none i = omega arith

-- ---- what a call leaves of one receive object

module _ (t : List ℕ) (c : Counts) (j : ℕ) (low : j < c.objects) where
  -- its row and the values that wait for it are as they were
  pub record Still (m n : List ℕ) : Type 0 where
    pub row : object_state n j ≡ object_state m j
    pub queue : waiting (object t c j).depth j n ≡ waiting (object t c j).depth j m

  pub still_twice : (l m n : List ℕ) → Still l m → Still m n → Still l n
  still_twice l m n a b = record { row = b.row ∙ a.row; queue = b.queue ∙ a.queue }

  -- where nothing changes from the objects' rows on
  pub still_behind : (m n : List ℕ) → Ready t c m → ((at w : ℕ) → object_rows ≤ at → part at w n ≡ part at w m) → Still m n
  still_behind m n ready same =
      let row = object_read n m j (λ o w b. same (object_row j + o) w (omega arith)) in
      record { row = row; queue = waiting_same (object t c j).depth j m n (ready_held t c m ready j low) row (same _ _ (omega arith)) }

  -- where the row of another object is set
  pub still_other : (m : List ℕ) → Ready t c m → (i : ℕ) → i < c.objects → (j ≡ i → ⊥) → (s : ObjectState) → Still m (with_object_state m i s)
  still_other m ready i h ne s =
      let room = object_row_lem t c m ready i h in
      let row = object_other m i s room j ne in
      record {
        row = row;
        queue = waiting_same (object t c j).depth j m (with_object_state m i s) (ready_held t c m ready j low) row
            (object_part m i s room _ _ (inr (omega (arith, h, ready.right.shape.objects))));
      }

  -- a value has come to it: unqueued it holds the value, and in a queue with room the value waits behind the others
  pub record Reached (v : ℕ) (m n : List ℕ) : Type 0 where
    pub value : (object t c j).depth ≡ 0 → (object_state n j).value ≡ v
    pub queue : (object_state m j).count < (object t c j).depth → waiting (object t c j).depth j n ≡ waiting (object t c j).depth j m ++ (v ∷ [])

  -- what comes before and after, and leaves the object alone, changes nothing of that
  pub reached_still : (v : ℕ) (k l m n : List ℕ) → Still k l → Reached v l m → Still m n → Reached v k n
  reached_still v k l m n a r b =
      record {
        value = λ flat. ap (λ (s : ObjectState). s.value) b.row ∙ r.value flat;
        queue = λ room. b.queue ∙ r.queue (rw a.row room) ∙ ap (λ (vs : List ℕ). vs ++ (v ∷ [])) a.queue;
      }

  -- by one delivery of a value that passes its filter
  module _ (v : ℕ) (m n : List ℕ) (ready : Ready t c m) (small : v < 2 ^ 32) (passes : passes_filter (object t c j) v (object_state m j) ≡ true) where
    pub reached : object_state n j ≡ delivered (passes_filter (object t c j) v (object_state m j)) (object t c j) v (object_state m j)
        → waiting (object t c j).depth j n ≡ waiting (object t c j).depth j (deliver (object t c j) j v m) → Reached v m n
    reached row queue =
        record {
          value = λ flat. ap (λ (s : ObjectState). s.value) row ∙ stored flat;
          queue = λ room. queue ∙ waiting_arrived (object t c j) j v m (ready_held t c m ready j low) small passes room;
        }
      where
        stored : (object t c j).depth ≡ 0
            → (delivered (passes_filter (object t c j) v (object_state m j)) (object t c j) v (object_state m j)).value ≡ v
        stored flat = unfold delivered after_filter marked in rw (passes, flat)

-- over a layer that runs: a receive gives the value, or it waits behind the others
pub arrives : (t m : List ℕ) (l : Live t m) (call : Call) → Typed call → (describe call).running ≡ true → long_enough (describe call).lent ≡ true
    → (advance t (counts t) l.book call).stopped ≡ false → (j v : ℕ) → (x : Takes t j v m)
    → Reached t (counts t) j x.low v (working_memory m) ((describe call).does t (counts t) (working_memory m)).memory
    → Arrived t j v m (step t call m).memory
unfolding object_of
arrives t m l call y runs long on j v x r =
    let c = counts t in
    let after = own_memory t m l call runs long y in
    record {
      unqueued = λ flat.
          ap (λ (o : Outcome). o.answer) (own_part t (step t call m).memory (live_after t m l call y on) (receive j) refl refl)
          ∙ received t c (working_memory (step t call m).memory) j (receives t c j x.low x.kind) flat
          ∙ ap (λ (n : List ℕ). done_with (object_state n j).value) after
          ∙ ap done_with (r.value flat);
      queued = λ room. ap (waiting (object_record t c.ipdus j).depth j) after ∙ r.queue room;
    }
