-- What each call shows, one row for each: all that the claims over calls and lists of calls ask of it. A call added later adds its
-- row to `shows`.
-- Assumes nothing.
use Rattle.std.proofs.Common.{Bool, true, false, not, ◌&&◌, List, [], ⊎_elim, ◌≡◌, refl, ap, subst, ℕ, leb-true, leb, ltb, eqb, length}
use Rattle.memory.specs.Bytes.{Bytes}
use Rattle.memory.specs.Search.{pick}
use Rattle.memory.proofs.Search.{picked}
use Rattle.memory.proofs.Tests.{true_or_false}
use Rattle.table.specs.declared.Counts.{Counts}
use Rattle.table.specs.Records.{sending, object_record}
use Rattle.state.specs.Layout.{area_size, object_state}
use Rattle.state.specs.Ranges.{Ready}
use Rattle.message.specs.Objects.{object, passes_filter}
use Rattle.delivery.specs.Delivery.{deliver_inside}
use Rattle.calls.specs.Answers.{Outcome}
use Rattle.calls.specs.Calls.{is_object, stop_in, wants, request, send_of, send_in, initialise_in, receive_in, status_in, marks_in, clear_marks_in, periodic_in, indication_in, confirm_in}
use Rattle.calls.specs.Tick.{tick_in}
use Rattle.layer.specs.Step.{Call, start, stop, send, initialise, receive, status, marks, clear_marks, start_periodic, stop_periodic, indication, confirm, tick, no_area}
use Rattle.layer.specs.Step.{lent_bytes, long_enough, told_nothing, Description, described, describe}
use Rattle.layer.proofs.ReadyKept.{own_ready}
use Rattle.trace.specs.Book.{Book, entered}
use Rattle.trace.specs.Demand3.{Small, done, word_in, Judged}
use Rattle.trace.proofs.BookUnchanged.{BookUnchanged}
use Rattle.trace.proofs.Refines.{Refines, refines_unchanged}
use Rattle.trace.proofs.SendRefines.{refines_send}
use Rattle.trace.proofs.CallsRefine.{refines_initialise, refines_stop, unchanged_receive, unchanged_status, unchanged_marks, unchanged_clear, unchanged_periodic}
use Rattle.trace.proofs.CallsRefine.{unchanged_indication, unchanged_confirm}
use Rattle.trace.proofs.StartRefines.{refines_start}
use Rattle.trace.proofs.FramesInArea.{FramesInArea}
use Rattle.trace.proofs.SendFrames.{in_area_zero, send_in_area}
use Rattle.trace.proofs.TickFrames.{unchanged_tick, tick_in_area}
use Rattle.trace.proofs.Answered.{Answered, did, send_answered, initialise_answered, receive_answered, status_answered, marks_answered, clear_marks_answered}
use Rattle.trace.proofs.Answered.{indication_answered, confirm_answered}

-- the call goes on: it needs no running layer, or its area is long enough and the layer is not stopped
abbrev pub goes_on : Description → Book → Bool
goes_on d b = pick d.running (long_enough d.lent && not b.stopped) true

pub record Shows (t : List ℕ) (c : Counts) (call : Call) (d : Description) : Type 0 where
  -- refused by itself it leaves all lent bytes, and it answers no 6
  pub answered : (m : List ℕ) → Answered call m (lent_bytes d.lent) (d.does t c m)
  -- it is done where the book accepts it
  pub judged : (b : Book) (m : List ℕ) → Judged t c b d.told (length (lent_bytes d.lent)) (goes_on d b && done (d.does t c m))
  -- it keeps every number in its range, and memory as the book says; where it is not done the book stays
  pub book : (b : Book) (m : List ℕ) → Refines t c b m → Small d.told → Bytes d.bytes → (d.running ≡ true → long_enough d.lent ≡ true)
      → Refines t c (pick (done (d.does t c m)) (entered t c b d.told) b) (d.does t c m).memory
  -- the slots that its word names hold the I-PDUs
  pub frames : (m : List ℕ) → Ready t c m → Small d.told → (d.running ≡ true → long_enough d.lent ≡ true)
      → FramesInArea t c (word_in d.lent (d.does t c m).answer) (d.does t c m).area (d.does t c m).memory

module _ (t : List ℕ) (c : Counts) where
  -- a call keeps every number in its range
  ready_after : (call : Call) (m : List ℕ) → Ready t c m → Small (describe call).told → Bytes (describe call).bytes → Ready t c ((describe call).does t c m).memory
  ready_after call m ready y = own_ready t c call m ready (λ i v e. rw e at y) (λ i v e. rw e at y)

  -- ---- a call that the book does not see

  unchanged_book : (b : Book) (m n : List ℕ) (went : Bool) → Refines t c b m → Ready t c n → BookUnchanged t c m n → Refines t c (pick went b b) n
  unchanged_book b m n went a next same = let x = refines_unchanged t c b m n a next same in picked (λ (d : Book). Refines t c d n) went b b (λ e. x) (λ e. x)

  unchanged_row : (call : Call) (bytes : List ℕ) (does : List ℕ → Counts → List ℕ → Outcome) → describe call ≡ described no_area true told_nothing bytes does
      → ((m : List ℕ) → Answered call m [] (does t c m)) → ((m : List ℕ) → Ready t c m → Bytes bytes → BookUnchanged t c m (does t c m).memory)
      → Shows t c call (described no_area true told_nothing bytes does)
  unchanged_row call bytes does same answered unseen =
      record {
        answered = answered;
        judged = λ b m. tt;
        book = λ b m a y z e. unchanged_book b m (does t c m).memory (done (does t c m)) a (after m a.ready z) (unseen m a.ready z);
        frames = λ m ready y e. in_area_zero t c _ _;
      }
    where
      after : (m : List ℕ) → Ready t c m → Bytes bytes → Ready t c (does t c m).memory
      after m ready =
          subst (λ (d : Description). Small d.told → Bytes d.bytes → Ready t c (d.does t c m).memory) same (ready_after call m ready) tt

  -- ---- what a send and an initialise are done for

  pub send_done : (i v : ℕ) (area m : List ℕ) → done (send_in t c i v area m) ≡ is_object t c sending i
  unfolding send_in send_of request
  send_done i v area m =
      ⊎_elim
      (λ (y : is_object t c sending i ≡ true).
      rw y
      (picked (λ (o : Outcome). done o ≡ true) (passes_filter (object t c i) v (object_state (deliver_inside t c i v m) i)) _ _
      (λ e. picked (λ (o : Outcome). done o ≡ true) (wants t (object t c i)) _ _ (λ w. refl) (λ w. refl)) (λ e. refl)))
      (λ (n : is_object t c sending i ≡ false). rw n)
      (true_or_false (is_object t c sending i))

  initialise_done : (i v : ℕ) (m : List ℕ) → done (initialise_in t c i v m) ≡ ltb i c.objects
  unfolding initialise_in
  initialise_done i v m =
      ⊎_elim (λ (y : ltb i c.objects ≡ true). rw y) (λ (n : ltb i c.objects ≡ false). rw n) (true_or_false (ltb i c.objects))

  -- an initialise of no object enters nothing
  initialise_book : (l k : Bool) (p b : Book) (n : List ℕ) → Refines t c (pick (l && k) p b) n → Refines t c (pick l (pick (l && k) p b) b) n
  initialise_book true k p b n a = a
  initialise_book false k p b n a = a

  periodic_answered : (call : Call) (on : Bool) (m : List ℕ) → Answered call m [] (periodic_in on t c m)
  unfolding periodic_in
  periodic_answered call on m = did call m [] 0 _ []

  -- a stop is always done
  whole : (x : Bool) → (x && true) ≡ x
  whole true = refl
  whole false = refl

  -- ---- the rows

  pub shows : (call : Call) → Shows t c call (describe call)
  shows start =
      record {
        answered = λ m. did start m [] 0 _ [];
        judged = λ b m. refl;
        book = λ b m a y z e. refines_start t c a.ready.right a.ready.tables;
        frames = λ m ready y e. in_area_zero t c _ _;
      }
  shows stop =
      record {
        answered = λ m. unfold stop_in in did stop m [] 0 _ [];
        judged = λ b m. unfold stop_in in whole (not b.stopped);
        book = λ b m a y z e. unfold stop_in in (unfold stop_in in refines_stop t c b m a);
        frames = λ m ready y e. in_area_zero t c _ _;
      }
  shows (send i v area) =
      record {
        answered = λ m. send_answered t c m i v area;
        judged = λ b m. ap (λ (x : Bool). leb area_size (length area) && not b.stopped && x) (send_done i v area m);
        book = λ b m a y z e. rw (send_done i v area m) (refines_send t c b m a i v y area);
        frames = λ m ready y e. send_in_area t c i v y area (leb-true area_size (length area) (e refl)) m ready;
      }
  shows (initialise i v) =
      record {
        answered = λ m. initialise_answered t c m i v;
        judged = λ b m. ap (λ (x : Bool). not b.stopped && x) (initialise_done i v m);
        book = λ b m a y z e.
            rw (initialise_done i v m)
            (initialise_book (ltb i c.objects) (eqb (object_record t c.ipdus i).kind sending) _ b _ (refines_initialise t c b m a i v y));
        frames = λ m ready y e. in_area_zero t c _ _;
      }
  shows (receive i) = unchanged_row (receive i) [] (λ t c. receive_in t c i) refl (λ m. receive_answered t c m i) (λ m ready z. unchanged_receive t c m ready i)
  shows (status i) = unchanged_row (status i) [] (λ t c. status_in t c i) refl (λ m. status_answered t c m i) (λ m ready z. unchanged_status t c m ready i)
  shows (marks i) = unchanged_row (marks i) [] (λ t c. marks_in c i) refl (λ m. marks_answered t c m i) (λ m ready z. unchanged_marks t c m ready i)
  shows (clear_marks i) = unchanged_row (clear_marks i) [] (λ t c. clear_marks_in c i) refl (λ m. clear_marks_answered t c m i) (λ m ready z. unchanged_clear t c m ready i)
  shows start_periodic = unchanged_row start_periodic [] (periodic_in true) refl (λ m. periodic_answered start_periodic true m) (λ m ready z. unchanged_periodic t c m ready true)
  shows stop_periodic = unchanged_row stop_periodic [] (periodic_in false) refl (λ m. periodic_answered stop_periodic false m) (λ m ready z. unchanged_periodic t c m ready false)
  shows (indication k good bytes) =
      unchanged_row (indication k good bytes) bytes (λ t c. indication_in t c k good bytes) refl (λ m. indication_answered t c m k good bytes)
      (λ m ready z. unchanged_indication t c m ready k good bytes z)
  shows (confirm k good) = unchanged_row (confirm k good) [] (λ t c. confirm_in t c k good) refl (λ m. confirm_answered t c m k good) (λ m ready z. unchanged_confirm t c m ready k good)
  shows (tick area) =
      record {
        answered = λ m. unfold tick_in in did (tick area) m area _ _ _;
        judged = λ b m. tt;
        book = λ b m a y z e.
            unchanged_book b m (tick_in t c area m).memory (done (tick_in t c area m)) a (ready_after (tick area) m a.ready y z)
            (unchanged_tick t c area m a.ready (leb-true area_size (length area) (e refl)));
        frames = λ m ready y e. tick_in_area t c area m ready (leb-true area_size (length area) (e refl));
      }
