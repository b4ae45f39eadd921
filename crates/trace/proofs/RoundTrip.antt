-- Demand 2 over lists of calls, with W-205: in the bytes of an I-PDU in working memory, and in every frame that is handed over, the reading
-- stored last unpacks to the low bits of its value, and an older one to its own bit wherever no value kept since covers it; and so a
-- reading that is not covered arrives at a like object of another board that the frame is indicated to.
-- Assumes: the table holds bytes, and arguments are of the types that the calls take (`Typed`, `TypedAction`).
use Rattle.std.proofs.Common.{true, false, List, [], ◌∷◌, ◌≡◌, sym, ap, ◌∙◌, ℕ, ◌*◌, ◌<◌, arith, ne_eqb, eqb, length}
use Rattle.memory.specs.Bytes.{Bytes}
use Rattle.memory.proofs.Parts.{part_length, part_bytes}
use Rattle.bits.specs.Bits.{frame_bit}
use Rattle.bits.proofs.Extension.{fits_back, back_fits}
use Rattle.table.specs.declared.Counts.{Counts}
use Rattle.table.specs.Records.{sending, absent, counts, ipdu_record, object_record}
use Rattle.table.specs.Rules.{signed_of}
use Rattle.table.specs.Check.{Right}
use Rattle.table.proofs.Accepted.{accepted_right, usable}
use Rattle.state.specs.Layout.{slot_at}
use Rattle.state.proofs.Ready.{ready_kept}
use Rattle.calls.specs.Answers.{Outcome}
use Rattle.calls.proofs.Records.{object_there, object_kind, ipdu_short}
use Rattle.layer.specs.Admission.{working_memory}
use Rattle.layer.specs.Step.{Call, start, indication, step}
use Rattle.trace.specs.Book.{Entry, Book, unopened, sends, last_of, opened, advance, book_after, book_bit}
use Rattle.trace.specs.Actions.{Action, single, group, leaves, group_sends, advance_by, memory_after_all, book_after_all}
use Rattle.trace.specs.Demand3.{Typed, ActionsTyped, done, word_of, frame, Names, CallKept, AllKept, ActionKept, ActionsKept}
use Rattle.trace.specs.RoundTrip.{reading_in, reading_of, LastReads, LastExact, OlderReads, ipdu_bytes, StoredLast, StoredExactly, StoredEarlier}
use Rattle.trace.specs.RoundTrip.{FramesRead, AllRead, ActionRead, ActionsRead, Runs, memory_of, ActionsRun}
use Rattle.trace.specs.RoundTrip.{Takes, Arrived, Uncovered, Like}
use Rattle.trace.proofs.Entries.{Full, advance_full, started_full, action_full, actions_full}
use Rattle.trace.proofs.Covered.{last_sent, older_reads, whole_reads, last_reads}
use Rattle.trace.proofs.FramesInArea.{in_area_none}
use Rattle.trace.proofs.Steps.{start_accepted, start_follows, step_follows, step_frames}
use Rattle.trace.proofs.KeptLists.{stored_bits, list_kept}
use Rattle.trace.proofs.ActionsKept.{actions_follow, expanded_typed, expanded_book, expanded_memory}
use Rattle.trace.proofs.Demand3.{demand_3}
use Rattle.trace.proofs.Receivers.{runs_follows}
use Rattle.trace.proofs.Arrivals.{indication_arrives}

-- ---- calls and lists of them

module _ (t : List ℕ) (c : Counts) (right : Right t c) where
  call_read : (b : Book) → Full t c b.entries → (call : Call) (o : Outcome) → CallKept t c b call o → FramesRead t c b call o
  call_read b full call o kept k e =
      let es = (advance t c b call).entries in
      let low = (kept.named k e).0 in
      let next = advance_full t c b full call in (
        last_reads t c right k low es next (frame t k o.area) (kept.bits k e),
        older_reads t c right k low es next (frame t k o.area) (kept.bits k e),
      )

  list_read : (calls : List Call) (b : Book) (m : List ℕ) → Full t c b.entries → AllKept t c b calls m → AllRead t c b calls m
  list_read [] b m full kept = tt
  list_read (call ∷ calls) b m full kept = (
    call_read b full call (step t call m) kept.0,
    list_read calls (advance t c b call) (step t call m).memory (advance_full t c b full call) kept.1,
  )

  -- ---- with groups

  action_read : (b : Book) (m : List ℕ) → Full t c b.entries → (x : Action) → ActionKept t c b x m → ActionRead t c b x m
  action_read b m full (single call) kept = call_read b full call (step t call m) kept
  action_read b m full (group g) kept = ((λ e. list_read (group_sends g) b m full (kept.sends e)), kept.frames)

  actions_read : (xs : List Action) (b : Book) (m : List ℕ) → Full t c b.entries → ActionsKept t c b xs m → ActionsRead t c b xs m
  actions_read [] b m full kept = tt
  actions_read (x ∷ xs) b m full kept = (
    action_read b m full x kept.0,
    actions_read xs (advance_by t c b x) (leaves t x m) (action_full t c b full x) kept.1,
  )

-- every list of calls and groups that begins with an accepted start
pub frames_read : (t : List ℕ) → Bytes t → (xs : List Action) → ActionsTyped xs → (m : List ℕ) → done (step t start m) ≡ true
    → ActionsRead t (counts t) unopened (single start ∷ xs) m
unfolding advance
frames_read t bt xs y m e = (
  λ k z. absurd (in_area_none k z),
  actions_read t (counts t) (accepted_right t (counts t) (start_accepted t m e).table) xs (opened t (counts t)) (step t start m).memory
      (started_full t (counts t) []) (demand_3 t bt xs xs y y m m e e).0.1,
)

-- ---- the bytes of an I-PDU in working memory, after such a list

module _ (t : List ℕ) (bt : Bytes t) (xs : List Action) (y : ActionsTyped xs) (m : List ℕ) (e : done (step t start m) ≡ true) (k : ℕ)
    (in_table : k < (counts t).ipdus) where
  abbrev es : List Entry
  es = (book_after_all t (counts t) (opened t (counts t)) xs).entries

  abbrev bytes : List ℕ
  bytes = ipdu_bytes t k (memory_after_all t (single start ∷ xs) m)

  right : Right t (counts t)
  right = accepted_right t (counts t) (start_accepted t m e).table

  full : Full t (counts t) (book_after_all t (counts t) (opened t (counts t)) xs).entries
  full = actions_full t (counts t) xs (opened t (counts t)) (started_full t (counts t) [])

  -- of an I-PDU that a send object has
  bits : (i : ℕ) → sends t (counts t) i ≡ true → (object_record t (counts t).ipdus i).ipdu ≡ k → (p : ℕ) → p < 8 * (ipdu_record t k).length
      → frame_bit bytes p ≡ book_bit t (counts t) es k p
  bits i s at =
      let c = counts t in
      let a = start_accepted t m e in
      let some : eqb (object_record t c.ipdus i).ipdu absent ≡ false = ne_eqb (object_record t c.ipdus i).ipdu absent (omega (arith, at, in_table, right.shape.ipdus)) in
      let way = ((usable t c right i (object_there t c sending i s)).ipdu some).1 in
      stored_bits t c (book_after_all t c (opened t c) xs) (memory_after_all t (single start ∷ xs) m)
      (actions_follow t c a.table bt xs y (opened t c) (step t start m).memory (start_follows t c a.table bt m a.long)) k in_table
      (rw at at way ∙ object_kind t c sending i s)

  last : LastReads t (counts t) es k bytes
  last i is_last =
      let s = last_sent t (counts t) k i es full.only is_last in
      last_reads t (counts t) right k in_table es full bytes (bits i s.0 s.1) i is_last

  exact : LastExact t (counts t) es k bytes
  exact i is_last =
      let c = counts t in
      let r = object_record t c.ipdus i in
      let a = start_accepted t m e in
      let s = (last_sent t c k i es full.only is_last).0 in
      let low = object_there t c sending i s in
      let slot = (usable t c right i low).slot in
      let agrees = (actions_follow t c a.table bt xs y (opened t c) (step t start m).memory (start_follows t c a.table bt m a.long)).agrees in
      let held = (ready_kept t c (working_memory (memory_after_all t (single start ∷ xs) m)) agrees.ready i low).old in
      let small = rw (agrees.old i low (object_kind t c sending i s)) at held in (
        λ fits. last i is_last ∙ fits_back (signed_of r.order) r.size (last_of i es) slot.some slot.most small fits,
        λ back. back_fits (signed_of r.order) r.size (last_of i es) slot.some slot.most small (sym (last i is_last) ∙ back),
      )

  older : OlderReads t (counts t) es k bytes
  older i n s at = older_reads t (counts t) right k in_table es full bytes (bits i s at) i n s at

-- the reading stored last gives its low bits
pub stored_last_lem : (t : List ℕ) → Bytes t → StoredLast t
stored_last_lem t bt = last t bt

-- and these are the value exactly where it fits its bits
pub stored_exactly : (t : List ℕ) → Bytes t → StoredExactly t
stored_exactly t bt = exact t bt

-- an older one gives its own bit at each place that no value kept since covers
pub stored_earlier : (t : List ℕ) → Bytes t → StoredEarlier t
stored_earlier t bt = older t bt

-- ---- a list with groups

-- the single calls that it stands for leave a running layer, over the memory of the list
pub actions_run : (t : List ℕ) → Bytes t → (xs : List Action) → ActionsTyped xs → (m : List ℕ) → done (step t start m) ≡ true
    → (book_after_all t (counts t) (opened t (counts t)) xs).stopped ≡ false → ActionsRun t xs m
actions_run t bt xs y m e on =
    let c = counts t in
    let a = start_accepted t m e in
    record {
      runs = record { typed = expanded_typed t c xs (opened t c) y; accepted = e; running = rw (expanded_book t c xs (opened t c)) at on };
      memory = expanded_memory t c a.table bt xs y (opened t c) (step t start m).memory (start_follows t c a.table bt m a.long);
    }

-- ---- two boards

-- a frame of I-PDU k: as many bytes as its length, in which object i has this reading
record Handed (t : List ℕ) (k i v : ℕ) (f : List ℕ) : Type 0 where
  bytes : Bytes f
  long : length f ≡ (ipdu_record t k).length
  reads : reading_in (object_record t (counts t).ipdus i) f ≡ v

-- the frames that a call of a running layer hands over are such, where nothing kept since covers the reading
call_hands : (t : List ℕ) → Bytes t → (xs : List Call) (m : List ℕ) → Runs t xs m → (call : Call) → Typed call
    → (k i : ℕ) → Names (word_of call (step t call (memory_of t xs m)).answer) k → sends t (counts t) i ≡ true → (object_record t (counts t).ipdus i).ipdu ≡ k
    → Uncovered t (counts t) i (advance t (counts t) (book_after t (counts t) (opened t (counts t)) xs) call).entries
    → Handed t k i
    (reading_of (object_record t (counts t).ipdus i) (last_of i (advance t (counts t) (book_after t (counts t) (opened t (counts t)) xs) call).entries))
    (frame t k (step t call (memory_of t xs m)).area)
call_hands t bt xs m r call y k i e s at free =
    let c = counts t in
    let n = memory_of t xs m in
    let b = book_after t c (opened t c) xs in
    let table = (start_accepted t m r.accepted).table in
    let f = runs_follows t bt xs m r in
    let kept = (list_kept t c table bt (call ∷ []) (y, tt) b n f).0 in
    let slot = (step_frames t c table bt b n f call y).slot k e in
    let next = (step_follows t c table bt b n f call y).agrees.ready in
    let w = working_memory (step t call n).memory in
    let L = (ipdu_record t k).length in
    let low = (kept.named k e).0 in
    let few = ipdu_short t c next.right k low in
    record {
      bytes = rw slot (part_bytes (slot_at k) L w next.bytes);
      long = rw slot (part_length (slot_at k) L w (omega (arith, low, few, next.right.shape.ipdus, next.long)));
      reads =
          whole_reads t c next.right k low (advance t c b call).entries (advance_full t c b (started_full t c xs) call) (frame t k (step t call n).area) (kept.bits k e) i s at free;
    }

-- a frame that a call of a running layer hands over, indicated to a running layer over another table: a like receive object, whose
-- filter passes it, gets the low bits of the latest value that the sender kept, that call's own included, where no value kept since
-- covers a bit of the reading
pub reading_round_trip : (t : List ℕ) → Bytes t → (xs : List Call) (m : List ℕ) → Runs t xs m → (call : Call) → Typed call
    → (k i : ℕ) → Names (word_of call (step t call (memory_of t xs m)).answer) k → sends t (counts t) i ≡ true → (object_record t (counts t).ipdus i).ipdu ≡ k
    → Uncovered t (counts t) i (advance t (counts t) (book_after t (counts t) (opened t (counts t)) xs) call).entries
    → (u : List ℕ) → Bytes u → (ys : List Call) (n : List ℕ) → Runs u ys n → (j : ℕ) → (object_record u (counts u).ipdus j).ipdu < (counts u).ipdus
    → Like t (object_record t (counts t).ipdus i) u (object_record u (counts u).ipdus j) → (v : ℕ)
    → v ≡ reading_of (object_record t (counts t).ipdus i) (last_of i (advance t (counts t) (book_after t (counts t) (opened t (counts t)) xs) call).entries)
    → Takes u j v (memory_of u ys n)
    → Arrived u j v (memory_of u ys n)
    (step u (indication (object_record u (counts u).ipdus j).ipdu true (frame t k (step t call (memory_of t xs m)).area)) (memory_of u ys n)).memory
reading_round_trip t bt xs m r call y k i e s at free u bu ys n ru j in_table like v last x =
    let f = frame t k (step t call (memory_of t xs m)).area in
    let h = call_hands t bt xs m r call y k i e s at free in
    let same : reading_in (object_record u (counts u).ipdus j) f ≡ v = rw (like.order, like.start, like.size) h.reads ∙ sym last in
    rw same at
    (indication_arrives u bu ys n ru f h.bytes j in_table
    (h.long ∙ ap (λ (x : ℕ). (ipdu_record t x).length) (sym at) ∙ sym like.length) (rw same x))
