-- Demand 3 (a): whether a call is refused follows from the book, and each bit of each frame, and of each send I-PDU in working memory, is
-- the book's; over every list.
-- Assumes: the table holds bytes, and arguments are of the types that the calls take (`Typed`).
use Rattle.std.proofs.Common.{List, [], ◌∷◌, ◌≡◌, sym, ap, ◌∙◌, ℕ, ◌+◌, ◌*◌, ◌≤◌, ◌<◌, arith, length, take, drop, take-append-drop, length-take-le, Ok}
use Rattle.memory.specs.Bytes.{Bytes, part}
use Rattle.memory.proofs.Parts.{part_length, part_front}
use Rattle.bits.specs.Bits.{frame_bit}
use Rattle.bits.proofs.RoundTrip.{front_bit}
use Rattle.table.specs.declared.Counts.{Counts}
use Rattle.table.specs.Records.{sending, ipdu_record}
use Rattle.table.specs.Check.{check}
use Rattle.state.specs.Layout.{slot_at}
use Rattle.layer.specs.Admission.{working_memory}
use Rattle.layer.specs.Step.{Call, step}
use Rattle.calls.proofs.Records.{ipdu_short}
use Rattle.trace.specs.Book.{Book, advance, book_bit}
use Rattle.trace.specs.Demand3.{Typed, AllTyped, CallKept, AllKept}
use Rattle.trace.specs.RoundTrip.{ipdu_bytes}
use Rattle.trace.proofs.Steps.{Follows, step_judged, step_follows, step_frames}

-- the bits of the first bytes of a slot
short_bit : (at n : ℕ) (m : List ℕ) (p : ℕ) → n ≤ 8 → at + 8 ≤ length m → p < 8 * n → frame_bit (part at n m) p ≡ frame_bit (part at 8 m) p
short_bit at n m p few room low =
    let eight : length (part at 8 m) ≡ 8 = part_length at 8 m room in
    let size : length (take n (part at 8 m)) ≡ n = length-take-le n (part at 8 m) (omega (arith, eight, few)) in
    ap (λ (f : List ℕ). frame_bit f p) (sym (part_front at n 8 m few))
    ∙ sym (front_bit (take n (part at 8 m)) (drop n (part at 8 m)) p (omega (arith, size, low)))
    ∙ ap (λ (f : List ℕ). frame_bit f p) (take-append-drop n (part at 8 m))

-- the bits of a send I-PDU's bytes in working memory are the book's
pub stored_bits : (t : List ℕ) (c : Counts) (b : Book) (m : List ℕ) → Follows t c b m → (k : ℕ) → k < c.ipdus → (ipdu_record t k).direction ≡ sending
    → (p : ℕ) → p < 8 * (ipdu_record t k).length → frame_bit (ipdu_bytes t k m) p ≡ book_bit t c b.entries k p
stored_bits t c b m f k in_table sent p low =
    let ready = f.agrees.ready in
    let few = ipdu_short t c ready.right k in_table in
    short_bit (slot_at k) (ipdu_record t k).length (working_memory m) p few (omega (arith, in_table, ready.right.shape.ipdus, ready.long)) low
    ∙ f.agrees.bits k in_table sent p (omega (arith, low, few))

module _ (t : List ℕ) (c : Counts) (accepted : check t ≡ Ok c) (bt : Bytes t) where
  pub call_kept : (b : Book) (m : List ℕ) (f : Follows t c b m) (call : Call) → Typed call → CallKept t c b call (step t call m)
  call_kept b m f call y =
      let x = step_frames t c accepted bt b m f call y in
      let next = step_follows t c accepted bt b m f call y in
      record {
        judged = step_judged t c accepted bt b m f call;
        named = x.named;
        bits = λ k e p low.
            let n = x.named k e in
            ap (λ (g : List ℕ). frame_bit g p) (x.slot k e)
            ∙ stored_bits t c (advance t c b call) (step t call m).memory next k n.0 n.1 p low;
      }

  pub list_kept : (calls : List Call) → AllTyped calls → (b : Book) (m : List ℕ) → Follows t c b m → AllKept t c b calls m
  list_kept [] y b m f = tt
  list_kept (call ∷ calls) y b m f = (
    call_kept b m f call y.0,
    list_kept calls y.1 (advance t c b call) (step t call m).memory (step_follows t c accepted bt b m f call y.0),
  )
