-- Frames handed over: the slots of a request area that its word names hold the I-PDUs' bytes as they stand in working memory.
-- Assumes nothing.
use Rattle.std.proofs.Common.{true, false, List, ⊎_elim, ◌≡◌, refl, sym, ap, ◌∙◌, ℕ, suc, ◌+◌, ◌*◌, ◌^◌, ◌≤◌, ◌<◌, add-zero, arith, length, take}
use Rattle.memory.specs.Bytes.{part}
use Rattle.memory.proofs.Parts.{part_front}
use Rattle.memory.proofs.Tests.{true_or_false}
use Rattle.bits.proofs.Numbers.{bit_of_zero, bit_added}
use Rattle.table.specs.declared.Counts.{Counts}
use Rattle.table.specs.Records.{most_ipdus, sending, ipdu_record, object_record}
use Rattle.table.specs.Check.{Right}
use Rattle.config.specs.Decode.{ipdu_of, object_of}
use Rattle.table.proofs.Accepted.{usable}
use Rattle.state.specs.declared.IpduState.{IpduState}
use Rattle.state.specs.Layout.{memory_size, slot_at, ipdu_state, area_size}
use Rattle.state.specs.Updates.{with_wanted}
use Rattle.message.specs.Objects.{object}
use Rattle.transmission.specs.Requests.{ipdu, is_due, copied_to_area}
use Rattle.calls.specs.Answers.{Outcome, value_of}
use Rattle.calls.specs.Calls.{is_object, wants, try_request, request}
use Rattle.calls.proofs.Records.{object_there, object_kind, ipdu_short, wants_some}
use Rattle.calls.proofs.SlotRows.{handed_front, handed_length, handed_other, handed_same}
use Rattle.trace.specs.Demand3.{Names}

-- a word of 0 names nothing
pub in_area_none : (k : ℕ) → Names 0 k → ⊥
in_area_none k e = omega (arith, e, bit_of_zero k)

module _ (t : List ℕ) (c : Counts) where
  pub record FramesInArea (word : ℕ) (area m : List ℕ) : Type 0 where
    pub named : (k : ℕ) → Names word k → (k < c.ipdus) × ((ipdu_record t k).direction ≡ sending)
    pub slot : (k : ℕ) → Names word k → part (8 * k) (ipdu_record t k).length area ≡ part (slot_at k) (ipdu_record t k).length m

  -- the same slots in another memory
  pub in_area_same : (word : ℕ) (area l m : List ℕ) → Right t c → FramesInArea word area l
      → ((k : ℕ) → k < c.ipdus → (ipdu_record t k).direction ≡ sending → part (slot_at k) 8 m ≡ part (slot_at k) 8 l) → FramesInArea word area m
  in_area_same word area l m right x same =
      record {
        named = x.named;
        slot = λ k e.
            let n = x.named k e in
            let few = ipdu_short t c right k n.0 in
            x.slot k e
            ∙ sym (part_front (slot_at k) (ipdu_record t k).length 8 l few)
            ∙ ap (take (ipdu_record t k).length) (sym (same k n.0 n.1))
            ∙ part_front (slot_at k) (ipdu_record t k).length 8 m few;
      }

  -- one I-PDU: quiet, or requested, its bytes those of m
  pub data Tried (k : ℕ) (area m : List ℕ) (o : Outcome) : Type 0 where
    quiet : value_of o.answer ≡ 0 → o.area ≡ area → Tried k area m o
    requested : (ipdu_record t k).direction ≡ sending → value_of o.answer ≡ 2 ^ k → o.area ≡ copied_to_area (ipdu_record t k).length k m area → Tried k area m o

  pub tried_cases : Right t c → (k : ℕ) → k < c.ipdus → (ipdu_record t k).direction ≡ sending → (s : IpduState) (area n m : List ℕ)
      → part (slot_at k) 8 n ≡ part (slot_at k) 8 m → Tried k area m (try_request (ipdu t k) k s area n)
  unfolding ipdu_of
  tried_cases right k h d s area n m e =
      ⊎_elim
      (λ (g : is_due (ipdu t k) s ≡ true).
      requested d (rw g) (rw g (handed_same (ipdu_record t k).length k n m area (ipdu_short t c right k h) e)))
      (λ (g : is_due (ipdu t k) s ≡ false). quiet (rw g) (rw g))
      (true_or_false (is_due (ipdu t k) s))

  pub tried_from : Right t c → (k : ℕ) → k < c.ipdus → (area l m : List ℕ) (o : Outcome)
      → ((ipdu_record t k).direction ≡ sending → part (slot_at k) 8 l ≡ part (slot_at k) 8 m) → Tried k area l o → Tried k area m o
  tried_from right k h area l m o same (quiet v a) = quiet v a
  tried_from right k h area l m o same (requested d v a) = requested d v (a ∙ handed_same (ipdu_record t k).length k l m area (ipdu_short t c right k h) (same d))

  -- the request that a passed value wants
  pub request_tried : Right t c → (i : ℕ) → is_object t c sending i ≡ true → wants t (object t c i) ≡ true → (area m : List ℕ)
      → Tried (object_record t c.ipdus i).ipdu area m (request t (object t c i) area m)
  unfolding request object_of
  request_tried right i is w area m =
      let k : ℕ = (object_record t c.ipdus i).ipdu in
      let there = (usable t c right i (object_there t c sending i is)).ipdu (wants_some t (object t c i) w) in
      rw w (tried_cases right k there.0 (there.1 ∙ object_kind t c sending i is) (with_wanted 1 (ipdu_state m k)) area m m refl)

  -- ---- one more I-PDU

  pub record Next (n w : ℕ) (m : List ℕ) (o : Outcome) : Type 0 where
    pub hands : FramesInArea (w + value_of o.answer) o.area m
    pub long : area_size ≤ length o.area
    pub below : (k : ℕ) → Names (w + value_of o.answer) k → k < suc n

  module _ (right : Right t c) (n w : ℕ) (h : n < c.ipdus) (area m : List ℕ) (fits : area_size ≤ length area) (size : length m ≡ memory_size)
      (under : w < 2 ^ n) (below : (k : ℕ) → Names w k → k < n) (x : FramesInArea w area m) where
    few : (ipdu_record t n).length ≤ 8
    few = ipdu_short t c right n h

    low : n < most_ipdus
    low = omega (arith, h, right.shape.ipdus)

    room : slot_at n + 8 ≤ length m
    room = omega (arith, low, size)

    -- it is named itself, or was named before
    mine : (ipdu_record t n).direction ≡ sending → FramesInArea (w + 2 ^ n) (copied_to_area (ipdu_record t n).length n m area) m
    mine d =
        record {
          named = λ k e. ⊎_elim (λ (y : k ≡ n). rw y (h, d)) (λ (y : (k < n) × Names w k). x.named k y.1) (bit_added n w k under e);
          slot = λ k e.
              ⊎_elim
              (λ (y : k ≡ n). rw y (handed_front (ipdu_record t n).length n m area few low fits room))
              (λ (y : (k < n) × Names w k).
              handed_other (ipdu_record t n).length n m area few low fits room k (ipdu_record t k).length (λ e. absurd (omega (arith, y.0, e))) (ipdu_short t c right k (x.named k y.1).0)
              ∙ x.slot k y.1)
              (bit_added n w k under e);
        }

    pub in_area_more : (o : Outcome) → Tried n area m o → Next n w m o
    in_area_more o (quiet v a) =
        record {
          hands = rw (v, a, add-zero w) x;
          long = rw a fits;
          below = λ k e. omega (arith, below k (rw (v, add-zero w) at e));
        }
    in_area_more o (requested d v a) =
        record {
          hands = rw (v, a) (mine d);
          long = rw a (omega (arith, handed_length (ipdu_record t n).length n m area few low fits room, fits));
          below = λ k e.
              ⊎_elim (λ (y : k ≡ n). omega (arith, y)) (λ (y : (k < n) × Names w k). omega (arith, y.0)) (bit_added n w k under (rw v at e));
        }
