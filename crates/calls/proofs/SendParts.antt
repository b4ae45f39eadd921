-- The bits of an object of a right table, and a send step by step: internal delivery, the filter, then packing and the request.
-- Assumes nothing.
use Rattle.std.proofs.Common.{Bool, true, false, List, ◌≡◌, ap, ℕ, ◌^◌, ◌<◌, arith, eqb}
use Rattle.memory.specs.Search.{pick}
use Rattle.bits.proofs.Places.{position_twice}
use Rattle.table.specs.declared.Counts.{Counts}
use Rattle.table.specs.Records.{sending, absent, object_record}
use Rattle.table.specs.Rules.{order_of}
use Rattle.table.specs.Check.{depths, Right}
use Rattle.config.specs.Decode.{object_of}
use Rattle.table.proofs.Accepted.{usable}
use Rattle.state.specs.Layout.{object_state, with_object_state}
use Rattle.state.specs.Ranges.{Ready}
use Rattle.state.proofs.Ready.{ObjectKept, ready_kept, ready_object}
use Rattle.message.specs.Objects.{object, passes_filter, after_filter, start_bit, pack}
use Rattle.delivery.specs.Delivery.{deliver_inside}
use Rattle.message.proofs.ObjectsInRange.{kept_after_filter}
use Rattle.delivery.proofs.DeliveriesInRange.{ready_inside}
use Rattle.calls.specs.Answers.{done_with}
use Rattle.calls.specs.Answers.{outcome}
use Rattle.calls.specs.Calls.{is_object, request, send_of, send_in}
use Rattle.calls.proofs.Records.{object_there}

-- ---- an object of a right table

module _ (t : List ℕ) (c : Counts) (right : Right t c) (i : ℕ) (h : i < c.objects) where
  pub start_bit_lem : start_bit (object t c i) ≡ (object_record t c.ipdus i).start
  unfolding object_of
  start_bit_lem =
      position_twice (order_of (object_record t c.ipdus i).order) (object_record t c.ipdus i).start (usable t c right i h).start

  pub size_some : 0 < (object t c i).size.0
  unfolding object_of
  size_some = (usable t c right i h).slot.some

  pub low_ipdu : eqb (object_record t c.ipdus i).ipdu absent ≡ false → (object_record t c.ipdus i).ipdu < c.ipdus
  low_ipdu some = ((usable t c right i h).ipdu some).0

-- ---- send

module _ (t : List ℕ) (c : Counts) (m : List ℕ) (ready : Ready t c m) (i : ℕ) (is : is_object t c sending i ≡ true) (v : ℕ) (small : v < 2 ^ 32)
    (area : List ℕ) where
  pub here : i < c.objects
  here = object_there t c sending i is

  -- working memory after internal delivery, and after the filtering
  abbrev pub inner : List ℕ
  inner = deliver_inside t c i v m

  abbrev pub judge : Bool
  judge = passes_filter (object t c i) v (object_state (deliver_inside t c i v m) i)

  abbrev pub after : List ℕ
  after = with_object_state inner i (after_filter judge (object t c i) v (object_state inner i))

  pub inner_ready : Ready t c (deliver_inside t c i v m)
  unfolding deliver_inside
  inner_ready = ready_inside t c i v c.objects small (omega arith) m ready

  pub after_kept : ObjectKept (object_record t c.ipdus i) (depths t c i) (after_filter judge (object t c i) v (object_state inner i))
  after_kept =
      kept_after_filter (object_record t c.ipdus i) (depths t c i) judge v (object_state inner i) small (ready_kept t c inner inner_ready i here)

  pub after_ready : Ready t c (with_object_state inner i (after_filter judge (object t c i) v (object_state inner i)))
  after_ready = ready_object t c inner inner_ready i here (after_filter judge (object t c i) v (object_state inner i)) after_kept

  pub sent_as : (b : Bool) → judge ≡ b
      → send_in t c i v area m ≡ pick b (request t (object t c i) area (pack (object t c i) v after)) (outcome (done_with 0) after area)
  unfolding send_in send_of
  sent_as b p = rw is (ap (λ (x : Bool). pick x (request t (object t c i) area (pack (object t c i) v after)) (outcome (done_with 0) after area)) p)
