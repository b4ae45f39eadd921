-- Numbers that were checked exist: what the record of such an object or I-PDU gives.
-- Assumes nothing.
use Rattle.std.proofs.Common.{true, false, not, ◌&&◌, List, ⊎_elim, ◌≡◌, ℕ, ◌≤◌, ◌<◌, arith, ltb-true, eqb-true, ltb, eqb}
use borrow.Author.Tests.{not-true}
use Rattle.memory.proofs.Tests.{and_split, true_or_false}
use Rattle.table.specs.declared.Counts.{Counts}
use Rattle.config.specs.declared.Direction.{Direction}
use Rattle.config.specs.declared.Direction.TheVariants.{Send, Receive}
use Rattle.config.specs.declared.Object.{Object}
use Rattle.table.specs.Records.{receiving, sending, absent, ipdu_record, object_record}
use Rattle.table.specs.Check.{Right}
use Rattle.config.specs.Decode.{ipdu_of, object_of}
use Rattle.table.proofs.Accepted.{usable}
use Rattle.table.proofs.Facts.{ipdu_facts}
use Rattle.state.specs.Ranges.{Ready}
use Rattle.message.specs.Objects.{object}
use Rattle.transmission.specs.Requests.{ipdu}
use Rattle.calls.specs.Calls.{HasIpdu, is_object, is_ipdu, is_triggered, is_periodic, wants}

receive_not_send : ◌≡◌ {A = Direction} Receive Send → ⊥
receive_not_send e = let z : ◌≡◌ {A = ℕ} 0 1 = cc in omega arith

pub object_there : (t : List ℕ) (c : Counts) (kind i : ℕ) → is_object t c kind i ≡ true → i < c.objects
object_there t c kind i e = ltb-true i c.objects (and_split (ltb i c.objects) (eqb (object_record t c.ipdus i).kind kind) e).0

pub ipdu_there : (t : List ℕ) (c : Counts) (direction k : ℕ) → is_ipdu t c direction k ≡ true → k < c.ipdus
ipdu_there t c direction k e = ltb-true k c.ipdus (and_split (ltb k c.ipdus) (eqb (ipdu_record t k).direction direction) e).0

-- of the kind and the direction that were checked
pub object_kind : (t : List ℕ) (c : Counts) (kind i : ℕ) → is_object t c kind i ≡ true → (object_record t c.ipdus i).kind ≡ kind
object_kind t c kind i e =
    eqb-true (object_record t c.ipdus i).kind kind (and_split (ltb i c.objects) (eqb (object_record t c.ipdus i).kind kind) e).1

pub ipdu_direction : (t : List ℕ) (c : Counts) (direction k : ℕ) → is_ipdu t c direction k ≡ true → (ipdu_record t k).direction ≡ direction
ipdu_direction t c direction k e =
    eqb-true (ipdu_record t k).direction direction (and_split (ltb k c.ipdus) (eqb (ipdu_record t k).direction direction) e).1

-- directions as the table's numbers
module _ (t : List ℕ) where
  pub ipdu_sends : (k : ℕ) → (ipdu_record t k).direction ≡ sending → (ipdu t k).direction ≡ Send
  unfolding ipdu_of
  ipdu_sends k e = rw e

  pub ipdu_receives : (k : ℕ) → (ipdu_record t k).direction ≡ receiving → (ipdu t k).direction ≡ Receive
  unfolding ipdu_of
  ipdu_receives k e = rw e

  pub sends_one : (k : ℕ) → (ipdu t k).direction ≡ Send → (ipdu_record t k).direction ≡ sending
  unfolding ipdu_of
  sends_one k e =
      ⊎_elim
      (λ (y : eqb (ipdu_record t k).direction sending ≡ true). eqb-true (ipdu_record t k).direction sending y)
      (λ (n : eqb (ipdu_record t k).direction sending ≡ false). absurd (receive_not_send (rw n at e)))
      (true_or_false (eqb (ipdu_record t k).direction sending))

  pub object_sends : (c : Counts) (i : ℕ) → eqb (object_record t c.ipdus i).kind sending ≡ true → (object t c i).direction ≡ Send
  unfolding object_of
  object_sends c i e = rw e

  pub object_receives : (c : Counts) (i : ℕ) → eqb (object_record t c.ipdus i).kind sending ≡ false → (object t c i).direction ≡ Receive
  unfolding object_of
  object_receives c i e = rw e

-- an I-PDU has at most 8 bytes
pub ipdu_short : (t : List ℕ) (c : Counts) → Right t c → (k : ℕ) → k < c.ipdus → (ipdu_record t k).length ≤ 8
ipdu_short t c right k h = (ipdu_facts (ipdu_record t k) (right.ipdus k h)).most

pub has_ipdu : (t : List ℕ) (c : Counts) (m : List ℕ) → Ready t c m → (i : ℕ) → i < c.objects → HasIpdu t (object t c i)
unfolding object_of ipdu_of
has_ipdu t c m ready i h =
    record {
      number = λ e. omega (arith, low e, ready.right.shape.ipdus);
      inside = λ e. omega (arith, low e, ready.right.shape.long);
      few = λ e. ipdu_short t c ready.right (object_record t c.ipdus i).ipdu (low e);
    }
  where
    low : eqb (object_record t c.ipdus i).ipdu absent ≡ false → (object_record t c.ipdus i).ipdu < c.ipdus
    low e = ((usable t c ready.right i h).ipdu e).0

-- only an object with an I-PDU wants a request
pub wants_some : (t : List ℕ) (o : Object) → wants t o ≡ true → eqb o.ipdu.0 absent ≡ false
unfolding wants
wants_some t o e =
    let first = (and_split (not (eqb o.ipdu.0 absent) && is_triggered o.transfer) (not (is_periodic (ipdu t o.ipdu.0).mode)) e).0 in
    not-true _ (and_split (not (eqb o.ipdu.0 absent)) (is_triggered o.transfer) first).0
