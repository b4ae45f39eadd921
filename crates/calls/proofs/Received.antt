-- What a receive of a queued object gives where a value waits.
-- Assumes nothing.
use Rattle.std.proofs.Common.{true, false, List, [], ◌⊎◌, inl, inr, ⊎_elim, ◌≡◌, refl, ℕ, ne_eqb, eqb}
use Rattle.memory.proofs.Tests.{true_or_false}
use Rattle.table.specs.declared.Counts.{Counts}
use Rattle.table.specs.Records.{receiving, object_record}
use Rattle.state.specs.declared.ObjectState.{ObjectState}
use Rattle.state.specs.Layout.{object_state}
use Rattle.queue.specs.Queues.{oldest, dequeue}
use Rattle.calls.specs.Answers.{outcome, number_of, value_of}
use Rattle.calls.specs.Calls.{is_object, limited, receive_in}

pub taken : (t : List ℕ) (c : Counts) (m : List ℕ) (j : ℕ) → is_object t c receiving j ≡ true → ((object_record t c.ipdus j).depth ≡ 0 → ⊥)
    → ((object_state m j).count ≡ 0 → ⊥)
    → receive_in t c j m
    ≡ outcome (limited (object_state m j) (oldest (object_record t c.ipdus j).depth j m)) (dequeue (object_record t c.ipdus j).depth j m) []
unfolding receive_in
taken t c m j is deep some = rw (is, ne_eqb (object_record t c.ipdus j).depth 0 deep, ne_eqb (object_state m j).count 0 some)

-- with or without an overflow the value is given
pub limited_gives : (s : ObjectState) (v : ℕ) → (value_of (limited s v) ≡ v) × ((number_of (limited s v) ≡ 0) ⊎ (number_of (limited s v) ≡ 3))
limited_gives s v =
    ⊎_elim
    (λ (e : eqb s.overflow 0 ≡ true). rw e (refl, inl refl))
    (λ (e : eqb s.overflow 0 ≡ false). rw e (refl, inr refl))
    (true_or_false (eqb s.overflow 0))
