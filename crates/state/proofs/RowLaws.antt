-- Laws of the stored numbers: what was stored is read, and everything apart from the row is as it was.
-- Assumes nothing.
use Rattle.std.proofs.Common.{true, List, ◌⊎◌, inl, inr, ⊎_elim, ◌≡◌, refl, ℕ, ◌+◌, ◌*◌, ◌^◌, ◌≤◌, ◌<◌, mod-eq_of_lt, arith, length}
use Rattle.table.specs.Records.{most_ipdus}
use Rattle.memory.specs.Bytes.{Bytes, number_at, part, replaced}
use Rattle.memory.specs.Rows.{Field, put, rising}
use Rattle.memory.proofs.Parts.{number_lt, part_apart}
use Rattle.memory.proofs.Rows.{put_length, put_apart, put_holds, put_bytes, put_commute, put_same}
use Rattle.memory.proofs.Tests.{lt_or_le}
use Rattle.state.specs.declared.IpduState.{IpduState}
use Rattle.state.specs.declared.ObjectState.{ObjectState}
use Rattle.state.specs.Layout.{row_size, ipdu_rows, ipdu_row, ipdu_fields, ipdu_state, with_ipdu_state, slot_at, object_rows, object_row, object_fields, object_state, with_object_state}

-- the numbers fit their bytes
pub record IpduFits (s : IpduState) : Type 0 where
  pub requested : s.requested < 256
  pub wanted : s.wanted < 256
  pub running : s.running < 256
  pub delay : s.delay < 2 ^ 16
  pub deadline : s.deadline < 2 ^ 16
  pub countdown : s.countdown < 2 ^ 16
  pub timer : s.timer < 2 ^ 16

pub record ObjectFits (s : ObjectState) : Type 0 where
  pub value : s.value < 2 ^ 32
  pub old : s.old < 2 ^ 32
  pub occurrence : s.occurrence < 256
  pub marks : s.marks < 256
  pub overflow : s.overflow < 256
  pub head : s.head < 256
  pub count : s.count < 256
  pub queue : s.queue < 2 ^ 16

-- ---- rows of 16 bytes

-- what lies before a row or after it is as it was
row_part : (a : ℕ) (fs : List Field) (m : List ℕ) → rising 0 16 fs ≡ true → a + 16 ≤ length m → (j w : ℕ)
    → (j + w ≤ a) ⊎ (a + 16 ≤ j) → part j w (put a fs m) ≡ part j w m
row_part a fs m e room j w side =
    put_apart a 0 16 fs m e room j w
    (⊎_elim (λ (b : j + w ≤ a). inl (omega arith)) (λ (b : a + 16 ≤ j). inr b) side)

-- a part of row j lies before row k or after it
other_row : (base j k o w : ℕ) → (j ≡ k → ⊥) → o + w ≤ 16 → (base + 16 * j + o + w ≤ base + 16 * k) ⊎ (base + 16 * k + 16 ≤ base + 16 * j + o)
other_row base j k o w ne h =
    ⊎_elim (λ (b : j < k). inl (omega arith)) (λ (b : k ≤ j). inr (omega (arith, ne))) (lt_or_le j k)

module _ (m : List ℕ) (k : ℕ) (s : IpduState) (room : ipdu_row k + row_size ≤ length m) where
  pub ipdu_length_lem : length (with_ipdu_state m k s) ≡ length m
  unfolding with_ipdu_state
  ipdu_length_lem = put_length (ipdu_row k) 0 16 (ipdu_fields s) m refl room

  -- apart from the row
  pub ipdu_part : (j w : ℕ) → (j + w ≤ ipdu_row k) ⊎ (ipdu_row k + row_size ≤ j) → part j w (with_ipdu_state m k s) ≡ part j w m
  unfolding with_ipdu_state
  ipdu_part = row_part (ipdu_row k) (ipdu_fields s) m refl room

  pub ipdu_stored : IpduFits s → ipdu_state (with_ipdu_state m k s) k ≡ s
  unfolding with_ipdu_state ipdu_state
  ipdu_stored f =
      let h = put_holds (ipdu_row k) 0 16 (ipdu_fields s) m refl room in
      rw (
        h.0,
        h.1.0,
        h.1.1.0,
        h.1.1.1.0,
        h.1.1.1.1.0,
        h.1.1.1.1.1.0,
        h.1.1.1.1.1.1.0,
        mod-eq_of_lt f.requested,
        mod-eq_of_lt f.wanted,
        mod-eq_of_lt f.running,
        mod-eq_of_lt f.delay,
        mod-eq_of_lt f.deadline,
        mod-eq_of_lt f.countdown,
        mod-eq_of_lt f.timer,
      )

module _ (m : List ℕ) (i : ℕ) (s : ObjectState) (room : object_row i + row_size ≤ length m) where
  pub object_length : length (with_object_state m i s) ≡ length m
  unfolding with_object_state
  object_length = put_length (object_row i) 0 16 (object_fields s) m refl room

  pub object_part : (j w : ℕ) → (j + w ≤ object_row i) ⊎ (object_row i + row_size ≤ j) → part j w (with_object_state m i s) ≡ part j w m
  unfolding with_object_state
  object_part = row_part (object_row i) (object_fields s) m refl room

  pub object_stored : ObjectFits s → object_state (with_object_state m i s) i ≡ s
  unfolding with_object_state object_state
  object_stored f =
      let h = put_holds (object_row i) 0 16 (object_fields s) m refl room in
      rw (
        h.0,
        h.1.0,
        h.1.1.0,
        h.1.1.1.0,
        h.1.1.1.1.0,
        h.1.1.1.1.1.0,
        h.1.1.1.1.1.1.0,
        h.1.1.1.1.1.1.1.0,
        mod-eq_of_lt f.value,
        mod-eq_of_lt f.old,
        mod-eq_of_lt f.occurrence,
        mod-eq_of_lt f.marks,
        mod-eq_of_lt f.overflow,
        mod-eq_of_lt f.head,
        mod-eq_of_lt f.count,
        mod-eq_of_lt f.queue,
      )

  -- the occurrence alone
  pub object_occurrence : s.occurrence < 256 → (object_state (with_object_state m i s) i).occurrence ≡ s.occurrence
  unfolding with_object_state object_state
  object_occurrence small = rw ((put_holds (object_row i) 0 16 (object_fields s) m refl room).1.1.0, mod-eq_of_lt small)

-- ---- bytes stay bytes, and hold numbers that fit them

pub ipdu_bytes_lem : (m : List ℕ) (k : ℕ) (s : IpduState) → Bytes m → Bytes (with_ipdu_state m k s)
unfolding with_ipdu_state
ipdu_bytes_lem m k s = put_bytes (ipdu_row k) (ipdu_fields s) m

pub object_bytes_lem : (m : List ℕ) (i : ℕ) (s : ObjectState) → Bytes m → Bytes (with_object_state m i s)
unfolding with_object_state
object_bytes_lem m i s = put_bytes (object_row i) (object_fields s) m

pub ipdu_fits : (m : List ℕ) (k : ℕ) → Bytes m → IpduFits (ipdu_state m k)
unfolding ipdu_state
ipdu_fits m k bs =
    record {
      requested = number_lt 1 (ipdu_row k + 0) m bs;
      wanted = number_lt 1 (ipdu_row k + 1) m bs;
      running = number_lt 1 (ipdu_row k + 2) m bs;
      delay = number_lt 2 (ipdu_row k + 4) m bs;
      deadline = number_lt 2 (ipdu_row k + 6) m bs;
      countdown = number_lt 2 (ipdu_row k + 8) m bs;
      timer = number_lt 2 (ipdu_row k + 10) m bs;
    }

pub object_fits : (m : List ℕ) (i : ℕ) → Bytes m → ObjectFits (object_state m i)
unfolding object_state
object_fits m i bs =
    record {
      value = number_lt 4 (object_row i + 0) m bs;
      old = number_lt 4 (object_row i + 4) m bs;
      occurrence = number_lt 1 (object_row i + 8) m bs;
      marks = number_lt 1 (object_row i + 9) m bs;
      overflow = number_lt 1 (object_row i + 10) m bs;
      head = number_lt 1 (object_row i + 11) m bs;
      count = number_lt 1 (object_row i + 12) m bs;
      queue = number_lt 2 (object_row i + 14) m bs;
    }

-- ---- a row is read from its own 16 bytes alone

pub ipdu_read : (m n : List ℕ) (j : ℕ) → ((o w : ℕ) → o + w ≤ 16 → part (ipdu_row j + o) w m ≡ part (ipdu_row j + o) w n)
    → ipdu_state m j ≡ ipdu_state n j
unfolding ipdu_state number_at
ipdu_read m n j e =
    rw (
      e 0 1 (omega arith),
      e 1 1 (omega arith),
      e 2 1 (omega arith),
      e 4 2 (omega arith),
      e 6 2 (omega arith),
      e 8 2 (omega arith),
      e 10 2 (omega arith),
    )

pub object_read : (m n : List ℕ) (j : ℕ) → ((o w : ℕ) → o + w ≤ 16 → part (object_row j + o) w m ≡ part (object_row j + o) w n)
    → object_state m j ≡ object_state n j
unfolding object_state number_at
object_read m n j e =
    rw (
      e 0 4 (omega arith),
      e 4 4 (omega arith),
      e 8 1 (omega arith),
      e 9 1 (omega arith),
      e 10 1 (omega arith),
      e 11 1 (omega arith),
      e 12 1 (omega arith),
      e 14 2 (omega arith),
    )

-- ---- other rows are as they were

pub ipdu_other : (m : List ℕ) (k : ℕ) (s : IpduState) → ipdu_row k + row_size ≤ length m → (j : ℕ) → (j ≡ k → ⊥)
    → ipdu_state (with_ipdu_state m k s) j ≡ ipdu_state m j
ipdu_other m k s room j ne =
    ipdu_read (with_ipdu_state m k s) m j (λ o w h. ipdu_part m k s room (ipdu_row j + o) w (other_row ipdu_rows j k o w ne h))

pub object_other : (m : List ℕ) (i : ℕ) (s : ObjectState) → object_row i + row_size ≤ length m → (j : ℕ) → (j ≡ i → ⊥)
    → object_state (with_object_state m i s) j ≡ object_state m j
object_other m i s room j ne =
    object_read (with_object_state m i s) m j (λ o w h. object_part m i s room (object_row j + o) w (other_row object_rows j i o w ne h))

pub ipdu_keeps_objects : (m : List ℕ) (k : ℕ) (s : IpduState) → ipdu_row k + row_size ≤ length m → k < most_ipdus → (i : ℕ)
    → object_state (with_ipdu_state m k s) i ≡ object_state m i
ipdu_keeps_objects m k s room low i =
    object_read (with_ipdu_state m k s) m i (λ o w h. ipdu_part m k s room (object_row i + o) w (inr (omega arith)))

-- bytes put into a slot
pub slot_keeps_objects : (m : List ℕ) (k : ℕ) (f : List ℕ) → length f ≤ 8 → k < most_ipdus → slot_at k + length f ≤ length m → (i : ℕ)
    → object_state (replaced (slot_at k) f m) i ≡ object_state m i
slot_keeps_objects m k f few low room i =
    object_read (replaced (slot_at k) f m) m i (λ o w h. part_apart (slot_at k) f m (object_row i + o) w room (inr (omega arith)))

pub object_keeps_ipdus : (m : List ℕ) (i : ℕ) (s : ObjectState) → object_row i + row_size ≤ length m → (k : ℕ) → k < most_ipdus
    → ipdu_state (with_object_state m i s) k ≡ ipdu_state m k
object_keeps_ipdus m i s room k low =
    ipdu_read (with_object_state m i s) m k (λ o w h. object_part m i s room (ipdu_row k + o) w (inl (omega arith)))

-- ---- rows that differ may be stored in either order

module _ (m : List ℕ) (i : ℕ) (o : ObjectState) (room : object_row i + row_size ≤ length m) where
  pub ipdu_past_object : (k : ℕ) (s : IpduState) → k < most_ipdus → with_ipdu_state (with_object_state m i o) k s ≡ with_object_state (with_ipdu_state m k s) i o
  unfolding with_ipdu_state with_object_state
  ipdu_past_object k s low =
      put_commute (object_row i) (ipdu_row k) 0 row_size (object_fields o) (ipdu_fields s) m refl refl room (omega arith) (inr (omega arith))

  pub object_past_object : (j : ℕ) (p : ObjectState) → (i ≡ j → ⊥) → object_row j + row_size ≤ length m
      → with_object_state (with_object_state m i o) j p ≡ with_object_state (with_object_state m j p) i o
  unfolding with_object_state
  object_past_object j p ne there =
      put_commute (object_row i) (object_row j) 0 row_size (object_fields o) (object_fields p) m refl refl room there
      (⊎_elim (λ (b : i < j). inl (omega arith)) (λ (b : j ≤ i). inr (omega (arith, ne))) (lt_or_le i j))

-- ---- a row stored as it was read changes nothing

pub ipdu_same : (m : List ℕ) (k : ℕ) → Bytes m → ipdu_row k + row_size ≤ length m → with_ipdu_state m k (ipdu_state m k) ≡ m
unfolding with_ipdu_state ipdu_state
ipdu_same m k bs room =
    put_same (ipdu_row k) 0 row_size (ipdu_fields (ipdu_state m k)) m bs refl room (refl, (refl, (refl, (refl, (refl, (refl, (refl, tt)))))))
