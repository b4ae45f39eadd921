-- What is asked of one message object, and what its steps give: its row in range, places of its queue inside working memory.
-- Assumes nothing.
use Rattle.std.proofs.Common.{List, ⊎_elim, ◌≡◌, ℕ, ◌+◌, ◌≤◌, ◌<◌, zero-le, arith, lt-ltb, le-ltb, length}
use Rattle.table.specs.Records.{most_queued}
use Rattle.memory.proofs.Tests.{lt_or_le}
use Rattle.state.specs.declared.ObjectState.{ObjectState}
use Rattle.state.specs.Layout.{row_size, object_row, object_state}
use Rattle.queue.specs.Queues.{Held, around, place_at}

-- a place of the ring
pub around_low : (depth p : ℕ) → around depth p ≤ p
around_low depth p =
    ⊎_elim
    (λ (h : p < depth). rw (lt-ltb p depth h) (omega arith))
    (λ (h : depth ≤ p). rw (le-ltb p depth h) (omega arith))
    (lt_or_le p depth)

pub around_lt : (depth p : ℕ) → p < depth + depth → around depth p < depth
around_lt depth p b =
    ⊎_elim
    (λ (h : p < depth). rw (lt-ltb p depth h) h)
    (λ (h : depth ≤ p). rw (le-ltb p depth h) (omega arith))
    (lt_or_le p depth)

-- the places of an object's queue lie in working memory
pub record QueueRoom (depth : ℕ) (s : ObjectState) (end : ℕ) : Type 0 where
  pub queue : s.queue ≤ most_queued
  pub head : s.head ≤ 16
  pub count : s.count ≤ 16
  pub room : (n : ℕ) → n ≤ depth → place_at depth s n + 4 ≤ end

pub queue_room : (depth i : ℕ) (m : List ℕ) → Held depth i m → QueueRoom depth (object_state m i) (length m)
queue_room depth i m h =
    record {
      queue = omega (arith, h.queue);
      head = omega (arith, h.head, h.few);
      count = omega (arith, h.count, h.few);
      room = room;
    }
  where
    inside : (n : ℕ) → n ≤ depth → (object_state m i).queue + around depth ((object_state m i).head + n) ≤ most_queued
    inside n b =
        ⊎_elim
        (λ (some : 0 < depth). omega (arith, h.queue, around_lt depth ((object_state m i).head + n) (omega (arith, b, h.head))))
        (λ (empty : depth ≤ 0). omega (arith, h.queue, around_low depth ((object_state m i).head + n), b, h.head))
        (lt_or_le 0 depth)

    room : (n : ℕ) → n ≤ depth → place_at depth (object_state m i) n + 4 ≤ length m
    room n b = omega (arith, inside n b, h.long)

-- ---- of a row that was read

module _ (depth i : ℕ) (m : List ℕ) (held : Held depth i m) where
  pub held_row : object_row i + row_size ≤ length m
  held_row = omega (arith, held.number, held.long)

  pub held_row_after : (n : List ℕ) → length n ≡ length m → object_row i + row_size ≤ length n
  held_row_after n same = omega (arith, held_row, same)

  module _ (s : ObjectState) (row : s ≡ object_state m i) where
    pub held_queue : s.queue ≤ most_queued
    held_queue = rw row (queue_room depth i m held).queue

    pub held_head : s.head ≤ 16
    held_head = rw row (queue_room depth i m held).head

    pub held_count : s.count ≤ 16
    held_count = rw row (queue_room depth i m held).count

    pub oldest_room : (at : ℕ) → at ≡ place_at depth s 0 → at + 4 ≤ length m
    oldest_room at place = rw (place, row) ((queue_room depth i m held).room 0 zero-le)

    pub newest_room : (at : ℕ) → at ≡ place_at depth s s.count → at + 4 ≤ length m
    newest_room at place = rw (place, row) ((queue_room depth i m held).room _ held.count)

pub some_held : (i : ℕ) (m : List ℕ) (s : ObjectState) → s ≡ object_state m i → 0 < (object_state m i).count → 1 ≤ s.count
some_held i m s row some = rw row some
