-- Document 01, "Calls": the queue of a message object, a ring in working memory, and the values that wait in it. Assumes nothing.
use Rattle.std.specs.Prelude.{List, [], ◌∷◌, ◌++◌, ℕ, ◌+◌, ◌-◌, ◌*◌, ◌≤◌, ◌<◌, zero, suc, ltb, length}
use Rattle.memory.specs.Bytes.{number_at}
use Rattle.memory.specs.Search.{pick}
use Rattle.table.specs.Records.{most_queued, most_objects}
use Rattle.state.specs.declared.ObjectState.{ObjectState}
use Rattle.state.specs.Layout.{memory_size, queues, object_state, with_object_state}
use Rattle.state.specs.Updates.{with_queue}

-- what the functions of a queue ask for: a row in range, of an object with this queue depth
pub record Held (depth i : ℕ) (m : List ℕ) : Type 0 where
  pub number : i < most_objects
  pub long : memory_size ≤ length m
  pub few : depth ≤ 16
  pub count : (object_state m i).count ≤ depth
  pub head : (object_state m i).head ≤ depth - 1
  pub queue : (object_state m i).queue + depth ≤ most_queued

-- ---- queues: a ring of as many places as the depth

-- place p of the ring: behind the last place is the first
abbrev pub around : ℕ → ℕ → ℕ
around depth p = pick (ltb p depth) p (p - depth)

-- where the value behind the n oldest ones stands
abbrev pub place_at : ℕ → ObjectState → ℕ → ℕ
place_at depth s n = queues + 4 * (s.queue + around depth (s.head + n))

-- ---- receive of a queued object: the oldest value, and the queue without it and with overflow cleared

unfoldable pub oldest : ℕ → ℕ → List ℕ → ℕ
oldest depth i m = number_at 4 (place_at depth (object_state m i) 0) m

abbrev pub dequeued : ℕ → ObjectState → ObjectState
dequeued depth s = with_queue 0 (around depth (s.head + 1)) (s.count - 1) s

unfoldable pub dequeue : ℕ → ℕ → List ℕ → List ℕ
dequeue depth i m = with_object_state m i (dequeued depth (object_state m i))

-- ---- the values that wait

-- the value behind the n oldest ones
abbrev pub value_behind : ℕ → ObjectState → List ℕ → ℕ → ℕ
value_behind depth s m n = number_at 4 (place_at depth s n) m

-- the n oldest values, the oldest first
abbrev pub oldest_values : ℕ → ObjectState → List ℕ → ℕ → List ℕ
oldest_values depth s m zero = []
oldest_values depth s m (suc n) = oldest_values depth s m n ++ (value_behind depth s m n ∷ [])

-- the values that wait in the queue of object i, the oldest first
unfoldable pub waiting : ℕ → ℕ → List ℕ → List ℕ
waiting depth i m = oldest_values depth (object_state m i) m (object_state m i).count
