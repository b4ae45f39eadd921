-- The stored numbers of a row with some of them set, the others as they were.
-- Assumes nothing.
use Rattle.std.specs.Prelude.{ℕ}
use Rattle.filter.specs.declared.Filter.{Filter}
use Rattle.filter.specs.Filters.{next_count}
use Rattle.state.specs.declared.IpduState.{IpduState}
use Rattle.state.specs.declared.ObjectState.{ObjectState}

-- ---- a message object

-- one more filtering
abbrev pub counted : Filter → ObjectState → ObjectState
counted f s =
    record {
      value = s.value;
      old = s.old;
      occurrence = next_count f s.occurrence;
      marks = s.marks;
      overflow = s.overflow;
      head = s.head;
      count = s.count;
      queue = s.queue;
    }

abbrev pub with_old : ℕ → ObjectState → ObjectState
with_old v s =
    record {
      value = s.value;
      old = v;
      occurrence = s.occurrence;
      marks = s.marks;
      overflow = s.overflow;
      head = s.head;
      count = s.count;
      queue = s.queue;
    }

abbrev pub with_value : ℕ → ObjectState → ObjectState
with_value v s =
    record {
      value = v;
      old = s.old;
      occurrence = s.occurrence;
      marks = s.marks;
      overflow = s.overflow;
      head = s.head;
      count = s.count;
      queue = s.queue;
    }

abbrev pub with_marks : ℕ → ObjectState → ObjectState
with_marks b s =
    record {
      value = s.value;
      old = s.old;
      occurrence = s.occurrence;
      marks = b;
      overflow = s.overflow;
      head = s.head;
      count = s.count;
      queue = s.queue;
    }

-- whether a value was lost, the place of the oldest value, and how many there are
abbrev pub with_queue : ℕ → ℕ → ℕ → ObjectState → ObjectState
with_queue lost first n s =
    record {
      value = s.value;
      old = s.old;
      occurrence = s.occurrence;
      marks = s.marks;
      overflow = lost;
      head = first;
      count = n;
      queue = s.queue;
    }

-- ---- an I-PDU

-- whether a request is open, and its deadline
abbrev pub with_request : ℕ → ℕ → IpduState → IpduState
with_request x d s =
    record {
      requested = x;
      wanted = s.wanted;
      running = s.running;
      delay = s.delay;
      deadline = d;
      countdown = s.countdown;
      timer = s.timer;
    }

abbrev pub with_wanted : ℕ → IpduState → IpduState
with_wanted x s =
    record {
      requested = s.requested;
      wanted = x;
      running = s.running;
      delay = s.delay;
      deadline = s.deadline;
      countdown = s.countdown;
      timer = s.timer;
    }

abbrev pub with_delay : ℕ → IpduState → IpduState
with_delay d s =
    record {
      requested = s.requested;
      wanted = s.wanted;
      running = s.running;
      delay = d;
      deadline = s.deadline;
      countdown = s.countdown;
      timer = s.timer;
    }

-- whether the period runs, and its countdown
abbrev pub with_period : ℕ → ℕ → IpduState → IpduState
with_period x d s =
    record {
      requested = s.requested;
      wanted = s.wanted;
      running = x;
      delay = s.delay;
      deadline = s.deadline;
      countdown = d;
      timer = s.timer;
    }

abbrev pub with_timer : ℕ → IpduState → IpduState
with_timer d s =
    record {
      requested = s.requested;
      wanted = s.wanted;
      running = s.running;
      delay = s.delay;
      deadline = s.deadline;
      countdown = s.countdown;
      timer = d;
    }
