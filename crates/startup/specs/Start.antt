-- Document 01, "Calls", with W-205: what a start writes. Assumes nothing.
use Rattle.std.specs.Prelude.{List, [], ℕ, eqb, replicate}
use Rattle.memory.specs.Search.{pick, fold}
use Rattle.table.specs.declared.Counts.{Counts}
use Rattle.config.specs.declared.Direction.{Direction}
use Rattle.config.specs.declared.Direction.TheVariants.{Send, Receive}
use Rattle.config.specs.declared.Ipdu.{Ipdu}
use Rattle.config.specs.declared.Object.{Object}
use Rattle.table.specs.Check.{depths}
use Rattle.state.specs.declared.IpduState.{IpduState}
use Rattle.state.specs.declared.ObjectState.{ObjectState}
use Rattle.state.specs.Layout.{memory_size, with_running, with_ipdu_state, with_object_state}
use Rattle.message.specs.Objects.{object, pack}
use Rattle.transmission.specs.Requests.{ipdu}
use Rattle.calls.specs.Answers.{done_with}
use Rattle.calls.specs.Answers.{Outcome, outcome}

-- every byte without a meaning is 0
unfoldable pub blank : List ℕ
blank = replicate memory_size 0

-- nothing is requested or waits, no delay and no period runs
abbrev pub idle : ℕ → IpduState
idle timer =
    record {
      requested = 0;
      wanted = 0;
      running = 0;
      delay = 0;
      deadline = 0;
      countdown = 0;
      timer = timer;
    }

-- receive timers at F, else R
abbrev pub first_timer : Direction → Ipdu → ℕ
first_timer Send p = 0
first_timer Receive p = pick (eqb p.first_deadline 0) p.deadline p.first_deadline

abbrev pub start_ipdu : List ℕ → ℕ → List ℕ → List ℕ
start_ipdu t k m = with_ipdu_state m k (idle (first_timer (ipdu t k).direction (ipdu t k)))

-- queues empty, overflow and marks clear, occurrences 0
abbrev pub unused : ℕ → ℕ → ℕ → ObjectState
unused value old queue =
    record {
      value = value;
      old = old;
      occurrence = 0;
      marks = 0;
      overflow = 0;
      head = 0;
      count = 0;
      queue = queue;
    }

-- an object's initial value: packed, or the value of a receive object, and old in both
abbrev pub start_as : Direction → Object → ℕ → ℕ → List ℕ → List ℕ
start_as Send o i queue m = pack o o.initial (with_object_state m i (unused 0 o.initial queue))
start_as Receive o i queue m = with_object_state m i (unused o.initial o.initial queue)

abbrev pub start_object : List ℕ → Counts → ℕ → List ℕ → List ℕ
start_object t c i m = start_as (object t c i).direction (object t c i) i (depths t c i) m

-- all rows written, by rising number: where initial values overlap, that of the higher object stands (W-205). The layer does not run yet
unfoldable pub prepared : List ℕ → Counts → List ℕ
prepared t c = fold c.objects (start_object t c) (fold c.ipdus (start_ipdu t) blank)

-- working memory after a start, a function of the table alone
unfoldable pub started : List ℕ → Counts → List ℕ
started t c = with_running (prepared t c) 1

-- start writes the first 8,192 bytes, whatever was there
abbrev pub start_in : List ℕ → Counts → List ℕ → Outcome
start_in t c m = outcome (done_with 0) (started t c) []
