-- What a crate over the layer is promised: whether a call goes on, and of one object its receives, status and marks, the values that wait
-- for it and whether they are signed. The promises are the laws of proofs/Promises; a crate that cites these needs to open no definition of this file.
-- Assumes nothing.
use Rattle.std.specs.Prelude.{Bool, true, not, ◌&&◌, List, ◌≡◌, ℕ, eqb, Result, Ok, Err}
use Rattle.memory.specs.Bytes.{Bytes}
use Rattle.table.specs.Records.{receiving, counts, object_record}
use Rattle.config.specs.Decode.{is_signed}
use Rattle.queue.specs.Queues.{waiting}
use Rattle.calls.specs.Answers.{Outcome}
use Rattle.calls.specs.Calls.{is_object}
use Rattle.layer.specs.declared.Reply.{Reply}
use Rattle.layer.specs.Admission.{admission, working_memory}
use Rattle.layer.specs.Step.{receive, status, marks, clear_marks, step}
-- a crate over the layer names these from here
pub use Rattle.calls.specs.declared.Success.{Success}
pub use Rattle.calls.specs.declared.Refusal.{Refusal}
pub use Rattle.calls.specs.Answers.{Answer, number_of, value_of}

-- ---- whether a call goes on

-- 0, or the number that refuses a call before it looks at its own numbers
abbrev pub refusal_of : {A : Type 0} → Result A Refusal → ℕ
refusal_of (Ok x) = 0
refusal_of (Err r) = number_of (Err r)

-- 5 for the table, 6 for memory or for what else the call is lent (`fits`: it is long enough and in range), 7 for a stopped layer
unfoldable pub refusal : List ℕ → List ℕ → Bool → ℕ
refusal t m fits = refusal_of (admission t m fits)

-- calls over these bytes go on
pub record Goes (t m : List ℕ) : Type 0 where
  pub table : Bytes t
  pub memory : Bytes m
  pub on : refusal t m true ≡ 0

-- ---- calls about one object

-- a number of document 01, and what is returned with it
abbrev pub reply : ℕ → ℕ → Reply
reply number value = record { number = number; value = value }

-- what a call gives: its reply, and working memory after it
pub record Replied : Type 0 where
  pub reply : Reply
  pub memory : List ℕ

abbrev pub replied : Reply → List ℕ → Replied
replied r m = record { reply = r; memory = m }

-- of an answer
abbrev pub reply_of : Answer → Reply
reply_of a = reply (number_of a) (value_of a)

abbrev pub answered : Answer → List ℕ → Replied
answered a m = replied (reply_of a) m

abbrev pub replied_of : Outcome → Replied
replied_of o = answered o.answer o.memory

-- the calls of document 01, over any table and memory
unfoldable pub received : List ℕ → ℕ → List ℕ → Replied
received t i m = replied_of (step t (receive i) m)

unfoldable pub status_read : List ℕ → ℕ → List ℕ → Replied
status_read t i m = replied_of (step t (status i) m)

unfoldable pub marks_read : List ℕ → ℕ → List ℕ → Replied
marks_read t i m = replied_of (step t (marks i) m)

unfoldable pub marks_cleared : List ℕ → ℕ → List ℕ → Replied
marks_cleared t i m = replied_of (step t (clear_marks i) m)

-- ---- queued objects

-- a receive object with a queue
unfoldable pub queued : List ℕ → ℕ → Bool
queued t i = is_object t (counts t) receiving i && not (eqb (object_record t (counts t).ipdus i).depth 0)

-- the values that wait for it, the oldest first
unfoldable pub waiting_for : List ℕ → ℕ → List ℕ → List ℕ
waiting_for t i m = waiting (object_record t (counts t).ipdus i).depth i (working_memory m)

-- its values are signed (W-207)
unfoldable pub reads_signed : List ℕ → ℕ → Bool
reads_signed t i = is_signed t (counts t) i
