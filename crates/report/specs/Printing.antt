-- W-201: the line that is printed for a call: its number, then the value that a receive or marks gave, then each request with its bytes
-- as capital hex digits, by rising I-PDU. The value of a signed object is printed as signed (W-207). Assumes nothing.
use Rattle.std.specs.Prelude.{Bool, true, false, ◌||◌, List, [], ◌∷◌, ◌++◌, ℕ, zero, suc, ◌+◌, ◌*◌, ◌/◌, ◌%◌, ◌^◌, ◌≤◌, ◌<◌, eqb, length}
use Rattle.memory.specs.Bytes.{part}
use Rattle.memory.specs.Search.{pick}
use Rattle.memory.specs.Texts.{blank, line_feed, digit_of, number_field}
use Rattle.memory.specs.Integers.{integer, integer_field}
use Rattle.table.specs.Records.{most_ipdus, ipdu_base, counts, ipdu_record}
use Rattle.config.specs.Decode.{is_signed}
use Rattle.calls.specs.Answers.{Answer}
use Rattle.calls.specs.Answers.{number_of, value_of}
use Rattle.script.specs.declared.Ask.{Ask}
use Rattle.script.specs.declared.Ask.TheVariants.{Receive, Status, Marks, ClearMarks}
use Rattle.script.specs.declared.Command.{Command}
use Rattle.script.specs.declared.Command.TheVariants.{Start, Stop, Send, Initialise, Object, Periodic, Indication, Confirm, Tick}
use Rattle.report.specs.declared.Shown.{Shown}
use Rattle.report.specs.declared.Shown.TheVariants.{StatusAlone, Value, Requests}
use Rattle.script.specs.Characters.{codes}
use Rattle.script.specs.Text.{hex}

-- ---- a send and a tick are lent a request area

abbrev pub lends : Command → Bool
lends Start = false
lends Stop = false
lends (Send i v) = true
lends (Initialise i v) = false
lends (Object ask i) = false
lends (Periodic on) = false
lends (Indication k good) = false
lends (Confirm k good) = false
lends Tick = true

-- ---- what is printed behind the status

abbrev pub shown_value : Bool → Bool → Answer → Shown
shown_value gives signed a = pick gives (Value signed (value_of a)) StatusAlone

-- `signed` is whether the object is
abbrev pub shown_ask : Ask → Bool → Answer → Shown
shown_ask Receive signed a = shown_value (eqb (number_of a) 0 || eqb (number_of a) 3) signed a
shown_ask Status signed a = StatusAlone
shown_ask Marks signed a = shown_value (eqb (number_of a) 0) false a
shown_ask ClearMarks signed a = StatusAlone

abbrev pub shown : List ℕ → Command → Answer → Shown
shown t Start a = StatusAlone
shown t Stop a = StatusAlone
shown t (Send i v) a = Requests (value_of a)
shown t (Initialise i v) a = StatusAlone
shown t (Object ask i) a = shown_ask ask (is_signed t (counts t) i.0) a
shown t (Periodic on) a = StatusAlone
shown t (Indication k good) a = StatusAlone
shown t (Confirm k good) a = StatusAlone
shown t Tick a = Requests (value_of a)

abbrev pub val_name : List ℕ
val_name = codes " val"

abbrev pub req_name : List ℕ
req_name = codes " req"

-- I-PDU k: its number and the first L bytes of its slot in the request area
unfoldable pub request_text : List ℕ → ℕ → List ℕ → List ℕ
request_text t k area = req_name ++ number_field k ++ blank ∷ hex (part (8 * k) (ipdu_record t k).length area)

-- of the I-PDUs below n, those that the word names
unfoldable pub request_texts : List ℕ → ℕ → ℕ → List ℕ → List ℕ
request_texts t zero word area = []
request_texts t (suc k) word area = request_texts t k word area ++ pick (eqb (word / 2 ^ k % 2) 1) (request_text t k area) []

abbrev pub shown_text : List ℕ → List ℕ → Shown → List ℕ
shown_text t area StatusAlone = []
shown_text t area (Value signed v) = val_name ++ integer_field (integer signed v)
shown_text t area (Requests word) = request_texts t (counts t).ipdus word area

-- ---- the line, over the request area that the call left

unfoldable pub answer_line : List ℕ → Command → Answer → List ℕ → List ℕ
answer_line t command a area = digit_of (number_of a) ∷ shown_text t area (shown t command a) ++ line_feed ∷ []

-- `9 N`, where line N can't be read
unfoldable pub refusal_line : ℕ → List ℕ
refusal_line n = digit_of 9 ∷ number_field n ++ line_feed ∷ []

-- the longest line that is printed
abbrev pub longest_line : ℕ
longest_line = 770

-- I-PDU k is in the table, and its length is one that a slot holds
pub record InTable (t : List ℕ) (k : ℕ) : Type 0 where
  pub number : k < most_ipdus
  pub inside : ipdu_base + 16 * k + 16 ≤ length t
  pub few : (ipdu_record t k).length ≤ 8
