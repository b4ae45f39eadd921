-- Document 01, "The table", with W-205: what the check names. The first wrong record, in the order header, I-PDUs, objects.
-- Assumes nothing.
use Rattle.std.specs.Prelude.{Bool, true, not, ◌||◌, List, Result, Ok, Err, ◌≡◌, ℕ, suc, ◌+◌, ◌≤◌, ◌<◌, ltb, length}
use Rattle.memory.specs.Search.{pick, least, sum_below}
use Rattle.table.specs.declared.Counts.{Counts}
use Rattle.table.specs.declared.WrongRecord.{WrongRecord}
use Rattle.table.specs.declared.WrongRecord.TheVariants.{Header, Ipdu, Object}
use Rattle.table.specs.Records.{most_ipdus, most_objects, most_queued, table_length, counts, ipdu_record, object_record}
use Rattle.table.specs.Rules.{header_right, ipdu_right, references, object_right}

-- a table whose header is right has this shape
pub record Shape (t : List ℕ) (c : Counts) : Type 0 where
  pub ipdus : c.ipdus ≤ most_ipdus
  pub objects : c.objects ≤ most_objects
  pub long : length t ≡ table_length c.ipdus c.objects

-- ---- what is wrong

abbrev pub wrong_ipdu : List ℕ → ℕ → Bool
wrong_ipdu t k = not (ipdu_right (ipdu_record t k))

-- an object's record is wrong by itself
abbrev pub wrong_alone : List ℕ → Counts → ℕ → Bool
wrong_alone t c i =
    not (object_right (object_record t c.ipdus i) (references t c (object_record t c.ipdus i)))

-- the queue depths of the first k objects
abbrev pub depths : List ℕ → Counts → ℕ → ℕ
depths t c k = sum_below k (λ j. (object_record t c.ipdus j).depth)

-- an object carries the depth sum past its limit
abbrev pub past_depth : List ℕ → Counts → ℕ → Bool
past_depth t c i = ltb most_queued (depths t c (suc i))

-- what makes an object the one that is named: its record, or the sum of the depths. Readings may share bits (W-205)
abbrev pub wrong_object : List ℕ → Counts → ℕ → Bool
wrong_object t c i = wrong_alone t c i || past_depth t c i

-- ---- the first wrong record: the header, else the lowest I-PDU, else the lowest object

abbrev pub check_objects : List ℕ → Counts → ℕ → Result Counts WrongRecord
check_objects t c i = pick (ltb i c.objects) (Err (Object (record { 0 = i }))) (Ok c)

abbrev pub check_ipdus : List ℕ → Counts → ℕ → Result Counts WrongRecord
check_ipdus t c k =
    pick (ltb k c.ipdus) (Err (Ipdu (record { 0 = k }))) (check_objects t c (least c.objects (wrong_object t c)))

abbrev pub check_records : List ℕ → Counts → Result Counts WrongRecord
check_records t c = check_ipdus t c (least c.ipdus (wrong_ipdu t))

unfoldable pub check : List ℕ → Result Counts WrongRecord
check t = pick (header_right t) (check_records t (counts t)) (Err Header)

-- ---- a table with no wrong record
pub record Right (t : List ℕ) (c : Counts) : Type 0 where
  pub header : header_right t ≡ true
  pub counted : c ≡ counts t
  pub shape : Shape t c
  pub ipdus : (k : ℕ) → k < c.ipdus → ipdu_right (ipdu_record t k) ≡ true
  pub objects : (i : ℕ) → i < c.objects → object_right (object_record t c.ipdus i) (references t c (object_record t c.ipdus i)) ≡ true
  pub depth : depths t c c.objects ≤ most_queued

-- ---- document 01's number for an answer, and what it returns: 5 with the place, 0 with 0
abbrev pub number_of : Result Counts WrongRecord → ℕ
number_of (Ok c) = 0
number_of (Err wrong) = 5

abbrev pub place_of : Result Counts WrongRecord → ℕ
place_of (Ok c) = 0
place_of (Err Header) = 65535
place_of (Err (Ipdu k)) = k.0
place_of (Err (Object i)) = 256 + i.0
