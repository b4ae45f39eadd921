-- The form of a proved case: a packing, a room, the values that a filter passes, the counts of filterings, a verdict of the check, or a
-- list of calls with what each answers and hands over.
-- Tables are put together from records. Working memory is one list of 8,192 equal bytes, nonzero before the start.
-- Assumes nothing.
use Rattle.std.specs.Prelude.{Bool, List, [], ◌∷◌, ◌++◌, ◌≡◌, ℕ, suc, ◌+◌, ◌*◌, replicate, Result}
use Rattle.memory.specs.Bytes.{bytes_of, part}
use Rattle.memory.specs.Search.{pick}
use Rattle.bits.specs.declared.Order.{Order}
use Rattle.bits.specs.Bits.{room, packed, unpacked, extended}
use Rattle.filter.specs.declared.Filter.{Filter}
use Rattle.filter.specs.Filters.{passes, next_count, filter_of}
use Rattle.table.specs.declared.WrongRecord.{WrongRecord}
use Rattle.table.specs.Records.{table_length}
use Rattle.table.specs.Check.{check}
use Rattle.state.specs.Layout.{memory_size, area_size}
use Rattle.calls.specs.Answers.{Outcome, number_of, value_of}
use Rattle.layer.specs.Step.{Call, run}
use Rattle.table.specs.declared.Counts.{Counts}

-- a call, the number and value that it answers, and the bytes of some slots of its request area after it
pub record Line : Type 0 where
  pub call : Call
  pub number : ℕ
  pub value : ℕ
  pub slots : List ℕ
  pub bytes : List ℕ

abbrev pub line : Call → ℕ → ℕ → Line
line call number value = record { call = call; number = number; value = value; slots = []; bytes = [] }

-- a line that also looks at these slots of the request area
abbrev pub shows : Call → ℕ → ℕ → List ℕ → List ℕ → Line
shows call number value slots bytes = record { call = call; number = number; value = value; slots = slots; bytes = bytes }

-- a value of some bits, signed or not, at a start bit in L zero bytes, the frame that it gives and what unpacks from that; whether so many
-- bits at a start bit fit L bytes; a filter of an object that is signed or not, with its constants, old and occurrence, some values and those
-- of them that pass; a filter with its
-- constants and the counts of its first filterings; what the check answers to a table; or a table and a list of calls with what each answers
pub data Case : Type 0 where
  packs : Order → (signed : Bool) (n size value L : ℕ) → List ℕ → (back : ℕ) → Case
  fits : Order → (n size L : ℕ) → Bool → Case
  passing : (signed : Bool) (filter first second old occurrence : ℕ) (values passed : List ℕ) → Case
  counting : (filter first second : ℕ) (counts : List ℕ) → Case
  checks : (table : List ℕ) → Result Counts WrongRecord → Case
  answers : (table : List ℕ) → List Line → Case

abbrev pub calls_of : List Line → List Call
calls_of [] = []
calls_of (l ∷ ls) = l.call ∷ calls_of ls

-- all 8 bytes of these slots of a request area
abbrev pub slots_of : List ℕ → List ℕ → List ℕ
slots_of [] area = []
slots_of (k ∷ ks) area = part (8 * k) 8 area ++ slots_of ks area

-- what the lines say of each call, and what a run gives
abbrev pub expected : List Line → List (List ℕ)
expected [] = []
expected (l ∷ ls) = (l.number ∷ l.value ∷ l.bytes) ∷ expected ls

abbrev pub answered : List Line → List Outcome → List (List ℕ)
answered [] os = []
answered (l ∷ ls) [] = []
answered (l ∷ ls) (o ∷ os) = (number_of o.answer ∷ value_of o.answer ∷ slots_of l.slots o.area) ∷ answered ls os

-- the values that pass a filter, each given the same old and occurrence
abbrev pub passed_of : (signed : Bool) (filter first second old occurrence : ℕ) → List ℕ → List ℕ
passed_of signed filter first second old occurrence [] = []
passed_of signed filter first second old occurrence (new ∷ vs) =
    pick (passes signed (filter_of filter first second) new old occurrence) (new ∷ passed_of signed filter first second old occurrence vs)
    (passed_of signed filter first second old occurrence vs)

-- the counts of as many filterings, from n on
abbrev pub counts_from : Filter → ℕ → List ℕ → List ℕ
counts_from f n [] = []
counts_from f n (c ∷ cs) = n ∷ counts_from f (next_count f n) cs

abbrev pub Holds : Case → Type 0
Holds (packs o signed n size v L f back) = (packed o n size v (replicate L 0) ≡ f) × (extended signed size (unpacked o n size f) ≡ back)
Holds (fits o n size L answer) = room o n size L ≡ answer
Holds (passing signed filter first second old occurrence values passed) = passed_of signed filter first second old occurrence values ≡ passed
Holds (counting filter first second counts) = counts_from (filter_of filter first second) 0 counts ≡ counts
Holds (checks table verdict) = check table ≡ verdict
Holds (answers table lines) = answered lines (run table (calls_of lines) (replicate memory_size 165)) ≡ expected lines

abbrev pub AllHold : List Case → Type 0
AllHold [] = Unit {0}
AllHold (c ∷ cs) = Holds c × AllHold cs

-- ---- tables: a header, I-PDU records, object records

abbrev pub joined : List (List ℕ) → List ℕ
joined [] = []
joined (r ∷ rs) = r ++ joined rs

abbrev pub many : List (List ℕ) → ℕ
many [] = 0
many (r ∷ rs) = suc (many rs)

abbrev pub header : (ipdus objects : ℕ) → List ℕ
header ipdus objects =
    bytes_of 2 ipdus ++ bytes_of 2 objects ++ bytes_of 2 16 ++ bytes_of 2 (16 + 16 * ipdus) ++ bytes_of 2 (table_length ipdus objects) ++ replicate 6 0

abbrev pub table_of : (ipdus objects : List (List ℕ)) → List ℕ
table_of ipdus objects = header (many ipdus) (many objects) ++ joined ipdus ++ joined objects

-- an I-PDU record, its fields in their order
abbrev pub ipdu_bytes : (direction L mode period offset delay deadline first : ℕ) → List ℕ
ipdu_bytes direction L mode period offset delay deadline first =
    (direction ∷ L ∷ mode ∷ 0 ∷ []) ++ bytes_of 2 period ++ bytes_of 2 offset ++ bytes_of 2 delay ++ bytes_of 2 deadline ++ bytes_of 2 first ++ replicate 2 0

-- I-PDUs of 4 bytes
abbrev pub send_ipdu : (mode period offset delay deadline : ℕ) → List ℕ
send_ipdu mode period offset delay deadline = ipdu_bytes 1 4 mode period offset delay deadline 0

abbrev pub receive_ipdu : (deadline first : ℕ) → List ℕ
receive_ipdu deadline first = ipdu_bytes 2 4 0 0 0 0 deadline first

-- an object record, its fields in their order
abbrev pub object_bytes : (kind ipdu sender n size order transfer depth filter initial first second : ℕ) → List ℕ
object_bytes kind ipdu sender n size order transfer depth filter initial first second =
    (kind ∷ ipdu ∷ sender ∷ n ∷ size ∷ order ∷ transfer ∷ depth ∷ filter ∷ 0 ∷ 0 ∷ 0 ∷ [])
    ++ bytes_of 4 initial ++ bytes_of 4 first ++ bytes_of 4 second ++ replicate 8 0

-- objects of I-PDU 0, 12 bits from bit 13 on in the little order, initial value 0: a triggered send object; a receive object with
-- filter 0
abbrev pub send_object : (filter first second : ℕ) → List ℕ
send_object filter first second = object_bytes 1 0 255 13 12 0 0 0 filter 0 first second

abbrev pub receive_object : (depth : ℕ) → List ℕ
receive_object depth = object_bytes 2 0 255 13 12 0 0 depth 0 0 0 0

-- one I-PDU and one object
abbrev pub pair : (ipdu object : List ℕ) → List ℕ
pair ipdu object = table_of (ipdu ∷ []) (object ∷ [])

-- a request area
abbrev pub area : List ℕ
area = replicate area_size 170
