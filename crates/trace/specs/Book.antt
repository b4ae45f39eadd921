-- Document 01, "Demand 3's book": what it holds and how a call changes it. Nothing but the table and what a call is given goes into it;
-- a request area goes in as its length, working memory not at all. Assumes nothing.
use Rattle.std.specs.Prelude.{Bool, true, false, not, ◌&&◌, List, [], ◌∷◌, ◌++◌, ◌≡◌, ℕ, leb, ltb, eqb, length}
use Rattle.memory.specs.Search.{pick, least, fold}
use Rattle.bits.specs.Bits.{bit, place, owns}
use Rattle.filter.specs.Filters.{passes, next_count}
use Rattle.table.specs.declared.Counts.{Counts}
use Rattle.table.specs.declared.ObjectRecord.{ObjectRecord}
use Rattle.table.specs.Records.{sending, object_record}
use Rattle.table.specs.Rules.{order_of, signed_of, record_filter}
use Rattle.layer.specs.Step.{Call, Told, told_start, told_stop, told_send, told_initialise, told_nothing, lent_bytes, describe}
use Rattle.state.specs.Layout.{area_size}

-- an entry: a send object and a value that it kept
pub record Entry : Type 0 where
  pub object : ℕ
  pub value : ℕ

-- entries, the latest first; the count of each send object's filter; whether the layer is stopped
pub record Book : Type 0 where
  pub entries : List Entry
  pub counts : ℕ → ℕ
  pub stopped : Bool

-- the book of a layer that was never started
abbrev pub unopened : Book
unopened = record { entries = []; counts = λ i. 0; stopped = true }

abbrev pub enter : ℕ → ℕ → List Entry → List Entry
enter i v es = record { object = i; value = v } ∷ es

-- there is a send object of this number
abbrev pub sends : List ℕ → Counts → ℕ → Bool
sends t c i = ltb i c.objects && eqb (object_record t c.ipdus i).kind sending

-- ---- a start enters the initial value of every send object, by rising number; no count, and it runs

abbrev pub open_entry : List ℕ → Counts → ℕ → List Entry → List Entry
open_entry t c i es = pick (eqb (object_record t c.ipdus i).kind sending) (enter i (object_record t c.ipdus i).initial es) es

abbrev pub opened : List ℕ → Counts → Book
opened t c = record { entries = fold c.objects (open_entry t c) []; counts = λ i. 0; stopped = false }

-- ---- a send: the filter judges the new value by the one that was entered last and by the count, which goes on as in the layer. A
-- value that passes is entered, whole; one that does not leaves no entry

abbrev pub last_of : ℕ → List Entry → ℕ
last_of i [] = 0
last_of i (e ∷ es) = pick (eqb e.object i) e.value (last_of i es)

abbrev pub judges : ObjectRecord → ℕ → ℕ → ℕ → Bool
judges r new old count = passes (signed_of r.order) (record_filter r) new old count

abbrev pub keeps : List ℕ → Counts → Book → ℕ → ℕ → Bool
keeps t c b i v = judges (object_record t c.ipdus i) v (last_of i b.entries) (b.counts i)

abbrev pub next_counts : List ℕ → Counts → ℕ → (ℕ → ℕ) → ℕ → ℕ
next_counts t c i counts j = pick (eqb j i) (next_count (record_filter (object_record t c.ipdus j)) (counts j)) (counts j)

abbrev pub after_send : List ℕ → Counts → Book → ℕ → ℕ → Book
after_send t c b i v =
    record {
      entries = pick (keeps t c b i v) (enter i v b.entries) b.entries;
      counts = next_counts t c i b.counts;
      stopped = b.stopped;
    }

-- an initialise of a send object enters its value and counts nothing
abbrev pub initialised : List ℕ → Counts → Book → ℕ → ℕ → Book
initialised t c b i v =
    pick (sends t c i) (record { entries = enter i v b.entries; counts = b.counts; stopped = b.stopped }) b

-- ---- a call: the book is fed what it tells, and the length of its request area

-- which of these calls goes on, by the table, what the call is given and whether the layer is stopped
abbrev pub accepts : List ℕ → Counts → Book → Told → ℕ → Bool
accepts t c b told_start n = true
accepts t c b told_stop n = not b.stopped
accepts t c b (told_send i v) n = leb area_size n && not b.stopped && sends t c i
accepts t c b (told_initialise i v) n = not b.stopped && ltb i c.objects
accepts t c b told_nothing n = true

abbrev pub entered : List ℕ → Counts → Book → Told → Book
entered t c b told_start = opened t c
entered t c b told_stop = record { entries = b.entries; counts = b.counts; stopped = true }
entered t c b (told_send i v) = after_send t c b i v
entered t c b (told_initialise i v) = initialised t c b i v
entered t c b told_nothing = b

-- a refused call leaves the book alone
abbrev pub next : List ℕ → Counts → Book → Told → ℕ → Book
next t c b told n = pick (accepts t c b told n) (entered t c b told) b

unfoldable pub advance : List ℕ → Counts → Book → Call → Book
advance t c b call = next t c b (describe call).told (length (lent_bytes (describe call).lent))

-- the book after a list of calls
abbrev pub book_after : List ℕ → Counts → Book → List Call → Book
book_after t c b [] = b
book_after t c b (call ∷ calls) = book_after t c (advance t c b call) calls

-- ---- frames

-- the object covers bit p of I-PDU k: one of its message bits goes there
abbrev pub owns_ipdu_bit : ObjectRecord → ℕ → ℕ → Bool
owns_ipdu_bit r k p = eqb r.ipdu k && owns (order_of r.order) r.start r.size p

-- the message bit that goes to bit p
abbrev pub message_bit : ObjectRecord → ℕ → ℕ → ℕ
message_bit r v p = bit v (least r.size (λ n. eqb (place (order_of r.order) r.start n) p))

-- bit p of I-PDU k, from the latest entry whose object covers it; 0 where none does
abbrev pub book_bit : List ℕ → Counts → List Entry → ℕ → ℕ → ℕ
book_bit t c [] k p = 0
book_bit t c (e ∷ es) k p =
    pick (owns_ipdu_bit (object_record t c.ipdus e.object) k p) (message_bit (object_record t c.ipdus e.object) e.value p) (book_bit t c es k p)

-- none of these entries covers the bit
abbrev pub NoneCovers : List ℕ → Counts → ℕ → ℕ → List Entry → Type 0
NoneCovers t c k p [] = Unit {0}
NoneCovers t c k p (e ∷ es) = (owns_ipdu_bit (object_record t c.ipdus e.object) k p ≡ false) × NoneCovers t c k p es

-- the bit is that of one entry's value: its object covers the bit, and no later entry does
pub record Latest (t : List ℕ) (c : Counts) (es : List Entry) (k p : ℕ) : Type 0 where
  pub entry : Entry
  pub later : List Entry
  pub earlier : List Entry
  pub among : es ≡ later ++ (entry ∷ earlier)
  pub covers : owns_ipdu_bit (object_record t c.ipdus entry.object) k p ≡ true
  pub uncovered : NoneCovers t c k p later
  pub bit : book_bit t c es k p ≡ message_bit (object_record t c.ipdus entry.object) entry.value p
