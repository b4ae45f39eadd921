-- Demand 3, to the letter of document 01's "Demand 3's book": one claim over every list of calls and groups that begins with an accepted
-- start.
-- Assumes nothing.
use Rattle.std.specs.Prelude.{Bool, true, false, ◌&&◌, List, [], ◌∷◌, ◌⊎◌, ◌≡◌, ℕ, ◌*◌, ◌<◌, eqb, length}
use Rattle.std.specs.Int.Bits.{bit_or}
use Rattle.memory.specs.Bytes.{part}
use Rattle.memory.specs.Search.{any_below}
use Rattle.bits.specs.Bits.{bit, frame_bit}
use Rattle.table.specs.declared.Counts.{Counts}
use Rattle.table.specs.Records.{receiving, sending, counts, ipdu_record, object_record}
use Rattle.calls.specs.Answers.{Answer}
use Rattle.calls.specs.Answers.{Outcome, number_of, value_of}
use Rattle.layer.specs.Step.{Call, start, send, tick, Lent, no_area, requests, lent_bytes, Told, told_start, told_stop, told_send, told_initialise, told_nothing, describe, step, run}
use Rattle.group.specs.Groups.{Group, GroupOutcome, group_step}
use Rattle.trace.specs.Book.{Book, unopened, keeps, accepts, advance, book_bit}
use Rattle.trace.specs.Actions.{Action, single, group, leaves, group_sends, accepts_group, advance_by}
-- ---- calls and lists of them

-- whose arguments are of the types that a call takes
pub use Rattle.layer.specs.Step.{Small, Typed}

abbrev pub AllTyped : List Call → Type 0
AllTyped [] = Unit {0}
AllTyped (call ∷ calls) = Typed call × AllTyped calls

-- of an action: a group is given values of 32 bits; its area and status list may hold anything
abbrev pub TypedAction : Action → Type 0
TypedAction (single call) = Typed call
TypedAction (group g) = AllTyped (group_sends g)

abbrev pub ActionsTyped : List Action → Type 0
ActionsTyped [] = Unit {0}
ActionsTyped (x ∷ xs) = TypedAction x × ActionsTyped xs

abbrev pub done : Outcome → Bool
done o = eqb (number_of o.answer) 0

-- ---- frames

-- the requests: the word of a call that is lent a request area
abbrev pub word_in : Lent → Answer → ℕ
word_in no_area a = 0
word_in (requests area) a = value_of a

abbrev pub word_of : Call → Answer → ℕ
word_of call a = word_in (describe call).lent a

-- a frame: what a named I-PDU has in its slot, as many bytes as its length
abbrev pub frame : List ℕ → ℕ → List ℕ → List ℕ
frame t k area = part (8 * k) (ipdu_record t k).length area

abbrev pub Names : ℕ → ℕ → Type 0
Names word k = bit word k ≡ 1

-- ---- (a) one call, with the book before it

-- such a call is refused where the book says so, and nowhere else
abbrev pub Judged : List ℕ → Counts → Book → Told → ℕ → Bool → Type 0
Judged t c b told_start n went = went ≡ accepts t c b told_start n
Judged t c b told_stop n went = went ≡ accepts t c b told_stop n
Judged t c b (told_send i v) n went = went ≡ accepts t c b (told_send i v) n
Judged t c b (told_initialise i v) n went = went ≡ accepts t c b (told_initialise i v) n
Judged t c b told_nothing n went = Unit {0}

-- each bit of each frame is the book's, once this call is entered
pub record CallKept (t : List ℕ) (c : Counts) (b : Book) (call : Call) (o : Outcome) : Type 0 where
  pub judged : Judged t c b (describe call).told (length (lent_bytes (describe call).lent)) (done o)
  pub named : (k : ℕ) → Names (word_of call o.answer) k → (k < c.ipdus) × ((ipdu_record t k).direction ≡ sending)
  pub bits : (k : ℕ) → Names (word_of call o.answer) k → (p : ℕ) → p < 8 * (ipdu_record t k).length
      → frame_bit (frame t k o.area) p ≡ book_bit t c (advance t c b call).entries k p

-- every call of a list, memory handed from call to call
abbrev pub AllKept : List ℕ → Counts → Book → List Call → List ℕ → Type 0
AllKept t c b [] m = Unit {0}
AllKept t c b (call ∷ calls) m = CallKept t c b call (step t call m) × AllKept t c (advance t c b call) calls (step t call m).memory

-- no send of these asks for I-PDU k
abbrev pub Unnamed : ℕ → List Outcome → Type 0
Unnamed k [] = Unit {0}
Unnamed k (o ∷ os) = (Names (value_of o.answer) k → ⊥) × Unnamed k os

-- the frame is the one of the latest of these sends that asks for I-PDU k
abbrev pub HandedOver : List ℕ → ℕ → List ℕ → List Outcome → Type 0
HandedOver t k f [] = ⊥
HandedOver t k f (o ∷ os) = HandedOver t k f os ⊎ (Names (value_of o.answer) k × (f ≡ frame t k o.area) × Unnamed k os)

-- the numbers that they answer, and their words joined to w
abbrev pub numbers_of : List Outcome → List ℕ
numbers_of [] = []
numbers_of (o ∷ os) = number_of o.answer ∷ numbers_of os

abbrev pub words_joined : ℕ → List Outcome → ℕ
words_joined w [] = w
words_joined w (o ∷ os) = words_joined (bit_or w (value_of o.answer)) os

-- a group, with the book before it: refused where the book says so and nowhere else; else each of its sends is kept, one after the
-- other, its statuses and its word are theirs, and each frame that it hands over is the one of a send
pub record GroupKept (t : List ℕ) (c : Counts) (b : Book) (g : Group) (m : List ℕ) (o : GroupOutcome) : Type 0 where
  pub judged : eqb (number_of o.answer) 0 ≡ accepts_group b g
  pub sends : accepts_group b g ≡ true → AllKept t c b (group_sends g) m
  pub statuses : accepts_group b g ≡ true → o.statuses ≡ numbers_of (run t (group_sends g) m)
  pub word : accepts_group b g ≡ true → value_of o.answer ≡ words_joined 0 (run t (group_sends g) m)
  pub frames : (k : ℕ) → Names (value_of o.answer) k → HandedOver t k (frame t k o.area) (run t (group_sends g) m)

abbrev pub ActionKept : List ℕ → Counts → Book → Action → List ℕ → Type 0
ActionKept t c b (single call) m = CallKept t c b call (step t call m)
ActionKept t c b (group g) m = GroupKept t c b g m (group_step t g m)

-- every action of a list
abbrev pub ActionsKept : List ℕ → Counts → Book → List Action → List ℕ → Type 0
ActionsKept t c b [] m = Unit {0}
ActionsKept t c b (x ∷ xs) m = ActionKept t c b x m × ActionsKept t c (advance_by t c b x) xs (leaves t x m)

-- ---- (b) two lists, each with its book

-- a receive object names it as its sender
abbrev pub inside : List ℕ → Counts → ℕ → Bool
inside t c i = any_below c.objects (λ j. eqb (object_record t c.ipdus j).kind receiving && eqb (object_record t c.ipdus j).sender i)

-- two calls alike in all that the book is fed, but for values that the sending filter drops in both lists, of objects with no
-- receiver inside
pub data Alike (t : List ℕ) (c : Counts) (b d : Book) (x y : Call) : Type 0 where
  same : x ≡ y → Alike t c b d x y
  areas : (i v : ℕ) (area other : List ℕ) → x ≡ send i v area → y ≡ send i v other → length area ≡ length other → Alike t c b d x y
  ticks : (area other : List ℕ) → x ≡ tick area → y ≡ tick other → length area ≡ length other → Alike t c b d x y
  dropped : (i v w : ℕ) (area other : List ℕ) → x ≡ send i v area → y ≡ send i w other → length area ≡ length other
      → keeps t c b i v ≡ false → keeps t c d i w ≡ false → inside t c i ≡ false → Alike t c b d x y

abbrev pub AllAlike : List ℕ → Counts → Book → Book → List Call → List Call → Type 0
AllAlike t c b d [] [] = Unit {0}
AllAlike t c b d [] (y ∷ ys) = ⊥
AllAlike t c b d (x ∷ xs) [] = ⊥
AllAlike t c b d (x ∷ xs) (y ∷ ys) = Alike t c b d x y × AllAlike t c (advance t c b x) (advance t c d y) xs ys

-- two groups of one shape: areas and status lists of one length, and both or neither with a last pair that is whole
pub record SameShape (g h : Group) : Type 0 where
  pub area : length g.area ≡ length h.area
  pub statuses : length g.statuses ≡ length h.statuses
  pub whole : g.pairs.whole ≡ h.pairs.whole

-- two actions alike: calls that are, or groups of one shape whose sends are
pub data AlikeAction (t : List ℕ) (c : Counts) (b d : Book) (x y : Action) : Type 0 where
  alike_calls : (p q : Call) → x ≡ single p → y ≡ single q → Alike t c b d p q → AlikeAction t c b d x y
  alike_groups : (g h : Group) → x ≡ group g → y ≡ group h → SameShape g h → AllAlike t c b d (group_sends g) (group_sends h) → AlikeAction t c b d x y

abbrev pub ActionsAlike : List ℕ → Counts → Book → Book → List Action → List Action → Type 0
ActionsAlike t c b d [] [] = Unit {0}
ActionsAlike t c b d [] (y ∷ ys) = ⊥
ActionsAlike t c b d (x ∷ xs) [] = ⊥
ActionsAlike t c b d (x ∷ xs) (y ∷ ys) = AlikeAction t c b d x y × ActionsAlike t c (advance_by t c b x) (advance_by t c d y) xs ys

-- the same number, returned value, word and frames
pub record SameAnswer (t : List ℕ) (x y : Call) (o p : Outcome) : Type 0 where
  pub number : number_of o.answer ≡ number_of p.answer
  pub value : value_of o.answer ≡ value_of p.answer
  pub word : word_of x o.answer ≡ word_of y p.answer
  pub frames : (k : ℕ) → Names (word_of x o.answer) k → frame t k o.area ≡ frame t k p.area

abbrev pub AllSame : List ℕ → List Call → List Call → List ℕ → List ℕ → Type 0
AllSame t [] [] m n = Unit {0}
AllSame t [] (y ∷ ys) m n = ⊥
AllSame t (x ∷ xs) [] m n = ⊥
AllSame t (x ∷ xs) (y ∷ ys) m n =
    SameAnswer t x y (step t x m) (step t y n) × AllSame t xs ys (step t x m).memory (step t y n).memory

-- a group: the same number, word, statuses and frames
pub record SameGroup (t : List ℕ) (o p : GroupOutcome) : Type 0 where
  pub number : number_of o.answer ≡ number_of p.answer
  pub word : value_of o.answer ≡ value_of p.answer
  pub statuses : number_of o.answer ≡ 0 → o.statuses ≡ p.statuses
  pub frames : (k : ℕ) → Names (value_of o.answer) k → frame t k o.area ≡ frame t k p.area

abbrev pub SameAction : List ℕ → Action → Action → List ℕ → List ℕ → Type 0
SameAction t (single x) (single y) m n = SameAnswer t x y (step t x m) (step t y n)
SameAction t (single x) (group h) m n = ⊥
SameAction t (group g) (single y) m n = ⊥
SameAction t (group g) (group h) m n = SameGroup t (group_step t g m) (group_step t h n)

abbrev pub ActionsSame : List ℕ → List Action → List Action → List ℕ → List ℕ → Type 0
ActionsSame t [] [] m n = Unit {0}
ActionsSame t [] (y ∷ ys) m n = ⊥
ActionsSame t (x ∷ xs) [] m n = ⊥
ActionsSame t (x ∷ xs) (y ∷ ys) m n = SameAction t x y m n × ActionsSame t xs ys (leaves t x m) (leaves t y n)

-- ---- the claim, whatever lay in memory before

abbrev pub Demand3 : List ℕ → Type 0
Demand3 t =
    (xs ys : List Action) → ActionsTyped xs → ActionsTyped ys → (m n : List ℕ) → done (step t start m) ≡ true → done (step t start n) ≡ true
    → ActionsKept t (counts t) unopened (single start ∷ xs) m
    × (ActionsAlike t (counts t) unopened unopened (single start ∷ xs) (single start ∷ ys) → ActionsSame t (single start ∷ xs) (single start ∷ ys) m n)
