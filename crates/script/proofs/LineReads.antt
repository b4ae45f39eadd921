-- The few numbers that are kept of a line stand for its fields: they read as the same command, with the same bytes.
-- Assumes nothing.
use Rattle.std.proofs.Common.{◌≡◌, ℕ, suc, ◌<◌, ◌≤◌, Bool, true, false, eqb, List, [], ◌∷◌, ◌++◌, length, refl, ap, ap₂, ⊎_elim, zero-lt-suc, arith, Some}
use mathlib.Core.Path.{fun_ext}
use Rattle.memory.proofs.Tests.{true_or_false}
use Rattle.memory.specs.Bytes.{Bytes}
use Rattle.memory.specs.Texts.{blank}
use Rattle.script.proofs.BytesDown.{down_none, down_bytes}
use Rattle.script.proofs.HexNumbers.{whole_bytes_lem, frame_short, frame_long}
use Rattle.script.proofs.CharacterLists.{run_last, bytes_more}
use Rattle.script.proofs.NameNumbers.{are_letters, named_same, letter_positive}
use Rattle.script.proofs.Numerals.{numeral_last}
use Rattle.script.proofs.ReadingCases.{fourth_bytes, bytes_pairs}
use Rattle.script.specs.declared.Command.{Command}
use Rattle.script.specs.declared.Frame.{Frame}
use Rattle.script.specs.declared.Name.{Name}
use Rattle.script.specs.declared.Numeral.TheVariants.{Nothing}
use Rattle.script.specs.declared.Reader.{Reader}
use Rattle.script.specs.declared.Reader.TheVariants.{Naming, First, Second, TooMany}
use Rattle.script.specs.Reader.{with_letter, no_name, name_from, is_named, no_digits, hex_with, hex_from, next, fresh, next_from, command_of, frame_as, frame_of, frame_bytes}
use Rattle.script.specs.Reading.{Fields, one, two, three, four, too_many, into, fields_from, fields_of, numeral, is_bytes, alone, of_object, of_two, of_negative, of_bytes}
use Rattle.script.specs.Reading.{if_integer, if_number, same, reading, read_line, bytes_in}
use Rattle.script.specs.Text.{start_name, stop_name, send_name, initialise_name, receive_name, status_name, marks_name, clear_marks_name}
use Rattle.script.specs.Text.{start_periodic_name, stop_periodic_name, indication_name, confirm_name, tick_name}

-- ---- what is kept of the fields

abbrev pub reader : Fields → Reader
reader (one n) = Naming (name_from no_name n)
reader (two n f) = First (name_from no_name n) (numeral f)
reader (three n f s) = Second (name_from no_name n) (numeral f) (numeral s)
reader (four n f s h) = Reader.Bytes (name_from no_name n) (numeral f) (numeral s) (hex_from no_digits h)
reader too_many = TooMany

name_last : (n : List ℕ) (b : ℕ) → name_from no_name (n ++ b ∷ []) ≡ with_letter (name_from no_name n) b
name_last n b = run_last with_letter name_from (λ a. refl) (λ a c l. refl) no_name n b

hex_last : (h : List ℕ) (b : ℕ) → hex_from no_digits (h ++ b ∷ []) ≡ hex_with (hex_from no_digits h) b
hex_last h b = run_last hex_with hex_from (λ a. refl) (λ a c l. refl) no_digits h b

pub reader_into : (f : Fields) (b : ℕ) → next (reader f) b ≡ reader (into f b)
unfolding next
reader_into f b = ⊎_elim (ends f) (joins f) (true_or_false (eqb b blank))
  where
    ends : (f : Fields) → eqb b blank ≡ true → next (reader f) b ≡ reader (into f b)
    ends (one n) e = rw e
    ends (two n f) e = rw e
    ends (three n f s) e = rw e
    ends (four n f s h) e = rw e
    ends too_many e = rw e

    joins : (f : Fields) → eqb b blank ≡ false → next (reader f) b ≡ reader (into f b)
    joins (one n) e = rw (e, name_last n b)
    joins (two n f) e = rw (e, numeral_last Nothing f b)
    joins (three n f s) e = rw (e, numeral_last Nothing s b)
    joins (four n f s h) e = rw (e, hex_last h b)
    joins too_many e = rw e

pub reader_from : (f : Fields) (line : List ℕ) → next_from (reader f) line ≡ reader (fields_from f line)
unfolding next_from
reader_from f [] = refl
reader_from f (b ∷ line) = rw (reader_into f b) (reader_from (into f b) line)

pub reader_of : (line : List ℕ) → next_from fresh line ≡ reader (fields_of line)
unfolding fresh
reader_of line = reader_from (one []) line

-- ---- the command

-- the field of the name
name_in : Fields → List ℕ
name_in (one n) = n
name_in (two n f) = n
name_in (three n f s) = n
name_in (four n f s h) = n
name_in too_many = []

into_bytes : (f : Fields) (b : ℕ) → b < 256 → Bytes (name_in f) → Bytes (name_in (into f b))
unfolding name_in
into_bytes f b low bs = ⊎_elim (ends f bs) (joins f bs) (true_or_false (eqb b blank))
  where
    ends : (f : Fields) → Bytes (name_in f) → eqb b blank ≡ true → Bytes (name_in (into f b))
    ends (one n) bs e = rw e bs
    ends (two n f) bs e = rw e bs
    ends (three n f s) bs e = rw e bs
    ends (four n f s h) bs e = rw e (λ i. zero-lt-suc 255)
    ends too_many bs e = bs

    joins : (f : Fields) → Bytes (name_in f) → eqb b blank ≡ false → Bytes (name_in (into f b))
    joins (one n) bs e = rw e (bytes_more n b bs low)
    joins (two n f) bs e = rw e bs
    joins (three n f s) bs e = rw e bs
    joins (four n f s h) bs e = rw e bs
    joins too_many bs e = bs

from_bytes : (f : Fields) (line : List ℕ) → Bytes line → Bytes (name_in f) → Bytes (name_in (fields_from f line))
from_bytes f [] bs named = named
from_bytes f (b ∷ line) bs named = from_bytes (into f b) line (λ i. bs (suc i)) (into_bytes f b (bs 0) named)

-- two tests of a name that agree on all names of at most sixteen letters read the same commands
module _ (is js : List ℕ → Bool) (agree : (w : List ℕ) → are_letters 16 w ≡ true → is w ≡ js w) where
  alone_agree : alone is ≡ alone js
  alone_agree =
      rw (agree start_name refl, agree stop_name refl, agree start_periodic_name refl, agree stop_periodic_name refl, agree tick_name refl)

  object_agree : (i : ℕ) → of_object is i ≡ of_object js i
  object_agree i = rw (agree receive_name refl, agree status_name refl, agree marks_name refl, agree clear_marks_name refl)

  two_agree : (i v : ℕ) → of_two is i v ≡ of_two js i v
  two_agree i v = rw (agree send_name refl, agree initialise_name refl, agree indication_name refl, agree confirm_name refl)

  negative_agree : (i n : ℕ) → of_negative is i n ≡ of_negative js i n
  negative_agree i n = rw (agree send_name refl, agree initialise_name refl)

  bytes_agree : (whole : Bool) (k good : ℕ) → of_bytes is whole k good ≡ of_bytes js whole k good
  bytes_agree whole k good = rw (agree indication_name refl)

reader_reads : (f : Fields) → Bytes (name_in f) → command_of (reader f) ≡ reading f
unfolding name_in command_of
reader_reads (one n) bs = alone_agree (is_named (name_from no_name n)) (same n) (λ w e. named_same n w bs e)
reader_reads (two n f) bs =
    ap (if_number (numeral f)) (fun_ext (object_agree (is_named (name_from no_name n)) (same n) (λ w e. named_same n w bs e)))
reader_reads (three n f s) bs =
    ap (if_number (numeral f)) (fun_ext (λ i.
    ap₂ (if_integer (numeral s))
    (fun_ext (two_agree (is_named (name_from no_name n)) (same n) (λ w e. named_same n w bs e) i))
    (fun_ext (negative_agree (is_named (name_from no_name n)) (same n) (λ w e. named_same n w bs e) i))))
reader_reads (four n f s h) bs =
    rw (whole_bytes_lem h)
    (ap (if_number (numeral f)) (fun_ext (λ k.
    ap (if_number (numeral s))
    (fun_ext (bytes_agree (is_named (name_from no_name n)) (same n) (λ w e. named_same n w bs e) (is_bytes h) k)))))
reader_reads too_many bs = refl

pub command_reads : (line : List ℕ) → Bytes line → command_of (next_from fresh line) ≡ read_line line
unfolding name_in
command_reads line bs = rw (reader_of line) (reader_reads (fields_of line) (from_bytes (one []) line bs (λ i. zero-lt-suc 255)))

-- ---- the bytes

no_bytes : frame_bytes (frame_as 0 0) ≡ []
unfolding frame_bytes
no_bytes = down_none 0

-- as long as there are at most eight; nine stand for any longer ones
module _ (line : List ℕ) {c : Command} (reads : read_line line ≡ Some c) where
  pub frame_reads : length (bytes_in (fields_of line)) ≤ 8 → frame_bytes (frame_of (next_from fresh line)) ≡ bytes_in (fields_of line)
  unfolding frame_of
  frame_reads short = rw (reader_of line) (go (fields_of line) reads short)
    where
      go : (f : Fields) → reading f ≡ Some c → length (bytes_in f) ≤ 8 → frame_bytes (frame_of (reader f)) ≡ bytes_in f
      go (one n) e h = no_bytes
      go (two n f) e h = no_bytes
      go (three n f s) e h = no_bytes
      go (four n f s h) e short = frame_short h (bytes_pairs h (fourth_bytes n f s h c e)) short
      go too_many e h = no_bytes

  pub frame_too_long : 8 < length (bytes_in (fields_of line)) → 8 < length (frame_bytes (frame_of (next_from fresh line)))
  unfolding frame_of
  frame_too_long long = rw (reader_of line) (go (fields_of line) reads long)
    where
      go : (f : Fields) → reading f ≡ Some c → 8 < length (bytes_in f) → 8 < length (frame_bytes (frame_of (reader f)))
      go (one n) e h = absurd (omega arith)
      go (two n f) e h = absurd (omega arith)
      go (three n f s) e h = absurd (omega arith)
      go (four n f s h) e long = frame_long h (bytes_pairs h (fourth_bytes n f s h c e)) long
      go too_many e h = absurd (omega arith)

pub frame_bytes_lem : (f : Frame) → Bytes (frame_bytes f)
unfolding frame_bytes
frame_bytes_lem f = down_bytes f.length f.value

-- ---- the empty line

pub empty_reads : next_from fresh [] ≡ fresh
unfolding next_from
empty_reads = refl

-- the line has a character
Begun : Reader → Type 0
Begun (Naming n) = 0 < n.letters
Begun (First n f) = Unit {0}
Begun (Second n f s) = Unit {0}
Begun (Reader.Bytes n f s h) = Unit {0}
Begun TooMany = Unit {0}

next_begun : (r : Reader) (b : ℕ) → Begun (next r b)
unfolding next Begun
next_begun r b = ⊎_elim (ends r) (joins r) (true_or_false (eqb b blank))
  where
    ends : (r : Reader) → eqb b blank ≡ true → Begun (next r b)
    ends (Naming n) e = rw e tt
    ends (First n f) e = rw e tt
    ends (Second n f s) e = rw e tt
    ends (Reader.Bytes n f s h) e = rw e tt
    ends TooMany e = rw e tt

    joins : (r : Reader) → eqb b blank ≡ false → Begun (next r b)
    joins (Naming n) e = rw e (letter_positive n b)
    joins (First n f) e = rw e tt
    joins (Second n f s) e = rw e tt
    joins (Reader.Bytes n f s h) e = rw e tt
    joins TooMany e = rw e tt

from_begun : (r : Reader) (line : List ℕ) → Begun r → Begun (next_from r line)
unfolding next_from
from_begun r [] begun = begun
from_begun r (b ∷ line) begun = from_begun (next r b) line (next_begun r b)

-- no other line leaves a reader with no letters
pub begun_reads : (b : ℕ) (line : List ℕ) (n : Name) → next_from fresh (b ∷ line) ≡ Naming n → n.letters ≡ 0 → ⊥
unfolding next_from Begun
begun_reads b line n e none =
    let some : 0 < n.letters = rw e at (from_begun (next fresh b) line (next_begun fresh b)) in
    omega arith
