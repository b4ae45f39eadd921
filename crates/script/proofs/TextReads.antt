-- A line reads as a command exactly where it is that command's text, its value as it stands or signed.
-- Assumes nothing.
use Rattle.std.proofs.Common.{◌≡◌, ℕ, zero, suc, ◌-◌, ◌%◌, ◌^◌, Bool, true, false, not, ◌||◌, eqb, ltb, List, [], ◌∷◌, ◌++◌, sym, refl, ap, ◌∙◌, inl, inr, ⊎_elim, append_assoc, Option, Some, None}
use Rattle.std.proofs.Common.{append-nil, zero-lt-suc, arith, ltb-false}
use Rattle.memory.proofs.IntegerLaws.{plain_text}
use Rattle.memory.proofs.Search.{picked}
use Rattle.memory.proofs.Tests.{or_split, true_or_false, true_not_false}
use Rattle.memory.specs.Bytes.{Bytes}
use Rattle.memory.specs.Integers.{is_negative, integer, integer_text}
use Rattle.memory.specs.Search.{pick}
use Rattle.memory.specs.Texts.{decimal, number_field}
use Rattle.script.proofs.FieldsText.{is_word, decimal_word, integer_word, hex_word, joined_fields, fields_one, fields_two, fields_three, fields_four, AllOf, fields_all}
use Rattle.script.proofs.HexText.{hex_bytes_lem, hex_pairs, pairs_bytes, field_hex}
use Rattle.script.proofs.CharacterLists.{same_equal}
use Rattle.script.proofs.Numerals.{decimal_reads, number_reads, value_reads, negative_value}
use Rattle.script.proofs.ReadingCases.{unreadable, IsNumber, is_integer, is_number, choice_refused, fourth_bytes, bytes_pairs}
use Rattle.table.specs.declared.IpduNumber.{IpduNumber}
use Rattle.table.specs.declared.ObjectNumber.{ObjectNumber}
use Rattle.script.specs.declared.Ask.TheVariants.{Receive, Status, Marks, ClearMarks}
use Rattle.script.specs.declared.Command.{Command}
use Rattle.script.specs.declared.Command.TheVariants.{Start, Stop, Send, Initialise, Object, Periodic, Indication, Confirm, Tick}
use Rattle.script.specs.declared.Numeral.TheVariants.{Number, Negative}
use Rattle.script.specs.Reading.{Fields, one, two, three, four, too_many, fields_of, numeral, is_bytes, hex_bytes}
use Rattle.script.specs.Reading.{alone, of_object, of_value, of_two, of_negative, of_bytes, if_integer, if_number, same, reading, read_line, bytes_in}
use Rattle.script.specs.Text.{number_fields, value_fields, hex, hex_field, name_of, numbers_of, values_of, good_number, text}
use Rattle.script.specs.Text.{start_name, stop_name, send_name, initialise_name, receive_name, status_name, marks_name, clear_marks_name}
use Rattle.script.specs.Text.{start_periodic_name, stop_periodic_name, indication_name, confirm_name, tick_name}
use Rattle.script.specs.Typed.{AllBelow, carries, TypedCommand, IsLineOf}

-- ---- a text by its parts, and the fields it has

abbrev line_of : Bool → (w ns vs bytes : List ℕ) → List ℕ
line_of signed w ns vs bytes = w ++ number_fields ns ++ value_fields signed vs ++ hex_field bytes

module _ (signed : Bool) (w : List ℕ) where
  line_none : line_of signed w [] [] [] ≡ joined_fields (one w)
  line_none = simp append-nil

  line_one : (i : ℕ) → line_of signed w (i ∷ []) [] [] ≡ joined_fields (two w (decimal i))
  line_one i = simp append-nil

  line_value : (i v : ℕ) → line_of signed w (i ∷ []) (v ∷ []) [] ≡ joined_fields (three w (decimal i) (integer_text (integer signed v)))
  line_value i v = simp append-nil

  line_two : (k g : ℕ) (bytes : List ℕ) → line_of signed w (k ∷ g ∷ []) [] bytes ≡ joined_fields (three w (decimal k) (decimal g)) ++ hex_field bytes
  line_two k g bytes = simp append-nil (ap (λ (l : List ℕ). l ++ hex_field bytes) (sym (append_assoc w (number_field k) (number_field g))))

-- ---- a text reads as its command, with its bytes

record Reads (line bytes : List ℕ) (result : Option Command) : Type 0 where
  reads : read_line line ≡ result
  brings : bytes_in (fields_of line) ≡ bytes

-- by its fields
reads_so : {line bytes : List ℕ} {fields : Fields} {result : Option Command} → fields_of line ≡ fields → reading fields ≡ result → bytes_in fields ≡ bytes
    → Reads line bytes result
reads_so these reads brings = record { reads = ap reading these ∙ reads; brings = ap bytes_in these ∙ brings }

module _ (signed : Bool) (w : List ℕ) (name : is_word w ≡ true) where
  reads_none : Reads (line_of signed w [] [] []) [] (alone (same w))
  reads_none = rw (line_none signed w) (reads_so (fields_one w name) refl refl)

  reads_one : (i : ℕ) → AllBelow (2 ^ 32) (i ∷ []) → Reads (line_of signed w (i ∷ []) [] []) [] (of_object (same w) i)
  reads_one i fit =
      rw (line_one signed w i) (reads_so (fields_two w name (decimal i) (decimal_word i)) (rw (decimal_reads false i fit.0)) refl)

  -- where a negative number behind this name means its 32 bits
  reads_value : (i v : ℕ) → AllBelow (2 ^ 32) (i ∷ []) → AllBelow (2 ^ 32) (v ∷ [])
      → ((below : ℕ) → of_negative (same w) i below ≡ of_two (same w) i ((2 ^ 32 - below) % 2 ^ 32))
      → Reads (line_of signed w (i ∷ []) (v ∷ []) []) [] (of_two (same w) i v)
  reads_value i v fit low agree =
      let back : (2 ^ 32 - (2 ^ 32 - v)) % 2 ^ 32 ≡ v = omega (arith, low.0) in
      rw (line_value signed w i v)
      (reads_so
      (fields_three w name (decimal i) (decimal_word i) (integer_text (integer signed v)) (integer_word (integer signed v)))
      (rw (decimal_reads false i fit.0, value_reads signed v low.0)
      (picked (λ s. if_integer s (of_two (same w) i) (of_negative (same w) i) ≡ of_two (same w) i v) (is_negative signed v) (Negative (2 ^ 32 - v)) (Number v)
      (λ t. agree (2 ^ 32 - v) ∙ ap (of_two (same w) i) back)
      (λ t. refl)))
      refl)

  reads_two : (k g : ℕ) → AllBelow (2 ^ 32) (k ∷ g ∷ []) → Reads (line_of signed w (k ∷ g ∷ []) [] []) [] (of_two (same w) k g)
  reads_two k g fit =
      rw (line_two signed w k g [], append-nil (joined_fields (three w (decimal k) (decimal g))))
      (reads_so (fields_three w name (decimal k) (decimal_word k) (decimal g) (decimal_word g))
      (rw (decimal_reads false k fit.0, decimal_reads false g fit.1.0)) refl)

  reads_four : (k g b : ℕ) (bs : List ℕ) → AllBelow (2 ^ 32) (k ∷ g ∷ []) → Bytes (b ∷ bs)
      → Reads (line_of signed w (k ∷ g ∷ []) [] (b ∷ bs)) (b ∷ bs) (of_bytes (same w) true k g)
  reads_four k g b bs fit are =
      rw (line_two signed w k g (b ∷ bs))
      (reads_so (fields_four w name (decimal k) (decimal_word k) (decimal g) (decimal_word g) (hex (b ∷ bs)) (hex_word (b ∷ bs)))
      (rw (decimal_reads false k fit.0, decimal_reads false g fit.1.0) (ap (λ (t : Bool). of_bytes (same w) t k g) (hex_pairs (b ∷ bs) are)))
      (hex_bytes_lem (b ∷ bs) are))

module _ (signed : Bool) where
  -- with no bytes beside it
  bare_reads : (command : Command) → TypedCommand command [] → Reads (text signed command []) [] (Some command)
  bare_reads Start t = reads_none signed start_name refl
  bare_reads Stop t = reads_none signed stop_name refl
  bare_reads (Send i v) t = reads_value signed send_name refl i.0 v t.numbers_fit t.values_fit (λ below. refl)
  bare_reads (Initialise i v) t = reads_value signed initialise_name refl i.0 v t.numbers_fit t.values_fit (λ below. refl)
  bare_reads (Object Receive i) t = reads_one signed receive_name refl i.0 t.numbers_fit
  bare_reads (Object Status i) t = reads_one signed status_name refl i.0 t.numbers_fit
  bare_reads (Object Marks i) t = reads_one signed marks_name refl i.0 t.numbers_fit
  bare_reads (Object ClearMarks i) t = reads_one signed clear_marks_name refl i.0 t.numbers_fit
  bare_reads (Periodic true) t = reads_none signed start_periodic_name refl
  bare_reads (Periodic false) t = reads_none signed stop_periodic_name refl
  bare_reads (Indication k true) t = reads_two signed indication_name refl k.0 1 t.numbers_fit
  bare_reads (Indication k false) t = reads_two signed indication_name refl k.0 0 t.numbers_fit
  bare_reads (Confirm k true) t = reads_two signed confirm_name refl k.0 1 t.numbers_fit
  bare_reads (Confirm k false) t = reads_two signed confirm_name refl k.0 0 t.numbers_fit
  bare_reads Tick t = reads_none signed tick_name refl

  -- with bytes, which only an indication has
  full_reads : (command : Command) (b : ℕ) (bs : List ℕ) → TypedCommand command (b ∷ bs) → (carries command ≡ false → ⊥)
      → Reads (text signed command (b ∷ bs)) (b ∷ bs) (Some command)
  full_reads Start b bs t has = absurd (has refl)
  full_reads Stop b bs t has = absurd (has refl)
  full_reads (Send i v) b bs t has = absurd (has refl)
  full_reads (Initialise i v) b bs t has = absurd (has refl)
  full_reads (Object ask i) b bs t has = absurd (has refl)
  full_reads (Periodic on) b bs t has = absurd (has refl)
  full_reads (Indication k true) b bs t has = reads_four signed indication_name refl k.0 1 b bs t.numbers_fit t.are_bytes
  full_reads (Indication k false) b bs t has = reads_four signed indication_name refl k.0 0 b bs t.numbers_fit t.are_bytes
  full_reads (Confirm k good) b bs t has = absurd (has refl)
  full_reads Tick b bs t has = absurd (has refl)

  typed_reads : (command : Command) (bytes : List ℕ) → TypedCommand command bytes → Reads (text signed command bytes) bytes (Some command)
  typed_reads command [] t = bare_reads command t
  typed_reads command (b ∷ bs) t =
      full_reads command b bs t (λ none. let z : b ∷ bs ≡ [] = t.none_beside none in let y : ◌≡◌ {A = ℕ} 0 1 = cc in omega arith)

pub text_reads : (signed : Bool) {command : Command} {bytes : List ℕ} → TypedCommand command bytes
    → read_line (text signed command bytes) ≡ Some command
text_reads signed {command} {bytes} t = (typed_reads signed command bytes t).reads

pub text_bytes : (signed : Bool) {command : Command} {bytes : List ℕ} → TypedCommand command bytes
    → bytes_in (fields_of (text signed command bytes)) ≡ bytes
text_bytes signed {command} {bytes} t = (typed_reads signed command bytes t).brings

-- ---- a line that reads as a command is its text

-- the first of these commands that has the name of the line
abbrev first_named : List ℕ → List Command → Option Command
first_named n [] = None
first_named n (c ∷ cs) = pick (same n (name_of c)) (Some c) (first_named n cs)

abbrev EachHas : (Command → Type 0) → List Command → Type 0
EachHas P [] = Unit {0}
EachHas P (c ∷ cs) = P c × EachHas P cs

-- it has the name, and what each of them has
record Chosen (P : Command → Type 0) (n : List ℕ) (command : Command) : Type 0 where
  named : name_of command ≡ n
  has : P command

choose : (P : Command → Type 0) (n : List ℕ) (cs : List Command) (command : Command) → EachHas P cs → first_named n cs ≡ Some command
    → Chosen P n command
choose P n [] command each e = absurd (unreadable e)
choose P n (c ∷ cs) command each e =
    ⊎_elim
    (λ (t : same n (name_of c) ≡ true).
    let chosen : Some c ≡ Some command = rw t at e in
    let this : c ≡ command = cc in
    let found : Chosen P n c = record { named = sym (same_equal n (name_of c) t); has = each.0 } in
    rw this at found)
    (λ (t : same n (name_of c) ≡ false). choose P n cs command each.1 (rw t at e))
    (true_or_false (same n (name_of c)))

-- ---- which commands a line with no, one or two numbers can be

IsText : List ℕ → Command → List ℕ → Type 0
IsText line command bytes = IsLineOf line command bytes × TypedCommand command bytes

is_line : (signed : Bool) (line : List ℕ) (command : Command) (bytes : List ℕ) → line ≡ text signed command bytes → IsLineOf line command bytes
is_line false line command bytes e = inl e
is_line true line command bytes e = inr e

-- the line has this name, and numbers, a value and bytes that a command can have
record Says (signed : Bool) (n ns vs bytes : List ℕ) (carried : Bool) (line : List ℕ) : Type 0 where
  whole : line_of signed n ns vs bytes ≡ line
  numbers : AllBelow (2 ^ 32) ns
  values : AllBelow (2 ^ 32) vs
  are : Bytes bytes
  none : carried ≡ false → bytes ≡ []

-- good is 1, not good 0
good_number_lem : (good : ℕ) → ltb 1 good ≡ false → good_number (eqb good 1) ≡ good
good_number_lem zero t = refl
good_number_lem (suc zero) t = refl
good_number_lem (suc (suc g)) t = absurd (omega (arith, ltb-false 1 (suc (suc g)) t))

module _ (signed : Bool) (n bytes line : List ℕ) (command : Command) where
  abbrev SaysOf : Command → Type 0
  SaysOf c = Says signed n (numbers_of c) (values_of c) bytes (carries c) line

  chosen_text : (cs : List Command) → EachHas SaysOf cs → first_named n cs ≡ Some command → IsText line command bytes
  unfolding IsText
  chosen_text cs each e =
      let c = choose SaysOf n cs command each e in
      let says = c.has in (
        is_line signed line command bytes (rw c.named (sym says.whole)),
        record { numbers_fit = says.numbers; values_fit = says.values; are_bytes = says.are; none_beside = says.none },
      )

  alone_text : Says signed n [] [] bytes false line → alone (same n) ≡ Some command → IsText line command bytes
  alone_text s e = chosen_text (Start ∷ Stop ∷ Periodic true ∷ Periodic false ∷ Tick ∷ []) (s, (s, (s, (s, (s, tt))))) e

  object_text : (i : ℕ) → Says signed n (i ∷ []) [] bytes false line → of_object (same n) i ≡ Some command → IsText line command bytes
  object_text i s e =
      let object : ObjectNumber = record { 0 = i } in
      chosen_text (Object Receive object ∷ Object Status object ∷ Object Marks object ∷ Object ClearMarks object ∷ []) (s, (s, (s, (s, tt)))) e

  value_text : (i v : ℕ) → Says signed n (i ∷ []) (v ∷ []) bytes false line → of_value (same n) i v None ≡ Some command
      → IsText line command bytes
  value_text i v s e = let object : ObjectNumber = record { 0 = i } in chosen_text (Send object v ∷ Initialise object v ∷ []) (s, (s, tt)) e

  two_text : (i v : ℕ) → Says signed n (i ∷ []) (v ∷ []) bytes false line → ((carried : Bool) → Says signed n (i ∷ v ∷ []) [] bytes carried line)
      → of_two (same n) i v ≡ Some command → IsText line command bytes
  two_text i v s p e =
      let object : ObjectNumber = record { 0 = i } in
      let ipdu : IpduNumber = record { 0 = i } in
      ⊎_elim
      (λ (t : ltb 1 v ≡ true). value_text i v s (rw t at e))
      (λ (t : ltb 1 v ≡ false).
      let good : (carried : Bool) → Says signed n (i ∷ good_number (eqb v 1) ∷ []) [] bytes carried line = λ carried. rw (good_number_lem v t) (p carried) in
      chosen_text (Send object v ∷ Initialise object v ∷ Indication ipdu (eqb v 1) ∷ Confirm ipdu (eqb v 1) ∷ [])
      (s, (s, (good true, (good false, tt)))) (rw t at e))
      (true_or_false (ltb 1 v))

  bytes_text : (whole : Bool) (k v : ℕ) → Says signed n (k ∷ v ∷ []) [] bytes true line → of_bytes (same n) whole k v ≡ Some command
      → IsText line command bytes
  bytes_text whole k v s e =
      let ipdu : IpduNumber = record { 0 = k } in
      let kept = choice_refused (ltb 1 v || not whole) (first_named n (Indication ipdu (eqb v 1) ∷ [])) e in
      let t : ltb 1 v ≡ false = (or_split (ltb 1 v) (not whole) kept.0).0 in
      let good : Says signed n (k ∷ good_number (eqb v 1) ∷ []) [] bytes true line = rw (good_number_lem v t) s in
      chosen_text (Indication ipdu (eqb v 1) ∷ []) (good, tt) kept.1

-- ---- all of the line

-- with no bytes
says_bare : {signed carried : Bool} {n ns vs line : List ℕ} → line_of signed n ns vs [] ≡ line → AllBelow (2 ^ 32) ns → AllBelow (2 ^ 32) vs
    → Says signed n ns vs [] carried line
says_bare whole numbers values = record { whole = whole; numbers = numbers; values = values; are = λ i. zero-lt-suc 255; none = λ e. refl }

module _ (line : List ℕ) (command : Command) where
  fields_text : (fields : Fields) → AllOf fields line → reading fields ≡ Some command → IsText line command (bytes_in fields)
  fields_text (one n) all e = alone_text false n [] line command (says_bare (line_none false n ∙ all) tt tt) e
  fields_text (two n f) all e =
      let first = is_number (numeral f) (of_object (same n)) e in
      let i : ℕ = first.value in
      let d = number_reads false i f first.number in
      object_text false n [] line command i (says_bare (line_one false n i ∙ rw (← d.spelt) all) (d.fits, tt) tt) first.reads
  fields_text (three n f s) all e =
      let first = is_number (numeral f) (λ i. if_integer (numeral s) (of_two (same n) i) (of_negative (same n) i)) e in
      let i : ℕ = first.value in
      let d = number_reads false i f first.number in
      ⊎_elim
      (λ (second : IsNumber false (numeral s) (of_two (same n) i) command).
      let v : ℕ = second.value in
      let g = number_reads false v s second.number in
      two_text false n [] line command i v
      (says_bare (line_value false n i v ∙ rw (plain_text false v refl, ← d.spelt, ← g.spelt) all) (d.fits, tt) (g.fits, tt))
      (λ carried. says_bare
      (line_two false n i v [] ∙ rw (append-nil (joined_fields (three n (decimal i) (decimal v))), ← d.spelt, ← g.spelt) all)
      (d.fits, (g.fits, tt)) tt)
      second.reads)
      (λ (second : IsNumber true (numeral s) (of_negative (same n) i) command).
      let below : ℕ = second.value in
      let v : ℕ = (2 ^ 32 - below) % 2 ^ 32 in
      let g = number_reads true below s second.number in
      value_text true n [] line command i v
      (says_bare (line_value true n i v ∙ rw (negative_value below g.fits, ← d.spelt, ← g.spelt) all) (d.fits, tt) (omega arith, tt))
      second.reads)
      (is_integer (numeral s) (of_two (same n) i) (of_negative (same n) i) first.reads)
  fields_text (four n f s h) all e =
      let first = is_number (numeral f) (λ k. if_number (numeral s) (of_bytes (same n) (is_bytes h) k)) e in
      let k : ℕ = first.value in
      let second = is_number (numeral s) (of_bytes (same n) (is_bytes h) k) first.reads in
      let v : ℕ = second.value in
      let d = number_reads false k f first.number in
      let g = number_reads false v s second.number in
      let whole = fourth_bytes n f s h command e in
      bytes_text false n (hex_bytes h) line command (is_bytes h) k v (record {
        whole = line_two false n k v (hex_bytes h) ∙ rw (← d.spelt, ← g.spelt, field_hex h whole) all;
        numbers = (d.fits, (g.fits, tt));
        values = tt;
        are = pairs_bytes h (bytes_pairs h whole);
        none = λ none. absurd (true_not_false refl none);
      }) second.reads
  fields_text too_many all e = absurd (unreadable e)

pub reads_text : {line : List ℕ} {command : Command} → read_line line ≡ Some command
    → IsLineOf line command (bytes_in (fields_of line)) × TypedCommand command (bytes_in (fields_of line))
unfolding IsText
reads_text {line} {command} e = fields_text line command (fields_of line) (fields_all line) e
