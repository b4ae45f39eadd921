-- The requests that a word names, and how long their texts are. The laws ask for plain values, so that a search finds them.
-- Assumes nothing.
use Rattle.std.proofs.Common.{true, false, ◌&&◌, List, [], ◌∷◌, ◌++◌, append-nil, ⊎_elim, ◌≡◌, sym, ap, ◌∙◌, ℕ, zero, suc, ◌+◌, ◌-◌, ◌*◌, ◌/◌, ◌%◌}
use Rattle.std.proofs.Common.{◌^◌, ◌≤◌, ◌<◌, zero-le, add-one, arith, ltb-true, ltb-false, lt-ltb, eq-eqb, ne_eqb, ltb, eqb, length, set}
use Rattle.std.proofs.Common.{length-append, shr-shr}
use native.Mathlib.Nat.{zero-div}
use Rattle.memory.specs.Bytes.{part}
use Rattle.memory.specs.Search.{pick}
use Rattle.memory.specs.Texts.{line_feed, decimal, number_field, Put}
use Rattle.memory.proofs.Tests.{and_split, eq_or_ne, lt_or_le}
use Rattle.memory.proofs.Search.{picked}
use Rattle.memory.proofs.Decimals.{decimal_within}
use Rattle.memory.proofs.Puts.{put_append, put_none, put_byte, put_length}
use Rattle.table.specs.declared.Counts.{Counts}
use Rattle.table.specs.declared.IpduRecord.{IpduRecord}
use Rattle.table.specs.Records.{ipdu_record}
use Rattle.table.specs.Check.{Right}
use Rattle.table.proofs.Facts.{ipdu_facts}
use Rattle.script.specs.Text.{hex}
use Rattle.report.specs.Printing.{InTable, req_name, request_text, request_texts}
use Rattle.report.proofs.HexTexts.{hex_part_length}

-- ---- an I-PDU of the table

pub in_table : (t : List ℕ) (c : Counts) → Right t c → (k : ℕ) → k < c.ipdus → InTable t k
in_table t c right k low =
    record {
      number = omega (arith, right.shape.ipdus);
      inside = omega (arith, right.shape.long);
      few = (ipdu_facts (ipdu_record t k) (right.ipdus k low)).most;
    }

-- its text has at most 24 bytes
pub request_length : (t : List ℕ) (k : ℕ) (area : List ℕ) → InTable t k → length (request_text t k area) ≤ 24
unfolding request_text
request_length t k area there =
    simp length-append
    (omega (
      arith,
      there.number,
      there.few,
      decimal_within 1 k (omega (arith, there.number)),
      hex_part_length (8 * k) (ipdu_record t k).length area,
    ))

-- ` req` and the number; then a blank and the bytes
module _ (t : List ℕ) (k at : ℕ) {behind : ℕ} {m n : List ℕ} (there : InTable t k) (room : at + 24 ≤ length m) (name : Put at req_name m n behind) where
  pub number_room : behind + 1 + length (decimal k) ≤ length n
  number_room = omega (arith, decimal_within 1 k (omega (arith, there.number)), name.behind, put_length name, room)

  pub number_behind : {e : ℕ} {p : List ℕ} → Put behind (number_field k) n p e → (e + 17 ≤ length m) × (length p ≡ length m)
  number_behind put =
      (omega (arith, put.behind, name.behind, decimal_within 1 k (omega (arith, there.number)), room), put_length put ∙ put_length name)

pub record_few : (t : List ℕ) (k : ℕ) {r : IpduRecord} → InTable t k → r ≡ ipdu_record t k → r.length ≤ 8
record_few t k there same = rw same there.few

pub request_put : (t area : List ℕ) (k at : ℕ) {behind e f : ℕ} (m n p : List ℕ) {q : List ℕ} (r : IpduRecord) → r ≡ ipdu_record t k
    → Put at req_name m n behind → Put behind (number_field k) n p e → Put (e + 1) (hex (part (8 * k) r.length area)) (set p e 32) q f
    → Put at (request_text t k area) m q f
unfolding request_text
request_put t area k at m n p r same name put rest = put_append name (put_append put (put_byte (rw same at rest)))

-- where the lowest bit of a word names it, and where not
module _ (rest at : ℕ) (text m : List ℕ) where
  pub named_put : {e : ℕ} {n : List ℕ} → rest % 2 ≡ 1 → Put at text m n e → Put at (pick (eqb (rest % 2) 1) text []) m n e
  named_put named put = rw (eq-eqb (rest % 2) 1 named) put

  pub unnamed_put : (rest % 2 ≡ 1 → ⊥) → Put at (pick (eqb (rest % 2) 1) text []) m m at
  unnamed_put other = rw (ne_eqb (rest % 2) 1 other) (put_none at m)

-- ---- the I-PDUs below k

-- a word that is used up names no more
done_stays : (w k n : ℕ) → k ≤ n → w / 2 ^ k ≡ 0 → w / 2 ^ n ≡ 0
done_stays w k n low none =
    let sum : k + (n - k) ≡ n = omega arith in
    sym (rw sum at (shr-shr w k (n - k))) ∙ ap (λ (x : ℕ). x / 2 ^ (n - k)) none ∙ zero-div (2 ^ (n - k))

pub texts_done : (t area : List ℕ) (w k n : ℕ) → k ≤ n → w / 2 ^ k ≡ 0 → request_texts t n w area ≡ request_texts t k w area
unfolding request_texts
texts_done t area w k zero low none = let e : k ≡ 0 = omega arith in rw e
texts_done t area w k (suc n) low none =
    ⊎_elim
    (λ (e : k ≡ suc n). rw e)
    (λ (ne : k ≡ suc n → ⊥).
    let below : k ≤ n = omega (arith, low, ne) in
    rw (done_stays w k n below none) (append-nil (request_texts t n w area) ∙ texts_done t area w k n below none))
    (eq_or_ne k (suc n))

pub texts_length : (t area : List ℕ) (w n : ℕ) → ((k : ℕ) → k < n → InTable t k) → length (request_texts t n w area) ≤ 24 * n
unfolding request_texts
texts_length t area w zero there = zero-le
texts_length t area w (suc n) there =
    let last : length (pick (eqb (w / 2 ^ n % 2) 1) (request_text t n area) []) ≤ 24 =
    picked (λ (l : List ℕ). length l ≤ 24) (eqb (w / 2 ^ n % 2) 1) (request_text t n area) []
    (λ e. request_length t n area (there n (omega arith))) (λ e. zero-le) in
    rw length-append (omega (arith, last, texts_length t area w n (λ k low. there k (omega (arith, low)))))

pub texts_none : (t area m : List ℕ) (w at : ℕ) → Put at (request_texts t 0 w area) m m at
unfolding request_texts
texts_none t area m w at = put_none at m

-- what the loop's test says in a turn
module _ (k n rest : ℕ) (test : (ltb k n && ltb 0 rest) ≡ true) where
  turn_low : k < n
  turn_low = ltb-true k n (and_split (ltb k n) (ltb 0 rest) test).0

  pub turn_next : k + 1 ≤ n
  turn_next = omega (arith, turn_low)

  pub turn_less : n - (k + 1) < n - k
  turn_less = omega (arith, turn_low)

module _ (t : List ℕ) (c : Counts) (k rest : ℕ) (test : (ltb k c.ipdus && ltb 0 rest) ≡ true) (right : Right t c) where
  pub turn_fits : k + 1 < 2 ^ 32
  turn_fits = omega (arith, turn_low k c.ipdus rest test, right.shape.ipdus)

  pub turn_there : InTable t k
  turn_there = in_table t c right k (turn_low k c.ipdus rest test)

pub rest_more : (w k rest : ℕ) → rest ≡ w / 2 ^ k → rest / 2 ≡ w / 2 ^ (k + 1)
rest_more w k rest same = rw same (shr-shr w k 1)

-- the texts so far, with what is left of the word
module _ (t area : List ℕ) (w k rest at end : ℕ) (m n : List ℕ) (so_far : Put at (request_texts t k w area) m n end) where
  so_far_end : (c : Counts) → Right t c → k ≤ c.ipdus → end ≤ at + 24 * k
  so_far_end c right low =
      omega (arith, so_far.behind, texts_length t area w k (λ j below. in_table t c right j (omega (arith, low, below))))

  pub turn_room : (c : Counts) → Right t c → at + 769 ≤ length m → (ltb k c.ipdus && ltb 0 rest) ≡ true → end + 24 ≤ length n
  turn_room c right room test =
      let low = turn_low k c.ipdus rest test in
      omega (arith, so_far_end c right (omega (arith, low)), low, right.shape.ipdus, put_length so_far, room)

  pub end_room : (c : Counts) → Right t c → at + 769 ≤ length m → k ≤ c.ipdus → end < length n
  end_room c right room low = omega (arith, so_far_end c right low, low, right.shape.ipdus, put_length so_far, room)

  pub turn_more : rest ≡ w / 2 ^ k → (e : ℕ) (p : List ℕ) → Put end (pick (eqb (rest % 2) 1) (request_text t k area) []) n p e
      → Put at (request_texts t (k + 1) w area) m p e
  unfolding request_texts
  turn_more same e p more = rw (add-one k) (put_append so_far (rw same at more))

  pub turns_done : (c : Counts) → (ltb k c.ipdus && ltb 0 rest) ≡ false → k ≤ c.ipdus → rest ≡ w / 2 ^ k → (e : ℕ) (p : List ℕ) → Put end (line_feed ∷ []) n p e
      → Put at (request_texts t c.ipdus w area ++ line_feed ∷ []) m p e
  turns_done c test low same e p more = rw all (put_append so_far more)
    where
      all : request_texts t c.ipdus w area ≡ request_texts t k w area
      all =
          ⊎_elim
          (λ (below : k < c.ipdus).
          let none : rest ≡ 0 = omega (arith, ltb-false 0 rest (rw (lt-ltb k c.ipdus below) at test)) in
          texts_done t area w k c.ipdus low (sym same ∙ none))
          (λ (past : c.ipdus ≤ k). let e : c.ipdus ≡ k = omega (arith, low, past) in ap (λ (j : ℕ). request_texts t j w area) e)
          (lt_or_le k c.ipdus)
