-- Demand 3's book has, from a start on, an entry of each send object and of no other: a bit that send objects cover is that of the
-- latest entry of them all, and a bit that none covers is 0.
-- Assumes nothing.
use Rattle.std.proofs.Common.{Bool, true, false, not, ◌&&◌, ◌||◌, List, [], ◌∷◌, ⊎_elim, ◌≡◌, refl, sym, ap, ℕ, zero, suc, ◌≤◌, ◌<◌, not-suc-le-zero, arith, eqb-true, eq-eqb}
use Rattle.std.proofs.Common.{lt-ltb, ltb-true, leb, ltb, eqb, length}
use Rattle.memory.specs.Search.{fold}
use Rattle.memory.proofs.Search.{picked}
use Rattle.memory.proofs.Tests.{and_split, eq_or_ne, true_or_false, true_not_false}
use Rattle.table.specs.declared.Counts.{Counts}
use Rattle.table.specs.Records.{sending, object_record}
use Rattle.layer.specs.Step.{Call, Told, told_start, told_stop, told_send, told_initialise, told_nothing, lent_bytes, describe}
use Rattle.state.specs.Layout.{area_size}
use Rattle.trace.specs.Actions.{Action, single, group, group_sends, accepts_group, advance_by, book_after_all}
use Rattle.trace.specs.Book.{Entry, Book, enter, sends, open_entry, opened, keeps, accepts, entered, advance, book_after, owns_ipdu_bit, book_bit, Latest}

abbrev pub has : ℕ → List Entry → Bool
has i [] = false
has i (e ∷ es) = eqb e.object i || has i es

or_true : (a : Bool) → (a || true) ≡ true
or_true true = refl
or_true false = refl

has_more : (i j v : ℕ) (es : List Entry) → has i es ≡ true → has i (enter j v es) ≡ true
has_more i j v es e = rw e (or_true (eqb j i))

module _ (t : List ℕ) (c : Counts) where
  abbrev pub AllSent : List Entry → Type 0
  AllSent [] = Unit {0}
  AllSent (e ∷ es) = (sends t c e.object ≡ true) × AllSent es

  -- an entry of each send object, and of no other
  pub record Full (es : List Entry) : Type 0 where
    pub each : (i : ℕ) → sends t c i ≡ true → has i es ≡ true
    pub only : AllSent es

  more : (i v : ℕ) (es : List Entry) → sends t c i ≡ true → Full es → Full (enter i v es)
  more i v es s f = record { each = λ j y. has_more j i v es (f.each j y); only = (s, f.only) }

  -- ---- start

  -- the entries of the objects below n
  record Below (n : ℕ) (es : List Entry) : Type 0 where
    each : (i : ℕ) → i < n → eqb (object_record t c.ipdus i).kind sending ≡ true → has i es ≡ true
    only : AllSent es

  below_next : (n : ℕ) → n < c.objects → (es : List Entry) → Below n es → Below (suc n) (open_entry t c n es)
  below_next n h es b =
      ⊎_elim
      (λ (y : eqb (object_record t c.ipdus n).kind sending ≡ true).
      rw y
      (record {
        each = λ i low k.
            ⊎_elim
            (λ (e : i ≡ n). rw (e, eq-eqb n n refl))
            (λ (ne : i ≡ n → ⊥). has_more i n (object_record t c.ipdus n).initial es (b.each i (omega (arith, low, ne)) k))
            (eq_or_ne i n);
        only = (rw (lt-ltb n c.objects h) y, b.only);
      }))
      (λ (z : eqb (object_record t c.ipdus n).kind sending ≡ false).
      rw z
      (record {
        each = λ i low k.
            ⊎_elim
            (λ (e : i ≡ n). absurd (true_not_false (rw e at k) z))
            (λ (ne : i ≡ n → ⊥). b.each i (omega (arith, low, ne)) k)
            (eq_or_ne i n);
        only = b.only;
      }))
      (true_or_false (eqb (object_record t c.ipdus n).kind sending))

  below : (n : ℕ) → n ≤ c.objects → Below n (fold n (open_entry t c) [])
  below zero h = record { each = λ i low. absurd (not-suc-le-zero low); only = tt }
  below (suc n) h = below_next n h (fold n (open_entry t c) []) (below n (omega (arith, h)))

  opened_full : Full (opened t c).entries
  opened_full =
      let b = below c.objects (omega arith) in
      record {
        each = λ i s.
            let z = and_split (ltb i c.objects) (eqb (object_record t c.ipdus i).kind sending) s in
            b.each i (ltb-true i c.objects z.0) z.1;
        only = b.only;
      }

  -- ---- any call

  abbrev FullBook : Book → Type 0
  FullBook b = Full b.entries

  entered_full : (b : Book) → FullBook b → (told : Told) (n : ℕ) → accepts t c b told n ≡ true → FullBook (entered t c b told)
  entered_full b x told_start n y = opened_full
  entered_full b x told_stop n y = x
  entered_full b x (told_send i v) n y =
      picked Full (keeps t c b i v) (enter i v b.entries) b.entries
      (λ k. more i v b.entries (and_split (leb area_size n && not b.stopped) (sends t c i) y).1 x) (λ k. x)
  entered_full b x (told_initialise i v) n y = picked FullBook (sends t c i) _ b (λ s. more i v b.entries s x) (λ s. x)
  entered_full b x told_nothing n y = x

  pub advance_full : (b : Book) → FullBook b → (call : Call) → FullBook (advance t c b call)
  unfolding advance
  advance_full b x call =
      let told = (describe call).told in
      let n = length (lent_bytes (describe call).lent) in
      picked FullBook (accepts t c b told n) (entered t c b told) b (entered_full b x told n) (λ no. x)

  after_full : (calls : List Call) (b : Book) → FullBook b → FullBook (book_after t c b calls)
  after_full [] b x = x
  after_full (call ∷ calls) b x = after_full calls (advance t c b call) (advance_full b x call)

  -- every list that begins with a start
  pub started_full : (calls : List Call) → Full (book_after t c (opened t c) calls).entries
  started_full calls = after_full calls (opened t c) opened_full

  -- ---- lists with groups

  pub action_full : (b : Book) → FullBook b → (x : Action) → FullBook (advance_by t c b x)
  action_full b full (single call) = advance_full b full call
  action_full b full (group g) =
      picked FullBook (accepts_group b g) (book_after t c b (group_sends g)) b (λ e. after_full (group_sends g) b full) (λ e. full)

  pub actions_full : (xs : List Action) (b : Book) → FullBook b → FullBook (book_after_all t c b xs)
  actions_full [] b full = full
  actions_full (x ∷ xs) b full = actions_full xs (advance_by t c b x) (action_full b full x)

  -- ---- the bits of a frame, as document 01 and W-205 say them

  module _ (k p : ℕ) where
    latest : (i : ℕ) → owns_ipdu_bit (object_record t c.ipdus i) k p ≡ true → (es : List Entry) → has i es ≡ true → Latest t c es k p
    latest i y [] h = absurd (true_not_false {b = true} refl (sym h))
    latest i y (e ∷ es) h =
        ⊎_elim
        (λ (o : owns_ipdu_bit (object_record t c.ipdus e.object) k p ≡ true).
        record { entry = e; later = []; earlier = es; among = refl; covers = o; uncovered = tt; bit = rw o })
        (λ (n : owns_ipdu_bit (object_record t c.ipdus e.object) k p ≡ false).
        ⊎_elim
        (λ (s : eqb e.object i ≡ true). absurd (true_not_false y (rw (eqb-true e.object i s) at n)))
        (λ (d : eqb e.object i ≡ false).
        let z = latest i y es (rw d at h) in
        record {
          entry = z.entry;
          later = e ∷ z.later;
          earlier = z.earlier;
          among = ap (λ (l : List Entry). e ∷ l) z.among;
          covers = z.covers;
          uncovered = (n, z.uncovered);
          bit = rw n z.bit;
        })
        (true_or_false (eqb e.object i)))
        (true_or_false (owns_ipdu_bit (object_record t c.ipdus e.object) k p))

    -- a bit that a send object covers is that of the latest entry of all objects that cover it
    pub covered : (es : List Entry) → Full es → (i : ℕ) → sends t c i ≡ true → owns_ipdu_bit (object_record t c.ipdus i) k p ≡ true → Latest t c es k p
    covered es f i s y = latest i y es (f.each i s)

    -- any other bit is 0
    pub uncovered : (es : List Entry) → AllSent es → ((i : ℕ) → sends t c i ≡ true → owns_ipdu_bit (object_record t c.ipdus i) k p ≡ false)
        → book_bit t c es k p ≡ 0
    uncovered [] a none = refl
    uncovered (e ∷ es) a none = rw (none e.object a.0) (uncovered es a.1 none)
