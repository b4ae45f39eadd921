-- Demand 3, two lists: calls alike but for dropped values give the same answers and frames, over memories that are alike in the
-- first 8,192 bytes, and leave such memories.
-- Assumes: the table holds bytes, and arguments are of the types that the calls take (`Typed`).
use Rattle.std.proofs.Common.{true, false, List, [], ◌∷◌, ⊎_elim, ◌≡◌, refl, sym, ap, subst, ◌∙◌, ℕ, ◌^◌, ◌≤◌, ◌<◌, arith, le-leb, length, Ok}
use Rattle.memory.specs.Bytes.{Bytes, part}
use Rattle.memory.proofs.Tests.{true_or_false}
use Rattle.table.specs.declared.Counts.{Counts}
use Rattle.table.specs.Records.{sending, ipdu_record}
use Rattle.table.specs.Check.{check}
use Rattle.table.proofs.Accepted.{accepted_right}
use Rattle.state.specs.Layout.{memory_size, slot_at, object_state, with_object_state}
use Rattle.state.specs.Updates.{counted}
use Rattle.message.specs.Objects.{object}
use Rattle.calls.specs.Answers.{Outcome, number_of, value_of}
use Rattle.calls.specs.Calls.{is_object, send_in}
use Rattle.calls.specs.Tick.{tick_in}
use Rattle.layer.specs.Admission.{working_memory, start_admission, if_admitted}
use Rattle.startup.specs.Start.{started}
use Rattle.layer.specs.Step.{Call, start, send, tick, lent_bytes, long_enough, describe, step, memory_after}
use Rattle.layer.proofs.Admitted.{front_of}
use Rattle.layer.proofs.ReadyKept.{start_ready}
use Rattle.trace.specs.Book.{Book, keeps, advance, book_after}
use Rattle.trace.specs.Demand3.{Typed, AllTyped, word_of, inside, Alike, same, areas, ticks, dropped, AllAlike, SameAnswer, AllSame}
use Rattle.trace.proofs.SendFrames.{send_area, send_dropped}
use Rattle.trace.proofs.TickFrames.{tick_area}
use Rattle.trace.proofs.SendRefines.{refines_send}
use Rattle.trace.proofs.Steps.{Follows, admission_by, Admits, goes, stays, admits, admission_is, own_long, step_follows, step_frames}

-- the same answer, and memories alike in the first 8,192 bytes
pub record SameOutcome (o p : Outcome) : Type 0 where
  pub answer : o.answer ≡ p.answer
  pub memory : working_memory o.memory ≡ working_memory p.memory

no_bytes : Bytes []
no_bytes i = omega arith

module _ (t : List ℕ) (c : Counts) (accepted : check t ≡ Ok c) (bt : Bytes t) where
  -- a start leaves the same, whatever lay in memory before
  pub start_same : (m n : List ℕ) → memory_size ≤ length m → memory_size ≤ length n → SameOutcome (step t start m) (step t start n)
  unfolding step start_admission
  start_same m n long far =
      let size = (start_ready t c (accepted_right t c accepted) bt).long in
      rw (accepted, le-leb memory_size (length m) long, le-leb memory_size (length n) far)
      (record { answer = refl; memory = front_of (started t c) m size ∙ sym (front_of (started t c) n size) })

  module _ (b : Book) (m n : List ℕ) (f : Follows t c b m) (g : Follows t c b n) (alike : working_memory m ≡ working_memory n) where
    -- what two calls that go on give
    record Inner (o p : Outcome) : Type 0 where
      answer : o.answer ≡ p.answer
      memory : o.memory ≡ p.memory
      size : length o.memory ≡ memory_size

    -- two calls that go on alike, and give the same there
    pair_same : (x y : Call) → admission_by (describe x) c b ≡ admission_by (describe y) c b
        → (((describe x).running ≡ true → long_enough (describe x).lent ≡ true) → Inner ((describe x).does t c (working_memory m)) ((describe y).does t c (working_memory n)))
        → SameOutcome (step t x m) (step t y n)
    unfolding step
    pair_same x y e i = rw (admission_is t c accepted bt b m f (describe x), admission_is t c accepted bt b n g (describe y), sym e) (by (admits (describe x) c b))
      where
        by : Admits (describe x) c b
            → SameOutcome (if_admitted (admission_by (describe x) c b) m (lent_bytes (describe x).lent) ((describe x).does t))
            (if_admitted (admission_by (describe x) c b) n (lent_bytes (describe y).lent) ((describe y).does t))
        by (goes a l on) =
            let k = i l in
            rw a
            (record {
              answer = k.answer;
              memory =
                  front_of ((describe x).does t c (working_memory m)).memory m k.size
                  ∙ k.memory
                  ∙ sym (front_of ((describe y).does t c (working_memory n)).memory n (ap length (sym k.memory) ∙ k.size));
            })
        by (stays z a done six off) = rw a (record { answer = refl; memory = alike })

    -- the same call
    equal_same : (call : Call) → Typed call → SameOutcome (step t call m) (step t call n)
    equal_same call y =
        pair_same call call refl
        (λ l.
        record {
          answer = ap (λ (w : List ℕ). ((describe call).does t c w).answer) alike;
          memory = ap (λ (w : List ℕ). ((describe call).does t c w).memory) alike;
          size = own_long t c accepted bt b m f call y l;
        })

    -- ---- another area

    areas_same : (i v : ℕ) → v < 2 ^ 32 → (area other : List ℕ) → length area ≡ length other → SameOutcome (step t (send i v area) m) (step t (send i v other) n)
    areas_same i v small area other e =
        pair_same (send i v area) (send i v other) (rw e)
        (λ l.
        let x = send_area t c i v area other (working_memory m) in
        record {
          answer = x.0 ∙ ap (λ (w : List ℕ). (send_in t c i v other w).answer) alike;
          memory = x.1 ∙ ap (λ (w : List ℕ). (send_in t c i v other w).memory) alike;
          size = own_long t c accepted bt b m f (send i v area) (small, no_bytes) l;
        })

    ticks_same : (area other : List ℕ) → length area ≡ length other → SameOutcome (step t (tick area) m) (step t (tick other) n)
    ticks_same area other e =
        pair_same (tick area) (tick other) (rw e)
        (λ l.
        let x = tick_area t c area other (working_memory m) in
        record {
          answer = x.0 ∙ ap (λ (w : List ℕ). (tick_in t c other w).answer) alike;
          memory = x.1 ∙ ap (λ (w : List ℕ). (tick_in t c other w).memory) alike;
          size = own_long t c accepted bt b m f (tick area) (tt, no_bytes) l;
        })

    -- ---- dropped values

    module _ (i v w : ℕ) (small : v < 2 ^ 32) (little : w < 2 ^ 32) (area other : List ℕ) (dropv : keeps t c b i v ≡ false) (dropw : keeps t c b i w ≡ false)
        (none : inside t c i ≡ false) where
      dropped_inner : Inner (send_in t c i v area (working_memory m)) (send_in t c i w other (working_memory n))
      dropped_inner = ⊎_elim there missing (true_or_false (is_object t c sending i))
        where
          size : length (send_in t c i v area (working_memory m)).memory ≡ memory_size
          size = (refines_send t c b (working_memory m) f.agrees i v small area).ready.long

          there : is_object t c sending i ≡ true → Inner (send_in t c i v area (working_memory m)) (send_in t c i w other (working_memory n))
          there is =
              let x = send_dropped t c b (working_memory m) f.agrees i v small area is dropv none in
              let y = send_dropped t c b (working_memory n) g.agrees i w little other is dropw none in
              record {
                answer = ap (λ (o : Outcome). o.answer) x ∙ sym (ap (λ (o : Outcome). o.answer) y);
                memory =
                    ap (λ (o : Outcome). o.memory) x
                    ∙ ap (λ (l : List ℕ). with_object_state l i (counted (object t c i).filter (object_state l i))) alike
                    ∙ sym (ap (λ (o : Outcome). o.memory) y);
                size = size;
              }

          missing : is_object t c sending i ≡ false → Inner (send_in t c i v area (working_memory m)) (send_in t c i w other (working_memory n))
          missing out = record { answer = unfold send_in in rw out; memory = unfold send_in in rw out alike; size = size }

      dropped_same : length area ≡ length other → SameOutcome (step t (send i v area) m) (step t (send i w other) n)
      dropped_same e = pair_same (send i v area) (send i w other) (rw e) (λ l. dropped_inner)

      -- the two books enter nothing, and count alike
      dropped_book : length area ≡ length other → advance t c b (send i v area) ≡ advance t c b (send i w other)
      unfolding advance
      dropped_book e = rw (sym e, dropv, dropw)

    -- ---- calls alike

    pub record Step (x y : Call) : Type 0 where
      pub outcome : SameOutcome (step t x m) (step t y n)
      pub word : word_of x (step t x m).answer ≡ word_of y (step t y n).answer
      pub book : advance t c b x ≡ advance t c b y

    pub alike_step : (x y : Call) → Typed x → Typed y → Alike t c b b x y → Step x y
    alike_step x y p q (same e) =
        let w = equal_same x p in
        subst (Step x) e (record { outcome = w; word = ap (word_of x) w.answer; book = refl })
    alike_step x y p q (areas i v area other ex ey e) =
        let small : v < 2 ^ 32 = (subst Typed ex p).0 in
        let w = areas_same i v small area other e in
        rw (ex, ey) (record { outcome = w; word = ap value_of w.answer; book = area_book i v area other e })
      where
        area_book : (i v : ℕ) (area other : List ℕ) → length area ≡ length other → advance t c b (send i v area) ≡ advance t c b (send i v other)
        area_book i v area other e = unfold advance in rw (sym e)
    alike_step x y p q (ticks area other ex ey e) =
        let w = ticks_same area other e in
        rw (ex, ey) (record { outcome = w; word = ap value_of w.answer; book = unfold advance in refl })
    alike_step x y p q (dropped i v w area other ex ey e dropv dropw none) =
        let small : v < 2 ^ 32 = (subst Typed ex p).0 in
        let little : w < 2 ^ 32 = (subst Typed ey q).0 in
        let z = dropped_same i v w small little area other dropv dropw none e in
        rw (ex, ey) (record { outcome = z; word = ap value_of z.answer; book = dropped_book i v w small little area other dropv dropw none e })

    pub same_answer : (x y : Call) → Typed x → Typed y → Step x y → SameAnswer t x y (step t x m) (step t y n)
    same_answer x y p q s =
        let hx = step_frames t c accepted bt b m f x p in
        let hy = step_frames t c accepted bt b n g y q in
        record {
          number = ap number_of s.outcome.answer;
          value = ap value_of s.outcome.answer;
          word = s.word;
          frames = λ k e.
              hx.slot k e
              ∙ ap (part (slot_at k) (ipdu_record t k).length) s.outcome.memory
              ∙ sym (hy.slot k (rw s.word at e));
        }

  pub lists_same : (xs ys : List Call) → AllTyped xs → AllTyped ys → (b : Book) (m n : List ℕ) → Follows t c b m → Follows t c b n → working_memory m ≡ working_memory n
      → AllAlike t c b b xs ys → AllSame t xs ys m n
  lists_same [] [] p q b m n f g e a = tt
  lists_same [] (y ∷ ys) p q b m n f g e a = a
  lists_same (x ∷ xs) [] p q b m n f g e a = a
  lists_same (x ∷ xs) (y ∷ ys) p q b m n f g e a =
      let s = alike_step b m n f g e x y p.0 q.0 a.0 in (
        same_answer b m n f g e x y p.0 q.0 s,
        lists_same xs ys p.1 q.1 (advance t c b x) (step t x m).memory (step t y n).memory
            (step_follows t c accepted bt b m f x p.0)
            (subst (λ (d : Book). Follows t c d (step t y n).memory) (sym s.book) (step_follows t c accepted bt b n g y q.0))
            s.outcome.memory
            (subst (λ (d : Book). AllAlike t c (advance t c b x) d xs ys) (sym s.book) a.1),
      )

  -- what they leave
  pub record SameEnd (b : Book) (xs ys : List Call) (m n : List ℕ) : Type 0 where
    pub book : book_after t c b xs ≡ book_after t c b ys
    pub memory : working_memory (memory_after t xs m) ≡ working_memory (memory_after t ys n)

  pub lists_end : (xs ys : List Call) → AllTyped xs → AllTyped ys → (b : Book) (m n : List ℕ) → Follows t c b m → Follows t c b n → working_memory m ≡ working_memory n
      → AllAlike t c b b xs ys → SameEnd b xs ys m n
  lists_end [] [] p q b m n f g e a = record { book = refl; memory = e }
  lists_end [] (y ∷ ys) p q b m n f g e a = absurd a
  lists_end (x ∷ xs) [] p q b m n f g e a = absurd a
  lists_end (x ∷ xs) (y ∷ ys) p q b m n f g e a =
      let s = alike_step b m n f g e x y p.0 q.0 a.0 in
      let rest =
      lists_end xs ys p.1 q.1 (advance t c b x) (step t x m).memory (step t y n).memory
      (step_follows t c accepted bt b m f x p.0)
      (subst (λ (d : Book). Follows t c d (step t y n).memory) (sym s.book) (step_follows t c accepted bt b n g y q.0))
      s.outcome.memory
      (subst (λ (d : Book). AllAlike t c (advance t c b x) d xs ys) (sym s.book) a.1) in
      record { book = rest.book ∙ ap (λ (d : Book). book_after t c d ys) s.book; memory = rest.memory }
