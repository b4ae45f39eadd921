-- A part that is run line by line: what holds between two lines (`SoFar`), that each line keeps it, and that it ends in `Ran`.
-- Assumes nothing.
use Rattle.std.proofs.Common.{Bool, true, false, not, ◌&&◌, List, ◌⊎◌, inl, inr, ⊎_elim, ◌≡◌, refl, sym, ap, ◌∙◌, subst, ℕ, suc, ◌+◌, ◌-◌, ◌≤◌, ◌<◌, Option}
use Rattle.std.proofs.Common.{arith, ltb-true, ltb-false, leb-true, leb-false, ltb, leb, length, take, drop, get_or, take-suc, take-add}
use borrow.Author.Tests.{not-true}
use Rattle.memory.specs.Search.{pick}
use Rattle.memory.specs.Texts.{line_feed, Put}
use Rattle.memory.proofs.Search.{picked}
use Rattle.memory.proofs.Tests.{and_split, true_or_false}
use Rattle.memory.proofs.Puts.{put_append}
use Rattle.script.specs.declared.Reader.{Reader}
use Rattle.report.specs.Printing.{longest_line}
use Rattle.script.specs.declared.Progress.{Progress}
use Rattle.driver.specs.declared.Reached.{Reached}
use Rattle.driver.specs.declared.Run.{Run}
use Rattle.script_run.specs.Parts.{Board, line_ended, with_reader, advance, advanced, progress_as, progress_of, resumed}
use Rattle.driver.specs.Turns.{Ran}
use Rattle.commands.specs.Given.{Holds}
use Rattle.driver.specs.Turns.{run_as, run_with_reader, Scanned, LineRun}
use Rattle.script_run.proofs.Joined.{advanced_append, advanced_one, advanced_ended, printed_before, line_ended_before, resumed_before}
use Rattle.table.specs.declared.Counts.{Counts}

-- a run, with memory, area and buffer, stands where the board says
pub record OnBoard (t out₀ : List ℕ) (b : Board) (run : Run) (m area out : List ℕ) : Type 0 where
  pub kept : run.progress ≡ progress_of b
  pub memory : m ≡ b.memory
  pub lent : area ≡ b.area
  pub put : Put 0 b.text out₀ out run.written
  pub fits : run.written ≤ length out₀
  pub known : Holds run.checked t m

module _ {t out₀ : List ℕ} {b : Board} {run : Run} {m area out : List ℕ} (s : OnBoard t out₀ b run m area out) where
  on_read : (r : Reader) → OnBoard t out₀ (with_reader b r) (run_with_reader run r) m area out
  on_read r =
      record {
        kept = ap (λ (q : Progress). progress_as r q.line q.ended) s.kept;
        memory = s.memory;
        lent = s.lent;
        put = s.put;
        fits = s.fits;
        known = s.known;
      }

  board_as : b ≡ printed_before b.text (resumed run.progress m area)
  board_as =
      resumed_before b
      ∙ ap (λ (q : Progress). printed_before b.text (resumed q b.memory b.area)) (sym s.kept)
      ∙ ap (λ (x : List ℕ). printed_before b.text (resumed run.progress x b.area)) (sym s.memory)
      ∙ ap (λ (x : List ℕ). printed_before b.text (resumed run.progress m x)) (sym s.lent)

  on_line : {m' area' out' : List ℕ} {r : Run} → run.written + longest_line ≤ length out₀ → LineRun t run.progress m area out m' area' out' run.written r
      → OnBoard t out₀ (line_ended t b) r m' area' out'
  on_line {m'} {area'} {out'} {r} room line =
      let after = line_ended t (resumed run.progress m area) in
      let same : line_ended t b ≡ printed_before b.text after =
      ap (line_ended t) board_as ∙ line_ended_before t b.text (resumed run.progress m area) in
      subst (λ (x : Board). OnBoard t out₀ x r m' area' out') (sym same)
      record {
        kept = line.kept;
        memory = line.memory;
        lent = line.lent;
        put = put_append s.put line.line;
        fits = omega (arith, room, line.room);
        known = line.known;
      }

module _ (t part : List ℕ) (p : Progress) (m₀ area₀ out₀ : List ℕ) where
  -- the board after the first `at` bytes of the part
  abbrev pub reached : ℕ → Board
  reached at = advanced t (resumed p m₀ area₀) (take at part)

  pub record SoFar (at : ℕ) (run : Run) (m area out : List ℕ) : Type 0 where
    pub inside : at ≤ length part
    pub stands : OnBoard t out₀ (reached at) run m area out

  pub so_far_none : {checked : Option Counts} → Holds checked t m₀ → SoFar 0 (run_as p checked 0) m₀ area₀ out₀
  unfolding advanced
  so_far_none known =
      record {
        inside = omega arith;
        stands = record { kept = refl; memory = refl; lent = refl; put = record { stored = refl; behind = refl }; fits = omega arith; known = known };
      }

  module _ {at : ℕ} {run : Run} {m area out : List ℕ} (s : SoFar at run m area out) (going : run.progress.ended ≡ false) where
    goes : (reached at).ended ≡ false
    goes = ap (λ (q : Progress). q.ended) (sym s.stands.kept) ∙ going

    -- the bytes of a line
    pub so_far_scanned : {r : Reached} → Scanned part at run.progress.reader r → SoFar r.at (run_with_reader run r.reader) m area out
    so_far_scanned {r} scanned =
        let k : ℕ = r.at - at in
        let there : r.at ≡ at + k = omega (arith, scanned.low) in
        let next : reached r.at ≡ with_reader (reached at) r.reader =
        ap reached there
        ∙ ap (λ (l : List ℕ). advanced t (resumed p m₀ area₀) l) (take-add at k part)
        ∙ advanced_append t (resumed p m₀ area₀) (take at part) (take k (drop at part))
        ∙ scanned.runs t (reached at) goes (ap (λ (q : Progress). q.reader) (sym s.stands.kept)) in
        record {
          inside = scanned.high;
          stands = subst (λ (x : Board). OnBoard t out₀ x (run_with_reader run r.reader) m area out) (sym next) (on_read s.stands r.reader);
        }

    -- its line feed
    pub so_far_ended : at < length part → get_or part at 0 ≡ line_feed → run.written + longest_line ≤ length out₀
        → {m' area' out' : List ℕ} {r : Run} → LineRun t run.progress m area out m' area' out' run.written r → SoFar (at + 1) r m' area' out'
    unfolding advance
    so_far_ended low feed room {m'} {area'} {out'} {r} line =
        let more : at + 1 ≡ suc at = omega arith in
        let next : reached (at + 1) ≡ line_ended t (reached at) =
        ap reached more
        ∙ ap (λ (l : List ℕ). advanced t (resumed p m₀ area₀) l) (take-suc part at 0 low)
        ∙ advanced_one t (resumed p m₀ area₀) (take at part) (get_or part at 0)
        ∙ rw (goes, feed) in
        record {
          inside = omega (arith, low);
          stands = subst (λ (x : Board). OnBoard t out₀ x r m' area' out') (sym next) (on_line s.stands room line);
        }

  -- ---- the end of the part, or of the room

  ran : {run : Run} {m area out : List ℕ} (read : ℕ) → read ≤ length part → OnBoard t out₀ (reached read) run m area out
      → (read ≡ length part) ⊎ (length out₀ < run.written + longest_line)
      → Ran t part p m₀ area₀ out₀ m area out (record { progress = run.progress; read = read; written = run.written })
  ran {run} {m} {area} {out} read inside s far =
      record {
        inside = inside;
        kept = s.kept;
        memory = s.memory;
        lent = s.lent;
        put = s.put;
        fits = s.fits;
        far = far;
      }

  -- behind a line that can't be read the rest of the part does nothing
  rest_unread : {at : ℕ} → at ≤ length part → (reached at).ended ≡ true → reached (length part) ≡ reached at
  rest_unread {at} inside over =
      let k : ℕ = length part - at in
      let there : length part ≡ at + k = omega (arith, inside) in
      ap reached there
      ∙ ap (λ (l : List ℕ). advanced t (resumed p m₀ area₀) l) (take-add at k part)
      ∙ advanced_append t (resumed p m₀ area₀) (take at part) (take k (drop at part))
      ∙ advanced_ended t (reached at) (take k (drop at part)) over

  pub so_far_done : {at read : ℕ} {run : Run} {m area out : List ℕ} → SoFar at run m area out
      → (at ≡ length part) ⊎ ((not run.progress.ended && leb (run.written + longest_line) (length out₀)) ≡ false)
      → read ≡ pick run.progress.ended (length part) at
      → Ran t part p m₀ area₀ out₀ m area out (record { progress = run.progress; read = read; written = run.written })
  so_far_done {at} {read} {run} {m} {area} {out} s why is =
      subst (λ (n : ℕ). Ran t part p m₀ area₀ out₀ m area out (record { progress = run.progress; read = n; written = run.written })) (sym is)
      (picked (λ (read : ℕ). Ran t part p m₀ area₀ out₀ m area out (record { progress = run.progress; read = read; written = run.written }))
      run.progress.ended (length part) at
      (λ over.
      let same = rest_unread s.inside (ap (λ (q : Progress). q.ended) (sym s.stands.kept) ∙ over) in
      ran (length part) (omega arith) (subst (λ (x : Board). OnBoard t out₀ x run m area out) (sym same) s.stands) (inl refl))
      (λ going.
      let full : Bool → Type 0 = λ f. (not f && leb (run.written + longest_line) (length out₀)) ≡ false in
      ran at s.inside s.stands (⊎_elim (λ e. inl e) (λ e. inr (leb-false _ _ (subst full going e))) why)))

-- ---- the loop's test: bytes are left, a line can still be read and there is room

pub record Goes (at n room : ℕ) (run : Run) : Type 0 where
  pub low : at < n
  pub going : run.progress.ended ≡ false
  pub room_left : run.written + longest_line ≤ room

module _ (at n room : ℕ) (run : Run) {r : Bool} (answers : r ≡ (not run.progress.ended && leb (run.written + longest_line) room)) where
  pub turn_goes : (ltb at n && r) ≡ true → Goes at n room run
  turn_goes e =
      let both = and_split (ltb at n) r e in
      let on = and_split (not run.progress.ended) (leb (run.written + longest_line) room) (sym answers ∙ both.1) in
      record {
        low = ltb-true at n both.0;
        going = not-true run.progress.ended on.0;
        room_left = leb-true (run.written + longest_line) room on.1;
      }

  pub turn_ends : at ≤ n → (ltb at n && r) ≡ false → (at ≡ n) ⊎ ((not run.progress.ended && leb (run.written + longest_line) room) ≡ false)
  turn_ends inside e =
      ⊎_elim
      (λ (low : ltb at n ≡ true). inr (sym answers ∙ subst (λ (b : Bool). (b && r) ≡ false) low e))
      (λ (high : ltb at n ≡ false). inl (omega (arith, inside, ltb-false at n high)))
      (true_or_false (ltb at n))

-- the bytes of a line were read: all still stands, and its line feed may follow
pub record LineRead (t part : List ℕ) (p : Progress) (m₀ area₀ out₀ : List ℕ) (r : Reached) (run : Run) (m area out : List ℕ) : Type 0 where
  pub stands : SoFar t part p m₀ area₀ out₀ r.at run m area out
  pub going : run.progress.ended ≡ false
  pub room_left : run.written + longest_line ≤ length out₀

module _ (t part : List ℕ) (p : Progress) (m₀ area₀ out₀ : List ℕ) {at : ℕ} {run : Run} {m area out : List ℕ} {r : Reached} where
  pub line_read : {run' : Run} → SoFar t part p m₀ area₀ out₀ at run m area out → Goes at (length part) (length out₀) run → Scanned part at run.progress.reader r
      → run' ≡ run_with_reader run r.reader → LineRead t part p m₀ area₀ out₀ r run' m area out
  line_read {run'} s goes scanned is =
      subst (λ (x : Run). LineRead t part p m₀ area₀ out₀ r x m area out) (sym is)
      record { stands = so_far_scanned t part p m₀ area₀ out₀ s goes.going scanned; going = goes.going; room_left = goes.room_left }

  -- its line feed
  pub line_fed : {reader : Reader} → LineRead t part p m₀ area₀ out₀ r run m area out → Scanned part at reader r → r.at < length part
      → {m' area' out' : List ℕ} {after : Run} → LineRun t run.progress m area out m' area' out' run.written after
      → SoFar t part p m₀ area₀ out₀ (r.at + 1) after m' area' out'
  line_fed read scanned low line =
      ⊎_elim
      (λ (e : r.at ≡ length part). absurd (omega (arith, e, low)))
      (λ (feed : get_or part r.at 0 ≡ line_feed). so_far_ended t part p m₀ area₀ out₀ read.stands read.going low feed read.room_left line)
      scanned.stops
