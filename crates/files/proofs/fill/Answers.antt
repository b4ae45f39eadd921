-- A read puts its bytes behind those that were read before.
use Rattle.std.proofs.Common.{◌≡◌, ℕ, ◌+◌, ◌≤◌, List, ◌++◌, rules, length, take, sym, ap, ◌∙◌, subst, le_refl, drop_at, length-take-le}
use Rattle.std.proofs.lemmas.Slice.{take-put_mid_below}
use Rattle.std.specs.Io.KnownBytes.{Consumes}
use Rattle.std.proofs.KnownBytes.{Consumes-trans}
use borrow.Rule.Slice.PartMut.{put_mid, post_of}
use lib.Seq.{take-add, take-append-le}
use Rattle.files.proofs.fill.Goals as goal

-- the front of xs, and then the first n bytes that were put behind it
read_behind : (at k n : ℕ) (xs part : List ℕ) → at ≤ length xs → n ≤ length part → take at xs ++ take n part ≡ take (at + n) (put_mid at k xs part)
read_behind at k n xs part within fits =
    let after = post_of at k xs in
    let behind = ap (take n) (drop_at (take at xs) (part ++ after) at (length-take-le at xs within)) ∙ take-append-le n part after fits in
    let front = take-put_mid_below at k xs part at (le_refl at) within in
    ap (λ l. l ++ take n part) (sym front) ∙ ap (λ l. take at (put_mid at k xs part) ++ l) (sym behind) ∙ sym (take-add at n (put_mid at k xs part))

pub loop-done-preserved : goal.loop-done-preserved
loop-done-preserved g c =
    let (within, consumed) = c.loop-done.invariant in
    let joined = read_behind c.loop-done.done _ c.in_ok-got.got c.loop-done.bytes c.read.new.buf within c.in_ok-got.ensures.bound.0 in
    (search rules, subst (Consumes _ _) joined (Consumes-trans _ _ _ _ _ consumed c.in_ok-got.ensures.bytes.0))
