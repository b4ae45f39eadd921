-- Document 01's list of 64 places gives the big walk. The library does not read it: it is an example that the definitions are held to.
-- Assumes nothing.
use Rattle.std.proofs.Common.{◌≡◌, ℕ, ◌+◌, ◌<◌, List, ◌∷◌, get_or, sym, refl, ap, ◌∙◌, arith, []}
use Rattle.bits.specs.declared.Order.TheVariants.{Big}
use Rattle.bits.specs.Bits.{place}
use Rattle.bits.specs.Slots.{position}
use Rattle.memory.proofs.Tests.{tabulate, tabulate_at}
use Rattle.bits.proofs.Places.{position_twice, Along, along}

abbrev pub big_walk : List ℕ
big_walk =
    56 ∷ 57 ∷ 58 ∷ 59 ∷ 60 ∷ 61 ∷ 62 ∷ 63
    ∷ 48 ∷ 49 ∷ 50 ∷ 51 ∷ 52 ∷ 53 ∷ 54 ∷ 55
    ∷ 40 ∷ 41 ∷ 42 ∷ 43 ∷ 44 ∷ 45 ∷ 46 ∷ 47
    ∷ 32 ∷ 33 ∷ 34 ∷ 35 ∷ 36 ∷ 37 ∷ 38 ∷ 39
    ∷ 24 ∷ 25 ∷ 26 ∷ 27 ∷ 28 ∷ 29 ∷ 30 ∷ 31
    ∷ 16 ∷ 17 ∷ 18 ∷ 19 ∷ 20 ∷ 21 ∷ 22 ∷ 23
    ∷ 8 ∷ 9 ∷ 10 ∷ 11 ∷ 12 ∷ 13 ∷ 14 ∷ 15
    ∷ 0 ∷ 1 ∷ 2 ∷ 3 ∷ 4 ∷ 5 ∷ 6 ∷ 7 ∷ []

pub rule : big_walk ≡ tabulate 64 (position Big)
unfolding position
rule = refl

entry : (p : ℕ) → p < 64 → get_or big_walk p 0 ≡ position Big p
entry p h = ap (λ (l : List ℕ). get_or l p 0) rule ∙ tabulate_at 64 (position Big) p h

-- the list gives the big walk: from where the start bit stands in it, each entry is the next message bit's place
pub gives_the_walk : (n i : ℕ) → n < 64 → get_or big_walk n 0 + i < 64 → place Big n i ≡ get_or big_walk (get_or big_walk n 0 + i) 0
gives_the_walk n i h k =
    let start : get_or big_walk n 0 ≡ position Big n = entry n h in
    let inside : position Big n + i < 64 = omega arith in
    let met : Along Big n i = along Big n i h inside in
    sym (position_twice Big (place Big n i) met.inside) ∙ ap (position Big) met.at
    ∙ sym (entry (position Big n + i) inside) ∙ ap (λ (p : ℕ). get_or big_walk (p + i) 0) (sym start)
