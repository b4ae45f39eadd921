-- `filter::filter_of`: arm k is entry k of the list of filters, and a number past the arms is past the list.
-- Assumes nothing.
use Rattle.std.proofs.Common.{ℕ, zero, suc, ◌≤◌, zero-le, ◌≡◌, sym, arith}
use lib.ListN.{get_or-eq_default}
use Rattle.filter.specs.declared.Filter.TheVariants.{Never}
use Rattle.filter.specs.Filters.{filters, filter_of}
use Rattle.filter.proofs.filter_of.Goals as goal

-- a number is none of those below k: it is at least k
abbrev NoneBelow : ℕ → ℕ → Type 0
NoneBelow n zero = Unit {0}
NoneBelow n (suc k) = NoneBelow n k × (n ≡ k → ⊥)

at_least : (n k : ℕ) → NoneBelow n k → k ≤ n
at_least n zero none = zero-le
at_least n (suc k) none = omega (arith, at_least n k none.0, none.1)

pub returns-in_default : goal.returns-in_default
unfolding filter_of
returns-in_default c =
    let a = c.args in
    sym (get_or-eq_default (filters a.first a.second) Never (at_least a.number 15 c.in_default.in_default-own.rest))
