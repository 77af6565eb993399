-- The order of integrals by complexity, which is the order of elimination, and that of units.
-- The orders are the project's own, in the manner of Laporta, hep-ph/0102033.
use Rattle.std.specs.Prelude.{count_ones}
use Rattle.std.specs.declared.cmp.Ordering.{Ordering}
use Rattle.std.specs.Ordering.{nat_cmp, int_cmp, on, then_cmp}
use Rattle.std.specs.Cmp.Lexicographic.{slice_cmp}
use Rattle.integral_index.specs.declared.Order.{Order}
use Rattle.integral_index.specs.declared.Order.TheVariants.{Standard}
use Rattle.integral_index.specs.declared.Unit.{Unit}
use Rattle.integral_index.specs.Integral.{Integral, sector_of, t_of, r_of, s_of}

-- by family and then by indices: a way to tell integrals apart, whatever the order of the job
abbrev pub by_fields : Integral → Integral → Ordering
by_fields = then_cmp (on (λ x. x.family) nat_cmp) (on (λ x. x.indices) (slice_cmp int_cmp))

-- the unit of an integral: its family and its sector
abbrev pub unit_of : Integral → Unit
unit_of x = record { family = x.family; sector = sector_of x.indices }

-- units are compared by t of the sector, then by family, then by sector
abbrev pub unit_compare : Unit → Unit → Ordering
unit_compare =
    then_cmp (on (λ u. count_ones u.sector) nat_cmp)
    (then_cmp (on (λ u. u.family) nat_cmp) (on (λ u. u.sector) nat_cmp))

-- integrals are compared by t, family, sector, r, s, and then their indices one by one
abbrev pub standard_compare : Integral → Integral → Ordering
standard_compare =
    then_cmp (on (λ x. t_of x.indices) nat_cmp)
    (then_cmp (on (λ x. x.family) nat_cmp)
    (then_cmp (on (λ x. sector_of x.indices) nat_cmp)
    (then_cmp (on (λ x. r_of x.indices) nat_cmp)
    (then_cmp (on (λ x. s_of x.indices) nat_cmp) (on (λ x. x.indices) (slice_cmp int_cmp))))))

-- the comparison of each order; the greater integral is the more complex
abbrev pub compare : Order → Integral → Integral → Ordering
compare Standard = standard_compare
