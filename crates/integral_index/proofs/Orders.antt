-- The laws of the comparisons. The proofs above this crate cite them.
use Rattle.std.proofs.Common.{◌≡◌, ◌≢◌, refl, sym, ap, ◌∙◌}
use Rattle.std.specs.Cmp.{IsTotalOrder}
use Rattle.std.specs.Cmp.Lexicographic.{slice_cmp}
use Rattle.std.specs.FinMap.{IsAntisymmetric, nat_cmp-IsAntisymmetric, int_cmp-IsAntisymmetric, slice_cmp-IsAntisymmetric}
use Rattle.std.specs.declared.cmp.Ordering.{Ordering}
use Rattle.std.specs.declared.cmp.Ordering.TheVariants.{Less, Equal, Greater}
use Rattle.std.specs.Ordering.{nat_cmp, int_cmp, ordering_then}
use Rattle.std.specs.Prelude.{count_ones}
use Rattle.std.proofs.lemmas.Cmp.{nat_cmp_total, int_cmp_total, on_total, then_total, lists_total, tied_itself}
use Rattle.integral_index.specs.declared.Order.{Order}
use Rattle.integral_index.specs.declared.Order.TheVariants.{Standard}
use Rattle.integral_index.specs.declared.Unit.{Unit}
use Rattle.integral_index.specs.Integral.{Integral, sector_of, t_of, r_of, s_of}
use Rattle.integral_index.specs.Order.{by_fields, unit_of, unit_compare, standard_compare, compare}
use Rattle.integral_index.specs.Laws.{OrderRefinesUnits}
use Rattle.integral_index.proofs.IndexLists.{count_ones-sector_of}

Equal-parts : (a b : Ordering) → ordering_then a b ≡ Equal → (a ≡ Equal) × (b ≡ Equal)
Equal-parts Less b h = absurd (cc)
Equal-parts Equal b h = (refl, h)
Equal-parts Greater b h = absurd (cc)

-- ---- by fields

pub by_fields-total : IsTotalOrder by_fields
by_fields-total = then_total (on_total (λ (x : Integral). x.family) nat_cmp_total) (on_total (λ (x : Integral). x.indices) (lists_total int_cmp_total))

same_fields : (x y : Integral) → x.family ≡ y.family → x.indices ≡ y.indices → x ≡ y
same_fields x y f e i = record { family = f i; indices = e i }

pub by_fields-IsAntisymmetric : IsAntisymmetric by_fields
by_fields-IsAntisymmetric x y h =
    let p = Equal-parts _ _ h in
    same_fields x y (nat_cmp-IsAntisymmetric _ _ p.0) (slice_cmp-IsAntisymmetric int_cmp-IsAntisymmetric _ _ p.1)

pub tells_apart : {K : Type 0} {R : K → K → Ordering} → IsTotalOrder R → IsAntisymmetric R → (x y : K) → (R x y ≡ Equal → x ≡ y) × (x ≡ y → R x y ≡ Equal)
tells_apart {R = R} total same x y = (same x y, λ e. ap (R x) (sym e) ∙ tied_itself total x)

-- ---- the orders of integrals

pub standard_compare-total : IsTotalOrder standard_compare
standard_compare-total =
    then_total (on_total (λ (x : Integral). t_of x.indices) nat_cmp_total)
    (then_total (on_total (λ (x : Integral). x.family) nat_cmp_total)
    (then_total (on_total (λ (x : Integral). sector_of x.indices) nat_cmp_total)
    (then_total (on_total (λ (x : Integral). r_of x.indices) nat_cmp_total)
    (then_total (on_total (λ (x : Integral). s_of x.indices) nat_cmp_total) (on_total (λ (x : Integral). x.indices) (lists_total int_cmp_total))))))

pub compare-total : (order : Order) → IsTotalOrder (compare order)
compare-total Standard = standard_compare-total

-- the second and the last of six comparisons
Equal-of_six : (a b c d e f : Ordering) → ordering_then a (ordering_then b (ordering_then c (ordering_then d (ordering_then e f)))) ≡ Equal → (b ≡ Equal) × (f ≡ Equal)
Equal-of_six a b c d e f h =
    let from_b = Equal-parts a (ordering_then b (ordering_then c (ordering_then d (ordering_then e f)))) h in
    let from_c = Equal-parts b (ordering_then c (ordering_then d (ordering_then e f))) from_b.1 in
    let from_d = Equal-parts c (ordering_then d (ordering_then e f)) from_c.1 in
    let from_e = Equal-parts d (ordering_then e f) from_d.1 in
    (from_c.0, (Equal-parts e f from_e.1).1)

standard_compare-IsAntisymmetric : IsAntisymmetric standard_compare
standard_compare-IsAntisymmetric x y h =
    let parts = Equal-of_six (nat_cmp (t_of x.indices) (t_of y.indices)) (nat_cmp x.family y.family)
    (nat_cmp (sector_of x.indices) (sector_of y.indices)) (nat_cmp (r_of x.indices) (r_of y.indices))
    (nat_cmp (s_of x.indices) (s_of y.indices)) (slice_cmp int_cmp x.indices y.indices) h in
    same_fields x y (nat_cmp-IsAntisymmetric _ _ parts.0) (slice_cmp-IsAntisymmetric int_cmp-IsAntisymmetric _ _ parts.1)

pub compare-IsAntisymmetric : (order : Order) → IsAntisymmetric (compare order)
compare-IsAntisymmetric Standard = standard_compare-IsAntisymmetric

-- ---- the order of units

pub unit_compare-total : IsTotalOrder unit_compare
unit_compare-total =
    then_total (on_total (λ (u : Unit). count_ones u.sector) nat_cmp_total)
    (then_total (on_total (λ (u : Unit). u.family) nat_cmp_total) (on_total (λ (u : Unit). u.sector) nat_cmp_total))

pub unit_compare-IsAntisymmetric : IsAntisymmetric unit_compare
unit_compare-IsAntisymmetric x y h =
    let by_t = Equal-parts _ _ h in
    let by_family = Equal-parts _ _ by_t.1 in
    let family = nat_cmp-IsAntisymmetric _ _ by_family.0 in
    let sector = nat_cmp-IsAntisymmetric _ _ by_family.1 in
    λ i. record { family = family i; sector = sector i }

-- a comparison that is decided by its first three parts
decided : (a b c rest : Ordering) → ordering_then a (ordering_then b c) ≢ Equal → ordering_then a (ordering_then b (ordering_then c rest)) ≡ ordering_then a (ordering_then b c)
decided Less b c rest h = refl
decided Greater b c rest h = refl
decided Equal Less c rest h = refl
decided Equal Greater c rest h = refl
decided Equal Equal Less rest h = refl
decided Equal Equal Greater rest h = refl
decided Equal Equal Equal rest h = absurd (h refl)

pub compare-of_units : (order : Order) → OrderRefinesUnits order
compare-of_units Standard x y differ =
    let ones_x = count_ones-sector_of x.indices in
    let ones_y = count_ones-sector_of y.indices in
    let by_t : nat_cmp (count_ones (sector_of x.indices)) (count_ones (sector_of y.indices)) ≡ nat_cmp (t_of x.indices) (t_of y.indices) = λ i. nat_cmp (ones_x i) (ones_y i) in
    let unequal : unit_compare (unit_of x) (unit_of y) ≢ Equal = λ e. differ (unit_compare-IsAntisymmetric _ _ e) in
    let by_family = nat_cmp x.family y.family in
    let by_sector = nat_cmp (sector_of x.indices) (sector_of y.indices) in
    let rest = ordering_then (nat_cmp (r_of x.indices) (r_of y.indices)) (ordering_then (nat_cmp (s_of x.indices) (s_of y.indices)) (slice_cmp int_cmp x.indices y.indices)) in
    let units = ap (λ o. ordering_then o (ordering_then by_family by_sector)) by_t in
    decided (nat_cmp (t_of x.indices) (t_of y.indices)) by_family by_sector rest (λ e. unequal (units ∙ e)) ∙ sym units
