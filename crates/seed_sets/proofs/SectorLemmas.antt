-- The seeds of one spec, sector by sector.
use Rattle.std.proofs.Common.{◌≡◌, ℕ, ◌+◌, ◌-◌, ◌<◌, ◌≤◌, Bool, true, false, ◌&&◌, not, [], Option, Some, None, refl, sym, ap, subst, ◌∙◌, arith}
use mathlib.Core.Bool.{true≢false}
use Rattle.std.specs.Prelude.{◌↔◌, IfSome, count_ones, bit_and}
use Rattle.std.proofs.lemmas.Nat.{and_le_r}
use Rattle.std.proofs.lemmas.Bool.Decides.{nat_tests}
use Rattle.integral_index.specs.Integral.{Integral, sector_of, t_of, r_of}
use Rattle.integral_index.specs.ZeroSectors.{is_subsector, is_zero_sector}
use Rattle.integral_index.proofs.IndexLists.{count_ones-sector_of, t_of-le-r_of}
use Rattle.seed_sets.specs.declared.Shape.{Shape}
use Rattle.seed_sets.specs.declared.Spec.{Spec}
use Rattle.seed_sets.specs.declared.endings.Rest.{Rest}
use Rattle.seed_sets.specs.Seeds.{IsSeed}
use Rattle.seed_sets.specs.Gathering.{IsBefore}
use Rattle.seed_sets.specs.Endings.{IsEnding, Continues}
use Rattle.seed_sets.specs.Sectors.{is_wanted, IsOfSector, most_dots}

-- t is that of the sector
t_is : (x : Integral) (sector : ℕ) → sector_of x.indices ≡ sector → t_of x.indices ≡ count_ones sector
t_is x sector e = sym (count_ones-sector_of x.indices) ∙ ap count_ones e

-- nothing is of a sector with more places than r
pub none_below : (spec : Spec) (shape : Shape) (sector : ℕ) → spec.r < count_ones sector → (x : Integral) → ¬ (IsOfSector spec shape sector x)
none_below spec shape sector low x h = omega (arith, low, t_is x sector h.1.sector_is, t_of-le-r_of x.indices, h.1.r)

-- nothing is of a sector that isn't wanted
pub none_unwanted : (spec : Spec) (shape : Shape) (sector : ℕ) → is_wanted sector spec.sector shape.zeros ≡ false → (x : Integral) → ¬ (IsOfSector spec shape sector x)
none_unwanted spec shape sector off x h = true≢false (sym h.0 ∙ off)

dots_to : (d : Option ℕ) (dots room r t : ℕ) → dots ≡ most_dots d room → r ≤ t + dots → IfSome d (λ d. r - t ≤ d)
dots_to (Some d) dots room r t e h = omega (arith, e, h)
dots_to None dots room r t e h = tt

dots_from : (d : Option ℕ) (dots room r t : ℕ) → dots ≡ most_dots d room → r ≤ t + room → IfSome d (λ d. r - t ≤ d) → r ≤ t + dots
dots_from (Some d) dots room r t e h k = omega (arith, e, h, k)
dots_from None dots room r t e h k = omega (arith, e, h)

dots_within : (d : Option ℕ) (dots room : ℕ) → dots ≡ most_dots d room → dots ≤ room
dots_within (Some d) dots room e = omega (arith, e)
dots_within None dots room e = omega (arith, e)

-- the seeds of a wanted sector are what goes on from no index
module _ (spec : Spec) (shape : Shape) (sector dots : ℕ) (wanted : is_wanted sector spec.sector shape.zeros ≡ true) (enough : count_ones sector ≤ spec.r) (is : dots ≡ most_dots spec.d (spec.r - count_ones sector)) where
  abbrev whole : Rest
  whole = record { places = shape.width; sector = sector; dots = dots; s = spec.s }

  to : (x : Integral) → Continues spec.family [] whole x → IsOfSector spec shape sector x
  to x h =
      let e : IsEnding whole x.indices = subst (IsEnding whole) (sym h.indices) h.is_ending in
      let t = t_is x sector e.sector in
      let low = dots_within spec.d dots _ is in
      let above = e.dots in (
        wanted,
        record {
          family = h.same_family;
          width_is = e.places;
          sector_is = e.sector;
          r = omega (arith, above, t, low, enough);
          s = e.s;
          dots = dots_to spec.d dots _ (r_of x.indices) (t_of x.indices) is above;
        },
      )

  from : (x : Integral) → IsOfSector spec shape sector x → Continues spec.family [] whole x
  from x h =
      let t = t_is x sector h.1.sector_is in
      let high : r_of x.indices ≤ t_of x.indices + (spec.r - count_ones sector) = omega (arith, h.1.r, t, enough) in record {
        ending = x.indices;
        same_family = h.1.family;
        indices = refl;
        is_ending = record {
          places = h.1.width_is;
          sector = h.1.sector_is;
          dots = dots_from spec.d dots _ (r_of x.indices) (t_of x.indices) is high h.1.dots;
          s = h.1.s;
        };
      }

  pub Continues-whole : (x : Integral) → Continues spec.family [] whole x ↔ IsOfSector spec shape sector x
  Continues-whole x = (to x, from x)

both : (a z : Bool) → (a && not z) ≡ true → (a ≡ true) × (z ≡ false)
both true false e = (refl, refl)
both true true e = absurd (true≢false (sym e))
both false z e = absurd (true≢false (sym e))

subsector_le : (k s : ℕ) → is_subsector k s ≡ true → k ≤ s
subsector_le k s h =
    let e : bit_and k s ≡ k = grind (arith, nat_tests) in
    omega (arith, e, and_le_r k s)

-- the seeds of a spec are those of the sectors up to the named one
pub IsSeed-sectors : (spec : Spec) (shape : Shape) (x : Integral) → IsBefore (spec.sector + 1) (IsOfSector spec shape) x ↔ IsSeed spec shape x
IsSeed-sectors spec shape x = (of, within)
  where
    of : IsBefore (spec.sector + 1) (IsOfSector spec shape) x → IsSeed spec shape x
    of w =
        let h = w.2.1 in
        let parts = both (is_subsector w.0 spec.sector) (is_zero_sector shape.zeros w.0) w.2.0 in record {
          family = h.family;
          width = h.width_is;
          subsector = ap (λ n. is_subsector n spec.sector) h.sector_is ∙ parts.0;
          not_zero = ap (is_zero_sector shape.zeros) h.sector_is ∙ parts.1;
          r = h.r;
          s = h.s;
          dots = h.dots;
        }

    within : IsSeed spec shape x → IsBefore (spec.sector + 1) (IsOfSector spec shape) x
    within h = (
      sector_of x.indices,
      omega (arith, subsector_le (sector_of x.indices) spec.sector h.subsector),
      (
        (λ i. h.subsector i && not (h.not_zero i)),
        record {
          family = h.family;
          width_is = h.width;
          sector_is = refl;
          r = h.r;
          s = h.s;
          dots = h.dots;
        },
      ),
    )
