-- Shapes that stand for families.
use Rattle.std.proofs.Common.{◌≡◌, ◌<◌, ◌≤◌, ◌^◌, ℕ, zero, suc, All, List, [], ◌∷◌, map, refl, sym, ap, subst, ◌∙◌, arith}
use Rattle.std.specs.Prelude.{◌↔◌}
use Rattle.std.specs.List.{AllZip}
use Rattle.std.proofs.lemmas.List.{length-map}
use Rattle.std.proofs.lemmas.List.Elements.{All-nil, All-cons, All-head, All-tail, All-map, All-weaker}
use Rattle.std.proofs.lemmas.Slice.Zip.{AllZip-long}
use Rattle.integral_index.specs.Integral.{Integral, sector_of}
use Rattle.integral_index.specs.ZeroSectors.{is_zero_sector}
use Rattle.seed_sets.specs.declared.Shape.{Shape}
use Rattle.seed_sets.specs.declared.Spec.{Spec}
use Rattle.seed_sets.specs.Seeds.{IsFitting, IsSeedOfSome, IsShapeOf, IsWide}
use Rattle.kinematics_schema.specs.declared.content.Kinematics.{Kinematics}
use Rattle.kinematics_schema.specs.Sound as kinematics_file
use Rattle.family_schema.specs.declared.content.Family.{Family}
use Rattle.family_schema.specs.Scope.{width_of}
use Rattle.job_equations.specs.Bounds.{IsEquationShape}
use Rattle.job_outline.specs.Outlines.{AreFamilies}
use Rattle.job_outline.specs.Shapes.{shape_of, shapes_of}
use Rattle.job_plan.specs.Shapes.{equation_shape_of}
use Rattle.job_plan.specs.Steps.{IsShapeFor}

-- ---- what the shapes of families have

pub shapes_wide : (families : List Family) (shapes : List Shape) → AllZip IsShapeFor families shapes → All (λ family. 1 ≤ family.width) families → All (λ family. family.width ≤ 20) families → All IsWide shapes
shapes_wide [] [] h some narrow = All-nil IsWide
shapes_wide [] (shape ∷ shapes) h some narrow = absurd h
shapes_wide (family ∷ families) [] h some narrow = absurd h
shapes_wide (family ∷ families) (shape ∷ shapes) h some narrow =
    All-cons IsWide shape shapes
    (record {
      some = subst (λ (w : ℕ). 1 ≤ w) (sym h.0.width) (All-head (λ (f : Family). 1 ≤ f.width) family families some);
      at_most_twenty = subst (λ (w : ℕ). w ≤ 20) (sym h.0.width) (All-head (λ (f : Family). f.width ≤ 20) family families narrow);
    })
    (shapes_wide families shapes h.1 (All-tail (λ (f : Family). 1 ≤ f.width) family families some) (All-tail (λ (f : Family). f.width ≤ 20) family families narrow))

-- at this place stands a shape of the same width with the same zero sectors
record HasAlike (shapes : List Shape) (place : ℕ) (other : Shape) : Type 0 where
  pub shape : Shape
  pub at : IsShapeOf shapes place shape
  pub width : shape.width ≡ other.width
  pub zeros : (sector : ℕ) → is_zero_sector shape.zeros sector ≡ is_zero_sector other.zeros sector

later : (first : Shape) (shapes : List Shape) (place : ℕ) (other : Shape) → HasAlike shapes place other → HasAlike (first ∷ shapes) (suc place) other
later first shapes place other h = record { shape = h.shape; at = (omega (arith, h.at.0), h.at.1); width = h.width; zeros = h.zeros }

to_kept : (families : List Family) (shapes : List Shape) → AllZip IsShapeFor families shapes → (place : ℕ) (other : Shape) → IsShapeOf (shapes_of families) place other → HasAlike shapes place other
to_kept [] [] h place other at = absurd (omega (arith, at.0))
to_kept [] (shape ∷ shapes) h place other at = absurd h
to_kept (family ∷ families) [] h place other at = absurd h
to_kept (family ∷ families) (shape ∷ shapes) h zero other at = record {
  shape = shape;
  at = (omega arith, refl);
  width = h.0.width ∙ ap (λ (s : Shape). s.width) at.1;
  zeros = λ sector. h.0.zeros sector ∙ ap (λ (s : Shape). is_zero_sector s.zeros sector) at.1;
}
to_kept (family ∷ families) (shape ∷ shapes) h (suc place) other at =
    later shape shapes place other (to_kept families shapes h.1 place other (omega (arith, at.0), at.1))

of_kept : (families : List Family) (shapes : List Shape) → AllZip IsShapeFor families shapes → (place : ℕ) (other : Shape) → IsShapeOf shapes place other → HasAlike (shapes_of families) place other
of_kept [] [] h place other at = absurd (omega (arith, at.0))
of_kept [] (shape ∷ shapes) h place other at = absurd h
of_kept (family ∷ families) [] h place other at = absurd h
of_kept (family ∷ families) (shape ∷ shapes) h zero other at = record {
  shape = shape_of family;
  at = (omega arith, refl);
  width = sym h.0.width ∙ ap (λ (s : Shape). s.width) at.1;
  zeros = λ sector. sym (h.0.zeros sector) ∙ ap (λ (s : Shape). is_zero_sector s.zeros sector) at.1;
}
of_kept (family ∷ families) (shape ∷ shapes) h (suc place) other at =
    later (shape_of family) (shapes_of families) place other (of_kept families shapes h.1 place other (omega (arith, at.0), at.1))

-- ---- seeds by one list of shapes and by another

seed_alike : (specs : List Spec) (some others : List Shape) → ((place : ℕ) (shape : Shape) → IsShapeOf some place shape → HasAlike others place shape) → (x : Integral) → IsSeedOfSome specs some x → IsSeedOfSome specs others x
seed_alike specs some others alike x h =
    let other = alike h.spec.family h.shape h.shaped in record {
      spec = h.spec;
      shape = other.shape;
      listed = h.listed;
      shaped = other.at;
      seed = record {
        family = h.seed.family;
        width = h.seed.width ∙ sym other.width;
        subsector = h.seed.subsector;
        not_zero = other.zeros (sector_of x.indices) ∙ h.seed.not_zero;
        r = h.seed.r;
        s = h.seed.s;
        dots = h.seed.dots;
      };
    }

module _ (families : List Family) (shapes : List Shape) (kept : AllZip IsShapeFor families shapes) where
  pub same_seeds : (specs : List Spec) (x : Integral) → IsSeedOfSome specs shapes x ↔ IsSeedOfSome specs (shapes_of families) x
  same_seeds specs x = (
    seed_alike specs shapes (shapes_of families) (of_kept families shapes kept) x,
    seed_alike specs (shapes_of families) shapes (to_kept families shapes kept) x,
  )

  spec_fits : (spec : Spec) → IsFitting (shapes_of families) spec → IsFitting shapes spec
  spec_fits spec h = record {
    family = subst (λ (n : ℕ). spec.family < n) (length-map families shape_of ∙ sym (AllZip-long IsShapeFor families shapes kept)) h.family;
    sector = λ shape at.
        let other = of_kept families shapes kept spec.family shape at in
        subst (λ (w : ℕ). spec.sector < 2 ^ w) other.width (h.sector other.shape other.at);
    r = h.r;
    s = h.s;
    d = h.d;
  }

  pub specs_fit : (specs : List Spec) → All (IsFitting (shapes_of families)) specs → All (IsFitting shapes) specs
  specs_fit specs h = All-weaker (IsFitting (shapes_of families)) (IsFitting shapes) spec_fits specs h

-- ---- what families have

width_some : (loops externals : ℕ) → 1 ≤ loops → 1 ≤ width_of loops externals
width_some loops externals some = grind arith

pub families_wide : (kinematics : Kinematics) (families : List Family) → AreFamilies kinematics families → All (λ family. 1 ≤ family.width) families
families_wide kinematics families h = λ k d low.
    let sound = h.sound k d low in
    subst (λ (w : ℕ). 1 ≤ w) (sym sound.width) (width_some _ _ sound.some_loops)

pub families_narrow : (kinematics : Kinematics) (families : List Family) → AreFamilies kinematics families → All (λ family. family.width ≤ 20) families
families_narrow kinematics families h = λ k d low. (h.sound k d low).narrow

-- the bound can be told of them
pub equation_shapes : (kinematics : Kinematics) (families : List Family) → kinematics_file.IsSound kinematics → AreFamilies kinematics families → All IsEquationShape (map (equation_shape_of kinematics) families)
equation_shapes kinematics families k h =
    All-map IsEquationShape (equation_shape_of kinematics) families (λ place d low.
    let sound = h.sound place d low in record {
      loops_from_1 = sound.some_loops;
      few_loops = sound.few_loops;
      few_externals = k.few;
      few_denominators = sound.narrow;
      few_symmetries = h.few_symmetries place d low;
    })
