-- The seeds of a list of specs, spec by spec.
use Rattle.std.proofs.Common.{◌≡◌, ℕ, ◌<◌, List, length, get_or, sym, subst, ◌∙◌}
use Rattle.std.specs.Prelude.{◌↔◌, All}
use Rattle.std.proofs.lemmas.List.{get_or_default}
use Rattle.integral_index.specs.Integral.{Integral}
use Rattle.seed_sets.specs.declared.Shape.{Shape}
use Rattle.seed_sets.specs.declared.Spec.{Spec}
use Rattle.seed_sets.specs.Seeds.{IsFitting, IsSeed, IsSeedOfSome, IsShapeOf}
use Rattle.seed_sets.specs.Gathering.{IsBefore}

-- x is a seed of the spec at this place
pub record IsSeedAt (specs : List Spec) (shapes : List Shape) (k : ℕ) (x : Integral) : Type 0 where
  pub spec : Spec
  pub shape : Shape
  pub at_place : get_or specs k spec ≡ spec
  pub shaped : IsShapeOf shapes spec.family shape
  pub seed : IsSeed spec shape x

pub IsSeedOfSome-places : (specs : List Spec) (shapes : List Shape) (x : Integral) → IsBefore (length specs) (IsSeedAt specs shapes) x ↔ IsSeedOfSome specs shapes x
IsSeedOfSome-places specs shapes x = (
  λ w. record { spec = w.2.spec; shape = w.2.shape; listed = (w.0, w.1, w.2.at_place); shaped = w.2.shaped; seed = w.2.seed },
  λ h. (h.listed.0, h.listed.1, record { spec = h.spec; shape = h.shape; at_place = h.listed.2; shaped = h.shaped; seed = h.seed }),
)

-- the spec at a place and its shape are the only ones there
pub IsSeedAt-only : (specs : List Spec) (shapes : List Shape) (k : ℕ) (d : Spec) (shape : Shape) → k < length specs → All (IsFitting shapes) specs → shape ≡ get_or shapes (get_or specs k d).family shape → (x : Integral) → IsSeed (get_or specs k d) shape x ↔ IsSeedAt specs shapes k x
IsSeedAt-only specs shapes k d shape within fitting is x = (
  λ h. record {
    spec = get_or specs k d;
    shape = shape;
    at_place = get_or_default specs k (get_or specs k d) d within;
    shaped = ((fitting k d within).family, sym is);
    seed = h;
  },
  λ h.
      let spec = get_or specs k d in
      let same : h.spec ≡ spec = sym h.at_place ∙ get_or_default specs k h.spec d within in
      let place : IsShapeOf shapes spec.family h.shape = subst (λ (s : Spec). IsShapeOf shapes s.family h.shape) same h.shaped in
      let alike : h.shape ≡ shape = sym place.1 ∙ get_or_default shapes spec.family h.shape shape place.0 ∙ sym is in
      subst (λ (q : Shape). IsSeed spec q x) alike (subst (λ (s : Spec). IsSeed s h.shape x) same h.seed),
)
