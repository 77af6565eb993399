-- Families at a point, one after another: their denominators and their symmetries in two lists.
use Rattle.std.proofs.Common.{◌≡◌, ℕ, ℤ, All, ◌+◌, ◌<◌, ◌≤◌, List, [], ◌∷◌, ◌++◌, length, map, get_or, Ok, Err, refl, sym, ap, ◌∙◌, subst}
use Rattle.std.proofs.lemmas.List.{length-map, map-append}
use Rattle.kinematics.specs.Points.{Point}
use Rattle.propagators.specs.declared.denominators.Denominator.{Denominator}
use Rattle.propagators.specs.Basis.{Basis, forms_of}
use Rattle.propagators.specs.Denominators.{form_of, image_of}
use Rattle.propagators.specs.Forms.{Form}
use Rattle.symmetry_maps.specs.declared.faults.MapFault.{MapFault}
use Rattle.symmetry_maps.specs.declared.faults.MapFault.TheVariants.{NotAPermutation, OutOfMemory}
use Rattle.symmetry_maps.specs.Symmetry.{IsSymmetry, HasCause}
use Rattle.family_schema.specs.declared.content.Symmetry.{Symmetry as Map}
use Rattle.family_schema.specs.declared.content.Family.{Family}
use Rattle.family_schema.specs.Sound.{HasImages}
use Rattle.job_point.specs.declared.faults.PlanError.{PlanError}
use Rattle.job_point.specs.declared.bases.FamilyAt.{FamilyAt}
use Rattle.job_point.specs.declared.bases.FamiliesAt.{FamiliesAt}
use Rattle.job_point.specs.Steps.{Answer, Step, Is, Then, Each, Refuses}
use Rattle.job_point.specs.Point.{images_of, map_error_of, AreDenominatorsAt, IsBasisFor, IsSymmetryAt, AreSymmetriesAt, IsFamilyAt, split}
use Rattle.job_point.proofs.StepLemmas.{GoesOn, gone_on, spoilt, all_found, then_is, then_refuses, then_refuses_later, refuses_as}

-- ---- one map

module _ (loops : ℕ) (point : Point) (denominators : List Denominator) (symmetry : Map) (images : List (List ℤ)) (same : images ≡ symmetry.images) (fit : HasImages loops (loops + point.externals) symmetry) where
  abbrev over : Basis
  over = record { loops = loops; denominators = denominators; point = point }

  pub as_many : length images ≡ loops
  as_many = ap (λ (xs : List (List ℤ)). length xs) same ∙ fit.one_for_each

  pub images_wide : All (λ image. length image ≡ length images + point.externals) images
  images_wide =
      subst (λ (xs : List (List ℤ)). All (λ image. length image ≡ length xs + point.externals) xs) (sym same)
      (subst (λ n. All (λ image. length image ≡ n + point.externals) symmetry.images) (sym fit.one_for_each) fit.images)

  -- what is told of the forms by the images is told of them by the map
  pub told_by_map : (P : List Form → List Form → Type 0) → P (map (image_of (length images) point images) denominators) (map (form_of (length images) point) denominators) → P (images_of over symmetry) (forms_of over)
  told_by_map P h =
      subst (λ n. P (map (image_of n point symmetry.images) denominators) (map (form_of n point) denominators)) fit.one_for_each
      (subst (λ (xs : List (List ℤ)). P (map (image_of (length xs) point xs) denominators) (map (form_of (length xs) point) denominators)) same h)

-- a symmetry has a place for each denominator
pub places_wide : (loops : ℕ) (point : Point) (images : List Form) (denominators : List Denominator) (places : List ℕ) → IsSymmetry images (map (form_of loops point) denominators) places → length places ≡ length denominators
places_wide loops point images denominators places h = h.permutation.size ∙ length-map denominators (form_of loops point)

-- a map that was refused
pub map_refused : (basis : Basis) (symmetry : Map) (fault : MapFault) → HasCause (images_of basis symmetry) (forms_of basis) fault → Refuses (IsSymmetryAt basis symmetry) (map_error_of symmetry.line fault)
map_refused basis symmetry (NotAPermutation denominator) h = record { denominator = denominator; first = h; told = refl }
map_refused basis symmetry OutOfMemory h = tt

-- ---- one family

module _ (p : ℕ) (residues : List ℕ) (point : Point) (number : ℕ) (family : Family) where
  abbrev Masses : Step (List Denominator)
  Masses = AreDenominatorsAt p residues family.propagators

  abbrev Based : List Denominator → Step Basis
  Based denominators = IsBasisFor p point number (length family.loops) denominators

  abbrev Found : Basis → List (List ℕ) → Step FamilyAt
  Found basis symmetries = Is (Ok (record { basis = basis; symmetries = symmetries }))

  abbrev Moved : Basis → Step FamilyAt
  Moved basis = Then (AreSymmetriesAt basis family.symmetries) (Found basis)

  abbrev Rest : List Denominator → Step FamilyAt
  Rest denominators = Then (Based denominators) Moved

  pub masses_fail : (e : PlanError) → Refuses Masses e → Refuses (IsFamilyAt p residues point number family) e
  masses_fail e h = then_refuses Masses Rest e h

  module _ (denominators : List Denominator) (masses : Masses (Ok denominators)) where
    pub basis_fails : (e : PlanError) → Refuses (Based denominators) e → Refuses (IsFamilyAt p residues point number family) e
    basis_fails e h = then_refuses_later Masses Rest denominators e masses (then_refuses (Based denominators) Moved e h)

    module _ (basis : Basis) (based : Based denominators (Ok basis)) (made : Basis) (same : basis ≡ made) (maps : List Map) (are : maps ≡ family.symmetries) where
      moved : (r : Answer (List (List ℕ))) → AreSymmetriesAt made maps r → AreSymmetriesAt basis family.symmetries r
      moved r h = subst (λ (xs : List Map). AreSymmetriesAt basis xs r) are (subst (λ (b : Basis). AreSymmetriesAt b maps r) (sym same) h)

      pub symmetry_fails : (e : PlanError) → Refuses (AreSymmetriesAt made maps) e → Refuses (IsFamilyAt p residues point number family) e
      symmetry_fails e h =
          then_refuses_later Masses Rest denominators e masses
          (then_refuses_later (Based denominators) Moved basis e based
          (then_refuses (AreSymmetriesAt basis family.symmetries) (Found basis) e (refuses_as (AreSymmetriesAt made maps) (AreSymmetriesAt basis family.symmetries) e (moved (Err e)) h)))

      pub family_found : (symmetries : List (List ℕ)) → AreSymmetriesAt made maps (Ok symmetries) → IsFamilyAt p residues point number family (Ok (record { basis = basis; symmetries = symmetries }))
      family_found symmetries h =
          then_is Masses Rest denominators (Ok (record { basis = basis; symmetries = symmetries })) masses
          (then_is (Based denominators) Moved basis (Ok (record { basis = basis; symmetries = symmetries })) based
          (then_is (AreSymmetriesAt basis family.symmetries) (Found basis) symmetries (Ok (record { basis = basis; symmetries = symmetries })) (moved (Ok symmetries) h) refl))

-- ---- the families so far

abbrev bases_of : List FamilyAt → List Basis
bases_of found = map (λ at. at.basis) found

abbrev symmetries_of : List FamilyAt → List (List (List ℕ))
symmetries_of found = map (λ at. at.symmetries) found

-- all families were found up to this place, and these are their denominators and their symmetries
pub record AreSplit (step : ℕ → Family → Step FamilyAt) (families : List Family) (bases : List Basis) (symmetries : List (List (List ℕ))) (place : ℕ) : Type 0 where
  pub found : List FamilyAt
  pub goes : GoesOn (λ others family. step (length others) family) [] families found place
  pub bases_are : bases ≡ bases_of found
  pub symmetries_are : symmetries ≡ symmetries_of found

module _ (step : ℕ → Family → Step FamilyAt) (families : List Family) where
  abbrev each_of : List FamilyAt → Family → Step FamilyAt
  each_of others family = step (length others) family

  pub split_none : AreSplit step families [] [] 0
  split_none = record { found = []; goes = record { whole = λ r h. h }; bases_are = refl; symmetries_are = refl }

  module _ (bases : List Basis) (symmetries : List (List (List ℕ))) (place : ℕ) (so_far : AreSplit step families bases symmetries place) where
    -- so many were found
    counted : length bases ≡ length so_far.found
    counted = ap length so_far.bases_are ∙ length-map so_far.found (λ at. at.basis)

    module _ (family : Family) (number : ℕ) (within : place < length families) (item : family ≡ get_or families place family) (numbered : number ≡ length bases) where
      here : (r : _) → step number family r → step (length so_far.found) family r
      here r h = subst (λ n. step n family r) (numbered ∙ counted) h

      pub split_more : (at : FamilyAt) (more : List Basis) (others : List (List (List ℕ))) → more ≡ bases ++ at.basis ∷ [] → others ≡ symmetries ++ at.symmetries ∷ []
          → step number family (Ok at) → AreSplit step families more others (place + 1)
      split_more at more others is are h = record {
        found = so_far.found ++ at ∷ [];
        goes = gone_on each_of [] families so_far.found place family at so_far.goes within item (here (Ok at) h);
        bases_are = is ∙ ap (λ (xs : List Basis). xs ++ at.basis ∷ []) so_far.bases_are ∙ sym (map-append (λ x. x.basis) so_far.found (at ∷ []));
        symmetries_are = are ∙ ap (λ (xs : List (List (List ℕ))). xs ++ at.symmetries ∷ []) so_far.symmetries_are ∙ sym (map-append (λ x. x.symmetries) so_far.found (at ∷ []));
      }

      pub split_spoilt : (e : PlanError) → Refuses (step number family) e → Refuses (Then (Each each_of [] families) (λ found. Is (Ok (split found)))) e
      split_spoilt e h =
          then_refuses (Each each_of [] families) (λ found. Is (Ok (split found))) e
          (spoilt each_of [] families so_far.found place family e so_far.goes within item (subst (λ n. Refuses (step n family) e) (numbered ∙ counted) h))

    pub split_all : (at : FamiliesAt) → at ≡ record { bases = bases; symmetries = symmetries } → length families ≤ place → Then (Each each_of [] families) (λ found. Is (Ok (split found))) (Ok at)
    split_all at is all =
        then_is (Each each_of [] families) (λ found. Is (Ok (split found))) so_far.found (Ok at) (all_found each_of [] families so_far.found place so_far.goes all)
        (ap (λ (f : FamiliesAt). Ok f) ((λ i. record { bases = sym so_far.bases_are i; symmetries = sym so_far.symmetries_are i }) ∙ sym is))
