-- A composite modulus is named by its divisors alone: the values of expressions are residues, so that a common
-- divisor of one and the modulus is less than the modulus.
use Rattle.std.proofs.Common.{◌≡◌, ◌≢◌, ◌<◌, ◌≤◌, ◌%◌, ℕ, List, [], ◌∷◌, ◌++◌, length, All, Ok, Err, Some, None, Option, refl, sym, ap, subst, arith, slice_index, take, drop, Bool, true, false, inl, inr}
use Rattle.std.specs.Prelude.{⊤}
use Rattle.std.specs.Int.{IsGcd, ◌∣◌}
use Rattle.std.specs.Result.{is_ok}
use Rattle.std.proofs.Math.Nat.{mod-lt, eq-zero_of_zero-dvd}
use Rattle.std.proofs.lemmas.Bool.{true≢false, cases_lt}
use Rattle.std.proofs.lemmas.List.{get_or_past}
use Rattle.std.proofs.lemmas.Nat.Gcd.{le_of_dvd}
use Rattle.std.proofs.lemmas.List.Elements.{All-push, All-append, All-take, All-drop}
use Rattle.matrix_elimination.specs.Fault.{IsProperDivisor}
use Rattle.rational_expressions.specs.declared.faults.ValueFault.TheVariants as value_fault
use Rattle.kinematics.specs.Points.{Point}
use Rattle.rational_expressions.specs.Trees.{Tree, number, place, negative, sum, difference, product, quotient, power}
use Rattle.rational_expressions.specs.Evaluation.{Outcome, After, IsQuotient, HasOutcome}
use Rattle.input_schema.specs.declared.faults.File.{File}
use Rattle.kinematics_schema.specs.declared.content.Kinematics.{Kinematics}
use Rattle.family_schema.specs.declared.content.Family.{Family}
use Rattle.job_schema.specs.declared.points.Setting.{Setting}
use Rattle.field_word.specs.declared.Composite.{Composite as FieldComposite}
use Rattle.job_point.specs.declared.faults.PlanError.TheVariants.{Composite}
use Rattle.job_point.specs.declared.values.Values.{Values}
use Rattle.job_point.specs.Steps.{Answer, Step, Each}
use Rattle.job_point.specs.Steps.{After as Followed}
use Rattle.job_point.specs.Values.{answer_of, with_symbol, IsValueAt, AreSettingsAt, AreValuesAt}
use Rattle.job_point.specs.Point.{AreRulesAt, IsPointAt, AreDenominatorsAt, IsBasisFor, AreSymmetriesAt, IsFamilyAt, AreFamiliesAt}
use Rattle.job_point.specs.Agreement.{NamesDivisorsAlone}
use Rattle.job_point.specs.Laws.{PointsNameDivisors}
use Rattle.job_point.proofs.AgreeingSteps.{is_names, then_names, each_names}

-- ---- expressions

-- a value is a residue, and a divisor that is named is one of the modulus
abbrev IsSound : ℕ → Outcome → Type 0
IsSound p (Ok v) = v < p
IsSound p (Err (value_fault.ZeroDivisor at)) = ⊤
IsSound p (Err (value_fault.Composite c)) = IsProperDivisor p c.divisor

proper : (p y d : ℕ) → y < p → y ≢ 0 → IsGcd y p d → d ≢ 1 → IsProperDivisor p d
proper p y d below some g more =
    let most : d ≤ y = le_of_dvd (omega (arith, some)) g.0 in
    let not_0 : d ≢ 0 = λ none. some (eq-zero_of_zero-dvd (subst (λ n. n ∣ y) none g.0)) in
    record { above = omega (arith, more, not_0); below = omega (arith, most, below); divides = g.1 }

sound_after : (p : ℕ) (a r : Outcome) (P : ℕ → Outcome → Type 0) → IsSound p a → ((x : ℕ) (q : Outcome) → x < p → P x q → IsSound p q) → After a P r → IsSound p r
sound_after p (Ok x) r P h go k = go x r h k
sound_after p (Err f) r P h go k = subst (IsSound p) (sym k) h

sound_quotient : (p at x y : ℕ) (r : Outcome) → 0 < p → y < p → IsQuotient p at x y r → IsSound p r
sound_quotient p at x y (Ok v) some below h = subst (λ n. n < p) (sym h.2) (mod-lt _ some)
sound_quotient p at x y (Err (value_fault.ZeroDivisor a)) some below h = tt
sound_quotient p at x y (Err (value_fault.Composite c)) some below h = proper p y c.divisor below h.0 h.1 h.2

at_most : (p : ℕ) (rs : List ℕ) (i : ℕ) → 0 < p → All (λ r. r < p) rs → slice_index rs i < p
at_most p rs i some below =
    elim (cases_lt i (length rs)) [
      | inl inside ↦ below i 0 inside
      | inr past ↦ omega (arith, get_or_past rs i 0 past)
    ]

residue : (p n : ℕ) (r : Outcome) → 0 < p → r ≡ Ok (n % p) → IsSound p r
residue p n r some e = subst (IsSound p) (sym e) (mod-lt n some)

sound : (p : ℕ) (rs : List ℕ) (t : Tree) (r : Outcome) → 0 < p → All (λ v. v < p) rs → HasOutcome p rs t r → IsSound p r
sound p rs (number n) r some below h = residue p n r some h
sound p rs (place i) r some below h = subst (IsSound p) (sym h) (at_most p rs i some below)
sound p rs (negative t) r some below h = sound_after p h.0 r _ (sound p rs t h.0 some below h.1) (λ x q low e. residue p _ q some e) h.2
sound p rs (sum t u) r some below h =
    sound_after p h.0 r _ (sound p rs t h.0 some below h.1) (λ x q low k.
    sound_after p k.0 q _ (sound p rs u k.0 some below k.1) (λ y o less e. residue p _ o some e) k.2) h.2
sound p rs (difference t u) r some below h =
    sound_after p h.0 r _ (sound p rs t h.0 some below h.1) (λ x q low k.
    sound_after p k.0 q _ (sound p rs u k.0 some below k.1) (λ y o less e. residue p _ o some e) k.2) h.2
sound p rs (product t u) r some below h =
    sound_after p h.0 r _ (sound p rs t h.0 some below h.1) (λ x q low k.
    sound_after p k.0 q _ (sound p rs u k.0 some below k.1) (λ y o less e. residue p _ o some e) k.2) h.2
sound p rs (quotient at t u) r some below h =
    sound_after p h.0 r _ (sound p rs t h.0 some below h.1) (λ x q low k.
    sound_after p k.0 q _ (sound p rs u k.0 some below k.1) (λ y o less e. sound_quotient p at x y o some less e) k.2) h.2
sound p rs (power t n) r some below h = sound_after p h.0 r _ (sound p rs t h.0 some below h.1) (λ x q low e. residue p _ q some e) h.2

-- ---- steps

-- what every value of the step is
abbrev Yields : {A : Type 0} → (A → Type 0) → Step A → Type 0
Yields {A} P step = (a : A) → step (Ok a) → P a

abbrev value_or_0 : Answer ℕ → ℕ
value_or_0 (Ok v) = v
value_or_0 (Err e) = 0

abbrev is_composite : Answer ℕ → Bool
is_composite (Err (Composite f)) = true
is_composite _ = false

abbrev divisor_in : Answer ℕ → ℕ
divisor_in (Err (Composite f)) = f.divisor
divisor_in _ = 0

told_below : (p : ℕ) (file : File) (line v : ℕ) (o : Outcome) → IsSound p o → answer_of file line o ≡ Ok v → v < p
told_below p file line v (Ok w) low e = subst (λ n. n < p) (ap value_or_0 e) low
told_below p file line v (Err (value_fault.ZeroDivisor at)) low e = absurd (true≢false (sym (ap is_ok e)))
told_below p file line v (Err (value_fault.Composite c)) low e = absurd (true≢false (sym (ap is_ok e)))

told_names : (p : ℕ) (file : File) (line : ℕ) (fault : FieldComposite) (o : Outcome) → IsSound p o → answer_of file line o ≡ Err (Composite fault) → IsProperDivisor p fault.divisor
told_names p file line fault (Ok w) low e = absurd (true≢false (ap is_ok e))
told_names p file line fault (Err (value_fault.ZeroDivisor at)) low e = absurd (true≢false (sym (ap is_composite e)))
told_names p file line fault (Err (value_fault.Composite c)) low e = subst (IsProperDivisor p) (ap divisor_in e) low

value_below : (p : ℕ) (residues : List ℕ) (file : File) (line : ℕ) (tree : Tree) → 0 < p → All (λ v. v < p) residues → Yields (λ v. v < p) (IsValueAt p residues file line tree)
value_below p residues file line tree some below v h = told_below p file line v h.outcome (sound p residues tree h.outcome some below h.is) h.told

value_names : (p : ℕ) (residues : List ℕ) (file : File) (line : ℕ) (tree : Tree) → 0 < p → All (λ v. v < p) residues → NamesDivisorsAlone p (IsValueAt p residues file line tree)
value_names p residues file line tree some below fault h = told_names p file line fault h.outcome (sound p residues tree h.outcome some below h.is) h.told

-- what follows a value of which this is true
yields_after : {A B : Type 0} (Q : A → Type 0) (next : A → Step B) {P : Type 0} (r : B) (x : Answer A) → ((a : A) → x ≡ Ok a → Q a) → ((a : A) → Q a → next a (Ok r) → P) → Followed x next (Ok r) → P
yields_after Q next r (Ok a) is go h = go a (is a refl) h
yields_after Q next r (Err e) is go h = absurd (true≢false (ap is_ok h))

each_yields : {N A : Type 0} (P : A → Type 0) (step : List A → N → Step A) → ((found : List A) (item : N) → Yields P (step found item)) → (found : List A) (items : List N) → All P found → Yields (All P) (Each step found items)
each_yields P step one found [] all r h = let e : found ≡ r = cc in subst (All P) e all
each_yields {N} {A} P step one found (item ∷ items) all r h =
    yields_after (λ a. All P (found ++ a ∷ [])) (λ a. Each step (found ++ a ∷ []) items) r h.answer
    (λ a e. All-push P found a all (one found item a (subst (λ (o : Answer A). step found item o) e h.is)))
    (λ a more next. each_yields P step one (found ++ a ∷ []) items more r next) h.after

-- ---- what a job says

settings_below : (p : ℕ) (settings : List Setting) → 0 < p → Yields (All (λ v. v < p)) (AreSettingsAt p settings)
settings_below p settings some = each_yields (λ v. v < p) _ (λ found setting. value_below p [] _ _ _ some (λ i d low. absurd (omega (arith, low)))) [] settings (λ i d low. absurd (omega (arith, low)))

symbol_below : (p : ℕ) (symbol : Option ℕ) (values : List ℕ) → 1 < p → All (λ v. v < p) values → All (λ v. v < p) (with_symbol symbol values)
symbol_below p None values big all = all
symbol_below p (Some at) values big all =
    All-append (λ v. v < p) (take at values) (1 ∷ drop at values) (All-take (λ v. v < p) at values all)
    (All-append (λ v. v < p) (1 ∷ []) (drop at values) (All-push (λ v. v < p) [] 1 (λ i d low. absurd (omega (arith, low))) big) (All-drop (λ v. v < p) at values all))

values_name : (p : ℕ) → 1 < p → (symbol : Option ℕ) (settings : List Setting) → NamesDivisorsAlone p (AreValuesAt p symbol settings)
values_name p big symbol [] fault h = absurd h
values_name p big symbol (dimension ∷ others) fault h =
    let some : 0 < p = omega (arith, big) in
    let none : All (λ v. v < p) [] = λ i d low. absurd (omega (arith, low)) in
    then_names p _ _ (each_names p _ (λ found setting. value_names p [] _ _ _ some none) [] others) (λ values is.
    then_names p _ _ (value_names p [] _ _ _ some none) (λ d is. is_names p _)) fault h

abbrev values_or : Values → Answer Values → Values
values_or d (Ok v) = v
values_or d (Err e) = d

values_below : (p : ℕ) → 1 < p → (symbol : Option ℕ) (settings : List Setting) → Yields (λ (values : Values). All (λ v. v < p) values.residues) (AreValuesAt p symbol settings)
values_below p big symbol [] values h = absurd h
values_below p big symbol (dimension ∷ others) values h =
    let some : 0 < p = omega (arith, big) in
    yields_after (All (λ v. v < p)) _ values h.answer
    (λ found e. settings_below p others some found (subst (λ (o : Answer (List ℕ)). AreSettingsAt p others o) e h.is))
    (λ found all next. yields_after (λ (d : ℕ). ⊤) _ values next.answer (λ d e. tt)
    (λ d known last. let same : values ≡ record { residues = with_symbol symbol found; dimension = d } = ap (λ o. values_or values o) (sym last) in
    subst (λ (v : Values). All (λ r. r < p) v.residues) (sym same) (symbol_below p symbol found big all)) next.after) h.after

point_names : (p : ℕ) → 1 < p → (residues : List ℕ) (kinematics : Kinematics) → All (λ v. v < p) residues → NamesDivisorsAlone p (IsPointAt p residues kinematics)
point_names p big residues kinematics below =
    let some : 0 < p = omega (arith, big) in
    then_names p (AreRulesAt p residues kinematics.rules) _
    (each_names p _ (λ found rule. then_names p _ _ (value_names p residues _ _ _ some below) (λ value is. is_names p _)) [] kinematics.rules)
    (λ rules is fault h. h)

family_names : (p : ℕ) → 1 < p → (residues : List ℕ) (point : Point) (k : ℕ) (family : Family) → All (λ v. v < p) residues → NamesDivisorsAlone p (IsFamilyAt p residues point k family)
family_names p big residues point k family below =
    let some : 0 < p = omega (arith, big) in
    then_names p (AreDenominatorsAt p residues family.propagators) _
    (each_names p _ (λ found propagator. then_names p _ _ (value_names p residues _ _ _ some below) (λ mass is. is_names p _)) [] family.propagators)
    (λ denominators is. then_names p (IsBasisFor p point k (length family.loops) denominators) _ (λ fault h. h)
    (λ basis found. then_names p (AreSymmetriesAt basis family.symmetries) _
    (each_names p _ (λ others symmetry fault h. absurd h) [] family.symmetries) (λ symmetries all. is_names p _)))

families_name : (p : ℕ) → 1 < p → (residues : List ℕ) (point : Point) (families : List Family) → All (λ v. v < p) residues → NamesDivisorsAlone p (AreFamiliesAt p residues point families)
families_name p big residues point families below =
    then_names p _ _ (each_names p _ (λ found family. family_names p big residues point _ family below) [] families) (λ found is. is_names p _)

pub points_name_divisors : PointsNameDivisors
points_name_divisors p kinematics families settings big =
    then_names p _ _ (values_name p big kinematics.symbol settings) (λ values is.
    let below = values_below p big kinematics.symbol settings values is in
    then_names p _ _ (point_names p big values.residues kinematics below) (λ point is.
    then_names p _ _ (families_name p big values.residues point families below) (λ found is. is_names p _)))
