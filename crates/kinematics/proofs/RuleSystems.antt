-- Rules as a linear system: its solutions are the tables that meet them.
use Rattle.std.proofs.Common.{◌≡◌, ◌≢◌, ℕ, ◌+◌, ◌%◌, ◌<◌, ◌≤◌, List, [], length, map, get_or, All, Result, IfErr, Ok, Err, refl, sym, ap, ◌∙◌, subst, arith}
use Rattle.std.specs.Result.{IsErrAnd}
use Rattle.std.proofs.Math.Nat.{zero-mod}
use Rattle.std.proofs.lemmas.List.{get_or-map, get_or_default, length-map}
use Rattle.matrix_elimination.specs.Vectors.{IsVector, dot, column}
use Rattle.matrix_elimination.specs.Systems.{IsSolution, IsOnlySolution, IsClash, IsOpen, HasSystemCause}
use Rattle.matrix_elimination.specs.declared.systems.SystemFault.{SystemFault}
use Rattle.matrix_elimination.specs.declared.systems.SystemFault.TheVariants as system_fault
use Rattle.matrix_elimination.proofs.Weights.{weigh, dot-weigh, weigh-same, weigh-none, dot-columns}
use Rattle.kinematics.specs.declared.rules.Rule.{Rule}
use Rattle.kinematics.specs.declared.rules.PointFault.{PointFault}
use Rattle.kinematics.specs.Points.{IsTable, product_count}
use Rattle.kinematics.specs.Rules.{residue_of, product_over, IsRule, Meets, IsPointOf, IsRulesClash, IsRulesOpen, HasPointCause}
use Rattle.kinematics.specs.RuleRows.{row_of, rule_row_of, FaultGives}
use Rattle.kinematics.proofs.Expansion.{length-row_of, below-row_of, dot-row_of}

-- read past the end of a list of rules
pub no_rule : Rule
no_rule = record { left = []; right = []; value = 0 }

pub IsVector-rule_row : (p e : ℕ) (rule : Rule) → IsRule p e rule → IsVector p (product_count e) (rule_row_of p rule)
IsVector-rule_row p e rule is =
    let ls = map (residue_of p) rule.left in
    let rs = map (residue_of p) rule.right in
    record {
      size = length-row_of p e ls rs (length-map rule.left (residue_of p) ∙ is.left) (length-map rule.right (residue_of p) ∙ is.right);
      below = below-row_of p ls rs (omega (arith, is.value));
    }

abbrev pub rows_of : ℕ → List Rule → List (List ℕ)
rows_of p rules = map (rule_row_of p) rules

abbrev pub values_of : List Rule → List ℕ
values_of rules = map (λ rule. rule.value) rules

module _ (p e : ℕ) (rules : List Rule) (are : All (IsRule p e) rules) where
  row-at : (j : ℕ) → j < length rules → get_or (rows_of p rules) j [] ≡ rule_row_of p (get_or rules j no_rule)
  row-at j h = get_or-map (rule_row_of p) rules j no_rule [] h

  value-at : (j : ℕ) → j < length rules → get_or (values_of rules) j 0 ≡ (get_or rules j no_rule).value
  value-at j h = get_or-map (λ rule. rule.value) rules j no_rule 0 h

  pub IsVector-values : IsVector p (length (rows_of p rules)) (values_of rules)
  IsVector-values = record {
    size = length-map rules (λ rule. rule.value) ∙ sym (length-map rules (rule_row_of p));
    below = λ k d h.
        let inside : k < length rules = omega (arith, length-map rules (λ (rule : Rule). rule.value)) in
        let at : get_or (values_of rules) k d ≡ (get_or rules k no_rule).value = get_or_default (values_of rules) k d 0 h ∙ value-at k inside in
        omega (arith, at, (are k no_rule inside).value);
  }

  -- a row weighs a table as its rule's product does
  dot-row : (t : List ℕ) (j : ℕ) → j < length rules → dot (get_or (rows_of p rules) j []) t % p ≡ product_over p e t (get_or rules j no_rule) % p
  dot-row t j h =
      let rule = get_or rules j no_rule in
      let is = are j no_rule h in
      ap (λ row. dot row t % p) (row-at j h) ∙ dot-row_of p e rule.left rule.right t is.left is.right

  solution_from : (t : List ℕ) → Meets p e rules t → IsSolution p (product_count e) (rows_of p rules) (values_of rules) t
  solution_from t meets = record {
    vector = record { size = meets.table.size; below = meets.table.below };
    meets = λ j h.
        let inside : j < length rules = omega (arith, length-map rules (rule_row_of p)) in
        dot-row t j inside ∙ meets.each j no_rule inside ∙ sym (value-at j inside);
  }

  meets_from : (t : List ℕ) → IsSolution p (product_count e) (rows_of p rules) (values_of rules) t → Meets p e rules t
  meets_from t solution = record {
    table = record { size = solution.vector.size; below = solution.vector.below };
    each = λ j d h.
        let inside : j < length (rows_of p rules) = omega (arith, length-map rules (rule_row_of p)) in
        subst (λ (rule : Rule). product_over p e t rule % p ≡ rule.value) (get_or_default rules j no_rule d h) (sym (dot-row t j h) ∙ solution.meets j inside ∙ value-at j h);
  }

  pub point_from : (t : List ℕ) → IsOnlySolution p (product_count e) (rows_of p rules) (values_of rules) t → IsPointOf p e rules t
  point_from t solution = record {
    meets = meets_from t solution.is;
    only = λ other meets. solution.only other (solution_from other meets);
  }

  clash_from : (multipliers : List ℕ) (residue : ℕ) → IsClash p (rows_of p rules) (values_of rules) multipliers residue → IsRulesClash p e rules multipliers residue
  clash_from multipliers residue clash =
      let size : length multipliers ≡ length rules = clash.vector.size ∙ length-map rules (rule_row_of p) in
      record {
        vector = record { size = size; below = clash.vector.below };
        cancels = λ t.
            ap (λ n. n % p) (dot-weigh multipliers (map (product_over p e t) rules))
            ∙ weigh-same p multipliers (λ j. get_or (map (product_over p e t) rules) j 0) (λ j. dot (get_or (rows_of p rules) j []) t) (λ j h.
            ap (λ n. n % p) (get_or-map (product_over p e t) rules j no_rule 0 (omega (arith, size))) ∙ sym (dot-row t j (omega (arith, size))))
            ∙ ap (λ n. n % p) (sym (dot-columns t multipliers (rows_of p rules)))
            ∙ weigh-same p t (λ x. dot multipliers (column x (rows_of p rules))) (λ _. 0) (λ x _. clash.cancels x ∙ sym (zero-mod p))
            ∙ ap (λ n. n % p) (weigh-none t) ∙ zero-mod p;
        sum = clash.sum;
        differs = clash.differs;
      }

  open_from : (v : List ℕ) → IsOpen p (product_count e) (rows_of p rules) (values_of rules) v → IsRulesOpen p e rules v
  open_from v is = record {
    table = record { size = is.is_vector.size; below = is.is_vector.below };
    leads = is.leads;
    vanishes = λ j d h.
        let inside : j < length (rows_of p rules) = omega (arith, length-map rules (rule_row_of p)) in
        subst (λ (rule : Rule). product_over p e v rule % p ≡ 0) (get_or_default rules j no_rule d h) (sym (dot-row v j h) ∙ is.vanishes j inside);
    met = is.solution;
    meets = meets_from is.solution is.is_solution;
  }

  pub cause_from : (fault : SystemFault) (given : PointFault) → FaultGives fault given → HasSystemCause p (product_count e) (rows_of p rules) (values_of rules) fault → HasPointCause p e rules given
  cause_from (system_fault.Clash multipliers residue) given is cause = subst (HasPointCause p e rules) (sym is) (clash_from multipliers residue cause)
  cause_from (system_fault.Open vector) given is cause = subst (HasPointCause p e rules) (sym is) (open_from vector cause)
  cause_from (system_fault.Composite fault) given is cause = subst (HasPointCause p e rules) (sym is) cause
  cause_from system_fault.OutOfMemory given is cause = subst (HasPointCause p e rules) (sym is) cause

-- what is known of a fault, where the result is one
pub fault_from : {T : Type 0} (r : Result T PointFault) (Q P : PointFault → Type 0) → IsErrAnd r Q → ((fault : PointFault) → Q fault → P fault) → IfErr r P
fault_from (Ok value) Q P is more = tt
fault_from (Err fault) Q P is more = more fault is
