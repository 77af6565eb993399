-- A function value that reads the blocks inside a list or a map.
use Rattle.std.specs.Prelude.{ℕ, List, ◌∷◌, Result}
use Rattle.std.specs.declared.alloc.Global.{Global}
use denote.Ref.{Bor}
use Rattle.yaml_text.specs.declared.fault.YamlError.{YamlError}
use Rattle.yaml_text.specs.declared.tree.Tree.{Tree}
use Rattle.yaml_text.specs.Outcomes.{Gives}
use Rattle.yaml_text.specs.Lines.{Line}
use Rattle.yaml_text.specs.Blocks.{block}

-- It may be called at this depth, and reads as the definition says.
pub record NestsBlock (depth : ℕ) (pre : Global → ℕ → Line → Bor (List Line) → Type 0)
    (post : Global → ℕ → Line → Bor (List Line) → Result Tree YamlError → Type 0) : Type 0 where
  pub callable : (alloc : Global) (first : Line) (rest : Bor (List Line)) → pre alloc depth first rest
  pub reads : (alloc : Global) (first : Line) (rest : Bor (List Line)) (r : Result Tree YamlError) → post alloc depth first rest r
      → Gives (block depth (first ∷ rest.now)) r
