-- A function value that reads the values inside a list or a map on one line.
use Rattle.std.specs.Prelude.{ℕ, Result}
use Rattle.std.specs.declared.alloc.Global.{Global}
use denote.Ref.{MutBor}
use Rattle.yaml_text.specs.declared.fault.YamlError.{YamlError}
use Rattle.yaml_text.specs.declared.tree.Tree.{Tree}
use Rattle.yaml_text.specs.Lines.{Bytes}
use Rattle.yaml_text.specs.Flow.{Reads, value}

-- It may be called at this depth and line, and reads as the definition says.
pub record Nests (depth line : ℕ) (pre : Global → ℕ → ℕ → MutBor Bytes → Type 0)
    (post : Global → ℕ → ℕ → MutBor Bytes → Result Tree YamlError → MutBor Bytes → Type 0) : Type 0 where
  pub callable : (alloc : Global) (old : MutBor Bytes) → pre alloc depth line old
  pub reads : (alloc : Global) (old new : MutBor Bytes) (r : Result Tree YamlError) → post alloc depth line old r new
      → Reads (value line depth old.now) r new.now
