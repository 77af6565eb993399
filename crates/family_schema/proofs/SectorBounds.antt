-- The sectors of a family.
use Rattle.std.proofs.Common.{◌≡◌, ℕ, ◌-◌, ◌^◌, ◌<◌, ◌≤◌, Ok, Err, arith}
use Rattle.std.proofs.lemmas.Grind.{common_steps}
use Rattle.std.proofs.lemmas.Nat.{pow_pos}
use Rattle.yaml_text.specs.declared.tree.Tree.{Tree}
use Rattle.input_schema.specs.declared.faults.File.{File}
use Rattle.input_schema.specs.declared.faults.File.TheVariants as file
use Rattle.input_schema.specs.Readings.{Outcome, ◌>>=◌}
use Rattle.input_schema.specs.Nodes.{line_of}
use Rattle.input_schema.specs.Numbers.{in_range, wide_number, number}
use Rattle.family_schema.specs.Scope.{all_of}

in_range_most : (f : File) (line least most m n : ℕ) → in_range f line least most m ≡ Ok n → n ≤ most
in_range_most f line least most m n h = grind (arith, common_steps)

then_most : (f : File) (line least most : ℕ) (o : Outcome ℕ) (n : ℕ) → (o >>= in_range f line least most) ≡ Ok n → n ≤ most
then_most f line least most (Ok m) n h = in_range_most f line least most m n h
then_most f line least most (Err e) n h = cc

-- a number from 0 to the sector of all denominators
pub sector_below : (node : Tree) (width n : ℕ) → number file.Families node 0 (all_of width) ≡ Ok n → n < 2 ^ width
sector_below node width n h =
    let most : n ≤ 2 ^ width - 1 = then_most file.Families (line_of node) 0 (all_of width) (wide_number file.Families node) n h in
    let positive = pow_pos width in omega arith
