-- The families that are tested are those that are named.
use Rattle.std.proofs.Common.{◌≡◌, ◌<◌, ◌≤◌, ◌↔◌, ℕ, [], List, length, All, Contains, subst, sym}
use Rattle.yaml_text.specs.declared.tree.Tree.{Tree}
use Rattle.input_schema.specs.declared.faults.File.TheVariants.{Jobs}
use Rattle.input_schema.specs.Readings.{Outcome, Gives, ◌>>=◌, each}
use Rattle.input_schema.specs.Nodes.{items}
use Rattle.job_schema.specs.Specs.{sector, no_limit}
use Rattle.job_schema.proofs.Families.{All-same, some_same, sector-same}
use Rattle.job_schema.proofs.groups.sectors.Goals as goal

pub tested_sectors-requires-clause-some : goal.tested_sectors-requires-clause-some
tested_sectors-requires-clause-some c =
    subst (λ (xs : List ℕ). 1 ≤ length xs) (sym c.deref.ensures.value) (some_same c.in_ok-tested.tested.items c.args.families.now c.in_ok-tested.ensures c.requires.some)

pub tested_sectors-requires-clause-within : goal.tested_sectors-requires-clause-within
tested_sectors-requires-clause-within c =
    let P : ℕ → Type 0 = λ place. place < length c.args.frames.now in
    subst (All P) (sym c.deref.ensures.value) (All-same c.in_ok-tested.tested.items c.args.families.now c.in_ok-tested.ensures P c.requires.within)

pub returns : goal.returns
returns c =
    let tested = c.in_ok-tested.tested.items in
    let same : sector c.args.frames.now tested ≡ sector c.args.frames.now c.args.families.now = sector-same tested c.args.families.now c.in_ok-tested.ensures c.args.frames.now in
    let read : (Tree → Outcome ℕ) → Type 0 = λ s. Gives (items Jobs c.args.node.now 1 no_limit >>= each s []) c.tested_sectors.result in
    subst read same (subst (λ (xs : List ℕ). read (sector c.args.frames.now xs)) c.deref.ensures.value c.tested_sectors.ensures)
