use Rattle.std.proofs.Common.{◌≡◌, ◌≤◌, ◌^◌, All, length, map, take}
use Rattle.kira_app.specs.Told.{IfTold}
use Rattle.kira_app.specs.Loads.{names_of, Loads}
use Rattle.kira_app.proofs.ListLoading.{HasListed}
use Rattle.kira_app.proofs.loading.load_lists.Given as goal

abbrev pub invariant-loop-number : goal.invariant-loop-number
invariant-loop-number g l = record {
  held : g.F.Files.held l.files ≡ g.F.Files.held l.fn.files;
  faults : g.F.Files.faults l.files ≡ g.F.Files.faults l.fn.files;
  listed : IfTold (g.F.Files.held l.fn.files) (HasListed l.outline.select.files (map (λ text. text.items) l.lists.items));
  count : length l.lists.items ≡ l.number;
  short : All (λ text. length text.items ≤ 2 ^ 24) l.lists.items;
  loads : Loads (g.F.Files.loaded l.fn.files) (g.F.Files.loaded l.files) (take l.number (names_of l.outline.select.files));
}
