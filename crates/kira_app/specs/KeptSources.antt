-- How the sources of a job are kept: as they are seen, with a text for each list file.
use Rattle.std.specs.Prelude.{map}
use Rattle.kira_app.specs.declared.job_files.Sources.TheInside.{Inside}
use Rattle.kira_app.specs.Sources.{Sources, AreWhole}

abbrev pub shown : Inside → Sources
shown a = record { trees = a.trees; lists = map (λ text. text.items) a.lists.items }

abbrev pub IsKept : Inside → Type 0
IsKept a = AreWhole (shown a)
