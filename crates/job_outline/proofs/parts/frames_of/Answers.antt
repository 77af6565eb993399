use Rattle.std.proofs.Common.{◌≤◌, All, take, sym, subst}
use Rattle.std.proofs.lemmas.List.Elements.{All-map, All-take}
use Rattle.job_schema.specs.declared.frames.Frame.{Frame}
use Rattle.job_outline.specs.Readings.{frame_of}
use Rattle.job_outline.proofs.parts.frames_of.Goals as goal

pub returns-clause-widths : goal.returns-clause-widths
returns-clause-widths c =
    subst (All (λ (frame : Frame). frame.width ≤ 20)) (sym c.loop-family.invariant)
    (All-map (λ (frame : Frame). frame.width ≤ 20) frame_of (take c.loop-family.family-index c.args.families.now) (All-take (λ family. family.width ≤ 20) c.loop-family.family-index c.args.families.now c.requires))
