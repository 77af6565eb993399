-- The changed indices are those in front of the padding.
use Rattle.std.proofs.Common.{◌≡◌, ◌∙◌, sym, ap, subst, arith, length, to_z, of_z, w8}
use Rattle.std.proofs.lemmas.Int.{ints}
use Rattle.integral_index.specs.Integral.{IsIndexList}
use Rattle.ibp_generator.proofs.ShiftLemmas.{IsIndexList-shifted, stored}
use Rattle.ibp_generator.proofs.shifts.shifted.Goals as goal

pub new-requires : goal.new-requires
new-requires c =
    let a = c.args.integral.now.indices in
    let value : to_z w8 (of_z w8 c.args.by) ≡ c.args.by = omega (arith, ints) in
    subst IsIndexList (sym (stored a _ c.add_at.new.indices c.copy_from_slice.new.self (length c.indices-length.result.now) c.args.place c.args.by (to_z w8 (of_z w8 c.args.by)) (ap length c.indices-length.ensures.value) (c.copy_from_slice.ensures.after ∙ c.indices.ensures.value) value c.add_at.ensures _))
    (IsIndexList-shifted a c.args.place c.args.by (subst IsIndexList c.indices-length.ensures.value c.indices-length.ensures.listed) c.requires.index)
