use Rattle.std.proofs.Common.{sym, ◌∙◌, ap, Some}
use Rattle.std.specs.Cmp.Lexicographic.{nat_list_cmp_total}
use Rattle.std.specs.FinMap.{get-from_entries}
use Rattle.kira_outside.proofs.FindEntry.{find-here, find-past}
use Rattle.kira_outside.proofs.memory_files.find_entry.Goals as goal

pub loop-entry-init : goal.loop-entry-init
loop-entry-init c = get-from_entries nat_list_cmp_total _ c.args.name.now

pub returns-then-eq : goal.returns-then-eq
returns-then-eq c =
    ap Some c.deref.ensures.value
    ∙ sym (c.loop-entry.invariant ∙ find-here _ _ _ c.entry-item.result c.loop-entry-test.true c.entry-item.is c.as_str.result.now c.as_str.ensures (sym c.eq.ensures ∙ c.if-eq.true))

pub loop-entry-preserved : goal.loop-entry-preserved
loop-entry-preserved c =
    c.loop-entry.invariant ∙ find-past _ _ _ c.entry-item.result c.loop-entry-test.true c.entry-item.is c.as_str.result.now c.as_str.ensures (sym c.eq.ensures ∙ c.if-eq.false)
