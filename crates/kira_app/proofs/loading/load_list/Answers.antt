use Rattle.std.proofs.Common.{◌≡◌, ◌<◌, ◌≤◌, ◌⊎◌, length, arith, subst}
use Rattle.kira_app.specs.declared.status.Status.{Status}
use Rattle.kira_app.specs.declared.status.Status.TheVariants as status
use Rattle.kira_app.proofs.Loaded.{list_loaded, list_too_long}
use Rattle.kira_app.proofs.loading.load_list.Goals as goal

pub returns-in-Ok-clause-list : goal.returns-in-Ok-clause-list
returns-in-Ok-clause-list g c =
    let size : c.len.result ≡ c.in-Ok.bytes.len = c.len.ensures in
    let few : length c.in-Ok.bytes.items ≤ 16777216 = omega (arith, c.if-len-le-MOST_BYTES.true, size, c.in-Ok.bytes.ok.0) in
    list_loaded (g.F.Files.held c.args.files.now) _ _ c.args.number c.args.name.now c.in-Ok.bytes.items c.in-Ok.ensures.bytes c.in-Ok.ensures.ok_count few

pub returns-in-Ok-2-clause-list : goal.returns-in-Ok-2-clause-list
returns-in-Ok-2-clause-list g c =
    let size : c.len.result ≡ c.in-Ok.bytes.len = c.len.ensures in
    let many : 16777216 < length c.in-Ok.bytes.items = omega (arith, c.if-len-le-MOST_BYTES.false, size, c.in-Ok.bytes.ok.0) in
    list_too_long (g.F.Files.held c.args.files.now) _ _ c.args.number c.args.name.now c.in-Ok.bytes.items c.named.result c.in-Ok.ensures.bytes c.in-Ok.ensures.ok_count many
    (subst (λ (s : Status). (c.named.result ≡ record { status = s; name = c.args.name.now }) ⊎ (c.named.result.status ≡ status.OutOfMemory)) c.input_fault.ensures c.named.ensures)
