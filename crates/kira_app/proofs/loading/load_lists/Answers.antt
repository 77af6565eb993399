use Rattle.std.proofs.Common.{◌≡◌, List, ◌<◌, ◌≤◌, ◌^◌, ◌∙◌, [], map, length, length-append, arith, refl, subst}
use Rattle.std.proofs.lemmas.List.{map-append, length-map, take_all}
use Rattle.std.proofs.lemmas.List.Elements.{All-nil, All-push}
use Rattle.yaml_text.specs.Lines.{Bytes}
use Rattle.kira_outside.specs.Faults.{Rose}
use Rattle.kira_app.specs.Told.{IsMissed}
use Rattle.kira_app.specs.Sources.{ListsOf}
use Rattle.kira_app.proofs.Told.{always}
use Rattle.kira_app.proofs.ListLoading.{HasListed, listed_none, goes_on_listed, stops_listed, err_texts, err_refusal}
use Rattle.kira_app.specs.Loads.{names_of, Loads}
use Rattle.kira_app.proofs.LoadOrder.{none_loaded, loads_next, some_next, err_loads}
use Rattle.kira_app.proofs.loading.load_lists.Goals as goal

pub loop-number-init : goal.loop-number-init
loop-number-init g c =
    let files = c.args.outline.now.select.files in
    record {
      held = refl;
      faults = refl;
      listed = rw c.new-lists.ensures.items (always (g.F.Files.held c.args.files.now) (HasListed files []) (listed_none files));
      count = rw c.new-lists.ensures.items refl;
      short = rw c.new-lists.ensures.items (All-nil _);
      loads = none_loaded (g.F.Files.loaded c.args.files.now) (names_of files);
    }

pub returns-in_err-text-clause-lists : goal.returns-in_err-text-clause-lists
returns-in_err-text-clause-lists g c =
    let inv = c.loop-number.invariant in
    let files = c.args.outline.now.select.files in
    let found = map (λ text. text.items) c.loop-number.lists.items in
    let size : length found ≡ c.loop-number.number = length-map c.loop-number.lists.items (λ text. text.items) ∙ inv.count in
    let inside : c.loop-number.number < length files = omega (arith, c.loop-number-test.true, c.list_count-number-end.ensures.value) in
    err_texts _ _ _ (ListsOf files) _ _ c.from_residual.ensures.1
    (stops_listed _ _ _ _ _ files found c.loop-number.number c.list_name.result.now inv.held inv.faults inv.listed size c.list_name.ensures.name inside _ c.in_err-text.ensures.list)

pub returns-in_err-text-clause-missing : goal.returns-in_err-text-clause-missing
returns-in_err-text-clause-missing g c =
    let inv = c.loop-number.invariant in
    err_refusal _ _ (λ refusal. IsMissed (g.F.Files.held c.args.files.now) (g.F.Files.faults c.args.files.now) (g.F.Files.faults c.load_list.new.files) refusal.status) c.from_residual.ensures.1
    (λ untold missing. subst (λ b. Rose b (g.F.Files.faults c.load_list.new.files)) inv.faults (c.in_err-text.ensures.missing (inv.held ∙ untold) missing))

pub loop-number-preserved : goal.loop-number-preserved
loop-number-preserved g c =
    let inv = c.loop-number.invariant in
    let files = c.args.outline.now.select.files in
    let found = map (λ text. text.items) c.loop-number.lists.items in
    let pushed = c.in_ok-push_text.ensures.ok in
    let size : length found ≡ c.loop-number.number = length-map c.loop-number.lists.items (λ text. text.items) ∙ inv.count in
    let inside : c.loop-number.number < length files = omega (arith, c.loop-number-test.true, c.list_count-number-end.ensures.value) in
    let next = goes_on_listed _ _ _ _ _ files found c.loop-number.number c.list_name.result.now inv.held inv.faults inv.listed size c.list_name.ensures.name inside c.in_ok-text.text.items c.in_ok-text.ensures.list in
    record {
      held = c.in_ok-text.ensures.same ∙ inv.held;
      faults = next.1;
      listed = rw (pushed, map-append) next.0;
      count = rw (pushed, length-append, inv.count) refl;
      short = rw pushed (All-push (λ text. length text.items ≤ 2 ^ 24) c.loop-number.lists.items c.in_ok-text.text inv.short c.in_ok-text.ensures.short);
      loads = loads_next (g.F.Files.loaded c.args.files.now) (g.F.Files.loaded c.loop-number.files) (g.F.Files.loaded c.load_list.new.files) (names_of files) c.loop-number.number c.list_name.result.now (omega (arith, inside, length-map files (λ list. list.name))) c.list_name.ensures.name inv.loads c.in_ok-text.ensures.loads;
    }

pub returns-in_err-text-clause-loads : goal.returns-in_err-text-clause-loads
returns-in_err-text-clause-loads g c =
    let names = names_of c.args.outline.now.select.files in
    let inside : c.loop-number.number < length names = omega (arith, c.loop-number-test.true, c.list_count-number-end.ensures.value, length-map c.args.outline.now.select.files (λ list. list.name)) in
    err_loads (g.F.Files.loaded c.args.files.now) (g.F.Files.loaded c.load_list.new.files) names _ _ c.from_residual.ensures.1
    (some_next (g.F.Files.loaded c.args.files.now) (g.F.Files.loaded c.loop-number.files) (g.F.Files.loaded c.load_list.new.files) names c.loop-number.number c.list_name.result.now inside c.list_name.ensures.name c.loop-number.invariant.loads c.in_err-text.ensures.loads)

pub returns-in_err-push_text-clause-loads : goal.returns-in_err-push_text-clause-loads
returns-in_err-push_text-clause-loads g c =
    let names = names_of c.args.outline.now.select.files in
    let inside : c.loop-number.number < length names = omega (arith, c.loop-number-test.true, c.list_count-number-end.ensures.value, length-map c.args.outline.now.select.files (λ list. list.name)) in
    err_loads (g.F.Files.loaded c.args.files.now) (g.F.Files.loaded c.load_list.new.files) names _ _ c.from_residual-in_err-push_text.ensures.1
    (some_next (g.F.Files.loaded c.args.files.now) (g.F.Files.loaded c.loop-number.files) (g.F.Files.loaded c.load_list.new.files) names c.loop-number.number c.list_name.result.now inside c.list_name.ensures.name c.loop-number.invariant.loads c.in_ok-text.ensures.loads)

pub returns-clause-loads : goal.returns-clause-loads
returns-clause-loads g c =
    let names = names_of c.args.outline.now.select.files in
    subst (λ (xs : List Bytes). Loads (g.F.Files.loaded c.args.files.now) (g.F.Files.loaded c.loop-number.files) xs)
    (take_all c.loop-number.number names (omega (arith, c.loop-number-test.false, c.list_count-number-end.ensures.value, length-map c.args.outline.now.select.files (λ list. list.name))))
    c.loop-number.invariant.loads
