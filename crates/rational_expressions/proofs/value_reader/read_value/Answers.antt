use Rattle.std.proofs.Common.{◌≡◌, List, ℕ, true, false, length, subst, sym}
use Rattle.text_tokens.specs.declared.faults.TextKind.TheVariants.{BadExpression}
use Rattle.text_tokens.specs.Tokens.{tokens_of}
use Rattle.text_tokens.specs.Faults.{tokens_in}
use Rattle.rational_expressions.specs.Values.{IsValue, IsValueFault}
use Rattle.rational_expressions.specs.ValueItems.{is_whole_at}
use Rattle.rational_expressions.proofs.ValueEnds.{IsEnd, ends, is_program, is_value, not_whole}
use Rattle.rational_expressions.proofs.value_reader.read_value.Goals as goal

pub returns-then-not-is_whole-clause-fault : goal.returns-then-not-is_whole-clause-fault
returns-then-not-is_whole-clause-fault c =
    let r = c.read_tokens.new.reader in
    let P : List ℕ → Type 0 = λ b. IsValueFault c.args.names.now b (length b) BadExpression in
    let open_end : is_whole_at r.mode r.outer.items ≡ false = cc in
    subst P c.as_bytes.ensures.value
    (c.in_ok-read_tokens.ensures.end (not_whole c.args.names.now (tokens_in (tokens_of c.as_bytes.result.now)) r c.in_ok-read_tokens.ensures.ok.0 open_end))

pub from_items-requires : goal.from_items-requires
from_items-requires c =
    let r = c.read_tokens.new.reader in
    let ts = tokens_in (tokens_of c.as_bytes.result.now) in
    let whole : is_whole_at r.mode r.outer.items ≡ true = cc in
    is_program c.args.names.now ts _
    (subst (IsEnd c.args.names.now ts) (sym c.in_ok-into_items.ensures) (ends c.args.names.now ts r c.in_ok-read_tokens.ensures.ok.0 whole))

pub returns-clause-ok : goal.returns-clause-ok
returns-clause-ok c =
    let r = c.read_tokens.new.reader in
    let ts = tokens_in (tokens_of c.as_bytes.result.now) in
    let whole : is_whole_at r.mode r.outer.items ≡ true = cc in
    let P : List ℕ → Type 0 = λ b. IsValue c.args.names.now b c.from_items.result in
    subst P c.as_bytes.ensures.value
    (rw c.from_items.ensures
    (is_value c.args.names.now c.as_bytes.result.now _
    (subst (IsEnd c.args.names.now ts) (sym c.in_ok-into_items.ensures) (ends c.args.names.now ts r c.in_ok-read_tokens.ensures.ok.0 whole))
    c.in_ok-read_tokens.ensures.ok.1))
