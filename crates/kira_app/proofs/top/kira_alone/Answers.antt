-- Each answer has its cause; where the files tell a first refusal, or a plan of a prime, it is the answer.
use Rattle.std.proofs.Common.{[], map}
use Rattle.std.specs.String.{string_bytes}
use Rattle.kira_app.specs.declared.status.Status.TheVariants as status
use Rattle.kira_app.proofs.Causes.{refusal_answered, complete, counted_by, divisor_told}
use Rattle.kira_app.specs.Words.{job_file, overrides_of}
use Rattle.kira_app.proofs.LoadOrder.{nothing_loaded}
use Rattle.kira_app.proofs.top.kira_alone.Goals as goal

pub returns-in-Refused-clause-complete : goal.returns-in-Refused-clause-complete
returns-in-Refused-clause-complete g c =
    let law = c.jobs_agree.ensures in
    let refusal = c.refused-refusal.result in
    λ held told planned quiet calm. complete law.agree law.modulus _ held told planned.plan planned.is planned.holds quiet calm refusal.status refusal.name c.refused-refusal.ensures.cause.1

pub returns-in-Ok-ended-clause-first_refusal : goal.returns-in-Ok-ended-clause-first_refusal
returns-in-Ok-ended-clause-first_refusal g c =
    let law = c.jobs_agree.ensures in
    let cause = c.in-Ok-ended.ensures.cause (map string_bytes c.args.words.now) c.in-Job.ensures in
    λ held refusal told refused quiet. refusal_answered law.agree law.modulus _ held told (record { status = refusal; name = refused.0 }) refused.1 quiet status.Ok [] cause

pub returns-clause-first_refusal : goal.returns-clause-first_refusal
returns-clause-first_refusal g c =
    let law = c.jobs_agree.ensures in
    let cause = c.in-Err-ended.ensures.cause (map string_bytes c.args.words.now) c.in-Job.ensures in
    λ held refusal told refused quiet. refusal_answered law.agree law.modulus _ held told (record { status = refusal; name = refused.0 }) refused.1 quiet c.in-Err-ended.refusal.status c.in-Err-ended.refusal.name cause.1

pub returns-clause-complete : goal.returns-clause-complete
returns-clause-complete g c =
    let law = c.jobs_agree.ensures in
    let cause = c.in-Err-ended.ensures.cause (map string_bytes c.args.words.now) c.in-Job.ensures in
    λ held told planned quiet calm. complete law.agree law.modulus _ held told planned.plan planned.is planned.holds quiet calm c.in-Err-ended.refusal.status c.in-Err-ended.refusal.name cause.1

pub returns-in-Refused-clause-counted : goal.returns-in-Refused-clause-counted
returns-in-Refused-clause-counted g c = counted_by _ c.refused-refusal.result.status c.refused-refusal.result.name c.refused-refusal.ensures.cause.1

pub returns-in-Refused-clause-divisor : goal.returns-in-Refused-clause-divisor
returns-in-Refused-clause-divisor g c = divisor_told c.jobs_agree.ensures.divisors _ c.refused-refusal.result.status c.refused-refusal.result.name c.refused-refusal.ensures.cause.1

pub returns-clause-counted : goal.returns-clause-counted
returns-clause-counted g c =
    let cause = c.in-Err-ended.ensures.cause (map string_bytes c.args.words.now) c.in-Job.ensures in
    counted_by _ c.in-Err-ended.refusal.status c.in-Err-ended.refusal.name cause.1

pub returns-clause-divisor : goal.returns-clause-divisor
returns-clause-divisor g c =
    let cause = c.in-Err-ended.ensures.cause (map string_bytes c.args.words.now) c.in-Job.ensures in
    divisor_told c.jobs_agree.ensures.divisors _ c.in-Err-ended.refusal.status c.in-Err-ended.refusal.name cause.1

pub returns-in-Ok-ended-clause-loads : goal.returns-in-Ok-ended-clause-loads
returns-in-Ok-ended-clause-loads g c = λ _ _. c.in-Ok-ended.ensures.loads (map string_bytes c.args.words.now) c.in-Job.ensures

pub returns-in-Ok-ended-clause-loads_some : goal.returns-in-Ok-ended-clause-loads_some
returns-in-Ok-ended-clause-loads_some g c = λ _. c.in-Ok-ended.ensures.loads_some (map string_bytes c.args.words.now) c.in-Job.ensures

pub returns-clause-loads_some : goal.returns-clause-loads_some
returns-clause-loads_some g c = λ _. c.in-Err-ended.ensures.loads_some (map string_bytes c.args.words.now) c.in-Job.ensures

pub returns-in-Refused-clause-loads_some : goal.returns-in-Refused-clause-loads_some
returns-in-Refused-clause-loads_some g c = λ _. nothing_loaded (overrides_of (map string_bytes c.args.words.now)) (job_file (map string_bytes c.args.words.now)) (g.F.Files.held c.args.files.now) (g.F.Files.loaded c.args.files.now)
