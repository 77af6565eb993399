-- From what command_line answers to what the words of a call ask for.
use Rattle.std.proofs.Common.{◌≡◌, ◌≢◌, ◌∙◌, List, Option, Some, None, false, true, map, refl, sym, ap}
use Rattle.yaml_text.specs.Lines.{Bytes}
use Rattle.command_line.specs.Command.{rows_at}
use Rattle.command_line.specs.Request.{Placed, IsSaveGiven, IsRequestOf, asked, given_of, positionals}
use Rattle.command_line.specs.Request as line
use Rattle.command_line.specs.declared.request.JobRequest.{JobRequest}
use Rattle.command_line.specs.declared.request.SaveRequest.{SaveRequest}
use Rattle.command_line.specs.declared.request.Request.TheVariants as request
use Rattle.kira_app.specs.declared.status.Status.TheVariants as status
use Rattle.kira_app.specs.declared.words.Wanted.{Wanted}
use Rattle.kira_app.specs.declared.words.Wanted.TheVariants as wanted
use Rattle.kira_app.specs.Words.{asks, is_plain, is_served, job_file, overrides_of, override_of, IsServing, IsWanted}

module _ (words : List Bytes) (job : JobRequest) (called : asked words ≡ line.call)
    (is : IsRequestOf words (given_of (rows_at words)) (positionals (rows_at words)) (request.Job job)) where
  without_save : job.save ≡ None → is_plain (given_of (rows_at words)) ≡ true
  without_save none =
      let given : (given_of (rows_at words)).save ≡ None = rw none at is.1.save in
      rw (is.0, given) refl

  with_save : job.save ≢ None → is_plain (given_of (rows_at words)) ≡ false
  with_save some = go job.save refl
    where
      go : (o : Option SaveRequest) → job.save ≡ o → is_plain (given_of (rows_at words)) ≡ false
      go None e = absurd (some e)
      go (Some save) e =
          let saved = rw e at is.1.save in
          rw (is.0, saved.file) refl

  pub job_wanted : (w : Wanted) → IsServing job w → IsWanted words w
  unfolding asks is_served job_file overrides_of
  job_wanted wanted.Help h = absurd h
  job_wanted (wanted.Job asks_for) h = record {
    called = called;
    served = without_save h.0;
    job_file = h.1 ∙ is.1.job_file;
    overrides = h.2 ∙ ap (map override_of) is.1.overrides;
  }
  job_wanted (wanted.Refused status.NotYet) h = (called, with_save h)
  job_wanted (wanted.Refused status.OutOfMemory) h = λ help. apart (sym called ∙ help)
    where
      apart : line.call ≡ line.help → ⊥
      apart e = cc
  job_wanted (wanted.Refused status.Ok) h = absurd h
  job_wanted (wanted.Refused status.Usage) h = absurd h
  job_wanted (wanted.Refused (status.Input fault)) h = absurd h
  job_wanted (wanted.Refused (status.Singular cause)) h = absurd h
  job_wanted (wanted.Refused (status.RulesClash multipliers residue)) h = absurd h
  job_wanted (wanted.Refused (status.Composite fault)) h = absurd h
  job_wanted (wanted.Refused (status.TooMany what count)) h = absurd h
  job_wanted (wanted.Refused status.ReadFault) h = absurd h
  job_wanted (wanted.Refused status.WriteFault) h = absurd h
