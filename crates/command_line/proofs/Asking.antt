-- What the words ask for, from the tests of a reading.
use Rattle.std.proofs.Common.{◌≡◌, ◌≢◌, ◌∙◌, ◌&&◌, Bool, true, false, List, [], ◌∷◌, length, Result, Ok, Err, refl, sym, subst, arith}
use Rattle.std.specs.Prelude.{if◌then◌else◌}
use Rattle.std.specs.Result.{IsErrAnd}
use Rattle.std.proofs.lemmas.Bool.{ne_eqb}
use Rattle.clap.specs.Walk.{Row, Text, is_empty}
use Rattle.clap.specs.Kinds.{Kinds}
use Rattle.command_line.specs.Command.{faults_at, rows_at}
use Rattle.command_line.specs.Request.{usage, help, call, asked, is_help, are_short, are_read, is_accepted, positionals, IsAnswerBy, IsAnswerOf}
use Rattle.command_line.specs.declared.request.Request.{Request}
use Rattle.command_line.specs.declared.request.Request.TheVariants as request
use Rattle.command_line.specs.declared.request.WordsFault.{WordsFault}
use Rattle.command_line.specs.declared.request.WordsFault.TheVariants as fault

-- other words than the one that asks for the usage line
module _ (words : List Text) (none : is_help words ≡ false) where
  asked_by : (b : Bool) → are_read words ≡ b → asked words ≡ (if b then call else usage)
  asked_by b read = λ i. if none i then help else (if read i then call else usage)

  -- a call, or none
  never_help : (b : Bool) → are_read words ≡ b → asked words ≢ help
  never_help true read is = differ (sym (asked_by true read) ∙ is)
    where
      differ : call ≢ help
      differ e = cc
  never_help false read is = differ (sym (asked_by false read) ∙ is)
    where
      differ : usage ≢ help
      differ e = cc

  no_help : asked words ≢ help
  no_help = never_help (are_read words) refl

  -- what the command refuses is no call
  refused_faults : (faults : Kinds) → faults ≢ [] → is_empty faults ≡ false
  refused_faults [] some = absurd (some refl)
  refused_faults (kind ∷ kinds) some = ne_eqb (length (kind ∷ kinds)) 0 (λ e. absurd (omega (arith, e)))

  both_false : (b : Bool) → (b && false) ≡ false
  both_false true = refl
  both_false false = refl

  pub refused : (e : WordsFault) → (e ≡ fault.Usage → faults_at words ≢ []) → (r : Result Request WordsFault) → IsErrAnd r (λ x. x ≡ e) → IsAnswerOf words r
  refused e some (Ok asks) is = absurd is
  refused e some (Err fault.Usage) is =
      let empty : is_empty (faults_at words) ≡ false = refused_faults (faults_at words) (some (sym is)) in
      asked_by false ((λ i. are_short words && (empty i && is_accepted (rows_at words) (positionals (rows_at words)))) ∙ both_false (are_short words))
  refused e some (Err fault.OutOfMemory) is = no_help

  -- what the matches say
  module _ (short : are_short words ≡ true) (faults : faults_at words ≡ []) where
    read_by : (b : Bool) → is_accepted (rows_at words) (positionals (rows_at words)) ≡ b → are_read words ≡ b
    read_by b accepted = λ i. short i && (is_empty (faults i) && accepted i)

    answered_here : (r : Result Request WordsFault) → IsAnswerBy words (rows_at words) (positionals (rows_at words)) r → IsAnswerOf words r
    answered_here (Ok request.Help) by = absurd by.1
    answered_here (Ok (request.Job asks)) by = (asked_by true (read_by true by.0), by.1)
    answered_here (Ok (request.Sample number parallel)) by = (asked_by true (read_by true by.0), by.1)
    answered_here (Err fault.Usage) by = asked_by false (read_by false by)
    answered_here (Err fault.OutOfMemory) by = no_help

    pub answered : (rows : List Row) (r : Result Request WordsFault) → rows ≡ rows_at words → IsAnswerBy words rows (positionals rows) r → IsAnswerOf words r
    answered rows r are by = answered_here r (subst (λ rs. IsAnswerBy words rs (positionals rs) r) are by)
