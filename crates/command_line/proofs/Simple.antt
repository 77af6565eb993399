-- The command is one of which clap says what it makes of words.
use Rattle.std.proofs.Common.{◌≡◌, true, refl, inl, inr, [], ◌∷◌}
use Rattle.clap.specs.Values.{kind_of}
use Rattle.clap.specs.Kinds.{Kinds, HasKind}
use Rattle.clap.specs.Simple.{is_simple}
use Rattle.clap.specs.Faults.{is_simple_and_free}
use Rattle.clap.specs.declared.error.Error.{Error}
use Rattle.clap.specs.declared.error.kind.ErrorKind.TheVariants.{OutOfMemory}
use Rattle.clap.proofs.OnLiterals.{clap_on_literals}
use Rattle.command_line.specs.Command.{command}

pub command_simple : is_simple command ≡ true
unfolding clap_on_literals
command_simple = refl

pub command_free : is_simple_and_free command ≡ true
unfolding clap_on_literals
command_free = refl

-- where no kind of error may come, memory was refused
pub for_memory : (kinds : Kinds) (e : Error) → HasKind kinds e → kinds ≡ [] → kind_of e ≡ OutOfMemory
for_memory [] e (inl memory) none = memory
for_memory [] e (inr among) none = absurd among
for_memory (k ∷ ks) e has none = cc
