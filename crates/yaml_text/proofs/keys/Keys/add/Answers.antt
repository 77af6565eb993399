use Rattle.std.proofs.Common.{ap, ◌∙◌, not, ◌++◌, ◌∷◌, []}
use Rattle.yaml_text.specs.SameKeys.{has_key}
use Rattle.yaml_text.proofs.KeySteps.{has_text, added}
use Rattle.yaml_text.proofs.keys.Keys.add.Goals as goal

pub returns-clause-new : goal.returns-clause-new
returns-clause-new c = c.in_ok-insert.ensures.added ∙ ap not (has_text c.args.key c.self.inside.set.keys) ∙ ap (λ ks. not (has_key c.args.key.now ks)) c.self.view_is

pub returns-clause-keys : goal.returns-clause-keys
returns-clause-keys c = λ q. added c.args.key c.self.inside.set.keys c.insert.new.self.keys c.in_ok-insert.ensures.keys q ∙ ap (λ ks. has_key q (ks ++ c.args.key.now ∷ [])) c.self.view_is
