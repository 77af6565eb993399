-- A word NAME=VALUE, as `Override` is seen. The project's own.
use Rattle.std.specs.Prelude.{ℕ, refl}
use Rattle.std.specs.Coded.{Coded, code_by, coded×, coded_ℕ, coded_list}
use Rattle.yaml_text.specs.Lines.{Bytes}

pub record Override : Type 0 where
  pub place : ℕ
  pub text : Bytes

abbrev pub override_code : Coded Override
override_code = code_by (ℕ × Bytes) (coded× coded_ℕ (coded_list coded_ℕ)) (λ o. (o.place, o.text)) (λ p. record { place = p.0; text = p.1 }) (λ _. refl)
