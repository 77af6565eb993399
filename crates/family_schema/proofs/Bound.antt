-- Parts in order, where each outcome is determined by a function.
use Rattle.std.proofs.Common.{◌≡◌, Ok, sym, ap, subst}
use Rattle.input_schema.specs.declared.faults.SchemaError.{SchemaError}
use Rattle.input_schema.specs.declared.faults.SchemaError.TheVariants.{Fault, OutOfMemory}
use Rattle.input_schema.specs.Readings.{Outcome, Is, Refuses, ◌>>=◌}

pub bound_refuses : {A B : Type 0} (o : Outcome A) (f : A → Outcome B) (e : SchemaError) → Refuses (Is o) e → Refuses (Is (o >>= f)) e
bound_refuses o f (Fault d) h = ap (λ x. x >>= f) h
bound_refuses o f OutOfMemory h = tt

pub bound_refuses_later : {A B : Type 0} (o : Outcome A) (f : A → Outcome B) (a : A) (e : SchemaError) → o ≡ Ok a → Refuses (Is (f a)) e → Refuses (Is (o >>= f)) e
bound_refuses_later {A} {B} o f a e h k = subst (λ (x : Outcome A). Refuses (Is (x >>= f)) e) (sym h) k
