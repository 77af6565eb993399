use Rattle.std.proofs.Common.{◌≡◌, take, map}
use Rattle.kinematics_schema.specs.KinematicsFile.{may}
use Rattle.family_schema.proofs.symmetries.keys_of.Given as goal

abbrev pub invariant-loop-name : goal.invariant-loop-name
invariant-loop-name l = l.keys.items ≡ map (λ name. may name) (take l.name-index l.names)
