-- How an integral is kept: its indices in place with zeros behind, and the numbers by which it is compared beside them.
use Rattle.std.specs.Prelude.{◌≡◌, ◌-◌, ◌≤◌, ℤ, pos, List, ◌++◌, length, replicate}
use Rattle.std.proofs.Common.{arith, sym, ap, ◌∙◌, take, drop, take-append-drop, length-take-le}
use Rattle.integral_index.specs.declared.integrals.Integral.TheInside.{Inside}
use Rattle.integral_index.specs.Integral.{Integral, IsIndexList, sector_of, t_of, r_of, s_of}

-- the indices without the zeros behind
abbrev pub shown_indices : Inside → List ℤ
shown_indices a = take a.length a.indices

-- the integral that is kept
abbrev pub shown : Inside → Integral
shown a = record { family = a.family; indices = shown_indices a }

-- there are places for 20 indices, with zeros behind those in use, and the numbers are those of the indices
pub record IsKept (a : Inside) : Type 0 where
  pub places : length a.indices ≡ 20
  pub listed : IsIndexList (shown_indices a)
  pub within : a.length ≤ 20
  pub padding : drop a.length a.indices ≡ replicate (20 - a.length) (pos 0)
  pub sector_is : a.sector ≡ sector_of (shown_indices a)
  pub r_is : a.r ≡ r_of (shown_indices a)
  pub s_is : a.s ≡ s_of (shown_indices a)
  pub t_is : a.t ≡ t_of (shown_indices a)

-- how an integral is kept
abbrev pub kept : Integral → Inside
kept x = record {
  family = x.family;
  sector = sector_of x.indices;
  r = r_of x.indices;
  s = s_of x.indices;
  t = t_of x.indices;
  length = length x.indices;
  indices = x.indices ++ replicate (20 - length x.indices) (pos 0);
}

shown_length : (a : Inside) → IsKept a → length (shown_indices a) ≡ a.length
shown_length a h = length-take-le a.length a.indices (omega (arith, h.places, h.within))

shown_places : (a : Inside) → IsKept a → shown_indices a ++ replicate (20 - length (shown_indices a)) (pos 0) ≡ a.indices
shown_places a h =
    ap (λ n. shown_indices a ++ replicate (20 - n) (pos 0)) (shown_length a h)
    ∙ ap (λ zs. shown_indices a ++ zs) (sym h.padding) ∙ take-append-drop a.length a.indices

-- what is kept is determined by what is shown
pub kept-shown : (a : Inside) → IsKept a → kept (shown a) ≡ a
kept-shown a h i = record {
  family = a.family;
  sector = sym h.sector_is i;
  r = sym h.r_is i;
  s = sym h.s_is i;
  t = sym h.t_is i;
  length = shown_length a h i;
  indices = shown_places a h i;
}
