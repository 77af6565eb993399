use Rattle.std.proofs.Common.{◌≡◌, ◌++◌, ◌+◌, ◌-◌, ℤ, List, length, take, drop, replicate, pos, sym, ap, ◌∙◌, refl, arith}
use Rattle.std.proofs.lemmas.List.{take_at, drop_at, length-append, length-replicate, drop-replicate}
use Rattle.integral_index.specs.Integral.{sector_of, r_of, s_of, t_of}
use Rattle.integral_index.proofs.IndexLists.{r_of-le, s_of-le}
use Rattle.integral_index.proofs.integrals.Integral.new.Goals as goal

pub overflow_cast-result : goal.overflow_cast-result
overflow_cast-result c = omega (arith, r_of-le _ c.requires)

pub overflow_cast-result-2 : goal.overflow_cast-result-2
overflow_cast-result-2 c = omega (arith, s_of-le _ c.requires)

pub invariant_of-result : goal.invariant_of-result
invariant_of-result c =
    let xs = c.args.indices.now in
    let zeros : List ℤ = replicate 20 (pos 0) in
    let written : c.copy_from_slice.new.self ≡ xs = c.copy_from_slice.ensures.after in
    let padding : drop (length xs) zeros ≡ replicate (20 - length xs) (pos 0) = drop-replicate (length xs) 20 (pos 0) in
    let shown : take (length xs) (xs ++ drop (length xs) zeros) ≡ xs = take_at xs (drop (length xs) zeros) (length xs) refl in
    rw written record {
      places = length-append xs (drop (length xs) zeros) ∙ ap (λ n. length xs + n) (ap length padding ∙ length-replicate (20 - length xs) (pos 0)) ∙ omega (arith, c.requires.at_most_twenty);
      listed = rw shown c.requires;
      within = c.requires.at_most_twenty;
      padding = drop_at xs (drop (length xs) zeros) (length xs) refl ∙ padding;
      sector_is = c.sector.ensures ∙ sym (ap sector_of shown);
      r_is = c.r.ensures ∙ sym (ap r_of shown);
      s_is = c.s.ensures ∙ sym (ap s_of shown);
      t_is = c.t.ensures ∙ sym (ap t_of shown);
    }
