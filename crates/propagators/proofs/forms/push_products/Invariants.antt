use Rattle.std.proofs.Common.{◌≡◌, ◌%◌, ◌++◌, map}
use Rattle.propagators.specs.Forms.{expanded, is_product, pairs_with}
use Rattle.propagators.proofs.forms.push_products.Given as goal

abbrev pub invariant-loop-more : goal.invariant-loop-more
invariant-loop-more l =
    l.products.items ≡ l.initial.products.items ++ map (λ pair. expanded l.left l.right (is_product pair.0 pair.1) % l.modulus) (pairs_with l.i l.more)
