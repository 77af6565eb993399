use Rattle.std.proofs.Common.{◌≡◌, ◌%◌, ◌+◌, map}
use Rattle.propagators.specs.Forms.{expanded, is_product, scalar_products}
use Rattle.propagators.proofs.forms.product_of.Given as goal

abbrev pub invariant-loop-i : goal.invariant-loop-i
invariant-loop-i l =
    l.products.items ≡ map (λ pair. expanded l.left l.right (is_product pair.0 pair.1) % l.modulus) (scalar_products (l.loops + l.point.externals) l.i)
