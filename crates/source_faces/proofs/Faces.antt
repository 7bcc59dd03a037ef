-- The triangle of a face as the code holds it.
use Rattle.std.proofs.Common.{◌≡◌, ℕ, ◌<◌, List, [], get_or, length, arith, sym, ap, ◌∙◌}
use Rattle.std.proofs.lemmas.List.{get_or-map, length-map}
use Rattle.mesh_terms.specs.Meshes.{Triple, triple_of, triples_of}

-- the array at a place has the numbers of the triangle there
pub at_face : (ts : List Triple) (xs : List (List ℕ)) (f : ℕ) → triples_of xs ≡ ts → f < length ts →
    triple_of (get_or xs f []) ≡ get_or ts f (0, 0, 0)
at_face ts xs f e l =
    sym (get_or-map triple_of xs f [] (0, 0, 0) (omega (arith, l, ap length e, length-map xs triple_of))) ∙ ap (λ us. get_or us f (0, 0, 0)) e
