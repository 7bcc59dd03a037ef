-- A triangle that is read of a mesh.
use Rattle.std.proofs.Common.{◌≡◌, ◌<◌, ◌∙◌, ℕ, List, [], ap, arith, get_or, length, subst, sym}
use Rattle.std.specs.List.{All}
use Rattle.std.proofs.lemmas.List.{get_or-map, length-map}
use Rattle.mesh_terms.specs.Meshes.{IsAccepted, IsBelow, Mesh, triple_of, triples_of}

-- the triangle that is read, and its vertices
pub record IsRead (m : Mesh) (xs : List (List ℕ)) (t n : ℕ) : Type 0 where
  pub same : triple_of (get_or xs t []) ≡ get_or m.triples t (0, 0, 0)
  pub low : IsBelow n (triple_of (get_or xs t []))

-- a triangle of a list names points below the bound
below_at : (n : ℕ) (triples : List (List ℕ)) (i : ℕ) → All (IsBelow n) (triples_of triples) → i < length triples → IsBelow n (triple_of (get_or triples i []))
below_at n triples i all low = subst (IsBelow n) (get_or-map triple_of triples i [] (0, 0, 0) low) (all i (0, 0, 0) (omega (arith, low, length-map triples triple_of)))

pub read : (m : Mesh) (xs : List (List ℕ)) (t n : ℕ) → IsAccepted (length m.points) m.triples →
    triples_of xs ≡ m.triples → n ≡ length m.points → t < length m.triples → IsRead m xs t n
read m xs t n accepted value many below =
    let low : t < length xs = omega (arith, below, ap length value, length-map xs triple_of) in
    let all = subst (All (IsBelow (length m.points))) (sym value) accepted.mesh.below in
    record {
      same = sym (get_or-map triple_of xs t [] (0, 0, 0) low) ∙ ap (λ ts. get_or ts t (0, 0, 0)) value;
      low = subst (λ k. IsBelow k (triple_of (get_or xs t []))) (sym many) (below_at (length m.points) xs t all low);
    }
