use Rattle.std.proofs.Common.{rules, ◌≡◌, ℕ, ℤ, List, length, map, sym, ◌∙◌, subst}
use Rattle.chain_terms.specs.Sums.{upto}
use Rattle.mesh_terms.specs.Meshes.{IsMesh}
use Rattle.pinch_split.specs.Back.{ComeFrom, named_by}
use Rattle.pinch_split.proofs.Back.{triples_stay, vertices_stay}
use Rattle.pinch_split.proofs.splitting.whole.Goals as goal

-- the vertices are the old ones
come_from : (made points : List (List ℤ)) (from : List ℕ) → made ≡ points → from ≡ upto (length points) → ComeFrom made points from
come_from made points from is same = subst (λ l. ComeFrom l points from) (sym is) (subst (ComeFrom points points) (sym same) (vertices_stay points))

-- and so are the triangles
back : (n : ℕ) (made ts : List (ℕ × ℕ × ℕ)) (from : List ℕ) → IsMesh n ts → made ≡ ts → from ≡ upto n → map (named_by from) made ≡ ts
back n made ts from mesh is same = (λ i. map (named_by (same i)) (is i)) ∙ triples_stay n ts mesh.below

pub returns-clause-there : goal.returns-clause-there
returns-clause-there c =
    let same : c.of_twins.result.points ≡ c.args.points.now = search rules in
    come_from c.of_twins.result.points c.args.points.now c.in_ok-from.from.items same c.in_ok-from.ensures

pub returns-clause-back : goal.returns-clause-back
returns-clause-back c =
    back (length c.args.points.now) c.of_twins.result.triples c.args.twins.triples c.in_ok-from.from.items c.requires c.of_twins.ensures.triples c.in_ok-from.ensures
