use Rattle.std.proofs.Common.{arith, ◌≡◌, ◌++◌, ◌∷◌, [], ℕ, List, ap, ◌∙◌, map, take}
use Rattle.made_terms.specs.Lattice.{further}
use Rattle.mesh_terms.specs.Meshes.{triples_of}
use Rattle.mesh_make.proofs.lattice.push_box.Goals as goal

-- the triangles of a box as they are written
abbrev rows : List (List ℕ)
rows =
    (0 ∷ 3 ∷ 1 ∷ []) ∷ (0 ∷ 2 ∷ 3 ∷ []) ∷ (4 ∷ 5 ∷ 7 ∷ []) ∷ (4 ∷ 7 ∷ 6 ∷ []) ∷ (0 ∷ 1 ∷ 4 ∷ []) ∷ (1 ∷ 5 ∷ 4 ∷ []) ∷ (1 ∷ 3 ∷ 7 ∷ []) ∷ (1 ∷ 7 ∷ 5 ∷ []) ∷
    (3 ∷ 2 ∷ 6 ∷ []) ∷ (3 ∷ 6 ∷ 7 ∷ []) ∷ (0 ∷ 4 ∷ 6 ∷ []) ∷ (0 ∷ 6 ∷ 2 ∷ []) ∷ []

pub returns : goal.returns
returns c =
    let all : c.loop-triple.triple-index ≡ 12 = omega (arith, c.loop-triple-test.false, c.loop-triple.auto.triple-index-end) in
    let old = triples_of c.args.triples.now.items in
    let so_far : triples_of c.loop-triple.triples.items ≡ old ++ map (further c.args.base) (triples_of (take c.loop-triple.triple-index rows)) = c.loop-triple.invariant in
    so_far ∙ ap (λ k. old ++ map (further c.args.base) (triples_of (take k rows))) all
