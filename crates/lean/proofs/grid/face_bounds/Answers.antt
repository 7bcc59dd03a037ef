use Rattle.std.proofs.Common.{◌≡◌, [], ℤ, List, ◌∙◌}
use Rattle.std.proofs.lemmas.List.{get_or_default}
use Rattle.box_tree.specs.declared.bounds.Range.{Range}
use Rattle.mesh_terms.specs.Meshes.{triple_of}
use Rattle.lean.specs.Grid.{bounds_of, range_on}
use Rattle.lean.proofs.grid.face_bounds.Goals as goal

-- bounds of three ranges
made : (x y z : Range) (p q r : List ℤ) → x ≡ range_on 0 p q r → y ≡ range_on 1 p q r → z ≡ range_on 2 p q r → record { x = x; y = y; z = z } ≡ bounds_of p q r
made x y z p q r e f g = λ i. record { x = e i; y = f i; z = g i }

pub returns : goal.returns
returns c =
    let points = c.args.points.now in
    let t = triple_of c.args.triple.now in
    let a = c.index-points-a.is ∙ get_or_default points t.0 c.index-points-a.result [] c.requires.a in
    let b = c.index-points-b.is ∙ get_or_default points t.1 c.index-points-b.result [] c.requires.b in
    let z = c.index-points-c.is ∙ get_or_default points t.2 c.index-points-c.result [] c.requires.c in
    made c.range_on.result c.range_on-2.result c.range_on-3.result c.index-points-a.result
    c.index-points-b.result c.index-points-c.result c.range_on.ensures c.range_on-2.ensures c.range_on-3.ensures
    ∙ (λ i. bounds_of (a i) (b i) (z i))
