-- The filling of a face.
use Rattle.std.proofs.Common.{◌≡◌, ℕ, ◌*◌, ◌<◌, ◌≤◌, ℤ, List, length, arith, subst, ◌∙◌}
use Rattle.std.specs.List.{All, concat, flat_map}
use Rattle.std.proofs.lemmas.List.{length-map}
use Rattle.chain_terms.specs.Chains.{all_edges}
use Rattle.chain_terms.specs.Cycles.{Balanced, cycles}
use Rattle.chain_terms.specs.Odd.{SameChain, along}
use Rattle.chain_terms.specs.Paths.{round_edges}
use Rattle.chain_laws.specs.Sums.{total-permutation}
use Rattle.chain_laws.proofs.Cycles.{cycles_edges}
use Rattle.mesh_terms.specs.Meshes.{HasThree, IsBelow}
use Rattle.face_plane.specs.Planes.{plane_of, point_at}
use Rattle.hole_joining.specs.Bridges.{join_holes}
use Rattle.hole_joining.specs.Holes.{is_hole}
use Rattle.hole_joining.specs.Laws.{AreFillable, settled_in}
use Rattle.hole_joining.proofs.Keeps.{is_joining}
use Rattle.ring_cutting.specs.Cuts.{Cut}
use Rattle.triangulate.specs.Fills.{fill_of}
use Rattle.triangulate.proofs.CutRings.{cuttings, three_each}
use Rattle.side_terms.specs.Sides.{Side}
use Rattle.side_terms.specs.Lists.{Copy}
use Rattle.source_face_terms.specs.Segments.{source_count}
use Rattle.source_face_terms.specs.Assembling.{CanBeAssembled, FillFace}
use Rattle.source_face_terms.specs.Filled.{face_segments, filled_face, points_of_copies, source_drop}
use Rattle.source_face_laws.proofs.Loops.{cycles_counted, form_loops}

-- loops and their filling: it has their edges' sums, three different vertices below n in each triangle, and at most five
-- triangles for three of their vertices
pub record Fills (loops : List (List ℕ)) (n : ℕ) (c : Cut) : Type 0 where
  pub chain : SameChain (all_edges c.triples) (flat_map round_edges loops)
  pub three : All HasThree c.triples
  pub below : All (IsBelow n) c.triples
  pub few : 3 * length c.triples ≤ 5 * length (concat loops)
  pub forced : c.forced ≤ length c.triples

-- the filling of loops that can be filled fills them
pub fills : (drop_axis : ℕ) (points : List (List ℤ)) (loops : List (List ℕ)) → AreFillable loops (length points) → Fills loops (length points) (fill_of drop_axis points loops)
fills drop_axis points loops can =
    let at = settled_in drop_axis points loops in
    let rings = join_holes at loops in
    let joins = is_joining (plane_of drop_axis (point_at points)) loops (length points) can in
    let cut = cuttings at (length points) rings joins.ringy joins.below in
    let places = joins.places in
    record {
      chain = λ f odd. cut.chain f odd ∙ joins.chain f odd;
      three = cut.three;
      below = cut.below;
      few = omega (arith, cut.count, places, three_each (is_hole at) loops can.long);
      forced = cut.most;
    }

-- the edges round the cycles of a balanced list have the sums of its edges
pub cycles_chain : (es : List (ℕ × ℕ)) → Balanced es → SameChain (flat_map round_edges (cycles es)) es
cycles_chain es balanced f odd = total-permutation (along f) es (flat_map round_edges (cycles es)) (cycles_edges (length es) es (omega arith) balanced)

-- the filling of a face fills it
pub fill_face : (p q : Side) (cs : List Copy) → CanBeAssembled p q cs → (x : ℕ) → x < source_count p q → FillFace p q cs x (filled_face p q cs x)
fill_face p q cs can x below =
    let es = face_segments p q cs x in
    let loops = form_loops p q cs can x below in
    let even : length (points_of_copies cs) ≡ length cs = length-map cs (λ (c : Copy). c.point) in
    let fillable : AreFillable (cycles es) (length (points_of_copies cs)) = rw even loops.fillable in
    let f = fills (source_drop p q x) (points_of_copies cs) (cycles es) fillable in
    let chain = cycles_chain es loops.once.balanced in
    record {
      chain = λ g odd. f.chain g odd ∙ chain g odd;
      three = f.three;
      below = subst (λ n. All (IsBelow n) (filled_face p q cs x).triples) even f.below;
      few = omega (arith, f.few, cycles_counted es loops.once.balanced);
      forced = f.forced;
    }
