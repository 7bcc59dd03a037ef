use Rattle.std.proofs.Common.{◌≡◌, ◌<◌, ◌≤◌, ℕ, Bool, List, true, false, length, arith, ap, rules, subst, ◌∙◌, inl, inr}
use Rattle.std.specs.Prelude.{IfOk, IsTrue, MatchOption, ℤ}
use Rattle.std.specs.List.{All}
use Rattle.std.proofs.lemmas.Bool.{cases_lt}
use Rattle.face_plane.specs.Planes.{Plane, face_plane}
use Rattle.hole_joining.specs.Holes.{is_hole}
use Rattle.hole_joining.specs.Laws.{settled_in}
use Rattle.ring_cutting.specs.Cuts.{Cut}
use Rattle.triangulate.specs.Fills.{cuts, fill_of}
use Rattle.triangulate.proofs.CutRings.{all_short, settled, three_each}
use Rattle.plane_filling.specs.Cuttings.{AreTriples}
use Rattle.plane_filling.proofs.Fillable.{All-concat}
use Rattle.plane_filling.proofs.Short.{unforced_long}
use Rattle.plane_filling.proofs.filling.filled_loops.Goals as goal

-- where some loop is short a triangle is forced
short_forced : (drop_axis : ℕ) (points : List (List ℤ)) (loops : List (List ℕ)) → (All (λ each. 3 ≤ length each) loops → ⊥) →
    0 < (fill_of drop_axis points loops).forced
short_forced drop_axis points loops short = elim (cases_lt 0 (fill_of drop_axis points loops).forced) as (λ _. 0 < (fill_of drop_axis points loops).forced) [
  | inl some ↦ some
  | inr none ↦ absurd (short (unforced_long drop_axis points loops (omega (arith, none))))
]

-- a test that passed, and one that failed
passed : (t : Bool) → t ≡ true → IsTrue t
passed t y = search rules

failed : (t : Bool) → t ≡ false → IsTrue t → ⊥
failed t n y = search rules

pub returns-then-not-are_long : goal.returns-then-not-are_long
returns-then-not-are_long c =
    short_forced c.args.plane.drop c.args.points.now c.args.loops.now (λ all. failed c.are_long.result c.if-not-are_long.true (c.are_long.ensures.1 all))

pub join_holes-requires-clause-loops : goal.join_holes-requires-clause-loops
join_holes-requires-clause-loops c = record {
  long = c.are_long.ensures.0 (passed c.are_long.result c.if-not-are_long.false);
  below = All-concat (λ v. v < length c.args.points.now) c.args.loops.now c.requires.places;
  few = c.are_few.ensures (passed c.are_few.result c.if-not-are_few.false);
}

pub cut_all-requires-clause-few : goal.cut_all-requires-clause-few
cut_all-requires-clause-few c =
    let loops = c.args.loops.now in
    let at = settled_in c.args.plane.drop c.args.points.now loops in
    let places = c.in_ok-joined.ensures.places in
    let long = c.are_long.ensures.0 (passed c.are_long.result c.if-not-are_long.false) in
    let few = c.are_few.ensures (passed c.are_few.result c.if-not-are_few.false) in
    all_short c.in_ok-joined.joined.rings.items 100000000 (omega (arith, places, three_each (is_hole at) loops long, few))

pub returns : goal.returns
returns c =
    let drop_axis = c.args.plane.drop in
    let points = c.args.points.now in
    let loops = c.args.loops.now in
    let plane : ◌≡◌ {A = Plane} (face_plane drop_axis c.in_ok-joined.joined.turned points) (settled_in drop_axis points loops) =
    ap {B = Plane} (λ b. face_plane drop_axis b points) c.in_ok-joined.ensures.turned ∙ settled drop_axis points loops in
    let rings = c.in_ok-joined.ensures.rings in
    let same : ◌≡◌ {A = Cut} (cuts (face_plane drop_axis c.in_ok-joined.joined.turned points) c.in_ok-joined.joined.rings.items) (fill_of drop_axis points loops) =
    λ j. cuts (plane j) (rings j) in
    subst (λ (f : Cut). IfOk c.cut_all.result (λ made. MatchOption made (0 < f.forced) (λ triples. AreTriples f triples.items))) same c.cut_all.ensures
