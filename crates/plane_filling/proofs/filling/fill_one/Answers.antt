use Rattle.std.proofs.Common.{◌≡◌, ◌-◌, ◌<◌, ◌++◌, ℕ, Global, List, Vec, length, get_or, replicate, take, drop, ap, subst, sym, ◌∙◌}
use Rattle.std.specs.Prelude.{MatchOption, Option, ℤ}
use Rattle.std.specs.List.{All}
use Rattle.std.proofs.lemmas.List.{get_or_read}
use Rattle.std.proofs.lemmas.List.Elements.{All-drop, All-take}
use Rattle.face_plane.specs.Planes.{face_plane}
use Rattle.places_by_key.specs.Buckets.{begin_of}
use Rattle.ring_cutting.specs.Cuts.{Cut}
use Rattle.triangulate.specs.Fills.{fill_of}
use Rattle.plane_filling.specs.declared.needless.Ways.{Ways}
use Rattle.plane_filling.specs.declared.regions.Region.{Region}
use Rattle.plane_filling.specs.declared.regions.Regions.{Regions}
use Rattle.mesh_terms.specs.Meshes.{triples_of}
use Rattle.plane_filling.specs.Begun.{loops_without}
use Rattle.plane_filling.specs.Cuttings.{AreTriples}
use Rattle.plane_filling.specs.Pieces.{loops_at, no_region, piece_of}
use Rattle.plane_filling.specs.Ways.{is_passed}
use Rattle.plane_filling.proofs.Added.{adds_one}
use Rattle.plane_filling.proofs.Fillable.{loops_places}
use Rattle.plane_filling.proofs.filling.fill_one.Goals as goal

-- the loops of the region
loops_are : (points : List (List ℤ)) (r : Regions) (w : Ways) (k start end : ℕ) (region : Region) (loops : List (List ℕ)) → region ≡ get_or r.all.items k no_region →
    start ≡ begin_of r.ends.items k → end ≡ get_or r.ends.items k 0 →
    loops ≡ loops_without (is_passed points w) (face_plane region.view.plane.drop region.view.turned points) (take (end - start) (drop start r.walks.0)) →
    loops ≡ loops_at points r w k
loops_are points r w k start end region loops read s e is =
    is ∙ (λ j. loops_without (is_passed points w) (face_plane (read j).view.plane.drop (read j).view.turned points) (take (e j - s j) (drop (s j) r.walks.0)))

-- and its filling
filling_is : (points : List (List ℤ)) (r : Regions) (w : Ways) (k : ℕ) (region : Region) (loops : List (List ℕ)) → region ≡ get_or r.all.items k no_region →
    loops ≡ loops_at points r w k →
    ◌≡◌ {A = Cut} (fill_of region.view.plane.drop points loops) (fill_of (get_or r.all.items k no_region).view.plane.drop points (loops_at points r w k))
filling_is points r w k region loops read is = λ j. fill_of (read j).view.plane.drop points (is j)

pub filled_loops-requires-clause-places : goal.filled_loops-requires-clause-places
filled_loops-requires-clause-places c =
    let P : ℕ → Type 0 = λ v. v < length c.args.points.now in
    let Q : List ℕ → Type 0 = λ w. All P w in
    let ws = c.args.regions.now.walks.0 in
    let s = c.walks_of-start.result in
    subst (All Q) (sym (c.deref.ensures.value ∙ c.in_ok-loops.ensures))
    (loops_places P (is_passed c.args.points.now c.args.ways.now)
    (face_plane c.index-region.result.now.view.plane.drop c.index-region.result.now.view.turned c.args.points.now)
    (take (s.1 - s.0) (drop s.0 ws)) (All-take Q (s.1 - s.0) (drop s.0 ws) (All-drop Q s.0 ws c.requires.regions.1.places)))

-- what was read of the region
read : (r : Regions) (k : ℕ) (region : Region) → k < length r.all.items → region ≡ get_or r.all.items k region → region ≡ get_or r.all.items k no_region
read r k region low is = get_or_read r.all.items k region low is no_region

pub returns-in-Some : goal.returns-in-Some
returns-in-Some c =
    let points = c.args.points.now in
    let r = c.args.regions.now in
    let w = c.args.ways.now in
    let k = c.args.number in
    let region = c.index-region.result.now in
    let loops = c.deref.result.now in
    let s = c.walks_of-start.result in
    let is = read r k region c.requires.number c.index-region.ensures in
    let same =
    loops_are points r w k s.0 s.1 region loops is c.walks_of-start.ensures.start c.walks_of-start.ensures.end (c.deref.ensures.value ∙ c.in_ok-loops.ensures) in
    let made : Cut = fill_of region.view.plane.drop points loops in
    let there : AreTriples made c.in-Some.triples.items =
    subst (λ (o : Option (Vec (List ℕ) Global)). MatchOption o (0 < made.forced) (λ triples. AreTriples made triples.items)) c.in-Some.is c.in_ok-triples.ensures in
    let are = subst (λ (f : Cut). AreTriples f c.in-Some.triples.items) (filling_is points r w k region loops is same) there in
    let pushed = c.in_ok-push_all-in-Some.ensures in
    let items = c.deref-in-Some.ensures.value in (
      are.unforced,
      adds_one (piece_of points r w k) c.args.filled.now c.push_all.new.self c.in-Some.triples.items region.label are.triples (ap (λ (x : Region). x.label) is)
          (pushed.triples ∙ ap (λ (ts : List (List ℕ)). triples_of c.args.filled.now.triples.items ++ triples_of ts) items)
          (pushed.labels ∙ ap (λ (ts : List (List ℕ)). c.args.filled.now.labels.items ++ replicate (length ts) region.label) items),
    )

pub returns : goal.returns
returns c =
    let points = c.args.points.now in
    let r = c.args.regions.now in
    let w = c.args.ways.now in
    let k = c.args.number in
    let region = c.index-region.result.now in
    let loops = c.deref.result.now in
    let s = c.walks_of-start.result in
    let is = read r k region c.requires.number c.index-region.ensures in
    let same =
    loops_are points r w k s.0 s.1 region loops is c.walks_of-start.ensures.start c.walks_of-start.ensures.end (c.deref.ensures.value ∙ c.in_ok-loops.ensures) in
    let made : Cut = fill_of region.view.plane.drop points loops in
    let some : 0 < made.forced =
    subst (λ (o : Option (Vec (List ℕ) Global)). MatchOption o (0 < made.forced) (λ triples. AreTriples made triples.items)) c.in-None.is c.in_ok-triples.ensures in
    subst (λ (f : Cut). 0 < f.forced) (filling_is points r w k region loops is same) some
