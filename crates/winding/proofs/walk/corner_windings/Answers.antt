use Rattle.std.proofs.Common.{◌≡◌, ◌<◌, ◌≤◌, ◌+◌, ◌-ℤ◌, ℕ, ℤ, pos, nat_abs, refl, sym, ap, ◌∙◌, subst, to_z, of_z, w64, arith}
use Rattle.std.proofs.Common.{IfSome, List, Option, length, get_or, set, take}
use Rattle.std.proofs.lemmas.Int.{ints}
use Rattle.std.proofs.lemmas.List.{get_or_default, length-set, take_all}
use Rattle.chain_terms.specs.Chains.{all_edges}
use Rattle.chain_terms.specs.Ranks.{start, finish}
use Rattle.mesh_terms.specs.Limits.{most_triangles}
use Rattle.mb_base.specs.declared.point.Corner.{Corner}
use Rattle.side_terms.specs.Corners.{IsFineCorner, corner_at}
use Rattle.lean.proofs.Corners.{corner_fine}
use Rattle.halfedge.proofs.Edges.{length-all_edges}
use Rattle.spanning_forest.specs.declared.entrance.Entrance.{Entrance}
use Rattle.spanning_forest.specs.declared.entrance.Entrance.TheVariants.{Root, Along}
use Rattle.spanning_forest.specs.Forests.{IsSpanningForest, vertices_of}
use Rattle.winding.specs.declared.jump.Known.{Known}
use Rattle.winding.specs.Segments.{IsKnown}
use Rattle.winding.specs.Windings.{minus_shadows, number_at}
use Rattle.winding.proofs.Known.{AreKnown, all_known, entered_below, follows_here, known_along, known_next, known_start}
use Rattle.winding.proofs.Known.{numbers_are, numbers_within, roots_more, roots_same, spans_moved}
use Rattle.winding.proofs.walk.corner_windings.Goals as goal
use Rattle.winding.proofs.walk.corner_windings.Goals.{in-Root, in-Along}

pub bounds-corners-root : goal.bounds-corners-root
bounds-corners-root g c =
    let es = all_edges c.args.vertices.now.triples in
    let n = length c.corners-corners.result.now in
    let entrances = c.deref-entrance-items.result.now in
    let spans : IsSpanningForest n es entrances = spans_moved refl c.triples.ensures.value (sym c.deref-entrance-items.ensures.value) c.in_ok-forest.ensures in
    entered_below es entrances c.loop-entrance.entrance-index (Root c.in-Root.root) c.loop-entrance-test.true c.in-Root.is n spans

pub number_from-number-requires-clause-fine : goal.number_from-number-requires-clause-fine
number_from-number-requires-clause-fine g c =
    let seen = c.corners-corners.ensures in
    subst (λ (l : List Corner). IsFineCorner (corner_at l c.in-Root.root)) (sym seen.value) (corner_fine c.args.vertices.now.corners seen.side.fine c.in-Root.root)

pub index_mut-requires : goal.index_mut-requires
index_mut-requires g c =
    let es = all_edges c.args.vertices.now.triples in
    let n = length c.corners-corners.result.now in
    let entrances = c.deref-entrance-items.result.now in
    let spans : IsSpanningForest n es entrances = spans_moved refl c.triples.ensures.value (sym c.deref-entrance-items.ensures.value) c.in_ok-forest.ensures in
    let low = entered_below es entrances c.loop-entrance.entrance-index (Root c.in-Root.root) c.loop-entrance-test.true c.in-Root.is n spans in
    omega (arith, low, c.loop-entrance.invariant.full, ap length c.corners-corners.ensures.value)

pub start-requires : goal.start-requires
start-requires g c =
    let es = all_edges c.args.vertices.now.triples in
    let n = length c.corners-corners.result.now in
    let entrances = c.deref-entrance-items.result.now in
    let spans : IsSpanningForest n es entrances = spans_moved refl c.triples.ensures.value (sym c.deref-entrance-items.ensures.value) c.in_ok-forest.ensures in
    let follows = follows_here es entrances c.loop-entrance.entrance-index (Along c.in-Along.half) c.loop-entrance-test.true c.in-Along.is n spans in
    omega (arith, follows.0, length-all_edges c.args.vertices.now.triples)

pub overflow_sub-before : goal.overflow_sub-before
overflow_sub-before g c =
    let es = all_edges c.args.vertices.now.triples in
    let n = length c.corners-corners.result.now in
    let entrances = c.deref-entrance-items.result.now in
    let faces = c.args.faces.now in
    let number : ℕ → ℤ = number_at (g.S.VertexFace.vertex_shadow c.args.shadows.now) c.args.vertices.now faces in
    let numbers = c.loop-entrance.numbers.items in
    let i = c.loop-entrance.entrance-index in
    let half = c.in-Along.half in
    let from = c.start.result in
    let before = c.index-before.result.now in
    let spans : IsSpanningForest n es entrances = spans_moved refl c.triples.ensures.value (sym c.deref-entrance-items.ensures.value) c.in_ok-forest.ensures in
    let follows = follows_here es entrances i (Along half) c.loop-entrance-test.true c.in-Along.is n spans in
    let low : from < length numbers = omega (arith, c.start.ensures.below, c.loop-entrance.invariant.full) in
    let known = known_start number numbers es (take i entrances) half c.loop-entrance.invariant.known follows in
    let at_start : get_or numbers from (pos 0) ≡ number from = subst (λ (v : ℕ). get_or numbers v (pos 0) ≡ number v) (sym c.start.ensures.value) known in
    let here : before ≡ number from = c.index-before.ensures ∙ get_or_default numbers from before (pos 0) low ∙ at_start in
    let small : nat_abs before ≤ length faces.triples = subst (λ (z : ℤ). nat_abs z ≤ length faces.triples) (sym here) (c.requires.size from c.start.ensures.below) in
    let few : length faces.triples ≤ most_triangles = c.twins.ensures.side.accepted.mesh.few_triples in
    let crossed = c.crossings_along-crossings.ensures.size in
    omega (arith, ints, small, few, crossed)

pub loop-entrance-preserved : goal.loop-entrance-preserved
loop-entrance-preserved g c =
    let side = c.args.vertices.now in
    let es = all_edges side.triples in
    let n = length c.corners-corners.result.now in
    let entrances = c.deref-entrance-items.result.now in
    let faces = c.args.faces.now in
    let vertex_shadow = g.S.VertexFace.vertex_shadow c.args.shadows.now in
    let number : ℕ → ℤ = number_at vertex_shadow side faces in
    let winding : Corner → ℤ = λ k. minus_shadows (vertex_shadow k) faces in
    let old = c.loop-entrance.numbers.items in
    let i = c.loop-entrance.entrance-index in
    let inside = c.loop-entrance-test.true in
    let full = c.loop-entrance.invariant.full in
    let listed = c.corners-corners.ensures.value in
    let spans : IsSpanningForest n es entrances = spans_moved refl c.triples.ensures.value (sym c.deref-entrance-items.ensures.value) c.in_ok-forest.ensures in
    elim c.match-entrance.branch [
      | in-Root w ↦
          let root = w.in-Root.root in
          let z = to_z w64 (of_z w64 w.number_from-number.result) in
          let items : c.match-entrance.numbers.items ≡ set old root z = ap (λ v. v.items) w.numbers-is in
          let whole : z ≡ w.number_from-number.result = omega (arith, ints) in
          let low : root < n = entered_below es entrances i (Root root) inside w.in-Root.is n spans in
          let moved = ap (λ (l : List Corner). minus_shadows (vertex_shadow (corner_at l root)) faces) listed in
          let here : z ≡ number root = whole ∙ w.number_from-number.ensures.value ∙ moved in
          let known = known_next number old es entrances i (Root root) z inside w.in-Root.is c.loop-entrance.invariant.known (omega (arith, low, full, ap length listed)) here in
          let counted = w.number_from-number.ensures.cost in
          let within : root < length side.corners = omega (arith, low, ap length listed) in
          let fine = subst (λ (l : List Corner). IsFineCorner (corner_at l root)) (sym listed) (corner_fine side.corners c.corners-corners.ensures.side.fine root) in
          let small : nat_abs z ≤ length faces.triples = subst (λ (k : ℤ). nat_abs k ≤ length faces.triples) (sym here) (c.requires.size root within) in
          let one_more = roots_more entrances i root inside w.in-Root.is in
          record {
            full = ap length items ∙ length-set old root z ∙ full;
            known = subst (λ (l : List ℤ). AreKnown number l (vertices_of es (take (i + 1) entrances))) (sym items) known;
            cost = omega (arith, w.steps-is, counted, one_more, c.loop-entrance.invariant.cost);
            from = subst (λ (o : Option Known). IfSome o (IsKnown winding (length faces.triples))) (sym w.known-is)
                (record { fine = fine; number = whole ∙ w.number_from-number.ensures.value; size = small });
          }
      | in-Along w ↦
          let half = w.in-Along.half in
          let end = w.finish.result in
          let from = w.start.result in
          let before = w.index-before.result.now in
          let crossings = w.crossings_along-crossings.result in
          let z = to_z w64 (of_z w64 (to_z w64 (of_z w64 before) -ℤ to_z w64 (of_z w64 crossings))) in
          let follows = follows_here es entrances i (Along half) inside w.in-Along.is n spans in
          let low_from : from < length old = omega (arith, w.start.ensures.below, full) in
          let known = known_start number old es (take i entrances) half c.loop-entrance.invariant.known follows in
          let at_start : get_or old from (pos 0) ≡ number (start es half) = ap (λ (v : ℕ). get_or old v (pos 0)) w.start.ensures.value ∙ known in
          let first : before ≡ number (start es half) = w.index-before.ensures ∙ get_or_default old from before (pos 0) low_from ∙ at_start in
          let ends : end ≡ finish es half = w.finish.ensures.value in
          let low_end : finish es half < length old = omega (arith, w.finish.ensures.below, ends, full) in
          let total_is = w.crossings_along-crossings.ensures.value in
          let along = known_along es (length faces.triples) c.args.hits.now number half before crossings c.requires.listed.on_faces c.requires.identity follows.0 first total_is in
          let back : number from ≡ before = ap number w.start.ensures.value ∙ sym first in
          let small : nat_abs before ≤ length faces.triples = subst (λ (k : ℤ). nat_abs k ≤ length faces.triples) back (c.requires.size from w.start.ensures.below) in
          let few : length faces.triples ≤ most_triangles = c.twins.ensures.side.accepted.mesh.few_triples in
          let crossed = w.crossings_along-crossings.ensures.size in
          let whole : z ≡ before -ℤ crossings = omega (arith, ints, small, few, crossed) in
          let next = known_next number old es entrances i (Along half) z inside w.in-Along.is c.loop-entrance.invariant.known low_end (whole ∙ along) in
          let items : c.match-entrance.numbers.items ≡ set old (finish es half) z = ap (λ v. v.items) w.numbers-is ∙ ap (λ (v : ℕ). set old v z) ends in
          let no_more = roots_same entrances i half inside w.in-Along.is in
          record {
            full = ap length items ∙ length-set old (finish es half) z ∙ full;
            known = subst (λ (l : List ℤ). AreKnown number l (vertices_of es (take (i + 1) entrances))) (sym items) next;
            cost = omega (arith, w.steps-is, no_more, c.loop-entrance.invariant.cost);
            from = subst (λ (o : Option Known). IfSome o (IsKnown winding (length faces.triples))) (sym w.known-is) c.loop-entrance.invariant.from;
          }
    ]

pub returns-clause-value : goal.returns-clause-value
returns-clause-value g c =
    let side = c.args.vertices.now in
    let es = all_edges side.triples in
    let n = length side.corners in
    let entrances = c.deref-entrance-items.result.now in
    let numbers = c.loop-entrance.numbers.items in
    let shadow = g.S.VertexFace.vertex_shadow c.args.shadows.now in
    let vertex_number : Corner → ℤ = λ k. minus_shadows (shadow k) c.args.faces.now in
    let number : ℕ → ℤ = number_at shadow side c.args.faces.now in
    let same = ap length c.corners-corners.ensures.value in
    let spans : IsSpanningForest n es entrances = spans_moved same c.triples.ensures.value (sym c.deref-entrance-items.ensures.value) c.in_ok-forest.ensures in
    let gone = take_all c.loop-entrance.entrance-index entrances c.loop-entrance-test.false in
    let known = subst (λ (l : List Entrance). AreKnown number numbers (vertices_of es l)) gone c.loop-entrance.invariant.known in
    numbers_are vertex_number side.corners numbers c.loop-entrance.invariant.full (all_known number numbers n es entrances spans known)

pub returns-clause-size : goal.returns-clause-size
returns-clause-size g c =
    let side = c.args.vertices.now in
    let es = all_edges side.triples in
    let n = length side.corners in
    let entrances = c.deref-entrance-items.result.now in
    let numbers = c.loop-entrance.numbers.items in
    let full : length numbers ≡ n = c.loop-entrance.invariant.full in
    let number : ℕ → ℤ = number_at (g.S.VertexFace.vertex_shadow c.args.shadows.now) side c.args.faces.now in
    let same = ap length c.corners-corners.ensures.value in
    let spans : IsSpanningForest n es entrances = spans_moved same c.triples.ensures.value (sym c.deref-entrance-items.ensures.value) c.in_ok-forest.ensures in
    let gone = take_all c.loop-entrance.entrance-index entrances c.loop-entrance-test.false in
    let known = subst (λ (l : List Entrance). AreKnown number numbers (vertices_of es l)) gone c.loop-entrance.invariant.known in
    numbers_within number numbers (length c.args.faces.now.triples) (λ v low. all_known number numbers n es entrances spans known v (omega (arith, low, full)))
    (λ v low. c.requires.size v (omega (arith, low, full)))
