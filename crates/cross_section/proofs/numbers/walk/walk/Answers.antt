use Rattle.std.proofs.Common.{arith, ◌≡◌, ◌<◌, ◌≤◌, ◌+ℤ◌, ℕ, ℤ, List, length, get_or, map, refl, ap, sym, subst, ◌∙◌, to_z, of_z, w64}
use Rattle.std.specs.Prelude.{nat_abs}
use Rattle.std.specs.List.{All}
use Rattle.std.proofs.lemmas.Bool.{eqb-false, eqb-true}
use Rattle.std.proofs.lemmas.Int.{ints}
use Rattle.std.proofs.lemmas.List.{length-set}
use Rattle.mb_base.specs.declared.point.Corner.{Corner}
use Rattle.side_terms.specs.Corners.{AllFine, corner_at}
use Rattle.lean.proofs.Corners.{corner_fine, edge_fine}
use Rattle.outline_pair_terms.specs.Numbers.{FlatSide, ends_of}
use Rattle.cross_section.specs.Walks.{winding_of}
use Rattle.cross_section.proofs.Walking.{all_known, known_before, known_more, known_moved, next_number, winding_within, windings_within}
use Rattle.cross_section.proofs.numbers.walk.walk.Given.{Over}
use Rattle.cross_section.proofs.numbers.walk.walk.Goals as goal

-- the winding number of a vertex is no greater in size than there are edges
small_at : (g : Over) → (tests : g.row.T.Denot) → (side edges : FlatSide) → AllFine side.corners → AllFine edges.corners →
    (v : ℕ) → nat_abs (winding_of (g.T.EdgeTests.part_of tests) edges (corner_at side.corners v)) ≤ length edges.edges
small_at g tests side edges fine others v =
    let corner = corner_at side.corners v in
    winding_within (g.T.EdgeTests.part_of tests) edges corner
    (λ e. g.met.T.EdgeTests.small tests corner (ends_of edges e) refl (corner_fine side.corners fine v) (edge_fine edges.corners others e.0 e.1))

-- so are those of all
all_small : (g : Over) → (tests : g.row.T.Denot) → (side edges : FlatSide) → AllFine side.corners →
    AllFine edges.corners → (numbers : List ℤ) → numbers ≡ map (winding_of (g.T.EdgeTests.part_of tests) edges) side.corners →
    All (λ n. nat_abs n ≤ length edges.edges) numbers
all_small g tests side edges fine others numbers is =
    subst (All (λ n. nat_abs n ≤ length edges.edges)) (sym is)
    (windings_within (g.T.EdgeTests.part_of tests) edges side.corners fine others (λ c e two c_fine e_fine. g.met.T.EdgeTests.small tests c e two c_fine e_fine))

pub returns-then-is_empty-clause-value : goal.returns-then-is_empty-clause-value
returns-then-is_empty-clause-value g c =
    let side = c.args.vertices.now in
    let number = winding_of (g.T.EdgeTests.part_of c.args.tests.now) c.args.edges.now in
    let here : ℕ → ℤ = λ v. number (corner_at side.corners v) in
    let none : length c.args.list.now ≡ 0 = eqb-true (length c.args.list.now) 0 (sym c.is_empty.ensures ∙ c.if-is_empty.true) in
    all_known number side c.requires.whole c.in_ok-numbers.numbers.items
    (omega (arith, c.in_ok-numbers.ensures.len, ap length c.corners-corners.ensures.value))
    (known_moved here side.edges c.args.list.now c.requires.moved c.in_ok-numbers.numbers.items (λ j low. absurd (omega (arith, low, none))))

pub returns-then-is_empty-clause-size : goal.returns-then-is_empty-clause-size
returns-then-is_empty-clause-size g c = all_small g c.args.tests.now c.args.vertices.now c.args.edges.now
    c.corners-corners.ensures.side.fine c.corners.ensures.side.fine c.in_ok-numbers.numbers.items (returns-then-is_empty-clause-value g c)

pub loop-place-init : goal.loop-place-init
loop-place-init g c =
    let part = g.T.EdgeTests.part_of c.args.tests.now in
    let side = c.args.vertices.now in
    let edges = c.args.edges.now in
    let number : ℕ → ℤ = λ v. winding_of part edges (corner_at side.corners v) in
    let first = (get_or c.args.list.now 0 (0, 0)).0 in
    let other = eqb-false (length c.args.list.now) 0 (sym c.is_empty.ensures ∙ c.if-is_empty.false) in
    let some : 0 < length c.args.list.now = omega (arith, other) in
    let low : first < length side.corners = (c.requires.below 0 (0, 0) some).0 in
    let old = c.in_ok-numbers.numbers.items in
    let full : length old ≡ length side.corners = omega (arith, c.in_ok-numbers.ensures.len, ap length c.corners-corners.ensures.value) in
    let here = c.winding_sum.result in
    let z = to_z w64 (of_z w64 here) in
    let few = c.corners.ensures.side.few in
    let size = c.winding_sum.ensures.size in
    let whole : z ≡ here = omega (arith, ints, few, size) in
    let value : here ≡ number first = c.winding_sum.ensures.value ∙ ap (λ (cs : List Corner). winding_of part edges (corner_at cs first)) c.corners-corners.ensures.value in
    record {
      begun = omega arith;
      full = length-set old first z ∙ full;
      known = known_more number c.args.list.now 0 old z (λ j none. absurd (omega (arith, none))) (omega (arith, low, full)) (whole ∙ value);
    }

pub overflow_add-index : goal.overflow_add-index
overflow_add-index g c =
    let tests = c.args.tests.now in
    let side = c.args.vertices.now in
    let edges = c.args.edges.now in
    let number : ℕ → ℤ = λ v. winding_of (g.T.EdgeTests.part_of tests) edges (corner_at side.corners v) in
    let last = c.way_start-last.result in
    let place = c.loop-place.place in
    let begins = c.way_start-last.ensures in
    let inside : place < length c.args.list.now = c.loop-place-test.true in
    let below = (c.requires.below begins.0 (0, 0) (omega (arith, begins.1, inside))).0 in
    let there : last < length c.loop-place.numbers.items = omega (arith, below, begins.2, c.loop-place.invariant.full) in
    let is : c.index.result.now ≡ number last =
    c.index.ensures ∙ known_before number c.args.list.now place c.loop-place.numbers.items last c.index.result.now c.loop-place.invariant.known there begins in
    let small : nat_abs c.index.result.now ≤ length edges.edges =
    subst (λ (w : ℤ). nat_abs w ≤ length edges.edges) (sym is) (small_at g tests side edges c.corners-corners.ensures.side.fine c.corners.ensures.side.fine last) in
    let few = c.corners.ensures.side.few in
    let size = c.change_along-change.ensures.size in
    omega (arith, ints, small, few, size)

pub loop-place-preserved : goal.loop-place-preserved
loop-place-preserved g c =
    let tests = c.args.tests.now in
    let part = g.T.EdgeTests.part_of tests in
    let side = c.args.vertices.now in
    let edges = c.args.edges.now in
    let number : ℕ → ℤ = λ v. winding_of part edges (corner_at side.corners v) in
    let last = c.way_start-last.result in
    let place = c.loop-place.place in
    let old = c.loop-place.numbers.items in
    let inside : place < length c.args.list.now = c.loop-place-test.true in
    let next = (get_or c.args.list.now place (0, 0)).0 in
    let low : next < length side.corners = (c.requires.below place (0, 0) inside).0 in
    let begins = c.way_start-last.ensures in
    let here = c.index.result.now in
    let there = c.change_along-change.result in
    let below = (c.requires.below begins.0 (0, 0) (omega (arith, begins.1, inside))).0 in
    let within : last < length old = omega (arith, below, begins.2, c.loop-place.invariant.full) in
    let known : here ≡ number last = c.index.ensures ∙ known_before number c.args.list.now place old last here c.loop-place.invariant.known within begins in
    let z = to_z w64 (of_z w64 (to_z w64 (of_z w64 here) +ℤ to_z w64 (of_z w64 there))) in
    let sum : (here +ℤ there) ≡ number next =
    next_number part (g.T.EdgeTests.change_of tests) side edges c.requires.changes last next
    c.way.result here there known c.way.ensures.value c.change_along-change.ensures.value in
    let small : nat_abs here ≤ length edges.edges =
    subst (λ (w : ℤ). nat_abs w ≤ length edges.edges) (sym known) (small_at g tests side edges c.corners-corners.ensures.side.fine c.corners.ensures.side.fine last) in
    let few = c.corners.ensures.side.few in
    let size = c.change_along-change.ensures.size in
    let whole : z ≡ (here +ℤ there) = omega (arith, ints, small, few, size) in
    let full = c.loop-place.invariant.full in
    record {
      begun = omega (arith, c.loop_start-begin.ensures);
      full = length-set old next z ∙ full;
      known = known_more number c.args.list.now place old z c.loop-place.invariant.known (omega (arith, low, full)) (whole ∙ sum);
    }

pub returns-clause-value : goal.returns-clause-value
returns-clause-value g c =
    let side = c.args.vertices.now in
    let number = winding_of (g.T.EdgeTests.part_of c.args.tests.now) c.args.edges.now in
    let here : ℕ → ℤ = λ v. number (corner_at side.corners v) in
    all_known number side c.requires.whole c.loop-place.numbers.items c.loop-place.invariant.full
    (known_moved here side.edges c.args.list.now c.requires.moved c.loop-place.numbers.items
    (λ j low. c.loop-place.invariant.known j (omega (arith, low, c.loop-place-test.false))))

pub returns-clause-size : goal.returns-clause-size
returns-clause-size g c = all_small g c.args.tests.now c.args.vertices.now c.args.edges.now
    c.corners-corners.ensures.side.fine c.corners.ensures.side.fine c.loop-place.numbers.items (returns-clause-value g c)
