use Rattle.std.proofs.Common.{◌≡◌, ◌<◌, ◌≤◌, ◌+◌, ◌⊎◌, inl, inr, ℕ, Bool, true, false, List, length, get_or, set, refl, sym, ◌∙◌, ap, subst, arith}
use Rattle.std.specs.declared.cmp.Ordering.{Ordering}
use Rattle.std.proofs.lemmas.List.{get_or-map, length-map, length-set}
use Rattle.mesh_terms.specs.OpenEdges.{is_lesser}
use Rattle.halfedge.specs.Pairing.{Half, half_at, ends}
use Rattle.mesh_check.specs.declared.oriented.Oriented.{Oriented}
use Rattle.halfedge.specs.Ways.{AreWays}
use Rattle.mesh_check.specs.Cancelling.{vertices_of, as_half, halves_of, AreMarked}
use Rattle.mesh_check.specs.Orientations.{edge_of}
use Rattle.mesh_check.proofs.Cancelling.{IsRead, ways_known, none_read, first_read, second_read, both_read, marked_more}
use Rattle.mesh_check.proofs.WaySteps.{vertices_cmp, edge_less, edge_more, edge_equal}
use Rattle.mesh_check.proofs.cancel.cancel.Goals as goal

-- a triangle without vertices
abbrev none : Oriented
none = record { least = 0; second = 0; third = 0; place = 0 }

-- as many half-edges as triangles
below_halves : (os : List Oriented) (i : ℕ) → i < length os → i < length (halves_of os)
below_halves os i low = omega (arith, low, length-map os as_half)

-- the ends at a place are the edge there
ends_here : (os : List Oriented) (i : ℕ) → i < length os → ends (get_or (halves_of os) i (0, 0, 0)) ≡ edge_of (vertices_of (get_or os i none))
ends_here os i low = ap ends (get_or-map as_half os i none (0, 0, 0) low)

-- and its number the triangle's place
place_here : (os : List Oriented) (i : ℕ) → i < length os → half_at (halves_of os) i ≡ (get_or os i none).place
place_here os i low = ap (λ (h : Half). h.2) (get_or-map as_half os i none (0, 0, 0) low)

-- how two triangles compare, as it was computed
compared : (answer : Ordering) (x y : ℕ × ℕ × ℕ) (s t : ℕ × ℕ × ℕ) → answer ≡ vertices_cmp x y → x ≡ s → y ≡ t → vertices_cmp s t ≡ answer
compared answer x y s t known is at = sym (known ∙ (λ k. vertices_cmp (is k) (at k)))

-- the two lists, read up to two places
abbrev AreRead : (ones others : List Oriented) (i j : ℕ) (old left : List Bool) → Type 0
AreRead ones others i j old left =
    (es : List (ℕ × ℕ)) (key : ℕ → ℕ) (k : ℕ) → AreWays es key k (halves_of ones) (halves_of others) → AreMarked es key k old →
    IsRead es key k (halves_of ones) (halves_of others) i j old left

-- the lesser edge is passed over, in the first list or in the second
one_passed : (ones others : List Oriented) (i j : ℕ) (old left : List Bool) → i < length ones → j < length others →
    is_lesser (edge_of (vertices_of (get_or ones i none))) (edge_of (vertices_of (get_or others j none))) ≡ true
    → AreRead ones others i j old left → AreRead ones others (i + 1) j old left
one_passed ones others i j old left low below less read es key k ways marked =
    first_read es key k (halves_of ones) (halves_of others) i j old left (ways_known es key k (halves_of ones) (halves_of others) ways)
    (below_halves ones i low) (below_halves others j below)
    ((λ n. is_lesser (ends_here ones i low n) (ends_here others j below n)) ∙ less) (read es key k ways marked)

other_passed : (ones others : List Oriented) (i j : ℕ) (old left : List Bool) → i < length ones → j < length others →
    is_lesser (edge_of (vertices_of (get_or others j none))) (edge_of (vertices_of (get_or ones i none))) ≡ true
    → AreRead ones others i j old left → AreRead ones others i (j + 1) old left
other_passed ones others i j old left low below less read es key k ways marked =
    second_read es key k (halves_of ones) (halves_of others) i j old left (ways_known es key k (halves_of ones) (halves_of others) ways)
    (below_halves ones i low) (below_halves others j below)
    ((λ n. is_lesser (ends_here others j below n) (ends_here ones i low n)) ∙ less) (read es key k ways marked)

-- an edge of both lists takes both marks
both_gone : (ones others : List Oriented) (i j : ℕ) (old left : List Bool) → i < length ones → j < length others →
    edge_of (vertices_of (get_or others j none)) ≡ edge_of (vertices_of (get_or ones i none)) → length left ≡ length old
    → AreRead ones others i j old left → AreRead ones others (i + 1) (j + 1) old (set (set left (get_or ones i none).place false) (get_or others j none).place false)
both_gone ones others i j old left low below same full read es key k ways marked =
    subst (λ m. IsRead es key k (halves_of ones) (halves_of others) (i + 1) (j + 1) old (set (set left m false) (get_or others j none).place false)) (place_here ones i low)
    (subst (λ m. IsRead es key k (halves_of ones) (halves_of others) (i + 1) (j + 1) old (set (set left (half_at (halves_of ones) i) false) m false)) (place_here others j below)
    (both_read es key k (halves_of ones) (halves_of others) i j old left (ways_known es key k (halves_of ones) (halves_of others) ways)
    (below_halves ones i low) (below_halves others j below)
    (ends_here others j below ∙ same ∙ sym (ends_here ones i low)) (full ∙ marked.full) (read es key k ways marked)))

pub loop-i-init : goal.loop-i-init
loop-i-init c = record {
  full = refl;
  read = λ es key k ways marked. none_read es key k (halves_of c.args.ones.now) (halves_of c.args.others.now) c.args.left.items
      (ways_known es key k (halves_of c.args.ones.now) (halves_of c.args.others.now) ways) marked;
}

pub loop-i-preserved-in-Less : goal.loop-i-preserved-in-Less
loop-i-preserved-in-Less c = record {
  full = c.loop-i.invariant.full;
  read = other_passed c.args.ones.now c.args.others.now c.loop-i.i c.loop-i.j c.args.left.items c.loop-i.left.items c.loop-i-test.true c.if-j-others.true less
      c.loop-i.invariant.read;
}
  where
    less : is_lesser (edge_of (vertices_of (get_or c.args.others.now c.loop-i.j none))) (edge_of (vertices_of (get_or c.args.ones.now c.loop-i.i none))) ≡ true
    less =
        edge_less (vertices_of (get_or c.args.others.now c.loop-i.j none)) (vertices_of (get_or c.args.ones.now c.loop-i.i none)) c.vertices.ensures.narrow
        c.vertices-in-loop-i.ensures.narrow
        (compared c.cmp.result c.vertices.result c.vertices-in-loop-i.result _ _ c.cmp.ensures c.vertices.ensures.value c.vertices-in-loop-i.ensures.value ∙ c.in-Less.is)

pub loop-i-preserved : goal.loop-i-preserved
loop-i-preserved c = record {
  full = c.loop-i.invariant.full;
  read = one_passed c.args.ones.now c.args.others.now c.loop-i.i c.loop-i.j c.args.left.items c.loop-i.left.items c.loop-i-test.true c.if-j-others.true more
      c.loop-i.invariant.read;
}
  where
    more : is_lesser (edge_of (vertices_of (get_or c.args.ones.now c.loop-i.i none))) (edge_of (vertices_of (get_or c.args.others.now c.loop-i.j none))) ≡ true
    more =
        edge_more (vertices_of (get_or c.args.others.now c.loop-i.j none)) (vertices_of (get_or c.args.ones.now c.loop-i.i none)) c.vertices.ensures.narrow
        c.vertices-in-loop-i.ensures.narrow
        (compared c.cmp.result c.vertices.result c.vertices-in-loop-i.result _ _ c.cmp.ensures c.vertices.ensures.value c.vertices-in-loop-i.ensures.value ∙ c.in-Greater.is)

pub loop-i-preserved-in-Equal : goal.loop-i-preserved-in-Equal
loop-i-preserved-in-Equal c = record {
  full = length-set (set c.loop-i.left.items (get_or c.args.ones.now c.loop-i.i none).place false) (get_or c.args.others.now c.loop-i.j none).place false
      ∙ length-set c.loop-i.left.items (get_or c.args.ones.now c.loop-i.i none).place false ∙ c.loop-i.invariant.full;
  read = both_gone c.args.ones.now c.args.others.now c.loop-i.i c.loop-i.j c.args.left.items c.loop-i.left.items c.loop-i-test.true c.if-j-others.true same
      c.loop-i.invariant.full c.loop-i.invariant.read;
}
  where
    same : edge_of (vertices_of (get_or c.args.others.now c.loop-i.j none)) ≡ edge_of (vertices_of (get_or c.args.ones.now c.loop-i.i none))
    same = edge_equal (vertices_of (get_or c.args.others.now c.loop-i.j none)) (vertices_of (get_or c.args.ones.now c.loop-i.i none))
        (compared c.cmp.result c.vertices.result c.vertices-in-loop-i.result _ _ c.cmp.ensures c.vertices.ensures.value c.vertices-in-loop-i.ensures.value ∙ c.in-Equal.is)

pub returns-else-j-others : goal.returns-else-j-others
returns-else-j-others c es key k ways differ marked =
    let ended : (length (halves_of c.args.ones.now) ≤ c.loop-i.i) ⊎ (length (halves_of c.args.others.now) ≤ c.loop-i.j) =
    inr (omega (arith, c.if-j-others.false, length-map c.args.others.now as_half)) in
    marked_more es key k (halves_of c.args.ones.now) (halves_of c.args.others.now) c.loop-i.i c.loop-i.j c.args.left.items c.loop-i.left.items ways differ ended
    c.loop-i.invariant.full marked (c.loop-i.invariant.read es key k ways marked)

pub returns-after-loop-i : goal.returns-after-loop-i
returns-after-loop-i c es key k ways differ marked =
    let ended : (length (halves_of c.args.ones.now) ≤ c.loop-i.i) ⊎ (length (halves_of c.args.others.now) ≤ c.loop-i.j) =
    inl (omega (arith, c.loop-i-test.false, length-map c.args.ones.now as_half)) in
    marked_more es key k (halves_of c.args.ones.now) (halves_of c.args.others.now) c.loop-i.i c.loop-i.j c.args.left.items c.loop-i.left.items ways differ ended
    c.loop-i.invariant.full marked (c.loop-i.invariant.read es key k ways marked)
