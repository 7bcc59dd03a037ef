-- What bars a bridge: of the edges those whose boxes touch its box; and the edges after a join are those before it and the bridge.
use Rattle.std.specs.Prelude.{◌≡◌, ℕ, ◌<◌, ℤ, pos, ◌+ℤ◌, ◌≤ℤ◌, int_lt, int_le, List, [], ◌∷◌, ◌++◌, Bool, true, false}
use Rattle.std.specs.Prelude.{cond, not, ◌&&◌, ◌||◌, length, get_or, map, set}
use Rattle.std.specs.Int.{int_min, int_max}
use Rattle.std.specs.Int.Signed.{le_z}
use Rattle.std.specs.List.{All, filter, list_any}
use Rattle.std.specs.List.Sorted.{IsPermutation}
use Rattle.std.proofs.Common.{arith, refl, sym, ap, ◌∙◌}
use Rattle.std.proofs.lemmas.Int.{ints, clamps}
use Rattle.std.proofs.lemmas.Bool.{cond_both, and_parts, and_from, and_right, both_ways, false_from_ne_true}
use Rattle.std.proofs.lemmas.List.{get_or-map, get_or_default, length-map}
use Rattle.std.proofs.lemmas.List.Sorted.{All-permutation}
use Rattle.chain_terms.specs.Chains.{one_if}
use Rattle.chain_terms.specs.Paths.{round_edges}
use Rattle.chain_terms.specs.Sums.{total, upto}
use Rattle.chain_laws.specs.Sums.{total-append, total-flat_map, total-permutation}
use Rattle.chain_laws.proofs.Ascending.{kept_at, total-filter}
use Rattle.chain_laws.proofs.Places.{total-places, total-upto_same}
use Rattle.box_tree.specs.Touching.{box_at, no_box, overlap_on, touches, touching_numbers}
use Rattle.face_plane.specs.Planes.{Plane}
use Rattle.face_plane.specs.Rings.{vertex_at}
use Rattle.hole_joining.specs.Bridges.{edges_of, join}
use Rattle.hole_joining.specs.Cones.{overlap, boxes_meet, lines_meet, has_end, share_point, bars}
use Rattle.hole_joining.specs.Obstacles.{SameEdges, box_round, edge_box}
use Rattle.hole_joining.proofs.Joins.{vertex_within, join_total}
use Rattle.hole_joining.proofs.Keeps.{total-set}
use Rattle.hole_joining.proofs.Turning.{once_round}

-- 1 for each member that passes
abbrev pub marks : {X : Type 0} → (X → Bool) → X → ℤ
marks p x = pos (one_if (p x))

marks_low : {X : Type 0} (p : X → Bool) (xs : List X) → pos 0 ≤ℤ total (marks p) xs
marks_low p [] = omega (arith, ints)
marks_low p (x ∷ xs) = omega (arith, ints, marks_low p xs)

-- a member passes where they add up to more than 0
any_marks : {X : Type 0} (p : X → Bool) (xs : List X) → list_any p xs ≡ int_lt (pos 0) (total (marks p) xs)
any_marks p [] = refl
any_marks p (x ∷ xs) = step (p x) (list_any p xs) (total (marks p) xs) (marks_low p xs) (any_marks p xs)
  where
    above : (z : ℤ) → pos 0 ≤ℤ z → true ≡ int_lt (pos 0) (pos 1 +ℤ z)
    above z h = grind (arith, ints, h)

    none : (z : ℤ) → pos 0 +ℤ z ≡ z
    none z = omega (arith, ints)

    step : (b rest : Bool) (z : ℤ) → pos 0 ≤ℤ z → rest ≡ int_lt (pos 0) z → (b || rest) ≡ int_lt (pos 0) (pos (one_if b) +ℤ z)
    step true rest z low h = above z low
    step false rest z low h = h ∙ ap (int_lt (pos 0)) (sym (none z))

-- so where these sums are the same, both lists have one or neither has
pub same_any : {X Y : Type 0} (p : X → Bool) (q : Y → Bool) (xs : List X) (ys : List Y) → total (marks p) xs ≡ total (marks q) ys →
    list_any p xs ≡ list_any q ys
same_any p q xs ys h = any_marks p xs ∙ ap (int_lt (pos 0)) h ∙ sym (any_marks q ys)

-- segments whose boxes have a point in common have boxes that touch
boxes_touch : (a b c d : ℤ × ℤ) → boxes_meet a b c d ≡ true → touches (box_round c d) (box_round a b) ≡ true
boxes_touch a b c d y =
    let p = and_parts (overlap a.0 b.0 c.0 d.0) (overlap a.1 b.1 c.1 d.1) y in
    let e = box_round c d in let f = box_round a b in
    and_from (overlap_on 0 e f && overlap_on 1 e f) (overlap_on 2 e f)
    (and_from (overlap_on 0 e f) (overlap_on 1 e f) (axis a.0 b.0 c.0 d.0 p.0) (axis a.1 b.1 c.1 d.1 p.1)) refl
  where
    at_most : (a b : ℤ) → int_le a b ≡ true → a ≤ℤ b
    at_most a b h = grind (arith, ints, h)

    test : (a b : ℤ) → a ≤ℤ b → le_z a b ≡ true
    test a b h = grind (arith, ints, h)

    axis : (a b c d : ℤ) → overlap a b c d ≡ true → le_z (int_max (int_min c d) (int_min a b)) (int_min (int_max c d) (int_max a b)) ≡ true
    axis a b c d h =
        let p = and_parts (int_le (int_min a b) (int_max c d)) (int_le (int_min c d) (int_max a b)) h in
        let far = at_most (int_min a b) (int_max c d) p.0 in
        let near = at_most (int_min c d) (int_max a b) p.1 in
        test (int_max (int_min c d) (int_min a b)) (int_min (int_max c d) (int_max a b)) (omega (arith, ints, clamps, far, near))

-- an edge whose box does not touch that of a segment does not bar it
bars_apart : (at : Plane) (h r : ℕ) (e : ℕ × ℕ) → touches (edge_box at e) (box_round (at h) (at r)) ≡ false → bars at h r e ≡ false
bars_apart at h r e far =
    let meet = boxes_meet (at h) (at r) (at e.0) (at e.1) in
    let apart : meet ≡ false =
    false_from_ne_true meet
    (λ y. both_ways (touches (edge_box at e) (box_round (at h) (at r))) far (boxes_touch (at h) (at r) (at e.0) (at e.1) y)) in
    and_right (not (has_end e h) && not (has_end e r)) (share_point at h r e.0 e.1) (ap (λ m. m && lines_meet (at h) (at r) (at e.0) (at e.1)) apart)

-- whether the edge of a number bars a segment
abbrev pub edge_bars : Plane → List (ℕ × ℕ) → ℕ → ℕ → ℕ → Bool
edge_bars at edges h r k = bars at h r (get_or edges k (0, 0))

-- the edges near a segment, by their numbers
module _ (at : Plane) (edges : List (ℕ × ℕ)) (h r : ℕ) (near : List ℕ)
    (moved : IsPermutation (touching_numbers (map (edge_box at) edges) (box_round (at h) (at r))) near) where
  pub near_below : All (λ k. k < length edges) near
  near_below =
      let boxes = map (edge_box at) edges in
      let p : ℕ → Bool = λ k. touches (box_at boxes k) (box_round (at h) (at r)) in
      All-permutation (λ k. k < length edges) (touching_numbers boxes (box_round (at h) (at r))) near moved
      (λ k d l. let kept = kept_at p 0 (length boxes) k l in
      omega (arith, kept.high, get_or_default (filter p (upto (length boxes))) k d 0 l, length-map edges (edge_box at)))

  -- one of them bars the segment where one of all edges does
  pub near_any : list_any (edge_bars at edges h r) near ≡ list_any (bars at h r) edges
  near_any =
      let boxes = map (edge_box at) edges in
      let around = box_round (at h) (at r) in
      let p : ℕ → Bool = λ k. touches (box_at boxes k) around in
      let value : ℕ → ℤ = λ k. pos (one_if (bars at h r (get_or edges k (0, 0)))) in
      let each : (k : ℕ) → k < length edges → cond (p k) (value k) (pos 0) ≡ value k =
      λ k below.
      cond_both (p k) (value k) (pos 0) (λ z. z ≡ value k) (λ y. refl)
      (λ far. sym (ap (λ b. pos (one_if b))
      (bars_apart at h r (get_or edges k (0, 0)) (ap (λ b. touches b around) (sym (get_or-map (edge_box at) edges k (0, 0) no_box below)) ∙ far)))) in
      same_any (edge_bars at edges h r) (bars at h r) near edges
      (total-permutation value (touching_numbers boxes around) near moved
      ∙ ap (λ m. total value (filter p (upto m))) (length-map edges (edge_box at))
      ∙ total-filter value p (upto (length edges))
      ∙ total-upto_same (λ k. cond (p k) (value k) (pos 0)) value (length edges) each
      ∙ sym (total-places (λ e. pos (one_if (bars at h r e))) (0, 0) edges))

-- the edges of rings and holes before and after a join
joined_edges : (rings later : List (List ℕ)) (hole : List ℕ) (i place : ℕ) → i < length rings → place < length (get_or rings i []) →
    0 < length hole → (g : (ℕ × ℕ) → ℤ) →
    total g (edges_of (set rings i (join (get_or rings i []) place hole) ++ later)) ≡
    total g (edges_of (rings ++ hole ∷ later))
    +ℤ (g (vertex_at (get_or rings i []) place, vertex_at hole 0) +ℤ g (vertex_at hole 0, vertex_at (get_or rings i []) place))
joined_edges rings later [] i place there within some g = absurd (omega (arith, some))
joined_edges rings later (h ∷ k) i place there within some g =
    let ring = get_or rings i [] in
    let hole : List ℕ = h ∷ k in
    let next = join ring place hole in
    let r = get_or ring place 0 in
    let start : vertex_at hole 0 ≡ h = vertex_within hole 0 (omega arith) in
    let end : vertex_at ring place ≡ r = vertex_within ring place within in
    let after : total g (edges_of (set rings i next ++ later)) ≡ total (once_round g) (set rings i next ++ later) =
    total-flat_map g round_edges (set rings i next ++ later) in
    let before : total g (edges_of (rings ++ hole ∷ later)) ≡ total (once_round g) (rings ++ hole ∷ later) =
    total-flat_map g round_edges (rings ++ hole ∷ later) in
    omega (
      arith,
      ints,
      after,
      before,
      total-append (once_round g) (set rings i next) later,
      total-append (once_round g) rings (hole ∷ later),
      total-set (once_round g) rings i next there,
      join_total g ring place h k within,
      ap (λ v. g (v, vertex_at hole 0)) end,
      ap (λ v. g (r, v)) start,
      ap (λ v. g (vertex_at hole 0, v)) end,
      ap (λ v. g (v, r)) start,
    )

-- they are still those of the rings and of the later holes after a join, with its bridge
pub same_joined : (rings now later : List (List ℕ)) (hole : List ℕ) (i place from to : ℕ) (all all' : List (ℕ × ℕ)) → i < length rings →
    place < length (get_or rings i []) → 0 < length hole →
    now ≡ set rings i (join (get_or rings i []) place hole) → from ≡ vertex_at (get_or rings i []) place → to ≡ vertex_at hole 0 →
    all' ≡ all ++ (from, to) ∷ (to, from) ∷ [] →
    SameEdges (edges_of (rings ++ hole ∷ later)) all → SameEdges (edges_of (now ++ later)) all'
same_joined rings now later hole i place from to all all' there within some e end start more same g =
    omega (
      arith,
      ints,
      ap (λ l. total g (edges_of (l ++ later))) e,
      joined_edges rings later hole i place there within some g,
      same g,
      ap (total g) more,
      total-append g all ((from, to) ∷ (to, from) ∷ []),
      ap (λ v. g (v, to)) end,
      ap (λ v. g (vertex_at (get_or rings i []) place, v)) start,
      ap (λ v. g (to, v)) end,
      ap (λ v. g (v, vertex_at (get_or rings i []) place)) start,
    )

-- before the first join they are those of all rings and holes
pub same_first : (rings holes : List (List ℕ)) (all : List (ℕ × ℕ)) → all ≡ edges_of rings ++ edges_of holes →
    SameEdges (edges_of (rings ++ holes)) all
same_first rings holes all e g =
    let whole : total g (edges_of (rings ++ holes)) ≡ total (once_round g) (rings ++ holes) = total-flat_map g round_edges (rings ++ holes) in
    let front : total g (edges_of rings) ≡ total (once_round g) rings = total-flat_map g round_edges rings in
    let back : total g (edges_of holes) ≡ total (once_round g) holes = total-flat_map g round_edges holes in
    omega (
      arith,
      ints,
      whole,
      total-append (once_round g) rings holes,
      ap (total g) e,
      total-append g (edges_of rings) (edges_of holes),
      front,
      back,
    )
