-- The points of hits lie on the grid.
use Rattle.std.proofs.Common.{◌≡◌, ℕ, zero, suc, ℤ, pos, neg_ℤ, ◌*ℤ◌, ◌≤ℤ◌, true, false, Option, Some, None, IfSome, List, [], ◌∷◌, length, get_or, refl, arith}
use Rattle.std.specs.List.{All, cons_option, filter_map, flat_map}
use Rattle.std.proofs.lemmas.Int.{ints}
use Rattle.std.proofs.lemmas.List.Elements.{All-append, All-cons, All-head, All-nil, All-tail, All-weaker}
use Rattle.chain_terms.specs.Chains.{all_edges}
use Rattle.chain_terms.specs.Ranks.{start, finish}
use Rattle.chain_terms.specs.Sums.{upto}
use Rattle.mb_base.specs.declared.TheConstants.{UNIT}
use Rattle.mb_base.specs.declared.point.Corner.{Corner}
use Rattle.mb_base.specs.declared.results.Hit.{Hit}
use Rattle.mesh_terms.specs.Meshes.{Triple}
use Rattle.mesh_terms.specs.Points.{IsOnGrid, IsPoint, coordinate_of}
use Rattle.side_terms.specs.Boxes.{IsPointIn}
use Rattle.side_terms.specs.Corners.{AllFine, AllWhole, IsFineCorner, IsWhole, IsWholeCorner, axis, corner_at}
use Rattle.side_terms.specs.Fine.{fine_edge}
use Rattle.side_terms.specs.Hits.{lower_halves}
use Rattle.side_terms.specs.Sides.{IsSide, Side, edge_at, edge_of, face_at, face_of}
use Rattle.lean.proofs.Corners.{edge_fine, face_fine}
use Rattle.shadow_kernels.specs.declared.Spot.{Spot}
use Rattle.shadow_kernels.specs.Counts.{first_spot}
use Rattle.shadow_kernels.specs.Rules.{Rule}
use Rattle.shadow_kernels.specs.Lawful.{IsRule}
use Rattle.shadow_kernels.specs.ShadowLaws.{ShadowTest}
use Rattle.shadow_kernels.specs.Shadows.{edge_edge, face_vertex, vertex_face}
use Rattle.shadow_kernels.specs.Sizes.{any_holds}
use Rattle.shadow_kernels.specs.Spots.{Between}
use Rattle.edge_face.specs.declared.Cross.{Cross}
use Rattle.edge_face.specs.CrossingLaws.{IsSettling}
use Rattle.edge_face.specs.Crossings.{Settle, crossed, crossing, edge_face_crossing, edge_number, edge_pairs, face_edge_crossing, mirror, p_point, q_point}
use Rattle.edge_face.specs.Laws.{edge_face_laws, face_edge_laws}
use Rattle.crossings.specs.Hits.{CrossingTest, hit_of, hits_along, hits_of}

-- what holds of the points of all answers holds of those of all hits
module _ (P : List ℤ → Type 0) where
  put : (h f : ℕ) (o : Option Cross) (rest : List Hit) → IfSome o (λ c. P c.at) → All (λ x. P x.at) rest → All (λ x. P x.at) (cons_option (hit_of h f o) rest)
  put h f None rest at all = all
  put h f (Some c) rest at all = All-cons (λ x. P x.at) (record { edge = h; face = f; number = c.number; at = c.at }) rest at all

  along : (answer : ℕ → Option Cross) → ((f : ℕ) → IfSome (answer f) (λ c. P c.at)) → (h : ℕ) (fs : List ℕ) → All (λ x. P x.at) (filter_map (λ f. hit_of h f (answer f)) fs)
  along answer each h [] = All-nil (λ x. P x.at)
  along answer each h (f ∷ fs) = put h f (answer f) (filter_map (λ g. hit_of h g (answer g)) fs) (each f) (along answer each h fs)

  rows : (row : ℕ → List Hit) → ((h : ℕ) → All (λ x. P x.at) (row h)) → (hs : List ℕ) → All (λ x. P x.at) (flat_map row hs)
  rows row each [] = All-nil (λ x. P x.at)
  rows row each (h ∷ hs) = All-append (λ x. P x.at) (row h) (flat_map row hs) (each h) (rows row each hs)

  pub hits_hold : (test : CrossingTest) (edges faces : Side) → ((h f : ℕ) → IfSome (test (edge_at edges h) (face_at faces f)) (λ c. P c.at)) →
      All (λ x. P x.at) (hits_of test edges faces)
  hits_hold test edges faces each =
      rows (hits_along test edges faces) (λ h. along (λ f. test (edge_at edges h) (face_at faces f)) (each h) h (upto (length faces.triples)))
      (lower_halves (all_edges edges.triples))

-- where all corners of a list are whole, so is the one at any place: past the end it is blank
whole_at : (cs : List Corner) → AllWhole cs → (i : ℕ) → IsWholeCorner (corner_at cs i)
whole_at [] h i = record { x = none; y = none; z = none }
  where
    none : IsWhole (pos 0)
    none = record { steps = pos 0; value = omega (arith, ints) }
whole_at (c ∷ cs) h zero = All-head IsWholeCorner c cs h
whole_at (c ∷ cs) h (suc i) = whole_at cs (All-tail IsWholeCorner c cs h) i

-- and so are the corners of an edge and of a triangle
edge_whole : (cs : List Corner) → AllWhole cs → (a b : ℕ) → AllWhole (edge_of cs a b)
edge_whole cs h a b =
    All-cons IsWholeCorner (corner_at cs a) (corner_at cs b ∷ []) (whole_at cs h a) (All-cons IsWholeCorner (corner_at cs b) [] (whole_at cs h b) (All-nil IsWholeCorner))

face_whole : (cs : List Corner) → AllWhole cs → (t : Triple) → AllWhole (face_of cs t)
face_whole cs h t = All-cons IsWholeCorner (corner_at cs t.0) (edge_of cs t.1 t.2) (whole_at cs h t.0) (edge_whole cs h t.1 t.2)

-- a coordinate in the box of fine corners is on the grid
steps_on_grid : (z : ℤ) → neg_ℤ fine_edge ≤ℤ (UNIT *ℤ z) → (UNIT *ℤ z) ≤ℤ fine_edge → IsOnGrid z
steps_on_grid z low high = omega (arith, ints, low, high)

-- a point of three coordinates in that box is one of the grid
boxed : (cs : List Corner) (point : List ℤ) → AllFine cs → length point ≡ 3 → IsPointIn cs point → IsPoint point
boxed cs point fine three inside = record {
  three = three;
  x = steps_on_grid (coordinate_of point 0) (inside.x.low (neg_ℤ fine_edge) (All-weaker IsFineCorner (λ c. neg_ℤ fine_edge ≤ℤ axis 0 c) (λ c k. k.x.low) cs fine))
      (inside.x.high fine_edge (All-weaker IsFineCorner (λ c. axis 0 c ≤ℤ fine_edge) (λ c k. k.x.high) cs fine));
  y = steps_on_grid (coordinate_of point 1) (inside.y.low (neg_ℤ fine_edge) (All-weaker IsFineCorner (λ c. neg_ℤ fine_edge ≤ℤ axis 1 c) (λ c k. k.y.low) cs fine))
      (inside.y.high fine_edge (All-weaker IsFineCorner (λ c. axis 1 c ≤ℤ fine_edge) (λ c k. k.y.high) cs fine));
  z = steps_on_grid (coordinate_of point 2) (inside.z.low (neg_ℤ fine_edge) (All-weaker IsFineCorner (λ c. neg_ℤ fine_edge ≤ℤ axis 2 c) (λ c k. k.z.low) cs fine))
      (inside.z.high fine_edge (All-weaker IsFineCorner (λ c. axis 2 c ≤ℤ fine_edge) (λ c k. k.z.high) cs fine));
}

-- so is that of an answer of three coordinates in that box
answer_boxed : (cs : List Corner) (o : Option Cross) → AllFine cs → IfSome o (λ c. length c.at ≡ 3) → IfSome o (λ c. IsPointIn cs c.at) → IfSome o (λ c. IsPoint c.at)
answer_boxed cs None fine three inside = tt
answer_boxed cs (Some c) fine three inside = boxed cs c.at fine three inside

-- an answer has the point that it was made of
crossed_at : (n : ℤ) (at : List ℤ) → length at ≡ 3 → IfSome (crossed n at) (λ c. length c.at ≡ 3)
unfolding crossed
crossed_at n at three = any_holds (λ c. length c.at ≡ 3) n (record { number = n; at = at }) (λ _. three)

-- three coordinates, where each point that is placed has three
crossing_at : (ends edges : ShadowTest) (place : Spot → Spot → List ℤ) (a b u v t : Corner) → ((d s : Spot) → length (place d s) ≡ 3) →
    IfSome (crossing ends edges place a b u v t) (λ c. length c.at ≡ 3)
unfolding crossing
crossing_at ends edges place a b u v t three =
    let pairs = edge_pairs ends edges a b u v t in
    crossed_at (edge_number ends edges a b u v t) (place (first_spot false pairs) (first_spot true pairs)) (three (first_spot false pairs) (first_spot true pairs))

p_point_three : (w : Between) (settle : Settle) (d s : Spot) → length (p_point w settle d s) ≡ 3
unfolding p_point
p_point_three w settle d s = refl

q_point_three : (w : Between) (settle : Settle) (d s : Spot) → length (q_point w settle d s) ≡ 3
unfolding q_point
q_point_three w settle d s = refl

-- on the grid, under lawful rounding
module _ {k : Rule} {w : Between} (rule : IsRule k w) (settle : Settle) (settling : IsSettling settle) (p q : Side) (p_known : IsSide p) (q_known : IsSide q) where
  pub p_hits_on_grid : All (λ x. IsPoint x.at) (hits_of (edge_face_crossing k w settle) p q)
  p_hits_on_grid = hits_hold IsPoint (edge_face_crossing k w settle) p q each
    where
      each : (h f : ℕ) → IfSome (edge_face_crossing k w settle (edge_at p h) (face_at q f)) (λ c. IsPoint c.at)
      each h f =
          let a = start (all_edges p.triples) h in
          let b = finish (all_edges p.triples) h in
          let t = get_or q.triples f (0, 0, 0) in
          let e = edge_at p h in
          let g = face_at q f in
          let fine = edge_fine p.corners p_known.fine a b in
          answer_boxed e (edge_face_crossing k w settle e g) fine
          (crossing_at (vertex_face k w) (edge_edge k w) (p_point w settle) (corner_at e 0) (corner_at e 1) (corner_at g 0) (corner_at g 1) (corner_at g 2)
          (p_point_three w settle))
          ((edge_face_laws rule settle settling).inside_p e g refl refl refl fine (face_fine q.corners q_known.fine t) (edge_whole p.corners p_known.whole a b)
          (face_whole q.corners q_known.whole t))

  pub q_hits_on_grid : All (λ x. IsPoint x.at) (hits_of (λ edge face. face_edge_crossing k w settle face edge) q p)
  q_hits_on_grid = hits_hold IsPoint (λ edge face. face_edge_crossing k w settle face edge) q p each
    where
      each : (h f : ℕ) → IfSome (face_edge_crossing k w settle (face_at p f) (edge_at q h)) (λ c. IsPoint c.at)
      each h f =
          let a = start (all_edges q.triples) h in
          let b = finish (all_edges q.triples) h in
          let t = get_or p.triples f (0, 0, 0) in
          let e = edge_at q h in
          let g = face_at p f in
          let fine = edge_fine q.corners q_known.fine a b in
          answer_boxed e (face_edge_crossing k w settle g e) fine
          (crossing_at (mirror (face_vertex k w)) (mirror (edge_edge k w)) (q_point w settle) (corner_at e 0) (corner_at e 1) (corner_at g 0) (corner_at g 1)
          (corner_at g 2) (q_point_three w settle))
          ((face_edge_laws rule settle settling).inside_q g e refl refl refl (face_fine p.corners p_known.fine t) fine (face_whole p.corners p_known.whole t)
          (edge_whole q.corners q_known.whole a b))
