-- The points of crossings of outlines lie on the grid.
use Rattle.std.proofs.Common.{ℕ, ℤ, Bool, true, false, Option, Some, None, IfSome, List, [], ◌∷◌, length, refl, arith}
use Rattle.std.specs.Prelude.{pos, if◌then◌else◌}
use Rattle.std.specs.List.{All, cons_option, filter_map, flat_map}
use Rattle.std.specs.Ordering.{int_eq}
use Rattle.std.proofs.lemmas.Int.{ints}
use Rattle.std.proofs.lemmas.List.Elements.{All-append, All-cons, All-nil}
use Rattle.chain_terms.specs.Ranks.{start, finish}
use Rattle.chain_terms.specs.Sums.{upto}
use Rattle.mb_base.specs.declared.point.Corner.{Corner}
use Rattle.mesh_terms.specs.Points.{IsPoint}
use Rattle.side_terms.specs.Corners.{AllFine}
use Rattle.lean.proofs.Corners.{edge_fine}
use Rattle.shadow_kernels.specs.Bounds.{hull_fine}
use Rattle.shadow_kernels.specs.ShadowLaws.{IsInHull, ShadowLaws, ShadowTest}
use Rattle.shadow_kernels.specs.declared.Meet.{Meet}
use Rattle.cross_section.proofs.Points.{IsSettling, settled_grid}
use Rattle.outline_pair_terms.specs.declared.FlatHit.{FlatHit}
use Rattle.outline_pair_terms.specs.Numbers.{FlatSide, edge_at, ends_of, flat_hit, flat_hits, flat_hits_along, flat_point}

module _ (test : ShadowTest) (laws : ShadowLaws 2 2 test) (settle : ℤ → ℤ) (settling : IsSettling settle)
    (p q : FlatSide) (p_fine : AllFine p.corners) (q_fine : AllFine q.corners) where
  abbrev On : FlatHit → Type 0
  On h = IsPoint h.at

  -- the point of an answer in the hull of fine corners
  answered : (ps qs : List Corner) (o : Option Meet) → AllFine ps → AllFine qs → IfSome o (λ a. IsInHull ps qs a.spot) → IfSome o (λ a. IsPoint (flat_point settle a.spot))
  answered ps qs None ps_fine qs_fine hull = tt
  answered ps qs (Some a) ps_fine qs_fine hull =
      let fine = hull_fine ps qs a.spot ps_fine qs_fine hull in
      record { three = refl; x = settled_grid settle settling a.spot.x fine.x; y = settled_grid settle settling a.spot.py fine.py; z = omega (arith, ints) }

  each : (i j : ℕ) → IfSome (test (ends_of p (edge_at p i)) (ends_of q (edge_at q j))) (λ a. IsPoint (flat_point settle a.spot))
  each i j =
      let ps = ends_of p (edge_at p i) in
      let qs = ends_of q (edge_at q j) in
      let ps_fine = edge_fine p.corners p_fine (start p.edges i) (finish p.edges i) in
      let qs_fine = edge_fine q.corners q_fine (start q.edges j) (finish q.edges j) in
      answered ps qs (test ps qs) ps_fine qs_fine (laws.hull ps qs (omega arith) refl refl ps_fine qs_fine)

  put : (i j : ℕ) (o : Option Meet) (rest : List FlatHit) → IfSome o (λ a. IsPoint (flat_point settle a.spot)) → All On rest → All On (cons_option (flat_hit settle i j o) rest)
  put i j None rest at all = all
  put i j (Some m) rest at all = by (int_eq m.count (pos 0)) where
    by : (b : Bool) → All On (cons_option (if b then None else Some (record { p_edge = i; q_edge = j; number = m.count; at = flat_point settle m.spot })) rest)
    by true = all
    by false = All-cons On (record { p_edge = i; q_edge = j; number = m.count; at = flat_point settle m.spot }) rest at all

  along : (i : ℕ) (js : List ℕ) → All On (filter_map (λ j. flat_hit settle i j (test (ends_of p (edge_at p i)) (ends_of q (edge_at q j)))) js)
  along i [] = All-nil On
  along i (j ∷ js) =
      put i j (test (ends_of p (edge_at p i)) (ends_of q (edge_at q j)))
      (filter_map (λ j. flat_hit settle i j (test (ends_of p (edge_at p i)) (ends_of q (edge_at q j)))) js) (each i j) (along i js)

  rows : (is : List ℕ) → All On (flat_map (flat_hits_along test settle p q) is)
  rows [] = All-nil On
  rows (i ∷ is) = All-append On (flat_hits_along test settle p q i) (flat_map (flat_hits_along test settle p q) is) (along i (upto (length q.edges))) (rows is)

  pub flat_hits_on_grid : All (λ (h : FlatHit). IsPoint h.at) (flat_hits test settle p q)
  flat_hits_on_grid = rows (upto (length p.edges))
