-- Ways on which no segment makes a volume of 0 with a face: nothing needs to be moved.
use Rattle.std.specs.Prelude.{◌≡◌, ℕ, ℤ, List, [], ◌∷◌, get_or}
use Rattle.std.proofs.Common.{arith, refl, ◌∙◌}
use Rattle.std.proofs.lemmas.Int.{ints}
use Rattle.chain_laws.specs.Sums.{total-same_all}
use Rattle.mesh_terms.specs.Meshes.{Triple}
use Rattle.plane_laws.specs.Decisions.{Vector}
use Rattle.exact_kernels.specs.Exact.{position}
use Rattle.solid_laws.specs.Windings.{places_of}
use Rattle.crossing_laws.specs.Fine.{need_no_hair, ways_back_out, ways_out}
use Rattle.crossing_laws.specs.Laws.{PlainWaysBackOut, PlainWaysOut}
use Rattle.crossing_laws.specs.Through.{AreSteps, IsPlainTo, moved_throughs, throughs, throughs_moved, way_total}

-- equal numbers of segments add up to the same
way_same : {X : Type 0} (P : X → X → Type 0) (n m : X → X → ℤ) → ((c d : X) → P c d → n c d ≡ m c d) → (p : X) (qs : List X) → AreSteps P p qs → way_total n p qs ≡ way_total m p qs
way_same P n m each p [] h = refl
way_same P n m each p (q ∷ qs) h = omega (arith, ints, each p q h.0, way_same P n m each q qs h.1)

module _ (at : ℕ → Vector) (ts : List Triple) (a b : Vector) (h : IsPlainTo at ts a b) where
  -- a segment with all faces
  plain_throughs : moved_throughs at ts a b ≡ throughs at ts a b
  plain_throughs = total-same_all _ _ ts (λ i d l. let t = get_or ts i d in (need_no_hair a b (at t.0) (at t.1) (at t.2) (h i d l)).0)

  -- with all moved faces
  plain_moved : throughs_moved at ts a b ≡ throughs at ts a b
  plain_moved = total-same_all _ _ ts (λ i d l. let t = get_or ts i d in (need_no_hair a b (at t.0) (at t.1) (at t.2) (h i d l)).1)

-- ways out of P
pub plain_ways_out : PlainWaysOut
plain_ways_out w p way q hp hw side far plain =
    ways_out w p way q hp hw side far
    ∙ way_same (λ c d. IsPlainTo (places_of q) q.triples (position c) (position d)) (λ c d. moved_throughs (places_of q) q.triples (position c) (position d))
    (λ c d. throughs (places_of q) q.triples (position c) (position d)) (λ c d h. plain_throughs (places_of q) q.triples (position c) (position d) h) p way plain

-- and of Q
pub plain_ways_back_out : PlainWaysBackOut
plain_ways_back_out w q way p hq hw side far plain =
    ways_back_out w q way p hq hw side far
    ∙ way_same (λ c d. IsPlainTo (places_of p) p.triples (position c) (position d)) (λ c d. throughs_moved (places_of p) p.triples (position c) (position d))
    (λ c d. throughs (places_of p) p.triples (position c) (position d)) (λ c d h. plain_moved (places_of p) p.triples (position c) (position d) h) q way plain
