-- Triples have one orientation where they are the same from the least vertex on.
use Rattle.std.proofs.Common.{◌≡◌, ◌<◌, Bool, true, false, List, [], ◌∷◌, refl, sym, ◌∙◌, ap, arith}
use Rattle.std.specs.Prelude.{◌==◌, ◌&&◌, ◌||◌, nat_lt, count_by, if◌then◌else◌}
use Rattle.std.specs.List.{All}
use Rattle.std.proofs.lemmas.Bool.Decides.{nat_tests}
use Rattle.std.proofs.lemmas.Bool.{cond_both}
use Rattle.std.proofs.lemmas.List.Elements.{All-head, All-tail}
use Rattle.chain_terms.specs.Chains.{is_edge, dir, one_if}
use Rattle.chain_laws.specs.Chains.{and_turned}
use Rattle.chain_laws.specs.Counts.{count_by-cons}
use Rattle.mesh_terms.specs.Meshes.{Triple, HasThree}
use Rattle.mesh_check.specs.Orientations.{least_first, other_side, edge_of, orientation_edge, orientation_edges, IsNarrow, IsTriangle}
use Rattle.mesh_check.specs.Reduced.{same_triple, same_way, opposite}

-- the first vertex is the least
record IsLeastFirst (u : Triple) : Type 0 where
  second : u.0 < u.1
  third : u.0 < u.2

-- the triple from its second vertex on
abbrev pub turn : Triple → Triple
turn u = (u.1, u.2, u.0)

-- the second may be turned
turn_second : (s u : Triple) → same_way s (turn u) ≡ same_way s u
turn_second s u = or_turned (same_triple s u) (same_triple s (turn u)) (same_triple s (turn (turn u)))
  where
    or_turned : (x y z : Bool) → (y || z || x) ≡ (x || y || z)
    or_turned x y z = grind arith

-- both may be turned
turn_both : (v u : Triple) → same_triple (turn v) (turn u) ≡ same_triple v u
turn_both v u = and_turned (v.0 == u.0) (v.1 == u.1) (v.2 == u.2)
  where
    and_turned : (x y z : Bool) → (y && z && x) ≡ (x && y && z)
    and_turned x y z = grind arith

-- the first may be turned
turn_first : (v u : Triple) → same_way (turn v) u ≡ same_way v u
turn_first v u = sym (turn_second (turn v) u) ∙ (λ i. turn_both v u i || turn_both v (turn u) i || turn_both v (turn (turn u)) i)

-- the vertex at its second place is the least
abbrev pub second_least : Triple → Bool
second_least t = nat_lt t.1 t.0 && nat_lt t.1 t.2

-- the vertex at its third place is the least
abbrev pub third_least : Triple → Bool
third_least t = nat_lt t.2 t.0 && nat_lt t.2 t.1

-- what holds of a triple from each vertex on holds from the least on
pub from_least : (P : Triple → Type 0) (t : Triple) → P t → P (turn t) → P (turn (turn t)) → P (least_first t)
from_least P t first second third =
    cond_both (second_least t) (turn t) (if third_least t then turn (turn t) else t) P (λ _. second) (λ _. cond_both (third_least t) (turn (turn t)) t P (λ _. third) (λ _. first))

-- where one is a rotation of the other does not change from the least vertex on
least_both : (s t : Triple) → same_way (least_first s) (least_first t) ≡ same_way s t
least_both s t =
    from_least (λ u. same_way (least_first s) u ≡ same_way (least_first s) t) t refl (turn_second (least_first s) t)
    (turn_second (least_first s) (turn t) ∙ turn_second (least_first s) t)
    ∙ from_least (λ v. same_way v t ≡ same_way s t) s refl (turn_first s t) (turn_first (turn s) t ∙ turn_first s t)

-- the least vertex comes first
least_is_first : (t : Triple) → HasThree t → IsLeastFirst (least_first t)
least_is_first t three =
    cond_both (second_least t) (turn t) (if third_least t then turn (turn t) else t) IsLeastFirst
    (λ yes. record { second = grind (arith, nat_tests, yes); third = grind (arith, nat_tests, yes) })
    (λ not_second. cond_both (third_least t) (turn (turn t)) t IsLeastFirst
    (λ yes. record { second = grind (arith, nat_tests, yes); third = grind (arith, nat_tests, yes) })
    (λ not_third. record {
      second = grind (arith, nat_tests, not_second, not_third, three.ab, three.bc, three.ca);
      third = grind (arith, nat_tests, not_second, not_third, three.ab, three.bc, three.ca);
    }))

-- the vertices stay below 2^32
pub least_narrow : (t : Triple) → IsNarrow t → IsNarrow (least_first t)
least_narrow t n = from_least IsNarrow t n (record { a = n.b; b = n.c; c = n.a }) (record { a = n.c; b = n.a; c = n.b })

-- no two vertices are the least
two_least : (t : Triple) → second_least t ≡ true → third_least t ≡ true → ⊥
two_least t p q = grind (arith, nat_tests, p, q)

-- the other side from the least vertex on
pub least_other_side : (t : Triple) → least_first (other_side t) ≡ other_side (least_first t)
least_other_side t = by (second_least t) (third_least t) refl refl
  where
    by : (x y : Bool) → second_least t ≡ x → third_least t ≡ y →
        (if y then (t.2, t.1, t.0) else if x then (t.1, t.0, t.2) else other_side t) ≡ other_side (if x then turn t else if y then turn (turn t) else t)
    by true true p q = absurd (two_least t p q)
    by true false p q = refl
    by false true p q = refl
    by false false p q = refl

-- of two triples that begin with their least vertex one is a rotation of the other only where they are the same
same_only : (v u : Triple) → IsLeastFirst v → IsLeastFirst u → same_way v u ≡ same_triple v u
same_only v u p q = grind (arith, nat_tests, p.second, p.third, q.second, q.third)

-- triples whose vertices are below 2^32 are the same where their edges are
code_same : (s t : Triple) → IsNarrow s → IsNarrow t → is_edge (edge_of s) (edge_of t).0 (edge_of t).1 ≡ same_triple t s
code_same s t m n = grind (arith, nat_tests, m.b, m.c, n.b, n.c)

-- one of two triangles is a rotation of the other where their orientations are the same edge
pub same_way_edge : (s t : Triple) → IsTriangle s → IsTriangle t → same_way t s ≡ is_edge (orientation_edge s) (orientation_edge t).0 (orientation_edge t).1
same_way_edge s t p q =
    sym (least_both t s) ∙ same_only (least_first t) (least_first s) (least_is_first t q.three) (least_is_first s p.three)
    ∙ sym (code_same (least_first s) (least_first t) (least_narrow s p.narrow) (least_narrow t q.narrow))

-- the other side of a triangle is one
other_side_triangle : (t : Triple) → IsTriangle t → IsTriangle (other_side t)
other_side_triangle t p = record {
  three = record { ab = λ e. p.three.ca (sym e); bc = λ e. p.three.bc (sym e); ca = λ e. p.three.ab (sym e) };
  narrow = record { a = p.narrow.a; b = p.narrow.c; c = p.narrow.b };
}

-- they are opposite where these are reverse edges
pub opposite_edge : (s t : Triple) → IsTriangle s → IsTriangle t → opposite t s ≡ is_edge (orientation_edge s) (orientation_edge t).1 (orientation_edge t).0
opposite_edge s t p q =
    same_way_edge (other_side s) t (other_side_triangle s p) q
    ∙ ap (λ u. is_edge (edge_of u) (orientation_edge t).0 (orientation_edge t).1) (least_other_side s)
    ∙ and_turned ((orientation_edge s).1 == (orientation_edge t).0) ((orientation_edge s).0 == (orientation_edge t).1)

-- as many triangles have the orientation as edges are its edge
pub same_count : (ts : List Triple) (t : Triple) → All IsTriangle ts → IsTriangle t →
    count_by (same_way t) ts ≡ dir (orientation_edges ts) (orientation_edge t).0 (orientation_edge t).1
same_count [] t all q = refl
same_count (s ∷ ts) t all q =
    omega (arith, count_by-cons (same_way t) s ts, ap one_if (same_way_edge s t (All-head IsTriangle s ts all) q), same_count ts t (All-tail IsTriangle s ts all) q)

-- and the other one as are its reverse
pub opposite_count : (ts : List Triple) (t : Triple) → All IsTriangle ts → IsTriangle t →
    count_by (opposite t) ts ≡ dir (orientation_edges ts) (orientation_edge t).1 (orientation_edge t).0
opposite_count [] t all q = refl
opposite_count (s ∷ ts) t all q =
    omega (arith, count_by-cons (opposite t) s ts, ap one_if (opposite_edge s t (All-head IsTriangle s ts all) q), opposite_count ts t (All-tail IsTriangle s ts all) q)
