-- The lists of a face of Q are those of a face of P where the two sides are exchanged.
use Rattle.std.proofs.Common.{◌≡◌, ℕ, ◌<◌, Bool, true, false, cond, ◌==◌, ℤ, pos, neg_ℤ, List, length, refl, arith, ap, sym, ◌∙◌}
use Rattle.std.proofs.lemmas.Int.{ints}
use Rattle.chain_terms.specs.Chains.{all_edges}
use Rattle.mesh_check.specs.Reduced.{NoOpposite}
use Rattle.mb_base.specs.declared.results.Origin.{Origin}
use Rattle.mb_base.specs.declared.results.Origin.TheVariants.{PVertex, QVertex, PEdge, QEdge}
use Rattle.side_terms.specs.Sides.{Side, IsSide}
use Rattle.side_terms.specs.Lists.{ListName, HalfP, HalfQ, PairP, PairQ, incidence, way_round}
use Rattle.source_face_terms.specs.Naming.{NamesLower}
use Rattle.source_face_laws.proofs.Distinct.{InBoth, IsOfFaceP, same_origin}

-- with the sides exchanged
abbrev other_origin : Origin → Origin
other_origin (PVertex v) = QVertex v
other_origin (QVertex v) = PVertex v
other_origin (PEdge e face) = QEdge e face
other_origin (QEdge e face) = PEdge e face

abbrev other_name : ListName → ListName
other_name (HalfP h) = HalfQ h
other_name (HalfQ h) = HalfP h
other_name (PairP f g) = PairQ f g
other_name (PairQ g f) = PairP g f

-- exchanged twice
origin_back : (x : Origin) → other_origin (other_origin x) ≡ x
origin_back (PVertex v) = refl
origin_back (QVertex v) = refl
origin_back (PEdge e face) = refl
origin_back (QEdge e face) = refl

name_back : (name : ListName) → other_name (other_name name) ≡ name
name_back (HalfP h) = refl
name_back (HalfQ h) = refl
name_back (PairP f g) = refl
name_back (PairQ g f) = refl

-- a minus goes through a choice
minus_once : (t : Bool) (z : ℤ) → cond t (neg_ℤ z) (pos 0) ≡ neg_ℤ (cond t z (pos 0))
minus_once true z = refl
minus_once false z = refl

minus_twice : (t : Bool) (z : ℤ) → neg_ℤ (cond t (neg_ℤ z) (pos 0)) ≡ cond t z (pos 0)
minus_twice true z = omega (arith, ints)
minus_twice false z = refl

-- a copy stands as it did
stands_other : (P Q : List (ℕ × ℕ)) (name : ListName) (x : Origin) → incidence Q P (other_name name) (other_origin x) ≡ incidence P Q name x
stands_other P Q (HalfP h) (PVertex v) = refl
stands_other P Q (HalfP h) (QVertex v) = refl
stands_other P Q (HalfP h) (PEdge e face) = refl
stands_other P Q (HalfP h) (QEdge e face) = refl
stands_other P Q (HalfQ h) (PVertex v) = refl
stands_other P Q (HalfQ h) (QVertex v) = refl
stands_other P Q (HalfQ h) (PEdge e face) = refl
stands_other P Q (HalfQ h) (QEdge e face) = refl
stands_other P Q (PairP f g) (PVertex v) = refl
stands_other P Q (PairP f g) (QVertex v) = refl
stands_other P Q (PairP f g) (PEdge e face) = minus_twice (face == g) (way_round P f e)
stands_other P Q (PairP f g) (QEdge e face) = sym (minus_once (face == f) (way_round Q g e))
stands_other P Q (PairQ g f) (PVertex v) = refl
stands_other P Q (PairQ g f) (QVertex v) = refl
stands_other P Q (PairQ g f) (PEdge e face) = minus_once (face == g) (way_round P f e)
stands_other P Q (PairQ g f) (QEdge e face) = sym (minus_twice (face == f) (way_round Q g e))

lower_other : (p q : Side) (x : Origin) → NamesLower p q x → NamesLower q p (other_origin x)
lower_other p q (PVertex v) h = h
lower_other p q (QVertex v) h = h
lower_other p q (PEdge e face) h = h
lower_other p q (QEdge e face) h = h

both_other : (P Q : List (ℕ × ℕ)) (one two : ListName) (x : Origin) → InBoth P Q one two x → InBoth Q P (other_name one) (other_name two) (other_origin x)
both_other P Q one two x both = record {
  first = λ e. both.first (sym (stands_other P Q one x) ∙ e);
  second = λ e. both.second (sym (stands_other P Q two x) ∙ e);
}

-- a list of a face of Q
abbrev pub IsOfFaceQ : (m g : ℕ) → ListName → Type 0
IsOfFaceQ m g name = IsOfFaceP m g (other_name name)

-- what stands in two lists of a face of Q is known by them
pub same_origin_q : (p q : Side) → IsSide p → IsSide q → NoOpposite p.triples → (g : ℕ) → g < length q.triples → (one two : ListName) →
    IsOfFaceQ (length p.triples) g one → IsOfFaceQ (length p.triples) g two →
    (one ≡ two → ⊥) → (x y : Origin) → NamesLower p q x → NamesLower p q y → InBoth (all_edges p.triples) (all_edges q.triples) one two x →
    InBoth (all_edges p.triples) (all_edges q.triples) one two y → x ≡ y
same_origin_q p q p_known q_known none g below one two of_one of_two apart x y x_lower y_lower x_in y_in =
    let P = all_edges p.triples in
    let Q = all_edges q.triples in
    let same = same_origin q p q_known p_known none g below (other_name one) (other_name two) of_one of_two (λ e. apart (sym (name_back one) ∙ ap other_name e ∙ name_back two))
    (other_origin x) (other_origin y) (lower_other p q x x_lower) (lower_other p q y y_lower) (both_other P Q one two x x_in) (both_other P Q one two y y_in) in
    sym (origin_back x) ∙ ap other_origin same ∙ origin_back y
