-- The lists of half-edges and of pairs, of either side alike: which copies stand in them, and how they are paired.
use Rattle.std.proofs.Common.{◌≡◌, ◌⊎◌, ℕ, ◌+◌, ◌*◌, ◌-◌, ◌<◌, inl, inr, Bool, true, false, cond, ℤ, pos, List, length}
use Rattle.std.proofs.Common.{map, ◌++◌, refl, sym, ap, subst, ◌∙◌, arith}
use Rattle.std.specs.Prelude.{nat_lt}
use Rattle.std.proofs.lemmas.Bool.{cases_lt, le-ltb, lt-ltb}
use Rattle.chain_terms.specs.Chains.{all_edges}
use Rattle.chain_terms.specs.Sums.{upto}
use Rattle.mb_base.specs.declared.results.Origin.{Origin}
use Rattle.mb_base.specs.declared.results.Origin.TheVariants.{PEdge, PVertex, QEdge, QVertex}
use Rattle.side_terms.specs.Sides.{Side}
use Rattle.side_terms.specs.Lists.{HalfP, HalfQ, IsListOf, ListName, PairP, PairQ, at_end, incidence, lists_of_p, lists_of_q}
use Rattle.edge_pairing.specs.Pairing.{paired_across}
use Rattle.source_face_terms.specs.Segments.{lists_of, paired_in, paired_on_edge}
use Rattle.source_faces.specs.Agreement.{IsHitCopy, list_name}
use Rattle.source_faces.proofs.ListGroups.{map-up_from_same}

-- a vertex of a side
abbrev pub IsVertexOf : (ℕ → Origin) → Origin → Type 0
IsVertexOf origin o = (w : ℕ) × (o ≡ origin w)

-- the list of a half-edge of a side: copies of the side's vertices and of hits stand in it, and it is paired along the edge
pub record IsHalf (p q side : Side) (origin : ℕ → Origin) (h : ℕ) (name : ListName) : Type 0 where
  pub of_vertex : (w : ℕ) → incidence (all_edges p.triples) (all_edges q.triples) name (origin w) ≡ at_end (all_edges side.triples) h w
  pub kinds : (o : Origin) → IsVertexOf origin o ⊎ (IsHitCopy o ⊎ (incidence (all_edges p.triples) (all_edges q.triples) name o ≡ pos 0))
  pub paired : (place : ℕ → List ℤ) (from to : List ℕ) → paired_in p q place name from to ≡ paired_on_edge side h place from to

-- the list of a pair of faces: copies of hits stand in it, and it is paired on the line in which they cross
pub record IsPair (p q : Side) (name : ListName) : Type 0 where
  pub kinds : (o : Origin) → IsHitCopy o ⊎ (incidence (all_edges p.triples) (all_edges q.triples) name o ≡ pos 0)
  pub paired : (place : ℕ → List ℤ) (from to : List ℕ) → paired_in p q place name from to ≡ paired_across place from to

half_p : (p q : Side) (h : ℕ) → IsHalf p q p PVertex h (HalfP h)
half_p p q h = record { of_vertex = λ w. refl; kinds = kinds; paired = λ place from to. refl }
  where
    kinds : (o : Origin) → IsVertexOf PVertex o ⊎ (IsHitCopy o ⊎ (incidence (all_edges p.triples) (all_edges q.triples) (HalfP h) o ≡ pos 0))
    kinds (PVertex v) = inl (v, refl)
    kinds (QVertex v) = inr (inr refl)
    kinds (PEdge e face) = inr (inl tt)
    kinds (QEdge e face) = inr (inl tt)

half_q : (p q : Side) (h : ℕ) → IsHalf p q q QVertex h (HalfQ h)
half_q p q h = record { of_vertex = λ w. refl; kinds = kinds; paired = λ place from to. refl }
  where
    kinds : (o : Origin) → IsVertexOf QVertex o ⊎ (IsHitCopy o ⊎ (incidence (all_edges p.triples) (all_edges q.triples) (HalfQ h) o ≡ pos 0))
    kinds (PVertex v) = inr (inr refl)
    kinds (QVertex v) = inl (v, refl)
    kinds (PEdge e face) = inr (inl tt)
    kinds (QEdge e face) = inr (inl tt)

-- of copies, those of hits alone stand in the list of a pair
pair_kinds : (p q : Side) (name : ListName) → ((v : ℕ) → incidence (all_edges p.triples) (all_edges q.triples) name (PVertex v) ≡ pos 0) →
    ((v : ℕ) → incidence (all_edges p.triples) (all_edges q.triples) name (QVertex v) ≡ pos 0) →
    (o : Origin) → IsHitCopy o ⊎ (incidence (all_edges p.triples) (all_edges q.triples) name o ≡ pos 0)
pair_kinds p q name of_p of_q (PVertex v) = inr (of_p v)
pair_kinds p q name of_p of_q (QVertex v) = inr (of_q v)
pair_kinds p q name of_p of_q (PEdge e face) = inl tt
pair_kinds p q name of_p of_q (QEdge e face) = inl tt

pair_p : (p q : Side) (f g : ℕ) → IsPair p q (PairP f g)
pair_p p q f g = record { kinds = pair_kinds p q (PairP f g) (λ v. refl) (λ v. refl); paired = λ place from to. refl }

pair_q : (p q : Side) (g f : ℕ) → IsPair p q (PairQ g f)
pair_q p q g f = record { kinds = pair_kinds p q (PairQ g f) (λ v. refl) (λ v. refl); paired = λ place from to. refl }

-- the name of a list by cases of the face and of the number
abbrev name_of : (m x l : ℕ) (a b : Bool) → ListName
name_of m x l a b = cond a (cond b (HalfP (3 * x + l)) (PairP x (l - 3))) (cond b (HalfQ (3 * (x - m) + l)) (PairQ (x - m) (l - 3)))

by_cases : (m x l : ℕ) (a b : Bool) → nat_lt x m ≡ a → nat_lt l 3 ≡ b → list_name m x l ≡ name_of m x l a b
by_cases m x l a b e f = ap (λ t. name_of m x l t (nat_lt l 3)) e ∙ ap (name_of m x l a) f

-- those of a face of P, and of a face of Q
half_name_p : (m x l : ℕ) → x < m → l < 3 → list_name m x l ≡ HalfP (3 * x + l)
half_name_p m x l below half = by_cases m x l true true (lt-ltb x m below) (lt-ltb l 3 half)

pair_name_p : (m x l j : ℕ) → x < m → l ≡ 3 + j → list_name m x l ≡ PairP x j
pair_name_p m x l j below e =
    let back : l - 3 ≡ j = omega (arith, e) in by_cases m x l true false (lt-ltb x m below) (le-ltb l 3 (omega (arith, e))) ∙ ap (PairP x) back

half_name_q : (m g l : ℕ) → l < 3 → list_name m (m + g) l ≡ HalfQ (3 * g + l)
half_name_q m g l half =
    let back : 3 * (m + g - m) + l ≡ 3 * g + l =
    omega arith in by_cases m (m + g) l false true (le-ltb (m + g) m (omega arith)) (lt-ltb l 3 half) ∙ ap HalfQ back

pair_name_q : (m g l j : ℕ) → l ≡ 3 + j → list_name m (m + g) l ≡ PairQ g j
pair_name_q m g l j e =
    let face : m + g - m ≡ g = omega arith in
    let other : l - 3 ≡ j =
    omega (arith, e) in
    by_cases m (m + g) l false false (le-ltb (m + g) m (omega arith)) (le-ltb l 3 (omega (arith, e))) ∙ ap (λ f. PairQ f (l - 3)) face
    ∙ ap (PairQ g) other

-- a source face: its lists are those of its three half-edges, and of its pairs with the faces of the other side
pub record IsFace (p q side : Side) (origin : ℕ → Origin) (x f others : ℕ) (name : ℕ → ListName) : Type 0 where
  pub below : f < length side.triples
  pub halves : (l : ℕ) → l < 3 → IsHalf p q side origin (3 * f + l) (name l)
  pub pairs : (j : ℕ) → IsPair p q (name (3 + j))
  pub listed : (l : ℕ) → l < 3 + others → IsListOf (length p.triples) (length q.triples) (name l)
  pub few : (l : ℕ) → IsListOf (length p.triples) (length q.triples) (name l) → l < 3 + others
  pub lists : lists_of p q x ≡ map name (upto 3) ++ map (λ j. name (3 + j)) (upto others)

-- a list's number is that of a half-edge or of a pair
half_or_pair : (l : ℕ) → (l < 3) ⊎ ((j : ℕ) × (l ≡ 3 + j))
half_or_pair l = elim (cases_lt l 3) as (λ _. (l < 3) ⊎ ((j : ℕ) × (l ≡ 3 + j))) [
  | inl a ↦ inl a
  | inr b ↦ inr (l - 3, omega (arith, b))
]

pub face_of_p : (p q : Side) (f : ℕ) → f < length p.triples → IsFace p q p PVertex f f (length q.triples) (list_name (length p.triples) f)
face_of_p p q f low =
    let m = length p.triples in
    let n = length q.triples in
    let name : ℕ → ListName = list_name m f in
    record {
      below = low;
      halves = λ l a. subst (IsHalf p q p PVertex (3 * f + l)) (sym (half_name_p m f l low a)) (half_p p q (3 * f + l));
      pairs = λ j. subst (IsPair p q) (sym (pair_name_p m f (3 + j) j low refl)) (pair_p p q f j);
      listed = λ l a. elim (half_or_pair l) as (λ _. IsListOf m n (name l)) [
        | inl h ↦ subst (IsListOf m n) (sym (half_name_p m f l low h)) (omega (arith, low, h))
        | inr (j, e) ↦ subst (IsListOf m n) (sym (pair_name_p m f l j low e)) (low, omega (arith, a, e))
      ];
      few = λ l a. elim (half_or_pair l) as (λ _. l < 3 + n) [
        | inl h ↦ omega (arith, h)
        | inr (j, e) ↦ let known = (subst (IsListOf m n) (pair_name_p m f l j low e) a).1 in omega (arith, known, e)
      ];
      lists = ap (λ t. cond t (lists_of_p n f) (lists_of_q m (f - m))) (lt-ltb f m low)
          ∙ ap (λ l. l ++ map (PairP f) (upto n))
          (map-up_from_same (λ i. HalfP (3 * f + i)) name 0 3 (λ i a b. sym (half_name_p m f i low (omega (arith, b)))))
          ∙ ap (λ l. map name (upto 3) ++ l) (map-up_from_same (PairP f) (λ j. name (3 + j)) 0 n (λ j a b. sym (pair_name_p m f (3 + j) j low refl)));
    }

pub face_of_q : (p q : Side) (g : ℕ) → g < length q.triples →
    IsFace p q q QVertex (length p.triples + g) g (length p.triples) (list_name (length p.triples) (length p.triples + g))
face_of_q p q g low =
    let m = length p.triples in
    let n = length q.triples in
    let name : ℕ → ListName = list_name m (m + g) in
    let back : m + g - m ≡ g = omega arith in
    record {
      below = low;
      halves = λ l a. subst (IsHalf p q q QVertex (3 * g + l)) (sym (half_name_q m g l a)) (half_q p q (3 * g + l));
      pairs = λ j. subst (IsPair p q) (sym (pair_name_q m g (3 + j) j refl)) (pair_q p q g j);
      listed = λ l a. elim (half_or_pair l) as (λ _. IsListOf m n (name l)) [
        | inl h ↦ subst (IsListOf m n) (sym (half_name_q m g l h)) (omega (arith, low, h))
        | inr (j, e) ↦ subst (IsListOf m n) (sym (pair_name_q m g l j e)) (low, omega (arith, a, e))
      ];
      few = λ l a. elim (half_or_pair l) as (λ _. l < 3 + m) [
        | inl h ↦ omega (arith, h)
        | inr (j, e) ↦ let known = (subst (IsListOf m n) (pair_name_q m g l j e) a).1 in omega (arith, known, e)
      ];
      lists = ap (λ t. cond t (lists_of_p n (m + g)) (lists_of_q m (m + g - m))) (le-ltb (m + g) m (omega arith))
          ∙ ap (lists_of_q m) back
          ∙ ap (λ l. l ++ map (PairQ g) (upto m))
          (map-up_from_same (λ i. HalfQ (3 * g + i)) name 0 3 (λ i a b. sym (half_name_q m g i (omega (arith, b)))))
          ∙ ap (λ l. map name (upto 3) ++ l) (map-up_from_same (PairQ g) (λ j. name (3 + j)) 0 m (λ j a b. sym (pair_name_q m g (3 + j) j refl)));
    }
