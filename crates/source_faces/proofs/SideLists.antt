-- Records of hits are of lists of the two sides, where the hits are of their edges and faces.
use Rattle.std.proofs.Common.{◌≡◌, ◌⊎◌, ℕ, zero, suc, ◌+◌, ◌*◌, ◌<◌, inl, inr, Bool, true, false, cond, ◌==◌, ℤ, pos}
use Rattle.std.proofs.Common.{negsuc, neg_ℤ, ◌+ℤ◌, ◌-ℤ◌, List, length, get_or, refl, ap, ◌∙◌, arith}
use Rattle.std.specs.List.{All}
use Rattle.std.proofs.lemmas.Bool.{cases_eq, ne_eqb}
use Rattle.std.proofs.lemmas.Int.{ints}
use Rattle.std.proofs.lemmas.List.Elements.{Contains-get_or}
use Rattle.chain_terms.specs.Chains.{all_edges}
use Rattle.chain_terms.specs.Ranks.{twin}
use Rattle.chain_laws.proofs.Twins.{twin_runs_back}
use Rattle.mb_base.specs.declared.op.Op.{Op}
use Rattle.mb_base.specs.declared.results.Origin.{Origin}
use Rattle.mb_base.specs.declared.results.Origin.TheVariants.{PEdge, PVertex, QEdge, QVertex}
use Rattle.side_terms.specs.Hits.{AreHits}
use Rattle.side_terms.specs.Sides.{IsSide, Side}
use Rattle.halfedge.proofs.Edges.{length-all_edges}
use Rattle.side_terms.specs.Lists.{Copy, HalfP, HalfQ, IsListOf, ListName, PairP, PairQ, at_same, incidence, no_copy, way, way_round}
use Rattle.side_terms.specs.Prescribed.{Numbers, prescribed}
use Rattle.retained_verts.proofs.Origins.{IsFrom, all_from}
use Rattle.source_faces.specs.declared.lists.stands.Stand.{Stand}
use Rattle.source_faces.specs.Agreement.{AreStandsOf, IsHitCopy, list_name}
use Rattle.source_faces.proofs.Signs.{apart_at, no_side}

-- a half-edge is one of an edge's two, or does not stand along it
is_one : (es : List (ℕ × ℕ)) (h e : ℕ) → (way es h e ≡ pos 0 → ⊥) → (h ≡ e) ⊎ (h ≡ twin es e)
is_one es h e some = elim (cases_eq h e) as (λ _. (h ≡ e) ⊎ (h ≡ twin es e)) [
  | inl a ↦ inl a
  | inr d ↦ elim (cases_eq h (twin es e)) as (λ _. (h ≡ e) ⊎ (h ≡ twin es e)) [
    | inl b ↦ inr b
    | inr f ↦ absurd (some (ap (λ z. z -ℤ at_same h (twin es e)) (apart_at h e d) ∙ ap (λ z. pos 0 -ℤ z) (apart_at h (twin es e) f)))
  ]
]

-- both are of the side
half_known : (side : Side) → IsSide side → (h e : ℕ) → e < length (all_edges side.triples) →
    (way (all_edges side.triples) h e ≡ pos 0 → ⊥) → h < 3 * length side.triples
half_known side known h e low some =
    let es = all_edges side.triples in
    elim (is_one es h e some) as (λ _. h < 3 * length side.triples) [
      | inl a ↦ omega (arith, a, low, length-all_edges side.triples)
      | inr b ↦ let back = (twin_runs_back es known.accepted.closed e low).within in omega (arith, b, back, length-all_edges side.triples)
    ]

-- and so is a face round which the edge runs
face_known : (side : Side) → IsSide side → (f e : ℕ) → e < length (all_edges side.triples) →
    (way_round (all_edges side.triples) f e ≡ pos 0 → ⊥) → f < length side.triples
face_known side known f e low some =
    let es = all_edges side.triples in
    let Known : Type 0 = f < length side.triples in
    let at : (i : ℕ) → ((way es (3 * f + i) e ≡ pos 0) → ⊥) → Known = λ i d. let h = half_known side known (3 * f + i) e low d in omega (arith, h) in
    by_ways Known (way es (3 * f + 0) e) (way es (3 * f + 1) e) (way es (3 * f + 2) e) (at 0) (at 1) (at 2) some
  where
    nothing : (z : ℤ) → (z ≡ pos 0) ⊎ ((z ≡ pos 0) → ⊥)
    nothing (pos zero) = inl refl
    nothing (pos (suc n)) = inr (λ e. omega (arith, ints, e))
    nothing (negsuc n) = inr (λ e. omega (arith, ints, e))

    by_ways : (K : Type 0) (x y z : ℤ) → ((x ≡ pos 0 → ⊥) → K) → ((y ≡ pos 0 → ⊥) → K) → ((z ≡ pos 0 → ⊥) → K) →
        ((x +ℤ (y +ℤ (z +ℤ pos 0)) ≡ pos 0) → ⊥) → K
    by_ways K x y z a b c some = elim (nothing x) as (λ _. K) [
      | inr d ↦ a d
      | inl e ↦ elim (nothing y) as (λ _. K) [
        | inr d ↦ b d
        | inl f ↦ elim (nothing z) as (λ _. K) [
          | inr d ↦ c d
          | inl g ↦ absurd (some (omega (arith, ints, e, f, g)))
        ]
      ]
    ]

-- a choice that is not 0
choice : (a b : ℕ) (z : ℤ) → (cond (a == b) z (pos 0) ≡ pos 0 → ⊥) → (a ≡ b) × (z ≡ pos 0 → ⊥)
choice a b z some = elim (cases_eq a b) as (λ _. (a ≡ b) × (z ≡ pos 0 → ⊥)) [
  | inl e ↦ (e, λ none. some (ap (λ y. cond (a == b) y (pos 0)) none ∙ both (a == b)))
  | inr d ↦ absurd (some (ap (λ t. cond t z (pos 0)) (ne_eqb a b d)))
]
  where
    both : (t : Bool) → cond t (pos 0) (pos 0) ≡ pos 0
    both true = refl
    both false = refl

-- where a hit stands in a list, that is one of the two sides
pub of_sides : (p q : Side) → IsSide p → IsSide q → (name : ListName) (o : Origin) → IsFrom p q o → IsHitCopy o →
    (incidence (all_edges p.triples) (all_edges q.triples) name o ≡ pos 0 → ⊥) →
    IsListOf (length p.triples) (length q.triples) name
of_sides p q known other name (PVertex v) from hit some = absurd hit
of_sides p q known other name (QVertex v) from hit some = absurd hit
of_sides p q known other (HalfP h) (PEdge e face) from hit some = half_known p known h e from.0 (λ z. some (ap neg_ℤ z))
of_sides p q known other (HalfQ h) (PEdge e face) from hit some = absurd (some refl)
of_sides p q known other (PairP f g) (PEdge e face) from hit some =
    let r = choice face g (way_round (all_edges p.triples) f e) some in
    let face_low = from.1 in
    let same = r.0 in (face_known p known f e from.0 r.1, omega (arith, face_low, same))
of_sides p q known other (PairQ g f) (PEdge e face) from hit some =
    let r = choice face g (way_round (all_edges p.triples) f e) (λ z. some (ap neg_ℤ z)) in
    let face_low = from.1 in
    let same = r.0 in (omega (arith, face_low, same), face_known p known f e from.0 r.1)
of_sides p q known other (HalfP h) (QEdge e face) from hit some = absurd (some refl)
of_sides p q known other (HalfQ h) (QEdge e face) from hit some = half_known q other h e from.0 (λ z. some (ap neg_ℤ z))
of_sides p q known other (PairP f g) (QEdge e face) from hit some =
    let r = choice face f (neg_ℤ (way_round (all_edges q.triples) g e)) some in
    let face_low = from.1 in
    let same = r.0 in (omega (arith, face_low, same), face_known q other g e from.0 (λ z. r.1 (ap neg_ℤ z)))
of_sides p q known other (PairQ g f) (QEdge e face) from hit some =
    let r = choice face f (neg_ℤ (way_round (all_edges q.triples) g e)) (λ z. some (ap neg_ℤ z)) in
    let face_low = from.1 in
    let same = r.0 in (face_known q other g e from.0 (λ z. r.1 (ap neg_ℤ z)), omega (arith, face_low, same))

-- records of which each is of a list of the two sides
abbrev pub AreListed : Side → Side → List Stand → Type 0
AreListed p q stands = All (λ s. IsListOf (length p.triples) (length q.triples) (list_name (length p.triples) s.face s.list)) stands

-- so are all, where all copies are of the two sides
pub are_listed : (p q : Side) (cs : List Copy) (stands : List Stand) → IsSide p → IsSide q →
    AreStandsOf (all_edges p.triples) (all_edges q.triples) (length p.triples) cs stands →
    All (λ c. IsFrom p q c.origin) cs → AreListed p q stands
are_listed p q cs stands known other records from i d l =
    let s = get_or stands i d in
    let says = records.only s (Contains-get_or stands i d l) in
    let c = get_or cs s.copy no_copy in
    let name = list_name (length p.triples) s.face s.list in
    let z = incidence (all_edges p.triples) (all_edges q.triples) name c.origin in
    of_sides p q known other name c.origin (from s.copy no_copy says.0) says.1 (λ none. no_side c.negative s.start z none says.2)

-- those of the prescribed copies
pub prescribed_listed : (op : Op) (p q : Side) (n : Numbers) → IsSide p → IsSide q →
    AreHits (all_edges p.triples) (length q.triples) n.x12 → AreHits (all_edges q.triples) (length p.triples) n.x21 →
    (stands : List Stand) → AreStandsOf (all_edges p.triples) (all_edges q.triples) (length p.triples) (prescribed op p q n) stands →
    AreListed p q stands
prescribed_listed op p q n known other x12 x21 stands records =
    are_listed p q (prescribed op p q n) stands known other records (all_from op p q n x12 x21)
