-- The origins of prescribed vertices are vertices and hits of the two sides.
use Rattle.std.proofs.Common.{◌≡◌, ℕ, suc, ◌<◌, inl, inr, Bool, true, ℤ, pos, List, [], ◌∷◌, ◌++◌, length, get_or, nat_abs, arith}
use Rattle.std.specs.List.{All, flat_map, list_any}
use Rattle.std.proofs.lemmas.Bool.{or_cases}
use Rattle.std.proofs.lemmas.List.Elements.{All-append, All-from_get_or, All-head, All-map, All-nil, All-replicate, All-tail, All-weaker}
use Rattle.chain_terms.specs.Chains.{all_edges}
use Rattle.chain_terms.specs.Sums.{upto}
use Rattle.chain_laws.proofs.Places.{get_or-up_from, length-up_from}
use Rattle.mb_base.specs.declared.op.Op.{Op}
use Rattle.mb_base.specs.declared.results.Hit.{Hit}
use Rattle.mb_base.specs.declared.results.Origin.{Origin}
use Rattle.mb_base.specs.declared.results.Origin.TheVariants.{PVertex, QVertex, PEdge, QEdge}
use Rattle.side_terms.specs.Hits.{AreHits}
use Rattle.side_terms.specs.Sides.{Side}
use Rattle.side_terms.specs.Points.{points_of}
use Rattle.side_terms.specs.Prescribed.{Prescription, Numbers, copies_of, hit_number_of, prescribed_hits, prescribed_vertices, p_hits, p_number, p_vertices, prescribed, q_hits, q_number, q_vertices}

-- a vertex of a side, or an edge of one and a face of the other
abbrev pub IsFrom : Side → Side → Origin → Type 0
IsFrom p q (PVertex v) = v < length p.corners
IsFrom p q (QVertex v) = v < length q.corners
IsFrom p q (PEdge e g) = (e < length (all_edges p.triples)) × (g < length q.triples)
IsFrom p q (QEdge e f) = (e < length (all_edges q.triples)) × (f < length p.triples)

-- what holds of all that is prescribed holds of all copies
all_copies : (P : Origin → Type 0) (is : List Prescription) → All (λ i. P i.origin) is → All (λ c. P c.origin) (flat_map copies_of is)
all_copies P [] h = All-nil (λ c. P c.origin)
all_copies P (i ∷ is) h =
    All-append (λ c. P c.origin) (copies_of i) (flat_map copies_of is)
    (All-replicate (λ c. P c.origin) (nat_abs i.number) (record { origin = i.origin; negative = _; point = i.point }) (All-head (λ k. P k.origin) i is h))
    (all_copies P is (All-tail (λ k. P k.origin) i is h))

-- the numbers below n are
upto_below : (n : ℕ) → All (λ v. v < n) (upto n)
upto_below n = All-from_get_or (λ v. v < n) (upto n) 0 (λ i l. let below : i < n = omega (arith, length-up_from 0 n, l) in omega (arith, get_or-up_from 0 n i 0 below, below))

-- vertices
all_vertices : (P : Origin → Type 0) (origin : ℕ → Origin) (number : ℤ → ℤ) (ws : List ℤ) (ps : List (List ℤ)) (n : ℕ) → ((v : ℕ) → v < n → P (origin v)) →
    All (λ i. P i.origin) (prescribed_vertices origin number ws ps n)
all_vertices P origin number ws ps n h =
    All-map (λ i. P i.origin) (λ v. record { origin = origin v; number = number (get_or ws v (pos 0)); point = get_or ps v [] }) (upto n)
    (All-weaker (λ v. v < n) (λ v. P (origin v)) h (upto n) (upto_below n))

-- hits
all_hits : (P : Origin → Type 0) (origin : ℕ → ℕ → Origin) (number : ℤ → ℤ) (hs : List Hit) → All (λ h. P (origin h.edge h.face)) hs →
    All (λ i. P i.origin) (prescribed_hits origin number hs)
all_hits P origin number hs h = All-map (λ i. P i.origin) (λ k. record { origin = origin k.edge k.face; number = number k.number; point = k.at }) hs h

-- the edge and the face of each hit
on_both : (es : List (ℕ × ℕ)) (faces : ℕ) (hs : List Hit) → AreHits es faces hs → All (λ h. (h.edge < length es) × (h.face < faces)) hs
on_both es faces hs known i d l = ((known.on_edges i d l).0, known.on_faces i d l)

-- so all are of the two sides
pub all_from : (op : Op) (p q : Side) (n : Numbers) → AreHits (all_edges p.triples) (length q.triples) n.x12 → AreHits (all_edges q.triples) (length p.triples) n.x21 →
    All (λ c. IsFrom p q c.origin) (prescribed op p q n)
all_from op p q n x12 x21 =
    let P : Origin → Type 0 = IsFrom p q in
    let I : Prescription → Type 0 = λ i. P i.origin in
    let pv = p_vertices op p n in
    let qv = q_vertices op q n in
    let ph = p_hits op n in
    let qh = q_hits op n in
    all_copies P (pv ++ (qv ++ (ph ++ qh)))
    (All-append I pv (qv ++ (ph ++ qh)) (all_vertices P PVertex (p_number op) n.w03 (points_of p.corners) (length p.corners) (λ v l. l))
    (All-append I qv (ph ++ qh) (all_vertices P QVertex (q_number op) n.w30 (points_of q.corners) (length q.corners) (λ v l. l))
    (All-append I ph qh (all_hits P PEdge (hit_number_of op) n.x12 (on_both (all_edges p.triples) (length q.triples) n.x12 x12))
    (all_hits P QEdge (hit_number_of op) n.x21 (on_both (all_edges q.triples) (length p.triples) n.x21 x21)))))

-- where a test holds somewhere, a member passes
pub record Passes {X : Type 0} (p : X → Bool) (xs : List X) (d : X) : Type 0 where
  pub place : ℕ
  pub within : place < length xs
  pub holds : p (get_or xs place d) ≡ true

pub passes : {X : Type 0} (p : X → Bool) (xs : List X) (d : X) → list_any p xs ≡ true → Passes p xs d
passes p [] d h = cc
passes p (x ∷ xs) d h = elim (or_cases (p x) (list_any p xs) h) as (λ _. Passes p (x ∷ xs) d) [
  | inl y ↦ record { place = 0; within = omega arith; holds = y }
  | inr n ↦ let later = passes p xs d n in record { place = suc later.place; within = omega (arith, later.within); holds = later.holds }
]
