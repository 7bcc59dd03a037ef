-- Prescribed copies name edges by their lower half-edges, and copies of one origin have one sign.
use Rattle.std.proofs.Common.{◌≡◌, ℕ, zero, suc, ◌<◌, inl, inr, Bool, cond, ◌==◌, ◌&&◌, pos, List, [], ◌∷◌, ◌++◌, length, get_or, int_lt, nat_abs, refl, arith, ap, sym, ◌∙◌}
use Rattle.std.specs.List.{All, AllPairs, flat_map}
use Rattle.std.proofs.lemmas.Int.{ints}
use Rattle.std.proofs.lemmas.Bool.{and_from, and_left, and_right, cases_eq, eq-eqb, ne_eqb}
use Rattle.std.proofs.lemmas.List.Elements.{All-append, All-head, All-map, All-nil, All-replicate, All-tail}
use Rattle.chain_terms.specs.Chains.{all_edges}
use Rattle.chain_terms.specs.Sums.{upto}
use Rattle.chain_laws.specs.Sums.{total-same_all, total-zero}
use Rattle.mb_base.specs.declared.op.Op.{Op}
use Rattle.mb_base.specs.declared.results.Hit.{Hit}
use Rattle.mb_base.specs.declared.results.Origin.{Origin}
use Rattle.mb_base.specs.declared.results.Origin.TheVariants.{PVertex, QVertex, PEdge, QEdge}
use Rattle.side_terms.specs.Conservation.{hit_number}
use Rattle.side_terms.specs.Hits.{AreHits, IsBefore}
use Rattle.side_terms.specs.Sides.{Side}
use Rattle.side_terms.specs.Lists.{Copy}
use Rattle.side_terms.specs.Points.{points_of}
use Rattle.side_terms.specs.Prescribed.{Prescription, Numbers, copies_of, copy_of, hit_number_of, p_hits, p_number, p_vertices, prescribed, q_hits, q_number, q_vertices}
use Rattle.source_face_terms.specs.Naming.{AreNamed, NamesLower}
use Rattle.source_face_laws.proofs.FaceLists.{all_upto}

-- another pair than that of the hit
abbrev IsOther : ℕ → ℕ → Hit → Type 0
IsOther e f h = h.edge ≡ e → h.face ≡ f → ⊥

counts_nothing : (e f : ℕ) (h : Hit) → IsOther e f h → cond ((h.edge == e) && (h.face == f)) h.number (pos 0) ≡ pos 0
counts_nothing e f h other = elim (cases_eq h.edge e) as (λ _. cond ((h.edge == e) && (h.face == f)) h.number (pos 0) ≡ pos 0) [
  | inr n ↦ ap (λ t. cond t h.number (pos 0)) (and_left (h.edge == e) (h.face == f) (ne_eqb h.edge e n))
  | inl a ↦ elim (cases_eq h.face f) as (λ _. cond ((h.edge == e) && (h.face == f)) h.number (pos 0) ≡ pos 0) [
    | inl b ↦ absurd (other a b)
    | inr n ↦ ap (λ t. cond t h.number (pos 0)) (and_right (h.edge == e) (h.face == f) (ne_eqb h.face f n))
  ]
]

counts_itself : (h : Hit) → cond ((h.edge == h.edge) && (h.face == h.face)) h.number (pos 0) ≡ h.number
counts_itself h = ap (λ t. cond t h.number (pos 0)) (and_from (h.edge == h.edge) (h.face == h.face) (eq-eqb h.edge h.edge refl) (eq-eqb h.face h.face refl))

no_number : (e f : ℕ) (hs : List Hit) → All (IsOther e f) hs → hit_number hs e f ≡ pos 0
no_number e f hs others =
    total-same_all (λ h. cond ((h.edge == e) && (h.face == f)) h.number (pos 0)) (λ h. pos 0) hs
    (λ k d below. counts_nothing e f (get_or hs k d) (others k d below)) ∙ total-zero hs

-- a hit and a later one are of two pairs
differs : (h k : Hit) → IsBefore h k → h.edge ≡ k.edge → h.face ≡ k.face → ⊥
differs h k (inl l) e f = omega (arith, l, e)
differs h k (inr l) e f = omega (arith, l.1, f)

-- so the number of a listed hit's pair is its own
listed_number : (hs : List Hit) → AllPairs IsBefore hs → (k : ℕ) (d : Hit) → k < length hs → hit_number hs (get_or hs k d).edge (get_or hs k d).face ≡ (get_or hs k d).number
listed_number [] up k d below = absurd (omega (arith, below))
listed_number (h ∷ hs) up zero d below =
    let others : All (IsOther h.edge h.face) hs = λ i c l e f. differs h (get_or hs i c) (up 0 (suc i) c (omega arith) (omega (arith, l))) (sym e) (sym f) in
    omega (arith, ints, counts_itself h, no_number h.edge h.face hs others)
listed_number (h ∷ hs) up (suc k) d below =
    let here = get_or hs k d in
    let other : IsOther here.edge here.face h = differs h here (up 0 (suc k) d (omega arith) below) in
    let rest = listed_number hs (λ i j c l m. up (suc i) (suc j) c (omega (arith, l)) (omega (arith, m))) k d (omega (arith, below)) in
    omega (arith, ints, counts_nothing here.edge here.face h other, rest)

-- what holds of a copy of each that is prescribed holds of all copies
all_copies : (P : Copy → Type 0) (is : List Prescription) → All (λ i. P (copy_of i)) is → All P (flat_map copies_of is)
all_copies P [] h = All-nil P
all_copies P (i ∷ is) h =
    All-append P (copies_of i) (flat_map copies_of is) (All-replicate P (nat_abs i.number) (copy_of i) (All-head (λ k. P (copy_of k)) i is h))
    (all_copies P is (All-tail (λ k. P (copy_of k)) i is h))

-- whether what a copy comes from is prescribed a negative number of times
abbrev sign_of : Op → Numbers → Origin → Bool
sign_of op n (PVertex v) = int_lt (p_number op (get_or n.w03 v (pos 0))) (pos 0)
sign_of op n (QVertex v) = int_lt (q_number op (get_or n.w30 v (pos 0))) (pos 0)
sign_of op n (PEdge e face) = int_lt (hit_number_of op (hit_number n.x12 e face)) (pos 0)
sign_of op n (QEdge e face) = int_lt (hit_number_of op (hit_number n.x21 e face)) (pos 0)

-- a copy that is named as it should be
record IsNamed (op : Op) (p q : Side) (n : Numbers) (c : Copy) : Type 0 where
  lower : NamesLower p q c.origin
  signed : c.negative ≡ sign_of op n c.origin

all_named : (op : Op) (p q : Side) (n : Numbers) → AreHits (all_edges p.triples) (length q.triples) n.x12 →
    AreHits (all_edges q.triples) (length p.triples) n.x21 → All (IsNamed op p q n) (prescribed op p q n)
all_named op p q n x12 x21 =
    let Good : Copy → Type 0 = IsNamed op p q n in
    let I : Prescription → Type 0 = λ i. Good (copy_of i) in
    let pv = p_vertices op p n in
    let qv = q_vertices op q n in
    let ph = p_hits op n in
    let qh = q_hits op n in
    let of_p : ℕ → Prescription = λ v. record { origin = PVertex v; number = p_number op (get_or n.w03 v (pos 0)); point = get_or (points_of p.corners) v [] } in
    let of_q : ℕ → Prescription = λ v. record { origin = QVertex v; number = q_number op (get_or n.w30 v (pos 0)); point = get_or (points_of q.corners) v [] } in
    let crossing_p : Hit → Prescription = λ h. record { origin = PEdge h.edge h.face; number = hit_number_of op h.number; point = h.at } in
    let crossing_q : Hit → Prescription = λ h. record { origin = QEdge h.edge h.face; number = hit_number_of op h.number; point = h.at } in
    let all_pv : All I pv = All-map I of_p (upto (length p.corners)) (all_upto (λ v. I (of_p v)) (length p.corners) (λ v below. record { lower = tt; signed = refl })) in
    let all_qv : All I qv = All-map I of_q (upto (length q.corners)) (all_upto (λ v. I (of_q v)) (length q.corners) (λ v below. record { lower = tt; signed = refl })) in
    let all_ph : All I ph = All-map I crossing_p n.x12 (λ k d below. record {
      lower = (x12.on_edges k d below).1;
      signed = ap (λ z. int_lt (hit_number_of op z) (pos 0)) (sym (listed_number n.x12 x12.ascending k d below));
    }) in
    let all_qh : All I qh = All-map I crossing_q n.x21 (λ k d below. record {
      lower = (x21.on_edges k d below).1;
      signed = ap (λ z. int_lt (hit_number_of op z) (pos 0)) (sym (listed_number n.x21 x21.ascending k d below));
    }) in
    all_copies Good (pv ++ (qv ++ (ph ++ qh))) (All-append I pv (qv ++ (ph ++ qh)) all_pv (All-append I qv (ph ++ qh) all_qv (All-append I ph qh all_ph all_qh)))

pub are_named : (op : Op) (p q : Side) (n : Numbers) → AreHits (all_edges p.triples) (length q.triples) n.x12 →
    AreHits (all_edges q.triples) (length p.triples) n.x21 → AreNamed p q (prescribed op p q n)
are_named op p q n x12 x21 =
    let cs = prescribed op p q n in
    let named = all_named op p q n x12 x21 in
    record { lower = λ k d below. (named k d below).lower; sign = sign_of op n; signed = λ k d below. (named k d below).signed }
