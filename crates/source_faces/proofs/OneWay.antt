-- In one list of one source face a copy of a hit stands one way.
use Rattle.std.proofs.Common.{◌≡◌, ◌≢◌, ℕ, zero, suc, ◌+◌, ◌/◌, ◌%◌, ◌<◌, ◌≤◌, ◌==◌, nat_lt, List, [], ◌∷◌, ◌++◌}
use Rattle.std.proofs.Common.{Bool, true, false, not, cond, length, get_or, nat_abs, int_lt, pos, refl, sym, ap, ◌∙◌}
use Rattle.std.proofs.Common.{arith, inl, inr}
use Rattle.std.specs.List.{All, Contains}
use Rattle.std.proofs.lemmas.Bool.Decides.{nat_tests}
use Rattle.std.proofs.lemmas.List.Elements.{All-append, All-cons, All-contains, All-head, All-nil, All-tail, All-weaker, Contains-append_cases}
use Rattle.std.proofs.lemmas.List.Sums.{sum_by-cons}
use Rattle.chain_terms.specs.Chains.{all_edges}
use Rattle.chain_terms.specs.Ranks.{twin}
use Rattle.side_terms.specs.Prescribed.{hit_count, hit_number_of}
use Rattle.mb_base.specs.declared.op.Op.{Op}
use Rattle.mb_base.specs.declared.results.Hit.{Hit}
use Rattle.mesh_terms.specs.Meshes.{Triple}
use Rattle.side_terms.specs.Hits.{AreHits}
use Rattle.side_terms.specs.Sides.{IsSide, Side}
use Rattle.halfedge.specs.Laws.{PairUp}
use Rattle.halfedge.proofs.Around.{pair_up}
use Rattle.halfedge.proofs.Edges.{length-all_edges}
use Rattle.source_faces.specs.Stands.{all_stands, copy_stands, hit_stands, one_hit_stands, six_stands}
use Rattle.source_faces.specs.declared.lists.stands.Stand.{Stand}
use Rattle.source_faces.proofs.Tests.{not_same, same}

-- the two triangles of an edge, and the face that it crosses, are three source faces
pub record AreThree (own other lower upper face : ℕ) : Type 0 where
  pub apart : lower / 3 ≢ upper / 3
  pub first : own + lower / 3 ≢ other + face
  pub second : own + upper / 3 ≢ other + face

-- whether a copy starts in a list of a source face
abbrev way : (own lower upper face : ℕ) → Bool → ℕ → ℕ → Bool
way own lower upper face positive x l =
    cond (nat_lt l 3) (cond (x == own + lower / 3) (not positive) positive)
    (cond (x == own + lower / 3) positive (cond (x == own + upper / 3) (not positive) (cond (l == 3 + lower / 3) (not positive) positive)))

-- the record stands so
abbrev StandsSo : (ℕ → ℕ → Bool) → Stand → Type 0
StandsSo g s = s.start ≡ g s.face s.list

-- what holds of each of six
all_six : (P : Stand → Type 0) (a b c d e f : Stand) → P a → P b → P c → P d → P e → P f → All P (a ∷ b ∷ c ∷ d ∷ e ∷ f ∷ [])
all_six P a b c d e f pa pb pc pd pe pf =
    All-cons P a (b ∷ c ∷ d ∷ e ∷ f ∷ []) pa
    (All-cons P b (c ∷ d ∷ e ∷ f ∷ []) pb
    (All-cons P c (d ∷ e ∷ f ∷ []) pc (All-cons P d (e ∷ f ∷ []) pd (All-cons P e (f ∷ []) pe (All-cons P f [] pf (All-nil P))))))

-- what holds of the six records of a copy
of_six : (P : Stand → Type 0) (own other lower upper face : ℕ) (positive : Bool) (v : ℕ) →
    P (record { face = own + lower / 3; list = lower % 3; copy = v; start = not positive }) →
    P (record { face = own + upper / 3; list = upper % 3; copy = v; start = positive }) →
    P (record { face = own + lower / 3; list = 3 + face; copy = v; start = positive }) →
    P (record { face = own + upper / 3; list = 3 + face; copy = v; start = not positive }) →
    P (record { face = other + face; list = 3 + lower / 3; copy = v; start = not positive }) →
    P (record { face = other + face; list = 3 + upper / 3; copy = v; start = positive }) →
    All P (six_stands own other lower upper face positive v)
of_six P own other lower upper face positive v = all_six P _ _ _ _ _ _

-- the six records of a copy stand so
six_so : (own other lower upper face : ℕ) (positive : Bool) (v : ℕ) → AreThree own other lower upper face →
    All (StandsSo (way own lower upper face positive)) (six_stands own other lower upper face positive v)
six_so own other lower upper face positive v three =
    let low : nat_lt (lower % 3) 3 ≡ true = grind (arith, nat_tests) in
    let up : nat_lt (upper % 3) 3 ≡ true = grind (arith, nat_tests) in
    let pair : (g : ℕ) → nat_lt (3 + g) 3 ≡ false = λ g. grind (arith, nat_tests) in
    let second : (own + upper / 3 == own + lower / 3) ≡ false = not_same (own + upper / 3) (own + lower / 3) (λ e. three.apart (omega (arith, e))) in
    let not_first : (other + face == own + lower / 3) ≡ false = not_same (other + face) (own + lower / 3) (λ e. three.first (sym e)) in
    let not_second : (other + face == own + upper / 3) ≡ false = not_same (other + face) (own + upper / 3) (λ e. three.second (sym e)) in
    let other_pair : (3 + upper / 3 == 3 + lower / 3) ≡ false = not_same (3 + upper / 3) (3 + lower / 3) (λ e. three.apart (omega (arith, e))) in
    of_six (StandsSo (way own lower upper face positive)) own other lower upper face positive v
    (rw (low, same (own + lower / 3)) refl) (rw (up, second) refl)
    (rw (pair face, same (own + lower / 3)) refl) (rw (pair face, second, same (own + upper / 3)) refl)
    (rw (pair (lower / 3), not_first, not_second, same (3 + lower / 3)) refl) (rw (pair (upper / 3), not_first, not_second, other_pair) refl)

-- so do those of all copies of a hit
pub copies_so : (own other lower upper face : ℕ) (positive : Bool) (k n : ℕ) → AreThree own other lower upper face →
    All (StandsSo (way own lower upper face positive)) (copy_stands own other lower upper face positive k n)
copies_so own other lower upper face positive k zero three = All-nil (StandsSo (way own lower upper face positive))
copies_so own other lower upper face positive k (suc n) three =
    All-append (StandsSo (way own lower upper face positive)) (six_stands own other lower upper face positive k)
    (copy_stands own other lower upper face positive (suc k) n)
    (six_so own other lower upper face positive k three) (copies_so own other lower upper face positive (suc k) n three)

-- the record is of a copy with a number from k on, and below m
abbrev pub IsFrom : ℕ → ℕ → Stand → Type 0
IsFrom k m s = (k ≤ s.copy) × (s.copy < m)

from_wider : (k m i n : ℕ) (ss : List Stand) → i ≤ k → m ≤ n → All (IsFrom k m) ss → All (IsFrom i n) ss
from_wider k m i n ss low high all = All-weaker (IsFrom k m) (IsFrom i n) (λ s f. (omega (arith, low, f.0), omega (arith, high, f.1))) ss all

six_from : (own other lower upper face : ℕ) (positive : Bool) (v : ℕ) → All (IsFrom v (v + 1)) (six_stands own other lower upper face positive v)
six_from own other lower upper face positive v =
    let here : (v ≤ v) × (v < v + 1) =
    (omega arith, omega arith) in of_six (IsFrom v (v + 1)) own other lower upper face positive v here here here here here here

copies_from : (own other lower upper face : ℕ) (positive : Bool) (k n : ℕ) →
    All (IsFrom k (k + n)) (copy_stands own other lower upper face positive k n)
copies_from own other lower upper face positive k zero = All-nil (IsFrom k (k + 0))
copies_from own other lower upper face positive k (suc n) =
    let six = six_stands own other lower upper face positive k in
    let later = copy_stands own other lower upper face positive (suc k) n in
    All-append (IsFrom k (k + suc n)) six later
    (from_wider k (k + 1) k (k + suc n) six (omega arith) (omega arith) (six_from own other lower upper face positive k))
    (from_wider (suc k) (suc k + n) k (k + suc n) later (omega arith) (omega arith) (copies_from own other lower upper face positive (suc k) n))

-- those of all hits are of copies k, .., as many as these have
pub hits_from : (op : Op) (es : List (ℕ × ℕ)) (own other k : ℕ) (hs : List Hit) →
    All (IsFrom k (k + hit_count op hs)) (hit_stands op es own other k hs)
hits_from op es own other k [] = All-nil (IsFrom k (k + 0))
hits_from op es own other k (h ∷ hs) =
    let size = nat_abs (hit_number_of op h.number) in
    let sum = sum_by-cons (λ (g : Hit). nat_abs (hit_number_of op g.number)) h hs in
    let one = one_hit_stands op es own other k h in
    let later = hit_stands op es own other (k + size) hs in
    All-append (IsFrom k (k + hit_count op (h ∷ hs))) one later
    (from_wider k (k + size) k (k + hit_count op (h ∷ hs)) one (omega arith) (omega (arith, sum))
    (copies_from own other h.edge (twin es h.edge) h.face (int_lt (pos 0) (hit_number_of op h.number)) k size))
    (from_wider (k + size) (k + size + hit_count op hs) k (k + hit_count op (h ∷ hs)) later (omega arith) (omega (arith, sum))
    (hits_from op es own other (k + size) hs))

-- a copy stands one way in a list of a face
abbrev pub IsOneWay : List Stand → Type 0
IsOneWay ss = (s t : Stand) → Contains ss s → Contains ss t → s.face ≡ t.face → s.list ≡ t.list → s.copy ≡ t.copy → s.start ≡ t.start

-- where the way is told by the face and the list
one_way_so : (g : ℕ → ℕ → Bool) (ss : List Stand) → All (StandsSo g) ss → IsOneWay ss
one_way_so g ss all s t a b face list copy =
    All-contains (StandsSo g) ss s all a ∙ ap (λ x. g x s.list) face ∙ ap (g t.face) list ∙ sym (All-contains (StandsSo g) ss t all b)

-- records of earlier copies and of later ones
one_way-append : (m : ℕ) (ss ts : List Stand) → IsOneWay ss → IsOneWay ts → All (λ s. s.copy < m) ss → All (λ t. m ≤ t.copy) ts → IsOneWay (ss ++ ts)
one_way-append m ss ts left right low high s t a b face list copy = elim (Contains-append_cases ss ts s a) as (λ _. s.start ≡ t.start) [
  | inl x ↦ elim (Contains-append_cases ss ts t b) as (λ _. s.start ≡ t.start) [
    | inl y ↦ left s t x y face list copy
    | inr y ↦ absurd (omega (arith, All-contains (λ (r : Stand). r.copy < m) ss s low x, All-contains (λ (r : Stand). m ≤ r.copy) ts t high y, copy))
  ]
  | inr x ↦ elim (Contains-append_cases ss ts t b) as (λ _. s.start ≡ t.start) [
    | inl y ↦ absurd (omega (arith, All-contains (λ (r : Stand). r.copy < m) ss t low y, All-contains (λ (r : Stand). m ≤ r.copy) ts s high x, copy))
    | inr y ↦ right s t x y face list copy
  ]
]

-- records of copies up to m, and of those from m on
one_way_from : (k m n : ℕ) (ss ts : List Stand) → IsOneWay ss → IsOneWay ts → All (IsFrom k m) ss → All (IsFrom m n) ts → IsOneWay (ss ++ ts)
one_way_from k m n ss ts left right low high =
    one_way-append m ss ts left right (All-weaker (IsFrom k m) (λ s. s.copy < m) (λ s f. f.1) ss low)
    (All-weaker (IsFrom m n) (λ t. m ≤ t.copy) (λ t f. f.0) ts high)

-- the edge and the face of each hit are of three source faces
abbrev pub AllThree : List (ℕ × ℕ) → (own other : ℕ) → List Hit → Type 0
AllThree es own other hs = All (λ h. AreThree own other h.edge (twin es h.edge) h.face) hs

-- the records of hits
pub hits_one_way : (op : Op) (es : List (ℕ × ℕ)) (own other k : ℕ) (hs : List Hit) → AllThree es own other hs →
    IsOneWay (hit_stands op es own other k hs)
hits_one_way op es own other k [] three = λ s t a b face list copy. absurd (omega (arith, a.1))
hits_one_way op es own other k (h ∷ hs) three =
    let size = nat_abs (hit_number_of op h.number) in
    let positive = int_lt (pos 0) (hit_number_of op h.number) in
    let P : Hit → Type 0 = λ g. AreThree own other g.edge (twin es g.edge) g.face in
    one_way_from k (k + size) (k + size + hit_count op hs) (one_hit_stands op es own other k h) (hit_stands op es own other (k + size) hs)
    (one_way_so (way own h.edge (twin es h.edge) h.face positive) (one_hit_stands op es own other k h)
    (copies_so own other h.edge (twin es h.edge) h.face positive k size (All-head P h hs three)))
    (hits_one_way op es own other (k + size) hs (All-tail P h hs three))
    (copies_from own other h.edge (twin es h.edge) h.face positive k size) (hits_from op es own other (k + size) hs)

-- hits of a mesh's edges with faces that have other numbers than its own
pub hits_three : (ts : List Triple) (own other faces : ℕ) (hs : List Hit) → PairUp (all_edges ts) → AreHits (all_edges ts) faces hs →
    ((x y : ℕ) → x < length ts → y < faces → own + x ≢ other + y) → AllThree (all_edges ts) own other hs
hits_three ts own other faces hs pair are clear i d below =
    let es = all_edges ts in
    let h = get_or hs i d in
    let inside : h.edge < length es = (are.on_edges i d below).0 in
    let back : twin es h.edge < length es = (pair.run_back h.edge inside).within in
    let face : h.face < faces = are.on_faces i d below in
    record {
      apart = λ e. pair.other h.edge inside (sym e);
      first = clear (h.edge / 3) h.face (omega (arith, inside, length-all_edges ts)) face;
      second = clear (twin es h.edge / 3) h.face (omega (arith, back, length-all_edges ts)) face;
    }

-- the records of the hits of both sides' edges
pub all_one_way : (op : Op) (p q : Side) (x12 x21 : List Hit) (k : ℕ) → IsSide p → IsSide q →
    AreHits (all_edges p.triples) (length q.triples) x12 → AreHits (all_edges q.triples) (length p.triples) x21 →
    IsOneWay (all_stands op p q x12 x21 k)
all_one_way op p q x12 x21 k p_side q_side of_p of_q =
    let n = length p.triples in
    let m = k + hit_count op x12 in
    let p_pair = pair_up p.triples p_side.accepted.mesh.three p_side.accepted.closed in
    let q_pair = pair_up q.triples q_side.accepted.mesh.three q_side.accepted.closed in
    one_way_from k m (m + hit_count op x21) (hit_stands op (all_edges p.triples) 0 n k x12) (hit_stands op (all_edges q.triples) n 0 m x21)
    (hits_one_way op (all_edges p.triples) 0 n k x12 (hits_three p.triples 0 n (length q.triples) x12 p_pair of_p (λ x y a b e. omega (arith, a, e))))
    (hits_one_way op (all_edges q.triples) n 0 m x21 (hits_three q.triples n 0 n x21 q_pair of_q (λ x y a b e. omega (arith, b, e))))
    (hits_from op (all_edges p.triples) 0 n k x12) (hits_from op (all_edges q.triples) n 0 m x21)
