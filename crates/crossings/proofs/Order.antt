-- All hits are in order, of lower half-edges and faces, with numbers that may be listed.
use Rattle.std.proofs.Common.{◌≡◌, ◌≢◌, ℕ, ℤ, pos, negsuc, ◌≤ℤ◌, zero, suc, ◌+◌, ◌<◌, ◌≤◌, List, [], ◌∷◌, ◌++◌, Option, Some, None, Bool, true, nat_lt, filter, length, get_or, refl, arith, inl, inr, sym, ap, ◌∙◌, subst, IfSome}
use Rattle.std.specs.List.{All, AllPairs, cons_option, filter_map, flat_map}
use Rattle.std.proofs.lemmas.Bool.{ltb-true, cases_Bool}
use Rattle.std.proofs.lemmas.List.Elements.{All-append, All-cons, All-head, All-nil, All-tail, All-weaker}
use Rattle.std.proofs.lemmas.List.Kept.{AllPairs-cons}
use Rattle.chain_terms.specs.Chains.{all_edges}
use Rattle.chain_terms.specs.Sums.{up_from}
use Rattle.chain_terms.specs.Ranks.{start, finish, twin}
use Rattle.mb_base.specs.declared.point.Corner.{Corner}
use Rattle.mb_base.specs.declared.results.Hit.{Hit}
use Rattle.edge_face.specs.declared.Cross.{Cross}
use Rattle.edge_face.specs.Crossings.{number_of}
use Rattle.side_terms.specs.Corners.{AllFine}
use Rattle.lean.proofs.Corners.{edge_fine, face_fine}
use Rattle.side_terms.specs.Sides.{Side, edge_at, face_at}
use Rattle.crossings.specs.Hits.{CrossingTest, hit_of, hits_along, hits_of}
use Rattle.side_terms.specs.Hits.{IsBefore, IsNumber, AreHits, AllCross}

-- a number of crossings that is listed
pub record IsListed (n : ℤ) : Type 0 where
  pub some : n ≢ pos 0
  pub range : IsNumber n

-- two lists in order, the one before the other
in_order_append : (P Q : Hit → Type 0) → ((h k : Hit) → P h → Q k → IsBefore h k) → (xs ys : List Hit) → All P xs → All Q ys → AllPairs IsBefore xs →
    AllPairs IsBefore ys → AllPairs IsBefore (xs ++ ys)
in_order_append P Q before [] ys p q h k = k
in_order_append P Q before (x ∷ xs) ys p q h k =
    AllPairs-cons IsBefore x (xs ++ ys)
    (All-append (IsBefore x) xs ys (λ i d b. h 0 (suc i) d (omega arith) (omega arith)) (All-weaker Q (IsBefore x) (λ y r. before x y (All-head P x xs p) r) ys q))
    (in_order_append P Q before xs ys (All-tail P x xs p) q (λ i j d a b. h (suc i) (suc j) d (omega arith) (omega arith)) k)

-- a hit of half-edge h with one of the faces from k on, below n
record IsAlong (h k n : ℕ) (x : Hit) : Type 0 where
  edge : x.edge ≡ h
  from : k ≤ x.face
  below : x.face < n
  listed : IsListed x.number

-- each answer has a number that may be listed
abbrev pub AllListed : CrossingTest → Side → Side → Type 0
AllListed test edges faces = (h f : ℕ) → IfSome (test (edge_at edges h) (face_at faces f)) (λ c. IsListed c.number)

-- an answer whose number is small and not 0
pub listed_number : (o : Option Cross) → IfSome o (λ c. c.number ≢ pos 0) → (negsuc 1 ≤ℤ number_of o) × (number_of o ≤ℤ pos 2) → IfSome o (λ c. IsListed c.number)
listed_number None h k = tt
listed_number (Some c) h k = record { some = h; range = record { low = k.0; high = k.1 } }

-- where every answer for fine corners is such, all are
pub all_listed : (test : CrossingTest) (edges faces : Side) → AllFine edges.corners → AllFine faces.corners →
    ((e f : List Corner) → length e ≡ 2 → length f ≡ 3 → AllFine e → AllFine f →
    IfSome (test e f) (λ c. c.number ≢ pos 0) × ((negsuc 1 ≤ℤ number_of (test e f)) × (number_of (test e f) ≤ℤ pos 2))) →
    AllListed test edges faces
all_listed test edges faces edges_fine faces_fine each h f =
    let es = all_edges edges.triples in
    let a = edge_fine edges.corners edges_fine (start es h) (finish es h) in
    let b = face_fine faces.corners faces_fine (get_or faces.triples f (0, 0, 0)) in
    let both = each (edge_at edges h) (face_at faces f) refl refl a b in
    listed_number (test (edge_at edges h) (face_at faces f)) both.0 both.1

-- an answer put before the hits of the later faces
along_cons : (h k n : ℕ) (o : Option Cross) (rest : List Hit) → k < n → IfSome o (λ c. IsListed c.number) → All (IsAlong h (suc k) n) rest → AllPairs IsBefore rest →
    All (IsAlong h k n) (cons_option (hit_of h k o) rest) × AllPairs IsBefore (cons_option (hit_of h k o) rest)
along_cons h k n None rest below listed all order =
    (All-weaker (IsAlong h (suc k) n) (IsAlong h k n) (λ x a. record { edge = a.edge; from = omega (arith, a.from); below = a.below; listed = a.listed }) rest all, order)
along_cons h k n (Some c) rest below listed all order =
    let hit : Hit = record { edge = h; face = k; number = c.number; at = c.at } in
    let later = All-weaker (IsAlong h (suc k) n) (IsAlong h k n) (λ x a. record { edge = a.edge; from = omega (arith, a.from); below = a.below; listed = a.listed }) rest all in (
      All-cons (IsAlong h k n) hit rest (record { edge = refl; from = omega arith; below = below; listed = listed }) later,
      AllPairs-cons IsBefore hit rest (All-weaker (IsAlong h (suc k) n) (IsBefore hit) (λ x a. inr (sym a.edge, omega (arith, a.from))) rest all) order,
    )

-- the hits of one half-edge with the faces from k on
along_from : (answer : ℕ → Option Cross) → ((f : ℕ) → IfSome (answer f) (λ c. IsListed c.number)) → (h k m : ℕ) →
    All (IsAlong h k (k + m)) (filter_map (λ f. hit_of h f (answer f)) (up_from k m)) × AllPairs IsBefore (filter_map (λ f. hit_of h f (answer f)) (up_from k m))
along_from answer listed h k zero = (All-nil (IsAlong h k (k + 0)), λ i j d a b. absurd (omega (arith, b)))
along_from answer listed h k (suc m) =
    let later = along_from answer listed h (suc k) m in
    let end : suc k + m ≡ k + suc m = omega arith in
    along_cons h k (k + suc m) (answer k) (filter_map (λ f. hit_of h f (answer f)) (up_from (suc k) m)) (omega arith) (listed k)
    (subst (λ n. All (IsAlong h (suc k) n) (filter_map (λ f. hit_of h f (answer f)) (up_from (suc k) m))) end later.0) later.1

-- a hit of one of the half-edges from k on, below m, that pass a test, with a face below n
record IsOf (lower : ℕ → Bool) (k m n : ℕ) (x : Hit) : Type 0 where
  from : k ≤ x.edge
  below : x.edge < m
  passes : lower x.edge ≡ true
  face : x.face < n
  listed : IsListed x.number

-- the hits of a half-edge before those of later ones
of_append : (lower : ℕ → Bool) (k m n : ℕ) (row rest : List Hit) → k < m → lower k ≡ true → All (IsAlong k 0 n) row → AllPairs IsBefore row →
    All (IsOf lower (suc k) m n) rest → AllPairs IsBefore rest →
    All (IsOf lower k m n) (row ++ rest) × AllPairs IsBefore (row ++ rest)
of_append lower k m n row rest below passes along row_order all order = (
  All-append (IsOf lower k m n) row rest
      (All-weaker (IsAlong k 0 n) (IsOf lower k m n)
      (λ x a. record {
        from = omega (arith, a.edge);
        below = omega (arith, a.edge, below);
        passes = ap lower a.edge ∙ passes;
        face = a.below;
        listed = a.listed;
      }) row along)
      (All-weaker (IsOf lower (suc k) m n) (IsOf lower k m n)
      (λ x a. record { from = omega (arith, a.from); below = a.below; passes = a.passes; face = a.face; listed = a.listed }) rest all),
  in_order_append (IsAlong k 0 n) (IsOf lower (suc k) m n) (λ x y a b. inl (omega (arith, a.edge, b.from))) row rest along all row_order order,
)

-- the hits of the lower half-edges from k on
of_from : (lower : ℕ → Bool) (n : ℕ) (rows : ℕ → List Hit) → ((h : ℕ) → All (IsAlong h 0 n) (rows h) × AllPairs IsBefore (rows h)) → (k m : ℕ) →
    All (IsOf lower k (k + m) n) (flat_map rows (filter lower (up_from k m))) × AllPairs IsBefore (flat_map rows (filter lower (up_from k m)))
of_from lower n rows each k zero = (All-nil (IsOf lower k (k + 0) n), λ i j d a b. absurd (omega (arith, b)))
of_from lower n rows each k (suc m) =
    let end : suc k + m ≡ k + suc m = omega arith in
    let later = of_from lower n rows each (suc k) m in
    let rest = flat_map rows (filter lower (up_from (suc k) m)) in
    let all = subst (λ e. All (IsOf lower (suc k) e n) rest) end later.0 in
    elim (cases_Bool (lower k)) as (λ _. All (IsOf lower k (k + suc m) n) (flat_map rows (filter lower (up_from k (suc m)))) × AllPairs IsBefore
    (flat_map rows (filter lower (up_from k (suc m))))) [
      | inl y ↦ rw y (of_append lower k (k + suc m) n (rows k) rest (omega arith) y (each k).0 (each k).1 all later.1)
      | inr y ↦
          rw y (
            All-weaker (IsOf lower (suc k) (k + suc m) n) (IsOf lower k (k + suc m) n)
                (λ x a. record { from = omega (arith, a.from); below = a.below; passes = a.passes; face = a.face; listed = a.listed }) rest all,
            later.1,
          )
    ]

-- all hits are of lower half-edges and faces, in order, and each pair crosses
pub hits_in_order : (test : CrossingTest) (edges faces : Side) → AllListed test edges faces →
    AreHits (all_edges edges.triples) (length faces.triples) (hits_of test edges faces) × AllCross (hits_of test edges faces)
hits_in_order test edges faces listed =
    let es = all_edges edges.triples in
    let n = length faces.triples in
    let lower : ℕ → Bool = λ h. nat_lt h (twin es h) in
    let hits = hits_of test edges faces in
    let rows : (h : ℕ) → All (IsAlong h 0 n) (hits_along test edges faces h) × AllPairs IsBefore (hits_along test edges faces h) =
    λ h.
    let row = along_from (λ f. test (edge_at edges h) (face_at faces f)) (listed h) h 0 n in
    let end : 0 + n ≡ n = omega arith in (subst (λ e. All (IsAlong h 0 e) (hits_along test edges faces h)) end row.0, row.1) in
    let all = of_from lower n (hits_along test edges faces) rows 0 (length es) in (
      record {
        on_edges = All-weaker (IsOf lower 0 (0 + length es) n) (λ x. (x.edge < length es) × (x.edge < twin es x.edge))
            (λ x a. (omega (arith, a.below), ltb-true x.edge (twin es x.edge) a.passes)) hits all.0;
        on_faces = All-weaker (IsOf lower 0 (0 + length es) n) (λ x. x.face < n) (λ x a. a.face) hits all.0;
        numbers = All-weaker (IsOf lower 0 (0 + length es) n) (λ x. IsNumber x.number) (λ x a. a.listed.range) hits all.0;
        ascending = all.1;
      },
      All-weaker (IsOf lower 0 (0 + length es) n) (λ x. x.number ≢ pos 0) (λ x a. a.listed.some) hits all.0,
    )
