-- The lists of a source face, of P or of Q.
use Rattle.std.proofs.Common.{◌≡◌, ℕ, ◌+◌, ◌*◌, ◌-◌, ◌<◌, ◌≤◌, List, map, length, get_or, arith}
use Rattle.std.specs.Prelude.{nat_lt}
use Rattle.std.specs.List.{All}
use Rattle.std.proofs.lemmas.Bool.{cond_both, ltb-true, ltb-false}
use Rattle.std.proofs.lemmas.List.Elements.{All-append, All-from_get_or, All-map}
use Rattle.chain_terms.specs.Sums.{upto}
use Rattle.chain_laws.proofs.Places.{get_or-up_from, length-up_from}
use Rattle.side_terms.specs.Sides.{Side}
use Rattle.side_terms.specs.Lists.{IsListOf, ListName, HalfP, HalfQ, PairP, PairQ, lists_of_p, lists_of_q}
use Rattle.source_face_terms.specs.Segments.{lists_of, source_count}

-- what holds of each number below n
pub all_upto : (P : ℕ → Type 0) (n : ℕ) → ((i : ℕ) → i < n → P i) → All P (upto n)
all_upto P n h = All-from_get_or P (upto n) 0 (λ i l. at i (omega (arith, length-up_from 0 n, l)))
  where
    at : (i : ℕ) → i < n → P (get_or (upto n) i 0)
    at i below = let e : get_or (upto n) i 0 ≡ i = omega (arith, get_or-up_from 0 n i 0 below) in rw e (h i below)

-- a source face is one of P or one of Q
pub face_case : (p q : Side) (P : List ListName → Type 0) (x : ℕ) → (x < length p.triples → P (lists_of_p (length q.triples) x)) →
    (length p.triples ≤ x → P (lists_of_q (length p.triples) (x - length p.triples))) → P (lists_of p q x)
face_case p q P x of_p of_q =
    let m = length p.triples in
    cond_both (nat_lt x m) (lists_of_p (length q.triples) x) (lists_of_q m (x - m)) P (λ y. of_p (ltb-true x m y)) (λ n. of_q (ltb-false x m n))

-- its lists are lists of the two sides
known_p : (m n f : ℕ) → f < m → All (IsListOf m n) (lists_of_p n f)
known_p m n f below =
    All-append (IsListOf m n) (map (λ i. HalfP (3 * f + i)) (upto 3)) (map (PairP f) (upto n))
    (All-map (IsListOf m n) (λ i. HalfP (3 * f + i)) (upto 3) (all_upto (λ i. 3 * f + i < 3 * m) 3 (λ i l. omega (arith, below, l))))
    (All-map (IsListOf m n) (PairP f) (upto n) (all_upto (λ g. (f < m) × (g < n)) n (λ g l. (below, l))))

known_q : (m n g : ℕ) → g < n → All (IsListOf m n) (lists_of_q m g)
known_q m n g below =
    All-append (IsListOf m n) (map (λ i. HalfQ (3 * g + i)) (upto 3)) (map (PairQ g) (upto m))
    (All-map (IsListOf m n) (λ i. HalfQ (3 * g + i)) (upto 3) (all_upto (λ i. 3 * g + i < 3 * n) 3 (λ i l. omega (arith, below, l))))
    (All-map (IsListOf m n) (PairQ g) (upto m) (all_upto (λ f. (g < n) × (f < m)) m (λ f l. (below, l))))

pub lists_known : (p q : Side) (x : ℕ) → x < source_count p q → All (IsListOf (length p.triples) (length q.triples)) (lists_of p q x)
lists_known p q x below =
    let m = length p.triples in
    let n = length q.triples in
    face_case p q (All (IsListOf m n)) x (λ l. known_p m n x l) (λ l. known_q m n (x - m) (omega (arith, below, l)))
