-- Triangles over places stay closed: those that repeat a place add nothing.
use Rattle.std.specs.Prelude.{◌≡◌, ◌⊎◌, ℕ, suc, ◌<◌, ◌≤◌, ℤ, pos, List, [], ◌∷◌, ◌++◌, true, false, Bool, cond, not, ◌&&◌, ◌==◌, filter, get_or, length, map}
use Rattle.std.proofs.Common.{arith, refl, sym, ap, subst, ◌∙◌, inl, inr}
use Rattle.std.proofs.Math.Seq.{get_or-append_seam}
use Rattle.std.proofs.lemmas.Bool.{and_cases, cases_Bool, eqb-true, not-false}
use Rattle.std.proofs.lemmas.Int.{ints}
use Rattle.std.specs.List.{All}
use Rattle.std.proofs.lemmas.List.Elements.{filter_passes}
use Rattle.std.proofs.lemmas.List.{append_assoc, get_or-map, length-append, length-map}
use Rattle.chain_terms.specs.Chains.{IsClosed, all_edges, edges}
use Rattle.chain_terms.specs.Odd.{IsOdd, SameChain, along}
use Rattle.chain_terms.specs.Sums.{total, up_from, upto}
use Rattle.chain_laws.specs.Chains.{closed_same}
use Rattle.chain_laws.specs.Sums.{total-append}
use Rattle.chain_laws.specs.Triples.{closed-renamed_triples}
use Rattle.mesh_terms.specs.Meshes.{Triple, triple_of, triples_of}
use Rattle.sheet_terms.specs.Places.{has_three}
use Rattle.edge_cutting.specs.Overs.{AreOver, over_at, over_of}
use Rattle.edge_cutting.proofs.Gathering.{all_filtered}
use Rattle.edge_cutting.proofs.Pieced.{map_same}

-- members by the places at which a test holds
pub members_at : {X : Type 0} (q : X → Bool) (r : ℕ → Bool) (d : X) (before xs : List X) → ((i : ℕ) → i < length (before ++ xs) → r i ≡ q (get_or (before ++ xs) i d)) →
    map (λ i. get_or (before ++ xs) i d) (filter r (up_from (length before) (length xs))) ≡ filter q xs
members_at q r d before [] same = refl
members_at q r d before (x ∷ xs) same =
    let k = length before in
    let moved : before ++ x ∷ xs ≡ (before ++ x ∷ []) ++ xs = sym (append_assoc before (x ∷ []) xs) in
    let long : length (before ++ x ∷ []) ≡ suc k = omega (arith, length-append before (x ∷ [])) in
    let here : get_or (before ++ x ∷ xs) k d ≡ x = get_or-append_seam before x xs d in
    let rest = members_at q r d (before ++ x ∷ []) xs (λ i low. subst (λ l. i < length l → r i ≡ q (get_or l i d)) moved (same i) low) in
    let tail : map (λ i. get_or (before ++ x ∷ xs) i d) (filter r (up_from (suc k) (length xs))) ≡ filter q xs =
    ap (λ l. map (λ i. get_or l i d) (filter r (up_from (suc k) (length xs)))) moved
    ∙ ap (λ m. map (λ i. get_or ((before ++ x ∷ []) ++ xs) i d) (filter r (up_from m (length xs)))) (sym long) ∙ rest in
    by (r k) ∙ ap (λ y. cond (r k) (y ∷ map (λ i. get_or (before ++ x ∷ xs) i d) (filter r (up_from (suc k) (length xs))))
    (map (λ i. get_or (before ++ x ∷ xs) i d) (filter r (up_from (suc k) (length xs))))) here
    ∙ ap (λ l. cond (r k) (x ∷ l) l) tail ∙ ap (λ b. cond b (x ∷ filter q xs) (filter q xs)) (same k (omega (arith, length-append before (x ∷ xs))) ∙ ap q here)
  where
    by : (b : Bool) → map (λ i. get_or (before ++ x ∷ xs) i d)
        (cond b (length before ∷ filter r (up_from (suc (length before)) (length xs))) (filter r (up_from (suc (length before)) (length xs)))) ≡
        cond b (get_or (before ++ x ∷ xs) (length before) d ∷ map (λ i. get_or (before ++ x ∷ xs) i d) (filter r (up_from (suc (length before)) (length xs))))
        (map (λ i. get_or (before ++ x ∷ xs) i d) (filter r (up_from (suc (length before)) (length xs))))
    by true = refl
    by false = refl

-- a triangle that repeats a place adds nothing
nothing_round : (f : ℕ → ℕ → ℤ) → IsOdd f → (t : Triple) → has_three t ≡ false → total (along f) (edges t) ≡ pos 0
nothing_round f odd t h = by (and_cases (not (t.0 == t.1) && not (t.1 == t.2)) (not (t.2 == t.0)) h)
  where
    first : t.0 ≡ t.1 → total (along f) (edges t) ≡ pos 0
    first e = omega (arith, ints, ap (λ v. f t.0 v) (sym e), ap (λ v. f v t.2) (sym e), odd.turns t.0 t.0, odd.turns t.0 t.2)

    second : t.1 ≡ t.2 → total (along f) (edges t) ≡ pos 0
    second e = omega (arith, ints, ap (λ v. f t.1 v) (sym e), ap (λ v. f v t.0) (sym e), odd.turns t.1 t.1, odd.turns t.0 t.1)

    third : t.2 ≡ t.0 → total (along f) (edges t) ≡ pos 0
    third e = omega (arith, ints, ap (λ v. f v t.0) e, ap (λ v. f t.1 v) e, odd.turns t.0 t.0, odd.turns t.0 t.1)

    by : ((not (t.0 == t.1) && not (t.1 == t.2)) ≡ false) ⊎ (not (t.2 == t.0) ≡ false) → total (along f) (edges t) ≡ pos 0
    by (inr c) = third (eqb-true t.2 t.0 (not-false (t.2 == t.0) c))
    by (inl ab) = elim (and_cases (not (t.0 == t.1)) (not (t.1 == t.2)) ab) as (λ _. total (along f) (edges t) ≡ pos 0) [
      | inl a ↦ first (eqb-true t.0 t.1 (not-false (t.0 == t.1) a))
      | inr b ↦ second (eqb-true t.1 t.2 (not-false (t.1 == t.2) b))
    ]

-- so they may go
gone_same : (ts : List Triple) → SameChain (all_edges (filter has_three ts)) (all_edges ts)
gone_same [] f odd = refl
gone_same (t ∷ ts) f odd = by (cases_Bool (has_three t)) (gone_same ts f odd)
  where
    by : (has_three t ≡ true) ⊎ (has_three t ≡ false) → total (along f) (all_edges (filter has_three ts)) ≡ total (along f) (all_edges ts) →
        total (along f) (all_edges (cond (has_three t) (t ∷ filter has_three ts) (filter has_three ts))) ≡ total (along f) (edges t ++ all_edges ts)
    by (inl y) rest =
        ap (λ b. total (along f) (all_edges (cond b (t ∷ filter has_three ts) (filter has_three ts)))) y
        ∙ omega (arith, ints, rest, total-append (along f) (edges t) (all_edges (filter has_three ts)), total-append (along f) (edges t) (all_edges ts))
    by (inr n) rest =
        ap (λ b. total (along f) (all_edges (cond b (t ∷ filter has_three ts) (filter has_three ts)))) n
        ∙ omega (arith, ints, rest, nothing_round f odd t n, total-append (along f) (edges t) (all_edges ts))

-- the triangles that are left
left_is : (of : List ℕ) (ts : List Triple) → map (over_at of ts) (filter (λ t. has_three (over_at of ts t)) (upto (length ts))) ≡ filter has_three (map (over_of of) ts)
left_is of ts =
    let us = map (over_of of) ts in
    let long : length us ≡ length ts = length-map ts (over_of of) in
    let at : (t : ℕ) → t < length ts → over_at of ts t ≡ get_or us t (0, 0, 0) = λ t low. sym (get_or-map (over_of of) ts t (0, 0, 0) (0, 0, 0) low) in
    let places = filter (λ t. has_three (over_at of ts t)) (upto (length ts)) in
    map_same (over_at of ts) (λ t. get_or us t (0, 0, 0)) places
    (all_filtered (λ t. over_at of ts t ≡ get_or us t (0, 0, 0)) (λ t. has_three (over_at of ts t)) (length ts) (λ t low h. at t low))
    ∙ ap (λ n. map (λ t. get_or us t (0, 0, 0)) (filter (λ t. has_three (over_at of ts t)) (upto n))) (sym long)
    ∙ members_at has_three (λ t. has_three (over_at of ts t)) (0, 0, 0) [] us (λ t low. ap has_three (at t (omega (arith, low, long))))

pub over_closed : (of : List ℕ) (ts faces : List Triple) (kept : List ℕ) → AreOver of ts faces kept → IsClosed (all_edges ts) → IsClosed (all_edges faces)
over_closed of ts faces kept are closed =
    let is : faces ≡ filter has_three (map (over_of of) ts) = are.triples ∙ ap (map (over_at of ts)) are.sources ∙ left_is of ts in
    subst (λ l. IsClosed (all_edges l)) (sym is)
    (closed_same (all_edges (filter has_three (map (over_of of) ts))) (all_edges (map (over_of of) ts)) (gone_same (map (over_of of) ts))
    (closed-renamed_triples (λ v. get_or of v 0) ts closed))

-- and each has three places
pub over_three : (of : List ℕ) (ts faces : List Triple) (kept : List ℕ) → AreOver of ts faces kept → All (λ t. has_three t ≡ true) faces
over_three of ts faces kept are =
    subst (λ l. All (λ t. has_three t ≡ true) l) (sym (are.triples ∙ ap (map (over_at of ts)) are.sources ∙ left_is of ts)) (filter_passes has_three (map (over_of of) ts))

-- all triangles were looked at
pub over_from : (of : List ℕ) (ts : List (List ℕ)) (i : ℕ) (faces : List Triple) (kept : List ℕ) → length ts ≤ i → i ≤ length ts →
    kept ≡ filter (λ t. has_three (over_at of (triples_of ts) t)) (upto i) → faces ≡ map (over_at of (triples_of ts)) kept → AreOver of (triples_of ts) faces kept
over_from of ts i faces kept high low ek ef =
    let all : i ≡ length (triples_of ts) = omega (arith, high, low, length-map ts triple_of) in
    record { sources = ek ∙ ap (λ n. filter (λ t. has_three (over_at of (triples_of ts) t)) (upto n)) all; triples = ef }
