-- Which triples stay: how many of each orientation, no opposite ones, and edges that stay closed.
use Rattle.std.proofs.Common.{◌≡◌, ◌<◌, ◌≤◌, ◌+◌, ◌-◌, ◌/◌, ◌%◌, ℕ, suc, ℤ, Bool, true, false, cond, List, [], ◌∷◌, ◌++◌, length, take, refl, sym, ◌∙◌, ap, subst, arith}
use Rattle.std.specs.Prelude.{◌+ℤ◌, nat_le, count_by}
use Rattle.std.specs.List.{All, Contains}
use Rattle.std.proofs.lemmas.Bool.{cond_both}
use Rattle.std.proofs.lemmas.Bool.Decides.{nat_tests}
use Rattle.std.proofs.lemmas.Int.{ints}
use Rattle.std.proofs.lemmas.List.{append_assoc, get_or-map, length-append, length-map}
use Rattle.std.proofs.lemmas.List.Elements.{All-append, All-cons, All-contains, All-head, All-nil, All-tail}
use Rattle.chain_terms.specs.Chains.{is_edge, dir, one_if, edges, all_edges, IsClosed}
use Rattle.chain_terms.specs.Sums.{total}
use Rattle.chain_terms.specs.Odd.{IsOdd, along, SameChain}
use Rattle.chain_laws.specs.Chains.{same_boundary, odd_sum, closed_from_sums, edge_is, dir_some}
use Rattle.chain_laws.specs.Triples.{edges-turned}
use Rattle.mesh_terms.specs.Meshes.{Triple}
use Rattle.mesh_check.specs.Orientations.{least_first, pair_number, edge_of, orientation_edge, orientation_edges, IsNarrow, IsTriangle}
use Rattle.mesh_check.specs.Reduced.{same_way, opposite, is_kept, kept_from, kept_triples, NoOpposite}
use Rattle.mesh_check.proofs.Orientations.{turn, from_least, least_narrow, same_count, opposite_count, opposite_edge}

-- of an orientation with r members before and m opposite ones, one more is kept where r is not below m
step : (k e : Bool) (m r d rest : ℕ) → (e ≡ true → k ≡ nat_le m r) → rest + (r + one_if e - m) ≡ r + one_if e + d - m →
    cond k (one_if e) 0 + rest + (r - m) ≡ r + (one_if e + d) - m
step true false m r d rest kept at = omega (arith, at)
step false false m r d rest kept at = omega (arith, at)
step true true m r d rest kept at = grind (arith, nat_tests, kept refl, at)
step false true m r d rest kept at = grind (arith, nat_tests, kept refl, at)

-- how many triples have the orientation of this edge
abbrev pub count_at : List Triple → ℕ → ℕ → ℕ
count_at ts a b = dir (orientation_edges ts) a b

-- in two lists, one after the other
count_at-append : (ts us : List Triple) (a b : ℕ) → count_at (ts ++ us) a b ≡ count_at ts a b + count_at us a b
count_at-append [] us a b = omega arith
count_at-append (t ∷ ts) us a b = omega (arith, count_at-append ts us a b)

-- one that may be there, in front
count_at-cond : (k : Bool) (t : Triple) (ts : List Triple) (a b : ℕ) →
    count_at (cond k (t ∷ []) [] ++ ts) a b ≡ cond k (one_if (is_edge (orientation_edge t) a b)) 0 + count_at ts a b
count_at-cond true t ts a b = refl
count_at-cond false t ts a b = omega arith

-- the front of a list
take_front : (front rest : List Triple) → take (length front) (front ++ rest) ≡ front
take_front [] [] = refl
take_front [] (t ∷ rest) = refl
take_front (t ∷ front) rest = ap (λ ts. t ∷ ts) (take_front front rest)

-- which of the rest are kept, by the triples in front
kept_here : (front rest : List Triple) (t : Triple) (a b : ℕ) → All IsTriangle (front ++ t ∷ rest) → All IsTriangle front → IsTriangle t → is_edge (orientation_edge t) a b ≡ true →
    is_kept (front ++ t ∷ rest) (length front) t ≡ nat_le (count_at (front ++ t ∷ rest) b a) (count_at front a b)
kept_here front rest t a b all before here is =
    let p = edge_is (orientation_edge t) a b is in
    let others : count_by (opposite t) (front ++ t ∷ rest) ≡ count_at (front ++ t ∷ rest) b a =
    opposite_count (front ++ t ∷ rest) t all here ∙ ap (λ x. count_at (front ++ t ∷ rest) x (orientation_edge t).0) p.1 ∙ ap (λ x. count_at (front ++ t ∷ rest) b x) p.0 in
    let same : count_by (same_way t) (take (length front) (front ++ t ∷ rest)) ≡ count_at front a b =
    ap (count_by (same_way t)) (take_front front (t ∷ rest)) ∙ same_count front t before here ∙ ap (λ x. count_at front x (orientation_edge t).1) p.0
    ∙ ap (λ x. count_at front a x) p.1 in
    ap (λ n. nat_le n (count_by (same_way t) (take (length front) (front ++ t ∷ rest)))) others ∙ ap (nat_le (count_at (front ++ t ∷ rest) b a)) same

-- of each orientation as many of the rest are kept as bring it above the opposite ones
kept_rest : (all front rest : List Triple) (a b : ℕ) → all ≡ front ++ rest → All IsTriangle all → All IsTriangle front → All IsTriangle rest
    → count_at (kept_from all (length front) rest) a b + (count_at front a b - count_at all b a) ≡ count_at front a b + count_at rest a b - count_at all b a
kept_rest all front [] a b is every before later = omega arith
kept_rest all front (t ∷ ts) a b is every before later =
    let here : IsTriangle t = All-head IsTriangle t ts later in
    let more : List Triple = front ++ t ∷ [] in
    let longer : length more ≡ suc (length front) = omega (arith, length-append front (t ∷ [])) in
    let rest = kept_rest all more ts a b (is ∙ sym (append_assoc front (t ∷ []) ts)) every
    (All-append IsTriangle front (t ∷ []) before (All-cons IsTriangle t [] here (All-nil IsTriangle))) (All-tail IsTriangle t ts later) in
    let counted : count_at more a b ≡ count_at front a b + one_if (is_edge (orientation_edge t) a b) = omega (arith, count_at-append front (t ∷ []) a b) in
    let test : is_edge (orientation_edge t) a b ≡ true → is_kept all (length front) t ≡ nat_le (count_at all b a) (count_at front a b) =
    λ e. subst (λ l. is_kept l (length front) t ≡ nat_le (count_at l b a) (count_at front a b)) (sym is)
    (kept_here front ts t a b (subst (All IsTriangle) is every) before here e) in
    let known : count_at (kept_from all (suc (length front)) ts) a b + (count_at front a b + one_if (is_edge (orientation_edge t) a b) - count_at all b a)
    ≡ count_at front a b + one_if (is_edge (orientation_edge t) a b) + count_at ts a b - count_at all b a =
    subst (λ n. count_at (kept_from all n ts) a b + (count_at front a b + one_if (is_edge (orientation_edge t) a b) - count_at all b a)
    ≡ count_at front a b + one_if (is_edge (orientation_edge t) a b) + count_at ts a b - count_at all b a) longer
    (subst (λ n. count_at (kept_from all (length more) ts) a b + (n - count_at all b a) ≡ n + count_at ts a b - count_at all b a) counted rest) in
    omega (
      arith,
      step (is_kept all (length front) t) (is_edge (orientation_edge t) a b) (count_at all b a) (count_at front a b) (count_at ts a b)
          (count_at (kept_from all (suc (length front)) ts) a b) test known,
      count_at-cond (is_kept all (length front) t) t (kept_from all (suc (length front)) ts) a b,
    )

-- so the kept ones are those by which the orientation exceeds the opposite one
pub kept_count : (ts : List Triple) → All IsTriangle ts → (a b : ℕ) → count_at (kept_triples ts) a b ≡ count_at ts a b - count_at ts b a
kept_count ts all a b = omega (arith, kept_rest ts [] ts a b refl all (All-nil IsTriangle) all)

-- what holds of all triples holds of the kept ones
pub kept_all : (P : Triple → Type 0) (all : List Triple) (i : ℕ) (ts : List Triple) → All P ts → All P (kept_from all i ts)
kept_all P all i [] each = All-nil P
kept_all P all i (t ∷ ts) each =
    All-append P (cond (is_kept all i t) (t ∷ []) []) (kept_from all (suc i) ts)
    (cond_both (is_kept all i t) (t ∷ []) [] (All P) (λ _. All-cons P t [] (All-head P t ts each) (All-nil P)) (λ _. All-nil P))
    (kept_all P all (suc i) ts (All-tail P t ts each))

-- there are no more of them
pub length-kept : (all : List Triple) (i : ℕ) (ts : List Triple) → length (kept_from all i ts) ≤ length ts
length-kept all i [] = omega arith
length-kept all i (t ∷ ts) =
    cond_both (is_kept all i t) (t ∷ []) [] (λ l. length (l ++ kept_from all (suc i) ts) ≤ suc (length ts)) (λ _. omega (arith, length-kept all (suc i) ts))
    (λ _. omega (arith, length-kept all (suc i) ts))

-- a triple of a list occurs there with its orientation
occurs : (ts : List Triple) (t : Triple) → Contains ts t → 0 < count_at ts (orientation_edge t).0 (orientation_edge t).1
occurs ts t inside = dir_some (orientation_edges ts) (orientation_edge t).0 (orientation_edge t).1 (of_map ts inside)
  where
    of_map : (us : List Triple) → Contains us t → Contains (orientation_edges us) (orientation_edge t)
    of_map us (k, below, is) = (k, omega (arith, below, length-map us orientation_edge), get_or-map orientation_edge us k t (orientation_edge t) below ∙ ap orientation_edge is)

-- no two kept ones are opposite
pub kept_no_opposite : (ts : List Triple) → All IsTriangle ts → NoOpposite (kept_triples ts)
kept_no_opposite ts all s t has_s has_t =
    let kept = kept_triples ts in
    let each : All IsTriangle kept = kept_all IsTriangle ts 0 ts all in
    by (opposite s t) refl (All-contains IsTriangle kept s each has_s) (All-contains IsTriangle kept t each has_t)
  where
    by : (b : Bool) → opposite s t ≡ b → IsTriangle s → IsTriangle t → opposite s t ≡ false
    by false is p q = is
    by true is p q =
        let e = edge_is (orientation_edge t) (orientation_edge s).1 (orientation_edge s).0 (sym (opposite_edge t s q p) ∙ is) in
        let some_s = occurs (kept_triples ts) s has_s in
        let some_t : 0 < count_at (kept_triples ts) (orientation_edge s).1 (orientation_edge s).0 =
        subst (λ x. 0 < count_at (kept_triples ts) x (orientation_edge s).0) e.0
        (subst (λ x. 0 < count_at (kept_triples ts) (orientation_edge t).0 x) e.1 (occurs (kept_triples ts) t has_t)) in
        absurd (omega (arith, some_s, some_t, kept_count ts all (orientation_edge s).0 (orientation_edge s).1, kept_count ts all (orientation_edge s).1 (orientation_edge s).0))

-- f along the edges of a triangle, as a function of its orientation edge
abbrev round : (ℕ → ℕ → ℤ) → ℕ → ℕ → ℤ
round f p q = f (p / 4294967296) (p % 4294967296) +ℤ (f (p % 4294967296) (q % 4294967296) +ℤ f (q % 4294967296) (q / 4294967296))

-- it is odd where f is
round_odd : (f : ℕ → ℕ → ℤ) → IsOdd f → IsOdd (round f)
round_odd f odd = record {
  turns = λ p q.
      let first = odd.turns (p / 4294967296) (p % 4294967296) in
      let second = odd.turns (p % 4294967296) (q % 4294967296) in
      let third = odd.turns (q / 4294967296) (q % 4294967296) in
      omega (arith, ints, first, second, third);
}

-- the first vertex is read from the number of two
first_of_pair : (a b : ℕ) → b < 4294967296 → pair_number a b / 4294967296 ≡ a
first_of_pair a b narrow = omega (arith, narrow)

-- and the second
second_of_pair : (a b : ℕ) → b < 4294967296 → pair_number a b % 4294967296 ≡ b
second_of_pair a b narrow = omega (arith, narrow)

-- its value at the edge of a triple
round_edge : (f : ℕ → ℕ → ℤ) (t : Triple) → IsNarrow t → along (round f) (edge_of t) ≡ total (along f) (edges t)
round_edge f t n =
    let first = first_of_pair t.0 t.1 n.b in
    let second = second_of_pair t.0 t.1 n.b in
    let third = second_of_pair t.0 t.2 n.c in
    let last = first_of_pair t.0 t.2 n.c in
    (λ i. f (first i) (second i) +ℤ (f (second i) (third i) +ℤ f (third i) (last i))) ∙ omega (arith, ints)

-- the sum over the edges of triangles is that over their orientations
round_total : (f : ℕ → ℕ → ℤ) → IsOdd f → (ts : List Triple) → All IsTriangle ts → total (along (round f)) (orientation_edges ts) ≡ total (along f) (all_edges ts)
round_total f odd [] all = refl
round_total f odd (t ∷ ts) all =
    let here : IsTriangle t = All-head IsTriangle t ts all in
    let least = round_edge f (least_first t) (least_narrow t here.narrow) in
    let turned : total (along f) (edges (least_first t)) ≡ total (along f) (edges t) =
    from_least (λ u. total (along f) (edges u) ≡ total (along f) (edges t)) t refl (edges-turned t f odd) (edges-turned (turn t) f odd ∙ edges-turned t f odd) in
    omega (arith, ints, least, turned, round_total f odd ts (All-tail IsTriangle t ts all))

-- the orientations of the kept ones have the same boundary
kept_same : (ts : List Triple) → All IsTriangle ts → SameChain (orientation_edges (kept_triples ts)) (orientation_edges ts)
kept_same ts all = same_boundary (orientation_edges (kept_triples ts)) (orientation_edges ts) (λ a b. omega (arith, ints, kept_count ts all a b, kept_count ts all b a))

-- so they are closed where all are
pub kept_closed : (ts : List Triple) → All IsTriangle ts → IsClosed (all_edges ts) → IsClosed (all_edges (kept_triples ts))
kept_closed ts all closed =
    closed_from_sums (all_edges (kept_triples ts))
    (λ f odd. sym (round_total f odd (kept_triples ts) (kept_all IsTriangle ts 0 ts all)) ∙ kept_same ts all (round f) (round_odd f odd)
    ∙ round_total f odd ts all ∙ odd_sum f odd (all_edges ts) closed)
