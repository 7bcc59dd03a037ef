-- A walk without its needless places has the sums that it had, of functions that add up along lines.
use Rattle.std.specs.Prelude.{◌≡◌, ◌≢◌, ◌⊎◌, ℕ, ℤ, pos, ◌+ℤ◌, ◌-ℤ◌, List, [], ◌∷◌, ◌++◌}
use Rattle.std.specs.Prelude.{true, false, Bool, cond, not, ◌&&◌, ◌||◌, ◌==◌, filter, get_or, count_by}
use Rattle.std.specs.List.{All, flat_map, list_any}
use Rattle.std.specs.Ordering.{int_eq}
use Rattle.std.proofs.Common.{arith, refl, sym, ap, subst, ◌∙◌, inl, inr}
use Rattle.std.proofs.lemmas.Bool.{and_from, and_parts, both_ways, cases_Bool, cases_lt, eq-eqb, eqb-true, not-true}
use Rattle.std.proofs.lemmas.Bool.Decides.{Decides-int_eq}
use Rattle.std.proofs.lemmas.Int.{ints}
use Rattle.std.proofs.lemmas.List.Elements.{All-head, All-tail, filter-append}
use Rattle.std.proofs.lemmas.List.Sorted.{All-permutation}
use Rattle.chain_terms.specs.Odd.{along}
use Rattle.chain_terms.specs.Paths.{last_of, path, round_edges}
use Rattle.chain_terms.specs.Sums.{total}
use Rattle.chain_laws.specs.Counts.{Splits, count_by-cons, one_if-true, split_by}
use Rattle.chain_laws.specs.Sums.{total-append}
use Rattle.chain_laws.proofs.Paths.{last_of-append, path-append, total-round_edges}
use Rattle.face_plane.specs.Planes.{point_at}
use Rattle.mesh_terms.specs.Points.{coordinate_of}
use Rattle.ring_cutting.proofs.Rounds.{round_edges-moved, round_sum-moved}
use Rattle.tidy_terms.specs.PointTriples.{same_point}
use Rattle.sheet_terms.specs.Cuts.{are_in_line}
use Rattle.sheet_terms.specs.Needless.{are_two_in_line, is_needless, neighbours, other_end, thinned}
use Rattle.sheet_laws.specs.Lines.{AddsAlongLines}
use Rattle.sheet_laws.proofs.Firsts.{like_one, some_of_all}
use Rattle.sheet_laws.proofs.InLine.{Differ, InLine, from_line, is_zero, line_back, line_of, line_round, line_start, line_through, line_twice}

-- points that are not one differ in a coordinate
pub differ_of : (p q : List ℤ) → same_point p q ≡ false → Differ p q
differ_of p q apart = by (is_zero (d 0)) (is_zero (d 1)) (is_zero (d 2))
  where
    d : ℕ → ℤ
    d i = coordinate_of q i -ℤ coordinate_of p i

    same : (i : ℕ) → d i ≡ pos 0 → int_eq (coordinate_of p i) (coordinate_of q i) ≡ true
    same i e = (Decides-int_eq (coordinate_of p i) (coordinate_of q i)).1 (omega (arith, ints, e))

    by : (d 0 ≡ pos 0) ⊎ (d 0 ≢ pos 0) → (d 1 ≡ pos 0) ⊎ (d 1 ≢ pos 0) → (d 2 ≡ pos 0) ⊎ (d 2 ≢ pos 0) → Differ p q
    by (inr a) b c = inl a
    by (inl a) (inr b) c = inr (inl b)
    by (inl a) (inl b) (inr c) = inr (inr c)
    by (inl a) (inl b) (inl c) =
        let t : ℕ → Bool = λ i. int_eq (coordinate_of p i) (coordinate_of q i) in
        absurd (both_ways (same_point p q) apart (and_from (t 0 && t 1) (t 2) (and_from (t 0) (t 1) (same 0 a) (same 1 b)) (same 2 c)))

-- the two neighbours of a needless place
record IsStraight (points : List (List ℤ)) (v : ℕ) (ns : List ℕ) : Type 0 where
  one : ℕ
  other : ℕ
  all : ns ≡ one ∷ other ∷ []
  from_one : Differ (point_at points v) (point_at points one)
  from_other : Differ (point_at points v) (point_at points other)
  line : InLine (point_at points v) (point_at points one) (point_at points other)

straight : (points : List (List ℤ)) (v : ℕ) (ns : List ℕ) → are_two_in_line points v ns ≡ true → IsStraight points v ns
straight points v [] h = absurd cc
straight points v (a ∷ []) h = absurd cc
straight points v (a ∷ b ∷ []) h =
    let p = point_at points v in
    let q = point_at points a in
    let r = point_at points b in
    let all = and_parts (not (same_point p q) && not (same_point p r)) (are_in_line p q r) h in
    let two = and_parts (not (same_point p q)) (not (same_point p r)) all.0 in
    record {
      one = a;
      other = b;
      all = refl;
      from_one = differ_of p q (not-true (same_point p q) two.0);
      from_other = differ_of p r (not-true (same_point p r) two.1);
      line = line_of p q r all.1;
    }
straight points v (a ∷ b ∷ c ∷ ns) h = absurd cc

-- of two members
one_of_two : (p a b : ℕ) → list_any (λ y. p == y) (a ∷ b ∷ []) ≡ true → (p ≡ a) ⊎ (p ≡ b)
one_of_two p a b h = by (p == a) (p == b) refl refl h
  where
    by : (s t : Bool) → (p == a) ≡ s → (p == b) ≡ t → (s || (t || false)) ≡ true → (p ≡ a) ⊎ (p ≡ b)
    by true t e f g = inl (eqb-true p a e)
    by false true e f g = inr (eqb-true p b f)
    by false false e f g = absurd cc

-- each end of an edge is among the neighbours of the other
pub record IsKnown (es : List (ℕ × ℕ)) (e : ℕ × ℕ) : Type 0 where
  pub start_in : list_any (λ y. e.0 == y) (neighbours es e.1) ≡ true
  pub end_in : list_any (λ y. e.1 == y) (neighbours es e.0) ≡ true

same_number : (x : ℕ) → (x == x) ≡ true
same_number x = eq-eqb x x refl

same_on : (x y z : ℕ) → (x == y) ≡ true → (y == z) ≡ true → (x == z) ≡ true
same_on x y z h k = eq-eqb x z (eqb-true x y h ∙ eqb-true y z k)

pub all_known : (es : List (ℕ × ℕ)) → All (IsKnown es) es
all_known es k d low = record { start_in = to_start; end_in = to_end }
  where
    e : ℕ × ℕ
    e = get_or es k d

    at_end : list_any (λ y. e.0 == y) (other_end e.1 e) ≡ true
    at_end = by (e.0 == e.1) (e.1 == e.1) (same_number e.1)
      where
        by : (s t : Bool) → t ≡ true → list_any (λ y. e.0 == y) (cond s (e.1 ∷ []) [] ++ cond t (e.0 ∷ []) []) ≡ true
        by true true h = either_way (e.0 == e.1) (e.0 == e.0) (same_number e.0)
          where
            either_way : (a b : Bool) → b ≡ true → (a || (b || false)) ≡ true
            either_way true b g = refl
            either_way false true g = refl
            either_way false false g = absurd cc
        by false true h = ap (λ b. b || false) (same_number e.0)
        by s false h = absurd cc

    at_start : list_any (λ y. e.1 == y) (other_end e.0 e) ≡ true
    at_start = by (e.0 == e.0) (e.1 == e.0) (same_number e.0)
      where
        by : (s t : Bool) → s ≡ true → list_any (λ y. e.1 == y) (cond s (e.1 ∷ []) [] ++ cond t (e.0 ∷ []) []) ≡ true
        by true t h = ap (λ b. b || list_any (λ y. e.1 == y) (cond t (e.0 ∷ []) [])) (same_number e.1)
        by false t h = absurd cc

    to_start : list_any (λ y. e.0 == y) (neighbours es e.1) ≡ true
    to_start = like_one (λ a b. a == b) same_number same_on e.0 (flat_map (other_end e.1) es) (some_of_all (λ y. e.0 == y) (other_end e.1) es k d low at_end)

    to_end : list_any (λ y. e.1 == y) (neighbours es e.0) ≡ true
    to_end = like_one (λ a b. a == b) same_number same_on e.1 (flat_map (other_end e.0) es) (some_of_all (λ y. e.1 == y) (other_end e.0) es k d low at_start)

-- a place between two, on a line with them
record IsBetween (points : List (List ℤ)) (p v n : ℕ) : Type 0 where
  before : Differ (point_at points v) (point_at points p)
  after : Differ (point_at points v) (point_at points n)
  line : InLine (point_at points v) (point_at points p) (point_at points n)

-- a needless place is between the two that edges of the walks join to it
between : (points : List (List ℤ)) (es : List (ℕ × ℕ)) (p v n : ℕ) → not (is_needless points es v) ≡ false → IsKnown es (p, v) → IsKnown es (v, n) → IsBetween points p v n
between points es p v n out first second =
    let s = straight points v (neighbours es v) (not_false (is_needless points es v) out) in
    by s (one_of_two p s.one s.other (ap (list_any (λ y. p == y)) (sym s.all) ∙ first.start_in))
    (one_of_two n s.one s.other (ap (list_any (λ y. n == y)) (sym s.all) ∙ second.end_in))
  where
    at : ℕ → List ℤ
    at v = point_at points v

    not_false : (b : Bool) → not b ≡ false → b ≡ true
    not_false true h = refl
    not_false false h = absurd cc

    twice : (a : ℕ) → InLine (at v) (at a) (at a)
    twice a = line_round (at a) (at v) (at a) (line_round (at a) (at a) (at v) (line_start (at a) (at v)))

    other_way : (a b : ℕ) → InLine (at v) (at a) (at b) → InLine (at v) (at b) (at a)
    other_way a b h = line_round (at a) (at v) (at b) (line_round (at b) (at a) (at v) (line_back (at v) (at a) (at b) h))

    Between : ℕ → ℕ → Type 0
    Between x y = IsBetween points x v y

    by : (s : IsStraight points v (neighbours es v)) → (p ≡ s.one) ⊎ (p ≡ s.other) → (n ≡ s.one) ⊎ (n ≡ s.other) → IsBetween points p v n
    by s (inl e) (inl g) = subst (λ x. Between x n) (sym e) (subst (Between s.one) (sym g) (record { before = s.from_one; after = s.from_one; line = twice s.one }))
    by s (inl e) (inr g) = subst (λ x. Between x n) (sym e) (subst (Between s.one) (sym g) (record { before = s.from_one; after = s.from_other; line = s.line }))
    by s (inr e) (inl g) =
        subst (λ x. Between x n) (sym e)
        (subst (Between s.other) (sym g) (record { before = s.from_other; after = s.from_one; line = other_way s.one s.other s.line }))
    by s (inr e) (inr g) = subst (λ x. Between x n) (sym e) (subst (Between s.other) (sym g) (record { before = s.from_other; after = s.from_other; line = twice s.other }))

-- members none of which passes
none_pass : (p : ℕ → Bool) (xs : List ℕ) → count_by p xs ≡ 0 → filter p xs ≡ []
none_pass p [] none = refl
none_pass p (x ∷ xs) none = elim (cases_Bool (p x)) as (λ _. filter p (x ∷ xs) ≡ []) [
  | inl y ↦ absurd (omega (arith, none, count_by-cons p x xs, one_if-true (p x) y))
  | inr n ↦ rw n (none_pass p xs (omega (arith, none, count_by-cons p x xs)))
]

-- places are left out of walks, each of which is between its neighbours
module _ (points : List (List ℤ)) (f : ℕ → ℕ → ℤ) (adds : AddsAlongLines points f) (keep : ℕ → Bool) (Known : (ℕ × ℕ) → Type 0)
    (betweens : (p v n : ℕ) → keep v ≡ false → Known (p, v) → Known (v, n) → IsBetween points p v n) where
  abbrev at : ℕ → List ℤ
  at v = point_at points v

  self : (v : ℕ) → f v v ≡ pos 0
  self v = omega (arith, ints, adds.odd.turns v v)

  -- along a path: x was kept last, and p stands before v, in line with both
  path_thinned : (x p v : ℕ) (rs : List ℕ) → InLine (at p) (at v) (at x) → Known (p, v) → All Known (path v rs) →
      f x v +ℤ total (along f) (path v rs) ≡ total (along f) (path x (filter keep (v ∷ rs))) +ℤ f (last_of x (filter keep (v ∷ rs))) (last_of v rs)
  path_thinned x p v [] line known all = elim (cases_Bool (keep v))
      as (λ _. f x v +ℤ pos 0 ≡ total (along f) (path x (filter keep (v ∷ []))) +ℤ f (last_of x (filter keep (v ∷ []))) v) [
        | inl y ↦ rw y (omega (arith, ints, self v))
        | inr n ↦ rw n (omega (arith, ints))
      ]
  path_thinned x p v (n ∷ rs) line known all =
      let next : Known (v, n) = All-head Known (v, n) (path n rs) all in
      let rest = All-tail Known (v, n) (path n rs) all in
      elim (cases_Bool (keep v))
      as (λ _. f x v +ℤ (f v n +ℤ total (along f) (path n rs)) ≡ total (along f) (path x (filter keep (v ∷ n ∷ rs))) +ℤ f (last_of x (filter keep (v ∷ n ∷ rs))) (last_of n rs)) [
        | inl y ↦
            let later = path_thinned v v n rs (line_twice (at v) (at n)) next rest in
            rw y (omega (arith, ints, later))
        | inr out ↦
            let b = betweens p v n out known next in
            let through =
            line_through (at v) (at p) (at x) (at n) b.before (line_round (at x) (at v) (at p) (line_back (at p) (at v) (at x) line)) b.line in
            let back = line_round (at n) (at x) (at v) (line_back (at v) (at x) (at n) through) in
            let later = path_thinned x v n rs (line_round (at x) (at v) (at n) back) next rest in
            rw out (omega (arith, ints, later, adds.adds x v n (from_line (at x) (at v) (at n) back)))
      ]

  -- round a walk from z, which is kept, or where none is
  from_place : (z : ℕ) (rs : List ℕ) → (keep z ≡ true) ⊎ (filter keep (z ∷ rs) ≡ []) → All Known (round_edges (z ∷ rs)) →
      total (along f) (round_edges (filter keep (z ∷ rs))) ≡ total (along f) (round_edges (z ∷ rs))
  from_place z [] (inl y) all = rw y refl
  from_place z [] (inr none) all = ap (λ l. total (along f) (round_edges l)) none ∙ omega (arith, ints, self z)
  from_place z (v ∷ rs) which all = by which
    where
      tail : All Known (path v (rs ++ z ∷ []))
      tail = subst (All Known) (sym (path-append v rs z [])) (All-tail Known (z, v) (path v rs ++ (last_of v rs, z) ∷ []) all)

      sum : f z v +ℤ total (along f) (path v (rs ++ z ∷ [])) ≡
          total (along f) (path z (filter keep (v ∷ rs ++ z ∷ []))) +ℤ f (last_of z (filter keep (v ∷ rs ++ z ∷ []))) (last_of v (rs ++ z ∷ []))
      sum = path_thinned z z v (rs ++ z ∷ []) (line_twice (at z) (at v)) (All-head Known (z, v) (path v rs ++ (last_of v rs, z) ∷ []) all) tail

      -- the walk as it was
      whole : total (along f) (round_edges (z ∷ v ∷ rs)) ≡ f z v +ℤ total (along f) (path v (rs ++ z ∷ []))
      whole =
          omega (
            arith,
            ints,
            total-round_edges (along f) z (v ∷ rs),
            ap (total (along f)) (path-append v rs z []),
            total-append (along f) (path v rs) ((last_of v rs, z) ∷ []),
          )

      ends : last_of v (rs ++ z ∷ []) ≡ z
      ends = last_of-append v rs z []

      kept : List ℕ
      kept = filter keep (v ∷ rs)

      by : (keep z ≡ true) ⊎ (filter keep (z ∷ v ∷ rs) ≡ []) → total (along f) (round_edges (filter keep (z ∷ v ∷ rs))) ≡ total (along f) (round_edges (z ∷ v ∷ rs))
      by (inl y) =
          let all_kept : filter keep (v ∷ rs ++ z ∷ []) ≡ kept ++ z ∷ [] = filter-append keep (v ∷ rs) (z ∷ []) ∙ ap (λ c. kept ++ cond c (z ∷ []) []) y in
          let front : filter keep (z ∷ v ∷ rs) ≡ z ∷ kept = ap (λ c. cond c (z ∷ kept) kept) y in
          omega (
            arith,
            ints,
            whole,
            sum,
            ap (λ l. total (along f) (path z l)) all_kept,
            ap (total (along f)) (path-append z kept z []),
            total-append (along f) (path z kept) ((last_of z kept, z) ∷ []),
            ap (λ l. f (last_of z l) (last_of v (rs ++ z ∷ []))) all_kept,
            ap (λ u. f u (last_of v (rs ++ z ∷ []))) (last_of-append z kept z []),
            ap (f z) ends,
            self z,
            ap (λ l. total (along f) (round_edges l)) front,
            total-round_edges (along f) z kept,
          )
      by (inr none) =
          let no_more : filter keep (v ∷ rs ++ z ∷ []) ≡ [] = nothing none in
          omega (
            arith,
            ints,
            whole,
            sum,
            ap (λ l. total (along f) (path z l)) no_more,
            ap (λ l. f (last_of z l) (last_of v (rs ++ z ∷ []))) no_more,
            ap (f z) ends,
            self z,
            ap (λ l. total (along f) (round_edges l)) none,
          )
        where
          nothing : filter keep (z ∷ v ∷ rs) ≡ [] → filter keep (v ∷ rs ++ z ∷ []) ≡ []
          nothing e = elim (cases_Bool (keep z)) as (λ _. filter keep (v ∷ rs ++ z ∷ []) ≡ []) [
            | inl y ↦ let some : z ∷ kept ≡ [] = rw y at e in absurd cc
            | inr n ↦
                let rest : kept ≡ [] = rw n at e in
                filter-append keep (v ∷ rs) (z ∷ []) ∙ ap (λ l. l ++ filter keep (z ∷ [])) rest ∙ ap (λ c. cond c (z ∷ []) []) n
          ]

  -- round any walk
  walk_thinned : (walk : List ℕ) → All Known (round_edges walk) → total (along f) (round_edges (filter keep walk)) ≡ total (along f) (round_edges walk)
  walk_thinned [] all = refl
  walk_thinned (z ∷ rs) all = elim (cases_lt 0 (count_by keep (z ∷ rs)))
      as (λ _. total (along f) (round_edges (filter keep (z ∷ rs))) ≡ total (along f) (round_edges (z ∷ rs))) [
        | inl some ↦ turned (split_by keep (z ∷ rs) some)
        | inr none ↦ from_place z rs (inr (none_pass keep (z ∷ rs) (omega (arith, none)))) all
      ]
    where
      turned : Splits keep (z ∷ rs) → total (along f) (round_edges (filter keep (z ∷ rs))) ≡ total (along f) (round_edges (z ∷ rs))
      turned s =
          let a = s.front in
          let b = s.member ∷ s.back in
          let known : All Known (round_edges (b ++ a)) =
          All-permutation Known (round_edges (a ++ b)) (round_edges (b ++ a)) (round_edges-moved a b) (subst (λ l. All Known (round_edges l)) s.joined all) in
          let sum = from_place s.member (s.back ++ a) (inl s.passes) known in
          ap (λ l. total (along f) (round_edges (filter keep l))) s.joined
          ∙ ap (λ l. total (along f) (round_edges l)) (filter-append keep a b) ∙ sym (round_sum-moved (along f) (filter keep a) (filter keep b))
          ∙ sym (ap (λ l. total (along f) (round_edges l)) (filter-append keep b a)) ∙ sum ∙ round_sum-moved (along f) a b
          ∙ sym (ap (λ l. total (along f) (round_edges l)) s.joined)

-- a walk without needless places
pub thinned_sum : (points : List (List ℤ)) (es : List (ℕ × ℕ)) (f : ℕ → ℕ → ℤ) → AddsAlongLines points f → (walk : List ℕ) → All (IsKnown es) (round_edges walk) →
    total (along f) (round_edges (thinned points es walk)) ≡ total (along f) (round_edges walk)
thinned_sum points es f adds walk all = walk_thinned points f adds (λ v. not (is_needless points es v)) (IsKnown es) (between points es) walk all
