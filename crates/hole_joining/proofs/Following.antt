-- Runs of places: what is far away can be left out of a pass, and the runs of a ring follow a join.
use Rattle.std.specs.Prelude.{◌≡◌, ℕ, zero, suc, ◌+◌, ◌-◌, ◌*◌, ◌<◌, ◌≤◌, ℤ, pos, ◌-ℤ◌, ◌*ℤ◌, ◌≤ℤ◌, List, []}
use Rattle.std.specs.Prelude.{◌∷◌, ◌++◌, Bool, true, false, nat_lt, length, get_or, take, drop, set, unsigned_abs}
use Rattle.std.specs.Prelude.{Option, Some, None}
use Rattle.std.specs.Int.{int_min, int_max}
use Rattle.std.specs.List.{All, sum_by}
use Rattle.std.proofs.Common.{arith, refl, sym, ap, subst, ◌∙◌, inl, inr}
use Rattle.std.proofs.lemmas.Bool.{cases_Bool, cases_eq, ltb-true, ltb-false, cond-true, cond-false, false_from_ne_true}
use Rattle.std.proofs.lemmas.Int.{ints, clamps}
use Rattle.std.proofs.lemmas.List.{append_assoc, length-append, length-drop, take-append-drop, take-append-le}
use Rattle.std.proofs.lemmas.List.{drop-append-le, drop-drop, get_or-set_same, get_or-set_other, length-set}
use Rattle.std.proofs.lemmas.List.{length-take-le, take_more, drop_more}
use Rattle.std.proofs.lemmas.List.Elements.{All-append, All-cons, All-head, All-nil, All-tail, All-weaker}
use Rattle.std.proofs.lemmas.List.Sums.{sum_by-append}
use Rattle.std.proofs.lemmas.Nat.{mul-le}
use Rattle.std.proofs.Math.Seq.{take-append-add, take-append_seam, drop-append-add}
use Rattle.face_plane.specs.Planes.{Plane, squared_distance}
use Rattle.hole_joining.specs.declared.bridge.Bridge.{Bridge}
use Rattle.hole_joining.specs.declared.runs.Run.{Run}
use Rattle.face_plane.specs.Rings.{vertex_at}
use Rattle.hole_joining.specs.Bridges.{bridges_to, join}
use Rattle.hole_joining.specs.Passes.{better, best_of}
use Rattle.hole_joining.specs.Runs.{IsRound, AreRuns, HaveRuns, IsFar, both, run_at, spread, without}

-- a bridge that is no shorter than the best is not taken
far_kept : (p : Bridge → Bool) (best : Option Bridge) (b : Bridge) (d : ℤ) → b.squared_length ≡ unsigned_abs d → IsFar best d → better p best b ≡ best
far_kept p None b d e far = elim far [ ]
far_kept p (Some c) b d e far =
    let none : nat_lt b.squared_length c.squared_length ≡ false =
    false_from_ne_true (nat_lt b.squared_length c.squared_length)
    (λ y. absurd (omega (arith, ints, far, e, ltb-true b.squared_length c.squared_length y))) in
    rw none refl

-- so places whose points are far away change nothing
pub far_passed : (at : Plane) (h i : ℕ) (p : Bridge → Bool) (best : Option Bridge) (c j : ℕ) (vs : List ℕ) → c ≤ length vs →
    All (λ v. IsFar best (squared_distance (at h) (at v))) (take c vs) →
    best_of p best (bridges_to at h i (j + c) (drop c vs)) ≡ best_of p best (bridges_to at h i j vs)
far_passed at h i p best zero j vs within far = let e : j + 0 ≡ j = omega arith in ap (λ k. best_of p best (bridges_to at h i k vs)) e
far_passed at h i p best (suc c) j [] within far = absurd (omega (arith, within))
far_passed at h i p best (suc c) j (v ∷ vs) within far =
    let Far : ℕ → Type 0 = λ v. IsFar best (squared_distance (at h) (at v)) in
    let b : Bridge = record { ring = i; place = j; squared_length = unsigned_abs (squared_distance (at h) (at v)) } in
    let e : j + suc c ≡ suc j + c = omega arith in
    ap (λ k. best_of p best (bridges_to at h i k (drop c vs))) e
    ∙ far_passed at h i p best c (suc j) vs (omega (arith, within)) (All-tail Far v (take c vs) far)
    ∙ sym (ap (λ o. best_of p o (bridges_to at h i (suc j) vs))
    (far_kept p best b (squared_distance (at h) (at v)) refl (All-head Far v (take c vs) far)))

-- of a box no point is nearer than the nearest
nearer_square : (x y : ℤ) → unsigned_abs x ≤ unsigned_abs y → (x *ℤ x) ≤ℤ (y *ℤ y)
nearer_square x y h =
    let few = mul-le (unsigned_abs x) (unsigned_abs x) (unsigned_abs y) (unsigned_abs y) h h in
    omega (arith, ints, few, square x, square y)
  where
    square : (z : ℤ) → z *ℤ z ≡ pos (unsigned_abs z * unsigned_abs z)
    square z = grind (arith, ints)

nearest_axis : (s l h x : ℤ) → l ≤ℤ x → x ≤ℤ h → ((int_min (int_max s l) h -ℤ s) *ℤ (int_min (int_max s l) h -ℤ s)) ≤ℤ ((x -ℤ s) *ℤ (x -ℤ s))
nearest_axis s l h x low high = nearer_square (int_min (int_max s l) h -ℤ s) (x -ℤ s) (omega (arith, ints, clamps, low, high))

pub nearest_first : (r : Run) (s p : ℤ × ℤ) → IsRound r p →
    squared_distance s (int_min (int_max s.0 r.low.0) r.high.0, int_min (int_max s.1 r.low.1) r.high.1) ≤ℤ squared_distance s p
nearest_first r s p round =
    omega (arith, ints, nearest_axis s.0 r.low.0 r.high.0 p.0 round.left round.right, nearest_axis s.1 r.low.1 r.high.1 p.1 round.bottom round.top)

-- a box round two boxes
pub both_first : (r s : Run) (p : ℤ × ℤ) → IsRound r p → IsRound (both r s) p
both_first r s p round = record {
  left = omega (arith, ints, clamps, round.left);
  right = omega (arith, ints, clamps, round.right);
  bottom = omega (arith, ints, clamps, round.bottom);
  top = omega (arith, ints, clamps, round.top);
}

pub both_second : (r s : Run) (p : ℤ × ℤ) → IsRound s p → IsRound (both r s) p
both_second r s p round = record {
  left = omega (arith, ints, clamps, round.left);
  right = omega (arith, ints, clamps, round.right);
  bottom = omega (arith, ints, clamps, round.bottom);
  top = omega (arith, ints, clamps, round.top);
}

-- how many places are in runs
abbrev pub counted : List Run → ℕ
counted rs = sum_by (λ (r : Run). r.count) rs

-- one run more
pub one_run_more : (at : Plane) (rs : List Run) (r : Run) (vs : List ℕ) → AreRuns at rs vs → counted rs + r.count ≤ length vs →
    All (λ v. IsRound r (at v)) (take r.count (drop (counted rs) vs)) → AreRuns at (rs ++ r ∷ []) vs
one_run_more at [] r vs are within round = (omega (arith, within), round, tt)
one_run_more at (q ∷ qs) r vs are within round =
    let one : counted (q ∷ []) ≡ q.count = omega arith in
    let split : counted (q ∷ qs) ≡ q.count + counted qs = omega (arith, sum_by-append (λ (r : Run). r.count) (q ∷ []) qs, one) in
    let behind : drop (counted (q ∷ qs)) vs ≡ drop (counted qs) (drop q.count vs) =
    ap (λ n. drop n vs) split ∙ sym (drop-drop (counted qs) q.count vs) in (
      are.0,
      are.1,
      one_run_more at qs r (drop q.count vs) are.2 (omega (arith, within, split, length-drop q.count vs))
          (subst (λ l. All (λ v. IsRound r (at v)) (take r.count l)) behind round),
    )

-- each run is at most as long as the list
pub runs_short : (at : Plane) (rs : List Run) (vs : List ℕ) (n more : ℕ) → AreRuns at rs vs → length vs + more < n → All (λ r. r.count + more < n) rs
runs_short at [] vs n more are small = All-nil (λ (r : Run). r.count + more < n)
runs_short at (r ∷ rs) vs n more are small =
    All-cons (λ (r : Run). r.count + more < n) r rs (omega (arith, are.0, small))
    (runs_short at rs (drop r.count vs) n more are.2
    (omega (arith, small, length-append (take r.count vs) (drop r.count vs), ap length (take-append-drop r.count vs))))

-- what holds of two lists together
apart : (P : ℕ → Type 0) (xs ys : List ℕ) → All P (xs ++ ys) → All P xs × All P ys
apart P [] ys h = (All-nil P, h)
apart P (x ∷ xs) ys h = let r = apart P xs ys (All-tail P x (xs ++ ys) h) in (All-cons P x xs (All-head P x (xs ++ ys) h) r.0, r.1)

-- runs follow a join
pub runs_joined : (at : Plane) (rs : List Run) (front mid back : List ℕ) (place : ℕ) (more : Run) → length front ≡ place + 1 →
    more.count ≡ length mid → All (λ v. IsRound more (at v)) mid → AreRuns at rs (front ++ back) →
    AreRuns at (spread rs place more) (front ++ (mid ++ back))
runs_joined at [] front mid back place more here count round are = tt
runs_joined at (r ∷ rs) front mid back place more here count round are =
    elim (cases_Bool (nat_lt place r.count)) as (λ _. AreRuns at (spread (r ∷ rs) place more) (front ++ (mid ++ back))) [
      | inl y ↦
          subst (λ l. AreRuns at l (front ++ (mid ++ back)))
          (sym (cond-true (nat_lt place r.count) (both r more ∷ rs) (r ∷ spread rs (place - r.count) more) y))
          (within (omega (arith, here, ltb-true place r.count y)))
      | inr n ↦
          subst (λ l. AreRuns at l (front ++ (mid ++ back)))
          (sym (cond-false (nat_lt place r.count) (both r more ∷ rs) (r ∷ spread rs (place - r.count) more) n))
          (behind (λ f h a. runs_joined at rs f mid back (place - r.count) more h count round a) (ltb-false place r.count n))
    ]
  where
    Round : Run → ℕ → Type 0
    Round r v = IsRound r (at v)

    all : ℕ
    all = length front

    lengths : length (front ++ (mid ++ back)) ≡ length (front ++ back) + length mid
    lengths = omega (arith, length-append front (mid ++ back), length-append mid back, length-append front back)

    within : length front ≤ r.count → AreRuns at (both r more ∷ rs) (front ++ (mid ++ back))
    within long =
        let k = r.count - length front in
        let wide : r.count + more.count ≡ length front + (length mid + k) = omega (arith, long, count) in
        let narrow : r.count ≡ length front + k = omega (arith, long) in
        let taken : take (r.count + more.count) (front ++ (mid ++ back)) ≡ front ++ (mid ++ take k back) =
        ap (λ n. take n (front ++ (mid ++ back))) wide ∙ take-append-add front (mid ++ back) (length mid + k)
        ∙ ap (λ l. front ++ l) (take-append-add mid back k) in
        let dropped : drop (r.count + more.count) (front ++ (mid ++ back)) ≡ drop r.count (front ++ back) =
        ap (λ n. drop n (front ++ (mid ++ back))) wide ∙ drop-append-add front (mid ++ back) (length mid + k) ∙ drop-append-add mid back k
        ∙ sym (ap (λ n. drop n (front ++ back)) narrow ∙ drop-append-add front back k) in
        let old : All (Round r) (front ++ take k back) =
        subst (All (Round r)) (ap (λ n. take n (front ++ back)) narrow ∙ take-append-add front back k) are.1 in
        let wider : All (Round (both r more)) (front ++ take k back) =
        All-weaker (Round r) (Round (both r more)) (λ v h. both_first r more (at v) h) (front ++ take k back) old in
        let parts = apart (Round (both r more)) front (take k back) wider in
        let middle = All-weaker (Round more) (Round (both r more)) (λ v h. both_second r more (at v) h) mid round in (
          omega (arith, lengths, are.0, count),
          subst (All (Round (both r more))) (sym taken)
              (All-append (Round (both r more)) front (mid ++ take k back) parts.0 (All-append (Round (both r more)) mid (take k back) middle parts.1)),
          subst (AreRuns at rs) (sym dropped) are.2,
        )

    behind : ((f : List ℕ) → length f ≡ (place - r.count) + 1 → AreRuns at rs (f ++ back) →
        AreRuns at (spread rs (place - r.count) more) (f ++ (mid ++ back))) → r.count ≤ place →
        AreRuns at (r ∷ spread rs (place - r.count) more) (front ++ (mid ++ back))
    behind rest_joined short =
        let few : r.count ≤ length front = omega (arith, short, here) in
        let taken : take r.count (front ++ (mid ++ back)) ≡ take r.count (front ++ back) =
        take-append-le r.count front (mid ++ back) few ∙ sym (take-append-le r.count front back few) in
        let cut : length (drop r.count front) ≡ (place - r.count) + 1 = omega (arith, length-drop r.count front, here, short) in (
          omega (arith, lengths, are.0),
          subst (All (Round r)) (sym taken) are.1,
          subst (AreRuns at (spread rs (place - r.count) more)) (sym (drop-append-le r.count front (mid ++ back) few))
              (rest_joined (drop r.count front) cut (subst (AreRuns at rs) (drop-append-le r.count front back few) are.2)),
        )

-- a ring without what a join put into it
pub without_join : (ring hole : List ℕ) (place : ℕ) → place < length ring → without (place + 1) (length hole + 2) (join ring place hole) ≡ ring
without_join ring hole place within =
    let front = take (place + 1) ring in
    let back = drop (place + 1) ring in
    let two = vertex_at hole 0 ∷ vertex_at ring place ∷ [] in
    let all : join ring place hole ≡ front ++ (hole ++ (two ++ back)) =
    append_assoc (front ++ hole) two back ∙ append_assoc front hole (two ++ back) in
    let long : place + 1 ≡ length front = sym (length-take-le (place + 1) ring (omega (arith, within))) in
    let first : take (place + 1) (join ring place hole) ≡ front =
    ap (take (place + 1)) all ∙ ap (λ n. take n (front ++ (hole ++ (two ++ back)))) long ∙ take-append_seam front (hole ++ (two ++ back)) in
    let last : drop (place + 1 + (length hole + 2)) (join ring place hole) ≡ back =
    ap (drop (place + 1 + (length hole + 2))) all ∙ ap (λ n. drop (n + (length hole + 2)) (front ++ (hole ++ (two ++ back)))) long
    ∙ drop-append-add front (hole ++ (two ++ back)) (length hole + 2) ∙ drop-append-add hole (two ++ back) 2 in
    (λ j. first j ++ last j) ∙ take-append-drop (place + 1) ring

-- a ring in three parts
pub three_parts : (ring : List ℕ) (i count : ℕ) → take i ring ++ (take count (drop i ring) ++ drop (i + count) ring) ≡ ring
three_parts ring i count =
    ap (λ l. take i ring ++ (take count (drop i ring) ++ l)) (sym (drop-drop count i ring))
    ∙ ap (λ l. take i ring ++ l) (take-append-drop count (drop i ring)) ∙ take-append-drop i ring

-- each ring still has runs where one ring and its runs are changed
pub still_runs : (at : Plane) (rings : List (List ℕ)) (runs : List (List Run)) (i : ℕ) (ring : List ℕ) (rs : List Run) → i < length rings →
    HaveRuns at rings runs → AreRuns at rs ring → HaveRuns at (set rings i ring) (set runs i rs)
still_runs at rings runs i ring rs within have are = record {
  count = omega (arith, length-set rings i ring, length-set runs i rs, have.count);
  each = λ k. elim (cases_eq k i) as (λ _. AreRuns at (get_or (set runs i rs) k []) (get_or (set rings i ring) k [])) [
    | inl e ↦
        subst (λ k. AreRuns at (get_or (set runs i rs) k []) (get_or (set rings i ring) k [])) (sym e)
        (subst (λ l. AreRuns at l (get_or (set rings i ring) i [])) (sym (get_or-set_same runs i rs [] (omega (arith, within, have.count))))
        (subst (AreRuns at rs) (sym (get_or-set_same rings i ring [] within)) are))
    | inr n ↦
        subst (λ l. AreRuns at l (get_or (set rings i ring) k [])) (sym (get_or-set_other runs i k rs [] n))
        (subst (AreRuns at (get_or runs k [])) (sym (get_or-set_other rings i k ring [] n)) (have.each k))
  ];
}

-- a list with one member changed
pub set_parts : {X : Type 0} (xs : List X) (k : ℕ) (y : X) → k < length xs → set xs k y ≡ take k xs ++ y ∷ drop (k + 1) xs
set_parts [] k y within = absurd (omega (arith, within))
set_parts (x ∷ xs) zero y within = refl
set_parts (x ∷ xs) (suc k) y within =
    let e : suc k + 1 ≡ suc (k + 1) = omega arith in
    ap (λ l. x ∷ l) (set_parts xs k y (omega (arith, within))) ∙ sym (ap (λ n. x ∷ (take k xs ++ y ∷ drop n (x ∷ xs))) e)

-- a run before the place, and the one with the place
pub spread_on : (rs : List Run) (k place : ℕ) (more : Run) → k < length rs → (d : Run) → nat_lt place (get_or rs k d).count ≡ false →
    take (k + 1) rs ++ spread (drop (k + 1) rs) (place - (get_or rs k d).count) more ≡ take k rs ++ spread (drop k rs) place more
spread_on rs k place more within d far =
    let r = get_or rs k d in
    let rest = drop (k + 1) rs in
    ap (λ l. l ++ spread rest (place - r.count) more) (take_more rs k d within)
    ∙ append_assoc (take k rs) (r ∷ []) (spread rest (place - r.count) more)
    ∙ ap (λ l. take k rs ++ l)
    (sym (ap (λ l. spread l place more) (drop_more rs k d within)
    ∙ cond-false (nat_lt place r.count) (both r more ∷ rest) (r ∷ spread rest (place - r.count) more) far))

pub spread_here : (rs : List Run) (k place : ℕ) (more : Run) → k < length rs → (d : Run) → nat_lt place (get_or rs k d).count ≡ true →
    set rs k (both (get_or rs k d) more) ≡ take k rs ++ spread (drop k rs) place more
spread_here rs k place more within d here =
    let r = get_or rs k d in
    let rest = drop (k + 1) rs in
    set_parts rs k (both r more) within
    ∙ ap (λ l. take k rs ++ l)
    (sym (ap (λ l. spread l place more) (drop_more rs k d within)
    ∙ cond-true (nat_lt place r.count) (both r more ∷ rest) (r ∷ spread rest (place - r.count) more) here))

-- the run of one place
pub one_place : (p q : ℤ × ℤ) → p ≡ q → IsRound (run_at p) q
one_place p q e =
    subst (IsRound (run_at p)) e
    (record { left = omega (arith, ints); right = omega (arith, ints); bottom = omega (arith, ints); top = omega (arith, ints) })

-- how many places one run more has
pub counted_more : (rs : List Run) (r : Run) → counted (rs ++ r ∷ []) ≡ counted rs + r.count
counted_more rs r = let one : counted (r ∷ []) ≡ r.count = omega arith in omega (arith, sum_by-append (λ (r : Run). r.count) rs (r ∷ []), one)

-- runs of one ring more
pub one_ring_more : (at : Plane) (runs : List (List Run)) (x : List Run) (f : ℕ → List ℕ) →
    ((i : ℕ) → AreRuns at (get_or runs i []) (f i)) → AreRuns at x (f (length runs)) → (i : ℕ) → AreRuns at (get_or (runs ++ x ∷ []) i []) (f i)
one_ring_more at [] x f each here zero = here
one_ring_more at [] x f each here (suc i) = tt
one_ring_more at (r ∷ rs) x f each here zero = each zero
one_ring_more at (r ∷ rs) x f each here (suc i) = one_ring_more at rs x (λ k. f (suc k)) (λ k. each (suc k)) here i
