-- As many triangles are kept in all planes as on all sides: each plane has one side or two, and each kept triangle faces one that it has.
use Rattle.std.proofs.Common.{◌≡◌, ◌∙◌, ◌+◌, ℕ, ℤ, Bool, List, [], ◌∷◌, true, false, ap, arith, cond, filter, get_or, length, map, refl}
use Rattle.std.specs.Prelude.{◌||◌, if◌then◌else◌, not, pos, sum_by}
use Rattle.std.specs.List.{All, list_any}
use Rattle.std.proofs.lemmas.Bool.{both_ways, or_parts}
use Rattle.std.proofs.lemmas.Int.{ints}
use Rattle.std.proofs.lemmas.List.Elements.{All-cons, All-filter, All-head, All-nil, All-tail, filter_passes}
use Rattle.std.proofs.lemmas.List.Filters.{length-filter_both}
use Rattle.std.proofs.lemmas.List.Sums.{sum_by-cons}
use Rattle.chain_terms.specs.Sums.{total}
use Rattle.chain_laws.specs.Sums.{total-same_all}
use Rattle.edge_cutting.proofs.Numbered.{firsts_all}
use Rattle.plan_laws.specs.Views.{front_seen, front_turned}
use Rattle.plane_chains.proofs.Behind.{IsTurned}
use Rattle.plane_groups.specs.Grouped.{bent, is_front}
use Rattle.sheet_laws.proofs.OncePlanes.{side_in_one, total_by}
use Rattle.sheet_terms.specs.Crossings.{coplanar}
use Rattle.sheet_terms.specs.Faces.{Face, in_plane, is_left, planes, seen, sides}
use Rattle.sheet_terms.specs.Kept.{free, is_out, kept, remains}
use Rattle.sheet_terms.specs.Regions.{Side, all_sides, side_of}
use Rattle.plane_remesh.specs.Pushed.{side_seen}
use Rattle.plane_remesh.proofs.Bounding.{filter-mapped}
use Rattle.plane_remesh.proofs.Coplanar.{IsBent, bent_all, coplanar_same, filter_same, kept_side, left_on_side, seen_own, seen_same, turns_on}
use Rattle.plane_remesh.proofs.Sided.{firsts_in, picked}

-- no member passes
none_of : {X : Type 0} (p : X → Bool) (xs : List X) → list_any p xs ≡ false → All (λ x. p x ≡ false) xs
none_of p [] h = All-nil (λ x. p x ≡ false)
none_of p (x ∷ xs) h = let both = or_parts (p x) (list_any p xs) h in All-cons (λ y. p y ≡ false) x xs both.0 (none_of p xs both.1)

-- so none is left
none_left : {X : Type 0} (p : X → Bool) (xs : List X) → All (λ x. p x ≡ false) xs → filter p xs ≡ []
none_left p [] all = refl
none_left p (x ∷ xs) all =
    ap (λ b. cond b (x ∷ filter p xs) (filter p xs)) (All-head (λ y. p y ≡ false) x xs all) ∙ none_left p xs (All-tail (λ y. p y ≡ false) x xs all)

-- a sum of numbers
pub total_pos : {X : Type 0} (g : X → ℕ) (xs : List X) → total (λ x. pos (g x)) xs ≡ pos (sum_by g xs)
total_pos g [] = refl
total_pos g (x ∷ xs) = omega (arith, ints, total_pos g xs, sum_by-cons g x xs)

-- a number for each side: those that are picked have them all, where a side of which none is there has 0
module _ (test : Face → Bool) (c : Bool → ℕ) where
  picked_sum : (a b : Bool) (fs : List Face) → (a ≡ false → list_any test fs ≡ false → c true ≡ 0) → (b ≡ false → list_any (λ f. not (test f)) fs ≡ false → c false ≡ 0) →
      sum_by (λ f. c (test f)) (picked test a b fs) ≡ cond a 0 (c true) + cond b 0 (c false)
  picked_sum a b [] none_a none_b = by a b none_a none_b
    where
      by : (a b : Bool) → (a ≡ false → false ≡ false → c true ≡ 0) → (b ≡ false → false ≡ false → c false ≡ 0) → 0 ≡ cond a 0 (c true) + cond b 0 (c false)
      by true true h k = refl
      by true false h k = let e = k refl refl in omega (arith, e)
      by false true h k = let e = h refl refl in omega (arith, e)
      by false false h k = let e = h refl refl in let f = k refl refl in omega (arith, e, f)
  picked_sum a b (x ∷ fs) none_a none_b = by (λ c d. picked_sum c d fs) (test x) a b refl none_a none_b
    where
      -- a member of the other side doesn't count
      past : (t u : Bool) → t ≡ false → u ≡ false → (t || u) ≡ false
      past true u h k = h
      past false u h k = k

      plain : (m : ℕ) → 0 + m ≡ m
      plain m = omega arith

      turned : (m n : ℕ) → m + (n + 0) ≡ n + m
      turned m n = omega arith

      never : {P : Type 0} → true ≡ false → P
      never e = absurd (both_ways true e refl)

      by : ((a b : Bool) → (a ≡ false → list_any test fs ≡ false → c true ≡ 0) → (b ≡ false → list_any (λ f. not (test f)) fs ≡ false → c false ≡ 0) →
          sum_by (λ f. c (test f)) (picked test a b fs) ≡ cond a 0 (c true) + cond b 0 (c false)) →
          (t a b : Bool) → test x ≡ t → (a ≡ false → (test x || list_any test fs) ≡ false → c true ≡ 0) →
          (b ≡ false → (not (test x) || list_any (λ f. not (test f)) fs) ≡ false → c false ≡ 0) →
          sum_by (λ f. c (test f)) (cond (test x) (cond a (picked test a b fs) (x ∷ picked test true b fs)) (cond b (picked test a b fs) (x ∷ picked test a true fs)))
          ≡ cond a 0 (c true) + cond b 0 (c false)
      by rest true true b e h k =
          ap (λ t. sum_by (λ f. c (test f)) (cond t (picked test true b fs) (cond b (picked test true b fs) (x ∷ picked test true true fs)))) e
          ∙ rest true b (λ n _. never n) (λ n none. k n (past (not (test x)) (list_any (λ f. not (test f)) fs) (ap not e) none))
      by rest true false b e h k =
          let own = rest true b (λ n _. never n) (λ n none. k n (past (not (test x)) (list_any (λ f. not (test f)) fs) (ap not e) none)) in
          ap (λ t. sum_by (λ f. c (test f)) (cond t (x ∷ picked test true b fs) (cond b (picked test false b fs) (x ∷ picked test false true fs)))) e
          ∙ sum_by-cons (λ f. c (test f)) x (picked test true b fs) ∙ (λ i. c (e i) + own i) ∙ ap (λ m. c true + m) (plain (cond b 0 (c false)))
      by rest false a true e h k =
          ap (λ t. sum_by (λ f. c (test f)) (cond t (cond a (picked test a true fs) (x ∷ picked test true true fs)) (picked test a true fs))) e
          ∙ rest a true (λ n none. h n (past (test x) (list_any test fs) e none)) (λ n _. never n)
      by rest false a false e h k =
          let own = rest a true (λ n none. h n (past (test x) (list_any test fs) e none)) (λ n _. never n) in
          ap (λ t. sum_by (λ f. c (test f)) (cond t (cond a (picked test a false fs) (x ∷ picked test true false fs)) (x ∷ picked test a true fs))) e
          ∙ sum_by-cons (λ f. c (test f)) x (picked test a true fs) ∙ (λ i. c (e i) + own i) ∙ turned (c false) (cond a 0 (c true))

-- the plane of s
module _ (points : List (List ℤ)) (all : List Face) (s : Face) (bent_s : IsBent points s) where
  abbrev own : List Face
  own = coplanar points (bent points all) s

  abbrev stay : List Face
  stay = kept (front_seen points s) own

  own_bent : All (IsBent points) own
  own_bent = All-filter (in_plane points s) (IsBent points) (bent points all) (bent_all points all)

  own_in : All (λ f. in_plane points s f ≡ true) own
  own_in = filter_passes (in_plane points s) (bent points all)

  own_turned : All (IsTurned (front_seen points s)) own
  own_turned k d low = turns_on points s (get_or own k d) bent_s (own_bent k d low) (own_in k d low) (front_turned points s)

  -- what holds of its triangles holds of those that are kept
  stay_all : (P : Face → Type 0) → All P own → All P stay
  stay_all P h =
      let at = front_seen points s in
      let out = filter (is_out (free at own)) own in All-filter (remains at out) P out (All-filter (is_out (free at own)) P own h)

  -- those that face the front, or the back
  abbrev to : Bool → Face → Bool
  to front f = if front then is_front points f else not (is_front points f)

  abbrev count : Bool → ℕ
  count front = length (filter (to front) stay)

  abbrev Lies : Face → Type 0
  Lies t = IsBent points t × (in_plane points s t ≡ true)

  -- so many are kept of the side that t faces
  side_count : (t : Face) → Lies t → (side_of points (bent points all) t).kept ≡ count (is_front points t)
  side_count t lies =
      let front = is_front points t in
      let see : seen points t ≡ side_seen points s front = seen_own points t ∙ seen_same points s t bent_s lies.0 lies.1 front in
      (λ i. length (filter (λ f. is_left (see i) f.corners) (kept (see i) (coplanar_same points s t bent_s lies.0 lies.1 all i))))
      ∙ ap (λ (l : List Face). length (filter (λ f. is_left (side_seen points s front) f.corners) l)) (kept_side points s own front own_turned)
      ∙ ap length (filter_same (λ f. is_left (side_seen points s front) f.corners) (to front) stay
      (stay_all (λ f. is_left (side_seen points s front) f.corners ≡ to front f)
      (λ k d low. left_on_side points s (get_or own k d) bent_s (own_bent k d low) (own_in k d low) front)))

  -- none where none is there
  no_count : (front : Bool) → list_any (to front) own ≡ false → count front ≡ 0
  no_count front none = ap length (none_left (to front) stay (stay_all (λ f. to front f ≡ false) (none_of (to front) own none)))

  both_counts : count true + count false ≡ length stay
  both_counts = length-filter_both (to true) (to false) (λ f. refl) stay

  -- picked ones are among the triangles
  picked_all : (P : Face → Type 0) (test : Face → Bool) (a b : Bool) (fs : List Face) → All P fs → All P (picked test a b fs)
  picked_all P test a b [] h = All-nil P
  picked_all P test a b (x ∷ fs) h =
      by (test x) a b (picked_all P test a b fs (All-tail P x fs h)) (picked_all P test true b fs (All-tail P x fs h)) (picked_all P test a true fs (All-tail P x fs h))
    where
      by : (t c d : Bool) → All P (picked test a b fs) → All P (picked test true b fs) → All P (picked test a true fs) →
          All P (cond t (cond c (picked test a b fs) (x ∷ picked test true b fs)) (cond d (picked test a b fs) (x ∷ picked test a true fs)))
      by true true d h1 h2 h3 = h1
      by true false d h1 h2 h3 = All-cons P x (picked test true b fs) (All-head P x fs h) h2
      by false c true h1 h2 h3 = h1
      by false c false h1 h2 h3 = All-cons P x (picked test a true fs) (All-head P x fs h) h3

  counts_of : (ts : List Face) → All Lies ts → total (λ (t : Side). pos t.kept) (map (side_of points (bent points all)) ts) ≡ pos (sum_by (λ f. count (is_front points f)) ts)
  counts_of [] h = refl
  counts_of (t ∷ ts) h =
      omega (
        arith,
        ints,
        side_count t (All-head Lies t ts h),
        counts_of ts (All-tail Lies t ts h),
        sum_by-cons (λ f. count (is_front points f)) t ts,
      )

  abbrev ours : List Face
  ours = picked (is_front points) false false own

  ours_are : filter (λ (t : Side). in_plane points s t.face) (all_sides points (bent points all)) ≡ map (side_of points (bent points all)) ours
  ours_are =
      filter-mapped (λ (t : Side). in_plane points s t.face) (side_of points (bent points all)) (sides points (bent points all))
      ∙ ap (map (side_of points (bent points all))) (firsts_in points s bent_s (bent points all) (bent_all points all))

  pub plane_count : total (λ (t : Side). pos t.kept) (filter (λ (t : Side). in_plane points s t.face) (all_sides points (bent points all))) ≡ pos (length stay)
  plane_count =
      ap (total (λ (t : Side). pos t.kept)) ours_are
      ∙ counts_of ours (picked_all Lies (is_front points) false false own (λ k d low. (own_bent k d low, own_in k d low)))
      ∙ ap pos (picked_sum (is_front points) count false false own (λ _ none. no_count true none) (λ _ none. no_count false none) ∙ both_counts)

-- all planes
pub kept_is : (points : List (List ℤ)) (all : List Face) →
    sum_by (λ s. length (kept (front_seen points s) (coplanar points (bent points all) s))) (planes points (bent points all))
    ≡ sum_by (λ (t : Side). t.kept) (all_sides points (bent points all))
kept_is points all =
    let fs = bent points all in
    let ps = planes points fs in
    let ss = all_sides points fs in
    let stays : Face → ℕ = λ s. length (kept (front_seen points s) (coplanar points fs s)) in
    let some : All (IsBent points) ps = firsts_all (IsBent points) (in_plane points) [] fs (bent_all points all) in
    omega (
      arith,
      ints,
      total_pos stays ps,
      total_pos (λ (t : Side). t.kept) ss,
      total_by (λ (s : Face) (t : Side). in_plane points s t.face) (λ (t : Side). pos t.kept) ps ss (side_in_one points fs (bent_all points all)),
      total-same_all (λ s. total (λ (t : Side). pos t.kept) (filter (λ (t : Side). in_plane points s t.face) ss)) (λ s. pos (stays s)) ps
          (λ k d low. plane_count points all (get_or ps k d) (some k d low)),
    )
