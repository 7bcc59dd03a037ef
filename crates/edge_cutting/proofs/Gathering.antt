-- Places inside an edge, gathered piece after piece, and then sorted.
use Rattle.std.specs.Prelude.{◌≡◌, ◌≢◌, ℕ, suc, ◌+◌, ◌*◌, ◌<◌, ◌≤◌, ℤ, pos, List, [], ◌∷◌, ◌++◌, true, false, Bool, cond, not, ◌&&◌, nat_lt, count_by, filter, length, get_or, map}
use Rattle.std.specs.List.{All, AllPairs, Contains}
use Rattle.std.specs.List.Sorted.{IsPermutation, IsSortedBy}
use Rattle.std.specs.Ordering.{is_lt, nat_cmp, ordering_then}
use Rattle.std.proofs.Common.{Equal, Greater, Less, ◌==◌, arith, ltb, refl, sym, ap, subst, ◌∙◌, inl, inr}
use Rattle.std.proofs.Math.Nat.{mul-lt-mul_of_pos_right}
use Rattle.std.proofs.lemmas.Bool.{cases_lt, cases_order, false≢true, le-ltb, lt-ltb, ltb-false}
use Rattle.std.proofs.lemmas.List.{get_or_default, get_or-map, length-map, map-append}
use Rattle.std.proofs.lemmas.List.Elements.{All-append, All-contains, All-from_get_or, All-map}
use Rattle.std.proofs.lemmas.List.MinMax.{IsStrictWeakOrder-by_number}
use Rattle.std.proofs.lemmas.List.Sorted.{All-permutation, Contains-permutation, IsPermutation-map, IsPermutation-sym, sum_by-IsPermutation}
use Rattle.std.proofs.lemmas.List.Sums.{sum_by-append}
use Rattle.chain_terms.specs.Chains.{one_if}
use Rattle.chain_terms.specs.Sums.{upto}
use Rattle.chain_laws.specs.Sorting.{sorted_by}
use Rattle.chain_laws.proofs.Ascending.{filter-ascends, filter-upto_same, kept_at}
use Rattle.chain_laws.proofs.Places.{get_or-up_from, length-up_from}
use Rattle.chain_laws.proofs.Sorting.{sorted_by-permutation, sorted_by-sorted, sorted_same, tie, tie-parts}
use Rattle.face_plane.specs.Planes.{point_at}
use Rattle.mb_base.specs.declared.point.Box3.{Box3}
use Rattle.box_tree.specs.Touching.{box_at, no_box, touches, touching_numbers}
use Rattle.sheet_terms.specs.Cuts.{cuts, is_inside, is_nearer}
use Rattle.edge_cutting.specs.Boxes.{point_box}
use Rattle.edge_cutting.specs.Inside.{AreApart, is_on_line, with_spans}
use Rattle.edge_cutting.specs.Passed.{HasPassed, IsFound, IsStepped, far, is_passed, stride}
use Rattle.edge_cutting.specs.Spans.{LeadsTo, box_between}
use Rattle.edge_cutting.specs.declared.steps.Steps.{Steps}
use Rattle.edge_cutting.proofs.Counting.{count_filters, filter_filter, ordered_same}
use Rattle.edge_cutting.proofs.Nearer.{Stands, inner, near_inside, nearer_by, passed_all, passed_next, passed_none, same_place, stride_some, times_less}

-- the numbers of the boxes of points near an area
pub touching_is : (points : List (List ℤ)) (area : Box3) →
    touching_numbers (map point_box points) area ≡ filter (λ v. touches (point_box (point_at points v)) area) (upto (length points))
touching_is points area =
    ap (λ n. filter (λ k. touches (box_at (map point_box points) k) area) (upto n)) (length-map points point_box)
    ∙ filter-upto_same (λ k. touches (box_at (map point_box points) k) area) (λ v. touches (point_box (point_at points v)) area) (length points)
    (λ k low. ap (λ b. touches b area) (get_or-map point_box points k [] no_box low))

-- what holds of the numbers below n that pass a test
pub all_filtered : (P : ℕ → Type 0) (q : ℕ → Bool) (n : ℕ) → ((v : ℕ) → v < n → q v ≡ true → P v) → All P (filter q (upto n))
all_filtered P q n h = All-from_get_or P (filter q (upto n)) 0 (λ i low.
    let kept = kept_at q 0 n i low in
    h (get_or (filter q (upto n)) i 0) (omega (arith, kept.high)) kept.passes)

pub all_upto : (P : ℕ → Type 0) (n : ℕ) → ((v : ℕ) → v < n → P v) → All P (upto n)
all_upto P n h = All-from_get_or P (upto n) 0 (λ i low.
    let at : get_or (upto n) i 0 ≡ i = get_or-up_from 0 n i 0 (omega (arith, low, length-up_from 0 n)) ∙ zero_more i in
    subst P (sym at) (h i (omega (arith, low, length-up_from 0 n))))
  where
    zero_more : (i : ℕ) → 0 + i ≡ i
    zero_more i = omega arith

-- such numbers are numbers of points
pub near_below : (points : List (List ℤ)) (area : Box3) (near : List ℕ) → near ≡ touching_numbers (map point_box points) area → All (λ v. v < length points) near
near_below points area near e =
    subst (λ l. All (λ v. v < length points) l) (sym (e ∙ touching_is points area))
    (all_filtered (λ v. v < length points) (λ v. touches (point_box (point_at points v)) area) (length points) (λ v low h. low))

-- places with spans, without them
with_spans-places : (points : List (List ℤ)) (a : ℕ) (vs : List ℕ) → map (λ f. f.1) (with_spans points a vs) ≡ vs
with_spans-places points a [] = refl
with_spans-places points a (v ∷ vs) = ap (λ l. v ∷ l) (with_spans-places points a vs)

count_by-append : (p : ℕ → Bool) (xs ys : List ℕ) → count_by p (xs ++ ys) ≡ count_by p xs + count_by p ys
count_by-append p xs ys = sum_by-append (λ x. cond (p x) 1 0) xs ys

module _ (points : List (List ℤ)) (a b : ℕ) (s : Steps) (some : 0 < s.count) (leads : LeadsTo (point_at points a) (point_at points b) s) (apart : AreApart points)
    (la : a < length points) (lb : b < length points) where
  abbrev n : ℕ
  n = length points

  -- at first none is passed
  pub passed_start : HasPassed points a b s 1 []
  passed_start = record {
    counts = λ p. ap (count_by p)
        (sym (none_left (upto n) (all_upto (λ v. is_passed points a b s 1 v ≡ false) n (λ v low. passed_none points a b s some leads apart la lb v low))));
    each = λ k d low. absurd (omega (arith, low));
  }
    where
      none_left : (xs : List ℕ) → All (λ v. is_passed points a b s 1 v ≡ false) xs → filter (is_passed points a b s 1) xs ≡ []
      none_left [] all = refl
      none_left (x ∷ xs) all =
          ap (λ c. cond c (x ∷ filter (is_passed points a b s 1) xs) (filter (is_passed points a b s 1) xs)) (all 0 x (omega arith))
          ∙ none_left xs (λ k d low. all (suc k) d (omega (arith, low)))

  -- one more piece
  pub passed_more : (j l : ℕ) → 0 < j → j ≤ l → l < s.count → (found : List (ℕ × ℕ)) (near : List ℕ) → near ≡ touching_numbers (map point_box points) (box_between s j l) →
      HasPassed points a b s j found → HasPassed points a b s (l + 1) (found ++ with_spans points a (filter (is_on_line points a b) near))
  passed_more j l more order less found near e h =
      let area = box_between s j l in
      let touch : ℕ → Bool = λ v. touches (point_box (point_at points v)) area in
      let both : ℕ → Bool = λ v. touch v && is_on_line points a b v in
      let added : filter (is_on_line points a b) near ≡ filter both (upto n) =
      ap (filter (is_on_line points a b)) (e ∙ touching_is points area) ∙ filter_filter (is_on_line points a b) touch (upto n) in
      let new = filter both (upto n) in
      let next = all_upto (λ v. one_if (is_passed points a b s j v) + one_if (both v) ≡ one_if (is_passed points a b s (l + 1) v)) n
      (λ v low. passed_next points a b s some leads apart la lb v low j l more order less) in
      subst (λ vs. HasPassed points a b s (l + 1) (found ++ with_spans points a vs)) (sym added) (record {
        counts = λ p.
            let whole : map (λ f. f.1) (found ++ with_spans points a new) ≡ map (λ f. f.1) found ++ new =
            map-append (λ f. f.1) found (with_spans points a new) ∙ ap (λ vs. map (λ f. f.1) found ++ vs) (with_spans-places points a new) in
            ap (count_by p) whole ∙ count_by-append p (map (λ f. f.1) found) new ∙ ap (λ m. m + count_by p new) (h.counts p)
            ∙ count_filters p (is_passed points a b s j) both (is_passed points a b s (l + 1)) (upto n) next;
        each = All-append (IsFound points a b) found (with_spans points a new) h.each
            (All-map (IsFound points a b) (λ v. (far points a v, v)) new
            (all_filtered (λ v. IsFound points a b (far points a v, v)) both n
            (λ v low t. record { below = low; inside = near_inside points a b s some leads apart la lb v low j l more order less t; far = refl })));
      })

  -- the places inside
  abbrev pub insides : List ℕ
  insides = filter (is_inside points a b) (upto n)

  abbrev pub nearer : ℕ → ℕ → Bool
  nearer v w = ltb (far points a v) (far points a w)

  pub record IsPlace (v : ℕ) : Type 0 where
    pub below : v < n
    pub inside : is_inside points a b v ≡ true

  pub all_inside : All IsPlace insides
  all_inside = all_filtered IsPlace (is_inside points a b) n (λ v low t. record { below = low; inside = t })

  -- places that lie equally far are one
  pub same_far : (v w : ℕ) → IsPlace v → IsPlace w → far points a v ≡ far points a w → v ≡ w
  same_far v w h k e =
      let i = inner points a b s some leads apart la lb v h.below h.inside in
      let m = inner points a b s some leads apart la lb w k.below k.inside in
      let stride_above = stride_some points a b s some leads in
      let equal : i.steps * stride s ≡ m.steps * stride s = sym i.far ∙ e ∙ m.far in
      let same : i.steps ≡ m.steps = elim (cases_order i.steps m.steps) as (λ _. i.steps ≡ m.steps) [
        | inl is ↦ is
        | inr (inl l) ↦ absurd (omega (arith, equal, mul-lt-mul_of_pos_right l stride_above))
        | inr (inr l) ↦ absurd (omega (arith, equal, mul-lt-mul_of_pos_right l stride_above))
      ] in
      apart.apart v w h.below k.below
      (same_place points a b s some leads v w (pos m.steps) (subst (λ t. Stands points a b s some leads v (pos t)) same i.stands) m.stands)

  -- of two different places the tests agree
  pub agree : (v w : ℕ) → IsPlace v → IsPlace w → v ≢ w → is_nearer points a b v w ≡ not (nearer w v)
  agree v w h k differ =
      let i = inner points a b s some leads apart la lb v h.below h.inside in
      let m = inner points a b s some leads apart la lb w k.below k.inside in
      let stride_above = stride_some points a b s some leads in
      let by_steps : nearer w v ≡ nat_lt m.steps i.steps =
      ap (λ t. nat_lt t (far points a v)) m.far ∙ ap (λ t. nat_lt (m.steps * stride s) t) i.far ∙ times_less m.steps i.steps (stride s) stride_above in
      nearer_by points a b s some leads v w i.steps m.steps i.stands m.stands
      ∙ one_way i.steps m.steps (λ e. differ (same_far v w h k (i.far ∙ ap (λ t. t * stride s) e ∙ sym m.far)))
      ∙ ap not (sym by_steps)
    where
      one_way : (i m : ℕ) → i ≢ m → nat_lt i m ≡ not (nat_lt m i)
      one_way i m d = elim (cases_lt i m) as (λ _. nat_lt i m ≡ not (nat_lt m i)) [
        | inl l ↦ lt-ltb i m l ∙ sym (ap not (le-ltb m i (omega (arith, l))))
        | inr l ↦ le-ltb i m l ∙ sym (ap not (lt-ltb m i (omega (arith, l, d))))
      ]

  all_agree : AllPairs (λ v w. is_nearer points a b v w ≡ not (nearer w v)) insides
  all_agree i j d l low =
      let at : (k : ℕ) → k < length insides → get_or insides k d ≡ get_or insides k 0 = λ k m. get_or_default insides k d 0 m in
      let up = filter-ascends (is_inside points a b) 0 n i j l low in
      agree (get_or insides i d) (get_or insides j d) (all_inside i d (omega (arith, l, low))) (all_inside j d low)
      (λ e. omega (arith, e, up, at i (omega (arith, l, low)), at j low))

  -- the places inside the edge in order
  pub cuts_sorted : cuts points a b ≡ sorted_by nearer insides
  cuts_sorted = ordered_same (is_nearer points a b) nearer insides all_agree

  -- what is found and sorted by how far it lies are the places inside the edge in order
  pub sorted_places : (u w : List (ℕ × ℕ)) → HasPassed points a b s s.count u → IsPermutation u w →
      ((k : ℕ) (d : ℕ × ℕ) → k + 1 < length w → (get_or w k d).0 ≤ (get_or w (k + 1) d).0) → map (λ f. f.1) w ≡ cuts points a b
  sorted_places u w h moved up =
      let vs = map (λ f. f.1) w in
      let each = All-permutation (IsFound points a b) u w moved h.each in
      let order = IsStrictWeakOrder-by_number (far points a) in
      let rises : IsSortedBy nearer vs = λ k d low high.
      let short : k + 1 < length w = omega (arith, high, length-map w (λ f. f.1)) in
      let this = get_or-map (λ f. f.1) w k (0, 0) d (omega (arith, short)) in
      let next = get_or-map (λ f. f.1) w (k + 1) (0, 0) d short in
      let f = each k (0, 0) (omega (arith, short)) in
      let g = each (k + 1) (0, 0) short in
      ap (λ t. nearer t (get_or vs k d)) next ∙ ap (λ t. nearer (get_or w (k + 1) (0, 0)).1 t) this
      ∙ le-ltb (far points a (get_or w (k + 1) (0, 0)).1) (far points a (get_or w k (0, 0)).1) (omega (arith, up k (0, 0) short, f.far, g.far)) in
      let counts : (p : ℕ → Bool) → count_by p vs ≡ count_by p (sorted_by nearer insides) = λ p.
      sum_by-IsPermutation (λ x. cond (p x) 1 0) (map (λ f. f.1) u) vs (IsPermutation-map (λ f. f.1) u w moved) ∙ h.counts p
      ∙ ap (count_by p) (filter-upto_same (is_passed points a b s s.count) (is_inside points a b) n (λ v low. passed_all points a b s some leads apart la lb v low))
      ∙ sym (sum_by-IsPermutation (λ x. cond (p x) 1 0) insides (sorted_by nearer insides) (sorted_by-permutation nearer insides)) in
      let all_found : All IsPlace vs = All-map IsPlace (λ f. f.1) w (λ k d low. let f = each k d low in record { below = f.below; inside = f.inside }) in
      let equal : (x y : ℕ) → Contains vs x → Contains (sorted_by nearer insides) y → tie nearer x y ≡ true → x ≡ y = λ x y hx hy t.
      let level = tie-parts nearer x y t in
      let back = Contains-permutation (sorted_by nearer insides) insides y (IsPermutation-sym insides (sorted_by nearer insides) (sorted_by-permutation nearer insides)) hy in
      same_far x y (All-contains IsPlace vs x all_found hx) (All-contains IsPlace insides y all_inside back)
      (omega (arith, ltb-false (far points a x) (far points a y) level.0, ltb-false (far points a y) (far points a x) level.1)) in
      sorted_same nearer order vs (sorted_by nearer insides) rises (sorted_by-sorted nearer order insides) counts equal
      ∙ sym cuts_sorted

-- the start, where what is the same has other names
pub passed_from : (points p' : List (List ℤ)) (a a' b b' : ℕ) (s : Steps) (found : List (ℕ × ℕ)) → p' ≡ points → a' ≡ a → b' ≡ b → found ≡ [] → IsStepped points a b s →
    AreApart points → HasPassed p' a' b' s 1 found
passed_from points p' a a' b b' s found ep ea eb ef st apart = rw (ep, ea, eb, ef) (passed_start points a b s st.some st.leads apart st.a_below st.b_below)

-- and the end
pub found_places : (points p' : List (List ℤ)) (a a' b b' : ℕ) (s : Steps) (from : ℕ) (u w : List (ℕ × ℕ)) → p' ≡ points → a' ≡ a → b' ≡ b → IsStepped points a b s →
    AreApart points → from ≡ s.count → HasPassed p' a' b' s from u → IsPermutation u w →
    ((k : ℕ) (d : ℕ × ℕ) → k + 1 < length w → (get_or w k d).0 ≤ (get_or w (k + 1) d).0) → map (λ f. f.1) w ≡ cuts points a b
found_places points p' a a' b b' s from u w ep ea eb st apart ef h moved up =
    let passed : HasPassed points a b s s.count u =
    subst (λ t. HasPassed points a b s t u) ef
    (subst (λ t. HasPassed points a t s from u) eb (subst (λ t. HasPassed points t b' s from u) ea (subst (λ t. HasPassed t a' b' s from u) ep h))) in
    sorted_places points a b s st.some st.leads apart st.a_below st.b_below u w passed moved up

-- pairs in order
pub pair_order : (x y : ℕ × ℕ) → is_lt (ordering_then (nat_cmp y.0 x.0) (nat_cmp y.1 x.1)) ≡ false → x.0 ≤ y.0
pair_order x y h = elim (cases_lt y.0 x.0) as (λ _. x.0 ≤ y.0) [
  | inr l ↦ l
  | inl l ↦ absurd (false≢true (sym h ∙ ap (λ b. is_lt (ordering_then (cond b Less (cond (y.0 == x.0) Equal Greater)) (nat_cmp y.1 x.1))) (lt-ltb y.0 x.0 l)))
]
