-- Edges that lead to greater places: how they are gathered, and what they tell of a boundary.
use Rattle.std.proofs.Common.{◌≡◌, ◌<◌, ◌≤◌, ◌+◌, ◌++◌, ◌∙◌, ◌==◌, ℕ, Bool, List, [], ◌∷◌, true, false, ap, append_assoc, arith, cond, drop, filter, get_or, inl, inr, is_lt, length, map, pos, refl, suc, sym, take, zero}
use Rattle.std.specs.Prelude.{◌&&◌, Err, Ok, OnOk, Result, nat_lt}
use Rattle.std.specs.Bool.{Decides}
use Rattle.std.specs.Cmp.{IsStrictWeakOrder}
use Rattle.std.specs.List.{count_by, flat_map}
use Rattle.std.specs.List.Sorted.{IsPermutation, IsSorted}
use Rattle.std.specs.Ordering.{int_eq, nat_cmp, ordering_then}
use Rattle.std.specs.declared.cmp.Ordering.{Ordering}
use Rattle.std.proofs.lemmas.Bool.{cases_lt, cases_order}
use Rattle.std.proofs.lemmas.Bool.Decides.{Decides-and, Decides-eqb, Decides-int_eq, nat_tests}
use Rattle.std.proofs.lemmas.Cmp.{nat_cmp_total, on_total, then_total}
use Rattle.std.proofs.lemmas.Int.{ints}
use Rattle.std.proofs.lemmas.List.{append-nil, at_drop_all, at_drop_more, map-append, map-id, take_all, take_more}
use Rattle.std.proofs.lemmas.List.Elements.{All-contains, filter-append}
use Rattle.std.proofs.lemmas.List.MinMax.{ranks_by}
use Rattle.std.proofs.lemmas.List.Sums.{AllPass-from_list_all, list_all-from_AllPass}
use Rattle.chain_terms.specs.Chains.{boundary, dir, is_edge, one_if}
use Rattle.chain_terms.specs.Paths.{last_of, path, round_edges}
use Rattle.chain_laws.specs.Chains.{dir-append, dir-backward, dir-permutation, dir_contains, total-same_dir}
use Rattle.chain_laws.specs.Counts.{total-count_by}
use Rattle.chain_laws.proofs.Paths.{last_of-append, path-append}
use Rattle.chain_laws.proofs.Sorting.{sorted_same, tie, tie-parts}
use Rattle.sheet_terms.specs.Filled.{same_boundary}
use Rattle.plane_remesh.specs.Rising.{rising, way}

-- what is said of a result where it is Ok, and what follows from it
pub on_ok : {T E : Type 0} {P Q : Type 0} (r : Result T E) → (P → Q) → OnOk r P → OnOk r Q
on_ok (Ok x) f p = f p
on_ok (Err e) f p = p

-- those of two lists, one after the other
pub rising-append : (t : Bool) (xs ys : List (ℕ × ℕ)) → rising t (xs ++ ys) ≡ rising t xs ++ rising t ys
rising-append t xs ys =
    ap (filter (λ (e : ℕ × ℕ). nat_lt e.0 e.1)) (map-append (way t) xs ys) ∙ filter-append (λ (e : ℕ × ℕ). nat_lt e.0 e.1) (map (way t) xs) (map (way t) ys)

-- one edge
pub rising_yes : (out : List (ℕ × ℕ)) (from to : ℕ) → nat_lt from to ≡ true → out ++ (from, to) ∷ [] ≡ out ++ rising false ((from, to) ∷ [])
rising_yes out from to less = ap (λ (b : Bool). out ++ cond b ((from, to) ∷ []) []) (sym less)

pub rising_no : (out : List (ℕ × ℕ)) (from to : ℕ) → nat_lt from to ≡ false → out ≡ out ++ rising false ((from, to) ∷ [])
rising_no out from to more = sym (append-nil out) ∙ ap (λ (b : Bool). out ++ cond b ((from, to) ∷ []) []) (sym more)

-- on the way round a list of places
pub record IsOnRound (t : Bool) (initial : List (ℕ × ℕ)) (places : List ℕ) (k from : ℕ) (out : List (ℕ × ℕ)) : Type 0 where
  pub from_is : from ≡ last_of (get_or places 0 0) (take k (drop 1 places))
  pub edges : out ≡ initial ++ rising t (path (get_or places 0 0) (take k (drop 1 places)))

pub round_none : (t : Bool) (initial : List (ℕ × ℕ)) (places : List ℕ) → length places ≡ 0 → initial ≡ initial ++ rising t (round_edges places)
round_none t initial [] e = sym (append-nil initial)
round_none t initial (x ∷ r) e = absurd (omega (arith, e))

pub round_begun : (t : Bool) (initial : List (ℕ × ℕ)) (places : List ℕ) → IsOnRound t initial places 0 (get_or places 0 0) initial
round_begun t initial places = record { from_is = refl; edges = sym (append-nil initial) }

pub round_more : (t : Bool) (initial : List (ℕ × ℕ)) (places : List ℕ) (k from to : ℕ) (out new : List (ℕ × ℕ)) → k < length (drop 1 places) →
    to ≡ get_or (drop 1 places) k 0 → IsOnRound t initial places k from out → new ≡ out ++ rising t ((from, to) ∷ []) → IsOnRound t initial places (k + 1) to new
round_more t initial places k from to out new low is on pushed =
    let x = get_or places 0 0 in
    let r = take k (drop 1 places) in
    let more : take (k + 1) (drop 1 places) ≡ r ++ to ∷ [] = take_more (drop 1 places) k 0 low ∙ ap (λ y. take k (drop 1 places) ++ y ∷ []) (sym is) in
    let longer : path x (take (k + 1) (drop 1 places)) ≡ path x r ++ (from, to) ∷ [] =
    ap (path x) more ∙ path-append x r to [] ∙ ap (λ v. path x r ++ (v, to) ∷ []) (sym on.from_is) in
    record {
      from_is = sym (ap (last_of x) more ∙ last_of-append x r to []);
      edges = pushed ∙ ap (λ es. es ++ rising t ((from, to) ∷ [])) on.edges ∙ append_assoc initial (rising t (path x r)) (rising t ((from, to) ∷ []))
          ∙ ap (λ es. initial ++ es) (sym (rising-append t (path x r) ((from, to) ∷ [])) ∙ ap (rising t) (sym longer));
    }

pub round_done : (t : Bool) (initial : List (ℕ × ℕ)) (places : List ℕ) (k from : ℕ) (out new : List (ℕ × ℕ)) → 0 < length places → length (drop 1 places) ≤ k →
    IsOnRound t initial places k from out → new ≡ out ++ rising t ((from, get_or places 0 0) ∷ []) → new ≡ initial ++ rising t (round_edges places)
round_done t initial [] k from out new some end on pushed = absurd (omega (arith, some))
round_done t initial (x ∷ r) k from out new some end on pushed =
    let whole : take k r ≡ r = take_all k r end in
    pushed ∙ ap (λ es. es ++ rising t ((from, x) ∷ [])) on.edges ∙ append_assoc initial (rising t (path x (take k r))) (rising t ((from, x) ∷ []))
    ∙ ap (λ es. initial ++ es)
    (sym (rising-append t (path x (take k r)) ((from, x) ∷ [])) ∙ ap (λ v. rising t (path x (take k r) ++ (v, x) ∷ [])) on.from_is
    ∙ ap (λ s. rising t (path x s ++ (last_of x s, x) ∷ [])) whole)

-- the lists from one on: what is gathered, with what is left, is all
abbrev pub AreOnRounds : Bool → List (ℕ × ℕ) → List (List ℕ) → ℕ → ℕ → List (ℕ × ℕ) → Type 0
AreOnRounds t initial lists first i out =
    out ++ rising t (flat_map round_edges (drop i lists)) ≡ initial ++ rising t (flat_map round_edges (drop first lists))

pub rounds_more : (t : Bool) (initial : List (ℕ × ℕ)) (lists : List (List ℕ)) (first i : ℕ) (out new : List (ℕ × ℕ)) → i < length lists →
    AreOnRounds t initial lists first i out → new ≡ out ++ rising t (round_edges (get_or lists i [])) → AreOnRounds t initial lists first (i + 1) new
rounds_more t initial lists first i out new low on pushed =
    let one = round_edges (get_or lists i []) in
    let rest = flat_map round_edges (drop (i + 1) lists) in
    ap (λ es. es ++ rising t rest) pushed ∙ append_assoc out (rising t one) (rising t rest) ∙ ap (λ es. out ++ es) (sym (rising-append t one rest))
    ∙ sym (at_drop_more (λ ls. out ++ rising t (flat_map round_edges ls)) lists i [] low) ∙ on

pub rounds_done : (t : Bool) (initial : List (ℕ × ℕ)) (lists : List (List ℕ)) (first i : ℕ) (out : List (ℕ × ℕ)) → length lists ≤ i →
    AreOnRounds t initial lists first i out → out ≡ initial ++ rising t (flat_map round_edges (drop first lists))
rounds_done t initial lists first i out end on =
    sym (append-nil out) ∙ sym (at_drop_all (λ ls. out ++ rising t (flat_map round_edges ls)) lists i end) ∙ on

-- as many of them run between two places as before
dir-up : (es : List (ℕ × ℕ)) (a b : ℕ) → a < b → dir (filter (λ e. nat_lt e.0 e.1) es) a b ≡ dir es a b
dir-up [] a b less = refl
dir-up (e ∷ es) a b less = by (nat_lt e.0 e.1) refl (dir-up es a b less)
  where
    none : nat_lt e.0 e.1 ≡ false → is_edge e a b ≡ false
    none more = grind (arith, nat_tests, less, more)

    by : (s : Bool) → nat_lt e.0 e.1 ≡ s → dir (filter (λ f. nat_lt f.0 f.1) es) a b ≡ dir es a b →
        dir (cond s (e ∷ filter (λ f. nat_lt f.0 f.1) es) (filter (λ f. nat_lt f.0 f.1) es)) a b ≡ one_if (is_edge e a b) + dir es a b
    by true is rest = ap (λ (n : ℕ). one_if (is_edge e a b) + n) rest
    by false is rest = omega (arith, rest, ap one_if (none is))

dir-up_none : (es : List (ℕ × ℕ)) (a b : ℕ) → b ≤ a → dir (filter (λ e. nat_lt e.0 e.1) es) a b ≡ 0
dir-up_none [] a b more = refl
dir-up_none (e ∷ es) a b more = by (nat_lt e.0 e.1) refl (dir-up_none es a b more)
  where
    none : nat_lt e.0 e.1 ≡ true → is_edge e a b ≡ false
    none less = grind (arith, nat_tests, less, more)

    by : (s : Bool) → nat_lt e.0 e.1 ≡ s → dir (filter (λ f. nat_lt f.0 f.1) es) a b ≡ 0 →
        dir (cond s (e ∷ filter (λ f. nat_lt f.0 f.1) es) (filter (λ f. nat_lt f.0 f.1) es)) a b ≡ 0
    by true is rest = omega (arith, rest, ap one_if (none is))
    by false is rest = rest

dir-rising : (es : List (ℕ × ℕ)) (a b : ℕ) → a < b → dir (rising false es) a b ≡ dir es a b
dir-rising es a b less = dir-up (map (way false) es) a b less ∙ ap (λ l. dir l a b) (map-id es)

dir-sinking : (es : List (ℕ × ℕ)) (a b : ℕ) → a < b → dir (rising true es) a b ≡ dir es b a
dir-sinking es a b less = dir-up (map (way true) es) a b less ∙ dir-backward es a b

-- the order that pairs have
abbrev pub edge_cmp : ℕ × ℕ → ℕ × ℕ → Ordering
edge_cmp e f = ordering_then (nat_cmp e.0 f.0) (nat_cmp e.1 f.1)

edge_order : IsStrictWeakOrder (λ x y. is_lt (edge_cmp x y))
edge_order = ranks_by (then_total (on_total (λ (e : ℕ × ℕ). e.0) nat_cmp_total) (on_total (λ (e : ℕ × ℕ). e.1) nat_cmp_total)) (λ e. e)

one_start : (e f : ℕ × ℕ) → is_lt (edge_cmp e f) ≡ false → is_lt (edge_cmp f e) ≡ false → e.0 ≡ f.0
one_start e f h k = grind (arith, nat_tests, h, k)

one_end : (e f : ℕ × ℕ) → is_lt (edge_cmp e f) ≡ false → is_lt (edge_cmp f e) ≡ false → e.1 ≡ f.1
one_end e f h k = grind (arith, nat_tests, h, k)

-- two pairs of which neither is before the other are one
one_pair : (e f : ℕ × ℕ) → tie (λ x y. is_lt (edge_cmp x y)) e f ≡ true → e ≡ f
one_pair e f h =
    let level = tie-parts (λ x y. is_lt (edge_cmp x y)) e f h in
    ap (λ a. (a, e.1)) (one_start e f level.0 level.1) ∙ ap (λ b. (f.0, b)) (one_end e f level.0 level.1)

pub pair_decides : (e f : ℕ × ℕ) → Decides ((e.0 == f.0) && (e.1 == f.1)) (e ≡ f)
pair_decides e f =
    let both = Decides-and (e.0 == f.0) (e.1 == f.1) (Decides-eqb e.0 f.0) (Decides-eqb e.1 f.1) in (
      (λ h. let parts = both.0 h in ap (λ a. (a, e.1)) parts.0 ∙ ap (λ b. (f.0, b)) parts.1),
      (λ same. both.1 (ap (λ (p : ℕ × ℕ). p.0) same, ap (λ (p : ℕ × ℕ). p.1) same)),
    )

same_count : (es ms : List (ℕ × ℕ)) → ((a b : ℕ) → dir es a b ≡ dir ms a b) → (p : ℕ × ℕ → Bool) → count_by p es ≡ count_by p ms
same_count es ms same p = omega (arith, ints, total-same_dir (λ e. pos (one_if (p e))) es ms same, total-count_by p es, total-count_by p ms)

-- sorted lists in which each edge occurs equally often are one
one_list : (es ms : List (ℕ × ℕ)) → IsSorted edge_cmp es → IsSorted edge_cmp ms → ((a b : ℕ) → dir es a b ≡ dir ms a b) → es ≡ ms
one_list es ms up vp same = sorted_same (λ x y. is_lt (edge_cmp x y)) edge_order es ms up vp (same_count es ms same) (λ x y a b t. one_pair x y t)

-- the edges of rims and those of walks turned, that rise, and all turned, that rise; both sorted
pub record AreGathered (rims walks ups downs : List (ℕ × ℕ)) : Type 0 where
  pub ups_moved : IsPermutation (rising false rims ++ rising true walks) ups
  pub ups_sorted : IsSorted edge_cmp ups
  pub downs_moved : IsPermutation (rising true rims ++ rising false walks) downs
  pub downs_sorted : IsSorted edge_cmp downs

-- two chains have one boundary
abbrev HaveOne : List (ℕ × ℕ) → List (ℕ × ℕ) → Type 0
HaveOne es ms = (a b : ℕ) → boundary es a b ≡ boundary ms a b

module _ (rims walks ups downs : List (ℕ × ℕ)) (are : AreGathered rims walks ups downs) where
  ups_often : (a b : ℕ) → a < b → dir ups a b ≡ dir rims a b + dir walks b a
  ups_often a b less =
      dir-permutation (rising false rims ++ rising true walks) ups are.ups_moved a b ∙ dir-append (rising false rims) (rising true walks) a b
      ∙ (λ i. dir-rising rims a b less i + dir-sinking walks a b less i)

  downs_often : (a b : ℕ) → a < b → dir downs a b ≡ dir rims b a + dir walks a b
  downs_often a b less =
      dir-permutation (rising true rims ++ rising false walks) downs are.downs_moved a b ∙ dir-append (rising true rims) (rising false walks) a b
      ∙ (λ i. dir-sinking rims a b less i + dir-rising walks a b less i)

  ups_none : (a b : ℕ) → b ≤ a → dir ups a b ≡ 0
  ups_none a b more =
      dir-permutation (rising false rims ++ rising true walks) ups are.ups_moved a b ∙ dir-append (rising false rims) (rising true walks) a b
      ∙ (λ i. dir-up_none (map (way false) rims) a b more i + dir-up_none (map (way true) walks) a b more i)

  downs_none : (a b : ℕ) → b ≤ a → dir downs a b ≡ 0
  downs_none a b more =
      dir-permutation (rising true rims ++ rising false walks) downs are.downs_moved a b ∙ dir-append (rising true rims) (rising false walks) a b
      ∙ (λ i. dir-up_none (map (way true) rims) a b more i + dir-up_none (map (way false) walks) a b more i)

  -- they are one list where the boundaries are one
  lists_one : HaveOne walks rims → ups ≡ downs
  lists_one one = one_list ups downs are.ups_sorted are.downs_sorted each
    where
      each : (a b : ℕ) → dir ups a b ≡ dir downs a b
      each a b = elim (cases_lt a b) as (λ _. dir ups a b ≡ dir downs a b) [
        | inl less ↦ omega (arith, ints, one a b, ups_often a b less, downs_often a b less)
        | inr more ↦ ups_none a b more ∙ sym (downs_none a b more)
      ]

  -- and the boundaries are one where they are one list
  boundaries_one : ups ≡ downs → HaveOne walks rims
  boundaries_one same a b = elim (cases_order a b) as (λ _. boundary walks a b ≡ boundary rims a b) [
    | inl e ↦ let s = ap (dir walks a) e in let t = ap (dir rims a) e in let u = ap (λ c. dir walks c a) e in let v = ap (λ c. dir rims c a) e in omega (arith, ints, s, t, u, v)
    | inr (inl less) ↦ omega (arith, ints, ap (λ l. dir l a b) same, ups_often a b less, downs_often a b less)
    | inr (inr less) ↦ omega (arith, ints, ap (λ l. dir l b a) same, ups_often b a less, downs_often b a less)
  ]

-- the test of the definition says it
one_tested : (es ms : List (ℕ × ℕ)) → HaveOne es ms → same_boundary es ms ≡ true
one_tested es ms one =
    list_all-from_AllPass (λ (e : ℕ × ℕ). int_eq (boundary es e.0 e.1) (boundary ms e.0 e.1)) (es ++ ms)
    (λ k d low. (Decides-int_eq (boundary es (get_or (es ++ ms) k d).0 (get_or (es ++ ms) k d).1) (boundary ms (get_or (es ++ ms) k d).0 (get_or (es ++ ms) k d).1)).1
    (one (get_or (es ++ ms) k d).0 (get_or (es ++ ms) k d).1))

tested_one : (es ms : List (ℕ × ℕ)) → same_boundary es ms ≡ true → HaveOne es ms
tested_one es ms pass a b = by (dir (es ++ ms) a b) (dir (es ++ ms) b a) refl refl
  where
    at : (c d : ℕ) → 0 < dir (es ++ ms) c d → boundary es c d ≡ boundary ms c d
    at c d some =
        (Decides-int_eq (boundary es c d) (boundary ms c d)).0
        (All-contains (λ (e : ℕ × ℕ). int_eq (boundary es e.0 e.1) (boundary ms e.0 e.1) ≡ true) (es ++ ms) (c, d)
        (AllPass-from_list_all (λ (e : ℕ × ℕ). int_eq (boundary es e.0 e.1) (boundary ms e.0 e.1)) (es ++ ms) pass) (dir_contains (es ++ ms) c d some))

    by : (m n : ℕ) → dir (es ++ ms) a b ≡ m → dir (es ++ ms) b a ≡ n → boundary es a b ≡ boundary ms a b
    by (suc m) n is back = at a b (omega (arith, is))
    by zero (suc n) is back = omega (arith, ints, at b a (omega (arith, back)))
    by zero zero is back = omega (arith, ints, is, back, dir-append es ms a b, dir-append es ms b a)

-- so the test passes just where the lists are one
pub tests_lists : (rims walks ups downs : List (ℕ × ℕ)) → AreGathered rims walks ups downs → Decides (same_boundary walks rims) (ups ≡ downs)
tests_lists rims walks ups downs are =
    ((λ pass. lists_one rims walks ups downs are (tested_one walks rims pass)), (λ same. one_tested walks rims (boundaries_one rims walks ups downs are same)))
