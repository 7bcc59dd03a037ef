-- Marks of rims, and keys that tell of which edges a rim has one.
use Rattle.std.proofs.Common.{◌≡◌, ◌<◌, ◌≤◌, ◌+◌, ◌++◌, ◌∙◌, ℕ, Bool, List, [], ◌∷◌, true, false, ap, arith, drop, get_or, inl, inr, length, map, refl, set, suc, sym, take, zero}
use Rattle.std.specs.Prelude.{◌⊎◌, ◌&&◌, ◌||◌, if◌then◌else◌, not}
use Rattle.std.specs.List.{list_any}
use Rattle.std.proofs.lemmas.Bool.{both_ways, cases_Bool, cases_eq}
use Rattle.std.proofs.lemmas.List.{get_or-map, get_or-set_other, get_or-set_same, get_or_default, length-map, length-set, map-append, same_lists, take_all, take_more}
use Rattle.std.proofs.lemmas.List.Folds.{list_any-append}
use Rattle.chain_laws.proofs.Paths.{last_of-append, path-append}
use Rattle.chain_laws.proofs.Places.{get_or-up_from, length-up_from}
use Rattle.chain_terms.specs.Paths.{last_of, path}
use Rattle.chain_terms.specs.Sums.{upto}
use Rattle.sheet_terms.specs.Chains.{same_edge, upward}
use Rattle.plane_chains.specs.EdgeBoxes.{pair_of}
use Rattle.plane_chains.specs.Pairs.{edge_at}
use Rattle.plane_chains.specs.Tellings.{has_key, unmarked}
use Rattle.plane_chains.proofs.FirstKeys.{with_key}
use Rattle.plane_chains.proofs.WayLists.{edges_equal}

zero_plus : (n : ℕ) → 0 + n ≡ n
zero_plus n = omega arith

-- the first marks are taken
pub record IsUnmarked (rims : List (List ℕ)) (keys : List (ℕ × ℕ)) (before marks : List Bool) (i : ℕ) : Type 0 where
  pub long : length marks ≡ length before
  pub done : (k : ℕ) → k < i → get_or marks k false ≡ (get_or before k false && not (has_key keys (get_or rims k [])))
  pub rest : (k : ℕ) → i ≤ k → get_or marks k false ≡ get_or before k false

pub unmarked_none : (rims : List (List ℕ)) (keys : List (ℕ × ℕ)) (marks : List Bool) → IsUnmarked rims keys marks marks 0
unmarked_none rims keys marks = record { long = refl; done = λ k low. absurd (omega (arith, low)); rest = λ k low. refl }

and_false : (b : Bool) → false ≡ (b && false)
and_false true = refl
and_false false = refl

and_true : (b : Bool) → b ≡ (b && true)
and_true true = refl
and_true false = refl

pub unmarked_yes : (rims : List (List ℕ)) (keys : List (ℕ × ℕ)) (before marks : List Bool) (i : ℕ) → i < length before → has_key keys (get_or rims i []) ≡ true →
    IsUnmarked rims keys before marks i → IsUnmarked rims keys before (set marks i false) (i + 1)
unmarked_yes rims keys before marks i low has is = record {
  long = length-set marks i false ∙ is.long;
  done = λ k less. by k less (cases_eq k i);
  rest = λ k more. get_or-set_other marks i k false false (λ e. omega (arith, more, e)) ∙ is.rest k (omega (arith, more));
}
  where
    by : (k : ℕ) → k < i + 1 → (k ≡ i) ⊎ (k ≡ i → ⊥) → get_or (set marks i false) k false ≡ (get_or before k false && not (has_key keys (get_or rims k [])))
    by k less (inl e) =
        ap (λ j. get_or (set marks i false) j false) e ∙ get_or-set_same marks i false false (omega (arith, low, is.long))
        ∙ and_false (get_or before k false) ∙ ap (λ b. get_or before k false && not b) (sym (ap (λ j. has_key keys (get_or rims j [])) e ∙ has))
    by k less (inr e) = get_or-set_other marks i k false false e ∙ is.done k (omega (arith, less, e))

pub unmarked_no : (rims : List (List ℕ)) (keys : List (ℕ × ℕ)) (before marks : List Bool) (i : ℕ) → has_key keys (get_or rims i []) ≡ false →
    IsUnmarked rims keys before marks i → IsUnmarked rims keys before marks (i + 1)
unmarked_no rims keys before marks i has is = record {
  long = is.long;
  done = λ k less. by k less (cases_eq k i);
  rest = λ k more. is.rest k (omega (arith, more));
}
  where
    by : (k : ℕ) → k < i + 1 → (k ≡ i) ⊎ (k ≡ i → ⊥) → get_or marks k false ≡ (get_or before k false && not (has_key keys (get_or rims k [])))
    by k less (inl e) =
        is.rest k (omega (arith, e)) ∙ and_true (get_or before k false) ∙ ap (λ b. get_or before k false && not b) (sym (ap (λ j. has_key keys (get_or rims j [])) e ∙ has))
    by k less (inr e) = is.done k (omega (arith, less, e))

pub unmarked_all : (rims : List (List ℕ)) (keys : List (ℕ × ℕ)) (before marks : List Bool) (i : ℕ) → length before ≡ length rims → length before ≤ i →
    IsUnmarked rims keys before marks i → marks ≡ unmarked rims keys before
unmarked_all rims keys before marks i many end is =
    same_lists marks (unmarked rims keys before) (is.long ∙ many ∙ sym (length-map (upto (length rims)) h ∙ length-up_from 0 (length rims))) at
  where
    h : ℕ → Bool
    h j = get_or before j false && not (has_key keys (get_or rims j []))

    at : (k : ℕ) (d : Bool) → k < length marks → get_or marks k d ≡ get_or (unmarked rims keys before) k d
    at k d low =
        get_or_default marks k d false low ∙ is.done k (omega (arith, low, end, is.long))
        ∙ sym (get_or-map (λ j. get_or before j false && not (has_key keys (get_or rims j []))) (upto (length rims)) k 0 d (omega (arith, low, many, is.long, length-up_from 0 (length rims)))
        ∙ ap (λ j. get_or before j false && not (has_key keys (get_or rims j []))) (get_or-up_from 0 (length rims) k 0 (omega (arith, low, many, is.long)) ∙ zero_plus k))

-- an edge that is a key
abbrev pub is_key : List (ℕ × ℕ) → (ℕ × ℕ) → Bool
is_key keys e = list_any (same_edge (upward e)) keys

-- on the way round a rim, none so far
pub record HasNone (keys : List (ℕ × ℕ)) (rim : List ℕ) (k from : ℕ) : Type 0 where
  pub from_is : from ≡ last_of (get_or rim 0 0) (take k (drop 1 rim))
  pub none : list_any (is_key keys) (path (get_or rim 0 0) (take k (drop 1 rim))) ≡ false

pub none_begun : (keys : List (ℕ × ℕ)) (rim : List ℕ) → HasNone keys rim 0 (get_or rim 0 0)
none_begun keys rim = record { from_is = refl; none = refl }

module _ (keys : List (ℕ × ℕ)) (rim : List ℕ) (k from to : ℕ) (low : k < length (drop 1 rim)) (is : to ≡ get_or (drop 1 rim) k 0) (on : HasNone keys rim k from) where
  longer : path (get_or rim 0 0) (take (k + 1) (drop 1 rim)) ≡ path (get_or rim 0 0) (take k (drop 1 rim)) ++ (from, to) ∷ []
  longer =
      ap (path (get_or rim 0 0)) (take_more (drop 1 rim) k 0 low ∙ ap (λ y. take k (drop 1 rim) ++ y ∷ []) (sym is))
      ∙ path-append (get_or rim 0 0) (take k (drop 1 rim)) to []
      ∙ ap (λ v. path (get_or rim 0 0) (take k (drop 1 rim)) ++ (v, to) ∷ []) (sym on.from_is)

  any_longer : list_any (is_key keys) (path (get_or rim 0 0) (take (k + 1) (drop 1 rim))) ≡ (is_key keys (from, to) || false)
  any_longer =
      ap (list_any (is_key keys)) longer ∙ list_any-append (is_key keys) (path (get_or rim 0 0) (take k (drop 1 rim))) ((from, to) ∷ [])
      ∙ ap (λ b. b || (is_key keys (from, to) || false)) on.none

  pub none_more : is_key keys (from, to) ≡ false → HasNone keys rim (k + 1) to
  none_more fails = record {
    from_is = sym (ap (last_of (get_or rim 0 0)) (take_more (drop 1 rim) k 0 low ∙ ap (λ y. take k (drop 1 rim) ++ y ∷ []) (sym is))
        ∙ last_of-append (get_or rim 0 0) (take k (drop 1 rim)) to []);
    none = any_longer ∙ ap (λ b. b || false) fails;
  }

  pub key_found : is_key keys (from, to) ≡ true → true ≡ has_key keys rim
  key_found holds = sym (in_round rim low (any_longer ∙ ap (λ b. b || false) holds)) where
    or_here : (a b : Bool) → a ≡ true → (a || b) ≡ true
    or_here a b e = ap (λ c. c || b) e

    in_path : (x : ℕ) (r : List ℕ) (n : ℕ) → list_any (is_key keys) (path x (take n r)) ≡ true → list_any (is_key keys) (path x r) ≡ true
    in_path x r zero h = absurd (both_ways false refl h)
    in_path x [] (suc n) h = h
    in_path x (y ∷ r) (suc n) h = by (cases_Bool (is_key keys (x, y))) (in_path y r n) where
      by : (is_key keys (x, y) ≡ true) ⊎ (is_key keys (x, y) ≡ false) → (list_any (is_key keys) (path y (take n r)) ≡ true → list_any (is_key keys) (path y r) ≡ true) →
          list_any (is_key keys) (path x (y ∷ r)) ≡ true
      by (inl e) rest = or_here (is_key keys (x, y)) (list_any (is_key keys) (path y r)) e
      by (inr e) rest = ap (λ c. c || list_any (is_key keys) (path y r)) e ∙ rest (ap (λ c. c || list_any (is_key keys) (path y (take n r))) (sym e) ∙ h)

    in_round : (r : List ℕ) → k < length (drop 1 r) → list_any (is_key keys) (path (get_or r 0 0) (take (k + 1) (drop 1 r))) ≡ true → has_key keys r ≡ true
    in_round [] less h = absurd (omega (arith, less))
    in_round (x ∷ s) less h =
        list_any-append (is_key keys) (path x s) ((last_of x s, x) ∷ []) ∙ or_here (list_any (is_key keys) (path x s)) (list_any (is_key keys) ((last_of x s, x) ∷ [])) (in_path x s (k + 1) h)

or_false : (b : Bool) → b ≡ (b || false)
or_false true = refl
or_false false = refl

pub none_last : (keys : List (ℕ × ℕ)) (rim : List ℕ) (k from : ℕ) → 0 < length rim → length (drop 1 rim) ≤ k → HasNone keys rim k from → is_key keys (from, get_or rim 0 0) ≡ has_key keys rim
none_last keys [] k from some end on = absurd (omega (arith, some))
none_last keys (x ∷ r) k from some end on =
    let whole : take k r ≡ r = take_all k r end in
    ap (λ v. is_key keys (v, x)) (on.from_is ∙ ap (last_of x) whole) ∙ or_false (is_key keys (last_of x r, x))
    ∙ ap (λ b. b || (is_key keys (last_of x r, x) || false)) (sym (ap (λ s. list_any (is_key keys) (path x s)) (sym whole) ∙ on.none))
    ∙ sym (list_any-append (is_key keys) (path x r) ((last_of x r, x) ∷ []))

-- keys of the first edges of pairs
any_with : (keys : List (ℕ × ℕ)) (x e : ℕ × ℕ) → list_any (same_edge e) (with_key same_edge keys x) ≡ (list_any (same_edge e) keys || same_edge e x)
any_with keys x e = by (cases_Bool (list_any (same_edge x) keys)) where
  absorbed : (a b : Bool) → (b ≡ true → a ≡ true) → a ≡ (a || b)
  absorbed true b h = refl
  absorbed false true h = h refl
  absorbed false false h = refl

  by : (list_any (same_edge x) keys ≡ true) ⊎ (list_any (same_edge x) keys ≡ false) → list_any (same_edge e) (with_key same_edge keys x) ≡ (list_any (same_edge e) keys || same_edge e x)
  by (inl there) =
      ap (λ b. list_any (same_edge e) (if b then keys else keys ++ x ∷ [])) there
      ∙ absorbed (list_any (same_edge e) keys) (same_edge e x) (λ h. ap (λ d. list_any (same_edge d) keys) (edges_equal.same e x h) ∙ there)
  by (inr new) =
      ap (λ b. list_any (same_edge e) (if b then keys else keys ++ x ∷ [])) new ∙ list_any-append (same_edge e) keys (x ∷ [])
      ∙ ap (λ b. list_any (same_edge e) keys || b) (sym (or_false (same_edge e x)))

-- the edges that cross others, so far
abbrev pub AreCrossed : List (List ℕ) → List (List ℕ) → ℕ → List (ℕ × ℕ) → Type 0
AreCrossed edges pairs k keys = (e : ℕ × ℕ) → list_any (same_edge e) keys ≡ list_any (λ (p : ℕ × ℕ). same_edge e (edge_at (map pair_of edges) p.0)) (map pair_of (take k pairs))

pub crossed_more : (edges pairs : List (List ℕ)) (k : ℕ) (keys new : List (ℕ × ℕ)) (x : ℕ × ℕ) → k < length pairs →
    x ≡ edge_at (map pair_of edges) (get_or (get_or pairs k []) 0 0) → new ≡ with_key same_edge keys x → AreCrossed edges pairs k keys → AreCrossed edges pairs (k + 1) new
crossed_more edges pairs k keys new x low is pushed so_far e =
    ap (list_any (same_edge e)) pushed ∙ any_with keys x e
    ∙ (λ j. so_far e j || (ap (same_edge e) is ∙ or_false (same_edge e (edge_at (map pair_of edges) (get_or (get_or pairs k []) 0 0)))) j)
    ∙ sym (list_any-append (λ (p : ℕ × ℕ). same_edge e (edge_at (map pair_of edges) p.0)) (map pair_of (take k pairs)) (pair_of (get_or pairs k []) ∷ []))
    ∙ ap (list_any (λ (p : ℕ × ℕ). same_edge e (edge_at (map pair_of edges) p.0)))
    (sym (map-append pair_of (take k pairs) (get_or pairs k [] ∷ [])) ∙ ap (map pair_of) (sym (take_more pairs k [] low)))

pub crossed_all : (edges pairs : List (List ℕ)) (k : ℕ) (keys : List (ℕ × ℕ)) → length pairs ≤ k → AreCrossed edges pairs k keys →
    (e : ℕ × ℕ) → list_any (same_edge e) keys ≡ list_any (λ (p : ℕ × ℕ). same_edge e (edge_at (map pair_of edges) p.0)) (map pair_of pairs)
crossed_all edges pairs k keys end is e = is e ∙ ap (λ ps. list_any (λ (p : ℕ × ℕ). same_edge e (edge_at (map pair_of edges) p.0)) (map pair_of ps)) (take_all k pairs end)
