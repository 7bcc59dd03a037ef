-- The least open edge of a chain, by how often edges occur.
use Rattle.std.proofs.Common.{◌≡◌, ◌<◌, ◌≤◌, ◌+◌, ◌⊎◌, inl, inr, ℕ, zero, suc, Bool, true, false, cond, List, [], ◌∷◌, filter, nat_lt, Option, Some, None, refl, sym, ◌∙◌, ap, subst, arith}
use Rattle.std.proofs.lemmas.Bool.{false≢true, le-ltb, lt-ltb, ltb-false}
use Rattle.chain_terms.specs.Chains.{dir, is_edge, one_if, IsClosed}
use Rattle.mesh_terms.specs.OpenEdges.{is_lesser, lesser, least_edge, open_pair}
use Rattle.std.specs.Option.{IsNone, IfSome}
use Rattle.std.specs.List.Sorted.{IsPermutation}
use Rattle.chain_terms.specs.Odd.{backward}
use Rattle.chain_laws.specs.Chains.{dir-permutation, dir-backward}
use Rattle.halfedge.specs.Surplus.{IsLeastSurplus, HasNoSurplus}
use Rattle.halfedge.proofs.Order.{one_edge, same_edge, is_itself}

-- o is the least edge of a list in which p stands n times and no edge is lesser than p
record IsLeastOf (p : ℕ × ℕ) (n : ℕ) (o : Option (ℕ × ℕ)) : Type 0 where
  there : 0 < n → o ≡ Some p
  above : (q : ℕ × ℕ) → o ≡ Some q → is_lesser q p ≡ false

-- where one edge more is counted, it is p, or p stood there before
is_counted : (p e : ℕ × ℕ) (n : ℕ) → 0 < one_if (is_edge e p.0 p.1) + n → (e ≡ p) ⊎ (0 < n)
is_counted p e n some = by (is_edge e p.0 p.1) refl some
  where
    by : (t : Bool) → is_edge e p.0 p.1 ≡ t → 0 < one_if t + n → (e ≡ p) ⊎ (0 < n)
    by true is some = inl (same_edge e p is)
    by false is some = inr (omega (arith, some))

-- one edge more, which is not below p: the answer is p where p is among them
lesser_there : (p e : ℕ × ℕ) (n : ℕ) (o : Option (ℕ × ℕ)) → is_lesser e p ≡ false → IsLeastOf p n o → (e ≡ p) ⊎ (0 < n) → lesser e o ≡ Some p
lesser_there p e n None up least (inl is) = ap Some is
lesser_there p e n None up least (inr some) = let h = least.there some in cc
lesser_there p e n (Some q) up least at = by (is_lesser e q) refl at
  where
    by : (t : Bool) → is_lesser e q ≡ t → (e ≡ p) ⊎ (0 < n) → Some (cond t e q) ≡ Some p
    by true less (inl is) = ap Some is
    by true less (inr some) = let h = least.there some in cc
    by false not_less (inr some) = least.there some
    by false not_less (inl is) =
        let less : is_lesser p q ≡ false = subst (λ f. is_lesser f q ≡ false) is not_less in
        ap Some (same_edge q p (one_edge q p (least.above q refl) less p.0 p.1 ∙ is_itself p))

-- the lesser of two edges that are not below p is not below p
lesser_above : (p e : ℕ × ℕ) (n : ℕ) (o : Option (ℕ × ℕ)) → is_lesser e p ≡ false → IsLeastOf p n o → (q : ℕ × ℕ) → lesser e o ≡ Some q → is_lesser q p ≡ false
lesser_above p e n None up least q same = let first : e ≡ q = cc in subst (λ f. is_lesser f p ≡ false) first up
lesser_above p e n (Some r) up least q same = by (is_lesser e r) same
  where
    by : (t : Bool) → Some (cond t e r) ≡ Some q → is_lesser q p ≡ false
    by true same = let first : e ≡ q = cc in subst (λ f. is_lesser f p ≡ false) first up
    by false same = least.above q same

-- the least of the edges that pass the test is p, where p passes and no lesser edge does
least_of : (test : ℕ × ℕ → Bool) (p : ℕ × ℕ) → test p ≡ true → ((q : ℕ × ℕ) → is_lesser q p ≡ true → test q ≡ false) → (es : List (ℕ × ℕ)) →
    IsLeastOf p (dir es p.0 p.1) (least_edge (filter test es))
least_of test p passes none [] = record { there = λ some. absurd (omega (arith, some)); above = λ q same. cc }
least_of test p passes none (e ∷ es) = by (test e) refl (least_of test p passes none es)
  where
    above_p : test e ≡ true → (t : Bool) → is_lesser e p ≡ t → is_lesser e p ≡ false
    above_p is true less = absurd (false≢true (sym (none e less) ∙ is))
    above_p is false up = up

    is_other : test e ≡ false → (t : Bool) → is_edge e p.0 p.1 ≡ t → is_edge e p.0 p.1 ≡ false
    is_other fails true is = absurd (false≢true (sym fails ∙ ap test (same_edge e p is) ∙ passes))
    is_other fails false is = is

    by : (t : Bool) → test e ≡ t → IsLeastOf p (dir es p.0 p.1) (least_edge (filter test es))
        → IsLeastOf p (one_if (is_edge e p.0 p.1) + dir es p.0 p.1) (least_edge (cond t (e ∷ filter test es) (filter test es)))
    by true is least =
        let up : is_lesser e p ≡ false = above_p is (is_lesser e p) refl in
        record {
          there = λ some. lesser_there p e (dir es p.0 p.1) (least_edge (filter test es)) up least (is_counted p e (dir es p.0 p.1) some);
          above = lesser_above p e (dir es p.0 p.1) (least_edge (filter test es)) up least;
        }
    by false fails least = record { there = λ some. least.there (omega (arith, some, ap one_if (is_other fails (is_edge e p.0 p.1) refl))); above = least.above }

-- the least open edge, where this one is open and no lesser edge is
pub open_pair_least : (es : List (ℕ × ℕ)) (p : ℕ × ℕ) → dir es p.1 p.0 < dir es p.0 p.1 →
    ((q : ℕ × ℕ) → is_lesser q p ≡ true → dir es q.0 q.1 ≤ dir es q.1 q.0) → open_pair es ≡ Some p
open_pair_least es p is_open least =
    let found = least_of (λ e. nat_lt (dir es e.1 e.0) (dir es e.0 e.1)) p (lt-ltb _ _ is_open) (λ q less. le-ltb _ _ (least q less)) es in
    found.there (omega (arith, is_open))

-- a test that no edge passes keeps none
filter_none : (test : ℕ × ℕ → Bool) → ((e : ℕ × ℕ) → test e ≡ false) → (es : List (ℕ × ℕ)) → filter test es ≡ []
filter_none test fails [] = refl
filter_none test fails (e ∷ es) = ap (λ t. cond t (e ∷ filter test es) (filter test es)) (fails e) ∙ filter_none test fails es

-- a chain that has no edge more often than its reverse is closed
pub closed_from_none : (es : List (ℕ × ℕ)) → ((a b : ℕ) → dir es a b ≤ dir es b a) → IsClosed es
closed_from_none es none a b = omega (arith, none a b, none b a)

-- a closed chain has no open edge
pub open_pair_closed : (es : List (ℕ × ℕ)) → IsClosed es → open_pair es ≡ None
open_pair_closed es closed =
    ap least_edge (filter_none (λ e. nat_lt (dir es e.1 e.0) (dir es e.0 e.1)) (λ e. le-ltb _ _ (omega (arith, closed e.0 e.1))) es)

-- a list that is not empty has a least edge
lesser_is_some : (e : ℕ × ℕ) (o : Option (ℕ × ℕ)) → lesser e o ≡ None → ⊥
lesser_is_some e None same = cc
lesser_is_some e (Some f) same = cc

-- where no edge of a list passes the test, p does not, which is in the list
passes_not : (test : ℕ × ℕ → Bool) (p : ℕ × ℕ) (es : List (ℕ × ℕ)) → least_edge (filter test es) ≡ None → 0 < dir es p.0 p.1 → test p ≡ false
passes_not test p [] none some = absurd (omega (arith, some))
passes_not test p (e ∷ es) none some = by (test e) refl none (is_counted p e (dir es p.0 p.1) some) (passes_not test p es)
  where
    by : (t : Bool) → test e ≡ t → least_edge (cond t (e ∷ filter test es) (filter test es)) ≡ None → (e ≡ p) ⊎ (0 < dir es p.0 p.1)
        → (least_edge (filter test es) ≡ None → 0 < dir es p.0 p.1 → test p ≡ false) → test p ≡ false
    by true is none at later = absurd (lesser_is_some e (least_edge (filter test es)) none)
    by false fails none (inl is) later = sym (ap test is) ∙ fails
    by false fails none (inr some) later = later none some

-- a chain without an open edge is closed
pub closed_from_open_pair : (es : List (ℕ × ℕ)) → open_pair es ≡ None → IsClosed es
closed_from_open_pair es none = closed_from_none es (λ a b. by a b (dir es a b) refl)
  where
    by : (a b n : ℕ) → dir es a b ≡ n → dir es a b ≤ dir es b a
    by a b zero is = omega (arith, is)
    by a b (suc n) is = ltb-false _ _ (passes_not (λ e. nat_lt (dir es e.1 e.0) (dir es e.0 e.1)) (a, b) es none (omega (arith, is)))

-- the least surplus of the edges over the turned edges, both in any order, is the least open edge
pub open_pair_found : (all back es others : List (ℕ × ℕ)) (found : Option (ℕ × ℕ)) → back ≡ backward all → IsPermutation all es → IsPermutation back others →
    (IsNone found → HasNoSurplus es others)
    → IfSome found (IsLeastSurplus es others) → found ≡ open_pair all
open_pair_found all back es others found turned same same_back none least = by found none least
  where
    back_counts : (a b : ℕ) → dir others a b ≡ dir all b a
    back_counts a b = dir-permutation back others same_back a b ∙ ap (λ l. dir l a b) turned ∙ dir-backward all a b

    by : (o : Option (ℕ × ℕ)) → (IsNone o → HasNoSurplus es others) → IfSome o (IsLeastSurplus es others) → o ≡ open_pair all
    by None none least =
        sym (open_pair_closed all (closed_from_none all (λ a b. omega (arith, none refl a b, dir-permutation all es same a b, back_counts a b))))
    by (Some p) none least =
        let more : dir all p.1 p.0 < dir all p.0 p.1 = omega (arith, least.more, dir-permutation all es same p.0 p.1, back_counts p.0 p.1) in
        sym (open_pair_least all p more (λ q less. omega (arith, least.least q less, dir-permutation all es same q.0 q.1, back_counts q.0 q.1)))
