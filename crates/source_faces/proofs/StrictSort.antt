-- Sorting records of which no two are of the same face, list and copy: each comes before those that follow it.
use Rattle.std.proofs.Common.{◌≡◌, ℕ, zero, suc, Bool, true, false, List, [], ◌∷◌, refl, sym, ap, arith}
use Rattle.std.specs.Cmp.{IsTotalOrder}
use Rattle.std.specs.List.{All}
use Rattle.std.specs.Ordering.{is_gt, is_lt, nat_cmp, on, ordering_reverse, ordering_then, then_cmp}
use Rattle.std.specs.declared.cmp.Ordering.{Ordering}
use Rattle.std.specs.declared.cmp.Ordering.TheVariants.{Equal, Greater, Less}
use Rattle.std.proofs.lemmas.Bool.{cond_both, false≢true, true≢false}
use Rattle.std.proofs.lemmas.Cmp.{nat_cmp_total, on_total, ranked, then_total}
use Rattle.std.proofs.lemmas.List.Elements.{All-cons, All-head, All-nil, All-tail, All-weaker}
use Rattle.chain_laws.specs.Sorting.{insert_by, sorted_by}
use Rattle.source_faces.specs.Agreement.{Ascend, no_stand}
use Rattle.source_faces.specs.Stands.{stands_before}
use Rattle.source_faces.specs.declared.lists.stands.Stand.{Stand}

-- of another face, list or copy
abbrev pub Differ : Stand → Stand → Type 0
Differ s t = s.face ≡ t.face → s.list ≡ t.list → s.copy ≡ t.copy → ⊥

-- no two of the same
abbrev pub AllDiffer : List Stand → Type 0
AllDiffer [] = Unit {0}
AllDiffer (s ∷ ss) = All (Differ s) ss × AllDiffer ss

-- by face, list and copy
abbrev by_parts : Stand → Stand → Ordering
by_parts = then_cmp (on (λ s. s.face) nat_cmp) (then_cmp (on (λ s. s.list) nat_cmp) (on (λ s. s.copy) nat_cmp))

is_total : IsTotalOrder by_parts
is_total =
    then_total (on_total (λ s. s.face) nat_cmp_total) (then_total (on_total (λ s. s.list) nat_cmp_total) (on_total (λ s. s.copy) nat_cmp_total))

-- what an answer of the order says
less_is : (o : Ordering) → is_lt o ≡ true → o ≡ Less
less_is Less e = refl
less_is Equal e = absurd (false≢true e)
less_is Greater e = absurd (false≢true e)

both_equal : (o p : Ordering) → ordering_then o p ≡ Equal → (o ≡ Equal) × (p ≡ Equal)
both_equal Less p e = absurd (true≢false (ap is_lt e))
both_equal Equal p e = (refl, e)
both_equal Greater p e = absurd (true≢false (ap is_gt e))

same_number : (a b : ℕ) → nat_cmp a b ≡ Equal → a ≡ b
same_number a b e = ranked a b Equal (sym e)

-- records that differ do not tie
no_tie : (s t : Stand) → Differ s t → by_parts t s ≡ Equal → ⊥
no_tie s t differ e =
    let first = both_equal (nat_cmp t.face s.face) (ordering_then (nat_cmp t.list s.list) (nat_cmp t.copy s.copy)) e in
    let second = both_equal (nat_cmp t.list s.list) (nat_cmp t.copy s.copy) first.1 in
    differ (sym (same_number t.face s.face first.0)) (sym (same_number t.list s.list second.0)) (sym (same_number t.copy s.copy second.1))

turned : (o p : Ordering) → p ≡ ordering_reverse o → is_lt o ≡ false → (o ≡ Equal → ⊥) → is_lt p ≡ true
turned Less p e n d = absurd (true≢false n)
turned Equal p e n d = absurd (d refl)
turned Greater p e n d = ap is_lt e

-- of two that differ one comes before the other
comes_first : (s t : Stand) → stands_before t s ≡ false → Differ s t → stands_before s t ≡ true
comes_first s t n differ = turned (by_parts t s) (by_parts s t) (is_total.antisymm s t) n (no_tie s t differ)

chained : (s t u : Stand) → stands_before s t ≡ true → stands_before t u ≡ true → stands_before s u ≡ true
chained s t u a b = ap is_lt (is_total.trans s t u (less_is (by_parts s t) a) (less_is (by_parts t u) b))

-- what holds of all holds of all after an insertion, and after a sort
all_inserted : {X : Type 0} (P : X → Type 0) (lt : X → X → Bool) (x : X) (ys : List X) → P x → All P ys → All P (insert_by lt x ys)
all_inserted P lt x [] here h = All-cons P x [] here (All-nil P)
all_inserted P lt x (y ∷ ys) here h =
    cond_both (lt y x) (y ∷ insert_by lt x ys) (x ∷ y ∷ ys) (All P)
    (λ t. All-cons P y (insert_by lt x ys) (All-head P y ys h) (all_inserted P lt x ys here (All-tail P y ys h))) (λ f. All-cons P x (y ∷ ys) here h)

pub all_sorted : {X : Type 0} (P : X → Type 0) (lt : X → X → Bool) (xs : List X) → All P xs → All P (sorted_by lt xs)
all_sorted P lt [] h = h
all_sorted P lt (x ∷ xs) h = all_inserted P lt x (sorted_by lt xs) (All-head P x xs h) (all_sorted P lt xs (All-tail P x xs h))

-- each comes before all that follow
abbrev Climbs : List Stand → Type 0
Climbs [] = Unit {0}
Climbs (s ∷ ss) = All (λ t. stands_before s t ≡ true) ss × Climbs ss

climbs_inserted : (s : Stand) (ss : List Stand) → Climbs ss → All (Differ s) ss → Climbs (insert_by stands_before s ss)
climbs_inserted s [] up differ = (All-nil (λ t. stands_before s t ≡ true), tt)
climbs_inserted s (t ∷ ss) up differ =
    cond_both (stands_before t s) (t ∷ insert_by stands_before s ss) (s ∷ t ∷ ss) Climbs
    (λ y. (all_inserted (λ u. stands_before t u ≡ true) stands_before s ss y up.0, climbs_inserted s ss up.1 (All-tail (Differ s) t ss differ)))
    (λ n.
    let first = comes_first s t n (All-head (Differ s) t ss differ) in (
      All-cons (λ u. stands_before s u ≡ true) t ss first
          (All-weaker (λ u. stands_before t u ≡ true) (λ u. stands_before s u ≡ true) (λ u b. chained s t u first b) ss up.0),
      up,
    ))

climbs_sorted : (ss : List Stand) → AllDiffer ss → Climbs (sorted_by stands_before ss)
climbs_sorted [] differ = tt
climbs_sorted (s ∷ ss) differ =
    climbs_inserted s (sorted_by stands_before ss) (climbs_sorted ss differ.1) (all_sorted (Differ s) stands_before ss differ.0)

by_places : (ss : List Stand) → Climbs ss → Ascend ss
by_places [] up i j l m = absurd (omega (arith, m))
by_places (s ∷ ss) up i zero l m = absurd (omega (arith, l))
by_places (s ∷ ss) up zero (suc j) l m = up.0 j no_stand (omega (arith, m))
by_places (s ∷ ss) up (suc i) (suc j) l m = by_places ss up.1 i j (omega (arith, l)) (omega (arith, m))

-- sorted records ascend where no two are the same
pub sorted_ascend : (ss : List Stand) → AllDiffer ss → Ascend (sorted_by stands_before ss)
sorted_ascend ss differ = by_places (sorted_by stands_before ss) (climbs_sorted ss differ)
