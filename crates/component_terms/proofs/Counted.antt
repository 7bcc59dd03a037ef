-- The vertices that keep their numbers are the least of the components.
use Rattle.std.proofs.Common.{◌≡◌, ◌<◌, ◌≤◌, ◌==◌, ℕ, Bool, true, List, [], ◌∷◌, length, get_or, filter, sym, ◌∙◌, ap, subst, refl, inl, inr, arith}
use Rattle.std.specs.List.{Contains}
use Rattle.std.proofs.lemmas.Bool.{cases_lt, eq-eqb, eqb-true}
use Rattle.std.proofs.lemmas.List.Elements.{All-contains, All-from_get_or}
use Rattle.std.proofs.lemmas.List.Sums.{length-filter}
use Rattle.chain_terms.specs.Sums.{upto}
use Rattle.chain_laws.specs.Ascending.{Ascends}
use Rattle.chain_laws.proofs.Ascending.{IsKept, kept_at, kept, filter-ascends, ascends_rest, head_least, head_not_later, contains_later, contains_rest, ascending_is_filter}
use Rattle.component_terms.specs.Components.{IsJoined, IsLeast}
use Rattle.component_terms.specs.Counts.{labels, component_count}
use Rattle.component_terms.specs.Laws.{AreBelow, CountIsReached, NumberIsCount, LeastAreFew}
use Rattle.component_terms.proofs.Joined.{joined_back}
use Rattle.component_terms.proofs.Labels.{AreLabels, label, are_labels, kept_least, least_kept, label_kept}

-- whether a vertex keeps its number
abbrev pub keeps : ℕ → List (ℕ × ℕ) → ℕ → Bool
keeps n es v = label (labels n es) v == v

-- the least vertices of the components
abbrev pub least_of : ℕ → List (ℕ × ℕ) → List ℕ
least_of n es = filter (keeps n es) (upto n)

-- there are so many of them
as_many : (n : ℕ) (es : List (ℕ × ℕ)) → length (least_of n es) ≡ component_count n es
as_many n es = length-filter (keeps n es) (upto n)

-- a vertex below n is one of them where it is the least of its component
listed : (n : ℕ) (es : List (ℕ × ℕ)) (v : ℕ) → AreBelow n es → v < n → IsLeast es v → Contains (least_of n es) v
listed n es v below low least = kept (keeps n es) 0 n v (record {
  low = omega arith;
  high = omega (arith, low);
  passes = eq-eqb (label (labels n es) v) v (least_kept n es (labels n es) v (are_labels n es below) low least);
})

-- the computed number is that of the components
pub reached : CountIsReached
reached n es below = record {
  least = least_of n es;
  as_many = as_many n es;
  ascending = filter-ascends (keeps n es) 0 n;
  below = All-from_get_or (λ v. v < n) (least_of n es) 0 (λ i low. let k = kept_at (keeps n es) 0 n i low in omega (arith, k.high));
  no_lesser = All-from_get_or (IsLeast es) (least_of n es) 0 (λ i low. least (get_or (least_of n es) i 0) (kept_at (keeps n es) 0 n i low));
  every = every;
}
  where
    ls : List ℕ
    ls = labels n es

    are : AreLabels n es ls
    are = are_labels n es below

    lower : (w : ℕ) → w < n → label ls w < n
    lower w low = omega (arith, low, are.lower w low)

    every : (w : ℕ) → w < n → (v : ℕ) × Contains (least_of n es) v × IsJoined es v w
    every w low =
        let v = label ls w in
        let least = kept_least n es ls v below are (lower w low) (label_kept n es ls w below are low) in
        (v, listed n es v below (lower w low) least, joined_back es w v (are.joined w low))

    least : (v : ℕ) → IsKept (keeps n es) 0 n v → IsLeast es v
    least v k = kept_least n es ls v below are (omega (arith, k.high)) (eqb-true (label ls v) v k.passes)

-- and the only one
pub only : NumberIsCount
only points es n below has = sym has.as_many ∙ ap length same ∙ as_many points es
  where
    ls : List ℕ
    ls = labels points es

    keeping : (v : ℕ) → Contains has.least v → (v < points) × (keeps points es v ≡ true)
    keeping v inside =
        let low = All-contains (λ r. r < points) has.least v has.below inside in
        (low, eq-eqb (label ls v) v (least_kept points es ls v (are_labels points es below) low (All-contains (IsLeast es) has.least v has.no_lesser inside)))

    inside : (v : ℕ) → (v < points) × (keeps points es v ≡ true) → Contains has.least v
    inside v k =
        let there = has.every v k.0 in
        let high = kept_least points es ls v below (are_labels points es below) k.0 (eqb-true (label ls v) v k.1) there.0 (joined_back es there.0 v there.2) in
        let low = All-contains (IsLeast es) has.least there.0 has.no_lesser there.1 v there.2 in
        let e : there.0 ≡ v = omega (arith, high, low) in
        subst (Contains has.least) e there.1

    same : has.least ≡ least_of points es
    same = ascending_is_filter (keeps points es) points has.least has.ascending (λ v. (keeping v, inside v))

-- of two ascending lists, the one whose members are all in the other is no longer
ascending_few : (xs ys : List ℕ) → Ascends xs → Ascends ys → ((z : ℕ) → Contains xs z → Contains ys z) → length xs ≤ length ys
ascending_few [] ys up vp inside = omega arith
ascending_few (x ∷ xs) [] up vp inside = let (i, l, e) = inside x (0, omega arith, refl) in absurd (omega (arith, l))
ascending_few (x ∷ xs) (y ∷ ys) up vp inside =
    let low = head_least y ys vp x (inside x (0, omega arith, refl)) in
    elim (cases_lt y x) as (λ _. length (x ∷ xs) ≤ length (y ∷ ys)) [
      | inl l ↦
          let few = ascending_few (x ∷ xs) ys up (ascends_rest y ys vp)
          (λ z c. contains_rest y ys z (inside z c) (λ e. let h = head_least x xs up z c in omega (arith, l, e, h))) in
          omega (arith, few)
      | inr g ↦
          let same : y ≡ x = omega (arith, low, g) in
          let few = ascending_few xs ys (ascends_rest x xs up) (ascends_rest y ys vp)
          (λ z c. contains_rest y ys z (inside z (contains_later z x xs c)) (λ e. head_not_later x xs up (subst (Contains xs) (sym e ∙ same) c))) in
          omega (arith, few)
    ]

-- a list of least vertices is part of theirs
pub few : LeastAreFew
few points es vs below up low least =
    let fewer = ascending_few vs (least_of points es) up (filter-ascends (keeps points es) 0 points)
    (λ v inside. listed points es v below (All-contains (λ v. v < points) vs v low inside) (All-contains (IsLeast es) vs v least inside)) in
    omega (arith, fewer, as_many points es)
