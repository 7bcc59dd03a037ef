-- Marks of the numbers that occur in a list.
use Rattle.std.proofs.Common.{◌≡◌, ◌↔◌, ◌<◌, ℕ, Bool, true, false, List, [], ◌∷◌, ◌++◌, length, get_or, inl, inr, sym, ap, ◌∙◌, ◌⊎◌, subst, arith, get_or-set_other, get_or-set_same}
use Rattle.std.specs.List.{All, Contains}
use Rattle.std.proofs.Math.ListN.{set}
use Rattle.std.proofs.lemmas.Bool.{cases_eq, false≢true}
use Rattle.std.proofs.lemmas.List.{length-set}
use Rattle.std.proofs.lemmas.List.Elements.{All-from_get_or, All-get_or, Contains-append_left, Contains-push, Contains-push_cases}

-- the numbers below a count that occur in a list are marked
pub record AreMarkedIn (seen : List Bool) (count : ℕ) (xs : List ℕ) : Type 0 where
  pub long : length seen ≡ count
  pub each : (w : ℕ) → w < count → (get_or seen w false ≡ true) ↔ Contains xs w

-- none of them before the first one
pub none_marked : (seen : List Bool) (count : ℕ) → length seen ≡ count → ((w : ℕ) → w < count → get_or seen w false ≡ false) → AreMarkedIn seen count []
none_marked seen count long clear = record {
  long = long;
  each = λ w low. ((λ e. absurd (false≢true (sym (clear w low) ∙ e))), (λ inside. absurd (omega (arith, inside.1))));
}

-- one more
pub one_marked : (seen new : List Bool) (count n : ℕ) (xs : List ℕ) → AreMarkedIn seen count xs → n < count → new ≡ set seen n true → AreMarkedIn new count (xs ++ n ∷ [])
one_marked seen new count n xs marked low is =
    subst (λ (l : List Bool). AreMarkedIn l count (xs ++ n ∷ [])) (sym is) (record { long = length-set seen n true ∙ marked.long; each = each })
  where
    each : (w : ℕ) → w < count → (get_or (set seen n true) w false ≡ true) ↔ Contains (xs ++ n ∷ []) w
    each w below = elim (cases_eq w n) as (λ _. (get_or (set seen n true) w false ≡ true) ↔ Contains (xs ++ n ∷ []) w) [
      | inl same ↦
          let here : get_or (set seen n true) w false ≡ true = ap (λ v. get_or (set seen n true) v false) same
          ∙ get_or-set_same seen n true false (omega (arith, low, marked.long)) in
          ((λ e. subst (Contains (xs ++ n ∷ [])) (sym same) (Contains-push xs n)), (λ inside. here))
      | inr differ ↦
          let there : get_or (set seen n true) w false ≡ get_or seen w false = get_or-set_other seen n w true false differ in (
            (λ e. Contains-append_left xs (n ∷ []) w ((marked.each w below).0 (sym there ∙ e))),
            (λ inside. there ∙ (marked.each w below).1 (earlier w differ (Contains-push_cases xs n w inside))),
          )
    ]
      where
        earlier : (v : ℕ) → (v ≡ n → ⊥) → Contains xs v ⊎ (n ≡ v) → Contains xs v
        earlier v other (inl inside) = inside
        earlier v other (inr same) = absurd (other (sym same))

-- all are marked exactly where all occur
pub all_marked : (seen : List Bool) (count : ℕ) (xs : List ℕ) → AreMarkedIn seen count xs → (All (λ mark. mark ≡ true) seen) ↔ ((w : ℕ) → w < count → Contains xs w)
all_marked seen count xs marked = (
  (λ all w low. (marked.each w low).0 (All-get_or (λ mark. mark ≡ true) seen w false (omega (arith, low, marked.long)) all)),
  (λ occur. All-from_get_or (λ mark. mark ≡ true) seen false (λ w low. let below : w < count = omega (arith, low, marked.long) in (marked.each w below).1 (occur w below))),
)
