-- Lists of answers as signed lists: the count of each, and whether it is above.
use Rattle.std.specs.Prelude.{◌≡◌, ◌≢◌, ◌<◌, ◌≤◌, ℤ, pos, negsuc, nat_abs, ◌+ℤ◌, ◌≤ℤ◌, nat_lt, Bool, true, false, if◌then◌else◌, cond, Option, None, Some, IfSome, List, [], ◌∷◌, length, map}
use Rattle.std.specs.List.{sum_by, All}
use Rattle.std.proofs.Common.{arith, refl, sym, ap, subst, inl, inr, ◌∙◌}
use Rattle.std.proofs.lemmas.Int.{ints}
use Rattle.std.proofs.lemmas.List.Sums.{sum_by-cons}
use Rattle.std.proofs.lemmas.List.{length-map}
use Rattle.std.proofs.lemmas.List.Elements.{All-nil, All-cons}
use Rattle.chain_terms.specs.Sums.{total}
use Rattle.chain_laws.specs.Firsts.{first_of}
use Rattle.chain_laws.specs.Counted.{counts_at}
use Rattle.chain_laws.specs.Sums.{IsWithin}
use Rattle.chain_laws.specs.Signs.{number, whole, weight, weight_at, size_at, AllAre, number_all_above, number_none_above, number_sides, number_of_three, number_of_five, weight_of_units}
use Rattle.shadow_kernels.specs.declared.Spot.{Spot}
use Rattle.shadow_kernels.specs.declared.Meet.{Meet}
use Rattle.shadow_kernels.specs.Spots.{no_spot}
use Rattle.shadow_kernels.specs.Counts.{count_of, shadow_of, chosen, first_spot}
use Rattle.shadow_kernels.specs.Sizes.{IsUnit, IsSized, sized_bounds}

-- a fact holds of each answer in a list
abbrev pub Each : (Option Meet → Type 0) → List (Option Meet) → Type 0
Each P [] = Unit {0}
Each P (m ∷ ms) = P m × Each P ms

-- with a fact goes what follows from it
pub each_map : (P Q : Option Meet → Type 0) → ((m : Option Meet) → P m → Q m) → (ms : List (Option Meet)) → Each P ms → Each Q ms
each_map P Q f [] h = tt
each_map P Q f (m ∷ ms) h = (f m h.0, each_map P Q f ms h.1)

-- whether an answer is above, and its spot, if there is one
abbrev pub above_of : Option Meet → Bool
above_of None = false
above_of (Some m) = m.above

abbrev pub spot_of : Option Meet → Spot
spot_of None = no_spot
spot_of (Some m) = m.spot

-- its count and its mark
abbrev pub entry : Option Meet → ℤ × Bool
entry m = (count_of m, above_of m)

-- the sum of the shadows is the number of the signed list
pub number_is : (ms : List (Option Meet)) → total shadow_of ms ≡ number (map entry ms)
number_is [] = refl
number_is (None ∷ ms) = ap (λ (z : ℤ). pos 0 +ℤ z) (number_is ms)
number_is (Some m ∷ ms) = ap (λ (z : ℤ). shadow_of (Some m) +ℤ z) (number_is ms)

-- and the sum of the counts its whole
pub whole_is : (ms : List (Option Meet)) → total count_of ms ≡ whole (map entry ms)
whole_is [] = refl
whole_is (m ∷ ms) = ap (λ (z : ℤ). count_of m +ℤ z) (whole_is ms)

-- answers whose counts are 1 or -1 and add up to nothing, of which at most three have one
pub record IsBalanced (ms : List (Option Meet)) : Type 0 where
  pub sized : Each IsSized ms
  pub whole : total count_of ms ≡ pos 0
  pub few : weight (map entry ms) ≤ 3

-- the sum of the sizes of the counts
weight_is : (ms : List (Option Meet)) → weight (map entry ms) ≡ sum_by nat_abs (map count_of ms)
weight_is [] = refl
weight_is (m ∷ ms) = omega (arith, weight_is ms, sum_by-cons (λ (e : ℤ × Bool). nat_abs e.0) (entry m) (map entry ms), sum_by-cons nat_abs (count_of m) (map count_of ms))

total_is : (ms : List (Option Meet)) → total (λ z. z) (map count_of ms) ≡ total count_of ms
total_is [] = refl
total_is (m ∷ ms) = ap (λ (z : ℤ). count_of m +ℤ z) (total_is ms)

-- so answers are balanced by their counts alone
pub balanced_by : (ms : List (Option Meet)) (zs : List ℤ) → Each IsSized ms → zs ≡ map count_of ms → total (λ z. z) zs ≡ pos 0 → sum_by nat_abs zs ≤ 3 → IsBalanced ms
balanced_by ms zs h e none few = record {
  sized = h;
  whole = sym (total_is ms) ∙ subst (λ (l : List ℤ). total (λ z. z) l ≡ pos 0) e none;
  few = let k : sum_by nat_abs (map count_of ms) ≤ 3 = subst (λ (l : List ℤ). sum_by nat_abs l ≤ 3) e few in omega (arith, weight_is ms, k);
}

-- the sum of the shadows of balanced answers is -1, 0 or 1
pub balanced_size : (ms : List (Option Meet)) → IsBalanced ms → (negsuc 0 ≤ℤ total shadow_of ms) × (total shadow_of ms ≤ℤ pos 1)
balanced_size ms h =
    let n = number_of_three (map entry ms) (sym (whole_is ms) ∙ h.whole) h.few in
    (omega (arith, ints, number_is ms, n.low), omega (arith, ints, number_is ms, n.high))

-- sized answers whose counts add up to nothing, five at most, have shadows that add up to -2, .. or 2
pub five_size : (ms : List (Option Meet)) → Each IsSized ms → length ms ≤ 5 → total count_of ms ≡ pos 0 → (negsuc 1 ≤ℤ total shadow_of ms) × (total shadow_of ms ≤ℤ pos 2)
five_size ms h few none =
    let weight = weight_of_units (map entry ms) (units ms h) in
    let long : length (map entry ms) ≡ length ms = length-map ms entry in
    let n = number_of_five (map entry ms) (sym (whole_is ms) ∙ none) (omega (arith, weight, long, few)) in
    (omega (arith, ints, number_is ms, n.low), omega (arith, ints, number_is ms, n.high))
  where
    within : (m : Option Meet) → IsSized m → IsWithin (count_of m) 1
    within m h = let b = sized_bounds m h in record { low = omega (arith, ints, b.0); high = omega (arith, ints, b.1) }

    units : (ms : List (Option Meet)) → Each IsSized ms → All (λ (e : ℤ × Bool). IsWithin e.0 1) (map entry ms)
    units [] h = All-nil (λ (e : ℤ × Bool). IsWithin e.0 1)
    units (m ∷ ms) h = All-cons (λ (e : ℤ × Bool). IsWithin e.0 1) (entry m) (map entry ms) (within m h.0) (units ms h.1)

-- where there is no answer the shadows add up to nothing
pub total_none : (ms : List (Option Meet)) → Each (λ m. m ≡ None) ms → total shadow_of ms ≡ pos 0
total_none [] h = refl
total_none (m ∷ ms) h = omega (arith, ints, ap shadow_of h.0, total_none ms h.1)

-- where all answers are above, or none is, and their counts add up to nothing, so do their shadows
pub total_alike : (b : Bool) (ms : List (Option Meet)) → total count_of ms ≡ pos 0 → Each (λ m. IfSome m (λ n. n.above ≡ b)) ms → total shadow_of ms ≡ pos 0
total_alike b ms none h = number_is ms ∙ by b (alike b ms h) where
  alike : (b : Bool) (ms : List (Option Meet)) → Each (λ m. IfSome m (λ n. n.above ≡ b)) ms → AllAre b (map entry ms)
  alike b [] h = tt
  alike b (None ∷ ms) h = (λ some. absurd (some refl), alike b ms h.1)
  alike b (Some m ∷ ms) h = (λ some. h.0, alike b ms h.1)

  by : (b : Bool) → AllAre b (map entry ms) → number (map entry ms) ≡ pos 0
  by true k = number_all_above (map entry ms) k ∙ sym (whole_is ms) ∙ none
  by false k = number_none_above (map entry ms) k

-- what holds of the spot of each answer, and of the other spot, holds of the chosen one
chosen_holds : (P : Spot → Type 0) (want : Bool) (m : Option Meet) (x : Spot) → IfSome m (λ n. P n.spot) → (size_at want (entry m) ≡ 0 → P x) → P (chosen want m x)
chosen_holds P true None x h k = k refl
chosen_holds P false None x h k = k refl
chosen_holds P true (Some m) x h k = by m.above k where
  by : (b : Bool) → (cond b (nat_abs m.count) 0 ≡ 0 → P x) → P (if b then m.spot else x)
  by true k = h
  by false k = k refl
chosen_holds P false (Some m) x h k = by m.above k where
  by : (b : Bool) → (cond b 0 (nat_abs m.count) ≡ 0 → P x) → P (if b then x else m.spot)
  by true k = k refl
  by false k = h

-- what holds of each spot, and of the spot of nothing, holds of the first spot
pub first_holds : (P : Spot → Type 0) (want : Bool) (ms : List (Option Meet)) → P no_spot → Each (λ m. IfSome m (λ n. P n.spot)) ms → P (first_spot want ms)
first_holds P want [] h e = h
first_holds P want (m ∷ ms) h e = chosen_holds P want m (first_spot want ms) e.0 (λ none. first_holds P want ms h e.1)

-- where the shadows don't add up to nothing though the counts do, what holds of each spot holds of the first
pub first_own : (P : Spot → Type 0) (want : Bool) (ms : List (Option Meet)) → Each (λ m. IfSome m (λ n. P n.spot)) ms → total count_of ms ≡ pos 0 →
    total shadow_of ms ≢ pos 0 → P (first_spot want ms)
first_own P want ms e none some = own want ms e (number_sides (map entry ms) (sym (whole_is ms) ∙ none) (λ z. some (number_is ms ∙ z)) want) where
  own : (want : Bool) (ms : List (Option Meet)) → Each (λ m. IfSome m (λ n. P n.spot)) ms → 0 < weight_at want (map entry ms) → P (first_spot want ms)
  own want [] e h = absurd (omega (arith, h))
  own want (m ∷ ms) e h = chosen_holds P want m (first_spot want ms) e.0 (λ none. own want ms e.1 (omega (arith, none, h, sum_by-cons (size_at want) (entry m) (map entry ms))))

-- the first spot of sized answers is that of the first entry with a count
pub first_is : (want : Bool) (ms : List (Option Meet)) → Each IsSized ms → first_spot want ms ≡ first_of (λ m. counts_at want (entry m)) spot_of no_spot ms
first_is want [] h = refl
first_is true (None ∷ ms) h = first_is true ms h.1
first_is false (None ∷ ms) h = first_is false ms h.1
first_is true (Some m ∷ ms) h =
    ap (λ (x : Spot). if m.above then m.spot else x) (first_is true ms h.1) ∙ by m.above m.count h.0 (first_of (λ m. counts_at true (entry m)) spot_of no_spot ms) where
      by : (b : Bool) (n : ℤ) → IsUnit n → (x : Spot) → (if b then m.spot else x) ≡ cond (nat_lt 0 (cond b (nat_abs n) 0)) m.spot x
      by true n (inl e) x = rw e refl
      by true n (inr e) x = rw e refl
      by false n e x = refl
first_is false (Some m ∷ ms) h =
    ap (λ (x : Spot). if m.above then x else m.spot) (first_is false ms h.1) ∙ by m.above m.count h.0 (first_of (λ m. counts_at false (entry m)) spot_of no_spot ms) where
      by : (b : Bool) (n : ℤ) → IsUnit n → (x : Spot) → (if b then x else m.spot) ≡ cond (nat_lt 0 (cond b 0 (nat_abs n))) m.spot x
      by true n e x = refl
      by false n (inl e) x = rw e refl
      by false n (inr e) x = rw e refl
