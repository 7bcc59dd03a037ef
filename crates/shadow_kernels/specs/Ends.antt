-- The answer that the two ends of an edge give.
use Rattle.std.specs.Prelude.{◌≡◌, Bool, true, false, not, pos, negsuc, None, Some, IfSome}
use Rattle.std.proofs.Common.{refl, inl, inr}
use Rattle.chain_laws.specs.Squares.{less}
use Rattle.shadow_kernels.specs.declared.Spot.{Spot}
use Rattle.shadow_kernels.specs.declared.Meet.{Meet}
use Rattle.shadow_kernels.specs.Counts.{count_of, turned, met, by_ends}
use Rattle.shadow_kernels.specs.Sizes.{IsSized}

-- its count is the difference of the two tests
pub ends_count : (s t : Bool) (x y : Bool × Spot) → count_of (by_ends s t x y) ≡ less s t
unfolding by_ends met
ends_count true true x y = refl
ends_count true false x y = refl
ends_count false true x y = refl
ends_count false false x y = refl

-- the count from two ends is 1 or -1, if there is an answer
pub ends_sized : (s t : Bool) (x y : Bool × Spot) → IsSized (by_ends s t x y)
unfolding by_ends met
ends_sized true true x y = tt
ends_sized true false x y = inl refl
ends_sized false true x y = inr refl
ends_sized false false x y = tt

-- exchanging the ends turns it
pub ends_turned : (s t : Bool) (x y : Bool × Spot) → by_ends t s y x ≡ turned (by_ends s t x y)
unfolding by_ends met
ends_turned true true x y = refl
ends_turned true false x y = refl
ends_turned false true x y = refl
ends_turned false false x y = refl

-- where both tests answer alike there is none
pub ends_same : (s t : Bool) (x y : Bool × Spot) → s ≡ t → by_ends s t x y ≡ None
unfolding by_ends met
ends_same true true x y e = refl
ends_same true false x y e = absurd (cc)
ends_same false true x y e = absurd (cc)
ends_same false false x y e = refl

-- where the first test alone holds
pub ends_first : (s t : Bool) (x y : Bool × Spot) → s ≡ true → t ≡ false → by_ends s t x y ≡ Some (record { count = pos 1; above = x.0; spot = x.1 })
unfolding by_ends met
ends_first s t x y e f = rw (e, f) refl

-- where the second test alone holds
pub ends_second : (s t : Bool) (x y : Bool × Spot) → s ≡ false → t ≡ true → by_ends s t x y ≡ Some (record { count = negsuc 0; above = y.0; spot = y.1 })
unfolding by_ends met
ends_second s t x y e f = rw (e, f) refl

-- what holds of the answer at either end holds of it
pub ends_hold : (P : Meet → Type 0) (s t : Bool) (x y : Bool × Spot) → (s ≡ true → t ≡ false → P (record { count = pos 1; above = x.0; spot = x.1 })) →
    (s ≡ false → t ≡ true → P (record { count = negsuc 0; above = y.0; spot = y.1 })) → IfSome (by_ends s t x y) P
unfolding by_ends met
ends_hold P true true x y f g = tt
ends_hold P true false x y f g = f refl refl
ends_hold P false true x y f g = g refl refl
ends_hold P false false x y f g = tt

-- tests that fail where these hold, the other way round
pub ends_not : (s t : Bool) (x y : Bool × Spot) → by_ends (not s) (not t) x y ≡ by_ends t s x y
unfolding by_ends met
ends_not true true x y = refl
ends_not true false x y = refl
ends_not false true x y = refl
ends_not false false x y = refl

-- the difference of two tests that fail where these hold, the other way round
pub less_not : (s t : Bool) → less s t ≡ less (not t) (not s)
less_not true true = refl
less_not true false = refl
less_not false true = refl
less_not false false = refl
