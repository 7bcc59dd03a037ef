-- Boundary pairs put one before the others.
use Rattle.std.proofs.Common.{arith, ◌≡◌, ◌≢◌, Some, None, ℤ, pos, ◌+ℤ◌, Bool, true, false, Option, List, [], ◌∷◌, IfSome, ap, sym, subst, ◌∙◌}
use Rattle.std.proofs.lemmas.Int.{ints}
use Rattle.chain_terms.specs.Sums.{total}
use Rattle.side_terms.specs.Fine.{IsFine}
use Rattle.shadow_kernels.specs.declared.Spot.{Spot}
use Rattle.shadow_kernels.specs.declared.Meet.{Meet}
use Rattle.shadow_kernels.specs.declared.tally.Tally.{Tally}
use Rattle.shadow_kernels.specs.Spots.{Between, no_spot, spot_between}
use Rattle.shadow_kernels.specs.Sizes.{met_none, met_some}
use Rattle.shadow_kernels.proofs.Branches.{at_spot}
use Rattle.shadow_kernels.specs.Counts.{shadow_of, chosen, first_spot, joined, lifted}
use Rattle.shadow_kernels.specs.Bounds.{IsFineSpot, IsTallyOf, IsFineTally}
use Rattle.shadow_kernels.specs.Entries.{Each, first_holds}

-- the tally of no pairs
pub no_tally : (s : Tally) → s ≡ record { count = pos 0; below = no_spot; above = no_spot } → IsTallyOf [] s
no_tally s e = record {
  count = ap (λ (x : Tally). x.count) e;
  below = ap (λ (x : Tally). x.below) e;
  above = ap (λ (x : Tally). x.above) e;
}

-- the tally with one more pair before the others
pub put_tally : (m : Option Meet) (ms : List (Option Meet)) (s t : Tally) → IsTallyOf ms s → t.count ≡ shadow_of m +ℤ s.count →
    t.below ≡ chosen false m s.below → t.above ≡ chosen true m s.above → IsTallyOf (m ∷ ms) t
put_tally m ms s t h a b c = record {
  count = a ∙ ap (λ (x : ℤ). shadow_of m +ℤ x) h.count;
  below = b ∙ ap (λ (x : Spot). chosen false m x) h.below;
  above = c ∙ ap (λ (x : Spot). chosen true m x) h.above;
}

-- the answer from the tally of a list
pub from_tally : (w : Between) (over : Spot → Bool) (ms : List (Option Meet)) (r : Option Meet) (s : Tally) → IsTallyOf ms s →
    r ≡ joined w over s.count s.below s.above → r ≡ lifted w over ms
unfolding lifted
from_tally w over ms r s h e =
    e
    ∙ ap (λ (x : ℤ). joined w over x s.below s.above) h.count
    ∙ ap (λ (x : Spot). joined w over (total shadow_of ms) x s.above) h.below
    ∙ ap (λ (x : Spot). joined w over (total shadow_of ms) (first_spot false ms) x) h.above

-- an answer that the code makes of it, none where the count is 0
joined_none : (w : Between) (over : Spot → Bool) (n : ℤ) (d u : Spot) → n ≡ pos 0 → None ≡ joined w over n d u
unfolding joined
joined_none w over n d u e = sym (met_none n (over (spot_between w d u)) (spot_between w d u) e)

joined_some : (w : Between) (over : Spot → Bool) (n k : ℤ) (t : Bool) (z d u : Spot) → n ≢ pos 0 → k ≡ n → z ≡ spot_between w d u → t ≡ over z →
    Some (record { count = k; above = t; spot = z }) ≡ joined w over n d u
unfolding joined
joined_some w over n k t z d u some ek ez g =
    at_spot n k (spot_between w d u) z (over (spot_between w d u)) t ek ez (g ∙ ap over ez) ∙ sym (met_some n (over (spot_between w d u)) (spot_between w d u) some)

pub none_of_tally : (w : Between) (over : Spot → Bool) (ms : List (Option Meet)) (s : Tally) → IsTallyOf ms s → s.count ≡ pos 0 → None ≡ lifted w over ms
none_of_tally w over ms s h zero = from_tally w over ms None s h (joined_none w over s.count s.below s.above zero)

pub some_of_tally : (w : Between) (over : Spot → Bool) (ms : List (Option Meet)) (s : Tally) (k : ℤ) (t : Bool) (z : Spot) → IsTallyOf ms s → s.count ≢ pos 0 →
    k ≡ s.count → z ≡ spot_between w s.below s.above → t ≡ over z →
    Some (record { count = k; above = t; spot = z }) ≡ lifted w over ms
some_of_tally w over ms s k t z h some e f g =
    from_tally w over ms (Some (record { count = k; above = t; spot = z })) s h (joined_some w over s.count k t z s.below s.above some e f g)

-- the spot of nothing is fine
pub no_spot_fine : IsFineSpot no_spot
no_spot_fine =
    let zero : IsFine (pos 0) = record { low = omega (arith, ints); high = omega (arith, ints) } in
    record { x = zero; py = zero; qy = zero; pz = zero; qz = zero }

-- the chosen spot of pairs with fine spots is fine
pub fine_first : (want : Bool) (ms : List (Option Meet)) (s : Spot) → Each (λ m. IfSome m (λ n. IsFineSpot n.spot)) ms → s ≡ first_spot want ms → IsFineSpot s
fine_first want ms s each e = subst IsFineSpot (sym e) (first_holds IsFineSpot want ms no_spot_fine each)

-- the tally of a list has fine spots where each pair has
pub fine_tally : (ms : List (Option Meet)) (s : Tally) → Each (λ m. IfSome m (λ n. IsFineSpot n.spot)) ms → IsTallyOf ms s → IsFineTally s
fine_tally ms s each h = record { below = fine_first false ms s.below each h.below; above = fine_first true ms s.above each h.above }

-- the tally of equal pairs
pub same_tally : (s : Tally) (ms ns : List (Option Meet)) → IsTallyOf ms s → ms ≡ ns → IsTallyOf ns s
same_tally s ms ns h e = subst (λ (l : List (Option Meet)). IsTallyOf l s) e h
