-- The laws of an answer that is made from boundary pairs.
use Rattle.std.specs.Prelude.{◌≡◌, ◌≢◌, ℕ, ℤ, pos, neg_ℤ, Bool, true, false, Option, None, Some, List, [], ◌∷◌, map}
use Rattle.std.specs.List.Sorted.{IsPermutation}
use Rattle.std.proofs.Common.{arith, refl, sym, ap, ◌∙◌}
use Rattle.std.proofs.lemmas.Int.{ints}
use Rattle.mb_base.specs.declared.point.Corner.{Corner}
use Rattle.side_terms.specs.Fine.{IsFine, IsWeight}
use Rattle.side_terms.specs.Corners.{AllFine}
use Rattle.side_terms.specs.Boxes.{IsInBox}
use Rattle.chain_terms.specs.Sums.{total}
use Rattle.chain_laws.specs.Sums.{total-permutation}
use Rattle.chain_laws.specs.Counted.{first_at-permutation}
use Rattle.shadow_kernels.specs.ShadowLaws.{IsInHull}
use Rattle.shadow_kernels.specs.declared.Spot.{Spot}
use Rattle.shadow_kernels.specs.declared.Meet.{Meet}
use Rattle.shadow_kernels.specs.Spots.{Between, gap, spot_between, no_spot}
use Rattle.shadow_kernels.specs.Counts.{count_of, shadow_of, turned, chosen, first_spot, met, joined, lifted}
use Rattle.shadow_kernels.specs.Sizes.{IsSized, by_zero, met_none, met_count, met_sized, met_holds, met_turned, turned_shadow}
use Rattle.shadow_kernels.specs.Entries.{Each, IsBalanced, balanced_size, entry, spot_of, number_is, whole_is, first_is}
use Rattle.shadow_kernels.specs.Bounds.{box_between, hull_fine}
use Rattle.shadow_kernels.specs.Hulls.{StaysBetween, IsBeyond}
use Rattle.shadow_kernels.specs.Decided.{IsDecided, apart_none, first_hull}

-- the gap of two fine values is a weight
pub gap_weight : (p q : ℤ) → IsFine p → IsFine q → IsWeight (gap p q)
gap_weight p q h k = record { low = omega (arith, ints); high = omega (arith, ints, h.low, h.high, k.low, k.high) }

-- a spot between two spots in the boxes lies in the boxes
between_hull : (w : Between) → StaysBetween w → (ps qs : List Corner) (d u : Spot) → AllFine ps → AllFine qs → IsInHull ps qs d → IsInHull ps qs u →
    IsInHull ps qs (spot_between w d u)
unfolding spot_between
between_hull w stays ps qs d u fp fq hd hu =
    let fd = hull_fine ps qs d fp fq hd in
    let fu = hull_fine ps qs u fp fq hu in
    let a = gap_weight d.py d.qy fd.py fd.qy in
    let b = gap_weight u.py u.qy fu.py fu.qy in
    let g = gap d.py d.qy in
    let h = gap u.py u.qy in
    let v : (i : ℕ) (cs : List Corner) (x y : ℤ) → IsFine x → IsFine y → IsInBox i cs x → IsInBox i cs y → IsInBox i cs (w x y g h) =
    λ i cs x y fx fy bx by. box_between i cs x y (w x y g h) bx by (stays.within x y g h fx fy a b) in
    record {
      px = v 0 ps d.x u.x fd.x fu.x hd.px hu.px;
      py = v 1 ps d.py u.py fd.py fu.py hd.py hu.py;
      pz = v 2 ps d.pz u.pz fd.pz fu.pz hd.pz hu.pz;
      qx = v 0 qs d.x u.x fd.x fu.x hd.qx hu.qx;
      qy = v 1 qs d.qy u.qy fd.qy fu.qy hd.qy hu.qy;
      qz = v 2 qs d.qz u.qz fd.qz fu.qz hd.qz hu.qz;
    }

-- the count is the sum of the shadows
pub lifted_is : (w : Between) (over : Spot → Bool) (ms : List (Option Meet)) → count_of (lifted w over ms) ≡ total shadow_of ms
unfolding lifted joined
lifted_is w over ms = let s = spot_between w (first_spot false ms) (first_spot true ms) in met_count (total shadow_of ms) (over s) s

-- balanced boundary pairs that are decided in y make an answer that is decided in z, where the boxes decide its mark
pub lifted_decided : (w : Between) → StaysBetween w → (over : Spot → Bool) (ps qs : List Corner) → AllFine ps → AllFine qs → (ms : List (Option Meet)) →
    IsBalanced ms → Each (IsDecided 1 ps qs) ms →
    ((b : Bool) → IsBeyond 2 ps qs b → total shadow_of ms ≢ pos 0 → (s : Spot) → IsInHull ps qs s → over s ≡ b) → IsDecided 2 ps qs (lifted w over ms)
unfolding lifted joined
lifted_decided w stays over ps qs fp fq ms h each side =
    let sum = total shadow_of ms in
    let s = spot_between w (first_spot false ms) (first_spot true ms) in
    let size = balanced_size ms h in
    let first = first_hull 1 ps qs ms each h.whole (omega arith) in
    let hull : sum ≢ pos 0 → IsInHull ps qs s = λ some. between_hull w stays ps qs (first_spot false ms) (first_spot true ms) fp fq (first some false) (first some true) in
    record {
      sized = met_sized sum (over s) s size.0 size.1;
      hull = λ more. met_holds (λ m. IsInHull ps qs m.spot) sum (over s) s hull;
      apart = λ i less a. met_none sum (over s) s (apart_none 1 ps qs ms each h.whole i less a);
      side = λ b beyond. met_holds (λ m. m.above ≡ b) sum (over s) s (λ some. side b beyond some s (hull some));
    }

-- turning an answer keeps its spot
pub chosen_turned : (want : Bool) (m : Option Meet) (x : Spot) → chosen want (turned m) x ≡ chosen want m x
chosen_turned want None x = refl
chosen_turned true (Some m) x = refl
chosen_turned false (Some m) x = refl

-- turning all answers keeps the chosen spot
spot_turned : (want : Bool) (ms : List (Option Meet)) → first_spot want (map turned ms) ≡ first_spot want ms
spot_turned want [] = refl
spot_turned want (m ∷ ms) = chosen_turned want m (first_spot want (map turned ms)) ∙ ap (λ (s : Spot). chosen want m s) (spot_turned want ms)

-- and turns the sum of their shadows
total_turned : (ms : List (Option Meet)) → total shadow_of (map turned ms) ≡ neg_ℤ (total shadow_of ms)
total_turned [] = refl
total_turned (m ∷ ms) = omega (arith, ints, turned_shadow m, total_turned ms)

-- an answer of equal sums, spots and marks
same_joined : (w : Between) (over over' : Spot → Bool) (n n' : ℤ) (d d' u u' : Spot) → ((s : Spot) → over' s ≡ over s) → n ≡ n' → d ≡ d' → u ≡ u' →
    joined w over n d u ≡ joined w over' n' d' u'
unfolding joined
same_joined w over over' n n' d d' u u' h e f g =
    ap (λ (z : ℤ). joined w over z d u) e ∙ ap (λ (x : Spot). joined w over n' x u) f ∙ ap (λ (x : Spot). joined w over n' d' x) g
    ∙ ap (λ (t : Bool). met n' t (spot_between w d' u')) (sym (h (spot_between w d' u')))

-- turning all boundary pairs turns the answer
lifted_turned : (w : Between) (over : Spot → Bool) (ms : List (Option Meet)) → lifted w over (map turned ms) ≡ turned (lifted w over ms)
unfolding lifted joined
lifted_turned w over ms =
    let s = spot_between w (first_spot false ms) (first_spot true ms) in
    same_joined w over over (total shadow_of (map turned ms)) (neg_ℤ (total shadow_of ms)) (first_spot false (map turned ms)) (first_spot false ms)
    (first_spot true (map turned ms)) (first_spot true ms)
    (λ x. refl) (total_turned ms) (spot_turned false ms) (spot_turned true ms)
    ∙ met_turned (total shadow_of ms) (over s) s

-- balanced pairs give the same answer in every order, also by a test that says the same
lifted_moved : (w : Between) (over over' : Spot → Bool) (ms ns : List (Option Meet)) → ((s : Spot) → over' s ≡ over s) → IsBalanced ms → Each IsSized ns →
    IsPermutation ms ns → lifted w over' ns ≡ lifted w over ms
unfolding lifted joined
lifted_moved w over over' ms ns like h sized moved =
    let same = total-permutation shadow_of ms ns moved in
    let s = spot_between w (first_spot false ms) (first_spot true ms) in
    let t = spot_between w (first_spot false ns) (first_spot true ns) in
    let spot : total shadow_of ms ≢ pos 0 → (want : Bool) → first_spot want ns ≡ first_spot want ms = λ some want.
    first_is want ns sized ∙ first_at-permutation entry spot_of no_spot ms ns (sym (whole_is ms) ∙ h.whole) h.few (λ z. some (number_is ms ∙ z)) moved want
    ∙ sym (first_is want ms h.sized) in
    by_zero (total shadow_of ms)
    (λ z. met_none (total shadow_of ns) (over' t) t (same ∙ z) ∙ sym (met_none (total shadow_of ms) (over s) s z))
    (λ some. same_joined w over' over (total shadow_of ns) (total shadow_of ms) (first_spot false ns) (first_spot false ms) (first_spot true ns)
    (first_spot true ms) (λ x. sym (like x)) same (spot some false) (spot some true))

-- so those of the same pairs turned, in whatever order, make the answer turned
pub lifted_reverse : (w : Between) (over over' : Spot → Bool) (ms ns turns : List (Option Meet)) → ((s : Spot) → over' s ≡ over s) → IsBalanced ms →
    Each IsSized ns → IsPermutation ms ns → turns ≡ map turned ns →
    lifted w over' turns ≡ turned (lifted w over ms)
lifted_reverse w over over' ms ns turns like h sized moved e = ap (lifted w over') e ∙ lifted_turned w over' ns ∙ ap turned (lifted_moved w over over' ms ns like h sized moved)
