-- Comparisons that the boxes of two simplices decide, and those at the spot between two spots.
use Rattle.std.proofs.Common.{arith, ◌≡◌, ℕ, ◌+◌, ℤ, ◌<ℤ◌, Bool, true, false, not, Option, None, Some, IfSome, List, length, sym, ap, ◌∙◌, inl, inr}
use Rattle.std.proofs.lemmas.Int.{ints}
use Rattle.chain_terms.specs.Sums.{total}
use Rattle.mb_base.specs.declared.point.Corner.{Corner}
use Rattle.side_terms.specs.Fine.{LiesBetween}
use Rattle.side_terms.specs.Corners.{axis, AllFine}
use Rattle.shadow_kernels.specs.declared.Spot.{Spot}
use Rattle.shadow_kernels.specs.declared.Meet.{Meet}
use Rattle.shadow_kernels.specs.declared.tally.Tally.{Tally}
use Rattle.side_terms.specs.Boxes.{IsBelow}
use Rattle.shadow_kernels.specs.Counts.{shadow_of, first_spot, joined, lifted}
use Rattle.shadow_kernels.specs.Order.{beats_greater, beats_smaller}
use Rattle.shadow_kernels.specs.ShadowLaws.{ShadowTest, ShadowLaws}
use Rattle.shadow_kernels.specs.Bounds.{IsTallyOf}
use Rattle.shadow_kernels.specs.Sizes.{met_holds}
use Rattle.shadow_kernels.specs.Spots.{Between, beats, above_y, above_z, edge_value, spot01, spot10, spot_between}
use Rattle.shadow_kernels.specs.declared.Edge.{Edge}
use Rattle.shadow_kernels.specs.declared.Edge.TheVariants.{OfP, OfQ}
use Rattle.shadow_kernels.specs.Rules.{of_q, edge_spot}
use Rattle.shadow_kernels.specs.Hulls.{StaysBetween, IsAlong, IsBeyond, value_between}

-- a value between two that are below another is below it, and likewise above
low_value : {u v z y : ℤ} → LiesBetween u v z → u <ℤ y → v <ℤ y → z <ℤ y
low_value (inl h) k l = omega (arith, ints, h.1)
low_value (inr h) k l = omega (arith, ints, h.1)

high_value : {u v z y : ℤ} → LiesBetween u v z → y <ℤ u → y <ℤ v → y <ℤ z
high_value (inl h) k l = omega (arith, ints, h.0)
high_value (inr h) k l = omega (arith, ints, h.0)

-- so a vertex that is above both ends of an edge in y is above the edge, or below with them
module _ (w : Between) (stays : StaysBetween w) (v l r : Corner) (h : IsAlong l r (axis 0 v)) where
  value : LiesBetween (axis 1 l) (axis 1 r) (edge_value w 1 l r (axis 0 v))
  value = value_between w stays l r (axis 0 v) h 1 (omega arith)

  pub over_ends : (e : Edge) → axis 1 l <ℤ axis 1 v → axis 1 r <ℤ axis 1 v → of_q e ≡ above_y (edge_spot e w v l r)
  unfolding spot01 spot10
  over_ends OfP k m = sym (beats_smaller _ _ _ (low_value value k m))
  over_ends OfQ k m = sym (beats_greater _ _ _ (low_value value k m))

  pub under_ends : (e : Edge) → axis 1 v <ℤ axis 1 l → axis 1 v <ℤ axis 1 r → not (of_q e) ≡ above_y (edge_spot e w v l r)
  unfolding spot01 spot10
  under_ends OfP k m = sym (beats_greater _ _ _ (high_value value k m))
  under_ends OfQ k m = sym (beats_smaller _ _ _ (high_value value k m))

-- a comparison of equal values
pub same_beats : {r : Bool} {p q p' q' : ℤ} {up up' : Bool} → r ≡ beats p q up → p ≡ p' → q ≡ q' → up ≡ up' → r ≡ beats p' q' up'
same_beats {r} {p} {q} {p'} {q'} {up} {up'} h e f k =
    h ∙ ap (λ (z : ℤ). beats z q up) e ∙ ap (λ (z : ℤ). beats p' z up) f ∙ ap (λ (t : Bool). beats p' q' t) k

-- the answer of simplices of which one is beyond the other
pub when_beyond : {m n : ℕ} {test : ShadowTest} (laws : ShadowLaws m n test) → 4 ≡ m + n → (p q : List Corner) → length p ≡ m → length q ≡ n → AllFine p →
    AllFine q → (b : Bool) → IsBeyond 2 p q b →
    IfSome (test p q) (λ a. a.above ≡ b)
when_beyond {m} {n} {test} laws level p q mp nq fp fq b h = by b (test p q) h (laws.side p q 2 mp nq fp fq level) where
  by : (b : Bool) (o : Option Meet) → IsBeyond 2 p q b → IfSome o (λ a. (IsBelow 2 p q → a.above ≡ false) × (IsBelow 2 q p → a.above ≡ true)) → IfSome o (λ a. a.above ≡ b)
  by b None h k = tt
  by true (Some a) h k = k.1 h
  by false (Some a) h k = k.0 h

-- an answer from boundary pairs has the mark of the spot between the two of its tally
pub mark_of_tally : (w : Between) (ms : List (Option Meet)) (s : Tally) (r : Bool) → IsTallyOf ms s → r ≡ above_z (spot_between w s.below s.above) →
    IfSome (lifted w above_z ms) (λ m. m.above ≡ r)
unfolding lifted joined
mark_of_tally w ms s r h e =
    let at = spot_between w (first_spot false ms) (first_spot true ms) in
    let same = e ∙ ap (λ (x : Spot). above_z (spot_between w x s.above)) h.below ∙ ap (λ (x : Spot). above_z (spot_between w (first_spot false ms) x)) h.above in
    met_holds (λ m. m.above ≡ r) (total shadow_of ms) (above_z at) at (λ n. sym same)
