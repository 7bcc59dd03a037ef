-- Parts of simplices: the ends of an edge and the edges of a face. What lies in the box of a part lies in that of the whole.
use Rattle.std.specs.Prelude.{◌≡◌, ℕ, ◌+◌, ℤ, ◌≤ℤ◌, ◌<ℤ◌, Bool, true, false, Option, None, Some, IfSome, List, [], ◌∷◌, length}
use Rattle.std.specs.List.{All}
use Rattle.std.proofs.Common.{arith, inl, inr}
use Rattle.std.proofs.lemmas.List.Elements.{All-nil, All-cons, All-weaker}
use Rattle.mb_base.specs.declared.point.Corner.{Corner}
use Rattle.side_terms.specs.Corners.{axis, IsFineCorner, AllFine}
use Rattle.shadow_kernels.specs.declared.Spot.{Spot}
use Rattle.side_terms.specs.Boxes.{IsInBox, IsBelow, AreApart}
use Rattle.shadow_kernels.specs.declared.Meet.{Meet}
use Rattle.shadow_kernels.specs.ShadowLaws.{IsInHull, ShadowTest, HasCounts, ShadowLaws}
use Rattle.shadow_kernels.specs.Sizes.{sized_from}
use Rattle.shadow_kernels.specs.Hulls.{IsBeyond}
use Rattle.shadow_kernels.specs.Decided.{IsDecided}

-- what holds of all corners of the whole holds of those of the part
abbrev pub IsPart : List Corner → List Corner → Type 1
IsPart part whole = (P : Corner → Type 0) → All P whole → All P part

-- the whole itself
pub itself : (cs : List Corner) → IsPart cs cs
itself cs P h = h

-- two corners of which something holds
pub both_of : (P : Corner → Type 0) (a b : Corner) → P a → P b → All P (a ∷ b ∷ [])
both_of P a b h k = All-cons P a (b ∷ []) h (All-cons P b [] k (All-nil P))

-- the start and the end of an edge
pub start_of : (a b : Corner) → IsPart (a ∷ []) (a ∷ b ∷ [])
start_of a b P h = All-cons P a [] (h 0 a (omega arith)) (All-nil P)

pub end_of : (a b : Corner) → IsPart (b ∷ []) (a ∷ b ∷ [])
end_of a b P h = All-cons P b [] (h 1 b (omega arith)) (All-nil P)

-- the three edges of a face
module _ (u v w : Corner) where
  pub first_edge : IsPart (u ∷ v ∷ []) (u ∷ v ∷ w ∷ [])
  first_edge P h = both_of P u v (h 0 u (omega arith)) (h 1 v (omega arith))

  pub second_edge : IsPart (v ∷ w ∷ []) (u ∷ v ∷ w ∷ [])
  second_edge P h = both_of P v w (h 1 v (omega arith)) (h 2 w (omega arith))

  pub third_edge : IsPart (w ∷ u ∷ []) (u ∷ v ∷ w ∷ [])
  third_edge P h = both_of P w u (h 2 w (omega arith)) (h 0 u (omega arith))

-- the box of the part lies in the box of the whole
pub wider_box : (i : ℕ) (part whole : List Corner) (z : ℤ) → IsPart part whole → IsInBox i part z → IsInBox i whole z
wider_box i part whole z sub h = record { low = λ l all. h.low l (sub (λ c. l ≤ℤ axis i c) all); high = λ u all. h.high u (sub (λ c. axis i c ≤ℤ u) all) }

-- so a spot of parts lies in the boxes of the wholes
pub wider_hull : (p ps q qs : List Corner) (s : Spot) → IsPart p ps → IsPart q qs → IsInHull p q s → IsInHull ps qs s
wider_hull p ps q qs s sub_p sub_q h = record {
  px = wider_box 0 p ps s.x sub_p h.px;
  py = wider_box 1 p ps s.py sub_p h.py;
  pz = wider_box 2 p ps s.pz sub_p h.pz;
  qx = wider_box 0 q qs s.x sub_q h.qx;
  qy = wider_box 1 q qs s.qy sub_q h.qy;
  qz = wider_box 2 q qs s.qz sub_q h.qz;
}

-- parts of a lower simplex are lower than parts of the other
pub parts_below : (i : ℕ) (p ps q qs : List Corner) → IsPart p ps → IsPart q qs → IsBelow i ps qs → IsBelow i p q
parts_below i p ps q qs sub_p sub_q h = record {
  below = sub_p (λ a. All (λ b. axis i a <ℤ axis i b) q)
      (All-weaker (λ a. All (λ b. axis i a <ℤ axis i b) qs) (λ a. All (λ b. axis i a <ℤ axis i b) q) (λ a. sub_q (λ b. axis i a <ℤ axis i b)) ps h.below);
}

-- parts of simplices strictly apart are strictly apart
pub parts_apart : (i : ℕ) (p ps q qs : List Corner) → IsPart p ps → IsPart q qs → AreApart i ps qs → AreApart i p q
parts_apart i p ps q qs sub_p sub_q (inl h) = inl (parts_below i p ps q qs sub_p sub_q h)
parts_apart i p ps q qs sub_p sub_q (inr h) = inr (parts_below i q qs p ps sub_q sub_p h)

-- a spot in the boxes of parts is in those of the wholes
widen : (p ps q qs : List Corner) → IsPart p ps → IsPart q qs → (m : Option Meet) → IfSome m (λ a. IsInHull p q a.spot) → IfSome m (λ a. IsInHull ps qs a.spot)
widen p ps q qs sub_p sub_q None h = tt
widen p ps q qs sub_p sub_q (Some a) h = wider_hull p ps q qs a.spot sub_p sub_q h

-- parts of simplices strictly apart in z compare as these do
decide : (p ps q qs : List Corner) → IsPart p ps → IsPart q qs → (m : Option Meet) → IfSome m (λ a. (IsBelow 2 p q → a.above ≡ false) × (IsBelow 2 q p → a.above ≡ true)) →
    (b : Bool) → IsBeyond 2 ps qs b → IfSome m (λ a. a.above ≡ b)
decide p ps q qs sub_p sub_q None h b s = tt
decide p ps q qs sub_p sub_q (Some a) h true s = h.1 (parts_below 2 q qs p ps sub_q sub_p s)
decide p ps q qs sub_p sub_q (Some a) h false s = h.0 (parts_below 2 p ps q qs sub_p sub_q s)

-- so the answer of parts to a lawful test that answers only where the count is not 0 is decided in the boxes of the wholes
pub decided_in : (m n : ℕ) (test : ShadowTest) → ShadowLaws m n test → HasCounts m n test → m + n ≡ 4 → (p ps q qs : List Corner) → IsPart p ps → IsPart q qs →
    length p ≡ m → length q ≡ n → AllFine ps → AllFine qs →
    IsDecided 2 ps qs (test p q)
decided_in m n test h counts four p ps q qs sub_p sub_q k l fine_p fine_q =
    let fp = sub_p IsFineCorner fine_p in
    let fq = sub_q IsFineCorner fine_q in
    record {
      sized = sized_from (test p q) (h.size p q k l fp fq) (counts p q k l fp fq);
      hull = λ some. widen p ps q qs sub_p sub_q (test p q) (h.hull p q (omega (arith, four)) k l fp fq);
      apart = λ i less apart. h.apart p q i k l fp fq (omega (arith, four, less)) (parts_apart i p ps q qs sub_p sub_q apart);
      side = λ b s. decide p ps q qs sub_p sub_q (test p q) (h.side p q 2 k l fp fq (omega (arith, four))) b s;
    }
