-- An edge in the plane of a triangle.
use Rattle.std.specs.Prelude.{◌≡◌, ◌≢◌, ℤ, pos, neg_ℤ, ◌+ℤ◌, ◌-ℤ◌, ◌*ℤ◌, ◌≤ℤ◌, ◌<ℤ◌, ◌⊎◌, Bool, true, false, not, ◌&&◌, ◌||◌}
use Rattle.std.proofs.Common.{arith, refl, sym, ap, inl, inr, ◌∙◌}
use Rattle.std.proofs.lemmas.Int.{ints}
use Rattle.std.proofs.Math.IntN.{*ℤ_comm}
use Rattle.chain_laws.specs.Products.{add-mul, mul-add, mul-sub, sub-mul, mul-neg, neg-mul, mul-assoc, pos_mul, pos_factor}
use Rattle.plane_laws.specs.Areas.{Place, area, exchanged}
use Rattle.plane_laws.specs.Decisions.{Vector, same_sign}
use Rattle.plane_laws.specs.Heights.{flat}
use Rattle.plane_laws.specs.Moved.{nonneg_mul, times_zero}
use Rattle.solid_terms.specs.Solids.{volume}
use Rattle.inspection_terms.specs.Cuts.{HasCorner}
use Rattle.inspection_terms.specs.Triangles.{Corners}
use Rattle.inspection_laws.specs.Signs.{turn, agree, are_opposite, crosses, crosses_any, ends_across, goes_across, is_zero}
use Rattle.inspection_laws.proofs.Commons.{IsCommon}
use Rattle.inspection_laws.proofs.Exits.{AreTurns, Crosses, at_first, at_second, at_third, Outside, of_first, of_second, of_third, exits, turns_on}
use Rattle.inspection_laws.proofs.Numbers.{by_sign, zero_times, same_factor}
use Rattle.inspection_laws.proofs.Seen.{IsSeen, IsSum, turn_is, areas_across}
use Rattle.inspection_laws.proofs.Spread.{IsSpread}
use Rattle.inspection_laws.proofs.Tests.{Opposite, rising, falling, HaveWeak, Parted, up, down, yes_opposite, opposite_yes, yes_agree}
use Rattle.inspection_laws.proofs.Tests.{agree_yes, yes_parted, parted_yes, both, and, either, or_left, or_right, zero_yes, yes_zero}
use Rattle.inspection_laws.proofs.Through.{HasPoint, weak_of}

-- turns of three places from the next one on
pub turn_on : (u v t : Vector) → turn v t u ≡ turn u v t
turn_on u v t = rw (turn_is v t u, turn_is u v t) (by (flat u) (flat v) (flat t)) where
  by : (u v t : Place) → area v t u ≡ area u v t
  by u v t = omega (arith, ints)

-- the areas of a place with the edges add up to that of the triangle
turns_whole : (u v t s : Vector) → turn v t s +ℤ turn t u s +ℤ turn u v s ≡ turn u v t
turns_whole u v t s = rw (turn_is v t s, turn_is t u s, turn_is u v s, turn_is u v t) (by (flat u) (flat v) (flat t) (flat s)) where
  by : (u v t s : Place) → area v t s +ℤ area t u s +ℤ area u v s ≡ area u v t
  by u v t s = omega (arith, ints)

-- the numbers of an edge and a triangle
turns : (p q u v t : Vector) → AreTurns (turn u v t) (turn v t p) (turn t u p) (turn u v p) (turn v t q) (turn t u q) (turn u v q) (turn p q u) (turn p q v) (turn p q t)
turns p q u v t = record {
  start = turns_whole u v t p;
  end = turns_whole u v t q;
  first = areas_across p q u v t;
  second = ap (λ (z : ℤ). z *ℤ turn p q v) (sym (turn_on u v t)) ∙ areas_across p q v t u;
  third = ap (λ (z : ℤ). z *ℤ turn p q t) (turn_on t u v) ∙ areas_across p q t u v;
}

-- the test, and what it tells
crosses_yes : (p q u v : Vector) → Opposite (turn u v p) (turn u v q) → Parted (turn p q u) (turn p q v) → crosses p q u v ≡ true
crosses_yes p q u v o h = and _ _ (opposite_yes _ _ o) (parted_yes _ _ h)

yes_crosses : (p q u v : Vector) → crosses p q u v ≡ true → Opposite (turn u v p) (turn u v q) × Parted (turn p q u) (turn p q v)
yes_crosses p q u v e = let h = both (are_opposite (turn u v p) (turn u v q)) (not (same_sign (turn p q u) (turn p q v))) e in (yes_opposite _ _ h.0, yes_parted _ _ h.1)

any_yes : (p q u v t : Vector) → Crosses (turn v t p) (turn t u p) (turn u v p) (turn v t q) (turn t u q) (turn u v q) (turn p q u) (turn p q v) (turn p q t) →
    (crosses p q u v || crosses p q v t || crosses p q t u) ≡ true
any_yes p q u v t (at_third o h) = or_left _ _ (or_left _ _ (crosses_yes p q u v o h))
any_yes p q u v t (at_first o h) = or_left (crosses p q u v || crosses p q v t) _ (or_right _ _ (crosses_yes p q v t o h))
any_yes p q u v t (at_second o h) = or_right (crosses p q u v || crosses p q v t) _ (crosses_yes p q t u o h)

yes_any : (p q u v t : Vector) → (crosses p q u v || crosses p q v t || crosses p q t u) ≡ true →
    Crosses (turn v t p) (turn t u p) (turn u v p) (turn v t q) (turn t u q) (turn u v q) (turn p q u) (turn p q v) (turn p q t)
yes_any p q u v t e = by (either (crosses p q u v || crosses p q v t) (crosses p q t u) e) where
  first : (crosses p q u v ≡ true) ⊎ (crosses p q v t ≡ true) →
      Crosses (turn v t p) (turn t u p) (turn u v p) (turn v t q) (turn t u q) (turn u v q) (turn p q u) (turn p q v) (turn p q t)
  first (inl k) = let h = yes_crosses p q u v k in at_third h.0 h.1
  first (inr k) = let h = yes_crosses p q v t k in at_first h.0 h.1

  by : ((crosses p q u v || crosses p q v t) ≡ true) ⊎ (crosses p q t u ≡ true) →
      Crosses (turn v t p) (turn t u p) (turn u v p) (turn v t q) (turn t u q) (turn u v q) (turn p q u) (turn p q v) (turn p q t)
  by (inl k) = first (either (crosses p q u v) (crosses p q v t) k)
  by (inr k) = let h = yes_crosses p q t u k in at_second h.0 h.1

-- at a common point the areas of the ends are in proportion to its weights
proportion_axis : (n P Q A B C a1 a2 a3 b1 b2 b3 p q u v t : ℤ) → a1 *ℤ u +ℤ a2 *ℤ v +ℤ a3 *ℤ t ≡ n *ℤ p → b1 *ℤ u +ℤ b2 *ℤ v +ℤ b3 *ℤ t ≡ n *ℤ q →
    A *ℤ u +ℤ B *ℤ v +ℤ C *ℤ t ≡ P *ℤ p +ℤ Q *ℤ q →
    (P *ℤ a1 +ℤ Q *ℤ b1 -ℤ n *ℤ A) *ℤ u +ℤ (P *ℤ a2 +ℤ Q *ℤ b2 -ℤ n *ℤ B) *ℤ v +ℤ (P *ℤ a3 +ℤ Q *ℤ b3 -ℤ n *ℤ C) *ℤ t ≡ pos 0
proportion_axis n P Q A B C a1 a2 a3 b1 b2 b3 p q u v t e f h =
    omega (
      arith,
      ints,
      one a1 b1 A u,
      one a2 b2 B v,
      one a3 b3 C t,
      split P (a1 *ℤ u) (a2 *ℤ v) (a3 *ℤ t),
      split Q (b1 *ℤ u) (b2 *ℤ v) (b3 *ℤ t),
      split n (A *ℤ u) (B *ℤ v) (C *ℤ t),
      ap (λ (z : ℤ). P *ℤ z) e,
      ap (λ (z : ℤ). Q *ℤ z) f,
      ap (λ (z : ℤ). n *ℤ z) h,
      mul-add n (P *ℤ p) (Q *ℤ q),
      exchanged P n p,
      exchanged Q n q,
    )
  where
    split : (m x y z : ℤ) → m *ℤ (x +ℤ y +ℤ z) ≡ m *ℤ x +ℤ m *ℤ y +ℤ m *ℤ z
    split m x y z = omega (arith, ints, mul-add m (x +ℤ y) z, mul-add m x y)

    one : (a b A u : ℤ) → (P *ℤ a +ℤ Q *ℤ b -ℤ n *ℤ A) *ℤ u ≡ P *ℤ (a *ℤ u) +ℤ Q *ℤ (b *ℤ u) -ℤ n *ℤ (A *ℤ u)
    one a b A u = omega (arith, ints, sub-mul (P *ℤ a +ℤ Q *ℤ b) (n *ℤ A) u, add-mul (P *ℤ a) (Q *ℤ b) u, mul-assoc P a u, mul-assoc Q b u, mul-assoc n A u)

proportion : (p q : Vector) (o : Corners) (n P Q A B C a1 a2 a3 b1 b2 b3 : ℤ) → IsSpread o → IsSum n p o a1 a2 a3 → IsSum n q o b1 b2 b3 → IsCommon p q o P Q A B C →
    (P *ℤ a1 +ℤ Q *ℤ b1 ≡ n *ℤ A) × (P *ℤ a2 +ℤ Q *ℤ b2 ≡ n *ℤ B) × (P *ℤ a3 +ℤ Q *ℤ b3 ≡ n *ℤ C)
proportion p q o n P Q A B C a1 a2 a3 b1 b2 b3 spread s r h =
    let is =
    spread.first (P *ℤ a1 +ℤ Q *ℤ b1 -ℤ n *ℤ A) (P *ℤ a2 +ℤ Q *ℤ b2 -ℤ n *ℤ B) (P *ℤ a3 +ℤ Q *ℤ b3 -ℤ n *ℤ C)
    (sums h.whole s.whole r.whole)
    (proportion_axis n P Q A B C a1 a2 a3 b1 b2 b3 p.x q.x o.0.x o.1.x o.2.x s.x r.x h.x)
    (proportion_axis n P Q A B C a1 a2 a3 b1 b2 b3 p.y q.y o.0.y o.1.y o.2.y s.y r.y h.y)
    (proportion_axis n P Q A B C a1 a2 a3 b1 b2 b3 p.z q.z o.0.z o.1.z o.2.z s.z r.z h.z) in
    (omega (arith, ints, is.0), omega (arith, ints, is.1), omega (arith, ints, is.2))
  where
    split : (m x y z : ℤ) → m *ℤ x +ℤ m *ℤ y +ℤ m *ℤ z ≡ m *ℤ (x +ℤ y +ℤ z)
    split m x y z = omega (arith, ints, mul-add m (x +ℤ y) z, mul-add m x y)

    sums : A +ℤ B +ℤ C ≡ P +ℤ Q → a1 +ℤ a2 +ℤ a3 ≡ n → b1 +ℤ b2 +ℤ b3 ≡ n →
        (P *ℤ a1 +ℤ Q *ℤ b1 -ℤ n *ℤ A) +ℤ (P *ℤ a2 +ℤ Q *ℤ b2 -ℤ n *ℤ B) +ℤ (P *ℤ a3 +ℤ Q *ℤ b3 -ℤ n *ℤ C) ≡ pos 0
    sums h s r =
        omega (
          arith,
          ints,
          split P a1 a2 a3,
          split Q b1 b2 b3,
          split n A B C,
          ap (λ (z : ℤ). n *ℤ z) h,
          ap (λ (z : ℤ). P *ℤ z) s,
          ap (λ (z : ℤ). Q *ℤ z) r,
          mul-add n P Q,
          *ℤ_comm n P,
          *ℤ_comm n Q,
        )

-- numbers with the sign of n, or 0
signs_of : (K n A B C a b c : ℤ) → n ≢ pos 0 → pos 0 <ℤ K → pos 0 ≤ℤ A → pos 0 ≤ℤ B → pos 0 ≤ℤ C → K *ℤ a ≡ n *ℤ A → K *ℤ b ≡ n *ℤ B → K *ℤ c ≡ n *ℤ C → agree a b c ≡ true
signs_of K n A B C a b c some hK hA hB hC e f g =
    let wa = weak_of K n A a hK hA e in
    let wb = weak_of K n B b hK hB f in
    let wc = weak_of K n C c hK hC g in
    by_sign n (λ l. agree_yes false a b c (record { first = wa.1 l; second = wb.1 l; third = wc.1 l })) (λ l. absurd (some l))
    (λ l. agree_yes true a b c (record { first = wa.0 l; second = wb.0 l; third = wc.0 l }))

-- an end that is the common point
pub end_inside : (f : Vector → Vector) (p q : Vector) (o : Corners) (P Q A B C : ℤ) → IsSeen f o → IsSpread o → volume p o.0 o.1 o.2 ≡ pos 0 → IsCommon p q o P Q A B C →
    Q ≡ pos 0 →
    agree (turn (f o.1) (f o.2) (f p)) (turn (f o.2) (f o.0) (f p)) (turn (f o.0) (f o.1) (f p)) ≡ true
end_inside f p q o P Q A B C seen spread level h none =
    let s = seen.sum p level in
    let is = proportion p p o _ P Q A B C _ _ _ _ _ _ spread s s (record {
      start = h.start;
      end = h.end;
      first = h.first;
      second = h.second;
      third = h.third;
      some = h.some;
      whole = h.whole;
      x = h.x ∙ alone p.x q.x;
      y = h.y ∙ alone p.y q.y;
      z = h.z ∙ alone p.z q.z;
    }) in
    signs_of P _ A B C _ _ _ seen.some (omega (arith, ints, h.some, none)) h.first h.second h.third (without _ _ is.0) (without _ _ is.1) (without _ _ is.2)
  where
    no : (z : ℤ) → Q *ℤ z ≡ pos 0
    no z = ap (λ (w : ℤ). w *ℤ z) none ∙ zero_times z

    alone : (x y : ℤ) → P *ℤ x +ℤ Q *ℤ y ≡ P *ℤ x +ℤ Q *ℤ x
    alone x y = omega (arith, ints, no x, no y)

    without : (a m : ℤ) → P *ℤ a +ℤ Q *ℤ a ≡ m → P *ℤ a ≡ m
    without a m e = omega (arith, ints, e, no a)

-- the ends of a common edge exchanged
pub common_back : (p q : Vector) (o : Corners) (P Q A B C : ℤ) → IsCommon p q o P Q A B C → IsCommon q p o Q P A B C
common_back p q o P Q A B C h = record {
  start = h.end;
  end = h.start;
  first = h.first;
  second = h.second;
  third = h.third;
  some = omega (arith, ints, h.some);
  whole = omega (arith, ints, h.whole);
  x = omega (arith, ints, h.x);
  y = omega (arith, ints, h.y);
  z = omega (arith, ints, h.z);
}

-- inside, or outside by the sign of n
by_inside : {R : Type 0} (n a b c : ℤ) → n ≢ pos 0 → (agree a b c ≡ true → R) → ((pos 0 <ℤ n → Outside a b c) → (n <ℤ pos 0 → Outside (neg_ℤ a) (neg_ℤ b) (neg_ℤ c)) → R) → R
by_inside {R} n a b c some f g = by_sign n below (λ e. absurd (some e)) above where
  above : pos 0 <ℤ n → R
  above h = by_sign a (λ l. out (of_first l)) (λ l. second (omega (arith, ints, l))) (λ l. second (omega (arith, ints, l))) where
    out : Outside a b c → R
    out o = g (λ _. o) (λ k. absurd (omega (arith, ints, h, k)))

    third : pos 0 ≤ℤ a → pos 0 ≤ℤ b → R
    third ha hb = by_sign c (λ l. out (of_third l)) (λ l. f (agree_yes true a b c (record { first = ha; second = hb; third = omega (arith, ints, l) })))
        (λ l. f (agree_yes true a b c (record { first = ha; second = hb; third = omega (arith, ints, l) })))

    second : pos 0 ≤ℤ a → R
    second ha = by_sign b (λ l. out (of_second l)) (λ l. third ha (omega (arith, ints, l))) (λ l. third ha (omega (arith, ints, l)))

  below : n <ℤ pos 0 → R
  below h = by_sign a (λ l. second (omega (arith, ints, l))) (λ l. second (omega (arith, ints, l))) (λ l. out (of_first (omega (arith, ints, l)))) where
    out : Outside (neg_ℤ a) (neg_ℤ b) (neg_ℤ c) → R
    out o = g (λ k. absurd (omega (arith, ints, h, k))) (λ _. o)

    third : a ≤ℤ pos 0 → b ≤ℤ pos 0 → R
    third ha hb = by_sign c (λ l. f (agree_yes false a b c (record { first = ha; second = hb; third = omega (arith, ints, l) })))
        (λ l. f (agree_yes false a b c (record { first = ha; second = hb; third = omega (arith, ints, l) }))) (λ l. out (of_third (omega (arith, ints, l))))

    second : a ≤ℤ pos 0 → R
    second ha = by_sign b (λ l. third ha (omega (arith, ints, l))) (λ l. third ha (omega (arith, ints, l))) (λ l. out (of_second (omega (arith, ints, l))))

-- an edge in the plane that has a common point between its ends: it crosses an edge of the triangle, or has both ends in it
pub data IsAcross (f : Vector → Vector) (p q : Vector) (o : Corners) : Type 0 where
  over : goes_across f p q o ≡ true → IsAcross f p q o
  within : agree (turn (f o.1) (f o.2) (f p)) (turn (f o.2) (f o.0) (f p)) (turn (f o.0) (f o.1) (f p)) ≡ true →
      agree (turn (f o.1) (f o.2) (f q)) (turn (f o.2) (f o.0) (f q)) (turn (f o.0) (f o.1) (f q)) ≡ true → IsAcross f p q o

pub tells_across : (f : Vector → Vector) (p q : Vector) (o : Corners) (P Q A B C : ℤ) → IsSeen f o → IsSpread o → volume p o.0 o.1 o.2 ≡ pos 0 → volume q o.0 o.1 o.2 ≡ pos 0 →
    IsCommon p q o P Q A B C → pos 0 <ℤ P → pos 0 <ℤ Q → IsAcross f p q o
tells_across f p q o P Q A B C seen spread hp hq h hP hQ =
    let is = proportion p q o _ P Q A B C _ _ _ _ _ _ spread (seen.sum p hp) (seen.sum q hq) h in
    let t = turns (f p) (f q) (f o.0) (f o.1) (f o.2) in
    by_inside _ _ _ _ seen.some
    (λ inside. by_inside _ _ _ _ seen.some (λ other. within inside other)
    (λ above below. out (exits _ _ _ _ _ _ _ _ _ _ P Q A B C seen.some t hP hQ h.first h.second h.third is.0 is.1 is.2 (λ k. inr (above k)) (λ k. inr (below k)))))
    (λ above below. out (exits _ _ _ _ _ _ _ _ _ _ P Q A B C seen.some t hP hQ h.first h.second h.third is.0 is.1 is.2 (λ k. inl (above k)) (λ k. inl (below k))))
  where
    out : Crosses (turn (f o.1) (f o.2) (f p)) (turn (f o.2) (f o.0) (f p)) (turn (f o.0) (f o.1) (f p)) (turn (f o.1) (f o.2) (f q)) (turn (f o.2) (f o.0) (f q))
        (turn (f o.0) (f o.1) (f q))
        (turn (f p) (f q) (f o.0)) (turn (f p) (f q) (f o.1)) (turn (f p) (f q) (f o.2)) → IsAcross f p q o
    out c = over (and _ _ (zero_yes _ hp) (and _ _ (zero_yes _ hq) (any_yes (f p) (f q) (f o.0) (f o.1) (f o.2) c)))

-- where an edge crosses the third edge, the point is written down
cross_axis : (n a1 a2 a3 b1 b2 b3 g1 g2 p q u v t : ℤ) → n ≢ pos 0 → n *ℤ g1 ≡ a2 *ℤ b3 -ℤ a3 *ℤ b2 → n *ℤ g2 ≡ a3 *ℤ b1 -ℤ a1 *ℤ b3 → a1 *ℤ u +ℤ a2 *ℤ v +ℤ a3 *ℤ t ≡ n *ℤ p →
    b1 *ℤ u +ℤ b2 *ℤ v +ℤ b3 *ℤ t ≡ n *ℤ q → g1 *ℤ v -ℤ g2 *ℤ u ≡ b3 *ℤ p -ℤ a3 *ℤ q
cross_axis n a1 a2 a3 b1 b2 b3 g1 g2 p q u v t some e f h k =
    same_factor n _ _ some
    (omega (
      arith,
      ints,
      mul-sub n (g1 *ℤ v) (g2 *ℤ u),
      mul-sub n (b3 *ℤ p) (a3 *ℤ q),
      sym (mul-assoc n g1 v) ∙ ap (λ (z : ℤ). z *ℤ v) e ∙ two a2 b3 a3 b2 v,
      sym (mul-assoc n g2 u) ∙ ap (λ (z : ℤ). z *ℤ u) f ∙ two a3 b1 a1 b3 u,
      exchanged n b3 p,
      exchanged n a3 q,
      ap (λ (z : ℤ). b3 *ℤ z) h,
      ap (λ (z : ℤ). a3 *ℤ z) k,
      split b3 (a1 *ℤ u) (a2 *ℤ v) (a3 *ℤ t),
      split a3 (b1 *ℤ u) (b2 *ℤ v) (b3 *ℤ t),
      moved b3 a1 u,
      moved b3 a2 v,
      exchanged b3 a3 t,
    ))
  where
    split : (m x y z : ℤ) → m *ℤ (x +ℤ y +ℤ z) ≡ m *ℤ x +ℤ m *ℤ y +ℤ m *ℤ z
    split m x y z = omega (arith, ints, mul-add m (x +ℤ y) z, mul-add m x y)

    moved : (m a u : ℤ) → m *ℤ (a *ℤ u) ≡ a *ℤ (m *ℤ u)
    moved m a u = exchanged m a u

    two : (a b c d v : ℤ) → (a *ℤ b -ℤ c *ℤ d) *ℤ v ≡ a *ℤ (b *ℤ v) -ℤ c *ℤ (d *ℤ v)
    two a b c d v = omega (arith, ints, sub-mul (a *ℤ b) (c *ℤ d) v, mul-assoc a b v, mul-assoc c d v)

cross_whole : (n a1 a2 a3 b1 b2 b3 g1 g2 g3 : ℤ) → n ≢ pos 0 → AreTurns n a1 a2 a3 b1 b2 b3 g1 g2 g3 → g1 -ℤ g2 ≡ b3 -ℤ a3
cross_whole n a1 a2 a3 b1 b2 b3 g1 g2 g3 some t =
    same_factor n _ _ some
    (omega (
      arith,
      ints,
      mul-sub n g1 g2,
      mul-sub n b3 a3,
      t.first,
      t.second,
      ap (λ (z : ℤ). z *ℤ b3) t.start ∙ *ℤ_comm n b3,
      ap (λ (z : ℤ). a3 *ℤ z) t.end,
      add-mul (a1 +ℤ a2) a3 b3,
      add-mul a1 a2 b3,
      mul-add a3 (b1 +ℤ b2) b3,
      mul-add a3 b1 b2,
      *ℤ_comm n b3,
      *ℤ_comm n a3,
    ))

cross_point : (n a1 a2 a3 b1 b2 b3 g1 g2 g3 : ℤ) (p q : Vector) (o : Corners) → n ≢ pos 0 → AreTurns n a1 a2 a3 b1 b2 b3 g1 g2 g3 → IsSum n p o a1 a2 a3 → IsSum n q o b1 b2 b3 →
    Opposite a3 b3 → Parted g1 g2 → HasPoint p q o
cross_point n a1 a2 a3 b1 b2 b3 g1 g2 g3 p q o some t s r opposite parted = by opposite parted where
  w : g1 -ℤ g2 ≡ b3 -ℤ a3
  w = cross_whole n a1 a2 a3 b1 b2 b3 g1 g2 g3 some t

  on_x : g1 *ℤ o.1.x -ℤ g2 *ℤ o.0.x ≡ b3 *ℤ p.x -ℤ a3 *ℤ q.x
  on_x = cross_axis n a1 a2 a3 b1 b2 b3 g1 g2 p.x q.x o.0.x o.1.x o.2.x some t.first t.second s.x r.x

  on_y : g1 *ℤ o.1.y -ℤ g2 *ℤ o.0.y ≡ b3 *ℤ p.y -ℤ a3 *ℤ q.y
  on_y = cross_axis n a1 a2 a3 b1 b2 b3 g1 g2 p.y q.y o.0.y o.1.y o.2.y some t.first t.second s.y r.y

  on_z : g1 *ℤ o.1.z -ℤ g2 *ℤ o.0.z ≡ b3 *ℤ p.z -ℤ a3 *ℤ q.z
  on_z = cross_axis n a1 a2 a3 b1 b2 b3 g1 g2 p.z q.z o.0.z o.1.z o.2.z some t.first t.second s.z r.z

  kept : (p q u v t : ℤ) → g1 *ℤ v -ℤ g2 *ℤ u ≡ b3 *ℤ p -ℤ a3 *ℤ q → neg_ℤ g2 *ℤ u +ℤ g1 *ℤ v +ℤ pos 0 *ℤ t ≡ b3 *ℤ p +ℤ neg_ℤ a3 *ℤ q
  kept p q u v t e = omega (arith, ints, e, neg-mul g2 u, neg-mul a3 q, zero_times t)

  back : (p q u v t : ℤ) → g1 *ℤ v -ℤ g2 *ℤ u ≡ b3 *ℤ p -ℤ a3 *ℤ q → g2 *ℤ u +ℤ neg_ℤ g1 *ℤ v +ℤ pos 0 *ℤ t ≡ neg_ℤ b3 *ℤ p +ℤ a3 *ℤ q
  back p q u v t e = omega (arith, ints, e, neg-mul g1 v, neg-mul b3 p, zero_times t)

  by : Opposite a3 b3 → Parted g1 g2 → HasPoint p q o
  by (rising h k) (down l m) = absurd (omega (arith, ints, h, k, l, m, w))
  by (falling h k) (up l m) = absurd (omega (arith, ints, h, k, l, m, w))
  by (rising h k) (up l m) = record {
    P = b3;
    Q = neg_ℤ a3;
    A = neg_ℤ g2;
    B = g1;
    C = pos 0;
    common = record {
      start = omega (arith, ints, k);
      end = omega (arith, ints, h);
      first = omega (arith, ints, m);
      second = l;
      third = omega (arith, ints);
      some = omega (arith, ints, h, k);
      whole = omega (arith, ints, w);
      x = kept p.x q.x o.0.x o.1.x o.2.x on_x;
      y = kept p.y q.y o.0.y o.1.y o.2.y on_y;
      z = kept p.z q.z o.0.z o.1.z o.2.z on_z;
    };
    inner = (k, omega (arith, ints, h));
  }
  by (falling h k) (down l m) = record {
    P = neg_ℤ b3;
    Q = a3;
    A = g2;
    B = neg_ℤ g1;
    C = pos 0;
    common = record {
      start = omega (arith, ints, k);
      end = omega (arith, ints, h);
      first = m;
      second = omega (arith, ints, l);
      third = omega (arith, ints);
      some = omega (arith, ints, h, k);
      whole = omega (arith, ints, w);
      x = back p.x q.x o.0.x o.1.x o.2.x on_x;
      y = back p.y q.y o.0.y o.1.y o.2.y on_y;
      z = back p.z q.z o.0.z o.1.z o.2.z on_z;
    };
    inner = (omega (arith, ints, k), h);
  }

-- the corners numbered from the next one on
sum_on : (n : ℤ) (s : Vector) (o : Corners) (a b c : ℤ) → IsSum n s o a b c → IsSum n s (o.1, o.2, o.0) b c a
sum_on n s o a b c h = record { whole = omega (arith, ints, h.whole); x = omega (arith, ints, h.x); y = omega (arith, ints, h.y); z = omega (arith, ints, h.z) }

point_back : (p q : Vector) (o : Corners) → HasPoint p q (o.1, o.2, o.0) → HasPoint p q o
point_back p q o h = record {
  P = h.P;
  Q = h.Q;
  A = h.C;
  B = h.A;
  C = h.B;
  common = record {
    start = h.common.start;
    end = h.common.end;
    first = h.common.third;
    second = h.common.first;
    third = h.common.second;
    some = h.common.some;
    whole = omega (arith, ints, h.common.whole);
    x = omega (arith, ints, h.common.x);
    y = omega (arith, ints, h.common.y);
    z = omega (arith, ints, h.common.z);
  };
  inner = h.inner;
}

-- the area of a corner with an edge is that of the triangle, or 0
corner_turn : (f : Vector → Vector) (p u v t : Vector) → HasCorner (u, v, t) p → (turn (f u) (f v) (f p) ≡ pos 0) ⊎ (turn (f u) (f v) (f p) ≡ turn (f u) (f v) (f t))
corner_turn f p u v t (inl e) = inl (ap (λ (s : Vector). turn (f u) (f v) (f s)) e ∙ start (f u) (f v)) where
  start : (u v : Vector) → turn u v u ≡ pos 0
  start u v = turn_is u v u ∙ by (flat u) (flat v) where
    by : (u v : Place) → area u v u ≡ pos 0
    by u v = omega (arith, ints)
corner_turn f p u v t (inr (inl e)) = inl (ap (λ (s : Vector). turn (f u) (f v) (f s)) e ∙ end (f u) (f v)) where
  end : (u v : Vector) → turn u v v ≡ pos 0
  end u v = turn_is u v v ∙ by (flat u) (flat v) where
    by : (u v : Place) → area u v v ≡ pos 0
    by u v = omega (arith, ints)
corner_turn f p u v t (inr (inr e)) = inr (ap (λ (s : Vector). turn (f u) (f v) (f s)) e)

not_apart : (n a b : ℤ) → (a ≡ pos 0) ⊎ (a ≡ n) → (b ≡ pos 0) ⊎ (b ≡ n) → Opposite a b → ⊥
not_apart n a b (inl e) k (rising l m) = omega (arith, ints, e, l)
not_apart n a b (inl e) k (falling l m) = omega (arith, ints, e, l)
not_apart n a b (inr e) (inl g) (rising l m) = omega (arith, ints, g, m)
not_apart n a b (inr e) (inl g) (falling l m) = omega (arith, ints, g, m)
not_apart n a b (inr e) (inr g) (rising l m) = omega (arith, ints, e, g, l, m)
not_apart n a b (inr e) (inr g) (falling l m) = omega (arith, ints, e, g, l, m)

corner_on : (p u v t : Vector) → HasCorner (u, v, t) p → HasCorner (v, t, u) p
corner_on p u v t (inl e) = inr (inr e)
corner_on p u v t (inr (inl e)) = inl e
corner_on p u v t (inr (inr e)) = inr (inl e)

-- an edge that goes across has a point in the triangle, and not both ends are corners of it
pub across_point : (f : Vector → Vector) (p q : Vector) (o : Corners) → IsSeen f o → goes_across f p q o ≡ true → HasPoint p q o × (HasCorner o p → HasCorner o q → ⊥)
across_point f p q o seen e =
    let h = both (is_zero (volume p o.0 o.1 o.2)) (ends_across f p q o) e in
    let k = both (is_zero (volume q o.0 o.1 o.2)) (crosses_any (f p) (f q) (f o.0) (f o.1) (f o.2)) h.1 in
    let s = seen.sum p (yes_zero _ h.0) in
    let r = seen.sum q (yes_zero _ k.0) in
    by s r (yes_any (f p) (f q) (f o.0) (f o.1) (f o.2) k.1)
  where
    n : ℤ
    n = turn (f o.0) (f o.1) (f o.2)

    t : AreTurns (turn (f o.0) (f o.1) (f o.2)) (turn (f o.1) (f o.2) (f p)) (turn (f o.2) (f o.0) (f p)) (turn (f o.0) (f o.1) (f p)) (turn (f o.1) (f o.2) (f q))
        (turn (f o.2) (f o.0) (f q))
        (turn (f o.0) (f o.1) (f q)) (turn (f p) (f q) (f o.0)) (turn (f p) (f q) (f o.1)) (turn (f p) (f q) (f o.2))
    t = turns (f p) (f q) (f o.0) (f o.1) (f o.2)

    by : IsSum (turn (f o.0) (f o.1) (f o.2)) p o (turn (f o.1) (f o.2) (f p)) (turn (f o.2) (f o.0) (f p)) (turn (f o.0) (f o.1) (f p)) →
        IsSum (turn (f o.0) (f o.1) (f o.2)) q o (turn (f o.1) (f o.2) (f q)) (turn (f o.2) (f o.0) (f q)) (turn (f o.0) (f o.1) (f q)) →
        Crosses (turn (f o.1) (f o.2) (f p)) (turn (f o.2) (f o.0) (f p)) (turn (f o.0) (f o.1) (f p)) (turn (f o.1) (f o.2) (f q)) (turn (f o.2) (f o.0) (f q))
        (turn (f o.0) (f o.1) (f q))
        (turn (f p) (f q) (f o.0)) (turn (f p) (f q) (f o.1)) (turn (f p) (f q) (f o.2)) →
        HasPoint p q o × (HasCorner o p → HasCorner o q → ⊥)
    by s r (at_third opposite parted) = (
      cross_point _ _ _ _ _ _ _ _ _ _ p q o seen.some t s r opposite parted,
      λ h k. not_apart _ _ _ (corner_turn f p o.0 o.1 o.2 h) (corner_turn f q o.0 o.1 o.2 k) opposite,
    )
    by s r (at_first opposite parted) = (
      point_back p q o (cross_point _ _ _ _ _ _ _ _ _ _ p q (o.1, o.2, o.0) seen.some (turns_on _ _ _ _ _ _ _ _ _ _ t) (sum_on _ p o _ _ _ s)
          (sum_on _ q o _ _ _ r) opposite parted),
      λ h k. not_apart _ _ _ (corner_turn f p o.1 o.2 o.0 (corner_on p o.0 o.1 o.2 h)) (corner_turn f q o.1 o.2 o.0 (corner_on q o.0 o.1 o.2 k)) opposite,
    )
    by s r (at_second opposite parted) = (
      point_back p q o (point_back p q (o.1, o.2, o.0)
          (cross_point _ _ _ _ _ _ _ _ _ _ p q (o.2, o.0, o.1) seen.some (turns_on _ _ _ _ _ _ _ _ _ _ (turns_on _ _ _ _ _ _ _ _ _ _ t))
          (sum_on _ p (o.1, o.2, o.0) _ _ _ (sum_on _ p o _ _ _ s)) (sum_on _ q (o.1, o.2, o.0) _ _ _ (sum_on _ q o _ _ _ r)) opposite parted)),
      λ h k. not_apart _ _ _ (corner_turn f p o.2 o.0 o.1 (corner_on p o.1 o.2 o.0 (corner_on p o.0 o.1 o.2 h)))
          (corner_turn f q o.2 o.0 o.1 (corner_on q o.1 o.2 o.0 (corner_on q o.0 o.1 o.2 k))) opposite,
    )
