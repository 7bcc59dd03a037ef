-- An edge in the plane of a triangle that leaves it crosses an edge of it: over numbers alone. The areas of both ends with the three edges are
-- a and b, those of the edge with the three corners g, and n is the area of the triangle.
use Rattle.std.specs.Prelude.{◌≡◌, ◌≢◌, ℤ, pos, neg_ℤ, ◌+ℤ◌, ◌-ℤ◌, ◌*ℤ◌, ◌≤ℤ◌, ◌<ℤ◌, ◌⊎◌, Bool, true, false}
use Rattle.std.proofs.Common.{arith, refl, sym, ap, inl, inr, ◌∙◌}
use Rattle.std.proofs.lemmas.Int.{ints}
use Rattle.std.proofs.Math.IntN.{*ℤ_comm}
use Rattle.chain_laws.specs.Products.{add-mul, mul-add, mul-sub, sub-mul, mul-neg, neg-mul, mul-assoc, pos_mul, pos_factor}
use Rattle.plane_laws.specs.Areas.{exchanged}
use Rattle.plane_laws.specs.Moved.{nonneg_mul, times_zero}
use Rattle.inspection_laws.proofs.Numbers.{by_sign, zero_times}
use Rattle.inspection_laws.proofs.Tests.{Opposite, rising, falling, opposite_back, opposite_neg, Parted, up, down, parted_neg}

-- how these numbers go together
pub record AreTurns (n a1 a2 a3 b1 b2 b3 g1 g2 g3 : ℤ) : Type 0 where
  pub start : a1 +ℤ a2 +ℤ a3 ≡ n
  pub end : b1 +ℤ b2 +ℤ b3 ≡ n
  pub first : n *ℤ g1 ≡ a2 *ℤ b3 -ℤ a3 *ℤ b2
  pub second : n *ℤ g2 ≡ a3 *ℤ b1 -ℤ a1 *ℤ b3
  pub third : n *ℤ g3 ≡ a1 *ℤ b2 -ℤ a2 *ℤ b1

-- the ends lie on two sides of an edge, and the ends of that not on one side of them
pub data Crosses (a1 a2 a3 b1 b2 b3 g1 g2 g3 : ℤ) : Type 0 where
  at_first : Opposite a1 b1 → Parted g2 g3 → Crosses a1 a2 a3 b1 b2 b3 g1 g2 g3
  at_second : Opposite a2 b2 → Parted g3 g1 → Crosses a1 a2 a3 b1 b2 b3 g1 g2 g3
  at_third : Opposite a3 b3 → Parted g1 g2 → Crosses a1 a2 a3 b1 b2 b3 g1 g2 g3

-- the factor has the sign of the product
above_factor : (n g : ℤ) → pos 0 <ℤ n → pos 0 ≤ℤ (n *ℤ g) → pos 0 ≤ℤ g
above_factor n g h k = by_sign g (λ l. let m = pos_mul n (neg_ℤ g) h (omega (arith, ints, l)) in absurd (omega (arith, ints, m, k, mul-neg n g))) (λ l. omega (arith, ints, l))
    (λ l. omega (arith, ints, l))

below_factor : (n g : ℤ) → pos 0 <ℤ n → (n *ℤ g) ≤ℤ pos 0 → g ≤ℤ pos 0
below_factor n g h k = by_sign g (λ l. omega (arith, ints, l)) (λ l. omega (arith, ints, l)) (λ l. let m = pos_mul n g h l in absurd (omega (arith, ints, m, k)))

-- where one end is outside an edge, the other is inside it
other_inside : (P Q a b : ℤ) → pos 0 <ℤ P → pos 0 ≤ℤ Q → pos 0 ≤ℤ (P *ℤ a +ℤ Q *ℤ b) → a <ℤ pos 0 → pos 0 <ℤ b
other_inside P Q a b hP hQ h l =
    let m = pos_mul P (neg_ℤ a) hP (omega (arith, ints, l)) in
    by_sign b
    (λ k. let n = nonneg_mul Q (neg_ℤ b) hQ (omega (arith, ints, k)) in absurd (omega (arith, ints, h, m, n, mul-neg P a, mul-neg Q b)))
    (λ k. let n = nonneg_mul Q (neg_ℤ b) hQ (omega (arith, ints, k)) in absurd (omega (arith, ints, h, m, n, mul-neg P a, mul-neg Q b)))
    (λ k. k)

-- where the edge leaves by one edge, it is inside another by which it does not leave
still_inside : (P Q a b c d : ℤ) → pos 0 <ℤ P → pos 0 ≤ℤ (P *ℤ a +ℤ Q *ℤ b) → pos 0 ≤ℤ (P *ℤ c +ℤ Q *ℤ d) → a <ℤ pos 0 → pos 0 <ℤ b → pos 0 ≤ℤ c → pos 0 ≤ℤ (b *ℤ c -ℤ a *ℤ d)
still_inside P Q a b c d hP h k ha hb hc = by_sign d (λ l. lower l) (λ l. upper (omega (arith, ints, l))) (λ l. upper (omega (arith, ints, l))) where
  upper : pos 0 ≤ℤ d → pos 0 ≤ℤ (b *ℤ c -ℤ a *ℤ d)
  upper l = let m = nonneg_mul b c (omega (arith, ints, hb)) hc in let n = nonneg_mul (neg_ℤ a) d (omega (arith, ints, ha)) l in omega (arith, ints, m, n, neg-mul a d)

  times : P *ℤ (b *ℤ c -ℤ a *ℤ d) ≡ b *ℤ (P *ℤ c +ℤ Q *ℤ d) +ℤ neg_ℤ d *ℤ (P *ℤ a +ℤ Q *ℤ b)
  times =
      let turned : d *ℤ (P *ℤ a) ≡ P *ℤ (a *ℤ d) = exchanged d P a ∙ ap (λ (z : ℤ). P *ℤ z) (*ℤ_comm d a) in
      let gone : d *ℤ (Q *ℤ b) ≡ b *ℤ (Q *ℤ d) = exchanged d Q b ∙ ap (λ (z : ℤ). Q *ℤ z) (*ℤ_comm d b) ∙ exchanged Q b d in
      omega (
        arith,
        ints,
        mul-sub P (b *ℤ c) (a *ℤ d),
        mul-add b (P *ℤ c) (Q *ℤ d),
        mul-add (neg_ℤ d) (P *ℤ a) (Q *ℤ b),
        neg-mul d (P *ℤ a),
        neg-mul d (Q *ℤ b),
        exchanged P b c,
        turned,
        gone,
      )

  lower : d <ℤ pos 0 → pos 0 ≤ℤ (b *ℤ c -ℤ a *ℤ d)
  lower l =
      let m = nonneg_mul b (P *ℤ c +ℤ Q *ℤ d) (omega (arith, ints, hb)) k in
      let n = nonneg_mul (neg_ℤ d) (P *ℤ a +ℤ Q *ℤ b) (omega (arith, ints, l)) h in
      above_factor P (b *ℤ c -ℤ a *ℤ d) hP (sum _ _ _ times m n)
    where
      sum : (x y z : ℤ) → x ≡ y +ℤ z → pos 0 ≤ℤ y → pos 0 ≤ℤ z → pos 0 ≤ℤ x
      sum x y z e f g = omega (arith, ints, e, f, g)

-- an end outside the third edge
exit_third : (n a1 a2 a3 b1 b2 b3 g1 g2 g3 P Q : ℤ) → pos 0 <ℤ n → AreTurns n a1 a2 a3 b1 b2 b3 g1 g2 g3 → pos 0 <ℤ P → pos 0 ≤ℤ Q →
    pos 0 ≤ℤ (P *ℤ a1 +ℤ Q *ℤ b1) → pos 0 ≤ℤ (P *ℤ a2 +ℤ Q *ℤ b2) → pos 0 ≤ℤ (P *ℤ a3 +ℤ Q *ℤ b3) → a3 <ℤ pos 0 → Crosses a1 a2 a3 b1 b2 b3 g1 g2 g3
exit_third n a1 a2 a3 b1 b2 b3 g1 g2 g3 P Q hn t hP hQ e1 e2 e3 l3 = by_sign a1
    (λ l1. first_out l1)
    (λ l1. first_in (omega (arith, ints, l1)))
    (λ l1. first_in (omega (arith, ints, l1)))
  where
    h3 : pos 0 <ℤ b3
    h3 = other_inside P Q a3 b3 hP hQ e3 l3

    low : pos 0 ≤ℤ a2 → pos 0 ≤ℤ g1
    low k = let s = still_inside P Q a3 b3 a2 b2 hP e3 e2 l3 h3 k in above_factor n g1 hn (omega (arith, ints, s, t.first, *ℤ_comm a2 b3))

    high : pos 0 ≤ℤ a1 → g2 ≤ℤ pos 0
    high k = let s = still_inside P Q a3 b3 a1 b1 hP e3 e1 l3 h3 k in below_factor n g2 hn (omega (arith, ints, s, t.second, *ℤ_comm a1 b3))

    first_out : a1 <ℤ pos 0 → Crosses a1 a2 a3 b1 b2 b3 g1 g2 g3
    first_out l1 =
        let k : pos 0 ≤ℤ a2 = omega (arith, ints, l1, l3, hn, t.start) in
        let h1 = other_inside P Q a1 b1 hP hQ e1 l1 in
        by_sign g2
        (λ m. at_third (rising l3 h3) (up (low k) (omega (arith, ints, m))))
        (λ m. at_third (rising l3 h3) (up (low k) (omega (arith, ints, m))))
        (λ m. at_first (rising l1 h1) (up (omega (arith, ints, m))
        (let s = still_inside P Q a1 b1 a2 b2 hP e1 e2 l1 h1 k in below_factor n g3 hn (omega (arith, ints, s, t.third, *ℤ_comm a2 b1)))))

    second_out : a2 <ℤ pos 0 → pos 0 ≤ℤ a1 → Crosses a1 a2 a3 b1 b2 b3 g1 g2 g3
    second_out l2 k =
        let h2 = other_inside P Q a2 b2 hP hQ e2 l2 in
        by_sign g1
        (λ m. at_second (rising l2 h2) (up (let s = still_inside P Q a2 b2 a1 b1 hP e2 e1 l2 h2 k in above_factor n g3 hn (omega (arith, ints, s, t.third, *ℤ_comm a1 b2)))
        (omega (arith, ints, m))))
        (λ m. at_third (rising l3 h3) (up (omega (arith, ints, m)) (high k)))
        (λ m. at_third (rising l3 h3) (up (omega (arith, ints, m)) (high k)))

    first_in : pos 0 ≤ℤ a1 → Crosses a1 a2 a3 b1 b2 b3 g1 g2 g3
    first_in k = by_sign a2 (λ l2. second_out l2 k) (λ m. at_third (rising l3 h3) (up (low (omega (arith, ints, m))) (high k)))
        (λ m. at_third (rising l3 h3) (up (low (omega (arith, ints, m))) (high k)))

-- the edges numbered from the next one on
pub turns_on : (n a1 a2 a3 b1 b2 b3 g1 g2 g3 : ℤ) → AreTurns n a1 a2 a3 b1 b2 b3 g1 g2 g3 → AreTurns n a2 a3 a1 b2 b3 b1 g2 g3 g1
turns_on n a1 a2 a3 b1 b2 b3 g1 g2 g3 t =
    record { start = omega (arith, ints, t.start); end = omega (arith, ints, t.end); first = t.second; second = t.third; third = t.first }

crosses_back : (a1 a2 a3 b1 b2 b3 g1 g2 g3 : ℤ) → Crosses a2 a3 a1 b2 b3 b1 g2 g3 g1 → Crosses a1 a2 a3 b1 b2 b3 g1 g2 g3
crosses_back a1 a2 a3 b1 b2 b3 g1 g2 g3 (at_first o p) = at_second o p
crosses_back a1 a2 a3 b1 b2 b3 g1 g2 g3 (at_second o p) = at_third o p
crosses_back a1 a2 a3 b1 b2 b3 g1 g2 g3 (at_third o p) = at_first o p

-- no edge has the place outside
pub data Outside (a1 a2 a3 : ℤ) : Type 0 where
  of_first : a1 <ℤ pos 0 → Outside a1 a2 a3
  of_second : a2 <ℤ pos 0 → Outside a1 a2 a3
  of_third : a3 <ℤ pos 0 → Outside a1 a2 a3

-- an end outside
exit : (n a1 a2 a3 b1 b2 b3 g1 g2 g3 P Q : ℤ) → pos 0 <ℤ n → AreTurns n a1 a2 a3 b1 b2 b3 g1 g2 g3 → pos 0 <ℤ P → pos 0 ≤ℤ Q →
    pos 0 ≤ℤ (P *ℤ a1 +ℤ Q *ℤ b1) → pos 0 ≤ℤ (P *ℤ a2 +ℤ Q *ℤ b2) → pos 0 ≤ℤ (P *ℤ a3 +ℤ Q *ℤ b3) → Outside a1 a2 a3 → Crosses a1 a2 a3 b1 b2 b3 g1 g2 g3
exit n a1 a2 a3 b1 b2 b3 g1 g2 g3 P Q hn t hP hQ e1 e2 e3 (of_third l) = exit_third n a1 a2 a3 b1 b2 b3 g1 g2 g3 P Q hn t hP hQ e1 e2 e3 l
exit n a1 a2 a3 b1 b2 b3 g1 g2 g3 P Q hn t hP hQ e1 e2 e3 (of_first l) =
    crosses_back a1 a2 a3 b1 b2 b3 g1 g2 g3 (exit_third n a2 a3 a1 b2 b3 b1 g2 g3 g1 P Q hn (turns_on n a1 a2 a3 b1 b2 b3 g1 g2 g3 t) hP hQ e2 e3 e1 l)
exit n a1 a2 a3 b1 b2 b3 g1 g2 g3 P Q hn t hP hQ e1 e2 e3 (of_second l) =
    crosses_back a1 a2 a3 b1 b2 b3 g1 g2 g3
    (crosses_back a2 a3 a1 b2 b3 b1 g2 g3 g1
    (exit_third n a3 a1 a2 b3 b1 b2 g3 g1 g2 P Q hn (turns_on n a2 a3 a1 b2 b3 b1 g2 g3 g1 (turns_on n a1 a2 a3 b1 b2 b3 g1 g2 g3 t)) hP hQ e3 e1 e2 l))

-- all numbers turned
turns_neg : (n a1 a2 a3 b1 b2 b3 g1 g2 g3 : ℤ) → AreTurns n a1 a2 a3 b1 b2 b3 g1 g2 g3 →
    AreTurns (neg_ℤ n) (neg_ℤ a1) (neg_ℤ a2) (neg_ℤ a3) (neg_ℤ b1) (neg_ℤ b2) (neg_ℤ b3) (neg_ℤ g1) (neg_ℤ g2) (neg_ℤ g3)
turns_neg n a1 a2 a3 b1 b2 b3 g1 g2 g3 t = record {
  start = omega (arith, ints, t.start);
  end = omega (arith, ints, t.end);
  first = omega (arith, ints, t.first, twice n g1, twice a2 b3, twice a3 b2);
  second = omega (arith, ints, t.second, twice n g2, twice a3 b1, twice a1 b3);
  third = omega (arith, ints, t.third, twice n g3, twice a1 b2, twice a2 b1);
}
  where
    twice : (x y : ℤ) → neg_ℤ x *ℤ neg_ℤ y ≡ x *ℤ y
    twice x y = omega (arith, ints, neg-mul x (neg_ℤ y), mul-neg x y)

crosses_neg : (a1 a2 a3 b1 b2 b3 g1 g2 g3 : ℤ) → Crosses (neg_ℤ a1) (neg_ℤ a2) (neg_ℤ a3) (neg_ℤ b1) (neg_ℤ b2) (neg_ℤ b3) (neg_ℤ g1) (neg_ℤ g2) (neg_ℤ g3) →
    Crosses a1 a2 a3 b1 b2 b3 g1 g2 g3
crosses_neg a1 a2 a3 b1 b2 b3 g1 g2 g3 (at_first o p) = at_first (opposite_neg a1 b1 o) (parted_neg g2 g3 p)
crosses_neg a1 a2 a3 b1 b2 b3 g1 g2 g3 (at_second o p) = at_second (opposite_neg a2 b2 o) (parted_neg g3 g1 p)
crosses_neg a1 a2 a3 b1 b2 b3 g1 g2 g3 (at_third o p) = at_third (opposite_neg a3 b3 o) (parted_neg g1 g2 p)

-- the ends exchanged
turns_exchanged : (n a1 a2 a3 b1 b2 b3 g1 g2 g3 : ℤ) → AreTurns n a1 a2 a3 b1 b2 b3 g1 g2 g3 → AreTurns n b1 b2 b3 a1 a2 a3 (neg_ℤ g1) (neg_ℤ g2) (neg_ℤ g3)
turns_exchanged n a1 a2 a3 b1 b2 b3 g1 g2 g3 t = record {
  start = t.end;
  end = t.start;
  first = omega (arith, ints, t.first, mul-neg n g1, *ℤ_comm a2 b3, *ℤ_comm a3 b2);
  second = omega (arith, ints, t.second, mul-neg n g2, *ℤ_comm a3 b1, *ℤ_comm a1 b3);
  third = omega (arith, ints, t.third, mul-neg n g3, *ℤ_comm a1 b2, *ℤ_comm a2 b1);
}

crosses_exchanged : (a1 a2 a3 b1 b2 b3 g1 g2 g3 : ℤ) → Crosses b1 b2 b3 a1 a2 a3 (neg_ℤ g1) (neg_ℤ g2) (neg_ℤ g3) → Crosses a1 a2 a3 b1 b2 b3 g1 g2 g3
crosses_exchanged a1 a2 a3 b1 b2 b3 g1 g2 g3 (at_first o p) = at_first (opposite_back b1 a1 o) (parted_neg g2 g3 p)
crosses_exchanged a1 a2 a3 b1 b2 b3 g1 g2 g3 (at_second o p) = at_second (opposite_back b2 a2 o) (parted_neg g3 g1 p)
crosses_exchanged a1 a2 a3 b1 b2 b3 g1 g2 g3 (at_third o p) = at_third (opposite_back b3 a3 o) (parted_neg g1 g2 p)

-- either end outside
exits_above : (n a1 a2 a3 b1 b2 b3 g1 g2 g3 P Q : ℤ) → pos 0 <ℤ n → AreTurns n a1 a2 a3 b1 b2 b3 g1 g2 g3 → pos 0 <ℤ P → pos 0 <ℤ Q →
    pos 0 ≤ℤ (P *ℤ a1 +ℤ Q *ℤ b1) → pos 0 ≤ℤ (P *ℤ a2 +ℤ Q *ℤ b2) → pos 0 ≤ℤ (P *ℤ a3 +ℤ Q *ℤ b3) → Outside a1 a2 a3 ⊎ Outside b1 b2 b3 → Crosses a1 a2 a3 b1 b2 b3 g1 g2 g3
exits_above n a1 a2 a3 b1 b2 b3 g1 g2 g3 P Q hn t hP hQ e1 e2 e3 (inl o) = exit n a1 a2 a3 b1 b2 b3 g1 g2 g3 P Q hn t hP (omega (arith, ints, hQ)) e1 e2 e3 o
exits_above n a1 a2 a3 b1 b2 b3 g1 g2 g3 P Q hn t hP hQ e1 e2 e3 (inr o) =
    crosses_exchanged a1 a2 a3 b1 b2 b3 g1 g2 g3
    (exit n b1 b2 b3 a1 a2 a3 (neg_ℤ g1) (neg_ℤ g2) (neg_ℤ g3) Q P hn (turns_exchanged n a1 a2 a3 b1 b2 b3 g1 g2 g3 t) hQ (omega (arith, ints, hP))
    (omega (arith, ints, e1)) (omega (arith, ints, e2)) (omega (arith, ints, e3)) o)

-- whichever way the triangle turns: numbers of its sign are inside
pub exits : (n a1 a2 a3 b1 b2 b3 g1 g2 g3 P Q A B C : ℤ) → n ≢ pos 0 → AreTurns n a1 a2 a3 b1 b2 b3 g1 g2 g3 → pos 0 <ℤ P → pos 0 <ℤ Q → pos 0 ≤ℤ A → pos 0 ≤ℤ B → pos 0 ≤ℤ C →
    P *ℤ a1 +ℤ Q *ℤ b1 ≡ n *ℤ A → P *ℤ a2 +ℤ Q *ℤ b2 ≡ n *ℤ B → P *ℤ a3 +ℤ Q *ℤ b3 ≡ n *ℤ C →
    (pos 0 <ℤ n → Outside a1 a2 a3 ⊎ Outside b1 b2 b3) → (n <ℤ pos 0 → Outside (neg_ℤ a1) (neg_ℤ a2) (neg_ℤ a3) ⊎ Outside (neg_ℤ b1) (neg_ℤ b2) (neg_ℤ b3)) →
    Crosses a1 a2 a3 b1 b2 b3 g1 g2 g3
exits n a1 a2 a3 b1 b2 b3 g1 g2 g3 P Q A B C some t hP hQ hA hB hC e1 e2 e3 o o' = by_sign n
    (λ h. crosses_neg a1 a2 a3 b1 b2 b3 g1 g2 g3
    (exits_above (neg_ℤ n) (neg_ℤ a1) (neg_ℤ a2) (neg_ℤ a3) (neg_ℤ b1) (neg_ℤ b2) (neg_ℤ b3) (neg_ℤ g1) (neg_ℤ g2) (neg_ℤ g3) P Q (omega (arith, ints, h))
    (turns_neg n a1 a2 a3 b1 b2 b3 g1 g2 g3 t) hP hQ (below a1 b1 A h hA e1) (below a2 b2 B h hB e2) (below a3 b3 C h hC e3) (o' h)))
    (λ h. absurd (some h))
    (λ h. exits_above n a1 a2 a3 b1 b2 b3 g1 g2 g3 P Q h t hP hQ (above a1 b1 A h hA e1) (above a2 b2 B h hB e2) (above a3 b3 C h hC e3) (o h))
  where
    above : (a b A : ℤ) → pos 0 <ℤ n → pos 0 ≤ℤ A → P *ℤ a +ℤ Q *ℤ b ≡ n *ℤ A → pos 0 ≤ℤ (P *ℤ a +ℤ Q *ℤ b)
    above a b A h k e = let m = nonneg_mul n A (omega (arith, ints, h)) k in omega (arith, ints, m, e)

    below : (a b A : ℤ) → n <ℤ pos 0 → pos 0 ≤ℤ A → P *ℤ a +ℤ Q *ℤ b ≡ n *ℤ A → pos 0 ≤ℤ (P *ℤ neg_ℤ a +ℤ Q *ℤ neg_ℤ b)
    below a b A h k e = let m = nonneg_mul (neg_ℤ n) A (omega (arith, ints, h)) k in omega (arith, ints, m, e, neg-mul n A, mul-neg P a, mul-neg Q b)
