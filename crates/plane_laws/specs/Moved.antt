-- P moved by a hair: all coordinates times the square of a great number m, and P's then moved by m in x and by 1 in y. So no vertex of P
-- has the x of one of Q, and none lies on an edge of the other.
use Rattle.std.specs.Prelude.{◌≡◌, ℤ, pos, negsuc, neg_ℤ, ◌+ℤ◌, ◌-ℤ◌, ◌*ℤ◌, ◌≤ℤ◌, ◌<ℤ◌, Bool, true, false, ◌&&◌, ◌||◌, int_lt, int_le}
use Rattle.std.specs.Ordering.{int_eq}
use Rattle.std.proofs.Common.{arith, refl, sym, ap, ◌∙◌}
use Rattle.std.proofs.lemmas.Int.{ints, by_lt_z}
use Rattle.std.proofs.lemmas.Bool.Decides.{Decides-int_eq}
use Rattle.chain_laws.specs.Products.{product, mul-add, add-mul, mul-sub, mul-neg, neg-mul, mul-assoc, pos_mul}
use Rattle.plane_laws.specs.Decisions.{is_over}
use Rattle.plane_laws.specs.Signs.{Signed, Weak}
use Rattle.plane_laws.specs.Areas.{Place, area, area_is, exchanged}

-- a place of P, and one of Q
abbrev pub moved : ℤ → Place → Place
moved m p = record { x = (m *ℤ m) *ℤ p.x +ℤ m; y = (m *ℤ m) *ℤ p.y +ℤ pos 1 }

-- one of Q, which is not moved
abbrev pub kept : ℤ → Place → Place
kept m q = record { x = (m *ℤ m) *ℤ q.x; y = (m *ℤ m) *ℤ q.y }

-- the product of numbers that are not negative is not
pub nonneg_mul : (a b : ℤ) → pos 0 ≤ℤ a → pos 0 ≤ℤ b → pos 0 ≤ℤ (a *ℤ b)
nonneg_mul a b h k = by_lt_z (pos 0) a
    (λ l. by_lt_z (pos 0) b (λ m. let p = pos_mul a b l m in omega (arith, ints, p))
    (λ m. let z : b ≡ pos 0 = omega (arith, ints) in omega (arith, ints, ap (λ (t : ℤ). a *ℤ t) z, (product a (pos 0)).is)))
    (λ l. let z : a ≡ pos 0 = omega (arith, ints) in omega (arith, ints, ap (λ (t : ℤ). t *ℤ b) z, (product (pos 0) b).is))

-- what a height v over an edge that goes w in x and d in y becomes
abbrev pub tilted : ℤ → ℤ → ℤ → ℤ → ℤ
tilted m v w d = (m *ℤ m) *ℤ v +ℤ (w -ℤ m *ℤ d)

-- the number is below m without its sign
pub record IsUnder (m z : ℤ) : Type 0 where
  pub low : neg_ℤ m <ℤ z
  pub high : z <ℤ m

-- a number times 1
pub times_one : (z : ℤ) → z *ℤ pos 1 ≡ z
times_one z = omega (arith, ints, (product z (pos 1)).is)

-- a number times 0
pub times_zero : (z : ℤ) → z *ℤ pos 0 ≡ pos 0
times_zero z = omega (arith, ints, (product z (pos 0)).is)

module _ (m v w d : ℤ) (hw : IsUnder m w) (hd : IsUnder m d) where
  -- its sign is that of the height
  tilted_above : pos 0 <ℤ v → pos 0 <ℤ tilted m v w d
  tilted_above h =
      let n = nonneg_mul m m (omega (arith, ints, hw.low, hw.high)) (omega (arith, ints, hw.low, hw.high)) in
      let p = nonneg_mul (m *ℤ m) (v -ℤ pos 1) n (omega (arith, ints)) in
      let q = nonneg_mul m (m -ℤ pos 1 -ℤ d) (omega (arith, ints, hw.low, hw.high)) (omega (arith, ints, hd.high)) in
      omega (arith, ints, p, q, mul-sub (m *ℤ m) v (pos 1), times_one (m *ℤ m), mul-sub m (m -ℤ pos 1) d, mul-sub m m (pos 1), times_one m, hw.low)

  -- below 0 where the height is
  tilted_below : v <ℤ pos 0 → tilted m v w d <ℤ pos 0
  tilted_below h =
      let n = nonneg_mul m m (omega (arith, ints, hw.low, hw.high)) (omega (arith, ints, hw.low, hw.high)) in
      let p = nonneg_mul (m *ℤ m) (neg_ℤ v -ℤ pos 1) n (omega (arith, ints)) in
      let q = nonneg_mul m (m -ℤ pos 1 +ℤ d) (omega (arith, ints, hw.low, hw.high)) (omega (arith, ints, hd.low)) in
      omega (arith, ints, p, q, mul-sub (m *ℤ m) (neg_ℤ v) (pos 1), mul-neg (m *ℤ m) v, times_one (m *ℤ m), mul-add m (m -ℤ pos 1) d, mul-sub m m (pos 1), times_one m, hw.high)

  -- at height 0 it is that of an edge that falls
  tilted_flat : v ≡ pos 0 → pos 0 <ℤ w → d ≤ℤ pos 0 → pos 0 <ℤ tilted m v w d
  tilted_flat z right falls =
      let q = nonneg_mul m (neg_ℤ d) (omega (arith, ints, hw.low, hw.high)) (omega (arith, ints)) in
      omega (arith, ints, q, ap (λ (t : ℤ). (m *ℤ m) *ℤ t) z, times_zero (m *ℤ m), mul-neg m d)

  -- and that of an edge that rises
  tilted_rising : v ≡ pos 0 → pos 0 <ℤ d → tilted m v w d <ℤ pos 0
  tilted_rising z rises =
      let q = nonneg_mul m (d -ℤ pos 1) (omega (arith, ints, hw.low, hw.high)) (omega (arith, ints)) in
      omega (arith, ints, q, ap (λ (t : ℤ). (m *ℤ m) *ℤ t) z, times_zero (m *ℤ m), mul-sub m d (pos 1), times_one m, hw.high)

  -- so the height has that sign, or is 0
  pub tilted_weak : (s : Bool) → Signed s (tilted m v w d) → Weak s v
  tilted_weak true h = by_lt_z v (pos 0) (λ l. let k = tilted_below l in absurd (omega (arith, ints))) (λ l. l)
  tilted_weak false h = by_lt_z (pos 0) v (λ l. let k = tilted_above l in absurd (omega (arith, ints))) (λ l. l)

-- the tests of the order by the order: at most
pub le_true : (a b : ℤ) → a ≤ℤ b → int_le a b ≡ true
le_true a b h = grind (arith, ints)

-- not at most
pub le_false : (a b : ℤ) → b <ℤ a → int_le a b ≡ false
le_false a b h = grind (arith, ints)

-- less
lt_true : (a b : ℤ) → a <ℤ b → int_lt a b ≡ true
lt_true a b h = grind (arith, ints)

-- not less
lt_false : (a b : ℤ) → b ≤ℤ a → int_lt a b ≡ false
lt_false a b h = grind (arith, ints)

-- not equal
not_equal : (a b : ℤ) (t : Bool) → int_eq a b ≡ t → a <ℤ b → t ≡ false
not_equal a b true e h = let k = (Decides-int_eq a b).0 e in absurd (omega (arith, ints, k))
not_equal a b false e h = refl

-- the test by the three cases of the height
pub over_above : (v l r : ℤ) → pos 0 <ℤ v → is_over v l r ≡ true
over_above v l r h = ap (λ (t : Bool). t || (int_eq v (pos 0) && int_le r l)) (lt_true (pos 0) v h)

-- below 0 it is not above
pub over_below : (v l r : ℤ) → v <ℤ pos 0 → is_over v l r ≡ false
over_below v l r h =
    ap (λ (t : Bool). t || (int_eq v (pos 0) && int_le r l)) (lt_false (pos 0) v (omega (arith, ints))) ∙ ap (λ (t : Bool). t && int_le r l)
    (not_equal v (pos 0) (int_eq v (pos 0)) refl h)

-- at 0 the ends decide
over_flat : (v l r : ℤ) → v ≡ pos 0 → is_over v l r ≡ int_le r l
over_flat v l r z = ap (λ (t : ℤ). is_over t l r) z

-- the test is the sign of the tilted height
pub over_sign : (m v w l r : ℤ) → IsUnder m w → IsUnder m (r -ℤ l) → pos 0 <ℤ w → Signed (is_over v l r) (tilted m v w (r -ℤ l))
over_sign m v w l r hw hd right = by_lt_z (pos 0) v
    (λ h. rw (over_above v l r h) (tilted_above m v w (r -ℤ l) hw hd h))
    (λ h. by_lt_z v (pos 0)
    (λ k. rw (over_below v l r k) (tilted_below m v w (r -ℤ l) hw hd k))
    (λ k. let z : v ≡ pos 0 = omega (arith, ints) in
    by_lt_z l r
    (λ rises. rw (over_flat v l r z ∙ le_false r l rises) (tilted_rising m v w (r -ℤ l) hw hd z (omega (arith, ints))))
    (λ falls. rw (over_flat v l r z ∙ le_true r l falls) (tilted_flat m v w (r -ℤ l) hw hd z right (omega (arith, ints))))))

-- an area by the differences that make it
from_differences : (s t v : Place) (w h g d : ℤ) → t.x -ℤ s.x ≡ w → v.y -ℤ s.y ≡ h → v.x -ℤ s.x ≡ g → t.y -ℤ s.y ≡ d → area s t v ≡ w *ℤ h -ℤ g *ℤ d
from_differences s t v w h g d e f k l = sym (area_is s t v) ∙ same (t.x -ℤ s.x) (v.y -ℤ s.y) (v.x -ℤ s.x) (t.y -ℤ s.y) e f k l where
  same : (w' h' g' d' : ℤ) → w' ≡ w → h' ≡ h → g' ≡ g → d' ≡ d → w' *ℤ h' -ℤ g' *ℤ d' ≡ w *ℤ h -ℤ g *ℤ d
  same w' h' g' d' e f k l = cc

-- all coordinates times n, and the vertex then moved by i and j
scaled : (n i j w g h d : ℤ) → (n *ℤ w) *ℤ (n *ℤ h +ℤ j) -ℤ (n *ℤ g +ℤ i) *ℤ (n *ℤ d) ≡ n *ℤ (n *ℤ (w *ℤ h -ℤ g *ℤ d) +ℤ (w *ℤ j -ℤ i *ℤ d))
scaled n i j w g h d =
    let first : (n *ℤ w) *ℤ (n *ℤ h +ℤ j) ≡ n *ℤ (w *ℤ (n *ℤ h +ℤ j)) = mul-assoc n w (n *ℤ h +ℤ j) in
    let second : (n *ℤ g +ℤ i) *ℤ (n *ℤ d) ≡ n *ℤ ((n *ℤ g +ℤ i) *ℤ d) = exchanged (n *ℤ g +ℤ i) n d in
    let inner : w *ℤ (n *ℤ h +ℤ j) -ℤ (n *ℤ g +ℤ i) *ℤ d ≡ n *ℤ (w *ℤ h -ℤ g *ℤ d) +ℤ (w *ℤ j -ℤ i *ℤ d) =
    omega (arith, ints, mul-add w (n *ℤ h) j, exchanged w n h, add-mul (n *ℤ g) i d, mul-assoc n g d, mul-sub n (w *ℤ h) (g *ℤ d)) in
    let outer = mul-sub n (w *ℤ (n *ℤ h +ℤ j)) ((n *ℤ g +ℤ i) *ℤ d) in
    omega (arith, ints, first, second, outer, ap (λ (z : ℤ). n *ℤ z) inner)

-- an edge of Q and a vertex of P
pub moved_vertex : (m : ℤ) (c d a : Place) → area (kept m c) (kept m d) (moved m a) ≡ (m *ℤ m) *ℤ tilted m (area c d a) (d.x -ℤ c.x) (d.y -ℤ c.y)
moved_vertex m c d a =
    let n = m *ℤ m in
    let w = d.x -ℤ c.x in
    let h = a.y -ℤ c.y in
    let g = a.x -ℤ c.x in
    let k = d.y -ℤ c.y in
    from_differences (kept m c) (kept m d) (moved m a) (n *ℤ w) (n *ℤ h +ℤ pos 1) (n *ℤ g +ℤ m) (n *ℤ k)
    (omega (arith, ints, mul-sub n d.x c.x)) (omega (arith, ints, mul-sub n a.y c.y)) (omega (arith, ints, mul-sub n a.x c.x)) (omega (arith, ints, mul-sub n d.y c.y))
    ∙ scaled n m (pos 1) w g h k
    ∙ ap (λ (z : ℤ). n *ℤ z) (omega (arith, ints, ap (λ (z : ℤ). n *ℤ z) (area_is c d a), times_one w))

-- an edge of P and a vertex of Q
pub moved_edge : (m : ℤ) (a b c : Place) → area (moved m a) (moved m b) (kept m c) ≡ (m *ℤ m) *ℤ neg_ℤ (tilted m (neg_ℤ (area a b c)) (b.x -ℤ a.x) (b.y -ℤ a.y))
moved_edge m a b c =
    let n = m *ℤ m in
    let w = b.x -ℤ a.x in
    let h = c.y -ℤ a.y in
    let g = c.x -ℤ a.x in
    let k = b.y -ℤ a.y in
    from_differences (moved m a) (moved m b) (kept m c) (n *ℤ w) (n *ℤ h +ℤ negsuc 0) (n *ℤ g +ℤ neg_ℤ m) (n *ℤ k)
    (omega (arith, ints, mul-sub n b.x a.x)) (omega (arith, ints, mul-sub n c.y a.y)) (omega (arith, ints, mul-sub n c.x a.x)) (omega (arith, ints, mul-sub n b.y a.y))
    ∙ scaled n (neg_ℤ m) (negsuc 0) w g h k
    ∙ ap (λ (z : ℤ). n *ℤ z) (omega (arith, ints, ap (λ (z : ℤ). n *ℤ z) (area_is a b c), mul-neg n (area a b c), mul-neg w (pos 1), times_one w, neg-mul m k))

-- the order in x, where no two are equal any more
pub moved_order : (m p q : ℤ) → pos 1 <ℤ m → Signed (int_le q p) (((m *ℤ m) *ℤ p +ℤ m) -ℤ (m *ℤ m) *ℤ q)
moved_order m p q great = by_lt_z p q
    (λ h. let k = nonneg_mul (m *ℤ m) (q -ℤ p -ℤ pos 1) square (omega (arith, ints)) in
    rw (le_false q p h) (omega (arith, ints, k, mul-sub (m *ℤ m) (q -ℤ p) (pos 1), mul-sub (m *ℤ m) q p, times_one (m *ℤ m), more)))
    (λ h. let k = nonneg_mul (m *ℤ m) (p -ℤ q) square (omega (arith, ints)) in
    rw (le_true q p h) (omega (arith, ints, k, mul-sub (m *ℤ m) p q)))
  where
    square : pos 0 ≤ℤ (m *ℤ m)
    square = nonneg_mul m m (omega (arith, ints)) (omega (arith, ints))

    more : m <ℤ (m *ℤ m)
    more = let k = pos_mul m (m -ℤ pos 1) (omega (arith, ints)) (omega (arith, ints)) in omega (arith, ints, k, mul-sub m m (pos 1), times_one m)
