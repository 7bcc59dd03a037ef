-- Two edges of which the first is moved by a hair: the volume of their four ends has the digits of the volume and of the normal of both.
use Rattle.std.specs.Prelude.{◌≡◌, ℤ, pos, neg_ℤ, ◌+ℤ◌, ◌-ℤ◌, ◌*ℤ◌}
use Rattle.std.proofs.Common.{arith, sym, ap, ◌∙◌}
use Rattle.std.proofs.lemmas.Int.{ints}
use Rattle.std.proofs.Math.IntN.{*ℤ_comm}
use Rattle.chain_laws.specs.Products.{spread, mul-add, mul-sub, mul-assoc}
use Rattle.plane_laws.specs.Areas.{Place, area, exchanged}
use Rattle.plane_laws.specs.Decisions.{Vector, edges_normal, scalar, way}
use Rattle.plane_laws.specs.Heights.{edges_height, flat}
use Rattle.plane_laws.specs.Moved.{times_one}
use Rattle.solid_terms.specs.Solids.{volume}
use Rattle.space_laws.specs.Hair.{cube, lift_p, lift_q}
use Rattle.space_laws.specs.Lexical.{digits}
use Rattle.space_laws.specs.Places.{volume_is}

-- the volume is the height of the first edge over the second along the normal of both
pub volume_height : (a b c d : Vector) → volume a b c d ≡ scalar (edges_normal a b c d) (way c a)
volume_height a b c d =
    volume_is a b c d ∙ by _ _ _ (area (flat c) (flat d) (flat b)) _ _ (b.z -ℤ a.z) (c.z -ℤ a.z) (d.z -ℤ a.z) (a.z -ℤ a.z) (left (flat a) (flat b) (flat d))
    (right (flat a) (flat b) (flat c)) (omega (arith, ints)) ∙ sym (edges_height a.z a b c d)
  where
    left : (A B D : Place) → area D B A ≡ neg_ℤ (area A B D)
    left A B D = omega (arith, ints)

    right : (A B C : Place) → area B C A ≡ area A B C
    right A B C = omega (arith, ints)

    by : (k l m n l' m' x y z o : ℤ) → l ≡ neg_ℤ l' → m ≡ m' → o ≡ pos 0 → k *ℤ x +ℤ l *ℤ y +ℤ m *ℤ z ≡ k *ℤ x +ℤ neg_ℤ n *ℤ o +ℤ m' *ℤ z +ℤ neg_ℤ l' *ℤ y
    by k l m n l' m' x y z o e f g = rw (e, f, g) (omega (arith, ints, none (neg_ℤ n))) where
      none : (c : ℤ) → c *ℤ pos 0 ≡ pos 0
      none c = omega (arith, ints)

-- the normal in z is the difference of the areas of the ends of the first edge with the second
pub normal_areas : (a b c d : Vector) → (edges_normal a b c d).z ≡ area (flat c) (flat d) (flat a) -ℤ area (flat c) (flat d) (flat b)
normal_areas a b c d = by (flat a) (flat b) (flat c) (flat d) where
  by : (A B C D : Place) → (B.x -ℤ A.x) *ℤ (D.y -ℤ C.y) -ℤ (B.y -ℤ A.y) *ℤ (D.x -ℤ C.x) ≡ area C D A -ℤ area C D B
  by A B C D = simp spread (omega (arith, ints, *ℤ_comm A.y D.x, *ℤ_comm A.y C.x, *ℤ_comm B.y D.x, *ℤ_comm B.y C.x))

-- a distance of places of one side, in x and y
on_p : (n k a b : ℤ) → (n *ℤ b +ℤ k) -ℤ (n *ℤ a +ℤ k) ≡ n *ℤ (b -ℤ a)
on_p n k a b = omega (arith, ints, mul-sub n b a)

-- a minor of multiples
minor_of : (n k e f g h e' f' g' h' : ℤ) → e ≡ n *ℤ e' → f ≡ k *ℤ f' → g ≡ k *ℤ g' → h ≡ n *ℤ h' → e *ℤ f -ℤ g *ℤ h ≡ n *ℤ (k *ℤ (e' *ℤ f' -ℤ g' *ℤ h'))
minor_of n k e f g h e' f' g' h' i j l o =
    rw (i, j, l, o)
    (omega (
      arith,
      ints,
      mul-assoc n e' (k *ℤ f'),
      ap (λ (z : ℤ). n *ℤ z) (exchanged e' k f'),
      mul-assoc k g' (n *ℤ h'),
      ap (λ (z : ℤ). k *ℤ z) (exchanged g' n h'),
      exchanged k n (g' *ℤ h'),
      mul-sub n (k *ℤ (e' *ℤ f')) (k *ℤ (g' *ℤ h')),
      ap (λ (z : ℤ). n *ℤ z) (mul-sub k (e' *ℤ f') (g' *ℤ h')),
    ))

-- the normal of the moved edge and the other, in z
pub normal_moved : (m : ℤ) (a b c d : Vector) → (edges_normal (lift_p m a) (lift_p m b) (lift_q m c) (lift_q m d)).z ≡ (m *ℤ m) *ℤ ((m *ℤ m) *ℤ (edges_normal a b c d).z)
normal_moved m a b c d =
    let n = m *ℤ m in
    minor_of n n _ _ _ _ (b.x -ℤ a.x) (d.y -ℤ c.y) (b.y -ℤ a.y) (d.x -ℤ c.x) (on_p n m a.x b.x) (sym (mul-sub n d.y c.y)) (on_p n (pos 1) a.y b.y) (sym (mul-sub n d.x c.x))

-- the volume of the moved edge and the other
pub edge_volume_moved : (m : ℤ) (a b c d : Vector) → volume (lift_p m a) (lift_p m b) (lift_q m c) (lift_q m d)
    ≡ (m *ℤ m) *ℤ ((m *ℤ m) *ℤ digits m (volume a b c d) (edges_normal a b c d).x (edges_normal a b c d).y (edges_normal a b c d).z)
edge_volume_moved m a b c d =
    let n = m *ℤ m in
    let k = cube m in
    let N = edges_normal a b c d in
    volume_height (lift_p m a) (lift_p m b) (lift_q m c) (lift_q m d)
    ∙ by _ _ _ _ _ _ N.x N.y N.z (a.x -ℤ c.x) (a.y -ℤ c.y) (a.z -ℤ c.z)
    (minor_of n k _ _ _ _ (b.y -ℤ a.y) (d.z -ℤ c.z) (b.z -ℤ a.z) (d.y -ℤ c.y) (on_p n (pos 1) a.y b.y) (sym (mul-sub k d.z c.z)) (on_p k (pos 1) a.z b.z) (sym (mul-sub n d.y c.y)))
    (minor_of k n _ _ _ _ (b.z -ℤ a.z) (d.x -ℤ c.x) (b.x -ℤ a.x) (d.z -ℤ c.z) (on_p k (pos 1) a.z b.z) (sym (mul-sub n d.x c.x)) (on_p n m a.x b.x) (sym (mul-sub k d.z c.z))
    ∙ exchanged k n N.y)
    (normal_moved m a b c d) (off n m a.x c.x) (off n (pos 1) a.y c.y) (off k (pos 1) a.z c.z)
    ∙ ap (λ (z : ℤ). n *ℤ (n *ℤ digits m z N.x N.y N.z)) (sym (volume_height a b c d))
  where
    off : (n k p q : ℤ) → n *ℤ p +ℤ k -ℤ n *ℤ q ≡ n *ℤ (p -ℤ q) +ℤ k
    off n k p q = omega (arith, ints, mul-sub n p q)

    -- products of a number of the normal and one of the way
    far : (k x p : ℤ) → ((m *ℤ m) *ℤ (k *ℤ x)) *ℤ ((m *ℤ m) *ℤ p) ≡ (m *ℤ m) *ℤ ((m *ℤ m) *ℤ (k *ℤ (x *ℤ p)))
    far k x p =
        mul-assoc (m *ℤ m) (k *ℤ x) ((m *ℤ m) *ℤ p)
        ∙ ap (λ (z : ℤ). (m *ℤ m) *ℤ z) (exchanged (k *ℤ x) (m *ℤ m) p ∙ ap (λ (z : ℤ). (m *ℤ m) *ℤ z) (mul-assoc k x p))

    -- in z
    high : (z r : ℤ) → ((m *ℤ m) *ℤ ((m *ℤ m) *ℤ z)) *ℤ (cube m *ℤ r) ≡ (m *ℤ m) *ℤ ((m *ℤ m) *ℤ (cube m *ℤ (z *ℤ r)))
    high z r =
        mul-assoc (m *ℤ m) ((m *ℤ m) *ℤ z) (cube m *ℤ r)
        ∙ ap (λ (y : ℤ). (m *ℤ m) *ℤ y) (mul-assoc (m *ℤ m) z (cube m *ℤ r) ∙ ap (λ (y : ℤ). (m *ℤ m) *ℤ y) (exchanged z (cube m) r))

    -- with the hair in x
    hair_x : (x : ℤ) → ((m *ℤ m) *ℤ (cube m *ℤ x)) *ℤ m ≡ (m *ℤ m) *ℤ ((m *ℤ m) *ℤ ((m *ℤ m) *ℤ x))
    hair_x x =
        mul-assoc (m *ℤ m) (cube m *ℤ x) m
        ∙ ap (λ (z : ℤ). (m *ℤ m) *ℤ z)
        (mul-assoc (cube m) x m ∙ ap (λ (z : ℤ). cube m *ℤ z) (*ℤ_comm x m) ∙ mul-assoc (m *ℤ m) m (m *ℤ x) ∙ ap (λ (z : ℤ). (m *ℤ m) *ℤ z) (sym (mul-assoc m m x)))

    -- taken together
    whole : (n k P Q R x y z : ℤ) → n *ℤ (n *ℤ (k *ℤ P)) +ℤ n *ℤ (n *ℤ (k *ℤ Q)) +ℤ n *ℤ (n *ℤ (k *ℤ R)) +ℤ n *ℤ (n *ℤ x) +ℤ n *ℤ (n *ℤ y) +ℤ n *ℤ (n *ℤ z)
        ≡ n *ℤ (n *ℤ (k *ℤ (P +ℤ Q +ℤ R) +ℤ x +ℤ y +ℤ z))
    whole n k P Q R x y z =
        six n (n *ℤ (k *ℤ P)) (n *ℤ (k *ℤ Q)) (n *ℤ (k *ℤ R)) (n *ℤ x) (n *ℤ y) (n *ℤ z)
        ∙ ap (λ (t : ℤ). n *ℤ t) (six n (k *ℤ P) (k *ℤ Q) (k *ℤ R) x y z ∙ ap (λ (t : ℤ). n *ℤ (t +ℤ x +ℤ y +ℤ z)) (three k P Q R)) where
          six : (n a b c d e f : ℤ) → n *ℤ a +ℤ n *ℤ b +ℤ n *ℤ c +ℤ n *ℤ d +ℤ n *ℤ e +ℤ n *ℤ f ≡ n *ℤ (a +ℤ b +ℤ c +ℤ d +ℤ e +ℤ f)
          six n a b c d e f =
              omega (arith, ints, mul-add n (a +ℤ b +ℤ c +ℤ d +ℤ e) f, mul-add n (a +ℤ b +ℤ c +ℤ d) e, mul-add n (a +ℤ b +ℤ c) d, mul-add n (a +ℤ b) c, mul-add n a b)

          three : (k a b c : ℤ) → k *ℤ a +ℤ k *ℤ b +ℤ k *ℤ c ≡ k *ℤ (a +ℤ b +ℤ c)
          three k a b c = omega (arith, ints, mul-add k (a +ℤ b) c, mul-add k a b)

    products : (x y z p q r : ℤ) → ((m *ℤ m) *ℤ (cube m *ℤ x)) *ℤ ((m *ℤ m) *ℤ p +ℤ m) +ℤ ((m *ℤ m) *ℤ (cube m *ℤ y)) *ℤ ((m *ℤ m) *ℤ q +ℤ pos 1)
        +ℤ ((m *ℤ m) *ℤ ((m *ℤ m) *ℤ z)) *ℤ (cube m *ℤ r +ℤ pos 1) ≡ (m *ℤ m) *ℤ ((m *ℤ m) *ℤ digits m (x *ℤ p +ℤ y *ℤ q +ℤ z *ℤ r) x y z)
    products x y z p q r =
        let n = m *ℤ m in
        let k = cube m in
        sum _ _ _ _ _ _ _ _ _ _ _ _ _ _ _
        (mul-add (n *ℤ (k *ℤ x)) (n *ℤ p) m) (mul-add (n *ℤ (k *ℤ y)) (n *ℤ q) (pos 1)) (mul-add (n *ℤ (n *ℤ z)) (k *ℤ r) (pos 1))
        (far k x p) (far k y q) (high z r) (hair_x x) (times_one (n *ℤ (k *ℤ y)) ∙ ap (λ (t : ℤ). n *ℤ t) (mul-assoc n m y)) (times_one (n *ℤ (n *ℤ z)))
        ∙ whole n k (x *ℤ p) (y *ℤ q) (z *ℤ r) (n *ℤ x) (m *ℤ y) z
      where
        sum : (s t u a b c d e f A B C D E F : ℤ) → s ≡ a +ℤ d → t ≡ b +ℤ e → u ≡ c +ℤ f → a ≡ A → b ≡ B → c ≡ C → d ≡ D → e ≡ E → f ≡ F →
            s +ℤ t +ℤ u ≡ A +ℤ B +ℤ C +ℤ D +ℤ E +ℤ F
        sum s t u a b c d e f A B C D E F h1 h2 h3 h4 h5 h6 h7 h8 h9 = omega (arith, ints, h1, h2, h3, h4, h5, h6, h7, h8, h9)

    by : (nx ny nz wx wy wz x y z p q r : ℤ) → nx ≡ (m *ℤ m) *ℤ (cube m *ℤ x) → ny ≡ (m *ℤ m) *ℤ (cube m *ℤ y) → nz ≡ (m *ℤ m) *ℤ ((m *ℤ m) *ℤ z) →
        wx ≡ (m *ℤ m) *ℤ p +ℤ m → wy ≡ (m *ℤ m) *ℤ q +ℤ pos 1 → wz ≡ cube m *ℤ r +ℤ pos 1 →
        nx *ℤ wx +ℤ ny *ℤ wy +ℤ nz *ℤ wz ≡ (m *ℤ m) *ℤ ((m *ℤ m) *ℤ digits m (x *ℤ p +ℤ y *ℤ q +ℤ z *ℤ r) x y z)
    by nx ny nz wx wy wz x y z p q r ex ey ez fx fy fz = rw (ex, ey, ez, fx, fy, fz) (products x y z p q r)
