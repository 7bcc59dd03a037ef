-- What "beyond" says of the order of two values, and of the ends of an edge.
use Rattle.std.specs.Prelude.{◌≡◌, ℤ, ◌≤ℤ◌, ◌<ℤ◌, Bool, true, false, ◌&&◌, ◌||◌, int_lt}
use Rattle.std.specs.Ordering.{int_eq}
use Rattle.std.proofs.Common.{arith, refl, ap, ◌∙◌}
use Rattle.std.proofs.lemmas.Int.{ints, by_lt_z}
use Rattle.std.proofs.lemmas.Bool.Decides.{Decides-int_eq}
use Rattle.mb_base.specs.declared.point.Corner.{Corner}
use Rattle.side_terms.specs.Corners.{axis, up_on}
use Rattle.shadow_kernels.specs.Spots.{beats, beyond}
use Rattle.shadow_kernels.specs.Rules.{Rule, grid}

-- a smaller number is smaller
lt_true : (a b : ℤ) → a <ℤ b → int_lt a b ≡ true
lt_true a b h = grind (arith, ints)

-- a number that is not smaller is not
lt_false : (a b : ℤ) → b ≤ℤ a → int_lt a b ≡ false
lt_false a b h = grind (arith, ints)

-- a smaller number is not equal
eq_false : (a b : ℤ) (t : Bool) → int_eq a b ≡ t → a <ℤ b → t ≡ false
eq_false a b true e h = let k = (Decides-int_eq a b).0 e in absurd (omega (arith, ints, k))
eq_false a b false e h = refl

-- a greater value is beyond
pub beats_greater : (p q : ℤ) (up : Bool) → q <ℤ p → beats p q up ≡ true
beats_greater p q up h = ap (λ (t : Bool). t || (int_eq p q && up)) (lt_true q p h)

-- a smaller value is not
pub beats_smaller : (p q : ℤ) (up : Bool) → p <ℤ q → beats p q up ≡ false
beats_smaller p q up h =
    ap (λ (t : Bool). t || (int_eq p q && up)) (lt_false q p (omega (arith, ints)))
    ∙ ap (λ (t : Bool). t && up) (eq_false p q (int_eq p q) refl h)

-- a value beyond is no smaller
pub beats_le : (p q : ℤ) (up : Bool) → beats p q up ≡ true → q ≤ℤ p
beats_le p q up e = by_lt_z p q
    (λ l. let k = beats_smaller p q up l in absurd (cc))
    (λ l. l)

-- a value that is not beyond is no greater
pub not_beats_le : (p q : ℤ) (up : Bool) → beats p q up ≡ false → p ≤ℤ q
not_beats_le p q up e = by_lt_z q p
    (λ l. let k = beats_greater p q up l in absurd (cc))
    (λ l. l)

-- what a rule must say of x: who is beyond has no smaller x, who is not no greater, and of two vertices between which one lies the left one has the smaller
pub record IsOrdered (k : Rule) : Type 0 where
  pub after : (p c : Corner) → k.beyond_in_x p c ≡ true → axis 0 c ≤ℤ axis 0 p
  pub before : (p c : Corner) → k.beyond_in_x p c ≡ false → axis 0 p ≤ℤ axis 0 c
  pub ends : (p c d : Corner) → k.beyond_in_x p c ≡ true → k.beyond_in_x p d ≡ false → axis 0 c <ℤ axis 0 d

-- on the grid it is so
pub grid_ordered : IsOrdered grid
grid_ordered = record {
  after = λ p c. beats_le (axis 0 p) (axis 0 c) (up_on 0 p);
  before = λ p c. not_beats_le (axis 0 p) (axis 0 c) (up_on 0 p);
  ends = order_of_ends;
}
  where
    order_of_ends : (p c d : Corner) → beyond p c ≡ true → beyond p d ≡ false → axis 0 c <ℤ axis 0 d
    order_of_ends p c d h k =
        let l = beats_le (axis 0 p) (axis 0 c) (up_on 0 p) h in
        let r = not_beats_le (axis 0 p) (axis 0 d) (up_on 0 p) k in
        by_lt_z (axis 0 c) (axis 0 d) (λ x. x)
        (λ x.
        let same : axis 0 c ≡ axis 0 d = omega (arith, ints) in
        let e = ap (λ (z : ℤ). beats (axis 0 p) z (up_on 0 p)) same in
        absurd (cc))

module _ {k : Rule} (o : IsOrdered k) where
  -- two vertices of P can't lie between c and d the one way and the other way round
  pub no_alternation : (a b c d : Corner) → k.beyond_in_x a c ≡ true → k.beyond_in_x a d ≡ false → k.beyond_in_x b c ≡ false → k.beyond_in_x b d ≡ true → ⊥
  no_alternation a b c d ac ad bc bd = let x = o.ends a c d ac ad in let y = o.ends b d c bd bc in omega (arith, ints, x, y)

  -- a strictly greater x is beyond, and a strictly smaller one is not
  pub beyond_greater : (p q : Corner) → axis 0 q <ℤ axis 0 p → k.beyond_in_x p q ≡ true
  beyond_greater p q h = by (k.beyond_in_x p q) refl where
    by : (t : Bool) → k.beyond_in_x p q ≡ t → t ≡ true
    by true e = refl
    by false e = let l = o.before p q e in absurd (omega (arith, ints, l))

  pub beyond_smaller : (p q : Corner) → axis 0 p <ℤ axis 0 q → k.beyond_in_x p q ≡ false
  beyond_smaller p q h = by (k.beyond_in_x p q) refl where
    by : (t : Bool) → k.beyond_in_x p q ≡ t → t ≡ false
    by true e = let l = o.after p q e in absurd (omega (arith, ints, l))
    by false e = refl
