-- Where one of two places stands as a start and the other as an end.
use Rattle.std.proofs.Common.{◌≡◌, ℕ, Bool, true, false, not, ℤ, pos, ◌-ℤ◌, ◌⊎◌, inl, inr, refl, sym, ap, ◌∙◌, subst, arith}
use Rattle.std.proofs.lemmas.Int.{ints}
use Rattle.std.proofs.lemmas.Bool.{cases_eq}
use Rattle.retained_verts.proofs.Ways.{same, same_no, same_yes}
use Rattle.source_faces.specs.Agreement.{StandsAs}

-- the one less the other, or the other less the one
abbrev pub between : Bool → ℕ → ℕ → ℤ
between true u d = pos u -ℤ pos d
between false u d = pos d -ℤ pos u

-- it is one of the two places, and tells as which it stands
abbrev pub IsEither : (c start : Bool) → (a x y : ℕ) → Type 0
IsEither c start a x y = ((a ≡ x) × (start ≡ c)) ⊎ ((a ≡ y) × (start ≡ not c))

-- what stands so is the one, and what stands the other way is the other
no_first : (c : Bool) (u d : ℕ) → u ≡ 0 → StandsAs c (between c u d) → ⊥
no_first true u d none h = omega (arith, ints, h, none)
no_first false u d none h = omega (arith, ints, h, none)

no_second : (c : Bool) (u d : ℕ) → d ≡ 0 → StandsAs (not c) (between c u d) → ⊥
no_second true u d none h = omega (arith, ints, h, none)
no_second false u d none h = omega (arith, ints, h, none)

is_first : (c : Bool) (a x y : ℕ) → StandsAs c (between c (same a x) (same a y)) → a ≡ x
is_first c a x y h = elim (cases_eq a x) as (λ _. a ≡ x) [
  | inl e ↦ e
  | inr n ↦ absurd (no_first c (same a x) (same a y) (same_no a x n) h)
]

is_second : (c : Bool) (a x y : ℕ) → StandsAs (not c) (between c (same a x) (same a y)) → a ≡ y
is_second c a x y h = elim (cases_eq a y) as (λ _. a ≡ y) [ inl e ↦ e | inr n ↦ absurd (no_second c (same a x) (same a y) (same_no a y n) h) ]

pub which : (c start : Bool) (a x y : ℕ) → StandsAs start (between c (same a x) (same a y)) → IsEither c start a x y
which true true a x y h = inl (is_first true a x y h, refl)
which true false a x y h = inr (is_second true a x y h, refl)
which false true a x y h = inr (is_second false a x y h, refl)
which false false a x y h = inl (is_first false a x y h, refl)

-- each of the two stands so
first_stands : (c : Bool) (x y : ℕ) → (x ≡ y → ⊥) → StandsAs c (between c (same x x) (same x y))
first_stands true x y d = omega (arith, ints, same_yes x x refl, same_no x y d)
first_stands false x y d = omega (arith, ints, same_yes x x refl, same_no x y d)

second_stands : (c : Bool) (x y : ℕ) → (x ≡ y → ⊥) → StandsAs (not c) (between c (same y x) (same y y))
second_stands true x y d = omega (arith, ints, same_yes y y refl, same_no y x (λ e. d (omega (arith, e))))
second_stands false x y d = omega (arith, ints, same_yes y y refl, same_no y x (λ e. d (omega (arith, e))))

-- so at a number that is the same
pub stands_first : (c : Bool) (a x y : ℕ) (z : ℤ) → (x ≡ y → ⊥) → z ≡ between c (same a x) (same a y) → a ≡ x → StandsAs c z
stands_first c a x y z d is e = subst (StandsAs c) (sym (is ∙ ap (λ b. between c (same b x) (same b y)) e)) (first_stands c x y d)

pub stands_second : (c s : Bool) (a x y : ℕ) (z : ℤ) → (x ≡ y → ⊥) → z ≡ between c (same a x) (same a y) → a ≡ y → not c ≡ s → StandsAs s z
stands_second c s a x y z d is e turn =
    subst (λ b. StandsAs b z) turn (subst (StandsAs (not c)) (sym (is ∙ ap (λ b. between c (same b x) (same b y)) e)) (second_stands c x y d))

-- where the number is 0 nothing stands
pub nothing_stands : (start : Bool) (z : ℤ) → z ≡ pos 0 → StandsAs start z → ⊥
nothing_stands true z e h = omega (arith, ints, e, h)
nothing_stands false z e h = omega (arith, ints, e, h)
