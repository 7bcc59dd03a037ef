-- Whether four volumes have one sign.
use Rattle.std.specs.Prelude.{◌≡◌, ℤ, pos, negsuc, ◌+ℤ◌, ◌-ℤ◌, ◌<ℤ◌, Bool, true, false, ◌&&◌, int_lt, if◌then◌else◌}
use Rattle.std.proofs.Common.{arith, refl}
use Rattle.std.proofs.lemmas.Int.{ints}
use Rattle.chain_terms.specs.Chains.{one_if}
use Rattle.plane_laws.specs.Signs.{Signed}
use Rattle.solid_terms.specs.Solids.{one_sign}

-- the number of a sign
abbrev pub unit : Bool → ℤ
unit true = pos 1
unit false = negsuc 0

-- it is odd
pub unit_odd : (s : Bool) → unit s ≡ pos (one_if s) +ℤ pos (one_if s) -ℤ pos 1
unit_odd true = refl
unit_odd false = refl

-- four volumes of one sign
pub one_sign_all : (s : Bool) (v0 v1 v2 v3 : ℤ) → Signed s v0 → Signed s v1 → Signed s v2 → Signed s v3 → one_sign v0 v1 v2 v3 ≡ unit s
one_sign_all true v0 v1 v2 v3 h k l m = grind (arith, ints)
one_sign_all false v0 v1 v2 v3 h k l m = grind (arith, ints)

-- the test of four numbers above 0
above_all : (v0 v1 v2 v3 : ℤ) → (int_lt (pos 0) v0 && int_lt (pos 0) v1 && int_lt (pos 0) v2 && int_lt (pos 0) v3) ≡ true →
    (pos 0 <ℤ v0) × (pos 0 <ℤ v1) × (pos 0 <ℤ v2) × (pos 0 <ℤ v3)
above_all v0 v1 v2 v3 e = (grind (arith, ints), grind (arith, ints), grind (arith, ints), grind (arith, ints))

-- the test of four numbers below 0
below_all : (v0 v1 v2 v3 : ℤ) → (int_lt v0 (pos 0) && int_lt v1 (pos 0) && int_lt v2 (pos 0) && int_lt v3 (pos 0)) ≡ true →
    (v0 <ℤ pos 0) × (v1 <ℤ pos 0) × (v2 <ℤ pos 0) × (v3 <ℤ pos 0)
below_all v0 v1 v2 v3 e = (grind (arith, ints), grind (arith, ints), grind (arith, ints), grind (arith, ints))

-- volumes that do not have one sign
pub one_sign_not : (v0 v1 v2 v3 : ℤ) → ((s : Bool) → Signed s v0 → Signed s v1 → Signed s v2 → Signed s v3 → ⊥) → one_sign v0 v1 v2 v3 ≡ pos 0
one_sign_not v0 v1 v2 v3 f = by (int_lt (pos 0) v0 && int_lt (pos 0) v1 && int_lt (pos 0) v2 && int_lt (pos 0) v3)
    (int_lt v0 (pos 0) && int_lt v1 (pos 0) && int_lt v2 (pos 0) && int_lt v3 (pos 0)) refl refl where
      by : (s t : Bool) → (int_lt (pos 0) v0 && int_lt (pos 0) v1 && int_lt (pos 0) v2 && int_lt (pos 0) v3) ≡ s →
          (int_lt v0 (pos 0) && int_lt v1 (pos 0) && int_lt v2 (pos 0) && int_lt v3 (pos 0)) ≡ t →
          (if s then pos 1 else (if t then negsuc 0 else pos 0)) ≡ pos 0
      by true t e g = let h = above_all v0 v1 v2 v3 e in absurd (f true h.0 h.1 h.2 h.3)
      by false true e g = let h = below_all v0 v1 v2 v3 g in absurd (f false h.0 h.1 h.2 h.3)
      by false false e g = refl

-- numbers above 0 pass the test
all_true : (v0 v1 v2 v3 : ℤ) → pos 0 <ℤ v0 → pos 0 <ℤ v1 → pos 0 <ℤ v2 → pos 0 <ℤ v3 → (int_lt (pos 0) v0 && int_lt (pos 0) v1 && int_lt (pos 0) v2 && int_lt (pos 0) v3) ≡ true
all_true v0 v1 v2 v3 h k l m = grind (arith, ints)

-- numbers below 0 pass theirs
all_false : (v0 v1 v2 v3 : ℤ) → v0 <ℤ pos 0 → v1 <ℤ pos 0 → v2 <ℤ pos 0 → v3 <ℤ pos 0 → (int_lt v0 (pos 0) && int_lt v1 (pos 0) && int_lt v2 (pos 0) && int_lt v3 (pos 0)) ≡ true
all_false v0 v1 v2 v3 h k l m = grind (arith, ints)

-- by whether four volumes have one sign
pub by_one_sign : {P : Type 0} (v0 v1 v2 v3 : ℤ) → ((s : Bool) → Signed s v0 → Signed s v1 → Signed s v2 → Signed s v3 → P) →
    (((s : Bool) → Signed s v0 → Signed s v1 → Signed s v2 → Signed s v3 → ⊥) → P) → P
by_one_sign {P} v0 v1 v2 v3 f g = by (int_lt (pos 0) v0 && int_lt (pos 0) v1 && int_lt (pos 0) v2 && int_lt (pos 0) v3)
    (int_lt v0 (pos 0) && int_lt v1 (pos 0) && int_lt v2 (pos 0) && int_lt v3 (pos 0)) refl refl where
      by : (s t : Bool) → (int_lt (pos 0) v0 && int_lt (pos 0) v1 && int_lt (pos 0) v2 && int_lt (pos 0) v3) ≡ s →
          (int_lt v0 (pos 0) && int_lt v1 (pos 0) && int_lt v2 (pos 0) && int_lt v3 (pos 0)) ≡ t → P
      by true t d e = let h = above_all v0 v1 v2 v3 d in f true h.0 h.1 h.2 h.3
      by false true d e = let h = below_all v0 v1 v2 v3 e in f false h.0 h.1 h.2 h.3
      by false false d e = g neither where
        neither : (s : Bool) → Signed s v0 → Signed s v1 → Signed s v2 → Signed s v3 → ⊥
        neither true h k l m = let z = all_true v0 v1 v2 v3 h k l m in absurd (cc)
        neither false h k l m = let z = all_false v0 v1 v2 v3 h k l m in absurd (cc)
