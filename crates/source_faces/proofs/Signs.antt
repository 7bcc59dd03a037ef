-- Starts and ends by the sign of a copy: at the start of a half-edge, at its end, and elsewhere.
use Rattle.std.proofs.Common.{◌≡◌, ℕ, Bool, true, false, cond, ℤ, pos, neg_ℤ, ◌-ℤ◌, List, refl, ap, ◌∙◌, arith}
use Rattle.std.proofs.lemmas.Bool.{eq-eqb, ne_eqb}
use Rattle.std.proofs.lemmas.Int.{ints}
use Rattle.chain_terms.specs.Ranks.{finish, start}
use Rattle.side_terms.specs.Lists.{at_end, at_same}
use Rattle.source_faces.specs.Agreement.{StandsAs}
use Rattle.source_faces.proofs.RunEntries.{side_of}

-- how a copy stands whose origin does so
abbrev pub turned_if : Bool → ℤ → ℤ
turned_if negative z = cond negative (neg_ℤ z) z

-- what stands nowhere is neither start nor end
pub no_side : (negative start : Bool) (z : ℤ) → z ≡ pos 0 → StandsAs start (turned_if negative z) → ⊥
no_side true true z e h = omega (arith, ints, e, h)
no_side true false z e h = omega (arith, ints, e, h)
no_side false true z e h = omega (arith, ints, e, h)
no_side false false z e h = omega (arith, ints, e, h)

-- at the start of a half-edge and at its end
pub start_side : (negative start : Bool) (z : ℤ) → z ≡ pos 1 → StandsAs start (turned_if negative z) → start ≡ side_of true negative
start_side true true z e h = absurd (omega (arith, ints, e, h))
start_side true false z e h = refl
start_side false true z e h = refl
start_side false false z e h = absurd (omega (arith, ints, e, h))

pub finish_side : (negative start : Bool) (z : ℤ) → z ≡ neg_ℤ (pos 1) → StandsAs start (turned_if negative z) → start ≡ side_of false negative
finish_side true true z e h = refl
finish_side true false z e h = absurd (omega (arith, ints, e, h))
finish_side false true z e h = absurd (omega (arith, ints, e, h))
finish_side false false z e h = refl

-- and back
pub starts_as : (negative : Bool) (z : ℤ) → z ≡ pos 1 → StandsAs (side_of true negative) (turned_if negative z)
starts_as true z e = omega (arith, ints, e)
starts_as false z e = omega (arith, ints, e)

pub finishes_as : (negative : Bool) (z : ℤ) → z ≡ neg_ℤ (pos 1) → StandsAs (side_of false negative) (turned_if negative z)
finishes_as true z e = omega (arith, ints, e)
finishes_as false z e = omega (arith, ints, e)

-- how a vertex stands along a half-edge
pub same_at : (a v : ℕ) → a ≡ v → at_same a v ≡ pos 1
same_at a v e = ap (λ b. cond b (pos 1) (pos 0)) (eq-eqb a v e)

pub apart_at : (a v : ℕ) → (a ≡ v → ⊥) → at_same a v ≡ pos 0
apart_at a v d = ap (λ b. cond b (pos 1) (pos 0)) (ne_eqb a v d)

pub end_at : (es : List (ℕ × ℕ)) (h v : ℕ) (s t : ℤ) → at_same (start es h) v ≡ s → at_same (finish es h) v ≡ t → at_end es h v ≡ s -ℤ t
end_at es h v s t e f = ap (λ z. z -ℤ at_same (finish es h) v) e ∙ ap (λ z. s -ℤ z) f
