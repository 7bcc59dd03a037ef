-- Values as they stand after they were kept at a width, and spots of equal values.
use Rattle.std.proofs.Common.{arith, ◌≡◌, ℕ, ℤ, ◌-ℤ◌, Bool, List, ap, sym, subst, ◌∙◌, FitsSigned}
use Rattle.std.proofs.lemmas.Int.{ints}
use Rattle.std.specs.Int.{Width, w8, w64, cast_signed, cast_unsigned}
use Rattle.mb_base.specs.declared.point.Corner.{Corner}
use Rattle.side_terms.specs.Fine.{IsFine, IsWeight}
use Rattle.shadow_kernels.specs.declared.Spot.{Spot}
use Rattle.shadow_kernels.specs.Spots.{Between, edge_value, mark, marks, gap}
use Rattle.shadow_kernels.specs.Bounds.{IsGapOf}
use Rattle.shadow_kernels.specs.Lifted.{gap_weight}

-- a number as it stands after it was kept at a width
abbrev pub seen : Width → ℤ → ℤ
seen w z = cast_signed w (cast_unsigned w z)

-- a value between equal values by equal weights
pub same_between : (f : Between) (r u v a b u' v' a' b' : ℤ) → r ≡ f u v a b → u ≡ u' → v ≡ v' → a ≡ a' → b ≡ b' → r ≡ f u' v' a' b'
same_between f r u v a b u' v' a' b' h e k l m = cc

-- spots of equal values
pub same_spot : {x py qy pz qz x' py' qy' pz' qz' : ℤ} {up up' : List Bool} → x ≡ x' → py ≡ py' → qy ≡ qy' → pz ≡ pz' → qz ≡ qz' → up ≡ up' →
    ◌≡◌ {A = Spot} (record { x = x; py = py; qy = qy; pz = pz; qz = qz; up = up }) (record { x = x'; py = py'; qy = qy'; pz = pz'; qz = qz'; up = up' })
same_spot a b c d e f = cc

-- a mark between equal weights
pub same_mark : {m : Bool} {a b a' b' : ℤ} (s t : Bool) → m ≡ mark a b s t → a ≡ a' → b ≡ b' → m ≡ mark a' b' s t
same_mark {m} {a} {b} {a'} s t h e f = h ∙ ap (λ (z : ℤ). mark z b s t) e ∙ ap (λ (z : ℤ). mark a' z s t) f

-- marks between equal weights
pub same_marks : {r : List Bool} {a b a' b' : ℤ} (us vs : List Bool) → r ≡ marks a b us vs → a ≡ a' → b ≡ b' → r ≡ marks a' b' us vs
same_marks {r} {a} {b} {a'} us vs h e f = h ∙ ap (λ (z : ℤ). marks z b us vs) e ∙ ap (λ (z : ℤ). marks a' z us vs) f

-- a value between fine values by weights, all kept at their width
pub kept_between : {r u v a b g h : ℤ} (f : Between) → r ≡ f (seen w64 u) (seen w64 v) (seen w64 a) (seen w64 b) → IsFine u → IsFine v → IsWeight a →
    IsWeight b → a ≡ g → b ≡ h → FitsSigned w64 r →
    seen w64 r ≡ f u v g h
kept_between {r} {u} {v} {a} {b} {g} {h} f e fu fv wa wb x y fits =
    let kept : seen w64 r ≡ r = omega (arith, ints) in
    let a_kept : seen w64 a ≡ a = omega (arith, ints, wa.low, wa.high) in
    let b_kept : seen w64 b ≡ b = omega (arith, ints, wb.low, wb.high) in
    kept ∙ same_between f r (seen w64 u) (seen w64 v) (seen w64 a) (seen w64 b) u v g h e (omega (arith, ints, fu.low, fu.high))
    (omega (arith, ints, fv.low, fv.high)) (a_kept ∙ x) (b_kept ∙ y)

-- a weight stays as it is at its width
pub kept_weight : {a g : ℤ} → IsWeight a → a ≡ g → seen w64 a ≡ g
kept_weight h e = omega (arith, ints, h.low, h.high)

-- a gap of fine values, all kept at their width
pub kept_gap : {r p q : ℤ} → r ≡ gap (seen w64 p) (seen w64 q) → IsFine p → IsFine q → seen w64 r ≡ gap p q
kept_gap {r} {p} {q} e fp fq =
    let p_kept : seen w64 p ≡ p = omega (arith, ints, fp.low, fp.high) in
    let q_kept : seen w64 q ≡ q = omega (arith, ints, fq.low, fq.high) in
    let same : r ≡ gap p q = e ∙ ap (λ (z : ℤ). gap z (seen w64 q)) p_kept ∙ ap (λ (z : ℤ). gap p z) q_kept in
    kept_weight (subst IsWeight (sym same) (gap_weight p q fp fq)) same

-- a value between those of two spots, by the spots' gaps in y
pub spot_value : {r u v a b : ℤ} {d s : Spot} (f : Between) → r ≡ f (seen w64 u) (seen w64 v) (seen w64 a) (seen w64 b) → IsFine u → IsFine v → IsGapOf d a →
    IsGapOf s b → FitsSigned w64 r →
    seen w64 r ≡ f u v (gap d.py d.qy) (gap s.py s.qy)
spot_value f e fu fv ga gb fits = kept_between f e fu fv ga.weight gb.weight ga.value gb.value fits

-- a difference of fine values, all kept at their width
pub kept_less : {u v : ℤ} → IsFine u → IsFine v → seen w64 (seen w64 u -ℤ seen w64 v) ≡ u -ℤ v
kept_less h k = omega (arith, ints, h.low, h.high, k.low, k.high)

-- a value of an edge at a place that was kept at its width
pub kept_value : {y : ℤ} (w : Between) (i : ℕ) (l r : Corner) (x : ℤ) → y ≡ edge_value w i l r (seen w64 x) → IsFine x → FitsSigned w64 y → seen w64 y ≡ edge_value w i l r x
kept_value {y} w i l r x e fine fits =
    let kept : seen w64 y ≡ y = omega (arith, ints) in
    let same : seen w64 x ≡ x = omega (arith, ints, fine.low, fine.high) in
    kept ∙ e ∙ ap (λ (z : ℤ). edge_value w i l r z) same

-- a number that fits eight bits stays as it is at them
pub kept_unit : (z : ℤ) → FitsSigned w8 z → seen w8 z ≡ z
kept_unit z fits = omega (arith, ints)
