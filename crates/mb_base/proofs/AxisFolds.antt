-- The least and the greatest coordinate, one corner after the other.
use Rattle.std.proofs.Common.{◌≡◌, ◌<◌, ◌+◌, ◌∙◌, ℕ, ℤ, pos, List, FitsSigned, w64, to_z, of_z, length, map, take, get_or, arith, ap, sym}
use Rattle.std.specs.List.{fold}
use Rattle.std.proofs.lemmas.Int.{to_z-of_z}
use Rattle.std.proofs.lemmas.List.{get_or-map, length-map}
use Rattle.std.proofs.lemmas.List.Sums.{fold_more}
use Rattle.mb_base.specs.Boxes.{axis}
use Rattle.mb_base.specs.declared.point.Corner.{Corner}

-- what an order, as the least, makes of the first corners and of one more, kept at 64 bits
pub axis_fold_more : (f : ℤ → ℤ → ℤ) (i : ℕ) (cs : List Corner) (at : ℕ) (d : Corner) (so_far next : ℤ) → at < length cs
    → FitsSigned w64 next → FitsSigned w64 (axis i (get_or cs at d)) → next ≡ f so_far (to_z w64 (of_z w64 (axis i (get_or cs at d))))
    → so_far ≡ fold f (get_or (map (axis i) cs) 0 (pos 0)) (take at (map (axis i) cs))
    → to_z w64 (of_z w64 next) ≡ fold f (get_or (map (axis i) cs) 0 (pos 0)) (take (at + 1) (map (axis i) cs))
axis_fold_more f i cs at d so_far next within fits z_fits is before =
    let zs = map (axis i) cs in
    let there : at < length zs = omega (arith, length-map cs (axis i), within) in
    to_z-of_z w64 next fits ∙ is
    ∙ ap (f so_far) (to_z-of_z w64 (axis i (get_or cs at d)) z_fits ∙ sym (get_or-map (axis i) cs at d (pos 0) within))
    ∙ ap (λ z. f z (get_or zs at (pos 0))) before
    ∙ sym (fold_more f (get_or zs 0 (pos 0)) zs at (pos 0) there)
