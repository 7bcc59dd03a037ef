-- Settled values and points of them.
use Rattle.std.proofs.Common.{arith, ◌≡◌, ◌^◌, ℤ, pos, neg_ℤ, ◌*ℤ◌, Option, None, Some, IsSome, IfSome, FitsSigned, List, [], ◌∷◌, ap, ◌∙◌}
use Rattle.std.proofs.lemmas.Int.{ints}
use Rattle.std.specs.Int.{w32, w64}
use Rattle.mb_base.specs.declared.TheConstants.{UNIT}
use Rattle.mesh_terms.specs.Points.{IsOnGrid}
use Rattle.side_terms.specs.Fine.{IsFine, IsWeight}
use Rattle.shadow_kernels.specs.declared.Spot.{Spot}
use Rattle.shadow_kernels.specs.Spots.{Between, gap}
use Rattle.edge_face.specs.Crossings.{Settle, p_point, q_point}
use Rattle.edge_face.specs.Sides.{mirrored}
use Rattle.edge_face.specs.CrossingLaws.{IsSettling}
use Rattle.shadow_kernels.proofs.Values.{seen}

-- a settled value between values by weights, all kept at their width
pub kept_settled : {r u v a b g h : ℤ} (w : Between) (settle : Settle) → r ≡ settle (w (seen w64 u) (seen w64 v) (seen w64 a) (seen w64 b)) → IsFine u →
    IsFine v → IsWeight a → IsWeight b → a ≡ g → b ≡ h → FitsSigned w32 r →
    seen w32 r ≡ settle (w u v g h)
kept_settled {r} {u} {v} {a} {b} {g} {h} w settle e fu fv wa wb x y fits =
    let kept : seen w32 r ≡ r = omega (arith, ints) in
    let u_kept : seen w64 u ≡ u = omega (arith, ints, fu.low, fu.high) in
    let v_kept : seen w64 v ≡ v = omega (arith, ints, fv.low, fv.high) in
    let a_kept : seen w64 a ≡ a = omega (arith, ints, wa.low, wa.high) in
    let b_kept : seen w64 b ≡ b = omega (arith, ints, wb.low, wb.high) in
    kept
    ∙ e
    ∙ ap (λ (z : ℤ). settle (w z (seen w64 v) (seen w64 a) (seen w64 b))) u_kept
    ∙ ap (λ (z : ℤ). settle (w u z (seen w64 a) (seen w64 b))) v_kept
    ∙ ap (λ (z : ℤ). settle (w u v z (seen w64 b))) (a_kept ∙ x)
    ∙ ap (λ (z : ℤ). settle (w u v g z)) (b_kept ∙ y)

-- a fine value settles to a coordinate of the grid
pub settled_grid : (settle : Settle) → IsSettling settle → (z : ℤ) → IsFine z → IsOnGrid (settle z)
settled_grid settle s z fz =
    let top : IsFine (UNIT *ℤ pos (2 ^ 30)) = record { low = omega (arith, ints); high = omega (arith, ints) } in
    let bottom : IsFine (UNIT *ℤ neg_ℤ (pos (2 ^ 30))) = record { low = omega (arith, ints); high = omega (arith, ints) } in
    let high = s.monotone z (UNIT *ℤ pos (2 ^ 30)) fz top (omega (arith, ints, fz.high)) in
    let low = s.monotone (UNIT *ℤ neg_ℤ (pos (2 ^ 30))) z bottom fz (omega (arith, ints, fz.low)) in
    omega (arith, ints, high, low, s.units (pos (2 ^ 30)) top, s.units (neg_ℤ (pos (2 ^ 30))) bottom)

-- a coordinate of the grid stays one at its width
pub kept_on : (r : ℤ) → IsOnGrid r → IsOnGrid (seen w32 r)
kept_on r h = omega (arith, ints, h)

-- a point that is there has its coordinates
pub made_point : (o : Option (List ℤ)) {x y z a b c : ℤ} → IsSome o → IfSome o (λ p. p ≡ x ∷ y ∷ z ∷ []) → x ≡ a → y ≡ b → z ≡ c → o ≡ Some (a ∷ b ∷ c ∷ [])
made_point None s h e f g = absurd (cc)
made_point (Some p) {x} {y} {z} {a} {b} {c} s h e f g =
    ap (λ (l : List ℤ). Some l) h
    ∙ ap (λ (n : ℤ). Some (n ∷ y ∷ z ∷ [])) e
    ∙ ap (λ (n : ℤ). Some (a ∷ n ∷ z ∷ [])) f
    ∙ ap (λ (n : ℤ). Some (a ∷ b ∷ n ∷ [])) g

-- the point by Q's values is that by P's of the spots with both exchanged
pub other_point : (w : Between) (settle : Settle) (d u : Spot) → p_point w settle (mirrored d) (mirrored u) ≡ q_point w settle d u
unfolding p_point q_point
other_point w settle d u =
    let g : gap d.qz d.pz ≡ gap d.pz d.qz = omega (arith, ints) in
    let h : gap u.qz u.pz ≡ gap u.pz u.qz = omega (arith, ints) in
    let by : ℤ → ℤ → List ℤ = λ a b. settle (w d.x u.x a b) ∷ settle (w d.qy u.qy a b) ∷ settle (w d.qz u.qz a b) ∷ [] in
    ap (λ (z : ℤ). by z (gap u.qz u.pz)) g ∙ ap (λ (z : ℤ). by (gap d.pz d.qz) z) h
