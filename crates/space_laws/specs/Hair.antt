-- P moved by a hair in space: by m in x, by 1 in y, where all x and y are times the square of m, and by 1 in z, where all z are times its cube.
use Rattle.std.specs.Prelude.{◌≡◌, ℤ, pos, neg_ℤ, ◌+ℤ◌, ◌-ℤ◌, ◌*ℤ◌}
use Rattle.std.proofs.Common.{arith, sym, ap, ◌∙◌}
use Rattle.std.proofs.lemmas.Int.{ints}
use Rattle.std.proofs.Math.IntN.{*ℤ_comm}
use Rattle.chain_laws.specs.Products.{spread, mul-add, mul-sub, add-mul, sub-mul, mul-neg, mul-assoc}
use Rattle.plane_laws.specs.Areas.{Place, area, area_is, exchanged}
use Rattle.plane_laws.specs.Moved.{kept, tilted, times_one, times_zero, moved_vertex}
use Rattle.plane_laws.specs.Decisions.{Vector, face_normal}
use Rattle.plane_laws.specs.Heights.{flat}
use Rattle.space_laws.specs.Balance.{lifted}
use Rattle.solid_terms.specs.Solids.{volume}
use Rattle.space_laws.specs.Places.{volume_is}
use Rattle.space_laws.specs.Lexical.{digits}

-- the cube
abbrev pub cube : ℤ → ℤ
cube m = (m *ℤ m) *ℤ m

-- a place of P, moved
abbrev pub lift_p : ℤ → Vector → Vector
lift_p m p = record { x = (m *ℤ m) *ℤ p.x +ℤ m; y = (m *ℤ m) *ℤ p.y +ℤ pos 1; z = cube m *ℤ p.z +ℤ pos 1 }

-- a place of Q, which is not moved
abbrev pub lift_q : ℤ → Vector → Vector
lift_q m q = record { x = (m *ℤ m) *ℤ q.x; y = (m *ℤ m) *ℤ q.y; z = cube m *ℤ q.z }

-- one tilted area times one height
term : (m a x y h : ℤ) → tilted m a x y *ℤ (cube m *ℤ h -ℤ pos 1)
    ≡ (m *ℤ m) *ℤ (cube m *ℤ (a *ℤ h)) +ℤ (m *ℤ m) *ℤ (m *ℤ (x *ℤ h)) -ℤ (m *ℤ m) *ℤ ((m *ℤ m) *ℤ (y *ℤ h)) -ℤ (m *ℤ m) *ℤ a -ℤ x +ℤ m *ℤ y
term m a x y h =
    let N = m *ℤ m in
    let K = cube m in
    let w = x -ℤ m *ℤ y in
    let g = K *ℤ h in
    let first : (N *ℤ a) *ℤ g ≡ N *ℤ (K *ℤ (a *ℤ h)) = mul-assoc N a g ∙ ap (λ (t : ℤ). N *ℤ t) (exchanged a K h) in
    let second : x *ℤ g ≡ N *ℤ (m *ℤ (x *ℤ h)) = exchanged x K h ∙ mul-assoc N m (x *ℤ h) in
    let third : (m *ℤ y) *ℤ g ≡ N *ℤ (N *ℤ (y *ℤ h)) =
    mul-assoc m y g ∙ ap (λ (t : ℤ). m *ℤ t) (exchanged y K h ∙ mul-assoc N m (y *ℤ h)) ∙ exchanged m N (m *ℤ (y *ℤ h)) ∙ ap (λ (t : ℤ). N *ℤ t) (sym (mul-assoc m m (y *ℤ h))) in
    omega (
      arith,
      ints,
      first,
      second,
      third,
      add-mul (N *ℤ a) w (g -ℤ pos 1),
      mul-sub (N *ℤ a) g (pos 1),
      mul-sub w g (pos 1),
      times_one (N *ℤ a),
      times_one w,
      sub-mul x
          (m *ℤ y) g,
    )

-- three multiples of one number
gathered : (c x y z : ℤ) → c *ℤ x +ℤ c *ℤ y +ℤ c *ℤ z ≡ c *ℤ (x +ℤ y +ℤ z)
gathered c x y z = omega (arith, ints, mul-add c (x +ℤ y) z, mul-add c x y)

-- three such terms, of edges that make a ring
terms : (m a b c x1 x2 x3 y1 y2 y3 h k l : ℤ) → x1 +ℤ x2 +ℤ x3 ≡ pos 0 → y1 +ℤ y2 +ℤ y3 ≡ pos 0 →
    tilted m a x1 y1 *ℤ (cube m *ℤ h -ℤ pos 1) +ℤ tilted m b x2 y2 *ℤ (cube m *ℤ k -ℤ pos 1) +ℤ tilted m c x3 y3 *ℤ (cube m *ℤ l -ℤ pos 1)
    ≡ (m *ℤ m) *ℤ (cube m *ℤ (a *ℤ h +ℤ b *ℤ k +ℤ c *ℤ l) +ℤ m *ℤ (x1 *ℤ h +ℤ x2 *ℤ k +ℤ x3 *ℤ l) -ℤ (m *ℤ m) *ℤ (y1 *ℤ h +ℤ y2 *ℤ k +ℤ y3 *ℤ l) -ℤ (a +ℤ b +ℤ c))
terms m a b c x1 x2 x3 y1 y2 y3 h k l ex ey =
    let N = m *ℤ m in
    let K = cube m in
    let A = a *ℤ h +ℤ b *ℤ k +ℤ c *ℤ l in
    let X = x1 *ℤ h +ℤ x2 *ℤ k +ℤ x3 *ℤ l in
    let Y = y1 *ℤ h +ℤ y2 *ℤ k +ℤ y3 *ℤ l in
    let ring : m *ℤ y1 +ℤ m *ℤ y2 +ℤ m *ℤ y3 ≡ pos 0 = gathered m y1 y2 y3 ∙ ap (λ (t : ℤ). m *ℤ t) ey ∙ times_zero m in
    let gA : N *ℤ (K *ℤ (a *ℤ h)) +ℤ N *ℤ (K *ℤ (b *ℤ k)) +ℤ N *ℤ (K *ℤ (c *ℤ l)) ≡ N *ℤ (K *ℤ A) = gathered N (K *ℤ (a *ℤ h)) (K *ℤ (b *ℤ k)) (K *ℤ (c *ℤ l)) ∙ ap
    (λ (t : ℤ). N *ℤ t) (gathered K (a *ℤ h) (b *ℤ k) (c *ℤ l)) in
    let gX : N *ℤ (m *ℤ (x1 *ℤ h)) +ℤ N *ℤ (m *ℤ (x2 *ℤ k)) +ℤ N *ℤ (m *ℤ (x3 *ℤ l)) ≡ N *ℤ (m *ℤ X) = gathered N (m *ℤ (x1 *ℤ h)) (m *ℤ (x2 *ℤ k)) (m *ℤ (x3 *ℤ l)) ∙ ap
    (λ (t : ℤ). N *ℤ t) (gathered m (x1 *ℤ h) (x2 *ℤ k) (x3 *ℤ l)) in
    let gY : N *ℤ (N *ℤ (y1 *ℤ h)) +ℤ N *ℤ (N *ℤ (y2 *ℤ k)) +ℤ N *ℤ (N *ℤ (y3 *ℤ l)) ≡ N *ℤ (N *ℤ Y) = gathered N (N *ℤ (y1 *ℤ h)) (N *ℤ (y2 *ℤ k)) (N *ℤ (y3 *ℤ l)) ∙ ap
    (λ (t : ℤ). N *ℤ t) (gathered N (y1 *ℤ h) (y2 *ℤ k) (y3 *ℤ l)) in
    collected _ _ _ (N *ℤ (K *ℤ (a *ℤ h))) (N *ℤ (K *ℤ (b *ℤ k))) (N *ℤ (K *ℤ (c *ℤ l))) (N *ℤ (m *ℤ (x1 *ℤ h))) (N *ℤ (m *ℤ (x2 *ℤ k))) (N *ℤ (m *ℤ (x3 *ℤ l)))
    (N *ℤ (N *ℤ (y1 *ℤ h))) (N *ℤ (N *ℤ (y2 *ℤ k))) (N *ℤ (N *ℤ (y3 *ℤ l))) (N *ℤ a) (N *ℤ b) (N *ℤ c) x1 x2 x3 (m *ℤ y1) (m *ℤ y2) (m *ℤ y3) (N *ℤ (K *ℤ A))
    (N *ℤ (m *ℤ X)) (N *ℤ (N *ℤ Y)) (N *ℤ (a +ℤ b +ℤ c)) _
    (term m a x1 y1 h) (term m b x2 y2 k) (term m c x3 y3 l) gA gX gY (gathered N a b c) ex ring
    (spread_out N (K *ℤ A) (m *ℤ X) (N *ℤ Y) (a +ℤ b +ℤ c))
  where
    collected : (t1 t2 t3 A1 A2 A3 X1 X2 X3 Y1 Y2 Y3 S1 S2 S3 x1 x2 x3 r1 r2 r3 A X Y S R : ℤ) → t1 ≡ A1 +ℤ X1 -ℤ Y1 -ℤ S1 -ℤ x1 +ℤ r1 → t2 ≡ A2 +ℤ X2 -ℤ Y2 -ℤ S2 -ℤ x2 +ℤ r2 →
        t3 ≡ A3 +ℤ X3 -ℤ Y3 -ℤ S3 -ℤ x3 +ℤ r3 → A1 +ℤ A2 +ℤ A3 ≡ A → X1 +ℤ X2 +ℤ X3 ≡ X → Y1 +ℤ Y2 +ℤ Y3 ≡ Y → S1 +ℤ S2 +ℤ S3 ≡ S → x1 +ℤ x2 +ℤ x3 ≡ pos 0 →
        r1 +ℤ r2 +ℤ r3 ≡ pos 0 →
        R ≡ A +ℤ X -ℤ Y -ℤ S → t1 +ℤ t2 +ℤ t3 ≡ R
    collected t1 t2 t3 A1 A2 A3 X1 X2 X3 Y1 Y2 Y3 S1 S2 S3 x1 x2 x3 r1 r2 r3 A X Y S R e1 e2 e3 eA eX eY eS ex er eR = omega (arith, ints)

    spread_out : (c a x y s : ℤ) → c *ℤ (a +ℤ x -ℤ y -ℤ s) ≡ c *ℤ a +ℤ c *ℤ x -ℤ c *ℤ y -ℤ c *ℤ s
    spread_out c a x y s = omega (arith, ints, mul-sub c (a +ℤ x -ℤ y) s, mul-sub c (a +ℤ x) y, mul-add c a x)

-- the numbers of a normal by rings of edges
normal_x : (uy vy ty uz vz tz pz : ℤ) → (ty -ℤ vy) *ℤ (uz -ℤ pz) +ℤ (uy -ℤ ty) *ℤ (vz -ℤ pz) +ℤ (vy -ℤ uy) *ℤ (tz -ℤ pz) ≡ (vy -ℤ uy) *ℤ (tz -ℤ uz) -ℤ (vz -ℤ uz) *ℤ (ty -ℤ uy)
normal_x uy vy ty uz vz tz pz = simp spread (omega (arith, ints, *ℤ_comm vz ty, *ℤ_comm vz uy, *ℤ_comm uz ty, *ℤ_comm uz uy))

-- the number in y
normal_y : (ux vx tx uz vz tz pz : ℤ) → (tx -ℤ vx) *ℤ (uz -ℤ pz) +ℤ (ux -ℤ tx) *ℤ (vz -ℤ pz) +ℤ (vx -ℤ ux) *ℤ (tz -ℤ pz) ≡ neg_ℤ
    ((vz -ℤ uz) *ℤ (tx -ℤ ux) -ℤ (vx -ℤ ux) *ℤ (tz -ℤ uz))
normal_y ux vx tx uz vz tz pz = simp spread (omega (arith, ints, *ℤ_comm vz tx, *ℤ_comm vz ux, *ℤ_comm uz tx, *ℤ_comm uz ux))

-- the number in z: the areas add up to it
pub normal_z : (U V W P : Place) → area V W P +ℤ area W U P +ℤ area U V P ≡ (V.x -ℤ U.x) *ℤ (W.y -ℤ U.y) -ℤ (V.y -ℤ U.y) *ℤ (W.x -ℤ U.x)
normal_z U V W P = simp spread (omega (arith, ints, *ℤ_comm V.y W.x, *ℤ_comm V.y U.x, *ℤ_comm U.y W.x, *ℤ_comm U.y U.x))

-- a height in space
height_moved : (k u p : ℤ) → k *ℤ u -ℤ (k *ℤ p +ℤ pos 1) ≡ k *ℤ (u -ℤ p) -ℤ pos 1
height_moved k u p = omega (arith, ints, mul-sub k u p)

-- the volume of a moved place: the digits of the volume and of the normal turned
pub volume_moved : (m : ℤ) (p u v t : Vector) → volume (lift_p m p) (lift_q m u) (lift_q m v) (lift_q m t)
    ≡ (m *ℤ m) *ℤ ((m *ℤ m) *ℤ digits m (volume p u v t) (neg_ℤ (face_normal u v t).x) (neg_ℤ (face_normal u v t).y) (neg_ℤ (face_normal u v t).z))
volume_moved m p u v t =
    let N = m *ℤ m in
    let U = flat u in
    let V = flat v in
    let T = flat t in
    let P = flat p in
    volume_is (lift_p m p) (lift_q m u) (lift_q m v) (lift_q m t)
    ∙ by _ _ _ _ _ _ (tilted m (area V T P) (t.x -ℤ v.x) (t.y -ℤ v.y)) (tilted m (area T U P) (u.x -ℤ t.x) (u.y -ℤ t.y)) (tilted m (area U V P) (v.x -ℤ u.x) (v.y -ℤ u.y))
    (cube m *ℤ (u.z -ℤ p.z) -ℤ pos 1) (cube m *ℤ (v.z -ℤ p.z) -ℤ pos 1) (cube m *ℤ (t.z -ℤ p.z) -ℤ pos 1)
    (moved_vertex m V T P) (moved_vertex m T U P) (moved_vertex m U V P) (height_moved (cube m) u.z p.z) (height_moved (cube m) v.z p.z) (height_moved (cube m) t.z p.z)
    ∙ ap (λ (z : ℤ). N *ℤ z)
    (terms m (area V T P) (area T U P) (area U V P) (t.x -ℤ v.x) (u.x -ℤ t.x) (v.x -ℤ u.x) (t.y -ℤ v.y) (u.y -ℤ t.y) (v.y -ℤ u.y) (u.z -ℤ p.z) (v.z -ℤ p.z) (t.z -ℤ p.z)
    (omega (arith, ints)) (omega (arith, ints))
    ∙ ap (λ (z : ℤ). N *ℤ z)
    (last _ _ _ _ _ _ _ _ (sym (volume_is p u v t)) (normal_y u.x v.x t.x u.z v.z t.z p.z) (normal_x u.y v.y t.y u.z v.z t.z p.z) (normal_z U V T P)))
  where
    by : (a b c h k l a' b' c' h' k' l' : ℤ) → a ≡ (m *ℤ m) *ℤ a' → b ≡ (m *ℤ m) *ℤ b' → c ≡ (m *ℤ m) *ℤ c' → h ≡ h' → k ≡ k' → l ≡ l' →
        lifted a b c h k l ≡ (m *ℤ m) *ℤ (a' *ℤ h' +ℤ b' *ℤ k' +ℤ c' *ℤ l')
    by a b c h k l a' b' c' h' k' l' ea eb ec eh ek el =
        rw (ea, eb, ec, eh, ek, el)
        (omega (arith, ints, mul-assoc (m *ℤ m) a' h', mul-assoc (m *ℤ m) b' k', mul-assoc (m *ℤ m) c' l', gathered (m *ℤ m) (a' *ℤ h') (b' *ℤ k') (c' *ℤ l')))

    last : (a x y s v nx ny nz : ℤ) → a ≡ v → x ≡ neg_ℤ ny → y ≡ nx → s ≡ nz →
        cube m *ℤ a +ℤ m *ℤ x -ℤ (m *ℤ m) *ℤ y -ℤ s ≡ digits m v (neg_ℤ nx) (neg_ℤ ny) (neg_ℤ nz)
    last a x y s v nx ny nz ea ex ey es = rw (ea, ex, ey, es) (omega (arith, ints, mul-neg (m *ℤ m) nx))

-- an area of places of Q
area_kept : (m : ℤ) (s t v : Place) → area (kept m s) (kept m t) (kept m v) ≡ (m *ℤ m) *ℤ ((m *ℤ m) *ℤ area s t v)
area_kept m s t v =
    sym (area_is (kept m s) (kept m t) (kept m v)) ∙ by (m *ℤ m) s.x s.y t.x t.y v.x v.y ∙ ap (λ (z : ℤ). (m *ℤ m) *ℤ ((m *ℤ m) *ℤ z)) (area_is s t v) where
      four : (n a c : ℤ) → (n *ℤ a) *ℤ (n *ℤ c) ≡ n *ℤ (n *ℤ (a *ℤ c))
      four n a c = mul-assoc n a (n *ℤ c) ∙ ap (λ (z : ℤ). n *ℤ z) (exchanged a n c)

      by : (n sx sy tx ty vx vy : ℤ) → (n *ℤ tx -ℤ n *ℤ sx) *ℤ (n *ℤ vy -ℤ n *ℤ sy) -ℤ (n *ℤ vx -ℤ n *ℤ sx) *ℤ (n *ℤ ty -ℤ n *ℤ sy) ≡ n *ℤ
          (n *ℤ ((tx -ℤ sx) *ℤ (vy -ℤ sy) -ℤ (vx -ℤ sx) *ℤ (ty -ℤ sy)))
      by n sx sy tx ty vx vy =
          rw (← mul-sub n tx sx, ← mul-sub n vy sy, ← mul-sub n vx sx, ← mul-sub n ty sy, four n (tx -ℤ sx) (vy -ℤ sy), four n (vx -ℤ sx) (ty -ℤ sy))
          (sym (ap (λ (z : ℤ). n *ℤ z) (mul-sub n ((tx -ℤ sx) *ℤ (vy -ℤ sy)) ((vx -ℤ sx) *ℤ (ty -ℤ sy))) ∙ mul-sub n (n *ℤ ((tx -ℤ sx) *ℤ (vy -ℤ sy)))
          (n *ℤ ((vx -ℤ sx) *ℤ (ty -ℤ sy)))))

-- a volume of places of Q
pub volume_kept : (m : ℤ) (o u v t : Vector) → volume (lift_q m o) (lift_q m u) (lift_q m v) (lift_q m t) ≡ (m *ℤ m) *ℤ ((m *ℤ m) *ℤ (cube m *ℤ volume o u v t))
volume_kept m o u v t =
    volume_is (lift_q m o) (lift_q m u) (lift_q m v) (lift_q m t)
    ∙ by (m *ℤ m) (cube m) _ _ _ _ _ _ _ _ _ _ _ _ (area_kept m (flat v) (flat t) (flat o)) (area_kept m (flat t) (flat u) (flat o)) (area_kept m (flat u) (flat v) (flat o))
    (sym (mul-sub (cube m) u.z o.z)) (sym (mul-sub (cube m) v.z o.z)) (sym (mul-sub (cube m) t.z o.z))
    ∙ ap (λ (z : ℤ). (m *ℤ m) *ℤ ((m *ℤ m) *ℤ (cube m *ℤ z))) (sym (volume_is o u v t))
  where
    one : (n k a h : ℤ) → (n *ℤ (n *ℤ a)) *ℤ (k *ℤ h) ≡ n *ℤ (n *ℤ (k *ℤ (a *ℤ h)))
    one n k a h = mul-assoc n (n *ℤ a) (k *ℤ h) ∙ ap (λ (z : ℤ). n *ℤ z) (mul-assoc n a (k *ℤ h) ∙ ap (λ (z : ℤ). n *ℤ z) (exchanged a k h))

    by : (n k a b c h i j a' b' c' h' i' j' : ℤ) → a ≡ n *ℤ (n *ℤ a') → b ≡ n *ℤ (n *ℤ b') → c ≡ n *ℤ (n *ℤ c') → h ≡ k *ℤ h' → i ≡ k *ℤ i' → j ≡ k *ℤ j' →
        lifted a b c h i j ≡ n *ℤ (n *ℤ (k *ℤ lifted a' b' c' h' i' j'))
    by n k a b c h i j a' b' c' h' i' j' ea eb ec eh ei ej =
        rw (ea, eb, ec, eh, ei, ej, one n k a' h', one n k b' i', one n k c' j')
        (gathered n (n *ℤ (k *ℤ (a' *ℤ h'))) (n *ℤ (k *ℤ (b' *ℤ i'))) (n *ℤ (k *ℤ (c' *ℤ j')))
        ∙ ap (λ (z : ℤ). n *ℤ z) (gathered n (k *ℤ (a' *ℤ h')) (k *ℤ (b' *ℤ i')) (k *ℤ (c' *ℤ j')) ∙ ap (λ (z : ℤ). n *ℤ z) (gathered k (a' *ℤ h') (b' *ℤ i') (c' *ℤ j'))))
