-- Where no pair of a corner of an edge, or of the edge, and a face is met, seen from above, the edge doesn't go through the face.
use Rattle.std.specs.Prelude.{◌≡◌, ℤ, pos, neg_ℤ, ◌+ℤ◌, ◌-ℤ◌, ◌*ℤ◌, ◌<ℤ◌, Bool, true, false, not}
use Rattle.std.proofs.Common.{arith, refl, sym, subst}
use Rattle.std.proofs.lemmas.Int.{ints}
use Rattle.plane_laws.specs.Signs.{Signed, like, signed_factor, signed_mul}
use Rattle.plane_laws.specs.Bits.{bit}
use Rattle.space_laws.specs.Edges.{Turned, EdgeOf}
use Rattle.space_laws.specs.Fives.{AreFive, rotated}
use Rattle.space_laws.specs.Met.{area_seen, not_alike}
use Rattle.space_laws.specs.Unmet.{single}

-- three products of one sign
products : (t s r : Bool) (x y z k l m n : ℤ) → t ≡ like s r → x *ℤ k +ℤ y *ℤ l +ℤ z *ℤ m ≡ n → Signed s x → Signed s y → Signed s z → Signed r k → Signed r l → Signed r m →
    Signed t n
products true true true x y z k l m n e f hx hy hz hk hl hm =
    omega (arith, ints, f, signed_mul true true x k hx hk, signed_mul true true y l hy hl, signed_mul true true z m hz hm)
products true false false x y z k l m n e f hx hy hz hk hl hm =
    omega (arith, ints, f, signed_mul false false x k hx hk, signed_mul false false y l hy hl, signed_mul false false z m hz hm)
products false true false x y z k l m n e f hx hy hz hk hl hm =
    omega (arith, ints, f, signed_mul true false x k hx hk, signed_mul true false y l hy hl, signed_mul true false z m hz hm)
products false false true x y z k l m n e f hx hy hz hk hl hm =
    omega (arith, ints, f, signed_mul false true x k hx hk, signed_mul false true y l hy hl, signed_mul false true z m hz hm)
products true true false x y z k l m n e f hx hy hz hk hl hm = absurd (cc)
products true false true x y z k l m n e f hx hy hz hk hl hm = absurd (cc)
products false true true x y z k l m n e f hx hy hz hk hl hm = absurd (cc)
products false false false x y z k l m n e f hx hy hz hk hl hm = absurd (cc)

-- bits that are equal, or not
same_bit : (s t : Bool) → bit s ≡ bit t → s ≡ t
same_bit true true e = refl
same_bit false false e = refl
same_bit true false e = absurd (omega (arith, ints, e))
same_bit false true e = absurd (omega (arith, ints, e))

-- bits of which one is 1
other_bit : (s t : Bool) → bit s +ℤ bit t ≡ pos 1 → t ≡ not s
other_bit true false e = refl
other_bit false true e = refl
other_bit true true e = absurd (omega (arith, ints, e))
other_bit false false e = absurd (omega (arith, ints, e))

-- the sign of a negative
back : (s : Bool) (z : ℤ) → Signed s z → Signed (not s) (neg_ℤ z)
back true z h = omega (arith, ints)
back false z h = omega (arith, ints)

-- of a sign turned
back_not : (s : Bool) (z : ℤ) → Signed (not s) z → Signed s (neg_ℤ z)
back_not true z h = omega (arith, ints)
back_not false z h = omega (arith, ints)

-- a sign from that of the negative
from_back : (s : Bool) (z : ℤ) → Signed s (neg_ℤ z) → Signed (not s) z
from_back true z h = omega (arith, ints)
from_back false z h = omega (arith, ints)

-- from that of the negative turned
from_back_not : (s : Bool) (z : ℤ) → Signed (not s) (neg_ℤ z) → Signed s z
from_back_not true z h = omega (arith, ints)
from_back_not false z h = omega (arith, ints)

-- a number doesn't have both signs
not_both : (s : Bool) (z : ℤ) → Signed s z → Signed (not s) z → ⊥
not_both true z h k = omega (arith, ints, h, k)
not_both false z h k = omega (arith, ints, h, k)

-- a sign put for an equal one
turn : (s t : Bool) (z : ℤ) → t ≡ s → Signed t z → Signed s z
turn s t z e h = subst (λ (r : Bool). Signed r z) e h

-- of three numbers that add up to nothing one is nothing
two_bc : (a b c : ℤ) → a +ℤ b +ℤ c ≡ pos 0 → a ≡ pos 0 → b +ℤ c ≡ pos 0
two_bc a b c e z = omega (arith, ints)

-- the second is
two_ca : (a b c : ℤ) → a +ℤ b +ℤ c ≡ pos 0 → b ≡ pos 0 → c +ℤ a ≡ pos 0
two_ca a b c e z = omega (arith, ints)

-- the third is
two_ab : (a b c : ℤ) → a +ℤ b +ℤ c ≡ pos 0 → c ≡ pos 0 → a +ℤ b ≡ pos 0
two_ab a b c e z = omega (arith, ints)

-- the others in the other order
swapped : (a b : ℤ) → a +ℤ b ≡ pos 0 → b +ℤ a ≡ pos 0
swapped a b e = omega (arith, ints)

-- of a count two shadows are nothing
rest_xz : (x y z w : ℤ) → x -ℤ y -ℤ z +ℤ w ≡ pos 0 → y ≡ pos 0 → w ≡ pos 0 → x ≡ z
rest_xz x y z w e f g = omega (arith, ints)

-- others are
rest_yz : (x y z w : ℤ) → x -ℤ y -ℤ z +ℤ w ≡ pos 0 → x ≡ pos 0 → w ≡ pos 0 → y +ℤ z ≡ pos 0
rest_yz x y z w e f g = omega (arith, ints)

-- others are
rest_xy : (x y z w : ℤ) → x -ℤ y -ℤ z +ℤ w ≡ pos 0 → z ≡ pos 0 → w ≡ pos 0 → x ≡ y
rest_xy x y z w e f g = omega (arith, ints)

-- others are
rest_wz : (x y z w : ℤ) → x -ℤ y -ℤ z +ℤ w ≡ pos 0 → x ≡ pos 0 → y ≡ pos 0 → w ≡ z
rest_wz x y z w e f g = omega (arith, ints)

-- others are
rest_xw : (x y z w : ℤ) → x -ℤ y -ℤ z +ℤ w ≡ pos 0 → y ≡ pos 0 → z ≡ pos 0 → x +ℤ w ≡ pos 0
rest_xw x y z w e f g = omega (arith, ints)

-- others are
rest_yw : (x y z w : ℤ) → x -ℤ y -ℤ z +ℤ w ≡ pos 0 → x ≡ pos 0 → z ≡ pos 0 → y ≡ w
rest_yw x y z w e f g = omega (arith, ints)

-- distances that can't be
pub no_order : (x y z w g : ℤ) → x -ℤ y ≡ g → z -ℤ w ≡ g → pos 0 <ℤ x → y <ℤ pos 0 → z <ℤ pos 0 → pos 0 <ℤ w → ⊥
no_order x y z w g e f h k l m = omega (arith, ints)

-- the areas and volumes, all of one sign
module _ {a1 a2 a3 b1 b2 b3 u v t whole va vb v1 v2 v3 : ℤ} (f : AreFive a1 a2 a3 b1 b2 b3 u v t whole va vb v1 v2 v3) (s : Bool) (ha : Signed s va) (hb : Signed s vb)
    (h1 : Signed s v1) (h2 : Signed s v2) (h3 : Signed s v3) where
  -- the areas of the edge with the three corners don't have one sign
  none_alike : (r : Bool) → Signed r u → Signed r v → Signed r t → ⊥
  none_alike r hu hv ht = not_alike s r v2 v3 v1 u v t f.ab h2 h3 h1 hu hv ht

  -- u by the two areas of a with the edges at it, and by those of b
  u_by_a : (q : Bool) → Signed q a1 → Signed (not q) a3 → Signed (not q) u
  u_by_a q k l = area_seen s q v3 v1 va a1 (neg_ℤ a3) u (omega (arith, ints, f.au)) h3 h1 ha k (back_not q a3 l)

  -- and by those of b
  u_by_b : (q : Bool) → Signed q b1 → Signed (not q) b3 → Signed q u
  u_by_b q k l = from_back_not q u (area_seen s q v3 v1 vb b1 (neg_ℤ b3) (neg_ℤ u) (omega (arith, ints, f.bu)) h3 h1 hb k (back_not q b3 l))

  -- t likewise
  t_by_a : (q : Bool) → Signed q a3 → Signed (not q) a2 → Signed (not q) t
  t_by_a q k l = area_seen s q v2 v3 va a3 (neg_ℤ a2) t (omega (arith, ints, f.at)) h2 h3 ha k (back_not q a2 l)

  -- and by b
  t_by_b : (q : Bool) → Signed q b3 → Signed (not q) b2 → Signed q t
  t_by_b q k l = from_back_not q t (area_seen s q v2 v3 vb b3 (neg_ℤ b2) (neg_ℤ t) (omega (arith, ints, f.bt)) h2 h3 hb k (back_not q b2 l))

  -- one corner on a side of both ends in x, the two others on the other
  pub lone_both : (ea1 ea3 eb1 eb3 k k' : ℤ) → k +ℤ k' ≡ pos 1 → Turned a1 ea1 k → Turned a3 ea3 k' → Turned b1 eb1 k → Turned b3 eb3 k' →
      ea1 +ℤ ea3 ≡ pos 0 → eb1 +ℤ eb3 ≡ pos 0 → ea1 ≡ eb1 → ⊥
  lone_both ea1 ea3 eb1 eb3 k k' w f1 f3 g1 g3 za zb e =
      let q = f1.side in
      let x3 : Signed (not q) a3 = turn (not q) f3.side a3 (other_bit q f3.side (omega (arith, ints, f1.value, f3.value, za, w))) f3.sign in
      let y1 : Signed q b1 = turn q g1.side b1 (same_bit g1.side q (omega (arith, ints, f1.value, g1.value, e))) g1.sign in
      let y3 : Signed (not q) b3 = turn (not q) g3.side b3 (other_bit q g3.side (omega (arith, ints, f1.value, g3.value, zb, e, w))) g3.sign in
      both q (area_seen s q vb va v1 a1 b1 (neg_ℤ whole) f.uv hb ha h1 f1.sign y1) (area_seen s (not q) vb va v3 a3 b3 (neg_ℤ whole) f.tu hb ha h3 x3 y3)
    where
      both : (q : Bool) → Signed (not q) (neg_ℤ whole) → Signed (not (not q)) (neg_ℤ whole) → ⊥
      both true h k = omega (arith, ints, h, k)
      both false h k = omega (arith, ints, h, k)

  -- one corner beside both ends, the two others between them: the end nearer to the one is a
  pub lone_a : (ea1 ea3 ev et k k' : ℤ) → k +ℤ k' ≡ pos 1 → Turned a1 ea1 k → Turned a3 ea3 k' → Turned v ev k' → Turned t et k' →
      ea1 +ℤ ea3 ≡ pos 0 → ea1 +ℤ ev ≡ pos 0 → ev ≡ et → ⊥
  lone_a ea1 ea3 ev et k k' w f1 f3 fv ft za e g =
      let q = f1.side in
      let x3 : Signed (not q) a3 = turn (not q) f3.side a3 (other_bit q f3.side (omega (arith, ints, f1.value, f3.value, za, w))) f3.sign in
      let xv : Signed (not q) v = turn (not q) fv.side v (other_bit q fv.side (omega (arith, ints, f1.value, fv.value, e, w))) fv.sign in
      let xt : Signed (not q) t = turn (not q) ft.side t (other_bit q ft.side (omega (arith, ints, f1.value, ft.value, e, g, w))) ft.sign in
      none_alike (not q) (u_by_a q f1.sign x3) xv xt

  -- or it is b
  pub lone_b : (eb1 eb3 ev et k k' : ℤ) → k +ℤ k' ≡ pos 1 → Turned b1 eb1 k → Turned b3 eb3 k' → Turned v ev k → Turned t et k →
      eb1 +ℤ eb3 ≡ pos 0 → eb1 ≡ ev → ev ≡ et → ⊥
  lone_b eb1 eb3 ev et k k' w f1 f3 fv ft zb e g =
      let q = f1.side in
      let x3 : Signed (not q) b3 = turn (not q) f3.side b3 (other_bit q f3.side (omega (arith, ints, f1.value, f3.value, zb, w))) f3.sign in
      let xv : Signed q v = turn q fv.side v (same_bit fv.side q (omega (arith, ints, f1.value, fv.value, e))) fv.sign in
      let xt : Signed q t = turn q ft.side t (same_bit ft.side q (omega (arith, ints, f1.value, ft.value, e, g))) ft.sign in
      none_alike q (u_by_b q f1.sign x3) xv xt

  -- one corner between the ends, one on each side: a is nearer to the first
  pub mid_a : (ea1 ea3 ev eb2 eb3 k k' : ℤ) → k +ℤ k' ≡ pos 1 → Turned a1 ea1 k → Turned a3 ea3 k' → Turned v ev k' → Turned b2 eb2 k → Turned b3 eb3 k' →
      ea1 +ℤ ea3 ≡ pos 0 → ea1 +ℤ ev ≡ pos 0 → eb2 +ℤ ev ≡ pos 0 → eb3 ≡ ea3 → ⊥
  mid_a ea1 ea3 ev eb2 eb3 k k' w f1 f3 fv g2 g3 za e g h =
      let q = f1.side in
      let x3 : Signed (not q) a3 = turn (not q) f3.side a3 (other_bit q f3.side (omega (arith, ints, f1.value, f3.value, za, w))) f3.sign in
      let xv : Signed (not q) v = turn (not q) fv.side v (other_bit q fv.side (omega (arith, ints, f1.value, fv.value, e, w))) fv.sign in
      let y2 : Signed q b2 = turn q g2.side b2 (same_bit g2.side q (omega (arith, ints, f1.value, g2.value, e, g))) g2.sign in
      let y3 : Signed (not q) b3 = turn (not q) g3.side b3 (other_bit q g3.side (omega (arith, ints, f1.value, g3.value, za, h, w))) g3.sign in
      none_alike (not q) (u_by_a q f1.sign x3) xv (t_by_b (not q) y3 (twice q b2 y2))
    where
      twice : (q : Bool) (z : ℤ) → Signed q z → Signed (not (not q)) z
      twice true z h = h
      twice false z h = h

  -- or b is
  pub mid_b : (eb1 eb3 ev ea2 ea3 k k' : ℤ) → k +ℤ k' ≡ pos 1 → Turned b1 eb1 k → Turned b3 eb3 k' → Turned v ev k → Turned a2 ea2 k → Turned a3 ea3 k' →
      eb1 +ℤ eb3 ≡ pos 0 → eb1 ≡ ev → ea2 ≡ ev → eb3 ≡ ea3 → ⊥
  mid_b eb1 eb3 ev ea2 ea3 k k' w f1 f3 fv g2 g3 zb e g h =
      let q = f1.side in
      let x3 : Signed (not q) b3 = turn (not q) f3.side b3 (other_bit q f3.side (omega (arith, ints, f1.value, f3.value, zb, w))) f3.sign in
      let xv : Signed q v = turn q fv.side v (same_bit fv.side q (omega (arith, ints, f1.value, fv.value, e))) fv.sign in
      let y2 : Signed q a2 = turn q g2.side a2 (same_bit g2.side q (omega (arith, ints, f1.value, g2.value, e, g))) g2.sign in
      let y3 : Signed (not q) a3 = turn (not q) g3.side a3 (other_bit q g3.side (omega (arith, ints, f1.value, g3.value, zb, h, w))) g3.sign in
      none_alike q (u_by_b q f1.sign x3) xv (once q t (t_by_a (not q) y3 (twice q a2 y2)))
    where
      twice : (q : Bool) (z : ℤ) → Signed q z → Signed (not (not q)) z
      twice true z h = h
      twice false z h = h

      once : (q : Bool) (z : ℤ) → Signed (not (not q)) z → Signed q z
      once true z h = h
      once false z h = h

  -- the last corner between the ends, the others on one side: a is nearer to these
  pub pair_a : (ea2 ea3 et k k' : ℤ) → k +ℤ k' ≡ pos 1 → Turned a2 ea2 k → Turned a3 ea3 k' → Turned t et k' → ea2 +ℤ ea3 ≡ pos 0 → ea2 +ℤ et ≡ pos 0 → ⊥
  pair_a ea2 ea3 et k k' w f2 f3 ft za e =
      let q = f2.side in
      let x3 : Signed (not q) a3 = turn (not q) f3.side a3 (other_bit q f3.side (omega (arith, ints, f2.value, f3.value, za, w))) f3.sign in
      let xt : Signed (not q) t = turn (not q) ft.side t (other_bit q ft.side (omega (arith, ints, f2.value, ft.value, e, w))) ft.sign in
      not_both (not q) t xt (t_by_a (not q) x3 (twice q a2 f2.sign))
    where
      twice : (q : Bool) (z : ℤ) → Signed q z → Signed (not (not q)) z
      twice true z h = h
      twice false z h = h

  -- or b is
  pub pair_b : (eb2 eb3 et k k' : ℤ) → k +ℤ k' ≡ pos 1 → Turned b2 eb2 k → Turned b3 eb3 k' → Turned t et k → eb2 +ℤ eb3 ≡ pos 0 → eb2 ≡ et → ⊥
  pair_b eb2 eb3 et k k' w f2 f3 ft zb e =
      let q = f2.side in
      let x3 : Signed (not q) b3 = turn (not q) f3.side b3 (other_bit q f3.side (omega (arith, ints, f2.value, f3.value, zb, w))) f3.sign in
      let xt : Signed q t = turn q ft.side t (same_bit ft.side q (omega (arith, ints, f2.value, ft.value, e))) ft.sign in
      not_both q t xt (t_by_b (not q) x3 (twice q b2 f2.sign))
    where
      twice : (q : Bool) (z : ℤ) → Signed q z → Signed (not (not q)) z
      twice true z h = h
      twice false z h = h

-- both ends, the distances in x of each from the corners, and the shadows of all pairs below
module _ {a1 a2 a3 b1 b2 b3 u v t whole va vb v1 v2 v3 : ℤ} (f : AreFive a1 a2 a3 b1 b2 b3 u v t whole va vb v1 v2 v3)
    (xau xav xat xbu xbv xbt g ea1 ea2 ea3 eb1 eb2 eb3 eu ev et : ℤ) (du : xau -ℤ xbu ≡ g) (dv : xav -ℤ xbv ≡ g) (dt : xat -ℤ xbt ≡ g)
    (da : v2 *ℤ xau +ℤ v3 *ℤ xav +ℤ v1 *ℤ xat ≡ va *ℤ g) (db : v2 *ℤ xbu +ℤ v3 *ℤ xbv +ℤ v1 *ℤ xbt ≡ vb *ℤ neg_ℤ g) where
  -- all corners on one side of both ends
  beside : (s r : Bool) → Signed r xau → Signed r xav → Signed r xat → Signed r xbu → Signed r xbv → Signed r xbt →
      Signed s va → Signed s vb → Signed s v1 → Signed s v2 → Signed s v3 → ⊥
  beside s r au av at bu bv bt ha hb h1 h2 h3 =
      by s r ha hb (products (like s r) s r v2 v3 v1 xau xav xat (va *ℤ g) refl da h2 h3 h1 au av at)
      (products (like s r) s r v2 v3 v1 xbu xbv xbt (vb *ℤ neg_ℤ g) refl db h2 h3 h1 bu bv bt) where
        by : (s r : Bool) → Signed s va → Signed s vb → Signed (like s r) (va *ℤ g) → Signed (like s r) (vb *ℤ neg_ℤ g) → ⊥
        by true true ha hb h k = omega (arith, ints, signed_factor true true va g ha h, signed_factor true true vb (neg_ℤ g) hb k)
        by true false ha hb h k = omega (arith, ints, signed_factor true false va g ha h, signed_factor true false vb (neg_ℤ g) hb k)
        by false true ha hb h k = omega (arith, ints, signed_factor false false va g ha h, signed_factor false false vb (neg_ℤ g) hb k)
        by false false ha hb h k = omega (arith, ints, signed_factor false true va g ha h, signed_factor false true vb (neg_ℤ g) hb k)

  -- if no count is other than 0, the volumes don't have one sign
  pub passes : (s au av at bu bv bt : Bool) → Signed au xau → Signed av xav → Signed at xat → Signed bu xbu → Signed bv xbv → Signed bt xbt →
      EdgeOf au av a1 ea1 → EdgeOf av at a2 ea2 → EdgeOf at au a3 ea3 → EdgeOf bu bv b1 eb1 → EdgeOf bv bt b2 eb2 → EdgeOf bt bu b3 eb3 →
      EdgeOf au bu u eu → EdgeOf av bv v ev → EdgeOf at bt t et →
      ea1 +ℤ ea2 +ℤ ea3 ≡ pos 0 → eb1 +ℤ eb2 +ℤ eb3 ≡ pos 0 → eb1 -ℤ ea1 -ℤ ev +ℤ eu ≡ pos 0 → eb2 -ℤ ea2 -ℤ et +ℤ ev ≡ pos 0 → eb3 -ℤ ea3 -ℤ eu +ℤ et ≡ pos 0 →
      Signed s va → Signed s vb → Signed s v1 → Signed s v2 → Signed s v3 → ⊥
  passes s true true true true true true ku kv kt lu lv lt f1 f2 f3 g1 g2 g3 fu fv ft na nb n1 n2 n3 ha hb h1 h2 h3 = beside s true ku kv kt lu lv lt ha hb h1 h2 h3
  passes s true true true true true false ku kv kt lu lv lt f1 f2 f3 g1 g2 g3 fu fv ft na nb n1 n2 n3 ha hb h1 h2 h3 = pair_b f s ha hb h1 h2 h3 eb2 eb3 et (pos 0) (pos 1)
      refl g2 g3 ft (two_bc eb1 eb2 eb3 nb g1) (rest_xz eb2 ea2 et ev n2 f2 fv)
  passes s true true true true false true ku kv kt lu lv lt f1 f2 f3 g1 g2 g3 fu fv ft na nb n1 n2 n3 ha hb h1 h2 h3 = pair_b (rotated (rotated f)) s ha hb h3 h1 h2 eb1 eb2
      ev (pos 0) (pos 1) refl g1 g2 fv (two_ab eb1 eb2 eb3 nb g3) (rest_xz eb1 ea1 ev eu n1 f1 fu)
  passes s true true true true false false ku kv kt lu lv lt f1 f2 f3 g1 g2 g3 fu fv ft na nb n1 n2 n3 ha hb h1 h2 h3 = lone_b f s ha hb h1 h2 h3 eb1 eb3 ev et (pos 0)
      (pos 1) refl g1 g3 fv ft (swapped eb3 eb1 (two_ca eb1 eb2 eb3 nb g2)) (rest_xz eb1 ea1 ev eu n1 f1 fu) (rest_wz eb2 ea2 et ev n2 g2 f2)
  passes s true true true false true true ku kv kt lu lv lt f1 f2 f3 g1 g2 g3 fu fv ft na nb n1 n2 n3 ha hb h1 h2 h3 = pair_b (rotated f) s ha hb h2 h3 h1 eb3 eb1 eu (pos 0)
      (pos 1) refl g3 g1 fu (two_ca eb1 eb2 eb3 nb g2) (rest_xz eb3 ea3 eu et n3 f3 ft)
  passes s true true true false true false ku kv kt lu lv lt f1 f2 f3 g1 g2 g3 fu fv ft na nb n1 n2 n3 ha hb h1 h2 h3 = lone_b (rotated f) s ha hb h2 h3 h1 eb2 eb1 et eu
      (pos 0) (pos 1) refl g2 g1 ft fu (swapped eb1 eb2 (two_ab eb1 eb2 eb3 nb g3)) (rest_xz eb2 ea2 et ev n2 f2 fv) (rest_wz eb3 ea3 eu et n3 g3 f3)
  passes s true true true false false true ku kv kt lu lv lt f1 f2 f3 g1 g2 g3 fu fv ft na nb n1 n2 n3 ha hb h1 h2 h3 = lone_b (rotated (rotated f)) s ha hb h3 h1 h2 eb3 eb2
      eu ev (pos 0) (pos 1) refl g3 g2 fu fv (swapped eb2 eb3 (two_bc eb1 eb2 eb3 nb g1)) (rest_xz eb3 ea3 eu et n3 f3 ft) (rest_wz eb1 ea1 ev eu n1 g1 f1)
  passes s true true true false false false ku kv kt lu lv lt f1 f2 f3 g1 g2 g3 fu fv ft na nb n1 n2 n3 ha hb h1 h2 h3 = single s v2 v3 v1 u v t eu ev et (pos 0) f.ab h2 h3
      h1 fu fv ft (rest_wz eb1 ea1 ev eu n1 g1 f1) (sym (rest_wz eb3 ea3 eu et n3 g3 f3))
  passes s true true false true true true ku kv kt lu lv lt f1 f2 f3 g1 g2 g3 fu fv ft na nb n1 n2 n3 ha hb h1 h2 h3 = pair_a f s ha hb h1 h2 h3 ea2 ea3 et (pos 0) (pos 1)
      refl f2 f3 ft (two_bc ea1 ea2 ea3 na f1) (rest_yz eb2 ea2 et ev n2 g2 fv)
  passes s true true false true true false ku kv kt lu lv lt f1 f2 f3 g1 g2 g3 fu fv ft na nb n1 n2 n3 ha hb h1 h2 h3 = lone_both (rotated (rotated f)) s ha hb h3 h1 h2 ea3
      ea2 eb3 eb2 (pos 1) (pos 0) refl f3 f2 g3 g2 (swapped ea2 ea3 (two_bc ea1 ea2 ea3 na f1)) (swapped eb2 eb3 (two_bc eb1 eb2 eb3 nb g1))
      (sym (rest_xy eb3 ea3 eu et n3 fu ft))
  passes s true true false true false true ku kv kt lu lv lt f1 f2 f3 g1 g2 g3 fu fv ft na nb n1 n2 n3 ha hb h1 h2 h3 = no_order xav xbv xat xbt g dv dt kv lv kt lt
  passes s true true false true false false ku kv kt lu lv lt f1 f2 f3 g1 g2 g3 fu fv ft na nb n1 n2 n3 ha hb h1 h2 h3 = mid_b f s ha hb h1 h2 h3 eb1 eb3 ev ea2 ea3 (pos 0)
      (pos 1) refl g1 g3 fv f2 f3 (swapped eb3 eb1 (two_ca eb1 eb2 eb3 nb g2)) (rest_xz eb1 ea1 ev eu n1 f1 fu) (rest_yw eb2 ea2 et ev n2 g2 ft) (rest_xy eb3 ea3 eu et n3 fu ft)
  passes s true true false false true true ku kv kt lu lv lt f1 f2 f3 g1 g2 g3 fu fv ft na nb n1 n2 n3 ha hb h1 h2 h3 = no_order xau xbu xat xbt g du dt ku lu kt lt
  passes s true true false false true false ku kv kt lu lv lt f1 f2 f3 g1 g2 g3 fu fv ft na nb n1 n2 n3 ha hb h1 h2 h3 = mid_a (rotated (rotated f)) s ha hb h3 h1 h2 ea3 ea2
      eu eb1 eb2 (pos 1) (pos 0) refl f3 f2 fu g1 g2 (swapped ea2 ea3 (two_bc ea1 ea2 ea3 na f1)) (rest_yz eb3 ea3 eu et n3 g3 ft) (rest_xw eb1 ea1 ev eu n1 f1 fv)
      (rest_xy eb2 ea2 et ev n2 ft fv)
  passes s true true false false false true ku kv kt lu lv lt f1 f2 f3 g1 g2 g3 fu fv ft na nb n1 n2 n3 ha hb h1 h2 h3 = no_order xau xbu xat xbt g du dt ku lu kt lt
  passes s true true false false false false ku kv kt lu lv lt f1 f2 f3 g1 g2 g3 fu fv ft na nb n1 n2 n3 ha hb h1 h2 h3 = lone_a (rotated (rotated f)) s ha hb h3 h1 h2 ea3
      ea2 eu ev (pos 1) (pos 0) refl f3 f2 fu fv (swapped ea2 ea3 (two_bc ea1 ea2 ea3 na f1)) (rest_yz eb3 ea3 eu et n3 g3 ft) (rest_wz eb1 ea1 ev eu n1 g1 f1)
  passes s true false true true true true ku kv kt lu lv lt f1 f2 f3 g1 g2 g3 fu fv ft na nb n1 n2 n3 ha hb h1 h2 h3 = pair_a (rotated (rotated f)) s ha hb h3 h1 h2 ea1 ea2
      ev (pos 0) (pos 1) refl f1 f2 fv (two_ab ea1 ea2 ea3 na f3) (rest_yz eb1 ea1 ev eu n1 g1 fu)
  passes s true false true true true false ku kv kt lu lv lt f1 f2 f3 g1 g2 g3 fu fv ft na nb n1 n2 n3 ha hb h1 h2 h3 = no_order xat xbt xav xbv g dt dv kt lt kv lv
  passes s true false true true false true ku kv kt lu lv lt f1 f2 f3 g1 g2 g3 fu fv ft na nb n1 n2 n3 ha hb h1 h2 h3 = lone_both (rotated f) s ha hb h2 h3 h1 ea2 ea1 eb2
      eb1 (pos 1) (pos 0) refl f2 f1 g2 g1 (swapped ea1 ea2 (two_ab ea1 ea2 ea3 na f3)) (swapped eb1 eb2 (two_ab eb1 eb2 eb3 nb g3)) (sym (rest_xy eb2 ea2 et ev n2 ft fv))
  passes s true false true true false false ku kv kt lu lv lt f1 f2 f3 g1 g2 g3 fu fv ft na nb n1 n2 n3 ha hb h1 h2 h3 = mid_a (rotated f) s ha hb h2 h3 h1 ea2 ea1 et eb3
      eb1 (pos 1) (pos 0) refl f2 f1 ft g3 g1 (swapped ea1 ea2 (two_ab ea1 ea2 ea3 na f3)) (rest_yz eb2 ea2 et ev n2 g2 fv) (rest_xw eb3 ea3 eu et n3 f3 fu)
      (rest_xy eb1 ea1 ev eu n1 fv fu)
  passes s true false true false true true ku kv kt lu lv lt f1 f2 f3 g1 g2 g3 fu fv ft na nb n1 n2 n3 ha hb h1 h2 h3 = no_order xau xbu xav xbv g du dv ku lu kv lv
  passes s true false true false true false ku kv kt lu lv lt f1 f2 f3 g1 g2 g3 fu fv ft na nb n1 n2 n3 ha hb h1 h2 h3 = no_order xau xbu xav xbv g du dv ku lu kv lv
  passes s true false true false false true ku kv kt lu lv lt f1 f2 f3 g1 g2 g3 fu fv ft na nb n1 n2 n3 ha hb h1 h2 h3 = mid_b (rotated (rotated f)) s ha hb h3 h1 h2 eb3 eb2
      eu ea1 ea2 (pos 0) (pos 1) refl g3 g2 fu f1 f2 (swapped eb2 eb3 (two_bc eb1 eb2 eb3 nb g1)) (rest_xz eb3 ea3 eu et n3 f3 ft) (rest_yw eb1 ea1 ev eu n1 g1 fv)
      (rest_xy eb2 ea2 et ev n2 ft fv)
  passes s true false true false false false ku kv kt lu lv lt f1 f2 f3 g1 g2 g3 fu fv ft na nb n1 n2 n3 ha hb h1 h2 h3 = lone_a (rotated f) s ha hb h2 h3 h1 ea2 ea1 et eu
      (pos 1) (pos 0) refl f2 f1 ft fu (swapped ea1 ea2 (two_ab ea1 ea2 ea3 na f3)) (rest_yz eb2 ea2 et ev n2 g2 fv) (rest_wz eb3 ea3 eu et n3 g3 f3)
  passes s true false false true true true ku kv kt lu lv lt f1 f2 f3 g1 g2 g3 fu fv ft na nb n1 n2 n3 ha hb h1 h2 h3 = lone_a f s ha hb h1 h2 h3 ea1 ea3 ev et (pos 0)
      (pos 1) refl f1 f3 fv ft (swapped ea3 ea1 (two_ca ea1 ea2 ea3 na f2)) (rest_yz eb1 ea1 ev eu n1 g1 fu) (rest_wz eb2 ea2 et ev n2 g2 f2)
  passes s true false false true true false ku kv kt lu lv lt f1 f2 f3 g1 g2 g3 fu fv ft na nb n1 n2 n3 ha hb h1 h2 h3 = mid_a f s ha hb h1 h2 h3 ea1 ea3 ev eb2 eb3 (pos 0)
      (pos 1) refl f1 f3 fv g2 g3 (swapped ea3 ea1 (two_ca ea1 ea2 ea3 na f2)) (rest_yz eb1 ea1 ev eu n1 g1 fu) (rest_xw eb2 ea2 et ev n2 f2 ft) (rest_xy eb3 ea3 eu et n3 fu ft)
  passes s true false false true false true ku kv kt lu lv lt f1 f2 f3 g1 g2 g3 fu fv ft na nb n1 n2 n3 ha hb h1 h2 h3 = mid_b (rotated f) s ha hb h2 h3 h1 eb2 eb1 et ea3
      ea1 (pos 1) (pos 0) refl g2 g1 ft f3 f1 (swapped eb1 eb2 (two_ab eb1 eb2 eb3 nb g3)) (rest_xz eb2 ea2 et ev n2 f2 fv) (rest_yw eb3 ea3 eu et n3 g3 fu)
      (rest_xy eb1 ea1 ev eu n1 fv fu)
  passes s true false false true false false ku kv kt lu lv lt f1 f2 f3 g1 g2 g3 fu fv ft na nb n1 n2 n3 ha hb h1 h2 h3 = lone_both f s ha hb h1 h2 h3 ea1 ea3 eb1 eb3
      (pos 0) (pos 1) refl f1 f3 g1 g3 (swapped ea3 ea1 (two_ca ea1 ea2 ea3 na f2)) (swapped eb3 eb1 (two_ca eb1 eb2 eb3 nb g2)) (sym (rest_xy eb1 ea1 ev eu n1 fv fu))
  passes s true false false false true true ku kv kt lu lv lt f1 f2 f3 g1 g2 g3 fu fv ft na nb n1 n2 n3 ha hb h1 h2 h3 = no_order xau xbu xav xbv g du dv ku lu kv lv
  passes s true false false false true false ku kv kt lu lv lt f1 f2 f3 g1 g2 g3 fu fv ft na nb n1 n2 n3 ha hb h1 h2 h3 = no_order xau xbu xav xbv g du dv ku lu kv lv
  passes s true false false false false true ku kv kt lu lv lt f1 f2 f3 g1 g2 g3 fu fv ft na nb n1 n2 n3 ha hb h1 h2 h3 = no_order xau xbu xat xbt g du dt ku lu kt lt
  passes s true false false false false false ku kv kt lu lv lt f1 f2 f3 g1 g2 g3 fu fv ft na nb n1 n2 n3 ha hb h1 h2 h3 = pair_a (rotated f) s ha hb h2 h3 h1 ea3 ea1 eu
      (pos 1) (pos 0) refl f3 f1 fu (two_ca ea1 ea2 ea3 na f2) (rest_yz eb3 ea3 eu et n3 g3 ft)
  passes s false true true true true true ku kv kt lu lv lt f1 f2 f3 g1 g2 g3 fu fv ft na nb n1 n2 n3 ha hb h1 h2 h3 = pair_a (rotated f) s ha hb h2 h3 h1 ea3 ea1 eu (pos 0)
      (pos 1) refl f3 f1 fu (two_ca ea1 ea2 ea3 na f2) (rest_yz eb3 ea3 eu et n3 g3 ft)
  passes s false true true true true false ku kv kt lu lv lt f1 f2 f3 g1 g2 g3 fu fv ft na nb n1 n2 n3 ha hb h1 h2 h3 = no_order xat xbt xau xbu g dt du kt lt ku lu
  passes s false true true true false true ku kv kt lu lv lt f1 f2 f3 g1 g2 g3 fu fv ft na nb n1 n2 n3 ha hb h1 h2 h3 = no_order xav xbv xau xbu g dv du kv lv ku lu
  passes s false true true true false false ku kv kt lu lv lt f1 f2 f3 g1 g2 g3 fu fv ft na nb n1 n2 n3 ha hb h1 h2 h3 = no_order xav xbv xau xbu g dv du kv lv ku lu
  passes s false true true false true true ku kv kt lu lv lt f1 f2 f3 g1 g2 g3 fu fv ft na nb n1 n2 n3 ha hb h1 h2 h3 = lone_both f s ha hb h1 h2 h3 ea1 ea3 eb1 eb3 (pos 1)
      (pos 0) refl f1 f3 g1 g3 (swapped ea3 ea1 (two_ca ea1 ea2 ea3 na f2)) (swapped eb3 eb1 (two_ca eb1 eb2 eb3 nb g2)) (sym (rest_xy eb1 ea1 ev eu n1 fv fu))
  passes s false true true false true false ku kv kt lu lv lt f1 f2 f3 g1 g2 g3 fu fv ft na nb n1 n2 n3 ha hb h1 h2 h3 = mid_b (rotated f) s ha hb h2 h3 h1 eb2 eb1 et ea3
      ea1 (pos 0) (pos 1) refl g2 g1 ft f3 f1 (swapped eb1 eb2 (two_ab eb1 eb2 eb3 nb g3)) (rest_xz eb2 ea2 et ev n2 f2 fv) (rest_yw eb3 ea3 eu et n3 g3 fu)
      (rest_xy eb1 ea1 ev eu n1 fv fu)
  passes s false true true false false true ku kv kt lu lv lt f1 f2 f3 g1 g2 g3 fu fv ft na nb n1 n2 n3 ha hb h1 h2 h3 = mid_a f s ha hb h1 h2 h3 ea1 ea3 ev eb2 eb3 (pos 1)
      (pos 0) refl f1 f3 fv g2 g3 (swapped ea3 ea1 (two_ca ea1 ea2 ea3 na f2)) (rest_yz eb1 ea1 ev eu n1 g1 fu) (rest_xw eb2 ea2 et ev n2 f2 ft) (rest_xy eb3 ea3 eu et n3 fu ft)
  passes s false true true false false false ku kv kt lu lv lt f1 f2 f3 g1 g2 g3 fu fv ft na nb n1 n2 n3 ha hb h1 h2 h3 = lone_a f s ha hb h1 h2 h3 ea1 ea3 ev et (pos 1)
      (pos 0) refl f1 f3 fv ft (swapped ea3 ea1 (two_ca ea1 ea2 ea3 na f2)) (rest_yz eb1 ea1 ev eu n1 g1 fu) (rest_wz eb2 ea2 et ev n2 g2 f2)
  passes s false true false true true true ku kv kt lu lv lt f1 f2 f3 g1 g2 g3 fu fv ft na nb n1 n2 n3 ha hb h1 h2 h3 = lone_a (rotated f) s ha hb h2 h3 h1 ea2 ea1 et eu
      (pos 0) (pos 1) refl f2 f1 ft fu (swapped ea1 ea2 (two_ab ea1 ea2 ea3 na f3)) (rest_yz eb2 ea2 et ev n2 g2 fv) (rest_wz eb3 ea3 eu et n3 g3 f3)
  passes s false true false true true false ku kv kt lu lv lt f1 f2 f3 g1 g2 g3 fu fv ft na nb n1 n2 n3 ha hb h1 h2 h3 = mid_b (rotated (rotated f)) s ha hb h3 h1 h2 eb3 eb2
      eu ea1 ea2 (pos 1) (pos 0) refl g3 g2 fu f1 f2 (swapped eb2 eb3 (two_bc eb1 eb2 eb3 nb g1)) (rest_xz eb3 ea3 eu et n3 f3 ft) (rest_yw eb1 ea1 ev eu n1 g1 fv)
      (rest_xy eb2 ea2 et ev n2 ft fv)
  passes s false true false true false true ku kv kt lu lv lt f1 f2 f3 g1 g2 g3 fu fv ft na nb n1 n2 n3 ha hb h1 h2 h3 = no_order xav xbv xau xbu g dv du kv lv ku lu
  passes s false true false true false false ku kv kt lu lv lt f1 f2 f3 g1 g2 g3 fu fv ft na nb n1 n2 n3 ha hb h1 h2 h3 = no_order xav xbv xau xbu g dv du kv lv ku lu
  passes s false true false false true true ku kv kt lu lv lt f1 f2 f3 g1 g2 g3 fu fv ft na nb n1 n2 n3 ha hb h1 h2 h3 = mid_a (rotated f) s ha hb h2 h3 h1 ea2 ea1 et eb3
      eb1 (pos 0) (pos 1) refl f2 f1 ft g3 g1 (swapped ea1 ea2 (two_ab ea1 ea2 ea3 na f3)) (rest_yz eb2 ea2 et ev n2 g2 fv) (rest_xw eb3 ea3 eu et n3 f3 fu)
      (rest_xy eb1 ea1 ev eu n1 fv fu)
  passes s false true false false true false ku kv kt lu lv lt f1 f2 f3 g1 g2 g3 fu fv ft na nb n1 n2 n3 ha hb h1 h2 h3 = lone_both (rotated f) s ha hb h2 h3 h1 ea2 ea1 eb2
      eb1 (pos 0) (pos 1) refl f2 f1 g2 g1 (swapped ea1 ea2 (two_ab ea1 ea2 ea3 na f3)) (swapped eb1 eb2 (two_ab eb1 eb2 eb3 nb g3)) (sym (rest_xy eb2 ea2 et ev n2 ft fv))
  passes s false true false false false true ku kv kt lu lv lt f1 f2 f3 g1 g2 g3 fu fv ft na nb n1 n2 n3 ha hb h1 h2 h3 = no_order xav xbv xat xbt g dv dt kv lv kt lt
  passes s false true false false false false ku kv kt lu lv lt f1 f2 f3 g1 g2 g3 fu fv ft na nb n1 n2 n3 ha hb h1 h2 h3 = pair_a (rotated (rotated f)) s ha hb h3 h1 h2 ea1
      ea2 ev (pos 1) (pos 0) refl f1 f2 fv (two_ab ea1 ea2 ea3 na f3) (rest_yz eb1 ea1 ev eu n1 g1 fu)
  passes s false false true true true true ku kv kt lu lv lt f1 f2 f3 g1 g2 g3 fu fv ft na nb n1 n2 n3 ha hb h1 h2 h3 = lone_a (rotated (rotated f)) s ha hb h3 h1 h2 ea3 ea2
      eu ev (pos 0) (pos 1) refl f3 f2 fu fv (swapped ea2 ea3 (two_bc ea1 ea2 ea3 na f1)) (rest_yz eb3 ea3 eu et n3 g3 ft) (rest_wz eb1 ea1 ev eu n1 g1 f1)
  passes s false false true true true false ku kv kt lu lv lt f1 f2 f3 g1 g2 g3 fu fv ft na nb n1 n2 n3 ha hb h1 h2 h3 = no_order xat xbt xau xbu g dt du kt lt ku lu
  passes s false false true true false true ku kv kt lu lv lt f1 f2 f3 g1 g2 g3 fu fv ft na nb n1 n2 n3 ha hb h1 h2 h3 = mid_a (rotated (rotated f)) s ha hb h3 h1 h2 ea3 ea2
      eu eb1 eb2 (pos 0) (pos 1) refl f3 f2 fu g1 g2 (swapped ea2 ea3 (two_bc ea1 ea2 ea3 na f1)) (rest_yz eb3 ea3 eu et n3 g3 ft) (rest_xw eb1 ea1 ev eu n1 f1 fv)
      (rest_xy eb2 ea2 et ev n2 ft fv)
  passes s false false true true false false ku kv kt lu lv lt f1 f2 f3 g1 g2 g3 fu fv ft na nb n1 n2 n3 ha hb h1 h2 h3 = no_order xat xbt xau xbu g dt du kt lt ku lu
  passes s false false true false true true ku kv kt lu lv lt f1 f2 f3 g1 g2 g3 fu fv ft na nb n1 n2 n3 ha hb h1 h2 h3 = mid_b f s ha hb h1 h2 h3 eb1 eb3 ev ea2 ea3 (pos 1)
      (pos 0) refl g1 g3 fv f2 f3 (swapped eb3 eb1 (two_ca eb1 eb2 eb3 nb g2)) (rest_xz eb1 ea1 ev eu n1 f1 fu) (rest_yw eb2 ea2 et ev n2 g2 ft) (rest_xy eb3 ea3 eu et n3 fu ft)
  passes s false false true false true false ku kv kt lu lv lt f1 f2 f3 g1 g2 g3 fu fv ft na nb n1 n2 n3 ha hb h1 h2 h3 = no_order xat xbt xav xbv g dt dv kt lt kv lv
  passes s false false true false false true ku kv kt lu lv lt f1 f2 f3 g1 g2 g3 fu fv ft na nb n1 n2 n3 ha hb h1 h2 h3 = lone_both (rotated (rotated f)) s ha hb h3 h1 h2
      ea3 ea2 eb3 eb2 (pos 0) (pos 1) refl f3 f2 g3 g2 (swapped ea2 ea3 (two_bc ea1 ea2 ea3 na f1)) (swapped eb2 eb3 (two_bc eb1 eb2 eb3 nb g1))
      (sym (rest_xy eb3 ea3 eu et n3 fu ft))
  passes s false false true false false false ku kv kt lu lv lt f1 f2 f3 g1 g2 g3 fu fv ft na nb n1 n2 n3 ha hb h1 h2 h3 = pair_a f s ha hb h1 h2 h3 ea2 ea3 et (pos 1)
      (pos 0) refl f2 f3 ft (two_bc ea1 ea2 ea3 na f1) (rest_yz eb2 ea2 et ev n2 g2 fv)
  passes s false false false true true true ku kv kt lu lv lt f1 f2 f3 g1 g2 g3 fu fv ft na nb n1 n2 n3 ha hb h1 h2 h3 = single s v2 v3 v1 u v t eu ev et (pos 1) f.ab h2 h3
      h1 fu fv ft (rest_wz eb1 ea1 ev eu n1 g1 f1) (sym (rest_wz eb3 ea3 eu et n3 g3 f3))
  passes s false false false true true false ku kv kt lu lv lt f1 f2 f3 g1 g2 g3 fu fv ft na nb n1 n2 n3 ha hb h1 h2 h3 = lone_b (rotated (rotated f)) s ha hb h3 h1 h2 eb3
      eb2 eu ev (pos 1) (pos 0) refl g3 g2 fu fv (swapped eb2 eb3 (two_bc eb1 eb2 eb3 nb g1)) (rest_xz eb3 ea3 eu et n3 f3 ft) (rest_wz eb1 ea1 ev eu n1 g1 f1)
  passes s false false false true false true ku kv kt lu lv lt f1 f2 f3 g1 g2 g3 fu fv ft na nb n1 n2 n3 ha hb h1 h2 h3 = lone_b (rotated f) s ha hb h2 h3 h1 eb2 eb1 et eu
      (pos 1) (pos 0) refl g2 g1 ft fu (swapped eb1 eb2 (two_ab eb1 eb2 eb3 nb g3)) (rest_xz eb2 ea2 et ev n2 f2 fv) (rest_wz eb3 ea3 eu et n3 g3 f3)
  passes s false false false true false false ku kv kt lu lv lt f1 f2 f3 g1 g2 g3 fu fv ft na nb n1 n2 n3 ha hb h1 h2 h3 = pair_b (rotated f) s ha hb h2 h3 h1 eb3 eb1 eu
      (pos 1) (pos 0) refl g3 g1 fu (two_ca eb1 eb2 eb3 nb g2) (rest_xz eb3 ea3 eu et n3 f3 ft)
  passes s false false false false true true ku kv kt lu lv lt f1 f2 f3 g1 g2 g3 fu fv ft na nb n1 n2 n3 ha hb h1 h2 h3 = lone_b f s ha hb h1 h2 h3 eb1 eb3 ev et (pos 1)
      (pos 0) refl g1 g3 fv ft (swapped eb3 eb1 (two_ca eb1 eb2 eb3 nb g2)) (rest_xz eb1 ea1 ev eu n1 f1 fu) (rest_wz eb2 ea2 et ev n2 g2 f2)
  passes s false false false false true false ku kv kt lu lv lt f1 f2 f3 g1 g2 g3 fu fv ft na nb n1 n2 n3 ha hb h1 h2 h3 = pair_b (rotated (rotated f)) s ha hb h3 h1 h2 eb1
      eb2 ev (pos 1) (pos 0) refl g1 g2 fv (two_ab eb1 eb2 eb3 nb g3) (rest_xz eb1 ea1 ev eu n1 f1 fu)
  passes s false false false false false true ku kv kt lu lv lt f1 f2 f3 g1 g2 g3 fu fv ft na nb n1 n2 n3 ha hb h1 h2 h3 = pair_b f s ha hb h1 h2 h3 eb2 eb3 et (pos 1)
      (pos 0) refl g2 g3 ft (two_bc eb1 eb2 eb3 nb g1) (rest_xz eb2 ea2 et ev n2 f2 fv)
  passes s false false false false false false ku kv kt lu lv lt f1 f2 f3 g1 g2 g3 fu fv ft na nb n1 n2 n3 ha hb h1 h2 h3 = beside s false ku kv kt lu lv lt ha hb h1 h2 h3
