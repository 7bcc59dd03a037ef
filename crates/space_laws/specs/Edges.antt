-- Shadows of a vertex and an edge by the side of the vertex in x and the sign of an area; and the count of a vertex and a face: the plane lemma.
use Rattle.std.specs.Prelude.{◌≡◌, ℤ, pos, neg_ℤ, ◌+ℤ◌, ◌-ℤ◌, ◌*ℤ◌, Bool, true, false, not, ◌⊎◌}
use Rattle.std.proofs.Common.{arith, refl, inl, inr}
use Rattle.std.proofs.lemmas.Int.{ints}
use Rattle.plane_laws.specs.Signs.{Signed, signed_mul, third_below, third_above, neg_signed}
use Rattle.plane_laws.specs.Bits.{bit, bit_shadow, SeenBy}
use Rattle.space_laws.specs.Volumes.{unit}

-- an edge that is crossed in x: the area has a sign, and the shadow is 1 or 0, less k
pub record Turned (a e k : ℤ) : Type 0 where
  pub side : Bool
  pub sign : Signed side a
  pub value : e ≡ bit side -ℤ k

-- the shadow e of a vertex and an edge of area a, by whether the vertex is past the first end and past the second
abbrev pub EdgeOf : Bool → Bool → ℤ → ℤ → Type 0
EdgeOf true true a e = e ≡ pos 0
EdgeOf false false a e = e ≡ pos 0
EdgeOf true false a e = Turned a e (pos 0)
EdgeOf false true a e = Turned a e (pos 1)

-- the bit of the other sign
pub bit_not : (s : Bool) → bit (not s) ≡ pos 1 -ℤ bit s
bit_not true = refl
bit_not false = refl

-- the sign of a negative
signed_back : (s : Bool) (z : ℤ) → Signed s (neg_ℤ z) → Signed (not s) z
signed_back true z h = omega (arith, ints)
signed_back false z h = omega (arith, ints)

-- the edge the other way round
pub turned_back : (a e k k' : ℤ) → k +ℤ k' ≡ pos 1 → Turned a e k → Turned (neg_ℤ a) (neg_ℤ e) k'
turned_back a e k k' s t = record { side = not t.side; sign = neg_signed t.side a t.sign; value = omega (arith, ints, s, t.value, bit_not t.side) }

-- so the shadow of an edge the other way round is the negative
pub edge_back : (b c : Bool) (a e : ℤ) → EdgeOf b c a e → EdgeOf c b (neg_ℤ a) (neg_ℤ e)
edge_back true true a e h = omega (arith, ints, h)
edge_back false false a e h = omega (arith, ints, h)
edge_back true false a e h = turned_back a e (pos 0) (pos 1) refl h
edge_back false true a e h = turned_back a e (pos 1) (pos 0) refl h

-- what marks say is so
pub edge_seen : (b c t : Bool) (a : ℤ) → SeenBy b c t a (neg_ℤ a) → EdgeOf b c a (bit_shadow b c t)
edge_seen true true t a h = refl
edge_seen false false t a h = refl
edge_seen true false t a h = record { side = t; sign = h; value = omega (arith, ints) }
edge_seen false true t a h = record { side = not t; sign = signed_back t a h; value = omega (arith, ints, bit_not t) }

-- the vertex lies in the face, which turns left or right, and the count says which
pub record Within (k l m n : ℤ) : Type 0 where
  pub side : Bool
  pub first : Signed side k
  pub second : Signed side l
  pub third : Signed side m
  pub count : n ≡ unit side

-- two crossed edges and a third: either the two shadows cancel, or all three areas have one sign
two_crossed : (a b c ea eb ec k k' : ℤ) → k +ℤ k' ≡ pos 1 → ((r : Bool) → Signed r a → Signed r b → Signed r c) → Turned a ea k → Turned b eb k' → ec ≡ pos 0 →
    (ea +ℤ eb +ℤ ec ≡ pos 0) ⊎ Within a b c (ea +ℤ eb +ℤ ec)
two_crossed a b c ea eb ec k k' s f h g z = by h.side g.side h.sign g.sign h.value g.value where
  by : (q r : Bool) → Signed q a → Signed r b → ea ≡ bit q -ℤ k → eb ≡ bit r -ℤ k' → (ea +ℤ eb +ℤ ec ≡ pos 0) ⊎ Within a b c (ea +ℤ eb +ℤ ec)
  by true true i j e d = inr (record { side = true; first = i; second = j; third = f true i j; count = omega (arith, ints, s, e, d, z) })
  by false false i j e d = inr (record { side = false; first = i; second = j; third = f false i j; count = omega (arith, ints, s, e, d, z) })
  by true false i j e d = inl (omega (arith, ints, s, e, d, z))
  by false true i j e d = inl (omega (arith, ints, s, e, d, z))

-- a corner that lies alone on its side in x: the sign of the areas at it is that of the third
lone : (s r : Bool) (x y w k l m : ℤ) → x *ℤ k +ℤ y *ℤ l +ℤ w *ℤ m ≡ pos 0 → Signed (not s) x → Signed (not s) y → Signed s w → Signed r k → Signed r l → Signed r m
lone true r x y w k l m e hx hy hw hk hl = third_above r x k y l w m e (signed_mul false r x k hx hk) (signed_mul false r y l hy hl) hw
lone false r x y w k l m e hx hy hw hk hl = third_below r x k y l w m e (signed_mul true r x k hx hk) (signed_mul true r y l hy hl) hw

-- the areas in another order
moved_on : (a b c n m : ℤ) → n ≡ m → (n ≡ pos 0) ⊎ Within a b c n → (m ≡ pos 0) ⊎ Within b c a m
moved_on a b c n m e (inl z) = inl (omega (arith, ints, e, z))
moved_on a b c n m e (inr w) = inr (record { side = w.side; first = w.second; second = w.third; third = w.first; count = omega (arith, ints, e, w.count) })

-- and moved on once more
moved_back : (a b c n m : ℤ) → n ≡ m → (n ≡ pos 0) ⊎ Within a b c n → (m ≡ pos 0) ⊎ Within c a b m
moved_back a b c n m e (inl z) = inl (omega (arith, ints, e, z))
moved_back a b c n m e (inr w) = inr (record { side = w.side; first = w.third; second = w.first; third = w.second; count = omega (arith, ints, e, w.count) })

-- the plane lemma: the count of a vertex and a face is 0, or the vertex lies in the face and the count is 1 or -1 by the way that the face turns
pub plane : (u v w : Bool) (xu xv xw a b c ea eb ec : ℤ) → xw *ℤ a +ℤ xu *ℤ b +ℤ xv *ℤ c ≡ pos 0 → Signed u xu → Signed v xv → Signed w xw →
    EdgeOf u v a ea → EdgeOf v w b eb → EdgeOf w u c ec → (ea +ℤ eb +ℤ ec ≡ pos 0) ⊎ Within a b c (ea +ℤ eb +ℤ ec)
plane true true true xu xv xw a b c ea eb ec e hu hv hw f g h = inl (omega (arith, ints, f, g, h))
plane false false false xu xv xw a b c ea eb ec e hu hv hw f g h = inl (omega (arith, ints, f, g, h))
plane true false false xu xv xw a b c ea eb ec e hu hv hw f g h =
    moved_on c a b _ _ (omega (arith, ints)) (two_crossed c a b ec ea eb (pos 1) (pos 0) refl (λ r i j. lone true r xv xw xu c a b (omega (arith, ints, e)) hv hw hu i j) h f g)
plane false true true xu xv xw a b c ea eb ec e hu hv hw f g h =
    moved_on c a b _ _ (omega (arith, ints)) (two_crossed c a b ec ea eb (pos 0) (pos 1) refl (λ r i j. lone false r xv xw xu c a b (omega (arith, ints, e)) hv hw hu i j) h f g)
plane false true false xu xv xw a b c ea eb ec e hu hv hw f g h =
    two_crossed a b c ea eb ec (pos 1) (pos 0) refl (λ r i j. lone true r xw xu xv a b c (omega (arith, ints, e)) hw hu hv i j) f g h
plane true false true xu xv xw a b c ea eb ec e hu hv hw f g h =
    two_crossed a b c ea eb ec (pos 0) (pos 1) refl (λ r i j. lone false r xw xu xv a b c (omega (arith, ints, e)) hw hu hv i j) f g h
plane false false true xu xv xw a b c ea eb ec e hu hv hw f g h =
    moved_back b c a _ _ (omega (arith, ints)) (two_crossed b c a eb ec ea (pos 1) (pos 0) refl (λ r i j. lone true r xu xv xw b c a (omega (arith, ints, e)) hu hv hw i j) g h f)
plane true true false xu xv xw a b c ea eb ec e hu hv hw f g h =
    moved_back b c a _ _ (omega (arith, ints)) (two_crossed b c a eb ec ea (pos 0) (pos 1) refl (λ r i j. lone false r xu xv xw b c a (omega (arith, ints, e)) hu hv hw i j) g h f)
