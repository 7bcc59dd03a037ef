-- Counts by bits: which vertices lie past which in x, and which pairs count as above. A count other than 0 places the simplices in the plane.
use Rattle.std.specs.Prelude.{◌≡◌, ◌≢◌, ℤ, pos, neg_ℤ, ◌+ℤ◌, ◌-ℤ◌, ◌*ℤ◌, Bool, true, false, not}
use Rattle.std.proofs.Common.{arith, refl}
use Rattle.std.proofs.lemmas.Int.{ints}
use Rattle.chain_terms.specs.Chains.{one_if}
use Rattle.plane_laws.specs.Signs.{Signed, signed_mul, third_below, third_above}
use Rattle.plane_laws.specs.Areas.{Place, area}
use Rattle.plane_laws.specs.Meetings.{IsMeeting, meeting_back, meeting_turned, meeting_between, meeting_mixed}

-- a bit as a number
abbrev pub bit : Bool → ℤ
bit t = pos (one_if t)

-- the shadow of a vertex and an edge: by whether the vertex is past the first end and past the second, and whether the pair is above
abbrev pub bit_shadow : Bool → Bool → Bool → ℤ
bit_shadow true false u = bit u
bit_shadow false true u = neg_ℤ (bit u)
bit_shadow true true u = pos 0
bit_shadow false false u = pos 0

-- what it says whether the pair is above: the sign of the area of the edge from left to right and the vertex, whichever end is the left one
abbrev pub SeenBy : Bool → Bool → Bool → ℤ → ℤ → Type 0
SeenBy true false u z z' = Signed u z
SeenBy false true u z z' = Signed u z'
SeenBy true true u z z' = Unit {0}
SeenBy false false u z z' = Unit {0}

-- two marks that would make a number 0 if they were alike are opposite
opposed : (t t' : Bool) (n z : ℤ) → n ≢ pos 0 → (bit t ≡ bit t' → n ≡ pos 0) → Signed t' z → Signed (not t) z
opposed true true n z some f h = absurd (some (f refl))
opposed true false n z some f h = h
opposed false true n z some f h = h
opposed false false n z some f h = absurd (some (f refl))

-- an area with two places exchanged
area_turned : (t : Bool) (x y v : Place) → Signed t (area x y v) → Signed (not t) (area y x v)
area_turned true x y v h = omega (arith, ints)
area_turned false x y v h = omega (arith, ints)

-- and back
area_back : (t : Bool) (x y v : Place) → Signed (not t) (area x y v) → Signed t (area y x v)
area_back true x y v h = omega (arith, ints)
area_back false x y v h = omega (arith, ints)

-- the second edge turned
meeting_flipped : (a b c d : Place) → IsMeeting a b d c → IsMeeting a b c d
meeting_flipped a b c d h = meeting_back a b c d (meeting_turned c d a b (meeting_back d c a b h))

-- the count of two edges, by the bits of the four ends
abbrev pub edges_bits : Bool → Bool → Bool → Bool → Bool → Bool → Bool → Bool → ℤ
edges_bits ac ad bc bd ta tb tc td = bit_shadow bc bd tb +ℤ (neg_ℤ (bit_shadow ac ad ta) +ℤ (bit_shadow bd ad td +ℤ (neg_ℤ (bit_shadow bc ac tc) +ℤ pos 0)))

-- edges with a count other than 0 meet
pub edges_meet : (a b c d : Place) (ac ad bc bd ta tb tc td : Bool) → Signed ac (a.x -ℤ c.x) → Signed ad (a.x -ℤ d.x) → Signed bc (b.x -ℤ c.x) → Signed bd (b.x -ℤ d.x) →
    SeenBy ac ad ta (area c d a) (area d c a) → SeenBy bc bd tb (area c d b) (area d c b) → SeenBy ac bc tc (area a b c) (area b a c) → SeenBy ad bd td (area a b d) (area b a d) →
    edges_bits ac ad bc bd ta tb tc td ≢ pos 0 → IsMeeting a b c d
edges_meet a b c d true true true true ta tb tc td ac ad bc bd ha hb hc hd n = absurd (n (omega (arith, ints)))
edges_meet a b c d false false false false ta tb tc td ac ad bc bd ha hb hc hd n = absurd (n (omega (arith, ints)))
edges_meet a b c d true false false true ta tb tc td ac ad bc bd ha hb hc hd n = absurd (omega (arith, ints, ac, ad, bc, bd))
edges_meet a b c d false true true false ta tb tc td ac ad bc bd ha hb hc hd n = absurd (omega (arith, ints, ac, ad, bc, bd))
edges_meet a b c d true false true false ta tb tc td ac ad bc bd ha hb hc hd n =
    meeting_between tb a b c d (omega (arith, ints)) (omega (arith, ints)) (omega (arith, ints)) (omega (arith, ints))
    (opposed tb ta _ (area c d a) n (λ e. omega (arith, ints)) ha) hb
edges_meet a b c d false true false true ta tb tc td ac ad bc bd ha hb hc hd n =
    meeting_flipped a b c d (meeting_between tb a b d c (omega (arith, ints)) (omega (arith, ints)) (omega (arith, ints)) (omega (arith, ints))
    (opposed tb ta _ (area d c a) n (λ e. omega (arith, ints)) ha) hb)
edges_meet a b c d true true false false ta tb tc td ac ad bc bd ha hb hc hd n =
    meeting_turned a b c d (meeting_back b a c d
    (meeting_between tc c d b a (omega (arith, ints)) (omega (arith, ints)) (omega (arith, ints)) (omega (arith, ints)) (area_turned tc a b c hc)
    (area_back tc a b d (opposed tc td _ (area a b d) n (λ e. omega (arith, ints)) hd))))
edges_meet a b c d false false true true ta tb tc td ac ad bc bd ha hb hc hd n =
    meeting_back a b c d (meeting_between tc c d a b (omega (arith, ints)) (omega (arith, ints)) (omega (arith, ints)) (omega (arith, ints)) (area_turned tc b a c hc)
    (area_back tc b a d (opposed tc td _ (area b a d) n (λ e. omega (arith, ints)) hd)))
edges_meet a b c d true false false false ta tb tc td ac ad bc bd ha hb hc hd n =
    meeting_mixed tc a b c d (omega (arith, ints)) (omega (arith, ints)) (omega (arith, ints)) (opposed tc ta _ (area c d a) n (λ e. omega (arith, ints)) ha) hc
edges_meet a b c d false true false false ta tb tc td ac ad bc bd ha hb hc hd n =
    meeting_flipped a b c d (meeting_mixed td a b d c (omega (arith, ints)) (omega (arith, ints)) (omega (arith, ints))
    (opposed td ta _ (area d c a) n (λ e. omega (arith, ints)) ha) hd)
edges_meet a b c d false false true false ta tb tc td ac ad bc bd ha hb hc hd n =
    meeting_turned a b c d (meeting_mixed tc b a c d (omega (arith, ints)) (omega (arith, ints)) (omega (arith, ints))
    (opposed tc tb _ (area c d b) n (λ e. omega (arith, ints)) hb) hc)
edges_meet a b c d false false false true ta tb tc td ac ad bc bd ha hb hc hd n =
    meeting_flipped a b c d (meeting_turned a b d c
    (meeting_mixed td b a d c (omega (arith, ints)) (omega (arith, ints)) (omega (arith, ints)) (opposed td tb _ (area d c b) n (λ e. omega (arith, ints)) hb) hd))
edges_meet a b c d false true true true ta tb tc td ac ad bc bd ha hb hc hd n =
    meeting_back a b c d (meeting_mixed tc c d a b (omega (arith, ints)) (omega (arith, ints)) (omega (arith, ints)) (area_turned tc b a c hc)
    (area_back tc d c a (opposed tc ta _ (area d c a) n (λ e. omega (arith, ints)) ha)))
edges_meet a b c d true false true true ta tb tc td ac ad bc bd ha hb hc hd n =
    meeting_flipped a b c d (meeting_back a b d c
    (meeting_mixed td d c a b (omega (arith, ints)) (omega (arith, ints)) (omega (arith, ints)) (area_turned td b a d hd)
    (area_back td c d a (opposed td ta _ (area c d a) n (λ e. omega (arith, ints)) ha))))
edges_meet a b c d true true false true ta tb tc td ac ad bc bd ha hb hc hd n =
    meeting_turned a b c d (meeting_back b a c d
    (meeting_mixed tc c d b a (omega (arith, ints)) (omega (arith, ints)) (omega (arith, ints)) (area_turned tc a b c hc)
    (area_back tc d c b (opposed tc tb _ (area d c b) n (λ e. omega (arith, ints)) hb))))
edges_meet a b c d true true true false ta tb tc td ac ad bc bd ha hb hc hd n =
    meeting_flipped a b c d (meeting_turned a b d c
    (meeting_back b a d c (meeting_mixed td d c b a (omega (arith, ints)) (omega (arith, ints)) (omega (arith, ints)) (area_turned td a b d hd)
    (area_back td c d b (opposed td tb _ (area c d b) n (λ e. omega (arith, ints)) hb)))))

-- three areas of one sign
pub record AreAlike (z1 z2 z3 : ℤ) : Type 0 where
  pub side : Bool
  pub first : Signed side z1
  pub second : Signed side z2
  pub third : Signed side z3

-- a number by the sign of its negative
neg_back : (t : Bool) (z : ℤ) → Signed (not t) (neg_ℤ z) → Signed t z
neg_back true z h = omega (arith, ints)
neg_back false z h = omega (arith, ints)

-- the count of a vertex and a face, by whether it is past each corner
abbrev pub face_bits : Bool → Bool → Bool → Bool → Bool → Bool → ℤ
face_bits u v w t1 t2 t3 = bit_shadow u v t1 +ℤ (bit_shadow v w t2 +ℤ (bit_shadow w u t3 +ℤ pos 0))

-- a corner that lies alone on its side: the sign of the areas at it is that of the third
alone : (s r : Bool) (x y k l w m : ℤ) → x *ℤ k +ℤ y *ℤ l +ℤ w *ℤ m ≡ pos 0 → Signed (not s) x → Signed r k → Signed (not s) y → Signed r l → Signed s w → Signed r m
alone true r x y k l w m e hx hk hy hl hw = third_above r x k y l w m e (signed_mul false r x k hx hk) (signed_mul false r y l hy hl) hw
alone false r x y k l w m e hx hk hy hl hw = third_below r x k y l w m e (signed_mul true r x k hx hk) (signed_mul true r y l hy hl) hw

-- a vertex with a count other than 0 lies inside the face
pub face_meets : (xu xv xw z1 z2 z3 : ℤ) → xw *ℤ z1 +ℤ xu *ℤ z2 +ℤ xv *ℤ z3 ≡ pos 0 → (u v w t1 t2 t3 : Bool) → Signed u xu → Signed v xv → Signed w xw →
    SeenBy u v t1 z1 (neg_ℤ z1) → SeenBy v w t2 z2 (neg_ℤ z2) → SeenBy w u t3 z3 (neg_ℤ z3) → face_bits u v w t1 t2 t3 ≢ pos 0 → AreAlike z1 z2 z3
face_meets xu xv xw z1 z2 z3 e true true true t1 t2 t3 hu hv hw h1 h2 h3 n =
    absurd (n (omega (arith, ints)))
face_meets xu xv xw z1 z2 z3 e false false false t1 t2 t3 hu hv hw h1 h2 h3 n =
    absurd (n (omega (arith, ints)))
face_meets xu xv xw z1 z2 z3 e true false false t1 t2 t3 hu hv hw h1 h2 h3 n =
    let k = neg_back t1 z3 (opposed t1 t3 _ (neg_ℤ z3) n (λ e. omega (arith, ints)) h3) in
    record { side = t1; first = h1; second = alone true t1 xw xv z1 z3 xu z2 (omega (arith, ints)) hw h1 hv k hu; third = k }
face_meets xu xv xw z1 z2 z3 e false true true t1 t2 t3 hu hv hw h1 h2 h3 n =
    let k = neg_back t3 z1 (opposed t3 t1 _ (neg_ℤ z1) n (λ e. omega (arith, ints)) h1) in
    record { side = t3; first = k; second = alone false t3 xw xv z1 z3 xu z2 (omega (arith, ints)) hw k hv h3 hu; third = h3 }
face_meets xu xv xw z1 z2 z3 e false true false t1 t2 t3 hu hv hw h1 h2 h3 n =
    let k = neg_back t2 z1 (opposed t2 t1 _ (neg_ℤ z1) n (λ e. omega (arith, ints)) h1) in
    record { side = t2; first = k; second = h2; third = alone true t2 xw xu z1 z2 xv z3 (omega (arith, ints)) hw k hu h2 hv }
face_meets xu xv xw z1 z2 z3 e true false true t1 t2 t3 hu hv hw h1 h2 h3 n =
    let k = neg_back t1 z2 (opposed t1 t2 _ (neg_ℤ z2) n (λ e. omega (arith, ints)) h2) in
    record { side = t1; first = h1; second = k; third = alone false t1 xw xu z1 z2 xv z3 (omega (arith, ints)) hw h1 hu k hv }
face_meets xu xv xw z1 z2 z3 e false false true t1 t2 t3 hu hv hw h1 h2 h3 n =
    let k = neg_back t3 z2 (opposed t3 t2 _ (neg_ℤ z2) n (λ e. omega (arith, ints)) h2) in
    record { side = t3; first = alone true t3 xu xv z2 z3 xw z1 (omega (arith, ints)) hu k hv h3 hw; second = k; third = h3 }
face_meets xu xv xw z1 z2 z3 e true true false t1 t2 t3 hu hv hw h1 h2 h3 n =
    let k = neg_back t2 z3 (opposed t2 t3 _ (neg_ℤ z3) n (λ e. omega (arith, ints)) h3) in
    record { side = t2; first = alone false t2 xu xv z2 z3 xw z1 (omega (arith, ints)) hu h2 hv k hw; second = h2; third = k }
