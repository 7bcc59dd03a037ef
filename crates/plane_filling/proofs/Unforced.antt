-- A list of vertices that is no ring has a forced triangle, whatever its points are.
use Rattle.std.specs.Prelude.{◌≡◌, ◌≢◌, ℕ, zero, suc, ◌+◌, ◌-◌, ◌<◌, pos, ◌-ℤ◌, ◌*ℤ◌, ◌<ℤ◌, List, [], ◌∷◌, ◌++◌}
use Rattle.std.specs.Prelude.{true, false, Bool, cond, not, ◌&&◌, length, nat_lt, int_lt}
use Rattle.std.specs.List.{list_any}
use Rattle.std.proofs.Common.{arith, refl, sym, ap, subst, inl, inr}
use Rattle.std.proofs.Math.IntN.{*ℤ-zero, *ℤ_comm}
use Rattle.std.proofs.lemmas.Bool.{and_parts, cases_lt, ltb-true}
use Rattle.std.proofs.lemmas.Int.{ints}
use Rattle.std.proofs.lemmas.List.{length-append}
use Rattle.std.proofs.lemmas.List.Elements.{All-append, All-cons, All-nil}
use Rattle.std.proofs.lemmas.List.Sorted.{All-permutation}
use Rattle.chain_terms.specs.Paths.{last_of, path, round_edges}
use Rattle.mesh_terms.specs.Meshes.{HasThree}
use Rattle.face_plane.specs.Planes.{Plane, orient}
use Rattle.face_plane.specs.Rings.{IsRing, vertex_after, vertex_at, vertex_before, without_place}
use Rattle.ring_cutting.specs.Cuts.{blocks, cut_of, cut_place, cut_ring, first_ear, forced_here, is_allowed, is_ear, last_triple, triple_at}
use Rattle.ring_cutting.specs.Laws.{TurnsLeft}
use Rattle.ring_cutting.proofs.FirstPlaces.{passes}
use Rattle.ring_cutting.proofs.Members.{head_or, in_wider, three_within}
use Rattle.ring_cutting.proofs.Rounds.{Apart, apart_front, round_edges-moved}
use Rattle.ring_cutting.proofs.Turned.{after_is, before_is, here_is, split_length, splits_at, without_is}
use Rattle.ring_cutting.proofs.WholeCuts.{left_of}

-- three vertices of which the first two, the last two, or the first and the last are one lie on a line
flat_front : (at : Plane) (a c : ℕ) → orient at a a c ≡ pos 0
flat_front at a c =
    let p = at a in
    let q = at c in
    let x : p.0 -ℤ p.0 ≡ pos 0 = omega (arith, ints) in
    let y : p.1 -ℤ p.1 ≡ pos 0 = omega (arith, ints) in
    omega (
      arith,
      ints,
      *ℤ_comm (p.0 -ℤ p.0) (q.1 -ℤ p.1),
      *ℤ_comm (p.1 -ℤ p.1) (q.0 -ℤ p.0),
      ap (λ t. (q.1 -ℤ p.1) *ℤ t) x,
      *ℤ-zero (q.1 -ℤ p.1),
      ap (λ t. (q.0 -ℤ p.0) *ℤ t) y,
      *ℤ-zero (q.0 -ℤ p.0),
    )

flat_back : (at : Plane) (a b : ℕ) → orient at a b b ≡ pos 0
flat_back at a b =
    let p = at a in let q = at b in omega (arith, ints, *ℤ_comm (q.0 -ℤ p.0) (q.1 -ℤ p.1))

flat_ends : (at : Plane) (a b : ℕ) → orient at a b a ≡ pos 0
flat_ends at a b =
    let p = at a in
    let q = at b in
    let x : p.0 -ℤ p.0 ≡ pos 0 = omega (arith, ints) in
    let y : p.1 -ℤ p.1 ≡ pos 0 = omega (arith, ints) in
    omega (arith, ints, ap (λ t. (q.0 -ℤ p.0) *ℤ t) y, *ℤ-zero (q.0 -ℤ p.0), ap (λ t. (q.1 -ℤ p.1) *ℤ t) x, *ℤ-zero (q.1 -ℤ p.1))

-- so a triangle that turns left has three different vertices
left_three : (at : Plane) (a b c : ℕ) → TurnsLeft at (a, b, c) → HasThree (a, b, c)
left_three at a b c left = record {
  ab = λ e. let l : pos 0 <ℤ orient at a a c = subst (λ v. pos 0 <ℤ orient at a v c) (sym e) left in omega (arith, ints, l, flat_front at a c);
  bc = λ e. let l : pos 0 <ℤ orient at a b b = subst (λ v. pos 0 <ℤ orient at a b v) (sym e) left in omega (arith, ints, l, flat_back at a b);
  ca = λ e. let l : pos 0 <ℤ orient at a b a = subst (λ v. pos 0 <ℤ orient at a b v) e left in omega (arith, ints, l, flat_ends at a b);
}

-- three different vertices are a ring
three_ring : (a b c : ℕ) → HasThree (a, b, c) → IsRing (a ∷ b ∷ c ∷ [])
three_ring a b c t =
    let P : (ℕ × ℕ) → Type 0 = λ e. e.0 ≢ e.1 in
    record {
      long = omega arith;
      apart = All-cons P (a, b) ((b, c) ∷ (c, a) ∷ []) t.ab (All-cons P (b, c) ((c, a) ∷ []) t.bc (All-cons P (c, a) [] t.ca (All-nil P)));
      three =
          record { a = a; b = b; c = c; a_in = inl refl; b_in = inr (inl refl); c_in = inr (inr (inl refl)); ab = t.ab; bc = t.bc; ca = t.ca };
    }

-- where a test fails there is one
when_none : (b : Bool) → ◌≡◌ {A = ℕ} (cond b 0 1) 0 → b ≡ true
when_none true h = refl
when_none false h = absurd (omega (arith, h))

-- the last three places turn left where they are not forced
last_left : (at : Plane) (r : List ℕ) → (last_triple at r).forced ≡ 0 → TurnsLeft at (vertex_at r 0, vertex_at r 1, vertex_at r 2)
last_left at r none =
    left_of (orient at (vertex_at r 0) (vertex_at r 1) (vertex_at r 2))
    (when_none (int_lt (pos 0) (orient at (vertex_at r 0) (vertex_at r 1) (vertex_at r 2))) none)

-- fewer places are always forced
two_forced : (at : Plane) (a b : ℕ) → (last_triple at (a ∷ b ∷ [])).forced ≡ 0 → ⊥
two_forced at a b none = let l : pos 0 <ℤ orient at a b a = last_left at (a ∷ b ∷ []) none in omega (arith, ints, l, flat_ends at a b)

one_forced : (at : Plane) (a : ℕ) → (last_triple at (a ∷ [])).forced ≡ 0 → ⊥
one_forced at a none = two_forced at a a none

none_forced : (at : Plane) → (last_triple at []).forced ≡ 0 → ⊥
none_forced at none = two_forced at 0 0 none

-- an ear where one is cut
record IsEar (at : Plane) (r : List ℕ) (i : ℕ) : Type 0 where
  within : i < length r
  left : TurnsLeft at (triple_at r i)

ear_at : (at : Plane) (r : List ℕ) → forced_here at r ≡ 0 → IsEar at r (cut_place at r)
ear_at at r none =
    let found : nat_lt (first_ear at r) (length r) ≡ true = when_none (nat_lt (first_ear at r) (length r)) none in
    let i = first_ear at r in
    let low : i < length r = ltb-true i (length r) found in
    let ear = passes (is_ear at r) (length r) low in
    let p = vertex_before r i in
    let x = vertex_at r i in
    let n = vertex_after r i in
    let both = and_parts (is_allowed r i && int_lt (pos 0) (orient at p x n)) (not (list_any (blocks at p x n) r)) ear in
    let left = left_of (orient at p x n) (and_parts (is_allowed r i) (int_lt (pos 0) (orient at p x n)) both.0).1 in
    rw found (record { within = low; left = left })

-- a place put in front of a ring, apart from both its neighbours
apart_first : (x : ℕ) (rest : List ℕ) → 0 < length rest → Apart (round_edges rest) → last_of x rest ≢ x → x ≢ head_or x rest →
    Apart (round_edges (x ∷ rest))
apart_first x [] some all before after = absurd (omega (arith, some))
apart_first x (y ∷ s) some all before after =
    let P : (ℕ × ℕ) → Type 0 = λ e. e.0 ≢ e.1 in
    let way = apart_front (path y s) ((last_of y s, y) ∷ []) all in
    All-cons P (x, y) (path y s ++ (last_of y s, x) ∷ []) after
    (All-append P (path y s) ((last_of y s, x) ∷ []) way (All-cons P (last_of y s, x) [] before (All-nil P)))

-- the same at any place
ring_grown : (a : List ℕ) (x : ℕ) (b : List ℕ) → IsRing (a ++ b) → HasThree (last_of x (b ++ a), x, head_or x (b ++ a)) → IsRing (a ++ x ∷ b)
ring_grown a x b ringy t =
    let P : (ℕ × ℕ) → Type 0 = λ e. e.0 ≢ e.1 in
    let many = length-append a b in
    let some : 0 < length (b ++ a) = omega (arith, ringy.long, many, length-append b a) in
    let rest = All-permutation P (round_edges (a ++ b)) (round_edges (b ++ a)) (round_edges-moved a b) ringy.apart in
    let first = apart_first x (b ++ a) some rest t.ab t.bc in
    record {
      long = omega (arith, ringy.long, many, split_length a x b);
      apart = All-permutation P (round_edges (x ∷ (b ++ a))) (round_edges (a ++ x ∷ b)) (round_edges-moved (x ∷ b) a) first;
      three = three_within (a ++ b) (a ++ x ∷ b) (λ v h. in_wider v a x b h) ringy.three;
    }

-- where the rest is a ring, and the triangle of the place has three vertices, the whole is one
ring_before : (r : List ℕ) (i : ℕ) → i < length r → IsRing (without_place i r) → HasThree (triple_at r i) → IsRing r
ring_before r i within ringy three =
    let s = splits_at r i within in
    let P : List ℕ → Type 0 = λ l. IsRing (without_place (length s.front) l) → HasThree (triple_at l (length s.front)) → IsRing l in
    let Q : ℕ → Type 0 = λ k. IsRing (without_place k r) → HasThree (triple_at r k) → IsRing r in
    let g : P r = subst P (sym s.joined) (middle s.front s.vertex s.back) in
    let h : Q i = subst Q (sym s.place) g in
    h ringy three
  where
    middle : (a : List ℕ) (x : ℕ) (b : List ℕ) → IsRing (without_place (length a) (a ++ x ∷ b)) →
        HasThree (triple_at (a ++ x ∷ b) (length a)) → IsRing (a ++ x ∷ b)
    middle a x b = rw (before_is a x b, here_is a x b, after_is a x b, without_is a x b) (ring_grown a x b)

-- the ring without a place has one place less
shorter : (r : List ℕ) (i n : ℕ) → i < length r → length r ≡ suc n → length (without_place i r) ≡ n
shorter r i n within long =
    let s = splits_at r i within in
    let P : List ℕ → Type 0 = λ l. length l ≡ suc n → length (without_place (length s.front) l) ≡ n in
    let g : P r = subst P (sym s.joined) (λ e. rw (without_is s.front s.vertex s.back) (omega (arith, e, split_length s.front s.vertex s.back, length-append s.front s.back))) in
    subst (λ k. length (without_place k r) ≡ n) (sym s.place) (g long)

-- a list that is cut without a forced triangle is a ring
cut_ringy : (at : Plane) (n : ℕ) (r : List ℕ) → length r ≡ n + 3 → (cut_of at n r).forced ≡ 0 → IsRing r
cut_ringy at zero [] long none = absurd (omega (arith, long))
cut_ringy at zero (a ∷ []) long none = absurd (omega (arith, long))
cut_ringy at zero (a ∷ b ∷ []) long none = absurd (omega (arith, long))
cut_ringy at zero (a ∷ b ∷ c ∷ []) long none = three_ring a b c (left_three at a b c (last_left at (a ∷ b ∷ c ∷ []) none))
cut_ringy at zero (a ∷ b ∷ c ∷ d ∷ r) long none = absurd (omega (arith, long))
cut_ringy at (suc n) r long none =
    let i = cut_place at r in
    let ear = ear_at at r (omega (arith, none)) in
    let rest = cut_ringy at n (without_place i r) (shorter r i (n + 3) ear.within (omega (arith, long))) (omega (arith, none)) in
    ring_before r i ear.within rest (left_three at (vertex_before r i) (vertex_at r i) (vertex_after r i) ear.left)

pub ring_unforced : (at : Plane) (r : List ℕ) → (cut_ring at r).forced ≡ 0 → IsRing r
ring_unforced at [] none = absurd (none_forced at none)
ring_unforced at (a ∷ []) none = absurd (one_forced at a none)
ring_unforced at (a ∷ b ∷ []) none = absurd (two_forced at a b none)
ring_unforced at (a ∷ b ∷ c ∷ r) none = cut_ringy at (length (a ∷ b ∷ c ∷ r) - 3) (a ∷ b ∷ c ∷ r) (omega arith) none

-- so one that is none has a forced triangle
pub no_ring_forced : (at : Plane) (r : List ℕ) → (IsRing r → ⊥) → 0 < (cut_ring at r).forced
no_ring_forced at r lacks = elim (cases_lt 0 (cut_ring at r).forced) as (λ _. 0 < (cut_ring at r).forced) [
  | inl some ↦ some
  | inr none ↦ absurd (lacks (ring_unforced at r (omega (arith, none))))
]
