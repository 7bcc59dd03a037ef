-- The cutting of a ring.
use Rattle.std.specs.Prelude.{◌≡◌, ◌≢◌, ℕ, zero, suc, ◌+◌, ◌-◌, ◌<◌, ◌≤◌, ℤ, pos, ◌<ℤ◌, List, [], ◌∷◌, true, false}
use Rattle.std.specs.Prelude.{Bool, cond, length, int_lt}
use Rattle.std.specs.List.{All}
use Rattle.std.proofs.Common.{arith, refl, inl, inr}
use Rattle.std.proofs.lemmas.Int.{ints}
use Rattle.std.proofs.lemmas.List.Elements.{All-cons, All-nil, All-head, All-tail, All-weaker}
use Rattle.chain_laws.specs.Sums.{total-append}
use Rattle.chain_terms.specs.Chains.{edges, all_edges}
use Rattle.chain_terms.specs.Odd.{along}
use Rattle.mesh_terms.specs.Meshes.{Triple, HasThree, IsBelow}
use Rattle.face_plane.specs.Planes.{Plane, orient}
use Rattle.face_plane.specs.Rings.{IsRing, without_place}
use Rattle.ring_cutting.specs.Cuts.{Cut, cut_place, forced_here, triple_at, last_triple, with_triple, cut_of, cut_ring}
use Rattle.ring_cutting.specs.Laws.{TurnsLeft, IsOf, IsCutting}
use Rattle.ring_cutting.proofs.Members.{all_in}
use Rattle.ring_cutting.proofs.Steps.{IsStep, step, chosen}

-- the test of a turn
pub left_of : (z : ℤ) → int_lt (pos 0) z ≡ true → pos 0 <ℤ z
left_of z h = grind (arith, ints)

-- one where a test fails
abbrev one_unless : Bool → ℕ
one_unless b = cond b 0 1

one_forced : (b : Bool) → one_unless b ≤ 1
one_forced true = omega arith
one_forced false = omega arith

none_forced : (b : Bool) → one_unless b ≡ 0 → b ≡ true
none_forced true h = refl
none_forced false h = absurd (omega (arith, h))

-- three places are their triangle
last_cutting : (at : Plane) (a b c : ℕ) → IsRing (a ∷ b ∷ c ∷ []) → IsCutting at (a ∷ b ∷ c ∷ []) (last_triple at (a ∷ b ∷ c ∷ []))
last_cutting at a b c ringy =
    let t : Triple = (a, b, c) in
    let P : (ℕ × ℕ) → Type 0 = λ e. e.0 ≢ e.1 in
    let ab : a ≢ b = All-head P (a, b) ((b, c) ∷ (c, a) ∷ []) ringy.apart in
    let rest = All-tail P (a, b) ((b, c) ∷ (c, a) ∷ []) ringy.apart in
    let bc : b ≢ c = All-head P (b, c) ((c, a) ∷ []) rest in
    let ca : c ≢ a = All-head P (c, a) [] (All-tail P (b, c) ((c, a) ∷ []) rest) in
    record {
      count = refl;
      chain = λ f odd. refl;
      three = All-cons HasThree t [] (record { ab = ab; bc = bc; ca = ca }) (All-nil HasThree);
      of = All-cons (IsOf (a ∷ b ∷ c ∷ [])) t [] (inl refl, inr (inl refl), inr (inr (inl refl))) (All-nil (IsOf (a ∷ b ∷ c ∷ [])));
      few = one_forced (int_lt (pos 0) (orient at a b c));
      left = λ none. All-cons (TurnsLeft at) t [] (left_of (orient at a b c) (none_forced (int_lt (pos 0) (orient at a b c)) none))
          (All-nil (TurnsLeft at));
    }

-- a cut in front of the cutting of the rest
more_cutting : (at : Plane) (r : List ℕ) (i n : ℕ) (c : Cut) → IsStep r i → n ≤ 1 → (n ≡ 0 → TurnsLeft at (triple_at r i)) →
    IsCutting at (without_place i r) c → IsCutting at r (with_triple (triple_at r i) n c)
more_cutting at r i n c s once left rest =
    let t = triple_at r i in
    record {
      count = omega (arith, rest.count, s.shorter);
      chain = λ f odd. omega (arith, ints, total-append (along f) (edges t) (all_edges c.triples), rest.chain f odd, s.sums f odd);
      three = All-cons HasThree t c.triples s.three rest.three;
      of = All-cons (IsOf r) t c.triples s.of
          (All-weaker (IsOf (without_place i r)) (IsOf r) (λ u h. (s.within u.0 h.0, s.within u.1 h.1, s.within u.2 h.2)) c.triples rest.of);
      few = omega (arith, once, rest.few);
      left = λ none. All-cons (TurnsLeft at) t c.triples (left (omega (arith, none))) (rest.left (omega (arith, none)));
    }

pub cutting_of : (at : Plane) (n : ℕ) (r : List ℕ) → IsRing r → length r ≡ n + 3 → IsCutting at r (cut_of at n r)
cutting_of at zero [] ringy long = absurd (omega (arith, long))
cutting_of at zero (a ∷ []) ringy long = absurd (omega (arith, long))
cutting_of at zero (a ∷ b ∷ []) ringy long = absurd (omega (arith, long))
cutting_of at zero (a ∷ b ∷ c ∷ []) ringy long = last_cutting at a b c ringy
cutting_of at zero (a ∷ b ∷ c ∷ d ∷ r) ringy long = absurd (omega (arith, long))
cutting_of at (suc n) r ringy long =
    let four : 4 ≤ length r = omega (arith, long) in
    let ch = chosen at r ringy four in
    let i = cut_place at r in
    let s = step r i ringy four ch.within ch.allowed in
    more_cutting at r i (forced_here at r) (cut_of at n (without_place i r)) s ch.once (λ none. left_of _ (ch.left none))
    (cutting_of at n (without_place i r) s.ringy (omega (arith, long, s.shorter)))

-- the cutting of every ring keeps what it promises
pub cutting : (at : Plane) (r : List ℕ) → IsRing r → IsCutting at r (cut_ring at r)
cutting at r ringy = cutting_of at (length r - 3) r ringy (omega (arith, ringy.long))

-- the triangles' vertices are as those of the ring
pub below_of : (n : ℕ) (r : List ℕ) (ts : List Triple) → All (λ v. v < n) r → All (IsOf r) ts → All (IsBelow n) ts
below_of n r ts below of =
    let P : ℕ → Type 0 = λ v. v < n in
    All-weaker (IsOf r) (IsBelow n) (λ t h. record { a = all_in P t.0 r below h.0; b = all_in P t.1 r below h.1; c = all_in P t.2 r below h.2 }) ts of
