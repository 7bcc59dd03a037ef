-- A filling without a forced triangle, whatever its loops are: each triangle turns left, and they have the boundary of the loops.
use Rattle.std.specs.Prelude.{◌≡◌, ℕ, zero, suc, ◌+◌, ◌-◌, ◌<◌, ◌≤◌, ℤ, pos, ◌+ℤ◌, ◌-ℤ◌, ◌*ℤ◌, ◌<ℤ◌, List, [], ◌∷◌, ◌++◌}
use Rattle.std.specs.Prelude.{true, false, Bool, cond, not, ◌&&◌, length, nat_lt, int_lt}
use Rattle.std.specs.List.{All, flat_map, list_any}
use Rattle.std.proofs.Common.{arith, refl, sym, ap, subst}
use Rattle.std.proofs.lemmas.Bool.{and_parts, ltb-true}
use Rattle.std.proofs.Math.IntN.{*ℤ-zero}
use Rattle.ring_cutting.proofs.WholeCuts.{left_of}
use Rattle.std.proofs.lemmas.Int.{ints}
use Rattle.std.proofs.lemmas.List.{length-append}
use Rattle.std.proofs.lemmas.List.Concat.{flat_map-append}
use Rattle.std.proofs.lemmas.List.Elements.{All-append, All-cons, All-nil}
use Rattle.chain_terms.specs.Sums.{total}
use Rattle.chain_laws.specs.Sums.{total-append}
use Rattle.chain_terms.specs.Chains.{all_edges, edges}
use Rattle.chain_terms.specs.Odd.{IsOdd, SameChain, along}
use Rattle.chain_terms.specs.Paths.{round_edges}
use Rattle.mesh_terms.specs.Meshes.{Triple}
use Rattle.face_plane.specs.Planes.{Plane, orient}
use Rattle.face_plane.specs.Rings.{vertex_after, vertex_at, vertex_before, without_place}
use Rattle.ring_cutting.specs.Cuts.{blocks, cut_of, cut_place, cut_ring, first_ear, forced_here, is_allowed, is_ear, last_triple, triple_at}
use Rattle.ring_cutting.specs.Laws.{TurnsLeft}
use Rattle.ring_cutting.proofs.FirstPlaces.{passes}
use Rattle.ring_cutting.proofs.Rounds.{cut_sum}
use Rattle.ring_cutting.proofs.Turned.{after_is, before_is, here_is, split_length, splits_at, without_is}
use Rattle.triangulate.specs.Fills.{cuts}

-- triangles with the boundary of a chain, each of which turns left
pub record Covers (at : Plane) (es : List (ℕ × ℕ)) (ts : List Triple) : Type 0 where
  pub chain : SameChain (all_edges ts) es
  pub left : All (TurnsLeft at) ts

-- where a test fails there is one
when_none : (b : Bool) → ◌≡◌ {A = ℕ} (cond b 0 1) 0 → b ≡ true
when_none true h = refl
when_none false h = absurd (omega (arith, h))

-- a ring of three places whose triangle is not forced
three_uncut : (at : Plane) (a b c : ℕ) → (last_triple at (a ∷ b ∷ c ∷ [])).forced ≡ 0 → Covers at (round_edges (a ∷ b ∷ c ∷ [])) (last_triple at (a ∷ b ∷ c ∷ [])).triples
three_uncut at a b c none = record {
  chain = λ f odd. refl;
  left = All-cons (TurnsLeft at) (a, b, c) [] (left_of (orient at a b c) (when_none (int_lt (pos 0) (orient at a b c)) none)) (All-nil (TurnsLeft at));
}

-- fewer places are always forced
two_uncut : (at : Plane) (a b : ℕ) → (last_triple at (a ∷ b ∷ [])).forced ≡ 0 → ⊥
two_uncut at a b none =
    let left : pos 0 <ℤ orient at a b a = left_of (orient at a b a) (when_none (int_lt (pos 0) (orient at a b a)) none) in flat at a b left
  where
    flat : (at : Plane) (a b : ℕ) → pos 0 <ℤ orient at a b a → ⊥
    flat at a b h =
        let p = at a in
        let q = at b in
        let x : p.0 -ℤ p.0 ≡ pos 0 = omega (arith, ints) in
        let y : p.1 -ℤ p.1 ≡ pos 0 = omega (arith, ints) in
        omega (arith, ints, h, ap (λ t. (q.0 -ℤ p.0) *ℤ t) y, *ℤ-zero (q.0 -ℤ p.0), ap (λ t. (q.1 -ℤ p.1) *ℤ t) x, *ℤ-zero (q.1 -ℤ p.1))

one_uncut : (at : Plane) (a : ℕ) → (last_triple at (a ∷ [])).forced ≡ 0 → ⊥
one_uncut at a none = two_uncut at a a none

none_uncut : (at : Plane) → (last_triple at []).forced ≡ 0 → ⊥
none_uncut at none = two_uncut at 0 0 none

-- an ear where one is cut
record IsEar (at : Plane) (r : List ℕ) (i : ℕ) : Type 0 where
  within : i < length r
  left : TurnsLeft at (triple_at r i)

ear_at : (at : Plane) (r : List ℕ) → forced_here at r ≡ 0 → IsEar at r (cut_place at r)
ear_at at r none =
    let found : nat_lt (first_ear at r) (length r) ≡ true = when_none (nat_lt (first_ear at r) (length r)) none in
    let i = first_ear at r in
    let low : i < length r = ltb-true i (length r) found in
    let ear = passes (is_ear at r) (length r) low in
    let p = vertex_before r i in
    let x = vertex_at r i in
    let n = vertex_after r i in
    let both = and_parts (is_allowed r i && int_lt (pos 0) (orient at p x n)) (not (list_any (blocks at p x n) r)) ear in
    let left = left_of (orient at p x n) (and_parts (is_allowed r i) (int_lt (pos 0) (orient at p x n)) both.0).1 in
    rw found (record { within = low; left = left })

-- the sum round a ring is that round the triangle of a place and that round the rest
cut_away : (f : ℕ → ℕ → ℤ) → IsOdd f → (r : List ℕ) (i : ℕ) → i < length r → 2 ≤ length r →
    total (along f) (round_edges r) ≡ total (along f) (edges (triple_at r i)) +ℤ total (along f) (round_edges (without_place i r))
cut_away f odd r i within two =
    let s = splits_at r i within in
    let P : List ℕ → Type 0 = λ l. 2 ≤ length l →
    total (along f) (round_edges l) ≡ total (along f) (edges (triple_at l (length s.front))) +ℤ total (along f) (round_edges (without_place (length s.front) l)) in
    let Q : ℕ → Type 0 = λ k. total (along f) (round_edges r) ≡ total (along f) (edges (triple_at r k)) +ℤ total (along f) (round_edges (without_place k r)) in
    let g : P r = subst P (sym s.joined) (λ long. middle s.front s.vertex s.back (omega (arith, long, split_length s.front s.vertex s.back, length-append s.back s.front))) in
    subst Q (sym s.place) (g two)
  where
    middle : (a : List ℕ) (x : ℕ) (b : List ℕ) → 0 < length (b ++ a) →
        total (along f) (round_edges (a ++ x ∷ b)) ≡
        total (along f) (edges (triple_at (a ++ x ∷ b) (length a))) +ℤ total (along f) (round_edges (without_place (length a) (a ++ x ∷ b)))
    middle a x b some = rw (before_is a x b, here_is a x b, after_is a x b, without_is a x b) (cut_sum f odd a x b some)

-- the ring without a place
shorter : (r : List ℕ) (i n : ℕ) → i < length r → length r ≡ suc n → length (without_place i r) ≡ n
shorter r i n within long =
    let s = splits_at r i within in
    let P : List ℕ → Type 0 = λ l. length l ≡ suc n → length (without_place (length s.front) l) ≡ n in
    let g : P r = subst P (sym s.joined) (λ e. rw (without_is s.front s.vertex s.back) (omega (arith, e, split_length s.front s.vertex s.back, length-append s.front s.back))) in
    subst (λ k. length (without_place k r) ≡ n) (sym s.place) (g long)

cut_uncut : (at : Plane) (n : ℕ) (r : List ℕ) → length r ≡ n + 3 → (cut_of at n r).forced ≡ 0 → Covers at (round_edges r) (cut_of at n r).triples
cut_uncut at zero [] long none = absurd (omega (arith, long))
cut_uncut at zero (a ∷ []) long none = absurd (omega (arith, long))
cut_uncut at zero (a ∷ b ∷ []) long none = absurd (omega (arith, long))
cut_uncut at zero (a ∷ b ∷ c ∷ []) long none = three_uncut at a b c none
cut_uncut at zero (a ∷ b ∷ c ∷ d ∷ r) long none = absurd (omega (arith, long))
cut_uncut at (suc n) r long none =
    let i = cut_place at r in
    let ear = ear_at at r (omega (arith, none)) in
    let rest = cut_uncut at n (without_place i r) (shorter r i (n + 3) ear.within (omega (arith, long))) (omega (arith, none)) in
    let t = triple_at r i in
    let ts = (cut_of at n (without_place i r)).triples in
    record {
      chain = λ f odd. omega (arith, ints, total-append (along f) (edges t) (all_edges ts), rest.chain f odd, cut_away f odd r i ear.within (omega (arith, long)));
      left = All-cons (TurnsLeft at) t ts ear.left rest.left;
    }

-- a ring that is cut without a forced triangle has three places or more, and is covered
pub record IsUncut (at : Plane) (r : List ℕ) : Type 0 where
  pub long : 3 ≤ length r
  pub covers : Covers at (round_edges r) (cut_ring at r).triples

pub ring_uncut : (at : Plane) (r : List ℕ) → (cut_ring at r).forced ≡ 0 → IsUncut at r
ring_uncut at [] none = absurd (none_uncut at none)
ring_uncut at (a ∷ []) none = absurd (one_uncut at a none)
ring_uncut at (a ∷ b ∷ []) none = absurd (two_uncut at a b none)
ring_uncut at (a ∷ b ∷ c ∷ r) none =
    let n = length (a ∷ b ∷ c ∷ r) - 3 in
    record { long = omega arith; covers = cut_uncut at n (a ∷ b ∷ c ∷ r) (omega arith) none }

-- so are rings one after the other
pub record AreUncut (at : Plane) (rs : List (List ℕ)) : Type 0 where
  pub long : All (λ r. 3 ≤ length r) rs
  pub covers : Covers at (flat_map round_edges rs) (cuts at rs).triples

pub rings_uncut : (at : Plane) (rs : List (List ℕ)) → (cuts at rs).forced ≡ 0 → AreUncut at rs
rings_uncut at [] none = record { long = All-nil (λ (r : List ℕ). 3 ≤ length r); covers = record { chain = λ f odd. refl; left = All-nil (TurnsLeft at) } }
rings_uncut at (r ∷ rs) none =
    let c = cut_ring at r in
    let d = cuts at rs in
    let one = ring_uncut at r (omega (arith, none)) in
    let rest = rings_uncut at rs (omega (arith, none)) in
    record {
      long = All-cons (λ (r : List ℕ). 3 ≤ length r) r rs one.long rest.long;
      covers = record {
        chain = λ f odd.
            omega (
              arith,
              ints,
              one.covers.chain f odd,
              rest.covers.chain f odd,
              ap (total (along f)) (flat_map-append edges c.triples d.triples),
              total-append (along f) (all_edges c.triples) (all_edges d.triples),
              total-append (along f) (round_edges r) (flat_map round_edges rs),
            );
        left = All-append (TurnsLeft at) c.triples d.triples one.covers.left rest.covers.left;
      };
    }
