-- One cut: what the triangle has and what the rest keeps.
use Rattle.std.specs.Prelude.{◌≡◌, ℕ, suc, ◌<◌, ◌≤◌, ℤ, pos, ◌+ℤ◌, List, ◌∷◌, ◌++◌, true, false, ◌&&◌, length, nat_lt, int_lt}
use Rattle.std.proofs.Common.{arith, sym, subst, inl, inr}
use Rattle.std.proofs.lemmas.Bool.{cases_lt, and_parts, lt-ltb, le-ltb}
use Rattle.std.proofs.lemmas.List.{length-append}
use Rattle.chain_terms.specs.Sums.{total}
use Rattle.chain_terms.specs.Chains.{edges}
use Rattle.chain_terms.specs.Odd.{IsOdd, along}
use Rattle.chain_terms.specs.Paths.{round_edges, last_of}
use Rattle.mesh_terms.specs.Meshes.{HasThree}
use Rattle.face_plane.specs.Planes.{Plane, orient}
use Rattle.face_plane.specs.Rings.{In, IsRing, without_place, vertex_at, vertex_before, vertex_after}
use Rattle.ring_cutting.specs.Cuts.{is_allowed, is_ear, first_ear, first_allowed, cut_place, forced_here, triple_at}
use Rattle.ring_cutting.specs.Laws.{IsOf}
use Rattle.ring_cutting.proofs.Members.{head_or, in_wider, in_middle, in_moved, last_in, head_in}
use Rattle.ring_cutting.proofs.Rounds.{cut_sum, parts_at, apart_without}
use Rattle.ring_cutting.proofs.Turned.{here_is, before_is, after_is, without_is, split_length, splits_at}
use Rattle.ring_cutting.proofs.Allowed.{from_allowed}
use Rattle.ring_cutting.proofs.Bent.{some_allowed}
use Rattle.ring_cutting.proofs.FirstPlaces.{passes, not_before}

-- what a cut at a place gives and leaves
pub record IsStep (r : List ℕ) (i : ℕ) : Type 0 where
  pub ringy : IsRing (without_place i r)
  pub shorter : length r ≡ suc (length (without_place i r))
  pub sums : (f : ℕ → ℕ → ℤ) → IsOdd f →
      total (along f) (round_edges r) ≡ total (along f) (edges (triple_at r i)) +ℤ total (along f) (round_edges (without_place i r))
  pub three : HasThree (triple_at r i)
  pub of : IsOf r (triple_at r i)
  pub within : (v : ℕ) → In v (without_place i r) → In v r

-- a vertex of the ring that begins at the place stands in the ring
in_ring : (a : List ℕ) (x : ℕ) (b : List ℕ) (v : ℕ) → In v (x ∷ (b ++ a)) → In v (a ++ x ∷ b)
in_ring a x b v h = in_moved v (x ∷ b) a h

step_middle : (a : List ℕ) (x : ℕ) (b : List ℕ) → IsRing (a ++ x ∷ b) → 4 ≤ length (a ++ x ∷ b) →
    is_allowed (a ++ x ∷ b) (length a) ≡ true → IsStep (a ++ x ∷ b) (length a)
step_middle a x b ringy four allowed =
    let may = from_allowed a x b allowed in
    let long : length (a ++ x ∷ b) ≡ suc (length (a ++ b)) = omega (arith, split_length a x b, length-append a b) in
    let some : 0 < length (b ++ a) = omega (arith, four, split_length a x b, length-append b a) in
    let parts = parts_at a x b some ringy.apart in
    let bent = may.bent in
    record {
      ringy = rw (without_is a x b)
          (record { long = omega (arith, four, long); apart = apart_without a x b some ringy.apart may.bent; three = may.three });
      shorter = rw (without_is a x b) long;
      sums = λ f odd. rw (before_is a x b, here_is a x b, after_is a x b, without_is a x b) (cut_sum f odd a x b some);
      three = rw (before_is a x b, here_is a x b, after_is a x b) (record { ab = parts.before; bc = parts.after; ca = λ e. bent (sym e) });
      of = rw (before_is a x b, here_is a x b, after_is a x b)
          (in_ring a x b (last_of x (b ++ a)) (last_in x (b ++ a)), in_middle a x b, in_ring a x b (head_or x (b ++ a)) (head_in x (b ++ a)));
      within = λ v h. in_wider v a x b (rw (without_is a x b) at h);
    }

-- an allowed place may be cut
pub step : (r : List ℕ) (i : ℕ) → IsRing r → 4 ≤ length r → i < length r → is_allowed r i ≡ true → IsStep r i
step r i ringy four within allowed =
    let s = splits_at r i within in
    let P : List ℕ → Type 0 = λ l. IsRing l → 4 ≤ length l → is_allowed l (length s.front) ≡ true → IsStep l (length s.front) in
    let Q : ℕ → Type 0 = λ k. is_allowed r k ≡ true → IsStep r k in
    let f : P r = subst P (sym s.joined) (step_middle s.front s.vertex s.back) in
    let g : Q i = subst Q (sym s.place) (f ringy four) in
    g allowed

-- the place that is cut
pub record IsChosen (at : Plane) (r : List ℕ) : Type 0 where
  pub within : cut_place at r < length r
  pub allowed : is_allowed r (cut_place at r) ≡ true
  pub left : forced_here at r ≡ 0 →
      int_lt (pos 0) (orient at (vertex_before r (cut_place at r)) (vertex_at r (cut_place at r)) (vertex_after r (cut_place at r))) ≡ true
  pub once : forced_here at r ≤ 1

chosen_ear : (at : Plane) (r : List ℕ) → first_ear at r < length r → IsChosen at r
chosen_ear at r l =
    let ear = passes (is_ear at r) (length r) l in
    let test : nat_lt (first_ear at r) (length r) ≡ true = lt-ltb (first_ear at r) (length r) l in
    let i = first_ear at r in
    let left = and_parts (is_allowed r i && int_lt (pos 0) (orient at (vertex_before r i) (vertex_at r i) (vertex_after r i))) _ ear in
    let both = and_parts (is_allowed r i) (int_lt (pos 0) (orient at (vertex_before r i) (vertex_at r i) (vertex_after r i))) left.0 in
    record { within = rw test l; allowed = rw test both.0; left = λ _. rw test both.1; once = rw test (omega arith) }

chosen_allowed : (at : Plane) (r : List ℕ) → IsRing r → 4 ≤ length r → length r ≤ first_ear at r → IsChosen at r
chosen_allowed at r ringy four l =
    let some = some_allowed r ringy four in
    let low : first_allowed r < length r = omega (arith, some.within, not_before (is_allowed r) (length r) some.place some.within some.allowed) in
    let test : nat_lt (first_ear at r) (length r) ≡ false = le-ltb (first_ear at r) (length r) l in
    record {
      within = rw test low;
      allowed = rw test (passes (is_allowed r) (length r) low);
      left =
          λ none. absurd (omega (arith, rw test at none));
      once = rw test (omega arith);
    }

pub chosen : (at : Plane) (r : List ℕ) → IsRing r → 4 ≤ length r → IsChosen at r
chosen at r ringy four = elim (cases_lt (first_ear at r) (length r)) as (λ _. IsChosen at r) [
  | inl l ↦ chosen_ear at r l
  | inr l ↦ chosen_allowed at r ringy four l
]
