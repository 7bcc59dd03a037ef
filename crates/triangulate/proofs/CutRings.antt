-- The cuttings of several rings.
use Rattle.std.specs.Prelude.{◌≡◌, ℕ, ◌*◌, ◌<◌, ◌≤◌, ℤ, List, [], ◌∷◌, true, false, Bool, cond, length, drop, filter}
use Rattle.std.specs.List.{All, concat, flat_map}
use Rattle.std.proofs.Common.{arith, refl, ap, inl, inr}
use Rattle.std.proofs.lemmas.Bool.{cases_Bool}
use Rattle.std.proofs.lemmas.Int.{ints}
use Rattle.std.proofs.lemmas.List.{length-append}
use Rattle.std.proofs.lemmas.List.Concat.{flat_map-append}
use Rattle.std.proofs.lemmas.List.Elements.{All-head, All-tail, All-nil, All-append, All-cons}
use Rattle.chain_terms.specs.Sums.{total}
use Rattle.chain_laws.specs.Sums.{total-append}
use Rattle.chain_terms.specs.Chains.{edges, all_edges}
use Rattle.chain_terms.specs.Odd.{along}
use Rattle.chain_terms.specs.Paths.{round_edges}
use Rattle.mesh_terms.specs.Meshes.{Triple, HasThree, IsBelow}
use Rattle.face_plane.specs.Planes.{Plane, plane_of, point_at, face_plane, exchanged, is_turned, settled_plane}
use Rattle.face_plane.specs.Rings.{IsRing}
use Rattle.ring_cutting.specs.Cuts.{Cut, cut_ring}
use Rattle.ring_cutting.specs.Laws.{TurnsLeft, IsCutting}
use Rattle.ring_cutting.proofs.WholeCuts.{cutting, below_of}
use Rattle.triangulate.specs.Fills.{both, cuts}
use Rattle.triangulate.specs.Laws.{AreCuttings}

-- the rings of a list keep what each ring keeps
one_more : (at : Plane) (n : ℕ) (r : List ℕ) (rs : List (List ℕ)) (c d : Cut) → All (λ v. v < n) r → IsCutting at r c → AreCuttings at n rs d → AreCuttings at n (r ∷ rs) (both c d)
one_more at n r rs c d below h k = record {
  count = omega (arith, h.count, k.count, length-append c.triples d.triples, length-append r (concat rs));
  chain = λ f odd.
      omega (
        arith,
        ints,
        h.chain f odd,
        k.chain f odd,
        ap (total (along f)) (flat_map-append edges c.triples d.triples),
        total-append (along f) (all_edges c.triples) (all_edges d.triples),
        total-append (along f) (round_edges r) (flat_map round_edges rs),
      );
  three = All-append HasThree c.triples d.triples h.three k.three;
  below = All-append (IsBelow n) c.triples d.triples (below_of n r c.triples below h.of) k.below;
  most = omega (arith, h.few, k.most, length-append c.triples d.triples);
  left = λ none. All-append (TurnsLeft at) c.triples d.triples (h.left (omega (arith, none))) (k.left (omega (arith, none)));
}

-- the cuttings of rings
pub cuttings : (at : Plane) (n : ℕ) (rs : List (List ℕ)) → All IsRing rs → All (λ r. All (λ v. v < n) r) rs → AreCuttings at n rs (cuts at rs)
cuttings at n [] ringy below = record {
  count = refl;
  chain = λ f odd. refl;
  three = All-nil HasThree;
  below = All-nil (IsBelow n);
  most = omega arith;
  left = λ none. All-nil (TurnsLeft at);
}
cuttings at n (r ∷ rs) ringy below =
    let Below : List ℕ → Type 0 = λ s. All (λ v. v < n) s in
    one_more at n r rs (cut_ring at r) (cuts at rs) (All-head Below r rs below) (cutting at r (All-head IsRing r rs ringy))
    (cuttings at n rs (All-tail IsRing r rs ringy) (All-tail Below r rs below))

-- each ring has no more places than all
pub all_short : (rs : List (List ℕ)) (m : ℕ) → length (concat rs) ≤ m → All (λ r. length r ≤ m) rs
all_short [] m h = All-nil (λ (r : List ℕ). length r ≤ m)
all_short (r ∷ rs) m h =
    All-cons (λ (s : List ℕ). length s ≤ m) r rs (omega (arith, h, length-append r (concat rs))) (all_short rs m (omega (arith, h, length-append r (concat rs))))

-- the plane of a face is that which its loops settle
pub settled : (drop_axis : ℕ) (points : List (List ℤ)) (loops : List (List ℕ)) →
    face_plane drop_axis (is_turned (plane_of drop_axis (point_at points)) loops) points ≡ settled_plane (plane_of drop_axis (point_at points)) loops
settled drop_axis points loops = by (is_turned (plane_of drop_axis (point_at points)) loops)
  where
    by : (b : Bool) → ◌≡◌ {A = Plane} (face_plane drop_axis b points) (cond b (exchanged (plane_of drop_axis (point_at points))) (plane_of drop_axis (point_at points)))
    by true = refl
    by false = refl

-- the cuttings of the first rings, and those of the others
pub record AreUnderWay (at : Plane) (rings : List (List ℕ)) (k : ℕ) (ts : List Triple) (n : ℕ) : Type 0 where
  pub most : n ≤ length ts
  pub cut : cuts at rings ≡ both (record { triples = ts; forced = n }) (cuts at (drop k rings))

-- some loops of three or more places have at least three times as many places
pub three_each : (p : List ℕ → Bool) (loops : List (List ℕ)) → All (λ l. 3 ≤ length l) loops → 3 * length (filter p loops) ≤ length (concat loops)
three_each p [] long = omega arith
three_each p (l ∷ ls) long =
    let P : List ℕ → Type 0 = λ m. 3 ≤ length m in
    let head : 3 ≤ length l = All-head P l ls long in
    let rest = three_each p ls (All-tail P l ls long) in
    elim (cases_Bool (p l)) as (λ _. 3 * length (filter p (l ∷ ls)) ≤ length (concat (l ∷ ls))) [
      | inl y ↦ rw y (omega (arith, head, rest, length-append l (concat ls)))
      | inr n ↦ rw n (omega (arith, rest, length-append l (concat ls)))
    ]
