-- What the lists of a split mesh are known to be.
use Rattle.std.proofs.Common.{◌≡◌, ◌<◌, ◌≤◌, ◌*◌, ℕ, zero, suc, Bool, true, false, List, [], ◌∷◌, map, length, get_or, refl, sym, ◌∙◌, ap, subst, arith}
use Rattle.std.specs.List.{All}
use Rattle.std.proofs.lemmas.List.{get_or_default, get_or-map, length-map, same_lists}
use Rattle.std.proofs.lemmas.List.Elements.{All-head, All-tail}
use Rattle.chain_terms.specs.Chains.{is_edge, one_if, dir, all_edges}
use Rattle.chain_terms.specs.Ranks.{start, finish, twin}
use Rattle.chain_laws.specs.Chains.{renamed, edge_is, is_self}
use Rattle.chain_laws.proofs.Twins.{twin_runs_back}
use Rattle.mesh_terms.specs.Fans.{AreFans}
use Rattle.mesh_terms.specs.Meshes.{Triple, IsBelow, IsMesh, IsAccepted}
use Rattle.mesh_terms.specs.Twins.{IsTwinned}
use Rattle.halfedge.specs.Laws.{AreSingle}
use Rattle.halfedge.proofs.Edges.{length-all_edges}
use Rattle.pinch_split.specs.Given.{corners, starts_of}
use Rattle.pinch_split.proofs.Corners.{length-corners}
use Rattle.pinch_split.proofs.Anew.{HasFans, old, anew, fan, length-anew, start_of_fan, start_anew, finish_anew, three_anew, below_anew, used_anew, closed_anew}
use Rattle.pinch_split.proofs.TwinsStay.{twins_stay}
use Rattle.pinch_split.proofs.Clean.{few_fans}

-- an accepted mesh and its fans
pub has_fans : (points : ℕ) (ts : List Triple) (of first : List ℕ) → IsAccepted points ts → AreFans (all_edges ts) of first → HasFans ts of first
has_fans points ts of first accepted fans = record { three = accepted.mesh.three; closed = accepted.closed; fans = fans }

-- the first half-edges are half-edges
pub firsts_below : (ts : List Triple) (of first : List ℕ) → HasFans ts of first → All (λ h. h < 3 * length ts) first
firsts_below ts of first known k d low =
    subst (λ h. h < 3 * length ts) (get_or_default first k 0 d low) (omega (arith, (known.fans.first_in k low).0, length-all_edges ts))

-- a half-edge starts at a point
pub start_below : (n : ℕ) (ts : List Triple) → All (IsBelow n) ts → (h : ℕ) → h < length (all_edges ts) → start (all_edges ts) h < n
start_below n [] below h low = absurd (omega (arith, low))
start_below n (t ∷ ts) below zero low = (All-head (IsBelow n) t ts below).a
start_below n (t ∷ ts) below (suc zero) low = (All-head (IsBelow n) t ts below).b
start_below n (t ∷ ts) below (suc (suc zero)) low = (All-head (IsBelow n) t ts below).c
start_below n (t ∷ ts) below (suc (suc (suc h))) low = start_below n ts (All-tail (IsBelow n) t ts below) h (omega (arith, low))

-- the old vertices are points
pub starts_below : (points : ℕ) (ts : List Triple) (of first : List ℕ) → IsAccepted points ts → HasFans ts of first → All (λ v. v < points) (starts_of ts first)
starts_below points ts of first accepted known k d low =
    let within : k < length first = omega (arith, low, length-map first (start (all_edges ts))) in
    subst (λ v. v < points) (sym (get_or-map (start (all_edges ts)) first k 0 d within))
    (start_below points ts accepted.mesh.below (get_or first k 0) (known.fans.first_in k within).0)

-- each half-edge has its fan
pub as_many_fans : (ts : List Triple) (of first : List ℕ) → HasFans ts of first → length of ≡ 3 * length ts
as_many_fans ts of first known = known.fans.one_each ∙ length-all_edges ts

-- the twins are those of the new triangles
pub twinned_anew : (ts : List Triple) (of first twins : List ℕ) → HasFans ts of first → IsTwinned ts twins → IsTwinned (corners of (length ts)) twins
twinned_anew ts of first twins known kept = record {
  few = omega (arith, kept.few, length-corners (fan of) (length ts));
  three = three_anew ts of first known;
  closed = closed_anew ts of first known;
  each = kept.each ∙ sym (twins_stay ts of first known);
}

-- the points and new triangles are a mesh
pub mesh_anew : (points : ℕ) (ts : List Triple) (of first : List ℕ) → IsAccepted points ts → HasFans ts of first → IsMesh (length first) (corners of (length ts))
mesh_anew points ts of first accepted known = record {
  three = three_anew ts of first known;
  below = below_anew ts of first known;
  used = used_anew ts of first known;
  few_points = omega (arith, few_fans ts of first known, length-all_edges ts, accepted.mesh.few_triples);
  few_triples = omega (arith, accepted.mesh.few_triples, length-corners (fan of) (length ts));
}

-- an edge that runs from a to b does so with other names
renamed_edge : (r : ℕ → ℕ) (e : ℕ × ℕ) (a b : ℕ) → one_if (is_edge e a b) ≤ one_if (is_edge (renamed r e) (r a) (r b))
renamed_edge r e a b = by (is_edge e a b) refl
  where
    by : (t : Bool) → is_edge e a b ≡ t → one_if t ≤ one_if (is_edge (renamed r e) (r a) (r b))
    by false is = omega arith
    by true is =
        let ends = edge_is e a b is in
        let same : is_edge (renamed r e) (r a) (r b) ≡ true = (λ i. is_edge (renamed r e) (r (sym ends.0 i)) (r (sym ends.1 i))) ∙ is_self (r e.0) (r e.1) in
        omega (arith, ap one_if same)

-- no fewer edges run between the new names
dir-renamed : (r : ℕ → ℕ) (es : List (ℕ × ℕ)) (a b : ℕ) → dir es a b ≤ dir (map (renamed r) es) (r a) (r b)
dir-renamed r [] a b = omega arith
dir-renamed r (e ∷ es) a b = omega (arith, renamed_edge r e a b, dir-renamed r es a b)

-- the old vertices put for the fans give the half-edges again
again : (ts : List Triple) (of first : List ℕ) → HasFans ts of first → map (renamed (λ k. start (old ts) (get_or first k 0))) (anew ts of) ≡ old ts
again ts of first known = same_lists (map (renamed r) (anew ts of)) (old ts) (length-map (anew ts of) (renamed r) ∙ length-anew ts of) each
  where
    r : ℕ → ℕ
    r k = start (old ts) (get_or first k 0)

    same : (h : ℕ) → h < length (old ts) → renamed r (get_or (anew ts of) h (0, 0)) ≡ get_or (old ts) h (0, 0)
    same h below =
        let back = twin_runs_back (old ts) known.closed h below in
        let starts : r (start (anew ts of) h) ≡ start (old ts) h = ap r (start_anew ts of h below) ∙ sym (start_of_fan ts of first known h below) in
        let ends : r (finish (anew ts of) h) ≡ finish (old ts) h = ap r (finish_anew ts of first known h below)
        ∙ sym (start_of_fan ts of first known (twin (old ts) h) back.within) ∙ back.from in
        λ i. (starts i, ends i)

    each : (h : ℕ) (d : ℕ × ℕ) → h < length (map (renamed r) (anew ts of)) → get_or (map (renamed r) (anew ts of)) h d ≡ get_or (old ts) h d
    each h d low =
        let within : h < length (anew ts of) = omega (arith, low, length-map (anew ts of) (renamed r)) in
        let below : h < length (old ts) = omega (arith, within, length-anew ts of) in
        get_or-map (renamed r) (anew ts of) h (0, 0) d within ∙ same h below ∙ get_or_default (old ts) h (0, 0) d below

-- no two half-edges run the same way where none did
pub single_anew : (ts : List Triple) (of first : List ℕ) → HasFans ts of first → AreSingle (all_edges ts) → AreSingle (all_edges (corners of (length ts)))
single_anew ts of first known single a b =
    let r : ℕ → ℕ = λ k. start (old ts) (get_or first k 0) in
    omega (arith, dir-renamed r (anew ts of) a b, ap (λ l. dir l (r a) (r b)) (again ts of first known), single (r a) (r b))
