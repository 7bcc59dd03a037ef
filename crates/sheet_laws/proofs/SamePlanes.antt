-- Where what fills the planes is sound, each plane keeps the boundary of its triangles.
use Rattle.std.specs.Prelude.{◌≡◌, ℕ, ℤ, List, [], ◌∷◌, ◌++◌, true, Bool, not, ◌&&◌, ◌==◌, filter, length, get_or, map, sum_by}
use Rattle.std.specs.List.{All, AllPass, Contains, flat_map, list_all}
use Rattle.std.specs.Ordering.{int_eq}
use Rattle.std.proofs.Common.{arith, refl, sym, subst, ◌∙◌, inl, inr}
use Rattle.std.proofs.lemmas.Bool.{and_parts, cases_lt, eqb-true, not-true}
use Rattle.std.proofs.lemmas.Bool.Decides.{Decides-int_eq}
use Rattle.std.proofs.lemmas.Int.{ints}
use Rattle.std.proofs.lemmas.List.Elements.{All-cons, All-filter, All-head, All-map, All-nil, All-tail, All-weaker, filter_passes}
use Rattle.std.proofs.lemmas.List.Folds.{sum_by-zero}
use Rattle.std.proofs.lemmas.List.Sums.{AllPass-from_list_all}
use Rattle.chain_terms.specs.Chains.{all_edges, boundary, dir, edges}
use Rattle.chain_terms.specs.Odd.{SameChain, along}
use Rattle.chain_terms.specs.Paths.{round_edges}
use Rattle.chain_terms.specs.Sums.{total, upto}
use Rattle.chain_laws.specs.Chains.{dir-append, dir_contains, same_boundary}
use Rattle.chain_laws.specs.Sums.{total-flat_map, total-map, total-same_all}
use Rattle.face_plane.specs.Planes.{Plane}
use Rattle.hole_joining.proofs.Turning.{round_turned}
use Rattle.mesh_terms.specs.Meshes.{Mesh, Triple}
use Rattle.sheet_terms.specs.Cuts.{rim}
use Rattle.sheet_terms.specs.Faces.{Face, drop_of, face_of, faces, in_plane, is_flat, planes, rim_edges, seen}
use Rattle.sheet_terms.specs.Filled.{Filling, begun, beginning, comes_before, filled, fillings, keeps_boundary, loops}
use Rattle.sheet_terms.specs.Filled.{same_boundary as boundaries_agree}
use Rattle.sheet_terms.specs.Needless.{side_edges, thinned, walk_edges}
use Rattle.sheet_terms.specs.Places.{has_three}
use Rattle.sheet_terms.specs.Regions.{Region, Side, all_sides}
use Rattle.sheet_terms.specs.Remesh.{is_closed, is_sound, new_triples}
use Rattle.sheet_laws.specs.Lines.{AddsAlongLines, SameOnLines}
use Rattle.sheet_laws.specs.Planes.{new_in_plane, old_in_plane, side_triples}
use Rattle.sheet_laws.proofs.Joined.{filled_unforced}
use Rattle.sheet_laws.proofs.Rims.{IsCut, rims_on_lines, total-ordered}
use Rattle.sheet_laws.proofs.Thinned.{IsKnown, all_known, thinned_sum}

-- what holds of lists one after the other holds of each
pub flat_parts : {X Y : Type 0} (P : Y → Type 0) (h : X → List Y) (xs : List X) → All P (flat_map h xs) → All (λ x. All P (h x)) xs
flat_parts P h [] all = All-nil (λ x. All P (h x))
flat_parts P h (x ∷ xs) all =
    let parts = append_parts P (h x) (flat_map h xs) all in All-cons (λ x. All P (h x)) x xs parts.0 (flat_parts P h xs parts.1)
  where
    append_parts : {Z : Type 0} (Q : Z → Type 0) (ys zs : List Z) → All Q (ys ++ zs) → All Q ys × All Q zs
    append_parts Q [] zs all = (All-nil Q, all)
    append_parts Q (y ∷ ys) zs all =
        let rest = append_parts Q ys zs (All-tail Q y (ys ++ zs) all) in (All-cons Q y ys (All-head Q y (ys ++ zs) all) rest.0, rest.1)

-- what holds of what is made of members
pub from_map : {X Y : Type 0} (P : Y → Type 0) (h : X → Y) (xs : List X) → All P (map h xs) → All (λ x. P (h x)) xs
from_map P h [] all = All-nil (λ x. P (h x))
from_map P h (x ∷ xs) all = All-cons (λ x. P (h x)) x xs (All-head P (h x) (map h xs) all) (from_map P h xs (All-tail P (h x) (map h xs) all))

-- chains whose boundaries agree where one of them has an edge are one chain
pub agree : (es ms : List (ℕ × ℕ)) → boundaries_agree es ms ≡ true → SameChain es ms
agree es ms h = same_boundary es ms everywhere
  where
    test : (ℕ × ℕ) → Bool
    test e = int_eq (boundary es e.0 e.1) (boundary ms e.0 e.1)

    all : AllPass test (es ++ ms)
    all = AllPass-from_list_all test (es ++ ms) h

    at : (a b : ℕ) → Contains (es ++ ms) (a, b) → boundary es a b ≡ boundary ms a b
    at a b inside = (Decides-int_eq (boundary es a b) (boundary ms a b)).0 (subst (λ e. test e ≡ true) inside.2 (all inside.0 (a, b) inside.1))

    everywhere : (a b : ℕ) → boundary es a b ≡ boundary ms a b
    everywhere a b = elim (cases_lt 0 (dir (es ++ ms) a b)) as (λ _. boundary es a b ≡ boundary ms a b) [
      | inl some ↦ at a b (dir_contains (es ++ ms) a b some)
      | inr none ↦ elim (cases_lt 0 (dir (es ++ ms) b a)) as (λ _. boundary es a b ≡ boundary ms a b) [
        | inl back ↦ omega (arith, ints, at b a (dir_contains (es ++ ms) b a back))
        | inr nothing ↦ omega (arith, ints, none, nothing, dir-append es ms a b, dir-append es ms b a)
      ]
    ]

-- no filling has a forced triangle
pub none_forced : (points : List (List ℤ)) (es : List (ℕ × ℕ)) (ss : List Side) → (sum_by (λ (g : Filling). g.forced) (fillings points es ss) == 0) ≡ true →
    All (λ s. All (λ r. (filled points es s r).forced ≡ 0) s.regions) ss
none_forced points es ss h =
    let forced : Filling → ℕ = λ g. g.forced in
    let gs = fillings points es ss in
    let each = AllPass-from_list_all (λ g. forced g == 0) gs (sym (sum_by-zero forced gs) ∙ h) in
    let none = All-weaker (λ g. (forced g == 0) ≡ true) (λ g. forced g ≡ 0) (λ g e. eqb-true (forced g) 0 e) gs each in
    All-weaker (λ s. All (λ g. forced g ≡ 0) (map (filled points es s) s.regions)) (λ s. All (λ r. (filled points es s r).forced ≡ 0) s.regions)
    (λ s all. from_map (λ g. forced g ≡ 0) (filled points es s) s.regions all) ss
    (flat_parts (λ g. forced g ≡ 0) (λ s. map (filled points es s) s.regions) ss none)

module _ (points : List (List ℤ)) (es : List (ℕ × ℕ)) (f : ℕ → ℕ → ℤ) (adds : AddsAlongLines points f) where
  -- the sum round a walk
  abbrev round : List ℕ → ℤ
  round walk = total (along f) (round_edges walk)

  -- the loops of a region have the sums of its walks
  loops_sum : (at : Plane) (r : Region) → All (λ w. All (IsKnown es) (round_edges w)) r.walks →
      total (along f) (flat_map round_edges (loops points at es r)) ≡ total (along f) (walk_edges r.walks)
  loops_sum at r known =
      let start : List ℕ → List ℕ = λ walk. begun at (thinned points es walk) in
      total-flat_map (along f) round_edges (loops points at es r) ∙ total-ordered round comes_before (map start r.walks) ∙ total-map round start r.walks
      ∙ total-same_all (λ walk. round (start walk)) round r.walks
      (All-weaker (λ w. All (IsKnown es) (round_edges w)) (λ w. round (start w) ≡ round w)
      (λ w all. round_turned (along f) (beginning at (thinned points es w)) (thinned points es w) ∙ thinned_sum points es f adds w all) r.walks known)
      ∙ sym (total-flat_map (along f) round_edges r.walks)

  -- so have its triangles
  region_sum : (s : Side) (r : Region) → (filled points es s r).forced ≡ 0 → All (λ w. All (IsKnown es) (round_edges w)) r.walks →
      total (along f) (all_edges (filled points es s r).triples) ≡ total (along f) (walk_edges r.walks)
  region_sum s r none known =
      (filled_unforced (drop_of points s.face) points (loops points (seen points s.face) es r) none).chain f adds.odd ∙ loops_sum (seen points s.face) r known

  -- what is needed of a side
  record IsReady (s : Side) : Type 0 where
    none : All (λ r. (filled points es s r).forced ≡ 0) s.regions
    known : All (λ r. All (λ w. All (IsKnown es) (round_edges w)) r.walks) s.regions

  -- the triangles of a side
  edge_sum : (ts : List Triple) → total (along f) (all_edges ts) ≡ total (λ t. total (along f) (edges t)) ts
  edge_sum ts = total-flat_map (along f) edges ts

  side_sum : (s : Side) → IsReady s → total (λ t. total (along f) (edges t)) (side_triples points es s) ≡ total (along f) (side_edges s)
  side_sum s ready =
      let g : Triple → ℤ = λ t. total (along f) (edges t) in
      total-flat_map g (λ r. (filled points es s r).triples) s.regions
      ∙ total-same_all (λ r. total g (filled points es s r).triples) (λ r. total (along f) (walk_edges r.walks)) s.regions
      (λ k d low. sym (edge_sum (filled points es s (get_or s.regions k d)).triples) ∙ region_sum s (get_or s.regions k d) (ready.none k d low) (ready.known k d low))
      ∙ sym (total-flat_map (along f) (λ r. walk_edges r.walks) s.regions)

  sides_sum : (ss : List Side) → All IsReady ss → total (along f) (all_edges (flat_map (side_triples points es) ss)) ≡ total (along f) (flat_map side_edges ss)
  sides_sum ss ready =
      let g : Triple → ℤ = λ t. total (along f) (edges t) in
      edge_sum (flat_map (side_triples points es) ss) ∙ total-flat_map g (side_triples points es) ss
      ∙ total-same_all (λ s. total g (side_triples points es s)) (λ s. total (along f) (side_edges s)) ss
      (All-weaker IsReady (λ s. total g (side_triples points es s) ≡ total (along f) (side_edges s)) side_sum ss ready)
      ∙ sym (total-flat_map (along f) side_edges ss)

-- the edges of all walks are known
sides_known : (es : List (ℕ × ℕ)) (ss : List Side) → All (IsKnown es) (flat_map side_edges ss) →
    All (λ s. All (λ r. All (λ w. All (IsKnown es) (round_edges w)) r.walks) s.regions) ss
sides_known es ss all =
    All-weaker (λ s. All (IsKnown es) (side_edges s)) (λ s. All (λ r. All (λ w. All (IsKnown es) (round_edges w)) r.walks) s.regions)
    (λ s known. All-weaker (λ r. All (IsKnown es) (walk_edges r.walks)) (λ r. All (λ w. All (IsKnown es) (round_edges w)) r.walks)
    (λ r here. flat_parts (IsKnown es) round_edges r.walks here) s.regions (flat_parts (IsKnown es) (λ r. walk_edges r.walks) s.regions known)) ss
    (flat_parts (IsKnown es) side_edges ss all)

-- the triangles of a mesh have their rims, and none is flat
pub faces_cut : (points : List (List ℤ)) (m : Mesh) → All (IsCut points) (faces points m)
faces_cut points m k d low =
    let test : Face → Bool = λ f. has_three f.corners && not (is_flat points f.corners) in
    let made = map (face_of points m) (upto (length m.triples)) in
    let rimmed = All-map (λ (f : Face). f.rim ≡ rim points f.corners) (face_of points m) (upto (length m.triples)) (λ k d low. refl) in
    let passes = filter_passes test made k d low in
    let f = get_or (filter test made) k d in
    record {
      rimmed = All-filter test (λ (f : Face). f.rim ≡ rim points f.corners) made rimmed k d low;
      bent = not-true (is_flat points f.corners) (and_parts (has_three f.corners) (not (is_flat points f.corners)) passes).1;
    }

-- the parts of what is sound
pub record AreSound (points : List (List ℤ)) (fs : List Face) (ss : List Side) (gs : List Filling) : Type 0 where
  pub none : (sum_by (λ (g : Filling). g.forced) gs == 0) ≡ true
  pub kept : AllPass (keeps_boundary points fs ss) (planes points fs)
  pub closed : is_closed (all_edges (new_triples gs)) ≡ true

pub sound_parts : (points : List (List ℤ)) (fs : List Face) (ss : List Side) (gs : List Filling) → is_sound points fs ss gs ≡ true → AreSound points fs ss gs
sound_parts points fs ss gs h =
    let none = sum_by (λ (g : Filling). g.forced) gs == 0 in
    let each = list_all (keeps_boundary points fs ss) (planes points fs) in
    let all = and_parts (none && each) (is_closed (all_edges (new_triples gs))) h in
    let two = and_parts none each all.0 in
    record { none = two.0; kept = AllPass-from_list_all (keeps_boundary points fs ss) (planes points fs) two.1; closed = all.1 }

-- in each plane the boundary along lines is kept
pub boundaries_are_kept : (points : List (List ℤ)) (m : Mesh) →
    (let fs = faces points m in
    let ss = all_sides points fs in
    is_sound points fs ss (fillings points (flat_map side_edges ss) ss) ≡ true →
    All (λ s. SameOnLines points (all_edges (new_in_plane points ss s)) (all_edges (old_in_plane points fs s))) (planes points fs))
boundaries_are_kept points m sound k d low f adds =
    let fs = faces points m in
    let ss = all_sides points fs in
    let es = flat_map side_edges ss in
    let parts = sound_parts points fs ss (fillings points es ss) sound in
    let none = none_forced points es ss parts.none in
    let known = sides_known es ss (all_known es) in
    let s = get_or (planes points fs) k d in
    let mine : Side → Bool = λ t. in_plane points s t.face in
    let own = filter (in_plane points s) fs in
    let ready : All (IsReady points es f adds) ss = λ i e below. record { none = none i e below; known = known i e below } in
    sides_sum points es f adds (filter mine ss) (All-filter mine (IsReady points es f adds) ss ready)
    ∙ agree (flat_map side_edges (filter mine ss)) (rim_edges own) (parts.kept k d low) f adds.odd
    ∙ rims_on_lines points own (All-filter (in_plane points s) (IsCut points) fs (faces_cut points m)) f adds
