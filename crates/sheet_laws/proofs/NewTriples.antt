-- The triangles that fill all planes where that is sound: three places each, all of them places of rims, and closed.
use Rattle.std.specs.Prelude.{◌≡◌, ℕ, ℤ, pos, ◌-ℤ◌, ◌*ℤ◌, ◌<ℤ◌, List, [], ◌∷◌, true, ◌==◌, filter, get_or, length, map, replicate}
use Rattle.std.specs.List.{All, AllPass, Contains, flat_map}
use Rattle.std.proofs.Common.{arith, refl, sym, ap, subst, inl, inr}
use Rattle.std.proofs.Math.IntN.{*ℤ-zero, *ℤ_comm}
use Rattle.std.proofs.lemmas.Bool.{cases_lt, eqb-true}
use Rattle.std.proofs.lemmas.Int.{ints}
use Rattle.std.proofs.lemmas.List.{length-append, length-replicate}
use Rattle.std.proofs.lemmas.List.Elements.{All-append, All-filter, All-map, All-replicate, All-weaker}
use Rattle.std.proofs.lemmas.List.Sums.{AllPass-from_list_all}
use Rattle.chain_terms.specs.Chains.{IsClosed, all_edges, dir}
use Rattle.chain_terms.specs.Sums.{up_from, upto}
use Rattle.chain_laws.specs.Chains.{dir_contains}
use Rattle.face_plane.specs.Planes.{Plane, orient}
use Rattle.hole_joining.specs.Laws.{settled_in}
use Rattle.mesh_terms.specs.Meshes.{HasThree, Triple}
use Rattle.ring_cutting.specs.Laws.{TurnsLeft}
use Rattle.sheet_terms.specs.Chains.{chain}
use Rattle.sheet_terms.specs.Crossings.{coplanar}
use Rattle.sheet_terms.specs.Faces.{Face, drop_of, in_plane, is_left, labels_of, seen, sides}
use Rattle.sheet_terms.specs.Filled.{Filling, filled, fillings, loops}
use Rattle.sheet_terms.specs.Kept.{free, is_out, kept, remains}
use Rattle.sheet_terms.specs.Needless.{side_edges}
use Rattle.sheet_terms.specs.Numbers.{border}
use Rattle.sheet_terms.specs.Regions.{Region, Side, all_sides, kept_region, region, regions, side_of}
use Rattle.sheet_terms.specs.Remesh.{is_closed, is_sound, new_labels, new_triples}
use Rattle.sheet_laws.specs.Planes.{FillsLeft}
use Rattle.sheet_laws.proofs.Corners.{All-firsts, All-flat, HaveWalks, IsOn, region_on, side_on, upto_below}
use Rattle.sheet_laws.proofs.PlanesKept.{regions_turn_left}
use Rattle.sheet_laws.proofs.SamePlanes.{none_forced, sound_parts}

-- a turn with a vertex twice is none
flat_front : (at : Plane) (a c : ℕ) → orient at a a c ≡ pos 0
flat_front at a c =
    let p = at a in
    let q = at c in
    let x : p.0 -ℤ p.0 ≡ pos 0 = omega (arith, ints) in
    let y : p.1 -ℤ p.1 ≡ pos 0 = omega (arith, ints) in
    omega (
      arith,
      ints,
      *ℤ_comm (p.0 -ℤ p.0) (q.1 -ℤ p.1),
      *ℤ_comm (p.1 -ℤ p.1) (q.0 -ℤ p.0),
      ap (λ t. (q.1 -ℤ p.1) *ℤ t) x,
      *ℤ-zero (q.1 -ℤ p.1),
      ap (λ t. (q.0 -ℤ p.0) *ℤ t) y,
      *ℤ-zero (q.0 -ℤ p.0),
    )

flat_back : (at : Plane) (a b : ℕ) → orient at a b b ≡ pos 0
flat_back at a b =
    let p = at a in let q = at b in omega (arith, ints, *ℤ_comm (q.0 -ℤ p.0) (q.1 -ℤ p.1))

flat_ends : (at : Plane) (a b : ℕ) → orient at a b a ≡ pos 0
flat_ends at a b =
    let p = at a in
    let q = at b in
    let x : p.0 -ℤ p.0 ≡ pos 0 = omega (arith, ints) in
    let y : p.1 -ℤ p.1 ≡ pos 0 = omega (arith, ints) in
    omega (arith, ints, ap (λ t. (q.0 -ℤ p.0) *ℤ t) y, *ℤ-zero (q.0 -ℤ p.0), ap (λ t. (q.1 -ℤ p.1) *ℤ t) x, *ℤ-zero (q.1 -ℤ p.1))

-- so a triangle that turns left has three different vertices
left_three : (at : Plane) (t : Triple) → TurnsLeft at t → HasThree t
left_three at t left = record {
  ab = λ e. let l : pos 0 <ℤ orient at t.0 t.0 t.2 = subst (λ v. pos 0 <ℤ orient at t.0 v t.2) (sym e) left in omega (arith, ints, l, flat_front at t.0 t.2);
  bc = λ e. let l : pos 0 <ℤ orient at t.0 t.1 t.1 = subst (λ v. pos 0 <ℤ orient at t.0 t.1 v) (sym e) left in omega (arith, ints, l, flat_back at t.0 t.1);
  ca = λ e. let l : pos 0 <ℤ orient at t.0 t.1 t.0 = subst (λ v. pos 0 <ℤ orient at t.0 t.1 v) e left in omega (arith, ints, l, flat_ends at t.0 t.1);
}

-- the test of a closed chain
closed_from : (es : List (ℕ × ℕ)) → is_closed es ≡ true → IsClosed es
closed_from es h a b = elim (cases_lt 0 (dir es a b)) as (λ _. dir es a b ≡ dir es b a) [
  | inl some ↦ at a b (dir_contains es a b some)
  | inr none ↦ elim (cases_lt 0 (dir es b a)) as (λ _. dir es a b ≡ dir es b a) [
    | inl back ↦ sym (at b a (dir_contains es b a back))
    | inr nothing ↦ omega (arith, none, nothing)
  ]
]
  where
    all : AllPass (λ e. dir es e.0 e.1 == dir es e.1 e.0) es
    all = AllPass-from_list_all (λ e. dir es e.0 e.1 == dir es e.1 e.0) es h

    at : (a b : ℕ) → Contains es (a, b) → dir es a b ≡ dir es b a
    at a b inside =
        eqb-true (dir es a b) (dir es b a) (subst (λ (e : ℕ × ℕ). (dir es e.0 e.1 == dir es e.1 e.0) ≡ true) inside.2 (all inside.0 (a, b) inside.1))

-- as many labels as triangles
pub as_many_labels : (gs : List Filling) → length (new_labels gs) ≡ length (new_triples gs)
as_many_labels [] = refl
as_many_labels (g ∷ gs) =
    omega (
      arith,
      length-append (replicate (length g.triples) g.label) (new_labels gs),
      length-append g.triples (new_triples gs),
      length-replicate (length g.triples) g.label,
      as_many_labels gs,
    )

-- what holds of the labels of triangles holds of those of the regions of a side
module _ (L : List ℕ → Type 0) where
  abbrev AreOf : List Region → Type 0
  AreOf rs = All (λ r. L r.label) rs

  regions_labelled : (at : Plane) (labels : List (List ℕ)) (fs : List Face) → All L labels → AreOf (regions at labels fs)
  regions_labelled at labels fs all =
      let cs = chain labels fs in
      let bs = map (border at labels cs) cs in
      let n = length fs in
      let js = upto (length labels) in
      All-flat (λ r. L r.label) (λ j. map (region at labels bs j) (up_from 1 n)) js
      (λ k d low. let j = get_or js k d in All-map (λ r. L r.label) (region at labels bs j) (up_from 1 n) (λ i e below. all j [] (upto_below (length labels) k d low)))

  side_labelled : (points : List (List ℤ)) (fs : List Face) (s : Face) → All (λ f. L f.label) fs → AreOf (side_of points fs s).regions
  side_labelled points fs s all =
      let On : Face → Type 0 = λ f. L f.label in
      let at = seen points s in
      let own = coplanar points fs s in
      let mine = All-filter (in_plane points s) On fs all in
      let out = filter (is_out (free at own)) own in
      let stay = filter (λ f. is_left at f.corners) (kept at own) in
      let stays : All On stay =
      All-filter (λ f. is_left at f.corners) On (kept at own)
      (All-filter (remains at out) On out (All-filter (is_out (free at own)) On own mine)) in
      All-append (λ r. L r.label) (regions at (labels_of own) (free at own)) (map kept_region stay)
      (regions_labelled at (labels_of own) (free at own) (All-firsts L _ [] (map (λ f. f.label) own) (All-map L (λ f. f.label) own mine)))
      (All-map (λ r. L r.label) kept_region stay stays)

module _ (points : List (List ℤ)) (fs : List Face) where
  abbrev pub ss : List Side
  ss = all_sides points fs

  abbrev pub es : List (ℕ × ℕ)
  es = flat_map side_edges ss

  abbrev pub gs : List Filling
  gs = fillings points es ss

  -- what holds of each region that is filled
  pub All-fillings : (G : Filling → Type 0) → All (λ s. All (λ r. G (filled points es s r)) s.regions) ss → All G gs
  All-fillings G all = All-flat G (λ s. map (filled points es s) s.regions) ss (λ k d low. let s = get_or ss k d in All-map G (filled points es s) s.regions (all k d low))

  pub new_labelled : (L : List ℕ → Type 0) → All (λ f. L f.label) fs → All L (new_labels gs)
  new_labelled L all =
      let labelled = All-map (λ s. All (λ r. L r.label) s.regions) (side_of points fs)
      (sides points fs) (λ k d low. side_labelled L points fs (get_or (sides points fs) k d) all) in
      All-flat L (λ g. replicate (length g.triples) g.label) gs
      (All-weaker (λ g. L g.label) (λ g. All L (replicate (length g.triples) g.label)) (λ g is. All-replicate L (length g.triples) g.label is) gs
      (All-fillings (λ g. L g.label) labelled))

  module _ (sound : is_sound points fs ss gs ≡ true) where
    none : All (λ s. All (λ r. (filled points es s r).forced ≡ 0) s.regions) ss
    none = none_forced points es ss (sound_parts points fs ss gs sound).none

    All-new : (R : Triple → Type 0) → All (λ s. All (λ r. All R (filled points es s r).triples) s.regions) ss → All R (new_triples gs)
    All-new R all = All-flat R (λ g. g.triples) gs (All-fillings (λ g. All R g.triples) all)

    pub new_three : All HasThree (new_triples gs)
    new_three =
        All-new HasThree
        (All-weaker (λ s. All (FillsLeft points es s) s.regions) (λ s. All (λ r. All HasThree (filled points es s r).triples) s.regions)
        (λ s all. All-weaker (FillsLeft points es s) (λ r. All HasThree (filled points es s r).triples)
        (λ r left.
        let at = settled_in (drop_of points s.face) points (loops points (seen points s.face) es r) in
        All-weaker (TurnsLeft at) HasThree (left_three at) (filled points es s r).triples left) s.regions all) ss (regions_turn_left points fs ss sound))

    pub sides_on : (P : ℕ → Type 0) → All (λ f. All P f.rim) fs → All (λ s. HaveWalks P s.regions) ss
    sides_on P rims = All-map (λ s. HaveWalks P s.regions) (side_of points fs) (sides points fs) (λ k d low. side_on P points fs (get_or (sides points fs) k d) rims)

    pub new_on : (P : ℕ → Type 0) → All (λ f. All P f.rim) fs → All (IsOn P) (new_triples gs)
    new_on P rims =
        let walks = sides_on P rims in
        All-new (IsOn P)
        (λ k d low i e below. let s = get_or ss k d in region_on P points es s (get_or s.regions i e) (none k d low i e below) (walks k d low i e below))

    pub new_closed : IsClosed (all_edges (new_triples gs))
    new_closed = closed_from (all_edges (new_triples gs)) (sound_parts points fs ss gs sound).closed
