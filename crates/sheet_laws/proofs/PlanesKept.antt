-- In each plane that is filled anew the covers and the areas stay, and each new triangle turns left.
use Rattle.std.specs.Prelude.{◌≡◌, ℕ, ℤ, pos, neg_ℤ, ◌+ℤ◌, ◌-ℤ◌, ◌*ℤ◌, List, Bool, true, false, cond, ◌==◌, get_or, if◌then◌else◌, int_lt}
use Rattle.std.specs.List.{All, flat_map}
use Rattle.std.proofs.Common.{arith, sym, ap, ◌∙◌}
use Rattle.std.proofs.Math.IntN.{*ℤ-zero, *ℤ_comm}
use Rattle.std.proofs.lemmas.Int.{ints}
use Rattle.std.proofs.lemmas.List.Elements.{All-weaker}
use Rattle.chain_terms.specs.Chains.{all_edges}
use Rattle.chain_terms.specs.Odd.{along}
use Rattle.chain_terms.specs.Sums.{total}
use Rattle.chain_laws.specs.Areas.{area_at, orientation}
use Rattle.chain_laws.specs.Products.{mul-add, mul-assoc, mul-sub}
use Rattle.chain_laws.specs.Sums.{total-same}
use Rattle.chain_laws.proofs.Areas.{area_odd, areas_of_triangles}
use Rattle.cover_laws.specs.Covers.{passes, place}
use Rattle.cover_laws.proofs.Passing.{passes_add, passes_turn}
use Rattle.face_plane.specs.Planes.{Plane, face_plane, flat_at, orient, point_at, swapped}
use Rattle.mesh_terms.specs.Meshes.{Triple}
use Rattle.mesh_terms.specs.Points.{coordinate_of}
use Rattle.plane_laws.specs.Areas.{Place, area, exchanged, minor}
use Rattle.sheet_terms.specs.Faces.{drop_of, faces, normal, planes, seen}
use Rattle.sheet_terms.specs.Filled.{fillings, filled, loops}
use Rattle.sheet_terms.specs.Needless.{side_edges}
use Rattle.sheet_terms.specs.Regions.{all_sides}
use Rattle.sheet_laws.specs.Lines.{AddsAlongLines, LieInLine, SameOnLines}
use Rattle.sheet_laws.specs.Planes.{FillsLeft, KeepsPlane, SoundPlanesAreKept, SoundRegionsTurnLeft, enlarged, new_in_plane, old_in_plane}
use Rattle.sheet_laws.proofs.InLine.{InLine, line_of}
use Rattle.sheet_laws.proofs.Joined.{filled_unforced}
use Rattle.sheet_laws.proofs.SamePlanes.{boundaries_are_kept, none_forced, sound_parts}

-- exchanged coordinates turn the sign of an area
swapped_area : (a b c : ℤ × ℤ) → area (place (swapped a)) (place (swapped b)) (place (swapped c)) ≡ neg_ℤ (area (place a) (place b) (place c))
swapped_area a b c =
    omega (arith, ints, *ℤ_comm a.1 b.0, *ℤ_comm b.1 a.0, *ℤ_comm b.1 c.0, *ℤ_comm c.1 b.0, *ℤ_comm c.1 a.0, *ℤ_comm a.1 c.0)

-- points on a line lie on a line in each plane that drops an axis
flat_line : (d : ℕ) (turned : Bool) (p q r : List ℤ) → InLine p q r → area (place (flat_at d turned p)) (place (flat_at d turned q)) (place (flat_at d turned r)) ≡ pos 0
flat_line d turned p q r h = by (d == 2) (d == 1) turned
  where
    flat : Bool → Bool → List ℤ → ℤ × ℤ
    flat s t x =
        if s then (coordinate_of x 0, coordinate_of x 1) else if t then (coordinate_of x 2, coordinate_of x 0) else (coordinate_of x 1, coordinate_of x 2)

    on : (s t : Bool) → area (place (flat s t p)) (place (flat s t q)) (place (flat s t r)) ≡ pos 0
    on true t = h.z
    on false true = h.y
    on false false = h.x

    by : (s t w : Bool) →
        area (place (cond w (swapped (flat s t p)) (flat s t p))) (place (cond w (swapped (flat s t q)) (flat s t q)))
        (place (cond w (swapped (flat s t r)) (flat s t r))) ≡ pos 0
    by s t false = on s t
    by s t true = omega (arith, ints, swapped_area (flat s t p) (flat s t q) (flat s t r), on s t)

-- in a plane that is enlarged
times_two : (k a b : ℤ) → (k *ℤ a) *ℤ (k *ℤ b) ≡ (k *ℤ k) *ℤ (a *ℤ b)
times_two k a b = mul-assoc k a (k *ℤ b) ∙ ap (λ t. k *ℤ t) (exchanged a k b) ∙ sym (mul-assoc k k (a *ℤ b))

large_area : (k : ℤ) (a b c : ℤ × ℤ) → area (place a) (place b) (place c) ≡ pos 0 →
    area (place (k *ℤ a.0, k *ℤ a.1)) (place (k *ℤ b.0, k *ℤ b.1)) (place (k *ℤ c.0, k *ℤ c.1)) ≡ pos 0
large_area k a b c none =
    let s = place a in
    let t = place b in
    let v = place c in
    omega (
      arith,
      ints,
      times_two k a.0 b.1,
      times_two k b.0 a.1,
      times_two k b.0 c.1,
      times_two k c.0 b.1,
      times_two k c.0 a.1,
      times_two k a.0 c.1,
      mul-sub (k *ℤ k) (a.0 *ℤ b.1) (b.0 *ℤ a.1),
      mul-sub (k *ℤ k) (b.0 *ℤ c.1) (c.0 *ℤ b.1),
      mul-sub (k *ℤ k) (c.0 *ℤ a.1) (a.0 *ℤ c.1),
      mul-add (k *ℤ k) (minor s t) (minor t v),
      mul-add (k *ℤ k) (minor s t +ℤ minor t v) (minor v s),
      ap (λ z. (k *ℤ k) *ℤ z) none,
      *ℤ-zero (k *ℤ k),
    )

module _ (points : List (List ℤ)) (d : ℕ) (turned : Bool) where
  abbrev pub at : Plane
  at = face_plane d turned points

  on_line : (a b c : ℕ) → LieInLine points a b c → area (place (at a)) (place (at b)) (place (at c)) ≡ pos 0
  on_line a b c h = flat_line d turned (point_at points a) (point_at points b) (point_at points c) (line_of (point_at points a) (point_at points b) (point_at points c) h)

  -- edges that pass below a place add up along lines
  pub passing_adds : (k : ℤ) (p : Place) → AddsAlongLines points (λ a b. passes p (place (enlarged k at a)) (place (enlarged k at b)))
  passing_adds k p = record {
    odd = record { turns = λ a b. passes_turn p (place (enlarged k at a)) (place (enlarged k at b)) };
    adds = λ a b c h. passes_add p (place (enlarged k at a)) (place (enlarged k at b)) (place (enlarged k at c)) (large_area k (at a) (at b) (at c) (on_line a b c h));
  }

  -- so do areas
  pub areas_add : AddsAlongLines points (area_at (λ v. (at v).0) (λ v. (at v).1))
  areas_add = record { odd = area_odd (λ v. (at v).0) (λ v. (at v).1); adds = λ a b c h. omega (arith, ints, on_line a b c h) }

  -- triangles have those of their boundary
  turns_sum : (ts : List Triple) → total (λ t. orient at t.0 t.1 t.2) ts ≡ total (along (area_at (λ v. (at v).0) (λ v. (at v).1))) (all_edges ts)
  turns_sum ts =
      total-same (λ t. orient at t.0 t.1 t.2) (orientation (λ v. (at v).0) (λ v. (at v).1))
      (λ t. omega (arith, ints, *ℤ_comm ((at t.1).1 -ℤ (at t.0).1) ((at t.2).0 -ℤ (at t.0).0))) ts
      ∙ sym (areas_of_triangles (λ v. (at v).0) (λ v. (at v).1) ts)

  pub keeps_plane : (new old : List Triple) → SameOnLines points (all_edges new) (all_edges old) → KeepsPlane points at new old
  keeps_plane new old same = record {
    boundary = same;
    covers = λ k p. same (λ a b. passes p (place (enlarged k at a)) (place (enlarged k at b))) (passing_adds k p);
    areas = turns_sum new ∙ same (area_at (λ v. (at v).0) (λ v. (at v).1)) areas_add ∙ sym (turns_sum old);
  }

-- where what fills the planes is sound, each is kept
pub planes_are_kept : SoundPlanesAreKept
planes_are_kept points m sound k d low =
    let fs = faces points m in
    let ss = all_sides points fs in
    let s = get_or (planes points fs) k d in
    keeps_plane points (drop_of points s) (int_lt (coordinate_of (normal points s) (drop_of points s)) (pos 0)) (new_in_plane points ss s) (old_in_plane points fs s)
    (boundaries_are_kept points m sound k d low)

-- and each region turns left
pub regions_turn_left : SoundRegionsTurnLeft
regions_turn_left points fs ss sound =
    let es = flat_map side_edges ss in
    let none = none_forced points es ss (sound_parts points fs ss (fillings points es ss) sound).none in
    All-weaker (λ s. All (λ r. (filled points es s r).forced ≡ 0) s.regions) (λ s. All (FillsLeft points es s) s.regions)
    (λ s all. All-weaker (λ r. (filled points es s r).forced ≡ 0) (FillsLeft points es s)
    (λ r e. (filled_unforced (drop_of points s.face) points (loops points (seen points s.face) es r) e).left) s.regions all) ss none
