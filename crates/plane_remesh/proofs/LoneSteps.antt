-- A plan of one plane more, where that plane is of one triangle of which no edge is cut.
use Rattle.std.proofs.Common.{◌≡◌, ◌∙◌, ◌<◌, ◌≤◌, ◌+◌, ◌==◌, ◌++◌, ℕ, ℤ, Bool, List, [], ◌∷◌, true, false, ap, arith, cond, get_or, inl, inr, length, map, refl, set, subst, sym, take, Some, None}
use Rattle.std.specs.Prelude.{◌&&◌, find, nat_le, nat_lt, not, sum_by}
use Rattle.std.specs.List.{All, flat_map, list_all}
use Rattle.std.proofs.lemmas.Bool.{both_ways, cases_Bool, cases_eq, lt-leb, ltb-false, ltb-true, ne_eqb}
use Rattle.std.proofs.lemmas.List.{append-nil, get_or-set_other, get_or-set_same, get_or_read, length-map, length-set}
use Rattle.std.proofs.lemmas.List.Elements.{All-cons, All-contains, All-nil}
use Rattle.std.proofs.lemmas.List.Folds.{list_all_more}
use Rattle.std.proofs.lemmas.List.Sums.{sum_by_more}
use Rattle.chain_terms.specs.Paths.{round_edges}
use Rattle.edge_cutting.specs.Cut.{cut_rim}
use Rattle.mesh_terms.specs.Meshes.{IsBelow, triple_of}
use Rattle.plane_chains.specs.Listed.{faces_side}
use Rattle.plane_filling.specs.Ways.{Notes}
use Rattle.plane_groups.specs.Grouped.{bent, face_at, faces_in, is_front, no_face}
use Rattle.sheet_terms.specs.Crossings.{coplanar, crossings_in}
use Rattle.sheet_terms.specs.Cuts.{rim}
use Rattle.sheet_terms.specs.Faces.{Face}
use Rattle.sheet_terms.specs.Filled.{keeps_boundary}
use Rattle.sheet_terms.specs.Places.{has_three}
use Rattle.plan_laws.specs.Standing.{AreAt, numbers_at}
use Rattle.plane_filling.specs.declared.regions.Regions.{Regions}
use Rattle.plane_remesh.specs.declared.plan.Plan.{Plan}
use Rattle.plane_remesh.specs.declared.surface.CutSurface.{CutSurface}
use Rattle.plane_remesh.specs.Plans.{sides_of}
use Rattle.plane_remesh.specs.PlansTo.{IsPlanTo, alone_edges, corner_list, has_regions, is_alone, planes_of, stands_alone}
use Rattle.plane_remesh.specs.Pushed.{AreWhole}
use Rattle.plane_remesh.specs.Surfaces.{IsSurface, own_at, plane_at}
use Rattle.plane_remesh.proofs.AloneStep.{is_alone_is, its_noted, keeps, no_crossings, none_kept}
use Rattle.plane_remesh.proofs.Coplanar.{IsBent}
use Rattle.plane_remesh.proofs.Listing.{corners_at, numbers_low, numbers_own, own_all}
use Rattle.plane_remesh.proofs.SideFirsts.{IsFirstOf, first_bent, first_is_found, found_is_first, is_there, number_plane, plane_number, some_or}
use Rattle.plane_remesh.proofs.Stepping.{IsNew, alone_as_before, alone_new, none_before, regions_cases}
use Rattle.plane_remesh.proofs.Steps.{alone_there, bent_s, kept_of, low_plane, more_flat, there}

-- what a read of the only triangle of a plane tells of its rim
pub record TellsRim (points : List (List ℤ)) (all : List Face) (s : Face) (t : ℕ) (cut : Bool) : Type 0 where
  pub uncut : cut ≡ false → length (face_at all t).rim ≤ 3
  pub others : cut ≡ true → is_alone points all s ≡ false

-- what is found in a list of one
found_one : (p : ℕ → Bool) (n t : ℕ) → find p (n ∷ []) ≡ Some t → n ≡ t
found_one p n t h = elim (cases_Bool (p n)) as (λ _. n ≡ t) [
  | inl y ↦ ap some_or (sym (ap (λ b. cond b (Some n) None) y) ∙ h)
  | inr out ↦ absurd (both_ways (is_there None) refl (ap is_there (sym (ap (λ b. cond b (Some n) None) out) ∙ h)))
]

-- a plane of no triangle, or more than one
pub more_others : (points : List (List ℤ)) (all : List Face) (u : CutSurface) (is : IsSurface points all u) (k : ℕ) (low : k < u.planes.count) →
    (length (faces_in u.planes k) ≡ 1 → ⊥) →
    is_alone points all (plane_at points all k) ≡ false
more_others points all u is k low other =
    let s = plane_at points all k in
    let many : length (own_at points all k) ≡ length (faces_in u.planes k) =
    ap length (sym (numbers_own points all u is k low)) ∙ length-map (faces_in u.planes k) (face_at all) in
    ap (λ b. b && nat_le (length s.rim) 3) (ne_eqb (length (own_at points all k)) 1 (λ e. other (sym many ∙ e)))

module _ (points : List (List ℤ)) (all : List Face) (u : CutSurface) (is : IsSurface points all u) (k : ℕ) (low : k < u.planes.count) (face : ℕ)
    (single : faces_in u.planes k ≡ face ∷ []) where
  abbrev f : Face
  f = face_at all face

  abbrev s : Face
  s = plane_at points all k

  abbrev ps : List Face
  ps = planes_of points all

  pub face_low : face < length all
  face_low = subst (All (λ t. t < length all)) single (numbers_low points all u is k low) 0 0 (omega arith)

  -- it is stored, and its corners are among the points
  pub stored_low : face < length u.over.triples.items
  stored_low = omega (arith, face_low, length-map u.over.triples.items triple_of, ap length is.corners, length-map all (λ (g : Face). g.corners))

  pub corners_low : (n : ℕ) → n ≡ length points → IsBelow n (triple_of (get_or u.over.triples.items face []))
  corners_low n same_n =
      subst (λ m. IsBelow m (triple_of (get_or u.over.triples.items face []))) (sym same_n)
      (subst (IsBelow (length points)) (sym (corners_at points all u is k low face face_low)) (is.below face no_face face_low))

  one : own_at points all k ≡ face_at all face ∷ []
  one = sym (numbers_own points all u is k low) ∙ ap (map (face_at all)) single

  -- it is the first one of its plane
  same : plane_at points all k ≡ face_at all face
  same =
      let here = All-cons (λ (g : Face). g ≡ f) f [] refl (All-nil (λ (g : Face). g ≡ f)) in
      All-contains (λ (g : Face). g ≡ f) (own_at points all k) s (subst (All (λ g. g ≡ f)) (sym one) here) (there points all u is k low)

  own_is : own_at points all k ≡ plane_at points all k ∷ []
  own_is = one ∙ ap (λ g. g ∷ []) (sym same)

  bent_f : IsBent points (face_at all face)
  bent_f = subst (IsBent points) same (bent_s points all u is k low)

  rim_s : (plane_at points all k).rim ≡ rim points (plane_at points all k).corners
  rim_s =
      All-contains (λ (g : Face). g.rim ≡ rim points g.corners) (own_at points all k) s (own_all points all u is k low (λ g. g.rim ≡ rim points g.corners) is.rims)
      (there points all u is k low)

  three_s : has_three (plane_at points all k).corners ≡ true
  three_s =
      All-contains (λ (g : Face). has_three g.corners ≡ true) (own_at points all k) s (own_all points all u is k low (λ g. has_three g.corners ≡ true) is.three)
      (there points all u is k low)

  -- an edge of it is cut
  pub cut_others : (rim : List ℕ) → rim ≡ (face_at all face).rim → 3 < length rim → is_alone points all (plane_at points all k) ≡ false
  cut_others rim e long =
      ap (λ (g : Face). (length (coplanar points (bent points all) s) == 1) && nat_le (length g.rim) 3) same
      ∙ ap (λ b. (length (coplanar points (bent points all) s) == 1) && b) (lt-leb (length f.rim) 3 (omega (arith, long, ap length e)))
      ∙ and_false (length (coplanar points (bent points all) s) == 1)
    where
      and_false : (b : Bool) → (b && false) ≡ false
      and_false true = refl
      and_false false = refl

  -- no edge is cut
  module _ (uncut : length (face_at all face).rim ≤ 3) where
    uncut_s : length (plane_at points all k).rim ≤ 3
    uncut_s = subst (λ (g : Face). length g.rim ≤ 3) (sym same) uncut

    its_alone : is_alone points all (plane_at points all k) ≡ true
    its_alone = is_alone_is points all s (bent_s points all u is k low) own_is rim_s three_s uncut_s

    first_f : IsFirstOf points all (plane_at points all k) (is_front points (face_at all face)) face
    first_f =
        let marks = u.planes.fronts.items in
        let front = is_front points f in
        found_is_first points all is.order s (bent_s points all u is k low) (faces_in u.planes k)
        (numbers_own points all u is k low) (numbers_low points all u is k low) marks is.planes.fronts
        front face (ap (find (faces_side marks front)) single
        ∙ ap (λ b. cond b (Some face) None) (ap (λ m. cond front m (not m)) (is.planes.fronts face face_low bent_f) ∙ itself front))
      where
        itself : (b : Bool) → cond b b (not b) ≡ true
        itself true = refl
        itself false = refl

    -- and the only one
    only : (t : ℕ) → t < length all → IsNew points all k t → face ≡ t
    only t low_t n =
        let marks = u.planes.fronts.items in
        let front = is_front points (face_at all t) in
        let found = first_is_found points all is.order s (bent_s points all u is k low)
        (faces_in u.planes k) (numbers_own points all u is k low) (numbers_low points all u is k low) marks
        is.planes.fronts t low_t
        (number_plane points all t k (low_plane points all u is k low) (first_bent points all t n.first) n.here) n.first in
        found_one (faces_side marks front) face t (ap (find (faces_side marks front)) (sym single) ∙ found)

    marked_more : (old : Plan) → IsPlanTo points all k old → (t : ℕ) → t < length all → get_or (set old.alone.items face true) t false ≡ stands_alone points all (k + 1) t
    marked_more old was t low_t = elim (cases_eq t face) as (λ _. get_or (set old.alone.items face true) t false ≡ stands_alone points all (k + 1) t) [
      | inl e ↦
          let new : stands_alone points all (k + 1) face ≡ true =
          alone_new points all k face (plane_number points all face k (low_plane points all u is k low) first_f.bent first_f.inside)
          first_f.first (ap (is_alone points all) (sym same) ∙ its_alone) in
          ap (λ j. get_or (set old.alone.items face true) j false) e ∙ get_or-set_same old.alone.items face true false (omega (arith, face_low, was.marks))
          ∙ sym (ap (stands_alone points all (k + 1)) e ∙ new)
      | inr other ↦
          get_or-set_other old.alone.items face t true false other ∙ was.alone t low_t
          ∙ sym (alone_as_before points all k t (λ n y. other (sym (only t low_t n))))
    ]

    pub lone_step : (old new : Plan) → IsPlanTo points all k old → new.alone.items ≡ set old.alone.items face true →
        length new.ways.leads.items ≡ length old.ways.leads.items →
        ((es : List (ℕ × ℕ)) → Notes es old.ways → Notes (es ++ round_edges (corner_list (triple_of (get_or u.over.triples.items face [])))) new.ways) →
        new.regions ≡ old.regions → new.sound ≡ old.sound →
        new.kept ≡ old.kept → new.found.items ≡ old.found.items → IsPlanTo points all (k + 1) new
    lone_step old new was marks full noted regions sound kept_is found =
        let bent_first = bent_s points all u is k low in
        let low_k = low_plane points all u is k low in
        let at_old : (t : ℕ) → t < length all → has_regions points all (k + 1) t ≡ true → AreAt points all t old.regions = λ t low_t y.
        elim (regions_cases points all k t y) as (λ _. AreAt points all t old.regions) [
          | inl before ↦ was.at t low_t before
          | inr n ↦ absurd (both_ways (not (is_alone points all (face_at all t))) (ap not (alone_there points all u is k low t low_t n.0 ∙ its_alone)) n.1)
        ] in
        record {
          found = found ∙ was.found ∙ sym (append-nil (flat_map (crossings_in points (bent points all)) (take k ps)))
              ∙ ap (λ l. flat_map (crossings_in points (bent points all)) (take k ps) ++ l)
              (sym (no_crossings points all s bent_first own_is rim_s three_s uncut_s)) ∙ sym (more_flat points all u is k low (crossings_in points (bent points all)));
          kept = kept_is ∙ was.kept
              ∙ sym (sum_by_more (kept_of points all u is k low) ps k no_face low_k
              ∙ plus_none (sum_by (kept_of points all u is k low) (take k ps)) (kept_of points all u is k low s) (none_kept points all s bent_first own_is rim_s three_s uncut_s));
          sound = sound ∙ was.sound ∙ sym (list_all_more (keeps_boundary points (bent points all) (sides_of points all)) ps k no_face low_k
              ∙ ap (λ b. list_all (keeps_boundary points (bent points all) (sides_of points all)) (take k ps) && b)
              (keeps points all s bent_first own_is rim_s three_s uncut_s)
              ∙ and_true (list_all (keeps_boundary points (bent points all) (sides_of points all)) (take k ps)));
          whole = subst (λ r. AreWhole r) (sym regions) was.whole;
          firsts = subst (λ (r : Regions). All (λ x. x.first < length all) r.all.items) (sym regions) was.firsts;
          axes = subst (λ (r : Regions). All (λ x. x.view.plane.drop < 3) r.all.items) (sym regions) was.axes;
          places = subst (λ (r : Regions). All (All (λ v. v < length points)) r.walks.0) (sym regions) was.places;
          known = subst (λ (r : Regions). All (λ x. x.label < length all) r.all.items) (sym regions) was.known;
          marks = ap length marks ∙ length-set old.alone.items face true ∙ was.marks;
          alone = λ t low_t. ap (λ l. get_or l t false) marks ∙ marked_more old was t low_t;
          at = λ t low_t y. subst (AreAt points all t) (sym regions) (at_old t low_t y);
          none = λ t gone. ap (λ r. numbers_at r t) regions ∙ was.none t (none_before points all k t gone);
          full = full ∙ was.full;
          noted = subst (λ es. Notes es new.ways)
              (ap (λ l. flat_map (alone_edges points all) (take k ps) ++ l)
              (its_noted points all s bent_first own_is rim_s three_s uncut_s (triple_of (get_or u.over.triples.items face []))
              (corners_at points all u is k low face face_low ∙ ap (λ (g : Face). g.corners) (sym same)))
              ∙ sym (more_flat points all u is k low (alone_edges points all)))
              (noted (flat_map (alone_edges points all) (take k ps)) was.noted);
        }
      where
        plus_none : (n m : ℕ) → m ≡ 0 → n + m ≡ n
        plus_none n m h = omega (arith, h)

        and_true : (b : Bool) → (b && true) ≡ b
        and_true true = refl
        and_true false = refl

pub rim_told : (points : List (List ℤ)) (all : List Face) (u : CutSurface) (is : IsSurface points all u)
    (k : ℕ) (low : k < u.planes.count) (faces : List ℕ) → faces ≡ faces_in u.planes k →
    length faces ≡ 1 → (x : List ℕ) → x ≡ get_or u.over.triples.items (get_or faces 0 0) x → (cut : Bool) → cut ≡ nat_lt 3 (length (cut_rim u.cuts (triple_of x))) →
    TellsRim points all (plane_at points all k) (get_or faces 0 0) cut
rim_told points all u is k low faces listed one x read cut test =
    let t = get_or faces 0 0 in
    let single : faces_in u.planes k ≡ t ∷ [] = sym listed ∙ only_one faces one in
    let inside = face_low points all u is k low t single in
    let stored = get_or_read u.over.triples.items t x (stored_low points all u is k low t single) read [] in
    let rim_is : cut_rim u.cuts (triple_of x) ≡ (face_at all t).rim =
    ap (λ (l : List ℕ). cut_rim u.cuts (triple_of l)) stored ∙ ap (cut_rim u.cuts) (corners_at points all u is k low t inside)
    ∙ is.cut t no_face inside in
    record {
      uncut = λ h. short (length (cut_rim u.cuts (triple_of x))) (length (face_at all t).rim)
          (ap length rim_is) (ltb-false 3 (length (cut_rim u.cuts (triple_of x))) (sym test ∙ h));
      others = λ h. cut_others points all u is k low t single (cut_rim u.cuts (triple_of x)) rim_is (ltb-true 3 (length (cut_rim u.cuts (triple_of x))) (sym test ∙ h));
    }
  where
    short : (a b : ℕ) → a ≡ b → a ≤ 3 → b ≤ 3
    short a b e h = omega (arith, e, h)

    only_one : (l : List ℕ) → length l ≡ 1 → l ≡ get_or l 0 0 ∷ []
    only_one [] h = absurd (omega (arith, h))
    only_one (a ∷ []) h = refl
    only_one (a ∷ b ∷ l) h = absurd (omega (arith, h))
