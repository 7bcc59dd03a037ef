-- A plane of one triangle of which no edge is cut: what the definition has of it.
use Rattle.std.proofs.Common.{◌≡◌, ◌∙◌, ◌≤◌, ◌+◌, ◌==◌, ◌++◌, ℕ, ℤ, Bool, List, [], ◌∷◌, true, false, ap, arith, cond, filter, length, map, refl, subst, sym}
use Rattle.std.specs.Prelude.{◌&&◌, if◌then◌else◌, nat_le, not}
use Rattle.std.specs.List.{All, flat_map, list_all}
use Rattle.std.specs.Ordering.{int_eq}
use Rattle.std.proofs.lemmas.Bool.{and_parts, eqb-false, le-leb, not-true}
use Rattle.std.proofs.lemmas.Bool.Decides.{Decides-int_eq}
use Rattle.std.proofs.lemmas.List.{append-nil, length-append, nil_from_length}
use Rattle.std.proofs.lemmas.List.Elements.{All-cons, All-filter, All-head, All-nil, All-tail}
use Rattle.chain_terms.specs.Chains.{boundary}
use Rattle.chain_terms.specs.Paths.{round_edges}
use Rattle.mesh_terms.specs.Meshes.{HasThree, Triple}
use Rattle.plane_chains.proofs.Behind.{IsTurned}
use Rattle.plane_groups.specs.Grouped.{bent, is_front}
use Rattle.sheet_terms.specs.Crossings.{coplanar, crossings_in}
use Rattle.sheet_terms.specs.Cuts.{cuts, rim}
use Rattle.sheet_terms.specs.Faces.{Face, in_plane, is_left, rim_edges, seen, sides}
use Rattle.sheet_terms.specs.Filled.{keeps_boundary, same_boundary}
use Rattle.sheet_terms.specs.Kept.{free, is_out, kept, remains}
use Rattle.sheet_terms.specs.Needless.{side_edges, walk_edges}
use Rattle.sheet_terms.specs.Places.{has_three}
use Rattle.sheet_terms.specs.Regions.{Side, side_of}
use Rattle.plan_laws.specs.Alone.{IsAlone, alone_side}
use Rattle.plan_laws.specs.Views.{front_seen, front_turned}
use Rattle.plan_laws.proofs.Alone.{alone_has_no_crossings, alone_is_its_region}
use Rattle.plane_remesh.specs.Plans.{sides_of}
use Rattle.plane_remesh.specs.PlansTo.{alone_edges, corner_list, is_alone}
use Rattle.plane_remesh.proofs.Bounding.{filter-mapped}
use Rattle.plane_remesh.proofs.Coplanar.{IsBent, bent_all, kept_side, left_on_side, seen_own, turns_on}
use Rattle.plane_remesh.proofs.Sided.{firsts_in, picked}
use Rattle.plane_remesh.proofs.SideFirsts.{in_self}

-- a rim without cuts
short_rim : (a b c : ℕ) (xs ys zs : List ℕ) → length ((a ∷ xs) ++ (b ∷ ys) ++ (c ∷ zs)) ≤ 3 → (a ∷ xs) ++ (b ∷ ys) ++ (c ∷ zs) ≡ a ∷ b ∷ c ∷ []
short_rim a b c xs ys zs low =
    let many : length ((a ∷ xs) ++ (b ∷ ys) ++ (c ∷ zs)) ≡ 3 + (length xs + (length ys + length zs)) =
    omega (arith, length-append ((a ∷ xs) ++ (b ∷ ys)) (c ∷ zs), length-append (a ∷ xs) (b ∷ ys)) in
    let no_x = nil_from_length xs (omega (arith, many, low)) in
    let no_y = nil_from_length ys (omega (arith, many, low)) in
    let no_z = nil_from_length zs (omega (arith, many, low)) in
    λ i. (a ∷ no_x i) ++ (b ∷ no_y i) ++ (c ∷ no_z i)

three_is : (t : Triple) → has_three t ≡ true → HasThree t
three_is t h =
    let outer = and_parts (not (t.0 == t.1) && not (t.1 == t.2)) (not (t.2 == t.0)) h in
    let inner = and_parts (not (t.0 == t.1)) (not (t.1 == t.2)) outer.0 in
    record {
      ab = eqb-false t.0 t.1 (not-true (t.0 == t.1) inner.0);
      bc = eqb-false t.1 t.2 (not-true (t.1 == t.2) inner.1);
      ca = eqb-false t.2 t.0 (not-true (t.2 == t.0) outer.1);
    }

filter_whole : {X : Type 0} (p : X → Bool) (xs : List X) → All (λ x. p x ≡ true) xs → filter p xs ≡ xs
filter_whole p [] h = refl
filter_whole p (x ∷ xs) h =
    ap (λ b. cond b (x ∷ filter p xs) (filter p xs)) (All-head (λ y. p y ≡ true) x xs h) ∙ ap (λ l. x ∷ l) (filter_whole p xs (All-tail (λ y. p y ≡ true) x xs h))

list_all_holds : {X : Type 0} (p : X → Bool) (xs : List X) → ((x : X) → p x ≡ true) → list_all p xs ≡ true
list_all_holds p [] h = refl
list_all_holds p (x ∷ xs) h = λ i. h x i && list_all_holds p xs h i

same_itself : (es : List (ℕ × ℕ)) → same_boundary es es ≡ true
same_itself es =
    list_all_holds (λ (e : ℕ × ℕ). int_eq (boundary es e.0 e.1) (boundary es e.0 e.1)) (es ++ es) (λ e. (Decides-int_eq (boundary es e.0 e.1) (boundary es e.0 e.1)).1 refl)

module _ (points : List (List ℤ)) (all : List Face) (s : Face) (bent_s : IsBent points s)
    (own : coplanar points (bent points all) s ≡ s ∷ []) (is_rim : s.rim ≡ rim points s.corners)
    (three : has_three s.corners ≡ true) (uncut : length s.rim ≤ 3) where
  pub rim_is : s.rim ≡ s.corners.0 ∷ s.corners.1 ∷ s.corners.2 ∷ []
  rim_is =
      let t = s.corners in
      is_rim ∙ short_rim t.0 t.1 t.2 (cuts points t.0 t.1) (cuts points t.1 t.2) (cuts points t.2 t.0) (subst (λ (l : List ℕ). length l ≤ 3) is_rim uncut)

  turns_left : is_left (seen points s) s.corners ≡ true
  turns_left =
      ap (λ at. is_left at s.corners) (seen_own points s) ∙ left_on_side points s s bent_s bent_s (in_self points all s bent_s) (is_front points s)
      ∙ either (is_front points s)
    where
      either : (b : Bool) → (if b then b else not b) ≡ true
      either true = refl
      either false = refl

  pub alone_is : IsAlone points (bent points all) s
  alone_is = record { own = own; rim = rim_is; three = three_is s.corners three; left = turns_left }

  pub is_alone_is : is_alone points all s ≡ true
  is_alone_is =
      ap (λ (l : List Face). (length l == 1) && nat_le (length s.rim) 3) own ∙ le-leb (length s.rim) 3 uncut

  pub no_crossings : crossings_in points (bent points all) s ≡ []
  no_crossings = alone_has_no_crossings points (bent points all) s alone_is

  side_is : side_of points (bent points all) s ≡ alone_side s
  side_is = alone_is_its_region points (bent points all) s alone_is

  -- it isn't kept
  abbrev kept_here : List Face
  kept_here = kept (seen points s) (coplanar points (bent points all) s)

  all_left : All (λ f. is_left (seen points s) f.corners ≡ true) kept_here
  all_left =
      let at = seen points s in
      let these = coplanar points (bent points all) s in
      let P : Face → Type 0 = λ f. is_left at f.corners ≡ true in
      let here : All P these = subst (All P) (sym own) (All-cons P s [] turns_left (All-nil P)) in
      let out = filter (is_out (free at these)) these in
      All-filter (remains at out) P out (All-filter (is_out (free at these)) P these here)

  none_here : length kept_here ≡ 0
  none_here = ap length (sym (filter_whole (λ (f : Face). is_left (seen points s) f.corners) kept_here all_left)) ∙ ap (λ (x : Side). x.kept) side_is

  pub none_kept : length (kept (front_seen points s) (coplanar points (bent points all) s)) ≡ 0
  none_kept =
      let these = coplanar points (bent points all) s in
      let P : Face → Type 0 = λ f. IsTurned (front_seen points s) f in
      let turned : P s = turns_on points s s bent_s bent_s (in_self points all s bent_s) (front_turned points s) in
      let all_turned : All P these = subst (All P) (sym own) (All-cons P s [] turned (All-nil P)) in
      ap length (sym (kept_side points s these (is_front points s) all_turned) ∙ ap (λ at. kept at these) (sym (seen_own points s))) ∙ none_here

  -- its rim is its boundary
  first_alone : picked (is_front points) false false (s ∷ []) ≡ s ∷ []
  first_alone = by (is_front points s)
    where
      by : (b : Bool) → cond b (s ∷ []) (s ∷ []) ≡ s ∷ []
      by true = refl
      by false = refl

  its_edges : flat_map side_edges (filter (λ (t : Side). in_plane points s t.face) (sides_of points all)) ≡ rim_edges (s ∷ [])
  its_edges =
      let fs = bent points all in
      ap (flat_map side_edges) (filter-mapped (λ (t : Side). in_plane points s t.face) (side_of points fs) (sides points fs)
      ∙ ap (map (side_of points fs)) (firsts_in points s bent_s fs (bent_all points all) ∙ ap (picked (is_front points) false false) own ∙ first_alone))
      ∙ ap (λ (x : Side). side_edges x ++ []) side_is ∙ append-nil (side_edges (alone_side s)) ∙ append-nil (walk_edges (s.rim ∷ []))

  pub keeps : keeps_boundary points (bent points all) (sides_of points all) s ≡ true
  keeps = (λ i. same_boundary (its_edges i) (rim_edges (own i))) ∙ same_itself (rim_edges (s ∷ []))

  -- the edges that it has
  pub its_noted : (t : Triple) → t ≡ s.corners → round_edges (corner_list t) ≡ alone_edges points all s
  its_noted t same = ap round_edges (ap corner_list same ∙ sym rim_is) ∙ sym (ap (λ b. cond b (round_edges s.rim) []) is_alone_is)
