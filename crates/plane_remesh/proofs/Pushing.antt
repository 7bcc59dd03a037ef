-- Regions that are pushed for a side stand by its first triangle; those that stood before stay.
use Rattle.std.proofs.Common.{◌≡◌, ◌∙◌, ◌<◌, ◌≤◌, ◌+◌, ◌-◌, ◌==◌, ◌++◌, ℕ, ℤ, Bool, List, [], ◌∷◌, true, false, ap, arith, cond, filter, get_or, length, map, refl, subst, suc, sym, zero, Option, Some, None}
use Rattle.std.specs.List.{All}
use Rattle.std.proofs.lemmas.Bool.{eq-eqb, eqb-true, false_from_ne_true}
use Rattle.std.proofs.lemmas.List.{append-nil, get_or-append-add, get_or-append_right, get_or-map, get_or_append_left, length-append, length-map}
use Rattle.std.proofs.lemmas.List.Elements.{All-append, All-nil, filter-append}
use Rattle.chain_terms.specs.Sums.{up_from, upto}
use Rattle.chain_laws.proofs.Places.{get_or-up_from, length-up_from, up_from-append}
use Rattle.edge_cutting.proofs.Gathering.{all_filtered, all_upto}
use Rattle.face_plane.specs.Planes.{point_at}
use Rattle.face_plane.proofs.Dropped.{drop_below}
use Rattle.plane_chains.proofs.FirstKeys.{map_agree}
use Rattle.plane_chains.proofs.GridPoints.{flat_map_all}
use Rattle.plane_filling.specs.declared.regions.Region.{Region as StoredRegion}
use Rattle.plane_filling.specs.declared.regions.Regions.{Regions}
use Rattle.plane_filling.specs.Pieces.{no_region}
use Rattle.plane_filling.specs.Regions.{AreRegions, all_walks, walks_at}
use Rattle.plane_groups.specs.Grouped.{face_at, is_front}
use Rattle.sheet_terms.specs.Faces.{Face, drop_of}
use Rattle.sheet_terms.specs.Regions.{Region}
use Rattle.plan_laws.specs.Standing.{AreAt, IsOf, numbers_at, shown}
use Rattle.plane_remesh.specs.Pushed.{AreWhole, HasPushed, HasPushedFor, HasPushedSide, all_shown}
use Rattle.plane_remesh.proofs.Bounding.{flat, pushed_now}
use Rattle.plane_remesh.proofs.Coplanar.{filter_same}
use Rattle.plane_remesh.proofs.SideFirsts.{some_or}
use Rattle.plane_remesh.proofs.Storing.{none_pushed}

-- what was pushed for a side of which this is the first triangle
pub record HasAdded (points : List (List ℤ)) (all : List Face) (o : Option ℕ) (old new : Regions) : Type 0 where
  pub rs : List StoredRegion
  pub ws : List (List (List ℕ))
  pub pushed : HasPushed old new rs ws
  pub firsts : All (λ r. o ≡ Some r.first) rs
  pub axes : All (λ r. r.view.plane.drop < 3) rs
  pub known : All (λ r. r.label < length all) rs
  pub places : All (All (All (λ v. v < length points))) ws

drop_low : (points : List (List ℤ)) (s : Face) → drop_of points s < 3
drop_low points s = drop_below (point_at points s.corners.0) (point_at points s.corners.1) (point_at points s.corners.2)

pub has_added : (points : List (List ℤ)) (all : List Face) (o : Option ℕ) (old new : Regions) → AreWhole old → HasPushedFor points all o old new → HasAdded points all o old new
has_added points all None old new whole h = record {
  rs = [];
  ws = [];
  pushed = subst (λ n. HasPushed old n [] []) (sym h) (none_pushed old whole);
  firsts = All-nil (λ (r : StoredRegion). None ≡ Some r.first);
  axes = All-nil (λ (r : StoredRegion). r.view.plane.drop < 3);
  known = All-nil (λ (r : StoredRegion). r.label < length all);
  places = All-nil (All (All (λ v. v < length points)));
}
has_added points all (Some t) old new whole h = record {
  rs = h.sheets ++ h.stay;
  ws = h.ws;
  pushed = h.pushed;
  firsts = All-append (λ (r : StoredRegion). Some t ≡ Some r.first) h.sheets h.stay (λ k d low. ap Some (sym (h.sheets_are k d low).first))
      (λ k d low. ap Some (sym (h.stay_are k d low).first));
  axes = All-append (λ (r : StoredRegion). r.view.plane.drop < 3) h.sheets h.stay
      (λ k d low. omega (arith, (h.sheets_are k d low).view.drop, drop_low points (face_at all t)))
      (λ k d low. omega (arith, (h.stay_are k d low).view.drop, drop_low points (face_at all t)));
  known = All-append (λ (r : StoredRegion). r.label < length all) h.sheets h.stay (λ k d low. (h.sheets_are k d low).label) (λ k d low. (h.stay_are k d low).label);
  places = h.places;
}

-- a run of numbers of which all, or none, pass
filter_all : (p : ℕ → Bool) (a n : ℕ) → ((j : ℕ) → a ≤ j → j < a + n → p j ≡ true) → filter p (up_from a n) ≡ up_from a n
filter_all p a zero h = refl
filter_all p a (suc n) h =
    ap (λ b. cond b (a ∷ filter p (up_from (suc a) n)) (filter p (up_from (suc a) n))) (h a (omega arith) (omega arith))
    ∙ ap (λ l. a ∷ l) (filter_all p (suc a) n (λ j up low. h j (omega (arith, up)) (omega (arith, low))))

filter_none : (p : ℕ → Bool) (a n : ℕ) → ((j : ℕ) → a ≤ j → j < a + n → p j ≡ false) → filter p (up_from a n) ≡ []
filter_none p a zero h = refl
filter_none p a (suc n) h =
    ap (λ b. cond b (a ∷ filter p (up_from (suc a) n)) (filter p (up_from (suc a) n))) (h a (omega arith) (omega arith))
    ∙ filter_none p (suc a) n (λ j up low. h j (omega (arith, up)) (omega (arith, low)))

-- regions with their walks, one by one
shown_from : (all : List Face) (f : ℕ → Region) (rs : List StoredRegion) (ws : List (List (List ℕ))) (a : ℕ) → length rs ≡ length ws →
    ((i : ℕ) → i < length rs → f (a + i) ≡ shown all (get_or rs i no_region) (get_or ws i [])) → map f (up_from a (length rs)) ≡ all_shown all rs ws
shown_from all f [] ws a same h = refl
shown_from all f (r ∷ rs) [] a same h = absurd (omega (arith, same))
shown_from all f (r ∷ rs) (w ∷ ws) a same h =
    let here : f a ≡ shown all r w = ap f (first_of a) ∙ h 0 (omega arith) in
    let rest = shown_from all f rs ws (suc a) (omega (arith, same)) (λ i low. ap f (next_of a i) ∙ h (suc i) (omega (arith, low))) in
    λ i. here i ∷ rest i
  where
    first_of : (a : ℕ) → a ≡ a + 0
    first_of a = omega arith

    next_of : (a i : ℕ) → suc a + i ≡ a + suc i
    next_of a i = omega arith

-- the walks of a region among those of all
walks_in : (r : Regions) → AreRegions r → (j : ℕ) → j < length r.all.items → walks_at r j ≡ get_or (all_walks r) j []
walks_in r are j low =
    let m = length r.ends.items in
    let at : get_or (upto m) j 0 ≡ j = omega (arith, get_or-up_from 0 m j 0 (omega (arith, low, are.full))) in
    ap (walks_at r) (sym at) ∙ sym (get_or-map (walks_at r) (upto m) j 0 [] (omega (arith, low, are.full, length-up_from 0 m)))

-- what holds of the first part of a list, and of the second
left_part : {X : Type 0} (P : X → Type 0) (xs ys : List X) → All P (xs ++ ys) → All P xs
left_part P xs ys h k d low = subst P (get_or_append_left xs ys d k low) (h k d (omega (arith, low, length-append xs ys)))

right_part : {X : Type 0} (P : X → Type 0) (xs ys : List X) → All P (xs ++ ys) → All P ys
right_part P xs ys h k d low = subst P (get_or-append-add xs ys k d) (h (length xs + k) d (omega (arith, low, length-append xs ys)))

module _ (old new : Regions) (rs : List StoredRegion) (ws : List (List (List ℕ))) (whole : AreWhole old) (p : HasPushed old new rs ws) where
  abbrev n : ℕ
  n = length old.all.items

  many : length new.all.items ≡ n + length rs
  many = ap length p.seen.regions ∙ length-append old.all.items rs

  many_walks : length (all_walks old) ≡ n
  many_walks = omega (arith, length-map (upto (length old.ends.items)) (walks_at old), length-up_from 0 (length old.ends.items), whole.are.full)

  -- regions before stay
  region_stays : (j : ℕ) → j < n → get_or new.all.items j no_region ≡ get_or old.all.items j no_region
  region_stays j low = ap (λ (l : List StoredRegion). get_or l j no_region) p.seen.regions ∙ get_or_append_left old.all.items rs no_region j low

  walks_stay : (j : ℕ) → j < n → walks_at new j ≡ walks_at old j
  walks_stay j low =
      walks_in new p.seen.are j (omega (arith, low, many)) ∙ ap (λ (l : List (List (List ℕ))). get_or l j []) p.seen.each
      ∙ get_or_append_left (all_walks old) ws [] j (omega (arith, low, many_walks)) ∙ sym (walks_in old whole.are j low)

  -- new ones stand behind them
  region_comes : (i : ℕ) → get_or new.all.items (n + i) no_region ≡ get_or rs i no_region
  region_comes i = ap (λ (l : List StoredRegion). get_or l (n + i) no_region) p.seen.regions ∙ get_or-append-add old.all.items rs i no_region

  walks_come : (i : ℕ) → i < length rs → walks_at new (n + i) ≡ get_or ws i []
  walks_come i low =
      walks_in new p.seen.are (n + i) (omega (arith, low, many)) ∙ ap (λ (l : List (List (List ℕ))). get_or l (n + i) []) p.seen.each
      ∙ ap (λ m. get_or (all_walks old ++ ws) (m + i) []) (sym many_walks) ∙ get_or-append-add (all_walks old) ws i []

  -- the numbers by a triangle: those before, and new ones
  abbrev first_at : Regions → ℕ → ℕ → Bool
  first_at r t j = (get_or r.all.items j no_region).first == t

  numbers_in : (t : ℕ) → numbers_at new t ≡ numbers_at old t ++ filter (first_at new t) (up_from n (length rs))
  numbers_in t =
      let parts : up_from 0 (n + length rs) ≡ upto n ++ up_from n (length rs) = up_from-append 0 n (length rs) ∙ ap (λ m. upto n ++ up_from m (length rs)) none in
      ap (λ m. filter (first_at new t) (upto m)) many ∙ ap (filter (first_at new t)) parts ∙ filter-append (first_at new t) (upto n) (up_from n (length rs))
      ∙ ap (λ l. l ++ filter (first_at new t) (up_from n (length rs)))
      (filter_same (first_at new t) (first_at old t) (upto n)
      (all_upto (λ j. first_at new t j ≡ first_at old t j) n (λ j low. ap (λ (r : StoredRegion). r.first == t) (region_stays j low))))
    where
      none : 0 + n ≡ n
      none = omega arith

  module _ (o : Option ℕ) (firsts : All (λ r. o ≡ Some r.first) rs) where
    first_is : (j : ℕ) → n ≤ j → j < n + length rs → o ≡ Some (get_or new.all.items j no_region).first
    first_is j up low =
        firsts (j - n) no_region (omega (arith, up, low))
        ∙ ap (λ (r : StoredRegion). Some r.first)
        (sym (ap (λ (l : List StoredRegion). get_or l j no_region) p.seen.regions ∙ get_or-append_right old.all.items rs n j no_region refl up))

    -- none is by another triangle
    pub others_stay : (t : ℕ) → (o ≡ Some t → ⊥) → numbers_at new t ≡ numbers_at old t
    others_stay t other =
        numbers_in t
        ∙ ap (λ l. numbers_at old t ++ l)
        (filter_none (first_at new t) n (length rs)
        (λ j up low.
        false_from_ne_true (first_at new t j) (λ y. other (first_is j up low ∙ ap Some (eqb-true (get_or new.all.items j no_region).first t y)))))
        ∙ append-nil (numbers_at old t)

    -- all are by that one
    own_come : (t : ℕ) → o ≡ Some t → numbers_at old t ≡ [] → numbers_at new t ≡ up_from n (length rs)
    own_come t is none =
        numbers_in t
        ∙ (λ i. none i
        ++ filter_all (first_at new t) n (length rs)
        (λ j up low. eq-eqb (get_or new.all.items j no_region).first t (ap some_or (sym (first_is j up low) ∙ is))) i)

  -- what stood by another triangle stands there
  pub at_stays : (points : List (List ℤ)) (all : List Face) (t : ℕ) → numbers_at new t ≡ numbers_at old t → AreAt points all t old → AreAt points all t new
  at_stays points all t same at =
      let inside : All (λ j. j < n) (at.sheets ++ at.stay) = subst (All (λ j. j < n)) at.numbers (all_filtered (λ j. j < n) (first_at old t) n (λ j l h. l)) in
      let f = face_at all t in
      record {
        sheets = at.sheets;
        stay = at.stay;
        numbers = same ∙ at.numbers;
        sheets_are = λ i d low.
            subst (IsOf points all f (is_front points f) t false)
            (sym (region_stays (get_or at.sheets i d) (left_part (λ j. j < n) at.sheets at.stay inside i d low))) (at.sheets_are i d low);
        stay_are = λ i d low.
            subst (IsOf points all f (is_front points f) t true)
            (sym (region_stays (get_or at.stay i d) (right_part (λ j. j < n) at.sheets at.stay inside i d low))) (at.stay_are i d low);
        shows = map_agree (λ j. shown all (get_or new.all.items j no_region) (walks_at new j))
            (λ j. shown all (get_or old.all.items j no_region) (walks_at old j)) (at.sheets ++ at.stay)
            (λ i d low.
            let j = get_or (at.sheets ++ at.stay) i d in λ m. shown all (region_stays j (inside i d low) m) (walks_stay j (inside i d low) m))
            ∙ at.shows;
      }

  -- what holds of all before and of the new ones
  pub all_regions : (P : StoredRegion → Type 0) → All P old.all.items → All P rs → All P new.all.items
  all_regions P before these = subst (All P) (sym p.seen.regions) (All-append P old.all.items rs before these)

  pub all_places : (P : List ℕ → Type 0) → All P old.walks.0 → All (All P) ws → All P new.walks.0
  all_places P before these =
      subst (All P) (sym (pushed_now old new rs ws whole p)) (All-append P old.walks.0 (flat ws) before (flat_map_all P (λ (w : List (List ℕ)). w) ws these))

-- what was pushed for the side of which t is the first triangle stands by it
pub at_comes : (points : List (List ℤ)) (all : List Face) (old new : Regions) (t : ℕ) →
    AreWhole old → HasPushedSide points all t old new → numbers_at old t ≡ [] → AreAt points all t new
at_comes points all old new t whole h none =
    let rs = h.sheets ++ h.stay in
    let n = length old.all.items in
    let a = length h.sheets in
    let b = length h.stay in
    let f = face_at all t in
    let firsts : All (λ (r : StoredRegion). Some t ≡ Some r.first) rs = All-append (λ (r : StoredRegion). Some t ≡ Some r.first) h.sheets h.stay
    (λ k d low. ap Some (sym (h.sheets_are k d low).first)) (λ k d low. ap Some (sym (h.stay_are k d low).first)) in
    let parts : up_from n (length rs) ≡ up_from n a ++ up_from (n + a) b = ap (up_from n) (length-append h.sheets h.stay) ∙ up_from-append n a b in
    let show : ℕ → Region = λ j. shown all (get_or new.all.items j no_region) (walks_at new j) in
    record {
      sheets = up_from n a;
      stay = up_from (n + a) b;
      numbers = own_come old new rs h.ws whole h.pushed (Some t) firsts t refl none ∙ parts;
      sheets_are = λ i d low.
          let inside : i < a = omega (arith, low, length-up_from n a) in
          subst (IsOf points all f (is_front points f) t false)
          (sym (ap (λ j. get_or new.all.items j no_region) (get_or-up_from n a i d inside) ∙ region_comes old new rs h.ws whole h.pushed i
          ∙ get_or_append_left h.sheets h.stay no_region i inside))
          (h.sheets_are i no_region inside);
      stay_are = λ i d low.
          let inside : i < b = omega (arith, low, length-up_from (n + a) b) in
          let place : get_or (up_from (n + a) b) i d ≡ n + (a + i) = omega (arith, get_or-up_from (n + a) b i d inside) in
          subst (IsOf points all f (is_front points f) t true)
          (sym (ap (λ j. get_or new.all.items j no_region) place ∙ region_comes old new rs h.ws whole h.pushed (a + i) ∙ get_or-append-add h.sheets h.stay i no_region))
          (h.stay_are i no_region inside);
      shows = ap (map show) (sym parts)
          ∙ shown_from all show rs h.ws n h.pushed.same
          (λ i low. λ m. shown all (region_comes old new rs h.ws whole h.pushed i m) (walks_come old new rs h.ws whole h.pushed i low m))
          ∙ h.shows;
    }
