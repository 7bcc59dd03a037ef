-- What fills the sides of all planes, triangle by triangle.
use Rattle.std.specs.Prelude.{◌≡◌, ◌⊎◌, ℕ, zero, suc, ◌+◌, ◌<◌, ℤ, List, [], ◌∷◌, ◌++◌, Bool, true, false, not, ◌&&◌, ◌||◌, cond, filter, get_or, length, map, replicate, sum_by}
use Rattle.std.specs.List.{All, flat_map, list_any}
use Rattle.std.proofs.Common.{arith, refl, sym, ap, subst, ◌∙◌, inl, inr}
use Rattle.std.proofs.Math.Seq.{get_or-append_seam}
use Rattle.std.proofs.lemmas.Bool.{both_ways, cases_Bool}
use Rattle.std.proofs.lemmas.List.{append-nil, append_assoc, get_or_append_left, length-append}
use Rattle.std.proofs.lemmas.List.Concat.{flat_map-append}
use Rattle.std.proofs.lemmas.List.Elements.{All-head, All-tail, filter-append}
use Rattle.std.proofs.lemmas.List.Folds.{flat_map-map}
use Rattle.std.proofs.lemmas.List.Sums.{sum_by-append}
use Rattle.chain_terms.specs.Sums.{up_from, upto}
use Rattle.ring_cutting.specs.Cuts.{Cut}
use Rattle.triangulate.specs.Fills.{fill_of}
use Rattle.edge_cutting.proofs.Gathering.{all_upto}
use Rattle.plane_groups.specs.Grouped.{bent, face_at, no_face}
use Rattle.sheet_terms.specs.Faces.{Face, drop_of, faces_as, is_flat, seen}
use Rattle.sheet_terms.specs.Filled.{Filling, filled, fillings, loops}
use Rattle.sheet_terms.specs.Places.{firsts, firsts_after}
use Rattle.sheet_terms.specs.Regions.{Region, Side, all_sides, side_of}
use Rattle.sheet_terms.specs.Remesh.{new_labels, new_triples}
use Rattle.plan_laws.specs.Ordered.{FilledByFirsts, FillsSide, SameFillings, WalklessFillNothing, is_first, side_at}

-- first members by their places
module _ {X : Type 0} (p : X → Bool) (like : X → X → Bool) (d : X) where
  abbrev earlier : List X → ℕ → ℕ → Bool
  earlier xs t u = p (get_or xs u d) && like (get_or xs t d) (get_or xs u d)

  abbrev first_in : List X → ℕ → Bool
  first_in xs t = p (get_or xs t d) && not (list_any (earlier xs t) (upto t))

  -- the members of a list that pass, one by one
  any_passed : (q : X → Bool) (xs : List X) → list_any (λ y. p y && q y) xs ≡ list_any q (filter p xs)
  any_passed q [] = refl
  any_passed q (x ∷ xs) = by (any_passed q xs) (p x)
    where
      by : list_any (λ y. p y && q y) xs ≡ list_any q (filter p xs) → (b : Bool) →
          ((b && q x) || list_any (λ y. p y && q y) xs) ≡ list_any q (cond b (x ∷ filter p xs) (filter p xs))
      by go true = ap (λ r. q x || r) go
      by go false = go

  any_places : (q : X → Bool) (before xs rest : List X) →
      list_any (λ u. q (get_or (before ++ (xs ++ rest)) u d)) (up_from (length before) (length xs)) ≡ list_any q xs
  any_places q before [] rest = refl
  any_places q before (x ∷ xs) rest =
      let moved : before ++ x ∷ (xs ++ rest) ≡ (before ++ x ∷ []) ++ (xs ++ rest) = sym (append_assoc before (x ∷ []) (xs ++ rest)) in
      let long : length (before ++ x ∷ []) ≡ suc (length before) = omega (arith, length-append before (x ∷ [])) in
      (λ i. q (get_or-append_seam before x (xs ++ rest) d i) || list_any (λ u. q (get_or (moved i) u d)) (up_from (suc (length before)) (length xs)))
      ∙ ap (λ m. q x || list_any (λ u. q (get_or ((before ++ x ∷ []) ++ (xs ++ rest)) u d)) (up_from m (length xs))) (sym long)
      ∙ ap (λ b. q x || b) (any_places q (before ++ x ∷ []) xs rest)

  earlier_is : (before rest : List X) (x : X) →
      list_any (earlier (before ++ x ∷ rest) (length before)) (upto (length before)) ≡ list_any (like x) (filter p before)
  earlier_is before rest x =
      ap (λ y. list_any (λ u. p (get_or (before ++ x ∷ rest) u d) && like y (get_or (before ++ x ∷ rest) u d)) (upto (length before))) (get_or-append_seam before x rest d)
      ∙ any_places (λ y. p y && like x y) [] before (x ∷ rest) ∙ any_passed (like x) before

  by_place : (before rest : List X) →
      firsts_after like (filter p before) (filter p rest) ≡ map (λ t. get_or (before ++ rest) t d) (filter (first_in (before ++ rest)) (up_from (length before) (length rest)))
  by_place before [] = refl
  by_place before (x ∷ rest) = by (by_place (before ++ x ∷ []) rest) (cases_Bool (p x))
    where
      k : ℕ
      k = length before

      whole : List X
      whole = before ++ x ∷ rest

      tail : List ℕ
      tail = filter (first_in whole) (up_from (suc k) (length rest))

      moved : (before ++ x ∷ []) ++ rest ≡ whole
      moved = append_assoc before (x ∷ []) rest

      long : length (before ++ x ∷ []) ≡ suc k
      long = omega (arith, length-append before (x ∷ []))

      gone : (firsts_after like (filter p (before ++ x ∷ [])) (filter p rest)
          ≡ map (λ t. get_or ((before ++ x ∷ []) ++ rest) t d) (filter (first_in ((before ++ x ∷ []) ++ rest)) (up_from (length (before ++ x ∷ [])) (length rest)))) → firsts_after like (filter p (before ++ x ∷ [])) (filter p rest) ≡ map (λ t. get_or whole t d) tail
      gone raw =
          raw ∙ (λ i. map (λ t. get_or (moved i) t d) (filter (first_in (moved i)) (up_from (long i) (length rest))))

      here : get_or whole k d ≡ x
      here = get_or-append_seam before x rest d

      test : first_in whole k ≡ (p x && not (list_any (like x) (filter p before)))
      test = (λ i. p (here i) && not (list_any (earlier whole k) (upto k))) ∙ ap (λ b. p x && not b) (earlier_is before rest x)

      by : (firsts_after like (filter p (before ++ x ∷ [])) (filter p rest)
          ≡ map (λ t. get_or ((before ++ x ∷ []) ++ rest) t d) (filter (first_in ((before ++ x ∷ []) ++ rest)) (up_from (length (before ++ x ∷ [])) (length rest)))) → (p x ≡ true) ⊎ (p x ≡ false) →
          firsts_after like (filter p before) (filter p (x ∷ rest)) ≡ map (λ t. get_or whole t d) (cond (first_in whole k) (k ∷ tail) tail)
      by raw (inl is) =
          ap (λ b. firsts_after like (filter p before) (cond b (x ∷ filter p rest) (filter p rest))) is
          ∙ ap (λ l. cond (list_any (like x) (filter p before)) [] (x ∷ []) ++ firsts_after like l (filter p rest)) (sym added)
          ∙ ap (λ l. cond (list_any (like x) (filter p before)) [] (x ∷ []) ++ l) (gone raw) ∙ either (list_any (like x) (filter p before))
          ∙ sym (ap (λ b. map (λ t. get_or whole t d) (cond b (k ∷ tail) tail)) (test ∙ ap (λ b. b && not (list_any (like x) (filter p before))) is))
        where
          added : filter p (before ++ x ∷ []) ≡ filter p before ++ x ∷ []
          added = filter-append p before (x ∷ []) ∙ ap (λ b. filter p before ++ cond b (x ∷ []) []) is

          either : (b : Bool) → cond b [] (x ∷ []) ++ map (λ t. get_or whole t d) tail ≡ map (λ t. get_or whole t d) (cond (not b) (k ∷ tail) tail)
          either true = refl
          either false = ap (λ y. y ∷ map (λ t. get_or whole t d) tail) (sym here)
      by raw (inr none) =
          ap (λ b. firsts_after like (filter p before) (cond b (x ∷ filter p rest) (filter p rest))) none
          ∙ ap (λ l. firsts_after like l (filter p rest)) (sym added) ∙ gone raw
          ∙ sym (ap (λ b. map (λ t. get_or whole t d) (cond b (k ∷ tail) tail)) (test ∙ ap (λ b. b && not (list_any (like x) (filter p before))) none))
        where
          added : filter p (before ++ x ∷ []) ≡ filter p before
          added = filter-append p before (x ∷ []) ∙ ap (λ b. filter p before ++ cond b (x ∷ []) []) none ∙ append-nil (filter p before)

  pub firsts_by_place : (xs : List X) → firsts like (filter p xs) ≡ map (λ t. get_or xs t d) (filter (first_in xs) (upto (length xs)))
  firsts_by_place xs = by_place [] xs

-- lists of fillings side by side
same_none : SameFillings [] []
same_none = record { triples = refl; labels = refl; forced = refl }

pub same_join : (a b c d : List Filling) → SameFillings a b → SameFillings c d → SameFillings (a ++ c) (b ++ d)
same_join a b c d h k = record {
  triples = flat_map-append (λ (g : Filling). g.triples) a c ∙ (λ i. h.triples i ++ k.triples i) ∙ sym (flat_map-append (λ (g : Filling). g.triples) b d);
  labels = flat_map-append (λ (g : Filling). replicate (length g.triples) g.label) a c ∙ (λ i. h.labels i ++ k.labels i)
      ∙ sym (flat_map-append (λ (g : Filling). replicate (length g.triples) g.label) b d);
  forced = sum_by-append (λ (g : Filling). g.forced) a c ∙ (λ i. h.forced i + k.forced i) ∙ sym (sum_by-append (λ (g : Filling). g.forced) b d);
}

module _ (points : List (List ℤ)) (all : List Face) (es : List (ℕ × ℕ)) where
  abbrev filling_at : ℕ → List Filling
  filling_at t = map (filled points es (side_at points all t)) (side_at points all t).regions

  -- at the places that pass, what fills the side there; at others nothing
  over_places : (put : ℕ → List Filling) (ts : List ℕ) → All (λ t. FillsSide points all es t (put t)) ts →
      SameFillings (flat_map put ts) (flat_map filling_at (filter (is_first points all) ts))
  over_places put [] each = same_none
  over_places put (t ∷ ts) each =
      by (over_places put ts (All-tail (λ u. FillsSide points all es u (put u)) t ts each)) (cases_Bool (is_first points all t))
      (All-head (λ u. FillsSide points all es u (put u)) t ts each)
    where
      by : SameFillings (flat_map put ts) (flat_map filling_at (filter (is_first points all) ts)) → (is_first points all t ≡ true) ⊎ (is_first points all t ≡ false) → FillsSide points all es t (put t) →
          SameFillings (put t ++ flat_map put ts) (flat_map filling_at (cond (is_first points all t) (t ∷ filter (is_first points all) ts) (filter (is_first points all) ts)))
      by rest (inl is) h =
          subst (λ b. SameFillings (put t ++ flat_map put ts) (flat_map filling_at (cond b (t ∷ filter (is_first points all) ts) (filter (is_first points all) ts)))) (sym is)
          (same_join (put t) (filling_at t) (flat_map put ts) (flat_map filling_at (filter (is_first points all) ts)) (h.first is) rest)
      by rest (inr none) h =
          subst (λ b. SameFillings (put t ++ flat_map put ts) (flat_map filling_at (cond b (t ∷ filter (is_first points all) ts) (filter (is_first points all) ts)))) (sym none)
          (subst (λ l. SameFillings (l ++ flat_map put ts) (flat_map filling_at (filter (is_first points all) ts))) (sym (h.later none)) rest)

  -- the sides by the places of their first triangles
  sides_are : all_sides points (bent points all) ≡ map (side_at points all) (filter (is_first points all) (upto (length all)))
  sides_are =
      ap (map (side_of points (bent points all))) (firsts_by_place (λ f. not (is_flat points f.corners)) (faces_as points) no_face all)
      ∙ mapped (filter (is_first points all) (upto (length all)))
    where
      mapped : (ts : List ℕ) → map (side_of points (bent points all)) (map (face_at all) ts) ≡ map (side_at points all) ts
      mapped [] = refl
      mapped (t ∷ ts) = ap (λ l. side_at points all t ∷ l) (mapped ts)

  all_fillings : fillings points es (all_sides points (bent points all)) ≡ flat_map filling_at (filter (is_first points all) (upto (length all)))
  all_fillings =
      ap (fillings points es) sides_are ∙ flat_map-map (λ (s : Side). map (filled points es s) s.regions) (side_at points all) (filter (is_first points all) (upto (length all)))

pub filled_by_firsts : FilledByFirsts
filled_by_firsts points all es put each =
    subst (SameFillings (flat_map put (upto (length all)))) (sym (all_fillings points all es))
    (over_places points all es put (upto (length all)) (all_upto (λ t. FillsSide points all es t (put t)) (length all) each))

-- a region without walks fills nothing
walkless : (points : List (List ℤ)) (es : List (ℕ × ℕ)) (s : Side) (r : Region) → r.walks ≡ [] → SameFillings [] (filled points es s r ∷ [])
walkless points es s r none =
    let axis = drop_of points s.face in
    let cut : ◌≡◌ {A = Cut} (fill_of axis points (loops points (seen points s.face) es r)) (record { triples = []; forced = 0 }) =
    (λ i. fill_of axis points (loops points (seen points s.face) es (record { label = r.label; walks = none i }))) in
    record {
      triples = sym (λ i. (cut i).triples ++ []);
      labels = sym (λ i. replicate (length (cut i).triples) r.label ++ []);
      forced = sym ((λ i. sum_by (λ (g : Filling). g.forced) (record { label = r.label; triples = (cut i).triples; forced = (cut i).forced } ∷ [])));
    }

pub walkless_fill_nothing : WalklessFillNothing
walkless_fill_nothing points es s p none [] = same_none
walkless_fill_nothing points es s p none (r ∷ rs) = by (cases_Bool (p r)) (walkless_fill_nothing points es s p none rs)
  where
    own : SameFillings (filled points es s r ∷ []) (filled points es s r ∷ [])
    own = record { triples = refl; labels = refl; forced = refl }

    by : (p r ≡ true) ⊎ (p r ≡ false) → SameFillings (map (filled points es s) (filter p rs)) (map (filled points es s) rs) →
        SameFillings (map (filled points es s) (cond (p r) (r ∷ filter p rs) (filter p rs))) (filled points es s r ∷ map (filled points es s) rs)
    by (inl is) go =
        subst (λ b. SameFillings (map (filled points es s) (cond b (r ∷ filter p rs) (filter p rs))) (filled points es s r ∷ map (filled points es s) rs)) (sym is)
        (same_join (filled points es s r ∷ []) (filled points es s r ∷ []) (map (filled points es s) (filter p rs)) (map (filled points es s) rs) own go)
    by (inr no_walk) go =
        subst (λ b. SameFillings (map (filled points es s) (cond b (r ∷ filter p rs) (filter p rs))) (filled points es s r ∷ map (filled points es s) rs)) (sym no_walk)
        (same_join [] (filled points es s r ∷ []) (map (filled points es s) (filter p rs)) (map (filled points es s) rs) (walkless points es s r (none r no_walk)) go)
