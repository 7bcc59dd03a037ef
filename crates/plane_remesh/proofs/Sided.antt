-- The sides of a plane are those of its first triangles that face its front and its back, in one order or the other.
use Rattle.std.proofs.Common.{◌≡◌, ◌∙◌, ◌++◌, ℕ, ℤ, Bool, List, [], ◌∷◌, true, false, ap, cond, filter, get_or, inl, inr, map, refl, sym, Some}
use Rattle.std.specs.Prelude.{◌⊎◌, ◌&&◌, ◌||◌, find, not}
use Rattle.std.specs.List.{All, list_any}
use Rattle.std.proofs.lemmas.Bool.{cases_Bool}
use Rattle.std.proofs.lemmas.List.Elements.{All-append, All-cons, All-head, All-nil, All-tail, filter-append}
use Rattle.std.proofs.lemmas.List.Folds.{list_any-append}
use Rattle.plane_chains.specs.Listed.{faces_side}
use Rattle.plane_chains.specs.Pairs.{option_list}
use Rattle.plane_groups.specs.Grouped.{face_at, is_front}
use Rattle.plane_groups.proofs.Views.{side_by_front}
use Rattle.sheet_terms.specs.Faces.{Face, faces_as, in_plane, is_left, seen}
use Rattle.sheet_terms.specs.Places.{firsts, firsts_after}
use Rattle.sheet_terms.specs.Twins.{are_same}
use Rattle.plane_remesh.proofs.Coplanar.{IsBent, in_plane_same}

-- a triangle of the plane of s that faces the front, or the back
abbrev pub is_side : List (List ℤ) → Face → Bool → Face → Bool
is_side points s front f = in_plane points s f && are_same front (is_front points f)

-- of triangles the first one that faces front and the first one that faces back, but for the sides that have one
abbrev pub picked : (Face → Bool) → Bool → Bool → List Face → List Face
picked test a b [] = []
picked test a b (f ∷ fs) = cond (test f) (cond a (picked test a b fs) (f ∷ picked test true b fs)) (cond b (picked test a b fs) (f ∷ picked test a true fs))

or_no : (b : Bool) → (b || false) ≡ b
or_no true = refl
or_no false = refl

or_yes : (b : Bool) → (b || true) ≡ true
or_yes true = refl
or_yes false = refl

module _ (points : List (List ℤ)) (s : Face) (bent_s : IsBent points s) where
  -- a triangle of the plane faces a side as one before does
  pub like_one : (x b : Face) → IsBent points x → in_plane points s x ≡ true → IsBent points b → faces_as points x b ≡ is_side points s (is_front points x) b
  like_one x b bent_x in_x bent_b =
      by (cases_Bool (in_plane points s b))
    where
      same : in_plane points x b ≡ in_plane points s b
      same = in_plane_same points s x bent_s bent_x in_x b bent_b

      by : (in_plane points s b ≡ true) ⊎ (in_plane points s b ≡ false) → faces_as points x b ≡ is_side points s (is_front points x) b
      by (inl y) =
          side_by_front points x b bent_x bent_b (same ∙ y) ∙ ap (λ c. c && are_same (is_front points x) (is_front points b)) (sym y)
      by (inr n) =
          ap (λ c. c && is_left (seen points x) b.corners) (same ∙ n) ∙ ap (λ c. c && are_same (is_front points x) (is_front points b)) (sym n)

  like_any : (x : Face) (before : List Face) → IsBent points x → in_plane points s x ≡ true → All (IsBent points) before →
      list_any (faces_as points x) before ≡ list_any (is_side points s (is_front points x)) before
  like_any x [] bent_x in_x all = refl
  like_any x (b ∷ before) bent_x in_x all =
      λ i. like_one x b bent_x in_x (All-head (IsBent points) b before all) i || like_any x before bent_x in_x (All-tail (IsBent points) b before all) i

  -- one of a side more
  abbrev any_side : Bool → List Face → Bool
  any_side front before = list_any (is_side points s front) before

  any_more : (front : Bool) (before : List Face) (x : Face) → any_side front (before ++ x ∷ []) ≡ (any_side front before || is_side points s front x)
  any_more front before x =
      list_any-append (is_side points s front) before (x ∷ []) ∙ ap (λ c. any_side front before || c) (or_no (is_side points s front x))

  any_same : (front : Bool) (before : List Face) (x : Face) → is_side points s front x ≡ false → any_side front (before ++ x ∷ []) ≡ any_side front before
  any_same front before x h = any_more front before x ∙ ap (λ c. any_side front before || c) h ∙ or_no (any_side front before)

  any_now : (front : Bool) (before : List Face) (x : Face) → is_side points s front x ≡ true → any_side front (before ++ x ∷ []) ≡ true
  any_now front before x h = any_more front before x ∙ ap (λ c. any_side front before || c) h ∙ or_yes (any_side front before)

  -- the first ones of sides that lie in the plane
  first_ones : (before fs : List Face) → All (IsBent points) before → All (IsBent points) fs →
      filter (in_plane points s) (firsts_after (faces_as points) before fs) ≡ picked (is_front points)
      (any_side true before) (any_side false before) (filter (in_plane points s) fs)
  first_ones before [] was all = refl
  first_ones before (x ∷ xs) was all =
      filter-append (in_plane points s) (cond (list_any (faces_as points x) before) [] (x ∷ [])) (firsts_after (faces_as points) (before ++ x ∷ []) xs)
      ∙ ap (λ l. filter (in_plane points s) (cond (list_any (faces_as points x) before) [] (x ∷ [])) ++ l)
      (first_ones (before ++ x ∷ []) xs
      (All-append (IsBent points) before (x ∷ []) was (All-cons (IsBent points) x [] bent_x (All-nil (IsBent points)))) (All-tail (IsBent points) x xs all))
      ∙ by (cases_Bool (in_plane points s x)) (cases_Bool (is_front points x))
    where
      bent_x : IsBent points x
      bent_x = All-head (IsBent points) x xs all

      rest : List Face
      rest = filter (in_plane points s) xs

      -- the member itself, where it is kept or not
      own : (b c : Bool) → in_plane points s x ≡ b → list_any (faces_as points x) before ≡ c →
          filter (in_plane points s) (cond (list_any (faces_as points x) before) [] (x ∷ [])) ≡ cond c [] (cond b (x ∷ []) [])
      own b true h e = ap (λ d. filter (in_plane points s) (cond d [] (x ∷ []))) e
      own b false h e = ap (λ d. filter (in_plane points s) (cond d [] (x ∷ []))) e ∙ ap (λ d. cond d (x ∷ []) []) h

      none : (c : Bool) → cond c [] (cond false (x ∷ []) []) ≡ []
      none true = refl
      none false = refl

      -- it faces the front, or the back
      to_front : (a b : Bool) → cond a [] (x ∷ []) ++ picked (is_front points) true b rest ≡ cond a (picked (is_front points) a b rest) (x ∷ picked (is_front points) true b rest)
      to_front true b = refl
      to_front false b = refl

      to_back : (a b : Bool) → cond b [] (x ∷ []) ++ picked (is_front points) a true rest ≡ cond b (picked (is_front points) a b rest) (x ∷ picked (is_front points) a true rest)
      to_back a true = refl
      to_back a false = refl

      front_is : (front c : Bool) → in_plane points s x ≡ true → is_front points x ≡ c → is_side points s front x ≡ are_same front c
      front_is front c h e = λ i. h i && are_same front (e i)

      by : (in_plane points s x ≡ true) ⊎ (in_plane points s x ≡ false) → (is_front points x ≡ true) ⊎ (is_front points x ≡ false) →
          filter (in_plane points s) (cond (list_any (faces_as points x) before) [] (x ∷ []))
          ++ picked (is_front points) (any_side true (before ++ x ∷ [])) (any_side false (before ++ x ∷ [])) rest
          ≡ picked (is_front points) (any_side true before) (any_side false before) (filter (in_plane points s) (x ∷ xs))
      by (inr out) either =
          let no : (front : Bool) → is_side points s front x ≡ false = λ front. ap (λ c. c && are_same front (is_front points x)) out in
          (λ i. (own false (list_any (faces_as points x) before) out refl ∙ none (list_any (faces_as points x) before)) i
          ++ picked (is_front points) (any_same true before x (no true) i) (any_same false before x (no false) i) rest)
          ∙ ap (λ c. picked (is_front points) (any_side true before) (any_side false before) (cond c (x ∷ rest) rest)) (sym out)
      by (inl in_x) (inl front) =
          (λ i. own true (any_side true before) in_x (like_any x before bent_x in_x was ∙ ap (λ c. any_side c before) front) i
          ++ picked (is_front points) (any_now true before x (front_is true true in_x front) i) (any_same false before x (front_is false true in_x front) i) rest)
          ∙ to_front (any_side true before) (any_side false before)
          ∙ ap (λ c. cond c
          (cond (any_side true before) (picked (is_front points) (any_side true before) (any_side false before) rest)
          (x ∷ picked (is_front points) true (any_side false before) rest))
          (cond (any_side false before) (picked (is_front points) (any_side true before) (any_side false before) rest)
          (x ∷ picked (is_front points) (any_side true before) true rest))) (sym front)
          ∙ ap (λ c. picked (is_front points) (any_side true before) (any_side false before) (cond c (x ∷ rest) rest)) (sym in_x)
      by (inl in_x) (inr back) =
          (λ i. own true (any_side false before) in_x (like_any x before bent_x in_x was ∙ ap (λ c. any_side c before) back) i
          ++ picked (is_front points) (any_same true before x (front_is true false in_x back) i) (any_now false before x (front_is false false in_x back) i) rest)
          ∙ to_back (any_side true before) (any_side false before)
          ∙ ap (λ c. cond c
          (cond (any_side true before) (picked (is_front points) (any_side true before) (any_side false before) rest)
          (x ∷ picked (is_front points) true (any_side false before) rest))
          (cond (any_side false before) (picked (is_front points) (any_side true before) (any_side false before) rest)
          (x ∷ picked (is_front points) (any_side true before) true rest))) (sym back)
          ∙ ap (λ c. picked (is_front points) (any_side true before) (any_side false before) (cond c (x ∷ rest) rest)) (sym in_x)

  pub firsts_in : (fs : List Face) → All (IsBent points) fs →
      filter (in_plane points s) (firsts (faces_as points) fs) ≡ picked (is_front points) false false (filter (in_plane points s) fs)
  firsts_in fs all = first_ones [] fs (All-nil (IsBent points)) all

-- those that are picked, by the marks of triangles that face front
module _ (all : List Face) (test : Face → Bool) (marks : List Bool) where
  -- marks say of each whether it passes
  abbrev pub IsMarked : ℕ → Type 0
  IsMarked t = get_or marks t false ≡ test (face_at all t)

  -- the first one of a side
  abbrev pub found : Bool → List ℕ → List Face
  found front ns = map (face_at all) (option_list (find (faces_side marks front) ns))

  found_not : (front : Bool) (n : ℕ) (ns : List ℕ) → faces_side marks front n ≡ false → found front (n ∷ ns) ≡ found front ns
  found_not front n ns h = ap (λ b. map (face_at all) (option_list (cond b (Some n) (find (faces_side marks front) ns)))) h

  found_now : (front : Bool) (n : ℕ) (ns : List ℕ) → faces_side marks front n ≡ true → found front (n ∷ ns) ≡ face_at all n ∷ []
  found_now front n ns h = ap (λ b. map (face_at all) (option_list (cond b (Some n) (find (faces_side marks front) ns)))) h

  -- how a step goes, by the mark
  step : (a b c : Bool) (n : ℕ) (ns : List ℕ) → IsMarked n → get_or marks n false ≡ c →
      picked test a b (map (face_at all) (n ∷ ns))
      ≡ cond c (cond a (picked test a b (map (face_at all) ns)) (face_at all n ∷ picked test true b (map (face_at all) ns)))
      (cond b (picked test a b (map (face_at all) ns)) (face_at all n ∷ picked test a true (map (face_at all) ns)))
  step a b c n ns m h =
      ap (λ d. cond d (cond a (picked test a b (map (face_at all) ns)) (face_at all n ∷ picked test true b (map (face_at all) ns)))
      (cond b (picked test a b (map (face_at all) ns)) (face_at all n ∷ picked test a true (map (face_at all) ns)))) (sym m ∙ h)

  none_left : (ns : List ℕ) → All IsMarked ns → picked test true true (map (face_at all) ns) ≡ []
  none_left [] h = refl
  none_left (n ∷ ns) h = by (cases_Bool (get_or marks n false)) (none_left ns (All-tail IsMarked n ns h))
    where
      by : (get_or marks n false ≡ true) ⊎ (get_or marks n false ≡ false) →
          picked test true true (map (face_at all) ns) ≡ [] → picked test true true (map (face_at all) (n ∷ ns)) ≡ []
      by (inl y) rest = step true true true n ns (All-head IsMarked n ns h) y ∙ rest
      by (inr out) rest = step true true false n ns (All-head IsMarked n ns h) out ∙ rest

  back_left : (ns : List ℕ) → All IsMarked ns → picked test true false (map (face_at all) ns) ≡ found false ns
  back_left [] h = refl
  back_left (n ∷ ns) h = by (cases_Bool (get_or marks n false)) (back_left ns (All-tail IsMarked n ns h))
    where
      by : (get_or marks n false ≡ true) ⊎ (get_or marks n false ≡ false) → picked test true false (map (face_at all) ns) ≡ found false ns →
          picked test true false (map (face_at all) (n ∷ ns)) ≡ found false (n ∷ ns)
      by (inl y) rest = step true false true n ns (All-head IsMarked n ns h) y ∙ rest ∙ sym (found_not false n ns (ap not y))
      by (inr out) rest =
          step true false false n ns (All-head IsMarked n ns h) out ∙ ap (λ l. face_at all n ∷ l) (none_left ns (All-tail IsMarked n ns h))
          ∙ sym (found_now false n ns (ap not out))

  front_left : (ns : List ℕ) → All IsMarked ns → picked test false true (map (face_at all) ns) ≡ found true ns
  front_left [] h = refl
  front_left (n ∷ ns) h = by (cases_Bool (get_or marks n false)) (front_left ns (All-tail IsMarked n ns h))
    where
      by : (get_or marks n false ≡ true) ⊎ (get_or marks n false ≡ false) → picked test false true (map (face_at all) ns) ≡ found true ns →
          picked test false true (map (face_at all) (n ∷ ns)) ≡ found true (n ∷ ns)
      by (inl y) rest =
          step false true true n ns (All-head IsMarked n ns h) y ∙ ap (λ l. face_at all n ∷ l) (none_left ns (All-tail IsMarked n ns h))
          ∙ sym (found_now true n ns y)
      by (inr out) rest = step false true false n ns (All-head IsMarked n ns h) out ∙ rest ∙ sym (found_not true n ns out)

  -- both, in one order or the other
  pub both_found : (ns : List ℕ) → All IsMarked ns →
      (picked test false false (map (face_at all) ns) ≡ found true ns ++ found false ns) ⊎ (picked test false false (map (face_at all) ns) ≡ found false ns ++ found true ns)
  both_found [] h = inl refl
  both_found (n ∷ ns) h = by (cases_Bool (get_or marks n false))
    where
      by : (get_or marks n false ≡ true) ⊎ (get_or marks n false ≡ false) →
          (picked test false false (map (face_at all) (n ∷ ns)) ≡ found true (n ∷ ns) ++ found false (n ∷ ns))
          ⊎ (picked test false false (map (face_at all) (n ∷ ns)) ≡ found false (n ∷ ns) ++ found true (n ∷ ns))
      by (inl y) = inl (
          step false false true n ns (All-head IsMarked n ns h) y ∙ ap (λ l. face_at all n ∷ l) (back_left ns (All-tail IsMarked n ns h))
          ∙ (λ i. sym (found_now true n ns y) i ++ sym (found_not false n ns (ap not y)) i)
          )
      by (inr out) = inr (
          step false false false n ns (All-head IsMarked n ns h) out ∙ ap (λ l. face_at all n ∷ l) (front_left ns (All-tail IsMarked n ns h))
          ∙ (λ i. sym (found_now false n ns (ap not out)) i ++ sym (found_not true n ns out) i)
          )
