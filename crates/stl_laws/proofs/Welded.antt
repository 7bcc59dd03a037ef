-- The triangles of a welded mesh: those over the numbers of their points that have three different ones.
use Rattle.std.proofs.Common.{◌≡◌, ℕ, ◌<◌, if◌then◌else◌, Bool, true, false, List, [], ◌∷◌, ◌++◌, length, get_or, map, ℤ, refl, sym, ap, ◌∙◌, arith, append_assoc, append-nil, nat_lt, rules}
use Rattle.std.specs.Prelude.{◌||◌, ◌&&◌, ◌==◌, cond, filter, not}
use Rattle.std.specs.List.{All, IsDistinct, position_or_len}
use Rattle.std.proofs.lemmas.Bool.Decides.{nat_tests}
use Rattle.std.proofs.lemmas.List.Elements.{All-cons, All-nil}
use Rattle.std.proofs.lemmas.Map.Keys.{IsDistinct-push}
use Rattle.chain_laws.specs.Triples.{renamed_triple}
use Rattle.mesh_terms.specs.Meshes.{IsBelow, Triple}
use Rattle.stl_laws.proofs.Dropping.{has_three}
use Rattle.format_terms.specs.Stl.{repeats, same_point}
use Rattle.format_laws.specs.Welding.{WeldedMesh, placed, welded_mesh, welded_onto, with_corners}
use Rattle.stl_laws.proofs.Numbered.{IsLonger, is_longer, longer_placed, longer_self, longer_still, none_there, number_below, number_stays, point_laws}

-- three numbers are different, or one repeats
three_or_repeats : (t : Triple) → has_three t ≡ not (repeats t)
three_or_repeats t = by (t.0 == t.1) (t.1 == t.2) (t.2 == t.0) where
  by : (x y z : Bool) → (not x && not y && not z) ≡ not (x || y || z)
  by true y z = refl
  by false true z = refl
  by false false z = refl

module _ (ps : List (List ℤ)) where
  -- the number of a vertex among points: that of its point
  abbrev pub number : List (List ℤ) → ℕ → ℕ
  number qs v = position_or_len (same_point (get_or ps v [])) qs

  -- the triangles over these numbers that have three
  abbrev pub over : List (List ℤ) → List Triple → List Triple
  over qs ts = filter has_three (map (renamed_triple (number qs)) ts)

  -- the points after each corner of a triangle
  abbrev one : WeldedMesh → Triple → List (List ℤ)
  one m t = (placed m.points (get_or ps t.0 [])).1

  abbrev two : WeldedMesh → Triple → List (List ℤ)
  two m t = (placed (one m t) (get_or ps t.1 [])).1

  abbrev three : WeldedMesh → Triple → List (List ℤ)
  three m t = (placed (two m t) (get_or ps t.2 [])).1

  longer_two : (m : WeldedMesh) (t : Triple) → IsLonger (one m t) (three m t)
  longer_two m t = longer_still (one m t) (two m t) (three m t) (longer_placed (one m t) (get_or ps t.1 [])) (longer_placed (two m t) (get_or ps t.2 []))

  longer_three : (m : WeldedMesh) (t : Triple) → IsLonger m.points (three m t)
  longer_three m t = longer_still m.points (one m t) (three m t) (longer_placed m.points (get_or ps t.0 [])) (longer_two m t)

  -- the numbers that its corners get
  abbrev numbered : WeldedMesh → Triple → Triple
  numbered m t = ((placed m.points (get_or ps t.0 [])).0, (placed (one m t) (get_or ps t.1 [])).0, (placed (two m t) (get_or ps t.2 [])).0)

  -- are theirs among all points
  numbers_are : (m : WeldedMesh) (t : Triple) (qs : List (List ℤ)) → IsLonger (three m t) qs → numbered m t ≡ renamed_triple (number qs) t
  numbers_are m t qs l =
      let a = number_stays m.points (get_or ps t.0 []) qs (longer_still (one m t) (three m t) qs (longer_two m t) l) in
      let b = number_stays (one m t) (get_or ps t.1 []) qs
      (longer_still (two m t) (three m t) qs (longer_placed (two m t) (get_or ps t.2 [])) l) in
      let c = number_stays (two m t) (get_or ps t.2 []) qs l in λ i. (sym a i, sym b i, sym c i)

  -- one triangle more: it stands there where it has three
  added : (ts : List Triple) (u : Triple) (rest : List Triple) → (if repeats u then ts else ts ++ u ∷ []) ++ filter has_three rest ≡ ts ++ filter has_three (u ∷ rest)
  added ts u rest = by (repeats u) (has_three u) (three_or_repeats u) where
    by : (r h : Bool) → h ≡ not r → (if r then ts else ts ++ u ∷ []) ++ filter has_three rest ≡ ts ++ cond h (u ∷ filter has_three rest) (filter has_three rest)
    by true h e = rw e refl
    by false h e = rw e (append_assoc ts (u ∷ []) (filter has_three rest))

  -- what welding further triangles gives
  pub record AreWelded (m w : WeldedMesh) (ts : List Triple) : Type 0 where
    pub longer : IsLonger m.points w.points
    pub triples : (qs : List (List ℤ)) → IsLonger w.points qs → w.triples ≡ m.triples ++ over qs ts

  pub are_welded : (m : WeldedMesh) (ts : List Triple) → AreWelded m (welded_onto ps m ts) ts
  are_welded m [] = record { longer = longer_self m.points; triples = λ qs l. sym (append-nil m.triples) }
  are_welded m (t ∷ ts) =
      let rest = are_welded (with_corners ps m t) ts in
      let w = welded_onto ps (with_corners ps m t) ts in
      record {
        longer = longer_still m.points (three m t) w.points (longer_three m t) rest.longer;
        triples = λ qs l.
            rest.triples qs l
            ∙ added m.triples (numbered m t) (map (renamed_triple (number qs)) ts)
            ∙ ap (λ u. m.triples ++ filter has_three (u ∷ map (renamed_triple (number qs)) ts))
            (numbers_are m t qs (longer_still (three m t) w.points qs rest.longer l));
      }

  -- points that are different stay so when one is welded
  placed_distinct : (points : List (List ℤ)) (p : List ℤ) → IsDistinct same_point points → IsDistinct same_point (placed points p).1
  placed_distinct points p distinct = by (nat_lt (position_or_len (same_point p) points) (length points)) refl where
    by : (b : Bool) → nat_lt (position_or_len (same_point p) points) (length points) ≡ b → IsDistinct same_point (if b then points else points ++ p ∷ [])
    by true e = distinct
    by false e = IsDistinct-push point_laws points p distinct (none_there (same_point p) points (grind (arith, nat_tests, e)))

  welded_distinct : (m : WeldedMesh) (ts : List Triple) → IsDistinct same_point m.points → IsDistinct same_point (welded_onto ps m ts).points
  welded_distinct m [] distinct = distinct
  welded_distinct m (t ∷ ts) distinct =
      welded_distinct (with_corners ps m t) ts
      (placed_distinct (two m t) (get_or ps t.2 []) (placed_distinct (one m t) (get_or ps t.1 []) (placed_distinct m.points (get_or ps t.0 []) distinct)))

  -- each corner of the triangles has a number
  corners_below : (m : WeldedMesh) (t : Triple) (qs : List (List ℤ)) → IsLonger (three m t) qs → IsBelow (length qs) (renamed_triple (number qs) t)
  corners_below m t qs l = record {
    a = below m.points t.0 (longer_still (one m t) (three m t) qs (longer_two m t) l);
    b = below (one m t) t.1 (longer_still (two m t) (three m t) qs (longer_placed (two m t) (get_or ps t.2 [])) l);
    c = below (two m t) t.2 l;
  } where
    below : (xs : List (List ℤ)) (v : ℕ) → IsLonger (placed xs (get_or ps v [])).1 qs → number qs v < length qs
    below xs v longer = omega (arith, number_stays xs (get_or ps v []) qs longer, number_below xs (get_or ps v []), is_longer (placed xs (get_or ps v [])).1 qs longer)

  all_below : (m : WeldedMesh) (ts : List Triple) (qs : List (List ℤ)) → IsLonger (welded_onto ps m ts).points qs →
      All (λ t. IsBelow (length qs) (renamed_triple (number qs) t)) ts
  all_below m [] qs l = All-nil (λ t. IsBelow (length qs) (renamed_triple (number qs) t))
  all_below m (t ∷ ts) qs l =
      let next = with_corners ps m t in
      All-cons (λ t. IsBelow (length qs) (renamed_triple (number qs) t)) t ts
      (corners_below m t qs (longer_still (three m t) (welded_onto ps next ts).points qs (are_welded next ts).longer l)) (all_below next ts qs l)

-- nothing is welded
abbrev nothing : WeldedMesh
nothing = record { points = []; triples = [] }

none_distinct : IsDistinct same_point []
unfolding IsDistinct
none_distinct = search rules

-- the mesh welded: its points are different, and its triangles those over the numbers of their points
pub record IsWhole (ps : List (List ℤ)) (ts : List Triple) : Type 0 where
  pub distinct : IsDistinct same_point (welded_mesh ps ts).points
  pub triples : (welded_mesh ps ts).triples ≡ over ps (welded_mesh ps ts).points ts
  pub below : All (λ t. IsBelow (length (welded_mesh ps ts).points) (renamed_triple (number ps (welded_mesh ps ts).points) t)) ts

pub is_whole : (ps : List (List ℤ)) (ts : List Triple) → IsWhole ps ts
is_whole ps ts = record {
  distinct = welded_distinct ps nothing ts none_distinct;
  triples = (are_welded ps nothing ts).triples (welded_mesh ps ts).points (longer_self (welded_mesh ps ts).points);
  below = all_below ps nothing ts (welded_mesh ps ts).points (longer_self (welded_mesh ps ts).points);
}
