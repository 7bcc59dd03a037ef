-- What is read of a file is a mesh within the limits.
use Rattle.std.proofs.Common.{◌≡◌, ℕ, ◌+◌, ◌<◌, ◌≤◌, if◌then◌else◌, Bool, true, false, List, [], ◌∷◌, ◌++◌, length}
use Rattle.std.proofs.Common.{get_or, replicate, refl, sym, ap, subst, arith, length-append, Option, Some, None, Ok}
use Rattle.std.proofs.Common.{Err, ℤ, nat_lt, not}
use Rattle.std.specs.Prelude.{◌==◌}
use Rattle.std.specs.List.{All, position_or_len}
use Rattle.std.proofs.Math.ListN.{get_or-eq_default}
use Rattle.std.proofs.lemmas.Bool.Decides.{nat_tests}
use Rattle.std.proofs.lemmas.List.{length-map}
use Rattle.std.proofs.lemmas.List.Sums.{prefix_len-le-length}
use Rattle.std.proofs.lemmas.List.Elements.{All-append, All-nil, All-cons}
use Rattle.text_terms.specs.Coordinates.{coordinate}
use Rattle.text_terms.specs.FirstFault.{then_read, on_line}
use Rattle.text_terms.specs.Lines.{lines_of, numbered, without_mark}
use Rattle.mesh_terms.specs.Faults.{Points, Triangles, Over}
use Rattle.mesh_terms.specs.Labels.{no_labels}
use Rattle.mesh_terms.specs.Limits.{Limits, IsLawful}
use Rattle.mesh_terms.specs.Meshes.{Triple, Soup, HasThree, IsBelow, new_number, renumbered, soup_of, triple_of, used_from}
use Rattle.mesh_terms.specs.Points.{IsOnGrid, IsPoint}
use Rattle.unused_points.specs.Used.{IsSound}
use Rattle.unused_points.proofs.KeptMesh.{few_kept, kept_mesh}
use Rattle.format_laws.specs.Within.{IsWithin}
use Rattle.format_laws.proofs.ObjReadMeshes.{below_more, coordinate-ok, on_line-ok, point_of, then_read-ok, used_from-all}
use Rattle.format_terms.specs.StlGrammar.{Place, BeforeSolid, InSolid, Normal, NormalX, NormalY, NormalZ, Outer, Loop, Vertex}
use Rattle.format_terms.specs.StlGrammar.{Number, EndLoop, EndFacet, AfterSolid, after_turn, after_word}
use Rattle.format_terms.specs.Stl.{Gathered, at_end, at_place, end_facet, last_line, nothing_gathered, or_not_stl}
use Rattle.format_terms.specs.Stl.{or_passed_over, repeats, same_point, stl, stl_line, stl_lines, stl_word, welded}
use Rattle.format_terms.specs.Stl.{with_corner, with_corner_at, with_number, with_triples, word_lines}

-- what a reading keeps word after word
pub record IsKept (limits : Limits) (s : Gathered) : Type 0 where
  pub points : All IsPoint s.points
  pub three : All HasThree s.triples
  pub below : All (IsBelow (length s.points)) s.triples
  pub few_points : length s.points ≤ limits.points
  pub few_triples : length s.triples ≤ limits.triangles
  pub corners : All (λ v. v < length s.points) s.corners
  pub numbers : All IsOnGrid s.numbers

-- the place alone changes
kept_at : (limits : Limits) (s : Gathered) (place : Place) → IsKept limits s → IsKept limits (at_place place s)
kept_at limits s place kept =
    record {
      points = kept.points;
      three = kept.three;
      below = kept.below;
      few_points = kept.few_points;
      few_triples = kept.few_triples;
      corners =
          kept.corners;
      numbers = kept.numbers;
    }

-- with more points the corners are still below
corners_more : (m n : ℕ) (vs : List ℕ) → m ≤ n → All (λ v. v < m) vs → All (λ v. v < n) vs
corners_more m n vs more all i d inside = let b = all i d inside in omega (arith, more, b)

-- a corner more, at one of these points, of which the old ones are some
keeps_corner : (limits : Limits) (s : Gathered) (points : List (List ℤ)) (v : ℕ) → IsKept limits s → All IsPoint points →
    length s.points ≤ length points → length points ≤ limits.points → v < length points → IsKept limits (with_corner points v s)
keeps_corner limits s points v kept each more few within = record {
  points = each;
  three = kept.three;
  below = below_more (length s.points) (length points) s.triples more kept.below;
  few_points = few;
  few_triples = kept.few_triples;
  corners =
      All-append (λ w. w < length points) s.corners (v ∷ []) (corners_more (length s.points) (length points) s.corners more kept.corners)
      (All-cons (λ w. w < length points) v [] within (All-nil (λ w. w < length points)));
  numbers = All-nil IsOnGrid;
}

-- a corner more, which is one of the points so far or a new one
keeps_welded : (limits : Limits) (s t : Gathered) (p : List ℤ) → IsKept limits s → IsPoint p → with_corner_at s (welded limits s.points p) ≡ Ok t → IsKept limits t
keeps_welded limits s t p kept point h = by_place (nat_lt v (length s.points)) refl (nat_lt limits.points (length s.points + 1)) refl h where
  v : ℕ
  v = position_or_len (same_point p) s.points

  by_place : (b : Bool) → nat_lt v (length s.points) ≡ b → (over : Bool) → nat_lt limits.points (length s.points + 1) ≡ over
      → with_corner_at s (if b then Ok (v, s.points) else if over then Err (Over Points (length s.points + 1)) else Ok (v, s.points ++ p ∷ [])) ≡ Ok t → IsKept limits t
  by_place true e over f g =
      let same : with_corner s.points v s ≡ t = cc in
      let within : v < length s.points = grind (arith, nat_tests, e) in
      subst (IsKept limits) same (keeps_corner limits s s.points v kept kept.points (omega arith) kept.few_points within)
  by_place false e true f g = absurd (cc)
  by_place false e false f g =
      let same : with_corner (s.points ++ p ∷ []) v s ≡ t = cc in
      let room : length s.points + 1 ≤ limits.points = grind (arith, nat_tests, f) in
      let more : length (s.points ++ p ∷ []) ≡ length s.points + 1 = length-append s.points (p ∷ []) in
      let place : v ≤ length s.points = prefix_len-le-length (λ q. not (same_point p q)) s.points in
      let each = All-append IsPoint s.points (p ∷ []) kept.points (All-cons IsPoint p [] point (All-nil IsPoint)) in
      subst (IsKept limits) same (keeps_corner limits s (s.points ++ p ∷ []) v kept each (omega (arith, more)) (omega (arith, more, room)) (omega (arith, more, place)))

-- a number more, and with the third a corner
keeps_number : (limits : Limits) (s t : Gathered) (z : ℤ) → IsKept limits s → IsOnGrid z → with_number limits s z ≡ Ok t → IsKept limits t
keeps_number limits s t z kept on_grid h = by_count (length (s.numbers ++ z ∷ []) == 3) refl h where
  numbers : All IsOnGrid (s.numbers ++ z ∷ [])
  numbers = All-append IsOnGrid s.numbers (z ∷ []) kept.numbers (All-cons IsOnGrid z [] on_grid (All-nil IsOnGrid))

  by_count : (b : Bool) → (length (s.numbers ++ z ∷ []) == 3) ≡ b
      → (if b then with_corner_at s (welded limits s.points (s.numbers ++ z ∷ [])) else Ok
      (record { points = s.points; triples = s.triples; corners = s.corners; numbers = s.numbers ++ z ∷ []; place = Number })) ≡ Ok t → IsKept limits t
  by_count true e g =
      let three : length (s.numbers ++ z ∷ []) ≡ 3 = grind (arith, nat_tests, e) in
      keeps_welded limits s t (s.numbers ++ z ∷ []) kept (point_of (s.numbers ++ z ∷ []) three numbers) g
  by_count false e g =
      let same : record { points = s.points; triples = s.triples; corners = s.corners; numbers = s.numbers ++ z ∷ []; place = Number } ≡ t = cc in
      subst (IsKept limits) same
      (record {
        points = kept.points;
        three = kept.three;
        below = kept.below;
        few_points = kept.few_points;
        few_triples = kept.few_triples;
        corners =
            kept.corners;
        numbers = numbers;
      })

-- of some corners each is one of the points, also where fewer are asked for than there are
corner_below : (n v : ℕ) (vs : List ℕ) (i : ℕ) → All (λ w. w < n) (v ∷ vs) → get_or (v ∷ vs) i 0 < n
corner_below n v vs i all = by_place (nat_lt i (length (v ∷ vs))) refl where
  by_place : (b : Bool) → nat_lt i (length (v ∷ vs)) ≡ b → get_or (v ∷ vs) i 0 < n
  by_place true e = all i 0 (grind (arith, nat_tests, e))
  by_place false e =
      let past : length (v ∷ vs) ≤ i = grind (arith, nat_tests, e) in
      let none : get_or (v ∷ vs) i 0 ≡ 0 = get_or-eq_default (v ∷ vs) 0 past in
      let first : v < n = all 0 0 (omega arith) in
      omega (arith, none, first)

-- of corners that make a triangle of three points each is one of the points
corners_below : (n : ℕ) (vs : List ℕ) → All (λ w. w < n) vs → repeats (triple_of vs) ≡ false → IsBelow n (triple_of vs)
corners_below n [] all apart = absurd (cc)
corners_below n (v ∷ vs) all apart = record { a = corner_below n v vs 0 all; b = corner_below n v vs 1 all; c = corner_below n v vs 2 all }

-- and these are three
corners_three : (t : Triple) → repeats t ≡ false → HasThree t
corners_three t apart = record { ab = λ e. grind (arith, nat_tests, apart); bc = λ e. grind (arith, nat_tests, apart); ca = λ e. grind (arith, nat_tests, apart) }

-- the end of a facet
keeps_end : (limits : Limits) (s t : Gathered) → IsKept limits s → end_facet limits s ≡ Ok t → IsKept limits t
keeps_end limits s t kept h = by_triple (repeats u) refl (nat_lt limits.triangles (length s.triples + 1)) refl h where
  u : Triple
  u = triple_of s.corners

  by_triple : (b : Bool) → repeats u ≡ b → (over : Bool) → nat_lt limits.triangles (length s.triples + 1) ≡ over
      → (if b then Ok (with_triples s.triples s) else if over then Err (Over Triangles (length s.triples + 1)) else Ok
      (with_triples (s.triples ++ u ∷ []) s)) ≡ Ok t → IsKept limits t
  by_triple true e over f g =
      let same : with_triples s.triples s ≡ t = cc in
      subst (IsKept limits) same
      (record {
        points = kept.points;
        three = kept.three;
        below = kept.below;
        few_points = kept.few_points;
        few_triples = kept.few_triples;
        corners =
            All-nil (λ v. v < length s.points);
        numbers = kept.numbers;
      })
  by_triple false e true f g = absurd (cc)
  by_triple false e false f g =
      let same : with_triples (s.triples ++ u ∷ []) s ≡ t = cc in
      let room : length s.triples + 1 ≤ limits.triangles = grind (arith, nat_tests, f) in
      subst (IsKept limits) same (record {
        points = kept.points;
        three = All-append HasThree s.triples (u ∷ []) kept.three (All-cons HasThree u [] (corners_three u e) (All-nil HasThree));
        below = All-append (IsBelow (length s.points)) s.triples (u ∷ []) kept.below
            (All-cons (IsBelow (length s.points)) u [] (corners_below (length s.points) s.corners kept.corners e) (All-nil (IsBelow (length s.points))));
        few_points = kept.few_points;
        few_triples = omega (arith, room, length-append s.triples (u ∷ []));
        corners = All-nil (λ v. v < length s.points);
        numbers = kept.numbers;
      })

-- a keyword, or a word that is not looked at
keeps_moved : (limits : Limits) (n : ℕ) (s t : Gathered) (next : Option Place) → IsKept limits s →
    or_not_stl n next (λ place. Ok (at_place place s)) ≡ Ok t → IsKept limits t
keeps_moved limits n s t None kept h = absurd (cc)
keeps_moved limits n s t (Some place) kept h = let same : at_place place s ≡ t = cc in subst (IsKept limits) same (kept_at limits s place kept)

-- the word at the end of a facet
keeps_ended : (limits : Limits) (n : ℕ) (s t : Gathered) (next : Option Place) → IsKept limits s →
    or_not_stl n next (λ place. end_facet limits s) ≡ Ok t → IsKept limits t
keeps_ended limits n s t None kept h = absurd (cc)
keeps_ended limits n s t (Some place) kept h = keeps_end limits s t kept h

-- one word
keeps_word : (k : ℕ) (limits : Limits) (n : ℕ) (word : List ℕ) (s t : Gathered) (place : Place) → IsKept limits s →
    stl_word k limits n word s place ≡ Ok t → IsKept limits t
keeps_word k limits n word s t Number kept h =
    let read = then_read-ok (on_line n (coordinate k word)) (with_number limits s) t h in
    keeps_number limits s t read.0 kept (coordinate-ok k word read.0 (on_line-ok n (coordinate k word) read.0 read.1)) read.2
keeps_word k limits n word s t EndFacet kept h = keeps_ended limits n s t (after_word EndFacet word) kept h
keeps_word k limits n word s t BeforeSolid kept h = keeps_moved limits n s t (after_word BeforeSolid word) kept h
keeps_word k limits n word s t InSolid kept h = keeps_moved limits n s t (after_word InSolid word) kept h
keeps_word k limits n word s t Normal kept h = keeps_moved limits n s t (after_word Normal word) kept h
keeps_word k limits n word s t NormalX kept h = keeps_moved limits n s t (after_word NormalX word) kept h
keeps_word k limits n word s t NormalY kept h = keeps_moved limits n s t (after_word NormalY word) kept h
keeps_word k limits n word s t NormalZ kept h = keeps_moved limits n s t (after_word NormalZ word) kept h
keeps_word k limits n word s t Outer kept h = keeps_moved limits n s t (after_word Outer word) kept h
keeps_word k limits n word s t Loop kept h = keeps_moved limits n s t (after_word Loop word) kept h
keeps_word k limits n word s t Vertex kept h = keeps_moved limits n s t (after_word Vertex word) kept h
keeps_word k limits n word s t EndLoop kept h = keeps_moved limits n s t (after_word EndLoop word) kept h
keeps_word k limits n word s t AfterSolid kept h = keeps_moved limits n s t (after_word AfterSolid word) kept h

-- the words of a line
keeps_line : (k : ℕ) (limits : Limits) (n : ℕ) (words : List (List ℕ)) (s t : Gathered) → IsKept limits s → stl_line k limits n words s ≡ Ok t → IsKept limits t
keeps_line k limits n [] s t kept h = let same : s ≡ t = cc in subst (IsKept limits) same kept
keeps_line k limits n (w ∷ ws) s t kept h =
    by_turn (after_turn s.place w) h (λ u first. keeps_line k limits n ws u t (keeps_word k limits n w s u s.place kept first)) where
      by_turn : (turn : Option Place) → or_passed_over s turn (then_read (stl_word k limits n w s s.place) (stl_line k limits n ws)) ≡ Ok t
          → ((u : Gathered) → stl_word k limits n w s s.place ≡ Ok u → stl_line k limits n ws u ≡ Ok t → IsKept limits t) → IsKept limits t
      by_turn (Some place) g later = let same : at_place place s ≡ t = cc in subst (IsKept limits) same (kept_at limits s place kept)
      by_turn None g later =
          let first = then_read-ok (stl_word k limits n w s s.place) (stl_line k limits n ws) t g in
          later first.0 first.1 first.2

-- all lines
keeps_lines : (k : ℕ) (limits : Limits) (lines : List (ℕ × List (List ℕ))) (s t : Gathered) → IsKept limits s → stl_lines k limits lines s ≡ Ok t → IsKept limits t
keeps_lines k limits [] s t kept h = let same : s ≡ t = cc in subst (IsKept limits) same kept
keeps_lines k limits (l ∷ ls) s t kept h =
    let first = then_read-ok (stl_line k limits l.0 l.1 s) (λ u. stl_lines k limits ls u) t h in
    keeps_lines k limits ls first.0 t (keeps_line k limits l.0 l.1 s first.0 kept first.1) first.2

-- nothing is kept at the start
kept_start : (limits : Limits) → IsKept limits nothing_gathered
kept_start limits =
    record {
      points = All-nil IsPoint;
      three = All-nil HasThree;
      below = All-nil (IsBelow 0);
      few_points = omega arith;
      few_triples =
          omega arith;
      corners = All-nil (λ v. v < 0);
      numbers = All-nil IsOnGrid;
    }

-- a file that was read ended after a solid
ended : (last : ℕ) (s : Gathered) (place : Place) (soup : Soup) → at_end last s place ≡ Ok soup → soup_of s.points s.triples (no_labels s.triples) ≡ soup
ended last s AfterSolid soup h = cc
ended last s BeforeSolid soup h = absurd (cc)
ended last s InSolid soup h = absurd (cc)
ended last s Normal soup h = absurd (cc)
ended last s NormalX soup h = absurd (cc)
ended last s NormalY soup h = absurd (cc)
ended last s NormalZ soup h = absurd (cc)
ended last s Outer soup h = absurd (cc)
ended last s Loop soup h = absurd (cc)
ended last s Vertex soup h = absurd (cc)
ended last s Number soup h = absurd (cc)
ended last s EndLoop soup h = absurd (cc)
ended last s EndFacet soup h = absurd (cc)

-- what is read is a mesh within the limits, with empty labels
pub files_give_meshes : (k : ℕ) (limits : Limits) → IsLawful limits → (bytes : List ℕ) (soup : Soup) → stl k limits bytes ≡ Ok soup →
    IsWithin limits soup.points soup.triples × (soup.labels ≡ no_labels soup.triples)
files_give_meshes k limits lawful bytes soup h =
    let lines = word_lines (numbered 1 (lines_of (without_mark bytes))) in
    let read = then_read-ok (stl_lines k limits lines nothing_gathered) (λ s. at_end (last_line bytes) s s.place) soup h in
    let s = read.0 in
    let kept = keeps_lines k limits lines nothing_gathered s (kept_start limits) read.1 in
    let same = ended (last_line bytes) s s.place soup read.2 in
    let sound : IsSound (length s.points) s.triples =
    record {
      three = kept.three;
      below = kept.below;
      few_points = omega (arith, kept.few_points, lawful.few_points);
      few_triples =
          omega (arith, kept.few_triples, lawful.few_triangles);
    } in
    let count : length (renumbered s.triples) ≡ length s.triples =
    length-map {B = Triple} s.triples (λ t. (new_number s.triples t.0, new_number s.triples t.1, new_number s.triples t.2)) in
    let within : IsWithin limits (used_from s.triples 0 s.points) (renumbered s.triples) = record {
      on_grid = used_from-all IsPoint s.triples 0 s.points kept.points;
      mesh = kept_mesh s.triples s.points sound;
      few_points = omega (arith, few_kept s.triples 0 s.points, kept.few_points);
      few_triples = omega (arith, count, kept.few_triples);
    } in
    let empty : no_labels s.triples ≡ no_labels (renumbered s.triples) = ap (λ (n : ℕ). replicate n []) (sym count) in
    subst (λ (r : Soup). IsWithin limits r.points r.triples × (r.labels ≡ no_labels r.triples)) same (within, empty)
