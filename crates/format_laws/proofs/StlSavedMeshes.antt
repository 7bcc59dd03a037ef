-- The STL text of a mesh, read word after word, gives the welded mesh.
use Rattle.std.proofs.Common.{◌≡◌, ℕ, suc, ◌+◌, ◌<◌, ◌≤◌, if◌then◌else◌, Bool, true, false, List, [], ◌∷◌, ◌++◌, length}
use Rattle.std.proofs.Common.{get_or, refl, sym, ap, ◌∙◌, subst, arith, codes, append_assoc, length-append, Result, Ok}
use Rattle.std.proofs.Common.{Err, ℤ, nat_lt, rules}
use Rattle.std.specs.Prelude.{◌||◌}
use Rattle.std.specs.Cmp.{IsEquivalence}
use Rattle.std.specs.List.{All, IsDistinct, flat_map, list_any, position_or_len}
use Rattle.std.specs.Set.{is_member}
use Rattle.std.proofs.lemmas.Bool.Decides.{nat_tests}
use Rattle.std.proofs.lemmas.Cmp.{int_eq_equiv, lists_equiv}
use Rattle.std.proofs.lemmas.List.Elements.{All-head, All-tail}
use Rattle.std.proofs.lemmas.List.Folds.{list_any-append, list_any_at}
use Rattle.std.proofs.lemmas.Map.Keys.{IsDistinct-push}
use Rattle.std.proofs.lemmas.Map.Made.{length-le_from_is_member}
use Rattle.text_terms.specs.Coordinates.{coordinate}
use Rattle.text_terms.specs.FirstFault.{then_read}
use Rattle.text_terms.specs.Lines.{lines_of, numbered, words_of}
use Rattle.text_terms.specs.Written.{line_of, three_numbers, written}
use Rattle.mesh_terms.specs.Faults.{Fault, Points, Triangles, Over}
use Rattle.mesh_terms.specs.Limits.{Limits, IsLawful}
use Rattle.mesh_terms.specs.Labels.{no_labels}
use Rattle.mesh_terms.specs.Meshes.{IsBelow, Triple, soup_of}
use Rattle.mesh_terms.specs.Points.{IsPoint, coordinate_of}
use Rattle.format_laws.specs.Within.{IsWithin}
use Rattle.format_laws.proofs.Bytes.{Above, IsWord, Above-lower}
use Rattle.format_laws.proofs.Lines.{lines_of-line}
use Rattle.format_laws.proofs.Words.{spaced, words_of-spaced, Above-spaced}
use Rattle.format_laws.proofs.SavedLines.{coordinate_text, three_coordinates, three_spaced}
use Rattle.format_terms.specs.StlGrammar.{Place, InSolid, Vertex, Number, EndLoop, AfterSolid}
use Rattle.format_terms.specs.Stl.{Gathered, after_corners, at_end, last_line, nothing_gathered, repeats, same_point, stl}
use Rattle.format_terms.specs.Stl.{stl_line, stl_lines, welded, with_corner_at, word_lines}
use Rattle.format_terms.specs.StlWritten.{corner_text, corner_line, facet_text, stl_text}
use Rattle.format_laws.specs.Welding.{WeldedMesh, placed, with_corners, welded_onto, welded_mesh}

-- a reading with so many points, triangles and corners
abbrev reading : List (List ℤ) → List Triple → List ℕ → Place → Gathered
reading points triples corners place = record { points = points; triples = triples; corners = corners; numbers = []; place = place }

-- the numbered lines of a text with their words
abbrev word_lines_from : ℕ → List ℕ → List (ℕ × List (List ℕ))
word_lines_from n text = word_lines (numbered n (lines_of text))

-- reading on at the end of a line
nothing_after : (r : Result Gathered Fault) → then_read r (λ t. Ok t) ≡ r
nothing_after (Ok s) = refl
nothing_after (Err e) = refl

-- the words of a corner's line
corner_read : (k : ℕ) (limits : Limits) (n : ℕ) (points : List (List ℤ)) (triples : List Triple) (corners : List ℕ) (a b c : List ℕ) (x y z : ℤ) →
    coordinate k a ≡ Ok x → coordinate k b ≡ Ok y → coordinate k c ≡ Ok z →
    stl_line k limits n (codes "vertex" ∷ a ∷ b ∷ c ∷ []) (reading points triples corners Vertex)
    ≡ with_corner_at (record { points = points; triples = triples; corners = corners; numbers = x ∷ y ∷ []; place = Number }) (welded limits points (x ∷ y ∷ z ∷ []))
corner_read k limits n points triples corners a b c x y z p q r =
    rw (p, q, r) (nothing_after
    (with_corner_at (record { points = points; triples = triples; corners = corners; numbers = x ∷ y ∷ []; place = Number }) (welded limits points (x ∷ y ∷ z ∷ []))))

-- two points are the same exactly where they are equal, and so each is one of the other's kind
point_laws : IsEquivalence same_point
point_laws = lists_equiv int_eq_equiv

-- a point is among points where an equal one is
member_same : (q p : List ℤ) → same_point q p ≡ true → (points : List (List ℤ)) → list_any (same_point q) points ≡ list_any (same_point p) points
member_same q p same [] = refl
member_same q p same (x ∷ xs) = λ i. point_laws.congr q p x same i || member_same q p same xs i

-- a point of a list is among its points
member_at : (points : List (List ℤ)) (v : ℕ) → v < length points → is_member same_point points (get_or points v []) ≡ true
member_at points v within = list_any_at (same_point (get_or points v [])) points v [] within (point_laws.refl (get_or points v []))

-- an element that passes is the first place
place_here : {X : Type 0} (p : X → Bool) (x : X) (xs : List X) → p x ≡ true → position_or_len p (x ∷ xs) ≡ 0
place_here p x xs e = rw e refl

-- past an element that does not pass
place_past : {X : Type 0} (p : X → Bool) (x : X) (xs : List X) → p x ≡ false → position_or_len p (x ∷ xs) ≡ suc (position_or_len p xs)
place_past p x xs e = rw e (omega arith)

-- where no place is found no element passes
none_there : {X : Type 0} (p : X → Bool) (xs : List X) → length xs ≤ position_or_len p xs → list_any p xs ≡ false
none_there p [] e = refl
none_there p (x ∷ xs) e = by_test (p x) refl (none_there p xs) where
  by_test : (b : Bool) → p x ≡ b → (length xs ≤ position_or_len p xs → list_any p xs ≡ false) → list_any p (x ∷ xs) ≡ false
  by_test true t h = absurd (omega (arith, e, place_here p x xs t))
  by_test false t h = rw t (h (omega (arith, e, place_past p x xs t)))

-- different points, each of them one of the mesh's
record IsWelded (ps points : List (List ℤ)) : Type 0 where
  distinct : IsDistinct same_point points
  among : (q : List ℤ) → is_member same_point points q ≡ true → is_member same_point ps q ≡ true

-- so they are no more than those
few_welded : (ps points : List (List ℤ)) → IsWelded ps points → length points ≤ length ps
few_welded ps points w = length-le_from_is_member point_laws points ps w.distinct w.among

-- one point more
placed_welded : (ps points : List (List ℤ)) (p : List ℤ) → IsWelded ps points → is_member same_point ps p ≡ true → IsWelded ps (placed points p).1
placed_welded ps points p w member = by_place (nat_lt (position_or_len (same_point p) points) (length points)) refl where
  by_place : (b : Bool) → nat_lt (position_or_len (same_point p) points) (length points) ≡ b → IsWelded ps (if b then points else points ++ p ∷ [])
  by_place true e = w
  by_place false e = record {
    distinct = IsDistinct-push point_laws points p w.distinct (none_there (same_point p) points (grind (arith, nat_tests, e)));
    among = λ q is. by_member q (list_any (same_point q) points) refl (sym (list_any-append (same_point q) points (p ∷ [])) ∙ is);
  } where
    by_member : (q : List ℤ) (b : Bool) → list_any (same_point q) points ≡ b → (list_any (same_point q) points || (same_point q p || false)) ≡ true →
        is_member same_point ps q ≡ true
    by_member q true old is = w.among q old
    by_member q false old is =
        let same : same_point q p ≡ true = grind (arith, old, is) in
        member_same q p same ps ∙ member

-- the number of a point and the points with it, by whether it is known and whether there is no room
abbrev tried : List (List ℤ) → List ℤ → ℕ → Bool → Bool → Result (ℕ × List (List ℤ)) Fault
tried points p v known over = if known then Ok (v, points) else if over then Err (Over Points (length points + 1)) else Ok (v, points ++ p ∷ [])

-- a corner is at the place that it has, where there is room for it
welded-placed : (limits : Limits) (points : List (List ℤ)) (p : List ℤ) → length (placed points p).1 ≤ limits.points → welded limits points p ≡ Ok (placed points p)
welded-placed limits points p room = by_place (position_or_len (same_point p) points) (nat_lt (position_or_len (same_point p) points) (length points)) room where
  by_place : (v : ℕ) (b : Bool) → length (if b then points else points ++ p ∷ []) ≤ limits.points →
      tried points p v b (nat_lt limits.points (length points + 1)) ≡ Ok (v, if b then points else points ++ p ∷ [])
  by_place v true few = refl
  by_place v false few =
      let more : length (points ++ p ∷ []) ≡ length points + 1 = length-append points (p ∷ []) in
      let test : nat_lt limits.points (length points + 1) ≡ false = grind (arith, nat_tests, more, few) in
      ap (tried points p v false) test

-- the line of a corner, without its end
abbrev vertex_text : ℕ → List ℤ → List ℕ
vertex_text k p = codes "vertex " ++ three_numbers k p

-- as four words
vertex_spaced : (k : ℕ) (p : List ℤ) →
    vertex_text k p ≡ spaced (codes "vertex") (written k (coordinate_of p 0)) (written k (coordinate_of p 1)) (written k (coordinate_of p 2))
vertex_spaced k p =
    ap (λ (l : List ℕ). codes "vertex " ++ l) (three_spaced (written k (coordinate_of p 0)) (written k (coordinate_of p 1)) (written k (coordinate_of p 2)))

-- the keyword is a word
vertex_word : IsWord (codes "vertex")
vertex_word = record { some = omega arith; marks = (omega arith, (omega arith, (omega arith, (omega arith, (omega arith, (omega arith, tt)))))) }

-- the line of a corner is the first of its text
vertex_line : (k : ℕ) (p : List ℤ) (rest : List ℕ) → k ≤ 6 → IsPoint p → lines_of (corner_text k p ++ rest) ≡ vertex_text k p ∷ lines_of rest
vertex_line k p rest few on =
    let t = coordinate_text k p few on in
    let a = written k (coordinate_of p 0) in
    let b = written k (coordinate_of p 1) in
    let c = written k (coordinate_of p 2) in
    let above =
    Above-lower 13 31 (spaced (codes "vertex") a b c) (omega arith) (Above-spaced (codes "vertex") a b c vertex_word t.0.plain.word t.1.plain.word t.2.plain.word) in
    let P : List ℕ → Type 0 = λ l. Above 13 l in
    lines_of-line (vertex_text k p) rest (subst P (sym (vertex_spaced k p)) above)

-- and adds the corner
vertex_read : (k : ℕ) (limits : Limits) (n : ℕ) (points : List (List ℤ)) (triples : List Triple) (corners : List ℕ) (p : List ℤ) → k ≤ 6 → IsPoint p →
    length (placed points p).1 ≤ limits.points →
    stl_line k limits n (words_of (vertex_text k p)) (reading points triples corners Vertex)
    ≡ Ok (reading (placed points p).1 triples (corners ++ (placed points p).0 ∷ []) (after_corners (corners ++ (placed points p).0 ∷ [])))
vertex_read k limits n points triples corners p few on room =
    let t = coordinate_text k p few on in
    let x = coordinate_of p 0 in
    let y = coordinate_of p 1 in
    let z = coordinate_of p 2 in
    let a = written k x in
    let b = written k y in
    let c = written k z in
    let two : Gathered = record { points = points; triples = triples; corners = corners; numbers = x ∷ y ∷ []; place = Number } in
    ap (λ (l : List ℕ). stl_line k limits n (words_of l) (reading points triples corners Vertex)) (vertex_spaced k p)
    ∙ ap (λ (ws : List (List ℕ)). stl_line k limits n ws (reading points triples corners Vertex))
    (words_of-spaced (codes "vertex") a b c vertex_word t.0.plain.word t.1.plain.word t.2.plain.word)
    ∙ corner_read k limits n points triples corners a b c x y z t.0.reads t.1.reads t.2.reads
    ∙ ap (λ (q : List ℤ). with_corner_at two (welded limits points q)) (three_coordinates p on.three)
    ∙ ap (with_corner_at two) (welded-placed limits points p room)

-- eight texts, one after the other
regrouped : (a b c d e f g rest : List ℕ) → (a ++ b ++ c ++ d ++ e ++ f ++ g) ++ rest ≡ a ++ (b ++ (c ++ (d ++ (e ++ (f ++ (g ++ rest))))))
regrouped a b c d e f g rest = simp append_assoc

-- the lines before the corners of a facet
facet_begins : (k : ℕ) (limits : Limits) (n : ℕ) (points : List (List ℤ)) (triples : List Triple) (rest : List ℕ) →
    stl_lines k limits (word_lines_from n (line_of (codes "facet normal 0 0 0") ++ (line_of (codes "outer loop") ++ rest))) (reading points triples [] InSolid)
    ≡ stl_lines k limits (word_lines_from (suc (suc n)) rest) (reading points triples [] Vertex)
facet_begins k limits n points triples rest = refl

-- a corner
corner_goes : (k : ℕ) (limits : Limits) (n : ℕ) (points : List (List ℤ)) (triples : List Triple) (corners : List ℕ) (p : List ℤ) (rest : List ℕ) →
    k ≤ 6 → IsPoint p → length (placed points p).1 ≤ limits.points →
    stl_lines k limits (word_lines_from n (corner_text k p ++ rest)) (reading points triples corners Vertex)
    ≡ stl_lines k limits (word_lines_from (suc n) rest)
    (reading (placed points p).1 triples (corners ++ (placed points p).0 ∷ []) (after_corners (corners ++ (placed points p).0 ∷ [])))
corner_goes k limits n points triples corners p rest few on room =
    let s = reading points triples corners Vertex in
    ap (λ (ls : List (List ℕ)). stl_lines k limits (word_lines (numbered n ls)) s) (vertex_line k p rest few on)
    ∙ ap (λ (r : Result Gathered Fault). then_read r (λ t. stl_lines k limits (word_lines_from (suc n) rest) t))
    (vertex_read k limits n points triples corners p few on room)

-- the triangles with one more, unless two of its corners are one point
abbrev with_triple : List Triple → Triple → List Triple
with_triple triples u = if repeats u then triples else triples ++ u ∷ []

-- the lines after the corners
facet_ends : (k : ℕ) (limits : Limits) (n : ℕ) (points : List (List ℤ)) (triples : List Triple) (a b c : ℕ) (rest : List ℕ) → length triples < limits.triangles →
    stl_lines k limits (word_lines_from n (line_of (codes "endloop") ++ (line_of (codes "endfacet") ++ rest))) (reading points triples (a ∷ b ∷ c ∷ []) EndLoop)
    ≡ stl_lines k limits (word_lines_from (suc (suc n)) rest) (reading points (with_triple triples (a, b, c)) [] InSolid)
facet_ends k limits n points triples a b c rest room = by_triple (repeats (a, b, c)) where
  by_triple : (d : Bool) →
      then_read (then_read
      (if d then Ok (reading points triples [] InSolid) else if nat_lt limits.triangles (length triples + 1) then Err
      (Over Triangles (length triples + 1)) else Ok (reading points (triples ++ (a, b, c) ∷ []) [] InSolid)) (λ t. Ok t))
      (λ t. stl_lines k limits (word_lines_from (suc (suc n)) rest) t)
      ≡ stl_lines k limits (word_lines_from (suc (suc n)) rest) (reading points (if d then triples else triples ++ (a, b, c) ∷ []) [] InSolid)
  by_triple true = refl
  by_triple false =
      let test : nat_lt limits.triangles (length triples + 1) ≡ false = grind (arith, nat_tests, room) in
      let answer : Bool → Result Gathered Fault =
      λ over. then_read
      (then_read (if over then Err (Over Triangles (length triples + 1)) else Ok (reading points (triples ++ (a, b, c) ∷ []) [] InSolid))
      (λ t. Ok t)) (λ t. stl_lines k limits (word_lines_from (suc (suc n)) rest) t) in
      ap answer test

-- the corners of a triangle are points of the mesh
record HasCorners (ps : List (List ℤ)) (t : Triple) : Type 0 where
  a : IsPoint (get_or ps t.0 [])
  b : IsPoint (get_or ps t.1 [])
  c : IsPoint (get_or ps t.2 [])

-- the points after the first corner, the first two and all three of a triangle
abbrev after_one : List (List ℤ) → WeldedMesh → Triple → List (List ℤ)
after_one ps m t = (placed m.points (get_or ps t.0 [])).1

abbrev after_two : List (List ℤ) → WeldedMesh → Triple → List (List ℤ)
after_two ps m t = (placed (after_one ps m t) (get_or ps t.1 [])).1

abbrev after_three : List (List ℤ) → WeldedMesh → Triple → List (List ℤ)
after_three ps m t = (placed (after_two ps m t) (get_or ps t.2 [])).1

-- a facet gives its triangle
facet_goes : (k : ℕ) (limits : Limits) (n : ℕ) (ps : List (List ℤ)) (m : WeldedMesh) (t : Triple) (rest : List ℕ) → k ≤ 6 → HasCorners ps t
    → length (after_one ps m t) ≤ limits.points → length (after_two ps m t) ≤ limits.points → length (after_three ps m t) ≤ limits.points →
    length m.triples < limits.triangles →
    stl_lines k limits (word_lines_from n (facet_text k ps t ++ rest)) (reading m.points m.triples [] InSolid)
    ≡ stl_lines k limits (word_lines_from (suc (suc (suc (suc (suc (suc (suc n))))))) rest)
    (reading (with_corners ps m t).points (with_corners ps m t).triples [] InSolid)
facet_goes k limits n ps m t rest few on one two three room =
    let a = placed m.points (get_or ps t.0 []) in
    let b = placed a.1 (get_or ps t.1 []) in
    let c = placed b.1 (get_or ps t.2 []) in
    let l1 = line_of (codes "facet normal 0 0 0") in
    let l2 = line_of (codes "outer loop") in
    let l6 = line_of (codes "endloop") in
    let l7 = line_of (codes "endfacet") in
    let c0 = corner_line k ps t.0 in
    let c1 = corner_line k ps t.1 in
    let c2 = corner_line k ps t.2 in
    let n2 = suc (suc n) in
    let n5 = suc (suc (suc n2)) in
    ap (λ (text : List ℕ). stl_lines k limits (word_lines_from n text) (reading m.points m.triples [] InSolid)) (regrouped l1 l2 c0 c1 c2 l6 l7 rest)
    ∙ facet_begins k limits n m.points m.triples (c0 ++ (c1 ++ (c2 ++ (l6 ++ (l7 ++ rest)))))
    ∙ corner_goes k limits n2 m.points m.triples [] (get_or ps t.0 []) (c1 ++ (c2 ++ (l6 ++ (l7 ++ rest)))) few on.a one
    ∙ corner_goes k limits (suc n2) a.1 m.triples (a.0 ∷ []) (get_or ps t.1 []) (c2 ++ (l6 ++ (l7 ++ rest))) few on.b two
    ∙ corner_goes k limits (suc (suc n2)) b.1 m.triples (a.0 ∷ b.0 ∷ []) (get_or ps t.2 []) (l6 ++ (l7 ++ rest)) few on.c three
    ∙ facet_ends k limits n5 c.1 m.triples a.0 b.0 c.0 rest room

-- one triangle more
corners_welded : (ps : List (List ℤ)) (m : WeldedMesh) (t : Triple) → IsBelow (length ps) t → IsWelded ps m.points →
    IsWelded ps (after_one ps m t) × IsWelded ps (after_two ps m t) × IsWelded ps (after_three ps m t)
corners_welded ps m t below w =
    let one = placed_welded ps m.points (get_or ps t.0 []) w (member_at ps t.0 below.a) in
    let two = placed_welded ps (after_one ps m t) (get_or ps t.1 []) one (member_at ps t.1 below.b) in
    (one, two, placed_welded ps (after_two ps m t) (get_or ps t.2 []) two (member_at ps t.2 below.c))

-- and no more than that
few_triples : (triples : List Triple) (u : Triple) → length (with_triple triples u) ≤ length triples + 1
few_triples triples u = by_triple (repeats u) where
  by_triple : (b : Bool) → length (if b then triples else triples ++ u ∷ []) ≤ length triples + 1
  by_triple true = omega arith
  by_triple false = omega (arith, length-append triples (u ∷ []))

-- all facets and the end of the solid
solid_goes : (k : ℕ) (limits : Limits) (n : ℕ) (ps : List (List ℤ)) (m : WeldedMesh) (ts : List Triple) → k ≤ 6 → All IsPoint ps →
    length ps ≤ limits.points → All (IsBelow (length ps)) ts → IsWelded ps m.points → length m.triples + length ts ≤ limits.triangles →
    stl_lines k limits (word_lines_from n (flat_map (facet_text k ps) ts ++ line_of (codes "endsolid manifold"))) (reading m.points m.triples [] InSolid)
    ≡ Ok (reading (welded_onto ps m ts).points (welded_onto ps m ts).triples [] AfterSolid)
solid_goes k limits n ps m [] few on room below w left = refl
solid_goes k limits n ps m (t ∷ ts) few on room below w left =
    let here = All-head (IsBelow (length ps)) t ts below in
    let after = corners_welded ps m t here w in
    let next = with_corners ps m t in
    let a = placed m.points (get_or ps t.0 []) in
    let b = placed a.1 (get_or ps t.1 []) in
    let c = placed b.1 (get_or ps t.2 []) in
    let corners : HasCorners ps t = record { a = on t.0 [] here.a; b = on t.1 [] here.b; c = on t.2 [] here.c } in
    let end = line_of (codes "endsolid manifold") in
    ap (λ (text : List ℕ). stl_lines k limits (word_lines_from n text) (reading m.points m.triples [] InSolid))
    (append_assoc (facet_text k ps t) (flat_map (facet_text k ps) ts) end)
    ∙ facet_goes k limits n ps m t (flat_map (facet_text k ps) ts ++ end) few corners
    (omega (arith, few_welded ps (after_one ps m t) after.0, room)) (omega (arith, few_welded ps (after_two ps m t) after.1, room))
    (omega (arith, few_welded ps (after_three ps m t) after.2, room)) (omega (arith, left))
    ∙ solid_goes k limits (suc (suc (suc (suc (suc (suc (suc n))))))) ps next ts few on room (All-tail (IsBelow (length ps)) t ts below) after.2
    (omega (arith, left, few_triples m.triples (a.0, b.0, c.0)))

-- no points are welded
none_welded : (ps : List (List ℤ)) → IsWelded ps []
unfolding IsDistinct
none_welded ps = record { distinct = search rules; among = λ q is. absurd (cc) }

-- the text of a mesh within lawful limits reads as the welded mesh
pub meshes_read_welded : (k : ℕ) → k ≤ 6 → (limits : Limits) → IsLawful limits → (points : List (List ℤ)) (ts : List Triple) → IsWithin limits points ts →
    stl k limits (stl_text k points ts) ≡ Ok (soup_of (welded_mesh points ts).points (welded_mesh points ts).triples (no_labels (welded_mesh points ts).triples))
meshes_read_welded k few limits lawful points ts within =
    let facets = flat_map (facet_text k points) ts in
    let end = line_of (codes "endsolid manifold") in
    let text = stl_text k points ts in
    let none : WeldedMesh = record { points = []; triples = [] } in
    let first : stl_lines k limits (word_lines_from 1 (line_of (codes "solid manifold") ++ (facets ++ end))) nothing_gathered ≡
    stl_lines k limits (word_lines_from 2 (facets ++ end)) (reading [] [] [] InSolid) = refl in
    let lines = ap (λ (t : List ℕ). stl_lines k limits (word_lines_from 1 t) nothing_gathered) (append_assoc (line_of (codes "solid manifold")) facets end)
    ∙ first
    ∙ solid_goes k limits 2 points none ts few within.on_grid within.few_points within.mesh.below (none_welded points) (omega (arith, within.few_triples)) in
    ap (λ (r : Result Gathered Fault). then_read r (λ s. at_end (last_line text) s s.place)) lines
