-- The points and triangles of an ASCII STL file, or its first fault; corners at one point are one point.
use Rattle.std.specs.Prelude.{ℕ, ◌+◌, ℤ, List, [], ◌∷◌, ◌++◌, Bool, ◌||◌, ◌==◌, if◌then◌else◌, nat_lt, length, map, Option, Some, None, Result, Ok, Err}
use Rattle.std.specs.Cmp.Lexicographic.{pointwise}
use Rattle.std.specs.Ordering.{int_eq}
use Rattle.std.specs.List.{count_by, position_or_len}
use Rattle.text_terms.specs.Coordinates.{coordinate}
use Rattle.text_terms.specs.FirstFault.{then_read, read_each, on_line}
use Rattle.text_terms.specs.Lines.{words_of, lines_of, without_mark, numbered}
use Rattle.mesh_terms.specs.Faults.{Points, Triangles, Fault, Bad, Over}
use Rattle.mesh_terms.specs.Labels.{no_labels}
use Rattle.mesh_terms.specs.Limits.{Limits}
use Rattle.mesh_terms.specs.Meshes.{Triple, Soup, soup_of, triple_of}
use Rattle.format_terms.specs.StlGrammar.{Place, BeforeSolid, InSolid, Vertex, Number, EndLoop, EndFacet, AfterSolid, after_turn, after_word}

-- the points and triples so far; of the present facet the corners, and of its present corner the numbers; and the place
pub record Gathered : Type 0 where
  pub points : List (List ℤ)
  pub triples : List Triple
  pub corners : List ℕ
  pub numbers : List ℤ
  pub place : Place

abbrev pub nothing_gathered : Gathered
nothing_gathered = record { points = []; triples = []; corners = []; numbers = []; place = BeforeSolid }

abbrev pub at_place : Place → Gathered → Gathered
at_place place s = record { points = s.points; triples = s.triples; corners = s.corners; numbers = s.numbers; place = place }

abbrev pub same_point : List ℤ → List ℤ → Bool
same_point p q = pointwise int_eq p q

-- what comes after so many corners of a facet
abbrev pub after_corners : List ℕ → Place
after_corners corners = if length corners == 3 then EndLoop else Vertex

-- a corner at point v of these points
abbrev pub with_corner : List (List ℤ) → ℕ → Gathered → Gathered
with_corner points v s =
    let corners = s.corners ++ v ∷ [] in
    record { points = points; triples = s.triples; corners = corners; numbers = []; place = after_corners corners }

-- the number of a point among these: that of the first equal one, or the next, where the limit allows it; and the points with it
abbrev pub welded : Limits → List (List ℤ) → List ℤ → Result (ℕ × List (List ℤ)) Fault
welded limits points p =
    let v = position_or_len (same_point p) points in
    let seen = length points + 1 in
    if nat_lt v (length points) then Ok (v, points)
    else if nat_lt limits.points seen then Err (Over Points seen)
    else Ok (v, points ++ p ∷ [])

abbrev pub with_corner_at : Gathered → Result (ℕ × List (List ℤ)) Fault → Result Gathered Fault
with_corner_at s welded = then_read welded (λ r. Ok (with_corner r.1 r.0 s))

-- the third number of a corner makes it
abbrev pub with_number : Limits → Gathered → ℤ → Result Gathered Fault
with_number limits s z =
    let numbers = s.numbers ++ z ∷ [] in
    if length numbers == 3 then with_corner_at s (welded limits s.points numbers)
    else Ok (record { points = s.points; triples = s.triples; corners = s.corners; numbers = numbers; place = Number })

-- some point twice
abbrev pub repeats : Triple → Bool
repeats t = (t.0 == t.1) || (t.1 == t.2) || (t.2 == t.0)

-- after the end of a facet
abbrev pub with_triples : List Triple → Gathered → Gathered
with_triples triples s = record { points = s.points; triples = triples; corners = []; numbers = s.numbers; place = InSolid }

-- a triangle with a repeated point is dropped; another is added where the limit allows it
abbrev pub end_facet : Limits → Gathered → Result Gathered Fault
end_facet limits s =
    let t = triple_of s.corners in
    let seen = length s.triples + 1 in
    if repeats t then Ok (with_triples s.triples s)
    else if nat_lt limits.triangles seen then Err (Over Triangles seen)
    else Ok (with_triples (s.triples ++ t ∷ []) s)

-- 10 where the grammar wants another word
abbrev pub or_not_stl : ℕ → Option Place → (Place → Result Gathered Fault) → Result Gathered Fault
or_not_stl n None go = Err (Bad n 10)
or_not_stl n (Some place) go = go place

-- a word on line n
abbrev pub stl_word : ℕ → Limits → ℕ → List ℕ → Gathered → Place → Result Gathered Fault
stl_word k limits n word s Number = then_read (on_line n (coordinate k word)) (with_number limits s)
stl_word k limits n word s EndFacet = or_not_stl n (after_word EndFacet word) (λ place. end_facet limits s)
stl_word k limits n word s place = or_not_stl n (after_word place word) (λ next. Ok (at_place next s))

-- the words of line n, up to a solid or endsolid, the rest of whose line is passed over
abbrev pub or_passed_over : Gathered → Option Place → Result Gathered Fault → Result Gathered Fault
or_passed_over s (Some place) rest = Ok (at_place place s)
or_passed_over s None rest = rest

abbrev pub stl_line : ℕ → Limits → ℕ → List (List ℕ) → Gathered → Result Gathered Fault
stl_line k limits n [] s = Ok s
stl_line k limits n (w ∷ ws) s = or_passed_over s (after_turn s.place w) (then_read (stl_word k limits n w s s.place) (stl_line k limits n ws))

-- the words of each line, with the line's number
abbrev pub word_lines : List (ℕ × List ℕ) → List (ℕ × List (List ℕ))
word_lines ls = map (λ l. (l.0, words_of l.1)) ls

-- line after line
abbrev pub stl_lines : ℕ → Limits → List (ℕ × List (List ℕ)) → Gathered → Result Gathered Fault
stl_lines k limits ls s = read_each (λ l t. stl_line k limits l.0 l.1 t) ls s

-- line 1 plus the number of line feeds
abbrev pub last_line : List ℕ → ℕ
last_line bytes = 1 + count_by (λ c. c == 10) bytes

-- the file may end after a solid alone; points that no triangle uses are dropped and counted, and every label is empty
abbrev pub at_end : ℕ → Gathered → Place → Result Soup Fault
at_end last s AfterSolid = Ok (soup_of s.points s.triples (no_labels s.triples))
at_end last s place = Err (Bad last 10)

abbrev pub stl : ℕ → Limits → List ℕ → Result Soup Fault
stl k limits bytes =
    then_read (stl_lines k limits (word_lines (numbered 1 (lines_of (without_mark bytes)))) nothing_gathered)
    (λ s. at_end (last_line bytes) s s.place)
