-- The faces of an OBJ file: the vertices that their items name, and their triangles.
use Rattle.std.specs.Prelude.{ℕ, ◌-◌, List, [], ◌∷◌, true, false, Bool, ◌&&◌, ◌||◌, ◌==◌, if◌then◌else◌, nat_lt, nat_le, Option, Some, None, Result, Ok, Err}
use Rattle.std.specs.List.{list_any}
use Rattle.text_terms.specs.Numbers.{is_digits, digits_value, cut_at}
use Rattle.text_terms.specs.Written.{is_empty}
use Rattle.mesh_terms.specs.Meshes.{Triple}

-- an optional - before the rest
abbrev pub minus_first : List ℕ → Bool × List ℕ
minus_first [] = (false, [])
minus_first (c ∷ cs) = if c == 45 then (true, cs) else (false, c ∷ cs)

-- an optional - and digits: whether it is there, and the size
abbrev pub whole_number : List ℕ → Option (Bool × ℕ)
whole_number word =
    let s = minus_first word in
    if is_digits s.1 then Some (s.0, digits_value s.1) else None

abbrev pub is_whole : List ℕ → Bool
is_whole word = is_digits (minus_first word).1

abbrev pub is_slash : ℕ → Bool
is_slash c = c == 47

-- j, or j/k, of which j may be empty
abbrev pub item_parts : List ℕ → Option (List ℕ) → Bool
item_parts j None = is_whole j
item_parts j (Some k) = (is_empty j || is_whole j) && is_whole k

-- what follows i in an item: nothing, /j, //k or /j/k
abbrev pub item_tail : Option (List ℕ) → Bool
item_tail None = true
item_tail (Some rest) = let r = cut_at is_slash rest in item_parts r.0 r.1

-- the vertex from 0: a number counts from 1, or back from the last of so many points, which is -1; 5 where it is no
-- number, 6 where there is no such point
abbrev pub named_vertex : ℕ → Option (Bool × ℕ) → Result ℕ ℕ
named_vertex count None = Err 5
named_vertex count (Some s) = if nat_lt 0 s.1 && nat_le s.1 count then Ok (if s.0 then count - s.1 else s.1 - 1) else Err 6

-- the vertex of an item i, i/j, i//k or i/j/k, of so many points; 5 where it is no item, 6 where there is no such point
abbrev pub item_vertex : ℕ → List ℕ → Result ℕ ℕ
item_vertex count word =
    let i = cut_at is_slash word in
    if item_tail i.1 then named_vertex count (whole_number i.0) else Err 5

-- first item, item m, item m + 1
abbrev pub fan_from : ℕ → List ℕ → List Triple
fan_from a [] = []
fan_from a (b ∷ []) = []
fan_from a (b ∷ c ∷ r) = (a, b, c) ∷ fan_from a (c ∷ r)

abbrev pub face_fan : List ℕ → List Triple
face_fan [] = []
face_fan (a ∷ r) = fan_from a r

abbrev pub has_repeat : List ℕ → Bool
has_repeat [] = false
has_repeat (v ∷ vs) = list_any (λ w. w == v) vs || has_repeat vs
