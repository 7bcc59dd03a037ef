-- The starts and the ends among entries, and where they lie.
use Rattle.std.specs.Prelude.{ℕ, ℤ, List, [], map, Bool, true, false, not, get_or}
use Rattle.std.specs.List.{filter}
use Rattle.mb_base.specs.declared.results.Entry.{Entry}
use Rattle.mb_base.specs.declared.results.Segment.{Segment}

-- the edge of a segment
abbrev pub edge_of : Segment → ℕ × ℕ
edge_of s = (s.from, s.to)

-- whether the entry is a start, or whether it is an end
abbrev pub is_chosen : Bool → Entry → Bool
is_chosen true e = e.start
is_chosen false e = not e.start

-- the vertices of the starts, or those of the ends, in order
abbrev pub chosen : Bool → List Entry → List ℕ
chosen start entries = map (λ e. e.vertex) (filter (is_chosen start) entries)

-- the vertices that start a segment
abbrev pub starts_of : List Entry → List ℕ
starts_of entries = chosen true entries

-- the vertices that end one
abbrev pub ends_of : List Entry → List ℕ
ends_of entries = chosen false entries

-- where each vertex lies
abbrev pub place_in : List (List ℤ) → ℕ → List ℤ
place_in points v = get_or points v []

-- where the entries lie
abbrev pub places_of : List Entry → List (List ℤ) → List (List ℤ)
places_of entries points = map (λ e. place_in points e.vertex) entries
