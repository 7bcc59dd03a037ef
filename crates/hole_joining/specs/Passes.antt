-- The best bridge found by a pass over all bridges: the first of the shortest ones that a test lets through.
use Rattle.std.specs.Prelude.{ℕ, List, [], ◌∷◌, true, Bool, cond, not, ◌&&◌, ◌||◌, ◌==◌, nat_lt, Option, Some, None}
use Rattle.hole_joining.specs.declared.bridge.Bridge.{Bridge}

-- whether length m at ring k, place n comes after length l at ring i, place j
abbrev pub is_later : ℕ → ℕ → ℕ → ℕ → ℕ → ℕ → Bool
is_later l i j m k n = nat_lt l m || ((l == m) && (nat_lt i k || ((i == k) && nat_lt j n)))

-- whether b comes after the last bridge that was refused, if one was: longer, or as long and later in the list
abbrev pub is_after : Option Bridge → Bridge → Bool
is_after None b = true
is_after (Some c) b = is_later c.squared_length c.ring c.place b.squared_length b.ring b.place

-- whether b is shorter than the best so far
abbrev pub is_nearer : Option Bridge → Bridge → Bool
is_nearer None b = true
is_nearer (Some c) b = nat_lt b.squared_length c.squared_length

-- the best so far, or b where it is shorter and passes
abbrev pub better : (Bridge → Bool) → Option Bridge → Bridge → Option Bridge
better p best b = cond (is_nearer best b && p b) (Some b) best

-- the best after a pass over the list
abbrev pub best_of : (Bridge → Bool) → Option Bridge → List Bridge → Option Bridge
best_of p best [] = best
best_of p best (b ∷ bs) = best_of p (better p best b) bs

-- what a pass lets through: what comes after the last refused one, and is clear where that is asked
abbrev pub passes : (Bridge → Bool) → Bool → Option Bridge → Bridge → Bool
passes clear asks refused b = (not asks || clear b) && is_after refused b
