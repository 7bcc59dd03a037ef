-- A hole joined to a circle: the cursor goes to the place after the bridge's end, the hole's nodes come before it, and the
-- cursor goes on to the first place.
use Rattle.std.specs.Prelude.{◌≡◌, ℕ, ◌+◌, ◌<◌, List, [], ◌∷◌, ◌++◌, length, get_or, take, drop}
use Rattle.std.proofs.Common.{arith, sym, ap, ◌∙◌}
use Rattle.std.proofs.lemmas.List.{append_assoc, length-drop}
use Rattle.std.proofs.Math.Seq.{drop-append_seam, take-append_seam}
use Rattle.hole_joining.specs.Bridges.{join}
use Rattle.hole_joining.specs.Holes.{turned_to}
use Rattle.hole_joining.proofs.Joins.{vertex_within}

-- what is put before the cursor follows what stood before it
put_after : (front back hole : List ℕ) (s e : ℕ) → (((back ++ front) ++ hole) ++ s ∷ []) ++ e ∷ [] ≡ back ++ ((front ++ hole) ++ s ∷ e ∷ [])
put_after front back hole s e =
    ap (λ l. (l ++ s ∷ []) ++ e ∷ []) (append_assoc back front hole) ∙ append_assoc (back ++ (front ++ hole)) (s ∷ []) (e ∷ [])
    ∙ append_assoc back (front ++ hole) (s ∷ e ∷ [])

-- past the back the list is turned
past_back : (back xs : List ℕ) (n : ℕ) → n ≡ length back → turned_to n (back ++ xs) ≡ xs ++ back
past_back back xs n count = ap (λ m. turned_to m (back ++ xs)) count ∙ (λ j. drop-append_seam back xs j ++ take-append_seam back xs j)

pub circle_joined : (ring hole : List ℕ) (i n rest s e : ℕ) → n ≡ length ring → i < n → 0 < length hole → rest + (i + 1) ≡ n →
    s ≡ get_or hole 0 0 → e ≡ get_or ring i 0
    → turned_to rest ((((turned_to (i + 1) ring ++ hole) ++ s ∷ []) ++ e ∷ [])) ≡ join ring i hole
circle_joined ring hole i n rest s e count within some left start end =
    let front = take (i + 1) ring in let back = drop (i + 1) ring in let long = length-drop (i + 1) ring in
    ap (turned_to rest) (put_after front back hole s e) ∙ past_back back ((front ++ hole) ++ s ∷ e ∷ []) rest (omega arith)
    ∙ (λ j. ((front ++ hole) ++ (start ∙ sym (vertex_within hole 0 some)) j ∷ (end ∙ sym (vertex_within ring i (omega arith))) j ∷ []) ++ back)
