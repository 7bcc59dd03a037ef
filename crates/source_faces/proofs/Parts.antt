-- The records of a face in parts: those of its half-edges, then the groups of its pairs.
use Rattle.std.proofs.Common.{◌≡◌, ℕ, zero, suc, ◌+◌, ◌<◌, ◌≤◌, List, [], ◌∷◌, ◌++◌, map, refl, sym, ap, ◌∙◌, arith}
use Rattle.std.specs.List.{All, flat_map}
use Rattle.std.proofs.lemmas.List.Elements.{All-cons, All-drop, All-head, All-tail}
use Rattle.chain_terms.specs.Sums.{upto}
use Rattle.source_faces.specs.declared.lists.stands.Stand.{Stand}
use Rattle.source_faces.specs.Entries.{list_count}
use Rattle.source_faces.specs.ListParts.{after, groups, half_part, rest}
use Rattle.source_faces.proofs.ListGroups.{Steps, front_is, groups_are, map-up_from_same, map-up_from_shift, nonempty, of_list, rest_has, rest_steps}

-- the records of a half-edge
pub part_is : (l : ℕ) (ss : List Stand) → l < 3 → Steps 0 ss → half_part l ss ≡ of_list l ss
part_is zero ss below h = front_is 0 ss h
part_is (suc zero) ss below h = front_is 1 (rest ss 0) (rest_steps 0 ss h) ∙ rest_has 0 1 ss (omega arith)
part_is (suc (suc zero)) ss below h =
    front_is 2 (rest (rest ss 0) 1) (rest_steps 1 (rest ss 0) (rest_steps 0 ss h)) ∙ rest_has 1 2 (rest ss 0) (omega arith)
    ∙ rest_has 0 2 ss (omega arith)
part_is (suc (suc (suc l))) ss below h = absurd (omega (arith, below))

-- those of the pairs
after_has : (m : ℕ) (ss : List Stand) → 3 ≤ m → of_list m (after 3 ss) ≡ of_list m ss
after_has m ss low =
    rest_has 2 m (rest (rest ss 0) 1) (omega (arith, low)) ∙ rest_has 1 m (rest ss 0) (omega (arith, low)) ∙ rest_has 0 m ss (omega (arith, low))

-- the groups of the pairs are those of the pairs that have records
pub pairs_are : (n : ℕ) (ss : List Stand) → Steps 0 ss → All (λ s. s.list < 3 + n) ss →
    groups (after 3 ss) ≡ nonempty (map (λ j. of_list (3 + j) ss) (upto n))
pairs_are n ss h few =
    let P : Stand → Type 0 = λ s. s.list < 3 + n in
    let one = rest ss 0 in
    let two = rest one 1 in
    let steps = rest_steps 2 two (rest_steps 1 one (rest_steps 0 ss h)) in
    let bound = All-drop P (list_count two 2) two (All-drop P (list_count one 1) one (All-drop P (list_count ss 0) ss few)) in
    groups_are 3 n (after 3 ss) steps bound
    ∙ ap nonempty
    (map-up_from_same (λ l. of_list l (after 3 ss)) (λ l. of_list l ss) 3 n (λ i l m. after_has i ss l) ∙ map-up_from_shift (λ l. of_list l ss) 3 0 n)

-- empty groups give nothing
pub flat-nonempty : {Y : Type 0} (f : List Stand → List Y) → f [] ≡ [] → (gs : List (List Stand)) → flat_map f (nonempty gs) ≡ flat_map f gs
flat-nonempty f none [] = refl
flat-nonempty f none ([] ∷ gs) = flat-nonempty f none gs ∙ ap (λ l. l ++ flat_map f gs) (sym none)
flat-nonempty f none ((s ∷ g) ∷ gs) = ap (λ l. f (s ∷ g) ++ l) (flat-nonempty f none gs)

-- what holds of all groups holds of those that have records
pub All-nonempty : (P : List Stand → Type 0) (gs : List (List Stand)) → All P gs → All P (nonempty gs)
All-nonempty P [] h = h
All-nonempty P ([] ∷ gs) h = All-nonempty P gs (All-tail P [] gs h)
All-nonempty P ((s ∷ g) ∷ gs) h = All-cons P (s ∷ g) (nonempty gs) (All-head P (s ∷ g) gs h) (All-nonempty P gs (All-tail P (s ∷ g) gs h))
