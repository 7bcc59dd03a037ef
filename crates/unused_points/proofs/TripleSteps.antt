-- Triangles that get the new numbers of their points one after the other.
use Rattle.std.proofs.Common.{◌≡◌, ◌<◌, ◌+◌, ℕ, suc, List, [], ◌∷◌, ◌++◌, length, get_or, take, drop, set, sym, ◌∙◌, ap, subst, arith, add-one}
use Rattle.std.specs.List.{All}
use Rattle.std.proofs.Math.Seq.{drop-cons}
use Rattle.std.proofs.lemmas.List.{drop-set-lt, get_or-map, length-map, length-drop, map-append, take_more, take_more_set}
use Rattle.mesh_terms.specs.Meshes.{Triple, IsBelow, triple_of, triples_of}
use Rattle.unused_points.specs.Used.{NumbersUsed, renamed}
use Rattle.unused_points.proofs.KeptMesh.{numbered}

-- the triangle at a place
pub at_place : (n : ℕ) (triples : List (List ℕ)) (i : ℕ) → All (IsBelow n) (triples_of triples) → i < length triples → IsBelow n (triple_of (get_or triples i []))
at_place n triples i below low = rw (get_or-map triple_of triples i [] (triple_of []) low) at (below i (triple_of []) (omega (arith, low, length-map triples triple_of)))

-- lists that are the same from place i on
pub record AreSameFrom (i : ℕ) (xs old : List (List ℕ)) : Type 0 where
  pub within : i < length old
  pub here : get_or xs i [] ≡ get_or old i []
  pub later : drop (i + 1) xs ≡ drop (i + 1) old

pub same_from : (i : ℕ) (xs old : List (List ℕ)) → i < length xs → drop i xs ≡ drop i old → AreSameFrom i xs old
same_from i xs old low same =
    let within : i < length old = omega (arith, low, ap length same, length-drop i xs, length-drop i old) in
    let first = drop-cons xs i [] low in
    let second = drop-cons old i [] within in
    let next : i + 1 ≡ suc i = add-one i in
    let tails : drop (suc i) xs ≡ drop (suc i) old = cc in
    record {
      within = within;
      here = cc;
      later = ap (λ n. drop n xs) next ∙ tails ∙ ap (λ n. drop n old) (sym next);
    }

-- the values that a triple of numbers is
pub three_numbers : (n : ℕ) (numbers : List ℕ) (ts : List Triple) (t : Triple) → NumbersUsed n ts numbers → IsBelow n t →
    triple_of (get_or numbers t.0 0 ∷ get_or numbers t.1 0 ∷ get_or numbers t.2 0 ∷ []) ≡ numbered ts t
three_numbers n numbers ts t known below =
    let a = known.number t.0 below.a in
    let b = known.number t.1 below.b in
    let c = known.number t.2 below.c in
    λ i. (a i, b i, c i)

-- one triangle more
pub renamed_more : (ts : List Triple) (xs old : List (List ℕ)) (i : ℕ) (v : List ℕ) → i < length xs → i < length old →
    triples_of (take i xs) ≡ renamed ts (triples_of (take i old)) → triple_of v ≡ numbered ts (triple_of (get_or old i []))
    → triples_of (take (i + 1) (set xs i v)) ≡ renamed ts (triples_of (take (i + 1) old))
renamed_more ts xs old i v low within done is =
    ap triples_of (take_more_set xs i v low) ∙ map-append triple_of (take i xs) (v ∷ [])
    ∙ ap (λ l. l ++ triple_of v ∷ []) done ∙ ap (λ t. renamed ts (triples_of (take i old)) ++ t ∷ []) is
    ∙ sym (map-append (numbered ts) (triples_of (take i old)) (triple_of (get_or old i []) ∷ []))
    ∙ ap (renamed ts) (sym (map-append triple_of (take i old) (get_or old i [] ∷ []))) ∙ ap (λ l. renamed ts (triples_of l)) (sym (take_more old i [] within))

-- what comes later stays
pub later_stays : (xs old : List (List ℕ)) (i : ℕ) (v : List ℕ) → drop (i + 1) xs ≡ drop (i + 1) old → drop (i + 1) (set xs i v) ≡ drop (i + 1) old
later_stays xs old i v same = drop-set-lt (i + 1) xs i v (omega arith) ∙ same

-- it names points that have numbers where it is as it was
pub still_below : (n i : ℕ) (xs old : List (List ℕ)) → All (IsBelow n) (triples_of old) → i < length xs → drop i xs ≡ drop i old → IsBelow n (triple_of (get_or xs i []))
still_below n i xs old below low same =
    let known = same_from i xs old low same in
    subst (λ t. IsBelow n (triple_of t)) (sym known.here) (at_place n old i below known.within)
