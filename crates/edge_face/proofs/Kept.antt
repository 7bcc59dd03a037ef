-- Pairs from known counts, and corners of lists of fine ones.
use Rattle.std.proofs.Common.{arith, ◌≡◌, ℤ, pos, ◌∙◌, Option, None, Some, IfSome, false, List, [], ◌∷◌, length, sym, inl, inr}
use Rattle.std.proofs.lemmas.Int.{ints}
use Rattle.std.specs.Int.{w8}
use Rattle.mb_base.specs.declared.point.Corner.{Corner}
use Rattle.side_terms.specs.Corners.{corner_at, blank_corner, AllFine}
use Rattle.shadow_kernels.specs.declared.Edge.{Edge}
use Rattle.shadow_kernels.specs.declared.Edge.TheVariants.{OfP, OfQ}
use Rattle.shadow_kernels.specs.declared.Meet.{Meet}
use Rattle.shadow_kernels.specs.Edges.{own, other}
use Rattle.shadow_kernels.specs.Counts.{count_of}
use Rattle.shadow_kernels.specs.Sizes.{IsSized, sized_bounds}
use Rattle.edge_face.specs.Pairs.{IsKnown}
use Rattle.shadow_kernels.proofs.Values.{seen}
use Rattle.shadow_kernels.specs.FinePairs.{fine_two, fine_three}

-- a sized answer of count 0 is none
none_at : (P : Meet → Type 0) (m : Option Meet) → IsSized m → count_of m ≡ pos 0 → IfSome m P
none_at P None h e = tt
none_at P (Some m) (inl h) e = absurd (omega (arith, ints, h, e))
none_at P (Some m) (inr h) e = absurd (omega (arith, ints, h, e))

-- a number that is known to be the count of an answer reads back from eight bits, and is 0 where there is none
module _ {m : Option Meet} {n : ℤ} (known : IsKnown m n) where
  pub known_kept : seen w8 n ≡ count_of m
  known_kept = let b = sized_bounds m known.sized in omega (arith, ints, b.0, b.1, known.count)

  pub known_none : n ≡ pos 0 → IfSome m (λ a. a.above ≡ false)
  known_none zero = none_at (λ a. a.above ≡ false) m known.sized (sym known.count ∙ zero)

-- the corners of an edge and of a face, one by one, are fine
pub fine_edge : (e : List Corner) → length e ≡ 2 → AllFine e → AllFine (corner_at e 0 ∷ corner_at e 1 ∷ [])
fine_edge e two h = fine_two (corner_at e 0) (corner_at e 1) (h 0 blank_corner (omega (arith, two))) (h 1 blank_corner (omega (arith, two)))

pub fine_face : (f : List Corner) → length f ≡ 3 → AllFine f → AllFine (corner_at f 0 ∷ corner_at f 1 ∷ corner_at f 2 ∷ [])
fine_face f three h =
    fine_three (corner_at f 0) (corner_at f 1) (corner_at f 2) (h 0 blank_corner (omega (arith, three))) (h 1 blank_corner (omega (arith, three)))
    (h 2 blank_corner (omega (arith, three)))

-- so are those of P and of Q, whichever the edge is of
pub own_fine : (e : Edge) (s f : List Corner) → AllFine s → AllFine f → AllFine (own e s f)
own_fine OfP s f h k = h
own_fine OfQ s f h k = k

pub other_fine : (e : Edge) (s f : List Corner) → AllFine s → AllFine f → AllFine (other e s f)
other_fine OfP s f h k = k
other_fine OfQ s f h k = h
