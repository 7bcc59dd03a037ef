-- A plane seen from behind, where the two coordinates of each place are exchanged: the same edges cross in the same points, and the same triangles are free and kept.
use Rattle.std.proofs.Common.{◌≡◌, ◌∙◌, ℕ, ℤ, Bool, List, [], ◌∷◌, true, false, ap, arith, cond, filter, get_or, length, map, neg_ℤ, negsuc, pos, refl, suc, sym, zero, ◌+ℤ◌, ◌-ℤ◌, ◌*ℤ◌}
use Rattle.std.specs.Prelude.{◌&&◌, ◌||◌, count_by, if◌then◌else◌, int_div, int_lt, nat_le, nat_lt, not}
use Rattle.std.specs.List.{All, flat_map, list_any}
use Rattle.std.specs.Ordering.{int_eq}
use Rattle.std.proofs.Math.Nat.{div-zero, zero-div}
use Rattle.std.proofs.lemmas.Bool.Decides.{Decides-int_eq, Decides-like, same_from_decides}
use Rattle.std.proofs.lemmas.Int.{ints}
use Rattle.std.proofs.lemmas.List.Elements.{All-filter}
use Rattle.chain_laws.specs.Counts.{count_by-map}
use Rattle.chain_laws.specs.Products.{mul-neg}
use Rattle.face_plane.specs.Planes.{Plane, exchanged, face_plane, orient, point_at, swapped, turn}
use Rattle.mesh_terms.specs.Points.{coordinate_of}
use Rattle.sheet_terms.specs.Chains.{ChainEdge, are_opposite, chain, cross, crossed, crossing_point, grid_point, is_whole, part_way}
use Rattle.sheet_terms.specs.Faces.{Face, is_left, labels_of}
use Rattle.sheet_terms.specs.Kept.{free, free_after, has_edge, is_out, kept, remains, same_rim}
use Rattle.plane_chains.proofs.FirstKeys.{map_agree}

-- the other way round is from behind
pub behind_is : (drop : ℕ) (turned : Bool) (points : List (List ℤ)) → face_plane drop (not turned) points ≡ exchanged (face_plane drop turned points)
behind_is drop true points = refl
behind_is drop false points = refl

-- turns are the other way
turn_back : (a b c : ℤ × ℤ) → turn (swapped a) (swapped b) (swapped c) ≡ neg_ℤ (turn a b c)
turn_back a b c = omega (arith, ints)

pub orient_back : (at : Plane) (a b c : ℕ) → orient (exchanged at) a b c ≡ neg_ℤ (orient at a b c)
orient_back at a b c = turn_back (at a) (at b) (at c)

neg_low : (x : ℤ) → int_lt (neg_ℤ x) (pos 0) ≡ int_lt (pos 0) x
neg_low x = grind (arith, ints)

neg_high : (x : ℤ) → int_lt (pos 0) (neg_ℤ x) ≡ int_lt x (pos 0)
neg_high x = grind (arith, ints)

or_turned : (a b : Bool) → (a || b) ≡ (b || a)
or_turned true true = refl
or_turned true false = refl
or_turned false true = refl
or_turned false false = refl

opposite_back : (x y : ℤ) → are_opposite (neg_ℤ x) (neg_ℤ y) ≡ are_opposite x y
opposite_back x y =
    (λ i. (neg_low x i && neg_high y i) || (neg_high x i && neg_low y i)) ∙ or_turned (int_lt (pos 0) x && int_lt y (pos 0)) (int_lt x (pos 0) && int_lt (pos 0) y)

-- so the same edges cross
pub cross_back : (at : Plane) (d e : ℕ × ℕ) → cross (exchanged at) d e ≡ cross at d e
cross_back at d e =
    (λ i. are_opposite (orient_back at d.0 d.1 e.0 i) (orient_back at d.0 d.1 e.1 i) && are_opposite (orient_back at e.0 e.1 d.0 i) (orient_back at e.0 e.1 d.1 i))
    ∙ (λ i. opposite_back (orient at d.0 d.1 e.0) (orient at d.0 d.1 e.1) i && opposite_back (orient at e.0 e.1 d.0) (orient at e.0 e.1 d.1) i)

pub crossed_back : (at : Plane) (cs : List ChainEdge) → crossed (exchanged at) cs ≡ crossed at cs
crossed_back at cs = λ i. map (λ c. c.edge) (filter (λ c. list_any (λ d. cross_back at c.edge d.edge i) cs) cs)

-- in the same points: a quotient stays where both numbers are taken the other way
div_back : (x d : ℤ) → int_div (neg_ℤ x) (neg_ℤ d) ≡ int_div x d
div_back (pos zero) (pos zero) = refl
div_back (pos zero) (pos (suc b)) = ap (λ (n : ℕ). neg_ℤ (pos n)) (zero-div (suc b)) ∙ sym (ap pos (zero-div (suc b)))
div_back (pos zero) (negsuc b) = ap pos (zero-div (suc b)) ∙ sym (ap (λ (n : ℕ). neg_ℤ (pos n)) (zero-div (suc b)))
div_back (pos (suc a)) (pos zero) = ap (λ (n : ℕ). neg_ℤ (pos n)) (div-zero (suc a)) ∙ sym (ap pos (div-zero (suc a)))
div_back (pos (suc a)) (pos (suc b)) = refl
div_back (pos (suc a)) (negsuc b) = refl
div_back (negsuc a) (pos zero) = ap pos (div-zero (suc a)) ∙ sym (ap (λ (n : ℕ). neg_ℤ (pos n)) (div-zero (suc a)))
div_back (negsuc a) (pos (suc b)) = refl
div_back (negsuc a) (negsuc b) = refl

eq_back : (x y : ℤ) → int_eq (neg_ℤ x) (neg_ℤ y) ≡ int_eq x y
eq_back x y =
    same_from_decides (int_eq (neg_ℤ x) (neg_ℤ y)) (int_eq x y)
    (Decides-like (int_eq (neg_ℤ x) (neg_ℤ y)) (λ (e : neg_ℤ x ≡ neg_ℤ y). negs x y e) (λ (e : x ≡ y). ap neg_ℤ e) (Decides-int_eq (neg_ℤ x) (neg_ℤ y))) (Decides-int_eq x y)
  where
    negs : (x y : ℤ) → neg_ℤ x ≡ neg_ℤ y → x ≡ y
    negs x y e = omega (arith, ints, e)

module _ (n d : ℤ) (p q : List ℤ) where
  way_back : (i : ℕ) → part_way (neg_ℤ n) (neg_ℤ d) p q i ≡ part_way n d p q i
  way_back i = ap (λ (x : ℤ). int_div x (neg_ℤ d)) (mul-neg (coordinate_of q i -ℤ coordinate_of p i) n) ∙ div_back ((coordinate_of q i -ℤ coordinate_of p i) *ℤ n) d

  whole_back : (i : ℕ) → is_whole (neg_ℤ n) (neg_ℤ d) p q i ≡ is_whole n d p q i
  whole_back i =
      (λ j. int_eq ((ap (λ (w : ℤ). w *ℤ neg_ℤ d) (way_back i) ∙ mul-neg (part_way n d p q i) d) j) (mul-neg (coordinate_of q i -ℤ coordinate_of p i) n j))
      ∙ eq_back (part_way n d p q i *ℤ d) ((coordinate_of q i -ℤ coordinate_of p i) *ℤ n)

  grid_back : grid_point (neg_ℤ n) (neg_ℤ d) p q ≡ grid_point n d p q
  grid_back = λ j. filter (λ x. whole_back 0 j && whole_back 1 j && whole_back 2 j)
      (((coordinate_of p 0 +ℤ way_back 0 j) ∷ (coordinate_of p 1 +ℤ way_back 1 j) ∷ (coordinate_of p 2 +ℤ way_back 2 j) ∷ []) ∷ [])

pub crossing_back : (points : List (List ℤ)) (at : Plane) (d e : ℕ × ℕ) → crossing_point points (exchanged at) d e ≡ crossing_point points at d e
crossing_back points at d e =
    (λ i. flat_map (λ (f : ℕ × ℕ). grid_point (orient_back at e.0 e.1 d.0 i) (gap i) (point_at points d.0) (point_at points d.1)) (filter (λ f. cross_back at d f i) (e ∷ [])))
    ∙ ap (λ g. flat_map (λ (f : ℕ × ℕ). g) (filter (cross at d) (e ∷ [])))
    (grid_back (orient at e.0 e.1 d.0) (orient at e.0 e.1 d.0 -ℤ orient at e.0 e.1 d.1) (point_at points d.0) (point_at points d.1))
  where
    less : (n m : ℤ) → neg_ℤ n -ℤ neg_ℤ m ≡ neg_ℤ (n -ℤ m)
    less n m = omega (arith, ints)

    gap : orient (exchanged at) e.0 e.1 d.0 -ℤ orient (exchanged at) e.0 e.1 d.1 ≡ neg_ℤ (orient at e.0 e.1 d.0 -ℤ orient at e.0 e.1 d.1)
    gap = (λ j. orient_back at e.0 e.1 d.0 j -ℤ orient_back at e.0 e.1 d.1 j) ∙ less (orient at e.0 e.1 d.0) (orient at e.0 e.1 d.1)

-- the same triangles are free
after_back : (n : ℕ) (at : Plane) (labels : List (List ℕ)) (fs : List Face) → free_after n (exchanged at) labels fs ≡ free_after n at labels fs
after_back zero at labels fs = refl
after_back (suc n) at labels fs =
    after_back n at labels (filter (λ f. not (has_edge (crossed (exchanged at) (chain labels fs)) f)) fs)
    ∙ ap (λ bad. free_after n at labels (filter (λ f. not (has_edge bad f)) fs)) (crossed_back at (chain labels fs))

pub free_back : (at : Plane) (fs : List Face) → free (exchanged at) fs ≡ free at fs
free_back at fs = after_back (length fs) at (labels_of fs) fs

-- and the same ones are kept where none is flat
abbrev pub IsTurned : Plane → Face → Type 0
IsTurned at f = orient at f.corners.0 f.corners.1 f.corners.2 ≡ pos 0 → ⊥

other_side : (x : ℤ) → (x ≡ pos 0 → ⊥) → int_lt x (pos 0) ≡ not (int_lt (pos 0) x)
other_side x some = grind (arith, ints)

pub left_back : (at : Plane) (f : Face) → IsTurned at f → is_left (exchanged at) f.corners ≡ not (is_left at f.corners)
left_back at f some =
    ap (int_lt (pos 0)) (orient_back at f.corners.0 f.corners.1 f.corners.2) ∙ neg_high (orient at f.corners.0 f.corners.1 f.corners.2)
    ∙ other_side (orient at f.corners.0 f.corners.1 f.corners.2) some

count_same : {X : Type 0} (p q : X → Bool) (xs : List X) → All (λ x. p x ≡ q x) xs → count_by p xs ≡ count_by q xs
count_same p q xs h = sym (count_by-map (λ b. b) p xs) ∙ ap (count_by (λ b. b)) (map_agree p q xs h) ∙ count_by-map (λ b. b) q xs

filter_same : {X : Type 0} (p q : X → Bool) (xs : List X) → All (λ x. p x ≡ q x) xs → filter p xs ≡ filter q xs
filter_same p q [] h = refl
filter_same p q (x ∷ xs) h = by (filter_same p q xs (λ k d low. h (suc k) d (omega (arith, low)))) where
  by : filter p xs ≡ filter q xs → cond (p x) (x ∷ filter p xs) (filter p xs) ≡ cond (q x) (x ∷ filter q xs) (filter q xs)
  by rest = λ i. cond (h 0 x (omega arith) i) (x ∷ rest i) (rest i)

like_back : (at : Plane) (f g : Face) → IsTurned at f → IsTurned at g →
    (if is_left (exchanged at) f.corners then is_left (exchanged at) g.corners else not (is_left (exchanged at) g.corners))
    ≡ (if is_left at f.corners then is_left at g.corners else not (is_left at g.corners))
like_back at f g a b =
    (λ i. if left_back at f a i then left_back at g b i else not (left_back at g b i)) ∙ both (is_left at f.corners) (is_left at g.corners)
  where
    both : (a b : Bool) → (if not a then not b else not (not b)) ≡ (if a then b else not b)
    both true true = refl
    both true false = refl
    both false true = refl
    both false false = refl

remains_back : (at : Plane) (fs : List Face) (f : Face) → All (IsTurned at) fs → IsTurned at f → remains (exchanged at) fs f ≡ remains at fs f
remains_back at fs f all some = λ i. nat_le (against i) (like i) where
  against : count_by (λ (g : Face). same_rim f g && not (if is_left (exchanged at) f.corners then is_left (exchanged at) g.corners else not (is_left (exchanged at) g.corners))) fs
      ≡ count_by (λ (g : Face). same_rim f g && not (if is_left at f.corners then is_left at g.corners else not (is_left at g.corners))) fs
  against =
      count_same (λ (g : Face). same_rim f g && not (if is_left (exchanged at) f.corners then is_left (exchanged at) g.corners else not (is_left (exchanged at) g.corners)))
      (λ (g : Face). same_rim f g && not (if is_left at f.corners then is_left at g.corners else not (is_left at g.corners))) fs
      (λ k d low. ap (λ b. same_rim f (get_or fs k d) && not b) (like_back at f (get_or fs k d) some (all k d low)))

  like : count_by (λ (g : Face). same_rim f g && (if is_left (exchanged at) f.corners then is_left (exchanged at) g.corners else not (is_left (exchanged at) g.corners)) && nat_lt g.number f.number) fs
      ≡ count_by (λ (g : Face). same_rim f g && (if is_left at f.corners then is_left at g.corners else not (is_left at g.corners)) && nat_lt g.number f.number) fs
  like =
      count_same (λ (g : Face). same_rim f g && (if is_left (exchanged at) f.corners then is_left (exchanged at) g.corners else not (is_left (exchanged at) g.corners)) && nat_lt g.number f.number)
      (λ (g : Face). same_rim f g && (if is_left at f.corners then is_left at g.corners else not (is_left at g.corners)) && nat_lt g.number f.number) fs
      (λ k d low. ap (λ b. same_rim f (get_or fs k d) && b && nat_lt (get_or fs k d).number f.number) (like_back at f (get_or fs k d) some (all k d low)))

pub kept_back : (at : Plane) (fs : List Face) → All (IsTurned at) fs → kept (exchanged at) fs ≡ kept at fs
kept_back at fs all =
    ap (λ own. filter (remains (exchanged at) (filter (is_out own) fs)) (filter (is_out own) fs)) (free_back at fs)
    ∙ filter_same (remains (exchanged at) (filter (is_out (free at fs)) fs)) (remains at (filter (is_out (free at fs)) fs)) (filter (is_out (free at fs)) fs)
    (λ k d low. remains_back at (filter (is_out (free at fs)) fs) (get_or (filter (is_out (free at fs)) fs) k d) out (out k d low))
  where
    out : All (IsTurned at) (filter (is_out (free at fs)) fs)
    out = All-filter (is_out (free at fs)) (IsTurned at) fs all
