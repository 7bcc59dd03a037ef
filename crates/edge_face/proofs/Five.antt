-- What the code knows of the five boundary pairs of an edge and a face, for an edge of P and for one of Q alike.
use Rattle.std.proofs.Common.{arith, ◌≡◌, ◌≢◌, ℕ, ℤ, pos, ◌+ℤ◌, ◌-ℤ◌, Bool, true, false, not, if◌then◌else◌, Option, None, Some, IfSome, List, [], ◌∷◌, map, get_or, refl, sym, ap, subst, inl, inr, ◌∙◌}
use Rattle.std.specs.Int.{w8}
use Rattle.std.specs.Ordering.{int_eq}
use Rattle.std.proofs.lemmas.Int.{ints}
use Rattle.std.proofs.lemmas.Bool.Decides.{Decides-int_eq}
use Rattle.mb_base.specs.declared.point.Corner.{Corner}
use Rattle.side_terms.specs.Corners.{IsFineCorner, AllFine}
use Rattle.shadow_kernels.specs.declared.Spot.{Spot}
use Rattle.shadow_kernels.specs.declared.Meet.{Meet}
use Rattle.shadow_kernels.specs.Bounds.{IsFineSpot}
use Rattle.shadow_kernels.specs.FinePairs.{fine_spot}
use Rattle.shadow_kernels.specs.Spots.{no_spot}
use Rattle.shadow_kernels.specs.Counts.{count_of, shadow_of, chosen, first_spot}
use Rattle.shadow_kernels.specs.ShadowLaws.{ShadowTest}
use Rattle.shadow_kernels.specs.Sizes.{IsUnit, IsSized, sized_bounds, any_some}
use Rattle.shadow_kernels.specs.Entries.{Each, each_map, first_holds, spot_of}
use Rattle.shadow_kernels.specs.Decided.{IsDecided}
use Rattle.shadow_kernels.proofs.Steps.{no_spot_fine}
use Rattle.edge_face.specs.declared.Cross.{Cross}
use Rattle.edge_face.specs.declared.pair.Pair.{Pair}
use Rattle.edge_face.specs.declared.pair.Pairs.{Pairs}
use Rattle.edge_face.specs.Boundaries.{AreMet, signed_pairs, pairs_decided, spots_signed}
use Rattle.edge_face.specs.Crossings.{edge_pairs, edge_number, crossed, crossing}
use Rattle.edge_face.specs.Laws.{crossed_none}
use Rattle.edge_face.specs.Pairs.{IsKnown, IsPairOf, ArePairsOf, pair_shadow, pair_on, pairs_number, first_place, spot_at, number_at, AreCounts, vertex_rim, edge_corners}
use Rattle.shadow_kernels.proofs.Values.{seen}
use Rattle.edge_face.specs.Parts.{start_of, end_of, first_edge, second_edge, third_edge}

-- the shadow of a pair is that of its answer
shadow_pair : (m : Option Meet) (s : Pair) → IsPairOf m s → pair_shadow s ≡ shadow_of m
shadow_pair None s h = ap (λ (z : ℤ). if s.above then z else pos 0) h.count ∙ nothing s.above where
  nothing : (b : Bool) → (if b then pos 0 else pos 0) ≡ pos 0
  nothing true = refl
  nothing false = refl
shadow_pair (Some m) s h = ap (λ (z : ℤ). if s.above then z else pos 0) h.count ∙ ap (λ (b : Bool). if b then m.count else pos 0) (sym h.mark)

-- a number that is not 0 is not equal to 0
not_zero : (z : ℤ) → IsUnit z → int_eq z (pos 0) ≡ false
not_zero z (inl e) = rw e refl
not_zero z (inr e) = rw e refl

-- its spot is chosen where the pair says so
chosen_pair : (want : Bool) (m : Option Meet) (s : Pair) (x : Spot) → IsSized m → IsPairOf m s → chosen want m x ≡ (if pair_on want s then spot_of m else x)
chosen_pair want None s x h k =
    sym (ap (λ (t : Bool). if (if t then false else (if want then s.above else not s.above)) then no_spot else x) ((Decides-int_eq s.count (pos 0)).1 k.count))
chosen_pair want (Some m) s x h k = some want ∙ sym (ap (λ (t : Bool). if (if t then false else (if want then s.above else not s.above)) then m.spot else x) counts) where
  counts : int_eq s.count (pos 0) ≡ false
  counts = ap (λ (z : ℤ). int_eq z (pos 0)) k.count ∙ not_zero m.count h

  turn : (b : Bool) → (if b then x else m.spot) ≡ (if not b then m.spot else x)
  turn true = refl
  turn false = refl

  some : (want : Bool) → chosen want (Some m) x ≡ (if (if want then s.above else not s.above) then m.spot else x)
  some true = ap (λ (t : Bool). if t then m.spot else x) k.mark
  some false = ap (λ (t : Bool). if t then x else m.spot) k.mark ∙ turn s.above

-- the spot at the place of the first test of five that holds
spot_placed : (a b c d e : Bool) (s f x y z : Option Meet) →
    spot_at (s ∷ f ∷ x ∷ y ∷ z ∷ []) (if a then 0 else (if b then 1 else (if c then 2 else (if d then 3 else (if e then 4 else 5)))))
    ≡ (if a then spot_of s else (if b then spot_of f else (if c then spot_of x else (if d then spot_of y else (if e then spot_of z else no_spot)))))
spot_placed true b c d e s f x y z = refl
spot_placed false true c d e s f x y z = refl
spot_placed false false true d e s f x y z = refl
spot_placed false false false true e s f x y z = refl
spot_placed false false false false true s f x y z = refl
spot_placed false false false false false s f x y z = refl

-- five pairs in their places: their number, and the first spots
module _ (s f x y z : Option Meet) (ps : Pairs) (h : ArePairsOf (s ∷ f ∷ x ∷ y ∷ z ∷ []) ps) where
  pub number_of_pairs : pairs_number ps ≡ shadow_of f -ℤ shadow_of s -ℤ (shadow_of x +ℤ (shadow_of y +ℤ (shadow_of z +ℤ pos 0)))
  number_of_pairs = omega (arith, ints, shadow_pair s ps.start h.0, shadow_pair f ps.end h.1, shadow_pair x ps.first h.2, shadow_pair y ps.second h.3, shadow_pair z ps.third h.4)

  pub spot_of_pairs : (want : Bool) → Each IsSized (s ∷ f ∷ x ∷ y ∷ z ∷ []) → spot_at (s ∷ f ∷ x ∷ y ∷ z ∷ []) (first_place want ps) ≡ first_spot want (s ∷ f ∷ x ∷ y ∷ z ∷ [])
  spot_of_pairs want sized =
      let on : Pair → Bool = pair_on want in
      let fifth = chosen_pair want z ps.third no_spot sized.1.1.1.1.0 h.4 in
      let fourth = ap (λ (t : Spot). chosen want y t) fifth ∙ chosen_pair want y ps.second (if on ps.third then spot_of z else no_spot) sized.1.1.1.0 h.3 in
      let third = ap (λ (t : Spot). chosen want x t) fourth
      ∙ chosen_pair want x ps.first (if on ps.second then spot_of y else (if on ps.third then spot_of z else no_spot)) sized.1.1.0 h.2 in
      let second = ap (λ (t : Spot). chosen want f t) third
      ∙ chosen_pair want f ps.end (if on ps.first then spot_of x else (if on ps.second then spot_of y else (if on ps.third then spot_of z else no_spot))) sized.1.0 h.1 in
      spot_placed (on ps.start) (on ps.end) (on ps.first) (on ps.second) (on ps.third) s f x y z
      ∙ sym (ap (λ (t : Spot). chosen want s t) second
      ∙ chosen_pair want s ps.start
      (if on ps.end then spot_of f else (if on ps.first then spot_of x else (if on ps.second then spot_of y else (if on ps.third then spot_of z else no_spot))))
      sized.0 h.0)

-- a number known to be the count of a sized answer stays it at eight bits
kept_count : (m : Option Meet) (n : ℤ) → IsSized m → n ≡ count_of m → IsKnown m (seen w8 n)
kept_count m n h e = let b = sized_bounds m h in record { sized = h; count = omega (arith, ints, b.0, b.1, e) }

-- the counts of five answers, as they are handed on
pub record AreKnown (counts : List ℤ) (ms : List (Option Meet)) : Type 0 where
  pub start : IsKnown (get_or ms 0 None) (seen w8 (number_at counts 0))
  pub end : IsKnown (get_or ms 1 None) (seen w8 (number_at counts 1))
  pub first : IsKnown (get_or ms 2 None) (seen w8 (number_at counts 2))
  pub second : IsKnown (get_or ms 3 None) (seen w8 (number_at counts 3))
  pub third : IsKnown (get_or ms 4 None) (seen w8 (number_at counts 4))

-- the number of answers, as the code reads it from their pairs, and the first spots
pub record AreRead (ms : List (Option Meet)) (n : ℤ) (ps : Pairs) : Type 0 where
  pub number : pairs_number ps ≡ n
  pub spot : (want : Bool) (s : Spot) (i : ℕ) → s ≡ spot_at ms i → i ≡ first_place want ps → (s ≡ first_spot want ms) × IsFineSpot s

-- the pairs of an edge and a face
module _ {P Q : List Corner → List Corner → List Corner} {ends edges one other : ShadowTest} (h : AreMet P Q ends edges one other) (a b u v w : Corner)
    (fe : AllFine (a ∷ b ∷ [])) (ff : AllFine (u ∷ v ∷ w ∷ [])) where
  -- are sized
  sized_pairs : Each IsSized (edge_pairs ends edges a b u v w)
  sized_pairs =
      let e = a ∷ b ∷ [] in
      let f = u ∷ v ∷ w ∷ [] in (
        (h.ends_decided (a ∷ []) e f (start_of a b) refl refl fe ff).sized,
        (
          (h.ends_decided (b ∷ []) e f (end_of a b) refl refl fe ff).sized,
          (
            (h.edges_decided e (u ∷ v ∷ []) f (first_edge u v w) refl refl fe ff).sized,
            ((h.edges_decided e (v ∷ w ∷ []) f (second_edge u v w) refl refl fe ff).sized, ((h.edges_decided e (w ∷ u ∷ []) f (third_edge u v w) refl refl fe ff).sized, tt)),
          ),
        ),
      )

  -- what the code reads from them
  pub pairs_read : AllFine (P (a ∷ b ∷ []) (u ∷ v ∷ w ∷ [])) → AllFine (Q (a ∷ b ∷ []) (u ∷ v ∷ w ∷ [])) → (ps : Pairs) → ArePairsOf (edge_pairs ends edges a b u v w) ps →
      AreRead (edge_pairs ends edges a b u v w) (edge_number ends edges a b u v w) ps
  pairs_read fp fq ps k =
      let s = ends (a ∷ []) (u ∷ v ∷ w ∷ []) in
      let t = ends (b ∷ []) (u ∷ v ∷ w ∷ []) in
      let x = edges (a ∷ b ∷ []) (u ∷ v ∷ []) in
      let y = edges (a ∷ b ∷ []) (v ∷ w ∷ []) in
      let z = edges (a ∷ b ∷ []) (w ∷ u ∷ []) in
      let ms = edge_pairs ends edges a b u v w in
      let first : (want : Bool) (r : Spot) (i : ℕ) → r ≡ spot_at ms i → i ≡ first_place want ps → r ≡ first_spot want ms = λ want r i e at.
      e ∙ ap (λ (n : ℕ). spot_at ms n) at ∙ spot_of_pairs s t x y z ps k want sized_pairs in
      record {
        number = number_of_pairs s t x y z ps k;
        spot = λ want r i e at. (first want r i e at, subst IsFineSpot (sym (first want r i e at ∙ spots_signed ends edges a b u v w want)) (fine want));
      }
    where
      fine : (want : Bool) → IsFineSpot (first_spot want (signed_pairs ends edges a b u v w))
      fine want = first_holds IsFineSpot want (signed_pairs ends edges a b u v w) no_spot_fine
          (each_map (IsDecided 2 (P (a ∷ b ∷ []) (u ∷ v ∷ w ∷ [])) (Q (a ∷ b ∷ []) (u ∷ v ∷ w ∷ []))) (λ m. IfSome m (λ n. IsFineSpot n.spot))
          (λ m d. fine_spot (P (a ∷ b ∷ []) (u ∷ v ∷ w ∷ [])) (Q (a ∷ b ∷ []) (u ∷ v ∷ w ∷ [])) fp fq m (d.hull (omega arith)))
          (signed_pairs ends edges a b u v w) (pairs_decided h a b u v w fe ff))

  -- their counts are made of shadows
  pub counts_known : (start end at counts : List ℤ) → AreCounts start end at counts → start ≡ map shadow_of (vertex_rim one a (u ∷ v ∷ w ∷ [])) →
      end ≡ map shadow_of (vertex_rim one b (u ∷ v ∷ w ∷ [])) →
      at ≡ map shadow_of (edge_corners other (a ∷ b ∷ []) (u ∷ v ∷ w ∷ [])) → AreKnown counts (edge_pairs ends edges a b u v w)
  counts_known start end at counts made is_start is_end is_at = record {
    start = kept_count (ends (a ∷ []) (u ∷ v ∷ w ∷ [])) (number_at counts 0) sized_pairs.0
        (omega (arith, ints, made.start_count, s 0, s 1, s 2, h.ends_count a u v w (start_of a b IsFineCorner fe) ff));
    end = kept_count (ends (b ∷ []) (u ∷ v ∷ w ∷ [])) (number_at counts 1) sized_pairs.1.0
        (omega (arith, ints, made.end_count, e 0, e 1, e 2, h.ends_count b u v w (end_of a b IsFineCorner fe) ff));
    first = kept_count (edges (a ∷ b ∷ []) (u ∷ v ∷ [])) (number_at counts 2) sized_pairs.1.1.0
        (omega (arith, ints, made.first, s 0, e 0, t 0, t 1, h.edges_count a b u v fe (first_edge u v w IsFineCorner ff)));
    second = kept_count (edges (a ∷ b ∷ []) (v ∷ w ∷ [])) (number_at counts 3) sized_pairs.1.1.1.0
        (omega (arith, ints, made.second, s 1, e 1, t 1, t 2, h.edges_count a b v w fe (second_edge u v w IsFineCorner ff)));
    third = kept_count (edges (a ∷ b ∷ []) (w ∷ u ∷ [])) (number_at counts 4) sized_pairs.1.1.1.1.0
        (omega (arith, ints, made.third, s 2, e 2, t 2, t 0, h.edges_count a b w u fe (third_edge u v w IsFineCorner ff)));
  }
    where
      s : (i : ℕ) → number_at start i ≡ number_at (map shadow_of (vertex_rim one a (u ∷ v ∷ w ∷ []))) i
      s i = ap (λ (l : List ℤ). number_at l i) is_start

      e : (i : ℕ) → number_at end i ≡ number_at (map shadow_of (vertex_rim one b (u ∷ v ∷ w ∷ []))) i
      e i = ap (λ (l : List ℤ). number_at l i) is_end

      t : (i : ℕ) → number_at at i ≡ number_at (map shadow_of (edge_corners other (a ∷ b ∷ []) (u ∷ v ∷ w ∷ []))) i
      t i = ap (λ (l : List ℤ). number_at l i) is_at

-- the crossing that the code makes of them
module _ (ends edges : ShadowTest) (place : Spot → Spot → List ℤ) (a b u v w : Corner) (n : ℤ) (known : n ≡ edge_number ends edges a b u v w) where
  pub made_none : n ≡ pos 0 → None ≡ crossing ends edges place a b u v w
  unfolding crossing
  made_none zero =
      sym (crossed_none (edge_number ends edges a b u v w)
      (place (first_spot false (edge_pairs ends edges a b u v w)) (first_spot true (edge_pairs ends edges a b u v w))) (sym known ∙ zero))

  -- the point of an answer that is there
  point_or : List ℤ → Option (List ℤ) → List ℤ
  point_or other None = other
  point_or other (Some p) = p

  pub made_some : (m : ℤ) (at : List ℤ) (d t : Spot) → n ≢ pos 0 → m ≡ n → d ≡ first_spot false (edge_pairs ends edges a b u v w) →
      t ≡ first_spot true (edge_pairs ends edges a b u v w) → Some at ≡ Some (place d t) →
      ◌≡◌ {A = Option Cross} (Some (record { number = m; at = at })) (crossing ends edges place a b u v w)
  unfolding crossing crossed point_or
  made_some m at d t k same below above point =
      let there : at ≡ place d t = ap (point_or at) point in
      equal m at (edge_number ends edges a b u v w) (place (first_spot false (edge_pairs ends edges a b u v w)) (first_spot true (edge_pairs ends edges a b u v w)))
      (same ∙ known) (there ∙ moved d t (first_spot false (edge_pairs ends edges a b u v w)) (first_spot true (edge_pairs ends edges a b u v w)) below above)
      ∙ sym (any_some {X = Cross} (edge_number ends edges a b u v w)
      (record {
        number = edge_number ends edges a b u v w;
        at = place (first_spot false (edge_pairs ends edges a b u v w))
            (first_spot true (edge_pairs ends edges a b u v w));
      }) (λ z. k (known ∙ z)))
    where
      moved : (d t d' t' : Spot) → d ≡ d' → t ≡ t' → place d t ≡ place d' t'
      moved d t d' t' e g = cc

      equal : (m : ℤ) (at : List ℤ) (m' : ℤ) (at' : List ℤ) → m ≡ m' → at ≡ at' →
          ◌≡◌ {A = Option Cross} (Some (record { number = m; at = at })) (Some (record { number = m'; at = at' }))
      equal m at m' at' e g = cc
