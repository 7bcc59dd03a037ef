-- What stands at each triangle, all together.
use Rattle.std.specs.Prelude.{◌≡◌, ◌⊎◌, ℕ, ◌+◌, ◌*◌, ◌<◌, ◌==◌, ℤ, List, [], ◌∷◌, ◌++◌, Bool, true, false, not, ◌&&◌, cond, filter, get_or, length, map}
use Rattle.std.specs.List.{All, Contains, flat_map}
use Rattle.std.proofs.Common.{arith, refl, sym, ap, subst, ◌∙◌, inl, inr}
use Rattle.std.proofs.lemmas.Bool.{both_ways, cases_Bool, eq-eqb, eqb-true}
use Rattle.std.proofs.lemmas.List.{append-nil, get_or-map, length-map, map-append}
use Rattle.std.proofs.lemmas.List.Elements.{All-head, All-tail}
use Rattle.chain_terms.specs.Sums.{upto}
use Rattle.edge_cutting.proofs.Gathering.{all_upto}
use Rattle.mesh_terms.specs.Meshes.{Triple}
use Rattle.places_by_key.specs.Buckets.{places_of}
use Rattle.plane_filling.specs.declared.needless.Ways.{Ways}
use Rattle.plane_filling.specs.declared.regions.Regions.{Regions}
use Rattle.plane_filling.specs.Pieces.{Piece, all_pieces, alone_pieces, first_key, first_keys, no_region, pieces_at, region_pieces, turns_at}
use Rattle.plane_groups.specs.Grouped.{bent, face_at, no_face}
use Rattle.sheet_terms.specs.Faces.{Face}
use Rattle.sheet_terms.specs.Filled.{Filling, filled, fillings}
use Rattle.sheet_terms.specs.Regions.{all_sides}
use Rattle.plan_laws.specs.Ordered.{FillsSide, SameFillings, is_first, side_at}
use Rattle.plan_laws.specs.Standing.{AllPiecesFill, StandsRight, TellsNeedless, numbers_at, told}
use Rattle.plan_laws.proofs.Ordered.{filled_by_firsts}
use Rattle.plan_laws.proofs.Placed.{filter_same}
use Rattle.plan_laws.proofs.Standing.{alone_fills_side, regions_fill_side}

-- no region stands by a triangle: none has its key
none_keyed : (r : Regions) (t v : ℕ) → ((f : ℕ) (b : Bool) → (2 * f + cond b 1 0 == v) ≡ true → f ≡ t) → numbers_at r t ≡ [] → places_of (first_keys r.all.items) v ≡ []
none_keyed r t v h none =
    let n = length r.all.items in
    let keys = first_keys r.all.items in
    let here : (k : ℕ) → k < n → get_or keys k 0 ≡ first_key (get_or r.all.items k no_region) = λ k low. get_or-map first_key r.all.items k no_region 0 low in
    ap (λ m. filter (λ i. get_or keys i 0 == v) (upto m)) (length-map r.all.items first_key)
    ∙ out (λ i. get_or keys i 0 == v) (λ i. (get_or r.all.items i no_region).first == t) (upto n)
    (all_upto (λ i. (get_or keys i 0 == v) ≡ true → ((get_or r.all.items i no_region).first == t) ≡ true) n
    (λ k low e. own (get_or r.all.items k no_region).first (h (get_or r.all.items k no_region).first (get_or r.all.items k no_region).kept (sym (ap (λ x. x == v) (here k low)) ∙ e)))) none
  where
    own : (f : ℕ) → f ≡ t → (f == t) ≡ true
    own f e = eq-eqb f t e

    out : (p q : ℕ → Bool) (ks : List ℕ) → All (λ k. p k ≡ true → q k ≡ true) ks → filter q ks ≡ [] → filter p ks ≡ []
    out p q [] all e = refl
    out p q (k ∷ ks) all e = by (out p q ks (All-tail (λ j. p j ≡ true → q j ≡ true) k ks all)) (p k) (q k) refl (All-head (λ j. p j ≡ true → q j ≡ true) k ks all) e
      where
        by : (filter q ks ≡ [] → filter p ks ≡ []) → (s t : Bool) → p k ≡ s → (p k ≡ true → q k ≡ true) → cond (q k) (k ∷ filter q ks) (filter q ks) ≡ [] →
            cond (p k) (k ∷ filter p ks) (filter p ks) ≡ []
        by go true t ps h e = absurd (some (sym (ap (λ b. cond b (k ∷ filter q ks) (filter q ks)) (h ps)) ∙ e))
          where
            some : k ∷ filter q ks ≡ [] → ⊥
            some e = (let n : length (k ∷ filter q ks) ≡ 0 = ap length e in omega (arith, n))
        by go false t ps h e = ap (λ b. cond b (k ∷ filter p ks) (filter p ks)) ps ∙ go (rest (q k) refl e)
          where
            rest : (b : Bool) → q k ≡ b → cond (q k) (k ∷ filter q ks) (filter q ks) ≡ [] → filter q ks ≡ []
            rest true is e = (let n : length (k ∷ filter q ks) ≡ 0 = ap length (sym (ap (λ b. cond b (k ∷ filter q ks) (filter q ks)) is) ∙ e) in absurd (omega (arith, n)))
            rest false is e = sym (ap (λ b. cond b (k ∷ filter q ks) (filter q ks)) is) ∙ e

none_turns : (r : Regions) (t : ℕ) → numbers_at r t ≡ [] → turns_at (first_keys r.all.items) t ≡ []
none_turns r t none =
    λ i. none_keyed r t (2 * t) (λ f b e. low f b (eqb-true (2 * f + cond b 1 0) (2 * t) e)) none i
    ++ none_keyed r t (2 * t + 1) (λ f b e. high f b (eqb-true (2 * f + cond b 1 0) (2 * t + 1) e)) none i
  where
    low : (f : ℕ) (b : Bool) → 2 * f + cond b 1 0 ≡ 2 * t → f ≡ t
    low f true e = omega (arith, e)
    low f false e = omega (arith, e)

    high : (f : ℕ) (b : Bool) → 2 * f + cond b 1 0 ≡ 2 * t + 1 → f ≡ t
    high f true e = omega (arith, e)
    high f false e = omega (arith, e)

map_flat : {X Y Z : Type 0} (g : Y → Z) (h : X → List Y) (xs : List X) → map g (flat_map h xs) ≡ flat_map (λ x. map g (h x)) xs
map_flat g h [] = refl
map_flat g h (x ∷ xs) = map-append g (h x) (flat_map h xs) ∙ ap (λ l. map g (h x) ++ l) (map_flat g h xs)

module _ (points : List (List ℤ)) (all : List Face) (es : List (ℕ × ℕ)) (marks : List Bool) (r : Regions) (w : Ways) (tells : TellsNeedless points es w)
    (right : (t : ℕ) → t < length all → StandsRight points all es marks r t) where
  abbrev keys : List ℕ
  keys = first_keys r.all.items

  abbrev put : ℕ → List Filling
  put t = map (told all) (pieces_at points (map (λ f. f.corners) all) marks r w t)

  -- the two parts of what stands at a triangle
  put_is : (t : ℕ) → t < length all → (b : Bool) → get_or marks t false ≡ b →
      put t ≡ map (told all) (alone_pieces b t (face_at all t).corners) ++ map (told all) (region_pieces points r w (turns_at keys t))
  put_is t low b e =
      (λ i. map (told all) (alone_pieces (e i) t (get_or-map (λ (f : Face). f.corners) all t no_face (0, 0, 0) low i) ++ region_pieces points r w (turns_at keys t)))
      ∙ map-append (told all) (alone_pieces b t (face_at all t).corners) (region_pieces points r w (turns_at keys t))

  no_regions : (t : ℕ) → numbers_at r t ≡ [] → map (told all) (region_pieces points r w (turns_at keys t)) ≡ []
  no_regions t none = ap (λ ks. map (told all) (region_pieces points r w ks)) (none_turns r t none)

  fills_side : (t : ℕ) → t < length all → FillsSide points all es t (put t)
  fills_side t low = record { first = first (cases_Bool (get_or marks t false)); later = later }
    where
      h : StandsRight points all es marks r t
      h = right t low

      first : (get_or marks t false ≡ true) ⊎ (get_or marks t false ≡ false) → is_first points all t ≡ true →
          SameFillings (put t) (map (filled points es (side_at points all t)) (side_at points all t).regions)
      first (inl is) one =
          subst (λ (gs : List Filling). SameFillings gs (map (filled points es (side_at points all t)) (side_at points all t).regions))
          (sym (put_is t low true is ∙ ap (λ l. map (told all) (alone_pieces true t (face_at all t).corners) ++ l) (no_regions t (h.only is))
          ∙ append-nil (map (told all) (alone_pieces true t (face_at all t).corners))))
          (alone_fills_side points all es t (h.alone one is) (h.edges one is))
      first (inr is) one =
          subst (λ (gs : List Filling). SameFillings gs (map (filled points es (side_at points all t)) (side_at points all t).regions)) (sym (put_is t low false is))
          (regions_fill_side points all es r w t tells (h.at one is))

      later : is_first points all t ≡ false → put t ≡ []
      later no_first = (let n = h.none no_first in put_is t low false n.0 ∙ no_regions t n.1)

pub all_pieces_fill : AllPiecesFill
all_pieces_fill points all es marks r w tells right =
    subst (λ (gs : List Filling). SameFillings gs (fillings points es (all_sides points (bent points all))))
    (sym (ap (λ n. map (told all) (flat_map (pieces_at points (map (λ f. f.corners) all) marks r w) (upto n))) (length-map all (λ (f : Face). f.corners))
    ∙ map_flat (told all) (pieces_at points (map (λ f. f.corners) all) marks r w) (upto (length all))))
    (filled_by_firsts points all es (put points all es marks r w tells right) (fills_side points all es marks r w tells right))
