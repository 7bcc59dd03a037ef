-- Triangles without an edge that crosses another, as marks tell them.
use Rattle.std.proofs.Common.{◌≡◌, ◌<◌, ◌≤◌, ◌+◌, ◌++◌, ◌∙◌, ℕ, ℤ, Bool, List, [], ◌∷◌, true, false, ap, arith, cond, filter, get_or, inl, inr, length, map, refl, replicate, suc, sym, zero}
use Rattle.std.specs.Prelude.{◌⊎◌, ◌&&◌, ◌||◌, ◌-◌, ◌-ℤ◌, not}
use Rattle.std.specs.List.{All, flat_map, list_any}
use Rattle.std.proofs.lemmas.Bool.{cases_Bool}
use Rattle.std.proofs.lemmas.List.{append_assoc, get_or-map, get_or-replicate, length-map, map-id}
use Rattle.std.proofs.lemmas.List.Folds.{flat_map-map, list_any-append}
use Rattle.chain_laws.proofs.Ascending.{filter-upto_same}
use Rattle.chain_laws.proofs.Places.{get_or-up_from, length-up_from}
use Rattle.chain_terms.specs.Paths.{round_edges}
use Rattle.chain_terms.specs.Sums.{upto}
use Rattle.face_plane.specs.Planes.{Plane, orient, point_at}
use Rattle.sheet_terms.specs.Chains.{ChainEdge, chain, cross, crossed, crossing_point, grid_point, same_edge, upward}
use Rattle.sheet_terms.specs.Faces.{Face, labels_of}
use Rattle.sheet_terms.specs.Kept.{free, free_after, has_edge}
use Rattle.plane_chains.specs.Listed.{chosen, face_at, no_face}
use Rattle.plane_chains.specs.Pairs.{crossing_pairs, edge_at, grid_crossings, pairs_among}
use Rattle.plane_chains.specs.Tellings.{has_key, unmarked}
use Rattle.plane_chains.specs.Ways.{marked}
use Rattle.plane_chains.proofs.FaceLists.{map_upto}

-- some member of lists that are made, mapped or filtered
any_agree : {X : Type 0} (p q : X → Bool) → ((x : X) → p x ≡ q x) → (xs : List X) → list_any p xs ≡ list_any q xs
any_agree p q h [] = refl
any_agree p q h (x ∷ xs) = λ i. h x i || any_agree p q h xs i

any_map : {X Y : Type 0} (q : Y → Bool) (f : X → Y) (xs : List X) → list_any q (map f xs) ≡ list_any (λ x. q (f x)) xs
any_map q f [] = refl
any_map q f (x ∷ xs) = ap (λ b. q (f x) || b) (any_map q f xs)

any_flat_map : {X Y : Type 0} (q : Y → Bool) (f : X → List Y) (xs : List X) → list_any q (flat_map f xs) ≡ list_any (λ x. list_any q (f x)) xs
any_flat_map q f [] = refl
any_flat_map q f (x ∷ xs) = list_any-append q (f x) (flat_map f xs) ∙ ap (λ b. list_any q (f x) || b) (any_flat_map q f xs)

any_filter : {X : Type 0} (p q : X → Bool) (xs : List X) → list_any q (filter p xs) ≡ list_any (λ x. p x && q x) xs
any_filter p q [] = refl
any_filter p q (x ∷ xs) = by (p x) (any_filter p q xs) where
  by : (b : Bool) → list_any q (filter p xs) ≡ list_any (λ y. p y && q y) xs → list_any q (cond b (x ∷ filter p xs) (filter p xs)) ≡ ((b && q x) || list_any (λ y. p y && q y) xs)
  by true rest = ap (λ b. q x || b) rest
  by false rest = rest

any_both : {X : Type 0} (p : X → Bool) (a : Bool) (xs : List X) → list_any (λ x. p x && a) xs ≡ (list_any p xs && a)
any_both p a [] = refl
any_both p a (x ∷ xs) = ap (λ b. (p x && a) || b) (any_both p a xs) ∙ by (p x) a (list_any p xs) where
  by : (b c d : Bool) → ((b && c) || (d && c)) ≡ ((b || d) && c)
  by true true d = refl
  by true false true = refl
  by true false false = refl
  by false c d = refl

-- a list by its places
any_upto : {X : Type 0} (q : X → Bool) (xs : List X) (d : X) → list_any (λ i. q (get_or xs i d)) (upto (length xs)) ≡ list_any q xs
any_upto q xs d = sym (any_map q (λ i. get_or xs i d) (upto (length xs))) ∙ ap (list_any q) (sym (map_upto (λ x. x) xs d) ∙ map-id xs)

and_turned : (a b : Bool) → (a && b) ≡ (b && a)
and_turned true true = refl
and_turned true false = refl
and_turned false true = refl
and_turned false false = refl

-- the edges that cross others are the first ones of the pairs
module _ (at : Plane) (cs : List ChainEdge) (e : ℕ × ℕ) where
  abbrev es : List (ℕ × ℕ)
  es = map (λ (c : ChainEdge). c.edge) cs

  abbrev crosses : (ℕ × ℕ) → Bool
  crosses d = list_any (λ (c : ChainEdge). cross at d c.edge) cs

  row : (i : ℕ) → list_any (λ (p : ℕ × ℕ). same_edge e (edge_at es p.0)) (pairs_among at es i (upto (length es))) ≡ (crosses (edge_at es i) && same_edge e (edge_at es i))
  row i =
      any_map (λ (p : ℕ × ℕ). same_edge e (edge_at es p.0)) (λ j. (i, j)) (filter (λ j. cross at (edge_at es i) (edge_at es j)) (upto (length es)))
      ∙ any_filter (λ j. cross at (edge_at es i) (edge_at es j)) (λ j. same_edge e (edge_at es i)) (upto (length es))
      ∙ any_both (λ j. cross at (edge_at es i) (edge_at es j)) (same_edge e (edge_at es i)) (upto (length es))
      ∙ ap (λ b. b && same_edge e (edge_at es i))
      (any_upto (cross at (edge_at es i)) es (0, 0) ∙ any_map (cross at (edge_at es i)) (λ (c : ChainEdge). c.edge) cs)

  pub crossed_any : list_any (λ (p : ℕ × ℕ). same_edge e (edge_at es p.0)) (crossing_pairs at es) ≡ list_any (same_edge e) (crossed at cs)
  crossed_any =
      any_flat_map (λ (p : ℕ × ℕ). same_edge e (edge_at es p.0)) (λ i. pairs_among at es i (upto (length es))) (upto (length es))
      ∙ any_agree (λ i. list_any (λ (p : ℕ × ℕ). same_edge e (edge_at es p.0)) (pairs_among at es i (upto (length es))))
      (λ i. crosses (edge_at es i) && same_edge e (edge_at es i)) row (upto (length es))
      ∙ any_upto (λ d. crosses d && same_edge e d) es (0, 0)
      ∙ any_map (λ d. crosses d && same_edge e d) (λ (c : ChainEdge). c.edge) cs
      ∙ sym (any_filter (λ (c : ChainEdge). crosses c.edge) (λ (c : ChainEdge). same_edge e c.edge) cs)
      ∙ sym (any_map (same_edge e) (λ (c : ChainEdge). c.edge) (filter (λ (c : ChainEdge). crosses c.edge) cs))

-- the points of the pairs
flat_map-flat_map : {X Y Z : Type 0} (g : Y → List Z) (f : X → List Y) (xs : List X) → flat_map g (flat_map f xs) ≡ flat_map (λ x. flat_map g (f x)) xs
flat_map-flat_map g f [] = refl
flat_map-flat_map {Y = Y} g f (x ∷ xs) = joined (f x) ∙ ap (λ zs. flat_map g (f x) ++ zs) (flat_map-flat_map g f xs) where
  joined : (ys : List Y) → flat_map g (ys ++ flat_map f xs) ≡ flat_map g ys ++ flat_map g (flat_map f xs)
  joined [] = refl
  joined (y ∷ ys) = ap (λ zs. g y ++ zs) (joined ys) ∙ sym (append_assoc (g y) (flat_map g ys) (flat_map g (flat_map f xs)))

flat_map-filter : {X Y : Type 0} (g : X → List Y) (p : X → Bool) → ((x : X) → p x ≡ false → g x ≡ []) → (xs : List X) → flat_map g (filter p xs) ≡ flat_map g xs
flat_map-filter g p h [] = refl
flat_map-filter g p h (x ∷ xs) = by (cases_Bool (p x)) (flat_map-filter g p h xs) where
  by : (p x ≡ true) ⊎ (p x ≡ false) → flat_map g (filter p xs) ≡ flat_map g xs → flat_map g (filter p (x ∷ xs)) ≡ g x ++ flat_map g xs
  by (inl holds) rest = ap (λ b. flat_map g (cond b (x ∷ filter p xs) (filter p xs))) holds ∙ ap (λ zs. g x ++ zs) rest
  by (inr fails) rest = ap (λ b. flat_map g (cond b (x ∷ filter p xs) (filter p xs))) fails ∙ rest ∙ ap (λ zs. zs ++ flat_map g xs) (sym (h x fails))

flat_map_same : {X Y : Type 0} (f g : X → List Y) → ((x : X) → f x ≡ g x) → (xs : List X) → flat_map f xs ≡ flat_map g xs
flat_map_same f g h [] = refl
flat_map_same f g h (x ∷ xs) = λ i. h x i ++ flat_map_same f g h xs i

flat_map_upto : {X Y : Type 0} (g : X → List Y) (xs : List X) (d : X) → flat_map (λ i. g (get_or xs i d)) (upto (length xs)) ≡ flat_map g xs
flat_map_upto g xs d = sym (flat_map-map g (λ i. get_or xs i d) (upto (length xs))) ∙ ap (flat_map g) (sym (map_upto (λ x. x) xs d) ∙ map-id xs)

module _ (points : List (List ℤ)) (at : Plane) (cs : List ChainEdge) where
  abbrev own : List (ℕ × ℕ)
  own = map (λ (c : ChainEdge). c.edge) cs

  no_point : (d e : ℕ × ℕ) → cross at d e ≡ false → crossing_point points at d e ≡ []
  no_point d e h = ap (λ b. flat_map (λ (f : ℕ × ℕ). grid_point (orient at e.0 e.1 d.0) (orient at e.0 e.1 d.0 -ℤ orient at e.0 e.1 d.1) (point_at points d.0) (point_at points d.1)) (cond b (e ∷ []) [])) h

  points_row : (i : ℕ) → flat_map (λ (p : ℕ × ℕ). crossing_point points at (edge_at own p.0) (edge_at own p.1)) (pairs_among at own i (upto (length own)))
      ≡ flat_map (λ (c : ChainEdge). crossing_point points at (edge_at own i) c.edge) cs
  points_row i =
      flat_map-map (λ (p : ℕ × ℕ). crossing_point points at (edge_at own p.0) (edge_at own p.1)) (λ j. (i, j)) (filter (λ j. cross at (edge_at own i) (edge_at own j)) (upto (length own)))
      ∙ flat_map-filter (λ j. crossing_point points at (edge_at own i) (edge_at own j)) (λ j. cross at (edge_at own i) (edge_at own j))
      (λ j. no_point (edge_at own i) (edge_at own j)) (upto (length own))
      ∙ flat_map_upto (crossing_point points at (edge_at own i)) own (0, 0)
      ∙ flat_map-map (crossing_point points at (edge_at own i)) (λ (c : ChainEdge). c.edge) cs

  pub points_found : flat_map (λ (p : ℕ × ℕ). crossing_point points at (edge_at own p.0) (edge_at own p.1)) (crossing_pairs at own) ≡ grid_crossings points at cs
  points_found =
      flat_map-flat_map (λ (p : ℕ × ℕ). crossing_point points at (edge_at own p.0) (edge_at own p.1)) (λ i. pairs_among at own i (upto (length own))) (upto (length own))
      ∙ flat_map_same (λ i. flat_map (λ (p : ℕ × ℕ). crossing_point points at (edge_at own p.0) (edge_at own p.1)) (pairs_among at own i (upto (length own))))
      (λ i. flat_map (λ (c : ChainEdge). crossing_point points at (edge_at own i) c.edge) cs) points_row (upto (length own))
      ∙ flat_map_upto (λ d. flat_map (λ (c : ChainEdge). crossing_point points at d c.edge) cs) own (0, 0)
      ∙ flat_map-map (λ d. flat_map (λ (c : ChainEdge). crossing_point points at d c.edge) cs) (λ (c : ChainEdge). c.edge) cs

-- a triangle has one of some edges in its rim where the keys say so
key_is : (keys es : List (ℕ × ℕ)) → ((e : ℕ × ℕ) → list_any (same_edge e) keys ≡ list_any (same_edge e) es) → (f : Face) → has_key keys f.rim ≡ has_edge es f
key_is keys es same f = any_agree (λ e. list_any (same_edge (upward e)) keys) (λ e. list_any (same_edge (upward e)) es) (λ e. same (upward e)) (round_edges f.rim)

-- two filters one after the other, and one of what is mapped
filter-filter : {X : Type 0} (p q : X → Bool) (xs : List X) → filter p (filter q xs) ≡ filter (λ x. q x && p x) xs
filter-filter p q [] = refl
filter-filter p q (x ∷ xs) = by (q x) (filter-filter p q xs) where
  by : (b : Bool) → filter p (filter q xs) ≡ filter (λ y. q y && p y) xs → filter p (cond b (x ∷ filter q xs) (filter q xs)) ≡ cond (b && p x) (x ∷ filter (λ y. q y && p y) xs) (filter (λ y. q y && p y) xs)
  by true rest = ap (λ ys. cond (p x) (x ∷ ys) ys) rest
  by false rest = rest

filter-map : {X Y : Type 0} (p : Y → Bool) (f : X → Y) (xs : List X) → filter p (map f xs) ≡ map f (filter (λ x. p (f x)) xs)
filter-map p f [] = refl
filter-map p f (x ∷ xs) = by (p (f x)) (filter-map p f xs) where
  by : (b : Bool) → filter p (map f xs) ≡ map f (filter (λ y. p (f y)) xs) → cond b (f x ∷ filter p (map f xs)) (filter p (map f xs)) ≡ map f (cond b (x ∷ filter (λ y. p (f y)) xs) (filter (λ y. p (f y)) xs))
  by true rest = ap (λ ys. f x ∷ ys) rest
  by false rest = rest

-- the triangles that keep their marks
pub chosen_unmarked : (fs : List Face) (rims : List (List ℕ)) (keys es : List (ℕ × ℕ)) (marks : List Bool) → rims ≡ map (λ f. f.rim) fs →
    ((e : ℕ × ℕ) → list_any (same_edge e) keys ≡ list_any (same_edge e) es) →
    chosen (unmarked rims keys marks) fs ≡ filter (λ f. not (has_edge es f)) (chosen marks fs)
chosen_unmarked fs rims keys es marks same any =
    ap (map (face_at fs))
    (filter-upto_same (λ i. get_or (unmarked rims keys marks) i false) (λ i. get_or marks i false && not (has_edge es (face_at fs i))) (length fs) at
    ∙ sym (filter-filter (λ i. not (has_edge es (face_at fs i))) (λ i. get_or marks i false) (upto (length fs))))
    ∙ sym (filter-map (λ f. not (has_edge es f)) (face_at fs) (marked marks (length fs)))
  where
    many : length rims ≡ length fs
    many = ap length same ∙ length-map fs (λ (f : Face). f.rim)

    at : (i : ℕ) → i < length fs → get_or (unmarked rims keys marks) i false ≡ (get_or marks i false && not (has_edge es (face_at fs i)))
    at i low =
        get_or-map (λ j. get_or marks j false && not (has_key keys (get_or rims j []))) (upto (length rims)) i 0 false (omega (arith, low, many, length-up_from 0 (length rims)))
        ∙ ap (λ j. get_or marks j false && not (has_key keys (get_or rims j []))) (get_or-up_from 0 (length rims) i 0 (omega (arith, low, many)) ∙ omega arith)
        ∙ ap (λ b. get_or marks i false && not b)
        (ap (has_key keys) (ap (λ rs. get_or rs i []) same ∙ get_or-map (λ (f : Face). f.rim) fs i no_face [] low) ∙ key_is keys es any (face_at fs i))

-- with all marks they are all
filter_full : {X : Type 0} (p : X → Bool) (xs : List X) → All (λ x. p x ≡ true) xs → filter p xs ≡ xs
filter_full p [] h = refl
filter_full p (x ∷ xs) h =
    ap (λ b. cond b (x ∷ filter p xs) (filter p xs)) (h 0 x (omega arith)) ∙ ap (λ ys. x ∷ ys) (filter_full p xs (λ k d low. h (suc k) d (omega (arith, low))))

pub chosen_all : (fs : List Face) (marks : List Bool) → marks ≡ replicate (length fs) true → chosen marks fs ≡ fs
chosen_all fs marks e =
    ap (map (face_at fs))
    (filter-upto_same (λ i. get_or marks i false) (λ i. true) (length fs) (λ i low. ap (λ ms. get_or ms i false) e ∙ get_or-replicate (length fs) i true false low)
    ∙ filter_full (λ i. true) (upto (length fs)) (λ k d low. refl))
    ∙ sym (map_upto (λ x. x) fs no_face) ∙ map-id fs

-- where no edge of their chain crosses another nothing goes any more
no_edge : (es : List (ℕ × ℕ)) → ((e : ℕ × ℕ) → list_any (same_edge e) es ≡ false) → (f : Face) → has_edge es f ≡ false
no_edge es none f = any_agree (λ e. list_any (same_edge (upward e)) es) (λ e. false) (λ e. none (upward e)) (round_edges f.rim) ∙ never (round_edges f.rim) where
  never : (ds : List (ℕ × ℕ)) → list_any (λ (e : ℕ × ℕ). false) ds ≡ false
  never [] = refl
  never (d ∷ ds) = never ds

free_stays : (m : ℕ) (at : Plane) (labels : List (List ℕ)) (cs : List Face) → filter (λ f. not (has_edge (crossed at (chain labels cs)) f)) cs ≡ cs → free_after m at labels cs ≡ cs
free_stays zero at labels cs h = refl
free_stays (suc m) at labels cs h = ap (free_after m at labels) h ∙ free_stays m at labels cs h

-- on the way to the free triangles: so many steps are left
abbrev pub IsOnWay : Plane → List Face → List Bool → ℕ → Type 0
IsOnWay at fs marks k = (m : ℕ) → m + k ≡ length fs → free_after m at (labels_of fs) (chosen marks fs) ≡ free at fs

pub way_begun : (at : Plane) (fs : List Face) (marks : List Bool) → marks ≡ replicate (length fs) true → IsOnWay at fs marks 0
way_begun at fs marks e m h =
    let all : m ≡ length fs = omega (arith, h) in
    ap (free_after m at (labels_of fs)) (chosen_all fs marks e) ∙ ap (λ n. free_after n at (labels_of fs) fs) all

pub way_more : (at : Plane) (fs : List Face) (marks new : List Bool) (k : ℕ) → IsOnWay at fs marks k →
    chosen new fs ≡ filter (λ f. not (has_edge (crossed at (chain (labels_of fs) (chosen marks fs))) f)) (chosen marks fs) → IsOnWay at fs new (k + 1)
way_more at fs marks new k way step m h = ap (free_after m at (labels_of fs)) step ∙ way (suc m) (omega (arith, h))

pub way_ended : (at : Plane) (fs : List Face) (marks : List Bool) (k : ℕ) → IsOnWay at fs marks k → length fs ≤ k → k ≤ length fs → chosen marks fs ≡ free at fs
way_ended at fs marks k way end within = way 0 (omega (arith, end, within))

pub way_stopped : (at : Plane) (fs : List Face) (marks : List Bool) (k : ℕ) → IsOnWay at fs marks k → k ≤ length fs →
    crossing_pairs at (map (λ (c : ChainEdge). c.edge) (chain (labels_of fs) (chosen marks fs))) ≡ [] → chosen marks fs ≡ free at fs
way_stopped at fs marks k way within none =
    sym (free_stays (length fs - k) at (labels_of fs) (chosen marks fs)
    (filter_full (λ f. not (has_edge (crossed at (chain (labels_of fs) (chosen marks fs))) f)) (chosen marks fs)
    (λ i d low. ap not (no_edge (crossed at (chain (labels_of fs) (chosen marks fs)))
    (λ e. sym (crossed_any at (chain (labels_of fs) (chosen marks fs)) e)
    ∙ ap (list_any (λ (p : ℕ × ℕ). same_edge e (edge_at (map (λ (c : ChainEdge). c.edge) (chain (labels_of fs) (chosen marks fs))) p.0))) none) (get_or (chosen marks fs) i d)))))
    ∙ way (length fs - k) (omega (arith, within))
