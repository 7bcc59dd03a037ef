-- The numbers of the vertices that were entered, and of all once all were.
use Rattle.std.proofs.Common.{◌≡◌, ◌<◌, ◌≤◌, ◌+◌, ◌-ℤ◌, ◌==◌, ◌++◌, [], ◌∷◌, ℕ, ℤ, pos, nat_abs, sym, ◌∙◌, ap, subst, inl, inr, arith}
use Rattle.std.proofs.Common.{List, length, length-append, get_or, map, set, take}
use Rattle.std.specs.List.{All, Contains}
use Rattle.std.proofs.lemmas.Bool.{cases_eq, eqb-true}
use Rattle.std.proofs.lemmas.Int.{ints}
use Rattle.std.proofs.lemmas.List.{append-nil, get_or-map, get_or-set_other, get_or-set_same, length-map, map_push, same_lists, take_more, get_or_default}
use Rattle.std.proofs.lemmas.List.Elements.{All-contains, All-push, All-weaker, All-from_get_or, filter_map-append}
use Rattle.chain_terms.specs.Chains.{all_edges}
use Rattle.chain_terms.specs.Ranks.{start, finish}
use Rattle.chain_laws.specs.Firsts.{passing}
use Rattle.mb_base.specs.declared.point.Corner.{Corner}
use Rattle.mb_base.specs.declared.results.Hit.{Hit}
use Rattle.mesh_terms.specs.Meshes.{Triple}
use Rattle.side_terms.specs.Conservation.{half_number, EdgeIdentity}
use Rattle.side_terms.specs.Corners.{blank_corner, corner_at}
use Rattle.spanning_forest.specs.declared.entrance.Entrance.{Entrance}
use Rattle.spanning_forest.specs.declared.entrance.Entrance.TheVariants.{Root, Along}
use Rattle.spanning_forest.specs.Forests.{IsSpanningForest, Follows, entered, root_of, roots_of, vertices_of}
use Rattle.winding.specs.Along.{half_total}
use Rattle.winding.proofs.EdgeSums.{half_sum}

-- each of these vertices has its number
abbrev pub AreKnown : (ℕ → ℤ) → List ℤ → List ℕ → Type 0
AreKnown number numbers vs = All (λ v. get_or numbers v (pos 0) ≡ number v) vs

-- a forest over equal lists
pub spans_moved : {n m : ℕ} {ts us : List Triple} {xs ys : List Entrance} → n ≡ m → ts ≡ us → xs ≡ ys →
    IsSpanningForest n (all_edges ts) xs → IsSpanningForest m (all_edges us) ys
spans_moved {n} {m} {ts} {us} {xs} {ys} same_n same_ts same_xs spans =
    let moved = subst (λ (l : List Entrance). IsSpanningForest n (all_edges ts) l) same_xs spans in
    subst (λ (k : ℕ). IsSpanningForest k (all_edges us) ys) same_n (subst (λ (l : List Triple). IsSpanningForest n (all_edges l) ys) same_ts moved)

-- the entrance at a place
module _ (es : List (ℕ × ℕ)) (entrances : List Entrance) (i : ℕ) (e : Entrance) (low : i < length entrances) (is : get_or entrances i (Root 0) ≡ e) where
  -- its vertex is below the number of vertices
  pub entered_below : (n : ℕ) → IsSpanningForest n es entrances → entered es e < n
  entered_below n spans =
      let at = get_or-map (entered es) entrances i (Root 0) 0 low ∙ ap (entered es) is in
      subst (λ (v : ℕ). v < n) at (spans.below i 0 (omega (arith, low, length-map entrances (entered es))))

  -- it follows those before it
  pub follows_here : (n : ℕ) → IsSpanningForest n es entrances → Follows es (take i entrances) e
  follows_here n spans = subst (Follows es (take i entrances)) is (spans.follow i low)

  -- those up to it
  upto_here : take (i + 1) entrances ≡ take i entrances ++ e ∷ []
  upto_here = take_more entrances i (Root 0) low ∙ ap (λ x. take i entrances ++ x ∷ []) is

  -- its vertex is one more
  pub entered_more : vertices_of es (take (i + 1) entrances) ≡ vertices_of es (take i entrances) ++ entered es e ∷ []
  entered_more = ap (vertices_of es) upto_here ∙ map_push (entered es) (take i entrances) e

-- a root is one more
pub roots_more : (entrances : List Entrance) (i v : ℕ) → i < length entrances → get_or entrances i (Root 0) ≡ Root v →
    length (roots_of (take (i + 1) entrances)) ≡ length (roots_of (take i entrances)) + 1
roots_more entrances i v low is =
    ap (λ l. length (roots_of l)) (upto_here [] entrances i (Root v) low is)
    ∙ ap length (filter_map-append root_of (take i entrances) (Root v ∷ [])) ∙ length-append (roots_of (take i entrances)) (v ∷ [])

-- another entrance is not
pub roots_same : (entrances : List Entrance) (i h : ℕ) → i < length entrances → get_or entrances i (Root 0) ≡ Along h →
    length (roots_of (take (i + 1) entrances)) ≡ length (roots_of (take i entrances))
roots_same entrances i h low is =
    ap (λ l. length (roots_of l)) (upto_here [] entrances i (Along h) low is)
    ∙ ap length (filter_map-append root_of (take i entrances) (Along h ∷ []) ∙ append-nil (roots_of (take i entrances)))

module _ (number : ℕ → ℤ) (numbers : List ℤ) where
  -- one more vertex gets its number
  known_more : (vs : List ℕ) (v : ℕ) (z : ℤ) → AreKnown number numbers vs → v < length numbers → z ≡ number v → AreKnown number (set numbers v z) (vs ++ v ∷ [])
  known_more vs v z known low is =
      let here : get_or (set numbers v z) v (pos 0) ≡ number v = get_or-set_same numbers v z (pos 0) low ∙ is in
      let P : ℕ → Type 0 = λ w. get_or (set numbers v z) w (pos 0) ≡ number w in
      let kept : (w : ℕ) → get_or numbers w (pos 0) ≡ number w → P w =
      λ w k. elim (cases_eq v w) as (λ _. P w) [
        | inl e ↦ subst P e here
        | inr d ↦ get_or-set_other numbers v w z (pos 0) (λ e. d (sym e)) ∙ k
      ] in
      All-push P vs v (All-weaker (λ w. get_or numbers w (pos 0) ≡ number w) P kept vs known) here

  -- that of the next entrance
  pub known_next : (es : List (ℕ × ℕ)) (entrances : List Entrance) (i : ℕ) (e : Entrance) (z : ℤ) → i < length entrances → get_or entrances i (Root 0) ≡ e →
      AreKnown number numbers (vertices_of es (take i entrances)) → entered es e < length numbers → z ≡ number (entered es e) →
      AreKnown number (set numbers (entered es e) z) (vertices_of es (take (i + 1) entrances))
  known_next es entrances i e z low is known inside here =
      let v = entered es e in
      subst (AreKnown number (set numbers v z)) (sym (entered_more es entrances i e low is)) (known_more (vertices_of es (take i entrances)) v z known inside here)

  -- the start of an edge that was followed has its number
  pub known_start : (es : List (ℕ × ℕ)) (before : List Entrance) (h : ℕ) → AreKnown number numbers (vertices_of es before) → Follows es before (Along h) →
      get_or numbers (start es h) (pos 0) ≡ number (start es h)
  known_start es before h known follows = All-contains (λ v. get_or numbers v (pos 0) ≡ number v) (vertices_of es before) (start es h) known follows.1

  -- once a forest was gone through, all have theirs
  pub all_known : (n : ℕ) (es : List (ℕ × ℕ)) (entrances : List Entrance) → IsSpanningForest n es entrances → AreKnown number numbers (vertices_of es entrances) →
      (v : ℕ) → v < n → get_or numbers v (pos 0) ≡ number v
  all_known n es entrances spans known v low =
      let vs = vertices_of es entrances in
      let found = passing (λ w. w == v) vs (omega (arith, spans.once v low)) in
      let inside = subst (Contains vs) (eqb-true found.member v found.passes) found.inside in
      All-contains (λ w. get_or numbers w (pos 0) ≡ number w) vs v known inside

  -- each of such a size
  pub numbers_within : (m : ℕ) → ((v : ℕ) → v < length numbers → get_or numbers v (pos 0) ≡ number v) → ((v : ℕ) → v < length numbers → nat_abs (number v) ≤ m) →
      All (λ n. nat_abs n ≤ m) numbers
  numbers_within m each small = All-from_get_or (λ n. nat_abs n ≤ m) numbers (pos 0) (λ v low. subst (λ z. nat_abs z ≤ m) (sym (each v low)) (small v low))

-- so the numbers are a function of the corners
pub numbers_are : (f : Corner → ℤ) (corners : List Corner) (numbers : List ℤ) → length numbers ≡ length corners →
    ((v : ℕ) → v < length corners → get_or numbers v (pos 0) ≡ f (corner_at corners v)) → numbers ≡ map f corners
numbers_are f corners numbers full each =
    same_lists numbers (map f corners) (full ∙ sym (length-map corners f))
    (λ k d low.
    let below : k < length corners = omega (arith, low, full) in
    get_or_default numbers k d (pos 0) low ∙ each k below ∙ sym (get_or-map f corners k blank_corner d below))

-- the number at the end of an edge, by that at its start
pub known_along : (es : List (ℕ × ℕ)) (faces : ℕ) (hits : List Hit) (number : ℕ → ℤ) (h : ℕ) (before crossings : ℤ) →
    All (λ k. k.face < faces) hits → EdgeIdentity es faces number (half_number es hits) → h < length es →
    before ≡ number (start es h) → crossings ≡ half_total es hits h → (before -ℤ crossings) ≡ number (finish es h)
known_along es faces hits number h before crossings below identity low here total_is =
    omega (arith, ints, identity.along h low, half_sum es faces hits h below, here, total_is)
