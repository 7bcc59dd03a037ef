-- A surface after a collapse: it keeps what the type keeps, and follows the definition.
use Rattle.std.proofs.Common.{◌≡◌, ◌≢◌, ℕ, zero, suc, ◌+◌, ◌*◌, ◌/◌, ◌%◌, ◌<◌, ◌⊎◌, inl, inr, Bool, true, false, List, [], ◌∷◌, ◌++◌, length, get_or, set, refl, sym, ap, subst, ◌∙◌, arith, get_or-set_same}
use Rattle.std.specs.Prelude.{cond, count_by, ◌&&◌, ◌==◌}
use Rattle.std.specs.List.{All, Contains}
use Rattle.std.proofs.lemmas.Bool.{and_from, and_parts, cases_Bool, eqb-true, eq-eqb}
use Rattle.std.proofs.lemmas.List.{length-set}
use Rattle.std.proofs.lemmas.List.Elements.{All-append, All-from_get_or, All-get_or, All-nil, All-set}
use Rattle.chain_terms.specs.Chains.{all_edges, one_if, IsClosed}
use Rattle.chain_terms.specs.Ranks.{rank, start, finish, twin}
use Rattle.chain_laws.specs.Counts.{count_by-cons}
use Rattle.halfedge.proofs.Edges.{length-all_edges, prev_next}
use Rattle.mesh_check.specs.Reduced.{picked}
use Rattle.mesh_terms.specs.Halves.{next_half, prev_half}
use Rattle.mesh_terms.specs.Meshes.{HasThree, IsBelow, Triple}
use Rattle.tidy_terms.specs.Collapse.{collapsed, labels_left, merged, stays}
use Rattle.tidy_laws.specs.Conditions.{CanCollapse, number_after}
use Rattle.tidy_laws.proofs.Closed.{merged_second, stays_closed}
use Rattle.tidy_laws.proofs.Kept.{Stays}
use Rattle.tidy_laws.proofs.Points.{three_stay}
use Rattle.tidy_laws.proofs.Six.{next_thrice, triple_starts}
use Rattle.tidy_laws.proofs.Tidying.{start_below}
use Rattle.mesh_tidy.specs.Pairs.{paired}
use Rattle.mesh_tidy.specs.TidySurface.{TidySurface, Has, HasCollapsed, IsKept, IsRenamed, IsTwin, left_of, number_of}
use Rattle.mesh_tidy.proofs.Follow.{left_follows, length-without, mark_follows, number_follows, stands, start_follows, without}
use Rattle.mesh_tidy.proofs.Left.{number_below, picked_again}
use Rattle.mesh_tidy.proofs.NewStars.{joined, stands_joined}
use Rattle.mesh_tidy.proofs.NewTwins.{IsTwinIn, bd_low, cb_low, ac_low, da_low, length-paired, new_twins, second_read, tw2}

-- what occurs is there
occurs : (xs : List ℕ) (y : ℕ) → 0 < count_by (λ x. x == y) xs → Contains xs y
occurs [] y some = absurd (omega (arith, some))
occurs (x ∷ xs) y some = elim (cases_Bool (x == y)) as (λ _. Contains (x ∷ xs) y) [
  | inl e ↦ (0, omega arith, eqb-true x y e)
  | inr n ↦ let r = occurs xs y (omega (arith, some, count_by-cons (λ z. z == y) x xs, ap one_if n)) in (suc r.0, omega (arith, r.1), r.2)
]

-- the one before is the second next
pub prev_is : (h : ℕ) → prev_half h ≡ next_half (next_half h)
prev_is h = ap prev_half (sym (next_thrice h)) ∙ prev_next (next_half (next_half h))

-- twins, as a list has them
pub twins_in : (s : TidySurface) (tw : List ℕ) → ((x : ℕ) → Has s x → IsTwin s x (get_or tw x 0)) → (x : ℕ) → Has s x → IsTwinIn s.left s.triples x (get_or tw x 0)
twins_in s tw each x has = let t = each x has in record { there = t.there; is = t.is }

-- the parts of a surface before the collapse of half-edge h, and its triangles afterwards
module _ (s : TidySurface) (tw : List ℕ) (stars : List (List ℕ)) (kept : IsKept s tw stars) (size : length stars ≡ s.vertices) (h : ℕ) (h_has : Has s h)
    (a b c d : ℕ) (can : CanCollapse (left_of s) (number_of s h) a b c d) (a_low : a < s.vertices) (b_low : b < s.vertices)
    (us : List Triple) (count : length us ≡ length s.triples) (renames : IsRenamed s.triples us (get_or (joined stars a b) a []) b a) where
  abbrev pub g : ℕ
  g = get_or tw h 0

  g_twin : IsTwin s h g
  g_twin = kept.twins h h_has

  -- afterwards
  abbrev pub new : TidySurface
  new = record { triples = us; left = without s.left (h / 3) (g / 3); vertices = s.vertices }

  stood : (x : ℕ) → Has s x → (v : ℕ) → v < length stars → count_by (λ y. y == x) (get_or stars v []) ≡ one_if (start (all_edges s.triples) x == v)
  stood x x_has v low = kept.stand x x_has v (omega (arith, low, size))

  -- what starts at b is in the star that is renamed
  all_b : (x : ℕ) → Has s x → start (all_edges s.triples) x ≡ b → Contains (get_or (joined stars a b) a []) x
  all_b x x_has e =
      let named : (merged a b (start (all_edges s.triples) x) == a) ≡ true = eq-eqb (merged a b (start (all_edges s.triples) x)) a
      (merged_second a b (start (all_edges s.triples) x) e) in
      occurs (get_or (joined stars a b) a []) x
      (omega (
        arith,
        stands_joined stars a b x (start (all_edges s.triples) x) can.distinct (omega (arith, a_low, size)) (omega (arith, b_low, size))
            (stood x x_has) a (omega (arith, a_low, size)),
        ap one_if named,
      ))

  pub left_is : left_of new ≡ collapsed a b (left_of s)
  left_is = left_follows s.left s.triples us kept.marks count h g h_has g_twin.there a b c d can g_twin.is (get_or (joined stars a b) a []) renames all_b

  pub numbers : (x : ℕ) → number_of new x ≡ number_after a b (left_of s) (number_of s x)
  numbers x = number_follows s.left s.triples us kept.marks count h g h_has g_twin.there a b c d can g_twin.is (get_or (joined stars a b) a []) renames all_b x

  mark_is : (i : ℕ) → i < length s.triples → get_or new.left i false ≡ (get_or s.left i false && stays a b (get_or s.triples i (0, 0, 0)))
  mark_is i low = mark_follows s.left s.triples us kept.marks count h g h_has g_twin.there a b c d can g_twin.is (get_or (joined stars a b) a []) renames all_b i low

  labels_are : (labels : List (List ℕ)) → length labels ≡ length s.triples → picked new.left labels ≡ labels_left a b (left_of s) (picked s.left labels)
  labels_are labels each = picked_again (stays a b) s.left new.left s.triples labels kept.marks (length-without s.left (h / 3) (g / 3) ∙ kept.marks) each mark_is

  -- its triangle, among those left
  triple_at : (x : ℕ) → Has s x → get_or (left_of s) (number_of s x / 3) (0, 0, 0) ≡ get_or s.triples (x / 3) (0, 0, 0)
  triple_at x x_has =
      let at : number_of s x / 3 ≡ rank (λ m. m) s.left (x / 3) = omega arith in
      ap (λ w. get_or (left_of s) w (0, 0, 0)) at
      ∙ stands s.left s.triples us kept.marks count h g h_has g_twin.there a b c d can g_twin.is (get_or (joined stars a b) a []) renames all_b (x / 3)
      (omega (arith, x_has.0)) x_has.1

  parts : (x : ℕ) → Has new x → (get_or s.left (x / 3) false ≡ true) × (stays a b (get_or s.triples (x / 3) (0, 0, 0)) ≡ true)
  parts x has = and_parts (get_or s.left (x / 3) false) (stays a b (get_or s.triples (x / 3) (0, 0, 0))) (sym (mark_is (x / 3) (omega (arith, has.0, count))) ∙ has.1)

  pub had : (x : ℕ) → Has new x → Has s x
  had x has = (omega (arith, has.0, count), (parts x has).0)

  pub stay : (x : ℕ) → Has new x → Stays (stays a b) (left_of s) (number_of s x)
  stay x has = (omega (arith, number_below s.left s.triples x (had x has), length-all_edges (left_of s)), ap (stays a b) (triple_at x (had x has)) ∙ (parts x has).1)

  pub has_still : (x : ℕ) → Has s x → stays a b (get_or (left_of s) (number_of s x / 3) (0, 0, 0)) ≡ true → Has new x
  has_still x x_has on = (
    omega (arith, x_has.0, count),
    mark_is (x / 3) (omega (arith, x_has.0)) ∙ and_from (get_or s.left (x / 3) false) (stays a b (get_or s.triples (x / 3) (0, 0, 0))) x_has.1
        (sym (ap (stays a b) (triple_at x x_has)) ∙ on),
  )

  -- the twins that the new list has
  pub twins_new : (x : ℕ) → Has new x →
      IsTwin new x (get_or (tw2 s.left new.left s.triples us kept.marks tw kept.full (twins_in s tw kept.twins) h h_has a b c d can left_is numbers had stay has_still) x 0)
  twins_new x has =
      let t = new_twins s.left new.left s.triples us kept.marks tw kept.full (twins_in s tw kept.twins) h h_has a b c d can left_is numbers had stay has_still x
      has in record { there = t.there; is = t.is }

  -- and the stars
  pub stand_new : (x : ℕ) → Has new x → (v : ℕ) → v < s.vertices → count_by (λ y. y == x) (get_or (joined stars a b) v []) ≡ one_if (start (all_edges us) x == v)
  stand_new x has v low =
      let before = had x has in
      stands_joined stars a b x (start (all_edges s.triples) x) can.distinct (omega (arith, a_low, size)) (omega (arith, b_low, size)) (stood x before) v (omega (arith, low, size))
      ∙ sym (ap (λ w. one_if (w == v))
      (start_follows s.left s.triples us kept.marks count h g h_has g_twin.there a b c d can g_twin.is (get_or (joined stars a b) a []) renames all_b x before))

  -- the list of twins afterwards
  abbrev pub new_twins_list : List ℕ
  new_twins_list = tw2 s.left new.left s.triples us kept.marks tw kept.full (twins_in s tw kept.twins) h h_has a b c d can left_is numbers had stay has_still

  -- the first pair, and the second as it is read then
  abbrev pub first_pair : List ℕ
  first_pair = paired tw (get_or tw (next_half h) 0) (get_or tw (prev_half h) 0)

  first_is : first_pair ≡ paired tw (get_or tw (next_half h) 0) (get_or tw (next_half (next_half h)) 0)
  first_is = ap (λ w. paired tw (get_or tw (next_half h) 0) (get_or tw w 0)) (prev_is h)

  read : (w : ℕ) → w / 3 ≡ g / 3 → get_or first_pair w 0 ≡ get_or tw w 0
  read w near =
      ap (λ l. get_or l w 0) first_is ∙ second_read s.left new.left s.triples us kept.marks tw kept.full (twins_in s tw kept.twins) h h_has a b c d can left_is
      numbers had stay has_still w near

  next_read : get_or first_pair (next_half g) 0 ≡ get_or tw (next_half g) 0
  next_read = read (next_half g) (omega arith)

  prev_read : get_or first_pair (prev_half g) 0 ≡ get_or tw (next_half (next_half g)) 0
  prev_read = ap (λ w. get_or first_pair w 0) (prev_is g) ∙ read (next_half (next_half g)) (omega arith)

  -- so the list is the one with the twins
  pub pairs_are : paired first_pair (get_or first_pair (next_half g) 0) (get_or first_pair (prev_half g) 0) ≡ new_twins_list
  pairs_are = (λ i. paired (first_is i) (next_read i) (prev_read i))

  -- each of the four is in the list
  pub cb_in : get_or tw (next_half h) 0 < length tw
  cb_in = cb_low s.left new.left s.triples us kept.marks tw kept.full (twins_in s tw kept.twins) h h_has a b c d can left_is numbers had stay has_still

  pub ac_in : get_or tw (prev_half h) 0 < length tw
  ac_in =
      subst (λ w. get_or tw w 0 < length tw) (sym (prev_is h))
      (ac_low s.left new.left s.triples us kept.marks tw kept.full (twins_in s tw kept.twins) h h_has a b c d can left_is numbers had stay has_still)

  pub da_in : get_or first_pair (next_half g) 0 < length first_pair
  da_in =
      omega (
        arith,
        next_read,
        length-paired tw (get_or tw (next_half h) 0) (get_or tw (prev_half h) 0),
        da_low s.left new.left s.triples us kept.marks tw kept.full (twins_in s tw kept.twins) h h_has a b c d can left_is numbers had stay has_still,
      )

  pub bd_in : get_or first_pair (prev_half g) 0 < length first_pair
  bd_in =
      omega (
        arith,
        prev_read,
        length-paired tw (get_or tw (next_half h) 0) (get_or tw (prev_half h) 0),
        bd_low s.left new.left s.triples us kept.marks tw kept.full (twins_in s tw kept.twins) h h_has a b c d can left_is numbers had stay has_still,
      )

  -- ends stay below the number of vertices
  start_low : (x : ℕ) → x < length (all_edges us) → start (all_edges us) x < s.vertices
  start_low x low =
      let was : start (all_edges s.triples) x < s.vertices = start_below s.vertices s.triples kept.below x
      (omega (arith, low, count, length-all_edges us, length-all_edges s.triples)) in
      elim (renames.either x) as (λ _. start (all_edges us) x < s.vertices) [
        | inl e ↦ omega (arith, e, was)
        | inr e ↦ omega (arith, e, merged_low (start (all_edges s.triples) x) was)
      ]
    where
      merged_low : (v : ℕ) → v < s.vertices → merged a b v < s.vertices
      merged_low v v_low = by (v == b) where
        by : (y : Bool) → cond y a v < s.vertices
        by true = a_low
        by false = v_low

  below : All (IsBelow s.vertices) us
  below = All-from_get_or (IsBelow s.vertices) us (0, 0, 0) each where
    each : (i : ℕ) → i < length us → IsBelow s.vertices (get_or us i (0, 0, 0))
    each i low = subst (IsBelow s.vertices) (sym (triple_starts us i (0, 0, 0) low)) (record {
      a = start_low (3 * i) (omega (arith, low, length-all_edges us));
      b = start_low (3 * i + 1) (omega (arith, low, length-all_edges us));
      c = start_low (3 * i + 2) (omega (arith, low, length-all_edges us));
    })

  -- the stars hold half-edges
  within : All (All (λ x. x < 3 * length us)) (joined stars a b)
  within = subst (λ n. All (All (λ x. x < 3 * n)) (joined stars a b)) (sym count) there where
    IsLow : List ℕ → Type 0
    IsLow = All (λ x. x < 3 * length s.triples)

    at : (v : ℕ) → v < length stars → IsLow (get_or stars v [])
    at v low = All-get_or IsLow stars v [] low kept.within

    there : All IsLow (joined stars a b)
    there =
        All-set IsLow (set stars b []) a (get_or stars a [] ++ get_or stars b [])
        (All-append (λ x. x < 3 * length s.triples) (get_or stars a []) (get_or stars b []) (at a (omega (arith, a_low, size))) (at b (omega (arith, b_low, size))))
        (All-set IsLow stars b [] (All-nil (λ x. x < 3 * length s.triples)) kept.within)

  -- what the type keeps stays so
  pub new_kept : IsKept new new_twins_list (joined stars a b)
  new_kept = record {
    marks = omega (arith, length-without s.left (h / 3) (g / 3), kept.marks, count);
    few = omega (arith, count, kept.few);
    below = below;
    three = subst (All HasThree) (sym left_is) (three_stay a b (left_of s) kept.three);
    closed = subst (λ l. IsClosed (all_edges l)) (sym left_is) (stays_closed a b can.distinct (left_of s) kept.closed);
    full = omega (
      arith,
      length-paired (paired tw (get_or tw (next_half h) 0) (get_or tw (next_half (next_half h)) 0)) (get_or tw (next_half g) 0)
          (get_or tw (next_half (next_half g)) 0),
      length-paired tw (get_or tw (next_half h) 0) (get_or tw (next_half (next_half h)) 0),
      kept.full,
      count,
    );
    twins = twins_new;
    within = within;
    stand = stand_new;
  }

  -- and it follows the definition
  pub has_collapsed : HasCollapsed s new h
  has_collapsed = record {
    left = left_is ∙ (λ i. collapsed (sym can.starts i) (sym can.ends i) (left_of s));
    labels = λ labels each. labels_are labels each ∙ (λ i. labels_left (sym can.starts i) (sym can.ends i) (left_of s) (picked s.left labels));
    count = count;
    vertices = refl;
    had = had;
    stay = λ x has. let t = stay x has in (t.0, (λ i. stays (can.starts i) (can.ends i) (get_or (left_of s) (number_of s x / 3) (0, 0, 0))) ∙ t.1);
    has = λ x x_has on. has_still x x_has ((λ i. stays (sym can.starts i) (sym can.ends i) (get_or (left_of s) (number_of s x / 3) (0, 0, 0))) ∙ on);
    numbers = λ x has. numbers x ∙ (λ i. number_after (sym can.starts i) (sym can.ends i) (left_of s) (number_of s x));
  }
