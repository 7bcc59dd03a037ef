-- Fans marked one after the other, at most one at each vertex.
use Rattle.std.proofs.Common.{◌≡◌, ◌≢◌, ◌<◌, ◌≤◌, ◌+◌, ◌-◌, ◌*◌, ◌⊎◌, inl, inr, ℕ, zero, suc, Bool, true, false, List, length, get_or, slice_set, replicate, refl, sym, ◌∙◌, ap, arith}
use Rattle.std.proofs.lemmas.Bool.{cases_eq, false≢true}
use Rattle.std.proofs.lemmas.List.{get_or-replicate, get_or-set_same, get_or-set_other, length-replicate}
use Rattle.chain_terms.specs.Chains.{all_edges, IsClosed}
use Rattle.chain_terms.specs.Permutations.{times}
use Rattle.chain_terms.specs.Ranks.{start, twin}
use Rattle.chain_laws.proofs.Walks.{times-add, returns}
use Rattle.mesh_terms.specs.Meshes.{Triple}
use Rattle.mesh_terms.specs.Halves.{prev_half, around, SameFan}
use Rattle.halfedge.specs.Numbering.{no_fan, IsFanNumbered}
use Rattle.halfedge.specs.Clean.{IsClean, IsMarked, AreMarked}
use Rattle.halfedge.proofs.Around.{around_inverse, times_start}
use Rattle.halfedge.proofs.FanSteps.{same_in_fan}

-- a walk that returns in m steps returns in any multiple of m
pub returns_again : (s : ℕ → ℕ) (m x : ℕ) → times s m x ≡ x → (i : ℕ) → times s (i * m) x ≡ x
returns_again s m x back zero = let none : 0 * m ≡ 0 = omega arith in ap (λ n. times s n x) none
returns_again s m x back (suc i) =
    let more : suc i * m ≡ i * m + m = omega arith in
    ap (λ n. times s n x) more ∙ times-add s (i * m) m x ∙ ap (times s (i * m)) back ∙ returns_again s m x back i

-- from a place of a walk that returns the walk leads back to where it began
pub leads_back : (s : ℕ → ℕ) (m x : ℕ) → 0 < m → times s m x ≡ x → (i : ℕ) → times s (i * m - i) (times s i x) ≡ x
leads_back s m x some back i =
    let all : (i * m - i) + i ≡ i * m = omega (arith, enough i m some) in
    sym (times-add s (i * m - i) i x) ∙ ap (λ n. times s n x) all ∙ returns_again s m x back i
  where
    enough : (i m : ℕ) → 0 < m → i ≤ i * m
    enough zero m some = omega arith
    enough (suc i) m some = omega (arith, enough i m some)

-- two half-edges of the fan of a third are in one fan
pub one_fan : (ts : List Triple) → IsClosed (all_edges ts) → (f : ℕ) → f < length (all_edges ts) → (h g : ℕ) → SameFan (all_edges ts) f h →
    SameFan (all_edges ts) f g → SameFan (all_edges ts) h g
one_fan ts closed f below h g (i, to_h) (j, to_g) =
    let s = around (all_edges ts) in
    let round = returns s (λ x. twin (all_edges ts) (prev_half x)) (length (all_edges ts)) (around_inverse ts closed) f below in
    let m = round.steps in
    (j + (i * m - i), times-add s j (i * m - i) h ∙ ap (λ x. times s j (times s (i * m - i) x)) (sym to_h) ∙ ap (times s j) (leads_back s m f round.some round.back i) ∙ to_g)

-- nothing is marked
pub no_marks : (ts : List Triple) → IsClosed (all_edges ts) → (n k : ℕ) → n ≡ length (all_edges ts) → AreMarked (all_edges ts) (replicate n no_fan) (replicate k false)
no_marks ts closed n k full = record {
  full = length-replicate n no_fan ∙ full;
  kept_around = λ x below. unmarked (around (all_edges ts) x) ((around_inverse ts closed).below x below) ∙ sym (unmarked x below);
  known = λ h below marked. absurd (marked (unmarked h below));
  joined = λ h g h_below g_below same h_marked g_marked. absurd (h_marked (unmarked h h_below));
  witness = λ v seen. absurd (false≢true (sym (unseen v) ∙ seen));
}
  where
    unmarked : (x : ℕ) → x < length (all_edges ts) → get_or (replicate n no_fan) x 0 ≡ no_fan
    unmarked x below = get_or-replicate n x no_fan 0 (omega (arith, below, full))

    unseen : (v : ℕ) → get_or (replicate k false) v false ≡ false
    unseen v = none k v
      where
        none : (k v : ℕ) → get_or (replicate k false) v false ≡ false
        none zero v = refl
        none (suc k) zero = refl
        none (suc k) (suc v) = none k v

-- the fan of an unmarked half-edge at a vertex that is not seen is marked, and the vertex is seen
pub marks_more : (ts : List Triple) → IsClosed (all_edges ts) → (h : ℕ) → h < length (all_edges ts) → (of new : List ℕ) (seen : List Bool) →
    start (all_edges ts) h < length seen → start (all_edges ts) h ≢ no_fan → AreMarked (all_edges ts) of seen →
    get_or seen (start (all_edges ts) h) false ≡ false → IsFanNumbered (all_edges ts) h (start (all_edges ts) h) of new →
    AreMarked (all_edges ts) new (slice_set seen (start (all_edges ts) h) true)
marks_more ts closed h h_below of new seen room number marks fresh numbered = record {
  full = numbered.full;
  kept_around = numbered.kept_around;
  known = known_new;
  joined = joined_new;
  witness = witness_new;
}
  where
    es : List (ℕ × ℕ)
    es = all_edges ts

    v : ℕ
    v = start (all_edges ts) h

    later : List Bool
    later = slice_set seen v true

    in_new : (x : ℕ) → x < length (all_edges ts) → SameFan (all_edges ts) h x → start (all_edges ts) x ≡ start (all_edges ts) h
    in_new x below (n, e) = ap (start (all_edges ts)) (sym e) ∙ times_start ts closed h h_below n

    still : (u : ℕ) → get_or seen u false ≡ true → get_or later u false ≡ true
    still u was = elim (cases_eq v u) as (λ _. get_or later u false ≡ true) [
      | inl e ↦ ap (λ w. get_or later w false) (sym e) ∙ get_or-set_same seen v true false room
      | inr d ↦ get_or-set_other seen v u true false (λ e. d (sym e)) ∙ was
    ]

    known_at : (x : ℕ) → x < length es → IsMarked new x → ((get_or new x 0 ≡ v) × SameFan es h x) ⊎ (get_or new x 0 ≡ get_or of x 0) → get_or later (start es x) false ≡ true
    known_at x below marked (inl r) = ap (λ u. get_or later u false) (in_new x below r.1) ∙ get_or-set_same seen v true false room
    known_at x below marked (inr same) = still (start es x) (marks.known x below (λ none. marked (same ∙ none)))

    known_new : (x : ℕ) → x < length es → IsMarked new x → get_or later (start es x) false ≡ true
    known_new x below marked = known_at x below marked (numbered.each x below)

    apart : (x y : ℕ) → x < length es → y < length es → start es x ≡ start es y → SameFan es h x → IsMarked of y → ⊥
    apart x y x_below y_below same fan_x marked = false≢true (sym fresh ∙ ap (λ u. get_or seen u false) (sym (in_new x x_below fan_x) ∙ same) ∙ marks.known y y_below marked)

    joined_at : (x y : ℕ) → x < length es → y < length es → start es x ≡ start es y → IsMarked new x → IsMarked new y →
        ((get_or new x 0 ≡ v) × SameFan es h x) ⊎ (get_or new x 0 ≡ get_or of x 0) →
        ((get_or new y 0 ≡ v) × SameFan es h y) ⊎ (get_or new y 0 ≡ get_or of y 0) → SameFan es x y
    joined_at x y x_below y_below same x_marked y_marked (inl r) (inl q) = one_fan ts closed h h_below x y r.1 q.1
    joined_at x y x_below y_below same x_marked y_marked (inl r) (inr q) = absurd (apart x y x_below y_below same r.1 (λ none. y_marked (q ∙ none)))
    joined_at x y x_below y_below same x_marked y_marked (inr r) (inl q) = absurd (apart y x y_below x_below (sym same) q.1 (λ none. x_marked (r ∙ none)))
    joined_at x y x_below y_below same x_marked y_marked (inr r) (inr q) = marks.joined x y x_below y_below same (λ none. x_marked (r ∙ none)) (λ none. y_marked (q ∙ none))

    joined_new : (x y : ℕ) → x < length es → y < length es → start es x ≡ start es y → IsMarked new x → IsMarked new y → SameFan es x y
    joined_new x y x_below y_below same x_marked y_marked = joined_at x y x_below y_below same x_marked y_marked (numbered.each x x_below) (numbered.each y y_below)

    stays : (x : ℕ) → IsMarked of x → ((get_or new x 0 ≡ v) × SameFan es h x) ⊎ (get_or new x 0 ≡ get_or of x 0) → IsMarked new x
    stays x marked (inl r) none = number (sym r.0 ∙ none)
    stays x marked (inr r) none = marked (sym r ∙ none)

    carried : (u : ℕ) → (x : ℕ) × (x < length es) × (start es x ≡ u) × IsMarked of x → (x : ℕ) × (x < length es) × (start es x ≡ u) × IsMarked new x
    carried u (x, below, is, marked) = (x, below, is, stays x marked (numbered.each x below))

    witness_new : (u : ℕ) → get_or later u false ≡ true → (x : ℕ) × (x < length es) × (start es x ≡ u) × IsMarked new x
    witness_new u is = elim (cases_eq v u) as (λ _. (x : ℕ) × (x < length es) × (start es x ≡ u) × IsMarked new x) [
      | inl e ↦ (h, h_below, e, λ none. number (sym numbered.here ∙ none))
      | inr d ↦ carried u (marks.witness u (sym (get_or-set_other seen v u true false (λ e. d (sym e))) ∙ is))
    ]

-- what was marked stays so, and the half-edge is marked
pub marked_after : (es : List (ℕ × ℕ)) (h number : ℕ) (of new : List ℕ) → number ≢ no_fan → IsFanNumbered es h number of new → (x : ℕ) → x < length es →
    IsMarked of x → IsMarked new x
marked_after es h number of new other numbered x below marked = by (numbered.each x below)
  where
    by : ((get_or new x 0 ≡ number) × SameFan es h x) ⊎ (get_or new x 0 ≡ get_or of x 0) → IsMarked new x
    by (inl r) none = other (sym r.0 ∙ none)
    by (inr r) none = marked (sym r ∙ none)

-- an unmarked half-edge at a vertex that is seen is in another fan than one that is marked
pub not_clean : (ts : List Triple) → IsClosed (all_edges ts) → (of : List ℕ) (seen : List Bool) → AreMarked (all_edges ts) of seen → (h : ℕ) →
    h < length (all_edges ts) → get_or of h 0 ≡ no_fan → get_or seen (start (all_edges ts) h) false ≡ true → IsClean (all_edges ts) → ⊥
not_clean ts closed of seen marks h below none is clean = by (marks.witness (start (all_edges ts) h) is)
  where
    reached : (g : ℕ) → g < length (all_edges ts) → IsMarked of g → SameFan (all_edges ts) g h → ⊥
    reached g g_below marked (n, e) = marked (sym (same_in_fan ts closed of marks.kept_around g g_below n) ∙ ap (λ x. get_or of x 0) e ∙ none)

    by : (g : ℕ) × (g < length (all_edges ts)) × (start (all_edges ts) g ≡ start (all_edges ts) h) × IsMarked of g → ⊥
    by (g, g_below, same, marked) = reached g g_below marked (clean g h g_below below same)

-- where all are marked the chain is clean
pub clean_from_marks : (es : List (ℕ × ℕ)) (of : List ℕ) (seen : List Bool) → AreMarked es of seen → ((h : ℕ) → h < length es → IsMarked of h) → IsClean es
clean_from_marks es of seen marks all h g h_below g_below same = marks.joined h g h_below g_below same (all h h_below) (all g g_below)
