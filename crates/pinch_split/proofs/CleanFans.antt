-- The fans of a clean mesh are its vertices, so splitting leaves it as it is.
use Rattle.std.proofs.Common.{◌≡◌, ◌<◌, ◌≤◌, ◌+◌, ◌*◌, ℕ, zero, suc, Bool, true, false, cond, List, [], ◌∷◌, length, get_or, map, refl, sym, ◌∙◌, ap, subst, arith}
use Rattle.std.specs.Prelude.{◌||◌, ◌==◌, ℤ}
use Rattle.std.proofs.lemmas.Bool.{eqb-true, eq-eqb, false≢true}
use Rattle.std.proofs.lemmas.List.{get_or_default, get_or-map, length-map, same_lists}
use Rattle.chain_terms.specs.Chains.{all_edges}
use Rattle.chain_terms.specs.Permutations.{AreInverse, Returns}
use Rattle.chain_terms.specs.Ranks.{start, twin}
use Rattle.chain_terms.specs.Sums.{upto}
use Rattle.chain_laws.proofs.Places.{get_or-up_from, length-up_from}
use Rattle.chain_laws.proofs.Walks.{returns}
use Rattle.mesh_terms.specs.Fans.{AreFans}
use Rattle.mesh_terms.specs.Halves.{prev_half, around, around_times, SameFan}
use Rattle.mesh_terms.specs.Meshes.{Triple, IsAccepted, is_used}
use Rattle.halfedge.specs.Clean.{IsClean}
use Rattle.halfedge.proofs.Around.{around_inverse, go_around}
use Rattle.halfedge.proofs.Edges.{length-all_edges}
use Rattle.halfedge.proofs.Listed.{listed}
use Rattle.pinch_split.specs.Split.{split_from, split_points, split_triples}
use Rattle.pinch_split.specs.Given.{corners, starts_of, points_of}
use Rattle.pinch_split.proofs.Anew.{HasFans, corner_at}
use Rattle.pinch_split.proofs.Clean.{few_fans}
use Rattle.pinch_split.proofs.Corners.{length-corners}
use Rattle.pinch_split.proofs.FanLists.{starts_are_from, corners_are_split}
use Rattle.pinch_split.proofs.Whole.{has_fans, start_below}

-- the first edge that starts at v
abbrev pub first_at : List (ℕ × ℕ) → ℕ → ℕ
first_at [] v = 0
first_at (e ∷ es) v = cond (e.0 == v) 0 (suc (first_at es v))

-- it does, and no other is before it
record IsFirstAt (es : List (ℕ × ℕ)) (v h : ℕ) : Type 0 where
  least : first_at es v ≤ h
  starts : start es (first_at es v) ≡ v

first_found : (es : List (ℕ × ℕ)) (v h : ℕ) → h < length es → start es h ≡ v → IsFirstAt es v h
first_found [] v h below is = absurd (omega (arith, below))
first_found (e ∷ es) v zero below is = record { least = omega (arith, here); starts = ap (start (e ∷ es)) here ∙ is }
  where
    here : first_at (e ∷ es) v ≡ 0
    here = ap (λ b. cond b 0 (suc (first_at es v))) (eq-eqb e.0 v is)
first_found (e ∷ es) v (suc h) below is = by (e.0 == v) refl (first_found es v h (omega (arith, below)) is)
  where
    by : (b : Bool) → (e.0 == v) ≡ b → IsFirstAt es v h → IsFirstAt (e ∷ es) v (suc h)
    by true y later = let here : first_at (e ∷ es) v ≡ 0 = ap (λ b. cond b 0 (suc (first_at es v))) y in
        record { least = omega (arith, here); starts = ap (start (e ∷ es)) here ∙ eqb-true e.0 v y }
    by false n later = let on : first_at (e ∷ es) v ≡ suc (first_at es v) = ap (λ b. cond b 0 (suc (first_at es v))) n in
        record { least = omega (arith, on, later.least); starts = ap (start (e ∷ es)) on ∙ later.starts }

-- a half-edge that starts at v
abbrev pub HasHalf : List Triple → ℕ → Type 0
HasHalf ts v = (h : ℕ) × (h < length (all_edges ts)) × (start (all_edges ts) h ≡ v)

-- each used vertex has one
pub used_half : (ts : List Triple) (v : ℕ) → is_used ts v ≡ true → HasHalf ts v
used_half [] v used = absurd (false≢true used)
used_half (t ∷ ts) v used = by (t.0 == v) (t.1 == v) (t.2 == v) refl refl refl used (λ later. used_half ts v later)
  where
    shift : HasHalf ts v → HasHalf (t ∷ ts) v
    shift (h, l, e) = (suc (suc (suc h)), omega (arith, l), e)

    by : (a b c : Bool) → (t.0 == v) ≡ a → (t.1 == v) ≡ b → (t.2 == v) ≡ c → ((a || b || c) || is_used ts v) ≡ true → (is_used ts v ≡ true → HasHalf ts v) → HasHalf (t ∷ ts) v
    by true b c p q r u rest = (0, omega arith, eqb-true t.0 v p)
    by false true c p q r u rest = (1, omega arith, eqb-true t.1 v q)
    by false false true p q r u rest = (2, omega arith, eqb-true t.2 v r)
    by false false false p q r u rest = shift (rest u)

-- each half-edge's vertex as its fan, and the first half-edge of each vertex
abbrev pub all_starts : List Triple → List ℕ
all_starts ts = map (start (all_edges ts)) (upto (length (all_edges ts)))

abbrev pub vertex_firsts : ℕ → List Triple → List ℕ
vertex_firsts points ts = map (first_at (all_edges ts)) (upto points)

-- are the fans of a clean mesh
pub vertex_fans : (points : ℕ) (ts : List Triple) → IsAccepted points ts → IsClean (all_edges ts) → AreFans (all_edges ts) (all_starts ts) (vertex_firsts points ts)
vertex_fans points ts accepted clean = record {
  one_each = length-map (upto n) (start es) ∙ length-up_from 0 n;
  steps = λ h below. at (around es h) (inverse.below h below) ∙ (go_around ts accepted.mesh.three accepted.closed).start_stays h below ∙ sym (at h below);
  numbered = λ h below. subst (λ v. v < length firsts) (sym (at h below)) (omega (arith, vertex_below h below, count));
  first_in = λ k low. let is = first_of k (omega (arith, low, count)) in (
    subst (λ h. h < n) (sym (first_is k (omega (arith, low, count)))) is.0,
    ap (λ h. get_or ofs h 0) (first_is k (omega (arith, low, count))) ∙ at (first_at es k) is.0 ∙ is.1,
  );
  reached = λ h below. let is = first_of (start es h) (vertex_below h below) in
      subst (λ f. SameFan es f h) (sym (mine h below)) (clean (first_at es (start es h)) h is.0 below is.1);
  returns = λ k low. let is = first_of k (omega (arith, low, count)) in
      subst (λ f. (m : ℕ) × (0 < m) × (around_times es m f ≡ f)) (sym (first_is k (omega (arith, low, count))))
      (round (first_at es k) (returns (around es) (λ g. twin es (prev_half g)) n inverse (first_at es k) is.0));
  least = λ h below. subst (λ f. f ≤ h) (sym (mine h below)) (first_found es (start es h) h below refl).least;
  by_start = λ j k less low. omega (arith, less, starts_at j (omega (arith, less, low, count)), starts_at k (omega (arith, low, count)));
  by_half = λ j k less low same. absurd (omega (arith, less, same, starts_at j (omega (arith, less, low, count)), starts_at k (omega (arith, low, count))));
}
  where
    es : List (ℕ × ℕ)
    es = all_edges ts

    n : ℕ
    n = length (all_edges ts)

    ofs : List ℕ
    ofs = all_starts ts

    firsts : List ℕ
    firsts = vertex_firsts points ts

    inverse : AreInverse (around (all_edges ts)) (λ g. twin (all_edges ts) (prev_half g)) (length (all_edges ts))
    inverse = around_inverse ts accepted.closed

    count : length firsts ≡ points
    count = length-map (upto points) (first_at (all_edges ts)) ∙ length-up_from 0 points

    at : (h : ℕ) → h < n → get_or ofs h 0 ≡ start es h
    at h below = listed (start es) n h 0 below

    vertex_below : (h : ℕ) → h < n → start es h < points
    vertex_below h below = start_below points ts accepted.mesh.below h below

    first_is : (k : ℕ) → k < points → get_or firsts k 0 ≡ first_at es k
    first_is k low = listed (first_at es) points k 0 low

    first_of : (k : ℕ) → k < points → (first_at es k < n) × (start es (first_at es k) ≡ k)
    first_of k low = of_half (used_half ts k (accepted.mesh.used k low))
      where
        of_half : HasHalf ts k → (first_at es k < n) × (start es (first_at es k) ≡ k)
        of_half (h, below, is) = let r = first_found es k h below is in (omega (arith, r.least, below), r.starts)

    mine : (h : ℕ) → h < n → get_or firsts (get_or ofs h 0) 0 ≡ first_at es (start es h)
    mine h below = ap (λ v. get_or firsts v 0) (at h below) ∙ first_is (start es h) (vertex_below h below)

    starts_at : (k : ℕ) → k < points → start es (get_or firsts k 0) ≡ k
    starts_at k low = ap (start es) (first_is k low) ∙ (first_of k low).1

    round : (f : ℕ) → Returns (around es) n f → (m : ℕ) × (0 < m) × (around_times es m f ≡ f)
    round f r = (r.steps, r.some, r.back)

-- a triple has the starts of its half-edges
pub triple_starts : (ts : List Triple) (i : ℕ) (d : Triple) → i < length ts →
    get_or ts i d ≡ (start (all_edges ts) (3 * i), start (all_edges ts) (3 * i + 1), start (all_edges ts) (3 * i + 2))
triple_starts [] i d low = absurd (omega (arith, low))
triple_starts (t ∷ ts) zero d low = refl
triple_starts (t ∷ ts) (suc i) d low =
    let es = all_edges (t ∷ ts) in
    let zeroth : suc (suc (suc (3 * i))) ≡ 3 * suc i = omega arith in
    let first : suc (suc (suc (3 * i + 1))) ≡ 3 * suc i + 1 = omega arith in
    let second : suc (suc (suc (3 * i + 2))) ≡ 3 * suc i + 2 = omega arith in
    triple_starts ts i d (omega (arith, low)) ∙ (λ j. (start es (zeroth j), start es (first j), start es (second j)))

-- the mesh is its own split mesh
pub record IsUnchanged (points : List (List ℤ)) (ts : List Triple) : Type 0 where
  pub from : upto (length points) ≡ split_from (length points) ts
  pub triples : ts ≡ split_triples (length points) ts
  pub same_points : points ≡ split_points points ts
  pub few : 2 * length points ≤ 3 * length ts

pub unchanged : (points : List (List ℤ)) (ts : List Triple) → IsAccepted (length points) ts → IsClean (all_edges ts) → IsUnchanged points ts
unchanged points ts accepted clean = record {
  from = from;
  triples = sym same_triples ∙ corners_are_split m ts ofs firsts accepted known;
  same_points = all_points ∙ ap (points_of points) from;
  few = omega (arith, few_fans ts ofs firsts known, count, length-all_edges ts);
}
  where
    m : ℕ
    m = length points

    es : List (ℕ × ℕ)
    es = all_edges ts

    n : ℕ
    n = length (all_edges ts)

    ofs : List ℕ
    ofs = all_starts ts

    firsts : List ℕ
    firsts = vertex_firsts (length points) ts

    known : HasFans ts (all_starts ts) (vertex_firsts (length points) ts)
    known = has_fans (length points) ts (all_starts ts) (vertex_firsts (length points) ts) accepted (vertex_fans (length points) ts accepted clean)

    count : length firsts ≡ m
    count = length-map (upto m) (first_at es) ∙ length-up_from 0 m

    at : (h : ℕ) → h < n → get_or ofs h 0 ≡ start es h
    at h below = listed (start es) n h 0 below

    vertex : (k : ℕ) → k < length firsts → start es (get_or firsts k 0) ≡ k
    vertex k low = let held = known.fans.first_in k low in sym (at (get_or firsts k 0) held.0) ∙ held.1

    starts : upto m ≡ starts_of ts firsts
    starts = same_lists (upto m) (starts_of ts firsts) (length-up_from 0 m ∙ sym (length-map firsts (start es) ∙ count)) (λ k d l.
        let low : k < m = omega (arith, l, length-up_from 0 m) in
        let below : k < length firsts = omega (arith, low, count) in
        let first : 0 + k ≡ k = omega arith in
        get_or-up_from 0 m k d low ∙ first ∙ sym (get_or-map (start es) firsts k 0 d below ∙ vertex k below))

    from : upto m ≡ split_from m ts
    from = starts ∙ starts_are_from m ts ofs firsts accepted known

    same_triples : corners ofs (length ts) ≡ ts
    same_triples = same_lists (corners ofs (length ts)) ts (length-corners (λ h. get_or ofs h 0) (length ts)) (λ i d l.
        let low : i < length ts = omega (arith, l, length-corners (λ h. get_or ofs h 0) (length ts)) in
        let full = length-all_edges ts in
        corner_at (λ h. get_or ofs h 0) (length ts) i d low
        ∙ (λ j. (at (3 * i) (omega (arith, low, full)) j, at (3 * i + 1) (omega (arith, low, full)) j, at (3 * i + 2) (omega (arith, low, full)) j))
        ∙ sym (triple_starts ts i d low))

    all_points : points ≡ points_of points (upto m)
    all_points = same_lists points (points_of points (upto m)) (sym (length-map (upto m) (λ v. get_or points v []) ∙ length-up_from 0 m)) (λ k d l.
        let first : 0 + k ≡ k = omega arith in
        get_or_default points k d [] l ∙ ap (λ v. get_or points v []) (sym (get_or-up_from 0 m k 0 l ∙ first))
        ∙ sym (get_or-map (λ v. get_or points v []) (upto m) k 0 d (omega (arith, l, length-up_from 0 m))))
