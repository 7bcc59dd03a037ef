-- The rim of a triangle that is not flat has the sums of its edges, of functions that add up along lines.
use Rattle.std.specs.Prelude.{◌≡◌, ℕ, ℤ, ◌+ℤ◌, List, [], ◌∷◌, ◌++◌, true, false, Bool, not, ◌&&◌, ◌==◌, filter, length, map}
use Rattle.std.specs.List.{All}
use Rattle.std.proofs.Common.{arith, refl, sym, ap, ◌∙◌}
use Rattle.std.proofs.lemmas.Bool.{and_parts, both_ways, cond_both, false_from_ne_true}
use Rattle.std.proofs.lemmas.Int.{ints}
use Rattle.std.proofs.lemmas.List.{append_assoc}
use Rattle.std.proofs.lemmas.List.Elements.{All-cons, All-head, All-nil, All-tail, All-weaker, filter_passes}
use Rattle.chain_terms.specs.Chains.{all_edges, edges}
use Rattle.chain_terms.specs.Odd.{along}
use Rattle.chain_terms.specs.Paths.{last_of, path, round_edges}
use Rattle.chain_terms.specs.Sums.{total, upto}
use Rattle.chain_laws.specs.Sums.{total-append, total-flat_map, total-map, total-same_all}
use Rattle.chain_laws.proofs.Paths.{last_of-append, path-append, total-round_edges}
use Rattle.face_plane.specs.Planes.{point_at}
use Rattle.mesh_terms.specs.Meshes.{Triple}
use Rattle.sheet_terms.specs.Cuts.{are_in_line, cuts, is_in_box, is_inside, is_nearer, rim}
use Rattle.sheet_terms.specs.Faces.{Face, is_flat, rim_edges}
use Rattle.sheet_terms.specs.Places.{ordered, put}
use Rattle.sheet_laws.specs.Lines.{AddsAlongLines, SameOnLines}
use Rattle.sheet_laws.proofs.InLine.{Differ, InLine, corners_differ, differ_back, from_line, line_back, line_of, line_round, line_start, line_through}

-- what holds of members holds of them in order
pub All-put : {X : Type 0} (P : X → Type 0) (before : X → X → Bool) (x : X) (ys : List X) → P x → All P ys → All P (put before x ys)
All-put P before x [] here all = All-cons P x [] here (All-nil P)
All-put P before x (y ∷ ys) here all =
    let rest = All-put P before x ys here (All-tail P y ys all) in
    cond_both (before x y) (x ∷ y ∷ ys) (y ∷ put before x ys) (λ l. All P l) (λ t. All-cons P x (y ∷ ys) here all)
    (λ n. All-cons P y (put before x ys) (All-head P y ys all) rest)

pub All-ordered : {X : Type 0} (P : X → Type 0) (before : X → X → Bool) (xs : List X) → All P xs → All P (ordered before xs)
All-ordered P before [] all = all
All-ordered P before (x ∷ xs) all = All-put P before x (ordered before xs) (All-head P x xs all) (All-ordered P before xs (All-tail P x xs all))

-- sums do not change by the order
total-put : {X : Type 0} (g : X → ℤ) (before : X → X → Bool) (x : X) (ys : List X) → total g (put before x ys) ≡ g x +ℤ total g ys
total-put g before x [] = refl
total-put g before x (y ∷ ys) =
    let rest = total-put g before x ys in
    cond_both (before x y) (x ∷ y ∷ ys) (y ∷ put before x ys) (λ l. total g l ≡ g x +ℤ (g y +ℤ total g ys)) (λ t. refl) (λ n. omega (arith, ints, rest))

pub total-ordered : {X : Type 0} (g : X → ℤ) (before : X → X → Bool) (xs : List X) → total g (ordered before xs) ≡ total g xs
total-ordered g before [] = refl
total-ordered g before (x ∷ xs) = omega (arith, ints, total-put g before x (ordered before xs), total-ordered g before xs)

-- a step after a path
one_more : (g : (ℕ × ℕ) → ℤ) (x : ℕ) (vs : List ℕ) (y : ℕ) (r : List ℕ) → total g (path x (vs ++ y ∷ r)) ≡ total g (path x (vs ++ y ∷ [])) +ℤ total g (path y r)
one_more g x vs y r =
    omega (
      arith,
      ints,
      ap (total g) (path-append x vs y r),
      ap (total g) (path-append x vs y []),
      total-append g (path x vs) ((last_of x vs, y) ∷ path y r),
      total-append g (path x vs) ((last_of x vs, y) ∷ []),
    )

-- a sum once round three places with others between them
round_three : (g : (ℕ × ℕ) → ℤ) (a : ℕ) (xs : List ℕ) (b : ℕ) (ys : List ℕ) (c : ℕ) (zs : List ℕ) →
    total g (round_edges ((a ∷ xs) ++ (b ∷ ys) ++ (c ∷ zs))) ≡
    (total g (path a (xs ++ b ∷ [])) +ℤ total g (path b (ys ++ c ∷ []))) +ℤ total g (path c (zs ++ a ∷ []))
round_three g a xs b ys c zs =
    let r = xs ++ b ∷ (ys ++ c ∷ zs) in
    let last = last_of-append a xs b (ys ++ c ∷ zs) ∙ last_of-append b ys c zs in
    let whole : total g (round_edges ((a ∷ xs) ++ (b ∷ ys) ++ (c ∷ zs))) ≡ total g (path a r) +ℤ g (last_of a r, a) =
    ap (λ l. total g (round_edges l)) (append_assoc (a ∷ xs) (b ∷ ys) (c ∷ zs)) ∙ total-round_edges g a r in
    omega (
      arith,
      ints,
      whole,
      one_more g a xs b (ys ++ c ∷ zs),
      one_more g b ys c zs,
      ap (λ v. g (v, a)) last,
      ap (total g) (path-append c zs a []),
      total-append g (path c zs) ((last_of c zs, a) ∷ []),
    )

module _ (points : List (List ℤ)) (f : ℕ → ℕ → ℤ) (adds : AddsAlongLines points f) where
  abbrev at : ℕ → List ℤ
  at v = point_at points v

  -- a path along a line
  along_line : (a b : ℕ) → Differ (at a) (at b) → (s : ℕ) → InLine (at a) (at b) (at s) → (vs : List ℕ) → All (λ v. InLine (at a) (at b) (at v)) vs →
      total (along f) (path s (vs ++ b ∷ [])) ≡ f s b
  along_line a b some s on [] all = omega (arith, ints)
  along_line a b some s on (v ∷ vs) all =
      let here : InLine (at a) (at b) (at v) = All-head (λ (w : ℕ). InLine (at a) (at b) (at w)) v vs all in
      let rest = along_line a b some v here vs (All-tail (λ (w : ℕ). InLine (at a) (at b) (at w)) v vs all) in
      let through =
      line_through (at b) (at a) (at s) (at v) (differ_back (at a) (at b) some)
      (line_round (at s) (at b) (at a) (line_back (at a) (at b) (at s) on)) (line_round (at v) (at b) (at a) (line_back (at a) (at b) (at v) here)) in
      omega (arith, ints, rest, adds.adds s v b (from_line (at s) (at v) (at b) (line_round (at b) (at s) (at v) through)))

  -- along an edge with its cuts
  along_cuts : (a b : ℕ) → Differ (at a) (at b) → total (along f) (path a (cuts points a b ++ b ∷ [])) ≡ f a b
  along_cuts a b some =
      let on : ℕ → Type 0 = λ v. InLine (at a) (at b) (at v) in
      let inside = filter_passes (is_inside points a b) (upto (length points)) in
      let lines =
      All-weaker (λ v. is_inside points a b v ≡ true) on
      (λ v h. line_of (at a) (at b) (at v) (and_parts (not (v == a) && not (v == b) && is_in_box (at a) (at b) (at v)) (are_in_line (at a) (at b) (at v)) h).1)
      (filter (is_inside points a b) (upto (length points))) inside in
      along_line a b some a (line_round (at a) (at a) (at b) (line_start (at a) (at b))) (cuts points a b)
      (All-ordered on (is_nearer points a b) (filter (is_inside points a b) (upto (length points))) lines)

  -- round a rim
  round_rim : (t : Triple) → is_flat points t ≡ false → total (along f) (round_edges (rim points t)) ≡ total (along f) (edges t)
  round_rim t bent =
      let a = t.0 in
      let b = t.1 in
      let c = t.2 in
      let bent_b = not_in_line (at a) (at b) (at c) bent in
      let bent_c = not_in_line (at b) (at c) (at a) bent_b in
      omega (
        arith,
        ints,
        round_three (along f) a (cuts points a b) b (cuts points b c) c (cuts points c a),
        along_cuts a b (corners_differ (at a) (at b) (at c) bent),
        along_cuts b c (corners_differ (at b) (at c) (at a) bent_b),
        along_cuts c a (corners_differ (at c) (at a) (at b) bent_c),
      )
    where
      not_in_line : (p q r : List ℤ) → are_in_line p q r ≡ false → are_in_line q r p ≡ false
      not_in_line p q r h =
          false_from_ne_true (are_in_line q r p)
          (λ y. both_ways (are_in_line p q r) h (from_line p q r (line_round r p q (line_round q r p (line_of q r p y)))))

-- a triangle that has its rim and is not flat
pub record IsCut (points : List (List ℤ)) (f : Face) : Type 0 where
  pub rimmed : f.rim ≡ rim points f.corners
  pub bent : is_flat points f.corners ≡ false

-- the rims of such triangles are their edges, but for the cuts
pub rims_on_lines : (points : List (List ℤ)) (fs : List Face) → All (IsCut points) fs → SameOnLines points (rim_edges fs) (all_edges (map (λ f. f.corners) fs))
rims_on_lines points fs all f adds =
    total-flat_map (along f) (λ g. round_edges g.rim) fs
    ∙ total-same_all (λ g. total (along f) (round_edges g.rim)) (λ g. total (along f) (edges g.corners)) fs
    (All-weaker (IsCut points) (λ g. total (along f) (round_edges g.rim) ≡ total (along f) (edges g.corners))
    (λ g cut. ap (λ r. total (along f) (round_edges r)) cut.rimmed ∙ round_rim points f adds g.corners cut.bent) fs all)
    ∙ sym (total-map (λ t. total (along f) (edges t)) (λ (g : Face). g.corners) fs) ∙ sym (total-flat_map (along f) edges (map (λ (g : Face). g.corners) fs))
