-- A surface of all triangles of a mesh: each is left, under its own number, and the stars and twins are those of the mesh.
use Rattle.std.proofs.Common.{◌≡◌, ◌*◌, ◌/◌, ◌<◌, ℕ, Bool, true, false, List, [], ◌∷◌, ◌++◌, length, get_or, refl, sym, ap, subst, ◌∙◌, arith}
use Rattle.std.specs.Prelude.{cond}
use Rattle.std.specs.List.{All}
use Rattle.std.proofs.lemmas.List.Elements.{All-head, All-tail}
use Rattle.chain_terms.specs.Chains.{all_edges, IsClosed}
use Rattle.chain_terms.specs.Ranks.{twin}
use Rattle.chain_laws.proofs.Twins.{twin_runs_back}
use Rattle.halfedge.proofs.Edges.{length-all_edges}
use Rattle.halfedge.proofs.Listed.{length-twins, twin_listed}
use Rattle.mesh_check.specs.Reduced.{picked}
use Rattle.mesh_terms.specs.Meshes.{HasThree, IsAccepted, Triple}
use Rattle.mesh_terms.specs.Twins.{IsTwinned}
use Rattle.mesh_tidy.specs.Stars.{stars_of}
use Rattle.mesh_tidy.specs.TidySurface.{TidySurface, Has, IsKept, IsTwin, left_of, number_of}
use Rattle.mesh_tidy.proofs.Doubted.{whole_number}
use Rattle.mesh_tidy.proofs.Starring.{length-stars_to, stars_stand, stars_within}

-- where each has a mark, all are picked
pub picked_true : {X : Type 0} (ms : List Bool) (xs : List X) → length ms ≡ length xs → All (λ m. m ≡ true) ms → picked ms xs ≡ xs
picked_true [] [] same all = refl
picked_true [] (x ∷ xs) same all = absurd (omega (arith, same))
picked_true (m ∷ ms) [] same all = refl
picked_true (m ∷ ms) (x ∷ xs) same all =
    ap (λ b. cond b (x ∷ []) [] ++ picked ms xs) (All-head (λ n. n ≡ true) m ms all) ∙ ap (λ l. x ∷ l) (picked_true ms xs (omega (arith, same)) (All-tail (λ n. n ≡ true) m ms all))

-- triangles of which each is left
module _ (n : ℕ) (ts : List Triple) (accepted : IsAccepted n ts) (marks : List Bool) (count : length marks ≡ length ts) (all : All (λ m. m ≡ true) marks) where
  abbrev pub whole : TidySurface
  whole = record { triples = ts; left = marks; vertices = n }

  pub whole_left : left_of whole ≡ ts
  whole_left = picked_true marks ts count all

  -- with the twins of the mesh
  module _ (tw : List ℕ) (twinned : IsTwinned ts tw) where
    has : (h : ℕ) → h < 3 * length ts → Has whole h
    has h low = (low, all (h / 3) false (omega (arith, low, count)))

    twins : (h : ℕ) → Has whole h → IsTwin whole h (get_or tw h 0)
    twins h here = record { there = has g g_low; is = is } where
      g : ℕ
      g = get_or tw h 0

      listed : g ≡ twin (all_edges ts) h
      listed = twin_listed ts tw twinned h 0 here.0

      g_low : g < 3 * length ts
      g_low = omega (arith, listed, (twin_runs_back (all_edges ts) accepted.closed h (omega (arith, here.0, length-all_edges ts))).within, length-all_edges ts)

      is : twin (all_edges (left_of whole)) (number_of whole h) ≡ number_of whole g
      is = (λ i. twin (all_edges (whole_left i)) (whole_number whole count all h here.0 i)) ∙ sym listed ∙ sym (whole_number whole count all g g_low)

    -- the surface keeps what its type says
    pub whole_kept : IsKept whole tw (stars_of n (all_edges ts))
    whole_kept = record {
      marks = count;
      few = accepted.mesh.few_triples;
      below = accepted.mesh.below;
      three = subst (All HasThree) (sym whole_left) accepted.mesh.three;
      closed = subst (λ l. IsClosed (all_edges l)) (sym whole_left) accepted.closed;
      full = length-twins ts tw twinned;
      twins = twins;
      within = stars_within n (all_edges ts) (3 * length ts) (length-all_edges ts);
      stand = λ h here. stars_stand n (all_edges ts) h (omega (arith, here.0, length-all_edges ts));
    }

-- the same for the lists as they are made: from the triangles of a mesh, with stars in a list
pub made_kept : (n : ℕ) (us ts : List Triple) → IsAccepted n us → ts ≡ us → (marks : List Bool) → length marks ≡ length ts → All (λ m. m ≡ true) marks →
    (tw : List ℕ) → IsTwinned us tw → (stars : List (List ℕ)) →
    stars ≡ stars_of n (all_edges ts) → IsKept (record { triples = ts; left = marks; vertices = length stars }) tw stars
made_kept n us ts accepted same marks count all tw twinned stars is =
    let size : n ≡ length stars = sym (ap length is ∙ length-stars_to n (all_edges ts) (length (all_edges ts))) in
    let kept = whole_kept n ts (subst (IsAccepted n) (sym same) accepted) marks count all tw (subst (λ l. IsTwinned l tw) (sym same) twinned) in
    subst (λ st. IsKept (record { triples = ts; left = marks; vertices = length stars }) tw st) (sym is)
    (subst (λ k. IsKept (record { triples = ts; left = marks; vertices = k }) tw (stars_of n (all_edges ts))) size kept)
