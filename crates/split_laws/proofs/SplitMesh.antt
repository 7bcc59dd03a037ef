-- A closed mesh with one vertex for each fan: accepted, clean, at points of the old one, with its twins, and not much longer.
use Rattle.std.proofs.Common.{◌≡◌, ◌<◌, ◌≤◌, ◌*◌, ℕ, ℤ, List, [], length, get_or, map, sym, ◌∙◌, ap, subst, arith}
use Rattle.std.specs.List.{All}
use Rattle.std.proofs.lemmas.List.{get_or-map, length-map}
use Rattle.chain_terms.specs.Chains.{all_edges}
use Rattle.chain_terms.specs.Ranks.{start}
use Rattle.chain_terms.specs.Sums.{upto}
use Rattle.mesh_terms.specs.Meshes.{IsAccepted, Triple}
use Rattle.mesh_terms.specs.Points.{IsPoint}
use Rattle.mesh_terms.specs.Twins.{twins_of}
use Rattle.halfedge.specs.Clean.{IsClean}
use Rattle.halfedge.proofs.Edges.{length-all_edges}
use Rattle.pinch_split.specs.Back.{ComeFrom, named_by}
use Rattle.pinch_split.specs.Given.{corners, points_of, starts_of}
use Rattle.pinch_split.specs.Split.{all_fans, fan_of, split_from, split_points, split_triples}
use Rattle.pinch_split.proofs.Anew.{HasFans, closed_anew}
use Rattle.pinch_split.proofs.Back.{fans_come_from, triples_back}
use Rattle.pinch_split.proofs.Clean.{clean_anew, few_fans}
use Rattle.pinch_split.proofs.Corners.{length-corners}
use Rattle.pinch_split.proofs.FanLists.{corners_are_split, starts_are_from}
use Rattle.pinch_split.proofs.TwinsStay.{twins_stay}
use Rattle.pinch_split.proofs.Whole.{mesh_anew, starts_below}
use Rattle.split_laws.proofs.FanNumbers.{has_listed_fans}

-- what a split mesh is
pub record IsSplit (points : List (List ℤ)) (ts : List Triple) : Type 0 where
  pub accepted : IsAccepted (length (split_points points ts)) (split_triples (length points) ts)
  pub few : 2 * length (split_points points ts) ≤ 3 * length ts
  pub as_many : length (split_triples (length points) ts) ≡ length ts
  pub on_grid : All IsPoint points → All IsPoint (split_points points ts)
  pub clean : IsClean (all_edges (split_triples (length points) ts))
  pub twins : twins_of (split_triples (length points) ts) ≡ twins_of ts
  pub from : ComeFrom (split_points points ts) points (split_from (length points) ts)
  pub back : map (named_by (split_from (length points) ts)) (split_triples (length points) ts) ≡ ts

module _ (points : List (List ℤ)) (ts : List Triple) (accepted : IsAccepted (length points) ts) where
  abbrev first : List ℕ
  first = all_fans (length points) (all_edges ts)

  abbrev of : List ℕ
  of = map (fan_of (length points) (all_edges ts)) (upto (length (all_edges ts)))

  known : HasFans ts of first
  known = has_listed_fans (length points) ts accepted

  same : corners of (length ts) ≡ split_triples (length points) ts
  same = corners_are_split (length points) ts of first accepted known

  same_from : starts_of ts first ≡ split_from (length points) ts
  same_from = starts_are_from (length points) ts of first accepted known

  -- as many points as fans
  count : length (split_points points ts) ≡ length first
  count = length-map (split_from (length points) ts) (λ v. get_or points v []) ∙ length-map first (start (all_edges ts))

  -- each vertex comes from one of the old ones
  from_below : All (λ v. v < length points) (split_from (length points) ts)
  from_below = starts_below (length points) ts of first accepted known

  -- and lies at its point
  lies_there : All IsPoint points → All IsPoint (split_points points ts)
  lies_there on i d low =
      let from = split_from (length points) ts in
      let inside : i < length from = omega (arith, low, length-map from (λ v. get_or points v [])) in
      let v = get_or from i 0 in
      subst IsPoint (sym (get_or-map (λ w. get_or points w []) from i 0 d inside)) (on v [] (from_below i 0 inside))

  pub is_split : IsSplit points ts
  is_split = record {
    accepted = subst (λ n. IsAccepted n (split_triples (length points) ts)) (sym count)
        (subst (IsAccepted (length first)) same (record { mesh = mesh_anew (length points) ts of first accepted known; closed = closed_anew ts of first known }));
    few = omega (arith, count, few_fans ts of first known, length-all_edges ts);
    as_many = ap length (sym same) ∙ length-corners (λ h. get_or of h 0) (length ts);
    on_grid = lies_there;
    clean = subst (λ l. IsClean (all_edges l)) same (clean_anew ts of first known);
    twins = subst (λ l. twins_of l ≡ twins_of ts) same (twins_stay ts of first known);
    from = subst (λ f. ComeFrom (points_of points f) points f) same_from (fans_come_from points ts of first accepted known);
    back = subst (λ f. map (named_by f) (split_triples (length points) ts) ≡ ts) same_from
        (subst (λ l. map (named_by (starts_of ts first)) l ≡ ts) same (triples_back ts of first known));
  }
