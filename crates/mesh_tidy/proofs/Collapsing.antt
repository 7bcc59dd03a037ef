-- A half-edge that is collapsed: its ends and its twin, as they are read.
use Rattle.std.proofs.Common.{◌≡◌, ◌≢◌, ℕ, ◌+◌, ◌*◌, ◌/◌, ◌<◌, List, [], ◌++◌, Vec, Global, length, get_or, set, refl, sym, ap, subst, ◌∙◌, arith, get_or-set_same}
use Rattle.std.specs.List.{All}
use Rattle.std.specs.Vec.{with_items}
use Rattle.std.proofs.lemmas.List.{length-set, with_items_is}
use Rattle.std.proofs.lemmas.List.Elements.{All-append, All-get_or}
use Rattle.chain_terms.specs.Chains.{all_edges}
use Rattle.chain_terms.specs.Ranks.{start, finish, twin}
use Rattle.chain_laws.proofs.Twins.{twin_runs_back}
use Rattle.mesh_terms.specs.Halves.{next_half, prev_half}
use Rattle.mesh_terms.specs.Meshes.{Triple, triples_of}
use Rattle.tidy_laws.specs.Conditions.{CanCollapse}
use Rattle.mesh_tidy.specs.Pairs.{paired}
use Rattle.mesh_tidy.specs.TidySurface.{TidySurface, Has, HasCollapsed, IsKept, IsRenamed, IsTwin, left_of, number_of}
use Rattle.mesh_tidy.proofs.Follow.{without}
use Rattle.mesh_tidy.proofs.Known.{start_known}
use Rattle.mesh_tidy.proofs.Left.{number_below, number_one, start_number}
use Rattle.mesh_tidy.proofs.NewStars.{joined}
use Rattle.mesh_tidy.proofs.NewTwins.{length-paired}
use Rattle.mesh_tidy.proofs.NewSurface.{bd_in, da_in, has_collapsed, new_kept, new_twins_list, pairs_are}

-- the star that is joined holds what both held
pub low_joined : (stars : List (List ℕ)) (a b n : ℕ) → a < length stars → b < length stars → All (All (λ x. x < n)) stars → All (λ x. x < n) (get_or (joined stars a b) a [])
low_joined stars a b n a_low b_low within =
    subst (All (λ x. x < n)) (sym (get_or-set_same (set stars b []) a (get_or stars a [] ++ get_or stars b []) [] (omega (arith, a_low, length-set stars b []))))
    (All-append (λ x. x < n) (get_or stars a []) (get_or stars b []) (All-get_or (All (λ x. x < n)) stars a [] a_low within)
    (All-get_or (All (λ x. x < n)) stars b [] b_low within))

-- what was renamed, over lists that are the same
pub renamed_so : (xs ys : List (List ℕ)) (us : List Triple) (halves star : List ℕ) (old new : ℕ) → xs ≡ ys → halves ≡ star →
    IsRenamed (triples_of xs) us halves old new → IsRenamed (triples_of ys) us star old new
renamed_so xs ys us halves star old new p q renamed = subst (λ l. IsRenamed (triples_of ys) us l old new) q (subst (λ ts. IsRenamed (triples_of ts) us halves old new) p renamed)

-- the first pair, in a vector that takes it over
pub first_pair_is : (twins : Vec ℕ Global) (read put one : List ℕ) (h : ℕ) → read ≡ twins.items →
    put ≡ paired read (get_or read (next_half h) 0) (get_or read (prev_half h) 0) → one ≡ (with_items twins put).items →
    one ≡ paired twins.items (get_or twins.items (next_half h) 0) (get_or twins.items (prev_half h) 0)
first_pair_is twins read put one h e f g =
    let full : length put ≡ twins.len = omega (arith, ap length f, length-paired read (get_or read (next_half h) 0) (get_or read (prev_half h) 0), ap length e, twins.ok.0) in
    g ∙ with_items_is twins put full ∙ f ∙ (λ i. paired (e i) (get_or (e i) (next_half h) 0) (get_or (e i) (prev_half h) 0))

-- a half-edge has one twin
pub twin_one : (s : TidySurface) (h x y : ℕ) → length s.left ≡ length s.triples → IsTwin s h x → IsTwin s h y → x ≡ y
twin_one s h x y marks p q = number_one s.left s.triples marks x y p.there q.there (sym p.is ∙ q.is)

-- a surface, a half-edge that can be collapsed, and its twin
module _ (s : TidySurface) (tw : List ℕ) (stars : List (List ℕ)) (kept : IsKept s tw stars) (h : ℕ) (h_has : Has s h) (a b c d : ℕ)
    (can : CanCollapse (left_of s) (number_of s h) a b c d) (g : ℕ) (pair : IsTwin s h g) where
  -- the twin stands in the list
  pub twin_listed : g ≡ get_or tw h 0
  twin_listed = twin_one s h g (get_or tw h 0) kept.marks pair (kept.twins h h_has)

  -- where both start
  pub first_end : start (all_edges s.triples) h ≡ a
  first_end = sym (start_number s.left s.triples h h_has) ∙ can.starts

  pub second_end : start (all_edges s.triples) g ≡ b
  second_end =
      sym (start_number s.left s.triples g pair.there) ∙ ap (start (all_edges (left_of s))) (sym pair.is)
      ∙ (twin_runs_back (all_edges (left_of s)) can.closed (number_of s h) (number_below s.left s.triples h h_has)).from ∙ can.ends

  -- with the ends as they are read
  pub can_read : (from to : ℕ) → from ≡ start (all_edges s.triples) h → to ≡ start (all_edges s.triples) g → CanCollapse (left_of s) (number_of s h) from to c d
  can_read from to p q =
      subst (λ x. CanCollapse (left_of s) (number_of s h) x to c d) (sym (p ∙ first_end))
      (subst (λ y. CanCollapse (left_of s) (number_of s h) a y c d) (sym (q ∙ second_end)) can)

  pub from_low : start (all_edges s.triples) h < s.vertices
  from_low = start_known s tw stars kept h h_has.0

  pub to_low : start (all_edges s.triples) g < s.vertices
  to_low = start_known s tw stars kept g pair.there.0

  -- the stars joined, and the triangles renamed
  module _ (size : length stars ≡ s.vertices) (from to : ℕ) (p : from ≡ start (all_edges s.triples) h) (q : to ≡ start (all_edges s.triples) g)
      (us : List Triple) (count : length us ≡ length s.triples)
      (renames : IsRenamed s.triples us (get_or (joined stars from to) from []) to from) where
    abbrev pub here : CanCollapse (left_of s) (number_of s h) from to c d
    here = can_read from to p q

    abbrev pub low_from : from < s.vertices
    low_from = omega (arith, p, from_low)

    abbrev pub low_to : to < s.vertices
    low_to = omega (arith, q, to_low)

    abbrev pub list : List ℕ
    list = new_twins_list s tw stars kept size h h_has from to c d here low_from low_to us count renames

    abbrev pub new : ℕ → ℕ → TidySurface
    new x n = record { triples = us; left = without s.left (h / 3) (x / 3); vertices = n }

    abbrev pub collapsed_surface : TidySurface
    collapsed_surface = new g (length (joined stars from to))

    many : s.vertices ≡ length (joined stars from to)
    many = sym (length-set (set stars to []) from (get_or stars from [] ++ get_or stars to []) ∙ length-set stars to [] ∙ size)

    read_new : (P : TidySurface → Type 0) → P (new (get_or tw h 0) s.vertices) → P collapsed_surface
    read_new P x = subst (λ y. P (new y (length (joined stars from to)))) (sym twin_listed) (subst (λ n. P (new (get_or tw h 0) n)) many x)

    pub follows_so : HasCollapsed s collapsed_surface h
    follows_so = read_new (λ v. HasCollapsed s v h) (has_collapsed s tw stars kept size h h_has from to c d here low_from low_to us count renames)

    -- the pairs of twins as they are written
    module _ (one : List ℕ) (is : one ≡ paired tw (get_or tw (next_half h) 0) (get_or tw (prev_half h) 0)) where
      pub next_in : get_or one (next_half g) 0 < length one
      next_in = subst (λ l. get_or l (next_half g) 0 < length l) (sym is)
          (subst (λ x. get_or (paired tw (get_or tw (next_half h) 0) (get_or tw (prev_half h) 0)) (next_half x) 0 < length
          (paired tw (get_or tw (next_half h) 0) (get_or tw (prev_half h) 0))) (sym twin_listed)
          (da_in s tw stars kept size h h_has from to c d here low_from low_to us count renames))

      pub prev_in : get_or one (prev_half g) 0 < length one
      prev_in = subst (λ l. get_or l (prev_half g) 0 < length l) (sym is)
          (subst (λ x. get_or (paired tw (get_or tw (next_half h) 0) (get_or tw (prev_half h) 0)) (prev_half x) 0 < length
          (paired tw (get_or tw (next_half h) 0) (get_or tw (prev_half h) 0))) (sym twin_listed)
          (bd_in s tw stars kept size h h_has from to c d here low_from low_to us count renames))

      pub kept_so : (two : List ℕ) → two ≡ paired one (get_or one (next_half g) 0) (get_or one (prev_half g) 0) → IsKept collapsed_surface two (joined stars from to)
      kept_so two then = subst (λ l. IsKept collapsed_surface l (joined stars from to))
          (sym (then ∙ at ∙ pairs_are s tw stars kept size h h_has from to c d here low_from low_to us count renames))
          (read_new (λ v. IsKept v list (joined stars from to)) (new_kept s tw stars kept size h h_has from to c d here low_from low_to us count renames))
        where
          at : paired one (get_or one (next_half g) 0) (get_or one (prev_half g) 0)
              ≡ paired (paired tw (get_or tw (next_half h) 0) (get_or tw (prev_half h) 0))
              (get_or (paired tw (get_or tw (next_half h) 0) (get_or tw (prev_half h) 0)) (next_half (get_or tw h 0)) 0)
              (get_or (paired tw (get_or tw (next_half h) 0) (get_or tw (prev_half h) 0)) (prev_half (get_or tw h 0)) 0)
          at = (λ i. paired (is i) (get_or (is i) (next_half (twin_listed i)) 0) (get_or (is i) (prev_half (twin_listed i)) 0))
