use Rattle.std.proofs.Common.{◌≡◌, ◌<◌, ◌≤◌, ◌+◌, ◌++◌, ◌==◌, ℕ, ℤ, [], List, get_or, length, map, nat_abs, refl, sym, ap, subst, ◌∙◌, arith}
use Rattle.std.specs.List.{All}
use Rattle.std.proofs.lemmas.List.Elements.{All-weaker}
use Rattle.chain_terms.specs.Sums.{upto}
use Rattle.outline_terms.proofs.Edges.{edges_between, edges_long}
use Rattle.outline_pair_terms.specs.Numbers.{FlatNumbers}
use Rattle.outline_pair_terms.specs.declared.FlatHit.{FlatHit}
use Rattle.outline_terms.specs.Outlines.{IsBetween, most_vertices, outline_edges}
use Rattle.outlines.proofs.Written.{value_at, values_long}
use Rattle.cross_section.specs.Copies.{end_list, entering, hit_number, leaving, repeated, start_list}
use Rattle.cross_section.specs.declared.operand.Operand.TheVariants.{P, Q}
use Rattle.cross_section.proofs.Copied.{hit_ends, hit_starts, joined_parts, vertex_lists, vertex_points}
use Rattle.cross_section.proofs.Sizes.{places_within}
use Rattle.cross_section.proofs.copies.copies_of.Goals as goal

-- edges between the points of an outline, as they were handed in
between : (points all : List (List ℤ)) (edges es : List (ℕ × ℕ)) → points ≡ all → edges ≡ es → All (IsBetween (length all)) es → All (IsBetween (length points)) edges
between points all edges es e f h = subst (λ (x : List (List ℤ) × List (ℕ × ℕ)). All (IsBetween (length x.0)) x.1) (λ i. (sym e i, sym f i)) h

pub places_on-requires-clause-between : goal.places_on-requires-clause-between
places_on-requires-clause-between c =
    between c.points-p_points.result.now c.args.p.now.points c.args.p_edges.now (outline_edges c.args.p.now)
    c.points-p_points.ensures.value c.requires.p_edges (edges_between c.args.p.now c.points-p_points.ensures.outline)

pub places_on-requires-clause-few : goal.places_on-requires-clause-few
places_on-requires-clause-few c = omega (arith, ap length c.requires.p_edges, edges_long c.args.p.now c.points-p_points.ensures.outline, c.points-p_points.ensures.outline.few)

pub places_on-requires-2-clause-between : goal.places_on-requires-2-clause-between
places_on-requires-2-clause-between c =
    between c.points-q_points.result.now c.args.q.now.points c.args.q_edges.now (outline_edges c.args.q.now)
    c.points-q_points.ensures.value c.requires.q_edges (edges_between c.args.q.now c.points-q_points.ensures.outline)

pub places_on-requires-2-clause-few : goal.places_on-requires-2-clause-few
places_on-requires-2-clause-few c = omega (arith, ap length c.requires.q_edges, edges_long c.args.q.now c.points-q_points.ensures.outline, c.points-q_points.ensures.outline.few)

pub push_vertices-requires-clause-fit : goal.push_vertices-requires-clause-fit
push_vertices-requires-clause-fit c = record {
  windings =
      omega (
        arith,
        ap length (c.deref.ensures.value ∙ ap (λ (x : FlatNumbers). x.w02) c.numbers.view_is),
        c.requires.numbers.w02_long,
        ap length c.points-p_points.ensures.value,
      );
  small = subst (All (λ w. nat_abs w ≤ most_vertices)) (sym (c.deref.ensures.value ∙ ap (λ (x : FlatNumbers). x.w02) c.numbers.view_is)) c.requires.numbers.w02_small;
  starts = ap length c.in_ok-p_places.ensures.leaving ∙ values_long (leaving c.args.p_edges.now) (length c.points-p_points.result.now);
  ends = ap length c.in_ok-p_places.ensures.entering ∙ values_long (entering c.args.p_edges.now) (length c.points-p_points.result.now);
  starts_below =
      let few : length c.args.p_edges.now ≤ most_vertices
      = omega (arith, ap length c.requires.p_edges, edges_long c.args.p.now c.points-p_points.ensures.outline, c.points-p_points.ensures.outline.few) in
      subst (All (λ k. k ≤ most_vertices)) (sym c.in_ok-p_places.ensures.leaving)
      (places_within (λ v (e : ℕ × ℕ). e.0 == v) c.args.p_edges.now (length c.points-p_points.result.now) most_vertices few);
  ends_below =
      let few : length c.args.p_edges.now ≤ most_vertices
      = omega (arith, ap length c.requires.p_edges, edges_long c.args.p.now c.points-p_points.ensures.outline, c.points-p_points.ensures.outline.few) in
      subst (All (λ k. k ≤ most_vertices)) (sym c.in_ok-p_places.ensures.entering)
      (places_within (λ v (e : ℕ × ℕ). e.1 == v) c.args.p_edges.now (length c.points-p_points.result.now) most_vertices few);
}

pub overflow_cast-first : goal.overflow_cast-first
overflow_cast-first c = omega (arith, ap length c.requires.p_edges, edges_long c.args.p.now c.points-p_points.ensures.outline, c.points-p_points.ensures.outline.few)

pub push_vertices-requires-2-clause-few : goal.push_vertices-requires-2-clause-few
push_vertices-requires-2-clause-few c
    = omega (arith, ap length c.requires.p_edges, edges_long c.args.p.now c.points-p_points.ensures.outline, c.points-p_points.ensures.outline.few)

pub push_hits-requires-clause-few : goal.push_hits-requires-clause-few
push_hits-requires-clause-few c = omega (arith, ap length c.requires.p_edges, edges_long c.args.p.now c.points-p_points.ensures.outline, c.points-p_points.ensures.outline.few)

pub push_vertices-requires-2-clause-fit : goal.push_vertices-requires-2-clause-fit
push_vertices-requires-2-clause-fit c = record {
  windings =
      omega (
        arith,
        ap length (c.deref-2.ensures.value ∙ ap (λ (x : FlatNumbers). x.w20) c.numbers.view_is),
        c.requires.numbers.w20_long,
        ap length c.points-q_points.ensures.value,
      );
  small = subst (All (λ w. nat_abs w ≤ most_vertices)) (sym (c.deref-2.ensures.value ∙ ap (λ (x : FlatNumbers). x.w20) c.numbers.view_is)) c.requires.numbers.w20_small;
  starts = ap length c.in_ok-q_places.ensures.leaving ∙ values_long (leaving c.args.q_edges.now) (length c.points-q_points.result.now);
  ends = ap length c.in_ok-q_places.ensures.entering ∙ values_long (entering c.args.q_edges.now) (length c.points-q_points.result.now);
  starts_below =
      let few : length c.args.q_edges.now ≤ most_vertices
      = omega (arith, ap length c.requires.q_edges, edges_long c.args.q.now c.points-q_points.ensures.outline, c.points-q_points.ensures.outline.few) in
      subst (All (λ k. k ≤ most_vertices)) (sym c.in_ok-q_places.ensures.leaving)
      (places_within (λ v (e : ℕ × ℕ). e.0 == v) c.args.q_edges.now (length c.points-q_points.result.now) most_vertices few);
  ends_below =
      let few : length c.args.q_edges.now ≤ most_vertices
      = omega (arith, ap length c.requires.q_edges, edges_long c.args.q.now c.points-q_points.ensures.outline, c.points-q_points.ensures.outline.few) in
      subst (All (λ k. k ≤ most_vertices)) (sym c.in_ok-q_places.ensures.entering)
      (places_within (λ v (e : ℕ × ℕ). e.1 == v) c.args.q_edges.now (length c.points-q_points.result.now) most_vertices few);
}

pub push_hits-requires-clause-small : goal.push_hits-requires-clause-small
push_hits-requires-clause-small c
    = subst (All (λ (h : FlatHit). nat_abs h.number ≤ 1)) (sym (c.deref-3.ensures.value ∙ ap (λ (x : FlatNumbers). x.hits) c.numbers.view_is)) c.requires.numbers.small

pub push_hits-requires-clause-below : goal.push_hits-requires-clause-below
push_hits-requires-clause-below c =
    let q = c.args.q.now in
    let few : length (outline_edges q) ≤ most_vertices = omega (arith, edges_long q c.points-q_points.ensures.outline, c.points-q_points.ensures.outline.few) in
    subst (All (λ (h : FlatHit). h.q_edge < most_vertices)) (sym (c.deref-3.ensures.value ∙ ap (λ (x : FlatNumbers). x.hits) c.numbers.view_is))
    (All-weaker (λ (h : FlatHit). h.q_edge < length (outline_edges q))
    (λ h. h.q_edge < most_vertices) (λ h low. omega (arith, low, few)) c.args.numbers.now.hits c.requires.numbers.on_q)

-- the place of a vertex, in a list that was handed in
placed : (f : ℕ → ℕ) (n m : ℕ) (items : List ℕ) → items ≡ map f (upto n) → n ≡ m → (v : ℕ) → v < m → get_or items v 0 ≡ f v
placed f n m items is e v low = ap (λ l. get_or l v 0) is ∙ value_at f n v 0 (omega (arith, low, e))

-- what the copies of the vertices of one outline and the other and of the hits add
all_parts : {Y : Type 0} (before one two three p q h : List Y) → before ≡ [] → one ≡ before ++ p → two ≡ one ++ q → three ≡ two ++ h → three ≡ (p ++ q) ++ h
all_parts before one two three p q h e f g k = k ∙ ap (λ l. l ++ h) (g ∙ ap (λ l. l ++ q) (f ∙ ap (λ l. l ++ p) e))

pub returns : goal.returns
returns c =
    let op = c.args.op in
    let p = c.args.p.now in
    let q = c.args.q.now in
    let n = c.args.numbers.now in
    let es = c.args.p_edges.now in
    let fs = c.args.q_edges.now in
    let ws = c.deref.result.now in
    let vs = c.deref-2.result.now in
    let ps = c.points-p_points.result.now in
    let qs = c.points-q_points.result.now in
    let here = c.in_ok-p_places.p_places in
    let there = c.in_ok-q_places.q_places in
    let w02 = c.deref.ensures.value ∙ ap (λ (x : FlatNumbers). x.w02) c.numbers.view_is in
    let w20 = c.deref-2.ensures.value ∙ ap (λ (x : FlatNumbers). x.w20) c.numbers.view_is in
    let hits = c.deref-3.ensures.value ∙ ap (λ (x : FlatNumbers). x.hits) c.numbers.view_is in
    let many = ap length c.points-p_points.ensures.value in
    let others = ap length c.points-q_points.ensures.value in
    let first : (v : ℕ) → v < length p.points → 0 + get_or here.leaving.items v 0 ≡ leaving es v
    = λ v low. omega (arith, placed (leaving es) (length ps) (length p.points) here.leaving.items c.in_ok-p_places.ensures.leaving many v low) in
    let last : (v : ℕ) → v < length p.points → 0 + get_or here.entering.items v 0 ≡ entering es v
    = λ v low. omega (arith, placed (entering es) (length ps) (length p.points) here.entering.items c.in_ok-p_places.ensures.entering many v low) in
    let next : (v : ℕ) → v < length q.points → length es + get_or there.leaving.items v 0 ≡ length es + leaving fs v = λ v low. ap
    (λ k. length es + k) (placed (leaving fs) (length qs) (length q.points) there.leaving.items c.in_ok-q_places.ensures.leaving others v low) in
    let back : (v : ℕ) → v < length q.points → length es + get_or there.entering.items v 0 ≡ length es + entering fs v = λ v low. ap
    (λ k. length es + k) (placed (entering fs) (length qs) (length q.points) there.entering.items c.in_ok-q_places.ensures.entering others v low) in
    record {
      points = all_parts _ _ _ _ _ _ _ c.new.ensures.items c.in_ok-push_vertices.ensures.points c.in_ok-push_vertices-2.ensures.points c.in_ok-push_hits.ensures.points
          ∙ joined_parts op p q n (λ k. k.point) _ _ _ (vertex_points op P ws n.w02 ps p.points w02 c.points-p_points.ensures.value)
          (vertex_points op Q vs n.w20 qs q.points w20 c.points-q_points.ensures.value)
          (ap (repeated (λ (h : FlatHit). hit_number op h.number) (λ h. h.at)) hits);
      starts = all_parts _ _ _ _ _ _ _ c.new-2.ensures.items c.in_ok-push_vertices.ensures.starts c.in_ok-push_vertices-2.ensures.starts c.in_ok-push_hits.ensures.starts
          ∙ joined_parts op p q n (start_list es fs) _ _ _
          (vertex_lists op P ws n.w02 (length ps) (length p.points) (λ v. 0 + get_or here.leaving.items v 0)
          (λ v. 0 + get_or here.entering.items v 0) (leaving es) (entering es) w02 many first last)
          (vertex_lists op Q vs n.w20 (length qs) (length q.points) (λ v. length es + get_or there.leaving.items v 0)
          (λ v. length es + get_or there.entering.items v 0) (λ v. length es + leaving fs v) (λ v. length es + entering fs v) w20 others next back)
          (hit_starts op c.deref-3.result.now n.hits (length es) (length es) hits refl);
      ends = all_parts _ _ _ _ _ _ _ c.new-3.ensures.items c.in_ok-push_vertices.ensures.ends c.in_ok-push_vertices-2.ensures.ends c.in_ok-push_hits.ensures.ends
          ∙ joined_parts op p q n (end_list es fs) _ _ _
          (vertex_lists op P ws n.w02 (length ps) (length p.points) (λ v. 0 + get_or here.entering.items v 0)
          (λ v. 0 + get_or here.leaving.items v 0) (entering es) (leaving es) w02 many last first)
          (vertex_lists op Q vs n.w20 (length qs) (length q.points) (λ v. length es + get_or there.entering.items v 0)
          (λ v. length es + get_or there.leaving.items v 0) (λ v. length es + entering fs v) (λ v. length es + leaving fs v) w20 others back next)
          (hit_ends op c.deref-3.result.now n.hits (length es) (length es) hits refl);
    }
