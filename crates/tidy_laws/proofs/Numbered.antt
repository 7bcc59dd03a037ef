-- Triangles with the numbers that their vertices have once the unused points are gone.
use Rattle.std.proofs.Common.{◌≡◌, ℕ, ◌*◌, ◌<◌, ◌⊎◌, inl, inr, true, ℤ, List, [], ◌∷◌, length, map, get_or, refl, sym, ap, ◌∙◌, arith}
use Rattle.std.specs.List.{All}
use Rattle.std.proofs.lemmas.Int.{ints}
use Rattle.std.proofs.lemmas.List.{get_or_default, length-map}
use Rattle.std.proofs.lemmas.List.Elements.{All-head, All-tail}
use Rattle.chain_terms.specs.Chains.{all_edges, dir, one_if, IsClosed}
use Rattle.chain_terms.specs.Ranks.{start, finish, twin}
use Rattle.chain_laws.specs.Counts.{count_by-cons}
use Rattle.chain_laws.specs.Triples.{renamed_triple, all_edges-renamed, closed-renamed_triples}
use Rattle.chain_laws.proofs.Twins.{twin_runs_back}
use Rattle.halfedge.specs.Clean.{IsClean}
use Rattle.halfedge.proofs.Edges.{length-all_edges, next_below, next_starts}
use Rattle.mesh_check.specs.Opposites.{third_vertex}
use Rattle.mesh_terms.specs.Halves.{next_half}
use Rattle.mesh_terms.specs.Meshes.{HasThree, IsBelow, IsMesh, Triple, is_used, new_number, renumbered, used_from}
use Rattle.mesh_terms.specs.Volume.{determinant, triangle_determinant, volume6_of}
use Rattle.tidy_terms.specs.Collapsible.{is_collapsible}
use Rattle.tidy_terms.specs.PointTriples.{count_at, is_at, lies_round, same_point}
use Rattle.tidy_laws.specs.Conditions.{CanCollapse}
use Rattle.tidy_laws.proofs.Back.{can_back}
use Rattle.tidy_laws.proofs.KeptPoints.{kept_point}
use Rattle.tidy_laws.proofs.Near.{found}
use Rattle.tidy_laws.proofs.OneToOne.{BothIn, clean-renamed, dir-renamed, finish-renamed, start-renamed, twin-renamed}
use Rattle.tidy_laws.proofs.Tidying.{AreGood, are_met, can_of, finish_below, start_below}
use Rattle.tidy_laws.proofs.Used.{used_start}
use Rattle.unused_points.proofs.Numbers.{AreUsed, all_used, number_known}

module _ (points : List (List ℤ)) (ts : List Triple) (three : All HasThree ts) (closed : IsClosed (all_edges ts)) (below : All (IsBelow (length points)) ts) where
  abbrev pub es : List (ℕ × ℕ)
  es = all_edges ts

  abbrev pub r : ℕ → ℕ
  r = new_number ts

  -- in use
  abbrev pub U : ℕ → Type 0
  U v = is_used ts v ≡ true

  one : (u v : ℕ) → U u → U v → r u ≡ r v → u ≡ v
  one u v p q e = number_known ts u v p q e

  start_in : (h : ℕ) → h < length es → U (start es h)
  start_in h low = used_start ts h low

  finish_in : (h : ℕ) → h < length es → U (finish es h)
  finish_in h low = ap (is_used ts) (sym (next_starts ts h low)) ∙ used_start ts (next_half h) (next_below ts h low)

  both_in : All (BothIn U r one) es
  both_in k d low =
      let is = get_or_default es k d (0, 0) low in
      (ap (λ (e : ℕ × ℕ). is_used ts e.0) is ∙ start_in k low, ap (λ (e : ℕ × ℕ). is_used ts e.1) is ∙ finish_in k low)

  -- the triangles and points that the mesh has
  abbrev pub new : List Triple
  new = renumbered ts

  abbrev pub kept : List (List ℤ)
  kept = used_from ts 0 points

  edges_are : all_edges new ≡ map (λ e. (r e.0, r e.1)) es
  edges_are = all_edges-renamed r ts

  -- the point of a vertex in use
  at_point : (v : ℕ) → v < length points → U v → get_or kept (r v) [] ≡ get_or points v []
  at_point v low used = kept_point ts points v [] low used

  pub clean_numbered : IsClean es → IsClean (all_edges new)
  clean_numbered clean = clean-renamed U r one ts closed both_in clean

  pub closed_numbered : IsClosed (all_edges new)
  closed_numbered = closed-renamed_triples r ts closed

  -- a triangle lies where it lay
  det_new : (t : Triple) → AreUsed ts t → IsBelow (length points) t → triangle_determinant kept (renamed_triple r t) ≡ triangle_determinant points t
  det_new t used low =
      let x = at_point t.0 low.a used.a in
      let y = at_point t.1 low.b used.b in
      let z = at_point t.2 low.c used.c in
      λ i. determinant (x i) (y i) (z i)

  is_at_new : (ps : List ℤ × List ℤ × List ℤ) (t : Triple) → AreUsed ts t → IsBelow (length points) t → is_at kept ps (renamed_triple r t) ≡ is_at points ps t
  is_at_new ps t used low =
      let x = at_point t.0 low.a used.a in
      let y = at_point t.1 low.b used.b in
      let z = at_point t.2 low.c used.c in
      λ i. lies_round ps (x i) (y i) (z i)

  volume_of : (us : List Triple) → All (AreUsed ts) us → All (IsBelow (length points)) us → volume6_of kept (map (renamed_triple r) us) ≡ volume6_of points us
  volume_of [] used low = refl
  volume_of (u ∷ us) used low =
      omega (
        arith,
        ints,
        det_new u (All-head (AreUsed ts) u us used) (All-head (IsBelow (length points)) u us low),
        volume_of us (All-tail (AreUsed ts) u us used) (All-tail (IsBelow (length points)) u us low),
      )

  count_of : (ps : List ℤ × List ℤ × List ℤ) (us : List Triple) → All (AreUsed ts) us → All (IsBelow (length points)) us →
      count_at kept ps (map (renamed_triple r) us) ≡ count_at points ps us
  count_of ps [] used low = refl
  count_of ps (u ∷ us) used low =
      omega (
        arith,
        count_by-cons (is_at kept ps) (renamed_triple r u) (map (renamed_triple r) us),
        count_by-cons (is_at points ps) u us,
        ap one_if (is_at_new ps u (All-head (AreUsed ts) u us used) (All-head (IsBelow (length points)) u us low)),
        count_of ps us (All-tail (AreUsed ts) u us used) (All-tail (IsBelow (length points)) u us low),
      )

  pub volume_numbered : volume6_of kept new ≡ volume6_of points ts
  volume_numbered = volume_of ts (all_used ts) below

  pub count_numbered : (ps : List ℤ × List ℤ × List ℤ) → count_at kept ps new ≡ count_at points ps ts
  count_numbered ps = count_of ps ts (all_used ts) below

  starts_new : (h : ℕ) → h < length es → start (all_edges new) h ≡ r (start es h)
  starts_new h low = ap (λ ms. start ms h) edges_are ∙ start-renamed U r one es h low

  ends_new : (h : ℕ) → h < length es → finish (all_edges new) h ≡ r (finish es h)
  ends_new h low = ap (λ ms. finish ms h) edges_are ∙ finish-renamed U r one es h low

  twin_new : (h : ℕ) → h < length es → twin (all_edges new) h ≡ twin es h
  twin_new h low = ap (λ ms. twin ms h) edges_are ∙ twin-renamed U r one es both_in h low

  third_below : (h : ℕ) → h < length es → next_half (next_half h) < length es
  third_below h low = next_below ts (next_half h) (next_below ts h low)

  third_new : (h : ℕ) → h < length es → third_vertex new h ≡ r (third_vertex ts h)
  third_new h low = starts_new (next_half (next_half h)) (third_below h low)

  dir_new : (x y u v : ℕ) → u ≡ r x → v ≡ r y → U x → U y → dir (all_edges new) u v ≡ dir es x y
  dir_new x y u v e f p q = (λ i. dir (edges_are i) (e i) (f i)) ∙ dir-renamed U r one es both_in x y p q

  -- a half-edge that can be collapsed under the new numbers could be under the old ones
  module _ (mesh : IsMesh (length kept) new) (h : ℕ) (inside : h < length es) (can : is_collapsible kept new h ≡ true) where
    abbrev pub a : ℕ
    a = start es h

    abbrev pub b : ℕ
    b = finish es h

    abbrev pub g : ℕ
    g = twin es h

    abbrev pub c : ℕ
    c = third_vertex ts h

    abbrev pub d : ℕ
    d = third_vertex ts g

    g_low : g < length es
    g_low = (twin_runs_back es closed h inside).within

    a_new : start (all_edges new) h ≡ r a
    a_new = starts_new h inside

    b_new : finish (all_edges new) h ≡ r b
    b_new = ends_new h inside

    c_new : third_vertex new h ≡ r c
    c_new = third_new h inside

    d_new : third_vertex new (twin (all_edges new) h) ≡ r d
    d_new = ap (third_vertex new) (twin_new h inside) ∙ third_new g g_low

    a_in : U a
    a_in = start_in h inside

    b_in : U b
    b_in = finish_in h inside

    c_in : U c
    c_in = start_in (next_half (next_half h)) (third_below h inside)

    d_in : U d
    d_in = start_in (next_half (next_half g)) (third_below g g_low)

    good : AreGood (length kept) new
    good = record { three = mesh.three; closed = closed_numbered; below = mesh.below }

    low_new : h < 3 * length new
    low_new = omega (arith, inside, length-all_edges ts, length-map ts (renamed_triple r))

    after : CanCollapse new h (start (all_edges new) h) (finish (all_edges new) h) (third_vertex new h) (third_vertex new (twin (all_edges new) h))
    after = can_of kept new good h low_new can

    before : CanCollapse ts h a b c d
    before = record {
      three = three;
      closed = closed;
      below = inside;
      starts = refl;
      ends = refl;
      third = refl;
      across = refl;
      distinct = λ e. after.distinct (a_new ∙ ap r e ∙ sym b_new);
      differ = λ e. after.differ (c_new ∙ ap r e ∙ sym d_new);
      ab = sym (dir_new a b (start (all_edges new) h) (finish (all_edges new) h) a_new b_new a_in b_in) ∙ after.ab;
      ac = sym (dir_new a c (start (all_edges new) h) (third_vertex new h) a_new c_new a_in c_in) ∙ after.ac;
      ad = sym (dir_new a d (start (all_edges new) h) (third_vertex new (twin (all_edges new) h)) a_new d_new a_in d_in) ∙ after.ad;
      bc = sym (dir_new b c (finish (all_edges new) h) (third_vertex new h) b_new c_new b_in c_in) ∙ after.bc;
      bd = sym (dir_new b d (finish (all_edges new) h) (third_vertex new (twin (all_edges new) h)) b_new d_new b_in d_in) ∙ after.bd;
      only = λ v p q.
          let f = (found es a v p) in
          let v_in : U v = ap (is_used ts) (sym f.runs.to) ∙ finish_in f.place f.runs.low in
          let p_new : 0 < dir (all_edges new) (start (all_edges new) h) (r v) = omega (arith, p, dir_new a v (start (all_edges new) h) (r v) a_new refl a_in v_in) in
          let q_new : 0 < dir (all_edges new) (finish (all_edges new) h) (r v) = omega (arith, q, dir_new b v (finish (all_edges new) h) (r v) b_new refl b_in v_in) in
          elim (after.only (r v) p_new q_new) as (λ _. (v ≡ c) ⊎ (v ≡ d)) [
            | inl e ↦ inl (one v c v_in c_in (e ∙ c_new))
            | inr e ↦ inr (one v d v_in d_in (e ∙ d_new))
          ];
    }

    point_of_new : (u v : ℕ) → u ≡ r v → v < length points → U v → get_or kept u [] ≡ get_or points v []
    point_of_new u v e low used = ap (λ w. get_or kept w []) e ∙ at_point v low used

    at_one : same_point (get_or points a []) (get_or points b []) ≡ true
    at_one =
        let met = are_met kept (all_edges new) (start (all_edges new) h) (finish (all_edges new) h) (third_vertex new h) (third_vertex new (twin (all_edges new) h)) can in
        let p = point_of_new (start (all_edges new) h) a a_new (start_below (length points) ts below h inside) a_in in
        let q = point_of_new (finish (all_edges new) h) b b_new (finish_below (length points) ts below h inside) b_in in
        sym (λ i. same_point (p i) (q i)) ∙ met.at_one

    pub was_collapsible_numbered : is_collapsible points ts h ≡ true
    was_collapsible_numbered = can_back points ts h a b c d before at_one
