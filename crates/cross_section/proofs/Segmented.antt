-- The segments of all lists, list by list.
use Rattle.std.proofs.Common.{◌≡◌, ℕ, ℤ, zero, suc, ◌+◌, ◌<◌, List, [], ◌∷◌, ◌++◌, length, get_or, map, refl, sym, ap, subst, ◌∙◌, arith}
use Rattle.std.specs.List.{All, flat_map}
use Rattle.std.proofs.lemmas.List.{get_or-append-add, get_or_append_left, length-append}
use Rattle.std.proofs.lemmas.List.Concat.{flat_map-append}
use Rattle.std.proofs.lemmas.List.Elements.{All-map}
use Rattle.chain_terms.specs.Ranks.{finish, start}
use Rattle.chain_terms.specs.Sums.{upto}
use Rattle.places_by_key.specs.Buckets.{places_of}
use Rattle.edge_pairing.specs.Entries.{place_in}
use Rattle.edge_pairing.specs.Pairing.{pair_up, paired_along, scalar_product, step}
use Rattle.outlines.proofs.Written.{value_at, values_long}
use Rattle.face_loops.specs.Standings.{AreEven, ends_in, segments_in, starts_in}
use Rattle.outline_pair_terms.specs.Laws.{IsOfBoth}
use Rattle.outline_pair_terms.specs.Lists.{EdgeP, EdgeQ, FlatCopy, FlatList, flat_key, flat_lists, flat_segments, flat_standing, no_flat_copy}
use Rattle.outline_terms.specs.Outlines.{IsOutline, Outline, outline_edges}
use Rattle.cross_section.specs.Copies.{end_list, start_list}
use Rattle.cross_section.proofs.Joined.{joined_of, same_joined}
use Rattle.cross_section.proofs.Placed.{outline_places}
use Rattle.cross_section.proofs.Stands.{ends_are, list_below, starts_are}

-- where a copy lies; past the end of the list it is nowhere
copy_place : (cs : List FlatCopy) (v : ℕ) → (get_or cs v no_flat_copy).point ≡ place_in (map (λ c. c.point) cs) v
copy_place [] v = refl
copy_place (c ∷ cs) zero = refl
copy_place (c ∷ cs) (suc v) = copy_place cs v

-- the segments of the lists of edges, whose starts and ends stand in buckets from one on
abbrev pub edges_segments : List (List ℤ) → List (ℕ × ℕ) → List (List ℤ) → (starts ends : List (List ℕ)) → ℕ → ℕ → List (ℕ × ℕ)
edges_segments corners es points starts ends first k =
    paired_along (get_or corners (start es k) []) (get_or corners (finish es k) []) (place_in points) (get_or starts (first + k) []) (get_or ends (first + k) [])

module _ (p q : Outline) (p_is : IsOutline p) (q_is : IsOutline q) (cs : List FlatCopy)
    (known : All (λ c. IsOfBoth (outline_edges p) (outline_edges q) (length p.points) (length q.points) c.origin) cs) where
  abbrev es : List (ℕ × ℕ)
  es = outline_edges p

  abbrev fs : List (ℕ × ℕ)
  fs = outline_edges q

  -- the buckets
  abbrev pub all_starts : List (List ℕ)
  all_starts = map (places_of (map (start_list es fs) cs)) (upto (length es + length fs))

  abbrev pub all_ends : List (List ℕ)
  all_ends = map (places_of (map (end_list es fs) cs)) (upto (length es + length fs))

  bucket : (keys : List ℕ) (k : ℕ) → k < length es + length fs → get_or (map (places_of keys) (upto (length es + length fs))) k [] ≡ places_of keys k
  bucket keys k low = value_at (places_of keys) (length es + length fs) k [] low

  p_starts : (k : ℕ) → k < length es → starts_in (flat_standing es fs cs) (length cs) (EdgeP k) ≡ get_or all_starts (0 + k) []
  p_starts k low =
      starts_are es fs (length p.points) (length q.points) (outline_places p p_is) (outline_places q q_is) cs known (EdgeP k) low
      ∙ sym (ap (λ j. get_or all_starts j []) (zero_first k) ∙ bucket (map (start_list es fs) cs) k (omega (arith, low)))
    where
      zero_first : (j : ℕ) → 0 + j ≡ j
      zero_first j = omega arith

  p_ends : (k : ℕ) → k < length es → ends_in (flat_standing es fs cs) (length cs) (EdgeP k) ≡ get_or all_ends (0 + k) []
  p_ends k low =
      ends_are es fs (length p.points) (length q.points) (outline_places p p_is) (outline_places q q_is) cs known (EdgeP k) low
      ∙ sym (ap (λ j. get_or all_ends j []) (zero_first k) ∙ bucket (map (end_list es fs) cs) k (omega (arith, low)))
    where
      zero_first : (j : ℕ) → 0 + j ≡ j
      zero_first j = omega arith

  q_starts : (k : ℕ) → k < length fs → starts_in (flat_standing es fs cs) (length cs) (EdgeQ k) ≡ get_or all_starts (length es + k) []
  q_starts k low =
      starts_are es fs (length p.points) (length q.points) (outline_places p p_is) (outline_places q q_is) cs known (EdgeQ k) low
      ∙ sym (bucket (map (start_list es fs) cs) (length es + k) (omega (arith, low)))

  q_ends : (k : ℕ) → k < length fs → ends_in (flat_standing es fs cs) (length cs) (EdgeQ k) ≡ get_or all_ends (length es + k) []
  q_ends k low =
      ends_are es fs (length p.points) (length q.points) (outline_places p p_is) (outline_places q q_is) cs known (EdgeQ k) low
      ∙ sym (bucket (map (end_list es fs) cs) (length es + k) (omega (arith, low)))

  -- those of P's edges, and of Q's
  p_segments : (k : ℕ) → k < length es → segments_in (flat_standing es fs cs) (flat_key p q cs)
      (length cs) (EdgeP k) ≡ edges_segments p.points es (map (λ c. c.point) cs) all_starts all_ends 0 k
  p_segments k low =
      let along = step (get_or p.points (start es k) []) (get_or p.points (finish es k) []) in
      λ i. pair_up (λ v. scalar_product along (copy_place cs v i)) (p_starts k low i) (p_ends k low i)

  q_segments : (k : ℕ) → k < length fs → segments_in (flat_standing es fs cs) (flat_key p q cs) (length cs)
      (EdgeQ k) ≡ edges_segments q.points fs (map (λ c. c.point) cs) all_starts all_ends (length es) k
  q_segments k low =
      let along = step (get_or q.points (start fs k) []) (get_or q.points (finish fs k) []) in
      λ i. pair_up (λ v. scalar_product along (copy_place cs v i)) (q_starts k low i) (q_ends k low i)

  -- all of them
  pub all_segments : flat_map (edges_segments p.points es (map (λ c. c.point) cs) all_starts all_ends 0) (upto (length es))
      ++ flat_map (edges_segments q.points fs (map (λ c. c.point) cs) all_starts all_ends (length es)) (upto (length fs)) ≡ flat_segments p q cs
  all_segments =
      let f = segments_in (flat_standing es fs cs) (flat_key p q cs) (length cs) in
      sym (flat_map-append f (map EdgeP (upto (length es))) (map EdgeQ (upto (length fs)))
      ∙ (λ i. joined_of f EdgeP (upto (length es)) i ++ joined_of f EdgeQ (upto (length fs)) i)
      ∙ (λ i. same_joined (λ k. f (EdgeP k)) (edges_segments p.points es (map (λ c. c.point) cs) all_starts all_ends 0) (length es) p_segments i
      ++ same_joined (λ k. f (EdgeQ k)) (edges_segments q.points fs (map (λ c. c.point) cs) all_starts all_ends (length es)) (length fs) q_segments i))

  -- where all lists are even, each bucket has as many starts as ends
  abbrev IsEven : FlatList → Type 0
  IsEven x = length (starts_in (flat_standing es fs cs) (length cs) x) ≡ length (ends_in (flat_standing es fs cs) (length cs) x)

  p_even_at : AreEven (flat_standing es fs cs) (length cs) (flat_lists es fs) → (k : ℕ) → k < length es → IsEven (EdgeP k)
  p_even_at even k low =
      let ps = map EdgeP (upto (length es)) in
      let qs = map EdgeQ (upto (length fs)) in
      let inside : k < length ps = omega (arith, low, values_long EdgeP (length es)) in
      subst IsEven (get_or_append_left ps qs (EdgeP 0) k inside ∙ value_at EdgeP (length es) k (EdgeP 0) low) (even k (EdgeP 0) (omega (arith, inside, length-append ps qs)))

  q_even_at : AreEven (flat_standing es fs cs) (length cs) (flat_lists es fs) → (k : ℕ) → k < length fs → IsEven (EdgeQ k)
  q_even_at even k low =
      let ps = map EdgeP (upto (length es)) in
      let qs = map EdgeQ (upto (length fs)) in
      subst IsEven (get_or-append-add ps qs k (EdgeP 0) ∙ value_at EdgeQ (length fs) k (EdgeP 0) low)
      (even (length ps + k) (EdgeP 0) (omega (arith, low, length-append ps qs, values_long EdgeQ (length fs))))

  pub p_even : AreEven (flat_standing es fs cs) (length cs) (flat_lists es fs) → (k : ℕ) →
      k < length es → length (get_or all_starts (0 + k) []) ≡ length (get_or all_ends (0 + k) [])
  p_even even k low = ap length (sym (p_starts k low)) ∙ p_even_at even k low ∙ ap length (p_ends k low)

  pub q_even : AreEven (flat_standing es fs cs) (length cs) (flat_lists es fs) → (k : ℕ) → k < length fs →
      length (get_or all_starts (length es + k) []) ≡ length (get_or all_ends (length es + k) [])
  q_even even k low = ap length (sym (q_starts k low)) ∙ q_even_at even k low ∙ ap length (q_ends k low)

  -- the lists of copies are there
  pub starts_below : All (λ l. l < length es + length fs) (map (start_list es fs) cs)
  starts_below = All-map (λ l. l < length es + length fs) (start_list es fs) cs
      (λ k d low. (list_below es fs (length p.points) (length q.points) (outline_places p p_is) (outline_places q q_is) (get_or cs k d) (known k d low)).0)

  pub ends_below : All (λ l. l < length es + length fs) (map (end_list es fs) cs)
  ends_below = All-map (λ l. l < length es + length fs) (end_list es fs) cs
      (λ k d low. (list_below es fs (length p.points) (length q.points) (outline_places p p_is) (outline_places q q_is) (get_or cs k d) (known k d low)).1)
