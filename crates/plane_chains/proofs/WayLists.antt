-- Ways along edges: how they are listed, numbered by their edges and added up by label.
use Rattle.std.proofs.Common.{◌≡◌, ◌<◌, ◌≤◌, ◌+◌, ◌^◌, ◌++◌, ◌∙◌, ◌==◌, ℕ, ℤ, Bool, List, [], ◌∷◌, true, false, ap, append_assoc, arith, cond, drop, filter, get_or, inl, inr, length, map, pos, refl, set, subst, suc, sym, take, ◌+ℤ◌}
use Rattle.std.specs.Prelude.{◌⊎◌, ◌&&◌, ◌||◌, if◌then◌else◌, nat_lt, neg_ℤ, not, unsigned_abs}
use Rattle.std.specs.List.{All, flat_map, list_any, position_or_len}
use Rattle.std.specs.Ordering.{int_eq}
use Rattle.std.proofs.lemmas.Bool.{both_ways, cases_eq, eq-eqb, eqb-true, ne_eqb}
use Rattle.std.proofs.lemmas.Int.{ints}
use Rattle.std.proofs.lemmas.List.{append-nil, flat_map_more, get_or-map, get_or_default, get_or-set_other, get_or-set_same, length-append, length-map, length-set, map-append, same_lists, take_all, take_more}
use Rattle.std.proofs.lemmas.List.Elements.{All-filter, All-map, filter-append}
use Rattle.std.proofs.lemmas.List.Sums.{count_by-le-length, length-filter}
use Rattle.chain_laws.proofs.Ascending.{filter-upto_no, filter-upto_yes, kept_at, total-filter}
use Rattle.chain_laws.proofs.Paths.{last_of-append, path-append}
use Rattle.chain_laws.proofs.Places.{get_or-up_from, length-up_from, total-places, total-upto_same}
use Rattle.chain_laws.specs.Sums.{total_more}
use Rattle.chain_terms.specs.Paths.{last_of, path, round_edges}
use Rattle.chain_terms.specs.Sums.{total, upto}
use Rattle.places_by_key.specs.Buckets.{places_of}
use Rattle.sheet_terms.specs.Chains.{ChainEdge, same_edge}
use Rattle.plane_chains.specs.declared.chain.Way.{Way}
use Rattle.plane_chains.specs.declared.nets.LabelNumber.{LabelNumber}
use Rattle.plane_chains.specs.Nets.{IsAdded, IsStored, edge_list, nonzero, nonzero_from}
use Rattle.plane_chains.specs.Placed.{ArePlaced}
use Rattle.plane_chains.specs.Stored.{edge_of, net_of}
use Rattle.plane_chains.specs.Ways.{counted, marked, net_among, net_count, no_way, step, way_along, way_chain, way_edge, way_up, ways_of, ways_round}
use Rattle.plane_chains.proofs.FirstKeys.{IsEqual, place_bound, placed_at, placed_long, placed_more, placed_none, with_key}
use Rattle.plane_chains.proofs.GridPoints.{flat_map_all, upto_below}

-- on the way round a rim
pub record IsOnRound (initial : List Way) (rim : List ℕ) (label k from : ℕ) (ways : List Way) : Type 0 where
  pub from_is : from ≡ last_of (get_or rim 0 0) (take k (drop 1 rim))
  pub ways_are : ways ≡ initial ++ map (way_along label) (path (get_or rim 0 0) (take k (drop 1 rim)))
  pub few : length ways ≤ 2 ^ 31

pub round_begun : (initial : List Way) (rim : List ℕ) (label : ℕ) → length initial ≤ 2 ^ 31 → IsOnRound initial rim label 0 (get_or rim 0 0) initial
round_begun initial rim label few = record { from_is = refl; ways_are = sym (append-nil initial); few = few }

pub round_more : (initial : List Way) (rim : List ℕ) (label k from to : ℕ) (ways new : List Way) → k < length (drop 1 rim) → to ≡ get_or (drop 1 rim) k 0 →
    IsOnRound initial rim label k from ways → new ≡ ways ++ record { from = from; to = to; label = label } ∷ [] → length new ≤ 2 ^ 31 →
    IsOnRound initial rim label (k + 1) to new
round_more initial rim label k from to ways new low is on pushed few = record { from_is = next; ways_are = all; few = few } where
  x : ℕ
  x = get_or rim 0 0

  r : List ℕ
  r = take k (drop 1 rim)

  more : take (k + 1) (drop 1 rim) ≡ take k (drop 1 rim) ++ to ∷ []
  more = take_more (drop 1 rim) k 0 low ∙ ap (λ y. take k (drop 1 rim) ++ y ∷ []) (sym is)

  next : to ≡ last_of (get_or rim 0 0) (take (k + 1) (drop 1 rim))
  next = sym (ap (last_of (get_or rim 0 0)) more ∙ last_of-append (get_or rim 0 0) (take k (drop 1 rim)) to [])

  longer : path (get_or rim 0 0) (take (k + 1) (drop 1 rim)) ≡ path (get_or rim 0 0) (take k (drop 1 rim)) ++ (from, to) ∷ []
  longer =
      ap (path (get_or rim 0 0)) more ∙ path-append (get_or rim 0 0) (take k (drop 1 rim)) to []
      ∙ ap (λ v. path (get_or rim 0 0) (take k (drop 1 rim)) ++ (v, to) ∷ []) (sym on.from_is)

  all : new ≡ initial ++ map (way_along label) (path (get_or rim 0 0) (take (k + 1) (drop 1 rim)))
  all =
      pushed ∙ ap (λ ws. ws ++ record { from = from; to = to; label = label } ∷ []) on.ways_are
      ∙ append_assoc initial (map (way_along label) (path (get_or rim 0 0) (take k (drop 1 rim)))) (record { from = from; to = to; label = label } ∷ [])
      ∙ ap (λ ws. initial ++ ws)
      (sym (map-append (way_along label) (path (get_or rim 0 0) (take k (drop 1 rim))) ((from, to) ∷ [])) ∙ ap (map (way_along label)) (sym longer))

pub round_done : (initial : List Way) (rim : List ℕ) (label k from : ℕ) (ways new : List Way) → 0 < length rim → length (drop 1 rim) ≤ k →
    IsOnRound initial rim label k from ways → new ≡ ways ++ record { from = from; to = get_or rim 0 0; label = label } ∷ [] → new ≡ initial ++ ways_round rim label
round_done initial [] label k from ways new some end on pushed = absurd (omega (arith, some))
round_done initial (x ∷ r) label k from ways new some end on pushed =
    let whole : take k r ≡ r = take_all k r end in
    pushed ∙ ap (λ ws. ws ++ record { from = from; to = x; label = label } ∷ []) on.ways_are
    ∙ append_assoc initial (map (way_along label) (path x (take k r))) (record { from = from; to = x; label = label } ∷ [])
    ∙ ap (λ ws. initial ++ ws)
    (sym (map-append (way_along label) (path x (take k r)) ((from, x) ∷ []))
    ∙ ap (λ v. map (way_along label) (path x (take k r) ++ (v, x) ∷ [])) on.from_is
    ∙ ap (λ s. map (way_along label) (path x s ++ (last_of x s, x) ∷ [])) whole)

-- the rims one after the other
pub rims_yes : (rims : List (List ℕ)) (labels : List ℕ) (marks : List Bool) (i : ℕ) (ways new : List Way) → get_or marks i false ≡ true →
    ways ≡ flat_map (λ j. ways_round (get_or rims j []) (get_or labels j 0)) (marked marks i) → new ≡ ways ++ ways_round (get_or rims i []) (get_or labels i 0) →
    new ≡ flat_map (λ j. ways_round (get_or rims j []) (get_or labels j 0)) (marked marks (i + 1))
rims_yes rims labels marks i ways new has before pushed =
    let round : ℕ → List Way = λ j. ways_round (get_or rims j []) (get_or labels j 0) in
    pushed ∙ ap (λ ws. ws ++ round i) before ∙ flat_map_more round [] (marked marks i) i
    ∙ ap (flat_map round) (sym (filter-upto_yes (λ j. get_or marks j false) i has))

pub rims_no : (rims : List (List ℕ)) (labels : List ℕ) (marks : List Bool) (i : ℕ) (ways : List Way) → get_or marks i false ≡ false →
    ways ≡ flat_map (λ j. ways_round (get_or rims j []) (get_or labels j 0)) (marked marks i) →
    ways ≡ flat_map (λ j. ways_round (get_or rims j []) (get_or labels j 0)) (marked marks (i + 1))
rims_no rims labels marks i ways has before =
    before ∙ ap (flat_map (λ j. ways_round (get_or rims j []) (get_or labels j 0))) (sym (filter-upto_no (λ j. get_or marks j false) i has))

-- edges are equal where the test tells so
and_both : (a b : Bool) → (a && b) ≡ true → (a ≡ true) × (b ≡ true)
and_both true b h = (refl, h)
and_both false b h = absurd (both_ways false refl h)

pub edges_equal : IsEqual same_edge
edges_equal = record {
  itself = λ e. (λ i. eq-eqb e.0 e.0 refl i && eq-eqb e.1 e.1 refl i);
  same = λ d e h. let p = and_both (d.0 == e.0) (d.1 == e.1) h in λ i. (eqb-true d.0 e.0 p.0 i, eqb-true d.1 e.1 p.1 i);
}

-- the first ways with their edges, and the number of each one's edge
pub record IsNumbered (ways : List Way) (k : ℕ) (keys : List (ℕ × ℕ)) (of : List ℕ) : Type 0 where
  pub placed : ArePlaced same_edge (map way_up (take k ways)) keys of
  pub few : length keys ≤ k

key_few : (keys : List (ℕ × ℕ)) (x : ℕ × ℕ) → length (with_key same_edge keys x) ≤ length keys + 1
key_few keys x = by (list_any (same_edge x) keys) where
  by : (b : Bool) → length (if b then keys else keys ++ x ∷ []) ≤ length keys + 1
  by true = omega arith
  by false = omega (arith, length-append keys (x ∷ []))

pub numbered_more : (ways : List Way) (k : ℕ) (keys new : List (ℕ × ℕ)) (of more : List ℕ) (x : ℕ × ℕ) (at : ℕ) → k < length ways → x ≡ way_up (get_or ways k no_way) →
    IsNumbered ways k keys of → new ≡ with_key same_edge keys x → at ≡ position_or_len (same_edge x) keys → more ≡ of ++ at ∷ [] → IsNumbered ways (k + 1) new more
numbered_more ways k keys new of more x at low is on e f g = record {
  placed = subst (λ ns. ArePlaced same_edge (map way_up (take (k + 1) ways)) new ns) (sym g)
      (subst (λ xs. ArePlaced same_edge xs new (of ++ at ∷ [])) longer (placed_more same_edge edges_equal (map way_up (take k ways)) keys new of x at on.placed e f));
  few = omega (arith, ap length e, key_few keys x, on.few);
}
  where
    longer : map way_up (take k ways) ++ x ∷ [] ≡ map way_up (take (k + 1) ways)
    longer = ap (λ y. map way_up (take k ways) ++ y ∷ []) is ∙ sym (map-append way_up (take k ways) (get_or ways k no_way ∷ [])) ∙ ap (map way_up) (sym (take_more ways k no_way low))

-- no numbers at first
none_from : (k : ℕ) (xs : List ℕ) → nonzero_from k (map (λ (x : ℕ). pos 0) xs) ≡ []
unfolding nonzero_from
none_from k [] = refl
none_from k (x ∷ xs) = none_from (suc k) xs

pub none_added : (n : ℕ) (ways : List Way) (some : List ℕ) → [] ≡ nonzero (net_among n ways (take 0 some))
none_added n ways some = sym (none_from 0 (upto n))

-- a number for one label more
set_upto : (n : ℕ) (f g : ℕ → ℤ) (l : ℕ) (v : ℤ) → g l ≡ v → ((k : ℕ) → (k ≡ l → ⊥) → g k ≡ f k) → set (map f (upto n)) l v ≡ map g (upto n)
set_upto n f g l v here others =
    same_lists (set (map f (upto n)) l v) (map g (upto n)) (length-set (map f (upto n)) l v ∙ length-map (upto n) f ∙ sym (length-map (upto n) g)) at
  where
    at : (k : ℕ) (d : ℤ) → k < length (set (map f (upto n)) l v) → get_or (set (map f (upto n)) l v) k d ≡ get_or (map g (upto n)) k d
    at k d low = by (cases_eq k l) where
      long : length (upto n) ≡ n
      long = length-up_from 0 n

      inside : k < n
      inside = omega (arith, low, length-set (map f (upto n)) l v, length-map (upto n) f, length-up_from 0 n)

      value : (h : ℕ → ℤ) → get_or (map h (upto n)) k d ≡ h k
      value h =
          get_or-map h (upto n) k 0 d (omega (arith, length-up_from 0 n, low, length-set (map f (upto n)) l v, length-map (upto n) f))
          ∙ ap h (get_or-up_from 0 n k 0 (omega (arith, low, length-set (map f (upto n)) l v, length-map (upto n) f, length-up_from 0 n)) ∙ omega arith)

      by : (k ≡ l) ⊎ (k ≡ l → ⊥) → get_or (set (map f (upto n)) l v) k d ≡ get_or (map g (upto n)) k d
      by (inl e) =
          ap (λ j. get_or (set (map f (upto n)) l v) j d) e
          ∙ get_or-set_same (map f (upto n)) l v d (omega (arith, low, e, length-set (map f (upto n)) l v)) ∙ sym (value g ∙ ap g e ∙ here)
      by (inr e) = get_or-set_other (map f (upto n)) l k v d e ∙ value f ∙ sym (others k e) ∙ sym (value g)

counted_same : (l : ℕ) (w : Way) → w.label ≡ l → counted l w ≡ step w
counted_same l w e = ap (λ b. cond b (step w) (pos 0)) (eq-eqb w.label l e)

counted_other : (k : ℕ) (w : Way) → (k ≡ w.label → ⊥) → counted k w ≡ pos 0
counted_other k w e = ap (λ b. cond b (step w) (pos 0)) (ne_eqb w.label k (λ h. e (sym h)))

module _ (n : ℕ) (ways : List Way) (some : List ℕ) (i : ℕ) (low : i < length some) (inside : get_or some i 0 < length ways) (below : All (λ (w : Way). w.label < n) ways) where
  abbrev way : Way
  way = get_or ways (get_or some i 0) no_way

  abbrev sum_to : ℕ → ℕ → ℤ
  sum_to m k = total (λ j. counted k (get_or ways j no_way)) (take m some)

  label_low : way.label < n
  label_low = below (get_or some i 0) no_way inside

  value_at : get_or (net_among n ways (take i some)) way.label (pos 0) ≡ sum_to i way.label
  value_at =
      get_or-map (sum_to i) (upto n) way.label 0 (pos 0) (omega (arith, label_low, length-up_from 0 n))
      ∙ ap (sum_to i) (get_or-up_from 0 n way.label 0 label_low ∙ omega arith)

  sum_here : sum_to (i + 1) way.label ≡ get_or (net_among n ways (take i some)) way.label (pos 0) +ℤ step way
  sum_here = total_more (λ j. counted way.label (get_or ways j no_way)) some i 0 low ∙ (λ j. sym value_at j +ℤ counted_same way.label way refl j)

  sum_other : (k : ℕ) → (k ≡ way.label → ⊥) → sum_to (i + 1) k ≡ sum_to i k
  sum_other k e =
      total_more (λ j. counted k (get_or ways j no_way)) some i 0 low ∙ ap (λ z. sum_to i k +ℤ z) (counted_other k way e) ∙ no_more (sum_to i k) where
        no_more : (z : ℤ) → z +ℤ pos 0 ≡ z
        no_more z = omega (arith, ints)

  pub added_more : (net new : List LabelNumber) → net ≡ nonzero (net_among n ways (take i some)) → IsAdded net new way.label (step way) →
      new ≡ nonzero (net_among n ways (take (i + 1) some))
  added_more net new before added =
      added.sum (net_among n ways (take i some)) before (omega (arith, label_low, length-map (upto n) (sum_to i), length-up_from 0 n))
      ∙ ap nonzero (set_upto n (sum_to i) (sum_to (i + 1)) way.label (get_or (net_among n ways (take i some)) way.label (pos 0) +ℤ step way) sum_here sum_other)

-- what the ways along one edge count
module _ (ways : List Way) (keys : List (ℕ × ℕ)) (of : List ℕ) (are : ArePlaced same_edge (map way_up ways) keys of) (k : ℕ) (inside : k < length keys) where
  many : length of ≡ length ways
  many = placed_long same_edge edges_equal (map way_up ways) keys of are ∙ length-map ways way_up

  same_key : (i : ℕ) → i < length ways → (get_or of i 0 == k) ≡ same_edge (way_up (get_or ways i no_way)) (get_or keys k (0, 0))
  same_key i low =
      let at : get_or of i 0 ≡ position_or_len (same_edge (way_up (get_or ways i no_way))) keys =
      ap (λ ns. get_or ns i 0) are.places
      ∙ get_or-map (λ x. position_or_len (same_edge x) keys) (map way_up ways) i (0, 0) 0 (omega (arith, low, length-map ways way_up))
      ∙ ap (λ x. position_or_len (same_edge x) keys) (get_or-map way_up ways i no_way (0, 0) low) in
      let there : list_any (same_edge (way_up (get_or ways i no_way))) keys ≡ true =
      ap (λ x. list_any (same_edge x) keys) (sym (get_or-map way_up ways i no_way (0, 0) low)) ∙ are.there i (0, 0) (omega (arith, low, length-map ways way_up)) in
      ap (λ n. n == k) at ∙ placed_at same_edge edges_equal (map way_up ways) keys of (way_up (get_or ways i no_way)) k (0, 0) are there inside

  pub bucket_counts : (l : ℕ) → total (λ i. counted l (get_or ways i no_way)) (places_of of k) ≡ net_count ways (get_or keys k (0, 0)) l
  bucket_counts l =
      total-filter (λ i. counted l (get_or ways i no_way)) (λ i. get_or of i 0 == k) (upto (length of))
      ∙ ap (λ m. total (λ i. cond (get_or of i 0 == k) (counted l (get_or ways i no_way)) (pos 0)) (upto m)) many
      ∙ total-upto_same (λ i. cond (get_or of i 0 == k) (counted l (get_or ways i no_way)) (pos 0))
      (λ i. cond (same_edge (way_up (get_or ways i no_way)) (get_or keys k (0, 0))) (counted l (get_or ways i no_way)) (pos 0)) (length ways)
      (λ i low. ap (λ b. cond b (counted l (get_or ways i no_way)) (pos 0)) (same_key i low))
      ∙ sym (total-places (λ w. cond (same_edge (way_up w) (get_or keys k (0, 0))) (counted l w) (pos 0)) no_way ways)

  pub bucket_nets : (n : ℕ) → net_among n ways (places_of of k) ≡ (way_edge n ways (get_or keys k (0, 0))).counts
  bucket_nets n = map-same (λ l. total (λ i. counted l (get_or ways i no_way)) (places_of of k)) (net_count ways (get_or keys k (0, 0))) bucket_counts (upto n) where
    map-same : (f g : ℕ → ℤ) → ((l : ℕ) → f l ≡ g l) → (ls : List ℕ) → map f ls ≡ map g ls
    map-same f g h [] = refl
    map-same f g h (l ∷ ls) = λ i. h l i ∷ map-same f g h ls i

  -- members of the bucket are ways
  pub bucket_below : All (λ i. i < length ways) (places_of of k)
  bucket_below i d low =
      let h = kept_at (λ j. get_or of j 0 == k) 0 (length of) i low in
      omega (arith, h.high, many, get_or_default (places_of of k) i d 0 low)

  pub bucket_few : length (places_of of k) ≤ length ways
  bucket_few =
      omega (arith, length-filter (λ j. get_or of j 0 == k) (upto (length of)), count_by-le-length (λ j. get_or of j 0 == k) (upto (length of)), length-up_from 0 (length of), many)

-- whether there is a number other than 0 shows in the list of those
abbrev is_some : {X : Type 0} → List X → Bool
is_some [] = false
is_some (x ∷ xs) = true

abbrev nonzero_test : ℤ → Bool
nonzero_test n = not (int_eq n (pos 0))

some_from : (k : ℕ) (ns : List ℤ) → is_some (nonzero_from k ns) ≡ list_any nonzero_test ns
unfolding nonzero_from
some_from k [] = refl
some_from k (n ∷ ns) = by (int_eq n (pos 0)) (some_from (suc k) ns) where
  by : (b : Bool) → is_some (nonzero_from (suc k) ns) ≡ list_any nonzero_test ns →
      is_some (cond b [] (record { label = k; number = n } ∷ []) ++ nonzero_from (suc k) ns) ≡ (not b || list_any nonzero_test ns)
  by true rest = rest
  by false rest = refl

edge_if : (e : ℕ × ℕ) (net : List LabelNumber) → edge_of e net ≡ cond (is_some net) (edge_list e ∷ []) []
edge_if e [] = refl
edge_if e (n ∷ net) = refl

net_if : (net : List LabelNumber) → net_of net ≡ cond (is_some net) (net ∷ []) []
net_if [] = refl
net_if (n ∷ net) = refl

-- the first edges of a chain
pub record IsChained (ways : List Way) (edges : List (ℕ × ℕ)) (k : ℕ) (made : List (List ℕ)) (nets : List (List LabelNumber) × List LabelNumber) : Type 0 where
  pub stored : (n : ℕ) → All (λ (w : Way). w.label < n) ways →
      IsStored (filter (λ c. list_any nonzero_test c.counts) (map (way_edge n ways) (take k edges))) made nets.0
  pub open_is : nets.1 ≡ []

pub chained_none : (ways : List Way) (edges : List (ℕ × ℕ)) → IsChained ways edges 0 [] ([], [])
chained_none ways edges = record { stored = λ n h. record { edges = refl; nets = refl }; open_is = refl }

pub chained_more : (ways : List Way) (edges : List (ℕ × ℕ)) (k : ℕ) (made new : List (List ℕ)) (nets all : List (List LabelNumber) × List LabelNumber) (net : List LabelNumber) →
    k < length edges → IsChained ways edges k made nets → new ≡ made ++ edge_of (get_or edges k (0, 0)) net → (nets.1 ≡ [] → all ≡ (nets.0 ++ net_of net, [])) →
    ((n : ℕ) → All (λ (w : Way). w.label < n) ways → net ≡ nonzero (way_edge n ways (get_or edges k (0, 0))).counts) → IsChained ways edges (k + 1) new all
chained_more ways edges k made new nets all net low is pushed listed counts = record {
  stored = λ n h. more n h;
  open_is = ap (λ (p : List (List LabelNumber) × List LabelNumber). p.1) (listed is.open_is);
}
  where
    e : ℕ × ℕ
    e = get_or edges k (0, 0)

    passes : ChainEdge → Bool
    passes c = list_any nonzero_test c.counts

    edges_joined : (cs : List ChainEdge) (c : ChainEdge) (b : Bool) → map (λ (x : ChainEdge). edge_list x.edge) cs ++ cond b (edge_list c.edge ∷ []) [] ≡ map (λ (x : ChainEdge). edge_list x.edge) (cs ++ cond b (c ∷ []) [])
    edges_joined cs c true = sym (map-append (λ (x : ChainEdge). edge_list x.edge) cs (c ∷ []))
    edges_joined cs c false = sym (map-append (λ (x : ChainEdge). edge_list x.edge) cs [])

    nets_joined : (cs : List ChainEdge) (c : ChainEdge) (b : Bool) →
        map (λ (x : ChainEdge). nonzero x.counts) cs ++ cond b (nonzero c.counts ∷ []) [] ≡ map (λ (x : ChainEdge). nonzero x.counts) (cs ++ cond b (c ∷ []) [])
    nets_joined cs c true = sym (map-append (λ (x : ChainEdge). nonzero x.counts) cs (c ∷ []))
    nets_joined cs c false = sym (map-append (λ (x : ChainEdge). nonzero x.counts) cs [])

    more : (n : ℕ) → All (λ (w : Way). w.label < n) ways →
        IsStored (filter (λ c. list_any nonzero_test c.counts) (map (way_edge n ways) (take (k + 1) edges))) new all.0
    more n h =
        let before = is.stored n h in
        let net_is = counts n h in
        let longer : filter (λ c. list_any nonzero_test c.counts) (map (way_edge n ways) (take (k + 1) edges))
        ≡ filter (λ c. list_any nonzero_test c.counts) (map (way_edge n ways) (take k edges))
        ++ cond (list_any nonzero_test (way_edge n ways (get_or edges k (0, 0))).counts) (way_edge n ways (get_or edges k (0, 0)) ∷ []) [] =
        ap (λ xs. filter (λ c. list_any nonzero_test c.counts) (map (way_edge n ways) xs)) (take_more edges k (0, 0) low)
        ∙ ap (filter (λ c. list_any nonzero_test c.counts)) (map-append (way_edge n ways) (take k edges) (get_or edges k (0, 0) ∷ []))
        ∙ filter-append (λ c. list_any nonzero_test c.counts) (map (way_edge n ways) (take k edges)) (way_edge n ways (get_or edges k (0, 0)) ∷ []) in
        let some : is_some net ≡ list_any nonzero_test (way_edge n ways (get_or edges k (0, 0))).counts =
        ap is_some net_is ∙ some_from 0 (way_edge n ways (get_or edges k (0, 0))).counts in
        record {
          edges = pushed ∙ (λ j. before.edges j ++ edge_if (get_or edges k (0, 0)) net j)
              ∙ ap (λ b. map (λ (c : ChainEdge). edge_list c.edge) (filter (λ c. list_any nonzero_test c.counts) (map (way_edge n ways) (take k edges)))
              ++ cond b (edge_list (get_or edges k (0, 0)) ∷ []) []) some
              ∙ edges_joined (filter (λ c. list_any nonzero_test c.counts) (map (way_edge n ways) (take k edges))) (way_edge n ways (get_or edges k (0, 0)))
              (list_any nonzero_test (way_edge n ways (get_or edges k (0, 0))).counts)
              ∙ ap (map (λ (c : ChainEdge). edge_list c.edge)) (sym longer);
          nets = ap (λ (p : List (List LabelNumber) × List LabelNumber). p.0) (listed is.open_is)
              ∙ (λ j. before.nets j ++ net_if net j)
              ∙ ap (λ b. map (λ (c : ChainEdge). nonzero c.counts) (filter (λ c. list_any nonzero_test c.counts) (map (way_edge n ways) (take k edges))) ++ cond b (net ∷ []) []) some
              ∙ ap (λ m. map (λ (c : ChainEdge). nonzero c.counts) (filter (λ c. list_any nonzero_test c.counts) (map (way_edge n ways) (take k edges)))
              ++ cond (list_any nonzero_test (way_edge n ways (get_or edges k (0, 0))).counts) (m ∷ []) []) net_is
              ∙ nets_joined (filter (λ c. list_any nonzero_test c.counts) (map (way_edge n ways) (take k edges))) (way_edge n ways (get_or edges k (0, 0)))
              (list_any nonzero_test (way_edge n ways (get_or edges k (0, 0))).counts)
              ∙ ap (map (λ (c : ChainEdge). nonzero c.counts)) (sym longer);
        }

-- all edges
pub chained_all : (n : ℕ) (ways : List Way) (edges : List (ℕ × ℕ)) (of : List ℕ) (k : ℕ) (made : List (List ℕ)) (nets : List (List LabelNumber) × List LabelNumber) →
    ArePlaced same_edge (map way_up ways) edges of → length edges ≤ k → IsChained ways edges k made nets → All (λ (w : Way). w.label < n) ways →
    IsStored (way_chain n ways) made nets.0
unfolding way_chain
chained_all n ways edges of k made nets are end is h =
    subst (λ es. IsStored (filter (λ c. list_any nonzero_test c.counts) (map (way_edge n ways) es)) made nets.0)
    (take_all k edges end ∙ are.keys_are) (is.stored n h)

-- a step is short
pub step_small : (w : Way) → unsigned_abs (step w) ≤ 1
step_small w = by (nat_lt w.from w.to) (nat_lt w.to w.from) where
  by : (a b : Bool) → unsigned_abs (if a then pos 1 else if b then neg_ℤ (pos 1) else pos 0) ≤ 1
  by true b = omega arith
  by false true = omega arith
  by false false = omega arith

-- at the beginning and at the end
pub round_none : (initial : List Way) (rim : List ℕ) (label : ℕ) → length rim ≡ 0 → initial ≡ initial ++ ways_round rim label
round_none initial [] label e = sym (append-nil initial)
round_none initial (x ∷ r) label e = absurd (omega (arith, e))

pub numbered_none : (ways : List Way) (keys : List (ℕ × ℕ)) (of : List ℕ) → keys ≡ [] → of ≡ [] → IsNumbered ways 0 keys of
numbered_none ways keys of e f =
    subst (λ ks. IsNumbered ways 0 ks of) (sym e)
    (subst (λ ns. IsNumbered ways 0 [] ns) (sym f) (record { placed = placed_none same_edge edges_equal; few = omega arith }))

pub numbered_all : (ways : List Way) (k : ℕ) (keys : List (ℕ × ℕ)) (of : List ℕ) → length ways ≤ k → IsNumbered ways k keys of → ArePlaced same_edge (map way_up ways) keys of
numbered_all ways k keys of end is = subst (λ ws. ArePlaced same_edge (map way_up ws) keys of) (take_all k ways end) is.placed

pub key_bound : (keys : List (ℕ × ℕ)) (x : ℕ × ℕ) → position_or_len (same_edge x) keys ≤ length keys
key_bound keys x = place_bound (same_edge x) keys

-- labels of ways are those of rims
pub ways_labels : (n : ℕ) (rims : List (List ℕ)) (labels : List ℕ) (marks : List Bool) → length labels ≡ length rims → All (λ l. l < n) labels →
    All (λ (w : Way). w.label < n) (ways_of rims labels marks)
ways_labels n rims labels marks long below =
    flat_map_all (λ (w : Way). w.label < n) (λ i. ways_round (get_or rims i []) (get_or labels i 0)) (marked marks (length rims))
    (λ k d low.
    let i = get_or (marked marks (length rims)) k d in
    let inside : i < length rims = All-filter (λ j. get_or marks j false) (λ j. j < length rims) (upto (length rims)) (upto_below (length rims)) k d low in
    All-map (λ (w : Way). w.label < n) (way_along (get_or labels i 0)) (round_edges (get_or rims i [])) (λ j e h. below i 0 (omega (arith, inside, long))))
