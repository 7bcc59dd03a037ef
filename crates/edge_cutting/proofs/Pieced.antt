-- Cut edges as they are gathered, and how they are looked up.
use Rattle.std.specs.Prelude.{◌≡◌, ◌⊎◌, ℕ, zero, suc, ◌+◌, ◌-◌, ◌<◌, ◌≤◌, ◌||◌, ℤ, List, [], ◌∷◌, ◌++◌, true, false, Bool, cond, Some, None, nat_eq, nat_lt, drop, get_or, length, map, position, reverse, take}
use Rattle.std.specs.Cmp.Lexicographic.{pointwise}
use Rattle.std.specs.List.{All, Contains, list_any, position_or_len}
use Rattle.std.proofs.Common.{arith, ltb, refl, sym, ap, subst, ◌∙◌, inl, inr}
use Rattle.std.proofs.Math.ListN.{get_or-append}
use Rattle.std.proofs.Math.Seq.{drop-append_seam, get_or-append_seam}
use Rattle.std.proofs.lemmas.Bool.{both_ways, cases_Bool, cases_lt, lt-ltb, ltb-false, ltb-true}
use Rattle.std.proofs.lemmas.Bool.Decides.{Decides-eqb}
use Rattle.std.proofs.lemmas.List.{drop-append-le, get_or-map, get_or-reverse, get_or_past, length-append, length-drop, length-map, length-reverse, map-append, take-append-le, take_all, take_more}
use Rattle.std.proofs.lemmas.List.Elements.{All-head, All-tail, Contains-append_left, Contains-push, Contains-push_cases}
use Rattle.std.proofs.lemmas.List.Sums.{fails_before_first, passes_at_first}
use Rattle.std.proofs.lemmas.Map.Views.{Contains-from_any}
use Rattle.std.proofs.lemmas.Slice.Eq.{slice_eq-Decides}
use Rattle.chain_terms.specs.Sums.{upto}
use Rattle.chain_laws.proofs.Places.{upto_more}
use Rattle.places_by_key.specs.Buckets.{AreEnds, begin_of, part, parts}
use Rattle.places_by_key.proofs.Upto.{get_or-map-upto, length-map-upto}
use Rattle.sheet_terms.specs.Cuts.{cuts}
use Rattle.mesh_terms.specs.Meshes.{Triple}
use Rattle.edge_cutting.specs.Cut.{CutEdges, cut_rim, places_between, places_from}
use Rattle.edge_cutting.specs.Edges.{IsUpBelow, pair_of}
use Rattle.edge_cutting.specs.Pieces.{AreGathered, cuts_of, gathered}
use Rattle.edge_cutting.specs.declared.pieces.Pieces.{Pieces}
use Rattle.edge_cutting.proofs.Gathering.{all_upto}

-- functions that agree on each member map alike
pub map_same : {X Y : Type 0} (f g : X → Y) (xs : List X) → All (λ x. f x ≡ g x) xs → map f xs ≡ map g xs
map_same f g [] all = refl
map_same f g (x ∷ xs) all =
    ap (λ y. y ∷ map f xs) (All-head (λ z. f z ≡ g z) x xs all) ∙ ap (λ l. g x ∷ l) (map_same f g xs (All-tail (λ z. f z ≡ g z) x xs all))

-- one more list behind others
module _ (ends inside ps : List ℕ) (are : AreEnds ends (length inside)) (whole : begin_of ends (length ends) ≡ length inside) where
  abbrev long : List ℕ
  long = inside ++ ps

  abbrev more : List ℕ
  more = ends ++ length long ∷ []

  begin_same : (k : ℕ) → k ≤ length ends → begin_of more k ≡ begin_of ends k
  begin_same zero low = refl
  begin_same (suc k) low = get_or-append ends (length long ∷ []) 0 k (omega (arith, low))

  end_same : (k : ℕ) → k < length ends → get_or more k 0 ≡ get_or ends k 0
  end_same k low = get_or-append ends (length long ∷ []) 0 k low

  begin_last : (k : ℕ) → k ≡ length ends → begin_of more k ≡ length inside
  begin_last k e = ap (begin_of more) e ∙ begin_same (length ends) (omega arith) ∙ whole

  end_last : (k : ℕ) → k ≡ length ends → get_or more k 0 ≡ length long
  end_last k e = ap (λ j. get_or more j 0) e ∙ get_or-append_seam ends (length long) [] 0

  longer : length long ≡ length inside + length ps
  longer = length-append inside ps

  one_more : length more ≡ length ends + 1
  one_more = length-append ends (length long ∷ [])

  pub ends_more : AreEnds more (length long)
  ends_more = record {
    up = λ k low. elim (cases_lt k (length ends)) as (λ _. begin_of more k ≤ get_or more k 0) [
      | inl l ↦ omega (arith, begin_same k (omega (arith, l)), end_same k l, are.up k l)
      | inr l ↦ let e : k ≡ length ends = omega (arith, l, low, one_more) in omega (arith, begin_last k e, end_last k e, longer)
    ];
    within = λ k low. elim (cases_lt k (length ends)) as (λ _. get_or more k 0 ≤ length long) [
      | inl l ↦ omega (arith, end_same k l, are.within k l, longer)
      | inr l ↦ let e : k ≡ length ends = omega (arith, l, low, one_more) in omega (arith, end_last k e)
    ];
  }

  pub whole_more : begin_of more (length more) ≡ length long
  whole_more =
      let e : length more ≡ suc (length ends) = omega (arith, one_more) in
      ap (begin_of more) e ∙ end_last (length ends) refl

  part_same : (k : ℕ) → k < length ends → part more long k ≡ part ends inside k
  part_same k low =
      let b = begin_of ends k in
      let e = get_or ends k 0 in
      let front : drop b long ≡ drop b inside ++ ps = drop-append-le b inside ps (omega (arith, are.up k low, are.within k low)) in
      let short : e - b ≤ length (drop b inside) = omega (arith, are.up k low, are.within k low, length-drop b inside) in
      ap (λ t. take (t - begin_of more k) (drop (begin_of more k) long)) (end_same k low) ∙ ap (λ t. take (e - t) (drop t long)) (begin_same k (omega (arith, low)))
      ∙ ap (take (e - b)) front ∙ take-append-le (e - b) (drop b inside) ps short

  part_last : part more long (length ends) ≡ ps
  part_last =
      ap (λ t. take (t - begin_of more (length ends)) (drop (begin_of more (length ends)) long)) (end_last (length ends) refl)
      ∙ ap (λ t. take (length long - t) (drop t long)) (begin_last (length ends) refl) ∙ ap (take (length long - length inside)) (drop-append_seam inside ps)
      ∙ take_all (length long - length inside) ps (omega (arith, longer))

  pub parts_more : parts more long ≡ parts ends inside ++ ps ∷ []
  parts_more =
      ap (λ n. map (part more long) (upto n)) one_more ∙ ap (map (part more long)) (upto_more (length ends))
      ∙ map-append (part more long) (upto (length ends)) (length ends ∷ [])
      ∙ ap (λ l. l ++ part more long (length ends) ∷ [])
      (map_same (part more long) (part ends inside) (upto (length ends)) (all_upto (λ k. part more long k ≡ part ends inside k) (length ends) part_same))
      ∙ ap (λ p. parts ends inside ++ p ∷ []) part_last

-- nothing was looked at
pub gathered_none : (points : List (List ℤ)) (c : Pieces) → c.edges.keys ≡ [] → c.ends.items ≡ [] → c.inside.items ≡ [] → AreGathered points [] c
gathered_none points c ek ee ei = record {
  ends = record { up = λ k low. absurd (omega (arith, low, ap length ee)); within = λ k low. absurd (omega (arith, low, ap length ee)) };
  whole = ap (λ l. begin_of l (length l)) ee ∙ sym (ap length ei);
  places = ap (λ l. parts l c.inside.items) ee ∙ sym (ap (map (cuts_of points)) ek);
  complete = λ e h. absurd (omega (arith, h.1));
}

-- an edge that is there, or has no places inside it
pub gathered_same : (points : List (List ℤ)) (seen : List (ℕ × ℕ)) (a b : ℕ) (c : Pieces) → Contains c.edges.keys (a ∷ b ∷ []) ⊎ (cuts points a b ≡ []) →
    AreGathered points seen c → AreGathered points (seen ++ (a, b) ∷ []) c
gathered_same points seen a b c known h = record {
  ends = h.ends;
  whole = h.whole;
  places = h.places;
  complete = λ e there. elim (Contains-push_cases seen (a, b) e there) as (λ _. Contains c.edges.keys (e.0 ∷ e.1 ∷ []) ⊎ (cuts points e.0 e.1 ≡ [])) [
    | inl was ↦ h.complete e was
    | inr is ↦ subst (λ f. Contains c.edges.keys (f.0 ∷ f.1 ∷ []) ⊎ (cuts points f.0 f.1 ≡ [])) is known
  ];
}

-- one that is added with its places
pub gathered_more : (points : List (List ℤ)) (seen : List (ℕ × ℕ)) (a b : ℕ) (ps : List ℕ) (c d : Pieces) → d.edges.keys ≡ c.edges.keys ++ (a ∷ b ∷ []) ∷ [] →
    d.inside.items ≡ c.inside.items ++ ps → d.ends.items ≡ c.ends.items ++ length d.inside.items ∷ [] → ps ≡ cuts points a b →
    AreGathered points seen c → AreGathered points (seen ++ (a, b) ∷ []) d
gathered_more points seen a b ps c d ek ei el is h =
    let ee : d.ends.items ≡ c.ends.items ++ length (c.inside.items ++ ps) ∷ [] = el ∙ ap (λ l. c.ends.items ++ length l ∷ []) ei in
    record {
      ends = rw (ee, ei) (ends_more c.ends.items c.inside.items ps h.ends h.whole);
      whole = rw (ee, ei) (whole_more c.ends.items c.inside.items ps h.ends h.whole);
      places =
          ap (λ l. parts l d.inside.items) ee ∙ ap (λ l. parts (c.ends.items ++ length (c.inside.items ++ ps) ∷ []) l) ei
          ∙ parts_more c.ends.items c.inside.items ps h.ends h.whole ∙ ap (λ l. l ++ ps ∷ []) h.places ∙ ap (λ p. map (cuts_of points) c.edges.keys ++ p ∷ []) is
          ∙ sym (map-append (cuts_of points) c.edges.keys ((a ∷ b ∷ []) ∷ [])) ∙ ap (map (cuts_of points)) (sym ek);
      complete = λ e there. elim (Contains-push_cases seen (a, b) e there) as (λ _. Contains d.edges.keys (e.0 ∷ e.1 ∷ []) ⊎ (cuts points e.0 e.1 ≡ [])) [
        | inl was ↦ elim (h.complete e was) as (λ _. Contains d.edges.keys (e.0 ∷ e.1 ∷ []) ⊎ (cuts points e.0 e.1 ≡ [])) [
          | inl in_keys ↦ inl (subst (λ ks. Contains ks (e.0 ∷ e.1 ∷ [])) (sym ek) (Contains-append_left c.edges.keys ((a ∷ b ∷ []) ∷ []) (e.0 ∷ e.1 ∷ []) in_keys))
          | inr none ↦ inr none
        ]
        | inr same ↦
            inl (subst (λ (f : ℕ × ℕ). Contains d.edges.keys (f.0 ∷ f.1 ∷ [])) same
            (subst (λ ks. Contains ks (a ∷ b ∷ [])) (sym ek) (Contains-push c.edges.keys (a ∷ b ∷ []))))
      ];
    }

-- a key that is there is found
key_found : (keys : List (List ℕ)) (key : List ℕ) → Contains keys key → position_or_len (pointwise nat_eq key) keys < length keys
key_found keys key there = elim (cases_lt (position_or_len (pointwise nat_eq key) keys) (length keys)) as (λ _. position_or_len (pointwise nat_eq key) keys < length keys) [
  | inl l ↦ l
  | inr l ↦
      let fails = fails_before_first (pointwise nat_eq key) keys there.0 key (omega (arith, l, there.1)) in
      absurd (both_ways (pointwise nat_eq key (get_or keys there.0 key)) fails ((slice_eq-Decides Decides-eqb key (get_or keys there.0 key) _ refl).1 (sym there.2)))
]

-- the places inside an edge that was looked at
pub between_is : (points : List (List ℤ)) (c : Pieces) (a b : ℕ) → parts c.ends.items c.inside.items ≡ map (cuts_of points) c.edges.keys →
    Contains c.edges.keys (a ∷ b ∷ []) ⊎ (cuts points a b ≡ []) → places_between (gathered c) a b ≡ cuts points a b
between_is points c a b is known =
    let keys = c.edges.keys in
    let key = a ∷ b ∷ [] in
    let at = position_or_len (pointwise nat_eq key) keys in
    ap (λ l. get_or l at []) is ∙ elim (cases_lt at (length keys)) as (λ _. get_or (map (cuts_of points) keys) at [] ≡ cuts points a b) [
      | inl l ↦
          let same = (slice_eq-Decides Decides-eqb key (get_or keys at []) _ refl).0 (passes_at_first (pointwise nat_eq key) keys [] l) in
          get_or-map (cuts_of points) keys at [] [] l ∙ ap (cuts_of points) (sym same)
      | inr l ↦ get_or_past (map (cuts_of points) keys) at [] (omega (arith, l, length-map keys (cuts_of points))) ∙ sym (none known l)
    ]
  where
    none : Contains c.edges.keys (a ∷ b ∷ []) ⊎ (cuts points a b ≡ []) → length c.edges.keys ≤ position_or_len (pointwise nat_eq (a ∷ b ∷ [])) c.edges.keys → cuts points a b ≡ []
    none (inr e) l = e
    none (inl there) l = absurd (omega (arith, l, key_found c.edges.keys (a ∷ b ∷ []) there))

-- there is a list for each edge
pub gathered_long : (points : List (List ℤ)) (seen : List (ℕ × ℕ)) (c : Pieces) → AreGathered points seen c → length c.ends.items ≡ length c.edges.keys
gathered_long points seen c h =
    omega (arith, ap length h.places, length-map-upto (part c.ends.items c.inside.items) (length c.ends.items), length-map c.edges.keys (cuts_of points))

-- where a place is told
pub position_told : {X : Type 0} (p : X → Bool) (xs : List X) (i : ℕ) → position p xs ≡ Some i → (i ≡ position_or_len p xs) × (i < length xs)
position_told p xs i e = by (cases_Bool (ltb (position_or_len p xs) (length xs)))
  where
    by : (ltb (position_or_len p xs) (length xs) ≡ true) ⊎ (ltb (position_or_len p xs) (length xs) ≡ false) → (i ≡ position_or_len p xs) × (i < length xs)
    by (inl y) =
        let some : Some (position_or_len p xs) ≡ Some i = sym (ap (λ b. cond b (Some (position_or_len p xs)) None) y) ∙ e in
        let same : position_or_len p xs ≡ i = cc in
        (sym same, omega (arith, same, ltb-true (position_or_len p xs) (length xs) y))
    by (inr n) = let none : None ≡ Some i = sym (ap (λ b. cond b (Some (position_or_len p xs)) None) n) ∙ e in absurd (cc)

-- and where none is
pub position_untold : {X : Type 0} (p : X → Bool) (xs : List X) → position p xs ≡ None → length xs ≤ position_or_len p xs
position_untold p xs e = by (cases_Bool (ltb (position_or_len p xs) (length xs)))
  where
    by : (ltb (position_or_len p xs) (length xs) ≡ true) ⊎ (ltb (position_or_len p xs) (length xs) ≡ false) → length xs ≤ position_or_len p xs
    by (inl y) = let some : Some (position_or_len p xs) ≡ None = sym (ap (λ b. cond b (Some (position_or_len p xs)) None) y) ∙ e in absurd (cc)
    by (inr n) = ltb-false (position_or_len p xs) (length xs) n

-- the list of a key that is told
pub part_told : (c : Pieces) (key : List ℕ) (i : ℕ) → length c.ends.items ≡ length c.edges.keys → position (pointwise nat_eq key) c.edges.keys ≡ Some i →
    part c.ends.items c.inside.items i ≡ get_or (parts c.ends.items c.inside.items) (position_or_len (pointwise nat_eq key) c.edges.keys) []
part_told c key i long e =
    let told = position_told (pointwise nat_eq key) c.edges.keys i e in
    sym (get_or-map-upto (part c.ends.items c.inside.items) (length c.ends.items) i [] (omega (arith, told.1, long)))
    ∙ ap (λ k. get_or (parts c.ends.items c.inside.items) k []) told.0

pub part_untold : (c : Pieces) (key : List ℕ) → length c.ends.items ≡ length c.edges.keys → position (pointwise nat_eq key) c.edges.keys ≡ None →
    [] ≡ get_or (parts c.ends.items c.inside.items) (position_or_len (pointwise nat_eq key) c.edges.keys) []
part_untold c key long e =
    sym (get_or_past (parts c.ends.items c.inside.items) (position_or_len (pointwise nat_eq key) c.edges.keys) []
    (omega (arith, position_untold (pointwise nat_eq key) c.edges.keys e, long, length-map-upto (part c.ends.items c.inside.items) (length c.ends.items))))

-- a list read from its end
pub rev_more : (ps : List ℕ) (i x : ℕ) → i < length ps → x ≡ get_or ps (length ps - 1 - i) x → take i (reverse ps) ++ x ∷ [] ≡ take (i + 1) (reverse ps)
rev_more ps i x low is =
    sym (take_more (reverse ps) i x (omega (arith, low, length-reverse ps)) ∙ ap (λ y. take i (reverse ps) ++ y ∷ []) (get_or-reverse ps i x low ∙ sym is))

pub rev_all : (ps : List ℕ) (i : ℕ) → length ps ≤ i → take i (reverse ps) ≡ reverse ps
rev_all ps i high = take_all i (reverse ps) (omega (arith, high, length-reverse ps))

-- a rim has more than its corners where some place lies inside an edge
pub more_corners : (a b c : ℕ) (xs ys zs : List ℕ) →
    (nat_lt 0 (length xs) || nat_lt 0 (length ys) || nat_lt 0 (length zs)) ≡ nat_lt 3 (length ((a ∷ xs) ++ (b ∷ ys) ++ (c ∷ zs)))
more_corners a b c xs ys zs =
    let long : length ((a ∷ xs) ++ (b ∷ ys) ++ (c ∷ zs)) ≡ 3 + (length xs + length ys + length zs) =
    omega (arith, length-append ((a ∷ xs) ++ (b ∷ ys)) (c ∷ zs), length-append (a ∷ xs) (b ∷ ys)) in
    by (length xs) (length ys) (length zs) ∙ ap (nat_lt 3) (sym long)
  where
    by : (x y z : ℕ) → (nat_lt 0 x || nat_lt 0 y || nat_lt 0 z) ≡ nat_lt 3 (3 + (x + y + z))
    by zero zero zero = refl
    by zero zero (suc z) = lt-ltb 0 (suc z) (omega arith) ∙ sym (lt-ltb 3 (3 + (0 + 0 + suc z)) (omega arith))
    by zero (suc y) z = ap (λ t. t || nat_lt 0 z) (lt-ltb 0 (suc y) (omega arith)) ∙ sym (lt-ltb 3 (3 + (0 + suc y + z)) (omega arith))
    by (suc x) y z = ap (λ t. t || nat_lt 0 y || nat_lt 0 z) (lt-ltb 0 (suc x) (omega arith)) ∙ sym (lt-ltb 3 (3 + (suc x + y + z)) (omega arith))

-- a key that a test finds is there
pub key_there : (keys : List (List ℕ)) (key : List ℕ) → list_any (pointwise nat_eq key) keys ≡ true → Contains keys key
key_there keys key h = Contains-from_any (λ x y. (slice_eq-Decides Decides-eqb x y (pointwise nat_eq x y) refl).0) key keys h

-- a list without members
pub no_members : {X : Type 0} (xs : List X) → length xs ≡ 0 → xs ≡ []
no_members [] e = refl
no_members (x ∷ xs) e = absurd (omega (arith, e))

-- the edges that are cut one by one
pub pairs_more : (long : List (List ℕ)) (i : ℕ) (e : List ℕ) → i < length long → e ≡ get_or long i e → map pair_of (take i long) ++ pair_of e ∷ [] ≡ map pair_of (take (i + 1) long)
pairs_more long i e low is =
    sym (ap (map pair_of) (take_more long i e low ∙ ap (λ x. take i long ++ x ∷ []) (sym is)) ∙ map-append pair_of (take i long) (e ∷ []))

pub up_at : (n : ℕ) (long : List (List ℕ)) (i : ℕ) (e : List ℕ) → All (IsUpBelow n) (map pair_of long) → i < length long → e ≡ get_or long i e → IsUpBelow n (pair_of e)
up_at n long i e all low is = subst (IsUpBelow n) (get_or-map pair_of long i e (0, 0) low ∙ ap pair_of (sym is)) (all i (0, 0) (omega (arith, low, length-map long pair_of)))

-- where no edge is cut rims have their corners alone
pub none_cut : (c : CutEdges) → c.places ≡ [] → (t : Triple) → false ≡ nat_lt 3 (length (cut_rim c t))
none_cut c e t =
    more_corners t.0 t.1 t.2 [] [] []
    ∙ sym (ap (λ l. nat_lt 3 (length ((t.0 ∷ l) ++ (t.1 ∷ places_from c t.1 t.2) ++ (t.2 ∷ places_from c t.2 t.0)))) (none_from t.0 t.1)
    ∙ ap (λ l. nat_lt 3 (length ((t.0 ∷ []) ++ (t.1 ∷ l) ++ (t.2 ∷ places_from c t.2 t.0)))) (none_from t.1 t.2)
    ∙ ap (λ l. nat_lt 3 (length ((t.0 ∷ []) ++ (t.1 ∷ []) ++ (t.2 ∷ l)))) (none_from t.2 t.0))
  where
    none_between : (a b : ℕ) → places_between c a b ≡ []
    none_between a b = ap (λ l. get_or l (position_or_len (pointwise nat_eq (a ∷ b ∷ [])) c.edges) []) e

    none_from : (a b : ℕ) → places_from c a b ≡ []
    none_from a b = by (nat_lt a b)
      where
        by : (s : Bool) → cond s (places_between c a b) (reverse (places_between c b a)) ≡ []
        by true = none_between a b
        by false = ap reverse (none_between b a)

pub none_gathered : (c : Pieces) → c.edges.keys ≡ [] → length c.ends.items ≡ length c.edges.keys → parts c.ends.items c.inside.items ≡ []
none_gathered c e long = ap (λ l. parts l c.inside.items) (no_members c.ends.items (long ∙ ap length e))

-- one of three edges is cut
pub some_cut : (c : CutEdges) (t : Triple) (x y z : Bool) → x ≡ nat_lt 0 (length (places_from c t.0 t.1)) → y ≡ nat_lt 0 (length (places_from c t.1 t.2)) →
    z ≡ nat_lt 0 (length (places_from c t.2 t.0)) → (x || y || z) ≡ nat_lt 3 (length (cut_rim c t))
some_cut c t x y z ex ey ez = rw (ex, ey, ez) (more_corners t.0 t.1 t.2 (places_from c t.0 t.1) (places_from c t.1 t.2) (places_from c t.2 t.0))
