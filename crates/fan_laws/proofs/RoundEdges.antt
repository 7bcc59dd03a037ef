-- The half-edges between two places, in order round the edge: as many run one way as the other, so each has a partner.
use Rattle.std.proofs.Common.{◌≡◌, ◌<◌, ◌≤◌, ◌+◌, ◌⊎◌, ℕ, zero, suc, ℤ, pos, Bool, true, false, cond, List, [], ◌∷◌, length, get_or, filter, refl, sym, ◌∙◌, ap, subst, arith, inl, inr}
use Rattle.std.specs.Prelude.{not, count_by, ◌==◌, ◌&&◌, ◌||◌, if◌then◌else◌}
use Rattle.std.specs.List.{All, Contains}
use Rattle.std.proofs.lemmas.Int.{ints}
use Rattle.std.proofs.lemmas.Bool.{and_parts, and_from, both_ways, cases_Bool, cases_eq, cases_lt, eq-eqb, eqb-true, le-ltb, lt-ltb, ne_eqb, not-true, or_cases, or_left, or_right}
use Rattle.std.proofs.lemmas.List.{length-map}
use Rattle.chain_terms.specs.Chains.{IsClosed, all_edges, dir, is_edge, one_if}
use Rattle.chain_terms.specs.Ranks.{finish, start}
use Rattle.chain_terms.specs.Sums.{total, upto}
use Rattle.chain_laws.specs.Chains.{edge_is}
use Rattle.chain_laws.specs.Counts.{count_by-cons, total-count_by}
use Rattle.chain_laws.proofs.Ascending.{filter-ascends, kept, kept_at}
use Rattle.chain_laws.proofs.Places.{length-up_from, total-places, total-upto_same}
use Rattle.halfedge.proofs.Edges.{length-all_edges}
use Rattle.halfedge.proofs.Listed.{listed}
use Rattle.mesh_terms.specs.Meshes.{HasThree, Triple}
use Rattle.sheet_terms.specs.Places.{ordered, put}
use Rattle.sheet_terms.specs.Twins.{between, bracket_twin, turns_before, twin_by_angle, twins_by_angle}
use Rattle.fan_laws.specs.Circles.{AreBrackets}
use Rattle.fan_laws.specs.Laws.{TwinsByAngleArePaired}
use Rattle.fan_laws.proofs.Matching.{AreDifferent, brackets_match}
use Rattle.fan_laws.proofs.Members.{at_place, member}
use Rattle.fan_laws.proofs.Settling.{no_loop}

-- putting in order keeps counts
count_put : (p : ℕ → Bool) (before : ℕ → ℕ → Bool) (x : ℕ) (ys : List ℕ) → count_by p (put before x ys) ≡ one_if (p x) + count_by p ys
count_put p before x [] = count_by-cons p x []
count_put p before x (y ∷ ys) = elim (cases_Bool (before x y)) as (λ _. count_by p (put before x (y ∷ ys)) ≡ one_if (p x) + count_by p (y ∷ ys)) [
  | inl first ↦ ap (λ b. count_by p (if b then x ∷ y ∷ ys else y ∷ put before x ys)) first ∙ count_by-cons p x (y ∷ ys)
  | inr later ↦
      let put_later = ap (λ b. count_by p (if b then x ∷ y ∷ ys else y ∷ put before x ys)) later in
      omega (arith, put_later, count_by-cons p y (put before x ys), count_put p before x ys, count_by-cons p y ys)
]

pub count_ordered : (p : ℕ → Bool) (before : ℕ → ℕ → Bool) (xs : List ℕ) → count_by p (ordered before xs) ≡ count_by p xs
count_ordered p before [] = refl
count_ordered p before (x ∷ xs) = omega (arith, count_put p before x (ordered before xs), count_ordered p before xs, count_by-cons p x xs)

-- how often a number is a member
abbrev pub often : ℕ → List ℕ → ℕ
often z xs = count_by (λ g. g == z) xs

pub often_member : (xs : List ℕ) (z : ℕ) → Contains xs z → 0 < often z xs
often_member [] z (i, l, e) = absurd (omega (arith, l))
often_member (x ∷ xs) z (zero, l, e) = omega (arith, count_by-cons (λ g. g == z) x xs, ap one_if (eq-eqb x z e))
often_member (x ∷ xs) z (suc i, l, e) = omega (arith, count_by-cons (λ g. g == z) x xs, often_member xs z (i, omega (arith, l), e))

pub member_often : (xs : List ℕ) (z : ℕ) → 0 < often z xs → Contains xs z
member_often [] z some = absurd (omega (arith, some))
member_often (x ∷ xs) z some = elim (cases_eq x z) as (λ _. Contains (x ∷ xs) z) [
  | inl e ↦ (0, omega arith, e)
  | inr apart ↦
      let rest = member_often xs z (omega (arith, some, count_by-cons (λ g. g == z) x xs, ap one_if (ne_eqb x z apart))) in
      (suc rest.0, omega (arith, rest.1), rest.2)
]

-- members that differ are there once, and the other way about
pub often_once : (xs : List ℕ) → AreDifferent xs → (z : ℕ) → often z xs ≤ 1
often_once [] differ z = omega arith
often_once (x ∷ xs) differ z =
    let rest = often_once xs (λ i j less low. differ (suc i) (suc j) (omega (arith, less)) (omega (arith, low))) z in
    elim (cases_eq x z) as (λ _. often z (x ∷ xs) ≤ 1) [
      | inl e ↦ elim (cases_lt 0 (often z xs)) as (λ _. often z (x ∷ xs) ≤ 1) [
        | inl some ↦
            let there = at_place xs z (member_often xs z some) in absurd (differ 0 (suc there.0) (omega arith) (omega (arith, there.1)) (e ∙ sym there.2))
        | inr none ↦ omega (arith, count_by-cons (λ g. g == z) x xs, ap one_if (eq-eqb x z e), none)
      ]
      | inr apart ↦ omega (arith, count_by-cons (λ g. g == z) x xs, ap one_if (ne_eqb x z apart), rest)
    ]

pub differ_once : (xs : List ℕ) → ((z : ℕ) → often z xs ≤ 1) → AreDifferent xs
differ_once [] once i j less low = absurd (omega (arith, low))
differ_once (x ∷ xs) once i zero less low = absurd (omega (arith, less))
differ_once (x ∷ xs) once zero (suc j) less low =
    λ same. omega (
      arith,
      once x,
      count_by-cons (λ g. g == x) x xs,
      ap one_if (eq-eqb x x refl),
      often_member xs x (subst (Contains xs) (sym same) (member xs j (omega (arith, low)))),
    )
differ_once (x ∷ xs) once (suc i) (suc j) less low =
    differ_once xs (λ z. omega (arith, once z, count_by-cons (λ g. g == z) x xs)) i j (omega (arith, less)) (omega (arith, low))

-- a count of what a filter keeps
count_filter : (p q : ℕ → Bool) (xs : List ℕ) → count_by q (filter p xs) ≡ count_by (λ x. p x && q x) xs
count_filter p q [] = refl
count_filter p q (x ∷ xs) = elim (cases_Bool (p x)) as (λ _. count_by q (filter p (x ∷ xs)) ≡ count_by (λ y. p y && q y) (x ∷ xs)) [
  | inl some ↦
      let front = ap (λ b. count_by q (cond b (x ∷ filter p xs) (filter p xs))) some in
      omega (arith, front, count_by-cons q x (filter p xs), count_filter p q xs, count_by-cons (λ y. p y && q y) x xs, ap (λ b. one_if (b && q x)) some)
  | inr none ↦
      let front = ap (λ b. count_by q (cond b (x ∷ filter p xs) (filter p xs))) none in
      omega (arith, front, count_filter p q xs, count_by-cons (λ y. p y && q y) x xs, ap (λ b. one_if (b && q x)) none)
]

module _ (es : List (ℕ × ℕ)) where
  abbrev pub edge : ℕ → ℕ × ℕ
  edge h = get_or es h (0, 0)

  -- an edge is there as often as half-edges run as it
  dir_counts : (a b : ℕ) (p : ℕ → Bool) → ((h : ℕ) → h < length es → p h ≡ is_edge (edge h) a b) → pos (count_by p (upto (length es))) ≡ pos (dir es a b)
  dir_counts a b p same =
      let over = total-count_by p (upto (length es)) in
      let each = total-upto_same (λ h. pos (one_if (p h))) (λ h. pos (one_if (is_edge (edge h) a b))) (length es) (λ h low. ap (λ t. pos (one_if t)) (same h low)) in
      let places = total-places (λ e. pos (one_if (is_edge e a b))) (0, 0) es in
      sym over ∙ each ∙ sym places ∙ counted es
    where
      counted : (ms : List (ℕ × ℕ)) → total (λ e. pos (one_if (is_edge e a b))) ms ≡ pos (dir ms a b)
      counted [] = refl
      counted (e ∷ ms) = omega (arith, ints, counted ms)

  module _ (x y : ℕ) (less : x < y) where
    abbrev test : ℕ → Bool
    test h = is_edge (edge h) x y || is_edge (edge h) y x

    abbrev pub opens : ℕ → Bool
    opens h = start es h == y

    -- a half-edge between the two, and the way that it runs
    pub record IsBetween (h : ℕ) : Type 0 where
      pub below : h < length es
      pub up : opens h ≡ false → (start es h ≡ x) × (finish es h ≡ y)
      pub down : opens h ≡ true → (start es h ≡ y) × (finish es h ≡ x)

    means : (h : ℕ) → h < length es → test h ≡ true → IsBetween h
    means h low passes = elim (or_cases (is_edge (edge h) x y) (is_edge (edge h) y x) passes) as (λ _. IsBetween h) [
      | inl forth ↦
          let e = edge_is (edge h) x y forth in
          record { below = low; up = λ _. e; down = λ starts. absurd (omega (arith, less, e.0, eqb-true (start es h) y starts)) }
      | inr back ↦
          let e = edge_is (edge h) y x back in
          record { below = low; up = λ other. absurd (both_ways (opens h) other (eq-eqb (start es h) y e.0)); down = λ _. e }
    ]

    pub is_between : (h : ℕ) → Contains (between es x y) h → IsBetween h
    is_between h there =
        let place = at_place (between es x y) h there in
        let is = kept_at test 0 (length es) place.0 place.1 in
        subst IsBetween place.2 (means (get_or (between es x y) place.0 0) (omega (arith, is.high)) is.passes)

    pub between_from : (h : ℕ) → h < length es → ((start es h ≡ x) × (finish es h ≡ y)) ⊎ ((start es h ≡ y) × (finish es h ≡ x)) → Contains (between es x y) h
    between_from h low ends = kept test 0 (length es) h (record { low = omega arith; high = omega (arith, low); passes = passes })
      where
        runs : (a b : ℕ) → start es h ≡ a → finish es h ≡ b → is_edge (edge h) a b ≡ true
        runs a b p q = and_from (start es h == a) (finish es h == b) (eq-eqb (start es h) a p) (eq-eqb (finish es h) b q)

        passes : test h ≡ true
        passes = elim ends as (λ _. test h ≡ true) [
          | inl e ↦ or_left (is_edge (edge h) x y) (is_edge (edge h) y x) (runs x y e.0 e.1)
          | inr e ↦ or_right (is_edge (edge h) x y) (is_edge (edge h) y x) (runs y x e.0 e.1)
        ]

    between_differ : AreDifferent (between es x y)
    between_differ i j low high same = omega (arith, filter-ascends test 0 (length es) i j low high, same)

    -- those that open run down, and the others up
    opens_down : (h : ℕ) → (test h && opens h) ≡ is_edge (edge h) y x
    opens_down h = elim (cases_Bool (is_edge (edge h) y x)) as (λ _. (test h && opens h) ≡ is_edge (edge h) y x) [
      | inl down ↦
          let e = edge_is (edge h) y x down in
          and_from (test h) (opens h) (or_right (is_edge (edge h) x y) (is_edge (edge h) y x) down) (eq-eqb (start es h) y e.0) ∙ sym down
      | inr other ↦ elim (cases_Bool (test h && opens h)) as (λ _. (test h && opens h) ≡ is_edge (edge h) y x) [
        | inl both ↦
            let p = and_parts (test h) (opens h) both in
            absurd (elim (or_cases (is_edge (edge h) x y) (is_edge (edge h) y x) p.0) as (λ _. ⊥) [
              | inl up ↦ omega (arith, less, (edge_is (edge h) x y up).0, eqb-true (start es h) y p.1)
              | inr down ↦ both_ways (is_edge (edge h) y x) other down
            ])
        | inr none ↦ none ∙ sym other
      ]
    ]

    closes_up : (h : ℕ) → (test h && not (opens h)) ≡ is_edge (edge h) x y
    closes_up h = elim (cases_Bool (is_edge (edge h) x y)) as (λ _. (test h && not (opens h)) ≡ is_edge (edge h) x y) [
      | inl up ↦
          let e = edge_is (edge h) x y up in
          and_from (test h) (not (opens h)) (or_left (is_edge (edge h) x y) (is_edge (edge h) y x) up)
          (ap not (ne_eqb (start es h) y (λ same. omega (arith, less, same, e.0))))
          ∙ sym up
      | inr other ↦ elim (cases_Bool (test h && not (opens h))) as (λ _. (test h && not (opens h)) ≡ is_edge (edge h) x y) [
        | inl both ↦
            let p = and_parts (test h) (not (opens h)) both in
            absurd (elim (or_cases (is_edge (edge h) x y) (is_edge (edge h) y x) p.0) as (λ _. ⊥) [
              | inl up ↦ both_ways (is_edge (edge h) x y) other up
              | inr down ↦ both_ways (opens h) (not-true (opens h) p.1) (eq-eqb (start es h) y (edge_is (edge h) y x down).0)
            ])
        | inr none ↦ none ∙ sym other
      ]
    ]

    pub between_brackets : IsClosed es → (before : ℕ → ℕ → Bool) → AreBrackets opens (ordered before (between es x y))
    between_brackets closed before = record {
      differ = differ_once (ordered before (between es x y))
          (λ z. omega (arith, count_ordered (λ g. g == z) before (between es x y), often_once (between es x y) between_differ z));
      even =
          let downs = dir_counts y x (λ h. test h && opens h) (λ h low. opens_down h) in
          let ups = dir_counts x y (λ h. test h && not (opens h)) (λ h low. closes_up h) in
          omega (
            arith,
            ints,
            downs,
            ups,
            closed x y,
            count_filter test opens (upto (length es)),
            count_filter test (λ h. not (opens h)) (upto (length es)),
            count_ordered opens before (between es x y),
            count_ordered (λ h. not (opens h)) before (between es x y),
          );
    }

    pub in_order : (before : ℕ → ℕ → Bool) (h : ℕ) → Contains (between es x y) h → Contains (ordered before (between es x y)) h
    in_order before h there =
        member_often (ordered before (between es x y)) h (omega (arith, count_ordered (λ g. g == h) before (between es x y), often_member (between es x y) h there))

    pub from_order : (before : ℕ → ℕ → Bool) (h : ℕ) → Contains (ordered before (between es x y)) h → Contains (between es x y) h
    from_order before h there =
        member_often (between es x y) h
        (omega (arith, count_ordered (λ g. g == h) before (between es x y), often_member (ordered before (between es x y)) h there))

module _ (points : List (List ℤ)) (ts : List Triple) (three : All HasThree ts) (closed : IsClosed (all_edges ts)) where
  abbrev es : List (ℕ × ℕ)
  es = all_edges ts

  abbrev twin : ℕ → ℕ
  twin h = twin_by_angle points es h

  -- the twin of a half-edge runs back, and is the twin of its twin
  pub record IsTwin (h g : ℕ) : Type 0 where
    pub is : twin h ≡ g
    pub below : g < length es
    pub back : twin g ≡ h
    pub from : start es g ≡ finish es h
    pub to : finish es g ≡ start es h

  -- by which end is lesser
  pub rising : (h x y : ℕ) → start es h ≡ x → finish es h ≡ y → x < y → twin h ≡ bracket_twin points es x y h
  rising h x y p q less =
      ap (λ b. if b then bracket_twin points es (start es h) (finish es h) h else bracket_twin points es (finish es h) (start es h) h)
      (lt-ltb (start es h) (finish es h) (omega (arith, less, p, q)))
      ∙ (λ i. bracket_twin points es (p i) (q i) h)

  pub falling : (h x y : ℕ) → start es h ≡ y → finish es h ≡ x → x < y → twin h ≡ bracket_twin points es x y h
  falling h x y p q less =
      ap (λ b. if b then bracket_twin points es (start es h) (finish es h) h else bracket_twin points es (finish es h) (start es h) h)
      (le-ltb (start es h) (finish es h) (omega (arith, less, p, q)))
      ∙ (λ i. bracket_twin points es (q i) (p i) h)

  module _ (x y : ℕ) (less : x < y) where
    abbrev before : ℕ → ℕ → Bool
    before = turns_before points es x y (get_or (between es x y) 0 0)

    brackets : AreBrackets (opens es x y less) (ordered before (between es x y))
    brackets = between_brackets es x y less closed before

    pub twin_is : (h : ℕ) → Contains (between es x y) h → twin h ≡ bracket_twin points es x y h
    twin_is h there =
        let is = is_between es x y less h there in
        elim (cases_Bool (opens es x y less h)) as (λ _. twin h ≡ bracket_twin points es x y h) [
          | inl down ↦ let e = is.down down in falling h x y e.0 e.1 less
          | inr up ↦ let e = is.up up in rising h x y e.0 e.1 less
        ]

    has_twin : (h : ℕ) → Contains (between es x y) h → (g : ℕ) × IsTwin h g
    has_twin h there =
        let mate = brackets_match (opens es x y less) (ordered before (between es x y)) brackets h (in_order es x y less before h there) in
        let g = mate.mate in
        let g_there = from_order es x y less before g mate.within in
        let is = is_between es x y less h there in
        let other = is_between es x y less g g_there in
        elim (cases_Bool (opens es x y less h)) as (λ _. (g : ℕ) × IsTwin h g) [
          | inl down ↦
              let e = is.down down in
              let d = other.up (mate.other ∙ ap not down) in
              (g, record { is = twin_is h there ∙ mate.to; below = other.below; back = twin_is g g_there ∙ mate.back; from = d.0 ∙ sym e.1; to = d.1 ∙ sym e.0 })
          | inr up ↦
              let e = is.up up in
              let d = other.down (mate.other ∙ ap not up) in
              (g, record { is = twin_is h there ∙ mate.to; below = other.below; back = twin_is g g_there ∙ mate.back; from = d.0 ∙ sym e.1; to = d.1 ∙ sym e.0 })
        ]

  pub each_has : (h : ℕ) → h < length es → (g : ℕ) × IsTwin h g
  each_has h low = elim (cases_lt (start es h) (finish es h)) as (λ _. (g : ℕ) × IsTwin h g) [
    | inl less ↦ has_twin (start es h) (finish es h) less h (between_from es (start es h) (finish es h) less h low (inl (refl, refl)))
    | inr more ↦
        let apart = no_loop ts three h low in
        let less : finish es h < start es h = omega (arith, more, apart) in
        has_twin (finish es h) (start es h) less h (between_from es (finish es h) (start es h) less h low (inr (refl, refl)))
  ]

  pub angle_read : (h : ℕ) → h < length es → get_or (twins_by_angle points ts) h 0 ≡ twin h
  angle_read h low = listed twin (length es) h 0 low

pub twins_by_angle_are_paired : TwinsByAngleArePaired
twins_by_angle_are_paired points ts three closed = record {
  full = many;
  are = record { below = λ h low. below h (subst (λ k. h < k) many low); back = λ h low. back h (subst (λ k. h < k) many low); whole = omega (arith, many, length-all_edges ts) };
  from = λ h low. let is = (each_has points ts three closed h low).1 in ap (start (all_edges ts)) (read h low) ∙ is.from;
  to = λ h low. let is = (each_has points ts three closed h low).1 in ap (finish (all_edges ts)) (read h low) ∙ is.to;
}
  where
    many : length (twins_by_angle points ts) ≡ length (all_edges ts)
    many = length-map (upto (length (all_edges ts))) (twin_by_angle points (all_edges ts)) ∙ length-up_from 0 (length (all_edges ts))

    read : (h : ℕ) → (low : h < length (all_edges ts)) → get_or (twins_by_angle points ts) h 0 ≡ (each_has points ts three closed h low).0
    read h low = angle_read points ts three closed h low ∙ (each_has points ts three closed h low).1.is

    below : (h : ℕ) → h < length (all_edges ts) → get_or (twins_by_angle points ts) h 0 < length (twins_by_angle points ts)
    below h low = subst (λ g. g < length (twins_by_angle points ts)) (sym (read h low)) (omega (arith, (each_has points ts three closed h low).1.below, many))

    back : (h : ℕ) → h < length (all_edges ts) → get_or (twins_by_angle points ts) (get_or (twins_by_angle points ts) h 0) 0 ≡ h
    back h low =
        let has = each_has points ts three closed h low in
        ap (λ g. get_or (twins_by_angle points ts) g 0) (read h low) ∙ angle_read points ts three closed has.0 has.1.below ∙ has.1.back
