-- The two sorted ways of a bucket, read side by side: the k-th edge from a to b goes with the k-th from b to a.
use Rattle.std.proofs.Common.{◌≡◌, ◌<◌, ◌≤◌, ◌+◌, ◌-◌, ◌⊎◌, inl, inr, ℕ, min, Bool, true, false, List, [], ◌∷◌, length, get_or, set, refl, sym, ◌∙◌, ap, subst, arith, below_more, get_or-set_other, get_or-set_same}
use Rattle.std.specs.Prelude.{nat_le, nat_lt, cond, ◌==◌}
use Rattle.std.specs.List.{filter}
use Rattle.std.proofs.lemmas.Bool.{cases_Bool, cases_lt, cases_order, and_parts, ltb-true, lt-ltb, eqb-true}
use Rattle.std.proofs.lemmas.Bool.Decides.{nat_tests}
use Rattle.std.proofs.lemmas.List.{get_or_default, length-map, length-set}
use Rattle.chain_terms.specs.Chains.{dir, is_edge, one_if}
use Rattle.chain_terms.specs.Odd.{backward, turned_edge}
use Rattle.chain_laws.specs.Chains.{is_self, dir-count_by}
use Rattle.chain_laws.specs.Counts.{count_by-cons}
use Rattle.chain_terms.specs.Ranks.{rank, start, finish, runs_as}
use Rattle.chain_laws.proofs.Ranks.{rank_below}
use Rattle.mesh_terms.specs.OpenEdges.{is_lesser}
use Rattle.halfedge.specs.Pairing.{Half, numbered, half_at, ends, ends_of, IsSortOf}
use Rattle.halfedge.specs.Ways.{lesser_end, lesser_end_at, EndsDiffer, edge_lies_in, lies_in, AreWays}
use Rattle.halfedge.proofs.PairedBuckets.{way_count, ups_count, downs_count}
use Rattle.halfedge.proofs.Order.{one_edge, same_edge, is_itself}
use Rattle.halfedge.proofs.Positions.{lesser_count}
use Rattle.halfedge.proofs.Single.{ends_at}
use Rattle.halfedge.proofs.NumberedHalves.{edge_at, lesser_count_more}
use Rattle.halfedge.proofs.TwinWays.{IsPlacedIn, placed_in, placed_lies, rank_backward, backward_at, up_placed, down_placed}
use Rattle.mesh_check.specs.Cancelling.{is_left, AreMarked}

-- how many edges run as x
abbrev same_count : List (ℕ × ℕ) → ℕ × ℕ → ℕ
same_count es x = dir es x.0 x.1

-- the lesser edges and those that run as x are some of all
lesser_and_same : (es : List (ℕ × ℕ)) (x : ℕ × ℕ) → lesser_count es x + same_count es x ≤ length es
lesser_and_same [] x = omega arith
lesser_and_same (e ∷ es) x = omega (arith, count_by-cons (λ d. is_lesser d x) e es, at_most_one e x, lesser_and_same es x)
  where
    at_most_one : (e x : ℕ × ℕ) → one_if (is_lesser e x) + one_if (is_edge e x.0 x.1) ≤ 1
    at_most_one e x = grind (arith, nat_tests)

-- of two edges one is lesser, or they are the same
data Compared (x y : ℕ × ℕ) : Type 0 where
  Lesser : is_lesser x y ≡ true → Compared x y
  Same : x ≡ y → Compared x y
  More : is_lesser y x ≡ true → Compared x y

compared : (x y : ℕ × ℕ) → Compared x y
compared x y = elim (cases_Bool (is_lesser x y)) as (λ _. Compared x y) [
  | inl less ↦ Lesser less
  | inr not_less ↦ elim (cases_Bool (is_lesser y x)) as (λ _. Compared x y) [
    | inl more ↦ More more
    | inr not_more ↦ Same (same_edge x y (one_edge x y not_less not_more y.0 y.1 ∙ is_itself y))
  ]
]

-- at place i of the sorted edges stands x
pub record Stands (es : List (ℕ × ℕ)) (i : ℕ) (x : ℕ × ℕ) : Type 0 where
  pub low : lesser_count es x ≤ i
  pub high : i < lesser_count es x + same_count es x

-- all that run as x stand before place i
abbrev pub IsPassed : List (ℕ × ℕ) → ℕ → ℕ × ℕ → Type 0
IsPassed es i x = lesser_count es x + same_count es x ≤ i

-- of each edge as many are passed in both lists, as far as both have it
abbrev pub IsLevel : List (ℕ × ℕ) → List (ℕ × ℕ) → ℕ → ℕ → Type 0
IsLevel es fs i j = (x : ℕ × ℕ) → min (i - lesser_count es x) (min (same_count es x) (same_count fs x)) ≡ min (j - lesser_count fs x) (min (same_count es x) (same_count fs x))

-- that is so with the lists exchanged
level_exchanged : (es fs : List (ℕ × ℕ)) (i j : ℕ) → IsLevel es fs i j → IsLevel fs es j i
level_exchanged es fs i j level x = omega (arith, level x)

-- both lists have the edge, and pass it
level_same : (es fs : List (ℕ × ℕ)) (i j : ℕ) (x : ℕ × ℕ) → Stands es i x → Stands fs j x → IsLevel es fs i j → IsLevel es fs (i + 1) (j + 1)
level_same es fs i j x here there level z =
    elim (compared z x) as (λ _. min (i + 1 - lesser_count es z) (min (same_count es z) (same_count fs z)) ≡ min (j + 1 - lesser_count fs z)
    (min (same_count es z) (same_count fs z))) [
      | Lesser less ↦ omega (arith, level z, here.low, there.low, lesser_count_more es z x less, lesser_count_more fs z x less)
      | Same is ↦
          let at : Stands es i z = subst (Stands es i) (sym is) here in
          let back : Stands fs j z = subst (Stands fs j) (sym is) there in
          omega (arith, level z, at.low, at.high, back.low, back.high)
      | More more ↦ omega (arith, level z, here.high, there.high, lesser_count_more es x z more, lesser_count_more fs x z more)
    ]

-- the first list's edge is passed, where all that run so are passed in the second
level_more : (es fs : List (ℕ × ℕ)) (i j : ℕ) (x : ℕ × ℕ) → Stands es i x → IsPassed fs j x → IsLevel es fs i j → IsLevel es fs (i + 1) j
level_more es fs i j x here passed level z =
    elim (compared z x) as (λ _. min (i + 1 - lesser_count es z) (min (same_count es z) (same_count fs z)) ≡ min (j - lesser_count fs z)
    (min (same_count es z) (same_count fs z))) [
      | Lesser less ↦ omega (arith, level z, here.low, lesser_count_more es z x less)
      | Same is ↦
          let past : IsPassed fs j z = subst (IsPassed fs j) (sym is) passed in
          omega (arith, level z, past)
      | More more ↦ omega (arith, level z, here.high, lesser_count_more es x z more)
    ]

-- tests of numbers
le_true : (m n : ℕ) → m ≤ n → nat_le m n ≡ true
le_true m n h = grind (arith, nat_tests, h)

le_false : (m n : ℕ) → n < m → nat_le m n ≡ false
le_false m n h = grind (arith, nat_tests, h)

-- half-edge g, where x stands at place p of its way: it is left where those that run back are no more than those before it
pub record IsAt (es : List (ℕ × ℕ)) (key : ℕ → ℕ) (k : ℕ) (ones others : List (ℕ × ℕ)) (p g : ℕ) (x : ℕ × ℕ) : Type 0 where
  pub within : g < length es
  pub keyed : key (lesser_end_at es g) ≡ k
  pub stands : Stands ones p x
  pub left : is_left es g ≡ nat_le (same_count others x) (p - lesser_count ones x)

-- it is left where from a place before it all that run back are passed
left_more : (es : List (ℕ × ℕ)) (key : ℕ → ℕ) (k : ℕ) (ones others : List (ℕ × ℕ)) (i j p g : ℕ) (x : ℕ × ℕ) → IsAt es key k ones others p g x → i ≤ p →
    IsLevel ones others i j → IsPassed others j x → is_left es g ≡ true
left_more es key k ones others i j p g x at low level passed =
    at.left ∙ le_true (same_count others x) (p - lesser_count ones x) (omega (arith, low, at.stands.low, at.stands.high, level x, passed))

-- it is not left where one that runs back is passed with it
left_same : (es : List (ℕ × ℕ)) (key : ℕ → ℕ) (k : ℕ) (ones others : List (ℕ × ℕ)) (i j g : ℕ) (x : ℕ × ℕ) → IsAt es key k ones others i g x →
    IsLevel ones others i j → Stands others j x → is_left es g ≡ false
left_same es key k ones others i j g x at level there =
    at.left ∙ le_false (same_count others x) (i - lesser_count ones x) (omega (arith, at.stands.low, at.stands.high, level x, there.low, there.high))

-- what stands at the places of two ways, different half-edges at different places
pub record AreKnown (es : List (ℕ × ℕ)) (key : ℕ → ℕ) (k : ℕ) (ones others : List Half) : Type 0 where
  pub first : (p : ℕ) → p < length ones → IsAt es key k (ends_of ones) (ends_of others) p (half_at ones p) (ends_at ones p)
  pub second : (p : ℕ) → p < length others → IsAt es key k (ends_of others) (ends_of ones) p (half_at others p) (ends_at others p)
  pub first_once : (p q : ℕ) → p < length ones → q < length ones → half_at ones p ≡ half_at ones q → p ≡ q
  pub second_once : (p q : ℕ) → p < length others → q < length others → half_at others p ≡ half_at others q → p ≡ q
  pub apart : (p q : ℕ) → p < length ones → q < length others → half_at ones p ≡ half_at others q → ⊥

-- the same with the ways exchanged
known_exchanged : (es : List (ℕ × ℕ)) (key : ℕ → ℕ) (k : ℕ) (ones others : List Half) → AreKnown es key k ones others → AreKnown es key k others ones
known_exchanged es key k ones others known = record {
  first = known.second;
  second = known.first;
  first_once = known.second_once;
  second_once = known.first_once;
  apart = λ p q below low same. known.apart q p low below (sym same);
}

-- one way is read to i: the marks of what stands before say what is left, the others are set
pub record IsReadTo (es : List (ℕ × ℕ)) (xs : List Half) (i : ℕ) (left : List Bool) : Type 0 where
  pub done : (p : ℕ) → p < i → p < length xs → get_or left (half_at xs p) true ≡ is_left es (half_at xs p)
  pub rest : (p : ℕ) → i ≤ p → p < length xs → get_or left (half_at xs p) true ≡ true

-- one more is read, which is left
one_left : (es : List (ℕ × ℕ)) (xs : List Half) (i : ℕ) (left : List Bool) → i < length xs → is_left es (half_at xs i) ≡ true → IsReadTo es xs i left → IsReadTo es xs (i + 1) left
one_left es xs i left low is read = record {
  done = below_more (λ p. p < length xs → get_or left (half_at xs p) true ≡ is_left es (half_at xs p)) i read.done (λ _. read.rest i (omega arith) low ∙ sym is);
  rest = λ p later. read.rest p (omega (arith, later));
}

-- one more is read, whose mark goes
one_goes : (es : List (ℕ × ℕ)) (xs : List Half) (i : ℕ) (left : List Bool) → i < length xs → half_at xs i < length left → is_left es (half_at xs i) ≡ false →
    ((p q : ℕ) → p < length xs → q < length xs → half_at xs p ≡ half_at xs q → p ≡ q)
    → IsReadTo es xs i left → IsReadTo es xs (i + 1) (set left (half_at xs i) false)
one_goes es xs i left low within is once read = record {
  done = below_more (λ p. p < length xs → get_or (set left (half_at xs i) false) (half_at xs p) true ≡ is_left es (half_at xs p)) i
      (λ p before below. stays p below (λ same. absurd (omega (arith, before, once p i below low same))) ∙ read.done p before below)
      (λ _. get_or-set_same left (half_at xs i) false true within ∙ sym is);
  rest = λ p later below. stays p below (λ same. absurd (omega (arith, later, once p i below low same))) ∙ read.rest p (omega (arith, later)) below;
}
  where
    stays : (p : ℕ) → p < length xs → (half_at xs p ≡ half_at xs i → ⊥) → get_or (set left (half_at xs i) false) (half_at xs p) true ≡ get_or left (half_at xs p) true
    stays p below other = get_or-set_other left (half_at xs i) (half_at xs p) false true other

-- the mark of another half-edge goes
other_goes : (es : List (ℕ × ℕ)) (xs : List Half) (i g : ℕ) (left : List Bool) → ((p : ℕ) → p < length xs → half_at xs p ≡ g → ⊥) → IsReadTo es xs i left →
    IsReadTo es xs i (set left g false)
other_goes es xs i g left other read = record {
  done = λ p before below. get_or-set_other left g (half_at xs p) false true (other p below) ∙ read.done p before below;
  rest = λ p later below. get_or-set_other left g (half_at xs p) false true (other p below) ∙ read.rest p later below;
}

-- both ways are read, to i and j; the marks of half-edges in other buckets are as before
pub record IsRead (es : List (ℕ × ℕ)) (key : ℕ → ℕ) (k : ℕ) (ones others : List Half) (i j : ℕ) (old left : List Bool) : Type 0 where
  pub level : IsLevel (ends_of ones) (ends_of others) i j
  pub first : IsReadTo es ones i left
  pub second : IsReadTo es others j left
  pub kept : (h : ℕ) → (key (lesser_end_at es h) ≡ k → ⊥) → get_or left h true ≡ get_or old h true

-- the same with the ways exchanged
read_exchanged : (es : List (ℕ × ℕ)) (key : ℕ → ℕ) (k : ℕ) (ones others : List Half) (i j : ℕ) (old left : List Bool) →
    IsRead es key k ones others i j old left → IsRead es key k others ones j i old left
read_exchanged es key k ones others i j old left read = record {
  level = level_exchanged (ends_of ones) (ends_of others) i j read.level;
  first = read.second;
  second = read.first;
  kept = read.kept;
}

-- nothing is read
pub none_read : (es : List (ℕ × ℕ)) (key : ℕ → ℕ) (k : ℕ) (ones others : List Half) (left : List Bool) → AreKnown es key k ones others →
    AreMarked es key k left → IsRead es key k ones others 0 0 left left
none_read es key k ones others left known marked = record {
  level = λ x. omega arith;
  first = record {
    done = λ p before. absurd (omega (arith, before));
    rest = λ p later below. let at = known.first p below in marked.rest (half_at ones p) at.within (omega (arith, at.keyed));
  };
  second = record {
    done = λ p before. absurd (omega (arith, before));
    rest = λ p later below. let at = known.second p below in marked.rest (half_at others p) at.within (omega (arith, at.keyed));
  };
  kept = λ h other. refl;
}

-- the first way's edge is lesser
pub first_read : (es : List (ℕ × ℕ)) (key : ℕ → ℕ) (k : ℕ) (ones others : List Half) (i j : ℕ) (old left : List Bool) → AreKnown es key k ones others →
    i < length ones → j < length others → is_lesser (ends_at ones i) (ends_at others j) ≡ true
    → IsRead es key k ones others i j old left → IsRead es key k ones others (i + 1) j old left
first_read es key k ones others i j old left known low below less read = record {
  level = level_more (ends_of ones) (ends_of others) i j (ends_at ones i) at.stands passed read.level;
  first = one_left es ones i left low (left_more es key k (ends_of ones) (ends_of others) i j i (half_at ones i) (ends_at ones i) at (omega arith) read.level passed) read.first;
  second = read.second;
  kept = read.kept;
}
  where
    at : IsAt es key k (ends_of ones) (ends_of others) i (half_at ones i) (ends_at ones i)
    at = known.first i low

    passed : IsPassed (ends_of others) j (ends_at ones i)
    passed = let there = known.second j below in omega (arith, there.stands.low, lesser_count_more (ends_of others) (ends_at ones i) (ends_at others j) less)

-- the second way's edge is lesser
pub second_read : (es : List (ℕ × ℕ)) (key : ℕ → ℕ) (k : ℕ) (ones others : List Half) (i j : ℕ) (old left : List Bool) → AreKnown es key k ones others →
    i < length ones → j < length others → is_lesser (ends_at others j) (ends_at ones i) ≡ true
    → IsRead es key k ones others i j old left → IsRead es key k ones others i (j + 1) old left
second_read es key k ones others i j old left known low below less read =
    read_exchanged es key k others ones (j + 1) i old left
    (first_read es key k others ones j i old left (known_exchanged es key k ones others known) below low less (read_exchanged es key k ones others i j old left read))

-- both ways have the edge: both marks go
pub both_read : (es : List (ℕ × ℕ)) (key : ℕ → ℕ) (k : ℕ) (ones others : List Half) (i j : ℕ) (old left : List Bool) → AreKnown es key k ones others →
    i < length ones → j < length others → ends_at others j ≡ ends_at ones i → length left ≡ length es
    → IsRead es key k ones others i j old left → IsRead es key k ones others (i + 1) (j + 1) old (set (set left (half_at ones i) false) (half_at others j) false)
both_read es key k ones others i j old left known low below same full read = record {
  level = level_same (ends_of ones) (ends_of others) i j x at.stands back read.level;
  first = other_goes es ones (i + 1) t (set left g false) (λ p l. known.apart p j l below)
      (one_goes es ones i left low (omega (arith, at.within, full)) goes known.first_once read.first);
  second = one_goes es others j (set left g false) below (omega (arith, there.within, full, length-set left g false)) goes_too known.second_once
      (other_goes es others j g left (λ p l is. known.apart i p low l (sym is)) read.second);
  kept = λ h other. get_or-set_other (set left g false) t h false true (elsewhere t there.keyed h other)
      ∙ get_or-set_other left g h false true (elsewhere g at.keyed h other) ∙ read.kept h other;
}
  where
    g : ℕ
    g = half_at ones i

    t : ℕ
    t = half_at others j

    x : ℕ × ℕ
    x = ends_at ones i

    at : IsAt es key k (ends_of ones) (ends_of others) i g x
    at = known.first i low

    there : IsAt es key k (ends_of others) (ends_of ones) j t x
    there = subst (IsAt es key k (ends_of others) (ends_of ones) j t) same (known.second j below)

    back : Stands (ends_of others) j x
    back = there.stands

    goes : is_left es g ≡ false
    goes = left_same es key k (ends_of ones) (ends_of others) i j g x at read.level back

    goes_too : is_left es t ≡ false
    goes_too = left_same es key k (ends_of others) (ends_of ones) j i t x there (level_exchanged (ends_of ones) (ends_of others) i j read.level) at.stands

    elsewhere : (m : ℕ) → key (lesser_end_at es m) ≡ k → (h : ℕ) → (key (lesser_end_at es h) ≡ k → ⊥) → h ≡ m → ⊥
    elsewhere m keyed h other is = other (ap (λ n. key (lesser_end_at es n)) is ∙ keyed)

-- where the other side is at its end, the marks of a way say what is left
way_marked : (es : List (ℕ × ℕ)) (key : ℕ → ℕ) (k : ℕ) (ones others : List Half) (i j : ℕ) (old left : List Bool) → AreKnown es key k ones others →
    (length ones ≤ i) ⊎ (length others ≤ j) → IsRead es key k ones others i j old left
    → (p : ℕ) → p < length ones → get_or left (half_at ones p) true ≡ is_left es (half_at ones p)
way_marked es key k ones others i j old left known ended read p low = elim (cases_lt p i) as (λ _. get_or left (half_at ones p) true ≡ is_left es (half_at ones p)) [
  | inl before ↦ read.first.done p before low
  | inr later ↦ by ended later
]
  where
    by : (length ones ≤ i) ⊎ (length others ≤ j) → i ≤ p → get_or left (half_at ones p) true ≡ is_left es (half_at ones p)
    by (inl first) later = absurd (omega (arith, first, later, low))
    by (inr second) later =
        read.first.rest p later low
        ∙ sym (left_more es key k (ends_of ones) (ends_of others) i j p (half_at ones p) (ends_at ones p) (known.first p low) later read.level
        (omega (arith, second, lesser_and_same (ends_of others) (ends_at ones p), length-map others ends)))

-- that one way is at its end, with the ways exchanged
ended_exchanged : (ones others : List Half) (i j : ℕ) → (length ones ≤ i) ⊎ (length others ≤ j) → (length others ≤ j) ⊎ (length ones ≤ i)
ended_exchanged ones others i j (inl first) = inr first
ended_exchanged ones others i j (inr second) = inl second

-- a place of the turned chain is one of the chain
within_turned : (es : List (ℕ × ℕ)) (t : ℕ) → t < length (backward es) → t < length es
within_turned es t low = omega (arith, low, length-map es turned_edge)

-- a half-edge has fewer before it that run as it than there are
rank_less : (es : List (ℕ × ℕ)) (g : ℕ) → g < length es → rank (runs_as es g) es g < same_count es (edge_at es g)
rank_less es g low =
    omega (
      arith,
      rank_below (runs_as es g) es g low (λ d. ap (runs_as es g) (get_or_default es g d (0, 0) low) ∙ is_self (start es g) (finish es g)),
      dir-count_by es (start es g) (finish es g),
    )

-- so the place stands at its edge
stands_there : (es : List (ℕ × ℕ)) (key : ℕ → ℕ) (k : ℕ) (xs : List Half) → IsSortOf (filter (lies_in key k) (numbered 0 es)) xs → (i : ℕ) → i < length xs →
    Stands (ends_of xs) i (edge_at es (half_at xs i))
stands_there es key k xs sorted i low =
    let p = placed_in es key k xs sorted i low in
    let g = half_at xs i in
    let lies = placed_lies es key k xs sorted i low in
    let all = way_count es key k xs sorted (start es g) (finish es g) ∙ ap (λ t. cond t (dir es (start es g) (finish es g)) 0) lies in
    record { low = omega (arith, p.place); high = omega (arith, p.place, all, rank_less es g p.within) }

-- an edge of the bucket runs from a lesser vertex with key k to a greater one
goes_up : (key : ℕ → ℕ) (k a b : ℕ) → edge_lies_in key k (a, b) ≡ true → (a < b) × (key a ≡ k)
goes_up key k a b is = let p = and_parts (nat_lt a b) (key a == k) is in (ltb-true a b p.0, eqb-true (key a) k p.1)

-- so a half-edge of the ups runs up
ups_rise : (es : List (ℕ × ℕ)) (key : ℕ → ℕ) (k : ℕ) (xs : List Half) → IsSortOf (filter (lies_in key k) (numbered 0 es)) xs → (i : ℕ) → i < length xs →
    (start es (half_at xs i) < finish es (half_at xs i)) × (key (start es (half_at xs i)) ≡ k)
ups_rise es key k xs sorted i low =
    goes_up key k (start es (half_at xs i)) (finish es (half_at xs i)) (placed_lies es key k xs sorted i low)

-- and a half-edge of the downs down
downs_fall : (es : List (ℕ × ℕ)) (key : ℕ → ℕ) (k : ℕ) (xs : List Half) → IsSortOf (filter (lies_in key k) (numbered 0 (backward es))) xs → (i : ℕ) →
    i < length xs → (finish es (half_at xs i) < start es (half_at xs i)) × (key (finish es (half_at xs i)) ≡ k)
downs_fall es key k xs sorted i low =
    let t = half_at xs i in
    subst (λ (x : ℕ × ℕ). (x.0 < x.1) × (key x.0 ≡ k)) (backward_at es t (within_turned es t (placed_in (backward es) key k xs sorted i low).within))
    (ups_rise (backward es) key k xs sorted i low)

-- the lesser end of an edge that runs up is its start
lesser_start : (a b : ℕ) → a < b → lesser_end (a, b) ≡ a
lesser_start a b up = ap (λ t. cond t a b) (lt-ltb a b up)

-- and of one that runs down its finish
lesser_finish : (a b : ℕ) → b < a → lesser_end (a, b) ≡ b
lesser_finish a b down = grind (arith, nat_tests, down)

-- a half-edge at a place of the ups
up_at : (es : List (ℕ × ℕ)) (key : ℕ → ℕ) (k : ℕ) (ups downs : List Half) → AreWays es key k ups downs → (p : ℕ) → p < length ups →
    IsAt es key k (ends_of ups) (ends_of downs) p (half_at ups p) (ends_at ups p)
up_at es key k ups downs ways p low =
    subst (IsAt es key k (ends_of ups) (ends_of downs) p g) (sym at.runs)
    (record {
      within = at.within;
      keyed = ap key (lesser_start (start es g) (finish es g) way.0) ∙ way.1;
      stands = stands_there es key k ups ways.ups_sorted p low;
      left = ap (λ n. nat_le n (rank (runs_as es g) es g)) (sym (downs_count es key k ups downs ways (start es g) (finish es g) way.0 way.1))
          ∙ ap (nat_le (same_count (ends_of downs) (edge_at es g))) before;
    })
  where
    g : ℕ
    g = half_at ups p

    at : IsPlacedIn es ups p g
    at = placed_in es key k ups ways.ups_sorted p low

    way : (start es g < finish es g) × (key (start es g) ≡ k)
    way = ups_rise es key k ups ways.ups_sorted p low

    before : rank (runs_as es g) es g ≡ p - lesser_count (ends_of ups) (edge_at es g)
    before = omega (arith, at.place)

-- and at a place of the downs
down_at : (es : List (ℕ × ℕ)) (key : ℕ → ℕ) (k : ℕ) (ups downs : List Half) → AreWays es key k ups downs → (p : ℕ) → p < length downs →
    IsAt es key k (ends_of downs) (ends_of ups) p (half_at downs p) (ends_at downs p)
down_at es key k ups downs ways p low =
    subst (IsAt es key k (ends_of downs) (ends_of ups) p t) (sym (at.runs ∙ turn))
    (record {
      within = within;
      keyed = ap key (lesser_finish (start es t) (finish es t) way.0) ∙ way.1;
      stands = subst (Stands (ends_of downs) p) turn (stands_there (backward es) key k downs ways.downs_sorted p low);
      left = ap (λ n. nat_le n (rank (runs_as es t) es t)) (sym (ups_count es key k ups downs ways (finish es t) (start es t) way.0 way.1))
          ∙ ap (nat_le (same_count (ends_of ups) (finish es t, start es t))) before;
    })
  where
    t : ℕ
    t = half_at downs p

    at : IsPlacedIn (backward es) downs p t
    at = placed_in (backward es) key k downs ways.downs_sorted p low

    within : t < length es
    within = within_turned es t at.within

    turn : edge_at (backward es) t ≡ (finish es t, start es t)
    turn = backward_at es t within

    way : (finish es t < start es t) × (key (finish es t) ≡ k)
    way = downs_fall es key k downs ways.downs_sorted p low

    place : p ≡ lesser_count (ends_of downs) (finish es t, start es t) + rank (λ e. is_edge e (finish es t) (start es t)) (backward es) t
    place = subst (λ (x : ℕ × ℕ). p ≡ lesser_count (ends_of downs) x + rank (λ e. is_edge e x.0 x.1) (backward es) t) turn at.place

    before : rank (runs_as es t) es t ≡ p - lesser_count (ends_of downs) (finish es t, start es t)
    before = omega (arith, place, rank_backward es (finish es t) (start es t) t)

-- one half-edge has one place
one_place : (es : List (ℕ × ℕ)) (xs : List Half) (p q : ℕ) → IsPlacedIn es xs p (half_at xs p) → IsPlacedIn es xs q (half_at xs q) → half_at xs p ≡ half_at xs q → p ≡ q
one_place es xs p q at there same = at.place ∙ sym (subst (IsPlacedIn es xs q) (sym same) there).place

-- so what stands in the two ways of a bucket is known
pub ways_known : (es : List (ℕ × ℕ)) (key : ℕ → ℕ) (k : ℕ) (ups downs : List Half) → AreWays es key k ups downs → AreKnown es key k ups downs
ways_known es key k ups downs ways = record {
  first = up_at es key k ups downs ways;
  second = down_at es key k ups downs ways;
  first_once = λ p q low below. one_place es ups p q (placed_in es key k ups ways.ups_sorted p low) (placed_in es key k ups ways.ups_sorted q below);
  second_once = λ p q low below. one_place (backward es) downs p q (placed_in (backward es) key k downs ways.downs_sorted p low)
      (placed_in (backward es) key k downs ways.downs_sorted q below);
  apart = λ p q low below same.
      let up = ups_rise es key k ups ways.ups_sorted p low in
      let down = downs_fall es key k downs ways.downs_sorted q below in
      absurd (omega (arith, up.0, down.0, ap (start es) same, ap (finish es) same));
}

-- once one way is at its end, one bucket more is marked
pub marked_more : (es : List (ℕ × ℕ)) (key : ℕ → ℕ) (k : ℕ) (ups downs : List Half) (i j : ℕ) (old left : List Bool) → AreWays es key k ups downs → EndsDiffer es
    → (length ups ≤ i) ⊎ (length downs ≤ j) → length left ≡ length old → AreMarked es key k old → IsRead es key k ups downs i j old left → AreMarked es key (k + 1) left
marked_more es key k ups downs i j old left ways differ ended full marked read = record {
  full = full ∙ marked.full;
  done = λ h within low. elim (cases_lt (key (lesser_end_at es h)) k) as (λ _. get_or left h true ≡ is_left es h) [
    | inl before ↦ read.kept h (λ is. absurd (omega (arith, before, is))) ∙ marked.done h within before
    | inr later ↦ in_bucket h within (omega (arith, low, later))
  ];
  rest = λ h within later. read.kept h (λ is. absurd (omega (arith, later, is))) ∙ marked.rest h within (omega (arith, later));
}
  where
    known : AreKnown es key k ups downs
    known = ways_known es key k ups downs ways

    at_up : (h : ℕ) → (p : ℕ) × (p < length ups) × (half_at ups p ≡ h) → get_or left h true ≡ is_left es h
    at_up h (p, low, is) = subst (λ g. get_or left g true ≡ is_left es g) is (way_marked es key k ups downs i j old left known ended read p low)

    at_down : (h : ℕ) → (p : ℕ) × (p < length downs) × (half_at downs p ≡ h) → get_or left h true ≡ is_left es h
    at_down h (p, low, is) =
        subst (λ g. get_or left g true ≡ is_left es g) is
        (way_marked es key k downs ups j i old left (known_exchanged es key k ups downs known) (ended_exchanged ups downs i j ended)
        (read_exchanged es key k ups downs i j old left read) p low)

    in_bucket : (h : ℕ) → h < length es → key (lesser_end_at es h) ≡ k → get_or left h true ≡ is_left es h
    in_bucket h within keyed = elim (cases_order (start es h) (finish es h)) as (λ _. get_or left h true ≡ is_left es h) [
      | inl same ↦ absurd (differ h within same)
      | inr (inl up) ↦ at_up h (up_placed es key k ups downs ways h within up (ap key (sym (lesser_start (start es h) (finish es h) up)) ∙ keyed))
      | inr (inr down) ↦ at_down h (down_placed es key k ups downs ways h within down (ap key (sym (lesser_finish (start es h) (finish es h) down)) ∙ keyed))
    ]
