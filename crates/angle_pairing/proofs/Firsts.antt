-- The first pair that is the same as each, found start by start.
use Rattle.std.proofs.Common.{◌≡◌, ◌≢◌, ◌<◌, ◌≤◌, ◌+◌, ◌∷◌, ◌∙◌, ℕ, List, [], true, false, ap, arith, get_or, inl, inr, length, map, refl, replicate, slice_set, subst, sym, take}
use Rattle.std.specs.Prelude.{◌==◌}
use Rattle.std.specs.List.{All, Contains}
use Rattle.std.proofs.lemmas.Bool.{both_ways, cases_Bool, cases_eq, cases_lt, eq-eqb, eqb-true}
use Rattle.std.proofs.lemmas.List.{get_or_default, get_or-map, get_or-replicate, get_or-set_other, get_or-set_same, length-map, length-replicate, length-set, same_lists, take_all}
use Rattle.chain_terms.specs.Sums.{upto}
use Rattle.chain_laws.proofs.Ascending.{filter-ascends, kept, kept_at}
use Rattle.places_by_key.specs.Buckets.{places_of}
use Rattle.places_by_key.proofs.Upto.{get_or-map-upto, length-map-upto}
use Rattle.fan_laws.proofs.Members.{at_place, edge_at, first_not_behind, first_same, firsts_one, member, same_from, same_means}
use Rattle.sheet_terms.specs.Chains.{same_edge}
use Rattle.sheet_terms.specs.Vertices.{first_as}
use Rattle.angle_pairing.specs.Gathered.{AreLeads, IsPairBelow, lead_of, leads_same, start_of}

module _ (pairs : List (ℕ × ℕ)) where
  abbrev starts : List ℕ
  starts = map start_of pairs

  start_read : (h : ℕ) → h < length pairs → get_or starts h 0 ≡ (edge_at pairs h).0
  start_read h low = get_or-map start_of pairs h (0, 0) 0 low

  -- those with one start
  pub record HasStart (start h : ℕ) : Type 0 where
    pub below : h < length pairs
    pub is : (edge_at pairs h).0 ≡ start

  pub has_start : (start : ℕ) (numbers : List ℕ) → numbers ≡ places_of starts start → (k : ℕ) → k < length numbers → HasStart start (get_or numbers k 0)
  has_start start numbers are k low =
      let at : get_or numbers k 0 ≡ get_or (places_of starts start) k 0 = ap (λ l. get_or l k 0) are in
      let r = kept_at (λ i. get_or starts i 0 == start) 0 (length starts) k (omega (arith, low, ap length are)) in
      let below : get_or numbers k 0 < length pairs = omega (arith, at, r.high, length-map pairs start_of) in
      record {
        below = below;
        is = sym (start_read (get_or numbers k 0) below) ∙ ap (λ i. get_or starts i 0) at ∙ eqb-true (get_or starts (get_or (places_of starts start) k 0) 0) start r.passes;
      }

  pub with_start : (start : ℕ) (numbers : List ℕ) → numbers ≡ places_of starts start → (h : ℕ) → HasStart start h → Contains numbers h
  with_start start numbers are h is =
      subst (λ l. Contains l h) (sym are)
      (kept (λ i. get_or starts i 0 == start) 0 (length starts) h
      (record { low = omega arith; high = omega (arith, is.below, length-map pairs start_of); passes = eq-eqb (get_or starts h 0) start (start_read h is.below ∙ is.is) }))

  -- two pairs with one start and one end are the same
  one_first : (g h : ℕ) → g < length pairs → h < length pairs → (edge_at pairs g).0 ≡ (edge_at pairs h).0 → (edge_at pairs g).1 ≡ (edge_at pairs h).1 →
      first_as pairs g ≡ first_as pairs h
  one_first g h g_low h_low start end = firsts_one pairs g h g_low h_low (same_from (edge_at pairs g) (edge_at pairs h) start end)

  -- of the pairs with one start the first k are looked at
  pub record AreFound (numbers : List ℕ) (k : ℕ) (old leads firsts : List ℕ) : Type 0 where
    pub full : length firsts ≡ length old
    pub leading : AreLeads pairs leads
    pub seen : (m : ℕ) → m < k → get_or leads (edge_at pairs (get_or numbers m 0)).1 0 ≡ first_as pairs (get_or numbers m 0)
    pub done : (m : ℕ) → m < k → get_or firsts (get_or numbers m 0) 0 ≡ first_as pairs (get_or numbers m 0)
    pub others : (h : ℕ) → ((m : ℕ) → m < k → get_or numbers m 0 ≢ h) → get_or firsts h 0 ≡ get_or old h 0

  pub found_none : (numbers old leads firsts : List ℕ) → AreLeads pairs leads → firsts ≡ old → AreFound numbers 0 old leads firsts
  found_none numbers old leads firsts are same = record {
    full = ap length same;
    leading = are;
    seen = λ m low. absurd (omega (arith, low));
    done = λ m low. absurd (omega (arith, low));
    others = λ h apart. ap (λ l. get_or l h 0) same;
  }

  -- beside the end of pair h stands its first, and beside other ends what stood there
  pub record IsLed (h : ℕ) (old new : List ℕ) : Type 0 where
    pub full : length new ≡ length old
    pub leads : AreLeads pairs new
    pub here : get_or new (edge_at pairs h).1 0 ≡ first_as pairs h
    pub others : (x : ℕ) → x ≢ (edge_at pairs h).1 → get_or new x 0 ≡ get_or old x 0

  module _ (start : ℕ) (numbers : List ℕ) (are : numbers ≡ places_of starts start) (old leads firsts : List ℕ) (ends : All (IsPairBelow (length leads)) pairs)
      (k : ℕ) (k_low : k < length numbers) (found : AreFound numbers k old leads firsts) where
    abbrev at : ℕ → ℕ
    at m = get_or numbers m 0

    abbrev h : ℕ
    h = get_or numbers k 0

    abbrev end : ℕ
    end = (edge_at pairs h).1

    pub h_low : get_or numbers k 0 < length pairs
    h_low = let is = has_start start numbers are k k_low in is.below

    pub end_low : (edge_at pairs (get_or numbers k 0)).1 < length leads
    end_low = (ends h (0, 0) h_low).1

    pub lead_low : get_or leads (edge_at pairs (get_or numbers k 0)).1 0 < length pairs
    lead_low = found.leading.below end end_low (omega (arith, h_low))

    rise : (m n : ℕ) → m < n → n < length numbers → at m < at n
    rise m n less low =
        let r = filter-ascends (λ i. get_or starts i 0 == start) 0 (length starts) m n less (omega (arith, low, ap length are)) in
        omega (arith, r, ap (λ l. get_or l m 0) are, ap (λ l. get_or l n 0) are)

    -- the pair that stands there is the same, so it is the first
    pub led_known : same_edge (edge_at pairs (get_or leads (edge_at pairs (get_or numbers k 0)).1 0)) (edge_at pairs (get_or numbers k 0)) ≡ true → (new : List ℕ) →
        new ≡ leads → IsLed (get_or numbers k 0) leads new
    led_known same new is =
        let lead = get_or leads end 0 in
        record {
          full = ap length is;
          leads = subst (AreLeads pairs) (sym is) found.leading;
          here = ap (λ l. get_or l end 0) is ∙ sym (found.leading.first end end_low) ∙ firsts_one pairs lead h lead_low h_low same;
          others = λ x apart. ap (λ l. get_or l x 0) is;
        }

    -- else it is the first itself
    own_first : same_edge (edge_at pairs (get_or leads (edge_at pairs (get_or numbers k 0)).1 0)) (edge_at pairs (get_or numbers k 0)) ≡ false → first_as pairs h ≡ h
    own_first other =
        let f = first_as pairs h in
        let not_behind = first_not_behind pairs h h_low in
        let same = same_means (edge_at pairs h) (edge_at pairs f) (first_same pairs h h_low) in
        let own = has_start start numbers are k k_low in
        elim (cases_eq f h) as (λ _. f ≡ h) [
          | inl e ↦ e
          | inr apart ↦
              let less : f < h = omega (arith, not_behind, apart) in
              let place = at_place numbers f (with_start start numbers are f (record { below = omega (arith, less, h_low); is = sym same.0 ∙ own.is })) in
              let m = place.0 in
              let before : m < k = elim (cases_lt m k) as (λ _. m < k) [
                | inl b ↦ b
                | inr more ↦ elim (cases_eq m k) as (λ _. m < k) [
                  | inl e ↦ absurd (omega (arith, ap at e, place.2, less))
                  | inr far ↦ absurd (omega (arith, rise k m (omega (arith, more, far)) place.1, place.2, less))
                ]
              ] in
              let end_is : (edge_at pairs (at m)).1 ≡ end = ap (λ i. (edge_at pairs i).1) place.2 ∙ sym same.1 in
              let lead_is : get_or leads end 0 ≡ f =
              ap (λ e. get_or leads e 0) (sym end_is) ∙ found.seen m before ∙ ap (first_as pairs) place.2
              ∙ one_first f h (omega (arith, less, h_low)) h_low (sym same.0) (sym same.1) in
              absurd (both_ways (same_edge (edge_at pairs (get_or leads end 0)) (edge_at pairs h)) other
              (ap (λ i. same_edge (edge_at pairs i) (edge_at pairs h)) lead_is ∙ same_from (edge_at pairs f) (edge_at pairs h) (sym same.0) (sym same.1)))
        ]

    pub led_new : same_edge (edge_at pairs (get_or leads (edge_at pairs (get_or numbers k 0)).1 0)) (edge_at pairs (get_or numbers k 0)) ≡ false → (new : List ℕ) →
        new ≡ slice_set leads (edge_at pairs (get_or numbers k 0)).1 (get_or numbers k 0) → IsLed (get_or numbers k 0) leads new
    led_new other new is =
        let own = own_first other in
        let full : length new ≡ length leads = ap length is ∙ length-set leads end h in
        let here : get_or new end 0 ≡ h = ap (λ l. get_or l end 0) is ∙ get_or-set_same leads end h 0 end_low in
        let others : (x : ℕ) → x ≢ end → get_or new x 0 ≡ get_or leads x 0 = λ x apart. ap (λ l. get_or l x 0) is ∙ get_or-set_other leads end x h 0 apart in
        record {
          full = full;
          leads = record {
            below = λ x low some. elim (cases_eq x end) as (λ _. get_or new x 0 < length pairs) [
              | inl e ↦ omega (arith, ap (λ y. get_or new y 0) e, here, h_low)
              | inr apart ↦ omega (arith, others x apart, found.leading.below x (omega (arith, low, full)) some)
            ];
            first = λ x low. elim (cases_eq x end) as (λ _. first_as pairs (get_or new x 0) ≡ get_or new x 0) [
              | inl e ↦
                  let value : get_or new x 0 ≡ h = ap (λ y. get_or new y 0) e ∙ here in
                  ap (first_as pairs) value ∙ own ∙ sym value
              | inr apart ↦ ap (first_as pairs) (others x apart) ∙ found.leading.first x (omega (arith, low, full)) ∙ sym (others x apart)
            ];
          };
          here = here ∙ sym own;
          others = others;
        }

    -- in both cases
    pub led_both : (new : List ℕ) (v : ℕ) → (leads_same pairs leads (get_or numbers k 0) ≡ true → (new ≡ leads) × (v ≡ lead_of pairs leads (get_or numbers k 0))) →
        (leads_same pairs leads (get_or numbers k 0) ≡ false →
        (new ≡ slice_set leads (get_or pairs (get_or numbers k 0) (0, 0)).1 (get_or numbers k 0)) × (v ≡ get_or numbers k 0)) →
        IsLed (get_or numbers k 0) leads new × (v ≡ first_as pairs (get_or numbers k 0))
    led_both new v known fresh =
        elim (cases_Bool (leads_same pairs leads h)) as (λ _. IsLed h leads new × (v ≡ first_as pairs h)) [
          | inl same ↦
              let led = led_known same new (known same).0 in
              (led, (known same).1 ∙ ap (λ l. get_or l end 0) (sym (known same).0) ∙ led.here)
          | inr other ↦ (led_new other new (fresh other).0, (fresh other).1 ∙ sym (own_first other))
        ]

    -- so one more is looked at
    pub found_more : (new more : List ℕ) (v : ℕ) → IsLed (get_or numbers k 0) leads new × (v ≡ first_as pairs (get_or numbers k 0)) → length old ≡ length pairs →
        more ≡ slice_set firsts (get_or numbers k 0) v → AreFound numbers (k + 1) old new more
    found_more new more v (led, v_is) old_full is =
        record {
          full = ap length is ∙ length-set firsts h v ∙ found.full;
          leading = led.leads;
          seen = λ m less. elim (cases_eq m k) as (λ _. get_or new (edge_at pairs (at m)).1 0 ≡ first_as pairs (at m)) [
            | inl e ↦ ap (λ j. get_or new (edge_at pairs (at j)).1 0) e ∙ led.here ∙ ap (λ j. first_as pairs (at j)) (sym e)
            | inr apart ↦
                let before : m < k = omega (arith, less, apart) in
                let its = has_start start numbers are m (omega (arith, before, k_low)) in
                let own = has_start start numbers are k k_low in
                elim (cases_eq (edge_at pairs (at m)).1 end) as (λ _. get_or new (edge_at pairs (at m)).1 0 ≡ first_as pairs (at m)) [
                  | inl same ↦
                      ap (λ x. get_or new x 0) same ∙ led.here ∙ one_first h (at m) h_low its.below (own.is ∙ sym its.is) (sym same)
                  | inr other ↦ led.others (edge_at pairs (at m)).1 other ∙ found.seen m before
                ]
          ];
          done = λ m less. elim (cases_eq m k) as (λ _. get_or more (at m) 0 ≡ first_as pairs (at m)) [
            | inl e ↦
                ap (λ j. get_or more (at j) 0) e ∙ ap (λ l. get_or l h 0) is ∙ get_or-set_same firsts h v 0 (omega (arith, found.full, old_full, h_low)) ∙ v_is
                ∙ ap (λ j. first_as pairs (at j)) (sym e)
            | inr apart ↦
                let before : m < k = omega (arith, less, apart) in
                let lower = rise m k before k_low in
                ap (λ l. get_or l (at m) 0) is ∙ get_or-set_other firsts h (at m) v 0 (λ e. omega (arith, e, lower)) ∙ found.done m before
          ];
          others = λ x apart.
              ap (λ l. get_or l x 0) is ∙ get_or-set_other firsts h x v 0 (λ e. apart k (omega arith) (sym e)) ∙ found.others x (λ m less. apart m (omega (arith, less)));
        }

  -- once all are looked at
  pub found_all : (numbers old leads firsts : List ℕ) (k : ℕ) → AreFound numbers k old leads firsts → k ≡ length numbers → (x : ℕ) → Contains numbers x →
      get_or firsts x 0 ≡ first_as pairs x
  found_all numbers old leads firsts k found end x there =
      let place = at_place numbers x there in
      ap (λ y. get_or firsts y 0) (sym place.2) ∙ found.done place.0 (omega (arith, place.1, end)) ∙ ap (first_as pairs) place.2

  pub found_others : (numbers old leads firsts : List ℕ) (k : ℕ) → AreFound numbers k old leads firsts → k ≡ length numbers → (x : ℕ) → (Contains numbers x → ⊥) →
      get_or firsts x 0 ≡ get_or old x 0
  found_others numbers old leads firsts k found end x absent =
      found.others x (λ m less e. absent (subst (Contains numbers) e (member numbers m (omega (arith, less, end)))))

  -- the pairs that start below n have their firsts
  pub record AreFirsts (count n : ℕ) (leads firsts : List ℕ) : Type 0 where
    pub full : length firsts ≡ length pairs
    pub all : length leads ≡ count
    pub leading : AreLeads pairs leads
    pub done : (x : ℕ) → x < length pairs → (edge_at pairs x).0 < n → get_or firsts x 0 ≡ first_as pairs x

  -- the first of all is no other's
  first_of_all : first_as pairs 0 ≡ 0
  first_of_all = elim (cases_lt 0 (length pairs)) as (λ _. first_as pairs 0 ≡ 0) [
    | inl some ↦ omega (arith, first_not_behind pairs 0 some)
    | inr none ↦ of_none pairs (omega (arith, none))
  ]
    where
      of_none : (ps : List (ℕ × ℕ)) → length ps ≡ 0 → first_as ps 0 ≡ 0
      of_none [] is = refl
      of_none (p ∷ ps) is = absurd (omega (arith, is))

  pub firsts_none : (count : ℕ) (leads firsts : List ℕ) → leads ≡ replicate count 0 → length firsts ≡ length pairs → AreFirsts count 0 leads firsts
  firsts_none count leads firsts is full =
      let many : length leads ≡ count = ap length is ∙ length-replicate count 0 in
      let nought : (x : ℕ) → x < length leads → get_or leads x 0 ≡ 0 = λ x low. ap (λ l. get_or l x 0) is ∙ get_or-replicate count x 0 0 (omega (arith, low, many)) in
      record {
        full = full;
        all = many;
        leading = record {
          below = λ x low some. omega (arith, nought x low, some);
          first = λ x low. ap (first_as pairs) (nought x low) ∙ first_of_all ∙ sym (nought x low);
        };
        done = λ x low less. absurd (omega (arith, less));
      }

  pub firsts_more : (count n : ℕ) (numbers leads firsts new more : List ℕ) → AreFirsts count n leads firsts → numbers ≡ places_of starts n → length new ≡ length leads →
      length more ≡ length firsts → AreLeads pairs new → ((x : ℕ) → Contains numbers x → get_or more x 0 ≡ first_as pairs x) →
      ((x : ℕ) → (Contains numbers x → ⊥) → get_or more x 0 ≡ get_or firsts x 0) → AreFirsts count (n + 1) new more
  firsts_more count n numbers leads firsts new more are numbers_are new_full more_full are_leads found others = record {
    full = more_full ∙ are.full;
    all = new_full ∙ are.all;
    leading = are_leads;
    done = λ x low less. elim (cases_eq (edge_at pairs x).0 n) as (λ _. get_or more x 0 ≡ first_as pairs x) [
      | inl e ↦ found x (with_start n numbers numbers_are x (record { below = low; is = e }))
      | inr apart ↦
          others x (λ there.
          let place = at_place numbers x there in
          let has = has_start n numbers numbers_are place.0 place.1 in
          apart (ap (λ y. (edge_at pairs y).0) (sym place.2) ∙ has.is))
          ∙ are.done x low (omega (arith, less, apart))
    ];
  }

  pub firsts_all : (count n : ℕ) (leads firsts : List ℕ) → AreFirsts count n leads firsts → All (IsPairBelow count) pairs → n ≡ count →
      firsts ≡ map (first_as pairs) (upto (length pairs))
  firsts_all count n leads firsts are below end =
      same_lists firsts (map (first_as pairs) (upto (length pairs))) (are.full ∙ sym (length-map-upto (first_as pairs) (length pairs)))
      (λ x d low.
      let within : x < length pairs = omega (arith, low, are.full) in
      get_or_default firsts x d 0 low ∙ are.done x within (let b = (below x (0, 0) within).0 in omega (arith, b, end))
      ∙ sym (get_or-map-upto (first_as pairs) (length pairs) x d within))

  -- the starts are below what all are below
  pub starts_below : (count : ℕ) → All (IsPairBelow count) pairs → (list : List ℕ) → list ≡ map start_of pairs → All (λ s. s < count) list
  starts_below count below list is x d low =
      let within : x < length pairs = omega (arith, low, ap length is, length-map pairs start_of) in
      let here : get_or list x d ≡ (edge_at pairs x).0 = ap (λ l. get_or l x d) is ∙ get_or-map start_of pairs x (0, 0) d within in
      let b = (below x (0, 0) within).0 in
      omega (arith, here, b)

-- pairs below a number are below one that is no less
pub still_below : (m n : ℕ) (pairs : List (ℕ × ℕ)) → m ≤ n → All (IsPairBelow m) pairs → All (IsPairBelow n) pairs
still_below m n pairs up below x d low = let b = below x d low in (omega (arith, b.0, up), omega (arith, b.1, up))

-- all are below it once the last is
pub below_all : (pairs : List (ℕ × ℕ)) (i n : ℕ) → length pairs ≤ i → All (IsPairBelow n) (take i pairs) → All (IsPairBelow n) pairs
below_all pairs i n past below = subst (All (IsPairBelow n)) (take_all i pairs past) below
