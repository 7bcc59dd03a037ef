-- What is noted of the edges of walks tells of each place its neighbours.
use Rattle.std.specs.Prelude.{◌≡◌, ℕ, zero, suc, ◌<◌, ◌^◌, ℤ, List, [], ◌∷◌, ◌++◌, Bool, true, false, cond, ◌||◌, ◌==◌, length, get_or, replicate}
use Rattle.std.specs.List.{All, flat_map, list_any}
use Rattle.std.proofs.Common.{arith, refl, sym, ap, subst, ◌∙◌, inl, inr}
use Rattle.std.proofs.lemmas.Bool.{both_ways, cases_eq, cases_Bool, cond_both, eq-eqb, eqb-true, ne_eqb}
use Rattle.std.proofs.lemmas.List.{append-nil, append_assoc, get_or-set_other, get_or-set_same, length-replicate, length-set}
use Rattle.std.proofs.lemmas.List.Folds.{list_any-append}
use Rattle.std.proofs.lemmas.List.Elements.{All-append, All-cons, All-head, All-nil, All-tail}
use Rattle.chain_terms.specs.Paths.{last_of, path, round_edges}
use Rattle.sheet_terms.specs.Needless.{are_two_in_line, is_needless, neighbours, other_end}
use Rattle.sheet_terms.specs.Places.{firsts, firsts_after}
use Rattle.plane_filling.specs.declared.needless.Leads.{Leads}
use Rattle.plane_filling.specs.declared.needless.Ways.{Ways}
use Rattle.plane_filling.specs.Ways.{Notes, is_passed, lead_straight, no_leads, no_place, with_edges, with_place, with_way}

-- the same number
abbrev same : ℕ → ℕ → Bool
same a b = a == b

-- what is noted of places that differ: the first two, and whether there are more
abbrev leads_of : List ℕ → Leads
leads_of [] = no_leads
leads_of (a ∷ []) = record { one = a; other = no_place; more = false }
leads_of (a ∷ b ∷ []) = record { one = a; other = b; more = false }
leads_of (a ∷ b ∷ c ∷ ns) = record { one = a; other = b; more = true }

abbrev IsPlace : ℕ → Type 0
IsPlace v = v < no_place

not_none : (v : ℕ) → IsPlace v → (v == no_place) ≡ false
not_none v h = ne_eqb v no_place (λ e. omega (arith, h, e))

none_not : (v : ℕ) → IsPlace v → (no_place == v) ≡ false
none_not v h = ne_eqb no_place v (λ e. omega (arith, h, e))

-- one place more
with_end : (ns : List ℕ) (y : ℕ) → All IsPlace ns → IsPlace y → with_place (leads_of ns) y ≡ leads_of (ns ++ cond (list_any (same y) ns) [] (y ∷ []))
with_end [] y all here = rw (none_not y here) refl
with_end (a ∷ []) y all here = elim (cases_eq a y) as (λ _. with_place (leads_of (a ∷ [])) y ≡ leads_of (a ∷ cond (list_any (same y) (a ∷ [])) [] (y ∷ []))) [
  | inl e ↦ rw (eq-eqb a y e, eq-eqb y a (sym e)) refl
  | inr n ↦ rw (ne_eqb a y n, ne_eqb y a (λ e. n (sym e)), none_not y here, not_none a (All-head IsPlace a [] all)) refl
]
with_end (a ∷ b ∷ []) y all here =
    let a_place = All-head IsPlace a (b ∷ []) all in
    let b_place = All-head IsPlace b [] (All-tail IsPlace a (b ∷ []) all) in
    elim (cases_eq a y) as (λ _. with_place (leads_of (a ∷ b ∷ [])) y ≡ leads_of (a ∷ b ∷ cond (list_any (same y) (a ∷ b ∷ [])) [] (y ∷ []))) [
      | inl e ↦ rw (eq-eqb a y e, eq-eqb y a (sym e)) refl
      | inr n ↦ elim (cases_eq b y) as (λ _. with_place (leads_of (a ∷ b ∷ [])) y ≡ leads_of (a ∷ b ∷ cond (list_any (same y) (a ∷ b ∷ [])) [] (y ∷ []))) [
        | inl e ↦ rw (ne_eqb a y n, ne_eqb y a (λ e. n (sym e)), eq-eqb b y e, eq-eqb y b (sym e)) refl
        | inr m ↦ rw (ne_eqb a y n, ne_eqb y a (λ e. n (sym e)), ne_eqb b y m, ne_eqb y b (λ e. m (sym e)), not_none a a_place, not_none b b_place) refl
      ]
    ]
with_end (a ∷ b ∷ c ∷ ns) y all here =
    let a_place = All-head IsPlace a (b ∷ c ∷ ns) all in
    let b_place = All-head IsPlace b (c ∷ ns) (All-tail IsPlace a (b ∷ c ∷ ns) all) in
    elim (cases_eq a y) as (λ _. with_place (leads_of (a ∷ b ∷ c ∷ ns)) y ≡ leads_of (a ∷ b ∷ c ∷ (ns ++ cond (list_any (same y) (a ∷ b ∷ c ∷ ns)) [] (y ∷ [])))) [
      | inl e ↦ rw (eq-eqb a y e) refl
      | inr n ↦ elim (cases_eq b y) as (λ _. with_place (leads_of (a ∷ b ∷ c ∷ ns)) y ≡ leads_of (a ∷ b ∷ c ∷ (ns ++ cond (list_any (same y) (a ∷ b ∷ c ∷ ns)) [] (y ∷ [])))) [
        | inl e ↦ rw (ne_eqb a y n, eq-eqb b y e) refl
        | inr m ↦ rw (ne_eqb a y n, ne_eqb b y m, not_none a a_place, not_none b b_place) refl
      ]
    ]

-- the first ones of a list and one member more
first_more : (before xs : List ℕ) (y : ℕ) →
    firsts_after same before (xs ++ y ∷ []) ≡ firsts_after same before xs ++ cond (list_any (same y) (before ++ xs)) [] (y ∷ [])
first_more before [] y = append-nil (cond (list_any (same y) before) [] (y ∷ [])) ∙ ap (λ l. cond (list_any (same y) l) [] (y ∷ [])) (sym (append-nil before))
first_more before (x ∷ xs) y =
    let front : List ℕ = cond (list_any (same x) before) [] (x ∷ []) in
    let all = append_assoc before (x ∷ []) xs in
    ap (λ l. front ++ l) (first_more (before ++ x ∷ []) xs y ∙ ap (λ l. firsts_after same (before ++ x ∷ []) xs ++ cond (list_any (same y) l) [] (y ∷ [])) all)
    ∙ sym (append_assoc front (firsts_after same (before ++ x ∷ []) xs) (cond (list_any (same y) (before ++ x ∷ xs)) [] (y ∷ [])))

-- tests joined by or
end_none : (a : Bool) → (a || false) ≡ a
end_none true = refl
end_none false = refl

again : (a b c : Bool) → (b ≡ true → a ≡ true) → (a || c) ≡ ((a || (b || false)) || c)
again true b c h = refl
again false true c h = absurd (both_ways false refl (h refl))
again false false c h = refl

apart : (a b c : Bool) → (a || (b || c)) ≡ ((a || (b || false)) || c)
apart true b c = refl
apart false true c = refl
apart false false c = refl

-- the first ones have the same members
any_first : (y : ℕ) (before xs : List ℕ) → (list_any (same y) before || list_any (same y) (firsts_after same before xs)) ≡ list_any (same y) (before ++ xs)
any_first y before [] = end_none (list_any (same y) before) ∙ ap (list_any (same y)) (sym (append-nil before))
any_first y before (x ∷ xs) =
    let t = list_any (same y) before in
    let rest = firsts_after same (before ++ x ∷ []) xs in
    let found = any_first y (before ++ x ∷ []) xs in
    let more : ((t || (same y x || false)) || list_any (same y) rest) ≡ list_any (same y) (before ++ x ∷ xs) =
    ap (λ b. b || list_any (same y) rest) (sym (list_any-append (same y) before (x ∷ []))) ∙ found ∙ ap (list_any (same y)) (append_assoc before (x ∷ []) xs) in
    elim (cases_Bool (list_any (same x) before))
    as (λ _. (t || list_any (same y) (cond (list_any (same x) before) [] (x ∷ []) ++ rest)) ≡ list_any (same y) (before ++ x ∷ xs)) [
      | inl was ↦
          let is : same y x ≡ true → t ≡ true = λ e. ap (λ z. list_any (same z) before) (eqb-true y x e) ∙ was in
          ap (λ b. t || list_any (same y) (cond b [] (x ∷ []) ++ rest)) was ∙ again t (same y x) (list_any (same y) rest) is ∙ more
      | inr new ↦ ap (λ b. t || list_any (same y) (cond b [] (x ∷ []) ++ rest)) new ∙ apart t (same y x) (list_any (same y) rest) ∙ more
    ]

-- what holds of all holds of the first ones
All-first : (P : ℕ → Type 0) (before xs : List ℕ) → All P xs → All P (firsts_after same before xs)
All-first P before [] all = All-nil P
All-first P before (x ∷ xs) all =
    let rest = All-first P (before ++ x ∷ []) xs (All-tail P x xs all) in
    cond_both (list_any (same x) before) [] (x ∷ []) (λ l. All P (l ++ firsts_after same (before ++ x ∷ []) xs)) (λ y. rest)
    (λ n. All-cons P x (firsts_after same (before ++ x ∷ []) xs) (All-head P x xs all) rest)

-- a member more of a list
end_more : (xs : List ℕ) (y : ℕ) → All IsPlace xs → IsPlace y → with_place (leads_of (firsts same xs)) y ≡ leads_of (firsts same (xs ++ y ∷ []))
end_more xs y all here =
    with_end (firsts same xs) y (All-first IsPlace [] xs all) here
    ∙ ap (λ b. leads_of (firsts same xs ++ cond b [] (y ∷ []))) (any_first y [] xs) ∙ ap leads_of (sym (first_more [] xs y))

-- a way noted
way_at : (a b v : ℕ) (ls : List Leads) → a < length ls →
    get_or (with_way (a, b) ls) v no_leads ≡ cond (a == v) (with_place (get_or ls v no_leads) b) (get_or ls v no_leads)
way_at a b v ls low = elim (cases_eq a v) as (λ _. get_or (with_way (a, b) ls) v no_leads ≡ cond (a == v) (with_place (get_or ls v no_leads) b) (get_or ls v no_leads)) [
  | inl e ↦
      ap (λ k. get_or (with_way (a, b) ls) k no_leads) (sym e) ∙ get_or-set_same ls a (with_place (get_or ls a no_leads) b) no_leads low
      ∙ ap (λ k. with_place (get_or ls k no_leads) b) e
      ∙ sym (ap (λ t. cond t (with_place (get_or ls v no_leads) b) (get_or ls v no_leads)) (eq-eqb a v e))
  | inr n ↦
      get_or-set_other ls a v (with_place (get_or ls a no_leads) b) no_leads (λ e. n (sym e))
      ∙ sym (ap (λ t. cond t (with_place (get_or ls v no_leads) b) (get_or ls v no_leads)) (ne_eqb a v n))
]

-- what is noted of v tells the places in a list
abbrev Tells : List Leads → ℕ → List ℕ → Type 0
Tells ls v xs = get_or ls v no_leads ≡ leads_of (firsts same xs)

way_more : (a b v : ℕ) (ls : List Leads) (xs : List ℕ) → a < length ls → IsPlace b → All IsPlace xs → Tells ls v xs →
    Tells (with_way (a, b) ls) v (xs ++ cond (a == v) (b ∷ []) [])
way_more a b v ls xs low here all tells =
    way_at a b v ls low ∙ elim (cases_Bool (a == v))
    as (λ _. cond (a == v) (with_place (get_or ls v no_leads) b) (get_or ls v no_leads) ≡ leads_of (firsts same (xs ++ cond (a == v) (b ∷ []) []))) [
      | inl y ↦ rw y (ap (λ l. with_place l b) tells ∙ end_more xs b all here)
      | inr n ↦ rw n (tells ∙ ap (λ l. leads_of (firsts same l)) (sym (append-nil xs)))
    ]

-- both ends of an edge are below a number
abbrev pub EndsBelow : ℕ → (ℕ × ℕ) → Type 0
EndsBelow n e = (e.0 < n) × (e.1 < n)

pub length-with_edges : (es : List (ℕ × ℕ)) (ls : List Leads) → length (with_edges es ls) ≡ length ls
length-with_edges [] ls = refl
length-with_edges (e ∷ es) ls =
    let first = with_way e ls in
    length-with_edges es (with_way (e.1, e.0) first) ∙ length-set first e.1 (with_place (get_or first e.1 no_leads) e.0)
    ∙ length-set ls e.0 (with_place (get_or ls e.0 no_leads) e.1)

-- edges more
edges_tell : (v n : ℕ) → n < 2 ^ 32 → (es : List (ℕ × ℕ)) (ls : List Leads) (xs : List ℕ) → length ls ≡ n → All (EndsBelow n) es → All IsPlace xs → Tells ls v xs →
    Tells (with_edges es ls) v (xs ++ flat_map (other_end v) es)
edges_tell v n few [] ls xs count below all tells = tells ∙ ap (λ l. leads_of (firsts same l)) (sym (append-nil xs))
edges_tell v n few (e ∷ es) ls xs count below all tells =
    let here = All-head (EndsBelow n) e es below in
    let there : List ℕ = cond (e.0 == v) (e.1 ∷ []) [] in
    let back : List ℕ = cond (e.1 == v) (e.0 ∷ []) [] in
    let first = with_way e ls in
    let many = length-set ls e.0 (with_place (get_or ls e.0 no_leads) e.1) in
    let place : (w : ℕ) → w < n → IsPlace w = λ w l. omega (arith, l, few) in
    let all_there : All IsPlace there =
    cond_both (e.0 == v) (e.1 ∷ []) [] (All IsPlace) (λ y. All-cons IsPlace e.1 [] (place e.1 here.1) (All-nil IsPlace)) (λ n. All-nil IsPlace) in
    let all_back : All IsPlace back =
    cond_both (e.1 == v) (e.0 ∷ []) [] (All IsPlace) (λ y. All-cons IsPlace e.0 [] (place e.0 here.0) (All-nil IsPlace)) (λ n. All-nil IsPlace) in
    let one = way_more e.0 e.1 v ls xs (omega (arith, here.0, count)) (place e.1 here.1) all tells in
    let both = way_more e.1 e.0 v first (xs ++ there) (omega (arith, here.1, count, many)) (place e.0 here.0) (All-append IsPlace xs there all all_there) one in
    let rest =
    edges_tell v n few es (with_way (e.1, e.0) first) ((xs ++ there) ++ back)
    (length-set first e.1 (with_place (get_or first e.1 no_leads) e.0) ∙ many ∙ count) (All-tail (EndsBelow n) e es below)
    (All-append IsPlace (xs ++ there) back (All-append IsPlace xs there all all_there) all_back) both in
    rest ∙ ap (λ l. leads_of (firsts same l))
    (append_assoc (xs ++ there) back (flat_map (other_end v) es) ∙ append_assoc xs there (back ++ flat_map (other_end v) es)
    ∙ ap (λ l. xs ++ l) (sym (append_assoc there back (flat_map (other_end v) es))))

none_at : (n v : ℕ) → get_or (replicate n no_leads) v no_leads ≡ no_leads
none_at zero v = refl
none_at (suc n) zero = refl
none_at (suc n) (suc v) = none_at n v

-- each place has its neighbours noted
pub notes_tell : (es : List (ℕ × ℕ)) (w : Ways) → Notes es w → (v : ℕ) → get_or w.leads.items v no_leads ≡ leads_of (neighbours es v)
notes_tell es w notes v =
    let n = length w.leads.items in
    ap (λ ls. get_or ls v no_leads) notes.noted
    ∙ edges_tell v n notes.few es (replicate n no_leads) [] (length-replicate n no_leads) notes.below (All-nil IsPlace) (none_at n v)

-- the other ends of edges
All-other_end : (P : ℕ → Type 0) (v : ℕ) (es : List (ℕ × ℕ)) → All (λ e. P e.0 × P e.1) es → All P (flat_map (other_end v) es)
All-other_end P v [] all = All-nil P
All-other_end P v (e ∷ es) all =
    let Q : (ℕ × ℕ) → Type 0 = λ e. P e.0 × P e.1 in
    let here = All-head Q e es all in
    let there = cond_both (e.0 == v) (e.1 ∷ []) [] (All P) (λ y. All-cons P e.1 [] here.1 (All-nil P)) (λ n. All-nil P) in
    let back = cond_both (e.1 == v) (e.0 ∷ []) [] (All P) (λ y. All-cons P e.0 [] here.0 (All-nil P)) (λ n. All-nil P) in
    All-append P (other_end v e) (flat_map (other_end v) es)
    (All-append P (cond (e.0 == v) (e.1 ∷ []) []) (cond (e.1 == v) (e.0 ∷ []) []) there back) (All-other_end P v es (All-tail Q e es all))

pub neighbours_below : (n : ℕ) (es : List (ℕ × ℕ)) → All (EndsBelow n) es → (v : ℕ) → All (λ x. x < n) (neighbours es v)
neighbours_below n es below v = All-first (λ x. x < n) [] (flat_map (other_end v) es) (All-other_end (λ x. x < n) v es below)

-- the test of what is noted is that of the neighbours
straight_is : (points : List (List ℤ)) (v : ℕ) (ns : List ℕ) → All IsPlace ns → lead_straight points v (leads_of ns) ≡ are_two_in_line points v ns
straight_is points v [] all = refl
straight_is points v (a ∷ []) all = refl
straight_is points v (a ∷ b ∷ []) all = rw (not_none b (All-head IsPlace b [] (All-tail IsPlace a (b ∷ []) all))) refl
straight_is points v (a ∷ b ∷ c ∷ ns) all = rw (not_none b (All-head IsPlace b (c ∷ ns) (All-tail IsPlace a (b ∷ c ∷ ns) all))) refl

pub passed_is : (points : List (List ℤ)) (es : List (ℕ × ℕ)) (w : Ways) → Notes es w → (v : ℕ) → is_passed points w v ≡ is_needless points es v
passed_is points es w notes v =
    let few = notes.few in
    ap (lead_straight points v) (notes_tell es w notes v)
    ∙ straight_is points v (neighbours es v) (λ k d low. omega (arith, few, neighbours_below (length w.leads.items) es notes.below v k d low))

-- two places that are noted have points
pub record HavePoints (count : ℕ) (l : Leads) : Type 0 where
  pub one : l.one < count
  pub other : l.other < count

two_have : (n : ℕ) (ns : List ℕ) → All (λ x. x < n) ns → ((leads_of ns).other == no_place) ≡ false → HavePoints n (leads_of ns)
two_have n [] all h = absurd (both_ways true h refl)
two_have n (a ∷ []) all h = absurd (both_ways true h refl)
two_have n (a ∷ b ∷ []) all h =
    let P : ℕ → Type 0 = λ x. x < n in record { one = All-head P a (b ∷ []) all; other = All-head P b [] (All-tail P a (b ∷ []) all) }
two_have n (a ∷ b ∷ c ∷ ns) all h =
    let P : ℕ → Type 0 = λ x. x < n in record { one = All-head P a (b ∷ c ∷ ns) all; other = All-head P b (c ∷ ns) (All-tail P a (b ∷ c ∷ ns) all) }

pub noted_points : (es : List (ℕ × ℕ)) (w : Ways) → Notes es w → (v : ℕ) → ((get_or w.leads.items v no_leads).other == no_place) ≡ false →
    HavePoints (length w.leads.items) (get_or w.leads.items v no_leads)
noted_points es w notes v h =
    let n = length w.leads.items in
    let is = notes_tell es w notes v in
    subst (HavePoints n) (sym is) (two_have n (neighbours es v) (neighbours_below n es notes.below v) (sym (ap (λ (l : Leads). l.other == no_place) is) ∙ h))

-- edges noted after others
with_edges-append : (es fs : List (ℕ × ℕ)) (ls : List Leads) → with_edges (es ++ fs) ls ≡ with_edges fs (with_edges es ls)
with_edges-append [] fs ls = refl
with_edges-append (e ∷ es) fs ls = with_edges-append es fs (with_way (e.1, e.0) (with_way e ls))

-- the ends of the edges round a walk are places of it
path_ends : (P : ℕ → Type 0) (x : ℕ) (r : List ℕ) → P x → All P r → All (λ e. P e.0 × P e.1) (path x r)
path_ends P x [] here all = All-nil (λ (e : ℕ × ℕ). P e.0 × P e.1)
path_ends P x (y ∷ r) here all =
    let Q : (ℕ × ℕ) → Type 0 = λ e. P e.0 × P e.1 in
    All-cons Q (x, y) (path y r) (here, All-head P y r all) (path_ends P y r (All-head P y r all) (All-tail P y r all))

last_end : (P : ℕ → Type 0) (x : ℕ) (r : List ℕ) → P x → All P r → P (last_of x r)
last_end P x [] here all = here
last_end P x (y ∷ r) here all = last_end P y r (All-head P y r all) (All-tail P y r all)

pub round_ends : (P : ℕ → Type 0) (walk : List ℕ) → All P walk → All (λ e. P e.0 × P e.1) (round_edges walk)
round_ends P [] all = All-nil (λ (e : ℕ × ℕ). P e.0 × P e.1)
round_ends P (x ∷ r) all =
    let Q : (ℕ × ℕ) → Type 0 = λ e. P e.0 × P e.1 in
    let here = All-head P x r all in
    let rest = All-tail P x r all in
    All-append Q (path x r) ((last_of x r, x) ∷ []) (path_ends P x r here rest) (All-cons Q (last_of x r, x) [] (last_end P x r here rest, here) (All-nil Q))

-- the edges of a walk noted after others
pub notes_more : (es : List (ℕ × ℕ)) (walk : List ℕ) (w new : Ways) → Notes es w → All (λ v. v < length w.leads.items) walk →
    new.leads.items ≡ with_edges (round_edges walk) w.leads.items → Notes (es ++ round_edges walk) new
notes_more es walk w new notes below is =
    let n = length w.leads.items in
    let count : length new.leads.items ≡ n = ap length is ∙ length-with_edges (round_edges walk) w.leads.items in
    let few = notes.few in
    record {
      few = omega (arith, few, count);
      below = subst (λ m. All (EndsBelow m) (es ++ round_edges walk)) (sym count)
          (All-append (EndsBelow n) es (round_edges walk) notes.below (round_ends (λ v. v < n) walk below));
      noted = is ∙ ap (with_edges (round_edges walk)) notes.noted ∙ sym (with_edges-append es (round_edges walk) (replicate n no_leads))
          ∙ ap (λ m. with_edges (es ++ round_edges walk) (replicate m no_leads)) (sym count);
    }
