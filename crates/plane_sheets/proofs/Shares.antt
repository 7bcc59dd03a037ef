-- Sheets dealt out to listed labels are those of the definition, which deals to all labels.
use Rattle.std.proofs.Common.{arith, ◌≡◌, ℕ, zero, suc, ◌+◌, ◌-◌, ◌<◌, ◌≤◌, ◌==◌, min, ℤ, pos, ◌+ℤ◌, ◌-ℤ◌, List, [], ◌∷◌, false, cond, get_or, length, map, refl, sym, ap, subst, ◌∙◌, inl, inr}
use Rattle.std.specs.List.{All}
use Rattle.std.proofs.lemmas.Int.{ints}
use Rattle.std.proofs.lemmas.Bool.{cases_eq, eq-eqb, ne_eqb}
use Rattle.std.proofs.lemmas.List.Elements.{All-weaker}
use Rattle.chain_terms.specs.Sums.{total, up_from, upto}
use Rattle.chain_laws.specs.Sums.{total-map, total-same, total-same_all, total-swap}
use Rattle.chain_laws.proofs.Places.{one_hit, where_same}
use Rattle.sheet_terms.specs.Numbers.{above_zero, dealt, differences}
use Rattle.plane_sheets.specs.Dealt.{share}
use Rattle.plane_sheets.specs.Sides.{RiseFrom, all_held, held}

-- values that agree on the numbers from k on
pub map-up_from_same : {Y : Type 0} (f g : ℕ → Y) (k n : ℕ) → ((i : ℕ) → k ≤ i → i < k + n → f i ≡ g i) → map f (up_from k n) ≡ map g (up_from k n)
map-up_from_same f g k zero h = refl
map-up_from_same f g k (suc n) h =
    ap (λ y. y ∷ map f (up_from (suc k) n)) (h k (omega arith) (omega arith))
    ∙ ap (λ l. g k ∷ l) (map-up_from_same f g (suc k) n (λ i l m. h i (omega (arith, l)) (omega (arith, m))))

-- a label before the first has no number, and no share
held_none : (j k : ℕ) (ps : List (ℕ × ℤ)) → j < k → RiseFrom k ps → held j ps ≡ pos 0
held_none j k [] h r = refl
held_none j k (p ∷ ps) h r =
    let low = r.0 in
    let e : (p.0 == j) ≡ false = ne_eqb p.0 j (λ q. omega (arith, h, low, q)) in
    let rest = held_none j (suc p.0) ps (omega (arith, h, low)) r.1 in
    ap (λ b. cond b p.1 (pos 0) +ℤ held j ps) e ∙ ap (λ z. pos 0 +ℤ z) rest

pub share_none : (rest j k : ℕ) (ps : List (ℕ × ℤ)) → j < k → RiseFrom k ps → share rest ps j ≡ 0
share_none rest j k [] h r = refl
share_none rest j k (p ∷ ps) h r =
    let low = r.0 in
    let t = min rest (above_zero p.1) in
    ap (λ b. cond b t (share (rest - t) ps j)) (ne_eqb p.0 j (λ q. omega (arith, h, low, q))) ∙ share_none (rest - t) j (suc p.0) ps (omega (arith, h, low)) r.1

-- the first label's, and a later one's
pub share_here : (rest j : ℕ) (p : ℕ × ℤ) (ps : List (ℕ × ℤ)) → p.0 ≡ j → share rest (p ∷ ps) j ≡ min rest (above_zero p.1)
share_here rest j p ps e = let t = min rest (above_zero p.1) in ap (λ b. cond b t (share (rest - t) ps j)) (eq-eqb p.0 j e)

pub share_later : (rest j : ℕ) (p : ℕ × ℤ) (ps : List (ℕ × ℤ)) → (p.0 ≡ j → ⊥) → share rest (p ∷ ps) j ≡ share (rest - min rest (above_zero p.1)) ps j
share_later rest j p ps d = let t = min rest (above_zero p.1) in ap (λ b. cond b t (share (rest - t) ps j)) (ne_eqb p.0 j d)

-- a list dealt to, whose first number is known
dealt_first : (rest : ℕ) (n m : ℤ) (ns ms : List ℤ) → n ≡ m → ns ≡ ms → dealt rest (n ∷ ns) ≡ min rest (above_zero m) ∷ dealt (rest - min rest (above_zero m)) ms
dealt_first rest n m ns ms e f = ap (λ z. dealt rest (z ∷ ns)) e ∙ ap (λ l. dealt rest (m ∷ l)) f

-- the number of the first label, and those of later ones
held_first : (s : ℕ) (p : ℕ × ℤ) (ps : List (ℕ × ℤ)) → p.0 ≡ s → RiseFrom (suc p.0) ps → held s (p ∷ ps) ≡ p.1
held_first s p ps e r =
    ap (λ b. cond b p.1 (pos 0) +ℤ held s ps) (eq-eqb p.0 s e) ∙ ap (λ z. p.1 +ℤ z) (held_none s (suc p.0) ps (omega (arith, e)) r) ∙ nothing p.1
  where
    nothing : (z : ℤ) → z +ℤ pos 0 ≡ z
    nothing z = omega (arith, ints)

held_later : (k : ℕ) (p : ℕ × ℤ) (ps : List (ℕ × ℤ)) → (p.0 ≡ k → ⊥) → held k (p ∷ ps) ≡ held k ps
held_later k p ps d = ap (λ b. cond b p.1 (pos 0) +ℤ held k ps) (ne_eqb p.0 k d) ∙ nothing (held k ps)
  where
    nothing : (z : ℤ) → pos 0 +ℤ z ≡ z
    nothing z = omega (arith, ints)

-- what the labels from s on get
pub shares : (m s rest : ℕ) (ps : List (ℕ × ℤ)) → RiseFrom s ps → (i : ℕ) → i < m → get_or (dealt rest (map (λ k. held k ps) (up_from s m))) i 0 ≡ share rest ps (s + i)
shares zero s rest ps r i h = absurd (omega (arith, h))
shares (suc m) s rest [] r zero h = omega arith
shares (suc m) s rest [] r (suc i) h = shares m (suc s) (rest - min rest 0) [] tt i (omega (arith, h))
shares (suc m) s rest (p ∷ ps) r i h = elim (cases_eq p.0 s) as (λ _. get_or (dealt rest (map (λ k. held k (p ∷ ps)) (up_from s (suc m)))) i 0 ≡ share rest (p ∷ ps) (s + i)) [
  | inl e ↦
      let t = min rest (above_zero p.1) in
      let tail = map-up_from_same (λ k. held k (p ∷ ps)) (λ k. held k ps) (suc s) m (λ k l b. held_later k p ps (λ q. omega (arith, q, e, l))) in
      let whole = dealt_first rest _ _ _ _ (held_first s p ps e r.1) tail in
      same_at rest p ps s m e r.1 (λ j l. shares m (suc s) (rest - t) ps (rise_from p.0 s ps e r.1) j l) whole i h
  | inr d ↦
      let low = r.0 in
      let after : RiseFrom (suc s) (p ∷ ps) = (omega (arith, low, d), r.1) in
      let whole = dealt_first rest _ _ _ _ (held_none s (suc s) (p ∷ ps) (omega arith) after) refl in
      later_at rest (p ∷ ps) s m after (λ j l. shares m (suc s) (rest - min rest 0) (p ∷ ps) after j l) whole i h
]
  where
    rise_from : (q s : ℕ) (ps : List (ℕ × ℤ)) → q ≡ s → RiseFrom (suc q) ps → RiseFrom (suc s) ps
    rise_from q s [] e r = tt
    rise_from q s (p ∷ ps) e r = let low = r.0 in (omega (arith, low, e), r.1)

    same_at : (rest : ℕ) (p : ℕ × ℤ) (ps : List (ℕ × ℤ)) (s m : ℕ) → p.0 ≡ s → RiseFrom (suc p.0) ps →
        ((j : ℕ) → j < m → get_or (dealt (rest - min rest (above_zero p.1)) (map (λ k. held k ps) (up_from (suc s) m))) j 0
        ≡ share (rest - min rest (above_zero p.1)) ps (suc s + j)) →
        dealt rest (map (λ k. held k (p ∷ ps)) (up_from s (suc m))) ≡ min rest (above_zero p.1) ∷ dealt (rest - min rest (above_zero p.1))
        (map (λ k. held k ps) (up_from (suc s) m)) →
        (i : ℕ) → i < suc m → get_or (dealt rest (map (λ k. held k (p ∷ ps)) (up_from s (suc m)))) i 0 ≡ share rest (p ∷ ps) (s + i)
    same_at rest p ps s m e r next whole zero h = ap (λ l. get_or l 0 0) whole ∙ sym (share_here rest (s + 0) p ps (omega (arith, e)))
    same_at rest p ps s m e r next whole (suc i) h =
        let shift : suc s + i ≡ s + suc i = omega arith in
        ap (λ l. get_or l (suc i) 0) whole ∙ next i (omega (arith, h)) ∙ ap (share (rest - min rest (above_zero p.1)) ps) shift
        ∙ sym (share_later rest (s + suc i) p ps (λ q. omega (arith, q, e)))

    later_at : (rest : ℕ) (ps : List (ℕ × ℤ)) (s m : ℕ) → RiseFrom (suc s) ps →
        ((j : ℕ) → j < m → get_or (dealt (rest - min rest 0) (map (λ k. held k ps) (up_from (suc s) m))) j 0 ≡ share (rest - min rest 0) ps (suc s + j)) →
        dealt rest (map (λ k. held k ps) (up_from s (suc m))) ≡ min rest 0 ∷ dealt (rest - min rest 0) (map (λ k. held k ps) (up_from (suc s) m)) →
        (i : ℕ) → i < suc m → get_or (dealt rest (map (λ k. held k ps) (up_from s (suc m)))) i 0 ≡ share rest ps (s + i)
    later_at rest ps s m r next whole zero h =
        let none : min rest 0 ≡ 0 = omega arith in ap (λ l. get_or l 0 0) whole ∙ none ∙ sym (share_none rest (s + 0) (suc s) ps (omega arith) r)
    later_at rest ps s m r next whole (suc i) h =
        let shift : suc s + i ≡ s + suc i = omega arith in
        let all : rest - min rest 0 ≡ rest = omega arith in
        ap (λ l. get_or l (suc i) 0) whole ∙ next i (omega (arith, h)) ∙ ap (share (rest - min rest 0) ps) shift ∙ ap (λ t. share t ps (s + suc i)) all

-- the numbers of all labels below n add up to those that are listed
pub all_listed : (n : ℕ) (ps : List (ℕ × ℤ)) → All (λ p. p.0 < n) ps → total (λ z. z) (map (λ k. held k ps) (upto n)) ≡ all_held ps
all_listed n ps few =
    total-map (λ (z : ℤ). z) (λ k. held k ps) (upto n) ∙ total-swap (λ k (p : ℕ × ℤ). cond (p.0 == k) p.1 (pos 0)) (upto n) ps
    ∙ total-same_all (λ (p : ℕ × ℤ). total (λ k. cond (p.0 == k) p.1 (pos 0)) (upto n)) (λ p. p.1) ps
    (All-weaker (λ (p : ℕ × ℤ). p.0 < n) (λ p. total (λ k. cond (p.0 == k) p.1 (pos 0)) (upto n) ≡ p.1) (λ p l. once p n l) ps few)
  where
    turn : (x k : ℕ) (z : ℤ) → cond (x == k) z (pos 0) ≡ where_same k x z
    turn x k z = elim (cases_eq x k) as (λ _. cond (x == k) z (pos 0) ≡ where_same k x z) [
      | inl e ↦ ap (λ b. cond b z (pos 0)) (eq-eqb x k e) ∙ sym (ap (λ b. cond b z (pos 0)) (eq-eqb k x (sym e)))
      | inr d ↦ ap (λ b. cond b z (pos 0)) (ne_eqb x k d) ∙ sym (ap (λ b. cond b z (pos 0)) (ne_eqb k x (λ q. d (sym q))))
    ]

    once : (p : ℕ × ℤ) (n : ℕ) → p.0 < n → total (λ k. cond (p.0 == k) p.1 (pos 0)) (upto n) ≡ p.1
    once p n l = total-same (λ k. cond (p.0 == k) p.1 (pos 0)) (λ k. where_same k p.0 p.1) (λ k. turn p.0 k p.1) (upto n) ∙ one_hit p.1 p.0 n l

-- differences number by number
pub differences-map : (f g : ℕ → ℤ) (k : ℕ) (m : ℕ) (ms : List ℤ) → length ms ≡ m → ((i : ℕ) → i < m → g (k + i) ≡ f (k + i) -ℤ get_or ms i (pos 0)) →
    differences (map f (up_from k m)) ms ≡ map g (up_from k m)
differences-map f g k zero ms e h = refl
differences-map f g k (suc m) [] e h = absurd (omega (arith, e))
differences-map f g k (suc m) (z ∷ ms) e h =
    let here : k + 0 ≡ k = omega arith in
    let first : f k -ℤ z ≡ g k = ap (λ i. f i -ℤ z) (sym here) ∙ sym (h 0 (omega arith)) ∙ ap g here in
    ap (λ y. y ∷ differences (map f (up_from (suc k) m)) ms) first
    ∙ ap (λ l. g k ∷ l) (differences-map f g (suc k) m ms (omega (arith, e)) (λ i l. moved f g k i (get_or ms i (pos 0)) (h (suc i) (omega (arith, l)))))
  where
    moved : (f g : ℕ → ℤ) (k i : ℕ) (z : ℤ) → g (k + suc i) ≡ f (k + suc i) -ℤ z → g (suc k + i) ≡ f (suc k + i) -ℤ z
    moved f g k i z h = let shift : k + suc i ≡ suc k + i = omega arith in subst (λ (j : ℕ). g j ≡ f j -ℤ z) shift h
