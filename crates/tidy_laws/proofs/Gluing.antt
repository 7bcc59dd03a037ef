-- Going around after a collapse: two cycles of which each loses a piece become one. Half-edges are numbers; what goes, what
-- is put for what and how one goes around are functions, so that nothing here speaks of lists.
use Rattle.std.proofs.Common.{◌≡◌, ◌≢◌, ℕ, zero, suc, ◌⊎◌, inl, inr, refl, sym, ap, subst, ◌∙◌}
use Rattle.std.specs.Prelude.{◌<◌, ◌==◌}
use Rattle.std.proofs.lemmas.Bool.{eqb-true, eq-eqb, cases_Bool}
use Rattle.chain_terms.specs.Permutations.{times}
use Rattle.tidy_terms.specs.Collapse.{merged}
use Rattle.tidy_laws.proofs.Closed.{merged_second, merged_other}

-- s leads from x to y
abbrev pub Leads : (ℕ → ℕ) → ℕ → ℕ → Type 0
Leads s x y = (n : ℕ) × (times s n x ≡ y)

-- s, first once and then n times
pub times_first : (s : ℕ → ℕ) (n x : ℕ) → times s n (s x) ≡ times s (suc n) x
times_first s zero x = refl
times_first s (suc n) x = ap s (times_first s n x)

-- what s keeps but at z stays on the way from x to z
pub until : (s : ℕ → ℕ) (Q : ℕ → Type 0) (z : ℕ) → ((x : ℕ) → x ≢ z → Q x → Q (s x)) → (n x : ℕ) → times s n x ≡ z → Q x → Q z
until s Q z keeps zero x e q = subst Q e q
until s Q z keeps (suc n) x e q = elim (cases_Bool (x == z)) as (λ _. Q z) [
  | inl y ↦ subst Q (eqb-true x z y) q
  | inr m ↦ until s Q z keeps n (s x) (times_first s n x ∙ e) (keeps x (λ same. let k = eq-eqb x z same in absurd (cc)) q)
]

-- what s keeps stays on every way
pub stays_on : (s : ℕ → ℕ) (Q : ℕ → Type 0) → ((x : ℕ) → Q x → Q (s x)) → (n x : ℕ) → Q x → Q (times s n x)
stays_on s Q keeps zero x q = q
stays_on s Q keeps (suc n) x q = keeps (times s n x) (stays_on s Q keeps n x q)

-- s goes around n half-edges before the collapse, and s' around those that stay after it. From each half-edge `to` gives
-- the first one that stays on the way around. At out_a the way leaves the cycle at a for that at b, at out_b it comes back;
-- in_a and in_b are where the two cycles go on.
pub record AreGlued (n : ℕ) (s t to start : ℕ → ℕ) (a b out_a in_a out_b in_b : ℕ) : Type 0 where
  pub below : (x : ℕ) → x < n → s x < n
  pub same_start : (x : ℕ) → x < n → start (s x) ≡ start x
  pub one_fan : (x y : ℕ) → x < n → y < n → start x ≡ start y → Leads s x y
  pub apart : a ≢ b
  pub step : (x : ℕ) → x < n → x ≢ out_a → x ≢ out_b → (to (s x) ≡ to x) ⊎ (to (s x) ≡ t (to x))
  pub out_a_below : out_a < n
  pub out_a_start : start out_a ≡ a
  pub out_a_stays : to out_a ≡ out_a
  pub out_a_old : to (s out_a) ≡ in_a
  pub out_a_new : t out_a ≡ in_b
  pub in_a_below : in_a < n
  pub in_a_start : start in_a ≡ a
  pub in_a_stays : to in_a ≡ in_a
  pub out_b_below : out_b < n
  pub out_b_start : start out_b ≡ b
  pub out_b_stays : to out_b ≡ out_b
  pub out_b_old : to (s out_b) ≡ in_b
  pub out_b_new : t out_b ≡ in_a
  pub in_b_below : in_b < n
  pub in_b_start : start in_b ≡ b
  pub in_b_stays : to in_b ≡ in_b

-- the same with the two cycles exchanged
exchanged : (n : ℕ) (s t to start : ℕ → ℕ) (a b out_a in_a out_b in_b : ℕ) → AreGlued n s t to start a b out_a in_a out_b in_b → AreGlued n s t to start b a out_b in_b out_a in_a
exchanged n s t to start a b out_a in_a out_b in_b g = record {
  below = g.below;
  same_start = g.same_start;
  one_fan = g.one_fan;
  apart = λ e. g.apart (sym e);
  step = λ x l p q. g.step x l q p;
  out_a_below = g.out_b_below;
  out_a_start = g.out_b_start;
  out_a_stays = g.out_b_stays;
  out_a_old = g.out_b_old;
  out_a_new = g.out_b_new;
  in_a_below = g.in_b_below;
  in_a_start = g.in_b_start;
  in_a_stays = g.in_b_stays;
  out_b_below = g.out_a_below;
  out_b_start = g.out_a_start;
  out_b_stays = g.out_a_stays;
  out_b_old = g.out_a_old;
  out_b_new = g.out_a_new;
  in_b_below = g.in_a_below;
  in_b_start = g.in_a_start;
  in_b_stays = g.in_a_stays;
}

-- a half-edge at v of which P holds where it or the next one that stays is taken
record HoldsAt (n : ℕ) (to start : ℕ → ℕ) (P : ℕ → Type 0) (v x : ℕ) : Type 0 where
  low : x < n
  at : start x ≡ v
  holds : P (to x)

-- what t keeps is kept by a step of s that does not leave a cycle
go_on : (n : ℕ) (s t to start : ℕ → ℕ) (a b out_a in_a out_b in_b : ℕ) → AreGlued n s t to start a b out_a in_a out_b in_b → (P : ℕ → Type 0) → ((x : ℕ) → P x → P (t x)) →
    (x : ℕ) → x < n → x ≢ out_a → x ≢ out_b → P (to x) → P (to (s x))
go_on n s t to start a b out_a in_a out_b in_b g P keeps x low not_a not_b p = elim (g.step x low not_a not_b) as (λ _. P (to (s x))) [
  | inl e ↦ subst P (sym e) p
  | inr e ↦ subst P (sym e) (keeps (to x) p)
]

-- so it leads from where the cycle at a goes on to where it is left
along_a : (n : ℕ) (s t to start : ℕ → ℕ) (a b out_a in_a out_b in_b : ℕ) → AreGlued n s t to start a b out_a in_a out_b in_b → (P : ℕ → Type 0) →
    ((x : ℕ) → P x → P (t x)) → P in_a → P out_a
along_a n s t to start a b out_a in_a out_b in_b g P keeps p =
    let way = g.one_fan in_a out_a g.in_a_below g.out_a_below (g.in_a_start ∙ sym g.out_a_start) in
    let Q : ℕ → Type 0 = HoldsAt n to start P a in
    let there : Q out_a = until s Q out_a (λ x other q. record {
      low = g.below x q.low;
      at = g.same_start x q.low ∙ q.at;
      holds = go_on n s t to start a b out_a in_a out_b in_b g P keeps x q.low other (λ e. g.apart (sym q.at ∙ ap start e ∙ g.out_b_start)) q.holds;
    }) way.0 in_a way.1 (record { low = g.in_a_below; at = g.in_a_start; holds = subst P (sym g.in_a_stays) p }) in
    subst P g.out_a_stays there.holds

-- and over to the other cycle
over_a : (n : ℕ) (s t to start : ℕ → ℕ) (a b out_a in_a out_b in_b : ℕ) → AreGlued n s t to start a b out_a in_a out_b in_b → (P : ℕ → Type 0) →
    ((x : ℕ) → P x → P (t x)) → P out_a → P in_b
over_a n s t to start a b out_a in_a out_b in_b g P keeps p = subst P g.out_a_new (keeps out_a p)

-- so every step of s keeps it
each_step : (n : ℕ) (s t to start : ℕ → ℕ) (a b out_a in_a out_b in_b : ℕ) → AreGlued n s t to start a b out_a in_a out_b in_b → (P : ℕ → Type 0) → ((x : ℕ) → P x → P (t x)) →
    (x : ℕ) → x < n → P (to x) → P (to (s x))
each_step n s t to start a b out_a in_a out_b in_b g P keeps x low p =
    let g' = exchanged n s t to start a b out_a in_a out_b in_b g in
    elim (cases_Bool (x == out_a)) as (λ _. P (to (s x))) [
      | inl y ↦
          let e = eqb-true x out_a y in
          let at_out : P out_a = subst P (ap to e ∙ g.out_a_stays) p in
          let back = over_a n s t to start b a out_b in_b out_a in_a g' P keeps
          (along_a n s t to start b a out_b in_b out_a in_a g' P keeps (over_a n s t to start a b out_a in_a out_b in_b g P keeps at_out)) in
          subst P (sym (ap (λ z. to (s z)) e ∙ g.out_a_old)) back
      | inr m ↦ elim (cases_Bool (x == out_b)) as (λ _. P (to (s x))) [
        | inl y ↦
            let e = eqb-true x out_b y in
            let at_out : P out_b = subst P (ap to e ∙ g.out_b_stays) p in
            let back = over_a n s t to start a b out_a in_a out_b in_b g P keeps
            (along_a n s t to start a b out_a in_a out_b in_b g P keeps (over_a n s t to start b a out_b in_b out_a in_a g' P keeps at_out)) in
            subst P (sym (ap (λ z. to (s z)) e ∙ g.out_b_old)) back
        | inr k ↦ go_on n s t to start a b out_a in_a out_b in_b g P keeps x low (λ e. let z = eq-eqb x out_a e in absurd (cc)) (λ e. let z = eq-eqb x out_b e in absurd (cc)) p
      ]
    ]

-- a half-edge with its number below n
record Inside (n : ℕ) (to : ℕ → ℕ) (P : ℕ → Type 0) (x : ℕ) : Type 0 where
  low : x < n
  holds : P (to x)

same_vertex : (n : ℕ) (s t to start : ℕ → ℕ) (a b out_a in_a out_b in_b : ℕ) → AreGlued n s t to start a b out_a in_a out_b in_b → (P : ℕ → Type 0) → ((x : ℕ) → P x → P (t x)) →
    (x y : ℕ) → x < n → y < n → start x ≡ start y → P (to x) → P (to y)
same_vertex n s t to start a b out_a in_a out_b in_b g P keeps x y x_low y_low same p =
    let way = g.one_fan x y x_low y_low same in
    let Q : ℕ → Type 0 = Inside n to P in
    let there : Q (times s way.0 x) =
    stays_on s Q (λ z q. record { low = g.below z q.low; holds = each_step n s t to start a b out_a in_a out_b in_b g P keeps z q.low q.holds }) way.0 x
    (record { low = x_low; holds = p }) in
    subst (λ z. P (to z)) way.1 there.holds

-- from the cycle at a to that at b
a_to_b : (n : ℕ) (s t to start : ℕ → ℕ) (a b out_a in_a out_b in_b : ℕ) → AreGlued n s t to start a b out_a in_a out_b in_b → (P : ℕ → Type 0) → ((x : ℕ) → P x → P (t x)) →
    (x y : ℕ) → x < n → y < n → start x ≡ a → start y ≡ b → P (to x) → P (to y)
a_to_b n s t to start a b out_a in_a out_b in_b g P keeps x y x_low y_low at_a at_b p =
    let p1 = same_vertex n s t to start a b out_a in_a out_b in_b g P keeps x out_a x_low g.out_a_below (at_a ∙ sym g.out_a_start) p in
    let p2 = over_a n s t to start a b out_a in_a out_b in_b g P keeps (subst P g.out_a_stays p1) in
    same_vertex n s t to start a b out_a in_a out_b in_b g P keeps in_b y g.in_b_below y_low (g.in_b_start ∙ sym at_b) (subst P (sym g.in_b_stays) p2)

-- what t keeps holds of all half-edges at a vertex, a and b being one, or of none
pub glued : (n : ℕ) (s t to start : ℕ → ℕ) (a b out_a in_a out_b in_b : ℕ) → AreGlued n s t to start a b out_a in_a out_b in_b → (P : ℕ → Type 0) → ((x : ℕ) → P x → P (t x)) →
    (x y : ℕ) → x < n → y < n → merged a b (start x) ≡ merged a b (start y) → P (to x) → P (to y)
glued n s t to start a b out_a in_a out_b in_b g P keeps x y x_low y_low same p =
    elim (cases_Bool (start x == b)) as (λ _. P (to y)) [
      | inl i ↦
          let x_at = eqb-true (start x) b i in
          elim (cases_Bool (start y == b)) as (λ _. P (to y)) [
            | inl j ↦ same_vertex n s t to start a b out_a in_a out_b in_b g P keeps x y x_low y_low (x_at ∙ sym (eqb-true (start y) b j)) p
            | inr j ↦
                let y_at : start y ≡ a = sym (merged_other a b (start y) (λ e. let z = eq-eqb (start y) b e in absurd (cc))) ∙ sym same ∙ merged_second a b (start x) x_at in
                a_to_b n s t to start b a out_b in_b out_a in_a (exchanged n s t to start a b out_a in_a out_b in_b g) P keeps x y x_low y_low x_at y_at p
          ]
      | inr i ↦
          let x_stays = merged_other a b (start x) (λ e. let z = eq-eqb (start x) b e in absurd (cc)) in
          elim (cases_Bool (start y == b)) as (λ _. P (to y)) [
            | inl j ↦
                let y_at = eqb-true (start y) b j in
                a_to_b n s t to start a b out_a in_a out_b in_b g P keeps x y x_low y_low (sym x_stays ∙ same ∙ merged_second a b (start y) y_at) y_at p
            | inr j ↦
                let y_stays = merged_other a b (start y) (λ e. let z = eq-eqb (start y) b e in absurd (cc)) in
                same_vertex n s t to start a b out_a in_a out_b in_b g P keeps x y x_low y_low (sym x_stays ∙ same ∙ y_stays) p
          ]
    ]
