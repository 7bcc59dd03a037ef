-- Two half-edges that change twins.
use Rattle.std.proofs.Common.{◌≡◌, ◌≢◌, ◌<◌, ◌%◌, ℕ, List, length, get_or, refl, sym, ◌∙◌, ap, subst, inl, inr}
use Rattle.std.specs.Prelude.{◌==◌, if◌then◌else◌}
use Rattle.std.proofs.lemmas.Bool.{cases_eq, eq-eqb, ne_eqb}
use Rattle.std.proofs.lemmas.List.{length-map}
use Rattle.chain_terms.specs.Sums.{upto}
use Rattle.chain_laws.proofs.Places.{length-up_from}
use Rattle.halfedge.proofs.Listed.{listed}
use Rattle.mesh_terms.specs.Halves.{next_half}
use Rattle.sheet_terms.specs.Vertices.{around_by, changed, changed_twin}
use Rattle.fan_laws.specs.Pairs.{AreTwins, IsChange}

-- a half-edge is one of the four, or none of them
pub record IsNone (k g h a b : ℕ) : Type 0 where
  pub not_g : k ≢ g
  pub not_h : k ≢ h
  pub not_a : k ≢ a
  pub not_b : k ≢ b

module _ (twins : List ℕ) (g h : ℕ) (is : IsChange twins g h) where
  abbrev pub twin : ℕ → ℕ
  twin k = get_or twins k 0

  abbrev pub new : ℕ → ℕ
  new k = get_or (changed twins (g, h)) k 0

  abbrev pub a : ℕ
  a = twin g

  abbrev pub b : ℕ
  b = twin h

  pub a_below : a < length twins
  a_below = is.are.below g is.g_below

  pub b_below : b < length twins
  b_below = is.are.below h is.h_below

  pub a_back : twin a ≡ g
  a_back = is.are.back g is.g_below

  pub b_back : twin b ≡ h
  b_back = is.are.back h is.h_below

  pub b_not_g : b ≢ g
  b_not_g e = is.across (ap twin (sym e) ∙ b_back)

  pub a_not_b : a ≢ b
  a_not_b e = is.apart (sym a_back ∙ ap twin e ∙ b_back)

  pub cases : {P : Type 0} (k : ℕ) → (k ≡ g → P) → (k ≡ h → P) → (k ≡ a → P) → (k ≡ b → P) → (IsNone k g h a b → P) → P
  cases {P} k at_g at_h at_a at_b none = elim (cases_eq k g) as (λ _. P) [
    | inl e ↦ at_g e
    | inr not_g ↦ elim (cases_eq k h) as (λ _. P) [
      | inl e ↦ at_h e
      | inr not_h ↦ elim (cases_eq k a) as (λ _. P) [
        | inl e ↦ at_a e
        | inr not_a ↦ elim (cases_eq k b) as (λ _. P) [
          | inl e ↦ at_b e
          | inr not_b ↦ none (record { not_g = not_g; not_h = not_h; not_a = not_a; not_b = not_b })
        ]
      ]
    ]
  ]

  pub many : length (changed twins (g, h)) ≡ length twins
  many = length-map (upto (length twins)) (changed_twin twins g h) ∙ length-up_from 0 (length twins)

  read : (k : ℕ) → k < length twins → new k ≡ changed_twin twins g h k
  read k low = listed (changed_twin twins g h) (length twins) k 0 low

  -- the twins after the change
  pub new_g : new g ≡ b
  new_g = read g is.g_below ∙ ap (λ t. if t then b else if g == h then a else if g == a then h else if g == b then g else twin g) (eq-eqb g g refl)

  pub new_h : new h ≡ a
  new_h =
      read h is.h_below ∙ ap (λ t. if t then b else if h == h then a else if h == a then h else if h == b then g else twin h) (ne_eqb h g (λ e. is.apart (sym e)))
      ∙ ap (λ t. if t then a else if h == a then h else if h == b then g else twin h) (eq-eqb h h refl)

  pub new_a : new a ≡ h
  new_a =
      read a a_below ∙ ap (λ t. if t then b else if a == h then a else if a == a then h else if a == b then g else twin a) (ne_eqb a g is.g_apart)
      ∙ ap (λ t. if t then a else if a == a then h else if a == b then g else twin a) (ne_eqb a h is.across)
      ∙ ap (λ t. if t then h else if a == b then g else twin a) (eq-eqb a a refl)

  pub new_b : new b ≡ g
  new_b =
      read b b_below ∙ ap (λ t. if t then b else if b == h then a else if b == a then h else if b == b then g else twin b) (ne_eqb b g b_not_g)
      ∙ ap (λ t. if t then a else if b == a then h else if b == b then g else twin b) (ne_eqb b h is.h_apart)
      ∙ ap (λ t. if t then h else if b == b then g else twin b) (ne_eqb b a (λ e. a_not_b (sym e)))
      ∙ ap (λ t. if t then g else twin b) (eq-eqb b b refl)

  pub new_other : (k : ℕ) → k < length twins → IsNone k g h a b → new k ≡ twin k
  new_other k low none =
      read k low ∙ ap (λ t. if t then b else if k == h then a else if k == a then h else if k == b then g else twin k) (ne_eqb k g none.not_g)
      ∙ ap (λ t. if t then a else if k == a then h else if k == b then g else twin k) (ne_eqb k h none.not_h)
      ∙ ap (λ t. if t then h else if k == b then g else twin k) (ne_eqb k a none.not_a)
      ∙ ap (λ t. if t then g else twin k) (ne_eqb k b none.not_b)

  -- none of the four has one of them as its twin
  twin_none : (k : ℕ) → k < length twins → IsNone k g h a b → IsNone (twin k) g h a b
  twin_none k low none = record {
    not_g = λ e. none.not_a (sym (is.are.back k low) ∙ ap twin e);
    not_h = λ e. none.not_b (sym (is.are.back k low) ∙ ap twin e);
    not_a = λ e. none.not_g (sym (is.are.back k low) ∙ ap twin e ∙ a_back);
    not_b = λ e. none.not_h (sym (is.are.back k low) ∙ ap twin e ∙ b_back);
  }

  new_below : (k : ℕ) → k < length twins → new k < length twins
  new_below k low =
      cases k (λ e. subst (λ x. x < length twins) (sym (ap new e ∙ new_g)) b_below) (λ e. subst (λ x. x < length twins) (sym (ap new e ∙ new_h)) a_below)
      (λ e. subst (λ x. x < length twins) (sym (ap new e ∙ new_a)) is.h_below) (λ e. subst (λ x. x < length twins) (sym (ap new e ∙ new_b)) is.g_below)
      (λ none. subst (λ x. x < length twins) (sym (new_other k low none)) (is.are.below k low))

  new_back : (k : ℕ) → k < length twins → new (new k) ≡ k
  new_back k low =
      cases k (λ e. ap (λ x. new (new x)) e ∙ ap new new_g ∙ new_b ∙ sym e) (λ e. ap (λ x. new (new x)) e ∙ ap new new_h ∙ new_a ∙ sym e)
      (λ e. ap (λ x. new (new x)) e ∙ ap new new_a ∙ new_h ∙ sym e) (λ e. ap (λ x. new (new x)) e ∙ ap new new_b ∙ new_g ∙ sym e)
      (λ none. ap new (new_other k low none) ∙ new_other (twin k) (is.are.below k low) (twin_none k low none) ∙ is.are.back k low)

  -- they are still twins
  pub changed_are : AreTwins (changed twins (g, h))
  changed_are = record {
    below = λ k low. subst (λ n. new k < n) (sym many) (new_below k (subst (λ n. k < n) many low));
    back = λ k low. new_back k (subst (λ n. k < n) many low);
    whole = ap (λ n. n % 3) many ∙ is.are.whole;
  }

  -- so going around exchanges the images of g and h, and those of their twins
  abbrev pub old_around : ℕ → ℕ
  old_around = around_by twins

  abbrev pub new_around : ℕ → ℕ
  new_around = around_by (changed twins (g, h))

  pub around_g : new_around g ≡ old_around h
  around_g = ap next_half new_g

  pub around_h : new_around h ≡ old_around g
  around_h = ap next_half new_h

  pub around_a : new_around a ≡ old_around b
  around_a = ap next_half (new_a ∙ sym b_back)

  pub around_b : new_around b ≡ old_around a
  around_b = ap next_half (new_b ∙ sym a_back)

  pub around_other : (k : ℕ) → k < length twins → IsNone k g h a b → new_around k ≡ old_around k
  around_other k low none = ap next_half (new_other k low none)

  -- what is kept around, and the same at g and h and at their twins, is still kept
  pub still_kept : (f : ℕ → ℕ) → ((x : ℕ) → x < length twins → f (old_around x) ≡ f x) → f g ≡ f h → f a ≡ f b → (x : ℕ) → x < length twins → f (new_around x) ≡ f x
  still_kept f kept same same_twins x low =
      cases x (λ e. ap (λ y. f (new_around y)) e ∙ ap f around_g ∙ kept h is.h_below ∙ sym same ∙ ap f (sym e))
      (λ e. ap (λ y. f (new_around y)) e ∙ ap f around_h ∙ kept g is.g_below ∙ same ∙ ap f (sym e))
      (λ e. ap (λ y. f (new_around y)) e ∙ ap f around_a ∙ kept b b_below ∙ sym same_twins ∙ ap f (sym e))
      (λ e. ap (λ y. f (new_around y)) e ∙ ap f around_b ∙ kept a a_below ∙ same_twins ∙ ap f (sym e))
      (λ none. ap f (around_other x low none) ∙ kept x low)
