-- The six lists in which a copy of a hit stands, where all lists are known by the numbers of faces.
use Rattle.std.proofs.Common.{◌≡◌, ℕ, ◌+◌, ◌-◌, ◌*◌, ◌/◌, ◌%◌, ◌<◌, ◌≤◌, ◌==◌, Bool, true, false, not, cond, ℤ, pos}
use Rattle.std.proofs.Common.{◌⊎◌, inl, inr, refl, ap, ◌∙◌, subst, arith}
use Rattle.std.specs.List.{All, Contains}
use Rattle.std.proofs.lemmas.Bool.{cases_eq, cases_lt, eq-eqb, ne_eqb}
use Rattle.std.proofs.lemmas.List.Elements.{All-from_recursion}
use Rattle.retained_verts.proofs.Ways.{same}
use Rattle.source_faces.specs.Agreement.{StandsAs}
use Rattle.source_faces.specs.Stands.{six_stands}
use Rattle.source_faces.specs.declared.lists.stands.Stand.{Stand}
use Rattle.source_faces.proofs.Between.{between, nothing_stands, stands_first, stands_second, which}

not_twice : (b : Bool) → not (not b) ≡ b
not_twice true = refl
not_twice false = refl

-- a record by its parts
same_stand : (x y l m v : ℕ) (s t : Bool) → x ≡ y → l ≡ m → t ≡ s →
    ◌≡◌ {A = Stand} (record { face = x; list = l; copy = v; start = s }) (record { face = y; list = m; copy = v; start = t })
same_stand x y l m v s t a b c = cc

-- a value that counts where two numbers are the same, and where they are not
at_same_numbers : (f g : ℕ) (z w : ℤ) → z ≡ cond (f == g) w (pos 0) → f ≡ g → z ≡ w
at_same_numbers f g z w is e = is ∙ ap (λ b. cond b w (pos 0)) (eq-eqb f g e)

at_others : (f g : ℕ) (z w : ℤ) → z ≡ cond (f == g) w (pos 0) → (f ≡ g → ⊥) → z ≡ pos 0
at_others f g z w is d = is ∙ ap (λ b. cond b w (pos 0)) (ne_eqb f g d)

-- a record of the copy that says how it stands
abbrev pub SaysHow : (ℕ → ℕ → ℤ) → ℕ → Stand → Type 0
SaysHow value v s = (s.copy ≡ v) × StandsAs s.start (value s.face s.list)

-- value x l says how the copy of a hit, of an edge with these half-edges and a face, stands in list l of source face x:
-- that is one of the edge's own mesh, or one of the other
module _ (value : ℕ → ℕ → ℤ) (Own Other : ℕ → Type 0) (own other lower upper face : ℕ) (positive : Bool) where
  -- in the list of half-edge h, and in that of a pair of one of the edge's own faces with the other face, seen from there
  abbrev pub in_half_list : ℕ → ℤ
  in_half_list h = between (not positive) (same h lower) (same h upper)

  abbrev pub in_pair_list : ℕ → ℤ
  in_pair_list f = between positive (same f (lower / 3)) (same f (upper / 3))

  -- and seen from the other face
  abbrev pub in_turned_list : ℕ → ℤ
  in_turned_list f = between (not positive) (same f (lower / 3)) (same f (upper / 3))

  pub record IsSeen : Type 0 where
    pub either : (x : ℕ) → Own x ⊎ Other x
    pub own_from : (x : ℕ) → Own x → own ≤ x
    pub other_from : (x : ℕ) → Other x → other ≤ x
    pub lower_own : Own (own + lower / 3)
    pub upper_own : Own (own + upper / 3)
    pub face_other : Other (other + face)
    pub apart : lower / 3 ≡ upper / 3 → ⊥
    pub in_half : (x l : ℕ) → Own x → l < 3 → value x l ≡ in_half_list (3 * (x - own) + l)
    pub in_pair : (x l : ℕ) → Own x → 3 ≤ l → value x l ≡ cond (face == l - 3) (in_pair_list (x - own)) (pos 0)
    pub in_no_half : (x l : ℕ) → Other x → l < 3 → value x l ≡ pos 0
    pub in_turned : (x l : ℕ) → Other x → 3 ≤ l → value x l ≡ cond (face == x - other) (in_turned_list (l - 3)) (pos 0)

  -- one of the six
  abbrev IsOneOfSix : (v x l : ℕ) → Bool → Type 0
  IsOneOfSix v x l start = Contains (six_stands own other lower upper face positive v) (record { face = x; list = l; copy = v; start = start })

  in_own : IsSeen → (v x l : ℕ) (start : Bool) → Own x → StandsAs start (value x l) → IsOneOfSix v x l start
  in_own known v x l start mine stands =
      let from = known.own_from x mine in
      elim (cases_lt l 3) as (λ _. IsOneOfSix v x l start) [
        | inl low ↦
            let here = subst (StandsAs start) (known.in_half x l mine low) stands in
            elim (which (not positive) start (3 * (x - own) + l) lower upper here) as (λ _. IsOneOfSix v x l start) [
              | inl (a, s) ↦ (
                0,
                omega arith,
                same_stand (own + lower / 3) x (lower % 3) l v (not positive) start (omega (arith, a, from, low)) (omega (arith, a, low)) s,
              )
              | inr (a, s) ↦ (
                1,
                omega arith,
                same_stand (own + upper / 3) x (upper % 3) l v positive start (omega (arith, a, from, low)) (omega (arith, a, low))
                    (s ∙ not_twice positive),
              )
            ]
        | inr high ↦
            let is = known.in_pair x l mine high in
            elim (cases_eq face (l - 3)) as (λ _. IsOneOfSix v x l start) [
              | inl e ↦
                  let here = subst (StandsAs start) (at_same_numbers face (l - 3) (value x l) (in_pair_list (x - own)) is e) stands in
                  elim (which positive start (x - own) (lower / 3) (upper / 3) here) as (λ _. IsOneOfSix v x l start) [
                    | inl (a, s) ↦ (
                      2,
                      omega arith,
                      same_stand (own + lower / 3) x (3 + face) l v positive start (omega (arith, a, from)) (omega (arith, e, high)) s,
                    )
                    | inr (a, s) ↦ (
                      3,
                      omega arith,
                      same_stand (own + upper / 3) x (3 + face) l v (not positive) start (omega (arith, a, from)) (omega (arith, e, high)) s,
                    )
                  ]
              | inr d ↦ absurd (nothing_stands start (value x l) (at_others face (l - 3) (value x l) (in_pair_list (x - own)) is d) stands)
            ]
      ]

  in_other : IsSeen → (v x l : ℕ) (start : Bool) → Other x → StandsAs start (value x l) → IsOneOfSix v x l start
  in_other known v x l start theirs stands =
      let from = known.other_from x theirs in
      elim (cases_lt l 3) as (λ _. IsOneOfSix v x l start) [
        | inl low ↦ absurd (nothing_stands start (value x l) (known.in_no_half x l theirs low) stands)
        | inr high ↦
            let is = known.in_turned x l theirs high in
            elim (cases_eq face (x - other)) as (λ _. IsOneOfSix v x l start) [
              | inl e ↦
                  let here = subst (StandsAs start) (at_same_numbers face (x - other) (value x l) (in_turned_list (l - 3)) is e) stands in
                  elim (which (not positive) start (l - 3) (lower / 3) (upper / 3) here) as (λ _. IsOneOfSix v x l start) [
                    | inl (a, s) ↦ (
                      4,
                      omega arith,
                      same_stand (other + face) x (3 + lower / 3) l v (not positive) start (omega (arith, e, from)) (omega (arith, a, high)) s,
                    )
                    | inr (a, s) ↦ (
                      5,
                      omega arith,
                      same_stand (other + face) x (3 + upper / 3) l v positive start (omega (arith, e, from)) (omega (arith, a, high))
                          (s ∙ not_twice positive),
                    )
                  ]
              | inr d ↦ absurd (nothing_stands start (value x l) (at_others face (x - other) (value x l) (in_turned_list (l - 3)) is d) stands)
            ]
      ]

  -- wherever it stands is one of the six
  pub is_one_of_six : IsSeen → (v x l : ℕ) (start : Bool) → StandsAs start (value x l) →
      Contains (six_stands own other lower upper face positive v) (record { face = x; list = l; copy = v; start = start })
  is_one_of_six known v x l start stands =
      elim (known.either x) as (λ _. IsOneOfSix v x l start) [
        | inl mine ↦ in_own known v x l start mine stands
        | inr theirs ↦ in_other known v x l start theirs stands
      ]

  -- where the one of two numbers is that of the place, and where the other is
  in_first : (c : Bool) (x l a y z : ℕ) → (y ≡ z → ⊥) → value x l ≡ between c (same a y) (same a z) → a ≡ y → StandsAs c (value x l)
  in_first c x l a y z = stands_first c a y z (value x l)

  in_second : (c s : Bool) (x l a y z : ℕ) → (y ≡ z → ⊥) → value x l ≡ between c (same a y) (same a z) → a ≡ z → not c ≡ s → StandsAs s (value x l)
  in_second c s x l a y z = stands_second c s a y z (value x l)

  -- and the six all stand so
  pub six_say : IsSeen → (v : ℕ) → All (SaysHow value v) (six_stands own other lower upper face positive v)
  six_say known v =
      let x = own + lower / 3 in
      let y = own + upper / 3 in
      let z = other + face in
      let pair = 3 + face in
      let l = 3 + lower / 3 in
      let m = 3 + upper / 3 in
      let up = not_twice positive in
      let differ : lower ≡ upper → ⊥ = λ e. known.apart (ap (λ h. h / 3) e) in
      let of_pair : (f : ℕ) → Own f → value f pair ≡ in_pair_list (f - own) =
      λ f mine. at_same_numbers face (pair - 3) (value f pair) (in_pair_list (f - own)) (known.in_pair f pair mine (omega arith)) (omega arith) in
      let of_turned : (k : ℕ) → 3 ≤ k → value z k ≡ in_turned_list (k - 3) = λ k high.
      at_same_numbers face (z - other) (value z k) (in_turned_list (k - 3)) (known.in_turned z k known.face_other high) (omega arith) in
      let s0 =
      in_first (not positive) x (lower % 3) (3 * (x - own) + lower % 3) lower upper differ
      (known.in_half x (lower % 3) known.lower_own (omega arith)) (omega arith) in
      let s1 =
      in_second (not positive) positive y (upper % 3) (3 * (y - own) + upper % 3) lower upper differ
      (known.in_half y (upper % 3) known.upper_own (omega arith)) (omega arith) up in
      let s2 = in_first positive x pair (x - own) (lower / 3) (upper / 3) known.apart (of_pair x known.lower_own) (omega arith) in
      let s3 =
      in_second positive (not positive) y pair (y - own) (lower / 3) (upper / 3) known.apart (of_pair y known.upper_own) (omega arith) refl in
      let s4 = in_first (not positive) z l (l - 3) (lower / 3) (upper / 3) known.apart (of_turned l (omega arith)) (omega arith) in
      let s5 = in_second (not positive) positive z m (m - 3) (lower / 3) (upper / 3) known.apart (of_turned m (omega arith)) (omega arith) up in
      All-from_recursion (SaysHow value v) (six_stands own other lower upper face positive v)
      ((refl, s0), ((refl, s1), ((refl, s2), ((refl, s3), ((refl, s4), ((refl, s5), tt))))))
