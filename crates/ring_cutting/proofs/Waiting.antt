-- What is in doubt, and what waits, around one cut.
use Rattle.std.specs.Prelude.{◌≡◌, ◌≢◌, ℕ, ◌<◌, List, [], ◌∷◌, ◌++◌, Bool, true, false, length, get_or, set}
use Rattle.std.specs.Ordering.{nat_cmp}
use Rattle.std.specs.BTreeSet.{BTreeSet, contains}
use Rattle.std.proofs.Common.{refl, sym, subst, ap, ◌∙◌, inl, inr}
use Rattle.std.proofs.lemmas.Bool.{cases_eq}
use Rattle.std.proofs.lemmas.List.{get_or-set_same, get_or-set_other}
use Rattle.face_plane.specs.Rings.{In}
use Rattle.ring_cutting.specs.declared.place.Place.{Place}
use Rattle.ring_cutting.specs.Left.{lives, after_of, before_of, IsLinked, AreSettled}
use Rattle.ring_cutting.proofs.Members.{in_front, in_back}
use Rattle.ring_cutting.proofs.Lefts.{lives_kept}
use Rattle.ring_cutting.proofs.Linking.{before_apart}
use Rattle.ring_cutting.proofs.Doubting.{settled_without}

-- one more waits for w
pub waits_now : (old new : List (List ℕ)) (w i : ℕ) → w < length old → new ≡ set old w (get_or old w [] ++ i ∷ []) → In i (get_or new w [])
waits_now old new w i h e =
    subst (In i) (sym (ap (λ l. get_or l w []) e ∙ get_or-set_same old w (get_or old w [] ++ i ∷ []) [] h))
    (in_back i (get_or old w []) (i ∷ []) (inl refl))

-- and all that waited wait still
pub waits_still : (old new : List (List ℕ)) (w i : ℕ) → w < length old → new ≡ set old w (get_or old w [] ++ i ∷ []) → (v j : ℕ) →
    In j (get_or old v []) → In j (get_or new v [])
waits_still old new w i h e v j there = elim (cases_eq v w) as (λ _. In j (get_or new v [])) [
  | inl same ↦
      let more : In j (get_or old w [] ++ i ∷ []) = in_front j (get_or old w []) (i ∷ []) (subst (λ (k : ℕ). In j (get_or old k [])) same there) in
      subst (In j) (sym
      (ap (λ l. get_or l v []) e ∙ ap (λ k. get_or (set old w (get_or old w [] ++ i ∷ [])) k []) same
      ∙ get_or-set_same old w (get_or old w [] ++ i ∷ []) [] h)) more
  | inr apart ↦ subst (In j) (sym (ap (λ l. get_or l v []) e ∙ get_or-set_other old w v (get_or old w [] ++ i ∷ []) [] apart)) there
]

-- the cut of c, with the doubts that it makes
pub cut_settled : (ps : List Place) (len : ℕ) (nx bf nx' bf' : List ℕ) (bs bs' : List Bool) (old new : BTreeSet ℕ) (waiting : List (List ℕ))
    (c p n : ℕ) → IsLinked len nx bf bs → lives bs c ≡ true → after_of nx c ≢ c →
    p ≡ before_of bf c → n ≡ after_of nx c → nx' ≡ set nx p n → bf' ≡ set bf n p → bs' ≡ set bs c false →
    ((q : ℕ) → q ≢ c → contains nat_cmp old q ≡ true → contains nat_cmp new q ≡ true) →
    ((q : ℕ) → In q (get_or waiting c []) → lives bs' q ≡ true → contains nat_cmp new q ≡ true) →
    contains nat_cmp new p ≡ true → contains nat_cmp new n ≡ true →
    (lives bs' p ≡ true → lives bs' n ≡ true → ((q : ℕ) → q ≢ c → contains nat_cmp old q ≡ true → lives bs' q ≡ true) → (q : ℕ) →
    contains nat_cmp new q ≡ true → lives bs' q ≡ true) →
    AreSettled ps nx bf bs old waiting → AreSettled ps nx' bf' bs' new waiting
cut_settled ps len nx bf nx' bf' bs bs' old new waiting c p n linked here apart pe ne nxe bfe bse kept woken first last known h =
    subst (λ (l : List Bool). AreSettled ps nx' bf' l new waiting) (sym bse)
    (subst (λ (l : List ℕ). AreSettled ps nx' l (set bs c false) new waiting) (sym bfe)
    (subst (λ (l : List ℕ). AreSettled ps l (set bf n p) (set bs c false) new waiting) (sym nxe)
    (settled_without ps nx bf bs old new waiting c p n h kept (λ q w l. woken q w (ap (λ b. lives b q) bse ∙ l)) first last
    (λ q y. sym (ap (λ b. lives b q) bse) ∙ known p_lives n_lives others q y))))
  where
    p_lives : lives bs' p ≡ true
    p_lives =
        ap (λ b. lives b p) bse ∙ ap (lives (set bs c false)) pe
        ∙ lives_kept bs c (before_of bf c) (before_apart len nx bf bs c linked here apart) (linked.stays c here)

    n_lives : lives bs' n ≡ true
    n_lives = ap (λ b. lives b n) bse ∙ ap (lives (set bs c false)) ne ∙ lives_kept bs c (after_of nx c) apart (linked.goes c here).stays

    others : (q : ℕ) → q ≢ c → contains nat_cmp old q ≡ true → lives bs' q ≡ true
    others q d y = ap (λ b. lives b q) bse ∙ lives_kept bs c q d (h.known q y)
