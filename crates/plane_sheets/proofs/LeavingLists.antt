-- The edges that leave a place, with their numbers, and the one that follows an edge.
use Rattle.std.proofs.Common.{arith, ◌≡◌, ℕ, suc, ◌+◌, ◌==◌, ◌&&◌, not, List, [], ◌∷◌, ◌++◌, Bool, true, false, cond, filter, get_or, length, map, refl, sym, ap, ◌∙◌, inl, inr}
use Rattle.std.specs.List.{position_or_len}
use Rattle.std.proofs.lemmas.Bool.{cases_eq, eq-eqb, ne_eqb}
use Rattle.face_plane.specs.Planes.{Plane}
use Rattle.sheet_terms.specs.Chains.{same_edge}
use Rattle.sheet_terms.specs.Walks.{ends_from, first_met, follower, goes_to, is_met_before}
use Rattle.plane_sheets.specs.declared.leaving.Leaving.{Leaving}
use Rattle.plane_sheets.specs.Leaving.{AreSorted, first_number, leaving_from}

-- an edge with its number
abbrev pub leaving_at : ℕ × ℕ → ℕ → Leaving
leaving_at e k = record { from = e.0; to = e.1; number = k }

-- one more edge
pub leaving_from-push : (k : ℕ) (es : List (ℕ × ℕ)) (e : ℕ × ℕ) → leaving_from k (es ++ e ∷ []) ≡ leaving_from k es ++ leaving_at e (k + length es) ∷ []
leaving_from-push k [] e = let n : k ≡ k + 0 = omega arith in ap (λ i. leaving_at e i ∷ []) n
leaving_from-push k (d ∷ es) e =
    let same : suc k + length es ≡ k + length (d ∷ es) = omega arith in
    ap (λ l. leaving_at d k ∷ l) (leaving_from-push (suc k) es e ∙ ap (λ n. leaving_from (suc k) es ++ leaving_at e n ∷ []) same)

-- those from s lead to the ends from s
pub leaving_ends : (k s : ℕ) (es : List (ℕ × ℕ)) → map (λ l. l.to) (filter (λ l. l.from == s) (leaving_from k es)) ≡ ends_from es s
leaving_ends k s [] = refl
leaving_ends k s (e ∷ es) = step (e.0 == s) (leaving_at e k) e _ (filter (λ (d : ℕ × ℕ). d.0 == s) es) refl (leaving_ends (suc k) s es)
  where
    step : (b : Bool) (l : Leaving) (e : ℕ × ℕ) (ls : List Leaving) (ds : List (ℕ × ℕ)) → l.to ≡ e.1 → map (λ (l : Leaving). l.to) ls ≡ map (λ (d : ℕ × ℕ). d.1) ds →
        map (λ (l : Leaving). l.to) (cond b (l ∷ ls) ls) ≡ map (λ (d : ℕ × ℕ). d.1) (cond b (e ∷ ds) ds)
    step true l e ls ds h rest = ap (λ x. x ∷ map (λ (l : Leaving). l.to) ls) h ∙ ap (λ m. e.1 ∷ m) rest
    step false l e ls ds h rest = rest

-- the first of them to v has the number of the first edge from s to v
pub leaving_number : (k s v : ℕ) (es : List (ℕ × ℕ)) → first_number (k + length es) v (filter (λ l. l.from == s) (leaving_from k es)) ≡ k + position_or_len (same_edge (s, v)) es
leaving_number k s v [] = refl
leaving_number k s v (e ∷ es) =
    let shift : k + length (e ∷ es) ≡ suc k + length es = omega arith in
    let rest = leaving_number (suc k) s v es in
    let all = filter (λ (l : Leaving). l.from == s) (leaving_from k (e ∷ es)) in
    let own = filter (λ (l : Leaving). l.from == s) (leaving_from (suc k) es) in
    let n = suc k + length es in
    let at = position_or_len (same_edge (s, v)) es in
    let whole = k + position_or_len (same_edge (s, v)) (e ∷ es) in
    ap (λ m. first_number m v all) shift
    ∙ (elim (cases_eq e.0 s) as (λ _. first_number n v all ≡ whole) [
      | inr d ↦
          ap (λ b. first_number n v (cond b (leaving_at e k ∷ own) own)) (ne_eqb e.0 s d) ∙ rest ∙ later k at
          ∙ sym (ap (λ b. k + cond (not (b && (v == e.1))) (1 + at) 0) (ne_eqb s e.0 (λ q. d (sym q))))
      | inl same ↦
          ap (λ b. first_number n v (cond b (leaving_at e k ∷ own) own)) (eq-eqb e.0 s same)
          ∙ (elim (cases_eq e.1 v) as (λ _. cond (e.1 == v) k (first_number n v own) ≡ whole) [
            | inl there ↦
                let none : k ≡ k + 0 = omega arith in
                ap (λ b. cond b k (first_number n v own)) (eq-eqb e.1 v there) ∙ none
                ∙ sym (ap (λ b. k + cond (not (b && (v == e.1))) (1 + at) 0) (eq-eqb s e.0 (sym same))
                ∙ ap (λ b. k + cond (not b) (1 + at) 0) (eq-eqb v e.1 (sym there)))
            | inr other ↦
                ap (λ b. cond b k (first_number n v own)) (ne_eqb e.1 v other) ∙ rest ∙ later k at
                ∙ sym (ap (λ b. k + cond (not (b && (v == e.1))) (1 + at) 0) (eq-eqb s e.0 (sym same))
                ∙ ap (λ b. k + cond (not b) (1 + at) 0) (ne_eqb v e.1 (λ q. other (sym q))))
          ])
    ])
  where
    later : (k n : ℕ) → suc k + n ≡ k + (1 + n)
    later k n = omega arith

-- the follower of an edge, among the edges that leave its end
pub follower_is : (at : Plane) (es : List (ℕ × ℕ)) (order : List Leaving) (i : ℕ) (ls : List Leaving) (first : ℕ) → AreSorted es order →
    ls ≡ filter (λ l. l.from == (get_or es i (0, 0)).1) order → first ≡ get_or (map (λ l. l.to) ls) 0 0 →
    first_number (length es) (first_met at (get_or es i (0, 0)).1 (get_or es i (0, 0)).0 first (map (λ l. l.to) ls)) ls ≡ follower at es i
follower_is at es order i ls first sorted own begins =
    let e = get_or es i (0, 0) in
    let same : ls ≡ filter (λ l. l.from == e.1) (leaving_from 0 es) = own ∙ sorted.same e.1 in
    let ends : map (λ l. l.to) ls ≡ ends_from es e.1 = ap (map (λ (l : Leaving). l.to)) same ∙ leaving_ends 0 e.1 es in
    let place : first_met at e.1 e.0 first (map (λ l. l.to) ls) ≡ goes_to at es e =
    ap (λ n. first_met at e.1 e.0 n (map (λ (l : Leaving). l.to) ls)) begins ∙ ap (λ ns. first_met at e.1 e.0 (get_or ns 0 0) ns) ends in
    let count : length es ≡ 0 + length es = omega arith in
    let zero : 0 + position_or_len (same_edge (e.1, goes_to at es e)) es ≡ position_or_len (same_edge (e.1, goes_to at es e)) es = omega arith in
    ap (λ v. first_number (length es) v ls) place ∙ ap (λ n. first_number n (goes_to at es e) ls) count ∙ ap (first_number (0 + length es) (goes_to at es e)) same
    ∙ leaving_number 0 e.1 (goes_to at es e) es ∙ zero

-- one more end that is met
pub first_met-push : (at : Plane) (s p n : ℕ) (ms : List ℕ) (m : ℕ) →
    first_met at s p n (ms ++ m ∷ []) ≡ cond (is_met_before at s p m (first_met at s p n ms)) m (first_met at s p n ms)
first_met-push at s p n [] m = refl
first_met-push at s p n (k ∷ ms) m = first_met-push at s p (cond (is_met_before at s p k n) k n) ms m
