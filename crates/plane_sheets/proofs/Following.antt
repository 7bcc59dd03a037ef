-- How the followers of edges are found: the first edge that is met, place by place, and the walks that come of it.
use Rattle.std.proofs.Common.{◌≡◌, ℕ, ◌+◌, ◌<◌, ◌==◌, ◌&&◌, ◌||◌, ℤ, pos, int_lt, nat_lt, List, [], ◌∷◌, ◌++◌, Bool, cond, filter, get_or, length, map, take, sym, ap, subst, ◌∙◌, arith}
use Rattle.std.specs.List.{All}
use Rattle.std.proofs.lemmas.List.{get_or-map, length-map, map-append, map_more}
use Rattle.chain_terms.specs.Cycles.{cycles}
use Rattle.chain_terms.specs.Ranks.{start}
use Rattle.chain_terms.specs.Sums.{upto}
use Rattle.chain_laws.proofs.Places.{length-up_from, upto_more}
use Rattle.face_plane.specs.Planes.{Plane, turn}
use Rattle.plane_chains.specs.EdgeBoxes.{pair_of}
use Rattle.sheet_terms.specs.Walks.{first_met, follower, is_met_before, walks}
use Rattle.plane_sheets.specs.declared.leaving.Leaving.{Leaving}
use Rattle.plane_sheets.specs.Leaving.{AreSorted, first_number, quarter_of}
use Rattle.plane_sheets.specs.Rounds.{steps_of}
use Rattle.plane_sheets.proofs.LeavingLists.{first_met-push, follower_is}
use Rattle.plane_sheets.proofs.Stepping.{steps_listed}

-- what is read where no edge leaves
abbrev pub no_leaving : Leaving
no_leaving = record { from = 0; to = 0; number = 0 }

-- the test of four points
abbrev met_at : ℤ × ℤ → ℤ × ℤ → ℤ × ℤ → ℤ × ℤ → Bool
met_at s p m n = nat_lt (quarter_of s p m) (quarter_of s p n) || ((quarter_of s p m == quarter_of s p n) && int_lt (turn s m n) (pos 0))

-- is that of their places
pub met_same : (at : Plane) (s p m n : ℕ) (s' p' m' n' : ℤ × ℤ) (b : Bool) → b ≡ met_at s' p' m' n' → s' ≡ at s → p' ≡ at p → m' ≡ at m → n' ≡ at n →
    b ≡ is_met_before at s p m n
met_same at s p m n s' p' m' n' b e f g h k =
    e ∙ ap (λ x. met_at x p' m' n') f ∙ ap (λ x. met_at (at s) x m' n') g ∙ ap (λ x. met_at (at s) (at p) x n') h ∙ ap (met_at (at s) (at p) (at m)) k

-- one edge more: the one that is met first so far
pub met_more : (at : Plane) (s p n : ℕ) (ls : List Leaving) (i first : ℕ) (b : Bool) → i < length ls → first ≡ first_met at s p n (map (λ l. l.to) (take i ls)) →
    b ≡ is_met_before at s p (get_or ls i no_leaving).to first → cond b (get_or ls i no_leaving).to first ≡ first_met at s p n (map (λ l. l.to) (take (i + 1) ls))
met_more at s p n ls i first b within so test =
    let m = (get_or ls i no_leaving).to in
    let ms = map (λ (l : Leaving). l.to) (take i ls) in
    ap (λ t. cond t m first) test ∙ ap (λ v. cond (is_met_before at s p m v) m v) so
    ∙ sym (ap (first_met at s p n) (map_more (λ (l : Leaving). l.to) ls i no_leaving within) ∙ first_met-push at s p n ms m)

-- the follower of an edge that is given by the list of its ends
pub follower_at : (at : Plane) (edges : List (List ℕ)) (order ls : List Leaving) (i first place number : ℕ) → i < length edges → AreSorted (map pair_of edges) order →
    ls ≡ filter (λ l. l.from == (pair_of (get_or edges i [])).1) order → first ≡ get_or (map (λ l. l.to) ls) 0 0 →
    place ≡ first_met at (pair_of (get_or edges i [])).1 (pair_of (get_or edges i [])).0 first (map (λ l. l.to) ls) →
    number ≡ first_number (length edges) place ls → number ≡ follower at (map pair_of edges) i
follower_at at edges order ls i first place number inside sorted own begins met found =
    let es = map pair_of edges in
    let e = pair_of (get_or edges i []) in
    let here : get_or es i (0, 0) ≡ e = get_or-map pair_of edges i [] (0, 0) inside in
    let many : length edges ≡ length es = sym (length-map edges pair_of) in
    found ∙ ap (λ v. first_number (length edges) v ls) met
    ∙ ap (λ n. first_number n (first_met at e.1 e.0 first (map (λ (l : Leaving). l.to) ls)) ls) many
    ∙ ap (λ (d : ℕ × ℕ). first_number (length es) (first_met at d.1 d.0 first (map (λ (l : Leaving). l.to) ls)) ls) (sym here)
    ∙ follower_is at es order i ls first sorted (own ∙ ap (λ (d : ℕ × ℕ). filter (λ (l : Leaving). l.from == d.1) order) (sym here)) begins

-- one value more
pub listed_more : (f : ℕ → ℕ) (xs new : List ℕ) (i x : ℕ) → xs ≡ map f (upto i) → x ≡ f i → new ≡ xs ++ x ∷ [] → new ≡ map f (upto (i + 1))
listed_more f xs new i x so e more =
    more ∙ ap (λ l. l ++ x ∷ []) so ∙ ap (λ y. map f (upto i) ++ y ∷ []) e ∙ sym (ap (map f) (upto_more i) ∙ map-append f (upto i) (i ∷ []))

-- one start more
pub starts_more : (edges : List (List ℕ)) (numbers starts new : List ℕ) (i : ℕ) → i < length numbers → get_or numbers i 0 < length edges →
    starts ≡ map (start (map pair_of edges)) (take i numbers) → new ≡ starts ++ (pair_of (get_or edges (get_or numbers i 0) [])).0 ∷ [] →
    new ≡ map (start (map pair_of edges)) (take (i + 1) numbers)
starts_more edges numbers starts new i within inside so more =
    let es = map pair_of edges in
    let k = get_or numbers i 0 in
    let here : start es k ≡ (pair_of (get_or edges k [])).0 = ap (λ (e : ℕ × ℕ). e.0) (get_or-map pair_of edges k [] (0, 0) inside) in
    more ∙ ap (λ l. l ++ (pair_of (get_or edges k [])).0 ∷ []) so ∙ ap (λ v. map (start es) (take i numbers) ++ v ∷ []) (sym here)
    ∙ sym (map_more (start es) numbers i 0 within)

-- the rounds of the followers, by the places where their edges start, are the walks
pub walks_are : (at : Plane) (edges : List (List ℕ)) (next : List ℕ) (rounds : List (List ℕ)) →
    next ≡ map (follower at (map pair_of edges)) (upto (length edges)) → rounds ≡ cycles (steps_of next) →
    map (map (start (map pair_of edges))) rounds ≡ walks at (map pair_of edges)
walks_are at edges next rounds follow round =
    let es = map pair_of edges in
    let many : length edges ≡ length es = sym (length-map edges pair_of) in
    let all : next ≡ map (follower at es) (upto (length es)) = follow ∙ ap (λ n. map (follower at es) (upto n)) many in
    ap (map (map (start es))) (round ∙ ap (λ l. cycles (steps_of l)) all ∙ ap cycles (steps_listed (follower at es) (length es)))

-- as many followers as edges
pub length-listed : (f : ℕ → ℕ) (n : ℕ) (xs : List ℕ) → xs ≡ map f (upto n) → length xs ≡ n
length-listed f n xs e = ap length e ∙ length-map (upto n) f ∙ length-up_from 0 n

-- the numbers of a round are those of edges
pub round_below : (n m i : ℕ) (rounds items : List (List ℕ)) (r d : List ℕ) → All (λ r. All (λ k. k < m) r) rounds → items ≡ rounds → m ≡ n → i < length items →
    r ≡ get_or items i d → All (λ k. k < n) r
round_below n m i rounds items r d all e many within here =
    let inside : i < length rounds = omega (arith, within, ap length e) in
    subst (λ b. All (λ k. k < b) r) many (subst (All (λ k. k < m)) (sym (here ∙ ap (λ l. get_or l i d) e)) (all i d inside))
