-- Lists turned, and what is set at their ends.
use Rattle.std.proofs.Common.{◌≡◌, ℕ, ◌+◌, ◌-◌, ◌<◌, List, [], ◌∷◌, ◌++◌, length, take, drop, set, get_or, map, refl, sym, ap, subst, ◌∙◌, arith}
use Rattle.std.proofs.lemmas.List.{map-append, length-append, length-drop, append_assoc, drop-map, take-map, take-append-drop}
use Rattle.std.proofs.Math.Seq.{drop-append_seam, take-append_seam, set-append_seam}
use denote.RawPtr.{Ptr, null_ptr}
use Rattle.loop_ring.specs.Turning.{turned_to}

-- what is seen of each turns with it
pub map-turned_to : {X Y : Type 0} (f : X → Y) (i : ℕ) (xs : List X) → map f (turned_to i xs) ≡ turned_to i (map f xs)
map-turned_to f i xs = map-append f (drop i xs) (take i xs) ∙ sym (λ j. drop-map f i xs j ++ take-map f i xs j)

-- turning keeps the length
pub length-turned_to : {X : Type 0} (i : ℕ) (xs : List X) → length (turned_to i xs) ≡ length xs
length-turned_to i xs =
    let there = length-append (drop i xs) (take i xs) in let here = length-append (take i xs) (drop i xs) in let whole = ap length (take-append-drop i xs) in
    omega arith

-- a list that was turned to its i-th place and on to its end stands as before
pub turned_round : {X : Type 0} (i : ℕ) (xs : List X) → turned_to (length (drop i xs)) (turned_to i xs) ≡ xs
turned_round i xs = (λ j. drop-append_seam (drop i xs) (take i xs) j ++ take-append_seam (drop i xs) (take i xs) j) ∙ take-append-drop i xs

-- a step and back, and back and a step
pub back_after_step : {X : Type 0} (n : ℕ) (xs : List X) → n ≡ length xs → turned_to (n - 1) (turned_to 1 xs) ≡ xs
back_after_step n xs count = let left = length-drop 1 xs in let k : length (drop 1 xs) ≡ n - 1 = omega arith in subst (λ m. turned_to m (turned_to 1 xs) ≡ xs) k (turned_round 1 xs)

pub step_after_back : {X : Type 0} (n : ℕ) (xs : List X) → n ≡ length xs → 0 < n → turned_to 1 (turned_to (n - 1) xs) ≡ xs
step_after_back n xs count some =
    let left = length-drop (n - 1) xs in let k : length (drop (n - 1) xs) ≡ 1 = omega arith in subst (λ m. turned_to m (turned_to (n - 1) xs) ≡ xs) k (turned_round (n - 1) xs)

-- the last of a list that was turned by one is set
set_last : {X : Type 0} (x y : X) (xs : List X) (n : ℕ) → n ≡ length xs → set (xs ++ x ∷ []) n y ≡ xs ++ y ∷ []
set_last x y xs n count = ap (λ m. set (xs ++ x ∷ []) m y) count ∙ set-append_seam xs x [] y

-- The links of a circle whose first node goes: the last node is linked to the second.
pub nexts_cut : (ps : List Ptr) (n : ℕ) → n ≡ length ps → 1 < n → drop 1 (set (turned_to 1 ps) (n - 1) (get_or ps 1 null_ptr)) ≡ turned_to 1 (drop 1 ps)
nexts_cut [] n count more = absurd (omega arith)
nexts_cut (a ∷ []) n count more = absurd (omega arith)
nexts_cut (a ∷ b ∷ ps) n count more = ap (drop 1) (set_last a b (b ∷ ps) (n - 1) (omega arith))

pub prevs_cut : (bs : List Ptr) → 1 < length bs → turned_to 1 (drop 1 (set bs 1 (get_or bs 0 null_ptr))) ≡ drop 1 (turned_to 1 bs)
prevs_cut [] more = absurd (omega arith)
prevs_cut (a ∷ []) more = absurd (omega arith)
prevs_cut (a ∷ b ∷ bs) more = refl

-- The links of two circles that become one: the last node of each is linked to the first of the other.
pub nexts_spliced : (ps cs : List Ptr) (n m : ℕ) → n ≡ length ps → m ≡ length cs → 0 < n → 0 < m
    → set (set (turned_to 1 ps ++ turned_to 1 cs) (n - 1) (get_or cs 0 null_ptr)) (n + m - 1) (get_or ps 0 null_ptr) ≡ turned_to 1 (ps ++ cs)
nexts_spliced [] cs n m here there some more = absurd (omega arith)
nexts_spliced (a ∷ ps) [] n m here there some more = absurd (omega arith)
nexts_spliced (a ∷ ps) (c ∷ cs) n m here there some more =
    let all = length-append ps (c ∷ cs) in
    let first : set ((ps ++ a ∷ []) ++ (cs ++ c ∷ [])) (n - 1) c ≡ (ps ++ c ∷ cs) ++ c ∷ [] =
    ap (λ ls. set ls (n - 1) c) (append_assoc ps (a ∷ []) (cs ++ c ∷ [])) ∙ ap (λ k. set (ps ++ a ∷ (cs ++ c ∷ [])) k c) (omega arith)
    ∙ set-append_seam ps a (cs ++ c ∷ []) c ∙ sym (append_assoc ps (c ∷ cs) (c ∷ [])) in
    ap (λ ls. set ls (n + m - 1) a) first ∙ set_last c a (ps ++ c ∷ cs) (n + m - 1) (omega arith)

pub prevs_spliced : (bs ds : List Ptr) (n : ℕ) → n ≡ length bs → 0 < n → 0 < length ds
    → turned_to 1 (set (set (bs ++ ds) n (get_or bs 0 null_ptr)) 0 (get_or ds 0 null_ptr)) ≡ turned_to 1 bs ++ turned_to 1 ds
prevs_spliced [] ds n count some more = absurd (omega arith)
prevs_spliced (b ∷ bs) [] n count some more = absurd (omega arith)
prevs_spliced (b ∷ bs) (d ∷ ds) n count some more =
    ap (λ k. turned_to 1 (set (set (b ∷ bs ++ d ∷ ds) k b) 0 d)) count ∙ ap (λ ls. ls ++ d ∷ []) (set-append_seam bs d ds b) ∙ append_assoc bs (b ∷ ds) (d ∷ [])
    ∙ sym (append_assoc bs (b ∷ []) (ds ++ d ∷ []))
