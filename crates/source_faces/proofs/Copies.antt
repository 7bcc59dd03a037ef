-- Edges that join the copies of three vertices, the i-th of each together, form one loop for each i.
use Rattle.std.proofs.Common.{◌≡◌, ◌≢◌, ◌+◌, ◌<◌, ℕ, zero, suc, List, [], ◌∷◌, ◌++◌, ◌==◌, Some, None, false, refl, sym, ap, ◌∙◌, arith}
use Rattle.std.specs.List.{zip}
use Rattle.std.proofs.lemmas.Bool.{eq-eqb, ne_eqb}
use Rattle.chain_terms.specs.Cycles.{end_from, without_from, put_first, cycles}
use Rattle.chain_terms.specs.Sums.{up_from}
use Rattle.face_loops.specs.Trails.{followed}
use Rattle.face_loops.proofs.Following.{cycles-cons, followed-end, followed-on}
use Rattle.triangulate.proofs.Rings.{loops_of}

-- the edges from n vertices from a on to as many from b on, each to its own
abbrev pub block : ℕ → ℕ → ℕ → List (ℕ × ℕ)
block a b n = zip (up_from a n) (up_from b n)

-- those of three blocks of vertices, once round
abbrev pub three_blocks : ℕ → ℕ → ℕ → ℕ → List (ℕ × ℕ)
three_blocks a b c n = block a b n ++ (block b c n ++ (block c a n ++ []))

-- vertex v is none of the n from a on
abbrev pub IsOutside : ℕ → ℕ → ℕ → Type 0
IsOutside a n v = (i : ℕ) → i < n → a + i ≢ v

-- two blocks of n vertices have none in common
abbrev pub AreApart : ℕ → ℕ → ℕ → Type 0
AreApart a b n = (i j : ℕ) → i < n → j < n → a + i ≢ b + j

-- the blocks are apart the other way round
pub apart-sym : (a b n : ℕ) → AreApart a b n → AreApart b a n
apart-sym a b n h i j l m e = h j i m l (sym e)

-- so are all vertices but the first of each
apart-rest : (a b n : ℕ) → AreApart a b (suc n) → AreApart (suc a) (suc b) n
apart-rest a b n h i j l m e = h (suc i) (suc j) (omega (arith, l)) (omega (arith, m)) (omega (arith, e))

-- the first of one block is none of the rest of the other
first-outside : (a b n : ℕ) → AreApart a b (suc n) → IsOutside (suc a) n b
first-outside a b n h i l e = h (suc i) 0 (omega (arith, l)) (omega arith) (omega (arith, e))

-- nor of its own
own-outside : (a n : ℕ) → IsOutside (suc a) n a
own-outside a n i l e = omega (arith, e)

-- nor does the rest of a block have what is outside of it
outside-rest : (a n v : ℕ) → IsOutside a (suc n) v → IsOutside (suc a) n v
outside-rest a n v h i l e = h (suc i) (omega (arith, l)) (omega (arith, e))

-- the first of a block is not v
outside-first : (a n v : ℕ) → IsOutside a (suc n) v → (a == v) ≡ false
outside-first a n v h = ne_eqb a v (λ e. h 0 (omega arith) (omega (arith, e)))

-- no edge of a block goes on from a vertex outside of its starts
pub end_from-block : (a b n v : ℕ) (es : List (ℕ × ℕ)) → IsOutside a n v → end_from v (block a b n ++ es) ≡ end_from v es
end_from-block a b zero v es h = refl
end_from-block a b (suc n) v es h = rw (outside-first a n v h) (end_from-block (suc a) (suc b) n v es (outside-rest a n v h))

-- and none is taken out
pub without_from-block : (a b n v : ℕ) (es : List (ℕ × ℕ)) → IsOutside a n v → without_from v (block a b n ++ es) ≡ block a b n ++ without_from v es
without_from-block a b zero v es h = refl
without_from-block a b (suc n) v es h =
    rw (outside-first a n v h) (ap (λ l. (a, b) ∷ l) (without_from-block (suc a) (suc b) n v es (outside-rest a n v h)))

-- an edge in front goes on from its start
end_from-head : (v w : ℕ) (es : List (ℕ × ℕ)) → end_from v ((v, w) ∷ es) ≡ Some w
end_from-head v w es = rw (eq-eqb v v refl) refl

-- and is taken out
without_from-head : (v w : ℕ) (es : List (ℕ × ℕ)) → without_from v ((v, w) ∷ es) ≡ es
without_from-head v w es = rw (eq-eqb v v refl) refl

-- from the end of the first edge of all, two edges lead back to its start; the rest of the blocks is left
first_followed : (a b c n : ℕ) → AreApart a b (suc n) → AreApart b c (suc n) → AreApart c a (suc n) →
    followed b (block (suc a) (suc b) n ++ (block b c (suc n) ++ (block c a (suc n) ++ []))) ≡ (b ∷ c ∷ [], three_blocks (suc a) (suc b) (suc c) n)
first_followed a b c n ab bc ca =
    let one = block (suc a) (suc b) n in
    let two = block (suc b) (suc c) n in
    let three = block (suc c) (suc a) n ++ [] in
    let after = one ++ (two ++ (c, a) ∷ three) in
    let b_out = first-outside a b n ab in
    let c_out = first-outside a c n (apart-sym c a (suc n) ca) in
    let c_off = first-outside b c n bc in
    let a_off = first-outside b a n (apart-sym a b (suc n) ab) in
    let a_out = first-outside c a n ca in
    let goes : end_from b (one ++ (b, c) ∷ (two ++ (c, a) ∷ three)) ≡ Some c =
    end_from-block (suc a) (suc b) n b ((b, c) ∷ (two ++ (c, a) ∷ three)) b_out ∙ end_from-head b c (two ++ (c, a) ∷ three) in
    let left : without_from b (one ++ (b, c) ∷ (two ++ (c, a) ∷ three)) ≡ after =
    without_from-block (suc a) (suc b) n b ((b, c) ∷ (two ++ (c, a) ∷ three)) b_out
    ∙ ap (λ l. one ++ l) (without_from-head b c (two ++ (c, a) ∷ three)) in
    let goes_back : end_from c after ≡ Some a =
    end_from-block (suc a) (suc b) n c (two ++ (c, a) ∷ three) c_out ∙ end_from-block (suc b) (suc c) n c ((c, a) ∷ three) c_off
    ∙ end_from-head c a three in
    let left_last : without_from c after ≡ one ++ (two ++ three) =
    without_from-block (suc a) (suc b) n c (two ++ (c, a) ∷ three) c_out
    ∙ ap (λ l. one ++ l) (without_from-block (suc b) (suc c) n c ((c, a) ∷ three) c_off ∙ ap (λ l. two ++ l) (without_from-head c a three)) in
    let ends : end_from a (one ++ (two ++ three)) ≡ None =
    end_from-block (suc a) (suc b) n a (two ++ three) (own-outside a n) ∙ end_from-block (suc b) (suc c) n a three a_off
    ∙ end_from-block (suc c) (suc a) n a [] a_out in
    followed-on b c (one ++ (b, c) ∷ (two ++ (c, a) ∷ three)) goes ∙ ap (λ l. put_first b (followed c l)) left
    ∙ ap (put_first b) (followed-on c a after goes_back)
    ∙ ap (λ l. put_first b (put_first c (followed a l))) left_last
    ∙ ap (λ r. put_first b (put_first c r)) (followed-end a (one ++ (two ++ three)) ends)

-- three blocks that are apart form the loops of their first vertices, of their second ones, and so on
pub cycles-blocks : (a b c n : ℕ) → AreApart a b n → AreApart b c n → AreApart c a n → cycles (three_blocks a b c n) ≡ loops_of a b c n
cycles-blocks a b c zero ab bc ca = refl
cycles-blocks a b c (suc n) ab bc ca =
    let rest = block (suc a) (suc b) n ++ (block b c (suc n) ++ (block c a (suc n) ++ [])) in
    cycles-cons (a, b) rest ∙ ap (λ (r : List ℕ × List (ℕ × ℕ)). (a ∷ r.0) ∷ cycles r.1) (first_followed a b c n ab bc ca)
    ∙ ap (λ l. (a ∷ b ∷ c ∷ []) ∷ l) (cycles-blocks (suc a) (suc b) (suc c) n (apart-rest a b n ab) (apart-rest b c n bc) (apart-rest c a n ca))

-- the blocks of which the last two are exchanged
abbrev pub exchanged_blocks : ℕ → ℕ → ℕ → ℕ → List (ℕ × ℕ)
exchanged_blocks a b c n = block a b n ++ (block c a n ++ (block b c n ++ []))

-- their edges lead back the same way
first_followed_exchanged : (a b c n : ℕ) → AreApart a b (suc n) → AreApart b c (suc n) → AreApart c a (suc n) →
    followed b (block (suc a) (suc b) n ++ (block c a (suc n) ++ (block b c (suc n) ++ []))) ≡
    (b ∷ c ∷ [], exchanged_blocks (suc a) (suc b) (suc c) n)
first_followed_exchanged a b c n ab bc ca =
    let one = block (suc a) (suc b) n in
    let two = block (suc c) (suc a) n in
    let three = block (suc b) (suc c) n ++ [] in
    let all = one ++ (block c a (suc n) ++ (b, c) ∷ three) in
    let after = one ++ (block c a (suc n) ++ three) in
    let b_out = first-outside a b n ab in
    let b_off : IsOutside c (suc n) b = λ i l e. bc 0 i (omega arith) l (omega (arith, e)) in
    let c_out = first-outside a c n (apart-sym c a (suc n) ca) in
    let a_off = first-outside c a n ca in
    let a_out = first-outside b a n (apart-sym a b (suc n) ab) in
    let goes : end_from b all ≡ Some c =
    end_from-block (suc a) (suc b) n b (block c a (suc n) ++ (b, c) ∷ three) b_out ∙ end_from-block c a (suc n) b ((b, c) ∷ three) b_off
    ∙ end_from-head b c three in
    let left : without_from b all ≡ after =
    without_from-block (suc a) (suc b) n b (block c a (suc n) ++ (b, c) ∷ three) b_out
    ∙ ap (λ l. one ++ l) (without_from-block c a (suc n) b ((b, c) ∷ three) b_off ∙ ap (λ l. block c a (suc n) ++ l) (without_from-head b c three)) in
    let goes_back : end_from c after ≡ Some a =
    end_from-block (suc a) (suc b) n c ((c, a) ∷ (two ++ three)) c_out ∙ end_from-head c a (two ++ three) in
    let left_last : without_from c after ≡ one ++ (two ++ three) =
    without_from-block (suc a) (suc b) n c ((c, a) ∷ (two ++ three)) c_out ∙ ap (λ l. one ++ l) (without_from-head c a (two ++ three)) in
    let ends : end_from a (one ++ (two ++ three)) ≡ None =
    end_from-block (suc a) (suc b) n a (two ++ three) (own-outside a n) ∙ end_from-block (suc c) (suc a) n a three a_off
    ∙ end_from-block (suc b) (suc c) n a [] a_out in
    followed-on b c all goes ∙ ap (λ l. put_first b (followed c l)) left ∙ ap (put_first b) (followed-on c a after goes_back)
    ∙ ap (λ l. put_first b (put_first c (followed a l))) left_last
    ∙ ap (λ r. put_first b (put_first c r)) (followed-end a (one ++ (two ++ three)) ends)

-- and form the same loops
pub cycles-exchanged_blocks : (a b c n : ℕ) → AreApart a b n → AreApart b c n → AreApart c a n → cycles (exchanged_blocks a b c n) ≡ loops_of a b c n
cycles-exchanged_blocks a b c zero ab bc ca = refl
cycles-exchanged_blocks a b c (suc n) ab bc ca =
    let rest = block (suc a) (suc b) n ++ (block c a (suc n) ++ (block b c (suc n) ++ [])) in
    cycles-cons (a, b) rest ∙ ap (λ (r : List ℕ × List (ℕ × ℕ)). (a ∷ r.0) ∷ cycles r.1) (first_followed_exchanged a b c n ab bc ca)
    ∙ ap (λ l. (a ∷ b ∷ c ∷ []) ∷ l)
    (cycles-exchanged_blocks (suc a) (suc b) (suc c) n (apart-rest a b n ab) (apart-rest b c n bc) (apart-rest c a n ca))
