-- The copies of one vertex among the prescribed vertices.
use Rattle.std.proofs.Common.{◌≡◌, ◌≢◌, ◌≤◌, ◌<◌, ◌+◌, ℕ, zero, suc, Bool, true, false, cond, List, [], ◌∷◌, ◌++◌, filter, length, get_or, map, nat_abs}
use Rattle.std.proofs.Common.{replicate, pos, refl, ap, arith, inl, inr, ◌∙◌}
use Rattle.std.specs.List.{flat_map}
use Rattle.std.proofs.lemmas.Bool.{cases_lt, eq-eqb, ne_eqb}
use Rattle.std.proofs.lemmas.List.{append-nil}
use Rattle.std.proofs.lemmas.List.Elements.{filter-append}
use Rattle.std.proofs.lemmas.List.Concat.{flat_map-append, flat_map-cons}
use Rattle.chain_terms.specs.Sums.{up_from, upto}
use Rattle.mb_base.specs.declared.op.Op.{Op}
use Rattle.mb_base.specs.declared.results.Origin.TheVariants.{PVertex, QVertex, PEdge, QEdge}
use Rattle.side_terms.specs.Sides.{Side}
use Rattle.side_terms.specs.Lists.{Copy}
use Rattle.side_terms.specs.Points.{points_of}
use Rattle.side_terms.specs.Prescribed.{Prescription, Numbers, copies_of, copy_of, hit_number_of, p_hits, p_number, p_vertices, prescribed, q_hits, q_number, q_vertices}
use Rattle.geometric_laws.specs.Geometric.{is_of_p, is_of_q}

module _ (test : Copy → Bool) where
  -- the copies that pass a test
  kept : List Prescription → List Copy
  kept is = filter test (flat_map copies_of is)

  -- of two lists together
  kept-append : (xs ys : List Prescription) → kept (xs ++ ys) ≡ kept xs ++ kept ys
  unfolding kept
  kept-append xs ys = ap (filter test) (flat_map-append copies_of xs ys) ∙ filter-append test (flat_map copies_of xs) (flat_map copies_of ys)

  -- equal copies that don't pass it
  dropped : (n : ℕ) (c : Copy) → test c ≡ false → filter test (replicate n c) ≡ []
  dropped zero c fails = refl
  dropped (suc n) c fails = ap (λ b. cond b (c ∷ filter test (replicate n c)) (filter test (replicate n c))) fails ∙ dropped n c fails

  -- and such that do
  stay : (n : ℕ) (c : Copy) → test c ≡ true → filter test (replicate n c) ≡ replicate n c
  stay zero c passes = refl
  stay (suc n) c passes = ap (λ b. cond b (c ∷ filter test (replicate n c)) (filter test (replicate n c))) passes ∙ ap (λ cs. c ∷ cs) (stay n c passes)

  -- the first of a list, and the rest
  kept-cons : (i : Prescription) (is : List Prescription) → kept (i ∷ is) ≡ filter test (copies_of i) ++ kept is
  unfolding kept
  kept-cons i is = ap (filter test) (flat_map-cons copies_of i is) ∙ filter-append test (copies_of i) (flat_map copies_of is)

  -- none, where none passes
  none : {X : Type 0} (f : X → Prescription) → ((x : X) → test (copy_of (f x)) ≡ false) → (xs : List X) → kept (map f xs) ≡ []
  unfolding kept
  none f fails [] = refl
  none f fails (x ∷ xs) = kept-cons (f x) (map f xs) ∙ ap (λ cs. cs ++ kept (map f xs)) (dropped (nat_abs (f x).number) (copy_of (f x)) (fails x)) ∙ none f fails xs

  module _ (f : ℕ → Prescription) (v : ℕ) (other : (w : ℕ) → w ≢ v → test (copy_of (f w)) ≡ false) (own : test (copy_of (f v)) ≡ true) where
    -- numbers past v have none
    past : (k n : ℕ) → v < k → kept (map f (up_from k n)) ≡ []
    unfolding kept
    past k zero l = refl
    past k (suc n) l =
        kept-cons (f k) (map f (up_from (suc k) n))
        ∙ ap (λ cs. cs ++ kept (map f (up_from (suc k) n))) (dropped (nat_abs (f k).number) (copy_of (f k)) (other k (λ e. omega (arith, l, e))))
        ∙ past (suc k) n (omega (arith, l))

    -- of numbers with v among them those of v pass
    the_one : (k n : ℕ) → k ≤ v → v < k + n → kept (map f (up_from k n)) ≡ copies_of (f v)
    the_one k zero low high = absurd (omega (arith, low, high))
    the_one k (suc n) low high = elim (cases_lt k v) as (λ _. kept (map f (up_from k (suc n))) ≡ copies_of (f v)) [
      | inl l ↦ kept-cons (f k) (map f (up_from (suc k) n))
          ∙ ap (λ cs. cs ++ kept (map f (up_from (suc k) n))) (dropped (nat_abs (f k).number) (copy_of (f k)) (other k (λ e. omega (arith, l, e))))
          ∙ the_one (suc k) n (omega (arith, l)) (omega (arith, high))
      | inr l ↦
          let e : k ≡ v = omega (arith, low, l) in
          kept-cons (f k) (map f (up_from (suc k) n))
          ∙ ap (λ cs. filter test (copies_of (f k)) ++ cs) (past (suc k) n (omega (arith, e)))
          ∙ ap (λ w. filter test (copies_of (f w)) ++ []) e
          ∙ ap (λ cs. cs ++ []) (stay (nat_abs (f v).number) (copy_of (f v)) own)
          ∙ append-nil (copies_of (f v))
    ]

  -- of four lists one after the other
  four : (xs ys zs ws : List Prescription) → kept (xs ++ (ys ++ (zs ++ ws))) ≡ kept xs ++ (kept ys ++ (kept zs ++ kept ws))
  four xs ys zs ws =
      kept-append xs (ys ++ (zs ++ ws)) ∙ ap (λ l. kept xs ++ l) (kept-append ys (zs ++ ws) ∙ ap (λ l. kept ys ++ l) (kept-append zs ws))

-- the first of four lists where the others are empty
first_of : (a b c d x : List Copy) → a ≡ x → b ≡ [] → c ≡ [] → d ≡ [] → a ++ (b ++ (c ++ d)) ≡ x
first_of a b c d x e f g h = ap (λ l. l ++ (b ++ (c ++ d))) e ∙ ap (λ l. x ++ (l ++ (c ++ d))) f ∙ ap (λ l. x ++ (l ++ d)) g ∙ ap (λ l. x ++ l) h ∙ append-nil x

-- and the second
second_of : (a b c d x : List Copy) → a ≡ [] → b ≡ x → c ≡ [] → d ≡ [] → a ++ (b ++ (c ++ d)) ≡ x
second_of a b c d x e f g h = ap (λ l. l ++ (b ++ (c ++ d))) e ∙ ap (λ l. l ++ (c ++ d)) f ∙ ap (λ l. x ++ (l ++ d)) g ∙ ap (λ l. x ++ l) h ∙ append-nil x

-- the copies of a vertex of P
pub copies_of_p : (op : Op) (p q : Side) (n : Numbers) (v : ℕ) → v < length p.corners → filter (λ c. is_of_p v c.origin) (prescribed op p q n)
    ≡ copies_of (record { origin = PVertex v; number = p_number op (get_or n.w03 v (pos 0)); point = get_or (points_of p.corners) v [] })
unfolding kept
copies_of_p op p q n v below =
    let test : Copy → Bool = λ c. is_of_p v c.origin in
    let f : ℕ → Prescription = λ w. record { origin = PVertex w; number = p_number op (get_or n.w03 w (pos 0)); point = get_or (points_of p.corners) w [] } in
    let g : ℕ → Prescription = λ w. record { origin = QVertex w; number = q_number op (get_or n.w30 w (pos 0)); point = get_or (points_of q.corners) w [] } in
    let a = the_one test f v (λ w differ. ne_eqb w v differ) (eq-eqb v v (refl {a = v})) 0 (length p.corners) (omega arith) (omega (arith, below)) in
    let b = none test g (λ w. refl {a = false}) (upto (length q.corners)) in
    let c = none test (λ h. record { origin = PEdge h.edge h.face; number = hit_number_of op h.number; point = h.at }) (λ h. refl {a = false}) n.x12 in
    let d = none test (λ h. record { origin = QEdge h.edge h.face; number = hit_number_of op h.number; point = h.at }) (λ h. refl {a = false}) n.x21 in
    four test (p_vertices op p n) (q_vertices op q n) (p_hits op n) (q_hits op n) ∙ first_of _ _ _ _ (copies_of (f v)) a b c d

-- the copies of a vertex of Q
pub copies_of_q : (op : Op) (p q : Side) (n : Numbers) (v : ℕ) → v < length q.corners → filter (λ c. is_of_q v c.origin) (prescribed op p q n)
    ≡ copies_of (record { origin = QVertex v; number = q_number op (get_or n.w30 v (pos 0)); point = get_or (points_of q.corners) v [] })
unfolding kept
copies_of_q op p q n v below =
    let test : Copy → Bool = λ c. is_of_q v c.origin in
    let f : ℕ → Prescription = λ w. record { origin = PVertex w; number = p_number op (get_or n.w03 w (pos 0)); point = get_or (points_of p.corners) w [] } in
    let g : ℕ → Prescription = λ w. record { origin = QVertex w; number = q_number op (get_or n.w30 w (pos 0)); point = get_or (points_of q.corners) w [] } in
    let a = none test f (λ w. refl {a = false}) (upto (length p.corners)) in
    let b = the_one test g v (λ w differ. ne_eqb w v differ) (eq-eqb v v (refl {a = v})) 0 (length q.corners) (omega arith) (omega (arith, below)) in
    let c = none test (λ h. record { origin = PEdge h.edge h.face; number = hit_number_of op h.number; point = h.at }) (λ h. refl {a = false}) n.x12 in
    let d = none test (λ h. record { origin = QEdge h.edge h.face; number = hit_number_of op h.number; point = h.at }) (λ h. refl {a = false}) n.x21 in
    four test (p_vertices op p n) (q_vertices op q n) (p_hits op n) (q_hits op n) ∙ second_of _ _ _ _ (copies_of (g v)) a b c d
