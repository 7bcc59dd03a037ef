-- A place and its neighbours do not block their own triangle, so at the first place it is enough to ask the others.
use Rattle.std.specs.Prelude.{◌≡◌, ℕ, ◌+◌, ◌-◌, ◌<◌, ◌≤◌, List, [], ◌∷◌, true, false, Bool, not, ◌&&◌, ◌||◌, ◌==◌}
use Rattle.std.specs.Prelude.{length, get_or, take, drop}
use Rattle.std.specs.List.{list_any}
use Rattle.std.proofs.Common.{arith, refl, sym, ap, ◌∙◌}
use Rattle.std.proofs.lemmas.Bool.{eq-eqb, and_left, and_right}
use Rattle.std.proofs.lemmas.List.{get_or-map, get_or-drop, length-drop, take_more, take_all, at_drop_more}
use Rattle.std.proofs.lemmas.List.Folds.{list_any-append}
use Rattle.face_plane.specs.Rings.{vertex_at, vertex_before, vertex_after}
use Rattle.ring_cutting.specs.declared.place.Place.{Place}
use Rattle.ring_cutting.specs.Cuts.{covers}
use Rattle.ring_cutting.specs.Placed.{vertices_of, place_blocks}
use Rattle.ring_cutting.proofs.Reading.{before_first, here_read, after_other}

-- three places of a ring: one and its neighbours, by their vertices
pub record Stands (ps : List Place) (i : ℕ) (p x n : Place) : Type 0 where
  pub long : 3 ≤ length ps
  pub within : i < length ps
  pub before : p.vertex ≡ vertex_before (vertices_of ps) i
  pub here : x.vertex ≡ vertex_at (vertices_of ps) i
  pub after : n.vertex ≡ vertex_after (vertices_of ps) i

-- whether some place blocks their triangle
abbrev pub any_of : Place → Place → Place → List Place → Bool
any_of p x n qs = list_any (place_blocks p x n) qs

-- a place with the vertex of one of the three does not
by_first : (p x n w : Place) → w.vertex ≡ p.vertex → place_blocks p x n w ≡ false
by_first p x n w e =
    ap (λ (t : Bool). not t && not (w.vertex == x.vertex) && not (w.vertex == n.vertex) && covers p.at x.at n.at w.at) (eq-eqb w.vertex p.vertex e)

by_second : (p x n w : Place) → w.vertex ≡ x.vertex → place_blocks p x n w ≡ false
by_second p x n w e =
    let q = not (w.vertex == p.vertex) in
    ap (λ (t : Bool). q && not t && not (w.vertex == n.vertex) && covers p.at x.at n.at w.at) (eq-eqb w.vertex x.vertex e)
    ∙ and_left ((q && false) && not (w.vertex == n.vertex)) (covers p.at x.at n.at w.at)
    (and_left (q && false) (not (w.vertex == n.vertex)) (and_right q false refl))

by_third : (p x n w : Place) → w.vertex ≡ n.vertex → place_blocks p x n w ≡ false
by_third p x n w e =
    let q = not (w.vertex == p.vertex) && not (w.vertex == x.vertex) in
    ap (λ (t : Bool). q && not t && covers p.at x.at n.at w.at) (eq-eqb w.vertex n.vertex e)
    ∙ and_left (q && false) (covers p.at x.at n.at w.at) (and_right q false refl)

-- a place that does not pass is left out at the end of a part of a list
last_out : {X : Type 0} (f : X → Bool) (xs : List X) (k : ℕ) (d : X) → k < length xs → f (get_or xs k d) ≡ false →
    list_any f (take (k + 1) xs) ≡ list_any f (take k xs)
last_out f xs k d h fails =
    ap (list_any f) (take_more xs k d h) ∙ list_any-append f (take k xs) (get_or xs k d ∷ [])
    ∙ ap (λ (b : Bool). list_any f (take k xs) || (b || false)) fails ∙ alone (list_any f (take k xs))
  where
    alone : (b : Bool) → (b || (false || false)) ≡ b
    alone true = refl
    alone false = refl

-- or at its beginning
first_out : {X : Type 0} (f : X → Bool) (xs : List X) (k : ℕ) (d : X) → k < length xs → f (get_or xs k d) ≡ false →
    list_any f (drop k xs) ≡ list_any f (drop (k + 1) xs)
first_out f xs k d h fails = at_drop_more (list_any f) xs k d h ∙ ap (λ (b : Bool). b || list_any f (drop (k + 1) xs)) fails

-- the vertex of the k-th place
vertex_read : (ps : List Place) (k : ℕ) (d : Place) → k < length ps → (get_or ps k d).vertex ≡ get_or (vertices_of ps) k 0
vertex_read ps k d h = sym (get_or-map (λ (q : Place). q.vertex) ps k d 0 h)

-- the place itself, at its index
here_out : (ps : List Place) (i : ℕ) (p x n : Place) → Stands ps i p x n → place_blocks p x n (get_or ps i x) ≡ false
here_out ps i p x n s = by_second p x n (get_or ps i x) (vertex_read ps i x s.within ∙ here_read ps i s.within ∙ sym s.here)

-- the one after it
after_out : (ps : List Place) (i : ℕ) (p x n : Place) → Stands ps i p x n → i + 1 < length ps → place_blocks p x n (get_or ps (i + 1) x) ≡ false
after_out ps i p x n s more = by_third p x n (get_or ps (i + 1) x) (vertex_read ps (i + 1) x more ∙ after_other ps i more ∙ sym s.after)

-- at the first place
pub at_first : (ps : List Place) (p x n : Place) (last : ℕ) → Stands ps 0 p x n → last ≡ length ps - 1 →
    any_of p x n (take (last - 2) (drop 2 ps)) ≡ any_of p x n ps
at_first ps p x n last s is =
    let f = place_blocks p x n in let long = s.long in let rest = drop 2 ps in let count = length-drop 2 ps in let k = last - 2 in
    let end : get_or rest k x ≡ get_or ps (length ps - 1) x =
    let e : 2 + k ≡ length ps - 1 = omega arith in get_or-drop 2 ps k x ∙ ap (λ j. get_or ps j x) e in
    let fails : f (get_or rest k x) ≡ false =
    by_first p x n (get_or rest k x)
    (ap (λ (q : Place). q.vertex) end ∙ vertex_read ps (length ps - 1) x (omega arith) ∙ before_first ps (omega arith) ∙ sym s.before) in
    sym (last_out f rest k x (omega arith) fails) ∙ ap (list_any f) (take_all (k + 1) rest (omega arith))
    ∙ sym (first_out f ps 0 x s.within (here_out ps 0 p x n s) ∙ first_out f ps 1 x (omega arith) (after_out ps 0 p x n s (omega arith)))
