use Rattle.std.proofs.Common.{◌≡◌, ℕ, ◌+◌, ◌<◌, ◌≤◌, List, [], ◌∷◌, ◌++◌, length, drop, get_or, refl, rules, arith, sym, ap, ◌∙◌, append-nil, append_assoc, add-one, drop-cons}
use Rattle.std.proofs.Common.{length-drop}
use Rattle.mesh_terms.specs.Meshes.{Triple, triples_of}
use Rattle.format_terms.specs.ObjFaces.{fan_from, face_fan}
use Rattle.obj_text.proofs.FaceSteps.{triples_of-push}
use Rattle.obj_text.proofs.reading.push_fan.Goals as goal

-- one vertex gives no triangle
fan_from-one : (a : ℕ) (vs : List ℕ) → length vs ≤ 1 → fan_from a vs ≡ []
fan_from-one a [] few = refl
fan_from-one a (b ∷ []) few = refl
fan_from-one a (b ∷ c ∷ vs) few = absurd (omega arith)

-- so when one is left all are there
all_there : (ts : List Triple) (a : ℕ) (vs : List ℕ) → length vs ≤ 1 → ts ≡ ts ++ fan_from a vs
all_there ts a vs few = sym (ap (λ (us : List Triple). ts ++ us) (fan_from-one a vs few) ∙ append-nil ts)

-- all vertices but the first are left at the start
fan_from-start : (ts : List Triple) (vs : List ℕ) → ts ++ fan_from (get_or vs 0 0) (drop 1 vs) ≡ ts ++ face_fan vs
fan_from-start ts [] = refl
fan_from-start ts (a ∷ vs) = refl

-- the first two of the vertices that are left give a triangle
fan_from-next : (a i : ℕ) (vs : List ℕ) → i + 1 < length vs → fan_from a (drop i vs) ≡ (a, get_or vs i 0, get_or vs (i + 1) 0) ∷ fan_from a (drop (i + 1) vs)
fan_from-next a i vs inside =
    let here : drop i vs ≡ get_or vs i 0 ∷ drop (i + 1) vs = rw add-one (drop-cons vs i 0 (omega arith)) in
    let next = drop-cons vs (i + 1) 0 inside in
    ap (fan_from a) here
    ∙ ap (λ (us : List ℕ). fan_from a (get_or vs i 0 ∷ us)) next
    ∙ ap (λ (us : List ℕ). (a, get_or vs i 0, get_or vs (i + 1) 0) ∷ fan_from a us) (sym next)

-- with it stored the others are left
one_stored : (old new : List (List ℕ)) (a i : ℕ) (vs : List ℕ) → new ≡ old ++ (a ∷ get_or vs i 0 ∷ get_or vs (i + 1) 0 ∷ []) ∷ [] → i + 1 < length vs →
    triples_of new ++ fan_from a (drop (i + 1) vs) ≡ triples_of old ++ fan_from a (drop i vs)
one_stored old new a i vs stored inside =
    let left = fan_from a (drop (i + 1) vs) in
    ap (λ (ts : List Triple). ts ++ left) (triples_of-push old new a (get_or vs i 0) (get_or vs (i + 1) 0) stored)
    ∙ append_assoc (triples_of old) ((a, get_or vs i 0, get_or vs (i + 1) 0) ∷ []) left
    ∙ ap (λ (ts : List Triple). triples_of old ++ ts) (sym (fan_from-next a i vs inside))

pub loop-place-init : goal.loop-place-init
loop-place-init c = record {
  added = fan_from-start (triples_of c.reserve.new.self.items) c.args.vertices.now;
  room = search rules;
}

pub loop-place-preserved : goal.loop-place-preserved
loop-place-preserved c =
    let vertices = c.args.vertices.now in
    record {
      added =
          one_stored c.loop-place.triples.items c.push.new.self.items (get_or vertices 0 0) c.loop-place.place vertices c.in-Ok.ensures.items
          (omega (arith, c.loop-place-test.true))
          ∙ c.loop-place.invariant.added;
      room = search rules;
    }

pub returns-clause-added : goal.returns-clause-added
returns-clause-added c =
    let vertices = c.args.vertices.now in
    all_there (triples_of c.loop-place.triples.items) (get_or vertices 0 0) (drop c.loop-place.place vertices) (omega (arith, length-drop c.loop-place.place vertices))
    ∙ c.loop-place.invariant.added
    ∙ ap (λ (ts : List (List ℕ)). triples_of ts ++ face_fan vertices) c.in_ok-reserve.ensures.items
