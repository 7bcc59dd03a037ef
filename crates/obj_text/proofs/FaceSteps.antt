-- A reading with one more point, and with the triangles of one more face.
use Rattle.std.proofs.Common.{◌≡◌, ℕ, ◌+◌, ◌-◌, ◌<◌, ◌≤◌, Bool, true, false, ℤ, List, [], ◌∷◌, ◌++◌, length, replicate}
use Rattle.std.proofs.Common.{Ok, Err, ap, ◌∙◌, arith, length-append}
use Rattle.std.specs.Prelude.{nat_lt, if◌then◌else◌}
use Rattle.std.specs.List.{All}
use Rattle.std.proofs.lemmas.Bool.Decides.{nat_tests}
use Rattle.std.proofs.lemmas.List.{length-map, map-append}
use Rattle.std.proofs.lemmas.List.Elements.{All-append, All-push, All-weaker}
use Rattle.mesh_terms.specs.Faults.{Points, Triangles, Over}
use Rattle.mesh_terms.specs.Limits.{Limits}
use Rattle.mesh_terms.specs.Meshes.{Triple, HasThree, IsBelow, triple_of, triples_of}
use Rattle.unused_points.specs.Used.{IsSound}
use Rattle.format_terms.specs.ObjFaces.{face_fan, has_repeat}
use Rattle.format_terms.specs.Obj.{Gathered, with_point, with_triples}
use Rattle.format_terms.proofs.Fans.{length-face_fan, face_three, face_below}

-- as many triangles as are stored
pub length-triples_of : (triples : List (List ℕ)) → length (triples_of triples) ≡ length triples
length-triples_of triples = length-map triples triple_of

-- one more is stored
pub triples_of-push : (old new : List (List ℕ)) (a b c : ℕ) → new ≡ old ++ (a ∷ b ∷ c ∷ []) ∷ [] → triples_of new ≡ triples_of old ++ (a, b, c) ∷ []
triples_of-push old new a b c stored = ap triples_of stored ∙ map-append triple_of old ((a ∷ b ∷ c ∷ []) ∷ [])

-- a reading stays sound with the triangles of a face
pub IsSound-face : (n : ℕ) (ts us : List Triple) (vs : List ℕ) → IsSound n ts → us ≡ ts ++ face_fan vs → has_repeat vs ≡ false → All (λ v. v < n) vs →
    length ts + (length vs - 2) ≤ 100000000 → IsSound n us
IsSound-face n ts us vs sound is apart below few = rw is (record {
  three = All-append HasThree ts (face_fan vs) sound.three (face_three vs apart);
  below = All-append (IsBelow n) ts (face_fan vs) sound.below (face_below n vs below);
  few_points = sound.few_points;
  few_triples = omega (arith, few, length-append ts (face_fan vs), length-face_fan vs);
})

-- with one triangle more
pub IsSound-triple : (n : ℕ) (ts us : List Triple) (t : Triple) → IsSound n ts → us ≡ ts ++ t ∷ [] → HasThree t → IsBelow n t →
    length ts < 100000000 → IsSound n us
IsSound-triple n ts us t sound is apart below few = rw is (record {
  three = All-push HasThree ts t sound.three apart;
  below = All-push (IsBelow n) ts t sound.below below;
  few_points = sound.few_points;
  few_triples = omega (arith, few, length-append ts (t ∷ []));
})

-- and with a point more
pub IsSound-point : (n m : ℕ) (ts : List Triple) → IsSound n ts → m ≡ n + 1 → m ≤ 150000000 → IsSound m ts
IsSound-point n m ts sound more few = record {
  three = sound.three;
  below = All-weaker (IsBelow n) (IsBelow m) (λ t b. record { a = omega (arith, b.a, more); b = omega (arith, b.b, more); c = omega (arith, b.c, more) }) ts sound.below;
  few_points = few;
  few_triples = sound.few_triples;
}

-- too many points
pub with_point-over : (limits : Limits) (s : Gathered) (p : List ℤ) (n : ℕ) → length s.points + 1 ≡ n → limits.points < n →
    with_point limits s p ≡ Err (Over Points n)
with_point-over limits s p n e over =
    let test : nat_lt limits.points (length s.points + 1) ≡ true = grind (arith, nat_tests) in
    ap (λ (b : Bool). if b then Err (Over Points (length s.points + 1)) else Ok
    (record { points = s.points ++ p ∷ []; triples = s.triples; labels = s.labels; label = s.label })) test
    ∙ ap (λ (m : ℕ). Err (Over Points m)) e

-- no more than the limit
pub with_point-within : (limits : Limits) (s : Gathered) (p : List ℤ) → length s.points + 1 ≤ limits.points →
    with_point limits s p ≡ Ok (record { points = s.points ++ p ∷ []; triples = s.triples; labels = s.labels; label = s.label })
with_point-within limits s p within =
    let test : nat_lt limits.points (length s.points + 1) ≡ false = grind (arith, nat_tests) in
    ap (λ (b : Bool). if b then Err (Over Points (length s.points + 1)) else Ok
    (record { points = s.points ++ p ∷ []; triples = s.triples; labels = s.labels; label = s.label })) test

-- too many triangles
pub with_triples-over : (limits : Limits) (s : Gathered) (ts : List Triple) (n : ℕ) → length s.triples + length ts ≡ n → limits.triangles < n →
    with_triples limits s ts ≡ Err (Over Triangles n)
with_triples-over limits s ts n e over =
    let test : nat_lt limits.triangles (length s.triples + length ts) ≡ true = grind (arith, nat_tests) in
    ap (λ (b : Bool). if b then Err (Over Triangles (length s.triples + length ts)) else Ok
    (record { points = s.points; triples = s.triples ++ ts; labels = s.labels ++ replicate (length ts) s.label; label = s.label })) test
    ∙ ap (λ (m : ℕ). Err (Over Triangles m)) e

-- no more than the limit
pub with_triples-within : (limits : Limits) (s : Gathered) (ts : List Triple) → length s.triples + length ts ≤ limits.triangles →
    with_triples limits s ts ≡ Ok (record { points = s.points; triples = s.triples ++ ts; labels = s.labels ++ replicate (length ts) s.label; label = s.label })
with_triples-within limits s ts within =
    let test : nat_lt limits.triangles (length s.triples + length ts) ≡ false = grind (arith, nat_tests) in
    ap (λ (b : Bool). if b then Err (Over Triangles (length s.triples + length ts)) else Ok
    (record { points = s.points; triples = s.triples ++ ts; labels = s.labels ++ replicate (length ts) s.label; label = s.label })) test
