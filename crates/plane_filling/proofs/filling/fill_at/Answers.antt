use Rattle.std.proofs.Common.{◌≡◌, ◌+◌, ◌*◌, ◌<◌, ◌++◌, ℕ, List, length, map, arith, ap, subst, sym, ◌∙◌}
use Rattle.std.specs.Bool.{MatchBool}
use Rattle.std.specs.List.{All}
use Rattle.std.proofs.lemmas.Bool.{MatchBool-at_false, MatchBool-at_true}
use Rattle.std.proofs.lemmas.List.{map-append}
use Rattle.places_by_key.specs.Buckets.{places_of}
use Rattle.plane_filling.specs.Pieces.{Adds, Piece, first_keys, forced_of, piece_of}
use Rattle.plane_filling.proofs.Added.{forced_append, then_others}
use Rattle.plane_filling.proofs.Fillable.{bucket_inside, bucket_is, bucket_low}
use Rattle.plane_filling.proofs.filling.fill_at.Goals as goal

pub overflow_mul-number : goal.overflow_mul-number
overflow_mul-number c = omega (arith, c.requires.turns.1, c.requires.turns.2)

pub overflow_mul-number-2 : goal.overflow_mul-number-2
overflow_mul-number-2 c = omega (arith, c.requires.turns.1, c.requires.turns.2)

pub overflow_add-number : goal.overflow_add-number
overflow_add-number c = omega (arith, c.requires.turns.1, c.requires.turns.2)

pub bucket-requires : goal.bucket-requires
bucket-requires c =
    let t = c.requires.turns in
    bucket_low (first_keys c.args.regions.now.all.items) (2 * t.0) (2 * c.args.number) c.args.turns.now t.3 (omega (arith, t.2))

pub bucket-requires-2 : goal.bucket-requires-2
bucket-requires-2 c =
    let t = c.requires.turns in
    bucket_low (first_keys c.args.regions.now.all.items) (2 * t.0) (2 * c.args.number + 1) c.args.turns.now t.3 (omega (arith, t.2))

pub fill_some-requires-clause-numbers : goal.fill_some-requires-clause-numbers
fill_some-requires-clause-numbers c =
    let t = c.requires.turns in
    let all = c.args.regions.now.all.items in
    subst (All (λ k. k < length all)) (sym c.bucket.ensures) (bucket_inside all (2 * t.0) (2 * c.args.number) c.args.turns.now t.3 (omega (arith, t.2)))

pub fill_some-requires-2-clause-numbers : goal.fill_some-requires-2-clause-numbers
fill_some-requires-2-clause-numbers c =
    let t = c.requires.turns in
    let all = c.args.regions.now.all.items in
    subst (All (λ k. k < length all)) (sym c.bucket-2.ensures)
    (bucket_inside all (2 * t.0) (2 * c.args.number + 1) c.args.turns.now t.3 (omega (arith, t.2)))

-- pieces of two lists of regions
two_lists : (f : ℕ → Piece) (a b xs ys : List ℕ) → a ≡ xs → b ≡ ys → map f a ++ map f b ≡ map f (xs ++ ys)
two_lists f a b xs ys e g = (λ j. map f (e j) ++ map f (g j)) ∙ sym (map-append f xs ys)

pub returns-then-not-branch : goal.returns-then-not-branch
returns-then-not-branch c =
    let t = c.requires.turns in
    let keys = first_keys c.args.regions.now.all.items in
    let f = piece_of c.args.points.now c.args.regions.now c.args.ways.now in
    let n = c.args.number in
    let first = c.bucket.ensures ∙ bucket_is keys (2 * t.0) (2 * n) c.args.turns.now t.3 (omega (arith, t.2)) in
    let some : 0 < forced_of (map f c.bucket.result.now) = MatchBool-at_false _ _ c.if-not-branch.true c.in_ok-fill_some.ensures in
    let both = ap forced_of (map-append f (places_of keys (2 * n)) (places_of keys (2 * n + 1))) in
    omega (arith, some, both, forced_append (map f (places_of keys (2 * n))) (map f (places_of keys (2 * n + 1))), ap (λ l. forced_of (map f l)) first)

pub returns : goal.returns
returns c =
    let t = c.requires.turns in
    let keys = first_keys c.args.regions.now.all.items in
    let f = piece_of c.args.points.now c.args.regions.now c.args.ways.now in
    let n = c.args.number in
    let first = c.bucket.ensures ∙ bucket_is keys (2 * t.0) (2 * n) c.args.turns.now t.3 (omega (arith, t.2)) in
    let second = c.bucket-2.ensures ∙ bucket_is keys (2 * t.0) (2 * n + 1) c.args.turns.now t.3 (omega (arith, t.2)) in
    let a = c.bucket.result.now in
    let b = c.bucket-2.result.now in
    let old = MatchBool-at_true _ _ c.if-not-branch.false c.in_ok-fill_some.ensures in
    let P : List Piece → Type 0 = λ ps. MatchBool c.in_ok-done.done ((forced_of ps ≡ 0) × Adds ps c.args.filled.now c.fill_some-2.new.filled) (0 < forced_of ps) in
    subst P (two_lists f a b (places_of keys (2 * n)) (places_of keys (2 * n + 1)) first second)
    (then_others (map f a) (map f b) c.args.filled.now c.fill_some.new.filled c.fill_some-2.new.filled c.in_ok-done.done old.0 old.1 c.in_ok-done.ensures)
