use Rattle.std.proofs.Common.{◌≡◌, ◌+◌, ◌-◌, ◌^◌, ℕ, List, length, take, drop, arith, sym, ap, subst, ◌∙◌}
use Rattle.std.specs.List.{All}
use Rattle.std.proofs.lemmas.List.{length-append, length-drop, length-take-le}
use Rattle.hole_joining.specs.declared.runs.Run.{Run}
use Rattle.hole_joining.specs.Runs.{IsRound, AreRuns, without, spread}
use Rattle.hole_joining.specs.Seen.{plane_at}
use Rattle.hole_joining.proofs.Following.{runs_joined, runs_short, three_parts}
use Rattle.hole_joining.proofs.runs.Runs.follow.Goals as goal

pub widen-requires : goal.widen-requires
widen-requires c =
    let ring : List ℕ = c.args.ring.now in
    let i = c.args.place + 1 in
    let count = c.args.count in
    let width : i + count - i ≡ count = omega arith in
    let front = length-take-le i ring (omega (arith, c.requires.within)) in
    let many : c.run_of-more.result.count ≡ count =
    c.run_of-more.ensures.count ∙ ap (λ n. length (take n (drop i ring))) width
    ∙ length-take-le count (drop i ring) (omega (arith, c.requires.within, length-drop i ring)) in
    runs_short (plane_at c.args.flat.now) c.args.self.now (without i count ring) (2 ^ 64) c.run_of-more.result.count c.requires.runs
    (omega (
      arith,
      many,
      c.requires.within,
      c.requires.small,
      length-append (take i ring) (drop (i + count) ring),
      front,
      length-drop (i + count) ring,
    ))

pub returns-else-ring-self : goal.returns-else-ring-self
returns-else-ring-self c =
    let at = plane_at c.args.flat.now in
    let ring : List ℕ = c.args.ring.now in
    let rs : List Run = c.args.self.now in
    let i = c.args.place + 1 in
    let count = c.args.count in
    let more : Run = c.run_of-more.result in
    let width : i + count - i ≡ count = omega arith in
    let mid = take count (drop i ring) in
    let many : more.count ≡ length mid = c.run_of-more.ensures.count ∙ ap (λ n. length (take n (drop i ring))) width in
    let round : All (λ v. IsRound more (at v)) mid =
    subst (All (λ v. IsRound more (at v))) (ap (λ n. take n (drop i ring)) width) c.run_of-more.ensures.round in
    let joined =
    runs_joined at rs (take i ring) mid (drop (i + count) ring) c.args.place more
    (length-take-le i ring (omega (arith, c.requires.within))) many round c.requires.runs in
    subst (λ l. AreRuns at l ring) (sym c.widen.ensures) (subst (AreRuns at (spread rs c.args.place more)) (three_parts ring i count) joined)
