use Rattle.std.proofs.Common.{◌≡◌, ℕ, ◌+◌, ◌*◌, ◌<◌, List, true, length, sym, ap, subst, ◌∙◌, arith}
use Rattle.std.specs.List.{All, Contains}
use Rattle.chain_terms.specs.Chains.{all_edges}
use Rattle.chain_terms.specs.Ranks.{start, finish, twin}
use Rattle.mesh_check.specs.Opposites.{third_vertex}
use Rattle.mesh_terms.specs.Halves.{next_half, prev_half}
use Rattle.mesh_tidy.specs.Doubts.{AreHalves, HasLesser, lies_at_one}
use Rattle.mesh_tidy.specs.TidySurface.{TidySurface, Has, IsTwin, left_of, number_of}
use Rattle.mesh_tidy.proofs.After.{AskedAgain, after_doubted}
use Rattle.mesh_tidy.proofs.Again.{IsLeftAs, after_third, before_third, can_at, still_lesser, to_other, to_third}
use Rattle.mesh_tidy.proofs.Left.{next_marked, prev_marked}
use Rattle.mesh_tidy.proofs.Queue.{surface_good}
use Rattle.mesh_tidy.proofs.tidying.collapse.Goals as goal

pub previous-requires : goal.previous-requires
previous-requires c = omega (arith, c.requires.has.0, c.requires.surface.few)

pub next-requires : goal.next-requires
next-requires c = omega (arith, c.requires.has.0, c.requires.surface.few)

pub next-requires-2 : goal.next-requires-2
next-requires-2 c = omega (arith, c.twin-twin.ensures.there.0, c.requires.surface.few)

pub next-requires-3 : goal.next-requires-3
next-requires-3 c = omega (arith, c.twin-to_third.ensures.there.0, c.requires.surface.few)

pub previous-requires-2 : goal.previous-requires-2
previous-requires-2 c = omega (arith, c.twin-from_third.ensures.there.0, c.requires.surface.few)

pub twin-to_third-requires : goal.twin-to_third-requires
twin-to_third-requires c = let s = c.args.surface.now in subst (Has s) (sym c.previous.ensures) (prev_marked s.left s.triples c.args.half c.requires.has)

pub twin-from_third-requires : goal.twin-from_third-requires
twin-from_third-requires c = let s = c.args.surface.now in subst (Has s) (sym c.next.ensures) (next_marked s.left s.triples c.args.half c.requires.has)

pub twin-to_other-requires : goal.twin-to_other-requires
twin-to_other-requires c = let s = c.args.surface.now in subst (Has s) (sym c.next-2.ensures) (next_marked s.left s.triples c.twin-twin.result c.twin-twin.ensures.there)

pub collapse-requires-clause-can : goal.collapse-requires-clause-can
collapse-requires-clause-can c =
    let s = c.args.surface.now in
    let ts = left_of s in
    let es = all_edges ts in
    let k = number_of s c.args.half in
    let points = c.args.points.now in (
      start es k,
      finish es k,
      third_vertex ts k,
      third_vertex ts (twin es k),
      can_at points s c.args.half
          (surface_good s (length points) (sym c.requires.points) c.requires.surface) c.requires.has c.requires.can,
    )

pub doubt-requires-clause-has : goal.doubt-requires-clause-has
doubt-requires-clause-has c =
    let s = c.args.surface.now in
    let ts = left_of s in
    let k = number_of s c.args.half in
    let points = c.args.points.now in
    let can = can_at points s c.args.half (surface_good s (length points) (sym c.requires.points) c.requires.surface) c.requires.has c.requires.can in
    let left = to_third s c.collapse.new.self c.args.half c.in_ok-collapse.ensures.collapsed (third_vertex ts k) (third_vertex ts (twin (all_edges ts) k)) can
    c.twin-to_third.result
    (subst (λ x. IsTwin s x c.twin-to_third.result) c.previous.ensures c.twin-to_third.ensures) in
    left.there

pub doubt-requires-2-clause-has : goal.doubt-requires-2-clause-has
doubt-requires-2-clause-has c =
    let s = c.args.surface.now in
    let ts = left_of s in
    let k = number_of s c.args.half in
    let points = c.args.points.now in
    let can = can_at points s c.args.half (surface_good s (length points) (sym c.requires.points) c.requires.surface) c.requires.has c.requires.can in
    let left = to_other s c.collapse.new.self c.args.half c.in_ok-collapse.ensures.collapsed (third_vertex ts k) (third_vertex ts (twin (all_edges ts) k)) can
    c.twin-twin.result c.twin-to_other.result c.twin-twin.ensures
    (subst (λ x. IsTwin s x c.twin-to_other.result) c.next-2.ensures c.twin-to_other.ensures) in
    left.there

pub doubt-requires-3-clause-has : goal.doubt-requires-3-clause-has
doubt-requires-3-clause-has c =
    let s = c.args.surface.now in
    let ts = left_of s in
    let k = number_of s c.args.half in
    let points = c.args.points.now in
    let can = can_at points s c.args.half (surface_good s (length points) (sym c.requires.points) c.requires.surface) c.requires.has c.requires.can in
    let left = after_third s c.collapse.new.self c.args.half c.in_ok-collapse.ensures.collapsed (third_vertex ts k) (third_vertex ts (twin (all_edges ts) k))
    can c.twin-to_third.result
    (subst (λ x. IsTwin s x c.twin-to_third.result) c.previous.ensures c.twin-to_third.ensures) in
    subst (Has c.collapse.new.self) (sym c.next-3.ensures) left.there

pub doubt-requires-4-clause-has : goal.doubt-requires-4-clause-has
doubt-requires-4-clause-has c =
    let s = c.args.surface.now in
    let ts = left_of s in
    let k = number_of s c.args.half in
    let points = c.args.points.now in
    let can = can_at points s c.args.half (surface_good s (length points) (sym c.requires.points) c.requires.surface) c.requires.has c.requires.can in
    let left = before_third s c.collapse.new.self c.args.half c.in_ok-collapse.ensures.collapsed (third_vertex ts k) (third_vertex ts (twin (all_edges ts) k))
    can c.twin-from_third.result
    (subst (λ x. IsTwin s x c.twin-from_third.result) c.next.ensures c.twin-from_third.ensures) in
    subst (Has c.collapse.new.self) (sym c.previous-2.ensures) left.there

pub returns-clause-doubts : goal.returns-clause-doubts
returns-clause-doubts c =
    let s = c.args.surface.now in
    let new = c.collapse.new.self in
    let h = c.args.half in
    let ts = left_of s in
    let k = number_of s h in
    let p = third_vertex ts k in
    let q = third_vertex ts (twin (all_edges ts) k) in
    let points = c.args.points.now in
    let good = surface_good s (length points) (sym c.requires.points) c.requires.surface in
    let done = c.in_ok-collapse.ensures.collapsed in
    let whole = c.vertices.ensures.surface in
    let good_new = surface_good new (length points) (done.vertices ∙ sym c.requires.points) whole in
    let can = can_at points s h good c.requires.has c.requires.can in
    let to_pair = subst (λ x. IsTwin s x c.twin-to_third.result) c.previous.ensures c.twin-to_third.ensures in
    let from_pair = subst (λ x. IsTwin s x c.twin-from_third.result) c.next.ensures c.twin-from_third.ensures in
    let other_pair = subst (λ x. IsTwin s x c.twin-to_other.result) c.next-2.ensures c.twin-to_other.ensures in
    let d0 = c.args.doubts.now.keys in
    let d1 = c.doubt.new.doubts.keys in
    let d2 = c.doubt-2.new.doubts.keys in
    let d3 = c.doubt-3.new.doubts.keys in
    let d4 = c.doubt-4.new.doubts.keys in
    let last : (x : ℕ) → Contains d3 x → Contains d4 x = c.in_ok-doubt-4.ensures.stay in
    let third : (x : ℕ) → Contains d2 x → Contains d4 x = λ x i. last x (c.in_ok-doubt-3.ensures.stay x i) in
    let second : (x : ℕ) → Contains d1 x → Contains d4 x = λ x i. third x (c.in_ok-doubt-2.ensures.stay x i) in
    let all : (x : ℕ) → Contains d0 x → Contains d4 x = λ x i. second x (c.in_ok-doubt.ensures.stay x i) in
    let a = to_third s new h done p q can c.twin-to_third.result to_pair in
    let b = to_other s new h done p q can c.twin-twin.result c.twin-to_other.result c.twin-twin.ensures other_pair in
    let e = after_third s new h done p q can c.twin-to_third.result to_pair in
    let f = before_third s new h done p q can c.twin-from_third.result from_pair in
    after_doubted points c.requires.each s new h whole.marks good good_new c.requires.has c.requires.can done d0 d4 c.requires.doubts all
    (record { half = c.twin-to_third.result; there = a.there; is = a.is; doubted = λ one. still_lesser new d1 d4 c.twin-to_third.result second (c.in_ok-doubt.ensures.lesser one) })
    (record {
      half = c.twin-to_other.result;
      there = b.there;
      is = b.is;
      doubted = λ one. still_lesser new d2 d4 c.twin-to_other.result third
          (c.in_ok-doubt-2.ensures.lesser one);
    })
    (record {
      half = next_half c.twin-to_third.result;
      there = e.there;
      is = e.is;
      doubted = subst (λ x. lies_at_one points new.triples x ≡ true → HasLesser new d4 x) c.next-3.ensures
          (λ one. still_lesser new d3 d4 c.next-3.result last (c.in_ok-doubt-3.ensures.lesser one));
    })
    (record {
      half = prev_half c.twin-from_third.result;
      there = f.there;
      is = f.is;
      doubted = subst (λ x. lies_at_one points new.triples x ≡ true → HasLesser new d4 x) c.previous-2.ensures c.in_ok-doubt-4.ensures.lesser;
    })

pub returns-clause-halves : goal.returns-clause-halves
returns-clause-halves c =
    let same = c.in_ok-collapse.ensures.collapsed.count in
    let before = subst (λ n. All (λ h. h < 3 * n) c.args.doubts.now.keys) (sym same) c.requires.halves in
    c.in_ok-doubt-4.ensures.halves (c.in_ok-doubt-3.ensures.halves (c.in_ok-doubt-2.ensures.halves (c.in_ok-doubt.ensures.halves before)))

pub returns-clause-count : goal.returns-clause-count
returns-clause-count c = omega (arith, c.in_ok-doubt.ensures.count, c.in_ok-doubt-2.ensures.count, c.in_ok-doubt-3.ensures.count, c.in_ok-doubt-4.ensures.count)

pub returns-clause-surface : goal.returns-clause-surface
returns-clause-surface c = c.vertices.ensures.surface

pub returns-clause-collapsed : goal.returns-clause-collapsed
returns-clause-collapsed c = c.in_ok-collapse.ensures.collapsed
