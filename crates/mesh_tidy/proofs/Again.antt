-- The half-edges that are asked again after a collapse, among those that are left.
use Rattle.std.proofs.Common.{◌≡◌, ℕ, ◌+◌, ◌*◌, ◌/◌, ◌%◌, ◌<◌, Bool, true, ℤ, List, [], length, get_or, refl, sym, ap, subst, ◌∙◌, arith}
use Rattle.std.specs.Prelude.{min}
use Rattle.std.specs.List.{All, Contains}
use Rattle.chain_terms.specs.Chains.{all_edges}
use Rattle.chain_terms.specs.Ranks.{start, finish, twin}
use Rattle.halfedge.proofs.Edges.{length-all_edges}
use Rattle.mesh_check.specs.Opposites.{third_vertex}
use Rattle.mesh_terms.specs.Halves.{next_half, prev_half}
use Rattle.mesh_terms.specs.Meshes.{Triple}
use Rattle.tidy_terms.specs.Collapse.{stays}
use Rattle.tidy_terms.specs.Collapsible.{is_collapsible}
use Rattle.tidy_laws.specs.Conditions.{CanCollapse, number_after}
use Rattle.tidy_laws.proofs.Around.{ac, ac_stays, cb, cb_stays, da, da_stays}
use Rattle.tidy_laws.proofs.Kept.{Stays, next_down}
use Rattle.tidy_laws.proofs.Tidying.{AreGood, can_of}
use Rattle.mesh_tidy.specs.Doubts.{HasLesser}
use Rattle.mesh_tidy.specs.TidySurface.{TidySurface, Has, HasCollapsed, IsTwin, left_of, number_of}
use Rattle.mesh_tidy.proofs.Left.{next_marked, next_number, number_below}
use Rattle.mesh_tidy.proofs.NewSurface.{prev_is}

-- a half-edge that can be collapsed, with its ends and the third vertices of both triangles
pub can_at : (points : List (List ℤ)) (s : TidySurface) (h : ℕ) → AreGood (length points) (left_of s) → Has s h → is_collapsible points (left_of s) (number_of s h) ≡ true →
    CanCollapse (left_of s) (number_of s h) (start (all_edges (left_of s)) (number_of s h)) (finish (all_edges (left_of s)) (number_of s h))
    (third_vertex (left_of s) (number_of s h)) (third_vertex (left_of s) (twin (all_edges (left_of s)) (number_of s h)))
can_at points s h good has can = can_of points (left_of s) good (number_of s h) (omega (arith, number_below s.left s.triples h has, length-all_edges (left_of s))) can

-- what is in doubt stays so where nothing leaves doubt
pub still_lesser : (s : TidySurface) (few more : List ℕ) (h : ℕ) → ((x : ℕ) → Contains few x → Contains more x) → HasLesser s few h → HasLesser s more h
still_lesser s few more h stay l = record { other = l.other; pair = l.pair; among = stay (min h l.other) l.among }

-- a half-edge that is left, and the number that one has among the triangles before as it has it now
pub record IsLeftAs (new : TidySurface) (y n : ℕ) : Type 0 where
  pub there : Has new y
  pub is : number_of new y ≡ n

module _ (old new : TidySurface) (h : ℕ) (c : HasCollapsed old new h) (p q : ℕ)
    (can : CanCollapse (left_of old) (number_of old h) (start (all_edges (left_of old)) (number_of old h)) (finish (all_edges (left_of old)) (number_of old h)) p q) where
  abbrev pub ts : List Triple
  ts = left_of old

  abbrev pub k : ℕ
  k = number_of old h

  abbrev pub a : ℕ
  a = start (all_edges ts) k

  abbrev pub b : ℕ
  b = finish (all_edges ts) k

  -- one that stays
  stays_as : (y n : ℕ) → Has old y → number_of old y ≡ n → Stays (stays a b) ts n → IsLeftAs new y (number_after a b ts n)
  stays_as y n y_has e s =
      let there : Has new y = c.has y y_has (ap (λ m. stays a b (get_or ts (m / 3) (0, 0, 0))) e ∙ s.1) in
      record { there = there; is = c.numbers y there ∙ ap (number_after a b ts) e }

  -- and those beside it
  next_as : (y n : ℕ) → IsLeftAs new y (number_after a b ts n) → IsLeftAs new (next_half y) (number_after a b ts (next_half n))
  next_as y n l = record {
    there = next_marked new.left new.triples y l.there;
    is = next_number new.left y ∙ ap next_half l.is ∙ sym (next_down (stays a b) ts n);
  }

  -- from the vertex that stays to the third one
  pub to_third : (y : ℕ) → IsTwin old (prev_half h) y → IsLeftAs new y (number_after a b ts (ac ts k a b p q can))
  to_third y pair =
      let before : number_of old (prev_half h) ≡ next_half (next_half k) = ap (number_of old) (prev_is h) ∙ next_number old.left (next_half h)
      ∙ ap next_half (next_number old.left h) in
      stays_as y (ac ts k a b p q can) pair.there (sym pair.is ∙ ap (twin (all_edges ts)) before) (ac_stays ts k a b p q can)

  pub after_third : (y : ℕ) → IsTwin old (prev_half h) y → IsLeftAs new (next_half y) (number_after a b ts (next_half (ac ts k a b p q can)))
  after_third y pair = next_as y (ac ts k a b p q can) (to_third y pair)

  -- from the third one, and the one before
  from_third : (y : ℕ) → IsTwin old (next_half h) y → IsLeftAs new y (number_after a b ts (cb ts k a b p q can))
  from_third y pair = stays_as y (cb ts k a b p q can) pair.there (sym pair.is ∙ ap (twin (all_edges ts)) (next_number old.left h)) (cb_stays ts k a b p q can)

  pub before_third : (y : ℕ) → IsTwin old (next_half h) y → IsLeftAs new (prev_half y) (number_after a b ts (next_half (next_half (cb ts k a b p q can))))
  before_third y pair =
      let l = next_as (next_half y) (next_half (cb ts k a b p q can)) (next_as y (cb ts k a b p q can) (from_third y pair)) in
      subst (λ w. IsLeftAs new w (number_after a b ts (next_half (next_half (cb ts k a b p q can))))) (sym (prev_is y)) l

  -- from the other third vertex
  pub to_other : (g y : ℕ) → IsTwin old h g → IsTwin old (next_half g) y → IsLeftAs new y (number_after a b ts (da ts k a b p q can))
  to_other g y pair across =
      stays_as y (da ts k a b p q can) across.there (sym across.is ∙ ap (twin (all_edges ts)) (next_number old.left g ∙ ap next_half (sym pair.is))) (da_stays ts k a b p q can)
