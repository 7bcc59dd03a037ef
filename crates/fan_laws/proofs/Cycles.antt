-- Going round by twins: a permutation of the half-edges, and its cycles.
use Rattle.std.proofs.Common.{◌≡◌, ◌<◌, ◌+◌, ◌-◌, ◌*◌, ◌%◌, ℕ, zero, suc, List, length, get_or, refl, sym, ◌∙◌, ap, arith}
use Rattle.chain_terms.specs.Permutations.{AreInverse, times}
use Rattle.chain_laws.proofs.Walks.{returns, times-add, times_below}
use Rattle.halfedge.proofs.Marks.{leads_back}
use Rattle.mesh_terms.specs.Halves.{next_half, prev_half}
use Rattle.halfedge.proofs.Edges.{next_prev, prev_next}
use Rattle.sheet_terms.specs.Vertices.{around_by}
use Rattle.fan_laws.specs.Pairs.{AreTwins, Reaches}

-- the next of a triangle is among so many, where these are three a triangle
pub next_among : (n h : ℕ) → n % 3 ≡ 0 → h < n → next_half h < n
next_among n h whole below = omega (arith, whole, below)

pub prev_among : (n h : ℕ) → n % 3 ≡ 0 → h < n → prev_half h < n
prev_among n h whole below = omega (arith, whole, below)

module _ (twins : List ℕ) (are : AreTwins twins) where
  -- going around has a way back
  pub around_by_inverse : AreInverse (around_by twins) (λ h. get_or twins (prev_half h) 0) (length twins)
  around_by_inverse = record {
    below = λ h low. next_among (length twins) (get_or twins h 0) are.whole (are.below h low);
    above = λ h low. are.below (prev_half h) (prev_among (length twins) h are.whole low);
    back = λ h low. ap next_half (are.back (prev_half h) (prev_among (length twins) h are.whole low)) ∙ next_prev h;
    forth = λ h low. ap (λ g. get_or twins g 0) (prev_next (get_or twins h 0)) ∙ are.back h low;
  }

  pub around_low : (h : ℕ) → h < length twins → around_by twins h < length twins
  around_low h low = around_by_inverse.below h low

  pub times_low : (n h : ℕ) → h < length twins → times (around_by twins) n h < length twins
  times_low n h low = times_below (around_by twins) (λ g. get_or twins (prev_half g) 0) (length twins) around_by_inverse n h low

  -- what is reached leads back
  pub reaches_back : (h g : ℕ) → h < length twins → Reaches twins h g → Reaches twins g h
  reaches_back h g low (n, to) =
      let s = around_by twins in
      let round = returns s (λ x. get_or twins (prev_half x) 0) (length twins) around_by_inverse h low in
      (n * round.steps - n, ap (times s (n * round.steps - n)) (sym to) ∙ leads_back s round.steps h round.some round.back n)

-- and on
pub reaches_on : (twins : List ℕ) (h g x : ℕ) → Reaches twins h g → Reaches twins g x → Reaches twins h x
reaches_on twins h g x (n, to) (m, on) = (m + n, times-add (around_by twins) m n h ∙ ap (times (around_by twins) m) to ∙ on)

pub reaches_next : (twins : List ℕ) (h g : ℕ) → Reaches twins h g → Reaches twins h (around_by twins g)
reaches_next twins h g (n, to) = (suc n, ap (around_by twins) to)

-- what is kept around is the same where it is reached
pub kept_where_reached : (twins : List ℕ) → AreTwins twins → (f : ℕ → ℕ) → ((x : ℕ) → x < length twins → f (around_by twins x) ≡ f x) → (h g : ℕ) → h < length twins →
    Reaches twins h g → f g ≡ f h
kept_where_reached twins are f kept h g low (zero, to) = ap f (sym to)
kept_where_reached twins are f kept h g low (suc n, to) =
    ap f (sym to) ∙ kept (times (around_by twins) n h) (times_low twins are n h low) ∙ kept_where_reached twins are f kept h (times (around_by twins) n h) low (n, refl)
