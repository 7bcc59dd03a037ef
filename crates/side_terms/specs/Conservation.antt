-- Numbers of crossings by half-edge, and how they agree with each other and with winding numbers.
use Rattle.std.specs.Prelude.{◌≡◌, ℕ, ◌+◌, ◌*◌, ◌<◌, ℤ, pos, neg_ℤ, ◌-ℤ◌, List, length, cond, if◌then◌else◌, nat_lt, ◌==◌, ◌&&◌}
use Rattle.chain_terms.specs.Sums.{total, upto}
use Rattle.chain_terms.specs.Ranks.{start, finish, twin}
use Rattle.mb_base.specs.declared.results.Hit.{Hit}

-- the number that hits give an edge with a face: 0 where there is none
abbrev pub hit_number : List Hit → ℕ → ℕ → ℤ
hit_number hits e f = total (λ h. cond ((h.edge == e) && (h.face == f)) h.number (pos 0)) hits

-- the number of any half-edge of a chain with a face: that of its edge, turned where it is not the lower one
abbrev pub half_number : List (ℕ × ℕ) → List Hit → ℕ → ℕ → ℤ
half_number es hits h f = if nat_lt h (twin es h) then hit_number hits h f else neg_ℤ (hit_number hits (twin es h) f)

-- for a face of each side, the numbers of the one's half-edges with the other add up to those of the other's with the one
pub record PairIdentity (p_faces q_faces : ℕ) (p_number q_number : ℕ → ℕ → ℤ) : Type 0 where
  pub same : (f g : ℕ) → f < p_faces → g < q_faces → total (λ i. p_number (3 * f + i) g) (upto 3) ≡ total (λ i. q_number (3 * g + i) f) (upto 3)

-- along each half-edge the winding number of the vertices changes by minus the half-edge's numbers with all faces
pub record EdgeIdentity (es : List (ℕ × ℕ)) (faces : ℕ) (winding : ℕ → ℤ) (number : ℕ → ℕ → ℤ) : Type 0 where
  pub along : (h : ℕ) → h < length es → (winding (finish es h) -ℤ winding (start es h)) ≡ neg_ℤ (total (number h) (upto faces))
