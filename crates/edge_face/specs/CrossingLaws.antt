-- The laws of crossings, and those of settling.
use Rattle.std.specs.Prelude.{◌≡◌, ◌≢◌, ℕ, ◌<◌, ℤ, pos, negsuc, neg_ℤ, ◌*ℤ◌, ◌≤ℤ◌, Option, None, IfSome, List, length, swap}
use Rattle.mb_base.specs.declared.TheConstants.{UNIT}
use Rattle.mb_base.specs.declared.point.Corner.{Corner}
use Rattle.side_terms.specs.Fine.{IsFine}
use Rattle.side_terms.specs.Corners.{AllFine, AllWhole}
use Rattle.side_terms.specs.Boxes.{AreApart, IsPointIn}
use Rattle.edge_face.specs.declared.Cross.{Cross}
use Rattle.edge_face.specs.Crossings.{Settle, number_of}

-- the laws of the crossings of simplices of P with m corners and of Q with n, of which one is an edge and the other a face
pub record CrossingLaws (m n : ℕ) (test : List Corner → List Corner → Option Cross) : Type 0 where
  -- the number of an answer is not 0
  pub present : (p q : List Corner) → length p ≡ m → length q ≡ n → AllFine p → AllFine q → IfSome (test p q) (λ c. c.number ≢ pos 0)
  -- it lies from -2 to 2
  pub size : (p q : List Corner) → length p ≡ m → length q ≡ n → AllFine p → AllFine q → (negsuc 1 ≤ℤ number_of (test p q)) × (number_of (test p q) ≤ℤ pos 2)
  -- exchanging the ends of P's edge turns the sign of the number
  pub turn_p : (p q : List Corner) → m ≡ 2 → length p ≡ m → length q ≡ n → AllFine p → AllFine q → number_of (test (swap p 0 1) q) ≡ neg_ℤ (number_of (test p q))
  -- exchanging the ends of Q's edge does so too
  pub turn_q : (p q : List Corner) → n ≡ 2 → length p ≡ m → length q ≡ n → AllFine p → AllFine q → number_of (test p (swap q 0 1)) ≡ neg_ℤ (number_of (test p q))
  -- where the boxes are strictly apart on an axis, there is no answer
  pub apart : (p q : List Corner) (i : ℕ) → length p ≡ m → length q ≡ n → AllFine p → AllFine q → i < 3 → AreApart i p q → test p q ≡ None
  -- where every coordinate is a multiple of UNIT, the point lies in the box of the edge: of P's
  pub inside_p : (p q : List Corner) → m ≡ 2 → length p ≡ m → length q ≡ n → AllFine p → AllFine q → AllWhole p → AllWhole q → IfSome (test p q) (λ c. IsPointIn p c.at)
  -- or of Q's
  pub inside_q : (p q : List Corner) → n ≡ 2 → length p ≡ m → length q ≡ n → AllFine p → AllFine q → AllWhole p → AllWhole q → IfSome (test p q) (λ c. IsPointIn q c.at)

-- the laws of settling
pub record IsSettling (settle : Settle) : Type 0 where
  pub monotone : (f g : ℤ) → IsFine f → IsFine g → f ≤ℤ g → settle f ≤ℤ settle g
  pub units : (k : ℤ) → IsFine (UNIT *ℤ k) → settle (UNIT *ℤ k) ≡ k
