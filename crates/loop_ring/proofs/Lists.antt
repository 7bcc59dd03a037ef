-- A node in the midst of the others.
use Rattle.std.proofs.Common.{◌≡◌, ℕ, zero, suc, ◌<◌, List, [], ◌∷◌, ◌++◌, length, take, drop, set, get_or, map, refl, ap, ◌∙◌, arith}
use Rattle.std.proofs.Math.ListN.{get_or-map}
use Rattle.std.proofs.Math.Seq.{map-set_same}
use Rattle.std.proofs.lemmas.List.{map-set}
use Rattle.loop_ring.specs.Located.{Located, nowhere, address_at}

-- the address of the i-th node
pub address_at-is : (ns : List Located) (i : ℕ) → address_at ns i ≡ (get_or ns i nowhere).0
address_at-is ns i = get_or-map (λ n. n.0) ns i nowhere

-- a list is what stands before its i-th node, the node, and what stands after
pub cut_at : (ns : List Located) (i : ℕ) → i < length ns → ns ≡ take i ns ++ get_or ns i nowhere ∷ drop (suc i) ns
cut_at [] i within = absurd (omega arith)
cut_at (n ∷ ns) zero within = refl
cut_at (n ∷ ns) (suc i) within = ap (λ ms. n ∷ ms) (cut_at ns i (omega arith))

-- the same where the i-th node is another
pub cut_at-set : (ns : List Located) (i : ℕ) (m : Located) → i < length ns → set ns i m ≡ take i ns ++ m ∷ drop (suc i) ns
cut_at-set [] i m within = absurd (omega arith)
cut_at-set (n ∷ ns) zero m within = refl
cut_at-set (n ∷ ns) (suc i) m within = ap (λ ms. n ∷ ms) (cut_at-set ns i m (omega arith))

-- what f sees of the nodes after the i-th was written over: the same where f sees no difference
pub same_seen : {X : Type 0} (f : Located → X) (ns ms : List Located) (i : ℕ) (m : Located) → ms ≡ set ns i m → f m ≡ f (get_or ns i nowhere) → map f ms ≡ map f ns
same_seen f ns ms i m is same = ap (map f) is ∙ map-set_same f ns i m nowhere same

-- and else what it sees of the other node there
pub other_seen : {X : Type 0} (f : Located → X) (ns ms : List Located) (i : ℕ) (m : Located) → ms ≡ set ns i m → map f ms ≡ set (map f ns) i (f m)
other_seen f ns ms i m is = ap (map f) is ∙ map-set f ns i m
