-- Chains as they grow, and results that are weakened.
use Rattle.std.proofs.Common.{◌≡◌, ◌<◌, ◌+◌, ◌++◌, ◌∙◌, ℕ, Bool, List, [], ◌∷◌, Err, IfOk, Ok, Result, ap, arith, get_or, length, map, subst, sym}
use Rattle.std.proofs.lemmas.List.{append-nil, get_or-map}
use Rattle.chain_laws.proofs.Places.{get_or-up_from, length-up_from}
use Rattle.chain_terms.specs.Sums.{upto}
use Rattle.places_by_key.specs.Buckets.{places_of}
use Rattle.plane_chains.specs.declared.chain.Chain.{Chain}
use Rattle.plane_chains.specs.declared.chain.Way.{Way}
use Rattle.plane_chains.specs.declared.nets.LabelNumber.{LabelNumber}
use Rattle.plane_chains.specs.Placed.{ArePlaced}
use Rattle.plane_chains.specs.Stored.{HasPushed}
use Rattle.plane_chains.proofs.WayLists.{IsChained, chained_none}

-- a fact that follows where a result is Ok
pub if_ok : {T E : Type 0} {P Q : T → Type 0} (r : Result T E) → ((x : T) → P x → Q x) → IfOk r P → IfOk r Q
if_ok (Ok x) f p = f x p
if_ok (Err e) f p = p

-- no numbers, no edge
pub pushed_none : (c : Chain) (e : ℕ × ℕ) (net : List LabelNumber) → length net ≡ 0 → HasPushed c c e net
pushed_none c e [] h = record { edges = sym (append-nil c.edges.items); nets = pair c.nets } where
  pair : (p : List (List LabelNumber) × List LabelNumber) → p.1 ≡ [] → p ≡ (p.0 ++ [], [])
  pair p i = λ j. (sym (append-nil p.0) j, i j)
pushed_none c e (n ∷ net) h = absurd (omega (arith, h))

-- an edge with its numbers
pub pushed_some : (old new : Chain) (e : ℕ × ℕ) (net : List LabelNumber) → 0 < length net → new.edges.items ≡ old.edges.items ++ (e.0 ∷ e.1 ∷ []) ∷ [] →
    new.nets ≡ (old.nets.0 ++ (old.nets.1 ++ net) ∷ [], []) → HasPushed old new e net
pushed_some old new e [] some edges nets = absurd (omega (arith, some))
pushed_some old new e (n ∷ net) some edges nets = record {
  edges = edges;
  nets = λ i. nets ∙ ap (λ (ms : List LabelNumber). with_net old.nets.0 (ms ++ n ∷ net)) i;
}
  where
    with_net : List (List LabelNumber) → List LabelNumber → List (List LabelNumber) × List LabelNumber
    with_net ls ms = (ls ++ ms ∷ [], [])

pub chained_start : (ways : List Way) (edges : List (ℕ × ℕ)) (made : List (List ℕ)) (nets : List (List LabelNumber) × List LabelNumber) → made ≡ [] → nets ≡ ([], []) →
    IsChained ways edges 0 made nets
chained_start ways edges made nets e f =
    subst (λ ms. IsChained ways edges 0 ms nets) (sym e) (subst (λ ns. IsChained ways edges 0 [] ns) (sym f) (chained_none ways edges))

-- a bucket as it is read
pub bucket_is : (of : List ℕ) (n k : ℕ) (gathered : List (List ℕ)) (got : List ℕ) → gathered ≡ map (places_of of) (upto n) → k < n → got ≡ get_or gathered k [] → got ≡ places_of of k
bucket_is of n k gathered got is low read =
    read ∙ ap (λ bs. get_or bs k []) is ∙ get_or-map (places_of of) (upto n) k 0 [] (omega (arith, low, length-up_from 0 n))
    ∙ ap (places_of of) (get_or-up_from 0 n k 0 low ∙ zero_plus k) where
      zero_plus : (m : ℕ) → 0 + m ≡ m
      zero_plus m = omega arith

pub placed_moved : {X : Type 0} (eq : X → X → Bool) (xs ys keys ks : List X) (of ns : List ℕ) → xs ≡ ys → keys ≡ ks → of ≡ ns → ArePlaced eq xs keys of → ArePlaced eq ys ks ns
placed_moved eq xs ys keys ks of ns e f g p =
    subst (λ zs. ArePlaced eq zs ks ns) e (subst (λ zs. ArePlaced eq xs zs ns) f (subst (λ zs. ArePlaced eq xs keys zs) g p))
