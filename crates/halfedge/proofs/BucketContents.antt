-- Half-edges in buckets by a key of their lesser ends: what lies in one, and its two ways.
use Rattle.std.proofs.Common.{◌≡◌, ◌<◌, ◌%◌, ℕ, List, [], length, get_or, map, sym, ◌∙◌, ap, subst}
use Rattle.std.specs.List.{All, filter}
use Rattle.std.proofs.lemmas.List.{get_or-map, length-map}
use Rattle.std.proofs.lemmas.List.Elements.{All-map}
use Rattle.std.proofs.lemmas.Nat.{mod_below}
use Rattle.chain_terms.specs.Sums.{upto}
use Rattle.places_by_key.specs.Buckets.{places_of}
use Rattle.places_by_key.proofs.Upto.{get_or-map-upto}
use Rattle.halfedge.specs.Pairing.{Half, turned, IsSortOf}
use Rattle.halfedge.specs.Ways.{half_of, bucket_of, runs_up, AreWays}
use Rattle.halfedge.proofs.Split.{AreKeys, key_ups, key_downs, places_below}

-- keys modulo n are numbers of n buckets
pub numbers_below : {X : Type 0} (key : X → ℕ) (n : ℕ) (xs : List X) → 0 < n → All (λ k. k < n) (map (λ x. key x % n) xs)
numbers_below key n xs some = All-map (λ k. k < n) (λ x. key x % n) xs (λ k d low. mod_below _ n some)

-- the bucket of an edge is the key of its lesser end
pub edge_keys : (es : List (ℕ × ℕ)) (n : ℕ) → AreKeys es (λ a. a % n) (map (bucket_of n) es)
edge_keys es n = record { full = length-map es (bucket_of n); each = λ h below. get_or-map (bucket_of n) es h (0, 0) 0 below }

-- what was read as bucket k of so many, gathered by these keys
pub record IsBucket (keys : List ℕ) (n k : ℕ) (bucket : List ℕ) : Type 0 where
  pub numbers : List ℕ
  pub buckets : List (List ℕ)
  pub same : numbers ≡ keys
  pub gathered : buckets ≡ map (places_of numbers) (upto n)
  pub read : bucket ≡ get_or buckets k []

-- the bucket that is read from those that were made
pub read_bucket : (keys : List ℕ) (n k : ℕ) (numbers : List ℕ) (buckets : List (List ℕ)) (bucket : List ℕ) → numbers ≡ keys →
    buckets ≡ map (places_of numbers) (upto n) → bucket ≡ get_or buckets k [] → IsBucket keys n k bucket
read_bucket keys n k numbers buckets bucket same gathered read = record { numbers = numbers; buckets = buckets; same = same; gathered = gathered; read = read }

-- bucket k holds the places with key k
bucket_is : (keys : List ℕ) (n k : ℕ) (bucket : List ℕ) → k < n → IsBucket keys n k bucket → bucket ≡ places_of keys k
bucket_is keys n k bucket low is =
    is.read ∙ ap (λ (l : List (List ℕ)). get_or l k []) is.gathered ∙ get_or-map-upto (places_of is.numbers) n k [] low ∙ ap (λ l. places_of l k) is.same

-- which are places of the keys
pub bucket_members : (keys : List ℕ) (n k : ℕ) (bucket : List ℕ) → k < n → IsBucket keys n k bucket → All (λ place. place < length keys) bucket
bucket_members keys n k bucket low is = subst (All (λ place. place < length keys)) (sym (bucket_is keys n k bucket low is)) (places_below keys k)

-- what runs up and what runs down of the half-edges there, each sorted, are its ways
pub bucket_sides : (es : List (ℕ × ℕ)) (key : ℕ → ℕ) (keys : List ℕ) (n k : ℕ) (bucket : List ℕ) (ups downs : List Half) → AreKeys es key keys → k < n →
    IsBucket keys n k bucket → IsSortOf (filter runs_up (map (half_of es) bucket)) ups
    → IsSortOf (filter runs_up (map turned (map (half_of es) bucket))) downs → AreWays es key k ups downs
bucket_sides es key keys n k bucket ups downs are low is first second =
    let at = bucket_is keys n k bucket low is in
    record {
      ups_sorted = subst (λ l. IsSortOf l ups) (ap (λ b. filter runs_up (map (half_of es) b)) at ∙ key_ups es key keys k are) first;
      downs_sorted = subst (λ l. IsSortOf l downs) (ap (λ b. filter runs_up (map turned (map (half_of es) b))) at ∙ key_downs es key keys k are) second;
    }
