-- The half-edges of a chain in buckets by their lesser ends: in each bucket those that run up, and those that run down, turned.
use Rattle.std.specs.Prelude.{◌≡◌, ◌≢◌, ◌↔◌, ℕ, ◌<◌, ◌≤◌, ◌%◌, List, Bool, IsTrue, cond, ◌==◌, ◌&&◌, nat_lt, length, get_or}
use Rattle.std.specs.List.{filter}
use Rattle.chain_terms.specs.Chains.{dir}
use Rattle.chain_terms.specs.Odd.{backward}
use Rattle.chain_terms.specs.Ranks.{start, finish, twin}
use Rattle.halfedge.specs.Pairing.{Half, numbered, ends, half_at, IsSortOf}

-- the half-edge at a place, with its ends
abbrev pub half_of : List (ℕ × ℕ) → ℕ → Half
half_of es h = (start es h, finish es h, h)

-- the lesser end of an edge, and of the edge at a place
abbrev pub lesser_end : ℕ × ℕ → ℕ
lesser_end e = cond (nat_lt e.0 e.1) e.0 e.1

abbrev pub lesser_end_at : List (ℕ × ℕ) → ℕ → ℕ
lesser_end_at es h = lesser_end (start es h, finish es h)

-- no edge runs from a vertex to itself
abbrev pub EndsDiffer : List (ℕ × ℕ) → Type 0
EndsDiffer es = (h : ℕ) → h < length es → start es h ≢ finish es h

-- which of n buckets an edge lies in
abbrev pub bucket_of : ℕ → ℕ × ℕ → ℕ
bucket_of n e = lesser_end e % n

-- the half-edge runs from a lesser vertex to a greater one
abbrev pub runs_up : Half → Bool
runs_up h = nat_lt h.0 h.1

-- the edge runs up, and its start has key k
abbrev pub edge_lies_in : (ℕ → ℕ) → ℕ → ℕ × ℕ → Bool
edge_lies_in key k e = nat_lt e.0 e.1 && (key e.0 == k)

-- the half-edge does
abbrev pub lies_in : (ℕ → ℕ) → ℕ → Half → Bool
lies_in key k h = edge_lies_in key k (ends h)

-- the half-edges of bucket k that run up, and those that run down, turned, each sorted
pub record AreWays (es : List (ℕ × ℕ)) (key : ℕ → ℕ) (k : ℕ) (ups downs : List Half) : Type 0 where
  pub ups_sorted : IsSortOf (filter (lies_in key k) (numbered 0 es)) ups
  pub downs_sorted : IsSortOf (filter (lies_in key k) (numbered 0 (backward es))) downs

-- at each place of two lists stand two half-edges of which each is the other's partner
pub record ArePartners (partner : ℕ → ℕ) (ups downs : List Half) : Type 0 where
  pub there : (i : ℕ) → i < length ups → half_at downs i ≡ partner (half_at ups i)
  pub back : (i : ℕ) → i < length ups → half_at ups i ≡ partner (half_at downs i)

-- the half-edges of both lists have got their partners, and those that had theirs have kept them
pub record AreWritten (partner : ℕ → ℕ) (ups downs : List Half) (old new : List ℕ) : Type 0 where
  pub up : (i : ℕ) → i < length ups → get_or new (half_at ups i) 0 ≡ partner (half_at ups i)
  pub down : (i : ℕ) → i < length downs → get_or new (half_at downs i) 0 ≡ partner (half_at downs i)
  pub kept : (h : ℕ) → get_or old h 0 ≡ partner h → get_or new h 0 ≡ partner h

-- the half-edges of the first k buckets have their twins, and run as often one way as back; and a mark says whether no two of them run the same way
pub record ArePaired (es : List (ℕ × ℕ)) (key : ℕ → ℕ) (k : ℕ) (twins : List ℕ) (single : Bool) : Type 0 where
  pub full : length twins ≡ length es
  pub up : (h : ℕ) → h < length es → start es h < finish es h → key (start es h) < k → get_or twins h 0 ≡ twin es h
  pub down : (h : ℕ) → h < length es → finish es h < start es h → key (finish es h) < k → get_or twins h 0 ≡ twin es h
  pub even : (a b : ℕ) → a < b → key a < k → dir es a b ≡ dir es b a
  pub alone : IsTrue single ↔ ((a b : ℕ) → a < b → key a < k → dir es a b ≤ 1)
