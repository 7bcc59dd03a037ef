-- Stars as they are kept: a vector for each vertex.
use Rattle.std.proofs.Common.{◌≡◌, ◌+◌, ◌<◌, ℕ, List, [], ◌∷◌, ◌++◌, Vec, Global, Ok, Err, map, length, get_or, set, sym, ap, ◌∙◌, arith}
use Rattle.std.specs.Prelude.{Result, OnErr}
use Rattle.std.proofs.lemmas.List.{get_or-map, length-map, length_push, map-set, map_push, set-get_or}
use Rattle.chain_terms.specs.Sums.{upto}
use Rattle.chain_laws.proofs.Places.{upto_more}
use Rattle.mesh_tidy.specs.Stars.{star_of, stars_of}

-- what the vectors hold
abbrev pub held : List (Vec ℕ Global) → List (List ℕ)
held lists = map (λ (v : Vec ℕ Global). v.items) lists

module _ (lists : List (Vec ℕ Global)) (old : List (List ℕ)) (seen : held lists ≡ old) where
  -- what is read at a vertex
  pub read_at : (v : ℕ) (x : Vec ℕ Global) → v < length old → x ≡ get_or lists v x → x.items ≡ get_or old v []
  read_at v x low is =
      let within : v < length lists = omega (arith, low, ap length seen, length-map lists (λ (y : Vec ℕ Global). y.items)) in
      ap (λ (y : Vec ℕ Global). y.items) is ∙ sym (get_or-map (λ (y : Vec ℕ Global). y.items) lists v x [] within) ∙ ap (λ s. get_or s v []) seen

  -- and after another vector is put there
  pub written_at : (v : ℕ) (x : Vec ℕ Global) (l : List ℕ) → x.items ≡ l → held (set lists v x) ≡ set old v l
  written_at v x l is = map-set (λ (y : Vec ℕ Global). y.items) lists v x ∙ (λ i. set (seen i) v (is i))

  -- one that holds the same
  pub same_at : (v : ℕ) (x : Vec ℕ Global) → x.items ≡ get_or old v [] → held (set lists v x) ≡ old
  same_at v x is = written_at v x (get_or old v []) is ∙ set-get_or old v []

-- what holds anyway holds after an error
pub on_err : {T E P : Type 0} (r : Result T E) → P → OnErr r P
on_err (Ok x) p = tt
on_err (Err e) p = p

-- one vector more, which holds nothing, for one vertex more
pub empty_more : (lists more : List (Vec ℕ Global)) (v : Vec ℕ Global) → more ≡ lists ++ v ∷ [] → v.items ≡ [] → held lists ≡ stars_of (length lists) [] →
    held more ≡ stars_of (length more) []
empty_more lists more v is none so_far =
    let count : length lists + 1 ≡ length more = omega (arith, ap length is, length_push lists v) in
    ap held is ∙ map_push (λ (y : Vec ℕ Global). y.items) lists v ∙ (λ i. so_far i ++ none i ∷ [])
    ∙ sym (map_push (star_of []) (upto (length lists)) (length lists)) ∙ ap (map (star_of [])) (sym (upto_more (length lists)))
    ∙ ap (λ n. stars_of n []) count
