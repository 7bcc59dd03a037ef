-- Entries that tell how numbers stand: their starts are the numbers above 0, their ends those below.
use Rattle.std.proofs.Common.{◌≡◌, ℕ, ◌<◌, Bool, true, false, ℤ, pos, List, map, filter, int_lt, refl, ap, subst, ◌∙◌}
use Rattle.std.specs.Prelude.{T}
use Rattle.std.specs.List.{Contains}
use Rattle.std.proofs.lemmas.Float.{T_from_true}
use Rattle.std.proofs.lemmas.Bool.{not-true}
use Rattle.chain_terms.specs.Sums.{upto}
use Rattle.chain_laws.proofs.Ascending.{ascending_is_filter}
use Rattle.mb_base.specs.declared.results.Entry.{Entry}
use Rattle.edge_pairing.specs.Entries.{chosen, is_chosen}
use Rattle.source_faces.specs.Agreement.{StandsAs}
use Rattle.source_faces.proofs.Members.{comes_from, filter_contains, kept, map_contains}
use Rattle.source_faces.proofs.Rising.{Rises, rises-filter, rises_ascends}

-- the entry of a number as a start or an end
abbrev pub entry : ℕ → Bool → Entry
entry v start = record { vertex = v; start = start }

-- entries in order that say of each number below n, and of no other, that it stands so
pub record Tell (n : ℕ) (number : ℕ → ℤ) (entries : List Entry) : Type 0 where
  pub end : ℕ
  pub rise : Rises 0 end (map (λ e. e.vertex) entries)
  pub each : (v : ℕ) (start : Bool) → v < n → StandsAs start (number v) → Contains entries (entry v start)
  pub only : (v : ℕ) (start : Bool) → Contains entries (entry v start) → (v < n) × StandsAs start (number v)

-- whether a number stands so
abbrev pub stands : Bool → ℤ → Bool
stands true z = int_lt (pos 0) z
stands false z = int_lt z (pos 0)

holds : (b : Bool) → T b → b ≡ true
holds true t = refl
holds false t = absurd t

pub stands_from : (start : Bool) (z : ℤ) → StandsAs start z → stands start z ≡ true
stands_from true z h = holds (int_lt (pos 0) z) h.lt
stands_from false z h = holds (int_lt z (pos 0)) h.lt

pub stands_back : (start : Bool) (z : ℤ) → stands start z ≡ true → StandsAs start z
stands_back true z h = record { lt = T_from_true (int_lt (pos 0) z) h }
stands_back false z h = record { lt = T_from_true (int_lt z (pos 0)) h }

-- an entry is chosen as what it is, and as nothing else
chosen_itself : (v : ℕ) (start : Bool) → is_chosen start (entry v start) ≡ true
chosen_itself v true = refl
chosen_itself v false = refl

chosen_is : (start : Bool) (e : Entry) → is_chosen start e ≡ true → e.start ≡ start
chosen_is true e y = y
chosen_is false e y = not-true e.start y

-- which numbers are chosen
into_chosen : (start : Bool) (entries : List Entry) (v : ℕ) → Contains entries (entry v start) → Contains (chosen start entries) v
into_chosen start entries v c =
    map_contains (λ (e : Entry). e.vertex) (filter (is_chosen start) entries) (entry v start)
    (filter_contains (is_chosen start) entries (entry v start) (chosen_itself v start) c)

from_chosen : (start : Bool) (entries : List Entry) (v : ℕ) → Contains (chosen start entries) v → Contains entries (entry v start)
from_chosen start entries v c =
    let r = comes_from (λ (e : Entry). e.vertex) (filter (is_chosen start) entries) v c in
    let k = kept (is_chosen start) entries r.from r.inside in
    let same : r.from ≡ entry v start =
    ap (λ w. entry w r.from.start) r.value ∙ ap (entry v) (chosen_is start r.from k.passes) in subst (Contains entries) same k.inside

-- those that entries tell, in order
pub told : (n : ℕ) (number : ℕ → ℤ) (entries : List Entry) (start : Bool) → Tell n number entries →
    chosen start entries ≡ filter (λ v. stands start (number v)) (upto n)
told n number entries start tell =
    ascending_is_filter (λ v. stands start (number v)) n (chosen start entries)
    (rises_ascends 0 tell.end (chosen start entries) (rises-filter (λ (e : Entry). e.vertex) (is_chosen start) 0 tell.end entries tell.rise))
    (λ v. (
      (λ c. let r = tell.only v start (from_chosen start entries v c) in (r.0, stands_from start (number v) r.1)),
      (λ h. into_chosen start entries v (tell.each v start h.0 (stands_back start (number v) h.1))),
    ))
