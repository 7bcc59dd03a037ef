-- The entries of a vertex's copies: they rise, and are exactly those copies.
use Rattle.std.proofs.Common.{◌≡◌, ℕ, ◌+◌, ◌<◌, ◌≤◌, Bool, not, cond, ℤ, List, map, length, get_or, sym, ap, subst, ◌∙◌, arith}
use Rattle.std.specs.List.{Contains}
use Rattle.std.proofs.lemmas.Simd.{map-map}
use Rattle.std.proofs.lemmas.List.{map-id}
use Rattle.chain_terms.specs.Sums.{up_from}
use Rattle.mb_base.specs.declared.results.Entry.{Entry}
use Rattle.mb_base.specs.declared.results.Origin.{Origin}
use Rattle.side_terms.specs.Lists.{Copy, no_copy}
use Rattle.source_faces.specs.declared.lists.runs.CopyRange.{CopyRange}
use Rattle.source_faces.specs.Agreement.{IsRunOf}
use Rattle.source_faces.specs.Entries.{run_entries}
use Rattle.source_faces.proofs.Members.{comes_from, in_up_from, map_contains, up_from_contains}
use Rattle.source_faces.proofs.Rising.{Rises, rises-up_from}
use Rattle.source_faces.proofs.Told.{entry}

-- whether a copy that is prescribed a negative number of times or not is a start
abbrev pub side_of : Bool → Bool → Bool
side_of at_start negative = cond at_start (not negative) negative

-- they rise
vertices : (r : CopyRange) (at_start : Bool) → map (λ e. e.vertex) (run_entries r at_start) ≡ up_from r.first r.count
vertices r at_start =
    map-map (λ (e : Entry). e.vertex) (λ v. entry v (side_of at_start r.negative)) (up_from r.first r.count) ∙ map-id (up_from r.first r.count)

pub run_rises : (r : CopyRange) (at_start : Bool) → Rises r.first (r.first + r.count) (map (λ e. e.vertex) (run_entries r at_start))
run_rises r at_start = subst (Rises r.first (r.first + r.count)) (sym (vertices r at_start)) (rises-up_from r.first r.count)

-- a copy of this origin is one of them
pub run_each : (cs : List Copy) (o : Origin) (at : List ℤ) (r : CopyRange) → IsRunOf cs o at r → (at_start : Bool) (v : ℕ) → v < length cs →
    (get_or cs v no_copy).origin ≡ o →
    Contains (run_entries r at_start) (entry v (side_of at_start (get_or cs v no_copy).negative))
run_each cs o at r run at_start v low same =
    let within = (run.there v low).0 same in
    let made : ℕ → Entry = λ w. entry w (side_of at_start r.negative) in
    subst (λ b. Contains (run_entries r at_start) (entry v (side_of at_start b))) (sym (run.signed v within.0 within.1))
    (map_contains made (up_from r.first r.count) v (up_from_contains r.first r.count v within.0 within.1))

-- and they are nothing else
pub record IsCopyOf (cs : List Copy) (o : Origin) (at_start : Bool) (v : ℕ) (start : Bool) : Type 0 where
  pub below : v < length cs
  pub origin : (get_or cs v no_copy).origin ≡ o
  pub stands : start ≡ side_of at_start (get_or cs v no_copy).negative

pub run_only : (cs : List Copy) (o : Origin) (at : List ℤ) (r : CopyRange) → IsRunOf cs o at r → (at_start : Bool) (v : ℕ) (start : Bool) →
    Contains (run_entries r at_start) (entry v start) → IsCopyOf cs o at_start v start
run_only cs o at r run at_start v start c =
    let found = comes_from (λ w. entry w (side_of at_start r.negative)) (up_from r.first r.count) (entry v start) c in
    let range = in_up_from r.first r.count found.from found.inside in
    let same : found.from ≡ v = ap (λ (e : Entry). e.vertex) found.value in
    let low : r.first ≤ v = omega (arith, range.low, same) in
    let high : v < r.first + r.count = omega (arith, range.high, same) in
    let below : v < length cs = omega (arith, high, run.within) in
    record {
      below = below;
      origin = (run.there v below).1 (low, high);
      stands = sym (ap (λ (e : Entry). e.start) found.value) ∙ ap (side_of at_start) (sym (run.signed v low high));
    }
