-- The entries of a pair's list tell how all copies stand in it.
use Rattle.std.proofs.Common.{ℕ, ◌+◌, ◌<◌, inl, inr, Bool, List, map, length, get_or, arith}
use Rattle.std.specs.List.{Contains}
use Rattle.chain_terms.specs.Chains.{all_edges}
use Rattle.mb_base.specs.declared.results.Entry.{Entry}
use Rattle.side_terms.specs.Sides.{Side}
use Rattle.side_terms.specs.Lists.{Copy, ListName, incidence, no_copy, standing}
use Rattle.source_faces.specs.Agreement.{StandsAs}
use Rattle.source_faces.proofs.FaceRecords.{TellHits}
use Rattle.source_faces.proofs.ListKinds.{IsPair}
use Rattle.source_faces.proofs.Rising.{rises_lower}
use Rattle.source_faces.proofs.Signs.{no_side}
use Rattle.source_faces.proofs.Told.{Tell, entry}

pub pair_tells : (p q : Side) (cs : List Copy) (k : ℕ) (name : ListName) (hits : List Entry) → IsPair p q name →
    TellHits (all_edges p.triples) (all_edges q.triples) cs k name hits →
    Tell (length cs) (λ v. standing (all_edges p.triples) (all_edges q.triples) name (get_or cs v no_copy)) hits
pair_tells p q cs k name hits pair told = record {
  end = k + length cs;
  rise = rises_lower 0 k (k + length cs) (map (λ e. e.vertex) hits) (omega arith) told.rise;
  each = each p q cs k name hits pair told;
  only = told.only;
}
  where
    each : (p q : Side) (cs : List Copy) (k : ℕ) (name : ListName) (hits : List Entry) → IsPair p q name →
        TellHits (all_edges p.triples) (all_edges q.triples) cs k name hits → (v : ℕ) (start : Bool) → v < length cs →
        StandsAs start (standing (all_edges p.triples) (all_edges q.triples) name (get_or cs v no_copy)) → Contains hits (entry v start)
    each p q cs k name hits pair told v start low so =
        let c = get_or cs v no_copy in
        elim (pair.kinds c.origin) as (λ _. Contains hits (entry v start)) [
          | inl hit ↦ told.each v start low hit so
          | inr none ↦ absurd (no_side c.negative start (incidence (all_edges p.triples) (all_edges q.triples) name c.origin) none so)
        ]
