use Rattle.std.proofs.Common.{◌≡◌, ℕ, ℤ, List, ap, ◌∙◌}
use Rattle.edge_pairing.specs.Entries.{ends_of, place_in, starts_of}
use Rattle.edge_pairing.specs.Pairing.{paired_along}
use Rattle.mb_base.specs.declared.results.Entry.{Entry}
use Rattle.source_faces.specs.ListParts.{half_entries}
use Rattle.source_faces.proofs.Pieces.{edges_more}
use Rattle.source_faces.proofs.lists.segments.push_half.Goals as goal

-- the same entries between the same points
along_same : (place : ℕ → List ℤ) (a a' b b' : List ℤ) (es es' : List Entry) → a ≡ a' → b ≡ b' → es ≡ es' →
    paired_along a b place (starts_of es) (ends_of es) ≡ paired_along a' b' place (starts_of es') (ends_of es')
along_same place a a' b b' es es' e f g =
    ap (λ x. paired_along x b place (starts_of es) (ends_of es)) e ∙ ap (λ x. paired_along a' x place (starts_of es) (ends_of es)) f
    ∙ ap (λ x. paired_along a' b' place (starts_of x) (ends_of x)) g

pub returns : goal.returns
returns c =
    let entries : c.deref.result.now ≡ half_entries c.args.side.now c.args.runs.now c.args.half c.args.stands.now =
    c.deref.ensures.value ∙ c.in_ok-entries.ensures in
    edges_more c.extend_from_slice.new.self.items c.args.segments.now.items c.deref-2.result.now c.in_ok-more.more.items _
    c.in_ok-extend_from_slice.ensures.items c.deref-2.ensures
    (c.in_ok-more.ensures.value ∙ along_same (place_in c.args.points.now) _ _ _ _ _ _ c.edge_ends-a.ensures.from c.edge_ends-a.ensures.to entries)
