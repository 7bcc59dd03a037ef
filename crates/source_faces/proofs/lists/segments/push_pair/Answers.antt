use Rattle.std.proofs.Common.{◌≡◌, ◌++◌, map, ap, ◌∙◌}
use Rattle.edge_pairing.specs.Entries.{ends_of, place_in, starts_of}
use Rattle.edge_pairing.specs.Pairing.{paired_across}
use Rattle.source_faces.specs.Entries.{entry_of}
use Rattle.source_faces.proofs.Pieces.{edges_more}
use Rattle.source_faces.proofs.lists.segments.push_pair.Goals as goal

pub returns : goal.returns
returns c =
    let entries : c.deref.result.now ≡ map entry_of c.args.stands.now =
    c.deref.ensures.value ∙ c.in_ok-push_stands.ensures ∙ ap (λ l. l ++ map entry_of c.args.stands.now) c.in_ok-entries.ensures.items in
    edges_more c.extend_from_slice.new.self.items c.args.segments.now.items c.deref-2.result.now c.in_ok-more.more.items _
    c.in_ok-extend_from_slice.ensures.items c.deref-2.ensures
    (c.in_ok-more.ensures.value ∙ ap (λ es. paired_across (place_in c.args.points.now) (starts_of es) (ends_of es)) entries)
