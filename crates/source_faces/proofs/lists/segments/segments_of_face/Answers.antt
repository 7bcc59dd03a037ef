use Rattle.std.proofs.Common.{◌+◌, ◌-◌, ◌*◌, ◌++◌, ◌∙◌, map, ap, take, drop, subst, sym}
use Rattle.std.specs.List.{All}
use Rattle.std.proofs.lemmas.List.{take_rest}
use Rattle.edge_pairing.specs.Entries.{edge_of}
use Rattle.source_faces.specs.Entries.{entry_of}
use Rattle.source_faces.specs.ListParts.{CanBePaired, groups, half_entries, pairs_segments}
use Rattle.source_faces.proofs.FaceParts.{AreEnds, third_part, third_rest, whole_face}
use Rattle.source_faces.proofs.lists.segments.segments_of_face.Goals as goal

pub push_half-requires-3-clause-paired : goal.push_half-requires-3-clause-paired
push_half-requires-3-clause-paired c =
    let ss = c.args.stands.now in
    let ends : AreEnds ss c.list_end-first.result c.list_end-second.result c.list_end-third.result =
    record { one = c.list_end-first.ensures.value; two = c.list_end-second.ensures.value; three = c.list_end-third.ensures.value } in
    let part = third_part ss c.list_end-first.result c.list_end-second.result c.list_end-third.result ends in
    subst (λ h. CanBePaired c.args.points.now
    (half_entries c.args.side.now c.args.runs.now h
    (take (c.list_end-third.result - c.list_end-second.result) (drop c.list_end-second.result ss))))
    (sym (ap (λ n. n + 2) c.first_half-half.ensures.value))
    (subst (λ ts. CanBePaired c.args.points.now (half_entries c.args.side.now c.args.runs.now (3 * c.args.face + 2) ts)) (sym part)
    c.requires.paired.third)

pub push_pairs-requires : goal.push_pairs-requires
push_pairs-requires c =
    let ss = c.args.stands.now in
    let ends : AreEnds ss c.list_end-first.result c.list_end-second.result c.list_end-third.result =
    record { one = c.list_end-first.ensures.value; two = c.list_end-second.ensures.value; three = c.list_end-third.ensures.value } in
    let behind = take_rest ss c.list_end-third.result ∙ third_rest ss c.list_end-first.result c.list_end-second.result c.list_end-third.result ends in
    subst (λ ts. All (λ g. CanBePaired c.args.points.now (map entry_of g)) (groups ts)) (sym behind) c.requires.paired.pairs

pub returns : goal.returns
returns c =
    let ss = c.args.stands.now in
    let ends : AreEnds ss c.list_end-first.result c.list_end-second.result c.list_end-third.result =
    record { one = c.list_end-first.ensures.value; two = c.list_end-second.ensures.value; three = c.list_end-third.ensures.value } in
    let behind = take_rest ss c.list_end-third.result in
    whole_face c.args.side.now c.args.runs.now c.args.points.now c.args.face c.first_half-half.result c.list_end-first.result
    c.list_end-second.result c.list_end-third.result ss _
    (map edge_of c.push_half.new.segments.items) (map edge_of c.push_half-2.new.segments.items)
    (map edge_of c.push_half-3.new.segments.items) (map edge_of c.push_pairs.new.segments.items)
    c.first_half-half.ensures.value ends (ap (map edge_of) c.new-segments.ensures.items) c.in_ok-push_half.ensures
    c.in_ok-push_half-2.ensures c.in_ok-push_half-3.ensures
    (c.in_ok-push_pairs.ensures ∙ ap (λ ts. map edge_of c.push_half-3.new.segments.items ++ pairs_segments c.args.points.now ts) behind)
