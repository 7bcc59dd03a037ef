use Rattle.std.proofs.Common.{◌≡◌, map, length, sym, ap, ◌∙◌, subst}
use Rattle.std.proofs.lemmas.Bool.{false≢true}
use Rattle.std.proofs.lemmas.Bool.Decides.{Decides-eqb}
use Rattle.std.proofs.lemmas.Slice.Eq.{slice_eq-Decides}
use Rattle.chain_terms.specs.Chains.{all_edges}
use Rattle.halfedge.specs.Clean.{IsClean}
use Rattle.mesh_terms.specs.Meshes.{triples_of}
use Rattle.mesh_terms.specs.Twins.{twins_of}
use Rattle.pinch_split.specs.Back.{named_by}
use Rattle.mesh_boolean.proofs.Audited.{named_closed, no}
use Rattle.mesh_boolean.proofs.Pairs.{is_clean_over}
use Rattle.mesh_boolean.proofs.auditing.clean.is_clean_over.Goals as goal

pub returns-then-not-branch : goal.returns-then-not-branch
returns-then-not-branch c =
    no (λ s. false≢true (sym c.if-not-branch.true ∙ c.in_ok-are_clean.ensures.1 (subst (λ l. IsClean (all_edges l)) (sym c.twins.ensures.triples) s.clean)))

pub closed_twins-requires-clause-closed : goal.closed_twins-requires-clause-closed
closed_twins-requires-clause-closed c =
    named_closed c.args.from.now c.args.mesh.now.triples (triples_of c.args.triples.now) c.requires.named c.twins.ensures.accepted.closed

pub returns : goal.returns
returns c =
    let ts = c.args.mesh.now.triples in
    let us = triples_of c.args.triples.now in
    let over : c.twins-3.result.now ≡ twins_of us = c.twins-3.ensures.value ∙ c.in_ok-twins.ensures in
    let own : c.twins-5.result.now ≡ twins_of ts = c.twins-5.ensures.value ∙ c.twins-4.ensures.twins.each in
    let named : map (named_by c.args.from.now) ts ≡ us = sym c.requires.named in
    let clean : IsClean (all_edges ts) = subst (λ l. IsClean (all_edges l)) c.twins.ensures.triples (c.in_ok-are_clean.ensures.0 c.if-not-branch.false) in
    let equal = slice_eq-Decides Decides-eqb c.twins-3.result.now c.twins-5.result.now c.eq.result c.eq.ensures in (
      (λ e. is_clean_over (length c.args.mesh.now.points) c.args.from.now ts us c.twins.ensures.accepted clean (sym own ∙ sym (equal.0 e) ∙ over) named),
      (λ s. equal.1 (over ∙ ap twins_of (sym named) ∙ sym s.twins ∙ sym own)),
    )
