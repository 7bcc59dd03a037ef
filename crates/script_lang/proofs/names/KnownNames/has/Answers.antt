use Rattle.std.proofs.Common.{◌∙◌, ap, sym}
use Rattle.std.specs.Option.{option_map}
use Rattle.play_terms.specs.Steps.{is_kind}
use Rattle.script_lang.specs.Names.{beside}
use Rattle.script_lang.proofs.NameKinds.{found}
use Rattle.script_lang.proofs.names.KnownNames.has.Goals as goal

pub returns-in-Some : goal.returns-in-Some
returns-in-Some c =
    let held = sym c.get.ensures.value ∙ ap (option_map (λ k. k.now)) c.in-Some.is in
    let there = sym (ap (option_map (λ k. k)) held) ∙ found (λ k. k) c.self.inside.kinds.entries c.args.text ∙ ap (λ names. beside names c.args.text.now) c.self.view_is in
    c.is_same.ensures ∙ ap (is_kind c.args.kind) there

pub returns-in-None : goal.returns-in-None
returns-in-None c =
    let held = sym c.get.ensures.value ∙ ap (option_map (λ k. k.now)) c.in-None.is in
    let there = sym (ap (option_map (λ k. k)) held) ∙ found (λ k. k) c.self.inside.kinds.entries c.args.text ∙ ap (λ names. beside names c.args.text.now) c.self.view_is in
    ap (is_kind c.args.kind) there
