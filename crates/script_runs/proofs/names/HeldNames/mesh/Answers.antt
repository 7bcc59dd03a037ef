use Rattle.std.proofs.Common.{◌∙◌, Some, ap, sym}
use Rattle.std.specs.Option.{option_map}
use Rattle.play_terms.specs.Plays.{mesh_held}
use Rattle.script_runs.specs.Held.{held_of}
use Rattle.script_runs.specs.Names.{named_in}
use Rattle.script_runs.proofs.Naming.{looked_up}
use Rattle.script_runs.proofs.names.HeldNames.mesh.Goals as goal

pub returns-in-Some-Mesh : goal.returns-in-Some-Mesh
returns-in-Some-Mesh c =
    let there = sym c.get.ensures.value ∙ ap (option_map (λ k. k.now)) c.in-Some-Mesh.is in
    let so = sym (ap (option_map held_of) there) ∙ looked_up c.self.inside.held.entries c.args.name ∙ ap (λ names. named_in names c.args.name.now) c.self.view_is in
    sym (ap (λ h. mesh_held (Some (held_of h))) c.in-Some-Mesh.field-0-is) ∙ ap mesh_held so

pub returns-in-Some-Outline : goal.returns-in-Some-Outline
returns-in-Some-Outline c =
    let there = sym c.get.ensures.value ∙ ap (option_map (λ k. k.now)) c.in-Some-Outline.is in
    let so = sym (ap (option_map held_of) there) ∙ looked_up c.self.inside.held.entries c.args.name ∙ ap (λ names. named_in names c.args.name.now) c.self.view_is in
    sym (ap (λ h. mesh_held (Some (held_of h))) c.in-Some-Outline.field-0-is) ∙ ap mesh_held so

pub returns-in-None : goal.returns-in-None
returns-in-None c =
    let there = sym c.get.ensures.value ∙ ap (option_map (λ k. k.now)) c.in-None.is in
    let so = sym (ap (option_map held_of) there) ∙ looked_up c.self.inside.held.entries c.args.name ∙ ap (λ names. named_in names c.args.name.now) c.self.view_is in
    ap mesh_held so
