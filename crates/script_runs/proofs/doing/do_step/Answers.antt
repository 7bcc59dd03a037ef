use Rattle.std.proofs.Common.{◌≡◌, Ok, ap, refl, subst, sym}
use Rattle.cross_section.proofs.Solids.{kept_32}
use Rattle.made_terms.specs.Making.{IsSolid}
use Rattle.made_terms.specs.declared.solid.Solid.TheVariants.{Prism, Tetra}
use Rattle.mb_outside.specs.Seen.{on_shelf, seen_of}
use Rattle.play_laws.proofs.Tasks.{meets_given}
use Rattle.play_terms.specs.Sound.{HasNumbers}
use Rattle.play_terms.specs.Steps.{Combine, Combine2, Inspect, Load, Measure, Remesh, Save, Tidy, new_name}
use Rattle.script_lang.specs.Steps.{step_of}
use Rattle.script_runs.specs.Names.{named_in}
use Rattle.script_runs.specs.Operations.{meanings}
use Rattle.script_runs.proofs.Known.{mesh_keeps, outline_keeps, taken_one, taken_two, unchanged_keeps}
use Rattle.script_runs.proofs.Steps.{between_with, counted, drawn_with, made_with, moved_with, same_prism, stepped, with_one, with_two, with_words}
use Rattle.script_runs.proofs.doing.do_step.Goals as goal

pub returns-in-Load-clause-meets : goal.returns-in-Load-clause-meets
returns-in-Load-clause-meets g c =
    let at = c.args.at.now in
    stepped (meanings at.kernels) at.digits at.limits.now at.script.now at.line (named_in c.args.names.now)
    (with_two Load (ap step_of c.in-Load.is) c.as_str.ensures c.as_str-in-Load.ensures) c.load.ensures.meets

pub returns-in-Save-clause-meets : goal.returns-in-Save-clause-meets
returns-in-Save-clause-meets g c =
    let at = c.args.at.now in
    stepped (meanings at.kernels) at.digits at.limits.now at.script.now at.line (named_in c.args.names.now)
    (with_two Save (ap step_of c.in-Save.is) c.as_str-in-Save.ensures c.as_str-in-Save-2.ensures) c.save.ensures.meets

pub returns-in-Measure-clause-meets : goal.returns-in-Measure-clause-meets
returns-in-Measure-clause-meets g c =
    let at = c.args.at.now in
    stepped (meanings at.kernels) at.digits at.limits.now at.script.now at.line (named_in c.args.names.now)
    (with_one Measure (ap step_of c.in-Measure.is) c.as_str-in-Measure.ensures) (c.measure_mesh.ensures.meets (on_shelf g.S.Shelf c.args.shelf.now))

pub returns-in-Inspect-clause-meets : goal.returns-in-Inspect-clause-meets
returns-in-Inspect-clause-meets g c =
    let at = c.args.at.now in
    stepped (meanings at.kernels) at.digits at.limits.now at.script.now at.line (named_in c.args.names.now)
    (with_one Inspect (ap step_of c.in-Inspect.is) c.as_str-in-Inspect.ensures) (c.inspect_mesh.ensures.meets at.kernels (on_shelf g.S.Shelf c.args.shelf.now))

pub returns-in-Combine-clause-meets : goal.returns-in-Combine-clause-meets
returns-in-Combine-clause-meets g c =
    let at = c.args.at.now in
    stepped (meanings at.kernels) at.digits at.limits.now at.script.now at.line (named_in c.args.names.now)
    (with_words Combine (ap step_of c.in-Combine.is) c.of-what.ensures.op c.of-what.ensures.name c.of-what.ensures.left c.of-what.ensures.right)
    (c.combine.ensures.meets (on_shelf g.S.Shelf c.args.shelf.now))

pub returns-in-MakeBox-clause-meets : goal.returns-in-MakeBox-clause-meets
returns-in-MakeBox-clause-meets g c =
    let at = c.args.at.now in
    stepped (meanings at.kernels) at.digits at.limits.now at.script.now at.line (named_in c.args.names.now)
    (made_with (ap step_of c.in-MakeBox.is) c.as_str-in-MakeBox.ensures refl)
    (c.make.ensures.meets (seen_of g.S.Shelf g.O.Sink c.args.shelf.now c.args.out.now))

pub returns-in-MakeTetra-clause-meets : goal.returns-in-MakeTetra-clause-meets
returns-in-MakeTetra-clause-meets g c =
    let at = c.args.at.now in
    let numbers : IsSolid (Tetra c.in-MakeTetra.corner c.in-MakeTetra.size) = subst HasNumbers (ap step_of c.in-MakeTetra.is) c.requires.numbers in
    let size = kept_32 c.in-MakeTetra.size numbers.1 in
    let solid = ap (λ z. Tetra c.in-MakeTetra.corner z) size in
    stepped (meanings at.kernels) at.digits at.limits.now at.script.now at.line (named_in c.args.names.now)
    (made_with (ap step_of c.in-MakeTetra.is) c.as_str-in-MakeTetra.ensures solid)
    (c.make-in-MakeTetra.ensures.meets (seen_of g.S.Shelf g.O.Sink c.args.shelf.now c.args.out.now))

pub returns-in-MakePrism-clause-meets : goal.returns-in-MakePrism-clause-meets
returns-in-MakePrism-clause-meets g c =
    let at = c.args.at.now in
    let prism = c.in-MakePrism in
    let numbers : IsSolid (Prism prism.corner prism.size prism.height) = subst HasNumbers (ap step_of prism.is) c.requires.numbers in
    let size = kept_32 prism.size numbers.1 in
    let height = kept_32 prism.height numbers.2 in
    let solid = same_prism prism.corner size height in
    stepped (meanings at.kernels) at.digits at.limits.now at.script.now at.line (named_in c.args.names.now)
    (made_with (ap step_of c.in-MakePrism.is) c.as_str-in-MakePrism.ensures solid)
    (c.make-in-MakePrism.ensures.meets (seen_of g.S.Shelf g.O.Sink c.args.shelf.now c.args.out.now))

pub returns-in-MakeLattice-clause-meets : goal.returns-in-MakeLattice-clause-meets
returns-in-MakeLattice-clause-meets g c =
    let at = c.args.at.now in
    stepped (meanings at.kernels) at.digits at.limits.now at.script.now at.line (named_in c.args.names.now)
    (made_with (ap step_of c.in-MakeLattice.is) c.as_str-in-MakeLattice.ensures refl)
    (c.make-in-MakeLattice.ensures.meets (seen_of g.S.Shelf g.O.Sink c.args.shelf.now c.args.out.now))

pub returns-in-Shift-clause-meets : goal.returns-in-Shift-clause-meets
returns-in-Shift-clause-meets g c =
    let at = c.args.at.now in
    stepped (meanings at.kernels) at.digits at.limits.now at.script.now at.line (named_in c.args.names.now)
    (moved_with (ap step_of c.in-Shift.is) c.as_str-in-Shift.ensures c.as_str-in-Shift-2.ensures)
    (c.move_mesh.ensures.meets (seen_of g.S.Shelf g.O.Sink c.args.shelf.now c.args.out.now))

pub returns-in-Scale-clause-meets : goal.returns-in-Scale-clause-meets
returns-in-Scale-clause-meets g c =
    let at = c.args.at.now in
    stepped (meanings at.kernels) at.digits at.limits.now at.script.now at.line (named_in c.args.names.now)
    (moved_with (ap step_of c.in-Scale.is) c.as_str-in-Scale.ensures c.as_str-in-Scale-2.ensures)
    (c.move_mesh-in-Scale.ensures.meets (seen_of g.S.Shelf g.O.Sink c.args.shelf.now c.args.out.now))

pub returns-in-Mirror-clause-meets : goal.returns-in-Mirror-clause-meets
returns-in-Mirror-clause-meets g c =
    let at = c.args.at.now in
    stepped (meanings at.kernels) at.digits at.limits.now at.script.now at.line (named_in c.args.names.now)
    (moved_with (ap step_of c.in-Mirror.is) c.as_str-in-Mirror.ensures c.as_str-in-Mirror-2.ensures)
    (c.move_mesh-in-Mirror.ensures.meets (seen_of g.S.Shelf g.O.Sink c.args.shelf.now c.args.out.now))

pub returns-in-Turn-clause-meets : goal.returns-in-Turn-clause-meets
returns-in-Turn-clause-meets g c =
    let at = c.args.at.now in
    stepped (meanings at.kernels) at.digits at.limits.now at.script.now at.line (named_in c.args.names.now)
    (moved_with (ap step_of c.in-Turn.is) c.as_str-in-Turn.ensures c.as_str-in-Turn-2.ensures)
    (c.move_mesh-in-Turn.ensures.meets (seen_of g.S.Shelf g.O.Sink c.args.shelf.now c.args.out.now))

pub returns-in-Tidy-clause-meets : goal.returns-in-Tidy-clause-meets
returns-in-Tidy-clause-meets g c =
    let at = c.args.at.now in
    stepped (meanings at.kernels) at.digits at.limits.now at.script.now at.line (named_in c.args.names.now)
    (with_two Tidy (ap step_of c.in-Tidy.is) c.as_str-in-Tidy.ensures c.as_str-in-Tidy-2.ensures)
    (c.tidy_mesh.ensures.meets (on_shelf g.S.Shelf c.args.shelf.now))

pub returns-in-Remesh-clause-meets : goal.returns-in-Remesh-clause-meets
returns-in-Remesh-clause-meets g c =
    let at = c.args.at.now in
    stepped (meanings at.kernels) at.digits at.limits.now at.script.now at.line (named_in c.args.names.now)
    (with_two Remesh (ap step_of c.in-Remesh.is) c.as_str-in-Remesh.ensures c.as_str-in-Remesh-2.ensures)
    (c.remesh_mesh.ensures.meets at.kernels (on_shelf g.S.Shelf c.args.shelf.now))

pub returns-in-Polygon-clause-meets : goal.returns-in-Polygon-clause-meets
returns-in-Polygon-clause-meets g c =
    let at = c.args.at.now in
    stepped (meanings at.kernels) at.digits at.limits.now at.script.now at.line (named_in c.args.names.now)
    (drawn_with (ap step_of c.in-Polygon.is) c.as_str-in-Polygon.ensures c.points.ensures)
    (c.polygon.ensures.meets (seen_of g.S.Shelf g.O.Sink c.args.shelf.now c.args.out.now))

pub returns-in-Combine2-clause-meets : goal.returns-in-Combine2-clause-meets
returns-in-Combine2-clause-meets g c =
    let at = c.args.at.now in
    stepped (meanings at.kernels) at.digits at.limits.now at.script.now at.line (named_in c.args.names.now)
    (with_words Combine2 (ap step_of c.in-Combine2.is) c.of-what-in-Combine2.ensures.op c.of-what-in-Combine2.ensures.name
    c.of-what-in-Combine2.ensures.left c.of-what-in-Combine2.ensures.right) (c.combine2.ensures.meets (on_shelf g.S.Shelf c.args.shelf.now))

pub returns-in-Extrude-clause-meets : goal.returns-in-Extrude-clause-meets
returns-in-Extrude-clause-meets g c =
    let at = c.args.at.now in
    let numbers = subst HasNumbers (ap step_of c.in-Extrude.is) c.requires.numbers in
    let low = kept_32 c.in-Extrude.low numbers.0 in
    let high = kept_32 c.in-Extrude.high numbers.1 in
    stepped (meanings at.kernels) at.digits at.limits.now at.script.now at.line (named_in c.args.names.now)
    (between_with (ap step_of c.in-Extrude.is) c.as_str-in-Extrude.ensures c.as_str-in-Extrude-2.ensures low high)
    (c.extrude_outline.ensures.meets at.kernels (on_shelf g.S.Shelf c.args.shelf.now))

pub returns-in-Exact-clause-meets : goal.returns-in-Exact-clause-meets
returns-in-Exact-clause-meets g c =
    let at = c.args.at.now in
    stepped (meanings at.kernels) at.digits at.limits.now at.script.now at.line (named_in c.args.names.now)
    ((ap step_of c.in-Exact.is))
    (meets_given (Ok (named_in c.args.names.now)) (named_in c.args.names.now) (seen_of g.S.Shelf g.O.Sink c.args.shelf.now c.args.out.now) refl)

pub returns-in-Load-clause-named : goal.returns-in-Load-clause-named
returns-in-Load-clause-named g c =
    mesh_keeps c.load.result (named_in c.args.names.now) (named_in c.load.new.names)
    (with_two Load (ap step_of c.in-Load.is) c.as_str.ensures c.as_str-in-Load.ensures) refl refl c.load.ensures.named

pub returns-in-Combine-clause-named : goal.returns-in-Combine-clause-named
returns-in-Combine-clause-named g c =
    mesh_keeps c.combine.result (named_in c.args.names.now) (named_in c.combine.new.names)
    (with_words Combine (ap step_of c.in-Combine.is) c.of-what.ensures.op c.of-what.ensures.name c.of-what.ensures.left c.of-what.ensures.right) refl
    refl c.combine.ensures.named

pub returns-in-MakeBox-clause-named : goal.returns-in-MakeBox-clause-named
returns-in-MakeBox-clause-named g c =
    mesh_keeps c.make.result (named_in c.args.names.now) (named_in c.make.new.names)
    (made_with (ap step_of c.in-MakeBox.is) c.as_str-in-MakeBox.ensures refl) refl refl c.make.ensures.named

pub returns-in-MakeTetra-clause-named : goal.returns-in-MakeTetra-clause-named
returns-in-MakeTetra-clause-named g c =
    let numbers : IsSolid (Tetra c.in-MakeTetra.corner c.in-MakeTetra.size) = subst HasNumbers (ap step_of c.in-MakeTetra.is) c.requires.numbers in
    let size = kept_32 c.in-MakeTetra.size numbers.1 in
    let solid = ap (λ z. Tetra c.in-MakeTetra.corner z) size in
    mesh_keeps c.make-in-MakeTetra.result (named_in c.args.names.now) (named_in c.make-in-MakeTetra.new.names)
    (made_with (ap step_of c.in-MakeTetra.is) c.as_str-in-MakeTetra.ensures solid) refl refl c.make-in-MakeTetra.ensures.named

pub returns-in-MakePrism-clause-named : goal.returns-in-MakePrism-clause-named
returns-in-MakePrism-clause-named g c =
    let prism = c.in-MakePrism in
    let numbers : IsSolid (Prism prism.corner prism.size prism.height) = subst HasNumbers (ap step_of prism.is) c.requires.numbers in
    let size = kept_32 prism.size numbers.1 in
    let height = kept_32 prism.height numbers.2 in
    let solid = same_prism prism.corner size height in
    mesh_keeps c.make-in-MakePrism.result (named_in c.args.names.now) (named_in c.make-in-MakePrism.new.names)
    (made_with (ap step_of c.in-MakePrism.is) c.as_str-in-MakePrism.ensures solid) refl refl c.make-in-MakePrism.ensures.named

pub returns-in-MakeLattice-clause-named : goal.returns-in-MakeLattice-clause-named
returns-in-MakeLattice-clause-named g c =
    mesh_keeps c.make-in-MakeLattice.result (named_in c.args.names.now) (named_in c.make-in-MakeLattice.new.names)
    (made_with (ap step_of c.in-MakeLattice.is) c.as_str-in-MakeLattice.ensures refl) refl refl c.make-in-MakeLattice.ensures.named

pub returns-in-Shift-clause-named : goal.returns-in-Shift-clause-named
returns-in-Shift-clause-named g c =
    mesh_keeps c.move_mesh.result (named_in c.args.names.now) (named_in c.move_mesh.new.names)
    (moved_with (ap step_of c.in-Shift.is) c.as_str-in-Shift.ensures c.as_str-in-Shift-2.ensures) refl refl c.move_mesh.ensures.named

pub returns-in-Scale-clause-named : goal.returns-in-Scale-clause-named
returns-in-Scale-clause-named g c =
    mesh_keeps c.move_mesh-in-Scale.result (named_in c.args.names.now) (named_in c.move_mesh-in-Scale.new.names)
    (moved_with (ap step_of c.in-Scale.is) c.as_str-in-Scale.ensures c.as_str-in-Scale-2.ensures) refl refl c.move_mesh-in-Scale.ensures.named

pub returns-in-Mirror-clause-named : goal.returns-in-Mirror-clause-named
returns-in-Mirror-clause-named g c =
    mesh_keeps c.move_mesh-in-Mirror.result (named_in c.args.names.now) (named_in c.move_mesh-in-Mirror.new.names)
    (moved_with (ap step_of c.in-Mirror.is) c.as_str-in-Mirror.ensures c.as_str-in-Mirror-2.ensures) refl refl c.move_mesh-in-Mirror.ensures.named

pub returns-in-Turn-clause-named : goal.returns-in-Turn-clause-named
returns-in-Turn-clause-named g c =
    mesh_keeps c.move_mesh-in-Turn.result (named_in c.args.names.now) (named_in c.move_mesh-in-Turn.new.names)
    (moved_with (ap step_of c.in-Turn.is) c.as_str-in-Turn.ensures c.as_str-in-Turn-2.ensures) refl refl c.move_mesh-in-Turn.ensures.named

pub returns-in-Tidy-clause-named : goal.returns-in-Tidy-clause-named
returns-in-Tidy-clause-named g c =
    mesh_keeps c.tidy_mesh.result (named_in c.args.names.now) (named_in c.tidy_mesh.new.names)
    (with_two Tidy (ap step_of c.in-Tidy.is) c.as_str-in-Tidy.ensures c.as_str-in-Tidy-2.ensures) refl refl c.tidy_mesh.ensures.named

pub returns-in-Remesh-clause-named : goal.returns-in-Remesh-clause-named
returns-in-Remesh-clause-named g c =
    mesh_keeps c.remesh_mesh.result (named_in c.args.names.now) (named_in c.remesh_mesh.new.names)
    (with_two Remesh (ap step_of c.in-Remesh.is) c.as_str-in-Remesh.ensures c.as_str-in-Remesh-2.ensures) refl refl c.remesh_mesh.ensures.named

pub returns-in-Polygon-clause-named : goal.returns-in-Polygon-clause-named
returns-in-Polygon-clause-named g c =
    outline_keeps c.polygon.result (named_in c.args.names.now) (named_in c.polygon.new.names)
    (drawn_with (ap step_of c.in-Polygon.is) c.as_str-in-Polygon.ensures c.points.ensures) refl refl c.polygon.ensures.named

pub returns-in-Combine2-clause-named : goal.returns-in-Combine2-clause-named
returns-in-Combine2-clause-named g c =
    outline_keeps c.combine2.result (named_in c.args.names.now) (named_in c.combine2.new.names)
    (with_words Combine2 (ap step_of c.in-Combine2.is) c.of-what-in-Combine2.ensures.op c.of-what-in-Combine2.ensures.name
    c.of-what-in-Combine2.ensures.left c.of-what-in-Combine2.ensures.right) refl refl c.combine2.ensures.named

pub returns-in-Extrude-clause-named : goal.returns-in-Extrude-clause-named
returns-in-Extrude-clause-named g c =
    let numbers = subst HasNumbers (ap step_of c.in-Extrude.is) c.requires.numbers in
    let low = kept_32 c.in-Extrude.low numbers.0 in
    let high = kept_32 c.in-Extrude.high numbers.1 in
    mesh_keeps c.extrude_outline.result (named_in c.args.names.now) (named_in c.extrude_outline.new.names)
    (between_with (ap step_of c.in-Extrude.is) c.as_str-in-Extrude.ensures c.as_str-in-Extrude-2.ensures low high) refl refl c.extrude_outline.ensures.named

pub returns-in-Exact-clause-named : goal.returns-in-Exact-clause-named
returns-in-Exact-clause-named g c =
    unchanged_keeps (step_of c.args.step.now) (named_in c.args.names.now) (ap new_name (ap step_of c.in-Exact.is))

pub returns-in-Combine-clause-cost : goal.returns-in-Combine-clause-cost
returns-in-Combine-clause-cost g c =
    counted (named_in c.args.names.now) _
    (with_words Combine (ap step_of c.in-Combine.is) c.of-what.ensures.op c.of-what.ensures.name c.of-what.ensures.left c.of-what.ensures.right) c.combine.ensures.cost

pub save-requires-clause-named : goal.save-requires-clause-named
save-requires-clause-named g c =
    taken_one (named_in c.args.names.now) (with_two Save (ap step_of c.in-Save.is) c.as_str-in-Save.ensures c.as_str-in-Save-2.ensures) refl c.requires.taken

pub measure_mesh-requires : goal.measure_mesh-requires
measure_mesh-requires g c =
    taken_one (named_in c.args.names.now) (with_one Measure (ap step_of c.in-Measure.is) c.as_str-in-Measure.ensures) refl c.requires.taken

pub inspect_mesh-requires-clause-named : goal.inspect_mesh-requires-clause-named
inspect_mesh-requires-clause-named g c =
    taken_one (named_in c.args.names.now) (with_one Inspect (ap step_of c.in-Inspect.is) c.as_str-in-Inspect.ensures) refl c.requires.taken

pub combine-requires-clause-left : goal.combine-requires-clause-left
combine-requires-clause-left g c =
    (taken_two (named_in c.args.names.now) (with_words Combine
    (ap step_of c.in-Combine.is) c.of-what.ensures.op c.of-what.ensures.name c.of-what.ensures.left c.of-what.ensures.right) refl c.requires.taken).0

pub combine-requires-clause-right : goal.combine-requires-clause-right
combine-requires-clause-right g c =
    (taken_two (named_in c.args.names.now) (with_words Combine
    (ap step_of c.in-Combine.is) c.of-what.ensures.op c.of-what.ensures.name c.of-what.ensures.left c.of-what.ensures.right) refl c.requires.taken).1

pub make-requires : goal.make-requires
make-requires g c =
    subst HasNumbers (ap step_of c.in-MakeBox.is) c.requires.numbers

pub make-requires-in-MakeTetra : goal.make-requires-in-MakeTetra
make-requires-in-MakeTetra g c =
    let numbers : IsSolid (Tetra c.in-MakeTetra.corner c.in-MakeTetra.size) = subst HasNumbers (ap step_of c.in-MakeTetra.is) c.requires.numbers in
    let size = kept_32 c.in-MakeTetra.size numbers.1 in
    let solid = ap (λ z. Tetra c.in-MakeTetra.corner z) size in
    subst IsSolid (sym solid) numbers

pub make-requires-in-MakePrism : goal.make-requires-in-MakePrism
make-requires-in-MakePrism g c =
    let prism = c.in-MakePrism in
    let numbers : IsSolid (Prism prism.corner prism.size prism.height) = subst HasNumbers (ap step_of prism.is) c.requires.numbers in
    let size = kept_32 prism.size numbers.1 in
    let height = kept_32 prism.height numbers.2 in
    let solid = same_prism prism.corner size height in
    subst IsSolid (sym solid) numbers

pub make-requires-in-MakeLattice : goal.make-requires-in-MakeLattice
make-requires-in-MakeLattice g c =
    subst HasNumbers (ap step_of c.in-MakeLattice.is) c.requires.numbers

pub move_mesh-requires-clause-source : goal.move_mesh-requires-clause-source
move_mesh-requires-clause-source g c =
    taken_one (named_in c.args.names.now) (moved_with (ap step_of c.in-Shift.is) c.as_str-in-Shift.ensures c.as_str-in-Shift-2.ensures) refl c.requires.taken

pub move_mesh-requires-clause-motion : goal.move_mesh-requires-clause-motion
move_mesh-requires-clause-motion g c =
    subst HasNumbers (ap step_of c.in-Shift.is) c.requires.numbers

pub move_mesh-requires-in-Scale-clause-source : goal.move_mesh-requires-in-Scale-clause-source
move_mesh-requires-in-Scale-clause-source g c =
    taken_one (named_in c.args.names.now) (moved_with (ap step_of c.in-Scale.is) c.as_str-in-Scale.ensures c.as_str-in-Scale-2.ensures) refl c.requires.taken

pub move_mesh-requires-in-Scale-clause-motion : goal.move_mesh-requires-in-Scale-clause-motion
move_mesh-requires-in-Scale-clause-motion g c =
    subst HasNumbers (ap step_of c.in-Scale.is) c.requires.numbers

pub move_mesh-requires-in-Mirror-clause-source : goal.move_mesh-requires-in-Mirror-clause-source
move_mesh-requires-in-Mirror-clause-source g c =
    taken_one (named_in c.args.names.now) (moved_with (ap step_of c.in-Mirror.is) c.as_str-in-Mirror.ensures c.as_str-in-Mirror-2.ensures) refl c.requires.taken

pub move_mesh-requires-in-Mirror-clause-motion : goal.move_mesh-requires-in-Mirror-clause-motion
move_mesh-requires-in-Mirror-clause-motion g c =
    subst HasNumbers (ap step_of c.in-Mirror.is) c.requires.numbers

pub move_mesh-requires-in-Turn-clause-source : goal.move_mesh-requires-in-Turn-clause-source
move_mesh-requires-in-Turn-clause-source g c =
    taken_one (named_in c.args.names.now) (moved_with (ap step_of c.in-Turn.is) c.as_str-in-Turn.ensures c.as_str-in-Turn-2.ensures) refl c.requires.taken

pub move_mesh-requires-in-Turn-clause-motion : goal.move_mesh-requires-in-Turn-clause-motion
move_mesh-requires-in-Turn-clause-motion g c =
    subst HasNumbers (ap step_of c.in-Turn.is) c.requires.numbers

pub tidy_mesh-requires : goal.tidy_mesh-requires
tidy_mesh-requires g c =
    taken_one (named_in c.args.names.now) (with_two Tidy (ap step_of c.in-Tidy.is) c.as_str-in-Tidy.ensures c.as_str-in-Tidy-2.ensures) refl c.requires.taken

pub remesh_mesh-requires : goal.remesh_mesh-requires
remesh_mesh-requires g c =
    taken_one (named_in c.args.names.now) (with_two Remesh (ap step_of c.in-Remesh.is) c.as_str-in-Remesh.ensures c.as_str-in-Remesh-2.ensures) refl
    c.requires.taken

pub polygon-requires : goal.polygon-requires
polygon-requires g c =
    rw c.points.ensures (subst HasNumbers (ap step_of c.in-Polygon.is) c.requires.numbers)

pub combine2-requires-clause-left : goal.combine2-requires-clause-left
combine2-requires-clause-left g c =
    (taken_two (named_in c.args.names.now) (with_words Combine2
    (ap step_of c.in-Combine2.is) c.of-what-in-Combine2.ensures.op c.of-what-in-Combine2.ensures.name
    c.of-what-in-Combine2.ensures.left c.of-what-in-Combine2.ensures.right) refl c.requires.taken).0

pub combine2-requires-clause-right : goal.combine2-requires-clause-right
combine2-requires-clause-right g c =
    (taken_two (named_in c.args.names.now) (with_words Combine2
    (ap step_of c.in-Combine2.is) c.of-what-in-Combine2.ensures.op c.of-what-in-Combine2.ensures.name
    c.of-what-in-Combine2.ensures.left c.of-what-in-Combine2.ensures.right) refl c.requires.taken).1

pub extrude_outline-requires-clause-source : goal.extrude_outline-requires-clause-source
extrude_outline-requires-clause-source g c =
    let numbers = subst HasNumbers (ap step_of c.in-Extrude.is) c.requires.numbers in
    let low = kept_32 c.in-Extrude.low numbers.0 in
    let high = kept_32 c.in-Extrude.high numbers.1 in
    taken_one (named_in c.args.names.now)
    (between_with (ap step_of c.in-Extrude.is) c.as_str-in-Extrude.ensures c.as_str-in-Extrude-2.ensures low high) refl c.requires.taken

pub extrude_outline-requires-clause-low : goal.extrude_outline-requires-clause-low
extrude_outline-requires-clause-low g c =
    let numbers = subst HasNumbers (ap step_of c.in-Extrude.is) c.requires.numbers in
    let low = kept_32 c.in-Extrude.low numbers.0 in
    let high = kept_32 c.in-Extrude.high numbers.1 in
    rw low numbers.0

pub extrude_outline-requires-clause-high : goal.extrude_outline-requires-clause-high
extrude_outline-requires-clause-high g c =
    let numbers = subst HasNumbers (ap step_of c.in-Extrude.is) c.requires.numbers in
    let low = kept_32 c.in-Extrude.low numbers.0 in
    let high = kept_32 c.in-Extrude.high numbers.1 in
    rw high numbers.1
