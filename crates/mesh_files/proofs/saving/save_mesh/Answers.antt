use Rattle.std.proofs.Common.{IsTrue, Bool, ℕ, subst, sym, inr, refl, ap, [], Option, length, ◌∙◌}
use Rattle.run_terms.specs.Files.{Bytes, Grew}
use Rattle.mesh_files.proofs.Ended.{unwritten, written_whole}
use Rattle.mesh_files.proofs.Saved.{begun_files, begun_in_part, written_after}
use Rattle.mesh_files.proofs.Spares.{spare_kept}
use Rattle.mesh_files.specs.Pieces.{spare_after}
use Rattle.mesh_files.proofs.saving.save_mesh.Goals as goal

pub returns-in_default-clause-meets : goal.returns-in_default-clause-meets
returns-in_default-clause-meets g c =
    let e = c.in_default.ensures in
    unwritten c.args.digits c.args.name.now c.args.mesh.now.points c.args.mesh.now.triples c.args.mesh.now.labels _ _ e.told e.reads e.short
    (record { later = e.writes.later; rose = e.writes.failed refl })
    (λ told. begun_in_part c.args.name.now _ _ _ (e.kept told) (e.others told))

pub returns-in_default-append_text-clause-meets : goal.returns-in_default-append_text-clause-meets
returns-in_default-append_text-clause-meets g c =
    let P : Bool → Type 0 = λ b. IsTrue b in
    let begun = c.in-Ok.ensures in
    let e = c.in_default-append_text.ensures in
    let Q : ℕ → Type 0 = λ before. Grew before (g.S.Shelf.write_faults c.append_text.new.shelf) in
    unwritten c.args.digits c.args.name.now c.args.mesh.now.points c.args.mesh.now.triples c.args.mesh.now.labels _ _ (e.told ∙ begun.told)
    (e.reads ∙ begun.reads) (e.short ∙ begun.short)
    (subst Q (begun.writes.ok refl) (record { later = e.writes.later; rose = e.writes.failed refl }))
    (λ told.
    let mid = subst P (sym begun.told) told in
    inr (e.part.part, e.part.first, written_after c.args.name.now e.part.part _ _ _ (e.part.holds mid) (begun.others told) (e.others mid)))

pub returns-clause-meets : goal.returns-clause-meets
returns-clause-meets g c =
    let P : Bool → Type 0 = λ b. IsTrue b in
    let begun = c.in-Ok.ensures in
    let e = c.in-Ok-append_text.ensures in
    written_whole c.args.digits c.args.name.now c.args.mesh.now.points c.args.mesh.now.triples c.args.mesh.now.labels _ _ (e.told ∙ begun.told)
    (e.reads ∙ begun.reads) (e.short ∙ begun.short) (e.writes.ok refl ∙ begun.writes.ok refl)
    (λ told. let mid = subst P (sym begun.told) told in written_after c.args.name.now _ _ _ _ (e.text mid) (begun.others told) (e.others mid))

pub append_text-requires : goal.append_text-requires
append_text-requires g c =
    let P : Bool → Type 0 = λ b. IsTrue b in
    record { digits = c.requires; empty = λ told. c.in-Ok.ensures.empty (subst P c.in-Ok.ensures.told told) }

pub returns-in_default-clause-sure : goal.returns-in_default-clause-sure
returns-in_default-clause-sure g c has = c.in_default.ensures.sure has.0 has.1

pub returns-in_default-append_text-clause-sure : goal.returns-in_default-append_text-clause-sure
returns-in_default-append_text-clause-sure g c has = c.in_default-append_text.ensures.sure (has.0, c.in-Ok.ensures.spare ∙ has.1, has.2)

pub returns-in_default-clause-part : goal.returns-in_default-clause-part
returns-in_default-clause-part g c =
    let e = c.in_default.ensures in
    record {
      part = [];
      first = (_, refl);
      files = λ told. begun_files c.args.name.now _ _ (e.kept told) (e.others told);
      spare = e.spare ∙ spare_kept c.args.name.now _;
    }

pub returns-in_default-append_text-clause-part : goal.returns-in_default-append_text-clause-part
returns-in_default-append_text-clause-part g c =
    let P : Bool → Type 0 = λ b. IsTrue b in
    let begun = c.in-Ok.ensures in
    let e = c.in_default-append_text.ensures in
    record {
      part = e.part.part;
      first = e.part.first;
      files = λ told. let mid = subst P (sym begun.told) told in
          inr (written_after c.args.name.now e.part.part _ _ _ (e.part.holds mid) (begun.others told) (e.others mid));
      spare = e.part.spare ∙ ap (λ (s : Option (Bytes × ℕ)). spare_after c.args.name.now (length e.part.part) s) begun.spare;
    }
