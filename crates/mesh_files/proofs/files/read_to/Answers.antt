use Rattle.std.proofs.Common.{◌∙◌, ap, sym, subst, IsTrue, Bool, arith}
use Rattle.std.proofs.lemmas.Result.{err_from_is_err_and}
use Rattle.run_terms.specs.Files.{text_of, Files}
use Rattle.mb_outside.specs.Seen.{OnShelf}
use Rattle.mesh_files.specs.ReadPieces.{ReadsOn}
use Rattle.mesh_files.proofs.FilesEnded.{met_from}
use Rattle.mesh_files.proofs.FileTexts.{reads_on, all_of}
use Rattle.mesh_files.proofs.files.read_to.Goals as goal

pub loop-have-preserved : goal.loop-have-preserved
loop-have-preserved g c =
    let inv = c.loop-have.invariant in
    let e = c.in_ok-count.ensures in
    let P : Bool → Type 0 = λ b. IsTrue b in
    let told = ap (λ (on : OnShelf). on.tells) inv.same in
    let old = c.loop-have.bytes.items in
    let new = c.read_some.new.bytes.items in
    let Q : Files → Type 0 = λ f. ReadsOn (text_of (f c.args.name.now)) c.loop-have.have c.in_ok-count.count old new in
    record {
      within = omega (arith, e.within, inv.room);
      room = e.length ∙ inv.room;
      same = e.same ∙ inv.same;
      files = e.left.files ∙ inv.files;
      bytes = λ t. reads_on _ old new c.loop-have.have c.in_ok-count.count (subst Q inv.files (e.bytes (subst P (sym told) t))) (inv.bytes t);
      stated = e.left.stated ∙ inv.stated;
      spare = e.left.spare ∙ inv.spare;
    }

pub returns-in_err-count-clause-meets : goal.returns-in_err-count-clause-meets
returns-in_err-count-clause-meets g c =
    let p = err_from_is_err_and c.from_residual-in_err-count.result c.from_residual-in_err-count.ensures.1 in
    rw (p.1, p.2) (met_from c.args.limits.now c.args.name.now _ _ _ _ c.loop-have.invariant.same (c.in_err-count.ensures.meets c.args.limits.now))

pub returns-clause-bytes : goal.returns-clause-bytes
returns-clause-bytes g c t =
    let inv = c.loop-have.invariant in
    all_of _ c.loop-have.bytes.items c.loop-have.have c.args.size (omega (arith, inv.room, c.loop-have.bytes.ok.0)) (c.requires.size t) c.loop-have-test.false (inv.bytes t)
