-- Lines that met their task.
use Rattle.std.proofs.Common.{◌≡◌, ◌++◌, [], ◌∷◌, length, codes, Result, Ok, Err, OnOk, OnErr, refl, ap, subst, sym, ◌∙◌, append_assoc, append-nil}
use Rattle.std.specs.Option.{option_map}
use Rattle.std.proofs.lemmas.Result.{on_err_weaker}
use Rattle.run_terms.specs.Files.{Bytes, Counts}
use Rattle.mb_outside.specs.Seen.{MeetsOnOutput, OutputMeets, OnOutput, on_output}
use Rattle.mb_outside.specs.Sinks.{AddsPart}
use Rattle.mb_outside.specs.declared.shelf.Failed.{Failed}
use Rattle.mb_outside.specs.declared.sink.Sink.{Ghosts as OfSink}
use Rattle.mb_outside.proofs.Adds.{adds_part}
use Rattle.play_terms.specs.Commands.{say_line}
use Rattle.play_terms.specs.Lines.{copied_line, counts_text}
use Rattle.mesh_terms.specs.Meshes.{Soup}
use Rattle.report_lines.specs.Reports.{said}
use Rattle.report_lines.specs.Taken.{Takes}

-- a line that was said, whole or in part
pub met : (line : Bytes) (before now : OnOutput) (r : Result (Unit {0}) Failed)
    → OnOk r (now.told ≡ option_map (λ held. held ++ line) before.told) → OnErr r (AddsPart line before.told now.told) → Counts before.faults now.faults r
    → OutputMeets (say_line line) before now (said r)
met line before now (Ok done) added part count on =
    record {
      tells = refl;
      faults = rw (count.ok refl) refl;
      does = λ told. record { gives = refl; all_done = rw added refl };
    }
met line before now (Err failed) added part count on =
    record {
      tells = refl;
      faults = (record { later = count.later; rose = count.failed refl }, refl, refl, refl);
      does = λ told. (line, record { whole = []; later = []; split = refl; part = (part.0, part.1, rw part.2 refl) });
    }

-- the same line, put together of parts
pub takes_as : {O : Type 0} (o : OfSink O) (line parts : Bytes) (old new : O) (r : Result (Unit {0}) Failed) → parts ≡ line
    → Takes o parts old new r → Takes o line old new r
takes_as o line parts old new r same takes = subst (λ l. Takes o l old new r) same takes

-- an output that took a line met its task
pub meets_by : {O : Type 0} (o : OfSink O) (line : Bytes) (old new : O) (r : Result (Unit {0}) Failed) → Takes o line old new r
    → MeetsOnOutput o (say_line line) old new (said r)
meets_by o line old new r takes = met line (on_output o old) (on_output o new) r takes.added (on_err_weaker r (adds_part line _ _ _ _) takes.part) takes.count

-- the parts of the line that reports a copy
pub copied_parts : (to tail : Bytes) (m : Soup) → tail ≡ counts_text (length m.points) (length m.triples) m.unused ++ codes "\n"
    → codes "copied " ++ (to ++ (tail ++ [])) ≡ copied_line to m
copied_parts to tail m is =
    ap (λ text. codes "copied " ++ (to ++ text)) (append-nil tail ∙ is)
    ∙ ap (λ text. codes "copied " ++ text) (sym (append_assoc to (counts_text (length m.points) (length m.triples) m.unused) (10 ∷ [])))
