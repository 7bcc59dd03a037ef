use Rattle.play_terms.proofs.Soundness.{script_sound}
use Rattle.script_lang.proofs.read_script.Goals as goal

pub into_script-requires : goal.into_script-requires
into_script-requires c = script_sound c.args.digits c.args.bytes.now c.in-Ok.reading c.in-Ok.ensures.read
