use Rattle.play_terms.specs.Words.{command}
use Rattle.program_runs.proofs.WritesBack.{few_digits, gives_geometric, gives_results, remeshes}
use Rattle.program_runs.proofs.back.plays_give_results.Goals as goal

pub returns : goal.returns
returns c = record {
  results = gives_results c.args.limits.now (command c.args.words.now) c.file_bytes.ensures.lawful (few_digits c.args.words.now) c.operations_are_results.ensures.scripts;
  geometric = gives_geometric c.args.limits.now (command c.args.words.now) c.file_bytes.ensures.lawful (few_digits c.args.words.now) c.operations_are_geometric.ensures.scripts;
  remeshed = remeshes c.args.limits.now (command c.args.words.now) c.file_bytes.ensures.lawful (few_digits c.args.words.now) c.operations_are_results.ensures.remeshed;
  inspected = c.operations_are_results.ensures.inspected;
}
