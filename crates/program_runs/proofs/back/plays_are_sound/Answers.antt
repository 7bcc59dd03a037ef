use Rattle.program_runs.proofs.back.plays_are_sound.Goals as goal

pub returns : goal.returns
returns c = record {
  mesh_back = c.plays_are_readable.ensures.mesh_back;
  back = c.plays_are_readable.ensures.back;
  held = c.plays_are_readable.ensures.held;
  stl = c.plays_are_readable.ensures.stl;
  results = c.plays_give_results.ensures.results;
  geometric = c.plays_give_results.ensures.geometric;
  remeshed = c.plays_give_results.ensures.remeshed;
  inspected = c.plays_give_results.ensures.inspected;
}
