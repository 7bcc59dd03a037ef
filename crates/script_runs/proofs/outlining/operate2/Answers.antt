use Rattle.script_runs.proofs.outlining.operate2.Goals as goal

pub returns-in-Grid : goal.returns-in-Grid
returns-in-Grid c = rw c.in-Grid.is (record {
  meets = c.operate2_under.ensures.meets;
  outcome = c.operate2_under.ensures.outcome;
  halts = c.operate2_under.ensures.halts;
})

pub returns-in-Exact : goal.returns-in-Exact
returns-in-Exact c = rw c.in-Exact.is (record {
  meets = c.operate2_under-in-Exact.ensures.meets;
  outcome = c.operate2_under-in-Exact.ensures.outcome;
  halts = c.operate2_under-in-Exact.ensures.halts;
})
