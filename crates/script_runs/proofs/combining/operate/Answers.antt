use Rattle.script_runs.proofs.combining.operate.Goals as goal

pub returns-in-Grid : goal.returns-in-Grid
returns-in-Grid g c = rw c.in-Grid.is (record {
  meets = c.operate_under.ensures.meets;
  outcome = c.operate_under.ensures.outcome;
  halts = c.operate_under.ensures.halts;
  cost = c.operate_under.ensures.cost;
})

pub returns-in-Exact : goal.returns-in-Exact
returns-in-Exact g c = rw c.in-Exact.is (record {
  meets = c.operate_under-in-Exact.ensures.meets;
  outcome = c.operate_under-in-Exact.ensures.outcome;
  halts = c.operate_under-in-Exact.ensures.halts;
  cost = c.operate_under-in-Exact.ensures.cost;
})
