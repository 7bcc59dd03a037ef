use Rattle.script_lang.proofs.reading.Reading.step_with.Goals as goal

pub returns-in-Load-clause-step : goal.returns-in-Load-clause-step
returns-in-Load-clause-step c = rw c.in-Load.is (c.load_step.ensures.step c.args.digits)

pub returns-in-Load-clause-fault : goal.returns-in-Load-clause-fault
returns-in-Load-clause-fault c = rw c.in-Load.is (c.load_step.ensures.fault c.args.digits)

pub returns-in-Save-clause-step : goal.returns-in-Save-clause-step
returns-in-Save-clause-step c = rw c.in-Save.is (c.save_step.ensures.step c.args.digits)

pub returns-in-Save-clause-fault : goal.returns-in-Save-clause-fault
returns-in-Save-clause-fault c = rw c.in-Save.is (c.save_step.ensures.fault c.args.digits)

pub returns-in-Measure-clause-step : goal.returns-in-Measure-clause-step
returns-in-Measure-clause-step c = rw c.in-Measure.is (c.measure_step.ensures.step c.args.digits)

pub returns-in-Measure-clause-fault : goal.returns-in-Measure-clause-fault
returns-in-Measure-clause-fault c = rw c.in-Measure.is (c.measure_step.ensures.fault c.args.digits)

pub returns-in-Inspect-clause-step : goal.returns-in-Inspect-clause-step
returns-in-Inspect-clause-step c = rw c.in-Inspect.is (c.inspect_step.ensures.step c.args.digits)

pub returns-in-Inspect-clause-fault : goal.returns-in-Inspect-clause-fault
returns-in-Inspect-clause-fault c = rw c.in-Inspect.is (c.inspect_step.ensures.fault c.args.digits)

pub returns-in-Combine-clause-step : goal.returns-in-Combine-clause-step
returns-in-Combine-clause-step c = rw c.in-Combine.is (c.combine_step.ensures.step c.args.digits)

pub returns-in-Combine-clause-fault : goal.returns-in-Combine-clause-fault
returns-in-Combine-clause-fault c = rw c.in-Combine.is (c.combine_step.ensures.fault c.args.digits)

pub returns-in-Make-clause-step : goal.returns-in-Make-clause-step
returns-in-Make-clause-step c = rw c.in-Make.is (c.solid_step.ensures.step c.args.self.now)

pub returns-in-Make-clause-fault : goal.returns-in-Make-clause-fault
returns-in-Make-clause-fault c = rw c.in-Make.is (c.solid_step.ensures.fault c.args.self.now)

pub returns-in-Tidy-clause-step : goal.returns-in-Tidy-clause-step
returns-in-Tidy-clause-step c = rw c.in-Tidy.is (c.tidy_step.ensures.step c.args.digits)

pub returns-in-Tidy-clause-fault : goal.returns-in-Tidy-clause-fault
returns-in-Tidy-clause-fault c = rw c.in-Tidy.is (c.tidy_step.ensures.fault c.args.digits)

pub returns-in-Remesh-clause-step : goal.returns-in-Remesh-clause-step
returns-in-Remesh-clause-step c = rw c.in-Remesh.is (c.remesh_step.ensures.step c.args.digits)

pub returns-in-Remesh-clause-fault : goal.returns-in-Remesh-clause-fault
returns-in-Remesh-clause-fault c = rw c.in-Remesh.is (c.remesh_step.ensures.fault c.args.digits)

pub returns-in-Combine2-clause-step : goal.returns-in-Combine2-clause-step
returns-in-Combine2-clause-step c = rw c.in-Combine2.is (c.combine2_step.ensures.step c.args.digits)

pub returns-in-Combine2-clause-fault : goal.returns-in-Combine2-clause-fault
returns-in-Combine2-clause-fault c = rw c.in-Combine2.is (c.combine2_step.ensures.fault c.args.digits)

pub returns-in-Extrude-clause-step : goal.returns-in-Extrude-clause-step
returns-in-Extrude-clause-step c = rw c.in-Extrude.is c.extrude_step.ensures.step

pub returns-in-Extrude-clause-fault : goal.returns-in-Extrude-clause-fault
returns-in-Extrude-clause-fault c = rw c.in-Extrude.is c.extrude_step.ensures.fault

pub returns-in-Exact-clause-step : goal.returns-in-Exact-clause-step
returns-in-Exact-clause-step c = rw c.in-Exact.is (c.exact_step.ensures.step c.args.digits)

pub returns-in-Exact-clause-fault : goal.returns-in-Exact-clause-fault
returns-in-Exact-clause-fault c = rw c.in-Exact.is (c.exact_step.ensures.fault c.args.digits)
