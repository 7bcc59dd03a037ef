use Rattle.script_lang.proofs.reading.Reading.step_of_words.Goals as goal

pub returns-in-Polygon-clause-step : goal.returns-in-Polygon-clause-step
returns-in-Polygon-clause-step c = rw c.in-Polygon.is (c.polygon_step.ensures.step c.args.self.now)

pub returns-in-Polygon-clause-fault : goal.returns-in-Polygon-clause-fault
returns-in-Polygon-clause-fault c = rw c.in-Polygon.is (c.polygon_step.ensures.fault c.args.self.now)
