use Rattle.command_words.proofs.clap_grammar.refusal.Goals as goal

-- want of memory is no refusal
pub returns-in-OutOfMemory-clause-told : goal.returns-in-OutOfMemory-clause-told
returns-in-OutOfMemory-clause-told c = tt

pub returns-in-OutOfMemory-clause-starved : goal.returns-in-OutOfMemory-clause-starved
returns-in-OutOfMemory-clause-starved c = c.in-OutOfMemory.is
