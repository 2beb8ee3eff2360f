use Rattle.running.proofs.chain_thread.play_reorg.Goals as goal

pub returns-then-is_some-clause-outcome : goal.returns-then-is_some-clause-outcome
returns-then-is_some-clause-outcome g c = (c.deref_mut.result.now.chain, c.in_ok-outcome.ensures)

pub returns-clause-outcome : goal.returns-clause-outcome
returns-clause-outcome g c = (c.deref_mut.result.now.chain, c.in_ok-outcome.ensures)
