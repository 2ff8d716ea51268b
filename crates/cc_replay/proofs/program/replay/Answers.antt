use Rattle.cc_replay.proofs.program.replay.Goals as goal

-- registers that note nothing hold their keys
pub answer_input-requires-clause-keys : goal.answer_input-requires-clause-keys
answer_input-requires-clause-keys g c = c.in-Ok-new.ensures.keys c.in-Ok.heaps
