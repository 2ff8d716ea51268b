use Rattle.cc_laws_headline.proofs.EachExchange.{tells-of_a_graph}
use Rattle.cc_laws_headline.proofs.headline.lawful_transcripts_tell_of_a_graph.Goals as goal

pub returns : goal.returns
returns c = λ limits asks answers l q. tells-of_a_graph limits asks answers l q
