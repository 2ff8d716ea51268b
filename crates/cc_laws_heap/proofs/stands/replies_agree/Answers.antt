use Rattle.cc_model.specs.Graph as graph
use Rattle.cc_model.specs.Heap as heap
use Rattle.cc_laws_heap.proofs.RepliesAlike.{refusal_of-alike, reply_if_taken-alike, objects-stand}
use Rattle.cc_laws_heap.proofs.stands.replies_agree.Goals as goal

pub returns-clause-refusals : goal.returns-clause-refusals
returns-clause-refusals c = λ h g d s. refusal_of-alike (heap.objects_of h) (graph.objects_of g) (objects-stand h g s) d

pub returns-clause-replies : goal.returns-clause-replies
returns-clause-replies c = λ h g d s. reply_if_taken-alike (heap.objects_of h) (graph.objects_of g) (objects-stand h g s) d
