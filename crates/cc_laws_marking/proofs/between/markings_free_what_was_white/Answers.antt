use Rattle.cc_laws_marking.proofs.GoingOn.{goes-on, white-freed, reached-spared}
use Rattle.cc_laws_marking.proofs.between.markings_free_what_was_white.Goals as goal

pub returns-clause-freed : goal.returns-clause-freed
returns-clause-freed c = λ h k g f m answered x s made t on there white. white-freed h g s made t answered k f m on x there white

pub returns-clause-spared : goal.returns-clause-spared
returns-clause-spared c = λ h k g f m answered x s made t on reached. reached-spared h g s made t answered k f m on x reached

pub returns-clause-sound : goal.returns-clause-sound
returns-clause-sound c = λ h k g f m answered s made t on. (goes-on h g s made t answered k f m on).sound

pub returns-clause-stands : goal.returns-clause-stands
returns-clause-stands c = λ h k g f m answered s made t on. (goes-on h g s made t answered k f m on).stands

pub returns-clause-under : goal.returns-clause-under
returns-clause-under c = λ h k g f m answered s made t on. let o = goes-on h g s made t answered k f m on in (o.under, o.so_far)

pub returns-clause-lists : goal.returns-clause-lists
returns-clause-lists c = λ h k g f m answered s made t on. (goes-on h g s made t answered k f m on).lists
