-- WRONG PATHS: transcripts whose last answer has one fault in how it says that an object is alive.
use Rattle.std.specs.Prelude.{ℕ, List, [], ◌∷◌, Some, None, codes}
use Rattle.cc_names.specs.declared.register.Reg.TheVariants.{N, S}
use Rattle.cc_names.specs.Names.{native, object, reflector}
use Rattle.cc_model.specs.declared.item.Refusal.TheVariants.{Line, Empty, NoMemory}
use Rattle.cc_model.specs.declared.item.Reason.TheVariants.{Root, Edge, Pair}
use Rattle.cc_model.specs.declared.item.Reply.TheVariants.{Done, Census, Refused, Nothing as nothing_there}
use Rattle.cc_model.specs.declared.item.Event.TheVariants.{Freed, Abandoned}
use Rattle.cc_model.specs.Answers.{Answer, replying, listing, explaining}
use Rattle.cc_worked.specs.Transcripts.{Transcript, answered, made, ok, done_after, refused, path}

-- Scripts and their answers

-- a native in a register holds another one, and how this is reached is asked
abbrev second_is_asked : List ℕ
second_is_asked = codes "version 2\nnative n0 1\nnative n1 0\nset n0 0 n1\ndrop n1\nwhy #2\n"

abbrev second_answered : Answer → Transcript
second_answered a = answered second_is_asked (ok ∷ made (native 1) ∷ made (native 2) ∷ ok ∷ ok ∷ a ∷ [])

-- a map and a key are in registers, and how the value is reached is asked
abbrev value_is_asked : List ℕ
value_is_asked = codes "version 2\nweakmap s0\nscript s1 0\nscript s2 0\nwset s0 s1 s2\ndrop s2\nwhy @3\n"

abbrev value_answered : Answer → Transcript
value_answered a = answered value_is_asked (ok ∷ made (object 1) ∷ made (object 2) ∷ made (object 3) ∷ ok ∷ ok ∷ a ∷ [])

-- Steps

-- A step stands behind those that it follows from.
abbrev pub steps_in_another_order : Transcript
steps_in_another_order = second_answered (path ((native 2, Edge (native 1)) ∷ (native 1, Root (N 0)) ∷ []))

-- Each step stands behind those that were found before it, also where it does not follow from them.
abbrev pub members_in_another_order : Transcript
members_in_another_order = value_answered (path ((object 2, Root (S 1)) ∷ (object 1, Root (S 0)) ∷ (object 3, Pair (object 1) (object 2)) ∷ []))

-- A path begins at a register.
abbrev pub first_step_is_left_out : Transcript
first_step_is_left_out = second_answered (path ((native 2, Edge (native 1)) ∷ []))

-- A path ends at the object that is asked for.
abbrev pub last_step_is_left_out : Transcript
last_step_is_left_out = second_answered (path ((native 1, Root (N 0)) ∷ []))

-- A value follows from its key too.
abbrev pub step_of_the_key_is_left_out : Transcript
step_of_the_key_is_left_out = value_answered (path ((object 1, Root (S 0)) ∷ (object 3, Pair (object 1) (object 2)) ∷ []))

-- A path has steps.
abbrev pub all_steps_are_left_out : Transcript
all_steps_are_left_out = second_answered ok

-- Nothing stands behind the step of the object that is asked for.
abbrev pub step_goes_on : Transcript
step_goes_on = answered (codes "version 2\nnative n0 1\nnative n1 0\nset n0 0 n1\ndrop n1\nwhy #1\n")
    (ok ∷ made (native 1) ∷ made (native 2) ∷ ok ∷ ok ∷ path ((native 1, Root (N 0)) ∷ (native 2, Edge (native 1)) ∷ []) ∷ [])

-- A path has no step that it does not need.
abbrev pub step_leads_elsewhere : Transcript
step_leads_elsewhere = answered (codes "version 2\nnative n0 0\nnative n1 0\nwhy #2\n")
    (ok ∷ made (native 1) ∷ made (native 2) ∷ path ((native 1, Root (N 0)) ∷ (native 2, Root (N 1)) ∷ []) ∷ [])

-- A step is told once.
abbrev pub step_is_told_twice : Transcript
step_is_told_twice = second_answered (path ((native 1, Root (N 0)) ∷ (native 1, Root (N 0)) ∷ (native 2, Edge (native 1)) ∷ []))

-- Reasons

-- What some registers hold follows from the first of them.
abbrev pub follows_from_the_second_register : Transcript
follows_from_the_second_register = answered (codes "version 2\nnative n1 0\ncopy n0 n1\nwhy #1\n")
    (ok ∷ made (native 1) ∷ made (native 1) ∷ path ((native 1, Root (N 1)) ∷ []) ∷ [])

-- A register is of one bank.
abbrev pub follows_from_the_other_bank : Transcript
follows_from_the_other_bank = second_answered (path ((native 1, Root (S 0)) ∷ (native 2, Edge (native 1)) ∷ []))

-- What some objects hold follows from the one that was found first.
abbrev pub follows_from_the_second_holder : Transcript
follows_from_the_second_holder = answered (codes "version 2\nnative n0 1\nnative n1 1\nnative n2 0\nset n0 0 n2\nset n1 0 n2\ndrop n2\nwhy #3\n")
    (ok ∷ made (native 1) ∷ made (native 2) ∷ made (native 3) ∷ ok ∷ ok ∷ ok ∷ path ((native 2, Root (N 1)) ∷ (native 3, Edge (native 2)) ∷ []) ∷ [])

-- An object does not follow from itself.
abbrev pub follows_from_itself : Transcript
follows_from_itself = answered (codes "version 2\nnative n0 1\nset n0 0 n0\ndrop n0\nwhy #1\n")
    (ok ∷ made (native 1) ∷ ok ∷ ok ∷ path ((native 1, Edge (native 1)) ∷ []) ∷ [])

-- A value follows from its map and its key, in this order.
abbrev pub key_is_told_for_the_map : Transcript
key_is_told_for_the_map = value_answered (path ((object 1, Root (S 0)) ∷ (object 2, Root (S 1)) ∷ (object 3, Pair (object 2) (object 1)) ∷ []))

-- A value does not follow from its map alone.
abbrev pub value_follows_from_its_map : Transcript
value_follows_from_its_map = value_answered (path ((object 1, Root (S 0)) ∷ (object 3, Edge (object 1)) ∷ []))

-- A value does not follow where no register reaches its key.
abbrev pub value_follows_without_its_key : Transcript
value_follows_without_its_key = answered (codes "version 2\nweakmap s0\nscript s1 0\nscript s2 0\nwset s0 s1 s2\ndrop s1\ndrop s2\nwhy @3\n")
    (ok ∷ made (object 1) ∷ made (object 2) ∷ made (object 3) ∷ ok ∷ ok ∷ ok ∷ path ((object 1, Root (S 0)) ∷ (object 3, Pair (object 1) (object 2)) ∷ []) ∷ [])

-- A key does not follow from its value.
abbrev pub proxy_key_follows_from_its_value : Transcript
proxy_key_follows_from_its_value = answered (codes "version 2\nweakmap s0\nscript s1 0\nproxy s2 s1\nscript s3 0\nwset s0 s2 s3\ndrop s1\ndrop s2\nwhy @3\n")
    (ok ∷ made (object 1) ∷ made (object 2) ∷ made (object 3) ∷ made (object 4) ∷ ok ∷ ok ∷ ok ∷ path ((object 1, Root (S 0)) ∷ (object 4, Root (S 3)) ∷ (object 3, Pair (object 1) (object 4)) ∷ []) ∷ [])

-- Replies

-- What a register reaches follows from something.
abbrev pub reached_object_follows_from_nothing : Transcript
reached_object_follows_from_nothing = second_answered (replying [] nothing_there)

-- A path is told to its end, and then it is done.
abbrev pub path_to_nothing : Transcript
path_to_nothing = second_answered (explaining ((native 1, Root (N 0)) ∷ (native 2, Edge (native 1)) ∷ []) nothing_there)

-- What no register reaches follows from nothing, though it is there.
abbrev pub unreached_object_is_found : Transcript
unreached_object_is_found = answered (codes "version 2\nnative n0 1\nset n0 0 n0\ndrop n0\nwhy #1\n") (ok ∷ made (native 1) ∷ ok ∷ ok ∷ ok ∷ [])

-- A reflector that was swept follows from nothing.
abbrev pub swept_reflector_is_found : Transcript
swept_reflector_is_found = answered (codes "version 2\nnative n0 0\nwrap s0 n0\ndrop s0\ngc\nwhy ~1\n")
    (ok ∷ made (native 1) ∷ made (reflector 1) ∷ ok ∷ done_after (Freed (reflector 1) ∷ []) ∷ path ((native 1, Root (N 0)) ∷ (reflector 1, Edge (native 1)) ∷ []) ∷ [])

-- What was never made is no empty register.
abbrev pub name_never_made_is_refused : Transcript
name_never_made_is_refused = answered (codes "version 2\nwhy #1\n") (ok ∷ refused Empty ∷ [])

-- The object itself is not told.
abbrev pub why_answers_with_a_name : Transcript
why_answers_with_a_name = answered (codes "version 2\nnative n0 0\nwhy #1\n") (ok ∷ made (native 1) ∷ made (native 1) ∷ [])

-- The answer has a reply.
abbrev pub path_without_a_reply : Transcript
path_without_a_reply = answered (codes "version 2\nnative n0 0\nwhy #1\n")
    (ok ∷ made (native 1) ∷ record { events = []; listed = []; steps = (native 1, Root (N 0)) ∷ []; reply = None } ∷ [])

-- Nothing is told where memory is refused.
abbrev pub path_without_memory : Transcript
path_without_memory = second_answered (explaining ((native 1, Root (N 0)) ∷ (native 2, Edge (native 1)) ∷ []) (Refused NoMemory))

-- Names are listed by a census alone.
abbrev pub names_listed_by_why : Transcript
names_listed_by_why = answered (codes "version 2\nnative n0 0\nwhy #1\n") (ok ∷ made (native 1) ∷ listing (native 1 ∷ []) Done ∷ [])

-- Steps are told by `why` alone.
abbrev pub step_told_by_a_drop : Transcript
step_told_by_a_drop = answered (codes "native n0 0\ndrop n1\n") (made (native 1) ∷ path ((native 1, Root (N 0)) ∷ []) ∷ [])

-- A census tells none.
abbrev pub step_told_by_a_census : Transcript
step_told_by_a_census = answered (codes "native n0 0\ncensus\n")
    (made (native 1) ∷ record { events = []; listed = native 1 ∷ []; steps = (native 1, Root (N 0)) ∷ []; reply = Some (Census 1) } ∷ [])

-- A line that asks nothing tells none.
abbrev pub step_under_a_blank_line : Transcript
step_under_a_blank_line = answered (codes "native n0 0\n\n") (made (native 1) ∷ record { events = []; listed = []; steps = (native 1, Root (N 0)) ∷ []; reply = None } ∷ [])

-- A line that is not in the grammar tells none.
abbrev pub step_under_a_bad_line : Transcript
step_under_a_bad_line = answered (codes "version 2\nnative n0 0\nwhy n0\n") (ok ∷ made (native 1) ∷ explaining ((native 1, Root (N 0)) ∷ []) (Refused Line) ∷ [])

-- Number 0 is in no name.
abbrev pub number_zero_follows_from_nothing : Transcript
number_zero_follows_from_nothing = answered (codes "version 2\nwhy #0\n") (ok ∷ replying [] nothing_there ∷ [])

-- Version 1 has no such word.
abbrev pub path_in_version_one : Transcript
path_in_version_one = answered (codes "native n0 0\nwhy #1\n") (made (native 1) ∷ path ((native 1, Root (N 0)) ∷ []) ∷ [])

-- Version 2 has it.
abbrev pub path_is_refused_in_version_two : Transcript
path_is_refused_in_version_two = answered (codes "version 2\nnative n0 0\nwhy #1\n") (ok ∷ made (native 1) ∷ refused Line ∷ [])

-- Events

-- It frees nothing, not even what no register reaches.
abbrev pub freed_by_why : Transcript
freed_by_why = answered (codes "version 2\nnative n0 0\ndrop n0\nnative n1 0\nwhy #2\n")
    (ok ∷ made (native 1) ∷ ok ∷ made (native 2) ∷ record { events = Freed (native 1) ∷ []; listed = []; steps = (native 2, Root (N 1)) ∷ []; reply = Some Done } ∷ [])

-- It frees nothing where it finds nothing.
abbrev pub freed_by_why_of_itself : Transcript
freed_by_why_of_itself = answered (codes "version 2\nnative n0 0\ndrop n0\nwhy #1\n") (ok ∷ made (native 1) ∷ ok ∷ replying (Freed (native 1) ∷ []) nothing_there ∷ [])

-- It abandons no collection, also where memory is refused.
abbrev pub why_abandons : Transcript
why_abandons = answered (codes "version 2\nslice 1\nwhy #1\n") (ok ∷ ok ∷ replying (Abandoned ∷ []) (Refused NoMemory) ∷ [])
