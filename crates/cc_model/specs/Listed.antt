-- The names that a census lists, and those that have ended.
use Rattle.std.specs.Prelude.{List, [], ◌∷◌, ◌++◌, filter, Option, Some}
use Rattle.cc_lists.specs.Members.{without, with_last}
use Rattle.cc_names.specs.declared.name.Name.{Name}
use Rattle.cc_names.specs.Names.{same_name, is_native, is_script}
use Rattle.cc_model.specs.declared.command.Command.{Command}
use Rattle.cc_model.specs.declared.command.Command.TheVariants.{Native, Script, WeakMap, Proxy, Wrap}
use Rattle.cc_model.specs.declared.item.Reply.{Reply}
use Rattle.cc_model.specs.declared.item.Reply.TheVariants.{Named}
use Rattle.cc_model.specs.declared.item.Event.{Event}
use Rattle.cc_model.specs.declared.item.Event.TheVariants.{Unlinked, Freed, Abandoned}

-- natives first; each part keeps its order
abbrev pub census_order : List Name → List Name
census_order names = filter is_native names ++ filter is_script names

-- a free line takes its name out
abbrev pub after_event : List Name → Event → List Name
after_event names (Freed x) = without same_name x names
after_event names (Unlinked x) = names
after_event names Abandoned = names

abbrev pub after_events : List Name → List Event → List Name
after_events names [] = names
after_events names (e ∷ es) = after_events (after_event names e) es

-- THE ENDED NAMES after events: those that an unlink or a free line had, the last one first
abbrev pub ended_with : List Name → Event → List Name
ended_with names (Freed x) = x ∷ names
ended_with names (Unlinked x) = x ∷ names
ended_with names Abandoned = names

abbrev pub ended_after : List Name → List Event → List Name
ended_after names [] = names
ended_after names (e ∷ es) = ended_after (ended_with names e) es

-- what was made goes last; so does what `wrap` answered, where it is not there
abbrev pub after_reply : List Name → Command → Option Reply → List Name
after_reply names (Native d n) (Some (Named x)) = names ++ x ∷ []
after_reply names (Script d n) (Some (Named x)) = names ++ x ∷ []
after_reply names (WeakMap d) (Some (Named x)) = names ++ x ∷ []
after_reply names (Proxy d s) (Some (Named x)) = names ++ x ∷ []
after_reply names (Wrap d s) (Some (Named x)) = with_last same_name names x
after_reply names c reply = names

-- THE LISTED NAMES after a command with its events and its reply, in the order in which they were last made
abbrev pub listed : List Name → Command → List Event → Option Reply → List Name
listed names c events reply = after_reply (after_events names events) c reply
