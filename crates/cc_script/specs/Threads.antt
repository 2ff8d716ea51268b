-- THE LISTS THAT GO THROUGH THE OBJECTS: all of them in order of making, those that marking has yet to look into, and those that
-- a walk over both heaps came to. A further list is one more here.
use Rattle.std.specs.Prelude.{Bool, true, false, Option}
use Rattle.cc_chain.specs.declared.link.Link.{Link}

pub data Thread : Type 0 where
  of_order : Thread
  of_waiting : Thread
  of_walk : Thread

abbrev pub same_thread : Thread → Thread → Bool
same_thread of_order of_order = true
same_thread of_waiting of_waiting = true
same_thread of_walk of_walk = true
same_thread _ _ = false

-- the links of an object, by list
abbrev pub threaded : Option Link → Option Link → Option Link → Thread → Option Link
threaded order waiting walk of_order = order
threaded order waiting walk of_waiting = waiting
threaded order waiting walk of_walk = walk
