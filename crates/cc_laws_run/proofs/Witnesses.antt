-- MACHINES THAT SCRIPTS LEAVE and that meet the premises of the laws: a fresh snapshot in which a native is white,
-- and heaps in which no unreached native is forgotten while there is one.
use Rattle.std.proofs.Common.{arith, ◌≡◌, ℕ, List, [], ◌∷◌, ◌++◌, Option, Some, None, refl, sym, ap, subst, inl, inr}
use Rattle.std.specs.Prelude.{codes}
use Rattle.std.proofs.lemmas.Bool.{true≢false, iff_false}
use Rattle.cc_lists.proofs.Closure.{closure-decides}
use Rattle.cc_lists.specs.Least.{system}
use Rattle.cc_names.specs.Allowance.{Allowance}
use Rattle.cc_names.specs.Names.{native, object, reflector, same_name}
use Rattle.cc_names.proofs.NameTests.{same_name-exact}
use Rattle.cc_model.specs.Asks.{asks_of}
use Rattle.cc_model.specs.View.{View, ReachedIn, view, view_rules}
use Rattle.cc_model.specs.Snapshot.{Snapshot, untraversed, traversed, IsWhite, snapshot_by}
use Rattle.cc_model.specs.Units.{is_untraversed}
use Rattle.cc_model.specs.Fresh.{node, IsLiving, IsTraversed, IsFresh}
use Rattle.cc_model.specs.Suspected.{IsCovered, unreached_scripts}
use Rattle.cc_model.specs.Lawful.{start}
use Rattle.cc_model.specs.Collecting.{Machine, finish_marking, slice_cycles, collect_cycles}
use Rattle.cc_model.specs.Run.{plain_run}
use Rattle.cc_model.proofs.Opened.{all_of_a_run}
use Rattle.cc_laws_heap.specs.Sound.{IsSound}
use Rattle.cc_laws_run.specs.Running.{IsRunning, IsFreshNow, state_after}
use Rattle.cc_laws_run.specs.Doomed.{IsSuspectedNow}
use Rattle.cc_laws_run.specs.Premises.{machine_left_by, IsLeftByAScript}
use Rattle.cc_laws_run.proofs.PlainRanges.{asks_of-range}
use Rattle.cc_laws_run.proofs.WholeRuns.{run-runs, run-suspected}

-- limits that these scripts keep
abbrev enough : Allowance
enough = record { natives = 100; scripts = 100; bytes = 1000 }

-- the machine that a script leaves, where memory is never refused
abbrev left_by : List ℕ → Machine
left_by input = machine_left_by enough [] input

-- A script leaves it.
left_by-left : (input : List ℕ) → IsLeftByAScript (left_by input)
left_by-left input = (enough, [], input, refl)

-- It runs.
left_by-runs : (input : List ℕ) → IsRunning (left_by input) (state_after (start enough) (asks_of input) (plain_run enough [] (asks_of input)))
left_by-runs input = run-runs enough [] (asks_of input) (asks_of-range input)

-- No unreached native is forgotten in it.
left_by-suspected : (input : List ℕ) → IsSuspectedNow (left_by input)
left_by-suspected input = run-suspected enough [] (asks_of input) (asks_of-range input)

-- A white native

-- A cycle from a native over its reflector to a proxy of it, which is a key, to the key's value and back; the collection has
-- traversed every node of it, and is about to end.
abbrev half_collected_script : List ℕ
half_collected_script = codes "native n0 0\nwrap s1 n0\nweakmap s0\nproxy s2 s1\nscript s3 1\nput s3 0 s1\nwset s0 s2 s3\n"
    ++ codes "drop n0\ndrop s1\ndrop s2\ndrop s3\ngc\nslice 5\n"

abbrev pub half_collected : Machine
half_collected = left_by half_collected_script

abbrev pub half_collected_snapshot : Snapshot
half_collected_snapshot = snapshot_by
    (1 ∷ [])
    (node (native 1) (traversed (Some 1)) ∷ node (reflector 1) (traversed None) ∷ node (object 2) (traversed None) ∷ node (object 3) (traversed None) ∷ [])
    ((native 1, reflector 1) ∷ (reflector 1, native 1) ∷ (object 2, reflector 1) ∷ (object 3, reflector 1) ∷ [])
    (record { the_map = None; key = Some (reflector 1); value = object 2 } ∷ record { the_map = None; key = Some (object 2); value = object 3 } ∷ [])

-- A script leaves it.
pub half_collected-left : IsLeftByAScript half_collected
half_collected-left = left_by-left half_collected_script

-- Its heaps are sound.
pub half_collected-sound : IsSound [] half_collected.heap
half_collected-sound = (left_by-runs half_collected_script).sound

-- This is the snapshot of the collection that runs.
pub half_collected-snapshot : half_collected.snapshot ≡ Some half_collected_snapshot
unfolding all_of_a_run slice_cycles finish_marking
half_collected-snapshot = refl

-- It is fresh.
pub half_collected-fresh : IsFresh half_collected.heap.natives_made (view half_collected.heap) half_collected_snapshot
half_collected-fresh = subst (IsFreshNow half_collected.heap) half_collected-snapshot (left_by-runs half_collected_script).fresh

-- A traversed state is no untraversed one.
traversed-untraversed : (n : Option ℕ) → ¬ (traversed n ≡ untraversed)
traversed-untraversed n e = true≢false (sym (ap is_untraversed e))

-- No node of it is left to traverse.
pub half_collected-traversed : IsTraversed half_collected_snapshot
half_collected-traversed x m = grind (arith, traversed-untraversed)

-- Its native is white.
pub half_collected-white : IsWhite (view half_collected.heap) half_collected_snapshot (native 1)
unfolding all_of_a_run slice_cycles finish_marking
half_collected-white = inl refl

-- An unreached native that is suspected

-- A native that holds itself and another one, beside a proxy: the first is purple, and the second is not.
abbrev dropped_script : List ℕ
dropped_script = codes "script s0 0\nproxy s1 s0\nnative n0 2\nnative n1 0\nset n0 0 n0\nset n0 1 n1\ndrop n1\ncollect\ndrop n0\n"

abbrev pub dropped : Machine
dropped = left_by dropped_script

abbrev dropped_view : View
dropped_view = view dropped.heap

-- A script leaves it.
pub dropped-left : IsLeftByAScript dropped
dropped-left = left_by-left dropped_script

-- Its heaps are sound.
pub dropped-sound : IsSound [] dropped.heap
dropped-sound = (left_by-runs dropped_script).sound

-- No unreached native is forgotten in them.
pub dropped-suspected : IsSuspectedNow dropped
dropped-suspected = left_by-suspected dropped_script

-- The second native is in them.
pub dropped-living : IsLiving dropped_view (native 2)
unfolding all_of_a_run collect_cycles finish_marking
dropped-living = (1, inr (inl refl))

-- It is not reached.
pub dropped-unreached : ¬ (ReachedIn dropped_view (native 2))
unfolding all_of_a_run collect_cycles finish_marking
dropped-unreached = iff_false (closure-decides same_name same_name-exact (view_rules dropped_view) (native 2)) refl

-- It is covered.
pub dropped-covered : IsCovered dropped_view (native 2)
unfolding all_of_a_run collect_cycles finish_marking
dropped-covered =
    (closure-decides same_name same_name-exact (system (dropped_view.purple ++ unreached_scripts dropped_view) dropped_view.edges []) (native 2)).0 refl
