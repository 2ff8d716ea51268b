-- A script collection ends: each round that sweeps something takes a script object away, and nothing adds one.
use Rattle.std.proofs.Common.{◌≡◌, ℕ, zero, suc, ◌<◌, ◌≤◌, Bool, true, false, not, List, [], ◌∷◌, length, Option, Some, None, refl, sym, ◌∙◌, ap, subst, inl, arith}
use Rattle.std.specs.List.{filter}
use Rattle.std.proofs.lemmas.Bool.{false≢true}
use Rattle.std.proofs.lemmas.List.{length-map}
use Rattle.std.proofs.lemmas.List.Sums.{length-filter, count_by-le-length}
use Rattle.cc_lists.specs.Members.{Among}
use Rattle.cc_lists.proofs.Members.{Among-map_cases, Among-filtered}
use Rattle.cc_names.specs.declared.name.Name.{Name}
use Rattle.cc_names.specs.declared.name.Name.TheVariants.{Native, Script, Reflector}
use Rattle.cc_names.specs.Names.{same_name}
use Rattle.cc_names.proofs.NameTests.{same_name-refl}
use Rattle.cc_model.specs.Heap.{Heap, HeapNative, HeapScript, Outcome, native_at, after, silently, is_white_colour}
use Rattle.cc_model.specs.Cascade.{Draining, fallen, given_up, give_up, give_up_each, natives_of_slots, told_free, free_front, drain, at_rest, drained, cascade}
use Rattle.cc_model.specs.Colours.{with_colour, colour_by, black_names, marked_names, marked}
use Rattle.cc_model.specs.Sweep.{unmarked, without_dead_entries, without_script, let_native_go, sweep_one, sweep_each, sweep, sweeps, rounds}
use Rattle.cc_lists.proofs.Filtering.{length-filter-less}

-- giving up a reference leaves the script objects
pub scripts-give_up : (d : Draining) (k : ℕ) → (give_up d k).heap.scripts ≡ d.heap.scripts
scripts-give_up d k = go (native_at d.heap k)
  where
    fall : (c : ℕ) → (fallen d k c).heap.scripts ≡ d.heap.scripts
    fall zero = refl
    fall (suc zero) = refl
    fall (suc (suc c)) = refl

    go : (o : Option HeapNative) → (given_up d k o).heap.scripts ≡ d.heap.scripts
    go None = refl
    go (Some n) = fall n.count

-- giving up several references leaves the script objects
pub scripts-give_up_each : (d : Draining) (ks : List ℕ) → (give_up_each d ks).heap.scripts ≡ d.heap.scripts
scripts-give_up_each d [] = refl
scripts-give_up_each d (k ∷ ks) = scripts-give_up_each (give_up d k) ks ∙ scripts-give_up d k

-- a native freed leaves the script objects
pub scripts-free_front : (d : Draining) (k : ℕ) (ks : List ℕ) → (free_front d k ks).heap.scripts ≡ d.heap.scripts
scripts-free_front d k ks = scripts-give_up_each (told_free d k ks) (natives_of_slots (native_at d.heap k))

-- a drain leaves the script objects
pub scripts-drain : (n : ℕ) (d : Draining) → (drain n d).heap.scripts ≡ d.heap.scripts
unfolding drain
scripts-drain zero d = refl
scripts-drain (suc n) d = go (scripts-drain n) d.queue
  where
    by_queue : List ℕ → Draining
    by_queue [] = d
    by_queue (k ∷ ks) = drain n (free_front d k ks)

    go : ((e : Draining) → (drain n e).heap.scripts ≡ e.heap.scripts) → (q : List ℕ) → (by_queue q).heap.scripts ≡ d.heap.scripts
    go ih [] = refl
    go ih (k ∷ ks) = ih (free_front d k ks) ∙ scripts-free_front d k ks

-- A cascade leaves the script objects.
pub scripts-cascade : (h : Heap) (k : ℕ) → (cascade h k).heap.scripts ≡ h.scripts
unfolding drained
scripts-cascade h k = scripts-drain (length h.natives) (give_up (at_rest h) k) ∙ scripts-give_up (at_rest h) k

-- marking makes and removes no script object
pub length-marked : (h : Heap) → length (marked h).scripts ≡ length h.scripts
unfolding marked
length-marked h = length-map h.scripts (λ (o : HeapScript). with_colour (colour_by (black_names h) (marked_names h) o.name) o)

-- a reflector that lets its native go leaves the script objects
scripts-let_native_go : (h : Heap) (x : Name) → (let_native_go h x).heap.scripts ≡ h.scripts
scripts-let_native_go h (Native k) = refl
scripts-let_native_go h (Script k) = refl
scripts-let_native_go h (Reflector k) = scripts-cascade h k.0

-- sweeping one object takes away the script objects of its name, and no other
pub scripts-sweep_one : (h : Heap) (x : Name) → (sweep_one h x).heap.scripts ≡ (without_script h x).scripts
scripts-sweep_one h x = scripts-let_native_go (without_script h x) x

-- sweeping one object makes no script object
length-sweep_one-le : (h : Heap) (x : Name) → length (sweep_one h x).heap.scripts ≤ length h.scripts
length-sweep_one-le h x = rw (scripts-sweep_one h x, length-filter (λ o. not (same_name o.name x)) h.scripts)
    (count_by-le-length (λ o. not (same_name o.name x)) h.scripts)

-- sweeping an object that is there takes a script object away
length-sweep_one-less : (h : Heap) (o : HeapScript) → Among o h.scripts → length (sweep_one h o.name).heap.scripts < length h.scripts
length-sweep_one-less h o m = rw (scripts-sweep_one h o.name)
    (length-filter-less (λ p. not (same_name p.name o.name)) h.scripts o m (ap not (same_name-refl o.name)))

-- sweeping several objects makes no script object
length-sweep_each-le : (xs : List Name) (o : Outcome) → length (sweep_each xs o).heap.scripts ≤ length o.heap.scripts
length-sweep_each-le [] o = omega arith
length-sweep_each-le (x ∷ xs) o = omega (arith, length-sweep_each-le xs (after o.events (sweep_one o.heap x)), length-sweep_one-le o.heap x)

-- Sweeping takes a script object away where there is an unmarked one.
pub length-sweep-less : (h : Heap) → sweeps h ≡ true → length (sweep h).heap.scripts < length h.scripts
unfolding sweep
length-sweep-less h = go (unmarked h) refl
  where
    some : List Name → Bool
    some [] = false
    some (x ∷ xs) = true

    go : (dead : List Name) → unmarked h ≡ dead → some dead ≡ true →
        length (sweep_each dead (silently (without_dead_entries dead h))).heap.scripts < length h.scripts
    go [] e s = absurd (false≢true s)
    go (x ∷ xs) e s =
        let rest : Heap = without_dead_entries (x ∷ xs) h in
        let first : Among x (unmarked h) = subst (Among x) (sym e) (inl refl) in
        let k = Among-map_cases (λ (o : HeapScript). o.name) (filter (λ o. is_white_colour o.colour) h.scripts) x first in
        let there : Among k.0 h.scripts = Among-filtered (λ o. is_white_colour o.colour) k.0 h.scripts k.1 in
        let less : length (sweep_one rest x).heap.scripts < length h.scripts =
        subst (λ y. length (sweep_one rest y).heap.scripts < length h.scripts) k.2 (length-sweep_one-less rest k.0 there) in
        omega (arith, length-sweep_each-le xs (after [] (sweep_one rest x)))

-- a round and n more, by whether it sweeps
abbrev rounds_by : ℕ → Outcome → Bool → Outcome
rounds_by n o true = rounds n (after o.events (sweep (marked o.heap)))
rounds_by n o false = after o.events (sweep (marked o.heap))

-- Any two numbers of rounds above that of the script objects do the same.
pub rounds-enough : (n m : ℕ) (o : Outcome) → length o.heap.scripts < n → length o.heap.scripts < m → rounds n o ≡ rounds m o
unfolding rounds
rounds-enough zero m o small other = absurd (omega arith)
rounds-enough (suc n) zero o small other = absurd (omega arith)
rounds-enough (suc n) (suc m) o small other = go (rounds-enough n m) (sweeps (marked o.heap)) refl
  where
    go : ((p : Outcome) → length p.heap.scripts < n → length p.heap.scripts < m → rounds n p ≡ rounds m p) →
        (b : Bool) → sweeps (marked o.heap) ≡ b → rounds_by n o b ≡ rounds_by m o b
    go ih false e = refl
    go ih true e =
        let less : length (sweep (marked o.heap)).heap.scripts < length (marked o.heap).scripts = length-sweep-less (marked o.heap) e in
        let same : length (marked o.heap).scripts ≡ length o.heap.scripts = length-marked o.heap in
        ih (after o.events (sweep (marked o.heap))) (omega arith) (omega arith)
