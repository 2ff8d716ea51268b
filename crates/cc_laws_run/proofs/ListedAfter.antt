-- THE LISTED NAMES AFTER A COMMAND are those of the heaps: what was freed is taken out, what was made goes last.
use Rattle.std.proofs.Common.{arith, ◌≡◌, ℕ, ◌+◌, ◌<◌, Bool, true, false, List, [], ◌∷◌, ◌++◌, map, length, Option, Some, None, refl, sym, ◌∙◌, ap, subst, ⊎_elim}
use Rattle.std.specs.Prelude.{IsTrue}
use Rattle.std.specs.List.{filter}
use Rattle.std.proofs.lemmas.Bool.{true≢false}
use Rattle.std.proofs.lemmas.List.{append-nil, get_or-set_same}
use Rattle.std.proofs.lemmas.List.Elements.{filter-append}
use Rattle.cc_lists.specs.Members.{Among, has}
use Rattle.cc_lists.proofs.Members.{Among-map, Among-map_cases, has-there, has-among}
use Rattle.cc_names.specs.declared.name.Name.{Name}
use Rattle.cc_names.specs.declared.name.Name.TheVariants as name
use Rattle.cc_names.specs.declared.register.Reg.TheVariants.{N}
use Rattle.cc_names.specs.Names.{native, object, reflector, same_name, is_native}
use Rattle.cc_names.proofs.NameTests.{same_name-exact}
use Rattle.cc_model.specs.declared.command.Command.{Command}
use Rattle.cc_model.specs.declared.command.Command.TheVariants.{Native, Script, WeakMap, Proxy, Wrap}
use Rattle.cc_model.specs.Ranges.{in_range}
use Rattle.cc_model.specs.Checks.{refusal_of, reply_if_taken, reflector_of, named_or_nothing}
use Rattle.cc_model.specs.Graph as graph
use Rattle.cc_model.specs.Deeds.{Deed, native_made, deed_of}
use Rattle.cc_model.specs.Graph.{Graph, done_to, changed, unless_refused, step}
use Rattle.cc_model.specs.Reached.{Reached, held}
use Rattle.cc_model.specs.WellMade.{IsWellMade}
use Rattle.cc_model.specs.Slots.{Slots}
use Rattle.cc_model.specs.Heap.{Heap, HeapNative, register, objects_of, has_reflector}
use Rattle.cc_model.specs.Effects.{effects}
use Rattle.cc_model.specs.WellFormed.{IsWellFormed, native_names, script_names}
use Rattle.cc_model.specs.StandsFor.{StandsFor}
use Rattle.cc_model.specs.Listed.{census_order, after_events, after_reply, listed}
use Rattle.cc_laws_heap.specs.Sound.{IsSound}
use Rattle.cc_laws_heap.specs.Rounds.{is_not_among}
use Rattle.cc_laws_heap.proofs.Freed.{freed_event}
use Rattle.cc_laws_heap.proofs.ScriptNames.{script_names-named}
use Rattle.cc_laws_heap.proofs.NameLists.{is_not_among-from}
use Rattle.cc_laws_heap.proofs.Holding.{has_reflector-there, has_reflector-none}
use Rattle.cc_laws_heap.proofs.RepliesAlike.{AreAlike, refusal_of-alike, deed_of-alike, objects-stand}
use Rattle.cc_laws_heap.proofs.MayBeDone.{MayBeDone, may_be_done}
use Rattle.cc_laws_heap.proofs.Taken.{IsTaken-from}
use Rattle.cc_laws_heap.proofs.CommandsStand.{freed-unreached}
use Rattle.cc_laws_run.proofs.Listing.{AreListed, AreListed-from, AreListed-native, AreListed-script, AreListed-freed, after_events-freed, filter-second, has-listed}
use Rattle.cc_laws_run.proofs.NamesAfter.{NamesAfter, natives_made_by, made_natives, made_scripts, made_reflector}

-- Before the command

-- names that a census lists as the heaps do are listed so
pub AreListed-heap : (h : Heap) (names : List Name) → IsWellFormed h → native_names h ++ script_names h ≡ census_order names →
    AreListed names (native_names h) (script_names h)
AreListed-heap h names w e = AreListed-from names (native_names h) (script_names h)
    (λ x m. let f = Among-map_cases (λ (n : HeapNative). native n.number) h.natives x m in subst (λ y. is_native y ≡ true) f.2 refl)
    (λ x m. script_names-named h w x m) e

-- a native has a reflector where one of its name is listed
pub has-listed_reflector : (h : Heap) (names natives : List Name) (k : ℕ) → AreListed names natives (script_names h) → has same_name names (reflector k) ≡ has_reflector h k
has-listed_reflector h names natives k a = has-listed names natives (script_names h) a (reflector k) refl ∙ there (has same_name (script_names h) (reflector k)) refl (has_reflector h k) refl
  where
    there : (b : Bool) → has same_name (script_names h) (reflector k) ≡ b → (c : Bool) → has_reflector h k ≡ c → b ≡ c
    there true e false f = absurd (has_reflector-none h k f (has-among same_name same_name-exact (script_names h) (reflector k) e))
    there false e true f = absurd (true≢false (sym (has-there same_name same_name-exact (script_names h) (reflector k) (has_reflector-there h k f)) ∙ e))
    there _ e _ f = refl

-- What was made is not freed

-- what a command that is not refused makes of the graph is its step
step-taken : (g : Graph) (c : Command) → refusal_of (graph.objects_of g) c ≡ None → step g c ≡ changed g c
step-taken g c t = ap (λ o. unless_refused o g (changed g c)) t

-- a native that was made is reached
made-reached : (h : Heap) (g : Graph) (d : Deed) (k : ℕ) → IsWellMade g → StandsFor h g → MayBeDone h d → Among (native k) (natives_made_by h d) → Reached (done_to g d) (native k)
unfolding done_to
made-reached h g (native_made d n) k w s m i = ⊎_elim
    (λ e. subst (λ x. Reached (done_to g (native_made d n)) x) e
    (held (N d) (native (h.natives_made + 1))
    (get_or-set_same g.native_registers d (Some (native (length g.natives + 1))) None (subst (λ (rs : Slots). d < length rs) s.native_registers m.register)
    ∙ ap (λ j. Some (native (j + 1))) (sym s.natives_made))))
    (λ n. absurd n) i
made-reached h g _ k w s m i = absurd i

-- a native that a command makes is none of those that were freed meanwhile
pub made-not_freed : (h : Heap) (g : Graph) (c : Command) (ks : List ℕ) → IsSound [] h → IsWellMade g → StandsFor h g → IsTrue (in_range c) →
    refusal_of (objects_of h) c ≡ None → (effects h c).events ≡ map freed_event ks → (k : ℕ) → Among k ks → ¬ (Among (native k) (made_natives h c))
unfolding changed
made-not_freed h g c ks sound w s r t told k m i = freed-unreached h g c (native k) sound w s r t
    (subst (λ es. Among (freed_event k) es) (sym told) (Among-map freed_event k ks m))
    (subst (λ f. Reached f (native k)) (sym (step-taken g c (sym (refusal_of-alike (objects_of h) (graph.objects_of g) alike c) ∙ t)))
    (subst (λ d. Reached (done_to g d) (native k)) (deed_of-alike (objects_of h) (graph.objects_of g) alike c)
    (made-reached h g (deed_of (objects_of h) c) k w s (may_be_done h c sound r (IsTaken-from (objects_of h) c t)) i)))
  where
    alike : AreAlike (objects_of h) (graph.objects_of g)
    alike = objects-stand h g s

-- After the command

-- what is none of those that were freed stays
after_events-kept : (ks : List ℕ) (xs ys : List Name) → ((k : ℕ) → Among k ks → ¬ (Among (native k) ys)) →
    after_events (xs ++ ys) (map freed_event ks) ≡ after_events xs (map freed_event ks) ++ ys
after_events-kept ks xs ys apart =
    after_events-freed ks (xs ++ ys)
    ∙ (filter-append (is_not_among (map native ks)) xs ys
    ∙ (ap (λ zs. filter (is_not_among (map native ks)) xs ++ zs) (filter-second (is_not_among (map native ks)) [] ys (λ x m. absurd m) spared)
    ∙ ap (λ zs. zs ++ ys) (sym (after_events-freed ks xs))))
  where
    spared : (y : Name) → Among y ys → is_not_among (map native ks) y ≡ true
    spared y m = is_not_among-from (map native ks) y
        (λ i. let f = Among-map_cases native ks y i in apart f.0 f.1 (subst (λ x. Among x ys) (sym f.2) m))

-- where nothing is made the same names are listed
same-listed : (names natives scripts : List Name) → AreListed names natives scripts → AreListed names (natives ++ []) (scripts ++ [])
same-listed names natives scripts a = record { natives_are = a.natives_are ∙ sym (append-nil natives); scripts_are = a.scripts_are ∙ sym (append-nil scripts) }

-- a native wrapped: its reflector goes last where it was not there
wrapped-listed : (h : Heap) (d s : ℕ) (x : Option Name) (names natives : List Name) → AreListed names natives (script_names h) →
    AreListed (after_reply names (Wrap d s) (Some (named_or_nothing (reflector_of x)))) (natives ++ []) (script_names h ++ made_reflector h x)
wrapped-listed h d s (Some (name.Native k)) names natives a =
    subst (λ b. AreListed (elim b [ true ↦ names | false ↦ names ++ reflector k.0 ∷ [] ]) (natives ++ []) (script_names h ++ made_reflector h (Some (name.Native k))))
    (sym (has-listed_reflector h names natives k.0 a)) (go (has_reflector h k.0))
  where
    go : (b : Bool) → AreListed (elim b [ true ↦ names | false ↦ names ++ reflector k.0 ∷ [] ]) (natives ++ [])
        (script_names h ++ elim b [ true ↦ [] | false ↦ reflector k.0 ∷ [] ])
    go true = same-listed names natives (script_names h) a
    go false = subst (λ xs. AreListed (names ++ reflector k.0 ∷ []) xs (script_names h ++ reflector k.0 ∷ [])) (sym (append-nil natives))
        (AreListed-script names natives (script_names h) (reflector k.0) refl a)
wrapped-listed h d s _ names natives a = same-listed names natives (script_names h) a

-- a script object made goes last
object-listed : (h : Heap) (names natives : List Name) → AreListed names natives (script_names h) →
    AreListed (names ++ object (h.scripts_made + 1) ∷ []) (natives ++ []) (script_names h ++ object (h.scripts_made + 1) ∷ [])
object-listed h names natives a = subst (λ xs. AreListed (names ++ object (h.scripts_made + 1) ∷ []) xs (script_names h ++ object (h.scripts_made + 1) ∷ []))
    (sym (append-nil natives)) (AreListed-script names natives (script_names h) (object (h.scripts_made + 1)) refl a)

-- what a command makes goes last
made-listed : (h : Heap) (c : Command) (names natives : List Name) → AreListed names natives (script_names h) →
    AreListed (after_reply names c (Some (reply_if_taken (objects_of h) c))) (natives ++ made_natives h c) (script_names h ++ made_scripts h c)
unfolding reply_if_taken deed_of
made-listed h (Native d n) names natives a =
    subst (λ xs. AreListed (names ++ native (h.natives_made + 1) ∷ []) (natives ++ native (h.natives_made + 1) ∷ []) xs) (sym (append-nil (script_names h)))
    (AreListed-native names natives (script_names h) (h.natives_made + 1) a)
made-listed h (Script d n) names natives a = object-listed h names natives a
made-listed h (WeakMap d) names natives a = object-listed h names natives a
made-listed h (Proxy d s) names natives a = object-listed h names natives a
made-listed h (Wrap d s) names natives a = wrapped-listed h d s (register h (N s)) names natives a
made-listed h c names natives a = grind (arith, append-nil)

-- THE NAMES AFTER A COMMAND ARE LISTED.
pub effects-listed : (h : Heap) (c : Command) (names : List Name) (ks : List ℕ) → NamesAfter h (effects h c) ks (made_natives h c) (made_scripts h c) →
    ((k : ℕ) → Among k ks → ¬ (Among (native k) (made_natives h c))) → AreListed names (native_names h) (script_names h) →
    AreListed (listed names c (effects h c).events (Some (reply_if_taken (objects_of h) c))) (native_names (effects h c).heap) (script_names (effects h c).heap)
effects-listed h c names ks n apart a =
    subst (λ es. AreListed (listed names c es (Some (reply_if_taken (objects_of h) c))) (native_names (effects h c).heap) (script_names (effects h c).heap)) (sym n.told)
    (subst (λ xs. AreListed (listed names c (map freed_event ks) (Some (reply_if_taken (objects_of h) c))) xs (script_names (effects h c).heap))
    (sym (n.natives_left ∙ after_events-kept ks (native_names h) (made_natives h c) apart))
    (subst (λ xs. AreListed (listed names c (map freed_event ks) (Some (reply_if_taken (objects_of h) c))) (after_events (native_names h) (map freed_event ks) ++ made_natives h c) xs)
    (sym n.scripts_left)
    (made-listed h c (after_events names (map freed_event ks)) (after_events (native_names h) (map freed_event ks))
    (AreListed-freed ks names (native_names h) (script_names h) a))))
