-- A BANK LENGTHENED, and what follows for a change that comes after it: the registers that came are empty, so all else is as it was.
use Rattle.std.proofs.Common.{◌≡◌, ℕ, ◌+◌, ◌-◌, ◌<◌, ◌≤◌, List, [], ◌++◌, map, length, replicate, take, Option, Some, None, refl, sym, ◌∙◌, ap, subst, inl, inr, ⊎_elim, arith, if◌then◌else◌}
use Rattle.std.specs.Prelude.{Result, Ok, Err, OnOk, OnErr, is_ok}
use Rattle.std.specs.Global.{Vec}
use Rattle.std.proofs.lemmas.List.{append-nil, length-append, length-map, length-replicate, map-append, take_all}
use Rattle.cc_lists.specs.Members.{Among}
use Rattle.cc_lists.proofs.Held.{map-replicate}
use Rattle.cc_lists.proofs.Members.{Among-append}
use Rattle.cc_names.specs.declared.name.Name.{Name}
use Rattle.cc_names.specs.declared.name.Name.TheVariants as name
use Rattle.cc_names.specs.declared.number.NKey.{NKey}
use Rattle.cc_names.specs.declared.number.SKey.{SKey}
use Rattle.cc_names.specs.Names.{native}
use Rattle.cc_names.specs.Sizes.{most_roots}
use Rattle.cc_model.specs.Banks.{Bank, of_natives, of_scripts, of_weak, IsBankLength}
use Rattle.cc_model.specs.Slots.{Slots, lengthened}
use Rattle.cc_model.specs.Graph as graph
use Rattle.cc_model.specs.Graph.{Graph}
use Rattle.cc_model.specs.Heap.{Heap, lengthen}
use Rattle.cc_model.specs.View.{View, view, ReachedIn}
use Rattle.cc_model.specs.Effects.{hold_script}
use Rattle.cc_model.specs.Exposure.{exposed}
use Rattle.cc_model.specs.WellFormed.{IsWellFormed, native_names, script_names, names_there}
use Rattle.cc_model.specs.StandsFor.{StandsFor}
use Rattle.cc_model.specs.Colours.{HasColourInvariant}
use Rattle.cc_model.specs.Fresh.{IsFresh}
use Rattle.cc_model.specs.Suspected.{IsSuspected}
use Rattle.cc_model.specs.Telling.{Telling, TellsEvents}
use Rattle.cc_model.proofs.Tellings.{Tells-nil}
use Rattle.cc_laws_heap.proofs.Face.{length-lengthened, lengthen-sound, lengthen-stands, lengthen-well, script_names-exposed, view-lengthen}
use Rattle.cc_laws_snapshot.proofs.Face.{lengthen-fresh, lengthen-suspected}
use Rattle.cc_script.specs.Objects.{name_at}
use Rattle.cc_heaps.specs.declared.heaps.Heaps.TheInside.{Inside}
use Rattle.cc_heaps.specs.Named.{named, script_named, IsLive, IsScriptLive}
use Rattle.cc_heaps.specs.Fields.{heap_of, keyed_of, IsLinked}
use Rattle.cc_heaps.specs.Keyed.{Keyed, IsInOrder, changed_to, number_at}
use Rattle.cc_heaps.specs.Leaving.{NothingLeft, TellsWhatIsFreed}
use Rattle.cc_heaps.specs.Standing.{IsReached, IsReachedOrReflects, StandsAfter}
use Rattle.cc_heaps.specs.Keeping.{KeepsAll}
use Rattle.cc_heaps.proofs.FewCounts.{few-owned}
use Rattle.cc_heaps.proofs.MarksKept.{marks-changed, marks-then}
use Rattle.cc_heaps.proofs.Ordered.{IsInOrder-changed}
use Rattle.cc_heaps.proofs.Registers.{AreLive, none-each}

-- Banks as the code has them

-- the names of what a bank holds, with empty places behind them
pub names-longer : {X : Type 0} (f : Option X → Option Name) (items : List (Option X)) (n : ℕ) → f None ≡ None →
    map f (items ++ replicate (n - length items) None) ≡ lengthened (map f items) n
names-longer f items n e =
    map-append f items (replicate (n - length items) None)
    ∙ (ap (λ xs. map f items ++ xs) (map-replicate f (n - length items) None ∙ ap (replicate (n - length items)) e)
    ∙ ap (λ k. map f items ++ replicate (n - k) None) (sym (length-map items f)))

-- what is so of each place, and of an empty one, is so of each place then
pub each-longer : {X : Type 0} (P : Option X → Type 0) (items : List (Option X)) (k : ℕ) → P None → ((x : Option X) → Among x items → P x) →
    (x : Option X) → Among x (items ++ replicate k None) → P x
each-longer P items k none each x m = ⊎_elim (each x) (none-each k (replicate k None) refl P none x) (Among-append x items (replicate k None) m)

-- a bank of names has a place for what it was lengthened to
pub has-place : (slots : Slots) (place : ℕ) → place < length (lengthened slots (place + 1))
has-place slots place = subst (λ l. place < l) (sym (length-lengthened slots (place + 1))) (omega arith)

-- The heaps with their keys

pub IsInOrder-lengthen : (owned : List ℕ) (v : Keyed) (b : Bank) (n : ℕ) → n ≤ most_roots → IsInOrder owned v → IsInOrder owned (changed_to v (lengthen v.heap b n))
IsInOrder-lengthen owned v of_natives n few o = IsInOrder-changed owned owned v o (lengthen v.heap of_natives n) (record { limits = refl; scripts = refl; entries = refl })
    (lengthen-sound owned v.heap of_natives n few o.sound) refl
IsInOrder-lengthen owned v of_scripts n few o = IsInOrder-changed owned owned v o (lengthen v.heap of_scripts n) (record { limits = refl; scripts = refl; entries = refl })
    (lengthen-sound owned v.heap of_scripts n few o.sound) refl
IsInOrder-lengthen owned v of_weak n few o = o

-- the same objects are there
names-lengthen : (h : Heap) (b : Bank) (n : ℕ) → names_there (lengthen h b n) ≡ names_there h
names-lengthen h of_natives n = refl
names-lengthen h of_scripts n = refl
names-lengthen h of_weak n = refl

-- A CHANGE AFTER A BANK WAS LENGTHENED
module _ (v mid w : Keyed) (b : Bank) (n : ℕ) (few : n ≤ most_roots) (is : mid ≡ changed_to v (lengthen v.heap b n)) where
  pub order-longer : (owned : List ℕ) → IsInOrder owned v → IsInOrder owned mid
  order-longer owned o = subst (IsInOrder owned) (sym is) (IsInOrder-lengthen owned v b n few o)

  pub names-longer_there : names_there mid.heap ≡ names_there v.heap
  names-longer_there = ap (λ (u : Keyed). names_there u.heap) is ∙ names-lengthen v.heap b n

  -- what was reached is reached
  reached-one : (x : Name) → ReachedIn (view v.heap) x → ReachedIn (view mid.heap) x
  reached-one x r = subst (λ (u : Keyed). ReachedIn (view u.heap) x) (sym is) (subst (λ (a : View). ReachedIn a x) (sym (view-lengthen v.heap b n)) r)

  pub reached-longer : (x : Option Name) → IsReached v.heap x → IsReached mid.heap x
  reached-longer None r = tt
  reached-longer (Some x) r = reached-one x r

  pub reflects-longer : (x : Option Name) → IsReachedOrReflects v.heap x → IsReachedOrReflects mid.heap x
  reflects-longer None r = tt
  reflects-longer (Some (name.Native k)) r = reached-one (name.Native k) r
  reflects-longer (Some (name.Script k)) r = reached-one (name.Script k) r
  reflects-longer (Some (name.Reflector k)) r = ⊎_elim (λ a. inl (reached-one (name.Reflector k) a)) (λ a. inr (reached-one (native k.0) a)) r

  -- what the change keeps is kept
  pub kept-longer : KeepsAll mid w → KeepsAll v w
  kept-longer k = record {
    keys = record {
      natives = λ key j at there. k.keys.natives key j (subst (λ (u : Keyed). number_at u key ≡ Some j) (sym is) at) there;
      scripts = λ key x at there. k.keys.scripts key x (subst (λ (u : Keyed). name_at u.scripts key ≡ Some x) (sym is) at) there;
    };
    order = λ owned o. k.order owned (order-longer owned o);
    counts = few-owned w;
    colours = λ c. k.colours (subst (λ (u : Keyed). HasColourInvariant (view u.heap)) (sym is) (subst HasColourInvariant (sym (view-lengthen v.heap b n)) c));
    fresh = λ s f. k.fresh s (subst (λ (u : Keyed). IsFresh u.heap.natives_made (view u.heap) s) (sym is) (lengthen-fresh v.heap s b n f));
    suspected = λ candidates s. k.suspected candidates (subst (λ (u : Keyed). IsSuspected (view u.heap) candidates) (sym is) (lengthen-suspected v.heap candidates b n s));
    marks = marks-then (marks-changed v mid (lengthen v.heap b n) is) k.marks;
  }

  -- what it frees was there
  pub tells-longer : (before after : Telling) → TellsWhatIsFreed mid.heap w.heap before after → TellsWhatIsFreed v.heap w.heap before after
  tells-longer before after t = record {
    numbers = t.numbers;
    told = t.told;
    left = record {
      once = t.left.once;
      each = λ k i. let e = t.left.each k i in record { before = subst (Among (native k)) names-longer_there e.before; gone = e.gone; unreached = e.unreached };
      rest = λ x i. t.left.rest x (subst (Among x) (sym names-longer_there) i);
    };
  }

  pub left-longer : NothingLeft mid.heap w.heap → NothingLeft v.heap w.heap
  left-longer l x i = l x (subst (Among x) (sym names-longer_there) i)

  -- the graphs are changed once their bank is as long
  pub stands-longer : IsWellFormed v.heap → (change : Graph → Graph) → StandsAfter mid.heap w.heap change → StandsAfter v.heap w.heap (λ g. change (graph.lengthen g b n))
  stands-longer formed change s g m t = s (graph.lengthen g b n) (lengthen-well g b n few m)
      (subst (λ (u : Keyed). StandsFor u.heap (graph.lengthen g b n)) (sym is) (lengthen-stands v.heap g b n few formed m t))

-- What comes into a script register leaves all objects

-- the same natives are there
native_names-exposed : (h : Heap) (x : Option Name) → native_names (exposed h x) ≡ native_names h
unfolding exposed
native_names-exposed h None = refl
native_names-exposed h (Some x) = refl

pub held-left : (h : Heap) (d : ℕ) (x : Option Name) → IsWellFormed h → NothingLeft h (hold_script h d x)
held-left h d x w y i = subst (Among y)
    (ap (λ xs. native_names h ++ xs) (sym (script_names-exposed h x w)) ∙ ap (λ xs. xs ++ script_names (exposed h x)) (sym (native_names-exposed h x))) i

-- and tells nothing
pub silent-told : {T E : Type 0} (r : Result T E) (t : Telling) → OnOk r (TellsEvents t t [])
silent-told (Ok x) t = Tells-nil t
silent-told (Err e) t = tt

-- The fields

-- a bank of the code is as long as a bank may be
bank-longer : {X : Type 0} (items : List (Option X)) (n : ℕ) → n ≤ most_roots → IsBankLength (length items) →
    IsBankLength (length (items ++ replicate (n - length items) None))
bank-longer {X} items n few l =
    subst IsBankLength (sym (length-append items (replicate (n - length items) None) ∙ ap (λ k. length items + k) (length-replicate {A = Option X} (n - length items) None)))
    (record { enough = omega (arith, l.enough); allowed = omega (arith, few, l.allowed) })

-- filled up where it is too short,
pub filled-up : {X : Type 0} (items : List (Option X)) (n : ℕ) → length items < n →
    take n items ++ replicate (n - length items) None ≡ items ++ replicate (n - length items) None
filled-up items n short = ap (λ xs. xs ++ replicate (n - length items) None) (take_all n items (omega (arith, short)))

-- and left where it is not
pub left-long : {X : Type 0} (items : List (Option X)) (n : ℕ) → n ≤ length items → items ≡ items ++ replicate (n - length items) None
left-long items n long =
    let none : n - length items ≡ 0 = omega (arith, long) in
    sym (ap (λ k. items ++ replicate k None) none ∙ append-nil items)

-- a bank after it was to be lengthened: longer, or as it was
abbrev IsTried : {X T E : Type 0} → ℕ → List (Option X) → Result T E → List (Option X) → Type 0
IsTried n old r new = new ≡ (if is_ok r then old ++ replicate (n - length old) None else old)

module _ (p : Inside) (n : ℕ) (few : n ≤ most_roots) (l : IsLinked p) where
  -- the bank of natives
  pub natives-linked : {T E : Type 0} (r : Result T E) (bank : Vec (Option NKey)) → IsTried n p.native_registers.items r bank.items → IsLinked (record p { native_registers = bank })
  natives-linked r bank e = record {
    native_registers = subst (AreLive p.counted.keys) (sym e) (live r);
    script_registers = l.script_registers;
    registers = (subst (λ xs. IsBankLength (length xs)) (sym e) (fits r), l.registers.1);
    held = l.held;
    one_key = l.one_key;
    one_name = l.one_name;
    reflectors = l.reflectors;
    script_names = l.script_names;
    room = l.room;
  }
    where
      live : {T E : Type 0} (r : Result T E) →
          AreLive p.counted.keys (if is_ok r then p.native_registers.items ++ replicate (n - length p.native_registers.items) None else p.native_registers.items)
      live (Ok t) = each-longer (IsLive p.counted.keys) p.native_registers.items (n - length p.native_registers.items) tt l.native_registers
      live (Err t) = l.native_registers

      fits : {T E : Type 0} (r : Result T E) →
          IsBankLength (length (if is_ok r then p.native_registers.items ++ replicate (n - length p.native_registers.items) None else p.native_registers.items))
      fits (Ok t) = bank-longer p.native_registers.items n few l.registers.0
      fits (Err t) = l.registers.0

  -- the bank of script objects
  pub scripts-linked : {T E : Type 0} (r : Result T E) (bank : Vec (Option SKey)) → IsTried n p.script_registers.items r bank.items → IsLinked (record p { script_registers = bank })
  scripts-linked r bank e = record {
    native_registers = l.native_registers;
    script_registers = subst (λ xs. (x : Option SKey) → Among x xs → IsScriptLive p.scripts x) (sym e) (live r);
    registers = (l.registers.0, subst (λ xs. IsBankLength (length xs)) (sym e) (fits r));
    held = l.held;
    one_key = l.one_key;
    one_name = l.one_name;
    reflectors = l.reflectors;
    script_names = l.script_names;
    room = l.room;
  }
    where
      live : {T E : Type 0} (r : Result T E) →
          (x : Option SKey) → Among x (if is_ok r then p.script_registers.items ++ replicate (n - length p.script_registers.items) None else p.script_registers.items) → IsScriptLive p.scripts x
      live (Ok t) = each-longer (IsScriptLive p.scripts) p.script_registers.items (n - length p.script_registers.items) tt l.script_registers
      live (Err t) = l.script_registers

      fits : {T E : Type 0} (r : Result T E) →
          IsBankLength (length (if is_ok r then p.script_registers.items ++ replicate (n - length p.script_registers.items) None else p.script_registers.items))
      fits (Ok t) = bank-longer p.script_registers.items n few l.registers.1
      fits (Err t) = l.registers.1

-- the heaps with it, by names
module _ (p : Inside) (n : ℕ) where
  natives-shown : (bank : Vec (Option NKey)) (names : Slots) → map (named p.counted.keys) bank.items ≡ names →
      keyed_of (record p { native_registers = bank }) ≡ changed_to (keyed_of p) (record (heap_of p) { native_registers = names })
  natives-shown bank names e = ap (λ (rs : Slots). record (keyed_of p) { heap = record (heap_of p) { native_registers = rs } }) e

  scripts-shown : (bank : Vec (Option SKey)) (names : Slots) → map (script_named p.scripts) bank.items ≡ names →
      keyed_of (record p { script_registers = bank }) ≡ changed_to (keyed_of p) (record (heap_of p) { script_registers = names })
  scripts-shown bank names e = ap (λ (rs : Slots). record (keyed_of p) { heap = record (heap_of p) { script_registers = rs } }) e

  pub natives-longer : {T E : Type 0} (r : Result T E) (bank : Vec (Option NKey)) → IsTried n p.native_registers.items r bank.items →
      OnOk r (keyed_of (record p { native_registers = bank }) ≡ changed_to (keyed_of p) (lengthen (heap_of p) of_natives n))
  natives-longer (Ok t) bank e = natives-shown bank (lengthened (heap_of p).native_registers n)
      (ap (map (named p.counted.keys)) e ∙ names-longer (named p.counted.keys) p.native_registers.items n refl)
  natives-longer (Err t) bank e = tt

  pub natives-as_before : {T E : Type 0} (r : Result T E) (bank : Vec (Option NKey)) → IsTried n p.native_registers.items r bank.items →
      OnErr r (keyed_of (record p { native_registers = bank }) ≡ keyed_of p)
  natives-as_before (Ok t) bank e = tt
  natives-as_before (Err t) bank e = natives-shown bank (heap_of p).native_registers (ap (map (named p.counted.keys)) e)

  pub scripts-longer : {T E : Type 0} (r : Result T E) (bank : Vec (Option SKey)) → IsTried n p.script_registers.items r bank.items →
      OnOk r (keyed_of (record p { script_registers = bank }) ≡ changed_to (keyed_of p) (lengthen (heap_of p) of_scripts n))
  scripts-longer (Ok t) bank e = scripts-shown bank (lengthened (heap_of p).script_registers n)
      (ap (map (script_named p.scripts)) e ∙ names-longer (script_named p.scripts) p.script_registers.items n refl)
  scripts-longer (Err t) bank e = tt

  pub scripts-as_before : {T E : Type 0} (r : Result T E) (bank : Vec (Option SKey)) → IsTried n p.script_registers.items r bank.items →
      OnErr r (keyed_of (record p { script_registers = bank }) ≡ keyed_of p)
  scripts-as_before (Ok t) bank e = tt
  scripts-as_before (Err t) bank e = scripts-shown bank (heap_of p).script_registers (ap (map (script_named p.scripts)) e)
