-- WHAT A WEAK REGISTER NOTES is what the graph's gives, and may be held; no command of the mutator brings a native back.
use Rattle.std.proofs.Common.{◌≡◌, ◌≢◌, ℕ, ◌≤◌, ◌<◌, false, List, length, if◌then◌else◌, Option, Some, None, IsTrue, refl, sym, ◌∙◌, ap, subst, ⊎_elim, arith, option_and_then, option_map, slice_index_or}
use Rattle.std.proofs.lemmas.Bool.{cases_Bool, and_parts, ltb-true}
use Rattle.cc_lists.specs.Members.{Among}
use Rattle.cc_lists.proofs.Members.{Among-map, Among-map_cases}
use Rattle.cc_names.specs.declared.name.Name.{Name}
use Rattle.cc_names.specs.Names.{native}
use Rattle.cc_model.specs.declared.command.Command.{Command}
use Rattle.cc_names.specs.declared.number.NKey.{NKey}
use Rattle.cc_names.specs.declared.number.NativeNo.{NativeNo}
use Rattle.cc_names.specs.declared.register.Reg.{Reg}
use Rattle.cc_names.specs.declared.register.Reg.TheVariants.{N, S, W}
use Rattle.cc_model.specs.declared.command.Command.TheVariants.{Deref, Drop, Get, Weak}
use Rattle.cc_model.specs.Run.{weak_after}
use Rattle.cc_model.specs.Slots.{Slots}
use Rattle.cc_model.specs.Mutating.{does, reads_weak, class_of, is_applied}
use Rattle.cc_names.specs.Sizes.{bank_length}
use Rattle.cc_model.specs.Ranges.{in_range, is_register, is_weak_register}
use Rattle.cc_model.specs.Checks.{Objects, refusal_of}
use Rattle.cc_model.specs.Deeds.{deed_of}
use Rattle.cc_model.specs.Effects.{done_in, effects, hold_native, takes_memory}
use Rattle.cc_model.specs.Heap.{Heap, HeapNative, objects_of}
use Rattle.cc_model.specs.Lawful.{State, unless_ended, noted_in}
use Rattle.cc_model.specs.Given.{is_usable, MayComeBack}
use Rattle.cc_model.specs.View.{view, counted}
use Rattle.cc_model.specs.WellFormed.{IsWellFormed, native_names}
use Rattle.cc_laws_heap.specs.Sound.{IsSound}
use Rattle.cc_laws_heap.proofs.Face.{IsTaken, MayBeDone, come_back-there, may_be_done, named-member}
use Rattle.cc_laws_snapshot.proofs.Face.{AreGentle}
use Rattle.cc_heaps.specs.Keyed.{Keyed, IsInOrder, number_at}
use Rattle.cc_heaps.proofs.Calls.{number-named}
use Rattle.cc_weakrefs.specs.declared.noted.Noted.{Noted}
use Rattle.cc_weakrefs.specs.Noting.{HoldKeys, HoldsKey, NoneComesBack, noted, if_usable, name_noted, names_noted, number_noted, usable_noted}
use Rattle.cc_weakrefs.proofs.Noting.{name-at, noted-at}
use Rattle.cc_mutator.specs.Applied.{deed_in, deed_by}
use Rattle.cc_model.specs.Ended.{EndedAgrees}

-- The command that reads a weak register

pub reads-is : (c : Command) (d w : ℕ) → class_of c ≡ reads_weak d w → c ≡ Deref d w
reads-is c d w e = grind arith

-- each other command of the mutator does a deed
pub applied-deed : (c : Command) → IsTrue (is_applied c) → ((d w : ℕ) → c ≢ Deref d w) → class_of c ≡ does
applied-deed c a other = grind arith

-- it is not refused,
pub reads-taken : (o : Objects) (c : Command) (d w : ℕ) → class_of c ≡ reads_weak d w → refusal_of o c ≡ None
unfolding refusal_of
reads-taken o c d w e = ap (refusal_of o) (reads-is c d w e)

-- and takes no memory
pub reads-free : (h : Heap) (c : Command) (d w : ℕ) → class_of c ≡ reads_weak d w → takes_memory h c ≡ false
reads-free h c d w e = ap (takes_memory h) (reads-is c d w e)

-- What a command does

-- a deed has its effects, whatever weak registers note,
pub deed-effects : (h : Heap) (names : Slots) (c : Command) → class_of c ≡ does → (done_in h (deed_by h names c)).heap ≡ (effects h c).heap
unfolding effects
deed-effects h names c e = ap (λ k. (done_in h (deed_in h names c k)).heap) e

-- and the command that reads one has a native register hold what it notes
pub read-effects : (h : Heap) (names : Slots) (c : Command) (d w : ℕ) → class_of c ≡ reads_weak d w → (done_in h (deed_by h names c)).heap ≡ (hold_native h d (usable_noted h names w)).heap
unfolding done_in
read-effects h names c d w e = ap (λ k. (done_in h (deed_in h names c k)).heap) e

-- What it reads

-- what it reads may come back
pub noted-may : (h : Heap) (x : Option Name) → MayComeBack h (option_and_then (if_usable h) x)
noted-may h None = tt
noted-may h (Some x) = ⊎_elim (λ t. subst (λ b. MayComeBack h (if b then Some x else None)) (sym t) t) (λ f. subst (λ b. MayComeBack h (if b then Some x else None)) (sym f) tt)
    (cases_Bool (is_usable h x))

-- the register of the command has a place
pub reads-place : (h : Heap) (d w : ℕ) → IsWellFormed h → IsTrue (in_range (Deref d w)) → d < length h.native_registers
reads-place h d w formed r = omega (arith, ltb-true d bank_length (and_parts (is_register d) (is_weak_register w) r).0, formed.registers.0.enough)

-- THE DEED of a command that is in range and not refused may be done
pub deed-may : {owned : List ℕ} (h : Heap) (names : Slots) (c : Command) → IsSound owned h → IsTrue (in_range c) → IsTaken (objects_of h) c → MayBeDone h (deed_by h names c)
deed-may h names (Deref d w) s r t = (reads-place h d w s.well_formed r, come_back-there h (usable_noted h names w) (noted-may h (slice_index_or names w None)))
deed-may h names c s r t = may_be_done h c s r t

-- what is noted has ended exactly where it is not usable
module _ (v : Keyed) (weak : List (Option Noted)) (s : State) (held : HoldKeys weak v) (same : s.graph.weak_registers ≡ names_noted weak) (agrees : EndedAgrees v.heap s.ended) where
  one-alike : (x : Option Noted) → ((n : Noted) → x ≡ Some n → Among (Some n) weak) → option_and_then (if_usable v.heap) (name_noted x) ≡ option_and_then (unless_ended s.ended) (name_noted x)
  one-alike None there = refl
  one-alike (Some n) there =
      let made = (held n (there n refl)).made in
      let ends = agrees (number_noted n) made.0 made.1 in
      ⊎_elim (λ t. grind (arith, ends, t)) (λ f. grind (arith, ends, f)) (cases_Bool (is_usable v.heap (native (number_noted n))))

  -- THE GRAPH GIVES THE SAME
  pub noted-alike : (w : ℕ) → usable_noted v.heap (names_noted weak) w ≡ noted_in s.ended s.graph w
  noted-alike w =
      ap (option_and_then (if_usable v.heap)) (name-at weak w)
      ∙ (one-alike (slice_index_or weak w None) (noted-at weak w)
      ∙ sym (ap (λ (xs : Slots). option_and_then (unless_ended s.ended) (slice_index_or xs w None)) same ∙ ap (option_and_then (unless_ended s.ended)) (name-at weak w)))

-- What is noted

-- a command that is neither `weak` nor `drop` leaves what weak registers note
pub deed-notes : (o : Objects) (weak : Slots) (c : Command) → ((w s : ℕ) → c ≢ Weak w s) → ((r : Reg) → c ≢ Drop r) → weak ≡ weak_after weak (deed_of o c)
unfolding deed_of
deed-notes o weak (Weak w s) no_weak no_drop = absurd (no_weak w s refl)
deed-notes o weak (Drop r) no_weak no_drop = absurd (no_drop r refl)
deed-notes o weak (Get (N d) s i) no_weak no_drop = refl
deed-notes o weak (Get (S d) s i) no_weak no_drop = refl
deed-notes o weak (Get (W d) s i) no_weak no_drop = refl
deed-notes o weak _ no_weak no_drop = refl

-- a native that stands at a key holds it
pub native-held : {owned : List ℕ} (v : Keyed) → IsInOrder owned v → (key : NKey) (number : NativeNo) (at : Option NativeNo) → at ≡ Some number →
    option_map (λ (n : NativeNo). n.0) at ≡ number_at v key.0 → HoldsKey v (noted key number)
native-held {owned} v o key number at is e =
    let stands : number_at v key.0 ≡ Some number.0 = sym e ∙ ap (option_map (λ (n : NativeNo). n.0)) is in
    let f = named-member v.heap number.0 (number-named v owned key.0 number.0 o stands) in
    record { made = subst (λ i. (1 ≤ i) × (i ≤ v.heap.natives_made)) f.2 (o.sound.well_formed.native_numbers f.0 f.1); key = λ there. stands }

-- No native comes back

-- a gentle change brings none back
pub gentle-none_back : (h k : Heap) → AreGentle h k → NoneComesBack h k
gentle-none_back h k g i below there =
    let f = Among-map_cases (λ (n : HeapNative). native n.number) k.natives (native i) there in
    let m : Among (native i, f.0.count) (view k).natives = subst (λ x. Among (x, f.0.count) (view k).natives) f.2 (Among-map counted f.0 k.natives f.1) in
    ⊎_elim
    (λ l.
    let o = Among-map_cases counted h.natives (native i, l.0) l.1 in
    subst (λ x. Among x (native_names h)) (ap (λ (p : Name × ℕ). p.0) o.2) (Among-map (λ (n : HeapNative). native n.number) o.0 h.natives o.1))
    (λ more. absurd (omega (arith, below, more)))
    (g.lives i f.0.count m)
