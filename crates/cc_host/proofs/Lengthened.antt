-- BANKS LENGTHENED: a register that comes is empty, so nothing is seen that was not seen before, and what is doomed stays doomed.
use Rattle.std.proofs.Common.{◌≡◌, ℕ, zero, suc, ◌+◌, ◌-◌, ◌≤◌, List, [], ◌∷◌, ◌++◌, length, get_or, set, Option, Some, None, refl, sym, ◌∙◌, ap, subst, inl, inr, ⊎_elim, arith, append-nil}
use Rattle.std.proofs.lemmas.List.{get_or_past, set-get_or}
use Rattle.cc_lists.specs.Members.{Among}
use Rattle.cc_names.specs.Sizes.{most_roots}
use Rattle.cc_names.specs.declared.name.Name.{Name}
use Rattle.cc_names.specs.declared.register.Reg.TheVariants.{N}
use Rattle.cc_model.specs.Banks.{Bank, of_natives, of_scripts, of_weak}
use Rattle.cc_model.specs.Slots.{Slots, empty_slots, lengthened}
use Rattle.cc_model.specs.Graph as graph
use Rattle.cc_model.specs.Graph.{Graph}
use Rattle.cc_model.specs.Heap.{Heap, lengthen, register, set_register, silently}
use Rattle.cc_model.specs.Cascade.{let_go}
use Rattle.cc_model.specs.Effects.{hold_native}
use Rattle.cc_model.specs.View.{ReachedIn, View}
use Rattle.cc_model.specs.WellFormed.{IsWellFormed}
use Rattle.cc_laws_heap.proofs.Face.{contents-lengthened, lengthen-stands, lengthen-well, view-lengthen}
use Rattle.cc_laws_heap.proofs.NativesHold.{HeldOr-same}
use Rattle.cc_laws_run.specs.Doomed.{IsDoomed}
use Rattle.cc_heaps.specs.Standing.{IsReached, StandsAfter}
use Rattle.cc_host.specs.Missing.{KeepsDoomed, KeepsDoomedBut}
use Rattle.cc_host.specs.Later.{AreLost}
use Rattle.cc_host.specs.Next.{AreOutOfReach, BringsNoneBack}
use Rattle.cc_host.proofs.KeptDoomed.{none_back-then}
use Rattle.cc_host.proofs.Marked.{LeadsBut}
use Rattle.cc_host.proofs.MarkedSteps.{leads-same}

-- A bank

empty-place : (n q : ℕ) → get_or (empty_slots n) q None ≡ None
empty-place zero q = refl
empty-place (suc n) zero = refl
empty-place (suc n) (suc q) = empty-place n q

-- a place holds what it held, where more come behind it
behind-place : (slots : Slots) (n q : ℕ) → get_or (slots ++ empty_slots n) q None ≡ get_or slots q None
behind-place [] n q = empty-place n q
behind-place (x ∷ slots) n zero = refl
behind-place (x ∷ slots) n (suc q) = behind-place slots n q

pub lengthened-place : (slots : Slots) (n q : ℕ) → get_or (lengthened slots n) q None ≡ get_or slots q None
lengthened-place slots n q = behind-place slots (n - length slots) q

-- a bank that is as long stays as it is
pub lengthened-enough : (slots : Slots) (n : ℕ) → n ≤ length slots → lengthened slots n ≡ slots
lengthened-enough slots n l =
    let none : n - length slots ≡ 0 = omega (arith, l) in
    ap (λ k. slots ++ empty_slots k) none ∙ append-nil slots

-- The heaps

pub lengthen-enough : (h : Heap) (n : ℕ) → n ≤ length h.native_registers → lengthen h of_natives n ≡ h
lengthen-enough h n l = ap (λ (rs : Slots). record h { native_registers = rs }) (lengthened-enough h.native_registers n l)

-- a register that comes is emptied, which changes nothing
emptied : (h : Heap) (r : ℕ) → register h (N r) ≡ None → hold_native h r None ≡ silently (set_register h (N r) None)
unfolding hold_native
emptied h r none = ap (let_go (set_register h (N r) None)) none

pub lengthen-emptied : (h : Heap) (r : ℕ) → length h.native_registers ≤ r → hold_native (lengthen h of_natives (r + 1)) r None ≡ silently (lengthen h of_natives (r + 1))
lengthen-emptied h r l =
    let rs = lengthened h.native_registers (r + 1) in
    let none : get_or rs r None ≡ None = lengthened-place h.native_registers (r + 1) r ∙ get_or_past h.native_registers r None l in
    emptied (lengthen h of_natives (r + 1)) r none
    ∙ ap (λ (ss : Slots). silently (record h { native_registers = ss })) (ap (set rs r) (sym none) ∙ set-get_or rs r None)

-- what lengthening leaves
natives-longer : (h : Heap) (b : Bank) (n : ℕ) → ((lengthen h b n).natives ≡ h.natives) × ((lengthen h b n).natives_made ≡ h.natives_made) × ((lengthen h b n).scripts_made ≡ h.scripts_made)
natives-longer h of_natives n = (refl, refl, refl)
natives-longer h of_scripts n = (refl, refl, refl)
natives-longer h of_weak n = (refl, refl, refl)

-- what is out of reach stays so, since the heaps are seen as before
out-longer : (h : Heap) (b : Bank) (n : ℕ) (ds : List Name) → AreOutOfReach h ds → AreOutOfReach (lengthen h b n) ds
out-longer h b n ds d =
    let same = natives-longer h b n in
    record {
      emptied = λ m there. d.emptied m (subst (λ ns. Among m ns) same.0 there);
      reflectors = d.reflectors;
      natives_made = λ k m. subst (λ j. k ≤ j) (sym same.1) (d.natives_made k m);
      scripts_made = λ k m. subst (λ j. k ≤ j) (sym same.2) (d.scripts_made k m);
      unregistered = λ x m i. d.unregistered x m (subst (λ (a : View). Among x a.registers) (view-lengthen h b n) i);
      holder = λ x y e m. d.holder x y (subst (λ (a : View). Among (x, y) a.edges) (view-lengthen h b n) e) m;
      joint = λ e i m. d.joint e (subst (λ (a : View). Among e a.joints) (view-lengthen h b n) i) m;
    }

-- natives stay what they are
none_back-longer : (h : Heap) (b : Bank) (n : ℕ) → BringsNoneBack h (lengthen h b n)
none_back-longer h b n =
    let same = natives-longer h b n in
    record { made = omega (arith, same.1); natives = λ m there. inl (m, subst (λ ns. Among m ns) same.0 there, refl, refl) }

-- what is doomed stays doomed, too
pub doomed-longer : (h : Heap) (b : Bank) (n : ℕ) → KeepsDoomed h (lengthen h b n)
unfolding KeepsDoomed
doomed-longer h b n = (
  λ s ds keeps d. subst (λ (a : View). IsDoomed a s ds) (sym (view-lengthen h b n)) d,
  λ ds d. out-longer h b n ds d,
  λ ds keeps d. subst (λ (a : View). AreLost a ds) (sym (view-lengthen h b n)) d,
  none_back-longer h b n,
)

-- and so it does but for what is brought then
pub doomed_but-longer : (h k : Heap) (b : Bank) (n : ℕ) (x : Option Name) → KeepsDoomedBut x (lengthen h b n) k → KeepsDoomedBut x h k
unfolding KeepsDoomedBut
doomed_but-longer h k b n x f = (
  λ s ds keeps none d. f.0 s ds keeps none (subst (λ (a : View). IsDoomed a s ds) (sym (view-lengthen h b n)) d),
  λ ds none d. f.1 ds none (out-longer h b n ds d),
  λ ds keeps none d. f.2 ds keeps none (subst (λ (a : View). AreLost a ds) (sym (view-lengthen h b n)) d),
  none_back-then h (lengthen h b n) k (none_back-longer h b n) f.3,
)

-- the heaps stand for the graph whose bank is as long
pub stands-lengthen : (h : Heap) (b : Bank) (n : ℕ) → n ≤ most_roots → IsWellFormed h → StandsAfter h (lengthen h b n) (λ g. graph.lengthen g b n)
stands-lengthen h b n few w g m t = (lengthen-well g b n few m, lengthen-stands h g b n few w m t)

-- natives are led to nothing new,
pub leads-longer : (h : Heap) (n : ℕ) → LeadsBut [] h (lengthen h of_natives n)
leads-longer h n = let c = leads-same [] h in record {
  registers = c.registers;
  held = HeldOr-same [] h (lengthen h of_natives n) refl;
  edges = c.edges;
  there = c.there;
}

-- and a change once script registers have come leads to nothing but what it leads to before
pub leads-after_longer : (more : List Name) (h k : Heap) (n : ℕ) → LeadsBut more (lengthen h of_scripts n) k → LeadsBut more h k
leads-after_longer more h k n c = record {
  registers = λ x i. ⊎_elim
      (λ old. inl (subst (Among x) (contents-lengthened h.script_registers n) old))
      (λ new. inr new)
      (c.registers x i);
  held = c.held;
  edges = c.edges;
  there = c.there;
}

-- what is reached is reached
pub reached-longer : (h : Heap) (n : ℕ) (x : Option Name) → IsReached h x → IsReached (lengthen h of_natives n) x
reached-longer h n None p = tt
reached-longer h n (Some x) p = subst (λ (u : View). ReachedIn u x) (sym (view-lengthen h of_natives n)) p
