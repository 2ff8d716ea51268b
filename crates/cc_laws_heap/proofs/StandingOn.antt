-- THE HEAPS STAND FOR THE GRAPH AS BEFORE where natives leave, and where natives are unlinked to which nothing leads that is left.
use Rattle.std.proofs.Common.{arith, ◌≡◌, ℕ, true, false, List, ◌∷◌, Some, sym, ◌∙◌, ap, subst, inl, inr, ◌⊎◌, ⊎_elim}
use Rattle.std.proofs.lemmas.Bool.{true≢false}
use Rattle.cc_lists.specs.Members.{Among}
use Rattle.cc_names.specs.declared.name.Name.{Name}
use Rattle.cc_names.specs.Names.{native}
use Rattle.cc_model.specs.Graph.{Graph}
use Rattle.cc_model.specs.WellMade.{IsWellMade}
use Rattle.cc_model.specs.Given.{Given, living_names}
use Rattle.cc_model.specs.Heap.{Heap, HeapNative}
use Rattle.cc_model.specs.Cascade.{add_ref, cascade}
use Rattle.cc_model.specs.WellFormed.{IsWellFormed, native_names}
use Rattle.cc_model.specs.StandsFor.{shape_in, shape_of_held_native, IsEmptied, StandsFor}
use Rattle.cc_laws_heap.specs.Sound.{IsSound}
use Rattle.cc_laws_heap.specs.Freeing.{uncounted, SameBeside}
use Rattle.cc_laws_heap.proofs.Natives.{named-member}
use Rattle.cc_laws_heap.proofs.Cascades.{cascade-sound, cascade-frees}
use Rattle.cc_laws_heap.proofs.HoldsTheSame.{HoldsTheSame-add_ref}
use Rattle.cc_laws_heap.proofs.Owning.{add_ref-sound}
use Rattle.cc_laws_heap.proofs.Given.{living-given}
use Rattle.cc_laws_heap.proofs.Following.{IsClosed, NativeFollows, AreEntries, Follows, given_from-closed, stands-follows}
use Rattle.cc_laws_heap.proofs.Standing.{follows-stands}
use Rattle.cc_laws_heap.proofs.Leaving.{IsOf, IsOf-frees, IsOf-alike}
use Rattle.cc_laws_heap.proofs.Staying.{uncounted-emptied}

-- a native that was there, and was unlinked since, of which `P` does not hold
pub record IsEmptiedOf (P : Name → Type 0) (h : Heap) (n : HeapNative) : Type 0 where
  pub there : Among (native n.number) (native_names h)
  pub emptied : IsEmptied n
  pub apart : ¬ (P (native n.number))

-- a native is as it was, but for its count, and `P` holds of it unless it was unlinked; or it was unlinked since
abbrev pub StandsOn : (Name → Type 0) → Heap → HeapNative → Type 0
StandsOn P h n = (IsOf h n × (n.unlinked ≡ false → P (native n.number))) ⊎ IsEmptiedOf P h n

-- natives that are the same but for their counts have one name and one shape
pub uncounted-name : (m n : HeapNative) → uncounted m ≡ uncounted n → native m.number ≡ native n.number
uncounted-name m n e = ap (λ (u : HeapNative). native u.number) e

uncounted-shape : (m n : HeapNative) → uncounted m ≡ uncounted n → shape_of_held_native m ≡ shape_of_held_native n
uncounted-shape m n e = grind arith

-- natives that are the same but for their counts were both unlinked, or neither
pub uncounted-flag : (m n : HeapNative) → uncounted m ≡ uncounted n → m.unlinked ≡ n.unlinked
uncounted-flag m n e = ap (λ (u : HeapNative). u.unlinked) e

-- HEAPS OF WHICH EACH NATIVE STANDS ON stand for the graph that the heaps before stood for.
pub stands-on : (P : Name → Type 0) (h k : Heap) (g : Graph) → IsWellFormed h → IsWellFormed k → IsWellMade g → SameBeside h k →
    IsClosed P g → ((x : Name) → P x → Given h g x) → ((n : HeapNative) → Among n k.natives → StandsOn P h n) → StandsFor h g → StandsFor k g
stands-on P h k g w v m b closed was on s = follows-stands P k g v m (record {
  beside = record {
    native_registers = b.native_registers ∙ f.beside.native_registers;
    script_registers = b.script_registers ∙ f.beside.script_registers;
    limits = b.limits ∙ f.beside.limits;
    natives_made = b.natives_made ∙ f.beside.natives_made;
    scripts_made = b.scripts_made ∙ f.beside.scripts_made;
  };
  objects = record {
    natives = λ n i. ⊎_elim (λ o. same n o.0) (empty n) (on n i);
    living = λ n i u. ⊎_elim (λ o. o.1 u) (λ e. absurd (true≢false (sym e.emptied.unlinked ∙ u))) (on n i);
    spent = λ n i u p. ⊎_elim (λ o. spent n u (was (native n.number) p) o.0) (λ e. e.apart p) (on n i);
    alike = λ n i p. ⊎_elim (λ o. kept n (was (native n.number) p) o.0) (λ e. absurd (e.apart p)) (on n i);
    scripts = λ o i. f.objects.scripts o (subst (λ os. Among o os) b.scripts i);
    named = λ o i. f.objects.named o (subst (λ os. Among o os) b.scripts i);
  };
  entries = subst (λ es. AreEntries P es g.entries) (sym b.entries) (record {
    values = λ a c p q. f.entries.values a c (was a p) (was c q);
    part = f.entries.part;
  });
  blank = f.blank;
  closed = closed;
})
  where
    f : Follows (Given h g) h g
    f = stands-follows h g w s

    same : (n : HeapNative) → IsOf h n → NativeFollows g n
    same n o =
        let t = f.objects.natives o.0 o.1 in (
          t.0,
          ap (shape_in g) (sym (uncounted-name o.0 n o.2)) ∙ t.1,
          ⊎_elim (λ e. inl (sym (uncounted-shape o.0 n o.2) ∙ e)) (λ e. inr (uncounted-emptied o.0 n o.2 e)) t.2,
        )

    empty : (n : HeapNative) → IsEmptiedOf P h n → NativeFollows g n
    empty n e =
        let o = named-member h n.number e.there in
        let t = f.objects.natives o.0 o.1 in
        (t.0, ap (λ j. shape_in g (native j)) (sym o.2) ∙ t.1, inr e.emptied)

    spent : (n : HeapNative) → n.unlinked ≡ true → Given h g (native n.number) → ¬ (IsOf h n)
    spent n u d o = s.spent o.0 o.1 (uncounted-flag o.0 n o.2 ∙ u) (subst (Given h g) (sym (uncounted-name o.0 n o.2)) d)

    kept : (n : HeapNative) → Given h g (native n.number) → IsOf h n → shape_in g (native n.number) ≡ Some (shape_of_held_native n)
    kept n d o =
        let name = uncounted-name o.0 n o.2 in
        ap (shape_in g) (sym name)
        ∙ (f.objects.alike o.0 o.1 (subst (Given h g) (sym name) d)
        ∙ ap (λ t. Some t) (uncounted-shape o.0 n o.2))

-- HEAPS OF WHICH EACH NATIVE IS AS IT WAS, but for its count, stand for the graph that the heaps before stood for.
pub stands-counted : (h k : Heap) (g : Graph) → IsWellFormed h → IsWellFormed k → IsWellMade g → SameBeside h k →
    ((n : HeapNative) → Among n k.natives → IsOf h n) → StandsFor h g → StandsFor k g
stands-counted h k g w v m b of = stands-on (Given h g) h k g w v m b (given_from-closed g (living_names h)) (λ x d. d)
    (λ n i. let o = of n i in
    inl (o, λ u. subst (Given h g) (uncounted-name o.0 n o.2) (living-given h g o.0 o.1 (uncounted-flag o.0 n o.2 ∙ u))))

-- A reference taken: they stand as before.
pub add_ref-stands : (owned : List ℕ) (h : Heap) (g : Graph) (k : ℕ) → IsSound owned h → Among (native k) (native_names h) → IsWellMade g →
    StandsFor h g → StandsFor (add_ref h k) g
add_ref-stands owned h g k s there m t =
    let a = HoldsTheSame-add_ref h k in
    stands-counted h (add_ref h k) g s.well_formed (add_ref-sound owned h k there s).well_formed m a.beside
    (IsOf-alike h (add_ref h k) a.natives) t

-- A cascade: they stand as before.
pub cascade-stands : (owned : List ℕ) (h : Heap) (g : Graph) (k : ℕ) → IsSound (k ∷ owned) h → IsWellMade g → StandsFor h g →
    StandsFor (cascade h k).heap g
cascade-stands owned h g k s m t =
    let f = cascade-frees owned h k s in
    stands-counted h (cascade h k).heap g s.well_formed (cascade-sound owned h k s).well_formed m f.1.beside
    (IsOf-frees h f.0 (cascade h k) f.1) t
