-- OBJECTS BY THEIR KEYS: what keeps its name stays there, and so do the names of entries.
use Rattle.std.proofs.Common.{◌≡◌, ℕ, false, List, ◌∷◌, Option, Some, None, option_map, refl, sym, ◌∙◌, ap, subst, inl, inr}
use Rattle.std.specs.Prelude.{IsTrue}
use Rattle.std.specs.Option.{is_some, option_to_list}
use Rattle.cc_laws_heap.proofs.Face.{is_some-found, option_map-found}
use Rattle.cc_lists.specs.Members.{Among}
use Rattle.cc_names.specs.declared.name.Name.{Name}
use Rattle.cc_names.specs.Names.{object, is_native}
use Rattle.cc_model.specs.Entries.{entry}
use Rattle.cc_counted.specs.Owning.{HasKeys}
use Rattle.cc_script.specs.Objects.{Object, AreWhole, object_at, is_there, name_at}
use Rattle.cc_weakmaps.specs.Entries.{KeyedEntry}
use Rattle.cc_marking.specs.Marking.{IsEntryThere}
use Rattle.cc_heaps.specs.Keyed.{IsInOrder, name_held, the_name_at, named_entry}
use Rattle.cc_heaps.specs.Fields.{keyed_of, IsLinked}
use Rattle.cc_heaps.specs.declared.heaps.Heaps.TheInside.{Inside}
use Rattle.cc_heaps.proofs.Keying.{counts-back}
use Rattle.cc_heaps.proofs.Reaching.{HasOneKey, HasOneName}

-- Objects by key

-- what is there has a name
pub there-named : (objects : List Object) (key : ℕ) → IsTrue (is_there objects key) → (x : Name) × (name_at objects key ≡ Some x)
there-named objects key t = let f = is_some-found (object_at objects key) t in (f.0.name, ap (option_map (λ (o : Object). o.name)) f.1)

-- and what has a name is there
pub named-there : (objects : List Object) (key : ℕ) (x : Name) → name_at objects key ≡ Some x → IsTrue (is_there objects key)
named-there objects key x e = ap is_some (option_map-found (λ (o : Object). o.name) (object_at objects key) x e).1

-- what keeps its name stays there
pub there-kept : (os ps : List Object) (key : ℕ) → name_at ps key ≡ name_at os key → IsTrue (is_there os key) → IsTrue (is_there ps key)
there-kept os ps key e t = let n = there-named os key t in named-there ps key n.0 (e ∙ n.1)

-- what there has to be of the objects alone
pub record AreObjects (objects : List Object) : Type 0 where
  pub one_key : HasOneKey objects
  pub one_name : HasOneName objects
  pub script_names : (o : Object) → Among o objects → is_native o.name ≡ false
  pub whole : AreWhole objects

-- The parts with other objects

abbrev pub with_objects : Inside → List Object → Inside
with_objects p objects = record p { scripts = objects }

-- the keys that an entry has
abbrev pub members : KeyedEntry → List ℕ
members e = e.the_map ∷ e.key ∷ e.value ∷ option_to_list e.delegate

-- an entry has the names that it had, where its members do
pub entry-same : (os ps : List Object) (e : KeyedEntry) → ((key : ℕ) → Among key (members e) → name_at os key ≡ name_at ps key) →
    named_entry os e ≡ named_entry ps e
entry-same os ps e same = λ i. entry
    (at e.the_map (same e.the_map (inl refl)) i)
    (at e.key (same e.key (inr (inl refl))) i)
    (held e.delegate (λ k m. same k (inr (inr (inr m)))) i)
    (at e.value (same e.value (inr (inr (inl refl)))) i)
  where
    at : (k : ℕ) → name_at os k ≡ name_at ps k → the_name_at os k ≡ the_name_at ps k
    at k = ap (λ (x : Option Name). elim x [ None ↦ object 0 | Some y ↦ y ])

    held : (d : Option ℕ) → ((key : ℕ) → Among key (option_to_list d) → name_at os key ≡ name_at ps key) → name_held os d ≡ name_held ps d
    held None f = refl
    held (Some k) f = f k (inl refl)

-- and what it names is there still
pub entry-there : (os ps : List Object) (e : KeyedEntry) → ((key : ℕ) → Among key (members e) → name_at ps key ≡ name_at os key) →
    IsEntryThere os e → IsEntryThere ps e
entry-there os ps e same there = record {
  the_map = there-kept os ps e.the_map (same e.the_map (inl refl)) there.the_map;
  key = there-kept os ps e.key (same e.key (inr (inl refl))) there.key;
  value = there-kept os ps e.value (same e.value (inr (inr (inl refl)))) there.value;
  delegate = λ d is. there-kept os ps d (same d (inr (inr (inr (subst (λ o. Among d (option_to_list o)) (sym is) (inl refl)))))) (there.delegate d is);
}

-- the keys of natives are those of the counted heap
pub keys-counted : (owned : List ℕ) (p : Inside) → IsLinked p → IsInOrder owned (keyed_of p) → HasKeys p.counted
keys-counted owned p l o = subst HasKeys (counts-back p l) o.keyed
