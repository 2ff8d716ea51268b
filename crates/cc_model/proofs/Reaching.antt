-- What a graph reaches, by its own rules, is the least set of its list of rules.
use Rattle.std.specs.List.{flat_map}
use Rattle.std.specs.Prelude.{IsTrue}
use Rattle.std.proofs.Common.{◌≡◌, ◌↔◌, ℕ, zero, suc, ◌+◌, List, [], ◌∷◌, map, Option, Some, None, refl, sym, ap, subst, inl, inr, ⊎_elim, slice_index_or, slice_get, option_map, arith}
use Rattle.std.specs.Option.{option_and_then}
use Rattle.cc_lists.specs.Members.{Among, has}
use Rattle.cc_lists.specs.Least.{Least}
use Rattle.cc_lists.proofs.Members.{Among-map, Among-map_cases, Among-left, Among-right, Among-append, Among-flat_map, Among-flat_map_cases}
use Rattle.cc_lists.proofs.Closure.{closure-decides}
use Rattle.cc_lists.proofs.Least.{derive-root, derive-along}
use Rattle.cc_names.specs.declared.name.Name.{Name}
use Rattle.cc_names.specs.declared.name.Name.TheVariants.{Native, Script, Reflector}
use Rattle.cc_names.specs.declared.register.Reg.{Reg}
use Rattle.cc_names.specs.declared.register.Reg.TheVariants.{N, S, W}
use Rattle.cc_names.specs.Names.{native, object, reflector, same_name}
use Rattle.cc_names.proofs.NameTests.{same_name-exact}
use Rattle.cc_model.specs.Slots.{Slots, contents, from_to}
use Rattle.cc_model.specs.Entries.{Entry, Joint, joint, joints, rules_of}
use Rattle.cc_model.proofs.Joints.{Gives, its_value, its_key, value-joint, delegate-joint, joint-cases, derive-joint, derived-by_joints}
use Rattle.cc_model.specs.Checks.{slots_or_none}
use Rattle.cc_model.specs.Graph.{Graph, GraphNative, GraphScript, numbered, native_in, script_in, register}
use Rattle.cc_model.specs.Places.{places_of_made_native, places_of_made_script, places_of_made_reflector}
use Rattle.cc_model.specs.Reached.{Reached, held, edge, value, key, edges_of, edges_from, all_edges, names_of, numbers_from, with_reflector, roots_of, reach_rules, reached_names}

-- what stands at a place of the registers is among their contents
pub content-at : (x : Name) (slots : Slots) (r : ℕ) → slice_index_or slots r None ≡ Some x → Among x (contents slots)
content-at x [] r e = let bad : None ≡ Some x = e in cc
content-at x (o ∷ slots) zero e = at o e
  where
    at : (p : Option Name) → p ≡ Some x → Among x (contents (p ∷ slots))
    at None q = cc
    at (Some y) q = inl cc
content-at x (o ∷ slots) (suc r) e = later o (content-at x slots r e)
  where
    later : (p : Option Name) → Among x (contents slots) → Among x (contents (p ∷ slots))
    later None m = m
    later (Some y) m = inr m

-- and what is among the contents stands at a place
pub content-place : (x : Name) (slots : Slots) → Among x (contents slots) → (r : ℕ) × (slice_index_or slots r None ≡ Some x)
content-place x [] m = absurd m
content-place x (None ∷ slots) m = let k = content-place x slots m in (suc k.0, k.1)
content-place x (Some y ∷ slots) m =
    ⊎_elim (λ e. (0, ap (λ z. Some z) e)) (λ t. let k = content-place x slots t in (suc k.0, k.1)) m

-- a number at which a member stands is one of the numbers of the members
numbers-get : {X : Type 0} (xs : List X) (k i : ℕ) (x : X) → slice_get xs i ≡ Some x → Among (k + i) (numbers_from k xs)
numbers-get [] k i x e = let bad : None ≡ Some x = e in cc
numbers-get (y ∷ ys) k zero x e = inl (omega arith)
numbers-get (y ∷ ys) k (suc i) x e = inr (subst (λ n. Among n (numbers_from (k + 1) ys)) (omega arith) (numbers-get ys (k + 1) i x e))

numbers-of : {X : Type 0} (xs : List X) (k : ℕ) (x : X) → numbered xs k ≡ Some x → Among k (numbers_from 1 xs)
numbers-of xs zero x e = let bad : None ≡ Some x = e in cc
numbers-of xs (suc i) x e = subst (λ n. Among n (numbers_from 1 xs)) (omega arith) (numbers-get xs 1 i x e)

-- an object that was made stands among the names of all objects
pub native-named : (g : Graph) (k : ℕ) (n : GraphNative) → native_in g k ≡ Some n → (x : Name) → Among x (with_reflector k) → Among x (names_of g)
native-named g k n e x m = Among-left x (flat_map with_reflector (numbers_from 1 g.natives)) (map object (numbers_from 1 g.scripts))
    (Among-flat_map with_reflector k x (numbers_from 1 g.natives) (numbers-of g.natives k n e) m)

pub script-named : (g : Graph) (k : ℕ) (o : GraphScript) → script_in g k ≡ Some o → Among (object k) (names_of g)
script-named g k o e = Among-right (object k) (flat_map with_reflector (numbers_from 1 g.natives)) (map object (numbers_from 1 g.scripts))
    (Among-map object k (numbers_from 1 g.scripts) (numbers-of g.scripts k o e))

-- so does one that has an edge
pub with-edge-named : (g : Graph) (x y : Name) → Among y (edges_of g x) → Among x (names_of g)
with-edge-named g (Native k) y m = go (native_in g k.0) refl m
  where
    go : (o : Option GraphNative) → native_in g k.0 ≡ o → Among y (contents (slots_or_none (option_map (places_of_made_native k.0) o))) → Among (native k.0) (names_of g)
    go None e i = absurd i
    go (Some n) e i = native-named g k.0 n e (native k.0) (inl refl)
with-edge-named g (Script k) y m = go (script_in g k.0) refl m
  where
    go : (o : Option GraphScript) → script_in g k.0 ≡ o → Among y (contents (slots_or_none (option_map (places_of_made_script k.0) o))) → Among (object k.0) (names_of g)
    go None e i = absurd i
    go (Some n) e i = script-named g k.0 n e
with-edge-named g (Reflector k) y m = go (native_in g k.0) refl m
  where
    go : (o : Option GraphNative) → native_in g k.0 ≡ o → Among y (contents (slots_or_none (option_and_then (places_of_made_reflector k.0) o))) → Among (reflector k.0) (names_of g)
    go None e i = absurd i
    go (Some n) e i = native-named g k.0 n e (reflector k.0) (inr (inl refl))

root-among : (g : Graph) (r : Reg) (x : Name) → register g r ≡ Some x → Among x (roots_of g)
root-among g (N r) x e = Among-left x (contents g.native_registers) (contents g.script_registers) (content-at x g.native_registers r e)
root-among g (S r) x e = Among-right x (contents g.native_registers) (contents g.script_registers) (content-at x g.script_registers r e)
root-among g (W r) x e = absurd (content-at x [] r e)

-- what is reached is derived
pub reached-derived : (g : Graph) (x : Name) → Reached g x → Least (reach_rules g) x
reached-derived g _ (held r x e) = derive-root (roots_of g) (all_edges g) (rules_of (joints g.entries)) x (root-among g r x e)
reached-derived g _ (edge x y d m) = derive-along (roots_of g) (all_edges g) (rules_of (joints g.entries)) x y
    (Among-flat_map (edges_from g) x (from_to x y) (names_of g) (with-edge-named g x y m) (Among-map (from_to x) y (edges_of g x) m))
    (reached-derived g x d)
reached-derived g _ (value e m a b) = derive-joint (roots_of g) (all_edges g) (joints g.entries) (joint e.the_map e.key e.value)
    (value-joint g.entries e m) (reached-derived g e.the_map a) (reached-derived g e.key b)
reached-derived g _ (key e d m is a b) = derive-joint (roots_of g) (all_edges g) (joints g.entries) (joint e.the_map d e.key)
    (delegate-joint g.entries e d m is) (reached-derived g e.the_map a) (reached-derived g d b)

-- what the registers hold is reached
pub root-reached : (g : Graph) (x : Name) → Among x (roots_of g) → Reached g x
root-reached g x m = ⊎_elim
    (λ l. let k = content-place x g.native_registers l in held (N k.0) x k.1)
    (λ r. let k = content-place x g.script_registers r in held (S k.0) x k.1)
    (Among-append x (contents g.native_registers) (contents g.script_registers) m)

-- what an edge of a reached object leads to is reached
pub edge-reached : (g : Graph) (x y : Name) → Among (x, y) (all_edges g) → Reached g x → Reached g y
edge-reached g x y m d =
    let k = Among-flat_map_cases (edges_from g) (names_of g) (x, y) m in
    let l = Among-map_cases (from_to k.0) (edges_of g k.0) (x, y) k.2 in
    let source : k.0 ≡ x = ap (λ (p : Name × Name). p.0) l.2 in
    let target : l.0 ≡ y = ap (λ (p : Name × Name). p.1) l.2 in
    subst (Reached g) target (edge k.0 l.0 (subst (Reached g) (sym source) d) l.1)

-- what an entry gives whose members are reached is reached
pub joint-reached : (g : Graph) (j : Joint) → Among j (joints g.entries) → Reached g j.the_map → Reached g j.key → Reached g j.value
joint-reached g j m = let f = joint-cases g.entries j m in given f.0 f.1 j f.2
  where
    given : (e : Entry) → Among e g.entries → (i : Joint) → Gives e i → Reached g i.the_map → Reached g i.key → Reached g i.value
    given e at _ its_value a b = value e at a b
    given e at _ (its_key d is) a b = key e d at is a b

-- what is derived is reached
pub derived-reached : (g : Graph) (x : Name) → Least (reach_rules g) x → Reached g x
derived-reached g = derived-by_joints (roots_of g) (all_edges g) (joints g.entries) (Reached g) (root-reached g) (edge-reached g) (joint-reached g)

-- what is reached is decided by the list of reached names
pub reached-decided : (g : Graph) (x : Name) → IsTrue (has same_name (reached_names g) x) ↔ Reached g x
reached-decided g x = (
  (λ e. derived-reached g x ((closure-decides same_name same_name-exact (reach_rules g) x).0 e)),
  (λ d. (closure-decides same_name same_name-exact (reach_rules g) x).1 (reached-derived g x d)),
)
