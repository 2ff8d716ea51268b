-- WEAK REGISTERS ARE NO ROOTS: whatever they note, a graph reaches the same; and heaps that stand for it stand for it still.
use Rattle.std.proofs.Common.{◌≡◌, ◌↔◌, ℕ, set, Option, option_map, refl, sym, ◌∙◌, subst}
use Rattle.cc_lists.specs.Members.{Among}
use Rattle.cc_names.specs.declared.name.Name.{Name}
use Rattle.cc_names.specs.declared.name.Name.TheVariants as name
use Rattle.cc_names.specs.declared.register.Reg.{Reg}
use Rattle.cc_names.specs.declared.register.Reg.TheVariants.{N, S, W}
use Rattle.cc_model.specs.Slots.{Slots}
use Rattle.cc_model.specs.Graph.{Graph, register, set_weak}
use Rattle.cc_model.specs.Reached.{Reached, held, edge, value, key, edges_of}
use Rattle.cc_model.specs.Given.{Given}
use Rattle.cc_model.specs.WellMade.{IsWellMade}
use Rattle.cc_model.specs.Heap.{Heap}
use Rattle.cc_model.specs.WellFormed.{IsWellFormed}
use Rattle.cc_model.specs.StandsFor.{shape_in, StandsFor}
use Rattle.cc_laws_heap.proofs.Holds.{OfSome}
use Rattle.cc_laws_heap.proofs.GraphReads.{MadeNative}
use Rattle.cc_laws_heap.proofs.GraphParts.{with_weak}
use Rattle.cc_laws_heap.proofs.GraphWrites.{IsWellMade-weak_register}
use Rattle.cc_laws_heap.proofs.Following.{Follows, stands-follows}
use Rattle.cc_laws_heap.proofs.Changing.{unchanged, option_map-same, IsChange-unchanged, Follows-changed}
use Rattle.cc_laws_heap.proofs.Standing.{follows-stands}

module _ (g : Graph) (ws : Slots) where
  -- registers hold what they held
  register-same : (r : Reg) → register (with_weak g ws) r ≡ register g r
  register-same (N r) = refl
  register-same (S r) = refl
  register-same (W r) = refl

  -- objects hold what they held
  edges_of-same : (x : Name) → edges_of (with_weak g ws) x ≡ edges_of g x
  edges_of-same (name.Native k) = refl
  edges_of-same (name.Script k) = refl
  edges_of-same (name.Reflector k) = refl

  -- what is reached was reached,
  reached-before : (x : Name) → Reached (with_weak g ws) x → Reached g x
  reached-before _ (held r x e) = held r x (sym (register-same r) ∙ e)
  reached-before _ (edge x y d i) = edge x y (reached-before x d) (subst (Among y) (edges_of-same x) i)
  reached-before _ (value e i a b) = value e i (reached-before e.the_map a) (reached-before e.key b)
  reached-before _ (key e d i q a b) = key e d i q (reached-before e.the_map a) (reached-before d b)

  -- and what was reached is
  reached-after : (x : Name) → Reached g x → Reached (with_weak g ws) x
  reached-after _ (held r x e) = held r x (register-same r ∙ e)
  reached-after _ (edge x y d i) = edge x y (reached-after x d) (subst (Among y) (sym (edges_of-same x)) i)
  reached-after _ (value e i a b) = value e i (reached-after e.the_map a) (reached-after e.key b)
  reached-after _ (key e d i q a b) = key e d i q (reached-after e.the_map a) (reached-after d b)

  -- objects have the shapes that they had
  shape_in-same : (x : Name) → shape_in (with_weak g ws) x ≡ option_map (unchanged x) (shape_in g x)
  shape_in-same (name.Native k) = option_map-same (shape_in g (name.Native k))
  shape_in-same (name.Script k) = option_map-same (shape_in g (name.Script k))
  shape_in-same (name.Reflector k) = option_map-same (shape_in g (name.Reflector k))

  -- heaps that follow a graph follow it
  Follows-weak : (P : Name → Type 0) (h : Heap) → Follows P h g → Follows P h (with_weak g ws)
  Follows-weak P h t = Follows-changed P unchanged h h g (with_weak g ws)
      (record { natives = λ n i. (n, i, refl, refl, refl); scripts = λ o i. (o, i, refl, refl) })
      shape_in-same
      (record { native_registers = refl; script_registers = refl; entries = refl; natives_made = refl; scripts_made = refl; limits = refl })
      (record { native_registers = refl; script_registers = refl; entries = refl; natives_made = refl; scripts_made = refl; limits = refl })
      (IsChange-unchanged P h g t) t

-- WHAT IS REACHED WHERE A WEAK REGISTER IS WRITTEN is what was reached before.
pub reached-weak : (g : Graph) (d : ℕ) (x : Option Name) (y : Name) → Reached (set_weak g d x) y ↔ Reached g y
reached-weak g d x y = (reached-before g (set g.weak_registers d x) y, reached-after g (set g.weak_registers d x) y)

-- HEAPS THAT FOLLOW A GRAPH follow it where a weak register is written.
pub Follows-weak_register : (P : Name → Type 0) (h : Heap) (g : Graph) (d : ℕ) (x : Option Name) → Follows P h g → Follows P h (set_weak g d x)
Follows-weak_register P h g d x t = Follows-weak g (set g.weak_registers d x) P h t

-- HEAPS THAT STAND FOR A GRAPH stand for it where a weak register is written with a native that was made.
pub weak-stands : (h : Heap) (g : Graph) (d : ℕ) (x : Option Name) → IsWellFormed h → IsWellMade g → StandsFor h g →
    OfSome (MadeNative g) x → StandsFor h (set_weak g d x)
weak-stands h g d x w m s made = follows-stands (Given h g) h (set_weak g d x) w (IsWellMade-weak_register g d x m made)
    (Follows-weak_register (Given h g) h g d x (stands-follows h g w s))
