-- WHAT IS REACHED, AND WHAT IS GIVEN, IN A GRAPH is what is so in heaps that stand for it, of what is there; and all of it is there.
use Rattle.std.proofs.Common.{arith, ◌≡◌, List, [], ◌∷◌, ◌++◌, Some, sym, ◌∙◌, ap, subst, inl, inr, ⊎_elim}
use Rattle.cc_lists.specs.Members.{Among}
use Rattle.cc_lists.proofs.Members.{Among-left}
use Rattle.cc_lists.proofs.Least.{derive-root, derive-along}
use Rattle.cc_names.specs.declared.name.Name.{Name}
use Rattle.cc_model.specs.Slots.{Slots, contents}
use Rattle.cc_model.specs.Entries.{Entry, Joint, joint, joints, rules_of}
use Rattle.cc_model.proofs.Joints.{Gives, its_value, its_key, value-joint, delegate-joint, joint-cases, derive-joint, derived-by_joints}
use Rattle.cc_model.specs.Graph.{Graph, delegate_in}
use Rattle.cc_model.specs.Reached.{Reached, edges_of, roots_of}
use Rattle.cc_model.specs.Given.{GivenFrom, given, given_edge, given_value, given_key, Given, living_names}
use Rattle.cc_model.specs.WellMade.{IsWellMade}
use Rattle.cc_model.specs.Heap.{Heap}
use Rattle.cc_model.specs.View.{view, LedFrom, ReachedIn}
use Rattle.cc_model.specs.WellFormed.{IsWellFormed, names_there}
use Rattle.cc_model.specs.StandsFor.{Shape, shape_in, ArePart, StandsFor}
use Rattle.cc_laws_heap.proofs.Given.{reached-given_from, given_from-reached, given_from-grows, Reached-given}
use Rattle.cc_laws_heap.proofs.EntryLists.{found-among, found-only}
use Rattle.cc_laws_heap.proofs.Shapes.{edges_of_shape, edges_of_some, edges_of-shape}
use Rattle.cc_laws_heap.proofs.HeapShapes.{shape_at-there, edge-held, held-edge}

-- what stands in a part of a list stands in the list
pub ArePart-among : {X : Type 0} (xs ys : List X) (x : X) → ArePart xs ys → Among x xs → Among x ys
ArePart-among [] ys x p m = absurd m
ArePart-among (z ∷ zs) [] x p m = absurd p
ArePart-among (z ∷ zs) (y ∷ ys) x p m = ⊎_elim
    (λ s. ⊎_elim (λ e. inl (sym s.0 ∙ e)) (λ t. inr (ArePart-among zs ys x s.1 t)) m)
    (λ t. inr (ArePart-among (z ∷ zs) ys x t m)) p

-- nothing is part of any list
pub ArePart-none : {X : Type 0} (ys : List X) → ArePart [] ys
ArePart-none e = grind arith

-- a part of a list is part of a longer one
pub ArePart-skip : {X : Type 0} (xs : List X) (y : X) (ys : List X) → ArePart xs ys → ArePart xs (y ∷ ys)
ArePart-skip [] y ys p = tt
ArePart-skip (x ∷ xs) y ys p = inr p

-- where an object of the graph has a shape, its edges are those of the shape
pub edges_of-made : (g : Graph) (x : Name) (s : Shape) → shape_in g x ≡ Some s → edges_of g x ≡ edges_of_shape x s
edges_of-made g x s e = edges_of-shape g x ∙ ap (edges_of_some x) e

-- All that is given is in the heaps,
pub given-there : (h : Heap) (g : Graph) (x : Name) → StandsFor h g → Given h g x → Among x (names_there h)
given-there h g x s d = let k = s.given x d in shape_at-there h x k.shape k.there

-- and all that is reached in the graph.
pub reached-there : (h : Heap) (g : Graph) (x : Name) → StandsFor h g → Reached g x → Among x (names_there h)
reached-there h g x s d = given-there h g x s (Reached-given h g x d)

module _ (h : Heap) (g : Graph) (w : IsWellFormed h) (m : IsWellMade g) (s : StandsFor h g) where
  -- the entry of a given map and a given key is there
  pub here : (e : Entry) → Among e g.entries → Given h g e.the_map → Given h g e.key →
      (f : Entry) × Among f h.entries × (f.the_map ≡ e.the_map) × (f.key ≡ e.key) × (f.value ≡ e.value)
  here e i a b = found-among h.entries e.the_map e.key e.value (s.values e.the_map e.key a b ∙ found-only g.entries e (m.one_entry e.the_map e.key) i)

  -- entries of one key have one delegate
  pub same_delegate : (e : Entry) → Among e g.entries → (f : Entry) → Among f h.entries → f.key ≡ e.key → f.delegate ≡ e.delegate
  same_delegate e i f j q = (m.entries f (ArePart-among h.entries g.entries f s.entries j)).delegate ∙ (ap (delegate_in g) q ∙ sym (m.entries e i).delegate)

  module _ (xs : List Name) (starts : (x : Name) → Among x xs → Given h g x) where
    -- what is led to from given names is given
    led-given : (x : Name) → GivenFrom g xs x → Given h g x
    led-given = given_from-grows g xs (roots_of g ++ living_names h) starts

    -- WHAT GIVEN NAMES LEAD TO in the graph they lead to in the heaps.
    pub given_from-in : (x : Name) → GivenFrom g xs x → LedFrom (view h) xs x
    given_from-in _ (given x i) = derive-root xs (view h).edges (rules_of (joints h.entries)) x i
    given_from-in _ (given_edge x y d i) =
        let k = s.given x (led-given x d) in
        derive-along xs (view h).edges (rules_of (joints h.entries)) x y
        (held-edge h w x y k.shape k.there (subst (Among y) (edges_of-made g x k.shape k.made) i)) (given_from-in x d)
    given_from-in _ (given_value e i a b) =
        let f = here e i (led-given e.the_map a) (led-given e.key b) in
        subst (LedFrom (view h) xs) f.4
        (derive-joint xs (view h).edges (joints h.entries) (joint f.0.the_map f.0.key f.0.value) (value-joint h.entries f.0 f.1)
        (subst (LedFrom (view h) xs) (sym f.2) (given_from-in e.the_map a)) (subst (LedFrom (view h) xs) (sym f.3) (given_from-in e.key b)))
    given_from-in _ (given_key e d i q a b) =
        let f = here e i (led-given e.the_map a) (led-given e.key (given_key e d i q a b)) in
        subst (LedFrom (view h) xs) f.3
        (derive-joint xs (view h).edges (joints h.entries) (joint f.0.the_map d f.0.key) (delegate-joint h.entries f.0 d f.1 (same_delegate e i f.0 f.1 f.3 ∙ q))
        (subst (LedFrom (view h) xs) (sym f.2) (given_from-in e.the_map a)) (given_from-in d b))

    -- What given names lead to in the heaps they lead to in the graph.
    pub in-given_from : (x : Name) → LedFrom (view h) xs x → GivenFrom g xs x
    in-given_from = derived-by_joints xs (view h).edges (joints h.entries) (GivenFrom g xs) (λ x i. given x i) along jointly
      where
        along : (x y : Name) → Among (x, y) (view h).edges → GivenFrom g xs x → GivenFrom g xs y
        along x y i d =
            let f = edge-held h w x y i in
            let k = s.given x (led-given x d) in
            let both : Some k.shape ≡ Some f.0 = sym k.there ∙ f.1 in
            let same : k.shape ≡ f.0 = cc in
            given_edge x y d (subst (Among y) (sym (edges_of-made g x k.shape k.made)) (subst (λ t. Among y (edges_of_shape x t)) (sym same) f.2))

        gives : (e : Entry) → Among e g.entries → (j : Joint) → Gives e j → GivenFrom g xs j.the_map → GivenFrom g xs j.key → GivenFrom g xs j.value
        gives e i _ its_value a b = given_value e i a b
        gives e i _ (its_key d q) a b = given_key e d i q a b

        jointly : (j : Joint) → Among j (joints h.entries) → GivenFrom g xs j.the_map → GivenFrom g xs j.key → GivenFrom g xs j.value
        jointly j i = let k = joint-cases h.entries j i in gives k.0 (ArePart-among h.entries g.entries k.0 s.entries k.1) j k.2

  -- the registers have what those of the graph have
  pub roots-same : (view h).registers ≡ roots_of g
  roots-same = ap (λ (b : Slots). contents b ++ contents h.script_registers) s.native_registers ∙ ap (λ (b : Slots). contents g.native_registers ++ contents b) s.script_registers

  -- what they have is given
  root-given : (x : Name) → Among x (roots_of g) → Given h g x
  root-given x i = given x (Among-left x (roots_of g) (living_names h) i)

  -- WHAT IS GIVEN is what the registers, and natives of the heaps that were not unlinked, lead to in the heaps.
  pub given-in : (x : Name) → Given h g x → LedFrom (view h) ((view h).registers ++ living_names h) x
  given-in x d = subst (λ ys. LedFrom (view h) (ys ++ living_names h) x) (sym roots-same)
      (given_from-in (roots_of g ++ living_names h) (λ y i. given y i) x d)

  -- What the registers, and natives of the heaps that were not unlinked, lead to in the heaps is given.
  pub in-given : (x : Name) → LedFrom (view h) ((view h).registers ++ living_names h) x → Given h g x
  in-given x d = in-given_from (roots_of g ++ living_names h) (λ y i. given y i) x (subst (λ ys. LedFrom (view h) (ys ++ living_names h) x) roots-same d)

  -- WHAT IS REACHED in the graph is reached in the heaps.
  pub reached-in : (x : Name) → Reached g x → ReachedIn (view h) x
  reached-in x d = subst (λ ys. LedFrom (view h) ys x) (sym roots-same) (given_from-in (roots_of g) root-given x (reached-given_from g (roots_of g) (λ y i. i) x d))

  -- What is reached in the heaps is reached in the graph.
  pub in-reached : (x : Name) → ReachedIn (view h) x → Reached g x
  in-reached x d = given_from-reached g x (in-given_from (roots_of g) root-given x (subst (λ ys. LedFrom (view h) ys x) roots-same d))
