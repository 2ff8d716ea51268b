-- WHAT THE GRAPH GIVES FROM NAMES, as a list: so it can be told whether a name may be back.
use Rattle.std.proofs.Common.{◌≡◌, ℕ, Bool, true, false, ◌||◌, List, refl, sym, ap, subst, inl, inr, ⊎_elim}
use Rattle.std.specs.List.{list_any}
use Rattle.std.proofs.lemmas.Bool.{or_cases, or_left, or_right, false≢true}
use Rattle.cc_lists.specs.Members.{Among, has}
use Rattle.cc_lists.specs.Least.{Least, system, closure}
use Rattle.cc_lists.proofs.Members.{Among-map, Among-map_cases, Among-flat_map, Among-flat_map_cases}
use Rattle.cc_lists.proofs.Closure.{closure-decides}
use Rattle.cc_lists.proofs.Least.{derive-root, derive-along}
use Rattle.cc_names.specs.declared.name.Name.{Name}
use Rattle.cc_names.specs.declared.name.Name.TheVariants as name
use Rattle.cc_names.specs.Names.{native, reflector, same_name, behind}
use Rattle.cc_names.proofs.NameTests.{same_name-exact}
use Rattle.cc_model.specs.Slots.{from_to}
use Rattle.cc_model.specs.Entries.{Entry, Joint, joint, joints, rules_of}
use Rattle.cc_model.proofs.Joints.{Gives, its_value, its_key, value-joint, delegate-joint, joint-cases, derive-joint, derived-by_joints}
use Rattle.cc_model.specs.Graph.{Graph}
use Rattle.cc_model.specs.Reached.{edges_of, edges_from, all_edges, names_of}
use Rattle.cc_model.proofs.Reaching.{with-edge-named}
use Rattle.cc_model.specs.Given.{GivenFrom, given, given_edge, given_value, given_key}
use Rattle.cc_laws_run.specs.Returning.{MayBeBack}

module _ (g : Graph) (met : List Name) where
  -- what some names give, as a list
  abbrev pub given_names : List Name
  given_names = closure same_name (system met (all_edges g) (rules_of (joints g.entries)))

  -- what is given is derived by rules in a list
  given-derived : (x : Name) → GivenFrom g met x → Least (system met (all_edges g) (rules_of (joints g.entries))) x
  given-derived _ (given x m) = derive-root met (all_edges g) (rules_of (joints g.entries)) x m
  given-derived _ (given_edge x y d m) = derive-along met (all_edges g) (rules_of (joints g.entries)) x y
      (Among-flat_map (edges_from g) x (from_to x y) (names_of g) (with-edge-named g x y m) (Among-map (from_to x) y (edges_of g x) m))
      (given-derived x d)
  given-derived _ (given_value e m a b) = derive-joint met (all_edges g) (joints g.entries) (joint e.the_map e.key e.value)
      (value-joint g.entries e m) (given-derived e.the_map a) (given-derived e.key b)
  given-derived _ (given_key e d m is a b) = derive-joint met (all_edges g) (joints g.entries) (joint e.the_map d e.key)
      (delegate-joint g.entries e d m is) (given-derived e.the_map a) (given-derived d b)

  -- what a joint gives of what is given is given
  pub joint-given : (e : Entry) → Among e g.entries → (j : Joint) → Gives e j → GivenFrom g met j.the_map → GivenFrom g met j.key → GivenFrom g met j.value
  joint-given e at _ its_value a b = given_value e at a b
  joint-given e at _ (its_key d is) a b = given_key e d at is a b

  -- what is derived by the rules is given
  derived-given : (x : Name) → Least (system met (all_edges g) (rules_of (joints g.entries))) x → GivenFrom g met x
  derived-given = derived-by_joints met (all_edges g) (joints g.entries) (GivenFrom g met) (λ x m. given x m) along
      (λ j m. let f = joint-cases g.entries j m in joint-given f.0 f.1 j f.2)
    where
      along : (x y : Name) → Among (x, y) (all_edges g) → GivenFrom g met x → GivenFrom g met y
      along x y m d =
          let k = Among-flat_map_cases (edges_from g) (names_of g) (x, y) m in
          let l = Among-map_cases (from_to k.0) (edges_of g k.0) (x, y) k.2 in
          let source : k.0 ≡ x = ap (λ (p : Name × Name). p.0) l.2 in
          let target : l.0 ≡ y = ap (λ (p : Name × Name). p.1) l.2 in
          subst (GivenFrom g met) target (given_edge k.0 l.0 (subst (GivenFrom g met) (sym source) d) l.1)

  -- whether a name may be back
  abbrev pub may_be_back : Name → Bool
  may_be_back x = has same_name given_names x || list_any (λ k. has same_name given_names (native k)) (behind x)

  -- a name in the list is given
  listed-given : (x : Name) → has same_name given_names x ≡ true → GivenFrom g met x
  listed-given x e = derived-given x ((closure-decides same_name same_name-exact (system met (all_edges g) (rules_of (joints g.entries))) x).0 e)

  -- what is given is in the list
  given-listed : (x : Name) → GivenFrom g met x → has same_name given_names x ≡ true
  given-listed x d = (closure-decides same_name same_name-exact (system met (all_edges g) (rules_of (joints g.entries))) x).1 (given-derived x d)

  -- WHAT PASSES THE TEST may be back.
  pub test-back : (x : Name) → may_be_back x ≡ true → MayBeBack g met x
  test-back x e = ⊎_elim (λ l. inl (listed-given x l)) (λ r. inr (of x r))
      (or_cases (has same_name given_names x) (list_any (λ k. has same_name given_names (native k)) (behind x)) e)
    where
      of : (z : Name) → list_any (λ k. has same_name given_names (native k)) (behind z) ≡ true → (k : ℕ) × (z ≡ reflector k) × GivenFrom g met (native k)
      of (name.Native k) r = absurd (false≢true r)
      of (name.Script k) r = absurd (false≢true r)
      of (name.Reflector k) r = (k.0, refl, listed-given (native k.0) (⊎_elim (λ l. l) (λ n. absurd (false≢true n)) (or_cases (has same_name given_names (native k.0)) false r)))

  -- WHAT MAY BE BACK passes the test.
  pub back-test : (x : Name) → MayBeBack g met x → may_be_back x ≡ true
  back-test x b = ⊎_elim
      (λ l. or_left (has same_name given_names x) (list_any (λ k. has same_name given_names (native k)) (behind x)) (given-listed x l))
      (λ r. subst (λ z. may_be_back z ≡ true) (sym r.1)
      (or_right (has same_name given_names (reflector r.0)) (has same_name given_names (native r.0) || false)
      (or_left (has same_name given_names (native r.0)) false (given-listed (native r.0) r.2)))) b
