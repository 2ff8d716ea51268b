-- WHAT WAS FOUND is what the registers reach.
use Rattle.std.proofs.Common.{◌≡◌, Bool, true, false, not, List, ◌∙◌, ap, sym, refl, subst, ⊎_elim}
use Rattle.std.specs.List.{filter}
use Rattle.cc_lists.specs.Members.{Among, has}
use Rattle.cc_lists.proofs.Members.{Among-append, Among-filter, Among-filtered, Among-left, Among-right, has-among, has-there}
use Rattle.cc_names.specs.declared.name.Name.{Name}
use Rattle.cc_names.specs.Names.{same_name, is_native, is_script}
use Rattle.cc_names.proofs.NameTests.{same_name-exact}
use Rattle.cc_model.specs.Derivations.{named}
use Rattle.cc_model.specs.Graph.{Graph}
use Rattle.cc_model.specs.Listed.{census_order}
use Rattle.cc_model.specs.Quiet.{ListsReached}
use Rattle.cc_model.specs.Reached.{Reached}
use Rattle.cc_model.specs.WellMade.{IsWellMade}
use Rattle.cc_model.proofs.PathsFollow.{led-reached}
use Rattle.cc_model.specs.Lawful.{state_of}
use Rattle.cc_laws_heap.proofs.Face.{reached-led}
use Rattle.cc_check.specs.declared.known.Known.{Known}
use Rattle.cc_check.specs.Standing.{IsFoundIn}

module _ (g : Graph) (k : Known) (x : Name) (w : IsWellMade g) (found : IsFoundIn k g) where
  -- what is reached was found
  pub reached-found : Reached g x → has same_name (named k.reach) x ≡ true
  reached-found r = ap (λ steps. has same_name (named steps) x) found ∙ reached-led g w x r

  -- what was found is reached
  pub found-reached : has same_name (named k.reach) x ≡ true → Reached g x
  found-reached e = led-reached g x (sym (ap (λ steps. has same_name (named steps) x) found) ∙ e)

-- A census has what is listed

census-there : (names : List Name) (x : Name) → Among x names → Among x (census_order names)
census-there names x m = go (is_native x) refl
  where
    go : (b : Bool) → is_native x ≡ b → Among x (census_order names)
    go true e = Among-left x (filter is_native names) (filter is_script names) (Among-filter is_native x names m e)
    go false e = Among-right x (filter is_native names) (filter is_script names) (Among-filter is_script x names m (ap not e))

pub census-listed : (names : List Name) (x : Name) → Among x (census_order names) → Among x names
census-listed names x m = ⊎_elim
    (λ a. Among-filtered is_native x names a)
    (λ b. Among-filtered is_script x names b)
    (Among-append x (filter is_native names) (filter is_script names) m)

module _ (g : Graph) (k : Known) (w : IsWellMade g) (found : IsFoundIn k g) (listed ended names : List Name) (census : names ≡ census_order listed) where
  -- EXACTLY THE REACHED OBJECTS ARE LISTED where all that is listed was found, and all that was found is listed,
  pub exactly-from : ((x : Name) → Among x names → Among x (named k.reach)) → ((x : Name) → Among x (named k.reach) → Among x listed) →
      ListsReached (state_of g listed ended)
  exactly-from all there x = (
    (λ m. found-reached g k x w found (has-there same_name same_name-exact (named k.reach) x (all x (subst (Among x) (sym census) (census-there listed x m))))),
    (λ r. there x (has-among same_name same_name-exact (named k.reach) x (reached-found g k x w found r))),
  )

  -- and there alone.
  pub exactly-found : ListsReached (state_of g listed ended) → (x : Name) → Among x names → Among x (named k.reach)
  exactly-found e x m = has-among same_name same_name-exact (named k.reach) x (reached-found g k x w found ((e x).0 (census-listed listed x (subst (Among x) census m))))

  pub exactly-listed : ListsReached (state_of g listed ended) → (x : Name) → Among x (named k.reach) → Among x listed
  exactly-listed e x m = (e x).1 (found-reached g k x w found (has-there same_name same_name-exact (named k.reach) x m))
