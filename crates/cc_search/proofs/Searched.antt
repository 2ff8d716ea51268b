-- THE SEARCH: what holds between two objects, and that a search that is over has found all, or what is sought.
use Rattle.std.proofs.Common.{◌≡◌, ℕ, ◌+◌, ◌-◌, ◌<◌, true, List, [], ◌∷◌, ◌++◌, length, Option, Some, None, sym, ◌∙◌, ap, subst, arith}
use Rattle.std.proofs.lemmas.List.{length-append}
use Rattle.cc_lists.specs.Members.{has}
use Rattle.cc_names.specs.declared.name.Name.{Name}
use Rattle.cc_names.specs.declared.register.Reg.TheVariants.{N, S}
use Rattle.cc_names.specs.Names.{same_name}
use Rattle.cc_model.specs.Answers.{Step}
use Rattle.cc_model.specs.Derivations.{Leads, AreWithin, Walk, named, needed_for, nothing_found, steps_of, walked_first, with_bank, with_object}
use Rattle.cc_model.proofs.Derivations.{IsOnTheWay, all-found, found-led, found-path, on_the_way-goes_on, on_the_way-starts, walked_first-walked}
use Rattle.cc_search.specs.Found.{IsFirstWalked, IsIdle}
use Rattle.cc_search.specs.Search.{HasEnded, has_sought}

-- how many objects may still be walked
abbrev pub left_to_walk : Leads → Walk → ℕ
left_to_walk l w = l.objects - length w.walked

module _ (l : Leads) (names : List Name) (within : AreWithin l names) where
  -- BETWEEN TWO OBJECTS the walk is on its way
  pub searching-starts : (first second third : Walk) → first ≡ nothing_found → second ≡ with_bank N 0 l.native_registers first → third ≡ with_bank S 0 l.script_registers second →
      IsOnTheWay l names third
  searching-starts first second third none one two =
      subst (IsOnTheWay l names) (sym (two ∙ ap (with_bank S 0 l.script_registers) (one ∙ ap (with_bank N 0 l.native_registers) none)))
      (on_the_way-starts l names within)

  -- what the first that waits leads to is found
  next-walk : (w v u : Walk) (i : ℕ) (x : Name) (first : IsFirstWalked w v i x) → u ≡ with_object l x v → u ≡ walked_first l first.step first.rest w
  next-walk w v u i x first e = e ∙ (λ j. with_object l (first.name j) (first.walked j))

  pub searching-turn : (w v u : Walk) (i : ℕ) (x : Name) → IsFirstWalked w v i x → u ≡ with_object l x v → IsOnTheWay l names w → IsOnTheWay l names u
  searching-turn w v u i x first e h =
      subst (IsOnTheWay l names) (sym (next-walk w v u i x first e)) (on_the_way-goes_on l names within w first.step first.rest first.waits h)

  pub searching-smaller : (w v u : Walk) (i : ℕ) (x : Name) → IsFirstWalked w v i x → u ≡ with_object l x v → IsOnTheWay l names w → left_to_walk l u < left_to_walk l w
  searching-smaller w v u i x first e h =
      let more : u.walked ≡ w.walked ++ first.step ∷ [] =
      ap (λ (t : Walk). t.walked) (next-walk w v u i x first e) ∙ walked_first-walked l first.step first.rest w in
      let long : length u.walked ≡ length w.walked + 1 = ap (λ (ts : List Step). length ts) more ∙ length-append w.walked (first.step ∷ []) in
      let next = searching-turn w v u i x first e h in
      omega (arith, next.enough, long)

  -- A SEARCH IN WHICH NONE WAITS has found all
  pub search-idle : (sought : Option Name) (w v : Walk) → IsIdle w v → IsOnTheWay l names w → HasEnded l sought (steps_of v)
  search-idle None w v idle h = ap steps_of idle.same ∙ sym (all-found l names w h idle.waits)
  search-idle (Some x) w v idle h =
      let all = ap steps_of idle.same ∙ sym (all-found l names w h idle.waits) in
      record { led = ap (λ ss. has same_name (named ss) x) all; path = ap (λ ss. (needed_for ss (x ∷ [])).steps) all }

  -- A SEARCH THAT HAS FOUND what is sought has the steps that lead there
  pub search-found : (sought : Option Name) (w : Walk) → has_sought w sought ≡ true → IsOnTheWay l names w → HasEnded l sought (steps_of w)
  search-found None w found h = absurd (cc)
  search-found (Some x) w found h = record { led = found ∙ sym (found-led l names w x h found); path = sym (found-path l names w x h found) }
