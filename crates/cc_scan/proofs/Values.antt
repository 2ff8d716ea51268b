-- The values of mappings whose map and key are each black or no node become black.
use Rattle.std.proofs.Common.{◌≡◌, ℕ, ◌==◌, ◌&&◌, Bool, true, false, List, [], ◌∷◌, Option, Some, None, refl, sym, subst, inl, inr, ◌⊎◌, ⊎_elim}
use Rattle.std.specs.Option.{option_to_list, is_none}
use Rattle.std.proofs.lemmas.Bool.{and_parts, and_from, true≢false, eq-eqb, or_left, or_right}
use Rattle.cc_lists.specs.Members.{Among}
use Rattle.cc_lists.proofs.Members.{Among-append, Among-left, Among-right, has-among, has-there}
use Rattle.cc_lists.proofs.Numbers.{number-exact}
use Rattle.cc_lists.proofs.OnceEach.{with_all_last-cases, with_all_last-there}
use Rattle.cc_graph.specs.Shown.{Hyperedge, is_node, is_with, with_black}
use Rattle.cc_scan.specs.Scanning.{hyperedge_rule}
use Rattle.cc_scan.specs.Steps.{is_met, with_value, with_values}
use Rattle.cc_scan.proofs.Longer.{longer-stays, longer-value, longer-values}

-- nothing else comes to the list
black-cases : (blacks : List ℕ) (n x : ℕ) → Among x (with_black blacks n) → Among x blacks ⊎ (n ≡ x)
black-cases blacks n x m = ⊎_elim (λ l. inl l) (λ r. ⊎_elim (λ e. inr e) (λ t. absurd t) r) (with_all_last-cases ◌==◌ number-exact blacks (n ∷ []) x m)

-- Members of a mapping

-- a member that is met is black, where it is a node
met-black : (blacks : List ℕ) (o : Option ℕ) → is_met blacks o ≡ true → (i : ℕ) → Among i (option_to_list o) → Among i blacks
met-black blacks None e i m = absurd m
met-black blacks (Some k) e i m = ⊎_elim (λ same. subst (λ z. Among z blacks) same (has-among ◌==◌ number-exact blacks k e)) (λ t. absurd t) m

black-met : (blacks : List ℕ) (o : Option ℕ) → ((i : ℕ) → Among i (option_to_list o) → Among i blacks) → is_met blacks o ≡ true
black-met blacks None h = refl
black-met blacks (Some k) h = has-there ◌==◌ number-exact blacks k (h k (inl refl))

abbrev pub are_met : List ℕ → Hyperedge → Bool
are_met blacks m = is_met blacks m.the_map && is_met blacks m.key

-- the members are met where the premises of the mapping's rule are black
abbrev pub ArePremises : List ℕ → Hyperedge → Type 0
ArePremises blacks m = (i : ℕ) → Among i (hyperedge_rule m).0 → Among i blacks

met-premises : (blacks : List ℕ) (m : Hyperedge) → are_met blacks m ≡ true → ArePremises blacks m
met-premises blacks m e i a =
    let parts = and_parts (is_met blacks m.the_map) (is_met blacks m.key) e in
    ⊎_elim (met-black blacks m.the_map parts.0 i) (met-black blacks m.key parts.1 i) (Among-append i (option_to_list m.the_map) (option_to_list m.key) a)

premises-met : (blacks : List ℕ) (m : Hyperedge) → ArePremises blacks m → are_met blacks m ≡ true
premises-met blacks m h = and_from (is_met blacks m.the_map) (is_met blacks m.key)
    (black-met blacks m.the_map (λ i a. h i (Among-left i (option_to_list m.the_map) (option_to_list m.key) a)))
    (black-met blacks m.key (λ i a. h i (Among-right i (option_to_list m.the_map) (option_to_list m.key) a)))

-- a premise is the map or the key of its mapping,
pub premise-with : (m : Hyperedge) (i : ℕ) → Among i (hyperedge_rule m).0 → is_with (Some i) m ≡ true
premise-with m i a = ⊎_elim
    (λ l. or_left (is_node m.the_map i) (is_node m.key i) (at m.the_map l))
    (λ r. or_right (is_node m.the_map i) (is_node m.key i) (at m.key r))
    (Among-append i (option_to_list m.the_map) (option_to_list m.key) a)
  where
    at : (o : Option ℕ) → Among i (option_to_list o) → is_node o i ≡ true
    at None l = absurd l
    at (Some k) l = ⊎_elim (λ same. eq-eqb k i same) (λ t. absurd t) l

-- and a mapping without premises has neither
pub premise-none : (m : Hyperedge) → ((i : ℕ) → Among i (hyperedge_rule m).0 → ⊥) → is_with None m ≡ true
premise-none m none = and_from (is_none m.the_map) (is_none m.key)
    (at m.the_map (λ i a. none i (Among-left i (option_to_list m.the_map) (option_to_list m.key) a)))
    (at m.key (λ i a. none i (Among-right i (option_to_list m.the_map) (option_to_list m.key) a)))
  where
    at : (o : Option ℕ) → ((i : ℕ) → Among i (option_to_list o) → ⊥) → is_none o ≡ true
    at None h = refl
    at (Some k) h = absurd (h k (inl refl))

-- A mapping

-- its value alone comes to the list, where the premises are black,
value-cases : (blacks : List ℕ) (m : Hyperedge) (i : ℕ) → Among i (with_value blacks m) → Among i blacks ⊎ (ArePremises blacks m × (m.value ≡ i))
value-cases blacks m i a = go (are_met blacks m) refl a
  where
    go : (b : Bool) → are_met blacks m ≡ b → Among i (elim b [ true ↦ with_black blacks m.value | false ↦ blacks ]) →
        Among i blacks ⊎ (ArePremises blacks m × (m.value ≡ i))
    go true e l = ⊎_elim (λ o. inl o) (λ same. inr (met-premises blacks m e, same)) (black-cases blacks m.value i l)
    go false e l = inl l

-- and where they are it does
value-comes : (blacks : List ℕ) (m : Hyperedge) → ArePremises blacks m → Among m.value (with_value blacks m)
value-comes blacks m h = go (are_met blacks m) (premises-met blacks m h)
  where
    go : (b : Bool) → b ≡ true → Among m.value (elim b [ true ↦ with_black blacks m.value | false ↦ blacks ])
    go true e = with_all_last-there ◌==◌ number-exact blacks (m.value ∷ []) m.value (inl refl)
    go false e = absurd (true≢false (sym e))

-- Mappings one after another: the same

-- what holds of the black ones, and goes over from the premises of a mapping to its value, holds of those that come
pub values-within : (P : ℕ → Type 0) (blacks : List ℕ) (ms : List Hyperedge) → ((i : ℕ) → Among i blacks → P i) →
    ((m : Hyperedge) → Among m ms → ((i : ℕ) → Among i (hyperedge_rule m).0 → P i) → P m.value) → (i : ℕ) → Among i (with_values blacks ms) → P i
values-within P blacks [] each over = each
values-within P blacks (m ∷ ms) each over = values-within P (with_value blacks m) ms
    (λ i a. ⊎_elim
    (λ o. each i o)
    (λ t. subst P t.1 (over m (inl refl) (λ k p. each k (t.0 k p))))
    (value-cases blacks m i a))
    (λ n t. over n (inr t))

pub values-come : (blacks : List ℕ) (ms : List Hyperedge) (m : Hyperedge) → Among m ms → ArePremises blacks m → Among m.value (with_values blacks ms)
values-come blacks [] m a h = absurd a
values-come blacks (n ∷ ms) m a h = ⊎_elim
    (λ same. longer-stays (with_value blacks n) (with_values (with_value blacks n) ms) (longer-values (with_value blacks n) ms) m.value
    (subst (λ z. Among m.value (with_value blacks z)) (sym same) (value-comes blacks m h)))
    (λ t. values-come (with_value blacks n) ms m t (λ i p. longer-stays blacks (with_value blacks n) (longer-value blacks n) i (h i p)))
    a
