-- THE OBJECTS IN ORDER: the first key, and the key behind a key.
use Rattle.std.proofs.Common.{◌≡◌, ℕ, true, Some, sym, ◌∙◌, ap, ◌==◌, List}
use Rattle.std.specs.Option.{is_some}
use Rattle.std.proofs.lemmas.Bool.{eq-eqb}
use Rattle.cc_lists.specs.Members.{Among}
use Rattle.cc_lists.specs.Walks.{first_of}
use Rattle.cc_lists.proofs.Searching.{find-some}
use Rattle.cc_lists.proofs.Walks.{first_key-map, first_key-among, next_key-among, next_key-map}
use Rattle.cc_chain.specs.Chains.{behind}
use Rattle.cc_chain.proofs.Slots.{first_key-of, next_key-behind}
use Rattle.cc_script.specs.Objects.{Object, first_key, key_after, is_there}
use Rattle.cc_script.specs.Lists.{Lists, shown_at, objects_of}

-- they are those of the order,
pub first-shown : (l : Lists) → first_key (objects_of l) ≡ first_of l.order
first-shown l = first_key-map (λ (o : Object). o.key) (shown_at l) l.order ∙ first_key-of l.order

pub behind-shown : (l : Lists) (key : ℕ) → key_after (objects_of l) key ≡ first_of (behind key l.order)
behind-shown l key = next_key-map (λ (o : Object). o.key) (shown_at l) l.order key ∙ next_key-behind l.order key

-- and of objects that are there
stands : (objects : List Object) (key : ℕ) → (o : Object) × Among o objects × (o.key ≡ key) → is_there objects key ≡ true
stands objects key f = ap is_some (find-some (λ (o : Object). o.key == key) objects f.0 f.1 (eq-eqb f.0.key key f.2)).1

pub live-first : (objects : List Object) (key : ℕ) → Some key ≡ first_key objects → is_there objects key ≡ true
live-first objects key e = stands objects key (first_key-among (λ (o : Object). o.key) objects key (sym e))

pub live-after : (objects : List Object) (key next : ℕ) → Some next ≡ key_after objects key → is_there objects next ≡ true
live-after objects key next e = stands objects next (next_key-among (λ (o : Object). o.key) objects key next (sym e))
