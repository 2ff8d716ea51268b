-- THE KEYS OF NATIVES THAT ARE NODES are theirs as long as they are there.
use Rattle.std.proofs.Common.{◌≡◌, ℕ, [], Some, sym, ◌∙◌, ap, subst}
use Rattle.std.proofs.lemmas.Bool.{true≢false}
use Rattle.cc_names.specs.Names.{is_native}
use Rattle.cc_model.specs.Heap.{Heap}
use Rattle.cc_counted.specs.Counts.{key_left}
use Rattle.cc_counted.specs.declared.held.Held.{Held}
use Rattle.cc_counted.specs.declared.held.Held.TheVariants as held
use Rattle.cc_graph.specs.Shown.{Shown}
use Rattle.cc_graph.specs.Held.{AreHeld}
use Rattle.cc_heaps.specs.HasKey.{HasKey}
use Rattle.cc_heaps.specs.Keyed.{Keyed, IsInOrder, counts_of, number_at, changed_to, left_with}
use Rattle.cc_heaps.proofs.Calls.{number-named}
use Rattle.cc_heaps.proofs.Keys.{key_left-some}
use Rattle.cc_heaps.proofs.LeftWith.{number_at-left}
use Rattle.cc_unlink.specs.Keys.{HasNodeKeys, IsKeyOf}

-- Where nodes have keys they are so,
pub node-keys : (g : Shown) (v : Keyed) → IsInOrder [] v → AreHeld g (HasKey v) → HasNodeKeys g v
node-keys g v order are n k key m e at = go n.held (are n m)
  where
    go : (h : Held) → HasKey v n.name h → IsKeyOf (counts_of v) h k
    go (held.Native q) has = has.1 k e (number-named v [] key k order at)
    go (held.Script q) has = absurd (true≢false (sym (ap is_native e) ∙ has.0))

-- and so where the heaps change under the same keys,
pub node-keys-changed : (g : Shown) (v w : Keyed) (h : Heap) → w ≡ changed_to v h → HasNodeKeys g v → HasNodeKeys g w
node-keys-changed g v w h is keys = subst (HasNodeKeys g) (sym is) (λ n k key m e at. go n.held k (keys n k key m e at))
  where
    go : (x : Held) (k : ℕ) → IsKeyOf (counts_of v) x k → IsKeyOf (counts_of (changed_to v h)) x k
    go (held.Native q) k has = has
    go (held.Script q) k has = has

-- and where some natives are no more.
pub node-keys-left : (g : Shown) (v w : Keyed) (h : Heap) → w ≡ left_with v h → HasNodeKeys g v → HasNodeKeys g w
node-keys-left g v w h is keys = subst (HasNodeKeys g) (sym is) (λ n k key m e at.
    let before = (key_left-some h (number_at v key) k (sym (number_at-left v h key) ∙ at)).0 in
    go n.held k (keys n k key m e before) (sym (ap (key_left h) before) ∙ (sym (number_at-left v h key) ∙ at)))
  where
    go : (x : Held) (k : ℕ) → IsKeyOf (counts_of v) x k → key_left h (Some k) ≡ Some k → IsKeyOf (counts_of (left_with v h)) x k
    go (held.Native q) k has stays = number_at-left v h q.0 ∙ (ap (key_left h) has ∙ stays)
    go (held.Script q) k has stays = has
