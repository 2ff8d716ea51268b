-- REGISTERS HOLD KEYS: as long as what they hold is there, they hold the same names.
use Rattle.cc_heaps.proofs.Keys.{key_left-there}
use Rattle.cc_lists.proofs.Held.{map-held, map-replicate}
use Rattle.cc_laws_heap.proofs.Face.{is_some-found, named-found}
use Rattle.std.proofs.Common.{arith, ◌≡◌, ◌≢◌, ℕ, zero, suc, List, [], ◌∷◌, map, Option, Some, None, option_map, get_or, replicate, length, refl, sym, ◌∙◌, ap, subst, inl, inr, ⊎_elim}
use Rattle.std.specs.Option.{option_to_list}
use Rattle.std.proofs.Math.ListN.{get_or-map}
use Rattle.std.proofs.lemmas.List.{length-replicate}
use Rattle.cc_lists.specs.Members.{Among}
use Rattle.cc_lists.proofs.Members.{Among-flat_map, Among-map}
use Rattle.cc_names.specs.declared.name.Name.{Name}
use Rattle.cc_names.specs.declared.number.NKey.{NKey}
use Rattle.cc_names.specs.declared.number.SKey.{SKey}
use Rattle.cc_names.specs.Names.{native}
use Rattle.cc_model.specs.Slots.{contents}
use Rattle.cc_model.specs.Heap.{Heap}
use Rattle.cc_model.specs.WellFormed.{native_names}
use Rattle.cc_counted.specs.Counts.{key_left}
use Rattle.cc_script.specs.Objects.{Object}
use Rattle.cc_heaps.specs.Keyed.{Keyed}
use Rattle.cc_heaps.specs.Changes.{IsNativeThere, IsScriptThere, native_name}
use Rattle.cc_heaps.specs.Named.{Keys, named, IsLive, IsScriptLive}

-- what registers hold is there
abbrev pub AreLive : Keys → List (Option NKey) → Type 0
AreLive keys registers = (x : Option NKey) → Among x registers → IsLive keys x

-- what is there has a number
pub number-live : (keys : Keys) (key : NKey) → IsLive keys (Some key) → (k : ℕ) × (get_or keys key.0 None ≡ Some k)
number-live keys key live = is_some-found (get_or keys key.0 None) live

-- other keys that give each register the same number
module _ (old new : Keys) where
  abbrev Same : Option NKey → Type 0
  Same x = (key : NKey) → x ≡ Some key → get_or new key.0 None ≡ get_or old key.0 None

  live-same : (x : Option NKey) → Same x → IsLive old x → IsLive new x
  live-same x s l = grind arith

  pub registers-same : (registers : List (Option NKey)) → ((x : Option NKey) → Among x registers → Same x) → map (named new) registers ≡ map (named old) registers
  registers-same registers s = map-held (named new) (named old) registers refl (λ key m. ap (option_map native) (s (Some key) m key refl))

  pub AreLive-same : (registers : List (Option NKey)) → ((x : Option NKey) → Among x registers → Same x) → AreLive old registers → AreLive new registers
  AreLive-same registers s l x m = live-same x (s x m) (l x m)

-- natives left, and what a register holds is still there
pub left-same : (keys : Keys) (g : Heap) (registers : List (Option NKey)) → AreLive keys registers →
    ((y : Name) → Among y (contents (map (named keys) registers)) → Among y (native_names g)) →
    (x : Option NKey) → Among x registers → Same keys (map (key_left g) keys) x
left-same keys g registers live there x m key e =
    let n = number-live keys key (subst (IsLive keys) e (live x m)) in
    let held : named keys x ≡ Some (native n.0) = ap (named keys) e ∙ ap (option_map native) n.1 in
    let inside : Among (native n.0) (contents (map (named keys) registers)) =
    Among-flat_map option_to_list (named keys x) (native n.0) (map (named keys) registers) (Among-map (named keys) x registers m)
    (subst (λ o. Among (native n.0) (option_to_list o)) (sym held) (inl refl)) in
    let found = named-found g n.0 (there (native n.0) inside) in
    get_or-map (key_left g) keys key.0 None ∙ (ap (key_left g) n.1 ∙ (key_left-there g n.0 found.0 found.1 ∙ sym n.1))

-- a key that held nothing is that of no register
pub made-same : (old new : Keys) (key : ℕ) → get_or old key None ≡ None → ((q : ℕ) → q ≢ key → get_or new q None ≡ get_or old q None) →
    (x : Option NKey) → IsLive old x → Same old new x
made-same old new key vacant others x live q e = grind (arith, number-live)

-- what is so of each register, and of one that holds nothing, is so of what is read
read-each : {X : Type 0} (P : Option X → Type 0) → P None → (registers : List (Option X)) → ((x : Option X) → Among x registers → P x) → (r : ℕ) → P (get_or registers r None)
read-each P none [] each zero = none
read-each P none [] each (suc r) = none
read-each P none (x ∷ xs) each zero = each x (inl refl)
read-each P none (x ∷ xs) each (suc r) = read-each P none xs (λ y m. each y (inr m)) r

-- what stands in a register is there
pub held-live : (keys : Keys) (registers : List (Option NKey)) → AreLive keys registers → (r : ℕ) → IsLive keys (get_or registers r None)
held-live keys registers live r = read-each (IsLive keys) tt registers live r

-- the same of script registers
pub script-live : (objects : List Object) (registers : List (Option SKey)) → ((x : Option SKey) → Among x registers → IsScriptLive objects x) →
    (r : ℕ) → IsScriptLive objects (get_or registers r None)
script-live objects registers live r = read-each (IsScriptLive objects) tt registers live r

-- Registers that hold nothing

module _ {X : Type 0} (n : ℕ) (registers : List (Option X)) (none : registers ≡ replicate n None) where
  pub none-length : length registers ≡ n
  none-length = ap length none ∙ length-replicate {A = Option X} n None

  pub none-mapped : {Y : Type 0} (f : Option X → Option Y) → f None ≡ None → map f registers ≡ replicate n None
  none-mapped f e = ap (map f) none ∙ (map-replicate f n None ∙ ap (replicate n) e)

  pub none-each : (P : Option X → Type 0) → P None → (x : Option X) → Among x registers → P x
  none-each P p x m = go n (subst (λ xs. Among x xs) none m)
    where
      go : (k : ℕ) → Among x (replicate k None) → P x
      go zero a = absurd a
      go (suc k) a = ⊎_elim (λ e. subst P e p) (go k) a

-- What callers hold

pub there-live : (v : Keyed) (x : Option NKey) → IsLive v.keys x → IsNativeThere v x
there-live v x l = grind arith

pub live-there : (v : Keyed) (x : Option NKey) → IsNativeThere v x → IsLive v.keys x
live-there v x l = grind arith

pub script_there-live : (v : Keyed) (x : Option SKey) → IsScriptLive v.scripts x → IsScriptThere v x
script_there-live v x l = grind arith

pub name-named : (v : Keyed) (x : Option NKey) → native_name v x ≡ named v.keys x
name-named v x = grind arith

-- what cannot be something is nothing
pub none-by : {X : Type 0} (P : Option X → Type 0) → ((k : X) → P (Some k) → ⊥) → (y : Option X) → P y → y ≡ None
none-by P n e p = grind arith
