-- The nodes by number and by name stay right.
use Rattle.std.proofs.Common.{◌≡◌, unwrap_or, ℕ, ◌+◌, ◌<◌, ◌≤◌, zero, suc, Bool, true, false, cond, List, [], ◌∷◌, ◌++◌, length, get_or, refl, sym, ◌∙◌, ap, subst, inl, arith, count_by, Some, None, if◌then◌else◌}
use Rattle.std.specs.Prelude.{◌==◌, Option, IfSome}
use Rattle.std.proofs.Math.ListN.{set}
use Rattle.std.proofs.lemmas.List.{length-set, length-map, length_push, map_push}
use Rattle.std.proofs.lemmas.List.Sums.{sum_by-set}
use Rattle.std.proofs.lemmas.Option.{slice_get-get_or}
use Rattle.cc_names.specs.declared.name.Name.{Name}
use Rattle.cc_names.specs.Names.{same_name}
use Rattle.cc_names.proofs.NameTests.{same_name-true}
use Rattle.cc_counted.specs.declared.held.Held.{Held}
use Rattle.cc_lists.specs.Members.{has}
use Rattle.cc_lists.proofs.Members.{Among-right, has-there}
use Rattle.cc_lists.proofs.Counting.{count_by-append, count_by-cons}
use Rattle.cc_lists.proofs.ListWrites.{each-push}
use Rattle.cc_lists.proofs.Numbers.{number-exact}
use Rattle.cc_graph.specs.declared.node.Node.{Node}
use Rattle.cc_graph.specs.declared.numbers.Numbers.{Numbers}
use Rattle.cc_graph.specs.Shown.{Vertex, number_from, number_of}
use Rattle.cc_graph.specs.Kept.{added, with_black_node, with_node, vertex_of, vertices, number_at, Numbered, IsNumbered}
use Rattle.cc_graph.proofs.Lists.{each-set, each-added, has-none, has-other, count_by-fewer}
use Rattle.cc_graph.proofs.NodesByName.{or_last, number-pushed}

-- as many are shown as there are
pub length-vertices : (ks : List Node) → length (vertices ks) ≡ length ks
length-vertices ks = length-map ks vertex_of

-- one that stands last is shown last
pub vertices-pushed : (ks : List Node) (k : Node) → vertices (ks ++ k ∷ []) ≡ vertices ks ++ vertex_of k ∷ []
vertices-pushed ks k = map_push vertex_of ks k

-- a number is one of a node
number-below : (i : ℕ) (vs : List Vertex) (x : Name) → IfSome (number_from i vs x) (λ k. k < i + length vs)
number-below i [] x = tt
number-below i (v ∷ vs) x = grind (arith, number-below (suc i) vs x)

pub number-inside : (vs : List Vertex) (x : Name) → IfSome (number_of vs x) (λ k. k < length vs)
number-inside vs x = go (number_of vs x) (number-below 0 vs x)
  where
    go : (o : Option ℕ) → IfSome o (λ k. k < 0 + length vs) → IfSome o (λ k. k < length vs)
    go None h = tt
    go (Some k) h = omega (arith, h)

pub number-within : (ks : List Node) (x : Name) → IfSome (number_of (vertices ks) x) (λ k. k < length ks)
number-within ks x = go (number_of (vertices ks) x) (number-below 0 (vertices ks) x)
  where
    go : (o : Option ℕ) → IfSome o (λ k. k < 0 + length (vertices ks)) → IfSome o (λ k. k < length ks)
    go None h = tt
    go (Some k) h = omega (arith, h, length-vertices ks)

-- a node that keeps its name changes no number
number-renamed : (ks : List Node) (j i : ℕ) (d y : Node) (x : Name) → i < length ks → y.name ≡ (get_or ks i d).name →
    number_from j (vertices (set ks i y)) x ≡ number_from j (vertices ks) x
number-renamed (k ∷ ks) j (suc i) d y x l e = grind (arith, number-renamed ks (suc j) i d y x (omega (arith, l)) e)
number-renamed ks j i d y x l e = grind (arith)

-- more room, and the same names
pub numbered-more : (ks : List Node) (bs : List ℕ) (room more : ℕ) (es fs : Numbers) → IsNumbered ks bs room es → room ≤ more → ((x : Name) → number_at fs x ≡ number_at es x) → IsNumbered ks bs more fs
numbered-more ks bs room more es fs w le same = grind (arith)

-- a node of another name is added
pub numbered-added : (ks : List Node) (bs : List ℕ) (room more : ℕ) (es fs : Numbers) (name : Name) (held : Held) → IsNumbered ks bs room es →
    length ks < 4294967295 → length ks + 1 ≤ more → number_of (vertices ks) name ≡ None →
    ((x : Name) → number_at fs x ≡ (if same_name name x then Some (length ks) else number_at es x)) → IsNumbered (ks ++ added name held ∷ []) bs more fs
numbered-added ks bs room more es fs name held w few enough absent numbers = record {
  few = omega (arith, few, length_push ks (added name held));
  numbered = λ x.
      numbers x ∙ (go x (same_name name x) refl ∙ sym (ap (λ vs. number_of vs x) (vertices-pushed ks (added name held)) ∙ number-pushed 0 (vertices ks) _ x));
  black = each-added (λ i k. k.black ≡ has ◌==◌ bs i) ks (added name held) w.black
      (sym (has-none bs (length ks) (λ k m e. let l : k < length ks = w.members k m in omega (arith, l, e))));
  members = λ i m. let l : i < length ks = w.members i m in omega (arith, l, length_push ks (added name held));
  counted = let step : count_by (λ k. k.black) (ks ++ added name held ∷ []) ≡ count_by (λ k. k.black) ks + 0 = count_by-append (λ k. k.black) ks (added name held ∷ []) in omega (arith, w.counted, step);
  enough = omega (arith, enough, length_push ks (added name held));
}
  where
    last : (o p : Option ℕ) → o ≡ p → (n : ℕ) → o ≡ or_last p false n
    last o None e n = e
    last o (Some k) e n = e

    go : (x : Name) (b : Bool) → same_name name x ≡ b → (if b then Some (length ks) else number_at es x) ≡ or_last (number_of (vertices ks) x) (same_name name x) (0 + length (vertices ks))
    go x true e =
        let none : number_of (vertices ks) x ≡ None = subst (λ z. number_of (vertices ks) z ≡ None) (same_name-true name x e) absent in
        let count : length ks ≡ 0 + length (vertices ks) = omega (arith, length-vertices ks) in
        ap Some count ∙ sym (ap (λ o. or_last o (same_name name x) (0 + length (vertices ks))) none ∙ ap (λ b. cond b (Some (0 + length (vertices ks))) None) e)
    go x false e =
        last (number_at es x) (number_of (vertices ks) x) (w.numbered x) (0 + length (vertices ks))
        ∙ ap (λ b. or_last (number_of (vertices ks) x) b (0 + length (vertices ks))) (sym e)

-- what is kept of a node changes, but for its name and whether it is black
pub numbered-put : (ks : List Node) (bs : List ℕ) (room : ℕ) (es : Numbers) (i : ℕ) (d y : Node) → IsNumbered ks bs room es → i < length ks →
    y.name ≡ (get_or ks i d).name → y.black ≡ (get_or ks i d).black → IsNumbered (set ks i y) bs room es
numbered-put ks bs room es i d y w inside name black = record {
  few = omega (arith, w.few, length-set ks i y);
  numbered = λ x. w.numbered x ∙ sym (number-renamed ks 0 i d y x inside name);
  black = each-set (λ i k. k.black ≡ has ◌==◌ bs i) ks i y inside (black ∙ w.black i d inside) (λ k e within other. w.black k e within);
  members = λ k m. let l : k < length ks = w.members k m in omega (arith, l, length-set ks i y);
  counted =
      let step : count_by (λ k. k.black) (set ks i y) + cond (get_or ks i d).black 1 0 ≡ count_by (λ k. k.black) ks + cond y.black 1 0 = sum_by-set (λ k. cond k.black 1 0) ks i y d inside in
      let same : cond {A = ℕ} y.black 1 0 ≡ cond (get_or ks i d).black 1 0 = ap (λ b. cond b 1 0) black in
      omega (arith, w.counted, step, same);
  enough = omega (arith, w.enough, length-set ks i y);
}

-- a node that is not black has room to become so
pub numbered-room : (ks : List Node) (bs : List ℕ) (room : ℕ) (es : Numbers) (i : ℕ) (d : Node) → IsNumbered ks bs room es → i < length ks →
    has ◌==◌ bs i ≡ false → length bs < room
numbered-room ks bs room es i d w inside off =
    let white : (get_or ks i d).black ≡ false = w.black i d inside ∙ off in
    let fewer : count_by (λ k. k.black) ks < length ks = count_by-fewer (λ k. k.black) ks i d inside white in
    omega (arith, fewer, w.counted, w.enough)

-- a node becomes black
pub numbered-blackened : (ks : List Node) (bs : List ℕ) (room : ℕ) (es : Numbers) (i : ℕ) (d y : Node) → IsNumbered ks bs room es → i < length ks →
    has ◌==◌ bs i ≡ false → y.name ≡ (get_or ks i d).name → y.black ≡ true → IsNumbered (set ks i y) (bs ++ i ∷ []) room es
numbered-blackened ks bs room es i d y w inside off name black = record {
  few = omega (arith, w.few, length-set ks i y);
  numbered = λ x. w.numbered x ∙ sym (number-renamed ks 0 i d y x inside name);
  black = each-set (λ k n. n.black ≡ has ◌==◌ (bs ++ i ∷ []) k) ks i y inside
      (black ∙ sym (has-there ◌==◌ number-exact (bs ++ i ∷ []) i (Among-right i bs (i ∷ []) (inl refl))))
      (λ k e within other. w.black k e within ∙ sym (has-other bs i k other));
  members = each-push (λ k. k < length (set ks i y)) bs i (λ k m. let l : k < length ks = w.members k m in omega (arith, l, length-set ks i y)) (omega (arith, inside, length-set ks i y));
  counted =
      let white : (get_or ks i d).black ≡ false = w.black i d inside ∙ off in
      let step : count_by (λ k. k.black) (set ks i y) + cond (get_or ks i d).black 1 0 ≡ count_by (λ k. k.black) ks + cond y.black 1 0 = sum_by-set (λ k. cond k.black 1 0) ks i y d inside in
      let before : cond {A = ℕ} (get_or ks i d).black 1 0 ≡ 0 = ap (λ b. cond b 1 0) white in
      let after : cond {A = ℕ} y.black 1 0 ≡ 1 = ap (λ b. cond b 1 0) black in
      omega (arith, w.counted, step, before, after, length_push bs i);
  enough = omega (arith, w.enough, length-set ks i y);
}

-- nodes with the same parts
pub numbered-same : (ks ls : List Node) (bs cs : List ℕ) (r s u v : ℕ) → ks ≡ ls → bs ≡ cs → r ≡ s → u ≡ v →
    ◌≡◌ {A = Numbered} (record { nodes = ks; blacks = bs; node_room = r; black_room = u }) (record { nodes = ls; blacks = cs; node_room = s; black_room = v })
numbered-same ks ls bs cs r s u v a b c d = rw (a, b, c, d) refl

-- a node that is read, made black and written is the one that becomes black
pub black_node-at : (ks : List Node) (i : ℕ) (k y : Node) → i < length ks → k ≡ get_or ks i k → y ≡ record k { black = true } → with_black_node ks i ≡ set ks i y
black_node-at ks i k y inside read made = grind (arith, slice_get-get_or)

-- some node is not black where fewer are black than there are
some-white : (ks : List Node) → count_by (λ k. k.black) ks < length ks → (i : ℕ) × (i < length ks) × ((d : Node) → (get_or ks i d).black ≡ false)
some-white [] l = absurd (omega (arith, l))
some-white (k ∷ ks) l = go (some-white ks) k.black refl
  where
    go : (count_by (λ k. k.black) ks < length ks → (i : ℕ) × (i < length ks) × ((d : Node) → (get_or ks i d).black ≡ false)) → (b : Bool) → k.black ≡ b →
        (i : ℕ) × (i < length (k ∷ ks)) × ((d : Node) → (get_or (k ∷ ks) i d).black ≡ false)
    go ih false e = (zero, omega arith, λ d. e)
    go ih true e =
        let one : cond {A = ℕ} k.black 1 0 ≡ 1 = ap (λ b. cond b 1 0) e in
        let fewer : count_by (λ k. k.black) ks < length ks = omega (arith, l, one, count_by-cons (λ k. k.black) k ks) in
        next (ih fewer)
      where
        next : (i : ℕ) × (i < length ks) × ((d : Node) → (get_or ks i d).black ≡ false) →
            (i : ℕ) × (i < length (k ∷ ks)) × ((d : Node) → (get_or (k ∷ ks) i d).black ≡ false)
        next f = (suc f.0, omega (arith, f.1), f.2)

pub numbered-white : (ks : List Node) (bs : List ℕ) (room : ℕ) (es : Numbers) → IsNumbered ks bs room es → length bs < length ks →
    (i : ℕ) × (i < length ks) × (has ◌==◌ bs i ≡ false)
numbered-white [] bs room es w l = absurd (omega (arith, l))
numbered-white (k ∷ ks) bs room es w l =
    let f = some-white (k ∷ ks) (omega (arith, l, w.counted)) in
    (f.0, f.1, sym (w.black f.0 k f.1) ∙ f.2 k)

pub white-numbered : (ks : List Node) (bs : List ℕ) (room : ℕ) (es : Numbers) (i : ℕ) → IsNumbered ks bs room es → i < length ks → has ◌==◌ bs i ≡ false →
    length bs < length ks
white-numbered [] bs room es i w inside off = absurd (omega (arith, inside))
white-numbered (k ∷ ks) bs room es i w inside off =
    let fewer : count_by (λ k. k.black) (k ∷ ks) < length (k ∷ ks) = count_by-fewer (λ k. k.black) (k ∷ ks) i k inside (w.black i k inside ∙ off) in
    omega (arith, fewer, w.counted)

-- a name that is given the number of one node more has no node
pub number-new : (ks : List Node) (bs : List ℕ) (room : ℕ) (es : Numbers) (x : Name) (n count : ℕ) → IsNumbered ks bs room es →
    n ≡ unwrap_or (number_at es x) count → count ≡ length ks → n ≡ count → number_of (vertices ks) x ≡ None
number-new ks bs room es x n count w found all same = go (number_of (vertices ks) x) (number-within ks x) (found ∙ ap (λ o. unwrap_or o count) (w.numbered x))
  where
    go : (o : Option ℕ) → IfSome o (λ k. k < length ks) → n ≡ unwrap_or o count → o ≡ None
    go None h f = refl
    go (Some k) h f = absurd (omega (arith, h, f, same, all))

-- and one that is given another has the node with that number
pub number-old : (ks : List Node) (bs : List ℕ) (room : ℕ) (es : Numbers) (x : Name) (n count : ℕ) → IsNumbered ks bs room es →
    n ≡ unwrap_or (number_at es x) count → (n ≡ count → ⊥) → number_of (vertices ks) x ≡ Some n
number-old ks bs room es x n count w found other = grind (arith, unwrap_or)

pub with_node-new : (ks : List Node) (x : Name) (held : Held) → number_of (vertices ks) x ≡ None → with_node ks x held ≡ ks ++ added x held ∷ []
with_node-new ks x held none = ap (λ o. elim o [ Some i ↦ ks | None ↦ ks ++ added x held ∷ [] ]) none

pub with_node-there : (ks : List Node) (x : Name) (held : Held) (i : ℕ) → number_of (vertices ks) x ≡ Some i → with_node ks x held ≡ ks
with_node-there ks x held i there = ap (λ o. elim o [ Some j ↦ ks | None ↦ ks ++ added x held ∷ [] ]) there

-- the numbers are the same where the one that a name has is given to it
pub numbers-given : (ns ms : Numbers) (name : Name) (n : ℕ) → number_at ns name ≡ Some n →
    ((x : Name) → number_at ms x ≡ (if same_name name x then Some n else number_at ns x)) → (x : Name) → number_at ms x ≡ number_at ns x
numbers-given ns ms name n had given x = grind (arith, same_name-true)

-- and where one is taken away that was given to a name without
pub numbers-taken : (ns ms ls : Numbers) (name : Name) (n : ℕ) → number_at ns name ≡ None →
    ((x : Name) → number_at ms x ≡ (if same_name name x then Some n else number_at ns x)) →
    ((x : Name) → number_at ls x ≡ (if same_name name x then None else number_at ms x)) → (x : Name) → number_at ls x ≡ number_at ns x
numbers-taken ns ms ls name n none given taken x = grind (arith, same_name-true)
