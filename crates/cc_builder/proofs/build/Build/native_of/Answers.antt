use Rattle.std.proofs.Common.{◌≡◌, ◌≢◌, ◌==◌, ℕ, false, Option, Some, None, sym, ◌∙◌, ap, subst}
use Rattle.std.proofs.lemmas.Bool.{eqb-true, eq-eqb, true≢false}
use Rattle.cc_lists.specs.Members.{Among}
use Rattle.cc_lists.proofs.Members.{Among-map_cases}
use Rattle.cc_names.specs.declared.name.Name.{Name}
use Rattle.cc_names.specs.Names.{native, is_native}
use Rattle.cc_model.specs.Heap.{Heap, HeapNative}
use Rattle.cc_model.specs.WellFormed.{native_names}
use Rattle.cc_heaps.specs.Keyed.{number_at}
use Rattle.cc_builder.proofs.BuildReads.{IsNodeAt, IsNodeAt-name, number-read, number-none, node-read_in, node-key, native-there, native-gone}
use Rattle.cc_builder.proofs.build.Build.native_of.Goals as goal

-- numbers differ where their test says so
differ : (i j : ℕ) (o : Option ℕ) → o ≡ Some i → (i == j) ≡ false → o ≢ Some j
differ i j o e f g = let same : i ≡ j = cc in true≢false (sym (eq-eqb i j same) ∙ f)

none-some : (o : Option ℕ) (j : ℕ) → o ≡ None → o ≢ Some j
none-some o j e f = cc

-- the names of natives that are there are natives'
native-there_named : (h : Heap) (x : Name) → Among x (native_names h) → (k : ℕ) × (x ≡ native k)
native-there_named h x m = let n = Among-map_cases (λ (n : HeapNative). native n.number) h.natives x m in (n.0.number, sym n.2)

pub returns-in_default : goal.returns-in_default
returns-in_default c =
    let n = node-read_in c.self.view_is c.args.node c.node-name.ensures.name c.node-name.ensures.held in
    record {
      there = tt;
      gone = λ _ m.
          let k = native-there_named c.args.heaps.now.heap _ m in
          absurd (c.in_default.not-Native (record { 0 = k.0 }) (sym (IsNodeAt-name n) ∙ k.1));
    }

pub returns-in_default-held-clause-gone : goal.returns-in_default-held-clause-gone
returns-in_default-held-clause-gone c = λ _ m.
    let n = node-read_in c.self.view_is c.args.node c.node-name.ensures.name c.node-name.ensures.held in
    let key = node-key c.args.self.now c.args.heaps.now c.requires.held n c.in_default-held.is in
    let k = native-there_named c.args.heaps.now.heap _ m in
    true≢false (sym (ap is_native k.1) ∙ key.0)

pub returns-in-Some-clause-there : goal.returns-in-Some-clause-there
returns-in-Some-clause-there c =
    let n = node-read_in c.self.view_is c.args.node c.node-name.ensures.name c.node-name.ensures.held in
    let same = eqb-true c.in-Some.now.0 c.in-Native.number.0 (sym c.eq.ensures ∙ c.if-eq.true) in
    native-there (subst (λ (x : Name). IsNodeAt c.args.self.now.graph.nodes c.args.node x c.node-name.result.1) c.in-Native.is n)
    (number-read c.args.heaps.now c.in-Native-held.key.0 c.counted.ensures c.number.ensures c.in-Some.is ∙ ap Some same)

pub returns-in_default-number-clause-gone : goal.returns-in_default-number-clause-gone
returns-in_default-number-clause-gone c = λ _.
    let n = node-read_in c.self.view_is c.args.node c.node-name.ensures.name c.node-name.ensures.held in
    native-gone c.args.self.now c.args.heaps.now c.requires.held
    (subst (λ (x : Name). IsNodeAt c.args.self.now.graph.nodes c.args.node x c.node-name.result.1) c.in-Native.is n) c.in-Native-held.is
    (differ c.in-Some.now.0 c.in-Native.number.0 (number_at c.args.heaps.now c.in-Native-held.key.0)
    (number-read c.args.heaps.now c.in-Native-held.key.0 c.counted.ensures c.number.ensures c.in-Some.is)
    (sym c.eq.ensures ∙ c.if-eq.false))

pub returns-in_default-number-2-clause-gone : goal.returns-in_default-number-2-clause-gone
returns-in_default-number-2-clause-gone c = λ _.
    let n = node-read_in c.self.view_is c.args.node c.node-name.ensures.name c.node-name.ensures.held in
    native-gone c.args.self.now c.args.heaps.now c.requires.held
    (subst (λ (x : Name). IsNodeAt c.args.self.now.graph.nodes c.args.node x c.node-name.result.1) c.in-Native.is n) c.in-Native-held.is
    (none-some (number_at c.args.heaps.now c.in-Native-held.key.0) c.in-Native.number.0
    (number-none c.args.heaps.now c.in-Native-held.key.0 c.counted.ensures c.number.ensures c.in_default-number.is))
