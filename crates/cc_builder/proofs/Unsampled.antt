-- Nodes that are no native have no sample, whatever a step of a build does.
use Rattle.std.specs.Prelude.{IsSome, slice_get, slice_set}
use Rattle.std.proofs.Common.{◌≡◌, ℕ, true, List, [], ◌∷◌, ◌++◌, Option, Some, None, refl, sym, ◌∙◌, ap, ⊎_elim}
use Rattle.std.proofs.lemmas.Bool.{true≢false}
use Rattle.cc_lists.specs.Members.{Among}
use Rattle.cc_lists.proofs.Members.{Among-append}
use Rattle.cc_lists.proofs.ListWrites.{Among-set_cases}
use Rattle.cc_names.specs.declared.name.Name.{Name}
use Rattle.cc_names.specs.Names.{is_native}
use Rattle.cc_counted.specs.declared.held.Held.{Held}
use Rattle.cc_graph.specs.Shown.{Vertex, vertex, number_of, with_vertex, with_sample}
use Rattle.cc_builder.specs.Building.{HasNoSample, vertex_name}
use Rattle.cc_builder.specs.BuildSteps.{sampled_at}
use Rattle.cc_builder.proofs.NodesByName.{name-at}

-- a node that comes has none
pub HasNoSample-vertex : (vs : List Vertex) (x : Name) (held : Held) → ((n : Vertex) → Among n vs → HasNoSample n) → (n : Vertex) → Among n (with_vertex vs x held) → HasNoSample n
HasNoSample-vertex vs x held old = go (number_of vs x)
  where
    go : (o : Option ℕ) → (n : Vertex) → Among n (elim o [ Some i ↦ vs | None ↦ vs ++ vertex x held ∷ [] ]) → HasNoSample n
    go (Some i) n m = old n m
    go None n m = ⊎_elim (old n)
        (λ r. ⊎_elim (λ (e : vertex x held ≡ n) _. ap (λ (w : Vertex). w.sampled) (sym e)) (λ none. absurd none) r)
        (Among-append n vs (vertex x held ∷ []) m)

-- only a native is sampled
pub HasNoSample-passed : (vs : List Vertex) (i : ℕ) (count : Option ℕ) → (IsSome count → is_native (vertex_name vs i) ≡ true) →
    ((n : Vertex) → Among n vs → HasNoSample n) → (n : Vertex) → Among n (sampled_at vs i count) → HasNoSample n
HasNoSample-passed vs i None one old n m = old n m
HasNoSample-passed vs i (Some count) one old n m = go (slice_get vs i) refl m
  where
    go : (o : Option Vertex) → slice_get vs i ≡ o → Among n (elim o [ None ↦ vs | Some v ↦ slice_set vs i (with_sample count v) ]) → HasNoSample n
    go None e k = old n k
    go (Some v) e k = ⊎_elim
        (λ (same : with_sample count v ≡ n) other. absurd (true≢false
        (sym (one refl) ∙ (ap is_native (name-at vs i v e) ∙ (ap (λ (w : Vertex). is_native w.name) same ∙ other)))))
        (old n)
        (Among-set_cases vs i (with_sample count v) n k)
