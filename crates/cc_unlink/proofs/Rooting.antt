-- THE WHITE NATIVES ROOTED ONE AFTER ANOTHER: no native leaves meanwhile.
use Rattle.std.proofs.Common.{◌≡◌, ℕ, ◌<◌, ◌≤◌, List, [], ◌∷◌, ◌++◌, length, Option, Some, None, refl, sym, ◌∙◌, ap, subst, arith, append_assoc}
use Rattle.cc_lists.specs.Members.{Among}
use Rattle.cc_names.specs.Names.{native}
use Rattle.cc_model.specs.Heap.{Heap}
use Rattle.cc_model.specs.Cascade.{add_ref}
use Rattle.cc_model.specs.Counts.{times}
use Rattle.cc_model.specs.End.{root_each}
use Rattle.cc_model.specs.WellFormed.{native_names}
use Rattle.cc_laws_heap.proofs.Face.{HoldsTheSame-add_ref, IsRising-once, Leave-add_ref, native_names-alike, times-append, times-cons, times-cons_same}
use Rattle.cc_graph.specs.Shown.{Shown}
use Rattle.cc_heaps.specs.Keyed.{Keyed, IsInOrder, the_number, changed_to}
use Rattle.cc_heaps.specs.Few.{IsNotOwned}
use Rattle.cc_unlink.specs.Whites.{whites_of, whites_above}
use Rattle.cc_unlink.specs.Passes.{IsAt, number_in}
use Rattle.cc_unlink.specs.declared.ends.White.{White}
use Rattle.cc_heaps.specs.Holders.{first_of}
use Rattle.cc_lists.specs.Walks.{left_from}
use Rattle.cc_unlink.proofs.Passing.{at-number, whites_from, whites_from-start, whites_from-next, whites_of-rising, whites_of-there, whites_of-stay, IsInOrder-permuted, fewer}

-- between two steps: the first white natives are rooted, and what is left to do gives what all of it gives from the begin
pub record IsRooting (g : Shown) (first v : Keyed) (next : Option White) : Type 0 where
  pub whites : whites_of g v.heap ≡ whites_of g first.heap
  pub kept : v ≡ changed_to first v.heap
  pub live : IsAt v next
  pub done : List ℕ
  pub parts : done ++ whites_from g v next ≡ whites_of g first.heap
  pub order : IsInOrder done v
  pub goes : root_each (whites_from g v next) v.heap ≡ root_each (whites_of g first.heap) first.heap

-- at the begin
pub IsRooting-start : (g : Shown) (v : Keyed) (next : Option White) → IsInOrder [] v →
    number_in next ≡ first_of (whites_above g v.heap None) → IsAt v next → IsRooting g v v next
IsRooting-start g v next order e live =
    let all : whites_from g v next ≡ whites_of g v.heap = whites_from-start g v order.sound.well_formed.rising next e in
    record {
      whites = refl;
      kept = refl;
      live = live;
      done = [];
      parts = all;
      order = order;
      goes = ap (λ ks. root_each ks v.heap) all;
    }

-- the one that is to be rooted is not rooted yet: it stands among the white natives once
pub IsRooting-not_owned : {g : Shown} {first v : Keyed} {w : White} (i : IsRooting g first v (Some w)) →
    (next : Option White) → number_in next ≡ first_of (whites_above g v.heap (Some w.number.0)) → IsNotOwned (the_number v w.key.0) i.done
IsRooting-not_owned {g} {first} {v} {w} i next e =
    let k = w.number.0 in
    let rising = i.order.sound.well_formed.rising in
    let rest : whites_from g v (Some w) ≡ k ∷ whites_from g v next = whites_from-next g v rising next w e in
    let all : i.done ++ k ∷ whites_from g v next ≡ whites_of g v.heap = ap (λ ks. i.done ++ ks) (sym rest) ∙ i.parts ∙ sym i.whites in
    let once : times k (i.done ++ k ∷ whites_from g v next) ≤ 1 =
    subst (λ ks. times k ks ≤ 1) (sym all) (IsRising-once (whites_of g v.heap) (whites_of-rising g v.heap rising) k) in
    subst (λ j. IsNotOwned j i.done) (sym (at-number v w i.live)) (omega (arith, once, times-append k i.done (k ∷ whites_from g v next), times-cons_same k (whites_from g v next)))

-- A STEP: the next one after it was found, and the native is rooted.
pub IsRooting-next : {g : Shown} {first v : Keyed} {w : White} → IsRooting g first v (Some w) →
    (next : Option White) → number_in next ≡ first_of (whites_above g v.heap (Some w.number.0)) → IsAt v next →
    {late : Keyed} → late ≡ changed_to v (add_ref v.heap (the_number v w.key.0)) →
    ((owned : List ℕ) → IsInOrder owned v → IsInOrder (the_number v w.key.0 ∷ owned) late) →
    IsRooting g first late next × (length (whites_from g late next) < length (whites_from g v (Some w)))
IsRooting-next {g} {first} {v} {w} i next e live {late} is order =
    subst (λ z. IsRooting g first z next × (length (whites_from g z next) < length (whites_from g v (Some w)))) (sym changed) (
      record {
        whites = stays ∙ i.whites;
        kept = ap (λ z. changed_to z h) i.kept;
        live = live;
        done = i.done ++ k ∷ [];
        parts = ap (λ ks. (i.done ++ k ∷ []) ++ ks) left
            ∙ (append_assoc i.done (k ∷ []) (whites_from g v next) ∙ (ap (λ ks. i.done ++ ks) (sym rest) ∙ i.parts));
        order = IsInOrder-permuted (k ∷ i.done) (i.done ++ k ∷ []) (changed_to v h)
            (λ j. omega (arith, times-append j i.done (k ∷ []), times-cons j k i.done, times-cons j k []))
            (subst (λ z. IsInOrder (k ∷ i.done) z) changed (subst (λ j. IsInOrder (j ∷ i.done) late) same (order i.done i.order)));
        goes = ap (λ ks. root_each ks h) left ∙ (ap (λ ks. root_each ks v.heap) (sym rest) ∙ i.goes);
      },
      fewer rest left,
    )
  where
    k : ℕ
    k = w.number.0

    same : the_number v w.key.0 ≡ k
    same = at-number v w i.live

    h : Heap
    h = add_ref v.heap k

    changed : late ≡ changed_to v h
    changed = is ∙ ap (λ j. changed_to v (add_ref v.heap j)) same

    -- those that are left
    rest : whites_from g v (Some w) ≡ k ∷ whites_from g v next
    rest = whites_from-next g v i.order.sound.well_formed.rising next w e

    names : native_names h ≡ native_names v.heap
    names = native_names-alike v.heap h (HoldsTheSame-add_ref v.heap k)

    stays : whites_of g h ≡ whites_of g v.heap
    stays = whites_of-stay g v.heap [] h (Leave-add_ref v.heap k)
        (λ j m. subst (λ xs. Among (native j) xs) (sym names) (whites_of-there g v.heap j m))

    left : whites_from g (changed_to v h) next ≡ whites_from g v next
    left = ap (λ ks. left_from ks (number_in next)) stays
