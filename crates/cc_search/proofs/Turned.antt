-- TURNS OF THE SEARCH over registers and over places: what is searched stays, and what is left to be done after each.
use Rattle.std.specs.Prelude.{slice_index_or, IfSome, IsSome}
use Rattle.std.proofs.Common.{◌≡◌, ℕ, ◌+◌, ◌<◌, ◌≤◌, length, drop, Option, Some, None, option_and_then, is_some, refl, sym, ◌∙◌, ap}
use Rattle.cc_names.specs.declared.name.Name.{Name}
use Rattle.cc_names.specs.declared.register.Reg.{Reg}
use Rattle.cc_model.specs.declared.item.Reason.TheVariants.{Root, Edge}
use Rattle.cc_model.specs.Slots.{Slots, contents}
use Rattle.cc_model.specs.Derivations.{Walk, with_bank, with_edges}
use Rattle.cc_search.specs.Banks.{AreEmptyFrom}
use Rattle.cc_search.specs.Found.{with_content}
use Rattle.cc_search.specs.Named.{IsHeldAs}
use Rattle.cc_search.proofs.Turns.{bank-end, bank-turn, edges-end, edges-turn}

-- What stands for what is held

pub held-there : {O : Type 0} (name_of : O → Option Name) (content : Option Name) (object : Option O) → IsHeldAs name_of content object → IfSome object (λ o. IsSome (name_of o))
held-there name_of content None e = tt
held-there name_of None (Some o) e = absurd (cc)
held-there name_of (Some x) (Some o) e = let there : name_of o ≡ Some x = cc in ap (λ p. is_some p) there

pub held-content : {O : Type 0} (name_of : O → Option Name) (content : Option Name) (object : Option O) → IsHeldAs name_of content object → option_and_then name_of object ≡ content
held-content name_of None None e = refl
held-content name_of (Some x) None e = absurd (cc)
held-content name_of None (Some o) e = absurd (cc)
held-content name_of (Some x) (Some o) e = cc

-- Registers

pub record IsBanking {L : Type 0} (start : L) (reg : ℕ → Reg) (slots : Slots) (r : ℕ) (target : Walk) (s : L × Walk) : Type 0 where
  pub same : s.0 ≡ start
  pub left : with_bank reg r (drop r slots) s.1 ≡ target

pub banking-turn : {L : Type 0} (start : L) (reg : ℕ → Reg) (slots : Slots) (r : ℕ) (target : Walk) (s t : L × Walk) (content : Option Name) → r < length slots →
    content ≡ slice_index_or slots r None → t ≡ (s.0, with_content s.1 content (Root (reg r))) → IsBanking start reg slots r target s → IsBanking start reg slots (r + 1) target t
banking-turn start reg slots r target s t content l same e h = record {
  same = ap (λ p. p.0) e ∙ h.same;
  left = bank-turn reg slots r content s.1 t.1 l same (ap (λ p. p.1) e) ∙ h.left;
}

pub banking-end : {L : Type 0} (start : L) (reg : ℕ → Reg) (slots : Slots) (used r : ℕ) (target : Walk) (s : L × Walk) → AreEmptyFrom slots used → used ≤ r →
    IsBanking start reg slots r target s → s ≡ (start, target)
banking-end start reg slots used r target s empty past h = λ i. (h.same i, (sym (bank-end reg slots used r s.1 empty past) ∙ h.left) i)

-- Places

pub record IsEdging {L : Type 0} (start : L) (x : Name) (places : Slots) (n : ℕ) (target : Walk) (s : L × Walk) : Type 0 where
  pub same : s.0 ≡ start
  pub left : with_edges x (contents (drop n places)) s.1 ≡ target

pub edging-turn : {L : Type 0} (start : L) (x : Name) (places : Slots) (n : ℕ) (target : Walk) (s t : L × Walk) (content : Option Name) → n < length places →
    content ≡ slice_index_or places n None → t ≡ (s.0, with_content s.1 content (Edge x)) → IsEdging start x places n target s → IsEdging start x places (n + 1) target t
edging-turn start x places n target s t content l same e h = record {
  same = ap (λ p. p.0) e ∙ h.same;
  left = edges-turn x places n content s.1 t.1 l same (ap (λ p. p.1) e) ∙ h.left;
}

pub edging-end : {L : Type 0} (start : L) (x : Name) (places : Slots) (n : ℕ) (target : Walk) (s : L × Walk) → length places ≤ n →
    IsEdging start x places n target s → s ≡ (start, target)
edging-end start x places n target s past h = λ i. (h.same i, (sym (edges-end x places n s.1 past) ∙ h.left) i)
