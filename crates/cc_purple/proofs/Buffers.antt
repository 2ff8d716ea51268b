-- A buffer after each call: what its store has then is the list that the call leaves.
use Rattle.std.proofs.Common.{◌≡◌, ◌≢◌, ℕ, Bool, true, false, List, [], ◌∷◌, drop, refl, sym, ◌∙◌, subst, if◌then◌else◌}
use Rattle.std.specs.Prelude.{◌==◌}
use Rattle.std.proofs.lemmas.Bool.{true≢false, eqb-false, ne_eqb}
use Rattle.cc_lists.specs.Members.{Among, has, without, with_last}
use Rattle.cc_lists.proofs.Members.{has-there}
use Rattle.cc_lists.proofs.Numbers.{number-exact}
use Rattle.cc_chain.specs.Links.{Links}
use Rattle.cc_chain.specs.Chains.{IsChain}
use Rattle.cc_chain.proofs.Rows.{without-absent, without-leaves}
use Rattle.cc_purple.specs.declared.buffer.Buffer.{Buffer}
use Rattle.cc_purple.specs.Stores.{Marks, with_mark_at}
use Rattle.cc_purple.specs.Marks.{Marked, with_mark, without_key, holds_key, is_purple, keys_of}
use Rattle.cc_purple.specs.Buffers.{IsBuffer}
use Rattle.cc_purple.proofs.Marks.{holds-among, keys-with_mark, purple-with_mark, holds-with_mark, keys-without, holds-without, purple-without}

module _ (links : Links) (marks : Marks) (buffer : Buffer) (ms : List Marked) (b : IsBuffer links marks buffer ms) where
  -- A mark is put to a key
  pub buffer-put : (purple : Bool) (key : ℕ) (entered new_links : Links) (kept new_marks : Marks) (new : Buffer) →
      IsChain entered new.keys (with_last ◌==◌ (keys_of ms) key) → new_links ≡ entered → kept ≡ marks → new_marks ≡ with_mark_at kept key purple →
      IsBuffer new_links new_marks new (with_mark purple key ms)
  buffer-put purple key entered new_links kept new_marks new chain same_links same_marks put = record {
    keys = rw (same_links, keys-with_mark purple key ms) chain;
    agree = λ j h. rw (put, same_marks, purple-with_mark purple key ms j) (go j h (key == j) refl);
  }
    where
      go : (j : ℕ) → holds_key (with_mark purple key ms) j ≡ true → (e : Bool) → (key == j) ≡ e → (if e then purple else marks j) ≡ (if e then purple else is_purple ms j)
      go j h true e = refl
      go j h false e = b.agree j (sym (holds-with_mark purple key ms j (eqb-false key j e)) ∙ h)

  -- A key leaves
  pub buffer-forget : (key : ℕ) (new_links : Links) (new_marks : Marks) (new : Buffer) →
      IsChain new_links new.keys (without ◌==◌ key (keys_of ms)) → new_marks ≡ marks → IsBuffer new_links new_marks new (without_key key ms)
  buffer-forget key new_links new_marks new chain same_marks = record {
    keys = rw (keys-without key ms) chain;
    agree = λ j h. rw (same_marks) (
        let other : key ≢ j = λ s. without-leaves key (keys_of ms) (subst (Among key) (keys-without key ms)
        (subst (λ k. Among k (keys_of (without_key key ms))) (sym s) (holds-among (without_key key ms) j h))) in
        b.agree j (sym (holds-without key ms j other) ∙ h) ∙ sym (purple-without key ms j other));
  }

  -- one that is not there changes nothing
  pub buffer-absent : (key : ℕ) → false ≡ has ◌==◌ (keys_of ms) key → IsBuffer links marks buffer (without_key key ms)
  buffer-absent key absent = buffer-forget key links marks buffer (rw (without-absent key (keys_of ms) (λ m. true≢false (sym (has-there ◌==◌ number-exact (keys_of ms) key m) ∙ sym absent))) b.keys) refl

-- The front leaves
pub buffer-front : (links : Links) (marks : Marks) (buffer : Buffer) (ms : List Marked) → IsBuffer links marks buffer ms →
    (new_links : Links) (new_marks : Marks) (new : Buffer) → IsChain new_links new.keys (drop 1 (keys_of ms)) → new_marks ≡ marks →
    IsBuffer new_links new_marks new (drop 1 ms)
buffer-front links marks buffer [] b new_links new_marks new chain same_marks = record { keys = chain; agree = λ j h. absurd (true≢false (sym h)) }
buffer-front links marks buffer (m ∷ ms) b new_links new_marks new chain same_marks = record {
  keys = chain;
  agree = λ j h.
      let other : (m.key == j) ≡ false = ne_eqb m.key j (λ s. b.keys.differ.0 (subst (λ k. Among k (keys_of ms)) (sym s) (holds-among ms j h))) in
      let there : holds_key (m ∷ ms) j ≡ true = rw (holds_key, other) h in
      let seen : is_purple (m ∷ ms) j ≡ is_purple ms j = rw (is_purple, other) refl in
      rw (same_marks) (b.agree j there ∙ seen);
}
