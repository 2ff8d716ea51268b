-- THE WALK of the natives: its keys are those of natives after each call, and what it is by the states of its keys.
use Rattle.std.proofs.Common.{◌≡◌, ℕ, Option, Some, None, option_map, is_some, IfSome, MatchOption, true, length, sym, ◌∙◌, ap, ⊎_elim, ◌==◌, arith}
use Rattle.std.proofs.lemmas.List.{get_or-set_same}
use Rattle.cc_lists.specs.Members.{Among, has}
use Rattle.cc_lists.specs.Walks.{first_of}
use Rattle.cc_lists.proofs.Members.{Among-right}
use Rattle.cc_lists.proofs.Walks.{first-among}
use Rattle.cc_names.specs.declared.number.NKey.{NKey}
use Rattle.cc_names.specs.declared.kind.Walked.{Walked}
use Rattle.cc_names.specs.declared.kind.Walked.TheVariants.{Out, Waiting, Given}
use Rattle.cc_walk.specs.Walks.{Walk, no_walk, members, with_member, gone_on, with_state, states_of, entered, is_walked}
use Rattle.cc_walk.proofs.Sets.{walked-member, member-came, member-given, states-with_member, states-gone_on, states-first, states-none, gone_on-none}
use Rattle.cc_counted.specs.Counts.{number_at, state_of, with_state_of, unwalked, NoneWaits}
use Rattle.cc_counted.specs.Lists.{Placed, Lists, cell_at, counts_of, states_below, IsPlaced}
use Rattle.cc_counted.proofs.Places.{number_at-cell}
use Rattle.cc_counted.proofs.Changing.{cell-within}
use Rattle.cc_counted.proofs.States.{states-length, states-set, states-shown}
use Rattle.cc_counted.proofs.States as States

module _ (l : Lists) (p : IsPlaced l) where
  -- other keys of natives in the walk
  placed-walk : (w : Walk) → ((k : ℕ) → Among k (members w) → (c : Placed) × (cell_at l.cells k ≡ Some c)) → IsPlaced (record l { walk = w })
  placed-walk w there = record {
    in_order = p.in_order;
    ordered = p.ordered;
    rising = p.rising;
    small = p.small;
    held = p.held;
    queued = p.queued;
    marked = p.marked;
    walking = there;
  }

  pub placed-cleared : IsPlaced (record l { walk = no_walk })
  placed-cleared = placed-walk no_walk (λ k m. absurd m)

  pub placed-entered : (key : ℕ) (c : Placed) → cell_at l.cells key ≡ Some c → IsPlaced (record l { walk = with_member key l.walk })
  placed-entered key c at = placed-walk (with_member key l.walk)
      (λ k m. ⊎_elim (λ e. (c, ap (cell_at l.cells) e ∙ at)) (λ t. p.walking k t) (member-came key l.walk k m))

  pub placed-gone_on : IsPlaced (record l { walk = gone_on l.walk })
  placed-gone_on = placed-walk (gone_on l.walk) (λ k m. p.walking k (member-given l.walk k m))

  -- the native at a key stands otherwise
  counts-stated : (key : ℕ) (c : Placed) → cell_at l.cells key ≡ Some c → (w : Walk) (state : Walked) → states_of w ≡ with_state (states_of l.walk) key state →
      counts_of (record l { walk = w }) ≡ with_state_of (counts_of l) key state
  counts-stated key c at w state e = ap (λ walks. record (counts_of l) { walks = walks })
      (ap (states_below (length l.cells)) e ∙ states-set (length l.cells) (states_of l.walk) key state (cell-within l.cells key c at))

  -- the first that waits is given
  pub walked-next : (o : Option NKey) → option_map (λ (k : NKey). k.0) o ≡ first_of l.walk.waiting → IfSome o (λ k. ¬ (Among k.0 l.walk.given)) →
      (new : Lists) → new ≡ record l { walk = gone_on l.walk } →
      MatchOption o (NoneWaits (counts_of l).walks × (counts_of new ≡ counts_of l))
      (λ key. (state_of (counts_of l) key.0 ≡ Waiting) × (counts_of new ≡ with_state_of (counts_of l) key.0 Given) × (is_some (number_at (counts_of l) key.0) ≡ true))
  walked-next None e apart new s = (
    λ key waits. states-none l.walk (sym e) key (sym (states-shown l p key) ∙ waits),
    ap (λ (n : Lists). counts_of n) s ∙ ap (λ (w : Walk). counts_of (record l { walk = w })) (gone_on-none l.walk (sym e)),
  )
  walked-next (Some key) e apart new s =
      let f = p.walking key.0 (Among-right key.0 l.walk.given l.walk.waiting (first-among l.walk.waiting key.0 (sym e))) in (
        states-shown l p key.0 ∙ states-first l.walk key.0 (sym e) apart,
        ap (λ (n : Lists). counts_of n) s ∙ counts-stated key.0 f.0 f.1 (gone_on l.walk) Given (states-gone_on l.walk key.0 (sym e)),
        ap is_some (number_at-cell l.cells key.0 f.0 f.1),
      )

  -- a key comes in
  pub counts-entered : (key : ℕ) (c : Placed) → cell_at l.cells key ≡ Some c →
      counts_of (record l { walk = with_member key l.walk }) ≡ with_state_of (counts_of l) key (entered (state_of (counts_of l) key))
  counts-entered key c at =
      counts-stated key c at (with_member key l.walk) (entered (states_of l.walk key)) (states-with_member key l.walk)
      ∙ ap (λ state. with_state_of (counts_of l) key (entered state)) (sym (states-shown l p key))

  -- and stands so
  pub state-entered : (key : ℕ) (c : Placed) → cell_at l.cells key ≡ Some c →
      state_of (counts_of (record l { walk = with_member key l.walk })) key ≡ entered (state_of (counts_of l) key)
  state-entered key c at =
      ap (λ d. state_of d key) (counts-entered key c at)
      ∙ get_or-set_same (states_below (length l.cells) (states_of l.walk)) key (entered (state_of (counts_of l) key)) Out
      (omega (arith, states-length (length l.cells) (states_of l.walk), cell-within l.cells key c at))

  -- whether a key is in it
  pub walked-shown : (key : ℕ) → has ◌==◌ (members l.walk) key ≡ is_walked (state_of (counts_of l) key)
  walked-shown key = sym (ap is_walked (states-shown l p key) ∙ walked-member l.walk key)

-- No key is in it.
pub counts-cleared : (l : Lists) → counts_of (record l { walk = no_walk }) ≡ unwalked (counts_of l)
counts-cleared l = ap (λ walks. record (counts_of l) { walks = walks }) (States.states-none (length l.cells) (states_of l.walk))
