-- WHAT STANDS AT A KEY, label, content, new mark and colour: what is read there, and what a write of each changes.
use Rattle.std.proofs.Common.{◌≡◌, ◌≢◌, ◌≤◌, Bool, false, ℕ, ◌+◌, ◌<◌, zero, suc, List, [], ◌∷◌, map, length, drop, get_or, replicate, Option, Some, None, option_map, is_some, refl, sym, ◌∙◌, ap, subst, arith}
use Rattle.std.specs.Prelude.{IsTrue}
use Rattle.std.proofs.Math.ListN.{set, get_or-map, length-set}
use Rattle.std.proofs.Math.Path.{fun_ext}
use Rattle.std.proofs.lemmas.Bool.{false≢true}
use Rattle.std.proofs.lemmas.Bool.Decides.{eqb_tells}
use Rattle.std.proofs.lemmas.List.{get_or-set_other, get_or-set_same}
use Rattle.std.proofs.lemmas.Simd.{map-map}
use Rattle.cc_lists.proofs.Held.{is_some-map, is_some-found}
use Rattle.slab.specs.Slab.{Slab, ContainsKey, Updates, get}
use Rattle.cc_lists.proofs.ListWrites.{map-agree}
use Rattle.cc_names.specs.declared.kind.Colour.{Colour}
use Rattle.cc_names.specs.declared.kind.Colour.TheVariants.{White, Gray, Black}
use Rattle.cc_chain.specs.declared.link.Link.{Link}
use Rattle.cc_chain.specs.Links.{is_live}
use Rattle.cc_script.specs.Lists.{Placed, cell_at, exchanged_marks, newly_marked, painted}
use Rattle.cc_script.specs.Paired.{Reaches, paired}
use Rattle.cc_script.specs.Threads.{Thread, same_thread}
use Rattle.cc_script.specs.Cells.{AreGrayNoted, Changes, ChangesEach, Content, HasColourAt, HaveAll, Label, Linked, bare_slab, cells_of, coloured_slab, filled, filled_slab, in_colour, in_new_mark, link_of, links_in, marked_slab, nothing}
use Rattle.cc_script.proofs.Linking.{Relinks, cell-held, cell-read, changes-written, relinks-written}
use Rattle.cc_script.proofs.Paired.{held-in, held-out, paired-at, paired-same, paired-set, paired-written, read-at, updates-made, updates-taken, vacant-at}

-- the labels, contents and new marks with their colours
abbrev coloured : List (Option Linked) → List Colour → List (Option Linked)
coloured slots colours = paired in_colour White slots colours

-- all colours white
next-white : (colours : List Colour) (key : ℕ) → get_or (drop 1 colours) key White ≡ get_or colours (suc key) White
next-white colours key = grind arith

pub coloured-white : (slots : List (Option Linked)) (whites colours : List Colour) → ((key : ℕ) → get_or whites key White ≡ White) →
    coloured slots whites ≡ map (option_map (in_colour White)) (coloured slots colours)
coloured-white [] whites colours white = refl
coloured-white (o ∷ slots) whites colours white =
    ap (λ x. x ∷ coloured slots (drop 1 whites)) (ap (λ c. option_map (in_colour c) o) (white 0) ∙ go o)
    ∙ ap (λ rest. option_map (in_colour White) (option_map (in_colour (get_or colours 0 White)) o) ∷ rest)
    (coloured-white slots (drop 1 whites) (drop 1 colours) (λ key. next-white whites key ∙ white (suc key)))
  where
    go : (o : Option Linked) → option_map (in_colour White) o ≡ option_map (in_colour White) (option_map (in_colour (get_or colours 0 White)) o)
    go None = refl
    go (Some b) = refl

replicate-white : (n key : ℕ) → get_or (replicate n White) key White ≡ White
replicate-white zero key = refl
replicate-white (suc n) zero = refl
replicate-white (suc n) (suc key) = replicate-white n key

-- each object changed in the same way, and no link
links-each : (f : Linked → Linked) (t : Thread) → ((z : Linked) → link_of t (f z) ≡ link_of t z) → (slots : List (Option Linked)) → links_in t (map (option_map f) slots) ≡ links_in t slots
links-each f t same slots = fun_ext (λ key. ap (option_map (link_of t)) (get_or-map (option_map f) slots key None) ∙ go (get_or slots key None))
  where
    go : (o : Option Linked) → option_map (link_of t) (option_map f o) ≡ option_map (link_of t) o
    go None = refl
    go (Some z) = ap Some (same z)

pub changes-each : (old new : Slab Linked) (f : Linked → Linked) (change : Placed → Placed) → new.slots ≡ map (option_map f) old.slots → new.capacity ≡ old.capacity →
    ((z : Linked) → (f z).placed ≡ change z.placed) → ((t : Thread) (z : Linked) → link_of t (f z) ≡ link_of t z) → ChangesEach old new change
changes-each old new f change all capacity changes same = record {
  cells = ap cells_of all
      ∙ (map-map (option_map object_in) (option_map f) old.slots
      ∙ (map-agree (λ o. option_map object_in (option_map f o)) (λ o. option_map change (option_map object_in o)) old.slots (λ o m. go o)
      ∙ sym (map-map (option_map change) (option_map object_in) old.slots)));
  links = λ t. ap (links_in t) all ∙ links-each f t (same t) old.slots;
  capacity = capacity;
}
  where
    object_in : Linked → Placed
    object_in z = z.placed

    go : (o : Option Linked) → option_map object_in (option_map f o) ≡ option_map change (option_map object_in o)
    go None = refl
    go (Some z) = ap Some (changes z)

-- all colours white
pub whitens-all : {room : ℕ} (s : Slab Linked) (colours : List Colour) (n : ℕ) → ChangesEach (coloured_slab room s colours) (coloured_slab room s (replicate n White)) (painted White)
whitens-all {room} s colours n = changes-each (coloured_slab room s colours) (coloured_slab room s (replicate n White)) (in_colour White) (painted White)
    (coloured-white s.slots (replicate n White) colours (replicate-white n)) refl (λ z. refl) (λ t z. refl)

-- the objects with new marks and colours
abbrev marked : List (Option Linked) → List Colour → List Colour → List (Option Linked)
marked slots marks colours = coloured (paired in_new_mark White slots marks) colours

-- all new marks white
marked-white : (slots : List (Option Linked)) (whites marks colours : List Colour) → ((key : ℕ) → get_or whites key White ≡ White) →
    marked slots whites colours ≡ map (option_map (in_new_mark White)) (marked slots marks colours)
marked-white [] whites marks colours white = refl
marked-white (o ∷ slots) whites marks colours white =
    ap (λ x. x ∷ marked slots (drop 1 whites) (drop 1 colours)) (ap (λ c. option_map (in_colour colour) (option_map (in_new_mark c) o)) (white 0) ∙ go o)
    ∙ ap (λ rest. option_map (in_new_mark White) (option_map (in_colour colour) (option_map (in_new_mark mark) o)) ∷ rest)
    (marked-white slots (drop 1 whites) (drop 1 marks) (drop 1 colours) (λ key. next-white whites key ∙ white (suc key)))
  where
    colour : Colour
    colour = get_or colours 0 White

    mark : Colour
    mark = get_or marks 0 White

    go : (o : Option Linked) → option_map (in_colour colour) (option_map (in_new_mark White) o) ≡ option_map (in_new_mark White) (option_map (in_colour colour) (option_map (in_new_mark mark) o))
    go None = refl
    go (Some b) = refl

pub unmarks-all : {room : ℕ} (s : Slab Linked) (marks colours : List Colour) (n : ℕ) →
    ChangesEach (coloured_slab room (marked_slab s marks) colours) (coloured_slab room (marked_slab s (replicate n White)) colours) (newly_marked White)
unmarks-all {room} s marks colours n =
    changes-each (coloured_slab room (marked_slab s marks) colours) (coloured_slab room (marked_slab s (replicate n White)) colours) (in_new_mark White) (newly_marked White)
    (marked-white s.slots (replicate n White) marks colours (replicate-white n)) refl (λ z. refl) (λ t z. refl)

-- the new marks for the colours, and the colours for the new marks
abbrev with_marks_exchanged : Linked → Linked
with_marks_exchanged z = record z { placed = exchanged_marks z.placed }

marked-exchanged : (slots : List (Option Linked)) (marks colours : List Colour) → marked slots colours marks ≡ map (option_map with_marks_exchanged) (marked slots marks colours)
marked-exchanged [] marks colours = refl
marked-exchanged (o ∷ slots) marks colours =
    ap (λ x. x ∷ marked slots (drop 1 colours) (drop 1 marks)) (go o)
    ∙ ap (λ rest. option_map with_marks_exchanged (option_map (in_colour colour) (option_map (in_new_mark mark) o)) ∷ rest) (marked-exchanged slots (drop 1 marks) (drop 1 colours))
  where
    colour : Colour
    colour = get_or colours 0 White

    mark : Colour
    mark = get_or marks 0 White

    go : (o : Option Linked) → option_map (in_colour mark) (option_map (in_new_mark colour) o) ≡ option_map with_marks_exchanged (option_map (in_colour colour) (option_map (in_new_mark mark) o))
    go None = refl
    go (Some b) = refl

pub exchanges-all : {room other : ℕ} (s : Slab Linked) (marks colours : List Colour) → other ≡ room →
    ChangesEach (coloured_slab room (marked_slab s marks) colours) (coloured_slab other (marked_slab s colours) marks) exchanged_marks
exchanges-all {room} {other} s marks colours same =
    changes-each (coloured_slab room (marked_slab s marks) colours) (coloured_slab other (marked_slab s colours) marks) with_marks_exchanged exchanged_marks
    (marked-exchanged s.slots marks colours) same (λ z. refl) (λ t z. refl)

-- one object given a colour
pub changes-painted : {room : ℕ} (s : Slab Linked) (colours : List Colour) (key : ℕ) (colour : Colour) (b : Linked) → key < length colours → get s key ≡ Some b →
    Changes (coloured_slab room s colours) (coloured_slab room s (set colours key colour)) key (painted colour)
changes-painted {room} s colours key colour b l at =
    subst (λ slots. Changes (coloured_slab room s colours) (record (coloured_slab room s colours) { slots = slots }) key (painted colour)) (sym (paired-written in_colour White s.slots colours key colour b l at))
    (changes-written (coloured_slab room s colours) key (in_colour (get_or colours key White) b) (in_colour colour b) (painted colour)
    (paired-at in_colour White s.slots colours key ∙ ap (option_map (in_colour (get_or colours key White))) at) refl (λ t. refl))

-- a label and its content written, where an object stood
pub changes-bare : {room : ℕ} (s : Slab Linked) (colours : List Colour) (key : ℕ) (b d : Linked) (change : Placed → Placed) → get s key ≡ Some b →
    (in_colour (get_or colours key White) d).placed ≡ change (in_colour (get_or colours key White) b).placed → ((t : Thread) → link_of t d ≡ link_of t b) →
    Changes (coloured_slab room s colours) (coloured_slab room (record s { slots = set s.slots key (Some d) }) colours) key change
changes-bare {room} s colours key b d change at e links =
    let colour = get_or colours key White in
    subst (λ slots. Changes (coloured_slab room s colours) (record (coloured_slab room s colours) { slots = slots }) key change) (sym (paired-set in_colour White s.slots colours key (Some d)))
    (changes-written (coloured_slab room s colours) key (in_colour colour b) (in_colour colour d) change (read-at in_colour White s colours key b at) e links)

-- The same of what a contract sees

module _ {room : ℕ} (s : Slab Linked) (colours : List Colour) (now : Slab Linked) (same : coloured_slab room s colours ≡ now) (key : ℕ) where
  pub held-bare : ContainsKey now key → ContainsKey s key
  held-bare h = held-in in_colour White s colours key (ap (λ (z : Slab Linked). is_some (get z key)) same ∙ h)

  pub read-coloured : (b : Linked) → get s key ≡ Some b → get now key ≡ Some (in_colour (get_or colours key White) b)
  read-coloured b at = sym (ap (λ (z : Slab Linked). get z key) same) ∙ read-at in_colour White s colours key b at

  pub vacant-coloured : get s key ≡ None → get now key ≡ None
  vacant-coloured none = sym (ap (λ (z : Slab Linked). get z key) same) ∙ vacant-at in_colour White s colours key none

  -- the colour of what stands there; where something has a colour, something stands
  pub colour-coloured : (b : Linked) → get s key ≡ Some b → option_map (λ (c : Placed). c.colour) (cell_at (cells_of now.slots) key) ≡ Some (get_or colours key White)
  colour-coloured b at = ap (option_map (λ (c : Placed). c.colour)) (cell-read now.slots key (in_colour (get_or colours key White) b) (read-coloured b at))

  pub held-coloured : {colour : Colour} → option_map (λ (c : Placed). c.colour) (cell_at (cells_of now.slots) key) ≡ Some colour → ContainsKey s key
  held-coloured e = held-bare (cell-held now.slots key (sym (is_some-map (λ (c : Placed). c.colour) (cell_at (cells_of now.slots) key)) ∙ ap is_some e))

  -- an object made at the key, in a colour
  pub inserted : {other : ℕ} (mid : Slab Linked) (colours' : List Colour) (b : Linked) (colour : Colour) → Reaches s colours → Updates s mid key (Some b) → get_or colours' key White ≡ colour →
      ((k : ℕ) → k ≢ key → k < length colours → get_or colours' k White ≡ get_or colours k White) → Updates now (coloured_slab other mid colours') key (Some (in_colour colour b))
  inserted {other} mid colours' b colour reaches updates here others =
      let u = updates-made in_colour White s colours key mid colours' b colour reaches updates here others in
      subst (λ z. Updates z (coloured_slab other mid colours') key (Some (in_colour colour b))) same (record { changed = u.changed; others = u.others })

  -- the one at the key taken out
  pub removed : {other : ℕ} (mid : Slab Linked) → Updates s mid key None → Updates now (coloured_slab other mid colours) key None
  removed {other} mid updates =
      let u = updates-taken in_colour White s colours key mid updates in
      subst (λ z. Updates z (coloured_slab other mid colours) key None) same (record { changed = u.changed; others = u.others })

  -- the link of one list written
  relinked : (t : Thread) (link : Option Link) (b d : Linked) → get s key ≡ Some b → (in_colour (get_or colours key White) d).placed ≡ (in_colour (get_or colours key White) b).placed →
      link_of t d ≡ link → ((u : Thread) → same_thread t u ≡ false → link_of u d ≡ link_of u b) → Relinks t key link now (coloured_slab room (record s { slots = set s.slots key (Some d) }) colours)
  relinked t link b d at placed here others =
      let colour = get_or colours key White in
      let old = coloured_slab room s colours in
      subst (λ z. Relinks t key link z (coloured_slab room (record s { slots = set s.slots key (Some d) }) colours)) same
      (subst (λ slots. Relinks t key link old (record old { slots = slots })) (sym (paired-set in_colour White s.slots colours key (Some d)))
      (relinks-written old t key (in_colour colour b) (in_colour colour d) link (read-at in_colour White s colours key b at) placed here others))

-- A label with its content and its new mark

module _ (s : Slab Label) (contents : List Content) (marks : List Colour) (key : ℕ) where
  pub held-label : ContainsKey (bare_slab s contents marks) key → ContainsKey s key
  held-label h = held-in filled nothing s contents key (held-in in_new_mark White (filled_slab s contents) marks key h)

  pub held-filled : ContainsKey s key → ContainsKey (bare_slab s contents marks) key
  held-filled h = held-out in_new_mark White (filled_slab s contents) marks key (held-out filled nothing s contents key h)

  pub read-bare : (label : Label) → get s key ≡ Some label → get (bare_slab s contents marks) key ≡ Some (in_new_mark (get_or marks key White) (filled (get_or contents key nothing) label))
  read-bare label at = read-at in_new_mark White (filled_slab s contents) marks key (filled (get_or contents key nothing) label) (read-at filled nothing s contents key label at)

  pub vacant-bare : get s key ≡ None → get (bare_slab s contents marks) key ≡ None
  vacant-bare none = vacant-at in_new_mark White (filled_slab s contents) marks key (vacant-at filled nothing s contents key none)

  -- a label written,
  pub label-set : (label : Label) → bare_slab (record s { slots = set s.slots key (Some label) }) contents marks ≡
      record (bare_slab s contents marks) { slots = set (bare_slab s contents marks).slots key (Some (in_new_mark (get_or marks key White) (filled (get_or contents key nothing) label))) }
  label-set label = ap (λ slots. record (bare_slab s contents marks) { slots = slots })
      (ap (λ slots. paired in_new_mark White slots marks) (paired-set filled nothing s.slots contents key (Some label))
      ∙ paired-set in_new_mark White (filled_slab s contents).slots marks key (Some (filled (get_or contents key nothing) label)))

  -- taken out,
  pub slots-out : paired in_new_mark White (paired filled nothing (set s.slots key None) contents) marks ≡ set (bare_slab s contents marks).slots key None
  slots-out =
      ap (λ slots. paired in_new_mark White slots marks) (paired-set filled nothing s.slots contents key None)
      ∙ paired-set in_new_mark White (filled_slab s contents).slots marks key None

  -- a content written,
  pub content-set : (label : Label) (content : Content) → key < length contents → get s key ≡ Some label →
      bare_slab s (set contents key content) marks ≡ record (bare_slab s contents marks) { slots = set (bare_slab s contents marks).slots key (Some (in_new_mark (get_or marks key White) (filled content label))) }
  content-set label content l at = ap (λ slots. record (bare_slab s contents marks) { slots = slots })
      (ap (λ slots. paired in_new_mark White slots marks) (paired-written filled nothing s.slots contents key content label l at)
      ∙ paired-set in_new_mark White (filled_slab s contents).slots marks key (Some (filled content label)))

  -- or a new mark
  pub mark-set : (label : Label) (new : Colour) → key < length marks → get s key ≡ Some label →
      bare_slab s contents (set marks key new) ≡ record (bare_slab s contents marks) { slots = set (bare_slab s contents marks).slots key (Some (in_new_mark new (filled (get_or contents key nothing) label))) }
  mark-set label new l at = ap (λ slots. record (bare_slab s contents marks) { slots = slots })
      (paired-written in_new_mark White (filled_slab s contents).slots marks key new (filled (get_or contents key nothing) label) l (read-at filled nothing s contents key label at))

  -- a content written where no object stands
  emptied-filled : (content : Content) → get s key ≡ None → filled_slab s (set contents key content) ≡ filled_slab s contents
  emptied-filled content gone = grind (arith, paired-same, set, false≢true, get_or-set_other, eqb_tells)

  pub emptied : (content : Content) → get s key ≡ None → bare_slab s (set contents key content) marks ≡ bare_slab s contents marks
  emptied content gone = ap (λ (z : Slab Linked). marked_slab z marks) (emptied-filled content gone)

-- room made alone, and what stands at each key is the same
module _ (s mid : Slab Label) (contents more : List Content) (marks more_marks colours more_colours : List Colour) (slots : mid.slots ≡ s.slots)
    (same : (k : ℕ) → get_or more k nothing ≡ get_or contents k nothing) (same_marks : (k : ℕ) → get_or more_marks k White ≡ get_or marks k White)
    (same_colours : (k : ℕ) → get_or more_colours k White ≡ get_or colours k White) where
  pub slots-reached : coloured (bare_slab mid more more_marks).slots more_colours ≡ coloured (bare_slab s contents marks).slots colours
  slots-reached =
      paired-same in_colour White (bare_slab mid more more_marks).slots colours more_colours (λ k held. same_colours k)
      ∙ ap (λ xs. coloured xs colours)
      (paired-same in_new_mark White (filled_slab mid more).slots marks more_marks (λ k held. same_marks k)
      ∙ ap (λ xs. paired in_new_mark White xs marks)
      (paired-same filled nothing mid.slots contents more (λ k held. same k) ∙ ap (λ ys. paired filled nothing ys contents) slots))

-- what a contract sees of all parts
module _ {room : ℕ} (s : Slab Label) (contents : List Content) (marks colours : List Colour) (now : Slab Linked) (same : coloured_slab room (bare_slab s contents marks) colours ≡ now)
    (key : ℕ) where
  pub held-whole : ContainsKey now key → ContainsKey s key
  held-whole h = held-label s contents marks key (held-bare (bare_slab s contents marks) colours now same key h)

  pub read-whole : (label : Label) → get s key ≡ Some label →
      get now key ≡ Some (in_colour (get_or colours key White) (in_new_mark (get_or marks key White) (filled (get_or contents key nothing) label)))
  read-whole label at = read-coloured (bare_slab s contents marks) colours now same key (in_new_mark (get_or marks key White) (filled (get_or contents key nothing) label))
      (read-bare s contents marks key label at)

  -- the one at the key taken out, and what it held written over
  pub removed-whole : {other : ℕ} (mid : Slab Label) (content : Content) → Updates s mid key None → Updates now (coloured_slab other (bare_slab mid (set contents key content) marks) colours) key None
  removed-whole {other} mid content updates =
      subst (λ (z : Slab Linked). Updates now (coloured_slab other z colours) key None) (sym (emptied mid contents marks key content updates.changed))
      (removed (bare_slab s contents marks) colours now same key (bare_slab mid contents marks)
      (updates-taken in_new_mark White (filled_slab s contents) marks key (filled_slab mid contents) (updates-taken filled nothing s contents key mid updates)))

  pub slots-removed : (mid : Slab Label) (content : Content) → get mid key ≡ None → mid.slots ≡ set s.slots key None →
      coloured (bare_slab mid (set contents key content) marks).slots colours ≡ set now.slots key None
  slots-removed mid content gone slots =
      ap (λ (z : Slab Linked). coloured z.slots colours) (emptied mid contents marks key content gone)
      ∙ (ap (λ ys. coloured (paired in_new_mark White (paired filled nothing ys contents) marks) colours) slots
      ∙ (ap (λ ys. coloured ys colours) (slots-out s contents marks key)
      ∙ (paired-set in_colour White (bare_slab s contents marks).slots colours key None
      ∙ ap (λ (z : Slab Linked). set z.slots key None) same)))

-- what a list sees of them
module _ {room : ℕ} (s : Slab Label) (contents : List Content) (marks colours : List Colour) (now : Slab Linked) (same : coloured_slab room (bare_slab s contents marks) colours ≡ now)
    (key : ℕ) (t : Thread) where
  -- a live key is that of an object
  pub held-linked : IsTrue (is_live (links_in t now.slots) key) → ContainsKey s key
  held-linked live = held-whole s contents marks colours now same key (sym (is_some-map (link_of t) (get now key)) ∙ live)

  module _ (label : Label) (at : get s key ≡ Some label) where
    abbrev was : Linked
    was = filled (get_or contents key nothing) label

    -- with its new mark
    abbrev with_mark : Linked → Linked
    with_mark z = in_new_mark (get_or marks key White) z

    -- its link is read,
    pub read-linked : links_in t now.slots key ≡ Some (link_of t was)
    read-linked = ap (option_map (link_of t)) (read-whole s contents marks colours now same key label at)

    -- and written: in a label,
    pub label-relinked : (link : Option Link) (new : Label) → (filled (get_or contents key nothing) new).placed ≡ was.placed → link_of t (filled (get_or contents key nothing) new) ≡ link →
        ((u : Thread) → same_thread t u ≡ false → link_of u (filled (get_or contents key nothing) new) ≡ link_of u was) →
        Relinks t key link now (coloured_slab room (bare_slab (record s { slots = set s.slots key (Some new) }) contents marks) colours)
    label-relinked link new placed here others =
        subst (λ z. Relinks t key link now (coloured_slab room z colours)) (sym (label-set s contents marks key new))
        (relinked (bare_slab s contents marks) colours now same key t link (with_mark was) (with_mark (filled (get_or contents key nothing) new)) (read-bare s contents marks key label at)
        (ap (λ (p : Placed). painted (get_or colours key White) (newly_marked (get_or marks key White) p)) placed) here others)

    -- or in a content
    pub content-relinked : (link : Option Link) (new : Content) → key < length contents → (filled new label).placed ≡ was.placed → link_of t (filled new label) ≡ link →
        ((u : Thread) → same_thread t u ≡ false → link_of u (filled new label) ≡ link_of u was) →
        Relinks t key link now (coloured_slab room (bare_slab s (set contents key new) marks) colours)
    content-relinked link new within placed here others =
        subst (λ z. Relinks t key link now (coloured_slab room z colours)) (sym (content-set s contents marks key label new within at))
        (relinked (bare_slab s contents marks) colours now same key t link (with_mark was) (with_mark (filled new label)) (read-bare s contents marks key label at)
        (ap (λ (p : Placed). painted (get_or colours key White) (newly_marked (get_or marks key White) p)) placed) here others)

-- each that has its content and its new mark has its colour too
pub reaches-bare : (s : Slab Label) (contents : List Content) (marks colours : List Colour) → Reaches s colours → Reaches (bare_slab s contents marks) colours
reaches-bare s contents marks colours reaches key held = reaches key (held-label s contents marks key held)

-- and each that has its content has its new mark
pub reaches-filled : (s : Slab Label) (contents : List Content) (marks : List Colour) → Reaches s marks → Reaches (filled_slab s contents) marks
reaches-filled s contents marks reaches key held = reaches key (held-in filled nothing s contents key held)

-- no object is gray where none may be
pub gray-nowhere : {room : ℕ} {may_be_gray : Bool} (s : Slab Linked) (colours : List Colour) (now : Slab Linked) (same : coloured_slab room s colours ≡ now) (colour : Colour) → colour ≡ Gray →
    may_be_gray ≡ false → AreGrayNoted may_be_gray colours → (key : ℕ) → ¬ (HasColourAt now colour key)
gray-nowhere s colours now same colour gray none noted key is =
    let there = is_some-found (get s key) (held-coloured s colours now same key is) in
    let read : Some colour ≡ Some (get_or colours key White) = sym is ∙ colour-coloured s colours now same key there.0 there.1 in
    let here : colour ≡ get_or colours key White = cc in
    noted none key (sym here ∙ gray)

-- written at one key, in a list that was lengthened before
pub written-here : {Y : Type 0} (none y : Y) (more : List Y) (free key : ℕ) → free ≡ key → free + 1 ≤ length more → get_or (set more free y) key none ≡ y
written-here none y more free key is_key long = subst (λ k. get_or (set more free y) k none ≡ y) is_key (get_or-set_same more free y none (omega (arith, long)))

pub written-others : {Y : Type 0} (none y : Y) (old more : List Y) (free key : ℕ) → free ≡ key → ((k : ℕ) → get_or more k none ≡ get_or old k none) →
    (k : ℕ) → k ≢ key → get_or (set more free y) k none ≡ get_or old k none
written-others none y old more free key is_key same k other = get_or-set_other more free k y none (λ e. other (e ∙ is_key)) ∙ same k

-- a colour written, which is noted where it is gray
pub noted-written : {before after : Bool} (old colours : List Colour) (key : ℕ) (colour : Colour) → key < length colours →
    ((k : ℕ) → get_or colours k White ≡ get_or old k White) →
    (after ≡ false → (before ≡ false) × (colour ≢ Gray)) → AreGrayNoted before old → AreGrayNoted after (set colours key colour)
noted-written old colours key colour within kept tells noted none k gray = grind (arith, get_or-set_same, set, get_or-set_other, eqb_tells)

-- black is not gray
pub black-not_gray : Black ≢ Gray
black-not_gray e = cc

-- a content written where an object stands
pub HaveAll-written : (s : Slab Label) (contents : List Content) (marks colours : List Colour) (key : ℕ) (content : Content) {may_be_marked_gray may_be_gray : Bool} → ContainsKey s key →
    HaveAll s contents marks colours may_be_marked_gray may_be_gray → HaveAll s (set contents key content) marks colours may_be_marked_gray may_be_gray
HaveAll-written s contents marks colours key content held all = grind (arith, length-set, emptied, false≢true, get_or-set_other, eqb_tells, all.filled, all.emptied)
