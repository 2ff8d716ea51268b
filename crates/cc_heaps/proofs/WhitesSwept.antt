-- WHITE OBJECTS ARE SWEPT IN TURN, by keys: of those before the place to which a walk has come the white ones are gone, they
-- are told, and their natives are let go. Natives whose reflectors come later stay until then, since these own references.
use Rattle.cc_heaps.proofs.LeftWith.{key_left-there}
use Rattle.std.proofs.Common.{◌≡◌, ℕ, ◌<◌, ◌≤◌, Bool, true, false, not, ◌||◌, if◌then◌else◌, List, [], ◌∷◌, ◌++◌, length, map, get_or, Option, Some, None, option_map, refl, sym, ◌∙◌, ap, subst, arith, append-nil, inl, inr}
use Rattle.std.specs.Prelude.{IsTrue}
use Rattle.std.specs.List.{filter}
use Rattle.std.specs.Option.{is_some, option_to_list}
use Rattle.std.proofs.Math.ListN.{get_or-map}
use Rattle.std.proofs.lemmas.List.{map-append, append_assoc}
use Rattle.std.proofs.lemmas.List.Elements.{filter-append}
use Rattle.cc_lists.specs.Members.{Among}
use Rattle.cc_lists.specs.Walks.{left_at}
use Rattle.cc_lists.proofs.Walks.{AreOthers, others-around, found-between, next-between, left-between, without-between}
use Rattle.cc_lists.proofs.Members.{Among-filtered, Among-map, Among-left}
use Rattle.cc_lists.proofs.ListWrites.{map-agree}
use Rattle.cc_names.specs.declared.name.Name.{Name}
use Rattle.cc_names.specs.declared.number.SKey.{SKey}
use Rattle.cc_names.specs.Names.{native}
use Rattle.cc_model.specs.declared.item.Event.{Event}
use Rattle.cc_model.specs.declared.item.Event.TheVariants.{Freed}
use Rattle.cc_model.specs.Heap.{Heap}
use Rattle.cc_model.specs.Telling.{Telling, TellsEvents}
use Rattle.cc_model.specs.WellFormed.{native_names}
use Rattle.cc_model.proofs.Tellings.{Tells-nil, TellsEvents-trans}
use Rattle.cc_counted.specs.Counts.{Counts, number_at, number_or_none, the_number, key_left, heap_of, released, with_reflector}
use Rattle.cc_counted.specs.Owning.{AreOwned, CallersOwn, Transfers}
use Rattle.cc_script.specs.Objects.{Object, object_at, is_there, first_key, key_after, without_object}
use Rattle.cc_heaps.specs.Sweeping.{Left, OwnEach, are_some, forgotten, is_white, let_native_go, native_keys, native_keys_where, not_white, sweep_each, sweep_one, sweep_where, swept_counts, white_names, whites}
use Rattle.cc_heaps.proofs.Agreeing.{filter-one, filter-no_one}
use Rattle.cc_heaps.proofs.Reaching.{HasOneKey}

-- how many objects are left from a key on
abbrev pub objects_left : List Object → Option SKey → ℕ
objects_left os at = length (left_at (λ o. o.key) os (option_map (λ (key : SKey). key.0) at))

-- White ones first and behind

white-first : (o : Object) (os : List Object) → is_white o ≡ true → whites (o ∷ os) ≡ o ∷ whites os
white-first o os e = rw e refl

other-first : (o : Object) (os : List Object) → is_white o ≡ false → whites (o ∷ os) ≡ whites os
other-first o os e = rw e refl

white_names-append : (xs ys : List Object) → white_names (xs ++ ys) ≡ white_names xs ++ white_names ys
white_names-append xs ys = ap (map (λ (o : Object). o.name)) (filter-append is_white xs ys) ∙ map-append (λ (o : Object). o.name) (filter is_white xs) (filter is_white ys)

are_some-append : (xs ys : List Name) → are_some (xs ++ ys) ≡ (are_some xs || are_some ys)
are_some-append xs ys = grind arith

-- Who owns the references

-- a native that is left keeps its key
key-left : (c : Counts) (g : Heap) (key k : ℕ) → number_at c key ≡ Some k → Among (native k) (native_names g) → get_or (map (key_left g) c.keys) key None ≡ Some k
key-left c g key k e m = get_or-map (key_left g) c.keys key None ∙ (ap (key_left g) e ∙ key_left-there g k m)

-- numbers are those of the first of the heaps
same-numbers : (first c : Counts) (n : Option ℕ) (rest : List ℕ) → OwnEach first (option_to_list n ++ rest) c → let_native_go c c n ≡ let_native_go first c n
same-numbers first c None rest own = refl
same-numbers first c (Some key) rest own = ap (λ k. forgotten c key k) (ap number_or_none (own.there key (inl refl)))

-- one native is let go, and the others stay
OwnEach-next : (first c d : Counts) (n : Option ℕ) (rest : List ℕ) → OwnEach first (option_to_list n ++ rest) c → d ≡ (let_native_go first c n).counts →
    Transfers (map (the_number c) (option_to_list n)) [] c d → OwnEach first rest d
OwnEach-next first c d None rest own e t = subst (OwnEach first rest) (sym e) own
OwnEach-next first c d (Some key) rest own e t =
    let others = own.owned.0 in
    let same : the_number c key ≡ the_number first key = ap number_or_none (own.there key (inl refl)) in
    let owned : AreOwned (map (the_number first) rest ++ others) d =
    t (map (the_number first) rest ++ others) (subst (λ k. AreOwned (k ∷ (map (the_number first) rest ++ others)) c) (sym same) own.owned.1) in
    record {
      there = λ q m.
          let there : Among (native (the_number first q)) (native_names (heap_of d)) =
          owned.owned_there (the_number first q) (Among-left (the_number first q) (map (the_number first) rest) others (Among-map (the_number first) q rest m)) in
          subst (λ (x : Counts). number_at x q ≡ Some (the_number first q)) (sym e)
          (key-left c (released (with_reflector c key None) (the_number first key)).heap q (the_number first q) (own.there q (inr m))
          (subst (λ (x : Counts). Among (native (the_number first q)) (native_names (heap_of x))) e there));
      owned = (others, owned);
    }

-- the first ones alone
OwnEach-front : (first c : Counts) (keys rest : List ℕ) → OwnEach first (keys ++ rest) c → OwnEach c keys c
OwnEach-front first c keys rest own =
    let numbers : map (the_number c) keys ≡ map (the_number first) keys =
    map-agree (the_number c) (the_number first) keys (λ q m. ap number_or_none (own.there q (Among-left q keys rest m))) in
    record {
      there = λ q m. let e = own.there q (Among-left q keys rest m) in e ∙ ap (λ k. Some k) (sym (ap number_or_none e));
      owned = (
        map (the_number first) rest ++ own.owned.0,
        subst (λ ks. AreOwned ks c) ((λ i. map-append (the_number first) keys rest i ++ own.owned.0) ∙ (append_assoc (map (the_number first) keys) (map (the_number first) rest) own.owned.0
            ∙ ap (λ ks. ks ++ (map (the_number first) rest ++ own.owned.0)) (sym numbers))) own.owned.1,
      );
    }

-- and none
OwnEach-some : (first c : Counts) (keys : List ℕ) → OwnEach first keys c → CallersOwn [] c
OwnEach-some first c keys own = (map (the_number first) keys ++ own.owned.0, own.owned.1)

-- The walk

-- the objects that it has seen, those that are left, and what was told
pub record Sweeps (before now : List Object) (first counted : Counts) (at : Option SKey) (swept : Bool) (a b : Telling) : Type 0 where
  pub seen : List Object
  pub left : List Object
  pub events : List Event
  pub whole : before ≡ seen ++ left
  pub rest : now ≡ not_white seen ++ left
  pub key : option_map (λ (key : SKey). key.0) at ≡ first_key left
  pub found : swept ≡ are_some (white_names seen)
  pub natives : sweep_each first (whites left) (record { counts = counted; events = events }) ≡ swept_counts first before
  pub told : TellsEvents a b events
  pub owned : OwnEach first (native_keys (whites left)) counted

pub Sweeps-start : (before : List Object) (first : Counts) (at : Option SKey) (a : Telling) → OwnEach first (native_keys (whites before)) first →
    option_map (λ (key : SKey). key.0) at ≡ first_key before → Sweeps before before first first at false a a
Sweeps-start before first at a own key = record {
  seen = [];
  left = before;
  events = [];
  whole = refl;
  rest = refl;
  key = key;
  found = refl;
  natives = refl;
  told = Tells-nil a;
  owned = own;
}

-- the object to which it has come
pub record Stands (before now : List Object) (first counted : Counts) (key : ℕ) (swept : Bool) (a b : Telling) : Type 0 where
  pub seen : List Object
  pub this : Object
  pub behind : List Object
  pub events : List Event
  pub whole : before ≡ seen ++ this ∷ behind
  pub rest : now ≡ not_white seen ++ this ∷ behind
  pub here : key ≡ this.key
  pub apart : AreOthers (λ (o : Object). o.key) this.key (not_white seen) × AreOthers (λ (o : Object). o.key) this.key behind
  pub found : swept ≡ are_some (white_names seen)
  pub natives : sweep_each first (whites (this ∷ behind)) (record { counts = counted; events = events }) ≡ swept_counts first before
  pub told : TellsEvents a b events
  pub owned : OwnEach first (native_keys (whites (this ∷ behind))) counted

pub Sweeps-stands : (before now : List Object) (first counted : Counts) (at : Option SKey) (key : SKey) (swept : Bool) (a b : Telling) → HasOneKey before → at ≡ Some key →
    Sweeps before now first counted at swept a b → Stands before now first counted key.0 swept a b
Sweeps-stands before now first counted at key swept a b one e s = go s.left refl
  where
    at_key : Some key.0 ≡ first_key s.left
    at_key = sym (ap (option_map (λ (key : SKey). key.0)) e) ∙ s.key

    go : (left : List Object) → s.left ≡ left → Stands before now first counted key.0 swept a b
    go [] f = let bad : Some key.0 ≡ None = at_key ∙ ap first_key f in absurd (cc)
    go (o ∷ os) f =
        let front : Some key.0 ≡ Some o.key = at_key ∙ ap first_key f in
        let whole : before ≡ s.seen ++ o ∷ os = s.whole ∙ ap (λ os. s.seen ++ os) f in
        let apart = others-around (λ (o : Object). o.key) s.seen o os (subst HasOneKey whole one) in
        record {
          seen = s.seen;
          this = o;
          behind = os;
          events = s.events;
          whole = whole;
          rest = s.rest ∙ ap (λ os. not_white s.seen ++ os) f;
          here = cc;
          apart = (λ x m. apart.0 x (Among-filtered (λ (p : Object). not (is_white p)) x s.seen m), apart.1);
          found = s.found;
          natives = ap (λ os. sweep_each first (whites os) (record { counts = counted; events = s.events })) (sym f) ∙ s.natives;
          told = s.told;
          owned = subst (λ os. OwnEach first (native_keys (whites os)) counted) f s.owned;
        }

-- what comes of it: the walk goes on behind it
record Takes (before : List Object) (first : Counts) (seen : List Object) (this : Object) (behind : List Object) (result : Bool) (later : List Object) (next : Counts)
    (a c : Telling) : Type 0 where
  rest : later ≡ not_white (seen ++ this ∷ []) ++ behind
  found : are_some (white_names (this ∷ [])) ≡ result
  events : List Event
  natives : sweep_each first (whites behind) (record { counts = next; events = events }) ≡ swept_counts first before
  told : TellsEvents a c events
  owned : OwnEach first (native_keys (whites behind)) next

-- no more are left from where it stands than it has left
Sweeps-left : (before now : List Object) (first counted : Counts) (at : Option SKey) (swept : Bool) (a b : Telling) → HasOneKey before →
    (s : Sweeps before now first counted at swept a b) →
    objects_left now at ≤ length s.left
Sweeps-left before now first counted at swept a b one s = go at s.left refl s.key
  where
    go : (at : Option SKey) (left : List Object) → s.left ≡ left → option_map (λ (key : SKey). key.0) at ≡ first_key left →
        objects_left now at ≤ length left
    go None left f at_key = omega arith
    go (Some key) [] f at_key = absurd (cc)
    go (Some key) (o ∷ os) f at_key =
        let here : key.0 ≡ o.key = cc in
        let apart = others-around (λ (o : Object). o.key) s.seen o os (subst HasOneKey (s.whole ∙ ap (λ os. s.seen ++ os) f) one) in
        let left_now : left_at (λ o. o.key) now (Some key.0) ≡ o ∷ os =
        (λ i. left_at (λ o. o.key) ((s.rest ∙ ap (λ os. not_white s.seen ++ os) f) i) (Some (here i)))
        ∙ left-between (λ (o : Object). o.key) o os (not_white s.seen) (λ x m. apart.0 x (Among-filtered (λ (p : Object). not (is_white p)) x s.seen m)) in
        omega (arith, ap length left_now)

module _ (before now : List Object) (first counted : Counts) (key : ℕ) (swept : Bool) (a b : Telling) (s : Stands before now first counted key swept a b) where
  object_here : object_at now key ≡ Some s.this
  object_here = (λ i. object_at (s.rest i) (s.here i)) ∙ found-between (λ (o : Object). o.key) s.this s.behind (not_white s.seen) s.apart.0

  pub Stands-there : IsTrue (is_there now key)
  Stands-there = ap is_some object_here

  -- the reference that it owns, where it is a reflector that goes
  pub Stands-owned : (o : Object) → object_at now key ≡ Some o → OwnEach counted (native_keys_where (is_white o) o) counted
  Stands-owned o e = subst (λ p. OwnEach counted (native_keys_where (is_white p) p) counted) same (by_colour (is_white s.this) refl)
    where
      same : s.this ≡ o
      same = let both : Some s.this ≡ Some o = sym object_here ∙ e in cc

      by_colour : (r : Bool) → is_white s.this ≡ r → OwnEach counted (native_keys_where r s.this) counted
      by_colour true w = OwnEach-front first counted (option_to_list s.this.native) (native_keys (whites s.behind))
          (subst (λ os. OwnEach first (native_keys os) counted) (white-first s.this s.behind w) s.owned)
      by_colour false w = record { there = λ q m. absurd m; owned = OwnEach-some first counted (native_keys (whites (s.this ∷ s.behind))) s.owned }

  next_here : key_after now key ≡ first_key s.behind
  next_here = (λ i. key_after (s.rest i) (s.here i)) ∙ next-between (λ (o : Object). o.key) s.this s.behind (not_white s.seen) s.apart.0

  without_here : without_object now key ≡ not_white s.seen ++ s.behind
  without_here = (λ i. without_object (s.rest i) (s.here i)) ∙ without-between (λ (o : Object). o.key) s.this s.behind (not_white s.seen) s.apart.0 s.apart.1

  left_here : left_at (λ o. o.key) now (Some key) ≡ s.this ∷ s.behind
  left_here = (λ i. left_at (λ o. o.key) (s.rest i) (Some (s.here i))) ∙ left-between (λ (o : Object). o.key) s.this s.behind (not_white s.seen) s.apart.0

  module _ (result : Bool) (white : option_map is_white (object_at now key) ≡ Some result) (later : List Object)
      (left : later ≡ (if result then without_object now key else now)) (next : Counts)
      (natives : (o : Object) → object_at now key ≡ Some o → next ≡ (sweep_where result counted counted o).counts) (c : Telling)
      (tells : (o : Object) → object_at now key ≡ Some o → TellsEvents b c (sweep_where result counted counted o).events)
      (owned : (o : Object) → object_at now key ≡ Some o → Transfers (map (the_number counted) (native_keys_where result o)) [] counted next)
      (at : Option SKey) (at_next : option_map (λ (key : SKey). key.0) at ≡ key_after now key) where
    is_result : is_white s.this ≡ result
    is_result = let both : Some (is_white s.this) ≡ Some result = sym (ap (option_map is_white) object_here) ∙ white in cc

    abbrev stays : Object → Bool
    stays o = not (is_white o)

    -- it was white
    taken-white : is_white s.this ≡ true → later ≡ without_object now key → next ≡ (sweep_one counted counted s.this).counts →
        TellsEvents b c (sweep_one counted counted s.this).events → Transfers (map (the_number counted) (option_to_list s.this.native)) [] counted next →
        Takes before first s.seen s.this s.behind true later next a c
    taken-white w e n t own =
        let mine : OwnEach first (option_to_list s.this.native ++ native_keys (whites s.behind)) counted =
        subst (λ os. OwnEach first (native_keys os) counted) (white-first s.this s.behind w) s.owned in
        let same : sweep_one counted counted s.this ≡ sweep_one first counted s.this =
        ap (λ (l : Left). record { counts = l.counts; events = Freed s.this.name ∷ l.events }) (same-numbers first counted s.this.native (native_keys (whites s.behind)) mine) in
        let is : next ≡ (sweep_one first counted s.this).counts = n ∙ ap (λ (l : Left). l.counts) same in
        record {
          rest =
              e
              ∙ (without_here
              ∙ ap (λ os. os ++ s.behind)
              (sym (filter-append stays s.seen (s.this ∷ []) ∙ (ap (λ os. not_white s.seen ++ os) (filter-no_one stays s.this (ap not w)) ∙ append-nil (not_white s.seen)))));
          found = ap (λ os. are_some (map (λ (o : Object). o.name) os)) (filter-one is_white s.this w);
          events = s.events ++ (sweep_one first counted s.this).events;
          natives =
              ap (λ d. sweep_each first (whites s.behind) (record { counts = d; events = s.events ++ (sweep_one first counted s.this).events })) is
              ∙ (ap (λ os. sweep_each first os (record { counts = counted; events = s.events })) (sym (white-first s.this s.behind w)) ∙ s.natives);
          told = TellsEvents-trans a b c s.events (sweep_one first counted s.this).events s.told (subst (λ (l : Left). TellsEvents b c l.events) same t);
          owned = OwnEach-next first counted next s.this.native (native_keys (whites s.behind)) mine is own;
        }

    -- it was not
    taken-other : is_white s.this ≡ false → later ≡ now → next ≡ counted → TellsEvents b c [] → Takes before first s.seen s.this s.behind false later next a c
    taken-other w e n t = record {
      rest =
          e
          ∙ (s.rest
          ∙ sym (ap (λ os. os ++ s.behind) (filter-append stays s.seen (s.this ∷ []) ∙ ap (λ os. not_white s.seen ++ os) (filter-one stays s.this (ap not w)))
          ∙ append_assoc (not_white s.seen) (s.this ∷ []) s.behind));
      found = ap (λ os. are_some (map (λ (o : Object). o.name) os)) (filter-no_one is_white s.this w);
      events = s.events ++ [];
      natives =
          (λ i. sweep_each first (whites s.behind) (record { counts = n i; events = append-nil s.events i }))
          ∙ (ap (λ os. sweep_each first os (record { counts = counted; events = s.events })) (sym (other-first s.this s.behind w)) ∙ s.natives);
      told = TellsEvents-trans a b c s.events [] s.told t;
      owned = subst (OwnEach first (native_keys (whites s.behind))) (sym n) (subst (λ os. OwnEach first (native_keys os) counted) (other-first s.this s.behind w) s.owned);
    }

    -- by whether the object was white
    taken : Takes before first s.seen s.this s.behind result later next a c
    taken = go result is_result left (natives s.this object_here) (tells s.this object_here) (owned s.this object_here)
      where
        go : (r : Bool) → is_white s.this ≡ r → later ≡ (if r then without_object now key else now) → next ≡ (sweep_where r counted counted s.this).counts →
            TellsEvents b c (sweep_where r counted counted s.this).events → Transfers (map (the_number counted) (native_keys_where r s.this)) [] counted next →
            Takes before first s.seen s.this s.behind r later next a c
        go true w e n t own = taken-white w e n t own
        go false w e n t own = taken-other w e n t

    pub Sweeps-next : Sweeps before later first next at (swept || result) a c
    Sweeps-next = record {
      seen = s.seen ++ s.this ∷ [];
      left = s.behind;
      events = taken.events;
      whole = s.whole ∙ sym (append_assoc s.seen (s.this ∷ []) s.behind);
      rest = taken.rest;
      key = at_next ∙ next_here;
      found = (λ i. s.found i || sym taken.found i) ∙ (sym (are_some-append (white_names s.seen) (white_names (s.this ∷ []))) ∙ ap are_some (sym (white_names-append s.seen (s.this ∷ []))));
      natives = taken.natives;
      told = taken.told;
      owned = taken.owned;
    }

    -- and fewer are left.
    pub Sweeps-fewer : HasOneKey before → objects_left later at < length (left_at (λ o. o.key) now (Some key))
    unfolding Sweeps-next
    Sweeps-fewer one =
        let still : objects_left later at ≤ length s.behind = Sweeps-left before later first next at (swept || result) a c one Sweeps-next in
        omega (arith, still, ap length left_here)
