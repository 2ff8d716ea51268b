-- WHICH REFERENCES CALLERS OWN: the count of a native is the slots that hold it and the references that are owned.
use Rattle.std.specs.Prelude.{◌≡◌, ◌≢◌, ℕ, ◌+◌, ◌≤◌, ◌==◌, false, List, [], ◌∷◌, ◌++◌, length, map, count_by, Some, None}
use Rattle.cc_lists.specs.Members.{Among}
use Rattle.cc_names.specs.Names.{native, same_name}
use Rattle.cc_model.specs.Heap.{HeapNative, Buffered, with_mark, new_native}
use Rattle.cc_model.specs.WellFormed.{IsRising, native_names}
use Rattle.cc_model.specs.Counts.{slots_of_natives, times}
use Rattle.cc_counted.specs.Counts.{Counts, heap_of, number_at, reflector_at, state_of}

-- each native that is there stands at one key, and at each key that holds something a native that is there
pub record HasKeys (c : Counts) : Type 0 where
  pub key_of : (n : HeapNative) → Among n c.natives → (key : ℕ) × (number_at c key ≡ Some n.number)
  pub there : (key k : ℕ) → number_at c key ≡ Some k → Among (native k) (native_names (heap_of c))
  pub one_key : (p q k : ℕ) → number_at c p ≡ Some k → number_at c q ≡ Some k → p ≡ q
  pub rising : IsRising (map (λ n. n.number) c.natives)

-- the callers own the references `owned`, by occurrence
pub record AreOwned (owned : List ℕ) (c : Counts) : Type 0 where
  pub counts : (n : HeapNative) → Among n c.natives →
      n.count ≡ count_by (same_name (native n.number)) (slots_of_natives (heap_of c)) + times n.number owned
  pub none_zero : (n : HeapNative) → Among n c.natives → 1 ≤ n.count
  pub held_there : (k : ℕ) → Among (native k) (slots_of_natives (heap_of c)) → Among (native k) (native_names (heap_of c))
  pub owned_there : (k : ℕ) → Among k owned → Among (native k) (native_names (heap_of c))
  pub buffered : (b : Buffered) → Among b c.buffer → Among (native b.number) (native_names (heap_of c))
  pub buffered_once : (k : ℕ) → count_by (λ b. b.number == k) c.buffer ≤ 1

-- callers give the references `given` and have `gained` in their place; what else they own stays theirs
abbrev pub Transfers : List ℕ → List ℕ → Counts → Counts → Type 0
Transfers given gained old new = (others : List ℕ) → AreOwned (given ++ others) old → AreOwned (gained ++ others) new

-- the callers own these references, and maybe others
abbrev pub CallersOwn : List ℕ → Counts → Type 0
CallersOwn ks c = (others : List ℕ) × AreOwned (ks ++ others) c

-- a native was made at a key that held nothing: it stands last and in the buffer, with count one
pub record Makes (old new : Counts) (key number slots : ℕ) : Type 0 where
  pub natives : new.natives ≡ old.natives ++ new_native number slots ∷ []
  pub buffer : new.buffer ≡ with_mark false number old.buffer
  pub there : number_at new key ≡ Some number
  pub others : (q : ℕ) → q ≢ key → number_at new q ≡ number_at old q
  pub vacant : number_at old key ≡ None
  pub keyed : HasKeys new
  pub reflector : reflector_at new key ≡ None
  pub other_reflectors : (q : ℕ) → q ≢ key → reflector_at new q ≡ reflector_at old q
  pub as_many : length new.reflectors ≡ length new.keys
  pub walks : (q : ℕ) → state_of new q ≡ state_of old q
