-- WHERE THERE IS THE CAUSE, THERE IS THE ANSWER: by cases on the status.
use Rattle.std.proofs.Common.{◌≡◌, ◌≢◌, ℕ, ◌+◌, ◌<◌, ◌≤◌, List, ◌++◌, length, length-append, append-nil, Option, Some, None, refl, sym, ap, ◌∙◌, arith}
use Rattle.std.specs.Io.KnownBytes.{Consumes, IsAtEnd}
use Rattle.cc_names.specs.Allowance.{Allowance}
use Rattle.cc_replay.specs.declared.status.Status.{Status}
use Rattle.cc_replay.specs.declared.status.Status.TheVariants.{Done, Unlawful, Usage, ReadFault, WriteFault, Limit, NoMemory}
use Rattle.cc_replay.specs.Transcripts.{Ends, IsDone, StopsAtFault, StopsAtLimit, StopsAtWrite}

-- the reads that are answered are at most as many as the limit on bytes, and one
pub reads-within : (s : Status) (limits : Allowance) (e : Ends) → (s ≡ Done → IsDone limits e) → (s ≡ ReadFault → StopsAtFault limits e) →
    (s ≡ Limit → StopsAtLimit limits e) → (s ≡ WriteFault → StopsAtWrite limits e) → (s ≢ Usage) → (s ≢ NoMemory) → (s ≢ Unlawful) →
    e.reads_now.answered ≤ e.reads.answered + limits.bytes + 1
reads-within s limits e done fault over front usage memory verdict = grind arith

-- no read said the end where it is not done and no write failed
pub end-unread : (s : Status) (limits : Allowance) (e : Ends) → (s ≡ ReadFault → StopsAtFault limits e) → (s ≡ Limit → StopsAtLimit limits e) →
    (s ≢ Usage) → (s ≢ NoMemory) → (s ≢ Unlawful) → (s ≢ Done) → (s ≢ WriteFault) → e.reads_now.ended ≡ e.reads.ended
end-unread s limits e fault over usage memory verdict done write = grind arith

-- what was taken of known bytes is no longer than they are
taken-length : (bytes : List ℕ) (left now : Option (List ℕ)) (given : List ℕ) → left ≡ Some bytes → Consumes left now given → length given ≤ length bytes
taken-length bytes None now given e c = let bad : None ≡ Some bytes = e in cc
taken-length bytes (Some xs) None given e c = absurd c
taken-length bytes (Some xs) (Some ys) given e c =
    let same : xs ≡ bytes = cc in
    omega (arith, ap (λ (zs : List ℕ). length zs) same, ap (λ (zs : List ℕ). length zs) c, length-append given ys)

-- at the end all of them were taken
pub whole-bytes : (bytes : List ℕ) (left now : Option (List ℕ)) (given : List ℕ) → left ≡ Some bytes → Consumes left now given → IsAtEnd now → given ≡ bytes
whole-bytes bytes None now given e c end = let bad : None ≡ Some bytes = e in cc
whole-bytes bytes (Some xs) None given e c end = absurd c
whole-bytes bytes (Some xs) (Some ys) given e c end =
    let same : xs ≡ bytes = cc in
    sym (append-nil given) ∙ (sym (ap (λ (zs : List ℕ). given ++ zs) end) ∙ (sym c ∙ same))

-- with no fault an input above the limit is answered so
pub over-answered : (s : Status) (limits : Allowance) (e : Ends) (bytes : List ℕ) (P Q : Type 0) →
    (s ≡ ReadFault → P) → (s ≡ WriteFault → Q) → (s ≡ Done → IsDone limits e) → (s ≢ Usage) → (s ≢ NoMemory) → (s ≢ Unlawful) →
    e.left ≡ Some bytes → limits.bytes < length bytes → ¬ P → ¬ Q → s ≡ Limit
over-answered Limit limits e bytes P Q read write done usage memory verdict left above p q = refl
over-answered Done limits e bytes P Q read write done usage memory verdict left above p q =
    let d = done refl in
    absurd (omega (arith, d.within, ap (λ (zs : List ℕ). length zs) (whole-bytes bytes e.left e.left_now d.given left d.consumed d.at_end)))
over-answered Usage limits e bytes P Q read write done usage memory verdict left above p q = absurd (usage refl)
over-answered ReadFault limits e bytes P Q read write done usage memory verdict left above p q = absurd (p (read refl))
over-answered WriteFault limits e bytes P Q read write done usage memory verdict left above p q = absurd (q (write refl))
over-answered Unlawful limits e bytes P Q read write done usage memory verdict left above p q = absurd (verdict refl)
over-answered NoMemory limits e bytes P Q read write done usage memory verdict left above p q = absurd (memory refl)

-- with no fault an input within the limit is done
pub done-answered : (s : Status) (limits : Allowance) (e : Ends) (bytes : List ℕ) (P Q : Type 0) →
    (s ≡ ReadFault → P) → (s ≡ WriteFault → Q) → (s ≡ Limit → StopsAtLimit limits e) → (s ≢ Usage) → (s ≢ NoMemory) → (s ≢ Unlawful) →
    e.left ≡ Some bytes → length bytes ≤ limits.bytes → ¬ P → ¬ Q → s ≡ Done
done-answered s limits e bytes P Q read write over usage memory verdict left within p q = grind (arith, taken-length)
