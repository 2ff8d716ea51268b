-- WHAT A COLLECTION OF A HOST COMES TO: what that of its heaps came to, where room was taken for all that it tells.
use Rattle.std.proofs.Common.{◌≡◌, ℕ, ◌+◌, ◌≤◌, false, length, Result, Ok, Err, OnOk, OnErr, ap, sym, subst, arith}
use Rattle.cc_names.specs.declared.no_memory.NoMemory.{NoMemory}
use Rattle.cc_collector.specs.declared.collector.Ended.{Ended}
use Rattle.cc_collector.specs.declared.collector.Ended.TheVariants.{Yes, No}
use Rattle.cc_collector.specs.Collected.{progress_of as progress_of_host}
use Rattle.cc_host.specs.Calls.{TellsFew}
use Rattle.cc_host.specs.Hosted.{Hosted, IsKept}
use Rattle.cc_host.specs.Queues.{LosesNone, Queued, telling_of}
use Rattle.cc_host.specs.Hosts.{HasRoom, hindered, most_told, progress_of}
use Rattle.cc_host.specs.declared.hindrance.Hindrance.{Hindrance}
use Rattle.cc_host.specs.declared.hindrance.Hindrance.TheVariants.{NoMemory as Wants}
use Rattle.cc_host.proofs.HasRoom.{MayCollect, few-room, may-collect}

-- the progress is the same
pub progress-same : (r : Result Ended NoMemory) (s : Result Ended Hindrance) → s ≡ hindered r → progress_of s ≡ progress_of_host r
progress-same (Ok Yes) s e = ap progress_of e
progress-same (Ok No) s e = ap progress_of e
progress-same (Err x) s e = ap progress_of e

pub on_ok : {T E P Q : Type 0} (r : Result T E) → (P → Q) → OnOk r P → OnOk r Q
on_ok (Ok x) f p = f p
on_ok (Err e) f p = p

-- what holds of one that went well
pub went-well : {T : Type 0} (P : Type 0) (r : Result T NoMemory) (s : Result T Hindrance) → s ≡ hindered r → OnOk r P → OnOk s P
went-well P (Ok x) s e p = subst (λ t. OnOk t P) (sym e) p
went-well P (Err x) s e p = subst (λ t. OnOk t P) (sym e) p

-- and of one that wanted memory
pub wanted : {T : Type 0} (P : Type 0) (r : Result T NoMemory) (s : Result T Hindrance) → s ≡ hindered r → OnErr r P → s ≡ Err Wants → P
wanted P (Ok x) s e p w = grind arith
wanted P (Err x) s e p w = p

-- WHAT A COLLECTION TOLD IS KEPT: room was taken for it beside what waited
pub record IsKeptWhole (k : Hosted) (o q p : Queued) : Type 0 where
  pub waited : q.items ≡ o.items
  pub before : q.broken ≡ false
  pub room : HasRoom k p

pub kept-whole : (h k : Hosted) (o q p : Queued) → HasRoom h o → q.items ≡ o.items → q.broken ≡ o.broken → length o.items + most_told h ≤ q.room → IsKept k → LosesNone p →
    (besides : ℕ) → besides ≤ length h.heaps.heap.natives + length h.heaps.heap.natives + 2 → TellsFew besides h k (telling_of q) (telling_of p) → IsKeptWhole k o q p
kept-whole h k o q p r waited broken room after loses besides few tells =
    let ready : MayCollect h q = may-collect h o q r waited broken room in
    record { waited = waited; before = ready.whole; room = few-room h k q p loses besides after few ready tells }
