-- A ROOT THAT WAS TAKEN AND GIVEN BACK leaves the books as they were, but for a serial number that is used up.
use Rattle.std.proofs.Common.{◌≡◌, ℕ, ◌≤◌, Some, None, sym, ◌∙◌, ap, subst, ⊎_elim, arith}
use Rattle.std.proofs.lemmas.Bool.{cases_eq}
use Rattle.cc_host.specs.Hosted.{Hosted}
use Rattle.cc_host.specs.Hosts.{Books, Enters, IsBooked, serial_at}

pub booked-back : (h k : Hosted) (b c d : Books) (index serial : ℕ) → k ≡ h → IsBooked h b → serial_at b index ≡ None → Enters b c index (Some serial) → Enters c d index None →
    b.last ≤ d.last → IsBooked k d
booked-back h k b c d index serial is r none enters leaves more = subst (λ (u : Hosted). IsBooked u d) (sym is) (record {
  held = λ i s used. r.held i s (sym (same i) ∙ used);
  free = λ i there free. r.free i there (sym (same i) ∙ free);
  serials = λ i s used. omega (arith, r.serials i s (sym (same i) ∙ used), more);
})
  where
    same : (i : ℕ) → serial_at d i ≡ serial_at b i
    same i = ⊎_elim
        (λ e. ap (serial_at d) e ∙ (leaves.entered ∙ (sym none ∙ sym (ap (serial_at b) e))))
        (λ other. leaves.others i other ∙ enters.others i other)
        (cases_eq i index)
