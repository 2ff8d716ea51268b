use Rattle.std.proofs.Common.{◌≡◌, ◌+◌, subst}
use Rattle.cc_names.specs.declared.register.Reg.TheVariants.{N, S}
use Rattle.cc_model.specs.Heap.{register}
use Rattle.cc_heaps.specs.Changes.{native_name, script_name}
use Rattle.cc_host.specs.declared.runtime.rooted.TheConstants.{FIRST_PLACE}
use Rattle.cc_host.specs.Hosted.{Hosted}
use Rattle.cc_host.proofs.AtPlaces.{native-rooted, script-rooted}
use Rattle.cc_host.proofs.runtime.Runtime.at_place.Goals as goal

pub returns-in-Some-clause-reached : goal.returns-in-Some-clause-reached
returns-in-Some-clause-reached c =
    let r = FIRST_PLACE + c.args.place in
    native-rooted c.args.self.now r c.native_reg.result c.in-Some.key c.in-Some.is
    (subst (λ (k : Hosted). native_name k.heaps c.native_reg.result ≡ register k.heaps.heap (N r)) c.self.view_is c.native_reg.ensures.name)
    c.of_native.result c.of_native.ensures.name

pub returns-in-None-clause-reached : goal.returns-in-None-clause-reached
returns-in-None-clause-reached c =
    let r = FIRST_PLACE + c.args.place in
    script-rooted c.args.self.now r c.script_reg.result
    (subst (λ (k : Hosted). script_name k.heaps c.script_reg.result ≡ register k.heaps.heap (S r)) c.self.view_is c.script_reg.ensures.name)
    c.of_script.result c.of_script.ensures.name
