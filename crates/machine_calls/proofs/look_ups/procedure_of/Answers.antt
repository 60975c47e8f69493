use Rattle.std.proofs.Common.{Some, ap, sym, ◌∙◌}
use Rattle.std.specs.Prelude.{slice_get}
use Rattle.code_forms.specs.declared.module_code.ModuleCode.{ModuleCode}
use Rattle.object_files.specs.declared.image.Instance.{Instance}
use Rattle.object_files.specs.declared.object.Object.{Object}
use Rattle.machine_calls.proofs.Found.{read_is, place_is, read_within, procedure_at}
use Rattle.machine_calls.proofs.look_ups.procedure_of.Goals as goal

pub bounds-as_slice-instance : goal.bounds-as_slice-instance
bounds-as_slice-instance c =
    let p = procedure_at c.args.image.now c.args.instance c.args.number c.requires in
    read_within c.as_slice.result.now c.args.image.now.instances c.args.instance p.instance c.as_slice.ensures p.is_instance

pub bounds-as_slice-instance-2 : goal.bounds-as_slice-instance-2
bounds-as_slice-instance-2 c =
    let p = procedure_at c.args.image.now c.args.instance c.args.number c.requires in
    read_within c.as_slice.result.now c.args.image.now.instances c.args.instance p.instance c.as_slice.ensures p.is_instance

pub bounds-as_slice-module : goal.bounds-as_slice-module
bounds-as_slice-module c =
    let p = procedure_at c.args.image.now c.args.instance c.args.number c.requires in
    let same = place_is c.as_slice.result.now c.args.image.now.instances c.args.instance p.instance c.index-as_slice-instance.result c.as_slice.ensures p.is_instance in
    read_within c.as_slice-2.result.now c.args.image.now.modules _ p.object c.as_slice-2.ensures
    (ap (λ (i : Instance). slice_get c.args.image.now.modules i.module) same ∙ p.is_object)

pub bounds-as_slice-number : goal.bounds-as_slice-number
bounds-as_slice-number c =
    let p = procedure_at c.args.image.now c.args.instance c.args.number c.requires in
    let same = place_is c.as_slice.result.now c.args.image.now.instances c.args.instance p.instance c.index-as_slice-instance.result c.as_slice.ensures p.is_instance in
    let object = place_is c.as_slice-2.result.now c.args.image.now.modules _ p.object c.index-as_slice-module.result c.as_slice-2.ensures
    (ap (λ (i : Instance). slice_get c.args.image.now.modules i.module) same ∙ p.is_object) in
    read_within c.as_slice-3.result.now p.object.code.procedures c.args.number p.procedure
    (c.as_slice-3.ensures ∙ ap (λ (m : ModuleCode). m.procedures) (c.code-code.ensures.same ∙ ap (λ (o : Object). o.code) object)) p.there

pub returns : goal.returns
returns c =
    let p = procedure_at c.args.image.now c.args.instance c.args.number c.requires in
    let same = place_is c.as_slice.result.now c.args.image.now.instances c.args.instance p.instance c.index-as_slice-instance.result c.as_slice.ensures p.is_instance in
    let object = place_is c.as_slice-2.result.now c.args.image.now.modules _ p.object c.index-as_slice-module.result c.as_slice-2.ensures
    (ap (λ (i : Instance). slice_get c.args.image.now.modules i.module) same ∙ p.is_object) in
    p.is ∙ ap Some (sym (read_is c.as_slice-3.result.now p.object.code.procedures c.args.number p.procedure c.index-as_slice-number.result
    (c.as_slice-3.ensures ∙ ap (λ (m : ModuleCode). m.procedures) (c.code-code.ensures.same ∙ ap (λ (o : Object). o.code) object)) p.there c.index-as_slice-number.is))
