use Rattle.std.proofs.Common.{inr, ap, ◌∙◌}
use Rattle.std.proofs.lemmas.Result.{err_from_is_err_and}
use Rattle.config_rules.specs.Through.{Made}
use Rattle.config_templates.specs.Found.{found_of, made_from, made_of, thing_of}
use Rattle.config_templates.specs.declared.found.Thing.{Thing}
use Rattle.config_templates.proofs.AnswerLaws.{ok, exits}
use Rattle.config_templates.proofs.InstanceLaws.{taken, exports_stop, imports_stop, made}
use Rattle.config_templates.proofs.instances.made_from.Goals as goal

pub returns-then-is_known : goal.returns-then-is_known
returns-then-is_known c = λ all k.
    inr (taken all c.args.instance.now (found_of c.args.found) c.name_in-name.result.now _ c.name_in-name.ensures (c.is_known.ensures all k) c.if-is_known.true)

pub returns-in_err-exports : goal.returns-in_err-exports
returns-in_err-exports c = λ all k.
    exits made_of (made_from all c.args.instance.now (found_of c.args.found)) c.from_residual.result _ (err_from_is_err_and c.from_residual.result c.from_residual.ensures.1)
    (exports_stop all c.args.instance.now (found_of c.args.found) c.name_in-name.result.now _ c.name_in-name.ensures (c.is_known.ensures all k) c.if-is_known.false
    c.as_slice.result.now _ c.as_slice.ensures c.in_err-exports.ensures)

pub returns-in_err-imports : goal.returns-in_err-imports
returns-in_err-imports c = λ all k.
    exits made_of (made_from all c.args.instance.now (found_of c.args.found)) c.from_residual-in_err-imports.result _
    (err_from_is_err_and c.from_residual-in_err-imports.result c.from_residual-in_err-imports.ensures.1)
    (imports_stop all c.args.instance.now (found_of c.args.found) c.name_in-name.result.now _ c.name_in-name.ensures (c.is_known.ensures all k) c.if-is_known.false
    c.as_slice.result.now c.as_slice-2.result.now c.in_ok-exports.exports _ c.as_slice.ensures c.in_ok-exports.ensures c.as_slice-2.ensures c.in_err-imports.ensures)

pub returns-in-OfModule : goal.returns-in-OfModule
returns-in-OfModule c = λ all k.
    let with_thing : Thing → Made = λ t. record { part = record { name = c.in_ok-copy.field-0; imports = c.in_ok-imports.imports; exports = c.in_ok-exports.exports; place = c.args.instance.now.place }; thing = thing_of t } in
    made all c.args.instance.now (found_of c.args.found) c.name_in-name.result.now _ c.name_in-name.ensures (c.is_known.ensures all k) c.if-is_known.false
    c.as_slice.result.now c.as_slice-2.result.now c.in_ok-exports.exports c.in_ok-imports.imports c.in_ok-copy.field-0
    c.as_slice.ensures c.in_ok-exports.ensures c.as_slice-2.ensures c.in_ok-imports.ensures c.in_ok-copy.ensures
    ∙ ap (λ t. ok (with_thing t)) c.in-OfModule.is

pub returns-in-OfNested : goal.returns-in-OfNested
returns-in-OfNested c = λ all k.
    let with_thing : Thing → Made = λ t. record { part = record { name = c.in_ok-copy.field-0; imports = c.in_ok-imports.imports; exports = c.in_ok-exports.exports; place = c.args.instance.now.place }; thing = thing_of t } in
    made all c.args.instance.now (found_of c.args.found) c.name_in-name.result.now _ c.name_in-name.ensures (c.is_known.ensures all k) c.if-is_known.false
    c.as_slice.result.now c.as_slice-2.result.now c.in_ok-exports.exports c.in_ok-imports.imports c.in_ok-copy.field-0
    c.as_slice.ensures c.in_ok-exports.ensures c.as_slice-2.ensures c.in_ok-imports.ensures c.in_ok-copy.ensures
    ∙ ap (λ t. ok (with_thing t)) c.in-OfNested.is
