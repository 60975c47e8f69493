use Rattle.std.proofs.Common.{ℕ, ◌<◌, ap, subst, ◌∙◌, Option, MatchOption, length, get_or, arith}
use Rattle.std.proofs.lemmas.Option.{slice_get-get_or}
use Rattle.config_rules.specs.Tree.{Agree, FirstToDiffer, all_faces, too_many, too_nested}
use Rattle.config_tree.proofs.Ending.{is_differing, is_many, is_nested, is_whole}
use Rattle.config_tree.proofs.finishing.finished.Goals as goal

pub returns-in-Some : goal.returns-in-Some
returns-in-Some c = λ _.
    is_nested c.args.components.now c.args.shapes.now c.args.template.now c.in-Some.place (c.in-Some.ensures ∙ ap too_nested c.parts.ensures)

pub returns-in-Some-too_many : goal.returns-in-Some-too_many
returns-in-Some-too_many c = λ _.
    is_many c.args.components.now c.args.shapes.now c.args.template.now (c.in_default.ensures ∙ ap too_nested c.parts.ensures) c.in-Some-too_many.place
    (c.in-Some-too_many.ensures ∙ ap (too_many 0) c.parts-2.ensures)

pub returns-in-Some-2 : goal.returns-in-Some-2
returns-in-Some-2 c = λ _.
    let cs = c.args.components.now in
    let ss = c.args.shapes.now in
    let n = c.in-Some-2.n in
    let found = subst (λ (o : Option ℕ). MatchOption o (Agree (all_faces ss)) (λ m. (m < length ss) × FirstToDiffer ss m)) c.in-Some-2.is c.in_ok-n.ensures in
    let less : n < length cs = omega (arith, found.0, c.requires.one_each) in
    is_differing cs ss c.args.template.now (c.in_default.ensures ∙ ap too_nested c.parts.ensures) (c.in_default-too_many.ensures ∙ ap (too_many 0) c.parts-2.ensures) n
    (get_or cs n c.index-components-n.result) (slice_get-get_or cs n c.index-components-n.result less) found.1

pub returns : goal.returns
returns c = λ _.
    let ss = c.args.shapes.now in
    is_whole c.args.components.now ss c.args.template.now (c.in_default.ensures ∙ ap too_nested c.parts.ensures) (c.in_default-too_many.ensures ∙ ap (too_many 0) c.parts-2.ensures)
    c.in_ok-grown.field-0 c.requires.one_each (subst (λ (o : Option ℕ). MatchOption o (Agree (all_faces ss)) (λ n. (n < length ss) × FirstToDiffer ss n)) c.in_default-2.is c.in_ok-n.ensures)
    c.in_ok-grown.ensures
