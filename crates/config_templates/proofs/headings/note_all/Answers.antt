use Rattle.std.proofs.Common.{◌≡◌, ◌+◌, [], ◌∷◌, ◌++◌, take, sym, ap, subst, ◌∙◌, arith}
use Rattle.std.specs.Prelude.{reverse}
use Rattle.std.proofs.lemmas.List.{reverse-append, take_all}
use Rattle.config_templates.specs.Known.{Knows}
use Rattle.config_templates.proofs.HeadingLaws.{in_order}
use Rattle.config_templates.proofs.Turns.{taken_at}
use Rattle.config_templates.proofs.headings.note_all.Goals as goal

pub loop-name-init : goal.loop-name-init
loop-name-init c = λ before k. k

pub loop-name-preserved : goal.loop-name-preserved
loop-name-preserved c = λ before k.
    let all = c.args.names.now in
    let i = c.loop-name.name-index in
    let newest : reverse (take (i + 1) all) ≡ c.name-item.result ∷ reverse (take i all) =
    ap reverse (taken_at all i c.name-item.result (omega arith) c.name-item.is) ∙ reverse-append (take i all) (c.name-item.result ∷ []) in
    subst (λ xs. Knows c.note.new.known (xs ++ before)) (sym newest) (c.in_ok-note.ensures (reverse (take i all) ++ before) (c.loop-name.invariant before k))

pub returns : goal.returns
returns c = λ before k.
    let all = c.args.names.now in
    in_order c.loop-name.known all before
    (subst (λ xs. Knows c.loop-name.known (reverse xs ++ before)) (take_all c.loop-name.name-index all (omega arith)) (c.loop-name.invariant before k))
