use Rattle.std.proofs.Common.{arith}
use Rattle.config_rules.specs.Resolves.{wants_in}
use Rattle.import_binder.specs.Bindings.{IsRefused}
use Rattle.import_binder.proofs.Answered.{passed_on}
use Rattle.import_binder.proofs.Linking.{rest_more, rest_refused, rest_ends, next_import, no_import, are_links}
use Rattle.import_binder.proofs.links.links_of.Goals as goal

pub loop-at-preserved : goal.loop-at-preserved
loop-at-preserved c =
    let t = c.args.indexed.now.tree.now in
    let x = c.args.instance.now in
    rest_more c.new-links.result c.loop-at.links (wants_in t x) _ c.put_import_at.new.links _ _ (next_import t x c.loop-at.at x.imports x.shape.imports) c.in_ok-put_import_at.ensures.ok c.loop-at.invariant

pub returns-in_err-put_import_at-clause-err : goal.returns-in_err-put_import_at-clause-err
returns-in_err-put_import_at-clause-err c =
    let t = c.args.indexed.now.tree.now in
    let x = c.args.instance.now in
    let fault = c.in_err-put_import_at.field-0.0 in
    passed_on c.from_residual.result fault (λ e. IsRefused t (wants_in t x) e) c.from_residual.ensures.1
    (rest_refused c.new-links.result c.loop-at.links (wants_in t x) _ t fault _ _ (next_import t x c.loop-at.at x.imports x.shape.imports) c.in_err-put_import_at.ensures.err c.loop-at.invariant)

pub returns-clause-ok : goal.returns-clause-ok
returns-clause-ok c =
    let t = c.args.indexed.now.tree.now in
    let x = c.args.instance.now in
    are_links (wants_in t x) c.new-links.result c.loop-at.links c.new-links.ensures
    (rest_ends c.new-links.result c.loop-at.links (wants_in t x) _ (no_import t x c.loop-at.at x.imports x.shape.imports (omega (arith, c.loop-at-test.false, c.len-at-end.ensures))) c.loop-at.invariant)
