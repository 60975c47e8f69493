use Rattle.std.proofs.Common.{List, OnOk, IfErr, slice_get, subst, ap}
use Rattle.config_rules.specs.Resolves.{Want}
use Rattle.import_binder.specs.Bindings.{IsRefused, Puts, wants_at}
use Rattle.import_binder.proofs.Single.{none_put}
use Rattle.import_binder.proofs.links.put_import_at.Goals as goal

pub returns-in_default-clause-ok : goal.returns-in_default-clause-ok
unfolding wants_at
returns-in_default-clause-ok c =
    let x = c.args.instance.now in
    let P : List Want → Type 0 = λ ws. Puts c.args.links.now c.args.links.now ws in
    subst P (ap (λ o. wants_at c.args.indexed.now.tree.now x o (slice_get x.shape.imports c.args.at)) c.in_default.ensures) (none_put c.args.links.now)

pub returns-in_default-get-clause-ok : goal.returns-in_default-get-clause-ok
unfolding wants_at
returns-in_default-get-clause-ok c =
    let x = c.args.instance.now in
    let P : List Want → Type 0 = λ ws. Puts c.args.links.now c.args.links.now ws in
    subst P (λ j. wants_at c.args.indexed.now.tree.now x (c.in-Some.ensures j) (c.in_default-get.ensures j)) (none_put c.args.links.now)

pub returns-clause-ok : goal.returns-clause-ok
unfolding wants_at
returns-clause-ok c =
    let x = c.args.instance.now in
    let P : List Want → Type 0 = λ ws. OnOk c.put_import.result (Puts c.args.links.now c.put_import.new.links ws) in
    subst P (λ j. wants_at c.args.indexed.now.tree.now x (c.in-Some.ensures j) (c.in-Some-get.ensures j)) c.put_import.ensures.ok

pub returns-clause-err : goal.returns-clause-err
unfolding wants_at
returns-clause-err c =
    let x = c.args.instance.now in
    let P : List Want → Type 0 = λ ws. IfErr c.put_import.result (IsRefused c.args.indexed.now.tree.now ws) in
    subst P (λ j. wants_at c.args.indexed.now.tree.now x (c.in-Some.ensures j) (c.in-Some-get.ensures j)) c.put_import.ensures.err
