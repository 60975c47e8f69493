use Rattle.std.proofs.Common.{ap, subst, ◌∙◌, arith}
use Rattle.std.specs.Prelude.{IfSome}
use Rattle.signaller.specs.Search.{arms_before}
use Rattle.signaller.specs.Sought.{IsPlace}
use Rattle.signaller.proofs.Asking.{place_few, place_within}
use Rattle.signaller.proofs.search.numbered.Goals as goal

pub overflow_cast-result : goal.overflow_cast-result
overflow_cast-result c =
    let p = subst (λ o. IfSome o (IsPlace c.args.table.now)) c.in-Some.is c.requires.there in
    let f = place_few c.args.table.now c.in-Some.place p in let m = c.requires.table.few_arms in omega (arith, f, m)

pub overflow_add-result : goal.overflow_add-result
overflow_add-result c =
    let p = subst (λ o. IfSome o (IsPlace c.args.table.now)) c.in-Some.is c.requires.there in
    let f = place_few c.args.table.now c.in-Some.place p in let m = c.requires.table.few_arms in let e = c.arms_before.ensures ∙ ap (λ t. arms_before t c.in-Some.place.phrase) c.as_slice.ensures in omega (arith, f, m, e)

pub beyond-requires-clause-there : goal.beyond-requires-clause-there
beyond-requires-clause-there c =
    place_within c.args.table.now c.in-Some.place (subst (λ o. IfSome o (IsPlace c.args.table.now)) c.in-Some.is c.requires.there)
