use Rattle.std.proofs.Common.{◌≡◌, ◌≤◌, false, true, refl, arith}
use Rattle.std.proofs.lemmas.List.{length-take-le}
use Rattle.code_forms.specs.Routine.{spots}
use Rattle.code_forms.proofs.PhraseOrder.{bad_at, bad_end, fill}
use Rattle.code_forms.proofs.catching.bad_phrase.Goals as goal

pub returns-then-nesting-phrases : goal.returns-then-nesting-phrases
returns-then-nesting-phrases c =
    let s = c.first_fallen-standing.ensures in let n = c.first_crossing-nesting.ensures in
    let len = length-take-le c.first_fallen-standing.result c.args.phrases.now s.bound in
    let most : c.first_crossing-nesting.result ≤ c.first_fallen-standing.result = (let b = n.bound in omega (arith, len, b)) in
    bad_at (spots c.args.code.now) c.args.phrases.now c.first_fallen-standing.result c.first_crossing-nesting.result _ s.bound most c.if-nesting-phrases.true s.stand s.fallen n.nest n.crosses

pub returns-then-not-ends_with_code : goal.returns-then-not-ends_with_code
returns-then-not-ends_with_code c =
    let s = c.first_fallen-standing.ensures in let n = c.first_crossing-nesting.ensures in
    let len = length-take-le c.first_fallen-standing.result c.args.phrases.now s.bound in
    let most : c.first_crossing-nesting.result ≤ c.first_fallen-standing.result = (let b = n.bound in omega (arith, len, b)) in
    (bad_end (spots c.args.code.now) c.args.phrases.now c.first_fallen-standing.result c.first_crossing-nesting.result _ s.bound most c.if-nesting-phrases.false s.stand n.nest (λ e. let h : false ≡ true = c.if-not-ends_with_code.ensures.1 e in cc)).1

pub returns : goal.returns
returns c =
    let s = c.first_fallen-standing.ensures in let n = c.first_crossing-nesting.ensures in
    let len = length-take-le c.first_fallen-standing.result c.args.phrases.now s.bound in
    let most : c.first_crossing-nesting.result ≤ c.first_fallen-standing.result = (let b = n.bound in omega (arith, len, b)) in
    fill (spots c.args.code.now) c.args.phrases.now c.first_fallen-standing.result c.first_crossing-nesting.result s.bound most c.if-nesting-phrases.false s.stand n.nest (c.if-not-ends_with_code.ensures.0 refl)
