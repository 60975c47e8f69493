use Rattle.std.proofs.Common.{◌≡◌, true, false, inr, sym, ap, ◌∙◌, length, arith}
use Rattle.std.specs.Prelude.{nat_eq}
use Rattle.std.proofs.lemmas.Bool.Decides.{nat_tests}
use Rattle.config_templates.proofs.AnswerLaws.{ok}
use Rattle.config_templates.proofs.InstanceLaws.{unlisted, counted_other, counted_same}
use Rattle.config_templates.proofs.instances.listed.Goals as goal

pub returns-in_default : goal.returns-in_default
returns-in_default c = unlisted c.args.records.now c.args.names c.in_default.ensures.value

pub returns-then-records-len : goal.returns-then-records-len
returns-then-records-len c =
    let other : nat_eq (length c.args.records.now) (length c.args.names) ≡ false = grind (arith, nat_tests) in
    inr (counted_other c.args.records.now c.args.names c.in-Some.first.now c.in-Some.ensures.value other)

pub returns : goal.returns
returns c =
    let same : nat_eq (length c.args.records.now) (length c.args.names) ≡ true = grind (arith, nat_tests) in
    counted_same c.args.records.now c.args.names c.in-Some.first.now c.in-Some.ensures.value same ∙ ap (λ xs. ok xs) (sym c.in_ok-names_in.ensures)
