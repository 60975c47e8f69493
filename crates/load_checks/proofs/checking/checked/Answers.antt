use Rattle.loader_rules.specs.declared.fault.LoadFault.{LoadFault}
use Rattle.loader_rules.specs.declared.fault.LoadFault.TheVariants.{Memory}
use Rattle.std.proofs.Common.{◌≡◌, ◌≢◌, Some}
use Rattle.loader_rules.specs.LoadFaults.{bad_items, faults_in, first_of}
use Rattle.load_checks.specs.Turns.{part_of}
use Rattle.load_checks.proofs.Answered.{on_ok, if_err, passed_on}
use Rattle.load_checks.proofs.Faulted.{none_in, first_whole, first_item}
use Rattle.load_checks.proofs.checking.checked.Goals as goal

pub returns-in_err-check_whole-clause-err : goal.returns-in_err-check_whole-clause-err
returns-in_err-check_whole-clause-err c =
    let p = part_of c.args.turn.now in
    passed_on c.from_residual.result c.in_err-check_whole.field-0.0 (λ (e : LoadFault). e ≢ Memory → first_of (faults_in p) ≡ Some e) c.from_residual.ensures.1
    (λ other. first_whole p c.in_err-check_whole.field-0.0 (c.in_err-check_whole.ensures.err other))

pub returns-clause-none : goal.returns-clause-none
returns-clause-none c =
    let p = part_of c.args.turn.now in
    on_ok c.chosen_items.result (λ none. none_in p c.in_ok-check_whole.ensures.ok none) c.chosen_items.ensures.none

pub returns-clause-err : goal.returns-clause-err
returns-clause-err c =
    let p = part_of c.args.turn.now in
    if_err c.chosen_items.result (λ (e : LoadFault). e ≢ Memory → first_of (bad_items p) ≡ Some e) (λ (e : LoadFault). e ≢ Memory → first_of (faults_in p) ≡ Some e)
    (λ e first other. first_item p e c.in_ok-check_whole.ensures.ok (first other)) c.chosen_items.ensures.err
