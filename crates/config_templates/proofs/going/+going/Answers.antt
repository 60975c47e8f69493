use Rattle.std.proofs.Common.{◌≡◌, ◌+◌, ◌∷◌, true, false, inr, refl, sym, ap, subst, ◌∙◌, drop, add-one, arith}
use Rattle.std.specs.Prelude.{nat_lt}
use Rattle.std.proofs.lemmas.Bool.Decides.{nat_tests}
use Rattle.std.proofs.lemmas.List.{drop_all}
use Rattle.std.proofs.lemmas.Result.{err_from_is_err_and, MatchResult-weaker}
use Rattle.check_scopes.specs.Scopes.{outer}
use Rattle.check_scopes.specs.Shows.{shows}
use Rattle.mesa_base.specs.declared.limits.TheConstants.{CONFIGURATION_DEPTH}
use Rattle.cmesa_grammar.specs.Syntax.{Statements, Configured}
use Rattle.cmesa_grammar.specs.Plain.{configuration, statements, statement}
use Rattle.cmesa_grammar.proofs.Forms.{of_configuration, of_declare, of_instantiate}
use Rattle.config_rules.specs.Components.{own_name}
use Rattle.config_rules.specs.Through.{through}
use Rattle.config_templates.specs.Answers.{Stops}
use Rattle.config_templates.specs.Found.{modules_of}
use Rattle.config_templates.specs.Going.{declared, gone_on, Goes}
use Rattle.config_templates.proofs.AnswerLaws.{answer_ok, exits_by, stops_as}
use Rattle.config_templates.proofs.GoingLaws as laws
use Rattle.config_templates.proofs.Turns.{next_at}
use Rattle.config_templates.proofs.going.+going.Goals as goal

pub declare-returns-then-is_declared : goal.declare-returns-then-is_declared
declare-returns-then-is_declared t c =
    let inner = c.args.inner.now in
    inr (laws.declared_twice (modules_of c.args.modules.now) c.args.depth (shows c.args.nested.now) (configuration inner) inner.heading.name
    (sym (ap own_name (of_configuration inner.heading inner.statements) ∙ laws.own_is inner.heading (statements inner.statements)))
    c.bytes.result.now c.bytes.ensures (sym c.is_declared.ensures ∙ c.if-is_declared.true))

pub declare-returns-in_err-template : goal.declare-returns-in_err-template
declare-returns-in_err-template t c =
    let inner = c.args.inner.now in
    let exact = declared (modules_of c.args.modules.now) c.args.depth (shows c.args.nested.now) (configuration inner) in
    exits_by (λ _. answer_ok exact (shows c.through.new.nested) × (outer (shows c.through.new.nested) ≡ outer (shows c.args.nested.now))) (λ fault. Stops exact fault)
    c.from_residual.result _ (err_from_is_err_and c.from_residual.result c.from_residual.ensures.1)
    (laws.declared_stops (modules_of c.args.modules.now) c.args.depth (shows c.args.nested.now) (configuration inner) inner.heading.name
    (sym (ap own_name (of_configuration inner.heading inner.statements) ∙ laws.own_is inner.heading (statements inner.statements)))
    c.bytes.result.now _ _ c.bytes.ensures (sym c.is_declared.ensures ∙ c.if-is_declared.false) (add-one c.args.depth) c.in_err-template.ensures)

pub declare-returns : goal.declare-returns
declare-returns t c =
    let inner = c.args.inner.now in (
      laws.declared_done (modules_of c.args.modules.now) c.args.depth (shows c.args.nested.now) (configuration inner) inner.heading.name
          (sym (ap own_name (of_configuration inner.heading inner.statements) ∙ laws.own_is inner.heading (statements inner.statements)))
          c.bytes.result.now c.bytes-2.result.now _ c.in_ok-template.template c.in_ok-new.field-0 (shows c.through.new.nested) (shows c.declare.new.self)
          c.bytes.ensures (sym c.is_declared.ensures ∙ c.if-is_declared.false) (add-one c.args.depth) c.in_ok-template.ensures.0
          c.in_ok-template.ensures.1 c.bytes-2.ensures c.in_ok-new.ensures c.in_ok-declare.ensures.ok,
      ap outer c.in_ok-declare.ensures.ok ∙ ap outer c.in_ok-template.ensures.1,
    )

pub statement-returns-in_err-declare-in-Declare : goal.statement-returns-in_err-declare-in-Declare
statement-returns-in_err-declare-in-Declare t c =
    let ms = modules_of c.args.modules.now in
    let d = c.args.depth in
    let s = shows c.args.nested.now in
    let so_far = c.args.so_far.now in
    let inner = c.in-Declare.inner in
    exits_by (λ _. (left : Statements) → Goes ms d s so_far (statement c.args.statement.now left) (shows c.declare.new.nested) so_far left)
    (λ fault. (left : Statements) → Stops (gone_on ms d s so_far.parts (statement c.args.statement.now left)) fault)
    c.from_residual.result _ (err_from_is_err_and c.from_residual.result c.from_residual.ensures.1)
    (λ left. stops_as _ _ _ (ap (gone_on ms d s so_far.parts) (ap (λ x. statement x left) c.in-Declare.is ∙ ap (λ f. f left) (of_declare inner)))
    (laws.declaration_stops ms d s so_far.parts left (configuration inner) _ c.in_err-declare-in-Declare.ensures))

pub statement-returns-in_err-part-in-Instantiate : goal.statement-returns-in_err-part-in-Instantiate
statement-returns-in_err-part-in-Instantiate t c =
    let ms = modules_of c.args.modules.now in
    let d = c.args.depth in
    let s = shows c.args.nested.now in
    let so_far = c.args.so_far.now in
    let one = c.in-Instantiate.one in
    let r = c.from_residual-in_err-part-in-Instantiate in
    exits_by (λ _. (left : Statements) → Goes ms d s so_far (statement c.args.statement.now left) s so_far left)
    (λ fault. (left : Statements) → Stops (gone_on ms d s so_far.parts (statement c.args.statement.now left)) fault)
    r.result _ (err_from_is_err_and r.result r.ensures.1)
    (λ left. stops_as _ _ _ (ap (gone_on ms d s so_far.parts) (ap (λ x. statement x left) c.in-Instantiate.is ∙ ap (λ f. f left) (of_instantiate one)))
    (laws.instance_stops ms d s so_far.parts left one _ (c.in_err-part-in-Instantiate.ensures _ c.requires.named)))

pub statement-returns-in_ok-declare-in-Declare : goal.statement-returns-in_ok-declare-in-Declare
statement-returns-in_ok-declare-in-Declare t c = λ left.
    let ms = modules_of c.args.modules.now in
    let s = shows c.args.nested.now in
    let inner = c.in-Declare.inner in
    let is = ap (λ x. statement x left) c.in-Declare.is ∙ ap (λ f. f left) (of_declare inner) in
    record {
      named = c.requires.named;
      same = ap (gone_on ms c.args.depth s c.args.so_far.now.parts) is
          ∙ laws.declares ms c.args.depth s c.args.so_far.now.parts left (configuration inner) (shows c.declare.new.nested) c.in_ok-declare-in-Declare.ensures.0;
      around = c.in_ok-declare-in-Declare.ensures.1;
    }

pub statement-returns-in_ok-add-in-Instantiate : goal.statement-returns-in_ok-add-in-Instantiate
statement-returns-in_ok-add-in-Instantiate t c = λ left.
    let ms = modules_of c.args.modules.now in
    let s = shows c.args.nested.now in
    let one = c.in-Instantiate.one in
    let parts = c.args.so_far.now.parts in
    let is = ap (λ x. statement x left) c.in-Instantiate.is ∙ ap (λ f. f left) (of_instantiate one) in
    record {
      named = c.in_ok-add-in-Instantiate.ensures.named;
      same = ap (gone_on ms c.args.depth s parts) is
          ∙ laws.instanced ms c.args.depth s parts left one c.in_ok-part-in-Instantiate.part (c.in_ok-part-in-Instantiate.ensures _ c.requires.named)
          ∙ ap (λ ps. gone_on ms c.args.depth s ps left) (sym c.in_ok-add-in-Instantiate.ensures.parts);
      around = refl;
    }

pub through-returns-then-depth-gt-CONFIGURATION_DEPTH : goal.through-returns-then-depth-gt-CONFIGURATION_DEPTH
through-returns-then-depth-gt-CONFIGURATION_DEPTH t c =
    let written = c.args.configuration.now in
    let deep : nat_lt CONFIGURATION_DEPTH c.args.depth ≡ true = grind (arith, nat_tests) in
    inr (ap (through (modules_of c.args.modules.now) c.args.depth (shows c.args.nested.now)) (of_configuration written.heading written.statements)
    ∙ laws.too_deep (modules_of c.args.modules.now) c.args.depth (shows c.args.nested.now) written.heading (statements written.statements) deep)

pub through-loop-one-init : goal.through-loop-one-init
through-loop-one-init t c = laws.begins (modules_of c.args.modules.now) c.args.depth (shows c.enter.new.self) c.new-so_far.result (statements c.as_slice-one-items.result.now) c.new-so_far.ensures.named

pub through-loop-one-preserved : goal.through-loop-one-preserved
through-loop-one-preserved t c =
    let ms = modules_of c.args.modules.now in
    let list = c.as_slice-one-items.result.now in
    let rest = statements (drop (c.loop-one.one-index + 1) list) in
    let turn : statements (drop c.loop-one.one-index list) ≡ statement c.one-item.result rest =
    ap statements (next_at list c.loop-one.one-index c.one-item.result (omega arith) c.one-item.is) in
    laws.goes_on ms c.args.depth _ _ _ _ _ _ _ _ _ c.loop-one.invariant
    (subst (λ ss. Goes ms c.args.depth (shows c.loop-one.nested) c.loop-one.so_far ss (shows c.statement.new.nested) c.statement.new.so_far rest) (sym turn)
    (c.in_ok-statement.ensures rest))

pub through-returns-in_err-statement : goal.through-returns-in_err-statement
through-returns-in_err-statement t c =
    let ms = modules_of c.args.modules.now in
    let d = c.args.depth in
    let list = c.as_slice-one-items.result.now in
    let written = c.args.configuration.now in
    let s = shows c.args.nested.now in
    let exact = through ms d s (configuration written) in
    let is : configuration written ≡ Configured written.heading (statements list) =
    of_configuration written.heading written.statements ∙ ap (λ xs. Configured written.heading (statements xs)) (sym c.as_slice-one-items.ensures) in
    let few : nat_lt CONFIGURATION_DEPTH d ≡ false = grind (arith, nat_tests) in
    let entered = c.in_ok-enter.ensures.ok ∙ ap (λ x. x ∷ s) c.new.ensures in
    let turn = ap statements (next_at list c.loop-one.one-index c.one-item.result (omega arith) c.one-item.is) in
    exits_by (λ template. answer_ok exact template × (shows c.statement.new.nested ≡ s)) (λ fault. Stops exact fault)
    c.from_residual-in_err-statement.result _ (err_from_is_err_and c.from_residual-in_err-statement.result c.from_residual-in_err-statement.ensures.1)
    (stops_as exact _ _ (ap (through ms d s) is)
    (laws.through_stops ms d s written.heading (statements list) few _ _ _ _ _ _ entered c.new-so_far.ensures.none c.loop-one.invariant
    (stops_as _ _ _ (ap (gone_on ms d (shows c.loop-one.nested) c.loop-one.so_far.parts) turn) (c.in_err-statement.ensures (statements (drop (c.loop-one.one-index + 1) list))))))

pub through-returns : goal.through-returns
through-returns t c =
    let ms = modules_of c.args.modules.now in
    let d = c.args.depth in
    let list = c.as_slice-one-items.result.now in
    let written = c.args.configuration.now in
    let s = shows c.args.nested.now in
    let is : configuration written ≡ Configured written.heading (statements list) =
    of_configuration written.heading written.statements ∙ ap (λ xs. Configured written.heading (statements xs)) (sym c.as_slice-one-items.ensures) in
    let few : nat_lt CONFIGURATION_DEPTH d ≡ false = grind (arith, nat_tests) in
    let entered = c.in_ok-enter.ensures.ok ∙ ap (λ x. x ∷ s) c.new.ensures in
    let whole = ap (through ms d s) is
    ∙ laws.through_all ms d s written.heading (statements list) few _ _ _ _ _ entered c.new-so_far.ensures.none c.loop-one.invariant (ap statements (drop_all c.loop-one.one-index list (omega arith))) in
    MatchResult-weaker c.headed.result c.headed.ensures
    (λ template e. (whole ∙ e, c.leave.ensures.left ∙ c.loop-one.invariant.around ∙ ap outer entered))
    (λ fault e. stops_as _ _ fault whole e)

pub through-headed-requires : goal.through-headed-requires
through-headed-requires t c = c.loop-one.invariant.named
