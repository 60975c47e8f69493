use Rattle.std.proofs.Common.{rules, ◌≡◌, ◌+◌, Ok, nat_le}
use Rattle.mesa_base.specs.declared.limits.TheConstants.{OPERAND_WORDS}
use Rattle.check_rules.specs.declared.fault.Cause.TheVariants.{FrameTooLarge}
use Rattle.check_rules.specs.Around.{body_of}
use Rattle.check_rules.specs.Checking.{block as block_rule}
use Rattle.check_rules.specs.Parts.{first_name}
use Rattle.check_rules.specs.Programs.{fresh}
use Rattle.check_rules.specs.Steps.{in_scope, only}
use Rattle.check_state.specs.Views as words
use Rattle.interface_records.specs.PlainTypes.{item_of, plain_item}
use Rattle.mesa_types.specs.Plain.{plain_procedure, stmt}
use Rattle.syntax_trees.specs.PlainSyntax as plain
use Rattle.check_programs.specs.Frames.{few_locals}
use Rattle.check_programs.proofs.ItemLaws.{item_back}
use Rattle.check_programs.proofs.ProcedureLaws.{procedure_done}
use Rattle.check_programs.proofs.procedures.procedure.Goals as goal

pub returns : goal.returns
returns c =
    let i = plain_item c.args.head.item in
    let before = words.state c.args.state.now in
    let after = words.state c.body.new.state in
    let body : in_scope (words.names c.args.head.scope) (block_rule (body_of (words.known c.args.known.now) i.takes i.gives) (plain.block c.args.one.now)) (fresh before)
    ≡ Ok (stmt c.in_ok-does.does, after) = search rules in
    let locals : few_locals i.takes i.gives (first_name c.args.names.now) after ≡ Ok tt = search rules in
    let operands : only (nat_le (0 + c.args.head.operands) OPERAND_WORDS) FrameTooLarge (first_name c.args.names.now) ≡ Ok tt = search rules in
    let made : plain_procedure c.in_ok-made.field-0 ≡ record { head = item_of i; body = record { variables = after.variables; does = stmt c.in_ok-does.does } } = search (rules, item_back) in
    let left : words.state c.close_frame.new.state ≡ record after { variables = before.variables; hidden = before.hidden } = search rules in
    rw (made, left)
    (procedure_done (words.known c.args.known.now) c.args.names.now i (words.names c.args.head.scope) c.args.head.operands (plain.block c.args.one.now) before after (stmt c.in_ok-does.does) body locals operands)
