use Rattle.std.proofs.Common.{◌≡◌, sym, ◌∙◌}
use Rattle.std.proofs.lemmas.List.{append_cancel_right}
use Rattle.command_lines.proofs.kinds.base_before.Goals as goal

pub returns-else-is_file_base : goal.returns-else-is_file_base
returns-else-is_file_base c = λ base named are.
    let e : base ≡ c.in_ok-base.base.now = append_cancel_right base c.in_ok-base.base.now c.args.ending.now (sym are ∙ c.in_ok-base.ensures) in
    cc
