use Rattle.std.proofs.Common.{◌≡◌, ◌+◌, true, false, sym, ap, ◌∙◌, drop, arith}
use Rattle.std.proofs.lemmas.List.{drop_all}
use Rattle.config_rules.specs.Components.{is_file_base, no_file_base}
use Rattle.config_templates.proofs.PlaceLaws.{no_base_here, base_here, no_base_left}
use Rattle.config_templates.proofs.Turns.{next_at}
use Rattle.config_templates.proofs.files.no_file_base.Goals as goal

pub returns-then-not-is_file_base : goal.returns-then-not-is_file_base
returns-then-not-is_file_base c =
    let all = c.args.directory.now in
    let i = c.loop-item.item-index in
    let none : is_file_base c.item-item.result.file ≡ false = cc in
    sym (c.loop-item.invariant ∙ ap no_file_base (next_at all i c.item-item.result (omega arith) c.item-item.is) ∙ no_base_here c.item-item.result (drop (i + 1) all) none)

pub loop-item-preserved : goal.loop-item-preserved
loop-item-preserved c =
    let all = c.args.directory.now in
    let i = c.loop-item.item-index in
    let one : is_file_base c.item-item.result.file ≡ true = cc in
    c.loop-item.invariant ∙ ap no_file_base (next_at all i c.item-item.result (omega arith) c.item-item.is) ∙ base_here c.item-item.result (drop (i + 1) all) one

pub returns : goal.returns
returns c = sym (c.loop-item.invariant ∙ ap no_file_base (drop_all c.loop-item.item-index c.args.directory.now (omega arith)) ∙ no_base_left)
