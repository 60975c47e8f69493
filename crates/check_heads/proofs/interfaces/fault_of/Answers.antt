use Rattle.std.proofs.Common.{map}
use Rattle.syntax_trees.specs.PlainSyntax as plain
use Rattle.syntax_trees.specs.Syntax as s
use Rattle.check_rules.specs.Definitions.{definition}
use Rattle.check_state.specs.Gives.{fault}
use Rattle.check_state.specs.Views as words
use Rattle.check_heads.specs.Again.{after}
use Rattle.check_heads.proofs.AgainLaws.{before_dropped}
use Rattle.check_heads.proofs.interfaces.fault_of.Goals as goal

pub returns : goal.returns
returns g c = λ told_it.
    let start = after (definition (words.around c.args.around.now)) (map plain.definition c.args.done.now) (g.S.Starts.begins c.args.start.now) in
    before_dropped plain.definition (λ (d : s.Definition). d.names) definition (words.around c.args.around.now) c.args.one.now c.args.others.now start (fault c.second_fault.result)
    (c.second_fault.ensures told_it)
