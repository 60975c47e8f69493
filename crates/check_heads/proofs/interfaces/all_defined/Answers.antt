use Rattle.std.proofs.Common.{map, rules, sym, ap, ◌+◌, ◌∙◌}
use Rattle.syntax_trees.specs.PlainSyntax as plain
use Rattle.check_rules.specs.Definitions.{definition, nothing_defined}
use Rattle.check_state.specs.Gives.{fault}
use Rattle.check_state.specs.Views as words
use Rattle.check_heads.specs.Views as view
use Rattle.check_heads.proofs.AgainLaws.{after_none, after_ok}
use Rattle.check_heads.proofs.DefinedLaws.{all_told, defined_rest, defined_turn, fault_behind, the_rest}
use Rattle.check_heads.proofs.interfaces.all_defined.Goals as goal

pub loop-at-init : goal.loop-at-init
loop-at-init g c =
    let a = words.around c.args.around.now in
    let ds = map plain.definition c.args.definitions.now in
    let start = g.S.Starts.begins c.args.start.now in
    record {
      state = c.in_ok-state.ensures ∙ sym (after_none (definition a) start);
      value = ap (defined_rest a nothing_defined ds) (sym c.in_ok-state.ensures) ∙ ap (λ d. defined_rest a d ds (words.state c.in_ok-state.state)) (sym c.none-all.ensures);
    }

pub loop-at-preserved : goal.loop-at-preserved
loop-at-preserved g c =
    let a = words.around c.args.around.now in
    let all = c.args.definitions.now in
    let i = c.loop-at.at in
    let x = c.index-definitions-at.result in
    let start = g.S.Starts.begins c.args.start.now in
    let s = words.state c.loop-at.state in
    let t = words.state c.definition.new.state in
    record {
      state = after_ok (definition a) plain.definition all i x start s t (view.defined c.in-Ok.made) c.loop-at-test.true c.index-definitions-at.is c.loop-at.invariant.state c.in-Ok.ensures;
      value = defined_turn a all i x start (view.defined c.loop-at.all) s c.loop-at-test.true c.index-definitions-at.is c.loop-at.invariant.value
          (view.defined c.in-Ok.made) (view.defined c.append.new.self) t c.in-Ok.ensures c.in_ok-append-in-Ok.ensures;
    }

pub returns-in-Err : goal.returns-in-Err
returns-in-Err g c = λ told_it.
    fault_behind (words.around c.args.around.now) c.args.definitions.now c.loop-at.at c.index-definitions-at.result (g.S.Starts.begins c.args.start.now)
    (view.defined c.loop-at.all) (words.state c.loop-at.state) c.loop-at-test.true c.index-definitions-at.is c.loop-at.invariant.value _ _ (fault c.fault_of.result)
    c.loop-at.invariant.state (c.fault_of.ensures told_it) (search rules) (the_rest c.args.definitions.now (c.loop-at.at + 1))

pub returns : goal.returns
returns g c =
    all_told (words.around c.args.around.now) c.args.definitions.now c.loop-at.at (g.S.Starts.begins c.args.start.now) (view.defined c.loop-at.all) (words.state c.loop-at.state)
    c.loop-at-test.false c.loop-at.invariant.value
