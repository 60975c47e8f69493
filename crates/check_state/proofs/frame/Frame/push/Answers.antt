use Rattle.std.proofs.Common.{ap, arith, length, ◌∙◌}
use Rattle.std.proofs.lemmas.List.{length-append}
use Rattle.mesa_types.specs.Plain.{kinds_of}
use Rattle.mesa_types.specs.Shapes.{words_in_all}
use Rattle.interface_records.specs.PlainTypes.{plain}
use Rattle.check_state.proofs.KindLaws.{pushed, words_more}
use Rattle.check_state.proofs.frame.Frame.push.Goals as goal

pub returns-in-Ok : goal.returns-in-Ok
returns-in-Ok c = pushed c.args.self.now.fields c.push.new.self c.args.kind.now c.in_ok-kind.kind c.in-Ok.ensures.ok c.in_ok-kind.ensures

pub invariant_of-self : goal.invariant_of-self
invariant_of-self c =
    let shape = pushed c.args.self.now.fields c.push.new.self c.args.kind.now c.in_ok-kind.kind c.in-Ok.ensures.ok c.in_ok-kind.ensures in
    let longer = ap length c.in-Ok.ensures.ok ∙ length-append c.args.self.now.fields _ in
    record {
      words_are = omega (arith, c.in_ok-words.ensures, c.in_ok-size.ensures, c.args.self.now.words_are, ap words_in_all shape, words_more (kinds_of c.args.self.now.fields) (plain c.args.kind.now));
      count_is = omega (arith, c.in_ok-count.ensures, c.args.self.now.count_is, longer);
    }
