use Rattle.std.proofs.Common.{◌++◌, take, sym, ap, subst, ◌∙◌, arith}
use Rattle.std.proofs.lemmas.List.{take_all}
use Rattle.config_rules.specs.Template.{exported}
use Rattle.config_templates.specs.Known.{Knows}
use Rattle.config_templates.specs.Shown.{chained}
use Rattle.config_templates.proofs.HeadingLaws.{swapped, exported_more}
use Rattle.config_templates.proofs.MentionLaws.{no_names}
use Rattle.config_templates.proofs.Turns.{taken_at}
use Rattle.config_templates.proofs.headings.records_of.Goals as goal

pub loop-part-init : goal.loop-part-init
unfolding exported chained
loop-part-init c = no_names c.new-records.result c.new-records.ensures

pub loop-part-preserved : goal.loop-part-preserved
loop-part-preserved c =
    let all = c.args.parts.now in
    let i = c.loop-part.part-index in
    subst (λ ps. Knows c.note_all.new.known (exported (chained ps))) (sym (taken_at all i c.part-item.result (omega arith) c.part-item.is))
    (subst (Knows c.note_all.new.known) (ap (λ xs. exported (chained (take i all)) ++ xs) c.exports_of.ensures ∙ sym (exported_more (take i all) c.part-item.result))
    (swapped c.note_all.new.known c.exports_of.result.now (exported (chained (take i all))) (c.in_ok-note_all.ensures (exported (chained (take i all))) c.loop-part.invariant)))

pub returns : goal.returns
returns c =
    subst (λ ps. Knows c.loop-part.records (exported (chained ps))) (take_all c.loop-part.part-index c.args.parts.now (omega arith)) c.loop-part.invariant
