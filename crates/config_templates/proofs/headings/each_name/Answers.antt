use Rattle.std.proofs.Common.{◌≡◌, ◌+◌, ◌∷◌, false, drop, take, inr, refl, sym, ap, subst, ◌∙◌, arith}
use Rattle.std.proofs.lemmas.List.{drop_all}
use Rattle.check_scopes.specs.Scopes.{has}
use Rattle.config_rules.specs.Through.{each_name}
use Rattle.config_templates.specs.Going.{if_same}
use Rattle.config_templates.specs.Known.{Knows}
use Rattle.config_templates.specs.Mentioned.{names_before}
use Rattle.config_templates.proofs.HeadingLaws.{if_equal, if_other, twice, wrong_one, right_one}
use Rattle.config_templates.proofs.MentionLaws.{no_names, newest_first}
use Rattle.config_templates.proofs.Turns.{next_at, taken_at}
use Rattle.config_templates.proofs.headings.each_name.Goals as goal

pub loop-one-init : goal.loop-one-init
loop-one-init c = (no_names c.new-before.result c.new-before.ensures, λ all k. refl)

pub loop-one-preserved : goal.loop-one-preserved
loop-one-preserved c =
    let list = c.args.list.now in
    let i = c.loop-one.one-index in
    let one = c.one-item.result in
    let rest = drop (i + 1) list in
    let flag = c.args.if_exported in
    let so_far = names_before (take i list) in
    let longer : names_before (take (i + 1) list) ≡ one.name ∷ so_far = ap names_before (taken_at list i one (omega arith) c.one-item.is) ∙ newest_first (take i list) one in
    let new : has one.name so_far ≡ false = sym (c.is_known.ensures so_far c.loop-one.invariant.0) ∙ c.if-is_known.false in (
      subst (Knows c.note.new.known) (sym longer) (c.in_ok-note.ensures so_far c.loop-one.invariant.0),
      λ all k.
          c.loop-one.invariant.1 all k
          ∙ ap (each_name (λ r. if_same flag (has r all)) c.args.cause so_far) (next_at list i one (omega arith) c.one-item.is)
          ∙ right_one (λ r. if_same flag (has r all)) c.args.cause so_far one rest new
          (ap (if_same flag) (sym (c.is_known-in-loop-one.ensures all k)) ∙ if_other flag _ c.if-is_known-if_exported.false)
          ∙ ap (λ b. each_name (λ r. if_same flag (has r all)) c.args.cause b rest) (sym longer),
    )

pub returns-then-is_known : goal.returns-then-is_known
returns-then-is_known c = λ all k.
    let list = c.args.list.now in
    let i = c.loop-one.one-index in
    let one = c.one-item.result in
    let so_far = names_before (take i list) in
    inr (c.loop-one.invariant.1 all k
    ∙ ap (each_name (λ r. if_same c.args.if_exported (has r all)) c.args.cause so_far) (next_at list i one (omega arith) c.one-item.is)
    ∙ twice (λ r. if_same c.args.if_exported (has r all)) c.args.cause so_far one (drop (i + 1) list) (sym (c.is_known.ensures so_far c.loop-one.invariant.0) ∙ c.if-is_known.true))

pub returns-then-is_known-if_exported : goal.returns-then-is_known-if_exported
returns-then-is_known-if_exported c = λ all k.
    let list = c.args.list.now in
    let i = c.loop-one.one-index in
    let one = c.one-item.result in
    let flag = c.args.if_exported in
    let so_far = names_before (take i list) in
    let new : has one.name so_far ≡ false = sym (c.is_known.ensures so_far c.loop-one.invariant.0) ∙ c.if-is_known.false in
    inr (c.loop-one.invariant.1 all k
    ∙ ap (each_name (λ r. if_same flag (has r all)) c.args.cause so_far) (next_at list i one (omega arith) c.one-item.is)
    ∙ wrong_one (λ r. if_same flag (has r all)) c.args.cause so_far one (drop (i + 1) list) new
    (ap (if_same flag) (sym (c.is_known-in-loop-one.ensures all k)) ∙ if_equal flag _ c.if-is_known-if_exported.true))

pub returns : goal.returns
unfolding each_name
returns c = λ all k.
    let so_far = names_before (take c.loop-one.one-index c.args.list.now) in
    c.loop-one.invariant.1 all k
    ∙ ap (each_name (λ r. if_same c.args.if_exported (has r all)) c.args.cause so_far) (drop_all c.loop-one.one-index c.args.list.now (omega arith))
