use Rattle.std.proofs.Common.{◌≡◌, ap, refl, sym, subst, ◌∙◌, flat_map, length, List, [], ℕ, arith}
use Rattle.check_scopes.specs.Shows.{listed}
use Rattle.config_rules.specs.cmesa_grammar.specs.Syntax.{Identifier}
use Rattle.config_rules.specs.Grown.{once, scope_for}
use Rattle.config_rules.specs.Template.{NoParts, Template, heading_in}
use Rattle.config_templates.specs.Shown.{before, chained, part_of}
use Rattle.config_templates.specs.Size.{nodes}
use Rattle.config_templates.specs.declared.template.TemplatePart.{TemplatePart}
use Rattle.config_tree.specs.Growing.{Grows, PartGrows, PartsWithin, Within}
use Rattle.config_tree.specs.Started.{started_at}
use Rattle.config_tree.specs.declared.growth.Growth.{Growth}
use Rattle.config_tree.proofs.Growths.{nested_grows, nested_nodes, within_module, within_nested}
use Rattle.config_tree.proofs.Halfway.{at_end, at_start, one_part, part_smaller, part_within}
use Rattle.config_tree.proofs.NotedShapes.{if_ok}
use Rattle.config_tree.proofs.growing.+growing.Goals as goal

pub grow-parts-init : goal.grow-parts-init
grow-parts-init t c =
    at_start c.args.shapes.now c.args.path.now c.args.scope c.args.template.now c.args.growth.now (listed c.new-starts.result) (chained c.parts-rest.result.now) c.parts-rest.ensures c.new-starts.ensures
    c.requires

pub grow-grow_part-requires : goal.grow-grow_part-requires
grow-grow_part-requires t c =
    let e = c.in-Some.ensures.cases.0 in
    let smaller = part_smaller c.args.shapes.now c.args.path.now c.args.scope c.args.template.now c.args.growth.now c.parts.growth (listed c.parts.starts) c.parts.rest.now c.parts.invariant
    c.in-Some.part.now c.in-Some.more.now e in (
      omega (arith, smaller, c.decreases),
      part_within c.args.shapes.now c.args.path.now c.args.scope c.args.template.now c.args.growth.now c.parts.growth (listed c.parts.starts) c.parts.rest.now c.parts.invariant c.in-Some.part.now
          c.in-Some.more.now e,
    )

pub grow-parts-preserved : goal.grow-parts-preserved
grow-parts-preserved t c =
    one_part c.args.shapes.now c.args.path.now c.args.scope c.args.template.now c.args.growth.now c.parts.growth (listed c.parts.starts) c.parts.rest.now c.parts.invariant c.in-Some.part.now
    c.in-Some.more.now c.in-Some.ensures.cases.0 c.grow_part.new.growth (listed c.declare_first.new.self) c.in_ok-started.started c.bytes.result.now c.in_ok-started.ensures
    (c.bytes.ensures ∙ c.name_of.ensures) c.in_ok-declare_first.ensures.ok

pub grow-returns : goal.grow-returns
grow-returns t c =
    if_ok (λ (control : List ℕ). control ≡ once [] (flat_map (λ (i : Identifier). started_at c.parts.starts i.name) c.as_slice.result.now))
    (λ (control : List ℕ). Grows c.args.shapes.now c.args.path.now c.args.scope c.args.growth.now c.parts.growth c.args.template.now control) c.control.result
    (λ control made.
    at_end c.args.shapes.now c.args.path.now c.args.scope c.args.template.now c.args.growth.now c.parts.growth (listed c.parts.starts) c.parts.rest.now c.parts.invariant c.in_default.ensures.cases
    c.as_slice.result.now control (c.as_slice.ensures ∙ ap (λ h. h.control) c.heading.ensures) made)
    c.control.ensures

pub grow_part-grow_module-requires : goal.grow_part-grow_module-requires
grow_part-grow_module-requires t c =
    within_module c.in-Module.part c.in-Module.component (length c.args.shapes.now)
    (subst (λ (p : TemplatePart). PartsWithin (length c.args.shapes.now) (before p NoParts)) c.in-Module.is c.requires)

pub grow_part-grow-requires : goal.grow_part-grow-requires
grow_part-grow-requires t c =
    let here = within_nested c.in-Nested.part c.in-Nested.nested (length c.args.shapes.now)
    (subst (λ (p : TemplatePart). PartsWithin (length c.args.shapes.now) (before p NoParts)) c.in-Nested.is c.requires) in (
      omega (arith, nested_nodes c.args.part.now c.in-Nested.part c.in-Nested.nested c.in-Nested.is, ap nodes c.get-in-Nested.ensures, c.decreases),
      subst (λ (n : Template). Within (length c.args.shapes.now) n) (sym c.get-in-Nested.ensures) here,
    )

pub grow_part-returns-in_ok-push-in-Nested : goal.grow_part-returns-in_ok-push-in-Nested
grow_part-returns-in_ok-push-in-Nested t c =
    let shapes = c.args.shapes.now in
    let path = c.args.path.now in
    let old = c.args.growth.now in
    let mid : Growth = record { scopes = c.push.new.self; instances = old.instances } in
    if_ok (λ (started : List ℕ). Grows shapes c.as_slice.result.now c.in_ok-inside-in-Nested.inside mid c.grow.new.growth c.get-in-Nested.result.now started)
    (λ (started : List ℕ). PartGrows shapes path c.args.scope old c.grow.new.growth c.args.part.now started) c.grow.result
    (λ started g.
    subst (λ (p : TemplatePart). PartGrows shapes path c.args.scope old c.grow.new.growth p started) (sym c.in-Nested.is)
    (nested_grows shapes path c.as_slice.result.now c.args.scope c.in_ok-inside-in-Nested.inside old mid c.grow.new.growth c.in-Nested.part c.in-Nested.nested c.in_ok-scope-in-Nested.scope started
    (c.as_slice.ensures ∙ c.in_ok-path-in-Nested.ensures) (c.in_ok-inside-in-Nested.ensures ∙ c.len.ensures)
    (c.in_ok-scope-in-Nested.ensures ∙ ap (λ h. scope_for c.args.scope (part_of c.in-Nested.part) h) c.heading.ensures ∙ ap (λ (n : Template). scope_for c.args.scope (part_of c.in-Nested.part) (heading_in n)) c.get.ensures)
    c.in_ok-push-in-Nested.ensures.ok refl
    (subst (λ (n : Template). Grows shapes c.as_slice.result.now c.in_ok-inside-in-Nested.inside mid c.grow.new.growth n started) c.get-in-Nested.ensures g)))
    c.grow.ensures
