-- Growing part by part: what is added so far and then the rest is all.
use Rattle.std.proofs.Common.{◌≡◌, ℕ, ◌+◌, ◌*◌, ◌<◌, ◌≤◌, length, flat_map, List, [], ◌∷◌, unwrap_or, sym, subst, ◌∙◌, arith}
use Rattle.mesa_types.specs.declared.faces.Shape.{Shape}
use Rattle.check_scopes.specs.Scopes.{Scope, nothing, over, with_name}
use Rattle.config_rules.specs.cmesa_grammar.specs.Syntax.{Identifier}
use Rattle.config_rules.specs.Template.{Template, Parts, NoParts, heading_in, parts_in}
use Rattle.config_rules.specs.Grown.{starts, once}
use Rattle.config_templates.specs.Shown.{before, chained}
use Rattle.config_templates.specs.Size.{nodes, nodes_in}
use Rattle.config_templates.specs.declared.template.TemplatePart.{TemplatePart}
use Rattle.config_tree.specs.declared.growth.Growth.{Growth}
use Rattle.config_tree.specs.Growing.{Within, PartsWithin, Adds, Grows, PartGrows, name_in}
use Rattle.config_tree.proofs.Growths.{Starting, first_part, no_part, split_within, parts_within, split_nodes, nodes_is, adds_none, adds_more, starting_none, starting_more, starting_all, control_all}

module _ (shapes : List Shape) (path : List (List ℕ)) (scope : ℕ) (template : Template) (first : Growth) where
  pub record Halfway (now : Growth) (names : Scope (List ℕ)) (rest : Parts) : Type 0 where
    pub added : (new : Growth) → Adds shapes path scope now new rest → Adds shapes path scope first new (parts_in template)
    pub starting : Starting names (length now.instances) rest (starts (length first.instances) (parts_in template))
    pub within : PartsWithin (length shapes) rest
    pub fewer : nodes_in rest ≤ nodes_in (parts_in template)

  pub at_start : (names : Scope (List ℕ)) (rest : Parts) → rest ≡ parts_in template → names ≡ nothing → Within (length shapes) template → Halfway first names rest
  at_start names rest is none within =
      subst (λ ps. Halfway first names ps) (sym is)
      (record { added = λ new a. a; starting = starting_none (length first.instances) (parts_in template) names none; within = parts_within (length shapes) template within; fewer = omega arith })

  module _ (now : Growth) (names : Scope (List ℕ)) (all : List TemplatePart) (h : Halfway now names (chained all)) where
    module _ (p : TemplatePart) (ps : List TemplatePart) (e : all ≡ p ∷ ps) where
      here : Halfway now names (before p (chained ps))
      here = subst (λ qs. Halfway now names qs) (first_part p ps all e) h

      pub part_within : PartsWithin (length shapes) (before p NoParts)
      part_within = (split_within (length shapes) p (chained ps) here.within).0

      pub part_smaller : 2 * nodes_in (before p NoParts) + 1 < 2 * nodes template
      part_smaller = omega (arith, here.fewer, split_nodes p (chained ps), nodes_is template)

      pub one_part : (mid : Growth) (later : Scope (List ℕ)) (started name : List ℕ) → PartGrows shapes path scope now mid p started → name ≡ name_in p
          → later ≡ over names (with_name name started nothing) → Halfway mid later (chained ps)
      one_part mid later started name g same declared = record {
        added = λ new a. here.added new (adds_more shapes path scope now mid new p (chained ps) g.added a);
        starting = starting_more shapes path scope now mid p (chained ps) started name names later (starts (length first.instances) (parts_in template)) g same declared here.starting;
        within = (split_within (length shapes) p (chained ps) here.within).1;
        fewer = omega (arith, here.fewer, split_nodes p (chained ps));
      }

    pub at_end : length all ≡ 0 → (listed : List Identifier) (control : List ℕ) → listed ≡ (heading_in template).control
        → control ≡ once [] (flat_map (λ (i : Identifier). unwrap_or (names i.name) []) listed) → Grows shapes path scope first now template control
    at_end e listed control is made =
        let done : Halfway now names NoParts = subst (λ qs. Halfway now names qs) (no_part all e) h in
        record {
          added = done.added now (adds_none shapes path scope now);
          control = made
              ∙ control_all (length first.instances) template names listed is (starting_all names (length now.instances) (starts (length first.instances) (parts_in template)) done.starting);
        }
