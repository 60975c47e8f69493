-- The list of components, or the fault of a file text.
use Rattle.std.proofs.Common.{◌≡◌, List, [], Some, None, Ok, Err, map, sym, ap, ◌∙◌}
use Rattle.cmesa_grammar.specs.Syntax.{Place, Identifier, Config}
use Rattle.config_rules.specs.Components.{no_file_base, first_mentions, mentions}
use Rattle.config_rules.specs.Tree.{unless_there}
use Rattle.config_rules.specs.declared.fault.TreeCause.TheVariants.{UnknownComponent}
use Rattle.config_rules.specs.declared.fault.TreeFault.TheVariants.{At}
use Rattle.config_rules.specs.declared.tree.Component.{Component}
use Rattle.config_templates.specs.Mentioned.{component_of, exact_components}
use Rattle.config_templates.proofs.AnswerLaws.{ok, then, fails}

pub no_base : (c : Config) (p : Place) → no_file_base c.directory ≡ Some p → exact_components c ≡ Err (At UnknownComponent p)
unfolding unless_there
no_base c p e = fails _ _ _ (ap (λ o. unless_there o UnknownComponent) e)

pub all_listed : (c : Config) (all : List Component) (names : List Identifier) → no_file_base c.directory ≡ None → names ≡ first_mentions [] (mentions [] c.outermost)
    → all ≡ map (component_of c.directory) names → exact_components c ≡ Ok all
unfolding unless_there
all_listed c all names e n a =
    then _ _ tt (ap (λ o. unless_there o UnknownComponent) e) ∙ ap (λ l. ok l) (sym (a ∙ ap (map (component_of c.directory)) n))
