-- How many templates stand in a template, itself among them: by this a walk into nested ones ends.
use Rattle.std.specs.Prelude.{ℕ, ◌+◌}
use Rattle.config_rules.specs.Template.{Template, Gone, Parts, NoParts, AndModule, AndNested}

unfoldable mutual
  pub nodes : Template → ℕ
  nodes (Gone h ps) = 1 + nodes_in ps

  pub nodes_in : Parts → ℕ
  nodes_in NoParts = 0
  nodes_in (AndModule p c ps) = nodes_in ps
  nodes_in (AndNested p t ps) = nodes t + nodes_in ps
