use Rattle.std.proofs.Common.{List, [], ◌∷◌, ap, refl, sym, subst, ◌∙◌, Result, IfOk, ℕ}
use Rattle.mesa_base.specs.declared.out_of_memory.OutOfMemory.{OutOfMemory}
use Rattle.config_rules.specs.Grown.{outermost}
use Rattle.config_rules.specs.declared.tree.TreeScope.{TreeScope}
use Rattle.config_tree.specs.Growing.{Grows}
use Rattle.config_tree.specs.declared.growth.Growth.{Growth}
use Rattle.config_tree.proofs.Ending.{grown_is}
use Rattle.config_tree.proofs.finishing.grown.Goals as goal

pub returns : goal.returns
returns c =
    let shapes = c.args.shapes.now in
    let t = c.args.template.now in
    let old : Growth = record { scopes = c.in_ok-of.field-0; instances = c.new.result } in
    let grew = subst (λ (r : Result (List ℕ) OutOfMemory). IfOk r (λ control. Grows shapes [] 0 old c.grow-control.new.growth t control)) c.in_ok-growth.ensures.1 c.grow-control.ensures in
    grown_is shapes t old c.in_ok-growth.growth c.in_ok-growth.control (record { scopes = c.in_ok-growth.growth.scopes; instances = c.in_ok-growth.growth.instances; control = c.in_ok-growth.control })
    (c.in_ok-of.ensures ∙ ap (λ (s : TreeScope). s ∷ []) c.in_ok-scope.ensures ∙ ap (λ h. outermost h ∷ []) c.heading.ensures) c.new.ensures
    (subst (λ (g : Growth). Grows shapes [] 0 old g t c.in_ok-growth.control) (sym c.in_ok-growth.ensures.0) grew) refl
