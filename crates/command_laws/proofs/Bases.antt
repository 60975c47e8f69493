-- What is configured has as many bases as modules.
use Rattle.std.proofs.Common.{◌≡◌, ℕ, List, [], ◌∷◌, length, map, Option, refl, sym, ◌∙◌, ap, subst, arith}
use Rattle.std.proofs.lemmas.List.{length-map}
use Rattle.mesa_base.specs.Outside.{Files}
use Rattle.mesa_types.specs.Typed.{Module}
use Rattle.cmesa_grammar.specs.Syntax.{Config}
use Rattle.config_rules.specs.Components.{components}
use Rattle.config_rules.specs.Tree.{IsTree, IsSingle}
use Rattle.config_rules.specs.declared.tree.Component.{Component}
use Rattle.command_rules.specs.bound_images.specs.Programs.{shape_of}
use Rattle.command_rules.specs.Case.{Case}
use Rattle.command_rules.specs.Configurations.{Configured, bases_of, component_in, config_in, configuration_of, modules_of, single_of, source_in, tree_in}
use Rattle.command_rules.specs.Forms.{OfModule, OfConfig, config_file, module_file}
use Rattle.command_rules.specs.Modules.{module_in}
use Rattle.command_rules.specs.Passes.{Outcome, Has, Stops, Trail, Pass, Follows, went, and_then, given, each}
use Rattle.command_laws.specs.Laws.{BasesFit}

-- a value that comes of one pass behind another
record Through {A B : Type 0} (p : Pass Case A) (q : A → Pass Case B) (files : Option Files) (b : B) : Type 0 where
  value : A
  trail : Trail
  more : Trail
  front : p.comes files trail (Has value)
  behind : (q value).comes files more (Has b)

came_through : {A B : Type 0} (p : Pass Case A) (q : A → Pass Case B) (files : Option Files) (trail : Trail) (b : B) → Follows p q files trail (Has b)
    → Through p q files b
came_through p q files _ b (went trail more a _ x y) = record { value = a; trail = trail; more = more; front = x; behind = y }

value_or : {A : Type 0} → A → Outcome Case A → A
value_or d (Has a) = a
value_or d (Stops c) = d

-- as many values as passes
each_fit : {X A : Type 0} (q : X → Pass Case A) (xs : List X) (files : Option Files) (trail : Trail) (ys : List A) → (each q xs).comes files trail (Has ys)
    → length ys ≡ length xs
unfolding each value_or
each_fit q [] files trail ys h = ap (λ o. length (value_or [] o)) h.1
each_fit q (x ∷ xs) files trail ys h =
    let t = came_through (q x) (λ a. and_then (each q xs) (λ bs. given (a ∷ bs))) files trail ys h in
    let u = came_through (each q xs) (λ bs. given (t.value ∷ bs)) files t.more ys t.behind in
    let e : length ys ≡ length (t.value ∷ u.value) = ap (λ o. length (value_or [] o)) u.behind.1 in
    let f = each_fit q xs files u.trail u.value u.front in
    omega (arith, e, f)

-- ---- what is configured

abbrev Fits : Configured → Type 0
Fits k = length k.bases ≡ length k.modules

fits_as : (k l : Configured) → ◌≡◌ {A = Outcome Case Configured} (Has k) (Has l) → Fits l → Fits k
unfolding value_or
fits_as k l e h = subst (λ o. Fits (value_or k o)) (sym e) h

single_fits : (base : List ℕ) (m : Module) (files : Option Files) (trail : Trail) (k : Configured) → (single_of base m).comes files trail (Has k) → Fits k
unfolding single_of
single_fits base m files trail k h =
    let t = came_through (tree_in (module_file base) (IsSingle (shape_of m))) (λ t. given (record { tree = t; bases = base ∷ []; modules = m ∷ [] })) files trail k h in
    fits_as k (record { tree = t.value; bases = base ∷ []; modules = m ∷ [] }) t.behind.1 refl

configured_fits : (file : List ℕ) (c : Config) (files : Option Files) (trail : Trail) (k : Configured) → (configuration_of file c).comes files trail (Has k) → Fits k
unfolding configuration_of
configured_fits file c files trail k h =
    let t = came_through (modules_of c) (λ modules. and_then (tree_in file (IsTree c (map shape_of modules))) (λ t. given (record { tree = t; bases = bases_of c; modules = modules })))
    files trail k h in
    let u = came_through (tree_in file (IsTree c (map shape_of t.value))) (λ u. given (record { tree = u; bases = bases_of c; modules = t.value })) files t.more k t.behind in
    fits_as k (record { tree = u.value; bases = bases_of c; modules = t.value }) u.behind.1
    (length-map (components c) (λ (x : Component). x.file) ∙ sym (each_fit component_in (components c) files t.trail t.value t.front))

pub bases_fit : BasesFit
unfolding source_in
bases_fit OfModule base files trail k h =
    let t = came_through (module_in (module_file base)) (single_of base) files trail k h in
    single_fits base t.value files t.more k t.behind
bases_fit OfConfig base files trail k h =
    let t = came_through (config_in (config_file base)) (configuration_of (config_file base)) files trail k h in
    configured_fits (config_file base) t.value files t.more k t.behind
