-- What going through a configuration keeps: each instance has a name, and one that none before it has in its scope.
use Rattle.std.proofs.Common.{◌≡◌, ℕ, suc, Bool, true, false, not, List, [], ◌∷◌, bytes_eq, Option, Some, None, Ok, cond, refl, sym, ap, subst, ◌∙◌, if◌then◌else◌}
use Rattle.std.specs.Option.{option_or}
use Rattle.std.proofs.lemmas.Option.{none-some, same_Some}
use Rattle.mesa_base.specs.Name.{IsName}
use Rattle.check_scopes.specs.Scopes.{nothing, find, innermost, outer, has}
use Rattle.cmesa_grammar.specs.Syntax.{Identifier, Configuration, Configured, Statements, NoStatements, AndDeclare, AndInstance}
use Rattle.cmesa_grammar.specs.declared.syntax.Heading.{Heading}
use Rattle.cmesa_grammar.specs.declared.syntax.Instantiation.{Instantiation}
use Rattle.config_rules.specs.Components.{heading_of, own_name}
use Rattle.config_rules.specs.Template.{Part, Template, Gone, Parts, NoParts, AndModule, AndNested, heading_in}
use Rattle.config_rules.specs.Through.{Answer, ◌>>=◌, unless, Module, Nested, declare, Thing, AModule, ANested, Found, interfaces_imported, interfaces_exported, found_module, found_as, found, name_or, name_in, Made, instance, add, headed, through, statements}
use Rattle.config_rules.specs.declared.fault.TreeCause.TheVariants.{UnknownComponent}
use Rattle.config_rules.proofs.Answers.{went, err_ok, ok_same, passed}
use Rattle.spelled_trees.specs.Names.{Named, MaybeNamed, InstanceNamed, HeadingNamed, ConfigurationNamed, StatementsNamed}

-- a name that none of these is
pub record IsNew (names : List (List ℕ)) (name : List ℕ) : Type 0 where
  pub named : IsName name
  pub new : has name names ≡ false

unfoldable mutual
  pub TemplateSpelled : Template → Type 0
  TemplateSpelled (Gone h ps) = PartsSpelled [] ps

  -- behind parts of these names
  pub PartsSpelled : List (List ℕ) → Parts → Type 0
  PartsSpelled names NoParts = Unit {0}
  PartsSpelled names (AndModule p c ps) = IsNew names p.name × PartsSpelled (p.name ∷ names) ps
  PartsSpelled names (AndNested p t ps) = IsNew names p.name × TemplateSpelled t × PartsSpelled (p.name ∷ names) ps

-- each nested configuration that is declared
abbrev AllSpelled : Nested → Type 0
AllSpelled nested = (name : List ℕ) (t : Template) → find name nested ≡ Some t → TemplateSpelled t

abbrev ThingSpelled : Thing → Type 0
ThingSpelled (AModule c) = Unit {0}
ThingSpelled (ANested t) = TemplateSpelled t

split : (nested : Nested) (x : List ℕ) → option_or (innermost nested x) (find x (outer nested)) ≡ find x nested
split [] x = refl
split (s ∷ ss) x = refl

declared_spelled : (nested : Nested) (name : List ℕ) (t : Template) → TemplateSpelled t → AllSpelled nested → AllSpelled (declare name t nested)
declared_spelled nested name t h all x u e = by (bytes_eq name x) e
  where
    by : (b : Bool) → option_or (cond b (Some t) (innermost nested x)) (find x (outer nested)) ≡ Some u → TemplateSpelled u
    by true g = subst TemplateSpelled (same_Some t u g) h
    by false g = all x u (sym (split nested x) ∙ g)

-- ---- an instance

its_name : (component : Identifier) (name : Option Identifier) → Named component → MaybeNamed name → Named (name_or component name)
unfolding name_or
its_name component None h g = h
its_name component (Some i) h g = g

module _ (modules : List Module) where
  module_found : (n : ℕ) (ms : List Module) (c : Identifier) (f : Found) → found_module n ms c ≡ Ok f → ThingSpelled f.thing
  unfolding found_module
  module_found n [] c f h = absurd (err_ok _ f h)
  module_found n (m ∷ ms) c f h = by (module_found (suc n) ms c f) (bytes_eq m.name c.name) h
    where
      at : Found
      at = record { thing = AModule n; imports = interfaces_imported m.shape; exports = interfaces_exported m.shape }

      cause : Answer (Unit {0})
      cause = unless (not (bytes_eq m.shape.name c.name)) UnknownComponent c.place

      by : (found_module (suc n) ms c ≡ Ok f → ThingSpelled f.thing) → (b : Bool) → (if b then cause >>= (λ _. Ok at) else found_module (suc n) ms c) ≡ Ok f → ThingSpelled f.thing
      by again true g = let w = went cause (λ _. Ok at) f g in subst (λ (x : Found). ThingSpelled x.thing) (ok_same at f w.went_on) tt
      by again false g = again g

  thing_found : (nested : Nested) (c : Identifier) (f : Found) → AllSpelled nested → found modules nested c ≡ Ok f → ThingSpelled f.thing
  unfolding found_as
  thing_found nested c f all h = by (find c.name nested) refl h
    where
      by : (o : Option Template) → find c.name nested ≡ o → found_as modules c o ≡ Ok f → ThingSpelled f.thing
      by None e g = module_found 0 modules c f g
      by (Some t) e g = subst (λ (x : Found). ThingSpelled x.thing) (ok_same _ f g) (all c.name t e)

  made_spelled : (nested : Nested) (names : List (List ℕ)) (i : Instantiation) (m : Made) → InstanceNamed i → AllSpelled nested → instance modules nested names i ≡ Ok m
      → IsNew names m.part.name × ThingSpelled m.thing
  unfolding instance
  made_spelled nested names i m n all h =
      let w1 = went _ _ m h in
      let w2 = went _ _ m w1.went_on in
      let w3 = went _ _ m w2.went_on in
      let w4 = went _ _ m w3.went_on in
      subst (λ (x : Made). IsNew names x.part.name × ThingSpelled x.thing) (ok_same _ m w4.went_on)
      (record { named = its_name i.component i.name n.component n.name; new = passed (has (name_in i).name names) _ _ w2.value w2.is }, thing_found nested i.component w1.value all w1.is)

  add_spelled : (names : List (List ℕ)) (p : Part) (t : Thing) (ps : Parts) → IsNew names p.name → ThingSpelled t → PartsSpelled (p.name ∷ names) ps → PartsSpelled names (add p t ps)
  unfolding add PartsSpelled
  add_spelled names p (AModule c) ps n h g = (n, g)
  add_spelled names p (ANested t) ps n h g = (n, h, g)

  -- ---- a configuration

  headed_is : (h : Heading) (ps : Parts) (t : Template) → headed h ps ≡ Ok t → Gone h ps ≡ t
  unfolding headed
  headed_is h ps t e =
      let w1 = went _ _ t e in
      let w2 = went _ _ t w1.went_on in
      let w3 = went _ _ t w2.went_on in
      ok_same (Gone h ps) t w3.went_on

  mutual
    unfolding through statements TemplateSpelled PartsSpelled ConfigurationNamed StatementsNamed

    through_spelled : (depth : ℕ) (nested : Nested) (c : Configuration) (t : Template) → ConfigurationNamed c → AllSpelled nested → through modules depth nested c ≡ Ok t → TemplateSpelled t
    through_spelled depth nested (Configured h ss) t n all e =
        let w1 = went _ _ t e in
        let w2 = went _ _ t w1.went_on in
        subst TemplateSpelled (headed_is h w2.value t w2.went_on) (statements_spelled depth (nothing ∷ nested) [] ss w2.value n.1 all w2.is)

    statements_spelled : (depth : ℕ) (nested : Nested) (names : List (List ℕ)) (ss : Statements) (ps : Parts) → StatementsNamed ss → AllSpelled nested
        → statements modules depth nested names ss ≡ Ok ps → PartsSpelled names ps
    statements_spelled depth nested names NoStatements ps n all e = subst (PartsSpelled names) (ok_same NoParts ps e) tt
    statements_spelled depth nested names (AndDeclare c ss) ps n all e =
        let w1 = went _ _ ps e in
        let w2 = went _ _ ps w1.went_on in
        statements_spelled depth (declare (own_name c).name w2.value nested) names ss ps n.1
        (declared_spelled nested (own_name c).name w2.value (through_spelled (suc depth) nested c w2.value n.0 all w2.is) all) w2.went_on
    statements_spelled depth nested names (AndInstance i ss) ps n all e =
        let w1 = went _ _ ps e in
        let w2 = went _ _ ps w1.went_on in
        let m = made_spelled nested names i w1.value n.0 all w1.is in
        subst (PartsSpelled names) (ok_same (add w1.value.part w1.value.thing w2.value) ps w2.went_on)
        (add_spelled names w1.value.part w1.value.thing w2.value m.0 m.1 (statements_spelled depth nested (w1.value.part.name ∷ names) ss w2.value n.1 all w2.is))

  pub outermost_spelled : (c : Configuration) (t : Template) → ConfigurationNamed c → through modules 1 [] c ≡ Ok t → TemplateSpelled t
  outermost_spelled c t n e = through_spelled 1 [] c t n (λ x u f. absurd (none-some u f)) e

  -- the heading is the configuration's
  pub outermost_heading : (c : Configuration) (t : Template) → through modules 1 [] c ≡ Ok t → heading_in t ≡ heading_of c
  unfolding through heading_in heading_of
  outermost_heading (Configured h ss) t e =
      let w1 = went _ _ t e in
      let w2 = went _ _ t w1.went_on in
      ap heading_in (sym (headed_is h w2.value t w2.went_on))

pub heading_named : (c : Configuration) → ConfigurationNamed c → HeadingNamed (heading_of c)
unfolding ConfigurationNamed heading_of
heading_named (Configured h ss) n = n.0
