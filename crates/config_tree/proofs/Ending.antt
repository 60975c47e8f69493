-- From a template to the answer of the definition.
use Rattle.std.proofs.Common.{◌≡◌, ◌≢◌, ℕ, zero, suc, ◌+◌, ◌<◌, inl, inr, ⊎_elim, List, [], ◌∷◌, ◌++◌, length, map, Option, Some, None, slice_get, Ok, Err, IfOk, MatchResult, refl, sym, ap, subst, ◌∙◌, arith}
use Rattle.std.proofs.lemmas.Option.{none-some}
use Rattle.mesa_base.specs.declared.place.Place.{Place}
use Rattle.mesa_types.specs.declared.faces.Shape.{Shape}
use Rattle.config_rules.specs.cmesa_grammar.specs.Syntax.{Config, Configuration}
use Rattle.config_rules.specs.Components.{components}
use Rattle.config_rules.specs.Template.{Template, Gone, Parts, NoParts, AndModule, AndNested, heading_in, parts_in, scopes_of}
use Rattle.config_rules.specs.Through.{Answer, ◌>>=◌, Module, through}
use Rattle.config_rules.specs.Grown.{control_of, grown, inner_instances, inner_scopes, instances_in, no_shape, outermost, scopes_in, shape_in, shape_of}
use Rattle.config_rules.specs.InOrder.{TreeIn}
use Rattle.config_rules.specs.Tree.{Agree, Agreed, FirstToDiffer, IsTree, all_faces, made, modules_with, too_many, too_nested, unless_there}
use Rattle.config_rules.specs.declared.fault.TreeCause.TheVariants.{InterfaceDiffers, TooManyInstances, TooNested}
use Rattle.config_rules.specs.declared.fault.TreeFault.{TreeFault}
use Rattle.config_rules.specs.declared.fault.TreeFault.TheVariants.{At, Memory}
use Rattle.config_rules.specs.declared.tree.Component.{Component}
use Rattle.config_rules.specs.declared.tree.Tree.{Tree}
use Rattle.config_rules.proofs.Answers.{err_ok}
use Rattle.config_rules.proofs.Made.{trees_are_in_order}
use Rattle.config_rules.proofs.Members.{mapped_length}
use Rattle.config_rules.proofs.Templates.{TemplateIn, PartsIn, outermost_in}
use Rattle.config_templates.specs.Answers.{Stops}
use Rattle.config_tree.specs.declared.growth.Growth.{Growth}
use Rattle.config_tree.specs.Ended.{IsEnded, ended}
use Rattle.config_tree.specs.Growing.{Grows, PartsWithin, Within, nameless}
use Rattle.config_tree.proofs.Growths.{instances_are, scopes_are}

abbrev shapes_of : List Module → List Shape
shapes_of ms = map (λ (m : Module). m.shape) ms

-- ---- modules of one list of shapes grow one tree

modules_shapes : (cs : List Component) (ss : List Shape) → length ss ≡ length cs → shapes_of (modules_with cs ss) ≡ ss
unfolding modules_with
modules_shapes [] [] e = refl
modules_shapes [] (s ∷ ss) e = absurd (omega arith)
modules_shapes (c ∷ cs) [] e = absurd (omega arith)
modules_shapes (c ∷ cs) (s ∷ ss) e = ap (λ l. s ∷ l) (modules_shapes cs ss (omega arith))

nameless_shapes : (ss : List Shape) → shapes_of (nameless ss) ≡ ss
nameless_shapes [] = refl
nameless_shapes (s ∷ ss) = ap (λ l. s ∷ l) (nameless_shapes ss)

shape_or : Option Shape → Shape
shape_or None = no_shape
shape_or (Some s) = s

shaped : (ms : List Module) (n : ℕ) → shape_in (slice_get ms n) ≡ shape_or (slice_get (shapes_of ms) n)
unfolding shape_in shape_or
shaped [] n = refl
shaped (m ∷ ms) zero = refl
shaped (m ∷ ms) (suc n) = shaped ms n

module _ (ms ns : List Module) (same : shapes_of ms ≡ shapes_of ns) where
  same_shape : (c : ℕ) → shape_of ms c ≡ shape_of ns c
  same_shape c = shaped ms c ∙ ap (λ l. shape_or (slice_get l c)) same ∙ sym (shaped ns c)

  mutual
    unfolding instances_in inner_instances

    same_instances : (path : List (List ℕ)) (scope next : ℕ) (t : Template) → instances_in ms path scope next t ≡ instances_in ns path scope next t
    same_instances path scope next (Gone h ps) = same_inner path scope next ps

    same_inner : (path : List (List ℕ)) (scope next : ℕ) (ps : Parts) → inner_instances ms path scope next ps ≡ inner_instances ns path scope next ps
    same_inner path scope next NoParts = refl
    same_inner path scope next (AndModule p c ps) =
        λ j. record { path = path ++ p.name ∷ []; component = c; scope = scope; shape = same_shape c j; imports = p.imports; exports = p.exports } ∷ same_inner path scope next ps j
    same_inner path scope next (AndNested p t ps) =
        λ j. same_instances (path ++ p.name ∷ []) next (next + 1) t j ++ same_inner path scope (next + 1 + scopes_of t) ps j

  same_grown : (t : Template) → grown ms t ≡ grown ns t
  unfolding grown
  same_grown t = λ j. record { scopes = outermost (heading_in t) ∷ scopes_in 0 1 t; instances = same_instances [] 0 1 t j; control = control_of 0 t }

pub grown_with : (cs : List Component) (ss : List Shape) (t : Template) → length ss ≡ length cs → grown (nameless ss) t ≡ grown (modules_with cs ss) t
grown_with cs ss t e = same_grown (nameless ss) (modules_with cs ss) (nameless_shapes ss ∙ sym (modules_shapes cs ss e)) t

-- ---- what was grown behind the outermost scope

pub grown_is : (ss : List Shape) (t : Template) (old new : Growth) (control : List ℕ) (tree : Tree) → old.scopes ≡ outermost (heading_in t) ∷ [] → old.instances ≡ [] → Grows ss [] 0 old new t control
    → tree ≡ record { scopes = new.scopes; instances = new.instances; control = control } → tree ≡ grown (nameless ss) t
unfolding grown
grown_is ss t old new control tree e f g whole =
    whole ∙ (λ j. record { scopes = its_scopes j; instances = its_instances j; control = its_control j })
  where
    its_scopes : new.scopes ≡ outermost (heading_in t) ∷ scopes_in 0 1 t
    its_scopes = g.added.scopes ∙ ap (λ l. l ++ inner_scopes 0 (length l) (parts_in t)) e ∙ ap (λ l. outermost (heading_in t) ∷ l) (scopes_are 0 1 t)

    its_instances : new.instances ≡ instances_in (nameless ss) [] 0 1 t
    its_instances =
        g.added.instances ∙ (λ j. f j ++ inner_instances (nameless ss) [] 0 (length (e j)) (parts_in t)) ∙ instances_are (nameless ss) [] 0 1 t

    its_control : control ≡ control_of 0 t
    its_control = g.control ∙ ap (λ l. control_of (length l) t) f

-- ---- each component has its module

get_less : {A : Type 0} (xs : List A) (k : ℕ) (x : A) → slice_get xs k ≡ Some x → k < length xs
get_less [] k x e = absurd (none-some x e)
get_less (y ∷ xs) zero x e = omega arith
get_less (y ∷ xs) (suc k) x e = let h = get_less xs k x e in omega arith

mutual
  unfolding TemplateIn PartsIn Within PartsWithin

  within : (ms : List Module) (t : Template) → TemplateIn ms t → Within (length ms) t
  within ms (Gone h ps) i = parts_within ms ps i

  parts_within : (ms : List Module) (ps : Parts) → PartsIn ms ps → PartsWithin (length ms) ps
  parts_within ms NoParts i = tt
  parts_within ms (AndModule p c ps) i = (get_less ms c i.0.its i.0.there, parts_within ms ps i.1)
  parts_within ms (AndNested p t ps) i = (within ms t i.0, parts_within ms ps i.1)

pub gone_within : (cs : List Component) (ss : List Shape) (c : Configuration) (t : Template) → length ss ≡ length cs → through (modules_with cs ss) 1 [] c ≡ Ok t → Within (length ss) t
gone_within cs ss c t e h =
    subst (λ n. Within n t) (sym (mapped_length (λ (m : Module). m.shape) (modules_with cs ss)) ∙ ap length (modules_shapes cs ss e))
    (within (modules_with cs ss) t (outermost_in (modules_with cs ss) c t h))

-- ---- the faults at the end

module _ (cs : List Component) (ss : List Shape) (t : Template) where
  told : (exact answer : Answer Tree) → ended (modules_with cs ss) t ≡ exact → MatchResult exact (λ tree. Agreed cs ss tree answer) (λ fault. answer ≡ Err fault) → IsEnded cs ss t answer
  told exact answer e h = subst (λ a. MatchResult a (λ tree. Agreed cs ss tree answer) (λ fault. answer ≡ Err fault)) (sym e) h

  pub is_nested : (place : Place) → Some place ≡ too_nested (parts_in t) → IsEnded cs ss t (Err (At TooNested place))
  unfolding unless_there ◌>>=◌
  is_nested place e =
      told (Err (At TooNested place)) (Err (At TooNested place))
      (ap (λ o. unless_there o TooNested >>= (λ _. unless_there (too_many 0 (parts_in t)) TooManyInstances >>= (λ _. Ok (grown (modules_with cs ss) t)))) (sym e)) refl

  module _ (flat : None ≡ too_nested (parts_in t)) where
    pub is_many : (place : Place) → Some place ≡ too_many 0 (parts_in t) → IsEnded cs ss t (Err (At TooManyInstances place))
    unfolding unless_there ◌>>=◌
    is_many place e =
        told (Err (At TooManyInstances place)) (Err (At TooManyInstances place))
        (λ j. unless_there (sym flat j) TooNested >>= (λ _. unless_there (sym e j) TooManyInstances >>= (λ _. Ok (grown (modules_with cs ss) t)))) refl

    module _ (few : None ≡ too_many 0 (parts_in t)) where
      all_well : ended (modules_with cs ss) t ≡ Ok (grown (modules_with cs ss) t)
      unfolding unless_there ◌>>=◌
      all_well = λ j. unless_there (sym flat j) TooNested >>= (λ _. unless_there (sym few j) TooManyInstances >>= (λ _. Ok (grown (modules_with cs ss) t)))

      pub is_differing : (n : ℕ) (c : Component) → slice_get cs n ≡ Some c → FirstToDiffer ss n → IsEnded cs ss t (Err (At InterfaceDiffers c.place))
      is_differing n c e f = told (Ok (grown (modules_with cs ss) t)) (Err (At InterfaceDiffers c.place)) all_well (inr (n, c, e, f, refl))

      pub is_whole : (tree : Tree) → length ss ≡ length cs → Agree (all_faces ss) → tree ≡ grown (nameless ss) t → IsEnded cs ss t (Ok tree)
      is_whole tree long agree e = told (Ok (grown (modules_with cs ss) t)) (Ok tree) all_well (inl (agree, ap Ok (e ∙ grown_with cs ss t long)))

-- ---- the answer

pub is_tree : (c : Config) (ss : List Shape) (t : Template) (answer : Answer Tree) → through (modules_with (components c) ss) 1 [] c.outermost ≡ Ok t → IsEnded (components c) ss t answer → IsTree c ss answer
unfolding IsTree made ◌>>=◌
is_tree c ss t answer e h =
    subst (λ a. MatchResult (a >>= ended (modules_with (components c) ss)) (λ tree. Agreed (components c) ss tree answer) (λ fault. answer ≡ Err fault)) (sym e) h

pub is_fault : (c : Config) (ss : List Shape) (fault : TreeFault) → through (modules_with (components c) ss) 1 [] c.outermost ≡ Err fault → IsTree c ss (Err fault)
unfolding IsTree made ◌>>=◌
is_fault c ss fault e =
    let answer : Answer Tree = Err fault in
    let same : answer ≡ answer = refl in
    subst (λ (a : Answer Template). MatchResult (a >>= ended (modules_with (components c) ss)) (λ tree. Agreed (components c) ss tree answer) (λ other. answer ≡ Err other)) (sym e) same

pub not_memory : (tree : Tree) → Ok tree ≢ Err Memory
not_memory tree e = err_ok Memory tree (sym e)

pub tree_in : (c : Config) (ss : List Shape) (answer : Answer Tree) → length ss ≡ length (components c) → (answer ≢ Err Memory → IsTree c ss answer) → IfOk answer (TreeIn ss)
unfolding IsTree
tree_in c ss (Err fault) long h = tt
tree_in c ss (Ok tree) long h = by (made modules c.outermost) refl (h (not_memory tree))
  where
    modules : List Module
    modules = modules_with (components c) ss

    by : (a : Answer Tree) → made modules c.outermost ≡ a → MatchResult a (λ grown_tree. Agreed (components c) ss grown_tree (Ok tree)) (λ fault. Ok tree ≡ Err fault) → TreeIn ss tree
    by (Err fault) e k = absurd (err_ok fault tree (sym k))
    by (Ok made_tree) e (inl k) =
        subst (λ l. TreeIn l tree) (modules_shapes (components c) ss long) (trees_are_in_order modules c.outermost tree (e ∙ sym k.1))
    by (Ok made_tree) e (inr k) = absurd (err_ok (At InterfaceDiffers k.1.place) tree (sym k.4))

-- the same with the lists as the code has them
module _ (c : Config) (cs : List Component) (ss shapes : List Shape) (same : cs ≡ components c) (whole : shapes ≡ ss) where
  pub as_long : length ss ≡ length (components c) → length shapes ≡ length cs
  as_long e = ap length whole ∙ e ∙ ap length (sym same)

  gone_as : (a : Answer Template) → through (modules_with cs shapes) 1 [] c.outermost ≡ a → through (modules_with (components c) ss) 1 [] c.outermost ≡ a
  gone_as a e = (λ j. through (modules_with (sym same j) (sym whole j)) 1 [] c.outermost) ∙ e

  pub stays_within : (t : Template) → length ss ≡ length (components c) → through (modules_with cs shapes) 1 [] c.outermost ≡ Ok t → Within (length shapes) t
  stays_within t e h = gone_within cs shapes c.outermost t (as_long e) h

  pub expanded : (t : Template) (answer : Answer Tree) → through (modules_with cs shapes) 1 [] c.outermost ≡ Ok t → (answer ≢ Err Memory → IsEnded cs shapes t answer) → answer ≢ Err Memory → IsTree c ss answer
  expanded t answer h ends not_memory =
      is_tree c ss t answer (gone_as (Ok t) h) (subst (λ l. IsEnded l ss t answer) same (subst (λ l. IsEnded cs l t answer) whole (ends not_memory)))

  pub refused : (fault : TreeFault) (answer : Answer Tree) → answer ≡ Err fault → Stops (through (modules_with cs shapes) 1 [] c.outermost) fault → answer ≢ Err Memory → IsTree c ss answer
  refused fault answer is stops not_memory =
      subst (λ a. IsTree c ss a) (sym is) (⊎_elim (λ e. absurd (not_memory (is ∙ ap (λ f. Err f) e))) (λ e. is_fault c ss fault (gone_as (Err fault) e)) stops)
