-- What is found of a module by its place.
use Rattle.std.proofs.Common.{◌≡◌, ℕ, suc, ◌+◌, Bool, true, false, not, List, [], ◌∷◌, Option, Some, None, Ok, Err, slice_get, refl, sym, ap, ◌∙◌, add-zero, arith}
use Rattle.std.specs.Prelude.{cond, bytes_eq, option_map}
use Rattle.mesa_types.specs.declared.faces.Shape.{Shape}
use Rattle.cmesa_grammar.specs.Syntax.{Identifier}
use Rattle.config_rules.specs.Through.{Answer, ◌>>=◌, Found, found_module, unless}
use Rattle.config_rules.specs.Tree.{modules_with}
use Rattle.config_rules.specs.declared.fault.TreeCause.TheVariants.{UnknownComponent}
use Rattle.config_rules.specs.declared.fault.TreeFault.TheVariants.{At}
use Rattle.config_rules.specs.declared.tree.Component.{Component}
use Rattle.config_templates.specs.Modules.{of_shape}
use Rattle.config_templates.specs.Places.{place_in, names_of_components}
use Rattle.config_templates.proofs.AnswerLaws.{stands, passes, then, fails}

abbrev unknown : Identifier → Answer Found
unknown i = Err (At UnknownComponent i.place)

abbrev pub module_of : ℕ → Identifier → Option Shape → Answer Found
module_of n i None = unknown i
module_of n i (Some s) = unless (not (bytes_eq s.name i.name)) UnknownComponent i.place >>= (λ _. Ok (of_shape n s))

abbrev pub module_at : ℕ → List Shape → Identifier → Option ℕ → Answer Found
module_at n ss i None = unknown i
module_at n ss i (Some k) = module_of (n + k) i (slice_get ss k)

none_at : (n : ℕ) (i : Identifier) (o : Option ℕ) → unknown i ≡ module_at n [] i o
none_at n i None = refl
none_at n i (Some k) = refl

one_more : (n k : ℕ) → suc n + k ≡ n + suc k
one_more n k = omega arith

later : (n : ℕ) (s : Shape) (ss : List Shape) (i : Identifier) (o : Option ℕ) → module_at (suc n) ss i o ≡ module_at n (s ∷ ss) i (option_map suc o)
later n s ss i None = refl
later n s ss i (Some k) = ap (λ m. module_of m i (slice_get ss k)) (one_more n k)

by_test : (b : Bool) (n : ℕ) (s : Shape) (ss : List Shape) (i : Identifier) (o : Option ℕ)
    → cond b (module_of n i (Some s)) (module_at (suc n) ss i o) ≡ module_at n (s ∷ ss) i (cond b (Some 0) (option_map suc o))
by_test true n s ss i o = ap (λ m. module_of m i (Some s)) (sym (add-zero n))
by_test false n s ss i o = later n s ss i o

pub module_by_place : (n : ℕ) (cs : List Component) (ss : List Shape) (i : Identifier)
    → found_module n (modules_with cs ss) i ≡ module_at n ss i (place_in (names_of_components cs) i.name)
unfolding found_module modules_with place_in
module_by_place n [] ss i = refl
module_by_place n (c ∷ cs) [] i = none_at n i (place_in (names_of_components (c ∷ cs)) i.name)
module_by_place n (c ∷ cs) (s ∷ ss) i =
    ap (cond (bytes_eq c.name i.name) (module_of n i (Some s))) (module_by_place (suc n) cs ss i)
    ∙ by_test (bytes_eq c.name i.name) n s ss i (place_in (names_of_components cs) i.name)

pub same_name : (n : ℕ) (s : Shape) (i : Identifier) → bytes_eq s.name i.name ≡ true → module_of n i (Some s) ≡ Ok (of_shape n s)
same_name n s i e = then _ _ tt (passes _ UnknownComponent i.place (ap not e))

pub other_name : (n : ℕ) (s : Shape) (i : Identifier) → bytes_eq s.name i.name ≡ false → module_of n i (Some s) ≡ Err (At UnknownComponent i.place)
other_name n s i e = fails _ _ (At UnknownComponent i.place) (stands _ UnknownComponent i.place (ap not e))

pub differs : (b : Bool) → true ≡ not b → b ≡ false
differs false e = refl
differs true e = e

pub equals : (b : Bool) → false ≡ not b → b ≡ true
equals true e = refl
equals false e = e
