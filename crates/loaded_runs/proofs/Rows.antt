-- Worked configurations, by computation: the tree of two trees as one is that of a configuration that has the two as nested ones, and what items stand
-- for in it.
use Rattle.std.proofs.Common.{◌≡◌, decimal, refl, sym, ap, ◌∙◌, arith}
use Rattle.std.specs.Prelude.{ℕ, List, [], ◌∷◌, ◌++◌, map, codes, Some, Ok, Err}
use Rattle.std.proofs.lemmas.Fmt.{decimal_digit}
use Rattle.mesa_types.specs.Typed.{Module}
use Rattle.mesa_types.specs.declared.faces.Face.{Face}
use Rattle.mesa_types.specs.declared.faces.Shape.{Shape}
use Rattle.interface_records.specs.Faces.{iodefs}
use Rattle.object_files.specs.declared.image.Image.{Image}
use Rattle.config_rules.specs.cmesa_grammar.specs.Syntax.{Configuration, AndDeclare, AndInstance}
use Rattle.config_rules.specs.Exporters.{outside_of, stepped, step_in, goes_on, reach, outlets_of, outlets_from, is_named, is_given, exporters}
use Rattle.config_rules.specs.Resolves.{Resolution, Left, Bound, NoExporter, Twice, Want, from_outside, source, given_for, chosen, resolved_at, resolved, want, wants_of, wants}
use Rattle.config_rules.specs.Through.{Answer}
use Rattle.config_rules.specs.declared.tree.Tree.{Tree}
use Rattle.config_rules.specs.declared.tree.TreeInstance.{TreeInstance}
use Rattle.config_rules.proofs.Written.{names, linked, called, all_of, one_of, configuration, procedure, interface_of, uses, pair, offers, module_of, tree_of}
use Rattle.loaded_runs.specs.Outermost.{passed_by, passed_within, passed}
use Rattle.loaded_runs.specs.Together.{Source, places_behind, together}

abbrev the_tree : Answer Tree → Tree
the_tree (Ok t) = t
the_tree (Err e) = record { scopes = []; instances = []; control = [] }

abbrev tail_of : List (List ℕ) → List (List ℕ)
tail_of [] = []
tail_of (n ∷ ns) = ns

-- each path begins with the name
abbrev with_heads : List (List ℕ) → List TreeInstance → List TreeInstance
with_heads [] xs = xs
with_heads (n ∷ ns) [] = []
with_heads (n ∷ ns) (x ∷ xs) = record x { path = n ∷ tail_of x.path } ∷ with_heads ns xs

unfoldable made_of : Configuration → List Shape → Tree
unfolding tree_of
made_of c shapes = the_tree (tree_of c shapes)

unfoldable answers_in : Tree → List Resolution
unfolding outside_of stepped step_in goes_on reach outlets_of outlets_from is_named is_given exporters from_outside source given_for chosen resolved_at resolved want wants_of
answers_in t = map (λ (w : Want). w.answer) (wants t)

-- ---- modules: the procedure has the number 5 in its module

abbrev clock : Face
clock = interface_of (codes "Clock") 40 (procedure (codes "Now") ∷ [])

abbrev ticker : List ℕ → Shape
ticker name = module_of name [] (offers clock (pair 0 5 ∷ []) ∷ [])

abbrev reader : Shape
reader = module_of (codes "Reader") (uses clock (0 ∷ []) ∷ uses iodefs.face (2 ∷ []) ∷ []) []

-- ---- configurations, whose images are loaded one behind the other

abbrev clocks : Configuration
clocks = configuration (codes "Clocks") [] (codes "Clock" ∷ []) (codes "Ticker" ∷ []) (all_of (codes "Ticker" ∷ []))

-- the reader is in a nested configuration, whose record Hours is the record Clock outside
abbrev day : Configuration
day = configuration (codes "Day") (codes "Clock" ∷ codes "IODefs" ∷ []) [] (codes "Room" ∷ [])
    (AndDeclare
    (configuration (codes "Room") (codes "Hours" ∷ codes "IODefs" ∷ []) [] (codes "Reader" ∷ []) (one_of (linked [] (codes "Reader") (names (codes "Hours" ∷ codes "IODefs" ∷ [])))))
    (one_of (linked [] (codes "Room") (names (codes "Clock" ∷ codes "IODefs" ∷ [])))))

-- ---- and as one configuration

abbrev as_one : Configuration
as_one = configuration (codes "Both") (codes "IODefs" ∷ []) [] (codes "I1" ∷ codes "I2" ∷ [])
    (AndDeclare clocks (AndDeclare day (AndInstance (called (codes "I1") 0 (codes "Clocks")) (one_of (called (codes "I2") 0 (codes "Day"))))))

-- one that exports what the first does
abbrev others : Configuration
others = configuration (codes "Others") [] (codes "Clock" ∷ []) (codes "Other" ∷ []) (all_of (codes "Other" ∷ []))

module _ (m : Module) (image : Image) where
  -- a tree with one component
  abbrev of_one : Tree → Source
  of_one t = record { tree = t; modules = m ∷ []; objects = []; image = image }

  unfoldable both : Tree
  unfolding made_of places_behind together
  both = together (of_one (made_of clocks (ticker (codes "Ticker") ∷ [])) ∷ of_one (made_of day (reader ∷ [])) ∷ [])

  -- with these names of the two
  unfoldable called_so : (first second : List ℕ) → Tree
  unfolding both
  called_so first second = record both { instances = with_heads (first ∷ second ∷ []) both.instances }

  as_one_is : tree_of as_one (ticker (codes "Ticker") ∷ reader ∷ []) ≡ Ok (called_so (codes "I1") (codes "I2"))
  unfolding tree_of called_so
  as_one_is = refl

  both_is : called_so (codes "I" ++ decimal 1) (codes "I" ++ decimal 2) ≡ both
  unfolding called_so
  both_is = refl

  both_as_one : tree_of as_one (ticker (codes "Ticker") ∷ reader ∷ []) ≡ Ok both
  both_as_one =
      as_one_is
      ∙ ap Ok ((λ j. called_so (codes "I" ++ sym (decimal_digit 1 (omega arith)) j) (codes "I" ++ sym (decimal_digit 2 (omega arith)) j)) ∙ both_is)

  -- the reader's item is the ticker's, and what it prints is left to the loader
  both_bind : answers_in both ≡ Bound 0 5 ∷ Left ∷ []
  unfolding answers_in both
  both_bind = refl

  both_start : both.control ≡ 0 ∷ 1 ∷ []
  unfolding both
  both_start = refl

  -- by itself the reader's item is left to the loader
  day_alone : answers_in (made_of day (reader ∷ [])) ≡ Left ∷ Left ∷ []
  unfolding answers_in made_of
  day_alone = refl

  -- it passes the outermost scope at the record of its interface's name
  day_passes : passed (made_of day (reader ∷ [])) (record { scope = 1; record_name = codes "Hours" }) ≡ Some (codes "Clock")
  unfolding made_of passed_by passed_within outside_of stepped step_in
  day_passes = refl

  -- a tree whose import passes at no other's record has no exporter in the new one
  none_gives : answers_in (together (of_one (made_of day (reader ∷ [])) ∷ [])) ≡ NoExporter ∷ Left ∷ []
  unfolding answers_in made_of places_behind together
  none_gives = refl

  -- two that export it are two in the new tree, wherever they stand
  two_give : answers_in (together (of_one (made_of clocks (ticker (codes "Ticker") ∷ [])) ∷ of_one (made_of day (reader ∷ [])) ∷ of_one (made_of others (ticker (codes "Other") ∷ [])) ∷ []))
      ≡ Twice 0 2 ∷ Left ∷ []
  unfolding answers_in made_of places_behind together
  two_give = refl
