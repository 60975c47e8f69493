-- The laws from their parts.
use Rattle.std.specs.Prelude.{ℕ, zero, suc, [], ◌∷◌, map, replicate}
use Rattle.syntax_trees.specs.PlainSyntax.{syntax}
use Rattle.interface_records.specs.Faces.{iodefs}
use Rattle.interface_records.specs.PlainTypes.{plain_interface}
use Rattle.interface_records.specs.Spelled.{InterfacesCanBeSpelled}
use Rattle.interface_records.proofs.BuiltIn.{built_in_can_be_spelled}
use Rattle.typing_laws.proofs.HeadNames.{modules_have_names}
use Rattle.typing_laws.proofs.SoundLaw.{checked_modules_are_sound}
use Rattle.typing_laws.proofs.OrderKept.{interfaces_in_order}
use Rattle.typing_laws.proofs.SpelledShapes.{modules_can_be_spelled}
use Rattle.typing_laws.proofs.SpelledLaw.{interfaces_can_be_spelled}
use Rattle.written_trees.specs.Laws.{TreesAreWritten, NamesOfTreesAreNames, CheckedTextsAreSound, CheckedDefinitionsAreInOrder, CheckedTextsHaveNames, CheckedTextsCanBeSpelled}
use Rattle.written_trees.proofs.Tokens.{tokens_are_within}
use Rattle.written_trees.proofs.Modules.{module_read}
use Rattle.written_trees.proofs.Sizes.{of_text_size}
use Rattle.written_trees.proofs.InOrder.{built_in, none}

pub trees_are_written : TreesAreWritten
trees_are_written text x h = (module_read (h.parsed).0 (tokens_are_within text h.tokens h.are_its_own)).0

pub names_are_names : NamesOfTreesAreNames
names_are_names text x h = (module_read (h.parsed).0 (tokens_are_within text h.tokens h.are_its_own)).1

pub checked_texts_are_sound : CheckedTextsAreSound
checked_texts_are_sound = record {
  with_interfaces = λ text x is h given. checked_modules_are_sound (syntax x) is (trees_are_written text x h) given;
  with_none = λ text x h. checked_modules_are_sound (syntax x) [] (trees_are_written text x h) none;
  with_built_in = λ text x h. checked_modules_are_sound (syntax x) (iodefs ∷ []) (trees_are_written text x h) built_in;
}

pub definitions_in_order : CheckedDefinitionsAreInOrder
definitions_in_order text x stamp is h given = interfaces_in_order (syntax x) stamp is (trees_are_written text x h) given

pub texts_have_names : CheckedTextsHaveNames
texts_have_names text x is h = modules_have_names (syntax x) is (names_are_names text x h) (trees_are_written text x h)

each_can_be_spelled : (count : ℕ) → InterfacesCanBeSpelled (map plain_interface (replicate count iodefs))
unfolding InterfacesCanBeSpelled
each_can_be_spelled zero = tt
each_can_be_spelled (suc n) = (built_in_can_be_spelled, each_can_be_spelled n)

pub texts_can_be_spelled : CheckedTextsCanBeSpelled
texts_can_be_spelled = record {
  modules = λ text x is h given. modules_can_be_spelled (syntax x) is (names_are_names text x h) (of_text_size text x h) given;
  interfaces = λ text x stamp is h small given.
      interfaces_can_be_spelled (syntax x) stamp is small (names_are_names text x h) (trees_are_written text x h) (of_text_size text x h) given;
  with_built_in = λ text x count h.
      modules_can_be_spelled (syntax x) (replicate count iodefs) (names_are_names text x h) (of_text_size text x h) (each_can_be_spelled count);
}
