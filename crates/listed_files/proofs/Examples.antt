-- Listings of whole objects and images, by computing: the object N, whose body returns, and the image that starts it.
use Rattle.std.proofs.Common.{◌≡◌, ℕ, List, [], ◌∷◌, ◌++◌, flat_map, refl}
use Rattle.std.specs.Fmt.{digits}
use Rattle.std.specs.Prelude.{codes}
use Rattle.code_forms.specs.Ranges.{KeepsRanges}
use Rattle.code_forms.specs.declared.instruction.Instruction.TheVariants.{Return}
use Rattle.code_forms.specs.declared.module_code.CodeProcedure.{CodeProcedure}
use Rattle.listing_rules.specs.Code.{operand_texts}
use Rattle.listing_rules.specs.Images.{image_listing, instances_from}
use Rattle.listing_rules.specs.Lines.{between, line, offset_text}
use Rattle.listing_rules.specs.Objects.{object_listing}
use Rattle.object_files.specs.declared.image.Image.{Image}
use Rattle.object_files.specs.declared.object.Object.{Object}

-- lines, each with its line feed
lines : List (List ℕ) → List ℕ
lines texts = flat_map (λ text. text ++ codes "\n") texts

body : CodeProcedure
body = record { name = codes "N"; args = 0; results = 0; frame = 0; depth = 0; code = record { at = 0; depth = 0; instruction = Return } ∷ []; phrases = [] }

-- counts and sizes are in range, whatever tells it
module _ (ranges : KeepsRanges 0 [] [] [] (body ∷ [])) where
  returns : Object
  returns = record {
    shape = record { name = codes "N"; imports = []; exports = [] };
    code = record { name = codes "N"; global_words = 0; signals = []; strings = []; links = []; procedures = body ∷ []; ranges = ∣ ranges ∣₁ };
  }

  started : Image
  started = record {
    modules = returns ∷ [];
    wanted = [];
    instances = record { path = codes "N" ∷ []; «module» = 0 } ∷ [];
    links = [] ∷ [];
    offered = [];
    control = 0 ∷ [];
  }

  the_object : object_listing returns ≡ lines (codes "OBJECT N" ∷ codes "GLOBALS 0" ∷ codes "CODE N 0 0 0 0" ∷ codes "00000000 Return" ∷ [])
  unfolding digits body returns lines between line offset_text operand_texts
  the_object = refl

  the_image : image_listing started ≡ lines (
      codes "IMAGE" ∷ codes "OBJECT N" ∷ codes "GLOBALS 0" ∷ codes "CODE N 0 0 0 0" ∷ codes "00000000 Return" ∷ codes "INSTANCE N 0" ∷ codes "CONTROL N" ∷ [])
  unfolding digits body returns started lines between line offset_text operand_texts instances_from
  the_image = refl
