-- The object of a text, and what an instance of its module adds to an image, are short.
use Rattle.std.proofs.Common.{◌≡◌, ℕ, ◌+◌, ◌≤◌, List, length, Some, codes, refl, sym, ◌∙◌, ap, subst, arith, length-append}
use Rattle.mesa_base.specs.Outside.{Files}
use Rattle.mesa_types.specs.Typed.{Module}
use Rattle.syntax_trees.specs.PlainSyntax.{syntax}
use Rattle.syntax_trees.specs.declared.syntax.Module as written
use Rattle.file_forms.specs.Files.{versioned}
use Rattle.object_files.specs.declared.image.Image.{Image}
use Rattle.object_files.specs.declared.object.Object.{Object}
use Rattle.object_rules.specs.ImageForms.{parts_of_image, image_form}
use Rattle.object_rules.specs.ModuleForms.{module_form}
use Rattle.object_rules.specs.Parts.{parts_of}
use Rattle.object_writers.specs.ObjectBytes.{object_file, image_file}
use Rattle.bound_images.specs.Programs.{shape_of}
use Rattle.command_rules.specs.linked_programs.specs.Objects.{IsObjectOf}
use Rattle.command_rules.specs.checked_texts.specs.Laws.{CanBeKept}
use Rattle.check_rules.specs.CheckedModule.{checked}
use Rattle.command_rules.specs.checked_texts.specs.Texts.{Begins}
use Rattle.command_rules.specs.checked_texts.specs.declared.purpose.Purpose.TheVariants.{Program}
use Rattle.file_sizes.specs.Sizes.{object_size, image_size}
use Rattle.object_sizes.specs.Laws.{IsChecked, CanBeHeld, IsShortObjectOf}
use Rattle.object_sizes.specs.TextSizes.{text_size, shape_cost}
use Rattle.command_rules.specs.Forms.{module_file}
use Rattle.command_sizes.specs.Grounds.{OfSizes, OfTexts}
use Rattle.command_sizes.specs.Sum.{HasSize, size_with}
use Rattle.command_sizes.proofs.Reading.{IsMade}

-- ---- files

pub object_long : OfSizes → (o : Object) → length (object_file o) ≡ object_size o
object_long law o = length-append (codes "MOB") ((versioned module_form).spell (2, parts_of o)) ∙ law.objects o

pub image_long : OfSizes → (i : Image) → length (image_file i) ≡ image_size i
image_long law i = length-append (codes "MIM") ((versioned image_form).spell (2, parts_of_image i)) ∙ law.images i

-- ---- texts

pub some_is : (a b : List ℕ) → Some a ≡ Some b → a ≡ b
some_is a b e = cc

-- what is so of a component of this size
pub record IsShort (m : Module) (size : ℕ) : Type 0 where
  pub can : CanBeKept m
  pub objects : (o : Object) → IsObjectOf m o → object_size o ≤ size + 1000
  pub instances : shape_cost (shape_of m) ≤ size + 1000

module _ (texts : OfTexts) where
  pub one_tree : (a b : List ℕ) (x y : written.Module) → a ≡ b → Begins a Program x → Begins b Program y → x ≡ y
  one_tree a b x y e f g = texts.begin.one_tree b Program x y (subst (λ t. Begins t Program x) e f) g

  -- what a module was made of has the size that is told of its file
  same_size : (files : Files) (base : List ℕ) (m : Module) (size : ℕ) (x : IsMade files (module_file base) m) → HasSize files base size
      → text_size x.text x.tree.directory x.interfaces ≡ size
  unfolding text_size
  same_size files base m size x h =
      let text : h.text ≡ x.text = some_is h.text x.text (sym h.held ∙ x.held) in
      let tree : h.tree ≡ x.tree = one_tree h.text x.text h.tree x.tree text h.begins x.begins in
      let its : size ≡ size_with files x.text x.tree = h.is ∙ ap (λ t. size_with files t h.tree) text ∙ ap (size_with files x.text) tree in
      omega (arith, its, x.read.long)

  module _ (sizes : OfSizes) where
    pub short : (files : Files) (base : List ℕ) (m : Module) (size : ℕ) → IsMade files (module_file base) m → HasSize files base size → IsShort m size
    short files base m size x h = record {
      can = can;
      objects = λ o its.
          let object : IsShortObjectOf m o = record { shape = its.object.shape; code = its.object.code; short = its.chosen.stands.small } in
          let less = sizes.short_objects x.text x.tree x.interfaces m o is_checked held object in
          omega (arith, less, told);
      instances = let less = sizes.short_instances x.text x.tree x.interfaces m is_checked in omega (arith, less, told);
    }
      where
        told : text_size x.text x.tree.directory x.interfaces ≡ size
        told = same_size files base m size x h

        can : CanBeKept m
        can = texts.kept x.text x.interfaces m x.read.spelled x.reads

        held : CanBeHeld m
        held = record { sound = can.sound; shape = can.shape; named = can.named }

        same : x.reads.tree ≡ x.tree
        same = one_tree x.text x.text x.reads.tree x.tree refl x.reads.begins x.begins

        is_checked : IsChecked x.text x.tree x.interfaces m
        is_checked = record {
          tokens = x.begins.is_tree.tokens;
          has_tokens = x.begins.is_tree.are_its_own;
          parsed = x.begins.is_tree.parsed;
          given = x.read.given;
          its = ap (λ (t : written.Module). checked (syntax t) x.interfaces) (sym same) ∙ x.reads.is_checked;
        }
