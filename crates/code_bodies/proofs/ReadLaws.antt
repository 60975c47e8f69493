-- The path to the part of a variable that is read fits where the whole does: it has no code where there is no index on it.
use Rattle.std.proofs.Common.{◌≡◌, refl, ap, ℕ, [], ◌∷◌, Bool, true, false, arith}
use Rattle.mesa_types.specs.Typed as t
use Rattle.mesa_types.specs.declared.typed_parts.Home.{Home}
use Rattle.code_rules.specs.Reading.{Coded}
use Rattle.code_rules.specs.Slots.{load_within}
use Rattle.code_blocks.specs.Blocks.{Both, Does, nothing}
use Rattle.code_blocks.specs.Translation as spec
use Rattle.code_trees.specs.Excess.{excess, excess_in}
use Rattle.code_bodies.specs.Reads.{read_of}

no_path : (P : Coded) (z : ℕ) (s : t.Suffixes) → spec.has_index s ≡ false → spec.path P z s ≡ nothing
no_path P z t.NoSuffix h = refl
no_path P z (t.Field n offset s) h = no_path P z s h
no_path P z (t.Index r first n words e s) h = cc

pub path_fits_by : (P : Coded) (z : ℕ) (h : Home) (s : t.Suffixes) (words : ℕ) (b : Bool) → spec.has_index s ≡ b
    → excess (read_of P h s words (spec.path P z s)) ≡ 0 → excess (spec.path P z s) ≡ 0
unfolding excess excess_in
path_fits_by P z h s words true is e = let same : excess (spec.at_element s (Both (spec.path P z s) (Does (load_within P h words ∷ [])))) ≡ 0 = rw is
    at e in omega arith
path_fits_by P z h s words false is e = ap excess (no_path P z s is)

pub path_fits : (P : Coded) (z : ℕ) (h : Home) (s : t.Suffixes) (words : ℕ) → excess (read_of P h s words (spec.path P z s)) ≡ 0
    → excess (spec.path P z s) ≡ 0
path_fits P z h s words e = path_fits_by P z h s words (spec.has_index s) refl e
