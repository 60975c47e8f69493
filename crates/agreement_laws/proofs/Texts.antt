-- All strings of the image are of bytes, and their lengths are words.
use Rattle.std.proofs.Common.{◌≡◌, ℕ, zero, suc, List, [], Option, Some, None, refl, subst, arith}
use Rattle.std.specs.Prelude.{All, slice_get, unwrap_or, option_map, option_and_then}
use Rattle.std.proofs.lemmas.Option.{slice_get_within, get_or_from_slice_get}
use Rattle.code_forms.specs.declared.module_code.ModuleCode.{ModuleCode}
use Rattle.object_files.specs.declared.object.Object.{Object}
use Rattle.machine_rules.specs.LookUps.{code_in, literal_of, text_of}
use Rattle.agreement_rules.specs.Stands.{TextFits}
use Rattle.agreement_laws.specs.World.{World, Ready, texts_of}

empty_fits : TextFits []
empty_fits = record { bytes = λ n d lt. absurd (omega (arith, lt)); short = omega arith }

fits_in : (texts : List (List ℕ)) → All TextFits texts → (k : ℕ) (o : Option (List ℕ)) → slice_get texts k ≡ o → TextFits (unwrap_or o [])
fits_in texts all k None e = empty_fits
fits_in texts all k (Some t) e =
    subst TextFits (get_or_from_slice_get texts k t [] e) (all k [] (slice_get_within texts k t e))

fits_of : (W : World) → Ready W → (n k : ℕ) (o : Option Object) → slice_get W.image.modules n ≡ o
    → TextFits (unwrap_or (option_and_then (λ (m : ModuleCode). slice_get m.strings k) (option_map (λ (x : Object). x.code) o)) [])
fits_of W ready n k None e = empty_fits
fits_of W ready n k (Some o) e = fits_in o.code.strings (ready.stands.texts n o e) k (slice_get o.code.strings k) refl

pub text_fits : (W : World) → Ready W → (m k : ℕ) → TextFits (texts_of W m k)
unfolding text_of literal_of code_in
text_fits W ready zero k = empty_fits
text_fits W ready (suc n) zero = empty_fits
text_fits W ready (suc n) (suc k) = fits_of W ready n k (slice_get W.image.modules n) refl
