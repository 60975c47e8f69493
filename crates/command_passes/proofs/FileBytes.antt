-- The bytes of a file that were read up to a byte past the limit: what is said of them is so of the whole file.
use Rattle.std.proofs.Common.{◌≡◌, ℕ, ◌≤◌, List, length, take, min, sym, ◌∙◌, ap, subst, arith}
use Rattle.std.proofs.lemmas.List.{length-take, take_min}
use Rattle.std.proofs.Math.Seq.{take-length}
use Rattle.mesa_base.specs.declared.file_fault.FileFault.{FileFault}
use Rattle.file_forms.specs.Files.{FirstFault, too_long, bad_magic, ends, field, trailing}
use Rattle.file_forms.specs.Forms.{Form}

pub all_read : (part whole : List ℕ) → part ≡ take 536870913 whole → length part ≤ 536870912 → part ≡ whole
all_read part whole e few =
    let short : length whole ≤ 536870912 = omega (arith, ap length e ∙ length-take 536870913 whole) in
    let all : min 536870913 (length whole) ≡ length whole = omega arith in
    e ∙ sym (take_min 536870913 whole) ∙ ap (λ n. take n whole) all ∙ take-length whole

pub fault_whole : {A : Type 0} (letters : List ℕ) (f : ℕ → Form A) (part whole : List ℕ) (why : FileFault) → part ≡ take 536870913 whole
    → FirstFault letters f part why → FirstFault letters f whole why
fault_whole letters f part whole _ e (too_long long) = too_long (omega (arith, long, ap length e ∙ length-take 536870913 whole))
fault_whole letters f part whole why e (bad_magic few not) =
    subst (λ bytes. FirstFault letters f bytes why) (all_read part whole e few) (bad_magic few not)
fault_whole letters f part whole why e (ends few agrees) =
    subst (λ bytes. FirstFault letters f bytes why) (all_read part whole e (omega (arith, few))) (ends few agrees)
fault_whole letters f part whole why e (field stopped few begins breaks) =
    subst (λ bytes. FirstFault letters f bytes why) (all_read part whole e few) (field stopped few begins breaks)
fault_whole letters f part whole why e (trailing version a rest few begins spells more) =
    subst (λ bytes. FirstFault letters f bytes why) (all_read part whole e few) (trailing version a rest few begins spells more)
