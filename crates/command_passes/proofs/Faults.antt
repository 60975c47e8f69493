-- A fault of a text or of a file as what ends the call.
use Rattle.std.proofs.Common.{◌≡◌, ◌≢◌, ℕ, List, refl, subst, sym, ap, ◌∙◌}
use Rattle.mesa_base.specs.declared.file_fault.FileFault.{FileFault}
use Rattle.mesa_base.specs.declared.file_fault.FileFault.TheVariants as forms
use Rattle.object_rules.specs.ObjectFiles.{file_fault}
use Rattle.object_rules.specs.declared.object_fault.ObjectFault.{ObjectFault}
use Rattle.object_rules.specs.declared.object_fault.ObjectFault.TheVariants as files
use Rattle.command_rules.specs.checked_texts.specs.declared.text_fault.TextFault.{TextFault}
use Rattle.command_rules.specs.checked_texts.specs.declared.text_fault.TextFault.TheVariants as texts
use Rattle.command_rules.specs.Case.{Case, Refused, Memory}
use Rattle.command_rules.specs.declared.trouble.Trouble.TheVariants.{Text, File}
use Rattle.command_rules.specs.Passes.{Outcome, Stops}
use Rattle.command_passes.specs.Stops.{text_case, file_case}

-- where a text has such a fault it is refused for it, want of memory aside
told : {A : Type 0} (R : Outcome Case A → Type 0) (IsFault : TextFault → Type 0) (file : List ℕ) (why : TextFault)
    → ((fault : TextFault) → IsFault fault → R (Stops (Refused file (Text fault)))) → (why ≢ texts.Memory → IsFault why)
    → text_case file why ≢ Memory → R (Stops (text_case file why))
told R IsFault file (texts.Lexical fault) refuses is other = refuses (texts.Lexical fault) (is (λ no. cc))
told R IsFault file (texts.Syntactic fault) refuses is other = refuses (texts.Syntactic fault) (is (λ no. cc))
told R IsFault file (texts.Wrong why place) refuses is other = refuses (texts.Wrong why place) (is (λ no. cc))
told R IsFault file texts.Memory refuses is other = absurd (other refl)

pub fault_told : {A : Type 0} (R : Outcome Case A → Type 0) (IsFault : TextFault → Type 0) (file : List ℕ) (why : TextFault) (case : Case)
    → ((fault : TextFault) → IsFault fault → R (Stops (Refused file (Text fault)))) → (why ≢ texts.Memory → IsFault why)
    → case ≡ text_case file why → case ≢ Memory → R (Stops case)
fault_told R IsFault file why case refuses is same other =
    subst (λ c. R (Stops c)) (sym same) (told R IsFault file why refuses is (λ no. other (same ∙ no)))

-- the same of bytes that are no file of their kind, or hold code that is not valid
no_file : {A : Type 0} (R : Outcome Case A → Type 0) (IsFault : ObjectFault → Type 0) (file : List ℕ) (why : ObjectFault)
    → ((fault : ObjectFault) → IsFault fault → R (Stops (Refused file (File fault)))) → (why ≢ files.Memory → IsFault why)
    → file_case file why ≢ Memory → R (Stops (file_case file why))
no_file R IsFault file files.BadMagic refuses is other = refuses files.BadMagic (is (λ no. cc))
no_file R IsFault file files.TooLong refuses is other = refuses files.TooLong (is (λ no. cc))
no_file R IsFault file (files.Cut at) refuses is other = refuses (files.Cut at) (is (λ no. cc))
no_file R IsFault file (files.BadField at field) refuses is other = refuses (files.BadField at field) (is (λ no. cc))
no_file R IsFault file (files.TrailingBytes at) refuses is other = refuses (files.TrailingBytes at) (is (λ no. cc))
no_file R IsFault file (files.Code number procedure why) refuses is other = refuses (files.Code number procedure why) (is (λ no. cc))
no_file R IsFault file files.Memory refuses is other = absurd (other refl)

pub file_fault_told : {A : Type 0} (R : Outcome Case A → Type 0) (IsFault : ObjectFault → Type 0) (file : List ℕ) (why : ObjectFault) (case : Case)
    → ((fault : ObjectFault) → IsFault fault → R (Stops (Refused file (File fault)))) → (why ≢ files.Memory → IsFault why)
    → case ≡ file_case file why → case ≢ Memory → R (Stops case)
file_fault_told R IsFault file why case refuses is same other =
    subst (λ c. R (Stops c)) (sym same) (no_file R IsFault file why refuses is (λ no. other (same ∙ no)))

-- a fault of a file's form
record IsOfForm (IsFault : FileFault → Type 0) (fault : ObjectFault) : Type 0 where
  form : FileFault
  same : fault ≡ file_fault form
  found : IsFault form

pub form_fault_told : {A : Type 0} (R : Outcome Case A → Type 0) (IsFault : FileFault → Type 0) (file : List ℕ) (form : FileFault) (why : ObjectFault)
    (case : Case) → ((fault : FileFault) → IsFault fault → R (Stops (Refused file (File (file_fault fault))))) → (form ≢ forms.Memory → IsFault form)
    → why ≡ file_fault form → case ≡ file_case file why → case ≢ Memory → R (Stops case)
form_fault_told R IsFault file form why case refuses is of_form same other =
    file_fault_told R (IsOfForm IsFault) file why case
    (λ fault h. subst (λ f. R (Stops (Refused file (File f)))) (sym h.same) (refuses h.form h.found))
    (λ not. record { form = form; same = of_form; found = is (λ no. not (of_form ∙ ap file_fault no)) }) same other
