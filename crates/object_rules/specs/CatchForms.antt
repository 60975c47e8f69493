-- Labels, arms and catch phrases in files: a definition for each row (rule of this project).
use Rattle.std.specs.Prelude.{ℕ, Bool, true, false, ◌==◌, List, length, Option, Some, None, slice_get}
use Rattle.mesa_base.specs.declared.file_fault.Field.TheVariants as field
use Rattle.code_forms.specs.declared.module_code.Arm.{Arm}
use Rattle.code_forms.specs.declared.module_code.CodeKind.{CodeKind}
use Rattle.code_forms.specs.declared.module_code.CodeKind.TheVariants.{Procedure, Signal, Error}
use Rattle.code_forms.specs.declared.module_code.CodeLink.{CodeLink}
use Rattle.code_forms.specs.declared.module_code.CodeSignal.{CodeSignal}
use Rattle.code_forms.specs.declared.module_code.Label.{Label}
use Rattle.code_forms.specs.declared.module_code.Label.TheVariants as l
use Rattle.code_forms.specs.declared.module_code.Phrase.{Phrase}
use Rattle.file_forms.specs.Forms.{Form, number, always, pair, led, ruled, built, variant, list, choose, at_least, between}
use Rattle.object_rules.specs.Numbers.{u16, u32, number_where, is_below}

-- ---- labels: 1 ANY, 2 UNWIND, 3 an own signal, 4 a link of a signal or error, 5 BoundsFault, 6 ZeroDivisor

abbrev pub label_tag : Label → ℕ
label_tag l.Any = 1
label_tag l.Unwind = 2
label_tag (l.Own n) = 3
label_tag (l.Link n) = 4
label_tag l.BoundsFault = 5
label_tag l.ZeroDivisor = 6

abbrev pub of_own : Label → Option ℕ
of_own (l.Own n) = Some n
of_own _ = None

abbrev pub of_link : Label → Option ℕ
of_link (l.Link n) = Some n
of_link _ = None

-- a signal or an error
abbrev pub is_signal_kind : CodeKind → Bool
is_signal_kind Procedure = false
is_signal_kind Signal = true
is_signal_kind Error = true

abbrev pub is_signal_link : Option CodeLink → Bool
is_signal_link None = false
is_signal_link (Some link) = is_signal_kind link.kind

unfoldable pub own_label : List CodeSignal → Form Label
own_label signals = variant l.Own of_own (number_where 4 (is_below (length signals)))

unfoldable pub link_label : List CodeLink → Form Label
link_label links = variant l.Link of_link (number_where 4 (λ n. is_signal_link (slice_get links n)))

-- by the tag
unfoldable pub label_at : List CodeSignal → List CodeLink → ℕ → Form Label
label_at signals links tag =
    choose (tag == 1) (always l.Any) (choose (tag == 2) (always l.Unwind) (choose (tag == 3) (own_label signals)
    (choose (tag == 4) (link_label links) (choose (tag == 5) (always l.BoundsFault) (always l.ZeroDivisor)))))

unfoldable pub label : List CodeSignal → List CodeLink → Form Label
label signals links = led label_tag (ruled (number 1) (between 1 6) field.Kind) (label_at signals links)

-- ---- arms: labels, at least one; slot, words, start, end

abbrev pub arm_of : List Label × (ℕ × (ℕ × (ℕ × ℕ))) → Arm
arm_of p = record { labels = p.0; slot = p.1.0; words = p.1.1.0; start = p.1.1.1.0; end = p.1.1.1.1 }

abbrev pub arm_parts : Arm → List Label × (ℕ × (ℕ × (ℕ × ℕ)))
arm_parts a = (a.labels, (a.slot, (a.words, (a.start, a.end))))

unfoldable pub arm : List CodeSignal → List CodeLink → Form Arm
arm signals links = built arm_of arm_parts
    (pair (list (at_least 1) (λ _. label signals links)) (λ _. pair u16 (λ _. pair u16 (λ _. pair u32 (λ _. u32)))))

-- ---- phrases: from, to, arms, at least one

abbrev pub phrase_of : ℕ × (ℕ × List Arm) → Phrase
phrase_of p = record { from = p.0; to = p.1.0; arms = p.1.1 }

abbrev pub phrase_parts : Phrase → ℕ × (ℕ × List Arm)
phrase_parts p = (p.from, (p.to, p.arms))

unfoldable pub phrase : List CodeSignal → List CodeLink → Form Phrase
phrase signals links = built phrase_of phrase_parts (pair u32 (λ _. pair u32 (λ _. list (at_least 1) (λ _. arm signals links))))
