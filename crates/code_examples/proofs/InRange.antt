-- The ranges that the code of each module keeps, decided.
use Rattle.std.proofs.Common.{◌≡◌, ℕ, ◌+◌, ◌<◌, ◌≤◌, ◌^◌, Bool, true, false, List, [], ◌∷◌, length, Option, Some, None, All, arith}
use Rattle.std.specs.Prelude.{slice_get}
use Rattle.std.specs.List.{AllAdjacentBelow}
use Rattle.mesa_base.specs.declared.limits.TheConstants.{GLOBAL_WORDS, DISTINCT_STRINGS, STRING_BYTES}
use Rattle.code_forms.specs.declared.limits.TheConstants.{FRAME_WORDS, STACK_WORDS}
use Rattle.code_forms.specs.declared.module_code.Arm.{Arm}
use Rattle.code_forms.specs.declared.module_code.CodeEntry.{CodeEntry}
use Rattle.code_forms.specs.declared.module_code.CodeKind.{CodeKind}
use Rattle.code_forms.specs.declared.module_code.CodeKind.TheVariants.{Procedure, Signal, Error}
use Rattle.code_forms.specs.declared.module_code.CodeLink.{CodeLink}
use Rattle.code_forms.specs.declared.module_code.CodeProcedure.{CodeProcedure}
use Rattle.code_forms.specs.declared.module_code.CodeSignal.{CodeSignal}
use Rattle.code_forms.specs.declared.module_code.Label.{Label}
use Rattle.code_forms.specs.declared.module_code.Label.TheVariants as l
use Rattle.code_forms.specs.declared.module_code.Phrase.{Phrase}
use Rattle.code_forms.specs.Instructions.{bytes_of}
use Rattle.code_forms.specs.Ranges.{AreFew, IsSignalWith, SignalInRange, IsLinkWith, LinkInRange, IsSignalLink, LabelInRange, ArmInRange, PhraseInRange, InOrder, ProcedureInRange, IsBody, KeepsRanges}
use Rattle.code_examples.proofs.Decisions.{dec_by, dec_and, dec_le, dec_lt, dec_eq, dec_all, dec_next}
use Rattle.code_examples.proofs.Judging.{Parts, no_way}

abbrev dec_signal_with : (kind : CodeKind) (results : ℕ) → Dec (IsSignalWith kind results)
dec_signal_with Procedure results = no no_way
dec_signal_with Signal results = yes tt
dec_signal_with Error results = dec_eq results 0

abbrev dec_link_with : (kind : CodeKind) (results : ℕ) → Dec (IsLinkWith kind results)
dec_link_with Procedure results = yes tt
dec_link_with Signal results = yes tt
dec_link_with Error results = dec_eq results 0

abbrev dec_signal_link : (o : Option CodeLink) → Dec (IsSignalLink o)
dec_signal_link None = no no_way
dec_signal_link (Some link) = dec_signal_with link.kind link.results

abbrev dec_label : (signals : List CodeSignal) (links : List CodeLink) (label : Label) → Dec (LabelInRange signals links label)
dec_label signals links l.Any = yes tt
dec_label signals links l.Unwind = yes tt
dec_label signals links (l.Own k) = dec_lt k (length signals)
dec_label signals links (l.Link k) = dec_signal_link (slice_get links k)
dec_label signals links l.BoundsFault = yes tt
dec_label signals links l.ZeroDivisor = yes tt

abbrev dec_few : {X : Type 0} (xs : List X) → Dec (AreFew xs)
dec_few xs = dec_lt (length xs) (2 ^ 32)

pub arm_by : (signals : List CodeSignal) (links : List CodeLink) (a : Arm)
    → (0 < length a.labels) × (AreFew a.labels × All (LabelInRange signals links) a.labels) → ArmInRange signals links a
arm_by signals links a h = record { labelled = h.0; few = h.1.0; labels = h.1.1 }

pub arm_parts : (signals : List CodeSignal) (links : List CodeLink) (a : Arm)
    → ArmInRange signals links a → (0 < length a.labels) × (AreFew a.labels × All (LabelInRange signals links) a.labels)
arm_parts signals links a h = (h.labelled, (h.few, h.labels))

abbrev dec_arm : (signals : List CodeSignal) (links : List CodeLink) (a : Arm) → Dec (ArmInRange signals links a)
dec_arm signals links a = dec_by (arm_by signals links a) (arm_parts signals links a)
    (dec_and (dec_lt 0 (length a.labels)) (dec_and (dec_few a.labels) (dec_all (LabelInRange signals links) (dec_label signals links) a.labels)))

pub phrase_by : (signals : List CodeSignal) (links : List CodeLink) (p : Phrase)
    → (0 < length p.arms) × (AreFew p.arms × All (ArmInRange signals links) p.arms) → PhraseInRange signals links p
phrase_by signals links p h = record { armed = h.0; few = h.1.0; arms = h.1.1 }

pub phrase_parts : (signals : List CodeSignal) (links : List CodeLink) (p : Phrase)
    → PhraseInRange signals links p → (0 < length p.arms) × (AreFew p.arms × All (ArmInRange signals links) p.arms)
phrase_parts signals links p h = (h.armed, (h.few, h.arms))

abbrev dec_phrase : (signals : List CodeSignal) (links : List CodeLink) (p : Phrase) → Dec (PhraseInRange signals links p)
dec_phrase signals links p = dec_by (phrase_by signals links p) (phrase_parts signals links p)
    (dec_and (dec_lt 0 (length p.arms)) (dec_and (dec_few p.arms) (dec_all (ArmInRange signals links) (dec_arm signals links) p.arms)))

-- instructions in order, the first of which is this one
abbrev Ordered : CodeEntry → List CodeEntry → Type 0
Ordered e code = (e.at ≡ 0) × (AllAdjacentBelow (λ a b. a.at + bytes_of a.instruction ≡ b.at) (e ∷ code) (length (e ∷ code))
    × All (λ a. a.at + bytes_of a.instruction < 2 ^ 32) (e ∷ code))

pub order_by : (e : CodeEntry) (code : List CodeEntry) → Ordered e code → InOrder (e ∷ code)
order_by e code h = record { some = omega arith; first = λ d. h.0; joined = h.1.0; short = h.1.1 }

pub order_parts : (e : CodeEntry) (code : List CodeEntry) → InOrder (e ∷ code) → Ordered e code
order_parts e code o = (o.first e, (o.joined, o.short))

pub no_order : InOrder [] → ⊥
no_order o = let s = o.some in omega (arith, s)

abbrev dec_order : (code : List CodeEntry) → Dec (InOrder code)
dec_order [] = no no_order
dec_order (e ∷ code) = dec_by (order_by e code) (order_parts e code) (dec_and (dec_eq e.at 0) (dec_and
    (dec_next (λ (a b : CodeEntry). a.at + bytes_of a.instruction ≡ b.at) (λ a b. dec_eq (a.at + bytes_of a.instruction) b.at) (e ∷ code))
    (dec_all (λ (a : CodeEntry). a.at + bytes_of a.instruction < 2 ^ 32) (λ a. dec_lt (a.at + bytes_of a.instruction) (2 ^ 32)) (e ∷ code))))

abbrev Ranged : List CodeSignal → List CodeLink → CodeProcedure → Type 0
Ranged signals links p = ((p.frame ≤ FRAME_WORDS) × ((p.args + p.results ≤ p.frame) × (p.depth ≤ STACK_WORDS)))
    × (InOrder p.code × (AreFew p.phrases × All (PhraseInRange signals links) p.phrases))

pub procedure_by : (signals : List CodeSignal) (links : List CodeLink) (p : CodeProcedure) → Ranged signals links p → ProcedureInRange signals links p
procedure_by signals links p h = record { frame = h.0.0; words = h.0.1.0; depth = h.0.1.1; code = h.1.0; few = h.1.1.0; phrases = h.1.1.1 }

pub procedure_parts : (signals : List CodeSignal) (links : List CodeLink) (p : CodeProcedure) → ProcedureInRange signals links p → Ranged signals links p
procedure_parts signals links p h = ((h.frame, (h.words, h.depth)), (h.code, (h.few, h.phrases)))

abbrev dec_procedure : (signals : List CodeSignal) (links : List CodeLink) (p : CodeProcedure) → Dec (ProcedureInRange signals links p)
dec_procedure signals links p = dec_by (procedure_by signals links p) (procedure_parts signals links p) (dec_and
    (dec_and (dec_le p.frame FRAME_WORDS) (dec_and (dec_le (p.args + p.results) p.frame) (dec_le p.depth STACK_WORDS)))
    (dec_and (dec_order p.code) (dec_and (dec_few p.phrases) (dec_all (PhraseInRange signals links) (dec_phrase signals links) p.phrases))))

abbrev dec_body : (o : Option CodeProcedure) → Dec (IsBody o)
dec_body None = no no_way
dec_body (Some p) = dec_and (dec_eq p.args 0) (dec_eq p.results 0)

abbrev pub Keeps : Parts → Type 0
Keeps m = KeepsRanges m.globals m.signals m.strings m.links m.procedures

abbrev Kept : Parts → Type 0
Kept m = (((m.globals ≤ GLOBAL_WORDS) × (AreFew m.signals × All SignalInRange m.signals)) × ((length m.strings ≤ DISTINCT_STRINGS) × All (λ s. length s ≤ STRING_BYTES) m.strings))
    × ((All LinkInRange m.links × IsBody (slice_get m.procedures 0))
    × (AreFew m.procedures × All (ProcedureInRange m.signals m.links) m.procedures))

pub keeps_by : (m : Parts) → Kept m → Keeps m
keeps_by m h = record {
  few_globals = h.0.0.0;
  few_signals = h.0.0.1.0;
  each_signal = h.0.0.1.1;
  few_strings = h.0.1.0;
  each_string = h.0.1.1;
  each_link = h.1.0.0;
  body = h.1.0.1;
  few_procedures = h.1.1.0;
  each_procedure = h.1.1.1;
}

pub keeps_parts : (m : Parts) → Keeps m → Kept m
keeps_parts m k = (((k.few_globals, (k.few_signals, k.each_signal)), (k.few_strings, k.each_string)), ((k.each_link, k.body), (k.few_procedures, k.each_procedure)))

abbrev dec_keeps : (m : Parts) → Dec (Keeps m)
dec_keeps m = dec_by (keeps_by m) (keeps_parts m) (dec_and
    (dec_and (dec_and (dec_le m.globals GLOBAL_WORDS) (dec_and (dec_few m.signals) (dec_all SignalInRange (λ s. dec_signal_with s.kind s.results) m.signals)))
    (dec_and (dec_le (length m.strings) DISTINCT_STRINGS) (dec_all (λ (s : List ℕ). length s ≤ STRING_BYTES) (λ s. dec_le (length s) STRING_BYTES) m.strings)))
    (dec_and (dec_and (dec_all LinkInRange (λ link. dec_link_with link.kind link.results) m.links) (dec_body (slice_get m.procedures 0)))
    (dec_and (dec_few m.procedures) (dec_all (ProcedureInRange m.signals m.links) (dec_procedure m.signals m.links) m.procedures))))

abbrev said : {A : Type 0} → Dec A → Bool
said (yes a) = true
said (no h) = false

-- whether a file can hold the code
abbrev pub keeps : Parts → Bool
keeps m = said (dec_keeps m)

true_of : (m : Parts) (d : Dec (Keeps m)) → said d ≡ true → Keeps m
true_of m (yes k) e = k
true_of m (no h) e = absurd (let f : false ≡ true = e in cc)

false_of : (m : Parts) (d : Dec (Keeps m)) → said d ≡ false → Keeps m → ⊥
false_of m (yes k) e = absurd (let f : true ≡ false = e in cc)
false_of m (no h) e = h

pub kept_where_true : (m : Parts) → keeps m ≡ true → Keeps m
kept_where_true m e = true_of m (dec_keeps m) e

pub not_kept_where_false : (m : Parts) → keeps m ≡ false → Keeps m → ⊥
not_kept_where_false m e = false_of m (dec_keeps m) e
