-- Code has one first fault at most.
use Rattle.std.proofs.Common.{◌≡◌, ℕ, ◌<◌, ◌≤◌, List, length, ⊎_elim, refl, sym, ap, ap₂, subst, ◌∙◌, arith}
use Rattle.std.specs.Prelude.{slice_get, Some}
use Rattle.std.proofs.lemmas.Bool.{cases_lt}
use Rattle.std.proofs.lemmas.Option.{slice_get_within, same_Some}
use Rattle.code_forms.specs.declared.bad_code.BadCode.{BadCode}
use Rattle.code_forms.specs.declared.bad_code.CodeFault.{CodeFault}
use Rattle.code_forms.specs.declared.bad_code.CodeFault.TheVariants.{CatchRange}
use Rattle.code_forms.specs.declared.module_code.CodeLink.{CodeLink}
use Rattle.code_forms.specs.declared.module_code.CodeProcedure.{CodeProcedure}
use Rattle.code_forms.specs.declared.module_code.CodeSignal.{CodeSignal}
use Rattle.code_forms.specs.declared.module_code.Phrase.{Phrase}
use Rattle.code_forms.specs.Depths.{Settled, StackIsRight}
use Rattle.code_forms.specs.Exact.{OneFirstFault}
use Rattle.code_forms.specs.Routine.{Routine, Spot, routine_with}
use Rattle.code_forms.specs.Valid.{FirstBadPhrase, at_phrase, at_last, FaultAt, bad_jump, stack_differs, bad_operand, FirstFault, in_phrases, in_code, IsFirstFaultOf}
use Rattle.code_forms.proofs.Depths.{settled_once}
use Rattle.code_forms.proofs.NoFault.{no_bad_phrase, no_fault_at, no_fault}

-- two numbers of which neither is below the other are one
neither_below : (i j : ℕ) → (i < j → ⊥) → (j < i → ⊥) → i ≡ j
neither_below i j f g =
    ⊎_elim (λ (l : i < j). absurd (f l)) (λ (m : j ≤ i). ⊎_elim (λ (l : j < i). absurd (g l)) (λ (n : i ≤ j). omega arith) (cases_lt j i)) (cases_lt i j)

same_there : {X : Type 0} (xs : List X) (i j : ℕ) (x y : X) → i ≡ j → slice_get xs i ≡ Some x → slice_get xs j ≡ Some y → x ≡ y
same_there xs i j x y e is at = same_Some x y (sym is ∙ (ap (λ n. slice_get xs n) e ∙ at))

bad_phrase_once : (code : List Spot) (phrases : List Phrase) (a b : ℕ) → FirstBadPhrase code phrases a → FirstBadPhrase code phrases b → a ≡ b
bad_phrase_once code phrases _ _ (at_phrase n p is before bad) (at_phrase k q at early wrong) =
    ap (λ (x : Phrase). x.from) (same_there phrases n k p q (neither_below n k (λ l. bad (early n p l is)) (λ l. wrong (before k q l at))) is at)
bad_phrase_once code phrases _ _ (at_phrase n p is before bad) (at_last k q last at right ends) =
    absurd (bad (right n p (let l = slice_get_within phrases n p is in omega (arith, l, last)) is))
bad_phrase_once code phrases _ _ (at_last n p last is right ends) (at_phrase k q at early wrong) =
    absurd (wrong (right k q (let l = slice_get_within phrases k q at in omega (arith, l, last)) at))
bad_phrase_once code phrases _ _ (at_last n p last is right ends) (at_last k q final at all ended) =
    ap (λ (x : Phrase). x.from) (same_there phrases n k p q (omega (arith, last, final)) is at)

same_stack : (r : Routine) (i : ℕ) (spot : Spot) (d e : ℕ) → Settled r i d → Settled r i e → StackIsRight r i spot d → StackIsRight r i spot e
same_stack r i spot d e s t h = subst (λ n. StackIsRight r i spot n) (settled_once r i d e s t) h

fault_at_once : (r : Routine) (i : ℕ) (spot : Spot) (a b : CodeFault) → FaultAt r i spot a → FaultAt r i spot b → a ≡ b
fault_at_once r i spot _ _ (bad_jump h) (bad_jump g) = refl
fault_at_once r i spot _ _ (bad_jump h) (stack_differs e jump t g) = absurd (h jump)
fault_at_once r i spot _ _ (bad_jump h) (bad_operand e jump t stack g) = absurd (h jump)
fault_at_once r i spot _ _ (stack_differs d jump s h) (bad_jump g) = absurd (g jump)
fault_at_once r i spot _ _ (stack_differs d jump s h) (stack_differs e jump' t g) = refl
fault_at_once r i spot _ _ (stack_differs d jump s h) (bad_operand e jump' t stack g) = absurd (h (same_stack r i spot e d t s stack))
fault_at_once r i spot _ _ (bad_operand d jump s stack h) (bad_jump g) = absurd (g jump)
fault_at_once r i spot _ _ (bad_operand d jump s stack h) (stack_differs e jump' t g) = absurd (g (same_stack r i spot d e s t stack))
fault_at_once r i spot _ _ (bad_operand d jump s stack h) (bad_operand e jump' t stack' g) = refl

first_fault_once : (r : Routine) (a b : CodeFault) → FirstFault r a → FirstFault r b → a ≡ b
first_fault_once r _ _ (in_phrases x bad) (in_phrases y wrong) = ap CatchRange (bad_phrase_once r.code r.phrases x y bad wrong)
first_fault_once r _ _ (in_phrases x bad) (in_code j spot fault fill is right wrong) = absurd (no_bad_phrase r x fill bad)
first_fault_once r _ _ (in_code i spot fault fill is right bad) (in_phrases y wrong) = absurd (no_bad_phrase r y fill wrong)
first_fault_once r _ _ (in_code i s a fill is right bad) (in_code j t b fill' at right' wrong) =
    let e : i ≡ j = neither_below i j (λ l. no_fault_at r i s a (right' i s l is) bad) (λ l. no_fault_at r j t b (right j t l at) wrong) in
    let f : s ≡ t = same_there r.code i j s t e is at in
    fault_at_once r j t a b (subst (λ n. FaultAt r n t a) e (subst (λ x. FaultAt r i x a) f bad)) wrong

abbrev with_number : ℕ → CodeFault → BadCode
with_number procedure fault = record { procedure = procedure; fault = fault }

fault_of_module_once : (globals strings : ℕ) (signals : List CodeSignal) (links : List CodeLink) (procedures : List CodeProcedure) (a b : BadCode)
    → IsFirstFaultOf globals strings signals links procedures a → IsFirstFaultOf globals strings signals links procedures b → a ≡ b
fault_of_module_once globals strings signals links procedures a b f g =
    let e : a.procedure ≡ b.procedure = neither_below a.procedure b.procedure
    (λ l. no_fault _ a.fault (g.before a.procedure f.procedure l f.is) f.fault) (λ l. no_fault _ b.fault (f.before b.procedure g.procedure l g.is) g.fault) in
    let p : f.procedure ≡ g.procedure = same_there procedures a.procedure b.procedure f.procedure g.procedure e f.is g.is in
    ap₂ with_number e (first_fault_once (routine_with globals strings signals links procedures g.procedure) a.fault b.fault
    (subst (λ (x : CodeProcedure). FirstFault (routine_with globals strings signals links procedures x) a.fault) p f.fault) g.fault)

pub one_first_fault : OneFirstFault
one_first_fault m a b f g = fault_of_module_once m.global_words (length m.strings) m.signals m.links m.procedures a b f g
