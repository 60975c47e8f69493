-- The modules that the examples write keep the ranges of code: tests that compute, and what they tell.
use Rattle.std.proofs.Common.{◌≡◌, ℕ, zero, suc, ◌+◌, ◌<◌, List, [], ◌∷◌, length, Bool, true, false, Option, Some, None, sym, subst, arith}
use Rattle.std.specs.Prelude.{◌&&◌, ◌^◌, All, get_or, nat_eq, nat_lt, nat_le, slice_get}
use Rattle.std.specs.List.{AllAdjacentBelow, HoldsAt}
use Rattle.std.proofs.lemmas.Bool.{false≢true, and_parts, eqb-true, ltb-true, leb-true}
use Rattle.std.proofs.lemmas.List.Elements.{All-cons}
use Rattle.code_forms.specs.declared.module_code.Arm.{Arm}
use Rattle.code_forms.specs.declared.module_code.CodeEntry.{CodeEntry}
use Rattle.code_forms.specs.declared.module_code.CodeKind.{CodeKind}
use Rattle.code_forms.specs.declared.module_code.CodeKind.TheVariants.{Procedure, Signal, Error}
use Rattle.code_forms.specs.declared.module_code.CodeLink.{CodeLink}
use Rattle.code_forms.specs.declared.module_code.CodeProcedure.{CodeProcedure}
use Rattle.code_forms.specs.declared.module_code.CodeSignal.{CodeSignal}
use Rattle.code_forms.specs.declared.module_code.Label.{Label}
use Rattle.code_forms.specs.declared.module_code.Label.TheVariants as l
use Rattle.code_forms.specs.declared.module_code.Phrase.{Phrase}
use Rattle.code_forms.specs.Instructions.{bytes_of}
use Rattle.code_forms.specs.Ranges.{AreFew, IsSignalWith, IsLinkWith, IsSignalLink, LabelInRange, ArmInRange, PhraseInRange, InOrder, ProcedureInRange, IsBody, KeepsRanges}

-- each passes
abbrev pub every : {X : Type 0} → (X → Bool) → List X → Bool
every p [] = true
every p (x ∷ xs) = p x && every p xs

every_holds : {X : Type 0} (p : X → Bool) (P : X → Type 0) → ((x : X) → p x ≡ true → P x) → (xs : List X) → every p xs ≡ true → All P xs
every_holds p P h [] e = λ k d less. absurd (omega (arith, less))
every_holds p P h (x ∷ xs) e =
    let b = and_parts (p x) (every p xs) e in All-cons P x xs (h x b.0) (every_holds p P h xs b.1)

-- a kind of signal with so many results, a link with so many
abbrev pub signal_test : CodeKind → ℕ → Bool
signal_test Procedure results = false
signal_test Signal results = true
signal_test Error results = nat_eq results 0

signal_holds : (kind : CodeKind) (results : ℕ) → signal_test kind results ≡ true → IsSignalWith kind results
signal_holds Procedure results e = absurd (false≢true e)
signal_holds Signal results e = tt
signal_holds Error results e = eqb-true results 0 e

abbrev pub link_test : CodeKind → ℕ → Bool
link_test Procedure results = true
link_test Signal results = true
link_test Error results = nat_eq results 0

link_holds : (kind : CodeKind) (results : ℕ) → link_test kind results ≡ true → IsLinkWith kind results
link_holds Procedure results e = tt
link_holds Signal results e = tt
link_holds Error results e = eqb-true results 0 e

abbrev pub signal_link_test : Option CodeLink → Bool
signal_link_test None = false
signal_link_test (Some link) = signal_test link.kind link.results

signal_link_holds : (o : Option CodeLink) → signal_link_test o ≡ true → IsSignalLink o
signal_link_holds None e = absurd (false≢true e)
signal_link_holds (Some link) e = signal_holds link.kind link.results e

abbrev pub label_test : List CodeSignal → List CodeLink → Label → Bool
label_test signals links l.Any = true
label_test signals links l.Unwind = true
label_test signals links (l.Own k) = nat_lt k (length signals)
label_test signals links (l.Link k) = signal_link_test (slice_get links k)
label_test signals links l.BoundsFault = true
label_test signals links l.ZeroDivisor = true

label_holds : (signals : List CodeSignal) (links : List CodeLink) (label : Label) → label_test signals links label ≡ true → LabelInRange signals links label
label_holds signals links l.Any e = tt
label_holds signals links l.Unwind e = tt
label_holds signals links (l.Own k) e = ltb-true k (length signals) e
label_holds signals links (l.Link k) e = signal_link_holds (slice_get links k) e
label_holds signals links l.BoundsFault e = tt
label_holds signals links l.ZeroDivisor e = tt

abbrev pub few_test : {X : Type 0} → List X → Bool
few_test xs = nat_lt (length xs) (2 ^ 32)

few_holds : {X : Type 0} (xs : List X) → few_test xs ≡ true → AreFew xs
few_holds xs e = ltb-true _ _ e

abbrev pub arm_test : List CodeSignal → List CodeLink → Arm → Bool
arm_test signals links a = nat_lt 0 (length a.labels) && (few_test a.labels && every (label_test signals links) a.labels)

arm_holds : (signals : List CodeSignal) (links : List CodeLink) (a : Arm) → arm_test signals links a ≡ true → ArmInRange signals links a
arm_holds signals links a e =
    let b = and_parts (nat_lt 0 (length a.labels)) _ e in
    let c = and_parts (few_test a.labels) (every (label_test signals links) a.labels) b.1 in
    record { labelled = ltb-true 0 (length a.labels) b.0; few = few_holds a.labels c.0; labels = every_holds _ _ (label_holds signals links) a.labels c.1 }

abbrev pub phrase_test : List CodeSignal → List CodeLink → Phrase → Bool
phrase_test signals links p = nat_lt 0 (length p.arms) && (few_test p.arms && every (arm_test signals links) p.arms)

phrase_holds : (signals : List CodeSignal) (links : List CodeLink) (p : Phrase) → phrase_test signals links p ≡ true → PhraseInRange signals links p
phrase_holds signals links p e =
    let b = and_parts (nat_lt 0 (length p.arms)) _ e in
    let c = and_parts (few_test p.arms) (every (arm_test signals links) p.arms) b.1 in
    record { armed = ltb-true 0 (length p.arms) b.0; few = few_holds p.arms c.0; arms = every_holds _ _ (arm_holds signals links) p.arms c.1 }

-- entries that follow each other from an offset on
abbrev pub follows : ℕ → List CodeEntry → Bool
follows at [] = true
follows at (e ∷ code) = nat_eq at e.at && follows (e.at + bytes_of e.instruction) code

joined : (at : ℕ) (code : List CodeEntry) → follows at code ≡ true → AllAdjacentBelow (λ e f. e.at + bytes_of e.instruction ≡ f.at) code (length code)
joined at [] t k d less = absurd (omega (arith, less))
joined at (e ∷ []) t k d less = absurd (omega (arith, less))
joined at (e ∷ f ∷ code) t zero d less =
    let b = and_parts (nat_eq at e.at) _ t in
    let c = and_parts (nat_eq (e.at + bytes_of e.instruction) f.at) _ b.1 in eqb-true _ _ c.0
joined at (e ∷ f ∷ code) t (suc k) d less =
    let b = and_parts (nat_eq at e.at) _ t in
    let r = joined (e.at + bytes_of e.instruction) (f ∷ code) b.1 k d (omega (arith, less)) in
    let more : suc (k + 1) ≡ suc k + 1 = omega arith in
    subst (λ n. (get_or (f ∷ code) k d).at + bytes_of (get_or (f ∷ code) k d).instruction ≡ (get_or (e ∷ f ∷ code) n d).at) more r

abbrev pub short : CodeEntry → Bool
short e = nat_lt (e.at + bytes_of e.instruction) (2 ^ 32)

abbrev pub code_test : List CodeEntry → Bool
code_test code = nat_lt 0 (length code) && (follows 0 code && every short code)

code_first : (code : List CodeEntry) → 0 < length code → follows 0 code ≡ true → HoldsAt (λ e. e.at ≡ 0) code 0
code_first [] l t d = absurd (omega (arith, l))
code_first (e ∷ code) l t d = let b = and_parts (nat_eq 0 e.at) _ t in sym (eqb-true 0 e.at b.0)

code_holds : (code : List CodeEntry) → code_test code ≡ true → InOrder code
code_holds code t =
    let b = and_parts (nat_lt 0 (length code)) _ t in
    let c = and_parts (follows 0 code) (every short code) b.1 in
    let some : 0 < length code = ltb-true 0 (length code) b.0 in
    record {
      some = some;
      first = code_first code some c.0;
      joined = joined 0 code c.0;
      short = every_holds short _ (λ e s. ltb-true _ _ s) code c.1;
    }

abbrev pub procedure_test : List CodeSignal → List CodeLink → CodeProcedure → Bool
procedure_test signals links p =
    nat_le p.frame 2048 && (nat_le (p.args + p.results) p.frame && (nat_le p.depth 65535 && (code_test p.code && (few_test p.phrases && every (phrase_test signals links) p.phrases))))

procedure_holds : (signals : List CodeSignal) (links : List CodeLink) (p : CodeProcedure) → procedure_test signals links p ≡ true → ProcedureInRange signals links p
procedure_holds signals links p t =
    let b = and_parts (nat_le p.frame 2048) _ t in
    let c = and_parts (nat_le (p.args + p.results) p.frame) _ b.1 in
    let d = and_parts (nat_le p.depth 65535) _ c.1 in
    let e = and_parts (code_test p.code) _ d.1 in
    let f = and_parts (few_test p.phrases) _ e.1 in
    record {
      frame = leb-true _ _ b.0;
      words = leb-true _ _ c.0;
      depth = leb-true _ _ d.0;
      code = code_holds p.code e.0;
      few = few_holds p.phrases f.0;
      phrases = every_holds _ _ (phrase_holds signals links) p.phrases f.1;
    }

abbrev pub body_test : Option CodeProcedure → Bool
body_test None = false
body_test (Some p) = nat_eq p.args 0 && nat_eq p.results 0

body_holds : (o : Option CodeProcedure) → body_test o ≡ true → IsBody o
body_holds None t = absurd (false≢true t)
body_holds (Some p) t = let b = and_parts (nat_eq p.args 0) _ t in (eqb-true _ _ b.0, eqb-true _ _ b.1)

abbrev pub module_test : ℕ → List CodeSignal → List (List ℕ) → List CodeLink → List CodeProcedure → Bool
module_test globals signals strings links procedures =
    nat_le globals 16384 && (every (λ s. signal_test s.kind s.results) signals && (nat_le (length strings) 65535 && (every (λ s. nat_le (length s) 32767) strings
    && (every (λ k. link_test k.kind k.results) links && (body_test (slice_get procedures 0) && (nat_lt (length procedures) (2 ^ 32)
    && (few_test signals && every (procedure_test signals links) procedures)))))))

pub keeps_ranges : (globals : ℕ) (signals : List CodeSignal) (strings : List (List ℕ)) (links : List CodeLink) (procedures : List CodeProcedure)
    → module_test globals signals strings links procedures ≡ true → KeepsRanges globals signals strings links procedures
keeps_ranges globals signals strings links procedures t =
    let a = and_parts (nat_le globals 16384) _ t in
    let b = and_parts (every (λ s. signal_test s.kind s.results) signals) _ a.1 in
    let c = and_parts (nat_le (length strings) 65535) _ b.1 in
    let d = and_parts (every (λ s. nat_le (length s) 32767) strings) _ c.1 in
    let e = and_parts (every (λ k. link_test k.kind k.results) links) _ d.1 in
    let f = and_parts (body_test (slice_get procedures 0)) _ e.1 in
    let g = and_parts (nat_lt (length procedures) (2 ^ 32)) _ f.1 in
    let h = and_parts (few_test signals) _ g.1 in
    record {
      few_globals = leb-true _ _ a.0;
      few_signals = few_holds signals h.0;
      each_signal = every_holds _ _ (λ s h. signal_holds s.kind s.results h) signals b.0;
      few_strings = leb-true _ _ c.0;
      each_string = every_holds _ _ (λ s h. leb-true _ _ h) strings d.0;
      each_link = every_holds _ _ (λ k h. link_holds k.kind k.results h) links e.0;
      body = body_holds (slice_get procedures 0) f.0;
      few_procedures = ltb-true _ _ g.0;
      each_procedure = every_holds _ _ (procedure_holds signals links) procedures h.1;
    }
