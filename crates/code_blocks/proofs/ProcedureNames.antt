-- What the code of a procedure of a sound module may name.
use Rattle.std.proofs.Common.{◌≡◌, refl, sym, ap, ◌∙◌, suc, ◌+◌, ◌≤◌, List, [], ◌∷◌, length, map, arith}
use Rattle.std.proofs.lemmas.List.{length-map}
use Rattle.mesa_types.specs.declared.types.FieldType.{FieldType}
use Rattle.mesa_types.specs.Plain.{kinds, kinds_of, field_kind}
use Rattle.mesa_types.specs.Shapes.{words_in_all, words_before, count_in, join}
use Rattle.mesa_types.specs.Sound.{Sound, scope_of}
use Rattle.mesa_types.specs.Typed.{Kind, Kinds, NoKinds, AndKind, Procedure, Module}
use Rattle.code_forms.specs.Routine.{words_of}
use Rattle.code_rules.specs.Modules.{procedures_of}
use Rattle.code_blocks.specs.Laws.{routine_in}
use Rattle.code_blocks.specs.Modules.{uncoded, procedure_code, module_code}
use Rattle.code_blocks.proofs.Coding.{BodyFine}
use Rattle.code_blocks.proofs.NamesFit.{Names}
use Rattle.code_blocks.proofs.Parts.{before_none}

pub words_joined : (ks js : Kinds) → words_in_all (join ks js) ≡ words_in_all ks + words_in_all js
unfolding join words_in_all
words_joined NoKinds js = omega arith
words_joined (AndKind k ks) js = omega (arith, words_joined ks js)

before_joined : (ks js : Kinds) → words_before (join ks js) (count_in ks) ≡ words_in_all ks
unfolding join words_in_all words_before count_in
before_joined NoKinds js = before_none js
before_joined (AndKind k ks) js =
    ap (words_before (AndKind k (join ks js))) {x = 1 + count_in ks} {y = suc (count_in ks)} (omega arith) ∙ omega (arith, before_joined ks js)

kinds_counted : (ks : List Kind) → count_in (kinds ks) ≡ length ks
unfolding count_in
kinds_counted [] = refl
kinds_counted (k ∷ ks) = omega (arith, kinds_counted ks)

fields_counted : (fields : List FieldType) → count_in (kinds_of fields) ≡ length fields
fields_counted fields = kinds_counted (map field_kind fields) ∙ length-map fields field_kind

-- the results lie behind the parameters
results_there : (takes gives : List FieldType) (variables : Kinds) → let locals : Kinds = join (kinds_of takes) (join (kinds_of gives) variables) in
    words_before locals (length takes) + words_in_all (kinds_of gives) ≤ words_in_all locals
results_there takes gives variables =
    let ks = kinds_of takes in
    let rest = join (kinds_of gives) variables in
    let here : words_before (join ks rest) (length takes) ≡ words_in_all ks =
    ap (λ n. words_before (join ks rest) n) (sym (fields_counted takes)) ∙ before_joined ks rest in
    omega (arith, here, words_joined ks rest, words_joined (kinds_of gives) variables)

pub names_of : (m : Module) (p : Procedure) → Sound m → BodyFine m p
    → Names (uncoded m p) (routine_in (module_code m) (procedure_code m p)) (scope_of m p.head.takes p.head.gives p.body)
unfolding scope_of
names_of m p s h = record {
  same_imports = refl;
  same_globals = refl;
  same_locals = refl;
  have_words = h.words;
  each_import = s.imports;
  all_globals = omega arith;
  all_strings = omega arith;
  all_signals = refl;
  all_links = refl;
  all_procedures = omega (
    arith,
    length-map m.procedures (λ (q : Procedure). q.head),
    length-map (module_code m).procedures words_of,
    length-map (procedures_of m) (procedure_code m),
  );
  room = omega arith;
  results = results_there p.head.takes p.head.gives p.body.variables;
}
