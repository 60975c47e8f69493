-- The rows of literals and of fields of values; sizes of variables.
use Rattle.std.proofs.Common.{◌≡◌, ℕ, suc, ◌+◌, ◌<◌, List, [], ◌∷◌, length, Option, Some, None, refl, sym, ap, ◌∙◌, subst, arith}
use Rattle.std.specs.Prelude.{◌≢◌, slice_get, unwrap_or, option_and_then}
use Rattle.mesa_base.specs.declared.limits.TheConstants.{GLOBAL_WORDS, LOCAL_WORDS}
use Rattle.mesa_types.specs.declared.typed_parts.Home.{Home}
use Rattle.mesa_types.specs.declared.typed_parts.Home.TheVariants.{Global, Local}
use Rattle.mesa_types.specs.declared.typed_parts.Part.{Part}
use Rattle.mesa_types.specs.Typed.{Kind, Texts}
use Rattle.mesa_types.specs.Shapes.{one, words_in, words_in_all}
use Rattle.mesa_types.specs.Counts.{last_words}
use Rattle.mesa_types.specs.Sound.{FieldsIn, VariableIn, scope_of}
use Rattle.code_forms.specs.declared.instruction.Instruction.TheVariants as i
use Rattle.code_forms.specs.declared.module_code.ModuleCode.{ModuleCode}
use Rattle.source_meaning.specs.Value.{Text, nth, part_at}
use Rattle.source_meaning.specs.Value as value
use Rattle.source_meaning.specs.Program.{or_else, string_of, module_of}
use Rattle.source_meaning.specs.State.{ProcedureId, State, Result, give, give_value, value_then}
use Rattle.source_meaning.specs.Meaning.{fields_in}
use Rattle.machine_rules.specs.State.{Store, Stepped}
use Rattle.machine_rules.specs.LookUps.{code_in, code_of, literal_of, text_of}
use Rattle.code_rules.specs.CodeFor.{words_before_last}
use Rattle.code_rules.specs.OwnCode.{field_code}
use Rattle.code_rules.specs.Reading.{Coded, Place, Own}
use Rattle.agreement_rules.specs.Layout.{slots_of, value_at, Show}
use Rattle.agreement_rules.specs.Operators.{PathAt}
use Rattle.agreement_rules.proofs.Values.{kind_within}
use Rattle.agreement_laws.specs.World.{World, CodeOf, ScopeIn, texts_of}
use Rattle.agreement_laws.specs.Standing.{Frames}
use Rattle.agreement_laws.specs.Relation.{Agrees, standing}
use Rattle.agreement_laws.specs.Contexts.{Site, Context}
use Rattle.agreement_laws.specs.Answers.{Valued}
use Rattle.agreement_laws.proofs.Following.{valued_later, valued_out, value_on}
use Rattle.agreement_laws.proofs.Owning.{law, own_gave}

-- Fields.

-- the last of some fields lies behind the words before it
pub record FieldsAt (parts : List Part) (j k : Kind) : Type 0 where
  pub at : PathAt (fields_in parts) j k (words_before_last parts)
  pub words : last_words parts ≡ words_in k

pub fields_at : (parts : List Part) (j k : Kind) → parts ≢ [] → FieldsIn parts j k → FieldsAt parts j k
unfolding FieldsIn PathAt fields_in last_words
fields_at [] j k some h = absurd (some refl)
fields_at (p ∷ []) j k some h = record {
  at = subst (λ x. PathAt (p.field ∷ []) x k (p.offset + 0)) (sym h.2) (h.1, 0, h.3.is_there, (h.5, refl), ap (λ n. n + 0) h.3.lies);
  words = h.4 ∙ ap words_in h.5;
}
fields_at (p ∷ q ∷ qs) j k some h =
    let f = fields_at (q ∷ qs) h.1 k (λ e. no_part q qs e) h.5 in
    record {
      at = subst (λ x. PathAt (p.field ∷ fields_in (q ∷ qs)) x k (p.offset + words_before_last (q ∷ qs))) (sym h.2)
          (h.1, words_before_last (q ∷ qs), h.3.is_there, f.at, ap (λ n. n + words_before_last (q ∷ qs)) h.3.lies);
      words = f.words;
    }
  where
    no_part : (q : Part) (qs : List Part) → q ∷ qs ≡ [] → ⊥
    no_part q qs e = let l = ap length e in omega (arith, l)

-- Sizes.

constants : (GLOBAL_WORDS < 65536) × (LOCAL_WORDS < 65536)
constants = (omega arith, omega arith)

-- a variable of a sound procedure has fewer words than a word can say
pub variable_small : (W : World) (K : Site) (C : CodeOf W K.ground.here.procedure K.code) (h : Home) (j : Kind)
    → ScopeIn W K.ground.here.procedure K.scope → VariableIn K.scope h j → words_in j < 65536
unfolding VariableIn scope_of
variable_small W K C (Local n) j Γ v =
    let w = kind_within K.scope.locals n j v in
    let e = ap words_in_all Γ.locals in
    let s = C.body.small in let c = constants.1 in omega (arith, w, e, s, c)
variable_small W K C (Global n) j Γ v =
    let w = kind_within K.scope.globals n j v in
    let e = ap words_in_all Γ.globals in
    let s = C.sound.globals in let c = constants.0 in omega (arith, w, e, s, c)

-- Strings.

or_same : (o : Option (List ℕ)) → unwrap_or o [] ≡ or_else [] o
unfolding or_else
or_same None = refl
or_same (Some x) = refl

pub literal_text : (W : World) (p : ProcedureId) (C : Coded) (c : CodeOf W p C) (k : ℕ)
    → texts_of W (suc c.number) (suc k) ≡ string_of W.program p.instance k
unfolding text_of literal_of code_of string_of
literal_text W p C c k =
    let object : code_in W.image c.number ≡ Some c.object = sym (ap (λ n. option_and_then (code_in W.image) n) c.number_of) ∙ c.is_object in
    ap (λ m. unwrap_or (option_and_then (λ (x : ModuleCode). slice_get x.strings k) m) []) object
    ∙ ap (λ strings. unwrap_or (slice_get strings k) []) c.code_for.each_string
    ∙ or_same (slice_get (module_of W.program p.instance).strings k)

module _ (W : World) (n : ℕ) (K : Site) (w : Place) (hi : ℕ) (ctx : Context W K w.points w.around w.slot hi) where
  abbrev bound : ℕ
  bound = suc n

  pub literal_row : (k a b : ℕ) (rest : List ℕ) (μ : Frames) (m : Store) (σ : State) → k < K.scope.strings → Own K.code w (i.Str (suc k) ∷ []) a b
      → Agrees W bound K.ground μ m σ
      → Valued W bound K w.around (one Texts) b rest (standing K.ground a rest μ m) (give_value (Text (string_of W.program K.meant.instance k)) σ)
  unfolding give_value give scope_of
  literal_row k a b rest μ m σ lt own agrees =
      let c = ctx.code_of in
      let few = c.few in
      let strings = c.sound.strings in
      let e = ctx.scope_in.strings in
      let x = (law W K w hi ctx μ m).literal k (omega (arith, few)) (omega (arith, lt, strings, e)) in
      let is : texts_of W (suc c.number) (suc k) ≡ string_of W.program K.meant.instance k =
      literal_text W K.ground.here.procedure K.code c k ∙ ap (λ j. string_of W.program j k) ctx.instance in
      own_gave W K w hi ctx bound μ m σ (one Texts) (i.Str (suc k) ∷ []) a b [] x.0 rest (value.one (Text (string_of W.program K.meant.instance k))) own x.2
      (subst (λ t. Show (texts_of W) (one Texts) (value.one (Text t)) x.0) is x.1) agrees

  pub field_row : (parts : List Part) (j k : Kind) (behind c b : ℕ) (rest : List ℕ) (s : Stepped) (r : Result) → parts ≢ [] → FieldsIn parts j k
      → words_before_last parts + last_words parts + behind ≡ words_in j
      → Own K.code w (field_code (words_before_last parts) (last_words parts) behind) c b → Valued W bound K w.around (one j) c rest s r
      → Valued W bound K w.around (one k) b rest s (value_then (λ vs. give_value (part_at (fields_in parts) (nth vs 0))) r.answer r.state)
  unfolding give_value give
  field_row parts j k behind c b rest s r some fields size own h =
      let f = fields_at parts j k some fields in
      value_on W bound K w.around (λ s r. Valued W bound K w.around (one k) b rest s r) (λ s t r k2 h. valued_later W bound K w.around (one k) b rest s t r k2 h)
      (λ s a σ h. valued_out W bound K w.around (one k) b rest s a σ h) j c rest (λ v. give_value (part_at (fields_in parts) v)) s r h (λ words μ m shown agrees.
      let v = value_at (texts_of W) (slots_of words) 0 j in
      let before = words_before_last parts in
      let x = (law W K w hi ctx μ m).field_of v j k (fields_in parts) before behind words shown f.at (ap (λ z. before + z + behind) (sym f.words) ∙ size) in
      own_gave W K w hi ctx bound μ m r.state (one k) (field_code before (words_in k) behind) c b words x.0 rest (value.one (part_at (fields_in parts) v))
      (subst (λ z. Own K.code w (field_code before z behind) c b) f.words own) x.2 x.1 agrees)
