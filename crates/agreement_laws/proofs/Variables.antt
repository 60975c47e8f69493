-- The rows of variables: a part along fields, or along fields and indexes.
use Rattle.std.proofs.Common.{◌≡◌, ℕ, suc, ◌+◌, List, [], ◌∷◌, refl, sym, ap, subst, arith}
use Rattle.mesa_types.specs.declared.typed_parts.Home.{Home}
use Rattle.mesa_types.specs.declared.typed_parts.Home.TheVariants.{Global, Local}
use Rattle.mesa_types.specs.Typed.{Kind, Suffixes, NoSuffix, Field, Index}
use Rattle.mesa_types.specs.Shapes.{one, words_in}
use Rattle.mesa_types.specs.Sound.{Scope, SuffixesIn, VariableIn}
use Rattle.source_meaning.specs.Value.{Word, Values, NoValues, AndValue, word, part_at, path_of}
use Rattle.source_meaning.specs.Value as value
use Rattle.source_meaning.specs.Program.{Program}
use Rattle.source_meaning.specs.State.{Store, State, Gives, Result, carry, after, give, give_value, look, value_then, on_values}
use Rattle.source_meaning.specs.Variables.{Where, fetch}
use Rattle.source_meaning.specs.Signals.{Next}
use Rattle.source_meaning.specs.Meaning.{path}
use Rattle.machine_rules.specs.State as machine
use Rattle.machine_rules.specs.State.{Stepped}
use Rattle.code_rules.specs.Reading.{Place, Own}
use Rattle.code_rules.specs.Slots.{load, load_within, fields_of, HasNoIndex}
use Rattle.agreement_rules.specs.Layout.{Show}
use Rattle.agreement_rules.specs.Operators.{PathAt, value_of}
use Rattle.agreement_rules.specs.Own.{Given}
use Rattle.agreement_rules.specs.Reaches.{Reaches}
use Rattle.agreement_laws.specs.World.{World, texts_of}
use Rattle.agreement_laws.specs.Standing.{Frames}
use Rattle.agreement_laws.specs.Relation.{Agrees, standing}
use Rattle.agreement_laws.specs.Contexts.{Site, Context}
use Rattle.agreement_laws.specs.Answers.{Answered, Valued}
use Rattle.agreement_laws.specs.Promises.{next, Found}
use Rattle.agreement_laws.proofs.Codes.{locals_lie, globals_lie, variable_there}
use Rattle.agreement_laws.proofs.Following.{valued_later, valued_out}
use Rattle.agreement_laws.proofs.Going.{answered_on}
use Rattle.agreement_laws.proofs.Owning.{Leads, law, own_gave}

-- Suffixes without an index.

pub static : Suffixes → Values
static NoSuffix = NoValues
static (Field n offset s) = AndValue (Word n) (static s)
static (Index r first n words e s) = NoValues

pub static_path : (P : Program) (run : Next) (s : Suffixes) (w : Where) (σ : State) → HasNoIndex s → path P run s w σ ≡ record { answer = Gives (static s); state = σ }
unfolding path on_values after carry value_then give static
static_path P run NoSuffix w σ h = refl
static_path P run (Field n offset s) w σ h =
    ap (λ (r : Result). value_then (λ p. give (Gives (AndValue (Word n) p))) r.answer r.state) (static_path P run s w σ h)
static_path P run (Index r first n words e s) w σ h = absurd h

pub static_at : (Γ : Scope) (s : Suffixes) (j k : Kind) → HasNoIndex s → SuffixesIn Γ s j k → PathAt (path_of (static s)) j k (fields_of s)
unfolding SuffixesIn PathAt path_of word static
static_at Γ NoSuffix j k h sound = (sound, refl)
static_at Γ (Field n offset s) j k h sound =
    let at = static_at Γ s sound.1 k h sound.4 in
    subst (λ x. PathAt (n ∷ path_of (static s)) x k (offset + fields_of s)) (sym sound.2)
    (sound.1, fields_of s, sound.3.is_there, at, ap (λ x. x + fields_of s) sound.3.lies)
static_at Γ (Index r first n words e s) j k h sound = absurd h

-- What is fetched.

pub fetched : (w : Where) (h : Home) (s : Store) → fetch w h s ≡ value_of (s.variables w.frame) (s.globals w.instance) h
unfolding fetch
fetched w (Local n) s = refl
fetched w (Global n) s = refl

module _ (W : World) (n : ℕ) (K : Site) (w : Place) (hi : ℕ) (ctx : Context W K w.points w.around w.slot hi) where
  abbrev bound : ℕ
  bound = suc n

  -- the words of a part, loaded at once or within the variable
  pub record Part (μ : Frames) (m : machine.Store) (σ : State) (h : Home) (k : Kind) (path : List ℕ) (d : ℕ) : Type 0 where
    pub words : List ℕ
    pub shown : Show (texts_of W) (one k) (value.one (part_at path (fetch K.meant h σ.store))) words
    pub loads : Leads W K w hi ctx μ m (load K.code h d (words_in k) ∷ []) [] (Given words)
    pub loads_within : Leads W K w hi ctx μ m (load_within K.code h (words_in k) ∷ []) (d ∷ []) (Given words)

  pub part_of : (μ : Frames) (m : machine.Store) (σ : State) (h : Home) (j k : Kind) (path : List ℕ) (d : ℕ) → Agrees W bound K.ground μ m σ → VariableIn K.scope h j
      → PathAt path j k d → Part μ m σ h k path d
  part_of μ m σ h j k path d agrees there at =
      let x = (law W K w hi ctx μ m).part (σ.store.variables K.meant.frame) (σ.store.globals K.meant.instance) h j k path d
      (locals_lie W K w.points w.around w.slot hi ctx bound μ m σ agrees) (globals_lie W K w.points w.around w.slot hi ctx bound μ m σ agrees)
      (variable_there W K w.points w.around w.slot hi ctx h j there) at in
      record {
        words = x.0;
        shown = subst (λ v. Show (texts_of W) (one k) (value.one (part_at path v)) x.0) (sym (fetched K.meant h σ.store)) x.1;
        loads = x.2;
        loads_within = x.3;
      }

  pub variable_row : (h : Home) (s : Suffixes) (words : ℕ) (j k : Kind) (a b : ℕ) (rest : List ℕ) (μ : Frames) (m : machine.Store) (σ : State) → HasNoIndex s
      → VariableIn K.scope h j → SuffixesIn K.scope s j k → words ≡ words_in k → Own K.code w (load K.code h (fields_of s) words ∷ []) a b → Agrees W bound K.ground μ m σ
      → Valued W bound K w.around (one k) b rest (standing K.ground a rest μ m)
      (value_then (λ p. look (λ st. give_value (part_at (path_of p) (fetch K.meant h st)))) (path W.program (next W n) s K.meant σ).answer (path W.program (next W n) s K.meant σ).state)
  unfolding value_then look give_value give
  variable_row h s words j k a b rest μ m σ static_s there sound size own agrees =
      let x = part_of μ m σ h j k (path_of (static s)) (fields_of s) agrees there (static_at K.scope s j k static_s sound) in
      subst (λ (r : Result). Valued W bound K w.around (one k) b rest (standing K.ground a rest μ m)
      (value_then (λ p. look (λ st. give_value (part_at (path_of p) (fetch K.meant h st)))) r.answer r.state)) (sym (static_path W.program (next W n) s K.meant σ static_s))
      (own_gave W K w hi ctx bound μ m σ (one k) (load K.code h (fields_of s) (words_in k) ∷ []) a b [] x.words rest (value.one (part_at (path_of (static s)) (fetch K.meant h σ.store)))
      (subst (λ z. Own K.code w (load K.code h (fields_of s) z ∷ []) a b) size own) x.loads x.shown agrees)

  -- where the offset is on the operands
  pub element_row : (h : Home) (words : ℕ) (j k : Kind) (d b : ℕ) (rest : List ℕ) (s : Stepped) (r : Result) → VariableIn K.scope h j → words ≡ words_in k
      → Own K.code w (load_within K.code h words ∷ []) d b → Answered W bound K w.around (λ s vs σ. Found W bound K.ground j k d 0 rest s vs σ) s r.answer r.state
      → Valued W bound K w.around (one k) b rest s (value_then (λ p. look (λ st. give_value (part_at (path_of p) (fetch K.meant h st)))) r.answer r.state)
  unfolding look give_value give
  element_row h words j k d b rest s r there size own answered =
      answered_on W bound K w.around (λ s r. Valued W bound K w.around (one k) b rest s r)
      (λ s t r k2 h. valued_later W bound K w.around (one k) b rest s t r k2 h) (λ s a σ h. valued_out W bound K w.around (one k) b rest s a σ h)
      (λ s vs σ. Found W bound K.ground j k d 0 rest s vs σ) (λ p. look (λ st. give_value (part_at (path_of p) (fetch K.meant h st)))) s r.answer r.state answered
      (λ vs f.
      let c = f.comes in
      let x = part_of c.frames c.store r.state h j k (path_of vs) f.offset c.agrees there f.path_at in
      let e : 0 + f.offset ≡ f.offset = omega arith in
      valued_later W bound K w.around (one k) b rest s (standing K.ground d (f.offset ∷ rest) c.frames c.store)
      (give_value (part_at (path_of vs) (fetch K.meant h r.state.store)) r.state)
      (subst (λ o. Reaches W.image s (standing K.ground d (o ∷ rest) c.frames c.store)) e c.reaches)
      (own_gave W K w hi ctx bound c.frames c.store r.state (one k) (load_within K.code h (words_in k) ∷ []) d b (f.offset ∷ []) x.words rest
      (value.one (part_at (path_of vs) (fetch K.meant h r.state.store)))
      (subst (λ z. Own K.code w (load_within K.code h z ∷ []) d b) size own) x.loads_within x.shown c.agrees))
