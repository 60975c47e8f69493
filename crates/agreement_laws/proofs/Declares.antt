-- The row of declared variables: each is set to zero.
use Rattle.std.proofs.Common.{◌≡◌, ℕ, suc, ◌+◌, List, [], ◌∷◌, Some, refl, ap, ◌∙◌, arith}
use Rattle.std.specs.Prelude.{All}
use Rattle.mesa_types.specs.declared.typed_parts.Home.{Home}
use Rattle.mesa_types.specs.declared.typed_parts.Home.TheVariants.{Global, Local}
use Rattle.mesa_types.specs.Typed.{Kind}
use Rattle.mesa_types.specs.Shapes.{one, words_in}
use Rattle.mesa_types.specs.Sound.{VariableIn}
use Rattle.code_forms.specs.declared.instruction.Instruction.TheVariants as i
use Rattle.code_forms.specs.Instructions.{bytes_of}
use Rattle.source_meaning.specs.Value.{zero_of, with_part}
use Rattle.source_meaning.specs.Value as value
use Rattle.source_meaning.specs.State.{State}
use Rattle.source_meaning.specs.Variables.{store as put, store_part, store_all}
use Rattle.machine_rules.specs.State.{Store}
use Rattle.machine_rules.specs.Words.{zeros, put_words}
use Rattle.machine_rules.specs.Working.{Works, works, stores_local, stores_global}
use Rattle.code_rules.specs.Reading.{Place, Own, no_more, one_more, behind, read}
use Rattle.code_rules.specs.Slots.{clear, zero_code, local_slot, global_slot}
use Rattle.agreement_rules.specs.Layout.{Strings, Show}
use Rattle.agreement_rules.specs.Operators.{PathAt}
use Rattle.agreement_laws.specs.World.{World, texts_of}
use Rattle.agreement_laws.specs.Standing.{Frames}
use Rattle.agreement_laws.specs.Relation.{Ground, Agrees, standing}
use Rattle.agreement_laws.specs.Contexts.{Site, Context}
use Rattle.agreement_laws.specs.Answers.{Comes}
use Rattle.agreement_laws.proofs.Codes.{variable_there}
use Rattle.agreement_laws.proofs.Doing.{comes_here}
use Rattle.agreement_laws.proofs.Going.{comes_later}
use Rattle.agreement_laws.proofs.Stores.{local_comes, global_comes}

-- zeros are the words of the zero of a kind
abbrev pub ZerosShow : Strings → Kind → Type 0
ZerosShow texts k = Show texts (one k) (value.one (zero_of k)) (zeros (words_in k))

whole : (k : Kind) → PathAt [] k k 0
unfolding PathAt
whole k = (refl, refl)

module _ (W : World) (bound : ℕ) (K : Site) (w : Place) (hi : ℕ) (ctx : Context W K w.points w.around w.slot hi) where
  abbrev G : Ground
  G = K.ground

  cleared : (h : Home) (k : Kind) (o d : ℕ) (μ : Frames) (m : Store) (σ : State) → ZerosShow (texts_of W) k → VariableIn K.scope h k
      → read K.code o ≡ Some (record { instruction = clear K.code h (words_in k); depth = d; around = w.around }) → Agrees W bound G μ m σ
      → Comes W bound G (o + bytes_of (clear K.code h (words_in k))) [] (standing G o [] μ m) (record σ { store = store_part K.meant h [] (zero_of k) σ.store })
  unfolding works stores_local stores_global
  cleared (Local n) k o d μ m σ shown there r h =
      let e : local_slot K.code n ≡ local_slot K.code n + 0 = omega arith in
      local_comes W bound K w hi ctx n k k [] 0 d o (zero_of k) (zeros (words_in k)) [] [] (i.ZeroL (local_slot K.code n) (words_in k)) μ m σ r
      (λ number. ap (λ z. Works (record { operands = []; variables = put_words (μ K.meant.frame) z (zeros (words_in k)); globals = m.globals G.here.procedure.instance })) e)
      (variable_there W K w.points w.around w.slot hi ctx (Local n) k there) (whole k) shown h
  cleared (Global n) k o d μ m σ shown there r h =
      let e : global_slot K.code n ≡ global_slot K.code n + 0 = omega arith in
      global_comes W bound K w hi ctx n k k [] 0 d o (zero_of k) (zeros (words_in k)) [] [] (i.ZeroG (global_slot K.code n) (words_in k)) μ m σ r
      (λ number. ap (λ z. Works (record { operands = []; variables = μ K.meant.frame; globals = put_words (m.globals G.here.procedure.instance) z (zeros (words_in k)) })) e)
      (variable_there W K w.points w.around w.slot hi ctx (Global n) k there) (whole k) shown h

  pub declared_comes : (hs : List Home) (k : Kind) (u : Place) (a b : ℕ) (μ : Frames) (m : Store) (σ : State) → ZerosShow (texts_of W) k → u.around ≡ w.around
      → All (λ h. VariableIn K.scope h k) hs → Own K.code u (zero_code K.code hs (words_in k)) a b → Agrees W bound G μ m σ
      → Comes W bound G b [] (standing G a [] μ m) (record σ { store = store_all K.meant hs (zero_of k) σ.store })
  unfolding store_all store_part with_part
  declared_comes [] k u a b μ m σ shown same all no_more h = comes_here W bound K w.around a μ m σ h
  declared_comes (x ∷ hs) k u a b μ m σ shown same all (one_more r rest) h =
      let c = cleared x k a u.depth μ m σ shown (all 0 x (omega arith))
      (r ∙ ap (λ l. Some (record { instruction = clear K.code x (words_in k); depth = u.depth; around = l })) same) h in
      let o = a + bytes_of (clear K.code x (words_in k)) in
      let τ : State = record σ { store = put K.meant x (zero_of k) σ.store } in
      comes_later W bound G b [] (standing G a [] μ m) (standing G o [] c.frames c.store) (record σ { store = store_all K.meant hs (zero_of k) (put K.meant x (zero_of k) σ.store) }) c.reaches
      (declared_comes hs k (behind K.code (clear K.code x (words_in k)) u) o b c.frames c.store τ shown same (λ n d lt. all (suc n) d (omega (arith, lt))) rest c.agrees)
