-- Parts of steady blocks.
use Rattle.std.proofs.Common.{◌≡◌, refl, sym, ap, ◌∙◌, subst, ℕ, suc, ◌+◌, ◌-◌, ◌≤◌, ◌⊎◌, inl, inr, ⊎_elim, List, [], ◌∷◌, ◌++◌, Bool, true, false, arith}
use Rattle.std.proofs.lemmas.Bool.{false≢true}
use Rattle.std.specs.Prelude.{slice_get, Some, None, not, IsTrue}
use Rattle.mesa_types.specs.declared.faces.Import.{Import}
use Rattle.mesa_types.specs.declared.faces.Item.{Item}
use Rattle.mesa_types.specs.declared.faces.ItemKind.{ItemKind}
use Rattle.mesa_types.specs.declared.faces.ItemKind.TheVariants as item
use Rattle.mesa_types.specs.declared.typed_parts.Callee.{Callee}
use Rattle.mesa_types.specs.declared.typed_parts.Callee.TheVariants.{OwnProcedure, LinkedProcedure}
use Rattle.mesa_types.specs.declared.typed_parts.Conversion.{Conversion}
use Rattle.mesa_types.specs.declared.typed_parts.Raised.{Raised}
use Rattle.mesa_types.specs.declared.typed_parts.Raised.TheVariants.{OwnSignal, LinkedSignal, TheBoundsFault, TheZeroDivisor, TheUnnamed}
use Rattle.mesa_types.specs.declared.typed_parts.Range.{Range}
use Rattle.mesa_types.specs.Counts.{words_before, words_after}
use Rattle.mesa_types.specs.Links.{imported, IsUsed}
use Rattle.mesa_types.specs.Plain.{kinds_of}
use Rattle.mesa_types.specs.Shapes.{words_in_all}
use Rattle.mesa_types.specs.Sound.{Scope, CalleeIs, RaisedIs, UsedItem}
use Rattle.mesa_types.specs.Typed.{Kinds, NoKinds}
use Rattle.code_forms.specs.declared.around.Moved.{Moved}
use Rattle.code_forms.specs.declared.instruction.Instruction.{Instruction}
use Rattle.code_forms.specs.declared.instruction.Instruction.TheVariants as i
use Rattle.code_forms.specs.Depths.{forward_target, backward_target, outward_target, is_return}
use Rattle.code_forms.specs.Routine.{Routine, moves, goes_on, words, words_there, signal_words, link_words, is_error, is_error_signal, is_error_link}
use Rattle.code_rules.specs.Links.{link_number, call_code, raise_code}
use Rattle.code_rules.specs.Modules.{words_of_fields, kind_code, signal_code, link_code}
use Rattle.code_rules.specs.OwnCode.{lift_code, check_code, conversion_code}
use Rattle.code_rules.proofs.Depths.{own_code_keeps_words}
use Rattle.code_blocks.specs.Blocks.{Block, Labels, Here, Anyhow, Ends, Out, Rounds, ArmBlocks, NoArmBlock, AndArmBlock, ◌▹◌}
use Rattle.code_blocks.specs.Sizes.{depth_behind}
use Rattle.code_blocks.specs.Translation.{turned, answer, enabled}
use Rattle.code_blocks.specs.Writing.{end_at}
use Rattle.code_blocks.proofs.ExtractRows.{lift_left, check_left}
use Rattle.code_blocks.proofs.Fine.{AllFine, Plain, fine_at, fine_both}
use Rattle.code_blocks.proofs.FineCode.{lift_fine, check_fine, conversion_fine}
use Rattle.code_blocks.proofs.Steady.{HasOut, Steady, ArmsSteady}
use Rattle.code_blocks.proofs.Values.{behind, none, own_left}

-- What a procedure's code may name is what the module names.
pub record Named (r : Routine) (own : List Import) (procedures signals : List Item) (imports : List Import) : Type 0 where
  pub procedure : (k : ℕ) (i : Item) → slice_get procedures k ≡ Some i
      → slice_get r.procedures (suc k) ≡ Some (words (words_of_fields i.takes) (words_of_fields i.gives))
  pub signal : (k : ℕ) (i : Item) → slice_get signals k ≡ Some i → slice_get r.signals k ≡ Some (signal_code i)
  pub link : (k n : ℕ) (i : Item) → imported imports k n ≡ Some i → IsUsed imports k n → slice_get r.links (link_number own k n) ≡ Some (link_code i)
  -- an error gives nothing
  pub signal_gives : (k : ℕ) (i : Item) → slice_get signals k ≡ Some i → i.kind ≡ item.Error → i.gives ≡ []
  pub link_gives : (k n : ℕ) (i : Item) → imported imports k n ≡ Some i → i.kind ≡ item.Error → i.gives ≡ []

-- a call or a raise
plain_call : (r : Routine) (x : Instruction) (d takes puts : ℕ) → moves r x ≡ words takes puts → takes ≤ d → IsTrue (goes_on r x) ⊎ (d - takes + puts ≡ 0)
    → forward_target x ≡ None → backward_target x ≡ None
    → outward_target x ≡ None → (IsTrue (is_return x) → d ≡ 0) → Plain r x d (d - takes + puts)
plain_call r x d takes puts m le rests forward backward outward returns = record {
  enough = subst (λ (w : Moved). w.takes ≤ d) (sym m) le;
  after = ap (λ (w : Moved). d - w.takes + w.puts) m;
  rests = rests;
  forward = forward;
  backward = backward;
  outward = outward;
  returns = returns;
}

goes_or_none : (k : ItemKind) → (IsTrue (not (is_error (kind_code k)))) ⊎ (k ≡ item.Error)
goes_or_none item.Procedure = inl refl
goes_or_none item.Signal = inl refl
goes_or_none item.Error = inr refl

module _ (r : Routine) (own : List Import) (Γ : Scope) (named : Named r own Γ.procedures Γ.signals Γ.imports) where
  pub call_plain : (c : Callee) (x : Item) (d : ℕ) → CalleeIs Γ c x → words_of_fields x.takes ≤ d
      → Plain r (call_code own c) d (d - words_of_fields x.takes + words_of_fields x.gives)
  unfolding CalleeIs UsedItem
  call_plain (OwnProcedure q) x d h le =
      plain_call r (i.Call q) d (words_of_fields x.takes) (words_of_fields x.gives)
      (ap words_there (ap (λ n. slice_get r.procedures n) h.1 ∙ named.procedure h.0 x h.2)) le (inl refl) refl refl refl
      (λ e. absurd (false≢true e))
  call_plain (LinkedProcedure k n) x d h le =
      plain_call r (i.CallLink (link_number own k n)) d (words_of_fields x.takes) (words_of_fields x.gives)
      (ap link_words (named.link k n x (h.0).0 (h.0).1)) le (inl refl) refl refl refl (λ e. absurd (false≢true e))

  -- what does not go on gives nothing, and so no words are left where none stood below what it takes
  none_left : (x : Item) (ks : Kinds) (d : ℕ) → ks ≡ kinds_of x.gives → x.gives ≡ [] → (ks ≡ NoKinds → d ≡ 0) → d + words_of_fields x.gives ≡ 0
  unfolding words_in_all
  none_left x ks d same gives safe =
      let none : kinds_of x.gives ≡ NoKinds = ap kinds_of gives in omega (arith, safe (same ∙ none), ap words_in_all none)

  -- a raise by the host, which takes and gives nothing
  host_plain : (fault : ℕ) (all ks : Kinds) (n d : ℕ) → (all ≡ NoKinds) × (ks ≡ NoKinds) → (ks ≡ NoKinds → d ≡ 0) → n ≡ d + words_in_all all
      → Plain r (i.RaiseHost fault) n (n - words_in_all all + words_in_all ks)
  unfolding words_in_all
  host_plain fault all ks n d h safe e =
      let takes : words_in_all all ≡ 0 = ap words_in_all h.0 in
      let gives : words_in_all ks ≡ 0 = ap words_in_all h.1 in
      plain_call r (i.RaiseHost fault) n (words_in_all all) (words_in_all ks)
      (ap (λ m. words m 0) (sym takes) ∙ ap (λ m. words (words_in_all all) m) (sym gives))
      (omega (arith, e)) (inr (omega (arith, e, takes, gives, safe h.1))) refl refl refl (λ f. absurd (false≢true f))

  pub raise_plain : (c : Raised) (all ks : Kinds) (n d : ℕ) → RaisedIs Γ c all ks → (ks ≡ NoKinds → d ≡ 0) → n ≡ d + words_in_all all
      → Plain r (raise_code own c) n (n - words_in_all all + words_in_all ks)
  unfolding RaisedIs UsedItem words_in_all
  raise_plain (OwnSignal k) all ks n d h safe e =
      let x = h.0 in
      let there = named.signal k x h.1 in
      let takes = ap words_in_all h.2 in
      let gives = ap words_in_all h.3 in
      plain_call r (i.Raise k) n (words_in_all all) (words_in_all ks)
      (ap signal_words there ∙ ap (λ m. words m (words_of_fields x.gives)) (sym takes) ∙ ap (λ m. words (words_in_all all) m) (sym gives))
      (omega (arith, e))
      (⊎_elim (λ (y : IsTrue (not (is_error (kind_code x.kind)))). inl (ap (λ o. not (is_error_signal o)) there ∙ y))
      (λ (y : x.kind ≡ item.Error). inr (omega (arith, e, gives, none_left x ks d h.3 (named.signal_gives k x h.1 y) safe)))
      (goes_or_none x.kind))
      refl refl refl (λ f. absurd (false≢true f))
  raise_plain (LinkedSignal k j) all ks n d h safe e =
      let x = h.0 in
      let there = named.link k j x (h.1).0 (h.1).1 in
      let takes = ap words_in_all h.3 in
      let gives = ap words_in_all h.4 in
      plain_call r (i.RaiseLink (link_number own k j)) n (words_in_all all) (words_in_all ks)
      (ap link_words there ∙ ap (λ m. words m (words_of_fields x.gives)) (sym takes) ∙ ap (λ m. words (words_in_all all) m) (sym gives))
      (omega (arith, e))
      (⊎_elim (λ (y : IsTrue (not (is_error (kind_code x.kind)))). inl (ap (λ o. not (is_error_link o)) there ∙ y))
      (λ (y : x.kind ≡ item.Error). inr (omega (arith, e, gives, none_left x ks d h.4 (named.link_gives k j x (h.1).0 y) safe)))
      (goes_or_none x.kind))
      refl refl refl (λ f. absurd (false≢true f))
  raise_plain TheBoundsFault all ks n d h safe e = host_plain 0 all ks n d h safe e
  raise_plain TheZeroDivisor all ks n d h safe e = host_plain 1 all ks n d h safe e
  raise_plain TheUnnamed all ks n d h safe e = host_plain 2 all ks n d h safe e

module _ (r : Routine) where
  -- a block with other words before it that are as many
  pub at : (b : Block) (ends : List ℕ) {m n : ℕ} → m ≡ n → Steady r b n ends → Steady r b m ends
  at b ends {m = m} {n = n} e s = subst (λ k. Steady r b k ends) (sym e) s

  -- jumps that lead, turned or not, to the end of a part with as many words
  pub turned_steady : (x : Bool) (jumps : ℕ → Block) (part d : ℕ) (ends : List ℕ) → end_at ends part ≡ d
      → ((p : ℕ) (ns : List ℕ) → end_at ns p ≡ d → Steady r (jumps p) d ns) → HasOut (jumps 0) 0 → depth_behind (jumps 0) d ≡ d
      → Steady r (turned x jumps part) d ends
  turned_steady false jumps part d ends e s out kept = s part ends e
  turned_steady true jumps part d ends e s out kept = inr ((s 0 (d ∷ ends) refl, e ∙ sym kept), inl out)

  pub turned_out : (x : Bool) (jumps : ℕ → Block) (part : ℕ) → HasOut (jumps part) part → HasOut (turned x jumps part) part
  turned_out false jumps part out = out
  turned_out true jumps part out = inr refl

  pub answer_steady : (jumps : Block) (word jumped d : ℕ) (ends : List ℕ) → Steady r jumps d (d ∷ (d + 1) ∷ ends) → HasOut jumps 0 → depth_behind jumps d ≡ d
      → Steady r (answer jumps word jumped) d ends
  answer_steady jumps word jumped d ends s out kept =
      inl ((inr ((s, ((omega arith, tt), omega (arith, kept))), inl out), (omega arith, tt)), omega arith)

  -- A statement's block, or a part of one: no words stand before it and behind it.

  abbrev pub Rests : Block → (ends : List ℕ) → Type 0
  Rests b ends = Steady r b 0 ends × (depth_behind b 0 ≡ 0)

  pub rest_both : (b c : Block) (ends : List ℕ) → Rests b ends → Rests c ends → Rests (b ▹ c) ends
  rest_both b c ends x y = ((x.0, at c ends x.1 y.0), behind c x.1 y.1)

  pub rest_here : (b : Block) (ends : List ℕ) → Rests b (0 ∷ ends) → Rests (Ends (Here 0) b) ends
  rest_here b ends x = (inl x, refl)

  pub rest_labels : (ls : List ℕ) (b : Block) (ends : List ℕ) → Rests b ends → Rests (Ends (Labels ls) b) ends
  rest_labels ls b ends x = ((refl, x.0, x.1), refl)

  pub rest_out : (part : ℕ) (ends : List ℕ) → end_at ends part ≡ 0 → Rests (Out Anyhow part) ends
  rest_out part ends e = ((refl, e), refl)

  pub rest_rounds : (b : Block) (ends : List ℕ) → Rests b ends → Rests (Rounds b) ends
  rest_rounds b ends x = ((refl, x.0, x.1), x.1)

  pub rest_enabled : (arms : ArmBlocks) (b : Block) (ends : List ℕ) → ArmsSteady r arms → Rests b ends → Rests (enabled arms b) ends
  rest_enabled NoArmBlock b ends s x = x
  rest_enabled (AndArmBlock labels slot words arm arms) b ends s x = ((s, x.0), x.1)

-- an extractor's target: its part is brought to the top, checked and stored
pub brought_fine : (n k : ℕ) (g : Range) (x : Instruction) (m : ℕ) → n + k ≤ m → 1 ≤ m → AllFine (x ∷ []) m
    → AllFine (lift_code n k ++ (check_code g ++ x ∷ [])) m
brought_fine n k g x m fits some fine =
    fine_both (lift_code n k) (check_code g ++ x ∷ []) m (lift_fine n k m fits)
    (fine_at (check_code g ++ x ∷ []) (lift_left n k m fits)
    (fine_both (check_code g) (x ∷ []) m (check_fine g m some) (fine_at (x ∷ []) (check_left g m some) fine)))

-- it is brought to the top, converted and stored
pub converted_fine : (n k : ℕ) (c : Conversion) (x : Instruction) (d : ℕ) → n ≡ words_before c → k ≤ d → AllFine (x ∷ []) (d + words_after c)
    → AllFine (lift_code n k ++ (conversion_code c ++ x ∷ [])) (d + n)
converted_fine n k c x d size h fine =
    fine_both (lift_code n k) (conversion_code c ++ x ∷ []) (d + n) (lift_fine n k (d + n) (omega (arith, h)))
    (fine_at (conversion_code c ++ x ∷ []) (lift_left n k (d + n) (omega (arith, h)))
    (fine_both (conversion_code c) (x ∷ []) (d + n) (conversion_fine c (d + n) (omega (arith, size)))
    (fine_at (x ∷ []) (own_left (conversion_code c) {n = d + words_before c} (ap (λ z. d + z) size) (own_code_keeps_words.conversion none c d)) fine)))
