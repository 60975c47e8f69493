-- The code of a sound module keeps the counts and sizes that the code of each module keeps.
use Rattle.std.proofs.Common.{◌≡◌, refl, sym, subst, ℕ, zero, suc, ◌+◌, ◌<◌, ◌≤◌, List, [], ◌∷◌, length, Some, get_or, arith}
use Rattle.std.proofs.lemmas.List.{length-map}
use Rattle.std.proofs.lemmas.List.Elements.{All-map}
use Rattle.std.proofs.lemmas.Option.{slice_get_within}
use Rattle.std.specs.Prelude.{◌^◌, slice_get}
use Rattle.mesa_types.specs.declared.faces.Item.{Item}
use Rattle.mesa_types.specs.declared.faces.ItemKind.{ItemKind}
use Rattle.mesa_types.specs.declared.faces.ItemKind.TheVariants as item
use Rattle.mesa_types.specs.Links.{links_of}
use Rattle.mesa_types.specs.Nodes.{nodes}
use Rattle.mesa_types.specs.Plain.{kinds_of}
use Rattle.mesa_types.specs.Shapes.{join}
use Rattle.mesa_types.specs.Sound.{Sound, HeadIn, SignalIn, scope_of}
use Rattle.mesa_types.specs.Typed.{Procedure, Module}
use Rattle.code_forms.specs.declared.limits.TheConstants.{STACK_WORDS}
use Rattle.code_forms.specs.declared.module_code.Arm.{Arm}
use Rattle.code_forms.specs.declared.module_code.CodeProcedure.{CodeProcedure}
use Rattle.code_forms.specs.declared.module_code.Label.{Label}
use Rattle.code_forms.specs.declared.module_code.Label.TheVariants as l
use Rattle.code_forms.specs.declared.module_code.Phrase.{Phrase}
use Rattle.code_forms.specs.Phrases.{first_start}
use Rattle.code_forms.specs.Ranges.{ArmInRange, PhraseInRange, ProcedureInRange, SignalInRange, LinkInRange, IsLinkWith, InOrder}
use Rattle.code_rules.specs.Modules.{kind_code, words_of_fields, signal_code, link_code}
use Rattle.code_rules.specs.Reading.{scratch}
use Rattle.code_blocks.specs.Laws.{RangesAreKept}
use Rattle.code_blocks.specs.Modules.{uncoded, body_block, procedure_code, module_code}
use Rattle.code_blocks.specs.Sizes.{phrase_count}
use Rattle.code_blocks.specs.Weights.{label_bytes, labels_bytes, arm_bytes, arms_bytes, phrase_bytes, phrases_bytes, procedure_bytes, procedures_bytes}
use Rattle.code_blocks.proofs.Coding.{BodyFine}
use Rattle.code_blocks.proofs.InOrder.{modules_are_in_order}
use Rattle.code_blocks.proofs.Keeping.{keeps}
use Rattle.code_blocks.proofs.Linking.{heads_linked}
use Rattle.code_blocks.proofs.Lists.{all_from_get}
use Rattle.code_blocks.proofs.ModuleWeights.{modules_are_short}
use Rattle.code_blocks.proofs.NamesFit.{no_fields, error_gives_none}
use Rattle.code_blocks.proofs.PhraseRules.{procedure_fills}
use Rattle.code_blocks.proofs.ProcedureNames.{words_joined}
use Rattle.code_blocks.proofs.Shallow.{written_shallow}
use Rattle.code_blocks.proofs.SpotRules.{phrase_arms, each_procedure}
use Rattle.code_blocks.proofs.TreeShallow.{block_shallow}

-- The kinds of signals and links.

signal_in_range : (i : Item) → SignalIn i → SignalInRange (signal_code i)
unfolding SignalIn
signal_in_range i h = error_gives_none i h.1 h.0

link_in_range : (i : Item) → HeadIn i → LinkInRange (link_code i)
unfolding HeadIn
link_in_range i h = go i.kind refl
  where
    go : (k : ItemKind) → i.kind ≡ k → IsLinkWith (kind_code i.kind) (words_of_fields i.gives)
    go item.Procedure e = subst (λ k. IsLinkWith (kind_code k) (words_of_fields i.gives)) (sym e) tt
    go item.Signal e = subst (λ k. IsLinkWith (kind_code k) (words_of_fields i.gives)) (sym e) tt
    go item.Error e = subst (λ k. IsLinkWith (kind_code k) (words_of_fields i.gives)) (sym e) (no_fields i.gives (h.2 e))

-- Each procedure has bytes, so there are few.

few_of : (cs : List CodeProcedure) → length cs ≤ procedures_bytes cs
few_of [] = omega arith
few_of (c ∷ cs) = omega (arith, few_of cs)

-- Each label, arm and phrase has bytes too, and what a list has room for each of its elements has room for.

label_has : (x : Label) → 1 ≤ label_bytes x
label_has l.Any = omega arith
label_has l.Unwind = omega arith
label_has (l.Own n) = omega arith
label_has (l.Link k) = omega arith
label_has l.BoundsFault = omega arith
label_has l.ZeroDivisor = omega arith

few_labels : (xs : List Label) → length xs ≤ labels_bytes xs
few_labels [] = omega arith
few_labels (x ∷ xs) = omega (arith, label_has x, few_labels xs)

few_arms : (arms : List Arm) → length arms ≤ arms_bytes arms
few_arms [] = omega arith
few_arms (a ∷ arms) = omega (arith, few_arms arms)

few_phrases : (ps : List Phrase) → length ps ≤ phrases_bytes ps
few_phrases [] = omega arith
few_phrases (p ∷ ps) = omega (arith, few_phrases ps)

arm_at : (arms : List Arm) (j : ℕ) (x : Arm) → slice_get arms j ≡ Some x → arm_bytes x ≤ arms_bytes arms
arm_at [] j x e = cc
arm_at (a ∷ arms) zero x e = let same : a ≡ x = cc in subst (λ y. arm_bytes y ≤ arms_bytes (a ∷ arms)) same (omega arith)
arm_at (a ∷ arms) (suc j) x e = omega (arith, arm_at arms j x e)

phrase_at : (ps : List Phrase) (k : ℕ) (q : Phrase) → slice_get ps k ≡ Some q → phrase_bytes q ≤ phrases_bytes ps
phrase_at [] k q e = cc
phrase_at (p ∷ ps) zero q e = let same : p ≡ q = cc in subst (λ y. phrase_bytes y ≤ phrases_bytes (p ∷ ps)) same (omega arith)
phrase_at (p ∷ ps) (suc k) q e = omega (arith, phrase_at ps k q e)

procedure_at : (cs : List CodeProcedure) (k : ℕ) (d : CodeProcedure) → k < length cs → procedure_bytes (get_or cs k d) ≤ procedures_bytes cs
procedure_at [] k d lt = absurd (omega (arith, lt))
procedure_at (c ∷ cs) zero d lt = omega arith
procedure_at (c ∷ cs) (suc k) d lt = omega (arith, procedure_at cs k d (omega (arith, lt)))

some_arms : (arms : List Arm) → 0 < first_start arms → 0 < length arms
some_arms [] lt = absurd (omega (arith, lt))
some_arms (a ∷ arms) lt = omega arith

module _ (m : Module) (s : Sound m) (p : Procedure) (h : BodyFine m p) (small : procedure_bytes (procedure_code m p) < 2 ^ 32) where
  abbrev c : CodeProcedure
  c = procedure_code m p

  arm_in_range : (k : ℕ) (q : Phrase) → slice_get c.phrases k ≡ Some q → (j : ℕ) (x : Arm) → slice_get q.arms j ≡ Some x
      → ArmInRange (module_code m).signals (module_code m).links x
  arm_in_range k q e j x f =
      let y = phrase_arms m s p h k q e j x f in
      record {
        labelled = y.labelled;
        few = omega (arith, small, phrase_at c.phrases k q e, arm_at q.arms j x f, few_labels x.labels);
        labels = y.labels;
      }

  phrase_in_range : (k : ℕ) (q : Phrase) → slice_get c.phrases k ≡ Some q → PhraseInRange (module_code m).signals (module_code m).links q
  phrase_in_range k q e =
      let y = ((procedure_fills m p).right k q (slice_get_within c.phrases k q e) e).stands in
      record {
        armed = some_arms q.arms (omega (arith, y.filled, y.earlier));
        few = omega (arith, small, phrase_at c.phrases k q e, few_arms q.arms);
        arms = all_from_get (ArmInRange (module_code m).signals (module_code m).links) q.arms (arm_in_range k q e);
      }

  shallow : c.depth ≤ STACK_WORDS
  shallow =
      let U = uncoded m p in
      let Γ = scope_of m p.head.takes p.head.gives p.body in
      let z = scratch U + 16 in
      written_shallow (phrase_count (body_block m p)) STACK_WORDS (body_block m p)
      (block_shallow U STACK_WORDS (omega arith) Γ h.words z p.body.does (h.sound).does) (omega (arith, keeps U Γ h.words p.body.does (h.sound).does z 0))

  in_range : InOrder c.code → ProcedureInRange (module_code m).signals (module_code m).links c
  unfolding scope_of
  in_range order = record {
    frame = omega (arith, (h.sound).small);
    words = omega (arith, words_joined (kinds_of p.head.takes) (join (kinds_of p.head.gives) p.body.variables), words_joined (kinds_of p.head.gives) p.body.variables);
    depth = shallow;
    code = order;
    few = omega (arith, small, few_phrases c.phrases);
    phrases = all_from_get (PhraseInRange (module_code m).signals (module_code m).links) c.phrases phrase_in_range;
  }

-- a signal is a node
signals_few : (m : Module) → length m.signals ≤ nodes m
unfolding nodes
signals_few m = omega arith

pub ranges_are_kept : RangesAreKept
ranges_are_kept m s few =
    let c = module_code m in
    let each = each_procedure m s (λ q. procedure_bytes q < 2 ^ 32 → InOrder q.code → ProcedureInRange c.signals c.links q) (λ p h small. in_range m s p h small) in
    let orders = modules_are_in_order m s few in
    record {
      few_globals = s.globals;
      few_signals = omega (arith, few, length-map m.signals signal_code, signals_few m);
      each_signal = All-map SignalInRange signal_code m.signals (λ k d lt. signal_in_range _ (s.signals k d lt));
      few_strings = s.strings;
      each_string = s.short_strings;
      each_link = All-map LinkInRange link_code (links_of m.imports) (λ k d lt. link_in_range _ (heads_linked m.imports s.imports k d lt));
      body = (no_fields [] refl, no_fields [] refl);
      few_procedures = omega (arith, few_of c.procedures, modules_are_short m s, few);
      each_procedure = λ k d lt. each k d lt (omega (arith, procedure_at c.procedures k d lt, modules_are_short m s, few)) (orders k d lt);
    }
