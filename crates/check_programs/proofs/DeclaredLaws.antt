-- Procedures and signals as the code takes their steps.
use Rattle.std.proofs.Common.{◌≡◌, ◌+◌, ℕ, List, [], ◌∷◌, ◌++◌, map, Ok, Err, refl, sym, ap, ◌∙◌}
use Rattle.std.specs.Prelude.{Option}
use Rattle.mesa_base.specs.declared.identifier.Identifier.{Identifier}
use Rattle.mesa_types.specs.declared.faces.ItemKind.{ItemKind}
use Rattle.mesa_types.specs.declared.faces.ItemKind.TheVariants as item
use Rattle.syntax_trees.specs.declared.syntax.Access.{Access}
use Rattle.check_rules.specs.Meanings.{Procedure}
use Rattle.check_rules.specs.Names.{settle}
use Rattle.check_rules.specs.Parts.{first_name}
use Rattle.interface_records.specs.PlainTypes.{PlainItem}
use Rattle.check_rules.specs.Programs as spec
use Rattle.check_rules.specs.Programs.{Declared, Heading, Offer, ProcedureHead, SignalHead, if_public, named_item, procedure_offer, signal_meanings, signal_offers}
use Rattle.check_rules.specs.Steps.{State, Checked, and_then}
use Rattle.check_rules.specs.Typed.{OwnProcedure}
use Rattle.check_programs.specs.Found.{Found, also, with_one}
use Rattle.check_programs.specs.Heads.{first_item}
use Rattle.check_programs.specs.Steps.{few_signal_words}
use Rattle.check_programs.proofs.FoundLaws.{procedure_more, signals_more}
use Rattle.check_programs.proofs.ItemLaws.{procedure_is}

abbrev found_with : Found → Checked (Declared × State) → Checked (Found × State)
found_with f p = and_then p (λ r. Ok (with_one f r.0, r.1))

-- a declaration that leaves this
abbrev leaving : Declared → Checked (Unit {0} × State) → Checked (Declared × State)
leaving d p = and_then p (λ r. Ok (d, r.1))

module _ (f : Found) (xs : List Identifier) (access : Option Access) (n : ℕ) where
  abbrev procedure_with : Heading → ℕ → PlainItem → Declared
  procedure_with h words i = record {
    head = ProcedureHead i h.scope words;
    procedures = 1;
    signals = [];
    offers = if_public access (map (procedure_offer n i) xs);
  }

  abbrev found_procedure : Heading → ℕ → PlainItem → Found
  found_procedure h words i = record {
    heads = f.heads ++ ProcedureHead i h.scope words ∷ [];
    procedures = f.procedures + 1;
    signals = f.signals;
    offers = f.offers ++ if_public access (map (procedure_offer n i) xs);
  }

  abbrev to_procedure : PlainItem → State → Checked (Unit {0} × State)
  to_procedure i σ = settle xs (map (λ x. Procedure (OwnProcedure n) i) xs) σ

  procedure_by : (h : Heading) (words : ℕ) (i : PlainItem) (p : Checked (Unit {0} × State))
      → found_with f (leaving (procedure_with h words i) p) ≡ and_then p (λ r. Ok (found_procedure h words i, r.1))
  procedure_by h words i (Ok r) = ap (λ (g : Found). Ok (g, r.1)) (procedure_more f (ProcedureHead i h.scope words) (if_public access (map (procedure_offer n i) xs)))
  procedure_by h words i (Err e) = refl

  pub declared_is : (h : Heading) (words : ℕ) (i : PlainItem) (σ : State) → i ≡ first_item item.Procedure h.takes h.gives xs
      → also f (spec.declared_procedure xs access n (h, words)) σ ≡ and_then (to_procedure i σ) (λ r. Ok (found_procedure h words i, r.1))
  declared_is h words i σ e =
      ap (λ j. found_with f (leaving (procedure_with h words j) (to_procedure j σ))) (sym (e ∙ procedure_is h xs))
      ∙ procedure_by h words i (to_procedure i σ)

  abbrev signals_with : List PlainItem → Declared
  signals_with is = record { head = SignalHead; procedures = 0; signals = is; offers = if_public access (signal_offers n xs is) }

  abbrev found_signals : List PlainItem → Found
  found_signals is = record {
    heads = f.heads ++ SignalHead ∷ [];
    procedures = f.procedures;
    signals = f.signals ++ is;
    offers = f.offers ++ if_public access (signal_offers n xs is);
  }

  abbrev to_signals : List PlainItem → State → Checked (Unit {0} × State)
  to_signals is σ = settle xs (signal_meanings n is) σ

  signals_by : (is : List PlainItem) (p : Checked (Unit {0} × State))
      → found_with f (leaving (signals_with is) p) ≡ and_then p (λ r. Ok (found_signals is, r.1))
  signals_by is (Ok r) = ap (λ (g : Found). Ok (g, r.1)) (signals_more f SignalHead is (if_public access (signal_offers n xs is)))
  signals_by is (Err e) = refl

  abbrev behind_test : List PlainItem → State → Checked (Unit {0}) → Checked (Found × State)
  behind_test is σ q = found_with f (and_then (and_then {B = Unit {0} × State} q (λ u. Ok (u, σ))) (λ r. leaving (signals_with is) (to_signals is r.1)))

  pub signals_is : (kind : ItemKind) (h : Heading) (is : List PlainItem) (σ : State) → few_signal_words h (first_name xs) ≡ Ok tt → is ≡ map (named_item kind h) xs
      → also f (spec.declared_signals kind xs access n h) σ ≡ and_then (to_signals is σ) (λ r. Ok (found_signals is, r.1))
  signals_is kind h is σ few e =
      ap (λ q. behind_test (map (named_item kind h) xs) σ q) few
      ∙ ap (λ js. behind_test js σ (Ok tt)) (sym e)
      ∙ signals_by is (to_signals is σ)

  abbrev with_offers : List PlainItem → List Offer → Found
  with_offers is os = record { heads = f.heads ++ SignalHead ∷ []; procedures = f.procedures; signals = f.signals ++ is; offers = os }

  pub signals_put : (kind : ItemKind) (h : Heading) (is : List PlainItem) (σ τ : State) (os : List Offer) (new : Found)
      → few_signal_words h (first_name xs) ≡ Ok tt → is ≡ map (named_item kind h) xs → to_signals is σ ≡ Ok (tt, τ)
      → os ≡ f.offers ++ if_public access (signal_offers n xs is) → new ≡ with_offers is os
      → also f (spec.declared_signals kind xs access n h) σ ≡ Ok (new, τ)
  signals_put kind h is σ τ os new few e settled offered found =
      signals_is kind h is σ few e
      ∙ ap (λ (r : Checked (Unit {0} × State)). and_then {B = Found × State} r (λ q. Ok (found_signals is, q.1))) settled
      ∙ ap (λ (g : Found). Ok (g, τ)) (ap (with_offers is) (sym offered) ∙ sym found)
