-- The end of a counted round: what its instructions make of the three words that count.
use Rattle.std.proofs.Common.{◌≡◌, ℕ, zero, suc, ◌+◌, ◌<◌, List, [], ◌∷◌, length, true, false, Some, ap, ◌∙◌, arith}
use Rattle.mesa_types.specs.declared.typed_parts.Given.{Given}
use Rattle.mesa_types.specs.Operators.{wrap}
use Rattle.code_forms.specs.declared.instruction.Instruction.TheVariants as i
use Rattle.source_meaning.specs.State.{State}
use Rattle.machine_rules.specs.State.{Store}
use Rattle.machine_rules.specs.Words.{words_at, put_words, push}
use Rattle.machine_rules.specs.Working.{works, leaves, stores_local}
use Rattle.code_rules.specs.Loops.{CountedIn, step_code, up_code, down_code}
use Rattle.agreement_rules.specs.Layout.{Strings, slots_of}
use Rattle.agreement_rules.specs.Own.{Did, works_all, go_on}
use Rattle.agreement_rules.proofs.Memory.{same_list, read_long, read_slots}
use Rattle.agreement_laws.specs.World.{World, hidden_of}
use Rattle.agreement_laws.specs.Standing.{Here, Frames}
use Rattle.agreement_laws.specs.Relation.{Hold, Agreed}
use Rattle.agreement_laws.proofs.Counted.{flag_of}
use Rattle.agreement_laws.proofs.Keeping.{laid_words, lies_same, beside_begun}
use Rattle.agreement_laws.proofs.Selects.{others_same}
use Rattle.agreement_laws.proofs.Stacks.{with_words}
use Rattle.agreement_laws.proofs.Tests.{one_read}

pub two_read : (ws : List ℕ) (z x y : ℕ) → slots_of ws z ≡ x → slots_of ws (z + 1) ≡ y → words_at ws z 2 ≡ x ∷ y ∷ []
unfolding slots_of
two_read ws z x y e d = same_list (words_at ws z 2) (x ∷ y ∷ []) (read_long ws z 2) (λ n lt. by n lt)
  where
    by : (n : ℕ) → n < length (words_at ws z 2) → slots_of (words_at ws z 2) n ≡ slots_of (x ∷ y ∷ []) n
    by zero lt = read_slots ws z 2 0 (omega arith) ∙ ap (λ j. slots_of ws j) (omega arith) ∙ e
    by (suc zero) lt = read_slots ws z 2 1 (omega arith) ∙ d
    by (suc (suc n)) lt = let l = read_long ws z 2 in absurd (omega (arith, l, lt))

module _ (texts : Strings) (number : ℕ) (ws gs : List ℕ) (z : ℕ) (g : Given) (first last : ℕ) (one : slots_of ws z ≡ first) (two : slots_of ws (z + 1) ≡ last) where
  -- the flag is written
  abbrev pub flagged : List ℕ
  flagged = put_words ws (z + 2) (flag_of first last ∷ [])

  pub up_works : works_all texts number (step_code (CountedIn z g false)) (record { operands = []; variables = ws; globals = gs })
      ≡ Did (record { operands = []; variables = put_words flagged z (wrap (first + 1) ∷ []); globals = gs })
  unfolding works_all go_on works leaves stores_local
  up_works =
      ap (λ l. works_all texts number (i.Eq ∷ i.Not ∷ i.StoreL (z + 2) 1 ∷ up_code z) (record { operands = push l []; variables = ws; globals = gs })) (two_read ws z first last one two)
      ∙ ap (λ l. works_all texts number (i.Lit 1 ∷ i.Add ∷ i.StoreL z 1 ∷ []) (record { operands = push l []; variables = flagged; globals = gs }))
      (one_read flagged z first (others_same ws (z + 2) (flag_of first last) z (λ e. omega (arith, e)) ∙ one))

  pub down_works : works_all texts number (step_code (CountedIn z g true)) (record { operands = []; variables = ws; globals = gs })
      ≡ Did (record { operands = []; variables = put_words flagged (z + 1) (wrap (last + 65535) ∷ []); globals = gs })
  unfolding works_all go_on works leaves stores_local
  down_works =
      ap (λ l. works_all texts number (i.Eq ∷ i.Not ∷ i.StoreL (z + 2) 1 ∷ down_code (z + 1)) (record { operands = push l []; variables = ws; globals = gs })) (two_read ws z first last one two)
      ∙ ap (λ l. works_all texts number (i.Lit 1 ∷ i.Sub ∷ i.StoreL (z + 1) 1 ∷ []) (record { operands = push l []; variables = flagged; globals = gs }))
      (one_read flagged (z + 1) last (others_same ws (z + 2) (flag_of first last) (z + 1) (λ e. omega (arith, e)) ∙ two))

-- words that nobody holds are written
pub agreed_free : (W : World) (bound : ℕ) (control : List ℕ) (H : Hold) (B : List Here) (μ : Frames) (m : Store) (σ : State) (f : ℕ) (new : List ℕ) (begun : ℕ) → f < σ.store.fresh
    → ((n : ℕ) → n < hidden_of W (σ.store.procedures f) → slots_of new n ≡ slots_of (μ f) n) → ((y u : ℕ) → H f y ≡ Some u → slots_of new y ≡ slots_of (μ f) y)
    → Agreed W bound control H B μ m σ → Agreed W bound control H B (with_words μ f new) (record m { begun = begun }) σ
agreed_free W bound control H B μ m σ f new begun lt same held h = record {
  laid = laid_words W H μ σ.store f new (lies_same _ _ (σ.store.variables f) (μ f) new (λ n less. same n (omega (arith, less))) (h.laid.frames f lt))
      (λ y u e. held y u e ∙ h.laid.held f y u e) h.laid;
  beside = beside_begun W control m σ begun h.beside;
  count = h.count;
  falling = h.falling;
  named = h.named;
  enough = h.enough;
}
