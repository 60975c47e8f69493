-- The rows of calls and raises, and of the phrases of constructs.
use Rattle.std.proofs.Common.{◌≡◌, refl, sym, subst, ℕ, suc, ◌+◌, ◌<◌, List, [], ◌∷◌, ◌++◌, append-nil, Some, arith}
use Rattle.std.proofs.lemmas.Bool.{le-leb}
use Rattle.std.specs.Prelude.{slice_get}
use Rattle.mesa_types.specs.declared.typed_parts.Callee.{Callee}
use Rattle.mesa_types.specs.declared.typed_parts.Raised.{Raised}
use Rattle.mesa_types.specs.Typed.{Kinds, Call, Raise, Exprs, Phrase, NoPhrase, Catch, Arms, NoArms, AndArm}
use Rattle.mesa_types.specs.Counts.{hidden_exprs, words_given}
use Rattle.mesa_types.specs.Sound.{Scope, ExprsIn, HasArm}
use Rattle.code_forms.specs.declared.instruction.Instruction.{Instruction}
use Rattle.code_forms.specs.Instructions.{bytes_of}
use Rattle.code_forms.proofs.Ordered.{some_bytes}
use Rattle.code_rules.specs.CodeFor.{ExprsCode, PhraseCode, ArmsCode, call, raise, no_phrase, catch, in_range}
use Rattle.code_rules.specs.Links.{call_code, raise_code}
use Rattle.code_rules.specs.OwnCode.{arrange_code}
use Rattle.code_rules.specs.Reading.{Coded, Place, Own, past_all, in_region}
use Rattle.code_rules.specs.Slots.{sizes}
use Rattle.code_blocks.specs.Blocks.{Does, Calls, ◌▹◌}
use Rattle.code_blocks.specs.Own.{bytes_in}
use Rattle.code_blocks.specs.Sizes.{size}
use Rattle.code_blocks.specs.Translation.{values, caught_by, arm_blocks}
use Rattle.code_blocks.specs.Writing.{Env, Pending, pending, own_phrase, in_arms, regions}
use Rattle.code_blocks.proofs.Around.{Spot, bare, enter}
use Rattle.code_blocks.proofs.Known.{Known}
use Rattle.code_blocks.proofs.Lying.{Laid, laid, ArmsLie, own_lies, one_stands}
use Rattle.code_blocks.proofs.Own.{arrange_own}
use Rattle.code_blocks.proofs.Values.{arranged}
use Rattle.code_blocks.proofs.ExpressionRows.{L, next, Value, Values, past_values}

-- the arms of each phrase lie where its regions are
abbrev pub Held : Laid → Type 0
Held S = (j : ℕ) (q : Pending) (e : slice_get S.found j ≡ Some q) → ArmsLie S q.arms (in_arms q.env) (S.written j q e).0

module _ (S : Laid) (held : Held S) where
  abbrev pub U : Coded
  U = S.names

  abbrev pub P : Coded
  P = laid S

  -- these arms stand wherever their regions lie
  abbrev pub Armed : Scope → Arms → Type 0
  Armed Γ arms = (E : Env) (w : Place) → Known Γ E.points w.points → (at : ℕ) → ArmsLie S (arm_blocks U w.slot arms) (in_arms E) at
      → ArmsCode P (in_region w) arms (regions (arm_blocks U w.slot arms) at)

  -- the phrases of a construct, the first of which is a phrase with these arms over all of it
  abbrev pub SpotOf : Place → List Pending → (j a b : ℕ) → List ℕ → Type 0
  SpotOf w ps j a b around = Spot (P.routine).phrases S.found S.written ps j a b around

  pub catch_row : (Γ : Scope) (statement : ℕ) (arms : Arms) → HasArm arms → Armed Γ arms → (E : Env) (w : Place) → Known Γ E.points w.points
      → (ps : List Pending) (j a b : ℕ) → a < b → SpotOf w (own_phrase (arm_blocks U w.slot arms) E a b ++ ps) j a b w.around
      → PhraseCode P w (Catch statement arms) a b (in_range j w) × SpotOf w ps (suc j) a b (j ∷ w.around)
  unfolding HasArm
  catch_row Γ statement NoArms some armed E w known ps j a b lt spot = absurd some
  catch_row Γ statement (AndArm labels first count s arms) some armed E w known ps j a b lt spot =
      let q = pending a b (arm_blocks U w.slot (AndArm labels first count s arms)) E in
      let e : slice_get S.found j ≡ Some q = (spot.has).0 in
      let at = (S.written j q e).0 in (
        catch j (regions (arm_blocks U w.slot (AndArm labels first count s arms)) at) (le-leb (suc a) b lt) (S.written j q e).1
            (armed E w known at (held j q e)),
        enter (P.routine).phrases S.found S.written q ps j a b w.around spot (omega arith) (omega arith),
      )

  -- one instruction and its phrase
  abbrev pub Phrased : Scope → Phrase → Type 0
  Phrased Γ NoPhrase = Unit {0}
  Phrased Γ (Catch statement arms) = HasArm arms × Armed Γ arms

  call_lies : (Γ : Scope) (ph : Phrase) → Phrased Γ ph → (x : Instruction) (takes puts : ℕ) (E : Env) (w : Place) → Known Γ E.points w.points
      → (a b : ℕ) → L S (Calls x takes puts (caught_by U w.slot ph)) E w a → b ≡ a + bytes_of x
      → (v : Place) × PhraseCode P w ph a b v × Own P v (x ∷ []) a b
  call_lies Γ NoPhrase p x takes puts E w known a b l eq = (
    w,
    no_phrase,
    one_stands S w x a b (l.has).0
        (bare (P.routine).phrases S.found S.written l.number a (a + bytes_of x) a w.around l.spot (omega arith) (omega (arith, some_bytes x))) eq,
  )
  call_lies Γ (Catch statement arms) p x takes puts E w known a b l eq =
      let ps = own_phrase (arm_blocks U w.slot arms) E a b in
      let s0 : SpotOf w ps l.number a b w.around =
      subst (λ n. SpotOf w (own_phrase (arm_blocks U w.slot arms) E a n) l.number a n w.around) (sym eq) l.spot in
      let s1 : SpotOf w (ps ++ []) l.number a b w.around = subst (λ qs. SpotOf w qs l.number a b w.around) (sym (append-nil ps)) s0 in
      let c = catch_row Γ statement arms p.0 p.1 E w known [] l.number a b (omega (arith, eq, some_bytes x)) s1 in
      let v = in_range l.number w in (
        v,
        c.0,
        one_stands S v x a b (l.has).0
            (bare (P.routine).phrases S.found S.written (suc l.number) a b a (l.number ∷ w.around) c.1 (omega arith) (omega (arith, eq, some_bytes x))) eq,
      )

  module _ (Γ : Scope) where
    -- values in order and a call of them
    called : (places : List ℕ) (es : Exprs) (ks : Kinds) → ExprsIn Γ es ks → Values S Γ es → (ph : Phrase) → Phrased Γ ph → (x : Instruction) (words : ℕ)
        → (E : Env) (w : Place) → Known Γ E.points w.points → (a b : ℕ)
        → L S (values U w.slot es ▹ Does (arrange_code places (sizes es)) ▹ Calls x (words_given es) words (caught_by U (w.slot + hidden_exprs es) ph)) E w a
        → b ≡ a + (size (values U w.slot es) + (bytes_in (arrange_code places (sizes es)) + bytes_of x))
        → (c : ℕ) × (d : ℕ) × (v : Place) × ExprsCode P w es a c × Own P (past_all es w) (arrange_code places (sizes es)) c d
        × PhraseCode P (past_all es w) ph d b v × Own P v (x ∷ []) d b
    called places es ks h vs ph phrased x words E w known a b l eq =
        let is = arrange_code places (sizes es) in
        let last = Calls x (words_given es) words (caught_by U (w.slot + hidden_exprs es) ph) in
        let m = past_values S Γ es ks h (Does is ▹ last) E w a l in
        let c = a + size (values U w.slot es) in
        let n = next S (Does is) last E (past_all es w) c (w.depth + words_given es) m.1 (arranged U places es (w.depth + words_given es) w.depth refl) in
        let d = c + bytes_in is in
        let y = call_lies Γ ph phrased x (words_given es) words E (past_all es w) known d b n.1 (omega (arith, eq)) in
        (c, d, y.0, vs E w known a c m.0 refl, own_lies S (past_all es w) is E c d (arrange_own places (sizes es)) n.0 refl, y.1, y.2)

    pub call_row : (callee : Callee) (places : List ℕ) (es : Exprs) (words : ℕ) (ph : Phrase) (ks : Kinds) → ExprsIn Γ es ks → Values S Γ es → Phrased Γ ph
        → Value S Γ (Call callee places es words ph)
    call_row callee places es words ph ks h vs phrased E w known a b l eq =
        let x = called places es ks h vs ph phrased (call_code U.imports callee) words E w known a b l eq in
        call x.0 x.1 x.3 x.4 x.5 x.6

    pub raise_row : (raised : Raised) (places : List ℕ) (es : Exprs) (words : ℕ) (ph : Phrase) (ks : Kinds) → ExprsIn Γ es ks → Values S Γ es → Phrased Γ ph
        → Value S Γ (Raise raised places es words ph)
    raise_row raised places es words ph ks h vs phrased E w known a b l eq =
        let x = called places es ks h vs ph phrased (raise_code U.imports raised) words E w known a b l eq in
        raise x.0 x.1 x.3 x.4 x.5 x.6
