-- The rows of blocks of statements, with their ENABLE and their labels.
use Rattle.std.proofs.Common.{◌≡◌, refl, sym, ap, ◌∙◌, subst, ℕ, zero, suc, ◌+◌, List, [], ◌∷◌, ◌++◌, arith}
use Rattle.mesa_types.specs.Sound as sound
use Rattle.mesa_types.specs.Sound.{Scope, LabelsIn, HasArm}
use Rattle.mesa_types.specs.Typed.{Phrase, NoPhrase, Catch, Arms, NoArms, AndArm, Block, Stmts, Exits}
use Rattle.mesa_types.specs.Counts.{hidden_phrase, hidden_stmts}
use Rattle.code_rules.specs.CodeFor.{PhraseCode, StmtsCode, no_phrase, no_range, in_range, block, label_at, with_labels}
use Rattle.code_rules.specs.Reading.{Coded, Place, beyond}
use Rattle.code_blocks.specs.Blocks as tree
use Rattle.code_blocks.specs.Blocks.{Here, Enables, ArmBlocks, NoArmBlock, AndArmBlock, ◌▹◌}
use Rattle.code_blocks.specs.Sizes.{size, depth_behind}
use Rattle.code_blocks.specs.Translation.{past_exits, enabled, caught_by, arm_blocks, blocks, exits}
use Rattle.code_blocks.specs.Writing.{Env, Pending, in_part, end_at, block_phrases, own_phrase, unless_empty}
use Rattle.code_blocks.proofs.Around.{Inside}
use Rattle.code_blocks.proofs.Known.{Known}
use Rattle.code_blocks.proofs.Labels.{are_fresh, known_in_labelled}
use Rattle.code_blocks.proofs.Lying.{Laid, laid, part_lies, inside_block}
use Rattle.code_blocks.proofs.ExpressionRows.{L, next}
use Rattle.code_blocks.proofs.CallRows.{Held, Phrased, SpotOf, catch_row}
use Rattle.code_blocks.proofs.StatementRows.{Stands, AllStand}
use Rattle.code_blocks.proofs.LabelRows.{ExitsStand, exits_row, past_exits_row}

-- in no bytes there are no phrases
none_inside : (a : ℕ) (ps : List Pending) → Inside a (a + 0) ps → ps ≡ []
none_inside a [] h = refl
none_inside a (q ∷ ps) h = absurd (omega (arith, (h.0).0, (h.0).1, (h.0).2))

module _ (S : Laid) (held : Held S) where
  abbrev pub U : Coded
  U = S.names

  abbrev pub P : Coded
  P = laid S

  abbrev pub KeepsAll : Stmts → Type 0
  KeepsAll ss = (z d : ℕ) → depth_behind (blocks U z ss) d ≡ d

  enabled_depth : (arms : ArmBlocks) (B : tree.Block) (d : ℕ) → depth_behind B d ≡ d → depth_behind (enabled arms B) d ≡ d
  enabled_depth NoArmBlock B d e = e
  enabled_depth (AndArmBlock labels slot words arm arms) B d e = e

  -- a phrase over the code of some statements
  caught : (Γ : Scope) (statement : ℕ) (arms : Arms) → Phrased S held Γ (Catch statement arms) → (ss : Stmts) → AllStand S Γ ss → (E : Env) (w : Place)
      → Known Γ E.points w.points → (a c n : ℕ) → (B : tree.Block) → B ≡ blocks U (w.slot + hidden_phrase (Catch statement arms)) ss → size B ≡ n
      → L S (Enables (arm_blocks U w.slot arms) B) E w a → c ≡ a + n
      → (v : Place) × PhraseCode P w (Catch statement arms) a c v × StmtsCode P (beyond (hidden_phrase (Catch statement arms)) v) ss a c
  caught Γ statement arms phrased ss stand E w known a c zero B is none l eq =
      let nothing_there : block_phrases B E a ≡ [] =
      none_inside a (block_phrases B E a) (subst (λ n. Inside a (a + n) (block_phrases B E a)) none (inside_block B E a)) in
      let s0 : SpotOf S held w [] l.number a (a + size B) w.around =
      subst (λ n. SpotOf S held w (unless_empty n (own_phrase (arm_blocks U w.slot arms) E a (a + size B) ++ block_phrases B E a)) l.number a (a + size B)
      w.around) none l.spot in
      let inner : L S B E w a = record {
        has = l.has;
        number = l.number;
        spot = subst (λ ps. SpotOf S held w ps l.number a (a + size B) w.around) (sym nothing_there) s0;
      } in
      let here : a ≡ c = omega (arith, eq) in (
        w,
        subst (λ z. PhraseCode P w (Catch statement arms) a z w) here no_range,
        stand E (beyond (hidden_phrase (Catch statement arms)) w) known a c (subst (λ X. L S X E w a) is inner)
            (omega (arith, eq, none, ap size is)),
      )
  caught Γ statement arms phrased ss stand E w known a c (suc n) B is some l eq =
      let own = own_phrase (arm_blocks U w.slot arms) E in
      let s0 : SpotOf S held w (own a (a + size B) ++ block_phrases B E a) l.number a (a + size B) w.around =
      subst (λ m. SpotOf S held w (unless_empty m (own a (a + size B) ++ block_phrases B E a)) l.number a (a + size B) w.around) some l.spot in
      let end : a + size B ≡ c = omega (arith, some, eq) in
      let s1 : SpotOf S held w (own a c ++ block_phrases B E a) l.number a c w.around =
      subst (λ m. SpotOf S held w (own a m ++ block_phrases B E a) l.number a m w.around) end s0 in
      let x = catch_row S held Γ statement arms phrased.0 phrased.1 E w known (block_phrases B E a) l.number a c (omega (arith, eq)) s1 in
      let v = in_range l.number w in
      let inner : L S B E v a = record {
        has = l.has;
        number = suc l.number;
        spot = subst (λ m. SpotOf S held v (block_phrases B E a) (suc l.number) a m v.around) (sym end) x.1;
      } in (
        v,
        x.0,
        stand E (beyond (hidden_phrase (Catch statement arms)) v) known a c (subst (λ X. L S X E v a) is inner) (omega (arith, eq, some, ap size is)),
      )

  enabled_row : (Γ : Scope) (ph : Phrase) → Phrased S held Γ ph → (ss : Stmts) → AllStand S Γ ss → (E : Env) (w : Place) → Known Γ E.points w.points → (a c : ℕ)
      → L S (enabled (caught_by U w.slot ph) (blocks U (w.slot + hidden_phrase ph) ss)) E w a
      → c ≡ a + size (enabled (caught_by U w.slot ph) (blocks U (w.slot + hidden_phrase ph) ss))
      → (v : Place) × PhraseCode P w ph a c v × StmtsCode P (beyond (hidden_phrase ph) v) ss a c
  unfolding HasArm
  enabled_row Γ NoPhrase phrased ss stand E w known a c l eq = (w, no_phrase, stand E (beyond (hidden_phrase NoPhrase) w) known a c l eq)
  enabled_row Γ (Catch statement NoArms) phrased ss stand E w known a c l eq = absurd phrased.0
  enabled_row Γ (Catch statement (AndArm labels first count s arms)) phrased ss stand E w known a c l eq =
      caught Γ statement (AndArm labels first count s arms) phrased ss stand E w known a c _ _ refl refl l eq

  pub block_row : (Γ : Scope) (ph : Phrase) (ss : Stmts) (es : Exits) (past : ℕ) → LabelsIn Γ past es → Phrased S held (sound.in_labelled past es Γ) ph
      → AllStand S (sound.in_labelled past es Γ) ss → KeepsAll ss → ExitsStand S Γ es → Stands S Γ (Block ph ss es)
  block_row Γ ph ss es past new phrased stand keeps exit E w known a b l eq =
      let A = caught_by U w.slot ph in
      let B = blocks U (w.slot + hidden_phrase ph) ss in
      let v = beyond (hidden_phrase ph + hidden_stmts ss) w in
      let before = enabled A B ▹ past_exits es 0 in
      let whole = exits U v.slot es before in
      let E1 = in_part (Here 0) a (a + size whole) E in
      let r = exits_row S Γ es exit before E1 v known (are_fresh Γ E.points w.points known past es new) a b
      (part_lies S (Here 0) whole E w.around w.depth a l) eq (sym eq) in
      let wl = with_labels es r.offsets w in
      let kn = known_in_labelled Γ E.points w.points known past es new (label_at es r.offsets) (record { found = r.found; absent = r.absent })
      (r.inner).points r.labelled in
      let x = next S (enabled A B) (past_exits es 0) r.inner wl a w.depth r.lies (enabled_depth A B w.depth (keeps (w.slot + hidden_phrase ph) w.depth)) in
      let c = a + size (enabled A B) in
      let en = enabled_row (sound.in_labelled past es Γ) ph phrased ss stand r.inner wl kn a c x.0 refl in
      let d = a + size before in
      block r.offsets c d en.1 en.2 (past_exits_row S es v.slot 0 before r.inner w a b c d (ap (λ os. end_at os 0) r.ends ∙ sym eq) x.1 (omega arith) refl eq)
      r.stand
