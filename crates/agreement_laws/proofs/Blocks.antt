-- Blocks: their statements run in the range of their phrase, where their labels are visible.
use Rattle.std.proofs.Common.{◌≡◌, ℕ, suc, ◌+◌, [], Bool, true, false, refl, sym, subst, le_refl, arith}
use Rattle.std.specs.Prelude.{nat_eq}
use Rattle.std.proofs.lemmas.Bool.{ltb-true}
use Rattle.mesa_types.specs.Typed.{Phrase, NoPhrase, Block, Stmts, Exits}
use Rattle.mesa_types.specs.Counts.{hidden, hidden_phrase, hidden_stmts, hidden_exits}
use Rattle.mesa_types.specs.Sound.{PhraseIn, StmtIn, StmtsIn}
use Rattle.source_meaning.specs.State.{State, Answer, Normal, Gives, Go, Resumed, Rejected, Retried, Continued, Uncaught, Spent, FrameLimit, Broken, Result, Run, carry, after, give, branch, labelled}
use Rattle.source_meaning.specs.Meaning.{does, sequence, exits}
use Rattle.source_meaning.specs.Signals.{catching, through, through_of, unwind, first_arm}
use Rattle.source_meaning.specs.Variables.{Where}
use Rattle.machine_rules.specs.State.{Store}
use Rattle.code_rules.specs.CodeFor as row
use Rattle.code_rules.specs.CodeFor.{PhraseCode, StmtsCode}
use Rattle.code_rules.specs.Reading.{Place, beyond}
use Rattle.code_rules.proofs.Whole.{stmts_run, exits_run}
use Rattle.agreement_laws.specs.World.{World}
use Rattle.agreement_laws.specs.Standing.{Frames}
use Rattle.agreement_laws.specs.Relation.{Agrees, standing}
use Rattle.agreement_laws.specs.Contexts.{Site, Context, InPlace, Inside}
use Rattle.agreement_laws.specs.Promises.{next, caught, PhrasesFollow, Follows, SequenceFollows}
use Rattle.agreement_laws.proofs.Doing.{Did, comes_here, onward_done}
use Rattle.agreement_laws.proofs.Exits.{ExitsFollow, no_label, labelled_row}
use Rattle.agreement_laws.proofs.Labels.{labelled_site, label_there, context_labelled}
use Rattle.agreement_laws.proofs.Moving.{place_part, place_first, run_order, inside_part, onward_run}
use Rattle.agreement_laws.proofs.Nothing.{statements_nothing}

module _ (W : World) (n : ℕ) where
  -- Statements in the range of a phrase.

  same_both : (b : Bool) (x : Run) (σ : State) → branch b x x σ ≡ x σ
  unfolding branch
  same_both true x σ = refl
  same_both false x σ = refl

  through_nothing : (w : Where) (a : Answer) (σ : State) → through_of (next W n) w NoPhrase a σ ≡ record { answer = a; state = σ }
  unfolding through_of give unwind first_arm
  through_nothing w Normal σ = refl
  through_nothing w (Gives vs) σ = refl
  through_nothing w (Go f p) σ = same_both (nat_eq f w.frame) (give (Go f p)) σ
  through_nothing w (Resumed vs) σ = refl
  through_nothing w Rejected σ = refl
  through_nothing w (Retried k) σ = refl
  through_nothing w (Continued k) σ = refl
  through_nothing w (Uncaught signal) σ = refl
  through_nothing w Spent σ = refl
  through_nothing w FrameLimit σ = refl
  through_nothing w Broken σ = refl

  module _ (phrases : PhrasesFollow W n) where
    phrased : (K : Site) (w v : Place) (ph : Phrase) (ss : Stmts) (a c : ℕ) (μ : Frames) (m : Store) (σ : State) → SequenceFollows W n ss → PhraseCode K.code w ph a c v
        → StmtsCode K.code (beyond (hidden_phrase ph) v) ss a c → PhraseIn K.scope ph → StmtsIn K.scope ss → InPlace W K w (hidden_phrase ph + hidden_stmts ss)
        → Inside W K.ground a c → Agrees W (suc n) K.ground μ m σ
        → Did W (suc n) K w.around c (standing K.ground a [] μ m) (through (next W n) K.meant ph (sequence W.program (next W n) ss (catching ph K.meant)) σ)
    unfolding through after carry catching through_of give
    phrased K w v ph ss a c μ m σ follows row.no_phrase stmts phrase_in sound place inside now =
        let s0 = standing K.ground a [] μ m in
        let r = sequence W.program (next W n) ss K.meant σ in
        subst (λ (q : Result). Did W (suc n) K w.around c s0 q) (sym (through_nothing K.meant r.answer r.state))
        (follows K (beyond (hidden_phrase ph) w) a c μ m σ stmts sound
        (place_part W K w (hidden_phrase ph + hidden_stmts ss) (hidden_phrase ph) (hidden_stmts ss) (omega arith) place) inside now)
    phrased K w v ph ss a c μ m σ follows row.no_range stmts phrase_in sound place inside now =
        subst (λ (q : Result). Did W (suc n) K w.around c (standing K.ground a [] μ m) (through_of (next W n) K.meant ph q.answer q.state))
        (sym (statements_nothing W.program (next W n) K.scope stmts sound (le_refl a) (catching ph K.meant) σ)) (comes_here W (suc n) K w.around a μ m σ now)
    phrased K w v ph ss a c μ m σ follows (row.catch phrase regions lt is arms) stmts phrase_in sound place inside now =
        let code = row.catch phrase regions lt is arms in
        let f = phrases K w v ph a c (hidden_stmts ss) code phrase_in (ltb-true a c lt) (stmts_run stmts) place inside in
        let over = caught ph (w.slot + hidden_phrase ph) K in
        let e : w.slot + (hidden_phrase ph + hidden_stmts ss) ≡ (w.slot + hidden_phrase ph) + hidden_stmts ss = omega arith in
        f.statement c (standing K.ground a [] μ m) (sequence W.program (next W n) ss (catching ph K.meant) σ)
        (follows over (beyond (hidden_phrase ph) v) a c μ m σ stmts sound
        (subst (λ z. Context W over v.points v.around (w.slot + hidden_phrase ph) z) e f.context) inside now)

    pub block_follows : (ph : Phrase) (ss : Stmts) (es : Exits) → SequenceFollows W n ss → ExitsFollow W n es → Follows W n (Block ph ss es)
    unfolding does hidden StmtIn labelled after carry
    block_follows ph ss es follows exits_promise K w a b μ m σ (row.block {v = v} offsets c d code stmts on last) sound place inside now =
        let past = sound.0 in
        let low = run_order (stmts_run stmts) in let mid = run_order (onward_run on) in let high = run_order (exits_run last) in
        let words = hidden_phrase ph + hidden_stmts ss + hidden_exits es in
        let behind = beyond (hidden_phrase ph + hidden_stmts ss) w in
        let inner = labelled_site K past es offsets in
        let wl = row.with_labels es offsets w in
        let s0 = standing K.ground a [] μ m in
        let ctx = context_labelled W K past es offsets sound.1 w.points w.around w.slot (w.slot + words)
        (λ l to e. let x = label_there last l to e in let y = x.low in (x.offset, x.is, inside x.offset (omega (arith, low, mid, y)) x.high)) place in
        let r = through (next W n) K.meant ph (sequence W.program (next W n) ss (catching ph K.meant)) σ in
        labelled_row W (suc n) K w.around past es offsets b (exits W.program (next W n) es K.meant) s0 r.state
        (λ l to e. let t = label_there last l to e in (t.offset, t.is))
        (λ l x ν q e agrees. exits_promise K behind offsets b d b l x ν q r.state last sound.4 e
        (place_part W K w words (hidden_phrase ph + hidden_stmts ss) (hidden_exits es) (omega arith) place) (inside_part W K.ground a b d b (omega (arith, low, mid)) (omega arith) inside) agrees)
        (λ l e. no_label W n K last l r.state e)
        r.answer
        (onward_done W (suc n) inner wl (w.slot + words) ctx w b c d s0 r on
        (phrased inner wl v ph ss a c μ m σ follows code stmts sound.2 sound.3 (place_first W inner wl words (hidden_phrase ph + hidden_stmts ss) (omega arith) ctx)
        (inside_part W K.ground a b a c (omega arith) (omega (arith, mid, high)) inside) now))
