-- The rows of conditions, and of AND and OR as values.
use Rattle.std.proofs.Common.{◌≡◌, refl, sym, subst, ℕ, suc, ◌+◌, List, [], ◌∷◌, ◌++◌, Bool, true, false, not, arith}
use Rattle.mesa_types.specs.declared.typed_parts.Base.{Base}
use Rattle.mesa_base.specs.declared.relation.Relation.{Relation}
use Rattle.mesa_types.specs.Typed.{Kinds, Expr, Relate, RelateLong, Not, AllOf, SomeOf, Exprs, NoExprs, AndExpr}
use Rattle.mesa_types.specs.Operators.{differ}
use Rattle.mesa_types.specs.Counts.{hidden_expr}
use Rattle.mesa_types.specs.Sound.{Scope, a_word, a_long, ExprIn, WordsIn}
use Rattle.code_forms.specs.declared.instruction.Instruction.{Instruction}
use Rattle.code_forms.specs.declared.instruction.Instruction.TheVariants as i
use Rattle.code_rules.specs.CodeFor.{BranchCode, OperandsCode, all_of, some_of, on_value, on_negation, on_relation, on_long_relation, unless_all, if_all, if_some, unless_some, no_operands, and_operand}
use Rattle.code_rules.specs.OwnCode.{comparison, long_comparison, is_opposite}
use Rattle.code_rules.specs.Reading.{Coded, Place, Own, past, beyond}
use Rattle.code_blocks.specs.Blocks.{Leap, Here, Anyhow, Where, Does, Ends, Out, ◌▹◌}
use Rattle.code_blocks.specs.Own.{bytes_in, left_of, AreOwn}
use Rattle.code_blocks.specs.Sizes.{leap_to, size}
use Rattle.code_blocks.specs.Translation.{turned, answer, where_related, where_long_related, forms, operands}
use Rattle.code_blocks.specs.Writing.{Env, in_part, end_at}
use Rattle.code_blocks.proofs.Known.{Known}
use Rattle.code_blocks.proofs.Lying.{Laid, laid, both_lie, part_lies, own_lies, out_lies, own_join}
use Rattle.code_blocks.proofs.Own.{all_fixed, comparison_own, long_comparison_own}
use Rattle.code_blocks.proofs.Values.{jump_depth, operands_depth}
use Rattle.code_blocks.proofs.ExpressionRows.{L, next, Value, Jumped, Operands, past_value}

module _ (S : Laid) where
  abbrev pub U : Coded
  U = S.names

  abbrev pub P : Coded
  P = laid S

  -- own code and a jump behind it
  pub own_then_out : (w : Place) (is : List Instruction) (l : Leap) (part target : ℕ) (E : Env) (a b : ℕ) → AreOwn is → end_at E.ends part ≡ target
      → L S (Does is ▹ Out l part) E w a → b ≡ a + size (Does is ▹ Out l part) → Own P w (is ++ leap_to l target ∷ []) a b
  own_then_out w is l part target E a b o at h eq =
      let x = both_lie S (Does is) (Out l part) E w.around w.depth a h in
      let c = a + bytes_in is in
      own_join S w is (leap_to l target ∷ []) a c b (all_fixed is o) (own_lies S w is E a c o x.0 refl)
      (out_lies S (record w { depth = left_of is w.depth }) l part target E c b at x.1 (omega (arith, eq)))

  module _ (Γ : Scope) where
    pub on_value_row : (e : Expr) (ks : Kinds) → ExprIn Γ e ks → Value S Γ e → (sense : Bool) (part target : ℕ) (E : Env) (w : Place) → Known Γ E.points w.points
        → (a b : ℕ) → end_at E.ends part ≡ target → L S ((forms U w.slot e).value ▹ Out (Where sense) part) E w a
        → b ≡ a + size ((forms U w.slot e).value ▹ Out (Where sense) part) → BranchCode P w e sense target a b
    on_value_row e ks h v sense part target E w known a b at l eq =
        let x = past_value S Γ e ks h (Out (Where sense) part) E w a l in
        let c = a + size (forms U w.slot e).value in
        on_value c (v E w known a c x.0 refl) (out_lies S (past e w) (Where sense) part target E c b at x.1 (omega (arith, eq)))

    pub on_relation_row : (base : Base) (o : Relation) (d e : Expr) → ExprIn Γ d a_word → ExprIn Γ e a_word → Value S Γ d → Value S Γ e
        → Jumped S Γ (Relate base o d e)
    on_relation_row base o d e h g v u sense part target E w known a b at l eq =
        let jump = where_related base o sense part in
        let x = past_value S Γ d a_word h ((forms U (w.slot + hidden_expr d) e).value ▹ jump) E w a l in
        let c = a + size (forms U w.slot d).value in
        let y = past_value S Γ e a_word g jump E (past d w) c x.1 in
        let f = c + size (forms U (w.slot + hidden_expr d) e).value in
        on_relation c f (v E w known a c x.0 refl) (u E (past d w) known c f y.0 refl)
        (own_then_out (past e (past d w)) (comparison base o) (Where (differ (is_opposite o) sense)) part target E f b (comparison_own base o) at y.1
        (omega (arith, eq)))

    pub on_long_relation_row : (base : Base) (o : Relation) (d e : Expr) → ExprIn Γ d a_long → ExprIn Γ e a_long → Value S Γ d → Value S Γ e
        → Jumped S Γ (RelateLong base o d e)
    on_long_relation_row base o d e h g v u sense part target E w known a b at l eq =
        let jump = where_long_related base o sense part in
        let x = past_value S Γ d a_long h ((forms U (w.slot + hidden_expr d) e).value ▹ jump) E w a l in
        let c = a + size (forms U w.slot d).value in
        let y = past_value S Γ e a_long g jump E (past d w) c x.1 in
        let f = c + size (forms U (w.slot + hidden_expr d) e).value in
        on_long_relation c f (v E w known a c x.0 refl) (u E (past d w) known c f y.0 refl)
        (own_then_out (past e (past d w)) (long_comparison base o) (Where (differ (is_opposite o) sense)) part target E f b (long_comparison_own base o) at y.1
        (omega (arith, eq)))

    pub on_negation_row : (e : Expr) → Jumped S Γ e → Jumped S Γ (Not e)
    on_negation_row e j sense part target E w known a b at l eq = on_negation (j (not sense) part target E w known a b at l eq)

    pub no_operands_row : Operands S Γ NoExprs
    no_operands_row sense part target E w known a b at l eq =
        subst (λ z. OperandsCode P w NoExprs sense target a z) {x = a} {y = b} (omega (arith, eq)) no_operands

    pub and_operand_row : (e : Expr) (es : Exprs) → ExprIn Γ e a_word → Jumped S Γ e → Operands S Γ es → Operands S Γ (AndExpr e es)
    and_operand_row e es h j js sense part target E w known a b at l eq =
        let first = (forms U w.slot e).jump sense part in
        let x = next S first (operands U (w.slot + hidden_expr e) es sense part) E w a w.depth l (jump_depth U Γ e h sense part w.slot w.depth) in
        let c = a + size first in
        and_operand c (j sense part target E w known a c at x.0 refl) (js sense part target E (beyond (hidden_expr e) w) known c b at x.1 (omega (arith, eq)))

    -- operands that lead past a jump
    past_jump : (es : Exprs) → WordsIn Γ es → Operands S Γ es → (sense : Bool) (part target : ℕ) (E : Env) (w : Place) → Known Γ E.points w.points
        → (a b : ℕ) → end_at E.ends part ≡ target → L S (turned true (operands U w.slot es sense) part) E w a
        → b ≡ a + size (turned true (operands U w.slot es sense) part)
        → (c : ℕ) × OperandsCode P w es sense b a c × Own P w (i.Jump target ∷ []) c b
    past_jump es h js sense part target E w known a b at l eq =
        let first = operands U w.slot es sense 0 in
        let body = first ▹ Out Anyhow (suc part) in
        let E1 = in_part (Here 0) a (a + size body) E in
        let x = next S first (Out Anyhow (suc part)) E1 w a w.depth (part_lies S (Here 0) body E w.around w.depth a l)
        (operands_depth U Γ es h sense 0 w.slot w.depth) in
        let c = a + size first in
        (c, js sense 0 b E1 w known a c (sym eq) x.0 refl, out_lies S w Anyhow (suc part) target E1 c b at x.1 (omega (arith, eq)))

    all_jump : (es : Exprs) → WordsIn Γ es → Operands S Γ es → Jumped S Γ (AllOf es)
    all_jump es h js false part target E w known a b at l eq = unless_all (js false part target E w known a b at l eq)
    all_jump es h js true part target E w known a b at l eq =
        let x = past_jump es h js false part target E w known a b at l eq in
        if_all x.0 x.1 x.2

    some_jump : (es : Exprs) → WordsIn Γ es → Operands S Γ es → Jumped S Γ (SomeOf es)
    some_jump es h js true part target E w known a b at l eq = if_some (js true part target E w known a b at l eq)
    some_jump es h js false part target E w known a b at l eq =
        let x = past_jump es h js true part target E w known a b at l eq in
        unless_some x.0 x.1 x.2

    pub all_jump_row : (es : Exprs) → WordsIn Γ es → Operands S Γ es → Jumped S Γ (AllOf es)
    all_jump_row es h js sense = all_jump es h js sense

    pub some_jump_row : (es : Exprs) → WordsIn Γ es → Operands S Γ es → Jumped S Γ (SomeOf es)
    some_jump_row es h js sense = some_jump es h js sense

    -- an answer by jumps
    answered : (es : Exprs) → WordsIn Γ es → Operands S Γ es → (sense : Bool) (word jumped : ℕ) (E : Env) (w : Place) → Known Γ E.points w.points → (a b : ℕ)
        → L S (answer (operands U w.slot es sense 0) word jumped) E w a → b ≡ a + size (answer (operands U w.slot es sense 0) word jumped)
        → (c : ℕ) × (d : ℕ) × OperandsCode P w es sense d a c × Own P w (i.Lit word ∷ i.Jump b ∷ []) c d × Own P w (i.Lit jumped ∷ []) d b
    answered es h js sense word jumped E w known a b l eq =
        let first = operands U w.slot es sense 0 in
        let tail = Does (i.Lit word ∷ []) ▹ Out Anyhow 1 in
        let inner = first ▹ tail in
        let whole = Ends (Here 0) inner ▹ Does (i.Lit jumped ∷ []) in
        let E1 = in_part (Here 1) a (a + size whole) E in
        let E2 = in_part (Here 0) a (a + size inner) E1 in
        let x = next S (Ends (Here 0) inner) (Does (i.Lit jumped ∷ [])) E1 w a w.depth (part_lies S (Here 1) whole E w.around w.depth a l) refl in
        let y = next S first tail E2 w a w.depth (part_lies S (Here 0) inner E1 w.around w.depth a x.0) (operands_depth U Γ es h sense 0 w.slot w.depth) in
        let c = a + size first in
        let d = a + size inner in (
          c,
          d,
          js sense 0 d E2 w known a c refl y.0 refl,
          own_then_out w (i.Lit word ∷ []) Anyhow 1 b E2 c d (tt, tt) (sym eq) y.1 (omega arith),
          own_lies S w (i.Lit jumped ∷ []) E1 d b (tt, tt) x.1 (omega (arith, eq)),
        )

    pub all_of_row : (es : Exprs) → WordsIn Γ es → Operands S Γ es → Value S Γ (AllOf es)
    all_of_row es h js E w known a b l eq =
        let x = answered es h js false 1 0 E w known a b l eq in
        all_of x.0 x.1 x.2 x.3 x.4

    pub some_of_row : (es : Exprs) → WordsIn Γ es → Operands S Γ es → Value S Γ (SomeOf es)
    some_of_row es h js E w known a b l eq =
        let x = answered es h js true 0 1 E w known a b l eq in
        some_of x.0 x.1 x.2 x.3 x.4
