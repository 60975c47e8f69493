-- Each form of statement follows its meaning where its parts do.
use Rattle.std.proofs.Common.{◌≡◌, ℕ, List, suc, ◌+◌, [], ◌∷◌, false, refl, sym, ◌∙◌, subst, le_refl, arith}
use Rattle.mesa_types.specs.declared.typed_parts.Goal.{Goal}
use Rattle.mesa_types.specs.declared.typed_parts.Home.{Home}
use Rattle.mesa_types.specs.Typed.{Kind, Expr, Exprs, Suffixes, Stmt, Null, Marked, Declare, Assign, Perform, If, Jump, ReturnWith, Resume, Reject, Retry, Continue, Stmts, NoStmts, AndStmt}
use Rattle.mesa_types.specs.Shapes.{one, words_in, words_in_all}
use Rattle.mesa_types.specs.Counts.{hidden, hidden_expr, hidden_exprs, hidden_suffixes, hidden_stmts, words_of}
use Rattle.mesa_types.specs.Sound.{StmtIn, StmtsIn}
use Rattle.mesa_types.proofs.WordSizes.{sizes_agree}
use Rattle.code_forms.specs.declared.instruction.Instruction.TheVariants as i
use Rattle.source_meaning.specs.Value.{path_of}
use Rattle.source_meaning.specs.State.{Result, carry, after, marked, dropped, value_then, on_values, on_value, on_word, on_normal, give, change}
use Rattle.source_meaning.specs.Meaning.{value, values, path, does, sequence}
use Rattle.code_rules.specs.CodeFor as row
use Rattle.code_rules.specs.Reading.{beyond, deeper, past, past_all}
use Rattle.code_rules.specs.Slots.{fields_of}
use Rattle.code_rules.proofs.Whole.{expr_run, exprs_run, path_run, branch_run, stmt_run, stmts_run}
use Rattle.agreement_rules.specs.Reaches.{Reaches}
use Rattle.agreement_rules.proofs.Lifted.{in_order}
use Rattle.agreement_laws.specs.World.{World}
use Rattle.agreement_laws.specs.Relation.{standing}
use Rattle.agreement_laws.specs.Promises as promise
use Rattle.agreement_laws.specs.Promises.{next, ExpressionsFollow, Follows, NextFollows, SequenceFollows}
use Rattle.agreement_laws.proofs.Arriving.{marked_row}
use Rattle.agreement_laws.proofs.Assigns.{assign_row, assign_element_row, puts}
use Rattle.agreement_laws.proofs.Declared.{zeros_show}
use Rattle.agreement_laws.proofs.Declares.{declared_comes}
use Rattle.agreement_laws.proofs.Doing.{Did, did_later, null_row}
use Rattle.agreement_laws.proofs.Fields.{variable_small}
use Rattle.agreement_laws.proofs.Ifs.{if_row, dropped_row}
use Rattle.agreement_laws.proofs.Jumps.{jump_row, retry_row, continue_row, reject_row}
use Rattle.agreement_laws.proofs.Marks.{marked_site, context_marked}
use Rattle.agreement_laws.proofs.Moving.{place_part, place_first, run_order, inside_part, onward_run}
use Rattle.agreement_laws.proofs.Ordering.{then_row}
use Rattle.agreement_laws.proofs.Owning.{law, own_gives}
use Rattle.agreement_laws.proofs.Returns.{return_row, resume_row}
use Rattle.agreement_laws.proofs.Suffixed.{variable_has_words}
use Rattle.agreement_laws.proofs.Variables.{static_path}

one_words : (k : Kind) → words_in_all (one k) ≡ words_in k
unfolding words_in_all one
one_words k = omega arith

module _ (W : World) (n : ℕ) where
  pub null_follows : Follows W n Null
  unfolding does
  null_follows K w a b μ m σ row.null sound place inside now = null_row W (suc n) K w.around b μ m σ now

  pub marked_follows : NextFollows W n → (k : ℕ) (s : Stmt) → Follows W n s → Follows W n (Marked k s)
  unfolding does hidden StmtIn marked after carry
  marked_follows again k s follows K w a b μ m σ (row.marked code) sound place inside now =
      let le = run_order (stmt_run code) in
      let r = does W.program (next W n) s K.meant σ in
      marked_row W n K w.around k a b (λ τ. next W n (Marked k s) K.meant τ) (promise.here K a [] μ m) r.answer r.state
      (λ ν l τ agrees. again.statement (Marked k s) K w a b ν l τ (row.marked code) sound place inside agrees)
      (follows (marked_site K k a b) (row.with_mark k a b w) a b μ m σ code sound.1
      (context_marked W K w.points w.around w.slot (w.slot + hidden s) k a b sound.0 (inside a (le_refl a) le) (inside b le (le_refl b)) place) inside now)

  pub jump_follows : (arms : ℕ) (goal : Goal) → Follows W n (Jump arms goal)
  unfolding does
  jump_follows arms goal K w a b μ m σ (row.jump to e own) sound place inside now =
      jump_row W (suc n) K w (w.slot + hidden (Jump arms goal)) place goal arms a b to μ m σ e own (inside a (le_refl a) (in_order own)) now

  pub retry_follows : (k : ℕ) → Follows W n (Retry k)
  unfolding does StmtIn
  retry_follows k K w a b μ m σ (row.retry to e own) sound place inside now =
      retry_row W (suc n) K w (w.slot + hidden (Retry k)) place k a b to μ m σ sound.0 e own (inside a (le_refl a) (in_order own)) now

  pub continue_follows : (k : ℕ) → Follows W n (Continue k)
  unfolding does StmtIn
  continue_follows k K w a b μ m σ (row.continue to e own) sound place inside now =
      continue_row W (suc n) K w (w.slot + hidden (Continue k)) place k a b to μ m σ sound.0 e own (inside a (le_refl a) (in_order own)) now

  pub reject_follows : Follows W n Reject
  unfolding does StmtIn
  reject_follows K w a b μ m σ (row.reject own) sound place inside now =
      reject_row W (suc n) K w (w.slot + hidden Reject) place a b μ m σ sound own now

  pub declare_follows : (hs : List Home) (k : Kind) → Follows W n (Declare hs k)
  unfolding does StmtIn change give
  declare_follows hs k K w a b μ m σ (row.declare own) sound place inside now =
      declared_comes W (suc n) K w (w.slot + hidden (Declare hs k)) place hs k w a b μ m σ (zeros_show W k) refl sound.1 own now

  -- Statements in order.

  pub sequence_none : SequenceFollows W n NoStmts
  unfolding sequence
  sequence_none K w a b μ m σ row.no_statements sound place inside now = null_row W (suc n) K w.around b μ m σ now

  pub sequence_more : (s : Stmt) (ss : Stmts) → Follows W n s → SequenceFollows W n ss → SequenceFollows W n (AndStmt s ss)
  unfolding sequence on_normal after carry hidden_stmts StmtsIn
  sequence_more s ss follows others K w a b μ m σ (row.and_statement c code more) sound place inside now =
      let low = run_order (stmt_run code) in let high = run_order (stmts_run more) in
      let words = hidden s + hidden_stmts ss in
      let r = does W.program (next W n) s K.meant σ in
      then_row W (suc n) K w.around c b (sequence W.program (next W n) ss K.meant) (promise.here K a [] μ m) r.answer r.state
      (follows K w a c μ m σ code sound.0 (place_first W K w words (hidden s) (omega arith) place) (inside_part W K.ground a b a c (omega arith) high inside) now)
      (λ ν l agrees. others K (beyond (hidden s) w) c b ν l r.state more sound.1
      (place_part W K w words (hidden s) (hidden_stmts ss) (omega arith) place) (inside_part W K.ground a b c b low (omega arith) inside) agrees)

  module _ (expressions : ExpressionsFollow W n) where
    pub perform_follows : (e : Expr) → Follows W n (Perform e)
    unfolding does hidden StmtIn dropped after carry
    perform_follows e K w a b μ m σ (row.perform c code own) sound place inside now =
        let high = in_order own in
        let ks = sound.2 in
        dropped_row W (suc n) K (past e w) (w.slot + hidden_expr e + 0) (place_part W K w (hidden_expr e) (hidden_expr e) 0 (omega arith) place) ks c b (words_of e)
        (promise.here K a [] μ m) (value W.program (next W n) e K.meant σ)
        (expressions.value e K w ks a c [] μ m σ code sound.3 place (inside_part W K.ground a b a c (omega arith) high inside) now)
        (sym (sizes_agree.of_expression K.scope e ks sound.3)) own

    pub if_follows : (e : Expr) (s t : Stmt) → Follows W n s → Follows W n t → Follows W n (If e s t)
    unfolding does hidden StmtIn on_word on_values after carry
    if_follows e s t first other K w a b μ m σ (row.if_else c d elsewhere code then on last) sound place inside now =
        let one = run_order (branch_run code) in let two = run_order (stmt_run then) in let three = run_order (onward_run on) in let four = run_order (stmt_run last) in
        let words = hidden_expr e + hidden s + hidden t in
        let r = value W.program (next W n) e K.meant σ in
        if_row W (suc n) K w (w.slot + words) place w c d elsewhere b (does W.program (next W n) s K.meant) (does W.program (next W n) t K.meant)
        (promise.here K a [] μ m) r
        (expressions.branch e K w false elsewhere a c [] μ m σ code sound.1 (place_first W K w words (hidden_expr e) (omega arith) place)
        (inside_part W K.ground a b a c (omega arith) (omega (arith, two, three, four)) inside) now)
        on
        (λ ν l agrees. first K (beyond (hidden_expr e) w) c d ν l r.state then sound.2 (place_part W K w words (hidden_expr e) (hidden s) (omega arith) place)
        (inside_part W K.ground a b c d one (omega (arith, three, four)) inside) agrees)
        (λ ν l agrees. other K (beyond (hidden_expr e + hidden s) w) elsewhere b ν l r.state last sound.3
        (place_part W K w words (hidden_expr e + hidden s) (hidden t) (omega arith) place)
        (inside_part W K.ground a b elsewhere b (omega (arith, one, two, three)) (omega arith) inside) agrees)

    pub assign_follows : (h : Home) (s : Suffixes) (e : Expr) → Follows W n (Assign h s e)
    unfolding does hidden StmtIn on_value on_values after carry value_then
    assign_follows h s e K w a b μ m σ (row.assign c static_s code own) sound place inside now =
        let j = sound.1 in let k = sound.2 in
        let high = in_order own in
        let words = hidden_suffixes s + hidden_expr e in
        let r = value W.program (next W n) e K.meant σ in
        subst (λ (q : Result). Did W (suc n) K w.around b (promise.here K a [] μ m)
        (value_then (λ p. on_value (value W.program (next W n) e K.meant) (λ v. puts W (suc n) K w (w.slot + words) place h (path_of p) v)) q.answer q.state))
        (sym (static_path W.program (next W n) s K.meant σ static_s))
        (assign_row W (suc n) K w (w.slot + words) place h s j k (words_of e) c b (past e w) (promise.here K a [] μ m) r static_s sound.3 sound.4
        (sizes_agree.of_expression K.scope e (one k) sound.5 ∙ one_words k) refl own
        (expressions.value e K w (one k) a c [] μ m σ code sound.5 (place_first W K w words (hidden_expr e) (omega arith) place)
        (inside_part W K.ground a b a c (omega arith) high inside) now))
    assign_follows h s e K w a b μ m σ (row.assign_element c d f dynamic own code second stored) sound place inside now =
        let j = sound.1 in let k = sound.2 in
        let words = hidden_suffixes s + hidden_expr e in
        let s0 = promise.here K a [] μ m in
        let small = variable_small W K place.code_of h j place.scope_in sound.3 in
        let low = in_order own in let two = run_order (path_run code) in let three = run_order (expr_run second) in let four = in_order stored in
        let g = own_gives W K w (w.slot + words) place (suc n) μ m σ (i.Lit (fields_of s) ∷ []) a c [] (fields_of s ∷ []) [] own
        ((law W K w (w.slot + words) place μ m).number_leaf (fields_of s)) now in
        let s1 = standing K.ground c ((0 + fields_of s) ∷ []) g.frames g.store in
        let r = path W.program (next W n) s K.meant σ in
        let found = expressions.path s K (deeper 1 w) j k c d 0 [] g.frames g.store σ code sound.4 (variable_has_words W K place.code_of h j place.scope_in sound.3) (omega (arith, small))
        (place_first W K w words (hidden_suffixes s) (omega arith) place) (inside_part W K.ground a b c d low (omega (arith, three, four)) inside) g.agrees in
        did_later W (suc n) K w.around b s0 s1 (does W.program (next W n) (Assign h s e) K.meant σ)
        (subst (λ o. Reaches W.image s0 (standing K.ground c (o ∷ []) g.frames g.store)) (omega arith) g.reaches)
        (assign_element_row W (suc n) K w (w.slot + words) place h j k (words_of e) d f b (past e (deeper 1 w)) (value W.program (next W n) e K.meant) s1 r sound.3
        (sizes_agree.of_expression K.scope e (one k) sound.5 ∙ one_words k) refl stored found
        (λ o ν l agrees. expressions.value e K (deeper 1 (beyond (hidden_suffixes s) w)) (one k) d f (o ∷ []) ν l r.state second sound.5
        (place_part W K w words (hidden_suffixes s) (hidden_expr e) (omega arith) place) (inside_part W K.ground a b d f (omega (arith, low, two)) four inside) agrees))

    pub return_follows : (arms first : ℕ) (places : List ℕ) (es : Exprs) → Follows W n (ReturnWith arms first places es)
    unfolding does hidden StmtIn on_values after carry
    return_follows arms first places es K w a b μ m σ (row.return_with c to code leads own) sound place inside now =
        let js = sound.2 in
        let low = run_order (exprs_run code) in let high = in_order own in
        return_row W n K (past_all es w) (w.slot + hidden_exprs es + 0) (place_part W K w (hidden_exprs es) (hidden_exprs es) 0 (omega arith) place)
        places es js arms first c b to (promise.here K a [] μ m) (values W.program (next W n) es K.meant σ) sound.4 sound.5 sound.6 leads own
        (inside_part W K.ground a b c b low (omega arith) inside)
        (expressions.values es K w js a c [] μ m σ code sound.5 place (inside_part W K.ground a b a c (omega arith) high inside) now)

    pub resume_follows : (places : List ℕ) (es : Exprs) → Follows W n (Resume places es)
    unfolding does hidden StmtIn on_values after carry
    resume_follows places es K w a b μ m σ (row.resume c code own) sound place inside now =
        let js = sound.1 in
        let high = in_order own in
        resume_row W n K (past_all es w) (w.slot + hidden_exprs es + 0) (place_part W K w (hidden_exprs es) (hidden_exprs es) 0 (omega arith) place)
        places es js sound.2 c b (promise.here K a [] μ m) (values W.program (next W n) es K.meant σ) sound.3 sound.4 sound.5 sound.6 own
        (expressions.values es K w js a c [] μ m σ code sound.5 place (inside_part W K.ground a b a c (omega arith) high inside) now)
